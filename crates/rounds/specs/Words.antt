-- The words of a table, a mark and a move word for each place, and what a begin, a round, a finish and an abandoning make of them.
use Rattle.std.specs.Prelude.{◌≡◌, ℕ, zero, suc, ◌+◌, ◌-◌, ◌/◌, ◌<◌, cond, ◌⊎◌, List, ◌++◌, replicate, ◌==◌, ◌≢◌, nat_lt}
use Rattle.arena.specs.declared.player.Player.{Player}
use Rattle.arena.specs.declared.player.Player.TheVariants.{Pursuer, Runner}
use Rattle.arena.specs.Game.{Game, Rules, degree, move}
use Rattle.arena.specs.Levels.{Grows}
pub use Rattle.arena.specs.Tables.{marks_of, moves_of}
use Rattle.marks.specs.Marks.{blank, never, none}
use Rattle.marks.specs.Picks.{Order, Least, Greatest, NoWorse}

-- the pursuer wants the least mark, the runner the greatest
abbrev pub order_of : Player → Order
order_of Pursuer = Least
order_of Runner = Greatest

-- j is the first of the positions below n at which f is best, and none if there is no position
pub record FirstPosition (order : Order) (f : ℕ → ℕ) (n j : ℕ) : Type 0 where
  pub empty : n ≡ 0 → j ≡ none
  pub within : 0 < n → j < n
  pub best : (k : ℕ) → k < n → NoWorse order (f j) (f k)
  pub earliest : j < n → (k : ℕ) → k < j → f k ≢ f j

-- j is the move word of p by the marks μ: the first position with the least or the greatest mark
abbrev pub Best : Rules → (ℕ → ℕ) → ℕ → ℕ → Type 0
Best R μ p j = FirstPosition (order_of (R.owner p)) (λ k. μ (move R p k)) (degree R p) j

-- the runner's and the pursuer's place p is to be marked in round i: some move of the pursuer, or each of the runner, leads to a mark below i
abbrev pub Ready : Rules → ℕ → List ℕ → ℕ → Type 0
Ready R i W p = Grows R (λ q. marks_of W q < i) p

-- x and y are the words of p after a begin
abbrev pub BeginWords : Game → ℕ → ℕ → ℕ → Type 0
BeginWords g p x y = (x ≡ cond (g.rules.capture p) 0 blank) × (y ≡ none)

-- x and y are the words of p after round i: a blank place that is ready has the mark i and its move word, any other both words as before
abbrev pub RoundWords : Game → ℕ → List ℕ → ℕ → ℕ → ℕ → Type 0
RoundWords g i W p x y =
    ((marks_of W p ≡ blank) × Ready g.rules i W p × (x ≡ i) × Best g.rules (marks_of W) p y) ⊎
    ((marks_of W p ≡ blank → Ready g.rules i W p → ⊥) × (x ≡ marks_of W p) × (y ≡ moves_of g W p))

-- the marks as a finish leaves them: one below blank stands, any other is never
abbrev pub closed_marks : List ℕ → ℕ → ℕ
closed_marks W p = cond (nat_lt (marks_of W p) blank) (marks_of W p) never

-- x and y are the words of p after a finish: a blank place has never and its move word, any other both words as before
abbrev pub FinishWords : Game → List ℕ → ℕ → ℕ → ℕ → Type 0
FinishWords g W p x y =
    ((marks_of W p ≡ blank) × (x ≡ never) × Best g.rules (closed_marks W) p y) ⊎
    ((marks_of W p ≢ blank) × (x ≡ marks_of W p) × (y ≡ moves_of g W p))

-- the words V of each place are as D says
abbrev pub Each : Game → (ℕ → ℕ → ℕ → Type 0) → List ℕ → Type 0
Each g D V = (p : ℕ) → p < g.size → D p (marks_of V p) (moves_of g V p)

-- a begin makes V
abbrev pub Begun : Game → List ℕ → Type 0
Begun g V = Each g (BeginWords g) V

-- round i turns W to V
abbrev pub Rounded : Game → ℕ → List ℕ → List ℕ → Type 0
Rounded g i W V = Each g (RoundWords g i W) V

-- a finish turns W to V
abbrev pub Finished : Game → List ℕ → List ℕ → Type 0
Finished g W V = Each g (FinishWords g W) V

-- the number of a round stays below blank
abbrev pub last_round : ℕ
last_round = 4294967293

-- how many of the first n marks are blank
abbrev pub blanks : ℕ → List ℕ → ℕ
blanks zero W = 0
blanks (suc n) W = cond (marks_of W n == blank) 1 0 + blanks n W

-- how many moves the blank places among the first n have
abbrev pub looks_of : Rules → ℕ → List ℕ → ℕ
looks_of R zero W = 0
looks_of R (suc n) W = cond (marks_of W n == blank) (degree R n) 0 + looks_of R n W

-- a table of m words with nothing in it: the first half blank marks, the rest no moves
abbrev pub fresh : ℕ → List ℕ
fresh m = replicate (m / 2) blank ++ replicate (m - m / 2) none
