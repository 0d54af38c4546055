-- A pass over the places that writes both words of each, or neither.
use Rattle.std.proofs.Common.{◌≡◌, ℕ, ◌+◌, ◌*◌, ◌<◌, ◌≤◌, ◌≢◌, List, length, get_or, set, sym, ◌∙◌, subst, arith, length-set, get_or-set_other, get_or-set_same}
use native.Mathlib.Decide.{dec_lt}
use Rattle.arena.specs.Game.{Game}

-- the words V after the places below p of W: those of a place k are as D says, and the others as they were
pub record Sweep (g : Game) (D : ℕ → ℕ → ℕ → Type 0) (p : ℕ) (W V : List ℕ) : Type 0 where
  pub long : length V ≡ length W
  pub done : (k : ℕ) → k < p → D k (get_or V k 0) (get_or V (g.size + k) 0)
  pub ahead_marks : (k : ℕ) → p ≤ k → k < g.size → get_or V k 0 ≡ get_or W k 0
  pub ahead_moves : (k : ℕ) → p ≤ k → k < g.size → get_or V (g.size + k) 0 ≡ get_or W (g.size + k) 0

pub two_sets : (V : List ℕ) (a b x y k : ℕ) → k ≢ a → k ≢ b → get_or (set (set V a x) b y) k 0 ≡ get_or V k 0
two_sets V a b x y k n m = get_or-set_other (set V a x) b k y 0 m ∙ get_or-set_other V a k x 0 n

pub two_first : (V : List ℕ) (a b x y : ℕ) → a < length V → a ≢ b → get_or (set (set V a x) b y) a 0 ≡ x
two_first V a b x y l m = get_or-set_other (set V a x) b a y 0 m ∙ get_or-set_same V a x 0 l

pub two_second : (V : List ℕ) (a b x y : ℕ) → b < length V → get_or (set (set V a x) b y) b 0 ≡ y
two_second V a b x y l = get_or-set_same (set V a x) b y 0 (simp length-set l)

module _ (g : Game) (D : ℕ → ℕ → ℕ → Type 0) (p : ℕ) (lt : p < g.size) (W V : List ℕ) (sweep : Sweep g D p W V) where
  -- the words of the place stay
  pub sweep_keep : D p (get_or W p 0) (get_or W (g.size + p) 0) → Sweep g D (p + 1) W V
  sweep_keep here =
      let a : get_or V p 0 ≡ get_or W p 0 = sweep.ahead_marks p (omega arith) lt in
      let b : get_or V (g.size + p) 0 ≡ get_or W (g.size + p) 0 = sweep.ahead_moves p (omega arith) lt in
      let d : D p (get_or V p 0) (get_or V (g.size + p) 0) = subst (λ (x : ℕ). D p x (get_or V (g.size + p) 0)) (sym a) (subst (λ (y : ℕ). D p (get_or W p 0) y) (sym b) here) in
      record {
        long = sweep.long;
        done = λ k l. elim (dec_lt k p) [
          | yes y ↦ sweep.done k y
          | no z ↦ let e : p ≡ k = omega arith in subst (λ (x : ℕ). D x (get_or V x 0) (get_or V (g.size + x) 0)) e d
        ];
        ahead_marks = λ k h l. sweep.ahead_marks k (omega arith) l;
        ahead_moves = λ k h l. sweep.ahead_moves k (omega arith) l;
      }

  -- both words of the place are written
  pub sweep_set : length W ≡ 2 * g.size → (x y : ℕ) → D p x y → Sweep g D (p + 1) W (set (set V p x) (g.size + p) y)
  sweep_set fits x y d =
      let U : List ℕ = set (set V p x) (g.size + p) y in
      let lv : length V ≡ 2 * g.size = sweep.long ∙ fits in
      let same : (k : ℕ) → k ≢ p → k ≢ g.size + p → get_or U k 0 ≡ get_or V k 0 = λ k n m. two_sets V p (g.size + p) x y k n m in
      let here : get_or U p 0 ≡ x = two_first V p (g.size + p) x y (omega arith) (omega arith) in
      let there : get_or U (g.size + p) 0 ≡ y = two_second V p (g.size + p) x y (omega arith) in
      let dp : D p (get_or U p 0) (get_or U (g.size + p) 0) = subst (λ (a : ℕ). D p a (get_or U (g.size + p) 0)) (sym here) (subst (λ (a : ℕ). D p x a) (sym there) d) in
      record {
        long = simp length-set sweep.long;
        done = λ k l. elim (dec_lt k p) [
          | yes z ↦
              let a : get_or U k 0 ≡ get_or V k 0 = same k (omega arith) (omega arith) in
              let b : get_or U (g.size + k) 0 ≡ get_or V (g.size + k) 0 = same (g.size + k) (omega arith) (omega arith) in
              subst (λ (u : ℕ). D k u (get_or U (g.size + k) 0)) (sym a) (subst (λ (v : ℕ). D k (get_or V k 0) v) (sym b) (sweep.done k z))
          | no z ↦ let e : p ≡ k = omega arith in subst (λ (a : ℕ). D a (get_or U a 0) (get_or U (g.size + a) 0)) e dp
        ];
        ahead_marks = λ k h l. same k (omega arith) (omega arith) ∙ sweep.ahead_marks k (omega arith) l;
        ahead_moves = λ k h l. same (g.size + k) (omega arith) (omega arith) ∙ sweep.ahead_moves k (omega arith) l;
      }

pub sweep_at : {g : Game} {D : ℕ → ℕ → ℕ → Type 0} {p : ℕ} {W V V' : List ℕ} → V' ≡ V → Sweep g D p W V → Sweep g D p W V'
sweep_at {g = g} {D = D} {p = p} {W = W} a t = subst (λ (x : List ℕ). Sweep g D p W x) (sym a) t
