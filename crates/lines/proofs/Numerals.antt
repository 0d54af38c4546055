-- The numbers and the bits that texts write.
use Rattle.std.proofs.Common.{◌≡◌, ℕ, zero, suc, ◌+◌, ◌-◌, ◌*◌, ◌/◌, ◌%◌, ◌^◌, ◌<◌, ◌≤◌, min, List, [], ◌∷◌, ◌++◌, Some, Option, map, length, get_or, take, reverse, fold, sym, refl, ap, ◌∙◌, subst, pow-suc, add-one, one-add, arith, length-append, length-take, take_all, get_or-take, pow_mono}
use Rattle.std.proofs.lemmas.Nat.{shr-shr}
use Rattle.std.proofs.lemmas.Bool.Decides.{nat_tests}
use Rattle.std.proofs.lemmas.Fn.{serves_by}
use Rattle.std.proofs.lemmas.List.{take_min, reverse-append}
use Rattle.std.proofs.lemmas.List.Sums.{fold_push}
use Rattle.std.specs.Int.Digits.{number_from_digits_after}
use Rattle.std.specs.Iterator.{Yields, AlwaysYields, CallableAtEachTurn}
use Rattle.lines.specs.Grammar.{Number, FieldOf}
use Rattle.lines.specs.Values.{decimal, bit, bits, Numbered, Stepped}

-- three digits write less than a thousand
pub decimal_small : (f : List ℕ) → FieldOf Number f → decimal f < 1000
decimal_small [] h = omega arith
decimal_small (a ∷ []) h = omega (arith, h.bytes.0.1)
decimal_small (a ∷ b ∷ []) h = omega (arith, h.bytes.0.1, h.bytes.1.0.1)
decimal_small (a ∷ b ∷ c ∷ []) h = omega (arith, h.bytes.0.1, h.bytes.1.0.1, h.bytes.1.1.0.1)
decimal_small (a ∷ b ∷ c ∷ d ∷ f) h = absurd (omega (arith, h.short))

-- one more digit of a number, held to 16 bits
abbrev pub held : ℕ → ℕ → ℕ
held n b = min (min (n * 10) 65535 + (b - 48)) 65535

-- digits read one at a time, and held to 16 bits each time, are the number held to 16 bits
held_all : (n : ℕ) (f : List ℕ) → fold held (min n 65535) f ≡ min (number_from_digits_after 10 n (map (λ b. b - 48) f)) 65535
held_all n [] = refl
held_all n (b ∷ f) =
    let once : held (min n 65535) b ≡ min (n * 10 + (b - 48)) 65535 = omega arith in
    ap (λ m. fold held m f) once ∙ held_all (n * 10 + (b - 48)) f

pub numbered : (f : List ℕ) (r : ℕ) → r ≡ fold held 0 f → Numbered f r
numbered f r e =
    let any : r ≡ min (decimal f) 65535 = e ∙ held_all 0 f in
    record { any = any; field = λ h. omega (arith, any, decimal_small f h) }

bit_one : (b : ℕ) → b ≡ 49 → bit b ≡ 1
bit_one b e = ap bit e

bit_is : (b : ℕ) → bit b ≡ 1 → b ≡ 49
bit_is b e = grind (arith, nat_tests)

pub bit_le : (b : ℕ) → bit b ≤ 1
bit_le b = grind (arith, nat_tests)

bits_lt : (p : List ℕ) → bits p < 2 ^ length p
bits_lt [] = omega arith
bits_lt (b ∷ p) = rw pow-suc (omega (arith, bit_le b, bits_lt p))

-- the bit at each place is its character's
bits_at : (p : List ℕ) (i : ℕ) → i < length p → bits p / 2 ^ i % 2 ≡ bit (get_or p i 0)
bits_at [] i h = absurd (omega arith)
bits_at (b ∷ p) zero h = omega (arith, bit_le b)
bits_at (b ∷ p) (suc i) h =
    let half : (bit b + 2 * bits p) / 2 ^ 1 ≡ bits p = omega (arith, bit_le b) in
    rw (sym (one-add i), sym (shr-shr (bit b + 2 * bits p) 1 i), half) (bits_at p i (omega arith))

-- one more step ahead
abbrev pub doubled : ℕ → ℕ → ℕ
doubled n b = n * 2 + bit b

-- bits read from the last character to the first
bits_back : (p : List ℕ) → fold doubled 0 (reverse p) ≡ bits p
bits_back [] = refl
bits_back (b ∷ p) =
    let last = ap (fold doubled 0) (reverse-append (b ∷ []) p) ∙ fold_push doubled 0 (reverse p) b in
    omega (arith, last, bits_back p)

-- whatever has come of a list and goes on is shorter than the list
pub comes_within : {S A B : Type 0} (steps : S → Option A → S → Type 0) (v : A → B) (s : S) (all : List B) (xs : List A) (t : S) (x : A) (u : S) → AlwaysYields steps v s all → Yields steps s xs t → steps t (Some x) u → length xs < length all
comes_within steps v s [] [] t x u h y more = absurd (h x u (subst (λ a. steps a (Some x) u) (sym y) more))
comes_within steps v s [] (z ∷ xs) t x u h y more = absurd (h z y.0 y.1)
comes_within steps v s (w ∷ all) [] t x u h y more = omega arith
comes_within steps v s (w ∷ all) (z ∷ xs) t x u h y more =
    omega (arith, comes_within steps v y.0 all xs t x u (h.1 z y.0 y.1).1 y.2 more)

-- 32 characters at most never fill 32 bits before the last
pub doubles : {S A F : Type 0} (steps : S → Option A → S → Type 0) (v : A → ℕ) (R : F × ℕ → A → F × ℕ → Type 0) (Q : F × ℕ → A → Type 0) (s : S) (f : F) (all : List ℕ) → AlwaysYields steps v s all → length all ≤ 32 → ((p q : F × ℕ) (x : A) → R p x q → q.1 ≡ doubled p.1 (v x)) → ((p : F × ℕ) (x : A) → p.1 < 2147483648 → Q p x) → CallableAtEachTurn steps R Q s (f, 0)
doubles steps v R Q s f all from few is asks =
    serves_by R (λ xs q. q.1 < 2 ^ length xs)
    (λ xs q x u below turn.
    let long : length (xs ++ (x ∷ [])) ≡ length xs + 1 = length-append xs (x ∷ []) in
    rw (long, add-one, pow-suc) (omega (arith, is q u x turn, bit_le (v x))))
    steps Q s (f, 0) (omega arith)
    (λ xs t q x u come more below.
    let left = comes_within steps v s all xs t x u from come more in
    let fewer : length xs ≤ 31 = omega arith in
    let least : 2 ^ length xs ≤ 2 ^ 31 = pow_mono fewer in
    asks q x (omega arith))

stepped_all : (p : List ℕ) → Stepped p (bits (take 32 p))
stepped_all p =
    let long = length-take 32 p in
    let most : 2 ^ length (take 32 p) ≤ 2 ^ length p = pow_mono (omega arith) in
    let at : (i : ℕ) → i < 32 → i < length p → bits (take 32 p) / 2 ^ i % 2 ≡ bit (get_or p i 0) = λ i few h. bits_at (take 32 p) i (omega arith) ∙ ap bit (get_or-take 32 p i 0 few) in
    record {
      any = refl;
      field = λ h. ap bits (take_all 32 p h.short);
      below = omega (arith, bits_lt (take 32 p));
      opens = λ i few h e. at i few h ∙ bit_one (get_or p i 0) e;
      shuts = λ i few h e. bit_is (get_or p i 0) (sym (at i few h) ∙ e);
    }

pub stepped : (p : List ℕ) (n r : ℕ) → n ≡ min (length p) 32 → r ≡ fold doubled 0 (reverse (take n p)) → Stepped p r
stepped p n r within e =
    let same : take n p ≡ take 32 p = ap (λ i. take i p) (let e : n ≡ min 32 (length p) = omega arith in e) ∙ take_min 32 p in
    subst (Stepped p) (sym (e ∙ bits_back (take n p) ∙ ap bits same)) (stepped_all p)
