-- What a row of marks comes to under a joining.
use Rattle.std.specs.Prelude.{◌≡◌, ℕ, ◌+◌, ◌%◌, ◌^◌, List, [], ◌∷◌, ◌++◌, length}
use Rattle.joining.specs.Meaning.{Meaning}

-- The fold: each mark counts at its own position, and positions go on from `first` modulo 2 ^ 64.
abbrev pub folded : {J : Type 0} → Meaning J → ℕ → List ℕ → J
folded meaning first [] = meaning.neutral
folded meaning first (mark ∷ marks) =
    meaning.joined (meaning.single mark (first % 2 ^ 64)) (folded meaning (first + 1) marks)

-- The law of the cut: the fold of every row, cut anywhere, is the join of both folds, the second begun at the cut's position.
abbrev pub Cut : {J : Type 0} → Meaning J → Type 0
Cut meaning =
    (first : ℕ) (front back : List ℕ) →
    folded meaning first (front ++ back) ≡
    meaning.joined (folded meaning first front) (folded meaning ((first + length front) % 2 ^ 64) back)
