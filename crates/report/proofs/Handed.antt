-- What is known of a result by what is told of it.
use Rattle.std.proofs.Common.{◌≡◌, Ok, Err, Result, MatchResult, IsErrAnd, sym, ap, ◌∙◌, subst}

-- an error
pub of_error : {T E : Type 0} (Good : T → Type 0) (Bad : E → Type 0) (r : Result T E) (e : E) → r ≡ Err e → MatchResult r Good Bad → Bad e
of_error Good Bad r e is told = subst (λ x. MatchResult x Good Bad) is told

abbrev value : {T E : Type 0} → T → Result T E → T
value t (Ok x) = x
value t (Err e) = t

-- a value, where the error was mapped
pub of_value : {T E D : Type 0} (Good : T → Type 0) (Bad : E → Type 0) (Mapped : E → D → Type 0) (r : Result T E) (s : Result T D) (x : T) → s ≡ Ok x
    → MatchResult r (λ y. s ≡ Ok y) (λ e. IsErrAnd s (Mapped e)) → MatchResult r Good Bad → Good x
of_value Good Bad Mapped (Ok y) s x is mapped told = subst Good (ap (value x) (sym mapped ∙ is)) told
of_value Good Bad Mapped (Err e) s x is mapped told = absurd (subst (λ z. IsErrAnd z (Mapped e)) is mapped)
