-- That a line is in form, and that its fields lie where they do, has one proof at most.
use Rattle.std.specs.Prelude.{ℕ, ◌+◌, ◌⊎◌, List, [], ◌∷◌, length}
use Rattle.std.specs.Coded.{×_prop, →_prop, Unit-prop, le_prop, Coded-set, coded_ℕ}
use Rattle.std.proofs.Common.{sym, ap, ◌∙◌, subst, inl, inr, eqb}
use Rattle.std.proofs.Math.Dec.{T}
use Rattle.std.specs.List.{AllByRecursion-prop}
use Rattle.lines.specs.declared.part.Part.{Part}
use Rattle.lines.specs.Entries.{Entry, mark_of, texts, Formed, Laid}
use Rattle.lines.specs.Grammar.{Kind, Number, Pattern, Byte, Plain, FieldOf, Forms, kinds}

one_of : (A B : Type 0) → IsProp A → IsProp B → (A → B → ⊥) → IsProp (A ⊎ B)
one_of A B a b apart (inl x) (inl y) = ap inl (a x y)
one_of A B a b apart (inl x) (inr y) = absurd (apart x y)
one_of A B a b apart (inr x) (inl y) = absurd (apart y x)
one_of A B a b apart (inr x) (inr y) = ap inr (b x y)

byte_single : (k : Kind) (b : ℕ) → IsProp (Byte k b)
byte_single Number b = ×_prop le_prop le_prop
byte_single Pattern b = one_of _ _ (Coded-set coded_ℕ b 48) (Coded-set coded_ℕ b 49) (λ x y. subst (λ n. T (eqb n 48)) (sym x ∙ y) tt)

plain_single : (k : Kind) (f : List ℕ) → IsProp (Plain k f)
plain_single Number f = →_prop (→_prop (λ x y. absurd x))
plain_single Pattern f = Unit-prop

field_single : (k : Kind) (f : List ℕ) → IsProp (FieldOf k f)
field_single k f g h = λ i. record {
  some = le_prop g.some h.some i;
  short = le_prop g.short h.short i;
  bytes = AllByRecursion-prop (Byte k) (byte_single k) f g.bytes h.bytes i;
  plain = plain_single k f g.plain h.plain i;
}

forms_single : (ks : List Kind) (fs : List (List ℕ)) → IsProp (Forms ks fs)
forms_single [] [] = Unit-prop
forms_single [] (f ∷ fs) = λ x y. absurd x
forms_single (k ∷ ks) [] = λ x y. absurd x
forms_single (k ∷ ks) (f ∷ fs) = ×_prop (field_single k f) (forms_single ks fs)

pub formed_single : (e : Entry) → IsProp (Formed e)
formed_single e = forms_single (kinds (mark_of e)) (texts e)

pub laid_single : (at : ℕ) (fs : List Part) → IsProp (Laid at fs)
laid_single at [] = Unit-prop
laid_single at (f ∷ fs) = ×_prop (Coded-set coded_ℕ f.offset (at + 1)) (laid_single (at + 1 + length f.bytes.now) fs)
