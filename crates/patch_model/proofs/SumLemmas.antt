-- Sums of what directives add and take away.
use Rattle.std.proofs.Common.{◌≡◌, ◌≢◌, ◌++◌, cond, eq-eqb, ne_eqb, Some, slice_get, suc, ℕ, ◌+◌, ◌*◌, ◌^◌, ◌<◌, Bool, true, false, List, [], ◌∷◌, refl, ap, arith}
use Rattle.sdt_word.specs.Numbers.{flag}
use Rattle.aof_object.specs.declared.records.Reloc.{Reloc}
use Rattle.patch_model.specs.Fields.{Kind, Byte, Half, Word, Branch, Field, Values, field_of, kind_of, is_same_kind, is_field, directives, is_relative, value_named, mark_of, added, taken}
use Rattle.patch_model.specs.Patched.{total}
use Rattle.patch_model.specs.Laws.{DirectiveLaw}

none : (old : ℕ) → old < 2 ^ 32 → total old 0 0 ≡ old
none old h = omega arith

pub one : (values : Values) (base : ℕ) (r : Reloc)
    → (added values (r ∷ []) ≡ value_named values r + mark_of values r) × (taken base (r ∷ []) ≡ base * flag (is_relative r))
one values base r = (bare (value_named values r + mark_of values r), bare (base * flag (is_relative r)))
  where
    bare : (n : ℕ) → n + 0 ≡ n
    bare n = omega arith

joined : (f : Field) (xs ys : List Reloc) → directives (xs ++ ys) f ≡ directives xs f ++ directives ys f
joined f [] ys = refl
joined f (x ∷ xs) ys = by_test (is_field f x) (joined f xs ys)
  where
    by_test : (b : Bool) → directives (xs ++ ys) f ≡ directives xs f ++ directives ys f
        → cond b (x ∷ directives (xs ++ ys) f) (directives (xs ++ ys) f) ≡ cond b (x ∷ directives xs f) (directives xs f) ++ directives ys f
    by_test true h = ap (λ l. x ∷ l) h
    by_test false h = h

apart : (f : Field) (r : Reloc) → (field_of r).place ≢ f.place → is_field f r ≡ false
apart f r h = rw (ne_eqb (field_of r).place f.place h) refl

none_of : (f : Field) (xs : List Reloc) → ((k : ℕ) (r : Reloc) → slice_get xs k ≡ Some r → (field_of r).place ≢ f.place) → directives xs f ≡ []
none_of f [] h = refl
none_of f (x ∷ xs) h = rw (apart f x (h 0 x refl)) (none_of f xs (λ k r e. h (suc k) r e))

same_kind : (k : Kind) → is_same_kind k k ≡ true
same_kind Byte = refl
same_kind Half = refl
same_kind Word = refl
same_kind (Branch true) = refl
same_kind (Branch false) = refl

pub is_own : (r : Reloc) → is_field (field_of r) r ≡ true
is_own r = rw (eq-eqb (field_of r).place (field_of r).place refl, same_kind (kind_of r)) refl

own : (r : Reloc) → directives (r ∷ []) (field_of r) ≡ r ∷ []
own r = ap (λ b. cond b (r ∷ []) []) (is_own r)

pub directive_law : DirectiveLaw
directive_law = record { joined = joined; none = none_of; own = own }
