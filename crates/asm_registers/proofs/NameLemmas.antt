-- Names for registers in maps and sets.
use Rattle.std.proofs.Common.{◌≡◌, ℕ, Bool, true, false, cond, List, [], ◌∷◌, ◌++◌, Option, Some, None, ◌||◌, ◌-◌, ◌≤◌, length, take, drop, get_or, refl, sym, subst, ap, ◌∙◌}
use Rattle.std.specs.Prelude.{Result, Ok}
use Rattle.std.specs.List.{list_any}
use Rattle.std.proofs.lemmas.List.Folds.{list_any-append}
use Rattle.sdt_fault.specs.declared.kinds.LineKind.{LineKind}
use Rattle.asm_model.specs.declared.statements.Statement.{Statement}
use Rattle.asm_model.specs.Forms.{same}
use Rattle.asm_model.proofs.WordLemmas.{same_true}
use Rattle.asm_model.specs.Labels.{defined_by}
use Rattle.asm_model.specs.Laid.{reversed}
use Rattle.source_model.specs.Registers.{Named, register_in, with_register, register_name, register_names}
use Rattle.asm_sets.specs.Sets.{HaveSame}
use Rattle.std.proofs.Math.Bool.{or_comm}
use Rattle.base_lemmas.proofs.BaseLemmas.{rest_of}

-- ---- registers of names

-- the register of a name, or of one behind it
abbrev or_else : Option ℕ → Option ℕ → Option ℕ
or_else None o = o
or_else (Some n) o = Some n

in_both : (q : List ℕ) (xs ys : List Named) → register_in q (xs ++ ys) ≡ or_else (register_in q xs) (register_in q ys)
in_both q [] ys = refl
in_both q (x ∷ xs) ys = by_test (same x.0 q) (in_both q xs ys)
  where
    by_test : (b : Bool) → register_in q (xs ++ ys) ≡ or_else (register_in q xs) (register_in q ys)
        → cond b (Some x.1) (register_in q (xs ++ ys)) ≡ or_else (cond b (Some x.1) (register_in q xs)) (register_in q ys)
    by_test true h = refl
    by_test false h = h

pub before_more : (q : List ℕ) (xs ys zs : List Named) → register_in q xs ≡ register_in q ys → register_in q (xs ++ zs) ≡ register_in q (ys ++ zs)
before_more q xs ys zs e = in_both q xs zs ∙ ap (λ o. or_else o (register_in q zs)) e ∙ sym (in_both q ys zs)

-- a name that stands for a register keeps it
pub kept : (q name : List ℕ) (known : List Named) (r : Result ℕ LineKind) (n m : ℕ) → r ≡ Ok n → register_in name known ≡ Some m
    → register_in q known ≡ register_in q (known ++ with_register name r)
kept q name known r n m e there =
    rw e (by_register (register_in q known) (same name q) refl (λ t. let h : name ≡ q = same_true name q t in rw (← h) there)
    ∙ sym (in_both q known ((name, n) ∷ [])))
  where
    by_register : (o : Option ℕ) (b : Bool) → same name q ≡ b → (b ≡ true → o ≡ Some m) → o ≡ or_else o (cond (same name q) (Some n) None)
    by_register (Some j) b s h = refl
    by_register None true s h = absurd (let bad : None ≡ Some m = h refl in cc)
    by_register None false s h = rw s refl

-- ---- the names of a source

-- the names of statements of which these are left
pub record IsBetween (statements left : List Statement) (all : List (List ℕ)) : Type 0 where
  pub before : List Statement
  pub whole : reversed left before ≡ reversed statements []
  pub names : HaveSame all (register_names before)

between_more : (statements rest : List Statement) (s : Statement) (old new : List (List ℕ)) → IsBetween statements (s ∷ rest) old
    → HaveSame new (register_name (defined_by s) ++ old) → IsBetween statements rest new
between_more statements rest s old new h more = record {
  before = s ∷ h.before;
  whole = h.whole;
  names = λ q.
      more q ∙ list_any-append (same q) (register_name (defined_by s)) old ∙ ap (λ (b : Bool). list_any (same q) (register_name (defined_by s)) || b)
      (h.names q)
      ∙ or_comm (list_any (same q) (register_name (defined_by s))) (list_any (same q) (register_names h.before))
      ∙ sym (list_any-append (same q) (register_names h.before) (register_name (defined_by s)));
}

pub between_next : (statements left : List Statement) (s : Statement) (old new : List (List ℕ)) → IsBetween statements left old
    → 1 ≤ length left → s ≡ get_or left 0 s → HaveSame new (register_name (defined_by s) ++ old)
    → IsBetween statements (take (length left - 1) (drop 1 left)) new
between_next statements left s old new h some at more =
    between_more statements (take (length left - 1) (drop 1 left)) s old new
    (subst (λ (l : List Statement). IsBetween statements l old) (rest_of left s some at) h) more
