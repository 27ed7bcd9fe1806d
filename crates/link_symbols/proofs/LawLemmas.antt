-- The laws of the tables.
use Rattle.std.proofs.Common.{◌≡◌, ◌⊎◌, inl, inr, ℕ, zero, suc, ◌+◌, ◌%◌, Bool, true, false, cond, List, [], ◌∷◌, ◌++◌, map, Some, refl, sym, ap, ◌∙◌, append_assoc, arith}
use Rattle.std.proofs.lemmas.Bool.Decides.{nat_tests}
use Rattle.std.specs.Prelude.{◌==◌, slice_get}
use Rattle.std.specs.List.{flat_map}
use Rattle.aof_object.specs.declared.records.Object.{Object}
use Rattle.aof_object.specs.declared.records.Symbol.{Symbol}
use Rattle.aof_object.specs.Flags.{is_definition}
use Rattle.elf_image.specs.declared.tables.ElfSymbol.{ElfSymbol}
use Rattle.link_model.specs.declared.placing.Placement.{Placement}
use Rattle.link_model.specs.Meaning.{symbol_of}
use Rattle.patch_model.specs.Fields.{Meant}
use Rattle.link_symbols.specs.declared.labels.Listed.{Listed}
use Rattle.link_symbols.specs.declared.labels.Listed.TheVariants.{Marks, Locals, Exported}
use Rattle.link_symbols.specs.Laws.{DefinitionsLaw}
use Rattle.link_symbols.specs.Shown.{Shown, shown_of}
use Rattle.link_symbols.specs.Marks.{boot_marks, veneer_marks}
use Rattle.link_symbols.specs.Symbols.{areas_from, definition, global_symbols, listed, listed_from, listed_in, local_symbols, region_symbol, scoped, symbols_by}
use Rattle.link_model.specs.RegionValues.{numbers_by}

-- ---- a symbol among others

pub record Within (xs : List ElfSymbol) (e : ElfSymbol) : Type 0 where
  pub before : List ElfSymbol
  pub after : List ElfSymbol
  pub there : xs ≡ before ++ e ∷ after

on_left : (xs ys : List ElfSymbol) (e : ElfSymbol) → Within xs e → Within (xs ++ ys) e
on_left xs ys e h = record {
  before = h.before;
  after = h.after ++ ys;
  there = ap (λ l. l ++ ys) h.there ∙ append_assoc h.before (e ∷ h.after) ys;
}

on_right : (xs ys : List ElfSymbol) (e : ElfSymbol) → Within ys e → Within (xs ++ ys) e
on_right xs ys e h = record {
  before = xs ++ h.before;
  after = h.after;
  there = ap (λ l. xs ++ l) h.there ∙ sym (append_assoc xs h.before (e ∷ h.after));
}

alone : (xs : List ElfSymbol) (e : ElfSymbol) → xs ≡ e ∷ [] → Within xs e
alone xs e h = record { before = []; after = []; there = h }

-- ---- a definition in its list

in_object : (w : Shown) (which : Listed) (object n k : ℕ) (symbols : List Symbol) (s : Symbol) (e : ElfSymbol)
    → slice_get symbols k ≡ Some s → listed w which s (w.value object (n + k)) ≡ e ∷ [] → Within (listed_in w which object n symbols) e
in_object w which object n k [] s e there is = absurd (cc)
in_object w which object n zero (x ∷ symbols) s e there is =
    let same : x ≡ s = cc in
    let at : n ≡ n + 0 = omega arith in
    on_left (listed w which x (w.value object n)) (listed_in w which object (suc n) symbols) e
    (alone (listed w which x (w.value object n)) e ((λ i. listed w which (same i) (w.value object (at i))) ∙ is))
in_object w which object n (suc k) (x ∷ symbols) s e there is =
    let at : suc n + k ≡ n + suc k = omega arith in
    on_right (listed w which x (w.value object n)) (listed_in w which object (suc n) symbols) e
    (in_object w which object (suc n) k symbols s e there (ap (λ (m : ℕ). listed w which s (w.value object m)) at ∙ is))

in_objects : (w : Shown) (which : Listed) (n object k : ℕ) (os : List Object) (s : Symbol) (e : ElfSymbol)
    → symbol_of os object k ≡ Some s → listed w which s (w.value (n + object) k) ≡ e ∷ [] → Within (listed_from w which n os) e
in_objects w which n object k [] s e there is = absurd (cc)
in_objects w which n zero k (o ∷ os) s e there is =
    let at : n ≡ n + 0 = omega arith in
    let own : 0 + k ≡ k = omega arith in
    on_left (listed_in w which n 0 o.symbols) (listed_from w which (suc n) os) e
    (in_object w which n 0 k o.symbols s e there ((λ i. listed w which s (w.value (at i) (own i))) ∙ is))
in_objects w which n (suc object) k (o ∷ os) s e there is =
    let at : suc n + object ≡ n + suc object = omega arith in
    on_right (listed_in w which n 0 o.symbols) (listed_from w which (suc n) os) e
    (in_objects w which (suc n) object k os s e there (ap (λ (m : ℕ). listed w which s (w.value m k)) at ∙ is))

-- ---- a local definition, or an exported one

scope_by : (a : ℕ) (b : Bool) → (a % 4 == 1) ≡ b → is_definition a ≡ true → ((a % 4 == 1) ≡ true) ⊎ ((a % 4 == 3) ≡ true)
scope_by a true e h = inl e
scope_by a false e h = inr (three a e h)
  where
    three : (a : ℕ) → (a % 4 == 1) ≡ false → is_definition a ≡ true → (a % 4 == 3) ≡ true
    three a e h = grind (arith, nat_tests)

scope_of : (a : ℕ) → is_definition a ≡ true → ((a % 4 == 1) ≡ true) ⊎ ((a % 4 == 3) ≡ true)
scope_of a h = scope_by a (a % 4 == 1) refl h

scoped_is : (w : Shown) (scope : ℕ) (s : Symbol) (m : Meant) → (s.attributes % 4 == scope) ≡ true → scoped w scope s m ≡ definition w s m ∷ []
scoped_is w scope s m h = ap (λ (b : Bool). cond b (definition w s m ∷ []) []) h

from_zero : (w : Shown) (which : Listed) (object k : ℕ) (s : Symbol) → listed w which s (w.value (0 + object) k) ≡ listed w which s (w.value object k)
from_zero w which object k s = let e : 0 + object ≡ object = omega arith in ap (λ (m : ℕ). listed w which s (w.value m k)) e

local_within : (w : Shown) (p : Placement) (e : ElfSymbol) → Within (listed_from w Locals 0 w.objects) e → Within (symbols_by w p) e
local_within w p e h =
    let marks = listed_from w Marks 0 w.objects in
    let locals = listed_from w Locals 0 w.objects in
    let boots = boot_marks w.sections p.boot in
    let veneers = flat_map (veneer_marks w.sections) p.veneers in
    on_left (local_symbols w p) (global_symbols w p) e
    (on_right (areas_from w 0 w.objects) (veneers ++ (boots ++ (marks ++ locals))) e
    (on_right veneers (boots ++ (marks ++ locals)) e (on_right boots (marks ++ locals) e (on_right marks locals e h))))

exported_within : (w : Shown) (p : Placement) (e : ElfSymbol) → Within (listed_from w Exported 0 w.objects) e → Within (symbols_by w p) e
exported_within w p e h =
    on_right (local_symbols w p) (global_symbols w p) e
    (on_left (listed_from w Exported 0 w.objects) (map region_symbol (numbers_by p.boot p.regions)) e h)

within : (w : Shown) (p : Placement) (object k : ℕ) (s : Symbol) → symbol_of w.objects object k ≡ Some s
    → ((s.attributes % 4 == 1) ≡ true) ⊎ ((s.attributes % 4 == 3) ≡ true) → Within (symbols_by w p) (definition w s (w.value object k))
within w p object k s there (inl h) =
    local_within w p (definition w s (w.value object k))
    (in_objects w Locals 0 object k w.objects s (definition w s (w.value object k)) there (from_zero w Locals object k s ∙ scoped_is w 1 s (w.value object k) h))
within w p object k s there (inr h) =
    exported_within w p (definition w s (w.value object k))
    (in_objects w Exported 0 object k w.objects s (definition w s (w.value object k)) there (from_zero w Exported object k s ∙ scoped_is w 3 s (w.value object k) h))

pub definitions_law : DefinitionsLaw
definitions_law l p loads object k s there defined =
    let w = shown_of l p loads in
    let h = within w p object k s there (scope_of s.attributes defined) in
    record {
      symbol = definition w s (w.value object k);
      before = h.before;
      after = h.after;
      there = h.there;
      name = refl;
      value = refl;
      binding = refl;
    }
