-- A line more.
use Rattle.std.proofs.Common.{◌≡◌, ◌≤◌, ℕ, ◌+◌, ◌||◌, Bool, true, false, not, cond, List, [], ◌∷◌, ◌++◌, length, Option, Some, None, Result, Ok, Err, refl, sym, ap, ◌∙◌, subst, arith, length-append}
use Rattle.std.specs.Prelude.{nat_lt}
use Rattle.std.specs.List.{list_any}
use Rattle.sdt_fault.specs.declared.kinds.LineKind.{LineKind}
use Rattle.sdt_fault.specs.declared.kinds.LineKind.TheVariants.{BadOperand}
use Rattle.asm_checks.specs.Starts.{IsSmall, IsAligned}
use Rattle.asm_checks.specs.Areas.{IsExponent}
use Rattle.asm_checks.specs.Checked.{checked_kinds, IsCircular}
use Rattle.asm_laying.specs.Reading.{said_number}
use Rattle.asm_registers.specs.Giving.{IsGiven}
use Rattle.asm_model.specs.declared.directives.DirectiveLine.{DirectiveLine}
use Rattle.asm_model.specs.declared.directives.DirectiveLine.TheVariants as line
use Rattle.asm_model.specs.declared.directives.RnOperand.TheVariants as rn
use Rattle.asm_model.specs.declared.names.LaidName.{LaidName}
use Rattle.asm_model.specs.declared.statements.Statement.{Statement}
use Rattle.asm_model.specs.declared.statements.What.{What}
use Rattle.asm_model.specs.declared.statements.What.TheVariants as what
use Rattle.asm_model.specs.FaultSets.{first_told}
use Rattle.asm_model.specs.Kinds.{told_kind, kind_if}
use Rattle.asm_model.specs.Labels.{Defined, Unnamed, Label, Equal, MapField, RegisterName, defined_by}
use Rattle.asm_model.specs.Laid.{LaidLine, laid_behind, statements_of}
use Rattle.asm_model.specs.LayoutKinds.{exponent, exponent_kinds, area_kinds, no_area_kinds, contents_kinds, contents_behind, name_kinds, settled_kinds, state_kinds, in_thumb_area, is_named_otherwise, names_behind, first_equal, told_at}
use Rattle.asm_model.specs.OwnKinds.{own_kinds}
use Rattle.std.specs.Global.{Vec}
use Rattle.sdt_fault.specs.declared.answer.Fault.{Fault}
use Rattle.asm_checks.specs.declared.starts.AreaStart.{AreaStart}
use Rattle.asm_checks.specs.Starts.{AreStarts, IsLineOf}
use Rattle.asm_checks.specs.declared.checks.Checks.{Checks}
use Rattle.asm_checks.specs.Checked.{IsChecked}
use Rattle.asm_laying.specs.declared.laying.Laying.{Laying}
use Rattle.asm_laying.specs.Laying.{IsLaying, IsLaid, IsPlaced, told_of}
use Rattle.asm_laying.specs.declared.laying.LaidStatement.{LaidStatement}
use Rattle.asm_registers.specs.declared.registers.Registers.{Registers}
use Rattle.asm_registers.specs.Kept.{AreRegisters}
use Rattle.asm_model.specs.Forms.{same}
use Rattle.source_model.specs.Registers.{register_kinds}
use Rattle.asm_layout.specs.declared.walking.CheckedLine.{CheckedLine}
use Rattle.asm_layout.specs.declared.walking.Walk.{Walk}
use Rattle.asm_layout.specs.Layout.{AreStatements, IsTold}
use Rattle.asm_layout.specs.Outline.{circle_of}
use Rattle.asm_layout.specs.Walking.{IsMark, HasMark, IsCounted, one_more, or_false, IsWalking, IsCheckedLine, Keeps, told_by}
use Rattle.asm_layout.proofs.ToldLemmas.{none_first, none_parts, told_parts}

-- ---- how many lines there are

pub lines_long : (before : List LaidLine) (xs : List LaidStatement) → AreStatements before xs → length xs ≡ length before
lines_long [] xs h = ap length h
lines_long (l ∷ before) xs h = ap length h.2 ∙ length-append h.0 (h.1 ∷ []) ∙ ap (λ (n : ℕ). n + 1) (lines_long before h.0 h.4) ∙ omega arith

-- ---- the number that checks ask for

pub record AreNumbers (w : What) (l : LaidLine) (x : Result ℕ LineKind) : Type 0 where
  pub exponent_is : IsExponent l.seen w x
  pub given_is : IsGiven l.seen w x

directive_numbers : (d : DirectiveLine) (l : LaidLine) (x : Result ℕ LineKind) → x ≡ said_number l.seen (what.Directive d) → AreNumbers (what.Directive d) l x
directive_numbers (line.Area name a) l x e = record { exponent_is = e; given_is = tt }
directive_numbers (line.Rn (rn.Register n)) l x e = record { exponent_is = tt; given_is = tt }
directive_numbers (line.Rn (rn.Number n)) l x e = record { exponent_is = tt; given_is = e }
directive_numbers d l x e = record { exponent_is = tt; given_is = tt }

pub numbers : (w : What) (l : LaidLine) (x : Result ℕ LineKind) → x ≡ said_number l.seen w → AreNumbers w l x
numbers (what.Directive d) l x e = directive_numbers d l x e
numbers w l x e = record { exponent_is = tt; given_is = tt }

-- ---- an exponent that is no fault

exponent_small : (x : Result ℕ LineKind) → told_kind (exponent_kinds x) ≡ None → IsSmall x
exponent_small (Err k) e = absurd (cc)
exponent_small (Ok n) e = by_test (nat_lt n 2 || nat_lt 16 n) refl e
  where
    by_test : (b : Bool) → (nat_lt n 2 || nat_lt 16 n) ≡ b → told_kind (kind_if b BadOperand) ≡ None → n ≤ 16
    by_test true t e = absurd (cc)
    by_test false t e = grind arith

-- nothing is told of an AREA's attributes
area_part : (w : What) (settled : List (List ℕ)) (all : List Statement) (l : LaidLine) (before : List LaidLine) → l.statement.what ≡ w
    → told_kind (checked_kinds settled all l before) ≡ None
    → told_kind (area_kinds l.seen w before) ≡ None
area_part w settled all l before is none =
    let here = no_area_kinds l.area (defined_by l.statement) l.statement.what
    ++ contents_kinds (contents_behind (l.statement ∷ statements_of before)) l.thumb l.statement.what in
    let areas = area_kinds l.seen l.statement.what before in
    let names = name_kinds l.statement (statements_of before) in
    let last = settled_kinds settled (first_equal (defined_by l.statement) (statements_of before)) in
    let state = state_kinds l.area l.thumb l.statement.what all in
    let own = own_kinds l.statement in
    let most = none_parts (here ++ areas ++ names ++ last) state (none_parts (here ++ areas ++ names ++ last ++ state) own none).0 in
    let part = none_parts (here ++ areas) names (none_parts (here ++ areas ++ names) last most.0).0 in
    subst (λ (v : What). told_kind (area_kinds l.seen v before) ≡ None) is (none_parts here areas part.0).1

directive_aligned : (d : DirectiveLine) (l : LaidLine) (before : List LaidLine) (settled : List (List ℕ)) (all : List Statement) (x : Result ℕ LineKind)
    → l.statement.what ≡ what.Directive d
    → IsExponent l.seen (what.Directive d) x → told_kind (checked_kinds settled all l before) ≡ None → IsAligned (what.Directive d) x l
directive_aligned (line.Area name a) l before settled all x w e none =
    let parts = area_part (what.Directive (line.Area name a)) settled all l before w none in (
      e,
      exponent_small x (subst (λ (y : Result ℕ LineKind). told_kind (exponent_kinds y) ≡ None) (sym e)
          (none_parts (exponent_kinds (exponent l.seen a.alignments)) (kind_if (is_named_otherwise name l.seen a before) BadOperand) parts).0),
    )
directive_aligned d l before settled all x w e none = tt

pub aligned : (v : What) (l : LaidLine) (before : List LaidLine) (settled : List (List ℕ)) (all : List Statement) (x : Result ℕ LineKind) → l.statement.what ≡ v
    → IsExponent l.seen v x → told_kind (checked_kinds settled all l before) ≡ None → IsAligned v x l
aligned (what.Directive d) l before settled all x w e none = directive_aligned d l before settled all x w e none
aligned v l before settled all x w e none = tt

-- ---- the mark of a name for an expression

pub mark_is : (settled : List (List ℕ)) (marks : List Bool) (n : ℕ) (x : Defined) (before : List Statement) (b : Bool) → IsMark marks n x b
    → HasMark marks n (circle_of settled x before) → IsCircular settled (first_equal x before) b
mark_is settled marks n (Equal name e) before b h k = by_test (list_any (same name) (names_behind before)) (h ∙ ap or_false k)
  where
    by_test : (t : Bool) → b ≡ cond t false (not (list_any (same name) settled)) → IsCircular settled (cond t [] ((name, e) ∷ [])) b
    by_test true is = is
    by_test false is = is
mark_is settled marks n Unnamed before b h k = h
mark_is settled marks n (Label name) before b h k = h
mark_is settled marks n (MapField name) before b h k = h
mark_is settled marks n (RegisterName name r) before b h k = h

-- how many marks there are with a line more
pub count_is : (settled : List (List ℕ)) (marks : List Bool) (n m : ℕ) (x : Defined) (before : List Statement) → IsCounted marks n x m
    → HasMark marks n (circle_of settled x before) → m ≡ n + length (circle_of settled x before)
count_is settled marks n m (Equal name e) before h k = h ∙ ap (λ o. one_more o n) k
count_is settled marks n m Unnamed before h k = h ∙ omega arith
count_is settled marks n m (Label name) before h k = h ∙ omega arith
count_is settled marks n m (MapField name) before h k = h ∙ omega arith
count_is settled marks n m (RegisterName name r) before h k = h ∙ omega arith

-- ---- what is told of a checked line

pub checked_told : (d : List LaidName) (names settled : List (List ℕ)) (all : List Statement) (l : LaidLine) (before : List LaidLine) (old new : Walk)
    (j : CheckedLine)
    → IsCheckedLine d names settled all l before old new j → told_by names settled all l before ≡ first_told (told_of l) j.found
checked_told d names settled all l before old new j h = told_parts names settled all l before ∙ ap (first_told (told_of l)) (sym h.told)

pub err_told : (d : List LaidName) (l : LaidLine) (before : List LaidLine) (state : Laying) (r : Result LaidStatement LineKind) (k : LineKind) → r ≡ Err k
    → IsPlaced d l before state r
    → told_of l ≡ Some k
err_told d l before state r k e h = subst (λ (x : Result LaidStatement LineKind). IsPlaced d l before state x) e h

pub ok_laid : (d : List LaidName) (l : LaidLine) (before : List LaidLine) (state : Laying) (r : Result LaidStatement LineKind) (p : LaidStatement)
    → r ≡ Ok p → IsPlaced d l before state r
    → IsLaid d l before state p
ok_laid d l before state r p e h = subst (λ (x : Result LaidStatement LineKind). IsPlaced d l before state x) e h

pub tells : (s : Statement) (o : Option LineKind) (k : LineKind) (f : Fault) → o ≡ Some k → IsTold (Some (s, k)) f → IsTold (told_at s o) f
tells s o k f e h = subst (λ (x : Option LineKind). IsTold (told_at s x) f) (sym e) h

-- ---- a line is kept

pub keep_line : (d : List LaidName) (names settled : List (List ℕ)) (all : List Statement) (s : Statement) (before : List LaidLine) (old mid new : Walk)
    (j : CheckedLine) (p : LaidStatement)
    → IsWalking d names settled all before old → IsCheckedLine d names settled all (laid_behind d s before) before old mid j → j.found ≡ None
    → IsLaid d (laid_behind d s before) before mid.laying p → Keeps p j.laid.number j.thumb_area mid new
    → IsWalking d names settled all (laid_behind d s before ∷ before) new
keep_line d names settled all s before old mid new j p w h none laid k =
    let l = laid_behind d s before in
    let parts : None ≡ first_told (told_kind (checked_kinds settled all l before)) (told_kind (register_kinds names l before)) = sym none ∙ h.told in
    let unchecked : told_kind (checked_kinds settled all l before) ≡ None =
    none_first (told_kind (checked_kinds settled all l before)) (told_kind (register_kinds names l before)) parts in
    let at = laid.statement.line in
    let line : IsLineOf all p.line.statement.now.what p.line.place.area j.thumb_area j.laid.number l before =
    subst (λ (w : What). IsLineOf all w p.line.place.area j.thumb_area j.laid.number l before) (ap (λ (t : Statement). t.what) (sym at.statement))
    (record {
      said = refl;
      stands = sym at.place.area;
      counted = refl;
      state = h.within ∙ ap (λ (o : Option ℕ). in_thumb_area o all) (sym at.place.area);
      aligned = aligned s.what l before settled all j.laid.number refl (numbers s.what l j.laid.number h.tells.number).exponent_is unchecked;
    }) in
    let untold : told_by names settled all l before ≡ None = checked_told d names settled all l before old mid j h ∙ rw (laid.told, none) refl in
    record {
      lays = subst (λ (x : Laying). IsLaying d (l ∷ before) x) (sym k.laying) laid.laying;
      checked = subst (λ (x : Checks). IsChecked (l ∷ before) x) (sym k.checks) (h.checked none);
      named = subst (λ (x : Registers). AreRegisters names (l ∷ before) x) (sym k.registers) (h.named none);
      begun = k.starts all l before (subst (λ (x : List AreaStart). AreStarts all before x) (sym h.begun) w.begun) line;
      kept = (
        old.lines.items,
        p,
        k.lines ∙ ap (λ (v : Vec LaidStatement). v.items ++ p ∷ []) h.kept,
        laid.statement,
        w.kept,
      );
      counted = k.equals ∙ h.counted;
      none = rw w.none (ap (told_at s) untold);
    }
