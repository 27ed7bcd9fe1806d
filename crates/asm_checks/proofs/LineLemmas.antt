-- What is told of a line, and what it leaves.
use Rattle.std.proofs.Common.{◌≡◌, ℕ, Bool, List, ◌∷◌, Option, ◌&&◌, ◌||◌, ap, ◌∙◌}
use Rattle.std.specs.Prelude.{Result}
use Rattle.std.specs.List.{list_any}
use Rattle.sdt_fault.specs.declared.kinds.LineKind.{LineKind}
use Rattle.sdt_fault.specs.declared.kinds.LineKind.TheVariants.{DuplicateName}
use Rattle.asm_model.specs.declared.directives.Contents.{Contents}
use Rattle.asm_model.specs.declared.statements.Statement.{Statement}
use Rattle.asm_model.specs.FaultSets.{first_told}
use Rattle.asm_model.specs.Kinds.{told_kind, kind_if}
use Rattle.asm_model.specs.Labels.{defined_by}
use Rattle.asm_model.specs.Laid.{LaidLine, statements_of}
use Rattle.asm_model.specs.LayoutKinds.{is_entry, no_area_kinds, contents_kinds, contents_from, contents_behind, area_kinds, is_repeated, names_behind, names_in, name_kinds, first_equal, settled_kinds, state_kinds}
use Rattle.asm_model.specs.OwnKinds.{own_kinds}
use Rattle.asm_checks.specs.declared.checks.Checks.{Checks}
use Rattle.asm_checks.specs.Checked.{checked_kinds, IsChecked, IsLine}
use Rattle.asm_checks.proofs.ToldLemmas.{told_of_seven}

pub names_told : (s : Statement) (before : List Statement) (repeated second had : Bool) (o : Option LineKind)
    → repeated ≡ is_repeated (names_behind before) (names_in s) → second ≡ (is_entry s.what && had) → had ≡ list_any (λ (t : Statement). is_entry t.what) before
    → o ≡ told_kind (kind_if (repeated || second) DuplicateName) → o ≡ told_kind (name_kinds s before)
names_told s before repeated second had o e f g h =
    h ∙ ap (λ (b : Bool). told_kind (kind_if (b || second) DuplicateName)) e
    ∙ ap (λ (b : Bool). told_kind (kind_if (is_repeated (names_behind before) (names_in s) || b) DuplicateName)) (f ∙ ap (λ (b : Bool). is_entry s.what && b) g)

pub line_told : (settled : List (List ℕ)) (all : List Statement) (s : Statement) (area : Option ℕ) (thumb thumb_area : Bool) (x : Result ℕ LineKind)
    (circular again : Bool)
    (l : LaidLine) (before : List LaidLine)
    (old : Checks) (contents : Option Contents) (here attributes defined state own : Option LineKind) (nowhere allowed repeated unsettled : Option LineKind)
    → IsChecked before old → IsLine s area thumb thumb_area x circular again settled all l before
    → contents ≡ contents_from s.what old.contents
    → nowhere ≡ told_kind (no_area_kinds area (defined_by s) s.what)
    → allowed ≡ told_kind (contents_kinds contents thumb s.what)
    → attributes ≡ told_kind (area_kinds l.seen s.what before)
    → repeated ≡ told_kind (name_kinds s (statements_of before))
    → unsettled ≡ told_kind (settled_kinds settled (first_equal (defined_by s) (statements_of before)))
    → here ≡ first_told nowhere allowed → defined ≡ first_told repeated unsettled → state ≡ told_kind (state_kinds area thumb s.what all)
    → own ≡ told_kind (own_kinds s)
    → first_told (first_told (first_told here (first_told attributes defined)) state) own ≡ told_kind (checked_kinds settled all l before)
line_told settled all s area thumb thumb_area x circular again l before old contents here attributes defined state own nowhere allowed repeated unsettled k i inside a
    b c d e f g h j =
    rw (i.said, i.stands, i.state, h, j)
    (told_of_seven here attributes defined
    (no_area_kinds area (defined_by s) s.what) (contents_kinds (contents_behind (s ∷ statements_of before)) thumb s.what) (area_kinds l.seen s.what before)
    (name_kinds s (statements_of before)) (settled_kinds settled (first_equal (defined_by s) (statements_of before))) (state_kinds area thumb s.what all)
    (own_kinds s)
    (f ∙ ap (λ o. first_told o allowed) a
    ∙ ap (first_told (told_kind (no_area_kinds area (defined_by s) s.what)))
    (b ∙ ap (λ o. told_kind (contents_kinds o thumb s.what)) (inside ∙ ap (contents_from s.what) k.contents)))
    c
    (g ∙ ap (λ o. first_told o unsettled) d ∙ ap (first_told (told_kind (name_kinds s (statements_of before)))) e))
