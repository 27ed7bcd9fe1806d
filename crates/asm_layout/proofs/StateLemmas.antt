-- The states of a source's areas, with a statement more.
use Rattle.std.proofs.Common.{◌≡◌, ◌<◌, ◌≤◌, ◌+◌, ◌-◌, List, [], ◌∷◌, length, take, drop, get_or, sym, ap, ◌∙◌, subst, arith}
use Rattle.asm_checks.specs.declared.states.States.{States}
use Rattle.asm_checks.specs.States.{AreStates}
use Rattle.asm_laying.specs.declared.areas.Areas.{Areas}
use Rattle.asm_laying.specs.declared.carried.CarriedState.{CarriedState}
use Rattle.asm_laying.specs.Carried.{stepped, most_statements}
use Rattle.asm_laying.specs.Numbered.{Enters}
use Rattle.asm_laying.proofs.EnterLemmas.{areas_few}
use Rattle.asm_model.specs.declared.statements.Statement.{Statement}
use Rattle.asm_model.specs.Before.{thumb_behind, area_named, areas_behind, area_behind}
use Rattle.asm_layout.specs.States.{AreNoted}
use Rattle.asm_layout.proofs.WalkLemmas.{reversed_long}
use Rattle.base_lemmas.proofs.BaseLemmas.{rest_of}

-- there may be an area more
pub room : (statements left : List Statement) (areas : Areas) (b : CarriedState) (states : States) → AreNoted statements left areas b states
    → length statements < most_statements + 1 → 1 ≤ length left → areas.count < most_statements
room statements left areas b states h few some =
    let count : areas.count ≡ length (areas_behind h.before) = h.numbered.count in
    let less = areas_few h.before in
    let long : length left + length h.before ≡ length statements + 0 =
    sym (reversed_long left h.before) ∙ ap (λ (l : List Statement). length l) h.whole ∙ reversed_long statements [] in
    omega arith

noted_more : (statements rest : List Statement) (s : Statement) (areas new : Areas) (b next : CarriedState) (old states : States)
    → AreNoted statements (s ∷ rest) areas b old → Enters (area_named s.what) areas new → next ≡ stepped s.what b
    → ((before : List Statement) → AreStates before old → area_behind (s ∷ before) ≡ new.current → thumb_behind before ≡ b.thumb
    → AreStates (s ∷ before) states)
    → AreNoted statements rest new next states
noted_more statements rest s areas new b next old states h enters steps notes =
    let numbered = enters (areas_behind h.before) (area_behind h.before) [] h.numbered in
    record {
      before = s ∷ h.before;
      whole = h.whole;
      standing = steps ∙ ap (stepped s.what) h.standing;
      numbered = numbered;
      noted = notes h.before h.noted (sym numbered.here) (sym (ap (λ (x : CarriedState). x.thumb) h.standing));
    }

pub noted_next : (statements left : List Statement) (s : Statement) (areas new : Areas) (b next : CarriedState) (old states : States)
    → AreNoted statements left areas b old → 1 ≤ length left → s ≡ get_or left 0 s → Enters (area_named s.what) areas new → next ≡ stepped s.what b
    → ((before : List Statement) → AreStates before old → area_behind (s ∷ before) ≡ new.current → thumb_behind before ≡ b.thumb
    → AreStates (s ∷ before) states)
    → AreNoted statements (take (length left - 1) (drop 1 left)) new next states
noted_next statements left s areas new b next old states h some at enters steps notes =
    noted_more statements (take (length left - 1) (drop 1 left)) s areas new b next old states
    (subst (λ (l : List Statement). AreNoted statements l areas b old) (rest_of left s some at) h) enters steps notes
