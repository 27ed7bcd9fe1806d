-- A statement is reached behind lines.
use Rattle.std.proofs.Common.{◌≡◌, ◌<◌, ◌≤◌, ℕ, ◌+◌, ◌&&◌, Bool, true, false, cond, List, [], ◌∷◌, ◌++◌, length, Option, Some, None, sym, ap, ◌∙◌, arith, length-append}
use Rattle.std.specs.List.{list_any}
use Rattle.std.proofs.lemmas.List.{length-map}
use Rattle.asm_model.specs.declared.names.LaidName.{LaidName}
use Rattle.asm_model.specs.declared.statements.Statement.{Statement}
use Rattle.asm_model.specs.declared.statements.What.{What}
use Rattle.asm_model.specs.Forms.{same}
use Rattle.asm_offsets.specs.Running.{IsBehind}
use Rattle.asm_model.specs.Before.{thumb_behind, area_named, with_name, areas_behind, area_behind, code_behind}
use Rattle.asm_model.specs.Laid.{LaidLine, statements_of, pieces_of, aligned_end}
use Rattle.asm_model.specs.Offsets.{Piece}
use Rattle.asm_laying.specs.declared.areas.Areas.{Areas}
use Rattle.asm_laying.specs.declared.carried.CarriedState.{CarriedState}
use Rattle.asm_laying.specs.declared.laying.Laying.{Laying}
use Rattle.asm_laying.specs.Carried.{behind, stepped, most_statements}
use Rattle.asm_laying.specs.Laying.{IsLaying, MayStep, Reaches}
use Rattle.asm_laying.specs.Numbered.{AreNumbered, Enters, ArePlaceable}

-- ---- counts

name_more : (o : Option (List ℕ)) (names : List (List ℕ)) → length (with_name o names) ≤ length names + 1
name_more None names = omega arith
name_more (Some n) names = by_test (list_any (same n) names)
  where
    by_test : (b : Bool) → length (cond b names (names ++ n ∷ [])) ≤ length names + 1
    by_test true = omega arith
    by_test false = let e : length (names ++ n ∷ []) ≡ length names + 1 = length-append names (n ∷ []) in omega arith

pub areas_few : (ss : List Statement) → length (areas_behind ss) ≤ length ss
areas_few [] = omega arith
areas_few (s ∷ before) = let h = name_more (area_named s.what) (areas_behind before) in let g = areas_few before in omega arith

pub room : (state : Laying) → MayStep state → state.areas.count < most_statements
room state h =
    let before = h.may.before in
    let few : length before < most_statements = h.may.few in
    let count : state.areas.count ≡ length (areas_behind (statements_of before)) = h.may.laying.areas.count in
    let less = areas_few (statements_of before) in
    let same_length : length (statements_of before) ≡ length before = length-map before (λ l. l.statement) in
    omega arith

pub placeable : (state : Laying) (w : What) (areas : Areas) → MayStep state → Enters (area_named w) state.areas areas → ArePlaceable areas
placeable state w areas h g =
    let before = h.may.before in
    let a = g (areas_behind (statements_of before)) (area_behind (statements_of before)) (pieces_of before) h.may.laying.areas in
    record { pieces = pieces_of before; there = a.there; ends = a.ends }

-- ---- a statement is reached

pub reaches : (d : List LaidName) (s : Statement) (before : List LaidLine) (old new : Laying) (next : CarriedState) (offset : ℕ) (label : Bool)
    → IsLaying d before old
    → next ≡ stepped s.what old.behind → new.behind ≡ next → Enters (area_named s.what) old.areas new.areas
    → ((pieces : List Piece) → IsBehind pieces new.areas.ends → offset ≡ aligned_end new.areas.current pieces old.behind.thumb s.what)
    → new.map ≡ old.map → new.names.items ≡ old.names.items → new.all_known ≡ old.all_known → label ≡ (old.behind.thumb && next.code)
    → Reaches d s before new (record { area = new.areas.current; offset = offset; map = old.map; thumb = old.behind.thumb; thumb_label = label })
reaches d s before old new next offset label h steps standing enters starts map names known thumbed =
    let area = area_behind (s ∷ statements_of before) in
    let pieces = pieces_of before in
    let areas : AreNumbered (areas_behind (s ∷ statements_of before)) area pieces new.areas =
    enters (areas_behind (statements_of before)) (area_behind (statements_of before)) pieces h.areas in
    let after : next ≡ behind (s ∷ statements_of before) = steps ∙ ap (stepped s.what) h.standing in
    let thumb : old.behind.thumb ≡ thumb_behind (statements_of before) = ap (λ (b : CarriedState). b.thumb) h.standing in
    let code : next.code ≡ code_behind (s ∷ statements_of before) = ap (λ (b : CarriedState). b.code) after in
    record {
      at = record { standing = standing ∙ after; areas = areas; map = map ∙ h.map; names = names ∙ h.names; known = λ k. h.known (sym known ∙ k) };
      location = record {
        area = areas.here;
        offset =
            starts pieces areas.ends ∙ ap (λ a. aligned_end a pieces old.behind.thumb s.what) areas.here ∙ ap (λ t. aligned_end area pieces t s.what) thumb;
        map = h.map;
        thumb = thumb;
        thumb_label = thumbed ∙ ap (λ t. t && next.code) thumb ∙ ap (λ c. thumb_behind (statements_of before) && c) code;
      };
    }
