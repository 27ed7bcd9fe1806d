-- A line more.
use Rattle.std.proofs.Common.{◌≡◌, ◌<◌, ◌≤◌, ℕ, ◌+◌, ◌%◌, ◌^◌, ◌&&◌, Bool, true, false, List, [], ◌∷◌, ◌++◌, length, Option, Some, None, refl, sym, ap, ◌∙◌, subst, arith, nat_lt, min, slice_get, append-nil, append_assoc}
use Rattle.std.specs.Borrow.{Bor}
use Rattle.std.specs.Prelude.{Result, Ok, Err}
use Rattle.std.proofs.lemmas.Bool.{lt-ltb, le-ltb}
use Rattle.sdt_fault.specs.declared.kinds.LineKind.{LineKind}
use Rattle.sdt_fault.specs.declared.kinds.LineKind.TheVariants.{Syntax, TooMany}
use Rattle.asm_model.specs.declared.directives.DirectiveLine.{DirectiveLine}
use Rattle.asm_model.specs.declared.directives.DirectiveLine.TheVariants as line
use Rattle.asm_model.specs.declared.names.LaidName.{LaidName}
use Rattle.asm_model.specs.declared.names.Names.{Names}
use Rattle.asm_model.specs.declared.statements.Statement.{Statement}
use Rattle.asm_model.specs.declared.statements.What.{What}
use Rattle.asm_model.specs.declared.statements.What.TheVariants as what
use Rattle.asm_model.specs.AtLine.{SourceLine, names_at, added_names, seen_behind}
use Rattle.asm_model.specs.Kinds.{earlier, told_kind, kind_if}
use Rattle.asm_model.specs.Before.{area_behind, is_thumb_label}
use Rattle.asm_model.specs.Extents.{Extent, Block, number_there, extent_of}
use Rattle.asm_model.specs.Labels.{Defined, Unnamed, defined_by, imported_in, imported_entries}
use Rattle.asm_model.specs.Laid.{LaidLine, statements_of, lines_of, taken, pieces_of, map_behind, map_from, added, set_or, offset_behind, definition_of, line_behind, imported_lines, names_behind, laid_behind}
use Rattle.asm_model.specs.LayoutKinds.{fault_kinds, map_kinds, area_bytes}
use Rattle.asm_model.specs.Offsets.{Piece, offset_of, size_behind, start_in}
use Rattle.asm_model.specs.Readings.{mapped}
use Rattle.asm_model.proofs.LaidLemmas.{starts_there}
use Rattle.asm_offsets.specs.declared.extents.Extent.{Extent as Code}
use Rattle.asm_offsets.specs.declared.extents.PlacedExtent.{PlacedExtent as Put}
use Rattle.asm_offsets.specs.Coded.{extent_of_code, IsExtent}
use Rattle.asm_offsets.specs.Running.{Standing, piece, IsStanding, IsBehind, IsPlaced, IsThere, entry_behind}
use Rattle.asm_offsets.specs.Laws.{ExtentsArePlaceable}
use Rattle.asm_expr.specs.Places.{number_in}
use Rattle.asm_laying.specs.declared.finding.Equated.{Equated}
use Rattle.asm_laying.specs.declared.laying.Laying.{Laying}
use Rattle.asm_laying.specs.declared.laying.LaidStatement.{LaidStatement}
use Rattle.asm_names.specs.declared.placed_lines.StatementPlace.{StatementPlace}
use Rattle.asm_names.specs.Defining.{own_entry}
use Rattle.asm_names.specs.Steps.{one_entry}
use Rattle.asm_laying.specs.Laying.{IsAt, IsLocation, AreNeeded, Reaches, OkExtent, equal_names, told_of, IsLaid, IsPlaced as IsPlacedLine, Tells}
use Rattle.asm_laying.specs.Reading.{most_bytes, capped, all_capped, coded, map_after, said_number, string_marks}
use Rattle.asm_laying.proofs.SeeLemmas.{own_there}

-- ---- kinds

earlier_many : (k : LineKind) → earlier k TooMany ≡ k
earlier_many Syntax = refl
earlier_many k = refl

told_first : (k : LineKind) (b : Bool) → told_kind (k ∷ kind_if b TooMany) ≡ Some k
told_first k true = ap Some (earlier_many k)
told_first k false = refl

no_directive_map : (s : Names) (l : DirectiveLine) (k : LineKind) → extent_of s (what.Directive l) ≡ Err k → map_kinds s (what.Directive l) ≡ []
no_directive_map s (line.Map e) k h = absurd (cc)
no_directive_map s (line.Field e) k h = absurd (cc)
no_directive_map s l k h = refl

no_map : (s : Names) (w : What) (k : LineKind) → extent_of s w ≡ Err k → map_kinds s w ≡ []
no_map s (what.Directive l) k h = no_directive_map s l k h
no_map s w k h = refl

mapped_faults : {A B : Type 0} (f : A → B) (r : Result A LineKind) → fault_kinds r ≡ fault_kinds (mapped f r)
mapped_faults f (Ok x) = refl
mapped_faults f (Err k) = refl

directive_map_is : (map : ℕ) (s : Names) (l : DirectiveLine) → map_kinds s (what.Directive l) ≡ fault_kinds (map_after map s (what.Directive l))
directive_map_is map s (line.Map e) = refl
directive_map_is map s (line.Field e) = mapped_faults (λ n. (map + n) % 2 ^ 32) (number_there s e)
directive_map_is map s l = refl

map_is : (map : ℕ) (s : Names) (w : What) → map_kinds s w ≡ fault_kinds (map_after map s w)
map_is map s (what.Directive l) = directive_map_is map s l
map_is map s w = refl

abbrev is_large : List LaidName → Statement → List LaidLine → Bool
is_large d s before = nat_lt area_bytes ((laid_behind d s before).offset + (laid_behind d s before).size)

pub told_extent : (d : List LaidName) (s : Statement) (before : List LaidLine) (k : LineKind) → extent_of (names_behind d s before) s.what ≡ Err k
    → told_of (laid_behind d s before) ≡ Some k
told_extent d s before k h =
    ap (λ r. told_kind (fault_kinds r ++ map_kinds (names_behind d s before) s.what ++ kind_if (is_large d s before) TooMany)) h
    ∙ ap (λ ks. told_kind ((k ∷ []) ++ ks ++ kind_if (is_large d s before) TooMany)) (no_map (names_behind d s before) s.what k h)
    ∙ told_first k (is_large d s before)

told_placed : (d : List LaidName) (s : Statement) (before : List LaidLine) (e : Extent) (map : ℕ) (r : Result ℕ LineKind)
    → extent_of (names_behind d s before) s.what ≡ Ok e → map_after map (names_behind d s before) s.what ≡ r
    → told_of (laid_behind d s before) ≡ told_kind (fault_kinds r ++ kind_if (is_large d s before) TooMany)
told_placed d s before e map r h g =
    ap (λ x. told_kind (fault_kinds x ++ map_kinds (names_behind d s before) s.what ++ kind_if (is_large d s before) TooMany)) h
    ∙ ap (λ ks. told_kind (ks ++ kind_if (is_large d s before) TooMany)) (map_is map (names_behind d s before) s.what ∙ ap (λ x. fault_kinds x) g)

pub told_map : (d : List LaidName) (s : Statement) (before : List LaidLine) (e : Extent) (map : ℕ) (k : LineKind)
    → extent_of (names_behind d s before) s.what ≡ Ok e → map_after map (names_behind d s before) s.what ≡ Err k
    → told_of (laid_behind d s before) ≡ Some k
told_map d s before e map k h g = told_placed d s before e map (Err k) h g ∙ told_first k (is_large d s before)

told_large : (d : List LaidName) (s : Statement) (before : List LaidLine) (e : Extent) (map n : ℕ) (b : Bool)
    → extent_of (names_behind d s before) s.what ≡ Ok e → map_after map (names_behind d s before) s.what ≡ Ok n → is_large d s before ≡ b
    → told_of (laid_behind d s before) ≡ told_kind (kind_if b TooMany)
told_large d s before e map n b h g t = told_placed d s before e map (Ok n) h g ∙ ap (λ x. told_kind (kind_if x TooMany)) t

-- ---- the storage map

set_is : (map n : ℕ) (r : Result ℕ LineKind) → r ≡ Ok n → n ≡ set_or map r
set_is map n r h = rw h refl

added_is : (map n : ℕ) (r : Result ℕ LineKind) → mapped (λ k. (map + k) % 2 ^ 32) r ≡ Ok n → n ≡ added map r
added_is map n (Ok k) h = cc
added_is map n (Err k) h = absurd (cc)

directive_map_from : (map n : ℕ) (s : Names) (l : DirectiveLine) → map_after map s (what.Directive l) ≡ Ok n → n ≡ map_from map s (what.Directive l)
directive_map_from map n s (line.Map e) h = set_is map n (number_there s e) h
directive_map_from map n s (line.Field e) h = added_is map n (number_there s e) h
directive_map_from map n s l h = let e : Ok map ≡ Ok n = h in cc

pub map_from_is : (map n : ℕ) (s : Names) (w : What) → map_after map s w ≡ Ok n → n ≡ map_from map s w
map_from_is map n s (what.Directive l) h = directive_map_from map n s l h
map_from_is map n s w h = let e : Ok map ≡ Ok n = h in cc

-- ---- what is taken up

coded_is : (x : Code) (r : Result Extent LineKind) → coded (Ok x) ≡ all_capped r → (e : Extent) × (r ≡ Ok e) × (extent_of_code x ≡ capped e)
coded_is x (Ok e) h = let g : Ok (extent_of_code x) ≡ Ok (capped e) = h in (e, refl, cc)
coded_is x (Err k) h = absurd (let g : Ok (extent_of_code x) ≡ Err k = h in cc)

pub fault_is : (k : LineKind) (r : Result Extent LineKind) → coded (Err k) ≡ all_capped r → r ≡ Err k
fault_is k (Ok e) h = absurd (cc)
fault_is k (Err j) h = cc

standing_any : (area : ℕ) (before : List Piece) (e f : Extent) (o : Option Standing) → IsStanding area (piece None e ∷ before) o
    → IsStanding area (piece None f ∷ before) o
standing_any area before e f None h = h
standing_any area before e f (Some a) h = record { end = h.end; waiting = h.waiting; placed = h.placed; pools = h.pools }

all_there : (n : ℕ) (m : ℕ) → min n most_bytes ≡ m → m ≤ 2 ^ 24 → min n most_bytes ≡ n
all_there n m h g = omega arith

pub placed_all : (area : Option ℕ) (e : Extent) (before : List Piece) (areas : List Standing) (p : Put) → IsPlaced area (capped e) before areas p
    → IsPlaced area e before areas p
placed_all None (Block a n) before areas p h = record {
  offset = h.offset;
  size = h.size;
  fits = h.fits;
  literal = h.literal;
  behind = record { each = λ i. standing_any i before (Block a (min n most_bytes)) (Block a n) (slice_get areas i) (h.behind.each i) };
}
placed_all (Some k) (Block a n) before areas p h =
    let size : p.size ≡ min n most_bytes = h.size in
    let fits : p.offset + p.size ≤ 2 ^ 24 = h.fits in
    let same : min n most_bytes ≡ n = all_there n p.size (sym size) (omega (arith, fits)) in
    subst (λ m. IsPlaced (Some k) (Block a m) before areas p) same h
placed_all area e before areas p h = h

pub large_all : (area : Option ℕ) (e : Extent) (before : List Piece) → 2 ^ 24 < offset_of area before (capped e) + size_behind area before (capped e)
    → 2 ^ 24 < offset_of area before e + size_behind area before e
large_all None (Block a n) before h = h
large_all (Some k) (Block a n) before h =
    let g : 2 ^ 24 < start_in k before (Block a n) + min n most_bytes = h in
    let less : min n most_bytes ≤ n = omega arith in
    let goal : 2 ^ 24 < start_in k before (Block a n) + n = omega (arith, g, less) in goal
large_all area e before h = h

pub capped_fits : (e : Extent) → IsExtent e → IsExtent (capped e)
capped_fits (Block a n) h = h
capped_fits e h = h

pub found_fits : ExtentsArePlaceable → (s : Names) (w : What) (x : Code) → coded (Ok x) ≡ all_capped (extent_of s w) → IsExtent (extent_of_code x)
found_fits law s w x h =
    let e = coded_is x (extent_of s w) h in
    subst IsExtent (sym e.2) (capped_fits e.0 (law s w e.0 e.1))

-- ---- names

-- a definition adds its own name, or that of an expression; what a name for an expression means does not hang on its size
adds : (d : List LaidName) (s : Statement) (before : List LaidLine) (size : Option ℕ) (x : Defined)
    → added_names (names_at d (seen_behind d (lines_of before)) (line_behind s before
    (definition_of d x (area_behind (s ∷ statements_of before)) (offset_behind s before) size (is_thumb_label s (statements_of before))
    (map_behind before))))
    (definition_of d x (area_behind (s ∷ statements_of before)) (offset_behind s before) size (is_thumb_label s (statements_of before)) (map_behind before))
    ≡ one_entry (own_entry x (area_behind (s ∷ statements_of before)) (offset_behind s before) size (is_thumb_label s (statements_of before))
    (map_behind before))
    ++ equal_names d (area_behind (s ∷ statements_of before))
    (names_at d (seen_behind d (lines_of before)) (line_behind s before (definition_of d x (area_behind (s ∷ statements_of before)) (offset_behind s before)
    None (is_thumb_label s (statements_of before)) (map_behind before)))) x
adds d s before size Unnamed = refl
adds d s before size x = refl

imports : (d : List LaidName) (s : Statement) (before : List LaidLine) (rest : List SourceLine) (o : Option (List ℕ))
    → seen_behind d (imported_lines s before o ++ rest) ≡ seen_behind d rest ++ imported_entries o
imports d s before rest None = sym (append-nil (seen_behind d rest))
imports d s before rest (Some name) = refl

pub names_more : (d : List LaidName) (s : Statement) (before : List LaidLine) (e : Extent) (own equal : List LaidName)
    → extent_of (names_behind d s before) s.what ≡ Ok e
    → own ≡ one_entry (own_entry (defined_by s) (area_behind (s ∷ statements_of before)) (offset_behind s before) (Some (laid_behind d s before).size)
    (is_thumb_label s (statements_of before)) (map_behind before))
    → equal ≡ equal_names d (area_behind (s ∷ statements_of before)) (names_behind d s before) (defined_by s)
    → seen_behind d (lines_of before) ++ own ++ equal ++ imported_entries (imported_in s.what) ≡ seen_behind d (lines_of (laid_behind d s before ∷ before))
names_more d s before e own equal h o q =
    let seen = seen_behind d (lines_of before) in
    let import = imported_entries (imported_in s.what) in
    let laid = laid_behind d s before in
    let one : seen ++ own ++ equal ≡ seen_behind d (laid.line ∷ lines_of before) =
    append_assoc seen own equal ∙ ap (λ x. seen ++ (x ++ equal)) o ∙ ap (λ x. seen
    ++ (one_entry (own_entry (defined_by s) (area_behind (s ∷ statements_of before)) (offset_behind s before) (Some laid.size)
    (is_thumb_label s (statements_of before)) (map_behind before)) ++ x)) q
    ∙ ap (λ x. seen ++ x) (sym (adds d s before (Some laid.size) (defined_by s))) in
    ap (λ x. x ++ import) one ∙ sym (imports d s before (laid.line ∷ lines_of before) (imported_in s.what))

-- ---- a line more

fits_low : (a b c d : ℕ) → a ≡ c → b ≡ d → a + b ≤ 2 ^ 24 → nat_lt area_bytes (c + d) ≡ false
fits_low a b c d h g f = le-ltb area_bytes (c + d) (omega arith)

fits_not : (a b c d : ℕ) → a ≡ c → b ≡ d → 2 ^ 24 < a + b → nat_lt area_bytes (c + d) ≡ true
fits_not a b c d h g f = lt-ltb area_bytes (c + d) (omega arith)

pub told_too_large : (d : List LaidName) (s : Statement) (before : List LaidLine) (location : StatementPlace) (x : Code) (map : ℕ) (equal : Equated)
    → IsLocation s before location
    → AreNeeded d location (names_behind d s before) s (Ok x) (Ok map) equal
    → 2 ^ 24 < offset_of location.area (pieces_of before) (extent_of_code x) + size_behind location.area (pieces_of before) (extent_of_code x)
    → told_of (laid_behind d s before) ≡ Some TooMany
told_too_large d s before location x map equal sp found large =
    let area = area_behind (s ∷ statements_of before) in
    let pieces = pieces_of before in
    let r = names_behind d s before in
    let e = coded_is x (extent_of r s.what) found.extent_is in
    let over : 2 ^ 24 < offset_of area pieces e.0 + size_behind area pieces e.0 =
    large_all area e.0 pieces
    (subst (λ c. 2 ^ 24 < offset_of area pieces c + size_behind area pieces c) e.2
    (subst (λ a. 2 ^ 24 < offset_of a pieces (extent_of_code x) + size_behind a pieces (extent_of_code x)) sp.area large)) in
    told_large d s before e.0 location.map map true e.1 (sym found.after_is)
    (fits_not (offset_of area pieces e.0) (size_behind area pieces e.0) (laid_behind d s before).offset (laid_behind d s before).size
    (sym (starts_there area pieces r s.what e.0 e.1)) (ap (λ q. size_behind area pieces (taken q)) (sym e.1)) over)

there_same : (o p : Option ℕ) (xs ys : List Standing) → p ≡ o → length ys ≡ length xs → IsThere o xs → IsThere p ys
there_same None p xs ys h g t = rw h t
there_same (Some k) p xs ys h g t = let less : k < length xs = t in let more : k < length ys = omega arith in rw h more

both_hold : (a b : Bool) → (a && b) ≡ true → (a ≡ true) × (b ≡ true)
both_hold true b h = (refl, h)
both_hold false b h = absurd (cc)

pub lays : (d : List LaidName) (t : Bor Statement) (before : List LaidLine) (old new : Laying) (location : StatementPlace) (x : Code) (map : ℕ) (equal : Equated)
    (p : Put)
    → IsAt d t.now before old → IsLocation t.now before location
    → AreNeeded d location (names_behind d t.now before) t.now (Ok x) (Ok map) equal
    → IsPlaced location.area (extent_of_code x) (pieces_of before) new.areas.ends p → length new.areas.ends ≡ length old.areas.ends
    → new.behind ≡ old.behind → new.map ≡ map → new.areas.numbers ≡ old.areas.numbers → new.areas.count ≡ old.areas.count
    → new.areas.current ≡ old.areas.current
    → new.names.items ≡ old.names.items ++ one_entry (own_entry (defined_by t.now) location.area location.offset (Some p.size) location.thumb_label location.map)
    ++ one_entry equal.entry ++ imported_entries (imported_in t.now.what)
    → new.all_known ≡ (old.all_known && equal.known)
    → (strings : List Bool) → strings ≡ string_marks (names_behind d t.now before) t.now.what
    → IsLaid d (laid_behind d t.now before) before new (record {
      line = record { statement = t; place = location; size = p.size };
      literal = p.literal;
      strings = strings;
    })
lays d t before old new location x map equal p at sp found placed long behind mapped numbers count current names known strings marked =
    let s = t.now in
    let area = area_behind (s ∷ statements_of before) in
    let pieces = pieces_of before in
    let r = names_behind d s before in
    let l = laid_behind d s before in
    let e = coded_is x (extent_of r s.what) found.extent_is in
    let here : IsPlaced area e.0 pieces new.areas.ends p =
    placed_all area e.0 pieces new.areas.ends p
    (subst (λ c. IsPlaced area c pieces new.areas.ends p) e.2
    (subst (λ a. IsPlaced a (extent_of_code x) pieces new.areas.ends p) sp.area placed)) in
    let offset : p.offset ≡ l.offset = here.offset ∙ sym (starts_there area pieces r s.what e.0 e.1) in
    let size : p.size ≡ l.size = here.size ∙ ap (λ q. size_behind area pieces (taken q)) (sym e.1) in
    let mine = one_entry (own_entry (defined_by s) location.area location.offset (Some p.size) location.thumb_label location.map) in
    let import = imported_entries (imported_in s.what) in
    let own_eq : mine ≡ one_entry (own_entry (defined_by s) area (offset_behind s before) (Some l.size) (is_thumb_label s (statements_of before))
    (map_behind before)) =
    ap one_entry (own_there (defined_by s) location.area area location.offset (offset_behind s before) (Some p.size) (Some l.size) location.thumb_label
    (is_thumb_label s (statements_of before)) location.map (map_behind before)
    sp.area sp.offset (ap Some size) sp.thumb_label sp.map) in
    let equal_eq : one_entry equal.entry ≡ equal_names d area r (defined_by s) = found.equal_is.entry ∙ ap (λ a. equal_names d a r (defined_by s)) sp.area in
    record {
      told = told_large d s before e.0 location.map map false e.1 (sym found.after_is) (fits_low p.offset p.size l.offset l.size offset size here.fits);
      statement = record {
        line = record {
          statement = refl;
          place = record { area = sp.area; offset = sp.offset; thumb = sp.thumb; thumb_label = sp.thumb_label; map = sp.map };
          size = size;
        };
        literal = here.literal ∙ ap (λ q. entry_behind area pieces (taken q)) (sym e.1);
        strings = marked;
      };
      laying = record {
        standing = behind ∙ at.standing;
        areas = record {
          numbers = λ q. ap (λ m. number_in m q) numbers ∙ at.areas.numbers q;
          count = count ∙ at.areas.count;
          here = current ∙ at.areas.here;
          there = there_same old.areas.current new.areas.current old.areas.ends new.areas.ends current long at.areas.there;
          each = long ∙ at.areas.each ∙ sym count;
          ends = subst (λ q. IsBehind (piece area (taken q) ∷ pieces) new.areas.ends) (sym e.1) here.behind;
        };
        map = mapped ∙ map_from_is location.map map r s.what (sym found.after_is) ∙ ap (λ m. map_from m r s.what) sp.map;
        names =
            names ∙ ap (λ ns. ns ++ mine ++ one_entry equal.entry ++ import) at.names
            ∙ names_more d s before e.0 mine (one_entry equal.entry) e.1 own_eq equal_eq;
        known = λ k. let both = both_hold old.all_known equal.known (sym known ∙ k) in (found.equal_is.known both.1, at.known both.0);
      };
    }

-- ---- other answers

pub told_no_extent : (d : List LaidName) (s : Statement) (before : List LaidLine) (location : StatementPlace) (k : LineKind) (map : Result ℕ LineKind)
    (equal : Equated)
    → AreNeeded d location (names_behind d s before) s (Err k) map equal
    → told_of (laid_behind d s before) ≡ Some k
told_no_extent d s before location k map equal found = told_extent d s before k (fault_is k (extent_of (names_behind d s before) s.what) found.extent_is)

pub told_no_map : (d : List LaidName) (s : Statement) (before : List LaidLine) (location : StatementPlace) (x : Code) (k : LineKind) (equal : Equated)
    → AreNeeded d location (names_behind d s before) s (Ok x) (Err k) equal
    → told_of (laid_behind d s before) ≡ Some k
told_no_map d s before location x k equal found =
    let e = coded_is x (extent_of (names_behind d s before) s.what) found.extent_is in
    told_map d s before e.0 location.map k e.1 (sym found.after_is)

pub may_place : (d : List LaidName) (s : Statement) (before : List LaidLine) (state : Laying) (location : StatementPlace) → Reaches d s before state location
    → IsThere location.area state.areas.ends
may_place d s before state location h =
    there_same state.areas.current location.area state.areas.ends state.areas.ends (h.location.area ∙ sym h.at.areas.here) refl h.at.areas.there

pub fits_all : ExtentsArePlaceable → (s : Names) (w : What) (r : Result Code LineKind) → coded r ≡ all_capped (extent_of s w) → OkExtent r
fits_all law s w (Ok x) h = found_fits law s w x h
fits_all law s w (Err k) h = tt

pub tells : (d : List LaidName) (s : Statement) (before : List LaidLine) (location : StatementPlace) (number : Result ℕ LineKind)
    (placed : Result LaidStatement LineKind) (state : Laying)
    → IsLocation s before location → number ≡ said_number (names_behind d s before) s.what → IsPlacedLine d (laid_behind d s before) before state placed
    → Tells d (laid_behind d s before) before state (record { area = location.area; thumb = location.thumb; number = number; placed = placed })
tells d s before location number placed state sp h g = record { area = sp.area; thumb = sp.thumb; number = h; placed = g }
