-- The areas of a layout, made of what begins and what ends each of them.
use Rattle.std.proofs.Common.{◌≡◌, ◌<◌, ℕ, zero, suc, Bool, false, List, [], ◌∷◌, length, map, Option, Some, None, refl, sym, ap, ◌∙◌, subst, arith}
use Rattle.std.specs.List.{slice_get, zip}
use Rattle.std.proofs.lemmas.Slice.Zip.{AllZip-long}
use Rattle.asm_checks.specs.declared.starts.AreaStart.{AreaStart}
use Rattle.asm_checks.specs.Starts.{IsStart, AreStarts}
use Rattle.asm_model.specs.declared.directives.DirectiveLine.{DirectiveLine}
use Rattle.asm_model.specs.declared.directives.DirectiveLine.TheVariants as line
use Rattle.asm_model.specs.declared.statements.Statement.{Statement}
use Rattle.asm_model.specs.declared.statements.What.{What}
use Rattle.asm_model.specs.declared.statements.What.TheVariants as what
use Rattle.asm_offsets.specs.declared.extents.LaidPools.{LaidPools}
use Rattle.asm_offsets.specs.Finished.{IsLaidOut, IsLaid, AreLaid}
use Rattle.asm_offsets.specs.Running.{HasNone}
use Rattle.asm_pool.specs.Pooled.{Pooled}
use Rattle.asm_layout.specs.declared.laid.LaidArea.{LaidArea}
use Rattle.asm_model.specs.Laid.{LaidLine, statements_of, pieces_of}
use Rattle.asm_model.specs.LayoutKinds.{is_thumb_area}
use Rattle.asm_model.specs.Offsets.{is_of}
use Rattle.source_model.specs.Objects.{says_area, attributes_of}
use Rattle.asm_layout.specs.Areas.{IsMade, AreMade}
use Rattle.asm_layout.specs.Layout.{AreAreas}

-- ---- an area that begins has a line

directive_says_none : (d : DirectiveLine) (area : ℕ) (l : LaidLine) (t : Bool) → is_of area l.area ≡ false → says_area area l (what.Directive d) t ≡ None
directive_says_none (line.Area name a) area l t e = rw e refl
directive_says_none d area l t e = refl

says_none : (w : What) (area : ℕ) (l : LaidLine) (t : Bool) → is_of area l.area ≡ false → says_area area l w t ≡ None
says_none (what.Directive d) area l t e = directive_says_none d area l t e
says_none w area l t e = refl

no_attributes : (all : List LaidLine) (area : ℕ) (t : Bool) → HasNone area (pieces_of all) → attributes_of area t all ≡ None
no_attributes [] area t h = refl
no_attributes (l ∷ before) area t h = rw (no_attributes before area t h.1) (says_none l.statement.what area l t h.0)

has_laid : (ss : List Statement) (all : List LaidLine) (area : ℕ) (s : AreaStart) (o : Option LaidPools) → IsStart ss all area (Some s)
    → IsLaidOut area (pieces_of all) o
    → (p : LaidPools) × (o ≡ Some p) × IsLaid area (pieces_of all) p
has_laid ss all area s (Some p) b h = (p, refl, h)
has_laid ss all area s None b h = let e = no_attributes all area (is_thumb_area area ss) h in absurd (cc)

-- ---- pairs

within : {A : Type 0} (xs : List A) (i : ℕ) → i < length xs → (x : A) × (slice_get xs i ≡ Some x)
within [] i less = absurd (omega arith)
within (x ∷ xs) zero less = (x, refl)
within (x ∷ xs) (suc i) less = within xs i (omega arith)

zip_long : (ss : List AreaStart) (ps : List LaidPools) → ((i : ℕ) → i < length ss → (p : LaidPools) × (slice_get ps i ≡ Some p))
    → length (zip ss ps) ≡ length ss
zip_long [] ps h = refl
zip_long (s ∷ ss) [] h = let r = h 0 (omega arith) in absurd (cc)
zip_long (s ∷ ss) (p ∷ ps) h = ap suc (zip_long ss ps (λ i less. h (suc i) (omega arith)))

made_at : (ss : List AreaStart) (ps : List LaidPools) (areas : List LaidArea) (i : ℕ) (a : LaidArea) → AreMade (zip ss ps) areas → slice_get areas i ≡ Some a
    → (s : AreaStart) × (p : LaidPools) × (slice_get ss i ≡ Some s) × (slice_get ps i ≡ Some p) × IsMade (s, p) a
made_at [] ps [] i a h e = absurd (cc)
made_at [] ps (b ∷ areas) i a h e = absurd h
made_at (s ∷ ss) [] [] i a h e = absurd (cc)
made_at (s ∷ ss) [] (b ∷ areas) i a h e = absurd h
made_at (s ∷ ss) (p ∷ ps) [] i a h e = absurd h
made_at (s ∷ ss) (p ∷ ps) (b ∷ areas) zero a h e = let same : b ≡ a = cc in (s, p, refl, refl, subst (λ (c : LaidArea). IsMade (s, p) c) same h.0)
made_at (s ∷ ss) (p ∷ ps) (b ∷ areas) (suc i) a h e = made_at ss ps areas i a h.1 e

named_at : (ss : List AreaStart) (i : ℕ) (s : AreaStart) → slice_get ss i ≡ Some s → slice_get (map (λ (x : AreaStart). x.name) ss) i ≡ Some s.name
named_at [] i s e = absurd (cc)
named_at (x ∷ ss) zero s e = let same : x ≡ s = cc in ap (λ (y : AreaStart). Some y.name) same
named_at (x ∷ ss) (suc i) s e = named_at ss i s e

map_long : (ss : List AreaStart) → length (map (λ (x : AreaStart). x.name) ss) ≡ length ss
map_long [] = refl
map_long (s ∷ ss) = ap suc (map_long ss)

pub areas_are : (all : List LaidLine) (ss : List AreaStart) (ps : List LaidPools) (yielded : List (AreaStart × LaidPools)) (areas : List LaidArea)
    → yielded ≡ zip ss ps → AreMade yielded areas → AreLaid (pieces_of all) ps → AreStarts (statements_of all) all ss → AreAreas all areas
areas_are all ss ps yielded areas y m laid begun =
    let statements = statements_of all in
    let made : AreMade (zip ss ps) areas = subst (λ (xs : List (AreaStart × LaidPools)). AreMade xs areas) y m in
    let full : length (zip ss ps) ≡ length ss = zip_long ss ps (λ i less. let s = within ss i less in
    let r = has_laid statements all i s.0 (slice_get ps i) (subst (λ (o : Option AreaStart). IsStart statements all i o) s.1 (begun.each i)) (laid.each i) in
    (r.0, r.1)) in
    record {
      count = AllZip-long IsMade (zip ss ps) areas made ∙ full ∙ sym (map_long ss) ∙ ap (λ (ns : List (List ℕ)). length ns) begun.names;
      each = λ i a e.
          let r = made_at ss ps areas i a made e in
          let b : IsStart statements all i (Some r.0) = subst (λ (o : Option AreaStart). IsStart statements all i o) r.2 (begun.each i) in
          let l : IsLaid i (pieces_of all) r.1 = subst (λ (o : Option LaidPools). IsLaidOut i (pieces_of all) o) r.3 (laid.each i) in
          record {
            name = ap (λ (ns : List (List ℕ)). slice_get ns i) (sym begun.names) ∙ named_at ss i r.0 r.2 ∙ ap Some (sym r.4.name);
            attributes = b ∙ ap Some (sym r.4.attributes);
            size = r.4.size ∙ l.size;
            pools = r.4.pools ∙ l.pools;
            words = ap (λ (p : Pooled). p.placed) r.4.pools ∙ l.words;
          };
    }
