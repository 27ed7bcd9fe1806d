-- The areas of an object are valid.
use Rattle.std.proofs.Common.{◌≡◌, ◌≢◌, ℕ, zero, suc, ◌%◌, ◌^◌, ◌≤◌, ◌==◌, List, [], ◌∷◌, ◌++◌, append_assoc, append-nil, length, Bool, true, false, cond, ◌||◌, ◌&&◌, nat_lt, refl, sym, ◌∙◌, ap, subst, arith, Option, Some, None, inl}
use Rattle.std.specs.Prelude.{Result, Ok, Err, slice_get}
use Rattle.std.specs.List.{AllByRecursion, list_any}
use Rattle.std.proofs.lemmas.Bool.{or_parts, ltb-false}
use Rattle.sdt_word.specs.Numbers.{bit}
use Rattle.sdt_fault.specs.declared.kinds.LineKind.{LineKind}
use Rattle.sdt_fault.specs.declared.kinds.LineKind.TheVariants.{BadOperand}
use Rattle.chunk_file.specs.Reading.{EachStands}
use Rattle.aof_object.specs.declared.records.Area.{Area}
use Rattle.aof_object.specs.declared.records.Object.{Object}
use Rattle.aof_object.specs.declared.records.Reloc.{Reloc}
use Rattle.aof_object.specs.Checks.{misplaced}
use Rattle.aof_object.specs.Names.{Lacks}
use Rattle.aof_object.specs.Spelling.{area_names}
use Rattle.aof_object.specs.Validity.{head_of, IsArea}
use Rattle.asm_model.specs.declared.directives.AreaAttributes.{AreaAttributes}
use Rattle.asm_model.specs.declared.directives.Contents.{Contents}
use Rattle.asm_model.specs.declared.directives.Contents.TheVariants as contents
use Rattle.asm_model.specs.declared.directives.DirectiveLine.TheVariants as line
use Rattle.asm_model.specs.declared.names.LaidName.{LaidName}
use Rattle.asm_model.specs.declared.statements.Statement.{Statement}
use Rattle.asm_model.specs.declared.statements.What.{What}
use Rattle.asm_model.specs.declared.statements.What.TheVariants as what
use Rattle.asm_model.specs.Directives.{or_else}
use Rattle.asm_model.specs.Forms.{same}
use Rattle.asm_model.proofs.WordLemmas.{same_refl}
use Rattle.asm_model.specs.Before.{thumb_behind, area_named, with_name, areas_behind, area_behind}
use Rattle.asm_model.specs.Labels.{declared_names}
use Rattle.asm_model.specs.Kinds.{kind_if}
use Rattle.asm_model.specs.Laid.{LaidLine, pieces_of, laid_behind, laid_of, laid}
use Rattle.asm_model.specs.LayoutKinds.{exponent, exponent_kinds, is_named_otherwise, area_kinds, contents_kinds, is_instruction, state_at, first_state, is_thumb_area, settled, equals_in}
use Rattle.asm_model.specs.Offsets.{is_of}
use Rattle.layout_laws.proofs.SoundLemmas.{both_empty, kind_none, statements_kept}
use Rattle.asm_model.specs.Fit.{WhatFits, IsFit}
use Rattle.source_model.specs.Objects.{Source, source_of, Piece, StandsIn, attributes_word, or_two, says_area, attributes_of, HasRelocs, contents_in, contents_of, IsArea as IsAreaOf, IsObject}
use Rattle.source_laws.specs.Laws.{IsOfState}
use Rattle.source_laws.proofs.ListedLemmas.{owned}
use Rattle.source_laws.proofs.ZeroLemmas.{contents_there, line_kinds, zero_areas_hold_nothing}
use Rattle.object_laws.specs.Laws.{AreFaultless}
use Rattle.object_laws.proofs.BitLemmas.{IsExponent, AreIn, StateAgrees, zero_flag, area_bits}
use Rattle.object_laws.proofs.EachLemmas.{each_there, each_by_place}
use Rattle.object_laws.proofs.FaultLemmas.{layout_here}
use Rattle.object_laws.proofs.SizeLemmas.{area_small, area_whole}

-- ---- the line that makes an area

pub record FirstLine (area : ℕ) (thumb : Bool) (lines : List LaidLine) (w : ℕ) (c : Contents) : Type 0 where
  pub later : List LaidLine
  pub earlier : List LaidLine
  pub owner : LaidLine
  pub name : List ℕ
  pub attributes : AreaAttributes
  pub parts : lines ≡ later ++ owner ∷ earlier
  pub says : owner.statement.what ≡ what.Directive (line.Area name attributes)
  pub word : w ≡ attributes_word attributes (or_two (exponent owner.seen attributes.alignments)) thumb
  pub holds : c ≡ attributes.contents

abbrev pub Told : ℕ → Bool → List LaidLine → Option ℕ → Option Contents → Type 0
Told area thumb lines None None = Unit {0}
Told area thumb lines (Some w) (Some c) = FirstLine area thumb lines w c
Told area thumb lines _ _ = ⊥

pub told_here : (area : ℕ) (thumb : Bool) (l : LaidLine) (ls : List LaidLine) (w : What) → l.statement.what ≡ w
    → Told area thumb (l ∷ ls) (says_area area l w thumb) (contents_in area l w)
told_here area thumb l ls (what.Directive (line.Area name a)) e = by_test (is_of area l.area)
  where
    by_test : (b : Bool)
        → Told area thumb (l ∷ ls) (cond b (Some (attributes_word a (or_two (exponent l.seen a.alignments)) thumb)) None) (cond b (Some a.contents) None)
    by_test true =
        record { later = []; earlier = ls; owner = l; name = name; attributes = a; parts = refl; says = e; word = refl; holds = refl }
    by_test false = tt
told_here area thumb l ls w e = tt

pub told_later : (area : ℕ) (thumb : Bool) (l : LaidLine) (ls : List LaidLine) (w : ℕ) (c : Contents) → FirstLine area thumb ls w c
    → FirstLine area thumb (l ∷ ls) w c
told_later area thumb l ls w c f =
    record {
      later = l ∷ f.later;
      earlier = f.earlier;
      owner = f.owner;
      name = f.name;
      attributes = f.attributes;
      parts = ap (λ z. l ∷ z) f.parts;
      says = f.says;
      word = f.word;
      holds = f.holds;
    }

pub told : (area : ℕ) (thumb : Bool) (lines : List LaidLine) → Told area thumb lines (attributes_of area thumb lines) (contents_of area lines)
told area thumb [] = tt
told area thumb (l ∷ ls) = by_first (attributes_of area thumb ls) (contents_of area ls) (told area thumb ls)
  where
    by_first : (a : Option ℕ) (c : Option Contents) → Told area thumb ls a c
        → Told area thumb (l ∷ ls) (or_else a (says_area area l l.statement.what thumb)) (or_else c (contents_in area l l.statement.what))
    by_first (Some w) (Some c) h = told_later area thumb l ls w c h
    by_first None None h = told_here area thumb l ls l.statement.what refl
    by_first None (Some c) h = absurd h
    by_first (Some w) None h = absurd h

-- ---- the state of an area

-- a line with an instruction of an area
pub record InstructionOf (area : ℕ) (thumb : Bool) (lines : List LaidLine) : Type 0 where
  pub later : List LaidLine
  pub earlier : List LaidLine
  pub owner : LaidLine
  pub parts : lines ≡ later ++ owner ∷ earlier
  pub own : owner.area ≡ Some area
  pub says : is_instruction owner.statement.what ≡ true
  pub state : owner.thumb ≡ thumb

pub first_instruction : (d : List LaidName) (area : ℕ) (thumb : Bool) (ss : List Statement) → first_state area ss ≡ Some thumb
    → InstructionOf area thumb (laid_of d ss)
first_instruction d area thumb [] e = absurd (cc)
first_instruction d area thumb (s ∷ ss) e = by_first (first_state area ss) (first_instruction d area thumb ss) e
  where
    l : LaidLine
    l = laid_behind d s (laid_of d ss)

    here : (a b : Bool) → is_of area (area_behind (s ∷ ss)) ≡ a → is_instruction s.what ≡ b → cond (a && b) (Some (thumb_behind ss)) None ≡ Some thumb
        → InstructionOf area thumb (l ∷ laid_of d ss)
    here true true x y k = record {
      later = [];
      earlier = laid_of d ss;
      owner = l;
      parts = refl;
      own = ap (λ z. area_behind (s ∷ z)) (statements_kept d ss) ∙ owned area (area_behind (s ∷ ss)) x;
      says = y;
      state = ap thumb_behind (statements_kept d ss) ∙ cc;
    }
    here true false x y k = absurd (cc)
    here false b x y k = absurd (cc)

    by_first : (o : Option Bool) → (o ≡ Some thumb → InstructionOf area thumb (laid_of d ss)) → or_else o (state_at area s ss) ≡ Some thumb
        → InstructionOf area thumb (l ∷ laid_of d ss)
    by_first (Some b) f k =
        let i = f k in
        record {
          later = l ∷ i.later;
          earlier = i.earlier;
          owner = i.owner;
          parts = ap (λ z. l ∷ z) i.parts;
          own = i.own;
          says = i.says;
          state = i.state;
        }
    by_first None f k = here (is_of area (area_behind (s ∷ ss))) (is_instruction s.what) refl refl k

-- an instruction of Thumb state stands in code
pub thumb_agrees : (c : Contents) (w : What) → IsOfState true w → is_instruction w ≡ true → contents_kinds (Some c) true w ≡ [] → StateAgrees c true
thumb_agrees contents.Code w h i k = tt
thumb_agrees c (what.Arm l) h i k = absurd h
thumb_agrees contents.Data (what.Thumb l) h i k = absurd (cc)
thumb_agrees contents.Data (what.Pseudo l) h i k = absurd (cc)
thumb_agrees contents.Zeroes (what.Thumb l) h i k = absurd (cc)
thumb_agrees contents.Zeroes (what.Pseudo l) h i k = absurd (cc)
thumb_agrees c what.Nothing h i k = absurd (cc)
thumb_agrees c (what.Directive l) h i k = absurd (cc)

pub arm_agrees : (c : Contents) → StateAgrees c false
arm_agrees contents.Code = tt
arm_agrees _ = refl

pub state_agrees : (ss : List Statement) → AreFaultless ss → (area : ℕ) (c : Contents) → contents_of area (laid ss) ≡ Some c
    → StateAgrees c (is_thumb_area area ss)
state_agrees ss h area c e = by_state (first_state area ss) refl
  where
    by_instruction : InstructionOf area true (laid ss) → StateAgrees c true
    by_instruction i =
        let l = i.owner in
        thumb_agrees c l.statement.what (subst (λ b. IsOfState b l.statement.what) i.state (h.states i.later i.earlier l i.parts)) i.says
        (subst (λ b. contents_kinds (Some c) b l.statement.what ≡ []) i.state (contents_there ss h.layout area c e i.later i.earlier l i.parts i.own))

    by_state : (o : Option Bool) → first_state area ss ≡ o → StateAgrees c (is_thumb_area area ss)
    by_state None x = rw x (arm_agrees c)
    by_state (Some true) x = rw x (by_instruction (first_instruction (declared_names ss) area true ss x))
    by_state (Some false) x = rw x (arm_agrees c)

-- ---- attributes

pub exponent_fine : (r : Result ℕ LineKind) → exponent_kinds r ≡ [] → IsExponent (or_two r)
exponent_fine (Ok n) h =
    let p = or_parts (nat_lt n 2) (nat_lt 16 n) (kind_none (nat_lt n 2 || nat_lt 16 n) BadOperand h) in (ltb-false n 2 p.0, ltb-false 16 n p.1)
exponent_fine (Err k) h = absurd (cc)

-- what an area of an object is like
pub record AreaFacts (ss : List Statement) (area : ℕ) (a : Area) : Type 0 where
  pub low : ℕ
  pub kind : Contents
  pub exponent : IsExponent low
  pub bits : AreIn a.attributes low kind (is_thumb_area area ss)
  pub contents : contents_of area (laid ss) ≡ Some kind

pub first_facts : (ss : List Statement) → AreFaultless ss → (area : ℕ) (a : Area) (c : Contents) → contents_of area (laid ss) ≡ Some c
    → FirstLine area (is_thumb_area area ss) (laid ss) a.attributes c → AreaFacts ss area a
first_facts ss h area a c e f =
    let l = f.owner in
    let t = f.attributes in
    let kinds = (line_kinds (settled (equals_in ss)) ss l f.earlier (layout_here ss h.layout f.later f.earlier l f.parts)).1 in
    let own = subst (λ w. area_kinds l.seen w f.earlier ≡ []) f.says kinds in
    let low = exponent_fine (exponent l.seen t.alignments)
    (both_empty (exponent_kinds (exponent l.seen t.alignments)) (kind_if (is_named_otherwise f.name l.seen t f.earlier) BadOperand) own).0 in
    let marks = subst WhatFits f.says (each_there IsFit ss h.fit f.later f.earlier l f.parts) in
    let thumb = is_thumb_area area ss in
    let state = state_agrees ss h area t.contents (e ∙ ap Some f.holds) in
    let bits = area_bits (or_two (exponent l.seen t.alignments)) t.contents t.read_only t.pic t.reentrant thumb t.halfword t.interwork low marks state in
    record {
      low = or_two (exponent l.seen t.alignments);
      kind = t.contents;
      exponent = low;
      bits = subst (λ w. AreIn w (or_two (exponent l.seen t.alignments)) t.contents thumb) (sym f.word) bits;
      contents = e ∙ ap Some f.holds;
    }

pub area_facts : (ss : List Statement) → AreFaultless ss → (area : ℕ) (a : Area) → IsAreaOf (source_of ss) area a → AreaFacts ss area a
area_facts ss h area a x =
    by_contents (contents_of area (laid ss)) refl
    (subst (λ o. Told area (is_thumb_area area ss) (laid ss) o (contents_of area (laid ss))) x.attributes
    (told area (is_thumb_area area ss) (laid ss)))
  where
    by_contents : (o : Option Contents) → contents_of area (laid ss) ≡ o → Told area (is_thumb_area area ss) (laid ss) (Some a.attributes) o
        → AreaFacts ss area a
    by_contents None e f = absurd f
    by_contents (Some c) e f = first_facts ss h area a c e f

-- ---- relocations in areas of zeros

pub no_relocs : (s : Source) (area : ℕ) (relocs : List Reloc) → HasRelocs s area relocs → ((p : Piece) → StandsIn s area p → ⊥) → length relocs ≡ 0
no_relocs s area [] h f = refl
no_relocs s area (r ∷ rs) h f = let p = h.no_others r (inl refl) in absurd (f p.0 p.1)

pub nothing_misplaced : (n : ℕ) (b : Bool) → n ≡ 0 → cond b n 0 ≡ 0
nothing_misplaced n true e = e
nothing_misplaced n false e = refl

pub few_relocs : (ss : List Statement) → AreFaultless ss → (area : ℕ) (a : Area) (c : Contents) → contents_of area (laid ss) ≡ Some c
    → bit a.attributes 12 ≡ zero_flag c
    → HasRelocs (source_of ss) area a.relocs → misplaced a.attributes (length a.relocs) ≡ 0
few_relocs ss h area a contents.Code e b x = ap (λ z. cond (z == 1) (length a.relocs) 0) b
few_relocs ss h area a contents.Data e b x = ap (λ z. cond (z == 1) (length a.relocs) 0) b
few_relocs ss h area a contents.Zeroes e b x =
    nothing_misplaced (length a.relocs) (bit a.attributes 12 == 1)
    (no_relocs (source_of ss) area a.relocs x (λ p. zero_areas_hold_nothing ss h.layout area p e))

-- ---- names

pub lacks_all : (n : List ℕ) (xs : List (List ℕ)) → list_any (same n) xs ≡ false → Lacks xs n
lacks_all n [] h = tt
lacks_all n (x ∷ xs) h = let p = or_parts (same n x) (list_any (same n) xs) h in (other p.0, lacks_all n xs p.1)
  where
    other : same n x ≡ false → x ≢ n
    other e = λ y. let z : same n x ≡ true = subst (λ m. same n m ≡ true) (sym y) (same_refl n) in absurd (cc)

abbrev pub AreApart : List (List ℕ) → List (List ℕ) → Type 0
AreApart before xs = EachStands (λ b n. Lacks b n) before xs

pub apart_end : (before xs : List (List ℕ)) (n : List ℕ) → AreApart before xs → Lacks (before ++ xs) n → AreApart before (xs ++ n ∷ [])
apart_end before [] n h k = (subst (λ z. Lacks z n) (append-nil before) k, tt)
apart_end before (x ∷ xs) n h k =
    (h.0, apart_end (before ++ x ∷ []) xs n h.1 (subst (λ z. Lacks z n) (sym (append_assoc before (x ∷ []) xs)) k))

pub apart_with : (n : List ℕ) (xs : List (List ℕ)) → AreApart [] xs → AreApart [] (with_name (Some n) xs)
apart_with n xs h = by_test (list_any (same n) xs) refl
  where
    by_test : (b : Bool) → list_any (same n) xs ≡ b → AreApart [] (cond b xs (xs ++ n ∷ []))
    by_test true e = h
    by_test false e = apart_end [] xs n h (lacks_all n xs e)

pub areas_apart : (ss : List Statement) → AreApart [] (areas_behind ss)
areas_apart [] = tt
areas_apart (s ∷ ss) = by_name (area_named s.what) (areas_apart ss)
  where
    by_name : (o : Option (List ℕ)) → AreApart [] (areas_behind ss) → AreApart [] (with_name o (areas_behind ss))
    by_name None h = h
    by_name (Some n) h = apart_with n (areas_behind ss) h

pub names_same : (names : List (List ℕ)) (areas : List Area) → length areas ≡ length names
    → ((k : ℕ) (a : Area) → slice_get areas k ≡ Some a → slice_get names k ≡ Some a.name) → area_names areas ≡ names
names_same [] [] e f = refl
names_same [] (a ∷ rest) e f = absurd (omega (arith, e))
names_same (n ∷ ns) [] e f = absurd (omega (arith, e))
names_same (n ∷ ns) (a ∷ rest) e f =
    let x : n ≡ a.name = let y = f zero a refl in cc in
    ap (λ z. z ∷ area_names rest) (sym x) ∙ ap (λ z. n ∷ z) (names_same ns rest (omega (arith, e)) (λ k b. f (suc k) b))

pub area_names_end : (before : List Area) (a : Area) → area_names (before ++ a ∷ []) ≡ area_names before ++ a.name ∷ []
area_names_end [] a = refl
area_names_end (b ∷ before) a = ap (λ z. b.name ∷ z) (area_names_end before a)

-- ---- all areas

-- what is asked of an area by itself
pub record IsAreaAlone (a : Area) : Type 0 where
  pub valid : (names : List (List ℕ)) → Lacks names a.name → IsArea names (head_of a)

pub area_alone : (ss : List Statement) → AreFaultless ss → (area : ℕ) (a : Area) → IsAreaOf (source_of ss) area a → IsAreaAlone a
area_alone ss h area a x =
    let f = area_facts ss h area a x in
    record {
      valid = λ names fresh.
          record {
            fresh = fresh;
            permitted = f.bits.refused;
            alignment_least = subst (λ z. 2 ≤ z) (sym f.bits.low) f.exponent.0;
            alignment_most = subst (λ z. z ≤ 16) (sym f.bits.low) f.exponent.1;
            whole_words = subst (λ z. z % 4 ≡ 0) (sym x.size) (area_whole area (pieces_of (laid ss)));
            size_most = subst (λ z. z ≤ 2 ^ 24) (sym x.size) (area_small ss h.layout area);
            relocs_have_bytes = few_relocs ss h area a f.kind f.contents f.bits.zero x.relocs;
          };
    }

pub areas_stand : (before xs : List Area) → AreApart (area_names before) (area_names xs) → AllByRecursion IsAreaAlone xs
    → EachStands (λ b a. IsArea (area_names b) (head_of a)) before xs
areas_stand before [] h k = tt
areas_stand before (a ∷ rest) h k = (
  k.0.valid (area_names before) h.0,
  areas_stand (before ++ a ∷ []) rest (subst (λ z. AreApart z (area_names rest)) (sym (area_names_end before a)) h.1) k.1,
)

pub areas_are_valid : (ss : List Statement) (o : Object) → AreFaultless ss → IsObject ss o
    → EachStands (λ before a. IsArea (area_names before) (head_of a)) [] o.areas
areas_are_valid ss o h x =
    let names = names_same (areas_behind ss) o.areas x.count (λ k a e. (x.areas k a e).name) in
    areas_stand [] o.areas (subst (AreApart []) (sym names) (areas_apart ss)) (each_by_place IsAreaAlone o.areas (λ k a e. area_alone ss h k a (x.areas k a e)))
