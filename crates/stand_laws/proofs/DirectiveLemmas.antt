-- The fields of an area's relocations are those of the things that have them.
use Rattle.std.proofs.Common.{◌≡◌, ◌⊎◌, inl, inr, ℕ, ◌+◌, ◌*◌, ◌%◌, ◌^◌, ◌<◌, ◌≤◌, Bool, true, false, cond, List, [], ◌∷◌, length, Option, Some, None, refl, sym, ap, subst, ◌∙◌, arith}
use Rattle.sdt_word.specs.Numbers.{flag}
use Rattle.aof_object.specs.declared.records.Reloc.{Reloc}
use Rattle.arm_isa.specs.declared.instr.ArmInstr.{ArmInstr}
use Rattle.asm_model.specs.declared.statements.Statement.{Statement}
use Rattle.asm_model.specs.Laid.{pieces_of, laid}
use Rattle.asm_model.specs.Offsets.{area_size}
use Rattle.patch_model.specs.Fields.{Kind, Byte as ByteField, Half as HalfField, Word as WordField, Branch as BranchField, Values, field_of, is_relative, is_by_symbol, number_named, value_named, is_thumb_label, mark_in, mark_of, added, taken, size_of}
use Rattle.patch_model.specs.Patched.{IsOutside}
use Rattle.patch_model.proofs.SumLemmas.{one}
use Rattle.source_model.specs.Objects.{Piece, unit_bytes, Source, source_of, StandsIn, symbol_number, word_relocs, branch_relocs, link_relocs, relocs_of, IsRelocOf, HasRelocs}
use Rattle.source_model.specs.Units.{Bytes, Word, Instruction, Half, LinkPair, Stored, RelocationTarget, Nothing, ByArea, BySymbol}
use Rattle.source_laws.specs.Laws.{StandApart}
use Rattle.object_laws.proofs.RelocLemmas.{TargetBelow, UnitBelow}
use Rattle.stand_laws.proofs.GoodLemmas.{LinkedAligned, IsGood}
use Rattle.stand_laws.proofs.RelocLemmas.{reloc_at, PlacesRise, RelocIs, by_area, by_symbol, of_branch, of_pair}

-- what is known of what stands in an area
pub record Facts (ss : List Statement) (area : ℕ) : Type 0 where
  pub good : (p : Piece) → StandsIn (source_of ss) area p → IsGood p
  pub below : (p : Piece) → StandsIn (source_of ss) area p → UnitBelow (2 ^ 24) p.1
  pub symbols : (name : List ℕ) → symbol_number (source_of ss) name < 2 ^ 24
  pub apart : (p q : Piece) → StandsIn (source_of ss) area p → StandsIn (source_of ss) area q → (p ≡ q) ⊎ StandApart p q
  pub inside : (p : Piece) → StandsIn (source_of ss) area p → p.0 + length (unit_bytes p.1) ≤ area_size area (pieces_of (laid ss))

-- ---- one field

pub record FieldOf (q : Piece) (r : Reloc) : Type 0 where
  pub place : (field_of r).place ≡ q.0
  pub size : size_of (field_of r).kind ≡ length (unit_bytes q.1)
  pub from_offset : q.0 ≤ r.offset
  pub to_offset : r.offset ≤ q.0 + 1

field_by : (q : Piece) (r : Reloc) (kind : Kind) (relative by : Bool) (n : ℕ) → RelocIs r q.0 kind relative by n → q.0 ≤ r.offset → r.offset ≤ q.0 + 1
    → size_of kind ≡ length (unit_bytes q.1) → FieldOf q r
field_by q r kind relative by n is low high s = record { place = is.place; size = ap size_of is.kind_is ∙ s; from_offset = low; to_offset = high }

word_field : (s : Source) (at : ℕ) (w : Stored) (t : RelocationTarget) (r : Reloc) → TargetBelow (2 ^ 24) t → ((name : List ℕ) → symbol_number s name < 2 ^ 24)
    → IsRelocOf (word_relocs s at t) r → FieldOf (at, Word w) r
word_field s at w Nothing r good symbols h = absurd h
word_field s at w (ByArea k) r good symbols (inl e) =
    subst (λ (z : Reloc). FieldOf (at, Word w) z) (sym e)
    (field_by (at, Word w) (record { offset = at; word = 2 ^ 31 + 2 * 2 ^ 24 + k }) WordField false false k (by_area at k good) (omega arith) (omega arith)
    refl)
word_field s at w (ByArea k) r good symbols (inr h) = absurd h
word_field s at w (BySymbol name) r good symbols (inl e) =
    let n = symbol_number s name in
    subst (λ (z : Reloc). FieldOf (at, Word w) z) (sym e)
    (field_by (at, Word w) (record { offset = at; word = 2 ^ 31 + 2 ^ 27 + 2 * 2 ^ 24 + n }) WordField false true n (by_symbol at n (symbols name))
    (omega arith) (omega arith) refl)
word_field s at w (BySymbol name) r good symbols (inr h) = absurd h

branch_field : (s : Source) (at : ℕ) (i : ArmInstr) (o : Option (List ℕ)) (r : Reloc) → LinkedAligned at o → ((name : List ℕ) → symbol_number s name < 2 ^ 24)
    → IsRelocOf (branch_relocs s at o) r → FieldOf (at, Instruction i o) r
branch_field s at i None r good symbols h = absurd h
branch_field s at i (Some name) r good symbols (inl e) =
    let n = symbol_number s name in
    subst (λ (z : Reloc). FieldOf (at, Instruction i (Some name)) z) (sym e)
    (field_by (at, Instruction i (Some name)) (record { offset = at; word = 2 ^ 31 + 2 ^ 27 + 2 ^ 26 + 3 * 2 ^ 24 + n }) (BranchField false) true true n
    (of_branch at n (symbols name) good) (omega arith) (omega arith) refl)
branch_field s at i (Some name) r good symbols (inr h) = absurd h

pair_field : (s : Source) (at first second : ℕ) (o : Option (List ℕ)) (r : Reloc) → at % 2 ≡ 0 → ((name : List ℕ) → symbol_number s name < 2 ^ 24)
    → IsRelocOf (link_relocs s at o) r → FieldOf (at, LinkPair first second o) r
pair_field s at first second None r even symbols h = absurd h
pair_field s at first second (Some name) r even symbols (inl e) =
    let n = symbol_number s name in
    subst (λ (z : Reloc). FieldOf (at, LinkPair first second (Some name)) z) (sym e)
    (field_by (at, LinkPair first second (Some name)) (record { offset = at + 1; word = 2 ^ 31 + 2 ^ 27 + 2 ^ 26 + 3 * 2 ^ 24 + n }) (BranchField true) true
    true n
    (of_pair at n (symbols name) even) (omega arith) (omega arith) refl)
pair_field s at first second (Some name) r even symbols (inr h) = absurd h

pub piece_field : (s : Source) (q : Piece) (r : Reloc) → IsGood q → UnitBelow (2 ^ 24) q.1 → ((name : List ℕ) → symbol_number s name < 2 ^ 24)
    → IsRelocOf (relocs_of s q) r → FieldOf q r
piece_field s (at, Bytes b) r good below symbols h = absurd h
piece_field s (at, Word w) r good below symbols h = word_field s at w w.target r below symbols h
piece_field s (at, Instruction i o) r good below symbols h = branch_field s at i o r good.1 symbols h
piece_field s (at, Half i) r good below symbols h = absurd h
piece_field s (at, LinkPair first second o) r good below symbols h = pair_field s at first second o r good.1 symbols h

-- ---- all fields of an area

option_reloc : (s : Source) (at : ℕ) (o : Option (List ℕ)) (q r : Reloc) → IsRelocOf (branch_relocs s at o) q → IsRelocOf (branch_relocs s at o) r → q ≡ r
option_reloc s at None q r h k = absurd h
option_reloc s at (Some name) q r (inl e) (inl f) = e ∙ sym f
option_reloc s at (Some name) q r (inr h) k = absurd h
option_reloc s at (Some name) q r (inl e) (inr k) = absurd k

target_reloc : (s : Source) (at : ℕ) (t : RelocationTarget) (q r : Reloc) → IsRelocOf (word_relocs s at t) q → IsRelocOf (word_relocs s at t) r → q ≡ r
target_reloc s at Nothing q r h k = absurd h
target_reloc s at (ByArea n) q r (inl e) (inl f) = e ∙ sym f
target_reloc s at (ByArea n) q r (inr h) k = absurd h
target_reloc s at (ByArea n) q r (inl e) (inr k) = absurd k
target_reloc s at (BySymbol name) q r (inl e) (inl f) = e ∙ sym f
target_reloc s at (BySymbol name) q r (inr h) k = absurd h
target_reloc s at (BySymbol name) q r (inl e) (inr k) = absurd k

-- a thing has one relocation at most
one_reloc : (s : Source) (p : Piece) (q r : Reloc) → IsRelocOf (relocs_of s p) q → IsRelocOf (relocs_of s p) r → q ≡ r
one_reloc s (at, Bytes b) q r h k = absurd h
one_reloc s (at, Word w) q r h k = target_reloc s at w.target q r h k
one_reloc s (at, Instruction i o) q r h k = option_reloc s at o q r h k
one_reloc s (at, Half i) q r h k = absurd h
one_reloc s (at, LinkPair first second o) q r h k = option_reloc s (at + 1) o q r h k

some_size : (k : Kind) → 1 ≤ size_of k
some_size ByteField = omega arith
some_size HalfField = omega arith
some_size WordField = omega arith
some_size (BranchField thumb) = omega arith

behind_end : (a n b x : ℕ) → a ≡ x → 1 ≤ n → x + n ≤ b → a < b
behind_end a n b x e some h = omega arith

none_before : (q r x n y : ℕ) → x ≤ q → r ≤ y + 1 → y + n ≤ x → 1 ≤ n → q < r → ⊥
none_before q r x n y low high h some lt = omega arith

pub places_rise : (ss : List Statement) (area : ℕ) (relocs : List Reloc) → Facts ss area → HasRelocs (source_of ss) area relocs → PlacesRise relocs
places_rise ss area relocs facts has q r i j lt = by_case (facts.apart x.0 y.0 x.1 y.1)
  where
    x : (p : Piece) × StandsIn (source_of ss) area p × IsRelocOf (relocs_of (source_of ss) p) q
    x = has.no_others q i

    y : (p : Piece) × StandsIn (source_of ss) area p × IsRelocOf (relocs_of (source_of ss) p) r
    y = has.no_others r j

    f : FieldOf x.0 q
    f = piece_field (source_of ss) x.0 q (facts.good x.0 x.1) (facts.below x.0 x.1) facts.symbols x.2

    g : FieldOf y.0 r
    g = piece_field (source_of ss) y.0 r (facts.good y.0 y.1) (facts.below y.0 y.1) facts.symbols y.2

    long : (p : Piece) (z : Reloc) → FieldOf p z → 1 ≤ length (unit_bytes p.1)
    long p z h = subst (λ n. 1 ≤ n) h.size (some_size (field_of z).kind)

    by_case : (x.0 ≡ y.0) ⊎ StandApart x.0 y.0 → (field_of q).place < (field_of r).place
    by_case (inl e) =
        let same : q ≡ r = one_reloc (source_of ss) y.0 q r (subst (λ (p : Piece). IsRelocOf (relocs_of (source_of ss) p) q) e x.2) y.2 in
        let less : r.offset < r.offset = subst (λ (z : Reloc). z.offset < r.offset) same lt in
        absurd (omega arith)
    by_case (inr (inl h)) =
        subst (λ n. (field_of q).place < n) (sym g.place)
        (behind_end (field_of q).place (length (unit_bytes x.0.1)) y.0.0 x.0.0 f.place (long x.0 q f) h)
    by_case (inr (inr h)) =
        absurd (none_before q.offset r.offset x.0.0 (length (unit_bytes y.0.1)) y.0.0 f.from_offset g.to_offset h (long y.0 r g) lt)

misses : (i a n x m : ℕ) → a ≡ x → n ≡ m → (i < x) ⊎ (x + m ≤ i) → (i < a) ⊎ (a + n ≤ i)
misses i a n x m e f (inl h) = inl (omega arith)
misses i a n x m e f (inr h) = inr (omega arith)

-- a place outside all things that have relocations
pub outside_fields : (ss : List Statement) (area : ℕ) (relocs : List Reloc) → Facts ss area → HasRelocs (source_of ss) area relocs → (i : ℕ)
    → ((q : Piece) → StandsIn (source_of ss) area q → (r : Reloc) → IsRelocOf (relocs_of (source_of ss) q) r → (i < q.0) ⊎ (q.0 + length (unit_bytes q.1) ≤ i))
    → IsOutside relocs i
outside_fields ss area relocs facts has i away k r there =
    let p = has.no_others r (reloc_at relocs k r there) in
    let f = piece_field (source_of ss) p.0 r (facts.good p.0 p.1) (facts.below p.0 p.1) facts.symbols p.2 in
    misses i (field_of r).place (size_of (field_of r).kind) p.0.0 (length (unit_bytes p.0.1)) f.place f.size (away p.0 p.1 r p.2)

-- each place of a thing without relocations
pub outside_thing : (ss : List Statement) (area : ℕ) (relocs : List Reloc) → Facts ss area → HasRelocs (source_of ss) area relocs
    → (p : Piece) → StandsIn (source_of ss) area p → relocs_of (source_of ss) p ≡ [] → (i : ℕ) → p.0 ≤ i → i < p.0 + length (unit_bytes p.1)
    → IsOutside relocs i
outside_thing ss area relocs facts has p x none i from below = outside_fields ss area relocs facts has i away
  where
    away : (q : Piece) → StandsIn (source_of ss) area q → (r : Reloc) → IsRelocOf (relocs_of (source_of ss) q) r → (i < q.0)
        ⊎ (q.0 + length (unit_bytes q.1) ≤ i)
    away q y r h = by_case (facts.apart p q x y)
      where
        by_case : (p ≡ q) ⊎ StandApart p q → (i < q.0) ⊎ (q.0 + length (unit_bytes q.1) ≤ i)
        by_case (inl e) =
            absurd (subst (λ (rs : List Reloc). IsRelocOf rs r) none (subst (λ (z : Piece). IsRelocOf (relocs_of (source_of ss) z) r) (sym e) h))
        by_case (inr (inl g)) = inl (omega arith)
        by_case (inr (inr g)) = inr (omega arith)

-- ---- what one directive adds and takes away

value_is : (values : Values) (r : Reloc) (b : Bool) (n : ℕ) → is_by_symbol r ≡ b → number_named r ≡ n
    → value_named values r ≡ cond b (values.symbol n).number (values.base n)
value_is values r b n e h =
    ap (λ c. cond c (values.symbol (number_named r)).number (values.base (number_named r))) e ∙ ap (λ m. cond b (values.symbol m).number (values.base m)) h

mark_is : {at : ℕ} → (values : Values) (r : Reloc) (kind : Kind) (relative by : Bool) (n : ℕ) → RelocIs r at kind relative by n
    → mark_of values r ≡ mark_in kind relative by (is_thumb_label (values.symbol n))
mark_is values r kind relative by n is =
    ap (λ k. mark_in k (is_relative r) (is_by_symbol r) (is_thumb_label (values.symbol (number_named r)))) is.kind_is
    ∙ ap (λ b. mark_in kind b (is_by_symbol r) (is_thumb_label (values.symbol (number_named r)))) is.relative_is
    ∙ ap (λ b. mark_in kind relative b (is_thumb_label (values.symbol (number_named r)))) is.by_symbol_is
    ∙ ap (λ m. mark_in kind relative by (is_thumb_label (values.symbol m))) is.number

pub adds : {at : ℕ} → (values : Values) (base : ℕ) (r : Reloc) (kind : Kind) (relative by : Bool) (n : ℕ) → RelocIs r at kind relative by n
    → added values (r ∷ []) ≡ cond by (values.symbol n).number (values.base n) + mark_in kind relative by (is_thumb_label (values.symbol n))
adds values base r kind relative by n is =
    (one values base r).0
    ∙ ap (λ v. v + mark_of values r) (value_is values r by n is.by_symbol_is is.number)
    ∙ ap (λ m. cond by (values.symbol n).number (values.base n) + m) (mark_is values r kind relative by n is)

pub takes : {at : ℕ} → (values : Values) (base : ℕ) (r : Reloc) (kind : Kind) (relative by : Bool) (n : ℕ) → RelocIs r at kind relative by n
    → taken base (r ∷ []) ≡ base * flag relative
takes values base r kind relative by n is = (one values base r).1 ∙ ap (λ b. base * flag b) is.relative_is
