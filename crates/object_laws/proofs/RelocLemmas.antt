-- The bytes and relocations of an object's areas are valid.
use Rattle.std.proofs.Common.{◌≡◌, ℕ, ◌+◌, ◌*◌, ◌^◌, ◌<◌, ◌≤◌, ◌==◌, List, [], ◌∷◌, length, cond, refl, sym, ◌∙◌, ap, subst, arith, Option, Some, None, inl, inr}
use Rattle.std.specs.Prelude.{map}
use Rattle.std.specs.List.{AllByRecursion}
use Rattle.sdt_word.specs.Numbers.{bit}
use Rattle.aof_object.specs.declared.records.Area.{Area}
use Rattle.aof_object.specs.declared.records.Object.{Object}
use Rattle.aof_object.specs.declared.records.Reloc.{Reloc}
use Rattle.aof_object.specs.Objects.{stored as stored_size}
use Rattle.aof_object.specs.Validity.{IsReloc, Holds}
use Rattle.asm_model.specs.declared.directives.Contents.{Contents}
use Rattle.asm_model.specs.declared.directives.Contents.TheVariants as contents
use Rattle.asm_model.specs.declared.statements.Statement.{Statement}
use Rattle.asm_model.specs.Before.{areas_behind}
use Rattle.asm_model.specs.Laid.{statements_of, laid}
use Rattle.asm_model.specs.Symbols.{symbols_of}
use Rattle.asm_model.specs.Said.{HoldsNoZero}
use Rattle.source_model.specs.Objects.{source_of, symbol_number, word_relocs, branch_relocs, relocs_of, IsRelocOf, HasRelocs, contents_of, symbol_named, symbol_records, is_kept, KeepsBytes, IsArea, IsObject}
use Rattle.source_model.specs.Units.{Emitted, Bytes, Word, Instruction, Half, LinkPair, RelocationTarget, Nothing, ByArea, BySymbol}
use Rattle.source_laws.proofs.ZeroLemmas.{place_below}
use Rattle.object_laws.specs.Laws.{IsListed, OptionListed, TargetListed, UnitListed, AreFaultless}
use Rattle.object_laws.proofs.AreaLemmas.{area_facts}
use Rattle.object_laws.proofs.BitLemmas.{zero_flag, by_area, by_symbol, by_branch}
use Rattle.object_laws.proofs.EachLemmas.{each_by_place, areas_text, areas_kept}
pub use Rattle.object_laws.proofs.TargetLemmas.{TargetBelow, UnitBelow, things_below}
use Rattle.object_laws.proofs.TargetLemmas.{things_known}
use Rattle.aof_object.proofs.SpelledObject.{all_get as each_at}

-- ---- relocations

pub by_area_valid : (areas symbols at n : ℕ) → areas < 2 ^ 24 → n < areas → IsReloc areas symbols (record { offset = at; word = 2 ^ 31 + 2 * 2 ^ 24 + n })
by_area_valid areas symbols at n h k =
    let w = 2 ^ 31 + 2 * 2 ^ 24 + n in
    let b = by_area n (omega (arith, h, k)) in
    record { form = b.0; index = subst (λ z. z < cond (bit w 27 == 1) symbols areas) (sym b.2) (subst (λ z. n < cond (z == 1) symbols areas) (sym b.1) k) }

pub by_symbol_valid : (areas symbols at n : ℕ) → symbols < 2 ^ 24 → n < symbols
    → IsReloc areas symbols (record { offset = at; word = 2 ^ 31 + 2 ^ 27 + 2 * 2 ^ 24 + n })
by_symbol_valid areas symbols at n h k =
    let w = 2 ^ 31 + 2 ^ 27 + 2 * 2 ^ 24 + n in
    let b = by_symbol n (omega (arith, h, k)) in
    record { form = b.0; index = subst (λ z. z < cond (bit w 27 == 1) symbols areas) (sym b.2) (subst (λ z. n < cond (z == 1) symbols areas) (sym b.1) k) }

pub by_branch_valid : (areas symbols at n : ℕ) → symbols < 2 ^ 24 → n < symbols
    → IsReloc areas symbols (record { offset = at; word = 2 ^ 31 + 2 ^ 27 + 2 ^ 26 + 3 * 2 ^ 24 + n })
by_branch_valid areas symbols at n h k =
    let w = 2 ^ 31 + 2 ^ 27 + 2 ^ 26 + 3 * 2 ^ 24 + n in
    let b = by_branch n (omega (arith, h, k)) in
    record { form = b.0; index = subst (λ z. z < cond (bit w 27 == 1) symbols areas) (sym b.2) (subst (λ z. n < cond (z == 1) symbols areas) (sym b.1) k) }

-- so many areas and symbols
pub record AreFew (ss : List Statement) (areas symbols : ℕ) : Type 0 where
  pub areas_are : length (areas_behind ss) ≡ areas
  pub symbols_are : length (symbols_of (source_of ss).names (source_of ss).lines) ≡ symbols
  pub few_areas : areas < 2 ^ 24
  pub few_symbols : symbols < 2 ^ 24

pub symbol_below : (ss : List Statement) (areas symbols : ℕ) → AreFew ss areas symbols → (q : List ℕ)
    → IsListed (symbols_of (source_of ss).names (source_of ss).lines) q → symbol_number (source_of ss) q < symbols
symbol_below ss areas symbols few q h =
    subst (λ z. symbol_number (source_of ss) q < z) few.symbols_are (place_below q (symbols_of (source_of ss).names (source_of ss).lines) h)

pub word_valid : (ss : List Statement) (areas symbols : ℕ) → AreFew ss areas symbols → (at : ℕ) (t : RelocationTarget)
    → TargetListed (symbols_of (source_of ss).names (source_of ss).lines) t → TargetBelow areas t → (r : Reloc) → IsRelocOf (word_relocs (source_of ss) at t) r
    → IsReloc areas symbols r
word_valid ss areas symbols few at Nothing h k r i = absurd i
word_valid ss areas symbols few at (ByArea a) h k r (inl e) =
    subst (λ z. IsReloc areas symbols z) (sym e) (by_area_valid areas symbols at a few.few_areas k)
word_valid ss areas symbols few at (ByArea a) h k r (inr i) = absurd i
word_valid ss areas symbols few at (BySymbol q) h k r (inl e) =
    subst (λ z. IsReloc areas symbols z) (sym e)
    (by_symbol_valid areas symbols at (symbol_number (source_of ss) q) few.few_symbols (symbol_below ss areas symbols few q h))
word_valid ss areas symbols few at (BySymbol q) h k r (inr i) = absurd i

pub branch_valid : (ss : List Statement) (areas symbols : ℕ) → AreFew ss areas symbols → (at : ℕ) (o : Option (List ℕ))
    → OptionListed (symbols_of (source_of ss).names (source_of ss).lines) o → (r : Reloc) → IsRelocOf (branch_relocs (source_of ss) at o) r
    → IsReloc areas symbols r
branch_valid ss areas symbols few at None h r i = absurd i
branch_valid ss areas symbols few at (Some q) h r (inl e) =
    subst (λ z. IsReloc areas symbols z) (sym e)
    (by_branch_valid areas symbols at (symbol_number (source_of ss) q) few.few_symbols (symbol_below ss areas symbols few q h))
branch_valid ss areas symbols few at (Some q) h r (inr i) = absurd i

pub piece_valid : (ss : List Statement) (areas symbols : ℕ) → AreFew ss areas symbols → (at : ℕ) (u : Emitted)
    → UnitListed (symbols_of (source_of ss).names (source_of ss).lines) u → UnitBelow areas u → (r : Reloc) → IsRelocOf (relocs_of (source_of ss) (at, u)) r
    → IsReloc areas symbols r
piece_valid ss areas symbols few at (Bytes b) h k r i = absurd i
piece_valid ss areas symbols few at (Word w) h k r i = word_valid ss areas symbols few at w.target h k r i
piece_valid ss areas symbols few at (Instruction x o) h k r i = branch_valid ss areas symbols few at o h r i
piece_valid ss areas symbols few at (Half x) h k r i = absurd i
piece_valid ss areas symbols few at (LinkPair first second o) h k r i = branch_valid ss areas symbols few (at + 1) o h r i

pub each_reloc : (P : Reloc → Type 0) (rs : List Reloc) → ((r : Reloc) → IsRelocOf rs r → P r) → AllByRecursion P rs
each_reloc P [] f = tt
each_reloc P (r ∷ rs) f = (f r (inl refl), each_reloc P rs (λ q i. f q (inr i)))

pub relocs_valid : (ss : List Statement) → AreFaultless ss → (areas symbols : ℕ) → AreFew ss areas symbols → (area : ℕ) (relocs : List Reloc)
    → HasRelocs (source_of ss) area relocs → AllByRecursion (IsReloc areas symbols) relocs
relocs_valid ss h areas symbols few area relocs x =
    each_reloc (IsReloc areas symbols) relocs
    (λ r i.
    let p = x.no_others r i in
    let known = things_known ss areas (subst (λ n. length (areas_behind (statements_of (laid ss))) ≤ n) few.areas_are (areas_kept ss)) area p.0 p.1 in
    piece_valid ss areas symbols few p.0.0 p.0.1 known.1 known.0 r p.2)

-- ---- bytes

pub bytes_valid : (ss : List Statement) (area : ℕ) (a : Area) (c : Contents) → IsArea (source_of ss) area a → contents_of area (laid ss) ≡ Some c
    → bit a.attributes 12 ≡ zero_flag c → length a.bytes ≡ stored_size a.attributes a.size
bytes_valid ss area a contents.Code x e b =
    (subst (λ o. KeepsBytes (source_of ss) area (is_kept o) a.bytes) e x.bytes).size ∙ sym x.size ∙ ap (λ z. cond (z == 1) 0 a.size) (sym b)
bytes_valid ss area a contents.Data x e b =
    (subst (λ o. KeepsBytes (source_of ss) area (is_kept o) a.bytes) e x.bytes).size ∙ sym x.size ∙ ap (λ z. cond (z == 1) 0 a.size) (sym b)
bytes_valid ss area a contents.Zeroes x e b =
    ap length (subst (λ o. KeepsBytes (source_of ss) area (is_kept o) a.bytes) e x.bytes) ∙ ap (λ z. cond (z == 1) 0 a.size) (sym b)

-- ---- the contents of areas

pub area_holds : (ss : List Statement) → AreFaultless ss → (areas symbols : ℕ) → AreFew ss areas symbols → (area : ℕ) (a : Area) → IsArea (source_of ss) area a
    → Holds areas symbols a
area_holds ss h areas symbols few area a x =
    let f = area_facts ss h area a x in
    record {
      name = each_at HoldsNoZero (areas_behind ss) area a.name (areas_text ss h.texts) x.name;
      bytes = bytes_valid ss area a f.kind x f.contents f.bits.zero;
      relocs = relocs_valid ss h areas symbols few area a.relocs x.relocs;
    }

pub length_map : {A B : Type 0} (f : A → B) (xs : List A) → length (map f xs) ≡ length xs
length_map f [] = refl
length_map f (x ∷ xs) = let e = length_map f xs in omega (arith, e)

pub object_few : (ss : List Statement) (o : Object) → IsObject ss o → length o.areas < 2 ^ 24 → length o.symbols < 2 ^ 24
    → AreFew ss (length o.areas) (length o.symbols)
object_few ss o x h k =
    record {
      areas_are = sym x.count;
      symbols_are = sym (ap length x.symbols ∙ records_counted);
      few_areas = h;
      few_symbols = k;
    }
  where
    records_counted : length (symbol_records (source_of ss)) ≡ length (symbols_of (source_of ss).names (source_of ss).lines)
    records_counted = length_map (symbol_named (source_of ss)) (symbols_of (source_of ss).names (source_of ss).lines)

pub contents_are_valid : (ss : List Statement) (o : Object) → AreFaultless ss → IsObject ss o → length o.areas < 2 ^ 24 → length o.symbols < 2 ^ 24
    → AllByRecursion (Holds (length o.areas) (length o.symbols)) o.areas
contents_are_valid ss o h x few_areas few_symbols =
    each_by_place (Holds (length o.areas) (length o.symbols)) o.areas
    (λ k a e. area_holds ss h (length o.areas) (length o.symbols) (object_few ss o x few_areas few_symbols) k a (x.areas k a e))
