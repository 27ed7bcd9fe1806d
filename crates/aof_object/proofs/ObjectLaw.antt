-- The law of objects: what reading gives is what the bytes say.
use Rattle.std.proofs.Common.{◌≡◌, ℕ, ◌+◌, ◌*◌, List, [], ◌∷◌, length, take, drop, Option, Result, Ok, refl, sym, ap, subst, ◌∙◌}
use Rattle.std.specs.Prelude.{◌↔◌}
use Rattle.std.specs.List.{AllByRecursion}
use Rattle.std.proofs.lemmas.List.{length-map}
use Rattle.sdt_word.specs.Bytes.{word_in}
use Rattle.sdt_fault.specs.declared.refusal.Refusal.{Refusal}
use Rattle.chunk_file.specs.Reading.{each, EachStands}
use Rattle.chunk_file.specs.Chunks.{bytes_at, table_of}
use Rattle.chunk_file.proofs.Table.{table_law}
use Rattle.chunk_file.proofs.Loops.{bind_ok, each_law}
use Rattle.chunk_file.proofs.Guards.{equal, past_equal}
use Rattle.aof_object.specs.declared.parts.Parts.{Parts}
use Rattle.aof_object.specs.declared.areas.AreaHead.{AreaHead}
use Rattle.aof_object.specs.declared.records.Area.{Area}
use Rattle.aof_object.specs.declared.records.Entry.{Entry}
use Rattle.aof_object.specs.declared.records.Object.{Object}
use Rattle.aof_object.specs.declared.records.Symbol.{Symbol}
use Rattle.aof_object.specs.Names.{IsText}
use Rattle.aof_object.specs.Parts.{parts_of}
use Rattle.aof_object.specs.Objects.{each_of, counted_areas, head_names, next_head, heads_of, stored, total, next_area, exported, next_symbol, symbols_of, entry_of, object_behind, object_in, object_of}
use Rattle.aof_object.specs.Spelling.{area_names}
use Rattle.aof_object.specs.Validity.{head_of, heads, IsArea, IsReloc, Holds, IsSymbol, IsEntered, IsValid}
use Rattle.aof_object.specs.Grammar.{SaysHead, SaysArea, SaysSymbol, SaysEntry, SaysObject, ReadsObject}
use Rattle.aof_object.proofs.Lists.{both, weaker, all_of, with_all, all_and, from_map, to_map, each_of_law}
use Rattle.aof_object.proofs.AreaLaw.{heads_agree, AreaStands, areas_agree, bytes_long}
use Rattle.aof_object.proofs.SymbolLaw.{SymbolStands, symbols_agree}
use Rattle.aof_object.proofs.PartsLaw.{parts_law, Counted, counted_law, entry_of_law}

-- ---- names of heads are those of their areas

pub names_of_heads : (xs : List Area) → head_names (heads xs) ≡ area_names xs
names_of_heads [] = refl
names_of_heads (x ∷ xs) = ap (λ (ns : List (List ℕ)). x.name ∷ ns) (names_of_heads xs)

-- ---- what was read, in terms of the heads

abbrev HeadStands : List ℕ → List ℕ → List AreaHead → AreaHead → Type 0
HeadStands strings head before h = SaysHead strings (drop (24 + 20 * length before) head) h × IsArea (head_names before) h

record Read (head content strings table : List ℕ) (hs : List AreaHead) (areas : List Area) (symbols : List Symbol) (e : Option Entry) : Type 0 where
  many : length hs ≡ word_in head 8
  rows : EachStands (HeadStands strings head) [] hs
  room : total hs ≡ length content
  bodies : EachStands (λ before a. AreaStands (length hs) (word_in head 12) content (total (take (length before) hs)) a) [] areas
  table_long : length table ≡ 16 * word_in head 12
  symbol_many : length symbols ≡ word_in head 12
  symbol_rows : EachStands (SymbolStands strings hs table) [] symbols
  entry : SaysEntry (word_in head 16) (word_in head 20) e
  entered : IsEntered hs e

abbrev made : List Area → List Symbol → Option Entry → Object
made areas symbols e = record { areas = areas; symbols = symbols; entry = e }

says_of : (head content strings table : List ℕ) (n : ℕ) (areas : List Area) (symbols : List Symbol) (e : Option Entry) → Counted head strings n → Read head content strings table (heads areas) areas symbols e
    → SaysObject head content strings table (made areas symbols e)
says_of head content strings table n areas symbols e c r =
    let count : length (heads areas) ≡ length areas = length-map areas head_of in
    let rows = from_map head_of (HeadStands strings head) [] areas r.rows in
    let says_rows : EachStands (λ before a. SaysHead strings (drop (24 + 20 * length before) head) (head_of a)) [] areas =
    weaker (λ b a. HeadStands strings head (heads b) (head_of a)) _ (λ b a s. subst (λ (k : ℕ). SaysHead strings (drop (24 + 20 * k) head) (head_of a)) (length-map b head_of) s.0) [] areas rows in
    let is_areas : EachStands (λ before a. IsArea (area_names before) (head_of a)) [] areas =
    weaker (λ b a. HeadStands strings head (heads b) (head_of a)) _ (λ b a s. subst (λ (ns : List (List ℕ)). IsArea ns (head_of a)) (names_of_heads b) s.1) [] areas rows in
    let texts : AllByRecursion (λ a. IsText a.name) areas = all_of (λ b a. HeadStands strings head (heads b) (head_of a)) (λ a. IsText a.name) (λ b a s. s.0.name.is_text) [] areas rows in
    let at : List Area → ℕ = λ b. total (take (length b) (heads areas)) in
    let stands = λ (b : List Area) (a : Area). AreaStands (length (heads areas)) (word_in head 12) content (at b) a in
    let says_areas : EachStands (λ b a. SaysArea content (at b) a) [] areas = weaker stands (λ b a. SaysArea content (at b) a) (λ b a s. s.0) [] areas r.bodies in
    let relocs : AllByRecursion (λ a. AllByRecursion (IsReloc (length (heads areas)) (word_in head 12)) a.relocs) areas = all_of stands _ (λ b a s. s.1) [] areas r.bodies in
    let long = bytes_long content [] areas r.room says_areas in
    let named : AllByRecursion (λ a. IsText a.name × (length a.bytes ≡ stored a.attributes a.size)) areas = all_and _ _ _ (λ a t l. (t, l)) areas texts long in
    let holds : AllByRecursion (Holds (length (heads areas)) (word_in head 12)) areas = all_and _ _ _ (λ a t l. record { name = t.0; bytes = t.1; relocs = l }) areas named relocs in
    let counted : AllByRecursion (Holds (length areas) (length symbols)) areas =
    subst (λ (k : ℕ). AllByRecursion (Holds (length areas) k) areas) (sym r.symbol_many) (subst (λ (k : ℕ). AllByRecursion (Holds k (word_in head 12)) areas) count holds) in
    let symbol_rows : EachStands (λ before s. SaysSymbol strings (area_names areas) (drop (16 * length before) table) s) [] symbols =
    weaker (SymbolStands strings (heads areas) table) _ (λ b s h. subst (λ (ns : List (List ℕ)). SaysSymbol strings ns (drop (16 * length b) table) s) (names_of_heads areas) h.0) [] symbols r.symbol_rows in
    let is_symbols : EachStands (λ before s. IsSymbol (exported before) (heads areas) s) [] symbols = weaker (SymbolStands strings (heads areas) table) _ (λ b s h. h.1) [] symbols r.symbol_rows in
    let symbol_texts : AllByRecursion (λ s. IsText s.name) symbols = all_of (SymbolStands strings (heads areas) table) _ (λ b s h. h.0.name.is_text) [] symbols r.symbol_rows in
    let valid : IsValid (made areas symbols e) = record { areas = is_areas; contents = counted; symbols = is_symbols; symbol_names = symbol_texts; entry = r.entered } in
    record {
      long = c.long;
      long_for_areas = c.long_for_areas;
      magic = c.magic;
      version = c.version;
      strings_long = c.strings_long;
      strings_length = c.strings_length;
      area_count = sym count ∙ r.many;
      area_rows = says_rows;
      area_bytes = r.room;
      areas = says_areas;
      symbol_bytes = r.table_long;
      symbol_count = r.symbol_many;
      symbol_rows = symbol_rows;
      entry = r.entry;
      valid = valid;
    }

read_of : (head content strings table : List ℕ) (o : Object) → SaysObject head content strings table o → Read head content strings table (heads o.areas) o.areas o.symbols o.entry
read_of head content strings table o s =
    let areas = o.areas in
    let v = s.valid in
    let count : length (heads areas) ≡ length areas = length-map areas head_of in
    let rows : EachStands (λ b a. HeadStands strings head (heads b) (head_of a)) [] areas =
    weaker _ _ (λ b a h. (subst (λ (k : ℕ). SaysHead strings (drop (24 + 20 * k) head) (head_of a)) (sym (length-map b head_of)) h.0, subst (λ (ns : List (List ℕ)). IsArea ns (head_of a)) (sym (names_of_heads b)) h.1)) [] areas
    (both (λ before a. SaysHead strings (drop (24 + 20 * length before) head) (head_of a)) (λ before a. IsArea (area_names before) (head_of a)) [] areas s.area_rows v.areas) in
    let counted : AllByRecursion (Holds (length (heads areas)) (word_in head 12)) areas =
    subst (λ (k : ℕ). AllByRecursion (Holds (length (heads areas)) k) areas) s.symbol_count (subst (λ (k : ℕ). AllByRecursion (Holds k (length o.symbols)) areas) (sym count) v.contents) in
    let bodies : EachStands (λ before a. AreaStands (length (heads areas)) (word_in head 12) content (total (take (length before) (heads areas))) a) [] areas =
    with_all (λ before a. SaysArea content (total (take (length before) (heads areas))) a) (Holds (length (heads areas)) (word_in head 12)) _ (λ b a p q. (p, q.relocs)) [] areas s.areas counted in
    let symbols : EachStands (SymbolStands strings (heads areas) table) [] o.symbols =
    weaker _ _ (λ b x h. (subst (λ (ns : List (List ℕ)). SaysSymbol strings ns (drop (16 * length b) table) x) (sym (names_of_heads areas)) h.0, h.1)) [] o.symbols
    (both (λ before x. SaysSymbol strings (area_names areas) (drop (16 * length before) table) x) (λ before x. IsSymbol (exported before) (heads areas) x) [] o.symbols s.symbol_rows v.symbols) in
    record {
      many = count ∙ s.area_count;
      rows = to_map head_of (HeadStands strings head) [] areas rows;
      room = s.area_bytes;
      bodies = bodies;
      table_long = s.symbol_bytes;
      symbol_many = s.symbol_count;
      symbol_rows = symbols;
      entry = s.entry;
      entered = v.entry;
    }

-- ---- reading

heads_law : (p : Parts) (head strings content : List ℕ) (hs : List AreaHead) → (heads_of p head strings content ≡ Ok hs) ↔ ((length hs ≡ word_in head 8) × EachStands (HeadStands strings head) [] hs × (total hs ≡ length content))
unfolding heads_of
heads_law p head strings content hs = (
  λ e. let g = bind_ok (each (next_head strings p.head.offset head) (word_in head 8) []) _ hs e in
      let t = equal (total g.0) (length content) _ (list g.0) hs g.2 in
      let r = (each_law (next_head strings p.head.offset head) (HeadStands strings head) (heads_agree strings head p.head.offset) (word_in head 8) g.0).0 g.1 in
      subst (λ (xs : List AreaHead). (length xs ≡ word_in head 8) × EachStands (HeadStands strings head) [] xs × (total xs ≡ length content)) (list_is g.0 hs t.1) (r.0, r.1, t.0),
  λ h. let r = (each_law (next_head strings p.head.offset head) (HeadStands strings head) (heads_agree strings head p.head.offset) (word_in head 8) hs).1 (h.0, h.1) in
      rw r (past_equal (total hs) (length content) _ _ h.2),
)
  where
    list : List AreaHead → Result (List AreaHead) Refusal
    list xs = Ok xs

    list_is : (xs ys : List AreaHead) → list xs ≡ list ys → xs ≡ ys
    list_is xs ys e = cc

symbols_law : (p : Parts) (strings : List ℕ) (hs : List AreaHead) (table : List ℕ) (count : ℕ) (ss : List Symbol)
    → (symbols_of p strings hs table count ≡ Ok ss) ↔ ((length table ≡ 16 * count) × (length ss ≡ count) × EachStands (SymbolStands strings hs table) [] ss)
unfolding symbols_of
symbols_law p strings hs table count ss = (
  λ e. let t = equal (length table) (16 * count) _ _ ss e in
      let r = (each_law (next_symbol strings hs p.symbols.offset table) (SymbolStands strings hs table) (symbols_agree strings hs p.symbols.offset table) count ss).0 t.1 in
      (t.0, r.0, r.1),
  λ h. past_equal (length table) (16 * count) _ _ h.0 ∙ (each_law (next_symbol strings hs p.symbols.offset table) (SymbolStands strings hs table) (symbols_agree strings hs p.symbols.offset table) count ss).1 (h.1, h.2),
)

abbrev object : Object → Result Object Refusal
object o = Ok o

object_is : (o q : Object) → object o ≡ object q → o ≡ q
object_is o q e = cc

abbrev place_of : List AreaHead → List Area → ℕ
place_of hs b = total (take (length b) hs)

object_in_takes : (p : Parts) (head content strings table : List ℕ) (o : Object) → object_in p head content strings table ≡ Ok o → SaysObject head content strings table o
unfolding object_in object_behind
object_in_takes p head content strings table o e =
    let c = bind_ok (counted_areas p head strings) _ o e in
    let h = bind_ok (heads_of p head strings content) _ o c.2 in
    let step = next_area h.0 (word_in head 12) p.areas.offset content in
    let a = bind_ok (each_of step h.0 []) _ o h.2 in
    let s = bind_ok (symbols_of p strings h.0 table (word_in head 12)) _ o a.2 in
    let y = bind_ok (entry_of p head h.0) _ o s.2 in
    let hl = (heads_law p head strings content h.0).0 h.1 in
    let al = (each_of_law head_of step (λ b x. AreaStands (length h.0) (word_in head 12) content (place_of h.0 b) x) (areas_agree h.0 (word_in head 12) p.areas.offset content) h.0 a.0).0 a.1 in
    let sl = (symbols_law p strings h.0 table (word_in head 12) s.0).0 s.1 in
    let yl = (entry_of_law p head h.0 y.0).0 y.1 in
    let r : Read head content strings table h.0 a.0 s.0 y.0 = record { many = hl.0; rows = hl.1; room = hl.2; bodies = al.1; table_long = sl.0; symbol_many = sl.1; symbol_rows = sl.2; entry = yl.0; entered = yl.1 } in
    let r' : Read head content strings table (heads a.0) a.0 s.0 y.0 = subst (λ (hs : List AreaHead). Read head content strings table hs a.0 s.0 y.0) (sym al.0) r in
    let says = says_of head content strings table c.0 a.0 s.0 y.0 ((counted_law p head strings c.0).0 c.1) r' in
    subst (λ (q : Object). SaysObject head content strings table q) (object_is (made a.0 s.0 y.0) o y.2) says

object_in_again : (p : Parts) (head content strings table : List ℕ) (o : Object) → SaysObject head content strings table o → object_in p head content strings table ≡ Ok o
unfolding object_in object_behind
object_in_again p head content strings table o s =
    let r = read_of head content strings table o s in
    let hs = heads o.areas in
    let step = next_area hs (word_in head 12) p.areas.offset content in
    let counted : Counted head strings (word_in head 8) = record { long = s.long; long_for_areas = s.long_for_areas; magic = s.magic; version = s.version; strings_long = s.strings_long; strings_length = s.strings_length; count = refl } in
    let one : counted_areas p head strings ≡ Ok (word_in head 8) = (counted_law p head strings (word_in head 8)).1 counted in
    let two : heads_of p head strings content ≡ Ok hs = (heads_law p head strings content hs).1 (r.many, r.rows, r.room) in
    let three : each_of step hs [] ≡ Ok o.areas = (each_of_law head_of step (λ b x. AreaStands (length hs) (word_in head 12) content (place_of hs b) x) (areas_agree hs (word_in head 12) p.areas.offset content) hs o.areas).1 (refl, r.bodies) in
    let four : symbols_of p strings hs table (word_in head 12) ≡ Ok o.symbols = (symbols_law p strings hs table (word_in head 12) o.symbols).1 (r.table_long, r.symbol_many, r.symbol_rows) in
    let five : entry_of p head hs ≡ Ok o.entry = (entry_of_law p head hs o.entry).1 (r.entry, r.entered) in
    rw (one, two, three, four, five) refl

pub object_law : (b : List ℕ) (o : Object) → (object_of b ≡ Ok o) ↔ ReadsObject b o
unfolding object_of
object_law b o = (
  λ e. let t = bind_ok (table_of b) _ o e in
      let p = bind_ok (parts_of b t.0) _ o t.2 in
      (t.0, p.0, (table_law b t.0).0 t.1, (parts_law b t.0 p.0).0 p.1, object_in_takes p.0 (bytes_at b p.0.head) (bytes_at b p.0.areas) (bytes_at b p.0.strings) (bytes_at b p.0.symbols) o p.2),
  λ h. let p = h.1 in
      let one : table_of b ≡ Ok h.0 = (table_law b h.0).1 h.2 in
      let two : parts_of b h.0 ≡ Ok p = (parts_law b h.0 p).1 h.3 in
      rw (one, two) (object_in_again p (bytes_at b p.head) (bytes_at b p.areas) (bytes_at b p.strings) (bytes_at b p.symbols) o h.4),
)

pub one_record : (b : List ℕ) (o q : Object) → ReadsObject b o → ReadsObject b q → o ≡ q
one_record b o q ho hq = object_is o q (sym ((object_law b o).1 ho) ∙ (object_law b q).1 hq)

-- what is read is valid
pub reads_valid : (b : List ℕ) (o : Object) → ReadsObject b o → IsValid o
reads_valid b o h = h.4.valid
