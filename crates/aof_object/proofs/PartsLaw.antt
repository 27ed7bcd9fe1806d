-- The chunks of an object, what OBJ_HEAD says as a whole, and the entry.
use Rattle.std.proofs.Common.{◌≡◌, ℕ, zero, suc, ◌+◌, ◌-◌, ◌*◌, ◌<◌, ◌≤◌, Bool, true, false, cond, eqb, List, [], ◌∷◌, length, Option, Some, None, Result, Ok, refl, sym, ap, subst, ◌∙◌, arith, slice_get}
use Rattle.std.specs.Prelude.{◌↔◌, IsSomeAnd, codes}
use Rattle.std.proofs.lemmas.Bool.{eqb-true, eq-eqb, eqb-false, false_from_ne_true}
use Rattle.sdt_word.specs.Bytes.{word_in}
use Rattle.sdt_fault.specs.declared.kinds.FileKind.TheVariants as kind
use Rattle.sdt_fault.specs.declared.refusal.Refusal.{Refusal}
use Rattle.sdt_fault.specs.declared.refusal.Refusal.TheVariants.{BadObject}
use Rattle.chunk_file.specs.declared.records.Span.{Span}
use Rattle.chunk_file.specs.Chunks.{bytes_at}
use Rattle.chunk_file.proofs.Loops.{bind_ok}
use Rattle.chunk_file.proofs.Guards.{not_less, equal, past_less, past_equal}
use Rattle.aof_object.specs.declared.areas.AreaHead.{AreaHead}
use Rattle.aof_object.specs.declared.records.Entry.{Entry}
use Rattle.aof_object.specs.declared.parts.Parts.{Parts}
use Rattle.aof_object.specs.declared.parts.Found.TheVariants.{Absent}
use Rattle.aof_object.specs.Checks.{left_over, entry_flaw}
use Rattle.aof_object.specs.Parts.{named, found_of, needed, optional, no_symbols, told_symbols, parts_of}
use Rattle.aof_object.specs.Objects.{counted_areas, entry_in, entry_of}
use Rattle.aof_object.specs.Validity.{IsEntered}
use Rattle.aof_object.specs.Grammar.{IsSymbolTable, HasParts, SaysEntry}
use Rattle.aof_object.proofs.Checked.{judged_law, entry_law}

-- ---- chunks

abbrev span : Span → Result Span Refusal
span s = Ok s

pub span_is : (s t : Span) → span s ≡ span t → s ≡ t
span_is s t e = cc

needed_law : (ss : List Span) (s : Span) → (needed (found_of ss) ≡ Ok s) ↔ (ss ≡ s ∷ [])
needed_law [] s = (λ e. absurd cc, λ h. absurd cc)
needed_law (t ∷ []) s = (λ e. ap (λ (x : Span). x ∷ []) (span_is t s e), λ h. let same : t ≡ s = cc in ap (λ (x : Span). span x) same)
needed_law (t ∷ u ∷ ss) s = (λ e. absurd cc, λ h. absurd cc)

none_told : (count : ℕ) (s : Span) → (optional count Absent ≡ Ok s) ↔ ((count ≡ 0) × (s ≡ no_symbols))
none_told count s = (
  λ e. let g = equal count 0 (BadObject [] 0 kind.Chunks) (span no_symbols) s e in (g.0, sym (span_is no_symbols s g.1)),
  λ h. past_equal count 0 (span no_symbols) _ h.0 ∙ ap (λ (x : Span). span x) (sym h.1),
)

optional_law : (count : ℕ) (ss : List Span) (s : Span) → (optional count (found_of ss) ≡ Ok s) ↔ IsSymbolTable count ss s
optional_law count [] s = none_told count s
optional_law count (t ∷ []) s = (λ e. sym (span_is t s e), λ h. ap (λ (x : Span). span x) (sym h))
optional_law count (t ∷ u ∷ ss) s = (λ e. absurd cc, λ h. absurd h)

abbrev parts : Parts → Result Parts Refusal
parts p = Ok p

parts_is : (p q : Parts) → parts p ≡ parts q → p ≡ q
parts_is p q e = cc

pub parts_law : (b : List ℕ) (spans : List (Option Span)) (p : Parts) → (parts_of b spans ≡ Ok p) ↔ HasParts b spans p
unfolding parts_of
parts_law b spans p = (
  λ e. let h = bind_ok (needed (found_of (named (codes "OBJ_HEAD") spans))) _ p e in
      let a = bind_ok (needed (found_of (named (codes "OBJ_AREA") spans))) _ p h.2 in
      let t = bind_ok (needed (found_of (named (codes "OBJ_STRT") spans))) _ p a.2 in
      let y = bind_ok (optional (told_symbols (bytes_at b h.0)) (found_of (named (codes "OBJ_SYMT") spans))) _ p t.2 in
      let made : Parts = record { head = h.0; areas = a.0; strings = t.0; symbols = y.0 } in
      let has : HasParts b spans made = record {
        head = (needed_law _ h.0).0 h.1;
        areas = (needed_law _ a.0).0 a.1;
        strings = (needed_law _ t.0).0 t.1;
        symbols = (optional_law (told_symbols (bytes_at b h.0)) _ y.0).0 y.1;
      } in
      subst (λ (q : Parts). HasParts b spans q) (parts_is made p y.2) has,
  λ h. let one = (needed_law (named (codes "OBJ_HEAD") spans) p.head).1 h.head in
      let two = (needed_law (named (codes "OBJ_AREA") spans) p.areas).1 h.areas in
      let three = (needed_law (named (codes "OBJ_STRT") spans) p.strings).1 h.strings in
      let four = (optional_law (told_symbols (bytes_at b p.head)) (named (codes "OBJ_SYMT") spans) p.symbols).1 h.symbols in
      rw (one, two, three, four) refl,
)

-- ---- OBJ_HEAD and OBJ_STRT

pub record Counted (head strings : List ℕ) (n : ℕ) : Type 0 where
  pub long : 24 ≤ length head
  pub long_for_areas : 24 + 20 * word_in head 8 ≤ length head
  pub magic : word_in head 0 ≡ 0xC5E2D080
  pub version : word_in head 4 ≡ 310
  pub strings_long : 4 ≤ length strings
  pub strings_length : word_in strings 0 ≡ length strings
  pub count : word_in head 8 ≡ n

abbrev number : ℕ → Result ℕ Refusal
number n = Ok n

number_is : (m n : ℕ) → number m ≡ number n → m ≡ n
number_is m n e = cc

pub counted_law : (p : Parts) (head strings : List ℕ) (n : ℕ) → (counted_areas p head strings ≡ Ok n) ↔ Counted head strings n
unfolding counted_areas
counted_law p head strings n = (
  λ e. let g0 = not_less (length head) 24 _ _ n e in
      let g1 = not_less (length head) (24 + 20 * word_in head 8) _ _ n g0.1 in
      let g2 = equal (word_in head 0) 0xC5E2D080 _ _ n g1.1 in
      let g3 = equal (word_in head 4) 310 _ _ n g2.1 in
      let g4 = not_less (length strings) 4 _ _ n g3.1 in
      let g5 = equal (word_in strings 0) (length strings) _ _ n g4.1 in
      record { long = g0.0; long_for_areas = g1.0; magic = g2.0; version = g3.0; strings_long = g4.0; strings_length = g5.0; count = number_is (word_in head 8) n g5.1 },
  λ h. past_less (length head) 24 _ _ h.long ∙ past_less (length head) (24 + 20 * word_in head 8) _ _ h.long_for_areas ∙ past_equal (word_in head 0) 0xC5E2D080 _ _ h.magic
      ∙ past_equal (word_in head 4) 310 _ _ h.version ∙ past_less (length strings) 4 _ _ h.strings_long ∙ past_equal (word_in strings 0) (length strings) _ _ h.strings_length ∙ ap (λ (m : ℕ). number m) h.count,
)

-- ---- the entry

abbrev entry : Option Entry → Result (Option Entry) Refusal
entry e = Ok e

entry_is : (d e : Option Entry) → entry d ≡ entry e → d ≡ e
entry_is d e h = cc

record EntryIs (hs : List AreaHead) (area offset : ℕ) (e : Option Entry) : Type 0 where
  says : SaysEntry area offset e
  entered : IsEntered hs e

entry_in_takes : (start area offset : ℕ) (hs : List AreaHead) (o : Option AreaHead) (e : Option Entry) → area ≡ area - 1 + 1 → slice_get hs (area - 1) ≡ o → entry_in start area offset o ≡ Ok e → EntryIs hs area offset e
entry_in_takes start area offset hs None e used at h = absurd cc
entry_in_takes start area offset hs (Some x) e used at h =
    let made : Entry = record { area = area - 1; offset = offset } in
    let j = (judged_law start (entry_flaw x.attributes x.size offset) (Some made) e).0 h in
    let p = (entry_law x.attributes x.size offset).0 j.0 in
    let is : EntryIs hs area offset (Some made) = record { says = (used, refl); entered = subst (λ (y : Option AreaHead). IsSomeAnd y (λ z. (offset < z.size) × (left_over z.attributes offset ≡ 0))) (sym at) p } in
    subst (λ (d : Option Entry). EntryIs hs area offset d) j.1 is

some_and : (o : Option AreaHead) (P : AreaHead → Type 0) → IsSomeAnd o P → (x : AreaHead) × (o ≡ Some x) × P x
some_and None P h = absurd h
some_and (Some x) P h = (x, refl, h)

entry_test : (b : Bool) (start area offset : ℕ) (hs : List AreaHead) (e : Option Entry) → eqb area 0 ≡ b → cond b (entry None) (entry_in start area offset (slice_get hs (area - 1))) ≡ Ok e → EntryIs hs area offset e
entry_test true start area offset hs e t h = subst (λ (d : Option Entry). EntryIs hs area offset d) (entry_is None e h) (record { says = eqb-true area 0 t; entered = tt })
entry_test false start area offset hs e t h =
    let nonzero = eqb-false area 0 t in
    entry_in_takes start area offset hs (slice_get hs (area - 1)) e (positive area nonzero) refl h
  where
    positive : (n : ℕ) → (n ≡ 0 → ⊥) → n ≡ n - 1 + 1
    positive zero k = absurd (k refl)
    positive (suc n) k = omega arith

entry_back : (start area offset : ℕ) (hs : List AreaHead) (e : Option Entry) → SaysEntry area offset e → IsEntered hs e → cond (eqb area 0) (entry None) (entry_in start area offset (slice_get hs (area - 1))) ≡ Ok e
entry_back start area offset hs None says entered = let t = eq-eqb area 0 says in rw t refl
entry_back start area offset hs (Some e) says entered =
    let n = says.0 in
    let o = says.1 in
    let used : eqb area 0 ≡ false = false_from_ne_true (eqb area 0) (λ t. let z = eqb-true area 0 t in omega arith) in
    let index : area - 1 ≡ e.area = omega arith in
    let x = some_and (slice_get hs e.area) _ entered in
    let at : slice_get hs e.area ≡ Some x.0 = x.1 in
    let clear : entry_flaw x.0.attributes x.0.size e.offset ≡ None = (entry_law x.0.attributes x.0.size e.offset).1 x.2 in
    rw (used, index, o, at, clear, index) refl

pub entry_of_law : (p : Parts) (head : List ℕ) (hs : List AreaHead) (e : Option Entry) → (entry_of p head hs ≡ Ok e) ↔ (SaysEntry (word_in head 16) (word_in head 20) e × IsEntered hs e)
unfolding entry_of
entry_of_law p head hs e = (
  λ h. let r = entry_test (eqb (word_in head 16) 0) p.head.offset (word_in head 16) (word_in head 20) hs e refl h in (r.says, r.entered),
  λ h. entry_back p.head.offset (word_in head 16) (word_in head 20) hs e h.0 h.1,
)
