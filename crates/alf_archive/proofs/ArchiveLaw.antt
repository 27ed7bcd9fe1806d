-- The law of libraries: what reading gives is what the bytes say.
use Rattle.std.proofs.Common.{◌≡◌, ℕ, zero, suc, ◌-◌, ◌+◌, ◌%◌, ◌≤◌, Bool, true, false, cond, ltb, eqb, List, [], ◌∷◌, ◌++◌, length, drop, Option, Some, None, Result, Ok, Err, refl, sym, ap, subst, ◌∙◌, arith, slice_get, ◌⊎◌, inl, inr}
use Rattle.std.specs.Prelude.{◌↔◌, codes}
use Rattle.std.specs.Option.{ok_or}
use Rattle.std.specs.Str.{bytes_eq}
use Rattle.std.proofs.lemmas.Bool.{ltb-false, le-ltb, lt-ltb, eqb-true, eqb-false, false_from_ne_true}
use Rattle.std.proofs.lemmas.Slice.Eq.{bytes_eq-Decides}
use Rattle.sdt_word.specs.Bytes.{word_in}
use Rattle.sdt_fault.specs.declared.kinds.FileKind.TheVariants as kind
use Rattle.sdt_fault.specs.declared.refusal.Refusal.{Refusal}
use Rattle.sdt_fault.specs.declared.refusal.Refusal.TheVariants.{BadLibrary}
use Rattle.chunk_file.specs.declared.records.Span.{Span}
use Rattle.chunk_file.specs.Reading.{◌>>=◌}
use Rattle.chunk_file.specs.Chunks.{bytes_at, table_of}
use Rattle.chunk_file.proofs.Table.{table_law}
use Rattle.chunk_file.proofs.Loops.{bind_ok}
use Rattle.chunk_file.proofs.Guards.{fails_if, not_less, equal, past_less, past_equal}
use Rattle.aof_object.specs.declared.records.Object.{Object}
use Rattle.aof_object.specs.Names.{terminated, name_at, IsText, IsNameAt, among, Lacks}
use Rattle.aof_object.specs.Parts.{named, found_of}
use Rattle.aof_object.specs.Objects.{object_of}
use Rattle.aof_object.specs.Grammar.{ReadsObject}
use Rattle.aof_object.proofs.NameLaw.{some_is, terminated_at, name_law, lacks_law}
use Rattle.aof_object.proofs.ObjectLaw.{object_law}
use Rattle.alf_archive.specs.declared.records.Member.{Member}
use Rattle.alf_archive.specs.declared.records.Archive.{Archive}
use Rattle.alf_archive.specs.declared.entries.Slot.{Slot}
use Rattle.alf_archive.specs.Archives.{slot_of, slot_at, data_named, moved_by, member_in, member_at, member_names, with_entry, members_from, directory, archive_of}
use Rattle.alf_archive.specs.Grammar.{SaysSlot, text_of, SaysMember, SaysUse, SayMembers, ReadsArchive}

-- ---- the head of an entry

abbrev slot : Slot → Result Slot Refusal
slot s = Ok s

slot_is : (s t : Slot) → slot s ≡ slot t → s ≡ t
slot_is s t e = cc

fields_are : (s : Slot) (i l z : ℕ) → s.index ≡ i → s.length ≡ l → s.size ≡ z → record { index = i; length = l; size = z } ≡ s
fields_are s i l z a b c = rw (← a, ← b, ← c) refl

slot_takes : (start : ℕ) (dir : List ℕ) (at : ℕ) (s : Slot) → slot_at start dir at ≡ Ok s → SaysSlot dir at s
unfolding slot_at slot_of
slot_takes start dir at s e =
    let row : List ℕ = drop at dir in
    let g0 = not_less (length dir) (at + 12) _ _ s e in
    let g1 = equal (word_in row 4 % 4) 0 _ _ s g0.1 in
    let g2 = not_less (word_in row 4) 12 _ _ s g1.1 in
    let g3 = not_less (length dir - at) (word_in row 4) _ _ s g2.1 in
    let g4 = equal (word_in row 8 % 4) 0 _ _ s g3.1 in
    let g5 = not_less (word_in row 4) (12 + word_in row 8) _ _ s g4.1 in
    let read : Slot = record { index = word_in row 0; length = word_in row 4; size = word_in row 8 } in
    let says : SaysSlot dir at read = record {
      chunk_index = refl;
      entry_length = refl;
      text_length = refl;
      entry_words = g1.0;
      text_words = g4.0;
      fits = g5.0;
      within = omega (arith, g0.0, g3.0);
    } in
    subst (λ (x : Slot). SaysSlot dir at x) (slot_is read s g5.1) says

slot_again : (start : ℕ) (dir : List ℕ) (at : ℕ) (s : Slot) → SaysSlot dir at s → slot_at start dir at ≡ Ok s
unfolding slot_at slot_of
slot_again start dir at s h =
    let row : List ℕ = drop at dir in
    let l = h.entry_length in
    let z = h.text_length in
    let fits = h.fits in
    let within = h.within in
    let same : record { index = word_in row 0; length = word_in row 4; size = word_in row 8 } ≡ s = fields_are s (word_in row 0) (word_in row 4) (word_in row 8) h.chunk_index l z in
    past_less (length dir) (at + 12) _ _ (omega (arith, fits, within))
    ∙ past_equal (word_in row 4 % 4) 0 _ _ (ap (λ (k : ℕ). k % 4) (sym l) ∙ h.entry_words)
    ∙ past_less (word_in row 4) 12 _ _ (omega (arith, l, fits)) ∙ past_less (length dir - at) (word_in row 4) _ _ (omega (arith, l, within))
    ∙ past_equal (word_in row 8 % 4) 0 _ _ (ap (λ (k : ℕ). k % 4) (sym z) ∙ h.text_words) ∙ past_less (word_in row 4) (12 + word_in row 8) _ _ (omega (arith, l, z, fits))
    ∙ ap (λ (x : Slot). slot x) same

-- ---- a member

data_takes : (o : Option (Option Span)) (s : Span) → data_named o ≡ Some s → (o ≡ Some (Some s)) × (s.name ≡ codes "LIB_DATA")
data_takes None s e = absurd cc
data_takes (Some None) s e = absurd cc
data_takes (Some (Some t)) s e = tested (bytes_eq t.name (codes "LIB_DATA")) refl e
  where
    tested : (b : Bool) → bytes_eq t.name (codes "LIB_DATA") ≡ b → cond b (Some t) None ≡ Some s → (Some (Some t) ≡ Some (Some s)) × (s.name ≡ codes "LIB_DATA")
    tested true q h =
        let same : t ≡ s = some_is t s h in
        let name : t.name ≡ codes "LIB_DATA" = (bytes_eq-Decides t.name (codes "LIB_DATA")).0 q in
        (ap (λ (x : Span). Some (Some x)) same, ap (λ (x : Span). x.name) (sym same) ∙ name)
    tested false q h = absurd cc

data_again : (o : Option (Option Span)) (s : Span) → o ≡ Some (Some s) → s.name ≡ codes "LIB_DATA" → data_named o ≡ Some s
data_again o s e n = let t : bytes_eq s.name (codes "LIB_DATA") ≡ true = (bytes_eq-Decides s.name (codes "LIB_DATA")).1 n in rw (e, t) refl

moved_ok : (base : ℕ) (r : Result Object Refusal) (o : Object) → moved_by base r ≡ Ok o → r ≡ Ok o
moved_ok base (Ok x) o e = e
moved_ok base (Err d) o e = absurd cc

abbrev made : List ℕ → Object → Member
made name o = record { name = name; object = o }

abbrev member : Member → Result Member Refusal
member m = Ok m

member_is : (m n : Member) → member m ≡ member n → m ≡ n
member_is m n e = cc

object_takes : (b : List ℕ) (at : ℕ) (name : List ℕ) (o : Option Span) (m : Member) → member_in b at name o ≡ Ok m → (s : Span) × (o ≡ Some s) × (m.name ≡ name) × ReadsObject (bytes_at b s) m.object
unfolding member_in
object_takes b at name None m e = absurd cc
object_takes b at name (Some s) m e =
    let g = bind_ok (moved_by s.offset (object_of (bytes_at b s))) _ m e in
    let reads = (object_law (bytes_at b s) g.0).0 (moved_ok s.offset (object_of (bytes_at b s)) g.0 g.1) in
    let same = member_is (made name g.0) m g.2 in
    (s, refl, ap (λ (x : Member). x.name) (sym same), subst (λ (x : Member). ReadsObject (bytes_at b s) x.object) same reads)

found_text : (o : Option (List ℕ)) (d : Refusal) (n : List ℕ) → ok_or o d ≡ Ok n → o ≡ Some n
found_text None d n e = absurd cc
found_text (Some m) d n e = let same : m ≡ n = cc in ap (λ (x : List ℕ). Some x) same

ended_takes : (text n : List ℕ) → terminated text ≡ Some n → IsNameAt (0 ∷ 0 ∷ 0 ∷ 0 ∷ text) 4 n
unfolding name_at
ended_takes text n e = (name_law (0 ∷ 0 ∷ 0 ∷ 0 ∷ text) 4 n).0 e

module _ (b : List ℕ) (spans : List (Option Span)) (names : List (List ℕ)) (at : ℕ) (text : List ℕ) (s : Slot) (m : Member) where
  member_takes : member_at b spans (λ q. among q names) at text s ≡ Ok m → SaysMember b spans names s.index text m
  unfolding member_at
  member_takes e =
      let n = bind_ok (ok_or (terminated text) (BadLibrary [] (at + 12) kind.Name)) _ m e in
      let ended = ended_takes text n.0 (found_text (terminated text) _ n.0 n.1) in
      let g = fails_if (among n.0 names) _ _ m n.2 in
      let o = object_takes b at n.0 (data_named (slice_get spans s.index)) m g.1 in
      let d = data_takes (slice_get spans s.index) o.0 o.1 in
      let back : n.0 ≡ m.name = sym o.2 in
      record {
        is_text = subst (λ (k : List ℕ). IsText k) back ended.is_text;
        name = subst (λ (k : List ℕ). (rest : List ℕ) × (text ≡ k ++ (0 ∷ rest))) back ended.stands;
        fresh = subst (λ (k : List ℕ). Lacks names k) back ((lacks_law names n.0).0 g.0);
        chunk = (o.0, d.0, d.1, o.3);
      }

  member_again : SaysMember b spans names s.index text m → member_at b spans (λ q. among q names) at text s ≡ Ok m
  unfolding member_at member_in
  member_again h =
      let t : terminated text ≡ Some m.name = ap terminated h.name.1 ∙ terminated_at m.name h.name.0 h.is_text in
      let l : among m.name names ≡ false = (lacks_law names m.name).1 h.fresh in
      let d : data_named (slice_get spans s.index) ≡ Some h.chunk.0 = data_again (slice_get spans s.index) h.chunk.0 h.chunk.1 h.chunk.2 in
      let o : object_of (bytes_at b h.chunk.0) ≡ Ok m.object = (object_law (bytes_at b h.chunk.0) m.object).1 h.chunk.3 in
      rw (t, l, d, o) refl

-- ---- the entries

abbrev members : List Member → Result (List Member) Refusal
members ms = Ok ms

members_are : (xs ys : List Member) → members xs ≡ members ys → xs ≡ ys
members_are xs ys e = cc

module _ (b : List ℕ) (spans : List (Option Span)) (start : ℕ) (dir : List ℕ) where
  use_takes : (at : ℕ) (before : List Member) (s : Slot) (after : List Member) → with_entry b spans (start + at) (text_of dir at s) before s ≡ Ok after → SaysUse b spans dir at before s after
  unfolding with_entry
  use_takes at before s after e = tested (eqb s.index 0) refl e
    where
      tested : (t : Bool) → eqb s.index 0 ≡ t
          → cond t (members before) (member_at b spans (λ q. among q (member_names before)) (start + at) (text_of dir at s) s >>= λ m. members (before ++ m ∷ [])) ≡ Ok after → SaysUse b spans dir at before s after
      tested true q h = inl (eqb-true s.index 0 q, sym (members_are before after h))
      tested false q h =
          let g = bind_ok (member_at b spans (λ q. among q (member_names before)) (start + at) (text_of dir at s) s) _ after h in
          inr (g.0, eqb-false s.index 0 q, member_takes b spans (member_names before) (start + at) (text_of dir at s) s g.0 g.1, sym (members_are _ after g.2))

  use_again : (at : ℕ) (before : List Member) (s : Slot) (after : List Member) → SaysUse b spans dir at before s after → with_entry b spans (start + at) (text_of dir at s) before s ≡ Ok after
  unfolding with_entry
  use_again at before s after (inl h) = past_equal s.index 0 _ _ h.0 ∙ ap (λ (x : List Member). members x) (sym h.1)
  use_again at before s after (inr h) =
      let t : eqb s.index 0 ≡ false = false_from_ne_true (eqb s.index 0) (λ q. h.1 (eqb-true s.index 0 q)) in
      let o = member_again b spans (member_names before) (start + at) (text_of dir at s) s h.0 h.2 in
      rw (t, o) (ap (λ (x : List Member). members x) (sym h.3))

  abbrev rest : ℕ → ℕ → List Member → Result (List Member) Refusal
  rest n at before = members_from b spans start dir n at before

  -- one more turn ends, or reads an entry
  turn_takes : (n at : ℕ) (before all : List Member) → rest (suc n) at before ≡ Ok all
      → ((length dir ≤ at) × (all ≡ before)) ⊎ ((s : Slot) × (after : List Member) × SaysSlot dir at s × SaysUse b spans dir at before s after × (rest n (at + s.length) after ≡ Ok all))
  turn_takes n at before all e = tested (ltb at (length dir)) refl e
    where
      tested : (t : Bool) → ltb at (length dir) ≡ t
          → cond t (slot_at start dir at >>= λ s. with_entry b spans (start + at) (text_of dir at s) before s >>= λ ms. rest n (at + s.length) ms) (members before) ≡ Ok all
          → ((length dir ≤ at) × (all ≡ before)) ⊎ ((s : Slot) × (after : List Member) × SaysSlot dir at s × SaysUse b spans dir at before s after × (rest n (at + s.length) after ≡ Ok all))
      tested true q h =
          let s = bind_ok (slot_at start dir at) _ all h in
          let u = bind_ok (with_entry b spans (start + at) (text_of dir at s.0) before s.0) _ all s.2 in
          inr (s.0, u.0, slot_takes start dir at s.0 s.1, use_takes at before s.0 u.0 u.1, u.2)
      tested false q h = inl (ltb-false at (length dir) q, sym (members_are before all h))

  members_take : (n at : ℕ) (before all : List Member) → at ≤ length dir → length dir ≤ at + n → rest n at before ≡ Ok all → (ss : List Slot) × SayMembers b spans dir ss at before all
  members_take zero at before all le enough e = ([], (omega (arith, le, enough), sym (members_are before all e)))
  members_take (suc n) at before all le enough e =
      elim (turn_takes n at before all e) [
        | inl h ↦ ([], (omega (arith, le, h.0), h.1))
        | inr h ↦ let within = h.2.within in
            let fits = h.2.fits in
            let more = members_take n (at + h.0.length) h.1 all within (omega (arith, enough, fits)) h.4 in
            (h.0 ∷ more.0, (h.1, h.2, h.3, more.1))
      ]

  members_again : (ss : List Slot) (n at : ℕ) (before all : List Member) → SayMembers b spans dir ss at before all → length dir ≤ at + n → rest n at before ≡ Ok all
  members_again [] zero at before all h enough = ap (λ (x : List Member). members x) (sym h.1)
  members_again [] (suc n) at before all h enough =
      let end = h.0 in
      let t : ltb at (length dir) ≡ false = le-ltb at (length dir) (omega (arith, end)) in
      rw t (ap (λ (x : List Member). members x) (sym h.1))
  members_again (s ∷ ss) zero at before all h enough = let within = h.1.within in let fits = h.1.fits in absurd (omega (arith, within, fits, enough))
  members_again (s ∷ ss) (suc n) at before all h enough =
      let within = h.1.within in
      let fits = h.1.fits in
      let t : ltb at (length dir) ≡ true = lt-ltb at (length dir) (omega (arith, within, fits)) in
      let one : slot_at start dir at ≡ Ok s = slot_again start dir at s h.1 in
      let two : with_entry b spans (start + at) (text_of dir at s) before s ≡ Ok h.0 = use_again at before s h.0 h.2 in
      let three : rest n (at + s.length) h.0 ≡ Ok all = members_again ss n (at + s.length) h.0 all h.3 (omega (arith, enough, fits)) in
      rw (t, one, two) three

-- ---- the whole

abbrev span : Span → Result Span Refusal
span s = Ok s

span_is : (s t : Span) → span s ≡ span t → s ≡ t
span_is s t e = cc

directory_law : (ss : List Span) (d : Span) → (directory (found_of ss) ≡ Ok d) ↔ (ss ≡ d ∷ [])
directory_law [] d = (λ e. absurd cc, λ h. absurd cc)
directory_law (t ∷ []) d = (λ e. ap (λ (x : Span). x ∷ []) (span_is t d e), λ h. let same : t ≡ d = cc in ap (λ (x : Span). span x) same)
directory_law (t ∷ u ∷ ss) d = (λ e. absurd cc, λ h. absurd cc)

abbrev archive : Archive → Result Archive Refusal
archive a = Ok a

archive_is : (a c : Archive) → archive a ≡ archive c → a ≡ c
archive_is a c e = cc

pub archive_law : (b : List ℕ) (a : Archive) → (archive_of b ≡ Ok a) ↔ ReadsArchive b a
unfolding archive_of
archive_law b a = (
  λ e. let t = bind_ok (table_of b) _ a e in
      let d = bind_ok (directory (found_of (named (codes "LIB_DIRY") t.0))) _ a t.2 in
      let dir : List ℕ = bytes_at b d.0 in
      let m = bind_ok (members_from b t.0 d.0.offset dir (length dir) 0 []) _ a d.2 in
      let says = members_take b t.0 d.0.offset dir (length dir) 0 [] m.0 (omega arith) (omega arith) m.1 in
      let read : Archive = record { members = m.0 } in (
        t.0,
        d.0,
        says.0,
        (table_law b t.0).0 t.1,
        (directory_law (named (codes "LIB_DIRY") t.0) d.0).0 d.1,
        subst (λ (x : Archive). SayMembers b t.0 dir says.0 0 [] x.members) (archive_is read a m.2) says.1,
      ),
  λ h. let dir : List ℕ = bytes_at b h.1 in
      let one : table_of b ≡ Ok h.0 = (table_law b h.0).1 h.3 in
      let two : directory (found_of (named (codes "LIB_DIRY") h.0)) ≡ Ok h.1 = (directory_law (named (codes "LIB_DIRY") h.0) h.1).1 h.4 in
      let three : members_from b h.0 h.1.offset dir (length dir) 0 [] ≡ Ok a.members = members_again b h.0 h.1.offset dir h.2 (length dir) 0 [] a.members h.5 (omega arith) in
      rw (one, two, three) refl,
)

pub one_record : (b : List ℕ) (a c : Archive) → ReadsArchive b a → ReadsArchive b c → a ≡ c
one_record b a c ha hc = archive_is a c (sym ((archive_law b a).1 ha) ∙ (archive_law b c).1 hc)
