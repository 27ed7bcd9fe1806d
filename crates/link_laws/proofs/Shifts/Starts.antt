-- A relocatable AIF starts at every base.
use Rattle.std.proofs.Common.{◌≡◌, ℕ, ◌+◌, ◌-◌, ◌*◌, Bool, true, false, ◌==◌, List, [], ◌∷◌, ◌++◌, length, length-append, refl, sym, ap, subst, ◌∙◌, arith, eqb-true, Option}
use Rattle.std.specs.Prelude.{slice_index}
use Rattle.std.specs.List.{AllByRecursion}
use Rattle.std.proofs.lemmas.List.{append-nil}
use Rattle.sdt_word.specs.Bytes.{bytes_of}
use Rattle.sdt_word.specs.declared.ranges.Range32.{Range32}
use Rattle.sdt_word.proofs.BytesLemmas.{length-bytes_of}
use Rattle.arm7_model.specs.Memory.{Bytes}
use Rattle.boot_code.specs.Aif.{IsRelocatable, ShowsImage, IsLoadable, HasVeneer, started_image, shifted_file}
use Rattle.boot_code.specs.Boots.{ByteMap}
use Rattle.boot_code.specs.Startup.{HasWords}
use Rattle.boot_code.specs.Words.{relocator_list}
use Rattle.boot_code.proofs.AifImage.{aif_boots, aif_veneer_boots}
use Rattle.boot_code.specs.Maps.{bytes_of_words}
use Rattle.place_model.specs.declared.scatter.Kind.TheVariants as kind
use Rattle.place_model.specs.Items.{Item}
use Rattle.place_model.specs.Plans.{Plan}
use Rattle.image_model.specs.AifFiles.{parts_size, zero_size, with_header, parts_bytes, aif_plan}
use Rattle.image_model.specs.Views.{IsView}
use Rattle.image_laws.proofs.AifLemmas.{words_there, as_code}
use Rattle.image_laws.proofs.AifMoved.{relocatable_law, own_base_law}
use Rattle.image_laws.proofs.AifViews.{parts_length}
use Rattle.image_laws.proofs.RowLemmas.{IsWord}
use Rattle.link_model.specs.declared.placing.Assigned.{Assigned}
use Rattle.link_model.specs.declared.placing.Placement.{Placement}
use Rattle.link_model.specs.declared.placing.Veneer.{Veneer}
use Rattle.link_model.specs.declared.selection.Linked.{Linked}
use Rattle.link_model.specs.Members.{link_of}
use Rattle.link_items.specs.LinkedItems.{contents_of}
use Rattle.link_values.specs.Shifts.{shifts_of}
use Rattle.link_laws.specs.AifJoins.{placement_at, given_at, moving_list, moving_file, IsViewAt, MovedImageShows, HasRoomAt, IsMovingImage, EntersByVeneer, MovedImageBoots}
use Rattle.link_laws.proofs.Made.PlacedLemmas.{is_placement}
use Rattle.link_laws.proofs.Shifts.Boots.{shows}
use Rattle.link_laws.proofs.Shifts.Moved.{no_header_shifts}

abbrev Shown : (base : ℕ) (l : Linked) (a : Assigned) (vs : List Veneer) (p : Placement) (offset : ℕ) (view : ByteMap) → ℕ → Type 0
Shown base l a vs p offset view to =
    ShowsImage (moving_file base l a vs p offset) (parts_size (aif_plan base true (contents_of l.objects a.regions vs))) (zero_size (aif_plan base true (contents_of l.objects a.regions vs))) base
    (moving_list base l a vs p) to view

pub moved_image_shows : MovedImageShows
moved_image_shows base to ram l a vs p items offset view m image whole room v = go (to == base) refl
  where
    go : (b : Bool) → (to == base) ≡ b → Shown base l a vs p offset view to
    go false e = shows base to ram l a vs p items offset m image whole room view v e
    go true e =
        let is : to ≡ base = eqb-true to base e in
        let own : placement_at base l a vs ≡ p = sym (is_placement (kind.Aif base true) ram l a vs p m.made) in
        let at_base : IsViewAt base l a vs offset view = subst (λ n. IsViewAt n l a vs offset view) is v in
        let with_own : IsView (aif_plan base true (contents_of l.objects a.regions vs)) (with_header false (aif_plan base true (contents_of l.objects a.regions vs)) base (given_at base l p offset)) view =
        subst (λ (z : Placement). IsView (aif_plan base true (contents_of l.objects a.regions vs)) (with_header false (aif_plan base true (contents_of l.objects a.regions vs)) base (given_at base l z offset)) view) own at_base in
        subst (Shown base l a vs p offset view) (sym is) (own_base_law base (contents_of l.objects a.regions vs) items (given_at base l p offset) ram (shifts_of (link_of l) p) view image with_own)

words_size : (ws : List ℕ) → length (bytes_of_words ws) ≡ 4 * length ws
words_size [] = refl
words_size (w ∷ ws) = let rest = words_size ws in omega (arith, length-append (bytes_of w 4) (bytes_of_words ws), length-bytes_of w 4, rest)

module _ (base : ℕ) (ram : Option (List Range32)) (l : Linked) (a : Assigned) (vs : List Veneer) (p : Placement) (items : List Item) (offset : ℕ) (view : ℕ → ByteMap)
    (m : IsMovingImage base ram l a vs p items offset view) where
  abbrev plan : Plan
  plan = aif_plan base true (contents_of l.objects a.regions vs)

  abbrev parts : ℕ
  parts = parts_size plan

  abbrev cleared : ℕ
  cleared = zero_size plan

  abbrev file : List ℕ
  file = moving_file base l a vs p offset

  abbrev offsets : List ℕ
  offsets = moving_list base l a vs p

  pub file_size : length file ≡ parts + 60 + 4 * length offsets + 4
  file_size =
      let front : length (parts_bytes true plan base (given_at base l p offset)) ≡ parts = parts_length base true (contents_of l.objects a.regions vs) items (given_at base l p offset) ram m.image true in
      let tail : List ℕ = relocator_list ++ (offsets ++ 0xFFFFFFFF ∷ []) in
      let all = length-append (parts_bytes true plan base (given_at base l p offset)) (bytes_of_words tail) in
      let words = words_size tail in
      let first = length-append relocator_list (offsets ++ 0xFFFFFFFF ∷ []) in
      let second = length-append offsets (0xFFFFFFFF ∷ []) in
      let code : length relocator_list ≡ 15 = refl in
      omega (arith, front, all, words, first, second, code)

  shown_at : (to : ℕ) → HasRoomAt file parts cleared to → ShowsImage file parts cleared base offsets to (view to)
  shown_at to r =
      moved_image_shows base to ram l a vs p items offset (view to) (record { made = m.made; movable = m.movable }) m.image r.whole r.zero_room (m.shows to r)

  -- its relocator and list stand behind its parts, wherever it lies
  pub relocatable_at : (to : ℕ) → IsRelocatable (shifted_file file to) to parts cleared base offset offsets
  relocatable_at to =
      let relocatable = relocatable_law base (contents_of l.objects a.regions vs) items (given_at base l p offset) ram (shifts_of (link_of l) p) m.image (no_header_shifts base ram l a vs p m.made m.movable) to in
      let entry : base + offset - base ≡ offset = omega arith in
      subst (λ n. IsRelocatable (shifted_file file to) to parts cleared base n offsets) entry relocatable

  loadable : (to : ℕ) → HasRoomAt file parts cleared to → IsLoadable file parts cleared base offset offsets to (view to)
  loadable to r =
      record {
        image = relocatable_at to;
        size = file_size;
        whole = r.whole;
        file_room = r.file_room;
        zero_room = r.zero_room;
        shows = shown_at to r;
      }

  veneer_there : (entry to : ℕ) → HasRoomAt file parts cleared to → EntersByVeneer parts offset entry to (view to)
      → HasVeneer (started_image (shifted_file file to) to parts cleared base offsets) to parts offset entry
  veneer_there entry to r v =
      let ws : List ℕ = 0xE59FC000 ∷ 0xE12FFF1C ∷ entry ∷ [] in
      let memory : Bytes = started_image (shifted_file file to) to parts cleared base offsets in
      let small = v.small in
      let fit : AllByRecursion IsWord ws = (omega arith, (omega arith, (small, tt))) in
      let held : HasWords memory (to + offset) ws =
      words_there memory (to + offset) ws [] fit (λ n lt.
      ((shown_at to r).inside (to + offset + n) (slice_index (bytes_of_words ws) n) (v.shows n lt)).2 ∙ ap (λ (bs : List ℕ). slice_index bs n) (sym (append-nil (bytes_of_words ws)))) in
      record { fits = v.inside; load_word = held.0; exchange_word = held.1.0; target = as_code memory (to + offset) ws held 2 (omega arith); fair = v.fair }

pub moved_image_boots : MovedImageBoots
moved_image_boots = record {
  in_arm = λ base ram l a vs p items offset view m.
      aif_boots (moving_file base l a vs p offset) (parts_size (aif_plan base true (contents_of l.objects a.regions vs))) (zero_size (aif_plan base true (contents_of l.objects a.regions vs))) base offset
      (moving_list base l a vs p) view (λ to whole file_room zero_room. loadable base ram l a vs p items offset view m to (record { whole = whole; file_room = file_room; zero_room = zero_room }));
  by_veneer = λ base ram l a vs p items offset view entry m veneer.
      aif_veneer_boots (moving_file base l a vs p offset) (parts_size (aif_plan base true (contents_of l.objects a.regions vs))) (zero_size (aif_plan base true (contents_of l.objects a.regions vs))) base offset
      (moving_list base l a vs p) view entry (λ to whole file_room zero_room. loadable base ram l a vs p items offset view m to (record { whole = whole; file_room = file_room; zero_room = zero_room }))
      (λ to whole file_room zero_room.
      let r : HasRoomAt (moving_file base l a vs p offset) (parts_size (aif_plan base true (contents_of l.objects a.regions vs))) (zero_size (aif_plan base true (contents_of l.objects a.regions vs))) to =
      record { whole = whole; file_room = file_room; zero_room = zero_room } in
      veneer_there base ram l a vs p items offset view m (entry to) to r (veneer to r));
}
