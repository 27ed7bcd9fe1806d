-- An ARM image file that can't be moved starts at its base.
use Rattle.std.proofs.Common.{◌≡◌, ℕ, ◌+◌, ◌-◌, ◌<◌, ◌≤◌, false, List, [], ◌∷◌, ◌++◌, refl, sym, ap, subst, ◌∙◌, arith, Option, Some}
use Rattle.std.specs.Prelude.{slice_index, is_some}
use Rattle.std.specs.List.{AllByRecursion}
use Rattle.std.proofs.lemmas.List.{append-nil}
use Rattle.base_lemmas.proofs.BaseLemmas.{same}
use Rattle.sdt_word.specs.declared.ranges.Range32.{Range32}
use Rattle.arm7_model.specs.Memory.{Bytes, store}
use Rattle.boot_code.specs.Aif.{IsHeader, IsFixedLoadable, HasVeneer, shifted_file, file_at, aif_bound}
use Rattle.boot_code.specs.Boots.{ByteMap, Boots, covers}
use Rattle.boot_code.specs.Startup.{HasWords, zeros}
use Rattle.boot_code.proofs.AifImage.{fixed_aif_boots, fixed_aif_veneer_boots}
use Rattle.boot_code.specs.Maps.{bytes_of_words}
use Rattle.place_model.specs.Items.{Item}
use Rattle.place_model.specs.Plans.{Contents, Plan}
use Rattle.image_model.specs.AifFiles.{parts_size, zero_size, header_words, fixed_aif, aif_plan}
use Rattle.image_model.specs.Regions.{Given}
use Rattle.image_laws.specs.AifLaws.{IsFixedImage, FixedImageLoads, HasEntryVeneer, FixedImageBoots}
use Rattle.image_laws.proofs.AifLemmas.{words_there, as_code, base_whole, header_there, header_law}
use Rattle.image_laws.proofs.AifViews.{parts_length, ends, in_parts, started, within}
use Rattle.image_laws.proofs.RowLemmas.{IsWord}

module _ (base : ℕ) (c : Contents) (items : List Item) (g : Given) (ram : Option (List Range32)) (view : ByteMap) (f : IsFixedImage base c items g ram view) where
  abbrev p : Plan
  p = aif_plan base false c

  abbrev file : List ℕ
  file = fixed_aif p base g

  abbrev parts : ℕ
  parts = parts_size p

  abbrev zero_bytes : ℕ
  zero_bytes = zero_size p

  abbrev m : Bytes
  m = shifted_file file base

  known : (x : ℕ) → base ≤ x → x < base + parts + zero_bytes → view x ≡ Some (store m (base + parts) (zeros zero_bytes) x)
  known = started base false c items g ram f.image view f.shows m (λ x low high. refl)

  loads : IsFixedLoadable file parts zero_bytes (g.call - base) base view
  loads =
      let own : file ++ [] ≡ file = append-nil file in
      let there : HasWords (shifted_file (file ++ []) base) base (header_words false p base g.call) = header_there base false c items g ram f.image false [] base in
      record {
        image = record {
          header = subst (λ (bytes : List ℕ). IsHeader (shifted_file bytes base) base parts zero_bytes (g.call - base)) own (header_law base false c items g ram f.image false [] base);
          no_call = (subst (λ (bytes : List ℕ). HasWords (shifted_file bytes base) base (header_words false p base g.call)) own there).1.0;
        };
        size = parts_length base false c items g ram f.image false;
        whole = base_whole base false c items g ram f.image;
        room = let end = ends base false c items g ram f.image in omega arith;
        inside = λ x v e.
            let (low, high) = within base false c items g ram f.image view f.shows x (ap is_some e) in
            (low, high, same (store m (base + parts) (zeros zero_bytes) x) v (sym (known x low high) ∙ e));
        complete = λ x low high. (store m (base + parts) (zeros zero_bytes) x, known x low high);
      }

  -- ---- the veneer

  veneer_there : HasEntryVeneer base c g view → HasVeneer m base parts (g.call - base) g.entry
  veneer_there v =
      let low = f.image.call_low in let inside = v.inside in
      let ws : List ℕ = 0xE59FC000 ∷ 0xE12FFF1C ∷ g.entry ∷ [] in
      let fit : AllByRecursion IsWord ws = (omega arith, (omega arith, (v.small, tt))) in
      let there : HasWords m (base + (g.call - base)) ws =
      words_there m (base + (g.call - base)) ws [] fit (λ n lt.
      let at : base + (g.call - base) + n ≡ g.call + n = omega arith in
      same (m (base + (g.call - base) + n)) (slice_index (bytes_of_words ws ++ []) n)
      (sym (in_parts base false c items g ram f.image view f.shows (base + (g.call - base) + n) (omega arith) (omega arith)) ∙ ap view at ∙ v.shows n lt ∙ ap (λ (bytes : List ℕ). Some (slice_index bytes n)) (sym (append-nil (bytes_of_words ws))))) in
      record { fits = omega arith; load_word = there.0; exchange_word = there.1.0; target = as_code m (base + (g.call - base)) ws there 2 (omega arith); fair = v.fair }

pub fixed_image_loads : FixedImageLoads
fixed_image_loads = loads

pub fixed_image_boots : FixedImageBoots
fixed_image_boots = record {
  in_arm = λ base c items g ram view f e.
      let p : Plan = aif_plan base false c in
      let low = f.image.call_low in
      let at : base + (g.call - base) ≡ g.entry = omega (arith, low, e) in
      let To : ℕ → Type 0 = λ n. Boots (file_at (fixed_aif p base g) base) view (covers (base + parts_size p) (zero_size p)) base (aif_bound 0 (zero_size p)) n in
      subst To at (fixed_aif_boots (fixed_aif p base g) (parts_size p) (zero_size p) (g.call - base) base view (loads base c items g ram view f));
  by_veneer = λ base c items g ram view f v.
      let p : Plan = aif_plan base false c in
      fixed_aif_veneer_boots (fixed_aif p base g) (parts_size p) (zero_size p) (g.call - base) g.entry base view (loads base c items g ram view f) (veneer_there base c items g ram view f v);
}
