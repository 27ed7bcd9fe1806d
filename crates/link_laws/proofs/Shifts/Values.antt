-- The values of symbols where the image is moved.
use Rattle.std.proofs.Common.{◌≡◌, ℕ, ◌+◌, ◌*◌, Bool, true, false, cond, not, ◌&&◌, ◌||◌, ◌==◌, if◌then◌else◌, refl, sym, ap, subst, ◌∙◌, arith, Option, Some, None}
use Rattle.std.specs.Prelude.{is_some}
use Rattle.std.specs.Option.{option_map, option_and_then}
use Rattle.sdt_word.specs.Numbers.{bit}
use Rattle.aof_object.specs.declared.records.Reloc.{Reloc}
use Rattle.aof_object.specs.declared.records.Symbol.{Symbol}
use Rattle.patch_model.specs.Fields.{Home, Meant, kind_of, is_relative, is_by_symbol, number_named, is_thumb_label, mark_in, mark_of}
use Rattle.link_model.specs.declared.placing.Placement.{Placement}
use Rattle.link_model.specs.declared.selection.Definition.{Definition}
use Rattle.link_model.specs.Meaning.{Meaning, Defined, OfRegion, Weak, definition_of, meaning_by, meaning_of, symbol_of}
use Rattle.link_model.specs.Members.{Link}
use Rattle.link_model.specs.RegionValues.{region_number}
use Rattle.link_model.specs.Values.{home_area, unplaced, meant_at, meant_of, meant_by, meaning_at}
use Rattle.link_values.specs.Placed.{base_in, values_in}
use Rattle.link_values.specs.Shifts.{names_moving}
use Rattle.link_values.specs.Moving.{is_moving_symbol, is_moving}
use Rattle.link_laws.proofs.Shifts.Sums.{IsMovedIn}
use Rattle.link_laws.proofs.Shifts.Fields.{IsMovedSymbol, IsMovedImage}
use Rattle.link_laws.proofs.Shifts.Placement.{moved_placement, veneers_move, symbol_moves}
use Rattle.link_laws.proofs.ReducedLemmas.{plain_meant}

-- ---- meanings

abbrev moved_meaning : ℕ → Meaning → Meaning
moved_meaning by (Defined object k) = Defined object k
moved_meaning by (OfRegion n) = OfRegion (n + by)
moved_meaning by Weak = Weak

meant_moves : (by : ℕ) (d : Option Definition) (n : Option ℕ) (weak : Bool) → meaning_by d (option_map (λ x. x + by) n) weak ≡ option_map (moved_meaning by) (meaning_by d n weak)
meant_moves by (Some d) n weak = refl
meant_moves by None (Some n) weak = refl
meant_moves by None None true = refl
meant_moves by None None false = refl

module _ (by : ℕ) (l : Link) (p : Placement) (none : p.boot ≡ None) where
  meaning_moves : (object k : ℕ)
      → meaning_at l (region_number l.objects (moved_placement by p)) object k ≡ option_map (moved_meaning by) (meaning_at l (region_number l.objects p) object k)
  meaning_moves object k = go (symbol_of l.objects object k)
    where
      defined : (s : Symbol) (b : Bool) → (if b then Some (Defined object k) else meaning_by (definition_of l.definitions s.name) (region_number l.objects (moved_placement by p) s.name) (bit s.attributes 4 == 1))
          ≡ option_map (moved_meaning by) (if b then Some (Defined object k) else meaning_by (definition_of l.definitions s.name) (region_number l.objects p s.name) (bit s.attributes 4 == 1))
      defined s true = refl
      defined s false =
          ap (λ (o : Option ℕ). meaning_by (definition_of l.definitions s.name) o (bit s.attributes 4 == 1)) (symbol_moves by l.objects p none s.name)
          ∙ meant_moves by (definition_of l.definitions s.name) (region_number l.objects p s.name) (bit s.attributes 4 == 1)

      go : (o : Option Symbol) → option_and_then (meaning_of l.definitions (region_number l.objects (moved_placement by p)) object k) o
          ≡ option_map (moved_meaning by) (option_and_then (meaning_of l.definitions (region_number l.objects p) object k) o)
      go None = refl
      go (Some s) = defined s (bit s.attributes 0 == 1)

  moving_same : (o : Option Meaning) → is_moving l.objects (option_map (moved_meaning by) o) ≡ is_moving l.objects o
  moving_same None = refl
  moving_same (Some (Defined object k)) = refl
  moving_same (Some (OfRegion n)) = refl
  moving_same (Some Weak) = refl

  pub names_same : (object : ℕ) (r : Reloc) → names_moving l (moved_placement by p) object r ≡ names_moving l p object r
  names_same object r =
      ap (λ (b : Bool). not (is_by_symbol r) || b) (ap (is_moving l.objects) (meaning_moves object (number_named r)) ∙ moving_same (meaning_at l (region_number l.objects p) object (number_named r)))

  -- ---- values

  -- the areas of symbols stand so much higher
  abbrev pub HomesMove : Type 0
  HomesMove = (object k : ℕ) (s : Symbol) (area : ℕ) → symbol_of l.objects object k ≡ Some s → home_area s ≡ Some area → base_in (moved_placement by p) object area ≡ base_in p object area + by

  module _ (homes : HomesMove) where
    record Moves (moving : Bool) (m n : Meant) : Type 0 where
      symbol : IsMovedSymbol by m n
      number : n.number ≡ m.number + by * cond moving 1 0

    stays : (m : Meant) → m.home ≡ None → Moves false m m
    stays m e = record { symbol = record { home = refl; thumb = refl; datum = refl; stands = λ h f. absurd cc }; number = omega arith }

    by_home : (object k : ℕ) (s : Symbol) → symbol_of l.objects object k ≡ Some s → (o : Option ℕ) → home_area s ≡ o
        → Moves (is_some o) (meant_at (base_in p) object s o) (meant_at (base_in (moved_placement by p)) object s o)
    by_home object k s at None e = stays (meant_at (base_in p) object s None) refl
    by_home object k s at (Some area) e =
        let base = homes object k s area at e in
        record { symbol = record { home = refl; thumb = refl; datum = refl; stands = λ h f. omega (arith, base) }; number = omega (arith, base) }

    by_symbol : (object k : ℕ) (o : Option Symbol) → symbol_of l.objects object k ≡ o
        → Moves (is_moving_symbol o) (meant_of (base_in p) object o) (meant_of (base_in (moved_placement by p)) object o)
    by_symbol object k None e = stays (unplaced 0 false false) refl
    by_symbol object k (Some s) e = by_home object k s e (home_area s) refl

    by_meaning : (o : Option Meaning) → Moves (is_moving l.objects o) (meant_by l.objects (base_in p) o) (meant_by l.objects (base_in (moved_placement by p)) (option_map (moved_meaning by) o))
    by_meaning None = stays (unplaced 0 false false) refl
    by_meaning (Some (Defined object k)) = by_symbol object k (symbol_of l.objects object k) refl
    by_meaning (Some (OfRegion n)) = record { symbol = record { home = refl; thumb = refl; datum = refl; stands = λ h f. absurd cc }; number = omega arith }
    by_meaning (Some Weak) = stays (unplaced 0 false false) refl

    value_moves : (object k : ℕ) → Moves (is_moving l.objects (meaning_at l (region_number l.objects p) object k)) ((values_in l p object).symbol k) ((values_in l (moved_placement by p) object).symbol k)
    value_moves object k =
        let o : Option Meaning = meaning_at l (region_number l.objects p) object k in
        let own = by_meaning o in
        let here : meant_by l.objects (base_in p) o ≡ (values_in l p object).symbol k = plain_meant p.boot (meant_by l.objects (base_in p) o) none in
        let moved : meant_by l.objects (base_in (moved_placement by p)) (meaning_at l (region_number l.objects (moved_placement by p)) object k) ≡ (values_in l (moved_placement by p) object).symbol k =
        plain_meant (moved_placement by p).boot (meant_by l.objects (base_in (moved_placement by p)) (meaning_at l (region_number l.objects (moved_placement by p)) object k)) (ap (option_map (λ n. n + by)) none) in
        let same : meant_by l.objects (base_in (moved_placement by p)) (option_map (moved_meaning by) o) ≡ (values_in l (moved_placement by p) object).symbol k =
        ap (meant_by l.objects (base_in (moved_placement by p))) (sym (meaning_moves object k)) ∙ moved in
        subst (λ (m : Meant). Moves (is_moving l.objects o) m ((values_in l (moved_placement by p) object).symbol k)) here (subst (λ (m : Meant). Moves (is_moving l.objects o) (meant_by l.objects (base_in p) o) m) same own)

    pub image_moves : (object : ℕ) → IsMovedImage by p (moved_placement by p) (values_in l p object) (values_in l (moved_placement by p) object)
    image_moves object = record { symbols = λ k. (value_moves object k).symbol; veneers = veneers_move by p }

    -- a relocation that names a symbol, or an area that stands so much higher
    pub reloc_moves : (object : ℕ) (r : Reloc) → (is_by_symbol r ≡ false → base_in (moved_placement by p) object (number_named r) ≡ base_in p object (number_named r) + by)
        → IsMovedIn (names_moving l p object) by (values_in l p object) (values_in l (moved_placement by p) object) r
    reloc_moves object r area = record { named = go (is_by_symbol r) refl; mark = label }
      where
        k : ℕ
        k = number_named r

        moves : Moves (is_moving l.objects (meaning_at l (region_number l.objects p) object (number_named r))) ((values_in l p object).symbol (number_named r)) ((values_in l (moved_placement by p) object).symbol (number_named r))
        moves = value_moves object (number_named r)

        go : (b : Bool) → is_by_symbol r ≡ b
            → (if b then ((values_in l (moved_placement by p) object).symbol (number_named r)).number else (values_in l (moved_placement by p) object).base (number_named r))
            ≡ (if b then ((values_in l p object).symbol (number_named r)).number else (values_in l p object).base (number_named r))
            + by * cond (not b || is_moving l.objects (meaning_at l (region_number l.objects p) object (number_named r))) 1 0
        go true e = moves.number
        go false e = let base = area e in omega (arith, base)

        label : mark_of (values_in l (moved_placement by p) object) r ≡ mark_of (values_in l p object) r
        label =
            let m : Meant = (values_in l p object).symbol (number_named r) in
            let n : Meant = (values_in l (moved_placement by p) object).symbol (number_named r) in
            let s = moves.symbol in
            let same : is_thumb_label n ≡ is_thumb_label m =
            ap (λ (o : Option Home). is_some o && (n.thumb && not n.datum)) s.home ∙ ap (λ (b : Bool). is_some m.home && (b && not n.datum)) s.thumb ∙ ap (λ (b : Bool). is_some m.home && (m.thumb && not b)) s.datum in
            ap (mark_in (kind_of r) (is_relative r) (is_by_symbol r)) same
