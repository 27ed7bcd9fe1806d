-- A line of a source stands where memory shows what it puts into its area.
use Rattle.std.proofs.Common.{◌≡◌, ℕ, ◌+◌, ◌%◌, ◌^◌, ◌≤◌, List, ◌∷◌, ◌++◌, length, refl, sym, ◌∙◌, ap, subst, arith, Option, Some, None}
use Rattle.std.specs.Prelude.{Result}
use Rattle.sdt_fault.specs.declared.kinds.LineKind.{LineKind}
use Rattle.sdt_word.specs.declared.ranges.Range32.{Range32}
use Rattle.aof_object.specs.declared.records.Object.{Object}
use Rattle.asm_model.specs.declared.arm_lines.ArmLine.TheVariants as arm
use Rattle.asm_model.specs.declared.thumb_lines.ThumbLine.TheVariants as thumb
use Rattle.asm_model.specs.declared.directives.DirectiveLine.TheVariants as line
use Rattle.asm_model.specs.declared.names.LaidName.{LaidName}
use Rattle.asm_model.specs.declared.statements.PseudoLine.TheVariants as pseudo
use Rattle.asm_model.specs.declared.statements.Statement.{Statement}
use Rattle.asm_model.specs.declared.statements.What.{What}
use Rattle.asm_model.specs.declared.statements.What.TheVariants as what
use Rattle.asm_model.specs.declared.values.Value.{Value}
use Rattle.asm_model.specs.Before.{areas_behind}
use Rattle.asm_model.specs.Labels.{declared_names}
use Rattle.asm_model.specs.Laid.{LaidLine, statements_of, taken, laid, final_names}
use Rattle.asm_model.specs.LayoutKinds.{equals_in, settled}
use Rattle.asm_model.specs.Meaning.{named_in, entry_stands_at, in_area}
use Rattle.asm_model.specs.Placing.{address_at}
use Rattle.asm_model.specs.Symbols.{symbols_in, symbols_of}
use Rattle.asm_model.proofs.EntryLemmas.{lines_have_symbols}
use Rattle.asm_model.proofs.PlacedLemmas.{final_names_have_symbols}
use Rattle.layout_laws.proofs.FinalLemmas.{known_values_are_final}
use Rattle.layout_laws.proofs.SoundLemmas.{statements_kept}
use Rattle.object_laws.specs.Laws.{IsListed, OptionListed}
use Rattle.object_laws.proofs.FaultLemmas.{layout_here, line_valued}
use Rattle.object_laws.proofs.SizeLemmas.{line_small}
use Rattle.object_laws.proofs.TargetLemmas.{Fewer, arm_listed, lines_listed, thumb_listed}
use Rattle.patch_model.specs.Fields.{Values}
use Rattle.patch_model.specs.Reaches.{View}
use Rattle.asm_model.proofs.SaidLemmas.{are_plain}
use Rattle.source_model.specs.Contexts.{value_of}
use Rattle.source_model.specs.Objects.{source_of, units_from, or_none, IsAmong, IsObject}
use Rattle.source_model.specs.Units.{linked_symbol}
use Rattle.source_laws.specs.Laws.{is_filled, word_among}
use Rattle.source_laws.proofs.AgreeLemmas.{line_area}
use Rattle.source_laws.proofs.FaultlessLemmas.{layout_sound}
use Rattle.source_laws.proofs.LineLemmas.{is_laid}
use Rattle.source_laws.proofs.ListedLemmas.{line_thing}
use Rattle.stand_model.specs.Placed.{IsPlaced}
use Rattle.stand_model.specs.Shown.{meant_by}
use Rattle.stand_model.specs.Stands.{Stands, address_behind}
use Rattle.stand_laws.specs.Laws.{IsFaultless}
use Rattle.stand_laws.proofs.ArmLemmas.{Ready, SymbolMeets}
use Rattle.stand_laws.proofs.AreaLemmas.{area_there, found_at}
use Rattle.stand_laws.proofs.LineLemmas.{WhatMeets, line_stands, zeros_there}
use Rattle.stand_laws.proofs.SymbolLemmas.{symbol_placed_there}
use Rattle.stand_laws.proofs.ValueLemmas.{Setting, lookup, AllShown, ThingsShown, GapsShown, setting}
use Rattle.stand_laws.proofs.WordLemmas.{literal_holds}

near_enough : (offset size : ℕ) → offset + size ≤ 2 ^ 24 → offset + 8 ≤ 2 ^ 32
near_enough offset size h = omega arith

-- a line of a placed object's source
module _ (ss : List Statement) (o : Object) (fine : IsFaultless ss) (obj : IsObject ss o) (own : ℕ) (values : Values) (area_at : ℕ → ℕ → ℕ)
    (placed : IsPlaced own o values area_at) (view : View) (region : Range32) (area : ℕ) (after before : List LaidLine) (l : LaidLine)
    (parts : laid ss ≡ after ++ l ∷ before) (here : l.area ≡ Some area) where
  abbrev k : Setting
  k = setting ss values view region area l before

  abbrev names : List LaidName
  names = final_names (laid ss)

  -- its area is one of the object, whose base is a multiple of 4
  base_whole : values.base area % 4 ≡ 0
  base_whole =
      let same = ap (λ z. length (areas_behind z)) (statements_kept (declared_names ss) ss) ∙ sym obj.count in
      let count : length (areas_behind (statements_of (laid ss))) ≤ length o.areas = omega arith in
      let f = found_at o.areas area (area_there ss (length o.areas) area after before l count parts here) in
      placed.aligned area f.0 f.1

  ready : Ready k area l.offset
  ready =
      let p = is_laid (declared_names ss) ss after before l parts in
      record {
        here = lines_have_symbols names l.line (final_names_have_symbols ss fine.named);
        based = refl;
        own = line_area ss after before l parts ∙ here;
        starts = subst (λ (z : LaidLine). z.line.offset ≡ z.offset) (sym p.1) refl;
        small = near_enough l.offset l.size (line_small (settled (equals_in ss)) ss l before (layout_here ss fine.laid_out after before l parts));
        whole = base_whole;
      }

  -- ---- branches to symbols

  address_meets : (c : ℕ) (cs : List ℕ) → IsListed (symbols_of names (laid ss)) (c ∷ cs) → (x : Option LaidName) → named_in (c ∷ cs) names ≡ x
      → address_at (lookup k).placing (c ∷ cs) (entry_stands_at x) % 2 ^ 32 ≡ (meant_by (source_of ss) values (c ∷ cs)).number % 2 ^ 32
  address_meets c cs there None e = refl
  address_meets c cs there (Some n) e = by_place (in_area n.area n.offset) refl
    where
      by_place : (a : Option (ℕ × ℕ)) → in_area n.area n.offset ≡ a
          → address_at (lookup k).placing (c ∷ cs) a % 2 ^ 32 ≡ (meant_by (source_of ss) values (c ∷ cs)).number % 2 ^ 32
      by_place None h = refl
      by_place (Some a) h = symbol_placed_there ss o obj own values area_at placed c cs n a there e h

  -- the symbols of the line are listed
  listed : (w : What) → l.statement.what ≡ w → Fewer (symbols_in names l.line (taken l.extent) w) (symbols_of names (laid ss))
  listed w x =
      subst (λ z. Fewer (symbols_in names l.line (taken l.extent) z) (symbols_of names (laid ss))) x
      (subst (λ z. Fewer (symbols_in names l.line (taken l.extent) l.statement.what) (symbols_of names z)) (sym parts) (lines_listed names after before l))

  symbol_meets : (r : Result Value LineKind) → OptionListed (symbols_of names (laid ss)) (linked_symbol k.context r) → SymbolMeets k r
  symbol_meets r there = λ c cs h. address_meets c cs (subst (OptionListed (symbols_of names (laid ss))) h there) (named_in (c ∷ cs) names) refl

  -- ---- lines

  what_meets : ThingsShown k area → GapsShown (source_of ss) area view (values.base area) → (w : What) → l.statement.what ≡ w
      → WhatMeets k (values.base area + l.offset) l.size (word_among after l before) w
  what_meets shown gaps (what.Arm (arm.Branch condition link e)) x =
      let w : What = what.Arm (arm.Branch condition link e) in
      symbol_meets (value_of k.context e) (arm_listed (symbols_of names (laid ss)) k.context (arm.Branch condition link e) (listed w x))
  what_meets shown gaps (what.Thumb (thumb.BranchLink e)) x =
      let w : What = what.Thumb (thumb.BranchLink e) in
      symbol_meets (value_of k.context e) (thumb_listed (symbols_of names (laid ss)) k.context (thumb.BranchLink e) (listed w x))
  what_meets shown gaps (what.Pseudo (pseudo.LoadConstant condition rd e)) x =
      literal_holds ss fine values view region area after before l parts here ready.here shown condition rd e x (word_among after l before) refl
  what_meets shown gaps (what.Directive (line.Space e)) x =
      zeros_there ss (layout_sound ss fine.laid_out) area after before l parts here (ap is_filled x) (λ y. cc) view (values.base area) gaps
  what_meets shown gaps (what.Directive (line.Align b)) x =
      zeros_there ss (layout_sound ss fine.laid_out) area after before l parts here (ap is_filled x) (λ y. cc) view (values.base area) gaps
  what_meets shown gaps w x = tt

  pub shown_line_stands : ThingsShown k area → GapsShown (source_of ss) area view (values.base area)
      → Stands (lookup k) (values.base area + l.offset) l.size (address_behind (values.base area) (word_among after l before)) l.statement.what
  shown_line_stands shown gaps =
      let u = (line_valued ss fine.valued after before l parts).0 in
      let units_shown : AllShown k (units_from l.offset u.0) = λ p h.
      shown p (line_thing ss area p after before l parts here (subst (λ r. IsAmong p (units_from l.offset (or_none r))) (sym u.1) h)) in
      line_stands k area l.offset (values.base area + l.offset) ready refl l.seen l.size (word_among after l before) l.statement.what u.0 u.1 units_shown
      (known_values_are_final ss (layout_sound ss fine.laid_out) (are_plain ss fine.said) after before l parts)
      (what_meets shown gaps l.statement.what refl)
