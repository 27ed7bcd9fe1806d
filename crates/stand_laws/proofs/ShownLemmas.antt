-- Memory shows each thing of an area that keeps its bytes.
use Rattle.std.proofs.Common.{◌≡◌, inl, ℕ, ◌+◌, ◌*◌, ◌/◌, ◌%◌, ◌^◌, ◌<◌, ◌≤◌, Bool, true, false, cond, List, [], ◌∷◌, length, Option, Some, None, refl, sym, ap, subst, ◌∙◌, arith}
use Rattle.sdt_word.specs.Bytes.{bytes_of, number_of, word_in}
use Rattle.sdt_word.specs.Numbers.{bits, flag, sign_extended}
use Rattle.sdt_word.specs.Rows.{word_of}
use Rattle.sdt_word.specs.declared.codes.Condition.{Condition}
use Rattle.sdt_word.specs.declared.ranges.Range32.{Range32}
use Rattle.aof_object.specs.declared.records.Area.{Area}
use Rattle.aof_object.specs.declared.records.Reloc.{Reloc}
use Rattle.arm_isa.specs.ArmRows.{arm_row, arm_fields, ReadsArm}
use Rattle.arm_isa.specs.declared.instr.ArmInstr.{ArmInstr}
use Rattle.arm_isa.specs.declared.instr.ArmInstr.TheVariants as instr
use Rattle.thumb_isa.specs.declared.instr.ThumbInstr.{ThumbInstr}
use Rattle.thumb_isa.specs.declared.instr.ThumbInstr.TheVariants.{BranchLink}
use Rattle.source_model.specs.declared.codes.ThumbCode.TheVariants.{One, Pair}
use Rattle.asm_model.specs.declared.statements.Statement.{Statement}
use Rattle.patch_model.specs.Fields.{Word as WordField, Branch as BranchField, Values, field_of, is_thumb_label, number_named, directives, added, taken}
use Rattle.patch_model.specs.Laws.{StandsAt, state_of, state_to}
use Rattle.patch_model.specs.Patched.{total, biased_displacement, bias, pc_offset, SameBranch, Veneers, first_symbol, AreaPatched}
use Rattle.patch_model.specs.Reaches.{View, Shows, ShowsWord, VeneersStand, Reaches}
use Rattle.patch_model.proofs.BranchLemmas.{branch_law}
use Rattle.patch_model.proofs.PatchLemmas.{outside_law, word_law, reach_law, part_lt, shows_part}
use Rattle.source_model.specs.Objects.{Piece, half_of, link_word, unit_bytes, source_of, StandsIn, HoldsBytes, symbol_number, word_relocs, relocs_of, IsRelocOf, HasRelocs}
use Rattle.source_model.specs.Units.{Bytes, Word, Instruction, Half, LinkPair, Stored, RelocationTarget, Nothing, ByArea, BySymbol}
use Rattle.asm_instructions.proofs.WordLemmas.{fitting_are_written}
use Rattle.asm_instructions.proofs.ThumbFitLemmas.{codes_are_written}
use Rattle.stand_model.specs.Shown.{meant_by, added_by, LinkedBranch, LinkedPair, InstructionShown, PairShown, IsShown}
use Rattle.stand_model.specs.Stands.{ReadsHalfAt}
use Rattle.stand_laws.proofs.LinkedLemmas.{IsPair, branch_word, extended_low, target_sum, halves_shown, pair_halves, pair_target, pair_word, same_branch, stands_to}
use Rattle.stand_laws.proofs.DirectiveLemmas.{Facts, places_rise, outside_thing, adds, takes}
use Rattle.object_laws.proofs.RelocLemmas.{TargetBelow}
use Rattle.stand_laws.proofs.RelocLemmas.{reloc_place, own_directives, RelocIs, by_area, by_symbol, of_branch, of_pair}
use Rattle.stand_laws.proofs.ViewLemmas.{shows_there, number_of_bytes, bytes_wrapped}

-- an area that keeps its bytes, with what memory shows of it
pub record IsThere (ss : List Statement) (area : ℕ) (a : Area) (values : Values) (view : View) (veneers : Veneers) (out : List ℕ) : Type 0 where
  pub relocs : HasRelocs (source_of ss) area a.relocs
  pub holds : HoldsBytes (source_of ss) area a.bytes
  pub patched : AreaPatched a.relocs a.bytes (values.base area) values veneers out
  pub shows : Shows view (values.base area) out

word_sum : (new old number more add less : ℕ) → new ≡ total old add less → old ≡ number % 2 ^ 32 → add ≡ more → less ≡ 0 → new ≡ (number + more) % 2 ^ 32
word_sum new old number more add less e f g h = omega arith

no_base : (base less : ℕ) → less ≡ base * flag false → less ≡ 0
no_base base less h = omega arith

own_base : (base less : ℕ) → less ≡ base * flag true → less ≡ base
own_base base less h = omega arith

bare : (a b : ℕ) → a ≡ b + 0 → a ≡ b
bare a b h = omega arith

module _ (ss : List Statement) (area : ℕ) (a : Area) (values : Values) (view : View) (veneers : Veneers) (out : List ℕ) (facts : Facts ss area)
    (there : IsThere ss area a values view veneers out) where
  within : (p : Piece) → StandsIn (source_of ss) area p → p.0 + length (unit_bytes p.1) ≤ length out
  within p x =
      let inside = facts.inside p x in
      let size = there.holds.size in
      let same = there.patched.size in omega arith

  -- a thing without relocations
  unchanged : (p : Piece) → StandsIn (source_of ss) area p → relocs_of (source_of ss) p ≡ [] → Shows view (values.base area + p.0) (unit_bytes p.1)
  unchanged p x none =
      let n = length (unit_bytes p.1) in
      let same =
      outside_law a.relocs a.bytes (values.base area) values veneers out p.0 n there.patched (outside_thing ss area a.relocs facts there.relocs p x none) in
      subst (λ (l : List ℕ). Shows view (values.base area + p.0) l) (same ∙ there.holds.standing p x)
      (shows_there view (values.base area) out n p.0 (within p x) there.shows)

  -- ---- words

  new_word : (at : ℕ) (w : Stored) (by : Bool) (n : ℕ) (r : Reloc) → StandsIn (source_of ss) area (at, Word w) → IsRelocOf a.relocs r
      → RelocIs r at WordField false by n
      → word_in out at ≡ (w.number + added values (r ∷ [])) % 2 ^ 32
  new_word at w by n r x i is =
      let k = reloc_place a.relocs r i in
      let Sum : ℕ → List Reloc → Type 0 = λ p ds. word_in out p ≡ total (word_in a.bytes p) (added values ds) (taken (values.base area) ds) in
      let law = word_law a.relocs a.bytes (values.base area) values veneers out k.0 r there.patched k.1 is.kind_is in
      let ds = own_directives a.relocs r there.relocs.order (places_rise ss area a.relocs facts there.relocs) i in
      let here = subst (λ (l : List Reloc). Sum at l) ds (subst (λ (p : ℕ). Sum p (directives a.relocs (field_of r))) is.place law) in
      let old : word_in a.bytes at ≡ w.number % 2 ^ 32 = ap number_of (there.holds.standing (at, Word w) x) ∙ number_of_bytes w.number in
      word_sum (word_in out at) (word_in a.bytes at) w.number (added values (r ∷ [])) (added values (r ∷ [])) (taken (values.base area) (r ∷ []))
      here old refl (no_base (values.base area) (taken (values.base area) (r ∷ [])) (takes values (values.base area) r WordField false by n is))

  word_shown : (at : ℕ) (w : Stored) (by : Bool) (n : ℕ) (r : Reloc) (more : ℕ) → StandsIn (source_of ss) area (at, Word w) → IsRelocOf a.relocs r
      → RelocIs r at WordField false by n → added values (r ∷ []) ≡ more → ShowsWord view (values.base area + at) ((w.number + more) % 2 ^ 32)
  word_shown at w by n r more x i is m =
      subst (λ (v : ℕ). ShowsWord view (values.base area + at) v) (new_word at w by n r x i is ∙ ap (λ v. (w.number + v) % 2 ^ 32) m)
      (shows_part view (values.base area) out 4 at (within (at, Word w) x) there.patched.bytes there.shows)

  word_thing : (at : ℕ) (w : Stored) (t : RelocationTarget) → StandsIn (source_of ss) area (at, Word w) → w.target ≡ t
      → ShowsWord view (values.base area + at) ((w.number + added_by (source_of ss) values t) % 2 ^ 32)
  word_thing at w Nothing x e =
      let same : w.number ≡ w.number + 0 = omega arith in
      subst (λ (l : List ℕ). Shows view (values.base area + at) l) (sym (bytes_wrapped w.number) ∙ ap (λ v. bytes_of (v % 2 ^ 32) 4) same)
      (unchanged (at, Word w) x (ap (word_relocs (source_of ss) at) e))
  word_thing at w (ByArea k) x e =
      let r : Reloc = record { offset = at; word = 2 ^ 31 + 2 * 2 ^ 24 + k } in
      let i = there.relocs.all (at, Word w) r x (subst (λ (t : RelocationTarget). IsRelocOf (word_relocs (source_of ss) at t) r) (sym e) (inl refl)) in
      let is = by_area at k (subst (TargetBelow (2 ^ 24)) e (facts.below (at, Word w) x)) in
      word_shown at w false k r (values.base k) x i is (bare (added values (r ∷ [])) (values.base k)
      (adds values (values.base area) r WordField false false k is))
  word_thing at w (BySymbol name) x e =
      let n = symbol_number (source_of ss) name in
      let m = meant_by (source_of ss) values name in
      let r : Reloc = record { offset = at; word = 2 ^ 31 + 2 ^ 27 + 2 * 2 ^ 24 + n } in
      let i = there.relocs.all (at, Word w) r x (subst (λ (t : RelocationTarget). IsRelocOf (word_relocs (source_of ss) at t) r) (sym e) (inl refl)) in
      let is = by_symbol at n (facts.symbols name) in
      word_shown at w true n r (m.number + flag (is_thumb_label m)) x i is (adds values (values.base area) r WordField false true n is)

  -- ---- branches

  module _ (region : Range32) (area_at : ℕ → ℕ → ℕ) (stand : VeneersStand view region area_at veneers)
      (homes : (k : ℕ) → StandsAt area_at (values.symbol k) (values.symbol k).home) where
    branch_reaches : (thumb : Bool) (at n : ℕ) (r : Reloc) → IsRelocOf a.relocs r → RelocIs r at (BranchField thumb) true true n
        → Reaches view region thumb (values.base area + at)
        (total (values.base area + at + pc_offset thumb + biased_displacement thumb (word_in a.bytes at)) (added values (r ∷ []))
        (bias thumb + taken (values.base area) (r ∷ [])))
        (state_of thumb (values.symbol n) (values.symbol n).home)
    branch_reaches thumb at n r i is =
        let k = reloc_place a.relocs r i in
        let To : ℕ → List Reloc → Type 0 = λ p ds.
        Reaches view region thumb (values.base area + p)
        (total (values.base area + p + pc_offset thumb + biased_displacement thumb (word_in a.bytes p)) (added values ds)
        (bias thumb + taken (values.base area) ds))
        (state_to thumb values (first_symbol ds)) in
        let law =
        reach_law a.relocs a.bytes (values.base area) values veneers out k.0 r thumb view region area_at there.patched k.1 is.kind_is there.shows stand
        (stands_to area_at values homes (first_symbol (directives a.relocs (field_of r)))) in
        let ds = own_directives a.relocs r there.relocs.order (places_rise ss area a.relocs facts there.relocs) i in
        let here = subst (λ (l : List Reloc). To at l) ds (subst (λ (p : ℕ). To p (directives a.relocs (field_of r))) is.place law) in
        let symbol : first_symbol (r ∷ []) ≡ Some n =
        ap (λ b. cond b (Some (number_named r)) None) is.by_symbol_is ∙ ap Some is.number in
        subst (λ (o : Option ℕ). Reaches view region thumb (values.base area + at)
        (total (values.base area + at + pc_offset thumb + biased_displacement thumb (word_in a.bytes at)) (added values (r ∷ []))
        (bias thumb + taken (values.base area) (r ∷ [])))
        (state_to thumb values o)) symbol here

    linked : (at : ℕ) (c : Condition) (link : Bool) (d : ℕ) (name : List ℕ) → StandsIn (source_of ss) area (at, Instruction (instr.Branch c link d) (Some name))
        → LinkedBranch view region (values.base area + at) at c link d (meant_by (source_of ss) values name)
    linked at c link d name x =
        let i : ArmInstr = instr.Branch c link d in
        let n = symbol_number (source_of ss) name in
        let w = word_of (arm_row i) (arm_fields i) in
        let good = facts.good (at, Instruction i (Some name)) x in
        let reads = fitting_are_written i good.0 in
        let r : Reloc = record { offset = at; word = 2 ^ 31 + 2 ^ 27 + 2 ^ 26 + 3 * 2 ^ 24 + n } in
        let own = there.relocs.all (at, Instruction i (Some name)) r x (inl refl) in
        let is = of_branch at n (facts.symbols name) good.1 in
        linked_by at c link d n w r own is reads (branch_word c link d w reads) (ap number_of (there.holds.standing (at, Instruction i (Some name)) x))
        (within (at, Instruction i (Some name)) x)
      where
        linked_by : (at : ℕ) (c : Condition) (link : Bool) (d n w : ℕ) (r : Reloc) → IsRelocOf a.relocs r → RelocIs r at (BranchField false) true true n
            → ReadsArm w (instr.Branch c link d) → (w < 2 ^ 32) × (w % 2 ^ 24 ≡ d) → word_in a.bytes at ≡ number_of (bytes_of w 4) → at + 4 ≤ length out
            → LinkedBranch view region (values.base area + at) at c link d (values.symbol n)
        linked_by at c link d n w r own is reads known old room =
            let small = known.0 in
            let wrapped = number_of_bytes w in
            let same : word_in a.bytes at ≡ w = old ∙ wrapped ∙ omega arith in
            let k = reloc_place a.relocs r own in
            let rest = subst (λ (p : ℕ). SameBranch false (word_in a.bytes p) (word_in out p)) is.place
            (same_branch a.relocs a.bytes (values.base area) values veneers out k.0 r false there.patched k.1 is.kind_is) in
            let law = branch_law.arm_displacement 0 w in
            let low = extended_low w d known.1 in
            let sum = subst (λ s. (0 + s * 4 + 2 ^ 25) % 2 ^ 32 ≡ (0 + biased_displacement false w) % 2 ^ 32) low law in
            let displacement_is = subst (λ v. (0 + sign_extended d 24 * 4 + 2 ^ 25) % 2 ^ 32 ≡ (0 + biased_displacement false v) % 2 ^ 32) (sym same) sum in
            let more = bare (added values (r ∷ [])) (values.symbol n).number (adds values (values.base area) r (BranchField false) true true n is) in
            let less = own_base (values.base area) (taken (values.base area) (r ∷ [])) (takes values (values.base area) r (BranchField false) true true n is) in
            let target =
            target_sum (values.base area) at (biased_displacement false (word_in a.bytes at)) (added values (r ∷ [])) (taken (values.base area) (r ∷ []))
            (values.symbol n).number (sign_extended d 24) displacement_is more less in
            record {
              field = word_in out at % 2 ^ 24;
              reads = record {
                word = word_in out at;
                shows = shows_part view (values.base area) out 4 at room there.patched.bytes there.shows;
                reads = branch_law.arm_stays c link d w (word_in out at) reads (part_lt out 4 at room there.patched.bytes)
                    (subst (λ (v : ℕ). SameBranch false v (word_in out at)) same rest);
              };
              reaches = subst (λ (t : ℕ). Reaches view region false (values.base area + at) t (state_of false (values.symbol n) (values.symbol n).home)) target
                  (branch_reaches false at n r own is);
            }

    -- a pair of Thumb state
    linked_pair : (at first second : ℕ) (name : List ℕ) → StandsIn (source_of ss) area (at, LinkPair first second (Some name))
        → LinkedPair view region (values.base area + at) at first second (meant_by (source_of ss) values name)
    linked_pair at first second name x =
        let n = symbol_number (source_of ss) name in
        let good = facts.good (at, LinkPair first second (Some name)) x in
        let r : Reloc = record { offset = at + 1; word = 2 ^ 31 + 2 ^ 27 + 2 ^ 26 + 3 * 2 ^ 24 + n } in
        let own = there.relocs.all (at, LinkPair first second (Some name)) r x (inl refl) in
        pair_by at first second n (link_word first second) r own (of_pair at n (facts.symbols name) good.1) (pair_word first second good.0.0 good.0.1)
        (ap number_of (there.holds.standing (at, LinkPair first second (Some name)) x)) (within (at, LinkPair first second (Some name)) x)
      where
        pair_by : (at first second n w : ℕ) (r : Reloc) → IsRelocOf a.relocs r → RelocIs r at (BranchField true) true true n
            → IsPair first second w → word_in a.bytes at ≡ number_of (bytes_of w 4) → at + 4 ≤ length out
            → LinkedPair view region (values.base area + at) at first second (values.symbol n)
        pair_by at first second n w r own is p old room =
            let small = p.small in
            let wrapped = number_of_bytes w in
            let same : word_in a.bytes at ≡ w = old ∙ wrapped ∙ omega arith in
            let k = reloc_place a.relocs r own in
            let new = word_in out at in
            let rest = subst (λ (q : ℕ). SameBranch true (word_in a.bytes q) (word_in out q)) is.place
            (same_branch a.relocs a.bytes (values.base area) values veneers out k.0 r true there.patched k.1 is.kind_is) in
            let reads = branch_law.pair_stays w new (part_lt out 4 at room there.patched.bytes) p.branch (subst (λ (v : ℕ). SameBranch true v new) same rest) in
            let halves = halves_shown view (values.base area + at) new (shows_part view (values.base area) out 4 at room there.patched.bytes there.shows) in
            let law = branch_law.pair_displacement 0 w in
            let named = subst (λ (v : ℕ). (0 + sign_extended v 22 * 2 + 2 ^ 22) % 2 ^ 32 ≡ (0 + biased_displacement true w) % 2 ^ 32) p.field law in
            let displacement_is = subst (λ v. (0 + sign_extended (first * 2 ^ 11 + second) 22 * 2 + 2 ^ 22) % 2 ^ 32 ≡ (0 + biased_displacement true v) % 2
            ^ 32) (sym same) named in
            let more = bare (added values (r ∷ [])) (values.symbol n).number (adds values (values.base area) r (BranchField true) true true n is) in
            let less = own_base (values.base area) (taken (values.base area) (r ∷ [])) (takes values (values.base area) r (BranchField true) true true n is) in
            let target =
            pair_target (values.base area) at (biased_displacement true (word_in a.bytes at)) (added values (r ∷ [])) (taken (values.base area) (r ∷ []))
            (values.symbol n).number (sign_extended (first * 2 ^ 11 + second) 22) displacement_is more less in
            record {
              high = bits new 0 11;
              low = bits new 16 11;
              reads = (
                record { half = new % 2 ^ 16; shows = halves.0; reads = reads.0 },
                record { half = new / 2 ^ 16; shows = halves.1; reads = reads.1 },
              );
              reaches = subst (λ (t : ℕ). Reaches view region true (values.base area + at) t (state_of true (values.symbol n) (values.symbol n).home)) target
                  (branch_reaches true at n r own is);
            }

    -- ---- things

    half_shown : (at : ℕ) (i : ThumbInstr) → StandsIn (source_of ss) area (at, Half i) → ReadsHalfAt view (values.base area + at) i
    half_shown at i x = record { half = half_of i; shows = unchanged (at, Half i) x refl; reads = codes_are_written (One i) (facts.good (at, Half i) x) }

    pair_shown : (at first second : ℕ) (symbol : Option (List ℕ)) → StandsIn (source_of ss) area (at, LinkPair first second symbol)
        → PairShown (source_of ss) values view region (values.base area + at) at first second symbol
    pair_shown at first second None x =
        let good = facts.good (at, LinkPair first second None) x in
        let written = codes_are_written (Pair first second) good.0 in
        let halves = pair_halves view (values.base area + at) first second good.0.0 good.0.1 (unchanged (at, LinkPair first second None) x refl) in (
          record { half = half_of (BranchLink false first); shows = halves.0; reads = written.0 },
          record { half = half_of (BranchLink true second); shows = halves.1; reads = written.1 },
        )
    pair_shown at first second (Some name) x = linked_pair at first second name x

    instruction_shown : (at : ℕ) (i : ArmInstr) (symbol : Option (List ℕ)) → StandsIn (source_of ss) area (at, Instruction i symbol)
        → InstructionShown (source_of ss) values view region (values.base area + at) at i symbol
    instruction_shown at i None x = record {
      word = word_of (arm_row i) (arm_fields i);
      shows = unchanged (at, Instruction i None) x refl;
      reads = fitting_are_written i (facts.good (at, Instruction i None) x).0;
    }
    instruction_shown at (instr.Branch c link d) (Some name) x = linked at c link d name x
    instruction_shown at i (Some name) x = tt

    pub thing_shown : (p : Piece) → StandsIn (source_of ss) area p → IsShown (source_of ss) values view region (values.base area) p
    thing_shown (at, Bytes b) x = unchanged (at, Bytes b) x refl
    thing_shown (at, Word w) x = word_thing at w w.target x refl
    thing_shown (at, Instruction i symbol) x = instruction_shown at i symbol x
    thing_shown (at, Half i) x = half_shown at i x
    thing_shown (at, LinkPair first second symbol) x = pair_shown at first second symbol x
