-- Instructions of Thumb state: branches, words counted behind pc, and all others.
use Rattle.std.proofs.Common.{◌≡◌, ℕ, ◌+◌, ◌-◌, ◌*◌, ◌/◌, ◌%◌, ◌^◌, List, [], ◌∷◌, Bool, true, false, cond, refl, sym, ◌∙◌, ap, subst, Option, Some, None, inl, inr}
use Rattle.std.specs.Prelude.{Result, Ok, Err}
use Rattle.sdt_fault.specs.declared.kinds.LineKind.{LineKind}
use Rattle.sdt_fault.specs.declared.kinds.LineKind.TheVariants.{BadOperand}
use Rattle.sdt_word.specs.Numbers.{sign_extended}
use Rattle.thumb_isa.specs.declared.instr.HighOperation.TheVariants as high
use Rattle.thumb_isa.specs.declared.instr.ThumbInstr.{ThumbInstr}
use Rattle.thumb_isa.specs.declared.instr.ThumbInstr.TheVariants as instr
use Rattle.asm_model.specs.declared.exprs.Expr.{Expr}
use Rattle.asm_model.specs.declared.operands.LiteralAddress.TheVariants as literal
use Rattle.asm_model.specs.declared.operands.Register.{Register}
use Rattle.asm_model.specs.declared.statements.PseudoLine.{PseudoLine}
use Rattle.asm_model.specs.declared.statements.PseudoLine.TheVariants as pseudo
use Rattle.asm_model.specs.declared.thumb_lines.ThumbLine.{ThumbLine}
use Rattle.asm_model.specs.declared.thumb_lines.ThumbLine.TheVariants as thumb
use Rattle.asm_model.specs.declared.values.Value.{Value}
use Rattle.asm_model.specs.declared.values.Value.TheVariants.{Number, Truth, Words, Place}
use Rattle.asm_model.specs.Meaning.{named_in, in_area, stands_at}
use Rattle.asm_model.specs.Placing.{address_at, address_of}
use Rattle.asm_model.specs.Readings.{and_then, both, mapped}
use Rattle.asm_model.specs.Symbols.{keeps_state}
use Rattle.patch_model.specs.Fields.{Meant}
use Rattle.patch_model.specs.Laws.{state_of}
use Rattle.patch_model.specs.Reaches.{Reaches}
use Rattle.source_model.specs.ArmForms.{has_symbol, is_settled, offset_at}
use Rattle.source_model.specs.Contexts.{sees, value_of, register, own_offset}
use Rattle.source_model.specs.ThumbForms.{branch_by, from_word_pc, half_words, is_low, low, low_number, pair_fields, thumb_displacement, thumb_from, thumb_instruction, thumb_pseudo, units_below, word_offset, words_to}
use Rattle.source_model.specs.Units.{LinkPair, code_unit, link_symbol, linked_symbol}
use Rattle.source_model.specs.declared.codes.ThumbCode.{ThumbCode}
use Rattle.source_model.specs.declared.codes.ThumbCode.TheVariants.{One, Pair}
use Rattle.stand_model.specs.Shown.{LinkedPair, meant_by}
use Rattle.stand_model.specs.Stands.{CodeReadsAt, CountsTo, IsNumber, LabelCounted, LinkStands, ReadsHalfAt, ShortBranchStands, ThumbInstructionStands, ThumbPseudoStands, ThumbStands, address_behind, target_state}
use Rattle.stand_laws.proofs.ArmLemmas.{Ready, SymbolMeets, area_sum, displaced, own_stands, settled_in, start_sum}
use Rattle.stand_laws.proofs.HalfLemmas.{HoldsHalves, IsWidth, behind, behind_leads, behind_small, conditional_width, halves_held, link_field, link_width, linked_leads, short_width, words_are, words_lead}
use Rattle.stand_laws.proofs.PseudoLemmas.{PseudoHolds}
use Rattle.stand_laws.proofs.ResultLemmas.{both_ok, mapped_ok, then_ok}
use Rattle.stand_laws.proofs.ValueLemmas.{Setting, lookup, Shown, value_stands}

-- ---- what memory shows

code_shown : (k : Setting) (at a : ℕ) (i : ThumbCode) → a ≡ k.base + at → Shown k (at, code_unit None i) → CodeReadsAt k.view a i
code_shown k at a (One i) x s = subst (λ z. ReadsHalfAt k.view z i) (sym x) s
code_shown k at a (Pair first second) x s = subst (λ z. CodeReadsAt k.view z (Pair first second)) (sym x) s

-- ---- branches that are settled here

-- a displacement to an offset of the area, which is the address that the operand means
record Settled (k : Setting) (at : ℕ) (e : Expr) (d : ℕ) : Type 0 where
  offset : ℕ
  target : ℕ
  displaced : d ≡ behind at offset
  means : IsNumber (lookup k) e target
  leads : (k.base + offset) % 2 ^ 32 ≡ target

settled_start : (k : Setting) (area at : ℕ) → Ready k area at → (e : Expr) (n d : ℕ) → value_of k.context e ≡ Ok (Place [] n) → d ≡ thumb_from k.context [] n
    → Settled k at e d
settled_start k area at ready e n d v h = record {
  offset = n;
  target = (k.values.base area + 0 + n) % 2 ^ 32;
  displaced = h ∙ ap (λ z. behind z n) ready.starts;
  means = value_stands (lookup k) e (Place [] n) ready.here v ∙ ap (λ z. Ok (Number ((address_at (lookup k).placing [] (in_area z 0) + n) % 2 ^ 32))) ready.own;
  leads = start_sum k.base n (k.values.base area) ready.based;
}

settled_there : (k : Setting) (area at : ℕ) → Ready k area at → (e : Expr) (y : ℕ) (ys : List ℕ) (n d : ℕ) → value_of k.context e ≡ Ok (Place (y ∷ ys) n)
    → is_settled k.context (y ∷ ys) ≡ true → d ≡ thumb_from k.context (y ∷ ys) n → Settled k at e d
settled_there k area at ready e y ys n d v t h =
    let q : List ℕ = y ∷ ys in
    let p =
    settled_in k.context.line.area (stands_at (sees k.context) q) area (keeps_state k.context.line.thumb (named_in q (sees k.context).list)) ready.own t in
    let o : ℕ = p.0 + n in
    record {
      offset = o;
      target = (k.values.base area + p.0 + n) % 2 ^ 32;
      displaced = h ∙ ap (λ (b : Bool). behind k.context.line.offset (cond b (offset_at (stands_at (sees k.context) q) + n) n)) t
          ∙ ap (λ z. behind k.context.line.offset (offset_at z + n)) p.1 ∙ ap (λ z. behind z o) ready.starts;
      means = value_stands (lookup k) e (Place q n) ready.here v ∙ ap (λ z. Ok (Number ((address_at (lookup k).placing q z + n) % 2 ^ 32))) p.1;
      leads = area_sum k.base p.0 n (k.values.base area) ready.based;
    }

settled_of : (k : Setting) (area at : ℕ) → Ready k area at → (e : Expr) (r : Result Value LineKind) (d : ℕ) → value_of k.context e ≡ r
    → thumb_displacement false k.context r ≡ Ok d → Settled k at e d
settled_of k area at ready e (Ok (Place [] n)) d v h = settled_start k area at ready e n d v (displaced true (thumb_from k.context [] n) d h)
settled_of k area at ready e (Ok (Place (y ∷ ys) n)) d v h = by_test (is_settled k.context (y ∷ ys)) refl h
  where
    by_test : (t : Bool) → is_settled k.context (y ∷ ys) ≡ t → cond t (Ok (thumb_from k.context (y ∷ ys) n)) (Err BadOperand) ≡ Ok d → Settled k at e d
    by_test true t g = settled_there k area at ready e y ys n d v t (displaced true (thumb_from k.context (y ∷ ys) n) d g)
    by_test false t g = absurd (cc)
settled_of k area at ready e (Ok (Number n)) d v h = absurd (cc)
settled_of k area at ready e (Ok (Truth b)) d v h = absurd (cc)
settled_of k area at ready e (Ok (Words b)) d v h = absurd (cc)
settled_of k area at ready e (Err j) d v h = absurd (cc)

-- a branch whose field holds so many half-words
short_stands : (k : Setting) (area at a : ℕ) → Ready k area at → a ≡ k.base + at → (limit size : ℕ) → IsWidth limit size → (make : ℕ → ThumbInstr)
    → ((f target : ℕ) → ReadsHalfAt k.view a (make f) → (a + 4 + sign_extended f size * 2) % 2 ^ 32 ≡ target % 2 ^ 32
    → Reaches k.view k.region true a target true)
    → (e : Expr) (code : ThumbCode) → mapped (λ i. One i) (mapped make (branch_by k.context limit e)) ≡ Ok code → Shown k (at, code_unit None code)
    → ShortBranchStands (lookup k) a make e
short_stands k area at a ready x limit size width make reaches e code h s =
    let o = mapped_ok (λ i. One i) (mapped make (branch_by k.context limit e)) code h in
    let m = mapped_ok make (branch_by k.context limit e) o.from o.is in
    let t = then_ok (half_words limit) (thumb_displacement false k.context (value_of k.context e)) m.from m.is in
    let d = settled_of k area at ready e (value_of k.context e) t.from refl t.is in
    let held : HoldsHalves size t.from m.from = halves_held limit size t.from m.from width (behind_small at d.offset t.from d.displaced) t.gives in
    let reads : ReadsHalfAt k.view a (make m.from) =
    code_shown k at a (One (make m.from)) x (subst (λ z. Shown k (at, code_unit None z)) (sym (ap (λ i. One i) m.gives ∙ o.gives)) s) in
    record {
      field = m.from;
      reads = reads;
      target = d.target;
      means = d.means;
      reaches = reaches m.from d.target reads (held.spans (a + 4) ∙ behind_leads k.base at d.offset a t.from d.target ready.small x d.displaced d.leads);
    }

-- ---- BL

-- the state in which BL reaches its target
abbrev state_for : Setting → Expr → Bool
state_for k e = target_state true (lookup k) (value_of k.context e)

link_settled : (k : Setting) (area at a : ℕ) → Ready k area at → a ≡ k.base + at → (e : Expr) (d f : ℕ) → half_words (2 ^ 22) d ≡ Ok f → Settled k at e d
    → CodeReadsAt k.view a (pair_fields f) → state_for k e ≡ true → LinkStands (lookup k) a e
link_settled k area at a ready x e d f field s reads state =
    let held : HoldsHalves 22 d f = halves_held (2 ^ 22) 22 d f link_width (behind_small at s.offset d s.displaced) field in
    let leads = held.spans (a + 4) ∙ behind_leads k.base at s.offset a d s.target ready.small x s.displaced s.leads in
    record {
      first = f / 2 ^ 11;
      second = f % 2 ^ 11;
      reads = reads;
      target = s.target;
      means = s.means;
      reaches = subst (λ z. Reaches k.view k.region true a s.target z) (sym state)
          (inl (
            inl (record {
              first = f / 2 ^ 11;
              second = f % 2 ^ 11;
              high_half = reads.0.half;
              low_half = reads.1.half;
              shows_high = reads.0.shows;
              shows_low = reads.1.shows;
              reads_high = reads.0.reads;
              reads_low = reads.1.reads;
              leads = subst (λ z. (a + 4 + sign_extended z 22 * 2) % 2 ^ 32 ≡ s.target % 2 ^ 32) (sym (link_field f)) leads;
            }),
            refl,
          ));
    }

link_to : (k : Setting) (area at a : ℕ) → Ready k area at → a ≡ k.base + at → (e : Expr) (y : ℕ) (ys : List ℕ) (n d f : ℕ)
    → value_of k.context e ≡ Ok (Place (y ∷ ys) n) → d ≡ thumb_from k.context (y ∷ ys) n → half_words (2 ^ 22) d ≡ Ok f
    → Shown k (at, code_unit (linked_symbol k.context (Ok (Place (y ∷ ys) n))) (pair_fields f)) → SymbolMeets k (Ok (Place (y ∷ ys) n))
    → LinkStands (lookup k) a e
link_to k area at a ready x e y ys n d f v h field s meets =
    by_test (is_settled k.context (y ∷ ys)) refl h s (meets y ys) (ap (target_state true (lookup k)) v)
  where
    q : List ℕ
    q = y ∷ ys

    m : Meant
    m = meant_by k.source k.values q

    left : d ≡ behind k.context.line.offset n → Shown k (at, LinkPair (f / 2 ^ 11) (f % 2 ^ 11) (Some q))
        → address_of (lookup k).placing (sees k.context) q % 2 ^ 32 ≡ m.number % 2 ^ 32
        → state_for k e ≡ state_of true m m.home → LinkStands (lookup k) a e
    left g b meet state =
        let l : LinkedPair k.view k.region (k.base + at) at (f / 2 ^ 11) (f % 2 ^ 11) m = b in
        let address : ℕ = address_of (lookup k).placing (sees k.context) q in
        let there : d ≡ behind at n = g ∙ ap (λ z. behind z n) ready.starts in
        let held : HoldsHalves 22 d f = halves_held (2 ^ 22) 22 d f link_width (behind_small at n d there) field in
        let leads = linked_leads at d (sign_extended f 22) n m.number address ready.small there (held.spans (at + 4)) meet in
        let whole = subst (λ z. (at + 4 + sign_extended z 22 * 2 + m.number) % 2 ^ 32 ≡ (address + n) % 2 ^ 32) (sym (link_field f)) leads in
        record {
          first = l.high;
          second = l.low;
          reads = subst (λ z. CodeReadsAt k.view z (Pair l.high l.low)) (sym x) l.reads;
          target = (address + n) % 2 ^ 32;
          means = value_stands (lookup k) e (Place q n) ready.here v;
          reaches = subst (λ z. Reaches k.view k.region true z ((address + n) % 2 ^ 32) (state_for k e)) (sym x)
              (subst (λ z. Reaches k.view k.region true (k.base + at) ((address + n) % 2 ^ 32) z) (sym state)
              (subst (λ z. Reaches k.view k.region true (k.base + at) z (state_of true m m.home)) whole l.reaches));
        }

    by_test : (t : Bool) → is_settled k.context q ≡ t
        → d ≡ behind k.context.line.offset (cond t (offset_at (stands_at (sees k.context) q) + n) n)
        → Shown k (at, code_unit (cond t None (Some q)) (pair_fields f))
        → (cond t None (Some q) ≡ Some q → address_of (lookup k).placing (sees k.context) q % 2 ^ 32 ≡ m.number % 2 ^ 32)
        → state_for k e ≡ cond t true (state_of true m m.home) → LinkStands (lookup k) a e
    by_test true t g b meet state =
        link_settled k area at a ready x e d f field (settled_there k area at ready e y ys n d v t h) (code_shown k at a (pair_fields f) x b) state
    by_test false t g b meet state = left g b (meet refl) state

link_of : (k : Setting) (area at a : ℕ) → Ready k area at → a ≡ k.base + at → (e : Expr) (r : Result Value LineKind) (d f : ℕ)
    → value_of k.context e ≡ r → thumb_displacement true k.context r ≡ Ok d → half_words (2 ^ 22) d ≡ Ok f
    → Shown k (at, code_unit (linked_symbol k.context r) (pair_fields f)) → SymbolMeets k r → LinkStands (lookup k) a e
link_of k area at a ready x e (Ok (Place [] n)) d f v h field s meets =
    link_settled k area at a ready x e d f field (settled_start k area at ready e n d v (displaced true (thumb_from k.context [] n) d h))
    (code_shown k at a (pair_fields f) x s)
    (ap (target_state true (lookup k)) v)
link_of k area at a ready x e (Ok (Place (y ∷ ys) n)) d f v h field s meets =
    link_to k area at a ready x e y ys n d f v (displaced (has_symbol k.context (y ∷ ys)) (thumb_from k.context (y ∷ ys) n) d h) field s meets
link_of k area at a ready x e (Ok (Number n)) d f v h field s meets = absurd (cc)
link_of k area at a ready x e (Ok (Truth b)) d f v h field s meets = absurd (cc)
link_of k area at a ready x e (Ok (Words b)) d f v h field s meets = absurd (cc)
link_of k area at a ready x e (Err j) d f v h field s meets = absurd (cc)

link_stands : (k : Setting) (area at a : ℕ) → Ready k area at → a ≡ k.base + at → (e : Expr) (code : ThumbCode)
    → thumb_instruction k.context (thumb.BranchLink e) ≡ Ok code → Shown k (at, code_unit (linked_symbol k.context (value_of k.context e)) code)
    → SymbolMeets k (value_of k.context e) → LinkStands (lookup k) a e
link_stands k area at a ready x e code h s meets =
    let m = mapped_ok pair_fields (and_then (thumb_displacement true k.context (value_of k.context e)) (half_words (2 ^ 22))) code h in
    let t = then_ok (half_words (2 ^ 22)) (thumb_displacement true k.context (value_of k.context e)) m.from m.is in
    link_of k area at a ready x e (value_of k.context e) t.from m.from refl t.is t.gives
    (subst (λ z. Shown k (at, code_unit (linked_symbol k.context (value_of k.context e)) z)) (sym m.gives) s) meets

-- ---- words counted behind pc

low_is : (r n : ℕ) → low_number r ≡ Ok n → r ≡ n
low_is r n h = by_test (is_low r) h
  where
    by_test : (b : Bool) → cond b (Ok r) (Err BadOperand) ≡ Ok n → r ≡ n
    by_test true k = cc
    by_test false k = absurd (cc)

-- an instruction with a low register and a distance in words
counts : (k : Setting) (area at a : ℕ) → Ready k area at → a ≡ k.base + at
    → (make : ℕ → ℕ → ThumbInstr) (rd : Register) (to : Result ℕ LineKind) (o : ℕ) (i : ThumbInstr)
    → to ≡ Ok o → mapped (λ (p : ℕ × ℕ). make p.0 p.1) (both (low k.context rd) (words_to k.context to)) ≡ Ok i → ReadsHalfAt k.view a i
    → CountsTo k.view a (make (register k.context rd)) ((k.base + o) % 2 ^ 32)
counts k area at a ready x make rd to o i e h s =
    let m = mapped_ok (λ (p : ℕ × ℕ). make p.0 p.1) (both (low k.context rd) (words_to k.context to)) i h in
    let b = both_ok (λ (y : ℕ) (z : ℕ). (y, z)) (low k.context rd) (words_to k.context to) m.from m.is in
    let t = then_ok (λ z. units_below 4 256 (from_word_pc k.context z)) to b.second b.is_second in
    let same : o ≡ t.from = cc in
    let own : register k.context rd ≡ b.first = low_is (register k.context rd) b.first b.is_first in
    let far : from_word_pc k.context t.from ≡ (o + (2 ^ 32 - (at + 4) / 4 * 4)) % 2 ^ 32 =
    ap (from_word_pc k.context) (sym same) ∙ ap (λ z. (o + (2 ^ 32 - (z + 4) / 4 * 4)) % 2 ^ 32) ready.starts in
    let words : b.second * 4 ≡ (o + (2 ^ 32 - (at + 4) / 4 * 4)) % 2 ^ 32 = words_are (from_word_pc k.context t.from) b.second t.gives ∙ far in
    let made : make (register k.context rd) b.second ≡ i = ap (λ z. make z b.second) own ∙ ap (λ (p : ℕ × ℕ). make p.0 p.1) b.gives ∙ m.gives in
    record {
      words = b.second;
      reads = subst (ReadsHalfAt k.view a) (sym made) s;
      leads = words_lead k.base at o a (b.second * 4) ready.small ready.whole x words;
    }

-- to a label of the statement's own area
label_counted : (k : Setting) (area at a : ℕ) → Ready k area at → a ≡ k.base + at → (make : ℕ → ℕ → ThumbInstr) (rd : Register) (e : Expr) (i : ThumbInstr)
    → mapped (λ (p : ℕ × ℕ). make p.0 p.1) (both (low k.context rd) (words_to k.context (own_offset k.context (value_of k.context e)))) ≡ Ok i
    → ReadsHalfAt k.view a i
    → LabelCounted (lookup k) a (make (register k.context rd)) e
label_counted k area at a ready x make rd e i h s =
    let to = own_offset k.context (value_of k.context e) in
    let m = mapped_ok (λ (p : ℕ × ℕ). make p.0 p.1) (both (low k.context rd) (words_to k.context to)) i h in
    let b = both_ok (λ (y : ℕ) (z : ℕ). (y, z)) (low k.context rd) (words_to k.context to) m.from m.is in
    let t = then_ok (λ z. units_below 4 256 (from_word_pc k.context z)) to b.second b.is_second in
    record {
      label = (k.base + t.from) % 2 ^ 32;
      means = own_stands k area at ready e t.from (value_of k.context e) refl t.is;
      counts = counts k area at a ready x make rd to t.from i t.is h s;
    }

-- ---- all lines

abbrev pub LinkMeets : Setting → ThumbLine → Type 0
LinkMeets k (thumb.BranchLink e) = SymbolMeets k (value_of k.context e)
LinkMeets k l = Unit {0}

plain_thumb : (k : Setting) (at a : ℕ) → a ≡ k.base + at → (l : ThumbLine) (i : ThumbCode) → thumb_instruction k.context l ≡ Ok i
    → Shown k (at, code_unit None i)
    → ThumbInstructionStands (lookup k) a l
plain_thumb k at a x l i h s = record { code = i; says = h; reads = code_shown k at a i x s }

literal_stands : (k : Setting) (area at a : ℕ) → Ready k area at → a ≡ k.base + at → (rd : Register) (e : Expr) (code : ThumbCode)
    → thumb_instruction k.context (thumb.LoadLiteral rd (literal.Label e)) ≡ Ok code → Shown k (at, code_unit None code)
    → LabelCounted (lookup k) a (instr.LoadLiteral (register k.context rd)) e
literal_stands k area at a ready x rd e code h s =
    let made = mapped (λ (p : ℕ × ℕ). instr.LoadLiteral p.0 p.1) (both (low k.context rd) (words_to k.context (own_offset k.context (value_of k.context e)))) in
    let o = mapped_ok (λ i. One i) made code h in
    label_counted k area at a ready x (λ d w. instr.LoadLiteral d w) rd e o.from o.is
    (code_shown k at a (One o.from) x (subst (λ z. Shown k (at, code_unit None z)) (sym o.gives) s))

pub thumb_stands : (k : Setting) (area at a : ℕ) → Ready k area at → a ≡ k.base + at → (l : ThumbLine) (i : ThumbCode) → thumb_instruction k.context l ≡ Ok i
    → Shown k (at, code_unit (link_symbol k.context l) i) → LinkMeets k l → ThumbStands (lookup k) a l
thumb_stands k area at a ready x (thumb.LoadLiteral rd (literal.Label e)) i h s meets = literal_stands k area at a ready x rd e i h s
thumb_stands k area at a ready x (thumb.BranchConditional condition e) i h s meets =
    short_stands k area at a ready x (2 ^ 8) 8 conditional_width (λ f. instr.BranchConditional condition f)
    (λ f target r leads. (
    inl (inr (inr (record { condition = condition; field = f; half = r.half; shows = r.shows; reads = r.reads; leads = leads })), refl))) e i h s
thumb_stands k area at a ready x (thumb.Branch e) i h s meets =
    short_stands k area at a ready x (2 ^ 11) 11 short_width (λ f. instr.Branch f)
    (λ f target r leads. (inl (inr (inl (record { field = f; half = r.half; shows = r.shows; reads = r.reads; leads = leads })), refl))) e i h s
thumb_stands k area at a ready x (thumb.BranchLink e) i h s meets = link_stands k area at a ready x e i h s meets
thumb_stands k area at a ready x l i h s meets = plain_thumb k at a x l i h s

-- ---- pseudo-instructions

pub thumb_pseudo_stands : (k : Setting) (area at a : ℕ) → Ready k area at → a ≡ k.base + at → (word : Option ℕ) (l : PseudoLine) (i : ThumbInstr)
    → thumb_pseudo k.context word l ≡ Ok i → ReadsHalfAt k.view a i → PseudoHolds k word l → ThumbPseudoStands (lookup k) a (address_behind k.base word) l
thumb_pseudo_stands k area at a ready x None (pseudo.LoadConstant condition rd e) i h s holds =
    let m = mapped_ok (λ (p : ℕ × ℕ). instr.LoadLiteral p.0 p.1) (both (low k.context rd) (words_to k.context (word_offset None))) i h in
    let b = both_ok (λ (y : ℕ) (z : ℕ). (y, z)) (low k.context rd) (words_to k.context (word_offset None)) m.from m.is in
    let never = b.is_second in
    absurd (cc)
thumb_pseudo_stands k area at a ready x (Some w) (pseudo.LoadConstant condition rd e) i h s holds =
    (counts k area at a ready x (λ d n. instr.LoadLiteral d n) rd (word_offset (Some w)) w i refl h s, holds)
thumb_pseudo_stands k area at a ready x word (pseudo.Address condition rd e) i h s holds =
    label_counted k area at a ready x (λ d n. instr.LoadAddress false d n) rd e i h s
thumb_pseudo_stands k area at a ready x word (pseudo.LongAddress condition rd e) i h s holds = absurd (cc)
thumb_pseudo_stands k area at a ready x word pseudo.NoOperation i h s holds =
    let e : instr.HighRegister high.Mov true true 0 0 ≡ i = cc in
    subst (ReadsHalfAt k.view a) (sym e) s
