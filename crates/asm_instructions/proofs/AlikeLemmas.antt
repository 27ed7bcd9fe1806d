-- Contexts that find the same say the same instructions.
use Rattle.std.proofs.Common.{◌≡◌, ℕ, zero, suc, ◌+◌, ◌-◌, ◌*◌, ◌%◌, ◌^◌, ◌&&◌, ◌||◌, not, List, [], ◌∷◌, cond, Option, Some, None, refl, ap, ◌∙◌}
use Rattle.std.specs.Prelude.{Result, Ok, Err}
use Rattle.std.specs.List.{list_any}
use Rattle.sdt_word.specs.Numbers.{flag}
use Rattle.sdt_fault.specs.declared.kinds.LineKind.{LineKind}
use Rattle.sdt_fault.specs.declared.kinds.LineKind.TheVariants.{BadOperand}
use Rattle.asm_model.specs.declared.exprs.Expr.{Expr}
use Rattle.asm_model.specs.declared.operands.Address.TheVariants as address
use Rattle.asm_model.specs.declared.operands.HalfOffset.TheVariants as half
use Rattle.asm_model.specs.declared.operands.ListItem.{ListItem}
use Rattle.asm_model.specs.declared.operands.ListItem.TheVariants as item
use Rattle.asm_model.specs.declared.operands.Shift.{Shift}
use Rattle.asm_model.specs.declared.operands.Shift.TheVariants as shift
use Rattle.asm_model.specs.declared.arm_lines.ArmLine.{ArmLine}
use Rattle.asm_model.specs.declared.arm_lines.ArmLine.TheVariants as arm
use Rattle.asm_model.specs.declared.statements.PseudoLine.{PseudoLine}
use Rattle.asm_model.specs.declared.statements.PseudoLine.TheVariants as pseudo
use Rattle.asm_model.specs.declared.thumb_lines.ThumbLine.{ThumbLine}
use Rattle.asm_model.specs.declared.thumb_lines.ThumbLine.TheVariants as thumb
use Rattle.asm_model.specs.declared.values.Value.{Value}
use Rattle.asm_model.specs.declared.values.Value.TheVariants.{Number, Truth, Words, Place}
use Rattle.asm_model.specs.Labels.{is_hidden}
use Rattle.asm_model.specs.Meaning.{named_in, in_area, entry_stands_at, stands_at}
use Rattle.asm_model.specs.Extents.{as_number}
use Rattle.asm_model.specs.Symbols.{is_in_area, keeps_state}
use Rattle.source_model.specs.Contexts.{Context, sees, value_of, may_have_symbol, is_symbol_entry, number_in, in_own_area, own_offset, from_pc}
use Rattle.source_model.specs.ArmForms.{shift_fields, is_listed_by, list_bits, is_settled, branch_from, has_symbol, branch_displacement, arm_instruction, offset_at}
use Rattle.source_model.specs.PseudoForms.{pseudo_instructions}
use Rattle.source_model.specs.Units.{linked_symbol, branch_symbol, link_symbol}
use Rattle.asm_instructions.proofs.ContextLemmas.{Alike}

module _ (a b : Context) (s : Alike a b) where
  pub number_alike : (e : Expr) → number_in a e ≡ number_in b e
  number_alike e = ap as_number (s.value e)

  pub stands_alike : (q : List ℕ) → stands_at (sees a) q ≡ stands_at (sees b) q
  stands_alike [] = ap (λ area. in_area area 0) s.area
  stands_alike (x ∷ xs) = ap entry_stands_at (s.entry (x ∷ xs))

  pub pc_alike : (o : ℕ) → from_pc a o ≡ from_pc b o
  pc_alike o = ap (λ at. (o + (2 ^ 32 - (at + 8))) % 2 ^ 32) s.offset

  offset_alike : (v : Result Value LineKind) → own_offset a v ≡ own_offset b v
  offset_alike (Ok (Place q n)) = ap (λ area. in_own_area area (stands_at (sees a) q) n) s.area ∙ ap (λ p. in_own_area b.line.area p n) (stands_alike q)
  offset_alike (Ok (Number n)) = refl
  offset_alike (Ok (Truth t)) = refl
  offset_alike (Ok (Words w)) = refl
  offset_alike (Err k) = refl

  pub label_alike : (e : Expr) → own_offset a (value_of a e) ≡ own_offset b (value_of b e)
  label_alike e = ap (own_offset a) (s.value e) ∙ offset_alike (value_of b e)

  shift_alike : (f : Shift) → shift_fields a f ≡ shift_fields b f
  shift_alike shift.Unshifted = refl
  shift_alike (shift.By kind e) = rw (number_alike e) refl
  shift_alike shift.Extended = refl

  pub settled_alike : (q : List ℕ) → is_settled a q ≡ is_settled b q
  settled_alike q =
      ap (λ t. is_in_area t (stands_at (sees a) q) && keeps_state a.line.thumb (named_in q (sees a).list)) s.area
      ∙ ap (λ t. is_in_area b.line.area t && keeps_state a.line.thumb (named_in q (sees a).list)) (stands_alike q)
      ∙ ap (λ t. is_in_area b.line.area (stands_at (sees b) q) && keeps_state t (named_in q (sees a).list)) s.thumb
      ∙ ap (λ t. is_in_area b.line.area (stands_at (sees b) q) && keeps_state b.line.thumb t) (s.entry q)

  from_alike : (q : List ℕ) (n : ℕ) → branch_from a q n ≡ branch_from b q n
  from_alike [] n = pc_alike n
  from_alike (x ∷ xs) n =
      ap (λ t. from_pc a (cond t (offset_at (stands_at (sees a) (x ∷ xs)) + n) n)) (settled_alike (x ∷ xs))
      ∙ ap (λ t. from_pc a (cond (is_settled b (x ∷ xs)) (offset_at t + n) n)) (stands_alike (x ∷ xs))
      ∙ pc_alike (cond (is_settled b (x ∷ xs)) (offset_at (stands_at (sees b) (x ∷ xs)) + n) n)

  pub symbol_alike : (q : List ℕ) → has_symbol a q ≡ has_symbol b q
  symbol_alike [] = refl
  symbol_alike (x ∷ xs) =
      ap (λ t. t || may_have_symbol a (x ∷ xs)) (settled_alike (x ∷ xs))
      ∙ ap (λ t. is_settled b (x ∷ xs) || (is_symbol_entry t && not (is_hidden (x ∷ xs)))) (s.entry (x ∷ xs))

  displacement_alike : (v : Result Value LineKind) → branch_displacement a v ≡ branch_displacement b v
  displacement_alike (Ok (Place q n)) =
      ap (λ t. cond t (Ok (branch_from a q n)) (Err BadOperand)) (symbol_alike q)
      ∙ ap (λ t. cond (has_symbol b q) (Ok t) (Err BadOperand)) (from_alike q n)
  displacement_alike (Ok (Number n)) = refl
  displacement_alike (Ok (Truth t)) = refl
  displacement_alike (Ok (Words w)) = refl
  displacement_alike (Err k) = refl

  target_alike : (e : Expr) → branch_displacement a (value_of a e) ≡ branch_displacement b (value_of b e)
  target_alike e = ap (branch_displacement a) (s.value e) ∙ displacement_alike (value_of b e)

  listed_alike : (k : ℕ) (i : ListItem) → is_listed_by a k i ≡ is_listed_by b k i
  listed_alike k (item.One r) = rw (s.number r) refl
  listed_alike k (item.Range first last) = rw (s.number first, s.number last) refl

  any_alike : (k : ℕ) (is : List ListItem) → list_any (is_listed_by a k) is ≡ list_any (is_listed_by b k) is
  any_alike k [] = refl
  any_alike k (i ∷ is) =
      ap (λ t. t || list_any (is_listed_by a k) is) (listed_alike k i) ∙ ap (λ t. is_listed_by b k i || t) (any_alike k is)

  pub bits_alike : (is : List ListItem) (k n : ℕ) → list_bits a is k n ≡ list_bits b is k n
  bits_alike is k zero = refl
  bits_alike is k (suc n) =
      ap (λ t. flag t * 2 ^ k + list_bits a is (suc k) n) (any_alike k is)
      ∙ ap (λ t. flag (list_any (is_listed_by b k) is) * 2 ^ k + t) (bits_alike is (suc k) n)

  pub instruction_alike : (l : ArmLine) → arm_instruction a l ≡ arm_instruction b l
  instruction_alike (arm.DataImmediate condition operation set_flags rd rn e) = rw (number_alike e, s.number rn, s.number rd) refl
  instruction_alike (arm.DataShifted condition operation set_flags rd rn rm by) =
      rw (shift_alike by, s.number rn, s.number rd, s.number rm) refl
  instruction_alike (arm.DataRegisterShifted condition operation set_flags rd rn rm kind rs) =
      rw (s.number rn, s.number rd, s.number rm, s.number rs) refl
  instruction_alike (arm.Multiply condition accumulate set_flags rd rm rs rn) =
      rw (s.number rn, s.number rd, s.number rm, s.number rs) refl
  instruction_alike (arm.MultiplyLong condition signed accumulate set_flags low high rm rs) =
      rw (s.number low, s.number high, s.number rm, s.number rs) refl
  instruction_alike (arm.Swap condition byte rd rm rn) = rw (s.number rn, s.number rd, s.number rm) refl
  instruction_alike (arm.BranchExchange condition rm) = rw (s.number rm) refl
  instruction_alike (arm.ReadStatus condition status rd) = rw (s.number rd) refl
  instruction_alike (arm.WriteStatus condition fields rm) = rw (s.number rm) refl
  instruction_alike (arm.WriteStatusImmediate condition fields e) = rw (number_alike e) refl
  instruction_alike (arm.TransferImmediate condition load byte rd (address.Based rn ix e)) =
      rw (number_alike e, s.number rn, s.number rd) refl
  instruction_alike (arm.TransferImmediate condition load byte rd (address.Label e)) =
      rw (label_alike e, s.offset, s.number rd) refl
  instruction_alike (arm.TransferShifted condition load byte rd rn ix subtract rm by) =
      rw (shift_alike by, s.number rn, s.number rd, s.number rm) refl
  instruction_alike (arm.TransferHalf condition load kind rd rn ix (half.Number e)) =
      rw (number_alike e, s.number rn, s.number rd) refl
  instruction_alike (arm.TransferHalf condition load kind rd rn ix (half.Register subtract rm)) =
      rw (s.number rn, s.number rd, s.number rm) refl
  instruction_alike (arm.TransferBlock condition load m rn write_back list user) =
      rw (s.number rn, bits_alike list.items 0 16) refl
  instruction_alike (arm.Branch condition link e) = rw (target_alike e) refl
  instruction_alike (arm.SoftwareInterrupt condition e) = rw (number_alike e) refl

  linked_alike : (v : Result Value LineKind) → linked_symbol a v ≡ linked_symbol b v
  linked_alike (Ok (Place [] n)) = refl
  linked_alike (Ok (Place (x ∷ xs) n)) = ap (λ t. cond t None (Some (x ∷ xs))) (settled_alike (x ∷ xs))
  linked_alike (Ok (Number n)) = refl
  linked_alike (Ok (Truth t)) = refl
  linked_alike (Ok (Words w)) = refl
  linked_alike (Err k) = refl

  branch_alike : (e : Expr) → linked_symbol a (value_of a e) ≡ linked_symbol b (value_of b e)
  branch_alike e = ap (linked_symbol a) (s.value e) ∙ linked_alike (value_of b e)

  pub branch_symbol_alike : (l : ArmLine) → branch_symbol a l ≡ branch_symbol b l
  branch_symbol_alike (arm.Branch condition link e) = branch_alike e
  branch_symbol_alike _ = refl

  pub link_symbol_alike : (l : ThumbLine) → link_symbol a l ≡ link_symbol b l
  link_symbol_alike (thumb.BranchLink e) = branch_alike e
  link_symbol_alike _ = refl

  pub pseudo_alike : (word : Option ℕ) (l : PseudoLine) → pseudo_instructions a word l ≡ pseudo_instructions b word l
  pseudo_alike None (pseudo.LoadConstant condition rd e) = rw (number_alike e, s.number rd) refl
  pseudo_alike (Some at) (pseudo.LoadConstant condition rd e) = rw (s.offset, s.number rd) refl
  pseudo_alike word (pseudo.Address condition rd e) = rw (label_alike e, s.offset, s.number rd) refl
  pseudo_alike word (pseudo.LongAddress condition rd e) = rw (label_alike e, s.offset, s.number rd) refl
  pseudo_alike word pseudo.NoOperation = refl
