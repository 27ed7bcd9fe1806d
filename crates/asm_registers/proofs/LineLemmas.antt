-- What is told of a line's registers, and what the line leaves: a list of names counts by what is found in it alone.
use Rattle.std.proofs.Common.{◌≡◌, ℕ, Bool, true, false, not, cond, List, [], ◌∷◌, ◌++◌, Option, Some, None, refl, sym, ap, ◌∙◌}
use Rattle.std.specs.Prelude.{Result}
use Rattle.std.specs.List.{list_any}
use Rattle.std.specs.Option.{is_some}
use Rattle.sdt_fault.specs.declared.kinds.LineKind.{LineKind}
use Rattle.sdt_fault.specs.declared.kinds.LineKind.TheVariants.{BadOperand, Forward, WrongType}
use Rattle.asm_model.specs.declared.names.LaidName.{LaidName}
use Rattle.asm_model.specs.declared.operands.Register.{Register}
use Rattle.asm_model.specs.declared.operands.Register.TheVariants as register
use Rattle.asm_model.specs.declared.operands.ListItem.{ListItem}
use Rattle.asm_model.specs.declared.operands.ListItem.TheVariants as item
use Rattle.asm_model.specs.declared.statements.PseudoLine.{PseudoLine}
use Rattle.asm_model.specs.declared.statements.PseudoLine.TheVariants as pseudo
use Rattle.asm_model.specs.declared.statements.Statement.{Statement}
use Rattle.asm_model.specs.declared.statements.What.{What}
use Rattle.asm_model.specs.declared.statements.What.TheVariants as what
use Rattle.asm_model.specs.Meaning.{named_in}
use Rattle.asm_model.specs.FaultSets.{first_told}
use Rattle.asm_model.specs.Forms.{same}
use Rattle.asm_model.specs.Kinds.{told_kind, kind_if}
use Rattle.asm_model.proofs.FaultLemmas.{told_by_parts}
use Rattle.asm_model.specs.Labels.{defined_by}
use Rattle.asm_model.specs.Laid.{LaidLine, reversed}
use Rattle.source_model.specs.Registers.{Named, register_in, named_by, register_names, registers_behind, registers_of, no_register, kinds_unless, name_kinds, names_kinds, number_of, range_kinds, is_pc, has_row, arm_list, thumb_list, has_pseudo, pseudo_kinds, operand_kinds, given_kinds, register_kinds}
use Rattle.asm_registers.specs.declared.registers.Registers.{Registers}
use Rattle.asm_sets.specs.Sets.{HaveSame}
use Rattle.asm_registers.specs.Kept.{AreRegisters, IsLine}
use Rattle.asm_registers.proofs.NameLemmas.{before_more}

-- ---- names

-- the same names are found
pub record FindTheSame (names names' : List (List ℕ)) (all all' : List LaidName) (known known' : List Named) : Type 0 where
  pub registers : (q : List ℕ) → list_any (same q) names ≡ list_any (same q) names'
  pub others : (q : List ℕ) → is_some (named_in q all) ≡ is_some (named_in q all')
  pub numbers : (q : List ℕ) → register_in q known ≡ register_in q known'

name_same : (names names' : List (List ℕ)) (all all' : List LaidName) (known known' : List Named) → FindTheSame names names' all all' known known'
    → (q : List ℕ) → name_kinds names all known (register.Named q) ≡ name_kinds names' all' known' (register.Named q)
name_same names names' all all' known known' h q =
    ap (λ o. kinds_unless o (no_register names q (named_in q all))) (h.numbers q)
    ∙ ap (kinds_unless (register_in q known')) (by_names (named_in q all) (named_in q all') (h.registers q) (h.others q))
  where
    by_names : (b b' : Option LaidName) → list_any (same q) names ≡ list_any (same q) names' → is_some b ≡ is_some b'
        → no_register names q b ≡ no_register names' q b'
    by_names None None e f = refl
    by_names None (Some n) e f = absurd (cc)
    by_names (Some n) None e f = absurd (cc)
    by_names (Some n) (Some m) e f = ap (λ a. cond a Forward WrongType) e

names_same : (names names' : List (List ℕ)) (all all' : List LaidName) (known known' : List Named) → FindTheSame names names' all all' known known'
    → (rs : List Register) → names_kinds names all known rs ≡ names_kinds names' all' known' rs
names_same names names' all all' known known' h [] = refl
names_same names names' all all' known known' h (register.Number n ∷ rs) = names_same names names' all all' known known' h rs
names_same names names' all all' known known' h (register.Named q ∷ rs) =
    ap (λ ks. ks ++ names_kinds names all known rs) (name_same names names' all all' known known' h q)
    ∙ ap (λ ks. name_kinds names' all' known' (register.Named q) ++ ks) (names_same names names' all all' known known' h rs)

-- ---- operands

pub number_same : (known known' : List Named) → ((q : List ℕ) → register_in q known ≡ register_in q known') → (r : Register)
    → number_of known r ≡ number_of known' r
number_same known known' h (register.Number n) = refl
number_same known known' h (register.Named q) = h q

ranges_same : (known known' : List Named) → ((q : List ℕ) → register_in q known ≡ register_in q known') → (is : List ListItem)
    → range_kinds known is ≡ range_kinds known' is
ranges_same known known' h [] = refl
ranges_same known known' h (item.One r ∷ is) = ranges_same known known' h is
ranges_same known known' h (item.Range first last ∷ is) =
    rw (number_same known known' h first, number_same known known' h last, ranges_same known known' h is) refl

all_same : (known known' : List Named) → ((q : List ℕ) → register_in q known ≡ register_in q known') → number_of known ≡ number_of known'
all_same known known' h = λ i r. number_same known known' h r i

pseudo_same : (thumb : Bool) (known known' : List Named) → ((q : List ℕ) → register_in q known ≡ register_in q known') → (l : PseudoLine)
    → pseudo_kinds thumb known l ≡ pseudo_kinds thumb known' l
pseudo_same true known known' h l = ap (λ n. kind_if (not (has_pseudo n l)) BadOperand) (all_same known known' h)
pseudo_same false known known' h (pseudo.LongAddress condition rd target) = ap (λ o. kind_if (is_pc o) BadOperand) (number_same known known' h rd)
pseudo_same false known known' h _ = refl

operands_same : (thumb : Bool) (known known' : List Named) → ((q : List ℕ) → register_in q known ≡ register_in q known') → (w : What)
    → operand_kinds thumb known w ≡ operand_kinds thumb known' w
operands_same thumb known known' h (what.Arm l) = ranges_same known known' h (arm_list l)
operands_same thumb known known' h (what.Thumb l) =
    ap (λ ks. ks ++ kind_if (not (has_row (number_of known) l)) BadOperand) (ranges_same known known' h (thumb_list l))
    ∙ ap (λ n. range_kinds known' (thumb_list l) ++ kind_if (not (has_row n l)) BadOperand) (all_same known known' h)
operands_same thumb known known' h (what.Pseudo l) = pseudo_same thumb known known' h l
operands_same thumb known known' h _ = refl

-- ---- lines

pub line_told : (names : List (List ℕ)) (s : Statement) (thumb : Bool) (number : Result ℕ LineKind) (declared : List LaidName) (l : LaidLine)
    (before : List LaidLine) (old : Registers)
    (given named operand : Option LineKind)
    → AreRegisters names before old → IsLine s thumb number declared l
    → given ≡ told_kind (given_kinds l.seen (defined_by s))
    → named ≡ told_kind (names_kinds old.all declared old.known (registers_of s.what))
    → operand ≡ told_kind (operand_kinds thumb old.known s.what)
    → first_told (first_told given named) operand ≡ told_kind (register_kinds names l before)
line_told names s thumb number declared l before old given named operand k i a b c =
    let numbers = k.known in
    let alike : FindTheSame old.all names declared l.seen.list old.known (registers_behind before) = record {
      registers = k.all;
      others = λ q. sym (i.names q);
      numbers = numbers;
    } in
    let names_told : named ≡ told_kind (names_kinds names l.seen.list (registers_behind before) (registers_of s.what)) =
    b ∙ ap told_kind (names_same old.all names declared l.seen.list old.known (registers_behind before) alike (registers_of s.what)) in
    let operands_told : operand ≡ told_kind (operand_kinds thumb (registers_behind before) s.what) =
    c ∙ ap told_kind (operands_same thumb old.known (registers_behind before) numbers s.what) in
    rw (i.said, i.state, a, names_told, operands_told)
    (sym (told_by_parts (given_kinds l.seen (defined_by s) ++ names_kinds names l.seen.list (registers_behind before) (registers_of s.what))
    (operand_kinds thumb (registers_behind before) s.what)
    ∙ ap (λ o. first_told o (told_kind (operand_kinds thumb (registers_behind before) s.what)))
    (told_by_parts (given_kinds l.seen (defined_by s)) (names_kinds names l.seen.list (registers_behind before) (registers_of s.what)))))

pub line_left : (names : List (List ℕ)) (s : Statement) (thumb : Bool) (number : Result ℕ LineKind) (declared : List LaidName) (l : LaidLine)
    (before : List LaidLine) (old new : Registers)
    → AreRegisters names before old → IsLine s thumb number declared l → new.all ≡ old.all
    → ((q : List ℕ) → register_in q new.known ≡ register_in q (old.known ++ named_by l.seen (defined_by s)))
    → AreRegisters names (l ∷ before) new
line_left names s thumb number declared l before old new k i same_all noted = record {
  all = rw same_all k.all;
  known = rw i.said (λ q. noted q ∙ before_more q old.known (registers_behind before) (named_by l.seen (defined_by s)) (k.known q));
}

-- before the first line
pub all_new : (statements : List Statement) (r : Registers) → HaveSame r.all (register_names (reversed statements [])) → r.known ≡ []
    → AreRegisters (register_names (reversed statements [])) [] r
all_new statements r names empty = record {
  all = names;
  known = λ q. ap (register_in q) empty;
}
