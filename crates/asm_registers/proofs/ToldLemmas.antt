-- What is told of registers, one after the other.
use Rattle.std.proofs.Common.{◌≡◌, List, [], ◌∷◌, ◌++◌, ◌-◌, ◌≤◌, length, take, drop, get_or, subst, Option, refl, sym, ap, ◌∙◌, append_assoc, append-nil}
use Rattle.sdt_fault.specs.declared.kinds.LineKind.{LineKind}
use Rattle.sdt_fault.specs.declared.kinds.LineKind.TheVariants.{BadOperand}
use Rattle.asm_model.specs.declared.operands.Register.{Register}
use Rattle.asm_model.specs.declared.operands.ListItem.{ListItem}
use Rattle.asm_model.specs.declared.operands.ListItem.TheVariants as item
use Rattle.asm_model.specs.FaultSets.{first_told}
use Rattle.asm_model.specs.Kinds.{told_kind, kind_if}
use Rattle.asm_model.proofs.FaultLemmas.{first_assoc, told_by_parts}
use Rattle.source_model.specs.Registers.{Named, name_kinds, names_kinds, item_registers, list_registers, number_of, falls, range_kinds}
use Rattle.asm_registers.specs.declared.naming.Scope.{Scope}
use Rattle.asm_registers.specs.Scoped.{told_of}
use Rattle.asm_model.proofs.SharedLemmas.{told_of_two}
use Rattle.base_lemmas.proofs.BaseLemmas.{rest_of}

-- what is told of a register and others
pub told_before : (s : Scope) (r : Register) (rs : List Register) (a b : Option LineKind)
    → a ≡ told_kind (name_kinds s.all.now s.declared.now s.known.now r) → b ≡ told_of s rs → first_told a b ≡ told_of s (r ∷ rs)
told_before s r rs a b e f =
    told_of_two a b (name_kinds s.all.now s.declared.now s.known.now r) (names_kinds s.all.now s.declared.now s.known.now rs) e f

-- ---- lists

names_joined : (s : Scope) (rs ss : List Register)
    → names_kinds s.all.now s.declared.now s.known.now (rs ++ ss)
    ≡ names_kinds s.all.now s.declared.now s.known.now rs ++ names_kinds s.all.now s.declared.now s.known.now ss
names_joined s [] ss = refl
names_joined s (r ∷ rs) ss =
    ap (λ ks. name_kinds s.all.now s.declared.now s.known.now r ++ ks) (names_joined s rs ss)
    ∙ sym (append_assoc (name_kinds s.all.now s.declared.now s.known.now r) (names_kinds s.all.now s.declared.now s.known.now rs)
    (names_kinds s.all.now s.declared.now s.known.now ss))

told_joined : (s : Scope) (rs ss : List Register) → told_of s (rs ++ ss) ≡ first_told (told_of s rs) (told_of s ss)
told_joined s rs ss =
    ap told_kind (names_joined s rs ss)
    ∙ told_by_parts (names_kinds s.all.now s.declared.now s.known.now rs) (names_kinds s.all.now s.declared.now s.known.now ss)

item_told : (s : Scope) (i : ListItem) (is : List ListItem) (told now : Option LineKind) (all : Option LineKind)
    → first_told told (told_of s (list_registers (i ∷ is))) ≡ all → now ≡ told_of s (item_registers i)
    → first_told (first_told told now) (told_of s (list_registers is)) ≡ all
item_told s i is told now all h e =
    ap (λ o. first_told (first_told told o) (told_of s (list_registers is))) e
    ∙ sym (first_assoc told (told_of s (item_registers i)) (told_of s (list_registers is)))
    ∙ ap (first_told told) (sym (told_joined s (item_registers i) (list_registers is))) ∙ h

-- with the first of the items that are left
pub item_next : (s : Scope) (left : List ListItem) (i : ListItem) (told now all : Option LineKind)
    → first_told told (told_of s (list_registers left)) ≡ all → 1 ≤ length left → i ≡ get_or left 0 i → now ≡ told_of s (item_registers i)
    → first_told (first_told told now) (told_of s (list_registers (take (length left - 1) (drop 1 left)))) ≡ all
item_next s left i told now all h some at e =
    item_told s i (take (length left - 1) (drop 1 left)) told now all
    (subst (λ (l : List ListItem). first_told told (told_of s (list_registers l)) ≡ all) (rest_of left i some at) h) e

-- ---- ranges

ranges_joined : (known : List Named) (i : ListItem) (is : List ListItem) → range_kinds known (i ∷ is) ≡ range_kinds known (i ∷ []) ++ range_kinds known is
ranges_joined known (item.One r) is = refl
ranges_joined known (item.Range first last) is =
    ap (λ ks. ks ++ range_kinds known is) (sym (append-nil (kind_if (falls (number_of known first) (number_of known last)) BadOperand)))

range_told : (known : List Named) (i : ListItem) (is : List ListItem) (told now all : Option LineKind)
    → first_told told (told_kind (range_kinds known (i ∷ is))) ≡ all → now ≡ told_kind (range_kinds known (i ∷ []))
    → first_told (first_told told now) (told_kind (range_kinds known is)) ≡ all
range_told known i is told now all h e =
    ap (λ o. first_told (first_told told o) (told_kind (range_kinds known is))) e
    ∙ sym (first_assoc told (told_kind (range_kinds known (i ∷ []))) (told_kind (range_kinds known is)))
    ∙ ap (first_told told) (sym (told_by_parts (range_kinds known (i ∷ [])) (range_kinds known is)))
    ∙ ap (λ ks. first_told told (told_kind ks)) (sym (ranges_joined known i is)) ∙ h

pub range_next : (known : List Named) (left : List ListItem) (i : ListItem) (told now all : Option LineKind)
    → first_told told (told_kind (range_kinds known left)) ≡ all → 1 ≤ length left → i ≡ get_or left 0 i → now ≡ told_kind (range_kinds known (i ∷ []))
    → first_told (first_told told now) (told_kind (range_kinds known (take (length left - 1) (drop 1 left)))) ≡ all
range_next known left i told now all h some at e =
    range_told known i (take (length left - 1) (drop 1 left)) told now all
    (subst (λ (l : List ListItem). first_told told (told_kind (range_kinds known l)) ≡ all) (rest_of left i some at) h) e
