-- Worked rows of the definitions: names and labels of directives, operands, attributes, and whole lines.
use Rattle.std.proofs.Common.{◌≡◌, ℕ, List, [], ◌∷◌, true, false, refl, Some, None, codes}
use Rattle.std.specs.Prelude.{Ok, Err}
use Rattle.sdt_fault.specs.declared.kinds.LineKind.TheVariants.{Syntax, UnknownWord}
use Rattle.asm_model.specs.declared.lines.Flat.{Flat}
use Rattle.asm_model.specs.declared.tokens.Token.{Token}
use Rattle.asm_model.specs.declared.tokens.TokenKind.{TokenKind}
use Rattle.asm_model.specs.declared.tokens.TokenKind.TheVariants as kind
use Rattle.asm_model.specs.declared.directives.DataItem.TheVariants as datum
use Rattle.asm_model.specs.declared.directives.Directive.TheVariants as directive
use Rattle.asm_model.specs.declared.directives.DirectiveLine.TheVariants as line
use Rattle.asm_model.specs.declared.directives.ImportMark.TheVariants as mark
use Rattle.asm_model.specs.declared.directives.Attribute.TheVariants as attribute
use Rattle.asm_model.specs.declared.directives.LabelNeed.TheVariants as need
use Rattle.asm_model.specs.declared.directives.RnOperand.TheVariants as rn
use Rattle.asm_model.specs.Areas.{attribute_named, attributes_in, is_repeated, is_contradicting}
use Rattle.asm_model.specs.Directives.{directive_named, named_data, named_symbol, named_report, named_variable, named_structure}
use Rattle.asm_model.specs.Operands.{operands, depth_behind}
use Rattle.asm_model.specs.Registers.{register_named, numbered_register, special_register, call_register}
use Rattle.asm_model.specs.Says.{SaysDirective, label_field, import_mark, statement_of}

abbrev at : TokenKind → ℕ → ℕ → Token
at k start end = record { kind = k; start = start; end = end }

-- names in any case
pub data_name : directive_named (codes "dCd") ≡ Some (directive.Constants datum.Word)
unfolding directive_named named_data
data_name = refl

pub structure_name : directive_named (codes "]") ≡ Some directive.Expansion
unfolding directive_named named_data named_symbol named_report named_variable named_structure
structure_name = refl

pub no_name : directive_named (codes "MOV") ≡ None
unfolding directive_named named_data named_symbol named_report named_variable named_structure
no_name = refl

pub registers : register_named (codes "V8") ≡ Some 11
unfolding register_named numbered_register special_register call_register
registers = refl

-- a comma between parentheses doesn't cut
pub cut : operands (codes "(1,2),3") (at kind.Sign 0 1 ∷ at kind.Number 1 2 ∷ at kind.Sign 2 3 ∷ at kind.Number 3 4 ∷ at kind.Sign 4 5 ∷ at kind.Sign 5 6
    ∷ at kind.Number 6 7 ∷ [])
    ≡ (at kind.Sign 0 1 ∷ at kind.Number 1 2 ∷ at kind.Sign 2 3 ∷ at kind.Number 3 4 ∷ at kind.Sign 4 5 ∷ []) ∷ (at kind.Number 6 7 ∷ []) ∷ []
unfolding depth_behind
cut = refl

-- an operand that isn't there
pub trailing : operands (codes "1,") (at kind.Number 0 1 ∷ at kind.Sign 1 2 ∷ []) ≡ (at kind.Number 0 1 ∷ []) ∷ [] ∷ []
unfolding depth_behind
trailing = refl

-- labels
pub local_label : label_field need.Optional (codes "02 DCD 1") (Some (at kind.Number 0 2)) ≡ Ok (Some (codes "|02"))
local_label = refl

pub local_name : label_field need.Name (codes "02 EQU 1") (Some (at kind.Number 0 2)) ≡ Err Syntax
local_name = refl

pub long_label : label_field need.Optional (codes "123 DCD 1") (Some (at kind.Number 0 3)) ≡ Err Syntax
long_label = refl

-- imports
pub weak_brackets : import_mark (codes "[Weak]") (at kind.Sign 0 1 ∷ at kind.Name 1 5 ∷ at kind.Sign 5 6 ∷ []) ≡ Ok mark.Weak
weak_brackets = refl

pub other_mark : import_mark (codes ",foo") (at kind.Sign 0 1 ∷ at kind.Name 1 4 ∷ []) ≡ Ok mark.Other
other_mark = refl

-- attributes
pub written : attributes_in (codes "code,ALIGN=2") ((at kind.Name 0 4 ∷ []) ∷ (at kind.Name 5 10 ∷ at kind.Sign 10 11 ∷ at kind.Number 11 12 ∷ []) ∷ [])
    ≡ attribute.Code ∷ attribute.Align ∷ []
unfolding attribute_named
written = refl

pub twice : is_repeated (attribute.Code ∷ attribute.Pic ∷ attribute.Code ∷ []) ≡ true
unfolding is_repeated
twice = refl

pub data_of_code : is_contradicting (attribute.Data ∷ attribute.Interwork ∷ []) ≡ true
unfolding is_contradicting
data_of_code = refl

pub zero_data : is_contradicting (attribute.NoInit ∷ attribute.ReadOnly ∷ []) ≡ false
unfolding is_contradicting
zero_data = refl

-- whole lines
abbrev flat : List ℕ → Flat
flat text = record { source = codes "t.s"; number = 7; text = text }

pub weak_line : SaysDirective (flat (codes "x IMPORT y,WEAK")) (at kind.Name 0 1 ∷ at kind.Name 2 8 ∷ at kind.Name 9 10 ∷ at kind.Sign 10 11
    ∷ at kind.Name 11 15 ∷ [])
    (Ok (statement_of (flat (codes "x IMPORT y,WEAK")) (Some (codes "x")) (line.Import (codes "y") mark.Weak)))
unfolding directive_named named_data named_symbol
weak_line = (Ok (line.Import (codes "y") mark.Weak), refl, refl)

pub rn_line : SaysDirective (flat (codes "x RN r5")) (at kind.Name 0 1 ∷ at kind.Name 2 4 ∷ at kind.Name 5 7 ∷ [])
    (Ok (statement_of (flat (codes "x RN r5")) (Some (codes "x")) (line.Rn (rn.Register 5))))
unfolding directive_named named_data named_symbol register_named numbered_register
rn_line = (Ok (line.Rn (rn.Register 5)), refl, refl)

pub no_label : SaysDirective (flat (codes " DATA x")) (at kind.Name 1 5 ∷ at kind.Name 6 7 ∷ []) (Err Syntax)
unfolding directive_named named_data
no_label = (Err Syntax, refl, refl)

pub expansion_line : SaysDirective (flat (codes "x SETA 1")) (at kind.Name 0 1 ∷ at kind.Name 2 6 ∷ at kind.Number 7 8 ∷ []) (Err UnknownWord)
unfolding directive_named named_data named_symbol named_report named_variable
expansion_line = (Err UnknownWord, refl, refl)

pub instruction_line : SaysDirective (flat (codes " MOV r0,r1")) (at kind.Name 1 4 ∷ at kind.Name 5 7 ∷ at kind.Sign 7 8 ∷ at kind.Name 8 10 ∷ []) (Ok None)
unfolding directive_named named_data named_symbol named_report named_variable named_structure
instruction_line = refl
