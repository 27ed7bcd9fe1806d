-- Operands of lines.
use Rattle.std.proofs.Common.{◌≡◌, ℕ, List, [], ◌∷◌, length, nat_lt, Bool, true, false, refl, ap, ◌∙◌, map, Option, Some, None}
use Rattle.std.specs.Prelude.{Result, Ok, Err, MatchBool}
use Rattle.sdt_fault.specs.declared.kinds.LineKind.{LineKind}
use Rattle.sdt_fault.specs.declared.kinds.LineKind.TheVariants.{Syntax}
use Rattle.asm_model.specs.declared.exprs.ExprItem.{ExprItem}
use Rattle.asm_model.specs.declared.exprs.Part.{Part}
use Rattle.asm_model.specs.declared.lines.Line.{Line}
use Rattle.asm_model.specs.declared.tokens.Token.{Token}
use Rattle.asm_model.specs.Grammar.{Parses, ParsesTokens}
use Rattle.asm_model.specs.Limits.{line_bytes}
use Rattle.asm_model.specs.Parts.{part_of}
use Rattle.asm_model.specs.Says.{sentence}
use Rattle.asm_model.specs.Tokens.{NoTokens, Tokens}
use Rattle.asm_expr.specs.Parsing.{parsed, started}
use Rattle.asm_expr.proofs.ParseLaws.{parsed_none}
use Rattle.asm_expr.proofs.Spelled.{parsed_spelled}
use Rattle.expand_model.specs.declared.macros.Macro.{Macro}
use Rattle.expand_model.specs.Known.{Operand, ReadsExpression, FromTokens}
use Rattle.expand_model.specs.States.{State}
use Rattle.expand_model.specs.Steps.{Sources, Depth, Kind, Worded, Called, Plain, Reads, ReadsText, takes_expression, kind_of, said, said_text}
use Rattle.expand_model.specs.Substitution.{substituted}
use Rattle.expand_model.specs.Words.{Words, words_of}
use Rattle.asm_variables.specs.declared.expansion.Expansion.{Expansion}
use Rattle.asm_expand.specs.declared.steps.Next.{Next}
use Rattle.asm_expand.specs.FirstLines.{said_by}
use Rattle.asm_expand.specs.Saying.{Shows}
use Rattle.asm_expand.proofs.ScanningLemmas.{some_scan}

pub read_none : (text : List ℕ) → NoTokens text → ReadsExpression text (Err Syntax)
read_none text none = (None, none, refl)

pub read_all : (text : List ℕ) (ts behind : List Token) (x : Operand) → Tokens text ts → behind ≡ (sentence ts).behind
    → ParsesTokens text behind x → ReadsExpression text x
read_all text ts behind x tokens e h = (Some ts, tokens, rw e at h)

-- ---- each line has an operand

some_parse : (ps : List Part) → (x : Operand) × Parses ps x
some_parse ps = by (parsed (Some started) ps) refl
  where
    by : (o : Option (List ExprItem)) → parsed (Some started) ps ≡ o → (x : Operand) × Parses ps x
    by None e = (Err Syntax, parsed_none ps e)
    by (Some items) e = (Ok (record { items = items }), parsed_spelled ps items e)

some_from : (text : List ℕ) (o : Option (List Token)) → (x : Operand) × FromTokens text o x
some_from text (Some ts) = some_parse (map (part_of text) (sentence ts).behind)
some_from text None = (Err Syntax, refl)

some_expression : (text : List ℕ) → (x : Operand) × ReadsExpression text x
some_expression text = let s = some_scan text in let x = some_from text s.0 in (x.0, (s.0, s.1, x.1))

some_choice : (b : Bool) (text : List ℕ) → (x : Operand) × MatchBool b (ReadsExpression text x) (x ≡ Err Syntax)
some_choice true text = some_expression text
some_choice false text = (Err Syntax, refl)

pub some_text : (macros : List Macro) (r : Result (List ℕ) LineKind) → (x : Operand) × ReadsText macros r x
some_text macros (Ok text) = some_choice (takes_expression (kind_of macros (words_of text)) (words_of text).operation) text
some_text macros (Err k) = (Err k, refl)

pub some_operand : (s : State) (ls : List Line) → (x : Operand) × Reads s ls x
some_operand s [] = (Err Syntax, refl)
some_operand s (l ∷ ls) = some_text s.macros (substituted s l.text)

said_is : (sources : Sources) (d : Depth) (l : Line) (text : List ℕ) (x : Operand) (s : State) (ls : List Line) (k : Kind)
    → said sources d l text x s ls k ≡ said_by sources d l text (words_of text) x s ls k
unfolding said
said_is sources d l text x s ls (Worded o) = refl
said_is sources d l text x s ls (Called m) = refl
said_is sources d l text x s ls Plain = refl

-- what a line says with its words and the operand that is read
pub text_said : (sources : Sources) (d : Depth) (c : Expansion) (n : Next) (s : State) (l : Line) (ls : List Line) (text : List ℕ) (w : Words) (k : Kind)
    (x : Operand)
    → nat_lt line_bytes (length text) ≡ false → k ≡ kind_of s.macros w → w ≡ words_of text
    → MatchBool (takes_expression k w.operation) (ReadsExpression text x) (x ≡ Err Syntax)
    → Shows sources c n (said_by sources d l text w x s ls k)
    → (y : Operand) × ReadsText s.macros (Ok text) y × Shows sources c n (said_text sources d l y s ls (Ok text))
text_said sources d c n s l ls text w k x short e g t h =
    let f : k ≡ kind_of s.macros (words_of text) = e ∙ ap (kind_of s.macros) g in
    (x, rw (← f, ← g) t, rw (short, ← f, said_is sources d l text x s ls k, ← g) h)
