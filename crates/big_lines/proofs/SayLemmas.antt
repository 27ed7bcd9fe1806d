-- What a line says, by its tokens.
use Rattle.std.proofs.Common.{◌≡◌, ℕ, ◌≤◌, List, [], ◌∷◌, length, Bool, true, false, refl, ap, arith, ◌∙◌, Option, Some, None}
use Rattle.std.specs.Prelude.{Ok, codes}
use Rattle.std.specs.List.{list_any}
use Rattle.std.proofs.lemmas.Bool.{cond-false}
use Rattle.asm_locals.specs.Labels.{local_number, number_on}
use Rattle.asm_locals.specs.Naming.{Targets, named_what}
use Rattle.asm_model.specs.declared.exprs.ExprItem.TheVariants as item
use Rattle.asm_model.specs.declared.exprs.Part.TheVariants.{Operand}
use Rattle.asm_model.specs.declared.lines.Flat.{Flat}
use Rattle.asm_model.specs.declared.statements.Statement.{Statement}
use Rattle.asm_model.specs.declared.statements.What.{What}
use Rattle.asm_model.specs.declared.tokens.Token.{Token}
use Rattle.asm_model.specs.declared.values.Value.TheVariants as value
use Rattle.asm_model.specs.Before.{state_behind}
use Rattle.asm_model.specs.Forms.{same}
use Rattle.asm_model.specs.Grammar.{Leaf, operand, tighter, ParsesTokens}
use Rattle.asm_model.specs.Operands.{operands}
use Rattle.asm_model.specs.Parts.{part_of, piece}
use Rattle.asm_model.specs.Says.{SaysDirective, sentence}
use Rattle.asm_model.specs.Tokens.{Tokens, first_due, is_called, is_long}
use Rattle.asm_reading.specs.Says.{SaysBy, SaysInstruction, ReadsBy}
use Rattle.expand_model.specs.Operations.{operation_of}
use Rattle.expand_model.specs.Steps.{is_equ}
use Rattle.expand_model.specs.Words.{maybe_piece, words_of}
use Rattle.expand_model.proofs.WordLemmas.{words_are_tokens}
use Rattle.plain_source.specs.Plain.{IsPlain}
use Rattle.big_model.specs.Statements.{constant, stated}
use Rattle.big_lines.proofs.TextLemmas.{IsClean, has_dollar}
use Rattle.big_lines.proofs.TokenLemmas.{fronts, stand, tokens_are}

abbrev pub flat : List ℕ → ℕ → List ℕ → Flat
flat name number text = record { source = name; number = number; text = text }

-- a line that says a statement, which changes no state and has no local label; it is itself behind expansion, and short
pub record IsLine (ends : Bool) (f : Flat) (s : Statement) : Type 0 where
  pub says : SaysBy false f (Ok (Some s))
  pub state : state_behind s.what false ≡ false
  pub not_local : local_number s ≡ None
  pub names_none : (t : Targets) → named_what t s.what ≡ s.what
  pub plain : IsPlain ends f.text
  pub clean : IsClean f.text
  pub short : length f.text ≤ 80

-- it is so of a line of this text with this statement, whatever its file's name and its number
abbrev pub AtEach : (Flat → Statement → Type 0) → List ℕ → Option (List ℕ) → What → Type 0
AtEach Is text label w = (name : List ℕ) (number : ℕ) → Is (flat name number text) (stated name number label w)

abbrev pub Line : Bool → List ℕ → Option (List ℕ) → What → Type 0
Line ends text label w = AtEach (IsLine ends) text label w

-- ---- an expression of one number

pub one_number : (text : List ℕ) (t : Token) (k : ℕ) → part_of text t ≡ Operand (item.Constant (value.Number k)) → ParsesTokens text (t ∷ []) (Ok (constant k))
one_number text t k e = (
  Leaf (item.Constant (value.Number k)),
  rw e (tighter _ _ _ (tighter _ _ _ (tighter _ _ _ (tighter _ _ _ (tighter _ _ _ (tighter _ _ _ (operand _ _ refl))))))),
  refl,
)

-- one operand alone
pub one_operand : (text : List ℕ) (t : Token) → same (piece text t) (44 ∷ []) ≡ false → operands text (t ∷ []) ≡ (t ∷ []) ∷ []
one_operand text t e = cond-false (same (piece text t) (44 ∷ [])) _ _ e

-- ---- a directive, and another operation

pub by_directive : (name : List ℕ) (number : ℕ) (text : List ℕ) (ts : List Token) (label : Option (List ℕ)) (w : What) → Tokens text ts
    → SaysDirective (flat name number text) ts (Ok (Some (stated name number label w))) → list_any is_long ts ≡ false
    → SaysBy false (flat name number text) (Ok (Some (stated name number label w)))
by_directive name number text ts label w tokens says short =
    (Some ts, tokens, (Ok (Some (stated name number label w)), (Ok (Some (stated name number label w)), says, refl), rw short refl))

pub by_operation : (name : List ℕ) (number : ℕ) (text : List ℕ) (ts : List Token) (label : Option (List ℕ)) (w : What) → Tokens text ts
    → SaysDirective (flat name number text) ts (Ok None)
    → SaysInstruction (ReadsBy false) (flat name number text) (sentence ts) (Ok (Some (stated name number label w))) → list_any is_long ts ≡ false
    → SaysBy false (flat name number text) (Ok (Some (stated name number label w)))
by_operation name number text ts label w tokens none says short =
    (Some ts, tokens, (Ok (Some (stated name number label w)), (Ok None, none, says), rw short refl))

-- ---- a line is itself behind expansion, by its operation

pub by_operation_word : (ends : Bool) (text : List ℕ) (ts : List Token) (word : List ℕ) → Tokens text ts → maybe_piece text (sentence ts).operation ≡ word
    → operation_of word ≡ None → is_equ word ≡ false → is_called (codes "END") word ≡ ends → has_dollar text ≡ false → length text ≤ 80
    → IsPlain ends text
by_operation_word ends text ts word tokens e none not_equ end dollar short =
    let w : (words_of text).operation ≡ word = (words_are_tokens text ts tokens).1 ∙ e in
    record { no_dollar = dollar; short = omega arith; no_word = ap operation_of w ∙ none; no_equ = rw w not_equ; end = rw w end }

-- ---- a line, by what computing shows of its text

-- its tokens, its operation, which expansion leaves, and that it is short, with no line's end, no dollar and no long name
pub record IsSeen (ends : Bool) (text : List ℕ) (ts : List Token) (word : List ℕ) : Type 0 where
  pub tokens : Tokens text ts
  pub operation : maybe_piece text (sentence ts).operation ≡ word
  pub no_word : operation_of word ≡ None
  pub no_equ : is_equ word ≡ false
  pub end : is_called (codes "END") word ≡ ends
  pub no_dollar : has_dollar text ≡ false
  pub clean : IsClean text
  pub no_long : list_any is_long ts ≡ false
  pub short : length text ≤ 80

-- with so many tokens
pub seen : (ends : Bool) (text : List ℕ) (ts : List Token) (word : List ℕ) (k : ℕ)
    → stand k (first_due text) text ≡ true → fronts k 0 text ≡ ts → maybe_piece text (sentence ts).operation ≡ word
    → operation_of word ≡ None → is_equ word ≡ false → is_called (codes "END") word ≡ ends
    → has_dollar text ≡ false → IsClean text → list_any is_long ts ≡ false → length text ≤ 80 → IsSeen ends text ts word
seen ends text ts word k stands found operation no_word no_equ end no_dollar clean no_long short = record {
  tokens = tokens_are k text ts stands found;
  operation = operation;
  no_word = no_word;
  no_equ = no_equ;
  end = end;
  no_dollar = no_dollar;
  clean = clean;
  no_long = no_long;
  short = short;
}

-- its statement changes no state, has no local label and names none
abbrev pub IsUsual : Option (List ℕ) → What → Type 0
IsUsual label w = (state_behind w false ≡ false) × (number_on label w ≡ None) × ((t : Targets) → named_what t w ≡ w)

said_line : (ends : Bool) (text : List ℕ) (ts : List Token) (word : List ℕ) (label : Option (List ℕ)) (w : What)
    → IsSeen ends text ts word → IsUsual label w → AtEach (λ f s. SaysBy false f (Ok (Some s))) text label w → Line ends text label w
said_line ends text ts word label w seen usual says name number = record {
  says = says name number;
  state = usual.0;
  not_local = usual.1;
  names_none = usual.2;
  plain = by_operation_word ends text ts word seen.tokens seen.operation seen.no_word seen.no_equ seen.end seen.no_dollar seen.short;
  clean = seen.clean;
  short = seen.short;
}

pub directive_line : (ends : Bool) (text : List ℕ) (ts : List Token) (word : List ℕ) (label : Option (List ℕ)) (w : What)
    → IsSeen ends text ts word → IsUsual label w → AtEach (λ f s. SaysDirective f ts (Ok (Some s))) text label w → Line ends text label w
directive_line ends text ts word label w seen usual says =
    said_line ends text ts word label w seen usual
    (λ name number. by_directive name number text ts label w seen.tokens (says name number) seen.no_long)

pub operation_line : (ends : Bool) (text : List ℕ) (ts : List Token) (word : List ℕ) (label : Option (List ℕ)) (w : What)
    → IsSeen ends text ts word → IsUsual label w → AtEach (λ f s. SaysDirective f ts (Ok None)) text label w
    → AtEach (λ f s. SaysInstruction (ReadsBy false) f (sentence ts) (Ok (Some s))) text label w → Line ends text label w
operation_line ends text ts word label w seen usual none says =
    said_line ends text ts word label w seen usual
    (λ name number. by_operation name number text ts label w seen.tokens (none name number) (says name number) seen.no_long)
