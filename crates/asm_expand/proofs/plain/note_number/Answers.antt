use Rattle.std.proofs.Common.{◌≡◌, ℕ, List, cond, Some, ap, ◌∙◌, sym}
use Rattle.std.proofs.lemmas.Result.{on_ok_weaker}
use Rattle.asm_model.specs.Forms.{same}
use Rattle.asm_variables.specs.Maps.{value_named}
use Rattle.asm_expand.proofs.PlainLemmas.{number_known, number_new}
use Rattle.asm_expand.proofs.plain.note_number.Goals as goal

pub returns-then-contains_key : goal.returns-then-contains_key
returns-then-contains_key c =
    λ q. rw (c.in-Some.is, c.in-Some-number.is)
    (number_known (value_named c.args.numbers.now) c.in-Some.name q c.in-Some-number.number (sym c.contains_key.ensures ∙ c.if-contains_key.true))

pub returns : goal.returns
returns c =
    on_ok_weaker c.put.result
    (λ (h : (q : List ℕ) → value_named c.put.new.map q ≡ cond (same c.in_ok-key.key q) (Some c.in-Some-number.number) (value_named c.args.numbers.now q)) q.
    rw (c.in-Some.is, c.in-Some-number.is)
    (h q
    ∙ ap (λ (n : List ℕ). cond (same n q) (Some c.in-Some-number.number) (value_named c.args.numbers.now q)) c.in_ok-key.ensures
    ∙ number_new (value_named c.args.numbers.now) c.in-Some.name q c.in-Some-number.number (sym c.contains_key.ensures ∙ c.if-contains_key.false)))
    c.put.ensures
