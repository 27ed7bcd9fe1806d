use Rattle.std.proofs.Common.{refl, ◌≡◌, ◌<◌, ◌≤◌, true, false, nat_lt, length, arith}
use Rattle.std.specs.Prelude.{Ok, Err}
use Rattle.std.proofs.lemmas.Bool.{lt-ltb, le-ltb}
use Rattle.std.proofs.lemmas.Result.{IfOk-weaker}
use Rattle.sdt_fault.specs.declared.kinds.LineKind.TheVariants.{Syntax, TooMany}
use Rattle.asm_model.specs.Limits.{line_bytes}
use Rattle.expand_model.specs.Steps.{Plain}
use Rattle.asm_variables.specs.Steps.{words_shown}
use Rattle.asm_expand.specs.FirstLines.{kind_shown}
use Rattle.asm_expand.specs.Saying.{depth_of}
use Rattle.asm_expand.proofs.PlainLemmas.{label_begins}
use Rattle.asm_expand.proofs.ReadingLemmas.{some_text, text_said}
use Rattle.asm_expand.proofs.SayingLemmas.{shows_bad}
use Rattle.asm_expand.proofs.first_lines.read_text.Goals as goal

pub returns-then-text-gt-LINE_BYTES-clause-says : goal.returns-then-text-gt-LINE_BYTES-clause-says
returns-then-text-gt-LINE_BYTES-clause-says c =
    λ sources s l ls a r.
    let x = some_text s.macros (Ok c.args.flat.now) in
    let there : line_bytes < length c.as_slice-text.result.now = omega arith in
    let more : line_bytes < length c.args.flat.now = rw c.as_slice-text.ensures at there in
    let long : nat_lt line_bytes (length c.args.flat.now) ≡ true = lt-ltb line_bytes (length c.args.flat.now) more in
    (x.0, x.1, rw long (shows_bad sources c.args.state.now c.args.at TooMany l ls a))

pub returns-clause-says : goal.returns-clause-says
returns-clause-says c =
    let is = c.as_slice-text.ensures in
    let there : length c.as_slice-text.result.now ≤ line_bytes = omega arith in
    let less : length c.args.flat.now ≤ line_bytes = rw is at there in
    let short : nat_lt line_bytes (length c.args.flat.now) ≡ false = le-ltb line_bytes (length c.args.flat.now) less in
    IfOk-weaker c.say-said.result _ _
    (λ n h sources s l ls a r.
    text_said sources (depth_of c.args.depth) c.say-said.new.state n s l ls c.args.flat.now (words_shown c.words_of-words.result) (kind_shown c.in-Ok.kind)
    c.in-Ok-operand_of.operand short
    (c.in-Ok.ensures s r) (rw is at c.words_of-words.ensures) (rw is at c.in-Ok-operand_of.ensures.reads) (h sources s l ls a (c.in-Ok-operand_of.ensures.state s r)))
    c.say-said.ensures.says

pub say-said-requires-clause-begins : goal.say-said-requires-clause-begins
say-said-requires-clause-begins c =
    label_begins c.args.flat.now c.words_of-words.result.label.now (words_shown c.words_of-words.result)
    (rw c.as_slice-text.ensures at c.words_of-words.ensures) refl

pub say_numbered-requires : goal.say_numbered-requires
say_numbered-requires c =
    label_begins c.args.flat.now c.words_of-words.result.label.now (words_shown c.words_of-words.result)
    (rw c.as_slice-text.ensures at c.words_of-words.ensures) refl

pub returns-then-stays-clause-says : goal.returns-then-stays-clause-says
returns-then-stays-clause-says c =
    let is = c.as_slice-text.ensures in
    let there : length c.as_slice-text.result.now ≤ line_bytes = omega arith in
    let less : length c.args.flat.now ≤ line_bytes = rw is at there in
    let short : nat_lt line_bytes (length c.args.flat.now) ≡ false = le-ltb line_bytes (length c.args.flat.now) less in
    let no_equ = c.stays.ensures.number c.if-stays.true in
    IfOk-weaker c.say_numbered.result _ _
    (λ n h sources s l ls a r.
    text_said sources (depth_of c.args.depth) c.say_numbered.new.state n s l ls c.args.flat.now (words_shown c.words_of-words.result) Plain
    (Err Syntax) short
    (c.stays.ensures.plain c.if-stays.true s r) (rw is at c.words_of-words.ensures) (rw no_equ refl)
    (h (Err Syntax) (λ t q. rw no_equ refl) sources s l ls a r))
    c.say_numbered.ensures.says
