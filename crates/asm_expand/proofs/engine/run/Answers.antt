use Rattle.std.proofs.Common.{inr, refl, rules, ◌∙◌, arith, Option, Some, None}
use Rattle.std.specs.Prelude.{Ok}
use Rattle.sdt_outside.specs.Files.{Files, content}
use Rattle.expand_model.specs.Expands.{Flats}
use Rattle.expand_model.specs.Gets.{without}
use Rattle.expand_model.specs.States.{started}
use Rattle.expand_model.specs.Steps.{Sources, Go, visit_limit}
use Rattle.expand_model.specs.Steps as model
use Rattle.asm_expand.specs.declared.engine.Engine.{Engine}
use Rattle.asm_expand.specs.declared.steps.Next.{Next}
use Rattle.asm_expand.specs.declared.steps.Next.TheVariants as next
use Rattle.asm_expand.specs.Leading.{IsLed, LedOn, OfFiles, ReadsAlike, RunsTo}
use Rattle.asm_expand.specs.LineCursors.{cursor_lines}
use Rattle.asm_expand.proofs.AnswerLemmas.{few_started, led_start, of_files}
use Rattle.asm_expand.proofs.GetLemmas.{led_next, led_without, read_failed}
use Rattle.asm_expand.proofs.engine.run.Goals as goal

alike : (n : Next) (a : Sources) → ReadsAlike n a a
alike (next.Go p) a = tt
alike (next.Under f p) a = tt
alike (next.Get name p) a = refl
alike (next.Stop e) a = tt
alike (next.Bad p k) a = tt

-- behind the last step
led_last : (told : Option Files) (start : model.Next) (g h : Engine) (n : Next) → LedOn told g n h (Ok None)
    → OfFiles told (λ sources. IsLed sources start g n) → OfFiles told (λ sources. RunsTo sources start (Flats h.state.flats.items))
led_last None start g h n on led = tt
led_last (Some files) start g h n on led = on (content files) start (alike n (content files)) led

pub steps-init : goal.steps-init
steps-init g c = record {
  led = of_files (g.S.Store.files c.args.store.now) _ (λ sources. led_start sources c.args.engine.now c.args.first c.requires);
  without = of_files (g.S.Store.files c.args.store.now) _ (λ sources file. inr
      (led_start (without file sources) c.args.engine.now c.args.first c.requires));
  few = few_started c.args.engine.now c.requires;
  files = refl;
  reads = search rules;
  writes = refl;
}

pub returns-in-Err-clause-read : goal.returns-in-Err-clause-read
returns-in-Err-clause-read g c =
    read_failed (g.S.Store.files c.args.store.now) (Go (started visit_limit) (cursor_lines c.args.first)) c.steps.engine c.steps.next c.in-Err.fault
    c.in-Err.ensures.read c.steps.invariant.without

pub returns-in-Ok-None-clause-flats : goal.returns-in-Ok-None-clause-flats
returns-in-Ok-None-clause-flats g c =
    let told = g.S.Store.files c.args.store.now in
    let start = Go (started visit_limit) (cursor_lines c.args.first) in
    let before = c.steps.invariant in
    let on = rw (before.files, c.in-Ok-None.field-0-is) at c.in-Ok-None.ensures.led in
    led_last told start c.steps.engine c.step.new.engine c.steps.next on before.led

pub steps-preserved : goal.steps-preserved
steps-preserved g c =
    let told = g.S.Store.files c.args.store.now in
    let start = Go (started visit_limit) (cursor_lines c.args.first) in
    let before = c.steps.invariant in
    let on = rw (before.files, c.in-Ok-Some.field-0-is) at c.in-Ok-Some.ensures.led in
    record {
      led = led_next told start c.steps.engine c.step.new.engine c.steps.next c.in-Ok-Some.after on before.led;
      without = led_without told start c.steps.engine c.step.new.engine c.steps.next c.in-Ok-Some.after on before.without;
      few = omega (arith, c.in-Ok-Some.ensures.flats, before.few);
      files = c.in-Ok-Some.ensures.files ∙ before.files;
      reads = omega (arith, before.reads, c.in-Ok-Some.ensures.read_faults);
      writes = c.in-Ok-Some.ensures.write_faults ∙ before.writes;
    }
