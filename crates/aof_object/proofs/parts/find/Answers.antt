use Rattle.std.proofs.Common.{◌∙◌, sym, List, Option}
use Rattle.std.proofs.lemmas.List.{at_drop_all}
use Rattle.chunk_file.specs.declared.records.Span.{Span}
use Rattle.aof_object.specs.Parts.{named, found_with}
use Rattle.aof_object.proofs.FoundLemmas.{found_from}
use Rattle.aof_object.proofs.parts.find.Goals as goal

pub returns : goal.returns
returns c =
    let e = at_drop_all (λ (rest : List (Option Span)). found_with c.loop-span.found (named c.args.name rest)) c.args.spans.now c.loop-span.span-index c.loop-span-test.false in
    sym e ∙ c.loop-span.invariant ∙ found_from (named c.args.name c.args.spans.now)
