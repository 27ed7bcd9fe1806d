use Rattle.std.proofs.Common.{map}
use Rattle.std.specs.Prelude.{string_bytes}
use Rattle.sdt_toolkit.proofs.BigClauses.{big_told}
use Rattle.sdt_toolkit.proofs.BuildClauses.{builds_told}
use Rattle.sdt_toolkit.proofs.BurnLinked.{burns_told}
use Rattle.sdt_toolkit.proofs.BurnStarts.{burned_start}
use Rattle.sdt_toolkit.proofs.DebugClauses.{sessions_told}
use Rattle.sdt_toolkit.proofs.EndsLemmas.{ends_of}
use Rattle.sdt_toolkit.proofs.ExactLemmas.{exact_of}
use Rattle.sdt_toolkit.proofs.HeadlineLemmas.{headline_of}
use Rattle.sdt_toolkit.proofs.ReportRefusals.{refusals_told}
use Rattle.sdt_toolkit.proofs.RunClauses.{starts_told, steps_told}
use Rattle.sdt_toolkit.proofs.RunHidden.{hides_of}
use Rattle.tool_words.specs.Commands.{command_of}
use Rattle.sdt_toolkit.proofs.run_tool.Goals as goal

pub returns-clause-headline : goal.returns-clause-headline
returns-clause-headline g c = headline_of c.reading_law.ensures c.sources_begin.ensures (map string_bytes c.args.words.now) _ _ _ c.command.result c.command.ensures.commanded

pub returns-clause-interrupts : goal.returns-clause-interrupts
returns-clause-interrupts g c =
    hides_of c.interrupts_are_hidden.ensures (command_of (map string_bytes c.args.words.now)) _ _ _ c.command.result c.command.ensures.commanded

pub returns-clause-commanded : goal.returns-clause-commanded
returns-clause-commanded g c = c.command.ensures.commanded

pub returns-clause-ends : goal.returns-clause-ends
returns-clause-ends g c = ends_of (map string_bytes c.args.words.now) _ _ _ c.command.result c.command.ensures.commanded

pub returns-clause-devices : goal.returns-clause-devices
returns-clause-devices g c = c.command.ensures.devices

pub returns-clause-sink : goal.returns-clause-sink
returns-clause-sink g c = c.command.ensures.sink

pub returns-clause-exact : goal.returns-clause-exact
returns-clause-exact g c = exact_of c.one_asked.ensures.assembled c.one_asked.ensures.linked c.one_asked.ensures.reported (map string_bytes c.args.words.now) _ _ _ c.command.result c.command.ensures.commanded

pub returns-clause-builds : goal.returns-clause-builds
returns-clause-builds g c =
    builds_told c.builds_are_links.ensures.links c.one_asked.ensures.linked (map string_bytes c.args.words.now) _ _ _ c.command.result c.command.ensures.commanded
    (exact_of c.one_asked.ensures.assembled c.one_asked.ensures.linked c.one_asked.ensures.reported (map string_bytes c.args.words.now) _ _ _ c.command.result c.command.ensures.commanded)

pub returns-clause-burns : goal.returns-clause-burns
returns-clause-burns g c = burns_told c.linked_burns.ensures (map string_bytes c.args.words.now) _ _ _ c.command.result c.command.ensures.commanded

pub returns-clause-starts : goal.returns-clause-starts
returns-clause-starts g c = starts_told c.linked_runs_start.ensures (map string_bytes c.args.words.now) _ _ _ c.command.result c.command.ensures.commanded

pub returns-clause-sessions : goal.returns-clause-sessions
returns-clause-sessions g c = sessions_told (map string_bytes c.args.words.now) _ _ _ c.command.result c.command.ensures.commanded

pub returns-clause-steps : goal.returns-clause-steps
returns-clause-steps g c = steps_told (map string_bytes c.args.words.now) _ _ _ c.command.result c.command.ensures.commanded

pub returns-clause-refusals : goal.returns-clause-refusals
returns-clause-refusals g c = refusals_told c.refusals_law.ensures (command_of (map string_bytes c.args.words.now)) _ _ _ c.command.result c.command.ensures.commanded

pub returns-clause-big : goal.returns-clause-big
returns-clause-big g c = big_told (map string_bytes c.args.words.now) _ _ _ c.command.result c.command.ensures.commanded

pub returns-clause-burned : goal.returns-clause-burned
returns-clause-burned g c =
    burned_start c.burn_load_law.ensures c.commands_start.ensures (map string_bytes c.args.words.now) _ _ _ c.command.result c.command.ensures.commanded
