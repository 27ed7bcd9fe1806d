use Rattle.std.proofs.Common.{ℕ, List, Result, ap, ◌∙◌, subst}
use Rattle.sdt_fault.specs.declared.refusal.Refusal.{Refusal}
use Rattle.chunk_file.specs.Reading.{Gives}
use Rattle.aof_object.specs.Spelling.{written}
use Rattle.tool_library.proofs.SizeLemmas.{object_short}
use Rattle.sdt_toolkit.proofs.KitLemmas.{kit_written}
use Rattle.sdt_toolkit.proofs.kit.kit_bytes.Goals as goal

pub returns-clause-exact : goal.returns-clause-exact
returns-clause-exact c =
    subst (λ (x : Result (List ℕ) Refusal). Gives c.write_object-bytes.result x) (ap written c.in_ok-object.ensures.exact ∙ kit_written c.args.acknowledge) c.write_object-bytes.ensures

pub returns-clause-short : goal.returns-clause-short
returns-clause-short c = object_short c.size_law.ensures c.in_ok-object.object c.write_object-bytes.result c.write_object-bytes.ensures
