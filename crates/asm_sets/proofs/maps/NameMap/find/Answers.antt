use Rattle.std.proofs.Common.{rules, ◌≡◌, ◌∙◌, nat_eq}
use Rattle.std.specs.Cmp.Lexicographic.{pointwise}
use Rattle.std.specs.Map.{lookup}
use Rattle.asm_sets.proofs.SetLemmas.{found}
use Rattle.asm_sets.proofs.maps.NameMap.find.Goals as goal

pub returns : goal.returns
returns g c =
    let there : c.copied.result ≡ lookup (pointwise nat_eq c.args.name.now) c.args.self.now = search rules in
    there ∙ found c.args.name.now c.args.self.now
