use Rattle.std.proofs.Common.{◌++◌, ◌∙◌, ap, ℕ, List, length, append_assoc}
use Rattle.std.proofs.lemmas.Result.{on_ok_weaker}
use Rattle.sdt_word.specs.Bytes.{bytes_of}
use Rattle.aof_object.proofs.writing.push_area_at.Goals as goal

pub returns : goal.returns
returns c =
    let a = c.args.area.now in
    let first : List ℕ = bytes_of c.args.at 4 ++ bytes_of a.attributes 4 in
    let second : List ℕ = bytes_of a.size 4 ++ (bytes_of (length a.relocs) 4 ++ bytes_of 0 4) in
    on_ok_weaker c.push_sizes.result (λ e. e ∙ ap (λ (x : List ℕ). x ++ second) c.in_ok-push_name_and_kind.ensures ∙ append_assoc c.args.out.now.items first second) c.push_sizes.ensures
