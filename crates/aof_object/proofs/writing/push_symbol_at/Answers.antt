use Rattle.std.proofs.Common.{◌≡◌, ℕ, List, ◌++◌, ap, ◌∙◌, append_assoc}
use Rattle.std.proofs.lemmas.Result.{on_ok_weaker}
use Rattle.sdt_word.specs.Bytes.{bytes_of}
use Rattle.aof_object.proofs.writing.push_symbol_at.Goals as goal

regroup : (old a b d e : List ℕ) → (((old ++ a) ++ b) ++ d) ++ e ≡ old ++ (a ++ (b ++ (d ++ e)))
regroup old a b d e = simp append_assoc

pub returns : goal.returns
returns c =
    let s = c.args.symbol.now in
    let third = bytes_of s.value 4 in
    let last = bytes_of c.args.home 4 in
    on_ok_weaker c.push_number-2.result
    (λ e. e ∙ ap (λ (x : List ℕ). x ++ last) (c.in_ok-push_word-2.ensures ∙ ap (λ (x : List ℕ). x ++ third) (c.in_ok-push_word.ensures ∙ ap (λ (x : List ℕ). x ++ bytes_of s.attributes 4) c.in_ok-push_number.ensures))
    ∙ regroup c.args.out.now.items (bytes_of c.args.at 4) (bytes_of s.attributes 4) third last)
    c.push_number-2.ensures
