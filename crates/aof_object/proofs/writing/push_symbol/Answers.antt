use Rattle.std.proofs.Common.{◌∙◌, ap, ◌++◌, ℕ}
use Rattle.std.proofs.lemmas.Result.{on_ok_weaker}
use Rattle.aof_object.specs.Spelling.{place, symbol_row_at}
use Rattle.aof_object.proofs.writing.push_symbol.Goals as goal

pub returns : goal.returns
returns c =
    on_ok_weaker c.push_symbol_at.result
    (λ e ns t. e ∙ ap (λ (p : ℕ). c.args.out.now.items ++ symbol_row_at p c.area_place-home.result c.args.symbol.now) (c.place_of-at.ensures ns t)
    ∙ ap (λ (h : ℕ). c.args.out.now.items ++ symbol_row_at (place ns c.args.symbol.now.name) h c.args.symbol.now) (c.area_place-home.ensures ns t))
    c.push_symbol_at.ensures
