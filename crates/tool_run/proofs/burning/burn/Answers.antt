use Rattle.std.proofs.Common.{ℕ, Ok, refl, sym, subst}
use Rattle.sdt_outside.specs.Counts.{Rose}
use Rattle.sdt_outside.proofs.SharedLemmas.{got_none}
use Rattle.tool_answers.specs.Outcomes.{unprinted}
use Rattle.tool_words.specs.declared.command.RunImage.TheVariants as image
use Rattle.tool_run.specs.Images.{IsRead}
use Rattle.tool_run.proofs.BurnLemmas.{in_space, refused, unread, wrote}
use Rattle.tool_run.proofs.burning.burn.Goals as goal

pub burnt-requires : goal.burnt-requires
burnt-requires g c =
    in_space c.map_law.ensures c.args.map c.in-Ok.image (g.S.Store.files c.args.store.now) (Rose (g.S.Store.read_faults c.args.store.now) (g.S.Store.read_faults c.read_image.new.store)) c.in-Ok.ensures.read

pub returns-in-Err : goal.returns-in-Err
returns-in-Err g c = λ shown faults.
    let o = unprinted shown faults (g.S.Store.files c.args.store.now) (g.S.Store.files c.read_image.new.store) (g.S.Store.read_faults c.args.store.now) (g.S.Store.read_faults c.read_image.new.store) (g.S.Store.write_faults c.args.store.now) (g.S.Store.write_faults c.read_image.new.store) in
    rw c.image_answer.ensures (unread c.args.form c.args.map c.args.output o c.in-Err.end c.in-Err.ensures.read (record { files = c.read_image.ensures.files; sink = refl }))

pub returns-in-Ok-burnt : goal.returns-in-Ok-burnt
returns-in-Ok-burnt g c = λ shown faults.
    let o = unprinted shown faults (g.S.Store.files c.args.store.now) (g.S.Store.files c.write.new.store) (g.S.Store.read_faults c.args.store.now) (g.S.Store.read_faults c.write.new.store) (g.S.Store.write_faults c.args.store.now) (g.S.Store.write_faults c.write.new.store) in
    let read = subst (λ (n : ℕ). IsRead (g.S.Store.files c.args.store.now) (Rose (g.S.Store.read_faults c.args.store.now) n) (image.Map c.args.map) (Ok c.in-Ok.image)) (sym c.write.ensures.reads) c.in-Ok.ensures.read in
    let says = rw (c.as_slice.ensures, c.read_image.ensures.files, c.read_image.ensures.write_faults) at c.write.ensures.says in
    wrote c.args.form c.args.map c.args.output o c.write.result c.in-Ok.image c.in-Ok-burnt.text read c.in-Ok-burnt.ensures.exact (got_none shown) refl says

pub returns-in-Err-burnt : goal.returns-in-Err-burnt
returns-in-Err-burnt g c = λ shown faults.
    let o = unprinted shown faults (g.S.Store.files c.args.store.now) (g.S.Store.files c.read_image.new.store) (g.S.Store.read_faults c.args.store.now) (g.S.Store.read_faults c.read_image.new.store) (g.S.Store.write_faults c.args.store.now) (g.S.Store.write_faults c.read_image.new.store) in
    rw (c.image_answer-in-Err-burnt.ensures, c.fault_end.ensures)
    (refused c.args.form c.args.map c.args.output o c.in-Err-burnt.fault c.in-Ok.image c.in-Ok.ensures.read c.in-Err-burnt.ensures.exact (record { files = c.read_image.ensures.files; sink = refl }))
