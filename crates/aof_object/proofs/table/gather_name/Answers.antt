use Rattle.std.proofs.Common.{◌≡◌, ◌+◌, ◌∙◌, ◌++◌, ◌∷◌, [], ap, sym, ℕ, List, None, length}
use Rattle.aof_object.specs.Index.{number_in}
use Rattle.aof_object.proofs.IndexLemmas.{noted}
use Rattle.aof_object.proofs.TableLemmas.{table_kept, table_more}
use Rattle.aof_object.proofs.table.gather_name.Goals as goal

pub returns-in_default : goal.returns-in_default
returns-in_default c = table_kept c.args.bytes.now.items c.args.places.now c.args.name.now c.in_default.field-0 (sym c.find_place.ensures ∙ c.in_default.is)

pub returns-in_ok-push : goal.returns-in_ok-push
returns-in_ok-push c =
    let old = c.args.bytes.now.items in
    let name = c.args.name.now in
    let fresh : number_in c.args.places.now name ≡ None = sym c.find_place.ensures ∙ c.in-None.is in
    let so_far : List ℕ = c.as_slice-so_far.result.now in
    let at : length so_far ≡ length old = ap (λ (x : List ℕ). length x) c.as_slice-so_far.ensures.value in
    let extended : c.extend_from_slice.new.self.items ≡ old ++ name = c.in_ok-extend_from_slice.ensures.items in
    let bytes = c.in_ok-push.ensures.items ∙ ap (λ (x : List ℕ). x ++ 0 ∷ []) extended in
    table_more old c.push.new.self.items c.args.places.now c.insert.new.self name fresh bytes
    (rw (← at) (noted c.args.places.now c.insert.new.self name (4 + length so_far) (sym fresh) (λ q. c.in_ok-insert.ensures.updates.0 (record { ref_ptr = (0, 0); now = q }))))
