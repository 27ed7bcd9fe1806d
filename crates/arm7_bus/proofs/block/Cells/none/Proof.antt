-- `none` has no block. Assumes `Logic`.
use Rattle.arm7_bus.proofs.BlockSteps.{ℕ, [], ◌∷◌, refl, lit<, proved, ftrue, ‵, raw, ◌$◌, ◌∵◌, !, qed, drop, use0, suffices, enter, lit, agg, and_then, no_more, returns, alloc_all, pass_all, free_all, look_at, sets, null_ptr, nothing, Stays, walk_of, says, ends_at, feq_i, fjoin, on_entry, done}
use Rattle.std.proofs.Common.{lit≤}
use Rattle.arm7_bus.proofs.BlockLemmas.{cells_val, cells_fields, cells_made}
use Rattle.arm7_bus.specs.contracts.block.Cells.none as f
use Rattle.arm7_bus.proofs.block.Cells.none.Statement.{statement}
use Rattle.arm7_bus.proofs.block.Cells.none.Code as code
use Rattle.arm7_bus.specs.contracts.block.Cells.{the_row as R}

abbrev stayed : Stays f.ended.signature.params f.ended.kept
stayed = tt

pub none_spec : {M : Type 1} → statement M
none_spec 𝓤 𝓛 𝓜 𝓡 wired =
    let c = f.clauses 𝓛 𝓜.mem 𝓡.returns in let W = walk_of 𝓛 f.ended stayed c in
    proved 𝓛 f.ended stayed c 𝓜 𝓡 tt f.Key.name code.function (code.unfolded 𝓤 𝓛.H 𝓜 𝓡 wired) (λ κs. tt) (λ κs. tt) (λ κs qs bounds a _ are.
    let y : W.Ghost = ((κs, qs, bounds, a, tt), tt) in
    let new : R.Denot = record { at = null_ptr; room = 0; bytes = []; fits = (lit≤ tt, lit< tt) } in
    qed 𝓛 (raw (on_entry 𝓛 f.signature κs qs a tt) ∷ ‵ ftrue ∷ []) ∵ drop ! $ drop ! $
    enter ! _ _ _ _ _ $ alloc_all ! (λ l. pass_all ! refl tt $
    sets ! (agg ! (and_then ! (lit ! tt) (and_then ! (lit ! tt) (no_more !)))) refl (tt, (record { fits = lit< tt }, (record { fits = lit< tt }, tt))) $
    returns ! (look_at ! 0 refl) $ free_all ! refl $
    suffices ! _ (ends_at 𝓛 f.ended stayed c y (cells_val null_ptr 0) new tt tt) $ says ! (refl, refl) $
    feq_i ! ℕ 0 0 refl $ use0 𝓛 (‵ (cells_fields null_ptr 0 (cells_val null_ptr 0 ∷ []))) (cells_made 𝓛 null_ptr 0 (lit< tt)) $ fjoin ! $ nothing ! $ nothing ! $ done !))
