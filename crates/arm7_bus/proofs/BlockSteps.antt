-- The names that the walks of the block's functions share.
pub use Rattle.std.proofs.Common.{◌≡◌, ℕ, ◌<◌, ◌≤◌, ◌+◌, ◌-◌, ◌^◌, List, [], ◌∷◌, ◌++◌, length, set, get_or, refl, sym, ap, subst, ◌∙◌, arith, lit<, w8, w64, MutBor}
pub use Rattle.std.proofs.raw_atomic.Walks.{proved, proved_at, leaves}
pub use base.Fraction.{full_share}
pub use base.Logic.{SProp, ent, never, id⊢}
pub use base.Fml.{Lft, Share, Fml, ftrue, fat, froom, flft, feq}
pub use mir.Syntax.{ty_int, ty_ptr, named}
pub use mir.Val.{Val, vunit, vint, vptr, vstruct, vcons, vnil}
pub use contract.Monad.{fact}
pub use contract.Running.{tables}
pub use prog.Wp.{WpFn}
pub use types.Kit.{use0, ‵, raw, ◌⊛◌, some, later, prop, at_ret, ◌$◌, ◌∵◌, !, qed, done, by, move, keep, drop, use1, use2, use3, split, join, fsplit, fsplit3, fjoin, fjoin3, feq_i, feq_l, flt_i, pick, await, rewrite, regoal, suffices, frame, group}
pub use types.Part.{whole, sub, look_in, agg}
pub use types.Run.{enter, of_opd, lit, unit_lit, bin, addr, load, look, store, init, stop, fld, hop, no_more, and_then, assigns, assigns_last, first, blocks, exec, returns, well_typed}
pub use types.ByLocal.{alloc_all, pass_all, free_all, look_at, get, get_in, through, sets, sets_last, env}
pub use denote.Builtin.{u8, usize, unit}
pub use denote.Exit.{yes, no}
pub use denote.Laws.{shows}
pub use denote.Memory.{cell_at, part_at, shares}
pub use denote.Plain.{uint_in, uint_out, uint_Makes, uint_vals, uint_Tells}
pub use denote.RattleType.{RattleType, owns}
pub use denote.RawPtr.{Ptr, block_ptr, null_ptr, in_a_block}
pub use denote.Ref.{MutRef, mut_vals, mut_Tells, shr_vals, shr_Tells}
pub use denote.Index.{row, others, takes, puts, place, place_byte}
pub use denote.Signature.{plain, types_at}
pub use denote.Steps.{nothing, owned, opens, closes, heard, peeks}
pub use denote.Triple.Entry.{on_entry, alive}
pub use denote.Triple.Walked.{Stays, walk_of, says, stay_dropped, Goes-dropped, stay_ref, Goes-ref, ends_at}
pub use Rattle.std.proofs.VecSteps.Shapes.{after}
