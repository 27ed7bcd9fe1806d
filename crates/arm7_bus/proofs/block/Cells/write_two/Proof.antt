-- `write_two` puts two bytes in the places of others, through one pointer. Assumes `Logic`.
use Rattle.arm7_bus.proofs.BlockSteps.{◌≡◌, ℕ, ◌<◌, ◌≤◌, ◌+◌, ◌-◌, List, [], ◌∷◌, length, set, get_or, refl, sym, ap, ◌∙◌, arith, w8, w64, proved, full_share, ftrue, Fml, fat, froom, flft, ty_int, named, Val, vunit, vint, vptr, fact, tables, ‵, raw, ◌⊛◌, at_ret, ◌$◌, ◌∵◌, !, qed, done, move, keep, drop, use1, use2, split, join, fsplit, fsplit3, fjoin, feq_i, rewrite, suffices, frame, group, whole, sub, look_in, enter, of_opd, lit, unit_lit, bin, load, store, stop, fld, assigns, assigns_last, first, blocks, exec, returns, alloc_all, pass_all, free_all, look_at, get, through, sets, env, u8, usize, yes, shows, cell_at, shares, uint_vals, uint_Tells, owns, Ptr, in_a_block, MutRef, mut_vals, mut_Tells, row, others, plain, nothing, opens, closes, heard, peeks, Stays, walk_of, says, stay_dropped, Goes-dropped, stay_ref, Goes-ref, ends_at, after}
use Rattle.std.proofs.Common.{length-set}
use types.ByLocal.{is}
use Rattle.arm7_bus.proofs.BlockLemmas.{none_at_null, byte_out, byte_put}
use Rattle.arm7_bus.specs.Blocks.{bytes_type, cells_own}
use Rattle.arm7_bus.specs.contracts.block.Cells.write_two as f
use Rattle.arm7_bus.proofs.block.Cells.write_two.Statement.{statement}
use Rattle.arm7_bus.proofs.block.Cells.write_two.Code as code
use Rattle.arm7_bus.specs.contracts.block.Cells.{the_row as R}
use Rattle.arm7_bus.proofs.block.Cells.TheLaws.{lowers}

abbrev stayed : Stays f.ended.signature.params f.ended.kept
stayed = (stay_ref (0 ∷ []) tt (plain (λ _. R)), (stay_dropped _ yes, (stay_dropped _ yes, (stay_dropped _ yes, tt))))

pub write_two_spec : {M : Type 1} → statement M
write_two_spec 𝓤 𝓛 𝓜 𝓡 wired =
    let c = f.clauses 𝓛 𝓜.mem 𝓡.returns in let W = walk_of 𝓛 f.ended stayed c in let 𝓣 = tables 𝓤 𝓛.H 𝓜 𝓡 𝓡.env in
    let byte = Goes-dropped 𝓛 1 (plain (λ _. u8)) yes (λ κs x w. refl) in
    proved 𝓛 f.ended stayed c 𝓜 𝓡
    (Goes-ref 𝓛 1 0 tt (plain (λ _. R)), (Goes-dropped 𝓛 1 (plain (λ _. usize)) yes (λ κs x w. refl), (byte, (byte, tt))))
    f.Key.name code.function (code.unfolded 𝓤 𝓛.H 𝓜 𝓡 wired)
    (λ κs. (mut_vals, (uint_vals w64, (uint_vals w8, (uint_vals w8, tt)))))
    (λ κs. (mut_Tells (named 0) κs.0 R, (uint_Tells w64, (uint_Tells w8, (uint_Tells w8, tt))))) (λ κs qs bounds a _ are.
    let b = a.0.ref_ptr.0 in let o = a.0.ref_ptr.1 in let h = a.0.now in let i = a.1.0 in
    let v0 = a.1.1.0 in let v1 = a.1.1.1.0 in let vs = mut_vals a.0 in
    let y : W.Ghost = ((κs, qs, bounds, a, (vs, (uint_vals w64 i, (uint_vals w8 v0, (uint_vals w8 v1, tt))))), tt) in
    let xs = h.bytes in let y0 = set xs i v0 in let y1 = set y0 (i + 1) v1 in
    qed 𝓛 (((‵ (flft κs.0 qs.0) ⊛ ‵ ftrue) ⊛ ‵ (owns (MutRef (named 0) κs.0 R ∷ usize ∷ u8 ∷ u8 ∷ []) a y.0.4)) ∷ raw (fact 𝓤 (i + 2 ≤ length xs)) ∷ []) ∵
    move ! (1 ∷ []) $ heard ! _ (λ room. split ! $ move ! (1 ∷ []) $ fsplit ! $ move ! (1 ∷ []) $ drop ! $ move ! (1 ∷ []) $ split ! $ keep ! (2 ∷ 0 ∷ []) $
    let l0 : length y0 ≡ length xs = length-set xs i v0 in let l1 : length y1 ≡ length xs = length-set y0 (i + 1) v1 ∙ l0 in
    let in0 : i < length xs = omega arith in let in1 : i + 1 < length y0 = omega arith in
    let new : R.Denot = record { at = h.at; room = h.room; bytes = y1; fits = (omega (arith, h.fits.0), h.fits.1) } in
    enter ! _ _ _ _ _ $ alloc_all ! (λ l. pass_all ! refl ((tt, tt), ((tt, record { fits = are.1.0.1 }), ((tt, record { fits = are.1.1.0.1 }), ((tt, record { fits = are.1.1.1.0.1 }), tt)))) $
    fsplit3 ! $ move ! (1 ∷ 2 ∷ 3 ∷ []) $ opens ! tt R b o (λ us.
    move ! (1 ∷ []) $ peeks ! R _ (shows 𝓛 R) h us (λ told. fsplit ! $ move ! (1 ∷ []) $
    in_a_block ! h.at (λ p. cells_own p h.room xs) (none_at_null 𝓛 h.room xs i in0 h.fits.0) (λ b' o' e. fsplit ! $
    let Byte : ℕ → ℕ → Fml = λ k v. fat full_share (ty_int w8) b' (k + o') (vint w8 v) in
    let Others : List ℕ → ℕ → Fml = λ zs k. others (shares u8) full_share zs k b' o' in
    let Row : List ℕ → Fml = λ zs. row u8 full_share zs b' o' in
    let p1 : 1 + (i + o') ≡ i + 1 + o' = omega arith in
    use1 𝓛 (‵ (Byte i (get_or xs i 0)) ⊛ ‵ (Others xs i)) (byte_out 𝓛 full_share xs i b' o' in0) $ split ! $
    let word = lowers.val_is h us told ∙ ap (λ (p : Ptr). lowers.lowered (record h { at = p }) ∷ []) e in
    let Cell = λ (ws : List Val). ‵ (cell_at full_share R.mir ws b o) in
    rewrite ! 4 Cell word refl $
    -- [the byte; the other bytes; the room; what the fields own; the struct's cell; the open borrow, in three entries]
    first ! $ blocks ! $
    sets ! (of_opd ! (load ! (through ! refl (fld ! refl (stop !))) (look_in ! 4 (sub ! 0 refl (whole !))))) refl (tt, tt) $
    sets ! (bin ! (get ! refl) (get ! refl) tt) refl (tt, tt) $
    assigns ! (of_opd ! (get ! refl)) (through ! refl (stop !)) (store ! 0 refl (tt, record { fits = are.1.1.0.1 })) $
    use2 𝓛 (‵ (Row y0)) (byte_put 𝓛 xs i v0 b' o' in0) $ use1 𝓛 (‵ (Byte (i + 1) (get_or y0 (i + 1) 0)) ⊛ ‵ (Others y0 (i + 1))) (byte_out 𝓛 full_share y0 (i + 1) b' o' in1) $ split ! $
    sets ! (is ! (bin ! (get ! refl) (lit ! tt) tt) (ap (λ (k : ℕ). vptr b' k) p1)) refl (tt, tt) $
    assigns_last ! (of_opd ! (get ! refl)) (through ! refl (stop !)) (store ! 0 refl (tt, record { fits = are.1.1.1.0.1 })) $
    exec ! 𝓣.C 𝓣.Λ (env code.Mir.locals l) (after 1 (code.function).body) (at_ret _ (W.post y)) $
    sets ! (of_opd ! (unit_lit !)) refl (tt, tt) $
    use2 𝓛 (‵ (Row y1)) (byte_put 𝓛 y0 (i + 1) v1 b' o' in1) $
    rewrite ! 1 (λ (n : ℕ). ‵ (froom (bytes_type (h.room - n)) b' (n + o'))) (sym l1) refl $ fjoin ! $
    rewrite ! 0 (λ (p : Ptr). ‵ (cells_own p h.room y1)) (sym e) refl $ rewrite ! 2 Cell (sym word) refl $
    move ! (1 ∷ []) $ fjoin ! $ move ! (1 ∷ []) $ closes ! tt R new us b o $
    returns ! (look_at ! 0 refl) $ free_all ! refl $ move ! (3 ∷ []) $
    suffices ! _ (ends_at 𝓛 f.ended stayed c y vunit tt (new, (tt, (tt, (tt, tt)))) (tt, (tt, (tt, (tt, tt))))) $ says ! (refl, refl, refl) $
    group ! 3 $ nothing ! $ nothing ! $ join ! $ nothing ! $ join ! $ nothing ! $ join ! $ move ! (1 ∷ 0 ∷ []) $ join ! $ nothing ! $ move ! (2 ∷ 0 ∷ []) $ join ! $ frame ! $ frame ! $
    feq_i ! _ (vunit ∷ []) _ refl $ done !))))))
