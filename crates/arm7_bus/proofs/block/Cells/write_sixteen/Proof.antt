-- `write_sixteen` puts sixteen bytes in the places of others, through one pointer. Assumes `Logic`.
use Rattle.arm7_bus.proofs.BlockSteps.{◌≡◌, ℕ, ◌<◌, ◌≤◌, ◌+◌, ◌-◌, List, [], ◌∷◌, length, set, get_or, refl, sym, ap, ◌∙◌, arith, w8, w64, proved, full_share, ftrue, Fml, fat, froom, flft, ty_int, named, Val, vunit, vint, vptr, fact, tables, ‵, raw, ◌⊛◌, at_ret, ◌$◌, ◌∵◌, !, qed, done, move, keep, drop, use1, use2, split, join, fsplit, fsplit3, fjoin, feq_i, rewrite, suffices, frame, group, whole, sub, look_in, enter, of_opd, lit, unit_lit, bin, load, store, stop, fld, assigns, assigns_last, first, blocks, exec, returns, alloc_all, pass_all, free_all, look_at, get, through, sets, env, u8, usize, yes, shows, cell_at, shares, uint_vals, uint_Tells, owns, Ptr, in_a_block, MutRef, mut_vals, mut_Tells, row, others, plain, nothing, opens, closes, heard, peeks, Stays, walk_of, says, stay_dropped, Goes-dropped, stay_ref, Goes-ref, ends_at, after}
use Rattle.std.proofs.Common.{length-set}
use types.ByLocal.{is}
use Rattle.arm7_bus.proofs.BlockLemmas.{none_at_null, byte_out, byte_put}
use Rattle.arm7_bus.proofs.WriteLemmas.{one_set, one_more}
use Rattle.arm7_bus.specs.Blocks.{bytes_type, cells_own}
use Rattle.sdt_word.specs.Bytes.{written}
use Rattle.arm7_bus.specs.contracts.block.Cells.write_sixteen as f
use Rattle.arm7_bus.proofs.block.Cells.write_sixteen.Statement.{statement}
use Rattle.arm7_bus.proofs.block.Cells.write_sixteen.Code as code
use Rattle.arm7_bus.specs.contracts.block.Cells.{the_row as R}
use Rattle.arm7_bus.proofs.block.Cells.TheLaws.{lowers}

abbrev stayed : Stays f.ended.signature.params f.ended.kept
stayed = (stay_ref (0 ∷ []) tt (plain (λ _. R)), (stay_dropped _ yes, (stay_dropped _ yes, (stay_dropped _ yes, (stay_dropped _ yes, (stay_dropped _ yes, (stay_dropped _ yes, (stay_dropped _ yes, (stay_dropped _ yes, (stay_dropped _ yes, (stay_dropped _ yes, (stay_dropped _ yes, (stay_dropped _ yes, (stay_dropped _ yes, (stay_dropped _ yes, (stay_dropped _ yes, (stay_dropped _ yes, (stay_dropped _ yes, tt))))))))))))))))))

pub write_sixteen_spec : {M : Type 1} → statement M
write_sixteen_spec 𝓤 𝓛 𝓜 𝓡 wired =
    let c = f.clauses 𝓛 𝓜.mem 𝓡.returns in let W = walk_of 𝓛 f.ended stayed c in let 𝓣 = tables 𝓤 𝓛.H 𝓜 𝓡 𝓡.env in
    let byte = Goes-dropped 𝓛 1 (plain (λ _. u8)) yes (λ κs x w. refl) in
    proved 𝓛 f.ended stayed c 𝓜 𝓡
    (Goes-ref 𝓛 1 0 tt (plain (λ _. R)), (Goes-dropped 𝓛 1 (plain (λ _. usize)) yes (λ κs x w. refl), (byte, (byte, (byte, (byte, (byte, (byte, (byte, (byte, (byte, (byte, (byte, (byte, (byte, (byte, (byte, (byte, tt))))))))))))))))))
    f.Key.name code.function (code.unfolded 𝓤 𝓛.H 𝓜 𝓡 wired)
    (λ κs. (mut_vals, (uint_vals w64, (uint_vals w8, (uint_vals w8, (uint_vals w8, (uint_vals w8, (uint_vals w8, (uint_vals w8, (uint_vals w8, (uint_vals w8, (uint_vals w8, (uint_vals w8, (uint_vals w8, (uint_vals w8, (uint_vals w8, (uint_vals w8, (uint_vals w8, (uint_vals w8, tt)))))))))))))))))))
    (λ κs. (mut_Tells (named 0) κs.0 R, (uint_Tells w64, (uint_Tells w8, (uint_Tells w8, (uint_Tells w8, (uint_Tells w8, (uint_Tells w8, (uint_Tells w8, (uint_Tells w8, (uint_Tells w8, (uint_Tells w8, (uint_Tells w8, (uint_Tells w8, (uint_Tells w8, (uint_Tells w8, (uint_Tells w8, (uint_Tells w8, (uint_Tells w8, tt))))))))))))))))))) (λ κs qs bounds a _ are.
    let b = a.0.ref_ptr.0 in let o = a.0.ref_ptr.1 in let h = a.0.now in let i = a.1.0 in
    let v0 = a.1.1.0 in let v1 = a.1.1.1.0 in let v2 = a.1.1.1.1.0 in let v3 = a.1.1.1.1.1.0 in let v4 = a.1.1.1.1.1.1.0 in let v5 = a.1.1.1.1.1.1.1.0 in let v6 = a.1.1.1.1.1.1.1.1.0 in let v7 = a.1.1.1.1.1.1.1.1.1.0 in
    let v8 = a.1.1.1.1.1.1.1.1.1.1.0 in let v9 = a.1.1.1.1.1.1.1.1.1.1.1.0 in let v10 = a.1.1.1.1.1.1.1.1.1.1.1.1.0 in let v11 = a.1.1.1.1.1.1.1.1.1.1.1.1.1.0 in let v12 = a.1.1.1.1.1.1.1.1.1.1.1.1.1.1.0 in let v13 = a.1.1.1.1.1.1.1.1.1.1.1.1.1.1.1.0 in let v14 = a.1.1.1.1.1.1.1.1.1.1.1.1.1.1.1.1.0 in let v15 = a.1.1.1.1.1.1.1.1.1.1.1.1.1.1.1.1.1.0 in
    let vs = mut_vals a.0 in
    let y : W.Ghost = ((κs, qs, bounds, a, (vs, (uint_vals w64 i, (uint_vals w8 v0, (uint_vals w8 v1, (uint_vals w8 v2, (uint_vals w8 v3, (uint_vals w8 v4, (uint_vals w8 v5, (uint_vals w8 v6, (uint_vals w8 v7, (uint_vals w8 v8, (uint_vals w8 v9, (uint_vals w8 v10, (uint_vals w8 v11, (uint_vals w8 v12, (uint_vals w8 v13, (uint_vals w8 v14, (uint_vals w8 v15, tt))))))))))))))))))), tt) in
    let xs = h.bytes in let y0 = set xs i v0 in
    let y1 = set y0 (i + 1) v1 in let y2 = set y1 (i + 2) v2 in let y3 = set y2 (i + 3) v3 in let y4 = set y3 (i + 4) v4 in let y5 = set y4 (i + 5) v5 in
    let y6 = set y5 (i + 6) v6 in let y7 = set y6 (i + 7) v7 in let y8 = set y7 (i + 8) v8 in let y9 = set y8 (i + 9) v9 in let y10 = set y9 (i + 10) v10 in
    let y11 = set y10 (i + 11) v11 in let y12 = set y11 (i + 12) v12 in let y13 = set y12 (i + 13) v13 in let y14 = set y13 (i + 14) v14 in let y15 = set y14 (i + 15) v15 in
    qed 𝓛 (((‵ (flft κs.0 qs.0) ⊛ ‵ ftrue) ⊛ ‵ (owns (MutRef (named 0) κs.0 R ∷ usize ∷ u8 ∷ u8 ∷ u8 ∷ u8 ∷ u8 ∷ u8 ∷ u8 ∷ u8 ∷ u8 ∷ u8 ∷ u8 ∷ u8 ∷ u8 ∷ u8 ∷ u8 ∷ u8 ∷ []) a y.0.4)) ∷ raw (fact 𝓤 (i + 16 ≤ length xs)) ∷ []) ∵
    move ! (1 ∷ []) $ heard ! _ (λ room. split ! $ move ! (1 ∷ []) $ fsplit ! $ move ! (1 ∷ []) $ drop ! $ move ! (1 ∷ []) $ split ! $ keep ! (2 ∷ 0 ∷ []) $
    let l0 : length y0 ≡ length xs = length-set xs i v0 in
    let l1 : length y1 ≡ length xs = length-set y0 (i + 1) v1 ∙ l0 in let l2 : length y2 ≡ length xs = length-set y1 (i + 2) v2 ∙ l1 in
    let l3 : length y3 ≡ length xs = length-set y2 (i + 3) v3 ∙ l2 in let l4 : length y4 ≡ length xs = length-set y3 (i + 4) v4 ∙ l3 in
    let l5 : length y5 ≡ length xs = length-set y4 (i + 5) v5 ∙ l4 in let l6 : length y6 ≡ length xs = length-set y5 (i + 6) v6 ∙ l5 in
    let l7 : length y7 ≡ length xs = length-set y6 (i + 7) v7 ∙ l6 in let l8 : length y8 ≡ length xs = length-set y7 (i + 8) v8 ∙ l7 in
    let l9 : length y9 ≡ length xs = length-set y8 (i + 9) v9 ∙ l8 in let l10 : length y10 ≡ length xs = length-set y9 (i + 10) v10 ∙ l9 in
    let l11 : length y11 ≡ length xs = length-set y10 (i + 11) v11 ∙ l10 in let l12 : length y12 ≡ length xs = length-set y11 (i + 12) v12 ∙ l11 in
    let l13 : length y13 ≡ length xs = length-set y12 (i + 13) v13 ∙ l12 in let l14 : length y14 ≡ length xs = length-set y13 (i + 14) v14 ∙ l13 in
    let l15 : length y15 ≡ length xs = length-set y14 (i + 15) v15 ∙ l14 in
    let in0 : i < length xs = omega arith in
    let in1 : i + 1 < length y0 = omega arith in let in2 : i + 2 < length y1 = omega arith in let in3 : i + 3 < length y2 = omega arith in
    let in4 : i + 4 < length y3 = omega arith in let in5 : i + 5 < length y4 = omega arith in let in6 : i + 6 < length y5 = omega arith in
    let in7 : i + 7 < length y6 = omega arith in let in8 : i + 8 < length y7 = omega arith in let in9 : i + 9 < length y8 = omega arith in
    let in10 : i + 10 < length y9 = omega arith in let in11 : i + 11 < length y10 = omega arith in let in12 : i + 12 < length y11 = omega arith in
    let in13 : i + 13 < length y12 = omega arith in let in14 : i + 14 < length y13 = omega arith in let in15 : i + 15 < length y14 = omega arith in
    let t0 : y0 ≡ written xs i (v0 ∷ []) = one_set xs i v0 in0 in
    let t1 = one_more xs y0 (v0 ∷ []) i (i + 1) v1 t0 (omega arith) (omega arith) in
    let t2 = one_more xs y1 (v0 ∷ v1 ∷ []) i (i + 2) v2 t1 (omega arith) (omega arith) in
    let t3 = one_more xs y2 (v0 ∷ v1 ∷ v2 ∷ []) i (i + 3) v3 t2 (omega arith) (omega arith) in
    let t4 = one_more xs y3 (v0 ∷ v1 ∷ v2 ∷ v3 ∷ []) i (i + 4) v4 t3 (omega arith) (omega arith) in
    let t5 = one_more xs y4 (v0 ∷ v1 ∷ v2 ∷ v3 ∷ v4 ∷ []) i (i + 5) v5 t4 (omega arith) (omega arith) in
    let t6 = one_more xs y5 (v0 ∷ v1 ∷ v2 ∷ v3 ∷ v4 ∷ v5 ∷ []) i (i + 6) v6 t5 (omega arith) (omega arith) in
    let t7 = one_more xs y6 (v0 ∷ v1 ∷ v2 ∷ v3 ∷ v4 ∷ v5 ∷ v6 ∷ []) i (i + 7) v7 t6 (omega arith) (omega arith) in
    let t8 = one_more xs y7 (v0 ∷ v1 ∷ v2 ∷ v3 ∷ v4 ∷ v5 ∷ v6 ∷ v7 ∷ []) i (i + 8) v8 t7 (omega arith) (omega arith) in
    let t9 = one_more xs y8 (v0 ∷ v1 ∷ v2 ∷ v3 ∷ v4 ∷ v5 ∷ v6 ∷ v7 ∷ v8 ∷ []) i (i + 9) v9 t8 (omega arith) (omega arith) in
    let t10 = one_more xs y9 (v0 ∷ v1 ∷ v2 ∷ v3 ∷ v4 ∷ v5 ∷ v6 ∷ v7 ∷ v8 ∷ v9 ∷ []) i (i + 10) v10 t9 (omega arith) (omega arith) in
    let t11 = one_more xs y10 (v0 ∷ v1 ∷ v2 ∷ v3 ∷ v4 ∷ v5 ∷ v6 ∷ v7 ∷ v8 ∷ v9 ∷ v10 ∷ []) i (i + 11) v11 t10 (omega arith) (omega arith) in
    let t12 = one_more xs y11 (v0 ∷ v1 ∷ v2 ∷ v3 ∷ v4 ∷ v5 ∷ v6 ∷ v7 ∷ v8 ∷ v9 ∷ v10 ∷ v11 ∷ []) i (i + 12) v12 t11 (omega arith) (omega arith) in
    let t13 = one_more xs y12 (v0 ∷ v1 ∷ v2 ∷ v3 ∷ v4 ∷ v5 ∷ v6 ∷ v7 ∷ v8 ∷ v9 ∷ v10 ∷ v11 ∷ v12 ∷ []) i (i + 13) v13 t12 (omega arith) (omega arith) in
    let t14 = one_more xs y13 (v0 ∷ v1 ∷ v2 ∷ v3 ∷ v4 ∷ v5 ∷ v6 ∷ v7 ∷ v8 ∷ v9 ∷ v10 ∷ v11 ∷ v12 ∷ v13 ∷ []) i (i + 14) v14 t13 (omega arith) (omega arith) in
    let t15 = one_more xs y14 (v0 ∷ v1 ∷ v2 ∷ v3 ∷ v4 ∷ v5 ∷ v6 ∷ v7 ∷ v8 ∷ v9 ∷ v10 ∷ v11 ∷ v12 ∷ v13 ∷ v14 ∷ []) i (i + 15) v15 t14 (omega arith) (omega arith) in
    let new : R.Denot = record { at = h.at; room = h.room; bytes = y15; fits = (omega (arith, h.fits.0), h.fits.1) } in
    enter ! _ _ _ _ _ $ alloc_all ! (λ l. pass_all ! refl ((tt, tt), ((tt, record { fits = are.1.0.1 }), ((tt, record { fits = are.1.1.0.1 }), ((tt, record { fits = are.1.1.1.0.1 }), ((tt, record { fits = are.1.1.1.1.0.1 }), ((tt, record { fits = are.1.1.1.1.1.0.1 }), ((tt, record { fits = are.1.1.1.1.1.1.0.1 }), ((tt, record { fits = are.1.1.1.1.1.1.1.0.1 }), ((tt, record { fits = are.1.1.1.1.1.1.1.1.0.1 }), ((tt, record { fits = are.1.1.1.1.1.1.1.1.1.0.1 }), ((tt, record { fits = are.1.1.1.1.1.1.1.1.1.1.0.1 }), ((tt, record { fits = are.1.1.1.1.1.1.1.1.1.1.1.0.1 }), ((tt, record { fits = are.1.1.1.1.1.1.1.1.1.1.1.1.0.1 }), ((tt, record { fits = are.1.1.1.1.1.1.1.1.1.1.1.1.1.0.1 }), ((tt, record { fits = are.1.1.1.1.1.1.1.1.1.1.1.1.1.1.0.1 }), ((tt, record { fits = are.1.1.1.1.1.1.1.1.1.1.1.1.1.1.1.0.1 }), ((tt, record { fits = are.1.1.1.1.1.1.1.1.1.1.1.1.1.1.1.1.0.1 }), ((tt, record { fits = are.1.1.1.1.1.1.1.1.1.1.1.1.1.1.1.1.1.0.1 }), tt)))))))))))))))))) $
    fsplit3 ! $ move ! (1 ∷ 2 ∷ 3 ∷ []) $ opens ! tt R b o (λ us.
    move ! (1 ∷ []) $ peeks ! R _ (shows 𝓛 R) h us (λ told. fsplit ! $ move ! (1 ∷ []) $
    in_a_block ! h.at (λ p. cells_own p h.room xs) (none_at_null 𝓛 h.room xs i in0 h.fits.0) (λ b' o' e. fsplit ! $
    let Byte : ℕ → ℕ → Fml = λ k v. fat full_share (ty_int w8) b' (k + o') (vint w8 v) in
    let Others : List ℕ → ℕ → Fml = λ zs k. others (shares u8) full_share zs k b' o' in
    let Row : List ℕ → Fml = λ zs. row u8 full_share zs b' o' in
    let p1 : 1 + (i + o') ≡ i + 1 + o' = omega arith in let p2 : 2 + (i + o') ≡ i + 2 + o' = omega arith in let p3 : 3 + (i + o') ≡ i + 3 + o' = omega arith in
    let p4 : 4 + (i + o') ≡ i + 4 + o' = omega arith in let p5 : 5 + (i + o') ≡ i + 5 + o' = omega arith in let p6 : 6 + (i + o') ≡ i + 6 + o' = omega arith in
    let p7 : 7 + (i + o') ≡ i + 7 + o' = omega arith in let p8 : 8 + (i + o') ≡ i + 8 + o' = omega arith in let p9 : 9 + (i + o') ≡ i + 9 + o' = omega arith in
    let p10 : 10 + (i + o') ≡ i + 10 + o' = omega arith in let p11 : 11 + (i + o') ≡ i + 11 + o' = omega arith in let p12 : 12 + (i + o') ≡ i + 12 + o' = omega arith in
    let p13 : 13 + (i + o') ≡ i + 13 + o' = omega arith in let p14 : 14 + (i + o') ≡ i + 14 + o' = omega arith in let p15 : 15 + (i + o') ≡ i + 15 + o' = omega arith in
    use1 𝓛 (‵ (Byte i (get_or xs i 0)) ⊛ ‵ (Others xs i)) (byte_out 𝓛 full_share xs i b' o' in0) $ split ! $
    let word = lowers.val_is h us told ∙ ap (λ (p : Ptr). lowers.lowered (record h { at = p }) ∷ []) e in
    let Cell = λ (ws : List Val). ‵ (cell_at full_share R.mir ws b o) in
    rewrite ! 4 Cell word refl $
    -- [the byte; the other bytes; the room; what the fields own; the struct's cell; the open borrow, in three entries]
    first ! $ blocks ! $
    sets ! (of_opd ! (load ! (through ! refl (fld ! refl (stop !))) (look_in ! 4 (sub ! 0 refl (whole !))))) refl (tt, tt) $
    sets ! (bin ! (get ! refl) (get ! refl) tt) refl (tt, tt) $
    assigns ! (of_opd ! (get ! refl)) (through ! refl (stop !)) (store ! 0 refl (tt, record { fits = are.1.1.0.1 })) $
    use2 𝓛 (‵ (Row y0)) (byte_put 𝓛 xs i v0 b' o' in0) $ use1 𝓛 (‵ (Byte (i + 1) (get_or y0 (i + 1) 0)) ⊛ ‵ (Others y0 (i + 1))) (byte_out 𝓛 full_share y0 (i + 1) b' o' in1) $ split ! $
    sets ! (is ! (bin ! (get ! refl) (lit ! tt) tt) (ap (λ (k : ℕ). vptr b' k) p1)) refl (tt, tt) $
    assigns ! (of_opd ! (get ! refl)) (through ! refl (stop !)) (store ! 0 refl (tt, record { fits = are.1.1.1.0.1 })) $
    use2 𝓛 (‵ (Row y1)) (byte_put 𝓛 y0 (i + 1) v1 b' o' in1) $ use1 𝓛 (‵ (Byte (i + 2) (get_or y1 (i + 2) 0)) ⊛ ‵ (Others y1 (i + 2))) (byte_out 𝓛 full_share y1 (i + 2) b' o' in2) $ split ! $
    sets ! (is ! (bin ! (get ! refl) (lit ! tt) tt) (ap (λ (k : ℕ). vptr b' k) p2)) refl (tt, tt) $
    assigns ! (of_opd ! (get ! refl)) (through ! refl (stop !)) (store ! 0 refl (tt, record { fits = are.1.1.1.1.0.1 })) $
    use2 𝓛 (‵ (Row y2)) (byte_put 𝓛 y1 (i + 2) v2 b' o' in2) $ use1 𝓛 (‵ (Byte (i + 3) (get_or y2 (i + 3) 0)) ⊛ ‵ (Others y2 (i + 3))) (byte_out 𝓛 full_share y2 (i + 3) b' o' in3) $ split ! $
    sets ! (is ! (bin ! (get ! refl) (lit ! tt) tt) (ap (λ (k : ℕ). vptr b' k) p3)) refl (tt, tt) $
    assigns ! (of_opd ! (get ! refl)) (through ! refl (stop !)) (store ! 0 refl (tt, record { fits = are.1.1.1.1.1.0.1 })) $
    use2 𝓛 (‵ (Row y3)) (byte_put 𝓛 y2 (i + 3) v3 b' o' in3) $ use1 𝓛 (‵ (Byte (i + 4) (get_or y3 (i + 4) 0)) ⊛ ‵ (Others y3 (i + 4))) (byte_out 𝓛 full_share y3 (i + 4) b' o' in4) $ split ! $
    sets ! (is ! (bin ! (get ! refl) (lit ! tt) tt) (ap (λ (k : ℕ). vptr b' k) p4)) refl (tt, tt) $
    assigns ! (of_opd ! (get ! refl)) (through ! refl (stop !)) (store ! 0 refl (tt, record { fits = are.1.1.1.1.1.1.0.1 })) $
    use2 𝓛 (‵ (Row y4)) (byte_put 𝓛 y3 (i + 4) v4 b' o' in4) $ use1 𝓛 (‵ (Byte (i + 5) (get_or y4 (i + 5) 0)) ⊛ ‵ (Others y4 (i + 5))) (byte_out 𝓛 full_share y4 (i + 5) b' o' in5) $ split ! $
    sets ! (is ! (bin ! (get ! refl) (lit ! tt) tt) (ap (λ (k : ℕ). vptr b' k) p5)) refl (tt, tt) $
    assigns ! (of_opd ! (get ! refl)) (through ! refl (stop !)) (store ! 0 refl (tt, record { fits = are.1.1.1.1.1.1.1.0.1 })) $
    use2 𝓛 (‵ (Row y5)) (byte_put 𝓛 y4 (i + 5) v5 b' o' in5) $ use1 𝓛 (‵ (Byte (i + 6) (get_or y5 (i + 6) 0)) ⊛ ‵ (Others y5 (i + 6))) (byte_out 𝓛 full_share y5 (i + 6) b' o' in6) $ split ! $
    sets ! (is ! (bin ! (get ! refl) (lit ! tt) tt) (ap (λ (k : ℕ). vptr b' k) p6)) refl (tt, tt) $
    assigns ! (of_opd ! (get ! refl)) (through ! refl (stop !)) (store ! 0 refl (tt, record { fits = are.1.1.1.1.1.1.1.1.0.1 })) $
    use2 𝓛 (‵ (Row y6)) (byte_put 𝓛 y5 (i + 6) v6 b' o' in6) $ use1 𝓛 (‵ (Byte (i + 7) (get_or y6 (i + 7) 0)) ⊛ ‵ (Others y6 (i + 7))) (byte_out 𝓛 full_share y6 (i + 7) b' o' in7) $ split ! $
    sets ! (is ! (bin ! (get ! refl) (lit ! tt) tt) (ap (λ (k : ℕ). vptr b' k) p7)) refl (tt, tt) $
    assigns ! (of_opd ! (get ! refl)) (through ! refl (stop !)) (store ! 0 refl (tt, record { fits = are.1.1.1.1.1.1.1.1.1.0.1 })) $
    use2 𝓛 (‵ (Row y7)) (byte_put 𝓛 y6 (i + 7) v7 b' o' in7) $ use1 𝓛 (‵ (Byte (i + 8) (get_or y7 (i + 8) 0)) ⊛ ‵ (Others y7 (i + 8))) (byte_out 𝓛 full_share y7 (i + 8) b' o' in8) $ split ! $
    sets ! (is ! (bin ! (get ! refl) (lit ! tt) tt) (ap (λ (k : ℕ). vptr b' k) p8)) refl (tt, tt) $
    assigns ! (of_opd ! (get ! refl)) (through ! refl (stop !)) (store ! 0 refl (tt, record { fits = are.1.1.1.1.1.1.1.1.1.1.0.1 })) $
    use2 𝓛 (‵ (Row y8)) (byte_put 𝓛 y7 (i + 8) v8 b' o' in8) $ use1 𝓛 (‵ (Byte (i + 9) (get_or y8 (i + 9) 0)) ⊛ ‵ (Others y8 (i + 9))) (byte_out 𝓛 full_share y8 (i + 9) b' o' in9) $ split ! $
    sets ! (is ! (bin ! (get ! refl) (lit ! tt) tt) (ap (λ (k : ℕ). vptr b' k) p9)) refl (tt, tt) $
    assigns ! (of_opd ! (get ! refl)) (through ! refl (stop !)) (store ! 0 refl (tt, record { fits = are.1.1.1.1.1.1.1.1.1.1.1.0.1 })) $
    use2 𝓛 (‵ (Row y9)) (byte_put 𝓛 y8 (i + 9) v9 b' o' in9) $ use1 𝓛 (‵ (Byte (i + 10) (get_or y9 (i + 10) 0)) ⊛ ‵ (Others y9 (i + 10))) (byte_out 𝓛 full_share y9 (i + 10) b' o' in10) $ split ! $
    sets ! (is ! (bin ! (get ! refl) (lit ! tt) tt) (ap (λ (k : ℕ). vptr b' k) p10)) refl (tt, tt) $
    assigns ! (of_opd ! (get ! refl)) (through ! refl (stop !)) (store ! 0 refl (tt, record { fits = are.1.1.1.1.1.1.1.1.1.1.1.1.0.1 })) $
    use2 𝓛 (‵ (Row y10)) (byte_put 𝓛 y9 (i + 10) v10 b' o' in10) $ use1 𝓛 (‵ (Byte (i + 11) (get_or y10 (i + 11) 0)) ⊛ ‵ (Others y10 (i + 11))) (byte_out 𝓛 full_share y10 (i + 11) b' o' in11) $ split ! $
    sets ! (is ! (bin ! (get ! refl) (lit ! tt) tt) (ap (λ (k : ℕ). vptr b' k) p11)) refl (tt, tt) $
    assigns ! (of_opd ! (get ! refl)) (through ! refl (stop !)) (store ! 0 refl (tt, record { fits = are.1.1.1.1.1.1.1.1.1.1.1.1.1.0.1 })) $
    use2 𝓛 (‵ (Row y11)) (byte_put 𝓛 y10 (i + 11) v11 b' o' in11) $ use1 𝓛 (‵ (Byte (i + 12) (get_or y11 (i + 12) 0)) ⊛ ‵ (Others y11 (i + 12))) (byte_out 𝓛 full_share y11 (i + 12) b' o' in12) $ split ! $
    sets ! (is ! (bin ! (get ! refl) (lit ! tt) tt) (ap (λ (k : ℕ). vptr b' k) p12)) refl (tt, tt) $
    assigns ! (of_opd ! (get ! refl)) (through ! refl (stop !)) (store ! 0 refl (tt, record { fits = are.1.1.1.1.1.1.1.1.1.1.1.1.1.1.0.1 })) $
    use2 𝓛 (‵ (Row y12)) (byte_put 𝓛 y11 (i + 12) v12 b' o' in12) $ use1 𝓛 (‵ (Byte (i + 13) (get_or y12 (i + 13) 0)) ⊛ ‵ (Others y12 (i + 13))) (byte_out 𝓛 full_share y12 (i + 13) b' o' in13) $ split ! $
    sets ! (is ! (bin ! (get ! refl) (lit ! tt) tt) (ap (λ (k : ℕ). vptr b' k) p13)) refl (tt, tt) $
    assigns ! (of_opd ! (get ! refl)) (through ! refl (stop !)) (store ! 0 refl (tt, record { fits = are.1.1.1.1.1.1.1.1.1.1.1.1.1.1.1.0.1 })) $
    use2 𝓛 (‵ (Row y13)) (byte_put 𝓛 y12 (i + 13) v13 b' o' in13) $ use1 𝓛 (‵ (Byte (i + 14) (get_or y13 (i + 14) 0)) ⊛ ‵ (Others y13 (i + 14))) (byte_out 𝓛 full_share y13 (i + 14) b' o' in14) $ split ! $
    sets ! (is ! (bin ! (get ! refl) (lit ! tt) tt) (ap (λ (k : ℕ). vptr b' k) p14)) refl (tt, tt) $
    assigns ! (of_opd ! (get ! refl)) (through ! refl (stop !)) (store ! 0 refl (tt, record { fits = are.1.1.1.1.1.1.1.1.1.1.1.1.1.1.1.1.0.1 })) $
    use2 𝓛 (‵ (Row y14)) (byte_put 𝓛 y13 (i + 14) v14 b' o' in14) $ use1 𝓛 (‵ (Byte (i + 15) (get_or y14 (i + 15) 0)) ⊛ ‵ (Others y14 (i + 15))) (byte_out 𝓛 full_share y14 (i + 15) b' o' in15) $ split ! $
    sets ! (is ! (bin ! (get ! refl) (lit ! tt) tt) (ap (λ (k : ℕ). vptr b' k) p15)) refl (tt, tt) $
    assigns_last ! (of_opd ! (get ! refl)) (through ! refl (stop !)) (store ! 0 refl (tt, record { fits = are.1.1.1.1.1.1.1.1.1.1.1.1.1.1.1.1.1.0.1 })) $
    exec ! 𝓣.C 𝓣.Λ (env code.Mir.locals l) (after 1 (code.function).body) (at_ret _ (W.post y)) $
    sets ! (of_opd ! (unit_lit !)) refl (tt, tt) $
    use2 𝓛 (‵ (Row y15)) (byte_put 𝓛 y14 (i + 15) v15 b' o' in15) $
    rewrite ! 1 (λ (n : ℕ). ‵ (froom (bytes_type (h.room - n)) b' (n + o'))) (sym l15) refl $ fjoin ! $
    rewrite ! 0 (λ (p : Ptr). ‵ (cells_own p h.room y15)) (sym e) refl $ rewrite ! 2 Cell (sym word) refl $
    move ! (1 ∷ []) $ fjoin ! $ move ! (1 ∷ []) $ closes ! tt R new us b o $
    returns ! (look_at ! 0 refl) $ free_all ! refl $ move ! (3 ∷ []) $
    suffices ! _ (ends_at 𝓛 f.ended stayed c y vunit tt (new, (tt, (tt, (tt, (tt, (tt, (tt, (tt, (tt, (tt, (tt, (tt, (tt, (tt, (tt, (tt, (tt, (tt, tt)))))))))))))))))) (tt, (tt, (tt, (tt, (tt, (tt, (tt, (tt, (tt, (tt, (tt, (tt, (tt, (tt, (tt, (tt, (tt, (tt, tt))))))))))))))))))) $ says ! (t15, refl, refl) $
    group ! 3 $ nothing ! $ nothing ! $ join ! $ nothing ! $ join ! $ nothing ! $ join ! $ nothing ! $ join ! $ nothing ! $ join ! $ nothing ! $ join ! $ nothing ! $ join ! $ nothing ! $ join ! $ nothing ! $ join ! $ nothing ! $ join ! $ nothing ! $ join ! $ nothing ! $ join ! $ nothing ! $ join ! $ nothing ! $ join ! $ nothing ! $ join ! $ nothing ! $ join ! $ nothing ! $ join ! $ move ! (1 ∷ 0 ∷ []) $ join ! $ nothing ! $ move ! (2 ∷ 0 ∷ []) $ join ! $ frame ! $ frame ! $
    feq_i ! _ (vunit ∷ []) _ refl $ done !))))))
