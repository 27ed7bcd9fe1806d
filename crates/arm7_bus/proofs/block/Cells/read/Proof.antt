-- `read` reads a byte through a `&`. Assumes `Logic`.
use Rattle.arm7_bus.proofs.BlockSteps.{◌<◌, ◌+◌, [], ◌∷◌, length, get_or, refl, w8, w64, proved, ftrue, fat, flft, ty_int, named, vint, fact, tables, ‵, raw, ◌⊛◌, at_ret, ◌$◌, ◌∵◌, !, qed, done, move, keep, drop, use1, use2, split, join, fsplit, suffices, enter, of_opd, bin, load, look, stop, fld, first, blocks, exec, returns, alloc_all, pass_all, free_all, look_at, get, through, sets, sets_last, env, u8, usize, yes, shares, uint_Makes, uint_vals, uint_Tells, owns, in_a_block, shr_vals, shr_Tells, row, others, plain, nothing, owned, heard, Stays, walk_of, says, stay_dropped, Goes-dropped, ends_at, after, well_typed}
use denote.Builtin.{RefOf}
use denote.Copied.{uint_Copied}
use denote.Index.{looks_slice, shuts_slice}
use denote.Memory.{hidden_shr}
use denote.Opens.{hide}
use denote.RawPtr.{RawPtr}
use denote.Ref.{ShrRef}
use Rattle.arm7_bus.proofs.BlockLemmas.{none_lent_at_null, shown, pointer_in, pointer_out, byte_out, byte_back}
use Rattle.arm7_bus.specs.Blocks.{cells_lent}
use Rattle.arm7_bus.specs.contracts.block.Cells.read as f
use Rattle.arm7_bus.proofs.block.Cells.read.Statement.{statement}
use Rattle.arm7_bus.proofs.block.Cells.read.Code as code
use Rattle.arm7_bus.specs.contracts.block.Cells.{the_row as R}

abbrev stayed : Stays f.ended.signature.params f.ended.kept
stayed = (stay_dropped _ yes, (stay_dropped _ yes, tt))

pub read_spec : {M : Type 1} → statement M
read_spec 𝓤 𝓛 𝓜 𝓡 wired =
    let c = f.clauses 𝓛 𝓜.mem 𝓡.returns in let W = walk_of 𝓛 f.ended stayed c in let 𝓣 = tables 𝓤 𝓛.H 𝓜 𝓡 𝓡.env in
    proved 𝓛 f.ended stayed c 𝓜 𝓡
    (Goes-dropped 𝓛 1 (RefOf (0 ∷ []) tt (plain (λ _. R)) (λ _. tt)) yes (λ κs x w. refl), (Goes-dropped 𝓛 1 (plain (λ _. usize)) yes (λ κs x w. refl), tt))
    f.Key.name code.function (code.unfolded 𝓤 𝓛.H 𝓜 𝓡 wired)
    (λ κs. (shr_vals, (uint_vals w64, tt))) (λ κs. (shr_Tells (named 0) κs.0 R, (uint_Tells w64, tt))) (λ κs qs bounds a _ are.
    let κ = κs.0 in let b = a.0.ref_ptr.0 in let o = a.0.ref_ptr.1 in let h = a.0.now in let i = a.1.0 in
    let y : W.Ghost = ((κs, qs, bounds, a, (shr_vals a.0, (uint_vals w64 i, tt))), tt) in
    let xs = h.bytes in let v = get_or xs i 0 in
    qed 𝓛 (((‵ (flft κ qs.0) ⊛ ‵ ftrue) ⊛ ‵ (owns (ShrRef (named 0) κ R ∷ usize ∷ []) a y.0.4)) ∷ raw (fact 𝓤 (i < length xs)) ∷ []) ∵
    move ! (1 ∷ []) $ heard ! _ (λ inside. split ! $ move ! (1 ∷ []) $ fsplit ! $ move ! (1 ∷ []) $ drop ! $ move ! (1 ∷ []) $ split ! $ keep ! (2 ∷ 0 ∷ []) $
    fsplit ! $ drop ! $ use1 𝓛 (‵ (hidden_shr RawPtr κ h.at b (o + 0)) ⊛ ‵ (cells_lent h.at h.room xs κ)) (shown 𝓛 κ h b o) $ split ! $ move ! (1 ∷ []) $
    in_a_block ! h.at (λ p. cells_lent p h.room xs κ) (none_lent_at_null 𝓛 κ h.room xs i inside h.fits.0) (λ b' o' e. hide ! $ move ! (1 ∷ 2 ∷ 0 ∷ []) $
    -- [a `&` to the pointer; the token; a `&` to each byte]
    enter ! _ _ _ _ _ $ alloc_all ! (λ l. pass_all ! refl ((tt, tt), ((tt, record { fits = are.1.0.1 }), tt)) $
    first ! $ blocks ! $ pointer_in ! tt h.at b' o' e b (o + 0) (λ q.
    sets ! (of_opd ! (load ! (through ! refl (fld ! refl (stop !))) (look ! 0 refl))) refl (tt, tt) $
    pointer_out ! tt h.at b' o' e b (o + 0) $
    sets ! (bin ! (get ! refl) (get ! refl) tt) refl (tt, tt) $
    move ! (1 ∷ 0 ∷ []) $ looks_slice ! tt u8 (uint_Copied 𝓛 w8) xs b' o' (λ r.
    use1 𝓛 (‵ (fat r (ty_int w8) b' (i + o') (vint w8 v)) ⊛ ‵ (others (shares u8) r xs i b' o')) (byte_out 𝓛 r xs i b' o' inside) $ split ! $ well_typed ! (λ good.
    sets_last ! (of_opd ! (load ! (through ! refl (stop !)) (look ! 0 refl))) refl good $
    exec ! 𝓣.C 𝓣.Λ (env code.Mir.locals l) (after 1 (code.function).body) (at_ret _ (W.post y)) $
    sets ! (of_opd ! (get ! refl)) refl good $
    use2 𝓛 (‵ (row u8 r xs b' o')) (byte_back 𝓛 r xs i b' o' inside) $ shuts_slice ! tt u8 r xs b' o' $
    returns ! (look_at ! 0 refl) $ free_all ! refl $ keep ! (0 ∷ []) $
    suffices ! _ (ends_at 𝓛 f.ended stayed c y (vint w8 v) v (tt, (tt, tt)) (tt, (tt, tt))) $ says ! refl $
    owned ! u8 _ (uint_Makes 𝓛 w8) v _ (refl, good.1.fits) $ nothing ! $ nothing ! $ join ! $ nothing ! $ join ! $ nothing ! $ move ! (3 ∷ 0 ∷ []) $ join ! $ done !)))))))
