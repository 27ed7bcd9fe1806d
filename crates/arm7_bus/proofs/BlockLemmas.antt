-- Bytes of a block: what a `&` to them holds, and how one is taken out and put back. Assumes `Logic`.
use Rattle.std.proofs.Common.{◌≡◌, ◌∙◌, ◌^◌, ℕ, zero, suc, ◌<◌, ◌≤◌, ◌+◌, ◌-◌, arith, refl, sym, ap, subst, List, [], ◌∷◌, ◌++◌, length, take, drop, get_or, set, length-append}
use native.Mathlib.Nat.{not-suc-le-zero}
use seplogic.Ra.Ura.{Ura}
use base.Fraction.{full_share}
use base.Logic.{emp, ent, sep, never, id⊢, via, snd∗, mono_r}
use base.Fml.{Fml, Lft, Share, ftrue, feq, fat, flft, froom, fhide}
use mir.Syntax.{w8, ty_int, ty_ptr, w64}
use mir.Val.{Val, vint, vptr, vstruct, vcons, vnil, of_list}
use denote.Shadow.{shadow, makes_shadow}
use types.Logic.{Logic, sem}
use types.Kit.{Goal, Item, Seq, Soaks, Step, step, ‵, ◌⊛◌, ◌$◌, ◌∵◌, !, qed, by, use1, use2, split, move, keep, rewrite, fsplit, fjoin, fpack, feq_l, feq_i, done}
use types.Kit.{drop as skip}
use denote.Index.{row, others, takes, puts, puts_back, place, place_byte}
use denote.Copied.{plain_Copied}
use denote.Memory.{cell_at, part_at, shared_of, shares, hidden_shr}
use denote.Opens.{Shut, hide, unhide}
use denote.Plain.{uint_in, uint_out, uint_row_laws}
use denote.RawPtr.{Ptr, RawPtr, block_ptr, null_ptr, coded_ptr, ptr_own, ptr_val, rawptr_pure}
use denote.Shares.{Shares}
use denote.Sharing.{ShrLaws}
use denote.SharingLaws.{said_shr_laws}
use denote.Slice.{elements_shared, elements_shr_laws}
use denote.RattleType.{RattleType, Valss}
use denote.Steps.{looks, shuts, nothing}
use denote.Builtin.{unit}
use denote.Signature.{Slot, plain}
use mir.Syntax.{Body}
use prog.Wp.{Env, Calls, Loops, Wp, after_seq, after_block}
use types.Kit.{Post, any_q, post}
use denote.Struct.Laws.{RawPtr-laws}
use denote.Struct.Lending.{Lends, Lends-both, Lends-first, Lends-nothing, Lends-said, lent_out}
use denote.Struct.Owning.{shape}
use denote.Struct.Declared.{shape as struct_shape}
use denote.Struct.Struct.{Struct, within}
use denote.Struct.Tuple.{Tuple, tuple_type}
use Rattle.std.specs.Borrow.{u8}
use Rattle.arm7_bus.specs.Blocks.{bytes_type, cells_own, cells_lent}
use Rattle.arm7_bus.specs.contracts.block.Cells as C
use Rattle.arm7_bus.specs.contracts.block.Cells.{the_row as R}

pub length-snoc : (xs : List ℕ) (x : ℕ) → length (xs ++ x ∷ []) ≡ suc (length xs)
length-snoc xs x = length-append xs (x ∷ []) ∙ omega arith

pub cells_lent_laws : (p : Ptr) (room : ℕ) (xs : List ℕ) → ShrLaws (cells_lent p room xs)
cells_lent_laws (block_ptr b o) room xs = elements_shr_laws u8 (uint_row_laws w8) xs b o
cells_lent_laws null_ptr room xs = said_shr_laws (feq ℕ room 0) tt

module _ {M : Type 1} {𝓤 : Ura M} (𝓛 : Logic 𝓤) (l : Lft) (s : Shares 𝓛 u8 l) where
  Lends-row : (b o : ℕ) (xs : List ℕ) → Lends 𝓛 (row u8 full_share xs b o) (elements_shared u8 xs b o) l
  Lends-row b o [] = Lends-nothing 𝓛 ftrue l
  Lends-row b o (x ∷ xs) =
      Lends-both 𝓛 (part_at u8 full_share x b o) (row u8 full_share xs b (o + 1)) (shared_of u8 x b o) (elements_shared u8 xs b (o + 1)) l (λ κ ts. s x κ ts b o) (Lends-row b (o + 1) xs)

  pub Lends-cells : (p : Ptr) (room : ℕ) (xs : List ℕ) → Lends 𝓛 (cells_own p room xs) (cells_lent p room xs) l
  Lends-cells (block_ptr b o) room xs = Lends-first 𝓛 (row u8 full_share xs b o) (froom (bytes_type (room - length xs)) b (length xs + o)) (elements_shared u8 xs b o) l (Lends-row b o xs)
  Lends-cells null_ptr room xs = Lends-said 𝓛 (feq ℕ room 0) tt l

module _ {M : Type 1} {𝓤 : Ura M} (𝓛 : Logic 𝓤) where
  -- without a block no byte is made
  pub none_at_null : (room : ℕ) (xs : List ℕ) (i : ℕ) → i < length xs → length xs ≤ room → ent 𝓤 (sem 𝓛 (cells_own null_ptr room xs)) (never 𝓤)
  none_at_null room xs i inside fits = qed 𝓛 (‵ (feq ℕ room 0) ∷ []) ∵ feq_l ! (λ e. let none : i < 0 = omega arith in absurd (not-suc-le-zero none))

  -- without a block there is no room
  pub no_room_at_null : (room : ℕ) (xs : List ℕ) (i : ℕ) → i < room → ent 𝓤 (sem 𝓛 (cells_own null_ptr room xs)) (never 𝓤)
  no_room_at_null room xs i some = qed 𝓛 (‵ (feq ℕ room 0) ∷ []) ∵ feq_l ! (λ e. let none : i < 0 = omega arith in absurd (not-suc-le-zero none))

  -- the room behind the bytes begins with room for one more
  pub room_out : (room n b o : ℕ) → n < room → ent 𝓤 (sem 𝓛 (froom (bytes_type (room - n)) b (n + o))) (sep 𝓤 (sem 𝓛 (froom (ty_int w8) b (n + o))) (sem 𝓛 (froom (bytes_type (room - suc n)) b (suc n + o))))
  room_out room n b o some = qed 𝓛 (‵ (froom (bytes_type (room - n)) b (n + o)) ∷ []) ∵
      rewrite ! 0 (λ (k : ℕ). ‵ (froom (bytes_type k) b (n + o))) {x = suc (room - suc n)} (omega arith) refl $
      use1 𝓛 (‵ (froom (ty_int w8) b (n + o)) ⊛ ‵ (froom (bytes_type (room - suc n)) b (n + o + 1))) (𝓛.laws.room_uncons (ty_int w8) (room - suc n) b (n + o)) $ split ! $ move ! (1 ∷ []) $
      rewrite ! 0 (λ (k : ℕ). ‵ (froom (bytes_type (room - suc n)) b k)) {x = suc n + o} (omega arith) refl $ move ! (1 ∷ 0 ∷ []) $ done !

  pub row_snoc : (xs : List ℕ) (x b o : ℕ) → ent 𝓤 (sep 𝓤 (sem 𝓛 (row u8 full_share xs b o)) (sem 𝓛 (part_at u8 full_share x b (length xs + o)))) (sem 𝓛 (row u8 full_share (xs ++ x ∷ []) b o))
  row_snoc [] x b o = qed 𝓛 (‵ ftrue ∷ ‵ (part_at u8 full_share x b (0 + o)) ∷ []) ∵ rewrite ! 1 (λ (k : ℕ). ‵ (part_at u8 full_share x b k)) {x = o} (omega arith) refl $ move ! (1 ∷ 0 ∷ []) $ fjoin ! $ done !
  row_snoc (z ∷ zs) x b o = qed 𝓛 (‵ (row u8 full_share (z ∷ zs) b o) ∷ ‵ (part_at u8 full_share x b (suc (length zs) + o)) ∷ []) ∵ fsplit ! $ move ! (1 ∷ 2 ∷ []) $
      rewrite ! 1 (λ (k : ℕ). ‵ (part_at u8 full_share x b k)) {x = length zs + (o + 1)} (omega arith) refl $
      use2 𝓛 (‵ (row u8 full_share (zs ++ x ∷ []) b (o + 1))) (row_snoc zs x b (o + 1)) $ move ! (1 ∷ 0 ∷ []) $ fjoin ! $ done !

  -- the bytes as they were, with one of them in its place
  pub byte_out : (q : Share) (xs : List ℕ) (i b o : ℕ) → i < length xs → ent 𝓤 (sem 𝓛 (row u8 q xs b o)) (sep 𝓤 (sem 𝓛 (fat q (ty_int w8) b (i + o) (vint w8 (get_or xs i 0)))) (sem 𝓛 (others (shares u8) q xs i b o)))
  byte_out q xs i b o inside = qed 𝓛 (‵ (row u8 q xs b o) ∷ []) ∵
      use1 𝓛 (‵ (part_at u8 q (get_or xs i 0) b (place 1 o i)) ⊛ ‵ (others (shares u8) q xs i b o)) (takes (shares u8) q 𝓛 xs i 0 b o inside) $ split ! $
      rewrite ! 0 (λ (k : ℕ). ‵ (part_at u8 q (get_or xs i 0) b k)) (place_byte o i) refl $
      use1 𝓛 (‵ (fat q (ty_int w8) b (i + o) (vint w8 (get_or xs i 0)))) (uint_out 𝓛 q w8 (get_or xs i 0) b (i + o)) $ done !

  pub byte_back : (q : Share) (xs : List ℕ) (i b o : ℕ) → i < length xs → ent 𝓤 (sep 𝓤 (sem 𝓛 (fat q (ty_int w8) b (i + o) (vint w8 (get_or xs i 0)))) (sem 𝓛 (others (shares u8) q xs i b o))) (sem 𝓛 (row u8 q xs b o))
  byte_back q xs i b o inside = qed 𝓛 (‵ (fat q (ty_int w8) b (i + o) (vint w8 (get_or xs i 0))) ∷ ‵ (others (shares u8) q xs i b o) ∷ []) ∵
      use1 𝓛 (‵ (part_at u8 q (get_or xs i 0) b (i + o))) (uint_in 𝓛 q w8 (get_or xs i 0) b (i + o)) $
      rewrite ! 0 (λ (k : ℕ). ‵ (part_at u8 q (get_or xs i 0) b k)) (sym (place_byte o i)) refl $ by ! (puts_back (shares u8) q 𝓛 xs i 0 b o inside)

  -- another byte is put in its place
  pub byte_put : (xs : List ℕ) (i v b o : ℕ) → i < length xs → ent 𝓤 (sep 𝓤 (sem 𝓛 (fat full_share (ty_int w8) b (i + o) (vint w8 v))) (sem 𝓛 (others (shares u8) full_share xs i b o))) (sem 𝓛 (row u8 full_share (set xs i v) b o))
  byte_put xs i v b o inside = qed 𝓛 (‵ (fat full_share (ty_int w8) b (i + o) (vint w8 v)) ∷ ‵ (others (shares u8) full_share xs i b o) ∷ []) ∵
      use1 𝓛 (‵ (part_at u8 full_share v b (i + o))) (uint_in 𝓛 full_share w8 v b (i + o)) $
      rewrite ! 0 (λ (k : ℕ). ‵ (part_at u8 full_share v b k)) (sym (place_byte o i)) refl $ by ! (puts (shares u8) full_share 𝓛 xs i v b o inside)

  module _ (κ : Lft) where
    pub none_lent_at_null : (room : ℕ) (xs : List ℕ) (i : ℕ) → i < length xs → length xs ≤ room → ent 𝓤 (sem 𝓛 (cells_lent null_ptr room xs κ)) (never 𝓤)
    none_lent_at_null room xs i inside fits = qed 𝓛 (‵ (feq ℕ room 0) ∷ []) ∵ feq_l ! (λ e. let none : i < 0 = omega arith in absurd (not-suc-le-zero none))

    -- what a `&` to the cells holds: one to the pointer, and what is lent
    pub shown : (d : R.Denot) (b o : ℕ) → ent 𝓤 (sem 𝓛 (hidden_shr R κ d b o)) (sep 𝓤 (sem 𝓛 (hidden_shr RawPtr κ d.at b (o + 0))) (sem 𝓛 (cells_lent d.at d.room d.bytes κ)))
    shown d b o = qed 𝓛 (‵ (hidden_shr R κ d b o) ∷ []) ∵
        use1 𝓛 (‵ (hidden_shr (Struct (shape C.the_type)) κ (d.at, (d.room, tt)) b o) ⊛ ‵ (fhide (C.the_lent d d.at κ))) (lent_out 𝓛 C.struct C.the_codes C.the_heap C.the_lent κ d b o) $ split ! $
        unhide ! $ fsplit ! $ fsplit ! $ hide ! $ move ! (3 ∷ []) $ unhide ! $ keep ! (1 ∷ 0 ∷ []) $ done !

    seen_from : (xs : List ℕ) (i b o at : ℕ) → at ≡ i + o → ent 𝓤 (sem 𝓛 (elements_shared u8 xs b o κ)) (sem 𝓛 (elements_shared u8 (drop i xs) b at κ))
    seen_from xs zero b o at e = let same : o ≡ at = omega arith in subst (λ (k : ℕ). ent 𝓤 (sem 𝓛 (elements_shared u8 xs b o κ)) (sem 𝓛 (elements_shared u8 xs b k κ))) same (id⊢ 𝓤 _)
    seen_from [] (suc i) b o at e = qed 𝓛 (‵ (elements_shared u8 [] b o κ) ∷ []) ∵ keep ! [] $ done !
    seen_from (x ∷ xs) (suc i) b o at e =
        via 𝓤 (sem 𝓛 (elements_shared u8 xs b (o + 1) κ)) (snd∗ 𝓤 (sem 𝓛 (shared_of u8 x b o κ)) (sem 𝓛 (elements_shared u8 xs b (o + 1) κ))) (seen_from xs i b (o + 1) at (omega arith))

    seen_to : (xs : List ℕ) (n b o : ℕ) → ent 𝓤 (sem 𝓛 (elements_shared u8 xs b o κ)) (sem 𝓛 (elements_shared u8 (take n xs) b o κ))
    seen_to xs zero b o = qed 𝓛 (‵ (elements_shared u8 xs b o κ) ∷ []) ∵ keep ! [] $ done !
    seen_to [] (suc n) b o = qed 𝓛 (‵ (elements_shared u8 [] b o κ) ∷ []) ∵ keep ! [] $ done !
    seen_to (x ∷ xs) (suc n) b o = mono_r 𝓤 (sem 𝓛 (shared_of u8 x b o κ)) (seen_to xs n b (o + 1))

    pub run_seen : (xs : List ℕ) (i n b o : ℕ) → ent 𝓤 (sem 𝓛 (elements_shared u8 xs b o κ)) (sem 𝓛 (elements_shared u8 (take n (drop i xs)) b (i + o) κ))
    run_seen xs i n b o = via 𝓤 (sem 𝓛 (elements_shared u8 (drop i xs) b (i + o) κ)) (seen_from xs i b o (i + o) refl) (seen_to (drop i xs) n b (i + o))

module _ {M : Type 1} {𝓤 : Ura M} {𝓛 : Logic 𝓤} {K : Type 0} {Γ : List (Item 𝓤)} {G : Goal 𝓤 𝓛.H} where
  -- a pointer behind a `&` is looked at: the pointer, and the way back
  pub pointer_in : K → Soaks G → {κ : Lft} {q : Share} (p : Ptr) (pb po : ℕ) → p ≡ block_ptr pb po → (b at : ℕ)
      → ((q' : Share) → Seq K 𝓛 (‵ (fat q' ty_ptr b at (vptr pb po)) ∷ Shut 𝓛 κ q (part_at RawPtr q' p b at) ∷ Γ) G) → Seq K 𝓛 (‵ (hidden_shr RawPtr κ p b at) ∷ ‵ (flft κ q) ∷ Γ) G
  pointer_in t z p pb po is b at k =
      looks t z RawPtr (plain_Copied 𝓛 Ptr coded_ptr (ty_ptr ∷ []) ptr_own rawptr_pure ptr_val RawPtr-laws.tells).opens p b at (λ q' vs. move t (1 ∷ []) $ feq_l t (λ e.
      rewrite t 0 (λ (us : List Val). ‵ (cell_at q' RawPtr.mir us b at)) (e ∙ ap (λ (r : Ptr). ptr_val r ∷ []) is) refl $ move t (2 ∷ []) $ skip t $ k q'))

  pub pointer_out : K → Soaks G → {κ : Lft} {q q' : Share} (p : Ptr) (pb po : ℕ) → p ≡ block_ptr pb po → (b at : ℕ)
      → Step K 𝓛 (‵ (flft κ q) ∷ Γ) G (‵ (fat q' ty_ptr b at (vptr pb po)) ∷ Shut 𝓛 κ q (part_at RawPtr q' p b at) ∷ Γ) G
  pointer_out t z {q' = q'} p pb po is b at = step (λ s.
      feq_i t (List Val) (vptr pb po ∷ []) (ptr_val p ∷ []) (ap (λ (r : Ptr). ptr_val r ∷ []) (sym is)) $ move t (1 ∷ 0 ∷ []) $ shuts t z RawPtr q' p (vptr pb po ∷ []) b at $ s)

-- the machine value of cells, which what is owned tells, and which is made of nothing
abbrev pub cells_val : Ptr → ℕ → Val
cells_val p n = vstruct (vcons (ptr_val p) (vcons (vint w64 n) vnil))

abbrev pub cells_fields : Ptr → ℕ → List Val → Fml
cells_fields p n = (Struct (shape C.the_type)).own_val (p, (n, tt))

pub cells_told : (p : Ptr) (n : ℕ) (vs : List Val) → shadow (cells_fields p n vs) → (vs ≡ cells_val p n ∷ []) × (n < 2 ^ 64)
cells_told p n vs s = (s.1.0 ∙ (λ i. vstruct (of_list (s.1.1.0 i ++ (s.1.1.1.0.0 i ++ []))) ∷ []), s.1.1.1.0.1)

pub cells_made : {M : Type 1} {𝓤 : Ura M} (𝓛 : Logic 𝓤) (p : Ptr) (n : ℕ) → n < 2 ^ 64 → ent 𝓤 (emp 𝓤) (sem 𝓛 (cells_fields p n (cells_val p n ∷ [])))
cells_made 𝓛 p n f = makes_shadow 𝓛 (cells_fields p n (cells_val p n ∷ [])) (λ _. (tt, (tt, ((tt, tt), tt)))) ((ptr_val p ∷ [], (vint w64 n ∷ [], tt)), (refl, (refl, ((refl, f), tt))))

-- a struct by its fields alone: what it owns does not read its name
abbrev pub plainly : List RattleType → RattleType
plainly Rs = Struct (record { name = []; args = []; types = []; fields = Rs })

-- the same of a lease, which has no bytes
abbrev pub lease_val : Val
lease_val = vstruct (vcons (vstruct vnil) vnil)

abbrev pub lease_fields : List Val → Fml
lease_fields = (plainly (plainly [] ∷ [])).own_val (tt, tt)

pub lease_told : (vs : List Val) → shadow (lease_fields vs) → vs ≡ lease_val ∷ []
lease_told vs s = s.1.0 ∙ (λ i. vstruct (of_list (s.1.1.0.1.0 i ++ [])) ∷ [])

pub lease_made : {M : Type 1} {𝓤 : Ura M} (𝓛 : Logic 𝓤) → ent 𝓤 (emp 𝓤) (sem 𝓛 (lease_fields (lease_val ∷ [])))
lease_made 𝓛 = makes_shadow 𝓛 (lease_fields (lease_val ∷ [])) (λ _. (tt, ((λ _. (tt, tt)), tt))) ((vstruct vnil ∷ [], tt), (refl, ((tt, (refl, tt)), tt)))

-- a pair is made of its two values
abbrev pub pair_val : Val → Val → Val
pair_val u v = vstruct (vcons u (vcons v vnil))

pub pair_of : {M : Type 1} {𝓤 : Ura M} (𝓛 : Logic 𝓤) (X Y : RattleType) (x : X.Denot) (y : Y.Denot) (u v : Val)
    → ent 𝓤 (sep 𝓤 (sem 𝓛 (X.own_val x (u ∷ []))) (sem 𝓛 (Y.own_val y (v ∷ [])))) (sem 𝓛 ((Tuple (X ∷ Y ∷ [])).own_val (x, y) (pair_val u v ∷ [])))
pair_of 𝓛 X Y x y u v =
    qed 𝓛 (‵ (X.own_val x (u ∷ [])) ∷ ‵ (Y.own_val y (v ∷ [])) ∷ []) ∵ nothing ! $ move ! (2 ∷ 0 ∷ []) $ fjoin ! $ move ! (1 ∷ 0 ∷ []) $ fjoin ! $ feq_i ! (List Val) (pair_val u v ∷ []) (pair_val u v ∷ []) refl $ fjoin ! $
    fpack ! (Valss (X ∷ Y ∷ [])) (within (struct_shape (tuple_type (X ∷ Y ∷ []))) (x, (y, tt)) (pair_val u v ∷ [])) (u ∷ [], (v ∷ [], tt)) $ done !

abbrev pub slot_at : {n : ℕ} → ℕ → List (Slot n) → Slot n
slot_at k [] = plain (λ _. unit)
slot_at zero (s ∷ ss) = s
slot_at (suc k) (s ∷ ss) = slot_at k ss

module _ {M : Type 1} {𝓤 : Ura M} (𝓛 : Logic 𝓤) where
  open 𝓛 use {H}

  abbrev pub then_runs : Calls 𝓤 H → Loops 𝓤 H → Env 𝓤 H → Body → Post 𝓤 H → Post 𝓤 H
  then_runs C Λ E b q = any_q (after_seq 𝓤 H (Wp 𝓤 H C Λ E b (post 𝓤 H q)) (post 𝓤 H q))

  abbrev pub out_of_block : Post 𝓤 H → Post 𝓤 H
  out_of_block q = any_q (after_block 𝓤 H (post 𝓤 H q))

  -- a new block has room for all its bytes, and none of them is made
  pub room_made : (n b o : ℕ) → ent 𝓤 (sem 𝓛 (froom (bytes_type n) b o)) (sem 𝓛 (cells_own (block_ptr b o) n []))
  room_made n b o = qed 𝓛 (‵ (froom (bytes_type n) b o) ∷ []) ∵
      rewrite ! 0 (λ (k : ℕ × ℕ). ‵ (froom (bytes_type k.0) b k.1)) {x = (n - 0, 0 + o)} both refl $ nothing ! $ fjoin ! $ done !
    where
      both : ◌≡◌ {A = ℕ × ℕ} (n, o) (n - 0, 0 + o)
      both i = (less i, more i)
        where
          less : n ≡ n - 0
          less = omega arith

          more : o ≡ 0 + o
          more = omega arith

  -- the bytes and the room behind them are room again
  all_room : (xs : List ℕ) (rest b o n : ℕ) → length xs + rest ≡ n → ent 𝓤 (sep 𝓤 (sem 𝓛 (row u8 full_share xs b o)) (sem 𝓛 (froom (bytes_type rest) b (length xs + o)))) (sem 𝓛 (froom (bytes_type n) b o))
  all_room [] rest b o n e = qed 𝓛 (‵ ftrue ∷ ‵ (froom (bytes_type rest) b (0 + o)) ∷ []) ∵ skip ! $
      rewrite ! 0 (λ (k : ℕ). ‵ (froom (bytes_type rest) b k)) {x = o} (omega arith) refl $ rewrite ! 0 (λ (k : ℕ). ‵ (froom (bytes_type k) b o)) {x = n} (omega arith) refl $ done !
  all_room (x ∷ xs) rest b o n e = qed 𝓛 (‵ (row u8 full_share (x ∷ xs) b o) ∷ ‵ (froom (bytes_type rest) b (suc (length xs) + o)) ∷ []) ∵ fsplit ! $ move ! (1 ∷ 2 ∷ []) $
      rewrite ! 1 (λ (k : ℕ). ‵ (froom (bytes_type rest) b k)) {x = length xs + (o + 1)} (omega arith) refl $
      use2 𝓛 (‵ (froom (bytes_type (length xs + rest)) b (o + 1))) (all_room xs rest b (o + 1) (length xs + rest) refl) $ move ! (1 ∷ []) $
      use1 𝓛 (‵ (fat full_share (ty_int w8) b o (vint w8 x))) (uint_out 𝓛 full_share w8 x b o) $ use1 𝓛 (‵ (froom (ty_int w8) b o)) (𝓛.laws.at_room (ty_int w8) b o (vint w8 x)) $
      use2 𝓛 (‵ (froom (bytes_type (suc (length xs + rest))) b o)) (𝓛.laws.room_cons (ty_int w8) (length xs + rest) b o) $
      rewrite ! 0 (λ (k : ℕ). ‵ (froom (bytes_type k) b o)) {x = n} (omega arith) refl $ done !

  pub room_back : (room : ℕ) (xs : List ℕ) (b o : ℕ) → length xs ≤ room → ent 𝓤 (sem 𝓛 (cells_own (block_ptr b o) room xs)) (sem 𝓛 (froom (bytes_type room) b o))
  room_back room xs b o fits = qed 𝓛 (‵ (cells_own (block_ptr b o) room xs) ∷ []) ∵ fsplit ! $ by ! (all_room xs (room - length xs) b o room (omega arith))

  pub some_at_null : (room : ℕ) (xs : List ℕ) → 0 < room → ent 𝓤 (sem 𝓛 (cells_own null_ptr room xs)) (never 𝓤)
  some_at_null room xs some = no_room_at_null 𝓛 room xs 0 some
