-- A text of records as an image: what its reader gives, and memory that then holds what the text tells.
use Rattle.std.proofs.Common.{◌≡◌, ℕ, ◌-◌, ◌<◌, ◌≤◌, ◌⊎◌, inl, inr, Bool, true, false, cond, List, [], ◌∷◌, ◌++◌, map, Option, Some, None, refl, sym, ap, ◌∙◌, subst}
use Rattle.std.specs.Prelude.{slice_index, unwrap_or}
use Rattle.std.specs.List.{AllByRecursion}
use Rattle.std.proofs.lemmas.Bool.{and_from, le-leb, lt-ltb}
use Rattle.base_lemmas.proofs.BaseLemmas.{all_back, all_front}
use Rattle.arm7_model.specs.Memory.{Bytes, store}
use Rattle.arm7_model.proofs.MemoryLemmas.{below_or_not, store-above, store-below, store-in}
use Rattle.hex_image.specs.declared.records.Piece.{Piece}
use Rattle.hex_image.specs.Images.{AreApart, EachApart, end_of, holds, told}
use Rattle.hex_image.proofs.ToldLemmas.{parts_of}
use Rattle.run_opening.specs.Openings.{loaded}
use Rattle.tool_run.specs.Burned.{BurnLoadLaw, load_of}

-- ---- memory

-- an address of a piece is none of those that are apart from it
none_told : (ps before : List Piece) (p : Piece) (a : ℕ) → ((q : Piece) → AllByRecursion (AreApart q) before → AreApart q p) → EachApart before ps
    → holds a p ≡ true → told ps a ≡ None
none_told [] before p a one h e = refl
none_told (q ∷ qs) before p a one h e =
    go (holds a q) refl (none_told qs (before ++ q ∷ []) p a (λ x all. one x (all_front (AreApart x) before (q ∷ []) all)) h.1 e)
  where
    go : (t : Bool) → holds a q ≡ t → told qs a ≡ None → cond t (Some (slice_index q.bytes (a - q.base))) (told qs a) ≡ None
    go true f rest = absurd (one q h.0 a f e)
    go false f rest = rest

off_piece : (m : Bytes) (p : Piece) (a : ℕ) → holds a p ≡ false → store m p.base p.bytes a ≡ m a
off_piece m p a h = go (below_or_not a p.base) (below_or_not a (end_of p))
  where
    go : (a < p.base) ⊎ (p.base ≤ a) → (a < end_of p) ⊎ (end_of p ≤ a) → store m p.base p.bytes a ≡ m a
    go (inl lt) other = store-below m p.base p.bytes a lt
    go (inr le) (inl lt) = absurd (let there : holds a p ≡ true = and_from _ _ (le-leb _ _ le) (lt-ltb _ _ lt) in let bad : true ≡ false = sym there ∙ h in cc)
    go (inr le) (inr above) = store-above m p.base p.bytes a above

pieces_load : (ps before : List Piece) (m : Bytes) (a : ℕ) → EachApart before ps → loaded m (map load_of ps) a ≡ unwrap_or (told ps a) (m a)
pieces_load [] before m a h = refl
pieces_load (p ∷ ps) before m a h =
    pieces_load ps (before ++ p ∷ []) (store m p.base p.bytes) a h.1 ∙ go (holds a p) refl
  where
    go : (t : Bool) → holds a p ≡ t
        → unwrap_or (told ps a) (store m p.base p.bytes a) ≡ unwrap_or (cond t (Some (slice_index p.bytes (a - p.base))) (told ps a)) (m a)
    go true e =
        let (lo, hi) = parts_of a p e in
        ap (λ (o : Option ℕ). unwrap_or o (store m p.base p.bytes a))
        (none_told ps (before ++ p ∷ []) p a (λ q all. (all_back (AreApart q) before (p ∷ []) all).0) h.1 e)
        ∙ store-in m p.base p.bytes a lo hi
    go false e = ap (λ (x : ℕ). unwrap_or (told ps a) x) (off_piece m p a e)

pub burn_loads : BurnLoadLaw
burn_loads form text b h a = pieces_load b.pieces [] (λ x. 0) a (subst (EachApart []) (sym h.pieces) h.once)
