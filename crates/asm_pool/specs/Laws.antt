-- What the definition of pools says in plain words. This project's.
use Rattle.std.specs.Prelude.{◌≡◌, ◌≢◌, ◌↔◌, ℕ, ◌+◌, ◌*◌, ◌<◌, ◌≤◌, List, [], ◌∷◌, length, slice_get, Some, None}
use Rattle.asm_model.specs.declared.values.Value.{Value}
use Rattle.asm_pool.specs.Pooled.{Pooled, noted, flushed, place_of, literals_of}

-- the pools after literals, noted one after the other
abbrev pub after : List Value → Pooled → Pooled
after [] p = p
after (v ∷ vs) p = after vs (noted v p).1

pub record PoolLaw : Type 0 where
  -- the entry of a literal has that literal
  pub literal : (v : Value) (p : Pooled) → slice_get (literals_of (noted v p).1) (noted v p).0 ≡ Some v
  -- until the next pool it has the same entry again, and another literal has another
  pub again : (v : Value) (ws : List Value) (p : Pooled) → (noted v (after ws (noted v p).1)).0 ≡ (noted v p).0
  pub apart : (v w : Value) (ws : List Value) (p : Pooled) → v ≢ w → (noted w (after ws (noted v p).1)).0 ≢ (noted v p).0
  -- behind a pool it has a new one
  pub new : (v : Value) (offset : ℕ) (p : Pooled) → (noted v (flushed offset p)).0 ≡ length (literals_of p)
  -- a pool keeps the entries, and places those that wait one after the other
  pub kept : (offset : ℕ) (p : Pooled) → literals_of (flushed offset p) ≡ literals_of p
  pub words : (offset i : ℕ) (p : Pooled) → i < length p.waiting → place_of (length p.placed + i) (flushed offset p) ≡ Some (offset + 4 * i)
  pub stays : (entry offset : ℕ) (p : Pooled) → entry < length p.placed → place_of entry (flushed offset p) ≡ place_of entry p
  -- no other entry has a place
  pub unplaced : (entry : ℕ) (p : Pooled) → (place_of entry p ≡ None) ↔ (length p.placed ≤ entry)
