-- What stands in an area is what its lines put there, one line behind the other.
use Rattle.std.proofs.Common.{◌≡◌, ℕ, List, [], ◌∷◌, ◌++◌, Bool, true, false, cond, refl, sym, ap, subst, Option, Some, None, ◌⊎◌, inl, inr}
use Rattle.std.proofs.lemmas.Bool.{cond-true, eqb-true}
use Rattle.asm_model.specs.declared.statements.Statement.{Statement}
use Rattle.asm_model.specs.Laid.{LaidLine, taken, pieces_of, laid}
use Rattle.asm_model.specs.Marks.{datum_names}
use Rattle.asm_model.specs.Offsets.{is_of, all_pooled}
use Rattle.asm_model.proofs.OffsetLemmas.{is_here}
use Rattle.source_model.specs.Objects.{Piece, pieces_in, source_of, in_order, things_of, things_behind, words_of, IsAmong, StandsIn}
use Rattle.source_model.specs.SourceFaults.{word_of}
use Rattle.source_laws.specs.Laws.{context_behind}

pub among_either : (p : Piece) (xs ys : List Piece) → IsAmong p (xs ++ ys) → IsAmong p xs ⊎ IsAmong p ys
among_either p [] ys h = inr h
among_either p (x ∷ xs) ys (inl e) = inl (inl e)
among_either p (x ∷ xs) ys (inr h) = elim (among_either p xs ys h) [ inl k ↦ inl (inr k) | inr k ↦ inr k ]

pub among_first : (p : Piece) (xs ys : List Piece) → IsAmong p xs → IsAmong p (xs ++ ys)
among_first p [] ys h = absurd h
among_first p (x ∷ xs) ys (inl e) = inl e
among_first p (x ∷ xs) ys (inr h) = inr (among_first p xs ys h)

pub among_last : (p : Piece) (xs ys : List Piece) → IsAmong p ys → IsAmong p (xs ++ ys)
among_last p [] ys h = h
among_last p (x ∷ xs) ys h = inr (among_last p xs ys h)

-- what a line puts into its area
abbrev pub own_things : List Statement → LaidLine → List LaidLine → List LaidLine → List Piece
own_things ss l before rest =
    pieces_in (context_behind ss l before) (datum_names ss) l (word_of l.area (taken l.extent) (pieces_of (l ∷ before)) (pieces_of rest))

pub owned : (area : ℕ) (o : Option ℕ) → is_of area o ≡ true → o ≡ Some area
owned area None h = absurd (cc)
owned area (Some a) h = ap Some (eqb-true a area h)

listed_there : (ss : List Statement) (area : ℕ) (p : Piece) (after before rest : List LaidLine) (l : LaidLine) → l.area ≡ Some area
    → IsAmong p (own_things ss l before (in_order after rest)) → IsAmong p (things_behind (source_of ss) area (after ++ l ∷ before) rest)
listed_there ss area p [] before rest l here h =
    among_last p (things_behind (source_of ss) area before (l ∷ rest)) (things_of (source_of ss) area l before rest)
    (subst (IsAmong p) (sym (cond-true (is_of area l.area) (own_things ss l before rest) [] (is_here area l.area here))) h)
listed_there ss area p (x ∷ after) before rest l here h =
    among_first p (things_behind (source_of ss) area (after ++ l ∷ before) (x ∷ rest)) (things_of (source_of ss) area x (after ++ l ∷ before) rest)
    (listed_there ss area p after before (x ∷ rest) l here h)

-- the line of a thing among these
pub record Owner (ss : List Statement) (area : ℕ) (p : Piece) (lines rest : List LaidLine) : Type 0 where
  pub owner : LaidLine
  pub after : List LaidLine
  pub before : List LaidLine
  pub parts : lines ≡ after ++ owner ∷ before
  pub own : owner.area ≡ Some area
  pub among : IsAmong p (own_things ss owner before (in_order after rest))

owner_among : (ss : List Statement) (area : ℕ) (p : Piece) (lines rest : List LaidLine) → IsAmong p (things_behind (source_of ss) area lines rest)
    → Owner ss area p lines rest
owner_among ss area p [] rest h = absurd h
owner_among ss area p (l ∷ before) rest h =
    elim (among_either p (things_behind (source_of ss) area before (l ∷ rest)) (things_of (source_of ss) area l before rest) h)
    [ inl k ↦ earlier (owner_among ss area p before (l ∷ rest) k) | inr k ↦ here (is_of area l.area) refl k ]
  where
    here : (b : Bool) → is_of area l.area ≡ b → IsAmong p (cond b (own_things ss l before rest) []) → Owner ss area p (l ∷ before) rest
    here true e k = record { owner = l; after = []; before = before; parts = refl; own = owned area l.area e; among = k }
    here false e k = absurd k

    earlier : Owner ss area p before (l ∷ rest) → Owner ss area p (l ∷ before) rest
    earlier o = record {
      owner = o.owner;
      after = l ∷ o.after;
      before = o.before;
      parts = ap (λ z. l ∷ z) o.parts;
      own = o.own;
      among = o.among;
    }

-- a unit that a line puts itself
abbrev pub OwnUnit : List Statement → ℕ → Piece → Type 0
OwnUnit ss area p = Owner ss area p (laid ss) []

pub owner_of : (ss : List Statement) (area : ℕ) (p : Piece) → IsAmong p (things_behind (source_of ss) area (laid ss) []) → OwnUnit ss area p
owner_of ss area p h = owner_among ss area p (laid ss) [] h

pub line_thing : (ss : List Statement) (area : ℕ) (p : Piece) (after before : List LaidLine) (l : LaidLine) → laid ss ≡ after ++ l ∷ before → l.area ≡ Some area
    → IsAmong p (own_things ss l before (in_order after [])) → StandsIn (source_of ss) area p
line_thing ss area p after before l e here h =
    among_first p (things_behind (source_of ss) area (laid ss) []) (words_of (source_of ss) area (all_pooled area (pieces_of (laid ss))))
    (subst (λ z. IsAmong p (things_behind (source_of ss) area z [])) (sym e) (listed_there ss area p after before [] l here h))
