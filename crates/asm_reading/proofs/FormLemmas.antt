-- The tokens of operands have their forms.
use Rattle.std.proofs.Common.{◌≡◌, ℕ, zero, suc, ◌-◌, ◌==◌, ◌&&◌, List, [], ◌∷◌, ◌++◌, length, take, Bool, true, false, cond, refl, Option, Some, None}
use Rattle.std.specs.Prelude.{codes}
use Rattle.asm_model.specs.declared.tokens.Token.{Token}
use Rattle.asm_model.specs.Forms.{same}
use Rattle.asm_model.specs.Operands.{lengthened, depth_behind, operands_at, operands}
use Rattle.asm_model.specs.Parts.{piece}
use Rattle.asm_reading.proofs.TokenLemmas.{EachHasForm}
use Rattle.asm_arm.specs.Addresses.{bracketed}
use Rattle.asm_arm.specs.Operands.{Cuts, none, one, two, three, four, more, cut, without_first, last_piece, front, without_last, marked, between}

abbrev pub AllHaveForm : List ℕ → List (List Token) → Type 0
AllHaveForm text [] = Unit {0}
AllHaveForm text (o ∷ os) = EachHasForm text o × AllHaveForm text os

abbrev pub CutsHaveForm : List ℕ → Cuts → Type 0
CutsHaveForm text none = Unit {0}
CutsHaveForm text (one a) = EachHasForm text a
CutsHaveForm text (two a b) = EachHasForm text a × EachHasForm text b
CutsHaveForm text (three a b c) = EachHasForm text a × EachHasForm text b × EachHasForm text c
CutsHaveForm text (four a b c d) = EachHasForm text a × EachHasForm text b × EachHasForm text c × EachHasForm text d
CutsHaveForm text more = Unit {0}

abbrev pub SomeHaveForm : List ℕ → Option (List Token) → Type 0
SomeHaveForm text None = Unit {0}
SomeHaveForm text (Some ts) = EachHasForm text ts

-- ---- operands

pub joined_form : (text : List ℕ) (us ts : List Token) → EachHasForm text us → EachHasForm text ts → EachHasForm text (us ++ ts)
joined_form text [] ts h k = k
joined_form text (u ∷ us) ts h k = (h.0, joined_form text us ts h.1 k)

pub lengthened_form : (text : List ℕ) (us : List Token) (os : List (List Token)) → EachHasForm text us → AllHaveForm text os
    → AllHaveForm text (lengthened us os)
lengthened_form text us [] h k = (h, tt)
lengthened_form text us (o ∷ os) h k = (joined_form text us o h k.0, k.1)

pub either_form : (text : List ℕ) (b : Bool) (os us : List (List Token)) → AllHaveForm text os → AllHaveForm text us → AllHaveForm text (cond b os us)
either_form text true os us h k = h
either_form text false os us h k = k

pub operands_at_form : (text : List ℕ) (depth : ℕ) (ts : List Token) → EachHasForm text ts → AllHaveForm text (operands_at text depth ts)
operands_at_form text depth [] h = (tt, tt)
operands_at_form text depth (t ∷ ts) h =
    let behind = depth_behind depth (piece text t) in
    either_form text (depth == 0 && same (piece text t) (codes ",")) ([] ∷ operands_at text 0 ts) (lengthened (t ∷ []) (operands_at text behind ts))
    (tt, operands_at_form text 0 ts h.1)
    (lengthened_form text (t ∷ []) (operands_at text behind ts) (h.0, tt) (operands_at_form text behind ts h.1))

pub operands_form : (text : List ℕ) (ts : List Token) → EachHasForm text ts → AllHaveForm text (operands text ts)
operands_form text [] h = tt
operands_form text (t ∷ ts) h = operands_at_form text 0 (t ∷ ts) h

pub cut_form : (text : List ℕ) (os : List (List Token)) → AllHaveForm text os → CutsHaveForm text (cut os)
cut_form text [] h = tt
cut_form text (a ∷ []) h = h.0
cut_form text (a ∷ b ∷ []) h = (h.0, h.1.0)
cut_form text (a ∷ b ∷ c ∷ []) h = (h.0, h.1.0, h.1.1.0)
cut_form text (a ∷ b ∷ c ∷ d ∷ []) h = (h.0, h.1.0, h.1.1.0, h.1.1.1.0)
cut_form text (a ∷ b ∷ c ∷ d ∷ e ∷ os) h = tt

pub cuts_form : (text : List ℕ) (ts : List Token) → EachHasForm text ts → CutsHaveForm text (cut (operands text ts))
cuts_form text ts h = cut_form text (operands text ts) (operands_form text ts h)

-- ---- signs in front and behind

pub without_first_form : (text sign : List ℕ) (ts : List Token) → EachHasForm text ts → SomeHaveForm text (without_first text sign ts)
without_first_form text sign [] h = tt
without_first_form text sign (t ∷ ts) h = by_test (same (piece text t) sign)
  where
    by_test : (b : Bool) → SomeHaveForm text (cond b (Some ts) None)
    by_test true = h.1
    by_test false = tt

pub take_form : (text : List ℕ) (n : ℕ) (ts : List Token) → EachHasForm text ts → EachHasForm text (take n ts)
take_form text zero ts h = tt
take_form text (suc n) [] h = tt
take_form text (suc n) (t ∷ ts) h = (h.0, take_form text n ts h.1)

pub without_last_form : (text sign : List ℕ) (ts : List Token) → EachHasForm text ts → SomeHaveForm text (without_last text sign ts)
without_last_form text sign ts h = by_test (same (last_piece text ts) sign)
  where
    by_test : (b : Bool) → SomeHaveForm text (cond b (Some (front ts)) None)
    by_test true = take_form text (length ts - 1) ts h
    by_test false = tt

pub marked_form : (text mark : List ℕ) (ts : List Token) → EachHasForm text ts → EachHasForm text (marked text mark ts).0
marked_form text mark ts h = by_test (same (last_piece text ts) mark)
  where
    by_test : (b : Bool) → EachHasForm text (cond {A = List Token × Bool} b (front ts, true) (ts, false)).0
    by_test true = take_form text (length ts - 1) ts h
    by_test false = h

pub between_form : (text left right : List ℕ) (ts : List Token) → EachHasForm text ts → SomeHaveForm text (between text left right ts)
between_form text left right ts h = by_front (without_first text left ts) refl (without_first_form text left ts h)
  where
    by_front : (o : Option (List Token)) → without_first text left ts ≡ o → SomeHaveForm text o → SomeHaveForm text (between text left right ts)
    by_front None e k = rw e tt
    by_front (Some us) e k = rw e (without_last_form text right us k)

pub bracketed_form : (text : List ℕ) (ts : List Token) → EachHasForm text ts → SomeHaveForm text (bracketed text ts).0
bracketed_form text ts h = between_form text (codes "[") (codes "]") (marked text (codes "!") ts).0 (marked_form text (codes "!") ts h)
