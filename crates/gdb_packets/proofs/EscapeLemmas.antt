-- Escapes are read as what they spell.
use Rattle.std.proofs.Common.{◌≡◌, ◌≢◌, ℕ, ◌==◌, ◌||◌, ◌&&◌, not, Bool, true, false, cond, bit_xor, List, [], ◌∷◌, refl, ap, ap₂, sym, ◌∙◌, subst, eq-eqb, ne_eqb, true≢false}
use Rattle.std.specs.List.{list_all}
use Rattle.std.proofs.lemmas.Bool.{eqb-true}
use Rattle.gdb_packets.specs.Fields.{unescaped}
use Rattle.gdb_packets.specs.Heard.{IsContent, is_plain}
use Rattle.gdb_packets.specs.Escapes as escapes
use Rattle.gdb_packets.specs.Escapes.{Spells, escaped, must, ReadsEscapes}

reads : {text bytes : List ℕ} → Spells text bytes → unescaped false text ≡ bytes
reads escapes.none = refl
reads (escapes.plain {text} b other s) =
    ap (λ (c : Bool). cond c (unescaped true text) (b ∷ unescaped false text)) (ne_eqb b 125 other) ∙ ap (λ (x : List ℕ). b ∷ x) (reads s)
reads (escapes.changed b s) = ap (λ (x : List ℕ). bit_xor b 32 ∷ x) (reads s)

abbrev IsSpelled : List ℕ → List ℕ → Type 0
IsSpelled text bytes = Spells text bytes × IsContent text

byte_spelled : (b : ℕ) (text rest : List ℕ) → IsSpelled text rest
    → IsSpelled (cond (must b) (125 ∷ bit_xor b 32 ∷ text) (b ∷ text)) (b ∷ rest)
byte_spelled b text rest s = by (b == 35) (b == 36) (b == 42) (b == 125) refl refl refl refl
  where
    other : (k : ℕ) → (b == k) ≡ false → b ≢ k
    other k e = λ g. true≢false (sym (eq-eqb b k g) ∙ e)

    same : (k : ℕ) → (b == k) ≡ true → IsSpelled (125 ∷ bit_xor k 32 ∷ text) (k ∷ rest) → IsSpelled (125 ∷ bit_xor b 32 ∷ text) (b ∷ rest)
    same k e t = subst (λ (x : ℕ). IsSpelled (125 ∷ bit_xor x 32 ∷ text) (x ∷ rest)) (sym (eqb-true b k e)) t

    by : (x y z w : Bool) → (b == 35) ≡ x → (b == 36) ≡ y → (b == 42) ≡ z → (b == 125) ≡ w
        → IsSpelled (cond (x || y || z || w) (125 ∷ bit_xor b 32 ∷ text) (b ∷ text)) (b ∷ rest)
    by true y z w e f g h = same 35 e (escapes.changed 3 s.0, s.1)
    by false true z w e f g h = same 36 f (escapes.changed 4 s.0, s.1)
    by false false true w e f g h = same 42 g (escapes.changed 10 s.0, s.1)
    by false false false true e f g h = same 125 h (escapes.changed 93 s.0, s.1)
    by false false false false e f g h =
        (escapes.plain b (other 125 h) s.0, ap₂ (λ (x y : Bool). (not x && not y) && list_all is_plain text) f e ∙ s.1)

spelled : (bytes : List ℕ) → IsSpelled (escaped bytes) bytes
spelled [] = (escapes.none, refl)
spelled (b ∷ rest) = byte_spelled b (escaped rest) rest (spelled rest)

pub reads_escapes : ReadsEscapes
reads_escapes = (λ text bytes s. reads s, spelled)
