-- Texts that are appended in turn.
use Rattle.std.proofs.Common.{◌≡◌, ℕ, List, ◌++◌, ap, ◌∙◌, append_assoc}

abbrev pub Grows : List ℕ → List ℕ → List ℕ → Type 0
Grows o p a = p ≡ o ++ a

pub then : (o p q a rest : List ℕ) → Grows o p a → Grows p q rest → Grows o q (a ++ rest)
then o p q a rest first more = more ∙ ap (λ l. l ++ rest) first ∙ append_assoc o a rest

pub same_text : (o p a b : List ℕ) → Grows o p a → a ≡ b → Grows o p b
same_text o p a b e same = e ∙ ap (λ l. o ++ l) same

-- seven texts
pub in_turn : (o p q r s t u v a b c d e f g : List ℕ) → Grows o p a → Grows p q b → Grows q r c → Grows r s d → Grows s t e → Grows t u f → Grows u v g
    → Grows o v (a ++ (b ++ (c ++ (d ++ (e ++ (f ++ g))))))
in_turn o p q r s t u v a b c d e f g first second third fourth fifth sixth last =
    then o p v a (b ++ (c ++ (d ++ (e ++ (f ++ g))))) first
    (then p q v b (c ++ (d ++ (e ++ (f ++ g)))) second
    (then q r v c (d ++ (e ++ (f ++ g))) third
    (then r s v d (e ++ (f ++ g)) fourth
    (then s t v e (f ++ g) fifth
    (then t u v f g sixth last)))))

-- and eight
pub then_in_turn : (o p q r s t u v w a b c d e f g h : List ℕ) → Grows o p a → Grows p q b → Grows q r c → Grows r s d → Grows s t e → Grows t u f → Grows u v g → Grows v w h
    → Grows o w (a ++ (b ++ (c ++ (d ++ (e ++ (f ++ (g ++ h)))))))
then_in_turn o p q r s t u v w a b c d e f g h first second third fourth fifth sixth seventh last =
    then o p w a (b ++ (c ++ (d ++ (e ++ (f ++ (g ++ h)))))) first (in_turn p q r s t u v w b c d e f g h second third fourth fifth sixth seventh last)
