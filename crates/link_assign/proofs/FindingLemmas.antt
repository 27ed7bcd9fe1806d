-- What is found of selections one by one, and of the first of several lists that has any.
use Rattle.std.proofs.Common.{◌≡◌, ℕ, Bool, true, false, cond, List, [], ◌∷◌, refl, ap, ◌∙◌}
use Rattle.std.specs.List.{filter}
use Rattle.place_model.specs.Assignment.{Offer, first_filled, found}
use Rattle.link_assign.specs.declared.finding.Finding.{Finding}
use Rattle.link_assign.specs.declared.finding.Finding.TheVariants as finding
use Rattle.link_assign.specs.Finding.{told, joined}
use Rattle.link_assign.specs.Index.{joined_if, or_else}

-- what is found with more selections
abbrev pub after : Finding → List Offer → Finding
after f [] = f
after f (o ∷ os) = after (joined f o) os

after_two : (first second : ℕ) (os : List Offer) → after (finding.Unclear first second) os ≡ finding.Unclear first second
after_two first second [] = refl
after_two first second (o ∷ os) = after_two first second os

pub after_all : (os : List Offer) → after finding.Nowhere os ≡ told (found os)
after_all [] = refl
after_all (o ∷ []) = refl
after_all (o ∷ p ∷ os) = after_two o.selection.line p.selection.line os

after_more : (same : Bool) (f : Finding) (o : Offer) (os : List Offer) → after (joined_if same f o) os ≡ after f (cond same (o ∷ os) os)
after_more true f o os = refl
after_more false f o os = refl

-- where it passes the test of a key
pub after_one : (passes : Offer → Bool) (f g : Finding) (o : Offer) (rest : List Offer) → g ≡ joined_if (passes o) f o → after g (filter passes rest) ≡ after f (filter passes (o ∷ rest))
after_one passes f g o rest e = ap (λ h. after h (filter passes rest)) e ∙ after_more (passes o) f o (filter passes rest)

-- ---- of several lists

told_first : (os : List Offer) (rest : List (List Offer)) → told (found (first_filled (os ∷ rest))) ≡ or_else (told (found os)) (told (found (first_filled rest)))
told_first [] rest = refl
told_first (o ∷ []) rest = refl
told_first (o ∷ p ∷ os) rest = refl

or_nowhere : (f : Finding) → or_else f finding.Nowhere ≡ f
or_nowhere finding.Nowhere = refl
or_nowhere (finding.Within pick) = refl
or_nowhere (finding.Unclear first second) = refl

or_joins : (f g h : Finding) → or_else f (or_else g h) ≡ or_else (or_else f g) h
or_joins finding.Nowhere g h = refl
or_joins (finding.Within pick) g h = refl
or_joins (finding.Unclear first second) g h = refl

pub told_of_four : (os ps qs rs : List Offer) → told (found (first_filled (os ∷ ps ∷ qs ∷ rs ∷ []))) ≡ or_else (or_else (told (found os)) (told (found ps))) (or_else (told (found qs)) (told (found rs)))
told_of_four os ps qs rs =
    let f = told (found os) in
    let g = told (found ps) in
    let h = told (found qs) in
    told_first os (ps ∷ qs ∷ rs ∷ []) ∙ ap (or_else f) (told_first ps (qs ∷ rs ∷ []) ∙ ap (or_else g) (told_first qs (rs ∷ []) ∙ ap (or_else h) (told_first rs [] ∙ or_nowhere (told (found rs)))))
    ∙ or_joins f g (or_else h (told (found rs)))
