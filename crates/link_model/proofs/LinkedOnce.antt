-- The least sets are one set, so at most one list of objects is linked, whatever the objects are called.
use Rattle.std.proofs.Common.{◌≡◌, ℕ, suc, Bool, true, false, cond, List, [], ◌∷◌, ◌++◌, map, refl, sym, ap, ◌∙◌, subst}
use Rattle.std.proofs.lemmas.List.{map-append}
use Rattle.aof_object.specs.declared.records.Object.{Object}
use Rattle.link_model.specs.declared.selection.Named.{Named}
use Rattle.link_model.specs.Members.{members_of, objects_in}
use Rattle.link_model.specs.Chosen.{LinkedLaw, NamelessLaw, AreChosen, taken}
use Rattle.base_lemmas.proofs.BaseLemmas.{both as same_bool}

same_choice : (objects members : List Object) (one other : ℕ → Bool) → AreChosen objects members one → AreChosen objects members other → ◌≡◌ {A = ℕ → Bool} one other
same_choice objects members one other a b =
    let each : (k : ℕ) → one k ≡ other k = λ k. same_bool (one k) (other k) (a.least other b.closed k) (b.least one a.closed k) in
    λ i k. each k i

pub linked_once : LinkedLaw
linked_once objects archives one other a b =
    let whole = same_choice (objects_in objects) (objects_in (members_of archives)) a.chosen b.chosen a.are_chosen b.are_chosen in
    a.in_order ∙ ap (λ (c : ℕ → Bool). objects ++ taken c 0 (members_of archives)) whole ∙ sym b.in_order

taken_values : (chosen : ℕ → Bool) (i : ℕ) (os : List (Named Object)) → objects_in (taken chosen i os) ≡ taken chosen i (objects_in os)
taken_values chosen i [] = refl
taken_values chosen i (o ∷ os) = by (chosen i) (taken_values chosen (suc i) os)
  where
    by : (b : Bool) → objects_in (taken chosen (suc i) os) ≡ taken chosen (suc i) (objects_in os)
        → objects_in (cond b (o ∷ taken chosen (suc i) os) (taken chosen (suc i) os)) ≡ cond b (o.value ∷ taken chosen (suc i) (objects_in os)) (taken chosen (suc i) (objects_in os))
    by true h = ap (λ (l : List Object). o.value ∷ l) h
    by false h = h

linked_values : (objects members linked : List (Named Object)) (chosen : ℕ → Bool) → linked ≡ objects ++ taken chosen 0 members
    → objects_in linked ≡ objects_in objects ++ taken chosen 0 (objects_in members)
linked_values objects members linked chosen e =
    ap objects_in e ∙ map-append (λ (o : Named Object). o.value) objects (taken chosen 0 members) ∙ ap (λ (l : List Object). objects_in objects ++ l) (taken_values chosen 0 members)

pub nameless : NamelessLaw
nameless objects others archives libraries one other same members a b =
    let whole = same_choice (objects_in objects) (objects_in (members_of archives)) a.chosen b.chosen a.are_chosen
    (subst (λ (l : List Object). AreChosen l (objects_in (members_of archives)) b.chosen) (sym same)
    (subst (λ (l : List Object). AreChosen (objects_in others) l b.chosen) (sym members) b.are_chosen)) in
    linked_values objects (members_of archives) one a.chosen a.in_order
    ∙ ap (λ (c : ℕ → Bool). objects_in objects ++ taken c 0 (objects_in (members_of archives))) whole
    ∙ (λ i. same i ++ taken b.chosen 0 (members i)) ∙ sym (linked_values others (members_of libraries) other b.chosen b.in_order)
