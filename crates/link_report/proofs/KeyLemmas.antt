-- A key that is the same stands for the same.
use Rattle.std.proofs.Common.{◌≡◌, ℕ, ◌+◌, Bool, true, false, not, ◌&&◌, ◌==◌, if◌then◌else◌, List, Option, Some, None, refl, sym, ap, ◌∙◌}
use Rattle.std.specs.Prelude.{is_some}
use Rattle.std.specs.Borrow.{Bor}
use Rattle.std.specs.Str.{bytes_eq}
use Rattle.std.proofs.lemmas.Slice.Eq.{bytes_eq-Decides}
use Rattle.place_model.specs.declared.scatter.Choice.{Choice}
use Rattle.place_model.specs.declared.scatter.Choice.TheVariants as choice
use Rattle.place_model.specs.declared.scatter.Selection.{Selection}
use Rattle.link_report.specs.declared.selections.Key.{Key}
use Rattle.link_report.specs.declared.selections.Sought.{Sought}
use Rattle.link_report.specs.declared.selections.Sought.TheVariants as sought
use Rattle.place_model.specs.Keys.{same_choice, same_module}
use Rattle.link_report.specs.Keys.{choice_in, home_in, is_alike, same_home, same_key, same_sought, selection_at}

-- ---- what keys stand for

home_plain : (h g : Option (Bor (List ℕ))) → same_home h g ≡ same_module (home_in h) (home_in g)
home_plain None None = refl
home_plain None (Some g) = refl
home_plain (Some h) None = refl
home_plain (Some h) (Some g) = refl

sought_plain : (s t : Sought) → same_sought s t ≡ same_choice (choice_in s) (choice_in t)
sought_plain (sought.Named n) (sought.Named m) = refl
sought_plain (sought.Named n) sought.Ro = refl
sought_plain (sought.Named n) sought.Rw = refl
sought_plain (sought.Named n) sought.Zi = refl
sought_plain sought.Ro (sought.Named m) = refl
sought_plain sought.Ro sought.Ro = refl
sought_plain sought.Ro sought.Rw = refl
sought_plain sought.Ro sought.Zi = refl
sought_plain sought.Rw (sought.Named m) = refl
sought_plain sought.Rw sought.Ro = refl
sought_plain sought.Rw sought.Rw = refl
sought_plain sought.Rw sought.Zi = refl
sought_plain sought.Zi (sought.Named m) = refl
sought_plain sought.Zi sought.Ro = refl
sought_plain sought.Zi sought.Rw = refl
sought_plain sought.Zi sought.Zi = refl

both : (a b c d : Bool) → a ≡ c → b ≡ d → (a && b) ≡ (c && d)
both a b c d p q = rw (p, q) refl

pub key_plain : (k q : Key) → same_key k q ≡ is_alike (selection_at k) (selection_at q)
key_plain k q = both _ _ _ _ (home_plain k.home q.home) (sought_plain k.sought q.sought)

-- the key of a selection
pub key_alike : (k : Key) (s : Selection) → home_in k.home ≡ s.«module» → choice_in k.sought ≡ s.choice → (q : Key) → same_key k q ≡ is_alike s (selection_at q)
key_alike k s home chosen q =
    key_plain k q ∙ both _ _ _ _ (ap (λ (h : Option (List ℕ)). same_module h (home_in q.home)) home) (ap (λ (c : Choice). same_choice c (choice_in q.sought)) chosen)

-- ---- either way round

flip_bytes : (a b : List ℕ) → bytes_eq a b ≡ bytes_eq b a
flip_bytes a b = go (bytes_eq a b) refl (bytes_eq b a) refl
  where
    go : (x : Bool) → bytes_eq a b ≡ x → (y : Bool) → bytes_eq b a ≡ y → x ≡ y
    go true e true f = refl
    go true e false f = absurd (let bad : true ≡ false = sym ((bytes_eq-Decides b a).1 (sym ((bytes_eq-Decides a b).0 e))) ∙ f in cc)
    go false e true f = absurd (let bad : true ≡ false = sym ((bytes_eq-Decides a b).1 (sym ((bytes_eq-Decides b a).0 f))) ∙ e in cc)
    go false e false f = refl

flip_module : (h g : Option (List ℕ)) → same_module h g ≡ same_module g h
flip_module None None = refl
flip_module None (Some g) = refl
flip_module (Some h) None = refl
flip_module (Some h) (Some g) = flip_bytes h g

flip_choice : (c d : Choice) → same_choice c d ≡ same_choice d c
flip_choice (choice.Named n) (choice.Named m) = flip_bytes n m
flip_choice (choice.Named n) choice.Ro = refl
flip_choice (choice.Named n) choice.Rw = refl
flip_choice (choice.Named n) choice.Zi = refl
flip_choice choice.Ro (choice.Named m) = refl
flip_choice choice.Ro choice.Ro = refl
flip_choice choice.Ro choice.Rw = refl
flip_choice choice.Ro choice.Zi = refl
flip_choice choice.Rw (choice.Named m) = refl
flip_choice choice.Rw choice.Ro = refl
flip_choice choice.Rw choice.Rw = refl
flip_choice choice.Rw choice.Zi = refl
flip_choice choice.Zi (choice.Named m) = refl
flip_choice choice.Zi choice.Ro = refl
flip_choice choice.Zi choice.Rw = refl
flip_choice choice.Zi choice.Zi = refl

pub flip_alike : (s t : Selection) → is_alike s t ≡ is_alike t s
flip_alike s t = both _ _ _ _ (flip_module s.«module» t.«module») (flip_choice s.choice t.choice)
