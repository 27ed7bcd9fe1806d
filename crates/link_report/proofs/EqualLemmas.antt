-- The derived equality of keys is the one that definitions cite.
use Rattle.std.proofs.Common.{◌≡◌, ℕ, Bool, true, false, ◌&&◌, List, Option, Some, None, refl, ap}
use Rattle.std.specs.List.{list_any}
use Rattle.std.specs.Str.{bytes_eq}
use Rattle.link_report.specs.declared.selections.Key.{Key}
use Rattle.link_report.specs.declared.selections.Sought.{Sought}
use Rattle.link_report.specs.declared.selections.Sought.TheVariants as sought
use Rattle.link_report.specs.Keys.{Keys, has_key, same_key, same_sought}
use Rattle.link_report.specs.contracts.selections.KeyPartialEq.TheImpl as of_keys
use Rattle.link_report.specs.contracts.selections.SoughtPartialEq.TheImpl as of_sought

abbrev pub key_eq : Key → Key → Bool
key_eq k q = of_keys.ghosts.eq k q

sought_same : (s t : Sought) → of_sought.ghosts.eq s t ≡ same_sought s t
sought_same (sought.Named n) (sought.Named m) = refl
sought_same (sought.Named n) sought.Ro = refl
sought_same (sought.Named n) sought.Rw = refl
sought_same (sought.Named n) sought.Zi = refl
sought_same sought.Ro (sought.Named m) = refl
sought_same sought.Ro sought.Ro = refl
sought_same sought.Ro sought.Rw = refl
sought_same sought.Ro sought.Zi = refl
sought_same sought.Rw (sought.Named m) = refl
sought_same sought.Rw sought.Ro = refl
sought_same sought.Rw sought.Rw = refl
sought_same sought.Rw sought.Zi = refl
sought_same sought.Zi (sought.Named m) = refl
sought_same sought.Zi sought.Ro = refl
sought_same sought.Zi sought.Rw = refl
sought_same sought.Zi sought.Zi = refl

by_home : (k q : Key) (s t : Sought) → of_sought.ghosts.eq s t ≡ same_sought s t → key_eq (record { home = k.home; sought = s }) (record { home = q.home; sought = t }) ≡ same_key (record { home = k.home; sought = s }) (record { home = q.home; sought = t })
by_home k q s t e = go k.home q.home
  where
    go : (h g : Option _) → key_eq (record { home = h; sought = s }) (record { home = g; sought = t }) ≡ same_key (record { home = h; sought = s }) (record { home = g; sought = t })
    go None None = e
    go None (Some g) = refl
    go (Some h) None = refl
    go (Some h) (Some g) = ap (λ (b : Bool). bytes_eq h.now g.now && b) e

pub key_same : (k q : Key) → key_eq k q ≡ same_key k q
key_same k q = by_home k q k.sought q.sought (sought_same k.sought q.sought)

pub has_same : (ks : Keys) (q : Key) → list_any (key_eq q) ks.keys ≡ has_key ks q
has_same ks q = ap (λ (p : Key → Bool). list_any p ks.keys) (λ i k. key_same q k i)
