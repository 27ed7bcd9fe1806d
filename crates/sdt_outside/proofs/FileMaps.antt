-- The finite map that the entries of a `BTreeMap` with names as keys make: what it has at a name, and what it is
-- after an insert.
use Rattle.std.proofs.Common.{◌≡◌, ℕ, List, [], ◌∷◌, Option, Some, cond, refl, ap, sym, ◌∙◌}
use Rattle.std.specs.Ordering.{nat_cmp}
use Rattle.std.specs.Cmp.{eq_by_cmp_equiv}
use Rattle.std.specs.Cmp.Lexicographic.{slice_cmp, nat_list_cmp_total}
use Rattle.std.specs.FinMap.{find, get, insert, from_entries, get-from_entries, get-insert, same_map}
use Rattle.std.specs.BTreeMap.{is_at}
use Rattle.std.specs.Map.{lookup}
use Rattle.std.proofs.lemmas.Map.Lookups.{exact_bytes}

abbrev pub Entries : Type 0
Entries = List (List ℕ × List ℕ)

-- what a scan of the entries finds
abbrev pub entry_at : Entries → List ℕ → Option (List ℕ)
entry_at entries name = lookup (is_at (slice_cmp nat_cmp name)) entries

find_entry : (entries : Entries) (name : List ℕ) → find (slice_cmp nat_cmp) name entries ≡ entry_at entries name
find_entry [] name = refl
find_entry (e ∷ entries) name = ap (cond (is_at (slice_cmp nat_cmp name) e.0) (Some e.1)) (find_entry entries name)

pub get_entry : (entries : Entries) (name : List ℕ) → get (from_entries {R = slice_cmp nat_cmp} entries) name ≡ entry_at entries name
get_entry entries name = get-from_entries nat_list_cmp_total entries name ∙ find_entry entries name

-- entries that differ at one name make maps that differ there
pub one_written : (old new : Entries) (name bytes : List ℕ) → ((q : List ℕ) → entry_at new q ≡ cond (is_at (slice_cmp nat_cmp name) q) (Some bytes) (entry_at old q)) → from_entries {R = slice_cmp nat_cmp} new ≡ insert (from_entries old) name bytes
one_written old new name bytes h = same_map nat_list_cmp_total exact_bytes _ _ (λ q.
    get_entry new q ∙ h q ∙ ap (λ b. cond b (Some bytes) (entry_at old q)) ((eq_by_cmp_equiv nat_list_cmp_total).symm name q)
    ∙ sym (get-insert nat_list_cmp_total (from_entries old) name bytes q ∙ ap (cond (is_at (slice_cmp nat_cmp q) name) (Some bytes)) (get_entry old q)))
