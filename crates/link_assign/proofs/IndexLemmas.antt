-- The best of an area's few keys is the best of all selections.
use Rattle.std.proofs.Common.{◌≡◌, ℕ, ◌+◌, Bool, true, false, not, ◌&&◌, ◌==◌, if◌then◌else◌, List, Option, Some, None, is_some, refl, sym, ap, ◌∙◌}
use Rattle.std.specs.Str.{bytes_eq}
use Rattle.std.proofs.lemmas.List.Elements.{filter_agree}
use Rattle.place_model.specs.declared.scatter.Choice.{Choice}
use Rattle.place_model.specs.declared.scatter.Choice.TheVariants as choice
use Rattle.place_model.specs.Items.{Item, is_zero_initialised, is_read_only}
use Rattle.place_model.specs.Assignment.{Offer, at_rank, best, found, matches, rank}
use Rattle.place_model.specs.Keys.{class_of}
use Rattle.place_model.proofs.KeyLemmas.{IsKeyOf, class_anywhere, class_in_module, named_anywhere, named_in_module}
use Rattle.link_assign.specs.declared.finding.Finding.{Finding}
use Rattle.link_assign.specs.declared.index.Index.{Index}
use Rattle.link_assign.specs.Finding.{told}
use Rattle.link_assign.specs.Index.{best_in, in_index, is_keyed, or_else, IsIndexOf}
use Rattle.link_assign.proofs.FindingLemmas.{told_of_four}

-- ---- the best of them

same_best : {f g h k f' g' h' k' : Finding} → f ≡ f' → g ≡ g' → h ≡ h' → k ≡ k' → or_else (or_else f g) (or_else h k) ≡ or_else (or_else f' g') (or_else h' k')
same_best p q r s = rw (p, q, r, s) refl

module _ (x : Index) (offers : List Offer) (h : IsIndexOf offers x) (i : Item) where
  found_by_key : (n : ℕ) (home : Option (List ℕ)) (c : Choice) → IsKeyOf n i home c → in_index x home c ≡ told (found (at_rank n offers i))
  found_by_key n home c e = h home c ∙ ap (λ os. told (found os)) (sym (filter_agree (λ o. rank o.selection == n && matches o.selection i) (is_keyed home c) (λ o. e o.selection.«module» o.selection.choice) offers))

  pub best_found : best_in x i ≡ told (found (best offers i))
  best_found =
      let own = found_by_key 0 (Some i.«module») (choice.Named i.name) (named_in_module i) in
      let own_class = found_by_key 1 (Some i.«module») (class_of i) (class_in_module i) in
      let any = found_by_key 2 None (choice.Named i.name) (named_anywhere i) in
      let any_class = found_by_key 3 None (class_of i) (class_anywhere i) in
      same_best own own_class any any_class ∙ sym (told_of_four (at_rank 0 offers i) (at_rank 1 offers i) (at_rank 2 offers i) (at_rank 3 offers i))
