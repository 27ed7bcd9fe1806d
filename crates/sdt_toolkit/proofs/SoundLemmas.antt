-- What is linked of sound objects and libraries is sound.
use Rattle.std.proofs.Common.{ℕ, suc, Bool, true, false, cond, List, [], ◌∷◌, sym, subst}
use Rattle.std.specs.List.{AllByRecursion}
use Rattle.base_lemmas.proofs.BaseLemmas.{all_append, all_weaker}
use Rattle.aof_object.specs.declared.records.Object.{Object}
use Rattle.aof_object.specs.Validity.{IsValid}
use Rattle.alf_archive.specs.declared.records.Archive.{Archive}
use Rattle.alf_archive.specs.Grammar.{IsValid as IsValidArchive}
use Rattle.place_model.proofs.ListLemmas.{all_flat, all_map}
use Rattle.link_model.specs.declared.selection.Named.{Named}
use Rattle.link_model.specs.Members.{members_in, members_of, named_member}
use Rattle.link_model.specs.Chosen.{AreLinked, taken}
use Rattle.sdt_toolkit.specs.Starting.{AreSound, HasBytes}

all_taken : {X : Type 0} (P : X → Type 0) (chosen : ℕ → Bool) (i : ℕ) (xs : List X) → AllByRecursion P xs → AllByRecursion P (taken chosen i xs)
all_taken P chosen i [] h = tt
all_taken {X = X} P chosen i (x ∷ xs) h = go (chosen i) (all_taken P chosen (suc i) xs h.1)
  where
    go : (b : Bool) → AllByRecursion P (taken chosen (suc i) xs) → AllByRecursion P (cond b (x ∷ taken chosen (suc i) xs) (taken chosen (suc i) xs))
    go true rest = (h.0, rest)
    go false rest = rest

module _ (P : Object → Type 0) where
  abbrev IsOfObject : Named Object → Type 0
  IsOfObject o = P o.value

  members_all : (archives : List (Named Archive)) → AllByRecursion (λ a. AllByRecursion (λ m. P m.object) a.value.members) archives → AllByRecursion IsOfObject (members_of archives)
  members_all archives h =
      all_flat IsOfObject members_in archives
      (all_weaker (λ a. AllByRecursion (λ m. P m.object) a.value.members) (λ a. AllByRecursion IsOfObject (members_in a))
      (λ a one. all_map IsOfObject (named_member a.name) a.value.members one) archives h)

  linked_all : (objects : List (Named Object)) (archives : List (Named Archive)) (os : List (Named Object)) → AreLinked objects archives os
      → AllByRecursion IsOfObject objects → AllByRecursion (λ a. AllByRecursion (λ m. P m.object) a.value.members) archives → AllByRecursion IsOfObject os
  linked_all objects archives os linked own members =
      subst (λ (xs : List (Named Object)). AllByRecursion IsOfObject xs) (sym linked.in_order)
      (all_append IsOfObject objects (taken linked.chosen 0 (members_of archives)) own
      (all_taken IsOfObject linked.chosen 0 (members_of archives) (members_all archives members)))

pub sound_linked : (objects : List (Named Object)) (archives : List (Named Archive)) (os : List (Named Object)) → AreLinked objects archives os
    → AllByRecursion (λ o. IsValid o.value) objects → AllByRecursion (λ a. IsValidArchive a.value) archives
    → AllByRecursion (λ o. HasBytes o.value) objects → AllByRecursion (λ a. AllByRecursion (λ m. HasBytes m.object) a.value.members) archives
    → AreSound os
sound_linked objects archives os linked valid valid_archives bytes archive_bytes = record {
  valid = linked_all IsValid objects archives os linked valid
      (all_weaker (λ a. IsValidArchive a.value) (λ a. AllByRecursion (λ m. IsValid m.object) a.value.members) (λ a one. one.objects) archives valid_archives);
  bytes = linked_all HasBytes objects archives os linked bytes archive_bytes;
}
