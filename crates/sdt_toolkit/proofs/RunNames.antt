-- The names of regions, by the description that was read, and those of an image's files.
use Rattle.std.proofs.Common.{◌≡◌, ℕ, suc, ◌+◌, ◌==◌, not, Bool, true, false, nat_lt, List, [], ◌∷◌, ◌++◌, append_assoc, length, map, refl, sym, ap, ◌∙◌, arith}
use Rattle.std.specs.Prelude.{◌&&◌, codes}
use Rattle.std.specs.List.{list_all, AllByRecursion}
use Rattle.std.proofs.lemmas.Bool.Decides.{nat_tests}
use Rattle.std.proofs.lemmas.List.{append_cancel_left}
use Rattle.std.proofs.lemmas.List.Folds.{list_all-append}
use Rattle.base_lemmas.proofs.BaseLemmas.{all_append, second_of_both}
use Rattle.place_model.specs.declared.scatter.Kind.{Kind}
use Rattle.place_model.specs.declared.scatter.ScatterLoad.{ScatterLoad}
use Rattle.place_model.specs.declared.scatter.ScatterRegion.{ScatterRegion}
use Rattle.place_model.specs.Plans.{Contents, Planned, end_of, length_of, loads_from as plan_from, planned, planned_from, regions_of}
use Rattle.scatter_text.specs.Grammar.{AreOf, IsLoad, IsRegion, Spells}
use Rattle.scatter_text.specs.Parts.{Part, parts_of}
use Rattle.scatter_text.specs.Validity.{AreDistinct, load_names}
use Rattle.link_model.specs.declared.placing.Region.{Region}
use Rattle.bin_image.specs.declared.records.OutFile.{OutFile}
use Rattle.bin_image.specs.Fields.{is_name, is_word, lacks}
use Rattle.bin_image.specs.Files.{load_file, load_name, map_name}
use Rattle.armlink_core.specs.Images.{loads_from}

-- ---- one or more letters, digits and `_`

abbrev IsNamedRegion : ScatterRegion → Type 0
IsNamedRegion r = is_name r.name ≡ true

abbrev pub IsNamedLoad : ScatterLoad → Type 0
IsNamedLoad l = (is_name l.name ≡ true) × AllByRecursion IsNamedRegion l.regions

each_of : {X : Type 0} (IsOf : X → List Part → Type 0) (P : X → Type 0) → ((x : X) (parts : List Part) → IsOf x parts → P x)
    → (xs : List X) (parts : List Part) → AreOf IsOf xs parts → AllByRecursion P xs
each_of IsOf P f [] parts h = tt
each_of IsOf P f (x ∷ xs) parts h = (f x h.0 h.3, each_of IsOf P f xs h.1 h.4)

pub named_by : (text : List ℕ) (loads : List ScatterLoad) → Spells text loads → AllByRecursion IsNamedLoad loads
named_by text loads h =
    each_of IsLoad IsNamedLoad (λ l parts is. (is.named, each_of IsRegion IsNamedRegion (λ r own it. it.braced.named) l.regions is.body is.filled)) loads (parts_of text) h

-- ---- the regions of a plan

abbrev pub IsNamed : Planned → Type 0
IsNamed r = is_name r.name ≡ true

regions_named : (k : Kind) (c : Contents) (words region : ℕ) (rs : List ScatterRegion) (before load : ℕ) → AllByRecursion IsNamedRegion rs → AllByRecursion IsNamed (planned_from k c words region rs before load)
regions_named k c words region [] before load h = tt
regions_named k c words region (r ∷ rs) before load h =
    let first : Planned = planned k c words region r before load in
    (h.0, regions_named k c words (suc region) rs (end_of first) (load + length_of first) h.1)

pub plan_named : (k : Kind) (c : Contents) (words region : ℕ) (ls : List ScatterLoad) → AllByRecursion IsNamedLoad ls → AllByRecursion IsNamed (regions_of (plan_from k c words region ls))
plan_named k c words region [] h = tt
plan_named k c words region (l ∷ ls) h =
    all_append IsNamed (planned_from k c words region l.regions l.base l.base) (regions_of (plan_from k c words (region + length l.regions) ls))
    (regions_named k c words region l.regions l.base l.base h.0.1) (plan_named k c words (region + length l.regions) ls h.1)

-- ---- names of one line

word_lacks : (c : ℕ) → is_word c ≡ true → not (c == 10) ≡ true
word_lacks c h = grind (arith, nat_tests)

words_lack : (name : List ℕ) → list_all is_word name ≡ true → lacks 10 name ≡ true
words_lack [] h = refl
words_lack (c ∷ cs) h = go (is_word c) refl h (words_lack cs)
  where
    go : (b : Bool) → is_word c ≡ b → (b && list_all is_word cs) ≡ true → (list_all is_word cs ≡ true → lacks 10 cs ≡ true) → lacks 10 (c ∷ cs) ≡ true
    go true e more rest = rw (word_lacks c e) (rest more)
    go false e more rest = absurd (let bad : false ≡ true = more in cc)

pub one_line : (out name : List ℕ) → lacks 10 out ≡ true → is_name name ≡ true → lacks 10 (load_name out name) ≡ true
one_line out name line named =
    let own : lacks 10 name ≡ true = words_lack name (second_of_both (nat_lt 0 (length name)) (list_all is_word name) named) in
    let front : lacks 10 (out ++ codes ".") ≡ true = list_all-append (λ b. not (b == 10)) out (codes ".") ∙ ap (λ (b : Bool). b && true) line in
    list_all-append (λ b. not (b == 10)) (out ++ codes ".") name ∙ ap (λ (b : Bool). b && lacks 10 name) front ∙ own

-- ---- the names of files differ

abbrev file_names : List OutFile → List (List ℕ)
file_names fs = map (λ f. f.name) fs

same_name : (out a b : List ℕ) → load_name out a ≡ load_name out b → a ≡ b
same_name out a b h = append_cancel_left (out ++ codes ".") a b h

module _ (out : List ℕ) (rs : List Region) (parts : List (List ℕ)) (last : OutFile) (is_last : last.name ≡ map_name out) where
  others_differ : (name : List ℕ) (number : ℕ) (ds : List ScatterLoad) → (name ≡ codes "map" → ⊥) → AllByRecursion (λ other. name ≡ other → ⊥) (load_names ds)
      → AllByRecursion (λ other. load_name out name ≡ other → ⊥) (file_names (map (load_file out) (loads_from number rs parts ds) ++ last ∷ []))
  others_differ name number [] no_map differ = ((λ e. no_map (same_name out name (codes "map") (e ∙ is_last ∙ sym (append_assoc out (codes ".") (codes "map"))))), tt)
  others_differ name number (d ∷ ds) no_map differ = ((λ e. differ.0 (same_name out name d.name e)), others_differ name (suc number) ds no_map differ.1)

  pub files_differ : (number : ℕ) (ds : List ScatterLoad) → AllByRecursion (λ l. l.name ≡ codes "map" → ⊥) ds → AreDistinct (load_names ds)
      → AreDistinct (file_names (map (load_file out) (loads_from number rs parts ds) ++ last ∷ []))
  files_differ number [] no_map differ = (tt, tt)
  files_differ number (d ∷ ds) no_map differ = (others_differ d.name (suc number) ds no_map.0 differ.0, files_differ (suc number) ds no_map.1 differ.1)
