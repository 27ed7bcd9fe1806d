-- What `build` makes of the file of a generated source and of the file of its description.
use Rattle.std.proofs.Common.{◌≡◌, ℕ, ◌≤◌, Bool, true, List, [], ◌∷◌, Option, None, Some, Result, Ok, sym, ap, ◌∙◌, subst}
use Rattle.std.specs.Prelude.{◌&&◌}
use Rattle.sdt_word.specs.declared.ranges.Range32.{Range32}
use Rattle.sdt_fault.specs.declared.refusal.Refusal.{Refusal}
use Rattle.sdt_outside.specs.Files.{Files, content}
use Rattle.aof_object.specs.declared.records.Object.{Object}
use Rattle.chunk_file.specs.Reading.{◌>>=◌}
use Rattle.armasm_core.specs.Assembling.{AssembledFrom}
use Rattle.armlink_core.specs.Images.{scatter_linking}
use Rattle.link_model.specs.declared.images.Image.{Image}
use Rattle.link_model.specs.declared.selection.Named.{Named}
use Rattle.link_model.specs.Chosen.{AreLinked}
use Rattle.big_faults.specs.Big.{big_object}
use Rattle.big_model.specs.Sources.{big_text}
use Rattle.big_place.specs.Big.{big_description}
use Rattle.tool_answers.specs.Inputs.{and_others, found_or, inputs_of}
use Rattle.tool_library.specs.declared.linkables.Linkable.{Linkable}
use Rattle.tool_library.specs.declared.linkables.Linkable.TheVariants as input
use Rattle.tool_words.specs.declared.command.Bank.{Bank}
use Rattle.tool_words.specs.declared.command.LinkPlacement.{LinkPlacement}
use Rattle.tool_words.specs.declared.command.LinkPlacement.TheVariants as placement
use Rattle.sdt_toolkit.specs.Big.{IsBuilt}
use Rattle.sdt_toolkit.specs.BigAccepts.{BigIsAssembled}
use Rattle.sdt_toolkit.specs.BigMade.{big_named}
use Rattle.sdt_toolkit.specs.Inputs.{Behind, InputBy, InputsAre, IsSource, archives_among, is_source_name, module_of, named, objects_among, with_name}
use Rattle.sdt_toolkit.specs.Links.{LinksTo, ScattersTo, inputs_in, read_by, text_in}
use Rattle.sdt_toolkit.specs.Reads.{Reads}

-- ---- the two files

both_read : (files : Files) (first second : List ℕ) (text other : List ℕ) (contents : List (List ℕ)) → content files first ≡ Some text → content files second ≡ Some other
    → inputs_of files (first ∷ second ∷ []) ≡ Ok contents → contents ≡ text ∷ other ∷ []
both_read files first second text other contents e f h =
    let one : found_or first (content files first) ≡ Ok text = ap (found_or first) e in
    let two : found_or second (content files second) ≡ Ok other = ap (found_or second) f in
    let read : ◌≡◌ {A = Result (List (List ℕ)) Refusal} (Ok (text ∷ other ∷ [])) (Ok contents) =
    sym (ap (λ (x : Result (List ℕ) Refusal). and_others x (and_others (found_or second (content files second)) (Ok []))) one
    ∙ ap (λ (x : Result (List ℕ) Refusal). and_others (Ok text) (and_others x (Ok []))) two) ∙ h in
    cc

-- ---- the one input

abbrev as_named : List ℕ → ℕ → Named Linkable
as_named name n = named name (input.Object (big_object n))

module _ (law : BigIsAssembled) (name : List ℕ) (n : ℕ) (few : n ≤ 50000) (files : Files) (reads : Reads) (told : reads.told ≡ Some files) where
  source_is : (x : Result Linkable Refusal) → IsSource reads name (big_text n) x → x ≡ Ok (input.Object (big_object n))
  source_is x s =
      let object : s.object ≡ Ok (big_object n) =
      law files name n s.object few (subst (λ (t : Option Files). AssembledFrom t name (big_text n) s.object) told s.assembled) in
      s.as_input ∙ ap (λ (o : Result Object Refusal). o >>= λ y. Ok (input.Object y)) object

  named_is : (b : Bool) → b ≡ true → (first : Result (Named Linkable) Refusal) → (x : Result Linkable Refusal) × InputBy reads b name (big_text n) x × (first ≡ with_name name x)
      → first ≡ Ok (as_named name n)
  named_is b e first (x, is, named) =
      named ∙ ap (with_name name) (source_is x (subst (λ (c : Bool). InputBy reads c name (big_text n) x) e is))

  behind_is : (first : Result (Named Linkable) Refusal) (inputs : List (Named Linkable)) → first ≡ Ok (as_named name n) → Behind first (InputsAre reads true [] []) (Ok inputs)
      → inputs ≡ as_named name n ∷ []
  behind_is first inputs e h = go (subst (λ (x : Result (Named Linkable) Refusal). Behind x (InputsAre reads true [] []) (Ok inputs)) e h)
    where
      go : Behind (Ok (as_named name n)) (InputsAre reads true [] []) (Ok inputs) → inputs ≡ as_named name n ∷ []
      go (rest, none, made) =
          let same : ◌≡◌ {A = Result (List (Named Linkable)) Refusal} (Ok inputs) (Ok (as_named name n ∷ [])) =
          made ∙ ap (λ (r : Result (List (Named Linkable)) Refusal). r >>= λ xs. Ok (as_named name n ∷ xs)) none in cc

  inputs_are : is_source_name name ≡ true → (inputs : List (Named Linkable)) → InputsAre reads true (name ∷ []) (big_text n ∷ []) (Ok inputs) → inputs ≡ as_named name n ∷ []
  inputs_are source inputs (first, is, behind) = behind_is first inputs (named_is (true && is_source_name name) source first is) behind

-- ---- the image

abbrev alone : List ℕ → ℕ → List (Named Object)
alone name n = big_named name (module_of name) n ∷ []

one_linked : (name : List ℕ) (n : ℕ) (inputs : List (Named Linkable)) (objects : List (Named Object)) → inputs ≡ as_named name n ∷ []
    → AreLinked (objects_among inputs) (archives_among inputs) objects → objects ≡ alone name n
one_linked name n inputs objects e h = go (subst (λ (xs : List (Named Linkable)). AreLinked (objects_among xs) (archives_among xs) objects) e h)
  where
    go : AreLinked (alone name n) [] objects → objects ≡ alone name n
    go k = k.in_order

scattered : (name : List ℕ) (n : ℕ) (objects : List (Named Object)) (i made : Image) → objects ≡ alone name n → scatter_linking big_description None (alone name n) ≡ Ok i
    → ScattersTo big_description None objects (Ok made) → made ≡ i
scattered name n objects i made e link (ram, none, is) =
    let by_ram = is ∙ ap (λ (r : Option (List Range32)). scatter_linking big_description r objects) none in
    let same : ◌≡◌ {A = Result Image Refusal} (Ok made) (Ok i) = by_ram ∙ ap (scatter_linking big_description None) e ∙ link in
    cc

pub is_built : BigIsAssembled → (name : List ℕ) (n : ℕ) → n ≤ 50000 → (i : Image) → scatter_linking big_description None (alone name n) ≡ Ok i → IsBuilt name n i
is_built law name n few i link w before after made views description by_name by_scatter no_ram source text described h =
    let read : inputs_of before (description ∷ name ∷ []) ≡ Ok h.contents =
    subst (λ (names : List (List ℕ)). inputs_of before (read_by (placement.Scatter description) names) ≡ Ok h.contents) by_name
    (subst (λ (p : LinkPlacement). inputs_of before (read_by p w.names) ≡ Ok h.contents) by_scatter h.read) in
    let contents : h.contents ≡ big_description ∷ big_text n ∷ [] = both_read before description name big_description (big_text n) h.contents described text read in
    let judged : InputsAre h.reads true (name ∷ []) (big_text n ∷ []) (Ok h.inputs) =
    subst (λ (cs : List (List ℕ)). InputsAre h.reads true (name ∷ []) (inputs_in (placement.Scatter description) cs) (Ok h.inputs)) contents
    (subst (λ (names : List (List ℕ)). InputsAre h.reads true names (inputs_in (placement.Scatter description) h.contents) (Ok h.inputs)) by_name
    (subst (λ (p : LinkPlacement). InputsAre h.reads true w.names (inputs_in p h.contents) (Ok h.inputs)) by_scatter h.judged)) in
    let inputs = inputs_are law name n few before h.reads h.told source h.inputs judged in
    let objects = one_linked name n h.inputs h.objects inputs h.linked in
    let links : ScattersTo big_description None h.objects (Ok made) =
    subst (λ (banks : Option (List Bank)). ScattersTo big_description banks h.objects (Ok made)) no_ram
    (subst (λ (cs : List (List ℕ)). LinksTo (placement.Scatter description) (text_in (placement.Scatter description) cs) w.ram h.objects (Ok made)) contents
    (subst (λ (p : LinkPlacement). LinksTo p (text_in p h.contents) w.ram h.objects (Ok made)) by_scatter h.made)) in
    scattered name n h.objects i made objects link links
