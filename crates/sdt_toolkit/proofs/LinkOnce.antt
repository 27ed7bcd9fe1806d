-- Files ask a link for one thing.
use Rattle.std.proofs.Common.{◌≡◌, ℕ, ◌+◌, ◌≤◌, ◌^◌, Bool, true, false, ◌&&◌, List, [], ◌∷◌, map, Option, Some, None, Result, Ok, Err, refl, sym, ap, ◌∙◌, subst}
use Rattle.std.specs.Coded.{le_prop}
use Rattle.sdt_word.specs.declared.ranges.Range32.{Range32}
use Rattle.sdt_fault.specs.declared.refusal.Refusal.{Refusal}
use Rattle.chunk_file.specs.Reading.{◌>>=◌}
use Rattle.aof_object.specs.declared.records.Object.{Object}
use Rattle.sdt_outside.specs.Files.{Files, content}
use Rattle.armasm_core.specs.Assembling.{AssembledFrom, OneAssembly}
use Rattle.place_model.specs.declared.scatter.Kind.TheVariants as kind
use Rattle.armlink_core.specs.Images.{linking, scatter_linking}
use Rattle.armlink_core.specs.Tables.{link_tables, scatter_tables}
use Rattle.elf_image.specs.declared.tables.Tables.{Tables}
use Rattle.link_model.specs.declared.images.Image.{Image}
use Rattle.link_model.specs.declared.selection.Named.{Named}
use Rattle.link_model.specs.Chosen.{LinkedLaw}
use Rattle.bin_image.specs.declared.records.OutFile.{OutFile}
use Rattle.tool_words.specs.declared.command.Bank.{Bank}
use Rattle.tool_words.specs.declared.command.LinkPlacement.{LinkPlacement}
use Rattle.tool_words.specs.declared.command.LinkPlacement.TheVariants as placement
use Rattle.tool_words.specs.declared.command.LinkWords.{LinkWords}
use Rattle.tool_answers.specs.Inputs.{inputs_of}
use Rattle.tool_answers.specs.Outcomes.{Outcome}
use Rattle.tool_library.specs.declared.linkables.Linkable.{Linkable}
use Rattle.tool_library.specs.declared.linkables.Linkable.TheVariants as input
use Rattle.sdt_toolkit.specs.Inputs.{Behind, InputBy, InputsAre, NamedIs, archives_among, is_source_name, objects_among, with_name}
use Rattle.sdt_toolkit.specs.Reads.{Reads}
use Rattle.sdt_toolkit.specs.Links.{AsAif, FilesAsk, ImageIs, InputsMake, IsRam, LinkMakes, LinksTo, OneLinkAsked, ReadAsks, ScattersTo, TablesTo, WordsAsk, filed, files_read, inputs_in, text_in, writes_all}

-- ---- inputs

abbrev pub Inputs : Type 0
Inputs = List (Named Linkable)

as_input : Object → Result Linkable Refusal
as_input o = Ok (input.Object o)

-- of files that are told
abbrev pub OverFiles : Reads → Files → Type 0
OverFiles s files = s.told ≡ Some files

assembled_once : OneAssembly → (s : Reads) (files : Files) → OverFiles s files → (name text : List ℕ) (x y : Result Object Refusal)
    → AssembledFrom s.told name text x → AssembledFrom s.told name text y → x ≡ y
assembled_once law s files is name text x y h k =
    let told = λ (r : Result Object Refusal) (a : AssembledFrom s.told name text r). subst (λ (t : Option Files). AssembledFrom t name text r) is a in
    law (content files) name text x y (told x h) (told y k)

input_once : OneAssembly → (s : Reads) (files : Files) → OverFiles s files → (b : Bool) (name bytes : List ℕ) (x y : Result Linkable Refusal)
    → InputBy s b name bytes x → InputBy s b name bytes y → x ≡ y
unfolding as_input
input_once law s files is true name bytes x y h k =
    let made : h.object ≡ k.object = assembled_once law s files is name bytes h.object k.object h.assembled k.assembled in
    h.as_input ∙ (ap (λ (o : Result Object Refusal). o >>= as_input) made ∙ sym k.as_input)
input_once law s files is false name bytes x y h k = h ∙ sym k

named_once : OneAssembly → (s : Reads) (files : Files) → OverFiles s files → (sources : Bool) (name bytes : List ℕ) (x y : Result (Named Linkable) Refusal)
    → NamedIs s sources name bytes x → NamedIs s sources name bytes y → x ≡ y
named_once law s files is sources name bytes x y h k =
    let same : h.0 ≡ k.0 = input_once law s files is (sources && is_source_name name) name bytes h.0 k.0 h.1 k.1 in
    h.2 ∙ (ap (with_name name) same ∙ sym k.2)

behind_once : (first : Result (Named Linkable) Refusal) (others : Result Inputs Refusal → Type 0) (x y : Result Inputs Refusal)
    → ((r s : Result Inputs Refusal) → others r → others s → r ≡ s) → Behind first others x → Behind first others y → x ≡ y
behind_once (Err r) others x y one h k = h ∙ sym k
behind_once (Ok first) others x y one h k =
    let same : h.0 ≡ k.0 = one h.0 k.0 h.1 k.1 in
    h.2 ∙ (ap (λ (r : Result Inputs Refusal). r >>= λ xs. Ok (first ∷ xs)) same ∙ sym k.2)

pub inputs_once : OneAssembly → (s : Reads) (files : Files) → OverFiles s files → (sources : Bool) (names contents : List (List ℕ)) (x y : Result Inputs Refusal)
    → InputsAre s sources names contents x → InputsAre s sources names contents y → x ≡ y
inputs_once law s files is sources [] contents x y h k = h ∙ sym k
inputs_once law s files is sources (name ∷ names) [] x y h k = h ∙ sym k
inputs_once law s files is sources (name ∷ names) (bytes ∷ contents) x y h k =
    let first : h.0 ≡ k.0 = named_once law s files is sources name bytes h.0 k.0 h.1 k.1 in
    let moved : Behind k.0 (InputsAre s sources names contents) x = subst (λ (f : Result (Named Linkable) Refusal). Behind f (InputsAre s sources names contents) x) first h.2 in
    behind_once k.0 (InputsAre s sources names contents) x y (λ r q. inputs_once law s files is sources names contents r q) moved k.2

-- ---- the ranges that can be written

range : (base size : ℕ) → base + size ≤ 2 ^ 32 → Range32
range base size within = record { base = base; size = size; in_space = within }

range_once : (b s c t : ℕ) → b ≡ c → s ≡ t → (h : b + s ≤ 2 ^ 32) (k : c + t ≤ 2 ^ 32) → range b s h ≡ range c t k
range_once b s c t base size =
    subst (λ (x : ℕ). (h : b + s ≤ 2 ^ 32) (k : x + t ≤ 2 ^ 32) → range b s h ≡ range x t k) base
    (subst (λ (y : ℕ). (h : b + s ≤ 2 ^ 32) (k : b + y ≤ 2 ^ 32) → range b s h ≡ range b y k) size (λ h k. ap (range b s) (le_prop h k)))

abbrev told : Range32 → ℕ × ℕ
told r = (r.base, r.size)

pub first_same : (p q : ℕ × ℕ) (ps qs : List (ℕ × ℕ)) → p ∷ ps ≡ q ∷ qs → (p ≡ q) × (ps ≡ qs)
first_same p q ps qs h = (cc, cc)

pub ranges_once : (xs ys : List Range32) → map {B = ℕ × ℕ} (λ r. (r.base, r.size)) xs ≡ map {B = ℕ × ℕ} (λ r. (r.base, r.size)) ys → xs ≡ ys
unfolding range
ranges_once [] [] h = refl
ranges_once [] (y ∷ ys) h = absurd (let bad : ◌≡◌ {A = List (ℕ × ℕ)} [] ((y.base, y.size) ∷ map (λ r. (r.base, r.size)) ys) = h in cc)
ranges_once (x ∷ xs) [] h = absurd (let bad : ◌≡◌ {A = List (ℕ × ℕ)} ((x.base, x.size) ∷ map (λ r. (r.base, r.size)) xs) [] = h in cc)
ranges_once (x ∷ xs) (y ∷ ys) h =
    let both = first_same (x.base, x.size) (y.base, y.size) (map (λ r. (r.base, r.size)) xs) (map (λ r. (r.base, r.size)) ys) h in
    let one : x ≡ y = range_once x.base x.size y.base y.size (ap (λ (p : ℕ × ℕ). p.0) both.0) (ap (λ (p : ℕ × ℕ). p.1) both.0) x.in_space y.in_space in
    ap (λ (r : Range32). r ∷ xs) one ∙ ap (λ (rs : List Range32). y ∷ rs) (ranges_once xs ys both.1)

pub ram_once : (banks : Option (List Bank)) (x y : Option (List Range32)) → IsRam banks x → IsRam banks y → x ≡ y
ram_once None x y h k = h ∙ sym k
ram_once (Some banks) x y h k = h.2 ∙ (ap Some (ranges_once h.0 k.0 (h.1 ∙ sym k.1)) ∙ sym k.2)

-- ---- the image and its files

scatters_once : (text : List ℕ) (banks : Option (List Bank)) (os : List (Named Object)) (x y : Result Image Refusal) → ScattersTo text banks os x → ScattersTo text banks os y → x ≡ y
scatters_once text banks os x y h k =
    h.2 ∙ (ap (λ (ram : Option (List Range32)). scatter_linking text ram os) (ram_once banks h.0 k.0 h.1 k.1) ∙ sym k.2)

as_aif_once : (base : ℕ) (relocatable : Bool) (banks : Option (List Bank)) (os : List (Named Object)) (x y : Result Image Refusal) → AsAif base relocatable banks os x
    → AsAif base relocatable banks os y → x ≡ y
as_aif_once base relocatable banks os x y h k =
    h.2 ∙ (ap (λ (ram : Option (List Range32)). linking (kind.Aif base relocatable) ram os) (ram_once banks h.0 k.0 h.1 k.1) ∙ sym k.2)

links_once : (f : LinkPlacement) (text : List ℕ) (banks : Option (List Bank)) (os : List (Named Object)) (x y : Result Image Refusal) → LinksTo f text banks os x → LinksTo f text banks os y → x ≡ y
links_once (placement.Scatter file) text banks os x y h k = scatters_once text banks os x y h k
links_once (placement.Aif base relocatable) text banks os x y h k = as_aif_once base relocatable banks os x y h k
links_once (placement.Plain base) text banks os x y h k = h ∙ sym k

tables_once : (f : LinkPlacement) (text : List ℕ) (banks : Option (List Bank)) (os : List (Named Object)) (t u : Tables) → TablesTo f text banks os t → TablesTo f text banks os u → t ≡ u
tables_once (placement.Scatter file) text banks os t u h k =
    h.2 ∙ (ap (λ (ram : Option (List Range32)). scatter_tables text ram os) (ram_once banks h.0 k.0 h.1 k.1) ∙ sym k.2)
tables_once (placement.Aif base relocatable) text banks os t u h k =
    h.2 ∙ (ap (λ (ram : Option (List Range32)). link_tables (kind.Aif base relocatable) ram os) (ram_once banks h.0 k.0 h.1 k.1) ∙ sym k.2)
tables_once (placement.Plain base) text banks os t u h k = h ∙ sym k

image_once : LinkedLaw → (f : LinkPlacement) (text : List ℕ) (banks : Option (List Bank)) (inputs : Inputs) (x y : Result Image Refusal) (t u : Tables)
    → ImageIs f text banks inputs x t → ImageIs f text banks inputs y u → (x ≡ y) × (t ≡ u)
image_once law f text banks inputs x y t u h k =
    let same : h.objects ≡ k.objects = law (objects_among inputs) (archives_among inputs) h.objects k.objects h.linked k.linked in (
      links_once f text banks k.objects x y (subst (λ (os : List (Named Object)). LinksTo f text banks os x) same h.links) k.links,
      tables_once f text banks k.objects t u (subst (λ (os : List (Named Object)). TablesTo f text banks os t) same h.named) k.named,
    )

inputs_make_once : LinkedLaw → (w : LinkWords) (text : List ℕ) (inputs : Result Inputs Refusal) (x y : Result (List OutFile) Refusal) → InputsMake w text inputs x → InputsMake w text inputs y → x ≡ y
inputs_make_once law w text (Err r) x y h k = h ∙ sym k
inputs_make_once law w text (Ok inputs) x y h k =
    let same = image_once law w.placement text w.ram inputs h.0 k.0 h.1 k.1 h.2 k.2 in
    h.3 ∙ (ap (λ (i : Result Image Refusal). i >>= filed w.container w.output h.1) same.0
    ∙ (ap (λ (t : Tables). k.0 >>= filed w.container w.output t) same.1 ∙ sym k.3))

makes_once : OneAssembly → LinkedLaw → (s : Reads) (files : Files) → OverFiles s files → (sources : Bool) (w : LinkWords) (contents : List (List ℕ)) (x y : Result (List OutFile) Refusal)
    → LinkMakes s sources w contents x → LinkMakes s sources w contents y → x ≡ y
makes_once law linked s files is sources w contents x y h k =
    let same : h.inputs ≡ k.inputs = inputs_once law s files is sources w.names (inputs_in w.placement contents) h.inputs k.inputs h.judged k.judged in
    inputs_make_once linked w (text_in w.placement contents) k.inputs x y (subst (λ (i : Result Inputs Refusal). InputsMake w (text_in w.placement contents) i x) same h.files) k.files

read_once : OneAssembly → LinkedLaw → (s : Reads) (files : Files) → OverFiles s files → (sources : Bool) (w : LinkWords) (contents : Result (List (List ℕ)) Refusal)
    (a b : Result Outcome Refusal) → ReadAsks s sources w contents a → ReadAsks s sources w contents b → a ≡ b
read_once law linked s files is sources w (Err r) a b h k = h ∙ sym k
read_once law linked s files is sources w (Ok contents) a b h k =
    let same : h.made ≡ k.made = makes_once law linked s files is sources w contents h.made k.made h.makes k.makes in
    h.outcome ∙ (ap (λ (r : Result (List OutFile) Refusal). r >>= writes_all) same ∙ sym k.outcome)

pub one_link_asked : OneAssembly → LinkedLaw → OneLinkAsked
one_link_asked law linked s sources w files a b is h k =
    let told = λ (x : Result Outcome Refusal) (asks : WordsAsk s sources w x). subst (λ (t : Option Files). FilesAsk t s sources w x) is asks in
    read_once law linked s files is sources w (inputs_of files (files_read w)) a b (told a h) (told b k)
