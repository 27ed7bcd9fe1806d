-- The image of inputs, and its files.
use Rattle.std.proofs.Common.{◌≡◌, ℕ, ◌+◌, ◌%◌, ◌^◌, ◌<◌, ◌≤◌, nat_le, List, [], ◌∷◌, length, map, Bool, true, false, cond, ◌||◌, Option, None, Result, Ok, Err, refl, sym, ap, ◌∙◌, subst, arith, get_or, zero, suc}
use Rattle.std.proofs.lemmas.Bool.{leb-false}
use Rattle.std.proofs.lemmas.List.Folds.{list_any-append}
use Rattle.std.specs.List.{list_any, AllByRecursion}
use Rattle.sdt_word.specs.declared.ranges.Range32.{Range32}
use Rattle.sdt_fault.specs.declared.answer.Fault.{Fault}
use Rattle.sdt_fault.specs.declared.answer.Fault.TheVariants as fault
use Rattle.sdt_fault.specs.declared.refusal.Refusal.{Refusal}
use Rattle.chunk_file.specs.Reading.{◌>>=◌}
use Rattle.aof_object.specs.declared.records.Object.{Object}
use Rattle.alf_archive.specs.declared.records.Archive.{Archive}
use Rattle.link_model.specs.declared.images.Image.{Image}
use Rattle.link_model.specs.declared.images.ImageKind.{ImageKind}
use Rattle.link_model.specs.declared.images.ImageKind.TheVariants as shape
use Rattle.link_model.specs.declared.images.LoadRegion.{LoadRegion}
use Rattle.link_model.specs.declared.placing.Region.{Region}
use Rattle.link_model.specs.declared.selection.Linked.{Linked}
use Rattle.link_model.specs.declared.selection.Named.{Named}
use Rattle.link_model.specs.Chosen.{AreLinked}
use Rattle.place_model.specs.declared.scatter.Kind.TheVariants as kind
use Rattle.place_model.specs.declared.scatter.Scatter.{Scatter}
use Rattle.scatter_text.specs.Laws.{ReadingLaw}
use Rattle.scatter_text.specs.Reading.{scatter_of}
use Rattle.link_select.specs.Selection.{selection_of}
use Rattle.armlink_core.specs.declared.naming.NamedImage.{NamedImage}
use Rattle.armlink_core.specs.Images.{Links, described, linking, scatter_linking}
use Rattle.armlink_core.specs.Tables.{named_scatter, scatter_tables, with_tables}
use Rattle.armlink_core.proofs.PlaceLemmas.{refused_first}
use Rattle.armlink_core.specs.Laws.{LinkedSizes, ScatterSizes}
use Rattle.bin_image.specs.declared.records.OutFile.{OutFile}
use Rattle.bin_image.specs.Files.{IsMapped, load_file, map_file}
use Rattle.elf_image.specs.declared.tables.Tables.{Tables}
use Rattle.elf_image.specs.Files.{elf_file, file_size}
use Rattle.elf_image.specs.Tables.{named_file, named_size}
use Rattle.elf_image.proofs.WrittenLemmas.{file_length}
use Rattle.tool_words.specs.declared.command.Bank.{Bank}
use Rattle.tool_words.specs.declared.command.Container.{Container}
use Rattle.tool_words.specs.declared.command.Container.TheVariants as container
use Rattle.tool_words.specs.declared.command.LinkPlacement.{LinkPlacement}
use Rattle.tool_words.specs.declared.command.LinkPlacement.TheVariants as placement
use Rattle.tool_words.specs.Commands.{ComeTogether, IsBased}
use Rattle.tool_library.specs.declared.linkables.Linkable.{Linkable}
use Rattle.sdt_toolkit.proofs.ContainerLemmas.{are_counted}
use Rattle.sdt_toolkit.proofs.NamedLemmas.{named_length}
use Rattle.sdt_toolkit.proofs.SelectionLemmas.{ok_same, steps_ok}
use Rattle.sdt_toolkit.proofs.TableLemmas.{tables_to}
use Rattle.sdt_toolkit.proofs.InputLemmas.{valid_archives, valid_objects}
use Rattle.sdt_toolkit.proofs.SoundLemmas.{sound_linked}
use Rattle.sdt_toolkit.specs.Inputs.{AreValid, Tells, archives_among, objects_among}
use Rattle.sdt_toolkit.specs.Plans.{ImagesArePlaced}
use Rattle.sdt_toolkit.specs.Starting.{AreSound, HasBytes}
use Rattle.sdt_toolkit.specs.Links.{HasImage, HasNamedImage, ImageIs, IsAifImage, IsInMemory, IsNamedScatter, IsRam, IsScatterImage, IsWritable, LinksTo, TablesTo, filed, image_files, is_long, is_long_load, one_file, too_large, unless_long}

-- ---- the image

pub scattered : (objects : List (Named Object)) (archives : List (Named Archive)) (text : List ℕ) (banks : Option (List Bank)) (ram : Option (List Range32)) (r : Result Image Fault)
    → IsRam banks ram → Links objects archives (scatter_linking text ram) r → Tells r (IsScatterImage objects archives text banks)
scattered objects archives text banks ram (Ok i) told h = (h.0, h.1, (ram, told, sym h.2))
scattered objects archives text banks ram (Err (fault.Refused e)) told h = (h.0, h.1, (ram, told, sym h.2))
scattered objects archives text banks ram (Err (fault.ReadFault q)) told h = h
scattered objects archives text banks ram (Err fault.NoMemory) told h = tt

pub as_aif : (objects : List (Named Object)) (archives : List (Named Archive)) (base : ℕ) (relocatable : Bool) (banks : Option (List Bank)) (ram : Option (List Range32)) (r : Result Image Fault)
    → IsRam banks ram → Links objects archives (linking (kind.Aif base relocatable) ram) r → Tells r (IsAifImage objects archives base relocatable banks)
as_aif objects archives base relocatable banks ram (Ok i) told h = (h.0, h.1, (ram, told, sym h.2))
as_aif objects archives base relocatable banks ram (Err (fault.Refused e)) told h = (h.0, h.1, (ram, told, sym h.2))
as_aif objects archives base relocatable banks ram (Err (fault.ReadFault q)) told h = h
as_aif objects archives base relocatable banks ram (Err fault.NoMemory) told h = tt

pub named_scattered : (objects : List (Named Object)) (archives : List (Named Archive)) (text : List ℕ) (banks : Option (List Bank)) (ram : Option (List Range32)) (r : Result NamedImage Fault)
    → IsRam banks ram → Links objects archives (named_scatter text ram) r → Tells r (IsNamedScatter objects archives text banks)
named_scattered objects archives text banks ram (Ok n) told h = (h.0, h.1, ram, told, sym h.2)
named_scattered objects archives text banks ram (Err (fault.Refused e)) told h = (h.0, h.1, ram, told, sym h.2)
named_scattered objects archives text banks ram (Err (fault.ReadFault q)) told h = h
named_scattered objects archives text banks ram (Err fault.NoMemory) told h = tt

-- of the bytes alone
abbrev pub IsPlainImage : List (Named Object) → List (Named Archive) → ℕ → Result Image Refusal → Type 0
IsPlainImage objects archives base image = (os : List (Named Object)) × AreLinked objects archives os × (image ≡ linking (kind.Plain base) None os)

pub as_plain : (objects : List (Named Object)) (archives : List (Named Archive)) (base : ℕ) (r : Result Image Fault)
    → Links objects archives (linking (kind.Plain base) None) r → Tells r (IsPlainImage objects archives base)
as_plain objects archives base (Ok i) h = (h.0, h.1, sym h.2)
as_plain objects archives base (Err (fault.Refused e)) h = (h.0, h.1, sym h.2)
as_plain objects archives base (Err (fault.ReadFault q)) h = h
as_plain objects archives base (Err fault.NoMemory) h = tt

-- what is linked of these is sound
abbrev pub LinksSound : List (Named Object) → List (Named Archive) → Type 0
LinksSound objects archives = (os : List (Named Object)) → AreLinked objects archives os → AreSound os

pub sound_inputs : (inputs : List (Named Linkable)) → AreValid inputs → AllByRecursion (λ o. HasBytes o.value) (objects_among inputs)
    → AllByRecursion (λ a. AllByRecursion (λ m. HasBytes m.object) a.value.members) (archives_among inputs) → LinksSound (objects_among inputs) (archives_among inputs)
sound_inputs inputs valid objects archives = λ os linked.
    sound_linked (objects_among inputs) (archives_among inputs) os linked (valid_objects inputs valid) (valid_archives inputs valid) objects archives

-- ---- the image in memory

not_linked : (x : Result Linked Refusal) (r : Refusal) (i : Image) → ◌≡◌ {A = Result Image Refusal} (x >>= λ l. Err r) (Ok i) → ⊥
not_linked (Ok l) r i h = let bad : ◌≡◌ {A = Result Image Refusal} (Err r) (Ok i) = h in cc
not_linked (Err q) r i h = let bad : ◌≡◌ {A = Result Image Refusal} (Err q) (Ok i) = h in cc

-- of objects that were linked by a placement
abbrev pub IsLinkedBy : LinkPlacement → List ℕ → Option (List Bank) → List (Named Linkable) → Result Image Refusal → Type 0
IsLinkedBy p text banks inputs image = (os : List (Named Object)) × AreLinked (objects_among inputs) (archives_among inputs) os × LinksTo p text banks os image

module _ (law : ImagesArePlaced) (text : List ℕ) (banks : Option (List Bank)) where
  described_memory : (file : List ℕ) (os : List (Named Object)) (i : Image) (ram : Option (List Range32)) → IsRam banks ram → AreSound os
      → (d : Result Scatter Refusal) → scatter_of text ≡ d → described d ram os ≡ Ok i → IsInMemory (placement.Scatter file) text banks os i
  described_memory file os i ram told sound (Ok s) e h =
      let placed = law (kind.Scatter s) ram os i sound (text, e) h in
      record { shape = kind.Scatter s; ram = ram; asked = (s, e, refl, told); views = placed.0; placed = placed.1 }
  described_memory file os i ram told sound (Err r) e h = absurd (not_linked (selection_of None os) r i h)

  in_memory : (p : LinkPlacement) (os : List (Named Object)) (i : Image) → IsBased p → AreSound os → LinksTo p text banks os (Ok i) → IsInMemory p text banks os i
  in_memory (placement.Scatter file) os i based sound h = described_memory file os i h.0 h.1 sound (scatter_of text) refl (sym h.2)
  in_memory (placement.Aif base relocatable) os i based sound h =
      let placed = law (kind.Aif base relocatable) h.0 os i sound based (sym h.2) in
      record { shape = kind.Aif base relocatable; ram = h.0; asked = (refl, h.1); views = placed.0; placed = placed.1 }
  in_memory (placement.Plain base) os i based sound h =
      let placed = law (kind.Plain base) None os i sound based (sym h) in
      record { shape = kind.Plain base; ram = None; asked = (refl, refl); views = placed.0; placed = placed.1 }

  pub image_is : (p : LinkPlacement) (inputs : List (Named Linkable)) (image : Result Image Refusal) → IsBased p → (h : IsLinkedBy p text banks inputs image) → AreSound h.0
      → (t : Tables) → TablesTo p text banks h.0 t → ImageIs p text banks inputs image t
  image_is p inputs image based h sound t named = record {
    objects = h.0;
    linked = h.1;
    links = h.2;
    named = named;
    memory = λ i e. in_memory p h.0 i based sound (subst (LinksTo p text banks h.0) e h.2);
  }

  sound_image : (p : LinkPlacement) (inputs : List (Named Linkable)) (image : Result Image Refusal) → IsBased p → LinksSound (objects_among inputs) (archives_among inputs)
      → IsLinkedBy p text banks inputs image → HasImage p text banks inputs image
  sound_image p inputs image based sound h = let t = tables_to p text banks h.0 image h.2 in (t.0, image_is p inputs image based h (sound h.0 h.1) t.0 t.1)

  pub told_image : (p : LinkPlacement) (inputs : List (Named Linkable)) → IsBased p → LinksSound (objects_among inputs) (archives_among inputs) → (Is : Result Image Refusal → Type 0)
      → ((image : Result Image Refusal) → Is image → IsLinkedBy p text banks inputs image) → (r : Result Image Fault) → Tells r Is → Tells r (HasImage p text banks inputs)
  told_image p inputs based sound Is linked (Ok i) h = sound_image p inputs (Ok i) based sound (linked (Ok i) h)
  told_image p inputs based sound Is linked (Err (fault.Refused e)) h = sound_image p inputs (Err e) based sound (linked (Err e) h)
  told_image p inputs based sound Is linked (Err (fault.ReadFault q)) h = h
  told_image p inputs based sound Is linked (Err fault.NoMemory) h = tt

  -- with the tables that are given
  scatter_named : (file : List ℕ) (inputs : List (Named Linkable)) → LinksSound (objects_among inputs) (archives_among inputs) → (n : Result NamedImage Refusal)
      → IsNamedScatter (objects_among inputs) (archives_among inputs) text banks n → HasNamedImage (placement.Scatter file) text banks inputs n
  scatter_named file inputs sound (Ok n) (os, linked, ram, told, e) =
      let t : Tables = scatter_tables text ram os in
      let (i, links, is) = steps_ok (scatter_linking text ram os) (λ i. Ok (with_tables t i)) n (sym e) in
      subst (λ (x : NamedImage). ImageIs (placement.Scatter file) text banks inputs (Ok x.image) x.tables) (ok_same (with_tables t i) n is)
      (image_is (placement.Scatter file) inputs (Ok i) tt (os, linked, (ram, told, sym links)) (sound os linked) t (ram, told, refl))
  scatter_named file inputs sound (Err r) (os, linked, ram, told, e) =
      sound_image (placement.Scatter file) inputs (Err r) tt sound
      (os, linked, (ram, told, sym (refused_first (scatter_linking text ram os) (with_tables (scatter_tables text ram os)) r (sym e))))

  pub told_named : (file : List ℕ) (inputs : List (Named Linkable)) → LinksSound (objects_among inputs) (archives_among inputs)
      → (r : Result NamedImage Fault) → Tells r (IsNamedScatter (objects_among inputs) (archives_among inputs) text banks) → Tells r (HasNamedImage (placement.Scatter file) text banks inputs)
  told_named file inputs sound (Ok n) h = scatter_named file inputs sound (Ok n) h
  told_named file inputs sound (Err (fault.Refused e)) h = scatter_named file inputs sound (Err e) h
  told_named file inputs sound (Err (fault.ReadFault q)) h = h
  told_named file inputs sound (Err fault.NoMemory) h = tt

-- ---- what is written of it

pub mapped : (rs : List Region) → AllByRecursion (λ r. r.length + r.zero ≤ 2 ^ 26) rs → AllByRecursion IsMapped rs
mapped [] h = tt
mapped (r ∷ rs) h = let small = h.0 in (record { length = omega (arith, small); zero = omega (arith, small) }, mapped rs h.1)

pub sized : (rs : List Region) → AllByRecursion (λ r. r.length + r.zero ≤ 2 ^ 26) rs → AllByRecursion (λ r. r.length + r.zero < 2 ^ 32) rs
sized [] h = tt
sized (r ∷ rs) h = let small = h.0 in (omega (arith, small), sized rs h.1)

links_small : LinkedSizes → ScatterSizes → (p : LinkPlacement) (text : List ℕ) (banks : Option (List Bank)) (os : List (Named Object)) (i : Image) → LinksTo p text banks os (Ok i)
    → AllByRecursion (λ r. r.length + r.zero ≤ 2 ^ 26) i.regions
links_small linked scattered (placement.Scatter file) text banks os i h = (scattered text h.0 os i (sym h.2)).regions
links_small linked scattered (placement.Aif base relocatable) text banks os i h = (linked (kind.Aif base relocatable) h.0 os i (sym h.2)).regions
links_small linked scattered (placement.Plain base) text banks os i h = (linked (kind.Plain base) None os i (sym h)).regions

pub image_writable : LinkedSizes → ScatterSizes → ReadingLaw → (p : LinkPlacement) (c : Container) (text : List ℕ) (banks : Option (List Bank)) (inputs : List (Named Linkable)) (i : Image) (t : Tables)
    → ComeTogether p c → ImageIs p text banks inputs (Ok i) t → IsWritable c i
image_writable linked scattered reading p c text banks inputs i t together h =
    let memory = h.memory i refl in
    record {
      regions = links_small linked scattered p text banks h.objects i h.links;
      loads = are_counted reading p c text banks memory.shape memory.ram h.objects i memory.views together memory.asked memory.placed;
    }

-- ---- its files

long_scattered : (out : List ℕ) (ls : List LoadRegion) → list_any is_long_load ls ≡ list_any is_long (map (load_file out) ls)
long_scattered out [] = refl
long_scattered out (l ∷ ls) = ap (λ (b : Bool). is_long_load l || b) (long_scattered out ls)

or_true : (a b : Bool) → a ≡ true → (a || b) ≡ true
or_true a b e = rw e refl

pub any_long : (fs : List OutFile) → list_any is_long fs ≡ true → unless_long fs ≡ Err too_large
any_long fs h = ap (λ (b : Bool). cond b (Err too_large) (Ok fs)) h

pub none_long : (fs : List OutFile) → list_any is_long fs ≡ false → unless_long fs ≡ Ok fs
none_long fs h = ap (λ (b : Bool). cond b (Err too_large) (Ok fs)) h

pub long_load : (out : List ℕ) (t : Tables) (i : Image) → list_any is_long_load i.loads ≡ true → filed container.LoadFiles out t i ≡ Err too_large
long_load out t i h =
    any_long (image_files container.LoadFiles out t i)
    (list_any-append is_long (map (load_file out) i.loads) (map_file i out ∷ [])
    ∙ or_true (list_any is_long (map (load_file out) i.loads)) (list_any is_long (map_file i out ∷ [])) (sym (long_scattered out i.loads) ∙ h))

pub long_elf : (out : List ℕ) (t : Tables) (i : Image) → nat_le (2 ^ 32) (file_size i.loads) ≡ true → filed (container.Elf false) out t i ≡ Err too_large
long_elf out t i h =
    any_long (one_file out (elf_file i)) (or_true (nat_le (2 ^ 32) (length (elf_file i))) false (ap (λ (n : ℕ). nat_le (2 ^ 32) n) (file_length i) ∙ h))

pub long_named : (out : List ℕ) (t : Tables) (i : Image) → nat_le (2 ^ 32) (named_size i.loads t) ≡ true → filed (container.Elf true) out t i ≡ Err too_large
long_named out t i h =
    any_long (one_file out (named_file i t)) (or_true (nat_le (2 ^ 32) (length (named_file i t))) false (ap (λ (n : ℕ). nat_le (2 ^ 32) n) (named_length i t) ∙ h))

pub short_named : (i : Image) (t : Tables) → nat_le (2 ^ 32) (named_size i.loads t) ≡ false → named_size i.loads t < 2 ^ 32
short_named i t h = leb-false (2 ^ 32) (named_size i.loads t) h

pub short_elf : (i : Image) → nat_le (2 ^ 32) (file_size i.loads) ≡ false → file_size i.loads < 2 ^ 32
short_elf i h = leb-false (2 ^ 32) (file_size i.loads) h

or_false : (a b : Bool) → (a || b) ≡ false → (a ≡ false) × (b ≡ false)
or_false true b h = absurd (let bad : true ≡ false = h in cc)
or_false false b h = (refl, h)

pub short_loads : (ls : List LoadRegion) → list_any is_long_load ls ≡ false → AllByRecursion (λ l. length l.bytes < 2 ^ 32) ls
short_loads [] h = tt
short_loads (l ∷ ls) h = let both = or_false (is_long_load l) (list_any is_long_load ls) h in (leb-false (2 ^ 32) (length l.bytes) both.0, short_loads ls both.1)

pub all_short : (fs : List OutFile) → list_any is_long fs ≡ false → (k : ℕ) (d : OutFile) → k < length fs → length (get_or fs k d).bytes < 2 ^ 32
all_short [] h k d lt = absurd (omega (arith, lt))
all_short (f ∷ fs) h zero d lt = leb-false (2 ^ 32) (length f.bytes) (or_false (is_long f) (list_any is_long fs) h).0
all_short (f ∷ fs) h (suc k) d lt = let less : k < length fs = omega (arith, lt) in all_short fs (or_false (is_long f) (list_any is_long fs) h).1 k d less
