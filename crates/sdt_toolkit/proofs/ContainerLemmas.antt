-- What the files of a placed image hold, container by container.
use Rattle.std.proofs.Common.{◌≡◌, ℕ, ◌+◌, ◌%◌, ◌^◌, ◌<◌, ◌≤◌, nat_le, ◌||◌, Bool, true, false, cond, List, [], ◌∷◌, ◌++◌, length, map, append-nil, Option, Result, Ok, Err, refl, sym, ap, ◌∙◌, subst, arith}
use Rattle.std.specs.List.{flat_map, list_any, AllByRecursion}
use Rattle.std.proofs.lemmas.Bool.{leb-false}
use Rattle.std.proofs.lemmas.List.{length-map}
use Rattle.base_lemmas.proofs.BaseLemmas.{all_append}
use Rattle.sdt_word.specs.Numbers.{flag}
use Rattle.sdt_word.specs.declared.ranges.Range32.{Range32}
use Rattle.sdt_fault.specs.declared.refusal.Refusal.{Refusal}
use Rattle.chunk_file.specs.Reading.{EachStands}
use Rattle.aof_object.specs.declared.records.Object.{Object}
use Rattle.boot_code.specs.Aif.{file_at}
use Rattle.boot_code.specs.Boots.{ByteMap, Boots}
use Rattle.boot_code.specs.Maps.{Segment, map_of}
use Rattle.scatter_text.specs.Laws.{ReadingLaw}
use Rattle.scatter_text.specs.Reading.{scatter_of}
use Rattle.place_model.specs.declared.scatter.Kind.{Kind}
use Rattle.place_model.specs.declared.scatter.Kind.TheVariants as kind
use Rattle.place_model.specs.declared.scatter.Scatter.{Scatter}
use Rattle.place_model.specs.declared.scatter.ScatterLoad.{ScatterLoad}
use Rattle.place_model.specs.Plans.{Contents, Plan, PlannedLoad, loads_from, table_words}
use Rattle.image_model.specs.Views.{IsLoadView}
use Rattle.link_model.specs.declared.images.Image.{Image}
use Rattle.link_model.specs.declared.images.LoadRegion.{LoadRegion}
use Rattle.link_model.specs.declared.placing.Placement.{Placement}
use Rattle.link_model.specs.declared.selection.Named.{Named}
use Rattle.link_items.specs.LinkedItems.{contents_of}
use Rattle.link_symbols.specs.Symbols.{tables_in}
use Rattle.armlink_core.specs.Sizes.{IsSmall}
use Rattle.armlink_core.proofs.ValidLemmas.{scatter_small}
use Rattle.bin_image.specs.declared.records.OutFile.{OutFile}
use Rattle.bin_image.specs.Files as load
use Rattle.bin_image.specs.Files.{binary_file, map_load}
use Rattle.bin_image.specs.Maps as maps
use Rattle.elf_image.specs.declared.tables.Tables.{Tables}
use Rattle.elf_image.specs.Symbols.{CanName}
use Rattle.elf_image.specs.Tables.{named_file, named_size}
use Rattle.elf_image.specs.Files.{AreApart, IsElf, elf_file, elf_record, file_size}
use Rattle.elf_image.proofs.WrittenLemmas.{file_length, loads as loads_are, written as reads_back}
use Rattle.tool_words.specs.declared.command.Bank.{Bank}
use Rattle.tool_words.specs.declared.command.Container.{Container}
use Rattle.tool_words.specs.declared.command.Container.TheVariants as container
use Rattle.tool_words.specs.declared.command.LinkPlacement.{LinkPlacement}
use Rattle.tool_words.specs.declared.command.LinkPlacement.TheVariants as placement
use Rattle.tool_words.specs.Commands.{ComeTogether}
use Rattle.sdt_toolkit.specs.Containers.{FilesHold, IsBinaryFile, IsElfFile, IsNamedFile}
use Rattle.sdt_toolkit.specs.Links.{AreCounted, IsAskedAs, filed, image_files, is_long, one_file, too_large}
use Rattle.sdt_toolkit.specs.Plans.{IsPlacedAs, plan_at}
use Rattle.sdt_toolkit.proofs.NamedLemmas.{can_name, few_sections, is_named_file, named_length, plain_shorter}
use Rattle.sdt_toolkit.specs.RunImages.{CanRun}
use Rattle.sdt_toolkit.specs.Starting.{ReachesEntry, segments_of, written_in}

-- ---- the load regions of a plan

plan_length : (k : Kind) (c : Contents) (words region : ℕ) (ls : List ScatterLoad) → length (loads_from k c words region ls) ≡ length ls
plan_length k c words region [] = refl
plan_length k c words region (l ∷ ls) = let more = plan_length k c words (region + length l.regions) ls in omega (arith, more)

loads_length : (plan : Plan) (view : ByteMap) (i : Image) → IsLoadView plan view (segments_of i) → length i.loads ≡ length plan
loads_length plan view i h =
    sym (length-map i.loads (λ (l : LoadRegion). record { base = l.base; bytes = l.bytes }))
    ∙ sym (length-map (segments_of i) (λ (s : Segment). s.base)) ∙ ap length h.bases ∙ length-map plan (λ (l : PlannedLoad). l.base)

module _ (s : Scatter) (ram : Option (List Range32)) (os : List (Named Object)) (i : Image) (views : ℕ → ByteMap) (h : IsPlacedAs (kind.Scatter s) ram os i views) where
  abbrev plan : Plan
  plan = plan_at (kind.Scatter s) h.link h.assigned h.veneers i.start

  few_loads : length s.loads ≤ 64 → length i.loads < 2 ^ 16
  few_loads few =
      let c : Contents = contents_of h.link.objects h.assigned.regions h.veneers in
      let same : length i.loads ≡ length plan = loads_length plan (views i.start) i (h.files i.start refl).files in
      let all : length plan ≡ length s.loads = plan_length (kind.Scatter s) c (table_words (kind.Scatter s) c) 0 s.loads in
      omega (arith, same, all, few)

scatter_counted : ReadingLaw → (file text : List ℕ) (banks : Option (List Bank)) (k : Kind) (ram : Option (List Range32)) (os : List (Named Object)) (i : Image) (views : ℕ → ByteMap)
    → IsAskedAs (placement.Scatter file) text banks k ram → IsPlacedAs k ram os i views → length i.loads < 2 ^ 16
scatter_counted reading file text banks k ram os i views asked placed =
    let s : Scatter = asked.0 in
    few_loads s ram os i views (subst (λ (k : Kind). IsPlacedAs k ram os i views) asked.2 placed) (scatter_small s ((reading text s).0 asked.1).1).loads

-- an ELF file has a scatter image, whose load regions are few
pub are_counted : ReadingLaw → (p : LinkPlacement) (c : Container) (text : List ℕ) (banks : Option (List Bank)) (k : Kind) (ram : Option (List Range32)) (os : List (Named Object)) (i : Image)
    (views : ℕ → ByteMap) → ComeTogether p c → IsAskedAs p text banks k ram → IsPlacedAs k ram os i views → AreCounted c i.loads
are_counted reading p container.LoadFiles text banks k ram os i views together asked placed = tt
are_counted reading p container.Binary text banks k ram os i views together asked placed = tt
are_counted reading p container.ImageFile text banks k ram os i views together asked placed = tt
are_counted reading (placement.Scatter file) (container.Elf symbols) text banks k ram os i views together asked placed = scatter_counted reading file text banks k ram os i views asked placed
are_counted reading (placement.Plain base) (container.Elf symbols) text banks k ram os i views together asked placed = absurd together
are_counted reading (placement.Aif base relocatable) (container.Elf symbols) text banks k ram os i views together asked placed = absurd together

-- ---- an ELF executable

in_space : (out : List ℕ) (ls : List LoadRegion) → AllByRecursion maps.IsLoad (map (map_load out) ls) → AllByRecursion (λ l. l.base + length l.bytes ≤ 2 ^ 32) ls
in_space out [] h = tt
in_space out (l ∷ ls) h = (h.0.in_space, in_space out ls h.1)

bases_fit : (out : List ℕ) (ls : List LoadRegion) → AllByRecursion maps.IsLoad (map (map_load out) ls) → AllByRecursion (λ l. l.base < 2 ^ 32) ls
bases_fit out [] h = tt
bases_fit out (l ∷ ls) h = (h.0.base_fits, bases_fit out ls h.1)

-- all are apart from those before
abbrev AreApartFrom : List LoadRegion → LoadRegion → Type 0
AreApartFrom before l = AllByRecursion (AreApart l) before

one_more : (out : List ℕ) (before : List LoadRegion) (l : LoadRegion) (ls : List LoadRegion) → AllByRecursion (AreApartFrom before) ls
    → AllByRecursion (maps.IsApart (map_load out l)) (map (map_load out) ls) → AllByRecursion (AreApartFrom (before ++ l ∷ [])) ls
one_more out before l [] h apart = tt
one_more out before l (m ∷ ms) h apart = (all_append (AreApart m) before (l ∷ []) h.0 ((λ a in_m in_l. apart.0 a in_l in_m), tt), one_more out before l ms h.1 apart.1)

each_apart : (out : List ℕ) (before ls : List LoadRegion) → AllByRecursion (AreApartFrom before) ls → maps.AreApart (map (map_load out) ls)
    → EachStands (λ before l. AllByRecursion (AreApart l) before) before ls
each_apart out before [] h apart = tt
each_apart out before (l ∷ ls) h apart = (h.0, each_apart out (before ++ l ∷ []) ls (one_more out before l ls h.1 apart.0) apart.1)

none_before : (ls : List LoadRegion) → AllByRecursion (AreApartFrom []) ls
none_before [] = tt
none_before (l ∷ ls) = (tt, none_before ls)

is_elf : (out : List ℕ) (i : Image) → maps.IsValid (load.map_of i out) → length i.loads < 2 ^ 16 → file_size i.loads < 2 ^ 32 → IsElf i
is_elf out i valid counted sized = record {
  in_space = in_space out i.loads valid.loads;
  bases = bases_fit out i.loads valid.loads;
  apart = each_apart out [] i.loads (none_before i.loads) valid.apart;
  counted = counted;
  sized = sized;
  start_fits = valid.start_fits;
  start_aligned = valid.start_aligned;
}

is_elf_file : (i : Image) (view : ByteMap) → IsElf i → Boots (map_of (segments_of i)) view (written_in i) i.start i.bound (i.entry + flag i.thumb) → IsElfFile i view (elf_file i)
is_elf_file i view elf boots = record {
  elf = elf_record i;
  reads = reads_back i elf;
  entry = refl;
  loads = loads_are i;
  boots = subst (λ (m : ByteMap). Boots m view (written_in i) i.start i.bound (i.entry + flag i.thumb)) (sym (loads_are i)) boots;
}

-- what is short enough is written
pub filed_as : (c : Container) (out : List ℕ) (t : Tables) (i : Image) (fs : List OutFile) → filed c out t i ≡ Ok fs
    → (list_any is_long (image_files c out t i) ≡ false) × (fs ≡ image_files c out t i)
filed_as c out t i fs h = go (list_any is_long (image_files c out t i)) refl h
  where
    go : (b : Bool) → list_any is_long (image_files c out t i) ≡ b → cond b (Err too_large) (Ok (image_files c out t i)) ≡ Ok fs
        → (list_any is_long (image_files c out t i) ≡ false) × (fs ≡ image_files c out t i)
    go true e k = absurd (let bad : ◌≡◌ {A = Result (List OutFile) Refusal} (Err too_large) (Ok fs) = k in cc)
    go false e k = (e, let same : ◌≡◌ {A = Result (List OutFile) Refusal} (Ok (image_files c out t i)) (Ok fs) = k in cc)

first_short : (out bytes : List ℕ) → list_any is_long (one_file out bytes) ≡ false → length bytes < 2 ^ 32
first_short out bytes h = leb-false (2 ^ 32) (length bytes) (alone (nat_le (2 ^ 32) (length bytes)) h)
  where
    alone : (b : Bool) → (b || false) ≡ false → b ≡ false
    alone true e = e
    alone false e = refl

elf_short : (out : List ℕ) (t : Tables) (i : Image) → list_any is_long (image_files (container.Elf false) out t i) ≡ false → file_size i.loads < 2 ^ 32
elf_short out t i h = let size = file_length i in let short = first_short out (elf_file i) h in omega (arith, size, short)

pub named_short : (out : List ℕ) (t : Tables) (i : Image) → list_any is_long (image_files (container.Elf true) out t i) ≡ false → named_size i.loads t < 2 ^ 32
named_short out t i h = let size = named_length i t in let short = first_short out (named_file i t) h in omega (arith, size, short)

scatter_elf : (s : Scatter) (i : Image) (views : ℕ → ByteMap) → ReachesEntry (kind.Scatter s) i views → length i.loads < 2 ^ 16 → file_size i.loads < 2 ^ 32
    → IsElfFile i (views i.start) (elf_file i)
scatter_elf s i views reaches counted sized =
    let can : CanRun i (views i.start) = reaches.1 in
    is_elf_file i (views i.start) (is_elf [] i (can.filed [] refl refl).map counted sized) reaches.0

-- ---- one with symbols

module _ (s : Scatter) (ram : Option (List Range32)) (os : List (Named Object)) (i : Image) (views : ℕ → ByteMap) (h : IsPlacedAs (kind.Scatter s) ram os i views)
    (t : Tables) (is : t ≡ tables_in h.link h.placement (length i.loads)) (small : IsSmall (kind.Scatter s)) (sized : named_size i.loads t < 2 ^ 32) where
  few : length t.sections < 0xFEFC
  few =
      let c : Contents = contents_of h.link.objects h.assigned.regions h.veneers in
      subst (λ (x : Tables). length x.sections < 0xFEFC) (sym is)
      (subst (λ (p : Placement). length (tables_in h.link p (length i.loads)).sections < 0xFEFC) (sym h.places) (few_sections (kind.Scatter s) c h.link (length i.loads) small.regions))

  pub can_be_named : CanName i t
  can_be_named = can_name i t h.link h.placement is few sized

  scatter_named : IsNamedFile i t (views i.start) (named_file i t)
  scatter_named =
      let can : CanRun i (views i.start) = h.reaches.1 in
      let shorter = plain_shorter i t in
      let plain : file_size i.loads < 2 ^ 32 = omega (arith, shorter, sized) in
      is_named_file i t h.link h.placement is few sized (views i.start)
      (is_elf [] i (can.filed [] refl refl).map (few_loads s ram os i views h small.loads) plain) h.reaches.0

-- ---- the bytes alone

one_load : (base start : ℕ) (ls : List LoadRegion) → map (λ (z : Segment). z.base) (map (λ (l : LoadRegion). record { base = l.base; bytes = l.bytes }) ls) ≡ base ∷ [] → start ≡ base
    → (i : Image) → i.loads ≡ ls → (x : ℕ) → file_at (binary_file i) start x ≡ map_of (segments_of i) x
one_load base start [] h at i e x = absurd cc
one_load base start (l ∷ m ∷ ls) h at i e x = absurd cc
one_load base start (l ∷ []) h at i e x =
    let whole : binary_file i ≡ l.bytes = ap (λ (ls : List LoadRegion). flat_map (λ (l : LoadRegion). l.bytes) ls) e ∙ append-nil l.bytes in
    let first : start ≡ l.base = at ∙ cc in
    ap (λ (bytes : List ℕ). file_at bytes start x) whole ∙ ap (λ (a : ℕ). file_at l.bytes a x) first
    ∙ ap (λ (ls : List LoadRegion). map_of (map (λ (l : LoadRegion). record { base = l.base; bytes = l.bytes }) ls) x) (sym e)

plain_binary : (base : ℕ) (ram : Option (List Range32)) (os : List (Named Object)) (i : Image) (views : ℕ → ByteMap) → IsPlacedAs (kind.Plain base) ram os i views → IsBinaryFile i (binary_file i)
plain_binary base ram os i views h = λ x. one_load base i.start i.loads (h.files i.start refl).files.bases h.told.start i refl x

-- ---- all

abbrev IsNamedAs : Kind → Option (List Range32) → List (Named Object) → Image → (ℕ → ByteMap) → Tables → Type 0
IsNamedAs k ram os i views t = (placed : IsPlacedAs k ram os i views) → t ≡ tables_in placed.link placed.placement (length i.loads) → IsNamedFile i t (views i.start) (named_file i t)

named_by : ReadingLaw → (s : Scatter) (text : List ℕ) → scatter_of text ≡ Ok s → (ram : Option (List Range32)) (os : List (Named Object)) (i : Image) (views : ℕ → ByteMap)
    (out : List ℕ) (t : Tables) (fs : List OutFile) (k : Kind) → kind.Scatter s ≡ k → (placed : IsPlacedAs k ram os i views)
    → t ≡ tables_in placed.link placed.placement (length i.loads) → filed (container.Elf true) out t i ≡ Ok fs → IsNamedFile i t (views i.start) (named_file i t)
named_by reading s text read ram os i views out t fs k shape placed tables is =
    let small : IsSmall (kind.Scatter s) = scatter_small s ((reading text s).0 read).1 in
    let sized : named_size i.loads t < 2 ^ 32 = named_short out t i (filed_as (container.Elf true) out t i fs is).0 in
    subst (λ (q : Kind). IsNamedAs q ram os i views t) shape (λ h same. scatter_named s ram os i views h t same small sized) placed tables

pub files_hold : ReadingLaw → (p : LinkPlacement) (c : Container) (text : List ℕ) (banks : Option (List Bank)) (k : Kind) (ram : Option (List Range32)) (os : List (Named Object)) (i : Image)
    (views : ℕ → ByteMap) (out : List ℕ) (t : Tables) (fs : List OutFile) → ComeTogether p c → IsAskedAs p text banks k ram → (placed : IsPlacedAs k ram os i views)
    → t ≡ tables_in placed.link placed.placement (length i.loads) → filed c out t i ≡ Ok fs → FilesHold c out t i views
files_hold reading p container.ImageFile text banks k ram os i views out t fs together asked placed tables is = tt
files_hold reading (placement.Scatter file) container.LoadFiles text banks k ram os i views out t fs together asked placed tables is =
    let here : IsPlacedAs (kind.Scatter asked.0) ram os i views = subst (λ (k : Kind). IsPlacedAs k ram os i views) asked.2 placed in
    let can : CanRun i (views i.start) = here.reaches.1 in
    λ line some. (refl, (can.filed out line some).map)
files_hold reading (placement.Scatter file) (container.Elf false) text banks k ram os i views out t fs together asked placed tables is =
    let here : IsPlacedAs (kind.Scatter asked.0) ram os i views = subst (λ (k : Kind). IsPlacedAs k ram os i views) asked.2 placed in
    scatter_elf asked.0 i views here.reaches (scatter_counted reading file text banks k ram os i views asked placed) (elf_short out t i (filed_as (container.Elf false) out t i fs is).0)
files_hold reading (placement.Scatter file) (container.Elf true) text banks k ram os i views out t fs together (s, read, shape, told) placed tables is =
    named_by reading s text read ram os i views out t fs k (sym shape) placed tables is
files_hold reading (placement.Plain base) container.Binary text banks k ram os i views out t fs together asked placed tables is =
    plain_binary base ram os i views (subst (λ (k : Kind). IsPlacedAs k ram os i views) asked.0 placed)
files_hold reading (placement.Plain base) container.LoadFiles text banks k ram os i views out t fs together asked placed tables is = absurd together
files_hold reading (placement.Aif base relocatable) container.LoadFiles text banks k ram os i views out t fs together asked placed tables is = absurd together
files_hold reading (placement.Plain base) (container.Elf symbols) text banks k ram os i views out t fs together asked placed tables is = absurd together
files_hold reading (placement.Aif base relocatable) (container.Elf symbols) text banks k ram os i views out t fs together asked placed tables is = absurd together
files_hold reading (placement.Scatter file) container.Binary text banks k ram os i views out t fs together asked placed tables is = absurd together
files_hold reading (placement.Aif base relocatable) container.Binary text banks k ram os i views out t fs together asked placed tables is = absurd together
