-- The tables of a link are those of the plan by which its image is placed, and a debugger finds each definition in them.
use Rattle.std.proofs.Common.{◌≡◌, ℕ, ◌+◌, ◌*◌, ◌^◌, ◌<◌, ◌≤◌, arith, Bool, true, false, List, ◌∷◌, ◌++◌, length, Option, Some, None, Result, Ok, refl, sym, ap, ◌∙◌, subst}
use Rattle.std.specs.Prelude.{slice_get}
use Rattle.std.proofs.lemmas.List.{length-append, length-map}
use Rattle.std.specs.List.{AllByRecursion}
use Rattle.sdt_word.specs.declared.ranges.Range32.{Range32}
use Rattle.sdt_fault.specs.declared.refusal.Refusal.{Refusal}
use Rattle.chunk_file.specs.Reading.{◌>>=◌}
use Rattle.aof_object.specs.declared.records.Entry.{Entry}
use Rattle.aof_object.specs.declared.records.Object.{Object}
use Rattle.aof_object.specs.Validity.{IsValid}
use Rattle.boot_code.specs.Boots.{ByteMap}
use Rattle.elf_image.specs.declared.tables.ElfSymbol.{ElfSymbol}
use Rattle.elf_image.specs.declared.tables.Tables.{Tables}
use Rattle.elf_image.specs.Tables.{named_file, named_size}
use Rattle.elf_image.specs.Symbols.{CanName, HasSymbols}
use Rattle.elf_image.proofs.SymbolLemmas.{symbols_law}
use Rattle.patch_model.specs.Fields.{Values}
use Rattle.place_model.specs.declared.scatter.Kind.{Kind}
use Rattle.place_model.specs.declared.scatter.Kind.TheVariants as kind
use Rattle.place_model.specs.declared.scatter.Scatter.{Scatter}
use Rattle.place_model.specs.declared.scatter.ScatterLoad.{ScatterLoad}
use Rattle.place_model.specs.Assignment.{description}
use Rattle.place_model.specs.Plans.{Plan}
use Rattle.scatter_text.specs.Laws.{ReadingLaw}
use Rattle.scatter_text.specs.Reading.{scatter_of}
use Rattle.bin_image.specs.declared.records.OutFile.{OutFile}
use Rattle.link_model.specs.declared.images.Image.{Image}
use Rattle.link_model.specs.declared.images.LoadRegion.{LoadRegion}
use Rattle.link_model.specs.declared.placing.Assigned.{Assigned}
use Rattle.link_model.specs.declared.placing.Placement.{Placement}
use Rattle.link_model.specs.declared.placing.Veneer.{Veneer}
use Rattle.link_model.specs.declared.selection.Definition.{Definition}
use Rattle.link_model.specs.declared.selection.Linked.{Linked}
use Rattle.link_model.specs.declared.selection.LinkedEntry.{LinkedEntry}
use Rattle.link_model.specs.declared.selection.Named.{Named}
use Rattle.link_model.specs.Definitions.{definitions_from, is_thumb}
use Rattle.link_model.specs.Members.{link_of, objects_in}
use Rattle.link_items.specs.LinkedItems.{contents_of}
use Rattle.link_place.specs.Placed.{placed}
use Rattle.link_values.specs.Placed as by_placement
use Rattle.link_apply.specs.Applied.{applied}
use Rattle.link_select.specs.Selection.{selection_of}
use Rattle.link_laws.specs.Joins.{IsMade}
use Rattle.link_laws.specs.Placing.{link_plan}
use Rattle.link_laws.specs.Plans.{IsSelection, values_by}
use Rattle.link_laws.proofs.AppliedAt.{same_values}
use Rattle.link_symbols.specs.Laws.{IsListed}
use Rattle.link_symbols.specs.Symbols.{final_value, tables_in}
use Rattle.link_symbols.proofs.LawLemmas.{definitions_law}
use Rattle.armlink_core.specs.declared.making.PlacedImage.{PlacedImage}
use Rattle.armlink_core.specs.Images.{described, image_made, image_with, linking}
use Rattle.armlink_core.specs.Linking.{made_at, made_of, made_with, symbols_of}
use Rattle.armlink_core.specs.Placing.{as_link, placed_by, placing}
use Rattle.armlink_core.specs.Sizes.{IsSmall}
use Rattle.armlink_core.proofs.ValidLemmas.{scatter_small}
use Rattle.armlink_core.specs.Tables.{link_tables, scatter_tables, tables_by}
use Rattle.tool_words.specs.declared.command.Bank.{Bank}
use Rattle.tool_words.specs.declared.command.Container.{Container}
use Rattle.tool_words.specs.declared.command.Container.TheVariants as container
use Rattle.tool_words.specs.declared.command.LinkPlacement.{LinkPlacement}
use Rattle.tool_words.specs.declared.command.LinkPlacement.TheVariants as placement
use Rattle.tool_words.specs.Commands.{ComeTogether}
use Rattle.sdt_toolkit.specs.Debug.{DefinitionsAreFound, NamesHold}
use Rattle.sdt_toolkit.specs.Links.{IsAskedAs, LinksTo, TablesTo, filed}
use Rattle.sdt_toolkit.specs.Plans.{IsPlacedAs}
use Rattle.sdt_toolkit.proofs.ContainerLemmas.{can_be_named, filed_as, named_short}
use Rattle.sdt_toolkit.proofs.LinkOnce.{ram_once}
use Rattle.sdt_toolkit.proofs.SelectionLemmas.{ok_same, selected, steps_ok}

-- ---- by the placement

pub tables_to : (p : LinkPlacement) (text : List ℕ) (banks : Option (List Bank)) (os : List (Named Object)) (image : Result Image Refusal) → LinksTo p text banks os image
    → (t : Tables) × TablesTo p text banks os t
tables_to (placement.Scatter file) text banks os image h = (scatter_tables text h.0 os, (h.0, h.1, refl))
tables_to (placement.Aif base relocatable) text banks os image h = (link_tables (kind.Aif base relocatable) h.0 os, (h.0, h.1, refl))
tables_to (placement.Plain base) text banks os image h = (link_tables (kind.Plain base) None os, refl)

-- of the kind that is asked for
pub tables_asked : (p : LinkPlacement) (text : List ℕ) (banks : Option (List Bank)) (os : List (Named Object)) (t : Tables) (k : Kind) (ram : Option (List Range32))
    → TablesTo p text banks os t → IsAskedAs p text banks k ram → t ≡ link_tables k ram os
tables_asked (placement.Scatter file) text banks os t k ram (r, is_ram, e) (s, read, is, is_told) =
    e ∙ (ap (λ (d : Result Scatter Refusal). tables_by (placed_by d r os)) read
    ∙ (ap (λ (x : Option (List Range32)). link_tables (kind.Scatter s) x os) (ram_once banks r ram is_ram is_told)
    ∙ ap (λ (q : Kind). link_tables q ram os) (sym is)))
tables_asked (placement.Aif base relocatable) text banks os t k ram (r, is_ram, e) (is, is_told) =
    e ∙ (ap (λ (x : Option (List Range32)). link_tables (kind.Aif base relocatable) x os) (ram_once banks r ram is_ram is_told)
    ∙ ap (λ (q : Kind). link_tables q ram os) (sym is))
tables_asked (placement.Plain base) text banks os t k ram e (is, none) =
    e ∙ (ap (λ (x : Option (List Range32)). link_tables (kind.Plain base) x os) (sym none) ∙ ap (λ (q : Kind). link_tables q ram os) (sym is))

-- an image that is linked as the words ask is one of that kind
pub links_as : (p : LinkPlacement) (text : List ℕ) (banks : Option (List Bank)) (os : List (Named Object)) (i : Image) (k : Kind) (ram : Option (List Range32))
    → LinksTo p text banks os (Ok i) → IsAskedAs p text banks k ram → linking k ram os ≡ Ok i
links_as (placement.Scatter file) text banks os i k ram (r, is_ram, e) (s, read, is, is_told) =
    ap (λ (q : Kind). linking q ram os) is
    ∙ (ap (λ (x : Option (List Range32)). linking (kind.Scatter s) x os) (ram_once banks ram r is_told is_ram)
    ∙ (ap (λ (d : Result Scatter Refusal). described d r os) (sym read) ∙ sym e))
links_as (placement.Aif base relocatable) text banks os i k ram (r, is_ram, e) (is, is_told) =
    ap (λ (q : Kind). linking q ram os) is
    ∙ (ap (λ (x : Option (List Range32)). linking (kind.Aif base relocatable) x os) (ram_once banks ram r is_told is_ram) ∙ sym e)
links_as (placement.Plain base) text banks os i k ram e (is, none) =
    ap (λ (q : Kind). linking q ram os) is ∙ (ap (λ (x : Option (List Range32)). linking (kind.Plain base) x os) none ∙ sym e)

-- ---- objects are selected as one link

abbrev entered_at : ℕ → ℕ → ℕ → Bool → LinkedEntry
entered_at object area offset thumb = record { object = object; area = area; offset = offset; thumb = thumb }

same_entries : (o p a b x y : ℕ) (s t : Bool) → o ≡ p → a ≡ b → x ≡ y → s ≡ t → entered_at o a x s ≡ entered_at p b y t
same_entries o p a b x y s t e f g h = rw (e, f, g, h) refl

abbrev linked_of : List (Named Object) → List Definition → LinkedEntry → Linked
linked_of os ds e = record { objects = os; definitions = ds; entry = e }

same_links : (os ps : List (Named Object)) (ds fs : List Definition) (e f : LinkedEntry) → os ≡ ps → ds ≡ fs → e ≡ f → linked_of os ds e ≡ linked_of ps fs f
same_links os ps ds fs e f g h k = rw (g, h, k) refl

abbrev entry_at : ℕ → ℕ → Entry
entry_at area offset = record { area = area; offset = offset }

module _ (l m : Linked) (h : IsSelection l) (k : IsSelection m) (objects : l.objects ≡ m.objects) where
  there : slice_get m.objects l.entry.object ≡ Some h.entered.object
  there = subst (λ (os : List (Named Object)). slice_get os l.entry.object ≡ Some h.entered.object) objects h.entered.at

  same_place : l.entry.object ≡ m.entry.object
  same_place = k.only l.entry.object h.entered.object (entry_at l.entry.area l.entry.offset) there h.entered.entry

  same_object : h.entered.object ≡ k.entered.object
  same_object =
      let one : slice_get m.objects m.entry.object ≡ Some h.entered.object = subst (λ (n : ℕ). slice_get m.objects n ≡ Some h.entered.object) same_place there in
      let both : Some h.entered.object ≡ Some k.entered.object = sym one ∙ k.entered.at in cc

  same_at : entry_at l.entry.area l.entry.offset ≡ entry_at m.entry.area m.entry.offset
  same_at =
      let both : Some (entry_at l.entry.area l.entry.offset) ≡ Some (entry_at m.entry.area m.entry.offset) =
      sym h.entered.entry ∙ (ap (λ (o : Named Object). o.value.entry) same_object ∙ k.entered.entry) in cc

  same_area : l.entry.area ≡ m.entry.area
  same_area = ap (λ (e : Entry). e.area) same_at

  same_state : l.entry.thumb ≡ m.entry.thumb
  same_state =
      h.entered.state ∙ (ap (λ (o : Named Object). is_thumb (slice_get o.value.areas l.entry.area)) same_object
      ∙ (ap (λ (n : ℕ). is_thumb (slice_get k.entered.object.value.areas n)) same_area ∙ sym k.entered.state))

  pub same_link : l ≡ m
  same_link =
      same_links l.objects m.objects l.definitions m.definitions l.entry m.entry objects
      (h.definitions ∙ (ap (λ (os : List (Named Object)). definitions_from 0 (objects_in os)) objects ∙ sym k.definitions))
      (same_entries l.entry.object m.entry.object l.entry.area m.entry.area l.entry.offset m.entry.offset l.entry.thumb m.entry.thumb same_place same_area
      (ap (λ (e : Entry). e.offset) same_at) same_state)

-- ---- and made with one placement

module _ (k : Kind) (ram : Option (List Range32)) (l : Linked) (a : Assigned) (vs : List Veneer) (p : Placement) (h : IsMade k ram l a vs p) where
  made_there : made_of k ram l ≡ made_at l a vs p
  made_there =
      ap (λ (x : Result Assigned Refusal). x >>= made_with k ram l) h.assigned
      ∙ (ap (λ (x : Result (List Veneer) Refusal). x >>= λ ws. placed k ram (contents_of l.objects a.regions ws) >>= made_at l a ws) h.planned
      ∙ ap (λ (x : Result Placement Refusal). x >>= made_at l a vs) h.placed)

  pub same_made : (m : PlacedImage) → made_of k ram l ≡ Ok m → (l ≡ m.linked) × (p ≡ m.placement)
  same_made m made =
      let (bytes, applies, is) = steps_ok (applied l p) (λ bytes. Ok (record { linked = l; assigned = a; veneers = vs; placement = p; bytes = bytes })) m (sym made_there ∙ made) in
      let one : PlacedImage = record { linked = l; assigned = a; veneers = vs; placement = p; bytes = bytes } in
      let same : one ≡ m = ok_same one m is in
      (ap (λ (n : PlacedImage). n.linked) same, ap (λ (n : PlacedImage). n.placement) same)

-- ---- by the plan

-- a symbol of the table lies in it
symbol_within : (size : ℕ) (all before after : List ElfSymbol) (x : ElfSymbol) → size ≡ 16 * (length all + 1) → all ≡ before ++ x ∷ after
    → 16 * (length before + 1 + 1) ≤ size
symbol_within size all before after x sized e =
    let many : length all ≡ length before + length (x ∷ after) = ap length e ∙ length-append before (x ∷ after) in omega arith

module _ (k : Kind) (ram : Option (List Range32)) (os : List (Named Object)) (i : Image) (views : ℕ → ByteMap) (h : IsPlacedAs k ram os i views) where
  loads_count : length i.loads ≡ length (description k)
  loads_count =
      sym (length-map i.loads (λ (load : LoadRegion). load.name)) ∙ ap length h.told.names ∙ length-map (description k) (λ (load : ScatterLoad). load.name)

  pub by_plan : linking k ram os ≡ Ok i → link_tables k ram os ≡ tables_in h.link h.placement (length i.loads)
  by_plan links =
      let (l, chosen, image) = steps_ok (selection_of (Some (symbols_of k)) os) (image_with k ram) i links in
      let (m, made, is) = steps_ok (made_of k ram l) (image_made k) i image in
      let s = selected (Some (symbols_of k)) os l (subst (λ (xs : List (Named Object)). AllByRecursion (λ o. IsValid o.value) xs) h.objects h.made.valid) chosen in
      let own : made_of k ram h.link ≡ Ok m =
      subst (λ (n : Linked). made_of k ram n ≡ Ok m) (sym (same_link h.link l h.selected s.selection (h.objects ∙ sym s.objects))) made in
      let both = same_made k ram h.link h.assigned h.veneers h.placement h.made m own in
      let placed_so : placing k ram os ≡ Ok m = ap (λ (x : Result Linked Refusal). x >>= λ n. made_of k ram n) chosen ∙ made in
      ap (λ (x : Result PlacedImage Refusal). tables_by (x >>= λ parts. Ok (as_link k parts))) placed_so
      ∙ (ap (λ (n : Linked). tables_in n m.placement (length (description k))) (sym both.0)
      ∙ (ap (λ (p : Placement). tables_in h.link p (length (description k))) (sym both.1)
      ∙ ap (λ (n : ℕ). tables_in h.link h.placement n) (sym loads_count)))

  -- ---- definitions

  abbrev plan : Plan
  plan = link_plan k h.link h.assigned.regions h.veneers

  pub values_are : (own : ℕ) → by_placement.values_in (link_of h.link) h.placement own ≡ values_by plan h.link own
  values_are own =
      ap (λ (p : Placement). by_placement.values_in (link_of h.link) p own) h.places ∙ same_values k ram h.link h.assigned.regions h.veneers h.placed own

  pub definitions_found : (t : Tables) → t ≡ tables_in h.link h.placement (length i.loads) → CanName i t
      → DefinitionsAreFound (named_file i t) (length t.sections + 1) plan h.link
  definitions_found t is can own number s there defined =
      let found : IsListed h.link h.placement (length i.loads) own number s = definitions_law h.link h.placement (length i.loads) own number s there defined in
      let table : HasSymbols (named_file i t) (length t.sections + 1) t.symbols = symbols_law i t can in
      let among : t.symbols ≡ found.before ++ found.symbol ∷ found.after = ap (λ (x : Tables). x.symbols) is ∙ found.there in
      record {
        kind = table.kind;
        number = length found.before + 1;
        symbol = found.symbol;
        behind = omega arith;
        within = symbol_within _ t.symbols found.before found.after found.symbol table.size among;
        there = table.each found.before found.symbol found.after among;
        name = found.name;
        value = found.value ∙ ap (λ (v : Values). final_value (v.symbol number)) (values_are own);
        binding = found.binding;
      }

-- where symbols are asked for
abbrev CanBeNamed : Kind → Option (List Range32) → List (Named Object) → Image → (ℕ → ByteMap) → Tables → Type 0
CanBeNamed k ram os i views t = (h : IsPlacedAs k ram os i views) → t ≡ tables_in h.link h.placement (length i.loads) → CanName i t

scatter_names : ReadingLaw → (s : Scatter) (text : List ℕ) → scatter_of text ≡ Ok s → (ram : Option (List Range32)) (os : List (Named Object)) (i : Image) (views : ℕ → ByteMap)
    (out : List ℕ) (t : Tables) (fs : List OutFile) → filed (container.Elf true) out t i ≡ Ok fs → (k : Kind) → kind.Scatter s ≡ k → (h : IsPlacedAs k ram os i views)
    → t ≡ tables_in h.link h.placement (length i.loads)
    → DefinitionsAreFound (named_file i t) (length t.sections + 1) (link_plan k h.link h.assigned.regions h.veneers) h.link
scatter_names reading s text read ram os i views out t fs files k shape h is =
    let small : IsSmall (kind.Scatter s) = scatter_small s ((reading text s).0 read).1 in
    let sized : named_size i.loads t < 2 ^ 32 = named_short out t i (filed_as (container.Elf true) out t i fs files).0 in
    definitions_found k ram os i views h t is
    (subst (λ (q : Kind). CanBeNamed q ram os i views t) shape (λ placed same. can_be_named s ram os i views placed t same small sized) h is)

pub names_hold : ReadingLaw → (p : LinkPlacement) (c : Container) (text : List ℕ) (banks : Option (List Bank)) (k : Kind) (ram : Option (List Range32)) (os : List (Named Object)) (i : Image)
    (views : ℕ → ByteMap) (out : List ℕ) (t : Tables) (fs : List OutFile) → ComeTogether p c → IsAskedAs p text banks k ram → (h : IsPlacedAs k ram os i views)
    → t ≡ tables_in h.link h.placement (length i.loads) → filed c out t i ≡ Ok fs → NamesHold c i t (link_plan k h.link h.assigned.regions h.veneers) h.link
names_hold reading p container.LoadFiles text banks k ram os i views out t fs together asked h is files = tt
names_hold reading p container.Binary text banks k ram os i views out t fs together asked h is files = tt
names_hold reading p container.ImageFile text banks k ram os i views out t fs together asked h is files = tt
names_hold reading p (container.Elf false) text banks k ram os i views out t fs together asked h is files = tt
names_hold reading (placement.Scatter file) (container.Elf true) text banks k ram os i views out t fs together (s, read, shape, told) h is files =
    scatter_names reading s text read ram os i views out t fs files k (sym shape) h is
names_hold reading (placement.Plain base) (container.Elf true) text banks k ram os i views out t fs together asked h is files = absurd together
names_hold reading (placement.Aif base relocatable) (container.Elf true) text banks k ram os i views out t fs together asked h is files = absurd together
