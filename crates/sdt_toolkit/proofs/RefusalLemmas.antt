-- What the refusals of a link say follows from the definitions that they are told by.
use Rattle.std.proofs.Common.{◌≡◌, ◌⊎◌, inl, inr, ℕ, ◌<◌, Bool, true, false, List, ◌∷◌, Option, Some, None, Result, Ok, Err, refl, sym, ap, subst, ◌∙◌}
use Rattle.std.specs.Prelude.{◌==◌, ◌↔◌}
use Rattle.sdt_word.specs.declared.ranges.Range32.{Range32}
use Rattle.sdt_fault.specs.declared.answer.Answer.{Answer}
use Rattle.sdt_fault.specs.declared.answer.Answer.TheVariants as answer
use Rattle.sdt_fault.specs.declared.refusal.Refusal.{Refusal}
use Rattle.sdt_outside.specs.Files.{Files}
use Rattle.chunk_file.specs.Reading.{◌>>=◌}
use Rattle.arm7_bus.specs.Seats.{Seat}
use Rattle.aof_object.specs.declared.records.Object.{Object}
use Rattle.place_model.specs.declared.scatter.Kind.{Kind}
use Rattle.place_model.specs.declared.scatter.Kind.TheVariants as kind
use Rattle.place_model.specs.declared.scatter.Scatter.{Scatter}
use Rattle.place_model.specs.Plans.{Plan}
use Rattle.place_model.specs.Faults.{place_refusal}
use Rattle.link_model.specs.declared.images.Image.{Image}
use Rattle.link_model.specs.declared.placing.Assigned.{Assigned}
use Rattle.link_model.specs.declared.placing.Placement.{Placement}
use Rattle.link_model.specs.declared.placing.Veneer.{Veneer}
use Rattle.link_model.specs.declared.selection.Linked.{Linked}
use Rattle.link_model.specs.declared.selection.Named.{Named}
use Rattle.link_items.specs.LinkedItems.{contents_of, has_header}
use Rattle.link_assign.specs.Assigning.{assignment_of}
use Rattle.link_select.specs.Selection.{selection_of}
use Rattle.link_refusals.specs.Refusals.{RefusalsLaw}
use Rattle.link_refusals.proofs.RefusalLemmas.{bind_err, err_inj}
use Rattle.link_veneer.specs.Planning.{planned_veneers}
use Rattle.link_place.specs.Placed.{placed, told}
use Rattle.link_laws.specs.Placing.{link_plan}
use Rattle.scatter_text.specs.Reading.{scatter_of}
use Rattle.armlink_core.specs.Images.{described, image_made, image_with, linking, undescribed}
use Rattle.armlink_core.specs.Linking.{made_at, made_with, symbols_of}
use Rattle.bin_image.specs.declared.records.OutFile.{OutFile}
use Rattle.tool_answers.specs.Inputs.{inputs_of}
use Rattle.tool_answers.specs.Outcomes.{Outcome, Outside}
use Rattle.tool_library.specs.declared.linkables.Linkable.{Linkable}
use Rattle.tool_words.specs.declared.command.Bank.{Bank}
use Rattle.tool_words.specs.declared.command.Command.{Command}
use Rattle.tool_words.specs.declared.command.Command.TheVariants as command
use Rattle.tool_words.specs.declared.command.LinkPlacement.{LinkPlacement}
use Rattle.tool_words.specs.declared.command.LinkPlacement.TheVariants as placement
use Rattle.tool_words.specs.declared.command.LinkWords.{LinkWords}
use Rattle.sdt_toolkit.specs.Commands.{Commanded}
use Rattle.sdt_toolkit.specs.Inputs.{InputsAre}
use Rattle.sdt_toolkit.specs.Links.{FilesAsk, InputsMake, IsRam, LinkAnswers, LinkAsks, LinksTo, ReadAsks, WordsAsk, filed, files_read, inputs_in, text_in, writes_all}
use Rattle.sdt_toolkit.specs.Reads.{Reads, reads_of}
use Rattle.sdt_toolkit.specs.Refusals.{IsLinkRefused, IsLongImage, LinkRefusalsAreTrue, LinkSaysWhy, SaysOfAreas, SaysOfLink, SaysOfObjects, SaysOfPlaced, SaysOfText, SaysOfVeneers}

-- ---- the link

told_err : (o : Option Refusal) (p : Plan) (r : Refusal) → told o p ≡ Err r → o ≡ Some r
told_err None p r e = absurd cc
told_err (Some q) p r e = ap (λ (z : Refusal). Some z) (err_inj {A = Placement} q r e)

module _ (law : RefusalsLaw) (k : Kind) (ram : Option (List Range32)) (l : Linked) (r : Refusal) where
  assoc : {A B C : Type 0} (x : Result A Refusal) (f : A → Result B Refusal) (g : B → Result C Refusal) → ((x >>= f) >>= g) ≡ (x >>= λ a. f a >>= g)
  assoc (Ok a) f g = refl
  assoc (Err q) f g = refl

  veneers_say : (a : Assigned) (vs : List Veneer) → (placed k ram (contents_of l.objects a.regions vs) >>= λ p. made_at l a vs p >>= image_made k) ≡ Err r → SaysOfVeneers k ram l a vs r
  veneers_say a vs e = go (bind_err (placed k ram (contents_of l.objects a.regions vs)) (λ p. made_at l a vs p >>= image_made k) r e)
    where
      go : (placed k ram (contents_of l.objects a.regions vs) ≡ Err r) ⊎ ((p : Placement) × (placed k ram (contents_of l.objects a.regions vs) ≡ Ok p) × ((made_at l a vs p >>= image_made k) ≡ Err r)) → SaysOfVeneers k ram l a vs r
      go (inl h) = inl (law.plan k ram (link_plan k l a.regions vs) r (told_err (place_refusal k ram (link_plan k l a.regions vs)) (link_plan k l a.regions vs) r h))
      go (inr h) = inr h

  made_says : (a : Assigned) → (made_with k ram l a >>= image_made k) ≡ Err r → SaysOfAreas k ram l a r
  made_says a e = go (bind_err (planned_veneers l a (has_header k)) _ r (sym (assoc (planned_veneers l a (has_header k)) (λ vs. placed k ram (contents_of l.objects a.regions vs) >>= λ p. made_at l a vs p) (image_made k)) ∙ e))
    where
      go : (planned_veneers l a (has_header k) ≡ Err r) ⊎ ((vs : List Veneer) × (planned_veneers l a (has_header k) ≡ Ok vs)
          × (((placed k ram (contents_of l.objects a.regions vs) >>= λ p. made_at l a vs p) >>= image_made k) ≡ Err r)) → SaysOfAreas k ram l a r
      go (inl h) = inl h
      go (inr (vs, is, h)) =
          inr (vs, is, veneers_say a vs (sym (assoc (placed k ram (contents_of l.objects a.regions vs)) (λ p. made_at l a vs p) (image_made k)) ∙ h))

  link_says : image_with k ram l ≡ Err r → SaysOfLink k ram l r
  link_says e = go (bind_err (assignment_of k l.objects) _ r (sym (assoc (assignment_of k l.objects) (λ a. made_with k ram l a) (image_made k)) ∙ e))
    where
      go : (assignment_of k l.objects ≡ Err r) ⊎ ((a : Assigned) × (assignment_of k l.objects ≡ Ok a) × ((made_with k ram l a >>= image_made k) ≡ Err r)) → SaysOfLink k ram l r
      go (inl h) = inl (law.areas k l.objects r h)
      go (inr (a, is, h)) = inr (a, is, made_says a h)

-- ---- objects

module _ (law : RefusalsLaw) where
  objects_say : (k : Kind) (ram : Option (List Range32)) (os : List (Named Object)) (r : Refusal) → linking k ram os ≡ Err r → SaysOfObjects k ram os r
  objects_say k ram os r e = go (bind_err (selection_of (Some (symbols_of k)) os) (λ l. image_with k ram l) r e)
    where
      go : (selection_of (Some (symbols_of k)) os ≡ Err r) ⊎ ((l : Linked) × (selection_of (Some (symbols_of k)) os ≡ Ok l) × (image_with k ram l ≡ Err r)) → SaysOfObjects k ram os r
      go (inl h) = inl (law.names (Some (symbols_of k)) os r h)
      go (inr (l, is, h)) = inr (l, is, link_says law k ram l r h)

  text_says : (text : List ℕ) (os : List (Named Object)) (wrong r : Refusal) → scatter_of text ≡ Err wrong → undescribed wrong os ≡ Err r → SaysOfText text os r
  text_says text os wrong r is e = go (bind_err (selection_of None os) (λ l. not_placed wrong l) r e)
    where
      not_placed : Refusal → Linked → Result Image Refusal
      not_placed q l = Err q

      go : (selection_of None os ≡ Err r) ⊎ ((l : Linked) × (selection_of None os ≡ Ok l) × (◌≡◌ {A = Result Image Refusal} (Err wrong) (Err r))) → SaysOfText text os r
      go (inl h) = (wrong, is, inl (law.names None os r h))
      go (inr (l, at, h)) = (wrong, is, inr (l, at, sym (err_inj {A = Image} wrong r h)))

  scatter_says : (file text : List ℕ) (banks : Option (List Bank)) (os : List (Named Object)) (r : Refusal) (ram : Option (List Range32)) → IsRam banks ram
      → (read : Result Scatter Refusal) → scatter_of text ≡ read → described read ram os ≡ Err r → SaysOfPlaced (placement.Scatter file) text banks os r
  scatter_says file text banks os r ram is_ram (Ok s) is e = inl (kind.Scatter s, ram, (s, is, refl, is_ram), objects_say (kind.Scatter s) ram os r e)
  scatter_says file text banks os r ram is_ram (Err wrong) is e = inr (file, refl, text_says text os wrong r is e)

  pub image_says : (form : LinkPlacement) (text : List ℕ) (banks : Option (List Bank)) (os : List (Named Object)) (r : Refusal) (i : Result Image Refusal) → LinksTo form text banks os i → i ≡ Err r → SaysOfPlaced form text banks os r
  image_says (placement.Scatter file) text banks os r i (ram, is_ram, is) e = scatter_says file text banks os r ram is_ram (scatter_of text) refl (sym is ∙ e)
  image_says (placement.Aif base relocatable) text banks os r i (ram, is_ram, is) e =
      inl (kind.Aif base relocatable, ram, (refl, is_ram), objects_say (kind.Aif base relocatable) ram os r (sym is ∙ e))
  image_says (placement.Plain base) text banks os r i is e = inl (kind.Plain base, None, (refl, refl), objects_say (kind.Plain base) None os r (sym is ∙ e))

  module _ (s : Reads) (sources : Bool) (w : LinkWords) (r : Refusal) where
    abbrev Why : List (List ℕ) → Type 0
    Why contents = InputsAre s sources w.names (inputs_in w.placement contents) (Err r) ⊎ IsLinkRefused s sources w contents r

    made_says_why : (contents : List (List ℕ)) (inputs : Result (List (Named Linkable)) Refusal) (made : Result (List OutFile) Refusal)
        → InputsAre s sources w.names (inputs_in w.placement contents) inputs → InputsMake w (text_in w.placement contents) inputs made → made ≡ Err r → Why contents
    made_says_why contents (Err q) made judged h e =
        let same : q ≡ r = err_inj {A = List OutFile} q r (sym h ∙ e) in
        inl (subst (λ (z : Refusal). InputsAre s sources w.names (inputs_in w.placement contents) (Err z)) same judged)
    made_says_why contents (Ok xs) made judged (image, tables, is_image, is) e = go (bind_err image (filed w.container w.output tables) r (sym is ∙ e))
      where
        why_linked : SaysOfPlaced w.placement (text_in w.placement contents) w.ram is_image.objects r ⊎ IsLongImage w (text_in w.placement contents) is_image.objects r → Why contents
        why_linked says = inr (record { inputs = xs; objects = is_image.objects; judged = judged; linked = is_image.linked; says = says })

        go : (image ≡ Err r) ⊎ ((i : Image) × (image ≡ Ok i) × (filed w.container w.output tables i ≡ Err r)) → Why contents
        go (inl h) = why_linked (inl (image_says w.placement (text_in w.placement contents) w.ram is_image.objects r image is_image.links h))
        go (inr (i, at, h)) =
            why_linked (inr (i, tables, subst (LinksTo w.placement (text_in w.placement contents) w.ram is_image.objects) at is_image.links, is_image.named, h))

    asks_why : (contents : List (List ℕ)) → LinkAsks s sources w contents (Err r) → Why contents
    asks_why contents h = go (bind_err h.made writes_all r (sym h.outcome))
      where
        go : (h.made ≡ Err r) ⊎ ((fs : List OutFile) × (h.made ≡ Ok fs) × (writes_all fs ≡ Err r)) → Why contents
        go (inl e) = made_says_why contents h.makes.inputs h.made h.makes.judged h.makes.files e
        go (inr (fs, at, e)) = absurd cc

    why : (files : Files) → s.told ≡ Some files → WordsAsk s sources w (Err r) → LinkSaysWhy s files sources w r
    why files told asks = go (inputs_of files (files_read w)) refl (subst (λ (t : Option Files). FilesAsk t s sources w (Err r)) told asks)
      where
        go : (read : Result (List (List ℕ)) Refusal) → inputs_of files (files_read w) ≡ read → ReadAsks s sources w read (Err r) → LinkSaysWhy s files sources w r
        go (Err q) is h = inl (is ∙ ap (λ (z : Refusal). Err z) (sym (err_inj {A = Outcome} r q h)))
        go (Ok contents) is h = inr (contents, is, asks_why contents h)

  -- ---- the clause of the top call

  refused_asks : (sources : Bool) (w : LinkWords) (o : Outside) (r : Refusal) → LinkAnswers sources w o (answer.Refused r) → WordsAsk (reads_of o) sources w (Err r)
  unfolding LinkAnswers
  refused_asks sources w o r h = subst (WordsAsk (reads_of o) sources w) h.2.0 h.1

  link_commanded : (asked : Result Command ℕ) (o : Outside) (seats left : List Seat) (a : Answer) (r : Refusal) (w : LinkWords) → Commanded asked o seats left a → a ≡ answer.Refused r → asked ≡ Ok (command.Link w) → LinkAnswers false w o (answer.Refused r)
  unfolding Commanded
  link_commanded asked o seats left a r w commanded e is =
      (subst (λ (x : Answer). Commanded (Ok (command.Link w)) o seats left x) e (subst (λ (x : Result Command ℕ). Commanded x o seats left a) is commanded)).0

  build_commanded : (asked : Result Command ℕ) (o : Outside) (seats left : List Seat) (a : Answer) (r : Refusal) (w : LinkWords) → Commanded asked o seats left a → a ≡ answer.Refused r → asked ≡ Ok (command.Build w) → LinkAnswers true w o (answer.Refused r)
  unfolding Commanded
  build_commanded asked o seats left a r w commanded e is =
      (subst (λ (x : Answer). Commanded (Ok (command.Build w)) o seats left x) e (subst (λ (x : Result Command ℕ). Commanded x o seats left a) is commanded)).0

  pub link_refusals_told : (asked : Result Command ℕ) (o : Outside) (seats left : List Seat) (a : Answer) → Commanded asked o seats left a → LinkRefusalsAreTrue asked o a
  link_refusals_told asked o seats left a commanded files w r told e = (
    λ is. why (reads_of o) false w r files told (refused_asks false w o r (link_commanded asked o seats left a r w commanded e is)),
    λ is. why (reads_of o) true w r files told (refused_asks true w o r (build_commanded asked o seats left a r w commanded e is)),
  )
