-- The text of a report tells of the plan by which the image is placed, and a report is refused as that image is.
use Rattle.std.proofs.Common.{◌≡◌, ℕ, List, length, Option, Some, None, Result, Ok, Err, refl, sym, ap, ◌∙◌, subst}
use Rattle.sdt_word.specs.declared.ranges.Range32.{Range32}
use Rattle.sdt_fault.specs.declared.answer.Fault.{Fault}
use Rattle.sdt_fault.specs.declared.answer.Fault.TheVariants as fault
use Rattle.sdt_fault.specs.declared.refusal.Refusal.{Refusal}
use Rattle.chunk_file.specs.Reading.{◌>>=◌, Gives}
use Rattle.alf_archive.specs.declared.records.Archive.{Archive}
use Rattle.aof_object.specs.declared.records.Object.{Object}
use Rattle.boot_code.specs.Boots.{ByteMap}
use Rattle.place_model.specs.declared.scatter.Kind.{Kind}
use Rattle.place_model.specs.declared.scatter.Kind.TheVariants as kind
use Rattle.place_model.specs.declared.scatter.Scatter.{Scatter}
use Rattle.scatter_text.specs.Reading.{scatter_of}
use Rattle.link_model.specs.declared.images.Image.{Image}
use Rattle.link_model.specs.declared.placing.Placement.{Placement}
use Rattle.link_model.specs.declared.selection.Linked.{Linked}
use Rattle.link_model.specs.declared.selection.Named.{Named}
use Rattle.link_model.specs.Chosen.{AreLinked}
use Rattle.link_select.specs.Selection.{selection_of}
use Rattle.link_report.specs.Reports.{report_text}
use Rattle.armlink_core.specs.declared.making.PlacedImage.{PlacedImage}
use Rattle.armlink_core.specs.declared.placing.PlacedLink.{PlacedLink}
use Rattle.armlink_core.specs.Images.{Links, described, image_made, image_of, linking}
use Rattle.armlink_core.specs.Linking.{made_of, symbols_of}
use Rattle.armlink_core.specs.Moves.{moves_in}
use Rattle.armlink_core.specs.Placing.{as_link, placed_by, placed_link, placing}
use Rattle.armlink_core.specs.Reports.{report_made, report_of, text_of}
use Rattle.tool_words.specs.declared.command.Bank.{Bank}
use Rattle.tool_words.specs.declared.command.LinkPlacement.{LinkPlacement}
use Rattle.tool_words.specs.declared.command.LinkPlacement.TheVariants as placement
use Rattle.tool_words.specs.Commands.{IsBased}
use Rattle.tool_library.specs.declared.linkables.Linkable.{Linkable}
use Rattle.sdt_toolkit.specs.Inputs.{Tells, archives_among, objects_among}
use Rattle.sdt_toolkit.specs.Links.{IsRam, LinksTo}
use Rattle.sdt_toolkit.specs.Plans.{ImagesArePlaced, IsDescribed, IsPlacedAs}
use Rattle.sdt_toolkit.specs.Reports.{IsReport, ReportIs, TellsPlan, report_as}
use Rattle.sdt_toolkit.specs.Starting.{AreSound}
use Rattle.sdt_toolkit.proofs.ImageLemmas.{LinksSound}
use Rattle.sdt_toolkit.proofs.SelectionLemmas.{ok_same, selected, steps_ok}
use Rattle.sdt_toolkit.proofs.TableLemmas.{same_link, same_made}

err_same : {A B : Type 0} (q r : Refusal) → ◌≡◌ {A = Result A Refusal} (Err q) (Err r) → ◌≡◌ {A = Result B Refusal} (Err q) (Err r)
err_same q r h = let same : q ≡ r = cc in ap (λ (e : Refusal). Err e) same

assoc : {A B C : Type 0} (x : Result A Refusal) (f : A → Result B Refusal) (g : B → Result C Refusal) → (x >>= λ a. f a >>= g) ≡ ((x >>= f) >>= g)
assoc (Ok a) f g = refl
assoc (Err r) f g = refl

-- ---- what a call reports of a link that is placed

module _ (objects : List (Named Object)) (archives : List (Named Archive)) (f : List (Named Object) → Result PlacedLink Refusal) (given : ℕ) where
  abbrev pub its_report : List (Named Object) → Result (List ℕ) Refusal
  its_report os = f os >>= report_made given

  pub reported : (p : PlacedLink) → Links objects archives f (Ok p) → (r : Result (List ℕ) Fault) → Gives r (report_made given p) → Links objects archives its_report r
  reported p is (Ok text) g = (is.0, is.1, ap (λ (x : Result PlacedLink Refusal). x >>= report_made given) is.2 ∙ g)
  reported p is (Err (fault.Refused e)) g = (is.0, is.1, ap (λ (x : Result PlacedLink Refusal). x >>= report_made given) is.2 ∙ g)
  reported p is (Err (fault.ReadFault name)) g = absurd g
  reported p is (Err fault.NoMemory) g = tt

  pub unplaced : (e : Fault) → Links {A = PlacedLink} objects archives f (Err e) → Links {A = List ℕ} objects archives its_report (Err e)
  unplaced (fault.Refused r) is = (is.0, is.1, ap (λ (x : Result PlacedLink Refusal). x >>= report_made given) is.2)
  unplaced (fault.ReadFault name) is = is
  unplaced fault.NoMemory is = tt

-- ---- the report of a form

module _ (k : Kind) (ram : Option (List Range32)) (os : List (Named Object)) (given : ℕ) where
  linked_as : linking k ram os ≡ (placing k ram os >>= image_made k)
  linked_as = assoc (selection_of (Some (symbols_of k)) os) (λ l. made_of k ram l) (image_made k)

  record IsPlanned (told : List ℕ) : Type 0 where
    pub image : Image
    pub links : linking k ram os ≡ Ok image
    pub views : ℕ → ByteMap
    pub placed : IsPlacedAs k ram os image views
    pub tells : told ≡ report_text k given placed.link placed.placement

  is_planned : ImagesArePlaced → AreSound os → IsDescribed k → (told : List ℕ) → report_of k ram given os ≡ Ok told → IsPlanned told
  is_planned law sound is told h =
      let (p, link, report) = steps_ok (placed_link k ram os) (report_made given) told h in
      let (m, parts, whole) = steps_ok (placing k ram os) (λ parts. Ok (as_link k parts)) p link in
      let made : report_made given (as_link k m) ≡ Ok told = subst (λ (q : PlacedLink). report_made given q ≡ Ok told) (sym (ok_same (as_link k m) p whole)) report in
      let (moves, listed, text) = steps_ok (moves_in k m.linked m.placement) (λ moves. Ok (text_of given (as_link k m))) told made in
      let image : Image = image_of k m moves in
      let links : linking k ram os ≡ Ok image =
      linked_as ∙ (ap (λ (x : Result PlacedImage Refusal). x >>= image_made k) parts ∙ ap (λ (x : Result (List ℕ) Refusal). x >>= λ ms. Ok (image_of k m ms)) listed) in
      let (l, chosen, behind) = steps_ok (selection_of (Some (symbols_of k)) os) (λ l. made_of k ram l) m parts in
      let s = selected (Some (symbols_of k)) os l sound.valid chosen in
      let (views, placed) = law k ram os image sound is links in
      let own : made_of k ram placed.link ≡ Ok m =
      subst (λ (n : Linked). made_of k ram n ≡ Ok m) (sym (same_link placed.link l placed.selected s.selection (placed.objects ∙ sym s.objects))) behind in
      let both = same_made k ram placed.link placed.assigned placed.veneers placed.placement placed.made m own in
      record {
        image = image;
        links = links;
        views = views;
        placed = placed;
        tells = sym (ok_same (text_of given (as_link k m)) told text)
            ∙ (ap (λ (n : Linked). report_text k given n m.placement) (sym both.0) ∙ ap (λ (q : Placement). report_text k given placed.link q) (sym both.1));
      }

  refused_alike : (r : Refusal) → report_of k ram given os ≡ Err r → linking k ram os ≡ Err r
  refused_alike r h = linked_as ∙ go (placing k ram os) h
    where
      by_moves : (m : PlacedImage) (x : Result (List ℕ) Refusal) → (x >>= λ moves. Ok (text_of given (as_link k m))) ≡ Err r → (x >>= λ moves. Ok (image_of k m moves)) ≡ Err r
      by_moves m (Ok moves) e = absurd (let bad : ◌≡◌ {A = Result (List ℕ) Refusal} (Ok (text_of given (as_link k m))) (Err r) = e in cc)
      by_moves m (Err q) e = err_same {A = List ℕ} {B = Image} q r e

      go : (x : Result PlacedImage Refusal) → ((x >>= λ parts. Ok (as_link k parts)) >>= report_made given) ≡ Err r → (x >>= image_made k) ≡ Err r
      go (Ok m) e = by_moves m (moves_in k m.linked m.placement) e
      go (Err q) e = err_same {A = List ℕ} {B = Image} q r e

-- ---- by a text that is no description

unread_ok : (x : Result Linked Refusal) (q : Refusal) (given : ℕ) (told : List ℕ) → ((x >>= λ l. Err q) >>= report_made given) ≡ Ok told → ⊥
unread_ok (Ok l) q given told h = let bad : ◌≡◌ {A = Result (List ℕ) Refusal} (Err q) (Ok told) = h in cc
unread_ok (Err e) q given told h = let bad : ◌≡◌ {A = Result (List ℕ) Refusal} (Err e) (Ok told) = h in cc

unread_err : (x : Result Linked Refusal) (q r : Refusal) (given : ℕ) → ((x >>= λ l. Err q) >>= report_made given) ≡ Err r → ◌≡◌ {A = Result Image Refusal} (x >>= λ l. Err q) (Err r)
unread_err (Ok l) q r given h = err_same {A = List ℕ} {B = Image} q r h
unread_err (Err e) q r given h = err_same {A = List ℕ} {B = Image} e r h

-- ---- by the placement

module _ (law : ImagesArePlaced) (text : List ℕ) (banks : Option (List Bank)) (ram : Option (List Range32)) (told : IsRam banks ram) where
  described_plan : (file : List ℕ) (os : List (Named Object)) (given : ℕ) (t : List ℕ) → AreSound os → (d : Result Scatter Refusal) → scatter_of text ≡ d
      → (placed_by d ram os >>= report_made given) ≡ Ok t → TellsPlan (placement.Scatter file) text banks os given t
  described_plan file os given t sound (Ok s) e h =
      let p = is_planned (kind.Scatter s) ram os given law sound (text, e) t h in
      record {
        image = p.image;
        links = (ram, told, sym (ap (λ (d : Result Scatter Refusal). described d ram os) e ∙ p.links));
        memory = record { shape = kind.Scatter s; ram = ram; asked = (s, e, refl, told); views = p.views; placed = p.placed };
        tells = p.tells;
      }
  described_plan file os given t sound (Err q) e h = absurd (unread_ok (selection_of None os) q given t h)

  tells_plan : (f : LinkPlacement) (os : List (Named Object)) (given : ℕ) (t : List ℕ) → IsBased f → AreSound os → report_as f text ram given os ≡ Ok t
      → TellsPlan f text banks os given t
  tells_plan (placement.Scatter file) os given t based sound h = described_plan file os given t sound (scatter_of text) refl h
  tells_plan (placement.Aif base relocatable) os given t based sound h =
      let p = is_planned (kind.Aif base relocatable) ram os given law sound based t h in
      record {
        image = p.image;
        links = (ram, told, sym p.links);
        memory = record { shape = kind.Aif base relocatable; ram = ram; asked = (refl, told); views = p.views; placed = p.placed };
        tells = p.tells;
      }
  tells_plan (placement.Plain base) os given t based sound h =
      let p = is_planned (kind.Plain base) None os given law sound based t h in
      record {
        image = p.image;
        links = sym p.links;
        memory = record { shape = kind.Plain base; ram = None; asked = (refl, refl); views = p.views; placed = p.placed };
        tells = p.tells;
      }

  described_refusal : (os : List (Named Object)) (given : ℕ) (r : Refusal) → (d : Result Scatter Refusal) → (placed_by d ram os >>= report_made given) ≡ Err r → described d ram os ≡ Err r
  described_refusal os given r (Ok s) h = refused_alike (kind.Scatter s) ram os given r h
  described_refusal os given r (Err q) h = unread_err (selection_of None os) q r given h

  links_refused : (f : LinkPlacement) (os : List (Named Object)) (given : ℕ) (r : Refusal) → report_as f text ram given os ≡ Err r → LinksTo f text banks os (Err r)
  links_refused (placement.Scatter file) os given r h = (ram, told, sym (described_refusal os given r (scatter_of text) h))
  links_refused (placement.Aif base relocatable) os given r h = (ram, told, sym (refused_alike (kind.Aif base relocatable) ram os given r h))
  links_refused (placement.Plain base) os given r h = sym (refused_alike (kind.Plain base) None os given r h)

  report_is : (f : LinkPlacement) (inputs : List (Named Linkable)) (os : List (Named Object)) (x : Result (List ℕ) Refusal) → IsBased f
      → AreLinked (objects_among inputs) (archives_among inputs) os → AreSound os → report_as f text ram (length (objects_among inputs)) os ≡ x
      → ReportIs f text banks inputs x
  report_is f inputs os x based linked sound e = record {
    objects = os;
    linked = linked;
    ram = ram;
    writable = told;
    made = sym e;
    plan = λ t is. tells_plan f os (length (objects_among inputs)) t based sound (e ∙ is);
    refused = λ r is. links_refused f os (length (objects_among inputs)) r (e ∙ is);
  }

  pub report_linked : (f : LinkPlacement) (inputs : List (Named Linkable)) (os : List (Named Object)) (x : Result (List ℕ) Refusal) → IsBased f
      → LinksSound (objects_among inputs) (archives_among inputs) → AreLinked (objects_among inputs) (archives_among inputs) os
      → x ≡ report_as f text ram (length (objects_among inputs)) os → ReportIs f text banks inputs x
  report_linked f inputs os x based sound linked e = report_is f inputs os x based linked (sound os linked) (sym e)

-- ---- what a call tells of it

pub told_as : (objects : List (Named Object)) (archives : List (Named Archive)) (f : LinkPlacement) (text : List ℕ) (banks : Option (List Bank)) (ram : Option (List Range32))
    → IsRam banks ram → (r : Result (List ℕ) Fault) → Links objects archives (report_as f text ram (length objects)) r → Tells r (IsReport objects archives f text banks)
told_as objects archives f text banks ram told (Ok t) h = (h.0, h.1, ram, told, sym h.2)
told_as objects archives f text banks ram told (Err (fault.Refused r)) h = (h.0, h.1, ram, told, sym h.2)
told_as objects archives f text banks ram told (Err (fault.ReadFault name)) h = h
told_as objects archives f text banks ram told (Err fault.NoMemory) h = tt

module _ (law : ImagesArePlaced) (text : List ℕ) (banks : Option (List Bank)) (f : LinkPlacement) (inputs : List (Named Linkable)) (based : IsBased f)
    (sound : LinksSound (objects_among inputs) (archives_among inputs)) where
  pub told_report : (r : Result (List ℕ) Fault) → Tells r (IsReport (objects_among inputs) (archives_among inputs) f text banks) → Tells r (ReportIs f text banks inputs)
  told_report (Ok t) (os, linked, ram, told, e) = report_linked law text banks ram told f inputs os (Ok t) based sound linked e
  told_report (Err (fault.Refused r)) (os, linked, ram, told, e) = report_linked law text banks ram told f inputs os (Err r) based sound linked e
  told_report (Err (fault.ReadFault name)) h = h
  told_report (Err fault.NoMemory) h = tt
