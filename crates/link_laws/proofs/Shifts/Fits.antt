-- A field that holds what its directives ask for where an image is linked does so where it is moved.
use Rattle.std.proofs.Common.{◌≡◌, ◌⊎◌, inl, inr, ℕ, ◌+◌, ◌%◌, ◌^◌, ◌<◌, ◌≤◌, Bool, List, refl, sym, subst, ◌∙◌, arith, Option, Some, None}
use Rattle.std.specs.List.{AllByRecursion}
use Rattle.std.specs.Option.{option_map}
use Rattle.aof_object.specs.declared.records.Area.{Area}
use Rattle.aof_object.specs.declared.records.Reloc.{Reloc}
use Rattle.patch_model.specs.Fields.{Kind, Byte, Half, Word, Branch, Field, Values, field_of, directives, added, taken, number_in}
use Rattle.patch_model.specs.Patched.{total, Fits, SameBranch, biased_displacement, pc_offset, Way, Directly, ByVeneer, first_symbol, way_of, LeadsAt, Leads, AddsUp}
use Rattle.link_model.specs.declared.placing.Placement.{Placement}
use Rattle.link_apply.specs.Placed.{veneers_at}
use Rattle.link_apply.specs.PatchedBytes.{number_by}
use Rattle.link_values.specs.Shifts.{gains, losses}
use Rattle.link_apply.proofs.AreaLemmas.{IsFit}
use Rattle.link_laws.proofs.Shifts.Sums.{IsMovedIn}
use Rattle.link_laws.proofs.Shifts.Fields.{IsMovedImage, HasWay, more_moves, even_less, total_stays, way_moves, number_stays}
use Rattle.link_laws.proofs.Shifts.Patched.{even_or_word, MayMove, own_values, own_others, first_way, second_way}

-- the same is left over where as much is added as is taken
left_over : (s t mb lb mc lc m n x y : ℕ) → mb ≡ m + x → lb ≡ n + x → mc ≡ m + y → lc ≡ n + y → s + lb ≡ t + mb → s + lc ≡ t + mc
left_over s t mb lb mc lc m n x y one two three four five = omega (arith, one, two, three, four, five)

module _ (moving : Reloc → Bool) (b c : ℕ) (p q r : Placement) (v w u : Values) (first : IsMovedImage b p q v w) (second : IsMovedImage c p r v u)
    (region base : ℕ) (bytes : List ℕ) (f : Field) (rs : List Reloc) (values : AllByRecursion (IsMovedIn moving b v w) rs) (others : AllByRecursion (IsMovedIn moving c v u) rs) where
  -- whether the number of a kind of field is what is asked for, in the one image and in the other
  abbrev FitHere : Kind → Type 0
  FitHere kind = AddsUp kind (base + b + f.place) w (veneers_at q region) (number_in bytes f) (number_by q w region (base + b) bytes f kind rs) (added w rs) (taken (base + b) rs) (first_symbol rs)

  abbrev FitThere : Kind → Type 0
  FitThere kind = AddsUp kind (base + c + f.place) u (veneers_at r region) (number_in bytes f) (number_by r u region (base + c) bytes f kind rs) (added u rs) (taken (base + c) rs) (first_symbol rs)

  pub word_fits : FitThere Word
  word_fits = omega arith

  module _ (even : gains moving rs ≡ losses moving rs) where
    same_total : total (number_in bytes f) (added u rs) (taken (base + c) rs) ≡ total (number_in bytes f) (added w rs) (taken (base + b) rs)
    same_total =
        total_stays moving c p r v u second region base bytes f rs others even (number_in bytes f)
        ∙ sym (total_stays moving b p q v w first region base bytes f rs values even (number_in bytes f))

    leads_move : (thumb : Bool) (new : ℕ) (way : Way) → Leads thumb (base + b + f.place + pc_offset thumb) (veneers_at q region) (number_in bytes f) new (added w rs) (taken (base + b) rs) way
        → Leads thumb (base + c + f.place + pc_offset thumb) (veneers_at r region) (number_in bytes f) new (added u rs) (taken (base + c) rs) way
    leads_move thumb new Directly h =
        left_over (biased_displacement thumb new) (biased_displacement thumb (number_in bytes f)) _ _ _ _ _ _ _ _
        (more_moves moving b p q v w first region base bytes f rs values) (even_less moving b p q v w first region base bytes f rs values even)
        (more_moves moving c p r v u second region base bytes f rs others) (even_less moving c p r v u second region base bytes f rs others even) h
    leads_move thumb new (ByVeneer home state) h =
        subst (LeadsAt thumb (base + c + f.place + pc_offset thumb) new) (sym (second.veneers region home state))
        (go (veneers_at p region home state) (subst (LeadsAt thumb (base + b + f.place + pc_offset thumb) new) (first.veneers region home state) h))
      where
        go : (o : Option ℕ) → LeadsAt thumb (base + b + f.place + pc_offset thumb) new (option_map (λ y. y + b) o) → LeadsAt thumb (base + c + f.place + pc_offset thumb) new (option_map (λ y. y + c) o)
        go None e = e
        go (Some y) e = omega (arith, e)

    pub even_fits : (kind : Kind) → HasWay moving b p q v w first region base bytes f rs values even kind → HasWay moving c p r v u second region base bytes f rs others even kind
        → FitHere kind → FitThere kind
    even_fits Byte here there h = (subst (Fits 8) (sym same_total) h.0, refl)
    even_fits Half here there h = (subst (Fits 16) (sym same_total) h.0, refl)
    even_fits Word here there h = word_fits
    even_fits (Branch thumb) here there h =
        let one : ℕ = number_by q w region (base + b) bytes f (Branch thumb) rs in
        let two : ℕ = number_by r u region (base + c) bytes f (Branch thumb) rs in
        let same : one ≡ two =
        number_stays moving b p q v w first region base bytes f rs values even (Branch thumb) here
        ∙ sym (number_stays moving c p r v u second region base bytes f rs others even (Branch thumb) there) in
        let way : way_of (base + b) w bytes f thumb rs ≡ way_of (base + c) u bytes f thumb rs =
        way_moves moving b p q v w first region base bytes f rs values even thumb ∙ sym (way_moves moving c p r v u second region base bytes f rs others even thumb) in
        record {
          branch = h.branch;
          rest = subst (SameBranch thumb (number_in bytes f)) same h.rest;
          leads =
              subst (λ (n : ℕ). Leads thumb (base + c + f.place + pc_offset thumb) (veneers_at r region) (number_in bytes f) n (added u rs) (taken (base + c) rs) (way_of (base + c) u bytes f thumb rs)) same
              (subst (Leads thumb (base + c + f.place + pc_offset thumb) (veneers_at r region) (number_in bytes f) one (added u rs) (taken (base + c) rs)) way
              (leads_move thumb one (way_of (base + b) w bytes f thumb rs) h.leads));
        }

-- ---- of a relocation of an area

module _ (moving : Reloc → Bool) (b c : ℕ) (p q r : Placement) (v w u : Values) (first : IsMovedImage b p q v w) (second : IsMovedImage c p r v u)
    (region base : ℕ) (a : Area) (low : b ≤ 2 ^ 32) (values : AllByRecursion (IsMovedIn moving b v w) a.relocs) (others : AllByRecursion (IsMovedIn moving c v u) a.relocs) where
  pub fit_there : (area : ℕ) (x : Reloc) → MayMove moving b c p q r v w u first second region base a low values others x → IsFit q w region (base + b) area a x → IsFit r u region (base + c) area a x
  fit_there area x m fit = record { form = fit.form; adds = go (even_or_word (field_of x).kind m.offset (gains moving rs) (losses moving rs) m.fair) }
    where
      f : Field
      f = field_of x

      rs : List Reloc
      rs = directives a.relocs (field_of x)

      Goal : Kind → Type 0
      Goal = FitThere moving b c p q r v w u first second region base a.bytes (field_of x) (directives a.relocs (field_of x))
          (own_values moving b c p q r v w u first second region base a low values others (field_of x)) (own_others moving b c p q r v w u first second region base a low values others (field_of x))

      go : (gains moving (directives a.relocs (field_of x)) ≡ losses moving (directives a.relocs (field_of x)))
          ⊎ (((field_of x).kind ≡ Word) × (m.offset % 4 ≡ 0) × (losses moving (directives a.relocs (field_of x)) < gains moving (directives a.relocs (field_of x)))) → Goal (field_of x).kind
      go (inl even) =
          even_fits moving b c p q r v w u first second region base a.bytes (field_of x) (directives a.relocs (field_of x))
          (own_values moving b c p q r v w u first second region base a low values others (field_of x)) (own_others moving b c p q r v w u first second region base a low values others (field_of x)) even (field_of x).kind
          (first_way moving b c p q r v w u first second region base a low values others x m even (field_of x).kind refl)
          (second_way moving b c p q r v w u first second region base a low values others x m even (field_of x).kind refl) fit.adds
      go (inr (word, aligned, lt)) =
          subst Goal (sym word) (word_fits moving b c p q r v w u first second region base a.bytes (field_of x) (directives a.relocs (field_of x))
          (own_values moving b c p q r v w u first second region base a low values others (field_of x)) (own_others moving b c p q r v w u first second region base a low values others (field_of x)))
