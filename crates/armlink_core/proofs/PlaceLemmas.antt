-- What is placed of linked objects, and images and tables that are made of it.
use Rattle.std.specs.Prelude.{IfOk}
use Rattle.std.proofs.Common.{◌≡◌, ℕ, List, Option, Some, None, Result, Ok, Err, refl, sym, ap, ◌∙◌, subst}
use Rattle.sdt_word.specs.declared.ranges.Range32.{Range32}
use Rattle.sdt_fault.specs.declared.answer.Fault.{Fault}
use Rattle.sdt_fault.specs.declared.answer.Fault.TheVariants as fault
use Rattle.sdt_fault.specs.declared.refusal.Refusal.{Refusal}
use Rattle.chunk_file.specs.Reading.{◌>>=◌, Gives}
use Rattle.aof_object.specs.declared.records.Object.{Object}
use Rattle.alf_archive.specs.declared.records.Archive.{Archive}
use Rattle.link_model.specs.declared.images.Image.{Image}
use Rattle.link_model.specs.declared.selection.Linked.{Linked}
use Rattle.link_model.specs.declared.selection.Named.{Named}
use Rattle.place_model.specs.declared.scatter.Kind.{Kind}
use Rattle.place_model.specs.declared.scatter.Kind.TheVariants as kind
use Rattle.place_model.specs.declared.scatter.Scatter.{Scatter}
use Rattle.scatter_text.specs.Reading.{scatter_of}
use Rattle.link_select.specs.Selection.{selection_of}
use Rattle.armlink_core.specs.declared.making.PlacedImage.{PlacedImage}
use Rattle.armlink_core.specs.declared.placing.PlacedLink.{PlacedLink}
use Rattle.armlink_core.specs.Images.{Links, described, image_made, linking, scatter_linking}
use Rattle.armlink_core.specs.Linking.{made_of, symbols_of}
use Rattle.armlink_core.specs.Placing.{IsRoomy, as_link, placed_by, placed_link, placed_scatter, placing}
use Rattle.armlink_core.specs.Sizes.{IsSmall}
use Rattle.armlink_core.specs.Tables.{named_of, named_scatter, tables_by, with_tables}
use Rattle.armlink_core.proofs.MadeLemmas.{made_small}
use Rattle.armlink_core.proofs.SizeLaws.{made_small as each_small}

ok_same : {A : Type 0} (a b : A) → ◌≡◌ {A = Result A Refusal} (Ok a) (Ok b) → a ≡ b
ok_same a b h = cc

err_same : {A B : Type 0} (r q : Refusal) → ◌≡◌ {A = Result A Refusal} (Err r) (Err q) → ◌≡◌ {A = Result B Refusal} (Err r) (Err q)
err_same r q h = let same : r ≡ q = cc in ap (λ (e : Refusal). Err e) same

came : {A B : Type 0} (x : Result A Refusal) (f : A → Result B Refusal) (b : B) → (x >>= f) ≡ Ok b → (a : A) × (x ≡ Ok a) × (f a ≡ Ok b)
came (Ok a) f b h = (a, refl, h)
came {B = B} (Err r) f b h = absurd (let bad : ◌≡◌ {A = Result B Refusal} (Err r) (Ok b) = h in cc)

assoc : {A B C : Type 0} (x : Result A Refusal) (f : A → Result B Refusal) (g : B → Result C Refusal) → (x >>= λ a. f a >>= g) ≡ ((x >>= f) >>= g)
assoc (Ok a) f g = refl
assoc (Err r) f g = refl

-- where a step that can't refuse follows, the first refuses
pub refused_first : {A B : Type 0} (x : Result A Refusal) (f : A → B) (r : Refusal) → (x >>= λ a. Ok (f a)) ≡ Err r → x ≡ Err r
refused_first {A = A} {B = B} (Ok a) f r h = absurd (let bad : ◌≡◌ {A = Result B Refusal} (Ok (f a)) (Err r) = h in cc)
refused_first {A = A} {B = B} (Err q) f r h = err_same {A = B} {B = A} q r h

-- ---- answers

abbrev Objects : Type 0
Objects = List (Named Object)

module _ (objects : Objects) (archives : List (Named Archive)) where
  -- what is made of what a call gives
  pub made_on : {A B : Type 0} (f : Objects → Result A Refusal) (h : Objects → Result B Refusal) (a : A) (gives : Result B Refusal)
      → ((os : Objects) → f os ≡ Ok a → h os ≡ gives) → Links objects archives f (Ok a) → (r : Result B Fault) → Gives r gives → Links objects archives h r
  made_on f h a gives each is (Ok b) g = (is.0, is.1, each is.0 is.2 ∙ g)
  made_on f h a gives each is (Err (fault.Refused e)) g = (is.0, is.1, each is.0 is.2 ∙ g)
  made_on f h a gives each is (Err (fault.ReadFault q)) g = absurd g
  made_on f h a gives each is (Err fault.NoMemory) g = tt

  -- and the fault of that call
  pub fault_on : {A B : Type 0} (f : Objects → Result A Refusal) (h : Objects → Result B Refusal)
      → ((os : Objects) (r : Refusal) → f os ≡ Err r → h os ≡ Err r) → (e : Fault) → Links {A = A} objects archives f (Err e) → Links {A = B} objects archives h (Err e)
  fault_on f h each (fault.Refused r) is = (is.0, is.1, each is.0 r is.2)
  fault_on f h each (fault.ReadFault q) is = absurd is
  fault_on f h each fault.NoMemory is = tt

-- ---- a link of a form

module _ (k : Kind) (ram : Option (List Range32)) (os : Objects) where
  linked_as : linking k ram os ≡ (placing k ram os >>= image_made k)
  linked_as = assoc (selection_of (Some (symbols_of k)) os) (λ l. made_of k ram l) (image_made k)

  pub linked_ok : (m : PlacedImage) → placing k ram os ≡ Ok m → linking k ram os ≡ image_made k m
  linked_ok m e = linked_as ∙ ap (λ (x : Result PlacedImage Refusal). x >>= image_made k) e

  pub linked_err : (r : Refusal) → placing k ram os ≡ Err r → linking k ram os ≡ Err r
  linked_err r e = linked_as ∙ ap (λ (x : Result PlacedImage Refusal). x >>= image_made k) e

  pub placed_ok : (m : PlacedImage) → placing k ram os ≡ Ok m → placed_link k ram os ≡ Ok (as_link k m)
  placed_ok m e = ap (λ (x : Result PlacedImage Refusal). x >>= λ parts. Ok (as_link k parts)) e

  pub placed_err : (r : Refusal) → placing k ram os ≡ Err r → placed_link k ram os ≡ Err r
  placed_err r e = ap (λ (x : Result PlacedImage Refusal). x >>= λ parts. Ok (as_link k parts)) e

-- ---- by a description

by_ok : (d : Result Scatter Refusal) (ram : Option (List Range32)) (os : Objects) (p : PlacedLink) → placed_by d ram os ≡ Ok p → described d ram os ≡ image_made p.kind p.parts
by_ok (Ok s) ram os p h =
    let (m, em, hm) = came (placing (kind.Scatter s) ram os) (λ parts. Ok (as_link (kind.Scatter s) parts)) p h in
    linked_ok (kind.Scatter s) ram os m em ∙ ap (λ (q : PlacedLink). image_made q.kind q.parts) (ok_same (as_link (kind.Scatter s) m) p hm)
by_ok (Err r) ram os p h =
    let (l, el, hl) = came (selection_of None os) (λ l. Err r) p h in
    absurd (let bad : ◌≡◌ {A = Result PlacedLink Refusal} (Err r) (Ok p) = hl in cc)

unread_err : (x : Result Linked Refusal) (q r : Refusal) → ◌≡◌ {A = Result PlacedLink Refusal} (x >>= λ l. Err q) (Err r) → ◌≡◌ {A = Result Image Refusal} (x >>= λ l. Err q) (Err r)
unread_err (Ok l) q r h = err_same {A = PlacedLink} {B = Image} q r h
unread_err (Err e) q r h = err_same {A = PlacedLink} {B = Image} e r h

by_err : (d : Result Scatter Refusal) (ram : Option (List Range32)) (os : Objects) (r : Refusal) → placed_by d ram os ≡ Err r → described d ram os ≡ Err r
by_err (Ok s) ram os r h = linked_err (kind.Scatter s) ram os r (refused_first (placing (kind.Scatter s) ram os) (as_link (kind.Scatter s)) r h)
by_err (Err q) ram os r h = unread_err (selection_of None os) q r h

module _ (text : List ℕ) (ram : Option (List Range32)) (os : Objects) where
  pub scattered_ok : (p : PlacedLink) → placed_scatter text ram os ≡ Ok p → scatter_linking text ram os ≡ image_made p.kind p.parts
  scattered_ok p h = by_ok (scatter_of text) ram os p h

  pub scattered_err : (r : Refusal) → placed_scatter text ram os ≡ Err r → scatter_linking text ram os ≡ Err r
  scattered_err r h = by_err (scatter_of text) ram os r h

  pub named_ok : (p : PlacedLink) → placed_scatter text ram os ≡ Ok p → named_scatter text ram os ≡ named_of p
  named_ok p h =
      ap (λ (x : Result Image Refusal). x >>= λ i. Ok (with_tables (tables_by (placed_scatter text ram os)) i)) (scattered_ok p h)
      ∙ ap (λ (x : Result PlacedLink Refusal). image_made p.kind p.parts >>= λ i. Ok (with_tables (tables_by x) i)) h

  pub named_err : (r : Refusal) → placed_scatter text ram os ≡ Err r → named_scatter text ram os ≡ Err r
  named_err r h = ap (λ (x : Result Image Refusal). x >>= λ i. Ok (with_tables (tables_by (placed_scatter text ram os)) i)) (scattered_err r h)

-- ---- sizes

pub made_roomy : (k : Kind) (ram : Option (List Range32)) (l : Linked) (m : PlacedImage) → made_of k ram l ≡ Ok m → IsRoomy m
made_roomy k ram l m h = record { whole = made_small k ram l m h; each = each_small k ram l m h }

-- ---- answers that have an image

pub roomy_if : (k : Kind) (ram : Option (List Range32)) (l : Linked) (r : Result PlacedImage Fault) → Gives r (made_of k ram l) → IfOk r IsRoomy
roomy_if k ram l (Ok m) h = made_roomy k ram l m h
roomy_if k ram l (Err e) h = tt

pub small_if : (k : Kind) (r : Result PlacedLink Fault) → IsSmall k → IfOk r (λ p. p.kind ≡ k) → IfOk r (λ p. IsSmall p.kind)
small_if k (Ok p) small h = subst IsSmall (sym h) small
small_if k (Err e) small h = tt
