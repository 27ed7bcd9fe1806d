-- A branch goes by the same veneer wherever the areas stand.
use Rattle.std.proofs.Common.{◌≡◌, ℕ, zero, suc, ◌+◌, ◌*◌, ◌≤◌, Bool, true, false, cond, List, [], ◌∷◌, length, Option, Some, None, refl, sym, ap, ◌∙◌, subst, true≢false, arith}
use Rattle.std.specs.Prelude.{◌&&◌, ◌==◌, nat_le, count_by}
use Rattle.std.specs.List.{filter}
use Rattle.std.specs.Option.{option_and_then}
use Rattle.std.proofs.lemmas.Bool.{eqb-true, le-leb}
use Rattle.std.proofs.lemmas.List.Sums.{sum_by-cons}
use Rattle.sdt_word.specs.Numbers.{flag}
use Rattle.aof_object.specs.declared.records.Object.{Object}
use Rattle.aof_object.specs.declared.records.Reloc.{Reloc}
use Rattle.aof_object.specs.declared.records.Symbol.{Symbol}
use Rattle.patch_model.specs.Fields.{Kind, Byte, Half, Word, Branch, Field, Home, Meant, Values, field_of, kind_of, is_relative, is_by_symbol, number_named, is_thumb_label, mark_in, is_same_kind, is_field, directives, added, taken, size_of, number_in}
use Rattle.patch_model.specs.Patched.{total, Directly, ByVeneer, other_state, is_branch, biased_displacement, bias, pc_offset, first_symbol, way_home, way_to, way_of}
use Rattle.patch_model.proofs.BranchLemmas.{branch_test}
use Rattle.patch_model.proofs.SumLemmas.{is_own}
use Rattle.link_model.specs.declared.selection.Definition.{Definition}
use Rattle.link_model.specs.Meaning.{Defined, definition_of, meaning_by, meaning_of, symbol_of}
use Rattle.link_model.specs.Members.{Link}
use Rattle.link_model.specs.Values.{Bases, home_area, meant_at, meant_of, meant_by, values_of}
use Rattle.link_model.specs.Veneers.{shares_field, is_alone, has_branch, veneer_by, values_apart, needed_as, IsIn, WaysLaw}
use Rattle.base_lemmas.proofs.BaseLemmas.{both_true}
use Rattle.aof_object.proofs.ValidLaw.{and_true}

-- ---- a symbol of areas that stand at bases, and of the same areas at 0

abbrev MovedTo : Bases → Meant → Meant → Option Home → Option Home → Type 0
MovedTo base_at m n None None = Unit {0}
MovedTo base_at m n None (Some h) = ⊥
MovedTo base_at m n (Some h) None = ⊥
MovedTo base_at m n (Some h) (Some g) = (h ≡ g) × (m.thumb ≡ n.thumb) × (m.number ≡ base_at h.object h.area + n.number)

abbrev Moved : Bases → Meant → Meant → Type 0
Moved base_at m n = MovedTo base_at m n m.home n.home

abbrev at_0 : Bases
at_0 object area = 0

moved_symbol : (base_at : Bases) (object : ℕ) (o : Option Symbol) → Moved base_at (meant_of base_at object o) (meant_of at_0 object o)
moved_symbol base_at object None = tt
moved_symbol base_at object (Some s) = by (home_area s)
  where
    by : (area : Option ℕ) → Moved base_at (meant_at base_at object s area) (meant_at at_0 object s area)
    by None = tt
    by (Some area) = (refl, refl, omega arith)

moved_reference : (os : List Object) (base_at : Bases) (d : Option Definition) (n : Option ℕ) (weak : Bool) → Moved base_at (meant_by os base_at (meaning_by d n weak)) (meant_by os at_0 (meaning_by d None weak))
moved_reference os base_at (Some d) n weak = moved_symbol base_at d.object (symbol_of os d.object d.symbol)
moved_reference os base_at None None true = tt
moved_reference os base_at None None false = tt
moved_reference os base_at None (Some n) true = tt
moved_reference os base_at None (Some n) false = tt

moved : (l : Link) (numbers : List ℕ → Option ℕ) (base_at : Bases) (object k : ℕ) → Moved base_at ((values_of l numbers base_at object).symbol k) ((values_apart l object).symbol k)
moved l numbers base_at object k = by (symbol_of l.objects object k)
  where
    of_symbol : (s : Symbol) (b weak : Bool)
        → Moved base_at (meant_by l.objects base_at (cond b (Some (Defined object k)) (meaning_by (definition_of l.definitions s.name) (numbers s.name) weak)))
        (meant_by l.objects at_0 (cond b (Some (Defined object k)) (meaning_by (definition_of l.definitions s.name) None weak)))
    of_symbol s true weak = moved_symbol base_at object (symbol_of l.objects object k)
    of_symbol s false weak = moved_reference l.objects base_at (definition_of l.definitions s.name) (numbers s.name) weak

    by : (o : Option Symbol)
        → Moved base_at (meant_by l.objects base_at (option_and_then (meaning_of l.definitions numbers object k) o)) (meant_by l.objects at_0 (option_and_then (meaning_of l.definitions (λ q. None) object k) o))
    by None = tt
    by (Some s) = of_symbol s _ _

-- ---- the way there

home_same : (base_at : Bases) (thumb : Bool) (base from : ℕ) (d : ℕ) (m n : Meant) (h g : Option Home) → MovedTo base_at m n h g
    → way_home thumb (total (base + from) 0 d) (m.number + 0 + 0) (base + 0) m h ≡ way_home thumb (total (0 + from) 0 d) (n.number + 0 + 0) (0 + 0) n g
home_same base_at thumb base from d m n None None e = refl
home_same base_at thumb base from d m n None (Some g) e = absurd e
home_same base_at thumb base from d m n (Some h) None e = absurd e
home_same base_at thumb base from d m n (Some h) (Some g) (home, state, number) =
    let target : ◌≡◌ {A = Home}
    (record { object = h.object; area = h.area; offset = total (h.offset + total (base + from) 0 d) (m.number + 0 + 0) (base + 0 + m.number) })
    (record { object = g.object; area = g.area; offset = total (g.offset + total (0 + from) 0 d) (n.number + 0 + 0) (0 + 0 + n.number) }) =
    λ i. record {
      object = (home i).object;
      area = (home i).area;
      offset = (ap (λ (k : Home). total (k.offset + total (base + from) 0 d) (m.number + 0 + 0) (base + 0 + m.number)) home ∙ offset_same g.offset) i;
    } in
    λ i. cond (other_state thumb (state i)) (ByVeneer (target i) (state i)) Directly
  where
    offset_same : (o : ℕ) → total (o + total (base + from) 0 d) (m.number + 0 + 0) (base + 0 + m.number) ≡ total (o + total (0 + from) 0 d) (n.number + 0 + 0) (0 + 0 + n.number)
    offset_same o = let e = number in omega arith

-- a branch with one relocation
pub alone_way : (base : ℕ) (values : Values) (bytes : List ℕ) (thumb : Bool) (r : Reloc) → kind_of r ≡ Branch thumb → is_relative r ≡ true → is_by_symbol r ≡ true
    → way_of base values bytes (field_of r) thumb (r ∷ [])
    ≡ way_home thumb (total (base + ((field_of r).place + pc_offset thumb + biased_displacement thumb (number_in bytes (field_of r)))) 0 (bias thumb))
    ((values.symbol (number_named r)).number + 0 + 0) (base + 0) (values.symbol (number_named r)) (values.symbol (number_named r)).home
alone_way base values bytes thumb r kind relative named =
    let from : base + (field_of r).place + pc_offset thumb + biased_displacement thumb (number_in bytes (field_of r)) ≡ base + ((field_of r).place + pc_offset thumb + biased_displacement thumb (number_in bytes (field_of r))) =
    add_three base (field_of r).place (pc_offset thumb) (biased_displacement thumb (number_in bytes (field_of r))) in
    let more : added values (r ∷ []) ≡ (values.symbol (number_named r)).number + 0 + 0 =
    λ i. cond (named i) (values.symbol (number_named r)).number (values.base (number_named r)) + mark_in (kind i) (is_relative r) (is_by_symbol r) (is_thumb_label (values.symbol (number_named r))) + 0 in
    let less : taken base (r ∷ []) ≡ base + 0 = (λ i. base * flag (relative i) + 0) ∙ times_one base in
    let symbol : first_symbol (r ∷ []) ≡ Some (number_named r) = λ i. cond (named i) (Some (number_named r)) None in
    λ i. way_to thumb (total (from i) 0 (bias thumb)) (more i) (less i) values (symbol i)
  where
    add_three : (a b c d : ℕ) → a + b + c + d ≡ a + (b + c + d)
    add_three a b c d = omega arith

    times_one : (n : ℕ) → n * 1 + 0 ≡ n + 0
    times_one n = omega arith

-- ---- the field's one relocation

module _ {X : Type 0} (p q : X → Bool) (within : (x : X) → q x ≡ true → p x ≡ true) where
  counted : (x : X) (xs : List X) (b : Bool) → p x ≡ b → count_by p (x ∷ xs) ≡ cond b 1 0 + count_by p xs
  counted x xs b e = sum_by-cons (λ y. cond (p y) 1 0) x xs ∙ ap (λ (c : Bool). cond c 1 0 + count_by p xs) e

  none_pass : (xs : List X) → count_by p xs ≡ 0 → filter q xs ≡ []
  none_pass [] h = refl
  none_pass (x ∷ xs) h = by (p x) refl (q x) refl (λ e. none_pass xs e)
    where
      by : (b : Bool) → p x ≡ b → (c : Bool) → q x ≡ c → (count_by p xs ≡ 0 → filter q xs ≡ []) → cond c (x ∷ filter q xs) (filter q xs) ≡ []
      by true e c g rest = absurd (omega (arith, h, counted x xs true e))
      by false e true g rest = absurd (true≢false (sym (within x g) ∙ e))
      by false e false g rest = rest (omega (arith, h, counted x xs false e))

  some_pass : (xs : List X) (x : X) → IsIn xs x → p x ≡ true → 1 ≤ count_by p xs
  some_pass [] x (k, e) h = absurd (cc)
  some_pass (y ∷ ys) x (zero, e) h = let same : y ≡ x = cc in omega (arith, counted y ys true (ap p same ∙ h))
  some_pass (y ∷ ys) x (suc k, e) h = omega (arith, counted y ys (p y) refl, some_pass ys x (k, e) h)

  one_passes : (xs : List X) (x : X) → IsIn xs x → q x ≡ true → count_by p xs ≡ 1 → filter q xs ≡ x ∷ []
  one_passes [] x (k, e) h n = absurd (cc)
  one_passes (y ∷ ys) x (zero, e) h n =
      let same : y ≡ x = cc in
      let here : q y ≡ true = ap q same ∙ h in
      let none = none_pass ys (omega (arith, n, counted y ys true (within y here))) in
      ap (λ (b : Bool). cond b (y ∷ filter q ys) (filter q ys)) here ∙ (λ i. same i ∷ none i)
  one_passes (y ∷ ys) x (suc k, e) h n = by (p y) refl (q y) refl (some_pass ys x (k, e) (within x h)) (λ m. one_passes ys x (k, e) h m)
    where
      by : (b : Bool) → p y ≡ b → (c : Bool) → q y ≡ c → 1 ≤ count_by p ys → (count_by p ys ≡ 1 → filter q ys ≡ x ∷ []) → cond c (y ∷ filter q ys) (filter q ys) ≡ x ∷ []
      by true f c g some rest = absurd (omega (arith, n, some, counted y ys true f))
      by false f true g some rest = absurd (true≢false (sym (within y g) ∙ f))
      by false f false g some rest = rest (omega (arith, n, counted y ys false f))

same_size : (a b : Kind) → is_same_kind a b ≡ true → (size_of a == size_of b) ≡ true
same_size Byte Byte h = refl
same_size Half Half h = refl
same_size Word Word h = refl
same_size (Branch a) (Branch b) h = refl
same_size Byte Half h = absurd (true≢false (sym h))
same_size Byte Word h = absurd (true≢false (sym h))
same_size Byte (Branch b) h = absurd (true≢false (sym h))
same_size Half Byte h = absurd (true≢false (sym h))
same_size Half Word h = absurd (true≢false (sym h))
same_size Half (Branch b) h = absurd (true≢false (sym h))
same_size Word Byte h = absurd (true≢false (sym h))
same_size Word Half h = absurd (true≢false (sym h))
same_size Word (Branch b) h = absurd (true≢false (sym h))
same_size (Branch a) Byte h = absurd (true≢false (sym h))
same_size (Branch a) Half h = absurd (true≢false (sym h))
same_size (Branch a) Word h = absurd (true≢false (sym h))

shares : (f : Field) (r : Reloc) → is_field f r ≡ true → shares_field f r ≡ true
shares f r h =
    let parts = both_true ((field_of r).place == f.place) (is_same_kind (kind_of r) f.kind) h in
    and_true ((field_of r).place == f.place) (size_of (kind_of r) == size_of f.kind) parts.0 (same_size (kind_of r) f.kind parts.1)

pub sole_directive : (relocs : List Reloc) (r : Reloc) → IsIn relocs r → count_by (shares_field (field_of r)) relocs ≡ 1 → directives relocs (field_of r) ≡ r ∷ []
sole_directive relocs r there n = one_passes (shares_field (field_of r)) (is_field (field_of r)) (shares (field_of r)) relocs r there (is_own r) n

-- ---- the veneer

pub ways_law : WaysLaw
ways_law l numbers base_at region a area r thumb there kind alone room branch =
    let parts = both_true (is_relative r) (is_by_symbol r && count_by (shares_field (field_of r)) area.relocs == 1) alone in
    let count = both_true (is_by_symbol r) (count_by (shares_field (field_of r)) area.relocs == 1) parts.1 in
    let sole = sole_directive area.relocs r there (eqb-true (count_by (shares_field (field_of r)) area.relocs) 1 count.1) in
    let fits : (field_of r).place + size_of (field_of r).kind ≤ length area.bytes =
    let Room : Kind → Type 0 = λ k. (field_of r).place + size_of k ≤ length area.bytes in subst Room (sym kind) room in
    let reads : has_branch thumb area.bytes (field_of r) ≡ true =
    and_true (nat_le ((field_of r).place + size_of (field_of r).kind) (length area.bytes)) (is_branch thumb (number_in area.bytes (field_of r))) (le-leb _ _ fits) (branch_test thumb _ branch) in
    let test = and_true (is_alone area.relocs r) (has_branch thumb area.bytes (field_of r)) alone reads in
    let apart = values_apart l a.object in
    let values = values_of l numbers base_at a.object in
    let base = base_at a.object a.area in
    let from = (field_of r).place + pc_offset thumb + biased_displacement thumb (number_in area.bytes (field_of r)) in
    let way : way_of 0 apart area.bytes (field_of r) thumb (directives area.relocs (field_of r)) ≡ way_of base values area.bytes (field_of r) thumb (directives area.relocs (field_of r)) =
    ap (λ (rs : List Reloc). way_of 0 apart area.bytes (field_of r) thumb rs) sole
    ∙ alone_way 0 apart area.bytes thumb r kind parts.0 count.0
    ∙ sym (home_same base_at thumb base from (bias thumb) (values.symbol (number_named r)) (apart.symbol (number_named r)) (values.symbol (number_named r)).home (apart.symbol (number_named r)).home
    (moved l numbers base_at a.object (number_named r)))
    ∙ sym (alone_way base values area.bytes thumb r kind parts.0 count.0)
    ∙ sym (ap (λ (rs : List Reloc). way_of base values area.bytes (field_of r) thumb rs) sole) in
    ap (λ (k : Kind). needed_as k l region a.object area r) kind
    ∙ ap (λ (b : Bool). cond b (veneer_by region (way_of 0 apart area.bytes (field_of r) thumb (directives area.relocs (field_of r)))) None) test
    ∙ ap (veneer_by region) way
