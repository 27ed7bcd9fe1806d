-- What a field holds where the image is moved: its word, shifted as often as it has shifts; a branch moves with its target.
use Rattle.std.proofs.Common.{◌≡◌, ℕ, ◌+◌, ◌-◌, ◌*◌, ◌%◌, ◌^◌, ◌≤◌, Bool, false, not, if◌then◌else◌, List, refl, sym, ap, ◌∙◌, arith, Option, Some, None}
use Rattle.std.specs.Prelude.{count_by, unwrap_or}
use Rattle.std.specs.List.{AllByRecursion}
use Rattle.std.specs.Option.{option_map, is_some}
use Rattle.aof_object.specs.declared.records.Reloc.{Reloc}
use Rattle.patch_model.specs.Fields.{Kind, Byte, Half, Word, Branch, Field, Home, Meant, Values, is_relative, added, taken, number_in}
use Rattle.patch_model.specs.Patched.{total, biased_displacement, bias, pc_offset, Way, Directly, ByVeneer, first_symbol, other_state, way_home, way_to, way_of}
use Rattle.link_model.specs.declared.placing.Placement.{Placement}
use Rattle.link_apply.specs.Placed.{veneers_at}
use Rattle.link_apply.specs.Flaws.{veneer_of, lacks_veneer}
use Rattle.link_apply.specs.PatchedBytes.{with_displacement, turned, number_by}
use Rattle.link_values.specs.Shifts.{gains, losses}
use Rattle.link_laws.specs.AifJoins.{shift_between}
use Rattle.link_laws.proofs.Shifts.Sums.{total_moves, gained_and_lost, IsMovedIn, added_moves, taken_moves}

-- ---- another image, which is one that is moved by so much

-- a symbol, which moves if it stands in an area
pub record IsMovedSymbol (by : ℕ) (m n : Meant) : Type 0 where
  pub home : n.home ≡ m.home
  pub thumb : n.thumb ≡ m.thumb
  pub datum : n.datum ≡ m.datum
  pub stands : (h : Home) → m.home ≡ Some h → n.number ≡ m.number + by

pub record IsMovedImage (by : ℕ) (p q : Placement) (v w : Values) : Type 0 where
  pub symbols : (k : ℕ) → IsMovedSymbol by (v.symbol k) (w.symbol k)
  pub veneers : (region : ℕ) (h : Home) (state : Bool) → veneers_at q region h state ≡ option_map (λ y. y + by) (veneers_at p region h state)

-- ---- ways

same_target : (by h c mid a t n x : ℕ) → total (h + total (c + by) 0 mid) (a + x) (t + x + (n + by)) ≡ total (h + total c 0 mid) a (t + n)
same_target by h c mid a t n x = omega arith

module _ (by : ℕ) (v w : Values) (symbols : (k : ℕ) → IsMovedSymbol by (v.symbol k) (w.symbol k)) (thumb : Bool) (c mid a t x : ℕ) where
  same_home : (m n : Meant) → IsMovedSymbol by m n → way_home thumb (total (c + by) 0 mid) (a + x) (t + x) n n.home ≡ way_home thumb (total c 0 mid) a t m m.home
  same_home m n s = ap (way_home thumb (total (c + by) 0 mid) (a + x) (t + x) n) s.home ∙ go m.home refl
    where
      go : (o : Option Home) → m.home ≡ o → way_home thumb (total (c + by) 0 mid) (a + x) (t + x) n o ≡ way_home thumb (total c 0 mid) a t m o
      go None e = refl
      go (Some h) e =
          let number = s.stands h e in
          let offset : total (h.offset + total (c + by) 0 mid) (a + x) (t + x + n.number) ≡ total (h.offset + total c 0 mid) a (t + m.number) =
          ap (λ z. total (h.offset + total (c + by) 0 mid) (a + x) (t + x + z)) number ∙ same_target by h.offset c mid a t m.number x in
          ap (λ (z : Bool). if other_state thumb z then ByVeneer (record { object = h.object; area = h.area; offset = total (h.offset + total (c + by) 0 mid) (a + x) (t + x + n.number) }) z else Directly) s.thumb
          ∙ ap (λ (z : ℕ). if other_state thumb m.thumb then ByVeneer (record { object = h.object; area = h.area; offset = z }) m.thumb else Directly) offset

  same_way : (o : Option ℕ) → way_to thumb (total (c + by) 0 mid) (a + x) (t + x) w o ≡ way_to thumb (total c 0 mid) a t v o
  same_way None = refl
  same_way (Some k) = same_home (v.symbol k) (w.symbol k) (symbols k)

-- ---- a field of an area at a base, by directives

module _ (moving : Reloc → Bool) (by : ℕ) (p q : Placement) (v w : Values) (image : IsMovedImage by p q v w) (region base : ℕ) (bytes : List ℕ) (f : Field)
    (rs : List Reloc) (values : AllByRecursion (IsMovedIn moving by v w) rs) where
  abbrev moves : ℕ
  moves = count_by moving rs

  abbrev more : ℕ
  more = added v rs

  abbrev less : ℕ
  less = taken base rs

  pub more_moves : added w rs ≡ more + by * moves
  more_moves = added_moves moving by v w rs values

  less_moves : taken (base + by) rs ≡ less + by * count_by is_relative rs
  less_moves = taken_moves base by rs

  -- where as much is lost as is gained
  module _ (even : gains moving rs ≡ losses moving rs) where
    pub even_less : taken (base + by) rs ≡ less + by * moves
    even_less =
        let counts = gained_and_lost moving rs in
        let same : count_by is_relative rs ≡ moves = omega (arith, counts, even) in
        less_moves ∙ ap (λ n. less + by * n) same

    abbrev reach : Bool → ℕ
    reach thumb = base + f.place + pc_offset thumb + biased_displacement thumb (number_in bytes f)

    pub way_moves : (thumb : Bool) → way_of (base + by) w bytes f thumb rs ≡ way_of base v bytes f thumb rs
    way_moves thumb =
        let from : base + by + f.place + pc_offset thumb + biased_displacement thumb (number_in bytes f) ≡ reach thumb + by = omega arith in
        ap (λ z. way_to thumb (total z 0 (bias thumb)) (added w rs) (taken (base + by) rs) w (first_symbol rs)) from
        ∙ ap (λ z. way_to thumb (total (reach thumb + by) 0 (bias thumb)) z (taken (base + by) rs) w (first_symbol rs)) more_moves
        ∙ ap (λ z. way_to thumb (total (reach thumb + by) 0 (bias thumb)) (more + by * moves) z w (first_symbol rs)) even_less
        ∙ same_way by v w image.symbols thumb (reach thumb) (bias thumb) more less (by * moves) (first_symbol rs)

    -- a branch, by its way
    turned_moves : (thumb : Bool) (old : ℕ) (way : Way) → lacks_veneer p region way ≡ false
        → turned thumb (base + by + f.place) old (more + by * moves) (less + by * moves) (veneer_of q region way) way
        ≡ turned thumb (base + f.place) old more less (veneer_of p region way) way
    turned_moves thumb old Directly has =
        let to : biased_displacement thumb old + (more + by * moves) - (less + by * moves) ≡ biased_displacement thumb old + more - less = cancelled (biased_displacement thumb old) more less (by * moves) in
        ap (with_displacement thumb old) to
      where
        cancelled : (s a t x : ℕ) → s + (a + x) - (t + x) ≡ s + a - t
        cancelled s a t x = omega arith
    turned_moves thumb old (ByVeneer h state) has =
        ap (λ (o : Option ℕ). with_displacement thumb old (unwrap_or o 0 + bias thumb - (base + by + f.place + pc_offset thumb))) (image.veneers region h state)
        ∙ go (veneers_at p region h state) has
      where
        go : (o : Option ℕ) → not (is_some o) ≡ false
            → with_displacement thumb old (unwrap_or (option_map (λ y. y + by) o) 0 + bias thumb - (base + by + f.place + pc_offset thumb)) ≡ with_displacement thumb old (unwrap_or o 0 + bias thumb - (base + f.place + pc_offset thumb))
        go None e = absurd cc
        go (Some y) e = let to : y + by + bias thumb - (base + by + f.place + pc_offset thumb) ≡ y + bias thumb - (base + f.place + pc_offset thumb) = omega arith in ap (with_displacement thumb old) to

    pub total_stays : (old : ℕ) → total old (added w rs) (taken (base + by) rs) ≡ total old more less
    total_stays old = ap (λ z. total old z (taken (base + by) rs)) more_moves ∙ ap (λ z. total old (more + by * moves) z) even_less ∙ cancelled more less (by * moves)
      where
        cancelled : (a t x : ℕ) → total old (a + x) (t + x) ≡ total old a t
        cancelled a t x = omega arith

    -- a branch that has its veneer, if it goes by one
    abbrev pub HasWay : Kind → Type 0
    HasWay (Branch thumb) = lacks_veneer p region (way_of base v bytes f thumb rs) ≡ false
    HasWay kind = Unit {0}

    pub number_stays : (kind : Kind) → HasWay kind → number_by q w region (base + by) bytes f kind rs ≡ number_by p v region base bytes f kind rs
    number_stays Byte has = ap (λ n. n % 2 ^ 8) (total_stays (number_in bytes f))
    number_stays Half has = ap (λ n. n % 2 ^ 16) (total_stays (number_in bytes f))
    number_stays Word has = ap (λ n. n % 2 ^ 32) (total_stays (number_in bytes f))
    number_stays (Branch thumb) has =
        let old : ℕ = number_in bytes f in
        let at : ℕ = base + by + f.place in
        let own : Way = way_of base v bytes f thumb rs in
        ap (λ z. turned thumb at old (added w rs) (taken (base + by) rs) (veneer_of q region z) z) (way_moves thumb)
        ∙ ap (λ z. turned thumb at old z (taken (base + by) rs) (veneer_of q region own) own) more_moves
        ∙ ap (λ z. turned thumb at old (more + by * moves) z (veneer_of q region own) own) even_less
        ∙ turned_moves thumb old own has

-- ---- a word at two bases

pub word_number : (moving : Reloc → Bool) (b c : ℕ) (p q r : Placement) (v w u : Values) (region base : ℕ) (bytes : List ℕ) (f : Field) (rs : List Reloc)
    → AllByRecursion (IsMovedIn moving b v w) rs → AllByRecursion (IsMovedIn moving c v u) rs → losses moving rs ≤ gains moving rs → b ≤ 2 ^ 32
    → number_by r u region (base + c) bytes f Word rs
    ≡ (number_by q w region (base + b) bytes f Word rs + shift_between b c * (gains moving rs - losses moving rs)) % 2 ^ 32
word_number moving b c p q r v w u region base bytes f rs first second fewer low =
    let counts = gained_and_lost moving rs in
    let more : ℕ = added v rs in
    let less : ℕ = taken base rs in
    let m : ℕ = count_by moving rs in
    let n : ℕ = count_by is_relative rs in
    let s : ℕ = gains moving rs - losses moving rs in
    let split : m ≡ n + s = omega (arith, counts, fewer) in
    let old : ℕ = number_in bytes f in
    let here : total old (added w rs) (taken (base + b) rs) ≡ total old (more + b * m) (less + b * n) =
    ap (λ z. total old z (taken (base + b) rs)) (added_moves moving b v w rs first) ∙ ap (λ z. total old (more + b * m) z) (taken_moves base b rs) in
    let there : total old (added u rs) (taken (base + c) rs) ≡ total old (more + c * m) (less + c * n) =
    ap (λ z. total old z (taken (base + c) rs)) (added_moves moving c v u rs second) ∙ ap (λ z. total old (more + c * m) z) (taken_moves base c rs) in
    let both = total_moves old more less b c m n s split low in
    let same : total old (more + c * m) (less + c * n) % 2 ^ 32 ≡ (total old (more + b * m) (less + b * n) % 2 ^ 32 + shift_between b c * s) % 2 ^ 32 =
    reduced (total old (more + c * m) (less + c * n)) (total old (more + b * m) (less + b * n)) (shift_between b c * s) both in
    ap (λ z. z % 2 ^ 32) there ∙ same ∙ ap (λ z. (z % 2 ^ 32 + shift_between b c * s) % 2 ^ 32) (sym here)
  where
    reduced : (x y z : ℕ) → x ≡ (y + z) % 2 ^ 32 → x % 2 ^ 32 ≡ (y % 2 ^ 32 + z) % 2 ^ 32
    reduced x y z e = omega (arith, e)
