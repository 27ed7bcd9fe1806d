-- What a field without a flaw holds.
use Rattle.std.proofs.Common.{◌≡◌, inl, inr, ℕ, ◌+◌, ◌*◌, ◌-◌, ◌/◌, ◌%◌, ◌^◌, ◌<◌, ◌≤◌, Bool, true, false, cond, List, ◌++◌, refl, sym, ap, subst, arith}
use Rattle.std.specs.Prelude.{Option, Some, None, not, ◌||◌, ◌&&◌, nat_lt, nat_le, ◌==◌, unwrap_or}
use Rattle.std.specs.Option.{is_some}
use Rattle.std.proofs.lemmas.Bool.{or_parts, and_parts, not-false, ltb-true, ltb-false, leb-true, leb-false, eqb-true}
use Rattle.sdt_word.specs.Bytes.{bytes_of}
use Rattle.aof_object.specs.declared.records.Area.{Area}
use Rattle.aof_object.specs.declared.records.Reloc.{Reloc}
use Rattle.patch_model.specs.Fields.{Kind, Byte, Half, Word, Branch, Field, Home, Values, field_of, kind_of, directives, added, taken, size_of, number_in}
use Rattle.patch_model.specs.Patched.{total, Fits, is_branch, SameBranch, biased_displacement, bias, pc_offset, Veneers, Way, Directly, ByVeneer, first_symbol, way_of, Leads, LeadsAt, AddsUp}
use Rattle.patch_model.specs.Reaches.{HasVeneer}
use Rattle.patch_model.proofs.BranchLemmas.{branch_tested}
use Rattle.link_model.specs.declared.placing.Placement.{Placement}
use Rattle.link_apply.specs.Placed.{veneers_at, target_in}
use Rattle.link_apply.specs.declared.flaws.Flaw.{Flaw}
use Rattle.link_apply.specs.declared.flaws.Flaw.TheVariants.{Malformed, Overflow, OutOfReach}
use Rattle.link_apply.specs.Flaws.{unit, is_odd, is_far, is_far_behind, has_bad_way, is_far_way, is_only, unless, narrow_flaw, veneer_of, lacks_veneer, goal_of, way_flaw, branch_flaw, value_flaw, has_bad_field}
use Rattle.link_apply.specs.PatchedBytes.{with_displacement, turned, number_by, veneer_bytes}
use Rattle.link_apply.specs.Laws.{VeneerLaw}

-- ---- tests

pub none_of : (flaw : Flaw) (wrong : Bool) (next : Option Flaw) → unless flaw wrong next ≡ None → (wrong ≡ false) × (next ≡ None)
none_of flaw true next e = absurd (cc)
none_of flaw false next e = (refl, e)

not_odd : (t : Bool) (n : ℕ) → is_odd t n ≡ false → n % unit t ≡ 0
not_odd t n e = eqb-true (n % unit t) 0 (not-false (n % unit t == 0) e)

not_far : (t : Bool) (from to : ℕ) → is_far t from to ≡ false → (from ≤ to) × (to < from + 2 * bias t)
not_far t from to e =
    let parts = or_parts (nat_lt to from) (nat_le (from + 2 * bias t) to) e in
    (ltb-false to from parts.0, leb-false (from + 2 * bias t) to parts.1)

fits_narrow : (width sum : ℕ) → narrow_flaw width sum ≡ None → Fits width sum
fits_narrow width sum e = by_test (nat_lt sum (2 ^ width) || nat_le (2 ^ 32 - 2 ^ (width - 1)) sum) refl e
  where
    by_test : (b : Bool) → (nat_lt sum (2 ^ width) || nat_le (2 ^ 32 - 2 ^ (width - 1)) sum) ≡ b → cond b None (Some Overflow) ≡ None → Fits width sum
    by_test false t h = absurd (cc)
    by_test true t h = by_case (nat_lt sum (2 ^ width)) refl t
      where
        by_case : (b : Bool) → nat_lt sum (2 ^ width) ≡ b → (b || nat_le (2 ^ 32 - 2 ^ (width - 1)) sum) ≡ true → Fits width sum
        by_case true t h = inl (ltb-true sum (2 ^ width) t)
        by_case false t h = inr (leb-true (2 ^ 32 - 2 ^ (width - 1)) sum h)

-- ---- branches with another displacement

same_branch : (t : Bool) (old to : ℕ) → old < 2 ^ 32 → SameBranch t old (with_displacement t old to)
same_branch false old to small = omega arith
same_branch true old to small = (omega arith, omega arith)

small_branch : (t : Bool) (old to : ℕ) → old < 2 ^ 32 → with_displacement t old to < 2 ^ 32
small_branch false old to small = omega arith
small_branch true old to small = omega arith

displacement_is : (t : Bool) (old to : ℕ) → to < 2 * bias t → to % unit t ≡ 0 → biased_displacement t (with_displacement t old to) ≡ to
displacement_is false old to below even = omega arith
displacement_is true old to below even = omega arith

even_direct : (t : Bool) (s more less : ℕ) → total s more less % unit t ≡ 0 → less ≤ s + more → (s + more - less) % unit t ≡ 0
even_direct false s more less e h = omega arith
even_direct true s more less e h = omega arith

even_veneer : (t : Bool) (v from : ℕ) → total v (bias t) from % unit t ≡ 0 → from ≤ v + bias t → (v + bias t - from) % unit t ≡ 0
even_veneer false v from e h = omega arith
even_veneer true v from e h = omega arith

-- the veneer of a way stands at an address
HasWay : Veneers → Way → ℕ → Type 0
HasWay veneers Directly v = Unit {0}
HasWay veneers (ByVeneer home state) v = veneers home state ≡ Some v

leads : (t : Bool) (at old more less v goal : ℕ) (veneers : Veneers) (way : Way) → HasWay veneers way v
    → has_bad_way t at old more less v way goal ≡ false → is_far_way t at old more less v way goal ≡ false
    → Leads t (at + pc_offset t) veneers old (turned t at old more less v way) more less way
unfolding HasWay
leads t at old more less v goal veneers Directly there good near =
    let range = not_far t less (biased_displacement t old + more) near in
    let even = even_direct t (biased_displacement t old) more less (not_odd t (total (biased_displacement t old) more less) good) range.0 in
    let e = displacement_is t old (biased_displacement t old + more - less) (omega arith) even in
    omega arith
leads t at old more less v goal veneers (ByVeneer home state) there good near =
    let range = not_far t (at + pc_offset t) (v + bias t) (or_parts (is_far t (at + pc_offset t) (v + bias t)) (is_far_behind state v goal) near).0 in
    let odd = (or_parts (is_odd state goal) (is_odd t (total v (bias t) (at + pc_offset t))) good).1 in
    let even = even_veneer t v (at + pc_offset t) (not_odd t (total v (bias t) (at + pc_offset t)) odd) range.0 in
    let e = displacement_is t old (v + bias t - (at + pc_offset t)) (omega arith) even in
    let At : Option ℕ → Type 0 = λ o. LeadsAt t (at + pc_offset t) (with_displacement t old (v + bias t - (at + pc_offset t))) o in
    let here : (at + pc_offset t) + biased_displacement t (with_displacement t old (v + bias t - (at + pc_offset t))) ≡ v + bias t = omega arith in
    subst At (sym there) here

same_turned : (t : Bool) (at old more less v : ℕ) (way : Way) → old < 2 ^ 32 → SameBranch t old (turned t at old more less v way)
same_turned t at old more less v Directly small = same_branch t old (biased_displacement t old + more - less) small
same_turned t at old more less v (ByVeneer home state) small = same_branch t old (v + bias t - (at + pc_offset t)) small

small_turned : (t : Bool) (at old more less v : ℕ) (way : Way) → old < 2 ^ 32 → turned t at old more less v way < 2 ^ 32
small_turned t at old more less v Directly small = small_branch t old (biased_displacement t old + more - less) small
small_turned t at old more less v (ByVeneer home state) small = small_branch t old (v + bias t - (at + pc_offset t)) small

has_way : (p : Placement) (region : ℕ) (way : Way) → lacks_veneer p region way ≡ false → HasWay (veneers_at p region) way (veneer_of p region way)
unfolding HasWay
has_way p region Directly e = tt
has_way p region (ByVeneer home state) e = by_option (veneers_at p region home state) (not-false (is_some (veneers_at p region home state)) e)
  where
    by_option : (o : Option ℕ) → is_some o ≡ true → o ≡ Some (unwrap_or o 0)
    by_option None e = absurd (cc)
    by_option (Some v) e = refl

-- ---- a field

pub adds_up : (p : Placement) (values : Values) (region base : ℕ) (a : Area) (r : Reloc) (kind : Kind) (rs : List Reloc)
    → value_flaw p values region base a r kind rs ≡ None → number_in a.bytes (field_of r) < 256 ^ size_of kind
    → AddsUp kind (base + (field_of r).place) values (veneers_at p region) (number_in a.bytes (field_of r))
    (number_by p values region base a.bytes (field_of r) kind rs) (added values rs) (taken base rs) (first_symbol rs)
adds_up p values region base a r Byte rs e small = (fits_narrow 8 (total (number_in a.bytes (field_of r)) (added values rs) (taken base rs)) e, refl)
adds_up p values region base a r Half rs e small = (fits_narrow 16 (total (number_in a.bytes (field_of r)) (added values rs) (taken base rs)) e, refl)
adds_up p values region base a r Word rs e small = omega arith
adds_up p values region base a r (Branch t) rs e small =
    let way : Way = way_of base values a.bytes (field_of r) t rs in
    let old : ℕ = number_in a.bytes (field_of r) in
    let at : ℕ = base + (field_of r).place in
    let v : ℕ = veneer_of p region (way_of base values a.bytes (field_of r) t rs) in
    let goal : ℕ = goal_of p (way_of base values a.bytes (field_of r) t rs) in
    let more : ℕ = added values rs in
    let less : ℕ = taken base rs in
    let one = none_of Malformed (not (is_only a.relocs r && is_branch t old)) (branch_flaw p values region base t a.bytes (field_of r) rs way) e in
    let branch = and_parts (is_only a.relocs r) (is_branch t old) (not-false (is_only a.relocs r && is_branch t old) one.0) in
    let two = none_of Malformed (lacks_veneer p region way) (way_flaw t at old more less v way goal) one.1 in
    let three = none_of Malformed (has_bad_way t at old more less v way goal) (unless OutOfReach (is_far_way t at old more less v way goal) None) two.1 in
    let four = none_of OutOfReach (is_far_way t at old more less v way goal) None three.1 in
    record {
      branch = branch_tested t old branch.1;
      rest = same_turned t at old more less v way small;
      leads = leads t at old more less v goal (veneers_at p region) way (has_way p region way two.0) three.0 four.0;
    }

pub small_by : (p : Placement) (values : Values) (region base : ℕ) (bytes : List ℕ) (f : Field) (kind : Kind) (rs : List Reloc)
    → number_in bytes f < 256 ^ size_of kind → number_by p values region base bytes f kind rs < 256 ^ size_of kind
small_by p values region base bytes f Byte rs small = omega arith
small_by p values region base bytes f Half rs small = omega arith
small_by p values region base bytes f Word rs small = omega arith
small_by p values region base bytes f (Branch t) rs small =
    small_turned t (base + f.place) (number_in bytes f) (added values rs) (taken base rs) (veneer_of p region (way_of base values bytes f t rs))
    (way_of base values bytes f t rs) small

-- ---- veneers

veneer_field : (to : ℕ) → with_displacement false 0xEA000000 to ≡ 0xEA000000 + (to / 4 + 2 ^ 23) % 2 ^ 24
veneer_field to = omega arith

has_veneer : (v target : ℕ) (state : Bool) → v % 4 ≡ 0 → is_odd state target ≡ false → is_far_behind state v target ≡ false
    → HasVeneer v target state (veneer_bytes v target state)
has_veneer v target true aligned even near = record { even = not_odd true target even; contents = refl }
has_veneer v target false aligned even near =
    let range = not_far false (v + 4 + pc_offset false) (target + bias false) near in
    let whole = not_odd false target even in
    let to : ℕ = total target (bias false) (v + 4 + pc_offset false) in
    record {
      aligned = aligned;
      field = (to / 4 + 2 ^ 23) % 2 ^ 24;
      fits = omega arith;
      contents = ap (λ n. bytes_of 0x4778 2 ++ bytes_of 0x46C0 2 ++ bytes_of n 4) (veneer_field to);
      leads = omega arith;
    }

way_veneer : (p : Placement) (region : ℕ) (t : Bool) (at old more less v : ℕ) (home : Home) (state : Bool) → veneers_at p region home state ≡ Some v → v % 4 ≡ 0
    → way_flaw t at old more less (unwrap_or (veneers_at p region home state) 0) (ByVeneer home state) (target_in p home) ≡ None
    → HasVeneer v (target_in p home) state (veneer_bytes v (target_in p home) state)
way_veneer p region t at old more less v home state there whole sound =
    let Sound : Option ℕ → Type 0 = λ o. way_flaw t at old more less (unwrap_or o 0) (ByVeneer home state) (target_in p home) ≡ None in
    let here = subst Sound there sound in
    let goal : ℕ = target_in p home in
    let bad : Bool = has_bad_way t at old more less v (ByVeneer home state) (target_in p home) in
    let far : Bool = is_far_way t at old more less v (ByVeneer home state) (target_in p home) in
    let one = none_of Malformed bad (unless OutOfReach far None) here in
    let two = none_of OutOfReach far None one.1 in
    has_veneer v goal state whole (or_parts (is_odd state goal) (is_odd t (total v (bias t) (at + pc_offset t))) one.0).0
    (or_parts (is_far t (at + pc_offset t) (v + bias t)) (is_far_behind state v goal) two.0).1

pub veneer_law : VeneerLaw
veneer_law p values region base area a home state v g =
    let r : Reloc = g.reloc in
    let t : Bool = g.thumb in
    let rs : List Reloc = directives a.relocs (field_of g.reloc) in
    let old : ℕ = number_in a.bytes (field_of g.reloc) in
    let sound = (none_of Malformed (has_bad_field area a r) (value_flaw p values region base a r (kind_of r) rs) g.sound).1 in
    let Sound : Kind → Type 0 = λ kind. value_flaw p values region base a g.reloc kind (directives a.relocs (field_of g.reloc)) ≡ None in
    let one = none_of Malformed (not (is_only a.relocs r && is_branch t old)) (branch_flaw p values region base t a.bytes (field_of r) rs (way_of base values a.bytes (field_of r) t rs)) (subst Sound g.branch sound) in
    let By : Way → Type 0 = λ way. branch_flaw p values region base g.thumb a.bytes (field_of g.reloc) (directives a.relocs (field_of g.reloc)) way ≡ None in
    let by = subst By g.way one.1 in
    let at : ℕ = base + (field_of r).place in
    let two = none_of Malformed (lacks_veneer p region (ByVeneer home state))
    (way_flaw t at old (added values rs) (taken base rs) (unwrap_or (veneers_at p region home state) 0) (ByVeneer home state) (target_in p home)) by in
    way_veneer p region t at old (added values rs) (taken base rs) v home state g.stands g.whole two.1
