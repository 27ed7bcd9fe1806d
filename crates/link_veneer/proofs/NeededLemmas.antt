-- The veneer that a branch needs, by its distance from its target.
use Rattle.std.proofs.Common.{◌≡◌, ℕ, suc, ◌+◌, ◌-◌, ◌%◌, ◌^◌, ◌<◌, ◌≤◌, Bool, true, false, cond, List, length, take, drop, drop-cons, get_or, Option, Some, None, refl, sym, ap, ◌∙◌, arith}
use Rattle.std.specs.Prelude.{◌==◌, ◌&&◌, nat_le, count_by, is_some}
use Rattle.std.specs.Option.{option_and_then, option_map, option_or}
use Rattle.std.specs.List.{cons_option, filter_map}
use Rattle.std.proofs.lemmas.Bool.{eqb-true}
use Rattle.sdt_word.specs.Bytes.{number_of, word_in}
use Rattle.base_lemmas.proofs.BaseLemmas.{both_true}
use Rattle.aof_object.specs.declared.records.Area.{Area}
use Rattle.aof_object.specs.declared.records.Object.{Object}
use Rattle.aof_object.specs.declared.records.Reloc.{Reloc}
use Rattle.aof_object.specs.declared.records.Symbol.{Symbol}
use Rattle.patch_model.specs.Fields.{Kind, Byte, Half, Word, Branch, Home, Meant, field_of, kind_of, is_relative, is_by_symbol, number_named, number_in, directives, size_of}
use Rattle.patch_model.specs.Patched.{total, other_state, is_branch, biased_displacement, bias, pc_offset, Directly, ByVeneer, way_home, way_of}
use Rattle.link_model.specs.declared.placing.AreaName.{AreaName}
use Rattle.link_model.specs.declared.placing.Veneer.{Veneer}
use Rattle.link_model.specs.Meaning.{Meaning, Defined, OfRegion, Weak, symbol_of}
use Rattle.link_model.specs.Members.{Link}
use Rattle.link_model.specs.Values.{home_area, meant_at, meant_of, meant_by}
use Rattle.link_model.specs.Options.{first_given}
use Rattle.link_model.specs.Veneers.{shares_field, is_alone, has_branch, veneer_by, values_apart, needed_as, needed_by, IsIn}
use Rattle.link_model.proofs.WayLemmas.{alone_way, sole_directive}
use Rattle.link_veneer.specs.Fields.{Marks, is_branch_kind, marked_by, AreMarks}
use Rattle.link_veneer.specs.Targets.{target_of}
use Rattle.link_values.specs.declared.values.BranchTarget.{BranchTarget}
use Rattle.link_veneer.specs.Interworking.{refusal_by, refused_by}
use Rattle.link_veneer.specs.Needing.{led, led_from, veneer_to}
use Rattle.link_veneer.proofs.FieldLemmas.{is_branch_of, marks_tell}

-- ---- where no address is known, a symbol's number is its offset

abbrev AtHome : ℕ → Option Home → Type 0
AtHome number None = Unit {0}
AtHome number (Some h) = number ≡ h.offset

abbrev IsAtHome : Meant → Type 0
IsAtHome m = AtHome m.number m.home

symbol_at_home : (object : ℕ) (o : Option Symbol) → IsAtHome (meant_of (λ other area. 0) object o)
symbol_at_home object None = tt
symbol_at_home object (Some s) = by (home_area s)
  where
    by : (area : Option ℕ) → IsAtHome (meant_at (λ other area. 0) object s area)
    by None = tt
    by (Some area) = omega arith

meaning_at_home : (os : List Object) (m : Option Meaning) → IsAtHome (meant_by os (λ other area. 0) m)
meaning_at_home os None = tt
meaning_at_home os (Some (Defined object k)) = symbol_at_home object (symbol_of os object k)
meaning_at_home os (Some (OfRegion n)) = tt
meaning_at_home os (Some Weak) = tt

at_home : (l : Link) (object k : ℕ) → IsAtHome ((values_apart l object).symbol k)
at_home l object k = meaning_at_home l.objects _

-- ---- the veneer by a distance that is counted upwards

offset_same : (o number x d : ℕ) → number ≡ o → d ≤ 2 ^ 32 → total (o + total (0 + x) 0 d) (number + 0 + 0) (0 + 0 + number) ≡ (o + (x + (2 ^ 32 - d))) % 2 ^ 32
offset_same o number x d e h = omega arith

way_led : (region : ℕ) (thumb : Bool) (x d : ℕ) (m : Meant) (h : Option Home) → d ≤ 2 ^ 32 → AtHome m.number h
    → veneer_by region (way_home thumb (total (0 + x) 0 d) (m.number + 0 + 0) (0 + 0) m h)
    ≡ option_and_then (veneer_to region thumb (x + (2 ^ 32 - d))) (option_map (λ g. record { place = record { object = g.object; area = g.area; offset = g.offset }; thumb = m.thumb }) h)
way_led region thumb x d m None low home = refl
way_led region thumb x d m (Some h) low home = by (other_state thumb m.thumb)
  where
    offset : total (h.offset + total (0 + x) 0 d) (m.number + 0 + 0) (0 + 0 + m.number) ≡ (h.offset + (x + (2 ^ 32 - d))) % 2 ^ 32
    offset = offset_same h.offset m.number x d home low

    by : (b : Bool)
        → veneer_by region (cond b (ByVeneer (record { object = h.object; area = h.area; offset = total (h.offset + total (0 + x) 0 d) (m.number + 0 + 0) (0 + 0 + m.number) }) m.thumb) Directly)
        ≡ cond b (Some (record { region = region; area = record { object = h.object; area = h.area }; offset = (h.offset + (x + (2 ^ 32 - d))) % 2 ^ 32; thumb = m.thumb })) None
    by false = refl
    by true = ap (λ (o : ℕ). Some (record { region = region; area = record { object = h.object; area = h.area }; offset = o; thumb = m.thumb })) offset

bias_low : (thumb : Bool) → bias thumb ≤ 2 ^ 32
bias_low true = omega arith
bias_low false = omega arith

-- ---- a relocation

none_as : (k : Kind) (l : Link) (region object : ℕ) (area : Area) (r : Reloc) → is_branch_kind k ≡ false → needed_as k l region object area r ≡ None
none_as Byte l region object area r h = refl
none_as Half l region object area r h = refl
none_as Word l region object area r h = refl
none_as (Branch thumb) l region object area r h = absurd cc

pub no_branch : (l : Link) (region : ℕ) (a : AreaName) (area : Area) (r : Reloc) → is_branch_kind (kind_of r) ≡ false → needed_by l region a area r ≡ None
no_branch l region a area r h = none_as (kind_of r) l region a.object area r h

-- a branch that has its field alone, where one stands
way_there : (l : Link) (region object : ℕ) (area : Area) (r : Reloc) (thumb : Bool) → kind_of r ≡ Branch thumb → IsIn area.relocs r → is_alone area.relocs r ≡ true
    → veneer_by region (way_of 0 (values_apart l object) area.bytes (field_of r) thumb (directives area.relocs (field_of r)))
    ≡ option_and_then (veneer_to region thumb ((field_of r).place + (pc_offset thumb + biased_displacement thumb (word_in area.bytes (field_of r).place) + (2 ^ 32 - bias thumb)))) (target_of ((values_apart l object).symbol (number_named r)))
way_there l region object area r thumb kind there alone =
    let parts = both_true (is_relative r) (is_by_symbol r && count_by (shares_field (field_of r)) area.relocs == 1) alone in
    let rest = both_true (is_by_symbol r) (count_by (shares_field (field_of r)) area.relocs == 1) parts.1 in
    let sole = sole_directive area.relocs r there (eqb-true (count_by (shares_field (field_of r)) area.relocs) 1 rest.1) in
    let values = values_apart l object in
    let m = values.symbol (number_named r) in
    let place = (field_of r).place in
    let word : number_in area.bytes (field_of r) ≡ word_in area.bytes place = ap (λ (k : Kind). number_of (take (size_of k) (drop place area.bytes))) kind in
    let from = place + pc_offset thumb + biased_displacement thumb (word_in area.bytes place) in
    let far : from + (2 ^ 32 - bias thumb) ≡ place + (pc_offset thumb + biased_displacement thumb (word_in area.bytes place) + (2 ^ 32 - bias thumb)) =
    three place (pc_offset thumb) (biased_displacement thumb (word_in area.bytes place)) (2 ^ 32 - bias thumb) in
    ap (λ (rs : List Reloc). veneer_by region (way_of 0 values area.bytes (field_of r) thumb rs)) sole
    ∙ ap (veneer_by region) (alone_way 0 values area.bytes thumb r kind parts.0 rest.0)
    ∙ ap (λ (w : ℕ). veneer_by region (way_home thumb (total (0 + (place + pc_offset thumb + biased_displacement thumb w)) 0 (bias thumb)) (m.number + 0 + 0) (0 + 0) m m.home)) word
    ∙ way_led region thumb from (bias thumb) m m.home (bias_low thumb) (at_home l object (number_named r))
    ∙ ap (λ (n : ℕ). option_and_then (veneer_to region thumb n) (target_of m)) far
  where
    three : (a b c d : ℕ) → a + b + c + d ≡ a + (b + c + d)
    three a b c d = omega arith

reads_there : (bytes : List ℕ) (r : Reloc) (thumb : Bool) → kind_of r ≡ Branch thumb
    → has_branch thumb bytes (field_of r) ≡ nat_le ((field_of r).place + 4) (length bytes) && is_branch thumb (word_in bytes (field_of r).place)
reads_there bytes r thumb kind =
    ap (λ (k : Kind). nat_le ((field_of r).place + size_of k) (length bytes) && is_branch thumb (number_of (take (size_of k) (drop (field_of r).place bytes)))) kind

branch_there : (l : Link) (region object : ℕ) (area : Area) (r : Reloc) (thumb : Bool) → kind_of r ≡ Branch thumb → IsIn area.relocs r → is_alone area.relocs r ≡ true
    → needed_as (Branch thumb) l region object area r
    ≡ option_and_then (λ distance. option_and_then (veneer_to region thumb distance) (target_of ((values_apart l object).symbol (number_named r)))) (led_from area.bytes thumb (field_of r).place)
branch_there l region object area r thumb kind there alone =
    ap (λ (b : Bool). cond (b && has_branch thumb area.bytes (field_of r)) (veneer_by region (way_of 0 (values_apart l object) area.bytes (field_of r) thumb (directives area.relocs (field_of r)))) None) alone
    ∙ ap (λ (b : Bool). cond b (veneer_by region (way_of 0 (values_apart l object) area.bytes (field_of r) thumb (directives area.relocs (field_of r)))) None) (reads_there area.bytes r thumb kind)
    ∙ by (nat_le ((field_of r).place + 4) (length area.bytes) && is_branch thumb (word_in area.bytes (field_of r).place))
  where
    by : (b : Bool) → cond b (veneer_by region (way_of 0 (values_apart l object) area.bytes (field_of r) thumb (directives area.relocs (field_of r)))) None
        ≡ option_and_then (λ distance. option_and_then (veneer_to region thumb distance) (target_of ((values_apart l object).symbol (number_named r))))
        (cond b (Some ((field_of r).place + (pc_offset thumb + biased_displacement thumb (word_in area.bytes (field_of r).place) + (2 ^ 32 - bias thumb)))) None)
    by false = refl
    by true = way_there l region object area r thumb kind there alone

not_alone_as : (l : Link) (region object : ℕ) (area : Area) (r : Reloc) (thumb : Bool) → is_alone area.relocs r ≡ false → needed_as (Branch thumb) l region object area r ≡ None
not_alone_as l region object area r thumb alone =
    ap (λ (b : Bool). cond (b && has_branch thumb area.bytes (field_of r)) (veneer_by region (way_of 0 (values_apart l object) area.bytes (field_of r) thumb (directives area.relocs (field_of r)))) None) alone

pub not_alone : (l : Link) (region : ℕ) (a : AreaName) (area : Area) (m : Marks) (r : Reloc) → AreMarks area.relocs m → is_branch_kind (kind_of r) ≡ true → marked_by m r ≡ false → needed_by l region a area r ≡ None
not_alone l region a area m r known h alone =
    let kind = is_branch_of r h in
    ap (λ (k : Kind). needed_as k l region a.object area r) kind ∙ not_alone_as l region a.object area r (r.offset % 2 == 1) (sym (marks_tell area.relocs m r (r.offset % 2 == 1) known kind) ∙ alone)

pub alone_led : (l : Link) (region : ℕ) (a : AreaName) (area : Area) (m : Marks) (r : Reloc) → AreMarks area.relocs m → IsIn area.relocs r → is_branch_kind (kind_of r) ≡ true → marked_by m r ≡ true
    → needed_by l region a area r ≡ led l region a.object area.bytes r
alone_led l region a area m r known there h alone =
    let kind = is_branch_of r h in
    ap (λ (k : Kind). needed_as k l region a.object area r) kind
    ∙ branch_there l region a.object area r (r.offset % 2 == 1) kind there (sym (marks_tell area.relocs m r (r.offset % 2 == 1) known kind) ∙ alone)

-- ---- a branch to code of the same state needs none, whether it is alone or not

led_anywhere : (region : ℕ) (thumb : Bool) (d : Option ℕ) (t : Option BranchTarget)
    → option_and_then (λ distance. option_and_then (veneer_to 0 thumb distance) t) d ≡ None → option_and_then (λ distance. option_and_then (veneer_to region thumb distance) t) d ≡ None
led_anywhere region thumb None t h = refl
led_anywhere region thumb (Some d) None h = refl
led_anywhere region thumb (Some d) (Some t) h = by (other_state thumb t.thumb) h
  where
    to : ℕ → Veneer
    to r = record { region = r; area = record { object = t.place.object; area = t.place.area }; offset = (t.place.offset + d) % 2 ^ 32; thumb = t.thumb }

    by : (b : Bool) → cond b (Some (to 0)) None ≡ None → cond b (Some (to region)) None ≡ None
    by false e = refl
    by true e = absurd cc

pub led_nowhere : (l : Link) (region : ℕ) (a : AreaName) (area : Area) (r : Reloc) → IsIn area.relocs r → is_branch_kind (kind_of r) ≡ true → led l 0 a.object area.bytes r ≡ None
    → needed_by l region a area r ≡ None
led_nowhere l region a area r there h nowhere =
    let kind = is_branch_of r h in
    let thumb : Bool = r.offset % 2 == 1 in
    ap (λ (k : Kind). needed_as k l region a.object area r) kind ∙ by thumb kind (is_alone area.relocs r) refl nowhere
  where
    by : (thumb : Bool) → kind_of r ≡ Branch thumb → (b : Bool) → is_alone area.relocs r ≡ b
        → option_and_then (λ distance. option_and_then (veneer_to 0 thumb distance) (target_of ((values_apart l a.object).symbol (number_named r)))) (led_from area.bytes thumb (field_of r).place) ≡ None
        → needed_as (Branch thumb) l region a.object area r ≡ None
    by thumb kind false e none = not_alone_as l region a.object area r thumb e
    by thumb kind true e none =
        branch_there l region a.object area r thumb kind there e
        ∙ led_anywhere region thumb (led_from area.bytes thumb (field_of r).place) (target_of ((values_apart l a.object).symbol (number_named r))) none

pub none_of : (o : Option Veneer) → is_some o ≡ false → o ≡ None
none_of None e = refl
none_of (Some v) e = absurd cc

-- one more of those without any
pub none_next : {A B : Type 0} (f : A → Option B) (xs : List A) (i : ℕ) (d : A) (ys : List B) → i < length xs → f (get_or xs i d) ≡ None
    → filter_map f (drop i xs) ≡ ys → filter_map f (drop (i + 1) xs) ≡ ys
none_next f xs i d ys h none known =
    let n : suc i ≡ i + 1 = omega arith in
    ap (λ (k : ℕ). filter_map f (drop k xs)) (sym n)
    ∙ (sym (ap (λ o. cons_option o (filter_map f (drop (suc i) xs))) none) ∙ (sym (ap (filter_map f) (drop-cons xs i d h)) ∙ known))

pub given_next : {A B : Type 0} (f : A → Option B) (xs : List A) (i : ℕ) (d : A) (y : Option B) → i < length xs → f (get_or xs i d) ≡ None
    → first_given f (drop i xs) ≡ y → first_given f (drop (i + 1) xs) ≡ y
given_next f xs i d y h none known =
    let n : suc i ≡ i + 1 = omega arith in
    ap (λ (k : ℕ). first_given f (drop k xs)) (sym n)
    ∙ (sym (ap (λ o. option_or o (first_given f (drop (suc i) xs))) none) ∙ (sym (ap (first_given f) (drop-cons xs i d h)) ∙ known))

pub not_refused : (l : Link) (a : AreaName) (area : Area) (r : Reloc) → needed_by l 0 a area r ≡ None → refused_by l a area r ≡ None
not_refused l a area r none = ap (refusal_by l.objects (symbol_of l.objects a.object (number_named r))) none ∙ by (symbol_of l.objects a.object (number_named r))
  where
    by : (o : Option Symbol) → refusal_by l.objects o None ≡ None
    by None = refl
    by (Some s) = refl
