-- The targets of veneers stand in areas that are placed.
use Rattle.std.proofs.Common.{◌≡◌, inl, inr, ℕ, zero, suc, ◌+◌, ◌<◌, Bool, true, false, ◌&&◌, if◌then◌else◌, List, [], ◌∷◌, refl, sym, ap, subst, ◌∙◌, Option, Some, None}
use Rattle.std.specs.Prelude.{slice_get, is_some, IsSomeAnd}
use Rattle.std.specs.List.{find}
use Rattle.std.specs.Option.{option_map}
use Rattle.std.proofs.lemmas.Option.{slice_get-map}
use Rattle.base_lemmas.proofs.BaseLemmas.{same}
use Rattle.aof_object.specs.declared.areas.AreaHead.{AreaHead}
use Rattle.aof_object.specs.declared.records.Area.{Area}
use Rattle.aof_object.specs.declared.records.Reloc.{Reloc}
use Rattle.aof_object.specs.declared.records.Symbol.{Symbol}
use Rattle.aof_object.specs.Checks.{left_over}
use Rattle.aof_object.specs.Validity.{IsValid, IsEntered, head_of, heads}
use Rattle.patch_model.specs.Fields.{Kind as FieldKind, Byte, Half, Word, Branch, Home, Values, field_of, kind_of, directives, added, taken, number_in}
use Rattle.patch_model.specs.Patched.{total, biased_displacement, bias, pc_offset, Directly, ByVeneer, first_symbol, other_state, way_home, way_to, way_of}
use Rattle.place_model.proofs.ListLemmas.{all_at}
use Rattle.link_model.specs.declared.placing.AreaName.{AreaName}
use Rattle.link_model.specs.declared.placing.Placement.{Placement}
use Rattle.link_model.specs.declared.placing.Veneer.{Veneer}
use Rattle.link_model.specs.declared.selection.Linked.{Linked}
use Rattle.link_model.specs.Meaning.{Meaning, Defined, OfRegion, Weak, symbol_of}
use Rattle.link_model.specs.Members.{Link, link_of}
use Rattle.link_model.specs.Values.{Bases, home_area, meant_at, meant_of, meant_by, meaning_at}
use Rattle.link_model.specs.Veneers.{is_alone, has_branch, veneer_by, values_apart, needed_as, needed_by, needed_by_header, veneers_of, IsIn, IsNeeded}
use Rattle.link_model.proofs.NeedLemmas.{veneers_law}
use Rattle.link_values.specs.Placed.{is_area}
use Rattle.link_laws.specs.Joins.{IsEntryOf}
use Rattle.link_laws.proofs.Shifts.Linked.{IsWholeImage, home_there}

-- ---- homes

pub record IsHomed (l : Link) (h : Home) : Type 0 where
  pub number : ℕ
  pub symbol : Symbol
  pub at : symbol_of l.objects h.object number ≡ Some symbol
  pub area : home_area symbol ≡ Some h.area

homed : (l : Link) (base_at : Bases) (m : Option Meaning) (h : Home) → (meant_by l.objects base_at m).home ≡ Some h → IsHomed l h
homed l base_at None h e = absurd cc
homed l base_at (Some (OfRegion n)) h e = absurd cc
homed l base_at (Some Weak) h e = absurd cc
homed l base_at (Some (Defined object k)) h e = by_symbol (symbol_of l.objects object k) refl e
  where
    by_area : (s : Symbol) (o : Option ℕ) → symbol_of l.objects object k ≡ Some s → home_area s ≡ o → (meant_at base_at object s o).home ≡ Some h → IsHomed l h
    by_area s None at own f = absurd cc
    by_area s (Some area) at own f =
        let is : record { object = object; area = area; offset = s.value } ≡ h = same _ h f in
        let first : object ≡ h.object = ap (λ (z : Home). z.object) is in
        let second : area ≡ h.area = ap (λ (z : Home). z.area) is in
        record { number = k; symbol = s; at = ap (λ n. symbol_of l.objects n k) (sym first) ∙ at; area = own ∙ ap Some second }

    by_symbol : (o : Option Symbol) → symbol_of l.objects object k ≡ o → (meant_of base_at object o).home ≡ Some h → IsHomed l h
    by_symbol None at f = absurd cc
    by_symbol (Some s) at f = by_area s (home_area s) at refl f

-- ---- the veneer of a branch

pub record IsOfHome (values : Values) (v : Veneer) : Type 0 where
  pub number : ℕ
  pub home : Home
  pub there : (values.symbol number).home ≡ Some home
  pub object : v.area.object ≡ home.object
  pub area : v.area.area ≡ home.area

of_home : (region : ℕ) (thumb : Bool) (reach more less : ℕ) (values : Values) (k : ℕ) (o : Option Home) (v : Veneer) → (values.symbol k).home ≡ o
    → veneer_by region (way_home thumb reach more less (values.symbol k) o) ≡ Some v → IsOfHome values v
of_home region thumb reach more less values k None v e h = absurd cc
of_home region thumb reach more less values k (Some x) v e h = go (other_state thumb (values.symbol k).thumb) h
  where
    go : (b : Bool) → veneer_by region (if b then ByVeneer (record { object = x.object; area = x.area; offset = total (x.offset + reach) more (less + (values.symbol k).number) }) (values.symbol k).thumb else Directly) ≡ Some v
        → IsOfHome values v
    go false f = absurd cc
    go true f =
        let is = same _ v f in
        record { number = k; home = x; there = e; object = sym (ap (λ (z : Veneer). z.area.object) is); area = sym (ap (λ (z : Veneer). z.area.area) is) }

of_way : (region : ℕ) (thumb : Bool) (reach more less : ℕ) (values : Values) (o : Option ℕ) (v : Veneer) → veneer_by region (way_to thumb reach more less values o) ≡ Some v → IsOfHome values v
of_way region thumb reach more less values None v h = absurd cc
of_way region thumb reach more less values (Some k) v h = of_home region thumb reach more less values k (values.symbol k).home v refl h

of_branch : (l : Link) (region : ℕ) (name : AreaName) (a : Area) (r : Reloc) (v : Veneer) → needed_by l region name a r ≡ Some v → IsOfHome (values_apart l name.object) v
of_branch l region name a r v h = go (kind_of r) h
  where
    go : (kind : FieldKind) → needed_as kind l region name.object a r ≡ Some v → IsOfHome (values_apart l name.object) v
    go Byte n = absurd cc
    go Half n = absurd cc
    go Word n = absurd cc
    go (Branch thumb) n = by (is_alone a.relocs r && has_branch thumb a.bytes (field_of r)) n
      where
        by : (b : Bool) → (if b then veneer_by region (way_of 0 (values_apart l name.object) a.bytes (field_of r) thumb (directives a.relocs (field_of r))) else None) ≡ Some v → IsOfHome (values_apart l name.object) v
        by true some =
            let values : Values = values_apart l name.object in
            let rs : List Reloc = directives a.relocs (field_of r) in
            of_way region thumb (total (0 + (field_of r).place + pc_offset thumb + biased_displacement thumb (number_in a.bytes (field_of r))) 0 (bias thumb)) (added values rs) (taken 0 rs) values (first_symbol rs) v some
        by false some = absurd cc

-- ---- those that are needed

module _ (l : Linked) (p : Placement) (w : IsWholeImage l p) (entered : IsEntryOf l) where
  pub entry_there : is_some (find (is_area l.entry.object l.entry.area) p.areas) ≡ true
  entry_there =
      let valid : IsValid entered.object.value = all_at (λ q. IsValid q.value) l.objects l.entry.object entered.object w.valid entered.at in
      let is : IsEntered (heads entered.object.value.areas) (Some (record { area = l.entry.area; offset = l.entry.offset })) = subst (IsEntered (heads entered.object.value.areas)) entered.entry valid.entry in
      by_head (slice_get (heads entered.object.value.areas) l.entry.area) refl is
    where
      by_area : (x : AreaHead) (z : Option Area) → slice_get entered.object.value.areas l.entry.area ≡ z → option_map head_of z ≡ Some x → is_some (find (is_area l.entry.object l.entry.area) p.areas) ≡ true
      by_area x None e f = absurd cc
      by_area x (Some a) e f = w.there l.entry.object l.entry.area entered.object a entered.at e

      by_head : (z : Option AreaHead) → slice_get (heads entered.object.value.areas) l.entry.area ≡ z → IsSomeAnd z (λ h. (l.entry.offset < h.size) × (left_over h.attributes l.entry.offset ≡ 0))
          → is_some (find (is_area l.entry.object l.entry.area) p.areas) ≡ true
      by_head None e f = absurd f
      by_head (Some x) e f = by_area x (slice_get entered.object.value.areas l.entry.area) refl (sym (slice_get-map head_of entered.object.value.areas l.entry.area) ∙ e)

  of_header : (header : Bool) (v : Veneer) → IsIn (needed_by_header header l.entry) v → (v.area.object ≡ l.entry.object) × (v.area.area ≡ l.entry.area)
  of_header header v (i, at) = go (header && l.entry.thumb) i at
    where
      go : (b : Bool) (i : ℕ)
          → slice_get (if b then (record { region = 0; area = record { object = l.entry.object; area = l.entry.area }; offset = l.entry.offset; thumb = true }) ∷ [] else []) i ≡ Some v
          → (v.area.object ≡ l.entry.object) × (v.area.area ≡ l.entry.area)
      go true zero h = let is = same _ v h in (sym (ap (λ (z : Veneer). z.area.object) is), sym (ap (λ (z : Veneer). z.area.area) is))
      go true (suc i) h = absurd cc
      go false i h = absurd cc

  pub target_there : (regions : List (List AreaName)) (header : Bool) (v : Veneer) → IsIn (veneers_of (link_of l) regions header) v → is_some (find (is_area v.area.object v.area.area) p.areas) ≡ true
  target_there regions header v there = go ((veneers_law (link_of l) regions header).only v there)
    where
      go : IsNeeded (link_of l) regions header v → is_some (find (is_area v.area.object v.area.area) p.areas) ≡ true
      go (inl i) =
          let (object, area) = of_header header v i in
          ap (λ n. is_some (find (is_area n v.area.area) p.areas)) object ∙ ap (λ n. is_some (find (is_area l.entry.object n) p.areas)) area ∙ entry_there
      go (inr b) =
          let own = of_branch (link_of l) v.region b.name b.area b.reloc v b.needs in
          let home = homed (link_of l) (λ other area. 0) (meaning_at (link_of l) (λ q. None) b.name.object own.number) own.home own.there in
          ap (λ n. is_some (find (is_area n v.area.area) p.areas)) own.object ∙ ap (λ n. is_some (find (is_area own.home.object n) p.areas)) own.area
          ∙ home_there l p w own.home.object home.number home.symbol own.home.area home.at home.area
