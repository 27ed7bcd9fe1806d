-- Symbols of a placed object: one that stands in an area has its address.
use Rattle.std.proofs.Common.{◌≡◌, ℕ, ◌+◌, ◌*◌, ◌%◌, ◌^◌, ◌||◌, if◌then◌else◌, List, [], ◌∷◌, map, add-one, Bool, true, false, cond, refl, sym, ◌∙◌, ap, subst, arith, Option, Some, None, ◌⊎◌, inl, inr}
use Rattle.std.specs.Prelude.{Result, Ok}
use Rattle.std.specs.List.{list_any, slice_get}
use Rattle.std.specs.Option.{option_map}
use Rattle.std.proofs.lemmas.Option.{slice_get-map}
use Rattle.sdt_word.specs.Numbers.{flag}
use Rattle.sdt_fault.specs.declared.kinds.LineKind.{LineKind}
use Rattle.aof_object.specs.declared.records.Object.{Object}
use Rattle.aof_object.specs.declared.records.Symbol.{Symbol}
use Rattle.aof_object.specs.Checks.{is_placed}
use Rattle.asm_model.specs.declared.names.LaidName.{LaidName}
use Rattle.asm_model.specs.declared.statements.Statement.{Statement}
use Rattle.asm_model.specs.declared.values.Value.{Value}
use Rattle.asm_model.specs.declared.values.Value.TheVariants.{Place}
use Rattle.asm_model.specs.Forms.{same}
use Rattle.asm_model.specs.Meaning.{named_in, entry_stands_at, in_area, entry_value, value_of}
use Rattle.asm_model.proofs.WordLemmas.{same_true}
use Rattle.asm_model.specs.Before.{place_of}
use Rattle.asm_model.specs.Entries.{equal_entry}
use Rattle.asm_model.specs.Laid.{laid, final_names}
use Rattle.asm_model.specs.Symbols.{symbols_of}
use Rattle.object_laws.specs.Laws.{IsListed}
use Rattle.object_laws.proofs.OriginLemmas.{named_name}
use Rattle.source_laws.proofs.NameLemmas.{final_each}
use Rattle.patch_model.specs.Fields.{Values}
use Rattle.source_model.specs.Objects.{source_of, symbol_number, symbol_placed, symbol_valued, symbol_named, is_exported, IsObject}
use Rattle.stand_model.specs.Placed.{IsMeantBy, IsPlaced}

-- ---- an entry that stands in an area is its own symbol

abbrev pub AreaOwn : LaidName → Type 0
AreaOwn n = (n.area ≡ None) ⊎ (entry_value n ≡ Ok (Place n.name 0))

equal_area : (list : List LaidName) (here : Option ℕ) (name : List ℕ) (r : Result Value LineKind) → AreaOwn (equal_entry list here name r)
equal_area list here name (Ok (Place [] n)) = inr refl
equal_area list here name r = inl refl

pub final_area : (ss : List Statement) (q : List ℕ) (n : LaidName) → named_in q (final_names (laid ss)) ≡ Some n → AreaOwn n
final_area ss = final_each ss AreaOwn (record {
  label = λ l at name x thumb. inr refl;
  equal = λ l at name e x names r. equal_area names l.area name r;
  field = λ l at name x m. inl refl;
  register = λ l at name r x. inl refl;
  imported = λ l at name x. inl refl;
})

-- ---- the symbol of an entry

abbrev pub StandsThere : LaidName → ℕ × ℕ → Type 0
StandsThere n a = in_area n.area n.offset ≡ Some a

pub stands_own : (ss : List Statement) (q : List ℕ) (n : LaidName) (a : ℕ × ℕ) → named_in q (final_names (laid ss)) ≡ Some n → StandsThere n a
    → entry_value n ≡ Ok (Place q 0)
stands_own ss q n a e h = by_area (final_area ss q n e)
  where
    by_area : AreaOwn n → entry_value n ≡ Ok (Place q 0)
    by_area (inl x) = let y : in_area None n.offset ≡ Some a = ap (λ z. in_area z n.offset) (sym x) ∙ h in absurd (cc)
    by_area (inr x) = x ∙ ap (λ z. Ok (Place z 0)) (named_name q (final_names (laid ss)) n e)

pub symbol_is : (ss : List Statement) (c : ℕ) (cs : List ℕ) (n : LaidName) (a : ℕ × ℕ) → named_in (c ∷ cs) (final_names (laid ss)) ≡ Some n → StandsThere n a
    → symbol_named (source_of ss) (c ∷ cs) ≡ symbol_placed (source_of ss) (c ∷ cs) (c ∷ cs) 0 (Some a)
symbol_is ss c cs n a e h =
    let s = source_of ss in
    let q : List ℕ = c ∷ cs in
    ap (symbol_valued s q) (ap value_of e ∙ stands_own ss q n a e h) ∙ ap (symbol_placed s q q 0) (ap entry_stands_at e ∙ h)

-- ---- the record of a listed name

pub place_found : (q : List ℕ) (xs : List (List ℕ)) → IsListed xs q → slice_get xs (place_of q xs) ≡ Some q
place_found q [] h = absurd (cc)
place_found q (x ∷ xs) h = by_test (same q x) refl h (place_found q xs)
  where
    by_test : (b : Bool) → same q x ≡ b → (b || list_any (same q) xs) ≡ true → (IsListed xs q → slice_get xs (place_of q xs) ≡ Some q)
        → slice_get (x ∷ xs) (cond b 0 (place_of q xs + 1)) ≡ Some q
    by_test true s k rest = ap Some (sym (same_true q x s))
    by_test false s k rest = ap (slice_get (x ∷ xs)) (add-one (place_of q xs)) ∙ rest k

pub record_found : {A : Type 0} → (f : List ℕ → A) (q : List ℕ) (xs : List (List ℕ)) → IsListed xs q → slice_get (map f xs) (place_of q xs) ≡ Some (f q)
record_found f q xs h = slice_get-map f xs (place_of q xs) ∙ ap (option_map f) (place_found q xs h)

placed_there : (exported datum thumb : Bool) → is_placed ((if exported then 3 else 1) + (flag datum * 2 ^ 8 + flag thumb * 2 ^ 12)) ≡ true
placed_there true true true = refl
placed_there true true false = refl
placed_there true false true = refl
placed_there true false false = refl
placed_there false true true = refl
placed_there false true false = refl
placed_there false false true = refl
placed_there false false false = refl

pub offset_sum : (base o m : ℕ) → m % 2 ^ 32 ≡ (base + (o + 0) % 2 ^ 32) % 2 ^ 32 → (base + o) % 2 ^ 32 ≡ m % 2 ^ 32
offset_sum base o m h = omega (arith, h)

-- a listed symbol that stands in an area has its address
pub symbol_placed_there : (ss : List Statement) (o : Object) → IsObject ss o → (own : ℕ) (values : Values) (area_at : ℕ → ℕ → ℕ) → IsPlaced own o values area_at
    → (c : ℕ) (cs : List ℕ) (n : LaidName) (a : ℕ × ℕ) → IsListed (symbols_of (source_of ss).names (source_of ss).lines) (c ∷ cs)
    → named_in (c ∷ cs) (final_names (laid ss)) ≡ Some n → StandsThere n a
    → (values.base a.0 + a.1) % 2 ^ 32 ≡ (values.symbol (symbol_number (source_of ss) (c ∷ cs))).number % 2 ^ 32
symbol_placed_there ss o obj own values area_at placed c cs n a there e h =
    let s = source_of ss in
    let q : List ℕ = c ∷ cs in
    let y : Symbol = symbol_placed s q q 0 (Some a) in
    let k = symbol_number s q in
    let found : slice_get o.symbols k ≡ Some y =
    ap (λ z. slice_get z k) obj.symbols
    ∙ record_found (symbol_named s) q (symbols_of s.names s.lines) there
    ∙ ap Some (symbol_is ss c cs n a e h) in
    let meant : IsMeantBy true own values.base y (values.symbol k) =
    subst (λ (z : Bool). IsMeantBy z own values.base y (values.symbol k)) (placed_there (is_exported s q) _ _) (placed.symbols k y found) in
    offset_sum (values.base a.0) a.1 (values.symbol k).number (meant a.0 refl).number
