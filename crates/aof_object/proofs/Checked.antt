-- What it tells that no check of a row fails.
use Rattle.std.proofs.Common.{◌≡◌, ◌≢◌, ℕ, ◌%◌, ◌^◌, ◌<◌, ◌≤◌, Bool, true, false, cond, eqb, ltb, Option, Some, None, Result, Ok, refl, ap, ◌∙◌}
use Rattle.std.specs.Prelude.{◌↔◌}
use Rattle.std.specs.Option.{ok_or}
use Rattle.std.proofs.lemmas.Bool.{ltb-false, le-ltb, lt-ltb, ltb-true, eqb-true, eq-eqb, eqb-false, false_from_ne_true}
use Rattle.sdt_word.specs.Numbers.{bit}
use Rattle.sdt_fault.specs.declared.refusal.Refusal.{Refusal}
use Rattle.chunk_file.specs.Reading.{◌>>=◌}
use Rattle.sdt_fault.specs.declared.kinds.FileKind.TheVariants.{Value, Area}
use Rattle.aof_object.specs.declared.checks.Flaw.{Flaw}
use Rattle.aof_object.specs.declared.checks.Home.{Home}
use Rattle.aof_object.specs.declared.checks.Home.TheVariants.{Unknown, Nowhere, Within}
use Rattle.aof_object.specs.Checks.{flaw, refused_area_bits, misplaced, area_flaw, named_by, reloc_flaw, is_placed, refused_symbol_bits, home_flaw, symbol_flaw, left_over, entry_flaw}
use Rattle.aof_object.specs.Objects.{judged}

-- ---- steps

clear_if : (b : Bool) (f : Flaw) (o : Option Flaw) → cond b (Some f) o ≡ None → (b ≡ false) × (o ≡ None)
clear_if true f o e = absurd cc
clear_if false f o e = (refl, e)

clear_unless : (b : Bool) (f : Flaw) (o : Option Flaw) → cond b o (Some f) ≡ None → (b ≡ true) × (o ≡ None)
clear_unless true f o e = (refl, e)
clear_unless false f o e = absurd cc

not_less : (a b : ℕ) (f : Flaw) (o : Option Flaw) → cond (ltb a b) (Some f) o ≡ None → (b ≤ a) × (o ≡ None)
not_less a b f o e = let g = clear_if (ltb a b) f o e in (ltb-false a b g.0, g.1)

equal : (a b : ℕ) (f : Flaw) (o : Option Flaw) → cond (eqb a b) o (Some f) ≡ None → (a ≡ b) × (o ≡ None)
equal a b f o e = let g = clear_unless (eqb a b) f o e in (eqb-true a b g.0, g.1)

past_less : (a b : ℕ) (x o : Option Flaw) → b ≤ a → cond (ltb a b) x o ≡ o
past_less a b x o h = rw (le-ltb a b h) refl

before_less : (a b : ℕ) (x o : Option Flaw) → a < b → cond (ltb a b) x o ≡ x
before_less a b x o h = rw (lt-ltb a b h) refl

past_equal : (a b : ℕ) (o x : Option Flaw) → a ≡ b → cond (eqb a b) o x ≡ o
past_equal a b o x h = rw (eq-eqb a b h) refl

past_false : (b : Bool) (x o : Option Flaw) → b ≡ false → cond b x o ≡ o
past_false b x o h = rw h refl

pub judged_law : {A : Type 0} (at : ℕ) (f : Option Flaw) (x y : A) → (judged at f x ≡ Ok y) ↔ ((f ≡ None) × (x ≡ y))
judged_law at None x y = (λ e. (refl, cc), λ h. ap (λ z. Ok z) h.1)
judged_law at (Some f) x y = (λ e. absurd cc, λ h. absurd (let bad : Some f ≡ None = h.0 in cc))

pub read_or : {A B : Type 0} (o : Option A) (r : Refusal) (f : A → Result B Refusal) (y : B) → (ok_or o r >>= f) ≡ Ok y → (x : A) × (o ≡ Some x) × (f x ≡ Ok y)
read_or None r f y e = absurd cc
read_or (Some x) r f y e = (x, refl, e)

-- ---- rows

pub record AreaPasses (repeated : Bool) (attributes size count base : ℕ) : Type 0 where
  pub fresh : repeated ≡ false
  pub permitted : refused_area_bits attributes ≡ 0
  pub least : 2 ≤ attributes % 256
  pub most : attributes % 256 ≤ 16
  pub whole : size % 4 ≡ 0
  pub small : size ≤ 2 ^ 24
  pub bytes : misplaced attributes count ≡ 0
  pub no_base : base ≡ 0

pub area_law : (repeated : Bool) (attributes size count base : ℕ) → (area_flaw repeated attributes size count base ≡ None) ↔ AreaPasses repeated attributes size count base
unfolding area_flaw
area_law repeated attributes size count base = (
  λ e. let g0 = clear_if repeated _ _ e in
      let g1 = equal (refused_area_bits attributes) 0 _ _ g0.1 in
      let g2 = not_less (attributes % 256) 2 _ _ g1.1 in
      let g3 = not_less 16 (attributes % 256) _ _ g2.1 in
      let g4 = equal (size % 4) 0 _ _ g3.1 in
      let g5 = not_less (2 ^ 24) size _ _ g4.1 in
      let g6 = equal (misplaced attributes count) 0 _ _ g5.1 in
      let g7 = equal base 0 _ _ g6.1 in
      record { fresh = g0.0; permitted = g1.0; least = g2.0; most = g3.0; whole = g4.0; small = g5.0; bytes = g6.0; no_base = g7.0 },
  λ h. past_false repeated _ _ h.fresh ∙ past_equal (refused_area_bits attributes) 0 _ _ h.permitted ∙ past_less (attributes % 256) 2 _ _ h.least ∙ past_less 16 (attributes % 256) _ _ h.most
      ∙ past_equal (size % 4) 0 _ _ h.whole ∙ past_less (2 ^ 24) size _ _ h.small ∙ past_equal (misplaced attributes count) 0 _ _ h.bytes ∙ past_equal base 0 _ _ h.no_base,
)

first_less : (b : Bool) (f : Flaw) → cond b None (Some f) ≡ None → b ≡ true
first_less true f e = refl
first_less false f e = absurd cc

less_true : (a b : ℕ) → ltb a b ≡ true → a < b
less_true a b t = ltb-true a b t

pub reloc_law : (areas symbols word : ℕ) → (reloc_flaw areas symbols word ≡ None) ↔ ((bit word 31 ≡ 1) × (word % 2 ^ 24 < named_by areas symbols word))
unfolding reloc_flaw
reloc_law areas symbols word = (
  λ e. let g0 = equal (bit word 31) 1 _ _ e in (g0.0, less_true (word % 2 ^ 24) (named_by areas symbols word) (first_less _ _ g0.1)),
  λ h. past_equal (bit word 31) 1 _ _ h.0 ∙ before_less (word % 2 ^ 24) (named_by areas symbols word) _ _ h.1,
)

pub entry_law : (attributes size offset : ℕ) → (entry_flaw attributes size offset ≡ None) ↔ ((offset < size) × (left_over attributes offset ≡ 0))
unfolding entry_flaw
entry_law attributes size offset = (
  λ e. let g0 = clear_unless (ltb offset size) _ _ e in let g1 = equal (left_over attributes offset) 0 _ _ g0.1 in (less_true offset size g0.0, g1.0),
  λ h. before_less offset size _ _ h.0 ∙ past_equal (left_over attributes offset) 0 _ _ h.1,
)

-- the area that is told has room for the symbol
abbrev pub HomePasses : Bool → ℕ → Home → Type 0
HomePasses placed value Unknown = ⊥
HomePasses placed value Nowhere = placed ≡ false
HomePasses placed value (Within size) = placed ≡ true → value ≤ size

home_placed : (placed : Bool) (size value : ℕ) → cond placed (cond (ltb size value) (flaw 8 Value) None) None ≡ None → placed ≡ true → value ≤ size
home_placed true size value e t = (not_less size value _ _ e).0
home_placed false size value e t = absurd cc

home_free : (placed : Bool) (size value : ℕ) → (placed ≡ true → value ≤ size) → cond placed (cond (ltb size value) (flaw 8 Value) None) None ≡ None
home_free true size value h = past_less size value _ _ (h refl)
home_free false size value h = refl

pub home_law : (placed : Bool) (value : ℕ) (home : Home) → (home_flaw placed value home ≡ None) ↔ HomePasses placed value home
unfolding home_flaw
home_law placed value Unknown = (λ e. absurd (let bad : flaw 12 Area ≡ None = e in cc), λ h. absurd h)
home_law placed value Nowhere = (λ e. (clear_if placed _ None e).0, λ h. past_false placed _ None h)
home_law placed value (Within size) = (home_placed placed size value, home_free placed size value)

pub record SymbolPasses (repeated : Bool) (attributes value : ℕ) (home : Home) : Type 0 where
  pub fresh : repeated ≡ false
  pub permitted : refused_symbol_bits attributes ≡ 0
  pub scope : attributes % 4 ≢ 0
  pub lives : HomePasses (is_placed attributes) value home

pub symbol_law : (repeated : Bool) (attributes value : ℕ) (home : Home) → (symbol_flaw repeated attributes value home ≡ None) ↔ SymbolPasses repeated attributes value home
unfolding symbol_flaw
symbol_law repeated attributes value home = (
  λ e. let g0 = clear_if repeated _ _ e in
      let g1 = equal (refused_symbol_bits attributes) 0 _ _ g0.1 in
      let g2 = clear_if (eqb (attributes % 4) 0) _ _ g1.1 in
      record { fresh = g0.0; permitted = g1.0; scope = eqb-false (attributes % 4) 0 g2.0; lives = (home_law (is_placed attributes) value home).0 g2.1 },
  λ h. past_false repeated _ _ h.fresh ∙ past_equal (refused_symbol_bits attributes) 0 _ _ h.permitted
      ∙ past_false (eqb (attributes % 4) 0) _ _ (false_from_ne_true (eqb (attributes % 4) 0) (λ t. h.scope (eqb-true (attributes % 4) 0 t))) ∙ (home_law (is_placed attributes) value home).1 h.lives,
)
