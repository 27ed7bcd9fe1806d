-- Data: words, half-words and bytes.
use Rattle.std.proofs.Common.{◌≡◌, ℕ, ◌+◌, ◌%◌, ◌^◌, List, [], ◌∷◌, length, Bool, true, false, cond, refl, sym, ◌∙◌, ap, subst, arith, Option, Some, None, ◌⊎◌, inl, inr}
use Rattle.std.specs.Prelude.{◌*◌, ◌-◌, ◌||◌, nat_lt, nat_le, Result, Ok, Err}
use Rattle.sdt_fault.specs.declared.kinds.LineKind.{LineKind}
use Rattle.sdt_fault.specs.declared.kinds.LineKind.TheVariants.{OutOfRange}
use Rattle.sdt_word.specs.Bytes.{bytes_of}
use Rattle.sdt_word.specs.Numbers.{flag}
use Rattle.sdt_word.proofs.BytesLemmas.{length-bytes_of}
use Rattle.asm_model.specs.declared.exprs.Expr.{Expr}
use Rattle.asm_model.specs.declared.values.Value.{Value}
use Rattle.asm_model.specs.declared.values.Value.TheVariants.{Number, Truth, Words, Place}
use Rattle.asm_model.specs.declared.names.Names.{Names}
use Rattle.asm_model.specs.Meaning.{stands_at}
use Rattle.asm_model.specs.Extents.{value_there}
use Rattle.asm_model.specs.Marks.{counts_one, thumb_bit, datum_names}
use Rattle.asm_model.specs.Placing.{placed_value, HaveSymbols}
use Rattle.asm_model.specs.Readings.{and_then}
use Rattle.patch_model.specs.Fields.{is_thumb_label}
use Rattle.patch_model.specs.Reaches.{Shows, ShowsWord}
use Rattle.source_model.specs.Contexts.{Context, sees, value_of, number_in}
use Rattle.source_model.specs.Objects.{units_from, unit_bytes}
use Rattle.source_model.specs.Units.{Emitted, Bytes, Word, Stored, placed, stored, word_units, narrow, number_units, byte_operand, byte_units}
use Rattle.stand_model.specs.Shown.{added_by, meant_by}
use Rattle.stand_model.specs.Stands.{WordStands, WordsStand, NumbersStand, AreBytesOf, BytesStand, mark_of}
use Rattle.stand_laws.proofs.ResultLemmas.{ok_or, both_ok, then_ok}
use Rattle.stand_laws.proofs.ValueLemmas.{Setting, lookup, Shown, AllShown, value_stands, number_stands}

-- ---- words

pub sum_by_symbol : (n m f : ℕ) → (n + (m + f)) % 2 ^ 32 ≡ ((m + n) % 2 ^ 32 + f) % 2 ^ 32
sum_by_symbol n m f = omega arith

pub sum_by_area : (o n t b : ℕ) → ((o + n + t) % 2 ^ 32 + b) % 2 ^ 32 ≡ ((b + o + n) % 2 ^ 32 + t) % 2 ^ 32
sum_by_area o n t b = omega arith

-- what a word with its target comes to
abbrev pub total_of : Setting → Stored → ℕ
total_of k w = (w.number + added_by k.source k.values w.target) % 2 ^ 32

-- the number of a place, and the word that shows it
abbrev pub HoldsPlace : Setting → List ℕ → ℕ → Stored → Type 0
HoldsPlace k q n w =
    (number : ℕ) × (placed_value (lookup k).placing (sees k.context) (Place q n) ≡ Number number)
    × (total_of k w ≡ (number + mark_of (lookup k) (Ok (Place q n))) % 2 ^ 32)

pub place_held : (k : Setting) (q : List ℕ) (n : ℕ) (o : Option (ℕ × ℕ)) → stands_at (sees k.context) q ≡ o
    → HoldsPlace k q n (placed k.context (datum_names k.source.statements) q n o)
place_held k q n None x = (
  ((meant_by k.source k.values q).number + n) % 2 ^ 32,
  rw x refl,
  rw x (sum_by_symbol n (meant_by k.source k.values q).number (flag (is_thumb_label (meant_by k.source k.values q)))),
)
place_held k q n (Some a) x = (
  (k.values.base a.0 + a.1 + n) % 2 ^ 32,
  rw x refl,
  rw x (sum_by_area a.1 n (thumb_bit (counts_one (datum_names k.source.statements) (sees k.context) q)) (k.values.base a.0)),
)

pub word_stands : (k : Setting) (a : ℕ) (e : Expr) (r : Result Value LineKind) (w : Stored) → HaveSymbols (sees k.context)
    → value_of k.context e ≡ r → stored k.context (datum_names k.source.statements) r ≡ Ok w → ShowsWord k.view a (total_of k w)
    → WordStands (lookup k) a e
word_stands k a e (Ok (Number n)) w here x y h = record {
  number = n;
  means = value_stands (lookup k) e (Number n) here x;
  shows = subst (ShowsWord k.view a) (ap (λ z. total_of k (ok_or w z)) (sym y) ∙ ap (λ z. (n + mark_of (lookup k) z) % 2 ^ 32) (sym x)) h;
}
word_stands k a e (Ok (Place q n)) w here x y h =
    let p = place_held k q n (stands_at (sees k.context) q) refl in
    record {
      number = p.0;
      means = value_stands (lookup k) e (Place q n) here x ∙ ap Ok p.1;
      shows = subst (ShowsWord k.view a)
          (ap (λ z. total_of k (ok_or w z)) (sym y) ∙ p.2 ∙ ap (λ z. (p.0 + mark_of (lookup k) z) % 2 ^ 32) (sym x)) h;
    }
word_stands k a e (Ok (Truth b)) w here x y h = absurd (cc)
word_stands k a e (Ok (Words b)) w here x y h = absurd (cc)
word_stands k a e (Err j) w here x y h = absurd (cc)

-- ---- the first of several units

pub first_shown : (k : Setting) (at : ℕ) (u : Emitted) (us all : List Emitted) → u ∷ us ≡ all → AllShown k (units_from at all)
    → Shown k (at, u) × AllShown k (units_from (at + length (unit_bytes u)) us)
first_shown k at u us all e h =
    let g : AllShown k (units_from at (u ∷ us)) = subst (λ z. AllShown k (units_from at z)) (sym e) h in
    (g (at, u) (inl refl), λ p i. g p (inr i))

pub further : (a base at n : ℕ) → a ≡ base + at → a + n ≡ base + (at + n)
further a base at n h = omega (arith, h)

pub words_stand : (k : Setting) (es : List Expr) (us : List Emitted) (a at : ℕ) → HaveSymbols (sees k.context) → a ≡ k.base + at
    → word_units k.context (datum_names k.source.statements) es ≡ Ok us → AllShown k (units_from at us) → WordsStand (lookup k) a es
words_stand k [] us a at here x h s = tt
words_stand k (e ∷ es) us a at here x h s =
    let d = datum_names k.source.statements in
    let b = both_ok (λ w vs. Word w ∷ vs) (stored k.context d (value_of k.context e)) (word_units k.context d es) us h in
    let f = first_shown k at (Word b.first) b.second us b.gives s in (
      word_stands k a e (value_of k.context e) b.first here refl b.is_first (subst (λ z. ShowsWord k.view z (total_of k b.first)) (sym x) f.0),
      words_stand k es b.second (a + 4) (at + 4) here (further a k.base at 4 x) b.is_second f.1,
    )

-- ---- numbers and strings

pub narrow_is : (size n : ℕ) (bytes : List ℕ) → narrow size n ≡ Ok bytes → bytes_of (n % 2 ^ (8 * size)) size ≡ bytes
narrow_is size n bytes h = by_test (nat_lt n (2 ^ (8 * size)) || nat_le (2 ^ 32 - 2 ^ (8 * size - 1)) n) h
  where
    by_test : (b : Bool) → cond b (Ok (bytes_of (n % 2 ^ (8 * size)) size)) (Err OutOfRange) ≡ Ok bytes → bytes_of (n % 2 ^ (8 * size)) size ≡ bytes
    by_test true x = cc
    by_test false x = absurd (cc)

pub further_by : (a base at n m : ℕ) → a ≡ base + at → n ≡ m → a + n ≡ base + (at + m)
further_by a base at n m h e = omega (arith, h, e)

pub numbers_stand : (k : Setting) (width : ℕ) (es : List Expr) (us : List Emitted) (a at : ℕ) → HaveSymbols (sees k.context) → a ≡ k.base + at
    → number_units k.context width es ≡ Ok us → AllShown k (units_from at us) → NumbersStand (lookup k) a width es
numbers_stand k width [] us a at here x h s = tt
numbers_stand k width (e ∷ es) us a at here x h s =
    let b = both_ok (λ b vs. Bytes b ∷ vs) (and_then (number_in k.context e) (narrow width)) (number_units k.context width es) us h in
    let t = then_ok (narrow width) (number_in k.context e) b.first b.is_first in
    let n = narrow_is width t.from b.first t.gives in
    let long : width ≡ length b.first = sym (length-bytes_of (t.from % 2 ^ (8 * width)) width) ∙ ap length n in
    let f = first_shown k at (Bytes b.first) b.second us b.gives s in (
      record {
        number = t.from;
        means = number_stands (lookup k) e t.from here t.is;
        shows = subst (Shows k.view a) (sym n) (subst (λ z. Shows k.view z b.first) (sym x) f.0);
      },
      numbers_stand k width es b.second (a + width) (at + length b.first) here (further_by a k.base at width (length b.first) x long) b.is_second f.1,
    )

-- what is known at the line is so in the end
abbrev pub KnownStay : Context → Names → Type 0
KnownStay c s = (e : Expr) (v : Value) → value_there s e ≡ Ok v → value_of c e ≡ Ok v

abbrev pub ByteIs : Result Value LineKind → Result Value LineKind → List ℕ → Type 0
ByteIs known final bytes = (known ≡ Ok (Words bytes)) ⊎ ((n : ℕ) × (final ≡ Ok (Number n)) × (narrow 1 n ≡ Ok bytes))

pub byte_is : (known final : Result Value LineKind) (bytes : List ℕ) → byte_operand known final ≡ Ok bytes → ByteIs known final bytes
byte_is (Ok (Words w)) final bytes h = inl (cc)
byte_is known (Ok (Words w)) bytes h = absurd (cc)
byte_is known (Ok (Number n)) bytes h = inr (n, refl, h)
byte_is known (Ok (Truth b)) bytes h = absurd (cc)
byte_is known (Ok (Place s n)) bytes h = absurd (cc)
byte_is known (Err j) bytes h = absurd (cc)

pub bytes_stand : (k : Setting) (s : Names) (es : List Expr) (us : List Emitted) (a at : ℕ) → HaveSymbols (sees k.context) → KnownStay k.context s
    → a ≡ k.base + at → byte_units k.context s es ≡ Ok us → AllShown k (units_from at us) → BytesStand (lookup k) a es
bytes_stand k s [] us a at here stay x h shown = tt
bytes_stand k s (e ∷ es) us a at here stay x h shown =
    let b = both_ok (λ b vs. Bytes b ∷ vs) (byte_operand (value_there s e) (value_of k.context e)) (byte_units k.context s es) us h in
    let f = first_shown k at (Bytes b.first) b.second us b.gives shown in (
      b.first,
      by_kind (byte_is (value_there s e) (value_of k.context e) b.first b.is_first),
      subst (λ z. Shows k.view z b.first) (sym x) f.0,
      bytes_stand k s es b.second (a + length b.first) (at + length b.first) here stay (further a k.base at (length b.first) x) b.is_second f.1,
    )
  where
    by_kind : {bytes : List ℕ} → ByteIs (value_there s e) (value_of k.context e) bytes → AreBytesOf (lookup k) e bytes
    by_kind {bytes = bytes} (inl i) = inl (value_stands (lookup k) e (Words bytes) here (stay e (Words bytes) i))
    by_kind {bytes = bytes} (inr i) = inr (i.0, value_stands (lookup k) e (Number i.0) here i.1, sym (narrow_is 1 i.0 bytes i.2))
