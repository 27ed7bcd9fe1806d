-- Where the kit is in force, its words, its work area and its device are as the handler's law asks.
use Rattle.std.proofs.Common.{◌≡◌, ℕ, zero, suc, ◌+◌, ◌%◌, ◌^◌, ◌<◌, ◌≤◌, Bool, true, false, List, [], ◌∷◌, length, take, drop, get_or, refl, sym, ap, subst, ◌∙◌, arith, ◌⊎◌, inl, inr}
use Rattle.std.specs.Prelude.{◌||◌, ◌&&◌, Result, Ok, Err, IfOk}
use Rattle.sdt_word.specs.Bytes.{number_of, word}
use Rattle.sdt_word.proofs.BytesLemmas.{number_of-bytes_of}
use Rattle.aof_object.specs.declared.records.Object.{Object}
use Rattle.arm7_model.specs.Memory.{Board, Bytes, all_from, in_memory, may_store}
use Rattle.patch_model.specs.Patched.{AreaPatched, IsOutside}
use Rattle.kit_laws.specs.Handler.{IsKit}
use Rattle.kit_laws.specs.Laws.{RunsAreTransparent}
use Rattle.irq_kit.specs.Kit.{kit_of, vector_relocs, vectors_of}
use Rattle.irq_kit.specs.Transparent.{Holds, IsDeviceWord, IsTransparent}

-- four bytes of a list from a place on
four : (xs : List ℕ) (a : ℕ) → a + 4 ≤ length xs
    → take 4 (drop a xs) ≡ get_or xs a 0 ∷ get_or xs (suc a) 0 ∷ get_or xs (suc (suc a)) 0 ∷ get_or xs (suc (suc (suc a))) 0 ∷ []
four [] a h = absurd (omega arith)
four (x ∷ []) zero h = absurd (omega arith)
four (x ∷ y ∷ []) zero h = absurd (omega arith)
four (x ∷ y ∷ z ∷ []) zero h = absurd (omega arith)
four (x ∷ y ∷ z ∷ w ∷ xs) zero h = refl
four (x ∷ xs) (suc a) h = four xs a (omega arith)

-- ---- the device's word

may : (b : Board) (a : ℕ) → IsDeviceWord b a → may_store b a 4 ≡ true
unfolding may_store
may b a d =
    let d0 : b.device a ≡ true = ap b.device (omega arith) ∙ d.device 0 (omega arith) in
    let d1 : b.device (suc a) ≡ true = ap b.device (omega arith) ∙ d.device 1 (omega arith) in
    let d2 : b.device (suc (suc a)) ≡ true = ap b.device (omega arith) ∙ d.device 2 (omega arith) in
    let d3 : b.device (suc (suc (suc a))) ≡ true = ap b.device (omega arith) ∙ d.device 3 (omega arith) in
    let f0 : b.read_only a ≡ false = ap b.read_only (omega arith) ∙ d.free 0 (omega arith) in
    let f1 : b.read_only (suc a) ≡ false = ap b.read_only (omega arith) ∙ d.free 1 (omega arith) in
    let f2 : b.read_only (suc (suc a)) ≡ false = ap b.read_only (omega arith) ∙ d.free 2 (omega arith) in
    let f3 : b.read_only (suc (suc (suc a))) ≡ false = ap b.read_only (omega arith) ∙ d.free 3 (omega arith) in
    rw (d0, d1, d2, d3, f0, f1, f2, f3) (go (all_from b.memory a 4))
  where
    go : (m : Bool) → ((m || true) && true) ≡ true
    go true = refl
    go false = refl

no-memory : (b : Board) (a : ℕ) → IsDeviceWord b a → in_memory b a 4 ≡ false
unfolding in_memory
no-memory b a d =
    let m0 : b.memory a ≡ false = ap b.memory (omega arith) ∙ d.memory 0 (omega arith) in
    rw m0 refl

-- ---- the words

module _ (b : Board) (work ack : ℕ) (m : Bytes) (ack-whole : ack % 4 ≡ 0) (small : ack < 2 ^ 32) (h : Holds (kit_of ack) b work m) (d : IsDeviceWord b ack) where
  abbrev old : List ℕ
  old = (vectors_of ack).bytes

  patched : AreaPatched vector_relocs old (h.values.base 0) h.values h.veneers h.bytes
  patched = h.patched

  outside : (i : ℕ) → 4 ≤ i → (i < 0x48) ⊎ (0x4C ≤ i) → IsOutside vector_relocs i
  outside i low side zero r e = let is : r ≡ record { offset = 0; word = 0x8F000000 } = cc in rw is (inr low)
  outside i low side (suc zero) r e = let is : r ≡ record { offset = 0x48; word = 0x82000001 } = cc in rw is (go side)
    where
      go : (i < 0x48) ⊎ (0x4C ≤ i) → (i < 0x48) ⊎ (0x4C ≤ i)
      go h = h
  outside i low side (suc (suc k)) r e = absurd cc

  byte : (i : ℕ) → 4 ≤ i → i < 0x50 → (i < 0x48) ⊎ (0x4C ≤ i) → m i ≡ get_or old i 0
  byte i low high side = h.shown i low high ∙ patched.others i (outside i low side)

  at : (a : ℕ) → 4 ≤ a → a + 4 ≤ 0x50 → (a + 4 ≤ 0x48) ⊎ (0x4C ≤ a)
      → word m a ≡ number_of (get_or old a 0 ∷ get_or old (suc a) 0 ∷ get_or old (suc (suc a)) 0 ∷ get_or old (suc (suc (suc a))) 0 ∷ [])
  at a low high side =
      rw (
        byte a low (omega arith) (shift a (omega arith) (omega arith) side),
        byte (suc a) (omega arith) (omega arith) (shift (suc a) (omega arith) (omega arith) side),
        byte (suc (suc a)) (omega arith) (omega arith) (shift (suc (suc a)) (omega arith) (omega arith) side),
        byte (suc (suc (suc a))) (omega arith) (omega arith) (shift (suc (suc (suc a))) (omega arith) (omega arith) side),
      ) refl
    where
      shift : (x : ℕ) → a ≤ x → x < a + 4 → (a + 4 ≤ 0x48) ⊎ (0x4C ≤ a) → (x < 0x48) ⊎ (0x4C ≤ x)
      shift x lo hi (inl h) = inl (omega arith)
      shift x lo hi (inr h) = inr (omega arith)

  literal : word m 0x48 ≡ work + 8
  literal =
      let f = patched.fields 1 (record { offset = 0x48; word = 0x82000001 }) refl in
      let size = patched.size in
      let high = h.high in
      let w : word m 0x48 ≡ number_of (take 4 (drop 0x48 h.bytes)) =
      rw (four h.bytes 0x48 (omega arith), h.shown 0x48 (omega arith) (omega arith), h.shown 0x49 (omega arith) (omega arith), h.shown 0x4A (omega arith) (omega arith), h.shown 0x4B (omega arith) (omega arith)) refl in
      w ∙ f ∙ rw h.placed (omega arith)

  pub is-kit : IsKit b work ack m
  is-kit = record {
    whole = h.whole;
    low = h.low;
    high = h.high;
    ram = h.ram;
    free = h.free;
    ack_whole = ack-whole;
    ack_small = small;
    may = may b ack d;
    device = no-memory b ack d;
    code = λ i lt. h.mapped (4 + i) (omega arith) (omega arith);
    word_18 = at 0x18 (omega arith) (omega arith) (inl (omega arith));
    word_20 = at 0x20 (omega arith) (omega arith) (inl (omega arith));
    word_24 = at 0x24 (omega arith) (omega arith) (inl (omega arith));
    word_28 = at 0x28 (omega arith) (omega arith) (inl (omega arith));
    word_2c = at 0x2C (omega arith) (omega arith) (inl (omega arith));
    word_30 = at 0x30 (omega arith) (omega arith) (inl (omega arith));
    word_34 = at 0x34 (omega arith) (omega arith) (inl (omega arith));
    word_38 = at 0x38 (omega arith) (omega arith) (inl (omega arith));
    word_3c = at 0x3C (omega arith) (omega arith) (inl (omega arith));
    word_40 = at 0x40 (omega arith) (omega arith) (inl (omega arith));
    word_44 = at 0x44 (omega arith) (omega arith) (inl (omega arith));
    word_48 = literal;
    word_4c = at 0x4C (omega arith) (omega arith) (inr (omega arith)) ∙ number_of-bytes_of ack 4 small;
  }

pub transparent : RunsAreTransparent → (ack : ℕ) → ack % 4 ≡ 0 → ack < 2 ^ 32 → IsTransparent (kit_of ack) ack
transparent law ack whole small b work s inputs steps h d program =
    law b work ack s inputs steps (is-kit b work ack s.memory whole small h d) program

-- so is the object that a call gives
pub given-transparent : {E : Type 0} → RunsAreTransparent → (ack : ℕ) → ack % 4 ≡ 0 → ack < 2 ^ 32 → (r : Result Object E) → IfOk r (λ o. o ≡ kit_of ack) → IfOk r (λ o. IsTransparent o ack)
given-transparent law ack whole small (Ok o) e = subst (λ (o : Object). IsTransparent o ack) (sym e) (transparent law ack whole small)
given-transparent law ack whole small (Err x) e = tt
