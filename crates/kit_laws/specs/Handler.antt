-- The interrupt handler in memory: its words, its work area and the device that it acknowledges to (the words read by the
-- ARM Architecture Reference Manual; the handler is this project's).
use Rattle.std.specs.Prelude.{◌≡◌, ℕ, ◌+◌, ◌%◌, ◌^◌, ◌<◌, ◌≤◌, true, false}
use Rattle.sdt_word.specs.Bytes.{word}
use Rattle.arm7_model.specs.Memory.{Board, Bytes, in_memory, may_store}

-- In a memory over a board stand the branch of the IRQ vector, the handler that it leads to, with its two literals, and
-- a work area of three words: r0 and r1 as they were, and the count of interrupts.
pub record IsKit (b : Board) (work ack : ℕ) (m : Bytes) : Type 0 where
  pub whole : work % 4 ≡ 0
  pub low : 0x50 ≤ work
  pub high : work + 12 ≤ 2 ^ 32
  pub ram : (i : ℕ) → i < 12 → b.memory (work + i) ≡ true
  pub free : (i : ℕ) → i < 12 → b.read_only (work + i) ≡ false
  pub ack_whole : ack % 4 ≡ 0
  pub ack_small : ack < 2 ^ 32
  -- a device's word, and not a read-only one
  pub may : may_store b ack 4 ≡ true
  pub device : in_memory b ack 4 ≡ false
  pub code : (i : ℕ) → i < 0x4C → b.memory (4 + i) ≡ true
  -- B 0x20
  pub word_18 : word m 0x18 ≡ 0xEA000000
  -- LDR sp,[pc,#0x20], the literal at 0x48, where the stack ends
  pub word_20 : word m 0x20 ≡ 0xE59FD020
  -- STMDB sp!,{r0,r1}
  pub word_24 : word m 0x24 ≡ 0xE92D0003
  -- LDR r0,[pc,#0x1C], the literal at 0x4C
  pub word_28 : word m 0x28 ≡ 0xE59F001C
  -- STR r0,[r0]
  pub word_2c : word m 0x2C ≡ 0xE5800000
  -- LDR r0,[pc,#0x10], the literal at 0x48, which is the count word's address too
  pub word_30 : word m 0x30 ≡ 0xE59F0010
  -- LDR r1,[r0]
  pub word_34 : word m 0x34 ≡ 0xE5901000
  -- ADD r1,r1,#1
  pub word_38 : word m 0x38 ≡ 0xE2811001
  -- STR r1,[r0]
  pub word_3c : word m 0x3C ≡ 0xE5801000
  -- LDMIA sp!,{r0,r1}
  pub word_40 : word m 0x40 ≡ 0xE8BD0003
  -- SUBS pc,lr,#4
  pub word_44 : word m 0x44 ≡ 0xE25EF004
  pub word_48 : word m 0x48 ≡ work + 8
  pub word_4c : word m 0x4C ≡ ack
