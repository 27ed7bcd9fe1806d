-- How memory shows one thing of an area where its object is placed. ARM Object Format, relocation directives.
use Rattle.std.specs.Prelude.{ℕ, ◌+◌, ◌*◌, ◌%◌, ◌^◌, Bool, true, false, List, Option, Some, None}
use Rattle.sdt_word.specs.Numbers.{flag, sign_extended}
use Rattle.sdt_word.specs.declared.codes.Condition.{Condition}
use Rattle.sdt_word.specs.declared.ranges.Range32.{Range32}
use Rattle.arm_isa.specs.declared.instr.ArmInstr.{ArmInstr}
use Rattle.arm_isa.specs.declared.instr.ArmInstr.TheVariants as instr
use Rattle.patch_model.specs.Fields.{Meant, Values, is_thumb_label}
use Rattle.patch_model.specs.Laws.{state_of}
use Rattle.patch_model.specs.Reaches.{View, Shows, ShowsWord, Reaches}
use Rattle.source_model.specs.declared.codes.ThumbCode.TheVariants.{Pair}
use Rattle.source_model.specs.Objects.{Piece, Source, symbol_number}
use Rattle.source_model.specs.Units.{RelocationTarget, Nothing, ByArea, BySymbol, Bytes, Word, Instruction, Half, LinkPair}
use Rattle.stand_model.specs.Stands.{CodeReadsAt, ReadsAt, ReadsHalfAt}

abbrev pub meant_by : Source → Values → List ℕ → Meant
meant_by s values name = values.symbol (symbol_number s name)

-- what is added to a word
abbrev pub added_by : Source → Values → RelocationTarget → ℕ
added_by s values Nothing = 0
added_by s values (ByArea area) = values.base area
added_by s values (BySymbol name) = (meant_by s values name).number + flag (is_thumb_label (meant_by s values name))

-- a branch that is left to the linker, at an address that lies so far behind its area's base
pub record LinkedBranch (view : View) (region : Range32) (a offset : ℕ) (condition : Condition) (link : Bool) (old : ℕ) (m : Meant) : Type
    0 where
  pub field : ℕ
  pub reads : ReadsAt view a (instr.Branch condition link field)
  pub reaches : Reaches view region false a ((offset + 8 + sign_extended old 24 * 4 + m.number) % 2 ^ 32) (state_of false m m.home)

abbrev pub LinkedStands : View → Range32 → ℕ → ℕ → ArmInstr → Meant → Type 0
LinkedStands view region a offset (instr.Branch condition link old) m = LinkedBranch view region a offset condition link old m
LinkedStands view region a offset _ m = Unit {0}

abbrev pub InstructionShown : Source → Values → View → Range32 → ℕ → ℕ → ArmInstr → Option (List ℕ) → Type 0
InstructionShown s values view region a offset i None = ReadsAt view a i
InstructionShown s values view region a offset i (Some name) = LinkedStands view region a offset i (meant_by s values name)

-- a BL of Thumb state that is left to the linker
pub record LinkedPair (view : View) (region : Range32) (a offset first second : ℕ) (m : Meant) : Type 0 where
  pub high : ℕ
  pub low : ℕ
  pub reads : CodeReadsAt view a (Pair high low)
  pub reaches : Reaches view region true a ((offset + 4 + sign_extended (first * 2 ^ 11 + second) 22 * 2 + m.number) % 2 ^ 32)
      (state_of true m m.home)

abbrev pub PairShown : Source → Values → View → Range32 → ℕ → ℕ → ℕ → ℕ → Option (List ℕ) → Type 0
PairShown s values view region a offset first second None = CodeReadsAt view a (Pair first second)
PairShown s values view region a offset first second (Some name) = LinkedPair view region a offset first second (meant_by s values name)

-- a thing of an area at a base
abbrev pub IsShown : Source → Values → View → Range32 → ℕ → Piece → Type 0
IsShown s values view region base (at, Bytes b) = Shows view (base + at) b
IsShown s values view region base (at, Word w) = ShowsWord view (base + at) ((w.number + added_by s values w.target) % 2 ^ 32)
IsShown s values view region base (at, Instruction i symbol) = InstructionShown s values view region (base + at) at i symbol
IsShown s values view region base (at, Half i) = ReadsHalfAt view (base + at) i
IsShown s values view region base (at, LinkPair first second symbol) = PairShown s values view region (base + at) at first second symbol
