-- What a statement puts into its area is as long as what it takes up, or empty.
use Rattle.std.proofs.Common.{◌≡◌, ℕ, ◌+◌, ◌-◌, ◌*◌, ◌%◌, ◌^◌, ◌≤◌, nat_lt, nat_le, ◌||◌, List, [], ◌∷◌, length, length-append, Bool, true, false, cond, refl, sym, ◌∙◌, ap, subst, arith, Option, Some, None}
use Rattle.std.specs.Prelude.{Result, Ok, Err}
use Rattle.std.proofs.Math.Nat.{mul-suc}
use Rattle.sdt_word.specs.Bytes.{bytes_of}
use Rattle.sdt_word.specs.declared.codes.Condition.{Condition}
use Rattle.sdt_word.proofs.BytesLemmas.{length-bytes_of}
use Rattle.sdt_fault.specs.declared.kinds.LineKind.{LineKind}
use Rattle.sdt_fault.specs.declared.kinds.LineKind.TheVariants.{OutOfRange}
use Rattle.arm_isa.specs.declared.instr.ArmInstr.{ArmInstr}
use Rattle.arm_isa.specs.declared.instr.Operation.{Operation}
use Rattle.arm_isa.specs.declared.instr.Operation.TheVariants.{Add, Sub, Mov}
use Rattle.arm_isa.specs.declared.instr.ArmInstr.TheVariants as instr
use Rattle.thumb_isa.specs.declared.instr.ThumbInstr.{ThumbInstr}
use Rattle.asm_model.specs.declared.directives.Boundary.TheVariants as limit
use Rattle.asm_model.specs.declared.directives.DirectiveLine.{DirectiveLine}
use Rattle.asm_model.specs.declared.directives.DirectiveLine.TheVariants as line
use Rattle.asm_model.specs.declared.directives.Held.{Held}
use Rattle.asm_model.specs.declared.directives.Held.TheVariants as held
use Rattle.asm_model.specs.declared.exprs.Expr.{Expr}
use Rattle.asm_model.specs.declared.statements.PseudoLine.{PseudoLine}
use Rattle.asm_model.specs.declared.statements.PseudoLine.TheVariants as pseudo
use Rattle.asm_model.specs.declared.statements.What.{What}
use Rattle.asm_model.specs.declared.statements.What.TheVariants as what
use Rattle.asm_model.specs.declared.thumb_lines.ThumbLine.{ThumbLine}
use Rattle.asm_model.specs.declared.thumb_lines.ThumbLine.TheVariants as thumb
use Rattle.asm_model.specs.declared.values.Value.{Value}
use Rattle.asm_model.specs.declared.values.Value.TheVariants.{Number, Truth, Words, Place}
use Rattle.asm_model.specs.declared.names.Names.{Names}
use Rattle.asm_model.specs.DataItems.{item_alignment, held_by}
use Rattle.asm_model.specs.Occupied.{Occupied, Items, occupied}
use Rattle.asm_model.specs.Extents.{Extent, Block, Padding, Loading, Pool, value_there, number_there, as_multiple, literal_there, is_moved, instruction, loading, thumb_extent, byte_count, byte_counts, held_size, occupied_extent, extent_of}
use Rattle.asm_model.specs.Offsets.{size_of}
use Rattle.asm_model.specs.Readings.{and_then, mapped, on_both}
use Rattle.source_model.specs.ArmForms.{arm_instruction}
use Rattle.source_model.specs.Contexts.{Context, value_of, number_in, register, offset_below, own_offset, from_pc}
use Rattle.source_model.specs.Immediates.{data_immediate, negated}
use Rattle.source_model.specs.Objects.{unit_bytes, units_bytes}
use Rattle.source_model.specs.declared.codes.ThumbCode.{ThumbCode}
use Rattle.source_model.specs.declared.codes.ThumbCode.TheVariants as code
use Rattle.source_model.specs.ThumbForms.{one as one_half, pair_fields, thumb_instruction, thumb_pseudo, with_operand}
use Rattle.source_model.specs.PseudoForms.{address_instruction, two_by, two_of, first_of as first_found, long_address, one, load_literal, pseudo_instructions, first_part, second_part}
use Rattle.source_model.specs.Immediates.{immediate}
use Rattle.source_model.specs.Units.{Emitted, Bytes, Word, Instruction, Half, Stored, stored, word_units, narrow, number_units, byte_operand, byte_units, branch_symbol, link_symbol, code_unit, instruction_units, pseudo_units, held_units, occupied_units, units}
use Rattle.source_laws.specs.Laws.{is_items, is_filled}

-- ---- lengths

abbrev Long : ℕ → Result (List Emitted) LineKind → Type 0
Long n (Ok us) = length (units_bytes us) ≡ n
Long n (Err k) = Unit {0}

abbrev EachLong : {A : Type 0} → (A → Emitted) → ℕ → Result A LineKind → Type 0
EachLong f n (Ok a) = length (unit_bytes (f a)) ≡ n
EachLong f n (Err k) = Unit {0}

pub one_longer : {A : Type 0} → (f : A → Emitted) (i j : ℕ) (r : Result A LineKind) (q : Result (List Emitted) LineKind)
    → EachLong f i r → Long j q → Long (i + j) (on_both (λ a us. f a ∷ us) r q)
one_longer f i j (Ok a) (Ok us) x y = let size = length-append (unit_bytes (f a)) (units_bytes us) in omega (arith, size, x, y)
one_longer f i j (Ok a) (Err k) x y = tt
one_longer f i j (Err k) (Ok us) x y = tt
one_longer f i j (Err k) (Err m) x y = tt

pub mapped_long : {A : Type 0} → (f : A → List Emitted) (n : ℕ) (r : Result A LineKind) → ((a : A) → length (units_bytes (f a)) ≡ n) → Long n (mapped f r)
mapped_long f n (Ok a) h = h a
mapped_long f n (Err k) h = tt

pub word_long : (r : Result Stored LineKind) → EachLong Word 4 r
word_long (Ok w) = length-bytes_of w.number 4
word_long (Err k) = tt

pub words_long : (c : Context) (d : List (List ℕ)) (es : List Expr) → Long (4 * length es) (word_units c d es)
words_long c d [] = refl
words_long c d (e ∷ es) =
    subst (λ n. Long n (word_units c d (e ∷ es))) (omega arith)
    (one_longer Word 4 (4 * length es) (stored c d (value_of c e)) (word_units c d es) (word_long (stored c d (value_of c e))) (words_long c d es))

pub narrow_long : (size n : ℕ) → EachLong Bytes size (narrow size n)
narrow_long size n = by_test (nat_lt n (2 ^ (8 * size)) || nat_le (2 ^ 32 - 2 ^ (8 * size - 1)) n)
  where
    by_test : (b : Bool) → EachLong Bytes size (cond b (Ok (bytes_of (n % 2 ^ (8 * size)) size)) (Err OutOfRange))
    by_test true = length-bytes_of (n % 2 ^ (8 * size)) size
    by_test false = tt

pub then_long : (size : ℕ) (r : Result ℕ LineKind) → EachLong Bytes size (and_then r (narrow size))
then_long size (Ok n) = narrow_long size n
then_long size (Err k) = tt

pub numbers_long : (c : Context) (width : ℕ) (es : List Expr) → Long (width * length es) (number_units c width es)
numbers_long c width [] = omega arith
numbers_long c width (e ∷ es) =
    let more = mul-suc width (length es) in
    subst (λ n. Long n (number_units c width (e ∷ es))) (omega (arith, more))
    (one_longer Bytes width (width * length es) (and_then (number_in c e) (narrow width)) (number_units c width es)
    (then_long width (number_in c e)) (numbers_long c width es))

-- a string that is known is itself, and anything else is one byte
pub byte_long : (known final : Result Value LineKind) → EachLong Bytes (byte_count known) (byte_operand known final)
byte_long (Ok (Words w)) final = refl
byte_long known (Ok (Words w)) = tt
byte_long known (Ok (Number n)) = narrow_long 1 n
byte_long known (Ok (Truth b)) = tt
byte_long known (Ok (Place s n)) = tt
byte_long known (Err k) = tt

pub bytes_long : (c : Context) (s : Names) (es : List Expr) → Long (byte_counts s es) (byte_units c s es)
bytes_long c s [] = refl
bytes_long c s (e ∷ es) =
    one_longer Bytes (byte_count (value_there s e)) (byte_counts s es) (byte_operand (value_there s e) (value_of c e)) (byte_units c s es)
    (byte_long (value_there s e) (value_of c e)) (bytes_long c s es)

-- ---- instructions

abbrev Count : ℕ → Result (List ArmInstr) LineKind → Type 0
Count n (Ok is) = length is ≡ n
Count n (Err k) = Unit {0}

abbrev CountFound : ℕ → Option (List ArmInstr) → Type 0
CountFound n (Some is) = length is ≡ n
CountFound n None = Unit {0}

pub mapped_count : {A : Type 0} → (f : A → List ArmInstr) (n : ℕ) (r : Result A LineKind) → ((a : A) → length (f a) ≡ n) → Count n (mapped f r)
mapped_count f n (Ok a) h = h a
mapped_count f n (Err k) h = tt

pub then_count : (n : ℕ) (r : Result ℕ LineKind) (f : ℕ → Result (List ArmInstr) LineKind) → ((a : ℕ) → Count n (f a)) → Count n (and_then r f)
then_count n (Ok a) f h = h a
then_count n (Err k) f h = tt

pub two_count : (condition : Condition) (operation : Operation) (rd : ℕ) (a b : Option (ℕ × ℕ)) → CountFound 2 (two_by condition operation rd a b)
two_count condition operation rd (Some i) (Some j) = refl
two_count condition operation rd (Some i) None = tt
two_count condition operation rd None b = tt

pub found_count : (n : ℕ) (a b : Option (List ArmInstr)) → CountFound n a → CountFound n b → Count n (first_found a b)
found_count n (Some is) b x y = x
found_count n None (Some is) x y = y
found_count n None None x y = tt

pub long_count : (condition : Condition) (rd distance : ℕ) → Count 2 (long_address condition rd distance)
long_count condition rd distance =
    found_count 2 (two_of condition Add rd distance) (two_of condition Sub rd (negated distance))
    (two_count condition Add rd (immediate (first_part distance)) (immediate (second_part distance)))
    (two_count condition Sub rd (immediate (first_part (negated distance))) (immediate (second_part (negated distance))))

pub literal_count : (c : Context) (condition : Condition) (rd : ℕ) (number : Result ℕ LineKind) (word : Option ℕ)
    → Count 1 (load_literal c condition rd number word)
literal_count c condition rd number None =
    then_count 1 number (λ n. mapped one (data_immediate condition Mov false 0 rd n))
    (λ n. mapped_count one 1 (data_immediate condition Mov false 0 rd n) (λ i. refl))
literal_count c condition rd number (Some word) =
    mapped_count (λ o. one (instr.TransferImmediate condition true o.0 false false true 15 rd o.1)) 1 (offset_below 4096 (from_pc c word)) (λ o. refl)

pub instructions_bytes : (is : List ArmInstr) → length (units_bytes (instruction_units is)) ≡ 4 * length is
instructions_bytes [] = refl
instructions_bytes (i ∷ is) =
    let size = length-append (unit_bytes (Instruction i None)) (units_bytes (instruction_units is)) in
    let one : length (unit_bytes (Instruction i None)) ≡ 4 = refl in
    let others = instructions_bytes is in omega (arith, size, one, others)

pub instructions_long : (n : ℕ) (r : Result (List ArmInstr) LineKind) → Count n r → Long (4 * n) (mapped instruction_units r)
instructions_long n (Ok is) h = instructions_bytes is ∙ ap (λ k. 4 * k) h
instructions_long n (Err k) h = tt

-- ---- statements

abbrev Fills : Result Extent LineKind → Result (List Emitted) LineKind → Type 0
Fills (Ok e) (Ok us) = (literals : List Value) (at : ℕ) → length (units_bytes us) ≡ size_of literals at e
Fills (Ok e) (Err k) = Unit {0}
Fills (Err k) r = Unit {0}

pub block_fills : (a n : ℕ) (r : Result (List Emitted) LineKind) → Long n r → Fills (Ok (Block a n)) r
block_fills a n (Ok us) h = λ literals at. h
block_fills a n (Err k) h = tt

pub load_fills : (n : ℕ) (v : Value) (r : Result (List Emitted) LineKind) → Long n r → Fills (Ok (Loading n v)) r
load_fills n v (Ok us) h = λ literals at. h
load_fills n v (Err k) h = tt

pub moved_fills : (b : Bool) (v : Value) (r : Result (List Emitted) LineKind) → Long 4 r → Fills (Ok (cond b (Block 4 4) (Loading 4 v))) r
moved_fills true v r h = block_fills 4 4 r h
moved_fills false v r h = load_fills 4 v r h

-- an instruction in Thumb or ARM state
abbrev pub instruction_size : Bool → ℕ
instruction_size thumb = cond thumb 2 4

pub loading_fills : (thumb : Bool) (x : Result Value LineKind) (r : Result (List Emitted) LineKind) → Long (instruction_size thumb) r
    → Fills (mapped (loading thumb) x) r
loading_fills true (Ok (Number n)) r h = load_fills 2 (Number n) r h
loading_fills true (Ok (Truth b)) r h = load_fills 2 (Truth b) r h
loading_fills true (Ok (Words w)) r h = load_fills 2 (Words w) r h
loading_fills true (Ok (Place s n)) r h = load_fills 2 (Place s n) r h
loading_fills false (Ok (Number n)) r h = moved_fills (is_moved n) (Number n) r h
loading_fills false (Ok (Truth b)) r h = load_fills 4 (Truth b) r h
loading_fills false (Ok (Words w)) r h = load_fills 4 (Words w) r h
loading_fills false (Ok (Place s n)) r h = load_fills 4 (Place s n) r h
loading_fills thumb (Err k) r h = tt

pub instruction_fills : (thumb : Bool) (r : Result (List Emitted) LineKind) → Long (instruction_size thumb) r → Fills (Ok (instruction thumb)) r
instruction_fills true r h = block_fills 2 2 r h
instruction_fills false r h = block_fills 4 4 r h

abbrev pub pseudo_size : Bool → PseudoLine → ℕ
pseudo_size thumb (pseudo.LongAddress condition rd e) = 8
pseudo_size thumb l = instruction_size thumb

-- ADRL in Thumb state is none
pub pseudo_long : (thumb : Bool) (c : Context) (word : Option ℕ) (l : PseudoLine) → Long (pseudo_size thumb l) (pseudo_units thumb c word l)
pseudo_long true c word (pseudo.LongAddress condition rd e) = tt
pseudo_long true c word l = mapped_long (λ i. Half i ∷ []) 2 (thumb_pseudo c word l) (λ i. refl)
pseudo_long false c word (pseudo.LoadConstant condition rd e) =
    instructions_long 1 (load_literal c condition (register c rd) (number_in c e) word) (literal_count c condition (register c rd) (number_in c e) word)
pseudo_long false c word (pseudo.Address condition rd e) =
    instructions_long 1 (pseudo_instructions c word (pseudo.Address condition rd e))
    (then_count 1 (own_offset c (value_of c e)) (λ at. mapped one (address_instruction condition (register c rd) (from_pc c at)))
    (λ at. mapped_count one 1 (address_instruction condition (register c rd) (from_pc c at)) (λ i. refl)))
pseudo_long false c word (pseudo.LongAddress condition rd e) =
    instructions_long 2 (pseudo_instructions c word (pseudo.LongAddress condition rd e))
    (then_count 2 (own_offset c (value_of c e)) (λ at. long_address condition (register c rd) (from_pc c at))
    (λ at. long_count condition (register c rd) (from_pc c at)))
pseudo_long false c word pseudo.NoOperation = instructions_long 1 (pseudo_instructions c word pseudo.NoOperation) refl

pub pseudo_fills : (c : Context) (s : Names) (word : Option ℕ) (l : PseudoLine)
    → Fills (extent_of s (what.Pseudo l)) (pseudo_units s.thumb c word l)
pseudo_fills c s word (pseudo.LoadConstant condition rd e) =
    let l = pseudo.LoadConstant condition rd e in
    loading_fills s.thumb (literal_there s e) (pseudo_units s.thumb c word l) (pseudo_long s.thumb c word l)
pseudo_fills c s word (pseudo.Address condition rd e) =
    let l = pseudo.Address condition rd e in
    instruction_fills s.thumb (pseudo_units s.thumb c word l) (pseudo_long s.thumb c word l)
pseudo_fills c s word (pseudo.LongAddress condition rd e) =
    let l = pseudo.LongAddress condition rd e in
    block_fills 4 8 (pseudo_units s.thumb c word l) (pseudo_long s.thumb c word l)
pseudo_fills c s word pseudo.NoOperation =
    instruction_fills s.thumb (pseudo_units s.thumb c word pseudo.NoOperation) (pseudo_long s.thumb c word pseudo.NoOperation)

-- a line of Thumb state says one half-word, or both of BL
abbrev pub code_size : ThumbCode → ℕ
code_size (code.One i) = 2
code_size (code.Pair first second) = 4

abbrev pub Coded : ℕ → Result ThumbCode LineKind → Type 0
Coded n (Ok i) = code_size i ≡ n
Coded n (Err k) = Unit {0}

pub one_coded : (r : Result ThumbInstr LineKind) → Coded 2 (one_half r)
one_coded (Ok i) = refl
one_coded (Err k) = tt

pub pair_coded : (r : Result ℕ LineKind) → Coded 4 (mapped pair_fields r)
pair_coded (Ok f) = refl
pair_coded (Err k) = tt

abbrev pub thumb_size : ThumbLine → ℕ
thumb_size (thumb.BranchLink target) = 4
thumb_size _ = 2

pub thumb_coded : (c : Context) (l : ThumbLine) → Coded (thumb_size l) (thumb_instruction c l)
thumb_coded c (thumb.ShiftImmediate by rd rs e) = one_coded _
thumb_coded c (thumb.AddSubtract subtract rd rs o) = one_coded (with_operand c subtract rd rs o)
thumb_coded c (thumb.DataImmediate o rd e) = one_coded _
thumb_coded c (thumb.DataRegister o rd rs) = one_coded _
thumb_coded c (thumb.HighRegister o rd rs) = refl
thumb_coded c (thumb.LoadLiteral rd a) = one_coded _
thumb_coded c (thumb.TransferRegister load byte rd rn ro) = one_coded _
thumb_coded c (thumb.TransferSigned k rd rn ro) = one_coded _
thumb_coded c (thumb.TransferImmediate load byte rd rn e) = one_coded _
thumb_coded c (thumb.TransferHalf load rd rn e) = one_coded _
thumb_coded c (thumb.TransferStack load rd e) = one_coded _
thumb_coded c (thumb.LoadAddress stack rd e) = one_coded _
thumb_coded c (thumb.AdjustStack subtract e) = one_coded _
thumb_coded c (thumb.PushPop load l) = one_coded _
thumb_coded c (thumb.TransferMultiple load rn l) = one_coded _
thumb_coded c (thumb.BranchConditional condition e) = one_coded _
thumb_coded c (thumb.SoftwareInterrupt e) = one_coded _
thumb_coded c (thumb.Branch e) = one_coded _
thumb_coded c (thumb.BranchLink e) = pair_coded _

pub code_long : (o : Option (List ℕ)) (i : ThumbCode) → length (units_bytes (code_unit o i ∷ [])) ≡ code_size i
code_long o (code.One i) = refl
code_long o (code.Pair first second) = refl

pub codes_long : (o : Option (List ℕ)) (n : ℕ) (r : Result ThumbCode LineKind) → Coded n r → Long n (mapped (λ i. code_unit o i ∷ []) r)
codes_long o n (Ok i) h = code_long o i ∙ h
codes_long o n (Err k) h = tt

pub extent_sized : (l : ThumbLine) → thumb_extent l ≡ Block 2 (thumb_size l)
extent_sized (thumb.BranchLink target) = refl
extent_sized l = refl

pub thumb_fills : (c : Context) (o : Option (List ℕ)) (l : ThumbLine)
    → Fills (Ok (thumb_extent l)) (mapped (λ i. code_unit o i ∷ []) (thumb_instruction c l))
thumb_fills c o l =
    let r = mapped (λ i. code_unit o i ∷ []) (thumb_instruction c l) in
    subst (λ x. Fills (Ok x) r) (sym (extent_sized l))
    (block_fills 2 (thumb_size l) r (codes_long o (thumb_size l) (thumb_instruction c l) (thumb_coded c l)))

held_long : (c : Context) (d : List (List ℕ)) (s : Names) (h : Held) (es : List Expr) → Long (held_size s h es) (held_units c d s h es)
held_long c d s held.Relocatable es = words_long c d es
held_long c d s (held.Fixed width) es = numbers_long c width es
held_long c d s held.Strings es = bytes_long c s es

pub occupied_fills : (c : Context) (d : List (List ℕ)) (s : Names) (o : Occupied) → is_items o ≡ true
    → Fills (occupied_extent s o) (occupied_units c d s o)
occupied_fills c d s (Items item es) h =
    block_fills (item_alignment item) (held_size s (held_by item) es) (held_units c d s (held_by item) es) (held_long c d s (held_by item) es)
occupied_fills c d s o h = absurd (cc)

pub fills : (c : Context) (d : List (List ℕ)) (s : Names) (word : Option ℕ) (w : What) → is_filled w ≡ true → c.line.thumb ≡ s.thumb
    → Fills (extent_of s w) (units c d s word w)
fills c d s word what.Nothing h state = absurd (cc)
fills c d s word (what.Arm l) h state =
    block_fills 4 4 (units c d s word (what.Arm l)) (mapped_long (λ i. Instruction i (branch_symbol c l) ∷ []) 4 (arm_instruction c l) (λ i. refl))
fills c d s word (what.Thumb l) h state = thumb_fills c (link_symbol c l) l
fills c d s word (what.Pseudo l) h state =
    subst (λ b. Fills (extent_of s (what.Pseudo l)) (pseudo_units b c word l)) (sym state) (pseudo_fills c s word l)
fills c d s word (what.Directive l) h state = occupied_fills c d s (occupied l) h

pub units_fill : (c : Context) (d : List (List ℕ)) (s : Names) (word : Option ℕ) (w : What) (e : Extent) (us : List Emitted)
    → is_filled w ≡ true → c.line.thumb ≡ s.thumb → extent_of s w ≡ Ok e → units c d s word w ≡ Ok us
    → (literals : List Value) (at : ℕ) → length (units_bytes us) ≡ size_of literals at e
units_fill c d s word w e us h state x y =
    subst (λ r. Fills r (Ok us)) x (subst (Fills (extent_of s w)) y (fills c d s word w h state))

-- ---- others

pub no_items : (c : Context) (d : List (List ℕ)) (s : Names) (o : Occupied) → is_items o ≡ false → occupied_units c d s o ≡ Ok []
no_items c d s (Items item es) h = absurd (cc)
no_items c d s o h = refl

pub other_units_are_none : (c : Context) (d : List (List ℕ)) (s : Names) (word : Option ℕ) (w : What) → is_filled w ≡ false → units c d s word w ≡ Ok []
other_units_are_none c d s word what.Nothing h = refl
other_units_are_none c d s word (what.Arm l) h = absurd (cc)
other_units_are_none c d s word (what.Thumb l) h = absurd (cc)
other_units_are_none c d s word (what.Pseudo l) h = absurd (cc)
other_units_are_none c d s word (what.Directive l) h = no_items c d s (occupied l) h

abbrev Within : ℕ → Result (List Emitted) LineKind → Type 0
Within n (Ok us) = length (units_bytes us) ≤ n
Within n (Err k) = Unit {0}

pub units_fit : (c : Context) (d : List (List ℕ)) (s : Names) (word : Option ℕ) (w : What) (e : Extent) (us : List Emitted)
    → c.line.thumb ≡ s.thumb → extent_of s w ≡ Ok e → units c d s word w ≡ Ok us
    → (literals : List Value) (at : ℕ) → length (units_bytes us) ≤ size_of literals at e
units_fit c d s word w e us state x y literals at = by_test (is_filled w) refl
  where
    by_test : (b : Bool) → is_filled w ≡ b → length (units_bytes us) ≤ size_of literals at e
    by_test true h = let same = units_fill c d s word w e us h state x y literals at in omega (arith, same)
    by_test false h = subst (Within (size_of literals at e)) (sym (other_units_are_none c d s word w h) ∙ y) (omega arith)

-- ---- pools and literals

abbrev pub IsPseudo : What → Type 0
IsPseudo (what.Pseudo l) = Unit {0}
IsPseudo _ = ⊥

-- only LTORG takes up a pool, and only a pseudo-instruction loads a literal
abbrev IsSaid : What → Result Extent LineKind → Type 0
IsSaid w (Ok Pool) = w ≡ what.Directive line.Ltorg
IsSaid w (Ok (Loading n v)) = IsPseudo w
IsSaid w r = Unit {0}

moved_said : (l : PseudoLine) (b : Bool) (v : Value) → IsSaid (what.Pseudo l) (Ok (cond b (Block 4 4) (Loading 4 v)))
moved_said l true v = tt
moved_said l false v = tt

load_said : (l : PseudoLine) (state : Bool) (x : Result Value LineKind) → IsSaid (what.Pseudo l) (mapped (loading state) x)
load_said l true (Ok (Number n)) = tt
load_said l true (Ok (Truth b)) = tt
load_said l true (Ok (Words v)) = tt
load_said l true (Ok (Place s n)) = tt
load_said l false (Ok (Number n)) = moved_said l (is_moved n) (Number n)
load_said l false (Ok (Truth b)) = tt
load_said l false (Ok (Words v)) = tt
load_said l false (Ok (Place s n)) = tt
load_said l state (Err k) = tt

state_said : (w : What) (b : Bool) (a n c m : ℕ) → IsSaid w (Ok (cond b (Block a n) (Block c m)))
state_said w true a n c m = tt
state_said w false a n c m = tt

mapped_said : (w : What) (f : ℕ → Extent) (r : Result ℕ LineKind) → ((n : ℕ) → IsSaid w (Ok (f n))) → IsSaid w (mapped f r)
mapped_said w f (Ok n) h = h n
mapped_said w f (Err k) h = tt

both_said : (w : What) (q r : Result ℕ LineKind) → IsSaid w (on_both (λ m n. Padding m n) q r)
both_said w (Ok m) (Ok n) = tt
both_said w (Ok m) (Err k) = tt
both_said w (Err k) (Ok n) = tt
both_said w (Err k) (Err j) = tt

thumb_said : (w : What) (l : ThumbLine) → IsSaid w (Ok (thumb_extent l))
thumb_said w (thumb.BranchLink target) = tt
thumb_said w l = tt

directive_said : (s : Names) (l : DirectiveLine) → IsSaid (what.Directive l) (extent_of s (what.Directive l))
directive_said s line.Entry = state_said (what.Directive line.Entry) s.thumb 2 0 4 0
directive_said s (line.Space e) = mapped_said (what.Directive (line.Space e)) (λ n. Block 1 n) (number_there s e) (λ n. tt)
directive_said s (line.Align limit.Word) = tt
directive_said s (line.Align (limit.Multiple e)) =
    mapped_said (what.Directive (line.Align (limit.Multiple e))) (λ m. Padding m 0) (as_multiple (number_there s e)) (λ n. tt)
directive_said s (line.Align (limit.Behind e f)) =
    both_said (what.Directive (line.Align (limit.Behind e f))) (as_multiple (number_there s e)) (number_there s f)
directive_said s line.Ltorg = refl
directive_said s l = tt

extents_are_said : (s : Names) (w : What) → IsSaid w (extent_of s w)
extents_are_said s what.Nothing = tt
extents_are_said s (what.Arm l) = tt
extents_are_said s (what.Thumb l) = thumb_said (what.Thumb l) l
extents_are_said s (what.Pseudo (pseudo.LoadConstant condition rd e)) = load_said (pseudo.LoadConstant condition rd e) s.thumb (literal_there s e)
extents_are_said s (what.Pseudo (pseudo.Address condition rd e)) = state_said (what.Pseudo (pseudo.Address condition rd e)) s.thumb 2 2 4 4
extents_are_said s (what.Pseudo (pseudo.LongAddress condition rd e)) = tt
extents_are_said s (what.Pseudo pseudo.NoOperation) = state_said (what.Pseudo pseudo.NoOperation) s.thumb 2 2 4 4
extents_are_said s (what.Directive l) = directive_said s l

pub pools_are_said : (s : Names) (w : What) → extent_of s w ≡ Ok Pool → w ≡ what.Directive line.Ltorg
pools_are_said s w h = subst (IsSaid w) h (extents_are_said s w)

pub loads_are_pseudo : (s : Names) (w : What) (n : ℕ) (v : Value) → extent_of s w ≡ Ok (Loading n v) → IsPseudo w
loads_are_pseudo s w n v h = subst (IsSaid w) h (extents_are_said s w)
