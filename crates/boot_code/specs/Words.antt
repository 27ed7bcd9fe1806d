-- The words of the startup code, of an AIF's zero-init code and of its relocator, with the instructions
-- that they are (this project's; the instructions are those of the ARM Architecture Reference Manual).
use Rattle.std.specs.Prelude.{ℕ, true, false, List, [], ◌∷◌, ◌++◌}
use Rattle.sdt_word.specs.declared.codes.Condition.TheVariants as condition
use Rattle.sdt_word.specs.declared.codes.ShiftKind.TheVariants as shift
use Rattle.arm_isa.specs.declared.instr.ArmInstr.{ArmInstr}
use Rattle.arm_isa.specs.declared.instr.ArmInstr.TheVariants as arm
use Rattle.arm_isa.specs.declared.instr.Operation.TheVariants as operation
use Rattle.arm_isa.specs.ArmRows.{ReadsArm}

-- the startup code, which a table follows at A8
abbrev pub boot_list : List ℕ
boot_list =
    0xE28F00A0 ∷
    0xE8B0000E ∷
    0xE3530000 ∷
    0x0A00001B ∷
    0xE1520001 ∷
    0x8A00000B ∷
    0xE2533020 ∷
    0x3A000003 ∷
    0xE8B10FF0 ∷
    0xE8A20FF0 ∷
    0x1AFFFFFA ∷
    0xEAFFFFF4 ∷
    0xE2833020 ∷
    0xE4914004 ∷
    0xE4824004 ∷
    0xE2533004 ∷
    0x1AFFFFFB ∷
    0xEAFFFFEE ∷
    0xE0811003 ∷
    0xE0822003 ∷
    0xE2533020 ∷
    0x3A000003 ∷
    0xE9310FF0 ∷
    0xE9220FF0 ∷
    0x1AFFFFFA ∷
    0xEAFFFFE6 ∷
    0xE2833020 ∷
    0xE5314004 ∷
    0xE5224004 ∷
    0xE2533004 ∷
    0x1AFFFFFB ∷
    0xEAFFFFE0 ∷
    0xE3A04000 ∷
    0xE8B0000C ∷
    0xE3530000 ∷
    0x0A000003 ∷
    0xE4824004 ∷
    0xE2533004 ∷
    0x1AFFFFFC ∷
    0xEAFFFFF8 ∷
    0xE5900000 ∷
    0xE12FFF10 ∷
    []

-- the zero-init code at 40 of an AIF header
abbrev pub zero_code : List ℕ
zero_code =
    0xE24E000C ∷
    0xE5901014 ∷
    0xE5902018 ∷
    0xE5903020 ∷
    0xE0800001 ∷
    0xE0800002 ∷
    0xE3A01000 ∷
    0xE3530000 ∷
    0x14801004 ∷
    0x12533004 ∷
    0x1AFFFFFC ∷
    0xE1A0F00E ∷
    []

-- with the four words that fill the header
abbrev pub zero_list : List ℕ
zero_list = zero_code ++ (0 ∷ 0 ∷ 0 ∷ 0 ∷ [])

-- the relocator, which a list of offsets follows at 3C
abbrev pub relocator_list : List ℕ
relocator_list =
    0xE24E0008 ∷
    0xE5901028 ∷
    0xE0501001 ∷
    0xE5800028 ∷
    0xE5902000 ∷
    0xE5802004 ∷
    0x01A0F00E ∷
    0xE28F2018 ∷
    0xE4923004 ∷
    0xE3730001 ∷
    0x17904003 ∷
    0x10844001 ∷
    0x17804003 ∷
    0x1AFFFFF9 ∷
    0xE1A0F00E ∷
    []

-- the startup code by its offsets
abbrev pub boot_instructions : List ArmInstr
boot_instructions =
    -- 00 ADD r0,pc,#0xA0
    arm.DataImmediate condition.Al operation.Add false 15 0 0 160 ∷
    -- 04 LDMIA r0!,{r1,r2,r3}
    arm.TransferBlock condition.Al false true false true true 0 0x000E ∷
    -- 08 CMP r3,#0
    arm.DataImmediate condition.Al operation.Cmp true 3 0 0 0 ∷
    -- 0C BEQ 80
    arm.Branch condition.Eq false 0x1B ∷
    -- 10 CMP r2,r1
    arm.DataShifted condition.Al operation.Cmp true 2 0 0 shift.Lsl 1 ∷
    -- 14 BHI 48
    arm.Branch condition.Hi false 0xB ∷
    -- 18 SUBS r3,r3,#0x20
    arm.DataImmediate condition.Al operation.Sub true 3 3 0 32 ∷
    -- 1C BCC 30
    arm.Branch condition.Cc false 0x3 ∷
    -- 20 LDMIA r1!,{r4 to r11}
    arm.TransferBlock condition.Al false true false true true 1 0x0FF0 ∷
    -- 24 STMIA r2!,{r4 to r11}
    arm.TransferBlock condition.Al false true false true false 2 0x0FF0 ∷
    -- 28 BNE 18
    arm.Branch condition.Ne false 0xFFFFFA ∷
    -- 2C B 04
    arm.Branch condition.Al false 0xFFFFF4 ∷
    -- 30 ADD r3,r3,#0x20
    arm.DataImmediate condition.Al operation.Add false 3 3 0 32 ∷
    -- 34 LDR r4,[r1],#4
    arm.TransferImmediate condition.Al false true false false true 1 4 4 ∷
    -- 38 STR r4,[r2],#4
    arm.TransferImmediate condition.Al false true false false false 2 4 4 ∷
    -- 3C SUBS r3,r3,#4
    arm.DataImmediate condition.Al operation.Sub true 3 3 0 4 ∷
    -- 40 BNE 34
    arm.Branch condition.Ne false 0xFFFFFB ∷
    -- 44 B 04
    arm.Branch condition.Al false 0xFFFFEE ∷
    -- 48 ADD r1,r1,r3
    arm.DataShifted condition.Al operation.Add false 1 1 0 shift.Lsl 3 ∷
    -- 4C ADD r2,r2,r3
    arm.DataShifted condition.Al operation.Add false 2 2 0 shift.Lsl 3 ∷
    -- 50 SUBS r3,r3,#0x20
    arm.DataImmediate condition.Al operation.Sub true 3 3 0 32 ∷
    -- 54 BCC 68
    arm.Branch condition.Cc false 0x3 ∷
    -- 58 LDMDB r1!,{r4 to r11}
    arm.TransferBlock condition.Al true false false true true 1 0x0FF0 ∷
    -- 5C STMDB r2!,{r4 to r11}
    arm.TransferBlock condition.Al true false false true false 2 0x0FF0 ∷
    -- 60 BNE 50
    arm.Branch condition.Ne false 0xFFFFFA ∷
    -- 64 B 04
    arm.Branch condition.Al false 0xFFFFE6 ∷
    -- 68 ADD r3,r3,#0x20
    arm.DataImmediate condition.Al operation.Add false 3 3 0 32 ∷
    -- 6C LDR r4,[r1,#-4]!
    arm.TransferImmediate condition.Al true false false true true 1 4 4 ∷
    -- 70 STR r4,[r2,#-4]!
    arm.TransferImmediate condition.Al true false false true false 2 4 4 ∷
    -- 74 SUBS r3,r3,#4
    arm.DataImmediate condition.Al operation.Sub true 3 3 0 4 ∷
    -- 78 BNE 6C
    arm.Branch condition.Ne false 0xFFFFFB ∷
    -- 7C B 04
    arm.Branch condition.Al false 0xFFFFE0 ∷
    -- 80 MOV r4,#0
    arm.DataImmediate condition.Al operation.Mov false 0 4 0 0 ∷
    -- 84 LDMIA r0!,{r2,r3}
    arm.TransferBlock condition.Al false true false true true 0 0x000C ∷
    -- 88 CMP r3,#0
    arm.DataImmediate condition.Al operation.Cmp true 3 0 0 0 ∷
    -- 8C BEQ A0
    arm.Branch condition.Eq false 0x3 ∷
    -- 90 STR r4,[r2],#4
    arm.TransferImmediate condition.Al false true false false false 2 4 4 ∷
    -- 94 SUBS r3,r3,#4
    arm.DataImmediate condition.Al operation.Sub true 3 3 0 4 ∷
    -- 98 BNE 90
    arm.Branch condition.Ne false 0xFFFFFC ∷
    -- 9C B 84
    arm.Branch condition.Al false 0xFFFFF8 ∷
    -- A0 LDR r0,[r0]
    arm.TransferImmediate condition.Al true true false false true 0 0 0 ∷
    -- A4 BX r0
    arm.BranchExchange condition.Al 0 ∷
    []

-- the zero-init code by its offsets in the header
abbrev pub zero_instructions : List ArmInstr
zero_instructions =
    -- 40 SUB r0,lr,#0xC
    arm.DataImmediate condition.Al operation.Sub false 14 0 0 12 ∷
    -- 44 LDR r1,[r0,#0x14]
    arm.TransferImmediate condition.Al true true false false true 0 1 20 ∷
    -- 48 LDR r2,[r0,#0x18]
    arm.TransferImmediate condition.Al true true false false true 0 2 24 ∷
    -- 4C LDR r3,[r0,#0x20]
    arm.TransferImmediate condition.Al true true false false true 0 3 32 ∷
    -- 50 ADD r0,r0,r1
    arm.DataShifted condition.Al operation.Add false 0 0 0 shift.Lsl 1 ∷
    -- 54 ADD r0,r0,r2
    arm.DataShifted condition.Al operation.Add false 0 0 0 shift.Lsl 2 ∷
    -- 58 MOV r1,#0
    arm.DataImmediate condition.Al operation.Mov false 0 1 0 0 ∷
    -- 5C CMP r3,#0
    arm.DataImmediate condition.Al operation.Cmp true 3 0 0 0 ∷
    -- 60 STRNE r1,[r0],#4
    arm.TransferImmediate condition.Ne false true false false false 0 1 4 ∷
    -- 64 SUBNES r3,r3,#4
    arm.DataImmediate condition.Ne operation.Sub true 3 3 0 4 ∷
    -- 68 BNE 60
    arm.Branch condition.Ne false 0xFFFFFC ∷
    -- 6C MOV pc,lr
    arm.DataShifted condition.Al operation.Mov false 0 15 0 shift.Lsl 14 ∷
    []

-- the relocator by its offsets
abbrev pub relocator_instructions : List ArmInstr
relocator_instructions =
    -- 00 SUB r0,lr,#8
    arm.DataImmediate condition.Al operation.Sub false 14 0 0 8 ∷
    -- 04 LDR r1,[r0,#0x28]
    arm.TransferImmediate condition.Al true true false false true 0 1 40 ∷
    -- 08 SUBS r1,r0,r1
    arm.DataShifted condition.Al operation.Sub true 0 1 0 shift.Lsl 1 ∷
    -- 0C STR r0,[r0,#0x28]
    arm.TransferImmediate condition.Al true true false false false 0 0 40 ∷
    -- 10 LDR r2,[r0]
    arm.TransferImmediate condition.Al true true false false true 0 2 0 ∷
    -- 14 STR r2,[r0,#4]
    arm.TransferImmediate condition.Al true true false false false 0 2 4 ∷
    -- 18 MOVEQ pc,lr
    arm.DataShifted condition.Eq operation.Mov false 0 15 0 shift.Lsl 14 ∷
    -- 1C ADD r2,pc,#0x18
    arm.DataImmediate condition.Al operation.Add false 15 2 0 24 ∷
    -- 20 LDR r3,[r2],#4
    arm.TransferImmediate condition.Al false true false false true 2 3 4 ∷
    -- 24 CMN r3,#1
    arm.DataImmediate condition.Al operation.Cmn true 3 0 0 1 ∷
    -- 28 LDRNE r4,[r0,r3]
    arm.TransferShifted condition.Ne true true false false true 0 4 0 shift.Lsl 3 ∷
    -- 2C ADDNE r4,r4,r1
    arm.DataShifted condition.Ne operation.Add false 4 4 0 shift.Lsl 1 ∷
    -- 30 STRNE r4,[r0,r3]
    arm.TransferShifted condition.Ne true true false false false 0 4 0 shift.Lsl 3 ∷
    -- 34 BNE 20
    arm.Branch condition.Ne false 0xFFFFF9 ∷
    -- 38 MOV pc,lr
    arm.DataShifted condition.Al operation.Mov false 0 15 0 shift.Lsl 14 ∷
    []

-- each word reads as the instruction in its place
abbrev pub ReadAs : List ℕ → List ArmInstr → Type 0
ReadAs [] [] = Unit {0}
ReadAs [] (i ∷ is) = ⊥
ReadAs (w ∷ ws) [] = ⊥
ReadAs (w ∷ ws) (i ∷ is) = ReadsArm w i × ReadAs ws is
