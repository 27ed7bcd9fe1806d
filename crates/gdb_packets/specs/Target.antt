-- The target's description, which the program's text is the same as, and the pieces of it that are sent. gdb's manual, "Target
-- Descriptions" (Standard Target Features, ARM) and "Remote Serial Protocol", General Query Packets, qXfer.
use Rattle.std.specs.Prelude.{ℕ, nat_lt, if◌then◌else◌, List, [], ◌∷◌, ◌++◌, length, take, drop, codes}

abbrev pub line : List ℕ → List ℕ → List ℕ
line text rest = text ++ 10 ∷ rest

-- 16 registers and CPSR, which is number 25
abbrev pub description : List ℕ
description =
    line (codes "<?xml version='1.0'?>") (
    line (codes "<!DOCTYPE target SYSTEM 'gdb-target.dtd'>") (
    line (codes "<target version='1.0'><architecture>armv4t</architecture><feature name='org.gnu.gdb.arm.core'>") (
    line (codes "<reg name='r0' bitsize='32' type='uint32'/>") (
    line (codes "<reg name='r1' bitsize='32' type='uint32'/>") (
    line (codes "<reg name='r2' bitsize='32' type='uint32'/>") (
    line (codes "<reg name='r3' bitsize='32' type='uint32'/>") (
    line (codes "<reg name='r4' bitsize='32' type='uint32'/>") (
    line (codes "<reg name='r5' bitsize='32' type='uint32'/>") (
    line (codes "<reg name='r6' bitsize='32' type='uint32'/>") (
    line (codes "<reg name='r7' bitsize='32' type='uint32'/>") (
    line (codes "<reg name='r8' bitsize='32' type='uint32'/>") (
    line (codes "<reg name='r9' bitsize='32' type='uint32'/>") (
    line (codes "<reg name='r10' bitsize='32' type='uint32'/>") (
    line (codes "<reg name='r11' bitsize='32' type='uint32'/>") (
    line (codes "<reg name='r12' bitsize='32' type='uint32'/>") (
    line (codes "<reg name='sp' bitsize='32' type='data_ptr'/>") (
    line (codes "<reg name='lr' bitsize='32'/>") (
    line (codes "<reg name='pc' bitsize='32' type='code_ptr'/>") (
    line (codes "<reg name='cpsr' bitsize='32' regnum='25'/>") (
    line (codes "</feature></target>") []))))))))))))))))))))

-- at most so many bytes from an offset on: `m` where more stand behind them, else `l`
abbrev pub piece : List ℕ → ℕ → ℕ → List ℕ
piece text offset size =
    (if nat_lt size (length (drop offset text)) then 109 else 108) ∷ take size (drop offset text)
