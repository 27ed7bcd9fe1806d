-- Scripts and what is read, and lines that are printed, worked out by hand.
use Rattle.std.proofs.Common.{◌≡◌, [], ◌∷◌, ◌++◌, Ok, Err, Some, None, refl}
use Rattle.std.specs.Prelude.{codes}
use Rattle.std.specs.Fmt.{digits}
use Rattle.sdt_fault.specs.declared.kinds.CommandKind.TheVariants.{Number, NoDevice, Syntax}
use Rattle.sdt_fault.specs.declared.refusal.Refusal.TheVariants.{BadCommand}
use Rattle.armsd_core.specs.declared.command.Command.TheVariants.{Break, Go, Mem, Quit, Regs}
use Rattle.armsd_core.specs.declared.reason.Reason.TheVariants as reason
use Rattle.armsd_core.specs.Scripts.{script_of}
use Rattle.armsd_core.specs.Sessions.{before_quit}
use Rattle.armsd_core.specs.Texts.{byte_text, register_line, stop_line}

commands_row : script_of (codes "break 0x8004\r\n \ngo 10\nmem 32772 0x4") 2 ≡ Ok (Break 0x8004 ∷ Go 10 ∷ Mem 0x8004 4 ∷ [])
commands_row = refl

-- two devices are left, one, and none
devices_row : script_of (codes "detach 0\ndetach 0\ndetach 0\n") 2 ≡ Err (BadCommand [] 3 NoDevice)
devices_row = refl

number_row : script_of (codes "quit\nbreak 4294967296") 0 ≡ Err (BadCommand [] 2 Number)
number_row = refl

range_row : script_of (codes "watch 0xFFFFFFFF 2") 0 ≡ Err (BadCommand [] 1 Number)
range_row = refl

blanks_row : script_of (codes "go  1") 0 ≡ Err (BadCommand [] 1 Syntax)
blanks_row = refl

-- ---- what is printed

break_row : stop_line 0x8004 1 reason.Break ≡ codes "at 00008004 1 break\n"
unfolding digits
break_row = refl

watch_row : stop_line 0x800C 120 (reason.Watch 0xF0000100) ≡ codes "at 0000800C 120 watch F0000100\n"
unfolding digits
watch_row = refl

register_row : register_line (codes "cpsr") 0xD3 ≡ codes "cpsr 000000D3\n"
register_row = refl

byte_row : byte_text (Some 0x1F) ++ byte_text None ≡ codes "1f--"
byte_row = refl

quit_row : before_quit (Go 1 ∷ Regs ∷ Quit ∷ Break 4 ∷ Quit ∷ []) ≡ Go 1 ∷ Regs ∷ []
quit_row = refl
