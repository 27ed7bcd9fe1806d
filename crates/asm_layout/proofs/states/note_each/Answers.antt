use Rattle.asm_layout.proofs.StateLemmas.{room, noted_next}
use Rattle.std.proofs.Common.{[], refl}
use Rattle.asm_layout.proofs.states.note_each.Goals as goal

pub statements-init : goal.statements-init
statements-init c = record { before = []; whole = refl; standing = refl; numbered = c.requires.numbered; noted = c.requires.none }

pub enter-requires : goal.enter-requires
enter-requires c =
    room c.args.statements.now c.statements.left.now c.statements.areas c.statements.behind c.statements.states c.statements.invariant c.requires.few
    c.in-len1-up.len_at_least

pub statements-preserved : goal.statements-preserved
statements-preserved c =
    noted_next c.args.statements.now c.statements.left.now c.statement-item.result c.statements.areas c.enter.new.self c.statements.behind
    c.stepped-behind.result
    c.statements.states c.note.new.self c.statements.invariant c.in-len1-up.len_at_least c.statement-item.is c.in_ok-enter-in-len1-up.ensures
    c.stepped-behind.ensures
    (λ before h. c.in_ok-note-in-len1-up.ensures c.statement-item.result before h refl)
