use Rattle.std.proofs.Common.{◌∙◌, refl}
use Rattle.asm_model.specs.Laid.{laid_behind}
use Rattle.asm_layout.specs.Walking.{told_by}
use Rattle.asm_layout.proofs.StepLemmas.{checked_told, err_told, ok_laid, tells, keep_line}
use Rattle.asm_layout.proofs.walking.Walk.keep_or_tell.Goals as goal

pub returns-in-Err-None : goal.returns-in-Err-None
returns-in-Err-None c = λ d names settled all old before w h.
    let l = laid_behind d c.args.statement.now before in
    let e = err_told d l before c.args.self.now.laying c.args.checked.laid.placed c.in-Err-None.kind c.in-Err-None.is-0 h.tells.placed in
    tells c.args.statement.now (told_by names settled all l before) c.in-Err-None.kind c.told_of.result
    (checked_told d names settled all l before old c.args.self.now c.args.checked h ∙ rw (e, c.in-Err-None.is-1) refl) c.told_of.ensures

pub returns-in-Err-Some : goal.returns-in-Err-Some
returns-in-Err-Some c = λ d names settled all old before w h.
    let l = laid_behind d c.args.statement.now before in
    let e = err_told d l before c.args.self.now.laying c.args.checked.laid.placed c.in-Err-Some.kind c.in-Err-Some.is-0 h.tells.placed in
    tells c.args.statement.now (told_by names settled all l before) c.earlier.result c.told_of-in-Err-Some.result
    (checked_told d names settled all l before old c.args.self.now c.args.checked h ∙ rw (e, c.in-Err-Some.is-1, c.earlier.ensures) refl)
    c.told_of-in-Err-Some.ensures

pub returns-in-Ok-Some : goal.returns-in-Ok-Some
returns-in-Ok-Some c = λ d names settled all old before w h.
    let l = laid_behind d c.args.statement.now before in
    let e = (ok_laid d l before c.args.self.now.laying c.args.checked.laid.placed c.in-Ok-Some.laid c.in-Ok-Some.is-0 h.tells.placed).told in
    tells c.args.statement.now (told_by names settled all l before) c.in-Ok-Some.kind c.told_of-in-Ok-Some.result
    (checked_told d names settled all l before old c.args.self.now c.args.checked h ∙ rw (e, c.in-Ok-Some.is-1) refl) c.told_of-in-Ok-Some.ensures

pub returns-in_ok-keep-in-Ok-None : goal.returns-in_ok-keep-in-Ok-None
returns-in_ok-keep-in-Ok-None c = λ d names settled all old before w h.
    keep_line d names settled all c.args.statement.now before old c.args.self.now c.keep.new.self c.args.checked c.in-Ok-None.laid w h c.in-Ok-None.is-1
    (ok_laid d (laid_behind d c.args.statement.now before) before c.args.self.now.laying c.args.checked.laid.placed c.in-Ok-None.laid c.in-Ok-None.is-0
    h.tells.placed)
    c.in_ok-keep-in-Ok-None.ensures
