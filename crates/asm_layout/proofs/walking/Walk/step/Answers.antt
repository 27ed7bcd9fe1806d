use Rattle.asm_layout.proofs.walking.Walk.step.Goals as goal

pub returns : goal.returns
returns c = λ names settled all before states w m.
    c.keep_or_tell.ensures c.args.outline.now.names names settled all c.args.self.now before w
    (c.in_ok-checked.ensures names settled all before states w m)
