use Rattle.std.proofs.Common.{◌≡◌, Bool, [], ◌∷◌, sym, subst, get_or}
use Rattle.link_select.proofs.MarkLemmas.{marks_new}
use Rattle.link_select.proofs.choosing.take_one.Goals as goal

pub returns-in_ok-push : goal.returns-in_ok-push
returns-in_ok-push c = record {
  added = c.args.number ∷ [];
  behind = c.in_ok-push.ensures.items;
  marks =
      marks_new c.args.marks.now.items c.args.number c.requires
      (sym (subst (λ (b : Bool). b ≡ get_or c.args.marks.now.items c.args.number b) c.if-not-index.true c.index.ensures));
}
