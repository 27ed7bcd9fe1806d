use Rattle.std.proofs.Common.{refl}
use Rattle.asm_laying.proofs.EnterLemmas.{room, placeable, reaches}
use Rattle.asm_laying.proofs.laying.Laying.enter.Goals as goal

pub enter-requires : goal.enter-requires
enter-requires c = room c.args.self.now c.requires

pub start-offset-requires : goal.start-offset-requires
start-offset-requires c = placeable c.args.self.now c.args.statement.now.what c.enter.new.self c.requires c.in_ok-enter.ensures

pub returns : goal.returns
returns c = λ d before h.
    reaches d c.args.statement.now before c.args.self.now
    (record {
      behind = c.stepped-next.result;
      areas = c.enter.new.self;
      map = c.args.self.now.map;
      names = c.args.self.now.names;
      all_known =
          c.args.self.now.all_known;
    })
    c.stepped-next.result c.start-offset.result c.is_thumb_label-thumb_label.result h c.stepped-next.ensures refl c.in_ok-enter.ensures c.start-offset.ensures
    refl refl refl c.is_thumb_label-thumb_label.ensures
