use Rattle.std.proofs.Common.{List, ◌∙◌, sym, subst}
use Rattle.asm_model.specs.declared.names.LaidName.{LaidName}
use Rattle.asm_model.specs.Labels.{declared_names}
use Rattle.asm_model.specs.Laid.{laid, pieces_of}
use Rattle.asm_layout.specs.Finishing.{AreAllNames, IsNamed}
use Rattle.asm_layout.proofs.FinishLemmas.{all_named, whole_is, begun_is, named_is, faults_are}
use Rattle.asm_layout.proofs.finishing.finished.Goals as goal

pub names_and_areas-requires : goal.names_and_areas-requires
names_and_areas-requires c =
    let statements = c.requires.statements in
    let ended = c.end-ends.ensures (declared_names statements) (laid statements) c.requires.whole.walked.lays in
    subst (λ (d : List LaidName). AreAllNames c.end-ends.result.names d) (sym c.declared_alone-declared.ensures)
    (all_named statements c.args.outline c.args.walk c.end-ends.result.names c.requires.whole ended.names)

pub returns-in-Err-cleared : goal.returns-in-Err-cleared
returns-in-Err-cleared c = λ statements h.
    let ended = c.end-ends.ensures (declared_names statements) (laid statements) h.walked.lays in
    let whole = whole_is c.extents_are_placeable.ensures statements c.args.outline c.args.walk c.in-Ok.pools.items h
    (c.in-Ok.ensures.laid (pieces_of (laid statements)) ended.ends) in
    rw (faults_are statements c.args.outline c.args.walk h)
    (c.in-Err-cleared.ensures (laid statements) (rw c.as_slice-2.ensures.value whole) (rw c.as_slice.ensures.value h.walked.kept))

pub returns-in-Ok-names_and_areas : goal.returns-in-Ok-names_and_areas
returns-in-Ok-names_and_areas c = λ statements h.
    let ended = c.end-ends.ensures (declared_names statements) (laid statements) h.walked.lays in
    let whole = whole_is c.extents_are_placeable.ensures statements c.args.outline c.args.walk c.in-Ok.pools.items h
    (c.in-Ok.ensures.laid (pieces_of (laid statements)) ended.ends) in
    let made = c.in-Ok-names_and_areas.ensures in (
      faults_are statements c.args.outline c.args.walk h
          ∙ c.in_default.ensures (laid statements) (rw c.as_slice-2.ensures.value whole) (rw c.as_slice.ensures.value h.walked.kept),
      record {
        areas = rw c.from_vec.ensures (made.areas (laid statements) whole.laid
            (rw c.into_vec-starts.ensures (begun_is statements c.args.outline c.args.walk h)));
        lines = rw c.from_vec-in-Ok-names_and_areas.ensures h.walked.kept;
        names = made.names statements
            (subst (λ (d : List LaidName). IsNamed statements c.as_slice-laid.result.now d) (sym c.declared_alone-declared.ensures)
            (rw c.as_slice-laid.ensures.value (named_is statements c.args.outline c.args.walk h)))
            ended.names;
      },
    )
