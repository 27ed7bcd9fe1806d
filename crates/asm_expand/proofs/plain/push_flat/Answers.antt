use Rattle.std.proofs.Common.{ℕ, List, [], ◌∷◌, ◌++◌, Bool, ◌||◌, refl, sym, ap, ◌∙◌, Option}
use Rattle.std.specs.List.{list_any}
use Rattle.asm_model.specs.declared.lines.Flat.{Flat}
use Rattle.asm_model.specs.Directives.{or_else}
use Rattle.asm_model.specs.Forms.{same}
use Rattle.expand_model.specs.States.{found}
use Rattle.expand_model.specs.Steps.{number_rows}
use Rattle.expand_model.specs.Words.{listed}
use Rattle.asm_variables.proofs.MapLemmas.{found_append}
use Rattle.asm_expand.proofs.PlainLemmas.{labels_listed}
use Rattle.asm_expand.proofs.plain.push_flat.Goals as goal

pub returns-clause-state : goal.returns-clause-state
returns-clause-state c =
    λ s r.
    let rows = number_rows c.args.name c.args.number in
    record {
      visits = r.visits;
      globals = r.globals;
      locals = r.locals;
      arguments = r.arguments;
      called = r.called;
      macros = r.macros;
      flats = c.in-Ok.ensures.items ∙ ap (λ (xs : List Flat). xs ++ c.args.flat ∷ []) r.flats;
      numbers = λ q. c.in-Ok-note_number.ensures q ∙ ap (λ (o : Option ℕ). or_else o (found q rows)) (r.numbers q) ∙ sym (found_append q s.numbers rows);
      labels = λ q. c.in_ok-note_label.ensures q ∙ ap (λ (b : Bool). list_any (λ n. same n q) (listed c.args.name) || b) (r.labels q)
          ∙ sym (labels_listed q c.args.name s.labels);
      thumb = refl;
    }
