use Rattle.place_model.specs.declared.scatter.ScatterBase.TheVariants.{At}
use Rattle.scatter_text.specs.Words.{number_of}
use Rattle.scatter_text.specs.Reading.{flaw_in}
use Rattle.scatter_text.proofs.JudgedLemmas.{mapped_ok, mapped_stop}
use Rattle.scatter_text.proofs.words.address_in.Goals as goal

pub returns-in-Ok : goal.returns-in-Ok
returns-in-Ok c = mapped_ok (flaw_in (number_of c.args.text.now)) (number_of c.args.text.now) (λ n. At n) c.in-Ok.address c.in-Ok.ensures

pub returns-in-Err : goal.returns-in-Err
returns-in-Err c = mapped_stop c.in-Err.stop (flaw_in (number_of c.args.text.now)) (number_of c.args.text.now) (λ n. At n) c.in-Err.ensures
