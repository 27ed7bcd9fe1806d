-- What the refusals of a report say is what those of its link say.
use Rattle.std.proofs.Common.{◌≡◌, ◌⊎◌, inl, inr, ℕ, List, true, Option, Some, Result, Ok, Err, refl, sym, ap, subst, ◌∙◌}
use Rattle.sdt_fault.specs.declared.answer.Answer.{Answer}
use Rattle.sdt_fault.specs.declared.answer.Answer.TheVariants as answer
use Rattle.sdt_fault.specs.declared.refusal.Refusal.{Refusal}
use Rattle.sdt_outside.specs.Files.{Files}
use Rattle.arm7_bus.specs.Seats.{Seat}
use Rattle.link_model.specs.declared.selection.Named.{Named}
use Rattle.link_refusals.specs.Refusals.{RefusalsLaw}
use Rattle.link_refusals.proofs.RefusalLemmas.{bind_err, err_inj}
use Rattle.tool_answers.specs.Inputs.{inputs_of}
use Rattle.tool_answers.specs.Outcomes.{Outcome, Outside}
use Rattle.tool_library.specs.declared.linkables.Linkable.{Linkable}
use Rattle.tool_words.specs.declared.command.Command.{Command}
use Rattle.tool_words.specs.declared.command.Command.TheVariants as command
use Rattle.tool_words.specs.declared.command.ReportWords.{ReportWords}
use Rattle.sdt_toolkit.specs.Commands.{Commanded}
use Rattle.sdt_toolkit.specs.Inputs.{InputsAre}
use Rattle.sdt_toolkit.specs.Links.{inputs_in, text_in}
use Rattle.sdt_toolkit.specs.Reads.{Reads, reads_of}
use Rattle.sdt_toolkit.specs.Refusals.{IsReportRefused, RefusalsAreTrue, ReportRefusalsAreTrue, ReportSaysWhy}
use Rattle.sdt_toolkit.specs.Reports.{FilesAsk, InputsReport, ReadAsks, ReportAnswers, ReportAsked, ReportAsks, prints_text, report_reads}
use Rattle.sdt_toolkit.proofs.RefusalLemmas.{image_says, link_refusals_told}

module _ (law : RefusalsLaw) (s : Reads) (w : ReportWords) (r : Refusal) where
  abbrev Why : List (List ℕ) → Type 0
  Why contents = InputsAre s true w.names (inputs_in w.placement contents) (Err r) ⊎ IsReportRefused s w contents r

  told_why : (contents : List (List ℕ)) (inputs : Result (List (Named Linkable)) Refusal) (report : Result (List ℕ) Refusal)
      → InputsAre s true w.names (inputs_in w.placement contents) inputs → InputsReport w (text_in w.placement contents) inputs report → report ≡ Err r → Why contents
  told_why contents (Err q) report judged h e =
      let same : q ≡ r = err_inj {A = List ℕ} q r (sym h ∙ e) in
      inl (subst (λ (z : Refusal). InputsAre s true w.names (inputs_in w.placement contents) (Err z)) same judged)
  told_why contents (Ok xs) report judged h e =
      inr (record {
        inputs = xs;
        objects = h.objects;
        judged = judged;
        linked = h.linked;
        says = image_says law w.placement (text_in w.placement contents) w.ram h.objects r (Err r) (h.refused r e) refl;
      })

  asks_why : (contents : List (List ℕ)) → ReportAsks s w contents (Err r) → Why contents
  asks_why contents h = go (bind_err h.report prints_text r (sym h.outcome))
    where
      go : (h.report ≡ Err r) ⊎ ((text : List ℕ) × (h.report ≡ Ok text) × (prints_text text ≡ Err r)) → Why contents
      go (inl e) = told_why contents h.reports.inputs h.report h.reports.judged h.reports.told e
      go (inr (text, at, e)) = absurd cc

  why : (files : Files) → s.told ≡ Some files → ReportAsked s w (Err r) → ReportSaysWhy s files w r
  why files told asks = go (inputs_of files (report_reads w)) refl (subst (λ (t : Option Files). FilesAsk t s w (Err r)) told asks)
    where
      go : (read : Result (List (List ℕ)) Refusal) → inputs_of files (report_reads w) ≡ read → ReadAsks s w read (Err r) → ReportSaysWhy s files w r
      go (Err q) is h = inl (is ∙ ap (λ (z : Refusal). Err z) (sym (err_inj {A = Outcome} r q h)))
      go (Ok contents) is h = inr (contents, is, asks_why contents h)

-- ---- the clause of the top call

refused_asks : (w : ReportWords) (o : Outside) (r : Refusal) → ReportAnswers w o (answer.Refused r) → ReportAsked (reads_of o) w (Err r)
unfolding ReportAnswers
refused_asks w o r h = subst (ReportAsked (reads_of o) w) h.2.0 h.1

report_commanded : (asked : Result Command ℕ) (o : Outside) (seats left : List Seat) (a : Answer) (r : Refusal) (w : ReportWords) → Commanded asked o seats left a → a ≡ answer.Refused r
    → asked ≡ Ok (command.Report w) → ReportAnswers w o (answer.Refused r)
unfolding Commanded
report_commanded asked o seats left a r w commanded e is =
    (subst (λ (x : Answer). Commanded (Ok (command.Report w)) o seats left x) e (subst (λ (x : Result Command ℕ). Commanded x o seats left a) is commanded)).0

report_refusals_told : RefusalsLaw → (asked : Result Command ℕ) (o : Outside) (seats left : List Seat) (a : Answer) → Commanded asked o seats left a → ReportRefusalsAreTrue asked o a
report_refusals_told law asked o seats left a commanded files w r told e is =
    why law (reads_of o) w r files told (refused_asks w o r (report_commanded asked o seats left a r w commanded e is))

pub refusals_told : RefusalsLaw → (asked : Result Command ℕ) (o : Outside) (seats left : List Seat) (a : Answer) → Commanded asked o seats left a → RefusalsAreTrue asked o a
refusals_told law asked o seats left a commanded = (link_refusals_told law asked o seats left a commanded, report_refusals_told law asked o seats left a commanded)
