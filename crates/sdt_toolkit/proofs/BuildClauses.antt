-- What the top call tells of `build`: it is `link` of what `asm` writes.
use Rattle.std.proofs.Common.{◌≡◌, ℕ, true, false, List, Some, Result, Ok, Err, subst, ◌∙◌}
use Rattle.sdt_fault.specs.declared.answer.Answer.{Answer}
use Rattle.sdt_fault.specs.declared.answer.Answer.TheVariants as answer
use Rattle.sdt_fault.specs.declared.refusal.Refusal.{Refusal}
use Rattle.sdt_outside.specs.Files.{Files}
use Rattle.arm7_bus.specs.Seats.{Seat}
use Rattle.tool_words.specs.declared.command.Command.{Command}
use Rattle.tool_words.specs.declared.command.Command.TheVariants as command
use Rattle.tool_words.specs.declared.command.LinkWords.{LinkWords}
use Rattle.tool_words.specs.Commands.{command_of}
use Rattle.tool_answers.specs.Outcomes.{AreWritten, Outcome, Outside}
use Rattle.sdt_toolkit.specs.Builds.{BuildsAreLinks, BuildsAsLinked, HasObjects, link_words}
use Rattle.sdt_toolkit.specs.Commands.{Commanded, IsFirst}
use Rattle.sdt_toolkit.specs.Exact.{Exact}
use Rattle.sdt_toolkit.specs.Links.{LinkAnswers, OneLinkAsked, WordsAsk}
use Rattle.sdt_toolkit.specs.Reads.{Reads, reads_of}
use Rattle.sdt_toolkit.proofs.BuildSources.{sources_asked}

module _ (law : BuildsAreLinks) (one : OneLinkAsked) (w : LinkWords) (o : Outside) (files : Files) (told : o.before ≡ Some files) where
  -- what was asked for and written
  built : LinkAnswers true w o answer.Done → (out : Outcome) × WordsAsk (reads_of o) true w (Ok out) × AreWritten o.before o.after out.files
  unfolding LinkAnswers
  built h = let (asked, asks, (out, is, written, got)) = h in (out, subst (WordsAsk (reads_of o) true w) is asks, written)

  done : LinkAnswers true w o answer.Done → (t : Reads) (others : Files) → t.told ≡ Some others → HasObjects files others w
      → (out : Outcome) × WordsAsk t false (link_words w) (Ok out) × AreWritten o.before o.after out.files
  done h t others told_others has = let (out, asks, written) = built h in (out, (law (reads_of o) t files others w out told told_others has).0 asks, written)

  -- a build that is refused asks for no files
  not_refused : (t : Reads) (others : Files) → t.told ≡ Some others → HasObjects files others w → (out : Outcome) → WordsAsk t false (link_words w) (Ok out)
      → (r : Refusal) → WordsAsk (reads_of o) true w (Err r) → ⊥
  not_refused t others told_others has out asks r refused =
      let same = one (reads_of o) true w files (Ok out) (Err r) told ((law (reads_of o) t files others w out told told_others has).1 asks) refused in
      let bad : ◌≡◌ {A = Result Outcome Refusal} (Ok out) (Err r) = same in cc

build_answers : (asked : Result Command ℕ) (o : Outside) (seats left : List Seat) (a : Answer) → Commanded asked o seats left a → (w : LinkWords) → asked ≡ Ok (command.Build w) → a ≡ answer.Done → LinkAnswers true w o answer.Done
unfolding Commanded
build_answers asked o seats left a commanded w is done =
    (subst (λ (x : Answer). Commanded (Ok (command.Build w)) o seats left x) done (subst (λ (x : Result Command ℕ). Commanded x o seats left a) is commanded)).0

pub builds_told : BuildsAreLinks → OneLinkAsked → (words : List (List ℕ)) (o : Outside) (seats left : List Seat) (a : Answer)
    → Commanded (command_of words) o seats left a → Exact (command_of words) o seats a → BuildsAsLinked (command_of words) o a
builds_told law one words o seats left a commanded exact w files is told = record {
  each = λ e. let (out, asks, written) = built law one w o files told (build_answers (command_of words) o seats left a commanded w is e) in
      sources_asked (reads_of o) files told w out asks;
  done = λ e. done law one w o files told (build_answers (command_of words) o seats left a commanded w is e);
  accepted = λ calm t others told_others has out asks.
      (exact files told calm).accepted (λ r first.
      not_refused law one w o files told t others told_others has out asks r (subst (λ (x : Result Command ℕ). IsFirst x (reads_of o) seats r) is first));
}
