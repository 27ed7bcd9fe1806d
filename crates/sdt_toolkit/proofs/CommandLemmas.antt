-- Answers to commands, by what their words ask for.
use Rattle.std.proofs.Common.{◌≡◌, ℕ, List, [], ◌∷◌, Option, Some, None, Result, Ok, Err, refl, sym, ap, subst, inl}
use Rattle.sdt_fault.specs.declared.answer.Answer.{Answer}
use Rattle.sdt_fault.specs.declared.answer.Answer.TheVariants as answer
use Rattle.sdt_fault.specs.declared.refusal.Refusal.TheVariants.{BadWords}
use Rattle.tool_words.specs.declared.command.Command.{Command}
use Rattle.tool_words.specs.declared.command.Command.TheVariants as command
use Rattle.tool_words.specs.declared.command.WordsFault.{WordsFault}
use Rattle.tool_words.specs.declared.command.WordsFault.TheVariants as fault
use Rattle.tool_words.specs.declared.items.Item.{Item}
use Rattle.tool_words.specs.declared.table.Verb.{Verb}
use Rattle.tool_words.specs.Commands.{IsGood, Reads, command_of, told, unless, verb_command, verb_words}
use Rattle.tool_words.specs.Items.{items_of, verb_named, word_at}
use Rattle.tool_words.specs.Rules.{mode_of, verb_fault}
use Rattle.tool_words.proofs.GoodLemmas.{good_words}
use Rattle.tool_answers.specs.Outcomes.{Outside, IsLeft, OfAll, OfOne}
use Rattle.tool_library.specs.Libraries.{created, creates, listed, lists, extracted, extracts}
use Rattle.tool_library.specs.Lists.{listing_of}
use Rattle.tool_library.specs.Lists as listing
use Rattle.arm7_bus.specs.Seats.{Seat}
use Rattle.tool_library.proofs.AnswerLemmas as answers
use Rattle.tool_run.proofs.BurnLemmas as burns
use Rattle.tool_run.proofs.RunLemmas.{no_memory}
use Rattle.sdt_toolkit.specs.Commands.{Commanded, RefusesWords, RefusedBy}
use Rattle.sdt_toolkit.specs.Links.{LinkAnswers}
use Rattle.sdt_toolkit.specs.Reports.{ReportAnswers}

pub asked : (c : Command) (x : Result Command ℕ) (o : Outside) (seats left : List Seat) (a : Answer) → Reads (Ok c) x → Commanded (Ok c) o seats left a → Commanded x o seats left a
asked c (Ok d) o seats left a h says = subst (λ (e : Command). Commanded (Ok e) o seats left a) h says
asked c (Err place) o seats left a h says = absurd h

unasked : (c : Command) (o : Outside) (seats : List Seat) → IsLeft o → Commanded (Ok c) o seats seats answer.NoMemory
unfolding LinkAnswers ReportAnswers Commanded
unasked (command.Assemble source output) o seats left = (left, refl)
unasked (command.CreateLibrary library objects) o seats left = (answers.no_memory (created library objects) (OfAll (creates library objects) objects) objects o (creates library objects objects) (objects, refl, refl) left, refl)
unasked (command.ListMembers library) o seats left = (answers.no_memory (listed library) (OfOne (lists library)) (library ∷ []) o (lists library []) ([], refl) left, refl)
unasked (command.ExtractMember library member output) o seats left = (answers.no_memory (extracted library member output) (OfOne (extracts library member output)) (library ∷ []) o (extracts library member output []) ([], refl) left, refl)
unasked (command.List file) o seats left = (answers.no_memory (listing_of file) (OfOne (listing.lists file)) (file ∷ []) o (listing.lists file []) ([], refl) left, refl)
unasked (command.Link words) o seats left = (inl left, refl)
unasked (command.Build words) o seats left = (inl left, refl)
unasked (command.Report words) o seats left = (left, refl)
unasked (command.InterruptKit output acknowledge) o seats left = ((left.files, left.sink), refl)
unasked (command.MakeBig count output) o seats left = inl (record { outside = left; devices = refl })
unasked (command.Burn f file output) o seats left = (burns.no_memory f file output o left, refl)
unasked (command.Run run) o seats left = no_memory run o seats seats (record { outside = left; devices = refl })
unasked (command.Debug words) o seats left = record { outside = left; devices = refl }

pub refused : (e : WordsFault) (x : Result Command ℕ) (o : Outside) (seats : List Seat) (a : Answer) → Reads (Err e) x → RefusedBy e a → IsLeft o → Commanded x o seats seats a
unfolding Commanded
refused (fault.Place place) (Ok c) o seats a h by left = absurd h
refused (fault.Place place) (Err told) o seats a h by left = (subst (RefusesWords told o) (sym by) (ap BadWords h, left), refl)
refused fault.NoMemory (Ok c) o seats a h by left = subst (Commanded (Ok c) o seats seats) (sym by) (unasked c o seats left)
refused fault.NoMemory (Err told) o seats a h by left = (subst (RefusesWords told o) (sym by) left, refl)

-- words that were read ask for just this command
pub read_as : (P : Result Command ℕ → Type 0) (c : Command) (x : Result Command ℕ) → Reads (Ok c) x → P x → P (Ok c)
read_as P c (Ok d) h p = subst (λ (e : Command). P (Ok e)) (sym h) p
read_as P c (Err place) h p = absurd h

-- what words ask for keeps their rules
pub good_command : (words : List (List ℕ)) (c : Command) → command_of words ≡ Ok c → IsGood c
good_command words c h = by_verb (verb_named (word_at words 0)) h
  where
    by_place : (verb : Verb) (items : List Item) (place : Option ℕ) → items ≡ items_of verb words → verb_fault verb words items ≡ place → unless place (verb_command verb (mode_of items) words items) ≡ Ok c → IsGood c
    by_place verb items None are e k = subst IsGood (let same : verb_command verb (mode_of items) words items ≡ c = cc in same) (good_words verb words items are e)
    by_place verb items (Some place) are e k = absurd (let bad : ◌≡◌ {A = Result Command ℕ} (Err (told place)) (Ok c) = k in cc)

    by_verb : (verb : Option Verb) → verb_words verb words ≡ Ok c → IsGood c
    by_verb None k = absurd (let bad : ◌≡◌ {A = Result Command ℕ} (Err (told 0)) (Ok c) = k in cc)
    by_verb (Some verb) k = by_place verb (items_of verb words) (verb_fault verb words (items_of verb words)) refl refl k
