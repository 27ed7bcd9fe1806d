-- The laws of reading.
use Rattle.std.proofs.Common.{◌≡◌, ℕ, List, Result, Ok, Err, ◌+◌, ◌∙◌, ap, sym, subst}
use Rattle.std.specs.Prelude.{IfOk}
use Rattle.sdt_fault.specs.declared.answer.Fault.{Fault}
use Rattle.place_model.specs.declared.scatter.Scatter.{Scatter}
use Rattle.base_lemmas.proofs.BaseLemmas.{same}
use Rattle.scatter_text.specs.Parts.{parts_of, line_count}
use Rattle.scatter_text.specs.Grammar.{Spells}
use Rattle.scatter_text.specs.Reading.{Gives, Reading, beginning, read, refusal, scatter_of}
use Rattle.scatter_text.specs.Laws.{Describes, ReadingLaw, OneSpelled}
use Rattle.scatter_text.proofs.CompleteLemmas.{completes}
use Rattle.scatter_text.proofs.SpelledLemmas.{spelled}
use Rattle.scatter_text.proofs.FineLemmas.{begins_fine, read_valid, read_ends}
use Rattle.scatter_text.proofs.SoundLemmas.{ends_read}

told_ok : (r : Reading) (s : Scatter) → refusal r ≡ Ok s → r ≡ Ok s.loads
told_ok (Ok loads) s h = cc
told_ok (Err (line, k)) s h = absurd (cc)

found : (text : List ℕ) (s : Scatter) → scatter_of text ≡ Ok s → Describes text s
found text s h =
    let r = told_ok (read (line_count text + 1) beginning (parts_of text)) s h in
    let c = completes (parts_of text) beginning s.loads (read_ends (parts_of text) (line_count text + 1) beginning s.loads r) in
    (subst (λ ls. Spells text ls) (sym c.2) c.1, read_valid (parts_of text) (line_count text + 1) beginning s.loads begins_fine r)

only : (text : List ℕ) (s : Scatter) → Describes text s → scatter_of text ≡ Ok s
only text s (spells, valid) = ap refusal (ends_read (parts_of text) (line_count text + 1) beginning s.loads begins_fine (spelled s.loads (parts_of text) spells) valid)

pub reading_law : ReadingLaw
reading_law text s = (found text s, only text s)

pub one_spelled : OneSpelled
one_spelled text a b x y = let e = spelled a (parts_of text) x in let f = spelled b (parts_of text) y in same a b (sym e ∙ f)

pub found_in : (text : List ℕ) (r : Result Scatter Fault) → Gives r (scatter_of text) → IfOk r (Describes text)
found_in text (Ok s) h = found text s h
found_in text (Err e) h = tt

pub only_in : (text : List ℕ) (r : Result Scatter Fault) → Gives r (scatter_of text) → (s : Scatter) → Describes text s → Gives r (Ok s)
only_in text r h s d = subst (Gives r) (only text s d) h
