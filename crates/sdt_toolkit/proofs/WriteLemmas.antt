-- Files written one after the other.
use Rattle.std.proofs.Common.{◌≡◌, ℕ, suc, ◌+◌, ◌<◌, ◌≤◌, List, [], ◌∷◌, ◌++◌, length, take, drop, get_or, Option, Some, None, refl, sym, ap, ◌∙◌, subst, arith, add-one}
use Rattle.std.proofs.Math.Seq.{take-suc, split_at}
use Rattle.std.specs.FinMap.{insert}
use Rattle.sdt_fault.specs.declared.answer.Answer.{Answer}
use Rattle.sdt_fault.specs.declared.answer.Answer.TheVariants as answer
use Rattle.sdt_outside.specs.Counts.{Rose}
use Rattle.sdt_outside.specs.Files.{Files, IsWritten}
use Rattle.bin_image.specs.declared.records.OutFile.{OutFile}
use Rattle.tool_answers.specs.Outcomes.{AreWritten, Writes, written}
use Rattle.sdt_toolkit.specs.Links.{AllWritten, outputs}

pub outputs_both : (xs ys : List OutFile) → outputs (xs ++ ys) ≡ outputs xs ++ outputs ys
outputs_both [] ys = refl
outputs_both (x ∷ xs) ys = ap (λ (fs : List (List ℕ × List ℕ)). (x.name, x.bytes) ∷ fs) (outputs_both xs ys)

pub none_written : (before : Option Files) → AreWritten before before []
none_written None = refl
none_written (Some files) = refl

written_last : (files : Files) (fs : List (List ℕ × List ℕ)) (name bytes : List ℕ) → written files (fs ++ (name, bytes) ∷ []) ≡ insert (written files fs) name bytes
written_last files [] name bytes = refl
written_last files (f ∷ fs) name bytes = written_last (insert files f.0 f.1) fs name bytes

-- one more file
written_more : (before mid after : Option Files) (fs : List (List ℕ × List ℕ)) (name bytes : List ℕ) → AreWritten before mid fs → IsWritten mid after name bytes
    → AreWritten before after (fs ++ (name, bytes) ∷ [])
written_more None mid after fs name bytes h more = subst (λ (m : Option Files). IsWritten m after name bytes) h more
written_more (Some files) mid after fs name bytes h more =
    let is : after ≡ Some (insert (written files fs) name bytes) = subst (λ (m : Option Files). IsWritten m after name bytes) h more in
    is ∙ ap Some (sym (written_last files fs name bytes))

pub written_step : (before mid after : Option Files) (files : List OutFile) (k : ℕ) (f : OutFile) → k < length files → f ≡ get_or files k f
    → AreWritten before mid (outputs (take k files)) → IsWritten mid after f.name f.bytes → AreWritten before after (outputs (take (k + 1) files))
written_step before mid after files k f lt is h more =
    let one : take (k + 1) files ≡ take k files ++ f ∷ [] = rw add-one (take-suc files k f lt ∙ ap (λ (x : OutFile). take k files ++ x ∷ []) (sym is)) in
    let both : outputs (take (k + 1) files) ≡ outputs (take k files) ++ (f.name, f.bytes) ∷ [] = ap outputs one ∙ outputs_both (take k files) (f ∷ []) in
    subst (AreWritten before after) (sym both) (written_more before mid after (outputs (take k files)) f.name f.bytes h more)

outputs_at : (files : List OutFile) (k : ℕ) (f : OutFile) → k < length files → f ≡ get_or files k f → outputs files ≡ outputs (take k files) ++ (f.name, f.bytes) ∷ outputs (drop (suc k) files)
outputs_at files k f lt is =
    let all : files ≡ take k files ++ f ∷ drop (suc k) files = split_at files k f lt ∙ ap (λ (x : OutFile). take k files ++ x ∷ drop (suc k) files) (sym is) in
    ap outputs all ∙ outputs_both (take k files) (f ∷ drop (suc k) files)

-- a file that was not written
pub written_fail : (a : Answer) (before mid after : Option Files) (files : List OutFile) (k : ℕ) (f : OutFile) (first now later : ℕ) → k < length files → f ≡ get_or files k f → first ≤ now
    → AreWritten before mid (outputs (take k files)) → Writes f.name f.bytes mid after (Rose now later) a → (a ≡ answer.Done → ⊥)
    → AllWritten (outputs files) before after (Rose first later) a
written_fail answer.Done before mid after files k f first now later lt is le h says other = absurd (other refl)
written_fail (answer.WriteFault q) before mid after files k f first now later lt is le h says other = (
  omega (arith, says.1),
  record {
    done = outputs (take k files);
    bytes = f.bytes;
    rest = outputs (drop (suc k) files);
    outputs = rw says.0 (outputs_at files k f lt is);
    between = mid;
    written_before = h;
    others = rw says.0 says.2;
  },
)
written_fail answer.NoMemory before mid after files k f first now later lt is le h says other = record {
  done = outputs (take k files);
  rest = (f.name, f.bytes) ∷ outputs (drop (suc k) files);
  outputs = outputs_at files k f lt is;
  written_before = rw says h;
}
written_fail (answer.Refused r) before mid after files k f first now later lt is le h says other = absurd says
written_fail (answer.ReadFault q) before mid after files k f first now later lt is le h says other = absurd says
written_fail answer.SinkFault before mid after files k f first now later lt is le h says other = absurd says
written_fail (answer.Stopped stop) before mid after files k f first now later lt is le h says other = absurd says
