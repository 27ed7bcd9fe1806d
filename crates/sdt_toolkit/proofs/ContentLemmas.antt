-- What was read of the inputs of a link, one after the other, and behind the texts before them.
use Rattle.std.proofs.Common.{◌≡◌, inl, ℕ, zero, suc, ◌+◌, ◌<◌, ◌&&◌, List, [], ◌∷◌, ◌++◌, length, take, get_or, Bool, true, Option, Some, None, Result, Ok, Err, refl, sym, ap, ◌∙◌, subst, append_assoc, add-one, arith}
use Rattle.std.proofs.Math.Seq.{take-suc}
use Rattle.sdt_fault.specs.declared.answer.Fault.{Fault}
use Rattle.sdt_fault.specs.declared.answer.Fault.TheVariants as fault
use Rattle.sdt_fault.specs.declared.kinds.Quantity.TheVariants.{SourceBytes}
use Rattle.sdt_fault.specs.declared.refusal.Refusal.{Refusal}
use Rattle.sdt_fault.specs.declared.refusal.Refusal.TheVariants.{Missing, TooLarge}
use Rattle.sdt_outside.specs.Files.{Files, content}
use Rattle.aof_object.specs.declared.records.Object.{Object}
use Rattle.armasm_core.specs.Assembling.{most_bytes}
use Rattle.tool_words.specs.declared.command.LinkPlacement.{LinkPlacement}
use Rattle.tool_words.specs.declared.command.LinkPlacement.TheVariants as placement
use Rattle.tool_answers.specs.declared.inputs.InputEnd.{InputEnd}
use Rattle.tool_answers.specs.declared.inputs.InputEnd.TheVariants as end
use Rattle.tool_answers.specs.Inputs.{found_or, before_others, and_others, inputs_of, AreInputs, InputsEnd, IsReached}
use Rattle.tool_answers.proofs.InputLemmas.{inputs_step}
use Rattle.tool_library.specs.declared.linkables.Linkable.{Linkable}
use Rattle.sdt_toolkit.specs.declared.contents.Content.{Content}
use Rattle.sdt_toolkit.specs.declared.contents.Content.TheVariants as kept
use Rattle.sdt_toolkit.specs.declared.contents.LinkFiles.{LinkFiles}
use Rattle.sdt_toolkit.specs.Contents.{AgreesUnder, AllAgree, AreCounted, AreKept, IsKept}
use Rattle.sdt_toolkit.specs.Inputs.{InputIs, IsGotBy, is_source_name}
use Rattle.sdt_toolkit.specs.Links.{inputs_in, read_by, text_in}
use Rattle.sdt_toolkit.specs.Reads.{Told}
use Rattle.sdt_toolkit.proofs.InputLemmas.{source_judged}

-- ---- a source that is too long

long_judged : (told : Option Files) (before now : ℕ) (sources : Bool) (name bytes : List ℕ) → (sources && is_source_name name) ≡ true → most_bytes < length bytes
    → Told {A = Linkable} told before now (Err (fault.Refused (TooLarge SourceBytes most_bytes))) (λ s. InputIs s sources name bytes) (λ s. IsGotBy s.told sources name bytes)
unfolding Told
long_judged told before now sources name bytes is long =
    source_judged told before now sources name bytes (Err (fault.Refused (TooLarge SourceBytes most_bytes))) is
    (λ s among. record {
      object = Err (TooLarge SourceBytes most_bytes);
      assembled = inl (long, refl);
      caused = tt;
      as_input = refl;
      sound = λ o e. absurd (let bad : ◌≡◌ {A = Result Object Refusal} (Err (TooLarge SourceBytes most_bytes)) (Ok o) = e in cc);
    })

pub whole_input : (told : Option Files) (before now : ℕ) (sources : Bool) (name : List ℕ) (c : Content) (whole bytes : List ℕ) (r : Result Linkable Fault) → c ≡ kept.Whole whole
    → AgreesUnder sources name c bytes → Told told before now r (λ s. InputIs s sources name whole) (λ s. IsGotBy s.told sources name whole)
    → Told told before now r (λ s. InputIs s sources name bytes) (λ s. IsGotBy s.told sources name bytes)
whole_input told before now sources name c whole bytes r is agrees h =
    let same : whole ≡ bytes = subst (λ (x : Content). AgreesUnder sources name x bytes) is agrees in
    subst (λ (t : List ℕ). Told told before now r (λ s. InputIs s sources name t) (λ s. IsGotBy s.told sources name t)) same h

pub long_input : (told : Option Files) (before now : ℕ) (sources : Bool) (name : List ℕ) (c : Content) (bytes : List ℕ) → c ≡ kept.Long → AgreesUnder sources name c bytes
    → Told {A = Linkable} told before now (Err (fault.Refused (TooLarge SourceBytes most_bytes))) (λ s. InputIs s sources name bytes) (λ s. IsGotBy s.told sources name bytes)
long_input told before now sources name c bytes is agrees =
    let k : ((sources && is_source_name name) ≡ true) × (most_bytes < length bytes) = subst (λ (x : Content). AgreesUnder sources name x bytes) is agrees in
    long_judged told before now sources name bytes k.0 k.1

-- ---- what agrees

agree_count : (sources : Bool) (names : List (List ℕ)) (cs : List Content) (contents : List (List ℕ)) → AllAgree sources names cs contents → length contents ≡ length names
agree_count sources [] [] [] h = refl
agree_count sources [] [] (b ∷ bs) h = absurd h
agree_count sources [] (d ∷ ds) contents h = absurd h
agree_count sources (n ∷ ns) [] contents h = absurd h
agree_count sources (n ∷ ns) (d ∷ ds) [] h = absurd h
agree_count sources (n ∷ ns) (d ∷ ds) (b ∷ bs) h = ap suc (agree_count sources ns ds bs h.1)

pub agree_at : (sources : Bool) (names : List (List ℕ)) (cs : List Content) (contents : List (List ℕ)) (k : ℕ) (name : List ℕ) (c : Content) → AllAgree sources names cs contents
    → k < length names → name ≡ get_or names k name → c ≡ get_or cs k c → AgreesUnder sources name c (get_or contents k []) × (k < length contents)
agree_at sources [] cs contents k name c h lt e f = absurd (let bad : k < 0 = lt in omega arith)
agree_at sources (n ∷ ns) [] contents k name c h lt e f = absurd h
agree_at sources (n ∷ ns) (d ∷ ds) [] k name c h lt e f = absurd h
agree_at sources (n ∷ ns) (d ∷ ds) (b ∷ bs) zero name c h lt e f =
    let name_is : name ≡ n = e in
    let content_is : c ≡ d = f in
    (subst (λ (x : List ℕ). AgreesUnder sources x c b) (sym name_is) (subst (λ (x : Content). AgreesUnder sources n x b) (sym content_is) h.0), omega arith)
agree_at sources (n ∷ ns) (d ∷ ds) (b ∷ bs) (suc k) name c h lt e f =
    let rest = agree_at sources ns ds bs k name c h.1 (omega (arith, lt)) e f in
    (rest.0, omega (arith, rest.1))

any_default : (xs : List (List ℕ)) (k : ℕ) (d e : List ℕ) → k < length xs → get_or xs k d ≡ get_or xs k e
any_default [] k d e lt = absurd (let bad : k < 0 = lt in omega arith)
any_default (x ∷ xs) zero d e lt = refl
any_default (x ∷ xs) (suc k) d e lt = any_default xs k d e (omega (arith, lt))

pub same_place : (xs : List (List ℕ)) (k : ℕ) → k < length xs → get_or xs k [] ≡ get_or xs k (get_or xs k [])
same_place xs k lt = any_default xs k [] (get_or xs k []) lt

agree_more : (sources : Bool) (names : List (List ℕ)) (cs : List Content) (contents : List (List ℕ)) (name : List ℕ) (c : Content) (bytes : List ℕ) → AllAgree sources names cs contents
    → AgreesUnder sources name c bytes → AllAgree sources (names ++ name ∷ []) (cs ++ c ∷ []) (contents ++ bytes ∷ [])
agree_more sources [] [] [] name c bytes h one = (one, tt)
agree_more sources [] [] (b ∷ bs) name c bytes h one = absurd h
agree_more sources [] (d ∷ ds) contents name c bytes h one = absurd h
agree_more sources (n ∷ ns) [] contents name c bytes h one = absurd h
agree_more sources (n ∷ ns) (d ∷ ds) [] name c bytes h one = absurd h
agree_more sources (n ∷ ns) (d ∷ ds) (b ∷ bs) name c bytes h one = (h.0, agree_more sources ns ds bs name c bytes h.1 one)

-- ---- what was read

pub read_step : (told : Option Files) (sources : Bool) (names : List (List ℕ)) (cs : List Content) (k : ℕ) (name : List ℕ) (c : Content) → k < length names → name ≡ get_or names k name
    → AreKept told sources (take k names) cs → IsKept told (sources && is_source_name name) name c → AreKept told sources (take (k + 1) names) (cs ++ c ∷ [])
read_step told sources names cs k name c lt is h one =
    let next : take (k + 1) names ≡ take k names ++ name ∷ [] = rw add-one (take-suc names k name lt ∙ ap (λ (x : List ℕ). take k names ++ x ∷ []) (sym is)) in record {
      contents = h.contents ++ one.bytes ∷ [];
      found = inputs_step told names h.contents k name one.bytes lt is h.found one.found;
      agree = subst (λ (ns : List (List ℕ)). AllAgree sources ns (cs ++ c ∷ []) (h.contents ++ one.bytes ∷ [])) (sym next)
          (agree_more sources (take k names) cs h.contents name c one.bytes h.agree one.agrees);
    }

-- ---- behind the scatter file's text

pub text_first : (f : LinkPlacement) (texts contents : List (List ℕ)) → length texts ≡ length (read_by f []) → text_in f (texts ++ contents) ≡ text_in f texts
text_first (placement.Scatter file) [] contents h = absurd (let bad : 0 ≡ 1 = h in omega arith)
text_first (placement.Scatter file) (text ∷ texts) contents h = refl
text_first (placement.Aif base relocatable) texts contents h = refl
text_first (placement.Plain base) texts contents h = refl

pub inputs_behind : (f : LinkPlacement) (texts contents : List (List ℕ)) → length texts ≡ length (read_by f []) → inputs_in f (texts ++ contents) ≡ contents
inputs_behind (placement.Scatter file) [] contents h = absurd (let bad : 0 ≡ 1 = h in omega arith)
inputs_behind (placement.Scatter file) (text ∷ []) contents h = refl
inputs_behind (placement.Scatter file) (text ∷ other ∷ texts) contents h = absurd (omega (arith, h))
inputs_behind (placement.Aif base relocatable) [] contents h = refl
inputs_behind (placement.Aif base relocatable) (text ∷ texts) contents h = absurd (omega (arith, h))
inputs_behind (placement.Plain base) [] contents h = refl
inputs_behind (placement.Plain base) (text ∷ texts) contents h = absurd (omega (arith, h))

count_both : (f : LinkPlacement) (names texts contents : List (List ℕ)) → length texts ≡ length (read_by f []) → length contents ≡ length names
    → length (texts ++ contents) ≡ length (read_by f names)
count_both (placement.Scatter file) names [] contents h k = absurd (let bad : 0 ≡ 1 = h in omega arith)
count_both (placement.Scatter file) names (text ∷ []) contents h k = ap suc k
count_both (placement.Scatter file) names (text ∷ other ∷ texts) contents h k = absurd (omega (arith, h))
count_both (placement.Aif base relocatable) names [] contents h k = k
count_both (placement.Aif base relocatable) names (text ∷ texts) contents h k = absurd (omega (arith, h))
count_both (placement.Plain base) names [] contents h k = k
count_both (placement.Plain base) names (text ∷ texts) contents h k = absurd (omega (arith, h))

pub files_counted : (sources : Bool) (f : LinkPlacement) (names : List (List ℕ)) (r : LinkFiles) (inputs : List (List ℕ)) → AreCounted f names r → AllAgree sources names r.contents inputs
    → length (r.texts ++ inputs) ≡ length (read_by f names)
files_counted sources f names r inputs c agree = count_both f names r.texts inputs c.texts (agree_count sources names r.contents inputs agree)

abbrev Inputs : Type 0
Inputs = Result (List (List ℕ)) Refusal

no_text : (texts : List (List ℕ)) → ◌≡◌ {A = Inputs} (Ok []) (Ok texts) → [] ≡ texts
no_text texts h = cc

one_read : (x : Result (List ℕ) Refusal) (rest : Inputs) (texts contents : List (List ℕ)) → and_others x (Ok []) ≡ Ok texts → rest ≡ Ok contents → and_others x rest ≡ Ok (texts ++ contents)
one_read (Ok b) rest texts contents h k =
    let same : ◌≡◌ {A = Inputs} (Ok (b ∷ [])) (Ok texts) = h in
    let is : b ∷ [] ≡ texts = cc in
    subst (λ (t : List (List ℕ)). before_others b rest ≡ Ok (t ++ contents)) is (ap (before_others b) k)
one_read (Err r) rest texts contents h k = absurd (let bad : ◌≡◌ {A = Inputs} (Err r) (Ok texts) = h in cc)

pub both_read : (told : Option Files) (f : LinkPlacement) (names texts contents : List (List ℕ)) → AreInputs told (read_by f []) texts → AreInputs told names contents
    → AreInputs told (read_by f names) (texts ++ contents)
both_read None f names texts contents h k = tt
both_read (Some files) (placement.Scatter file) names texts contents h k = one_read (found_or file (content files file)) (inputs_of files names) texts contents h k
both_read (Some files) (placement.Aif base relocatable) names texts contents h k = subst (λ (t : List (List ℕ)). inputs_of files names ≡ Ok (t ++ contents)) (no_text texts h) k
both_read (Some files) (placement.Plain base) names texts contents h k = subst (λ (t : List (List ℕ)). inputs_of files names ≡ Ok (t ++ contents)) (no_text texts h) k

-- ---- where one can't be read

-- among those that are read first
reached_first : (told : Option Files) (f : LinkPlacement) (names : List (List ℕ)) (name : List ℕ) → IsReached told (read_by f []) name → IsReached told (read_by f names) name
reached_first told f names name r = record {
  front = r.front;
  rest = r.rest ++ names;
  names_are = all_of f ∙ (ap (λ (ns : List (List ℕ)). ns ++ names) r.names_are ∙ append_assoc r.front (name ∷ r.rest) names);
  contents = r.contents;
  read_before = r.read_before;
} where
  all_of : (f : LinkPlacement) → read_by f names ≡ read_by f [] ++ names
  all_of (placement.Scatter file) = refl
  all_of (placement.Aif base relocatable) = refl
  all_of (placement.Plain base) = refl

first_missing : (x : Result (List ℕ) Refusal) (rest : Inputs) (r : Refusal) → and_others x (Ok []) ≡ Err r → and_others x rest ≡ Err r
first_missing (Ok b) rest r h = absurd (let bad : ◌≡◌ {A = Inputs} (Ok (b ∷ [])) (Err r) = h in cc)
first_missing (Err q) rest r h = h

no_first_missing : (P : Type 0) (r : Refusal) → ◌≡◌ {A = Inputs} (Ok []) (Err r) → P
no_first_missing P r h = absurd (cc)

text_missing : (files : Files) (f : LinkPlacement) (names : List (List ℕ)) (r : Refusal) → inputs_of files (read_by f []) ≡ Err r → inputs_of files (read_by f names) ≡ Err r
text_missing files (placement.Scatter file) names r h = first_missing (found_or file (content files file)) (inputs_of files names) r h
text_missing files (placement.Aif base relocatable) names r h = no_first_missing (inputs_of files names ≡ Err r) r h
text_missing files (placement.Plain base) names r h = no_first_missing (inputs_of files names ≡ Err r) r h

pub text_unread : (e : InputEnd) (told : Option Files) (f : LinkPlacement) (names : List (List ℕ)) (one all : Type 0) → (one → all) → InputsEnd e told (read_by f []) one
    → InputsEnd e told (read_by f names) all
text_unread (end.Missing name) None f names one all more h = (more h.0, reached_first None f names name h.1)
text_unread (end.Missing name) (Some files) f names one all more h = text_missing files f names (Missing name) h
text_unread (end.Failed name) told f names one all more h = (more h.0, reached_first told f names name h.1)
text_unread end.NoMemory told f names one all more h = tt

-- among those behind them
reached_behind : (told : Option Files) (f : LinkPlacement) (names texts : List (List ℕ)) (name : List ℕ) → AreInputs told (read_by f []) texts → IsReached told names name
    → IsReached told (read_by f names) name
reached_behind told f names texts name h r = record {
  front = read_by f r.front;
  rest = r.rest;
  names_are = ap (read_by f) r.names_are ∙ split f;
  contents = texts ++ r.contents;
  read_before = both_read told f r.front texts r.contents h r.read_before;
} where
  split : (f : LinkPlacement) → read_by f (r.front ++ name ∷ r.rest) ≡ read_by f r.front ++ name ∷ r.rest
  split (placement.Scatter file) = refl
  split (placement.Aif base relocatable) = refl
  split (placement.Plain base) = refl

behind_missing : (x : Result (List ℕ) Refusal) (rest : Inputs) (texts : List (List ℕ)) (r : Refusal) → and_others x (Ok []) ≡ Ok texts → rest ≡ Err r → and_others x rest ≡ Err r
behind_missing (Ok b) rest texts r h k = ap (before_others b) k
behind_missing (Err q) rest texts r h k = absurd (let bad : ◌≡◌ {A = Inputs} (Err q) (Ok texts) = h in cc)

input_missing : (files : Files) (f : LinkPlacement) (names texts : List (List ℕ)) (r : Refusal) → inputs_of files (read_by f []) ≡ Ok texts → inputs_of files names ≡ Err r
    → inputs_of files (read_by f names) ≡ Err r
input_missing files (placement.Scatter file) names texts r h k = behind_missing (found_or file (content files file)) (inputs_of files names) texts r h k
input_missing files (placement.Aif base relocatable) names texts r h k = k
input_missing files (placement.Plain base) names texts r h k = k

pub input_unread : (e : InputEnd) (told : Option Files) (f : LinkPlacement) (names texts : List (List ℕ)) (one all : Type 0) → (one → all) → AreInputs told (read_by f []) texts
    → InputsEnd e told names one → InputsEnd e told (read_by f names) all
input_unread (end.Missing name) None f names texts one all more h k = (more k.0, reached_behind None f names texts name h k.1)
input_unread (end.Missing name) (Some files) f names texts one all more h k = input_missing files f names texts (Missing name) h k
input_unread (end.Failed name) told f names texts one all more h k = (more k.0, reached_behind told f names texts name h k.1)
input_unread end.NoMemory told f names texts one all more h k = tt
