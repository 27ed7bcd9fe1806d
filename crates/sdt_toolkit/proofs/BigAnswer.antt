-- What make-big answers, by how its parts end.
use Rattle.std.proofs.Common.{◌≡◌, ◌≢◌, ℕ, ◌+◌, ◌-◌, ◌*◌, ◌/◌, ◌^◌, ◌<◌, ◌≤◌, Bool, true, List, [], ◌∷◌, ◌++◌, length, map, Option, None, Some, Result, Ok, Err, refl, sym, ap, ◌∙◌, subst, arith, inl, inr, append_assoc}
use Rattle.std.specs.Prelude.{codes}
use Rattle.std.specs.Fmt.{decimal}
use Rattle.std.specs.List.{AllByRecursion}
use Rattle.std.proofs.lemmas.Bool.Decides.{nat_tests}
use Rattle.base_lemmas.proofs.BaseLemmas.{or_true, true_or}
use Rattle.sdt_word.specs.declared.ranges.Range32.{Range32}
use Rattle.sdt_fault.specs.Digits.{hexadecimal}
use Rattle.sdt_fault.specs.declared.answer.Answer.{Answer}
use Rattle.sdt_fault.specs.declared.answer.Answer.TheVariants as answer
use Rattle.sdt_fault.specs.declared.answer.Fault.{Fault}
use Rattle.sdt_fault.specs.declared.answer.Fault.TheVariants as fault
use Rattle.sdt_fault.specs.declared.answer.Stop.{Stop}
use Rattle.sdt_fault.specs.declared.answer.Stop.TheVariants as stop
use Rattle.sdt_fault.specs.declared.refusal.Refusal.{Refusal}
use Rattle.sdt_outside.specs.Counts.{Rose}
use Rattle.sdt_outside.specs.Files.{IsWritten, files_of}
use Rattle.aof_object.specs.declared.records.Object.{Object}
use Rattle.aof_object.specs.Validity.{IsValid}
use Rattle.alf_archive.specs.declared.records.Archive.{Archive}
use Rattle.arm7_bus.specs.Meets.{IsNowhere}
use Rattle.arm7_bus.specs.Seats.{Seat, has_access}
use Rattle.arm7_bus.specs.States.{State}
use Rattle.arm7_transfers.specs.Ready.{IsReady}
use Rattle.run_opening.specs.declared.image.Image.{Image as RunImage}
use Rattle.run_opening.specs.declared.image.Load.{Load}
use Rattle.run_opening.specs.declared.image.Need.{Need}
use Rattle.run_opening.specs.Banks.{IsRoomy, two_have}
use Rattle.run_opening.specs.Openings.{AreNeeded, IsClosed, IsNeeded, IsOpening}
use Rattle.armasm_core.specs.Assembling.{AssembledFrom, Assembles, IsCaused}
use Rattle.armlink_core.specs.Images.{Links, scatter_linking}
use Rattle.link_model.specs.declared.images.Image.{Image}
use Rattle.link_model.specs.declared.images.LoadRegion.{LoadRegion}
use Rattle.link_model.specs.declared.placing.Region.{Region}
use Rattle.link_model.specs.declared.selection.Named.{Named}
use Rattle.link_model.specs.Chosen.{AreLinked}
use Rattle.big_faults.specs.Big.{big_object}
use Rattle.big_lines.specs.Lines.{BigIsShort}
use Rattle.big_model.specs.Sources.{big_text}
use Rattle.big_place.specs.Big.{big_description}
use Rattle.tool_answers.specs.Outcomes.{Outside, Writes}
use Rattle.tool_library.specs.Libraries.{fault_answer}
use Rattle.sdt_toolkit.specs.Big.{BigAnswers, BigImagesFit, BigImagesRun, HasEnded, HasRunBig, IsBigImage, PrintsLine, Reports, big_line, big_report, default_banks, first_words}
use Rattle.sdt_toolkit.specs.BigAccepts.{BigIsAssembled}
use Rattle.sdt_toolkit.specs.BigMade.{ImageIsMade, big_image, big_named}
use Rattle.sdt_toolkit.specs.BigStarts.{ImageStarts}
use Rattle.sdt_toolkit.specs.Inputs.{module_of}
use Rattle.sdt_toolkit.specs.RunImages.{load_need, load_of, needs_of, region_need, run_image}
use Rattle.sdt_toolkit.specs.Starting.{HasBytes}
use Rattle.sdt_toolkit.proofs.BigBuild.{is_built as built}

-- ---- the object

module _ (law : BigIsAssembled) (name text : List ℕ) (n : ℕ) (few : n ≤ 50000) (is : text ≡ big_text n) where
  assembled_so : (made : Result Object Refusal) → AssembledFrom (Some (files_of [])) name text made → made ≡ Ok (big_object n)
  assembled_so made h = law (files_of []) name n made few (subst (λ (t : List ℕ). AssembledFrom (Some (files_of [])) name t made) is h)

  pub object_is : (o : Object) → Assembles (Some (files_of [])) name text (Ok o) → o ≡ big_object n
  object_is o h = let same : ◌≡◌ {A = Result Object Refusal} (Ok o) (Ok (big_object n)) = assembled_so (Ok o) h in cc

  pub object_told : (o : Object) → Assembles (Some (files_of [])) name text (Ok o) → AssembledFrom (Some (files_of [])) name (big_text n) (Ok (big_object n))
  object_told o h =
      subst (λ (t : List ℕ). AssembledFrom (Some (files_of [])) name t (Ok (big_object n))) is
      (subst (λ (x : Object). AssembledFrom (Some (files_of [])) name text (Ok x)) (object_is o h) h)

  pub unassembled : (e : Fault) → Assembles (Some (files_of [])) name text (Err e) → IsCaused (Some (files_of [])) (Rose 0 0) e → e ≡ fault.NoMemory
  unassembled (fault.Refused r) h cause = absurd (let bad : ◌≡◌ {A = Result Object Refusal} (Err r) (Ok (big_object n)) = assembled_so (Err r) h in cc)
  unassembled (fault.ReadFault file) h cause = absurd (omega (arith, cause))
  unassembled fault.NoMemory h cause = refl

pub named_as : (name home : List ℕ) (n : ℕ) (x y : List ℕ) (o : Object) → x ≡ name → y ≡ home → o ≡ big_object n
    → record { name = x; «module» = y; value = o } ≡ big_named name home n
named_as name home n x y o e f g = rw (e, f, g) refl

pub words_are : (n : ℕ) → first_words (big_object n).areas ≡ n + 3
words_are n = omega arith

-- ---- the image

abbrev alone : List ℕ → ℕ → List (Named Object)
alone name n = big_named name (module_of name) n ∷ []

module _ (law : ImageIsMade) (name : List ℕ) (n : ℕ) (some : 1 ≤ n) (few : n ≤ 50000) where
  one_linked : (os : List (Named Object)) → AreLinked (alone name n) [] os → os ≡ alone name n
  one_linked os h = h.in_order

  pub link_is : scatter_linking big_description None (alone name n) ≡ Ok (big_image name (module_of name) n)
  link_is = law name (module_of name) n some few

  pub image_is : (i : Image) → Links (alone name n) [] (scatter_linking big_description None) (Ok i) → i ≡ big_image name (module_of name) n
  image_is i (os, linked, made) =
      let by_one : scatter_linking big_description None (alone name n) ≡ Ok i =
      subst (λ (xs : List (Named Object)). scatter_linking big_description None xs ≡ Ok i) (one_linked os linked) made in
      let same : ◌≡◌ {A = Result Image Refusal} (Ok (big_image name (module_of name) n)) (Ok i) = sym link_is ∙ by_one in cc

  pub unlinked : (e : Fault) → Links (alone name n) [] (scatter_linking big_description None) (Err e) → e ≡ fault.NoMemory
  unlinked (fault.Refused r) (os, linked, made) =
      let by_one : scatter_linking big_description None (alone name n) ≡ Err r =
      subst (λ (xs : List (Named Object)). scatter_linking big_description None xs ≡ Err r) (one_linked os linked) made in
      absurd (let bad : ◌≡◌ {A = Result Image Refusal} (Ok (big_image name (module_of name) n)) (Err r) = sym link_is ∙ by_one in cc)
  unlinked (fault.ReadFault file) h = absurd h
  unlinked fault.NoMemory h = refl

  -- by what the call was given
  module _ (os : List (Named Object)) (archives : List (Named Archive)) (text : List ℕ) (ram : Option (List Range32)) (e : os ≡ alone name n) (f : archives ≡ []) (g : text ≡ big_description)
      (none : ram ≡ None) where
    given : (x : Result Image Fault) → Links os archives (scatter_linking text ram) x → Links (alone name n) [] (scatter_linking big_description None) x
    given x links =
        subst (λ (xs : List (Named Object)). Links xs [] (scatter_linking big_description None) x) e
        (subst (λ (others : List (Named Archive)). Links os others (scatter_linking big_description None) x) f
        (subst (λ (t : List ℕ). Links os archives (scatter_linking t None) x) g (subst (λ (r : Option (List Range32)). Links os archives (scatter_linking text r) x) none links)))

    pub image_by : (i : Image) → Links os archives (scatter_linking text ram) (Ok i) → i ≡ big_image name (module_of name) n
    image_by i links = image_is i (given (Ok i) links)

    pub unlinked_by : (x : Fault) → Links os archives (scatter_linking text ram) (Err x) → x ≡ fault.NoMemory
    unlinked_by x links = unlinked x (given (Err x) links)

  pub is_built : BigIsAssembled → AssembledFrom (Some (files_of [])) name (big_text n) (Ok (big_object n)) → IsBigImage name n (big_image name (module_of name) n)
  is_built assembles told = record { assembled = told; only = λ files made h. assembles files name n made few h; linked = link_is; placed = refl; built = built assembles name n few (big_image name (module_of name) n) link_is }

-- ---- the image of a run

abbrev IsLow : Need → Type 0
IsLow r = r.base + r.size ≤ 0x01000000

regions_low : (regions : List Region) → AllByRecursion IsLow (map region_need regions) → AllByRecursion (λ r. r.length + r.zero ≤ 2 ^ 26) regions
regions_low [] h = tt
regions_low (r ∷ rs) h = (let one = h.0 in omega (arith, one), regions_low rs h.1)

behind_loads : (loads : List LoadRegion) (rest : List Need) → AllByRecursion IsLow (map load_need loads ++ rest) → AllByRecursion IsLow rest
behind_loads [] rest h = h
behind_loads (l ∷ ls) rest h = behind_loads ls rest h.1

pub regions_small : (i : Image) → AllByRecursion IsLow (needs_of i) → AllByRecursion (λ r. r.length + r.zero ≤ 2 ^ 26) i.regions
regions_small i h = regions_low i.regions (behind_loads i.loads (map region_need i.regions) h)

pub program_regions : ImageStarts → (name : List ℕ) (n : ℕ) → 1 ≤ n → n ≤ 50000 → IsValid (big_object n) → HasBytes (big_object n) → (i : Image) → i ≡ big_image name (module_of name) n
    → AllByRecursion (λ r. r.length + r.zero ≤ 2 ^ 26) i.regions
program_regions law name n some few valid bytes i is =
    subst (λ (x : Image). AllByRecursion (λ r. r.length + r.zero ≤ 2 ^ 26) x.regions) (sym is)
    (regions_small (big_image name (module_of name) n) (law name (module_of name) n some few valid bytes).low)

pub short_source : BigIsShort → (n : ℕ) → n ≤ 50000 → (source : List ℕ) → source ≡ big_text n → length source < 2 ^ 32
short_source law n few source is = let short = law n few in let same = ap (λ (t : List ℕ). length t) is in omega (arith, short, same)

pub load_more : (ls : List LoadRegion) (l : LoadRegion) (out : List Load) → out ≡ map load_of ls → out ++ load_of l ∷ [] ≡ map load_of (ls ++ l ∷ [])
load_more ls l out e = ap (λ (xs : List Load). xs ++ load_of l ∷ []) e ∙ sym (behind_all ls l)
  where
    behind_all : (front : List LoadRegion) (x : LoadRegion) → map load_of (front ++ x ∷ []) ≡ map load_of front ++ load_of x ∷ []
    behind_all [] x = refl
    behind_all (y ∷ front) x = ap (λ (xs : List Load). load_of y ∷ xs) (behind_all front x)

-- each load region lies in what it needs
itself : (a n : ℕ) → has_access a n a n ≡ true
itself a n = grind (arith, nat_tests)

one_more : (needs : List Need) (n : Need) (l : Load) → IsNeeded needs l → IsNeeded (n ∷ needs) l
one_more needs n l h = record { within = λ some. or_true (has_access n.base n.size l.base (length l.bytes)) _ (h.within some) }

all_more : (needs : List Need) (n : Need) (loads : List Load) → AllByRecursion (IsNeeded needs) loads → AllByRecursion (IsNeeded (n ∷ needs)) loads
all_more needs n [] h = tt
all_more needs n (l ∷ ls) h = (one_more needs n l h.0, all_more needs n ls h.1)

loads_needed : (loads : List LoadRegion) (others : List Need) → AllByRecursion (IsNeeded (map load_need loads ++ others)) (map load_of loads)
loads_needed [] others = tt
loads_needed (l ∷ ls) others = (
  record { within = λ some. true_or (has_access l.base (length l.bytes) l.base (length l.bytes)) _ (itself l.base (length l.bytes)) },
  all_more (map load_need ls ++ others) (load_need l) (map load_of ls) (loads_needed ls others),
)

pub image_needed : (i : Image) (x : RunImage) → x ≡ run_image i → AreNeeded x
image_needed i x e = subst AreNeeded (sym e) (loads_needed i.loads (map region_need i.regions))

-- ---- the report

line_joined : (n words steps sum : ℕ)
    → (((((((codes "big " ++ decimal n) ++ codes " words ") ++ decimal words) ++ codes " steps ") ++ decimal steps) ++ codes " sum ") ++ hexadecimal sum) ++ codes "\n" ≡ big_line n words steps sum
line_joined n words steps sum = simp append_assoc

-- by what a buffer holds behind each part
pub in_parts : (n words steps sum : ℕ) (a b c d e f g h i j : List ℕ) → a ≡ [] → b ≡ a ++ codes "big " → c ≡ b ++ decimal n → d ≡ c ++ codes " words " → e ≡ d ++ decimal words
    → f ≡ e ++ codes " steps " → g ≡ f ++ decimal steps → h ≡ g ++ codes " sum " → i ≡ h ++ hexadecimal sum → j ≡ i ++ codes "\n" → j ≡ big_line n words steps sum
in_parts n words steps sum a b c d e f g h i j ha hb hc hd he hf hg hh hi hj = rw (hj, hi, hh, hg, hf, he, hd, hc, hb, ha) (line_joined n words steps sum)

pub stops_otherwise : (why : Stop) (text : List ℕ) (before after : Option (List ℕ)) (rose : Type 0) (a : Answer) → why ≢ stop.Exit → Reports why text before after rose a
stops_otherwise stop.Exit text before after rose a h = absurd (h refl)
stops_otherwise other text before after rose a h = tt

-- ---- the answer

pub closed_answer : BigImagesFit → (name : List ℕ) (n : ℕ) → 1 ≤ n → n ≤ 50000 → IsValid (big_object n) → HasBytes (big_object n) → (o : Outside) (seats left : List Seat) (e : Fault)
    → o.after ≡ o.before → o.prints ≡ o.printed → left ≡ seats
    → IsClosed default_banks seats (run_image (big_image name (module_of name) n)) e → BigAnswers n name o seats left (fault_answer e)
closed_answer law name n some few valid bytes o seats left (fault.Refused r) files sink devices h =
    (law name (module_of name) n some few valid bytes seats r h, record { outside = record { files = files; sink = sink }; devices = devices })
closed_answer law name n some few valid bytes o seats left (fault.ReadFault file) files sink devices h = absurd h
closed_answer law name n some few valid bytes o seats left fault.NoMemory files sink devices h =
    inl (record { outside = record { files = files; sink = sink }; devices = devices })

pub no_memory : (name : List ℕ) (n : ℕ) (o : Outside) (seats : List Seat) (e : Fault) → e ≡ fault.NoMemory → o.after ≡ o.before → o.prints ≡ o.printed → BigAnswers n name o seats seats (fault_answer e)
no_memory name n o seats e is files sink =
    subst (λ (x : Fault). BigAnswers n name o seats seats (fault_answer x)) (sym is) (inl (record { outside = record { files = files; sink = sink }; devices = refl }))

pub unwritten : (name : List ℕ) (n : ℕ) (o : Outside) (seats left : List Seat) (a : Answer) → (a ≡ answer.Done → ⊥) → IsNowhere (two_have default_banks seats)
    → Writes name (big_text n) o.before o.after (Rose o.writes o.writes_now) a → o.prints ≡ o.printed → left ≡ seats → BigAnswers n name o seats left a
unwritten name n o seats left answer.Done other apart h sink devices = absurd (other refl)
unwritten name n o seats left (answer.WriteFault q) other apart h sink devices = (apart, h.0, h.1, h.2, sink, devices)
unwritten name n o seats left answer.NoMemory other apart h sink devices = inl (record { outside = record { files = h; sink = sink }; devices = devices })
unwritten name n o seats left (answer.Refused r) other apart h sink devices = absurd h
unwritten name n o seats left (answer.ReadFault q) other apart h sink devices = absurd h
unwritten name n o seats left answer.SinkFault other apart h sink devices = absurd h
unwritten name n o seats left (answer.Stopped why) other apart h sink devices = absurd h

told : (name : List ℕ) (n : ℕ) (o : Outside) (seats left : List Seat) → HasRunBig n name o seats left
    → (a : Answer) → PrintsLine (big_report n) o.printed o.prints (Rose o.faults o.faults_now) a → BigAnswers n name o seats left a
told name n o seats left ran answer.Done h = (ran, h)
told name n o seats left ran answer.SinkFault h = (ran, h.0, h.1)
told name n o seats left ran answer.NoMemory h = inr (ran, h)
told name n o seats left ran (answer.Refused r) h = absurd h
told name n o seats left ran (answer.ReadFault q) h = absurd h
told name n o seats left ran (answer.WriteFault q) h = absurd h
told name n o seats left ran (answer.Stopped why) h = absurd h

pub reported : BigImagesRun → (name : List ℕ) (n : ℕ) → 1 ≤ n → n ≤ 50000 → IsValid (big_object n) → HasBytes (big_object n) → IsBigImage name n (big_image name (module_of name) n)
    → (o : Outside) (seats left : List Seat) (begin : State) (why : Stop) (words steps sum : ℕ) (a : Answer)
    → IsRoomy default_banks seats (needs_of (big_image name (module_of name) n)) → IsOpening default_banks (run_image (big_image name (module_of name) n)) seats begin → IsReady begin
    → IsWritten o.before o.after name (big_text n) → HasEnded (big_image name (module_of name) n).start n begin why steps sum left → words ≡ n + 3
    → Reports why (big_line n words steps sum) o.printed o.prints (Rose o.faults o.faults_now) a → BigAnswers n name o seats left a
reported law name n some few valid bytes built o seats left begin why words steps sum a roomy opening ready written ended are h =
    let outcome = law name (module_of name) n some few valid bytes seats left begin why steps sum roomy opening ready ended in
    let rose : Type 0 = Rose o.faults o.faults_now in
    let by_exit : PrintsLine (big_line n words steps sum) o.printed o.prints rose a =
    subst (λ (w : Stop). Reports w (big_line n words steps sum) o.printed o.prints rose a) outcome.exits h in
    let code : ℕ = first_words (big_object n).areas in
    let by_words = subst (λ (k : ℕ). PrintsLine (big_line n k steps sum) o.printed o.prints rose a) (are ∙ sym (words_are n)) by_exit in
    let by_steps = subst (λ (k : ℕ). PrintsLine (big_line n code k sum) o.printed o.prints rose a) outcome.count by_words in
    let by_sum = subst (λ (k : ℕ). PrintsLine (big_line n code (n + 3) k) o.printed o.prints rose a) outcome.total by_steps in
    told name n o seats left (record { image = big_image name (module_of name) n; is_image = built; ran = outcome.ran; written = written }) a by_sum
