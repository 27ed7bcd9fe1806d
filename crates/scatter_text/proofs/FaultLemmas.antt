-- What a fault that is told means.
use Rattle.std.proofs.Common.{◌≡◌, ◌∙◌, ℕ, ◌+◌, List, [], ◌∷◌, ◌++◌, true, cond, Option, Some, None, option_and_then, Result, Ok, Err, refl, ap, sym, subst, append_assoc, append-nil, inl, inr}
use Rattle.std.specs.Prelude.{codes, IfErr, is_some, ◌⊎◌}
use Rattle.sdt_fault.specs.declared.answer.Fault.{Fault}
use Rattle.sdt_fault.specs.declared.answer.Fault.TheVariants as fault
use Rattle.sdt_fault.specs.declared.kinds.ScatterKind.{ScatterKind}
use Rattle.sdt_fault.specs.declared.kinds.ScatterKind.TheVariants as kind
use Rattle.sdt_fault.specs.declared.refusal.Refusal.{Refusal}
use Rattle.sdt_fault.specs.declared.refusal.Refusal.TheVariants.{ScatterLine}
use Rattle.place_model.specs.declared.scatter.Scatter.{Scatter}
use Rattle.place_model.specs.declared.scatter.ScatterLoad.{ScatterLoad}
use Rattle.scatter_text.specs.declared.reading.Stage.{Stage}
use Rattle.scatter_text.specs.declared.reading.Stage.TheVariants.{Loads, LoadBase, LoadMax, LoadOpen, Regions, RegionBase, RegionMax, RegionOpen, Groups, Paren, Selector, Behind, Word, BehindEdge}
use Rattle.scatter_text.specs.declared.reading.Reader.{Reader}
use Rattle.scatter_text.specs.Parts.{Part, parts_of, line_count}
use Rattle.scatter_text.specs.Words.{told}
use Rattle.scatter_text.specs.Grammar.{AreOf, IsLoad}
use Rattle.scatter_text.specs.Validity.{Breaks}
use Rattle.scatter_text.specs.Reading.{beginning, at, shift, flaw, judged, step, behind, read, last, Reading, is_between_loads, refusal, scatter_of, Gives}
use Rattle.scatter_text.specs.Laws.{Begins, GoesOn, IsAtPart, IsCutOff, IsAtEnd, IsRefusalOf, FaultLaw, IsFaultOf}
use Rattle.scatter_text.proofs.Ends.{ends}
use Rattle.scatter_text.proofs.CompleteLemmas.{completes}
use Rattle.scatter_text.proofs.SpelledLemmas.{spelled}
use Rattle.scatter_text.proofs.ValidLemmas.{nonempty}
use Rattle.scatter_text.proofs.FineLemmas.{FineAt, begins_fine, step_fine, last_in}
use Rattle.scatter_text.proofs.SoundLemmas.{flaw_breaks}

-- ---- from each state some description is completed

abbrev pub sign : List ℕ → Part
sign text = record { line = 0; text = text }

-- the end of an execution region and its load region
abbrev pub two_ends : List Part
two_ends = sign (codes "}") ∷ sign (codes "}") ∷ []

abbrev pub ending : Stage → List Part
ending Loads = []
ending LoadBase = sign (codes "0") ∷ sign (codes "{") ∷ sign (codes "}") ∷ []
ending LoadMax = sign (codes "{") ∷ sign (codes "}") ∷ []
ending LoadOpen = sign (codes "{") ∷ sign (codes "}") ∷ []
ending Regions = sign (codes "}") ∷ []
ending RegionBase = sign (codes "0") ∷ sign (codes "{") ∷ two_ends
ending RegionMax = sign (codes "{") ∷ two_ends
ending RegionOpen = sign (codes "{") ∷ two_ends
ending Groups = two_ends
ending Paren = sign (codes "(") ∷ sign (codes "a") ∷ sign (codes ")") ∷ two_ends
ending Selector = sign (codes "a") ∷ sign (codes ")") ∷ two_ends
ending Behind = sign (codes ")") ∷ two_ends
ending Word = sign (codes "a") ∷ sign (codes ")") ∷ two_ends
ending BehindEdge = sign (codes ")") ∷ two_ends

ends_at : (stage : Stage) (s : Reader) → is_some (ends (at stage s) (ending stage)) ≡ true
unfolding shift
ends_at Loads s = refl
ends_at LoadBase s = refl
ends_at LoadMax s = refl
ends_at LoadOpen s = refl
ends_at Regions s = refl
ends_at RegionBase s = refl
ends_at RegionMax s = refl
ends_at RegionOpen s = refl
ends_at Groups s = refl
ends_at Paren s = refl
ends_at Selector s = refl
ends_at Behind s = refl
ends_at Word s = refl
ends_at BehindEdge s = refl

some_of : {X : Type 0} (o : Option X) → is_some o ≡ true → (x : X) × (o ≡ Some x)
some_of None h = absurd (cc)
some_of (Some x) h = (x, refl)

-- the parts lead from the beginning to the state
abbrev pub Leads : List Part → Reader → Type 0
Leads before s = (rest : List Part) → ends beginning (before ++ rest) ≡ ends s rest

leads_on : (before : List Part) (s : Reader) (p : Part) (t : Reader) → Leads before s → shift s p ≡ Some t → Leads (before ++ p ∷ []) t
leads_on before s p t l h rest = ap (ends beginning) (append_assoc before (p ∷ []) rest) ∙ l (p ∷ rest) ∙ ap (λ o. option_and_then (λ u. ends u rest) o) h

begun : (before : List Part) (s : Reader) → Leads before s → Begins before
begun before s l =
    let e = some_of (ends s (ending s.stage)) (ends_at s.stage s) in
    let c = completes (before ++ ending s.stage) beginning e.0 (l (ending s.stage) ∙ e.1) in
    (ending s.stage, c.0, c.1)

-- ---- a part at fault

judged_err : {X : Type 0} (f : Option ScatterKind) (o : Option X) (k : ScatterKind) → judged f o ≡ Err k → ((o ≡ None) × (kind.Syntax ≡ k)) ⊎ ((x : X) × (o ≡ Some x) × (f ≡ Some k))
judged_err f None k h = inl (refl, cc)
judged_err None (Some x) k h = absurd (cc)
judged_err (Some j) (Some x) k h = inr (x, refl, cc)

goes_on : (k : ScatterKind) (parts : List Part) → Begins parts → GoesOn k parts
goes_on kind.Syntax parts b = tt
goes_on kind.Number parts b = b
goes_on kind.DuplicateName parts b = b
goes_on kind.Unaligned parts b = b
goes_on kind.Empty parts b = b
goes_on kind.TooMany parts b = b

at_part : (before : List Part) (s : Reader) (p : Part) (qs : List Part) (k : ScatterKind) → Leads before s → FineAt s → step s p ≡ Err k → IsAtPart (before ++ p ∷ qs) p.line k
at_part before s p qs k l f h = by_kind (judged_err (flaw s p) (shift s p) k h) where
  stuck : shift s p ≡ None → (after : List Part) (loads : List ScatterLoad) → AreOf IsLoad loads (before ++ p ∷ after) → ⊥
  stuck e after loads are =
      let done : ends s (p ∷ after) ≡ Some loads = sym (l (p ∷ after)) ∙ spelled loads (before ++ p ∷ after) are in
      let none : ends s (p ∷ after) ≡ None = ap (λ o. option_and_then (λ u. ends u after) o) e in
      absurd (cc)

  breaks : (t : Reader) → shift s p ≡ Some t → flaw s p ≡ Some k → (after : List Part) (loads : List ScatterLoad) → AreOf IsLoad loads (before ++ p ∷ after) → Breaks k loads
  breaks t e j after loads are =
      let done : ends s (p ∷ after) ≡ Some loads = sym (l (p ∷ after)) ∙ spelled loads (before ++ p ∷ after) are in
      let next : ends s (p ∷ after) ≡ ends t after = ap (λ o. option_and_then (λ u. ends u after) o) e in
      flaw_breaks s p after loads t k f e (sym next ∙ done) j

  by_kind : ((shift s p ≡ None) × (kind.Syntax ≡ k)) ⊎ ((t : Reader) × (shift s p ≡ Some t) × (flaw s p ≡ Some k)) → IsAtPart (before ++ p ∷ qs) p.line k
  by_kind (inl (e, j)) = subst (λ x. IsAtPart (before ++ p ∷ qs) p.line x) j (record { before = before; part = p; behind = qs; all = refl; line_is = refl; begun = begun before s l; possible = tt; wrong = stuck e })
  by_kind (inr (t, e, j)) = record { before = before; part = p; behind = qs; all = refl; line_is = refl; begun = begun before s l; possible = goes_on k (before ++ p ∷ []) (begun (before ++ p ∷ []) t (leads_on before s p t l e)); wrong = breaks t e j }

-- ---- a text that ends early

same_err : {A B : Type 0} (x y : B) → ◌≡◌ {A = Result A B} (Err x) (Err y) → x ≡ y
same_err x y h = cc

pair_err : (a b : ℕ) (j k : ScatterKind) → ◌≡◌ {A = Reading} (Err (a, j)) (Err (b, k)) → (a ≡ b) × (j ≡ k)
pair_err a b j k h =
    let x : ℕ × ScatterKind = (a, j) in
    let y : ℕ × ScatterKind = (b, k) in
    let t : x ≡ y = same_err x y h in
    (ap (λ z. z.0) t, ap (λ z. z.1) t)

last_cut : (line : ℕ) (stage : Stage) (loads : List ScatterLoad) (parts : List Part) (n : ℕ) (k : ScatterKind)
    → ((more : List ScatterLoad) → AreOf IsLoad more parts → cond (is_between_loads stage) (Some loads) None ≡ Some more) → (cond (is_between_loads stage) (Some loads) None ≡ Some [] → parts ≡ [])
    → last_in stage line loads ≡ Err (n, k) → (n ≡ line) × IsCutOff k parts
last_cut line Loads [] parts n k never none h =
    let t = pair_err line n kind.Empty k h in
    (sym t.0, subst (λ x. IsCutOff x parts) t.1 (none refl))
last_cut line Loads (l ∷ loads) parts n k never none h = let e : ◌≡◌ {A = Reading} (Ok (l ∷ loads)) (Err (n, k)) = rw (nonempty l loads) at h in absurd (cc)
last_cut line other loads parts n k never none h =
    let t = pair_err line n kind.Syntax k h in
    (sym t.0, subst (λ x. IsCutOff x parts) t.1 (λ more are. absurd (let bad = never more are in cc)))

at_end : (line : ℕ) (s : Reader) (parts : List Part) (n : ℕ) (k : ScatterKind) → Leads parts s → last line s ≡ Err (n, k) → IsAtEnd parts line n k
unfolding last
at_end line s parts n k l h =
    let whole : ends beginning parts ≡ ends s [] = ap (ends beginning) (sym (append-nil parts)) ∙ l [] in
    let w = last_cut line s.stage s.loads parts n k
    (λ more are. sym whole ∙ spelled more parts are)
    (λ e. let c = completes parts beginning [] (whole ∙ e) in let none : c.0 ≡ [] = sym c.2 in subst (λ ls. AreOf IsLoad ls parts) none c.1) h in
    record { line_is = w.0; begun = begun parts s l; cut_off = w.1 }

-- ---- all parts

behind_err : (line : ℕ) (rest : Reader → Reading) (r : Result Reader ScatterKind) (n : ℕ) (k : ScatterKind) → behind line rest r ≡ Err (n, k) → ((t : Reader) × (r ≡ Ok t) × (rest t ≡ Err (n, k))) ⊎ ((r ≡ Err k) × (line ≡ n))
behind_err line rest (Ok t) n k h = inl (t, refl, h)
behind_err line rest (Err j) n k h = let t = pair_err line n j k h in inr (ap (λ x. Err x) t.1, t.0)

judged_ok : {X : Type 0} (f : Option ScatterKind) (o : Option X) (x : X) → judged f o ≡ Ok x → (f ≡ None) × (o ≡ Some x)
judged_ok f None x h = absurd (cc)
judged_ok None (Some y) x h = (refl, cc)
judged_ok (Some k) (Some y) x h = absurd (cc)

read_fault : (ps : List Part) (end : ℕ) (before : List Part) (s : Reader) (n : ℕ) (k : ScatterKind) → Leads before s → FineAt s → read end s ps ≡ Err (n, k) → IsAtPart (before ++ ps) n k ⊎ IsAtEnd (before ++ ps) end n k
read_fault [] end before s n k l f h = inr (subst (λ xs. IsAtEnd xs end n k) (sym (append-nil before)) (at_end end s before n k l h))
read_fault (p ∷ ps) end before s n k l f h = by_step (behind_err p.line (λ t. read end t ps) (step s p) n k h) (λ t lt ft k. read_fault ps end (before ++ p ∷ []) t n _ lt ft k) where
  by_step : ((t : Reader) × (step s p ≡ Ok t) × (read end t ps ≡ Err (n, k))) ⊎ ((step s p ≡ Err k) × (p.line ≡ n))
      → ((t : Reader) → Leads (before ++ p ∷ []) t → FineAt t → read end t ps ≡ Err (n, k) → IsAtPart ((before ++ p ∷ []) ++ ps) n k ⊎ IsAtEnd ((before ++ p ∷ []) ++ ps) end n k)
      → IsAtPart (before ++ p ∷ ps) n k ⊎ IsAtEnd (before ++ p ∷ ps) end n k
  by_step (inl (t, e, r)) more =
      let j = judged_ok (flaw s p) (shift s p) t e in
      subst (λ xs. IsAtPart xs n k ⊎ IsAtEnd xs end n k) (append_assoc before (p ∷ []) ps) (more t (leads_on before s p t l j.1) (step_fine s p t f j.1 j.0) r)
  by_step (inr (e, line)) more = inl (subst (λ m. IsAtPart (before ++ p ∷ ps) m k) line (at_part before s p ps k l f e))

told_err : (text : List ℕ) (x : Reading) (r : Refusal) → read (line_count text + 1) beginning (parts_of text) ≡ x → refusal x ≡ Err r → IsRefusalOf text r
told_err text (Ok loads) r e h = absurd (cc)
told_err text (Err (n, k)) r e h =
    let t : ScatterLine (told n) k ≡ r = cc in
    (n, k, sym t, read_fault (parts_of text) (line_count text + 1) [] beginning n k (λ rest. refl) begins_fine e)

pub fault_law : FaultLaw
fault_law text r h = told_err text (read (line_count text + 1) beginning (parts_of text)) r refl h

pub fault_in : (text : List ℕ) (r : Result Scatter Fault) → Gives r (scatter_of text) → IfErr r (IsFaultOf text)
fault_in text (Ok s) h = tt
fault_in text (Err fault.NoMemory) h = tt
fault_in text (Err (fault.Refused r)) h = fault_law text r h
fault_in text (Err (fault.ReadFault name)) h = h
