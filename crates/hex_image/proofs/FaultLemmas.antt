-- The line that is told is the first with which no image begins.
use Rattle.std.proofs.Common.{◌≡◌, ◌∙◌, ℕ, suc, ◌+◌, ◌⊎◌, inl, inr, List, [], ◌∷◌, ◌++◌, length, Bool, true, false, Result, Ok, Err, refl, sym, ap, arith, codes}
use Rattle.hex.proofs.OnLiterals.{hex_on_literals}
use Rattle.sdt_fault.specs.declared.kinds.RecordKind.{RecordKind}
use Rattle.sdt_fault.specs.declared.kinds.RecordKind.TheVariants.{Order}
use Rattle.hex_image.specs.declared.records.Burn.{Burn}
use Rattle.hex_image.specs.declared.records.Form.{Form}
use Rattle.hex_image.specs.declared.records.Form.TheVariants.{Ihex, Srec}
use Rattle.hex_image.specs.declared.records.Item.TheVariants.{End, EndAt}
use Rattle.hex_image.specs.Faults.{FirstFaultLaw}
use Rattle.hex_image.specs.Reading.{Reading, State, after, behind, by_flaw, first_state, read, with_line}
use Rattle.hex_image.proofs.ReadLemmas.{burn, shut, whole_by}

abbrev Lines : Type 0
Lines = List (List ℕ)

-- lines with which nothing is wrong, from one state to another
abbrev Passes : Form → State → Lines → State → Type 0
Passes form s [] t = s ≡ t
Passes form s (l ∷ ls) t = (u : State) × (with_line form s l ≡ Ok u) × Passes form u ls t

passed_on : (form : Form) (m : ℕ) (s : State) (ls : Lines) (t : State) (rest : Lines) → Passes form s ls t → read form m s (ls ++ rest) ≡ read form (m + length ls) t rest
passed_on form m s [] t rest h =
    let place : m ≡ m + 0 = omega arith in
    ap (λ (u : State). read form m u rest) h ∙ ap (λ (k : ℕ). read form k t rest) place
passed_on form m s (l ∷ ls) t rest h =
    let next : State → Reading = λ u. read form (m + 1) u (ls ++ rest) in
    let place : m + 1 + length ls ≡ m + suc (length ls) = omega arith in
    ap (behind m next) h.1 ∙ passed_on form (m + 1) h.0 ls t rest h.2 ∙ ap (λ (k : ℕ). read form k t rest) place

-- ---- where reading stops

record Stop (form : Form) (m : ℕ) (s : State) (ls : Lines) (n : ℕ) (kind : RecordKind) : Type 0 where
  front : Lines
  back : Lines
  at : State
  parts : ls ≡ front ++ back
  place : n ≡ m + length front
  passes : Passes form s front at
  ends : ((back ≡ []) × (at.ended ≡ false)) ⊎ ((l : List ℕ) × (others : Lines) × (back ≡ l ∷ others) × (with_line form at l ≡ Err kind))

abbrev line_of : Reading → ℕ
line_of (Ok b) = 0
line_of (Err e) = e.0

abbrev kind_of : Reading → RecordKind
kind_of (Ok b) = Order
kind_of (Err e) = e.1

abbrev bad : RecordKind → Result State RecordKind
bad kind = Err kind

stop_end : (form : Form) (m : ℕ) (s : State) (n : ℕ) (kind : RecordKind) (e : Bool) → s.ended ≡ e → whole_by m s e ≡ Err (n, kind) → Stop form m s [] n kind
stop_end form m s n kind true is h = absurd (cc)
stop_end form m s n kind false is h =
    let same : m ≡ n = ap line_of h in
    record { front = []; back = []; at = s; parts = refl; place = omega (arith, same); passes = refl; ends = inl (refl, is) }

abbrev Next : Form → ℕ → Lines → ℕ → RecordKind → Type 0
Next form m ls n kind = (u : State) → read form (m + 1) u ls ≡ Err (n, kind) → Stop form (m + 1) u ls n kind

stop_line : (form : Form) (m : ℕ) (s : State) (l : List ℕ) (ls : Lines) (n : ℕ) (kind : RecordKind) (r : Result State RecordKind) → Next form m ls n kind
    → with_line form s l ≡ r → behind m (λ u. read form (m + 1) u ls) r ≡ Err (n, kind) → Stop form m s (l ∷ ls) n kind
stop_line form m s l ls n kind (Err other) next is h =
    let same : m ≡ n = ap line_of h in
    let alike : other ≡ kind = ap kind_of h in
    record { front = []; back = l ∷ ls; at = s; parts = refl; place = omega (arith, same); passes = refl; ends = inr (l, ls, refl, is ∙ ap bad alike) }
stop_line form m s l ls n kind (Ok u) next is h =
    let stop = next u h in
    let place = stop.place in
    record {
      front = l ∷ stop.front;
      back = stop.back;
      at = stop.at;
      parts = ap (λ (xs : Lines). l ∷ xs) stop.parts;
      place = omega (arith, place);
      passes = (u, is, stop.passes);
      ends = stop.ends;
    }

stop_of : (form : Form) (m : ℕ) (s : State) (ls : Lines) (n : ℕ) (kind : RecordKind) → read form m s ls ≡ Err (n, kind) → Stop form m s ls n kind
stop_of form m s [] n kind h = stop_end form m s n kind s.ended refl h
stop_of form m s (l ∷ ls) n kind h = stop_line form m s l ls n kind (with_line form s l) (λ u e. stop_of form (m + 1) u ls n kind e) refl h

-- ---- an end record makes an image of what is read

abbrev end_line : Form → List ℕ
end_line Ihex = codes ":00000001FF"
end_line Srec = codes "S9030000FC"

abbrev ended_by : Form → State → State
ended_by Ihex s = after s End
ended_by Srec s = after s (EndAt 0)

end_read : (form : Form) (s : State) → s.ended ≡ false → with_line form s (end_line form) ≡ Ok (ended_by form s)
unfolding hex_on_literals
end_read Ihex s h = ap (by_flaw (after s End)) (shut s.ended h)
end_read Srec s h = ap (by_flaw (after s (EndAt 0))) (shut s.ended h)

ended : (form : Form) (n : ℕ) (s : State) → (b : Burn) × (read form n (ended_by form s) [] ≡ Ok b)
ended Ihex n s = (burn s.pieces s.start, refl)
ended Srec n s = (burn s.pieces 0, refl)

goes_on : (form : Form) (n : ℕ) (s : State) → (rest : Lines) × (b : Burn) × (read form n s rest ≡ Ok b)
goes_on form n s = by s.ended refl
  where
    by : (e : Bool) → s.ended ≡ e → (rest : Lines) × (b : Burn) × (read form n s rest ≡ Ok b)
    by true is = ([], burn s.pieces s.start, ap (whole_by n s) is)
    by false is =
        let next : State → Reading = λ u. read form (n + 1) u [] in
        let last = ended form (n + 1) s in
        (end_line form ∷ [], last.0, ap (behind n next) (end_read form s is) ∙ last.1)

-- ---- the law

pub first_fault : FirstFaultLaw
first_fault form ls n kind h =
    let stop = stop_of form 1 first_state ls n kind h in
    let place = stop.place in
    let more = goes_on form (1 + length stop.front) stop.at in
    record {
      front = stop.front;
      back = stop.back;
      parts = stop.parts;
      place = omega (arith, place);
      begins = (more.0, more.1, passed_on form 1 first_state stop.front stop.at more.0 stop.passes ∙ more.2);
      stops = λ l others rest b is e. refuted form (1 + length stop.front) stop.at l rest b kind (wrong form stop.at stop.back l others kind is stop.ends)
          (sym (passed_on form 1 first_state stop.front stop.at (l ∷ rest) stop.passes) ∙ e);
    }
  where
    wrong : (f : Form) (s : State) (back : Lines) (l : List ℕ) (others : Lines) (k : RecordKind) → back ≡ l ∷ others
        → ((back ≡ []) × (s.ended ≡ false)) ⊎ ((x : List ℕ) × (xs : Lines) × (back ≡ x ∷ xs) × (with_line f s x ≡ Err k)) → with_line f s l ≡ Err k
    wrong f s back l others k is (inl none) = absurd (let empty = none.0 in cc)
    wrong f s back l others k is (inr one) =
        let first = one.2 in
        let same : l ≡ one.0 = cc in
        ap (with_line f s) same ∙ one.3

    refuted : (f : Form) (m : ℕ) (s : State) (l : List ℕ) (rest : Lines) (b : Burn) (k : RecordKind) → with_line f s l ≡ Err k → read f m s (l ∷ rest) ≡ Ok b → ⊥
    refuted f m s l rest b k bad_line e =
        let next : State → Reading = λ u. read f (m + 1) u rest in
        let told : read f m s (l ∷ rest) ≡ Err (m, k) = ap (behind m next) bad_line in
        cc
