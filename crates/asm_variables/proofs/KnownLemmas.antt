-- What an expression of expansion knows of names.
use Rattle.std.proofs.Common.{◌≡◌, ℕ, List, [], ◌∷◌, ◌++◌, Bool, true, false, cond, ◌||◌, refl, sym, ◌∙◌, ap, map, Option, Some, None}
use Rattle.std.specs.Option.{is_some}
use Rattle.std.specs.List.{list_any}
use Rattle.asm_model.specs.declared.names.LaidName.{LaidName}
use Rattle.asm_model.specs.declared.values.Value.{Value}
use Rattle.asm_model.specs.declared.values.Value.TheVariants.{Number}
use Rattle.asm_model.specs.Directives.{or_else}
use Rattle.asm_model.specs.Entries.{valued_entry}
use Rattle.asm_model.specs.Forms.{same}
use Rattle.asm_model.specs.Meaning.{named_in}
use Rattle.asm_model.proofs.WordLemmas.{same_true}
use Rattle.expand_model.specs.Known.{value_entries, variable_entries, number_entries, label_entries}
use Rattle.expand_model.specs.States.{Table, State, found, locals_of}
use Rattle.asm_variables.specs.declared.values.Visible.{Visible}
use Rattle.asm_variables.specs.declared.values.Visible.TheVariants as visible
use Rattle.asm_variables.specs.Known.{entries_in, all_entries, value_in, number_value}
use Rattle.asm_variables.proofs.MeaningLemmas.{NoAreas, no_areas_append}

named_append : (q : List ℕ) (xs ys : List LaidName) → named_in q (xs ++ ys) ≡ or_else (named_in q xs) (named_in q ys)
named_append q [] ys = refl
named_append q (n ∷ ns) ys = by (same n.name q) (named_append q ns ys)
  where
    by : (b : Bool) → named_in q (ns ++ ys) ≡ or_else (named_in q ns) (named_in q ys)
        → cond b (Some n) (named_in q (ns ++ ys)) ≡ or_else (cond b (Some n) (named_in q ns)) (named_in q ys)
    by true e = refl
    by false e = e

-- the entry of a value
abbrev pub entry_for : List ℕ → Option Value → Option LaidName
entry_for q None = None
entry_for q (Some v) = Some (valued_entry q v false)

named_values : (q : List ℕ) (rows : Table Value) → named_in q (value_entries rows) ≡ entry_for q (found q rows)
named_values q [] = refl
named_values q (row ∷ rows) = by (same row.0 q) refl (named_values q rows)
  where
    by : (b : Bool) → same row.0 q ≡ b → named_in q (value_entries rows) ≡ entry_for q (found q rows)
        → cond b (Some (valued_entry row.0 row.1 false)) (named_in q (value_entries rows)) ≡ entry_for q (cond b (Some row.1) (found q rows))
    by true e h = ap (λ (x : List ℕ). Some (valued_entry x row.1 false)) (same_true row.0 q e)
    by false e h = h

named_numbers : (q : List ℕ) (rows : Table ℕ) → named_in q (map (λ row. valued_entry row.0 (Number row.1) false) rows) ≡ entry_for q
    (number_value (found q rows))
named_numbers q [] = refl
named_numbers q (row ∷ rows) = by (same row.0 q) refl (named_numbers q rows)
  where
    by : (b : Bool) → same row.0 q ≡ b → named_in q (map (λ r. valued_entry r.0 (Number r.1) false) rows) ≡ entry_for q (number_value (found q rows))
        → cond b (Some (valued_entry row.0 (Number row.1) false)) (named_in q (map (λ r. valued_entry r.0 (Number r.1) false) rows))
        ≡ entry_for q (number_value (cond b (Some row.1) (found q rows)))
    by true e h = ap (λ (x : List ℕ). Some (valued_entry x (Number row.1) false)) (same_true row.0 q e)
    by false e h = h

either : (q : List ℕ) (a b : Option Value) → or_else (entry_for q a) (entry_for q b) ≡ entry_for q (or_else a b)
either q None b = refl
either q (Some v) b = refl

named_variables : (q : List ℕ) (s : State) → named_in q (variable_entries s) ≡ entry_for q (or_else (found q (locals_of s.scope)) (found q s.globals))
named_variables q s =
    named_append q (value_entries (locals_of s.scope)) (value_entries s.globals)
    ∙ ap (λ (o : Option LaidName). or_else o (named_in q (value_entries s.globals))) (named_values q (locals_of s.scope))
    ∙ ap (λ (o : Option LaidName). or_else (entry_for q (found q (locals_of s.scope))) o) (named_values q s.globals)
    ∙ either q (found q (locals_of s.scope)) (found q s.globals)

pub named_known : (v : Visible) (q : List ℕ) (s : State) → named_in q (entries_in v s) ≡ entry_for q (value_in v s q)
named_known visible.Everything q s =
    named_append q (variable_entries s) (number_entries s)
    ∙ ap (λ (o : Option LaidName). or_else o (named_in q (number_entries s))) (named_variables q s)
    ∙ ap (λ (o : Option LaidName). or_else (entry_for q (or_else (found q (locals_of s.scope)) (found q s.globals))) o) (named_numbers q s.numbers)
    ∙ either q (or_else (found q (locals_of s.scope)) (found q s.globals)) (number_value (found q s.numbers))
named_known visible.Numbers q s = named_numbers q s.numbers

some_entry : (q : List ℕ) (o : Option Value) → is_some (entry_for q o) ≡ is_some o
some_entry q None = refl
some_entry q (Some v) = refl

-- a name with an entry has a value
pub known_some : (v : Visible) (q : List ℕ) (s : State) → is_some (named_in q (entries_in v s)) ≡ is_some (value_in v s q)
known_some v q s = ap (λ (o : Option LaidName). is_some o) (named_known v q s) ∙ some_entry q (value_in v s q)

pub entry_some : (v : Visible) (q : List ℕ) (s : State) (value : Value) → Some value ≡ value_in v s q
    → Some (valued_entry q value false) ≡ named_in q (all_entries v s)
entry_some v q s value h =
    sym
    (named_append q (entries_in v s) (label_entries s)
    ∙ ap (λ (o : Option LaidName). or_else o (named_in q (label_entries s))) (named_known v q s ∙ ap (entry_for q) (sym h)))

pub entry_none : (v : Visible) (q : List ℕ) (s : State) → None ≡ value_in v s q → named_in q (label_entries s) ≡ named_in q (all_entries v s)
entry_none v q s h =
    sym
    (named_append q (entries_in v s) (label_entries s)
    ∙ ap (λ (o : Option LaidName). or_else o (named_in q (label_entries s))) (named_known v q s ∙ ap (entry_for q) (sym h)))

label_of : (q : List ℕ) (names : List (List ℕ)) → named_in q (map (λ name. valued_entry name (Number 0) false) names)
    ≡ cond (list_any (λ n. same n q) names) (Some (valued_entry q (Number 0) false)) None
label_of q [] = refl
label_of q (n ∷ ns) = by (same n q) refl (label_of q ns)
  where
    by : (b : Bool) → same n q ≡ b → named_in q (map (λ name. valued_entry name (Number 0) false) ns) ≡ cond (list_any (λ m. same m q) ns)
        (Some (valued_entry q (Number 0) false)) None
        → cond b (Some (valued_entry n (Number 0) false)) (named_in q (map (λ name. valued_entry name (Number 0) false) ns))
        ≡ cond (b || list_any (λ m. same m q) ns) (Some (valued_entry q (Number 0) false)) None
    by true e h = ap (λ (x : List ℕ). Some (valued_entry x (Number 0) false)) (same_true n q e)
    by false e h = h

pub named_label : (q : List ℕ) (s : State) → named_in q (label_entries s) ≡ cond (list_any (λ n. same n q) s.labels) (Some (valued_entry q (Number 0) false))
    None
named_label q s = label_of q s.labels

-- ---- no name stands in an area

no_value_areas : (rows : Table Value) → NoAreas (value_entries rows)
no_value_areas [] = tt
no_value_areas (row ∷ rows) = (refl, no_value_areas rows)

no_number_areas : (rows : Table ℕ) → NoAreas (map (λ row. valued_entry row.0 (Number row.1) false) rows)
no_number_areas [] = tt
no_number_areas (row ∷ rows) = (refl, no_number_areas rows)

no_label_areas : (names : List (List ℕ)) → NoAreas (map (λ name. valued_entry name (Number 0) false) names)
no_label_areas [] = tt
no_label_areas (n ∷ ns) = (refl, no_label_areas ns)

no_known_areas : (v : Visible) (s : State) → NoAreas (entries_in v s)
no_known_areas visible.Everything s =
    no_areas_append (variable_entries s) (number_entries s)
    (no_areas_append (value_entries (locals_of s.scope)) (value_entries s.globals) (no_value_areas (locals_of s.scope)) (no_value_areas s.globals))
    (no_number_areas s.numbers)
no_known_areas visible.Numbers s = no_number_areas s.numbers

pub no_areas : (v : Visible) (s : State) → NoAreas (all_entries v s)
no_areas v s = no_areas_append (entries_in v s) (label_entries s) (no_known_areas v s) (no_label_areas s.labels)
