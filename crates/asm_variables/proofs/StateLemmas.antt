-- States after a change, where the code has them.
use Rattle.std.proofs.Common.{◌≡◌, ℕ, List, ◌∷◌, true, false, cond, ◌&&◌, refl, sym, ◌∙◌, ap, Option, Some, None}
use Rattle.std.specs.Option.{is_some}
use Rattle.asm_model.specs.Forms.{same}
use Rattle.asm_model.specs.declared.values.Value.{Value}
use Rattle.expand_model.specs.States.{Table, Scope, State, found, with_row, locals_of, arguments_of, in_locals, declared_local, with_variable}
use Rattle.asm_variables.specs.Maps.{Map, value_named}
use Rattle.asm_variables.specs.declared.expansion.Expansion.{Expansion}
use Rattle.asm_variables.specs.Expanding.{Represents, Replaces}
use Rattle.asm_variables.specs.Variables.{HasTables}
use Rattle.asm_variables.proofs.MapLemmas.{found_with}

pub tables_of : (c : Expansion) (s : State) → Represents c s → HasTables c.tables s
tables_of c s r = record { globals = r.globals; locals = r.locals; arguments = r.arguments }

locals_in : (f : Table Value → Table Value) (o : Option Scope) → is_some o ≡ true → locals_of (in_locals f o) ≡ f (locals_of o)
locals_in f None h = absurd (cc)
locals_in f (Some c) h = refl

locals_with : (name : List ℕ) (v : Value) (o : Option Scope) → locals_of (in_locals (with_row name v) o) ≡ with_row name v (locals_of o)
locals_with name v None = refl
locals_with name v (Some c) = refl

arguments_in : (f : Table Value → Table Value) (o : Option Scope) → arguments_of (in_locals f o) ≡ arguments_of o
arguments_in f None = refl
arguments_in f (Some c) = refl

called_in : (f : Table Value → Table Value) (o : Option Scope) → is_some (in_locals f o) ≡ is_some o
called_in f None = refl
called_in f (Some c) = refl

abbrev with_locals : Expansion → Map Value → Expansion
with_locals c m = record c { tables = record c.tables { locals = m } }

abbrev with_globals : Expansion → Map Value → Expansion
with_globals c m = record c { tables = record c.tables { globals = m } }

pub local_declared : (c : Expansion) (m : Map Value) (name : List ℕ) (v : Value) → c.in_call ≡ true
    → ((q : List ℕ) → value_named m q ≡ cond (same name q) (Some v) (value_named c.tables.locals q))
    → (s : State) → Represents c s → Represents (with_locals c m) (declared_local name v s)
local_declared c m name v called h s r =
    let add : Table Value → Table Value = λ rows. (name, v) ∷ rows in
    let some : is_some s.scope ≡ true = sym r.called ∙ called in
    record {
      visits = r.visits;
      globals = r.globals;
      locals = λ q. h q ∙ ap (λ (o : Option Value). cond (same name q) (Some v) o) (r.locals q)
          ∙ ap (λ (rows : Table Value). found q rows) (sym (locals_in add s.scope some));
      arguments = λ q. r.arguments q ∙ ap (λ (rows : Table (List ℕ)). found q rows) (sym (arguments_in add s.scope));
      called = r.called ∙ sym (called_in add s.scope);
      macros = r.macros;
      flats = r.flats;
      numbers = r.numbers;
      labels = r.labels;
      thumb = r.thumb;
    }

replaced : (m : Map Value) (name : List ℕ) (v : Value) (old : Map Value) (rows : Table Value) → Replaces name v old m
    → ((q : List ℕ) → value_named old q ≡ found q rows) → (q : List ℕ) → value_named m q ≡ found q (with_row name v rows)
replaced m name v old rows h k q =
    h q
    ∙ ap (λ (o : Option Value). cond (same name q && is_some o) (Some v) (value_named old q)) (k name)
    ∙ ap (λ (o : Option Value). cond (same name q && is_some (found name rows)) (Some v) o) (k q)
    ∙ sym (found_with name v q rows)

pub local_set : (c : Expansion) (m : Map Value) (name : List ℕ) (v : Value) → is_some (value_named c.tables.locals name) ≡ true
    → Replaces name v c.tables.locals m → (s : State) → Represents c s → Represents (with_locals c m) (with_variable name v s)
local_set c m name v known h s r =
    let some : is_some (found name (locals_of s.scope)) ≡ true = sym (ap (λ (o : Option Value). is_some o) (r.locals name)) ∙ known in
    rw some
    (record {
      visits = r.visits;
      globals = r.globals;
      locals = λ q. replaced m name v c.tables.locals (locals_of s.scope) h r.locals q
          ∙ ap (λ (rows : Table Value). found q rows) (sym (locals_with name v s.scope));
      arguments = λ q. r.arguments q ∙ ap (λ (rows : Table (List ℕ)). found q rows) (sym (arguments_in (with_row name v) s.scope));
      called = r.called ∙ sym (called_in (with_row name v) s.scope);
      macros = r.macros;
      flats = r.flats;
      numbers = r.numbers;
      labels = r.labels;
      thumb = r.thumb;
    })

pub global_set : (c : Expansion) (m : Map Value) (name : List ℕ) (v : Value) → is_some (value_named c.tables.locals name) ≡ false
    → Replaces name v c.tables.globals m → (s : State) → Represents c s → Represents (with_globals c m) (with_variable name v s)
global_set c m name v unknown h s r =
    let none : is_some (found name (locals_of s.scope)) ≡ false = sym (ap (λ (o : Option Value). is_some o) (r.locals name)) ∙ unknown in
    rw none
    (record {
      visits = r.visits;
      globals = λ q. replaced m name v c.tables.globals s.globals h r.globals q;
      locals = r.locals;
      arguments = r.arguments;
      called = r.called;
      macros = r.macros;
      flats = r.flats;
      numbers = r.numbers;
      labels = r.labels;
      thumb = r.thumb;
    })
