-- What the refusals of names say, and that where there is none, no name is exported twice.
use Rattle.std.proofs.Common.{◌≡◌, ℕ, zero, suc, ◌<◌, Bool, true, false, cond, ◌||◌, true≢false, List, [], ◌∷◌, Option, Some, None, Result, Ok, Err, refl, sym, ap, ◌∙◌, subst, inl, inr, arith}
use Rattle.std.specs.Prelude.{IfOk, IsSomeAnd, slice_get}
use Rattle.std.specs.List.{find}
use Rattle.std.specs.Option.{option_or, option_map}
use Rattle.std.specs.Str.{bytes_eq}
use Rattle.std.proofs.lemmas.Slice.Eq.{bytes_eq-Decides}
use Rattle.sdt_fault.specs.declared.answer.Fault.{Fault}
use Rattle.sdt_fault.specs.declared.refusal.Refusal.{Refusal}
use Rattle.sdt_fault.specs.declared.refusal.Refusal.TheVariants.{Duplicate, Undefined}
use Rattle.chunk_file.specs.Reading.{◌>>=◌, Gives}
use Rattle.aof_object.specs.declared.records.Object.{Object}
use Rattle.aof_object.specs.declared.records.Symbol.{Symbol}
use Rattle.aof_object.specs.Names.{among}
use Rattle.aof_object.specs.Checks.{is_exported}
use Rattle.aof_object.specs.Objects.{exported}
use Rattle.link_model.specs.declared.selection.Named.{Named}
use Rattle.link_model.specs.declared.selection.Linked.{Linked}
use Rattle.link_model.specs.declared.selection.LinkedEntry.{LinkedEntry}
use Rattle.link_model.specs.Definitions.{definitions_from}
use Rattle.link_model.specs.Options.{first_given}
use Rattle.link_model.specs.Chosen.{exports, is_needed}
use Rattle.link_model.specs.Meaning.{symbol_of}
use Rattle.link_model.specs.Members.{objects_in}
use Rattle.link_select.specs.Exports.{clash, duplicate}
use Rattle.link_select.specs.Undefined.{is_known, lacking, lacking_in, undefined}
use Rattle.link_select.specs.Selection.{refused, judged, selection_of}
use Rattle.link_select.specs.Laws.{ExportsAt, ExportsLater, AreDefinedOnce, IsBefore, IsClash, FirstClash, SaysDuplicate, DuplicateLaw, IsLacking, FirstLacking, SaysUndefined, UndefinedLaw}
use Rattle.link_select.proofs.SelectionLemmas.{selected_link}

-- ---- the first item of which something is given

record GivenAt {A B : Type 0} (f : A → Option B) (xs : List A) (y : B) : Type 0 where
  place : ℕ
  item : A
  there : slice_get xs place ≡ Some item
  gives : f item ≡ Some y
  first : (n : ℕ) (x : A) → n < place → slice_get xs n ≡ Some x → f x ≡ None

given_at : {A B : Type 0} (f : A → Option B) (xs : List A) (y : B) → first_given f xs ≡ Some y → GivenAt f xs y
given_at f [] y h = absurd (cc)
given_at f (x ∷ xs) y h = by (f x) refl h (λ e. given_at f xs y e)
  where
    later : f x ≡ None → GivenAt f xs y → GivenAt f (x ∷ xs) y
    later none g = record {
      place = suc g.place;
      item = g.item;
      there = g.there;
      gives = g.gives;
      first = before;
    }
      where
        before : (n : ℕ) (z : _) → n < suc g.place → slice_get (x ∷ xs) n ≡ Some z → f z ≡ None
        before zero z lt e = let same : x ≡ z = cc in sym (ap f same) ∙ none
        before (suc n) z lt e = g.first n z (omega arith) e

    by : (o : Option _) → f x ≡ o → option_or o (first_given f xs) ≡ Some y → (first_given f xs ≡ Some y → GivenAt f xs y) → GivenAt f (x ∷ xs) y
    by None e g rest = later e (rest g)
    by (Some z) e g rest = record { place = 0; item = x; there = refl; gives = e ∙ g; first = λ n w lt there. absurd (omega arith) }

given_none : {A B : Type 0} (f : A → Option B) (xs : List A) → first_given f xs ≡ None → (n : ℕ) (x : A) → slice_get xs n ≡ Some x → f x ≡ None
given_none f [] h n x e = absurd (cc)
given_none f (y ∷ ys) h n x e = by (f y) refl h (λ g m there. given_none f ys g m x there) n e
  where
    by : (o : Option _) → f y ≡ o → option_or o (first_given f ys) ≡ None → (first_given f ys ≡ None → (m : ℕ) → slice_get ys m ≡ Some x → f x ≡ None)
        → (n : ℕ) → slice_get (y ∷ ys) n ≡ Some x → f x ≡ None
    by (Some z) none g rest n e = absurd (cc)
    by None none g rest zero e = let same : y ≡ x = cc in sym (ap f same) ∙ none
    by None none g rest (suc n) e = rest g n e

none_parts : {B : Type 0} (o p : Option B) → option_or o p ≡ None → (o ≡ None) × (p ≡ None)
none_parts None p h = (refl, h)
none_parts (Some x) p h = absurd (cc)

-- ---- a symbol of named objects

record SymbolThere (os : List (Named Object)) (m n : ℕ) (P : Symbol → Type 0) : Type 0 where
  object : Named Object
  symbol : Symbol
  one : slice_get os m ≡ Some object
  there : slice_get object.value.symbols n ≡ Some symbol
  holds : P symbol

symbol_there : (os : List (Named Object)) (m n : ℕ) (P : Symbol → Type 0) → IsSomeAnd (symbol_of (objects_in os) m n) P → SymbolThere os m n P
symbol_there [] m n P h = absurd h
symbol_there (o ∷ os) zero n P h = by (slice_get o.value.symbols n) refl h
  where
    by : (s : Option Symbol) → slice_get o.value.symbols n ≡ s → IsSomeAnd s P → SymbolThere (o ∷ os) 0 n P
    by None e g = absurd g
    by (Some s) e g = record { object = o; symbol = s; one = refl; there = e; holds = g }
symbol_there (o ∷ os) (suc m) n P h = let r = symbol_there os m n P h in record { object = r.object; symbol = r.symbol; one = r.one; there = r.there; holds = r.holds }

-- ---- names without a meaning

lacking_here : (known : List ℕ → Bool) (name : List ℕ) (s : Symbol) → lacking known name s ≡ None → is_needed s.attributes ≡ true → known s.name ≡ false → ⊥
lacking_here known name s h needed unknown =
    let e : Some (Undefined s.name name) ≡ None = (λ i. cond (sym needed i) (cond (sym unknown i) None (Some (Undefined s.name name))) None) ∙ h in cc

lacking_says : (known : List ℕ → Bool) (name : List ℕ) (s : Symbol) (r : Refusal) → lacking known name s ≡ Some r
    → (is_needed s.attributes ≡ true) × (known s.name ≡ false) × (r ≡ Undefined s.name name)
lacking_says known name s r h = by (is_needed s.attributes) (known s.name) h
  where
    by : (a b : Bool) → ◌≡◌ {A = Option Refusal} (cond a (cond b None (Some (Undefined s.name name))) None) (Some r) → (a ≡ true) × (b ≡ false) × (r ≡ Undefined s.name name)
    by true false e = let f : Undefined s.name name ≡ r = cc in (refl, refl, sym f)
    by true true e = absurd (cc)
    by false b e = absurd (cc)

pub none_lacks : (regions : Option (List (List ℕ))) (os : List (Named Object)) → undefined regions os ≡ None → (i k : ℕ) → IsLacking (is_known regions (objects_in os)) (objects_in os) i k → ⊥
none_lacks regions os h i k lacks =
    let known = is_known regions (objects_in os) in
    let at = symbol_there os i k (λ s. (is_needed s.attributes ≡ true) × (known s.name ≡ false)) lacks in
    let none = given_none (lacking_in known) os h i at.object at.one in
    lacking_here known at.object.name at.symbol (given_none (lacking known at.object.name) at.object.value.symbols none k at.symbol at.there) at.holds.0 at.holds.1

lacks_some : (known : List ℕ → Bool) (os : List (Named Object)) (r : Refusal) → first_given (lacking_in known) os ≡ Some r → FirstLacking known os r
lacks_some known os r h =
    let o = given_at (lacking_in known) os r h in
    let s = given_at (lacking known o.item.name) o.item.value.symbols r o.gives in
    let says = lacking_says known o.item.name s.item r s.gives in
    record {
      i = o.place;
      k = s.place;
      object = o.item;
      symbol = s.item;
      one = o.there;
      there = s.there;
      needs = says.0;
      unknown = says.1;
      says = says.2;
      earliest = λ m n before lacks. earlier o s m n before (symbol_there os m n (λ t. (is_needed t.attributes ≡ true) × (known t.name ≡ false)) lacks);
    }
  where
    earlier : (o : GivenAt (lacking_in known) os r) (s : GivenAt (lacking known o.item.name) o.item.value.symbols r) (m n : ℕ) → IsBefore m n o.place s.place
        → SymbolThere os m n (λ t. (is_needed t.attributes ≡ true) × (known t.name ≡ false)) → ⊥
    earlier o s m n (inl lt) at =
        lacking_here known at.object.name at.symbol (given_none (lacking known at.object.name) at.object.value.symbols (o.first m at.object lt at.one) n at.symbol at.there) at.holds.0 at.holds.1
    earlier o s m n (inr (same, lt)) at =
        let own : at.object ≡ o.item = let e : Some at.object ≡ Some o.item = sym at.one ∙ ap (slice_get os) same ∙ o.there in cc in
        let there : slice_get o.item.value.symbols n ≡ Some at.symbol = ap (λ (p : Named Object). slice_get p.value.symbols n) (sym own) ∙ at.there in
        lacking_here known o.item.name at.symbol (s.first n at.symbol lt there) at.holds.0 at.holds.1

pub undefined_law : UndefinedLaw
undefined_law regions os = by (undefined regions os) refl
  where
    by : (d : Option Refusal) → undefined regions os ≡ d → SaysUndefined (is_known regions (objects_in os)) os d
    by None e = none_lacks regions os e
    by (Some r) e = lacks_some (is_known regions (objects_in os)) os r e

-- ---- objects that export a name

none_found : (q : List ℕ) (os : List (Named Object)) (j : ℕ) → find (λ o. exports o.value q) os ≡ None → ExportsAt (objects_in os) q j → ⊥
none_found q [] j h e = e
none_found q (o ∷ os) zero h e = let f : Some o ≡ None = ap (λ (b : Bool). cond b (Some o) (find (λ p. exports p.value q) os)) (sym e) ∙ h in cc
none_found q (o ∷ os) (suc k) h e = by (exports o.value q) h (λ g. none_found q os k g e)
  where
    by : (b : Bool) → cond b (Some o) (find (λ p. exports p.value q) os) ≡ None → (find (λ p. exports p.value q) os ≡ None → ⊥) → ⊥
    by true g rest = cc
    by false g rest = rest g

record FoundAt (q : List ℕ) (os : List (Named Object)) (p : Named Object) : Type 0 where
  place : ℕ
  there : slice_get os place ≡ Some p
  defines : exports p.value q ≡ true
  first : (m : ℕ) → m < place → ExportsAt (objects_in os) q m → ⊥

found_at : (q : List ℕ) (os : List (Named Object)) (p : Named Object) → find (λ o. exports o.value q) os ≡ Some p → FoundAt q os p
found_at q [] p h = absurd (cc)
found_at q (o ∷ os) p h = by (exports o.value q) refl h (λ e. found_at q os p e)
  where
    later : exports o.value q ≡ false → FoundAt q os p → FoundAt q (o ∷ os) p
    later absent f = record { place = suc f.place; there = f.there; defines = f.defines; first = before }
      where
        before : (m : ℕ) → m < suc f.place → ExportsAt (objects_in (o ∷ os)) q m → ⊥
        before zero lt e = true≢false (sym e ∙ absent)
        before (suc m) lt e = f.first m (omega arith) e

    by : (b : Bool) → exports o.value q ≡ b → cond b (Some o) (find (λ r. exports r.value q) os) ≡ Some p → (find (λ r. exports r.value q) os ≡ Some p → FoundAt q os p) → FoundAt q (o ∷ os) p
    by true e f rest =
        let same : o ≡ p = cc in
        record { place = 0; there = ap Some same; defines = ap (λ (r : Named Object). exports r.value q) (sym same) ∙ e; first = λ m lt there. absurd (omega arith) }
    by false e f rest = later e (rest f)

-- ---- one object and those behind it

unmapped : {A B : Type 0} (f : A → B) (o : Option A) → option_map f o ≡ None → o ≡ None
unmapped f None h = refl
unmapped f (Some x) h = absurd (cc)

clash_here : (name : List ℕ) (later : List (Named Object)) (s : Symbol) → clash name later s ≡ None → is_exported s.attributes ≡ true → find (λ o. exports o.value s.name) later ≡ None
clash_here name later s h is =
    unmapped (λ o. Duplicate s.name name o.name) (find (λ o. exports o.value s.name) later)
    (ap (λ (b : Bool). cond b (option_map (λ o. Duplicate s.name name o.name) (find (λ o. exports o.value s.name) later)) None) (sym is) ∙ h)

record ClashSays (name : List ℕ) (later : List (Named Object)) (s : Symbol) (r : Refusal) : Type 0 where
  other : Named Object
  defines : is_exported s.attributes ≡ true
  found : find (λ o. exports o.value s.name) later ≡ Some other
  says : r ≡ Duplicate s.name name other.name

clash_says : (name : List ℕ) (later : List (Named Object)) (s : Symbol) (r : Refusal) → clash name later s ≡ Some r → ClashSays name later s r
clash_says name later s r h = by (is_exported s.attributes) (find (λ o. exports o.value s.name) later) refl refl h
  where
    by : (b : Bool) (f : Option (Named Object)) → is_exported s.attributes ≡ b → find (λ o. exports o.value s.name) later ≡ f
        → cond b (option_map (λ o. Duplicate s.name name o.name) f) None ≡ Some r → ClashSays name later s r
    by true (Some p) is e g = let same : Duplicate s.name name p.name ≡ r = cc in record { other = p; defines = is; found = e; says = sym same }
    by true None is e g = absurd (cc)
    by false f is e g = absurd (cc)

-- no symbol of the first object, up to a number, that a later one exports
none_clashes : (o : Named Object) (os : List (Named Object)) (n : ℕ) (s : Symbol) → slice_get o.value.symbols n ≡ Some s → clash o.name os s ≡ None → IsClash (objects_in (o ∷ os)) 0 n → ⊥
none_clashes o os n s there none h =
    let Clashes : Option Symbol → Type 0 = λ t. IsSomeAnd t (λ u. (is_exported u.attributes ≡ true) × ExportsLater (objects_in (o ∷ os)) u.name 0) in
    let (is, later) = subst Clashes there h in
    behind later.0 later.1 later.2 (clash_here o.name os s none is)
  where
    behind : (j : ℕ) → 0 < j → ExportsAt (objects_in (o ∷ os)) s.name j → find (λ p. exports p.value s.name) os ≡ None → ⊥
    behind zero lt e none = omega arith
    behind (suc j) lt e none = none_found s.name os j none e

-- a clash of later objects
clash_back : (o : Named Object) (os : List (Named Object)) (m n : ℕ) → IsClash (objects_in (o ∷ os)) (suc m) n → IsClash (objects_in os) m n
clash_back o os m n h = by (symbol_of (objects_in os) m n) h
  where
    back : (q : List ℕ) (j : ℕ) → suc m < j → ExportsAt (objects_in (o ∷ os)) q j → ExportsLater (objects_in os) q m
    back q zero lt e = absurd (omega arith)
    back q (suc j) lt e = (j, omega arith, e)

    by : (s : Option Symbol) → IsSomeAnd s (λ u. (is_exported u.attributes ≡ true) × ExportsLater (objects_in (o ∷ os)) u.name (suc m))
        → IsSomeAnd s (λ u. (is_exported u.attributes ≡ true) × ExportsLater (objects_in os) u.name m)
    by None e = e
    by (Some s) (is, later) = (is, back s.name later.0 later.1 later.2)

first_here : (o : Named Object) (os : List (Named Object)) (r : Refusal) → GivenAt (clash o.name os) o.value.symbols r → FirstClash (o ∷ os) r
first_here o os r g =
    let says = clash_says o.name os g.item r g.gives in
    let at = found_at g.item.name os says.other says.found in
    record {
      i = 0;
      k = g.place;
      j = suc at.place;
      first = o;
      second = says.other;
      symbol = g.item;
      one = refl;
      other = at.there;
      in_order = omega arith;
      there = g.there;
      defines = says.defines;
      defines_too = at.defines;
      says = says.says;
      nearest = nearest at.place at.first;
      earliest = earliest;
    }
  where
    nearest : (place : ℕ) → ((m : ℕ) → m < place → ExportsAt (objects_in os) g.item.name m → ⊥) → (m : ℕ) → 0 < m → m < suc place → ExportsAt (objects_in (o ∷ os)) g.item.name m → ⊥
    nearest place none zero lt below e = omega arith
    nearest place none (suc m) lt below e = none m (omega arith) e

    earliest : (m n : ℕ) → IsBefore m n 0 g.place → IsClash (objects_in (o ∷ os)) m n → ⊥
    earliest m n (inl lt) h = omega arith
    earliest m n (inr (same, lt)) h =
        let here : IsClash (objects_in (o ∷ os)) 0 n = subst (λ (x : ℕ). IsClash (objects_in (o ∷ os)) x n) same h in
        by (slice_get o.value.symbols n) refl here
      where
        by : (s : Option Symbol) → slice_get o.value.symbols n ≡ s → IsClash (objects_in (o ∷ os)) 0 n → ⊥
        by None e h =
            let Clashes : Option Symbol → Type 0 = λ t. IsSomeAnd t (λ u. (is_exported u.attributes ≡ true) × ExportsLater (objects_in (o ∷ os)) u.name 0) in subst Clashes e h
        by (Some s) e h = none_clashes o os n s e (g.first n s lt e) h

first_behind : (o : Named Object) (os : List (Named Object)) (r : Refusal) → first_given (clash o.name os) o.value.symbols ≡ None → FirstClash os r → FirstClash (o ∷ os) r
first_behind o os r none f = record {
  i = suc f.i;
  k = f.k;
  j = suc f.j;
  first = f.first;
  second = f.second;
  symbol = f.symbol;
  one = f.one;
  other = f.other;
  in_order = let lt = f.in_order in omega arith;
  there = f.there;
  defines = f.defines;
  defines_too = f.defines_too;
  says = f.says;
  nearest = nearest;
  earliest = earliest;
}
  where
    nearest : (m : ℕ) → suc f.i < m → m < suc f.j → ExportsAt (objects_in (o ∷ os)) f.symbol.name m → ⊥
    nearest zero lt below e = omega arith
    nearest (suc m) lt below e = f.nearest m (omega arith) (omega arith) e

    shifted : (m n : ℕ) → IsBefore (suc m) n (suc f.i) f.k → IsBefore m n f.i f.k
    shifted m n (inl lt) = inl (omega arith)
    shifted m n (inr (same, lt)) = inr (omega arith, lt)

    earliest : (m n : ℕ) → IsBefore m n (suc f.i) f.k → IsClash (objects_in (o ∷ os)) m n → ⊥
    earliest zero n before h = by (slice_get o.value.symbols n) refl h
      where
        by : (s : Option Symbol) → slice_get o.value.symbols n ≡ s → IsClash (objects_in (o ∷ os)) 0 n → ⊥
        by None e h =
            let Clashes : Option Symbol → Type 0 = λ t. IsSomeAnd t (λ u. (is_exported u.attributes ≡ true) × ExportsLater (objects_in (o ∷ os)) u.name 0) in subst Clashes e h
        by (Some s) e h = none_clashes o os n s e (given_none (clash o.name os) o.value.symbols none n s e) h
    earliest (suc m) n before h = f.earliest m n (shifted m n before) (clash_back o os m n h)

says_some : (os : List (Named Object)) (r : Refusal) → duplicate os ≡ Some r → FirstClash os r
says_some [] r h = absurd (cc)
says_some (o ∷ os) r h = by (first_given (clash o.name os) o.value.symbols) refl h (λ e. says_some os r e)
  where
    by : (g : Option Refusal) → first_given (clash o.name os) o.value.symbols ≡ g → option_or g (duplicate os) ≡ Some r → (duplicate os ≡ Some r → FirstClash os r) → FirstClash (o ∷ os) r
    by None e f rest = first_behind o os r e (rest f)
    by (Some x) e f rest = first_here o os r (given_at (clash o.name os) o.value.symbols r (e ∙ f))

-- ---- where none is exported twice

no_other : (name q : List ℕ) (later : List (Named Object)) (ss : List Symbol) → first_given (clash name later) ss ≡ None → among q (exported ss) ≡ true → find (λ o. exports o.value q) later ≡ None
no_other name q later [] a h = absurd (true≢false (sym h))
no_other name q later (s ∷ ss) a h =
    let parts = none_parts (clash name later s) (first_given (clash name later) ss) a in
    by (is_exported s.attributes) refl parts.0 h (λ e. no_other name q later ss parts.1 e)
  where
    found : List ℕ → Option (Named Object)
    found n = find (λ o. exports o.value n) later

    here : (b : Bool) → bytes_eq s.name q ≡ b → (b || among q (exported ss)) ≡ true → found s.name ≡ None → (among q (exported ss) ≡ true → found q ≡ None) → found q ≡ None
    here true e g none rest = ap (λ (n : List ℕ). found n) (sym ((bytes_eq-Decides s.name q).0 e)) ∙ none
    here false e g none rest = rest g

    by : (b : Bool) → is_exported s.attributes ≡ b → clash name later s ≡ None → among q (cond b (s.name ∷ exported ss) (exported ss)) ≡ true
        → (among q (exported ss) ≡ true → found q ≡ None) → found q ≡ None
    by true is e g rest = here (bytes_eq s.name q) refl g (clash_here name later s e is) rest
    by false is e g rest = rest g

none_twice : (os : List (Named Object)) → duplicate os ≡ None → AreDefinedOnce (objects_in os)
none_twice [] h q i j lt a b = a
none_twice (o ∷ os) h q zero zero lt a b = omega arith
none_twice (o ∷ os) h q zero (suc j) lt a b =
    let parts = none_parts (first_given (clash o.name os) o.value.symbols) (duplicate os) h in
    none_found q os j (no_other o.name q os o.value.symbols parts.0 a) b
none_twice (o ∷ os) h q (suc i) zero lt a b = omega arith
none_twice (o ∷ os) h q (suc i) (suc j) lt a b =
    let parts = none_parts (first_given (clash o.name os) o.value.symbols) (duplicate os) h in
    none_twice os parts.1 q i j (omega arith) a b

pub duplicate_law : DuplicateLaw
duplicate_law os = by (duplicate os) refl
  where
    by : (d : Option Refusal) → duplicate os ≡ d → SaysDuplicate os d
    by None e = none_twice os e
    by (Some r) e = says_some os r e

-- ---- what is selected keeps both rules

passed : {A : Type 0} (o : Option Refusal) (next : Result A Refusal) (x : A) → refused o next ≡ Ok x → (o ≡ None) × (next ≡ Ok x)
passed None next x h = (refl, h)
passed (Some r) next x h = absurd (cc)

judged_ok : (os : List (Named Object)) (r : Result LinkedEntry Refusal) (l : Linked) → (r >>= λ e. Ok (record { objects = os; definitions = definitions_from 0 (objects_in os); entry = e })) ≡ Ok l
    → (e : LinkedEntry) × (r ≡ Ok e)
judged_ok os (Ok e) l h = (e, refl)
judged_ok os (Err r) l h = absurd (cc)

pub kept : (regions : Option (List (List ℕ))) (os : List (Named Object)) (l : Linked) → selection_of regions os ≡ Ok l → (duplicate os ≡ None) × (undefined regions os ≡ None)
unfolding selection_of
kept regions os l h =
    let e = judged_ok os (judged regions os) l h in
    let first = passed (duplicate os) _ e.0 e.1 in
    let second = passed (undefined regions os) _ e.0 first.1 in
    (first.0, second.0)

pub selected_once : (regions : Option (List (List ℕ))) (os : List (Named Object)) (r : Result Linked Fault) → Gives r (selection_of regions os) → IfOk r (λ l. AreDefinedOnce (objects_in l.objects))
selected_once regions os (Ok l) h = subst (λ (o : List (Named Object)). AreDefinedOnce (objects_in o)) (sym (selected_link regions os l h).0) (none_twice os (kept regions os l h).0)
selected_once regions os (Err e) h = tt
