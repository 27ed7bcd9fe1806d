-- What is linked, and what is selected of it.
use Rattle.std.proofs.Common.{◌≡◌, ℕ, suc, ◌+◌, ◌<◌, Bool, true, false, cond, List, [], ◌∷◌, ◌++◌, length, map, drop, Option, Some, None, Result, Ok, Err, refl, sym, ap, ◌∙◌, subst, arith, append_assoc}
use Rattle.std.specs.Prelude.{slice_get, is_some, IfOk, IsSomeAnd}
use Rattle.sdt_fault.specs.declared.answer.Fault.{Fault}
use Rattle.sdt_fault.specs.declared.answer.Fault.TheVariants as fault
use Rattle.sdt_fault.specs.declared.refusal.Refusal.{Refusal}
use Rattle.chunk_file.specs.Reading.{◌>>=◌, Gives}
use Rattle.aof_object.specs.declared.records.Object.{Object}
use Rattle.alf_archive.specs.declared.records.Archive.{Archive}
use Rattle.alf_archive.specs.declared.records.Member.{Member}
use Rattle.link_model.specs.declared.selection.Definition.{Definition}
use Rattle.link_model.specs.declared.selection.Named.{Named}
use Rattle.link_model.specs.declared.selection.Linked.{Linked}
use Rattle.link_model.specs.declared.selection.LinkedEntry.{LinkedEntry}
use Rattle.link_model.specs.Members.{named_member, members_of, objects_in}
use Rattle.link_model.specs.Chosen.{exporter, supplied, IsLeast, AreChosen, AreLinked, taken}
use Rattle.link_model.specs.Definitions.{definitions_from}
use Rattle.std.proofs.lemmas.List.{length-append, length-map}
use Rattle.link_select.specs.declared.choosing.Supply.{Supply}
use Rattle.link_select.specs.declared.members.MemberPlace.{MemberPlace}
use Rattle.link_select.specs.Index.{Numbers, number_in, IsIndexOf}
use Rattle.link_select.specs.Places.{places_from, member_at, symbols_of}
use Rattle.link_select.specs.Search.{supply_of, marked, IsWithin}
use Rattle.link_select.specs.Selection.{judged, selection_of, Selects}
use Rattle.link_select.proofs.ListLemmas.{some_item, get_item, drop_end}
use Rattle.link_select.proofs.PlaceLemmas.{member_at_place}
use Rattle.link_select.proofs.ExportLemmas.{exporter_within}

-- ---- the index and the supply

pub index_none : (m : Numbers) → ((q : List ℕ) → number_in m q ≡ None) → (os : List (Named Object)) (n : ℕ) → n ≡ length os → IsIndexOf n (objects_in (drop n os)) m
index_none m none os n len q = none q ∙ ap (λ (l : List (Named Object)). exporter n q (objects_in l)) (sym (ap (λ (k : ℕ). drop k os) len ∙ drop_end os))

pub supply_within : (s : Supply) (members : List Object) (n : ℕ) → IsIndexOf 0 members s.offered → n ≡ length members → IsWithin (supply_of s) n
supply_within s members n known len = record { below = λ q k h. by q k (is_some (number_in s.defined q)) h }
  where
    by : (q : List ℕ) (k : ℕ) (b : Bool) → cond b None (number_in s.offered q) ≡ Some k → k < n
    by q k true h = absurd (cc)
    by q k false h = let r = exporter_within 0 q members k (sym (known q) ∙ h) in omega arith

pub supply_same : (s : Supply) (objects members : List Object) → IsIndexOf 0 objects s.defined → IsIndexOf 0 members s.offered → ◌≡◌ {A = List ℕ → Option ℕ} (supply_of s) (supplied objects members)
supply_same s objects members defined offered = λ i q. cond (is_some (defined q i)) None (offered q i)

pub are_chosen : (s : Supply) (objects members : List Object) (chosen : ℕ → Bool) → IsIndexOf 0 objects s.defined → IsIndexOf 0 members s.offered → IsLeast (supply_of s) objects members chosen
    → AreChosen objects members chosen
are_chosen s objects members chosen defined offered least = subst (λ (f : List ℕ → Option ℕ). IsLeast f objects members chosen) (supply_same s objects members defined offered) least

pub if_ok : {T E : Type 0} (P Q : T → Type 0) → ((x : T) → P x → Q x) → (r : Result T E) → IfOk r P → IfOk r Q
if_ok P Q f (Ok x) h = f x h
if_ok P Q f (Err e) h = tt

-- ---- members by their numbers

pub member_here : (archives : List (Named Archive)) (i : ℕ) (p : MemberPlace) → slice_get (places_from 0 archives) i ≡ Some p → (n : ℕ) → n ≡ length (members_of archives) → i < n
    → IsSomeAnd (slice_get (members_of archives) i) (λ m. m.value.symbols ≡ symbols_of (member_at archives p))
member_here archives i p at n len h =
    let s = some_item (members_of archives) i (omega arith) in
    let there : slice_get (members_of archives) i ≡ Some s.0 = get_item (members_of archives) i s.0 (omega arith) s.1 in
    subst (λ (o : Option (Named Object)). IsSomeAnd o (λ m. m.value.symbols ≡ symbols_of (member_at archives p))) (sym there)
    (sym (ap symbols_of (member_at_place archives i p at ∙ there)))

-- a member that is added where it has a mark
pub taken_next : (marks : List Bool) (i : ℕ) (m : Named Object) (rest before after all : List (Named Object)) → after ≡ before ++ cond (marked marks i) (m ∷ []) []
    → before ++ taken (marked marks) i (m ∷ rest) ≡ all → after ++ taken (marked marks) (i + 1) rest ≡ all
taken_next marks i m rest before after all added known =
    ap (λ (k : ℕ). after ++ taken (marked marks) k rest) (omega arith) ∙ ap (λ (os : List (Named Object)). os ++ taken (marked marks) (suc i) rest) added ∙ append_assoc before (cond (marked marks i) (m ∷ []) []) (taken (marked marks) (suc i) rest)
    ∙ sym (ap (λ (os : List (Named Object)). before ++ os) (split (marked marks i))) ∙ known
  where
    split : (b : Bool) → cond b (m ∷ taken (marked marks) (suc i) rest) (taken (marked marks) (suc i) rest) ≡ cond b (m ∷ []) [] ++ taken (marked marks) (suc i) rest
    split true = refl
    split false = refl

pub none_left : {A : Type 0} (xs : List A) → length xs ≡ 0 → xs ≡ []
none_left [] e = refl
none_left (x ∷ xs) e = absurd (omega (arith, e))

-- members of two libraries, one behind the other
pub taken_behind : (chosen : ℕ → Bool) (i : ℕ) (xs ys : List (Named Object)) → taken chosen i (xs ++ ys) ≡ taken chosen i xs ++ taken chosen (i + length xs) ys
taken_behind chosen i [] ys = ap (λ (k : ℕ). taken chosen k ys) (omega arith)
taken_behind chosen i (x ∷ xs) ys =
    step (chosen i) (taken_behind chosen (suc i) xs ys) (omega arith)
  where
    step : (b : Bool) {n : ℕ} → taken chosen (suc i) (xs ++ ys) ≡ taken chosen (suc i) xs ++ taken chosen n ys → n ≡ i + suc (length xs)
        → cond b (x ∷ taken chosen (suc i) (xs ++ ys)) (taken chosen (suc i) (xs ++ ys)) ≡ cond b (x ∷ taken chosen (suc i) xs) (taken chosen (suc i) xs) ++ taken chosen (i + suc (length xs)) ys
    step true h e = ap (λ (os : List (Named Object)). x ∷ os) (h ∙ ap (λ (k : ℕ). taken chosen (suc i) xs ++ taken chosen k ys) e)
    step false h e = h ∙ ap (λ (k : ℕ). taken chosen (suc i) xs ++ taken chosen k ys) e

-- a library whose members are added
pub library_next : (chosen : ℕ → Bool) (n next : ℕ) (a : Named Archive) (ms : List Member) (archives rest : List (Named Archive)) (before after all : List (Named Object)) → archives ≡ a ∷ rest → ms ≡ a.value.members
    → next ≡ n + length ms → after ≡ before ++ taken chosen n (map (named_member a.name) ms) → before ++ taken chosen n (members_of archives) ≡ all → after ++ taken chosen next (members_of rest) ≡ all
library_next chosen n next a ms archives rest before after all first own count added known =
    let mine : List (Named Object) = map (named_member a.name) ms in
    let size : length mine ≡ length ms = length-map ms (named_member a.name) in
    let behind : next ≡ n + length mine = count ∙ ap (λ (k : ℕ). n + k) (sym size) in
    let members : members_of archives ≡ mine ++ members_of rest = ap members_of first ∙ ap (λ (xs : List Member). map (named_member a.name) xs ++ members_of rest) (sym own) in
    ap (λ (os : List (Named Object)). os ++ taken chosen next (members_of rest)) added ∙ append_assoc before (taken chosen n mine) (taken chosen next (members_of rest))
    ∙ ap (λ (k : ℕ). before ++ (taken chosen n mine ++ taken chosen k (members_of rest))) behind
    ∙ sym (ap (λ (os : List (Named Object)). before ++ os) (ap (taken chosen n) members ∙ taken_behind chosen n mine (members_of rest))) ∙ known

pub members_more : (a : Named Archive) (archives rest : List (Named Archive)) → archives ≡ a ∷ rest → length (members_of archives) ≡ length a.value.members + length (members_of rest)
members_more a archives rest first =
    ap (λ (libraries : List (Named Archive)). length (members_of libraries)) first ∙ length-append (map (named_member a.name) a.value.members) (members_of rest)
    ∙ ap (λ (k : ℕ). k + length (members_of rest)) (length-map a.value.members (named_member a.name))

-- ---- the selection

selected : (os : List (Named Object)) (r : Result LinkedEntry Refusal) (l : Linked) → (r >>= λ e. Ok (record { objects = os; definitions = definitions_from 0 (objects_in os); entry = e })) ≡ Ok l
    → (l.objects ≡ os) × (l.definitions ≡ definitions_from 0 (objects_in os))
selected os (Ok e) l h =
    let f : record { objects = os; definitions = definitions_from 0 (objects_in os); entry = e } ≡ l = cc in
    (sym (ap (λ (k : Linked). k.objects) f), sym (ap (λ (k : Linked). k.definitions) f))
selected os (Err r) l h = absurd (cc)

pub selected_link : (regions : Option (List (List ℕ))) (os : List (Named Object)) (l : Linked) → selection_of regions os ≡ Ok l → (l.objects ≡ os) × (l.definitions ≡ definitions_from 0 (objects_in os))
unfolding selection_of
selected_link regions os l h = selected os (judged regions os) l h

pub linked_of : (regions : Option (List (List ℕ))) (os linked : List (Named Object)) (definitions : List Definition) (e : LinkedEntry) → judged regions os ≡ Ok e → linked ≡ os
    → definitions ≡ definitions_from 0 (objects_in os) → selection_of regions os ≡ Ok (record { objects = linked; definitions = definitions; entry = e })
unfolding selection_of
linked_of regions os linked definitions e judges same defined =
    ap (λ (r : Result LinkedEntry Refusal). r >>= λ n. Ok (record { objects = os; definitions = definitions_from 0 (objects_in os); entry = n })) judges
    ∙ (λ i. Ok (record { objects = sym same i; definitions = sym defined i; entry = e }))

pub selects : (objects : List (Named Object)) (archives : List (Named Archive)) (regions : Option (List (List ℕ))) (os : List (Named Object)) (r : Result Linked Fault) → AreLinked objects archives os → Gives r (selection_of regions os) → Selects objects archives regions r
selects objects archives regions os (Ok l) linked h = (os, linked, h)
selects objects archives regions os (Err fault.NoMemory) linked h = tt
selects objects archives regions os (Err (fault.Refused r)) linked h = (os, linked, h)
selects objects archives regions os (Err (fault.ReadFault n)) linked h = h

pub links : (objects : List (Named Object)) (archives : List (Named Archive)) (regions : Option (List (List ℕ))) (os : List (Named Object)) (r : Result Linked Fault) → AreLinked objects archives os → Gives r (selection_of regions os)
    → IfOk r (λ l. AreLinked objects archives l.objects)
links objects archives regions os (Ok l) linked h = subst (λ (o : List (Named Object)). AreLinked objects archives o) (sym (selected_link regions os l h).0) linked
links objects archives regions os (Err e) linked h = tt
