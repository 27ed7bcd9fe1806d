-- Packets are read as what they say.
use Rattle.std.proofs.Common.{◌≡◌, ℕ, ◌+◌, ◌-◌, ◌<◌, ◌==◌, ◌||◌, ◌&&◌, ◌^◌, nat_eq, nat_le, Bool, true, false, cond, List, [], ◌∷◌, ◌++◌, length, take, drop, codes, Option, Some, None, refl, ap, ap₂, sym, ◌∙◌, subst, subst₂, arith, leb-true, bytes_eq, eq-eqb, true≢false}
use Rattle.std.specs.List.{list_all, starts_with, ends_with}
use Rattle.std.proofs.lemmas.Bool.{eqb-true}
use Rattle.std.proofs.lemmas.Bool.Decides.{Decides-eqb}
use Rattle.std.proofs.lemmas.List.Folds.{list_all-append}
use Rattle.std.proofs.lemmas.Slice.Eq.{bytes_eq-Decides, starts_is, ends_is}
use Rattle.sdt_word.specs.declared.ranges.Range32.{Range32}
use Rattle.gdb_packets.specs.declared.request.Query.{Query}
use Rattle.gdb_packets.specs.declared.request.Request.{Request}
use Rattle.gdb_packets.specs.declared.request.Request.TheVariants.{Halted, Registers, Kill, WithoutAcks, SetRegisters, Register, SetRegister, Memory, Store, Continue, Step, Answer, SetPoint, DropPoint, SetWatch, DropWatch, Target, Command, Known, Leave, Malformed, Unknown}
use Rattle.gdb_packets.specs.declared.request.Query.TheVariants.{Supported, Actions, Thread, CurrentThread, FirstThreads, MoreThreads, Attached, Offsets}
use Rattle.gdb_packets.specs.Fields.{bytes_in, cut, number, pair, unescaped, word}
use Rattle.gdb_packets.specs.Requests as requests
use Rattle.gdb_packets.specs.Requests.{request_of, of_one, of_two, of_data, of_range, written, register_write_of, place, place_of, with_rest, range_by, hexadecimal_by, binary_by, points_of, points_by, point, ending, range, named_by, behind, or_named, or_letter, by_letter, bare, named, known, query_in}
use Rattle.gdb_packets.specs.Forms as forms
use Rattle.gdb_packets.specs.Forms.{Says, HasForms, IsPair, ReadsForms}
use Rattle.gdb_packets.proofs.FieldLemmas.{cut_whole, cut_back, digits_differ, digits_of, differs, pair_whole, pair_back}
use Rattle.gdb_packets.proofs.RangeLemmas.{range_ends}

-- ---- what a packet says is read

colons_differ : (t : List ℕ) (a n : ℕ) → IsPair t a n → list_all (differs 58) t ≡ true
colons_differ t a n p =
    let front : list_all (differs 58) p.s ≡ true = digits_differ 58 p.s (digits_of p.s a p.first) refl in
    let back : list_all (differs 58) p.t ≡ true = digits_differ 58 p.t (digits_of p.t n p.second) refl in
    ap (list_all (differs 58)) p.whole ∙ list_all-append (differs 58) p.s (44 ∷ p.t) ∙ ap₂ (λ (x y : Bool). x && y) front back

place_whole : (t rest : List ℕ) (a n : ℕ) → IsPair t a n → place (t ++ 58 ∷ rest) ≡ Some (a, n, rest)
place_whole t rest a n p =
    ap place_of (cut_whole 58 t rest (colons_differ t a n p)) ∙ ap (λ (o : Option (ℕ × ℕ)). with_rest o rest) (pair_whole t a n p)

points_whole : (set : Bool) (kind t : List ℕ) (a n : ℕ) → list_all (differs 44) kind ≡ true → IsPair t a n
    → requests.points set (kind ++ 44 ∷ t) ≡ point set kind a n
points_whole set kind t a n d p =
    ap (points_of set) (cut_whole 44 kind t d) ∙ ap (points_by set kind) (pair_whole t a n p)

range_whole : (r : Range32) → 0 < r.size → range r.base r.size ≡ Some r
range_whole r h =
    let some : (r.size == 0) ≡ false = grind arith in
    ap (λ (b : Bool). cond b None (ending r.base r.size)) some ∙ sym (range_ends r.base r.size r.size r.in_space refl)

ends_true : (front : List ℕ) → ends_with nat_eq (front ++ codes ",C") (codes ",C") ≡ true
ends_true front = (ends_is Decides-eqb (front ++ codes ",C") (codes ",C") _ refl).1 front refl

ends_false : (text : List ℕ) → ((front : List ℕ) → text ≡ front ++ codes ",C" → ⊥) → ends_with nat_eq text (codes ",C") ≡ false
ends_false text never = by (ends_with nat_eq text (codes ",C")) refl
  where
    by : (b : Bool) → ends_with nat_eq text (codes ",C") ≡ b → b ≡ false
    by false e = refl
    by true e = absurd (never _ ((ends_is Decides-eqb text (codes ",C") true (sym e)).0 refl))

same_length : (bytes : List ℕ) (a : ℕ) → requests.store a (length bytes) (Some bytes) ≡ Store a bytes
same_length bytes a = ap (λ (b : Bool). cond b (Store a bytes) Malformed) (eq-eqb (length bytes) (length bytes) refl)

reads : {text : List ℕ} {r : Request} → Says text r → request_of text ≡ r
reads forms.halted = refl
reads forms.registers = refl
reads (forms.set_registers e) = ap (of_data SetRegisters) e
reads (forms.register e) = ap (of_one Register) e
reads (forms.set_register t v {k} {w} e f) =
    ap (λ c. of_two SetRegister (register_write_of c)) (cut_whole 61 t v (digits_differ 61 t (digits_of t k e) refl))
    ∙ ap₂ (λ a b. of_two SetRegister (written a b)) e f
reads (forms.memory {t} {a} {n} p) = ap (of_two Memory) (pair_whole t a n p)
reads (forms.store t hex {bytes} {a} p g) =
    ap hexadecimal_by (place_whole t hex a (length bytes) p) ∙ ap (requests.store a (length bytes)) g ∙ same_length bytes a
reads (forms.store_binary t binary {bytes} {a} p g) =
    ap binary_by (place_whole t binary a (length bytes) p) ∙ ap (λ (x : List ℕ). requests.store a (length bytes) (Some x)) g
    ∙ same_length bytes a
reads forms.continue_alone = refl
reads forms.continue_first = refl
reads forms.continue_signal = refl
reads forms.step_alone = refl
reads forms.step_first = refl
reads forms.step_signal = refl
reads (forms.interrupted front) = ap Answer (ends_true front)
reads (forms.answered {text} never) = ap Answer (ends_false text never)
reads (forms.set_point {t} {a} {n} p) = points_whole true (codes "0") t a n refl p
reads (forms.set_hard_point {t} {a} {n} p) = points_whole true (codes "1") t a n refl p
reads (forms.drop_point {t} {a} {n} p) = points_whole false (codes "0") t a n refl p
reads (forms.drop_hard_point {t} {a} {n} p) = points_whole false (codes "1") t a n refl p
reads (forms.set_watch {t} r p h) = points_whole true (codes "2") t r.base r.size refl p ∙ ap (of_range SetWatch) (range_whole r h)
reads (forms.drop_watch {t} r p h) = points_whole false (codes "2") t r.base r.size refl p ∙ ap (of_range DropWatch) (range_whole r h)
reads (forms.target {t} {a} {n} p) = ap (of_two Target) (pair_whole t a n p)
reads (forms.command e) = ap (of_data Command) e
reads forms.supported = refl
reads forms.actions = refl
reads forms.thread = refl
reads forms.thread_lives = refl
reads forms.current_thread = refl
reads forms.first_threads = refl
reads forms.more_threads = refl
reads forms.attached = refl
reads forms.offsets = refl
reads forms.without_acks = refl
reads forms.kill = refl
reads forms.kill_process = refl
reads forms.detach = refl
reads forms.detach_process = refl

has_forms : {text : List ℕ} {r : Request} → Says text r → HasForms r
has_forms forms.halted = tt
has_forms _ = tt

-- ---- what is read is said

abbrev Told : List ℕ → Request → Type 0
Told text r = HasForms r → Says text r

abbrev ToldIf : List ℕ → Option Request → Type 0
ToldIf text None = Unit {0}
ToldIf text (Some r) = Told text r

word_told : (text w : List ℕ) (r : Request) (other : Option Request) → Says w r → ToldIf text other
    → ToldIf text (cond (bytes_eq text w) (Some r) other)
word_told text w r other s o = by (bytes_eq text w) refl
  where
    by : (b : Bool) → bytes_eq text w ≡ b → ToldIf text (cond b (Some r) other)
    by false e = o
    by true e = λ h. subst (λ (x : List ℕ). Says x r) (sym ((bytes_eq-Decides text w).0 e)) s

query_told : (text w : List ℕ) (q : Query) (other : Option Query) → Says w (Known q) → ToldIf text (known other)
    → ToldIf text (known (cond (bytes_eq text w) (Some q) other))
query_told text w q other s o = by (bytes_eq text w) refl
  where
    by : (b : Bool) → bytes_eq text w ≡ b → ToldIf text (known (cond b (Some q) other))
    by false e = o
    by true e = λ h. subst (λ (x : List ℕ). Says x (Known q)) (sym ((bytes_eq-Decides text w).0 e)) s

queries_told : (text : List ℕ) → ToldIf text (known (query_in text))
queries_told text =
    query_told text (codes "vCont?") Actions _ forms.actions (
    query_told text (codes "qC") CurrentThread _ forms.current_thread (
    query_told text (codes "qfThreadInfo") FirstThreads _ forms.first_threads (
    query_told text (codes "qsThreadInfo") MoreThreads _ forms.more_threads (
    query_told text (codes "qAttached") Attached _ forms.attached (
    query_told text (codes "qOffsets") Offsets None forms.offsets tt)))))

bare_told : (text : List ℕ) → ToldIf text (bare text)
bare_told text =
    word_told text (codes "?") Halted _ forms.halted (
    word_told text (codes "g") Registers _ forms.registers (
    word_told text (codes "c") Continue _ forms.continue_alone (
    word_told text (codes "s") Step _ forms.step_alone (
    word_told text (codes "k") Kill _ forms.kill (
    word_told text (codes "D") Leave _ forms.detach (
    word_told text (codes "QStartNoAckMode") WithoutAcks _ forms.without_acks (queries_told text)))))))

name_told : (text front : List ℕ) (make : List ℕ → Request) (other : Option Request) → ((rest : List ℕ) → Told (front ++ rest) (make rest))
    → ToldIf text other → ToldIf text (named_by (behind front text) make other)
name_told text front make other s o = by (starts_with nat_eq text front) refl
  where
    by : (b : Bool) → starts_with nat_eq text front ≡ b
        → ToldIf text (named_by (cond b (Some (drop (length front) text)) None) make other)
    by false e = o
    by true e =
        let whole : text ≡ front ++ drop (length front) text = (starts_is Decides-eqb text front true (sym e)).0 refl in
        λ h. subst (λ (x : List ℕ). Says x (make (drop (length front) text))) (sym whole) (s (drop (length front) text) h)

data_told : (front rest : List ℕ) (make : List ℕ → Request)
    → ((bytes : List ℕ) → bytes_in rest ≡ Some bytes → Says (front ++ rest) (make bytes))
    → Told (front ++ rest) (of_data make (bytes_in rest))
data_told front rest make s = by (bytes_in rest) refl
  where
    by : (o : Option (List ℕ)) → bytes_in rest ≡ o → Told (front ++ rest) (of_data make o)
    by None e = λ h. absurd h
    by (Some bytes) e = λ h. s bytes e

pair_told : (front rest : List ℕ) (make : ℕ → ℕ → Request) → ((a n : ℕ) → IsPair rest a n → Says (front ++ rest) (make a n))
    → Told (front ++ rest) (of_two make (pair 44 rest))
pair_told front rest make s = by (pair 44 rest) refl
  where
    by : (o : Option (ℕ × ℕ)) → pair 44 rest ≡ o → Told (front ++ rest) (of_two make o)
    by None e = λ h. absurd h
    by (Some p) e = λ h. s p.0 p.1 (pair_back rest p.0 p.1 e)

two_told : (l k m : ℕ) (whole : ℕ → List ℕ) (r other : Request) → Says (whole k) r → Says (whole m) r → Told (whole l) other
    → Told (whole l) (cond (l == k || l == m) r other)
two_told l k m whole r other s t o = by (l == k) (l == m) refl refl
  where
    by : (b c : Bool) → (l == k) ≡ b → (l == m) ≡ c → Told (whole l) (cond (b || c) r other)
    by true c e f = λ h. subst (λ (x : ℕ). Says (whole x) r) (sym (eqb-true l k e)) s
    by false true e f = λ h. subst (λ (x : ℕ). Says (whole x) r) (sym (eqb-true l m f)) t
    by false false e f = o

action_told : (rest : List ℕ) → Told (codes "vCont;" ++ rest) (requests.action rest)
action_told [] = λ h. absurd h
action_told (b ∷ rest) =
    two_told b 99 67 (λ (x : ℕ). codes "vCont;" ++ (x ∷ rest)) Continue _ forms.continue_first forms.continue_signal (
    two_told b 115 83 (λ (x : ℕ). codes "vCont;" ++ (x ∷ rest)) Step Malformed forms.step_first forms.step_signal (λ h. absurd h))

named_told : (text : List ℕ) → ToldIf text (named text)
named_told text =
    name_told text (codes "vCont;") requests.action _ action_told (
    name_told text (codes "qXfer:features:read:target.xml:") requests.target _
    (λ rest. pair_told (codes "qXfer:features:read:target.xml:") rest Target (λ a n p. forms.target p)) (
    name_told text (codes "qRcmd,") requests.command _ (λ rest. data_told (codes "qRcmd,") rest Command (λ bytes e. forms.command e)) (
    name_told text (codes "qSupported") (λ rest. Known Supported) _ (λ rest h. forms.supported) (
    name_told text (codes "vKill;") (λ rest. Leave) _ (λ rest h. forms.kill_process) (
    name_told text (codes "D;") (λ rest. Leave) None (λ rest h. forms.detach_process) tt)))))

letter_told : (letter k : ℕ) (rest : List ℕ) (r other : Request) → Told (k ∷ rest) r → Told (letter ∷ rest) other
    → Told (letter ∷ rest) (cond (letter == k) r other)
letter_told letter k rest r other s o = by (letter == k) refl
  where
    by : (b : Bool) → (letter == k) ≡ b → Told (letter ∷ rest) (cond b r other)
    by false e = o
    by true e = λ h. subst (λ (x : ℕ). Says (x ∷ rest) r) (sym (eqb-true letter k e)) (s h)

register_told : (rest : List ℕ) → Told (codes "p" ++ rest) (requests.register rest)
register_told rest = by (number rest) refl
  where
    by : (o : Option ℕ) → number rest ≡ o → Told (codes "p" ++ rest) (of_one Register o)
    by None e = λ h. absurd h
    by (Some k) e = λ h. forms.register e

set_register_told : (rest : List ℕ) → Told (codes "P" ++ rest) (requests.set_register rest)
set_register_told rest = by (cut 61 rest) refl
  where
    numbers : (t v : List ℕ) → rest ≡ t ++ 61 ∷ v → (o p : Option ℕ) → number t ≡ o → word v ≡ p
        → Told (codes "P" ++ rest) (of_two SetRegister (written o p))
    numbers t v whole None p e f = λ h. absurd h
    numbers t v whole (Some k) None e f = λ h. absurd h
    numbers t v whole (Some k) (Some w) e f =
        λ h. subst (λ (x : List ℕ). Says (codes "P" ++ x) (SetRegister k w)) (sym whole) (forms.set_register t v e f)

    by : (o : Option (List ℕ × List ℕ)) → cut 61 rest ≡ o → Told (codes "P" ++ rest) (of_two SetRegister (register_write_of o))
    by None e = λ h. absurd h
    by (Some p) e = numbers p.0 p.1 (cut_back 61 rest p.0 p.1 e) (number p.0) (word p.1) refl refl

record IsPlace (text : List ℕ) (a n : ℕ) (rest : List ℕ) : Type 0 where
  pub t : List ℕ
  pub whole : text ≡ t ++ 58 ∷ rest
  pub numbers : IsPair t a n

place_back : (text : List ℕ) (a n : ℕ) (rest : List ℕ) → place text ≡ Some (a, n, rest) → IsPlace text a n rest
place_back text a n rest e = by (cut 58 text) refl e
  where
    found : (t r : List ℕ) → text ≡ t ++ 58 ∷ r → (o : Option (ℕ × ℕ)) → pair 44 t ≡ o → with_rest o r ≡ Some (a, n, rest)
        → IsPlace text a n rest
    found t r w None f g = absurd (cc)
    found t r w (Some p) f g =
        let all : (p.0, p.1, r) ≡ (a, n, rest) = cc in
        let same : r ≡ rest = ap (λ (q : ℕ × ℕ × List ℕ). q.2) all in
        let two : Some (p.0, p.1) ≡ Some (a, n) = ap (λ (q : ℕ × ℕ × List ℕ). Some (q.0, q.1)) all in
        record { t = t; whole = w ∙ ap (λ (q : List ℕ). t ++ 58 ∷ q) same; numbers = pair_back t a n (f ∙ two) }

    by : (o : Option (List ℕ × List ℕ)) → cut 58 text ≡ o → place_of o ≡ Some (a, n, rest) → IsPlace text a n rest
    by None f g = absurd (cc)
    by (Some p) f g = found p.0 p.1 (cut_back 58 text p.0 p.1 f) (pair 44 p.0) refl g

store_told : (text : List ℕ) (a n : ℕ) (o : Option (List ℕ))
    → ((bytes : List ℕ) → o ≡ Some bytes → n ≡ length bytes → Says text (Store a bytes))
    → Told text (requests.store a n o)
store_told text a n None s = λ h. absurd h
store_told text a n (Some bytes) s = by (length bytes == n) refl
  where
    by : (b : Bool) → (length bytes == n) ≡ b → Told text (cond b (Store a bytes) Malformed)
    by false e = λ h. absurd h
    by true e = λ h. s bytes refl (sym (eqb-true (length bytes) n e))

hexadecimal_told : (rest : List ℕ) → Told (codes "M" ++ rest) (requests.hexadecimal_store rest)
hexadecimal_told rest = by (place rest) refl
  where
    by : (o : Option (ℕ × ℕ × List ℕ)) → place rest ≡ o → Told (codes "M" ++ rest) (hexadecimal_by o)
    by None e = λ h. absurd h
    by (Some p) e =
        let q = place_back rest p.0 p.1 p.2 e in
        store_told (codes "M" ++ rest) p.0 p.1 (bytes_in p.2) (λ bytes f g.
        subst (λ (x : List ℕ). Says (codes "M" ++ x) (Store p.0 bytes)) (sym q.whole)
        (forms.store q.t p.2 (subst (λ (n : ℕ). IsPair q.t p.0 n) g q.numbers) f))

binary_told : (rest : List ℕ) → Told (codes "X" ++ rest) (requests.binary_store rest)
binary_told rest = by (place rest) refl
  where
    by : (o : Option (ℕ × ℕ × List ℕ)) → place rest ≡ o → Told (codes "X" ++ rest) (binary_by o)
    by None e = λ h. absurd h
    by (Some p) e =
        let q = place_back rest p.0 p.1 p.2 e in
        store_told (codes "X" ++ rest) p.0 p.1 (Some (unescaped false p.2)) (λ bytes f g.
        subst (λ (x : List ℕ). Says (codes "X" ++ x) (Store p.0 bytes)) (sym q.whole)
        (forms.store_binary q.t p.2 (subst (λ (n : ℕ). IsPair q.t p.0 n) g q.numbers) (cc)))

abbrev letter_of : Bool → ℕ
letter_of set = cond set 90 122

ranged : (a n : ℕ) (r : Range32) → range a n ≡ Some r → (r.base ≡ a) × (r.size ≡ n) × (0 < n)
ranged a n r e = empty (n == 0) refl e
  where
    ends : (b : Bool) (g : nat_le (a + n) (2 ^ 32) ≡ b) → range_by a n b g ≡ Some r → (r.base ≡ a) × (r.size ≡ n)
    ends false g f = absurd (cc)
    ends true g f =
        let same : r ≡ record { base = a; size = n; in_space = leb-true (a + n) (2 ^ 32) g } = cc in
        (ap (λ (x : Range32). x.base) same, ap (λ (x : Range32). x.size) same)

    empty : (b : Bool) → (n == 0) ≡ b → cond b None (ending a n) ≡ Some r → (r.base ≡ a) × (r.size ≡ n) × (0 < n)
    empty true g f = absurd (cc)
    empty false g f = let two = ends (nat_le (a + n) (2 ^ 32)) refl f in (two.0, two.1, grind arith)

range_told : (text : List ℕ) (a n : ℕ) (make : Range32 → Request)
    → ((r : Range32) → r.base ≡ a → r.size ≡ n → 0 < r.size → Says text (make r)) → Told text (of_range make (range a n))
range_told text a n make s = by (range a n) refl
  where
    by : (o : Option Range32) → range a n ≡ o → Told text (of_range make o)
    by None e = λ h. absurd h
    by (Some r) e = λ h. let q = ranged a n r e in s r q.0 q.1 (omega arith)

at_range : {t : List ℕ} {a n : ℕ} (r : Range32) → r.base ≡ a → r.size ≡ n → IsPair t a n → IsPair t r.base r.size
at_range {t} r e f p = subst₂ (λ (x y : ℕ). IsPair t x y) (sym e) (sym f) p

watch_told : (set : Bool) (t : List ℕ) (a n : ℕ) → IsPair t a n
    → Told (letter_of set ∷ 50 ∷ 44 ∷ t) (cond set (of_range SetWatch (range a n)) (of_range DropWatch (range a n)))
watch_told true t a n p = range_told (codes "Z2," ++ t) a n SetWatch (λ r e f h. forms.set_watch r (at_range r e f p) h)
watch_told false t a n p = range_told (codes "z2," ++ t) a n DropWatch (λ r e f h. forms.drop_watch r (at_range r e f p) h)

soft_told : (set : Bool) (t : List ℕ) (a n : ℕ) → IsPair t a n → Says (letter_of set ∷ 48 ∷ 44 ∷ t) (cond set (SetPoint a) (DropPoint a))
soft_told true t a n p = forms.set_point p
soft_told false t a n p = forms.drop_point p

hard_told : (set : Bool) (t : List ℕ) (a n : ℕ) → IsPair t a n → Says (letter_of set ∷ 49 ∷ 44 ∷ t) (cond set (SetPoint a) (DropPoint a))
hard_told true t a n p = forms.set_hard_point p
hard_told false t a n p = forms.drop_hard_point p

point_told : (set : Bool) (kind t : List ℕ) (a n : ℕ) → IsPair t a n → Told (letter_of set ∷ (kind ++ 44 ∷ t)) (point set kind a n)
point_told set kind t a n p = by (bytes_eq kind (codes "0")) (bytes_eq kind (codes "1")) (bytes_eq kind (codes "2")) refl refl refl
  where
    same : (w : List ℕ) → bytes_eq kind w ≡ true → w ≡ kind
    same w e = sym ((bytes_eq-Decides kind w).0 e)

    by : (b c d : Bool) → bytes_eq kind (codes "0") ≡ b → bytes_eq kind (codes "1") ≡ c → bytes_eq kind (codes "2") ≡ d
        → Told (letter_of set ∷ (kind ++ 44 ∷ t)) (cond (b || c) (cond set (SetPoint a) (DropPoint a))
        (cond d (cond set (of_range SetWatch (range a n)) (of_range DropWatch (range a n))) Unknown))
    by true c d e f g =
        λ h. subst (λ (k : List ℕ). Says (letter_of set ∷ (k ++ 44 ∷ t)) (cond set (SetPoint a) (DropPoint a)))
        (same (codes "0") e) (soft_told set t a n p)
    by false true d e f g =
        λ h. subst (λ (k : List ℕ). Says (letter_of set ∷ (k ++ 44 ∷ t)) (cond set (SetPoint a) (DropPoint a)))
        (same (codes "1") f) (hard_told set t a n p)
    by false false true e f g =
        subst (λ (k : List ℕ). Told (letter_of set ∷ (k ++ 44 ∷ t))
        (cond set (of_range SetWatch (range a n)) (of_range DropWatch (range a n))))
        (same (codes "2") g) (watch_told set t a n p)
    by false false false e f g = λ h. absurd h

points_told : (set : Bool) (rest : List ℕ) → Told (letter_of set ∷ rest) (requests.points set rest)
points_told set rest = by (cut 44 rest) refl
  where
    found : (kind t : List ℕ) → rest ≡ kind ++ 44 ∷ t → (o : Option (ℕ × ℕ)) → pair 44 t ≡ o
        → Told (letter_of set ∷ rest) (points_by set kind o)
    found kind t w None f = λ h. absurd h
    found kind t w (Some p) f =
        subst (λ (x : List ℕ). Told (letter_of set ∷ x) (point set kind p.0 p.1)) (sym w)
        (point_told set kind t p.0 p.1 (pair_back t p.0 p.1 f))

    by : (o : Option (List ℕ × List ℕ)) → cut 44 rest ≡ o → Told (letter_of set ∷ rest) (points_of set o)
    by None e = λ h. absurd h
    by (Some p) e = found p.0 p.1 (cut_back 44 rest p.0 p.1 e) (pair 44 p.1) refl

answer_told : (rest : List ℕ) → Told (codes "F" ++ rest) (requests.answer rest)
answer_told rest = by (ends_with nat_eq rest (codes ",C")) refl
  where
    by : (b : Bool) → ends_with nat_eq rest (codes ",C") ≡ b → Told (codes "F" ++ rest) (Answer b)
    by false e =
        λ h. forms.answered (λ front w. true≢false (sym (ap (λ (x : List ℕ). ends_with nat_eq x (codes ",C")) w ∙ ends_true front) ∙ e))
    by true e =
        λ h. subst (λ (x : List ℕ). Says (codes "F" ++ x) (Answer true)) (sym ((ends_is Decides-eqb rest (codes ",C") true (sym e)).0 refl))
        (forms.interrupted (take (length rest - 2) rest))

letters_told : (text : List ℕ) → Told text (by_letter text)
letters_told [] = λ h. absurd h
letters_told (letter ∷ rest) =
    letter_told letter 77 rest _ _ (hexadecimal_told rest) (
    letter_told letter 88 rest _ _ (binary_told rest) (
    letter_told letter 71 rest _ _ (data_told (codes "G") rest SetRegisters (λ bytes e. forms.set_registers e)) (
    letter_told letter 112 rest _ _ (register_told rest) (
    letter_told letter 80 rest _ _ (set_register_told rest) (
    letter_told letter 109 rest _ _ (pair_told (codes "m") rest Memory (λ a n p. forms.memory p)) (
    letter_told letter 90 rest _ _ (points_told true rest) (
    letter_told letter 122 rest _ _ (points_told false rest) (
    letter_told letter 70 rest _ _ (answer_told rest) (
    two_told letter 72 84 (λ (x : ℕ). x ∷ rest) (Known Thread) Unknown forms.thread forms.thread_lives (λ h. absurd h))))))))))

told : (text : List ℕ) → Told text (request_of text)
told text = by (bare text) (bare_told text)
  where
    by_name : (o : Option Request) → ToldIf text o → Told text (or_letter o text)
    by_name None t = letters_told text
    by_name (Some r) t = t

    by : (o : Option Request) → ToldIf text o → Told text (or_named o text)
    by None t = by_name (named text) (named_told text)
    by (Some r) t = t

pub reads_forms : ReadsForms
reads_forms = (λ text r s. (reads s, has_forms s), told)
