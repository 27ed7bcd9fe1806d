-- What is read is spelled so and good, and what is spelled so and good is read.
use Rattle.std.proofs.Common.{◌≡◌, ◌∙◌, ℕ, ◌+◌, ◌≤◌, Bool, true, false, cond, not, nat_le, ◌&&◌, List, [], ◌∷◌, map, filter, Option, Some, None, Result, Ok, Err, refl, ap, subst, leb-true}
use Rattle.std.specs.Str.Lines.{lines}
use Rattle.std.specs.Prelude.{IfOk, codes, bytes_eq}
use Rattle.std.proofs.lemmas.Bool.{and_parts}
use Rattle.sdt_fault.specs.declared.answer.Fault.{Fault}
use Rattle.sdt_fault.specs.declared.kinds.CommandKind.{CommandKind}
use Rattle.sdt_fault.specs.declared.kinds.CommandKind.TheVariants.{Syntax, Number}
use Rattle.armsd_core.specs.declared.command.Command.{Command}
use Rattle.armsd_core.specs.declared.command.Command.TheVariants.{Break, Unbreak, Unwatch, Step, Go, Regs, Mem, Detach, Quit}
use Rattle.armsd_core.specs.Numerals.{number_of}
use Rattle.armsd_core.specs.Commands as commands
use Rattle.armsd_core.specs.Commands.{bare, by_words, command_in, is_blank, of, of_both, one, range, range_by, steps, bytes, two, with_one, with_two, within, word, words_of}
use Rattle.armsd_core.specs.Scripts.{AreGood, IsInRange, Reading, ReadsScript, behind, devices_behind, flaw, judged, judged_by, onto, points_behind, read, script_of, Gives, refusal}

-- ---- numbers in their ranges

abbrev Holds : commands.Reading → Type 0
Holds (Ok c) = IsInRange c
Holds (Err k) = Unit {0}

-- a number of a range lies there
abbrev Lies : ℕ → ℕ → Result ℕ CommandKind → Type 0
Lies least most (Ok n) = (least ≤ n) × (n ≤ most)
Lies least most (Err k) = Unit {0}

lies : (least most n : ℕ) → Lies least most (within least most n)
lies least most n = by (nat_le least n && nat_le n most) refl
  where
    by : (b : Bool) → (nat_le least n && nat_le n most) ≡ b → Lies least most (cond b (Ok n) (Err Number))
    by true e =
        let p = and_parts (nat_le least n) (nat_le n most) e in
        (leb-true least n p.0, leb-true n most p.1)
    by false e = tt

bare_by : (a b c : Bool) → Holds (cond a (Ok Unwatch) (cond b (Ok Regs) (cond c (Ok Quit) (Err Syntax))))
bare_by true b c = tt
bare_by false true c = tt
bare_by false false true = tt
bare_by false false false = tt

bare_holds : (name : List ℕ) → Holds (bare name)
bare_holds name = bare_by (bytes_eq name (codes "unwatch")) (bytes_eq name (codes "regs")) (bytes_eq name (codes "quit"))

free : (make : ℕ → Command) (r : Result ℕ CommandKind) → ((n : ℕ) → IsInRange (make n)) → Holds (of make r)
free make (Ok n) h = h n
free make (Err k) h = tt

bound : (make : ℕ → Command) (r : Result ℕ CommandKind) → ((n : ℕ) → (1 ≤ n) × (n ≤ 1000000000) → IsInRange (make n)) → Lies 1 1000000000 r → Holds (of make r)
bound make (Ok n) h l = h n l
bound make (Err k) h l = tt

one_by : (a b c d e : Bool) (w s : Result ℕ CommandKind) → Lies 1 1000000000 s
    → Holds (cond a (of Break w) (cond b (of Unbreak w) (cond c (of Step s) (cond d (of Go s) (cond e (of Detach w) (Err Syntax))))))
one_by true b c d e w s l = free Break w (λ n. tt)
one_by false true c d e w s l = free Unbreak w (λ n. tt)
one_by false false true d e w s l = bound Step s (λ n h. h) l
one_by false false false true e w s l = bound Go s (λ n h. h) l
one_by false false false false true w s l = free Detach w (λ n. tt)
one_by false false false false false w s l = tt

one_holds : (name : List ℕ) (n : ℕ) → Holds (one name n)
one_holds name n =
    one_by (bytes_eq name (codes "break")) (bytes_eq name (codes "unbreak")) (bytes_eq name (codes "step")) (bytes_eq name (codes "go")) (bytes_eq name (codes "detach"))
    (word n) (steps n) (lies 1 1000000000 n)

range_holds : (base size : ℕ) (b : Bool) (e : nat_le (base + size) 4294967296 ≡ b) → Holds (range_by base size b e)
range_holds base size true e = tt
range_holds base size false e = tt

ranges_hold : (a b : Result ℕ CommandKind) → Holds (of_both range a b)
ranges_hold (Ok a) (Ok b) = range_holds a b (nat_le (a + b) 4294967296) refl
ranges_hold (Ok a) (Err k) = tt
ranges_hold (Err k) b = tt

mems_hold : (a b : Result ℕ CommandKind) → Lies 1 256 b → Holds (of_both (λ x n. Ok (Mem x n)) a b)
mems_hold (Ok a) (Ok b) l = l
mems_hold (Ok a) (Err k) l = tt
mems_hold (Err k) b l = tt

two_by : (a b : Bool) (x y z : Result ℕ CommandKind) → Lies 1 256 z → Holds (cond a (of_both range x y) (cond b (of_both (λ u n. Ok (Mem u n)) x z) (Err Syntax)))
two_by true b x y z l = ranges_hold x y
two_by false true x y z l = mems_hold x z l
two_by false false x y z l = tt

two_holds : (name : List ℕ) (a b : ℕ) → Holds (two name a b)
two_holds name a b = two_by (bytes_eq name (codes "watch")) (bytes_eq name (codes "mem")) (word a) (word b) (bytes b) (lies 1 256 b)

with_one_holds : (name : List ℕ) (o : Option ℕ) → Holds (with_one name o)
with_one_holds name None = tt
with_one_holds name (Some n) = one_holds name n

with_two_holds : (name : List ℕ) (o p : Option ℕ) → Holds (with_two name o p)
with_two_holds name None p = tt
with_two_holds name (Some n) None = tt
with_two_holds name (Some n) (Some m) = two_holds name n m

words_hold : (ws : List (List ℕ)) → Holds (by_words ws)
words_hold [] = tt
words_hold (name ∷ []) = bare_holds name
words_hold (name ∷ a ∷ []) = with_one_holds name (number_of a)
words_hold (name ∷ a ∷ b ∷ []) = with_two_holds name (number_of a) (number_of b)
words_hold (name ∷ a ∷ b ∷ c ∷ cs) = tt

-- ---- lines

abbrev each_ok : List Command → List commands.Reading
each_ok cs = map (λ c. Ok c) cs

abbrev Rest : Type 0
Rest = ℕ → ℕ → Reading

abbrev blank_left : Bool → List ℕ → List (List ℕ) → List (List ℕ)
blank_left b l fs = cond (not b) (l ∷ fs) fs

blank_found : (points devices : ℕ) (cs : List Command) (r : Reading) (P : List Command → Type 0) → ((xs : List Command) → r ≡ Ok xs → P xs) → onto [] r ≡ Ok cs → P cs
blank_found points devices cs (Ok xs) P h e = h cs e
blank_found points devices cs (Err k) P h e = absurd (cc)

command_found : (c : Command) (cs : List Command) (r : Reading) (P : List Command → Type 0) → ((xs : List Command) → r ≡ Ok xs → P (c ∷ xs)) → onto (c ∷ []) r ≡ Ok cs → P cs
command_found c cs (Ok xs) P h e = let s : c ∷ xs ≡ cs = cc in subst P s (h xs refl)
command_found c cs (Err k) P h e = absurd (cc)

-- the commands that the lines spell, and that are good
abbrev Are : ℕ → ℕ → List (List ℕ) → List Command → Type 0
Are points devices fs cs = (map command_in fs ≡ each_ok cs) × AreGood points devices cs

judged_found : (line points devices : ℕ) (l : List ℕ) (fs : List (List ℕ)) (rest : Rest) (cs : List Command) (c : Command) (o : Option CommandKind)
    → command_in l ≡ Ok c → IsInRange c → flaw points devices c ≡ o
    → ((p d : ℕ) (xs : List Command) → rest p d ≡ Ok xs → Are p d fs xs)
    → behind line points devices rest (judged_by c o) ≡ Ok cs → Are points devices (l ∷ fs) cs
judged_found line points devices l fs rest cs c (Some k) is lies_in none ih e = absurd (cc)
judged_found line points devices l fs rest cs c None is lies_in none ih e =
    command_found c cs (rest (points_behind points (Some c)) (devices_behind devices (Some c))) (Are points devices (l ∷ fs))
    (λ xs h. let t = ih (points_behind points (Some c)) (devices_behind devices (Some c)) xs h in let u = t.0 in (cc, (lies_in, none, t.1))) e

line_found : (line points devices : ℕ) (l : List ℕ) (fs : List (List ℕ)) (rest : Rest) (cs : List Command) (b : Bool) (r : commands.Reading)
    → command_in l ≡ r → Holds r
    → ((p d : ℕ) (xs : List Command) → rest p d ≡ Ok xs → Are p d fs xs)
    → behind line points devices rest (cond b (Ok None) (judged points devices r)) ≡ Ok cs → Are points devices (blank_left b l fs) cs
line_found line points devices l fs rest cs true r is holds ih e = blank_found points devices cs (rest points devices) (Are points devices fs) (ih points devices) e
line_found line points devices l fs rest cs false (Err k) is holds ih e = absurd (cc)
line_found line points devices l fs rest cs false (Ok c) is holds ih e = judged_found line points devices l fs rest cs c (flaw points devices c) is holds refl ih e

read_found : (ls : List (List ℕ)) (line points devices : ℕ) (cs : List Command) → read line points devices ls ≡ Ok cs → Are points devices (filter (λ l. not (is_blank l)) ls) cs
read_found [] line points devices cs h = let s : [] ≡ cs = cc in subst (Are points devices []) s (refl, tt)
read_found (l ∷ ls) line points devices cs h =
    line_found line points devices l (filter (λ l. not (is_blank l)) ls) (λ p d. read (line + 1) p d ls) cs (is_blank l) (command_in l) refl (words_hold (words_of l))
    (λ p d xs e. read_found ls (line + 1) p d xs e) h

line_only : (line points devices : ℕ) (l : List ℕ) (fs : List (List ℕ)) (rest : Rest) (cs : List Command) (b : Bool)
    → ((p d : ℕ) (xs : List Command) → Are p d fs xs → rest p d ≡ Ok xs)
    → Are points devices (blank_left b l fs) cs → behind line points devices rest (cond b (Ok None) (judged points devices (command_in l))) ≡ Ok cs
line_only line points devices l fs rest cs true ih h = ap (onto []) (ih points devices cs h)
line_only line points devices l fs rest [] false ih h = absurd (let e = h.0 in cc)
line_only line points devices l fs rest (c ∷ cs) false ih (e, (lies_in, none, good)) =
    let is : command_in l ≡ Ok c = cc in
    let more : map command_in fs ≡ each_ok cs = cc in
    ap (λ (r : commands.Reading). behind line points devices rest (judged points devices r)) is
    ∙ ap (λ (o : Option CommandKind). behind line points devices rest (judged_by c o)) none
    ∙ ap (onto (c ∷ [])) (ih (points_behind points (Some c)) (devices_behind devices (Some c)) cs (more, good))

read_only : (ls : List (List ℕ)) (line points devices : ℕ) (cs : List Command) → Are points devices (filter (λ l. not (is_blank l)) ls) cs → read line points devices ls ≡ Ok cs
read_only [] line points devices [] h = refl
read_only [] line points devices (c ∷ cs) h = absurd (let e = h.0 in cc)
read_only (l ∷ ls) line points devices cs h =
    line_only line points devices l (filter (λ l. not (is_blank l)) ls) (λ p d. read (line + 1) p d ls) cs (is_blank l) (λ p d xs e. read_only ls (line + 1) p d xs e) h

-- ---- the text

read_of : (r : Reading) (cs : List Command) → refusal r ≡ Ok cs → r ≡ Ok cs
read_of (Ok xs) cs h = cc
read_of (Err e) cs h = absurd (cc)

pub found : (text : List ℕ) (devices : ℕ) (cs : List Command) → script_of text devices ≡ Ok cs → ReadsScript text devices cs
found text devices cs h = let a = read_found (lines text) 1 64 devices cs (read_of _ cs h) in record { spelled = a.0; good = a.1 }

pub only : (text : List ℕ) (devices : ℕ) (cs : List Command) → ReadsScript text devices cs → script_of text devices ≡ Ok cs
only text devices cs h = ap refusal (read_only (lines text) 1 64 devices cs (h.spelled, h.good))

pub told_found : (text : List ℕ) (devices : ℕ) (r : Result (List Command) Fault) → Gives r (script_of text devices) → IfOk r (ReadsScript text devices)
told_found text devices (Ok cs) h = found text devices cs h
told_found text devices (Err e) h = tt

pub told_only : (text : List ℕ) (devices : ℕ) (r : Result (List Command) Fault) → Gives r (script_of text devices) → (cs : List Command) → ReadsScript text devices cs → Gives r (Ok cs)
told_only text devices r h cs is = subst (Gives r) (only text devices cs is) h
