-- Each line: what is spelled is read, what is read is spelled so, and no spelled line has a line feed.
use Rattle.std.proofs.Common.{◌≡◌, ◌∙◌, ℕ, ◌+◌, ◌%◌, ◌^◌, ◌<◌, List, ◌∷◌, ◌++◌, Bool, true, false, cond, ◌==◌, not, nat_le, Option, Some, None, refl, ap, sym, subst, arith, eq-eqb, eqb-true, le-leb, leb-true}
use Rattle.std.specs.Prelude.{codes, bytes_eq}
use Rattle.std.proofs.lemmas.Bool.{and_parts, and_from}
use Rattle.std.proofs.lemmas.Bool.Decides.{nat_tests}
use Rattle.std.proofs.lemmas.List.Folds.{list_all-append}
use Rattle.std.proofs.lemmas.Slice.Eq.{bytes_eq-Decides}
use Rattle.bin_image.specs.declared.records.MapLoad.{MapLoad}
use Rattle.bin_image.specs.declared.records.MapRegion.{MapRegion}
use Rattle.bin_image.specs.Fields.{◌>>=◌, lacks, cut, is_word, is_name, address, address_of, decimal_of}
use Rattle.bin_image.specs.Maps.{load_line, region_line, start_line, entry_line, bound_line, state_word, IsLoad, IsRegion}
use Rattle.bin_image.specs.Reading.{load_of, load_in, region_of, region_in, start_in, state_of, entry_in, bound_in}
use Rattle.bin_image.proofs.Cuts.{Pair, cut_at, cut_is}
use Rattle.bin_image.proofs.Digits.{address_is, address_read, address_lacks_feed, address_lacks_space, decimal_is, decimal_read, decimal_lacks_feed, implied}
use Rattle.base_lemmas.proofs.BaseLemmas.{came_through, same}

pub when : {A : Type 0} (b : Bool) (o : Option A) (y : A) → cond b o None ≡ Some y → (b ≡ true) × (o ≡ Some y)
when true o y h = (refl, h)
when false o y h = absurd (cc)

pub equal : (xs ys : List ℕ) → bytes_eq xs ys ≡ true → xs ≡ ys
equal xs ys h = (bytes_eq-Decides xs ys).0 h

-- ---- names, and lines of fields

word_other : (c : ℕ) → is_word c ≡ true → (not (c == 10) ≡ true) × (not (c == 32) ≡ true)
word_other c h = (grind (arith, nat_tests), grind (arith, nat_tests))

name_lacks_feed : (name : List ℕ) → is_name name ≡ true → lacks 10 name ≡ true
name_lacks_feed name h = implied is_word (λ c. not (c == 10)) (λ c k. (word_other c k).0) name (and_parts _ _ h).1

name_lacks_space : (name : List ℕ) → is_name name ≡ true → lacks 32 name ≡ true
name_lacks_space name h = implied is_word (λ c. not (c == 32)) (λ c k. (word_other c k).1) name (and_parts _ _ h).1

both_lack : (a b : List ℕ) → lacks 10 a ≡ true → lacks 10 b ≡ true → lacks 10 (a ++ 32 ∷ b) ≡ true
both_lack a b ha hb = list_all-append (λ c. not (c == 10)) a (32 ∷ b) ∙ and_from (lacks 10 a) (lacks 10 (32 ∷ b)) ha hb

end_lacks : (a b : List ℕ) → lacks 10 (a ++ 32 ∷ b) ≡ true → lacks 10 b ≡ true
end_lacks a b h = (and_parts (lacks 10 a) (lacks 10 (32 ∷ b)) (sym (list_all-append (λ c. not (c == 10)) a (32 ∷ b)) ∙ h)).1

cut_lacks : (line : List ℕ) (p : Pair) → cut 32 line ≡ Some p → lacks 10 line ≡ true → lacks 10 p.1 ≡ true
cut_lacks line p e h = end_lacks p.0 p.1 (ap (lacks 10) (sym (cut_is 32 line p e).whole) ∙ h)

-- ---- load lines

load_4 : Pair → Pair → Pair → Option MapLoad
load_4 name base size = load_of name.0 base.0 size.0 size.1

load_3 : Pair → Pair → Option MapLoad
load_3 name base = cut 32 base.1 >>= load_4 name base

load_2 : Pair → Option MapLoad
load_2 name = cut 32 name.1 >>= load_3 name

load_1 : Pair → Option MapLoad
load_1 word = cond (bytes_eq word.0 (codes "load")) (cut 32 word.1 >>= load_2) None

load_of_read : (l : MapLoad) → IsLoad l → load_of l.name (address l.base) (address l.size) l.file ≡ Some l
load_of_read l g =
    rw (g.named, address_read l.base g.base_fits, address_read l.size g.size_fits, le-leb (l.base + l.size) (2 ^ 32) g.in_space) refl

pub load_read : (l : MapLoad) → IsLoad l → load_in (load_line l) ≡ Some l
unfolding load_1 load_2 load_3 load_4
load_read l g =
    let r3 = address l.size ++ 32 ∷ l.file in
    let r2 = address l.base ++ 32 ∷ r3 in
    ap (λ o. o >>= load_2) (cut_at 32 l.name r2 (name_lacks_space l.name g.named))
    ∙ ap (λ o. o >>= load_3 (l.name, r2)) (cut_at 32 (address l.base) r3 (address_lacks_space l.base))
    ∙ ap (λ o. o >>= load_4 (l.name, r2) (address l.base, r3)) (cut_at 32 (address l.size) l.file (address_lacks_space l.size))
    ∙ load_of_read l g

pub load_lacks : (l : MapLoad) → IsLoad l → lacks 10 (load_line l) ≡ true
load_lacks l g =
    let r3 = both_lack (address l.size) l.file (address_lacks_feed l.size) g.one_line in
    let r2 = both_lack (address l.base) (address l.size ++ 32 ∷ l.file) (address_lacks_feed l.base) r3 in
    both_lack l.name (address l.base ++ 32 ∷ (address l.size ++ 32 ∷ l.file)) (name_lacks_feed l.name g.named) r2

record LoadFields (name base size file : List ℕ) (l : MapLoad) : Type 0 where
  good : IsLoad l
  named : name ≡ l.name
  based : base ≡ address l.base
  sized : size ≡ address l.size
  filed : file ≡ l.file

load_1_of : List ℕ → List ℕ → List ℕ → ℕ → Option MapLoad
load_1_of name size file a = address_of size >>= λ n. cond (nat_le (a + n) (2 ^ 32)) (Some (record { name = name; base = a; size = n; file = file })) None

load_2_of : List ℕ → List ℕ → ℕ → ℕ → Option MapLoad
load_2_of name file a n = cond (nat_le (a + n) (2 ^ 32)) (Some (record { name = name; base = a; size = n; file = file })) None

load_of_is : (name base size file : List ℕ) (l : MapLoad) → load_of name base size file ≡ Some l → lacks 10 file ≡ true → LoadFields name base size file l
unfolding load_1_of load_2_of
load_of_is name base size file l h one =
    let w = when (is_name name) (address_of base >>= load_1_of name size file) l h in
    let a = came_through (load_1_of name size file) (address_of base) l w.1 in
    let n = came_through (load_2_of name file a.0) (address_of size) l a.2 in
    let s = when (nat_le (a.0 + n.0) (2 ^ 32)) (Some (record { name = name; base = a.0; size = n.0; file = file })) l n.2 in
    let ia = address_is base a.0 a.1 in
    let is = address_is size n.0 n.1 in
    let k : MapLoad = record { name = name; base = a.0; size = n.0; file = file } in
    let g : IsLoad k = record { named = w.0; base_fits = ia.small; size_fits = is.small; in_space = leb-true (a.0 + n.0) (2 ^ 32) s.0; one_line = one } in
    let f : LoadFields name base size file k = record { good = g; named = refl; based = ia.spelled; sized = is.spelled; filed = refl } in
    subst (λ x. LoadFields name base size file x) (same k l s.1) f

pub load_is : (line : List ℕ) (l : MapLoad) → load_in line ≡ Some l → lacks 10 line ≡ true → IsLoad l × (line ≡ load_line l)
unfolding load_1 load_2 load_3 load_4
load_is line l h one =
    let a = came_through load_1 (cut 32 line) l h in
    let w = when (bytes_eq a.0.0 (codes "load")) (cut 32 a.0.1 >>= load_2) l a.2 in
    let b = came_through load_2 (cut 32 a.0.1) l w.1 in
    let c = came_through (load_3 b.0) (cut 32 b.0.1) l b.2 in
    let d = came_through (load_4 b.0 c.0) (cut 32 c.0.1) l c.2 in
    let l1 = cut_lacks line a.0 a.1 one in
    let l2 = cut_lacks a.0.1 b.0 b.1 l1 in
    let l3 = cut_lacks b.0.1 c.0 c.1 l2 in
    let l4 = cut_lacks c.0.1 d.0 d.1 l3 in
    let f = load_of_is b.0.0 c.0.0 d.0.0 d.0.1 l d.2 l4 in
    let e4 : c.0.1 ≡ address l.size ++ 32 ∷ l.file = (cut_is 32 c.0.1 d.0 d.1).whole ∙ ap (λ x. x ++ 32 ∷ d.0.1) f.sized ∙ ap (λ x. address l.size ++ 32 ∷ x) f.filed in
    let e3 : b.0.1 ≡ address l.base ++ 32 ∷ (address l.size ++ 32 ∷ l.file) = (cut_is 32 b.0.1 c.0 c.1).whole ∙ ap (λ x. x ++ 32 ∷ c.0.1) f.based ∙ ap (λ x. address l.base ++ 32 ∷ x) e4 in
    let e2 : a.0.1 ≡ l.name ++ 32 ∷ (address l.base ++ 32 ∷ (address l.size ++ 32 ∷ l.file)) = (cut_is 32 a.0.1 b.0 b.1).whole ∙ ap (λ x. x ++ 32 ∷ b.0.1) f.named ∙ ap (λ x. l.name ++ 32 ∷ x) e3 in
    (f.good, (cut_is 32 line a.0 a.1).whole ∙ ap (λ x. x ++ 32 ∷ a.0.1) (equal a.0.0 (codes "load") w.0) ∙ ap (λ x. codes "load" ++ 32 ∷ x) e2)

-- ---- execution lines

region_5 : Pair → Pair → Pair → Pair → Option MapRegion
region_5 name load base size = region_of name.0 load.0 base.0 size.0 size.1

region_4 : Pair → Pair → Pair → Option MapRegion
region_4 name load base = cut 32 base.1 >>= region_5 name load base

region_3 : Pair → Pair → Option MapRegion
region_3 name load = cut 32 load.1 >>= region_4 name load

region_2 : Pair → Option MapRegion
region_2 name = cut 32 name.1 >>= region_3 name

region_1 : Pair → Option MapRegion
region_1 word = cond (bytes_eq word.0 (codes "exec")) (cut 32 word.1 >>= region_2) None

region_of_read : (r : MapRegion) → IsRegion r → region_of r.name (address r.load) (address r.base) (address r.length) (address r.zero) ≡ Some r
region_of_read r g =
    rw (g.named, address_read r.load g.load_fits, address_read r.base g.base_fits, address_read r.length g.length_fits, address_read r.zero g.zero_fits, le-leb (r.base + r.length + r.zero) (2 ^ 32) g.in_space) refl

pub region_read : (r : MapRegion) → IsRegion r → region_in (region_line r) ≡ Some r
unfolding region_1 region_2 region_3 region_4 region_5
region_read r g =
    let r4 = address r.length ++ 32 ∷ address r.zero in
    let r3 = address r.base ++ 32 ∷ r4 in
    let r2 = address r.load ++ 32 ∷ r3 in
    ap (λ o. o >>= region_2) (cut_at 32 r.name r2 (name_lacks_space r.name g.named))
    ∙ ap (λ o. o >>= region_3 (r.name, r2)) (cut_at 32 (address r.load) r3 (address_lacks_space r.load))
    ∙ ap (λ o. o >>= region_4 (r.name, r2) (address r.load, r3)) (cut_at 32 (address r.base) r4 (address_lacks_space r.base))
    ∙ ap (λ o. o >>= region_5 (r.name, r2) (address r.load, r3) (address r.base, r4)) (cut_at 32 (address r.length) (address r.zero) (address_lacks_space r.length))
    ∙ region_of_read r g

pub region_lacks : (r : MapRegion) → IsRegion r → lacks 10 (region_line r) ≡ true
region_lacks r g =
    let r4 = both_lack (address r.length) (address r.zero) (address_lacks_feed r.length) (address_lacks_feed r.zero) in
    let r3 = both_lack (address r.base) (address r.length ++ 32 ∷ address r.zero) (address_lacks_feed r.base) r4 in
    let r2 = both_lack (address r.load) (address r.base ++ 32 ∷ (address r.length ++ 32 ∷ address r.zero)) (address_lacks_feed r.load) r3 in
    both_lack r.name (address r.load ++ 32 ∷ (address r.base ++ 32 ∷ (address r.length ++ 32 ∷ address r.zero))) (name_lacks_feed r.name g.named) r2

record RegionFields (name load base size zeros : List ℕ) (r : MapRegion) : Type 0 where
  good : IsRegion r
  named : name ≡ r.name
  loaded : load ≡ address r.load
  based : base ≡ address r.base
  sized : size ≡ address r.length
  zeroed : zeros ≡ address r.zero

region_made : List ℕ → ℕ → ℕ → ℕ → ℕ → MapRegion
region_made name l a n z = record { name = name; load = l; base = a; length = n; zero = z }

region_d : List ℕ → ℕ → ℕ → ℕ → ℕ → Option MapRegion
region_d name l a n z = cond (nat_le (a + n + z) (2 ^ 32)) (Some (region_made name l a n z)) None

region_c : List ℕ → List ℕ → ℕ → ℕ → ℕ → Option MapRegion
region_c name zeros l a n = address_of zeros >>= region_d name l a n

region_b : List ℕ → List ℕ → List ℕ → ℕ → ℕ → Option MapRegion
region_b name size zeros l a = address_of size >>= region_c name zeros l a

region_a : List ℕ → List ℕ → List ℕ → List ℕ → ℕ → Option MapRegion
region_a name base size zeros l = address_of base >>= region_b name size zeros l

region_of_is : (name load base size zeros : List ℕ) (r : MapRegion) → region_of name load base size zeros ≡ Some r → RegionFields name load base size zeros r
unfolding region_a region_b region_c region_d region_made
region_of_is name load base size zeros r h =
    let w = when (is_name name) (address_of load >>= region_a name base size zeros) r h in
    let l = came_through (region_a name base size zeros) (address_of load) r w.1 in
    let a = came_through (region_b name size zeros l.0) (address_of base) r l.2 in
    let n = came_through (region_c name zeros l.0 a.0) (address_of size) r a.2 in
    let z = came_through (region_d name l.0 a.0 n.0) (address_of zeros) r n.2 in
    let s = when (nat_le (a.0 + n.0 + z.0) (2 ^ 32)) (Some (region_made name l.0 a.0 n.0 z.0)) r z.2 in
    let il = address_is load l.0 l.1 in
    let ia = address_is base a.0 a.1 in
    let is = address_is size n.0 n.1 in
    let iz = address_is zeros z.0 z.1 in
    let k : MapRegion = region_made name l.0 a.0 n.0 z.0 in
    let g : IsRegion k = record { named = w.0; load_fits = il.small; base_fits = ia.small; length_fits = is.small; zero_fits = iz.small; in_space = leb-true (a.0 + n.0 + z.0) (2 ^ 32) s.0 } in
    let f : RegionFields name load base size zeros k = record { good = g; named = refl; loaded = il.spelled; based = ia.spelled; sized = is.spelled; zeroed = iz.spelled } in
    subst (λ x. RegionFields name load base size zeros x) (same k r s.1) f

pub region_is : (line : List ℕ) (r : MapRegion) → region_in line ≡ Some r → IsRegion r × (line ≡ region_line r)
unfolding region_1 region_2 region_3 region_4 region_5
region_is line r h =
    let a = came_through region_1 (cut 32 line) r h in
    let w = when (bytes_eq a.0.0 (codes "exec")) (cut 32 a.0.1 >>= region_2) r a.2 in
    let b = came_through region_2 (cut 32 a.0.1) r w.1 in
    let c = came_through (region_3 b.0) (cut 32 b.0.1) r b.2 in
    let d = came_through (region_4 b.0 c.0) (cut 32 c.0.1) r c.2 in
    let e = came_through (region_5 b.0 c.0 d.0) (cut 32 d.0.1) r d.2 in
    let f = region_of_is b.0.0 c.0.0 d.0.0 e.0.0 e.0.1 r e.2 in
    let t4 = address r.length ++ 32 ∷ address r.zero in
    let t3 = address r.base ++ 32 ∷ t4 in
    let t2 = address r.load ++ 32 ∷ t3 in
    let e5 : d.0.1 ≡ t4 = (cut_is 32 d.0.1 e.0 e.1).whole ∙ ap (λ x. x ++ 32 ∷ e.0.1) f.sized ∙ ap (λ x. address r.length ++ 32 ∷ x) f.zeroed in
    let e4 : c.0.1 ≡ t3 = (cut_is 32 c.0.1 d.0 d.1).whole ∙ ap (λ x. x ++ 32 ∷ d.0.1) f.based ∙ ap (λ x. address r.base ++ 32 ∷ x) e5 in
    let e3 : b.0.1 ≡ t2 = (cut_is 32 b.0.1 c.0 c.1).whole ∙ ap (λ x. x ++ 32 ∷ c.0.1) f.loaded ∙ ap (λ x. address r.load ++ 32 ∷ x) e4 in
    let e2 : a.0.1 ≡ r.name ++ 32 ∷ t2 = (cut_is 32 a.0.1 b.0 b.1).whole ∙ ap (λ x. x ++ 32 ∷ b.0.1) f.named ∙ ap (λ x. r.name ++ 32 ∷ x) e3 in
    (f.good, (cut_is 32 line a.0 a.1).whole ∙ ap (λ x. x ++ 32 ∷ a.0.1) (equal a.0.0 (codes "exec") w.0) ∙ ap (λ x. codes "exec" ++ 32 ∷ x) e2)

-- ---- the start

start_2 : ℕ → Option ℕ
start_2 a = cond (a % 4 == 0) (Some a) None

start_1 : Pair → Option ℕ
start_1 word = cond (bytes_eq word.0 (codes "start")) (address_of word.1 >>= start_2) None

pub start_read : (a : ℕ) → a < 2 ^ 32 → a % 4 ≡ 0 → start_in (start_line a) ≡ Some a
unfolding start_2
start_read a small aligned = ap (λ o. o >>= start_2) (address_read a small) ∙ ap (λ b. cond b (Some a) None) (eq-eqb (a % 4) 0 aligned)

pub start_lacks : (a : ℕ) → lacks 10 (start_line a) ≡ true
start_lacks a = address_lacks_feed a

pub record IsStart (line : List ℕ) (a : ℕ) : Type 0 where
  pub spelled : line ≡ start_line a
  pub small : a < 2 ^ 32
  pub aligned : a % 4 ≡ 0

pub start_is : (line : List ℕ) (a : ℕ) → start_in line ≡ Some a → IsStart line a
unfolding start_1 start_2
start_is line a h =
    let p = came_through start_1 (cut 32 line) a h in
    let w = when (bytes_eq p.0.0 (codes "start")) (address_of p.0.1 >>= start_2) a p.2 in
    let n = came_through start_2 (address_of p.0.1) a w.1 in
    let t = when (n.0 % 4 == 0) (Some n.0) a n.2 in
    let i = address_is p.0.1 n.0 n.1 in
    let e = same n.0 a t.1 in
    record {
      spelled = (cut_is 32 line p.0 p.1).whole ∙ ap (λ x. x ++ 32 ∷ p.0.1) (equal p.0.0 (codes "start") w.0) ∙ ap (λ x. codes "start" ++ 32 ∷ x) (i.spelled ∙ ap address e);
      small = subst (λ k. k < 2 ^ 32) e i.small;
      aligned = subst (λ k. k % 4 ≡ 0) e (eqb-true (n.0 % 4) 0 t.0);
    }

-- ---- the entry

state_read : (thumb : Bool) → state_of (state_word thumb) ≡ Some thumb
state_read true = refl
state_read false = refl

state_is : (word : List ℕ) (thumb : Bool) → state_of word ≡ Some thumb → word ≡ state_word thumb
state_is word thumb h = by_test (bytes_eq word (codes "ARM")) refl (bytes_eq word (codes "THUMB")) refl h where
  by_test : (a : Bool) → bytes_eq word (codes "ARM") ≡ a → (b : Bool) → bytes_eq word (codes "THUMB") ≡ b → cond a (Some false) (cond b (Some true) None) ≡ Some thumb → word ≡ state_word thumb
  by_test true ea b eb k = equal word (codes "ARM") ea ∙ ap state_word (same false thumb k)
  by_test false ea true eb k = equal word (codes "THUMB") eb ∙ ap state_word (same true thumb k)
  by_test false ea false eb k = absurd (cc)

abbrev pub Told : Type 0
Told = ℕ × Bool

entry_4 : ℕ → Bool → Option Told
entry_4 a thumb = Some (a, thumb)

entry_3 : List ℕ → ℕ → Option Told
entry_3 word a = state_of word >>= entry_4 a

entry_2 : Pair → Option Told
entry_2 field = address_of field.0 >>= entry_3 field.1

entry_1 : Pair → Option Told
entry_1 word = cond (bytes_eq word.0 (codes "entry")) (cut 32 word.1 >>= entry_2) None

pub entry_read : (a : ℕ) (thumb : Bool) → a < 2 ^ 32 → entry_in (entry_line a thumb) ≡ Some (a, thumb)
unfolding entry_2 entry_3 entry_4
entry_read a thumb small =
    ap (λ o. o >>= entry_2) (cut_at 32 (address a) (state_word thumb) (address_lacks_space a))
    ∙ ap (λ o. o >>= entry_3 (state_word thumb)) (address_read a small) ∙ ap (λ o. o >>= entry_4 a) (state_read thumb)

state_lacks : (thumb : Bool) → lacks 10 (state_word thumb) ≡ true
state_lacks true = refl
state_lacks false = refl

pub entry_lacks : (a : ℕ) (thumb : Bool) → lacks 10 (entry_line a thumb) ≡ true
entry_lacks a thumb = both_lack (address a) (state_word thumb) (address_lacks_feed a) (state_lacks thumb)

pub record IsEntry (line : List ℕ) (e : Told) : Type 0 where
  pub spelled : line ≡ entry_line e.0 e.1
  pub small : e.0 < 2 ^ 32

pub entry_is : (line : List ℕ) (e : Told) → entry_in line ≡ Some e → IsEntry line e
unfolding entry_1 entry_2 entry_3 entry_4
entry_is line e h =
    let p = came_through entry_1 (cut 32 line) e h in
    let w = when (bytes_eq p.0.0 (codes "entry")) (cut 32 p.0.1 >>= entry_2) e p.2 in
    let q = came_through entry_2 (cut 32 p.0.1) e w.1 in
    let n = came_through (entry_3 q.0.1) (address_of q.0.0) e q.2 in
    let s = came_through (entry_4 n.0) (state_of q.0.1) e n.2 in
    let i = address_is q.0.0 n.0 n.1 in
    let k : Told = (n.0, s.0) in
    let f : IsEntry line k = record {
      spelled = (cut_is 32 line p.0 p.1).whole ∙ ap (λ x. x ++ 32 ∷ p.0.1) (equal p.0.0 (codes "entry") w.0)
          ∙ ap (λ x. codes "entry" ++ 32 ∷ x) ((cut_is 32 p.0.1 q.0 q.1).whole ∙ ap (λ x. x ++ 32 ∷ q.0.1) i.spelled ∙ ap (λ x. address n.0 ++ 32 ∷ x) (state_is q.0.1 s.0 s.1));
      small = i.small;
    } in
    subst (λ x. IsEntry line x) (same k e s.2) f

-- ---- the bound

bound_1 : Pair → Option ℕ
bound_1 word = cond (bytes_eq word.0 (codes "bound")) (decimal_of word.1) None

pub bound_read : (n : ℕ) → n < 2 ^ 64 → bound_in (bound_line n) ≡ Some n
bound_read n small = decimal_read n small

pub bound_lacks : (n : ℕ) → n < 2 ^ 64 → lacks 10 (bound_line n) ≡ true
bound_lacks n small = decimal_lacks_feed n small

pub record IsBound (line : List ℕ) (n : ℕ) : Type 0 where
  pub spelled : line ≡ bound_line n
  pub small : n < 2 ^ 64

pub bound_is : (line : List ℕ) (n : ℕ) → bound_in line ≡ Some n → IsBound line n
unfolding bound_1
bound_is line n h =
    let p = came_through bound_1 (cut 32 line) n h in
    let w = when (bytes_eq p.0.0 (codes "bound")) (decimal_of p.0.1) n p.2 in
    let i = decimal_is p.0.1 n w.1 in
    record {
      spelled = (cut_is 32 line p.0 p.1).whole ∙ ap (λ x. x ++ 32 ∷ p.0.1) (equal p.0.0 (codes "bound") w.0) ∙ ap (λ x. codes "bound" ++ 32 ∷ x) i.spelled;
      small = i.small;
    }
