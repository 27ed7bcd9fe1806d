-- Worked descriptions: which regions take the areas, where everything stands, and what is refused. The numbers
-- are worked out by hand, for a startup code of 42 words.
use Rattle.std.proofs.Common.{◌≡◌, ℕ, ◌+◌, ◌^◌, ◌≤◌, true, false, List, [], ◌∷◌, Option, Some, None, refl, arith}
use Rattle.std.specs.Prelude.{codes, map}
use Rattle.sdt_word.specs.declared.ranges.Range32.{Range32}
use Rattle.sdt_fault.specs.declared.kinds.Quantity.TheVariants.{ImageBytes, AifBytes}
use Rattle.sdt_fault.specs.declared.refusal.Refusal.{Refusal}
use Rattle.sdt_fault.specs.declared.refusal.Refusal.TheVariants.{NoRoot, Overfull, Overlap, CopyConflict, TooLarge, NotWritable, Unassigned, Ambiguous}
use Rattle.boot_code.specs.Startup.{startup_steps, table_list}
use Rattle.boot_code.specs.Laws.{bound_of}
use Rattle.place_model.specs.declared.scatter.Choice.{Choice}
use Rattle.place_model.specs.declared.scatter.Choice.TheVariants as choice
use Rattle.place_model.specs.declared.scatter.Edge.{Edge}
use Rattle.place_model.specs.declared.scatter.Edge.TheVariants as edge
use Rattle.place_model.specs.declared.scatter.Kind.{Kind}
use Rattle.place_model.specs.declared.scatter.Kind.TheVariants as kind
use Rattle.place_model.specs.declared.scatter.ScatterBase.{ScatterBase}
use Rattle.place_model.specs.declared.scatter.ScatterBase.TheVariants.{At, Plus}
use Rattle.place_model.specs.declared.scatter.ScatterRegion.{ScatterRegion}
use Rattle.place_model.specs.declared.scatter.Selection.{Selection}
use Rattle.place_model.specs.Items.{Item}
use Rattle.place_model.specs.Assignment.{offers_of, lists_of, assignment_refusal}
use Rattle.place_model.specs.Plans.{Contents, Planned, length_of, zero_length_of, Plan, regions_of, copies_of, parts_of, table_words, plan_of, area_address, boot_address}
use Rattle.place_model.specs.Faults.{place_refusal}

-- ---- areas and descriptions

abbrev pub area : ℕ → List ℕ → ℕ → ℕ → Item
area number name attributes size = record { object = 0; area = number; «module» = codes "t.o"; name = name; attributes = attributes; size = size }

abbrev pub code : ℕ → Item
code size = area 0 (codes "A") 0x2202 size

abbrev pub any : Choice → Selection
any class = record { line = 1; «module» = None; choice = class; edge = edge.Plain }

abbrev pub region : List ℕ → ScatterBase → List Selection → ScatterRegion
region name base selections = record { name = name; base = base; max = None; selections = selections }

abbrev pub code_region : ScatterRegion
code_region = region (codes "X") (At 0x8000) (any choice.Ro ∷ [])

-- one load region at 0x8000
abbrev pub image : List ScatterRegion → Kind
image regions = kind.Scatter (record { loads = (record { name = codes "L"; base = 0x8000; max = None; regions = regions }) ∷ [] })

abbrev pub contents : Kind → List Item → Contents
contents k items = record { areas = lists_of k items; veneers = [] }

abbrev pub plan : Kind → List Item → Plan
plan k items = plan_of k (contents k items)

-- load and execution address, length and zero length
abbrev pub shape : Planned → ℕ × ℕ × ℕ × ℕ
shape r = (r.load, r.base, length_of r, zero_length_of r)

abbrev pub shapes : Kind → List Item → List (ℕ × ℕ × ℕ × ℕ)
shapes k items = map shape (regions_of (plan k items))

abbrev pub refusal : Kind → List Item → Option Refusal
refusal k items = place_refusal k None (plan k items)

-- the shapes of all regions, the words of the table, the steps of the startup code, and what is refused
pub record Outcome : Type 0 where
  pub shapes : List (ℕ × ℕ × ℕ × ℕ)
  pub table : ℕ
  pub steps : ℕ
  pub refused : Option Refusal

abbrev pub outcome : Kind → List Item → Outcome
outcome k items = record {
  shapes = shapes k items;
  table = table_words k (contents k items);
  steps = startup_steps (copies_of (plan k items)) (parts_of (plan k items));
  refused = refusal k items;
}

-- where areas stand, by the numbers of object and area
abbrev pub addresses : Plan → List (ℕ × ℕ) → List (Option ℕ)
addresses p numbers = map (λ n. area_address p n.0 n.1) numbers

-- ---- one copy and one zero part

abbrev pub copy_and_zero : Kind
copy_and_zero = image (code_region ∷ region (codes "Y") (At 0x9000) (any choice.Rw ∷ any choice.Zi ∷ []) ∷ [])

abbrev pub three_areas : List Item
three_areas = code 4 ∷ area 1 (codes "b") 2 4 ∷ area 2 (codes "z") 0x1002 8 ∷ []

copy_and_zero-outcome : outcome copy_and_zero three_areas ≡ record { shapes = (0x8000, 0x8000, 0xD8, 0) ∷ (0x80D8, 0x9000, 4, 8) ∷ []; table = 11; steps = 35; refused = None }
copy_and_zero-outcome = refl

copy_and_zero-table : table_list (copies_of (plan copy_and_zero three_areas)) (parts_of (plan copy_and_zero three_areas)) 0x8000
    ≡ 0x80D8 ∷ 0x9000 ∷ 4 ∷ 0 ∷ 0 ∷ 0 ∷ 0x9004 ∷ 8 ∷ 0 ∷ 0 ∷ 0x8000 ∷ []
copy_and_zero-table = refl

copy_and_zero-boot : boot_address (plan copy_and_zero three_areas) ≡ Some 0x8004
copy_and_zero-boot = refl

copy_and_zero-areas : addresses (plan copy_and_zero three_areas) ((0, 0) ∷ (0, 1) ∷ (0, 2) ∷ []) ≡ Some 0x8000 ∷ Some 0x9000 ∷ Some 0x9004 ∷ []
copy_and_zero-areas = refl

copy_and_zero-bound : bound_of (copies_of (plan copy_and_zero three_areas)) (parts_of (plan copy_and_zero three_areas)) ≡ 70
copy_and_zero-bound = refl

-- what is written must lie in RAM, where that is told
abbrev pub range : (base size : ℕ) → base + size ≤ 2 ^ 32 → Range32
range base size h = record { base = base; size = size; in_space = h }

in_ram : place_refusal copy_and_zero (Some (range 0x9000 0x10 (omega arith) ∷ [])) (plan copy_and_zero three_areas) ≡ None
in_ram = refl

outside_ram : place_refusal copy_and_zero (Some (range 0x9000 8 (omega arith) ∷ [])) (plan copy_and_zero three_areas) ≡ Some (NotWritable (codes "Y") 0x9008)
outside_ram = refl

in_two_parts_of_ram : place_refusal copy_and_zero (Some (range 0x9008 8 (omega arith) ∷ range 0x9000 8 (omega arith) ∷ [])) (plan copy_and_zero three_areas) ≡ None
in_two_parts_of_ram = refl

-- ---- a copy over its own source

abbrev pub over_source : Kind
over_source = image (code_region ∷ region (codes "Y") (Plus 4) (any choice.Rw ∷ []) ∷ [])

abbrev pub with_words : ℕ → List Item
with_words size = code 4 ∷ area 1 (codes "b") 2 size ∷ []

over_source-eight_words : outcome over_source (with_words 32) ≡ record { shapes = (0x8000, 0x8000, 0xD0, 0) ∷ (0x80D0, 0x80D4, 32, 0) ∷ []; table = 9; steps = 23; refused = None }
over_source-eight_words = refl

over_source-nine_words : outcome over_source (with_words 36) ≡ record { shapes = (0x8000, 0x8000, 0xD0, 0) ∷ (0x80D0, 0x80D4, 36, 0) ∷ []; table = 9; steps = 30; refused = None }
over_source-nine_words = refl

-- ---- two copies

abbrev pub named : List ℕ → Selection
named name = record { line = 1; «module» = None; choice = choice.Named name; edge = edge.Plain }

abbrev pub two_copies : ℕ → ℕ → Kind
two_copies p q = image (code_region ∷ region (codes "P") (At p) (named (codes "p") ∷ []) ∷ region (codes "Q") (At q) (named (codes "q") ∷ []) ∷ [])

abbrev pub two_areas : ℕ → List Item
two_areas size = code 4 ∷ area 1 (codes "p") 2 size ∷ area 2 (codes "q") 2 4 ∷ []

copy_conflict-shapes : shapes (two_copies 0x80E0 0x9000) (two_areas 4) ≡ (0x8000, 0x8000, 0xDC, 0) ∷ (0x80DC, 0x80E0, 4, 0) ∷ (0x80E0, 0x9000, 4, 0) ∷ []
copy_conflict-shapes = refl

copy_conflict : refusal (two_copies 0x80E0 0x9000) (two_areas 4) ≡ Some (CopyConflict (codes "P") (codes "Q") 0x80E0)
copy_conflict = refl

-- the least table has 11 words, though its rows take nine: with it Q is a root region
accepted_copies : outcome (two_copies 0x9000 0x80DC) (two_areas 4)
    ≡ record { shapes = (0x8000, 0x8000, 0xD8, 0) ∷ (0x80D8, 0x9000, 4, 0) ∷ (0x80DC, 0x80DC, 4, 0) ∷ []; table = 11; steps = 25; refused = None }
accepted_copies = refl

over_earlier_source : outcome (two_copies 0x9000 0x80DC) (two_areas 16)
    ≡ record { shapes = (0x8000, 0x8000, 0xDC, 0) ∷ (0x80DC, 0x9000, 16, 0) ∷ (0x80EC, 0x80DC, 4, 0) ∷ []; table = 12; steps = 50; refused = None }
over_earlier_source = refl

-- ---- regions that are too small

abbrev pub with_maximum : ℕ → Kind
with_maximum most = image (code_region ∷ (record { name = codes "Y"; base = At 0x9000; max = Some most; selections = any choice.Rw ∷ [] }) ∷ [])

maximum-reached : refusal (with_maximum 0x10) (with_words 0x10) ≡ None
maximum-reached = refl

maximum-passed : refusal (with_maximum 0x10) (with_words 0x14) ≡ Some (Overfull (codes "Y") 0x14 0x10)
maximum-passed = refl

abbrev pub at_the_end : Kind
at_the_end = image (code_region ∷ region (codes "Y") (At 0xFFFFFFF0) (any choice.Rw ∷ []) ∷ [])

memory-filled : refusal at_the_end (with_words 0x10) ≡ None
memory-filled = refl

memory-passed : refusal at_the_end (with_words 0x14) ≡ Some (Overfull (codes "Y") 0x14 0x10)
memory-passed = refl

-- behind a region that ends with memory: an empty one at 2^32, and one above
abbrev pub behind_the_end : ℕ → Kind
behind_the_end offset = image (code_region ∷ region (codes "Y") (At 0xFFFFFFF0) (any choice.Rw ∷ []) ∷ region (codes "Z") (Plus offset) (any choice.Zi ∷ []) ∷ [])

empty-at_the_end : refusal (behind_the_end 0) (with_words 0x10) ≡ None
empty-at_the_end = refl

empty-above_the_end : refusal (behind_the_end 4) (with_words 0x10) ≡ Some (Overfull (codes "Z") 0 0)
empty-above_the_end = refl

-- above 2^32 no declared maximum is told
abbrev pub declared_above : Kind
declared_above = image (code_region ∷ region (codes "Y") (At 0xFFFFFFF0) (any choice.Rw ∷ []) ∷ (record { name = codes "Z"; base = Plus 4; max = Some 8; selections = any choice.Zi ∷ [] }) ∷ [])

declared-above_the_end : refusal declared_above (code 4 ∷ area 1 (codes "w") 2 0x10 ∷ area 2 (codes "z") 0x1002 0x10 ∷ []) ≡ Some (Overfull (codes "Z") 0x10 0)
declared-above_the_end = refl

-- ---- regions that meet

abbrev pub two_regions : ℕ → Kind
two_regions z = image (code_region ∷ region (codes "Y") (At 0x9000) (any choice.Rw ∷ []) ∷ region (codes "Z") (At z) (any choice.Zi ∷ []) ∷ [])

abbrev pub with_zeros : List Item
with_zeros = code 4 ∷ area 1 (codes "b") 2 8 ∷ area 2 (codes "z") 0x1002 8 ∷ []

overlap : refusal (two_regions 0x9004) with_zeros ≡ Some (Overlap (codes "Y") (codes "Z") 0x9004)
overlap = refl

side_by_side : refusal (two_regions 0x9008) with_zeros ≡ None
side_by_side = refl

-- an empty region inside another meets nothing
empty_inside : refusal (two_regions 0x9004) (code 4 ∷ area 1 (codes "b") 2 8 ∷ []) ≡ None
empty_inside = refl

-- the first region must run where it is loaded
no_root : refusal (image (region (codes "X") (At 0x9000) (any choice.Ro ∷ []) ∷ [])) (code 4 ∷ []) ≡ Some (NoRoot (codes "X"))
no_root = refl

-- ---- the program that prints hello

abbrev pub hello : Kind
hello = kind.Scatter (record {
  loads =
      (record {
        name = codes "ROM";
        base = 0;
        max = Some 0x10000;
        regions =
            region (codes "CODE") (At 0) ((record { line = 2; «module» = None; choice = choice.Named (codes "vectors"); edge = edge.First }) ∷ any choice.Ro ∷ [])
            ∷ region (codes "RAM") (At 0x10000) (any choice.Rw ∷ any choice.Zi ∷ []) ∷ [];
      }) ∷ [];
})

abbrev pub of_object : ℕ → ℕ → List ℕ → ℕ → ℕ → Item
of_object object number name attributes size =
    record { object = object; area = number; «module» = codes "o"; name = name; attributes = attributes; size = size }

abbrev pub hello_areas : List Item
hello_areas =
    of_object 0 0 (codes "vectors") 0x2202 8 ∷ of_object 1 0 (codes "main") 0x2202 0x18 ∷ of_object 1 1 (codes "words") 2 8
    ∷ of_object 1 2 (codes "stack") 0x1002 0x400 ∷ of_object 2 0 (codes "printer") 0x2202 0xC ∷ []

hello-outcome : outcome hello hello_areas ≡ record { shapes = (0, 0, 0x100, 0) ∷ (0x100, 0x10000, 8, 0x400) ∷ []; table = 11; steps = 801; refused = None }
hello-outcome = refl

hello-boot : boot_address (plan hello hello_areas) ≡ Some 0x2C
hello-boot = refl

hello-table : table_list (copies_of (plan hello hello_areas)) (parts_of (plan hello hello_areas)) 8 ≡ 0x100 ∷ 0x10000 ∷ 8 ∷ 0 ∷ 0 ∷ 0 ∷ 0x10008 ∷ 0x400 ∷ 0 ∷ 0 ∷ 8 ∷ []
hello-table = refl

hello-areas : addresses (plan hello hello_areas) ((0, 0) ∷ (1, 0) ∷ (2, 0) ∷ (1, 1) ∷ (1, 2) ∷ []) ≡ Some 0 ∷ Some 8 ∷ Some 0x20 ∷ Some 0x10000 ∷ Some 0x10008 ∷ []
hello-areas = refl

-- ---- without a scatter description

abbrev pub relocatable_aif : ℕ → Kind
relocatable_aif base = kind.Aif base true

aif-shapes : shapes (relocatable_aif 0x8000) (code 8 ∷ []) ≡ (0x8000, 0x8000, 0x88, 0) ∷ (0x8088, 0x8088, 0, 0) ∷ (0x8088, 0x8088, 0, 0) ∷ []
aif-shapes = refl

aif-area : area_address (plan (relocatable_aif 0x8000) (code 8 ∷ [])) 0 0 ≡ Some 0x8080
aif-area = refl

-- alignment by 16 holds relative to the base of a relocatable image, and else by itself
aligned-relocatable : area_address (plan (relocatable_aif 0x8004) (area 0 (codes "A") 0x2204 8 ∷ [])) 0 0 ≡ Some 0x8084
aligned-relocatable = refl

aligned-fixed : area_address (plan (kind.Aif 0x8004 false) (area 0 (codes "A") 0x2204 8 ∷ [])) 0 0 ≡ Some 0x8090
aligned-fixed = refl

-- ---- selections

abbrev pub of_module : List ℕ → Choice → Selection
of_module home class = record { line = 4; «module» = Some home; choice = class; edge = edge.Plain }

-- a module by its name comes before an area by its name
module_first : lists_of (image (code_region ∷ region (codes "Y") (At 0x9000) (named (codes "b") ∷ []) ∷ region (codes "Z") (At 0xA000) (of_module (codes "t.o") choice.Rw ∷ []) ∷ [])) (with_words 4)
    ≡ (code 4 ∷ []) ∷ [] ∷ (area 1 (codes "b") 2 4 ∷ []) ∷ []
module_first = refl

unassigned : assignment_refusal (λ object. codes "t.o") (offers_of (image (code_region ∷ []))) (with_words 4) ≡ Some (Unassigned (codes "t.o") (codes "b"))
unassigned = refl

ambiguous : assignment_refusal (λ object. codes "t.o") (offers_of (image (code_region ∷ region (codes "Y") (At 0x9000) (any choice.Rw ∷ any choice.Rw ∷ []) ∷ []))) (with_words 4)
    ≡ Some (Ambiguous (codes "t.o") (codes "b") 1 1)
ambiguous = refl

-- ---- order, gaps and limits

-- first and last by their selections, then read-only code by name, read-only data, read-write code, read-write
-- data, and zeros behind all of them
abbrev pub edged : Edge → List ℕ → Selection
edged e name = record { line = 1; «module» = None; choice = choice.Named name; edge = e }

region-order : map (λ areas. map (λ i. i.name) areas) (lists_of (image (region (codes "X") (At 0x8000) (edged edge.Last (codes "last") ∷ edged edge.First (codes "first") ∷ any choice.Ro ∷ any choice.Rw ∷ any choice.Zi ∷ []) ∷ []))
    (area 0 (codes "z") 0x1002 4 ∷ area 1 (codes "d") 2 4 ∷ area 2 (codes "c") 0x202 4 ∷ area 3 (codes "r") 0x2002 4 ∷ area 4 (codes "last") 0x2202 4 ∷ area 5 (codes "first") 2 4
    ∷ area 6 (codes "q") 0x2202 4 ∷ area 7 (codes "p") 0x2202 4 ∷ []))
    ≡ (codes "first" ∷ codes "p" ∷ codes "q" ∷ codes "r" ∷ codes "c" ∷ codes "d" ∷ codes "last" ∷ codes "z" ∷ []) ∷ []
region-order = refl

-- the gap before an area of the zero part, which is aligned by 16, belongs to the zero part
abbrev pub aligned_zeros : List Item
aligned_zeros = code 4 ∷ area 1 (codes "b") 2 4 ∷ area 2 (codes "z") 0x1004 8 ∷ []

zero_gap : outcome copy_and_zero aligned_zeros ≡ record { shapes = (0x8000, 0x8000, 0xD8, 0) ∷ (0x80D8, 0x9000, 4, 0x14) ∷ []; table = 11; steps = 44; refused = None }
zero_gap = refl

zero_gap-areas : addresses (plan copy_and_zero aligned_zeros) ((0, 1) ∷ (0, 2) ∷ []) ≡ Some 0x9000 ∷ Some 0x9010 ∷ []
zero_gap-areas = refl

-- an offset counts from behind the zero part, and a load address from behind what is loaded
abbrev pub behind_zeros : Kind
behind_zeros = image (code_region ∷ region (codes "Y") (At 0x9000) (named (codes "b") ∷ any choice.Zi ∷ []) ∷ region (codes "Z") (Plus 0) (named (codes "c") ∷ []) ∷ [])

offset-behind_zeros : outcome behind_zeros (code 4 ∷ area 1 (codes "b") 2 4 ∷ area 2 (codes "z") 0x1002 8 ∷ area 3 (codes "c") 2 4 ∷ [])
    ≡ record { shapes = (0x8000, 0x8000, 0xE4, 0) ∷ (0x80E4, 0x9000, 4, 8) ∷ (0x80E8, 0x900C, 4, 0) ∷ []; table = 14; steps = 50; refused = None }
offset-behind_zeros = refl

-- two files that would meet where they are loaded
abbrev pub two_loads : Kind
two_loads = kind.Scatter (record {
  loads =
      (record { name = codes "L"; base = 0x8000; max = None; regions = code_region ∷ [] })
      ∷ (record { name = codes "M"; base = 0x80C0; max = None; regions = region (codes "Y") (At 0x9000) (any choice.Rw ∷ []) ∷ [] }) ∷ [];
})

load_overlap : refusal two_loads (with_words 4) ≡ Some (Overlap (codes "L") (codes "M") 0x80C0)
load_overlap = refl

-- a load region counts what is loaded alone
abbrev pub load_maximum : ℕ → Kind
load_maximum most = kind.Scatter (record {
  loads =
      (record {
        name = codes "L";
        base = 0x8000;
        max = Some most;
        regions = code_region ∷ region (codes "Y") (At 0x9000) (any choice.Rw ∷ any choice.Zi ∷ []) ∷ [];
      }) ∷ [];
})

load_maximum-reached : refusal (load_maximum 0xDC) three_areas ≡ None
load_maximum-reached = refl

load_maximum-passed : refusal (load_maximum 0xD8) three_areas ≡ Some (Overfull (codes "L") 0xDC 0xD8)
load_maximum-passed = refl

-- of a declared maximum and memory's end the former is told
both-passed : refusal (image (code_region ∷ (record { name = codes "Y"; base = At 0xFFFFFFF0; max = Some 8; selections = any choice.Rw ∷ [] }) ∷ [])) (with_words 0x14)
    ≡ Some (Overfull (codes "Y") 0x14 8)
both-passed = refl

-- 64 MiB in all, of which the first region has 0xCC bytes
abbrev pub large : Kind
large = image (code_region ∷ region (codes "Y") (At 0x10000000) (any choice.Zi ∷ []) ∷ [])

image_bytes-reached : refusal large (code 4 ∷ area 1 (codes "z") 0x1002 0x3FFFF34 ∷ []) ≡ None
image_bytes-reached = refl

image_bytes-passed : refusal large (code 4 ∷ area 1 (codes "z") 0x1002 0x3FFFF38 ∷ []) ≡ Some (TooLarge ImageBytes 0x4000000)
image_bytes-passed = refl

-- 16 MiB of an AIF, of which header and code have 0x88 bytes
aif_bytes-reached : refusal (relocatable_aif 0x8000) (code 8 ∷ area 1 (codes "z") 0x1002 0xFFFF78 ∷ []) ≡ None
aif_bytes-reached = refl

aif_bytes-passed : refusal (relocatable_aif 0x8000) (code 8 ∷ area 1 (codes "z") 0x1002 0xFFFF7C ∷ []) ≡ Some (TooLarge AifBytes 0x1000000)
aif_bytes-passed = refl

-- without a scatter description no load region is named
plain-passed : refusal (kind.Plain 0xFFFFFFF0) (code 0x10 ∷ area 1 (codes "b") 2 4 ∷ []) ≡ Some (Overfull (codes "RW") 4 0)
plain-passed = refl
