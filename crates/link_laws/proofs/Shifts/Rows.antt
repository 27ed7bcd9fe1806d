-- Worked shifts: which words of an image at 0x8000 name addresses, how often, and the list of its file. The numbers are worked
-- out by hand.
use Rattle.std.proofs.Common.{◌≡◌, ℕ, Bool, true, false, List, [], ◌∷◌, drop, take, codes, refl, Some, None}
use Rattle.sdt_word.specs.Bytes.{bytes_of}
use Rattle.sdt_fault.specs.declared.refusal.Refusal.TheVariants.{NotRelocatable, Unreachable}
use Rattle.aof_object.specs.declared.records.Area.{Area}
use Rattle.aof_object.specs.declared.records.Reloc.{Reloc}
use Rattle.aof_object.specs.declared.records.Symbol.{Symbol}
use Rattle.boot_code.specs.Maps.{bytes_of_words}
use Rattle.image_model.specs.AifFiles.{offsets_of, relocatable_aif, aif_plan}
use Rattle.place_model.specs.Plans.{Contents}
use Rattle.link_model.specs.declared.placing.Placement.{Placement}
use Rattle.link_model.specs.declared.placing.Veneer.{Veneer}
use Rattle.link_model.specs.declared.selection.Linked.{Linked}
use Rattle.link_model.specs.Members.{link_of}
use Rattle.link_items.specs.LinkedItems.{contents_of}
use Rattle.link_place.specs.Placed.{placement_of}
use Rattle.patch_model.specs.Fields.{Home}
use Rattle.link_apply.specs.Flaws.{apply_refusal}
use Rattle.link_values.specs.Shifts.{shifts_of, not_relocatable}
use Rattle.link_laws.specs.Joins.{given_in}

-- ---- one object, whose areas of code are read-only; the first has the entry

abbrev code : ℕ → List ℕ → List Reloc → Area
code attributes words relocs = record { name = codes "A"; attributes = attributes; size = 8; bytes = bytes_of_words words; relocs = relocs }

abbrev reloc : ℕ → ℕ → Reloc
reloc offset word = record { offset = offset; word = word }

abbrev linked : Bool → List Area → List Symbol → Linked
linked thumb areas symbols = record {
  objects = (record { name = codes "o"; «module» = codes "o"; value = record { areas = areas; symbols = symbols; entry = Some (record { area = 0; offset = 0 }) } }) ∷ [];
  definitions = [];
  entry = record { object = 0; area = 0; offset = 0; thumb = thumb };
}

abbrev contents : Linked → List Veneer → Contents
contents l veneers = contents_of l.objects (((record { object = 0; area = 0 }) ∷ []) ∷ [] ∷ [] ∷ []) veneers

abbrev placed : Linked → List Veneer → Placement
placed l veneers = placement_of (aif_plan 0x8000 true (contents l veneers))

abbrev listed : Linked → List Veneer → List ℕ
listed l veneers = offsets_of (shifts_of (link_of l) (placed l veneers)) (aif_plan 0x8000 true (contents l veneers))

-- ---- here SWI 0x11, and DCD here

abbrev relocatable_aif-link : Linked
relocatable_aif-link = linked false (code 0x2202 (0xEF000011 ∷ 0 ∷ []) (reloc 4 0x82000000 ∷ []) ∷ []) []

relocatable_aif-accepted : not_relocatable relocatable_aif-link (placed relocatable_aif-link []) ≡ None
relocatable_aif-accepted = refl

relocatable_aif-shifts : shifts_of (link_of relocatable_aif-link) (placed relocatable_aif-link []) 0x84 ≡ 1
relocatable_aif-shifts = refl

relocatable_aif-other : shifts_of (link_of relocatable_aif-link) (placed relocatable_aif-link []) 0x80 ≡ 0
relocatable_aif-other = refl

relocatable_aif-list : listed relocatable_aif-link [] ≡ 0x84 ∷ []
relocatable_aif-list = refl

-- the word itself, at 0x84, and the file's list, at 0xC4
relocatable_aif-word : take 8 (drop 0x80 (relocatable_aif (aif_plan 0x8000 true (contents relocatable_aif-link [])) 0x8000
    (given_in (link_of relocatable_aif-link) (placed relocatable_aif-link [])) (shifts_of (link_of relocatable_aif-link) (placed relocatable_aif-link []))))
    ≡ bytes_of_words (0xEF000011 ∷ 0x8080 ∷ [])
relocatable_aif-word = refl

relocatable_aif-file : drop 0xC4 (relocatable_aif (aif_plan 0x8000 true (contents relocatable_aif-link [])) 0x8000
    (given_in (link_of relocatable_aif-link) (placed relocatable_aif-link [])) (shifts_of (link_of relocatable_aif-link) (placed relocatable_aif-link [])))
    ≡ bytes_of_words (0x84 ∷ 0xFFFFFFFF ∷ [])
relocatable_aif-file = refl

-- ---- two areas are added to one word

abbrev two_shifts-link : Linked
two_shifts-link = linked false (code 0x2202 (0xEF000011 ∷ 0 ∷ []) (reloc 4 0x82000000 ∷ reloc 4 0x82000000 ∷ []) ∷ []) []

two_shifts_of_one_word : listed two_shifts-link [] ≡ 0x84 ∷ 0x84 ∷ []
two_shifts_of_one_word = refl

-- ---- a Thumb entry: SWI 0x11 and B to itself, and then the veneer that the header calls, at 0x84, whose third word is shifted

abbrev thumb_entry-link : Linked
thumb_entry-link = linked true ((record { name = codes "A"; attributes = 0x102202; size = 4; bytes = bytes_of 0xE7FEDF11 4; relocs = [] }) ∷ []) []

abbrev its_veneer : List Veneer
its_veneer = (record { region = 0; area = record { object = 0; area = 0 }; offset = 0; thumb = true }) ∷ []

thumb_entry_aif : listed thumb_entry-link its_veneer ≡ 0x8C ∷ []
thumb_entry_aif = refl

-- ---- what can't be moved: a half-word that names an address, an absolute number that is relative to the area, and a branch
-- to an absolute symbol; a word that isn't aligned

abbrev absolute : List Symbol
absolute = (record { name = codes "n"; attributes = 5; value = 0x9000; area = None }) ∷ []

abbrev with : Reloc → Linked
with r = linked false (code 0x2202 (0xEF000011 ∷ 0xEAFFFFFE ∷ []) (r ∷ []) ∷ []) absolute

narrow : not_relocatable (with (reloc 4 0x81000000)) (placed (with (reloc 4 0x81000000)) []) ≡ Some (NotRelocatable (codes "o") (codes "A") 4)
narrow = refl

fewer_than_none : not_relocatable (with (reloc 4 0x8E000000)) (placed (with (reloc 4 0x8E000000)) []) ≡ Some (NotRelocatable (codes "o") (codes "A") 4)
fewer_than_none = refl

to_an_absolute_symbol : not_relocatable (with (reloc 4 0x8F000000)) (placed (with (reloc 4 0x8F000000)) []) ≡ Some (NotRelocatable (codes "o") (codes "A") 4)
to_an_absolute_symbol = refl

not_aligned : not_relocatable (with (reloc 2 0x82000000)) (placed (with (reloc 2 0x82000000)) []) ≡ Some (NotRelocatable (codes "o") (codes "A") 2)
not_aligned = refl

-- an absolute number that is added stays as it is
absolute_number : listed (with (reloc 4 0x8A000000)) [] ≡ []
absolute_number = refl

-- ---- a branch of Thumb code to ARM code behind the image: by f + 0x1000 it goes by a veneer, whose own branch reaches from
-- 0x8000; where the image ends near the end of memory, the target's address begins anew at 0, and it reaches that too. A link
-- at that base is refused, since there it is judged without wrapping

abbrev behind_image : Linked
behind_image =
    linked false (code 0x102202 (0xFFFEF000 ∷ 0x0000DF11 ∷ []) (reloc 1 0x8F000000 ∷ [])
    ∷ (record { name = codes "F"; attributes = 0x402202; size = 4; bytes = bytes_of 0xE12FFF1E 4; relocs = [] }) ∷ [])
    ((record { name = codes "f"; attributes = 1; value = 0; area = Some 1 }) ∷ [])

abbrev behind_f : Home
behind_f = record { object = 0; area = 1; offset = 0x1000 }

abbrev behind_at : ℕ → Placement
behind_at base =
    placement_of (aif_plan base true (contents_of behind_image.objects (((record { object = 0; area = 0 }) ∷ (record { object = 0; area = 1 }) ∷ []) ∷ [] ∷ [] ∷ [])
    ((record { region = 0; area = record { object = 0; area = 1 }; offset = 0x1000; thumb = false }) ∷ [])))

behind_image-accepted : apply_refusal behind_image (behind_at 0x8000) ≡ None
behind_image-accepted = refl

behind_image-movable : not_relocatable behind_image (behind_at 0x8000) ≡ None
behind_image-movable = refl

behind_image-veneer : (given_in (link_of behind_image) (behind_at 0x8000)).veneer 0 behind_f false ≡ bytes_of_words (0x46C04778 ∷ 0xEA0003FC ∷ [])
behind_image-veneer = refl

behind_image-moved : (given_in (link_of behind_image) (behind_at 0xFFFFE000)).veneer 0 behind_f false ≡ bytes_of_words (0x46C04778 ∷ 0xEA0003FC ∷ [])
behind_image-moved = refl

behind_image-far : (given_in (link_of behind_image) (behind_at 0xFFFFF000)).veneer 0 behind_f false ≡ bytes_of_words (0x46C04778 ∷ 0xEA0003FC ∷ [])
behind_image-far = refl

behind_image-refused : apply_refusal behind_image (behind_at 0xFFFFF000) ≡ Some (Unreachable (codes "o") (codes "A") 0 (codes "f"))
behind_image-refused = refl
