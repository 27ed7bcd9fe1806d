-- One link that is made: an ARM image file at 0x8000 of Thumb code that holds its own address and is entered at its begin, so
-- that the header has a veneer. Each premise is met.
use Rattle.std.proofs.Common.{zero, suc, true, false, List, [], ◌∷◌, refl, arith, codes, Some, None}
use Rattle.sdt_word.specs.Bytes.{bytes_of}
use Rattle.aof_object.specs.declared.records.Object.{Object}
use Rattle.aof_object.specs.Validity.{IsValid}
use Rattle.patch_model.specs.Reaches.{HasVeneer}
use Rattle.place_model.specs.declared.scatter.Kind.{Kind}
use Rattle.place_model.specs.declared.scatter.Kind.TheVariants as kind
use Rattle.link_model.specs.declared.placing.Assigned.{Assigned}
use Rattle.link_model.specs.declared.placing.Placement.{Placement}
use Rattle.link_model.specs.declared.placing.Veneer.{Veneer}
use Rattle.link_model.specs.declared.selection.Linked.{Linked}
use Rattle.link_model.specs.declared.selection.Named.{Named}
use Rattle.link_model.specs.Members.{link_of}
use Rattle.link_place.specs.Placed.{placement_of}
use Rattle.link_apply.specs.Laws.{AreBytes}
use Rattle.stand_model.proofs.OneWord.{word_area}
use Rattle.stand_model.proofs.Rows.{here}
use Rattle.link_laws.specs.Placing.{link_plan}
use Rattle.link_laws.specs.Joins.{IsMade, given_in}
use Rattle.link_laws.proofs.Made.AppliedLemmas.{made_is_applied}

-- ---- AREA words, CODE, THUMB; EXPORT here; ENTRY; here DCD here

abbrev pub object : Named Object
object = record {
  name = codes "a";
  «module» = codes "a";
  value = record { areas = word_area 0x100202 0 0x82000000 ∷ []; symbols = here ∷ []; entry = Some (record { area = 0; offset = 0 }) };
}

abbrev pub linked : Linked
linked = record {
  objects = object ∷ [];
  definitions = (record { name = codes "here"; object = 0; symbol = 0 }) ∷ [];
  entry = record { object = 0; area = 0; offset = 0; thumb = true };
}

pub valid : IsValid object.value
valid = record {
  areas = (
    record {
      fresh = tt;
      permitted = refl;
      alignment_least = omega arith;
      alignment_most = omega arith;
      whole_words = refl;
      size_most = omega arith;
      relocs_have_bytes = refl;
    },
    tt,
  );
  contents = (record { name = (λ e. absurd (omega arith), (λ e. absurd (omega arith), (λ e. absurd (omega arith), (λ e. absurd (omega arith), (λ e. absurd (omega arith), tt))))); bytes = refl; relocs = (record { form = refl; index = omega arith }, tt) }, tt);
  symbols = (record { fresh = λ e. tt; permitted = refl; scope = λ e. absurd (omega arith); lives = λ e. omega arith }, tt);
  symbol_names = ((λ e. absurd (omega arith), (λ e. absurd (omega arith), (λ e. absurd (omega arith), (λ e. absurd (omega arith), tt)))), tt);
  entry = (omega arith, refl);
}

pub are_bytes : AreBytes (bytes_of 0 4)
are_bytes zero = omega arith
are_bytes (suc zero) = omega arith
are_bytes (suc (suc zero)) = omega arith
are_bytes (suc (suc (suc zero))) = omega arith
are_bytes (suc (suc (suc (suc i)))) = omega arith

-- ---- it stands in RW, behind the header and its veneer

abbrev aif : Kind
aif = kind.Aif 0x8000 false

abbrev assigned : Assigned
assigned = record { regions = [] ∷ (record { object = 0; area = 0 } ∷ []) ∷ [] ∷ [] }

abbrev veneers : List Veneer
veneers = (record { region = 0; area = record { object = 0; area = 0 }; offset = 0; thumb = true }) ∷ []

abbrev placement : Placement
placement = placement_of (link_plan aif linked assigned.regions veneers)

pub made : IsMade aif None linked assigned veneers placement
made = record {
  valid = (valid, tt);
  bytes = ((are_bytes, tt), tt);
  loads = (refl, tt);
  bases = (refl, (refl, (refl, tt)));
  entered = record { object = object; at = refl; entry = refl; state = refl };
  assigned = refl;
  planned = refl;
  placed = refl;
  sound = refl;
}

-- its veneer, behind the header, leads to the entry
leads : HasVeneer 0x8080 0x808C true ((given_in (link_of linked) placement).veneer 0 (record { object = 0; area = 0; offset = 0 }) true)
leads = (made_is_applied aif None linked assigned veneers placement made).veneers.0.1.0
