-- Where the areas of a generated source are placed. This project's.
use Rattle.std.specs.Prelude.{◌≡◌, ℕ, ◌+◌, ◌*◌, ◌≤◌, List, [], ◌∷◌, codes, None, Ok}
use Rattle.place_model.specs.declared.scatter.Choice.TheVariants as choice
use Rattle.place_model.specs.declared.scatter.Edge.TheVariants as edge
use Rattle.place_model.specs.declared.scatter.Kind.{Kind}
use Rattle.place_model.specs.declared.scatter.Kind.TheVariants as kind
use Rattle.place_model.specs.declared.scatter.Scatter.{Scatter}
use Rattle.place_model.specs.declared.scatter.ScatterBase.TheVariants.{At}
use Rattle.place_model.specs.Assignment.{assignment_refusal, offers_of, lists_of}
use Rattle.place_model.specs.Faults.{place_refusal}
use Rattle.place_model.specs.Items.{Item}
use Rattle.place_model.specs.Plans.{Contents, plan_of}
use Rattle.scatter_text.specs.Reading.{scatter_of}

-- the description that the source is linked with
abbrev pub big_description : List ℕ
big_description = codes "ROM 0x0 { CODE 0x0 { *(+RO) } RAM 0x800000 { *(+RW,+ZI) } }"

-- and what it says
abbrev pub big_scatter : Scatter
big_scatter = record {
  loads = (record {
    name = codes "ROM";
    base = 0;
    max = None;
    regions =
        (record {
          name = codes "CODE";
          base = At 0;
          max = None;
          selections =
              (record { line = 1; «module» = None; choice = choice.Ro; edge = edge.Plain }) ∷ [];
        })
        ∷ (record {
          name = codes "RAM";
          base = At 8388608;
          max = None;
          selections = (record { line = 1; «module» = None; choice = choice.Rw; edge = edge.Plain })
              ∷ (record { line = 1; «module» = None; choice = choice.Zi; edge = edge.Plain }) ∷ [];
        })
        ∷ [];
  }) ∷ [];
}

abbrev pub big_kind : Kind
big_kind = kind.Scatter big_scatter

-- the areas `big` and `bigrw`: their attributes are those of read-only code and of data
abbrev pub code_item : List ℕ → ℕ → Item
code_item home n = record { object = 0; area = 0; «module» = home; name = codes "big"; attributes = 8706; size = 4 * (n + 3) }

abbrev pub data_item : List ℕ → ℕ → Item
data_item home n = record { object = 0; area = 1; «module» = home; name = codes "bigrw"; attributes = 2; size = 4 * n }

-- each region with its area
abbrev pub big_contents : List ℕ → ℕ → Contents
big_contents home n = record { areas = (code_item home n ∷ []) ∷ (data_item home n ∷ []) ∷ []; veneers = [] }

abbrev pub TextIsRead : Type 0
TextIsRead = scatter_of big_description ≡ Ok big_scatter

-- no area lacks a region or has two, and the regions have these areas
abbrev pub AreasAreAssigned : Type 0
AreasAreAssigned =
    (home : List ℕ) (n : ℕ) (name : ℕ → List ℕ)
    → (assignment_refusal name (offers_of big_kind) (code_item home n ∷ data_item home n ∷ []) ≡ None)
    × (lists_of big_kind (code_item home n ∷ data_item home n ∷ []) ≡ (code_item home n ∷ []) ∷ (data_item home n ∷ []) ∷ [])

abbrev pub PlanHasNoFault : Type 0
PlanHasNoFault = (home : List ℕ) (n : ℕ) → 1 ≤ n → n ≤ 50000 → place_refusal big_kind None (plan_of big_kind (big_contents home n)) ≡ None
