-- The grammar of scatter descriptions, over the parts of a text: which parts spell which load regions (SDT 2.50
-- Reference Guide, scatter loading). Which numbers, names and counts a description may have stands apart.
use Rattle.std.specs.Prelude.{◌≡◌, ℕ, ◌<◌, true, List, [], ◌∷◌, ◌++◌, length, codes, Option, Some, None}
use Rattle.std.specs.List.{flat_map}
use Rattle.place_model.specs.declared.scatter.Edge.{Edge}
use Rattle.place_model.specs.declared.scatter.Edge.TheVariants.{First, Plain, Last}
use Rattle.place_model.specs.declared.scatter.ScatterLoad.{ScatterLoad}
use Rattle.place_model.specs.declared.scatter.ScatterRegion.{ScatterRegion}
use Rattle.place_model.specs.declared.scatter.Selection.{Selection}
use Rattle.scatter_text.specs.Parts.{Part, parts_of}
use Rattle.scatter_text.specs.Words.{told, is_region_name, module_of, number_of, base_of, choice_of, edge_of}

-- the parts are those of the things, one thing behind the other
abbrev pub AreOf : {X : Type 0} → (X → List Part → Type 0) → List X → List Part → Type 0
AreOf IsOf [] parts = parts ≡ []
AreOf IsOf (x ∷ xs) parts =
    (front : List Part) × (rest : List Part) × (parts ≡ front ++ rest) × IsOf x front × AreOf IsOf xs rest

-- ---- selections

abbrev pub IsEdgeWord : Edge → List Part → Type 0
IsEdgeWord edge parts =
    (comma : Part) × (word : Part) × (parts ≡ comma ∷ word ∷ []) × (comma.text ≡ codes ",") × (edge_of word.text ≡ Some edge)

-- what follows a selector: nothing, or a comma and a word for its edge
abbrev pub IsEdge : Edge → List Part → Type 0
IsEdge Plain parts = parts ≡ []
IsEdge First parts = IsEdgeWord First parts
IsEdge Last parts = IsEdgeWord Last parts

-- a sign, a selector and its edge
pub record IsSelection (sign : List ℕ) (home : Option (List ℕ)) (s : Selection) (parts : List Part) : Type 0 where
  pub before : Part
  pub word : Part
  pub behind : List Part
  pub all : parts ≡ before ∷ word ∷ behind
  pub signed : before.text ≡ sign
  pub chosen : choice_of word.text ≡ Some s.choice
  pub line : s.line ≡ told word.line
  pub «module» : s.«module» ≡ home
  pub edge : IsEdge s.edge behind

-- the first behind a parenthesis, the others each behind a comma
abbrev pub AreSelections : List ℕ → Option (List ℕ) → List Selection → List Part → Type 0
AreSelections sign home [] parts = parts ≡ []
AreSelections sign home (s ∷ ss) parts =
    (front : List Part) × (rest : List Part) × (parts ≡ front ++ rest) × IsSelection sign home s front
    × AreSelections (codes ",") home ss rest

-- module(selector, ..)
pub record IsGroup (selections : List Selection) (parts : List Part) : Type 0 where
  pub home : Option (List ℕ)
  pub name : Part
  pub inner : List Part
  pub close : Part
  pub all : parts ≡ name ∷ (inner ++ close ∷ [])
  pub named : module_of name.text ≡ Some home
  pub some : 0 < length selections
  pub selected : AreSelections (codes "(") home selections inner
  pub closed : close.text ≡ codes ")"

-- ---- regions

-- a maximum, where there is one
abbrev pub IsMax : Option ℕ → List Part → Type 0
IsMax None parts = parts ≡ []
IsMax (Some n) parts = (number : Part) × (parts ≡ number ∷ []) × (number_of number.text ≡ Some n)

-- name, base and maximum, and something in braces
pub record IsBraced (name : List ℕ) (max : Option ℕ) (IsBase : Part → Type 0) (IsBody : List Part → Type 0) (parts : List Part) : Type 0 where
  pub first : Part
  pub base : Part
  pub limit : List Part
  pub open_ : Part
  pub body : List Part
  pub close : Part
  pub all : parts ≡ first ∷ base ∷ (limit ++ open_ ∷ (body ++ close ∷ []))
  pub named : is_region_name name ≡ true
  pub name_is : first.text ≡ name
  pub based : IsBase base
  pub limited : IsMax max limit
  pub opened : open_.text ≡ codes "{"
  pub filled : IsBody body
  pub closed : close.text ≡ codes "}"

-- NAME base [max] { selections }
pub record IsRegion (r : ScatterRegion) (parts : List Part) : Type 0 where
  pub groups : List (List Selection)
  pub selections : r.selections ≡ flat_map (λ g. g) groups
  pub braced : IsBraced r.name r.max (λ p. base_of p.text ≡ Some r.base) (AreOf IsGroup groups) parts

-- NAME base [max] { execution regions }
abbrev pub IsLoad : ScatterLoad → List Part → Type 0
IsLoad l parts = IsBraced l.name l.max (λ p. number_of p.text ≡ Some l.base) (AreOf IsRegion l.regions) parts

-- the text spells the description, by the grammar alone
abbrev pub Spells : List ℕ → List ScatterLoad → Type 0
Spells text loads = AreOf IsLoad loads (parts_of text)
