-- Files as a finite map from names to contents, where a store tells them, and what a read or a write says and
-- leaves. This project's.
use Rattle.std.specs.Prelude.{◌≡◌, ◌≢◌, ◌≤◌, ◌<◌, ℕ, List, length, Option, Some, None, ⊤}
use Rattle.std.specs.Ordering.{nat_cmp}
use Rattle.std.specs.Cmp.Lexicographic.{slice_cmp}
use Rattle.std.specs.FinMap as map
use Rattle.std.specs.FinMap.{FinMap}
use Rattle.sdt_outside.specs.declared.store.StoreError.{StoreError}
use Rattle.sdt_outside.specs.declared.store.StoreError.TheVariants.{Missing, Failed, NoMemory}

abbrev pub Files : Type 0
Files = FinMap (slice_cmp nat_cmp) (List ℕ)

-- what the file with this name holds
abbrev pub content : Files → List ℕ → Option (List ℕ)
content files name = map.get files name

-- a read found these bytes
abbrev pub IsFound : Option Files → List ℕ → List ℕ → Type 0
IsFound None name bytes = ⊤
IsFound (Some files) name bytes = content files name ≡ Some bytes

-- a read up to a limit found these bytes, or a file that is longer
abbrev pub IsFoundUpTo : ℕ → Option Files → List ℕ → Option (List ℕ) → Type 0
IsFoundUpTo most told name (Some bytes) = IsFound told name bytes × (length bytes ≤ most)
IsFoundUpTo most told name None = (bytes : List ℕ) × IsFound told name bytes × (most < length bytes)

-- a read found no such file; where nothing is told, only a fault says so
abbrev pub IsMissing : Option Files → List ℕ → Type 0 → Type 0
IsMissing None name rose = rose
IsMissing (Some files) name rose = content files name ≡ None

-- why a read failed, where the count of its faults rose as told
abbrev pub ReadFails : StoreError → Option Files → List ℕ → Type 0 → Type 0
ReadFails Missing told name rose = IsMissing told name rose
ReadFails Failed told name rose = rose
ReadFails NoMemory told name rose = ⊤

-- the files are as before, but this one holds these bytes
abbrev pub IsWritten : Option Files → Option Files → List ℕ → List ℕ → Type 0
IsWritten None now name bytes = now ≡ None
IsWritten (Some files) now name bytes = now ≡ Some (map.insert files name bytes)

-- the files are as before, but this one may hold anything
abbrev pub SameBut : Option Files → Option Files → List ℕ → Type 0
SameBut None now name = now ≡ None
SameBut (Some before) now name = (after : Files) × (now ≡ Some after) × ((other : List ℕ) → other ≢ name → content after other ≡ content before other)

-- why a write failed and what it leaves, where the count of its faults rose as told
abbrev pub WriteFails : StoreError → Option Files → Option Files → List ℕ → Type 0 → Type 0
WriteFails Missing before now name rose = ⊥
WriteFails Failed before now name rose = rose × SameBut before now name
WriteFails NoMemory before now name rose = now ≡ before

-- the files of a list of entries
abbrev pub files_of : List (List ℕ × List ℕ) → Files
files_of entries = map.from_entries entries
