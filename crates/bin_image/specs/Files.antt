-- The files of a linked image: one file for each load region and then the map, or its bytes alone. Where an address
-- is 2^32, as an empty region's may be, the map writes 0. This project's.
use Rattle.std.specs.Prelude.{ℕ, ◌%◌, ◌^◌, ◌<◌, List, [], ◌∷◌, ◌++◌, length, map, codes}
use Rattle.std.specs.List.{flat_map}
use Rattle.link_model.specs.declared.images.Image.{Image}
use Rattle.link_model.specs.declared.images.LoadRegion.{LoadRegion}
use Rattle.link_model.specs.declared.placing.Region.{Region}
use Rattle.bin_image.specs.declared.records.OutFile.{OutFile}
use Rattle.bin_image.specs.declared.records.MapFile.{MapFile}
use Rattle.bin_image.specs.declared.records.MapLoad.{MapLoad}
use Rattle.bin_image.specs.declared.records.MapRegion.{MapRegion}
use Rattle.bin_image.specs.Maps.{map_text}

-- ---- names: OUT, a dot and the load region's name; and OUT.map

abbrev pub load_name : List ℕ → List ℕ → List ℕ
load_name out name = out ++ codes "." ++ name

abbrev pub map_name : List ℕ → List ℕ
map_name out = out ++ codes ".map"

-- ---- the map

abbrev pub map_load : List ℕ → LoadRegion → MapLoad
map_load out l = record { name = l.name; base = l.base; size = length l.bytes; file = load_name out l.name }

abbrev pub map_region : Region → MapRegion
map_region r = record {
  name = r.name;
  load = r.load % 2 ^ 32;
  base = r.base % 2 ^ 32;
  length = r.length;
  zero = r.zero;
}

abbrev pub map_of : Image → List ℕ → MapFile
map_of i out = record {
  loads = map (map_load out) i.loads;
  regions = map map_region i.regions;
  start = i.start;
  entry = i.entry;
  thumb = i.thumb;
  bound = i.bound;
}

-- a region whose sizes have 32 bits
pub record IsMapped (r : Region) : Type 0 where
  pub length : r.length < 2 ^ 32
  pub zero : r.zero < 2 ^ 32

-- ---- a file for each load region, and the map behind them

abbrev pub load_file : List ℕ → LoadRegion → OutFile
load_file out l = record { name = load_name out l.name; bytes = l.bytes }

abbrev pub map_file : Image → List ℕ → OutFile
map_file i out = record { name = map_name out; bytes = map_text (map_of i out) }

abbrev pub load_files : Image → List ℕ → List OutFile
load_files i out = map (load_file out) i.loads ++ map_file i out ∷ []

-- ---- the bytes alone

-- of all load regions, in order
abbrev pub binary_file : Image → List ℕ
binary_file i = flat_map (λ l. l.bytes) i.loads
