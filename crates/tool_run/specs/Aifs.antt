-- The image that an ARM image file is, at an address: the whole file from there on, entered at its first byte, where its
-- file and its zero-initialised part are to be memory (SDT 2.50 Reference Guide, ARM Image Format; at which addresses
-- it may stand is told by its header).
use Rattle.std.proofs.lemmas.Bool.{false≢true}
use Rattle.std.specs.Prelude.{ℕ, ◌+◌, ◌^◌, ◌==◌, ◌||◌, nat_lt, false, if◌then◌else◌}
use Rattle.std.specs.Prelude.{List, [], ◌∷◌, length, Option, Some, None, Result, Ok, Err}
use Rattle.sdt_fault.specs.declared.kinds.FileKind.TheVariants as kind
use Rattle.sdt_fault.specs.declared.refusal.Refusal.{Refusal}
use Rattle.sdt_fault.specs.declared.refusal.Refusal.TheVariants.{BadImage}
use Rattle.chunk_file.specs.Reading.{◌>>=◌}
use Rattle.link_model.specs.declared.images.Aif.{Aif}
use Rattle.aif_image.specs.Reading.{aif_of}
use Rattle.run_opening.specs.declared.image.Image.{Image}
use Rattle.run_opening.specs.declared.image.Need.{Need}
use Rattle.tool_run.specs.Ends.{named_by}

-- its own address, or another that is told: only an image that can be moved may stand elsewhere
abbrev pub base_for : List ℕ → Option ℕ → Aif → Result ℕ Refusal
base_for file None a = Ok a.base
base_for file (Some at) a = if a.relocatable || at == a.base then Ok at else Err (BadImage file 4 kind.FixedBase)

-- the zero-initialised part, behind the others. Where it would begin at 2^32 or above, the image's base is told
abbrev pub zero_need : ℕ → Aif → Need
zero_need at a =
    if nat_lt (at + (a.ro + a.rw)) (2 ^ 32) then record { base = at + (a.ro + a.rw); size = a.zero }
    else record { base = at; size = a.ro + a.rw + a.zero }

abbrev pub loaded_aif : ℕ → Aif → List ℕ → Image
loaded_aif at a bytes = record {
  loads = record { base = at; bytes = bytes } ∷ [];
  needs = record { base = at; size = length bytes } ∷ zero_need at a ∷ [];
  start = at;
  thumb = false;
  even = λ e. absurd (false≢true e);
}

abbrev pub placed_aif : List ℕ → Option ℕ → List ℕ → Aif → Result Image Refusal
placed_aif file at bytes a = base_for file at a >>= λ base. Ok (loaded_aif base a bytes)

-- the image, or the first check of the file that fails, or that it may not stand there
abbrev pub aif_at : List ℕ → Option ℕ → List ℕ → Result Image Refusal
aif_at file at bytes = named_by file (aif_of bytes) >>= λ a. placed_aif file at bytes a
