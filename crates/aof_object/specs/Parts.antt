-- The chunks of an object file by their names: three that must stand exactly once, and the symbol table,
-- which may be absent where there is no symbol (SDT 2.50 Reference Guide, ARM Object Format).
use Rattle.std.specs.Prelude.{ℕ, nat_lt, ◌==◌, if◌then◌else◌, List, [], ◌∷◌, length, Option, Some, None, Result, Ok, Err, codes}
use Rattle.std.specs.Str.{bytes_eq}
use Rattle.sdt_word.specs.Bytes.{word_in}
use Rattle.sdt_fault.specs.declared.kinds.FileKind.TheVariants.{Chunks}
use Rattle.sdt_fault.specs.declared.refusal.Refusal.{Refusal}
use Rattle.sdt_fault.specs.declared.refusal.Refusal.TheVariants.{BadObject}
use Rattle.chunk_file.specs.declared.records.Span.{Span}
use Rattle.chunk_file.specs.Reading.{◌>>=◌}
use Rattle.chunk_file.specs.Chunks.{bytes_at}
use Rattle.aof_object.specs.declared.parts.Found.{Found}
use Rattle.aof_object.specs.declared.parts.Found.TheVariants.{Absent, One, Many}
use Rattle.aof_object.specs.declared.parts.Parts.{Parts}

-- the chunks of a name
abbrev pub named : List ℕ → List (Option Span) → List Span
named name [] = []
named name (None ∷ es) = named name es
named name (Some s ∷ es) = if bytes_eq s.name name then s ∷ named name es else named name es

abbrev pub found_of : List Span → Found
found_of [] = Absent
found_of (s ∷ []) = One s
found_of (s ∷ t ∷ ss) = Many

-- and with one more behind those that were found
abbrev pub found_after : Found → Span → Found
found_after Absent s = One s
found_after (One t) s = Many
found_after Many s = Many

abbrev pub found_with : Found → List Span → Found
found_with found [] = found
found_with found (s ∷ ss) = found_with (found_after found s) ss

abbrev pub wrong_chunks : {A : Type 0} → Result A Refusal
wrong_chunks = Err (BadObject [] 0 Chunks)

-- a chunk that must stand once
abbrev pub needed : Found → Result Span Refusal
needed Absent = wrong_chunks
needed (One s) = Ok s
needed Many = wrong_chunks

-- the symbol table: one that is absent counts as empty
abbrev pub no_symbols : Span
no_symbols = record { name = codes "OBJ_SYMT"; offset = 0; size = 0 }

abbrev pub optional : ℕ → Found → Result Span Refusal
optional count Absent = if count == 0 then Ok no_symbols else wrong_chunks
optional count (One s) = Ok s
optional count Many = wrong_chunks

-- the number of symbols that OBJ_HEAD tells; none where it is too short to tell it
abbrev pub told_symbols : List ℕ → ℕ
told_symbols head = if nat_lt (length head) 16 then 0 else word_in head 12

unfoldable pub parts_of : List ℕ → List (Option Span) → Result Parts Refusal
parts_of b spans =
    needed (found_of (named (codes "OBJ_HEAD") spans)) >>= λ head.
    needed (found_of (named (codes "OBJ_AREA") spans)) >>= λ areas.
    needed (found_of (named (codes "OBJ_STRT") spans)) >>= λ strings.
    optional (told_symbols (bytes_at b head)) (found_of (named (codes "OBJ_SYMT") spans)) >>= λ symbols.
    Ok (record { head = head; areas = areas; strings = strings; symbols = symbols })
