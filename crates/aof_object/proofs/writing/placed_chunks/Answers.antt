use Rattle.std.proofs.Common.{◌≡◌, ◌+◌, ◌∙◌, ◌++◌, [], ap, sym, subst, ℕ, List, None, length}
use Rattle.std.specs.List.{flat_map}
use Rattle.std.proofs.lemmas.Result.{IfOk-weaker}
use Rattle.sdt_word.specs.Bytes.{bytes_of}
use Rattle.aof_object.specs.declared.records.Area.{Area}
use Rattle.aof_object.specs.declared.records.Object.{Object}
use Rattle.aof_object.specs.declared.records.Symbol.{Symbol}
use Rattle.aof_object.specs.Index.{Numbers, number_in}
use Rattle.aof_object.specs.Spelling.{gathered, area_names, symbol_names, names_of, strings_of, ended, content_of, head_bytes, symbol_row, symbol_bytes, chunks_from, chunks_of}
use Rattle.aof_object.specs.Places.{IsTable}
use Rattle.aof_object.proofs.TableLemmas.{gathered-append}
use Rattle.aof_object.proofs.writing.placed_chunks.Goals as goal

begins : (bytes : List ℕ) (m : Numbers) → bytes ≡ [] → ((q : List ℕ) → number_in m q ≡ None) → IsTable bytes m []
begins bytes m e none = record { names = e; tells = record { at = none } }

whole : (o : Object) (areas : List Area) (symbols : List Symbol) (bytes : List ℕ) (m : Numbers) → areas ≡ o.areas → symbols ≡ o.symbols
    → IsTable bytes m (gathered (gathered [] (area_names areas)) (symbol_names symbols)) → IsTable bytes m (names_of o)
whole o areas symbols bytes m a s t =
    subst (λ (ns : List (List ℕ)). IsTable bytes m ns)
    (ap (λ (xs : List Area). gathered (gathered [] (area_names xs)) (symbol_names symbols)) a ∙ ap (λ (xs : List Symbol). gathered (gathered [] (area_names o.areas)) (symbol_names xs)) s
    ∙ sym (gathered-append [] (area_names o.areas) (symbol_names o.symbols))) t

four : (o : Object) (h k t s : List ℕ) → h ≡ head_bytes o → k ≡ flat_map content_of o.areas → t ≡ symbol_bytes o → s ≡ strings_of (names_of o) → chunks_from h k t s ≡ chunks_of o
four o h k t s a b d e = ap (λ (x : List ℕ). chunks_from x k t s) a ∙ ap (λ (x : List ℕ). chunks_from (head_bytes o) x t s) b ∙ ap (λ (x : List ℕ). chunks_from (head_bytes o) (flat_map content_of o.areas) x s) d
    ∙ ap (λ (x : List ℕ). chunks_from (head_bytes o) (flat_map content_of o.areas) (symbol_bytes o) x) e

symbols_are : (o : Object) (areas : List Area) (symbols : List Symbol) (t : List ℕ) → areas ≡ o.areas → symbols ≡ o.symbols → t ≡ flat_map (symbol_row (names_of o) areas) symbols → t ≡ symbol_bytes o
symbols_are o areas symbols t a s e = e ∙ ap (λ (xs : List Area). flat_map (symbol_row (names_of o) xs) symbols) a ∙ ap (λ (xs : List Symbol). flat_map (symbol_row (names_of o) o.areas) xs) s

strings_are : (o : Object) (names s : List ℕ) → names ≡ flat_map ended (names_of o) → s ≡ bytes_of (4 + length names) 4 ++ names → s ≡ strings_of (names_of o)
strings_are o names s n e = e ∙ ap (λ (x : List ℕ). bytes_of (4 + length x) 4 ++ x) n

pub returns : goal.returns
returns c =
    let o = c.args.o.now in
    let start = begins c.new-names.result.items c.args.places.now c.new-names.ensures.items c.requires in
    let one = c.in_ok-gather_areas.ensures [] start in
    let two = c.in_ok-gather_symbols.ensures (gathered [] (area_names c.as_slice-areas.result.now)) one in
    let table = whole o c.as_slice-areas.result.now c.as_slice-symbols.result.now c.gather_symbols.new.bytes.items c.gather_symbols.new.places c.as_slice-areas.ensures c.as_slice-symbols.ensures two in
    let head : c.in_ok-head.head.items ≡ head_bytes o = c.in_ok-head.ensures table.tells in
    let content : c.in_ok-content.content.items ≡ flat_map content_of o.areas = c.in_ok-content.ensures ∙ ap (λ (xs : List Area). flat_map content_of xs) c.as_slice-areas.ensures in
    let symbols = symbols_are o c.as_slice-areas.result.now c.as_slice-symbols.result.now c.in_ok-table.table.items c.as_slice-areas.ensures c.as_slice-symbols.ensures (c.in_ok-table.ensures (names_of o) table.tells) in
    let strings = strings_are o c.deref.result.now c.in_ok-strings.strings.items (c.deref.ensures.value ∙ table.names) c.in_ok-strings.ensures in
    IfOk-weaker c.list_chunks.result _ _ (λ x e. e ∙ four o _ _ _ _ head content symbols strings) c.list_chunks.ensures
