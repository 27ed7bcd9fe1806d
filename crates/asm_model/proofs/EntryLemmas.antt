-- The entries of names.
use Rattle.std.proofs.Common.{◌≡◌, ℕ, List, [], ◌∷◌, Bool, true, false, cond, subst, Option, Some}
use Rattle.std.specs.Prelude.{Result, Ok, Err}
use Rattle.sdt_fault.specs.declared.kinds.LineKind.{LineKind}
use Rattle.asm_model.specs.declared.values.Value.{Value}
use Rattle.asm_model.specs.declared.values.Value.TheVariants.{Number, Truth, Words, Place}
use Rattle.asm_model.specs.declared.names.LaidName.{LaidName}
use Rattle.asm_model.specs.AtLine.{SourceLine, with_names}
use Rattle.asm_model.specs.Forms.{same}
use Rattle.asm_model.specs.Meaning.{named_in}
use Rattle.asm_model.specs.Placing.{EntryHasSymbol, HaveSymbols}
use Rattle.asm_model.specs.Entries.{equal_entry, EachHasSymbol}

pub equal_names_have_symbols : (list : List LaidName) (here : Option ℕ) (c : ℕ) (cs : List ℕ) (r : Result Value LineKind)
    → EntryHasSymbol (equal_entry list here (c ∷ cs) r)
equal_names_have_symbols list here c cs (Ok (Place [] n)) = tt
equal_names_have_symbols list here c cs (Ok (Place (d ∷ ds) n)) = tt
equal_names_have_symbols list here c cs (Ok (Number n)) = tt
equal_names_have_symbols list here c cs (Ok (Truth b)) = tt
equal_names_have_symbols list here c cs (Ok (Words w)) = tt
equal_names_have_symbols list here c cs (Err k) = tt

pub found_has_symbol : (q : List ℕ) (ns : List LaidName) → EachHasSymbol ns → (m : LaidName) → named_in q ns ≡ Some m → EntryHasSymbol m
found_has_symbol q [] h m e = absurd (cc)
found_has_symbol q (n ∷ ns) h m e = by_test (same n.name q) (found_has_symbol q ns h.1 m) e
  where
    by_test : (b : Bool) → (named_in q ns ≡ Some m → EntryHasSymbol m) → cond b (Some n) (named_in q ns) ≡ Some m → EntryHasSymbol m
    by_test true rest k = let x : n ≡ m = cc in subst (λ z. EntryHasSymbol z) x h.0
    by_test false rest k = rest k

pub lines_have_symbols : (names : List LaidName) (l : SourceLine) → EachHasSymbol names → HaveSymbols (with_names l names)
lines_have_symbols names l h q n e = found_has_symbol q names h n e
