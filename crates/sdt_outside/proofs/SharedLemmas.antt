-- Lemmas that several crates cite.
use Rattle.sdt_outside.specs.Sinks.{Got}
use Rattle.std.proofs.Common.{List, None, Option, Some, [], ap, refl, sym, ℕ}
use Rattle.std.proofs.lemmas.List.{append-nil}

pub got_none : (b : Option (List ℕ)) → Got b b []
got_none None = refl
got_none (Some bytes) = ap Some (sym (append-nil bytes))
