-- What was read is what the grammar gives.
use Rattle.std.proofs.Common.{◌≡◌, List, refl, sym, ◌∙◌, ap, Some, None}
use Rattle.std.specs.Prelude.{Result, Ok, Err}
use Rattle.sdt_fault.specs.declared.kinds.LineKind.{LineKind}
use Rattle.sdt_fault.specs.declared.kinds.LineKind.TheVariants.{Syntax}
use Rattle.asm_model.specs.declared.exprs.Expr.{Expr}
use Rattle.asm_model.specs.declared.exprs.Part.{Part}
use Rattle.asm_model.specs.Grammar.{Parses}
use Rattle.asm_expr.specs.Parsing.{parsed, started}
use Rattle.asm_expr.proofs.Spelled.{spelled_parsed}

pub parsed_none : (ps : List Part) → parsed (Some started) ps ≡ None → Parses ps (Err Syntax)
parsed_none ps h = (refl, λ t s. let p = spelled_parsed ps t s in cc)

pub one_reading : (ps : List Part) (a b : Result Expr LineKind) → Parses ps a → Parses ps b → a ≡ b
one_reading ps (Ok e) (Ok f) p q =
    let x = spelled_parsed ps p.0 p.1 in
    let y = spelled_parsed ps q.0 q.1 in
    let u = p.2 in
    let v = q.2 in
    let same : e.items ≡ f.items = cc in
    ap Ok (λ i. record { items = same i })
one_reading ps (Ok e) (Err k) p q = absurd (q.1 p.0 p.1)
one_reading ps (Err k) (Ok e) p q = absurd (p.1 q.0 q.1)
one_reading ps (Err k) (Err j) p q = ap Err (p.0 ∙ sym q.0)
