-- A worked row: a source of a branch meets what the law asks of sources, so that with its placed object, which stand_model
-- shows, each premise of the law is met.
use Rattle.std.proofs.Common.{ℕ, List, [], ◌∷◌, Bool, refl, codes}
use Rattle.asm_model.specs.declared.exprs.ExprItem.TheVariants as item
use Rattle.asm_model.specs.declared.exprs.Part.{Part}
use Rattle.asm_model.specs.declared.exprs.Part.TheVariants as part
use Rattle.asm_model.specs.PlacedLines.{IsName}
use Rattle.asm_model.specs.Grammar.{Tree, Leaf, operand, tighter}
use Rattle.asm_model.specs.Said.{IsRead}
use Rattle.stand_model.proofs.SourceRows.{branch_source}
use Rattle.stand_laws.specs.Laws.{IsFaultless}

-- an expression that is a name
name_is_read : (name : List ℕ) → IsName name → IsRead (record { items = item.Name name ∷ [] })
name_is_read name named =
    let ps : List Part = part.Operand (item.Name name) ∷ [] in
    let t : Tree = Leaf (item.Name name) in
    record {
      parts = ps;
      tree = t;
      spelled = tighter 5 ps t (tighter 4 ps t (tighter 3 ps t (tighter 2 ps t
          (tighter 1 ps t (tighter 0 ps t (operand (part.Operand (item.Name name)) (item.Name name) refl))))));
      items = refl;
      plain = (tt, tt);
      named = (named, tt);
    }

-- AREA words, CODE; IMPORT far; B far, or BL far
pub branch_is_faultless : (link : Bool) → IsFaultless (branch_source link)
branch_is_faultless link = record {
  said = (
    record { plain = tt; read = name_is_read (codes "far") tt; loaded = tt },
    (
      record { plain = tt; read = tt; loaded = tt },
      (record { plain = tt; read = tt; loaded = tt }, tt),
    ),
  );
  named = (tt, tt, (tt, tt, (tt, tt, tt)));
  laid_out = refl;
  valued = refl;
}
