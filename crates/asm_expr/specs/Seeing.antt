-- What an expression is evaluated with. This project's.
use Rattle.std.specs.Prelude.{List, [], ◌++◌, Option, Some, None}
use Rattle.std.specs.Option.{option_copied}
use Rattle.asm_model.specs.declared.names.LaidName.{LaidName}
use Rattle.asm_model.specs.declared.names.Names.{Names}
use Rattle.asm_expr.specs.declared.seen.Seen.{Seen}
use Rattle.asm_expr.specs.Places.{one_entry}

-- all names, then the line's own; or where the first of them alone are known, these, then the line's own, then all, which mean
-- something later
abbrev pub seen_list : List LaidName → Option (List LaidName) → List LaidName → List LaidName
seen_list names None own = names ++ own ++ []
seen_list names (Some first) own = first ++ own ++ names

abbrev pub seen_names : Seen → Names
seen_names s = record {
  list = seen_list s.names.now (option_copied s.first) (one_entry (option_copied s.own));
  area = s.area;
  offset = s.offset;
  map = s.map;
  thumb = s.thumb;
}
