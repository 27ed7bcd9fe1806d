-- What an index of places tells of the directives of a field. This project's.
use Rattle.std.specs.Prelude.{◌≡◌, ℕ, List}
use Rattle.aof_object.specs.declared.records.Reloc.{Reloc}
use Rattle.patch_model.specs.Fields.{Field, Values, directives, added, taken}
use Rattle.patch_model.specs.Patched.{first_symbol}
use Rattle.link_apply.specs.declared.judging.Sums.{Sums}
use Rattle.link_apply.specs.declared.starts.FieldDirectives.{FieldDirectives}

-- what they add and take away, and their first symbol
pub record Tells (values : Values) (base : ℕ) (relocs : List Reloc) (f : Field) (s : FieldDirectives) (sums : Sums) : Type 0 where
  pub added : added values (directives relocs f) ≡ sums.added
  pub subtracted : taken base (directives relocs f) ≡ sums.subtracted
  pub symbol : first_symbol (directives relocs f) ≡ s.symbol
