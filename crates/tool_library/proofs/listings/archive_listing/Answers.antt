use Rattle.std.proofs.lemmas.List.Elements.{All-from_recursion}
use Rattle.aof_object.specs.Validity.{IsValid}
use Rattle.tool_library.proofs.listings.archive_listing.Goals as goal

pub list_archive-requires : goal.list_archive-requires
list_archive-requires c = All-from_recursion (λ m. IsValid m.object) c.in-Ok.archive.members c.in-Ok.ensures.valid.objects
