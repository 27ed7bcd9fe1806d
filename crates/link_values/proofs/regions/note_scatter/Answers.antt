use Rattle.std.proofs.Common.{refl, append_assoc}
use Rattle.link_values.proofs.regions.note_scatter.Goals as goal

pub returns : goal.returns
returns c =
    rw (c.in_ok-note-5.ensures, c.in_ok-note-4.ensures, c.in_ok-note-3.ensures, c.in_ok-note-2.ensures, c.in_ok-note.ensures, c.in_ok-loaded.ensures, append_assoc, append_assoc, append_assoc, append_assoc) refl
