use Rattle.sdt_toolkit.proofs.DebugLemmas.{session_told}
use Rattle.sdt_toolkit.proofs.debug.debug_image.Goals as goal

pub returns-in-Ok-clause-answer : goal.returns-in-Ok-clause-answer
returns-in-Ok-clause-answer g c =
    let loaded = rw (c.as_slice-memory.ensures, c.as_slice-rom.ensures) at c.in-Ok.ensures.opened in
    rw c.session_answer.ensures (session_told c.debug_on-ended.result.end c.args.words.now c.args.commands.now _ _ _ (record {
      image = c.in-Ok.board.image;
      begin = _;
      is_open = loaded;
      session = c.debug_on-ended.ensures.session;
      files = c.open_image.ensures.files;
    }))
