use Rattle.std.proofs.Common.{◌++◌, sym, ap, ◌∙◌}
use Rattle.boot_code.specs.Startup.{table_list}
use Rattle.boot_code.specs.Words.{boot_list}
use Rattle.boot_code.specs.Maps.{bytes_of_words}
use Rattle.link_model.specs.Members.{link_of}
use Rattle.link_apply.specs.RegionBytes.{copy_rows, entry_of, zero_rows}
use Rattle.link_apply.proofs.StartupLemmas.{table_same, words_append}
use Rattle.link_apply.proofs.startup.startup_bytes.Goals as goal

pub returns : goal.returns
returns c =
    let p = c.args.known.now.placement.now in
    let entry = entry_of (link_of c.args.known.now.linked.now) p in
    c.in_ok-push_words-2.ensures
    ∙ (λ i. (c.in_ok-push_words.ensures ∙ (λ j. c.new-bytes.ensures.items j ++ bytes_of_words (c.boot_words.ensures j))) i ++ bytes_of_words ((c.as_slice.ensures.value ∙ c.in_ok-words.ensures) i))
    ∙ ap (λ l. bytes_of_words boot_list ++ l) (table_same (copy_rows p) (zero_rows p) entry)
    ∙ sym (words_append boot_list (table_list (copy_rows p) (zero_rows p) entry))
