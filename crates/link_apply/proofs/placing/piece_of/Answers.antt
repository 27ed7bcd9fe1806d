use Rattle.std.proofs.Common.{◌≡◌, ℕ, true, false, cond, sym, ap, ◌∙◌}
use Rattle.std.specs.Prelude.{◌==◌, Some, None}
use Rattle.sdt_word.specs.Numbers.{bit}
use Rattle.link_model.specs.Options.{refused_or}
use Rattle.link_apply.specs.declared.laying.RegionPiece.{RegionPiece}
use Rattle.link_apply.specs.Patching.{bytes_at, first_refusal}
use Rattle.link_apply.proofs.PatchingLemmas.{ok_sound, ok_same}
use Rattle.link_apply.proofs.placing.piece_of.Goals as goal

pub returns-then-is_zero_initialised : goal.returns-then-is_zero_initialised
returns-then-is_zero_initialised c =
    let known = c.args.known.now in
    let site = c.args.site.now in
    let none = ok_sound (first_refusal known site c.args.object.now site.area.now.relocs) (bytes_at known site) c.in_ok-bytes.bytes (sym c.in_ok-bytes.ensures) in
    let zeroed : (bit site.area.now.attributes 12 == 1) ≡ true = sym (ap (λ (n : ℕ). bit n 12 == 1) c.flags.ensures) ∙ sym c.is_zero_initialised.ensures ∙ c.if-is_zero_initialised.true in
    let here : RegionPiece = record { region = site.placed.region; address = site.placed.address; bytes = bytes_at known site } in
    (λ i. refused_or (none i) (cond (zeroed i) None (Some here)))

pub returns : goal.returns
returns c =
    let known = c.args.known.now in
    let site = c.args.site.now in
    let none = ok_sound (first_refusal known site c.args.object.now site.area.now.relocs) (bytes_at known site) c.in_ok-bytes.bytes (sym c.in_ok-bytes.ensures) in
    let same = sym (ok_same (first_refusal known site c.args.object.now site.area.now.relocs) (bytes_at known site) c.in_ok-bytes.bytes (sym c.in_ok-bytes.ensures)) in
    let loaded : (bit site.area.now.attributes 12 == 1) ≡ false = sym (ap (λ (n : ℕ). bit n 12 == 1) c.flags.ensures) ∙ sym c.is_zero_initialised.ensures ∙ c.if-is_zero_initialised.false in
    (λ i. refused_or (none i) (cond (loaded i) None (Some (record { region = site.placed.region; address = site.placed.address; bytes = same i }))))
