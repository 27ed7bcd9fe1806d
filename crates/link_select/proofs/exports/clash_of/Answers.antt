use Rattle.std.proofs.Common.{ℕ, List, Option, sym, ap, ◌∙◌, ◌%◌}
use Rattle.std.specs.Prelude.{◌==◌}
use Rattle.std.specs.Option.{option_map}
use Rattle.sdt_fault.specs.declared.refusal.Refusal.TheVariants.{Duplicate}
use Rattle.link_select.specs.Index.{number_in}
use Rattle.link_select.proofs.ExportLemmas.{clash_none, clash_some}
use Rattle.link_select.proofs.exports.clash_of.Goals as goal

pub returns-in_default : goal.returns-in_default
returns-in_default c = sym (clash_none c.args.index.now c.args.objects.now c.args.first c.args.name.now c.args.symbol.now c.requires (ap (λ (n : List ℕ). number_in c.args.index.now n) (sym c.as_slice.ensures) ∙ sym c.in_default.ensures))

pub returns-in_default-name_at : goal.returns-in_default-name_at
returns-in_default-name_at c =
    let exported = sym (ap (λ (n : ℕ). n % 4 == 3) c.flags.ensures) ∙ sym c.is_exported.ensures ∙ c.if-not-is_exported.false in
    sym (clash_some c.args.index.now c.args.objects.now c.args.first c.args.name.now c.args.symbol.now c.in-Some.number c.requires (ap (λ (n : List ℕ). number_in c.args.index.now n) (sym c.as_slice.ensures) ∙ sym c.in-Some.ensures) exported
    ∙ ap (λ (o : Option (List ℕ)). option_map (λ n. Duplicate c.args.symbol.now.name c.args.name.now n) o) (sym c.in_default-name_at.ensures))

pub returns : goal.returns
returns c =
    let exported = sym (ap (λ (n : ℕ). n % 4 == 3) c.flags.ensures) ∙ sym c.is_exported.ensures ∙ c.if-not-is_exported.false in
    sym (clash_some c.args.index.now c.args.objects.now c.args.first c.args.name.now c.args.symbol.now c.in-Some.number c.requires (ap (λ (n : List ℕ). number_in c.args.index.now n) (sym c.as_slice.ensures) ∙ sym c.in-Some.ensures) exported
    ∙ ap (λ (o : Option (List ℕ)). option_map (λ n. Duplicate c.args.symbol.now.name c.args.name.now n) o) (sym c.in-Some-name_at.ensures))
