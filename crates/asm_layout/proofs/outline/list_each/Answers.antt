use Rattle.std.proofs.Common.{◌-◌, ◌&&◌, ◌++◌, ◌∷◌, ◌∙◌, Bool, List, [], take, drop, length, refl, sym, ap}
use Rattle.base_lemmas.proofs.BaseLemmas.{rest_of}
use Rattle.asm_model.specs.declared.names.LaidName.{LaidName}
use Rattle.asm_model.specs.declared.statements.Statement.{Statement}
use Rattle.asm_model.specs.Before.{code_from}
use Rattle.asm_model.specs.Labels.{defined_by, imported_in, declared_imports, declared_names}
use Rattle.asm_model.specs.Laid.{reversed}
use Rattle.asm_model.specs.LayoutKinds.{first_equal}
use Rattle.asm_names.specs.Steps.{one_entry}
use Rattle.asm_laying.specs.declared.carried.CarriedState.{CarriedState}
use Rattle.asm_laying.specs.Carried.{stepped}
use Rattle.asm_laying.specs.Declaring.{declared_again, declared_entry}
use Rattle.asm_layout.specs.Outline.{first_of, repeats_in}
use Rattle.asm_layout.proofs.OutlineLemmas.{declared_is, repeats_is}
use Rattle.asm_layout.proofs.outline.list_each.Goals as goal

pub statements-init : goal.statements-init
statements-init c = record { before = []; whole = refl; standing = refl; listed = c.requires }

pub statements-preserved : goal.statements-preserved
statements-preserved c =
    let left = c.statements.left.now in
    let s = c.statement-item.result in
    let rest = take (length left - 1) (drop 1 left) in
    let before = c.statements.invariant.before in
    let b = c.statements.behind in
    let listed = c.statements.invariant.listed in
    let lists = c.in_ok-list_equal-in-len1-up.ensures in
    let declares = c.in_ok-next-in-len1-up.ensures in
    let imports = declared_imports (imported_in s.what) in
    let own = one_entry (declared_entry (defined_by s) (b.thumb && code_from s.what b.code)) in
    let known = lists.names ∙ listed.names in
    let owned =
    ap (λ (k : CarriedState). one_entry (declared_entry (defined_by s) (k.thumb && code_from s.what k.code))) c.statements.invariant.standing
    ∙ declared_is (defined_by s) s before in
    record {
      before = s ∷ before;
      whole = ap (λ (l : List Statement). reversed l before) (sym (rest_of left s c.in-len1-up.len_at_least c.statement-item.is))
          ∙ c.statements.invariant.whole;
      standing = declares.steps ∙ ap (stepped s.what) c.statements.invariant.standing;
      listed = record {
        names = declares.names
            ∙ ap (λ (l : List LaidName). l ++ imports)
            (ap (λ (l : List LaidName). l ++ own) known ∙ ap (λ (l : List LaidName). declared_names before ++ l) owned);
        equals = lists.equals before listed.names ∙ ap (λ es. es ++ first_equal (defined_by s) before) listed.equals;
        firsts = lists.firsts before listed.names ∙ ap (λ bs. bs ++ first_of (defined_by s) before) listed.firsts;
        repeats = c.in_ok-push-in-len1-up.ensures.items
            ∙ ap (λ (bs : List Bool). bs ++ c.in_ok-next-in-len1-up.field-0.repeated ∷ []) (ap (λ v. v.items) lists.repeats ∙ listed.repeats)
            ∙ ap (λ (again : Bool). repeats_in before ++ again ∷ [])
            (declares.repeated ∙ ap (λ (l : List LaidName). declared_again l (own ++ imports)) known
            ∙ ap (λ (l : List LaidName). declared_again (declared_names before) (l ++ imports)) owned
            ∙ repeats_is s before);
      };
    }
