-- One more selection in an index.
use Rattle.std.proofs.Common.{◌≡◌, ℕ, Bool, true, false, cond, ◌&&◌, List, Option, Some, None, unwrap_or, refl, sym, ap, ◌∙◌}
use Rattle.std.specs.Bool.{one_answer}
use Rattle.std.specs.Str.{bytes_eq}
use Rattle.std.proofs.lemmas.Slice.Eq.{bytes_eq-Decides}
use Rattle.place_model.specs.declared.scatter.Choice.{Choice}
use Rattle.place_model.specs.Assignment.{Offer}
use Rattle.link_assign.specs.declared.choices.Choices.{Choices}
use Rattle.link_assign.specs.declared.finding.Finding.{Finding}
use Rattle.link_assign.specs.declared.finding.Finding.TheVariants as finding
use Rattle.link_assign.specs.Finding.{joined}
use Rattle.link_assign.specs.Index.{given, given_by, joined_if}

either_way : (name q : List ℕ) → bytes_eq name q ≡ bytes_eq q name
either_way name q =
    one_answer (bytes_eq name q) (bytes_eq q name) (bytes_eq-Decides name q)
    ((λ t. sym ((bytes_eq-Decides q name).0 t)), (λ e. (bytes_eq-Decides q name).1 (sym e)))

pub name_noted : (name q : List ℕ) (old : List ℕ → Option Finding) (new : Option Finding) (f : Finding) (o : Offer) → f ≡ joined (unwrap_or (old name) finding.Nowhere) o
    → new ≡ cond (bytes_eq name q) (Some f) (old q) → unwrap_or new finding.Nowhere ≡ joined_if (bytes_eq q name) (unwrap_or (old q) finding.Nowhere) o
name_noted name q old new f o joins put =
    ap (λ g. unwrap_or g finding.Nowhere) put ∙ go (bytes_eq name q) refl ∙ ap (λ b. joined_if b (unwrap_or (old q) finding.Nowhere) o) (either_way name q)
  where
    go : (b : Bool) → bytes_eq name q ≡ b → unwrap_or (cond b (Some f) (old q)) finding.Nowhere ≡ joined_if b (unwrap_or (old q) finding.Nowhere) o
    go true t = let same : name ≡ q = (bytes_eq-Decides name q).0 t in joins ∙ ap (λ n. joined (unwrap_or (old n) finding.Nowhere) o) same
    go false t = refl

pub module_noted : (home q : List ℕ) (c : Choice) (same : Bool) (old : List ℕ → Option Choices) (left new : Option Choices) (taken put : Choices) (o : Offer) → given taken c ≡ given_by (old home) c
    → left ≡ cond (bytes_eq home q) None (old q) → given put c ≡ joined_if same (given taken c) o → new ≡ cond (bytes_eq home q) (Some put) left
    → given_by new c ≡ joined_if (bytes_eq q home && same) (given_by (old q) c) o
module_noted home q c same old left new taken put o was without joins with =
    ap (λ s. given_by s c) with ∙ go (bytes_eq home q) refl ∙ ap (λ b. joined_if (b && same) (given_by (old q) c) o) (either_way home q)
  where
    go : (b : Bool) → bytes_eq home q ≡ b → given_by (cond b (Some put) left) c ≡ joined_if (b && same) (given_by (old q) c) o
    go true t = let e : home ≡ q = (bytes_eq-Decides home q).0 t in joins ∙ ap (λ f. joined_if same f o) (was ∙ ap (λ n. given_by (old n) c) e)
    go false t = ap (λ s. given_by s c) (without ∙ ap (λ b. cond b None (old q)) t)
