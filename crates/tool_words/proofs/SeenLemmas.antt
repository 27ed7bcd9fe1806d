-- A set of words after one more word was seen.
use Rattle.std.proofs.Common.{◌≡◌, ℕ, true, cond, List, ◌∙◌, ◌||◌}
use Rattle.std.specs.Str.{bytes_eq}
use Rattle.std.specs.Ordering.{nat_cmp, is_eq}
use Rattle.std.specs.Cmp.Lexicographic.{slice_cmp}
use Rattle.std.specs.BTreeSet.{contains}
use Rattle.std.proofs.lemmas.Map.Text.{is_eq-slice_cmp}
use Rattle.tool_words.specs.Seen.{Seen, has_seen}
use Rattle.base_lemmas.proofs.BaseLemmas.{or_cond}

pub now_seen : (s t : Seen) (word text : List ℕ) → text ≡ word
    → ((q : List ℕ) → contains (slice_cmp nat_cmp) t q ≡ cond (is_eq (slice_cmp nat_cmp text q)) true (contains (slice_cmp nat_cmp) s q))
    → (q : List ℕ) → has_seen t q ≡ bytes_eq word q || has_seen s q
now_seen s t word text e h q = h q ∙ rw (e, is_eq-slice_cmp word q) (or_cond (bytes_eq word q) (has_seen s q))
