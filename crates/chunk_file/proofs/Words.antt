-- Words and bytes at places of a list that is made of parts.
use Rattle.std.proofs.Common.{◌≡◌, ℕ, ◌+◌, ◌^◌, ◌<◌, List, ◌++◌, length, take, drop, sym, ap, ◌∙◌}
use Rattle.std.proofs.lemmas.List.{drop-drop, drop_at}
use Rattle.sdt_word.specs.Bytes.{bytes_of, word_in, number_of}
use Rattle.sdt_word.proofs.BytesLemmas.{number_of-bytes_of}

-- a word of what begins at a place
pub word_in-drop : (b : List ℕ) (at k : ℕ) → word_in (drop at b) k ≡ word_in b (at + k)
word_in-drop b at k = ap (λ (x : List ℕ). number_of (take 4 x)) (drop-drop k at b)

-- a word that stands at the front
pub word_in-front : (v : ℕ) (rest : List ℕ) → v < 2 ^ 32 → word_in (bytes_of v 4 ++ rest) 0 ≡ v
word_in-front v rest small = number_of-bytes_of v 4 small

-- a word behind a part
pub word_in-behind : (front back : List ℕ) (at k : ℕ) → length front ≡ at → word_in (front ++ back) (at + k) ≡ word_in back k
word_in-behind front back at k len = sym (word_in-drop (front ++ back) at k) ∙ ap (λ (x : List ℕ). word_in x k) (drop_at front back at len)
