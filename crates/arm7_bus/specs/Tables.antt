-- How the table of pages stands in memory: entries in parts of 4,096 pages, of which those that aren't made share the first
-- entries. This project's.
use Rattle.std.specs.Prelude.{◌≡◌, ℕ, ◌+◌, ◌*◌, ◌%◌, ◌<◌, ◌≤◌, ◌==◌, List, [], ◌∷◌, ◌++◌, Option, None, length, take, drop, count_by, slice_index_or}

-- the entries of all pages, part by part, by where those of each part begin
abbrev pub opened : List ℕ → List (Option ℕ) → List (Option ℕ)
opened [] entries = []
opened (start ∷ starts) entries = take 4096 (drop start entries) ++ opened starts entries

-- each part's entries are there, from a multiple of 4,096 on; the first 4,096 entries are none; no two parts that are made
-- share entries; and there is room for those of all parts
pub record IsTable (starts : List ℕ) (entries : List (Option ℕ)) (capacity : ℕ) : Type 0 where
  pub within : (k : ℕ) → k < length starts → slice_index_or starts k 0 + 4096 ≤ length entries
  pub whole : (k : ℕ) → slice_index_or starts k 0 % 4096 ≡ 0
  pub own : (j k : ℕ) → slice_index_or starts j 0 ≡ slice_index_or starts k 0 → 0 < slice_index_or starts j 0 → j ≡ k
  pub none : (i : ℕ) → i < 4096 → slice_index_or entries i None ≡ None
  pub even : length entries % 4096 ≡ 0
  pub room : length entries + 4096 * count_by (λ start. start == 0) starts ≤ capacity
