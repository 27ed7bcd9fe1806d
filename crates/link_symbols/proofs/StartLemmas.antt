-- What an index tells of the starts of areas, one symbol after the other.
use Rattle.std.proofs.Common.{◌≡◌, ℕ, suc, ◌<◌, Bool, true, false, cond, List, ◌∷◌, length, drop, drop-cons, get_or, Option, Some, refl, sym, ap, ◌∙◌}
use Rattle.std.specs.List.{find}
use Rattle.std.specs.Option.{option_map}
use Rattle.aof_object.specs.declared.records.Symbol.{Symbol}
use Rattle.link_symbols.specs.declared.marks.Content.{Content}
use Rattle.link_symbols.specs.Marks.{content_of, starts, told_at_start}
use Rattle.link_symbols.specs.Starts.{AreStarts, StartIndex, told_in}

told_more : (s : Symbol) (symbols : List Symbol) (area : ℕ) → told_at_start (s ∷ symbols) area ≡ cond (starts area s) (Some (content_of s)) (told_at_start symbols area)
told_more s symbols area = by_test (starts area s)
  where
    by_test : (b : Bool) → option_map content_of (cond b (Some s) (find (starts area) symbols)) ≡ cond b (Some (content_of s)) (option_map content_of (find (starts area) symbols))
    by_test true = refl
    by_test false = refl

item_there : (symbols : List Symbol) (k : ℕ) (s : Symbol) → k < length symbols → s ≡ get_or symbols k s → drop k symbols ≡ s ∷ drop (suc k) symbols
item_there symbols k s lt is = drop-cons symbols k s lt ∙ ap (λ (x : Symbol). x ∷ drop (suc k) symbols) (sym is)

pub one_more : (symbols : List Symbol) (k i : ℕ) (s : Symbol) (m n : StartIndex) → suc k ≡ i → k < length symbols → s ≡ get_or symbols k s
    → ((area : ℕ) → told_in n area ≡ cond (starts area s) (Some (content_of s)) (told_in m area)) → AreStarts (drop i symbols) m → AreStarts (drop k symbols) n
one_more symbols k i s m n next lt is noted before area =
    noted area
    ∙ (ap (λ (o : Option Content). cond (starts area s) (Some (content_of s)) o) (before area ∙ ap (λ (j : ℕ). told_at_start (drop j symbols) area) (sym next))
    ∙ (sym (told_more s (drop (suc k) symbols) area) ∙ ap (λ (l : List Symbol). told_at_start l area) (sym (item_there symbols k s lt is))))
