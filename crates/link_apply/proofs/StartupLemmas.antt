-- The bytes of the startup code with its table.
use Rattle.std.proofs.Common.{◌≡◌, ℕ, suc, ◌+◌, ◌<◌, ◌/◌, ◌%◌, ◌^◌, Bool, true, false, cond, List, [], ◌∷◌, ◌++◌, length, map, drop, get_or, Some, refl, sym, ap, ◌∙◌, append_assoc, arith}
use Rattle.std.specs.List.{filter}
use Rattle.std.proofs.lemmas.Option.{slice_get-get_or}
use Rattle.link_apply.proofs.PatchingLemmas.{item_there}
use Rattle.sdt_word.specs.Bytes.{bytes_of}
use Rattle.boot_code.specs.declared.rows.CopyRow.{CopyRow}
use Rattle.boot_code.specs.declared.rows.ZeroRow.{ZeroRow}
use Rattle.boot_code.specs.Startup.{copy_words, zero_words, table_list}
use Rattle.boot_code.specs.Maps.{bytes_of_words}

pub words_append : (xs ys : List ℕ) → bytes_of_words (xs ++ ys) ≡ bytes_of_words xs ++ bytes_of_words ys
words_append [] ys = refl
words_append (x ∷ xs) ys = ap (λ l. bytes_of x 4 ++ l) (words_append xs ys) ∙ sym (append_assoc (bytes_of x 4) (bytes_of_words xs) (bytes_of_words ys))

-- a word has the low 32 bits of a number
word_of : (v : ℕ) → bytes_of (v % 2 ^ 32) 4 ≡ bytes_of v 4
word_of v =
    let a : v % 2 ^ 32 % 256 ≡ v % 256 = omega arith in
    let b : v % 2 ^ 32 / 256 % 256 ≡ v / 256 % 256 = omega arith in
    let c : v % 2 ^ 32 / 256 / 256 % 256 ≡ v / 256 / 256 % 256 = omega arith in
    let d : v % 2 ^ 32 / 256 / 256 / 256 % 256 ≡ v / 256 / 256 / 256 % 256 = omega arith in
    (λ i. a i ∷ b i ∷ c i ∷ d i ∷ [])

pub table_same : (copies : List CopyRow) (parts : List ZeroRow) (entry : ℕ) → bytes_of_words (table_list copies parts (entry % 2 ^ 32)) ≡ bytes_of_words (table_list copies parts entry)
table_same copies parts entry = split (entry % 2 ^ 32) ∙ ap (λ l. bytes_of_words (copy_words copies) ++ (bytes_of_words (0 ∷ 0 ∷ 0 ∷ []) ++ (bytes_of_words (zero_words parts) ++ (bytes_of_words (0 ∷ 0 ∷ []) ++ l)))) (ap (λ l. l ++ []) (word_of entry)) ∙ sym (split entry)
  where
    split : (e : ℕ) → bytes_of_words (table_list copies parts e)
        ≡ bytes_of_words (copy_words copies) ++ (bytes_of_words (0 ∷ 0 ∷ 0 ∷ []) ++ (bytes_of_words (zero_words parts) ++ (bytes_of_words (0 ∷ 0 ∷ []) ++ bytes_of_words (e ∷ []))))
    split e =
        words_append (copy_words copies) (0 ∷ 0 ∷ 0 ∷ (zero_words parts ++ (0 ∷ 0 ∷ e ∷ [])))
        ∙ ap (λ l. bytes_of_words (copy_words copies) ++ (bytes_of_words (0 ∷ 0 ∷ 0 ∷ []) ++ l)) (words_append (zero_words parts) (0 ∷ 0 ∷ e ∷ []))

-- ---- rows of the regions that have one

filtered_step : {A B : Type 0} (f : A → B) (p : A → Bool) (x : A) (xs : List A) → map f (filter p (x ∷ xs)) ≡ map f (filter p (x ∷ [])) ++ map f (filter p xs)
filtered_step f p x xs = by (p x)
  where
    by : (b : Bool) → map f (cond b (x ∷ filter p xs) (filter p xs)) ≡ map f (cond b (x ∷ []) []) ++ map f (filter p xs)
    by true = refl
    by false = refl

pub filtered_more : {A B : Type 0} (f : A → B) (p : A → Bool) (xs : List A) (i : ℕ) (x : A) (before after all : List B) → i < length xs → x ≡ get_or xs i x → after ≡ before ++ map f (filter p (x ∷ []))
    → before ++ map f (filter p (drop i xs)) ≡ all → after ++ map f (filter p (drop (i + 1) xs)) ≡ all
filtered_more f p xs i x before after all h e added known =
    let n : suc i ≡ i + 1 = omega arith in
    let there = item_there xs i x (slice_get-get_or xs i x h ∙ ap Some (sym e)) in
    ap (λ (l : List _). l ++ map f (filter p (drop (i + 1) xs))) added ∙ append_assoc before (map f (filter p (x ∷ []))) (map f (filter p (drop (i + 1) xs)))
    ∙ ap (λ (l : List _). before ++ l)
    (sym (filtered_step f p x (drop (i + 1) xs)) ∙ ap (λ (l : List _). map f (filter p l)) (ap (λ (k : ℕ). x ∷ drop k xs) (sym n) ∙ sym there)) ∙ known
