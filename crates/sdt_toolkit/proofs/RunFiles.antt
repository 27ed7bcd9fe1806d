-- The files of a scatter image, read as the image of a run.
use Rattle.std.proofs.Common.{◌≡◌, ℕ, Bool, true, false, cond, ◌||◌, List, [], ◌∷◌, ◌++◌, length, map, Some, None, Ok, refl, ap, ◌∙◌, arith}
use Rattle.std.specs.Prelude.{◌==◌, codes, nat_lt, ◌&&◌}
use Rattle.std.specs.List.{list_all, list_any, position_or_len, AllByRecursion}
use Rattle.std.proofs.lemmas.Bool.Decides.{nat_tests}
use Rattle.sdt_outside.specs.Files.{Files, content}
use Rattle.chunk_file.specs.Reading.{◌>>=◌}
use Rattle.link_model.specs.declared.images.Image.{Image}
use Rattle.link_model.specs.declared.images.LoadRegion.{LoadRegion}
use Rattle.link_model.specs.declared.placing.Region.{Region}
use Rattle.bin_image.specs.declared.records.OutFile.{OutFile}
use Rattle.bin_image.specs.declared.records.MapLoad.{MapLoad}
use Rattle.bin_image.specs.Fields.{is_name, is_word}
use Rattle.bin_image.specs.Files.{load_file, load_name, map_file, map_load, map_name, map_of, map_region}
use Rattle.bin_image.specs.Maps.{IsLoad, IsValid, map_text}
use Rattle.bin_image.specs.Reading as reading
use Rattle.bin_image.specs.Reading.{MapLaw, SpellingLaw}
use Rattle.run_opening.specs.declared.image.Load.{Load}
use Rattle.run_opening.specs.declared.image.Need.{Need}
use Rattle.tool_answers.specs.Inputs.{and_others, before_others, found_or, inputs_of}
use Rattle.tool_run.specs.Images as run
use Rattle.tool_run.specs.Ends.{named_by}
use Rattle.tool_run.specs.Images.{all_named, files_in, front_of, has_zero, lengths_judged, loaded_image, loads_of, map_image, mapped_image, unnamed}
use Rattle.sdt_toolkit.specs.RunImages.{HasFiles, load_need, load_of, region_need, run_image}
use Rattle.sdt_toolkit.specs.Runs.{FilesAreRead}

abbrev bytes_in : List LoadRegion → List (List ℕ)
bytes_in loads = map (λ l. l.bytes) loads

-- ---- names

any_append : (p : ℕ → Bool) (xs ys : List ℕ) → list_any p xs ≡ false → list_any p ys ≡ false → list_any p (xs ++ ys) ≡ false
any_append p [] ys e f = f
any_append p (x ∷ xs) ys e f = go (p x) (list_any p xs) e (any_append p xs ys)
  where
    go : (a b : Bool) → (a || b) ≡ false → (b ≡ false → list_any p ys ≡ false → list_any p (xs ++ ys) ≡ false) → (a || list_any p (xs ++ ys)) ≡ false
    go true b e more = e
    go false b e more = more e f

word_some : (c : ℕ) → is_word c ≡ true → (c == 0) ≡ false
word_some c h = grind (arith, nat_tests)

words_some : (name : List ℕ) → list_all is_word name ≡ true → has_zero name ≡ false
words_some [] h = refl
words_some (c ∷ cs) h = go (is_word c) refl h (words_some cs)
  where
    go : (b : Bool) → is_word c ≡ b → (b && list_all is_word cs) ≡ true → (list_all is_word cs ≡ true → has_zero cs ≡ false) → has_zero (c ∷ cs) ≡ false
    go true e more rest = rw (word_some c e) (rest more)
    go false e more rest = absurd (let bad : false ≡ true = more in cc)

name_some : (name : List ℕ) → is_name name ≡ true → has_zero name ≡ false
name_some name h = words_some name (go (nat_lt 0 (length name)) h)
  where
    go : (b : Bool) → (b && list_all is_word name) ≡ true → list_all is_word name ≡ true
    go true e = e
    go false e = absurd (let bad : false ≡ true = e in cc)

abbrev names_in : List ℕ → List LoadRegion → List (List ℕ)
names_in out ls = map (λ (l : MapLoad). l.file) (map (map_load out) ls)

all_some : (out : List ℕ) (ls : List LoadRegion) → has_zero out ≡ false → AllByRecursion IsLoad (map (map_load out) ls)
    → position_or_len has_zero (names_in out ls) ≡ length (names_in out ls)
all_some out [] none valid = refl
all_some out (l ∷ ls) none (valid, rest) =
    let one : has_zero (load_name out l.name) ≡ false = any_append (λ b. b == 0) (out ++ codes ".") l.name (any_append (λ b. b == 0) out (codes ".") none refl) (name_some l.name valid.named) in
    let more = all_some out ls none rest in
    rw one (omega arith)

not_below : (n k : ℕ) → n ≡ k → nat_lt n k ≡ false
not_below n k e = grind (arith, nat_tests)

none_unnamed : (out : List ℕ) (ls : List LoadRegion) → has_zero out ≡ false → AllByRecursion IsLoad (map (map_load out) ls) → unnamed (names_in out ls) ≡ None
none_unnamed out ls none valid =
    let n = position_or_len has_zero (names_in out ls) in
    ap (λ (b : Bool). cond b (Some n) None) (not_below n (length (names_in out ls)) (all_some out ls none valid))

-- ---- contents

read_all : (files : Files) (out : List ℕ) (ls : List LoadRegion) → HasFiles files (map (load_file out) ls)
    → inputs_of files (map (λ (l : MapLoad). l.file) (map (map_load out) ls)) ≡ Ok (bytes_in ls)
read_all files out [] has = refl
read_all files out (l ∷ ls) (one, has) =
    ap (λ x. and_others (found_or (load_name out l.name) x) (inputs_of files (map (λ (k : MapLoad). k.file) (map (map_load out) ls)))) one
    ∙ ap (before_others l.bytes) (read_all files out ls has)

same : (n : ℕ) → (n == n) ≡ true
same n = grind (arith, nat_tests)

judged : (out : List ℕ) (ls : List LoadRegion) → lengths_judged (map (map_load out) ls) (bytes_in ls) ≡ Ok tt
judged out [] = refl
judged out (l ∷ ls) = rw (same (length l.bytes)) (judged out ls)

same_loads : (out : List ℕ) (ls : List LoadRegion) → loads_of (map (map_load out) ls) (bytes_in ls) ≡ map load_of ls
same_loads out [] = refl
same_loads out (l ∷ ls) = ap (λ (more : List Load). load_of l ∷ more) (same_loads out ls)

load_needs : (out : List ℕ) (ls : List LoadRegion) → map run.load_need (map (map_load out) ls) ≡ map load_need ls
load_needs out [] = refl
load_needs out (l ∷ ls) = ap (λ (more : List Need). load_need l ∷ more) (load_needs out ls)

region_needs : (rs : List Region) → map run.region_need (map map_region rs) ≡ map region_need rs
region_needs [] = refl
region_needs (r ∷ rs) = ap (λ (more : List Need). region_need r ∷ more) (region_needs rs)

same_image : (i : Image) (out : List ℕ) → map_image (map_of i out) (bytes_in i.loads) ≡ run_image i
same_image i out = rw (same_loads out i.loads, load_needs out i.loads, region_needs i.regions) refl

-- ---- the image

split : (files : Files) (xs : List OutFile) (f : OutFile) → HasFiles files (xs ++ f ∷ []) → HasFiles files xs × (content files f.name ≡ Some f.bytes)
split files [] f (one, none) = (tt, one)
split files (x ∷ xs) f (one, more) = let (front, last) = split files xs f more in ((one, front), last)

mapped : (i : Image) (out : List ℕ) (files : Files) → has_zero out ≡ false → IsValid (map_of i out) → HasFiles files (map (load_file out) i.loads)
    → mapped_image (map_of i out) files ≡ Ok (run_image i)
mapped i out files none valid has =
    let m = map_of i out in
    ap (λ o. inputs_of files (front_of (files_in m) o) >>= λ contents. all_named (files_in m) o >>= λ right. loaded_image m contents) (none_unnamed out i.loads none valid.loads)
    ∙ ap (λ r. r >>= λ contents. loaded_image m contents) (read_all files out i.loads has)
    ∙ ap (λ r. r >>= λ (right : Unit). Ok (map_image m (bytes_in i.loads))) (judged out i.loads)
    ∙ ap Ok (same_image i out)

pub files_are_read : MapLaw → SpellingLaw → FilesAreRead
files_are_read law spells i out files faults faults_now read f has is =
    let m = map_of i out in
    let (loads, one) = split files (map (load_file out) i.loads) (map_file i out) has in
    is
    ∙ ap (λ x. found_or (map_name out) x >>= λ text. named_by (map_name out) (reading.map_of text) >>= λ n. mapped_image n files) one
    ∙ ap (λ r. named_by (map_name out) r >>= λ n. mapped_image n files) ((law (map_text m) m).1 (spells m f.map))
    ∙ mapped i out files f.named f.map loads
