-- The rows of the tables of stems give what the tables of `Words` give.
use Rattle.std.proofs.Common.{◌≡◌, ℕ, List, [], ◌∷◌, ◌++◌, length, take, drop, map, Bool, true, false, cond, not, refl, sym, ◌∙◌, ap, subst, arith, Option, Some, None, codes}
use Rattle.std.specs.Prelude.{◌==◌, ◌&&◌, ◌||◌}
use Rattle.std.specs.Char.{to_ascii_lowercase}
use Rattle.std.proofs.lemmas.Bool.{eqb-true, ne_eqb, and_parts, false_from_ne_true}
use Rattle.sdt_word.specs.declared.codes.Condition.{Condition}
use Rattle.sdt_word.specs.declared.codes.Condition.TheVariants as condition
use Rattle.arm_isa.specs.declared.instr.Operation.{Operation}
use Rattle.arm_isa.specs.declared.instr.Operation.TheVariants as operation
use Rattle.asm_model.specs.Directives.{row_of, or_else}
use Rattle.asm_model.specs.Forms.{same}
use Rattle.asm_model.specs.Tokens.{is_called}
use Rattle.asm_model.proofs.WordLemmas.{same_refl, same_true}
use Rattle.asm_arm.specs.declared.mnemonics.Mnemonic.{Mnemonic}
use Rattle.asm_arm.specs.declared.mnemonics.Mnemonic.TheVariants as mnemonic
use Rattle.asm_arm.specs.declared.mnemonics.Stem.{Stem}
use Rattle.asm_arm.specs.declared.mnemonics.Stem.TheVariants as stem
use Rattle.asm_arm.specs.Stems.{begun, by_rows}
use Rattle.asm_arm.specs.Stems as stems
use Rattle.asm_arm.specs.Mnemonics.{ending, conditioned, stemmed, data_suffix, multiply_suffix, long_suffix, transfer_suffix, block_suffix, swap_suffix, bare_suffix, float_suffix, float_block_suffix, block_named, block_stem, branch_named, branch_stem, data_named, data_stem, float_arithmetic, float_block, float_compare, float_functions, float_named, float_stem, float_transfers, idle_named, idle_word, long_address_named, long_address_stem, long_named, long_stem, moving_named, multiply_named, multiply_stem, operation_named, other_named, plain_named, plain_stem, short_branch_stem, swap_named, swap_stem, transfer_named, transfer_stem}

abbrev lower : List ℕ → List ℕ
lower s = map to_ascii_lowercase s

-- rows as rows of stems
abbrev kinded : {A : Type 0} → (A → Stem) → List (List ℕ × A) → List (List ℕ × Stem)
kinded k rows = map (λ row. (row.0, k row.1)) rows

-- whether a row has the name
abbrev has : {A : Type 0} → List ℕ → List (List ℕ × A) → Bool
has name [] = false
has name (row ∷ rows) = same (lower name) (lower row.0) || has name rows

-- whether all names have n letters, and no two are one
abbrev apart : {A : Type 0} → ℕ → List (List ℕ × A) → Bool
apart n [] = true
apart n (row ∷ rows) = length row.0 == n && (not (has row.0 rows) && apart n rows)

or_none : {A : Type 0} (o : Option A) → or_else o None ≡ o
or_none None = refl
or_none (Some a) = refl

or_assoc : {A : Type 0} (a b c : Option A) → or_else (or_else a b) c ≡ or_else a (or_else b c)
or_assoc None b c = refl
or_assoc (Some a) b c = refl

or_both : {A : Type 0} (a b c d : Option A) → a ≡ b → c ≡ d → or_else a c ≡ or_else b d
or_both a b c d e h = rw (e, h) refl

-- rows behind others
appended : (word : List ℕ) (xs ys : List (List ℕ × Stem)) → by_rows word (xs ++ ys) ≡ or_else (by_rows word xs) (by_rows word ys)
appended word [] ys = refl
appended word (x ∷ xs) ys = ap (or_else (begun word x)) (appended word xs ys) ∙ sym (or_assoc (begun word x) (by_rows word xs) (by_rows word ys))

row_appended : {A : Type 0} (word : List ℕ) (xs ys : List (List ℕ × A)) → row_of word (xs ++ ys) ≡ or_else (row_of word xs) (row_of word ys)
row_appended word [] ys = refl
row_appended word (x ∷ xs) ys = chosen (is_called x.0 word) (row_appended word xs ys)
  where
    chosen : (b : Bool) → row_of word (xs ++ ys) ≡ or_else (row_of word xs) (row_of word ys)
        → cond b (Some x.1) (row_of word (xs ++ ys)) ≡ or_else (cond b (Some x.1) (row_of word xs)) (row_of word ys)
    chosen true h = refl
    chosen false h = h

-- two names of one word are one
one_name : (a b word : List ℕ) → is_called a word ≡ true → same (lower a) (lower b) ≡ false → is_called b word ≡ false
one_name a b word e h =
    false_from_ne_true (is_called b word) (λ t.
    let x = same_true (lower word) (lower a) e in
    let y = same_true (lower word) (lower b) t in
    let z : same (lower a) (lower b) ≡ true = rw (sym x, sym y) (same_refl (lower word)) in
    absurd (cc))

begun_false : (word : List ℕ) (n : ℕ) (row : List ℕ × Stem) → length row.0 ≡ n → is_called row.0 (take n word) ≡ false → begun word row ≡ None
begun_false word n row e h = rw (e, h) refl

begun_true : (word : List ℕ) (n : ℕ) (row : List ℕ × Stem) → length row.0 ≡ n → is_called row.0 (take n word) ≡ true
    → begun word row ≡ stems.stemmed row.1 (drop n word)
begun_true word n row e h = rw (e, h) refl

or_false : (a b : Bool) → (a || b) ≡ false → (a ≡ false) × (b ≡ false)
or_false true b e = absurd (cc)
or_false false b e = (refl, e)

not_false : (b : Bool) → not b ≡ true → b ≡ false
not_false true e = absurd (cc)
not_false false e = refl

-- behind the row with a word's name no other has one
no_other : {A : Type 0} (k : A → Stem) (n : ℕ) (rows : List (List ℕ × A)) (name word : List ℕ)
    → is_called name (take n word) ≡ true → has name rows ≡ false → apart n rows ≡ true → by_rows word (kinded k rows) ≡ None
no_other k n [] name word e h p = refl
no_other k n (row ∷ rows) name word e h p =
    let differs = or_false (same (lower name) (lower row.0)) (has name rows) h in
    let parts = and_parts (length row.0 == n) (not (has row.0 rows) && apart n rows) p in
    let more = and_parts (not (has row.0 rows)) (apart n rows) parts.1 in
    or_both _ None _ None
    (begun_false word n (row.0, k row.1) (eqb-true _ _ parts.0) (one_name name row.0 (take n word) e differs.0))
    (no_other k n rows name word e differs.1 more.1)

-- a table of stems of n letters
family : {A : Type 0} (k : A → Stem) (f : A → List ℕ → Option Mnemonic) (n : ℕ) (rows : List (List ℕ × A)) (word : List ℕ)
    → ((a : A) (rest : List ℕ) → stems.stemmed (k a) rest ≡ conditioned (ending rest).0 (f a (ending rest).1))
    → apart n rows ≡ true → by_rows word (kinded k rows) ≡ stemmed f (row_of (take n word) rows) (drop n word)
family k f n [] word h p = refl
family k f n (row ∷ rows) word h p =
    chosen (is_called row.0 (take n word)) refl (λ q. family k f n rows word h q)
  where
    parts : ((length row.0 == n) ≡ true) × ((not (has row.0 rows) && apart n rows) ≡ true)
    parts = and_parts (length row.0 == n) (not (has row.0 rows) && apart n rows) p

    more : (not (has row.0 rows) ≡ true) × (apart n rows ≡ true)
    more = and_parts (not (has row.0 rows)) (apart n rows) parts.1

    long : length row.0 ≡ n
    long = eqb-true _ _ parts.0

    chosen : (b : Bool) → is_called row.0 (take n word) ≡ b
        → (apart n rows ≡ true → by_rows word (kinded k rows) ≡ stemmed f (row_of (take n word) rows) (drop n word))
        → or_else (begun word (row.0, k row.1)) (by_rows word (kinded k rows)) ≡ stemmed f (cond b (Some row.1) (row_of (take n word) rows)) (drop n word)
    chosen true e behind =
        or_both _ _ _ None (begun_true word n (row.0, k row.1) long e) (no_other k n rows row.0 word e (not_false _ more.0) more.1)
        ∙ or_none _ ∙ h row.1 (drop n word)
    chosen false e behind =
        or_both _ None _ _ (begun_false word n (row.0, k row.1) long e) (behind more.1)

joined : (word : List ℕ) (xs ys : List (List ℕ × Stem)) (a b : Option (Mnemonic × Condition)) → by_rows word xs ≡ a → by_rows word ys ≡ b
    → by_rows word (xs ++ ys) ≡ or_else a b
joined word xs ys a b e h = appended word xs ys ∙ or_both _ a _ b e h

-- ---- the tables

abbrev data_rows : List (List ℕ × Operation)
data_rows = (codes "AND", operation.And) ∷ (codes "EOR", operation.Eor) ∷ (codes "SUB", operation.Sub)
    ∷ (codes "RSB", operation.Rsb) ∷ (codes "ADD", operation.Add) ∷ (codes "ADC", operation.Adc)
    ∷ (codes "SBC", operation.Sbc) ∷ (codes "RSC", operation.Rsc) ∷ (codes "TST", operation.Tst)
    ∷ (codes "TEQ", operation.Teq) ∷ (codes "CMP", operation.Cmp) ∷ (codes "CMN", operation.Cmn)
    ∷ (codes "ORR", operation.Orr) ∷ (codes "MOV", operation.Mov) ∷ (codes "BIC", operation.Bic)
    ∷ (codes "MVN", operation.Mvn) ∷ []

abbrev multiply_rows : List (List ℕ × Bool)
multiply_rows = (codes "MUL", false) ∷ (codes "MLA", true) ∷ []

abbrev long_rows : List (List ℕ × (Bool × Bool))
long_rows = (codes "UMULL", (false, false)) ∷ (codes "UMLAL", (false, true))
    ∷ (codes "SMULL", (true, false)) ∷ (codes "SMLAL", (true, true)) ∷ []

abbrev transfer_rows : List (List ℕ × Bool)
transfer_rows = (codes "LDR", true) ∷ (codes "STR", false) ∷ []

abbrev block_rows : List (List ℕ × Bool)
block_rows = (codes "LDM", true) ∷ (codes "STM", false) ∷ []

abbrev swap_rows : List (List ℕ × Mnemonic)
swap_rows = (codes "SWP", mnemonic.Swap false) ∷ []

abbrev plain_rows : List (List ℕ × Mnemonic)
plain_rows = (codes "MRS", mnemonic.ReadStatus) ∷ (codes "MSR", mnemonic.WriteStatus)
    ∷ (codes "SWI", mnemonic.SoftwareInterrupt) ∷ (codes "ADR", mnemonic.Address) ∷ []

abbrev long_address_rows : List (List ℕ × Mnemonic)
long_address_rows = (codes "ADRL", mnemonic.LongAddress) ∷ []

abbrev short_branch_rows : List (List ℕ × Mnemonic)
short_branch_rows = (codes "B", mnemonic.Branch false) ∷ []

abbrev branch_rows : List (List ℕ × Mnemonic)
branch_rows = (codes "BL", mnemonic.Branch true) ∷ (codes "BX", mnemonic.BranchExchange) ∷ []

abbrev float_arithmetic_rows : List (List ℕ × Mnemonic)
float_arithmetic_rows = (codes "ADF", mnemonic.FloatingPoint) ∷ (codes "MUF", mnemonic.FloatingPoint)
    ∷ (codes "SUF", mnemonic.FloatingPoint) ∷ (codes "RSF", mnemonic.FloatingPoint)
    ∷ (codes "DVF", mnemonic.FloatingPoint) ∷ (codes "RDF", mnemonic.FloatingPoint)
    ∷ (codes "POW", mnemonic.FloatingPoint) ∷ (codes "RPW", mnemonic.FloatingPoint)
    ∷ (codes "RMF", mnemonic.FloatingPoint) ∷ (codes "FML", mnemonic.FloatingPoint)
    ∷ (codes "FDV", mnemonic.FloatingPoint) ∷ (codes "FRD", mnemonic.FloatingPoint)
    ∷ (codes "POL", mnemonic.FloatingPoint) ∷ []

abbrev float_functions_rows : List (List ℕ × Mnemonic)
float_functions_rows = (codes "MVF", mnemonic.FloatingPoint) ∷ (codes "MNF", mnemonic.FloatingPoint)
    ∷ (codes "ABS", mnemonic.FloatingPoint) ∷ (codes "RND", mnemonic.FloatingPoint)
    ∷ (codes "SQT", mnemonic.FloatingPoint) ∷ (codes "LOG", mnemonic.FloatingPoint)
    ∷ (codes "LGN", mnemonic.FloatingPoint) ∷ (codes "EXP", mnemonic.FloatingPoint)
    ∷ (codes "SIN", mnemonic.FloatingPoint) ∷ (codes "COS", mnemonic.FloatingPoint)
    ∷ (codes "TAN", mnemonic.FloatingPoint) ∷ (codes "ASN", mnemonic.FloatingPoint)
    ∷ (codes "ACS", mnemonic.FloatingPoint) ∷ (codes "ATN", mnemonic.FloatingPoint)
    ∷ (codes "URD", mnemonic.FloatingPoint) ∷ (codes "NRM", mnemonic.FloatingPoint) ∷ []

abbrev float_transfers_rows : List (List ℕ × Mnemonic)
float_transfers_rows = (codes "CMF", mnemonic.FloatingPoint) ∷ (codes "CNF", mnemonic.FloatingPoint)
    ∷ (codes "LDF", mnemonic.FloatingPoint) ∷ (codes "STF", mnemonic.FloatingPoint)
    ∷ (codes "FLT", mnemonic.FloatingPoint) ∷ (codes "FIX", mnemonic.FloatingPoint)
    ∷ (codes "WFS", mnemonic.FloatingPoint) ∷ (codes "RFS", mnemonic.FloatingPoint)
    ∷ (codes "WFC", mnemonic.FloatingPoint) ∷ (codes "RFC", mnemonic.FloatingPoint) ∷ []

abbrev float_compare_rows : List (List ℕ × Mnemonic)
float_compare_rows = (codes "CMFE", mnemonic.FloatingPoint) ∷ (codes "CNFE", mnemonic.FloatingPoint) ∷ []

abbrev float_block_rows : List (List ℕ × Mnemonic)
float_block_rows = (codes "LFM", mnemonic.FloatingPoint) ∷ (codes "SFM", mnemonic.FloatingPoint) ∷ []

abbrev float_rows : List (List ℕ × Mnemonic)
float_rows = float_arithmetic_rows ++ (float_functions_rows ++ float_transfers_rows)

abbrev idle_rows : List (List ℕ × Stem)
idle_rows = (codes "NOP", stem.Alone mnemonic.NoOperation) ∷ []

abbrev data_table : List (List ℕ × Stem)
data_table = kinded stem.Data data_rows

abbrev multiply_table : List (List ℕ × Stem)
multiply_table = kinded stem.Multiply multiply_rows

abbrev long_table : List (List ℕ × Stem)
long_table = kinded (λ p. stem.MultiplyLong p.0 p.1) long_rows

abbrev transfer_table : List (List ℕ × Stem)
transfer_table = kinded stem.Transfer transfer_rows

abbrev block_table : List (List ℕ × Stem)
block_table = kinded stem.TransferBlock block_rows

abbrev swap_table : List (List ℕ × Stem)
swap_table = kinded (λ m. stem.Swap) swap_rows

abbrev plain_table : List (List ℕ × Stem)
plain_table = kinded stem.Bare plain_rows

abbrev long_address_table : List (List ℕ × Stem)
long_address_table = kinded stem.Bare long_address_rows

abbrev short_branch_table : List (List ℕ × Stem)
short_branch_table = kinded stem.Bare short_branch_rows

abbrev branch_table : List (List ℕ × Stem)
branch_table = kinded stem.Bare branch_rows

abbrev float_table : List (List ℕ × Stem)
float_table = kinded stem.Float float_rows

abbrev float_compare_table : List (List ℕ × Stem)
float_compare_table = kinded stem.Float float_compare_rows

abbrev float_block_table : List (List ℕ × Stem)
float_block_table = kinded (λ m. stem.FloatBlock) float_block_rows

data_is : (word : List ℕ) → by_rows word data_table ≡ data_named word
unfolding data_named data_stem
data_is word = family stem.Data data_suffix 3 data_rows word (λ a rest. refl) refl

multiply_is : (word : List ℕ) → by_rows word multiply_table ≡ multiply_named word
unfolding multiply_named multiply_stem
multiply_is word = family stem.Multiply multiply_suffix 3 multiply_rows word (λ a rest. refl) refl

long_is : (word : List ℕ) → by_rows word long_table ≡ long_named word
unfolding long_named long_stem
long_is word = family (λ p. stem.MultiplyLong p.0 p.1) long_suffix 5 long_rows word (λ a rest. refl) refl

transfer_is : (word : List ℕ) → by_rows word transfer_table ≡ transfer_named word
unfolding transfer_named transfer_stem
transfer_is word = family stem.Transfer transfer_suffix 3 transfer_rows word (λ a rest. refl) refl

block_is : (word : List ℕ) → by_rows word block_table ≡ block_named word
unfolding block_named block_stem
block_is word = family stem.TransferBlock block_suffix 3 block_rows word (λ a rest. refl) refl

swap_is : (word : List ℕ) → by_rows word swap_table ≡ swap_named word
unfolding swap_named swap_stem
swap_is word = family (λ m. stem.Swap) swap_suffix 3 swap_rows word (λ a rest. refl) refl

plain_is : (word : List ℕ) → by_rows word plain_table ≡ plain_named word
unfolding plain_named plain_stem
plain_is word = family stem.Bare bare_suffix 3 plain_rows word (λ a rest. refl) refl

long_address_is : (word : List ℕ) → by_rows word long_address_table ≡ long_address_named word
unfolding long_address_named long_address_stem
long_address_is word = family stem.Bare bare_suffix 4 long_address_rows word (λ a rest. refl) refl

short_branch_is : (word : List ℕ) → by_rows word short_branch_table ≡ stemmed bare_suffix (short_branch_stem (take 1 word)) (drop 1 word)
unfolding short_branch_stem
short_branch_is word = family stem.Bare bare_suffix 1 short_branch_rows word (λ a rest. refl) refl

branch_is : (word : List ℕ) → by_rows word branch_table ≡ stemmed bare_suffix (branch_stem (take 2 word)) (drop 2 word)
unfolding branch_stem
branch_is word = family stem.Bare bare_suffix 2 branch_rows word (λ a rest. refl) refl

float_compare_is : (word : List ℕ) → by_rows word float_compare_table ≡ stemmed float_suffix (float_compare (take 4 word)) (drop 4 word)
unfolding float_compare
float_compare_is word = family stem.Float float_suffix 4 float_compare_rows word (λ a rest. refl) refl

float_block_is : (word : List ℕ) → by_rows word float_block_table ≡ stemmed float_block_suffix (float_block (take 3 word)) (drop 3 word)
unfolding float_block
float_block_is word = family (λ m. stem.FloatBlock) float_block_suffix 3 float_block_rows word (λ a rest. refl) refl

float_is : (word : List ℕ) → by_rows word float_table ≡ stemmed float_suffix (float_stem (take 3 word)) (drop 3 word)
unfolding float_arithmetic float_functions float_transfers
float_is word =
    family stem.Float float_suffix 3 float_rows word (λ a rest. refl) refl
    ∙ ap (λ o. stemmed float_suffix o (drop 3 word))
    (row_appended (take 3 word) float_arithmetic_rows (float_functions_rows ++ float_transfers_rows)
    ∙ ap (or_else (row_of (take 3 word) float_arithmetic_rows)) (row_appended (take 3 word) float_functions_rows float_transfers_rows))

-- a word that stands alone
idle_is : (word : List ℕ) → by_rows word idle_rows ≡ idle_named word
unfolding idle_named idle_word
idle_is word = or_none _ ∙ alone word
  where
    moved : (b : Bool) → cond b (Some (mnemonic.NoOperation, condition.Al)) None ≡ conditioned condition.Al (cond b (Some mnemonic.NoOperation) None)
    moved true = refl
    moved false = refl

    longer : (x y z w : Bool) → cond w None None ≡ conditioned condition.Al (cond (x && (y && (z && false))) (Some mnemonic.NoOperation) None)
    longer true true true true = refl
    longer true true true false = refl
    longer true true false true = refl
    longer true true false false = refl
    longer true false z true = refl
    longer true false z false = refl
    longer false y z true = refl
    longer false y z false = refl

    alone : (word : List ℕ) → begun word (codes "NOP", stem.Alone mnemonic.NoOperation) ≡ conditioned condition.Al
        (row_of word ((codes "NOP", mnemonic.NoOperation) ∷ []))
    alone [] = refl
    alone (a ∷ []) = moved (is_called (codes "NOP") (a ∷ []))
    alone (a ∷ b ∷ []) = moved (is_called (codes "NOP") (a ∷ b ∷ []))
    alone (a ∷ b ∷ c ∷ []) = moved (is_called (codes "NOP") (a ∷ b ∷ c ∷ []))
    alone (a ∷ b ∷ c ∷ d ∷ s) =
        longer (to_ascii_lowercase a == 110) (to_ascii_lowercase b == 111) (to_ascii_lowercase c == 112) (is_called (codes "NOP") (a ∷ b ∷ c ∷ []))

-- ---- all rows

abbrev branch_tables : List (List ℕ × Stem)
branch_tables = short_branch_table ++ branch_table

abbrev moving_rows : List (List ℕ × Stem)
moving_rows = transfer_table ++ (block_table ++ swap_table)

abbrev other_rows : List (List ℕ × Stem)
other_rows = plain_table ++ (long_address_table ++ (branch_tables ++ idle_rows))

abbrev fpa_rows : List (List ℕ × Stem)
fpa_rows = float_table ++ (float_compare_table ++ float_block_table)

abbrev pub all_rows : List (List ℕ × Stem)
all_rows = data_table ++ (multiply_table ++ (long_table ++ (moving_rows ++ (other_rows ++ fpa_rows))))

moving_is : (word : List ℕ) → by_rows word moving_rows ≡ moving_named word
unfolding moving_named
moving_is word =
    joined word transfer_table (block_table ++ swap_table) _ _ (transfer_is word) (joined word block_table swap_table _ _ (block_is word) (swap_is word))

other_is : (word : List ℕ) → by_rows word other_rows ≡ other_named word
unfolding other_named branch_named
other_is word =
    joined word plain_table (long_address_table ++ (branch_tables ++ idle_rows)) _ _ (plain_is word)
    (joined word long_address_table (branch_tables ++ idle_rows) _ _ (long_address_is word)
    (joined word branch_tables idle_rows _ _ (joined word short_branch_table branch_table _ _ (short_branch_is word) (branch_is word)) (idle_is word)))

fpa_is : (word : List ℕ) → by_rows word fpa_rows ≡ float_named word
unfolding float_named
fpa_is word =
    joined word float_table (float_compare_table ++ float_block_table) _ _ (float_is word)
    (joined word float_compare_table float_block_table _ _ (float_compare_is word) (float_block_is word))

pub rows_are : (word : List ℕ) → by_rows word all_rows ≡ operation_named word
unfolding operation_named
rows_are word =
    joined word data_table (multiply_table ++ (long_table ++ (moving_rows ++ (other_rows ++ fpa_rows)))) _ _ (data_is word)
    (joined word multiply_table (long_table ++ (moving_rows ++ (other_rows ++ fpa_rows))) _ _ (multiply_is word)
    (joined word long_table (moving_rows ++ (other_rows ++ fpa_rows)) _ _ (long_is word)
    (joined word moving_rows (other_rows ++ fpa_rows) _ _ (moving_is word) (joined word other_rows fpa_rows _ _ (other_is word) (fpa_is word)))))

-- ---- the rows of a letter, in lower case

abbrev begins_with : ℕ → List ℕ → Bool
begins_with d [] = true
begins_with d (x ∷ xs) = d == to_ascii_lowercase x

abbrev kept : Bool → List ℕ × Stem → List (List ℕ × Stem) → List (List ℕ × Stem)
kept true row rows = row ∷ rows
kept false row rows = rows

abbrev pub with_letter : ℕ → List (List ℕ × Stem) → List (List ℕ × Stem)
with_letter d [] = []
with_letter d (row ∷ rows) = kept (begins_with d row.0) row (with_letter d rows)

-- a word with another first letter
other_letter : (c : ℕ) (cs name : List ℕ) (s : Stem) → begins_with (to_ascii_lowercase c) name ≡ false → begun (c ∷ cs) (name, s) ≡ None
other_letter c cs [] s e = absurd (cc)
other_letter c cs (d ∷ ds) s e = rw e refl

-- the rows of other letters say nothing of a word
by_letter : (c : ℕ) (cs : List ℕ) (rows : List (List ℕ × Stem))
    → by_rows (c ∷ cs) (with_letter (to_ascii_lowercase c) rows) ≡ by_rows (c ∷ cs) rows
by_letter c cs [] = refl
by_letter c cs (row ∷ rows) = chosen (begins_with (to_ascii_lowercase c) row.0) refl (by_letter c cs rows)
  where
    chosen : (b : Bool) → begins_with (to_ascii_lowercase c) row.0 ≡ b
        → by_rows (c ∷ cs) (with_letter (to_ascii_lowercase c) rows) ≡ by_rows (c ∷ cs) rows
        → by_rows (c ∷ cs) (kept b row (with_letter (to_ascii_lowercase c) rows)) ≡ or_else (begun (c ∷ cs) row) (by_rows (c ∷ cs) rows)
    chosen true e h = ap (or_else (begun (c ∷ cs) row)) h
    chosen false e h = sym (or_both _ None _ _ (other_letter c cs row.0 row.1 e) (sym h))

pub no_word : (word : List ℕ) → length word ≡ 0 → None ≡ operation_named word
no_word [] e = rows_are []
no_word (c ∷ cs) e = absurd (omega arith)

pub of_letter : (word : List ℕ) (c : ℕ) (cs : List ℕ) (d : ℕ) → word ≡ c ∷ cs → to_ascii_lowercase c ≡ d
    → by_rows word (with_letter d all_rows) ≡ operation_named word
of_letter word c cs d e h =
    subst (λ (w : List ℕ). by_rows w (with_letter d all_rows) ≡ operation_named w) (sym e)
    (subst (λ (x : ℕ). by_rows (c ∷ cs) (with_letter x all_rows) ≡ operation_named (c ∷ cs)) h
    (by_letter c cs all_rows ∙ rows_are (c ∷ cs)))

-- no row begins with another letter
pub no_rows : (d : ℕ) → (d ≡ 97 → ⊥) → (d ≡ 98 → ⊥) → (d ≡ 99 → ⊥) → (d ≡ 100 → ⊥) → (d ≡ 101 → ⊥) → (d ≡ 102 → ⊥) → (d ≡ 108 → ⊥) → (d ≡ 109 → ⊥)
    → (d ≡ 110 → ⊥) → (d ≡ 111 → ⊥) → (d ≡ 112 → ⊥) → (d ≡ 114 → ⊥) → (d ≡ 115 → ⊥) → (d ≡ 116 → ⊥) → (d ≡ 117 → ⊥) → (d ≡ 119 → ⊥)
    → with_letter d all_rows ≡ []
no_rows d n1 n2 n3 n4 n5 n6 n7 n8 n9 n10 n11 n12 n13 n14 n15 n16 =
    rw (
      ne_eqb d 97 n1,
      ne_eqb d 98 n2,
      ne_eqb d 99 n3,
      ne_eqb d 100 n4,
      ne_eqb d 101 n5,
      ne_eqb d 102 n6,
      ne_eqb d 108 n7,
      ne_eqb d 109 n8,
      ne_eqb d 110 n9,
      ne_eqb d 111 n10,
      ne_eqb d 112 n11,
      ne_eqb d 114 n12,
      ne_eqb d 115 n13,
      ne_eqb d 116 n14,
      ne_eqb d 117 n15,
      ne_eqb d 119 n16,
    ) refl
