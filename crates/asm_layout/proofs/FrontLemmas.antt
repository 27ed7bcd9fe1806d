-- The first lines of a source.
use Rattle.std.proofs.Common.{◌≡◌, ◌<◌, ℕ, zero, suc, ◌-◌, List, [], ◌∷◌, ◌++◌, length, take, drop, Result, Ok, Err, refl, sym, ap, ◌∙◌, subst, arith, append_assoc}
use Rattle.std.proofs.lemmas.List.{length-drop, take-append-drop}
use Rattle.sdt_fault.specs.declared.answer.Fault.{Fault}
use Rattle.asm_model.specs.declared.statements.Statement.{Statement}
use Rattle.asm_model.specs.declared.names.LaidName.{LaidName}
use Rattle.asm_model.specs.Labels.{declared_names}
use Rattle.asm_model.specs.Laid.{LaidLine, laid, laid_behind, laid_of, reversed}
use Rattle.asm_model.specs.LayoutKinds.{equals_in, settled, told_at}
use Rattle.source_model.specs.Registers.{register_names}
use Rattle.source_model.specs.SourceFaults.{first_laid}
use Rattle.asm_layout.specs.declared.outline.Outline.{Outline}
use Rattle.asm_layout.specs.declared.walking.Walk.{Walk}
use Rattle.asm_layout.specs.Front.{front_laid, front_lines}
use Rattle.asm_layout.specs.Layout.{IsTold}
use Rattle.asm_layout.specs.Outline.{IsOutline}
use Rattle.asm_layout.specs.Walking.{IsWalking, IsAlong, IsWalked, IsFrontWalked, StepsOn, told_by}
use Rattle.asm_layout.proofs.WalkLemmas.{reversed_joined, reversed_long, is_outlined, first_stays, told_moves}

-- ---- lines that are left out

drop_more : (n : ℕ) (xs : List LaidLine) → drop (suc n) xs ≡ drop 1 (drop n xs)
drop_more zero xs = refl
drop_more (suc n) [] = refl
drop_more (suc n) (x ∷ xs) = drop_more n xs

dropped : (d : List LaidName) (zs acc : List Statement) → drop (length zs) (laid_of d (reversed zs acc)) ≡ laid_of d acc
dropped d [] acc = refl
dropped d (z ∷ zs) acc = drop_more (length zs) (laid_of d (reversed zs (z ∷ acc))) ∙ ap (λ (ls : List LaidLine). drop 1 ls) (dropped d zs (z ∷ acc))

-- the lines of the statements in front
pub front_is : (statements ys : List Statement) (n : ℕ) → statements ≡ ys ++ drop n statements
    → front_lines (reversed statements []) n ≡ laid_of (declared_names (reversed statements [])) (reversed ys [])
front_is statements ys n e =
    let s = reversed statements [] in
    let d = declared_names s in
    let behind = drop n statements in
    let split : s ≡ reversed behind (reversed ys []) = ap (λ (l : List Statement). reversed l []) e ∙ reversed_joined ys behind [] in
    let long : length s ≡ length statements = reversed_long statements [] ∙ omega arith in
    let count : length s - n ≡ length behind = ap (λ (k : ℕ). k - n) long ∙ sym (length-drop n statements) in
    ap (λ (k : ℕ). drop k (laid_of d s)) count ∙ ap (λ (l : List Statement). drop (length behind) (laid_of d l)) split ∙ dropped d behind (reversed ys [])

all_lines : (statements : List Statement) → front_lines (reversed statements []) (length statements) ≡ laid (reversed statements [])
all_lines statements =
    let s = reversed statements [] in
    let none : length s - length statements ≡ 0 = ap (λ (k : ℕ). k - length statements) (reversed_long statements []) ∙ omega arith in
    ap (λ (k : ℕ). drop k (laid s)) none

pub all_walked : (statements : List Statement) (n : ℕ) (r : Result Walk Fault) → n ≡ length statements → IsFrontWalked (reversed statements []) n r
    → IsWalked (reversed statements []) r
all_walked statements n (Ok w) e h =
    let s = reversed statements [] in
    subst (λ (ls : List LaidLine). IsWalking (declared_names s) (register_names s) (settled (equals_in s)) s ls w)
    (ap (λ (k : ℕ). front_lines s k) e ∙ all_lines statements) h
all_walked statements n (Err f) e h =
    let s = reversed statements [] in
    subst (λ (ls : List LaidLine). IsTold (first_laid (register_names s) (settled (equals_in s)) s ls) f)
    (ap (λ (k : ℕ). front_lines s k) e ∙ all_lines statements) h

-- ---- the lines in front, one behind the other

pub begins : (statements : List Statement) (n : ℕ) → statements ≡ take n statements ++ drop n statements
begins statements n = sym (take-append-drop n statements)

-- a statement is next, with those behind it and those that are left out
pub next_is : (statements : List Statement) (n : ℕ) (x : Statement) (zs rest : List Statement) → rest ≡ x ∷ zs → rest ++ drop n statements ≡ x
    ∷ (zs ++ drop n statements)
next_is statements n x zs rest e = ap (λ (l : List Statement). l ++ drop n statements) e

pub nothing : (xs : List Statement) → length xs < 1 → xs ≡ []
nothing [] less = refl
nothing (x ∷ xs) less = absurd (omega arith)

pub front_ends : (statements ys : List Statement) (n : ℕ) (w : Walk) → IsAlong statements ys (drop n statements) w
    → IsFrontWalked (reversed statements []) n (Ok w)
front_ends statements ys n w h =
    let s = reversed statements [] in
    subst (λ (ls : List LaidLine). IsWalking (declared_names s) (register_names s) (settled (equals_in s)) s ls w) (sym (front_is statements ys n h.whole))
    h.walks

-- ---- a faulty line

pub told_front : (statements ys : List Statement) (x : Statement) (zs rest : List Statement) (n : ℕ) (o : Outline) (old new : Walk) (f : Fault)
    → IsOutline (reversed statements []) o → rest ≡ x ∷ zs → IsAlong statements ys (rest ++ drop n statements) old
    → StepsOn o x old new (Err f) → IsTold (front_laid (reversed statements []) n) f
told_front statements ys x zs rest n o old new f outlined e h steps =
    let s = reversed statements [] in
    let d = declared_names s in
    let names = register_names s in
    let fixed = settled (equals_in s) in
    let before = laid_of d (reversed ys []) in
    let next = next_is statements n x zs rest e in
    let told = steps names fixed s before outlined.states
    (subst (λ (c : List LaidName). IsWalking c names fixed s before old) (sym outlined.names) h.walks)
    (is_outlined statements ys x (zs ++ drop n statements) (rest ++ drop n statements) o old outlined next h) in
    let here : IsTold (told_at x (told_by names fixed s (laid_behind d x before) before)) f =
    subst (λ (c : List LaidName). IsTold (told_at x (told_by names fixed s (laid_behind c x before) before)) f) outlined.names told in
    let whole : statements ≡ (ys ++ x ∷ zs) ++ drop n statements =
    h.whole ∙ ap (λ (l : List Statement). ys ++ l) next ∙ sym (append_assoc ys (x ∷ zs) (drop n statements)) in
    let lines : front_lines s n ≡ laid_of d (reversed zs (x ∷ reversed ys [])) =
    front_is statements (ys ++ x ∷ zs) n whole ∙ ap (λ (l : List Statement). laid_of d l) (reversed_joined ys (x ∷ zs) []) in
    subst (λ (ls : List LaidLine). IsTold (first_laid names fixed s ls) f) (sym lines)
    (told_moves (told_at x (told_by names fixed s (laid_behind d x before) before)) (first_laid names fixed s (laid_of d (reversed zs (x ∷ reversed ys [])))) f
    (λ t is. first_stays names fixed s d zs (x ∷ reversed ys []) t (rw h.walks.none is)) here)
