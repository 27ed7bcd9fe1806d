-- One register of a list after the other: what each step of the code does to what is left.
use Rattle.std.proofs.Common.{◌≡◌, ℕ, zero, suc, ◌+◌, ◌-◌, ◌/◌, ◌%◌, ◌^◌, ◌<◌, ◌≤◌, Bool, true, false, not, List, [], ◌∷◌, length, Option, Some, None, refl, sym, ap, ◌∙◌, arith, cond}
use Rattle.std.specs.Prelude.{◌&&◌}
use Rattle.sdt_word.specs.Numbers.{bit, kept, places_from}
use Rattle.sdt_word.specs.declared.codes.Width.TheVariants.{Word}
use Rattle.arm7_model.specs.declared.state.ArmState.{ArmState}
use Rattle.arm7_model.specs.Accesses.{next_word}
use Rattle.arm7_model.specs.Blocks.{all_there, all_may_store, lists, listed_at}
use Rattle.arm7_bus.specs.Buses.{after_write, has_whole, needs_page}
use Rattle.arm7_bus.specs.Meets.{lesser_of}
use Rattle.arm7_bus.specs.Paging.{used_count, page_used_in}
use Rattle.arm7_bus.specs.States.{State}
use Rattle.arm7_transfers.specs.BlockAccesses.{stores_of, words_in, is_page_of, pages_needed}
use Rattle.arm7_transfers.specs.Boards.{board_of}
use Rattle.arm7_transfers.specs.Frames.{Fits, Misses, may_be_stored, least_unused, used_with}
use Rattle.arm7_transfers.specs.Ready.{IsReady}
use Rattle.arm7_transfers.specs.Served.{served}
use Rattle.arm7_transfers.proofs.BoardLemmas.{there-whole, may-whole}
use Rattle.arm7_transfers.proofs.BlockLemmas.{places_here}
use Rattle.arm7_transfers.proofs.PageLemmas.{pages-needed}
use Rattle.arm7_transfers.proofs.ReadyLemmas.{set-used}

abbrev pub left_of : ℕ → ℕ → List ℕ
left_of k list = places_from k (16 - k) list

pub along_here : {A : Type 0} (f : List ℕ → A) (k list : ℕ) (b : Bool) (x : A) → k < 16 → b ≡ lists list k → b ≡ true → x ≡ f (k ∷ left_of (k + 1) list) → x ≡ f (left_of k list)
along_here f k list b x lt e t h = h ∙ sym (ap f (places_here k list b lt e t))

-- ---- which words are there
pub there_absent : (s : State) (ks : List ℕ) (k a : ℕ) (held : Bool) → IsReady s → a % 4 ≡ 0 → held ≡ has_whole s a 4 → held ≡ false → false ≡ all_there (board_of s) (k ∷ ks) a
there_absent s ks k a held r h e t = rw (there-whole s a Word r h ∙ sym e ∙ t) refl

pub there_rest : (s : State) (ks : List ℕ) (k a : ℕ) (held x : Bool) → IsReady s → a % 4 ≡ 0 → held ≡ has_whole s a 4 → held ≡ true
    → x ≡ all_there (board_of s) ks (next_word a) → x ≡ all_there (board_of s) (k ∷ ks) a
there_rest s ks k a held x r h e t p = rw (there-whole s a Word r h ∙ sym e ∙ t) p

pub may_refused : (s : State) (ks : List ℕ) (k a : ℕ) (may : Bool) → IsReady s → a % 4 ≡ 0 → may ≡ may_be_stored s a 4 → may ≡ false → false ≡ all_may_store (board_of s) (k ∷ ks) a
may_refused s ks k a may r h e t = rw (may-whole s a Word r h ∙ sym e ∙ t) refl

pub may_rest : (s : State) (ks : List ℕ) (k a : ℕ) (may x : Bool) → IsReady s → a % 4 ≡ 0 → may ≡ may_be_stored s a 4 → may ≡ true
    → x ≡ all_may_store (board_of s) ks (next_word a) → x ≡ all_may_store (board_of s) (k ∷ ks) a
may_rest s ks k a may x r h e t p = rw (may-whole s a Word r h ∙ sym e ∙ t) p

-- ---- stores
pub gave_rest : (user : Bool) (core : ArmState) (ks : List ℕ) (k a v : ℕ) (s t s' : State) → v ≡ listed_at user core k → t ≡ after_write s a Word (v % 256 ^ 4)
    → s' ≡ served t (stores_of user core ks (next_word a)) → s' ≡ served s (stores_of user core (k ∷ ks) a)
gave_rest user core ks k a v s t s' e f h =
    h ∙ ap (λ (x : State). served x (stores_of user core ks (next_word a))) (f ∙ ap (λ (x : ℕ). after_write s a Word (x % 256 ^ 4)) e)

lesser-some : (a : ℕ) (o : Option ℕ) → lesser_of (Some a) o ≡ None → ⊥
lesser-some a None e = cc
lesser-some a (Some b) e = cc

-- where no word needs a page, the used pages stay
pub none_needed : (used : List Bool) (words : List ℕ) → least_unused used words ≡ None → used_with used words ≡ used
none_needed used [] e = refl
none_needed used (a ∷ rest) e = go (page_used_in used a) refl (none_needed used rest)
  where
    go : (u : Bool) → page_used_in used a ≡ u → (least_unused used rest ≡ None → used_with used rest ≡ used) → used_with used (a ∷ rest) ≡ used
    go true p more = ap (λ (us : List Bool). used_with us rest) (set-used used (a / 4096) p) ∙ more (rw p at e)
    go false p more = absurd (lesser-some a (least_unused used rest) (rw p at e))

-- ---- the same at the register k of a list
pub there_absent_at : (s : State) (k list a : ℕ) (b held : Bool) → IsReady s → a % 4 ≡ 0 → k < 16 → b ≡ lists list k → b ≡ true → held ≡ has_whole s a 4 → held ≡ false
    → false ≡ all_there (board_of s) (left_of k list) a
there_absent_at s k list a b held r h lt e t f p =
    along_here (λ (ks : List ℕ). all_there (board_of s) ks a) k list b false lt e t (there_absent s (left_of (k + 1) list) k a held r h f p)

pub there_rest_at : (s : State) (k list a n : ℕ) (b held x : Bool) → IsReady s → a % 4 ≡ 0 → k < 16 → b ≡ lists list k → b ≡ true → held ≡ has_whole s a 4 → held ≡ true
    → n ≡ next_word a → x ≡ all_there (board_of s) (left_of (k + 1) list) n → x ≡ all_there (board_of s) (left_of k list) a
there_rest_at s k list a n b held x r h lt e t f p q d =
    along_here (λ (ks : List ℕ). all_there (board_of s) ks a) k list b x lt e t
    (there_rest s (left_of (k + 1) list) k a held x r h f p (d ∙ ap (λ (m : ℕ). all_there (board_of s) (left_of (k + 1) list) m) q))

pub may_refused_at : (s : State) (k list a : ℕ) (b may : Bool) → IsReady s → a % 4 ≡ 0 → k < 16 → b ≡ lists list k → b ≡ true → may ≡ may_be_stored s a 4 → may ≡ false
    → false ≡ all_may_store (board_of s) (left_of k list) a
may_refused_at s k list a b may r h lt e t f p =
    along_here (λ (ks : List ℕ). all_may_store (board_of s) ks a) k list b false lt e t (may_refused s (left_of (k + 1) list) k a may r h f p)

pub may_rest_at : (s : State) (k list a n : ℕ) (b may x : Bool) → IsReady s → a % 4 ≡ 0 → k < 16 → b ≡ lists list k → b ≡ true → may ≡ may_be_stored s a 4 → may ≡ true
    → n ≡ next_word a → x ≡ all_may_store (board_of s) (left_of (k + 1) list) n → x ≡ all_may_store (board_of s) (left_of k list) a
may_rest_at s k list a n b may x r h lt e t f p q d =
    along_here (λ (ks : List ℕ). all_may_store (board_of s) ks a) k list b x lt e t
    (may_rest s (left_of (k + 1) list) k a may x r h f p (d ∙ ap (λ (m : ℕ). all_may_store (board_of s) (left_of (k + 1) list) m) q))

pub gave_rest_at : (user : Bool) (core : ArmState) (k list a n v : ℕ) (b : Bool) (s t s' : State) → k < 16 → b ≡ lists list k → b ≡ true → v ≡ listed_at user core k
    → t ≡ after_write s a Word (v % 256 ^ 4) → n ≡ next_word a → s' ≡ served t (stores_of user core (left_of (k + 1) list) n)
    → s' ≡ served s (stores_of user core (left_of k list) a)
gave_rest_at user core k list a n v b s t s' lt e p f g q d =
    along_here (λ (ks : List ℕ). served s (stores_of user core ks a)) k list b s' lt e p
    (gave_rest user core (left_of (k + 1) list) k a v s t s' f g (d ∙ ap (λ (m : ℕ). served t (stores_of user core (left_of (k + 1) list) m)) q))

-- ---- frames for all words
pub fits_none : (s : State) (words : List ℕ) (o : Option ℕ) → IsReady s → o ≡ least_unused s.contents.used words → o ≡ None → Fits s words
fits_none s words o r e t =
    let same = none_needed s.contents.used words (sym e ∙ t) in
    record { room = rw same r.room }

pub fits_left : (s : State) (words : List ℕ) (need left : ℕ) → IsReady s
    → used_count (used_with s.contents.used words) ≡ used_count s.contents.used + need → left ≡ s.contents.frames - used_count s.contents.used → need ≤ left → Fits s words
fits_left s words need left r e f le = let room = r.room in record { room = omega arith }

pub misses_left : (s : State) (words : List ℕ) (need left x : ℕ) (o : Option ℕ) → IsReady s
    → used_count (used_with s.contents.used words) ≡ used_count s.contents.used + need → left ≡ s.contents.frames - used_count s.contents.used → left < need
    → o ≡ least_unused s.contents.used words → o ≡ Some x → Misses s words x
misses_left s words need left x o r e f lt g t = let room = r.room in record { more = omega arith; least = sym g ∙ t }

-- the count of pages, for the words of a whole list
pub words_need : (s : State) (list a need : ℕ) → IsReady s → a < 2 ^ 32 → length (places_from 0 16 list) ≤ 16 → need ≡ pages_needed s (places_from 0 16 list) a None
    → used_count (used_with s.contents.used (words_in s.contents.banks (places_from 0 16 list) a)) ≡ used_count s.contents.used + need
words_need s list a need r lt few e = pages-needed s (places_from 0 16 list) a r.started lt few ∙ ap (λ (n : ℕ). used_count s.contents.used + n) (sym e)

places-few : (k n list : ℕ) → length (places_from k n list) ≤ n
places-few k zero list = omega arith
places-few k (suc n) list = go (bit list k) (places-few (suc k) n list)
  where
    go : (b : ℕ) → length (places_from (suc k) n list) ≤ n → length (kept b k (places_from (suc k) n list)) ≤ suc n
    go zero h = omega arith
    go (suc b) h = omega arith

pub sixteen : (list : ℕ) → length (places_from 0 16 list) ≤ 16
sixteen list = places-few 0 16 list

pages_few : (s : State) (ks : List ℕ) (a : ℕ) (last : Option ℕ) → pages_needed s ks a last ≤ length ks
pages_few s [] a last = omega arith
pages_few s (k ∷ ks) a last =
    go (needs_page s a 4 && not (is_page_of last a)) (pages_needed s ks (next_word a) (Some a)) (pages_needed s ks (next_word a) last)
    (pages_few s ks (next_word a) (Some a)) (pages_few s ks (next_word a) last)
  where
    go : (b : Bool) (x y : ℕ) → x ≤ length ks → y ≤ length ks → cond b (1 + x) y ≤ suc (length ks)
    go true x y h k = omega arith
    go false x y h k = omega arith

-- sixteen frames are enough
pub fits_many : (s : State) (list a left : ℕ) → IsReady s → a < 2 ^ 32 → left ≡ s.contents.frames - used_count s.contents.used → 16 ≤ left
    → Fits s (words_in s.contents.banks (places_from 0 16 list) a)
fits_many s list a left r lt f le =
    let few = pages_few s (places_from 0 16 list) a None in
    let most = sixteen list in
    fits_left s (words_in s.contents.banks (places_from 0 16 list) a) (pages_needed s (places_from 0 16 list) a None) left r
    (words_need s list a (pages_needed s (places_from 0 16 list) a None) r lt most refl) f (omega arith)
