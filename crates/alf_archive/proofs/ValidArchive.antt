-- A library that is read is valid: its members have names of their own and valid objects.
use Rattle.std.proofs.Common.{ℕ, List, [], ◌∷◌, ◌++◌, Option, sym, subst, append_assoc, append-nil, inl, inr}
use Rattle.std.specs.List.{AllByRecursion}
use Rattle.chunk_file.specs.declared.records.Span.{Span}
use Rattle.chunk_file.specs.Reading.{EachStands}
use Rattle.aof_object.specs.Names.{IsText, Lacks}
use Rattle.aof_object.specs.Validity as object
use Rattle.alf_archive.specs.declared.records.Archive.{Archive}
use Rattle.alf_archive.specs.declared.records.Member.{Member}
use Rattle.alf_archive.specs.declared.entries.Slot.{Slot}
use Rattle.alf_archive.specs.Archives.{member_names}
use Rattle.alf_archive.specs.Grammar.{ReadsArchive, SayMembers, SaysUse, IsValid}

each_more : {A : Type 0} (stands : List A → A → Type 0) (before xs : List A) (x : A) → EachStands stands before xs → stands (before ++ xs) x → EachStands stands before (xs ++ x ∷ [])
each_more stands before [] x h here = (subst (λ (l : List _). stands l x) (append-nil before) here, tt)
each_more stands before (y ∷ ys) x h here =
    (h.0, each_more stands (before ++ y ∷ []) ys x h.1 (subst (λ (l : List _). stands l x) (sym (append_assoc before (y ∷ []) ys)) here))

all_more : {A : Type 0} (P : A → Type 0) (xs : List A) (x : A) → AllByRecursion P xs → P x → AllByRecursion P (xs ++ x ∷ [])
all_more P [] x h p = (p, tt)
all_more P (y ∷ ys) x h p = (h.0, all_more P ys x h.1 p)

abbrev AreValid : List Member → Type 0
AreValid ms = IsValid (record { members = ms })

used : (b : List ℕ) (spans : List (Option Span)) (dir : List ℕ) (at : ℕ) (before : List Member) (s : Slot) (after : List Member) → AreValid before → SaysUse b spans dir at before s after → AreValid after
used b spans dir at before s after h (inl unused) = subst AreValid (sym unused.1) h
used b spans dir at before s after h (inr by) =
    subst AreValid (sym by.3) (record {
      fresh = each_more (λ earlier m. Lacks (member_names earlier) m.name) [] before by.0 h.fresh by.2.fresh;
      names = all_more (λ m. IsText m.name) before by.0 h.names by.2.is_text;
      objects = all_more (λ m. object.IsValid m.object) before by.0 h.objects by.2.chunk.3.4.valid;
    })

from : (b : List ℕ) (spans : List (Option Span)) (dir : List ℕ) (slots : List Slot) (at : ℕ) (before all : List Member) → AreValid before → SayMembers b spans dir slots at before all → AreValid all
from b spans dir [] at before all h says = subst AreValid (sym says.1) h
from b spans dir (s ∷ ss) at before all h says = from b spans dir ss _ says.0 all (used b spans dir at before s says.0 h says.2) says.3

pub reads_valid : (b : List ℕ) (a : Archive) → ReadsArchive b a → IsValid a
reads_valid b a r = from b r.0 _ r.2 0 [] a.members (record { fresh = tt; names = tt; objects = tt }) r.5
