-- Lemmas that several crates cite.
use Rattle.std.proofs.Common.{ℕ, List, [], ◌∷◌, ◌++◌, Option, Some, None}
use Rattle.std.specs.List.{AllByRecursion}
use Rattle.asm_model.specs.declared.directives.DirectiveLine.TheVariants as line
use Rattle.asm_model.specs.declared.directives.Held.{Held}
use Rattle.asm_model.specs.declared.directives.Held.TheVariants as held
use Rattle.asm_model.specs.declared.exprs.Expr.{Expr}
use Rattle.asm_model.specs.declared.statements.PseudoLine.TheVariants as pseudo
use Rattle.asm_model.specs.declared.statements.Statement.{Statement}
use Rattle.asm_model.specs.declared.statements.What.{What}
use Rattle.asm_model.specs.declared.statements.What.TheVariants as what
use Rattle.asm_model.specs.DataItems.{held_by}
use Rattle.asm_model.specs.Labels.{field_defines, defined_by, imported_in}
use Rattle.asm_model.specs.PlacedLines.{IsName, HasName, HasImport}
use Rattle.asm_model.specs.Sound.{ArePlain, IsPlain}
use Rattle.asm_model.specs.Fit.{MarksAgree, AllPlaceless, HeldFit, WhatFits, IsFit}
use Rattle.asm_model.specs.Named.{LoadNamed}
use Rattle.asm_model.specs.Said.{AllRead, WhatSaid, LoadsPlain, IsSaid, AllSaid, label_names, what_names, said_names, HoldsNoZero, HasTexts}

pub are_plain : (ss : List Statement) → AllSaid ss → ArePlain ss
are_plain [] h = tt
are_plain (s ∷ ss) h = (h.0.plain, are_plain ss h.1)

-- ---- all that is asked of a statement

-- a name with a character, and without a zero byte
abbrev pub IsText : List ℕ → Type 0
IsText n = HoldsNoZero n × IsName n

abbrev pub MarksFit : What → Type 0
MarksFit (what.Directive (line.Area name a)) = MarksAgree a.contents a.interwork a.halfword
MarksFit _ = Unit {0}

pub record IsFine (s : Statement) : Type 0 where
  pub read : WhatSaid s.what
  pub texts : AllByRecursion IsText (said_names s)
  pub marks : MarksFit s.what

-- ---- what follows

plain_said : (o : Option (List ℕ)) (w : What) → WhatSaid w → IsPlain (field_defines o w)
plain_said None w h = tt
plain_said (Some n) (what.Directive (line.Equ e)) h = h.plain
plain_said (Some n) w h = tt

loads_said : (w : What) → WhatSaid w → LoadsPlain w
loads_said (what.Pseudo (pseudo.LoadConstant condition rd e)) h = h.1.plain
loads_said w h = tt

pub fine_said : (s : Statement) → IsFine s → IsSaid s
fine_said s h = record { plain = plain_said s.label s.what h.read; read = h.read; loaded = loads_said s.what h.read }

load_named : (w : What) → WhatSaid w → LoadNamed w
load_named (what.Pseudo (pseudo.LoadConstant condition rd e)) h = h.1.named
load_named w h = tt

pub fine_loads : (s : Statement) → IsFine s → LoadNamed s.what
fine_loads s h = load_named s.what h.read

no_zeroes : (ns : List (List ℕ)) → AllByRecursion IsText ns → AllByRecursion HoldsNoZero ns
no_zeroes [] h = tt
no_zeroes (n ∷ ns) h = (h.0.0, no_zeroes ns h.1)

pub fine_texts : (s : Statement) → IsFine s → HasTexts s
fine_texts s h = no_zeroes (said_names s) h.texts

defined_named : (o : Option (List ℕ)) (w : What) → AllByRecursion IsText (label_names o ++ what_names w) → HasName (field_defines o w)
defined_named None w h = tt
defined_named (Some n) (what.Directive line.Rout) h = tt
defined_named (Some n) w h = h.0.1

imported_named : (o : Option (List ℕ)) (w : What) → AllByRecursion IsText (label_names o ++ what_names w) → HasImport (imported_in w)
imported_named None (what.Directive (line.Import n mark)) h = h.0.1
imported_named (Some n) (what.Directive (line.Import m mark)) h = h.1.0.1
imported_named None (what.Directive (line.Extern n mark)) h = h.0.1
imported_named (Some n) (what.Directive (line.Extern m mark)) h = h.1.0.1
imported_named o w h = tt

pub fine_named : (s : Statement) → IsFine s → HasName (defined_by s) × HasImport (imported_in s.what)
fine_named s h = (defined_named s.label s.what h.texts, imported_named s.label s.what h.texts)

placeless : (es : List Expr) → AllRead es → AllPlaceless es
placeless [] h = tt
placeless (e ∷ es) h = (h.0.plain, placeless es h.1)

held_fit : (h : Held) (es : List Expr) → AllRead es → HeldFit h es
held_fit held.Relocatable es r = placeless es r
held_fit (held.Fixed width) es r = tt
held_fit held.Strings es r = tt

what_fits : (w : What) → WhatSaid w → MarksFit w → WhatFits w
what_fits (what.Directive (line.Area name a)) h m = m
what_fits (what.Directive (line.Constants item es)) h m = held_fit (held_by item) es h
what_fits w h m = tt

pub fine_fit : (s : Statement) → IsFine s → IsFit s
fine_fit s h = what_fits s.what h.read h.marks
