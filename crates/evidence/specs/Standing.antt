-- Words for the contracts of private parts: what the lines so far say of a text that begins with them.
use Rattle.std.specs.Prelude.{◌≡◌, ℕ, ◌+◌, ◌-◌, ◌*◌, ◌^◌, ◌<◌, ◌≤◌, ◌==◌, min, true, false, not, List, [], ◌++◌, length, codes, Option, Some, None}
use Rattle.std.specs.List.{list_all}
use Rattle.lll_core.specs.declared.lll.Lll.{Lll}
use Rattle.lll_core.specs.Tables.{input_count}
use Rattle.lll_text.specs.declared.fault.LllKind.{LllKind}
use Rattle.lll_text.specs.Lines.{IsFaultOf}
use Rattle.lll_text.specs.Spelling.{line, spelling}
use Rattle.evidence.specs.declared.evidence.Evidence.{Evidence}
use Rattle.evidence.specs.declared.reader_due.Due.{Due}
use Rattle.evidence.specs.declared.reader_due.Statement.{Statement}
use Rattle.evidence.specs.declared.reader_due.Statement.TheVariants as says
use Rattle.evidence.specs.declared.reader_progress.Progress.{Progress}
use Rattle.evidence.specs.declared.reader_progress.Stage.{Stage}
use Rattle.evidence.specs.declared.reader_progress.Stage.TheVariants as stage
use Rattle.evidence.specs.declared.unread.Unread.{Unread}
use Rattle.evidence.specs.declared.unread.Unread.TheVariants as unread
use Rattle.evidence.specs.Counts.{HasText}
use Rattle.evidence.specs.Due.{due_after}
use Rattle.evidence.specs.Rests.{IsRest}
use Rattle.evidence.specs.Summaries.{lines_said}
use Rattle.evidence.specs.Spelling.{number_line, part_count, numbers_text, first_model_text, models_text, text}

-- the lines of a value's text that are read, by what the next line is
abbrev pub read_text : Stage → Progress → Evidence → List ℕ
read_text stage.Header p e = []
read_text stage.Depth p e = line (codes "hll-evidence 1")
read_text stage.Conflicts p e = line (codes "hll-evidence 1") ++ number_line (codes "depth") e.depth
read_text stage.FirstHeading p e = numbers_text e
read_text stage.FirstModel p e = (numbers_text e ++ line (codes "text a")) ++ p.text.items
read_text stage.SecondHeading p e = first_model_text e
read_text stage.SecondModel p e = (first_model_text e ++ line (codes "text b")) ++ p.text.items
read_text stage.Equal p e = models_text e
read_text stage.Body p e = models_text e
read_text stage.End p e = text e

-- the value is as those lines say
abbrev pub Agrees : Stage → Progress → Evidence → Type 0
Agrees stage.Header p e = Unit {0}
Agrees stage.Depth p e = Unit {0}
Agrees stage.Conflicts p e = e.depth ≡ p.depth
Agrees stage.FirstHeading p e = (e.depth ≡ p.depth) × (e.conflicts ≡ p.conflicts)
Agrees stage.FirstModel p e = (e.depth ≡ p.depth) × (e.conflicts ≡ p.conflicts)
Agrees stage.SecondHeading p e = (e.depth ≡ p.depth) × (e.conflicts ≡ p.conflicts) × (Some e.a ≡ p.first)
Agrees stage.SecondModel p e = (e.depth ≡ p.depth) × (e.conflicts ≡ p.conflicts) × (Some e.a ≡ p.first)
Agrees stage.Equal p e = (e.depth ≡ p.depth) × (e.conflicts ≡ p.conflicts) × (Some e.a ≡ p.first) × (Some e.b ≡ p.second)
Agrees stage.Body p e = (e.depth ≡ p.depth) × (e.conflicts ≡ p.conflicts) × (Some e.a ≡ p.first) × (Some e.b ≡ p.second)
Agrees stage.End p e = Unit {0}

-- the text of such a value goes on with these bytes
pub record GoesOn (now : Stage) (p : Progress) (more : List ℕ) : Type 0 where
  pub value : Evidence
  pub fits : HasText value
  pub agrees : Agrees now p value
  pub spelled : text value ≡ read_text now p value ++ more

-- the bytes may follow the lines so far in a text
abbrev pub MayFollow : Stage → Progress → List ℕ → Type 0
MayFollow stage.Header p more = GoesOn stage.Header p more
MayFollow stage.Depth p more = GoesOn stage.Depth p more
MayFollow stage.Conflicts p more = GoesOn stage.Conflicts p more
MayFollow stage.FirstHeading p more = GoesOn stage.FirstHeading p more
MayFollow stage.FirstModel p more = GoesOn stage.FirstModel p more
MayFollow stage.SecondHeading p more = GoesOn stage.SecondHeading p more
MayFollow stage.SecondModel p more = GoesOn stage.SecondModel p more
MayFollow stage.Equal p more = GoesOn stage.Equal p more
MayFollow stage.Body p more = (a : Lll) × (Some a ≡ p.first) × IsRest p.bounds a p.due more
MayFollow stage.End p more = more ≡ []

-- after one more line the same bytes may follow
abbrev pub TakesLine : Progress → List ℕ → Progress → Type 0
TakesLine before content now = (more : List ℕ) →
    (MayFollow before.stage before (line content ++ more) → MayFollow now.stage now more)
    × (MayFollow now.stage now more → MayFollow before.stage before (line content ++ more))

-- no text has this line after the lines so far
abbrev pub RefusesLine : Progress → List ℕ → Type 0
RefusesLine before content = (more : List ℕ) → ¬ (MayFollow before.stage before (line content ++ more))

-- the line of this number is wrong
abbrev pub IsWrongLine : Progress → ℕ → List ℕ → Unread → Type 0
IsWrongLine before number content (unread.Form wrong) = (wrong ≡ number) × RefusesLine before content
IsWrongLine before number content unread.Memory = Unit {0}

-- ---- in a model

-- a line more is read of a model, or its last one
abbrev pub ReadsModelLine : List ℕ → List ℕ → List ℕ → Option Lll → Type 0
ReadsModelLine before content now None = (now ≡ before ++ line content) × (content ≡ codes "end" → ⊥)
ReadsModelLine before content now (Some model) = before ++ line content ≡ spelling model

-- the text after a heading is that of no model: this is its first wrong line
abbrev pub IsWrongText : ℕ → List ℕ → Unread → Type 0
IsWrongText heading bytes (unread.Form wrong) = (at : ℕ) × (kind : LllKind) × (wrong ≡ min (heading + at) (2 ^ 64 - 1)) × IsFaultOf bytes at kind
IsWrongText heading bytes unread.Memory = Unit {0}

-- the line is the last of a model, whose text is wrong
abbrev pub IsWrongModel : ℕ → List ℕ → List ℕ → Unread → Type 0
IsWrongModel heading before content (unread.Form wrong) = (content ≡ codes "end") × IsWrongText heading (before ++ line content) (unread.Form wrong)
IsWrongModel heading before content unread.Memory = Unit {0}

-- ---- by what the next line is

abbrev pub IsWrongBy : Stage → Progress → ℕ → List ℕ → Unread → Type 0
IsWrongBy stage.Header p number content why = IsWrongLine p number content why
IsWrongBy stage.Depth p number content why = IsWrongLine p number content why
IsWrongBy stage.Conflicts p number content why = IsWrongLine p number content why
IsWrongBy stage.FirstHeading p number content why = IsWrongLine p number content why
IsWrongBy stage.FirstModel p number content why = IsWrongModel p.heading p.text.items content why
IsWrongBy stage.SecondHeading p number content why = IsWrongLine p number content why
IsWrongBy stage.SecondModel p number content why = IsWrongModel p.heading p.text.items content why
IsWrongBy stage.Equal p number content why = IsWrongLine p number content why
IsWrongBy stage.Body p number content why = IsWrongLine p number content why
IsWrongBy stage.End p number content why = IsWrongLine p number content why

-- the line of this number is wrong, or memory ran out
abbrev pub IsWrong : Progress → ℕ → List ℕ → Unread → Type 0
IsWrong p number content why = IsWrongBy p.stage p number content why

-- ---- what the lines so far keep

-- no line feed stands in the bytes
abbrev pub IsWithinLine : List ℕ → Type 0
IsWithinLine bytes = list_all (λ b. not (b == 10)) bytes ≡ true

-- nothing is due yet
abbrev pub no_due : Due
no_due = record { steps = 0; logs = 0; rows = 0; model = false; entries = 0; number = 1 }

-- the numbers are those that a text may have
pub record HasNumbers (p : Progress) : Type 0 where
  pub some_depth : 1 ≤ p.depth
  pub depth_bound : p.depth ≤ 64
  pub some_conflicts : 1 ≤ p.conflicts
  pub conflicts_bound : p.conflicts ≤ 1000000

-- the first model is read, and its counts are kept
pub record HasFirst (p : Progress) (a : Lll) : Type 0 where
  pub is : Some a ≡ p.first
  pub depth : p.bounds.depth ≡ p.depth
  pub inputs : p.bounds.inputs ≡ input_count a.signals
  pub variables : p.bounds.variables ≡ (p.bounds.depth + 1) * length a.signals
  pub obligations : p.obligations ≡ length a.obligations
  pub few : p.obligations < 2 ^ 63

-- and so is the second
pub record HasSecond (p : Progress) (b : Lll) : Type 0 where
  pub is : Some b ≡ p.second
  pub parts : p.parts ≡ part_count b
  pub few : p.parts < 2 ^ 63

-- by what the next line is
abbrev pub IsFine : Stage → Progress → Type 0
IsFine stage.Header p = p.due ≡ no_due
IsFine stage.Depth p = p.due ≡ no_due
IsFine stage.Conflicts p = (p.due ≡ no_due) × (1 ≤ p.depth) × (p.depth ≤ 64)
IsFine stage.FirstHeading p = (p.due ≡ no_due) × HasNumbers p
IsFine stage.FirstModel p = (p.due ≡ no_due) × HasNumbers p
IsFine stage.SecondHeading p = (p.due ≡ no_due) × HasNumbers p × ((a : Lll) × HasFirst p a)
IsFine stage.SecondModel p = (p.due ≡ no_due) × HasNumbers p × ((a : Lll) × HasFirst p a)
IsFine stage.Equal p = (p.due ≡ no_due) × HasNumbers p × ((a : Lll) × HasFirst p a) × ((b : Lll) × HasSecond p b)
IsFine stage.Body p = HasNumbers p × ((a : Lll) × HasFirst p a) × (p.due.number + p.due.entries < 2 ^ 64 - 1)
IsFine stage.End p = Unit {0}

-- ---- one line of what is shown

-- what the next line is after a statement
abbrev pub stage_after : Statement → Stage
stage_after (says.Step step) = stage.Body
stage_after (says.Log count) = stage.Body
stage_after (says.Row values) = stage.Body
stage_after (says.Model values) = stage.Body
stage_after (says.Entry verdict) = stage.Body
stage_after says.End = stage.End

-- the progress after a statement
pub record AdvancesTo (p : Progress) (said : Statement) (q : Progress) : Type 0 where
  pub stage : q.stage ≡ stage_after said
  pub due : q.due ≡ due_after p.bounds.depth p.due said
  pub bounds : q.bounds ≡ p.bounds
  pub first : q.first ≡ p.first
  pub depth : q.depth ≡ p.depth
  pub conflicts : q.conflicts ≡ p.conflicts
  pub obligations : q.obligations ≡ p.obligations
  pub lines : q.lines ≡ p.lines ++ lines_said said
