-- Words for the contracts of private parts: which lines the lines so far begin with, and what one more adds to them.
use Rattle.std.specs.Prelude.{◌≡◌, ◌⊎◌, ℕ, List, [], ◌++◌, codes, Option, Some}
use Rattle.lll_core.specs.declared.lll.Lll.{Lll}
use Rattle.lll_text.specs.Lines.{line_feeds}
use Rattle.lll_text.specs.Spelling.{line, number_field, spelling}
use Rattle.evidence.specs.declared.evidence.Evidence.{Evidence}
use Rattle.evidence.specs.declared.reader_progress.Progress.{Progress}
use Rattle.evidence.specs.declared.reader_progress.Stage.{Stage}
use Rattle.evidence.specs.declared.reader_progress.Stage.TheVariants as stage
use Rattle.evidence.specs.declared.unread.Unread.{Unread}
use Rattle.evidence.specs.declared.unread.Unread.TheVariants as unread
use Rattle.evidence.specs.declared.reader_due.Statement.{Statement}
use Rattle.evidence.specs.declared.reader_lines.EqualLine.{EqualLine}
use Rattle.evidence.specs.Counts.{HasText}
use Rattle.evidence.specs.Due.{IsDue, line_content}
use Rattle.evidence.specs.Readers.{EqualLineFits, equal_content}
use Rattle.evidence.specs.Spelling.{number_line, models_text}
use Rattle.evidence.specs.Standing.{AdvancesTo, IsWrongText}
use Rattle.evidence.specs.Summaries.{lines_at}

-- ---- the lines so far

-- those of the numbers
abbrev pub numbers_read : Progress → List ℕ
numbers_read p = line (codes "hll-evidence 1") ++ number_line (codes "depth") p.depth ++ number_line (codes "conflicts") p.conflicts

-- and the line before the first model
abbrev pub before_first : Progress → List ℕ
before_first p = numbers_read p ++ line (codes "text a")

-- and that before the second
abbrev pub before_second : Progress → Lll → List ℕ
before_second p a = before_first p ++ spelling a ++ line (codes "text b")

-- after these lines come those of a model, which doesn't end in them
pub record IsInModel (p : Progress) (before front : List ℕ) : Type 0 where
  pub parts : front ≡ before ++ p.text.items
  pub whole : (p.text.items ≡ []) ⊎ ((most : List ℕ) × (p.text.items ≡ most ++ codes "\n"))
  pub heading : p.heading ≡ line_feeds before
  pub unended : (l : Lll) (more : List ℕ) → ¬ (p.text.items ≡ spelling l ++ more)

-- both models are in the lines
abbrev pub HasModels : List ℕ → Type 0
HasModels front = (e : Evidence) × HasText e × ((more : List ℕ) × (front ≡ models_text e ++ more))

-- the lines so far begin so, by what the next line is
abbrev pub IsBegun : Stage → Progress → List ℕ → Type 0
IsBegun stage.Header p front = front ≡ []
IsBegun stage.Depth p front = front ≡ line (codes "hll-evidence 1")
IsBegun stage.Conflicts p front = front ≡ line (codes "hll-evidence 1") ++ number_line (codes "depth") p.depth
IsBegun stage.FirstHeading p front = front ≡ numbers_read p
IsBegun stage.FirstModel p front = IsInModel p (before_first p) front
IsBegun stage.SecondHeading p front = (a : Lll) × (Some a ≡ p.first) × (front ≡ before_first p ++ spelling a)
IsBegun stage.SecondModel p front = (a : Lll) × (Some a ≡ p.first) × IsInModel p (before_second p a) front
IsBegun stage.Equal p front = HasModels front
IsBegun stage.Body p front = HasModels front
IsBegun stage.End p front = HasModels front

-- ---- one line more

-- the line of this number stands before a model
pub record AddsHeading (next : Stage) (p : Progress) (number : ℕ) (q : Progress) : Type 0 where
  pub stage : q.stage ≡ next
  pub depth : q.depth ≡ p.depth
  pub conflicts : q.conflicts ≡ p.conflicts
  pub empty : q.text.items ≡ []
  pub heading : q.heading ≡ number

-- the model goes on with the line
abbrev pub GoesOnWith : Stage → Progress → List ℕ → Progress → Type 0
GoesOnWith here p content q =
    (q.stage ≡ here) × ¬ (content ≡ codes "end") × (q.text.items ≡ p.text.items ++ line content) × (q.heading ≡ p.heading)

-- the line is the last of this model
abbrev pub EndsWith : Stage → Option Lll → Progress → List ℕ → Progress → Type 0
EndsWith next read p content q =
    (q.stage ≡ next) × ((model : Lll) × (read ≡ Some model) × (p.text.items ++ line content ≡ spelling model))

-- the line is one of a model
pub record AddsModelLine (here next : Stage) (read : Option Lll) (p : Progress) (content : List ℕ) (q : Progress) : Type 0 where
  pub depth : q.depth ≡ p.depth
  pub conflicts : q.conflicts ≡ p.conflicts
  pub by : GoesOnWith here p content q ⊎ EndsWith next read p content q

-- the line is that of the parts
pub record AddsEqualLine (p : Progress) (content : List ℕ) (q : Progress) : Type 0 where
  pub stage : q.stage ≡ stage.Body
  pub said : EqualLine
  pub fits : EqualLineFits p.parts said
  pub content_is : content ≡ equal_content p.parts said
  pub lines : q.lines ≡ lines_at said p.obligations

-- the line is one of what is shown
pub record AddsStatement (p : Progress) (content : List ℕ) (q : Progress) : Type 0 where
  pub said : Statement
  pub is_due : IsDue p.bounds p.due said
  pub content_is : content ≡ line_content p.due.number said
  pub to : AdvancesTo p said q

-- what is kept of the line of this number
abbrev pub AddsLine : Stage → Progress → ℕ → List ℕ → Progress → Type 0
AddsLine stage.Header p number content q = (q.stage ≡ stage.Depth) × (content ≡ codes "hll-evidence 1")
AddsLine stage.Depth p number content q = (q.stage ≡ stage.Conflicts) × (content ≡ codes "depth" ++ number_field q.depth)
AddsLine stage.Conflicts p number content q =
    (q.stage ≡ stage.FirstHeading) × (q.depth ≡ p.depth) × (content ≡ codes "conflicts" ++ number_field q.conflicts)
AddsLine stage.FirstHeading p number content q = (content ≡ codes "text a") × AddsHeading stage.FirstModel p number q
AddsLine stage.FirstModel p number content q = AddsModelLine stage.FirstModel stage.SecondHeading q.first p content q
AddsLine stage.SecondHeading p number content q =
    (content ≡ codes "text b") × (q.first ≡ p.first) × AddsHeading stage.SecondModel p number q
AddsLine stage.SecondModel p number content q =
    (q.first ≡ p.first) × AddsModelLine stage.SecondModel stage.Equal q.second p content q
AddsLine stage.Equal p number content q = AddsEqualLine p content q
AddsLine stage.Body p number content q = AddsStatement p content q
AddsLine stage.End p number content q = ⊥

-- ---- the end of the bytes

-- they end in this line
abbrev pub EndsIn : ℕ → Unread → Type 0
EndsIn number (unread.Form wrong) = wrong ≡ number
EndsIn number unread.Memory = Unit {0}

-- they end in a model after a heading
abbrev pub EndsInModel : ℕ → List ℕ → Unread → Type 0
EndsInModel heading bytes why = IsWrongText heading bytes why ⊎ ((l : Lll) × (bytes ≡ spelling l))

-- they end here, by what the next line is, with these after the last line feed
abbrev pub EndsEarly : Stage → Progress → ℕ → List ℕ → Unread → Type 0
EndsEarly stage.Header p number rest why = EndsIn number why
EndsEarly stage.Depth p number rest why = EndsIn number why
EndsEarly stage.Conflicts p number rest why = EndsIn number why
EndsEarly stage.FirstHeading p number rest why = EndsIn number why
EndsEarly stage.FirstModel p number rest why = EndsInModel p.heading (p.text.items ++ rest) why
EndsEarly stage.SecondHeading p number rest why = EndsIn number why
EndsEarly stage.SecondModel p number rest why = EndsInModel p.heading (p.text.items ++ rest) why
EndsEarly stage.Equal p number rest why = EndsIn number why
EndsEarly stage.Body p number rest why = EndsIn number why
EndsEarly stage.End p number rest why = EndsIn number why × ¬ (rest ≡ [])
