-- Words for the contracts of private parts: what a line says of the claims, and judging that keeps step with all lines.
use Rattle.std.specs.Prelude.{◌≡◌, ℕ, ◌^◌, ◌<◌, ◌≤◌, List, ◌++◌, length, codes, Option, Some, Result, Ok, Err}
use Rattle.lll_core.specs.declared.lll.Lll.{Lll}
use Rattle.lll_text.specs.Spelling.{line as line_of, spelling}
use Rattle.evidence.specs.declared.claims_judged.Judged.{Judged}
use Rattle.evidence.specs.declared.evidence.Evidence.{Evidence}
use Rattle.evidence.specs.declared.fault.EvidenceFault.{EvidenceFault}
use Rattle.evidence.specs.declared.fault.EvidenceFault.TheVariants as fault
use Rattle.evidence.specs.declared.reader_due.Statement.{Statement}
use Rattle.evidence.specs.declared.reader_due.Statement.TheVariants as line
use Rattle.evidence.specs.declared.reader_lines.EqualLine.{EqualLine}
use Rattle.evidence.specs.declared.reader_progress.Progress.{Progress}
use Rattle.evidence.specs.declared.reader_progress.Stage.{Stage}
use Rattle.evidence.specs.declared.reader_progress.Stage.TheVariants as stage
use Rattle.evidence.specs.declared.reader_said.Said.{Said}
use Rattle.evidence.specs.declared.reader_said.Said.TheVariants as said
use Rattle.evidence.specs.declared.summary.Line.{Line}
use Rattle.evidence.specs.declared.summary.Summary.{Summary}
use Rattle.evidence.specs.Accepted.{Accepted}
use Rattle.evidence.specs.Begun.{IsBegun}
use Rattle.evidence.specs.Counts.{IsTextOf}
use Rattle.evidence.specs.Due.{IsDue, line_content}
use Rattle.evidence.specs.Following.{Follows, FollowsModels, due_in_parts}
use Rattle.evidence.specs.Readers.{EqualLineFits, equal_content}
use Rattle.evidence.specs.Refusals.{line_after, FailsFirst}
use Rattle.evidence.specs.Standing.{AdvancesTo, IsFine}
use Rattle.evidence.specs.Summaries.{lines_at, lines_of}

-- ---- what a line says

-- no claim can be judged yet
abbrev pub IsUnjudged : Stage → Type 0
IsUnjudged stage.Header = Unit {0}
IsUnjudged stage.Depth = Unit {0}
IsUnjudged stage.Conflicts = Unit {0}
IsUnjudged stage.FirstHeading = Unit {0}
IsUnjudged stage.FirstModel = Unit {0}
IsUnjudged stage.SecondHeading = Unit {0}
IsUnjudged stage.SecondModel = Unit {0}
IsUnjudged stage.Equal = ⊥
IsUnjudged stage.Body = ⊥
IsUnjudged stage.End = ⊥

-- it is the last of the second model
pub record TellsModels (p : Progress) (content : List ℕ) (q : Progress) : Type 0 where
  pub was : p.stage ≡ stage.SecondModel
  pub now : q.stage ≡ stage.Equal
  pub model : Lll
  pub second : q.second ≡ Some model
  pub ends : p.text.items ++ line_of content ≡ spelling model
  pub heading : q.heading ≡ p.heading
  pub depth : q.depth ≡ p.depth
  pub conflicts : q.conflicts ≡ p.conflicts
  pub first : q.first ≡ p.first

-- it is the line of the parts
pub record TellsParts (p : Progress) (content : List ℕ) (parts : EqualLine) (q : Progress) : Type 0 where
  pub was : p.stage ≡ stage.Equal
  pub now : q.stage ≡ stage.Body
  pub fits : EqualLineFits p.parts parts
  pub content_is : content ≡ equal_content p.parts parts
  pub due : q.due ≡ due_in_parts p parts
  pub lines : q.lines ≡ lines_at parts p.obligations
  pub depth : q.depth ≡ p.depth
  pub conflicts : q.conflicts ≡ p.conflicts
  pub first : q.first ≡ p.first
  pub bounds : q.bounds ≡ p.bounds
  pub parts_are : q.parts ≡ p.parts
  pub obligations : q.obligations ≡ p.obligations

-- it is a line after that
pub record TellsLine (p : Progress) (content : List ℕ) (statement : Statement) (q : Progress) : Type 0 where
  pub was : p.stage ≡ stage.Body
  pub is_due : IsDue p.bounds p.due statement
  pub content_is : content ≡ line_content p.due.number statement
  pub to : AdvancesTo p statement q

-- the line says this, and the progress goes on to q
abbrev pub Tells : Progress → List ℕ → Progress → Said → Type 0
Tells p content q said.Nothing = IsUnjudged q.stage
Tells p content q said.Models = TellsModels p content q
Tells p content q (said.Parts parts) = TellsParts p content parts q
Tells p content q (said.Line statement) = TellsLine p content statement q

-- ---- judging that keeps step

-- the last line is read, after these
pub record HasEnded (front : List ℕ) (p : Progress) (j : Judged) : Type 0 where
  pub before : Progress
  pub most : List ℕ
  pub follows : Follows most before j
  pub is_due : IsDue before.bounds before.due line.End
  pub spelled : front ≡ most ++ line_of (codes "end")
  pub lines : p.lines ≡ before.lines

-- what these lines claim is judged, by what the next line is
abbrev pub KeepsStep : Stage → List ℕ → Progress → Option Judged → Type 0
KeepsStep stage.Header front p judged = Unit {0}
KeepsStep stage.Depth front p judged = Unit {0}
KeepsStep stage.Conflicts front p judged = Unit {0}
KeepsStep stage.FirstHeading front p judged = Unit {0}
KeepsStep stage.FirstModel front p judged = Unit {0}
KeepsStep stage.SecondHeading front p judged = Unit {0}
KeepsStep stage.SecondModel front p judged = Unit {0}
KeepsStep stage.Equal front p judged = (j : Judged) × (judged ≡ Some j) × FollowsModels front p j
KeepsStep stage.Body front p judged = (j : Judged) × (judged ≡ Some j) × Follows front p j
KeepsStep stage.End front p judged = (j : Judged) × (judged ≡ Some j) × HasEnded front p j

-- a line of this number is read after a front, and says this
pub record IsLineRead (front content : List ℕ) (p : Progress) (number : ℕ) (says : Said) (q : Progress) : Type 0 where
  pub begun : IsBegun p.stage p front
  pub fine : IsFine q.stage q
  pub at : number ≡ line_after front
  pub few : number < 2 ^ 62
  pub tells : Tells p content q says

-- and the judging kept step before it, in a text that isn't too long
pub record IsToBeJudged (judged : Option Judged) (number : ℕ) (says : Said) (q : Progress) : Type 0 where
  pub front : List ℕ
  pub content : List ℕ
  pub p : Progress
  pub read : IsLineRead front content p number says q
  pub step : KeepsStep p.stage front p judged
  pub short : length (front ++ line_of content) ≤ 2 ^ 30

-- after the line it has kept step
abbrev pub KeepsOn : Option Judged → ℕ → Said → Progress → Option Judged → Type 0
KeepsOn judged number says q now = (front content : List ℕ) (p : Progress) → IsLineRead front content p number says q → KeepsStep p.stage front p judged
    → KeepsStep q.stage (front ++ line_of content) q now

-- ---- the end

-- all lines are read
pub record HasAllRead (judged : Option Judged) : Type 0 where
  pub front : List ℕ
  pub p : Progress
  pub step : KeepsStep stage.End front p judged

-- what is answered of a value
abbrev pub AnswersValue : Evidence → Result Summary EvidenceFault → Type 0
AnswersValue e (Ok summary) = Accepted e × (summary.lines ≡ lines_of e.a e.equal e.entries)
AnswersValue e (Err fault.Failed) = ⊥
AnswersValue e (Err fault.Long) = ⊥
AnswersValue e (Err (fault.Form line)) = ⊥
AnswersValue e (Err (fault.Refused line why)) = FailsFirst e line why
AnswersValue e (Err fault.Memory) = Unit {0}

-- whatever the value
abbrev pub AnswersAll : Option Judged → List Line → Result Summary EvidenceFault → Type 0
AnswersAll judged lines result = (front : List ℕ) (p : Progress) → KeepsStep stage.End front p judged → lines ≡ p.lines → (e : Evidence) → IsTextOf front e → AnswersValue e result
