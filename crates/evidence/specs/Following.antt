-- Words for the contracts of private parts: judging that keeps step with a reader, after the models.
use Rattle.std.specs.Prelude.{◌≡◌, ℕ, ◌+◌, ◌*◌, ◌^◌, ◌<◌, ◌≤◌, false, List, [], ◌∷◌, ◌++◌, length, map, codes, Option, Result, Some}
use Rattle.lll_core.specs.declared.lll.Lll.{Lll}
use Rattle.lll_core.specs.Tables.{input_count}
use Rattle.lll_text.specs.Spelling.{line as line_of}
use Rattle.rup_checker.specs.declared.log.Step.{Step}
use Rattle.evidence.specs.declared.claim.ClaimFault.{ClaimFault}
use Rattle.evidence.specs.declared.claims_judged.Judged.{Judged}
use Rattle.evidence.specs.declared.evidence.Evidence.{Evidence}
use Rattle.evidence.specs.declared.reader_due.Due.{Due}
use Rattle.evidence.specs.declared.reader_lines.EqualLine.{EqualLine}
use Rattle.evidence.specs.declared.reader_lines.EqualLine.TheVariants as says
use Rattle.evidence.specs.declared.reader_progress.Progress.{Progress}
use Rattle.evidence.specs.declared.reader_due.Statement.{Statement}
use Rattle.evidence.specs.declared.reader_due.Statement.TheVariants as line
use Rattle.evidence.specs.Accepted.{Accepted}
use Rattle.evidence.specs.Claims.{Judges}
use Rattle.evidence.specs.Counts.{IsTextOf}
use Rattle.evidence.specs.Due.{IsDue, line_content}
use Rattle.evidence.specs.Readers.{EqualLineFits, equal_content}
use Rattle.evidence.specs.Refusals.{line_after, Fails}
use Rattle.evidence.specs.Spelling.{part_count}
use Rattle.evidence.specs.declared.summary.Line.{Line}
use Rattle.evidence.specs.Summaries.{line_of as line_of_entry, lines_at, verdict_line}
use Rattle.evidence.specs.Shown.{Header, Shown, Parts, Entry, first_text, header_text, shown_text, open_text}
use Rattle.evidence.specs.declared.reader_progress.Stage.TheVariants as stage
use Rattle.evidence.specs.Standing.{IsFine, AdvancesTo}
use Rattle.evidence.specs.Judging.{IsDueAfter, HasBounds, FitSoFar, StepsFit}
use Rattle.evidence.specs.Outcomes.{IsPairing, HasFewParts, IsSoFar}

-- what is shown sums up to these lines: none was tried where the parts aren't shown, and else there is one of each entry
abbrev pub lines_shown : Header → Shown → List Line
lines_shown h (Parts said logs) = lines_at said (length h.a.obligations)
lines_shown h (Entry o) = map line_of_entry o.done ++ verdict_line o.verdict ∷ []

-- these lines are read, and what they show is judged
pub record Follows (front : List ℕ) (p : Progress) (j : Judged) : Type 0 where
  pub h : Header
  pub s : Shown
  pub left : ℕ
  pub steps : List Step
  pub spelled : front ≡ shown_text h s ++ open_text left steps
  pub so_far : IsSoFar h s left steps j
  pub due_after : IsDueAfter h s left p.due
  pub fit : FitSoFar h s
  pub steps_fit : StepsFit left steps
  pub has_bounds : HasBounds h
  pub first : Some h.a ≡ p.first
  pub depth : p.bounds.depth ≡ h.depth
  pub inputs : p.bounds.inputs ≡ input_count h.a.signals
  pub variables : p.bounds.variables ≡ (p.bounds.depth + 1) * length h.a.signals
  pub lines : p.lines ≡ lines_shown h s

-- a line is due, and has this number
pub record FollowsLine (p : Progress) (j : Judged) (number : ℕ) (said : Statement) : Type 0 where
  pub front : List ℕ
  pub follows : Follows front p j
  pub is_due : IsDue p.bounds p.due said
  pub at : number ≡ line_after front
  pub few : number < 2 ^ 62

-- after a line that isn't the last the judging has kept step
abbrev pub FollowsOn : Progress → Judged → ℕ → Statement → Judged → Type 0
FollowsOn p before number said now = (front : List ℕ) (q : Progress) → Follows front p before → IsDue p.bounds p.due said → number ≡ line_after front → number < 2 ^ 62 → (said ≡ line.End → ⊥) → AdvancesTo p said q
    → Follows (front ++ line_of (line_content p.due.number said)) q now

-- so it is of each progress with this first model
pub record IsLineAfter (first : Option Lll) (j : Judged) (number : ℕ) (said : Statement) : Type 0 where
  pub p : Progress
  pub has_first : p.first ≡ first
  pub follows : FollowsLine p j number said

abbrev pub FollowsAll : Option Lll → Judged → ℕ → Statement → Judged → Type 0
FollowsAll first before number said now = (p : Progress) → p.first ≡ first → FollowsOn p before number said now

-- the judging has kept step with some progress
pub record HasFollowed (j : Judged) : Type 0 where
  pub p : Progress
  pub front : List ℕ
  pub follows : Follows front p j

-- where the last line is due, it is told whether the claims of the value with this text hold
abbrev pub EndsSo : Judged → Result Unit ClaimFault → Type 0
EndsSo j result = (p : Progress) (front : List ℕ) → Follows front p j → IsDue p.bounds p.due line.End → (e : Evidence) → IsTextOf (front ++ line_of (codes "end")) e → Judges (Accepted e) (Fails e) result

-- ---- before the line of the parts

-- the lines of the models are read, and the pairing is judged
pub record FollowsModels (front : List ℕ) (p : Progress) (j : Judged) : Type 0 where
  pub h : Header
  pub spelled : front ≡ header_text h
  pub pairing : IsPairing h j
  pub few : HasFewParts h
  pub has_bounds : HasBounds h
  pub first : Some h.a ≡ p.first
  pub depth : p.depth ≡ h.depth
  pub conflicts : p.conflicts ≡ h.conflicts
  pub bounds_depth : p.bounds.depth ≡ h.depth
  pub inputs : p.bounds.inputs ≡ input_count h.a.signals
  pub variables : p.bounds.variables ≡ (p.bounds.depth + 1) * length h.a.signals
  pub parts : p.parts ≡ part_count h.b
  pub obligations : p.obligations ≡ length h.a.obligations

-- the numbers and models that are read
abbrev pub header_in : Progress → Lll → Lll → Header
header_in p a b = record { depth = p.depth; conflicts = p.conflicts; a = a; b = b }

-- both models are read, in lines that aren't too long
pub record HasBothModels (p : Progress) : Type 0 where
  pub a : Lll
  pub b : Lll
  pub first : Some a ≡ p.first
  pub second : Some b ≡ p.second
  pub short : length (header_text (header_in p a b)) ≤ 2 ^ 30

-- the judging has kept step with the models, of which the second has its heading in this line
abbrev pub FollowsBoth : Progress → ℕ → Judged → Type 0
FollowsBoth p heading now = (front : List ℕ) (a b : Lll) → IsFine stage.Equal p → Some a ≡ p.first → Some b ≡ p.second → front ≡ header_text (header_in p a b) → heading ≡ line_after (first_text (header_in p a b))
    → FollowsModels front p now

-- what is due after the line of the parts
abbrev pub due_in_parts : Progress → EqualLine → Due
due_in_parts p says.Shown = record { steps = 0; logs = 2 * p.parts; rows = 0; model = false; entries = p.obligations; number = 1 }
due_in_parts p (says.Conflicts part stepping) = record { steps = 0; logs = 1; rows = 0; model = false; entries = 0; number = 1 }

-- the progress after it
pub record ReadsParts (p : Progress) (said : EqualLine) (q : Progress) : Type 0 where
  pub due : q.due ≡ due_in_parts p said
  pub first : q.first ≡ p.first
  pub bounds : q.bounds ≡ p.bounds
  pub lines : q.lines ≡ lines_at said p.obligations

-- the judging has kept step
abbrev pub FollowsParts : Progress → Judged → ℕ → EqualLine → Judged → Type 0
FollowsParts p before number said now = (front : List ℕ) (q : Progress) → FollowsModels front p before → EqualLineFits p.parts said → number ≡ line_after front → ReadsParts p said q
    → Follows (front ++ line_of (equal_content p.parts said)) q now
