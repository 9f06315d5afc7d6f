-- Words for the contracts of private parts: the claims of a text up to the first that fails.
use Rattle.std.specs.Prelude.{◌≡◌, ℕ, ◌^◌, ◌<◌, ◌≤◌, false, List, ◌++◌, length}
use Rattle.lll_core.specs.declared.lll.Lll.{Lll}
use Rattle.lll_core.specs.Tables.{input_count}
use Rattle.miter.specs.Pairs.{Paired}
use Rattle.miter.specs.Miters.{IsMiter}
use Rattle.rup_checker.specs.declared.log.Step.{Step}
use Rattle.evidence.specs.declared.evidence.Evidence.{Evidence}
use Rattle.evidence.specs.declared.claims_judged.Judged.{Judged}
use Rattle.evidence.specs.declared.claims_judged.Judged.TheVariants as judged
use Rattle.evidence.specs.declared.reader_due.Bounds.{Bounds}
use Rattle.evidence.specs.declared.reader_due.Due.{Due}
use Rattle.evidence.specs.declared.reader_due.Statement.{Statement}
use Rattle.evidence.specs.Counts.{HasText}
use Rattle.evidence.specs.Due.{IsDue}
use Rattle.evidence.specs.Refusals.{line_after, Fails}
use Rattle.evidence.specs.Claims.{IsFirstOf}
use Rattle.evidence.specs.Shown.{Header, Shown, header_of, first_text, shown_text, open_text, shown_after}
use Rattle.evidence.specs.Spelling.{part_count}
use Rattle.evidence.specs.Judging.{IsRefused, IsDueAfter, StepsFit, Expects, left_after, steps_after, IsJudged}

-- the two models have a miter, or it is told why not
abbrev pub IsPairing : Header → Judged → Type 0
IsPairing h (judged.Paired m) = Paired h.a h.b × IsMiter h.a h.b m
IsPairing h (judged.Holding c) = ⊥
IsPairing h (judged.Refused line why) = (e : Evidence) → HasText e → header_of e ≡ h → IsFirstOf (Fails e) line why

-- the parts and the obligations are few enough to be counted
pub record HasFewParts (h : Header) : Type 0 where
  pub parts : part_count h.b < 2 ^ 63
  pub obligations : length h.a.obligations < 2 ^ 63

-- so it is of each value with these models, where the second has its heading in this line
abbrev pub PairsAll : Lll → Lll → ℕ → Judged → Type 0
PairsAll a b heading j = (h : Header) → h.a ≡ a → h.b ≡ b → HasFewParts h → heading ≡ line_after (first_text h) → IsPairing h j

-- what is shown is judged, where a log lacks so many steps
abbrev pub IsSoFar : Header → Shown → ℕ → List Step → Judged → Type 0
IsSoFar h s left steps (judged.Paired m) = ⊥
IsSoFar h s left steps (judged.Holding c) = IsJudged h s left steps c
IsSoFar h s left steps (judged.Refused line why) = IsRefused h s line why

-- what is known of a line that is judged
pub record IsJudgedLine (a : Lll) (number : ℕ) (said : Statement) (h : Header) (s : Shown) (left : ℕ) (steps : List Step) (bounds : Bounds) (due : Due) : Type 0 where
  pub same : h.a ≡ a
  pub depth : bounds.depth ≡ h.depth
  pub inputs : bounds.inputs ≡ input_count h.a.signals
  pub depth_bound : h.depth ≤ 64
  pub due_after : IsDueAfter h s left due
  pub is_due : IsDue bounds due said
  pub steps_fit : StepsFit left steps
  pub at : number ≡ line_after (shown_text h s ++ open_text left steps)
  pub few : number < 2 ^ 62

-- while no claim failed the line is one that is expected
abbrev pub ExpectsLine : Lll → Judged → ℕ → Statement → Type 0
ExpectsLine a (judged.Paired m) number said = Unit {0}
ExpectsLine a (judged.Holding c) number said = Expects a c number said
ExpectsLine a (judged.Refused line why) number said = Unit {0}

-- after the line what is shown then is judged
abbrev pub JudgesLine : Lll → Judged → ℕ → Statement → Judged → Type 0
JudgesLine a before number said now = (h : Header) (s : Shown) (left : ℕ) (steps : List Step) (bounds : Bounds) (due : Due)
    → IsJudgedLine a number said h s left steps bounds due → IsSoFar h s left steps before → IsSoFar h (shown_after s left steps said) (left_after left said) (steps_after left steps said) now

-- nothing more is due
pub record IsAllRead (h : Header) (s : Shown) (due : Due) : Type 0 where
  pub after : IsDueAfter h s 0 due
  pub logs : due.logs ≡ 0
  pub rows : due.rows ≡ 0
  pub model : due.model ≡ false
  pub entries : due.entries ≡ 0

-- the line of the parts is read
abbrev pub IsRead : Judged → Type 0
IsRead (judged.Paired m) = ⊥
IsRead (judged.Holding c) = Unit {0}
IsRead (judged.Refused line why) = Unit {0}
