-- Words for the contracts of private parts: claims that are judged as their lines come.
use Rattle.std.specs.Prelude.{◌≡◌, ℕ, zero, suc, ◌+◌, ◌-◌, ◌*◌, ◌^◌, ◌<◌, ◌≤◌, Bool, false, List, [], ◌++◌, length, All, Result, Ok, Err, IsSomeAnd, slice_get, if◌then◌else◌}
use Rattle.lll_core.specs.declared.lll.Lll.{Lll}
use Rattle.lll_core.specs.Tables.{AreInputs, input_count}
use Rattle.miter.specs.declared.parts.MiterLll.{MiterLll}
use Rattle.miter.specs.Pairs.{Paired}
use Rattle.miter.specs.Miters.{IsMiter}
use Rattle.rup_checker.specs.declared.log.Log.{Log}
use Rattle.rup_checker.specs.declared.log.Step.{Step}
use Rattle.rup_checker.specs.Formulas.{Satisfies, listed}
use Rattle.unroll_cnf.specs.Unrollings.{step_formula}
use Rattle.evidence.specs.declared.evidence.Evidence.{Evidence}
use Rattle.evidence.specs.declared.claim.ClaimFault.{ClaimFault}
use Rattle.evidence.specs.declared.claim.ClaimFault.TheVariants as claim
use Rattle.evidence.specs.declared.claimed_logs.Claim.{Claim}
use Rattle.evidence.specs.declared.claims.Claims.{Claims}
use Rattle.evidence.specs.declared.claims.Place.{Place}
use Rattle.evidence.specs.declared.claims.Place.TheVariants as place
use Rattle.evidence.specs.declared.fault.Cause.{Cause}
use Rattle.evidence.specs.declared.reader_due.Bounds.{Bounds}
use Rattle.evidence.specs.declared.reader_due.Due.{Due}
use Rattle.evidence.specs.declared.reader_due.Statement.{Statement}
use Rattle.evidence.specs.declared.reader_due.Statement.TheVariants as line
use Rattle.evidence.specs.declared.reader_lines.EqualLine.{EqualLine}
use Rattle.evidence.specs.declared.reader_lines.EqualLine.TheVariants as says
use Rattle.evidence.specs.declared.reader_lines.Verdict.{Verdict}
use Rattle.evidence.specs.declared.reader_lines.Verdict.TheVariants as verdict
use Rattle.evidence.specs.Accepted.{IsSmallFormula, IsAcceptedEntry}
use Rattle.evidence.specs.ByLines.{said_of, log_count, rows_due as rows_of_verdict, has_model}
use Rattle.evidence.specs.Counts.{IsStep, IsLog, EqualFits, EntryFits, HasText}
use Rattle.evidence.specs.Spelling.{part_count}
use Rattle.evidence.specs.Due.{IsDue}
use Rattle.evidence.specs.Readers.{EqualLineFits, VerdictFits}
use Rattle.evidence.specs.Refusals.{line_after, IsTrace, Fails}
use Rattle.evidence.specs.Claims.{IsFirstOf, IsAcceptedEqual}
use Rattle.evidence.specs.LogClaims.{LogHolds, part_claim, line_instants, IsPartLog, IsLogSmall, entry_claim, verdict_instants}
use Rattle.evidence.specs.Tracking.{Tracks}
use Rattle.evidence.specs.Shown.{Header, OpenEntry, Shown, Parts, Entry, BeginsSo, header_text, rows_front, shown_text, open_text, steps_then, with_log, shown_after}

-- ---- what holds so far

-- each log of the parts shows what it claims
abbrev pub PartLogsHold : MiterLll → ℕ → EqualLine → List Log → Type 0
PartLogsHold m budget said logs = (n : ℕ) → n < length logs → IsSomeAnd (slice_get logs n) (LogHolds budget (part_claim m said n))

pub record PartsHold (h : Header) (m : MiterLll) (said : EqualLine) (logs : List Log) : Type 0 where
  pub small : IsSmallFormula (line_instants said) (length m.lll.signals)
  pub logs_hold : PartLogsHold m h.conflicts said logs

-- all rows of a trace are the inputs of a run that breaks the obligation p at its last instant
abbrev pub RowsHold : Lll → ℕ → Verdict → List (List Bool) → Type 0
RowsHold l p (verdict.Proved k) rows = Unit {0}
RowsHold l p (verdict.Falsified n) rows = length rows ≡ n → IsTrace l p (n - 1) rows
RowsHold l p verdict.Depth rows = Unit {0}
RowsHold l p (verdict.Conflicts place) rows = Unit {0}

pub record EntryHoldsSoFar (h : Header) (m : MiterLll) (o : OpenEntry) : Type 0 where
  pub equal_holds : IsAcceptedEqual m h.conflicts o.equal
  pub done_hold : (p : ℕ) → p < length o.done → IsSomeAnd (slice_get o.done p) (IsAcceptedEntry h.a p h.depth h.conflicts)
  pub small : IsSmallFormula (verdict_instants h.depth o.verdict) (length h.a.signals)
  pub logs_hold : (n : ℕ) → n < length o.logs → IsSomeAnd (slice_get o.logs n) (LogHolds h.conflicts (entry_claim h.a (length o.done) o.verdict n))
  pub rows_hold : RowsHold h.a (length o.done) o.verdict o.rows
  pub models_hold : All (λ values. Satisfies (listed values) (step_formula h.a (length o.done) h.depth).clauses) o.models

abbrev pub HoldSoFar : Header → MiterLll → Shown → Type 0
HoldSoFar h m (Parts said logs) = PartsHold h m said logs
HoldSoFar h m (Entry o) = EntryHoldsSoFar h m o

-- ---- what is kept of it

-- what a log claims at a place
abbrev pub claim_at : Lll → MiterLll → Place → Claim
claim_at a m (place.Parts said closed) = part_claim m said closed
claim_at a m (place.Entry p v closed) = entry_claim a p v closed

-- the place is where the next log, row or assignment stands
abbrev pub IsPlaceOf : Place → Shown → Type 0
IsPlaceOf (place.Parts said closed) (Parts line logs) = (said ≡ line) × (closed ≡ length logs)
IsPlaceOf (place.Parts said closed) (Entry o) = ⊥
IsPlaceOf (place.Entry p v closed) (Parts said logs) = ⊥
IsPlaceOf (place.Entry p v closed) (Entry o) = (p ≡ length o.done) × (v ≡ o.verdict) × (closed ≡ length o.logs)

-- the log there can be judged
abbrev pub CanJudge : Lll → MiterLll → Place → Type 0
CanJudge a m (place.Parts said closed) = IsPartLog m said closed × IsSmallFormula (line_instants said) (length m.lll.signals)
CanJudge a m (place.Entry p v closed) = (p < length a.obligations) × IsLogSmall v closed (length a.signals)

-- a number more of logs, or of obligations, can be counted
abbrev pub HasRoom : Place → Type 0
HasRoom (place.Parts said closed) = closed < 2 ^ 64 - 1
HasRoom (place.Entry p v closed) = closed < 2 ^ 32 - 1

abbrev pub HasNext : Place → Type 0
HasNext (place.Parts said closed) = Unit {0}
HasNext (place.Entry p v closed) = p < 2 ^ 64 - 1

-- the place after one log more
abbrev pub place_after : Place → Place
place_after (place.Parts said closed) = place.Parts said (closed + 1)
place_after (place.Entry p v closed) = place.Entry p v (closed + 1)

-- and in the next entry
abbrev pub place_in_entry : Place → Verdict → Place
place_in_entry (place.Parts said closed) v = place.Entry 0 v 0
place_in_entry (place.Entry p w closed) v = place.Entry (p + 1) v 0

-- there are no more rows than the verdict needs
abbrev pub RowsFit : Verdict → List (List Bool) → Type 0
RowsFit (verdict.Proved k) rows = Unit {0}
RowsFit (verdict.Falsified n) rows = (1 ≤ n) × (length rows ≤ n)
RowsFit verdict.Depth rows = Unit {0}
RowsFit (verdict.Conflicts place) rows = Unit {0}

-- the rows of the open entry, and the line of the first
abbrev pub AreRowsOf : ℕ → List (List Bool) → Header → Shown → Type 0
AreRowsOf at rows h (Parts said logs) = Unit {0}
AreRowsOf at rows h (Entry o) = (rows ≡ o.rows) × (0 < length o.rows → at ≡ line_after (rows_front h o)) × AreInputs h.a.signals o.rows

-- the claims of what is shown hold so far
pub record HasJudged (h : Header) (s : Shown) (c : Claims) : Type 0 where
  pub depth : c.depth ≡ h.depth
  pub conflicts : c.conflicts ≡ h.conflicts
  pub few_parts : part_count h.b < 2 ^ 63
  pub few_obligations : length h.a.obligations < 2 ^ 63
  pub paired : Paired h.a h.b
  pub miter : IsMiter h.a h.b c.miter
  pub place : IsPlaceOf c.place s
  pub rows : AreRowsOf c.rows_at c.rows h s
  pub hold : HoldSoFar h c.miter s

-- and the log that isn't closed, of which these steps came, is judged so far
pub record IsJudging (h : Header) (s : Shown) (steps : List Step) (c : Claims) : Type 0 where
  pub judged : HasJudged h s c
  pub log_at : 0 < c.left → c.log_at ≡ line_after (shown_text h s)
  pub tracked : 0 < c.left → Tracks c.conflicts (claim_at h.a c.miter c.place) c.log_at (length steps + c.left) steps c.open_log
  pub closed : c.left ≡ 0 → steps ≡ []

-- whatever the value, this is the first cause why its claims don't hold
abbrev pub IsRefused : Header → Shown → ℕ → Cause → Type 0
IsRefused h s line why = (e : Evidence) → HasText e → BeginsSo h s e → IsFirstOf (Fails e) line why

-- the state is as it should be, or the first claim that fails is told
abbrev pub Told : Type 0 → Header → Shown → Result Unit ClaimFault → Type 0
Told Holds h s (Ok done) = Holds
Told Holds h s (Err (claim.Refused line why)) = IsRefused h s line why
Told Holds h s (Err claim.Memory) = Unit {0}

-- the line of the first row, where the next row would be in the line of this number
pub record BeginsRows (c : Claims) (number at : ℕ) : Type 0 where
  pub first : c.rows ≡ [] → at ≡ number
  pub later : 0 < length c.rows → at ≡ c.rows_at

-- no row and no assignment came of the open entry
abbrev pub IsBeforeRows : Shown → Type 0
IsBeforeRows (Parts said logs) = Unit {0}
IsBeforeRows (Entry o) = (o.rows ≡ []) × (o.models ≡ [])

-- the steps that came make a log, which shows what it claims or is refused
abbrev pub ClosesLog : Claims → Claims → Result Unit ClaimFault → Type 0
ClosesLog c now result = (h : Header) (s : Shown) (steps : List Step) → HasJudged h s c → IsBeforeRows s → c.log_at ≡ line_after (shown_text h s)
    → Tracks c.conflicts (claim_at h.a c.miter c.place) c.log_at (length steps) steps c.open_log →
    Told (HasJudged h (with_log s (record { steps = steps })) now) h (with_log s (record { steps = steps })) result

-- ---- what is due

-- one log may be open
abbrev pub open_logs : ℕ → ℕ
open_logs zero = 0
open_logs (suc left) = 1

-- so many logs and entries follow the line of the parts
abbrev pub logs_after : Header → EqualLine → ℕ
logs_after h says.Shown = 2 * part_count h.b
logs_after h (says.Conflicts part stepping) = 1

abbrev pub entries_after : Header → EqualLine → ℕ
entries_after h says.Shown = length h.a.obligations
entries_after h (says.Conflicts part stepping) = 0

-- what is due among the logs of the parts
pub record IsDueInParts (h : Header) (said : EqualLine) (logs : List Log) (opened : ℕ) (due : Due) : Type 0 where
  pub fits : EqualLineFits (part_count h.b) said
  pub logs_due : due.logs + (length logs + opened) ≡ logs_after h said
  pub rows_due : due.rows ≡ 0
  pub model_due : due.model ≡ false
  pub entries_due : due.entries ≡ entries_after h said
  pub number : due.number ≡ 1

-- what is due in an entry
pub record IsDueInEntry (h : Header) (o : OpenEntry) (opened : ℕ) (due : Due) : Type 0 where
  pub shown : said_of o.equal ≡ says.Shown
  pub fits : VerdictFits h.depth o.verdict
  pub logs_due : due.logs + (length o.logs + opened) ≡ log_count h.depth o.verdict
  pub rows_due : due.rows + length o.rows ≡ rows_of_verdict o.verdict
  pub models_due : (if due.model then 1 else 0) + length o.models ≡ (if has_model o.verdict then 1 else 0)
  pub entries_due : due.entries + (length o.done + 1) ≡ length h.a.obligations
  pub number : due.number ≡ length o.done + 2
  pub logs_first : 0 < due.logs + opened → (o.rows ≡ []) × (o.models ≡ [])
  pub rows_first : 0 < due.rows → o.models ≡ []

abbrev pub IsDueIn : Header → Shown → ℕ → Due → Type 0
IsDueIn h (Parts said logs) opened due = IsDueInParts h said logs opened due
IsDueIn h (Entry o) opened due = IsDueInEntry h o opened due

-- what is due after what is shown, where a log lacks so many steps
pub record IsDueAfter (h : Header) (s : Shown) (left : ℕ) (due : Due) : Type 0 where
  pub steps_due : due.steps ≡ left
  pub there : IsDueIn h s (open_logs left) due

-- the steps of the log that is open fit
pub record StepsFit (left : ℕ) (steps : List Step) : Type 0 where
  pub count : length steps + left < 2 ^ 32
  pub each : All IsStep steps

-- ---- a line

-- the line of this number is due, and says this
pub record Expects (a : Lll) (c : Claims) (number : ℕ) (said : Statement) : Type 0 where
  pub h : Header
  pub s : Shown
  pub steps : List Step
  pub bounds : Bounds
  pub due : Due
  pub same : h.a ≡ a
  pub depth : bounds.depth ≡ h.depth
  pub inputs : bounds.inputs ≡ input_count h.a.signals
  pub depth_bound : h.depth ≤ 64
  pub judging : IsJudging h s steps c
  pub due_after : IsDueAfter h s c.left due
  pub is_due : IsDue bounds due said
  pub steps_fit : StepsFit c.left steps
  pub at : number ≡ line_after (shown_text h s ++ open_text c.left steps)
  pub few : number < 2 ^ 62

-- how many steps a log lacks after a line, and which it has
abbrev pub left_after : ℕ → Statement → ℕ
left_after left (line.Step step) = left - 1
left_after left (line.Log count) = count
left_after left (line.Row values) = left
left_after left (line.Model values) = left
left_after left (line.Entry v) = left
left_after left line.End = left

abbrev pub steps_after : ℕ → List Step → Statement → List Step
steps_after left steps (line.Step step) = steps_then left steps step
steps_after left steps (line.Log count) = []
steps_after left steps (line.Row values) = steps
steps_after left steps (line.Model values) = steps
steps_after left steps (line.Entry v) = steps
steps_after left steps line.End = steps

-- the claims of what is shown hold so far, and a log has these steps and lacks so many
pub record IsJudged (h : Header) (s : Shown) (left : ℕ) (steps : List Step) (c : Claims) : Type 0 where
  pub judging : IsJudging h s steps c
  pub left_is : c.left ≡ left

-- the line of the parts is read
abbrev pub Begun : Header → EqualLine → Result Claims ClaimFault → Type 0
Begun h said (Ok c) = IsJudged h (Parts said []) 0 [] c
Begun h said (Err (claim.Refused line why)) = IsRefused h (Parts said []) line why
Begun h said (Err claim.Memory) = Unit {0}

abbrev pub BeginsClaims : MiterLll → ℕ → ℕ → EqualLine → ℕ → Result Claims ClaimFault → Type 0
BeginsClaims m depth conflicts said at result = (h : Header) → depth ≡ h.depth → conflicts ≡ h.conflicts → part_count h.b < 2 ^ 63 → length h.a.obligations < 2 ^ 63
    → Paired h.a h.b → IsMiter h.a h.b m → at ≡ line_after (header_text h) → Begun h said result

-- after it the claims hold so far, or the first that fails is told
abbrev pub TakesLineOf : Lll → Claims → ℕ → Statement → Claims → Result Unit ClaimFault → Type 0
TakesLineOf a c number said now result = (x : Expects a c number said) →
    let s = shown_after x.s c.left x.steps said in
    Told (IsJudged x.h s (left_after c.left said) (steps_after c.left x.steps said) now) x.h s result

-- ---- what was read fits

-- the numbers that a text may have
pub record HasBounds (h : Header) : Type 0 where
  pub some_depth : 1 ≤ h.depth
  pub depth_bound : h.depth ≤ 64
  pub some_conflicts : 1 ≤ h.conflicts
  pub conflicts_bound : h.conflicts ≤ 1000000

pub record EntryFitsSoFar (h : Header) (o : OpenEntry) : Type 0 where
  pub equal_fits : EqualFits h.b o.equal
  pub done_fit : All (EntryFits h.depth h.a) o.done
  pub logs_fit : All IsLog o.logs
  pub rows_fit : All (λ row. length row ≡ input_count h.a.signals) o.rows
  pub models_fit : All (λ values. length values ≡ (h.depth + 1) * length h.a.signals) o.models

abbrev pub FitSoFar : Header → Shown → Type 0
FitSoFar h (Parts said logs) = All IsLog logs
FitSoFar h (Entry o) = EntryFitsSoFar h o
