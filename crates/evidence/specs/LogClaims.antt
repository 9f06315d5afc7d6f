-- Words for the contracts of private parts: what a log claims where it stands.
use Rattle.std.specs.Prelude.{◌≡◌, ℕ, ◌+◌, ◌-◌, ◌*◌, ◌<◌, Bool, true, List, length, nat_lt, MatchBool, if◌then◌else◌}
use Rattle.lll_core.specs.declared.lll.Lll.{Lll}
use Rattle.miter.specs.declared.parts.MiterLll.{MiterLll}
use Rattle.rup_checker.specs.declared.log.Log.{Log}
use Rattle.rup_checker.specs.Logs.{Accepts}
use Rattle.unroll_cnf.specs.Unrollings.{base_formula, step_formula}
use Rattle.kinduction.specs.declared.found.Spot.TheVariants as spot
use Rattle.kinduction.specs.Parts.{part_formula}
use Rattle.evidence.specs.declared.claimed_logs.Claim.{Claim}
use Rattle.evidence.specs.declared.claimed_logs.Claim.TheVariants as claim
use Rattle.evidence.specs.declared.fault.Cause.{Cause}
use Rattle.evidence.specs.declared.reader_lines.EqualLine.{EqualLine}
use Rattle.evidence.specs.declared.reader_lines.EqualLine.TheVariants as says
use Rattle.evidence.specs.declared.reader_lines.Verdict.{Verdict}
use Rattle.evidence.specs.declared.reader_lines.Verdict.TheVariants as verdict
use Rattle.evidence.specs.Accepted.{IsSmallFormula, place_instants, place_formula, IsSpentLog}
use Rattle.evidence.specs.Refusals.{RefutationFails, SpentLogFails}
use Rattle.evidence.specs.Claims.{nth_part_formula}

-- the log refutes the formula, or shows that the budget is spent on it
abbrev pub LogHolds : ℕ → Claim → Log → Type 0
LogHolds budget (claim.Refutes f) log = Accepts f log.steps
LogHolds budget (claim.Spends f) log = IsSpentLog f budget log

abbrev pub LogFails : ℕ → Claim → List ℕ → Log → ℕ → Cause → Type 0
LogFails budget (claim.Refutes f) front log line why = RefutationFails f front log line why
LogFails budget (claim.Spends f) front log line why = SpentLogFails f budget front log line why

-- ---- among the logs of the parts

abbrev pub part_claim : MiterLll → EqualLine → ℕ → Claim
part_claim m says.Shown number = claim.Refutes (nth_part_formula m number)
part_claim m (says.Conflicts part stepping) number = claim.Spends (part_formula m part stepping)

-- the instants of the largest formula that they use
abbrev pub line_instants : EqualLine → ℕ
line_instants says.Shown = 2
line_instants (says.Conflicts part stepping) = if stepping then 2 else 1

-- the log with this number is that of a part
abbrev pub IsPartLog : MiterLll → EqualLine → ℕ → Type 0
IsPartLog m says.Shown number = number < 2 * length m.parts
IsPartLog m (says.Conflicts part stepping) number = (part < length m.parts) × (number ≡ 0)

-- ---- among the logs of an entry

-- the log with this number is that of a base formula that was refuted
abbrev pub is_base : Verdict → ℕ → Bool
is_base (verdict.Proved k) number = nat_lt number k
is_base (verdict.Falsified n) number = true
is_base verdict.Depth number = true
is_base (verdict.Conflicts (spot.Base j)) number = nat_lt number j
is_base (verdict.Conflicts (spot.Step k)) number = nat_lt number k

-- what the log after those claims; there is one only for two of the verdicts
abbrev pub last_claim : Lll → ℕ → Verdict → Claim
last_claim l p (verdict.Proved k) = claim.Refutes (step_formula l p k)
last_claim l p (verdict.Falsified n) = claim.Refutes (base_formula l p n)
last_claim l p verdict.Depth = claim.Refutes (base_formula l p 0)
last_claim l p (verdict.Conflicts place) = claim.Spends (place_formula l p place)

abbrev pub entry_claim : Lll → ℕ → Verdict → ℕ → Claim
entry_claim l p v number = if is_base v number then claim.Refutes (base_formula l p number) else last_claim l p v

-- the instants of the largest formula that an entry uses
abbrev pub verdict_instants : ℕ → Verdict → ℕ
verdict_instants depth (verdict.Proved k) = k + 1
verdict_instants depth (verdict.Falsified n) = n - 1
verdict_instants depth verdict.Depth = depth + 1
verdict_instants depth (verdict.Conflicts place) = place_instants place

-- the formula of the last log is small, where there is such a log
abbrev pub IsLastSmall : Verdict → ℕ → Type 0
IsLastSmall (verdict.Proved k) signals = IsSmallFormula (k + 1) signals
IsLastSmall (verdict.Falsified n) signals = ⊥
IsLastSmall verdict.Depth signals = ⊥
IsLastSmall (verdict.Conflicts place) signals = IsSmallFormula (place_instants place) signals

-- the formula of the log with this number is small
abbrev pub IsLogSmall : Verdict → ℕ → ℕ → Type 0
IsLogSmall v number signals = MatchBool (is_base v number) (IsSmallFormula (number + 1) signals) (IsLastSmall v signals)
