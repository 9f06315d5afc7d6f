-- Claims that hold fail nowhere.
use Rattle.std.proofs.Common.{◌≡◌, ℕ, ◌+◌, ◌*◌, ◌<◌, Bool, true, false, List, ◌++◌, length, take, slice_get, sym, subst, inl, inr, if◌then◌else◌, arith}
use Rattle.std.specs.Prelude.{IsSomeAnd}
use Rattle.lll_core.specs.declared.lll.Lll.{Lll}
use Rattle.miter.specs.declared.parts.MiterLll.{MiterLll}
use Rattle.rup_checker.specs.declared.log.Log.{Log}
use Rattle.rup_checker.specs.declared.log.Step.{Step}
use Rattle.rup_checker.specs.Formulas.{Cnf}
use Rattle.rup_checker.specs.Steps.{IsAccepted, IsRefused}
use Rattle.rup_checker.specs.Logs.{Accepts, AreAccepted, known}
use Rattle.rup_checker.proofs.OneAnswer.{refuted_not_prevented, outside_stands}
use Rattle.unroll_cnf.specs.Unrollings.{base_formula, step_formula}
use Rattle.kinduction.specs.declared.equal.Equal.{Equal}
use Rattle.kinduction.specs.declared.equal.Equal.TheVariants as equal
use Rattle.kinduction.specs.declared.found.Found.{Found}
use Rattle.kinduction.specs.declared.found.Found.TheVariants as found
use Rattle.kinduction.specs.Parts.{ShowParts, part_formula}
use Rattle.kinduction.specs.Rounds.{RefuteBases}
use Rattle.evidence.specs.declared.fault.Cause.{Cause}
use Rattle.evidence.specs.Accepted.{place_formula, IsSpentLog, EqualHolds, EntryHolds, IsAcceptedEntry}
use Rattle.evidence.specs.Spelling.{logs_text, entry_line}
use Rattle.evidence.specs.Refusals.{StepFails, RefutationFails, SpentLogFails, RefutationsFail, PartsFail, LastFails, base_logs, EntryFails}
use Rattle.evidence.proofs.AtOnce.{at_once, some_within}

-- ---- logs

pub step_never_fails : (f : Cnf) (front : List ℕ) (log : Log) (line : ℕ) (why : Cause) → AreAccepted f log.steps → StepFails f front log line why → ⊥
step_never_fails f front log line why accepted fails =
    let clauses = known f (take fails.n log.steps) in
    let Good = λ (s : Step). IsAccepted f.variables clauses s.clause s.hints in
    let Bad = λ (s : Step). IsRefused f.variables clauses s.clause s.hints fails.fault in
    let s = at_once (slice_get log.steps fails.n) Good Bad (accepted fails.n (some_within log.steps fails.n Bad fails.refused)) fails.refused in
    elim s.2 [
      | inl literal ↦ outside_stands f.variables s.0.clause literal.0 literal.2 s.1.in_range
      | inr prevented ↦ refuted_not_prevented clauses s.0.hints s.0.clause fails.fault s.1.refuted prevented.1
    ]

pub refutation_never_fails : (f : Cnf) (front : List ℕ) (log : Log) (line : ℕ) (why : Cause) → Accepts f log.steps → RefutationFails f front log line why → ⊥
refutation_never_fails f front log line why accepts fails = elim fails [
  | inl step ↦ step_never_fails f front log line why accepts.accepted step
  | inr unended ↦ unended.2.unended accepts.ended
]

pub spent_never_fails : (f : Cnf) (budget : ℕ) (front : List ℕ) (log : Log) (line : ℕ) (why : Cause) → IsSpentLog f budget log → SpentLogFails f budget front log line why → ⊥
spent_never_fails f budget front log line why spent fails = elim fails [
  | inl count ↦ count.2 spent.whole
  | inr more ↦ elim more [
    | inl step ↦ step_never_fails f front log line why spent.busy.accepted step
    | inr idle ↦ idle.2.idle spent.busy
  ]
]

-- ---- the parts

part_accepted : (m : MiterLll) (logs : List Log) (i : ℕ) (stepping : Bool) → ShowParts m logs → 2 * i + (if stepping then 1 else 0) < length logs
    → IsSomeAnd (slice_get logs (2 * i + (if stepping then 1 else 0))) (λ log. Accepts (part_formula m i stepping) log.steps)
part_accepted m logs i true shown lt = shown.steps i (omega (arith, lt, shown.count))
part_accepted m logs i false shown lt =
    let e : 2 * i + 0 ≡ 2 * i = omega arith in
    subst (λ n. IsSomeAnd (slice_get logs n) (λ log. Accepts (part_formula m i false) log.steps)) (sym e) (shown.bases i (omega (arith, lt, shown.count)))

moved : (logs : List Log) (n k : ℕ) (f h : Cnf) (front : List ℕ) (line : ℕ) (why : Cause) → n ≡ k → f ≡ h → IsSomeAnd (slice_get logs n) (λ log. RefutationFails f front log line why)
    → IsSomeAnd (slice_get logs k) (λ log. RefutationFails h front log line why)
moved logs n k f h front line why e d some =
    subst (λ x. IsSomeAnd (slice_get logs x) (λ log. RefutationFails h front log line why)) e (subst (λ x. IsSomeAnd (slice_get logs n) (λ log. RefutationFails x front log line why)) d some)

pub parts_never_fail : (m : MiterLll) (budget : ℕ) (front : List ℕ) (of_parts : Equal) (line : ℕ) (why : Cause) → EqualHolds m budget of_parts → PartsFail m budget front of_parts line why → ⊥
parts_never_fail m budget front (equal.Shown logs) line why shown fails =
    let i = fails.2.0 in
    let stepping = fails.2.1 in
    let k = 2 * i + (if stepping then 1 else 0) in
    let f = part_formula m i stepping in
    let there = front ++ logs_text (take fails.0 logs) in
    let Fails = λ (log : Log). RefutationFails f there log line why in
    let Good = λ (log : Log). Accepts f log.steps in
    let some = moved logs fails.0 k fails.1 f there line why fails.2.2 fails.2.3 fails.3 in
    let log = at_once (slice_get logs k) Good Fails (part_accepted m logs i stepping shown (some_within logs k Fails some)) some in
    refutation_never_fails f there log.0 line why log.1 log.2
parts_never_fail m budget front (equal.Conflicts part stepping log) line why spent fails = spent_never_fails (part_formula m part stepping) budget front log line why spent fails

-- ---- the obligations

pub bases_never_fail : (l : Lll) (p : ℕ) (front : List ℕ) (logs : List Log) (line : ℕ) (why : Cause) → RefuteBases l p logs → RefutationsFail (base_formula l p) front logs line why → ⊥
bases_never_fail l p front logs line why refuted fails =
    let f = base_formula l p fails.0 in
    let there = front ++ logs_text (take fails.0 logs) in
    let log = at_once (slice_get logs fails.0) (λ log. Accepts f log.steps) (λ log. RefutationFails f there log line why) (refuted fails.0 fails.1) fails.2 in
    refutation_never_fails f there log.0 line why log.1 log.2

refuted_bases : (l : Lll) (p depth budget : ℕ) (entry : Found) → EntryHolds l p depth budget entry → RefuteBases l p (base_logs entry)
refuted_bases l p depth budget (found.Proved k bases step) h = h.bases_refuted
refuted_bases l p depth budget (found.Falsified bits bases) h = h.bases_refuted
refuted_bases l p depth budget (found.Depth step_model bases) h = h.bases_refuted
refuted_bases l p depth budget (found.Conflicts place log bases) h = h.bases_refuted

pub last_never_fails : (l : Lll) (p depth budget : ℕ) (front : List ℕ) (entry : Found) (line : ℕ) (why : Cause) → EntryHolds l p depth budget entry → LastFails l p depth budget front entry line why → ⊥
last_never_fails l p depth budget front (found.Proved k bases step) line why h fails = refutation_never_fails (step_formula l p k) front step line why h.step_refuted fails
last_never_fails l p depth budget front (found.Falsified bits bases) line why h fails = fails.2 h.broken
last_never_fails l p depth budget front (found.Depth step_model bases) line why h fails = fails.2 h.satisfied
last_never_fails l p depth budget front (found.Conflicts place log bases) line why h fails = spent_never_fails (place_formula l p place) budget front log line why h.spent fails

pub entry_never_fails : (l : Lll) (p depth budget : ℕ) (front : List ℕ) (entry : Found) (line : ℕ) (why : Cause) → IsAcceptedEntry l p depth budget entry → EntryFails l p depth budget front entry line why → ⊥
entry_never_fails l p depth budget front entry line why accepted fails =
    let logs = front ++ entry_line (p + 1) entry in
    elim fails [
      | inl large ↦ large.large accepted.small
      | inr more ↦ elim more [
        | inl bases ↦ bases_never_fail l p logs (base_logs entry) line why (refuted_bases l p depth budget entry accepted.holds) bases
        | inr last ↦ last_never_fails l p depth budget (logs ++ logs_text (base_logs entry)) entry line why accepted.holds last
      ]
    ]
