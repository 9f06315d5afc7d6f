-- In which lines the claims of a part of a value may fail.
use Rattle.std.proofs.Common.{◌≡◌, ℕ, ◌+◌, ◌<◌, ◌≤◌, List, ◌++◌, length, take, Some, Err, slice_get, ap, ◌∙◌, inl, inr, arith}
use Rattle.std.specs.Prelude.{All, IsSomeAnd}
use Rattle.std.proofs.lemmas.List.{take_all}
use Rattle.std.proofs.lemmas.List.Elements.{All-take}
use Rattle.lll_text.specs.Lines.{line_feeds}
use Rattle.rup_checker.specs.declared.log.Log.{Log}
use Rattle.rup_checker.specs.Formulas.{Cnf}
use Rattle.rup_checker.specs.Steps.{IsRefused}
use Rattle.rup_checker.specs.Logs.{known, Accepts}
use Rattle.evidence.specs.declared.fault.Cause.{Cause}
use Rattle.evidence.specs.Counts.{IsLog}
use Rattle.evidence.specs.Lines.{log_lines, logs_lines}
use Rattle.evidence.specs.Refusals.{line_after, StepFails, RefutationFails, SpentLogFails, RefutationsFail}
use Rattle.evidence.specs.declared.claim.ClaimFault.{ClaimFault}
use Rattle.evidence.specs.declared.claim.ClaimFault.TheVariants as claim
use Rattle.evidence.specs.Claims.{IsFirstOf, RefuteAll, Judges}
use Rattle.evidence.specs.Spelling.{log_text, logs_text}
use Rattle.evidence.proofs.AtOnce.{some_within, all_at}
use Rattle.evidence.proofs.Holding.{refutation_never_fails}
use Rattle.evidence.proofs.LineLemmas.{line_feeds-append, line_feeds-log, line_feeds-logs, line_feeds-later}
use Rattle.evidence.proofs.OrderLemmas.{InOrder, value_there, first_of_list, none_of_list}

-- ---- logs

-- the line is one of so many after a front
pub record IsWithin (front : List ℕ) (lines line : ℕ) : Type 0 where
  pub after : line_feeds front < line
  pub upto : line ≤ line_feeds front + lines

step_within : (f : Cnf) (front : List ℕ) (log : Log) (line : ℕ) (why : Cause) → StepFails f front log line why → IsWithin front (log_lines log) line
step_within f front log line why fails =
    let lt = some_within log.steps fails.n (λ s. IsRefused f.variables (known f (take fails.n log.steps)) s.clause s.hints fails.fault) fails.refused in
    record { after = omega (arith, fails.at); upto = omega (arith, fails.at, lt) }

pub at_once_within : (front : List ℕ) (lines line : ℕ) → 1 ≤ lines → line ≡ line_after front → IsWithin front lines line
at_once_within front lines line some at = record { after = omega (arith, at); upto = omega (arith, at, some) }

pub refutation_within : (f : Cnf) (front : List ℕ) (log : Log) (line : ℕ) (why : Cause) → RefutationFails f front log line why → IsWithin front (log_lines log) line
refutation_within f front log line why fails = elim fails [
  | inl step ↦ step_within f front log line why step
  | inr unended ↦ at_once_within front (log_lines log) line (omega arith) unended.0
]

pub spent_within : (f : Cnf) (budget : ℕ) (front : List ℕ) (log : Log) (line : ℕ) (why : Cause) → SpentLogFails f budget front log line why → IsWithin front (log_lines log) line
spent_within f budget front log line why fails = elim fails [
  | inl count ↦ at_once_within front (log_lines log) line (omega arith) count.0
  | inr more ↦ elim more [
    | inl step ↦ step_within f front log line why step
    | inr idle ↦ at_once_within front (log_lines log) line (omega arith) idle.0
  ]
]

-- ---- logs one after the other

module _ (formula : ℕ → Cnf) (front : List ℕ) (logs : List Log) (all : All IsLog logs) where
  abbrev pub front_of : ℕ → List ℕ
  front_of n = front ++ logs_text (take n logs)

  abbrev Fails : ℕ → Log → ℕ → Cause → Type 0
  Fails n log line why = RefutationFails (formula n) (front_of n) log line why

  feeds_of : (n : ℕ) → line_feeds (front_of n) ≡ line_feeds front + line_feeds (logs_text (take n logs))
  feeds_of n = line_feeds-append front (logs_text (take n logs))

  in_order : InOrder logs Fails (λ n. line_feeds (front_of n))
  in_order = record {
    after = λ n log line why at fails. (refutation_within (formula n) (front_of n) log line why fails).after;
    before = λ n m log line why at lt fails.
        let within = refutation_within (formula n) (front_of n) log line why fails in
        omega (arith, within.upto, feeds_of n, feeds_of m, line_feeds-later log_text logs n m log at lt, line_feeds-log log (all_at IsLog logs n log all at));
  }

  never : (n : ℕ) (log : Log) (line : ℕ) (why : Cause) → Accepts (formula n) log.steps → Fails n log line why → ⊥
  never n log line why accepts fails = refutation_never_fails (formula n) (front_of n) log line why accepts fails

  -- the first log that doesn't refute its formula
  pub refutations_fail : (i : ℕ) (log : Log) (line : ℕ) (why : Cause) → slice_get logs i ≡ Some log → ((n : ℕ) → n < i → IsSomeAnd (slice_get logs n) (λ log. Accepts (formula n) log.steps))
      → IsFirstOf (RefutationFails (formula i) (front_of i) log) line why → IsFirstOf (RefutationsFail formula front logs) line why
  refutations_fail i log line why at earlier here = first_of_list logs Fails (λ n log. Accepts (formula n) log.steps) (λ n. line_feeds (front_of n)) in_order never i log line why at earlier here

  -- the answer for it
  pub refutations_answer : (i : ℕ) (log : Log) (G H : Type 0) (e : ClaimFault) → slice_get logs i ≡ Some log → ((n : ℕ) → n < i → IsSomeAnd (slice_get logs n) (λ log. Accepts (formula n) log.steps))
      → Judges G (RefutationFails (formula i) (front_of i) log) (Err e) → Judges H (RefutationsFail formula front logs) (Err e)
  refutations_answer i log G H (claim.Refused line why) at earlier here = refutations_fail i log line why at earlier here
  refutations_answer i log G H claim.Memory at earlier here = tt

  pub refutations_never : RefuteAll formula logs → (line : ℕ) (why : Cause) → RefutationsFail formula front logs line why → ⊥
  refutations_never refuted line why fails = none_of_list logs Fails (λ n log. Accepts (formula n) log.steps) (λ n. line_feeds (front_of n)) in_order never refuted line why fails

  -- where the next log begins
  pub begins_at : (first at i : ℕ) → first ≡ line_after front → at ≡ first + logs_lines (take i logs) → at ≡ line_after (front_of i)
  begins_at first at i begins there = omega (arith, begins, there, feeds_of i, line_feeds-logs (take i logs) (All-take IsLog i logs all))

  pub refutations_within : (line : ℕ) (why : Cause) → RefutationsFail formula front logs line why → IsWithin front (logs_lines logs) line
  refutations_within line why fails =
      let n = fails.0 in
      let log = value_there (slice_get logs n) (λ log. Fails n log line why) fails.2 in
      let end : take (length logs) logs ≡ logs = take_all (length logs) logs (omega arith) in
      let last : line_feeds (logs_text (take (length logs) logs)) ≡ logs_lines logs = ap (λ (ls : List Log). line_feeds (logs_text ls)) end ∙ line_feeds-logs logs all in
      record {
        after = omega (arith, in_order.after n log.0 line why log.1 log.2, feeds_of n);
        upto = omega (arith, in_order.before n (length logs) log.0 line why log.1 fails.1 log.2, feeds_of (length logs), last);
      }
