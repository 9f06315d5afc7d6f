-- The lines of logs, as the state of judging takes them.
use Rattle.std.proofs.Common.{◌≡◌, ℕ, zero, suc, ◌+◌, ◌-◌, ◌<◌, ◌≤◌, true, false, List, [], ◌∷◌, ◌++◌, length, Ok, Err, refl, sym, ap, subst, ◌∙◌, length-append, zero-add, arith}
use Rattle.std.specs.Prelude.{Result, codes, nat_lt}
use Rattle.std.specs.List.{flat_map}
use Rattle.std.proofs.lemmas.List.{append-nil}
use Rattle.lll_core.specs.declared.lll.Lll.{Lll}
use Rattle.rup_checker.specs.declared.log.Step.{Step}
use Rattle.evidence.specs.declared.claim.ClaimFault.{ClaimFault}
use Rattle.evidence.specs.declared.claim.ClaimFault.TheVariants as claim
use Rattle.evidence.specs.declared.claimed_logs.Claim.{Claim}
use Rattle.evidence.specs.declared.claims.Claims.{Claims}
use Rattle.evidence.specs.declared.open_log.OpenLog.{OpenLog}
use Rattle.evidence.specs.declared.reader_due.Due.{Due}
use Rattle.evidence.specs.declared.reader_due.Statement.TheVariants as line
use Rattle.evidence.specs.Counts.{IsStep}
use Rattle.evidence.specs.Refusals.{line_after}
use Rattle.evidence.specs.Spelling.{number_line, step_line}
use Rattle.evidence.specs.Tracking.{Tracks, IsTracked}
use Rattle.evidence.specs.Shown.{Header, Shown, Parts, Entry, shown_text, open_text, no_log, steps_then, with_log, with_step, with_count}
use Rattle.evidence.specs.Judging.{claim_at, CanJudge, HasRoom, HasJudged, Told, IsBeforeRows, ClosesLog, open_logs, IsDueIn, StepsFit, Expects, steps_after, IsJudged}
use Rattle.evidence.proofs.JudgingTurns.{can_judge}
use Rattle.evidence.proofs.LineLemmas.{line_feeds-append, line_feeds-line, line_feeds-lines, line_feeds-number}
use Rattle.evidence.proofs.LogText.{step_content, avoids-step}
use Rattle.evidence.proofs.RestLines.{step_by, log_by, none, some}

-- ---- the state

-- the parts of it that a log changes
abbrev pub with_open : Claims → ℕ → ℕ → OpenLog → Claims
with_open c at left open_log = record c { log_at = at; left = left; open_log = open_log }

pub keep_judged : (h : Header) (s : Shown) (c : Claims) (at left : ℕ) (open_log : OpenLog) → HasJudged h s c → HasJudged h s (with_open c at left open_log)
keep_judged h s c at left open_log j = record {
  depth = j.depth;
  conflicts = j.conflicts;
  few_parts = j.few_parts;
  few_obligations = j.few_obligations;
  paired = j.paired;
  miter = j.miter;
  place = j.place;
  rows = j.rows;
  hold = j.hold;
}

pub before_rows : (h : Header) (s : Shown) (opened : ℕ) (due : Due) → IsDueIn h s opened due → 0 < due.logs + opened → IsBeforeRows s
before_rows h (Parts said logs) opened due is some = tt
before_rows h (Entry o) opened due is some = is.logs_first some

pub open_some : (left : ℕ) → 0 < left → open_logs left ≡ 1
open_some zero lt = absurd (omega (arith, lt))
open_some (suc left) lt = refl

-- a log that has steps is still open, and one that lacks more than one
count_some : (s : Shown) (count : ℕ) → 0 < count → with_count s count ≡ s
count_some s zero lt = absurd (omega (arith, lt))
count_some s (suc count) lt = refl

step_some : (s : Shown) (left : ℕ) (steps : List Step) (step : Step) → 1 < left → with_step s left steps step ≡ s
step_some s zero steps step lt = absurd (omega (arith, lt))
step_some s (suc zero) steps step lt = absurd (omega (arith, lt))
step_some s (suc (suc left)) steps step lt = refl

steps_some : (left : ℕ) (steps : List Step) (step : Step) → 1 < left → steps_then left steps step ≡ steps ++ step ∷ []
steps_some zero steps step lt = absurd (omega (arith, lt))
steps_some (suc zero) steps step lt = absurd (omega (arith, lt))
steps_some (suc (suc left)) steps step lt = refl

-- nothing is open, so the line follows what is shown
pub after_shown : (h : Header) (s : Shown) (c : Claims) (number : ℕ) (steps : List Step) → c.left ≡ 0 → number ≡ line_after (shown_text h s ++ open_text c.left steps) → number ≡ line_after (shown_text h s)
after_shown h s c number steps none at = at ∙ ap (λ n. line_after (shown_text h s ++ open_text n steps)) none ∙ ap line_after (append-nil (shown_text h s))

-- the line of the next step of a log
step_line_is : (front : List ℕ) (left : ℕ) (steps : List Step) → 0 < left → StepsFit left steps → line_after (front ++ open_text left steps) ≡ line_after front + length steps + 1
step_line_is front zero steps some fit = absurd (omega (arith, some))
step_line_is front (suc left) steps some fit =
    let count = length steps + suc left in
    omega (
      arith,
      line_feeds-append front (open_text (suc left) steps),
      line_feeds-append (number_line (codes "log") count) (flat_map step_line steps),
      line_feeds-number (codes "log") count refl (omega (arith, fit.count)),
      line_feeds-lines step_line steps IsStep (λ s step. line_feeds-line (step_content s) (avoids-step s step)) fit.each,
    )

-- ---- what closes a log

-- a log can be judged and closed
pub record CanClose (a : Lll) (h : Header) (s : Shown) (c : Claims) : Type 0 where
  pub can : CanJudge a c.miter c.place
  pub room : HasRoom c.place
  pub before : IsBeforeRows s

can_close : (a : Lll) (h : Header) (s : Shown) (c : Claims) (opened : ℕ) (due : Due) → h.a ≡ a → h.depth ≤ 64 → HasJudged h s c → IsDueIn h s opened due → 0 < due.logs + opened → CanClose a h s c
can_close a h s c opened due same le j is some =
    let both = can_judge h s c opened due le j is (omega (arith, some)) in
    record { can = subst (λ (l : Lll). CanJudge l c.miter c.place) same both.0; room = both.1; before = before_rows h s opened due is some }

-- the log that was closed leaves nothing open
closed : (h : Header) (s : Shown) (now : Claims) (result : Result Unit ClaimFault) → now.left ≡ 0 → Told (HasJudged h s now) h s result → Told (IsJudged h s 0 [] now) h s result
closed h s now (Ok done) none told = record {
  judging = record {
    judged = told;
    log_at = λ some. absurd (omega (arith, none, some));
    tracked = λ some. absurd (omega (arith, none, some));
    closed = λ _. refl;
  };
  left_is = none;
}
closed h s now (Err (claim.Refused line why)) none told = told
closed h s now (Err claim.Memory) none told = tt

-- ---- a log's line

module _ (a : Lll) (c : Claims) (number count : ℕ) (x : Expects a c number (line.Log count)) where
  kinds : (nat_lt 0 x.due.steps ≡ false) × (nat_lt 0 x.due.logs ≡ true)
  kinds = log_by (nat_lt 0 x.due.steps) (nat_lt 0 x.due.logs) (nat_lt 0 x.due.rows) x.due.model (nat_lt 0 x.due.entries) x.is_due.kind

  log_left : c.left ≡ 0
  log_left = sym x.due_after.steps_due ∙ none x.due.steps kinds.0

  log_begins : number ≡ line_after (shown_text x.h x.s)
  log_begins = after_shown x.h x.s c number x.steps log_left x.at

  pub log_close : CanClose a x.h x.s c
  log_close = can_close a x.h x.s c (open_logs c.left) x.due x.same x.depth_bound x.judging.judged x.due_after.there (omega (arith, some x.due.logs kinds.1))

  -- what is known of it
  abbrev pub Opens : OpenLog → Type 0
  Opens open_log = Tracks c.conflicts (claim_at a c.miter c.place) number count [] open_log

  opens_here : (open_log : OpenLog) → Opens open_log → Tracks c.conflicts (claim_at x.h.a c.miter c.place) number count [] open_log
  opens_here open_log opens = subst (λ (l : Lll). Tracks c.conflicts (claim_at l c.miter c.place) number count [] open_log) (sym x.same) opens

  -- it has steps
  pub log_opens : (open_log : OpenLog) → Opens open_log → 0 < count → IsJudged x.h (with_count x.s count) count [] (with_open c number count open_log)
  log_opens open_log opens some = subst (λ (s : Shown). IsJudged x.h s count [] (with_open c number count open_log)) (sym (count_some x.s count some))
      (record {
        judging = record {
          judged = keep_judged x.h x.s c number count open_log x.judging.judged;
          log_at = λ _. log_begins;
          tracked = λ _. subst (λ (n : ℕ). Tracks c.conflicts (claim_at x.h.a c.miter c.place) number n [] open_log) (sym (zero-add count)) (opens_here open_log opens);
          closed = λ _. refl;
        };
        left_is = refl;
      })

  -- it has none
  pub log_closes : (open_log : OpenLog) (now : Claims) (result : Result Unit ClaimFault) → Opens open_log → count ≡ 0 → ClosesLog (with_open c number count open_log) now result → now.left ≡ count
      → Told (IsJudged x.h (with_count x.s count) count [] now) x.h (with_count x.s count) result
  log_closes open_log now result opens no_steps closes left =
      let tracks : Tracks c.conflicts (claim_at x.h.a c.miter c.place) number 0 [] open_log = subst (λ (n : ℕ). Tracks c.conflicts (claim_at x.h.a c.miter c.place) number n [] open_log) no_steps (opens_here open_log opens) in
      let told : Told (HasJudged x.h (with_log x.s no_log) now) x.h (with_log x.s no_log) result = closes x.h x.s [] (keep_judged x.h x.s c number count open_log x.judging.judged) log_close.before log_begins tracks in
      let done = closed x.h (with_log x.s no_log) now result (left ∙ no_steps) told in
      subst (λ n. Told (IsJudged x.h (with_count x.s count) n [] now) x.h (with_count x.s count) result) (sym no_steps)
      (subst (λ (s : Shown). Told (IsJudged x.h s 0 [] now) x.h s result) (sym (ap (with_count x.s) no_steps)) done)

-- ---- a step's line

-- what the log made of the step, whatever it claims
abbrev pub StepsOn : OpenLog → Step → ℕ → OpenLog → Type 0
StepsOn before step number now = (budget : ℕ) (q : Claim) (at count : ℕ) (steps : List Step) → Tracks budget q at count steps before → number ≡ at + length steps + 1 → Tracks budget q at count (steps ++ step ∷ []) now

module _ (a : Lll) (c : Claims) (number : ℕ) (step : Step) (x : Expects a c number (line.Step step)) where
  pub step_left : 0 < c.left
  step_left = let e = some x.due.steps (step_by (nat_lt 0 x.due.steps) (nat_lt 0 x.due.logs) (nat_lt 0 x.due.rows) x.due.model (nat_lt 0 x.due.entries) x.is_due.kind) in omega (arith, e, x.due_after.steps_due)

  pub step_close : CanClose a x.h x.s c
  step_close = can_close a x.h x.s c (open_logs c.left) x.due x.same x.depth_bound x.judging.judged x.due_after.there (omega (arith, open_some c.left step_left))

  step_number : number ≡ c.log_at + length x.steps + 1
  step_number = omega (arith, x.at, step_line_is (shown_text x.h x.s) c.left x.steps step_left x.steps_fit, x.judging.log_at step_left)

  module _ (now : OpenLog) (on : StepsOn c.open_log step number now) where
    tracks : Tracks c.conflicts (claim_at x.h.a c.miter c.place) c.log_at (length x.steps + c.left) (x.steps ++ step ∷ []) now
    tracks = on c.conflicts (claim_at x.h.a c.miter c.place) c.log_at (length x.steps + c.left) x.steps (x.judging.tracked step_left) step_number

    tracks_with : (left : ℕ) → left ≡ c.left - 1 → Tracks c.conflicts (claim_at x.h.a c.miter c.place) c.log_at (length (x.steps ++ step ∷ []) + left) (x.steps ++ step ∷ []) now
    tracks_with left less = subst (λ (n : ℕ). Tracks c.conflicts (claim_at x.h.a c.miter c.place) c.log_at n (x.steps ++ step ∷ []) now) (let l = length-append x.steps (step ∷ []) in omega (arith, l, less, step_left)) tracks

    pub step_tracked : IsTracked c.log_at now
    step_tracked = record { budget = c.conflicts; q = claim_at x.h.a c.miter c.place; count = length x.steps + c.left; steps = x.steps ++ step ∷ []; tracks = tracks }

    -- more are to come
    pub step_on : (left : ℕ) → left ≡ c.left - 1 → 0 < left → IsJudged x.h (with_step x.s c.left x.steps step) (c.left - 1) (steps_after c.left x.steps (line.Step step)) (with_open c c.log_at left now)
    step_on left less some =
        let other : 1 < c.left = omega (arith, less, some) in
        let new = with_open c c.log_at left now in
        subst (λ (s : Shown). IsJudged x.h s (c.left - 1) (steps_after c.left x.steps (line.Step step)) new) (sym (step_some x.s c.left x.steps step other))
        (subst (λ (t : List Step). IsJudged x.h x.s (c.left - 1) t new) (sym (steps_some c.left x.steps step other))
        (record {
          judging = record {
            judged = keep_judged x.h x.s c c.log_at left now x.judging.judged;
            log_at = λ _. x.judging.log_at step_left;
            tracked = λ _. tracks_with left less;
            closed = λ none. absurd (omega (arith, none, some));
          };
          left_is = less;
        }))

    -- it is the last
    pub step_closes : (new : Claims) (result : Result Unit ClaimFault) (left : ℕ) → left ≡ c.left - 1 → left ≡ 0 → ClosesLog (with_open c c.log_at left now) new result → new.left ≡ left
        → Told (IsJudged x.h (with_step x.s c.left x.steps step) (c.left - 1) (steps_after c.left x.steps (line.Step step)) new) x.h (with_step x.s c.left x.steps step) result
    step_closes new result left less no_left closes same =
        let last : c.left ≡ 1 = omega (arith, less, no_left, step_left) in
        let steps = x.steps ++ step ∷ [] in
        let all = with_log x.s (record { steps = steps }) in
        let whole : Tracks c.conflicts (claim_at x.h.a c.miter c.place) c.log_at (length steps) steps now = subst (λ (n : ℕ). Tracks c.conflicts (claim_at x.h.a c.miter c.place) c.log_at n steps now) (omega (arith, no_left)) (tracks_with left less) in
        let told : Told (HasJudged x.h all new) x.h all result = closes x.h x.s steps (keep_judged x.h x.s c c.log_at left now x.judging.judged) step_close.before (x.judging.log_at step_left) whole in
        let done = closed x.h all new result (same ∙ no_left) told in
        let none : 0 ≡ c.left - 1 = omega (arith, less, no_left) in
        subst (λ (s : Shown). Told (IsJudged x.h s (c.left - 1) (steps_after c.left x.steps (line.Step step)) new) x.h s result) (sym (ap (λ n. with_step x.s n x.steps step) last))
        (subst (λ (t : List Step). Told (IsJudged x.h all (c.left - 1) t new) x.h all result) (sym (ap (λ n. steps_then n x.steps step) last))
        (subst (λ n. Told (IsJudged x.h all n [] new) x.h all result) none done))
