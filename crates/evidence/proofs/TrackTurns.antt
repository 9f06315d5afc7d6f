-- A log that is judged as its steps come: one step more, and the end.
use Rattle.std.proofs.Common.{◌≡◌, ℕ, ◌+◌, ◌<◌, List, [], ◌∷◌, ◌++◌, length, take, get_or, slice_get, sym, subst, ◌∙◌, inl, inr, arith, length-append}
use Rattle.std.specs.Prelude.{ℤ, Option, IsSomeAnd}
use Rattle.std.proofs.lemmas.List.{take-append-le}
use Rattle.std.proofs.Math.Seq.{take-append_seam, get_or-append_seam}
use Rattle.rup_checker.specs.declared.fault.StepFault.{StepFault}
use Rattle.rup_checker.specs.declared.log.Log.{Log}
use Rattle.rup_checker.specs.declared.log.Step.{Step}
use Rattle.rup_checker.specs.Formulas.{Cnf}
use Rattle.rup_checker.specs.Steps.{IsRefused}
use Rattle.rup_checker.specs.Stores.{Known}
use Rattle.rup_checker.specs.Logs.{known, AreAccepted, IsBusyFrom}
use Rattle.rup_checker.proofs.LogLemmas.{get-left, first-refused}
use Rattle.rup_checker.proofs.ReplayLemmas.{busy_clauses}
use Rattle.evidence.specs.declared.claim.ClaimFault.TheVariants as fault_of
use Rattle.evidence.specs.declared.claimed_logs.Claim.{Claim}
use Rattle.evidence.specs.declared.claimed_logs.Claim.TheVariants as claim
use Rattle.evidence.specs.declared.fault.Cause.{Cause}
use Rattle.evidence.specs.declared.fault.Cause.TheVariants as cause
use Rattle.evidence.specs.declared.open_log.OpenLog.TheVariants as open_log
use Rattle.evidence.specs.Refusals.{line_after, IsStepCause}
use Rattle.evidence.specs.Claims.{IsFirstOf, IsStopped, IsFirstStop}
use Rattle.evidence.specs.LogClaims.{LogHolds, LogFails}
use Rattle.evidence.specs.Tracking.{claimed, IsWhole, IsMiscounted, Tracks, IsHalted}
use Rattle.evidence.proofs.FirstLemmas.{refutation_stops, spent_count, spent_stops, spent_idle}

-- ---- the first step that is refused

-- it stays the first
stop_more : (f : Cnf) (at : ℕ) (steps : List Step) (s : Step) (line : ℕ) (why : Cause) → IsFirstStop f at steps line why → IsFirstStop f at (steps ++ s ∷ []) line why
stop_more f at steps s line why stop =
    let within : stop.n < length steps = stop.refused.within in
    let front : take stop.n (steps ++ s ∷ []) ≡ take stop.n steps = take-append-le stop.n steps (s ∷ []) (omega (arith, within)) in
    record {
      n = stop.n;
      place = stop.place;
      stop = stop.stop;
      named = stop.named;
      refused = record {
        within = let l = length-append steps (s ∷ []) in omega (arith, l, within);
        before = subst (AreAccepted f) (sym front) stop.refused.before;
        refused = subst (λ (o : Option Step). IsSomeAnd o (λ t. IsRefused f.variables (known f (take stop.n (steps ++ s ∷ []))) t.clause t.hints stop.stop)) (sym (get-left steps (s ∷ []) stop.n within))
            (subst (λ (earlier : List Step). IsSomeAnd (slice_get steps stop.n) (λ t. IsRefused f.variables (known f earlier) t.clause t.hints stop.stop)) (sym front) stop.refused.refused);
      };
    }

-- it is the one that comes
stop_here : (f : Cnf) (at : ℕ) (steps : List Step) (s : Step) (stop : StepFault) (line : ℕ) (why : Cause) → AreAccepted f steps → IsRefused f.variables (known f steps) s.clause s.hints stop → IsStepCause stop why → line ≡ at + length steps + 1
    → IsFirstStop f at (steps ++ s ∷ []) line why
stop_here f at steps s stop line why accepted refused named place =
    let all = steps ++ s ∷ [] in
    let n = length steps in
    let front : take n all ≡ steps = take-append_seam steps (s ∷ []) in
    let here : get_or all n s ≡ s = get_or-append_seam steps s [] s in
    let Bad = λ (earlier : List Step) (t : Step). IsRefused f.variables (known f earlier) t.clause t.hints stop in
    record {
      n = n;
      place = place;
      stop = stop;
      named = named;
      refused = first-refused f all n s stop (let l = length-append steps (s ∷ []) in omega (arith, l)) (subst (AreAccepted f) (sym front) accepted)
          (subst (λ (t : Step). Bad (take n all) t) (sym here) (subst (λ (earlier : List Step). Bad earlier s) (sym front) refused));
    }

-- ---- one step more

pub next_refused : (budget : ℕ) (q : Claim) (at count : ℕ) (steps : List Step) (step : Step) (line : ℕ) (why : Cause) → Tracks budget q at count steps (open_log.Refused line why) → Tracks budget q at count (steps ++ step ∷ []) (open_log.Refused line why)
next_refused budget q at count steps step line why (inl miscounted) = inl miscounted
next_refused budget q at count steps step line why (inr (whole, stop)) = inr (whole, stop_more (claimed q) at steps step line why stop)

-- the step that came is the first that is refused
pub halted : (budget : ℕ) (q : Claim) (at count : ℕ) (steps : List Step) (step : Step) (stop : StepFault) (number line : ℕ) (why : Cause) → number ≡ at + length steps + 1 → IsHalted budget q count steps step stop
    → IsStopped stop number (fault_of.Refused line why) → Tracks budget q at count (steps ++ step ∷ []) (open_log.Refused line why)
halted budget q at count steps step stop number line why place halt stopped = elim halt.refused [
  | inl refused ↦ inr (halt.whole, stop_here (claimed q) at steps step stop line why halt.accepted refused stopped.1 (stopped.0 ∙ place))
  | inr memory ↦ absurd (subst (λ (t : StepFault). IsStepCause t why) memory stopped.1)
]

-- ---- the end

pub spending_holds : (from at : ℕ) (checker : Known) → IsBusyFrom checker.clauses from
    → (budget : ℕ) (q : Claim) (steps : List Step) → Tracks budget q at (length steps) steps (open_log.Spending from checker) → LogHolds budget q (record { steps = steps })
spending_holds from at checker busy budget (claim.Refutes f) steps tracks = absurd tracks
spending_holds from at checker busy budget (claim.Spends f) steps (whole, first, has) =
    let there : IsBusyFrom (known f steps) (length f.clauses) = subst (λ (n : ℕ). IsBusyFrom (known f steps) n) first (subst (λ (cs : List (List ℤ)). IsBusyFrom cs from) has.clauses busy) in
    record { whole = whole; busy = (busy_clauses f steps has.accepted).0 there }

pub spending_fails : (from at : ℕ) (checker : Known) → ¬ (IsBusyFrom checker.clauses from)
    → (budget : ℕ) (q : Claim) (steps : List Step) (front : List ℕ) → Tracks budget q at (length steps) steps (open_log.Spending from checker) → at ≡ line_after front → IsFirstOf (LogFails budget q front (record { steps = steps })) at cause.Idle
spending_fails from at checker idle budget (claim.Refutes f) steps front tracks begins = absurd tracks
spending_fails from at checker idle budget (claim.Spends f) steps front (whole, first, has) begins =
    spent_idle f budget front (record { steps = steps }) at begins whole has.accepted
    (λ busy. idle (subst (λ (cs : List (List ℤ)). IsBusyFrom cs from) (sym has.clauses) (subst (λ (n : ℕ). IsBusyFrom (known f steps) n) (sym first) ((busy_clauses f steps has.accepted).1 busy))))

-- what was refused is the first cause
miscounted_fails : (budget : ℕ) (q : Claim) (at : ℕ) (steps : List Step) (front : List ℕ) (line : ℕ) (why : Cause) → at ≡ line_after front → IsMiscounted budget q at (length steps) line why → IsFirstOf (LogFails budget q front (record { steps = steps })) line why
miscounted_fails budget (claim.Refutes f) at steps front line why begins m = absurd m
miscounted_fails budget (claim.Spends f) at steps front line why begins (same, named, differs) =
    let log : Log = record { steps = steps } in
    subst (λ (n : ℕ). IsFirstOf (LogFails budget (claim.Spends f) front log) n why) (sym same)
    (subst (λ (w : Cause). IsFirstOf (LogFails budget (claim.Spends f) front log) at w) (sym named) (spent_count f budget front log at begins differs))

stopped_fails : (budget : ℕ) (q : Claim) (at : ℕ) (steps : List Step) (front : List ℕ) (line : ℕ) (why : Cause) → at ≡ line_after front → IsWhole budget q (length steps) → IsFirstStop (claimed q) at steps line why
    → IsFirstOf (LogFails budget q front (record { steps = steps })) line why
stopped_fails budget (claim.Refutes f) at steps front line why begins whole stop = refutation_stops f front (record { steps = steps }) at line why begins stop
stopped_fails budget (claim.Spends f) at steps front line why begins whole stop = spent_stops f budget front (record { steps = steps }) at line why begins whole stop

pub refused_fails : (line at : ℕ) (why : Cause) (budget : ℕ) (q : Claim) (steps : List Step) (front : List ℕ) → Tracks budget q at (length steps) steps (open_log.Refused line why) → at ≡ line_after front
    → IsFirstOf (LogFails budget q front (record { steps = steps })) line why
refused_fails line at why budget q steps front (inl m) begins = miscounted_fails budget q at steps front line why begins m
refused_fails line at why budget q steps front (inr (whole, stop)) begins = stopped_fails budget q at steps front line why begins whole stop
