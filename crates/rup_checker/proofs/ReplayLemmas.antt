-- Which clauses are new among those before them, and when a log is busy.
use Rattle.std.proofs.Common.{◌≡◌, ◌+◌, ◌-◌, ◌++◌, ◌∷◌, [], ℕ, Bool, true, false, List, length, length-append, ◌<◌, ◌≤◌, take, get_or, inl, inr, ◌⊎◌, refl, sym, ap, subst, ◌∙◌, arith}
use Rattle.std.specs.Prelude.{◌↔◌, ℤ, IsTrue, not, MatchBool, Option, None, Some, option_map, IsSomeAnd, slice_get, Any, Contains}
use Rattle.std.proofs.lemmas.Bool.{false≢true, cases_lt}
use Rattle.std.proofs.lemmas.Option.{slice_get-get_or, slice_get-map}
use Rattle.std.proofs.lemmas.List.{length-take-le, length-map, take-map, get_or-take, get_or-append-add}
use Rattle.std.proofs.Math.Seq.{take-append-add}
use Rattle.rup_checker.specs.declared.log.Step.{Step}
use Rattle.rup_checker.specs.declared.containment.Anchors.{Anchors}
use Rattle.rup_checker.specs.declared.fault.StepFault.{StepFault}
use Rattle.rup_checker.specs.Formulas.{Cnf}
use Rattle.rup_checker.specs.Marks.{LiteralMarks}
use Rattle.rup_checker.specs.Steps.{Refutes, IsAccepted, IsRefused}
use Rattle.rup_checker.specs.Occurrences.{listed}
use Rattle.rup_checker.specs.Containment.{AreAnchored, IsSubsumption}
use Rattle.rup_checker.specs.Logs.{known, added, Each, AreAccepted, IsNew, IsOpen, AreNewFrom, IsBusyFrom, IsBusy}
use Rattle.rup_checker.specs.Closing.{IsRefuted}
use Rattle.rup_checker.proofs.LogLemmas.{accepted-same}
use Rattle.rup_checker.proofs.OneAnswer.{refuted_not_prevented, outside_stands}
use Rattle.rup_checker.proofs.Sets.{has_value}

-- ---- clause by clause

-- the first clauses are listed as they are among all
anchored_first : (clauses : List (List ℤ)) (n : ℕ) (anchors : Anchors) → n ≤ length clauses → AreAnchored clauses n anchors → AreAnchored (take n clauses) (length (take n clauses)) anchors
anchored_first clauses n anchors within at =
    subst (λ (m : ℕ). AreAnchored (take n clauses) m anchors) (sym (length-take-le n clauses within)) (record {
      within = at.within;
      anchored = λ k low. subst (λ (d : List ℤ). ((d ≡ []) × IsTrue anchors.has_empty) ⊎ Any (λ l. Contains (listed anchors.occurrences l) k) d) (sym (get_or-take n clauses k [] low)) (at.anchored k low);
      empty = λ noted. let e = at.empty noted in (e.0, e.1, get_or-take n clauses e.0 [] e.1 ∙ e.2);
    })

pub subsumes_first : (all first : Cnf) (n : ℕ) (anchors : Anchors) (marks : LiteralMarks) → first ≡ record all { clauses = take n all.clauses } → n ≤ length all.clauses → marks.variables ≡ all.variables → anchors.occurrences.variables ≡ all.variables → AreAnchored all.clauses n anchors → IsSubsumption first anchors marks
subsumes_first all first n anchors marks same within marked listed at =
    subst (λ (f : Cnf). IsSubsumption f anchors marks) (sym same) (record { marked = marked; listed = listed; anchored = anchored_first all.clauses n anchors within at })

-- one more clause is new
pub new_more : (clauses : List (List ℤ)) (from i : ℕ) (c : List ℤ) → slice_get clauses i ≡ Some c → IsNew (take i clauses) c
    → ((n : ℕ) → from ≤ n → n < i → IsSomeAnd (slice_get clauses n) (IsNew (take n clauses))) → (n : ℕ) → from ≤ n → n < i + 1 → IsSomeAnd (slice_get clauses n) (IsNew (take n clauses))
new_more clauses from i c at here before n after below = elim (cases_lt n i) [
  | inl lt ↦ before n after lt
  | inr ge ↦ (
      let same : i ≡ n = omega (arith, ge, below) in
      subst (λ (m : ℕ). IsSomeAnd (slice_get clauses m) (IsNew (take m clauses))) same (has_value (slice_get clauses i) (IsNew (take i clauses)) c at here)
      )
]

-- or it isn't
pub not_new : (clauses : List (List ℤ)) (from i : ℕ) (c : List ℤ) → slice_get clauses i ≡ Some c → from ≤ i → i < length clauses → ¬ (IsNew (take i clauses) c) → ¬ (AreNewFrom clauses from)
not_new clauses from i c at after within old all = old (subst (λ (o : Option (List ℤ)). IsSomeAnd o (IsNew (take i clauses))) at (all i after within))

-- clauses that are new are busy exactly where propagation reaches no false clause
pub busy_where : (clauses : List (List ℤ)) (from : ℕ) (conflict : Bool) → AreNewFrom clauses from → MatchBool conflict (IsRefuted clauses) (IsOpen clauses) → IsTrue (not conflict) ↔ IsBusyFrom clauses from
busy_where clauses from true new refuted = (λ no. absurd (false≢true no), λ busy. absurd (busy.open_end refuted.0 refuted.1))
busy_where clauses from false new open_end = (λ _. record { new = new; open_end = open_end }, λ _. refl)

-- ---- step by step

-- a step that is refused is not accepted
refused_not_accepted : (n : ℕ) (clauses : List (List ℤ)) (c : List ℤ) (hints : List ℕ) (why : StepFault) → IsRefused n clauses c hints why → ¬ (IsAccepted n clauses c hints)
refused_not_accepted n clauses c hints why (inl (l, is, outside)) accepted = outside_stands n c l outside accepted.in_range
refused_not_accepted n clauses c hints why (inr (inside, prevented)) accepted = refuted_not_prevented clauses hints c why accepted.refuted prevented

-- a property of each step at one of them
each_at : (P : List (List ℤ) → Step → Type 0) (f : Cnf) (steps : List Step) (i : ℕ) (d : Step) → i < length steps → Each P f steps → P (known f (take i steps)) (get_or steps i d)
each_at P f steps i d within each = subst (λ (o : Option Step). IsSomeAnd o (P (known f (take i steps)))) (slice_get-get_or steps i d within) (each i within)

-- a log with a step that is refused is not busy
pub idle_step : (f : Cnf) (steps : List Step) (i : ℕ) (s : Step) (clauses : List (List ℤ)) (c : List ℤ) (hints : List ℕ) (why : StepFault) → i < length steps → s ≡ get_or steps i s → clauses ≡ known f (take i steps) → c ≡ s.clause → hints ≡ s.hints → IsRefused f.variables clauses c hints why → ¬ (IsBusy f steps)
idle_step f steps i s clauses c hints why within same known_are clause_is hints_are refused busy =
    refused_not_accepted f.variables clauses c hints why refused
    (accepted-same f.variables f.variables (known f (take i steps)) clauses (get_or steps i s).clause c (get_or steps i s).hints hints refl (sym known_are) (sym (clause_is ∙ ap (λ (t : Step). t.clause) same)) (sym (hints_are ∙ ap (λ (t : Step). t.hints) same))
    (each_at (λ clauses s. IsAccepted f.variables clauses s.clause s.hints) f steps i s within busy.accepted))

-- ---- the clauses of the steps

-- the clause of a step, and the clauses before it
slice_seam : (xs ys : List (List ℤ)) (m : ℕ) → m < length ys → slice_get (xs ++ ys) (length xs + m) ≡ slice_get ys m
slice_seam xs ys m within = slice_get-get_or (xs ++ ys) (length xs + m) [] (let l = length-append xs ys in omega (arith, l, within)) ∙ ap (λ (d : List ℤ). Some d) (get_or-append-add xs ys m []) ∙ sym (slice_get-get_or ys m [] within)

clause_of : (f : Cnf) (steps : List Step) (m : ℕ) → m < length steps → slice_get (known f steps) (length f.clauses + m) ≡ option_map (λ (s : Step). s.clause) (slice_get steps m)
clause_of f steps m within = slice_seam f.clauses (added steps) m (let l = length-map steps (λ (s : Step). s.clause) in omega (arith, l, within)) ∙ slice_get-map (λ (s : Step). s.clause) steps m

before_it : (f : Cnf) (steps : List Step) (m : ℕ) → take (length f.clauses + m) (known f steps) ≡ known f (take m steps)
before_it f steps m = take-append-add f.clauses (added steps) m ∙ ap (λ (cs : List (List ℤ)). f.clauses ++ cs) (take-map (λ (s : Step). s.clause) m steps)

of_step : (P : List ℤ → Type 0) (o : Option Step) → IsSomeAnd o (λ s. P s.clause) → IsSomeAnd (option_map (λ (s : Step). s.clause) o) P
of_step P None there = there
of_step P (Some s) there = there

of_clause : (P : List ℤ → Type 0) (o : Option Step) → IsSomeAnd (option_map (λ (s : Step). s.clause) o) P → IsSomeAnd o (λ s. P s.clause)
of_clause P None there = there
of_clause P (Some s) there = there

module _ (f : Cnf) (steps : List Step) where
  abbrev NewAt : ℕ → Type 0
  NewAt n = IsSomeAnd (slice_get (known f steps) n) (IsNew (take n (known f steps)))

  abbrev NewStep : ℕ → Type 0
  NewStep m = IsSomeAnd (slice_get steps m) (λ s. IsNew (known f (take m steps)) s.clause)

  count : length (known f steps) ≡ length f.clauses + length steps
  count = length-append f.clauses (added steps) ∙ ap (λ n. length f.clauses + n) (length-map steps (λ (s : Step). s.clause))

  new_at : (m : ℕ) → m < length steps → NewStep m → NewAt (length f.clauses + m)
  new_at m within new =
      subst (λ (o : Option (List ℤ)). IsSomeAnd o (IsNew (take (length f.clauses + m) (known f steps)))) (sym (clause_of f steps m within))
      (subst (λ (cs : List (List ℤ)). IsSomeAnd (option_map (λ (s : Step). s.clause) (slice_get steps m)) (IsNew cs)) (sym (before_it f steps m)) (of_step (IsNew (known f (take m steps))) (slice_get steps m) new))

  new_step : (m : ℕ) → m < length steps → NewAt (length f.clauses + m) → NewStep m
  new_step m within new =
      of_clause (IsNew (known f (take m steps))) (slice_get steps m)
      (subst (λ (cs : List (List ℤ)). IsSomeAnd (option_map (λ (s : Step). s.clause) (slice_get steps m)) (IsNew cs)) (before_it f steps m)
      (subst (λ (o : Option (List ℤ)). IsSomeAnd o (IsNew (take (length f.clauses + m) (known f steps)))) (clause_of f steps m within) new))

  new_clauses : Each (λ clauses s. IsNew clauses s.clause) f steps → AreNewFrom (known f steps) (length f.clauses)
  new_clauses each n after within =
      let m = n - length f.clauses in
      let at : length f.clauses + m ≡ n = omega (arith, after) in
      let few : m < length steps = omega (arith, after, within, count) in
      subst NewAt at (new_at m few (each m few))

  new_steps : AreNewFrom (known f steps) (length f.clauses) → Each (λ clauses s. IsNew clauses s.clause) f steps
  new_steps all m within = new_step m within (all (length f.clauses + m) (omega arith) (omega (arith, within, count)))

  -- a log whose steps are accepted is busy exactly where its clauses are
  pub busy_clauses : AreAccepted f steps → IsBusyFrom (known f steps) (length f.clauses) ↔ IsBusy f steps
  busy_clauses accepted = (
    λ busy. record { accepted = accepted; new = new_steps busy.new; open_end = busy.open_end },
    λ busy. record { new = new_clauses busy.new; open_end = busy.open_end },
  )
