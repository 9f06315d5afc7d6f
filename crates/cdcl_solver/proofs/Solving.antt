-- A search and the log of what it learnt.
use Rattle.std.proofs.Common.{◌≡◌, ◌≢◌, ◌+◌, ◌-◌, ◌*◌, ◌<◌, ◌≤◌, ◌++◌, ◌∷◌, [], ◌⊎◌, inl, inr, ℕ, zero, suc, List, refl, sym, ap, subst, ◌∙◌, length, get_or, take, drop, reverse, length-append, append-nil, Bool, true, false, arith}
use Rattle.std.specs.Prelude.{ℤ, pos, negsuc, neg_ℤ, nat_abs, not, All, Any, Contains, IsSomeAnd, IsTrue, slice_get, ◌↔◌}
use Rattle.std.proofs.Math.IntN.{ℤ_discrete}
use Rattle.std.proofs.lemmas.List.{length-map, length_push, length-take-le, take-take, get_or_default, get_or-take, get_or_append_left, reverse-append}
use Rattle.std.proofs.lemmas.List.Elements.{All-contains, All-append, Contains-get_or}
use Rattle.rup_checker.specs.declared.log.Step.{Step}
use Rattle.rup_checker.specs.Formulas.{Cnf, IsLiteral, truth, listed}
use Rattle.rup_checker.specs.Steps.{IsAllFalse, IsUnit, Propagates, Refutes, IsAccepted}
use Rattle.rup_checker.specs.Stores.{clause_at}
use Rattle.rup_checker.specs.Logs.{known, added, Each, AreAccepted, IsQuiet, IsComplete, IsNew, IsBusy, IsOneEmpowering, Grows}
use Rattle.cdcl_solver.specs.declared.analysis.Learnt.{Learnt}
use Rattle.cdcl_solver.specs.declared.trail.Assigned.{Assigned}
use Rattle.cdcl_solver.specs.declared.trail.Reason.TheVariants as reason
use Rattle.cdcl_solver.specs.Trails.{falses}
use Rattle.cdcl_solver.specs.Searches.{Searched, taken, IsSearch, IsSettled, IsFresh, IsImplied, IsAsserting, IsLearnt, AreSame, GoesOn, assigned}
use Rattle.cdcl_solver.specs.Explanations.{IsBack, IsShown}
use Rattle.cdcl_solver.specs.Answers.{IsModel, IsRefutation, IsSpent}
use Rattle.cdcl_solver.proofs.Members.{IsWithin, none_in, all_from_in, decide_in}
use Rattle.cdcl_solver.proofs.Asserting.{nothing, decision_safe}
use Rattle.cdcl_solver.proofs.Attaching.{clause_before, clause_last_at}
use Rattle.cdcl_solver.proofs.Bound.{busy_short}
use Rattle.cdcl_solver.proofs.Complete.{complete_open, complete_unrefuted}
use Rattle.cdcl_solver.proofs.Derivations.{derives_more, derives_refutes, some_at, at_some_and, some_low}
use Rattle.cdcl_solver.proofs.Learning.{learnt_new, learnt_grows}
use Rattle.cdcl_solver.proofs.Rewatching.{unit_same, number_within}
use Rattle.cdcl_solver.proofs.Safety.{all_quiet}
use Rattle.cdcl_solver.proofs.Steps.{known_push, each_push, each_none}
use Rattle.cdcl_solver.proofs.TrailParts.{IsConsistent, false_since, falses_earlier, falses_front, trail_front, trail_consistent}
use Rattle.cdcl_solver.proofs.Visiting.{same_trans}

-- the log is busy but for its end, the search has its clauses, and decided nothing before it started
pub record IsSolving (f : Cnf) (s : Searched) (steps : List Step) : Type 0 where
  pub search : IsSearch s
  pub variables : s.variables ≡ f.variables
  pub same : AreSame (known f steps) s.clauses
  pub accepted : AreAccepted f steps
  pub new : Each (λ clauses step. IsNew clauses step.clause) f steps
  pub grows : Grows f steps
  pub begun : (s.started ≡ true) ⊎ All IsImplied s.trail

pub solving_starts : (f : Cnf) (s : Searched) (steps : List Step) → IsSearch s → IsFresh f s → steps ≡ [] → IsSolving f s steps
solving_starts f s steps search fresh none = subst (IsSolving f s) (sym none) (record {
  search = search;
  variables = fresh.variables;
  same = subst (λ (cs : List (List ℤ)). AreSame cs s.clauses) (sym (append-nil f.clauses)) fresh.clauses;
  accepted = each_none (λ clauses r. IsAccepted f.variables clauses r.clause r.hints) f;
  new = each_none (λ clauses r. IsNew clauses r.clause) f;
  grows = each_none (λ clauses r. IsOneEmpowering clauses r.clause) f;
  begun = inr (subst (All IsImplied) (sym fresh.trail) (λ k d low. absurd (omega (arith, low))));
})

pub solving_goes_on : (f : Cnf) (s t : Searched) (steps : List Step) → IsSolving f s steps → IsSearch t → GoesOn s t → (s.started ≡ true → t.started ≡ true) → IsSolving f t steps
solving_goes_on f s t steps h search on started = record {
  search = search;
  variables = on.variables ∙ h.variables;
  same = same_trans (known f steps) s.clauses t.clauses h.same on.clauses;
  accepted = h.accepted;
  new = h.new;
  grows = h.grows;
  begun = elim h.begun [
    | inl e ↦ inl (started e)
    | inr all ↦ inr (subst (All IsImplied) (sym on.trail) (All-append IsImplied s.trail on.more all on.implied))
  ];
}

pub solving_decides : (f : Cnf) (s t : Searched) (steps : List Step) (a : Assigned) → IsSolving f s steps → IsSearch t → t ≡ assigned s a → s.started ≡ true → IsSolving f t steps
solving_decides f s t steps a h search is started = record {
  search = search;
  variables = ap (λ (u : Searched). u.variables) is ∙ h.variables;
  same = subst (λ (u : Searched). AreSame (known f steps) u.clauses) (sym is) h.same;
  accepted = h.accepted;
  new = h.new;
  grows = h.grows;
  begun = inl (ap (λ (u : Searched). u.started) is ∙ started);
}

-- what is said of clauses as sets
module _ (cs ds : List (List ℤ)) (same : AreSame cs ds) where
  same_unit : (k : ℕ) (taken : List ℤ) (l : ℤ) → IsSomeAnd (slice_get ds k) (λ c. IsUnit (Contains taken) c l) → IsSomeAnd (slice_get cs k) (λ c. IsUnit (Contains taken) c l)
  same_unit k taken l h = some_at cs k [] (λ c. IsUnit (Contains taken) c l) (let low = some_low ds k _ h in omega (arith, low, same.count))
      (unit_same taken (clause_at ds k) (clause_at cs k) l (λ m. ((same.literals k m).1, (same.literals k m).0)) (at_some_and ds k [] (λ c. IsUnit (Contains taken) c l) h))

  same_propagates : (taken : List ℤ) (hints : List ℕ) (after : List ℤ) → Propagates ds taken hints after → Propagates cs taken hints after
  same_propagates taken [] after p = p
  same_propagates taken (hint ∷ hints) after p = (p.0, same_unit hint taken p.0 p.1, same_propagates (neg_ℤ p.0 ∷ taken) hints after p.2)

  pub same_refutes : (taken : List ℤ) (hints : List ℕ) → Refutes ds taken hints → Refutes cs taken hints
  same_refutes taken hints r = record {
    units = r.units;
    last = r.last;
    after = r.after;
    split = r.split;
    propagated = same_propagates taken r.units r.after r.propagated;
    conflict = some_at cs r.last [] (IsAllFalse (Contains r.after)) (let low = some_low ds r.last _ r.conflict in omega (arith, low, same.count))
        (all_from_in (Contains r.after) (clause_at cs r.last) (λ m here.
        All-contains (Contains r.after) (clause_at ds r.last) m (at_some_and ds r.last [] (IsAllFalse (Contains r.after)) r.conflict) ((same.literals r.last m).1 here)));
  }

  pub same_complete : (taken : List ℤ) → IsComplete ds (Contains taken) → IsComplete cs (Contains taken)
  same_complete taken complete k d low =
      subst (IsQuiet (Contains taken)) (get_or_default cs k [] d low) (quiet (complete k [] (omega (arith, low, same.count))))
    where
      quiet : IsQuiet (Contains taken) (clause_at ds k) → IsQuiet (Contains taken) (clause_at cs k)
      quiet q = (
        (λ all. q.0 (all_from_in (Contains taken) (clause_at ds k) (λ m here. All-contains (Contains taken) (clause_at cs k) m all ((same.literals k m).0 here)))),
        (λ l u. q.1 l (unit_same taken (clause_at cs k) (clause_at ds k) l (same.literals k) u)),
      )

  pub same_push : (c : List ℤ) → AreSame (cs ++ c ∷ []) (ds ++ c ∷ [])
  same_push c = record {
    count = omega (arith, length_push cs c, length_push ds c, same.count);
    literals = λ k m. elim (order k (length cs)) [
      | inl low ↦ subst (λ (xs : List ℤ). Contains (clause_at (ds ++ c ∷ []) k) m ↔ Contains xs m) (sym (clause_before cs c k low))
          (subst (λ (xs : List ℤ). Contains xs m ↔ Contains (clause_at cs k) m) (sym (clause_before ds c k (omega (arith, low, same.count)))) (same.literals k m))
      | inr (inl e) ↦ subst (λ (xs : List ℤ). Contains (clause_at (ds ++ c ∷ []) k) m ↔ Contains xs m) (sym (clause_last_at cs c k e))
          (subst (λ (xs : List ℤ). Contains xs m ↔ Contains c m) (sym (clause_last_at ds c k (omega (arith, e, same.count)))) ((λ h. h), (λ h. h)))
      | inr (inr far) ↦ (
        (λ h. absurd (let low = number_within (ds ++ c ∷ []) k h.0 h.1 in omega (arith, low, far, length_push ds c, same.count))),
        (λ h. absurd (let low = number_within (cs ++ c ∷ []) k h.0 h.1 in omega (arith, low, far, length_push cs c))),
      )
    ];
  }
    where
      order : (a b : ℕ) → (a < b) ⊎ ((a ≡ b) ⊎ (b < a))
      order a b = grind arith

nat_abs-neg : (l : ℤ) → nat_abs (neg_ℤ l) ≡ nat_abs l
nat_abs-neg (pos zero) = refl
nat_abs-neg (pos (suc n)) = refl
nat_abs-neg (negsuc n) = refl

negation_literal : (n : ℕ) (l : ℤ) → IsLiteral n l → IsLiteral n (neg_ℤ l)
negation_literal n l lit = record {
  some = subst (λ (k : ℕ). 1 ≤ k) (sym (nat_abs-neg l)) lit.some;
  known = subst (λ (k : ℕ). k ≤ n) (sym (nat_abs-neg l)) lit.known;
}

positive_length : (n : ℕ) → 0 < n → n ≡ 0 → ⊥
positive_length n some none = omega (arith, some, none)

zero_of : (n : ℕ) → n ≤ 0 → n ≡ 0
zero_of n low = omega (arith, low)

last_of : (n m : ℕ) → 0 < n → n ≤ m → n - 1 < m
last_of n m some le = omega (arith, some, le)

below_last : (n b : ℕ) → b < n → b ≤ n - 1
below_last n b less = omega (arith, less)

last_place : (n : ℕ) → 0 < n → n - 1 + 1 ≡ n
last_place n some = omega (arith, some)

module _ (f : Cnf) (s : Searched) (steps : List Step) (h : IsSolving f s steps) (e : Learnt) (w : IsShown s e) where
  search : IsSearch s
  search = h.search

  consistent : IsConsistent (taken s)
  consistent = trail_consistent s.variables s.clauses s.trail search.justified

  false_range : (l : ℤ) → Contains (taken s) l → IsLiteral s.variables l
  false_range l here =
      let p = false_since s.trail l nothing here in
      subst (IsLiteral s.variables) p.2 (negation_literal s.variables (get_or s.trail p.0 nothing).literal (search.justified p.0 nothing p.1).in_range)

  clause_range : All (IsLiteral s.variables) e.step.clause
  clause_range = all_from_in (IsLiteral s.variables) e.step.clause (λ l here. false_range l (w.within l here))

  pub step_accepted : (hints : List ℕ) → hints ≡ e.step.hints → IsAccepted f.variables (known f steps) e.step.clause hints
  step_accepted hints is = record {
    in_range = subst (λ (n : ℕ). All (IsLiteral n) e.step.clause) h.variables clause_range;
    refuted = same_refutes (known f steps) s.clauses h.same e.step.clause hints (subst (Refutes s.clauses e.step.clause) (sym is) w.refuted);
  }

  module _ (some : 0 < length e.step.clause) where
    order : (m n : ℕ) → (m < n) ⊎ (n ≤ m)
    order m n = grind arith

    nothing_some : e.step.clause ≡ [] → ⊥
    nothing_some empty = absurd (positive_length (length e.step.clause) some (ap length empty))

    level : 0 < w.start
    level = elim (order 0 w.start) [ inl less ↦ less | inr far ↦ absurd (nothing_some (w.none (zero_of w.start far))) ]

    back : IsBack s 0 w.start e.back e.step.clause
    back = w.back level

    abbrev last : ℕ
    last = w.start - 1

    last_low : last < length s.trail
    last_low = last_of w.start (length s.trail) level w.level.within

    last_decided : (get_or s.trail last nothing).reason ≡ reason.Decision
    last_decided = w.level.decided last nothing (last_place w.start level)

    abbrev before_last : List ℤ
    before_last = falses (take last s.trail)

    abbrev before : List ℤ
    before = falses (take e.back s.trail)

    pub back_low : e.back < length s.trail
    back_low = omega (arith, back.low, w.level.within)

    pub back_decided : (get_or s.trail e.back nothing).reason ≡ reason.Decision
    back_decided = back.decided nothing

    pub is_started : s.started ≡ true
    is_started = elim h.begun [
      | inl yes' ↦ yes'
      | inr all ↦ let p = all e.back nothing back_low in absurd (clause_decision p.0 (sym p.1 ∙ back_decided))
    ]
      where
        clause_decision : (k : ℕ) → reason.Clause k ≡ reason.Decision → ⊥
        clause_decision k e = cc

    last_consistent : IsConsistent before_last
    last_consistent = trail_consistent s.variables s.clauses (take last s.trail) (trail_front s.variables s.clauses s.trail search.justified last (omega (arith, last_low)))

    complete_there : IsComplete s.clauses (Contains before_last)
    complete_there = all_quiet before_last s.clauses last_consistent search.clauses.apart (decision_safe s.clauses before_last _ _ (search.justified last nothing last_low).reason last_decided)

    complete : IsComplete (known f steps) (Contains before_last)
    complete = same_complete (known f steps) s.clauses h.same before_last complete_there

    abbrev u : ℤ
    u = get_or e.step.clause 0 (pos 0)

    u_in : Contains e.step.clause u
    u_in = Contains-get_or e.step.clause 0 (pos 0) some

    others_back : (l : ℤ) → Contains e.step.clause l → l ≢ u → Contains before l
    others_back l here ne = by_place here.0 here.1 here.2
      where
        by_place : (k : ℕ) → k < length e.step.clause → get_or e.step.clause k l ≡ l → Contains before l
        by_place zero low e' = absurd (ne (sym e' ∙ get_or_default e.step.clause 0 l (pos 0) some))
        by_place (suc k) low e' = subst (Contains before) e' (back.others (suc k) l (omega arith) low)

    back_within : IsWithin before before_last
    back_within = falses_earlier e.back last s.trail (below_last w.start e.back back.low)

    others : (l : ℤ) → Contains e.step.clause l → l ≢ u → Contains before_last l
    others l here ne = back_within l (others_back l here ne)

    -- the first literal was not false before the last decision, since the clause would have been there
    free : (¬ (Contains before_last u)) × (¬ (Contains before_last (neg_ℤ u)))
    free = (
      (λ there. complete_unrefuted s.clauses before_last e.step.clause e.step.hints complete_there (λ l here. elim (ℤ_discrete l u) [
        | yes e' ↦ subst (Contains before_last) (sym e') there
        | no ne ↦ others l here ne
      ]) w.refuted),
      (λ there. consistent u (w.within u u_in) (falses_front last s.trail (neg_ℤ u) there)),
    )

    clause_consistent : IsConsistent e.step.clause
    clause_consistent l here there = consistent l (w.within l here) (w.within (neg_ℤ l) there)

    step_new : IsNew (known f steps) e.step.clause
    step_new = learnt_new (known f steps) before_last e.step.clause u complete u_in others free.0 free.1 clause_consistent

    step_grows : IsOneEmpowering (known f steps) e.step.clause
    step_grows = learnt_grows (known f steps) before_last e.step.clause u complete u_in others free.0 free.1 last_consistent

    pub is_spent : (budget : ℕ) → length steps ≡ budget → IsSpent f budget steps
    is_spent budget whole = record {
      busy = busy;
      grows = h.grows;
      whole = whole;
    }
      where
        busy : IsBusy f steps
        busy = record { accepted = h.accepted; new = h.new; open_end = complete_open (known f steps) before_last complete }

    abbrev t : Searched
    t = record s { trail = take e.back s.trail; followed = e.back }

    pub back_settled : IsSettled t
    back_settled = record { started = is_started; followed = sym (length-take-le e.back s.trail (omega (arith, back_low))) }

    pub back_asserting : IsAsserting t e.step.clause
    back_asserting = record {
      some = some;
      in_range = clause_range;
      apart = w.apart;
      free = λ d. subst (λ (l : ℤ). (¬ (Contains before l)) × (¬ (Contains before (neg_ℤ l)))) (get_or_default e.step.clause 0 (pos 0) d some)
          ((λ there. free.0 (back_within u there)), (λ there. free.1 (back_within (neg_ℤ u) there)));
      others = λ k d one less. back.others k d one less;
      second = λ place a d low decision.
          let less : place < e.back = omega (arith, low, length-take-le e.back s.trail (omega (arith, back_low))) in
          let two = back.second place a d (omega arith) less (ap (λ (b : Assigned). b.reason) (sym (get_or-take e.back s.trail place a less)) ∙ decision) in (
            two.0,
            λ there. two.1 (subst (λ (ts : List Assigned). Contains (falses ts) (get_or e.step.clause 1 d)) (take-take place e.back s.trail (omega (arith, less))) there),
          );
    }

    pub solving_learns : (next : Searched) (step : Step) (more : List Step) → IsSearch next → IsLearnt t next step.clause → step.clause ≡ e.step.clause → step.hints ≡ e.step.hints → more ≡ steps ++ step ∷ [] → IsSolving f next more
    solving_learns next step more searched learnt is is_hints grown = subst (IsSolving f next) (sym grown) (record {
      search = searched;
      variables = learnt.variables ∙ h.variables;
      same = subst (λ (cs : List (List ℤ)). AreSame cs next.clauses) (sym (known_push f steps step))
          (subst (AreSame (known f steps ++ step.clause ∷ [])) (sym learnt.clauses) (same_push (known f steps) s.clauses h.same step.clause));
      accepted = each_push (λ clauses r. IsAccepted f.variables clauses r.clause r.hints) f steps step h.accepted
          (subst (λ (c : List ℤ). IsAccepted f.variables (known f steps) c step.hints) (sym is) (step_accepted step.hints is_hints));
      new = each_push (λ clauses r. IsNew clauses r.clause) f steps step h.new (subst (IsNew (known f steps)) (sym is) step_new);
      grows = each_push (λ clauses r. IsOneEmpowering clauses r.clause) f steps step h.grows (subst (IsOneEmpowering (known f steps)) (sym is) step_grows);
      begun = inl (learnt.started ∙ is_started);
    })

  -- without a clause the formula is refuted
  pub is_refuted : (budget : ℕ) (step : Step) (more : List Step) → step.clause ≡ e.step.clause → step.hints ≡ e.step.hints → step.clause ≡ [] → length steps ≤ budget → more ≡ steps ++ step ∷ [] → IsRefutation f budget more
  is_refuted budget step more is is_hints empty few grown = record {
    accepted = record {
      accepted = subst (AreAccepted f) (sym grown) (each_push (λ clauses r. IsAccepted f.variables clauses r.clause r.hints) f steps step h.accepted
          (subst (λ (c : List ℤ). IsAccepted f.variables (known f steps) c step.hints) (sym is) (step_accepted step.hints is_hints)));
      ended = record { before = steps; last = step; split = grown; empty = empty };
    };
    short = omega (arith, few, ap length grown, length_push steps step);
  }

pub known_count : (f : Cnf) (steps : List Step) → length (known f steps) ≡ length f.clauses + length steps
known_count f steps = omega (arith, length-append f.clauses (added steps), length-map steps (λ (r : Step). r.clause))

any_at : {X : Type 0} (P : X → Type 0) (xs : List X) (x : X) → Contains xs x → P x → Any P xs
any_at P xs x here p = (here.0, x, here.1, here.2, p)

-- a clause that isn't false has a literal that isn't
open_literal : (taken : List ℤ) (c : List ℤ) → ¬ (IsAllFalse (Contains taken) c) → (l : ℤ) × Contains c l × ¬ (Contains taken l)
open_literal taken [] out = absurd (out (λ k d low. absurd (omega (arith, low))))
open_literal taken (x ∷ c) out = elim (decide_in taken x) [
  | inr free ↦ (x, (0, omega arith, refl), free)
  | inl here ↦ let r = open_literal taken c (λ all. out (λ k d low. step k d low here all)) in (r.0, (suc r.1.0, omega (arith, r.1.1), r.1.2), r.2)
]
  where
    step : (k : ℕ) (d : ℤ) → k < length (x ∷ c) → Contains taken x → IsAllFalse (Contains taken) c → Contains taken (get_or (x ∷ c) k d)
    step zero d low here all = here
    step (suc k) d low here all = all k d (omega (arith, low))

-- where every variable has a value and propagation is complete the values are a model
pub is_model : (f : Cnf) (s : Searched) (steps : List Step) (list : List Bool) → IsSolving f s steps → IsComplete s.clauses (Contains (taken s))
    → ((v : ℕ) → 1 ≤ v → v ≤ s.variables → Contains (taken s) (pos v) ⊎ Contains (taken s) (neg_ℤ (pos v)))
    → length list ≡ s.variables → ((k : ℕ) → k < s.variables → IsTrue (get_or list k false) ↔ Contains (taken s) (neg_ℤ (pos (k + 1)))) → IsModel f list
is_model f s steps list h complete valued size values = record {
  size = size ∙ h.variables;
  satisfies = λ k d low. subst (Any (λ l. truth (listed list) l ≡ true)) (get_or_default f.clauses k [] d low) (satisfied k low);
}
  where
    consistent : IsConsistent (taken s)
    consistent = trail_consistent s.variables s.clauses s.trail h.search.justified

    known_quiet : IsComplete (known f steps) (Contains (taken s))
    known_quiet = same_complete (known f steps) s.clauses h.same (taken s) complete

    in_range : (k : ℕ) (l : ℤ) → k < length f.clauses → Contains (clause_at (known f steps) k) l → IsLiteral s.variables l
    in_range k l low here = All-contains (IsLiteral s.variables) (clause_at s.clauses k) l
        (h.search.clauses.in_range k [] (omega (arith, low, h.same.count, known_count f steps))) ((h.same.literals k l).1 here)

    false_not : (b : Bool) → ¬ (IsTrue b) → not b ≡ true
    false_not true n = absurd (n refl)
    false_not false n = refl

    is_true : (l : ℤ) → IsLiteral s.variables l → ¬ (Contains (taken s) l) → truth (listed list) l ≡ true
    is_true (pos zero) lit out = absurd (omega (arith, lit.some))
    is_true (pos (suc n)) lit out = elim (valued (suc n) lit.some lit.known) [
      | inl here ↦ absurd (out here)
      | inr there ↦ subst (λ (k : ℕ). get_or list k false ≡ true) (let e : n ≡ suc n - 1 = omega arith in e)
          ((values n (omega (arith, lit.known))).1 (subst (λ (k : ℕ). Contains (taken s) (neg_ℤ (pos k))) (let e : suc n ≡ n + 1 = omega arith in e) there))
    ]
    is_true (negsuc n) lit out = subst (λ (k : ℕ). not (get_or list k false) ≡ true) (let e : n ≡ suc n - 1 = omega arith in e)
        (false_not (get_or list n false) (λ yes'. out (subst (λ (k : ℕ). Contains (taken s) (neg_ℤ (pos k))) (let e : n + 1 ≡ suc n = omega arith in e) ((values n (omega (arith, lit.known))).0 yes'))))

    clause_is : (k : ℕ) → k < length f.clauses → clause_at (known f steps) k ≡ clause_at f.clauses k
    clause_is k low = get_or_append_left f.clauses (added steps) [] k low

    satisfied : (k : ℕ) → k < length f.clauses → Any (λ l. truth (listed list) l ≡ true) (clause_at f.clauses k)
    satisfied k low =
        let r = open_literal (taken s) (clause_at (known f steps) k) (known_quiet k [] (omega (arith, low, known_count f steps))).0 in
        any_at (λ l. truth (listed list) l ≡ true) (clause_at f.clauses k) r.0 (subst (λ (c : List ℤ). Contains c r.0) (clause_is k low) r.1) (is_true r.0 (in_range k r.0 low r.1) r.2)

-- how much work is left falls with each step that is learnt, and with each decision
pub less_learnt : (budget steps more n left left' : ℕ) → more ≡ steps + 1 → steps < budget → left ≤ n → (budget - more) * (n + 1) + left < (budget - steps) * (n + 1) + left'
less_learnt budget steps more n left left' is low few =
    let one : budget - steps ≡ budget - more + 1 = omega arith in
    omega (arith, one, ap (λ (k : ℕ). k * (n + 1)) one, few)
