-- Propagation from its start to its end.
use Rattle.std.proofs.Common.{◌≡◌, ◌+◌, ◌<◌, ◌≤◌, ◌++◌, ◌∷◌, [], ◌⊎◌, inl, inr, ℕ, List, refl, sym, ap, subst, ◌∙◌, length, get_or, take, true, arith, append-nil}
use Rattle.std.specs.Prelude.{ℤ, pos, neg_ℤ, All, Contains, Option, Some, None, Result, Ok, Err, IfOk, MatchOption}
use Rattle.std.proofs.lemmas.List.{take_more, take_all, get_or_append_left, get_or_default, length-append}
use Rattle.std.proofs.lemmas.List.Elements.{All-nil, Contains-get_or}
use Rattle.rup_checker.specs.Logs.{IsComplete}
use Rattle.rup_checker.specs.Stores.{clause_at}
use Rattle.cdcl_solver.specs.declared.trail.Assigned.{Assigned}
use Rattle.cdcl_solver.specs.declared.trail.Reason.TheVariants as reason
use Rattle.cdcl_solver.specs.Watches.{HasTrue, IsSafe}
use Rattle.cdcl_solver.specs.Trails.{falses}
use Rattle.cdcl_solver.specs.Searches.{Searched, taken, followed_up, IsSearch, IsSettled, IsConflict, IsImplied, IsLast, IsTakenUp, IsWaiting, IsLookedAt, AreSafeAfter, AreShortTrue, GoesOn}
use Rattle.cdcl_solver.proofs.Safety.{all_quiet}
use Rattle.cdcl_solver.proofs.Short.{trail_short}
use Rattle.cdcl_solver.proofs.States.{taken_push}
use Rattle.cdcl_solver.proofs.TrailParts.{false_at, falses_push, trail_consistent}
use Rattle.cdcl_solver.proofs.Visiting.{same_refl, goes_on_refl, goes_on_assigned, goes_on_taken}
use Rattle.std.proofs.lemmas.List.Elements.{Contains-push}

abbrev nothing : Assigned
nothing = record { literal = pos 0; reason = reason.Decision }

module _ (s : Searched) (l : ℤ) (waiting : IsWaiting s l) where
  -- a literal that waits is false
  pub waiting_false : Contains (taken s) l
  waiting_false = subst (Contains (taken s)) (sym waiting.is) (false_at s.trail s.followed nothing waiting.low)

  -- it still waits where more is true
  pub waiting_kept : (t : Searched) → GoesOn s t → t.followed ≡ s.followed → IsWaiting t l
  waiting_kept t g same = record {
    low = omega (arith, waiting.low, same, ap length g.trail, length-append s.trail g.more);
    is = waiting.is ∙ ap (λ (a : Assigned). neg_ℤ a.literal) (sym (ap (λ (k : ℕ). get_or t.trail k nothing) same ∙ ap (λ (ts : List Assigned). get_or ts s.followed nothing) g.trail
        ∙ get_or_append_left s.trail g.more nothing s.followed waiting.low));
  }

  module _ (search : IsSearch s) where
    pub few_followed : s.followed < s.variables
    few_followed = omega (arith, waiting.low, trail_short s.variables s.clauses s.trail search.justified)

    pub advanced : AreSafeAfter s l → IsSearch (record s { followed = s.followed + 1 })
    advanced safe = record {
      few = search.few;
      count = search.count;
      clauses = search.clauses;
      lists = search.lists;
      watched = search.watched;
      justified = search.justified;
      within = omega (arith, waiting.low);
      safe = λ n low seen. elim (search.safe n low (still n seen)) [
        | inl h ↦ inl h
        | inr h ↦ subst (λ (ls : List ℤ). IsSafe ls (taken s) (clause_at s.clauses n)) (sym more) (safe n low h.long)
      ];
    }
      where
        still : (n : ℕ) → (s.started ≡ true) ⊎ (2 ≤ length (clause_at s.clauses n)) → (s.started ≡ true) ⊎ (2 ≤ length (clause_at s.clauses n))
        still n h = h

        more : falses (take (s.followed + 1) s.trail) ≡ followed_up s ++ l ∷ []
        more = ap falses (take_more s.trail s.followed nothing waiting.low) ∙ falses_push (take s.followed s.trail) (get_or s.trail s.followed nothing)
            ∙ ap (λ (m : ℤ). followed_up s ++ m ∷ []) (sym waiting.is)

pub advanced_goes_on : (s : Searched) (k : ℕ) → GoesOn s (record s { followed = k })
advanced_goes_on s k = record { variables = refl; clauses = same_refl s.clauses; more = []; trail = sym (append-nil s.trail); implied = All-nil IsImplied }

pub started_goes_on : (s : Searched) → GoesOn s (record s { started = true })
started_goes_on s = record { variables = refl; clauses = same_refl s.clauses; more = []; trail = sym (append-nil s.trail); implied = All-nil IsImplied }

-- each clause was looked at
pub started_search : (s : Searched) → IsSearch s → AreShortTrue s (length s.clauses) → IsSearch (record s { started = true })
started_search s search short = record {
  few = search.few;
  count = search.count;
  clauses = search.clauses;
  lists = search.lists;
  watched = search.watched;
  justified = search.justified;
  within = search.within;
  safe = λ n low seen. elim (order (length (clause_at s.clauses n)) 2) [
    | inl less ↦ inl (short n low less)
    | inr long ↦ search.safe n low (inr long)
  ];
}
  where
    order : (a b : ℕ) → (a < b) ⊎ (b ≤ a)
    order a b = grind arith

-- where all that is true was followed up no clause is false, and none leaves one literal
pub settled_safe : (s : Searched) → IsSearch s → IsSettled s → All (IsSafe (taken s) (taken s)) s.clauses
settled_safe s search settled k d low =
    subst (IsSafe (taken s) (taken s)) (get_or_default s.clauses k [] d low)
    (subst (λ (ls : List ℤ). IsSafe ls (taken s) (clause_at s.clauses k))
    (ap (λ (j : ℕ). falses (take j s.trail)) settled.followed ∙ ap falses (take_all (length s.trail) s.trail (omega arith)))
    (search.safe k low (inl settled.started)))

pub settled_quiet : (s : Searched) → IsSearch s → IsSettled s → IsComplete s.clauses (Contains (taken s))
settled_quiet s search settled = all_quiet (taken s) s.clauses (trail_consistent s.variables s.clauses s.trail search.justified) search.clauses.apart (settled_safe s search settled)

-- a look at one clause
module _ (s : Searched) (number : ℕ) (there : number < length s.clauses) where
  abbrev c : List ℤ
  c = clause_at s.clauses number

  same : (conflict : Option ℕ) → MatchOption conflict (length c < 2 → HasTrue (taken s) c) (IsConflict s) → IsLookedAt s s number conflict
  same conflict found = record { clauses = refl; goes_on = goes_on_refl s; followed = refl; started = refl; found = found }

  pub looked_long : 2 ≤ length c → IsLookedAt s s number None
  looked_long long = same None (λ less. absurd (omega (arith, long, less)))

  pub looked_empty : c ≡ [] → IsLookedAt s s number (Some number)
  looked_empty e = same (Some number) (record { there = there; false = subst (All (Contains (taken s))) (sym e) (All-nil (Contains (taken s))) })

  module _ (some : 0 < length c) where
    pub only : Contains c (get_or c 0 (pos 0))
    only = Contains-get_or c 0 (pos 0) some

    pub looked_true : Contains (taken s) (neg_ℤ (get_or c 0 (pos 0))) → IsLookedAt s s number None
    looked_true h = same None (λ less. record { literal = get_or c 0 (pos 0); stands = only; negated = h })

    pub only_last : length c < 2 → IsLast s number (get_or c 0 (pos 0))
    only_last less = record {
      there = there;
      stands = only;
      others = λ m here ne. absurd (ne (sym (here.2) ∙ ap (λ (k : ℕ). get_or c k m) (let e : here.0 ≡ 0 = omega (arith, here.1, less) in e) ∙ get_or_default c 0 m (pos 0) some));
    }

  module _ (search : IsSearch s) (t : Searched) (m : ℤ) (last : IsLast s number m) where
    looked_up_one : (o : Option ℕ) → IsTakenUp s t number m o → IsLookedAt s t number o
    looked_up_one None up = subst (λ (u : Searched). IsLookedAt s u number None) (sym up) (record {
      clauses = refl;
      goes_on = goes_on_assigned s (record { literal = m; reason = reason.Clause number }) number refl;
      followed = refl;
      started = refl;
      found = λ less. record {
        literal = m;
        stands = last.stands;
        negated = subst (λ (ls : List ℤ). Contains ls (neg_ℤ m)) (sym (taken_push s (record { literal = m; reason = reason.Clause number }) search)) (Contains-push (taken s) (neg_ℤ m));
      };
    })
    looked_up_one (Some conflict) up = subst (λ (u : Searched). IsLookedAt s u number (Some conflict)) (sym up.0)
        (same (Some conflict) (subst (λ (k : ℕ). IsConflict s k) (sym up.1) up.2))

    pub looked_up : {E : Type 0} (r : Result (Option ℕ) E) → IfOk r (IsTakenUp s t number m) → IfOk r (IsLookedAt s t number)
    looked_up (Ok o) up = looked_up_one o up
    looked_up (Err e) up = tt

-- one more clause was looked at
pub short_more : (s t : Searched) (number : ℕ) → AreShortTrue s number → IsLookedAt s t number None → AreShortTrue t (number + 1)
short_more s t number short looked n less few = elim (order n number less) [
  | inl before ↦
      let h = short n before (subst (λ (cs : List (List ℤ)). length (clause_at cs n) < 2) looked.clauses few) in
      subst (λ (cs : List (List ℤ)). HasTrue (taken t) (clause_at cs n)) (sym looked.clauses)
      (record { literal = h.literal; stands = h.stands; negated = goes_on_taken s t looked.goes_on (neg_ℤ h.literal) h.negated })
  | inr last ↦ subst (λ (k : ℕ). HasTrue (taken t) (clause_at t.clauses k)) (sym last) (looked.found (subst (λ (k : ℕ). length (clause_at t.clauses k) < 2) last few))
]
  where
    order : (a b : ℕ) → a < b + 1 → (a < b) ⊎ (a ≡ b)
    order a b h = grind arith
