-- What a look at a clause leaves.
use Rattle.std.proofs.Common.{◌≡◌, ◌≢◌, ◌-◌, ◌<◌, ◌≤◌, ◌++◌, ◌∷◌, [], ◌⊎◌, inl, inr, ℕ, zero, suc, List, refl, sym, ap, subst, ◌∙◌, length, get_or, take, true, false, arith, append_assoc, append-nil}
use Rattle.std.specs.Prelude.{ℤ, pos, neg_ℤ, All, Contains, ◌↔◌, swap, Option, Some, None, Result, Ok, Err, IfOk, OnOk}
use Rattle.std.proofs.Math.Decide.{ℕ_discrete}
use Rattle.std.proofs.Math.IntN.{ℤ_discrete}
use Rattle.std.proofs.Math.ListN.{set, length-set}
use Rattle.std.proofs.lemmas.List.{get_or_default, take-append-le, map-append}
use Rattle.std.proofs.lemmas.List.Elements.{All-nil, All-cons, All-append, Contains-append_left, Contains-push, Contains-push_cases}
use Rattle.rup_checker.specs.Formulas.{IsLiteral}
use Rattle.rup_checker.specs.Stores.{clause_at}
use Rattle.cdcl_solver.specs.declared.trail.Assigned.{Assigned}
use Rattle.cdcl_solver.specs.declared.trail.Reason.TheVariants as reason
use Rattle.cdcl_solver.specs.declared.watches.Watch.{Watch}
use Rattle.cdcl_solver.specs.declared.search.Rewatch.{Rewatch}
use Rattle.cdcl_solver.specs.Watches.{listed, IsWatched, IsWatch, IsSafe}
use Rattle.cdcl_solver.specs.Trails.{falses}
use Rattle.cdcl_solver.specs.Searches.{Searched, taken, followed_up, IsSearch, IsRewatch, IsRewatched, IsVisited, IsFound, IsTakenUp, IsLast, IsConflict, IsImplied, GoesOn, AreSame, assigned, number_at}
use Rattle.cdcl_solver.proofs.Members.{IsWithin}
use Rattle.cdcl_solver.proofs.Moved.{Moves, clause_same, clause_other}
use Rattle.cdcl_solver.proofs.Rewatching.{moved, number_within}
use Rattle.cdcl_solver.proofs.Safety.{safe_later}
use Rattle.cdcl_solver.proofs.States.{taken_push}
use Rattle.cdcl_solver.proofs.TrailParts.{falses_front}

-- where a literal and the other one of the first two stand, read of the clause itself
pub watching_of : (cs : List (List ℤ)) (number : ℕ) (clause : List ℤ) (l read : ℤ) (mine : ℕ) → clause_at cs number ≡ clause → read ≡ l → get_or clause mine read ≡ read
    → get_or (clause_at cs number) mine l ≡ l
watching_of cs number clause l read mine is same e = subst (λ (m : ℤ). get_or (clause_at cs number) mine m ≡ m) same (ap (λ (xs : List ℤ). get_or xs mine read) is ∙ e)

pub same_refl : (cs : List (List ℤ)) → AreSame cs cs
same_refl cs = record { count = refl; literals = λ n l. ((λ h. h), (λ h. h)) }

pub same_trans : (xs ys zs : List (List ℤ)) → AreSame xs ys → AreSame ys zs → AreSame xs zs
same_trans xs ys zs p q = record {
  count = q.count ∙ p.count;
  literals = λ n l. ((λ h. (p.literals n l).0 ((q.literals n l).0 h)), (λ h. (q.literals n l).1 ((p.literals n l).1 h)));
}

pub goes_on_refl : (s : Searched) → GoesOn s s
goes_on_refl s = record { variables = refl; clauses = same_refl s.clauses; more = []; trail = sym (append-nil s.trail); implied = All-nil IsImplied }

pub goes_on_trans : (s t u : Searched) → GoesOn s t → GoesOn t u → GoesOn s u
goes_on_trans s t u p q = record {
  variables = q.variables ∙ p.variables;
  clauses = same_trans s.clauses t.clauses u.clauses p.clauses q.clauses;
  more = p.more ++ q.more;
  trail = q.trail ∙ ap (λ (ts : List Assigned). ts ++ q.more) p.trail ∙ append_assoc s.trail p.more q.more;
  implied = All-append IsImplied p.more q.more p.implied q.implied;
}

pub goes_on_assigned : (s : Searched) (a : Assigned) (number : ℕ) → a.reason ≡ reason.Clause number → GoesOn s (assigned s a)
goes_on_assigned s a number is = record {
  variables = refl;
  clauses = same_refl s.clauses;
  more = a ∷ [];
  trail = refl;
  implied = All-cons IsImplied a [] (number, is) (All-nil IsImplied);
}

-- what was false stays so, and what was followed up is the same
pub goes_on_taken : (s t : Searched) → GoesOn s t → IsWithin (taken s) (taken t)
goes_on_taken s t g l h = subst (λ (ts : List Assigned). Contains (falses ts) l) (sym g.trail)
    (subst (λ (ls : List ℤ). Contains ls l) (sym (map-append (λ (a : Assigned). neg_ℤ a.literal) s.trail g.more)) (Contains-append_left (falses s.trail) (falses g.more) l h))

pub goes_on_followed : (s t : Searched) → IsSearch s → GoesOn s t → t.followed ≡ s.followed → followed_up t ≡ followed_up s
goes_on_followed s t search g same =
    ap (λ (k : ℕ). falses (take k t.trail)) same ∙ ap (λ (ts : List Assigned). falses (take s.followed ts)) g.trail
    ∙ ap falses (take-append-le s.followed s.trail g.more search.within)

abbrev by_clause : ℤ → ℕ → Assigned
by_clause l number = record { literal = l; reason = reason.Clause number }

-- nothing was done
pub visited_same : (s : Searched) (l : ℤ) (at number : ℕ) → IsVisited s s l at number
visited_same s l at number = record { goes_on = goes_on_refl s; followed = refl; started = refl; others = λ n ne. refl; front = refl }

module _ (s : Searched) (l : ℤ) (at number : ℕ) (search : IsSearch s) (lit : IsLiteral s.variables l) (low : at < length (listed s.lists l))
    (number_is : number_at s l at ≡ number) (gone : Contains (taken s) l) where
  abbrev c : List ℤ
  c = clause_at s.clauses number

  abbrev watch : Watch
  watch = get_or (listed s.lists l) at (record { number = 0; other = pos 0; binary = false })

  pub says : IsWatch c l watch
  says = subst (λ (k : ℕ). IsWatch (clause_at s.clauses k) l watch) number_is (search.watched.watches l lit at (record { number = 0; other = pos 0; binary = false }) low)

  pub number_low : number < length s.clauses
  number_low = number_within s.clauses number 0 (omega (arith, says.watched.long))

  pub c_range : All (IsLiteral s.variables) c
  c_range = search.clauses.in_range number [] number_low

  pub true_found : (m : ℤ) → Contains c m → Contains (taken s) (neg_ℤ m) → IsFound s l number None
  true_found m here true' = inl (record { literal = m; stands = here; negated = true' })

  -- a clause's last literal is taken up
  pub taken_up : (t : Searched) (m : ℤ) (r : Option ℕ) → IsLast s number m → IsTakenUp s t number m r → IsVisited s t l at number × IsFound t l number r
  taken_up t m None last up = subst (λ (u : Searched). IsVisited s u l at number × IsFound u l number None) (sym up) (
    record { goes_on = goes_on_assigned s (by_clause m number) number refl; followed = refl; started = refl; others = λ n ne. refl; front = refl },
    inl (record { literal = m; stands = last.stands; negated = subst (λ (ls : List ℤ). Contains ls (neg_ℤ m)) (sym (taken_push s (by_clause m number) search)) (Contains-push (taken s) (neg_ℤ m)) }),
  )
  taken_up t m (Some conflict) last up = subst (λ (u : Searched). IsVisited s u l at number × IsFound u l number (Some conflict)) (sym up.0) (
    visited_same s l at number,
    subst (λ (k : ℕ). IsConflict s k) (sym up.1) up.2,
  )

  module _ (t : Searched) (m : ℤ) (last : IsLast s number m) where
    pub on_visited : {E : Type 0} (r : Result (Option ℕ) E) → IfOk r (IsTakenUp s t number m) → OnOk r (IsVisited s t l at number)
    on_visited (Ok o) up = (taken_up t m o last up).0
    on_visited (Err e) up = tt

    pub on_found : {E : Type 0} (r : Result (Option ℕ) E) → IfOk r (IsTakenUp s t number m) → IfOk r (IsFound t l number)
    on_found (Ok o) up = (taken_up t m o last up).1
    on_found (Err e) up = tt

  -- in a binary clause the other literal is the last
  pub binary_last : watch.binary ≡ true → IsLast s number watch.other
  binary_last both = record {
    there = number_low;
    stands = says.other;
    others = λ m here ne. elim (says.binary both m here) [ inl e ↦ subst (Contains (taken s)) (sym e) gone | inr e ↦ absurd (ne e) ];
  }

  module _ (mine : ℕ) (other : ℤ) (few : mine ≤ 1) (is_mine : get_or c mine l ≡ l) (is_other : get_or c (1 - mine) other ≡ other) where
    abbrev two : 2 ≤ length c
    two = says.watched.long

    pub other_in : Contains c other
    other_in = (1 - mine, omega (arith, two, few), is_other)

    other_differs : other ≢ l
    other_differs e =
        let f = search.clauses.apart number [] number_low mine (1 - mine) l (omega (arith, two, few)) (omega (arith, two, few))
        (is_mine ∙ sym (get_or_default c (1 - mine) l other (omega (arith, two, few)) ∙ is_other ∙ e)) in omega (arith, f, few)

    other_watches : IsWatched c other
    other_watches = by_mine mine few is_other
      where
        by_mine : (k : ℕ) → k ≤ 1 → get_or c (1 - k) other ≡ other → IsWatched c other
        by_mine zero le e = record { long = two; first_two = inr e }
        by_mine (suc zero) le e = record { long = two; first_two = inl e }
        by_mine (suc (suc k)) le e = absurd (omega (arith, le))

    -- where all literals after the first two are false the other one is the last
    pub clause_last : ((k : ℕ) (d : ℤ) → 2 ≤ k → k < length c → Contains (taken s) (get_or c k d)) → IsLast s number other
    clause_last false' = record {
      there = number_low;
      stands = other_in;
      others = λ m here ne. subst (Contains (taken s)) here.2 (at_place m ne here.0 here.1 here.2);
    }
      where
        order : (k : ℕ) → (k ≡ mine) ⊎ ((k ≡ 1 - mine) ⊎ (2 ≤ k))
        order k = let le : mine ≤ 1 = few in grind arith

        at_place : (m : ℤ) → m ≢ other → (k : ℕ) → k < length c → get_or c k m ≡ m → Contains (taken s) (get_or c k m)
        at_place m ne k low e = elim (order k) [
          | inl is ↦ subst (Contains (taken s)) (sym (ap (λ (j : ℕ). get_or c j m) is ∙ get_or_default c mine m l (omega (arith, two, few)) ∙ is_mine)) gone
          | inr (inl is) ↦ absurd (ne (sym e ∙ ap (λ (j : ℕ). get_or c j m) is ∙ get_or_default c (1 - mine) m other (omega (arith, two, few)) ∙ is_other))
          | inr (inr far) ↦ false' k m far low
        ]

    pub rewatch_asked : (place : ℕ) → 2 ≤ place → place < length c → ((d : ℤ) → ¬ (Contains (taken s) (get_or c place d)))
        → IsRewatch s l (record { number = number; mine = mine; other = other; place = place })
    rewatch_asked place far low free = record {
      mine = few;
      far = far;
      low = low;
      is = is_mine;
      other = other_in;
      other_watches = other_watches;
      differ = other_differs;
      free = free l;
    }

    -- another literal watches the clause
    module _ (t : Searched) (place : ℕ) (far : 2 ≤ place) (low_place : place < length c) (free : (d : ℤ) → ¬ (Contains (taken s) (get_or c place d)))
        (re : IsRewatched s t l at (record { number = number; mine = mine; other = other; place = place })) where
      abbrev k : Rewatch
      k = record { number = number; mine = mine; other = other; place = place }

      abbrev c' : List ℤ
      c' = swap c mine place

      abbrev fresh : ℤ
      fresh = get_or c place l

      m' : Moves c c' l fresh
      m' = moved s l at k search lit low number_is (rewatch_asked place far low_place free)

      is_c' : clause_at t.clauses number ≡ c'
      is_c' = ap (λ (cs : List (List ℤ)). clause_at cs number) re.clauses ∙ clause_same s.clauses number c' number_low

      same_at : (n : ℕ) (m : ℤ) → Contains (clause_at (set s.clauses number c') n) m ↔ Contains (clause_at s.clauses n) m
      same_at n m = elim (ℕ_discrete n number) [
        | yes e ↦ subst (λ (j : ℕ). Contains (clause_at (set s.clauses number c') j) m ↔ Contains (clause_at s.clauses j) m) (sym e)
            (subst (λ (xs : List ℤ). Contains xs m ↔ Contains c m) (sym (clause_same s.clauses number c' number_low)) (m'.same m))
        | no ne ↦ subst (λ (xs : List ℤ). Contains xs m ↔ Contains (clause_at s.clauses n) m) (sym (clause_other s.clauses number n c' ne)) ((λ h. h), (λ h. h))
      ]

      goes_on : GoesOn s t
      goes_on = record {
        variables = re.variables;
        clauses = subst (AreSame s.clauses) (sym re.clauses) (record { count = length-set s.clauses number c'; literals = same_at });
        more = [];
        trail = re.trail ∙ sym (append-nil s.trail);
        implied = All-nil IsImplied;
      }

      after : IsSafe (followed_up s ++ l ∷ []) (taken s) c'
      after = elim (search.safe number number_low (inr two)) [
        | inl h ↦ inl (record { literal = h.literal; stands = (m'.same h.literal).1 h.stands; negated = h.negated })
        | inr h ↦ inr (record {
          long = omega (arith, two, m'.count);
          open_both = λ m w in'. elim (ℤ_discrete m fresh) [
            | yes e ↦ elim (Contains-push_cases (followed_up s) l m in') [
              | inl before ↦ free l (subst (Contains (taken s)) e (falses_front s.followed s.trail m before))
              | inr is ↦ free l (subst (Contains (taken s)) (is ∙ e) gone)
            ]
            | no ne ↦ elim (Contains-push_cases (followed_up s) l m in') [
              | inl before ↦ h.open_both m (m'.only m w ne) before
              | inr is ↦ m'.gone (subst (IsWatched c') (sym is) w)
            ]
          ];
        })
      ]

      pub rewatched_found : IsVisited s t l at number × IsFound t l number None
      rewatched_found = (
        record {
          goes_on = goes_on;
          followed = re.followed;
          started = re.started;
          others = λ n ne. ap (λ (cs : List (List ℤ)). clause_at cs n) re.clauses ∙ clause_other s.clauses number n c' ne;
          front = re.front;
        },
        subst (λ (ls : List ℤ). IsSafe (ls ++ l ∷ []) (taken t) (clause_at t.clauses number)) (sym (goes_on_followed s t search goes_on re.followed))
            (subst (IsSafe (followed_up s ++ l ∷ []) (taken t)) (sym is_c')
            (safe_later (followed_up s ++ l ∷ []) (taken s) (taken t) c' (goes_on_taken s t goes_on) after)),
      )
