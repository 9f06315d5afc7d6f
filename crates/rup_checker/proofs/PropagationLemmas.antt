-- Unit propagation: what it takes false, and when it has ended.
use Rattle.std.proofs.Common.{◌≡◌, ◌↔◌, ◌<◌, ◌≤◌, ◌+◌, ◌++◌, ◌∷◌, [], ℕ, zero, suc, Bool, true, false, List, ◌⊎◌, inl, inr, refl, sym, ap, subst, ◌∙◌, length, length-append, arith}
use Rattle.std.specs.Prelude.{ℤ, neg_ℤ, Some, Contains, IsSomeAnd, slice_get, slice_index_or}
use Rattle.std.specs.Bool.{Decides}
use Rattle.std.proofs.lemmas.Bool.{false≢true}
use Rattle.std.proofs.lemmas.Bool.Decides.{Decides-int_eq, Decides-eqb}
use Rattle.std.proofs.lemmas.List.Elements.{All-contains, Contains-get_or, Contains-push, Contains-push_cases, Contains-append_left}
use Rattle.std.proofs.lemmas.List.{drop-append-le, get_or_default, length-drop}
use Rattle.std.proofs.lemmas.Option.{get_or_from_slice_get, slice_get_within}
use Rattle.rup_checker.proofs.Sets.{value_of, has_value, member_cases, member_first, member_later}
use Rattle.rup_checker.specs.Steps.{IsAllFalse, IsUnit, Propagates}
use Rattle.rup_checker.specs.Logs.{IsQuiet, IsOpen, IsComplete}
use Rattle.rup_checker.specs.Marks.{HasTwoLeft}
use Rattle.rup_checker.specs.Occurrences.{Listing, listed, ListsAll}
use Rattle.rup_checker.specs.Closing.{IsRefuted, IsReached, TrailState, waiting, IsVisited, IsQuietBut}
use Rattle.rup_checker.specs.Stores.{clause_at}

-- what a test decides holds or doesn't
pub holds_or_not : {P : Type 0} (b : Bool) → Decides b P → P ⊎ (¬ P)
holds_or_not true d = inl (d.0 refl)
holds_or_not false d = inr (λ p. false≢true (d.1 p))

-- a literal stands in a list or it doesn't
pub contains_or_not : (xs : List ℤ) (x : ℤ) → Contains xs x ⊎ (¬ (Contains xs x))
contains_or_not [] x = inr (λ (h : Contains [] x). let within : h.0 < 0 = h.1 in absurd (omega arith))
contains_or_not (y ∷ ys) x = cases (holds_or_not _ (Decides-int_eq y x)) (contains_or_not ys x)
  where
    later : ¬ (y ≡ x) → ¬ (Contains ys x) → ¬ (Contains (y ∷ ys) x)
    later differ out (zero, within, is) = differ is
    later differ out (suc k, within, is) = out (k, omega (arith, within), is)

    cases : (y ≡ x) ⊎ (¬ (y ≡ x)) → Contains ys x ⊎ (¬ (Contains ys x)) → Contains (y ∷ ys) x ⊎ (¬ (Contains (y ∷ ys) x))
    cases (inl same) rest = inl (0, omega arith, same)
    cases (inr differ) (inl there) = inl (suc there.0, (let within : there.0 < length ys = there.1 in omega arith), there.2)
    cases (inr differ) (inr out) = inr (later differ out)

-- one more hint at the end
pub Propagates-push : (clauses : List (List ℤ)) (taken : List ℤ) (hints : List ℕ) (after : List ℤ) (n : ℕ) (l : ℤ) → Propagates clauses taken hints after → IsSomeAnd (slice_get clauses n) (λ c. IsUnit (Contains after) c l) → Propagates clauses taken (hints ++ n ∷ []) (neg_ℤ l ∷ after)
Propagates-push clauses taken [] after n l is unit =
    (l, subst (λ (t : List ℤ). IsSomeAnd (slice_get clauses n) (λ c. IsUnit (Contains t) c l)) is unit, ap (λ (t : List ℤ). neg_ℤ l ∷ t) is)
Propagates-push clauses taken (h ∷ hs) after n l (m, first, rest) unit =
    (m, first, Propagates-push clauses (neg_ℤ m ∷ taken) hs after n l rest unit)

-- only which literals are false matters
pub IsUnit-same : (P Q : ℤ → Type 0) → ((l : ℤ) → P l ↔ Q l) → (c : List ℤ) (l : ℤ) → IsUnit P c l → IsUnit Q c l
IsUnit-same P Q same c l unit = record {
  stands = unit.stands;
  left = λ q. unit.left ((same l).1 q);
  alone = λ m there free. unit.alone m there (λ p. free ((same m).0 p));
}

-- nothing is taken at first
pub reached_none : (clauses : List (List ℤ)) → IsReached clauses []
reached_none clauses = record { hints = []; after = []; propagated = refl; same = λ l. (λ h. h, λ h. h) }

-- the negation of the one literal of a unit clause is taken
pub reached_more : (clauses : List (List ℤ)) (taken : List ℤ) (n : ℕ) (c : List ℤ) (l : ℤ) → IsReached clauses taken → slice_get clauses n ≡ Some c → IsUnit (Contains taken) c l → IsReached clauses (taken ++ neg_ℤ l ∷ [])
reached_more clauses taken n c l r at unit = record {
  hints = r.hints ++ n ∷ [];
  after = neg_ℤ l ∷ r.after;
  propagated = Propagates-push clauses [] r.hints r.after n l r.propagated
      (has_value (slice_get clauses n) (λ d. IsUnit (Contains r.after) d l) c at (IsUnit-same (Contains taken) (Contains r.after) (λ m. ((r.same m).1, (r.same m).0)) c l unit));
  same = λ m. (λ there. forth m (member_cases (neg_ℤ l) r.after m there), λ there. back m (Contains-push_cases taken (neg_ℤ l) m there));
}
  where
    forth : (m : ℤ) → (neg_ℤ l ≡ m) ⊎ Contains r.after m → Contains (taken ++ neg_ℤ l ∷ []) m
    forth m (inl is) = subst (Contains (taken ++ neg_ℤ l ∷ [])) is (Contains-push taken (neg_ℤ l))
    forth m (inr old) = Contains-append_left taken (neg_ℤ l ∷ []) m ((r.same m).0 old)

    back : (m : ℤ) → Contains taken m ⊎ (neg_ℤ l ≡ m) → Contains (neg_ℤ l ∷ r.after) m
    back m (inl old) = member_later (neg_ℤ l) r.after m ((r.same m).1 old)
    back m (inr is) = subst (Contains (neg_ℤ l ∷ r.after)) is (member_first (neg_ℤ l) r.after)

-- a false clause makes the empty clause a step
pub refuted : (clauses : List (List ℤ)) (taken : List ℤ) (n : ℕ) (c : List ℤ) → IsReached clauses taken → slice_get clauses n ≡ Some c → IsAllFalse (Contains taken) c → IsRefuted clauses
refuted clauses taken n c r at false' = (
  r.hints ++ n ∷ [],
  record {
    units = r.hints;
    last = n;
    after = r.after;
    split = refl;
    propagated = r.propagated;
    conflict = has_value (slice_get clauses n) (IsAllFalse (Contains r.after)) c at (λ k d within. (r.same (slice_index_or c k d)).1 (false' k d within));
  },
)

-- a clause is quiet where two of its literals are left
pub quiet_open : (Taken : ℤ → Type 0) (c : List ℤ) → HasTwoLeft Taken c → IsQuiet Taken c
quiet_open Taken c two = (
  λ all. two.one_left (All-contains Taken c two.one all two.one_stands),
  λ l unit. absurd (two.differ (unit.alone two.one two.one_stands two.one_left ∙ sym (unit.alone two.other two.other_stands two.other_left))),
)

-- a clause is quiet where the one literal that is left is true
pub quiet_unit : (Taken : ℤ → Type 0) (c : List ℤ) (l : ℤ) → IsUnit Taken c l → Taken (neg_ℤ l) → IsQuiet Taken c
quiet_unit Taken c l unit true' = (
  λ all. unit.left (All-contains Taken c l all unit.stands),
  λ k other. subst (λ m. Taken (neg_ℤ m)) (other.alone l unit.stands unit.left) true',
)

-- a quiet clause stays so while literals that it doesn't hold are taken
pub quiet_more : (taken : List ℤ) (m : ℤ) (c : List ℤ) → IsQuiet (Contains taken) c → ¬ (Contains c m) → IsQuiet (Contains (taken ++ m ∷ [])) c
quiet_more taken m c quiet out = (
  λ all. quiet.0 (λ k d within. was (slice_index_or c k d) (Contains-get_or c k d within) (all k d within)),
  λ l unit. Contains-append_left taken (m ∷ []) (neg_ℤ l) (quiet.1 l (record {
    stands = unit.stands;
    left = λ old. unit.left (Contains-append_left taken (m ∷ []) l old);
    alone = λ k there free. unit.alone k there (λ more. free (was k there more));
  })),
)
  where
    was : (k : ℤ) → Contains c k → Contains (taken ++ m ∷ []) k → Contains taken k
    was k there more = elim (Contains-push_cases taken m k more) [ inl old ↦ old | inr is ↦ absurd (out (subst (Contains c) (sym is) there)) ]

-- a unit clause is quiet once the negation of its one literal is taken, if it doesn't hold that
pub quiet_taken : (taken : List ℤ) (l : ℤ) (c : List ℤ) → IsUnit (Contains taken) c l → ¬ (Contains c (neg_ℤ l)) → IsQuiet (Contains (taken ++ neg_ℤ l ∷ [])) c
quiet_taken taken l c unit out = quiet_unit (Contains (taken ++ neg_ℤ l ∷ [])) c l (record {
  stands = unit.stands;
  left = λ more. elim (Contains-push_cases taken (neg_ℤ l) l more) [ inl old ↦ unit.left old | inr is ↦ out (subst (Contains c) (sym is) unit.stands) ];
  alone = λ k there free. unit.alone k there (λ old. free (Contains-append_left taken (neg_ℤ l ∷ []) k old));
}) (Contains-push taken (neg_ℤ l))

-- what waits after one more literal is taken
pub waiting-push : (t : TrailState) (l : ℤ) → t.followed ≤ length t.taken → waiting (record t { taken = t.taken ++ l ∷ [] }) ≡ waiting t ++ l ∷ []
waiting-push t l within = drop-append-le t.followed t.taken (l ∷ []) within

-- one more clause is seen
pub quiet_but_visited : (clauses : List (List ℤ)) (Before After : ℕ → Type 0) (old new : TrailState) (n : ℕ) (c : List ℤ) → slice_get clauses n ≡ Some c → ((k : ℕ) → ¬ (After k) → (¬ (Before k)) ⊎ (k ≡ n)) → IsQuietBut clauses Before old → IsVisited old new c → IsQuietBut clauses After new
quiet_but_visited clauses Before After old new n c at narrows s (inl (same, quiet)) = subst (IsQuietBut clauses After) (sym same) (record {
  reached = s.reached;
  within = s.within;
  quiet = λ k inside seen none. elim (narrows k seen) [
    | inl before ↦ s.quiet k inside before none
    | inr is ↦ subst (λ m. IsQuiet (Contains old.taken) (clause_at clauses m)) (sym is) (subst (IsQuiet (Contains old.taken)) (sym (get_or_from_slice_get clauses n c [] at)) quiet)
  ];
})
quiet_but_visited clauses Before After old new n c at narrows s (inr (l, unit, same)) = subst (IsQuietBut clauses After) (sym same) (record {
  reached = reached_more clauses old.taken n c l s.reached at unit;
  within = let was : old.followed ≤ length old.taken = s.within in omega (arith, length-append old.taken (neg_ℤ l ∷ []));
  quiet = λ k inside seen none. elim (narrows k seen) [
    | inl before ↦ quiet_more old.taken (neg_ℤ l) (clause_at clauses k)
        (s.quiet k inside before (λ m there waits. none m there (subst (λ (w : List ℤ). Contains w m) (sym (waiting-push old (neg_ℤ l) s.within)) (Contains-append_left (waiting old) (neg_ℤ l ∷ []) m waits))))
        (fresh k none)
    | inr is ↦ this k is (fresh k none)
  ];
})
  where
    fresh : (k : ℕ) → ((m : ℤ) → Contains (clause_at clauses k) m → ¬ (Contains (waiting (record old { taken = old.taken ++ neg_ℤ l ∷ [] })) m)) → ¬ (Contains (clause_at clauses k) (neg_ℤ l))
    fresh k none there = none (neg_ℤ l) there (subst (λ (w : List ℤ). Contains w (neg_ℤ l)) (sym (waiting-push old (neg_ℤ l) s.within)) (Contains-push (waiting old) (neg_ℤ l)))

    this : (k : ℕ) → k ≡ n → ¬ (Contains (clause_at clauses k) (neg_ℤ l)) → IsQuiet (Contains (old.taken ++ neg_ℤ l ∷ [])) (clause_at clauses k)
    this k is out =
        let same_clause : clause_at clauses k ≡ c = ap (clause_at clauses) is ∙ get_or_from_slice_get clauses n c [] at in
        subst (IsQuiet (Contains (old.taken ++ neg_ℤ l ∷ []))) (sym same_clause) (quiet_taken old.taken l c unit (λ there. out (subst (λ (d : List ℤ). Contains d (neg_ℤ l)) (sym same_clause) there)))

-- what hints take stays within what propagation took when it ended
pub within_complete : (clauses : List (List ℤ)) (Taken : ℤ → Type 0) (taken : List ℤ) (hints : List ℕ) (after : List ℤ) → IsComplete clauses Taken → Propagates clauses taken hints after → ((l : ℤ) → Contains taken l → Taken l) → (l : ℤ) → Contains after l → Taken l
within_complete clauses Taken taken [] after done is inside = λ l there. inside l (subst (λ (t : List ℤ). Contains t l) is there)
within_complete clauses Taken taken (h ∷ hs) after done (m, first, rest) inside = within_complete clauses Taken (neg_ℤ m ∷ taken) hs after done rest (λ l there. more l (member_cases (neg_ℤ m) taken l there))
  where
    at : (c : List ℤ) × (slice_get clauses h ≡ Some c) × IsUnit (Contains taken) c m
    at = value_of (slice_get clauses h) (λ c. IsUnit (Contains taken) c m) first

    quiet : IsQuiet Taken at.0
    quiet = subst (IsQuiet Taken) (get_or_from_slice_get clauses h at.0 [] at.1) (done h [] (slice_get_within clauses h at.0 at.1))

    all_but : (k : ℤ) → Contains at.0 k → ¬ (k ≡ m) → Taken k
    all_but k there differ = elim (contains_or_not taken k) [ inl old ↦ inside k old | inr free ↦ absurd (differ (at.2.alone k there free)) ]

    same_or_not : (k : ℤ) → (k ≡ m) ⊎ (¬ (k ≡ m))
    same_or_not k = holds_or_not _ (Decides-int_eq k m)

    left : ¬ (Taken m)
    left is_taken = quiet.0 (λ k d bound. elim (same_or_not (slice_index_or at.0 k d)) [ inl is ↦ subst Taken (sym is) is_taken | inr differ ↦ all_but (slice_index_or at.0 k d) (Contains-get_or at.0 k d bound) differ ])

    unit : IsUnit Taken at.0 m
    unit = record { stands = at.2.stands; left = left; alone = λ k there free. at.2.alone k there (λ old. free (inside k old)) }

    more : (l : ℤ) → (neg_ℤ m ≡ l) ⊎ Contains taken l → Taken l
    more l (inl is) = subst Taken is (quiet.1 m unit)
    more l (inr old) = inside l old

-- where unit propagation ended without a false clause no hints reach one
pub open_where_complete : (clauses : List (List ℤ)) (Taken : ℤ → Type 0) → IsComplete clauses Taken → IsOpen clauses
open_where_complete clauses Taken done hints r = (quiet at.0 at.1).0 (λ k d bound. within_complete clauses Taken [] r.units r.after done r.propagated (λ l (h : Contains [] l). let none : h.0 < 0 = h.1 in absurd (omega arith)) (slice_index_or at.0 k d) (at.2 k d bound))
  where
    at : (c : List ℤ) × (slice_get clauses r.last ≡ Some c) × IsAllFalse (Contains r.after) c
    at = value_of (slice_get clauses r.last) (IsAllFalse (Contains r.after)) r.conflict

    quiet : (c : List ℤ) → slice_get clauses r.last ≡ Some c → IsQuiet Taken c
    quiet c is = subst (IsQuiet Taken) (get_or_from_slice_get clauses r.last c [] is) (done r.last [] (slice_get_within clauses r.last c is))

-- nothing waits and nothing is unseen
pub quiet_but_open : (clauses : List (List ℤ)) (trail : TrailState) → IsQuietBut clauses (λ _. ⊥) trail → waiting trail ≡ [] → IsOpen clauses
quiet_but_open clauses trail s none = open_where_complete clauses (Contains trail.taken) (λ n d within. subst (IsQuiet (Contains trail.taken)) (same n d within) (s.quiet n within (λ h. h) (λ l there waits. nothing l (subst (λ (w : List ℤ). Contains w l) none waits))))
  where
    nothing : (l : ℤ) → ¬ (Contains [] l)
    nothing l h = let bound : h.0 < 0 = h.1 in absurd (omega arith)

    same : (n : ℕ) (d : List ℤ) → n < length clauses → clause_at clauses n ≡ slice_index_or clauses n d
    same n d within = get_or_default clauses n [] d within

-- nothing is taken and nothing is seen
pub quiet_but_first : (clauses : List (List ℤ)) (trail : TrailState) → trail.taken ≡ [] → trail.followed ≡ 0 → IsQuietBut clauses (λ k. 0 ≤ k) trail
quiet_but_first clauses trail none first = record {
  reached = subst (IsReached clauses) (sym none) (reached_none clauses);
  within = omega arith;
  quiet = λ n inside seen _. absurd (seen (omega arith));
}

-- fewer clauses are unseen than was said
pub quiet_but_fewer : (clauses : List (List ℤ)) (Before After : ℕ → Type 0) (trail : TrailState) → ((k : ℕ) → k < length clauses → ¬ (Before k)) → IsQuietBut clauses Before trail → IsQuietBut clauses After trail
quiet_but_fewer clauses Before After trail seen s = record {
  reached = s.reached;
  within = s.within;
  quiet = λ n inside _ none. s.quiet n inside (seen n inside) none;
}

-- the clauses in order: one more is seen
pub one_less : (n k : ℕ) → ¬ (n + 1 ≤ k) → (¬ (n ≤ k)) ⊎ (k ≡ n)
one_less n k later = elim (holds_or_not _ (Decides-eqb k n)) [ inl is ↦ inr is | inr differ ↦ inl (λ (h : n ≤ k). later (omega (arith, differ))) ]

-- the clauses of a list: one more is seen
pub one_less_listed : (n : ℕ) (rest : List ℕ) (k : ℕ) → ¬ (Contains rest k) → (¬ (Contains (n ∷ rest) k)) ⊎ (k ≡ n)
one_less_listed n rest k later = elim (holds_or_not _ (Decides-eqb k n)) [
  | inl is ↦ inr is
  | inr differ ↦ inl (λ there. elim (member_cases n rest k there) [ inl is ↦ differ (sym is) | inr after ↦ later after ])
]

-- the next literal is followed up: the clauses with that literal are unseen
pub quiet_but_next : (clauses : List (List ℤ)) (old new : TrailState) (l : ℤ) → IsQuietBut clauses (λ _. ⊥) old → waiting old ≡ l ∷ waiting new → new.taken ≡ old.taken → new.followed ≡ old.followed + 1 → IsQuietBut clauses (λ n. Contains (clause_at clauses n) l) new
quiet_but_next clauses old new l s next same further = record {
  reached = subst (IsReached clauses) (sym same) s.reached;
  within = omega (arith, ap length next, length-drop old.followed old.taken, ap length same);
  quiet = λ n inside out none. subst (λ (t : List ℤ). IsQuiet (Contains t) (clause_at clauses n)) (sym same) (s.quiet n inside (λ h. h) (λ m there waits. elim (member_cases l (waiting new) m (subst (λ (w : List ℤ). Contains w m) next waits)) [
    | inl is ↦ out (subst (Contains (clause_at clauses n)) (sym is) there)
    | inr later ↦ none m there later
  ]));
}

-- the clauses with a literal are listed under it: those that are not listed are seen
pub quiet_but_listed : (clauses : List (List ℤ)) (listing : Listing) (trail : TrailState) (l : ℤ) → ListsAll clauses (length clauses) listing → IsQuietBut clauses (λ n. Contains (clause_at clauses n) l) trail → IsQuietBut clauses (Contains (listed listing l)) trail
quiet_but_listed clauses listing trail l lists s = record {
  reached = s.reached;
  within = s.within;
  quiet = λ n inside out none. s.quiet n inside (λ there. out (All-contains (λ k. Contains (listed listing k) n) (clause_at clauses n) l (lists.all n inside) there)) none;
}
