-- A step has one answer.
use Rattle.std.proofs.Common.{◌≡◌, ◌++◌, ◌∷◌, [], ℕ, List, length, inl, inr, refl, sym, ap, subst, ◌∙◌, true≢false, arith}
use Rattle.std.specs.Prelude.{◌⊎◌, ℤ, neg_ℤ, Option, Some, None, is_none, IsTrue, ◌↔◌, IsSomeAnd, MatchOption, All, Contains, slice_get}
use Rattle.std.proofs.lemmas.List.Elements.{All-contains, All-head, All-tail, Contains-append_right}
use Rattle.rup_checker.specs.declared.fault.StepFault.{StepFault}
use Rattle.rup_checker.specs.declared.fault.StepFault.TheVariants as fault
use Rattle.rup_checker.specs.Formulas.{IsLiteral}
use Rattle.rup_checker.specs.Steps.{IsAllFalse, IsUnit, Propagates, Refutes, IsFirstOutside, Stops, IsPrevented}
use Rattle.rup_checker.proofs.Sets.{value_of, member_first}
use Rattle.rup_checker.proofs.Following.{false_not_unit}

-- the first hint is unit, and the rest leads on
abbrev pub GoesOn : List (List ℤ) → List ℤ → ℕ → List ℕ → (List ℤ → List ℕ → Type 0) → Type 0
GoesOn clauses taken h hs Rest = (l : ℤ) × IsSomeAnd (slice_get clauses h) (λ c. IsUnit (Contains taken) c l) × Rest (neg_ℤ l ∷ taken) hs

-- the equal heads and tails of equal lists
pub heads : {X : Type 0} (x y : X) (xs ys : List X) → x ∷ xs ≡ y ∷ ys → x ≡ y
heads {X} x y xs ys e = ap first e
  where
    first : List X → X
    first [] = x
    first (z ∷ zs) = z

-- the tails
pub tails : {X : Type 0} (x y : X) (xs ys : List X) → x ∷ xs ≡ y ∷ ys → xs ≡ ys
tails {X} x y xs ys e = ap rest e
  where
    rest : List X → List X
    rest [] = []
    rest (z ∷ zs) = zs

-- no list is both empty and not
pub not_empty : {X : Type 0} (x : X) (xs : List X) → [] ≡ x ∷ xs → ⊥
not_empty {X} x xs e = (let l : length {A = X} [] ≡ length (x ∷ xs) = ap length e in omega (arith, l))

-- what prevents a step stops it at once, or after its first hint
pub prevented_cases : (clauses : List (List ℤ)) (taken : List ℤ) (h : ℕ) (hs : List ℕ) (why : StepFault) → IsPrevented clauses taken (h ∷ hs) why → Stops clauses taken (h ∷ hs) why ⊎ GoesOn clauses taken h hs (λ taken hs. IsPrevented clauses taken hs why)
prevented_cases clauses taken h hs why p = go p.units p.rest p.after p.split p.propagated p.stopped
  where
    go : (units rest : List ℕ) (after : List ℤ) → h ∷ hs ≡ units ++ rest → Propagates clauses taken units after → Stops clauses after rest why → Stops clauses taken (h ∷ hs) why ⊎ GoesOn clauses taken h hs (λ taken hs. IsPrevented clauses taken hs why)
    go [] rest after split propagated stopped = inl (subst (λ (t : List ℤ). Stops clauses t (h ∷ hs) why) propagated (subst (λ (r : List ℕ). Stops clauses after r why) (sym split) stopped))
    go (u ∷ us) rest after split propagated stopped = inr (
      propagated.0,
      subst (λ (n : ℕ). IsSomeAnd (slice_get clauses n) (λ c. IsUnit (Contains taken) c propagated.0)) (sym (heads h u hs (us ++ rest) split)) propagated.1,
      record {
        units = us;
        rest = rest;
        after = after;
        split = tails h u hs (us ++ rest) split;
        propagated = propagated.2;
        stopped = stopped;
      },
    )

-- what prevents a step without hints
pub prevented_empty : (clauses : List (List ℤ)) (taken : List ℤ) (why : StepFault) → IsPrevented clauses taken [] why → why ≡ fault.NoConflict
prevented_empty clauses taken why p = go p.units p.rest p.after p.split p.stopped
  where
    go : (units rest : List ℕ) (after : List ℤ) → [] ≡ units ++ rest → Stops clauses after rest why → why ≡ fault.NoConflict
    go [] [] after split stopped = stopped
    go [] (r ∷ rs) after split stopped = absurd (not_empty r rs split)
    go (u ∷ us) rest after split stopped = absurd (not_empty u (us ++ rest) split)

-- a refutation is a false last hint, or goes on after its first
pub refutes_cases : (clauses : List (List ℤ)) (taken : List ℤ) (h : ℕ) (hs : List ℕ) → Refutes clauses taken (h ∷ hs) → ((hs ≡ []) × IsSomeAnd (slice_get clauses h) (IsAllFalse (Contains taken))) ⊎ GoesOn clauses taken h hs (Refutes clauses)
refutes_cases clauses taken h hs r = go r.units r.last r.after r.split r.propagated r.conflict
  where
    go : (units : List ℕ) (last : ℕ) (after : List ℤ) → h ∷ hs ≡ units ++ last ∷ [] → Propagates clauses taken units after → IsSomeAnd (slice_get clauses last) (IsAllFalse (Contains after)) → ((hs ≡ []) × IsSomeAnd (slice_get clauses h) (IsAllFalse (Contains taken))) ⊎ GoesOn clauses taken h hs (Refutes clauses)
    go [] last after split propagated conflict = inl (tails h last hs [] split, subst (λ (n : ℕ). IsSomeAnd (slice_get clauses n) (IsAllFalse (Contains taken))) (sym (heads h last hs [] split)) (subst (λ (t : List ℤ). IsSomeAnd (slice_get clauses last) (IsAllFalse (Contains t))) propagated conflict))
    go (u ∷ us) last after split propagated conflict = inr (
      propagated.0,
      subst (λ (n : ℕ). IsSomeAnd (slice_get clauses n) (λ c. IsUnit (Contains taken) c propagated.0)) (sym (heads h u hs (us ++ last ∷ []) split)) propagated.1,
      record {
        units = us;
        last = last;
        after = after;
        split = tails h u hs (us ++ last ∷ []) split;
        propagated = propagated.2;
        conflict = conflict;
      },
    )

-- without hints there is none
pub refutes_empty : (clauses : List (List ℤ)) (taken : List ℤ) → Refutes clauses taken [] → ⊥
refutes_empty clauses taken r = go r.units r.last r.split
  where
    go : (units : List ℕ) (last : ℕ) → [] ≡ units ++ last ∷ [] → ⊥
    go [] last split = not_empty last [] split
    go (u ∷ us) last split = not_empty u (us ++ last ∷ []) split

-- the literals of a hint that is unit twice
pub one_unit : (clauses : List (List ℤ)) (taken : List ℤ) (h : ℕ) (l m : ℤ) → IsSomeAnd (slice_get clauses h) (λ c. IsUnit (Contains taken) c l) → IsSomeAnd (slice_get clauses h) (λ c. IsUnit (Contains taken) c m) → l ≡ m
one_unit clauses taken h l m one other = go (slice_get clauses h) one other
  where
    go : (o : Option (List ℤ)) → IsSomeAnd o (λ c. IsUnit (Contains taken) c l) → IsSomeAnd o (λ c. IsUnit (Contains taken) c m) → l ≡ m
    go None one other = absurd one
    go (Some c) one other = other.alone l one.stands one.left

-- a hint that stops the step is not unit
pub stops_not_unit : (clauses : List (List ℤ)) (taken : List ℤ) (h : ℕ) (hs : List ℕ) (why : StepFault) (l : ℤ) → Stops clauses taken (h ∷ hs) why → IsSomeAnd (slice_get clauses h) (λ c. IsUnit (Contains taken) c l) → ⊥
stops_not_unit clauses taken h hs why l stops unit = go (slice_get clauses h) stops unit
  where
    go : (o : Option (List ℤ)) → MatchOption o (why ≡ fault.Unknown h) (λ c. (why ≡ fault.NotUnit h) × ((l : ℤ) → ¬ (IsUnit (Contains taken) c l)) × ¬ ((hs ≡ []) × IsAllFalse (Contains taken) c)) → IsSomeAnd o (λ c. IsUnit (Contains taken) c l) → ⊥
    go None stops unit = unit
    go (Some c) stops unit = stops.1 l unit

-- a hint that stops the step is no false last one
pub stops_not_false : (clauses : List (List ℤ)) (taken : List ℤ) (h : ℕ) (hs : List ℕ) (why : StepFault) → Stops clauses taken (h ∷ hs) why → hs ≡ [] → IsSomeAnd (slice_get clauses h) (IsAllFalse (Contains taken)) → ⊥
stops_not_false clauses taken h hs why stops last all = go (slice_get clauses h) stops all
  where
    go : (o : Option (List ℤ)) → MatchOption o (why ≡ fault.Unknown h) (λ c. (why ≡ fault.NotUnit h) × ((l : ℤ) → ¬ (IsUnit (Contains taken) c l)) × ¬ ((hs ≡ []) × IsAllFalse (Contains taken) c)) → IsSomeAnd o (IsAllFalse (Contains taken)) → ⊥
    go None stops all = all
    go (Some c) stops all = stops.2 (last, all)

-- a hint stops the step for one reason
pub one_stop : (clauses : List (List ℤ)) (taken : List ℤ) (h : ℕ) (hs : List ℕ) (one other : StepFault) → Stops clauses taken (h ∷ hs) one → Stops clauses taken (h ∷ hs) other → one ≡ other
one_stop clauses taken h hs one other a b = go (slice_get clauses h) a b
  where
    go : (o : Option (List ℤ)) → MatchOption o (one ≡ fault.Unknown h) (λ c. (one ≡ fault.NotUnit h) × ((l : ℤ) → ¬ (IsUnit (Contains taken) c l)) × ¬ ((hs ≡ []) × IsAllFalse (Contains taken) c)) → MatchOption o (other ≡ fault.Unknown h) (λ c. (other ≡ fault.NotUnit h) × ((l : ℤ) → ¬ (IsUnit (Contains taken) c l)) × ¬ ((hs ≡ []) × IsAllFalse (Contains taken) c)) → one ≡ other
    go None a b = a ∙ sym b
    go (Some c) a b = a.0 ∙ sym b.0

-- a step is prevented for one reason
pub one_prevention : (clauses : List (List ℤ)) (hints : List ℕ) (taken : List ℤ) (one other : StepFault) → IsPrevented clauses taken hints one → IsPrevented clauses taken hints other → one ≡ other
one_prevention clauses [] taken one other a b = prevented_empty clauses taken one a ∙ sym (prevented_empty clauses taken other b)
one_prevention clauses (h ∷ hs) taken one other a b = elim (prevented_cases clauses taken h hs one a) [
  | inl stops ↦ elim (prevented_cases clauses taken h hs other b) [
    | inl stops' ↦ one_stop clauses taken h hs one other stops stops'
    | inr on ↦ absurd (stops_not_unit clauses taken h hs one on.0 stops on.1)
  ]
  | inr on ↦ elim (prevented_cases clauses taken h hs other b) [
    | inl stops ↦ absurd (stops_not_unit clauses taken h hs other on.0 stops on.1)
    | inr on' ↦ one_prevention clauses hs (neg_ℤ on'.0 ∷ taken) one other (subst (λ (l : ℤ). IsPrevented clauses (neg_ℤ l ∷ taken) hs one) (one_unit clauses taken h on.0 on'.0 on.1 on'.1) on.2) on'.2
  ]
]

-- a step that its hints refute is not prevented
pub refuted_not_prevented : (clauses : List (List ℤ)) (hints : List ℕ) (taken : List ℤ) (why : StepFault) → Refutes clauses taken hints → IsPrevented clauses taken hints why → ⊥
refuted_not_prevented clauses [] taken why r p = refutes_empty clauses taken r
refuted_not_prevented clauses (h ∷ hs) taken why r p = elim (refutes_cases clauses taken h hs r) [
  | inl last ↦ elim (prevented_cases clauses taken h hs why p) [
    | inl stops ↦ stops_not_false clauses taken h hs why stops last.0 last.1
    | inr on ↦ (
        let c = value_of (slice_get clauses h) (IsAllFalse (Contains taken)) last.1 in
        let unit = subst (λ (o : Option (List ℤ)). IsSomeAnd o (λ c. IsUnit (Contains taken) c on.0)) c.1 on.1 in
        false_not_unit (Contains taken) c.0 on.0 c.2 unit)
  ]
  | inr on ↦ elim (prevented_cases clauses taken h hs why p) [
    | inl stops ↦ stops_not_unit clauses taken h hs why on.0 stops on.1
    | inr on' ↦ refuted_not_prevented clauses hs (neg_ℤ on'.0 ∷ taken) why (subst (λ (l : ℤ). Refutes clauses (neg_ℤ l ∷ taken) hs) (one_unit clauses taken h on.0 on'.0 on.1 on'.1) on.2) on'.2
  ]
]

-- a literal that is out of range stands in a clause
pub outside_stands : (n : ℕ) (clause : List ℤ) (l : ℤ) → IsFirstOutside n clause l → All (IsLiteral n) clause → ⊥
outside_stands n clause l first all = first.outside (All-contains (IsLiteral n) clause l all (subst (λ (xs : List ℤ). Contains xs l) (sym first.split) (Contains-append_right first.before (l ∷ first.after) l (member_first l first.after))))

-- the first literal that is out of range is one literal
pub one_outside : (n : ℕ) (before after before' after' : List ℤ) (l m : ℤ) → before ++ l ∷ after ≡ before' ++ m ∷ after' → All (IsLiteral n) before → All (IsLiteral n) before' → ¬ (IsLiteral n l) → ¬ (IsLiteral n m) → l ≡ m
one_outside n [] after [] after' l m split in_b in_b' out out' = heads l m after after' split
one_outside n [] after (y ∷ ys) after' l m split in_b in_b' out out' = absurd (out (subst (IsLiteral n) (sym (heads l y after (ys ++ m ∷ after') split)) (All-head (IsLiteral n) y ys in_b')))
one_outside n (x ∷ xs) after [] after' l m split in_b in_b' out out' = absurd (out' (subst (IsLiteral n) (heads x m (xs ++ l ∷ after) after' split) (All-head (IsLiteral n) x xs in_b)))
one_outside n (x ∷ xs) after (y ∷ ys) after' l m split in_b in_b' out out' = one_outside n xs after ys after' l m (tails x y (xs ++ l ∷ after) (ys ++ m ∷ after') split) (All-tail (IsLiteral n) x xs in_b) (All-tail (IsLiteral n) y ys in_b') out out'

-- no literal is out of range exactly where there is no first one
pub none_outside : (o : Option ℤ) (n : ℕ) (clause : List ℤ) → MatchOption o (All (IsLiteral n) clause) (IsFirstOutside n clause) → IsTrue (is_none o) ↔ All (IsLiteral n) clause
none_outside None n clause all = (λ _. all, λ _. refl)
none_outside (Some l) n clause first = (λ none. absurd (true≢false (sym none)), λ all. absurd (outside_stands n clause l first all))
