-- Propagation along hints, one hint further.
use Rattle.std.proofs.Common.{◌≡◌, ◌+◌, ◌<◌, ◌≤◌, ◌++◌, ◌∷◌, [], ℕ, List, length, take, drop, get_or, inl, inr, refl, sym, ap, subst, ◌∙◌, append-nil, arith}
use Rattle.std.specs.Prelude.{◌⊎◌, ℤ, neg_ℤ, Option, Some, IsSomeAnd, MatchOption, All, Contains, slice_get}
use Rattle.std.proofs.lemmas.List.{take-append-drop, drop_more, take_more, take_all, length-drop}
use Rattle.std.proofs.lemmas.Option.{slice_get_past}
use Rattle.std.proofs.Math.IntN.{neg_ℤ-neg_ℤ}
use Rattle.std.proofs.lemmas.List.Elements.{All-contains, Contains-push, Contains-push_cases, Contains-append_left}
use Rattle.rup_checker.specs.declared.fault.StepFault.{StepFault}
use Rattle.rup_checker.specs.declared.fault.StepFault.TheVariants as fault
use Rattle.rup_checker.specs.Formulas.{IsLiteral}
use Rattle.rup_checker.specs.Steps.{IsAllFalse, IsUnit, Propagates, Refutes, Stops, IsPrevented}
use Rattle.rup_checker.specs.Marks.{LiteralMarks, IsMarked, Marks, HasTwoLeft, IsHinted}
use Rattle.rup_checker.proofs.Statuses.{Contains-take}
use Rattle.rup_checker.proofs.Sets.{has_value, same_or_not, Inserts, marks-cons}

-- one hint more that is unit
pub propagates-push : (clauses : List (List ℤ)) (taken : List ℤ) (hints : List ℕ) (after : List ℤ) (hint : ℕ) (c : List ℤ) (x : ℤ) → Propagates clauses taken hints after → slice_get clauses hint ≡ Some c → IsUnit (Contains after) c x → Propagates clauses taken (hints ++ hint ∷ []) (neg_ℤ x ∷ after)
propagates-push clauses taken [] after hint c x is at unit =
    (x, has_value (slice_get clauses hint) (λ c. IsUnit (Contains taken) c x) c at (subst (λ (list : List ℤ). IsUnit (Contains list) c x) is unit), ap (λ (list : List ℤ). neg_ℤ x ∷ list) is)
propagates-push clauses taken (h ∷ hs) after hint c x is at unit = (is.0, is.1, propagates-push clauses (neg_ℤ is.0 ∷ taken) hs after hint c x is.2 at unit)

-- a clause stands to a set of marks as to the list that it marks
pub unit-marks : (marks : LiteralMarks) (list c : List ℤ) (x : ℤ) → Marks marks list → All (IsLiteral marks.variables) c → IsUnit (IsMarked marks) c x → IsUnit (Contains list) c x
unit-marks marks list c x same known unit = record {
  stands = unit.stands;
  left = λ there. unit.left ((same x (All-contains (IsLiteral marks.variables) c x known unit.stands)).1 there);
  alone = λ m there free. unit.alone m there (λ marked. free ((same m (All-contains (IsLiteral marks.variables) c m known there)).0 marked));
}

-- and the other way round
pub unit-listed : (marks : LiteralMarks) (list c : List ℤ) (x : ℤ) → Marks marks list → All (IsLiteral marks.variables) c → IsUnit (Contains list) c x → IsUnit (IsMarked marks) c x
unit-listed marks list c x same known unit = record {
  stands = unit.stands;
  left = λ marked. unit.left ((same x (All-contains (IsLiteral marks.variables) c x known unit.stands)).0 marked);
  alone = λ m there free. unit.alone m there (λ l. free ((same m (All-contains (IsLiteral marks.variables) c m known there)).1 l));
}

-- a clause whose literals are all marked is false
pub false-marks : (marks : LiteralMarks) (list c : List ℤ) → Marks marks list → All (IsLiteral marks.variables) c → IsAllFalse (IsMarked marks) c → IsAllFalse (Contains list) c
false-marks marks list c same known all k d h = (same (get_or c k d) (known k d h)).0 (all k d h)

-- and the other way round
pub false-listed : (marks : LiteralMarks) (list c : List ℤ) → Marks marks list → All (IsLiteral marks.variables) c → IsAllFalse (Contains list) c → IsAllFalse (IsMarked marks) c
false-listed marks list c same known all k d h = (same (get_or c k d) (known k d h)).1 (all k d h)

-- the last hint is false
pub refutes-last : (clauses : List (List ℤ)) (list : List ℤ) (hints : List ℕ) (i : ℕ) (after c : List ℤ) → i + 1 ≡ length hints → Propagates clauses list (take i hints) after → slice_get clauses (get_or hints i 0) ≡ Some c → IsAllFalse (Contains after) c → Refutes clauses list hints
refutes-last clauses list hints i after c last propagated at all = record {
  units = take i hints;
  last = get_or hints i 0;
  after = after;
  split = sym (take_all (i + 1) hints (omega (arith, last))) ∙ take_more hints i 0 (omega (arith, last));
  propagated = propagated;
  conflict = has_value (slice_get clauses (get_or hints i 0)) (IsAllFalse (Contains after)) c at all;
}

-- the next hint prevents the step
pub prevented-at : (clauses : List (List ℤ)) (list : List ℤ) (hints : List ℕ) (i : ℕ) (after : List ℤ) (why : StepFault) → i < length hints → Propagates clauses list (take i hints) after → Stops clauses after (get_or hints i 0 ∷ drop (i + 1) hints) why → IsPrevented clauses list hints why
prevented-at clauses list hints i after why within propagated stops = record {
  units = take i hints;
  rest = drop i hints;
  after = after;
  split = sym (take-append-drop i hints);
  propagated = propagated;
  stopped = subst (λ (rest : List ℕ). Stops clauses after rest why) (sym (drop_more hints i 0 within)) stops;
}

-- there are no hints left
pub prevented-end : (clauses : List (List ℤ)) (list : List ℤ) (hints : List ℕ) (i : ℕ) (after : List ℤ) → length hints ≤ i → Propagates clauses list (take i hints) after → IsPrevented clauses list hints fault.NoConflict
prevented-end clauses list hints i after past propagated = record {
  units = take i hints;
  rest = [];
  after = after;
  split = sym (take_all i hints past) ∙ sym (append-nil (take i hints));
  propagated = propagated;
  stopped = refl;
}

-- the marks came from those of a list by unit hints, and are those of what it became
abbrev pub Followed : List (List ℤ) → LiteralMarks → LiteralMarks → List ℕ → Type 0
Followed clauses old new hints = (list : List ℤ) → Marks old list → (after : List ℤ) × Propagates clauses list hints after × Marks new after

-- one hint further, which is unit
pub followed-push : (clauses : List (List ℤ)) (old now new : LiteralMarks) (hints : List ℕ) (i : ℕ) (d : ℕ) (c : List ℤ) (x : ℤ) → i < length hints → Followed clauses old now (take i hints) → slice_get clauses (get_or hints i d) ≡ Some c → All (IsLiteral now.variables) c → IsUnit (IsMarked now) c x → Inserts now new (neg_ℤ x) → Followed clauses old new (take (i + 1) hints)
followed-push clauses old now new hints i d c x within followed at known unit inserts list marks =
    let so_far = followed list marks in
    let after = so_far.0 in
    let unit_listed = unit-marks now after c x so_far.2 known unit in (
      neg_ℤ x ∷ after,
      subst (λ (hs : List ℕ). Propagates clauses list hs (neg_ℤ x ∷ after)) (sym (take_more hints i d within)) (propagates-push clauses list (take i hints) after (get_or hints i d) c x so_far.1 at unit_listed),
      marks-cons now new (neg_ℤ x) after inserts so_far.2,
    )

-- the last hint is false
pub followed-refutes : (clauses : List (List ℤ)) (old now : LiteralMarks) (hints : List ℕ) (i : ℕ) (c : List ℤ) → i + 1 ≡ length hints → Followed clauses old now (take i hints) → slice_get clauses (get_or hints i 0) ≡ Some c → All (IsLiteral now.variables) c → IsAllFalse (IsMarked now) c → (list : List ℤ) → Marks old list → Refutes clauses list hints
followed-refutes clauses old now hints i c last followed at known all list marks =
    let so_far = followed list marks in
    refutes-last clauses list hints i so_far.0 c last so_far.1 at (false-marks now so_far.0 c so_far.2 known all)

-- the hint names no clause
pub followed-unknown : (clauses : List (List ℤ)) (old now : LiteralMarks) (hints : List ℕ) (i : ℕ) → i < length hints → Followed clauses old now (take i hints) → length clauses ≤ get_or hints i 0 → (list : List ℤ) → Marks old list → IsPrevented clauses list hints (fault.Unknown (get_or hints i 0))
followed-unknown clauses old now hints i within followed past list marks =
    let so_far = followed list marks in
    prevented-at clauses list hints i so_far.0 (fault.Unknown (get_or hints i 0)) within so_far.1
    (subst (λ (o : Option (List ℤ)). MatchOption o (fault.Unknown (get_or hints i 0) ≡ fault.Unknown (get_or hints i 0)) (λ c. (fault.Unknown (get_or hints i 0) ≡ fault.NotUnit (get_or hints i 0)) × ((l : ℤ) → ¬ (IsUnit (Contains so_far.0) c l)) × ¬ ((drop (i + 1) hints ≡ []) × IsAllFalse (Contains so_far.0) c))) (sym (slice_get_past clauses (get_or hints i 0) past)) refl)

-- the hint is neither unit nor a false last one
pub followed-stuck : (clauses : List (List ℤ)) (old now : LiteralMarks) (hints : List ℕ) (i : ℕ) (c : List ℤ) → i < length hints → Followed clauses old now (take i hints) → slice_get clauses (get_or hints i 0) ≡ Some c → All (IsLiteral now.variables) c → ((l : ℤ) → ¬ (IsUnit (IsMarked now) c l)) → ¬ ((i + 1 ≡ length hints) × IsAllFalse (IsMarked now) c) → (list : List ℤ) → Marks old list → IsPrevented clauses list hints (fault.NotUnit (get_or hints i 0))
followed-stuck clauses old now hints i c within followed at known not_unit not_last list marks =
    let so_far = followed list marks in
    let h = get_or hints i 0 in
    let after = so_far.0 in
    prevented-at clauses list hints i after (fault.NotUnit h) within so_far.1
    (subst (λ (o : Option (List ℤ)). MatchOption o (fault.NotUnit h ≡ fault.Unknown h) (λ c. (fault.NotUnit h ≡ fault.NotUnit h) × ((l : ℤ) → ¬ (IsUnit (Contains after) c l)) × ¬ ((drop (i + 1) hints ≡ []) × IsAllFalse (Contains after) c))) (sym at) (
      refl,
      λ l unit. not_unit l (unit-listed now after c l so_far.2 known unit),
      λ both. not_last (ends_at_last hints i within both.0, false-listed now after c so_far.2 known both.1),
    ))
  where
    ends_at_last : (hints : List ℕ) (i : ℕ) → i < length hints → drop (i + 1) hints ≡ [] → i + 1 ≡ length hints
    ends_at_last hints i within none = (let l = length-drop (i + 1) hints in let z : length (drop (i + 1) hints) ≡ 0 = ap length none in omega (arith, l, z, within))

-- the hints are done
pub followed-done : (clauses : List (List ℤ)) (old now : LiteralMarks) (hints : List ℕ) (i : ℕ) → length hints ≤ i → Followed clauses old now (take i hints) → (list : List ℤ) → Marks old list → IsPrevented clauses list hints fault.NoConflict
followed-done clauses old now hints i past followed list marks =
    let so_far = followed list marks in
    prevented-end clauses list hints i so_far.0 past so_far.1

-- a false clause isn't unit
pub false_not_unit : (Taken : ℤ → Type 0) (c : List ℤ) (l : ℤ) → IsAllFalse Taken c → ¬ (IsUnit Taken c l)
false_not_unit Taken c l all unit = unit.left (All-contains Taken c l all unit.stands)

-- nor is one with two literals left
pub open_not_unit : (Taken : ℤ → Type 0) (c : List ℤ) (l : ℤ) → HasTwoLeft Taken c → ¬ (IsUnit Taken c l)
open_not_unit Taken c l two unit = two.differ (unit.alone two.one two.one_stands two.one_left ∙ sym (unit.alone two.other two.other_stands two.other_left))

-- nor is it false
pub open_not_false : (Taken : ℤ → Type 0) (c : List ℤ) → HasTwoLeft Taken c → ¬ (IsAllFalse Taken c)
open_not_false Taken c two all = two.one_left (All-contains Taken c two.one all two.one_stands)

-- what is hinted by the first hints is hinted by more
pub hinted-more : (clauses : List (List ℤ)) (hints : List ℕ) (i : ℕ) (l : ℤ) → i < length hints → IsHinted clauses (take i hints) l → IsHinted clauses (take (i + 1) hints) l
hinted-more clauses hints i l within hinted = (hinted.0, subst (λ (hs : List ℕ). Contains hs hinted.0) (sym (take_more hints i 0 within)) (Contains-append_left (take i hints) (get_or hints i 0 ∷ []) hinted.0 hinted.1), hinted.2)

-- a literal that is newly marked stands negated in a hinted clause
pub hinted-push : (clauses : List (List ℤ)) (old now new : LiteralMarks) (hints : List ℕ) (i : ℕ) (c : List ℤ) (x : ℤ) → i < length hints → slice_get clauses (get_or hints i 0) ≡ Some c → Contains c x → Inserts now new (neg_ℤ x) → (l : ℤ) → IsLiteral now.variables l → (IsMarked now l → IsMarked old l ⊎ IsHinted clauses (take i hints) (neg_ℤ l)) → IsMarked new l → IsMarked old l ⊎ IsHinted clauses (take (i + 1) hints) (neg_ℤ l)
hinted-push clauses old now new hints i c x within at stands inserts l known before marked = elim (same_or_not l (neg_ℤ x)) [
  | inl e ↦ inr (get_or hints i 0, subst (λ (hs : List ℕ). Contains hs (get_or hints i 0)) (sym (take_more hints i 0 within)) (Contains-push (take i hints) (get_or hints i 0)), has_value (slice_get clauses (get_or hints i 0)) (λ c. Contains c (neg_ℤ l)) c at (subst (Contains c) (sym (ap neg_ℤ e ∙ neg_ℤ-neg_ℤ x)) stands))
  | inr differs ↦ elim (before ((inserts.others l known differs).0 marked)) [ inl was ↦ inl was | inr hinted ↦ inr (hinted-more clauses hints i (neg_ℤ l) within hinted) ]
]

-- what is hinted by the first hints is hinted by all
pub hinted-all : (clauses : List (List ℤ)) (hints : List ℕ) (i : ℕ) (l : ℤ) → IsHinted clauses (take i hints) l → IsHinted clauses hints l
hinted-all clauses hints i l hinted = (hinted.0, Contains-take hints i hinted.0 hinted.1, hinted.2)

-- a hint more, whose clause does not hold the literal
pub not_hinted-push : (clauses : List (List ℤ)) (hints : List ℕ) (i : ℕ) (c : List ℤ) (l : ℤ) → i < length hints → slice_get clauses (get_or hints i 0) ≡ Some c → ¬ (Contains c l) → ¬ (IsHinted clauses (take i hints) l) → ¬ (IsHinted clauses (take (i + 1) hints) l)
not_hinted-push clauses hints i c l within at apart before hinted = elim (Contains-push_cases (take i hints) (get_or hints i 0) hinted.0 (subst (λ (hs : List ℕ). Contains hs hinted.0) (take_more hints i 0 within) hinted.1)) [
  | inl earlier ↦ before (hinted.0, earlier, hinted.2)
  | inr same ↦ (let there = subst (λ (o : Option (List ℤ)). IsSomeAnd o (λ c. Contains c l)) (ap (slice_get clauses) (sym same) ∙ at) hinted.2 in apart there)
]

-- a hint more that names no clause
pub not_hinted-past : (clauses : List (List ℤ)) (hints : List ℕ) (i : ℕ) (l : ℤ) → i < length hints → length clauses ≤ get_or hints i 0 → ¬ (IsHinted clauses (take i hints) l) → ¬ (IsHinted clauses (take (i + 1) hints) l)
not_hinted-past clauses hints i l within past before hinted = elim (Contains-push_cases (take i hints) (get_or hints i 0) hinted.0 (subst (λ (hs : List ℕ). Contains hs hinted.0) (take_more hints i 0 within) hinted.1)) [
  | inl earlier ↦ before (hinted.0, earlier, hinted.2)
  | inr same ↦ subst (λ (o : Option (List ℤ)). IsSomeAnd o (λ c. Contains c l)) (ap (slice_get clauses) (sym same) ∙ slice_get_past clauses (get_or hints i 0) past) hinted.2
]
