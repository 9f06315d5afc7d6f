-- What an accepted step means: every assignment that satisfies the clauses satisfies it.
use Rattle.std.proofs.Common.{◌≡◌, ◌+◌, ◌≤◌, ◌++◌, ◌∷◌, [], ℕ, zero, suc, List, length, take, inl, inr, sym, ap, subst, ◌∙◌, true≢false, append-nil, arith}
use Rattle.std.specs.Prelude.{◌⊎◌, ℤ, pos, negsuc, neg_ℤ, nat_abs, true, not, Some, All, Any, Contains, slice_get}
use Rattle.std.proofs.lemmas.List.{take_all}
use Rattle.std.proofs.lemmas.Option.{slice_get_within, get_or_from_slice_get}
use Rattle.std.proofs.lemmas.List.Elements.{All-get_or, All-push, All-contains, Contains-push}
use Rattle.rup_checker.specs.declared.log.Step.{Step}
use Rattle.rup_checker.specs.Formulas.{Cnf, IsLiteral, Assignment, truth, Satisfies, IsUnsatisfiable}
use Rattle.rup_checker.specs.Steps.{IsUnit, Propagates, Refutes, IsAccepted}
use Rattle.rup_checker.specs.Logs.{known, AreAccepted, Accepts}
use Rattle.rup_checker.proofs.LogLemmas.{known-take, known-push}
use Rattle.rup_checker.proofs.Sets.{value_of, same_or_not, member_cases, member_first, member_later, no_member}

-- some literal is true
abbrev pub IsTrueIn : Assignment → List ℤ → Type 0
IsTrueIn v clause = Any (λ l. truth v l ≡ true) clause

-- a member that is true
pub true_in : (v : Assignment) (clause : List ℤ) (l : ℤ) → Contains clause l → truth v l ≡ true → IsTrueIn v clause
true_in v clause l there is = (there.0, l, there.1, there.2, is)

-- a number is among others or not
pub member_or_not : (xs : List ℤ) (x : ℤ) → Contains xs x ⊎ ¬ (Contains xs x)
member_or_not [] x = inr (λ there. no_member x there)
member_or_not (y ∷ ys) x = elim (same_or_not y x) [
  | inl same ↦ inl (subst (Contains (y ∷ ys)) same (member_first y ys))
  | inr differs ↦ elim (member_or_not ys x) [
    | inl later ↦ inl (member_later y ys x later)
    | inr not_later ↦ inr (λ there. elim (member_cases y ys x there) [ inl first ↦ differs first | inr later ↦ not_later later ])
  ]
]

-- a literal and its negation are not both true
pub not_both : (v : Assignment) (l : ℤ) → 1 ≤ nat_abs l → truth v l ≡ true → truth v (neg_ℤ l) ≡ true → ⊥
not_both v (pos zero) some is is_not = absurd (omega (arith, some))
not_both v (pos (suc n)) some is is_not = true≢false (sym is_not ∙ ap not is)
not_both v (negsuc n) some is is_not = true≢false (sym is ∙ ap not is_not)

-- a literal of a clause with this number is true
pub true_at : (v : Assignment) (clauses : List (List ℤ)) (n : ℕ) (c : List ℤ) → Satisfies v clauses → slice_get clauses n ≡ Some c → IsTrueIn v c
true_at v clauses n c satisfied at = subst (IsTrueIn v) (get_or_from_slice_get clauses n c [] at) (All-get_or (IsTrueIn v) clauses n [] (slice_get_within clauses n c at) satisfied)

-- a literal of a clause with this number is in range
pub literal_at : (n : ℕ) (clauses : List (List ℤ)) (number : ℕ) (c : List ℤ) (l : ℤ) → All (All (IsLiteral n)) clauses → slice_get clauses number ≡ Some c → Contains c l → IsLiteral n l
literal_at n clauses number c l known at there =
    let all = subst (All (IsLiteral n)) (get_or_from_slice_get clauses number c [] at) (All-get_or (All (IsLiteral n)) clauses number [] (slice_get_within clauses number c at) known) in
    All-contains (IsLiteral n) c l all there

-- where a literal that was taken false along unit hints is true, one of the first was
pub propagation_sound : (v : Assignment) (n : ℕ) (clauses : List (List ℤ)) (taken : List ℤ) (hints : List ℕ) (after : List ℤ) → All (All (IsLiteral n)) clauses → Satisfies v clauses → Propagates clauses taken hints after → IsTrueIn v after → IsTrueIn v taken
propagation_sound v n clauses taken [] after known satisfied is some = subst (IsTrueIn v) is some
propagation_sound v n clauses taken (h ∷ hs) after known satisfied p some =
    let earlier = propagation_sound v n clauses (neg_ℤ p.0 ∷ taken) hs after known satisfied p.2 some in
    let l = p.0 in
    let clause = value_of (slice_get clauses h) (λ c. IsUnit (Contains taken) c l) p.1 in
    let sat = true_at v clauses h clause.0 satisfied clause.1 in
    let there : Contains (neg_ℤ l ∷ taken) earlier.1 = (earlier.0, earlier.2, earlier.3) in
    let stands : Contains clause.0 sat.1 = (sat.0, sat.2, sat.3) in
    elim (member_cases (neg_ℤ l) taken earlier.1 there) [
      | inr was ↦ true_in v taken earlier.1 was earlier.4
      | inl new ↦ elim (member_or_not taken sat.1) [
        | inl was ↦ true_in v taken sat.1 was sat.4
        | inr free ↦ absurd (not_both v l (literal_at n clauses h clause.0 l known clause.1 clause.2.stands).some (subst (λ (m : ℤ). truth v m ≡ true) (clause.2.alone sat.1 stands free) sat.4) (subst (λ (m : ℤ). truth v m ≡ true) (sym new) earlier.4))
      ]
    ]

-- a clause that follows by hints is satisfied where the clauses before it are
pub refutation_sound : (v : Assignment) (n : ℕ) (clauses : List (List ℤ)) (clause : List ℤ) (hints : List ℕ) → All (All (IsLiteral n)) clauses → Satisfies v clauses → Refutes clauses clause hints → IsTrueIn v clause
refutation_sound v n clauses clause hints known satisfied r =
    let last = value_of (slice_get clauses r.last) (All (Contains r.after)) r.conflict in
    let sat = true_at v clauses r.last last.0 satisfied last.1 in
    let stands : Contains last.0 sat.1 = (sat.0, sat.2, sat.3) in
    propagation_sound v n clauses clause r.units r.after known satisfied r.propagated (true_in v r.after sat.1 (All-contains (Contains r.after) last.0 sat.1 last.2 stands) sat.4)

-- the clauses with those of the first steps are in range, and satisfied where the formula is
pub steps_sound : (v : Assignment) (f : Cnf) (steps : List Step) (n : ℕ) → All (All (IsLiteral f.variables)) f.clauses → Satisfies v f.clauses → AreAccepted f steps → n ≤ length steps → All (All (IsLiteral f.variables)) (known f (take n steps)) × Satisfies v (known f (take n steps))
steps_sound v f steps zero in_range satisfied accepted within = (subst (All (All (IsLiteral f.variables))) (sym (append-nil f.clauses)) in_range, subst (Satisfies v) (sym (append-nil f.clauses)) satisfied)
steps_sound v f steps (suc n) in_range satisfied accepted within =
    let before = steps_sound v f steps n in_range satisfied accepted (omega (arith, within)) in
    let step = value_of (slice_get steps n) (λ s. IsAccepted f.variables (known f (take n steps)) s.clause s.hints) (accepted n (omega (arith, within))) in
    let follows = refutation_sound v f.variables (known f (take n steps)) step.0.clause step.0.hints before.0 before.1 step.2.refuted in
    let next : known f (take (suc n) steps) ≡ known f (take n steps) ++ step.0.clause ∷ [] =
    (let e : suc n ≡ n + 1 = omega arith in ap (λ (m : ℕ). known f (take m steps)) e) ∙ known-take f steps n step.0 (omega (arith, within)) ∙ ap (λ (s : Step). known f (take n steps) ++ s.clause ∷ []) (get_or_from_slice_get steps n step.0 step.0 step.1) in (
      subst (All (All (IsLiteral f.variables))) (sym next) (All-push (All (IsLiteral f.variables)) (known f (take n steps)) step.0.clause before.0 step.2.in_range),
      subst (Satisfies v) (sym next) (All-push (IsTrueIn v) (known f (take n steps)) step.0.clause before.1 follows),
    )

-- a formula with an accepted log is satisfied by nothing
pub log_sound : (f : Cnf) (steps : List Step) → All (All (IsLiteral f.variables)) f.clauses → Accepts f steps → IsUnsatisfiable f
log_sound f steps in_range accepts v satisfied =
    let all : Satisfies v (known f steps) = subst (λ (steps : List Step). Satisfies v (known f steps)) (take_all (length steps) steps (omega arith)) (steps_sound v f steps (length steps) in_range satisfied accepts.accepted (omega arith)).1 in
    let e = accepts.ended in
    let last : known f steps ≡ known f e.before ++ [] ∷ [] = ap (known f) e.split ∙ known-push f e.before e.last ∙ ap (λ (c : List ℤ). known f e.before ++ c ∷ []) e.empty in
    let none : IsTrueIn v [] = All-contains (IsTrueIn v) (known f steps) [] all (subst (λ (cs : List (List ℤ)). Contains cs []) (sym last) (Contains-push (known f e.before) [])) in
    omega (arith, none.2)
