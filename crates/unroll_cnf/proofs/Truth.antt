-- When the clauses over a few literals are satisfied.
use Rattle.std.proofs.Common.{◌≡◌, ℕ, zero, suc, ◌<◌, ◌≤◌, Bool, true, false, List, [], ◌∷◌, refl, sym, ap, ◌∙◌, true≢false, arith, length, get_or}
use Rattle.std.specs.Prelude.{ℤ, pos, negsuc, neg_ℤ, nat_abs, not, ◌||◌, ◌&&◌, ◌↔◌, Any, if◌then◌else◌}
use Rattle.std.proofs.lemmas.List.Elements.{All-cons, All-head, All-tail}
use Rattle.lll_core.specs.Tables.{are_equal}
use Rattle.rup_checker.specs.Formulas.{Assignment, truth, Satisfies}
use Rattle.unroll_cnf.specs.Clauses.{implication_clauses, equivalence_clauses, equality_clauses}

-- whether some literal of a clause is true, and some in each clause
abbrev pub some_true : Assignment → List ℤ → Bool
some_true v [] = false
some_true v (l ∷ clause) = truth v l || some_true v clause

abbrev pub all_true : Assignment → List (List ℤ) → Bool
all_true v [] = true
all_true v (c ∷ clauses) = some_true v c && all_true v clauses

module _ (v : Assignment) where
  or_cases : (a b : Bool) → (a || b) ≡ true → (a ≡ false → b ≡ true)
  or_cases true b e f = absurd (true≢false f)
  or_cases false b e f = e

  pub any_from : (clause : List ℤ) → some_true v clause ≡ true → Any (λ l. truth v l ≡ true) clause
  any_from [] e = absurd (true≢false (sym e))
  any_from (l ∷ clause) e = by (truth v l) refl (any_from clause)
    where
      by : (b : Bool) → truth v l ≡ b → (some_true v clause ≡ true → Any (λ m. truth v m ≡ true) clause) → Any (λ m. truth v m ≡ true) (l ∷ clause)
      by true is later = (0, l, omega arith, refl, is)
      by false is later =
          let rest = later (or_cases (truth v l) (some_true v clause) e is) in
          (suc rest.0, rest.1, omega (arith, rest.2), rest.3, rest.4)

  or_first : (a b : Bool) → a ≡ true → (a || b) ≡ true
  or_first true b e = refl
  or_first false b e = absurd (true≢false (sym e))

  or_second : (a b : Bool) → b ≡ true → (a || b) ≡ true
  or_second true b e = refl
  or_second false b e = e

  pub any_to : (clause : List ℤ) → Any (λ l. truth v l ≡ true) clause → some_true v clause ≡ true
  any_to [] some = absurd (omega (arith, some.2))
  any_to (l ∷ clause) some = by some.0 some.1 some.2 some.3 some.4 (any_to clause)
    where
      by : (k : ℕ) (x : ℤ) → k < length (l ∷ clause) → get_or (l ∷ clause) k x ≡ x → truth v x ≡ true
          → (Any (λ m. truth v m ≡ true) clause → some_true v clause ≡ true) → some_true v (l ∷ clause) ≡ true
      by zero x lt is holds later = or_first (truth v l) (some_true v clause) (ap (truth v) is ∙ holds)
      by (suc k) x lt is holds later = or_second (truth v l) (some_true v clause) (later (k, x, omega (arith, lt), is, holds))

  and_first : (a b : Bool) → (a && b) ≡ true → a ≡ true
  and_first true b e = refl
  and_first false b e = e

  and_second : (a b : Bool) → (a && b) ≡ true → b ≡ true
  and_second true b e = e
  and_second false b e = absurd (true≢false (sym e))

  and_both : (a b : Bool) → a ≡ true → b ≡ true → (a && b) ≡ true
  and_both true b e f = f
  and_both false b e f = e

  pub satisfied_from : (clauses : List (List ℤ)) → all_true v clauses ≡ true → Satisfies v clauses
  satisfied_from [] e = λ k d lt. absurd (omega (arith, lt))
  satisfied_from (c ∷ clauses) e = All-cons (Any (λ l. truth v l ≡ true)) c clauses
      (any_from c (and_first (some_true v c) (all_true v clauses) e)) (satisfied_from clauses (and_second (some_true v c) (all_true v clauses) e))

  pub satisfied_to : (clauses : List (List ℤ)) → Satisfies v clauses → all_true v clauses ≡ true
  satisfied_to [] s = refl
  satisfied_to (c ∷ clauses) s = and_both (some_true v c) (all_true v clauses)
      (any_to c (All-head (Any (λ l. truth v l ≡ true)) c clauses s)) (satisfied_to clauses (All-tail (Any (λ l. truth v l ≡ true)) c clauses s))

  not_not : (b : Bool) → b ≡ not (not b)
  not_not true = refl
  not_not false = refl

  -- the negation of a literal
  pub truth-neg : (l : ℤ) → 1 ≤ nat_abs l → truth v (neg_ℤ l) ≡ not (truth v l)
  truth-neg (pos zero) some = absurd (omega (arith, some))
  truth-neg (pos (suc n)) some = refl
  truth-neg (negsuc n) some = not_not (v (suc n))

  -- or not of one
  pub truth-signed : (b : Bool) (l : ℤ) → 1 ≤ nat_abs l → truth v (if b then neg_ℤ l else l) ≡ (if b then not (truth v l) else truth v l)
  truth-signed true l some = truth-neg l some
  truth-signed false l some = refl

-- ---- the truth values at which the clauses of a gate are satisfied

implication : (x a b : Bool) → ((x || (a || false)) && ((x || (not b || false)) && ((not x || (not a || (b || false))) && true))) ≡ true
    ↔ (x ≡ (not a || b))
implication true true true = (λ e. refl, λ e. refl)
implication true true false = (λ e. sym e, λ e. sym e)
implication true false true = (λ e. refl, λ e. refl)
implication true false false = (λ e. refl, λ e. refl)
implication false true true = (λ e. e, λ e. e)
implication false true false = (λ e. refl, λ e. refl)
implication false false true = (λ e. e, λ e. e)
implication false false false = (λ e. e, λ e. e)

equivalence : (x a b : Bool) → ((not x || (not a || (b || false))) && ((not x || (a || (not b || false))) && ((x || (a || (b || false))) && ((x || (not a || (not b || false))) && true)))) ≡ true
    ↔ (x ≡ are_equal a b)
equivalence true true true = (λ e. refl, λ e. refl)
equivalence true true false = (λ e. sym e, λ e. sym e)
equivalence true false true = (λ e. sym e, λ e. sym e)
equivalence true false false = (λ e. refl, λ e. refl)
equivalence false true true = (λ e. e, λ e. e)
equivalence false true false = (λ e. refl, λ e. refl)
equivalence false false true = (λ e. refl, λ e. refl)
equivalence false false false = (λ e. e, λ e. e)

equality : (x a : Bool) → ((x || (not a || false)) && ((not x || (a || false)) && true)) ≡ true ↔ (x ≡ a)
equality true true = (λ e. refl, λ e. refl)
equality true false = (λ e. sym e, λ e. sym e)
equality false true = (λ e. e, λ e. e)
equality false false = (λ e. refl, λ e. refl)

-- ---- the clauses of gates

module _ (v : Assignment) where
  -- what is said of the truth of clauses is said of their satisfaction
  when : (clauses : List (List ℤ)) (b : Bool) (P : Type 0) → all_true v clauses ≡ b → (b ≡ true) ↔ P → Satisfies v clauses ↔ P
  when clauses b P e iff = (λ s. iff.0 (sym e ∙ satisfied_to v clauses s), λ p. satisfied_from v clauses (e ∙ iff.1 p))

  pub unit_clause : (x : ℤ) → Satisfies v ((x ∷ []) ∷ []) ↔ (truth v x ≡ true)
  unit_clause x = when ((x ∷ []) ∷ []) (truth v x) (truth v x ≡ true) (by (truth v x)) (λ e. e, λ e. e)
    where
      by : (b : Bool) → ((b || false) && true) ≡ b
      by true = refl
      by false = refl

  pub implication_satisfied : (x a b : ℤ) → 1 ≤ nat_abs x → 1 ≤ nat_abs a → 1 ≤ nat_abs b
      → Satisfies v (implication_clauses x a b) ↔ (truth v x ≡ (not (truth v a) || truth v b))
  implication_satisfied x a b p q r =
      let n = truth-neg v x p in let m = truth-neg v a q in let k = truth-neg v b r in
      when (implication_clauses x a b) _ _ (rw (n, m, k) refl) (implication (truth v x) (truth v a) (truth v b))

  pub equivalence_satisfied : (x a b : ℤ) → 1 ≤ nat_abs x → 1 ≤ nat_abs a → 1 ≤ nat_abs b
      → Satisfies v (equivalence_clauses x a b) ↔ (truth v x ≡ are_equal (truth v a) (truth v b))
  equivalence_satisfied x a b p q r =
      let n = truth-neg v x p in let m = truth-neg v a q in let k = truth-neg v b r in
      when (equivalence_clauses x a b) _ _ (rw (n, m, k) refl) (equivalence (truth v x) (truth v a) (truth v b))

  pub equality_satisfied : (x a : ℤ) → 1 ≤ nat_abs x → 1 ≤ nat_abs a → Satisfies v (equality_clauses x a) ↔ (truth v x ≡ truth v a)
  equality_satisfied x a p q =
      let n = truth-neg v x p in let m = truth-neg v a q in
      when (equality_clauses x a) _ _ (rw (n, m) refl) (equality (truth v x) (truth v a))
