-- There are no more busy steps than consistent sets of literals.
use Rattle.std.proofs.Common.{◌≡◌, ◌≢◌, ◌+◌, ◌*◌, ◌^◌, ◌<◌, ◌≤◌, ◌∷◌, [], ◌⊎◌, inl, inr, ℕ, zero, suc, List, refl, sym, subst, ◌∙◌, length, get_or, take, map, arith, true}
use Rattle.std.specs.Prelude.{ℤ, pos, negsuc, All, AllPairs, Contains, IsSomeAnd, slice_get, Option, Some}
use Rattle.std.specs.List.{list_any}
use Rattle.std.proofs.Math.Dec.{eqb}
use Rattle.std.proofs.Math.Nat.{pow-succ'}
use Rattle.std.proofs.lemmas.Bool.Decides.{Decides-eqb}
use Rattle.std.proofs.lemmas.List.{length-map}
use Rattle.std.proofs.lemmas.List.Elements.{All-contains, Contains-append_right}
use Rattle.std.proofs.lemmas.List.Folds.{Any-from_list_any}
use Rattle.std.proofs.lemmas.Map.Made.{IsDistinct-from_AllPairs}
use Rattle.std.proofs.lemmas.Map.Steps.{length-le_from_distinct_below}
use Rattle.rup_checker.specs.declared.log.Step.{Step}
use Rattle.rup_checker.specs.Formulas.{Cnf, IsLiteral}
use Rattle.rup_checker.specs.Logs.{known, added, IsBusy}
use Rattle.cdcl_solver.proofs.Members.{first_in, later_in, all_from_in, decide_in}
use Rattle.cdcl_solver.proofs.TrailParts.{IsConsistent}

-- 1 where the first holds, else 2 where the second does, else 0
abbrev digit_of : {P Q : Type 0} → P ⊎ (¬ P) → Q ⊎ (¬ Q) → ℕ
digit_of (inl p) q = 1
digit_of (inr n) (inl q) = 2
digit_of (inr n) (inr m) = 0

digit_of-le : {P Q : Type 0} (p : P ⊎ (¬ P)) (q : Q ⊎ (¬ Q)) → digit_of p q ≤ 2
digit_of-le (inl p) q = omega arith
digit_of-le (inr n) (inl q) = omega arith
digit_of-le (inr n) (inr m) = omega arith

first_digit : {P Q : Type 0} (p : P ⊎ (¬ P)) (q : Q ⊎ (¬ Q)) → P → digit_of p q ≡ 1
first_digit (inl p) q h = refl
first_digit (inr n) q h = absurd (n h)

second_digit : {P Q : Type 0} (p : P ⊎ (¬ P)) (q : Q ⊎ (¬ Q)) → ¬ P → Q → digit_of p q ≡ 2
second_digit (inl p) q not_first h = absurd (not_first p)
second_digit (inr n) (inl q) not_first h = refl
second_digit (inr n) (inr m) not_first h = absurd (m h)

first_from_digit : {P Q : Type 0} (p : P ⊎ (¬ P)) (q : Q ⊎ (¬ Q)) → digit_of p q ≡ 1 → P
first_from_digit (inl p) q e = p
first_from_digit (inr n) (inl q) e = absurd (omega (arith, e))
first_from_digit (inr n) (inr m) e = absurd (omega (arith, e))

second_from_digit : {P Q : Type 0} (p : P ⊎ (¬ P)) (q : Q ⊎ (¬ Q)) → digit_of p q ≡ 2 → Q
second_from_digit (inl p) q e = absurd (omega (arith, e))
second_from_digit (inr n) (inl q) e = q
second_from_digit (inr n) (inr m) e = absurd (omega (arith, e))

-- what a clause says of the variable v + 1: 1 for the variable, 2 for its negation, 0 for neither
digit : List ℤ → ℕ → ℕ
digit c v = digit_of (decide_in c (pos (suc v))) (decide_in c (negsuc v))

-- the digits of the first n variables as one number
code : List ℤ → ℕ → ℕ
code c zero = 0
code c (suc v) = 3 * code c v + digit c v

digit-le : (c : List ℤ) (v : ℕ) → digit c v ≤ 2
unfolding digit
digit-le c v = digit_of-le (decide_in c (pos (suc v))) (decide_in c (negsuc v))

code-lt : (c : List ℤ) (n : ℕ) → code c n < 3 ^ n
unfolding code
code-lt c zero = omega arith
code-lt c (suc v) = omega (arith, code-lt c v, digit-le c v, pow-succ' 3 v)

-- the last of two digits is the remainder
same_parts : (a b x y : ℕ) → x ≤ 2 → y ≤ 2 → 3 * a + x ≡ 3 * b + y → (a ≡ b) × (x ≡ y)
same_parts a b x y low high e = omega arith

-- clauses of one code have the same digits
digit-same : (c d : List ℤ) (n v : ℕ) → code c n ≡ code d n → v < n → digit c v ≡ digit d v
unfolding code
digit-same c d zero v e low = absurd (omega (arith, low))
digit-same c d (suc n) v e low =
    let parts = same_parts (code c n) (code d n) (digit c n) (digit d n) (digit-le c n) (digit-le d n) e in
    elim (last v n low) [
      | inl earlier ↦ digit-same c d n v parts.0 earlier
      | inr is ↦ subst (λ (w : ℕ). digit c w ≡ digit d w) (sym is) parts.1
    ]
  where
    last : (v n : ℕ) → v < suc n → (v < n) ⊎ (v ≡ n)
    last v n h = grind arith

-- a clause of literals of n variables with no complementary pair lies within each clause of its code
within_from_code : (n : ℕ) (c d : List ℤ) → IsConsistent c → code c n ≡ code d n → (l : ℤ) → IsLiteral n l → Contains c l → Contains d l
unfolding digit
within_from_code n c d consistent e (pos zero) lit here = absurd (omega (arith, lit.some))
within_from_code n c d consistent e (pos (suc v)) lit here =
    first_from_digit (decide_in d (pos (suc v))) (decide_in d (negsuc v))
    (sym (digit-same c d n v e lit.known) ∙ first_digit (decide_in c (pos (suc v))) (decide_in c (negsuc v)) here)
within_from_code n c d consistent e (negsuc v) lit here =
    second_from_digit (decide_in d (pos (suc v))) (decide_in d (negsuc v))
    (sym (digit-same c d n v e lit.known) ∙ second_digit (decide_in c (pos (suc v))) (decide_in c (negsuc v)) (consistent (negsuc v) here) here)

-- a step stands among those that are known before a later one
in_taken : (steps : List Step) (i j : ℕ) (s : Step) → i < j → slice_get steps i ≡ Some s → Contains (map (λ (t : Step). t.clause) (take j steps)) s.clause
in_taken [] i j s low is = cc
in_taken (t ∷ steps) i zero s low is = absurd (omega (arith, low))
in_taken (t ∷ steps) zero (suc j) s low is = subst (λ (r : Step). Contains (t.clause ∷ map (λ (t : Step). t.clause) (take j steps)) r.clause) (some_same is) (first_in t.clause _)
  where
    some_same : {X : Type 0} {x y : X} → ◌≡◌ {A = Option X} (Some x) (Some y) → x ≡ y
    some_same e = cc
in_taken (t ∷ steps) (suc i) (suc j) s low is = later_in t.clause _ s.clause (in_taken steps i j s (omega (arith, low)) is)

-- what holds of the value in a `Some`
at_some : {X : Type 0} (o : Option X) (P : X → Type 0) (x : X) → IsSomeAnd o P → o ≡ Some x → P x
at_some {X} o P x h is = subst (λ (p : Option X). IsSomeAnd p P) is h

-- two steps of a busy log have different codes
apart : (f : Cnf) (steps : List Step) → IsBusy f steps → (i j : ℕ) (s t : Step) → i < j → j < length steps
    → slice_get steps i ≡ Some s → slice_get steps j ≡ Some t → code s.clause f.variables ≢ code t.clause f.variables
apart f steps busy i j s t low high is_s is_t same =
    let new_s = at_some (slice_get steps i) _ s (busy.new i (omega (arith, low, high))) is_s in
    let new_t = at_some (slice_get steps j) _ t (busy.new j high) is_t in
    let accepted = at_some (slice_get steps i) _ s (busy.accepted i (omega (arith, low, high))) is_s in
    All-contains (λ c. ¬ (All (Contains t.clause) c)) (known f (take j steps)) s.clause new_t.minimal
    (Contains-append_right f.clauses (added (take j steps)) s.clause (in_taken steps i j s low is_s))
    (all_from_in (Contains t.clause) s.clause (λ l here. within_from_code f.variables s.clause t.clause new_s.consistent same l
    (All-contains (IsLiteral f.variables) s.clause l accepted.in_range here) here))

-- an element at a place, and what a function gives of it
element : {X : Type 0} (g : X → ℕ) (xs : List X) (i : ℕ) → i < length xs → (x : X) × (slice_get xs i ≡ Some x) × ((d : ℕ) → get_or (map g xs) i d ≡ g x)
element g [] i low = absurd (omega (arith, low))
element g (x ∷ xs) zero low = (x, refl, λ d. refl)
element g (x ∷ xs) (suc i) low = element g xs i (omega (arith, low))

-- numbers below a bound, no two of them equal, are no more than the bound
few : {X : Type 0} (g : X → ℕ) (bound : ℕ) (xs : List X) → ((x : X) → g x < bound)
    → ((i j : ℕ) (x y : X) → i < j → j < length xs → slice_get xs i ≡ Some x → slice_get xs j ≡ Some y → g x ≢ g y) → length xs ≤ bound
few {X} g bound xs low differ =
    subst (λ (n : ℕ). n ≤ bound) (length-map xs g)
    (length-le_from_distinct_below (map g xs) bound (IsDistinct-from_AllPairs Decides-eqb (map g xs) pairs) below)
  where
    size : length (map g xs) ≡ length xs
    size = length-map xs g

    pairs : AllPairs (λ x y. x ≢ y) (map g xs)
    pairs i j d before within e =
        let x = element g xs i (omega (arith, before, within, size)) in
        let y = element g xs j (omega (arith, within, size)) in
        differ i j x.0 y.0 before (omega (arith, within, size)) x.1 y.1 (sym (x.2 d) ∙ e ∙ y.2 d)

    below : (q : ℕ) → list_any (eqb q) (map g xs) ≡ true → q < bound
    below q found =
        let any = Any-from_list_any (eqb q) (map g xs) found in
        let x = element g xs any.0 (omega (arith, any.2, size)) in
        subst (λ (n : ℕ). n < bound) (sym (x.2 any.1) ∙ any.3 ∙ sym ((Decides-eqb q any.1).0 any.4)) (low x.0)

pub busy_short : (f : Cnf) (steps : List Step) → IsBusy f steps → length steps ≤ 3 ^ f.variables
busy_short f steps busy = few (λ (s : Step). code s.clause f.variables) (3 ^ f.variables) steps (λ s. code-lt s.clause f.variables) (apart f steps busy)
