-- How many clauses a formula has at most.
use Rattle.std.proofs.Common.{◌≡◌, ℕ, zero, suc, ◌+◌, ◌*◌, ◌^◌, ◌<◌, ◌≤◌, ◌==◌, Bool, true, false, List, [], ◌∷◌, ◌++◌, length, ap, arith, length-append}
use Rattle.std.proofs.Math.Nat.{suc-mul, mul-le-mul_right}
use Rattle.std.specs.Prelude.{ℤ, if◌then◌else◌}
use Rattle.std.proofs.lemmas.List.{length-map}
use Rattle.lll_core.specs.declared.signal.Signal.{Signal}
use Rattle.lll_core.specs.declared.signal.Signal.TheVariants.{One, Input, Latch, Imp, Eqv}
use Rattle.lll_core.specs.declared.lll.Lll.{Lll}
use Rattle.miter.specs.declared.parts.MiterLll.{MiterLll}
use Rattle.unroll_cnf.specs.Clauses.{literal_at, latch_clauses, signal_clauses, clauses_from}
use Rattle.unroll_cnf.specs.Unrollings.{Demands, opposite, demand_clauses, instant_clauses, unrolled_clauses, base_demands, step_demands, part_base_demands, part_step_demands, obligation, part}
use Rattle.kinduction.specs.Sizes.{RoundsFit, PartsFit, IsSmall, HasFewParts}

latch_count : (size : ℕ) (window : Bool) (instant : ℕ) (x : ℤ) (init next : ℕ) → length (latch_clauses size window instant x init next) ≤ 4
latch_count size true zero x init next = omega arith
latch_count size false zero x init next = omega arith
latch_count size window (suc before) x init next = omega arith

signal_count : (size : ℕ) (window : Bool) (instant number : ℕ) (s : Signal) → length (signal_clauses size window instant number s) ≤ 4
signal_count size window instant number One = omega arith
signal_count size window instant number (Input name) = omega arith
signal_count size window instant number (Latch name init next) = latch_count size window instant _ init next
signal_count size window instant number (Imp a b) = omega arith
signal_count size window instant number (Eqv a b) = omega arith

signals_count : (size : ℕ) (window : Bool) (instant number : ℕ) (signals : List Signal) → length (clauses_from size window instant number signals) ≤ 4 * length signals
signals_count size window instant number [] = omega arith
signals_count size window instant number (s ∷ signals) =
    omega (
      arith,
      length-append (signal_clauses size window instant number s) (clauses_from size window instant (number + 1) signals),
      signal_count size window instant number s,
      signals_count size window instant (number + 1) signals,
    )

module _ (signals : List Signal) (window : Bool) (demands : Demands) where
  -- so many clauses at each instant
  instant_count : (t d : ℕ) → length (demands t) ≤ d → length (instant_clauses signals window demands t) ≤ 4 * length signals + d
  instant_count t d few = omega (
    arith,
    length-append (clauses_from (length signals) window t 0 signals) (demand_clauses (length signals) t (demands t)),
    signals_count (length signals) window t 0 signals,
    length-map (demands t) (λ d. literal_at (length signals) t d ∷ []),
    few,
  )

  unrolled_count : (n d : ℕ) → ((t : ℕ) → length (demands t) ≤ d) → length (unrolled_clauses signals window demands n) ≤ n * (4 * length signals + d)
  unrolled_count zero d few = omega arith
  unrolled_count (suc n) d few = omega (
    arith,
    length-append (unrolled_clauses signals window demands n) (instant_clauses signals window demands n),
    unrolled_count n d few,
    instant_count n d (few n),
    suc-mul n (4 * length signals + d),
  )

-- ---- what is demanded

either_count : (b : Bool) (xs ys : List ℕ) (n : ℕ) → length xs ≤ n → length ys ≤ n → length (if b then xs else ys) ≤ n
either_count true xs ys n lx ly = lx
either_count false xs ys n lx ly = ly

module _ (l : Lll) (p : ℕ) where
  base_demanded : (j t : ℕ) → length (base_demands l p j t) ≤ length l.constraints + 3
  base_demanded j t = omega (arith, length-append l.constraints (if t == j then opposite p ∷ [] else []), either_count (t == j) (opposite p ∷ []) [] 1 (omega arith) (omega arith))

  step_demanded : (k t : ℕ) → length (step_demands l p k t) ≤ length l.constraints + 3
  step_demanded k t = omega (
    arith,
    length-append ((if t == 0 then l.keep ∷ [] else []) ++ l.assume ∷ l.constraints) ((if t == k then opposite p else p) ∷ []),
    length-append (if t == 0 then l.keep ∷ [] else []) (l.assume ∷ l.constraints),
    either_count (t == 0) (l.keep ∷ []) [] 1 (omega arith) (omega arith),
  )

-- ---- formulas

module _ (l : Lll) (p depth : ℕ) (small : IsSmall l depth) where
  abbrev each : ℕ
  each = 4 * length l.signals + length l.constraints + 3

  few_variables : (n : ℕ) → n ≤ depth + 1 → n * length l.signals ≤ 16000000
  few_variables n le = omega (arith, mul-le-mul_right (length l.signals) le, small.variables)

  few_clauses : (n count : ℕ) → n ≤ depth + 1 → count ≤ n * (4 * length l.signals + (length l.constraints + 3)) → count < 2 ^ 31
  few_clauses n count le at_most =
      let some = 4 * length l.signals + (length l.constraints + 3) in
      let same : some ≡ each = omega arith in
      let most : (depth + 1) * some ≡ (depth + 1) * each = ap (λ x. (depth + 1) * x) same in
      omega (arith, at_most, mul-le-mul_right some le, most, small.clauses)

  pub rounds_fit : RoundsFit l p depth
  rounds_fit j lt = (
    record {
      variables = few_variables (j + 1) (omega (arith, lt));
      clauses = few_clauses (j + 1) _ (omega (arith, lt)) (unrolled_count l.signals false (base_demands l (obligation l p) j) (j + 1) (length l.constraints + 3) (base_demanded l (obligation l p) j));
    },
    record {
      variables = few_variables (j + 1 + 1) (omega (arith, lt));
      clauses = few_clauses (j + 1 + 1) _ (omega (arith, lt)) (unrolled_count l.signals true (step_demands l (obligation l p) (j + 1)) (j + 1 + 1) (length l.constraints + 3) (step_demanded l (obligation l p) (j + 1)));
    },
  )

module _ (m : MiterLll) (few : HasFewParts m) where
  pub parts_fit : PartsFit m
  parts_fit i lt = (
    record {
      variables = omega (arith, few.variables);
      clauses = omega (arith, few.clauses, unrolled_count m.lll.signals false (part_base_demands m.lll (part m i)) 1 2 (λ t. omega arith));
    },
    record {
      variables = omega (arith, few.variables);
      clauses = omega (
        arith,
        few.clauses,
        length-append (instant_clauses m.lll.signals true (part_step_demands m.lll m.parts (part m i)) 0) (instant_clauses m.lll.signals true (part_step_demands m.lll m.parts (part m i)) 1),
        instant_count m.lll.signals true (part_step_demands m.lll m.parts (part m i)) 0 (length m.parts + 1) (omega arith),
        instant_count m.lll.signals true (part_step_demands m.lll m.parts (part m i)) 1 2 (omega arith),
      );
    },
  )
