-- Which tables meet what each formula demands.
use Rattle.std.proofs.Common.{◌≡◌, ◌≢◌, ℕ, ◌+◌, ◌-◌, ◌/◌, ◌%◌, ◌<◌, ◌==◌, Bool, true, false, List, [], ◌∷◌, ◌++◌, length, get_or, Some, slice_get, refl, sym, ap, subst, ◌∙◌, inl, inr, true≢false, arith}
use Rattle.std.specs.Prelude.{not, All, if◌then◌else◌}
use Rattle.std.proofs.lemmas.List.Elements.{All-append, All-head, All-tail, All-cons}
use Rattle.std.proofs.lemmas.Bool.Decides.{eqb_tells}
use Rattle.std.proofs.lemmas.Option.{slice_get_within, slice_get-get_or, get_or_from_slice_get}
use Rattle.lll_core.specs.declared.lll.Lll.{Lll}
use Rattle.miter.specs.declared.parts.MiterLll.{MiterLll}
use Rattle.lll_core.specs.Signals.{signal_of, is_negated}
use Rattle.lll_core.specs.Tables.{Instant, Table, signal_value, value}
use Rattle.unroll_cnf.specs.Unrollings.{opposite, base_demands, step_demands, part_base_demands, part_step_demands, obligation, part}
use Rattle.unroll_cnf.specs.Counterexamples.{instant_at, IsAdmitted, IsCounterexample, IsInductionCounterexample, IsPartCounterexample, IsPartInductionCounterexample}
use Rattle.unroll_cnf.proofs.Instants.{Meets}
use Rattle.unroll_cnf.proofs.ListLemmas.{All-first, All-second, All-none, All-one}

-- ---- the opposite

-- a test of equal numbers
test_true : (a b : ℕ) → a ≡ b → (a == b) ≡ true
test_true a b e = elim (eqb_tells a b) [ inl same ↦ same.0 | inr differs ↦ absurd (differs.1 e) ]

test_false : (a b : ℕ) → a ≢ b → (a == b) ≡ false
test_false a b differ = elim (eqb_tells a b) [ inl same ↦ absurd (differ same.1) | inr differs ↦ differs.0 ]

-- the literal with the sign that its test gives
opposite-is : (p : ℕ) (b : Bool) → is_negated p ≡ b → opposite p ≡ (if b then p - 1 else p + 1)
opposite-is p b e = ap (λ c. if c then p - 1 else p + 1) e

value-is : (now : Instant) (d : ℕ) (b : Bool) (n : ℕ) → is_negated d ≡ b → signal_of d ≡ n → value now d ≡ (if b then not (signal_value now n) else signal_value now n)
value-is now d b n e f = ap (λ c. if c then not (signal_value now (signal_of d)) else signal_value now (signal_of d)) e
    ∙ ap (λ m. if b then not (signal_value now m) else signal_value now m) f

not_not : (b : Bool) → b ≡ not (not b)
not_not true = refl
not_not false = refl

pub signal_of-opposite : (p : ℕ) → signal_of (opposite p) ≡ signal_of p
signal_of-opposite p = elim (eqb_tells (p % 2) 1) [
  | inl same ↦ (let e : (p - 1) / 2 ≡ p / 2 = omega (arith, same.1) in ap signal_of (opposite-is p true same.0) ∙ e)
  | inr differs ↦ (let e : (p + 1) / 2 ≡ p / 2 = omega (arith, differs.1) in ap signal_of (opposite-is p false differs.0) ∙ e)
]

pub value-opposite : (now : Instant) (p : ℕ) → value now (opposite p) ≡ not (value now p)
value-opposite now p = elim (eqb_tells (p % 2) 1) [
  | inl same ↦
      (let e : (p - 1) / 2 ≡ p / 2 = omega (arith, same.1) in
      let f : (p - 1) % 2 ≢ 1 = λ h. omega (arith, same.1, h) in
      ap (value now) (opposite-is p true same.0) ∙ value-is now (p - 1) false (p / 2) (test_false ((p - 1) % 2) 1 f) e
      ∙ not_not (signal_value now (p / 2)) ∙ ap not (sym (value-is now p true (p / 2) same.0 refl)))
  | inr differs ↦
      (let e : (p + 1) / 2 ≡ p / 2 = omega (arith, differs.1) in
      let f : (p + 1) % 2 ≡ 1 = omega (arith, differs.1) in
      ap (value now) (opposite-is p false differs.0) ∙ value-is now (p + 1) true (p / 2) (test_true ((p + 1) % 2) 1 f) e
      ∙ ap not (sym (value-is now p false (p / 2) differs.0 refl)))
]

-- the opposite is true where the literal is false
pub false_from : (now : Instant) (p : ℕ) → value now (opposite p) ≡ true → value now p ≡ false
false_from now p e = not_not (value now p) ∙ ap not (sym (value-opposite now p) ∙ e)

pub true_from : (now : Instant) (p : ℕ) → value now p ≡ false → value now (opposite p) ≡ true
true_from now p e = value-opposite now p ∙ ap not e

-- ---- an instant

-- the literal is true
abbrev pub IsTrue_at : Instant → ℕ → Type 0
IsTrue_at now d = value now d ≡ true

module _ (l : Lll) (now : Instant) where
  admitted_to : (rest : List ℕ) → All (IsTrue_at now) (l.assume ∷ l.constraints ++ rest) → IsAdmitted l now
  admitted_to rest all = record {
    assumed = All-head (IsTrue_at now) l.assume (l.constraints ++ rest) all;
    constrained = All-first (IsTrue_at now) l.constraints rest (All-tail (IsTrue_at now) l.assume (l.constraints ++ rest) all);
  }

  admitted_from : (rest : List ℕ) → IsAdmitted l now → All (IsTrue_at now) rest → All (IsTrue_at now) (l.assume ∷ l.constraints ++ rest)
  admitted_from rest is all = All-cons (IsTrue_at now) l.assume (l.constraints ++ rest) is.assumed (All-append (IsTrue_at now) l.constraints rest is.constrained all)

  -- what stands behind assume and the constraints
  behind : (rest : List ℕ) → All (IsTrue_at now) (l.assume ∷ l.constraints ++ rest) → All (IsTrue_at now) rest
  behind rest all = All-second (IsTrue_at now) (l.assume ∷ l.constraints) rest all

  -- an instant of a base formula
  pub base_to : (p j t : ℕ) → All (IsTrue_at now) (base_demands l p j t) → IsAdmitted l now × (t ≡ j → value now p ≡ false)
  base_to p j t all = (
    admitted_to (if t == j then opposite p ∷ [] else []) all,
    λ e. false_from now p (All-head (IsTrue_at now) (opposite p) []
        (subst (λ b. All (IsTrue_at now) (if b then opposite p ∷ [] else [])) (test_true t j e) (behind (if t == j then opposite p ∷ [] else []) all))),
  )

  pub base_from : (p j t : ℕ) → IsAdmitted l now → (t ≡ j → value now p ≡ false) → All (IsTrue_at now) (base_demands l p j t)
  base_from p j t is broken = admitted_from (if t == j then opposite p ∷ [] else []) is
      (elim (eqb_tells t j) [
        | inl same ↦ subst (λ b. All (IsTrue_at now) (if b then opposite p ∷ [] else [])) (sym same.0) (All-one (IsTrue_at now) (opposite p) (true_from now p (broken same.1)))
        | inr differs ↦ subst (λ b. All (IsTrue_at now) (if b then opposite p ∷ [] else [])) (sym differs.0) (All-none (IsTrue_at now))
      ])

  -- an instant of a step formula
  pub record MeetsStep (p k t : ℕ) : Type 0 where
    pub kept : t ≡ 0 → value now l.keep ≡ true
    pub admitted : IsAdmitted l now
    pub held : t ≢ k → value now p ≡ true
    pub broken : t ≡ k → value now p ≡ false

  pub step_to : (p k t : ℕ) → All (IsTrue_at now) (step_demands l p k t) → MeetsStep p k t
  step_to p k t all =
      let first = λ (b : Bool). if b then l.keep ∷ [] else [] in
      let last = λ (b : Bool). (if b then opposite p else p) ∷ [] in
      let front = All-first (IsTrue_at now) (first (t == 0) ++ l.assume ∷ l.constraints) (last (t == k)) all in
      let own = All-head (IsTrue_at now) (if t == k then opposite p else p) [] (All-second (IsTrue_at now) (first (t == 0) ++ l.assume ∷ l.constraints) (last (t == k)) all) in
      let admitted = All-second (IsTrue_at now) (first (t == 0)) (l.assume ∷ l.constraints) front in
      record {
        kept = λ e. All-head (IsTrue_at now) l.keep [] (subst (λ b. All (IsTrue_at now) (if b then l.keep ∷ [] else [])) (test_true t 0 e)
            (All-first (IsTrue_at now) (first (t == 0)) (l.assume ∷ l.constraints) front));
        admitted = record {
          assumed = All-head (IsTrue_at now) l.assume l.constraints admitted;
          constrained = All-tail (IsTrue_at now) l.assume l.constraints admitted;
        };
        held = λ differ. subst (λ b. IsTrue_at now (if b then opposite p else p)) (test_false t k differ) own;
        broken = λ e. false_from now p (subst (λ b. IsTrue_at now (if b then opposite p else p)) (test_true t k e) own);
      }

  pub step_from : (p k t : ℕ) → MeetsStep p k t → All (IsTrue_at now) (step_demands l p k t)
  step_from p k t meets = All-append (IsTrue_at now) ((if t == 0 then l.keep ∷ [] else []) ++ l.assume ∷ l.constraints) ((if t == k then opposite p else p) ∷ [])
      (All-append (IsTrue_at now) (if t == 0 then l.keep ∷ [] else []) (l.assume ∷ l.constraints)
      (elim (eqb_tells t 0) [
        | inl same ↦ subst (λ b. All (IsTrue_at now) (if b then l.keep ∷ [] else [])) (sym same.0) (All-one (IsTrue_at now) l.keep (meets.kept same.1))
        | inr differs ↦ subst (λ b. All (IsTrue_at now) (if b then l.keep ∷ [] else [])) (sym differs.0) (All-none (IsTrue_at now))
      ])
      (All-cons (IsTrue_at now) l.assume l.constraints meets.admitted.assumed meets.admitted.constrained))
      (All-one (IsTrue_at now) (if t == k then opposite p else p)
      (elim (eqb_tells t k) [
        | inl same ↦ subst (λ b. IsTrue_at now (if b then opposite p else p)) (sym same.0) (true_from now p (meets.broken same.1))
        | inr differs ↦ subst (λ b. IsTrue_at now (if b then opposite p else p)) (sym differs.0) (meets.held differs.1)
      ]))

-- ---- tables

-- an instant by its number
at_number : (g : Table) (n t : ℕ) → length g ≡ n → t < n → slice_get g t ≡ Some (instant_at g t)
at_number g n t long lt = slice_get-get_or g t [] (omega (arith, long, lt))

is_instant : (g : Table) (t : ℕ) (now : Instant) → slice_get g t ≡ Some now → instant_at g t ≡ now
is_instant g t now at = get_or_from_slice_get g t now [] at

-- a fact of each instant, from the instants that are there
All-at : (P : Instant → Type 0) (g : Table) → ((t : ℕ) (now : Instant) → slice_get g t ≡ Some now → P now) → All P g
All-at P g each = λ t d lt. each t (get_or g t d) (slice_get-get_or g t d lt)

at-All : (P : Instant → Type 0) (g : Table) → All P g → (t : ℕ) (now : Instant) → slice_get g t ≡ Some now → P now
at-All P g all t now at = subst P (get_or_from_slice_get g t now now at) (all t now (slice_get_within g t now at))

module _ (l : Lll) (p j : ℕ) (g : Table) where
  pub is_counterexample : length g ≡ j + 1 → Meets l.signals false (base_demands l (obligation l p) j) g → IsCounterexample l p j g
  is_counterexample long meets = record {
    run = record { window = meets.equations; start = meets.start refl };
    long = long;
    admitted = All-at (IsAdmitted l) g (λ t now at. (base_to l now (obligation l p) j t (meets.demanded t now at)).0);
    broken = (base_to l (instant_at g j) (obligation l p) j j (meets.demanded j (instant_at g j) (at_number g (j + 1) j long (omega arith)))).1 refl;
  }

  pub counterexample_meets : IsCounterexample l p j g → Meets l.signals false (base_demands l (obligation l p) j) g
  counterexample_meets is = record {
    equations = is.run.window;
    start = λ e. is.run.start;
    demanded = λ t now at. base_from l now (obligation l p) j t (at-All (IsAdmitted l) g is.admitted t now at)
        (λ e. subst (λ x. value x (obligation l p) ≡ false) (ap (instant_at g) (sym e) ∙ is_instant g t now at) is.broken);
  }

  pub is_induction_counterexample : length g ≡ j + 1 → Meets l.signals true (step_demands l (obligation l p) j) g → IsInductionCounterexample l p j g
  is_induction_counterexample long meets =
      let step = λ (t : ℕ) (lt : t < j + 1). step_to l (instant_at g t) (obligation l p) j t (meets.demanded t (instant_at g t) (at_number g (j + 1) t long lt)) in
      record {
        window = meets.equations;
        long = long;
        kept = (step 0 (omega arith)).kept refl;
        admitted = All-at (IsAdmitted l) g (λ t now at. (step_to l now (obligation l p) j t (meets.demanded t now at)).admitted);
        held = λ t lt. (step t (omega (arith, lt))).held (λ e. omega (arith, lt, e));
        broken = (step j (omega arith)).broken refl;
      }

  pub induction_counterexample_meets : IsInductionCounterexample l p j g → Meets l.signals true (step_demands l (obligation l p) j) g
  induction_counterexample_meets is = record {
    equations = is.window;
    start = λ e. absurd (true≢false e);
    demanded = λ t now at.
        let there = slice_get_within g t now at in
        let now_is = is_instant g t now at in
        step_from l now (obligation l p) j t (record {
          kept = λ e. subst (λ x. value x l.keep ≡ true) (ap (instant_at g) (sym e) ∙ now_is) is.kept;
          admitted = at-All (IsAdmitted l) g is.admitted t now at;
          held = λ differ. subst (λ x. value x (obligation l p) ≡ true) now_is (is.held t (omega (arith, there, is.long, differ)));
          broken = λ e. subst (λ x. value x (obligation l p) ≡ false) (ap (instant_at g) (sym e) ∙ now_is) is.broken;
        });
  }

module _ (m : MiterLll) (i : ℕ) (g : Table) where
  pub is_part_counterexample : length g ≡ 1 → Meets m.lll.signals false (part_base_demands m.lll (part m i)) g → IsPartCounterexample m i g
  is_part_counterexample long meets =
      let now = instant_at g 0 in
      let all = meets.demanded 0 now (at_number g 1 0 long (omega arith)) in
      record {
        run = record { window = meets.equations; start = meets.start refl };
        long = long;
        assumed = All-head (IsTrue_at now) m.lll.assume (opposite (part m i) ∷ []) all;
        broken = false_from now (part m i) (All-head (IsTrue_at now) (opposite (part m i)) [] (All-tail (IsTrue_at now) m.lll.assume (opposite (part m i) ∷ []) all));
      }

  pub part_counterexample_meets : IsPartCounterexample m i g → Meets m.lll.signals false (part_base_demands m.lll (part m i)) g
  part_counterexample_meets is = record {
    equations = is.run.window;
    start = λ e. is.run.start;
    demanded = λ t now at.
        let there = slice_get_within g t now at in
        let e : 0 ≡ t = omega (arith, there, is.long) in
        let now_is = ap (instant_at g) e ∙ is_instant g t now at in
        All-cons (IsTrue_at now) m.lll.assume (opposite (part m i) ∷ []) (subst (λ x. value x m.lll.assume ≡ true) now_is is.assumed)
        (All-one (IsTrue_at now) (opposite (part m i)) (true_from now (part m i) (subst (λ x. value x (part m i) ≡ false) now_is is.broken)));
  }

  pub is_part_induction_counterexample : length g ≡ 2 → Meets m.lll.signals true (part_step_demands m.lll m.parts (part m i)) g → IsPartInductionCounterexample m i g
  is_part_induction_counterexample long meets =
      let last = instant_at g 1 in
      record {
        window = meets.equations;
        long = long;
        assumed = All-at (λ now. value now m.lll.assume ≡ true) g (λ t now at.
            All-head (IsTrue_at now) m.lll.assume (if t == 0 then m.parts else opposite (part m i) ∷ []) (meets.demanded t now at));
        held = All-tail (IsTrue_at (instant_at g 0)) m.lll.assume m.parts (meets.demanded 0 (instant_at g 0) (at_number g 2 0 long (omega arith)));
        broken = false_from last (part m i) (All-head (IsTrue_at last) (opposite (part m i)) []
            (All-tail (IsTrue_at last) m.lll.assume (opposite (part m i) ∷ []) (meets.demanded 1 last (at_number g 2 1 long (omega arith)))));
      }

  pub part_induction_counterexample_meets : IsPartInductionCounterexample m i g → Meets m.lll.signals true (part_step_demands m.lll m.parts (part m i)) g
  part_induction_counterexample_meets is = record {
    equations = is.window;
    start = λ e. absurd (true≢false e);
    demanded = λ t now at.
        let there = slice_get_within g t now at in
        All-cons (IsTrue_at now) m.lll.assume (if t == 0 then m.parts else opposite (part m i) ∷ []) (at-All (λ x. value x m.lll.assume ≡ true) g is.assumed t now at)
        (elim (eqb_tells t 0) [
          | inl same ↦ subst (λ b. All (IsTrue_at now) (if b then m.parts else opposite (part m i) ∷ [])) (sym same.0)
              (subst (λ x. All (IsTrue_at x) m.parts) (ap (instant_at g) (sym same.1) ∙ is_instant g t now at) is.held)
          | inr differs ↦ subst (λ b. All (IsTrue_at now) (if b then m.parts else opposite (part m i) ∷ [])) (sym differs.0)
              (All-one (IsTrue_at now) (opposite (part m i)) (true_from now (part m i)
              (let e : 1 ≡ t = omega (arith, there, is.long, differs.1) in subst (λ x. value x (part m i) ≡ false) (ap (instant_at g) e ∙ is_instant g t now at) is.broken)))
        ]);
  }
