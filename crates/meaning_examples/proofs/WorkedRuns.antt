-- The runs among the worked examples.
use Rattle.std.proofs.Common.{◌≡◌, ℕ, zero, suc, ◌+◌, ◌<◌, ℤ, pos, Some, unwrap_or, true, false, ◌-◌, ◌≤◌, List, [], ◌∷◌, length, drop, Contains, codes, refl, sym, ap, subst, ◌∙◌, arith}
use Rattle.std.specs.List.{AllByRecursion}
use Rattle.hll_tree.specs.declared.tree.Def.{Def}
use Rattle.hll_tree.specs.declared.tree.Expr.{Expr}
use Rattle.hll_tree.specs.declared.tree.Form.{Form-F}
use Rattle.hll_tree.specs.declared.tree.HllModel.{HllModel}
use Rattle.hll_tree.specs.declared.tree.Part.TheVariants as part
use Rattle.hll_meaning.specs.Kinds.{Kind, Value, truth, whole, array}
use Rattle.hll_meaning.specs.Names.{under}
use Rattle.hll_meaning.specs.Values.{History, number, is_true}
use Rattle.hll_meaning.specs.Runs.{Element, AreOfKinds, DefinesAll, IsRun, definitions, variables, has_at, given_at, is_true_at, last_time, Meets, Breaks, scene}
use Rattle.meaning_examples.specs.Examples.{int, define, counter, two_steps, defining, in_two, in_one, counted_on, table, table_row, table_definition, tabled, with_constraints, input_a, pre, bool, of_a, CounterStartsAgain, CounterHasOneRun, OneDefinitionOrTwo, TableIsFilled, TableHasOneRun, BrokenUnderConstraints, ConstraintsCountAtEachInstant, BrokenAtOnce, BrokenAtTheSecondInstant, OnlyTheLastInstantCounts}
use Rattle.meaning_examples.proofs.Worked.{worth_layer, worked}

true_false : true ≡ false → ⊥
true_false h = cc

-- what is defined of a variable is so at its kind
of_its_kind : (m : HllModel) (h : History) (d : Def) (j k : Kind) (n : List ℕ) →
    under n (variables m) ≡ Some j → under n (variables m) ≡ Some k → DefinesAll m h d j → DefinesAll m h d k
of_its_kind m h d j k n this is defined = subst (λ k. DefinesAll m h d k) (ap (λ o. unwrap_or o j) (sym this ∙ is)) defined

-- ---- the counter

abbrev c_kind : Kind
c_kind = whole (record { lo = pos 5; hi = pos 6 })

abbrev c_element : Element
c_element = record { bound = []; start = 0; kind = c_kind }

abbrev the_first : Expr → Def
the_first e = define (codes "c") (part.First e)

abbrev the_next : Expr → Def
the_next f = define (codes "c") (part.Next f)

counter_variables : variables counter ≡ (codes "step", truth) ∷ (codes "c", c_kind) ∷ []
counter_variables = simp worked

counter_kind : under (codes "c") (variables counter) ≡ Some c_kind
counter_kind = ap (λ vs. under (codes "c") vs) counter_variables

abbrev the_run : History
the_run = two_steps (pos 5) (pos 6) (pos 5)

run_kinds : AllByRecursion (AreOfKinds (variables counter)) the_run
run_kinds = subst (λ vs. AllByRecursion (AreOfKinds vs) the_run) (sym counter_variables)
    (((refl, tt), ((refl, tt), tt)), (((refl, tt), ((refl, tt), tt)), (((refl, tt), ((refl, tt), tt)), tt)))

run_first : DefinesAll counter the_run (the_first (int 5)) c_kind
run_first = ((λ some. simp worked), tt)

run_next_at : (t : ℕ) → t + 1 < 3 → has_at counter the_run (t + 1) (codes "c") c_element ≡ given_at counter the_run t c_element counted_on
run_next_at zero less = simp worked
run_next_at (suc zero) less = simp worked
run_next_at (suc (suc t)) less = absurd (omega arith)

run_next : DefinesAll counter the_run (the_next counted_on) c_kind
run_next = (run_next_at, tt)

run_defined : (d : Def) (k : Kind) → Contains (definitions counter) d → under d.name.text (variables counter) ≡ Some k → DefinesAll counter the_run d k
run_defined d k (zero, less, same) =
    subst (λ (d : Def). under d.name.text (variables counter) ≡ Some k → DefinesAll counter the_run d k) same
    (λ is. of_its_kind counter the_run (the_first (int 5)) c_kind k (codes "c") counter_kind is run_first)
run_defined d k (suc zero, less, same) =
    subst (λ (d : Def). under d.name.text (variables counter) ≡ Some k → DefinesAll counter the_run d k) same
    (λ is. of_its_kind counter the_run (the_next counted_on) c_kind k (codes "c") counter_kind is run_next)
run_defined d k (suc (suc n), less, same) = absurd (omega arith)

pub starts_again : CounterStartsAgain
starts_again = record { of_kinds = run_kinds; defined = run_defined }

first_is : (a b c : ℤ) → IsRun counter (two_steps a b c) → a ≡ pos 5
first_is a b c r = ap number (simp worked at ((r.defined (the_first (int 5)) c_kind (0, omega arith, refl) counter_kind).0 (omega arith)))

second_is : (b c : ℤ) → IsRun counter (two_steps (pos 5) b c) → b ≡ pos 6
second_is b c r = ap number (simp worked at ((r.defined (the_next counted_on) c_kind (1, omega arith, refl) counter_kind).0 0 (omega arith)))

third_is : (c : ℤ) → IsRun counter (two_steps (pos 5) (pos 6) c) → c ≡ pos 5
third_is c r = ap number (simp worked at ((r.defined (the_next counted_on) c_kind (1, omega arith, refl) counter_kind).0 1 (omega arith)))

pub has_one_run : CounterHasOneRun
has_one_run a b c r =
    let p = first_is a b c r in
    let r' = subst (λ a. IsRun counter (two_steps a b c)) p r in
    let q = second_is b c r' in
    let r'' = subst (λ b. IsRun counter (two_steps (pos 5) b c)) q r' in
    (p, q, third_is c r'')

-- ---- one definition or two

abbrev two : Expr → Expr → HllModel
two e f = defining (in_two e f)

abbrev one : Expr → Expr → HllModel
one e f = defining (in_one e f)

abbrev the_both : Expr → Expr → Def
the_both e f = define (codes "c") (part.Both e f)

both_defined : (e f : Expr) (h : History) → IsRun (two e f) h → (d : Def) (k : Kind) → Contains (definitions (one e f)) d →
    under d.name.text (variables (one e f)) ≡ Some k → DefinesAll (one e f) h d k
both_defined e f h r d k (zero, less, same) =
    subst (λ (d : Def). under d.name.text (variables (one e f)) ≡ Some k → DefinesAll (one e f) h d k) same
    (λ is. (((r.defined (the_first e) k (0, omega arith, refl) is).0, (r.defined (the_next f) k (1, omega arith, refl) is).0), tt))
both_defined e f h r d k (suc n, less, same) = absurd (omega arith)

each_defined : (e f : Expr) (h : History) → IsRun (one e f) h → (d : Def) (k : Kind) → Contains (definitions (two e f)) d →
    under d.name.text (variables (two e f)) ≡ Some k → DefinesAll (two e f) h d k
each_defined e f h r d k (zero, less, same) =
    subst (λ (d : Def). under d.name.text (variables (two e f)) ≡ Some k → DefinesAll (two e f) h d k) same
    (λ is. ((r.defined (the_both e f) k (0, omega arith, refl) is).0.0, tt))
each_defined e f h r d k (suc zero, less, same) =
    subst (λ (d : Def). under d.name.text (variables (two e f)) ≡ Some k → DefinesAll (two e f) h d k) same
    (λ is. ((r.defined (the_both e f) k (0, omega arith, refl) is).0.1, tt))
each_defined e f h r d k (suc (suc n), less, same) = absurd (omega arith)

pub one_or_two : OneDefinitionOrTwo
one_or_two e f h =
    ((λ r. record { of_kinds = r.of_kinds; defined = both_defined e f h r }), (λ r. record { of_kinds = r.of_kinds; defined = each_defined e f h r }))

-- ---- the table

abbrev table_kind : Kind
table_kind = array 2 (array 2 (whole (record { lo = pos 1; hi = pos 15 })))

table_variables : variables table ≡ (codes "a", table_kind) ∷ []
table_variables = simp worked

table_variable : under (codes "a") (variables table) ≡ Some table_kind
table_variable = ap (λ vs. under (codes "a") vs) table_variables

abbrev filled : History
filled = tabled (pos 5) (pos 2) (pos 1) (pos 3)

abbrev row_element : ℤ → ℕ → Element
row_element i start = record { bound = (codes "i", i) ∷ []; start = start; kind = array 2 (whole (record { lo = pos 1; hi = pos 15 })) }

row_filled : (t : ℕ) → t < 1 → has_at table filled t (codes "a") (row_element (pos 0) 0) ≡ given_at table filled t (row_element (pos 0) 0) table_row
row_filled zero less = simp worked
row_filled (suc t) less = absurd (omega arith)

next_filled : (t : ℕ) → t < 1 → has_at table filled t (codes "a") (row_element (pos 1) 2) ≡ given_at table filled t (row_element (pos 1) 2) table_row
next_filled zero less = simp worked
next_filled (suc t) less = absurd (omega arith)

filled_defined : (d : Def) (k : Kind) → Contains (definitions table) d → under d.name.text (variables table) ≡ Some k → DefinesAll table filled d k
filled_defined d k (zero, less, same) =
    subst (λ (d : Def). under d.name.text (variables table) ≡ Some k → DefinesAll table filled d k) same
    (λ is. of_its_kind table filled table_definition table_kind k (codes "a") table_variable is (row_filled, (next_filled, tt)))
filled_defined d k (suc n, less, same) = absurd (omega arith)

filled_kinds : AllByRecursion (AreOfKinds (variables table)) filled
filled_kinds = subst (λ vs. AllByRecursion (AreOfKinds vs) filled) (sym table_variables) (((refl, (refl, (refl, (refl, tt)))), tt), tt)

pub is_filled : TableIsFilled
is_filled = record { of_kinds = filled_kinds; defined = filled_defined }

-- the second of two numbers
abbrev second_number : Value → ℤ
second_number v = number (drop 1 v)

pub table_has_one_run : TableHasOneRun
table_has_one_run w x y z r =
    let all = r.defined table_definition table_kind (0, omega arith, refl) table_variable in
    let p : (w ∷ x ∷ []) ≡ (pos 5 ∷ pos 2 ∷ []) = simp worked at (all.0 0 (omega arith)) in
    let q : (y ∷ z ∷ []) ≡ (pos 1 ∷ pos 3 ∷ []) = simp worked at (all.1.0 0 (omega arith)) in
    (ap number p, ap second_number p, ap number q, ap second_number q)

-- ---- obligations

-- no definitions
nothing_defined : (es : List Expr) (h : History) (d : Def) (k : Kind) → Contains (definitions (with_constraints es)) d →
    under d.name.text (variables (with_constraints es)) ≡ Some k → DefinesAll (with_constraints es) h d k
nothing_defined es h d k (n, less, same) is = absurd (omega arith)

last_less : (h : History) → 0 < length h → length h - 1 < length h
last_less h some = omega arith

pre_holds : (h : History) (t : ℕ) → t < length h → Meets (with_constraints (input_a ∷ [])) h →
    is_true_at (with_constraints (input_a ∷ [])) h t (pre input_a (bool true)) ≡ true
pre_holds h zero less meets = simp worked
pre_holds h (suc t) less meets =
    ap is_true (worth_layer (Form-F.Pre input_a (Some (bool true))) (scene (with_constraints (input_a ∷ [])) h (suc t) [])) ∙ (meets t (omega arith)).0

pub constraints_count : ConstraintsCountAtEachInstant
constraints_count = ((λ h some run meets. (meets (last_time h) (last_less h some)).0), (λ h some run meets. pre_holds h (last_time h) (last_less h some) meets))

true_at_once : (t : ℕ) → t < 1 → is_true_at (with_constraints (input_a ∷ [])) (of_a (true ∷ [])) t input_a ≡ true
true_at_once zero less = simp worked
true_at_once (suc t) less = absurd (omega arith)

pub broken_under_constraints : BrokenUnderConstraints
broken_under_constraints = record {
  breaks = record {
    some = omega arith;
    run = record { of_kinds = (((refl, tt), tt), tt); defined = nothing_defined (input_a ∷ []) (of_a (true ∷ [])) };
    meets = λ t less. (true_at_once t less, tt);
    broken = simp worked;
  };
  least = λ other b. omega (arith, b.some);
}

pub broken_at_once : BrokenAtOnce
broken_at_once = record {
  breaks = record {
    some = omega arith;
    run = record { of_kinds = (((refl, tt), tt), tt); defined = nothing_defined [] (of_a (false ∷ [])) };
    meets = λ t less. tt;
    broken = simp worked;
  };
  least = λ other b. omega (arith, b.some);
}

pub broken_at_second : BrokenAtTheSecondInstant
broken_at_second = record {
  breaks = record {
    some = omega arith;
    run = record { of_kinds = (((refl, tt), tt), (((refl, tt), tt), tt)); defined = nothing_defined [] (of_a (false ∷ true ∷ [])) };
    meets = λ t less. tt;
    broken = simp worked;
  };
  least = two_instants;
}
  where
    two_instants : (other : History) → Breaks (with_constraints []) (pre input_a (bool true)) other → 2 ≤ length other
    two_instants [] b = absurd (omega (arith, b.some))
    two_instants (i ∷ []) b = absurd (true_false (simp worked at b.broken))
    two_instants (i ∷ j ∷ h) b = omega arith

pub only_the_last : OnlyTheLastInstantCounts
only_the_last b = true_false (simp worked at b.broken)
