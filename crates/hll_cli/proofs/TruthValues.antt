-- Truth values as numbers: instants of inputs, and what a name and a chain are worth there.
use Rattle.std.proofs.Common.{◌≡◌, ℕ, zero, suc, ℤ, pos, negsuc, List, [], ◌∷◌, length, map, Contains, Bool, true, false, Some, refl, arith, sym, ap, subst, ◌∙◌}
use Rattle.std.specs.Prelude.{◌&&◌, ◌||◌, int_le}
use Rattle.std.specs.List.{AllByRecursion}
use Rattle.std.specs.Str.{bytes_eq}
use Rattle.std.proofs.lemmas.Bool.{false≢true}
use Rattle.std.proofs.lemmas.Int.{ints}
use Rattle.std.proofs.lemmas.Slice.Eq.{bytes_eq-Decides}
use Rattle.hll_tree.specs.declared.tree.Op.{Op}
use Rattle.hll_tree.specs.declared.tree.Op.TheVariants as op
use Rattle.hll_tree.specs.declared.tree.Precedence.{Precedence}
use Rattle.hll_tree.specs.declared.tree.Precedence.TheVariants as precedence
use Rattle.hll_tree.specs.Spells.{precedence_of}
use Rattle.hll_meaning.specs.Kinds.{truth, Value, IsOf}
use Rattle.hll_meaning.specs.Names.{variable, under}
use Rattle.hll_meaning.specs.Values.{Instant, of_truth, is_true, variable_in, from_the_left, from_the_right, chained}
use Rattle.hll_meaning.specs.Runs.{AreOfKinds}
use Rattle.hll_cli.specs.BooleanTexts.{is_boolean_op}
use Rattle.hll_cli.specs.Report.{instant_of}
use Rattle.hll_cli.specs.Table.{value_at, chain_value}
use Rattle.intervals.proofs.Comparisons.{is_not_le}
use Rattle.hll_cli.proofs.BuiltTexts.{and_both, as_input}

pub is_true-of_truth : (b : Bool) → is_true (of_truth b) ≡ b
is_true-of_truth true = refl
is_true-of_truth false = refl

-- ---- instants

truth_is_of : (b : Bool) → IsOf truth (of_truth b)
truth_is_of true = (refl, tt)
truth_is_of false = (refl, tt)

of_truth-is_true : (v : Value) → IsOf truth v → of_truth (is_true v) ≡ v
of_truth-is_true [] is = absurd is
of_truth-is_true (x ∷ y ∷ ys) is = absurd is.1
of_truth-is_true (pos zero ∷ []) is = refl
of_truth-is_true (pos (suc zero) ∷ []) is = refl
of_truth-is_true (pos (suc (suc n)) ∷ []) is =
    let x : ℤ = pos (suc (suc n)) in
    absurd (false≢true (sym (is_not_le x (pos 1) (omega (arith, ints))) ∙ (and_both (int_le (pos 0) x) (int_le x (pos 1)) is.0).1))
of_truth-is_true (negsuc n ∷ []) is = absurd (false≢true is.0)

-- a truth value for each input is an instant
pub inputs_are_of : (ns : List (List ℕ)) (xs : List Bool) → length xs ≡ length ns → AreOfKinds (map (λ n. (n, truth)) ns) (instant_of xs)
inputs_are_of [] [] long = tt
inputs_are_of [] (x ∷ xs) long = absurd (omega arith)
inputs_are_of (n ∷ ns) [] long = absurd (omega arith)
inputs_are_of (n ∷ ns) (x ∷ xs) long = (truth_is_of x, inputs_are_of ns xs (omega arith))

-- the truth values of an instant
abbrev pub values_of : Instant → List Bool
values_of = map is_true

-- and each instant is one
pub values-length : (ns : List (List ℕ)) (vs : Instant) → AreOfKinds (map (λ n. (n, truth)) ns) vs → length (values_of vs) ≡ length ns
values-length [] [] are = refl
values-length [] (v ∷ vs) are = absurd are
values-length (n ∷ ns) [] are = absurd are
values-length (n ∷ ns) (v ∷ vs) are = ap suc (values-length ns vs are.1)

pub instant-values : (ns : List (List ℕ)) (vs : Instant) → AreOfKinds (map (λ n. (n, truth)) ns) vs → vs ≡ instant_of (values_of vs)
instant-values [] [] are = refl
instant-values [] (v ∷ vs) are = absurd are
instant-values (n ∷ ns) [] are = absurd are
instant-values (n ∷ ns) (v ∷ vs) are =
    ap (λ (w : Value). w ∷ vs) (sym (of_truth-is_true v are.0)) ∙ ap (λ (ws : Instant). of_truth (is_true v) ∷ ws) (instant-values ns vs are.1)

-- ---- names

-- a name behind one that is another
later : (n : List ℕ) (ns : List (List ℕ)) (sought : List ℕ) → bytes_eq n sought ≡ false → Contains (n ∷ ns) sought → Contains ns sought
later n ns sought other (zero, within, is) = absurd (false≢true (sym other ∙ (bytes_eq-Decides n sought).1 is))
later n ns sought other (suc i, within, is) = (i, omega (arith, within), is)

pub input_stands : (ns : List (List ℕ)) (sought : List ℕ) → Contains ns sought → under sought (map as_input ns) ≡ Some (variable true truth)
input_stands [] sought there = absurd (let less = there.1 in omega arith)
input_stands (n ∷ ns) sought there = by_test (λ other. input_stands ns sought (later n ns sought other there)) (bytes_eq n sought) refl
  where
    by_test : (bytes_eq n sought ≡ false → under sought (map as_input ns) ≡ Some (variable true truth)) → (b : Bool) → bytes_eq n sought ≡ b →
        under sought (map as_input (n ∷ ns)) ≡ Some (variable true truth)
    by_test behind true is = rw is refl
    by_test behind false is = rw is (behind is)

pub input_value : (ns : List (List ℕ)) (xs : List Bool) (sought : List ℕ) → length xs ≡ length ns → Contains ns sought →
    variable_in (map as_input ns) (instant_of xs) sought ≡ Some (record { kind = truth; value = of_truth (value_at ns xs sought) })
input_value [] xs sought long there = absurd (let less = there.1 in omega arith)
input_value (n ∷ ns) [] sought long there = absurd (omega arith)
input_value (n ∷ ns) (x ∷ xs) sought long there = by_test (λ other. input_value ns xs sought (omega arith) (later n ns sought other there)) (bytes_eq n sought) refl
  where
    by_test : (bytes_eq n sought ≡ false → variable_in (map as_input ns) (instant_of xs) sought ≡ Some (record { kind = truth; value = of_truth (value_at ns xs sought) })) →
        (b : Bool) → bytes_eq n sought ≡ b →
        variable_in (map as_input (n ∷ ns)) (instant_of (x ∷ xs)) sought ≡ Some (record { kind = truth; value = of_truth (value_at (n ∷ ns) (x ∷ xs) sought) })
    by_test behind true is = rw is refl
    by_test behind false is = rw is (behind is)

-- ---- chains

-- an operator beside a truth value as a number
abbrev pub as_numbers : Op × Bool → Op × Value
as_numbers y = (y.0, of_truth y.1)

-- a Boolean operator of a level of precedence
abbrev pub IsBooleanAt : Precedence → Op → Type 0
IsBooleanAt p o = (precedence_of o ≡ p) × (is_boolean_op o ≡ true)

-- a level of precedence has one Boolean operator at most
abbrev op_at : Precedence → Op
op_at precedence.Equivalence = op.Same
op_at precedence.Implication = op.Implies
op_at precedence.Disjunction = op.Or
op_at precedence.Conjunction = op.And
op_at precedence.Sum = op.Plus
op_at precedence.Product = op.Times

only_op : (o : Op) → is_boolean_op o ≡ true → o ≡ op_at (precedence_of o)
only_op op.Same boolean = absurd (false≢true boolean)
only_op op.Differ boolean = absurd (false≢true boolean)
only_op op.Implies boolean = refl
only_op op.Or boolean = refl
only_op op.And boolean = refl
only_op op.Plus boolean = absurd (false≢true boolean)
only_op op.Less boolean = absurd (false≢true boolean)
only_op op.Times boolean = absurd (false≢true boolean)
only_op op.Over boolean = absurd (false≢true boolean)
only_op op.Rest boolean = absurd (false≢true boolean)

same_ops : (p : Precedence) (ys : List (Op × Bool)) → AllByRecursion (λ y. IsBooleanAt p y.0) ys → AllByRecursion (λ y. y.0 ≡ op_at p) ys
same_ops p [] all = tt
same_ops p (y ∷ ys) all = (only_op y.0 all.0.1 ∙ ap op_at all.0.0, same_ops p ys all.1)

ors : (b : Bool) (ys : List (Op × Bool)) → AllByRecursion (λ y. y.0 ≡ op.Or) ys → from_the_left (of_truth b) (map as_numbers ys) ≡ of_truth (chain_value b ys)
ors b [] all = refl
ors b ((o, y) ∷ ys) all =
    rw (all.0, is_true-of_truth b, is_true-of_truth y) (ors (b || y) ys all.1)

ands : (b : Bool) (ys : List (Op × Bool)) → AllByRecursion (λ y. y.0 ≡ op.And) ys → from_the_left (of_truth b) (map as_numbers ys) ≡ of_truth (chain_value b ys)
ands b [] all = refl
ands b ((o, y) ∷ ys) all =
    rw (all.0, is_true-of_truth b, is_true-of_truth y) (ands (b && y) ys all.1)

implications : (b : Bool) (ys : List (Op × Bool)) → AllByRecursion (λ y. y.0 ≡ op.Implies) ys → from_the_right (of_truth b) (map as_numbers ys) ≡ of_truth (chain_value b ys)
implications b [] all = refl
implications b ((o, y) ∷ ys) all =
    rw (all.0, implications y ys all.1, is_true-of_truth b, is_true-of_truth (chain_value y ys)) refl

-- a chain of one Boolean operator
pub chain_agrees : (p : Precedence) (b : Bool) (ys : List (Op × Bool)) → AllByRecursion (λ y. IsBooleanAt p y.0) ys →
    chained (of_truth b) (map as_numbers ys) ≡ of_truth (chain_value b ys)
chain_agrees p b [] all = refl
chain_agrees p b ((op.Same, y) ∷ ys) all = absurd (false≢true all.0.1)
chain_agrees p b ((op.Differ, y) ∷ ys) all = absurd (false≢true all.0.1)
chain_agrees p b ((op.Implies, y) ∷ ys) all =
    implications b ((op.Implies, y) ∷ ys) (refl, subst (λ q. AllByRecursion (λ y. y.0 ≡ op_at q) ys) (sym all.0.0) (same_ops p ys all.1))
chain_agrees p b ((op.Or, y) ∷ ys) all =
    ors b ((op.Or, y) ∷ ys) (refl, subst (λ q. AllByRecursion (λ y. y.0 ≡ op_at q) ys) (sym all.0.0) (same_ops p ys all.1))
chain_agrees p b ((op.And, y) ∷ ys) all =
    ands b ((op.And, y) ∷ ys) (refl, subst (λ q. AllByRecursion (λ y. y.0 ≡ op_at q) ys) (sym all.0.0) (same_ops p ys all.1))
chain_agrees p b ((op.Plus, y) ∷ ys) all = absurd (false≢true all.0.1)
chain_agrees p b ((op.Less, y) ∷ ys) all = absurd (false≢true all.0.1)
chain_agrees p b ((op.Times, y) ∷ ys) all = absurd (false≢true all.0.1)
chain_agrees p b ((op.Over, y) ∷ ys) all = absurd (false≢true all.0.1)
chain_agrees p b ((op.Rest, y) ∷ ys) all = absurd (false≢true all.0.1)
