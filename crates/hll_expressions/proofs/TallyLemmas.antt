-- Numbers of chains of constants, operator by operator.
use Rattle.std.proofs.Common.{FitsSigned, to_z, of_z, ◌≡◌, zero, suc, ℤ, pos, negsuc, ◌≤ℤ◌, Bool, true, false, not, ◌||◌, ◌⊎◌, inl, inr, List, [], ◌∷◌, ◌++◌, Option, Some, None, refl, sym, ap, subst, ◌∙◌, arith}
use Rattle.std.specs.Prelude.{if◌then◌else◌}
use Rattle.std.specs.Int.{w128}
use Rattle.std.specs.Ordering.{int_eq}
use Rattle.std.proofs.lemmas.Int.{ints}
use Rattle.hll_tree.specs.declared.tree.Op.{Op}
use Rattle.hll_tree.specs.declared.tree.Op.TheVariants as op
use Rattle.hll_meaning.specs.Kinds.{truth, truths, Value, IsOf}
use Rattle.hll_meaning.specs.Values.{of_number, of_truth, number, is_true, operated, from_the_left, from_the_right, chained}
use Rattle.hll_meaning.specs.Judging.{is_logical}
use Rattle.hll_meaning.proofs.Numbers.{holds_in, truth_of}
use Rattle.intervals.proofs.AnswerLemmas.{back}
use Rattle.hll_expressions.proofs.NearNumbers.{near_fits, truth_near}
use Rattle.hll_expressions.specs.declared.operators.Tally.{Tally}
use Rattle.hll_expressions.specs.declared.operators.Tally.TheVariants as tally
use Rattle.hll_expressions.specs.Chains.{IsNear, logical_of, last_of, ending, is_implication, goes_right, goes_left, IsTally, IsTallied, GoesOn, CountsLeft}

-- ---- values of one cell

or_none : (a : Bool) → (a || false) ≡ a
or_none true = refl
or_none false = refl

or_any : (a : Bool) → (a || true) ≡ true
or_any true = refl
or_any false = refl

not_not : (a : Bool) → not (not a) ≡ a
not_not true = refl
not_not false = refl

zero_or_one : (x : ℤ) → pos 0 ≤ℤ x → x ≤ℤ pos 1 → (x ≡ pos 0) ⊎ (x ≡ pos 1)
zero_or_one (pos zero) a b = inl refl
zero_or_one (pos (suc zero)) a b = inr refl
zero_or_one (pos (suc (suc n))) a b = absurd (omega (arith, ints))
zero_or_one (negsuc n) a b = absurd (omega (arith, ints))

-- a truth value is that of its number
pub truth_value : (w : Value) → IsOf truth w → w ≡ of_truth (is_true w)
truth_value [] h = absurd h
truth_value (x ∷ []) h = let k = holds_in truths x h.0 in by (zero_or_one x k.above k.below)
  where
    by : (x ≡ pos 0) ⊎ (x ≡ pos 1) → x ∷ [] ≡ of_truth (is_true (x ∷ []))
    by (inl is) = subst (λ y. y ∷ [] ≡ of_truth (is_true (y ∷ []))) (sym is) refl
    by (inr is) = subst (λ y. y ∷ [] ≡ of_truth (is_true (y ∷ []))) (sym is) refl
truth_value (x ∷ y ∷ w) h = absurd h.1

-- the result goes by the numbers alone
pub by_numbers : (o : Op) (v w : Value) (x y : ℤ) → number v ≡ x → number w ≡ y → number (operated o v w) ≡ number (operated o (of_number x) (of_number y))
by_numbers op.Same v w x y p q = λ i. number (of_truth (int_eq (p i) (q i)))
by_numbers op.Differ v w x y p q = λ i. number (of_truth (not (int_eq (p i) (q i))))
by_numbers op.Implies v w x y p q = λ i. number (operated op.Implies (of_number (p i)) (of_number (q i)))
by_numbers op.Or v w x y p q = λ i. number (operated op.Or (of_number (p i)) (of_number (q i)))
by_numbers op.And v w x y p q = λ i. number (operated op.And (of_number (p i)) (of_number (q i)))
by_numbers op.Plus v w x y p q = λ i. number (operated op.Plus (of_number (p i)) (of_number (q i)))
by_numbers op.Less v w x y p q = λ i. number (operated op.Less (of_number (p i)) (of_number (q i)))
by_numbers op.Times v w x y p q = λ i. number (operated op.Times (of_number (p i)) (of_number (q i)))
by_numbers op.Over v w x y p q = λ i. number (operated op.Over (of_number (p i)) (of_number (q i)))
by_numbers op.Rest v w x y p q = λ i. number (operated op.Rest (of_number (p i)) (of_number (q i)))

-- ---- from the left

an_implication : (o : Op) → is_implication o ≡ true → o ≡ op.Implies
an_implication op.Same h = absurd (cc h)
an_implication op.Differ h = absurd (cc h)
an_implication op.Implies h = refl
an_implication op.Or h = absurd (cc h)
an_implication op.And h = absurd (cc h)
an_implication op.Plus h = absurd (cc h)
an_implication op.Less h = absurd (cc h)
an_implication op.Times h = absurd (cc h)
an_implication op.Over h = absurd (cc h)
an_implication op.Rest h = absurd (cc h)

pub from_left_is : (v : Value) (ws : List (Op × Value)) → goes_left ws ≡ true → chained v ws ≡ from_the_left v ws
from_left_is v [] h = refl
from_left_is v ((op.Same, w) ∷ ws) h = refl
from_left_is v ((op.Differ, w) ∷ ws) h = refl
from_left_is v ((op.Implies, w) ∷ ws) h = absurd (cc h)
from_left_is v ((op.Or, w) ∷ ws) h = refl
from_left_is v ((op.And, w) ∷ ws) h = refl
from_left_is v ((op.Plus, w) ∷ ws) h = refl
from_left_is v ((op.Less, w) ∷ ws) h = refl
from_left_is v ((op.Times, w) ∷ ws) h = refl
from_left_is v ((op.Over, w) ∷ ws) h = refl
from_left_is v ((op.Rest, w) ∷ ws) h = refl

left_more : (v : Value) (ws : List (Op × Value)) (o : Op) (w : Value) → from_the_left v (ws ++ (o, w) ∷ []) ≡ operated o (from_the_left v ws) w
left_more v [] o w = refl
left_more v (u ∷ ws) o w = left_more (operated u.0 v u.1) ws o w

left_front : (ws : List (Op × Value)) (u : Op × Value) → goes_left ws ≡ true → goes_left (ws ++ u ∷ []) ≡ true
left_front [] u h = absurd (cc h)
left_front (w ∷ ws) u h = h

-- the number of what is found so far
found_left : (o : Op) (x y : ℤ) (v : Value) (ws : List (Op × Value)) (w : Value) (result : Option Tally) → number (chained v ws) ≡ x → GoesOn o y v ws w → CountsLeft o x y result →
    result ≡ Some (tally.Left (number (operated o (of_number x) (of_number y))))
found_left o x y v ws w result same g counts = counts (subst IsNear same g.chain_near) g.near (subst (FitsSigned w128) (by_numbers o (chained v ws) w x y same g.given) g.fits)

-- behind the first operand
pub left_first : (o : Op) (x y : ℤ) (v : Value) (ws : List (Op × Value)) (w : Value) (result : Option Tally) → is_implication o ≡ false → IsTally (tally.First x) v ws → GoesOn o y v ws w → CountsLeft o x y result → IsTallied result v (ws ++ (o, w) ∷ [])
left_first o x y v ws w result not_so h g counts = (
  tally.Left (number (operated o (of_number x) (of_number y))),
  found_left o x y v ws w result (ap (λ us. number (chained v us)) h.0 ∙ h.1) g counts,
  (subst (λ us. goes_left (us ++ (o, w) ∷ []) ≡ true) (sym h.0) (ap not not_so), ap (λ us. number (from_the_left v (us ++ (o, w) ∷ []))) h.0 ∙ by_numbers o v w x y h.1 g.given),
)

-- behind operators from the left
pub left_further : (o : Op) (x y : ℤ) (v : Value) (ws : List (Op × Value)) (w : Value) (result : Option Tally) → IsTally (tally.Left x) v ws → GoesOn o y v ws w → CountsLeft o x y result → IsTallied result v (ws ++ (o, w) ∷ [])
left_further o x y v ws w result h g counts = (
  tally.Left (number (operated o (of_number x) (of_number y))),
  found_left o x y v ws w result (ap number (from_left_is v ws h.0) ∙ h.1) g counts,
  (left_front ws (o, w) h.0, ap number (left_more v ws o w) ∙ by_numbers o (from_the_left v ws) w x y h.1 g.given),
)

-- ---- from the right

last_more : (v : Value) (ws : List (Op × Value)) (u : Op × Value) → last_of v (ws ++ u ∷ []) ≡ u.1
last_more v [] u = refl
last_more v (w ∷ ws) u = last_more w.1 ws u

ending_more : (v : Value) (ws : List (Op × Value)) (u : Op × Value) (x : Value) → ending v (ws ++ u ∷ []) x ≡ ending v ws (operated u.0 (last_of v ws) x)
ending_more v [] u x = refl
ending_more v (w ∷ ws) u x = ap (operated w.0 v) (ending_more w.1 ws u x)

right_is : (v : Value) (ws : List (Op × Value)) → from_the_right v ws ≡ ending v ws (last_of v ws)
right_is v [] = refl
right_is v (w ∷ ws) = ap (operated w.0 v) (right_is w.1 ws)

right_front : (ws : List (Op × Value)) (u : Op × Value) → goes_right ws ≡ true → goes_right (ws ++ u ∷ []) ≡ true
right_front [] u h = absurd (cc h)
right_front (w ∷ ws) u h = h

chained_right : (v : Value) (ws : List (Op × Value)) → goes_right ws ≡ true → chained v ws ≡ from_the_right v ws
chained_right v [] h = absurd (cc h)
chained_right v ((op.Same, w) ∷ ws) h = absurd (cc h)
chained_right v ((op.Differ, w) ∷ ws) h = absurd (cc h)
chained_right v ((op.Implies, w) ∷ ws) h = refl
chained_right v ((op.Or, w) ∷ ws) h = absurd (cc h)
chained_right v ((op.And, w) ∷ ws) h = absurd (cc h)
chained_right v ((op.Plus, w) ∷ ws) h = absurd (cc h)
chained_right v ((op.Less, w) ∷ ws) h = absurd (cc h)
chained_right v ((op.Times, w) ∷ ws) h = absurd (cc h)
chained_right v ((op.Over, w) ∷ ws) h = absurd (cc h)
chained_right v ((op.Rest, w) ∷ ws) h = absurd (cc h)

-- a logical operator of truth values
logical_is : (o : Op) (a b : Bool) → is_logical o ≡ true → operated o (of_truth a) (of_truth b) ≡ of_truth (logical_of o a b)
logical_is op.Same true true h = refl
logical_is op.Same true false h = refl
logical_is op.Same false true h = refl
logical_is op.Same false false h = refl
logical_is op.Differ true true h = refl
logical_is op.Differ true false h = refl
logical_is op.Differ false true h = refl
logical_is op.Differ false false h = refl
logical_is op.Implies true true h = refl
logical_is op.Implies true false h = refl
logical_is op.Implies false true h = refl
logical_is op.Implies false false h = refl
logical_is op.Or true true h = refl
logical_is op.Or true false h = refl
logical_is op.Or false true h = refl
logical_is op.Or false false h = refl
logical_is op.And true true h = refl
logical_is op.And true false h = refl
logical_is op.And false true h = refl
logical_is op.And false false h = refl
logical_is op.Plus a b h = absurd (cc h)
logical_is op.Less a b h = absurd (cc h)
logical_is op.Times a b h = absurd (cc h)
logical_is op.Over a b h = absurd (cc h)
logical_is op.Rest a b h = absurd (cc h)

-- whichever truth value stands at the end
at_end : (v : Value) (ws : List (Op × Value)) (otherwise then_is b : Bool) → number (ending v ws (of_truth false)) ≡ number (of_truth otherwise) → number (ending v ws (of_truth true)) ≡ number (of_truth then_is) →
    number (ending v ws (of_truth b)) ≡ number (of_truth (if b then then_is else otherwise))
at_end v ws otherwise then_is true p q = q
at_end v ws otherwise then_is false p q = p

-- the truth value of a number
is_true_number : (w : Value) (x : ℤ) → number w ≡ x → is_true w ≡ not (int_eq x (pos 0))
is_true_number w x h = ap (λ y. not (int_eq y (pos 0))) h

-- an implication behind the first operand
pub right_first : (o : Op) (x y : ℤ) (v : Value) (ws : List (Op × Value)) (w : Value) → is_implication o ≡ true → IsTally (tally.First x) v ws → GoesOn o y v ws w →
    IsTally (tally.Right (int_eq x (pos 0)) true (not (int_eq y (pos 0)))) v (ws ++ (o, w) ∷ [])
right_first o x y v ws w imp h g =
    subst (λ us. IsTally (tally.Right (int_eq x (pos 0)) true (not (int_eq y (pos 0)))) v (us ++ (o, w) ∷ [])) (sym h.0) (
      imp,
      ap (λ (p : Op). number (operated p v (of_truth false))) (an_implication o imp) ∙ ap (λ b. number (of_truth b)) (or_none (not (is_true v)) ∙ ap not (is_true_number v x h.1) ∙ not_not (int_eq x (pos 0))),
      ap (λ (p : Op). number (operated p v (of_truth true))) (an_implication o imp) ∙ ap (λ b. number (of_truth b)) (or_any (not (is_true v))),
      truth_value w (g.truths right).1 ∙ ap of_truth (is_true_number w y g.given),
    )
  where
    right : goes_right (ws ++ (o, w) ∷ []) ≡ true
    right = subst (λ us. goes_right (us ++ (o, w) ∷ []) ≡ true) (sym h.0) imp

-- an operator behind others from the right
pub right_further : (o : Op) (y : ℤ) (otherwise then_is last : Bool) (v : Value) (ws : List (Op × Value)) (w : Value) → IsTally (tally.Right otherwise then_is last) v ws → GoesOn o y v ws w →
    IsTally (tally.Right (if logical_of o last false then then_is else otherwise) (if logical_of o last true then then_is else otherwise) (not (int_eq y (pos 0)))) v (ws ++ (o, w) ∷ [])
right_further o y otherwise then_is last v ws w h g =
    let right = right_front ws (o, w) h.0 in
    let t = g.truths right in
    (right, ended false t.0, ended true t.0, last_more v ws (o, w) ∙ truth_value w t.1 ∙ ap of_truth (is_true_number w y g.given))
  where
    ended : (b : Bool) → is_logical o ≡ true → number (ending v (ws ++ (o, w) ∷ []) (of_truth b)) ≡ number (of_truth (if logical_of o last b then then_is else otherwise))
    ended b log =
        ap number (ending_more v ws (o, w) (of_truth b) ∙ ap (λ u. ending v ws (operated o u (of_truth b))) h.3 ∙ ap (ending v ws) (logical_is o last b log)) ∙
        at_end v ws otherwise then_is (logical_of o last b) h.1 h.2

-- the same of what is found one by one
pub right_first_as : (o : Op) (x y : ℤ) (a z : Bool) (v : Value) (ws : List (Op × Value)) (w : Value) → a ≡ int_eq x (pos 0) → z ≡ int_eq y (pos 0) → is_implication o ≡ true → IsTally (tally.First x) v ws → GoesOn o y v ws w →
    IsTally (tally.Right a true (not z)) v (ws ++ (o, w) ∷ [])
right_first_as o x y a z v ws w p q imp h g = subst (λ (t : Tally). IsTally t v (ws ++ (o, w) ∷ [])) (λ i. tally.Right (sym p i) true (not (sym q i))) (right_first o x y v ws w imp h g)

pub right_further_as : (o : Op) (y : ℤ) (f t last m n a b z : Bool) (v : Value) (ws : List (Op × Value)) (w : Value) → m ≡ logical_of o last false → n ≡ logical_of o last true → a ≡ (if m then t else f) → b ≡ (if n then t else f) → z ≡ int_eq y (pos 0) →
    IsTally (tally.Right f t last) v ws → GoesOn o y v ws w → IsTally (tally.Right a b (not z)) v (ws ++ (o, w) ∷ [])
right_further_as o y f t last m n a b z v ws w p q r u k h g =
    subst (λ (x : Tally). IsTally x v (ws ++ (o, w) ∷ []))
    (λ i. tally.Right (sym (r ∙ ap (λ c. if c then t else f) p) i) (sym (u ∙ ap (λ c. if c then t else f) q) i) (not (sym k i))) (right_further o y f t last v ws w h g)

-- ---- the number of a chain

pub total_first : (x : ℤ) (v : Value) (ws : List (Op × Value)) → IsTally (tally.First x) v ws → x ≡ number (chained v ws)
total_first x v ws h = sym (ap (λ us. number (chained v us)) h.0 ∙ h.1)

pub total_left : (x : ℤ) (v : Value) (ws : List (Op × Value)) → IsTally (tally.Left x) v ws → x ≡ number (chained v ws)
total_left x v ws h = sym (ap number (from_left_is v ws h.0) ∙ h.1)

pub total_right : (otherwise then_is last : Bool) (v : Value) (ws : List (Op × Value)) → IsTally (tally.Right otherwise then_is last) v ws → number (of_truth (if last then then_is else otherwise)) ≡ number (chained v ws)
total_right otherwise then_is last v ws h = sym (ap number (chained_right v ws h.0 ∙ right_is v ws ∙ ap (ending v ws) h.3) ∙ at_end v ws otherwise then_is last h.1 h.2)

-- a tally that is there
pub tallied_is : (o : Option Tally) (t : Tally) (v : Value) (ws : List (Op × Value)) → o ≡ Some t → IsTallied o v ws → IsTally t v ws
tallied_is o t v ws there h = let same : h.0 ≡ t = cc in subst (λ (x : Tally). IsTally x v ws) same h.2

pub not_tallied : (o : Option Tally) (v : Value) (ws : List (Op × Value)) → o ≡ None → IsTallied o v ws → ⊥
not_tallied o v ws none h = let other : Some h.0 ≡ None = sym h.1 ∙ none in cc other

-- ---- numbers that are passed on

passed : (x : ℤ) → IsNear x → to_z w128 (of_z w128 x) ≡ x
passed x near = back x (near_fits x near)

-- so is a truth value
pub total_right_as : (f t last e : Bool) (n : ℤ) (v : Value) (ws : List (Op × Value)) → e ≡ (if last then t else f) → n ≡ number (of_truth e) → IsTally (tally.Right f t last) v ws → to_z w128 (of_z w128 n) ≡ number (chained v ws)
total_right_as f t last e n v ws same is h =
    passed n (subst IsNear (sym is) (truth_near truth (of_truth e) refl (truth_of e))) ∙ is ∙ ap (λ b. number (of_truth b)) same ∙ total_right f t last v ws h

pub near_first : (x : ℤ) (o : Op) (y : ℤ) (v : Value) (ws : List (Op × Value)) (w : Value) → IsTally (tally.First x) v ws → GoesOn o y v ws w → IsNear x
near_first x o y v ws w h g = subst IsNear (ap (λ us. number (chained v us)) h.0 ∙ h.1) g.chain_near

pub near_left : (x : ℤ) (o : Op) (y : ℤ) (v : Value) (ws : List (Op × Value)) (w : Value) → IsTally (tally.Left x) v ws → GoesOn o y v ws w → IsNear x
near_left x o y v ws w h g = subst IsNear (ap number (from_left_is v ws h.0) ∙ h.1) g.chain_near

pub zero_as : (x : ℤ) (b : Bool) → IsNear x → b ≡ int_eq (to_z w128 (of_z w128 x)) (pos 0) → b ≡ int_eq x (pos 0)
zero_as x b near h = h ∙ ap (λ z. int_eq z (pos 0)) (passed x near)

pub counts_as : (o : Op) (x y : ℤ) (r : Option Tally) → IsNear x → IsNear y → CountsLeft o (to_z w128 (of_z w128 x)) (to_z w128 (of_z w128 y)) r → CountsLeft o x y r
counts_as o x y r a b h = subst (λ z. CountsLeft o z y r) (passed x a) (subst (λ z. CountsLeft o (to_z w128 (of_z w128 x)) z r) (passed y b) h)
