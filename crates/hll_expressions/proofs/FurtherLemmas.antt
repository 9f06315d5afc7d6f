-- An operator behind what a chain came to.
use Rattle.std.proofs.Common.{if◌then◌else◌, ◌≡◌, ℕ, pos, Bool, true, false, ◌&&◌, [], Option, Some, None, refl, sym, ap, subst, ◌∙◌}
use Rattle.std.specs.Ordering.{int_eq}
use Rattle.intervals.specs.Answers.{IsInterval}
use Rattle.intervals.specs.Ends.{Ends}
use Rattle.intervals.specs.declared.interval.Interval.{Interval}
use Rattle.hll_tree.specs.declared.tree.Op.{Op}
use Rattle.hll_tree.specs.declared.tree.Op.TheVariants as op
use Rattle.hll_meaning.specs.declared.fault.StaticKind.TheVariants as why
use Rattle.hll_meaning.specs.declared.ty.Ty.{Bool as Truths, Int}
use Rattle.hll_meaning.specs.Kinds.{Kind, truth, whole}
use Rattle.hll_meaning.specs.Types.{ends}
use Rattle.hll_meaning.specs.Values.{number}
use Rattle.hll_meaning.specs.Fitting.{is_wide, ends_of}
use Rattle.hll_meaning.specs.Judging.{fault_if, Context, Judged, is_logical, is_division, result_kind, wants_operand, wants_truth, wants_whole, wide_at, operator_faults}
use Rattle.hll_expressions.specs.declared.faults.StaticFault.{StaticFault}
use Rattle.hll_expressions.specs.declared.faults.StaticFault.TheVariants as answer
use Rattle.hll_expressions.specs.declared.given.Given.{Given, Whole}
use Rattle.hll_expressions.specs.Answers.{IsFaultAt}
use Rattle.hll_expressions.specs.Chains.{arithmetic_range, by_zero, AreNarrow}
use Rattle.hll_expressions.specs.Described.{known, Describes, IsWhole}
use Rattle.hll_expressions.proofs.KindForms.{kind_of_bool, kind_of_int, wide_so, narrow_so}
use Rattle.hll_expressions.proofs.Describing.{no_truth, no_whole, truth_wanted, whole_wanted}
use Rattle.hll_expressions.proofs.Firsts.{before, behind, none_both, so, not_so}
use Rattle.hll_expressions.proofs.FormLemmas.{whole_given}

-- what an operator makes
abbrev made : Op → Judged → Judged → Kind
made o l r = result_kind o (ends_of l.kind) (ends_of r.kind)

-- ---- a logical operator

-- what a logical operator wants
wants_logical : (o : Op) (j : Judged) → is_logical o ≡ true → wants_truth j ≡ wants_operand o j
wants_logical o j log i = if sym log i then wants_truth j else wants_whole j

logical_left : (o : Op) (needs : Bool) (g : Given) (l : Judged) → is_logical o ≡ true → Describes needs g l → (known g).kind ≡ truth → wants_operand o l ≡ []
logical_left o needs g l log d is = sym (wants_logical o l log) ∙ truth_wanted l (sym d.kind ∙ is)

pub left_no_truth : (c : Context) (o : Op) (at : ℕ) (needs : Bool) (g : Given) (l r : Judged) (f : StaticFault) → is_logical o ≡ true → Describes needs g l → IsFaultAt (wants_truth (known g)) f → IsFaultAt (operator_faults c o at l r) f
left_no_truth c o at needs g l r f log d h = before (wants_operand o l) _ f (subst (λ fs. IsFaultAt fs f) (wants_logical o l log) (no_truth needs g l f d h))

pub right_no_truth : (c : Context) (o : Op) (at : ℕ) (needs : Bool) (g h : Given) (l r : Judged) (f : StaticFault) → is_logical o ≡ true → (known g).kind ≡ truth → Describes false g l → Describes needs h r → IsFaultAt (wants_truth (known h)) f →
    IsFaultAt (operator_faults c o at l r) f
right_no_truth c o at needs g h l r f log left d e wrong =
    behind (wants_operand o l) _ f (logical_left o false g l log d left) (before (wants_operand o r) _ f (subst (λ fs. IsFaultAt fs f) (wants_logical o r log) (no_truth needs h r f e wrong)))

divides_never : (o : Op) → is_logical o ≡ true → is_division o ≡ false
divides_never op.Same h = refl
divides_never op.Differ h = refl
divides_never op.Implies h = refl
divides_never op.Or h = refl
divides_never op.And h = refl
divides_never op.Plus h = absurd (cc h)
divides_never op.Less h = absurd (cc h)
divides_never op.Times h = absurd (cc h)
divides_never op.Over h = absurd (cc h)
divides_never op.Rest h = absurd (cc h)

logical_makes : (o : Op) (a b : Ends) → is_logical o ≡ true → result_kind o a b ≡ truth
logical_makes op.Same a b h = refl
logical_makes op.Differ a b h = refl
logical_makes op.Implies a b h = refl
logical_makes op.Or a b h = refl
logical_makes op.And a b h = refl
logical_makes op.Plus a b h = absurd (cc h)
logical_makes op.Less a b h = absurd (cc h)
logical_makes op.Times a b h = absurd (cc h)
logical_makes op.Over a b h = absurd (cc h)
logical_makes op.Rest a b h = absurd (cc h)

never : (a b : Bool) → (a && (false && b)) ≡ false
never true b = refl
never false b = refl

pub logical_further : (c : Context) (o : Op) (at : ℕ) (needs : Bool) (g h k : Given) (l r : Judged) → is_logical o ≡ true → (known g).kind ≡ truth → (known h).kind ≡ truth → k ≡ Whole at Truths None → Describes false g l → Describes needs h r →
    (operator_faults c o at l r ≡ []) × IsWhole at (result_kind o (ends_of l.kind) (ends_of r.kind)) None k × (is_logical o ≡ false → AreNarrow l r)
logical_further c o at needs g h k l r log left right is d e = (
  none_both (wants_operand o l) _ (logical_left o false g l log d left)
      (none_both (wants_operand o r) _ (logical_left o needs h r log e right)
      (none_both (fault_if (by_zero c.needs_constant o r) why.Range at) (wide_at (ends_of (made o l r)) at)
      (not_so (by_zero c.needs_constant o r) why.Range at (ap (λ b. c.needs_constant && (b && int_eq (number r.value) (pos 0))) (divides_never o log) ∙ never c.needs_constant (int_eq (number r.value) (pos 0))))
      (not_so (is_wide (ends_of (made o l r))) why.Wide at (ap (λ (m : Kind). is_wide (ends_of m)) (logical_makes o (ends_of l.kind) (ends_of r.kind) log))))),
  subst (IsWhole at (made o l r) None) (sym is) (whole_given at Truths (made o l r) None (kind_of_bool ∙ sym (logical_makes o (ends_of l.kind) (ends_of r.kind) log))),
  λ no. let other : true ≡ false = sym log ∙ no in absurd (cc other),
)

-- ---- an arithmetic operator

-- what an arithmetic operator wants
wants_arithmetic : (o : Op) (j : Judged) → is_logical o ≡ false → wants_whole j ≡ wants_operand o j
wants_arithmetic o j log i = if sym log i then wants_truth j else wants_whole j

arithmetic_left : (o : Op) (needs : Bool) (g : Given) (l : Judged) (i : Interval) → is_logical o ≡ false → Describes needs g l → (known g).kind ≡ whole (ends i) → wants_operand o l ≡ []
arithmetic_left o needs g l i log d is = sym (wants_arithmetic o l log) ∙ whole_wanted l (ends i) (sym d.kind ∙ is)

pub left_no_whole : (c : Context) (o : Op) (at : ℕ) (needs : Bool) (g : Given) (l r : Judged) (f : StaticFault) → is_logical o ≡ false → Describes needs g l → IsFaultAt (wants_whole (known g)) f → IsFaultAt (operator_faults c o at l r) f
left_no_whole c o at needs g l r f log d h = before (wants_operand o l) _ f (subst (λ fs. IsFaultAt fs f) (wants_arithmetic o l log) (no_whole needs g l f d h))

pub right_no_whole : (c : Context) (o : Op) (at : ℕ) (needs : Bool) (g h : Given) (l r : Judged) (i : Interval) (f : StaticFault) → is_logical o ≡ false → (known g).kind ≡ whole (ends i) → Describes false g l → Describes needs h r → IsFaultAt (wants_whole (known h)) f →
    IsFaultAt (operator_faults c o at l r) f
right_no_whole c o at needs g h l r i f log left d e wrong =
    behind (wants_operand o l) _ f (arithmetic_left o false g l i log d left) (before (wants_operand o r) _ f (subst (λ fs. IsFaultAt fs f) (wants_arithmetic o r log) (no_whole needs h r f e wrong)))

-- two operands that are whole numbers
pub record AreWhole (o : Op) (needs : Bool) (g h : Given) (l r : Judged) (i j : Interval) : Type 0 where
  pub arithmetic : is_logical o ≡ false
  pub left : (known g).kind ≡ whole (ends i)
  pub right : (known h).kind ≡ whole (ends j)
  pub of_left : Describes false g l
  pub of_right : Describes needs h r

left_wanted : (o : Op) (needs : Bool) (g h : Given) (l r : Judged) (i j : Interval) → AreWhole o needs g h l r i j → wants_operand o l ≡ []
left_wanted o needs g h l r i j w = arithmetic_left o false g l i w.arithmetic w.of_left w.left

right_wanted : (o : Op) (needs : Bool) (g h : Given) (l r : Judged) (i j : Interval) → AreWhole o needs g h l r i j → wants_operand o r ≡ []
right_wanted o needs g h l r i j w = arithmetic_left o needs h r j w.arithmetic w.of_right w.right

pub zero_refused : (c : Context) (o : Op) (at : ℕ) (needs b : Bool) (g h : Given) (l r : Judged) (i j : Interval) (f : StaticFault) → AreWhole o needs g h l r i j → c.needs_constant ≡ needs → b ≡ by_zero needs o r → IsFaultAt (fault_if b why.Range at) f →
    IsFaultAt (operator_faults c o at l r) f
zero_refused c o at needs b g h l r i j f w same is wrong =
    behind (wants_operand o l) _ f (left_wanted o needs g h l r i j w) (behind (wants_operand o r) _ f (right_wanted o needs g h l r i j w) (before (fault_if (by_zero c.needs_constant o r) why.Range at) _ f
    (subst (λ fs. IsFaultAt fs f) (λ t. fault_if ((is ∙ ap (λ n. by_zero n o r) (sym same)) t) why.Range at) wrong)))

-- the range that is made
ranges_same : (o : Op) (needs : Bool) (g h : Given) (l r : Judged) (i j : Interval) → AreWhole o needs g h l r i j → made o l r ≡ result_kind o (ends i) (ends j)
ranges_same o needs g h l r i j w = (λ t. result_kind o (ends_of ((sym w.of_left.kind ∙ w.left) t)) (ends_of ((sym w.of_right.kind ∙ w.right) t)))

no_zero : (c : Context) (o : Op) (at : ℕ) (needs b : Bool) (r : Judged) → c.needs_constant ≡ needs → b ≡ by_zero needs o r → b ≡ false → fault_if (by_zero c.needs_constant o r) why.Range at ≡ []
no_zero c o at needs b r same is not_zero = not_so (by_zero c.needs_constant o r) why.Range at (ap (λ n. by_zero n o r) same ∙ sym is ∙ not_zero)

pub wide_refused : (c : Context) (o : Op) (at : ℕ) (needs b : Bool) (g h : Given) (l r : Judged) (i j : Interval) (k : Option Interval) (f : StaticFault) → AreWhole o needs g h l r i j → c.needs_constant ≡ needs → b ≡ by_zero needs o r → b ≡ false →
    k ≡ None → IsInterval k (arithmetic_range o (ends i) (ends j)) → f ≡ answer.Fault why.Wide at → IsFaultAt (operator_faults c o at l r) f
wide_refused c o at needs b g h l r i j k f w same is not_zero none interval answered =
    behind (wants_operand o l) _ f (left_wanted o needs g h l r i j w) (behind (wants_operand o r) _ f (right_wanted o needs g h l r i j w)
    (behind (fault_if (by_zero c.needs_constant o r) why.Range at) _ f (no_zero c o at needs b r same is not_zero)
    (subst (IsFaultAt (wide_at (ends_of (made o l r)) at)) (sym answered) (so (is_wide (ends_of (made o l r))) why.Wide at
    (ap (λ (m : Kind). is_wide (ends_of m)) (ranges_same o needs g h l r i j w) ∙ wide_so (arithmetic_range o (ends i) (ends j)) (subst (λ (x : Option Interval). IsInterval x (arithmetic_range o (ends i) (ends j))) none interval))))))

arithmetic_makes : (o : Op) (a b : Ends) → is_logical o ≡ false → result_kind o a b ≡ whole (arithmetic_range o a b)
arithmetic_makes op.Same a b h = absurd (cc h)
arithmetic_makes op.Differ a b h = absurd (cc h)
arithmetic_makes op.Implies a b h = absurd (cc h)
arithmetic_makes op.Or a b h = absurd (cc h)
arithmetic_makes op.And a b h = absurd (cc h)
arithmetic_makes op.Plus a b h = refl
arithmetic_makes op.Less a b h = refl
arithmetic_makes op.Times a b h = refl
arithmetic_makes op.Over a b h = refl
arithmetic_makes op.Rest a b h = refl

narrow_one : (k : Kind) (i : Interval) → k ≡ whole (ends i) → is_wide (ends_of k) ≡ false
narrow_one k i is = ap (λ (m : Kind). is_wide (ends_of m)) is ∙ narrow_so (ends i) i.narrow

pub arithmetic_further : (c : Context) (o : Op) (at : ℕ) (needs b : Bool) (g h k : Given) (l r : Judged) (i j : Interval) (m : Option Interval) (n : Interval) → AreWhole o needs g h l r i j → c.needs_constant ≡ needs → b ≡ by_zero needs o r → b ≡ false →
    m ≡ Some n → IsInterval m (arithmetic_range o (ends i) (ends j)) → k ≡ Whole at (Int n) None →
    (operator_faults c o at l r ≡ []) × IsWhole at (result_kind o (ends_of l.kind) (ends_of r.kind)) None k × (is_logical o ≡ false → AreNarrow l r)
arithmetic_further c o at needs b g h k l r i j m n w same is not_zero there interval answered =
    let p = subst (λ (x : Option Interval). IsInterval x (arithmetic_range o (ends i) (ends j))) there interval in
    let ranges = ranges_same o needs g h l r i j w in (
      none_both (wants_operand o l) _ (left_wanted o needs g h l r i j w)
          (none_both (wants_operand o r) _ (right_wanted o needs g h l r i j w)
          (none_both (fault_if (by_zero c.needs_constant o r) why.Range at) (wide_at (ends_of (made o l r)) at) (no_zero c o at needs b r same is not_zero)
          (not_so (is_wide (ends_of (made o l r))) why.Wide at (ap (λ (x : Kind). is_wide (ends_of x)) ranges ∙ narrow_so (arithmetic_range o (ends i) (ends j)) p.1)))),
      subst (IsWhole at (made o l r) None) (sym answered)
          (whole_given at (Int n) (made o l r) None (kind_of_int n ∙ ap whole p.0 ∙ sym (arithmetic_makes o (ends i) (ends j) w.arithmetic) ∙ sym ranges)),
      λ _. (narrow_one l.kind i (sym w.of_left.kind ∙ w.left), narrow_one r.kind j (sym w.of_right.kind ∙ w.right)),
    )
