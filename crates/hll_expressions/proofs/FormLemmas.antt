-- Forms with a single cell: what is answered of them, by what is known of their parts.
use Rattle.std.proofs.Common.{◌≡◌, ℕ, ℤ, pos, ◌≤ℤ◌, ◌<ℤ◌, neg_ℤ, unsigned_abs, FitsSigned, Bool, true, false, not, List, [], ◌++◌, Option, Some, None, Result, Ok, Err, ◌⊎◌, inl, inr, ⊎_elim, refl, sym, ap, subst, ◌∙◌, arith}
use Rattle.std.specs.Int.{w128}
use Rattle.std.specs.Option.{SomeIff}
use Rattle.std.specs.Borrow.{Bor}
use Rattle.std.proofs.lemmas.Int.{ints}
use Rattle.intervals.specs.Answers.{IsInterval, IsNew}
use Rattle.intervals.specs.Ends.{Ends, Holds}
use Rattle.intervals.specs.Rules.{negation, absolute}
use Rattle.intervals.specs.Sound.{IsSound}
use Rattle.intervals.specs.declared.interval.Interval.{Interval}
use Rattle.intervals.proofs.AnswerLemmas.{Bounded, bounded}
use Rattle.intervals.proofs.Soundness.{negation_sound, absolute_sound}
use Rattle.hll_tree.specs.declared.tree.Cmp.{Cmp}
use Rattle.hll_tree.specs.declared.tree.Cmp.TheVariants as cmp
use Rattle.hll_meaning.specs.declared.fault.StaticKind.TheVariants as why
use Rattle.hll_meaning.specs.declared.ty.Ty.{Ty, Int}
use Rattle.hll_meaning.specs.Kinds.{Kind, truth, whole, element, array, struct, Value, IsOf}
use Rattle.hll_meaning.specs.Types.{ends, kind_of}
use Rattle.hll_meaning.specs.Values.{of_number, of_truth, number, is_true, compared}
use Rattle.hll_meaning.specs.Fitting.{is_scalar, is_whole, ends_of, accepts}
use Rattle.hll_meaning.specs.Judging.{Fault, fault_if, Context, Judged, given_whole, no_constant, wants_truth, wants_whole, wants_scalar, wants_kind_of, comparison_faults, unfit}
use Rattle.hll_meaning.proofs.Numbers.{whole_holds, whole_of, itself, truth_of}
use Rattle.hll_expressions.specs.declared.faults.StaticFault.{StaticFault}
use Rattle.hll_expressions.specs.declared.faults.StaticFault.TheVariants as answer
use Rattle.hll_expressions.specs.declared.given.Given.{Given, Whole}
use Rattle.hll_expressions.specs.Answers.{IsFaultAt, IsJudged}
use Rattle.hll_expressions.specs.Chains.{IsNear}
use Rattle.hll_expressions.specs.Described.{known, number_of, Describes, IsAnswer, IsWhole}
use Rattle.hll_expressions.specs.Figures.{truth_number, Makes, IsOther, Compares}
use Rattle.hll_expressions.specs.Forms.{number_said, not_said, compared_said, within_said, IsWholeNumber, IsMadeOf, IsKindWanted}
use Rattle.hll_expressions.proofs.KindForms.{kind_of_int, narrow_so}
use Rattle.hll_expressions.proofs.Firsts.{before, behind, none_both, not_so}
use Rattle.hll_expressions.proofs.KnownForms.{known_whole, number_whole}
use Rattle.hll_expressions.proofs.Describing.{describes_whole, no_whole, no_truth, no_scalar, is_whole_one, whole_wanted, truth_wanted, scalar_wanted, narrow_number, made_number}

-- ---- given whole

pub whole_given : (at : ℕ) (t : Ty) (k : Kind) (x : Option ℤ) → kind_of t ≡ k → IsWhole at k x (Whole at t x)
whole_given at t k x same = record { same = known_whole at t x ∙ ap (λ l. given_whole at [] l []) same; numbered = number_whole at t x }

-- a whole number with a range
pub whole_number_fits : (at : ℕ) (o : Option Interval) (i : Interval) (x : Option ℤ) → o ≡ Some i → IsWholeNumber at o x (Ok (Whole at (Int i) x))
whole_number_fits at o i x is e interval =
    let p = subst (λ r. IsInterval r e) is interval in
    (narrow_so e p.1, whole_given at (Int i) (whole e) x (kind_of_int i ∙ ap whole p.0))

-- a truth value
pub describes_truth : (needs : Bool) (g : Given) (at : ℕ) (fs : List Fault) (x : Option ℤ) (b : Bool) →
    IsWhole at truth x g → fs ≡ [] → (needs ≡ true → x ≡ Some (number (of_truth b))) → Describes needs g (given_whole at fs truth (of_truth b))
describes_truth needs g at fs x b w none worth = describes_whole needs g at fs truth x (of_truth b) w none (λ n. (refl, worth n, truth_of b))

pub literal_said : (at : ℕ) (b : Bool) (n : ℤ) (g : Given) → n ≡ truth_number b → IsWhole at truth (Some n) g → (needs : Bool) → Describes needs g (given_whole at [] truth (of_truth b))
literal_said at b n g same w needs = describes_truth needs g at [] (Some n) b w refl (λ _. ap Some same)

-- ---- numbers

out_of_order : (e : Ends) → e.lo ≤ℤ e.hi → ¬ (e.hi <ℤ e.lo)
out_of_order e h k = omega (arith, ints)

pub in_order : (r : Option Interval) (e : Ends) → e.lo ≤ℤ e.hi → IsNew r e → IsInterval r e
in_order None e h n = ⊎_elim (λ out. absurd (out_of_order e h out)) (λ wide. wide) n
in_order (Some i) e h n = (n.0, n.2)

alone : (n : ℤ) → n ≤ℤ n
alone n = omega (arith, ints)

pub number_answer : (at : ℕ) (n : ℤ) (r : Option Interval) (result : Result Given StaticFault) → IsNew r (record { lo = n; hi = n }) → IsWholeNumber at r (Some n) result →
    (needs : Bool) → IsAnswer needs (number_said at n) result
number_answer at n r result new h needs =
    narrow_number needs at [] (record { lo = n; hi = n }) r (Some n) (of_number n) result refl (in_order r (record { lo = n; hi = n }) (alone n) new) h
    (λ _. (refl, λ _. whole_of (record { lo = n; hi = n }) n (itself n)))

-- a number of an interval stands near ranges
near_held : (lo hi x : ℤ) → Bounded lo hi → lo ≤ℤ x → x ≤ℤ hi → IsNear x
near_held lo hi x b above below = let least = b.least in let greatest = b.greatest in (omega (arith, ints), omega (arith, ints))

pub near : (j : Judged) (i : Interval) → j.kind ≡ whole (ends i) → IsOf j.kind j.value → IsNear (number j.value)
near j i k lies =
    let h : Holds (ends i) (number j.value) = subst (λ l. Holds (ends_of l) (number j.value)) k (whole_holds j.kind j.value (ap is_whole k) lies) in
    near_held i.lo i.hi (number j.value) (bounded i) h.above h.below

-- ---- numbers made of one

near_fits : (x : ℤ) → IsNear x → FitsSigned w128 (neg_ℤ x)
near_fits x close = let low = close.0 in let high = close.1 in omega (arith, ints)

-- what is found where it fits
pub makes : (value : ℤ → ℤ) (o r : Option ℤ) (n : ℤ) → o ≡ Some n → SomeIff r (FitsSigned w128 (neg_ℤ n)) (value n) → Makes value o r
makes value o None n is h x same close = let e : n ≡ x = cc in absurd (h (subst (λ y. FitsSigned w128 (neg_ℤ y)) (sym e) (near_fits x close)))
makes value o (Some y) n is h x same close = let e : n ≡ x = cc in ap Some (h.1 ∙ ap value e)

pub made_fails : (at : ℕ) (g : Given) (rule : Ends → Ends) (value : ℤ → ℤ) (f : StaticFault) → IsFaultAt (wants_whole (known g)) f → IsMadeOf at g rule value (Err f)
made_fails at g rule value f h needs j d = behind j.faults _ f d.faultless (before (wants_whole j) _ f (no_whole needs g j f d h))

pub made_answer : (at : ℕ) (g : Given) (rule : Ends → Ends) (value : ℤ → ℤ) (i : Interval) (r : Option Interval) (x : Option ℤ) (result : Result Given StaticFault) →
    IsSound rule value → (known g).kind ≡ whole (ends i) → IsInterval r (rule (ends i)) → Makes value (number_of g) x → IsWholeNumber at r x result → IsMadeOf at g rule value result
made_answer at g rule value i r x result sound k interval found answers needs j d =
    let kind = is_whole_one needs g j i d k in
    made_number needs g j at rule value i r x result sound d kind interval answers (λ same lies. found (number j.value) same (near j i kind lies))

pub minus_answer : (at : ℕ) (g : Given) (i : Interval) (r : Option Interval) (x : Option ℤ) (result : Result Given StaticFault) →
    (known g).kind ≡ whole (ends i) → IsInterval r (negation (ends i)) → Makes neg_ℤ (number_of g) x → IsWholeNumber at r x result → IsMadeOf at g negation neg_ℤ result
minus_answer at g i r x result = made_answer at g negation neg_ℤ i r x result negation_sound

pub size_answer : (at : ℕ) (g : Given) (i : Interval) (r : Option Interval) (x : Option ℤ) (result : Result Given StaticFault) →
    (known g).kind ≡ whole (ends i) → IsInterval r (absolute (ends i)) → Makes (λ y. pos (unsigned_abs y)) (number_of g) x → IsWholeNumber at r x result →
    IsMadeOf at g absolute (λ y. pos (unsigned_abs y)) result
size_answer at g i r x result = made_answer at g absolute (λ y. pos (unsigned_abs y)) i r x result absolute_sound

-- ---- the other truth value

pub not_fails : (at : ℕ) (g : Given) (f : StaticFault) → IsFaultAt (wants_truth (known g)) f → (needs : Bool) (j : Judged) → Describes needs g j → IsFaultAt (not_said at j).faults f
not_fails at g f h needs j d = behind j.faults _ f d.faultless (no_truth needs g j f d h)

pub not_answer : (at : ℕ) (g : Given) (x : Option ℤ) (r : Given) → (known g).kind ≡ truth → IsOther (number_of g) x → IsWhole at truth x r →
    (needs : Bool) (j : Judged) → Describes needs g j → Describes needs r (not_said at j)
not_answer at g x r k other w needs j d =
    describes_truth needs r at (j.faults ++ wants_truth j) x (not (is_true j.value)) w (none_both j.faults (wants_truth j) d.faultless (truth_wanted j (sym d.kind ∙ k)))
    (λ n. other (number j.value) (d.worth n).same)

-- ---- the kind of another cell

accepts_cell : (k l : Kind) → is_scalar k ≡ true → is_scalar l ≡ false → accepts k l ≡ false
accepts_cell truth truth h n = absurd (cc n)
accepts_cell truth (whole e) h n = absurd (cc n)
accepts_cell truth (element root e) h n = absurd (cc n)
accepts_cell truth (array m l) h n = refl
accepts_cell truth (struct name fields) h n = refl
accepts_cell (whole e) truth h n = absurd (cc n)
accepts_cell (whole e) (whole e') h n = absurd (cc n)
accepts_cell (whole e) (element root e') h n = absurd (cc n)
accepts_cell (whole e) (array m l) h n = refl
accepts_cell (whole e) (struct name fields) h n = refl
accepts_cell (element root e) truth h n = absurd (cc n)
accepts_cell (element root e) (whole e') h n = absurd (cc n)
accepts_cell (element root e) (element root' e') h n = absurd (cc n)
accepts_cell (element root e) (array m l) h n = refl
accepts_cell (element root e) (struct name fields) h n = refl
accepts_cell (array m k) l h n = absurd (cc h)
accepts_cell (struct name fields) l h n = absurd (cc h)

-- what isn't one cell isn't of the kind of one
unscalar : (a j : Judged) (f : StaticFault) → is_scalar a.kind ≡ true → IsFaultAt (wants_scalar j) f → IsFaultAt (wants_kind_of a j) f
unscalar a j answer.Memory cell h = tt
unscalar a j (answer.Fault of at) cell h = by (is_scalar j.kind) refl h
  where
    by : (b : Bool) → is_scalar j.kind ≡ b → IsFaultAt (fault_if (not b) why.Mismatch j.at) (answer.Fault of at) → IsFaultAt (wants_kind_of a j) (answer.Fault of at)
    by true same h = absurd (cc h)
    by false same h = subst (λ (b : Bool). IsFaultAt (fault_if (not b) why.Mismatch j.at) (answer.Fault of at)) (sym (accepts_cell a.kind j.kind cell same)) h

pub kind_fails : (t : Ty) (g : Given) (f : StaticFault) → IsFaultAt (wants_scalar (known g)) f → IsKindWanted t g (Err f)
kind_fails t g f h needs a j cell same d = unscalar a j f cell (no_scalar needs g j f d h)

same_wanted : (t own : Ty) (g : Given) (at : ℕ) (needs : Bool) (a j : Judged) → at ≡ (known g).at → kind_of own ≡ (known g).kind → kind_of t ≡ a.kind → Describes needs g j →
    unfit at (kind_of own) (kind_of t) ≡ wants_kind_of a j
same_wanted t own g at needs a j place kind same d =
    let q : kind_of own ≡ j.kind = kind ∙ d.kind in
    let p : at ≡ j.at = place ∙ d.place in
    (λ i. fault_if (not (accepts (same i) (q i))) why.Mismatch (p i))

pub kind_refused : (t own : Ty) (g : Given) (at : ℕ) (f : StaticFault) → at ≡ (known g).at → kind_of own ≡ (known g).kind → IsFaultAt (unfit at (kind_of own) (kind_of t)) f → IsKindWanted t g (Err f)
kind_refused t own g at f place kind h needs a j cell same d = subst (λ fs. IsFaultAt fs f) (same_wanted t own g at needs a j place kind same d) h

pub kind_taken : (t : Ty) (own : Bor Ty) (g : Given) (at : ℕ) → at ≡ (known g).at → kind_of own.now ≡ (known g).kind → unfit at (kind_of own.now) (kind_of t) ≡ [] → IsKindWanted t g (Ok own)
kind_taken t own g at place kind h needs a j cell same d = (sym (same_wanted t own.now g at needs a j place kind same d) ∙ h, kind ∙ d.kind)

-- ---- two operands

-- no cell before a kind that is wanted
pub alike_fails : (l r : Given) (f : StaticFault) → IsFaultAt (wants_scalar (known l)) f →
    (needs : Bool) (a b : Judged) → Describes needs l a → Describes needs r b → IsFaultAt (wants_scalar a ++ wants_kind_of a b) f
alike_fails l r f h needs a b d e = before (wants_scalar a) _ f (no_scalar needs l a f d h)

pub cell_of : (needs : Bool) (g : Given) (j : Judged) → Describes needs g j → is_scalar (known g).kind ≡ true → is_scalar j.kind ≡ true
cell_of needs g j d h = subst (λ k. is_scalar k ≡ true) d.kind h

pub alike_refused : (l r : Given) (t : Ty) (f : StaticFault) → is_scalar (known l).kind ≡ true → kind_of t ≡ (known l).kind → IsKindWanted t r (Err f) →
    (needs : Bool) (a b : Judged) → Describes needs l a → Describes needs r b → IsFaultAt (wants_scalar a ++ wants_kind_of a b) f
alike_refused l r t f cell kind h needs a b d e =
    let c = cell_of needs l a d cell in
    behind (wants_scalar a) _ f (scalar_wanted a c) (h needs a b c (kind ∙ d.kind) e)

pub alike_so : (l r : Given) (t : Ty) (own : Bor Ty) → is_scalar (known l).kind ≡ true → kind_of t ≡ (known l).kind → IsKindWanted t r (Ok own) →
    (needs : Bool) (a b : Judged) → Describes needs l a → Describes needs r b → wants_scalar a ++ wants_kind_of a b ≡ []
alike_so l r t own cell kind h needs a b d e =
    let c = cell_of needs l a d cell in
    none_both (wants_scalar a) _ (scalar_wanted a c) (h needs a b c (kind ∙ d.kind) e).0

pub first_no_whole : (l r : Given) (f : StaticFault) → IsFaultAt (wants_whole (known l)) f →
    (needs : Bool) (a b : Judged) → Describes needs l a → Describes needs r b → IsFaultAt (wants_whole a ++ wants_whole b) f
first_no_whole l r f h needs a b d e = before (wants_whole a) _ f (no_whole needs l a f d h)

pub second_no_whole : (l r : Given) (i : Interval) (f : StaticFault) → (known l).kind ≡ whole (ends i) → IsFaultAt (wants_whole (known r)) f →
    (needs : Bool) (a b : Judged) → Describes needs l a → Describes needs r b → IsFaultAt (wants_whole a ++ wants_whole b) f
second_no_whole l r i f k h needs a b d e = behind (wants_whole a) _ f (whole_wanted a (ends i) (is_whole_one needs l a i d k)) (no_whole needs r b f e h)

pub both_are_whole : (l r : Given) (i i' : Interval) → (known l).kind ≡ whole (ends i) → (known r).kind ≡ whole (ends i') →
    (needs : Bool) (a b : Judged) → Describes needs l a → Describes needs r b → wants_whole a ++ wants_whole b ≡ []
both_are_whole l r i i' k k' needs a b d e =
    none_both (wants_whole a) _ (whole_wanted a (ends i) (is_whole_one needs l a i d k)) (whole_wanted b (ends i') (is_whole_one needs r b i' e k'))

-- what a comparison wants, by its operator
pub comparable_alike : (o : Cmp) (l r : Given) (result : Result Unit StaticFault) → (o ≡ cmp.Eq) ⊎ (o ≡ cmp.Ne) →
    ((needs : Bool) (a b : Judged) → Describes needs l a → Describes needs r b → IsJudged (wants_scalar a ++ wants_kind_of a b) result) →
    (needs : Bool) (a b : Judged) → Describes needs l a → Describes needs r b → IsJudged (comparison_faults o a b) result
comparable_alike o l r result (inl is) h needs a b d e = subst (λ (x : Cmp). IsJudged (comparison_faults x a b) result) (sym is) (h needs a b d e)
comparable_alike o l r result (inr is) h needs a b d e = subst (λ (x : Cmp). IsJudged (comparison_faults x a b) result) (sym is) (h needs a b d e)

pub comparable_whole : (o : Cmp) (l r : Given) (result : Result Unit StaticFault) → (o ≡ cmp.Lt) ⊎ ((o ≡ cmp.Le) ⊎ ((o ≡ cmp.Gt) ⊎ (o ≡ cmp.Ge))) →
    ((needs : Bool) (a b : Judged) → Describes needs l a → Describes needs r b → IsJudged (wants_whole a ++ wants_whole b) result) →
    (needs : Bool) (a b : Judged) → Describes needs l a → Describes needs r b → IsJudged (comparison_faults o a b) result
comparable_whole o l r result (inl is) h needs a b d e = subst (λ (x : Cmp). IsJudged (comparison_faults x a b) result) (sym is) (h needs a b d e)
comparable_whole o l r result (inr (inl is)) h needs a b d e = subst (λ (x : Cmp). IsJudged (comparison_faults x a b) result) (sym is) (h needs a b d e)
comparable_whole o l r result (inr (inr (inl is))) h needs a b d e = subst (λ (x : Cmp). IsJudged (comparison_faults x a b) result) (sym is) (h needs a b d e)
comparable_whole o l r result (inr (inr (inr is))) h needs a b d e = subst (λ (x : Cmp). IsJudged (comparison_faults x a b) result) (sym is) (h needs a b d e)

pub compared_fails : (at : ℕ) (o : Cmp) (l r : Given) (f : StaticFault) →
    ((needs : Bool) (a b : Judged) → Describes needs l a → Describes needs r b → IsFaultAt (comparison_faults o a b) f) →
    (needs : Bool) (a b : Judged) → Describes needs l a → Describes needs r b → IsFaultAt (compared_said at o a b).faults f
compared_fails at o l r f h needs a b d e = behind a.faults _ f d.faultless (behind b.faults _ f e.faultless (h needs a b d e))

pub compared_answer : (at : ℕ) (o : Cmp) (l r : Given) (x : Option ℤ) (g : Given) →
    ((needs : Bool) (a b : Judged) → Describes needs l a → Describes needs r b → comparison_faults o a b ≡ []) →
    Compares o (number_of l) (number_of r) x → IsWhole at truth x g →
    (needs : Bool) (a b : Judged) → Describes needs l a → Describes needs r b → Describes needs g (compared_said at o a b)
compared_answer at o l r x g h found w needs a b d e =
    describes_truth needs g at _ x (compared o (number a.value) (number b.value)) w
    (none_both a.faults _ d.faultless (none_both b.faults _ e.faultless (h needs a b d e)))
    (λ n. found (number a.value) (number b.value) (d.worth n).same (e.worth n).same)

-- ---- no constants

-- a truth value that is no constant
pub starts_fails : (at : ℕ) (needs : Bool) (f : StaticFault) → IsFaultAt (fault_if needs why.Constant at) f → (c : Context) → c.needs_constant ≡ needs → IsFaultAt (no_constant c at) f
starts_fails at needs f h c same = subst (λ (b : Bool). IsFaultAt (fault_if b why.Constant at) f) (sym same) h

pub free : (c : Context) (at : ℕ) (needs : Bool) → c.needs_constant ≡ needs → needs ≡ false → no_constant c at ≡ []
free c at needs same is = not_so c.needs_constant why.Constant at (same ∙ is)

-- what isn't a constant is no worse for it where none is needed
pub describes_inconstant : (needs : Bool) (g : Given) (at : ℕ) (fs : List Fault) (k : Kind) (v : Value) → IsWhole at k None g → fs ≡ [] → needs ≡ false → Describes needs g (given_whole at fs k v)
describes_inconstant needs g at fs k v w none is = describes_whole needs g at fs k None v w none (λ n. absurd (let e : true ≡ false = sym n ∙ is in cc e))

pub starts : (at : ℕ) (needs : Bool) (g : Given) → needs ≡ false → IsWhole at truth None g → (c : Context) → c.needs_constant ≡ needs → Describes needs g (given_whole at (no_constant c at) truth [])
starts at needs g is w c same = describes_inconstant needs g at (no_constant c at) truth [] w (free c at needs same is) is

pub within_fails : (at : ℕ) (g : Given) (f : StaticFault) → IsFaultAt (wants_whole (known g)) f →
    (needs : Bool) (c : Context) (j : Judged) → Describes needs g j → IsFaultAt (within_said c at j).faults f
within_fails at g f h needs c j d = behind j.faults _ f d.faultless (before (wants_whole j) _ f (no_whole needs g j f d h))

within_after : (at : ℕ) (fs gs : List Fault) (needs : Bool) (result : Result Given StaticFault) → fs ≡ [] → IsAnswer needs (given_whole at gs truth []) result → IsAnswer needs (given_whole at (fs ++ gs) truth []) result
within_after at fs gs needs result none h = subst (λ xs. IsAnswer needs (given_whole at (xs ++ gs) truth []) result) (sym none) h

pub within_answer : (at : ℕ) (g : Given) (i : Interval) (needs : Bool) (result : Result Given StaticFault) → (known g).kind ≡ whole (ends i) →
    ((c : Context) → c.needs_constant ≡ needs → IsAnswer needs (given_whole at (no_constant c at) truth []) result) →
    (c : Context) (j : Judged) → c.needs_constant ≡ needs → Describes needs g j → IsAnswer needs (within_said c at j) result
within_answer at g i needs result k h c j same d =
    within_after at j.faults _ needs result d.faultless
    (within_after at (wants_whole j) _ needs result (whole_wanted j (ends i) (is_whole_one needs g j i d k)) (h c same))
