-- Bounds, domains and quantifiers.
use Rattle.std.proofs.Common.{◌≡◌, ℕ, ℤ, pos, ◌+ℤ◌, ◌-ℤ◌, ◌≤ℤ◌, ◌<ℤ◌, int_lt, Bool, true, false, not, List, [], ◌++◌, Option, Some, None, Result, Ok, Err, ◌⊎◌, ⊎_elim, refl, sym, ap, subst, ◌∙◌, arith}
use Rattle.std.specs.Prelude.{option_map, MatchResult}
use Rattle.std.specs.Borrow.{Bor}
use Rattle.std.specs.Option.{option_copied}
use Rattle.std.proofs.lemmas.Int.{ints}
use Rattle.std.proofs.lemmas.List.{append-nil}
use Rattle.intervals.specs.Answers.{IsInterval}
use Rattle.intervals.specs.Ends.{Ends, IsWide}
use Rattle.intervals.specs.Rules.{multiple}
use Rattle.intervals.specs.declared.interval.Interval.{Interval}
use Rattle.hll_tree.specs.declared.tree.Name.{Name}
use Rattle.hll_tree.specs.declared.tree.Quant.TheVariants as quant
use Rattle.hll_meaning.specs.declared.fault.StaticKind.TheVariants as why
use Rattle.hll_meaning.specs.declared.ty.Ty.{Ty}
use Rattle.hll_meaning.specs.Kinds.{Kind, truth, whole}
use Rattle.hll_meaning.specs.Names.{Thing, type_of, under}
use Rattle.hll_meaning.specs.Types.{ends, kind_of}
use Rattle.hll_meaning.specs.Values.{number}
use Rattle.hll_meaning.specs.Fitting.{is_scalar, is_wide, ends_of}
use Rattle.hll_meaning.specs.Judging.{Fault, fault_if, Context, Judged, given_whole, wide_at, no_constant, wants_truth, wants_whole, from_to, bounds_of, count_of, bound_domain, thing_domain as said_domain}
use Rattle.hll_meaning.proofs.Wide.{wide_so, narrow_so}
use Rattle.hll_expressions.specs.declared.faults.StaticFault.{StaticFault}
use Rattle.hll_expressions.specs.declared.faults.StaticFault.TheVariants as answer
use Rattle.hll_expressions.specs.declared.given.Given.{Given}
use Rattle.hll_expressions.specs.Answers.{IsFaultAt}
use Rattle.hll_expressions.specs.Described.{known, number_of, Describes, IsAnswer, IsWhole}
use Rattle.hll_expressions.specs.Figures.{truths_said, summed_said, IsRange}
use Rattle.hll_expressions.specs.Forms.{AreBounds, IsDomain, IsQuantified, IsWholeNumber}
use Rattle.hll_expressions.proofs.Firsts.{before, behind, none_both, so, not_so}
use Rattle.hll_expressions.proofs.Describing.{no_whole, no_truth, is_whole_one, whole_wanted, truth_wanted}
use Rattle.hll_expressions.proofs.FormLemmas.{free, starts_fails, describes_inconstant}

-- ---- bounds

pub range_refused : (at : ℕ) (lo hi : ℤ) (f : StaticFault) → IsFaultAt (fault_if (int_lt hi lo) why.Range at) f → IsRange at lo hi (Err f)
range_refused at lo hi f h = before (fault_if (int_lt hi lo) why.Range at) _ f h

in_order_so : (a b : ℤ) → int_lt a b ≡ false → ¬ (a <ℤ b)
in_order_so a b h k = omega (arith, ints)

pub range_wide : (at : ℕ) (lo hi : ℤ) → int_lt hi lo ≡ false → (hi <ℤ lo) ⊎ IsWide (from_to lo hi) → IsRange at lo hi (Err (answer.Fault why.Wide at))
range_wide at lo hi ordered h =
    behind (fault_if (int_lt hi lo) why.Range at) _ (answer.Fault why.Wide at) (not_so (int_lt hi lo) why.Range at ordered)
    (so (is_wide (from_to lo hi)) why.Wide at (⊎_elim (λ out. absurd (in_order_so hi lo ordered out)) (λ w. wide_so (from_to lo hi) w) h))

pub range_fine : (at : ℕ) (lo hi : ℤ) (i : Interval) → int_lt hi lo ≡ false → ends i ≡ from_to lo hi → IsRange at lo hi (Ok i)
range_fine at lo hi i ordered same = (ordered, subst (λ e. is_wide e ≡ false) same (narrow_so (ends i) i.narrow), same)

pub lowest_fails : (l h : Given) (f : StaticFault) → IsFaultAt (wants_whole (known l)) f → AreBounds l h (Err f)
lowest_fails l h f w a b d e = behind a.faults _ f d.faultless (behind b.faults _ f e.faultless (before (wants_whole a) _ f (no_whole true l a f d w)))

pub greatest_fails : (l h : Given) (i : Interval) (f : StaticFault) → (known l).kind ≡ whole (ends i) → IsFaultAt (wants_whole (known h)) f → AreBounds l h (Err f)
greatest_fails l h i f k w a b d e =
    behind a.faults _ f d.faultless (behind b.faults _ f e.faultless
    (behind (wants_whole a) _ f (whole_wanted a (ends i) (is_whole_one true l a i d k)) (before (wants_whole b) _ f (no_whole true h b f e w))))

bounds_said : (a b : Judged) (i i' : Interval) (result : Result Interval StaticFault) → a.faults ≡ [] → b.faults ≡ [] → a.kind ≡ whole (ends i) → b.kind ≡ whole (ends i') → IsRange a.at (number a.value) (number b.value) result →
    MatchResult result (λ r. ((bounds_of a b).faults ≡ []) × (whole (ends r) ≡ (bounds_of a b).kind)) (IsFaultAt (bounds_of a b).faults)
bounds_said a b i i' (Ok r) none none' k k' h =
    (none_both a.faults _ none (none_both b.faults _ none' (none_both (wants_whole a) _ (whole_wanted a (ends i) k) (none_both (wants_whole b) _ (whole_wanted b (ends i') k') (none_both _ _ (not_so _ why.Range a.at h.0) (not_so _ why.Wide a.at h.1))))), ap whole h.2)
bounds_said a b i i' (Err f) none none' k k' h =
    behind a.faults _ f none (behind b.faults _ f none' (behind (wants_whole a) _ f (whole_wanted a (ends i) k) (behind (wants_whole b) _ f (whole_wanted b (ends i') k') h)))

pub bounds_answer : (l h : Given) (at : ℕ) (lo hi : ℤ) (i i' : Interval) (result : Result Interval StaticFault) → (known l).kind ≡ whole (ends i) → (known h).kind ≡ whole (ends i') →
    at ≡ (known l).at → number_of l ≡ Some lo → number_of h ≡ Some hi → IsRange at lo hi result → AreBounds l h result
bounds_answer l h at lo hi i i' result k k' place low high range a b d e =
    let p : at ≡ a.at = place ∙ d.place in
    let s = (d.worth refl).same in let t = (e.worth refl).same in
    let q : lo ≡ number a.value = cc (s, low) in
    let r : hi ≡ number b.value = cc (t, high) in
    bounds_said a b i i' result d.faultless e.faultless (is_whole_one true l a i d k) (is_whole_one true h b i' e k')
    (subst (λ y. IsRange a.at (number a.value) y result) r (subst (λ x. IsRange a.at x hi result) q (subst (λ n. IsRange n lo hi result) p range)))

-- ---- how many numbers

counted : (e : Ends) → e.lo ≤ℤ e.hi → int_lt e.hi e.lo ≡ false
counted e h = grind (arith, ints)

pub count_so : (e : Ends) (n : ℕ) → e.lo ≤ℤ e.hi → pos n ≡ (e.hi -ℤ e.lo) +ℤ pos 1 → n ≡ count_of e
count_so e n h same = rw (counted e h) (omega (arith, ints))

-- ---- quantifiers

pub truths_fail : (at : ℕ) (g : Given) (f : StaticFault) → IsFaultAt (wants_truth (known g)) f →
    (needs : Bool) (c : Context) (j : Judged) → Describes needs g j → IsFaultAt (truths_said c at j).faults f
truths_fail at g f h needs c j d = behind j.faults _ f d.faultless (before (wants_truth j) _ f (no_truth needs g j f d h))

pub truths_inconstant : (at : ℕ) (g : Given) (needs : Bool) (f : StaticFault) → (known g).kind ≡ truth → IsFaultAt (fault_if needs why.Constant at) f →
    (c : Context) (j : Judged) → c.needs_constant ≡ needs → Describes needs g j → IsFaultAt (truths_said c at j).faults f
truths_inconstant at g needs f k h c j same d = behind j.faults _ f d.faultless (behind (wants_truth j) _ f (truth_wanted j (sym d.kind ∙ k)) (starts_fails at needs f h c same))

pub truths_answer : (at : ℕ) (g : Given) (needs : Bool) (r : Given) → (known g).kind ≡ truth → needs ≡ false → IsWhole at truth None r →
    (c : Context) (j : Judged) → c.needs_constant ≡ needs → Describes needs g j → Describes needs r (truths_said c at j)
truths_answer at g needs r k is w c j same d =
    describes_inconstant needs r at _ truth [] w (none_both j.faults _ d.faultless (none_both (wants_truth j) _ (truth_wanted j (sym d.kind ∙ k)) (free c at needs same is))) is

pub summed_fails : (at : ℕ) (g : Given) (f : StaticFault) → IsFaultAt (wants_whole (known g)) f →
    (needs : Bool) (c : Context) (e : Ends) (j : Judged) → Describes needs g j → IsFaultAt (summed_said c at e j).faults f
summed_fails at g f h needs c e j d = behind j.faults _ f d.faultless (before (wants_whole j) _ f (no_whole needs g j f d h))

pub summed_inconstant : (at : ℕ) (g : Given) (needs : Bool) (i : Interval) (f : StaticFault) → (known g).kind ≡ whole (ends i) → IsFaultAt (fault_if needs why.Constant at) f →
    (c : Context) (e : Ends) (j : Judged) → c.needs_constant ≡ needs → Describes needs g j → IsFaultAt (summed_said c at e j).faults f
summed_inconstant at g needs i f k h c e j same d =
    behind j.faults _ f d.faultless (behind (wants_whole j) _ f (whole_wanted j (ends i) (is_whole_one needs g j i d k)) (before (no_constant c at) _ f (starts_fails at needs f h c same)))

summed_wide : (at : ℕ) (needs : Bool) (c : Context) (e own : Ends) (j : Judged) (r : Option Interval) (result : Result Given StaticFault) → j.faults ≡ [] → j.kind ≡ whole own → needs ≡ false → c.needs_constant ≡ needs →
    IsInterval r (multiple (count_of e) own) → IsWholeNumber at r None result → IsAnswer needs (summed_said c at e j) result
summed_wide at needs c e own j r (Ok g) none k is same interval h =
    let p = h (multiple (count_of e) own) interval in
    let q : multiple (count_of e) own ≡ multiple (count_of e) (ends_of j.kind) = ap (λ l. multiple (count_of e) (ends_of l)) (sym k) in
    describes_inconstant needs g at _ (whole (multiple (count_of e) (ends_of j.kind))) [] (subst (λ m. IsWhole at (whole m) None g) q p.1)
    (none_both j.faults _ none (none_both (wants_whole j) _ (whole_wanted j own k) (none_both (no_constant c at) _ (free c at needs same is) (not_so _ why.Wide at (subst (λ m. is_wide m ≡ false) q p.0))))) is
summed_wide at needs c e own j r (Err f) none k is same interval h =
    let q : multiple (count_of e) own ≡ multiple (count_of e) (ends_of j.kind) = ap (λ l. multiple (count_of e) (ends_of l)) (sym k) in
    behind j.faults _ f none (behind (wants_whole j) _ f (whole_wanted j own k) (behind (no_constant c at) _ f (free c at needs same is) (subst (λ m. IsFaultAt (wide_at m at) f) q (h (multiple (count_of e) own) interval))))

pub summed_answer : (at : ℕ) (g : Given) (needs : Bool) (i : Interval) (n : ℕ) (r : Option Interval) (result : Result Given StaticFault) → (known g).kind ≡ whole (ends i) → needs ≡ false →
    IsInterval r (multiple n (ends i)) → IsWholeNumber at r None result →
    (c : Context) (e : Ends) (j : Judged) → n ≡ count_of e → c.needs_constant ≡ needs → Describes needs g j → IsAnswer needs (summed_said c at e j) result
summed_answer at g needs i n r result k is interval h c e j counts same d =
    summed_wide at needs c e (ends i) j r result d.faultless (is_whole_one needs g j i d k) is same (subst (λ m. IsInterval r (multiple m (ends i))) counts interval) h

-- without faults in its domain
no_domain_faults : (at : ℕ) (fs gs : List Fault) (k : Kind) (needs : Bool) (result : Result Given StaticFault) → fs ≡ [] → IsAnswer needs (given_whole at gs k []) result → IsAnswer needs (given_whole at (fs ++ gs) k []) result
no_domain_faults at fs gs k needs result none h = subst (λ xs. IsAnswer needs (given_whole at (xs ++ gs) k []) result) (sym none) h

pub quantified_all : (at : ℕ) (t : Ty) (g : Given) (needs : Bool) (result : Result Given StaticFault) →
    ((c : Context) (j : Judged) → c.needs_constant ≡ needs → Describes needs g j → IsAnswer needs (truths_said c at j) result) → IsQuantified at quant.All t g needs result
quantified_all at t g needs result h c d j same none kind cell dj =
    no_domain_faults at d.faults _ truth needs result none (subst (λ fs. IsAnswer needs (given_whole at (j.faults ++ (wants_truth j ++ fs)) truth []) result) (sym (append-nil (no_constant c at))) (h c j same dj))

pub quantified_any : (at : ℕ) (t : Ty) (g : Given) (needs : Bool) (result : Result Given StaticFault) →
    ((c : Context) (j : Judged) → c.needs_constant ≡ needs → Describes needs g j → IsAnswer needs (truths_said c at j) result) → IsQuantified at quant.Any t g needs result
quantified_any at t g needs result h c d j same none kind cell dj =
    no_domain_faults at d.faults _ truth needs result none (subst (λ fs. IsAnswer needs (given_whole at (j.faults ++ (wants_truth j ++ fs)) truth []) result) (sym (append-nil (no_constant c at))) (h c j same dj))

pub quantified_sum : (at : ℕ) (t : Ty) (g : Given) (needs : Bool) (result : Result Given StaticFault) →
    ((c : Context) (e : Ends) (j : Judged) → is_scalar (kind_of t) ≡ true → e ≡ ends_of (kind_of t) → c.needs_constant ≡ needs → Describes needs g j → IsAnswer needs (summed_said c at e j) result) → IsQuantified at quant.Sum t g needs result
quantified_sum at t g needs result h c d j same none kind cell dj =
    no_domain_faults at d.faults _ (whole (multiple (count_of (ends_of d.kind)) (ends_of j.kind))) needs result none
    (h c (ends_of d.kind) j (subst (λ k. is_scalar k ≡ true) (sym kind) cell) (ap ends_of (sym kind)) same dj)

-- ---- names of domains

-- a bound or index name is no type
pub named_bound : (c : Context) (n : Name) (o : Option (Bor Ty)) (t : Bor Ty) → o ≡ Some t → option_map kind_of (option_copied o) ≡ under n.text c.bound →
    IsFaultAt (bound_domain c n (under n.text c.bound)).faults (answer.Fault why.Kind n.at)
named_bound c n o t is h =
    let e : Some (kind_of t.now) ≡ under n.text c.bound = sym (ap (λ (x : Option (Bor Ty)). option_map kind_of (option_copied x)) is) ∙ h in
    subst (λ (k : Option Kind). IsFaultAt (bound_domain c n k).faults (answer.Fault why.Kind n.at)) e refl

-- another name stands for what it stands for
pub named_thing : (c : Context) (n : Name) (o : Option (Bor Ty)) (x : Option Thing) (result : Result Ty StaticFault) → o ≡ None → option_map kind_of (option_copied o) ≡ under n.text c.bound →
    x ≡ under n.text c.names → IsDomain (said_domain n.at x) result → IsDomain (bound_domain c n (under n.text c.bound)) result
named_thing c n o x result is h same d =
    let e : None ≡ under n.text c.bound = sym (ap (λ (y : Option (Bor Ty)). option_map kind_of (option_copied y)) is) ∙ h in
    subst (λ (k : Option Kind). IsDomain (bound_domain c n k) result) e (subst (λ (y : Option Thing). IsDomain (said_domain n.at y) result) same d)

-- a type that isn't one cell
pub type_fails : (at : ℕ) (t : Ty) (b : Bool) (f : StaticFault) → b ≡ is_scalar (kind_of t) → IsFaultAt (fault_if (not b) why.Kind at) f → IsDomain (said_domain at (Some (type_of (kind_of t)))) (Err f)
type_fails at t b f same h = subst (λ (x : Bool). IsFaultAt (fault_if (not x) why.Kind at) f) same h

pub type_fine : (at : ℕ) (t own : Ty) (b : Bool) → b ≡ is_scalar (kind_of t) → not b ≡ false → own ≡ t → IsDomain (said_domain at (Some (type_of (kind_of t)))) (Ok own)
type_fine at t own b same h is =
    let cell : is_scalar (kind_of t) ≡ true = sym same ∙ must b h in
    (not_so (not (is_scalar (kind_of t))) why.Kind at (ap not cell), ap kind_of is, cell)
  where
    must : (b : Bool) → not b ≡ false → b ≡ true
    must true h = refl
    must false h = absurd (cc h)
