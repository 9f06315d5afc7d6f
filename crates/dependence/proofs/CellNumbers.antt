-- The numbers that definitions give to cells: there is one for each cell that has a definition, and it lies between the cell's ends.
use Rattle.std.proofs.Common.{◌≡◌, ℕ, zero, suc, ◌+◌, ◌<◌, ◌≤◌, ◌⊎◌, inl, inr, ℤ, Bool, true, List, [], ◌∷◌, length, refl, sym, ap, subst, ◌∙◌, arith}
use Rattle.std.specs.Prelude.{if◌then◌else◌}
use Rattle.std.specs.List.{AllByRecursion, Contains, flat_map}
use Rattle.intervals.specs.Ends.{Ends}
use Rattle.hll_tree.proofs.Gives.{all_append}
use Rattle.hll_tree.specs.declared.tree.Def.{Def}
use Rattle.hll_tree.specs.declared.tree.Expr.{Expr}
use Rattle.hll_tree.specs.declared.tree.HllModel.{HllModel}
use Rattle.hll_tree.specs.declared.tree.Part.{Part}
use Rattle.hll_tree.specs.declared.tree.Part.TheVariants as part
use Rattle.hll_meaning.specs.Kinds.{Kind, Value, is_in, fit_one, fit_all, cells, ranges}
use Rattle.hll_meaning.specs.Runs.{Element, scene, variables}
use Rattle.hll_meaning.specs.StaticRules.{first as first_alone, next as next_alone, part_kind, is_complete, part_expressions, Well}
use Rattle.hll_meaning.specs.Texts.{HasText}
use Rattle.hll_meaning.specs.Values.{History, worth}
use Rattle.hll_meaning.proofs.Scenes.{by_test}
use Rattle.dependence.specs.CellRuns.{number_given, IsGivenBy, IsCellGiven}
use Rattle.dependence.specs.Dependence.{IsDefinedBy}
use Rattle.dependence.specs.Laws.{GoesTo}
use Rattle.dependence.specs.Ways.{Way, free, whole, stepwise, IsInputCell, DefinesCell, IsWay}
use Rattle.dependence.proofs.CellRanges.{row_ends, cell_ends}
use Rattle.dependence.proofs.CellWays.{one_alone}
use Rattle.dependence.proofs.DefinedCells.{defined_once}
use Rattle.dependence.proofs.GivenNumbers.{given_values_have_cells}
use Rattle.dependence.proofs.LowerEnds.{HasLower, variables_lower}
use Rattle.dependence.proofs.Members.{front_or_further, in_front, in_none, further_on}
use Rattle.dependence.proofs.Numbers.{number_of}
use Rattle.dependence.proofs.RowNumbers.{ends_at}
use Rattle.dependence.proofs.Setting.{of_definition}

-- ---- numbers that are fitted

-- at each place its number is fitted to its ends
pub fit_at : (es : List Ends) (v : Value) (i : ℕ) → i < length es → length v ≡ length es → number_of (fit_all es v) i ≡ fit_one (ends_at es i) (number_of v i)
fit_at [] v i below same = absurd (omega arith)
fit_at (e ∷ es) [] i below same = absurd (omega (arith, same))
fit_at (e ∷ es) (x ∷ v) zero below same = refl
fit_at (e ∷ es) (x ∷ v) (suc i) below same = fit_at es v i (omega arith) (omega (arith, same))

-- a fitted number lies between the ends, where the lower one does
pub fit_within : (e : Ends) (x : ℤ) → HasLower e → is_in e (fit_one e x) ≡ true
fit_within e x low =
    by_test (is_in e x)
    (λ h. ap (λ (b : Bool). is_in e (if b then x else e.lo)) h ∙ h)
    (λ h. ap (λ (b : Bool). is_in e (if b then x else e.lo)) h ∙ low)

-- ---- the lower end of a cell

lower_at : (es : List Ends) (i : ℕ) → AllByRecursion HasLower es → HasLower (ends_at es i)
lower_at [] i all = refl
lower_at (e ∷ es) zero all = all.0
lower_at (e ∷ es) (suc i) all = lower_at es i all.1

lower_rows : (xs : List (List ℕ × Kind)) → AllByRecursion (λ x. AllByRecursion HasLower (ranges x.1)) xs → (i : ℕ) → HasLower (ends_at (flat_map (λ x. ranges x.1) xs) i)
lower_rows xs all i = lower_at (flat_map (λ x. ranges x.1) xs) i (flat xs all)
  where
    flat : (xs : List (List ℕ × Kind)) → AllByRecursion (λ x. AllByRecursion HasLower (ranges x.1)) xs → AllByRecursion HasLower (flat_map (λ x. ranges x.1) xs)
    flat [] all = tt
    flat (x ∷ xs) all = all_append HasLower (ranges x.1) (flat_map (λ x. ranges x.1) xs) all.0 (flat xs all.1)

-- of two definitions, one or the other
one_of_two : (a b d : Def) → Contains (a ∷ b ∷ []) d → (a ≡ d) ⊎ (b ≡ d)
one_of_two a b d h = by (front_or_further a (b ∷ []) d h)
  where
    by : (a ≡ d) ⊎ Contains (b ∷ []) d → (a ≡ d) ⊎ (b ≡ d)
    by (inl same) = inl same
    by (inr there) = inr (one_alone b d there)

-- ---- what is looked at

-- a part of a definition gives at a time what an expression gives at a time: a first value at time 0, a next one at the time before
abbrev pub IsLooked : Part → ℕ → Expr → ℕ → Type 0
IsLooked (part.Value e) t expr u = (e ≡ expr) × (t ≡ u)
IsLooked (part.Both first next) t expr u = ((t ≡ 0) × (u ≡ 0) × (first ≡ expr)) ⊎ ((t ≡ u + 1) × (next ≡ expr))
IsLooked (part.First first) t expr u = (t ≡ 0) × (u ≡ 0) × (first ≡ expr)
IsLooked (part.Next next) t expr u = (t ≡ u + 1) × (next ≡ expr)

-- the expression is one of the part
pub looked_stands : (p : Part) (t : ℕ) (expr : Expr) (u : ℕ) → IsLooked p t expr u → Contains (part_expressions p) expr
looked_stands (part.Value e) t expr u l = subst (Contains (e ∷ [])) l.0 (in_front e [])
looked_stands (part.Both first next) t expr u (inl l) = subst (Contains (first ∷ next ∷ [])) l.2 (in_front first (next ∷ []))
looked_stands (part.Both first next) t expr u (inr l) = subst (Contains (first ∷ next ∷ [])) l.1 (further_on first next (next ∷ []) (in_front next []))
looked_stands (part.First first) t expr u l = subst (Contains (first ∷ [])) l.2 (in_front first [])
looked_stands (part.Next next) t expr u l = subst (Contains (next ∷ [])) l.1 (in_front next [])

-- it is looked at then or before
looked_time : (p : Part) (t : ℕ) (expr : Expr) (u : ℕ) → IsLooked p t expr u → u ≤ t
looked_time (part.Value e) t expr u l = omega (arith, l.1)
looked_time (part.Both first next) t expr u (inl l) = omega (arith, l.0, l.1)
looked_time (part.Both first next) t expr u (inr l) = omega (arith, l.0)
looked_time (part.First first) t expr u l = omega (arith, l.0, l.1)
looked_time (part.Next next) t expr u l = omega (arith, l.0)

module _ (m : HllModel) (h : History) (t : ℕ) (e : Element) (place : ℕ) (expr : Expr) (u : ℕ) (x : ℤ) where
  -- the number that another expression gives at another time, where these are equal
  same_given : (v : ℕ) (f : Expr) → v ≡ u → f ≡ expr → number_given m h v e place f ≡ number_given m h u e place expr
  same_given v f times exprs = λ i. number_given m h (times i) e place (exprs i)

  -- what the expression gives is what the part gives
  pub looked_given : (p : Part) → IsLooked p t expr u → x ≡ number_given m h u e place expr → IsGivenBy m h t e place p x
  looked_given (part.Value f) l is = is ∙ sym (same_given t f l.1 l.0)
  looked_given (part.Both first next) (inl l) is = (λ start. is ∙ sym (same_given 0 first (sym l.1) l.2), λ before after. absurd (omega (arith, after, l.0)))
  looked_given (part.Both first next) (inr l) is = (λ start. absurd (omega (arith, start, l.0)), λ before after. let same : before ≡ u = omega (arith, after, l.0) in is ∙ sym (same_given before next same l.1))
  looked_given (part.First first) l is = λ start. is ∙ sym (same_given 0 first (sym l.1) l.2)
  looked_given (part.Next next) l is = λ before after. let same : before ≡ u = omega (arith, after, l.0) in is ∙ sym (same_given before next same l.1)

  -- and the other way round
  given_looked : (p : Part) → IsLooked p t expr u → IsGivenBy m h t e place p x → x ≡ number_given m h u e place expr
  given_looked (part.Value f) l is = is ∙ same_given t f l.1 l.0
  given_looked (part.Both first next) (inl l) is = is.0 l.0 ∙ same_given 0 first (sym l.1) l.2
  given_looked (part.Both first next) (inr l) is = is.1 u l.0 ∙ same_given u next refl l.1
  given_looked (part.First first) l is = is l.0 ∙ same_given 0 first (sym l.1) l.2
  given_looked (part.Next next) l is = is u l.0 ∙ same_given u next refl l.1

-- ---- one definition for all

module _ (m : HllModel) (well : Well m) (h : History) (t cell : ℕ) (x : ℤ) where
  -- what a definition gives at one place it gives wherever it defines the cell
  given_everywhere : (d : Def) (e : Element) (p : ℕ) → IsDefinedBy m cell d e p → IsGivenBy m h t e p d.part x → (c : Def) (f : Element) (q : ℕ) → d ≡ c → IsDefinedBy m cell c f q → IsGivenBy m h t f q c.part x
  given_everywhere d e p by is c f q same also =
      let one = defined_once m cell d f e q p well (subst (λ (z : Def). IsDefinedBy m cell z f q) (sym same) also) by in
      subst (λ (z : Def). IsGivenBy m h t f q z.part x) same
      (subst (λ (z : Element). IsGivenBy m h t z q d.part x) (sym one.0)
      (subst (λ (z : ℕ). IsGivenBy m h t e z d.part x) (sym one.1) is))

  -- a first value alone says nothing at a later time, and a next one nothing at time 0
  later_silent : (p : Part) (e : Element) (place u : ℕ) → part_kind p ≡ first_alone → t ≡ u + 1 → IsGivenBy m h t e place p x
  later_silent (part.Value e) f place u is after = absurd (cc is)
  later_silent (part.Both a b) f place u is after = absurd (cc is)
  later_silent (part.First a) f place u is after = λ start. absurd (omega (arith, start, after))
  later_silent (part.Next b) f place u is after = absurd (cc is)

  start_silent : (p : Part) (e : Element) (place : ℕ) → part_kind p ≡ next_alone → t ≡ 0 → IsGivenBy m h t e place p x
  start_silent (part.Value e) f place is start = absurd (cc is)
  start_silent (part.Both a b) f place is start = absurd (cc is)
  start_silent (part.First a) f place is start = absurd (cc is)
  start_silent (part.Next b) f place is start = λ before after. absurd (omega (arith, start, after))

  -- when they say something
  first_time : (p : Part) (expr : Expr) (u : ℕ) → part_kind p ≡ first_alone → IsLooked p t expr u → t ≡ 0
  first_time (part.Value e) expr u is l = absurd (cc is)
  first_time (part.Both a b) expr u is l = absurd (cc is)
  first_time (part.First a) expr u is l = l.0
  first_time (part.Next b) expr u is l = absurd (cc is)

  next_time : (p : Part) (expr : Expr) (u : ℕ) → part_kind p ≡ next_alone → IsLooked p t expr u → t ≡ u + 1
  next_time (part.Value e) expr u is l = absurd (cc is)
  next_time (part.Both a b) expr u is l = absurd (cc is)
  next_time (part.First a) expr u is l = absurd (cc is)
  next_time (part.Next b) expr u is l = l.0

  module _ (d : Def) (e : Element) (place : ℕ) (by : IsDefinedBy m cell d e place) (expr : Expr) (u : ℕ) (l : IsLooked d.part t expr u) (is : x ≡ number_given m h u e place expr) where
    own : IsGivenBy m h t e place d.part x
    own = looked_given m h t e place expr u x d.part l is

    by_two : (f n : Def) → part_kind f.part ≡ first_alone → part_kind n.part ≡ next_alone → (c : Def) (g : Element) (q : ℕ) → IsDefinedBy m cell c g q → (f ≡ d) ⊎ (n ≡ d) → (f ≡ c) ⊎ (n ≡ c) → IsGivenBy m h t g q c.part x
    by_two f n p r c g q there (inl one) (inl other) = given_everywhere d e place by own c g q (sym one ∙ other) there
    by_two f n p r c g q there (inr one) (inr other) = given_everywhere d e place by own c g q (sym one ∙ other) there
    by_two f n p r c g q there (inl one) (inr other) =
        start_silent c.part g q (subst (λ (z : Def). part_kind z.part ≡ next_alone) other r) (first_time d.part expr u (subst (λ (z : Def). part_kind z.part ≡ first_alone) one p) l)
    by_two f n p r c g q there (inr one) (inl other) =
        later_silent c.part g q u (subst (λ (z : Def). part_kind z.part ≡ first_alone) other p) (next_time d.part expr u (subst (λ (z : Def). part_kind z.part ≡ next_alone) one r) l)

    -- what the expression that is looked at gives is what all definitions of the cell give
    pub looked_gives : (way : Way) → IsWay m cell way → IsCellGiven m h t cell x
    looked_gives free is_way c g q there = absurd (in_none c (is_way.1.only c (g, q, there)))
    looked_gives (whole f) is_way c g q there =
        given_everywhere d e place by own c g q (sym (one_alone f d (is_way.1.only d (e, place, by))) ∙ one_alone f c (is_way.1.only c (g, q, there))) there
    looked_gives (stepwise f n) is_way c g q there =
        by_two f n is_way.0 is_way.1 c g q there (one_of_two f n d (is_way.2.only d (e, place, by))) (one_of_two f n c (is_way.2.only c (g, q, there)))

-- ---- cells

-- at a time an expression of a definition is looked at for a cell that is none of an input
pub record HasLooked (m : HllModel) (t cell : ℕ) : Type 0 where
  pub definition : Def
  pub element : Element
  pub place : ℕ
  pub defined : IsDefinedBy m cell definition element place
  pub expr : Expr
  pub time : ℕ
  pub looked : IsLooked definition.part t expr time

-- the expression of a part that is looked at, and when
record LooksAt (p : Part) (t : ℕ) : Type 0 where
  expr : Expr
  time : ℕ
  is : IsLooked p t expr time

whole_looks : (p : Part) (t : ℕ) → is_complete (part_kind p) ≡ true → LooksAt p t
whole_looks (part.Value e) t complete = record { expr = e; time = t; is = (refl, refl) }
whole_looks (part.Both first next) zero complete = record { expr = first; time = 0; is = inl (refl, refl, refl) }
whole_looks (part.Both first next) (suc t) complete = record { expr = next; time = t; is = inr (omega arith, refl) }
whole_looks (part.First first) t complete = absurd (cc complete)
whole_looks (part.Next next) t complete = absurd (cc complete)

first_looks : (p : Part) → part_kind p ≡ first_alone → LooksAt p 0
first_looks (part.Value e) is = absurd (cc is)
first_looks (part.Both a b) is = absurd (cc is)
first_looks (part.First a) is = record { expr = a; time = 0; is = (refl, refl, refl) }
first_looks (part.Next b) is = absurd (cc is)

next_looks : (p : Part) (t : ℕ) → part_kind p ≡ next_alone → LooksAt p (suc t)
next_looks (part.Value e) t is = absurd (cc is)
next_looks (part.Both a b) t is = absurd (cc is)
next_looks (part.First a) t is = absurd (cc is)
next_looks (part.Next b) t is = record { expr = b; time = t; is = (omega arith, refl) }

defined_looks : (m : HllModel) (t cell : ℕ) (d : Def) → DefinesCell m d cell → LooksAt d.part t → HasLooked m t cell
defined_looks m t cell d by l = record { definition = d; element = by.0; place = by.1; defined = by.2; expr = l.expr; time = l.time; looked = l.is }

-- by its way a cell gets its numbers from an input, or from what is looked at
pub free_or_looked : (m : HllModel) (t cell : ℕ) (way : Way) → IsWay m cell way → IsWay m cell free ⊎ HasLooked m t cell
free_or_looked m t cell free is = inl is
free_or_looked m t cell (whole d) is = inr (defined_looks m t cell d is.1.define.0 (whole_looks d.part t is.0))
free_or_looked m zero cell (stepwise f n) is = inr (defined_looks m zero cell f is.2.define.0 (first_looks f.part is.0))
free_or_looked m (suc t) cell (stepwise f n) is = inr (defined_looks m (suc t) cell n is.2.define.1.0 (next_looks n.part t is.1))

-- a cell is one of an input, or its definitions give it one number
pub input_or_same : (m : HllModel) (cell : ℕ) (way : Way) → IsWay m cell way → (h : History) (t : ℕ) (x y : ℤ) → IsCellGiven m h t cell x → IsCellGiven m h t cell y → IsInputCell m cell ⊎ (x ≡ y)
input_or_same m cell way is h t x y given also = by (free_or_looked m t cell way is)
  where
    by : IsWay m cell free ⊎ HasLooked m t cell → IsInputCell m cell ⊎ (x ≡ y)
    by (inl input) = inl input.0
    by (inr l) =
        let one = given_looked m h t l.element l.place l.expr l.time x l.definition.part l.looked (given l.definition l.element l.place l.defined) in
        let other = given_looked m h t l.element l.place l.expr l.time y l.definition.part l.looked (also l.definition l.element l.place l.defined) in
        inr (one ∙ sym other)

-- ---- between the ends

module _ (m : HllModel) (text : HasText m) (well : Well m) (cell : ℕ) (d : Def) (e : Element) (place : ℕ) (by : IsDefinedBy m cell d e place) (h : History) (t : ℕ) (goes : GoesTo m t h) (expr : Expr) (u : ℕ) (l : IsLooked d.part t expr u) where
  before : GoesTo m u h
  before = record { of_kinds = goes.of_kinds; within = omega (arith, goes.within, looked_time d.part t expr u l) }

  -- what is looked at has a number for each cell of the element
  values_have : length (worth expr (scene m h u e.bound)) ≡ cells e.kind
  values_have = given_values_have_cells m text well e expr u h (of_definition m cell d e place expr by (looked_stands d.part t expr u l)) before

  -- the number that is given is that of the expression's value at the place, fitted to the ends of the cell
  pub looked_fitted : number_given m h u e place expr ≡ fit_one (ends_at (row_ends m) cell) (number_of (worth expr (scene m h u e.bound)) place)
  looked_fitted =
      fit_at (ranges e.kind) (worth expr (scene m h u e.bound)) place by.within values_have
      ∙ ap (λ (z : Ends). fit_one z (number_of (worth expr (scene m h u e.bound)) place)) (sym (cell_ends m cell d e place well by))

  -- so it lies between these
  pub looked_within : is_in (ends_at (row_ends m) cell) (number_given m h u e place expr) ≡ true
  looked_within =
      ap (is_in (ends_at (row_ends m) cell)) looked_fitted
      ∙ fit_within (ends_at (row_ends m) cell) (number_of (worth expr (scene m h u e.bound)) place) (lower_rows (variables m) (variables_lower m well) cell)
