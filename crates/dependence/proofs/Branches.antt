-- What stands in a choice without faults: conditions are truth values, and where the branches make a scalar together each is one.
use Rattle.std.proofs.Common.{◌≡◌, ℕ, Bool, true, false, List, [], ◌∷◌, ◌++◌, fold, Option, Some, None, unwrap_or, refl, subst, append_assoc}
use Rattle.std.specs.Prelude.{if◌then◌else◌}
use Rattle.std.specs.List.{AllByRecursion, flat_map}
use Rattle.std.specs.Str.{bytes_eq}
use Rattle.intervals.specs.Ends.{Ends}
use Rattle.intervals.specs.Rules.{hull}
use Rattle.hll_meaning.specs.Kinds.{Kind, truth, whole, element, array, struct}
use Rattle.hll_meaning.specs.Fitting.{is_scalar, is_truth, is_wide, accepts, Joined, apart, of_lengths, gathered, join}
use Rattle.hll_meaning.specs.Judging.{Judged, Tested, condition, branch, Branches, with_branch, with_test, tests_of, walked, choice_of, branches_fit, wants_truth}
use Rattle.hll_meaning.proofs.Faultless.{empty_parts, first_empty, second_empty, must_be, not_so, neither}
use Rattle.hll_meaning.proofs.Joins.{either_way}
use Rattle.dependence.proofs.Apart.{same_name}

-- ---- joins

-- where kinds go together and make a scalar, both are
abbrev JoinsScalars : Kind → Kind → Joined → Type 0
JoinsScalars k given j = j.mismatched ≡ false → j.uneven ≡ false → is_scalar j.kind ≡ true → (is_scalar k ≡ true) × (is_scalar given ≡ true)

truth_scalar : (k : Kind) → is_truth k ≡ true → is_scalar k ≡ true
truth_scalar truth h = refl
truth_scalar (whole e) h = absurd (cc h)
truth_scalar (element root e) h = absurd (cc h)
truth_scalar (array n k) h = absurd (cc h)
truth_scalar (struct own fields) h = absurd (cc h)

lists_join : (k own : Kind) (given : Kind) (same : Bool) (js : List Joined) → JoinsScalars k given (if is_scalar given then apart own else (if same then gathered js else of_lengths own))
lists_join k own given same js =
    either_way (JoinsScalars k given) (is_scalar given) _ _ (λ s m u h. absurd (cc m))
    (λ s. either_way (JoinsScalars k given) same _ _ (λ yes m u h. absurd (cc h)) (λ no m u h. absurd (cc u)))

join_scalars : (k given : Kind) → JoinsScalars k given (join k given)
join_scalars truth truth m u h = (refl, refl)
join_scalars truth (whole e) m u h = absurd (cc m)
join_scalars truth (element root e) m u h = absurd (cc m)
join_scalars truth (array n k) m u h = absurd (cc m)
join_scalars truth (struct own fields) m u h = absurd (cc m)
join_scalars (whole e) truth m u h = absurd (cc m)
join_scalars (whole e) (whole f) m u h = (refl, refl)
join_scalars (whole e) (element root f) m u h = absurd (cc m)
join_scalars (whole e) (array n k) m u h = absurd (cc m)
join_scalars (whole e) (struct own fields) m u h = absurd (cc m)
join_scalars (element root e) truth m u h = absurd (cc m)
join_scalars (element root e) (whole f) m u h = absurd (cc m)
join_scalars (element root e) (element other f) m u h = (refl, refl)
join_scalars (element root e) (array n k) m u h = absurd (cc m)
join_scalars (element root e) (struct own fields) m u h = absurd (cc m)
join_scalars (array n k) given m u h = lists_join (array n k) (array n k) given _ _ m u h
join_scalars (struct own fields) given m u h = lists_join (struct own fields) (struct own fields) given _ _ m u h

-- ---- tests

-- no fault so far, and no lengths that differ
pub record AreEven (b : Branches) : Type 0 where
  pub faultless : b.faults ≡ []
  pub even : b.uneven ≡ false

branch_before : (b : Branches) (j : Judged) (o : Option Kind) → AreEven (with_branch b j o) → AreEven b
branch_before b j None g = record { faultless = g.faultless; even = g.even }
branch_before b j (Some k) g = record { faultless = first_empty b.faults _ g.faultless; even = (neither b.uneven _ g.even).0 }

test_before : (t : Tested) (b : Branches) → AreEven (with_test b t) → AreEven b
test_before (condition j) b g = record { faultless = first_empty b.faults _ g.faultless; even = g.even }
test_before (branch j) b g = branch_before b j b.kind g

tests_before : (ts : List Tested) (b : Branches) → AreEven (fold with_test b ts) → AreEven b
tests_before [] b g = g
tests_before (t ∷ ts) b g = test_before t b (tests_before ts (with_test b t) g)

-- a scalar, or nothing yet
abbrev IsScalarYet : Option Kind → Type 0
IsScalarYet None = Unit {0}
IsScalarYet (Some k) = is_scalar k ≡ true

branch_scalar : (b : Branches) (j : Judged) (o : Option Kind) → AreEven (with_branch b j o) → IsScalarYet (with_branch b j o).kind → IsScalarYet o × (is_scalar j.kind ≡ true)
branch_scalar b j None g h = (tt, h)
branch_scalar b j (Some k) g h = join_scalars k j.kind (not_so (join k j.kind).mismatched _ j.at (second_empty b.faults _ g.faultless)) (neither b.uneven _ g.even).1 h

-- what each test has: a condition is a truth value, and a branch is a scalar where all make one
abbrev IsTest : (scalar : Bool) → Tested → Type 0
IsTest scalar (condition j) = is_scalar j.kind ≡ true
IsTest true (branch j) = is_scalar j.kind ≡ true
IsTest false (branch j) = Unit {0}

one_test : (b : Branches) (t : Tested) → AreEven (with_test b t) → IsScalarYet (with_test b t).kind → IsScalarYet b.kind × IsTest true t
one_test b (condition j) g h = (h, truth_scalar j.kind (must_be (is_truth j.kind) _ j.at (second_empty b.faults (wants_truth j) g.faultless)))
one_test b (branch j) g h = branch_scalar b j b.kind g h

scalar_tests : (ts : List Tested) (b : Branches) → AreEven (fold with_test b ts) → IsScalarYet (fold with_test b ts).kind → IsScalarYet b.kind × AllByRecursion (IsTest true) ts
scalar_tests [] b g h = (h, tt)
scalar_tests (t ∷ ts) b g h =
    let rest = scalar_tests ts (with_test b t) g h in
    let here = one_test b t (tests_before ts (with_test b t) g) rest.0 in
    (here.0, (here.1, rest.1))

some_test : (b : Branches) (t : Tested) → AreEven (with_test b t) → IsTest false t
some_test b (condition j) g = truth_scalar j.kind (must_be (is_truth j.kind) _ j.at (second_empty b.faults (wants_truth j) g.faultless))
some_test b (branch j) g = tt

some_tests : (ts : List Tested) (b : Branches) → AreEven (fold with_test b ts) → AllByRecursion (IsTest false) ts
some_tests [] b g = tt
some_tests (t ∷ ts) b g = (some_test b t (tests_before ts (with_test b t) g), some_tests ts (with_test b t) g)

-- ---- choices

-- a branch without faults behind a scalar condition without faults; the branch itself has something
pub record IsBranch (P : Judged → Type 0) (b : Judged × Judged) : Type 0 where
  pub condition_faultless : b.0.faults ≡ []
  pub condition_scalar : is_scalar b.0.kind ≡ true
  pub faultless : b.1.faults ≡ []
  pub has : P b.1

-- all branches and what stands behind `else`
pub record AreBranches (P : Judged → Type 0) (bs : List (Judged × Judged)) (j : Judged) : Type 0 where
  pub each : AllByRecursion (IsBranch P) bs
  pub faultless : j.faults ≡ []
  pub has : P j

abbrev pub IsScalar : Judged → Type 0
IsScalar j = is_scalar j.kind ≡ true

abbrev pub Fits : Kind → Judged → Type 0
Fits k j = j.fits k ≡ []

scalar_branches : (bs : List (Judged × Judged)) (j : Judged) → flat_map (λ b. b.0.faults ++ b.1.faults) bs ≡ [] → j.faults ≡ [] → AllByRecursion (IsTest true) (tests_of bs j) → AreBranches IsScalar bs j
scalar_branches [] j none last all = record { each = tt; faultless = last; has = all.0 }
scalar_branches (b ∷ bs) j none last all =
    let p = empty_parts (b.0.faults ++ b.1.faults) _ none in
    let q = empty_parts b.0.faults b.1.faults p.0 in
    let rest = scalar_branches bs j p.1 last all.1.1 in
    record { each = (record { condition_faultless = q.0; condition_scalar = all.0; faultless = q.1; has = all.1.0 }, rest.each); faultless = last; has = rest.has }

fitting_branches : (k : Kind) (bs : List (Judged × Judged)) (j : Judged) → flat_map (λ b. b.0.faults ++ b.1.faults) bs ≡ [] → j.faults ≡ [] → AllByRecursion (IsTest false) (tests_of bs j) → branches_fit bs j k ≡ [] → AreBranches (Fits k) bs j
fitting_branches k [] j none last all fit = record { each = tt; faultless = last; has = fit }
fitting_branches k (b ∷ bs) j none last all fit =
    let p = empty_parts (b.0.faults ++ b.1.faults) _ none in
    let q = empty_parts b.0.faults b.1.faults p.0 in
    let fits = empty_parts (b.1.fits k) (branches_fit bs j k) (regrouped fit) in
    let rest = fitting_branches k bs j p.1 last all.1.1 fits.1 in
    record { each = (record { condition_faultless = q.0; condition_scalar = all.0; faultless = q.1; has = fits.0 }, rest.each); faultless = last; has = rest.has }
  where
    regrouped : (b.1.fits k ++ flat_map (λ b. b.1.fits k) bs) ++ j.fits k ≡ [] → b.1.fits k ++ (flat_map (λ b. b.1.fits k) bs ++ j.fits k) ≡ []
    regrouped h = rw append_assoc at h

module _ (at : ℕ) (bs : List (Judged × Judged)) (j : Judged) (none : (choice_of at bs j).faults ≡ []) where
  abbrev start : Branches
  start = record { kind = None; faults = []; wide = false; uneven = false }

  abbrev all_tested : Branches
  all_tested = fold with_test start (tests_of bs j)

  even : AreEven all_tested
  even =
      let p = empty_parts (walked bs j) _ none in
      let q = empty_parts all_tested.faults _ p.1 in
      record { faultless = q.0; even = not_so all_tested.uneven _ at (second_empty _ _ q.1) }

  parts_faultless : (flat_map (λ (b : Judged × Judged). b.0.faults ++ b.1.faults) bs ≡ []) × (j.faults ≡ [])
  parts_faultless = empty_parts (flat_map (λ (b : Judged × Judged). b.0.faults ++ b.1.faults) bs) j.faults (first_empty (walked bs j) _ none)

  yet : (o : Option Kind) → is_scalar (unwrap_or o truth) ≡ true → IsScalarYet o
  yet None h = tt
  yet (Some k) h = h

  pub scalar_choice : is_scalar (choice_of at bs j).kind ≡ true → AreBranches IsScalar bs j
  scalar_choice h = scalar_branches bs j parts_faultless.0 parts_faultless.1 (scalar_tests (tests_of bs j) start even (yet all_tested.kind h)).1

  pub fitting_choice : (k : Kind) → is_scalar (choice_of at bs j).kind ≡ false → (choice_of at bs j).fits k ≡ [] → AreBranches (Fits k) bs j
  fitting_choice k other fit = fitting_branches k bs j parts_faultless.0 parts_faultless.1 (some_tests (tests_of bs j) start even) (rw other at fit)

-- ---- what goes where all branches go together

-- a kind of these goes where the joined kind goes
whole_alike : (k : Kind) (e f : Ends) → accepts k (whole e) ≡ true → accepts k (whole f) ≡ true
whole_alike truth e f h = absurd (cc h)
whole_alike (whole g) e f h = refl
whole_alike (element root g) e f h = absurd (cc h)
whole_alike (array n k) e f h = absurd (cc h)
whole_alike (struct own fields) e f h = absurd (cc h)

element_alike : (k : Kind) (root : List ℕ) (e f : Ends) → accepts k (element root e) ≡ true → accepts k (element root f) ≡ true
element_alike truth root e f h = absurd (cc h)
element_alike (whole g) root e f h = absurd (cc h)
element_alike (element other g) root e f h = h
element_alike (array n k) root e f h = absurd (cc h)
element_alike (struct own fields) root e f h = absurd (cc h)

-- so do both of two that are joined
abbrev JoinsAccepted : Kind → Kind → Kind → Joined → Type 0
JoinsAccepted wanted k given j = j.mismatched ≡ false → j.uneven ≡ false → is_scalar j.kind ≡ true → accepts wanted j.kind ≡ true → (accepts wanted k ≡ true) × (accepts wanted given ≡ true)

joined_accepted : (wanted k given : Kind) → JoinsAccepted wanted k given (join k given)
joined_accepted wanted truth truth m u s h = (h, h)
joined_accepted wanted truth (whole e) m u s h = absurd (cc m)
joined_accepted wanted truth (element root e) m u s h = absurd (cc m)
joined_accepted wanted truth (array n k) m u s h = absurd (cc m)
joined_accepted wanted truth (struct own fields) m u s h = absurd (cc m)
joined_accepted wanted (whole e) truth m u s h = absurd (cc m)
joined_accepted wanted (whole e) (whole f) m u s h =
    either_way (JoinsAccepted wanted (whole e) (whole f)) (is_wide (hull e f)) _ _
    (λ yes m u s h. (h, whole_alike wanted e f h)) (λ no m u s h. (whole_alike wanted (hull e f) e h, whole_alike wanted (hull e f) f h)) m u s h
joined_accepted wanted (whole e) (element root f) m u s h = absurd (cc m)
joined_accepted wanted (whole e) (array n k) m u s h = absurd (cc m)
joined_accepted wanted (whole e) (struct own fields) m u s h = absurd (cc m)
joined_accepted wanted (element root e) truth m u s h = absurd (cc m)
joined_accepted wanted (element root e) (whole f) m u s h = absurd (cc m)
joined_accepted wanted (element root e) (element other f) m u s h =
    either_way (JoinsAccepted wanted (element root e) (element other f)) (bytes_eq root other) _ _
    (λ same m u s h. (element_alike wanted root (hull e f) e h, subst (λ (r : List ℕ). accepts wanted (element r f) ≡ true) (same_name root other same) (element_alike wanted root (hull e f) f h))) (λ differ m u s h. absurd (cc m)) m u s h
joined_accepted wanted (element root e) (array n k) m u s h = absurd (cc m)
joined_accepted wanted (element root e) (struct own fields) m u s h = absurd (cc m)
joined_accepted wanted (array n k) given m u s h = absurd (cc (join_scalars (array n k) given m u s).0)
joined_accepted wanted (struct own fields) given m u s h = absurd (cc (join_scalars (struct own fields) given m u s).0)

-- a kind goes there, or there is none yet
abbrev IsAcceptedYet : Kind → Option Kind → Type 0
IsAcceptedYet wanted None = Unit {0}
IsAcceptedYet wanted (Some k) = (is_scalar k ≡ true) × (accepts wanted k ≡ true)

abbrev IsAcceptedTest : Kind → Tested → Type 0
IsAcceptedTest wanted (condition j) = Unit {0}
IsAcceptedTest wanted (branch j) = accepts wanted j.kind ≡ true

branch_accepted : (wanted : Kind) (b : Branches) (j : Judged) (o : Option Kind) → AreEven (with_branch b j o) → IsAcceptedYet wanted (with_branch b j o).kind → IsAcceptedYet wanted o × (accepts wanted j.kind ≡ true)
branch_accepted wanted b j None g h = (tt, h.1)
branch_accepted wanted b j (Some k) g h =
    let m = not_so (join k j.kind).mismatched _ j.at (second_empty b.faults _ g.faultless) in
    let u = (neither b.uneven _ g.even).1 in
    let both = joined_accepted wanted k j.kind m u h.0 h.1 in
    (((join_scalars k j.kind m u h.0).0, both.0), both.1)

test_accepted : (wanted : Kind) (b : Branches) (t : Tested) → AreEven (with_test b t) → IsAcceptedYet wanted (with_test b t).kind → IsAcceptedYet wanted b.kind × IsAcceptedTest wanted t
test_accepted wanted b (condition j) g h = (h, tt)
test_accepted wanted b (branch j) g h = branch_accepted wanted b j b.kind g h

tests_accepted : (wanted : Kind) (ts : List Tested) (b : Branches) → AreEven (fold with_test b ts) → IsAcceptedYet wanted (fold with_test b ts).kind → IsAcceptedYet wanted b.kind × AllByRecursion (IsAcceptedTest wanted) ts
tests_accepted wanted [] b g h = (h, tt)
tests_accepted wanted (t ∷ ts) b g h =
    let rest = tests_accepted wanted ts (with_test b t) g h in
    let here = test_accepted wanted b t (tests_before ts (with_test b t) g) rest.0 in
    (here.0, (here.1, rest.1))

-- a scalar that goes where a kind is wanted
abbrev pub IsAccepted : Kind → Judged → Type 0
IsAccepted wanted j = (is_scalar j.kind ≡ true) × (accepts wanted j.kind ≡ true)

accepted_branches : (wanted : Kind) (bs : List (Judged × Judged)) (j : Judged) → AreBranches IsScalar bs j → AllByRecursion (IsAcceptedTest wanted) (tests_of bs j) → AreBranches (IsAccepted wanted) bs j
accepted_branches wanted [] j are all = record { each = tt; faultless = are.faultless; has = (are.has, all.0) }
accepted_branches wanted (b ∷ bs) j are all =
    let rest = accepted_branches wanted bs j (record { each = are.each.1; faultless = are.faultless; has = are.has }) all.1.1 in
    let own = are.each.0 in
    record { each = (record { condition_faultless = own.condition_faultless; condition_scalar = own.condition_scalar; faultless = own.faultless; has = (own.has, all.1.0) }, rest.each); faultless = rest.faultless; has = rest.has }

-- where the branches make a scalar together, each goes where that goes
pub accepted_choice : (wanted : Kind) (at : ℕ) (bs : List (Judged × Judged)) (j : Judged) → (choice_of at bs j).faults ≡ [] → is_scalar (choice_of at bs j).kind ≡ true → accepts wanted (choice_of at bs j).kind ≡ true → AreBranches (IsAccepted wanted) bs j
accepted_choice wanted at bs j none scalar h =
    accepted_branches wanted bs j (scalar_choice at bs j none scalar) (tests_accepted wanted (tests_of bs j) (start at bs j none) (even at bs j none) (yet_accepted (all_tested at bs j none).kind scalar h)).1
  where
    yet_accepted : (o : Option Kind) → is_scalar (unwrap_or o truth) ≡ true → accepts wanted (unwrap_or o truth) ≡ true → IsAcceptedYet wanted o
    yet_accepted None s a = tt
    yet_accepted (Some k) s a = (s, a)

-- ---- scalars

-- a scalar with any kind makes a scalar
pub joined_scalar : (k given : Kind) → is_scalar k ≡ true → is_scalar (join k given).kind ≡ true
joined_scalar truth given s = either_way (λ (j : Joined). is_scalar j.kind ≡ true) (is_truth given) _ _ (λ yes. refl) (λ no. refl)
joined_scalar (whole e) truth s = refl
joined_scalar (whole e) (whole f) s = either_way (λ (j : Joined). is_scalar j.kind ≡ true) (is_wide (hull e f)) _ _ (λ yes. refl) (λ no. refl)
joined_scalar (whole e) (element root f) s = refl
joined_scalar (whole e) (array n k) s = refl
joined_scalar (whole e) (struct own fields) s = refl
joined_scalar (element root e) truth s = refl
joined_scalar (element root e) (whole f) s = refl
joined_scalar (element root e) (element other f) s = either_way (λ (j : Joined). is_scalar j.kind ≡ true) (bytes_eq root other) _ _ (λ yes. refl) (λ no. refl)
joined_scalar (element root e) (array n k) s = refl
joined_scalar (element root e) (struct own fields) s = refl
joined_scalar (array n k) given s = absurd (cc s)
joined_scalar (struct own fields) given s = absurd (cc s)

-- a scalar so far
abbrev IsScalarSofar : Option Kind → Type 0
IsScalarSofar None = ⊥
IsScalarSofar (Some k) = is_scalar k ≡ true

branch_stays : (b : Branches) (j : Judged) (o : Option Kind) → IsScalarSofar o → IsScalarSofar (with_branch b j o).kind
branch_stays b j None h = absurd h
branch_stays b j (Some k) h = joined_scalar k j.kind h

tests_stay : (ts : List Tested) (b : Branches) → IsScalarSofar b.kind → IsScalarSofar (fold with_test b ts).kind
tests_stay [] b h = h
tests_stay (condition j ∷ ts) b h = tests_stay ts (with_test b (condition j)) h
tests_stay (branch j ∷ ts) b h = tests_stay ts (with_test b (branch j)) (branch_stays b j b.kind h)

-- the first branch, or what stands behind `else`
abbrev pub first_branch : List (Judged × Judged) → Judged → Judged
first_branch [] j = j
first_branch (b ∷ bs) j = b.1

-- where the first branch is a scalar, so is what all make together
pub choice_scalar : (at : ℕ) (bs : List (Judged × Judged)) (j : Judged) → is_scalar (first_branch bs j).kind ≡ true → is_scalar (choice_of at bs j).kind ≡ true
choice_scalar at [] j h = h
choice_scalar at (b ∷ bs) j h = by _ (tests_stay (tests_of bs j) (with_test (with_test (record { kind = None; faults = []; wide = false; uneven = false }) (condition b.0)) (branch b.1)) h)
  where
    by : (o : Option Kind) → IsScalarSofar o → is_scalar (unwrap_or o truth) ≡ true
    by None s = absurd s
    by (Some k) s = s
