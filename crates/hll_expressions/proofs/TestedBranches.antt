-- The branches of an `if`, as they are gone through one by one.
use Rattle.std.proofs.Common.{◌≡◌, ℕ, ◌+◌, ◌<◌, ◌≤◌, ℤ, pos, Bool, true, false, not, List, ◌∷◌, length, get_or, drop, fold, Option, Some, Result, Ok, Err, refl, sym, ap, subst, ◌∙◌, arith}
use Rattle.std.specs.Prelude.{if◌then◌else◌}
use Rattle.std.specs.Ordering.{int_eq}
use Rattle.std.proofs.lemmas.List.{at_drop_more, at_drop_all}
use Rattle.hll_meaning.specs.Kinds.{truth, Value}
use Rattle.hll_meaning.specs.Values.{number, is_true}
use Rattle.hll_meaning.specs.Judging.{Judged, with_test, tests_of, chosen_value, wants_truth}
use Rattle.hll_expressions.specs.declared.choice.Tested.{Tested}
use Rattle.hll_expressions.specs.declared.choice.Together.{Together}
use Rattle.hll_expressions.specs.declared.faults.StaticFault.{StaticFault}
use Rattle.hll_expressions.specs.declared.given.Given.{Given}
use Rattle.hll_expressions.specs.Answers.{IsFaultAt}
use Rattle.hll_expressions.specs.Choices.{start, so_far, AreBranches, AreTested, IsBranchAdded, IsTested}
use Rattle.hll_expressions.specs.Described.{known, number_of, Describes}
use Rattle.hll_expressions.proofs.BranchLemmas.{Branch, branch_at, branches_count, tested, tests_go_on, condition_fails, branch_fails, last_joins, last_fails}
use Rattle.hll_expressions.proofs.Describing.{no_truth}

-- where a turn stands: its condition and what stands for it
pub record Turn (x : Tested) (ts gs : List Given) (i : ℕ) (t g : Given) : Type 0 where
  pub conditions : ts ≡ x.conditions
  pub branches : gs ≡ x.branches
  pub within : i < length ts
  pub condition : t ≡ get_or ts i t
  pub gives : g ≡ get_or gs i g

turned : (needs : Bool) (x : Tested) (ts gs : List Given) (bs : List (Judged × Judged)) (j : Judged) (i : ℕ) (t g : Given) → Turn x ts gs i t g → AreTested needs x bs j → (b : Judged × Judged) × Branch needs t g bs i b
turned needs x ts gs bs j i t g u h =
    branch_at needs ts gs bs i t g (subst (λ (ys : List Given). AreBranches needs ts ys bs) (sym u.branches) (subst (λ (xs : List Given). AreBranches needs xs x.branches bs) (sym u.conditions) h.branches)) u.within u.condition u.gives

-- ---- what the branches make together

pub condition_refused : (needs : Bool) (x : Tested) (ts gs : List Given) (bs : List (Judged × Judged)) (j : Judged) (i : ℕ) (t g : Given) (o : Option Together) (f : StaticFault) → Turn x ts gs i t g → AreTested needs x bs j → tested bs i ≡ so_far o →
    IsFaultAt (wants_truth (known t)) f → IsFaultAt (fold with_test start (tests_of bs j)).faults f
condition_refused needs x ts gs bs j i t g o f u h same wrong =
    let b = turned needs x ts gs bs j i t g u h in
    condition_fails bs j i b.0 o f b.1.within b.1.there same (no_truth needs t b.0.0 f b.1.condition wrong)

pub branch_refused : (needs : Bool) (x : Tested) (ts gs : List Given) (bs : List (Judged × Judged)) (j : Judged) (i : ℕ) (t g : Given) (o : Option Together) (f : StaticFault) → Turn x ts gs i t g → AreTested needs x bs j → tested bs i ≡ so_far o →
    (known t).kind ≡ truth → IsBranchAdded o g (Err f) → IsFaultAt (fold with_test start (tests_of bs j)).faults f
branch_refused needs x ts gs bs j i t g o f u h same is added =
    let b = turned needs x ts gs bs j i t g u h in
    branch_fails bs j i b.0 o f b.1.within b.1.there same (sym b.1.condition.kind ∙ is) (added needs b.0.1 b.1.gives)

pub branch_goes_on : (needs : Bool) (x : Tested) (ts gs : List Given) (bs : List (Judged × Judged)) (j : Judged) (i : ℕ) (t g : Given) (o : Option Together) (all : Together) → Turn x ts gs i t g → AreTested needs x bs j → tested bs i ≡ so_far o →
    (known t).kind ≡ truth → IsBranchAdded o g (Ok all) → tested bs (i + 1) ≡ so_far (Some all)
branch_goes_on needs x ts gs bs j i t g o all u h same is added =
    let b = turned needs x ts gs bs j i t g u h in
    tests_go_on bs i b.0 o all b.1.within b.1.there same (sym b.1.condition.kind ∙ is) (added needs b.0.1 b.1.gives)

no_more : (needs : Bool) (x : Tested) (ts : List Given) (bs : List (Judged × Judged)) (j : Judged) (i : ℕ) → ts ≡ x.conditions → length ts ≤ i → AreTested needs x bs j → length bs ≤ i
no_more needs x ts bs j i is le h = let count : length bs ≡ length ts = branches_count needs x.conditions x.branches bs h.branches ∙ sym (ap length is) in omega arith

pub all_tested : (needs : Bool) (x : Tested) (ts : List Given) (bs : List (Judged × Judged)) (j : Judged) (i : ℕ) (o : Option Together) (r : Result Together StaticFault) → ts ≡ x.conditions → length ts ≤ i → AreTested needs x bs j → tested bs i ≡ so_far o →
    IsBranchAdded o x.otherwise r → IsTested (tests_of bs j) r
all_tested needs x ts bs j i o (Ok all) is le h same added = last_joins bs j i o all (no_more needs x ts bs j i is le h) same (added needs j h.otherwise)
all_tested needs x ts bs j i o (Err f) is le h same added = last_fails bs j i o f (no_more needs x ts bs j i is le h) same (added needs j h.otherwise)

-- ---- the branch that is chosen

not_true : (v : Value) (b c : Bool) → b ≡ int_eq (number v) (pos 0) → b ≡ c → is_true v ≡ not c
not_true v b c is so = ap not (sym is ∙ so)

chosen_here : (bs : List (Judged × Judged)) (j : Judged) (i : ℕ) (b : Judged × Judged) (c : Bool) → i < length bs → b ≡ get_or bs i b → is_true b.0.value ≡ c → chosen_value (drop i bs) j ≡ (if c then b.1.value else chosen_value (drop (i + 1) bs) j)
chosen_here bs j i b c lt there is =
    at_drop_more (λ xs. chosen_value xs j) bs i b lt ∙ ap (λ (y : Judged × Judged). chosen_value (y ∷ drop (i + 1) bs) j) (sym there) ∙ ap (λ (x : Bool). if x then b.1.value else chosen_value (drop (i + 1) bs) j) is

pub passed_over : (x : Tested) (ts gs : List Given) (bs : List (Judged × Judged)) (j : Judged) (i : ℕ) (t g : Given) (z : Bool) → Turn x ts gs i t g → AreTested true x bs j → ((k : Judged) → Describes true t k → z ≡ int_eq (number k.value) (pos 0)) → z ≡ true →
    chosen_value bs j ≡ chosen_value (drop i bs) j → chosen_value bs j ≡ chosen_value (drop (i + 1) bs) j
passed_over x ts gs bs j i t g z u h zero is same =
    let b = turned true x ts gs bs j i t g u h in
    same ∙ chosen_here bs j i b.0 false b.1.within b.1.there (not_true b.0.0.value z true (zero b.0.0 b.1.condition) is)

pub chosen_is : (x : Tested) (ts gs : List Given) (bs : List (Judged × Judged)) (j : Judged) (i : ℕ) (t g : Given) (z : Bool) (n : Option ℤ) → Turn x ts gs i t g → AreTested true x bs j → ((k : Judged) → Describes true t k → z ≡ int_eq (number k.value) (pos 0)) → z ≡ false →
    chosen_value bs j ≡ chosen_value (drop i bs) j → n ≡ number_of g → n ≡ Some (number (chosen_value bs j))
chosen_is x ts gs bs j i t g z n u h zero is same numbered =
    let b = turned true x ts gs bs j i t g u h in
    numbered ∙ (b.1.gives.worth refl).same ∙ ap (λ (v : Value). Some (number v)) (sym (same ∙ chosen_here bs j i b.0 true b.1.within b.1.there (not_true b.0.0.value z false (zero b.0.0 b.1.condition) is)))

pub none_chosen : (x : Tested) (ts : List Given) (bs : List (Judged × Judged)) (j : Judged) (i : ℕ) (n : Option ℤ) → ts ≡ x.conditions → length ts ≤ i → AreTested true x bs j → chosen_value bs j ≡ chosen_value (drop i bs) j → n ≡ number_of x.otherwise →
    n ≡ Some (number (chosen_value bs j))
none_chosen x ts bs j i n is le h same numbered =
    numbered ∙ (h.otherwise.worth refl).same ∙ ap (λ (v : Value). Some (number v)) (sym (same ∙ at_drop_all (λ xs. chosen_value xs j) bs i (no_more true x ts bs j i is le h)))
