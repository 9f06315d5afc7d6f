-- The branches of an `if`, one by one.
use Rattle.std.proofs.Common.{◌≡◌, ℕ, zero, suc, ◌+◌, ◌<◌, ◌≤◌, ℤ, Bool, true, false, List, [], ◌∷◌, ◌++◌, map, length, take, drop, get_or, fold, Option, Some, None, refl, sym, ap, subst, ◌∙◌, arith, take-append-drop, append_assoc}
use Rattle.std.specs.Prelude.{if◌then◌else◌}
use Rattle.std.specs.List.{flat_map}
use Rattle.std.specs.Str.{bytes_eq}
use Rattle.std.proofs.lemmas.Grind.{flat_map-append}
use Rattle.std.proofs.lemmas.List.{take_more, take_all}
use Rattle.std.proofs.lemmas.List.Sums.{fold-append}
use Rattle.intervals.specs.Rules.{hull}
use Rattle.hll_meaning.specs.declared.fault.StaticKind.TheVariants as is
use Rattle.hll_meaning.specs.Kinds.{Kind, truth, whole, element, array, struct, IsOf}
use Rattle.hll_meaning.specs.Types.{kind_of}
use Rattle.hll_meaning.specs.Values.{Scene, In, is_true, chosen}
use Rattle.hll_meaning.specs.Fitting.{is_scalar, is_wide, Joined, together, apart, too_wide, join}
use Rattle.hll_meaning.specs.Judging.{Fault, fault_if, Judged, Tested as Test, condition, branch, Branches, with_branch, with_test, tests_of, walked, branches_fit, chosen_value, choice_of, wants_truth}
use Rattle.hll_meaning.proofs.Choices.{AllGive, choice_lies}
use Rattle.hll_meaning.proofs.Joins.{either_way}
use Rattle.hll_expressions.specs.declared.choice.Tested.{Tested}
use Rattle.hll_expressions.specs.declared.choice.Together.{Together}
use Rattle.hll_expressions.specs.declared.faults.StaticFault.{StaticFault}
use Rattle.hll_expressions.specs.declared.given.Given.{Given}
use Rattle.hll_expressions.specs.Answers.{IsFaultAt}
use Rattle.hll_expressions.specs.Choices.{start, so_far, AreBranches, AreTested}
use Rattle.hll_expressions.specs.Described.{known, Describes}
use Rattle.hll_expressions.proofs.Firsts.{before, behind, none_both}
use Rattle.hll_expressions.proofs.Describing.{truth_wanted}

-- ---- the parts

-- a condition with what stands for it
abbrev pub tests : Judged × Judged → List Test
tests b = condition b.0 ∷ branch b.1 ∷ []

-- what is known of a branch
pub record Branch (needs : Bool) (t g : Given) (bs : List (Judged × Judged)) (i : ℕ) (b : Judged × Judged) : Type 0 where
  pub within : i < length bs
  pub there : b ≡ get_or bs i b
  pub condition : Describes needs t b.0
  pub gives : Describes needs g b.1

pub branch_at : (needs : Bool) (ts gs : List Given) (bs : List (Judged × Judged)) (i : ℕ) (t g : Given) → AreBranches needs ts gs bs → i < length ts → t ≡ get_or ts i t → g ≡ get_or gs i g →
    (b : Judged × Judged) × Branch needs t g bs i b
branch_at needs [] [] [] i t g all lt p q = absurd (omega arith)
branch_at needs [] [] (b ∷ bs) i t g all lt p q = absurd all
branch_at needs [] (h ∷ gs) bs i t g all lt p q = absurd all
branch_at needs (u ∷ ts) [] bs i t g all lt p q = absurd all
branch_at needs (u ∷ ts) (h ∷ gs) [] i t g all lt p q = absurd all
branch_at needs (u ∷ ts) (h ∷ gs) (b ∷ bs) zero t g all lt p q =
    (b, record { within = omega arith; there = refl; condition = subst (λ x. Describes needs x b.0) (sym p) all.0; gives = subst (λ x. Describes needs x b.1) (sym q) all.1 })
branch_at needs (u ∷ ts) (h ∷ gs) (b ∷ bs) (suc i) t g all lt p q =
    let r = branch_at needs ts gs bs i t g all.2 (omega arith) p q in
    (r.0, record { within = omega (arith, r.1.within); there = r.1.there; condition = r.1.condition; gives = r.1.gives })

pub branches_count : (needs : Bool) (ts gs : List Given) (bs : List (Judged × Judged)) → AreBranches needs ts gs bs → length bs ≡ length ts
branches_count needs [] [] [] all = refl
branches_count needs [] [] (b ∷ bs) all = absurd all
branches_count needs [] (h ∷ gs) bs all = absurd all
branches_count needs (u ∷ ts) [] bs all = absurd all
branches_count needs (u ∷ ts) (h ∷ gs) [] all = absurd all
branches_count needs (u ∷ ts) (h ∷ gs) (b ∷ bs) all = ap suc (branches_count needs ts gs bs all.2)

pub branches_faultless : (needs : Bool) (ts gs : List Given) (bs : List (Judged × Judged)) → AreBranches needs ts gs bs → flat_map (λ b. b.0.faults ++ b.1.faults) bs ≡ []
branches_faultless needs [] [] [] all = refl
branches_faultless needs [] [] (b ∷ bs) all = absurd all
branches_faultless needs [] (h ∷ gs) bs all = absurd all
branches_faultless needs (u ∷ ts) [] bs all = absurd all
branches_faultless needs (u ∷ ts) (h ∷ gs) [] all = absurd all
branches_faultless needs (u ∷ ts) (h ∷ gs) (b ∷ bs) all = none_both _ _ (none_both b.0.faults b.1.faults all.0.faultless all.1.faultless) (branches_faultless needs ts gs bs all.2)

-- all parts are without faults
pub all_walked : (needs : Bool) (t : Tested) (bs : List (Judged × Judged)) (j : Judged) → AreTested needs t bs j → walked bs j ≡ []
all_walked needs t bs j h = none_both _ _ (branches_faultless needs t.conditions t.branches bs h.branches) h.otherwise.faultless

-- ---- tests

-- the first fault stays
branch_first : (b : Branches) (j : Judged) (o : Option Kind) (f : StaticFault) → IsFaultAt b.faults f → IsFaultAt (with_branch b j o).faults f
branch_first b j None f h = h
branch_first b j (Some k) f h = before b.faults (fault_if (join k j.kind).mismatched is.Mismatch j.at) f h

test_first : (b : Branches) (t : Test) (f : StaticFault) → IsFaultAt b.faults f → IsFaultAt (with_test b t).faults f
test_first b (condition j) f h = before b.faults (wants_truth j) f h
test_first b (branch j) f h = branch_first b j b.kind f h

pub tests_first : (ts : List Test) (b : Branches) (f : StaticFault) → IsFaultAt b.faults f → IsFaultAt (fold with_test b ts).faults f
tests_first [] b f h = h
tests_first (t ∷ ts) b f h = tests_first ts (with_test b t) f (test_first b t f h)

-- what the first branches come to
pub tested : List (Judged × Judged) → ℕ → Branches
tested bs i = fold with_test start (flat_map tests (take i bs))

pub nothing_tested : (bs : List (Judged × Judged)) → tested bs 0 ≡ so_far None
unfolding tested
nothing_tested bs = refl

tested_more : (bs : List (Judged × Judged)) (i : ℕ) (b : Judged × Judged) → i < length bs → b ≡ get_or bs i b → tested bs (i + 1) ≡ with_test (with_test (tested bs i) (condition b.0)) (branch b.1)
unfolding tested
tested_more bs i b lt is =
    ap (λ (xs : List (Judged × Judged)). fold with_test start (flat_map tests xs)) (take_more bs i b lt ∙ ap (λ (y : Judged × Judged). take i bs ++ y ∷ []) (sym is)) ∙
    ap (fold with_test start) (flat_map-append tests (take i bs) (b ∷ [])) ∙ fold-append with_test start (flat_map tests (take i bs)) (tests b)

-- a condition that is a truth value changes nothing
condition_fine : (o : Option Together) (j : Judged) → j.kind ≡ truth → with_test (so_far o) (condition j) ≡ so_far o
condition_fine None j h i = record { kind = None; faults = truth_wanted j h i; wide = false; uneven = false }
condition_fine (Some t) j h i = record { kind = Some (kind_of t.kind); faults = truth_wanted j h i; wide = t.wide; uneven = t.uneven }

-- a branch further
pub tests_go_on : (bs : List (Judged × Judged)) (i : ℕ) (b : Judged × Judged) (o : Option Together) (t : Together) → i < length bs → b ≡ get_or bs i b → tested bs i ≡ so_far o → b.0.kind ≡ truth →
    with_branch (so_far o) b.1 (so_far o).kind ≡ so_far (Some t) → tested bs (i + 1) ≡ so_far (Some t)
tests_go_on bs i b o t lt is same h joins =
    tested_more bs i b lt is ∙ ap (λ (x : Branches). with_test (with_test x (condition b.0)) (branch b.1)) same ∙ ap (λ (x : Branches). with_test x (branch b.1)) (condition_fine o b.0 h) ∙ joins

-- the rest of an `if` behind its first branches
rest_of : (bs : List (Judged × Judged)) (j : Judged) (i : ℕ) → tests_of bs j ≡ flat_map tests (take i bs) ++ (flat_map tests (drop i bs) ++ (branch j ∷ []))
rest_of bs j i =
    ap (λ (xs : List (Judged × Judged)). flat_map tests xs ++ (branch j ∷ [])) (sym (take-append-drop i bs)) ∙ ap (λ (ts : List Test). ts ++ (branch j ∷ [])) (flat_map-append tests (take i bs) (drop i bs)) ∙
    append_assoc (flat_map tests (take i bs)) (flat_map tests (drop i bs)) (branch j ∷ [])

pub stays_first : (bs : List (Judged × Judged)) (j : Judged) (i : ℕ) (f : StaticFault) → IsFaultAt (tested bs i).faults f → IsFaultAt (fold with_test start (tests_of bs j)).faults f
unfolding tested
stays_first bs j i f h =
    subst (λ (ts : List Test). IsFaultAt (fold with_test start ts).faults f) (sym (rest_of bs j i))
    (subst (λ (b : Branches). IsFaultAt b.faults f) (sym (fold-append with_test start (flat_map tests (take i bs)) (flat_map tests (drop i bs) ++ (branch j ∷ []))))
    (tests_first (flat_map tests (drop i bs) ++ (branch j ∷ [])) (tested bs i) f h))

-- a condition that is no truth value
pub condition_fails : (bs : List (Judged × Judged)) (j : Judged) (i : ℕ) (b : Judged × Judged) (o : Option Together) (f : StaticFault) → i < length bs → b ≡ get_or bs i b → tested bs i ≡ so_far o →
    IsFaultAt (wants_truth b.0) f → IsFaultAt (fold with_test start (tests_of bs j)).faults f
condition_fails bs j i b o f lt is same h =
    stays_first bs j (i + 1) f (subst (λ (x : Branches). IsFaultAt x.faults f) (sym (tested_more bs i b lt is ∙ ap (λ (x : Branches). with_test (with_test x (condition b.0)) (branch b.1)) same))
    (test_first (with_test (so_far o) (condition b.0)) (branch b.1) f (behind (so_far o).faults (wants_truth b.0) f (none_so_far o) h)))
  where
    none_so_far : (o : Option Together) → (so_far o).faults ≡ []
    none_so_far None = refl
    none_so_far (Some t) = refl

-- a branch that doesn't go with those before it
pub branch_fails : (bs : List (Judged × Judged)) (j : Judged) (i : ℕ) (b : Judged × Judged) (o : Option Together) (f : StaticFault) → i < length bs → b ≡ get_or bs i b → tested bs i ≡ so_far o → b.0.kind ≡ truth →
    IsFaultAt (with_branch (so_far o) b.1 (so_far o).kind).faults f → IsFaultAt (fold with_test start (tests_of bs j)).faults f
branch_fails bs j i b o f lt is same t h =
    stays_first bs j (i + 1) f (subst (λ (x : Branches). IsFaultAt x.faults f)
    (sym (tested_more bs i b lt is ∙ ap (λ (x : Branches). with_test (with_test x (condition b.0)) (branch b.1)) same ∙ ap (λ (x : Branches). with_test x (branch b.1)) (condition_fine o b.0 t))) h)

-- what stands behind `else` goes with the branches, or it doesn't
last_test : (bs : List (Judged × Judged)) (j : Judged) (i : ℕ) (o : Option Together) → length bs ≤ i → tested bs i ≡ so_far o → fold with_test start (tests_of bs j) ≡ with_branch (so_far o) j (so_far o).kind
unfolding tested
last_test bs j i o le same =
    fold-append with_test start (flat_map tests bs) (branch j ∷ []) ∙
    ap (λ (x : Branches). with_test x (branch j)) (ap (λ (xs : List (Judged × Judged)). fold with_test start (flat_map tests xs)) (sym (take_all i bs le)) ∙ same)

pub last_joins : (bs : List (Judged × Judged)) (j : Judged) (i : ℕ) (o : Option Together) (t : Together) → length bs ≤ i → tested bs i ≡ so_far o → with_branch (so_far o) j (so_far o).kind ≡ so_far (Some t) →
    fold with_test start (tests_of bs j) ≡ so_far (Some t)
last_joins bs j i o t le same joins = last_test bs j i o le same ∙ joins

pub last_fails : (bs : List (Judged × Judged)) (j : Judged) (i : ℕ) (o : Option Together) (f : StaticFault) → length bs ≤ i → tested bs i ≡ so_far o → IsFaultAt (with_branch (so_far o) j (so_far o).kind).faults f →
    IsFaultAt (fold with_test start (tests_of bs j)).faults f
last_fails bs j i o f le same h = subst (λ (x : Branches). IsFaultAt x.faults f) (sym (last_test bs j i o le same)) h

-- ---- one cell

-- one cell with another kind is one cell
pub join_cell : (k given : Kind) → is_scalar k ≡ true → is_scalar (join k given).kind ≡ true
join_cell truth truth s = refl
join_cell truth (whole e) s = refl
join_cell truth (element root e) s = refl
join_cell truth (array n k) s = refl
join_cell truth (struct name fields) s = refl
join_cell (whole e) truth s = refl
join_cell (whole e) (whole f) s = either_way (λ (x : Joined). is_scalar x.kind ≡ true) (is_wide (hull e f)) (too_wide (whole e)) (together (whole (hull e f))) (λ yes. refl) (λ no. refl)
join_cell (whole e) (element root f) s = refl
join_cell (whole e) (array n k) s = refl
join_cell (whole e) (struct name fields) s = refl
join_cell (element root e) truth s = refl
join_cell (element root e) (whole f) s = refl
join_cell (element root e) (element other f) s = either_way (λ (x : Joined). is_scalar x.kind ≡ true) (bytes_eq root other) (together (element root (hull e f))) (apart (element root e)) (λ yes. refl) (λ no. refl)
join_cell (element root e) (array n k) s = refl
join_cell (element root e) (struct name fields) s = refl
join_cell (array n k) given s = absurd (cc s)
join_cell (struct name fields) given s = absurd (cc s)

-- whether what the branches make so far is one cell
abbrev pub IsCell : Option Kind → Type 0
IsCell None = ⊥
IsCell (Some k) = is_scalar k ≡ true

branch_cell : (b : Branches) (j : Judged) (o : Option Kind) → IsCell o → IsCell (with_branch b j o).kind
branch_cell b j None h = absurd h
branch_cell b j (Some k) h = join_cell k j.kind h

tests_cell : (ts : List Test) (b : Branches) → IsCell b.kind → IsCell (fold with_test b ts).kind
tests_cell [] b h = h
tests_cell (condition j ∷ ts) b h = tests_cell ts (with_test b (condition j)) h
tests_cell (branch j ∷ ts) b h = tests_cell ts (with_test b (branch j)) (branch_cell b j b.kind h)

first_cell : (b : Branches) (j : Judged) (o : Option Kind) → o ≡ None → is_scalar j.kind ≡ true → IsCell (with_branch b j o).kind
first_cell b j None is h = h
first_cell b j (Some k) is h = absurd (cc is)

-- where each branch is one cell, all together are
pub cells_together : (needs : Bool) (t : Tested) (bs : List (Judged × Judged)) (j : Judged) → needs ≡ true → AreTested needs t bs j → IsCell (fold with_test start (tests_of bs j)).kind
cells_together needs t bs j n h = all (t.conditions) (t.branches) bs h.branches
  where
    all : (ts gs : List Given) (bs : List (Judged × Judged)) → AreBranches needs ts gs bs → IsCell (fold with_test start (tests_of bs j)).kind
    all ts gs [] each = (h.otherwise.worth n).cell
    all [] [] (b ∷ bs) each = absurd each
    all [] (g ∷ gs) (b ∷ bs) each = absurd each
    all (u ∷ ts) [] (b ∷ bs) each = absurd each
    all (u ∷ ts) (g ∷ gs) (b ∷ bs) each = tests_cell (tests_of bs j) (with_test (with_test start (condition b.0)) (branch b.1)) (first_cell (with_test start (condition b.0)) b.1 None refl (each.1.worth n).cell)

-- ---- values

-- the value of a branch, wherever it stands
abbrev anywhere : Judged × Judged → In (List ℤ) × In (List ℤ)
anywhere b = (λ s. b.0.value, λ s. b.1.value)

nowhere : Scene
nowhere = record { names = []; history = []; time = 0; bound = [] }

all_give : (needs : Bool) (ts gs : List Given) (bs : List (Judged × Judged)) → needs ≡ true → AreBranches needs ts gs bs → AllGive nowhere bs (map anywhere bs)
all_give needs [] [] [] n all = tt
all_give needs [] [] (b ∷ bs) n all = absurd all
all_give needs [] (h ∷ gs) bs n all = absurd all
all_give needs (u ∷ ts) [] bs n all = absurd all
all_give needs (u ∷ ts) (h ∷ gs) [] n all = absurd all
all_give needs (u ∷ ts) (h ∷ gs) (b ∷ bs) n all = (λ none. (all.1.worth n).lies, all_give needs ts gs bs n all.2)

same_chosen : (bs : List (Judged × Judged)) (j : Judged) → chosen (map anywhere bs) (λ s. j.value) nowhere ≡ chosen_value bs j
same_chosen [] j = refl
same_chosen (b ∷ bs) j = ap (λ v. if is_true b.0.value then b.1.value else v) (same_chosen bs j)

-- the value that is chosen is one of what the branches make together
pub chosen_lies : (needs : Bool) (t : Tested) (bs : List (Judged × Judged)) (j : Judged) (at : ℕ) → needs ≡ true → AreTested needs t bs j → (choice_of at bs j).faults ≡ [] → IsOf (choice_of at bs j).kind (chosen_value bs j)
chosen_lies needs t bs j at n h none =
    subst (IsOf (choice_of at bs j).kind) (same_chosen bs j)
    (choice_lies nowhere at bs (map anywhere bs) j (λ s. j.value) (all_give needs t.conditions t.branches bs n h.branches) (λ none. (h.otherwise.worth n).lies) none)

-- ---- what branches are given to

branches_given : (needs : Bool) (ts gs : List Given) (bs : List (Judged × Judged)) (g : Given) (j : Judged) (wanted : Kind) → AreBranches needs ts gs bs → Describes needs g j →
    flat_map (λ j. j.fits wanted) (map known (gs ++ g ∷ [])) ≡ branches_fit bs j wanted
branches_given needs [] [] [] g j wanted all d = ap (λ fs. fs ++ []) (d.fits wanted) ∙ nothing_behind (j.fits wanted)
  where
    nothing_behind : (fs : List Fault) → fs ++ [] ≡ fs
    nothing_behind [] = refl
    nothing_behind (f ∷ fs) = ap (λ gs. f ∷ gs) (nothing_behind fs)
branches_given needs [] [] (b ∷ bs) g j wanted all d = absurd all
branches_given needs [] (h ∷ gs) bs g j wanted all d = absurd all
branches_given needs (u ∷ ts) [] bs g j wanted all d = absurd all
branches_given needs (u ∷ ts) (h ∷ gs) [] g j wanted all d = absurd all
branches_given needs (u ∷ ts) (h ∷ gs) (b ∷ bs) g j wanted all d =
    (λ t. all.1.fits wanted t ++ branches_given needs ts gs bs g j wanted all.2 d t) ∙ sym (append_assoc (b.1.fits wanted) (flat_map (λ b. b.1.fits wanted) bs) (j.fits wanted))

pub tested_given : (needs : Bool) (t : Tested) (bs : List (Judged × Judged)) (j : Judged) (wanted : Kind) → AreTested needs t bs j → flat_map (λ j. j.fits wanted) (map known (t.branches ++ t.otherwise ∷ [])) ≡ branches_fit bs j wanted
tested_given needs t bs j wanted h = branches_given needs t.conditions t.branches bs t.otherwise j wanted h.branches h.otherwise
