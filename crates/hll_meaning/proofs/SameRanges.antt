-- Where a constant is needed, the ranges in an expression without faults are the same under names that keep the constants.
use Rattle.std.proofs.Common.{◌≡◌, ℕ, ℤ, Bool, Some, None, Option, List, [], ◌∷◌, ◌++◌, map, fold, refl, sym, ap, ◌∙◌}
use Rattle.std.specs.Prelude.{if◌then◌else◌}
use Rattle.std.specs.List.{AllByRecursion, flat_map}
use Rattle.intervals.specs.declared.interval.Interval.{Interval}
use Rattle.hll_tree.specs.declared.tree.Branch.{Branch}
use Rattle.hll_tree.specs.declared.tree.Cmp.{Cmp}
use Rattle.hll_tree.specs.declared.tree.Domain.{Domain}
use Rattle.hll_tree.specs.declared.tree.Expr.{Expr}
use Rattle.hll_tree.specs.declared.tree.Form.{Number, Truth, Path, Chain, Compare, Minus, Not, Choice, Group, Quant as Quantified, Pre, Least, Greatest, Size, Starting, Within}
use Rattle.hll_tree.specs.declared.tree.Link.{Link}
use Rattle.hll_tree.specs.declared.tree.Name.{Name}
use Rattle.hll_tree.specs.declared.tree.Quant.{Quant}
use Rattle.hll_tree.specs.declared.tree.Reach.{Reach}
use Rattle.hll_meaning.specs.Names.{Thing, constant, type_of, code_in, variable, later, Names, under}
use Rattle.hll_meaning.specs.Fitting.{is_scalar, ends_of}
use Rattle.hll_meaning.specs.Judging.{Context, Judged, Reached, constant_kind, reached_from, one_step, thing_path, one_link, walked, all_in, all_faults, judged}
use Rattle.hll_meaning.specs.Nodes.{node_at, Placed, own_range, ranges}
use Rattle.hll_meaning.proofs.JudgedForms.{link_said, branch_said, reach_said, judged-path, judged-chain, judged-compare, judged-minus, judged-not, judged-choice, judged-least, judged-greatest, judged-size}
use Rattle.hll_meaning.proofs.RangeForms.{all_ranges, links_ranges, branches_ranges, reaches_ranges, ranges-number, ranges-truth, ranges-path, ranges-chain, ranges-compare, ranges-minus, ranges-not, ranges-choice, ranges-least, ranges-greatest, ranges-size}
use Rattle.hll_meaning.proofs.Faultless.{empty_parts, first_empty}
use Rattle.hll_meaning.proofs.Lies.{front_faultless, link_parts}
use Rattle.hll_meaning.proofs.Paths.{not_needed, no_step, steps_before, constant_scalar}
use Rattle.hll_meaning.proofs.Refused.{faults_of_form, never_group, never_quantified, never_pre_alone, never_pre_with, never_starting, never_within}
use Rattle.hll_meaning.proofs.FormInduction.{HoldsByForm, holds_by_form}
use Rattle.hll_meaning.proofs.Same.{KeepsConstants, needing, is_kept}

-- the ranges in the expression are the same, where it has no faults
abbrev pub HasSameRanges : Expr → Type 0
HasSameRanges e = (xs ys : Names) → KeepsConstants xs ys → (judged e (needing xs)).faults ≡ [] → ranges e (needing xs) ≡ ranges e (needing ys)

own_same : (e : Expr) (xs ys : Names) → KeepsConstants xs ys → (judged e (needing xs)).faults ≡ [] → own_range (node_at e (needing xs)) ≡ own_range (node_at e (needing ys))
own_same e xs ys keeps none = ap (λ (j : Judged). if is_scalar j.kind then record { at = e.at; range = ends_of j.kind } ∷ [] else []) (is_kept e xs ys keeps none)

-- an expression behind its parts
behind_parts : (e : Expr) (xs ys : Names) → KeepsConstants xs ys → (ps qs : List Placed) → ranges e (needing xs) ≡ ps ++ own_range (node_at e (needing xs)) → ranges e (needing ys) ≡ qs ++ own_range (node_at e (needing ys)) →
    (judged e (needing xs)).faults ≡ [] → ps ≡ qs → ranges e (needing xs) ≡ ranges e (needing ys)
behind_parts e xs ys keeps ps qs p q none same =
    let own = own_same e xs ys keeps none in
    p ∙ (λ i. same i ++ own i) ∙ sym q

-- ---- paths

-- where a constant is needed a path without faults has no steps
no_steps : (xs : Names) (at : ℕ) (rs : List Reached) (o : Option Thing) → (thing_path (needing xs) at rs o).faults ≡ [] → rs ≡ []
no_steps xs at [] o none = refl
no_steps xs at (r ∷ rs) None none = absurd (cc none)
no_steps xs at (r ∷ rs) (Some (constant b x)) none =
    let c = needing xs in
    absurd (no_step c at (constant_kind b x) [] r (constant_scalar b x)
    (steps_before c at rs (one_step c at (record { kind = constant_kind b x; faults = [] }) r) (first_empty (reached_from c at (constant_kind b x) (r ∷ rs)).faults [] none)))
no_steps xs at (r ∷ rs) (Some (type_of k)) none = absurd (cc none)
no_steps xs at (r ∷ rs) (Some (code_in root c)) none = absurd (not_needed (needing xs) at _ refl none)
no_steps xs at (r ∷ rs) (Some (variable input k)) none = absurd (not_needed (needing xs) at _ refl none)
no_steps xs at (r ∷ rs) (Some later) none = absurd (not_needed (needing xs) at _ refl none)

-- so there is nothing in it
nothing_in : (rs : List Reach) → map reach_said rs ≡ [] → (c d : Context) → reaches_ranges rs c ≡ reaches_ranges rs d
nothing_in [] is c d = refl
nothing_in (r ∷ rs) is c d = absurd (cc is)

-- ---- lists of parts

all_same : (xs ys : Names) → KeepsConstants xs ys → (es : List Expr) → AllByRecursion HasSameRanges es → all_faults (map (λ j. j (needing xs)) (map judged es)) ≡ [] → all_ranges es (needing xs) ≡ all_ranges es (needing ys)
all_same xs ys keeps [] all none = refl
all_same xs ys keeps (e ∷ es) all none =
    let p = empty_parts (judged e (needing xs)).faults _ none in
    let here = all.0 xs ys keeps p.0 in
    let there = all_same xs ys keeps es all.1 p.1 in
    λ i. here i ++ there i

links_same : (xs ys : Names) → KeepsConstants xs ys → (ls : List Link) → AllByRecursion (λ l. HasSameRanges l.with) ls → (j : Judged) → (fold (one_link (needing xs)) j (map link_said ls)).faults ≡ [] → links_ranges ls (needing xs) ≡ links_ranges ls (needing ys)
links_same xs ys keeps [] all j none = refl
links_same xs ys keeps (l ∷ ls) all j none =
    let c = needing xs in
    let right = (link_parts c j (link_said l) (front_faultless c (map link_said ls) (one_link c j (link_said l)) none)).1 in
    let here = all.0 xs ys keeps right in
    let there = links_same xs ys keeps ls all.1 (one_link c j (link_said l)) none in
    λ i. here i ++ there i

abbrev BranchHasSame : Branch → Type 0
BranchHasSame b = HasSameRanges b.when × HasSameRanges b.gives

branches_same : (xs ys : Names) → KeepsConstants xs ys → (bs : List Branch) → AllByRecursion BranchHasSame bs →
    flat_map (λ (b : Judged × Judged). b.0.faults ++ b.1.faults) (all_in (needing xs) (map branch_said bs)) ≡ [] → branches_ranges bs (needing xs) ≡ branches_ranges bs (needing ys)
branches_same xs ys keeps [] all none = refl
branches_same xs ys keeps (b ∷ bs) all none =
    let p = empty_parts ((judged b.when (needing xs)).faults ++ (judged b.gives (needing xs)).faults) _ none in
    let q = empty_parts (judged b.when (needing xs)).faults _ p.0 in
    let test = all.0.0 xs ys keeps q.0 in
    let gives = all.0.1 xs ys keeps q.1 in
    let there = branches_same xs ys keeps bs all.1 p.1 in
    λ i. (test i ++ gives i) ++ there i

-- ---- forms

same_number : (e : Expr) (n : ℤ) → e.form ≡ Number n → HasSameRanges e
same_number e n is xs ys keeps none = ranges-number e n is (needing xs) ∙ own_same e xs ys keeps none ∙ sym (ranges-number e n is (needing ys))

same_truth : (e : Expr) (b : Bool) → e.form ≡ Truth b → HasSameRanges e
same_truth e b is xs ys keeps none = ranges-truth e b is (needing xs) ∙ own_same e xs ys keeps none ∙ sym (ranges-truth e b is (needing ys))

same_path : (e : Expr) (n : Name) (rs : List Reach) → e.form ≡ Path n rs → HasSameRanges e
same_path e n rs is xs ys keeps none =
    behind_parts e xs ys keeps _ _ (ranges-path e n rs is (needing xs)) (ranges-path e n rs is (needing ys)) none
    (nothing_in rs (no_steps xs e.at (map reach_said rs) (under n.text xs) (faults_of_form _ _ (judged-path e n rs is (needing xs)) none)) (needing xs) (needing ys))

same_chain : (e first : Expr) (ls : List Link) → e.form ≡ Chain first ls → HasSameRanges first → AllByRecursion (λ l. HasSameRanges l.with) ls → HasSameRanges e
same_chain e first ls is f all xs ys keeps none =
    let c = needing xs in
    let p = faults_of_form _ _ (judged-chain e first ls is c) none in
    let here = f xs ys keeps (front_faultless c (map link_said ls) (judged first c) p) in
    let there = links_same xs ys keeps ls all (judged first c) p in
    behind_parts e xs ys keeps _ _ (ranges-chain e first ls is c) (ranges-chain e first ls is (needing ys)) none (λ i. here i ++ there i)

same_compare : (e : Expr) (o : Cmp) (a b : Expr) → e.form ≡ Compare o a b → HasSameRanges a → HasSameRanges b → HasSameRanges e
same_compare e o a b is f g xs ys keeps none =
    let p = empty_parts (judged a (needing xs)).faults _ (faults_of_form _ _ (judged-compare e o a b is (needing xs)) none) in
    let here = f xs ys keeps p.0 in
    let there = g xs ys keeps (first_empty (judged b (needing xs)).faults _ p.1) in
    behind_parts e xs ys keeps _ _ (ranges-compare e o a b is (needing xs)) (ranges-compare e o a b is (needing ys)) none (λ i. here i ++ there i)

same_minus : (e inner : Expr) → e.form ≡ Minus inner → HasSameRanges inner → HasSameRanges e
same_minus e inner is f xs ys keeps none =
    behind_parts e xs ys keeps _ _ (ranges-minus e inner is (needing xs)) (ranges-minus e inner is (needing ys)) none
    (f xs ys keeps (first_empty (judged inner (needing xs)).faults _ (faults_of_form _ _ (judged-minus e inner is (needing xs)) none)))

same_not : (e inner : Expr) → e.form ≡ Not inner → HasSameRanges inner → HasSameRanges e
same_not e inner is f xs ys keeps none =
    behind_parts e xs ys keeps _ _ (ranges-not e inner is (needing xs)) (ranges-not e inner is (needing ys)) none
    (f xs ys keeps (first_empty (judged inner (needing xs)).faults _ (faults_of_form _ _ (judged-not e inner is (needing xs)) none)))

same_choice : (e : Expr) (bs : List Branch) (otherwise : Expr) → e.form ≡ Choice bs otherwise → AllByRecursion BranchHasSame bs → HasSameRanges otherwise → HasSameRanges e
same_choice e bs otherwise is all f xs ys keeps none =
    let p = first_empty (walked (all_in (needing xs) (map branch_said bs)) (judged otherwise (needing xs))) _ (faults_of_form _ _ (judged-choice e bs otherwise is (needing xs)) none) in
    let q = empty_parts (flat_map (λ (b : Judged × Judged). b.0.faults ++ b.1.faults) (all_in (needing xs) (map branch_said bs))) _ p in
    let here = branches_same xs ys keeps bs all q.0 in
    let there = f xs ys keeps q.1 in
    behind_parts e xs ys keeps _ _ (ranges-choice e bs otherwise is (needing xs)) (ranges-choice e bs otherwise is (needing ys)) none (λ i. here i ++ there i)

same_group : (e : Expr) (es : List Expr) → e.form ≡ Group es → HasSameRanges e
same_group e es is xs ys keeps none = absurd (never_group e es is (needing xs) refl none)

same_quantified : (e : Expr) (q : Quant) (n : Name) (d : Domain) (body : Expr) → e.form ≡ Quantified q n d body → HasSameRanges e
same_quantified e q n d body is xs ys keeps none = absurd (never_quantified e q n d body is (needing xs) refl none)

same_pre_alone : (e body : Expr) → e.form ≡ Pre body None → HasSameRanges e
same_pre_alone e body is xs ys keeps none = absurd (never_pre_alone e body is (needing xs) refl none)

same_pre_with : (e body first : Expr) → e.form ≡ Pre body (Some first) → HasSameRanges e
same_pre_with e body first is xs ys keeps none = absurd (never_pre_with e body first is (needing xs) refl none)

same_least : (e : Expr) (es : List Expr) → e.form ≡ Least es → AllByRecursion HasSameRanges es → HasSameRanges e
same_least e es is all xs ys keeps none =
    behind_parts e xs ys keeps _ _ (ranges-least e es is (needing xs)) (ranges-least e es is (needing ys)) none
    (all_same xs ys keeps es all (first_empty (all_faults (map (λ j. j (needing xs)) (map judged es))) _ (faults_of_form _ _ (judged-least e es is (needing xs)) none)))

same_greatest : (e : Expr) (es : List Expr) → e.form ≡ Greatest es → AllByRecursion HasSameRanges es → HasSameRanges e
same_greatest e es is all xs ys keeps none =
    behind_parts e xs ys keeps _ _ (ranges-greatest e es is (needing xs)) (ranges-greatest e es is (needing ys)) none
    (all_same xs ys keeps es all (first_empty (all_faults (map (λ j. j (needing xs)) (map judged es))) _ (faults_of_form _ _ (judged-greatest e es is (needing xs)) none)))

same_size : (e inner : Expr) → e.form ≡ Size inner → HasSameRanges inner → HasSameRanges e
same_size e inner is f xs ys keeps none =
    behind_parts e xs ys keeps _ _ (ranges-size e inner is (needing xs)) (ranges-size e inner is (needing ys)) none
    (f xs ys keeps (first_empty (judged inner (needing xs)).faults _ (faults_of_form _ _ (judged-size e inner is (needing xs)) none)))

same_starting : (e : Expr) → e.form ≡ Starting → HasSameRanges e
same_starting e is xs ys keeps none = absurd (never_starting e is (needing xs) refl none)

same_within : (e inner : Expr) (i : Interval) → e.form ≡ Within inner i → HasSameRanges e
same_within e inner i is xs ys keeps none = absurd (never_within e inner i is (needing xs) refl none)

-- ---- any depth

by_form : HoldsByForm HasSameRanges (λ d. Unit {0}) (λ r. Unit {0})
by_form = record {
  number = same_number;
  truth = same_truth;
  path = λ e n rs is all. same_path e n rs is;
  chain = same_chain;
  compare = same_compare;
  minus = same_minus;
  negated = same_not;
  choice = same_choice;
  group = λ e es is all. same_group e es is;
  quantified = λ e q n d body is g f. same_quantified e q n d body is;
  pre_alone = λ e body is f. same_pre_alone e body is;
  pre_with = λ e body first is f g. same_pre_with e body first is;
  least = same_least;
  greatest = same_greatest;
  size = same_size;
  starting = same_starting;
  within = λ e inner i is f. same_within e inner i is;
  bounds = λ a b f g. tt;
  truths = tt;
  named = λ n. tt;
  index = λ e f. tt;
  field = λ n. tt;
}

pub ranges_kept : (e : Expr) → HasSameRanges e
ranges_kept = holds_by_form HasSameRanges (λ d. Unit {0}) (λ r. Unit {0}) by_form
