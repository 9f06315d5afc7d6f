-- Where a constant is needed, what is said of an expression without faults is the same under names that keep the constants.
-- So it is under names that agree but for elements.
use Rattle.std.proofs.Common.{◌≡◌, ℕ, ℤ, Bool, true, not, Some, None, Option, List, [], ◌∷◌, ◌++◌, map, fold, neg_ℤ, pos, unsigned_abs, refl, sym, ap, subst, ◌∙◌}
use Rattle.std.specs.List.{AllByRecursion, flat_map}
use Rattle.intervals.specs.declared.interval.Interval.{Interval}
use Rattle.intervals.specs.Ends.{Ends}
use Rattle.intervals.specs.Rules.{negation, absolute, smaller, greater}
use Rattle.hll_tree.specs.declared.tree.Branch.{Branch}
use Rattle.hll_tree.specs.declared.tree.Cmp.{Cmp}
use Rattle.hll_tree.specs.declared.tree.Domain.{Domain}
use Rattle.hll_tree.specs.declared.tree.Expr.{Expr}
use Rattle.hll_tree.specs.declared.tree.Form.{Number, Truth, Path, Chain, Compare, Minus, Not, Choice, Group, Quant as Quantified, Pre, Least, Greatest, Size, Starting, Within}
use Rattle.hll_tree.specs.declared.tree.Link.{Link}
use Rattle.hll_tree.specs.declared.tree.Name.{Name}
use Rattle.hll_tree.specs.declared.tree.Op.{Op}
use Rattle.hll_tree.specs.declared.tree.Quant.{Quant}
use Rattle.hll_tree.specs.declared.tree.Reach.{Reach}
use Rattle.hll_meaning.specs.Kinds.{truth, Value}
use Rattle.hll_meaning.specs.Names.{Thing, constant, type_of, code_in, variable, later, Names, under}
use Rattle.hll_meaning.specs.Values.{of_number, of_truth, number, is_true, chained, compared, least, greatest}
use Rattle.hll_meaning.specs.Agreement.{AgreeButElements}
use Rattle.hll_meaning.specs.Judging.{Context, In, Judged, Linked, Reached, given_whole, wants_truth, comparison_faults, constant_kind, reached_from, one_step, path_from, thing_path, one_link, chain_of, made_of, made_of_all, choice_of, walked, all_in, all_faults, judged}
use Rattle.hll_meaning.proofs.JudgedForms.{link_said, branch_said, reach_said, judged-number, judged-truth, judged-path, judged-chain, judged-compare, judged-minus, judged-not, judged-choice, judged-least, judged-greatest, judged-size}
use Rattle.hll_meaning.proofs.Faultless.{empty_parts, first_empty}
use Rattle.hll_meaning.proofs.Elements.{MeansTheSame, under_agreeing, same_constant}
use Rattle.hll_meaning.proofs.Refused.{never_group, never_quantified, never_pre_alone, never_pre_with, never_starting, never_within}
use Rattle.hll_meaning.proofs.Lies.{front_faultless, link_parts}
use Rattle.hll_meaning.proofs.Paths.{not_needed, no_step, steps_before, constant_scalar}
use Rattle.hll_meaning.proofs.FormInduction.{HoldsByForm, holds_by_form}
use Rattle.hll_meaning.proofs.Constants.{values_at}

-- where a constant is needed, under these names
abbrev pub needing : Names → Context
needing xs = record { names = xs; bound = []; needs_constant = true }

-- each constant of the first names is one of the others
abbrev pub KeepsConstants : Names → Names → Type 0
KeepsConstants xs ys = (n : List ℕ) (b : Bool) (x : ℤ) → under n xs ≡ Some (constant b x) → under n ys ≡ Some (constant b x)

-- names that agree but for elements keep them
pub agreeing_keep : (xs ys : Names) → AgreeButElements xs ys → KeepsConstants xs ys
agreeing_keep xs ys agree n b x is = same_constant b x (under n ys) (subst (λ (o : Option Thing). MeansTheSame o (under n ys)) is (under_agreeing xs ys n agree))

-- the same in both places, where there are no faults
abbrev IsSameAt : Names → Names → In Judged → Type 0
IsSameAt xs ys j = (j (needing xs)).faults ≡ [] → j (needing xs) ≡ j (needing ys)

-- what is said of the expression is
abbrev pub IsSame : Expr → Type 0
IsSame e = (xs ys : Names) → KeepsConstants xs ys → IsSameAt xs ys (judged e)

by_forms : (j k l m : Judged) → j ≡ k → l ≡ m → (k.faults ≡ [] → k ≡ m) → j.faults ≡ [] → j ≡ l
by_forms j k l m p q h none = p ∙ h (subst (λ (i : Judged). i.faults ≡ []) p none) ∙ sym q

-- ---- paths

-- a path that is a constant has no steps
constant_same : (xs ys : Names) (at : ℕ) (b : Bool) (x : ℤ) (rs : List Reached) → (path_from (needing xs) at (constant_kind b x) true (of_number x) rs).faults ≡ [] →
    path_from (needing xs) at (constant_kind b x) true (of_number x) rs ≡ path_from (needing ys) at (constant_kind b x) true (of_number x) rs
constant_same xs ys at b x [] none = refl
constant_same xs ys at b x (r ∷ rs) none =
    let c = needing xs in
    absurd (no_step c at (constant_kind b x) [] r (constant_scalar b x)
    (steps_before c at rs (one_step c at (record { kind = constant_kind b x; faults = [] }) r) (first_empty (reached_from c at (constant_kind b x) (r ∷ rs)).faults [] none)))

thing_same : (xs ys : Names) (at : ℕ) (rs : List Reached) (o p : Option Thing) → ((b : Bool) (x : ℤ) → o ≡ Some (constant b x) → p ≡ Some (constant b x)) → (thing_path (needing xs) at rs o).faults ≡ [] → thing_path (needing xs) at rs o ≡ thing_path (needing ys) at rs p
thing_same xs ys at rs None p h none = absurd (cc none)
thing_same xs ys at rs (Some (constant b x)) p h none =
    constant_same xs ys at b x rs none ∙ sym (ap (λ (q : Option Thing). thing_path (needing ys) at rs q) (h b x refl))
thing_same xs ys at rs (Some (type_of k)) p h none = absurd (cc none)
thing_same xs ys at rs (Some (code_in root c)) p h none = absurd (not_needed (needing xs) at _ refl none)
thing_same xs ys at rs (Some (variable input k)) p h none = absurd (not_needed (needing xs) at _ refl none)
thing_same xs ys at rs (Some later) p h none = absurd (not_needed (needing xs) at _ refl none)

-- ---- lists of parts

all_same : (xs ys : Names) → KeepsConstants xs ys → (es : List Expr) → AllByRecursion IsSame es → all_faults (map (λ j. j (needing xs)) (map judged es)) ≡ [] →
    map (λ j. j (needing xs)) (map judged es) ≡ map (λ j. j (needing ys)) (map judged es)
all_same xs ys keeps [] all none = refl
all_same xs ys keeps (e ∷ es) all none =
    let p = empty_parts (judged e (needing xs)).faults _ none in
    let here = all.0 xs ys keeps p.0 in
    let there = all_same xs ys keeps es all.1 p.1 in
    λ i. here i ∷ there i

of_all_same : (xs ys : Names) → KeepsConstants xs ys → (at : ℕ) (es : List Expr) (rule : Ends → Ends → Ends) (f : List Value → ℤ) → AllByRecursion IsSame es →
    IsSameAt xs ys (λ c. made_of_all at (map (λ j. j c) (map judged es)) rule (f (map (λ j. (j c).value) (map judged es))))
of_all_same xs ys keeps at es rule f all none =
    let same = all_same xs ys keeps es all (first_empty (all_faults (map (λ j. j (needing xs)) (map judged es))) _ none) in
    (λ i. made_of_all at (map (λ j. j (needing xs)) (map judged es)) rule (f (values_at (needing xs) (map judged es) i)))
    ∙ (λ i. made_of_all at (same i) rule (f (map (λ j. j.value) (same i))))
    ∙ (λ i. made_of_all at (map (λ j. j (needing ys)) (map judged es)) rule (f (sym (values_at (needing ys) (map judged es)) i)))

-- operands that are the same
abbrev AreSameLinks : Names → Names → List Linked → Type 0
AreSameLinks xs ys = AllByRecursion (λ l. IsSameAt xs ys l.with)

links_same : (xs ys : Names) → KeepsConstants xs ys → (ls : List Link) → AllByRecursion (λ l. IsSame l.with) ls → AreSameLinks xs ys (map link_said ls)
links_same xs ys keeps [] all = tt
links_same xs ys keeps (l ∷ ls) all = (all.0 xs ys keeps, links_same xs ys keeps ls all.1)

-- an operator with its operand in one place
abbrev operand : Names → Linked → Op × Value
operand xs l = (l.op, (l.with (needing xs)).value)

-- a chain goes on the same, over the same operands
pub record AreSameFrom (xs ys : Names) (j k : Judged) (ls : List Linked) : Type 0 where
  pub chain : fold (one_link (needing xs)) j ls ≡ fold (one_link (needing ys)) k ls
  pub operands : map (operand xs) ls ≡ map (operand ys) ls

same_from : (xs ys : Names) (ls : List Linked) → AreSameLinks xs ys ls → (j k : Judged) → j ≡ k → (fold (one_link (needing xs)) j ls).faults ≡ [] → AreSameFrom xs ys j k ls
same_from xs ys [] all j k p none = record { chain = p; operands = refl }
same_from xs ys (l ∷ ls) all j k p none =
    let c = needing xs in
    let right = all.0 (link_parts c j l (front_faultless c ls (one_link c j l) none)).1 in
    let next : one_link (needing xs) j l ≡ one_link (needing ys) k l = λ i. one_link c (p i) (record { op = l.op; at = l.at; with = λ d. right i }) in
    let more = same_from xs ys ls all.1 (one_link (needing xs) j l) (one_link (needing ys) k l) next none in
    let others = more.operands in
    record { chain = more.chain; operands = λ i. (l.op, (right i).value) ∷ others i }

chain_same : (xs ys : Names) (at : ℕ) (j : In Judged) (ls : List Linked) → AreSameLinks xs ys ls → IsSameAt xs ys j → IsSameAt xs ys (λ c. chain_of c at (j c) ls)
chain_same xs ys at j ls all h none =
    let first = h (front_faultless (needing xs) ls (j (needing xs)) none) in
    let more = same_from xs ys ls all (j (needing xs)) (j (needing ys)) first none in
    let chain = more.chain in
    let operands = more.operands in
    λ i. given_whole at (chain i).faults (chain i).kind (chained (first i).value (operands i))

abbrev BranchIsSame : Branch → Type 0
BranchIsSame b = IsSame b.when × IsSame b.gives

branches_same : (xs ys : Names) → KeepsConstants xs ys → (bs : List Branch) → AllByRecursion BranchIsSame bs →
    flat_map (λ (b : Judged × Judged). b.0.faults ++ b.1.faults) (all_in (needing xs) (map branch_said bs)) ≡ [] →
    all_in (needing xs) (map branch_said bs) ≡ all_in (needing ys) (map branch_said bs)
branches_same xs ys keeps [] all none = refl
branches_same xs ys keeps (b ∷ bs) all none =
    let p = empty_parts ((judged b.when (needing xs)).faults ++ (judged b.gives (needing xs)).faults) _ none in
    let q = empty_parts (judged b.when (needing xs)).faults _ p.0 in
    let test = all.0.0 xs ys keeps q.0 in
    let gives = all.0.1 xs ys keeps q.1 in
    let there = branches_same xs ys keeps bs all.1 p.1 in
    λ i. (test i, gives i) ∷ there i

-- ---- forms

same_number : (e : Expr) (n : ℤ) → e.form ≡ Number n → IsSame e
same_number e n is xs ys keeps = by_forms _ _ _ _ (judged-number e n is (needing xs)) (judged-number e n is (needing ys)) (λ none. refl)

same_truth : (e : Expr) (b : Bool) → e.form ≡ Truth b → IsSame e
same_truth e b is xs ys keeps = by_forms _ _ _ _ (judged-truth e b is (needing xs)) (judged-truth e b is (needing ys)) (λ none. refl)

same_path : (e : Expr) (n : Name) (rs : List Reach) → e.form ≡ Path n rs → IsSame e
same_path e n rs is xs ys keeps =
    by_forms _ _ _ _ (judged-path e n rs is (needing xs)) (judged-path e n rs is (needing ys))
    (thing_same xs ys e.at (map reach_said rs) (under n.text xs) (under n.text ys) (keeps n.text))

same_chain : (e first : Expr) (ls : List Link) → e.form ≡ Chain first ls → IsSame first → AllByRecursion (λ l. IsSame l.with) ls → IsSame e
same_chain e first ls is f all xs ys keeps =
    by_forms _ _ _ _ (judged-chain e first ls is (needing xs)) (judged-chain e first ls is (needing ys))
    (chain_same xs ys e.at (judged first) (map link_said ls) (links_same xs ys keeps ls all) (f xs ys keeps))

same_compare : (e : Expr) (o : Cmp) (a b : Expr) → e.form ≡ Compare o a b → IsSame a → IsSame b → IsSame e
same_compare e o a b is f g xs ys keeps =
    by_forms _ _ _ _ (judged-compare e o a b is (needing xs)) (judged-compare e o a b is (needing ys))
    (λ none. let p = empty_parts (judged a (needing xs)).faults _ none in
    let x = f xs ys keeps p.0 in
    let y = g xs ys keeps (first_empty (judged b (needing xs)).faults _ p.1) in
    λ i. given_whole e.at ((x i).faults ++ ((y i).faults ++ comparison_faults o (x i) (y i))) truth (of_truth (compared o (number (x i).value) (number (y i).value))))

-- made of one part
same_made : (xs ys : Names) (j : In Judged) (at : ℕ) (rule : Ends → Ends) (f : ℤ → ℤ) → IsSameAt xs ys j → IsSameAt xs ys (λ c. made_of at (j c) rule f)
same_made xs ys j at rule f h none = ap (λ (k : Judged). made_of at k rule f) (h (first_empty (j (needing xs)).faults _ none))

same_minus : (e inner : Expr) → e.form ≡ Minus inner → IsSame inner → IsSame e
same_minus e inner is f xs ys keeps =
    by_forms _ _ _ _ (judged-minus e inner is (needing xs)) (judged-minus e inner is (needing ys)) (same_made xs ys (judged inner) e.at negation neg_ℤ (f xs ys keeps))

same_not : (e inner : Expr) → e.form ≡ Not inner → IsSame inner → IsSame e
same_not e inner is f xs ys keeps =
    by_forms _ _ _ _ (judged-not e inner is (needing xs)) (judged-not e inner is (needing ys))
    (λ none. ap (λ (k : Judged). given_whole e.at (k.faults ++ wants_truth k) truth (of_truth (not (is_true k.value)))) (f xs ys keeps (first_empty (judged inner (needing xs)).faults _ none)))

same_choice : (e : Expr) (bs : List Branch) (otherwise : Expr) → e.form ≡ Choice bs otherwise → AllByRecursion BranchIsSame bs → IsSame otherwise → IsSame e
same_choice e bs otherwise is all f xs ys keeps =
    by_forms _ _ _ _ (judged-choice e bs otherwise is (needing xs)) (judged-choice e bs otherwise is (needing ys))
    (λ none. let p = first_empty (walked (all_in (needing xs) (map branch_said bs)) (judged otherwise (needing xs))) _ none in
    let q = empty_parts (flat_map (λ (b : Judged × Judged). b.0.faults ++ b.1.faults) (all_in (needing xs) (map branch_said bs))) _ p in
    let x = branches_same xs ys keeps bs all q.0 in
    let y = f xs ys keeps q.1 in
    λ i. choice_of e.at (x i) (y i))

same_group : (e : Expr) (es : List Expr) → e.form ≡ Group es → IsSame e
same_group e es is xs ys keeps none = absurd (never_group e es is (needing xs) refl none)

same_quantified : (e : Expr) (q : Quant) (n : Name) (d : Domain) (body : Expr) → e.form ≡ Quantified q n d body → IsSame e
same_quantified e q n d body is xs ys keeps none = absurd (never_quantified e q n d body is (needing xs) refl none)

same_pre_alone : (e body : Expr) → e.form ≡ Pre body None → IsSame e
same_pre_alone e body is xs ys keeps none = absurd (never_pre_alone e body is (needing xs) refl none)

same_pre_with : (e body first : Expr) → e.form ≡ Pre body (Some first) → IsSame e
same_pre_with e body first is xs ys keeps none = absurd (never_pre_with e body first is (needing xs) refl none)

same_least : (e : Expr) (es : List Expr) → e.form ≡ Least es → AllByRecursion IsSame es → IsSame e
same_least e es is all xs ys keeps =
    by_forms _ _ _ _ (judged-least e es is (needing xs)) (judged-least e es is (needing ys)) (of_all_same xs ys keeps e.at es smaller least all)

same_greatest : (e : Expr) (es : List Expr) → e.form ≡ Greatest es → AllByRecursion IsSame es → IsSame e
same_greatest e es is all xs ys keeps =
    by_forms _ _ _ _ (judged-greatest e es is (needing xs)) (judged-greatest e es is (needing ys)) (of_all_same xs ys keeps e.at es greater greatest all)

same_size : (e inner : Expr) → e.form ≡ Size inner → IsSame inner → IsSame e
same_size e inner is f xs ys keeps =
    by_forms _ _ _ _ (judged-size e inner is (needing xs)) (judged-size e inner is (needing ys)) (same_made xs ys (judged inner) e.at absolute (λ x. pos (unsigned_abs x)) (f xs ys keeps))

same_starting : (e : Expr) → e.form ≡ Starting → IsSame e
same_starting e is xs ys keeps none = absurd (never_starting e is (needing xs) refl none)

same_within : (e inner : Expr) (i : Interval) → e.form ≡ Within inner i → IsSame e
same_within e inner i is xs ys keeps none = absurd (never_within e inner i is (needing xs) refl none)

-- ---- any depth

by_form : HoldsByForm IsSame (λ d. Unit {0}) (λ r. Unit {0})
by_form = record {
  number = same_number;
  truth = same_truth;
  path = λ e n rs is all. same_path e n rs is;
  chain = same_chain;
  compare = same_compare;
  minus = same_minus;
  negated = same_not;
  choice = same_choice;
  group = λ e es is all. same_group e es is;
  quantified = λ e q n d body is g f. same_quantified e q n d body is;
  pre_alone = λ e body is f. same_pre_alone e body is;
  pre_with = λ e body first is f g. same_pre_with e body first is;
  least = same_least;
  greatest = same_greatest;
  size = same_size;
  starting = same_starting;
  within = λ e inner i is f. same_within e inner i is;
  bounds = λ a b f g. tt;
  truths = tt;
  named = λ n. tt;
  index = λ e f. tt;
  field = λ n. tt;
}

pub is_kept : (e : Expr) → IsSame e
is_kept = holds_by_form IsSame (λ d. Unit {0}) (λ r. Unit {0}) by_form

pub is_same : (e : Expr) (xs ys : Names) → AgreeButElements xs ys → IsSameAt xs ys (judged e)
is_same e xs ys agree = is_kept e xs ys (agreeing_keep xs ys agree)
