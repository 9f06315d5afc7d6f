-- Where a constant is needed, the value that is said of an expression is its value in each scene.
use Rattle.std.proofs.Common.{◌≡◌, ℤ, Bool, true, not, Some, None, List, [], ◌∷◌, map, neg_ℤ, pos, unsigned_abs, refl, sym, ap, subst, ◌∙◌}
use Rattle.std.specs.List.{AllByRecursion}
use Rattle.intervals.specs.declared.interval.Interval.{Interval}
use Rattle.intervals.specs.Rules.{negation, absolute, smaller, greater}
use Rattle.hll_tree.specs.declared.tree.Branch.{Branch}
use Rattle.hll_tree.specs.declared.tree.Cmp.{Cmp}
use Rattle.hll_tree.specs.declared.tree.Domain.{Domain}
use Rattle.hll_tree.specs.declared.tree.Expr.{Expr}
use Rattle.hll_tree.specs.declared.tree.Form.{Number, Truth, Path, Chain, Compare, Minus, Not, Choice, Group, Quant as Quantified, Pre, Least, Greatest, Size, Starting, Within}
use Rattle.hll_tree.specs.declared.tree.Link.{Link}
use Rattle.hll_tree.specs.declared.tree.Name.{Name}
use Rattle.hll_tree.specs.declared.tree.Quant.{Quant}
use Rattle.hll_tree.specs.declared.tree.Reach.{Reach}
use Rattle.hll_meaning.specs.Kinds.{Value}
use Rattle.hll_meaning.specs.Values.{Scene, of_number, of_truth, number, is_true, compared, least, greatest, worth}
use Rattle.hll_meaning.specs.Judging.{Context, In, Judged, all_in, judged}
use Rattle.hll_meaning.proofs.WorthForms.{link_worth, reach_worth, worth-number, worth-truth, worth-path, worth-chain, worth-compare, worth-minus, worth-not, worth-choice, worth-least, worth-greatest, worth-size}
use Rattle.hll_meaning.proofs.JudgedForms.{link_said, branch_said, reach_said, judged-number, judged-truth, judged-path, judged-chain, judged-compare, judged-minus, judged-not, judged-choice, judged-least, judged-greatest, judged-size}
pub use Rattle.hll_meaning.proofs.FormInduction.{each_has, made}
use Rattle.hll_meaning.proofs.FormInduction.{HoldsByForm, holds_by_form}
use Rattle.hll_meaning.proofs.Faultless.{empty_parts, first_empty}
use Rattle.hll_meaning.proofs.Refused.{never_group, never_quantified, never_pre_alone, never_pre_with, never_starting, never_within}
use Rattle.hll_meaning.proofs.Scenes.{HasAll}
use Rattle.hll_meaning.proofs.Paths.{path_said}
use Rattle.hll_meaning.proofs.Said.{Says, AllSay, AllLinkSay, AllBranchesSay, made_said, of_all_said, chain_said, choice_said}

-- where a constant is needed, the value that is said of the expression is its value
abbrev pub IsSaid : Expr → Type 0
IsSaid e = (c : Context) (s : Scene) → HasAll c s → c.needs_constant ≡ true → Says (judged e c) (worth e s)

by_forms : (j k : Judged) (v w : Value) → j ≡ k → v ≡ w → Says k w → Says j v
by_forms j k v w p q h = subst (λ (i : Judged). Says i v) (sym p) (subst (λ (u : Value). Says k u) (sym q) h)

-- ---- lists of parts

all_said : (es : List Expr) → AllByRecursion IsSaid es → (c : Context) (s : Scene) → HasAll c s → c.needs_constant ≡ true → AllSay (map (λ j. j c) (map judged es)) (map (λ e. e s) (map worth es))
all_said [] all c s h needed = tt
all_said (e ∷ es) all c s h needed = (all.0 c s h needed, all_said es all.1 c s h needed)

links_said : (ls : List Link) → AllByRecursion (λ l. IsSaid l.with) ls → (c : Context) (s : Scene) → HasAll c s → c.needs_constant ≡ true → AllLinkSay c (map link_said ls) (map (λ l. (l.0, l.1 s)) (map link_worth ls))
links_said [] all c s h needed = tt
links_said (l ∷ ls) all c s h needed = (refl, all.0 c s h needed, links_said ls all.1 c s h needed)

abbrev BranchIsSaid : Branch → Type 0
BranchIsSaid b = IsSaid b.when × IsSaid b.gives

branches_said : (bs : List Branch) → AllByRecursion BranchIsSaid bs → (c : Context) (s : Scene) → HasAll c s → c.needs_constant ≡ true →
    AllBranchesSay s (all_in c (map branch_said bs)) (map (λ b. (worth b.when, worth b.gives)) bs)
branches_said [] all c s h needed = tt
branches_said (b ∷ bs) all c s h needed = (all.0.0 c s h needed, all.0.1 c s h needed, branches_said bs all.1 c s h needed)

pub values_at : (c : Context) (js : List (In Judged)) → map (λ j. (j c).value) js ≡ map (λ j. j.value) (map (λ j. j c) js)
values_at c [] = refl
values_at c (j ∷ js) = ap (λ (vs : List Value). (j c).value ∷ vs) (values_at c js)

-- ---- forms

said_number : (e : Expr) (n : ℤ) → e.form ≡ Number n → IsSaid e
said_number e n is c s h needed = by_forms _ _ _ _ (judged-number e n is c) (worth-number e n is s) (λ none. refl)

said_truth : (e : Expr) (b : Bool) → e.form ≡ Truth b → IsSaid e
said_truth e b is c s h needed = by_forms _ _ _ _ (judged-truth e b is c) (worth-truth e b is s) (λ none. refl)

said_path : (e : Expr) (n : Name) (rs : List Reach) → e.form ≡ Path n rs → IsSaid e
said_path e n rs is c s h needed =
    by_forms _ _ _ _ (judged-path e n rs is c) (worth-path e n rs is s)
    (path_said c s h needed e.at n.text (map reach_said rs) (map (λ r. r s) (map reach_worth rs)))

said_chain : (e first : Expr) (ls : List Link) → e.form ≡ Chain first ls → IsSaid first → AllByRecursion (λ l. IsSaid l.with) ls → IsSaid e
said_chain e first ls is f all c s h needed =
    by_forms _ _ _ _ (judged-chain e first ls is c) (worth-chain e first ls is s)
    (chain_said c e.at (judged first c) (worth first s) (map link_said ls) (map (λ l. (l.0, l.1 s)) (map link_worth ls)) (links_said ls all c s h needed) (f c s h needed))

said_compare : (e : Expr) (o : Cmp) (a b : Expr) → e.form ≡ Compare o a b → IsSaid a → IsSaid b → IsSaid e
said_compare e o a b is f g c s h needed =
    by_forms _ _ _ _ (judged-compare e o a b is c) (worth-compare e o a b is s)
    (λ none. let p = empty_parts (judged a c).faults _ none in
    let x = f c s h needed p.0 in
    let y = g c s h needed (first_empty (judged b c).faults _ p.1) in
    λ i. of_truth (compared o (number (x i)) (number (y i))))

said_minus : (e inner : Expr) → e.form ≡ Minus inner → IsSaid inner → IsSaid e
said_minus e inner is f c s h needed = by_forms _ _ _ _ (judged-minus e inner is c) (worth-minus e inner is s) (made_said e.at (judged inner c) negation neg_ℤ (worth inner s) (f c s h needed))

said_not : (e inner : Expr) → e.form ≡ Not inner → IsSaid inner → IsSaid e
said_not e inner is f c s h needed =
    by_forms _ _ _ _ (judged-not e inner is c) (worth-not e inner is s)
    (λ none. ap (λ (v : Value). of_truth (not (is_true v))) (f c s h needed (first_empty (judged inner c).faults _ none)))

said_choice : (e : Expr) (bs : List Branch) (otherwise : Expr) → e.form ≡ Choice bs otherwise → AllByRecursion BranchIsSaid bs → IsSaid otherwise → IsSaid e
said_choice e bs otherwise is all f c s h needed =
    by_forms _ _ _ _ (judged-choice e bs otherwise is c) (worth-choice e bs otherwise is s)
    (choice_said s e.at (all_in c (map branch_said bs)) (map (λ b. (worth b.when, worth b.gives)) bs) (judged otherwise c) (worth otherwise) (branches_said bs all c s h needed) (f c s h needed))

said_group : (e : Expr) (es : List Expr) → e.form ≡ Group es → IsSaid e
said_group e es is c s h needed none = absurd (never_group e es is c needed none)

said_quantified : (e : Expr) (q : Quant) (n : Name) (d : Domain) (body : Expr) → e.form ≡ Quantified q n d body → IsSaid e
said_quantified e q n d body is c s h needed none = absurd (never_quantified e q n d body is c needed none)

said_pre_alone : (e body : Expr) → e.form ≡ Pre body None → IsSaid e
said_pre_alone e body is c s h needed none = absurd (never_pre_alone e body is c needed none)

said_pre_with : (e body first : Expr) → e.form ≡ Pre body (Some first) → IsSaid e
said_pre_with e body first is c s h needed none = absurd (never_pre_with e body first is c needed none)

said_least : (e : Expr) (es : List Expr) → e.form ≡ Least es → AllByRecursion IsSaid es → IsSaid e
said_least e es is all c s h needed =
    by_forms _ _ _ _ (judged-least e es is c) (worth-least e es is s)
    (λ none. ap (λ (vs : List Value). of_number (least vs)) (values_at c (map judged es)) ∙ of_all_said e.at (map (λ j. j c) (map judged es)) (map (λ e. e s) (map worth es)) smaller least (all_said es all c s h needed) none)

said_greatest : (e : Expr) (es : List Expr) → e.form ≡ Greatest es → AllByRecursion IsSaid es → IsSaid e
said_greatest e es is all c s h needed =
    by_forms _ _ _ _ (judged-greatest e es is c) (worth-greatest e es is s)
    (λ none. ap (λ (vs : List Value). of_number (greatest vs)) (values_at c (map judged es)) ∙ of_all_said e.at (map (λ j. j c) (map judged es)) (map (λ e. e s) (map worth es)) greater greatest (all_said es all c s h needed) none)

said_size : (e inner : Expr) → e.form ≡ Size inner → IsSaid inner → IsSaid e
said_size e inner is f c s h needed = by_forms _ _ _ _ (judged-size e inner is c) (worth-size e inner is s) (made_said e.at (judged inner c) absolute (λ x. pos (unsigned_abs x)) (worth inner s) (f c s h needed))

said_starting : (e : Expr) → e.form ≡ Starting → IsSaid e
said_starting e is c s h needed none = absurd (never_starting e is c needed none)

said_within : (e inner : Expr) (i : Interval) → e.form ≡ Within inner i → IsSaid e
said_within e inner i is c s h needed none = absurd (never_within e inner i is c needed none)

-- ---- any depth

by_form : HoldsByForm IsSaid (λ d. Unit {0}) (λ r. Unit {0})
by_form = record {
  number = said_number;
  truth = said_truth;
  path = λ e n rs is all. said_path e n rs is;
  chain = said_chain;
  compare = said_compare;
  minus = said_minus;
  negated = said_not;
  choice = said_choice;
  group = λ e es is all. said_group e es is;
  quantified = λ e q n d body is g f. said_quantified e q n d body is;
  pre_alone = λ e body is f. said_pre_alone e body is;
  pre_with = λ e body first is f g. said_pre_with e body first is;
  least = said_least;
  greatest = said_greatest;
  size = said_size;
  starting = said_starting;
  within = λ e inner i is f. said_within e inner i is;
  bounds = λ a b f g. tt;
  truths = tt;
  named = λ n. tt;
  index = λ e f. tt;
  field = λ n. tt;
}

pub is_said : (e : Expr) → IsSaid e
is_said = holds_by_form IsSaid (λ d. Unit {0}) (λ r. Unit {0}) by_form
