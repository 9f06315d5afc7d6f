-- What fits: a scalar where its kind is accepted, and only scalars where a scalar is wanted. What is no scalar is a path, an `if` or
-- a group.
use Rattle.std.proofs.Common.{◌≡◌, ℕ, Bool, true, false, ◌&&◌, pos, List, [], ◌∷◌, ◌++◌, map, Option, Some, None, refl, sym, ap, subst, ◌∙◌}
use Rattle.std.specs.Prelude.{if◌then◌else◌}
use Rattle.std.specs.List.{AllByRecursion, flat_map}
use Rattle.hll_tree.specs.declared.tree.Branch.{Branch}
use Rattle.hll_tree.specs.declared.tree.Expr.{Expr}
use Rattle.hll_tree.specs.declared.tree.Form.{Path, Chain, Choice, Group, Pre}
use Rattle.hll_tree.specs.declared.tree.Link.{Link}
use Rattle.hll_tree.specs.declared.tree.Name.{Name}
use Rattle.hll_tree.specs.declared.tree.Reach.{Reach}
use Rattle.hll_meaning.specs.declared.fault.StaticKind.TheVariants as why
use Rattle.hll_meaning.specs.Fitting.{is_scalar, accepts, ends_of, join}
use Rattle.hll_meaning.specs.Judging.{Context, Fault, Judged, Reached as Said, fault_if, given_whole, index_faults, inside_bind, no_constant, reached_from, path_from, constant_kind, thing_path, bound_path, all_in, choice_of, group_at, judged}
use Rattle.hll_meaning.specs.Kinds.{Kind, truth, element, Value}
use Rattle.hll_meaning.specs.Names.{Thing, constant, type_of, code_in, variable, later, Names, under}
use Rattle.hll_meaning.specs.StaticRules.{asking}
use Rattle.hll_meaning.specs.Values.{of_number}
use Rattle.hll_meaning.proofs.Faultless.{must_be, both}
use Rattle.hll_meaning.proofs.FormInduction.{HoldsByForm, holds_by_form}
use Rattle.hll_meaning.proofs.JudgedForms.{link_said as judged_link, branch_said as judged_branch, reach_said as judged_reach, domain_said as judged_domain, judged-number, judged-truth, judged-path, judged-chain, judged-compare, judged-minus, judged-not, judged-choice, judged-group, judged-quantified, judged-pre_alone, judged-pre_with, judged-least, judged-greatest, judged-size, judged-starting, judged-within}
use Rattle.hll_meaning.proofs.Scenes.{by_test}
use Rattle.dependence.specs.Links.{linked, has_link}
use Rattle.dependence.proofs.Branches.{AreBranches, Fits, fitting_choice, first_branch, choice_scalar}
use Rattle.dependence.proofs.GivenKinds.{Goes}
use Rattle.dependence.proofs.GivenParts.{scalar_wanted, scalar_goes, chain_scalar, first_scalar, remembered, never_alone}
use Rattle.dependence.proofs.Linked.{link_linked, linked-chain}
use Rattle.dependence.proofs.ValuesHaveCells.{quantifier_scalar}

-- ---- a scalar fits where its kind is accepted

abbrev FitsAccepted : Judged → Type 0
FitsAccepted j = (k : Kind) → is_scalar j.kind ≡ true → accepts k j.kind ≡ true → j.fits k ≡ []

abbrev ScalarFits : Expr → Type 0
ScalarFits e = (c : Context) → FitsAccepted (judged e c)

whole_fits : (at : ℕ) (fs : List Fault) (own : Kind) (v : Value) → FitsAccepted (given_whole at fs own v)
whole_fits at fs own v k scalar a = rw a refl

by_whole : (e : Expr) (c : Context) (at : ℕ) (fs : List Fault) (own : Kind) (v : Value) → judged e c ≡ given_whole at fs own v → FitsAccepted (judged e c)
by_whole e c at fs own v is = subst FitsAccepted (sym is) (whole_fits at fs own v)

from_fits : (c : Context) (at : ℕ) (k : Kind) (fixed : Bool) (v : Value) (rs : List Said) → FitsAccepted (path_from c at k fixed v rs)
from_fits c at k fixed v rs = whole_fits at [] (reached_from c at k rs).kind v

path_fits : (c : Context) (at : ℕ) (n : List ℕ) (rs : List Said) (o : Option Kind) → FitsAccepted (bound_path c at n rs o)
path_fits c at n rs (Some k) = from_fits c at k false [] rs
path_fits c at n rs None = by_thing (under n c.names)
  where
    by_thing : (o : Option Thing) → FitsAccepted (thing_path c at rs o)
    by_thing None = whole_fits at [] truth []
    by_thing (Some (constant b x)) = from_fits c at (constant_kind b x) true (of_number x) rs
    by_thing (Some (type_of k)) = whole_fits at [] truth []
    by_thing (Some (code_in root code)) = from_fits c at (element root (record { lo = pos code; hi = pos code })) false [] rs
    by_thing (Some (variable input k)) = from_fits c at k false [] rs
    by_thing (Some later) = whole_fits at [] truth []

choice_fits : (at : ℕ) (bs : List (Judged × Judged)) (j : Judged) → FitsAccepted (choice_of at bs j)
choice_fits at bs j k scalar a = rw (scalar, a) refl

scalar_fits_by_form : HoldsByForm ScalarFits (λ d. Unit {0}) (λ r. Unit {0})
scalar_fits_by_form = record {
  number = λ e n is c. by_whole e c _ _ _ _ (judged-number e n is c);
  truth = λ e b is c. by_whole e c _ _ _ _ (judged-truth e b is c);
  path = λ e n rs is all c. subst FitsAccepted (sym (judged-path e n rs is c)) (path_fits c e.at n.text (map judged_reach rs) (under n.text c.bound));
  chain = λ e first ls is f all c. by_whole e c _ _ _ _ (judged-chain e first ls is c);
  compare = λ e o a b is f g c. by_whole e c _ _ _ _ (judged-compare e o a b is c);
  minus = λ e inner is f c. by_whole e c _ _ _ _ (judged-minus e inner is c);
  negated = λ e inner is f c. by_whole e c _ _ _ _ (judged-not e inner is c);
  choice = λ e bs otherwise is all f c. subst FitsAccepted (sym (judged-choice e bs otherwise is c)) (choice_fits e.at (all_in c (map judged_branch bs)) (judged otherwise c));
  group = λ e es is all c. subst FitsAccepted (sym (judged-group e es is c)) (λ k scalar a. absurd (cc scalar));
  quantified = λ e q n d body is g f c. by_whole e c _ _ _ _ (judged-quantified e q n d body is c);
  pre_alone = λ e body is f c. by_whole e c _ _ _ _ (judged-pre_alone e body is c);
  pre_with = λ e body first is f g c. by_whole e c _ _ _ _ (judged-pre_with e body first is c);
  least = λ e es is all c. by_whole e c _ _ _ _ (judged-least e es is c);
  greatest = λ e es is all c. by_whole e c _ _ _ _ (judged-greatest e es is c);
  size = λ e inner is f c. by_whole e c _ _ _ _ (judged-size e inner is c);
  starting = λ e is c. by_whole e c _ _ _ _ (judged-starting e is c);
  within = λ e inner i is f c. by_whole e c _ _ _ _ (judged-within e inner i is c);
  bounds = λ a b f g. tt;
  truths = tt;
  named = λ n. tt;
  index = λ e f. tt;
  field = λ n. tt;
}

pub scalar_fits : (e : Expr) (c : Context) (k : Kind) → is_scalar (judged e c).kind ≡ true → accepts k (judged e c).kind ≡ true → (judged e c).fits k ≡ []
scalar_fits e c k = holds_by_form ScalarFits (λ d. Unit {0}) (λ r. Unit {0}) scalar_fits_by_form e c k

-- ---- only a scalar fits a scalar

abbrev IsScalarWhere : Judged → Type 0
IsScalarWhere j = (k : Kind) → j.faults ≡ [] → j.fits k ≡ [] → is_scalar k ≡ true → is_scalar j.kind ≡ true

abbrev FitsScalars : Expr → Type 0
FitsScalars e = (c : Context) → IsScalarWhere (judged e c)

whole_where : (at : ℕ) (fs : List Fault) (own : Kind) (v : Value) → IsScalarWhere (given_whole at fs own v)
whole_where at fs own v k none fit scalar = scalar_goes k own (must_be (accepts k own) _ at fit) scalar

where_whole : (e : Expr) (c : Context) (at : ℕ) (fs : List Fault) (own : Kind) (v : Value) → judged e c ≡ given_whole at fs own v → IsScalarWhere (judged e c)
where_whole e c at fs own v is = subst IsScalarWhere (sym is) (whole_where at fs own v)

from_where : (c : Context) (at : ℕ) (k : Kind) (fixed : Bool) (v : Value) (rs : List Said) → IsScalarWhere (path_from c at k fixed v rs)
from_where c at k fixed v rs = whole_where at ((reached_from c at k rs).faults ++ (if fixed then [] else no_constant c at)) (reached_from c at k rs).kind v

path_where : (c : Context) (at : ℕ) (n : List ℕ) (rs : List Said) (o : Option Kind) → IsScalarWhere (bound_path c at n rs o)
path_where c at n rs (Some k) = from_where c at k false [] rs
path_where c at n rs None = by_thing (under n c.names)
  where
    by_thing : (o : Option Thing) → IsScalarWhere (thing_path c at rs o)
    by_thing None = whole_where at (fault_if true why.Unknown at) truth []
    by_thing (Some (constant b x)) = from_where c at (constant_kind b x) true (of_number x) rs
    by_thing (Some (type_of k)) = whole_where at (fault_if true why.Kind at) truth []
    by_thing (Some (code_in root code)) = from_where c at (element root (record { lo = pos code; hi = pos code })) false [] rs
    by_thing (Some (variable input k)) = from_where c at k false [] rs
    by_thing (Some later) = whole_where at (flat_map (index_faults c) rs ++ no_constant c at) truth []

first_where : (c : Context) (bs : List Branch) (otherwise : Expr) → AllByRecursion (λ b. FitsScalars b.when × FitsScalars b.gives) bs → FitsScalars otherwise → (k : Kind) → AreBranches (Fits k) (all_in c (map judged_branch bs)) (judged otherwise c) → is_scalar k ≡ true →
    is_scalar (first_branch (all_in c (map judged_branch bs)) (judged otherwise c)).kind ≡ true
first_where c [] otherwise all last k are scalar = last c k are.faultless are.has scalar
first_where c (b ∷ bs) otherwise all last k are scalar = all.0.1 c k are.each.0.faultless are.each.0.has scalar

choice_where : (e : Expr) (bs : List Branch) (otherwise : Expr) → e.form ≡ Choice bs otherwise → AllByRecursion (λ b. FitsScalars b.when × FitsScalars b.gives) bs → FitsScalars otherwise → FitsScalars e
choice_where e bs otherwise is all last c = subst IsScalarWhere (sym (judged-choice e bs otherwise is c)) here
  where
    here : IsScalarWhere (choice_of e.at (all_in c (map judged_branch bs)) (judged otherwise c))
    here k none fit scalar =
        by_test (is_scalar (choice_of e.at (all_in c (map judged_branch bs)) (judged otherwise c)).kind) (λ yes. yes)
        (λ list. choice_scalar e.at (all_in c (map judged_branch bs)) (judged otherwise c)
        (first_where c bs otherwise all last k (fitting_choice e.at (all_in c (map judged_branch bs)) (judged otherwise c) none k list fit) scalar))

group_where : (c : Context) (at : ℕ) (js : List Judged) → IsScalarWhere (group_at c at js)
group_where c at js k none fit scalar = let f : fault_if true why.Mismatch at ≡ [] = rw scalar at fit in absurd (cc f)

fits_scalars_by_form : HoldsByForm FitsScalars (λ d. Unit {0}) (λ r. Unit {0})
fits_scalars_by_form = record {
  number = λ e n is c. where_whole e c _ _ _ _ (judged-number e n is c);
  truth = λ e b is c. where_whole e c _ _ _ _ (judged-truth e b is c);
  path = λ e n rs is all c. subst IsScalarWhere (sym (judged-path e n rs is c)) (path_where c e.at n.text (map judged_reach rs) (under n.text c.bound));
  chain = λ e first ls is f all c. where_whole e c _ _ _ _ (judged-chain e first ls is c);
  compare = λ e o a b is f g c. where_whole e c _ _ _ _ (judged-compare e o a b is c);
  minus = λ e inner is f c. where_whole e c _ _ _ _ (judged-minus e inner is c);
  negated = λ e inner is f c. where_whole e c _ _ _ _ (judged-not e inner is c);
  choice = choice_where;
  group = λ e es is all c. subst IsScalarWhere (sym (judged-group e es is c)) (group_where c e.at _);
  quantified = λ e q n d body is g f c. where_whole e c _ _ _ _ (judged-quantified e q n d body is c);
  pre_alone = λ e body is f c. where_whole e c _ _ _ _ (judged-pre_alone e body is c);
  pre_with = λ e body first is f g c. where_whole e c _ _ _ _ (judged-pre_with e body first is c);
  least = λ e es is all c. where_whole e c _ _ _ _ (judged-least e es is c);
  greatest = λ e es is all c. where_whole e c _ _ _ _ (judged-greatest e es is c);
  size = λ e inner is f c. where_whole e c _ _ _ _ (judged-size e inner is c);
  starting = λ e is c. where_whole e c _ _ _ _ (judged-starting e is c);
  within = λ e inner i is f c. where_whole e c _ _ _ _ (judged-within e inner i is c);
  bounds = λ a b f g. tt;
  truths = tt;
  named = λ n. tt;
  index = λ e f. tt;
  field = λ n. tt;
}

pub fits_scalar : (e : Expr) (c : Context) (k : Kind) → (judged e c).faults ≡ [] → (judged e c).fits k ≡ [] → is_scalar k ≡ true → is_scalar (judged e c).kind ≡ true
fits_scalar e c k = holds_by_form FitsScalars (λ d. Unit {0}) (λ r. Unit {0}) fits_scalars_by_form e c k

-- ---- lists

-- a path, an `if` or a group
pub data IsListForm (e : Expr) : Type 0 where
  a_path : (n : Name) (rs : List Reach) → e.form ≡ Path n rs → IsListForm e
  a_choice : (bs : List Branch) (otherwise : Expr) → e.form ≡ Choice bs otherwise → IsListForm e
  a_group : (es : List Expr) → e.form ≡ Group es → IsListForm e

module _ (ns : Names) (ks : List (List ℕ × Kind)) (k : Kind) (list : is_scalar k ≡ false) where
  abbrev IsList : Expr → Type 0
  IsList e = linked e ≡ true → (judged e (asking ns ks)).faults ≡ [] → Goes ns (judged e (asking ns ks)) k → IsListForm e

  no_scalar : (e : Expr) (at : ℕ) (fs : List Fault) (own : Kind) (v : Value) → judged e (asking ns ks) ≡ given_whole at fs own v → is_scalar own ≡ true → Goes ns (judged e (asking ns ks)) k → IsListForm e
  no_scalar e at fs own v is scalar goes =
      let f : true ≡ false = sym (scalar_wanted ns at fs own k v scalar (subst (λ (j : Judged). Goes ns j k) is goes)) ∙ list in
      absurd (cc f)

  told : (e : Expr) (j : Judged) → judged e (asking ns ks) ≡ j → (judged e (asking ns ks)).faults ≡ [] → j.faults ≡ []
  told e j is none = sym (ap (λ (x : Judged). x.faults) is) ∙ none

  no_chain : (e first : Expr) (ls : List Link) → e.form ≡ Chain first ls → IsList e
  no_chain e first ls is l none goes =
      let c = asking ns ks in
      let own = judged-chain e first ls is c in
      let p = both (linked first && has_link (map link_linked ls)) _ (linked-chain e first ls is l) in
      no_scalar e _ _ _ _ own (chain_scalar c (map judged_link ls) (judged first c) (first_scalar c (judged first c) ls (both (linked first) _ p.0).1 (told e _ own none))) goes

  no_memory : (e body first : Expr) → e.form ≡ Pre body (Some first) → IsList e
  no_memory e body first is l none goes =
      let c = asking ns ks in
      let own = judged-pre_with e body first is c in
      no_scalar e _ _ (join (judged body c).kind (judged first c).kind).kind _ own (remembered c e.at (judged body c) (judged first c) (told e _ own none)).scalar goes

  is_list_by_form : HoldsByForm IsList (λ d. Unit {0}) (λ r. Unit {0})
  is_list_by_form = record {
    number = λ e n is l none goes. no_scalar e _ _ _ _ (judged-number e n is (asking ns ks)) refl goes;
    truth = λ e b is l none goes. no_scalar e _ _ _ _ (judged-truth e b is (asking ns ks)) refl goes;
    path = λ e n rs is all l none goes. a_path n rs is;
    chain = λ e first ls is f all. no_chain e first ls is;
    compare = λ e o a b is f g l none goes. no_scalar e _ _ _ _ (judged-compare e o a b is (asking ns ks)) refl goes;
    minus = λ e inner is f l none goes. no_scalar e _ _ _ _ (judged-minus e inner is (asking ns ks)) refl goes;
    negated = λ e inner is f l none goes. no_scalar e _ _ _ _ (judged-not e inner is (asking ns ks)) refl goes;
    choice = λ e bs otherwise is all f l none goes. a_choice bs otherwise is;
    group = λ e es is all l none goes. a_group es is;
    quantified = λ e q n d body is g f l none goes.
        let c = asking ns ks in
        no_scalar e _ _ _ _ (judged-quantified e q n d body is c) (quantifier_scalar q (ends_of (judged_domain d c).kind) (judged body (inside_bind n.text (judged_domain d c).kind c)).kind) goes;
    pre_alone = λ e body is f l none goes. absurd (never_alone e body is (asking ns ks) none);
    pre_with = λ e body first is f g. no_memory e body first is;
    least = λ e es is all l none goes. no_scalar e _ _ _ _ (judged-least e es is (asking ns ks)) refl goes;
    greatest = λ e es is all l none goes. no_scalar e _ _ _ _ (judged-greatest e es is (asking ns ks)) refl goes;
    size = λ e inner is f l none goes. no_scalar e _ _ _ _ (judged-size e inner is (asking ns ks)) refl goes;
    starting = λ e is l none goes. no_scalar e _ _ _ _ (judged-starting e is (asking ns ks)) refl goes;
    within = λ e inner i is f l none goes. no_scalar e _ _ _ _ (judged-within e inner i is (asking ns ks)) refl goes;
    bounds = λ a b f g. tt;
    truths = tt;
    named = λ n. tt;
    index = λ e f. tt;
    field = λ n. tt;
  }

  -- what goes where a list is wanted is one of these
  pub list_form : (e : Expr) → IsList e
  list_form = holds_by_form IsList (λ d. Unit {0}) (λ r. Unit {0}) is_list_by_form
