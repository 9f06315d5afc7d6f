-- What the static rules say of an expression: its kind, its faults in the order of the walk, and where it may stand.
use Rattle.std.specs.Prelude.{ℕ, ◌+◌, ◌==◌, ℤ, pos, ◌-ℤ◌, int_lt, Bool, true, false, not, ◌&&◌, ◌||◌, List, [], ◌∷◌, ◌++◌, map, length, fold, Option, Some, None, unwrap_or, unsigned_abs, neg_ℤ, if◌then◌else◌}
use Rattle.std.specs.List.{flat_map}
use Rattle.std.specs.Ordering.{int_eq}
use Rattle.std.specs.Str.{bytes_eq}
use Rattle.intervals.specs.Ends.{Ends}
use Rattle.intervals.specs.Rules.{sum, difference, product, ratio, modulus, smaller, greater, negation, absolute, multiple}
use Rattle.hll_tree.specs.declared.tree.Cmp.{Cmp}
use Rattle.hll_tree.specs.declared.tree.Cmp.TheVariants as cmp
use Rattle.hll_tree.specs.declared.tree.Domain.{Domain, Domain-F, fold-Domain}
use Rattle.hll_tree.specs.declared.tree.Expr.{Expr, fold-Expr}
use Rattle.hll_tree.specs.declared.tree.Form.{Form-F}
use Rattle.hll_tree.specs.declared.tree.Name.{Name}
use Rattle.hll_tree.specs.declared.tree.Op.{Op}
use Rattle.hll_tree.specs.declared.tree.Op.TheVariants as op
use Rattle.hll_tree.specs.declared.tree.Quant.{Quant}
use Rattle.hll_tree.specs.declared.tree.Quant.TheVariants as quant
use Rattle.hll_tree.specs.declared.tree.Reach.{Reach-F}
use Rattle.hll_meaning.specs.declared.fault.StaticKind.{StaticKind}
use Rattle.hll_meaning.specs.declared.fault.StaticKind.TheVariants as is
use Rattle.hll_meaning.specs.Kinds.{Kind, truth, whole, element, array, struct, Fields, none, field, Value}
use Rattle.hll_meaning.specs.Names.{Thing, constant, type_of, code_in, variable, later, Names, under}
use Rattle.hll_meaning.specs.Values.{of_number, of_truth, number, is_true, chained, compared, least, greatest}
use Rattle.hll_meaning.specs.Fitting.{is_truth, is_whole, is_scalar, accepts, ends_of, is_wide, parts, group_of, join}

-- ---- faults

-- what is wrong, and the byte offset of its place
pub record Fault : Type 0 where
  pub kind : StaticKind
  pub at : ℕ

-- a fault where something stands that mustn't
abbrev pub fault_if : Bool → StaticKind → ℕ → List Fault
fault_if true why at = record { kind = why; at = at } ∷ []
fault_if false why at = []

-- ---- where an expression stands

-- what names stand for, the kinds of bound and index names, the innermost first, and whether a constant is needed
pub record Context : Type 0 where
  pub names : Names
  pub bound : List (List ℕ × Kind)
  pub needs_constant : Bool

-- a thing that depends on where it stands
abbrev pub In : Type 0 → Type 0
In A = Context → A

-- the same place, but that a constant is needed
abbrev pub for_constant : Context → Context
for_constant c = record { names = c.names; bound = c.bound; needs_constant = true }

-- the same place inside a bind
abbrev pub inside_bind : List ℕ → Kind → Context → Context
inside_bind name k c = record { names = c.names; bound = (name, k) ∷ c.bound; needs_constant = c.needs_constant }

-- what is said of an expression: its place, its faults in the order of the walk, its kind, its value where it is a constant, and
-- the faults of giving it to a variable of a kind
pub record Judged : Type 0 where
  pub at : ℕ
  pub faults : List Fault
  pub kind : Kind
  pub value : Value
  pub fits : Kind → List Fault

-- it doesn't go where this kind is wanted
abbrev pub unfit : ℕ → Kind → Kind → List Fault
unfit at given wanted = fault_if (not (accepts wanted given)) is.Mismatch at

-- an expression that is given whole
abbrev pub given_whole : ℕ → List Fault → Kind → Value → Judged
given_whole at faults k v = record { at = at; faults = faults; kind = k; value = v; fits = unfit at k }

-- a truth value is wanted
abbrev pub wants_truth : Judged → List Fault
wants_truth j = fault_if (not (is_truth j.kind)) is.Mismatch j.at

-- a whole number is wanted
abbrev pub wants_whole : Judged → List Fault
wants_whole j = fault_if (not (is_whole j.kind)) is.Mismatch j.at

-- one cell is wanted
abbrev pub wants_scalar : Judged → List Fault
wants_scalar j = fault_if (not (is_scalar j.kind)) is.Mismatch j.at

-- the kind of another expression is wanted
abbrev pub wants_kind_of : Judged → Judged → List Fault
wants_kind_of other j = fault_if (not (accepts other.kind j.kind)) is.Mismatch j.at

-- a wide range
abbrev pub wide_at : Ends → ℕ → List Fault
wide_at e at = fault_if (is_wide e) is.Wide at

-- something that is no constant stands where one is needed
abbrev pub no_constant : Context → ℕ → List Fault
no_constant c at = fault_if c.needs_constant is.Constant at

-- the faults of expressions one after the other
abbrev pub all_faults : List Judged → List Fault
all_faults = flat_map (λ j. j.faults)

-- ---- paths

-- a step of a path: by an index, or by the name of a field at its place
pub data Reached : Type 0 where
  by_index : In Judged → Reached
  by_name : List ℕ → ℕ → Reached

-- what is reached so far, and the faults on the way
pub record Way : Type 0 where
  pub kind : Kind
  pub faults : List Fault

-- the field of this name
abbrev pub field_at : Fields → List ℕ → Option Kind
field_at none sought = None
field_at (field own k fields) sought = if bytes_eq own sought then Some k else field_at fields sought

-- a step goes on past the type: its path is wrong
abbrev pub past : ℕ → List Fault → Way
past at faults = record { kind = truth; faults = faults ++ fault_if true is.Mismatch at }

-- an index: an array is wanted, then a whole number
abbrev pub by_index_from : ℕ → Judged → Kind → List Fault → Way
by_index_from at i truth faults = past at (faults ++ i.faults)
by_index_from at i (whole e) faults = past at (faults ++ i.faults)
by_index_from at i (element root e) faults = past at (faults ++ i.faults)
by_index_from at i (array n k) faults = record { kind = k; faults = faults ++ (i.faults ++ wants_whole i) }
by_index_from at i (struct name fields) faults = past at (faults ++ i.faults)

-- the field that was found
abbrev pub found_field : List Fault → ℕ → Option Kind → Way
found_field faults place (Some k) = record { kind = k; faults = faults }
found_field faults place None = record { kind = truth; faults = faults ++ fault_if true is.Unknown place }

-- a field: a struct is wanted, then one of its fields
abbrev pub by_name_from : ℕ → List ℕ → ℕ → Kind → List Fault → Way
by_name_from at sought place truth faults = past at faults
by_name_from at sought place (whole e) faults = past at faults
by_name_from at sought place (element root e) faults = past at faults
by_name_from at sought place (array n k) faults = past at faults
by_name_from at sought place (struct name fields) faults = found_field faults place (field_at fields sought)

-- one step
abbrev pub one_step : Context → ℕ → Way → Reached → Way
one_step c at w (by_index i) = by_index_from at (i c) w.kind w.faults
one_step c at w (by_name sought place) = by_name_from at sought place w.kind w.faults

-- the steps of a path from a kind
abbrev pub reached_from : Context → ℕ → Kind → List Reached → Way
reached_from c at k steps = fold (one_step c at) (record { kind = k; faults = [] }) steps

-- the faults inside the indices of a path, where what is reached isn't known yet
abbrev pub index_faults : Context → Reached → List Fault
index_faults c (by_index i) = (i c).faults
index_faults c (by_name sought place) = []

-- a path from something of a kind, which is a constant or not
abbrev pub path_from : Context → ℕ → Kind → Bool → Value → List Reached → Judged
path_from c at k is_constant v steps =
    let w = reached_from c at k steps in
    given_whole at (w.faults ++ (if is_constant then [] else no_constant c at)) w.kind v

-- a path that is wrong at its name, whatever follows
abbrev pub wrong_path : StaticKind → ℕ → Judged
wrong_path why at = given_whole at (fault_if true why at) truth []

-- the kind of a constant
abbrev pub constant_kind : Bool → ℤ → Kind
constant_kind true x = truth
constant_kind false x = whole (record { lo = x; hi = x })

-- a path, by what its name stands for
abbrev pub thing_path : Context → ℕ → List Reached → Option Thing → Judged
thing_path c at steps None = wrong_path is.Unknown at
thing_path c at steps (Some (constant boolean x)) = path_from c at (constant_kind boolean x) true (of_number x) steps
thing_path c at steps (Some (type_of k)) = wrong_path is.Kind at
thing_path c at steps (Some (code_in root code)) = path_from c at (element root (record { lo = pos code; hi = pos code })) false [] steps
thing_path c at steps (Some (variable input k)) = path_from c at k false [] steps
thing_path c at steps (Some later) = given_whole at (flat_map (index_faults c) steps ++ no_constant c at) truth []

-- a path: a bound or index name hides what else has its name
abbrev pub bound_path : Context → ℕ → List ℕ → List Reached → Option Kind → Judged
bound_path c at name steps (Some k) = path_from c at k false [] steps
bound_path c at name steps None = thing_path c at steps (under name c.names)

-- ---- operators

-- an operator of truth values
abbrev pub is_logical : Op → Bool
is_logical op.Same = true
is_logical op.Differ = true
is_logical op.Implies = true
is_logical op.Or = true
is_logical op.And = true
is_logical op.Plus = false
is_logical op.Less = false
is_logical op.Times = false
is_logical op.Over = false
is_logical op.Rest = false

-- an operator that divides
abbrev pub is_division : Op → Bool
is_division op.Same = false
is_division op.Differ = false
is_division op.Implies = false
is_division op.Or = false
is_division op.And = false
is_division op.Plus = false
is_division op.Less = false
is_division op.Times = false
is_division op.Over = true
is_division op.Rest = true

-- the kind of a result
abbrev pub result_kind : Op → Ends → Ends → Kind
result_kind op.Same a b = truth
result_kind op.Differ a b = truth
result_kind op.Implies a b = truth
result_kind op.Or a b = truth
result_kind op.And a b = truth
result_kind op.Plus a b = whole (sum a b)
result_kind op.Less a b = whole (difference a b)
result_kind op.Times a b = whole (product a b)
result_kind op.Over a b = whole (ratio a b)
result_kind op.Rest a b = whole (modulus a b)

-- what an operand must be
abbrev pub wants_operand : Op → Judged → List Fault
wants_operand o j = if is_logical o then wants_truth j else wants_whole j

-- an operator with its place and the operand that follows it
pub record Linked : Type 0 where
  pub op : Op
  pub at : ℕ
  pub with : In Judged

-- the faults of an operator itself: its operands, a division by zero in a constant, a wide result
abbrev pub operator_faults : Context → Op → ℕ → Judged → Judged → List Fault
operator_faults c o at left right =
    wants_operand o left ++ (wants_operand o right ++
    (fault_if (c.needs_constant && (is_division o && int_eq (number right.value) (pos 0))) is.Range at ++
    wide_at (ends_of (result_kind o (ends_of left.kind) (ends_of right.kind))) at))

-- a chain one operator further: its operand is walked first
abbrev pub one_link : Context → Judged → Linked → Judged
one_link c left link =
    let right = link.with c in
    given_whole link.at (left.faults ++ (right.faults ++ operator_faults c link.op link.at left right))
    (result_kind link.op (ends_of left.kind) (ends_of right.kind)) []

-- the value of a chain of constants
abbrev pub chain_value : Context → Judged → List Linked → Value
chain_value c first links = chained first.value (map (λ link. (link.op, (link.with c).value)) links)

-- a chain, link by link
abbrev pub chain_of : Context → ℕ → Judged → List Linked → Judged
chain_of c at first links =
    let whole_chain = fold (one_link c) first links in
    given_whole at whole_chain.faults whole_chain.kind (chain_value c first links)

-- what a comparison wants of its operands: whole numbers, or for `=` and `<>` two scalars of one kind
abbrev pub comparison_faults : Cmp → Judged → Judged → List Fault
comparison_faults cmp.Eq a b = wants_scalar a ++ wants_kind_of a b
comparison_faults cmp.Ne a b = wants_scalar a ++ wants_kind_of a b
comparison_faults cmp.Lt a b = wants_whole a ++ wants_whole b
comparison_faults cmp.Le a b = wants_whole a ++ wants_whole b
comparison_faults cmp.Gt a b = wants_whole a ++ wants_whole b
comparison_faults cmp.Ge a b = wants_whole a ++ wants_whole b

-- a whole number that is made of one
abbrev pub made_of : ℕ → Judged → (Ends → Ends) → (ℤ → ℤ) → Judged
made_of at j rule value =
    given_whole at (j.faults ++ (wants_whole j ++ wide_at (rule (ends_of j.kind)) at)) (whole (rule (ends_of j.kind))) (of_number (value (number j.value)))

-- the range that a rule makes of one or more
abbrev pub over_all : (Ends → Ends → Ends) → List Judged → Ends
over_all rule [] = record { lo = pos 0; hi = pos 0 }
over_all rule (j ∷ js) = fold (λ e other. rule e (ends_of other.kind)) (ends_of j.kind) js

-- a whole number that is made of several
abbrev pub made_of_all : ℕ → List Judged → (Ends → Ends → Ends) → ℤ → Judged
made_of_all at js rule value =
    given_whole at (all_faults js ++ (flat_map wants_whole js ++ wide_at (over_all rule js) at)) (whole (over_all rule js)) (of_number value)

-- ---- `if`

-- what is tested of an `if`, in text order: a condition, or what stands for it
pub data Tested : Type 0 where
  condition : Judged → Tested
  branch : Judged → Tested

-- the branches so far: what they make together, their faults, and whether a range is wide or lengths differ
pub record Branches : Type 0 where
  pub kind : Option Kind
  pub faults : List Fault
  pub wide : Bool
  pub uneven : Bool

-- a branch joins those before it
abbrev pub with_branch : Branches → Judged → Option Kind → Branches
with_branch b j None = record { kind = Some j.kind; faults = b.faults; wide = b.wide; uneven = b.uneven }
with_branch b j (Some k) =
    let joined = join k j.kind in
    record {
      kind = Some joined.kind;
      faults = b.faults ++ fault_if joined.mismatched is.Mismatch j.at;
      wide = b.wide || joined.wide;
      uneven = b.uneven || joined.uneven;
    }

-- one test
abbrev pub with_test : Branches → Tested → Branches
with_test b (condition j) = record { kind = b.kind; faults = b.faults ++ wants_truth j; wide = b.wide; uneven = b.uneven }
with_test b (branch j) = with_branch b j b.kind

-- what an `if` tests
abbrev pub tests_of : List (Judged × Judged) → Judged → List Tested
tests_of branches otherwise = flat_map (λ b. condition b.0 ∷ branch b.1 ∷ []) branches ++ (branch otherwise ∷ [])

-- the faults of an `if`'s parts, which are all walked first
abbrev pub walked : List (Judged × Judged) → Judged → List Fault
walked branches otherwise = flat_map (λ b. b.0.faults ++ b.1.faults) branches ++ otherwise.faults

-- what each branch makes of the kind that is wanted
abbrev pub branches_fit : List (Judged × Judged) → Judged → Kind → List Fault
branches_fit branches otherwise wanted = flat_map (λ b. b.1.fits wanted) branches ++ otherwise.fits wanted

-- the value of the first branch whose condition is true
abbrev pub chosen_value : List (Judged × Judged) → Judged → Value
chosen_value [] otherwise = otherwise.value
chosen_value (b ∷ bs) otherwise = if is_true b.0.value then b.1.value else chosen_value bs otherwise

-- an `if`: one of scalars is given whole, one of lists branch by branch
abbrev pub choice_of : ℕ → List (Judged × Judged) → Judged → Judged
choice_of at branches otherwise =
    let b = fold with_test (record { kind = None; faults = []; wide = false; uneven = false }) (tests_of branches otherwise) in
    let k = unwrap_or b.kind truth in
    record {
      at = at;
      faults = walked branches otherwise ++ (b.faults ++ (fault_if b.wide is.Wide at ++ fault_if b.uneven is.Shape at));
      kind = k;
      value = chosen_value branches otherwise;
      fits = λ wanted. if is_scalar k then unfit at k wanted else branches_fit branches otherwise wanted;
    }

-- ---- groups

-- each part is given to a part
abbrev pub each_fits : List Judged → List Kind → List Fault
each_fits [] ks = []
each_fits (j ∷ js) [] = []
each_fits (j ∷ js) (k ∷ ks) = j.fits k ++ each_fits js ks

-- a group wants a list of as many parts
abbrev pub group_fits : ℕ → List Judged → Kind → List Fault
group_fits at js wanted =
    if is_scalar wanted then fault_if true is.Mismatch at
    else (if length (parts wanted) == length js then each_fits js (parts wanted) else fault_if true is.Shape at)

-- parts in braces
abbrev pub group_at : Context → ℕ → List Judged → Judged
group_at c at js = record {
  at = at;
  faults = all_faults js ++ no_constant c at;
  kind = group_of (map (λ j. j.kind) js);
  value = [];
  fits = group_fits at js;
}

-- ---- quantifiers

-- a domain: its faults, and the kind of the bound name
pub record Ranged : Type 0 where
  pub faults : List Fault
  pub kind : Kind

-- from one number to another
abbrev pub from_to : ℤ → ℤ → Ends
from_to lo hi = record { lo = lo; hi = hi }

-- bounds are whole numbers in order, and not wide
abbrev pub bounds_of : Judged → Judged → Ranged
bounds_of a b =
    let e = from_to (number a.value) (number b.value) in
    record {
      faults = a.faults ++ (b.faults ++ (wants_whole a ++ (wants_whole b ++ (fault_if (int_lt e.hi e.lo) is.Range a.at ++ wide_at e a.at))));
      kind = whole e;
    }

-- a scalar type
abbrev pub scalar_domain : ℕ → Kind → Ranged
scalar_domain at k = record { faults = fault_if (not (is_scalar k)) is.Kind at; kind = k }

-- a wrong domain
abbrev pub wrong_domain : StaticKind → ℕ → Ranged
wrong_domain why at = record { faults = fault_if true why at; kind = truth }

-- a domain by what its name stands for
abbrev pub thing_domain : ℕ → Option Thing → Ranged
thing_domain at None = wrong_domain is.Unknown at
thing_domain at (Some (constant boolean x)) = wrong_domain is.Kind at
thing_domain at (Some (type_of k)) = scalar_domain at k
thing_domain at (Some (code_in root code)) = wrong_domain is.Kind at
thing_domain at (Some (variable input k)) = wrong_domain is.Kind at
thing_domain at (Some later) = wrong_domain is.Kind at

-- a domain's name: a bound or index name hides a type
abbrev pub bound_domain : Context → Name → Option Kind → Ranged
bound_domain c n (Some k) = wrong_domain is.Kind n.at
bound_domain c n None = thing_domain n.at (under n.text c.names)

-- how many numbers stand between ends
abbrev pub count_of : Ends → ℕ
count_of e = if int_lt e.hi e.lo then 0 else unsigned_abs (e.hi -ℤ e.lo) + 1

-- what a quantifier wants of its body
abbrev pub wants_body : Quant → Judged → List Fault
wants_body quant.All j = wants_truth j
wants_body quant.Any j = wants_truth j
wants_body quant.Sum j = wants_whole j

-- the kind of a quantifier: a sum has that of its body as often as the domain has numbers
abbrev pub quantified_kind : Quant → Ends → Kind → Kind
quantified_kind quant.All e k = truth
quantified_kind quant.Any e k = truth
quantified_kind quant.Sum e k = whole (multiple (count_of e) (ends_of k))

-- a quantifier: its domain, then its body
abbrev pub quantified_at : Context → ℕ → Quant → List ℕ → Ranged → In Judged → Judged
quantified_at c at q name d body =
    let j = body (inside_bind name d.kind c) in
    let k = quantified_kind q (ends_of d.kind) j.kind in
    given_whole at (d.faults ++ (j.faults ++ (wants_body q j ++ (no_constant c at ++ wide_at (ends_of k) at)))) k []

-- ---- `pre`

-- a memory without a first value
abbrev pub pre_alone : Context → ℕ → Judged → Judged
pre_alone c at j = given_whole at (j.faults ++ (wants_scalar j ++ (no_constant c at ++ fault_if true is.FirstMissing at))) j.kind []

-- a memory: two scalars of one kind
abbrev pub pre_with : Context → ℕ → Judged → Judged → Judged
pre_with c at j first =
    let joined = join j.kind first.kind in
    given_whole at (j.faults ++ (first.faults ++ (wants_scalar j ++ (wants_kind_of j first ++ (no_constant c at ++ fault_if joined.wide is.Wide at))))) joined.kind []

-- with a first value or without
abbrev pub pre_at : Context → ℕ → Judged → Option (In Judged) → Judged
pre_at c at j None = pre_alone c at j
pre_at c at j (Some first) = pre_with c at j (first c)

-- ---- expressions

-- a domain
abbrev pub domain_judged : Domain-F (In Ranged) (ℕ → In Judged) Reached (In Judged × In Judged) (In Judged) Linked → In Ranged
domain_judged (Domain-F.Bounds a b) c = bounds_of (a (for_constant c)) (b (for_constant c))
domain_judged Domain-F.Bool c = record { faults = []; kind = truth }
domain_judged (Domain-F.Named n) c = bound_domain c n (under n.text c.bound)

-- a step of a path
abbrev pub reach_judged : Reach-F (In Ranged) (ℕ → In Judged) Reached (In Judged × In Judged) (In Judged) Linked → Reached
reach_judged (Reach-F.At e) = by_index e
reach_judged (Reach-F.Field n) = by_name n.text n.at

-- the branches of an `if` in one place
abbrev pub all_in : {A B : Type 0} → Context → List (In A × In B) → List (A × B)
all_in c = map (λ b. (b.0 c, b.1 c))

-- a form at a place
abbrev pub form_judged : Form-F (In Ranged) (ℕ → In Judged) Reached (In Judged × In Judged) (In Judged) Linked → ℕ → In Judged
form_judged (Form-F.Number n) at c = given_whole at (wide_at (record { lo = n; hi = n }) at) (whole (record { lo = n; hi = n })) (of_number n)
form_judged (Form-F.Truth x) at c = given_whole at [] truth (of_truth x)
form_judged (Form-F.Path n steps) at c = bound_path c at n.text steps (under n.text c.bound)
form_judged (Form-F.Chain e links) at c = chain_of c at (e c) links
form_judged (Form-F.Compare o a b) at c = given_whole at ((a c).faults ++ ((b c).faults ++ comparison_faults o (a c) (b c))) truth (of_truth (compared o (number (a c).value) (number (b c).value)))
form_judged (Form-F.Minus e) at c = made_of at (e c) negation neg_ℤ
form_judged (Form-F.Not e) at c = given_whole at ((e c).faults ++ wants_truth (e c)) truth (of_truth (not (is_true (e c).value)))
form_judged (Form-F.Choice branches e) at c = choice_of at (all_in c branches) (e c)
form_judged (Form-F.Group es) at c = group_at c at (map (λ e. e c) es)
form_judged (Form-F.Quant q n d e) at c = quantified_at c at q n.text (d c) e
form_judged (Form-F.Pre e first) at c = pre_at c at (e c) first
form_judged (Form-F.Least es) at c = made_of_all at (map (λ e. e c) es) smaller (least (map (λ e. (e c).value) es))
form_judged (Form-F.Greatest es) at c = made_of_all at (map (λ e. e c) es) greater (greatest (map (λ e. (e c).value) es))
form_judged (Form-F.Size e) at c = made_of at (e c) absolute (λ x. pos (unsigned_abs x))
form_judged Form-F.Starting at c = given_whole at (no_constant c at) truth []
form_judged (Form-F.Within e i) at c = given_whole at ((e c).faults ++ (wants_whole (e c) ++ no_constant c at)) truth []

-- what the static rules say of an expression where it stands
unfoldable pub judged : Expr → In Judged
judged =
    fold-Expr (In Ranged) (ℕ → In Judged) Reached (In Judged × In Judged) (In Judged) Linked
    domain_judged form_judged reach_judged
    (λ b. (b.when, b.gives)) (λ e. e.form e.at) (λ link. record { op = link.op; at = link.at; with = link.with })

-- what they say of a domain
unfoldable pub domain_said : Domain → In Ranged
domain_said =
    fold-Domain (In Ranged) (ℕ → In Judged) Reached (In Judged × In Judged) (In Judged) Linked
    domain_judged form_judged reach_judged
    (λ b. (b.when, b.gives)) (λ e. e.form e.at) (λ link. record { op = link.op; at = link.at; with = link.with })
