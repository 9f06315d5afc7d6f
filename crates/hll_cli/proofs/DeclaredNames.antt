-- In a built text without static faults the obligations use no names but those of the inputs.
use Rattle.std.proofs.Common.{arith, ◌≡◌, ℕ, suc, Bool, true, Option, Some, None, List, [], ◌∷◌, map, fold, Contains, refl, sym, subst, ◌∙◌}
use Rattle.std.specs.List.{AllByRecursion, flat_map, list_all}
use Rattle.std.specs.Str.{bytes_eq}
use Rattle.std.proofs.lemmas.Bool.{false≢true}
use Rattle.std.proofs.lemmas.Slice.Eq.{bytes_eq-Decides}
use Rattle.hll_tree.specs.declared.tree.Branch.{Branch}
use Rattle.hll_tree.specs.declared.tree.Domain.{Domain}
use Rattle.hll_tree.specs.declared.tree.Domain.TheFolds.{map-Form}
use Rattle.hll_tree.specs.declared.tree.Expr.{Expr, roll-Expr, ind-Expr}
use Rattle.hll_tree.specs.declared.tree.Form.{Form, Form-F, Truth, Path, Chain, Not, roll-Form}
use Rattle.hll_tree.specs.declared.tree.Form.TheVariants.{rolls-Number, rolls-Truth, rolls-Path, rolls-Chain, rolls-Compare, rolls-Minus, rolls-Not, rolls-Choice, rolls-Group, rolls-Quant, rolls-Pre, rolls-Least, rolls-Greatest, rolls-Size, rolls-Within, rolls-Starting}
use Rattle.hll_tree.specs.declared.tree.HllModel.{HllModel}
use Rattle.hll_tree.specs.declared.tree.Link.{Link, roll-Link}
use Rattle.hll_tree.specs.declared.tree.Name.{Name}
use Rattle.hll_tree.specs.declared.tree.Reach.{Reach}
use Rattle.hll_meaning.specs.Kinds.{truth}
use Rattle.hll_meaning.specs.Names.{Thing, variable, Names, under}
use Rattle.hll_meaning.specs.Runs.{obligations}
use Rattle.hll_meaning.specs.Judging.{Context, Judged, one_link, thing_path, judged}
use Rattle.hll_meaning.specs.StaticRules.{asking, Well}
use Rattle.hll_meaning.specs.WellTexts.{IsTruth}
use Rattle.hll_meaning.proofs.Constants.{made, each_has}
use Rattle.hll_meaning.proofs.Faultless.{first_empty}
use Rattle.hll_meaning.proofs.JudgedForms.{link_said, judged-path, judged-chain, judged-not}
use Rattle.hll_meaning.proofs.Lies.{link_parts, front_faultless}
use Rattle.hll_meaning.proofs.Scenes.{by_test, under_further}
use Rattle.hll_meaning.proofs.WellTexts.{demands_truths}
use Rattle.hll_cli.specs.Accepted.{is_boolean_link, is_built}
use Rattle.hll_cli.specs.BooleanTexts.{input_names, is_boolean_op, is_boolean, names_in, UsesOnly}
use Rattle.hll_cli.proofs.Booleans.{boolean_reaching, boolean_not, boolean_chain, not_number, not_compare, not_minus, not_choice, not_group, not_quant, not_pre, not_least, not_greatest, not_size, not_starting, not_within}
use Rattle.hll_cli.proofs.BuiltTexts.{and_both, as_input, names_are, built_boolean}
use Rattle.hll_cli.proofs.Columns.{all_append, truth_uses, path_uses, not_uses}
use Rattle.hll_cli.proofs.RowValues.{names_in-chain}

-- expressions stand under the names of these inputs
abbrev over : List (List ℕ) → Context
over ns = asking (map as_input ns) []

-- a Boolean expression without faults over some inputs uses no other names
abbrev IsDeclared : Expr → Type 0
IsDeclared e = (ns : List (List ℕ)) → is_boolean e ≡ true → (judged e (over ns)).faults ≡ [] → UsesOnly ns e

-- ---- names

Contains-later : (n : List ℕ) (ns : List (List ℕ)) (sought : List ℕ) → Contains ns sought → Contains (n ∷ ns) sought
Contains-later n ns sought there = (suc there.0, omega (arith, there.1), there.2)

-- what stands under a name among the inputs is one of them
is_input : (ns : List (List ℕ)) (sought : List ℕ) (t : Thing) → under sought (map as_input ns) ≡ Some t → Contains ns sought
is_input [] sought t is = absurd (cc is)
is_input (n ∷ ns) sought t is =
    by_test (bytes_eq n sought)
    (λ same. (0, omega arith, (bytes_eq-Decides n sought).0 same))
    (λ other. Contains-later n ns sought (is_input ns sought t (sym (under_further sought n (variable true truth) (map as_input ns) other) ∙ is)))

-- so is a name without faults
found : (ns : List (List ℕ)) (at : ℕ) (sought : List ℕ) (o : Option Thing) → under sought (map as_input ns) ≡ o → (thing_path (over ns) at [] o).faults ≡ [] → Contains ns sought
found ns at sought None is none = absurd (cc none)
found ns at sought (Some t) is none = is_input ns sought t is

-- ---- forms

-- the faults, by what is said of the form
by_form : (j k : Judged) → j ≡ k → j.faults ≡ [] → k.faults ≡ []
by_form j k is none = subst (λ (i : Judged). i.faults ≡ []) is none

-- what isn't Boolean
never : (e : Expr) → (is_boolean e ≡ true → ⊥) → IsDeclared e
never e other ns boolean none = absurd (other boolean)

declared_truth : (e : Expr) (b : Bool) → e.form ≡ Truth b → IsDeclared e
declared_truth e b is ns boolean none = truth_uses ns e b is

declared_path : (e : Expr) (n : Name) (rs : List Reach) → e.form ≡ Path n rs → IsDeclared e
declared_path e n [] is ns boolean none =
    path_uses ns e n [] is (found ns e.at n.text (under n.text (map as_input ns)) refl (by_form _ _ (judged-path e n [] is (over ns)) none))
declared_path e n (r ∷ rs) is ns boolean none = absurd (false≢true (sym (boolean_reaching e n r rs is) ∙ boolean))

declared_not : (e inner : Expr) → e.form ≡ Not inner → IsDeclared inner → IsDeclared e
declared_not e inner is declared ns boolean none =
    not_uses ns e inner is
    (declared ns (sym (boolean_not e inner is) ∙ boolean) (first_empty (judged inner (over ns)).faults _ (by_form _ _ (judged-not e inner is (over ns)) none)))

declared_links : (ns : List (List ℕ)) (ls : List Link) (j : Judged) → AllByRecursion (λ l. IsDeclared l.with) ls → list_all is_boolean_link ls ≡ true →
    (fold (one_link (over ns)) j (map link_said ls)).faults ≡ [] → AllByRecursion (Contains ns) (flat_map (λ l. names_in l.with) ls)
declared_links ns [] j all boolean none = tt
declared_links ns (l ∷ ls) j all boolean none =
    let next = one_link (over ns) j (link_said l) in
    let both = and_both (is_boolean_link l) (list_all is_boolean_link ls) boolean in
    let here = and_both (is_boolean_op l.op) (is_boolean l.with) both.0 in
    let parts = link_parts (over ns) j (link_said l) (front_faultless (over ns) (map link_said ls) next none) in
    all_append (Contains ns) (names_in l.with) (flat_map (λ l. names_in l.with) ls) (all.0 ns here.1 parts.1) (declared_links ns ls next all.1 both.1 none)

declared_chain : (e first : Expr) (ls : List Link) → e.form ≡ Chain first ls → IsDeclared first → AllByRecursion (λ l. IsDeclared l.with) ls → IsDeclared e
declared_chain e first ls is declared all ns boolean none =
    let both = and_both (is_boolean first) (list_all is_boolean_link ls) (sym (boolean_chain e first ls is) ∙ boolean) in
    let whole : (fold (one_link (over ns)) (judged first (over ns)) (map link_said ls)).faults ≡ [] = by_form _ _ (judged-chain e first ls is (over ns)) none in
    rw (names_in-chain e first ls is)
    (all_append (Contains ns) (names_in first) (flat_map (λ l. names_in l.with) ls)
    (declared ns both.0 (front_faultless (over ns) (map link_said ls) (judged first (over ns)) whole))
    (declared_links ns ls (judged first (over ns)) all both.1 whole))

-- ---- any depth

abbrev D : Type 0
D = (d : Domain) × Unit {0}

abbrev F : Type 0
F = (f : Form) × ((at : ℕ) → IsDeclared (roll-Expr (record { at = at; form = f })))

abbrev R : Type 0
R = (r : Reach) × Unit {0}

abbrev B : Type 0
B = (b : Branch) × Unit {0}

abbrev E : Type 0
E = (e : Expr) × IsDeclared e

abbrev L : Type 0
L = (l : Link) × IsDeclared l.with

abbrev forms : Form-F D F R B E L → Form-F Domain Form Reach Branch Expr Link
forms = map-Form D F R B E L Domain Form Reach Branch Expr Link (λ z. z.0) (λ z. z.0) (λ z. z.0) (λ z. z.0) (λ z. z.0) (λ z. z.0)

-- an expression of this form
abbrev of_form : Form-F D F R B E L → ℕ → Expr
of_form y at = made (forms y) at

form_step : (y : Form-F D F R B E L) (at : ℕ) → IsDeclared (of_form y at)
form_step (Form-F.Number n) at = never _ (not_number (of_form (Form-F.Number n) at) n (rolls-Number n))
form_step (Form-F.Truth b) at = declared_truth (of_form (Form-F.Truth b) at) b (rolls-Truth b)
form_step (Form-F.Path n rs) at = declared_path (of_form (Form-F.Path n rs) at) n (map (λ z. z.0) rs) (rolls-Path n (map (λ z. z.0) rs))
form_step (Form-F.Chain first ls) at =
    declared_chain (of_form (Form-F.Chain first ls) at) first.0 (map (λ z. z.0) ls) (rolls-Chain first.0 (map (λ z. z.0) ls)) first.1 (each_has (λ l. IsDeclared l.with) ls)
form_step (Form-F.Compare o a b) at = never _ (not_compare (of_form (Form-F.Compare o a b) at) o a.0 b.0 (rolls-Compare o a.0 b.0))
form_step (Form-F.Minus x) at = never _ (not_minus (of_form (Form-F.Minus x) at) x.0 (rolls-Minus x.0))
form_step (Form-F.Not x) at = declared_not (of_form (Form-F.Not x) at) x.0 (rolls-Not x.0) x.1
form_step (Form-F.Choice bs x) at = never _ (not_choice (of_form (Form-F.Choice bs x) at) (map (λ z. z.0) bs) x.0 (rolls-Choice (map (λ z. z.0) bs) x.0))
form_step (Form-F.Group xs) at = never _ (not_group (of_form (Form-F.Group xs) at) (map (λ z. z.0) xs) (rolls-Group (map (λ z. z.0) xs)))
form_step (Form-F.Quant q n d x) at = never _ (not_quant (of_form (Form-F.Quant q n d x) at) q n d.0 x.0 (rolls-Quant q n d.0 x.0))
form_step (Form-F.Pre x None) at = never _ (not_pre (of_form (Form-F.Pre x None) at) x.0 None (rolls-Pre x.0 None))
form_step (Form-F.Pre x (Some first)) at = never _ (not_pre (of_form (Form-F.Pre x (Some first)) at) x.0 (Some first.0) (rolls-Pre x.0 (Some first.0)))
form_step (Form-F.Least xs) at = never _ (not_least (of_form (Form-F.Least xs) at) (map (λ z. z.0) xs) (rolls-Least (map (λ z. z.0) xs)))
form_step (Form-F.Greatest xs) at = never _ (not_greatest (of_form (Form-F.Greatest xs) at) (map (λ z. z.0) xs) (rolls-Greatest (map (λ z. z.0) xs)))
form_step (Form-F.Size x) at = never _ (not_size (of_form (Form-F.Size x) at) x.0 (rolls-Size x.0))
form_step Form-F.Starting at = never _ (not_starting (of_form Form-F.Starting at) rolls-Starting)
form_step (Form-F.Within x i) at = never _ (not_within (of_form (Form-F.Within x i) at) x.0 i (rolls-Within x.0 i))

declared : (e : Expr) → IsDeclared e
declared = ind-Expr (λ d. Unit {0}) (λ f. (at : ℕ) → IsDeclared (roll-Expr (record { at = at; form = f }))) (λ r. Unit {0}) (λ b. Unit {0}) IsDeclared (λ l. IsDeclared l.with)
    (λ x y is. tt)
    (λ x y is. subst (λ z. (at : ℕ) → IsDeclared (roll-Expr (record { at = at; form = roll-Form z }))) is (form_step y))
    (λ x y is. tt)
    (λ x y is. tt)
    (λ x y is. subst (λ z. IsDeclared (roll-Expr z)) is (y.form.1 y.at))
    (λ x y is. subst (λ z. IsDeclared (roll-Link z).with) is y.with.1)

-- ---- texts

all_declared : (ns : List (List ℕ)) (es : List Expr) → AllByRecursion (λ e. is_boolean e ≡ true) es → AllByRecursion (IsTruth (map as_input ns)) es → AllByRecursion (UsesOnly ns) es
all_declared ns [] boolean truths = tt
all_declared ns (e ∷ es) boolean truths = (declared e ns boolean.0 truths.0.faultless, all_declared ns es boolean.1 truths.1)

-- the obligations of a built text without static faults use the names of its inputs alone
pub names_declared : (m : HllModel) → is_built m ≡ true → Well m → AllByRecursion (UsesOnly (input_names m)) (obligations m)
names_declared m built well =
    all_declared (input_names m) (obligations m) (built_boolean m built)
    (subst (λ (known : Names). AllByRecursion (IsTruth known) (obligations m)) (names_are m built) (demands_truths m well).1)
