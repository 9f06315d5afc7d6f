-- A static expression has one value at all instants of all histories.
use Rattle.std.proofs.Common.{◌≡◌, ℕ, ℤ, pos, true, false, ◌&&◌, not, List, [], ◌∷◌, ◌++◌, map, Option, Some, None, refl, sym, ap, ◌∙◌}
use Rattle.std.specs.Prelude.{if◌then◌else◌, neg_ℤ, unsigned_abs}
use Rattle.std.specs.List.{AllByRecursion, flat_map, list_all}
use Rattle.std.specs.Str.{bytes_eq}
use Rattle.hll_tree.specs.declared.tree.Branch.{Branch}
use Rattle.hll_tree.specs.declared.tree.Cmp.{Cmp}
use Rattle.hll_tree.specs.declared.tree.Domain.{Domain}
use Rattle.hll_tree.specs.declared.tree.Expr.{Expr}
use Rattle.hll_tree.specs.declared.tree.Form.{Path, Chain, Compare, Choice, Quant as Quantified}
use Rattle.hll_tree.specs.declared.tree.Link.{Link}
use Rattle.hll_tree.specs.declared.tree.Name.{Name}
use Rattle.hll_tree.specs.declared.tree.Op.{Op}
use Rattle.hll_tree.specs.declared.tree.Quant.{Quant}
use Rattle.hll_tree.specs.declared.tree.Reach.{Reach}
use Rattle.hll_meaning.specs.Kinds.{Value, Step, index, is_in}
use Rattle.hll_meaning.specs.Names.{Thing, constant, type_of, code_in, variable, later, Names, under}
use Rattle.hll_meaning.specs.Values.{Scene, In, of_number, of_truth, number, is_true, chained, compared, chosen, quantified_value, numbers, named_domain, least, greatest, thing_value, bound_value, path_value, worth}
use Rattle.hll_meaning.proofs.Faultless.{both}
use Rattle.hll_meaning.proofs.FormInduction.{HoldsByForm, holds_by_form}
use Rattle.hll_meaning.proofs.Scenes.{by_test, under_here, under_further}
use Rattle.hll_meaning.proofs.WorthForms.{domain_worth, reach_worth, link_worth, worth-number, worth-truth, worth-path, worth-chain, worth-compare, worth-minus, worth-not, worth-choice, worth-group, worth-quantified, worth-least, worth-greatest, worth-size, worth-within, domain_worth-bounds, domain_worth-truths, domain_worth-named, reach_worth-at, reach_worth-field}
use Rattle.dependence.specs.Laws.{AreAlike}
use Rattle.dependence.specs.Mentions.{Mentioning, MentioningStep, MentioningDomain, with_bound, name_static, mentioning}
use Rattle.dependence.proofs.MentionForms.{domain_said, reach_said, branch_said, link_said, said-path, said-chain, said-compare, said-minus, said-not, said-choice, said-group, said-quantified, said-pre_alone, said-pre_with, said-least, said-greatest, said-size, said-starting, said-within, said-bounds, said-at}

-- ---- scenes that differ in numbers of bound names alone

-- the same names, one after the other
abbrev pub AreNamedAlike : List (List ℕ × ℤ) → List (List ℕ × ℤ) → Type 0
AreNamedAlike [] [] = Unit {0}
AreNamedAlike [] (y ∷ ys) = ⊥
AreNamedAlike (x ∷ xs) [] = ⊥
AreNamedAlike (x ∷ xs) (y ∷ ys) = (x.0 ≡ y.0) × AreNamedAlike xs ys

pub named_itself : (xs : List (List ℕ × ℤ)) → AreNamedAlike xs xs
named_itself [] = tt
named_itself (x ∷ xs) = (refl, named_itself xs)

-- a scene in which what is static is asked, and two that are alike, with the names of that one
pub record AreLike (asked s other : Scene) : Type 0 where
  pub names : asked.names ≡ s.names
  pub named : AreNamedAlike asked.bound s.bound
  pub alike : AreAlike s other

-- what is bound in one is bound in the other
static_named : (n : List ℕ) (t : Option Thing) (xs ys : List (List ℕ × ℤ)) → AreNamedAlike xs ys → name_static (under n xs) t ≡ true → name_static (under n ys) t ≡ true
static_named n t [] [] same h = h
static_named n t [] (y ∷ ys) same h = absurd same
static_named n t (x ∷ xs) [] same h = absurd same
static_named n t ((own, x) ∷ xs) ((other, y) ∷ ys) same h =
    by_test (bytes_eq own n)
    (λ here. ap (λ (o : Option ℤ). name_static o t) (under_here n other y ys (ap (λ (w : List ℕ). bytes_eq w n) (sym same.0) ∙ here)))
    (λ further. ap (λ (o : Option ℤ). name_static o t) (under_further n other y ys (ap (λ (w : List ℕ). bytes_eq w n) (sym same.0) ∙ further))
    ∙ static_named n t xs ys same.1 (sym (ap (λ (o : Option ℤ). name_static o t) (under_further n own x xs further)) ∙ h))

inside : (asked s other : Scene) (n : List ℕ) (x : ℤ) → AreLike asked s other → AreLike (with_bound n (pos 0) asked) (with_bound n x s) (with_bound n x other)
inside asked s other n x h = record {
  names = h.names;
  named = (refl, h.named);
  alike = record { names = h.alike.names; bound = ap (λ bs. (n, x) ∷ bs) h.alike.bound };
}

-- ---- what is static

abbrev IsConstant : Expr → Type 0
IsConstant e = (asked s other : Scene) → AreLike asked s other → (mentioning e).static asked ≡ true → worth e s ≡ worth e other

abbrev IsConstantDomain : Domain → Type 0
IsConstantDomain d = (asked s other : Scene) → AreLike asked s other → (domain_said d).static asked ≡ true → domain_worth d s ≡ domain_worth d other

abbrev IsConstantReach : Reach → Type 0
IsConstantReach r = (asked s other : Scene) → AreLike asked s other → (reach_said r).static asked ≡ true → reach_worth r s ≡ reach_worth r other

-- what is said of a form tells whether it is static
told : (e : Expr) (m : Mentioning) (s : Scene) → mentioning e ≡ m → (mentioning e).static s ≡ true → m.static s ≡ true
told e m s is h = sym (ap (λ (x : Mentioning). x.static s) is) ∙ h

-- ---- lists of parts

module _ (asked s other : Scene) (like : AreLike asked s other) where
  values : (es : List Expr) → AllByRecursion IsConstant es → list_all (λ (m : Mentioning). m.static asked) (map mentioning es) ≡ true → map (λ (e : In Value). e s) (map worth es) ≡ map (λ (e : In Value). e other) (map worth es)
  values [] all h = refl
  values (e ∷ es) all h =
      let p = both ((mentioning e).static asked) _ h in
      let here = all.0 asked s other like p.0 in
      let there = values es all.1 p.1 in
      λ i. here i ∷ there i

  joined : (es : List Expr) → AllByRecursion IsConstant es → list_all (λ (m : Mentioning). m.static asked) (map mentioning es) ≡ true → flat_map (λ (e : In Value). e s) (map worth es) ≡ flat_map (λ (e : In Value). e other) (map worth es)
  joined [] all h = refl
  joined (e ∷ es) all h =
      let p = both ((mentioning e).static asked) _ h in
      let here = all.0 asked s other like p.0 in
      let there = joined es all.1 p.1 in
      λ i. here i ++ there i

  steps : (rs : List Reach) → AllByRecursion IsConstantReach rs → list_all (λ (m : MentioningStep). m.static asked) (map reach_said rs) ≡ true → map (λ (r : In Step). r s) (map reach_worth rs) ≡ map (λ (r : In Step). r other) (map reach_worth rs)
  steps [] all h = refl
  steps (r ∷ rs) all h =
      let p = both ((reach_said r).static asked) _ h in
      let here = all.0 asked s other like p.0 in
      let there = steps rs all.1 p.1 in
      λ i. here i ∷ there i

  links : (ls : List Link) → AllByRecursion (λ l. IsConstant l.with) ls → list_all (λ link. link.with.static asked) (map link_said ls) ≡ true →
      map {B = Op × Value} (λ (link : Op × In Value). (link.0, link.1 s)) (map link_worth ls) ≡ map {B = Op × Value} (λ (link : Op × In Value). (link.0, link.1 other)) (map link_worth ls)
  links [] all h = refl
  links (l ∷ ls) all h =
      let p = both ((mentioning l.with).static asked) _ h in
      let here = all.0 asked s other like p.0 in
      let there = links ls all.1 p.1 in
      λ i. (l.op, here i) ∷ there i

  branches : (bs : List Branch) (otherwise : Expr) → AllByRecursion (λ b. IsConstant b.when × IsConstant b.gives) bs → list_all (λ (b : Mentioning × Mentioning). b.0.static asked && b.1.static asked) (map branch_said bs) ≡ true →
      worth otherwise s ≡ worth otherwise other → chosen (map (λ b. (worth b.when, worth b.gives)) bs) (worth otherwise) s ≡ chosen (map (λ b. (worth b.when, worth b.gives)) bs) (worth otherwise) other
  branches [] otherwise all h last = last
  branches (b ∷ bs) otherwise all h last =
      let p = both ((mentioning b.when).static asked && (mentioning b.gives).static asked) _ h in
      let q = both ((mentioning b.when).static asked) _ p.0 in
      let test = all.0.0 asked s other like q.0 in
      let here = all.0.1 asked s other like q.1 in
      let there = branches bs otherwise all.1 p.1 last in
      λ i. if is_true (test i) then here i else there i

  thing : (n : List ℕ) (ss : List Step) (o : Option ℤ) (t : Option Thing) → name_static o t ≡ true → bound_value o (thing_value n ss s t) ≡ bound_value o (thing_value n ss other t)
  thing n ss (Some x) t h = refl
  thing n ss None None h = absurd (cc h)
  thing n ss None (Some (constant b x)) h = refl
  thing n ss None (Some (type_of k)) h = absurd (cc h)
  thing n ss None (Some (code_in root c)) h = refl
  thing n ss None (Some (variable input k)) h = absurd (cc h)
  thing n ss None (Some later) h = absurd (cc h)

  -- a path whose name is static
  named : (n : List ℕ) (ss ts : List Step) → ss ≡ ts → name_static (under n asked.bound) (under n asked.names) ≡ true → path_value n ss s ≡ path_value n ts other
  named n ss ts same h =
      let shown : name_static (under n s.bound) (under n s.names) ≡ true = static_named n (under n s.names) asked.bound s.bound like.named (sym (ap (λ (ns : Names). name_static (under n asked.bound) (under n ns)) like.names) ∙ h) in
      let here = thing n ss (under n s.bound) (under n s.names) shown in
      let ns = like.alike.names in
      let bs = like.alike.bound in
      here ∙ (λ i. bound_value (under n (bs i)) (thing_value n (same i) other (under n (ns i))))

-- ---- form by form

static_path : (e : Expr) (n : Name) (rs : List Reach) → e.form ≡ Path n rs → AllByRecursion IsConstantReach rs → IsConstant e
static_path e n rs is all asked s other like h =
    let p = both (name_static (under n.text asked.bound) (under n.text asked.names)) _ (told e _ asked (said-path e n rs is) h) in
    worth-path e n rs is s ∙ named asked s other like n.text _ _ (steps asked s other like rs all p.1) p.0 ∙ sym (worth-path e n rs is other)

static_chain : (e first : Expr) (ls : List Link) → e.form ≡ Chain first ls → IsConstant first → AllByRecursion (λ l. IsConstant l.with) ls → IsConstant e
static_chain e first ls is one all asked s other like h =
    let p = both ((mentioning first).static asked) _ (told e _ asked (said-chain e first ls is) h) in
    let a = one asked s other like p.0 in
    let b = links asked s other like ls all p.1 in
    worth-chain e first ls is s ∙ (λ i. chained (a i) (b i)) ∙ sym (worth-chain e first ls is other)

static_compare : (e : Expr) (o : Cmp) (a b : Expr) → e.form ≡ Compare o a b → IsConstant a → IsConstant b → IsConstant e
static_compare e o a b is left right asked s other like h =
    let p = both ((mentioning a).static asked) _ (told e _ asked (said-compare e o a b is) h) in
    let x = left asked s other like p.0 in
    let y = right asked s other like p.1 in
    worth-compare e o a b is s ∙ (λ i. of_truth (compared o (number (x i)) (number (y i)))) ∙ sym (worth-compare e o a b is other)

static_choice : (e : Expr) (bs : List Branch) (otherwise : Expr) → e.form ≡ Choice bs otherwise → AllByRecursion (λ b. IsConstant b.when × IsConstant b.gives) bs → IsConstant otherwise → IsConstant e
static_choice e bs otherwise is all last asked s other like h =
    let p = both (list_all (λ (b : Mentioning × Mentioning). b.0.static asked && b.1.static asked) (map branch_said bs)) _ (told e _ asked (said-choice e bs otherwise is) h) in
    worth-choice e bs otherwise is s ∙ branches asked s other like bs otherwise all p.0 (last asked s other like p.1) ∙ sym (worth-choice e bs otherwise is other)

-- the same for each number of a bound name
over_numbers : (asked s other : Scene) → AreLike asked s other → (n : List ℕ) (body : Expr) → IsConstant body → (mentioning body).static (with_bound n (pos 0) asked) ≡ true → (xs : List ℤ) →
    map (λ x. worth body (with_bound n x s)) xs ≡ map (λ x. worth body (with_bound n x other)) xs
over_numbers asked s other like n body h static [] = refl
over_numbers asked s other like n body h static (x ∷ xs) =
    let here = h (with_bound n (pos 0) asked) (with_bound n x s) (with_bound n x other) (inside asked s other n x like) static in
    let there = over_numbers asked s other like n body h static xs in
    λ i. here i ∷ there i

static_quantified : (e : Expr) (q : Quant) (n : Name) (d : Domain) (body : Expr) → e.form ≡ Quantified q n d body → IsConstantDomain d → IsConstant body → IsConstant e
static_quantified e q n d body is domain inner asked s other like h =
    let p = both ((domain_said d).static asked) _ (told e _ asked (said-quantified e q n d body is) h) in
    let range = domain asked s other like p.0 in
    worth-quantified e q n d body is s
    ∙ ap (quantified_value q) (over_numbers asked s other like n.text body inner p.1 (numbers (domain_worth d s)))
    ∙ (λ i. quantified_value q (map (λ x. worth body (with_bound n.text x other)) (numbers (range i))))
    ∙ sym (worth-quantified e q n d body is other)

one_by_one : HoldsByForm IsConstant IsConstantDomain IsConstantReach
one_by_one = record {
  number = λ e n is asked s other like h. worth-number e n is s ∙ sym (worth-number e n is other);
  truth = λ e b is asked s other like h. worth-truth e b is s ∙ sym (worth-truth e b is other);
  path = static_path;
  chain = static_chain;
  compare = static_compare;
  minus = λ e inner is one asked s other like h. worth-minus e inner is s ∙ ap (λ (v : Value). of_number (neg_ℤ (number v))) (one asked s other like (told e _ asked (said-minus e inner is) h)) ∙ sym (worth-minus e inner is other);
  negated = λ e inner is one asked s other like h. worth-not e inner is s ∙ ap (λ (v : Value). of_truth (not (is_true v))) (one asked s other like (told e _ asked (said-not e inner is) h)) ∙ sym (worth-not e inner is other);
  choice = static_choice;
  group = λ e es is all asked s other like h. worth-group e es is s ∙ joined asked s other like es all (told e _ asked (said-group e es is) h) ∙ sym (worth-group e es is other);
  quantified = static_quantified;
  pre_alone = λ e body is one asked s other like h. let f : false ≡ true = told e _ asked (said-pre_alone e body is) h in absurd (cc f);
  pre_with = λ e body first is one two asked s other like h. let f : false ≡ true = told e _ asked (said-pre_with e body first is) h in absurd (cc f);
  least = λ e es is all asked s other like h. worth-least e es is s ∙ ap (λ vs. of_number (least vs)) (values asked s other like es all (told e _ asked (said-least e es is) h)) ∙ sym (worth-least e es is other);
  greatest = λ e es is all asked s other like h. worth-greatest e es is s ∙ ap (λ vs. of_number (greatest vs)) (values asked s other like es all (told e _ asked (said-greatest e es is) h)) ∙ sym (worth-greatest e es is other);
  size = λ e inner is one asked s other like h. worth-size e inner is s ∙ ap (λ (v : Value). of_number (pos (unsigned_abs (number v)))) (one asked s other like (told e _ asked (said-size e inner is) h)) ∙ sym (worth-size e inner is other);
  starting = λ e is asked s other like h. let f : false ≡ true = told e _ asked (said-starting e is) h in absurd (cc f);
  within = λ e inner i is one asked s other like h. worth-within e inner i is s ∙ ap (λ (v : Value). of_truth (is_in (record { lo = i.lo; hi = i.hi }) (number v))) (one asked s other like (told e _ asked (said-within e inner i is) h)) ∙ sym (worth-within e inner i is other);
  bounds = λ a b left right asked s other like h.
      let p = both ((mentioning a).static asked) _ (sym (ap (λ (x : MentioningDomain). x.static asked) (said-bounds a b)) ∙ h) in
      let x = left asked s other like p.0 in
      let y = right asked s other like p.1 in
      domain_worth-bounds a b s ∙ (λ i. record { lo = number (x i); hi = number (y i) }) ∙ sym (domain_worth-bounds a b other);
  truths = λ asked s other like h. domain_worth-truths s ∙ sym (domain_worth-truths other);
  named = λ n asked s other like h. domain_worth-named n s ∙ ap (λ (ns : Names). named_domain (under n.text ns)) like.alike.names ∙ sym (domain_worth-named n other);
  index = λ e one asked s other like h. reach_worth-at e s ∙ ap (λ (v : Value). index (number v)) (one asked s other like (sym (ap (λ (x : MentioningStep). x.static asked) (said-at e)) ∙ h)) ∙ sym (reach_worth-at e other);
  field = λ n asked s other like h. reach_worth-field n s ∙ sym (reach_worth-field n other);
}

-- the value of a static expression is the same wherever names stand for the same
pub static_constant : (e : Expr) (s other : Scene) → AreAlike s other → (mentioning e).static s ≡ true → worth e s ≡ worth e other
static_constant e s other alike h = holds_by_form IsConstant IsConstantDomain IsConstantReach one_by_one e s s other (record { names = refl; named = named_itself s.bound; alike = alike }) h
