-- Induction over expressions, form by form.
use Rattle.std.proofs.Common.{◌≡◌, ℕ, ℤ, Bool, Some, None, List, [], ◌∷◌, map, sym, subst}
use Rattle.std.specs.List.{AllByRecursion}
use Rattle.intervals.specs.declared.interval.Interval.{Interval}
use Rattle.hll_tree.specs.declared.tree.Branch.{Branch, roll-Branch}
use Rattle.hll_tree.specs.declared.tree.Cmp.{Cmp}
use Rattle.hll_tree.specs.declared.tree.Domain.{Domain, Domain-F, Bounds, Bool as Truths, Named, roll-Domain}
use Rattle.hll_tree.specs.declared.tree.Domain.TheVariants.{rolls-Bounds, rolls-Bool, rolls-Named}
use Rattle.hll_tree.specs.declared.tree.Domain.TheFolds.{map-Domain, map-Form, map-Reach}
use Rattle.hll_tree.specs.declared.tree.Expr.{Expr, roll-Expr, ind-Expr}
use Rattle.hll_tree.specs.declared.tree.Form.{Form, Form-F, Number, Truth, Path, Chain, Compare, Minus, Not, Choice, Group, Quant as Quantified, Pre, Least, Greatest, Size, Starting, Within, roll-Form}
use Rattle.hll_tree.specs.declared.tree.Form.TheVariants.{rolls-Number, rolls-Truth, rolls-Path, rolls-Chain, rolls-Compare, rolls-Minus, rolls-Not, rolls-Choice, rolls-Group, rolls-Quant, rolls-Pre, rolls-Least, rolls-Greatest, rolls-Size, rolls-Within, rolls-Starting}
use Rattle.hll_tree.specs.declared.tree.Link.{Link, roll-Link}
use Rattle.hll_tree.specs.declared.tree.Name.{Name}
use Rattle.hll_tree.specs.declared.tree.Quant.{Quant}
use Rattle.hll_tree.specs.declared.tree.Reach.{Reach, Reach-F, At, Field, roll-Reach}
use Rattle.hll_tree.specs.declared.tree.Reach.TheVariants.{rolls-At, rolls-Field}

-- a fact of each form, given what is known of its parts: of expressions, domains and steps of paths
pub record HoldsByForm (P : Expr → Type 0) (Q : Domain → Type 0) (R : Reach → Type 0) : Type 0 where
  pub number : (e : Expr) (n : ℤ) → e.form ≡ Number n → P e
  pub truth : (e : Expr) (b : Bool) → e.form ≡ Truth b → P e
  pub path : (e : Expr) (n : Name) (rs : List Reach) → e.form ≡ Path n rs → AllByRecursion R rs → P e
  pub chain : (e first : Expr) (ls : List Link) → e.form ≡ Chain first ls → P first → AllByRecursion (λ l. P l.with) ls → P e
  pub compare : (e : Expr) (o : Cmp) (a b : Expr) → e.form ≡ Compare o a b → P a → P b → P e
  pub minus : (e inner : Expr) → e.form ≡ Minus inner → P inner → P e
  pub negated : (e inner : Expr) → e.form ≡ Not inner → P inner → P e
  pub choice : (e : Expr) (bs : List Branch) (otherwise : Expr) → e.form ≡ Choice bs otherwise → AllByRecursion (λ b. P b.when × P b.gives) bs → P otherwise → P e
  pub group : (e : Expr) (es : List Expr) → e.form ≡ Group es → AllByRecursion P es → P e
  pub quantified : (e : Expr) (q : Quant) (n : Name) (d : Domain) (body : Expr) → e.form ≡ Quantified q n d body → Q d → P body → P e
  pub pre_alone : (e body : Expr) → e.form ≡ Pre body None → P body → P e
  pub pre_with : (e body first : Expr) → e.form ≡ Pre body (Some first) → P body → P first → P e
  pub least : (e : Expr) (es : List Expr) → e.form ≡ Least es → AllByRecursion P es → P e
  pub greatest : (e : Expr) (es : List Expr) → e.form ≡ Greatest es → AllByRecursion P es → P e
  pub size : (e inner : Expr) → e.form ≡ Size inner → P inner → P e
  pub starting : (e : Expr) → e.form ≡ Starting → P e
  pub within : (e inner : Expr) (i : Interval) → e.form ≡ Within inner i → P inner → P e
  pub bounds : (a b : Expr) → P a → P b → Q (Bounds a b)
  pub truths : Q Truths
  pub named : (n : Name) → Q (Named n)
  pub index : (e : Expr) → P e → R (At e)
  pub field : (n : Name) → R (Field n)

-- what holds of items holds of what they are about
pub each_has : {X : Type 0} (P : X → Type 0) (ys : List ((x : X) × P x)) → AllByRecursion P (map (λ y. y.0) ys)
each_has P [] = tt
each_has P (y ∷ ys) = (y.1, each_has P ys)

-- an expression of a form at a place
abbrev pub made : Form-F Domain Form Reach Branch Expr Link → ℕ → Expr
made f at = roll-Expr (record { at = at; form = roll-Form f })

module _ (P : Expr → Type 0) (Q : Domain → Type 0) (R : Reach → Type 0) (h : HoldsByForm P Q R) where
  -- a condition, and what it chooses
  abbrev OfBranch : Branch → Type 0
  OfBranch b = P b.when × P b.gives

  -- parts with what is known of them
  abbrev D : Type 0
  D = (d : Domain) × Q d

  abbrev F : Type 0
  F = (f : Form) × ((at : ℕ) → P (roll-Expr (record { at = at; form = f })))

  abbrev S : Type 0
  S = (r : Reach) × R r

  abbrev B : Type 0
  B = (b : Branch) × OfBranch b

  abbrev E : Type 0
  E = (e : Expr) × P e

  abbrev L : Type 0
  L = (l : Link) × P l.with

  abbrev forms : Form-F D F S B E L → Form-F Domain Form Reach Branch Expr Link
  forms = map-Form D F S B E L Domain Form Reach Branch Expr Link (λ z. z.0) (λ z. z.0) (λ z. z.0) (λ z. z.0) (λ z. z.0) (λ z. z.0)

  form_step : (y : Form-F D F S B E L) (at : ℕ) → P (made (forms y) at)
  form_step (Form-F.Number n) at = h.number (made (Form-F.Number n) at) n (rolls-Number n)
  form_step (Form-F.Truth b) at = h.truth (made (Form-F.Truth b) at) b (rolls-Truth b)
  form_step (Form-F.Path n rs) at = h.path (made (forms (Form-F.Path n rs)) at) n (map (λ z. z.0) rs) (rolls-Path n (map (λ z. z.0) rs)) (each_has R rs)
  form_step (Form-F.Chain first ls) at = h.chain (made (forms (Form-F.Chain first ls)) at) first.0 (map (λ z. z.0) ls) (rolls-Chain first.0 (map (λ z. z.0) ls)) first.1 (each_has (λ l. P l.with) ls)
  form_step (Form-F.Compare o a b) at = h.compare (made (forms (Form-F.Compare o a b)) at) o a.0 b.0 (rolls-Compare o a.0 b.0) a.1 b.1
  form_step (Form-F.Minus x) at = h.minus (made (forms (Form-F.Minus x)) at) x.0 (rolls-Minus x.0) x.1
  form_step (Form-F.Not x) at = h.negated (made (forms (Form-F.Not x)) at) x.0 (rolls-Not x.0) x.1
  form_step (Form-F.Choice bs x) at = h.choice (made (forms (Form-F.Choice bs x)) at) (map (λ z. z.0) bs) x.0 (rolls-Choice (map (λ z. z.0) bs) x.0) (each_has OfBranch bs) x.1
  form_step (Form-F.Group xs) at = h.group (made (forms (Form-F.Group xs)) at) (map (λ z. z.0) xs) (rolls-Group (map (λ z. z.0) xs)) (each_has P xs)
  form_step (Form-F.Quant q n d x) at = h.quantified (made (forms (Form-F.Quant q n d x)) at) q n d.0 x.0 (rolls-Quant q n d.0 x.0) d.1 x.1
  form_step (Form-F.Pre x None) at = h.pre_alone (made (forms (Form-F.Pre x None)) at) x.0 (rolls-Pre x.0 None) x.1
  form_step (Form-F.Pre x (Some first)) at = h.pre_with (made (forms (Form-F.Pre x (Some first))) at) x.0 first.0 (rolls-Pre x.0 (Some first.0)) x.1 first.1
  form_step (Form-F.Least xs) at = h.least (made (forms (Form-F.Least xs)) at) (map (λ z. z.0) xs) (rolls-Least (map (λ z. z.0) xs)) (each_has P xs)
  form_step (Form-F.Greatest xs) at = h.greatest (made (forms (Form-F.Greatest xs)) at) (map (λ z. z.0) xs) (rolls-Greatest (map (λ z. z.0) xs)) (each_has P xs)
  form_step (Form-F.Size x) at = h.size (made (forms (Form-F.Size x)) at) x.0 (rolls-Size x.0) x.1
  form_step Form-F.Starting at = h.starting (made Form-F.Starting at) rolls-Starting
  form_step (Form-F.Within x i) at = h.within (made (forms (Form-F.Within x i)) at) x.0 i (rolls-Within x.0 i) x.1

  reach_step : (y : Reach-F D F S B E L) → R (roll-Reach (map-Reach D F S B E L Domain Form Reach Branch Expr Link (λ z. z.0) (λ z. z.0) (λ z. z.0) (λ z. z.0) (λ z. z.0) (λ z. z.0) y))
  reach_step (Reach-F.At e) = subst R (sym (rolls-At e.0)) (h.index e.0 e.1)
  reach_step (Reach-F.Field n) = subst R (sym (rolls-Field n)) (h.field n)

  domain_step : (y : Domain-F D F S B E L) → Q (roll-Domain (map-Domain D F S B E L Domain Form Reach Branch Expr Link (λ z. z.0) (λ z. z.0) (λ z. z.0) (λ z. z.0) (λ z. z.0) (λ z. z.0) y))
  domain_step (Domain-F.Bounds a b) = subst Q (sym (rolls-Bounds a.0 b.0)) (h.bounds a.0 b.0 a.1 b.1)
  domain_step Domain-F.Bool = subst Q (sym rolls-Bool) h.truths
  domain_step (Domain-F.Named n) = subst Q (sym (rolls-Named n)) (h.named n)

  -- the fact holds of every expression
  pub holds_by_form : (e : Expr) → P e
  holds_by_form = ind-Expr Q (λ f. (at : ℕ) → P (roll-Expr (record { at = at; form = f }))) R OfBranch P (λ l. P l.with)
      (λ x y is. subst (λ z. Q (roll-Domain z)) is (domain_step y))
      (λ x y is. subst (λ z. (at : ℕ) → P (roll-Expr (record { at = at; form = roll-Form z }))) is (form_step y))
      (λ x y is. subst (λ z. R (roll-Reach z)) is (reach_step y))
      (λ x y is. subst (λ z. OfBranch (roll-Branch z)) is (y.when.1, y.gives.1))
      (λ x y is. subst (λ z. P (roll-Expr z)) is (y.form.1 y.at))
      (λ x y is. subst (λ (z : _). P (roll-Link z).with) is y.with.1)
