-- What is said of an expression has its worth.
use Rattle.std.proofs.Common.{◌≡◌, ℕ, Some, None, List, [], ◌∷◌, map, refl, sym, ap, subst, ◌∙◌}
use Rattle.intervals.specs.Ends.{Ends}
use Rattle.hll_tree.specs.declared.tree.Branch.{Branch, roll-Branch, fold-Branch, fold-roll-Branch}
use Rattle.hll_tree.specs.declared.tree.Domain.{Domain, Domain-F, roll-Domain, fold-Domain, fold-roll-Domain}
use Rattle.hll_tree.specs.declared.tree.Domain.TheFolds.{map-Domain, map-Form, map-Reach}
use Rattle.hll_tree.specs.declared.tree.Expr.{Expr, roll-Expr, fold-roll-Expr, ind-Expr}
use Rattle.hll_tree.specs.declared.tree.Form.{Form, Form-F, roll-Form, fold-Form, fold-roll-Form}
use Rattle.hll_tree.specs.declared.tree.Link.{Link, roll-Link, fold-Link, fold-roll-Link}
use Rattle.hll_tree.specs.declared.tree.Name.{Name}
use Rattle.hll_tree.specs.declared.tree.Op.{Op}
use Rattle.hll_tree.specs.declared.tree.Reach.{Reach, Reach-F, roll-Reach, fold-Reach, fold-roll-Reach}
use Rattle.hll_meaning.specs.Kinds.{Value, Step}
use Rattle.hll_meaning.specs.Values.{Scene, In, domain_range, form_worth, reach_step, worth}
use Rattle.dependence.specs.Mentions.{Mentioning, MentioningStep, MentioningLink, MentioningDomain, worth_of_parts, domain_mentioning, reach_mentioning, form_mentioning, mentioning}

-- ---- what is said, and worths, of each kind of part

pub domain_said : Domain → MentioningDomain
domain_said = fold-Domain MentioningDomain Mentioning MentioningStep (Mentioning × Mentioning) Mentioning MentioningLink domain_mentioning form_mentioning reach_mentioning (λ b. (b.when, b.gives)) (λ e. e.form) (λ link. record { op = link.op; with = link.with })

pub form_said : Form → Mentioning
form_said = fold-Form MentioningDomain Mentioning MentioningStep (Mentioning × Mentioning) Mentioning MentioningLink domain_mentioning form_mentioning reach_mentioning (λ b. (b.when, b.gives)) (λ e. e.form) (λ link. record { op = link.op; with = link.with })

pub reach_said : Reach → MentioningStep
reach_said = fold-Reach MentioningDomain Mentioning MentioningStep (Mentioning × Mentioning) Mentioning MentioningLink domain_mentioning form_mentioning reach_mentioning (λ b. (b.when, b.gives)) (λ e. e.form) (λ link. record { op = link.op; with = link.with })

pub branch_said : Branch → Mentioning × Mentioning
branch_said = fold-Branch MentioningDomain Mentioning MentioningStep (Mentioning × Mentioning) Mentioning MentioningLink domain_mentioning form_mentioning reach_mentioning (λ b. (b.when, b.gives)) (λ e. e.form) (λ link. record { op = link.op; with = link.with })

pub link_said : Link → MentioningLink
link_said = fold-Link MentioningDomain Mentioning MentioningStep (Mentioning × Mentioning) Mentioning MentioningLink domain_mentioning form_mentioning reach_mentioning (λ b. (b.when, b.gives)) (λ e. e.form) (λ link. record { op = link.op; with = link.with })

pub domain_value : Domain → In Ends
domain_value = fold-Domain (In Ends) (In Value) (In Step) (In Value × In Value) (In Value) (Op × In Value) domain_range form_worth reach_step (λ b. (b.when, b.gives)) (λ e. e.form) (λ link. (link.op, link.with))

pub form_value : Form → In Value
form_value = fold-Form (In Ends) (In Value) (In Step) (In Value × In Value) (In Value) (Op × In Value) domain_range form_worth reach_step (λ b. (b.when, b.gives)) (λ e. e.form) (λ link. (link.op, link.with))

pub reach_value : Reach → In Step
reach_value = fold-Reach (In Ends) (In Value) (In Step) (In Value × In Value) (In Value) (Op × In Value) domain_range form_worth reach_step (λ b. (b.when, b.gives)) (λ e. e.form) (λ link. (link.op, link.with))

pub branch_value : Branch → In Value × In Value
branch_value = fold-Branch (In Ends) (In Value) (In Step) (In Value × In Value) (In Value) (Op × In Value) domain_range form_worth reach_step (λ b. (b.when, b.gives)) (λ e. e.form) (λ link. (link.op, link.with))

pub link_value : Link → Op × In Value
link_value = fold-Link (In Ends) (In Value) (In Step) (In Value × In Value) (In Value) (Op × In Value) domain_range form_worth reach_step (λ b. (b.when, b.gives)) (λ e. e.form) (λ link. (link.op, link.with))

-- a layer of forms or domains with what is said of its parts, and with their worths
abbrev pub Layer : Type 0
Layer = Form-F Domain Form Reach Branch Expr Link

abbrev pub parts_said : Layer → Form-F MentioningDomain Mentioning MentioningStep (Mentioning × Mentioning) Mentioning MentioningLink
parts_said = map-Form Domain Form Reach Branch Expr Link MentioningDomain Mentioning MentioningStep (Mentioning × Mentioning) Mentioning MentioningLink domain_said form_said reach_said branch_said mentioning link_said

abbrev pub part_values : Layer → Form-F (In Ends) (In Value) (In Step) (In Value × In Value) (In Value) (Op × In Value)
part_values = map-Form Domain Form Reach Branch Expr Link (In Ends) (In Value) (In Step) (In Value × In Value) (In Value) (Op × In Value) domain_value form_value reach_value branch_value worth link_value

pub said_form : (y : Layer) → form_said (roll-Form y) ≡ form_mentioning (parts_said y)
unfolding mentioning domain_said form_said reach_said branch_said link_said
said_form y = fold-roll-Form _ _ _ _ _ _ _ _ _ _ _ _ y

pub value_form : (y : Layer) → form_value (roll-Form y) ≡ form_worth (part_values y)
unfolding worth domain_value form_value reach_value branch_value link_value
value_form y = fold-roll-Form _ _ _ _ _ _ _ _ _ _ _ _ y

pub said_bounds : (a b : Expr) → domain_said (roll-Domain (Domain-F.Bounds a b)) ≡ domain_mentioning (Domain-F.Bounds (mentioning a) (mentioning b))
unfolding mentioning domain_said form_said reach_said branch_said link_said
said_bounds a b = fold-roll-Domain _ _ _ _ _ _ _ _ _ _ _ _ (Domain-F.Bounds a b)

pub value_bounds : (a b : Expr) → domain_value (roll-Domain (Domain-F.Bounds a b)) ≡ domain_range (Domain-F.Bounds (worth a) (worth b))
unfolding worth domain_value form_value reach_value branch_value link_value
value_bounds a b = fold-roll-Domain _ _ _ _ _ _ _ _ _ _ _ _ (Domain-F.Bounds a b)

pub said_truths : domain_said (roll-Domain Domain-F.Bool) ≡ domain_mentioning Domain-F.Bool
unfolding domain_said
said_truths = fold-roll-Domain _ _ _ _ _ _ _ _ _ _ _ _ Domain-F.Bool

pub value_truths : domain_value (roll-Domain Domain-F.Bool) ≡ domain_range Domain-F.Bool
unfolding domain_value
value_truths = fold-roll-Domain _ _ _ _ _ _ _ _ _ _ _ _ Domain-F.Bool

pub said_named : (n : Name) → domain_said (roll-Domain (Domain-F.Named n)) ≡ domain_mentioning (Domain-F.Named n)
unfolding domain_said
said_named n = fold-roll-Domain _ _ _ _ _ _ _ _ _ _ _ _ (Domain-F.Named n)

pub value_named : (n : Name) → domain_value (roll-Domain (Domain-F.Named n)) ≡ domain_range (Domain-F.Named n)
unfolding domain_value
value_named n = fold-roll-Domain _ _ _ _ _ _ _ _ _ _ _ _ (Domain-F.Named n)

pub said_at : (e : Expr) → reach_said (roll-Reach (Reach-F.At e)) ≡ reach_mentioning (Reach-F.At (mentioning e))
unfolding mentioning reach_said
said_at e = fold-roll-Reach _ _ _ _ _ _ _ _ _ _ _ _ (Reach-F.At e)

pub value_at : (e : Expr) → reach_value (roll-Reach (Reach-F.At e)) ≡ reach_step (Reach-F.At (worth e))
unfolding worth reach_value
value_at e = fold-roll-Reach _ _ _ _ _ _ _ _ _ _ _ _ (Reach-F.At e)

pub said_field : (n : Name) → reach_said (roll-Reach (Reach-F.Field n)) ≡ reach_mentioning (Reach-F.Field n)
unfolding reach_said
said_field n = fold-roll-Reach _ _ _ _ _ _ _ _ _ _ _ _ (Reach-F.Field n)

pub value_field : (n : Name) → reach_value (roll-Reach (Reach-F.Field n)) ≡ reach_step (Reach-F.Field n)
unfolding reach_value
value_field n = fold-roll-Reach _ _ _ _ _ _ _ _ _ _ _ _ (Reach-F.Field n)

pub said_branch : (when gives : Expr) → branch_said (roll-Branch (record { when = when; gives = gives })) ≡ (mentioning when, mentioning gives)
unfolding mentioning branch_said
said_branch when gives = fold-roll-Branch _ _ _ _ _ _ _ _ _ _ _ _ (record { when = when; gives = gives })

pub value_branch : (when gives : Expr) → branch_value (roll-Branch (record { when = when; gives = gives })) ≡ (worth when, worth gives)
unfolding worth branch_value
value_branch when gives = fold-roll-Branch _ _ _ _ _ _ _ _ _ _ _ _ (record { when = when; gives = gives })

pub said_expr : (at : ℕ) (f : Form) → mentioning (roll-Expr (record { at = at; form = f })) ≡ form_said f
unfolding mentioning form_said
said_expr at f = fold-roll-Expr _ _ _ _ _ _ _ _ _ _ _ _ (record { at = at; form = f })

pub value_expr : (at : ℕ) (f : Form) → worth (roll-Expr (record { at = at; form = f })) ≡ form_value f
unfolding worth form_value
value_expr at f = fold-roll-Expr _ _ _ _ _ _ _ _ _ _ _ _ (record { at = at; form = f })

pub said_link : (o : Op) (at : ℕ) (with : Expr) → link_said (roll-Link (record { op = o; at = at; with = with })) ≡ record { op = o; with = mentioning with }
unfolding mentioning link_said
said_link o at with = fold-roll-Link _ _ _ _ _ _ _ _ _ _ _ _ (record { op = o; at = at; with = with })

pub value_link : (o : Op) (at : ℕ) (with : Expr) → link_value (roll-Link (record { op = o; at = at; with = with })) ≡ (o, worth with)
unfolding worth link_value
value_link o at with = fold-roll-Link _ _ _ _ _ _ _ _ _ _ _ _ (record { op = o; at = at; with = with })

-- ---- the same worth

abbrev worth_of_step : MentioningStep → In Step
worth_of_step s = s.step

abbrev worth_of : Mentioning → In Value
worth_of l = l.worth

abbrev worth_of_branch : Mentioning × Mentioning → In Value × In Value
worth_of_branch b = (b.0.worth, b.1.worth)

abbrev worth_of_link : MentioningLink → Op × In Value
worth_of_link l = (l.op, l.with.worth)

abbrev DomainHasWorth : Domain → Type 0
DomainHasWorth d = (domain_said d).numbers ≡ domain_value d

abbrev FormHasWorth : Form → Type 0
FormHasWorth f = worth_of (form_said f) ≡ form_value f

abbrev ReachHasWorth : Reach → Type 0
ReachHasWorth r = worth_of_step (reach_said r) ≡ reach_value r

abbrev BranchHasWorth : Branch → Type 0
BranchHasWorth b = worth_of_branch (branch_said b) ≡ branch_value b

abbrev HasWorth : Expr → Type 0
HasWorth e = worth_of (mentioning e) ≡ worth e

abbrev LinkHasWorth : Link → Type 0
LinkHasWorth l = worth_of_link (link_said l) ≡ link_value l

abbrev D : Type 0
D = (d : Domain) × DomainHasWorth d

abbrev F : Type 0
F = (f : Form) × FormHasWorth f

abbrev R : Type 0
R = (r : Reach) × ReachHasWorth r

abbrev B : Type 0
B = (b : Branch) × BranchHasWorth b

abbrev E : Type 0
E = (e : Expr) × HasWorth e

abbrev L : Type 0
L = (l : Link) × LinkHasWorth l

-- the same over lists of parts
all_same : {X Y Z : Type 0} (f : X → Y) (h : Y → Z) (g : X → Z) (zs : List ((x : X) × (h (f x) ≡ g x))) → map h (map f (map (λ z. z.0) zs)) ≡ map g (map (λ z. z.0) zs)
all_same f h g [] = refl
all_same f h g (z ∷ zs) =
    let here = z.1 in
    let there = all_same f h g zs in
    λ i. here i ∷ there i

abbrev forms : Form-F D F R B E L → Layer
forms = map-Form D F R B E L Domain Form Reach Branch Expr Link (λ z. z.0) (λ z. z.0) (λ z. z.0) (λ z. z.0) (λ z. z.0) (λ z. z.0)

parts_same : (y : Form-F D F R B E L) → worth_of_parts (parts_said (forms y)) ≡ form_worth (part_values (forms y))
parts_same (Form-F.Number n) = refl
parts_same (Form-F.Truth b) = refl
parts_same (Form-F.Path n rs) = let p = all_same reach_said worth_of_step reach_value rs in λ i. form_worth (Form-F.Path n (p i))
parts_same (Form-F.Chain x ls) = let p = x.1 in let q = all_same link_said worth_of_link link_value ls in λ i. form_worth (Form-F.Chain (p i) (q i))
parts_same (Form-F.Compare o x y) = let p = x.1 in let q = y.1 in λ i. form_worth (Form-F.Compare o (p i) (q i))
parts_same (Form-F.Minus x) = let p = x.1 in λ i. form_worth (Form-F.Minus (p i))
parts_same (Form-F.Not x) = let p = x.1 in λ i. form_worth (Form-F.Not (p i))
parts_same (Form-F.Choice bs x) = let p = all_same branch_said worth_of_branch branch_value bs in let q = x.1 in λ i. form_worth (Form-F.Choice (p i) (q i))
parts_same (Form-F.Group xs) = let p = all_same mentioning worth_of worth xs in λ i. form_worth (Form-F.Group (p i))
parts_same (Form-F.Quant q n d x) = let p = d.1 in let r = x.1 in λ i. form_worth (Form-F.Quant q n (p i) (r i))
parts_same (Form-F.Pre x None) = let p = x.1 in λ i. form_worth (Form-F.Pre (p i) None)
parts_same (Form-F.Pre x (Some first)) = let p = x.1 in let q = first.1 in λ i. form_worth (Form-F.Pre (p i) (Some (q i)))
parts_same (Form-F.Least xs) = let p = all_same mentioning worth_of worth xs in λ i. form_worth (Form-F.Least (p i))
parts_same (Form-F.Greatest xs) = let p = all_same mentioning worth_of worth xs in λ i. form_worth (Form-F.Greatest (p i))
parts_same (Form-F.Size x) = let p = x.1 in λ i. form_worth (Form-F.Size (p i))
parts_same Form-F.Starting = refl
parts_same (Form-F.Within x between) = let p = x.1 in λ i. form_worth (Form-F.Within (p i) between)

form_step : (y : Form-F D F R B E L) → FormHasWorth (roll-Form (forms y))
form_step y = ap worth_of (said_form (forms y)) ∙ parts_same y ∙ sym (value_form (forms y))

domain_step : (y : Domain-F D F R B E L) → DomainHasWorth (roll-Domain (map-Domain D F R B E L Domain Form Reach Branch Expr Link (λ z. z.0) (λ z. z.0) (λ z. z.0) (λ z. z.0) (λ z. z.0) (λ z. z.0) y))
domain_step (Domain-F.Bounds a b) =
    let p = a.1 in
    let q = b.1 in
    ap (λ (d : MentioningDomain). d.numbers) (said_bounds a.0 b.0) ∙ (λ i. domain_range (Domain-F.Bounds (p i) (q i))) ∙ sym (value_bounds a.0 b.0)
domain_step Domain-F.Bool = ap (λ (d : MentioningDomain). d.numbers) said_truths ∙ sym value_truths
domain_step (Domain-F.Named n) = ap (λ (d : MentioningDomain). d.numbers) (said_named n) ∙ sym (value_named n)

reach_has : (y : Reach-F D F R B E L) → ReachHasWorth (roll-Reach (map-Reach D F R B E L Domain Form Reach Branch Expr Link (λ z. z.0) (λ z. z.0) (λ z. z.0) (λ z. z.0) (λ z. z.0) (λ z. z.0) y))
reach_has (Reach-F.At e) =
    let p = e.1 in
    ap worth_of_step (said_at e.0) ∙ (λ i. reach_step (Reach-F.At (p i))) ∙ sym (value_at e.0)
reach_has (Reach-F.Field n) = ap worth_of_step (said_field n) ∙ sym (value_field n)

branch_has : (when gives : E) → BranchHasWorth (roll-Branch (record { when = when.0; gives = gives.0 }))
branch_has when gives =
    let p = when.1 in
    let q = gives.1 in
    ap worth_of_branch (said_branch when.0 gives.0) ∙ (λ i. (p i, q i)) ∙ sym (value_branch when.0 gives.0)

expr_has : (at : ℕ) (f : F) → HasWorth (roll-Expr (record { at = at; form = f.0 }))
expr_has at f = ap worth_of (said_expr at f.0) ∙ f.1 ∙ sym (value_expr at f.0)

link_has : (o : Op) (at : ℕ) (e : E) → LinkHasWorth (roll-Link (record { op = o; at = at; with = e.0 }))
link_has o at e =
    let p = e.1 in
    ap worth_of_link (said_link o at e.0) ∙ (λ i. (o, p i)) ∙ sym (value_link o at e.0)

has_worth : (e : Expr) → HasWorth e
has_worth = ind-Expr DomainHasWorth FormHasWorth ReachHasWorth BranchHasWorth HasWorth LinkHasWorth
    (λ x y is. subst (λ z. DomainHasWorth (roll-Domain z)) is (domain_step y))
    (λ x y is. subst (λ z. FormHasWorth (roll-Form z)) is (form_step y))
    (λ x y is. subst (λ z. ReachHasWorth (roll-Reach z)) is (reach_has y))
    (λ x y is. subst (λ z. BranchHasWorth (roll-Branch z)) is (branch_has y.when y.gives))
    (λ x y is. subst (λ z. HasWorth (roll-Expr z)) is (expr_has y.at y.form))
    (λ x y is. subst (λ z. LinkHasWorth (roll-Link z)) is (link_has y.op y.at y.with))

pub mentioned_worth : (e : Expr) (s : Scene) → (mentioning e).worth s ≡ worth e s
mentioned_worth e s = ap (λ (g : In Value). g s) (has_worth e)
