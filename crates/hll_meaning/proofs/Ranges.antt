-- The value of an expression without faults is one of the kind that is said of it.
use Rattle.std.proofs.Common.{◌≡◌, ℕ, zero, suc, ℤ, Bool, true, Option, Some, None, List, [], ◌∷◌, ◌++◌, map, neg_ℤ, pos, unsigned_abs, refl, sym, ap, subst, ◌∙◌, arith}
use Rattle.std.specs.Prelude.{slice_index_or}
use Rattle.std.specs.List.{AllByRecursion, flat_map}
use Rattle.intervals.specs.declared.interval.Interval.{Interval}
use Rattle.intervals.specs.Ends.{Ends}
use Rattle.intervals.specs.Numbers.{size}
use Rattle.intervals.specs.Rules.{negation, absolute}
use Rattle.intervals.proofs.Soundness.{negation_sound, absolute_sound}
use Rattle.hll_tree.specs.declared.tree.Branch.{Branch}
use Rattle.hll_tree.specs.declared.tree.Cmp.{Cmp}
use Rattle.hll_tree.specs.declared.tree.Domain.{Domain, Bounds, Bool as Truths, Named}
use Rattle.hll_tree.specs.declared.tree.Expr.{Expr}
use Rattle.hll_tree.specs.declared.tree.Form.{Number, Truth, Path, Chain, Compare, Minus, Not, Choice, Group, Quant as Quantified, Pre, Least, Greatest, Size, Starting, Within}
use Rattle.hll_tree.specs.declared.tree.Link.{Link}
use Rattle.hll_tree.specs.declared.tree.Name.{Name}
use Rattle.hll_tree.specs.declared.tree.Quant.{Quant}
use Rattle.hll_tree.specs.declared.tree.Reach.{Reach, At, Field}
use Rattle.hll_meaning.specs.Kinds.{Kind, truth, whole, element, array, struct, Value, Step, ranges, truths}
use Rattle.hll_meaning.specs.Names.{Thing, constant, type_of, code_in, variable, later, under}
use Rattle.hll_meaning.specs.Values.{Scene, In as InScene, number, least, greatest, named_domain, earlier, worth}
use Rattle.hll_meaning.specs.Fitting.{is_scalar, ends_of}
use Rattle.hll_meaning.specs.declared.fault.StaticKind.TheVariants as is
use Rattle.hll_meaning.specs.Judging.{Context, Judged, Ranged, Reached, fault_if, no_constant, for_constant, inside_bind, wants_scalar, all_in, thing_domain, bound_domain, pre_with, judged}
use Rattle.hll_meaning.proofs.WorthForms.{link_worth, reach_worth, domain_worth, worth-number, worth-truth, worth-path, worth-chain, worth-compare, worth-minus, worth-not, worth-choice, worth-group, worth-quantified, worth-pre_with, worth-least, worth-greatest, worth-size, worth-starting, worth-within, domain_worth-bounds, domain_worth-truths, domain_worth-named, reach_worth-at, reach_worth-field}
use Rattle.hll_meaning.proofs.JudgedForms.{link_said, branch_said, reach_said, domain_said, judged-number, judged-truth, judged-path, judged-chain, judged-compare, judged-minus, judged-not, judged-choice, judged-group, judged-quantified, judged-pre_alone, judged-pre_with, judged-least, judged-greatest, judged-size, judged-starting, judged-within, domain_said-bounds, domain_said-truths, domain_said-named, reach_said-at, reach_said-field}
use Rattle.hll_meaning.proofs.Faultless.{empty_parts, first_empty, second_empty, must_be}
use Rattle.hll_meaning.proofs.Numbers.{itself, truth_of, whole_of}
use Rattle.hll_meaning.proofs.Lies.{Lies, AllLie, AllLink, made_lies, least_lies, greatest_lies, chain_lies}
use Rattle.hll_meaning.proofs.Choices.{AllGive, choice_lies, group_lies, memory_lies, first_lies}
use Rattle.hll_meaning.proofs.Quantifiers.{quantified_lies}
use Rattle.hll_meaning.proofs.Scenes.{HasAll, has_for_constant, has_inside, has_earlier}
use Rattle.hll_meaning.proofs.Paths.{IsStep, AreSteps, path_lies}
use Rattle.hll_meaning.proofs.FormInduction.{HoldsByForm, holds_by_form}
use Rattle.hll_meaning.proofs.Constants.{is_said}

-- in each scene the value is of the kind that is said
abbrev pub IsSound : Expr → Type 0
IsSound e = (c : Context) (s : Scene) → HasAll c s → Lies (judged e c) (worth e s)

by_forms : (j k : Judged) (v w : Value) → j ≡ k → v ≡ w → Lies k w → Lies j v
by_forms j k v w p q h = subst (λ (i : Judged). Lies i v) (sym p) (subst (λ (u : Value). Lies k u) (sym q) h)

-- ---- parts

-- the numbers of a domain are those of its kind, which is scalar
pub record IsDomain (e : Ends) (k : Kind) : Type 0 where
  pub same : e ≡ ends_of k
  pub scalar : is_scalar k ≡ true

abbrev DomainIsSound : Domain → Type 0
DomainIsSound d = (c : Context) (s : Scene) → HasAll c s → (domain_said d c).faults ≡ [] → IsDomain (domain_worth d s) (domain_said d c).kind

by_domain : (e f : Ends) (r t : Ranged) → e ≡ f → r ≡ t → (t.faults ≡ [] → IsDomain f t.kind) → r.faults ≡ [] → IsDomain e r.kind
by_domain e f r t p q h = subst (λ (x : Ranged). x.faults ≡ [] → IsDomain e x.kind) (sym q) (subst (λ (x : Ends). t.faults ≡ [] → IsDomain x t.kind) (sym p) h)

sound_bounds : (a b : Expr) → DomainIsSound (Bounds a b)
sound_bounds a b c s h =
    by_domain _ _ _ _ (domain_worth-bounds a b s) (domain_said-bounds a b c)
    (λ none. let p = empty_parts (judged a (for_constant c)).faults _ none in
    let x = is_said a (for_constant c) s (has_for_constant c s h) refl p.0 in
    let y = is_said b (for_constant c) s (has_for_constant c s h) refl (first_empty (judged b (for_constant c)).faults _ p.1) in
    record { same = λ i. record { lo = number (sym x i); hi = number (sym y i) }; scalar = refl })

sound_truths : DomainIsSound Truths
sound_truths c s h = by_domain _ _ _ _ (domain_worth-truths s) (domain_said-truths c) (λ none. record { same = refl; scalar = refl })

first_range : (k : Kind) → is_scalar k ≡ true → slice_index_or (ranges k) 0 truths ≡ ends_of k
first_range truth h = refl
first_range (whole e) h = refl
first_range (element root e) h = refl
first_range (array n k) h = absurd (cc h)
first_range (struct name fields) h = absurd (cc h)

sound_named : (n : Name) → DomainIsSound (Named n)
sound_named n c s h = by_domain _ _ _ _ (domain_worth-named n s) (domain_said-named n c) (by_bound (under n.text c.bound))
  where
    by_thing : (o : Option Thing) → under n.text c.names ≡ o → (thing_domain n.at o).faults ≡ [] → IsDomain (named_domain (under n.text s.names)) (thing_domain n.at o).kind
    by_thing None is none = absurd (cc none)
    by_thing (Some (constant b x)) is none = absurd (cc none)
    by_thing (Some (type_of k)) is none =
        let scalar = must_be (is_scalar k) _ n.at none in
        record { same = ap named_domain (h.things n.text (type_of k) is) ∙ first_range k scalar; scalar = scalar }
    by_thing (Some (code_in root code)) is none = absurd (cc none)
    by_thing (Some (variable input k)) is none = absurd (cc none)
    by_thing (Some later) is none = absurd (cc none)

    by_bound : (o : Option Kind) → (bound_domain c n o).faults ≡ [] → IsDomain (named_domain (under n.text s.names)) (bound_domain c n o).kind
    by_bound (Some k) none = absurd (cc none)
    by_bound None none = by_thing (under n.text c.names) refl none

abbrev ReachIsSound : Reach → Type 0
ReachIsSound r = (s : Scene) → IsStep (reach_said r) (reach_worth r s)

by_step : (r t : Reached) (x y : Step) → r ≡ t → x ≡ y → IsStep t y → IsStep r x
by_step r t x y p q h = subst (λ (z : Reached). IsStep z x) (sym p) (subst (λ (z : Step). IsStep t z) (sym q) h)

sound_at : (e : Expr) → ReachIsSound (At e)
sound_at e s = by_step _ _ _ _ (reach_said-at e) (reach_worth-at e s) tt

sound_field : (n : Name) → ReachIsSound (Field n)
sound_field n s = by_step _ _ _ _ (reach_said-field n) (reach_worth-field n s) refl

-- ---- lists of parts

all_sound : (es : List Expr) → AllByRecursion IsSound es → (c : Context) (s : Scene) → HasAll c s → AllLie (map (λ j. j c) (map judged es)) (map (λ e. e s) (map worth es))
all_sound [] all c s h = tt
all_sound (e ∷ es) all c s h = (all.0 c s h, all_sound es all.1 c s h)

links_sound : (ls : List Link) → AllByRecursion (λ l. IsSound l.with) ls → (c : Context) (s : Scene) → HasAll c s → AllLink c (map link_said ls) (map (λ l. (l.0, l.1 s)) (map link_worth ls))
links_sound [] all c s h = tt
links_sound (l ∷ ls) all c s h = (refl, all.0 c s h, links_sound ls all.1 c s h)

branches_sound : (bs : List Branch) → AllByRecursion (λ b. IsSound b.when × IsSound b.gives) bs → (c : Context) (s : Scene) → HasAll c s → AllGive s (all_in c (map branch_said bs)) (map (λ b. (worth b.when, worth b.gives)) bs)
branches_sound [] all c s h = tt
branches_sound (b ∷ bs) all c s h = (all.0.1 c s h, branches_sound bs all.1 c s h)

steps_sound : (rs : List Reach) → AllByRecursion ReachIsSound rs → (s : Scene) → AreSteps (map reach_said rs) (map (λ r. r s) (map reach_worth rs))
steps_sound [] all s = tt
steps_sound (r ∷ rs) all s = (all.0 s, steps_sound rs all.1 s)

values_of : (s : Scene) (vs : List (InScene Value)) → flat_map (λ e. e s) vs ≡ flat_map (λ v. v) (map (λ e. e s) vs)
values_of s [] = refl
values_of s (v ∷ vs) = ap (λ (w : Value). v s ++ w) (values_of s vs)

-- ---- forms

sound_number : (e : Expr) (n : ℤ) → e.form ≡ Number n → IsSound e
sound_number e n is c s h = by_forms _ _ _ _ (judged-number e n is c) (worth-number e n is s) (λ none. whole_of (record { lo = n; hi = n }) n (itself n))

sound_truth : (e : Expr) (b : Bool) → e.form ≡ Truth b → IsSound e
sound_truth e b is c s h = by_forms _ _ _ _ (judged-truth e b is c) (worth-truth e b is s) (λ none. truth_of b)

sound_path : (e : Expr) (n : Name) (rs : List Reach) → e.form ≡ Path n rs → AllByRecursion ReachIsSound rs → IsSound e
sound_path e n rs is all c s h =
    by_forms _ _ _ _ (judged-path e n rs is c) (worth-path e n rs is s)
    (path_lies c s h e.at n.text (map reach_said rs) (map (λ r. r s) (map reach_worth rs)) (steps_sound rs all s))

sound_chain : (e first : Expr) (ls : List Link) → e.form ≡ Chain first ls → IsSound first → AllByRecursion (λ l. IsSound l.with) ls → IsSound e
sound_chain e first ls is f all c s h =
    by_forms _ _ _ _ (judged-chain e first ls is c) (worth-chain e first ls is s)
    (chain_lies c e.at (judged first c) (worth first s) (map link_said ls) (map (λ l. (l.0, l.1 s)) (map link_worth ls)) (links_sound ls all c s h) (f c s h))

sound_compare : (e : Expr) (o : Cmp) (a b : Expr) → e.form ≡ Compare o a b → IsSound e
sound_compare e o a b is c s h = by_forms _ _ _ _ (judged-compare e o a b is c) (worth-compare e o a b is s) (λ none. truth_of _)

sound_minus : (e inner : Expr) → e.form ≡ Minus inner → IsSound inner → IsSound e
sound_minus e inner is f c s h = by_forms _ _ _ _ (judged-minus e inner is c) (worth-minus e inner is s) (made_lies e.at (judged inner c) negation neg_ℤ neg_ℤ (worth inner s) negation_sound (f c s h))

sound_not : (e inner : Expr) → e.form ≡ Not inner → IsSound e
sound_not e inner is c s h = by_forms _ _ _ _ (judged-not e inner is c) (worth-not e inner is s) (λ none. truth_of _)

sound_choice : (e : Expr) (bs : List Branch) (otherwise : Expr) → e.form ≡ Choice bs otherwise → AllByRecursion (λ b. IsSound b.when × IsSound b.gives) bs → IsSound otherwise → IsSound e
sound_choice e bs otherwise is all f c s h =
    by_forms _ _ _ _ (judged-choice e bs otherwise is c) (worth-choice e bs otherwise is s)
    (choice_lies s e.at (all_in c (map branch_said bs)) (map (λ b. (worth b.when, worth b.gives)) bs) (judged otherwise c) (worth otherwise) (branches_sound bs all c s h) (f c s h))

sound_group : (e : Expr) (es : List Expr) → e.form ≡ Group es → AllByRecursion IsSound es → IsSound e
sound_group e es is all c s h =
    by_forms _ _ _ _ (judged-group e es is c) (worth-group e es is s ∙ values_of s (map worth es))
    (group_lies c e.at (map (λ j. j c) (map judged es)) (map (λ e. e s) (map worth es)) (all_sound es all c s h))

sound_quantified : (e : Expr) (q : Quant) (n : Name) (d : Domain) (body : Expr) → e.form ≡ Quantified q n d body → DomainIsSound d → IsSound body → IsSound e
sound_quantified e q n d body is g f c s h =
    by_forms _ _ _ _ (judged-quantified e q n d body is c) (worth-quantified e q n d body is s)
    (quantified_lies c e.at q n.text (domain_said d c) (judged body) (domain_worth d s) (λ x. worth body (record s { bound = (n.text, x) ∷ s.bound }))
    (λ none. (g c s h none).same)
    (λ x none within. f (inside_bind n.text (domain_said d c).kind c) (record s { bound = (n.text, x) ∷ s.bound }) (has_inside c s n.text (domain_said d c).kind x (g c s h none).scalar within h)))

sound_pre_alone : (e body : Expr) → e.form ≡ Pre body None → IsSound e
sound_pre_alone e body same c s h =
    subst (λ (j : Judged). Lies j (worth e s)) (sym (judged-pre_alone e body same c))
    (λ none. let p = second_empty (judged body c).faults _ none in
    let r = second_empty (wants_scalar (judged body c)) _ p in
    let t : fault_if true is.FirstMissing e.at ≡ [] = second_empty (no_constant c e.at) _ r in
    absurd (cc t))

sound_pre_with : (e body first : Expr) → e.form ≡ Pre body (Some first) → IsSound body → IsSound first → IsSound e
sound_pre_with e body first is f g c s h =
    by_forms _ _ _ _ (judged-pre_with e body first is c) (worth-pre_with e body first is s) (by_time s.time refl)
  where
    by_time : (t : ℕ) → s.time ≡ t → Lies (pre_with c e.at (judged body c) (judged first c)) (earlier (worth body) (λ at. Some (worth first at)) (record s { time = t }))
    by_time zero same = first_lies c e.at (judged body c) (judged first c) (worth first (record s { time = zero })) (g c (record s { time = zero }) (has_earlier c s zero (omega arith) h))
    by_time (suc t) same = memory_lies c e.at (judged body c) (judged first c) (worth body (record s { time = t })) (f c (record s { time = t }) (has_earlier c s t (omega arith) h))

sound_least : (e : Expr) (es : List Expr) → e.form ≡ Least es → AllByRecursion IsSound es → IsSound e
sound_least e es is all c s h =
    by_forms _ _ _ _ (judged-least e es is c) (worth-least e es is s)
    (least_lies e.at (map (λ j. j c) (map judged es)) (map (λ e. e s) (map worth es)) (least (map (λ j. (j c).value) (map judged es))) (all_sound es all c s h))

sound_greatest : (e : Expr) (es : List Expr) → e.form ≡ Greatest es → AllByRecursion IsSound es → IsSound e
sound_greatest e es is all c s h =
    by_forms _ _ _ _ (judged-greatest e es is c) (worth-greatest e es is s)
    (greatest_lies e.at (map (λ j. j c) (map judged es)) (map (λ e. e s) (map worth es)) (greatest (map (λ j. (j c).value) (map judged es))) (all_sound es all c s h))

sound_size : (e inner : Expr) → e.form ≡ Size inner → IsSound inner → IsSound e
sound_size e inner is f c s h = by_forms _ _ _ _ (judged-size e inner is c) (worth-size e inner is s) (made_lies e.at (judged inner c) absolute size (λ x. pos (unsigned_abs x)) (worth inner s) absolute_sound (f c s h))

sound_starting : (e : Expr) → e.form ≡ Starting → IsSound e
sound_starting e is c s h = by_forms _ _ _ _ (judged-starting e is c) (worth-starting e is s) (λ none. truth_of _)

sound_within : (e inner : Expr) (i : Interval) → e.form ≡ Within inner i → IsSound e
sound_within e inner i is c s h = by_forms _ _ _ _ (judged-within e inner i is c) (worth-within e inner i is s) (λ none. truth_of _)

-- ---- any depth

by_form : HoldsByForm IsSound DomainIsSound ReachIsSound
by_form = record {
  number = sound_number;
  truth = sound_truth;
  path = sound_path;
  chain = sound_chain;
  compare = λ e o a b is f g. sound_compare e o a b is;
  minus = sound_minus;
  negated = λ e inner is f. sound_not e inner is;
  choice = sound_choice;
  group = sound_group;
  quantified = sound_quantified;
  pre_alone = λ e body is f. sound_pre_alone e body is;
  pre_with = sound_pre_with;
  least = sound_least;
  greatest = sound_greatest;
  size = sound_size;
  starting = sound_starting;
  within = λ e inner i is f. sound_within e inner i is;
  bounds = λ a b f g. sound_bounds a b;
  truths = sound_truths;
  named = sound_named;
  index = λ e f. sound_at e;
  field = sound_field;
}

pub is_sound : (e : Expr) → IsSound e
is_sound = holds_by_form IsSound DomainIsSound ReachIsSound by_form
