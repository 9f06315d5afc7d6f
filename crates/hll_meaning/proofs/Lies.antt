-- That a value is of the kind that is said of it: of numbers made of numbers, and of the operators of a chain.
use Rattle.std.proofs.Common.{◌≡◌, ℕ, ℤ, pos, true, false, List, [], ◌∷◌, ◌++◌, ◌⊎◌, inl, inr, fold, refl, sym, ap, subst, ◌∙◌, arith}
use Rattle.std.specs.List.{flat_map}
use Rattle.std.specs.Int.{int_min, int_max}
use Rattle.std.proofs.lemmas.Int.{ints}
use Rattle.intervals.specs.Ends.{Ends, Holds}
use Rattle.intervals.specs.Rules.{smaller, greater, sum, difference, product, ratio, modulus}
use Rattle.intervals.specs.Sound.{IsSound, AreSound}
use Rattle.intervals.proofs.Soundness.{sum_sound, difference_sound, product_sound, ratio_sound, modulus_sound, smaller_sound, greater_sound}
use Rattle.hll_tree.specs.declared.tree.Op.{Op}
use Rattle.hll_tree.specs.declared.tree.Op.TheVariants as op
use Rattle.hll_meaning.specs.Kinds.{truth, whole, Value, IsOf}
use Rattle.hll_meaning.specs.Values.{of_number, number, operated, from_the_left, chained, least, greatest}
use Rattle.hll_meaning.specs.Fitting.{is_whole, is_truth, ends_of}
use Rattle.hll_meaning.specs.Judging.{Context, Judged, Linked, wants_truth, wants_whole, wide_at, wants_operand, operator_faults, result_kind, made_of, made_of_all, over_all, all_faults, one_link, chain_of}
use Rattle.hll_meaning.proofs.Faultless.{empty_parts, first_empty, must_be}
use Rattle.hll_meaning.proofs.Numbers.{whole_holds, whole_of, truth_of}

-- the value is of the kind, where there are no faults
abbrev pub Lies : Judged → Value → Type 0
Lies j v = j.faults ≡ [] → IsOf j.kind v

-- what is wanted whole is
pub is_wanted_whole : (j : Judged) → wants_whole j ≡ [] → is_whole j.kind ≡ true
is_wanted_whole j h = must_be (is_whole j.kind) _ j.at h

is_wanted_truth : (j : Judged) → wants_truth j ≡ [] → is_truth j.kind ≡ true
is_wanted_truth j h = must_be (is_truth j.kind) _ j.at h

-- ---- numbers made of numbers

pub made_lies : (at : ℕ) (j : Judged) (rule : Ends → Ends) (f g : ℤ → ℤ) (v : Value) → IsSound rule f → Lies j v → Lies (made_of at j rule g) (of_number (f (number v)))
made_lies at j rule f g v sound h none =
    let p = empty_parts j.faults (wants_whole j ++ wide_at (rule (ends_of j.kind)) at) none in
    let w = is_wanted_whole j (first_empty (wants_whole j) (wide_at (rule (ends_of j.kind)) at) p.1) in
    whole_of (rule (ends_of j.kind)) (f (number v)) (sound (ends_of j.kind) (number v) (whole_holds j.kind v w (h p.0)))

-- each value is of its kind
abbrev pub AllLie : List Judged → List Value → Type 0
AllLie [] [] = Unit {0}
AllLie [] (v ∷ vs) = ⊥
AllLie (j ∷ js) [] = ⊥
AllLie (j ∷ js) (v ∷ vs) = Lies j v × AllLie js vs

further_lie : (rule : Ends → Ends → Ends) (f : ℤ → ℤ → ℤ) → AreSound rule f → (e : Ends) (x : ℤ) → Holds e x → (js : List Judged) (vs : List Value) → AllLie js vs → all_faults js ≡ [] → flat_map wants_whole js ≡ [] →
    Holds (fold (λ e j. rule e (ends_of j.kind)) e js) (fold (λ x v. f x (number v)) x vs)
further_lie rule f sound e x h [] [] all none wholes = h
further_lie rule f sound e x h [] (v ∷ vs) all none wholes = absurd all
further_lie rule f sound e x h (j ∷ js) [] all none wholes = absurd all
further_lie rule f sound e x h (j ∷ js) (v ∷ vs) all none wholes =
    let p = empty_parts j.faults (all_faults js) none in
    let w = empty_parts (wants_whole j) (flat_map wants_whole js) wholes in
    further_lie rule f sound (rule e (ends_of j.kind)) (f x (number v)) (sound e (ends_of j.kind) x (number v) h (whole_holds j.kind v (is_wanted_whole j w.0) (all.0 p.0))) js vs all.1 p.1 w.1

zero_holds : Holds (record { lo = pos 0; hi = pos 0 }) (pos 0)
zero_holds = record { above = omega (arith, ints); below = omega (arith, ints) }

least_holds : (js : List Judged) (vs : List Value) → AllLie js vs → all_faults js ≡ [] → flat_map wants_whole js ≡ [] → Holds (over_all smaller js) (least vs)
least_holds [] [] all none wholes = zero_holds
least_holds [] (v ∷ vs) all none wholes = absurd all
least_holds (j ∷ js) [] all none wholes = absurd all
least_holds (j ∷ js) (v ∷ vs) all none wholes =
    let p = empty_parts j.faults (all_faults js) none in
    let w = empty_parts (wants_whole j) (flat_map wants_whole js) wholes in
    further_lie smaller int_min smaller_sound (ends_of j.kind) (number v) (whole_holds j.kind v (is_wanted_whole j w.0) (all.0 p.0)) js vs all.1 p.1 w.1

greatest_holds : (js : List Judged) (vs : List Value) → AllLie js vs → all_faults js ≡ [] → flat_map wants_whole js ≡ [] → Holds (over_all greater js) (greatest vs)
greatest_holds [] [] all none wholes = zero_holds
greatest_holds [] (v ∷ vs) all none wholes = absurd all
greatest_holds (j ∷ js) [] all none wholes = absurd all
greatest_holds (j ∷ js) (v ∷ vs) all none wholes =
    let p = empty_parts j.faults (all_faults js) none in
    let w = empty_parts (wants_whole j) (flat_map wants_whole js) wholes in
    further_lie greater int_max greater_sound (ends_of j.kind) (number v) (whole_holds j.kind v (is_wanted_whole j w.0) (all.0 p.0)) js vs all.1 p.1 w.1

made_of_all_lies : (at : ℕ) (js : List Judged) (rule : Ends → Ends → Ends) (z x : ℤ) → (all_faults js ≡ [] → flat_map wants_whole js ≡ [] → Holds (over_all rule js) x) → Lies (made_of_all at js rule z) (of_number x)
made_of_all_lies at js rule z x holds none =
    let p = empty_parts (all_faults js) (flat_map wants_whole js ++ wide_at (over_all rule js) at) none in
    whole_of (over_all rule js) x (holds p.0 (first_empty (flat_map wants_whole js) (wide_at (over_all rule js) at) p.1))

pub least_lies : (at : ℕ) (js : List Judged) (vs : List Value) (z : ℤ) → AllLie js vs → Lies (made_of_all at js smaller z) (of_number (least vs))
least_lies at js vs z all = made_of_all_lies at js smaller z (least vs) (least_holds js vs all)

pub greatest_lies : (at : ℕ) (js : List Judged) (vs : List Value) (z : ℤ) → AllLie js vs → Lies (made_of_all at js greater z) (of_number (greatest vs))
greatest_lies at js vs z all = made_of_all_lies at js greater z (greatest vs) (greatest_holds js vs all)

-- ---- operators

-- two numbers under an operator with a sound rule
two_lie : (rule : Ends → Ends → Ends) (f : ℤ → ℤ → ℤ) → AreSound rule f → (j k : Judged) (v w : Value) → wants_whole j ≡ [] → wants_whole k ≡ [] → IsOf j.kind v → IsOf k.kind w →
    IsOf (whole (rule (ends_of j.kind) (ends_of k.kind))) (of_number (f (number v) (number w)))
two_lie rule f sound j k v w left right hv hw =
    whole_of (rule (ends_of j.kind) (ends_of k.kind)) (f (number v) (number w))
    (sound (ends_of j.kind) (ends_of k.kind) (number v) (number w) (whole_holds j.kind v (is_wanted_whole j left) hv) (whole_holds k.kind w (is_wanted_whole k right) hw))

operated_lies : (o : Op) (j k : Judged) (v w : Value) → wants_operand o j ≡ [] → wants_operand o k ≡ [] → IsOf j.kind v → IsOf k.kind w → IsOf (result_kind o (ends_of j.kind) (ends_of k.kind)) (operated o v w)
operated_lies op.Same j k v w left right hv hw = truth_of _
operated_lies op.Differ j k v w left right hv hw = truth_of _
operated_lies op.Implies j k v w left right hv hw = truth_of _
operated_lies op.Or j k v w left right hv hw = truth_of _
operated_lies op.And j k v w left right hv hw = truth_of _
operated_lies op.Plus j k v w left right hv hw = two_lie sum _ sum_sound j k v w left right hv hw
operated_lies op.Less j k v w left right hv hw = two_lie difference _ difference_sound j k v w left right hv hw
operated_lies op.Times j k v w left right hv hw = two_lie product _ product_sound j k v w left right hv hw
operated_lies op.Over j k v w left right hv hw = two_lie ratio _ ratio_sound j k v w left right hv hw
operated_lies op.Rest j k v w left right hv hw = two_lie modulus _ modulus_sound j k v w left right hv hw

-- ---- chains

-- the operators are the same, and each operand is of its kind
abbrev pub AllLink : Context → List Linked → List (Op × Value) → Type 0
AllLink c [] [] = Unit {0}
AllLink c [] (w ∷ ws) = ⊥
AllLink c (l ∷ ls) [] = ⊥
AllLink c (l ∷ ls) (w ∷ ws) = (l.op ≡ w.0) × Lies (l.with c) w.1 × AllLink c ls ws

-- the parts of what an operator may find wrong
pub link_parts : (c : Context) (j : Judged) (l : Linked) → (one_link c j l).faults ≡ [] → (j.faults ≡ []) × ((l.with c).faults ≡ []) × (wants_operand l.op j ≡ []) × (wants_operand l.op (l.with c) ≡ [])
link_parts c j l none =
    let p = empty_parts j.faults ((l.with c).faults ++ operator_faults c l.op l.at j (l.with c)) none in
    let q = empty_parts (l.with c).faults (operator_faults c l.op l.at j (l.with c)) p.1 in
    let r = empty_parts (wants_operand l.op j) _ q.1 in
    (p.0, q.0, r.0, first_empty (wants_operand l.op (l.with c)) _ r.1)

link_lies : (c : Context) (j : Judged) (v : Value) (l : Linked) (o : Op) (w : Value) → l.op ≡ o → Lies (l.with c) w → Lies j v → Lies (one_link c j l) (operated o v w)
link_lies c j v l o w same right left none =
    let p = link_parts c j l none in
    subst (λ x. IsOf (result_kind l.op (ends_of j.kind) (ends_of (l.with c).kind)) (operated x v w)) same (operated_lies l.op j (l.with c) v w p.2 p.3 (left p.0) (right p.1))

left_lies : (c : Context) (ls : List Linked) (ws : List (Op × Value)) (j : Judged) (v : Value) → AllLink c ls ws → Lies j v → Lies (fold (one_link c) j ls) (from_the_left v ws)
left_lies c [] [] j v all h = h
left_lies c [] (w ∷ ws) j v all h = absurd all
left_lies c (l ∷ ls) [] j v all h = absurd all
left_lies c (l ∷ ls) (w ∷ ws) j v all h = left_lies c ls ws (one_link c j l) (operated w.0 v w.1) all.2 (link_lies c j v l w.0 w.1 all.0 all.1 h)

-- a chain without faults has a front without faults
pub front_faultless : (c : Context) (ls : List Linked) (j : Judged) → (fold (one_link c) j ls).faults ≡ [] → j.faults ≡ []
front_faultless c [] j none = none
front_faultless c (l ∷ ls) j none = (link_parts c j l (front_faultless c ls (one_link c j l) none)).0

no_whole : (j : Judged) → j.kind ≡ truth → wants_whole j ≡ [] → ⊥
no_whole j h w = let e : false ≡ true = sym (ap is_whole h) ∙ is_wanted_whole j w in cc e

-- behind a truth value only truth values follow
still_truth : (o : Op) (j : Judged) (a b : Ends) → j.kind ≡ truth → wants_operand o j ≡ [] → result_kind o a b ≡ truth
still_truth op.Same j a b h w = refl
still_truth op.Differ j a b h w = refl
still_truth op.Implies j a b h w = refl
still_truth op.Or j a b h w = refl
still_truth op.And j a b h w = refl
still_truth op.Plus j a b h w = absurd (no_whole j h w)
still_truth op.Less j a b h w = absurd (no_whole j h w)
still_truth op.Times j a b h w = absurd (no_whole j h w)
still_truth op.Over j a b h w = absurd (no_whole j h w)
still_truth op.Rest j a b h w = absurd (no_whole j h w)

truth_stays : (c : Context) (ls : List Linked) (j : Judged) → j.kind ≡ truth → (fold (one_link c) j ls).faults ≡ [] → (fold (one_link c) j ls).kind ≡ truth
truth_stays c [] j h none = h
truth_stays c (l ∷ ls) j h none =
    let p = link_parts c j l (front_faultless c ls (one_link c j l) none) in
    truth_stays c ls (one_link c j l) (still_truth l.op j (ends_of j.kind) (ends_of (l.with c).kind) h p.2) none

-- a chain goes from the left, but for implications
which_way : (o : Op) (v w : Value) (ws : List (Op × Value)) → (o ≡ op.Implies) ⊎ (chained v ((o, w) ∷ ws) ≡ from_the_left v ((o, w) ∷ ws))
which_way op.Same v w ws = inr refl
which_way op.Differ v w ws = inr refl
which_way op.Implies v w ws = inl refl
which_way op.Or v w ws = inr refl
which_way op.And v w ws = inr refl
which_way op.Plus v w ws = inr refl
which_way op.Less v w ws = inr refl
which_way op.Times v w ws = inr refl
which_way op.Over v w ws = inr refl
which_way op.Rest v w ws = inr refl

implied_lies : (c : Context) (j : Judged) (l : Linked) (ls : List Linked) (v w : Value) (ws : List (Op × Value)) → l.op ≡ op.Implies → Lies (fold (one_link c) (one_link c j l) ls) (chained v ((op.Implies, w) ∷ ws))
implied_lies c j l ls v w ws is none =
    subst (λ k. IsOf k (chained v ((op.Implies, w) ∷ ws))) (sym (truth_stays c ls (one_link c j l) (ap (λ o. result_kind o (ends_of j.kind) (ends_of (l.with c).kind)) is) none)) (truth_of _)

pub chain_lies : (c : Context) (at : ℕ) (j : Judged) (v : Value) (ls : List Linked) (ws : List (Op × Value)) → AllLink c ls ws → Lies j v → Lies (chain_of c at j ls) (chained v ws)
chain_lies c at j v [] [] all h = h
chain_lies c at j v [] (w ∷ ws) all h = absurd all
chain_lies c at j v (l ∷ ls) [] all h = absurd all
chain_lies c at j v (l ∷ ls) ((o, w) ∷ ws) all h = by_way (which_way o v w ws)
  where
    by_way : (o ≡ op.Implies) ⊎ (chained v ((o, w) ∷ ws) ≡ from_the_left v ((o, w) ∷ ws)) → Lies (chain_of c at j (l ∷ ls)) (chained v ((o, w) ∷ ws))
    by_way (inl is) = subst (λ (x : Op). Lies (chain_of c at j (l ∷ ls)) (chained v ((x, w) ∷ ws))) (sym is) (implied_lies c j l ls v w ws (all.0 ∙ is))
    by_way (inr is) = subst (λ (u : Value). Lies (chain_of c at j (l ∷ ls)) u) (sym is) (left_lies c (l ∷ ls) ((o, w) ∷ ws) j v all h)
