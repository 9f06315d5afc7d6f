-- That the value that is said of a constant is its value, of each form by those of its parts.
use Rattle.std.proofs.Common.{◌≡◌, ℕ, ℤ, List, [], ◌∷◌, ◌++◌, map, fold, refl, ap}
use Rattle.std.specs.Prelude.{if◌then◌else◌}
use Rattle.std.specs.List.{flat_map}
use Rattle.intervals.specs.Ends.{Ends}
use Rattle.hll_tree.specs.declared.tree.Op.{Op}
use Rattle.hll_meaning.specs.Kinds.{Value}
use Rattle.hll_meaning.specs.Values.{Scene, In as InScene, of_number, is_true, number, chained, chosen}
use Rattle.hll_meaning.specs.Judging.{Context, Judged, Linked, all_faults, one_link, chain_of, chosen_value, choice_of, walked, made_of, made_of_all}
use Rattle.hll_meaning.proofs.Faultless.{empty_parts, first_empty}
use Rattle.hll_meaning.proofs.Lies.{front_faultless, link_parts}

-- the value is the one that is said, where there are no faults
abbrev pub Says : Judged → Value → Type 0
Says j v = j.faults ≡ [] → j.value ≡ v

-- ---- numbers made of numbers

pub made_said : (at : ℕ) (j : Judged) (rule : Ends → Ends) (f : ℤ → ℤ) (v : Value) → Says j v → Says (made_of at j rule f) (of_number (f (number v)))
made_said at j rule f v h none = ap (λ (w : Value). of_number (f (number w))) (h (first_empty j.faults _ none))

-- each value is the one that is said
abbrev pub AllSay : List Judged → List Value → Type 0
AllSay [] [] = Unit {0}
AllSay [] (v ∷ vs) = ⊥
AllSay (j ∷ js) [] = ⊥
AllSay (j ∷ js) (v ∷ vs) = Says j v × AllSay js vs

pub values_said : (js : List Judged) (vs : List Value) → AllSay js vs → all_faults js ≡ [] → map (λ j. j.value) js ≡ vs
values_said [] [] all none = refl
values_said [] (v ∷ vs) all none = absurd all
values_said (j ∷ js) [] all none = absurd all
values_said (j ∷ js) (v ∷ vs) all none =
    let p = empty_parts j.faults (all_faults js) none in
    let here = all.0 p.0 in
    let there = values_said js vs all.1 p.1 in
    λ i. here i ∷ there i

pub of_all_said : (at : ℕ) (js : List Judged) (vs : List Value) (rule : Ends → Ends → Ends) (f : List Value → ℤ) → AllSay js vs → Says (made_of_all at js rule (f (map (λ j. j.value) js))) (of_number (f vs))
of_all_said at js vs rule f all none = ap (λ (ws : List Value). of_number (f ws)) (values_said js vs all (first_empty (all_faults js) _ none))

-- ---- chains

-- the operators are the same, and each operand has the value that is said
abbrev pub AllLinkSay : Context → List Linked → List (Op × Value) → Type 0
AllLinkSay c [] [] = Unit {0}
AllLinkSay c [] (w ∷ ws) = ⊥
AllLinkSay c (l ∷ ls) [] = ⊥
AllLinkSay c (l ∷ ls) (w ∷ ws) = (l.op ≡ w.0) × Says (l.with c) w.1 × AllLinkSay c ls ws

links_said : (c : Context) (j : Judged) (ls : List Linked) (ws : List (Op × Value)) → AllLinkSay c ls ws → (fold (one_link c) j ls).faults ≡ [] → map (λ l. (l.op, (l.with c).value)) ls ≡ ws
links_said c j [] [] all none = refl
links_said c j [] (w ∷ ws) all none = absurd all
links_said c j (l ∷ ls) [] all none = absurd all
links_said c j (l ∷ ls) (w ∷ ws) all none =
    let p = link_parts c j l (front_faultless c ls (one_link c j l) none) in
    let sign = all.0 in
    let operand = all.1 p.1 in
    let there = links_said c (one_link c j l) ls ws all.2 none in
    λ i. (sign i, operand i) ∷ there i

pub chain_said : (c : Context) (at : ℕ) (j : Judged) (v : Value) (ls : List Linked) (ws : List (Op × Value)) → AllLinkSay c ls ws → Says j v → Says (chain_of c at j ls) (chained v ws)
chain_said c at j v ls ws all h none =
    let first = h (front_faultless c ls j none) in
    let rest = links_said c j ls ws all none in
    λ i. chained (first i) (rest i)

-- ---- choices

-- each condition and each branch has the value that is said
abbrev pub AllBranchesSay : Scene → List (Judged × Judged) → List (InScene Value × InScene Value) → Type 0
AllBranchesSay s [] [] = Unit {0}
AllBranchesSay s [] (v ∷ vs) = ⊥
AllBranchesSay s (b ∷ bs) [] = ⊥
AllBranchesSay s (b ∷ bs) (v ∷ vs) = Says b.0 (v.0 s) × Says b.1 (v.1 s) × AllBranchesSay s bs vs

chosen_said : (s : Scene) (bs : List (Judged × Judged)) (vs : List (InScene Value × InScene Value)) (j : Judged) (otherwise : InScene Value) → AllBranchesSay s bs vs → Says j (otherwise s) →
    flat_map (λ b. b.0.faults ++ b.1.faults) bs ≡ [] → j.faults ≡ [] → chosen_value bs j ≡ chosen vs otherwise s
chosen_said s [] [] j otherwise all h none last = h last
chosen_said s [] (v ∷ vs) j otherwise all h none last = absurd all
chosen_said s (b ∷ bs) [] j otherwise all h none last = absurd all
chosen_said s (b ∷ bs) (v ∷ vs) j otherwise all h none last =
    let p = empty_parts (b.0.faults ++ b.1.faults) (flat_map (λ b. b.0.faults ++ b.1.faults) bs) none in
    let q = empty_parts b.0.faults b.1.faults p.0 in
    let test = all.0 q.0 in
    let here = all.1 q.1 in
    let there = chosen_said s bs vs j otherwise all.2 h p.1 last in
    λ i. if is_true (test i) then here i else there i

pub choice_said : (s : Scene) (at : ℕ) (bs : List (Judged × Judged)) (vs : List (InScene Value × InScene Value)) (j : Judged) (otherwise : InScene Value) → AllBranchesSay s bs vs → Says j (otherwise s) → Says (choice_of at bs j) (chosen vs otherwise s)
choice_said s at bs vs j otherwise all h none =
    let p = empty_parts (walked bs j) _ none in
    let w = empty_parts (flat_map (λ b. b.0.faults ++ b.1.faults) bs) j.faults p.0 in
    chosen_said s bs vs j otherwise all h w.0 w.1
