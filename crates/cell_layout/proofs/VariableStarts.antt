-- Where variables begin: one behind the other.
use Rattle.std.proofs.Common.{◌≡◌, ℕ, zero, suc, ◌+◌, ◌≤◌, ◌<◌, true, false, cond, List, [], ◌∷◌, ◌++◌, map, length, take, drop, get_or, position, Option, None, Some, refl, sym, ap, subst, ◌∙◌, arith, drop-cons, take-append-drop}
use Rattle.std.specs.List.{position_from}
use Rattle.std.specs.Str.{bytes_eq}
use Rattle.std.proofs.lemmas.Iterator.Adapters.{position_from-zero}
use Rattle.std.proofs.lemmas.List.{length-map, map-append, take_more}
use Rattle.hll_tree.specs.declared.tree.HllModel.{HllModel}
use Rattle.hll_meaning.specs.Kinds.{Kind, cells}
use Rattle.hll_meaning.specs.Runs.{variables}
use Rattle.hll_meaning.specs.StaticRules.{Well}
use Rattle.hll_meaning.proofs.Scenes.{by_test}
use Rattle.dependence.proofs.Apart.{same_name, own_name}
use Rattle.dependence.proofs.DefinedCells.{count_all, count_more, stretch_here, stretch_further}
use Rattle.dependence.specs.Mentions.{stretch_from, stretch_of}
use Rattle.cell_layout.specs.Starts.{starts_from}
use Rattle.cell_layout.proofs.FewCells.{cells_are_few}

-- ---- one variable more

starts_more : (start : ℕ) (xs : List (List ℕ × Kind)) (x : List ℕ × Kind) → starts_from start (xs ++ x ∷ []) ≡ starts_from start xs ++ (start + count_all xs) ∷ []
starts_more start [] x = let none : start ≡ start + 0 = omega arith in ap (λ (n : ℕ). n ∷ []) none
starts_more start (y ∷ ys) x =
    let count : start + cells y.1 + count_all ys ≡ start + count_all (y ∷ ys) = omega (arith, count_more y ys) in
    ap (λ (ns : List ℕ). start ∷ ns) (starts_more (start + cells y.1) ys x ∙ ap (λ (n : ℕ). starts_from (start + cells y.1) ys ++ n ∷ []) count)

count_join : (xs ys : List (List ℕ × Kind)) → count_all (xs ++ ys) ≡ count_all xs + count_all ys
count_join [] ys = omega arith
count_join (x ∷ xs) ys = omega (arith, count_more x (xs ++ ys), count_more x xs, count_join xs ys)

-- things that are variables, each with its name and kind
module _ {V : Type 0} (pair : V → List ℕ × Kind) where
  abbrev pairs : List V → List (List ℕ × Kind)
  pairs = map pair

  one_pair_more : (vs : List V) (i : ℕ) (v : V) → i < length vs → v ≡ get_or vs i v → pairs (take (i + 1) vs) ≡ pairs (take i vs) ++ pair v ∷ []
  one_pair_more vs i v below is =
      ap pairs (take_more vs i v below ∙ ap (λ (x : V). take i vs ++ x ∷ []) (sym is)) ∙ map-append pair (take i vs) (v ∷ [])

  pub start_pushed : (vs : List V) (i : ℕ) (v : V) (starts more : List ℕ) (start : ℕ) → i < length vs → v ≡ get_or vs i v → starts ≡ starts_from 0 (pairs (take i vs)) → start ≡ count_all (pairs (take i vs)) → more ≡ starts ++ start ∷ [] →
      more ≡ starts_from 0 (pairs (take (i + 1) vs))
  start_pushed vs i v starts more start below is before at added =
      let own : start ≡ 0 + count_all (pairs (take i vs)) = omega (arith, at) in
      added ∙ (λ j. before j ++ own j ∷ []) ∙ sym (ap (starts_from 0) (one_pair_more vs i v below is) ∙ starts_more 0 (pairs (take i vs)) (pair v))

  pub start_moved : (vs : List V) (i : ℕ) (v : V) (start count : ℕ) → i < length vs → v ≡ get_or vs i v → start ≡ count_all (pairs (take i vs)) → count ≡ cells (pair v).1 → start + count ≡ count_all (pairs (take (i + 1) vs))
  start_moved vs i v start count below is at counted =
      let all : count_all (pairs (take i vs) ++ pair v ∷ []) ≡ count_all (pairs (take i vs)) + cells (pair v).1 = omega (arith, count_join (pairs (take i vs)) (pair v ∷ []), count_more (pair v) []) in
      (λ j. at j + counted j) ∙ sym (ap count_all (one_pair_more vs i v below is) ∙ all)

  -- there is room for each variable of a text without faults
  pub room : (m : HllModel) (vs : List V) (i : ℕ) (v : V) → Well m → pairs vs ≡ variables m → i < length vs → v ≡ get_or vs i v → count_all (pairs (take i vs)) + cells (pair v).1 ≤ 100000
  room m vs i v well are below is =
      let few : count_all (pairs vs) ≤ 100000 = subst (λ (xs : List (List ℕ × Kind)). count_all xs ≤ 100000) (sym are) (cells_are_few m well) in
      let left : drop i vs ≡ v ∷ drop (suc i) vs = drop-cons vs i v below ∙ ap (λ (x : V). x ∷ drop (suc i) vs) (sym is) in
      let split : pairs vs ≡ pairs (take i vs) ++ pair v ∷ pairs (drop (suc i) vs) =
      ap pairs (sym (take-append-drop i vs) ∙ ap (λ (xs : List V). take i vs ++ xs) left) ∙ map-append pair (take i vs) (v ∷ drop (suc i) vs) in
      let parts = ap count_all split ∙ count_join (pairs (take i vs)) (pair v ∷ pairs (drop (suc i) vs)) in
      omega (arith, few, parts, count_more (pair v) (pairs (drop (suc i) vs)))

-- ---- the variable of a name

-- a name has a place among variables, so its cells begin at the start that has this place
record IsAtPlace (n : List ℕ) (xs : List (List ℕ × Kind)) (from i start : ℕ) : Type 0 where
  rest : ℕ
  is : i ≡ from + rest
  below : rest < length xs
  stretch : (d : List ℕ × Kind) (e : ℕ) → stretch_from start xs n ≡ Some (record { start = get_or (starts_from start xs) rest e; kind = (get_or xs rest d).1 })

turned_same : (n m : List ℕ) → bytes_eq n m ≡ true → bytes_eq m n ≡ true
turned_same n m same = subst (λ (z : List ℕ). bytes_eq m z ≡ true) (sym (same_name n m same)) (own_name m)

turned_other : (n m : List ℕ) → bytes_eq n m ≡ false → bytes_eq m n ≡ false
turned_other n m other = by_test (bytes_eq m n) (λ same. let wrong : true ≡ false = sym (turned_same m n same) ∙ other in absurd (cc wrong)) (λ no. no)

place_from : (n : List ℕ) (xs : List (List ℕ × Kind)) (from i start : ℕ) → position_from (bytes_eq n) from (map (λ x. x.0) xs) ≡ Some i → IsAtPlace n xs from i start
place_from n [] from i start h = absurd (cc h)
place_from n ((own, k) ∷ xs) from i start h =
    by_test (bytes_eq n own) here
    (λ other. there other (place_from n xs (from + 1) i (start + cells k) (ap (λ b. cond b (Some from) (position_from (bytes_eq n) (from + 1) (map (λ x. x.0) xs))) (sym other) ∙ h)))
  where
    here : bytes_eq n own ≡ true → IsAtPlace n ((own, k) ∷ xs) from i start
    here same =
        let first : Some from ≡ Some i = ap (λ b. cond b (Some from) (position_from (bytes_eq n) (from + 1) (map (λ x. x.0) xs))) (sym same) ∙ h in
        let place : from ≡ i = cc first in
        record { rest = 0; is = omega (arith, place); below = omega arith; stretch = λ d e. stretch_here start own k xs n (turned_same n own same) }

    there : bytes_eq n own ≡ false → IsAtPlace n xs (from + 1) i (start + cells k) → IsAtPlace n ((own, k) ∷ xs) from i start
    there other r = record {
      rest = suc r.rest;
      is = omega (arith, r.is);
      below = omega (arith, r.below);
      stretch = λ d e. stretch_further start own k xs n (turned_other n own other) ∙ r.stretch d e;
    }

nowhere_from : (n : List ℕ) (xs : List (List ℕ × Kind)) (from start : ℕ) → position_from (bytes_eq n) from (map (λ x. x.0) xs) ≡ None → stretch_from start xs n ≡ None
nowhere_from n [] from start h = refl
nowhere_from n ((own, k) ∷ xs) from start h =
    by_test (bytes_eq n own)
    (λ same. let wrong : Some from ≡ None = ap (λ b. cond b (Some from) (position_from (bytes_eq n) (from + 1) (map (λ x. x.0) xs))) (sym same) ∙ h in absurd (cc wrong))
    (λ other.
    stretch_further start own k xs n (turned_other n own other)
    ∙ nowhere_from n xs (from + 1) (start + cells k) (ap (λ b. cond b (Some from) (position_from (bytes_eq n) (from + 1) (map (λ x. x.0) xs))) (sym other) ∙ h))

-- the place of a name among the variables of a text
abbrev pub place_in_text : HllModel → List ℕ → Option ℕ
place_in_text m n = position (bytes_eq n) (map (λ x. x.0) (variables m))

in_text : (m : HllModel) (n : List ℕ) (i : ℕ) → place_in_text m n ≡ Some i → IsAtPlace n (variables m) 0 i 0
in_text m n i h = place_from n (variables m) 0 i 0 (sym (position_from-zero (bytes_eq n) (map (λ x. x.0) (variables m))) ∙ h)

pub place_below : (m : HllModel) (n : List ℕ) (i : ℕ) → place_in_text m n ≡ Some i → i < length (variables m)
place_below m n i h = let r = in_text m n i h in omega (arith, r.is, r.below)

pub nowhere_in_text : (m : HllModel) (n : List ℕ) → place_in_text m n ≡ None → None ≡ stretch_of (variables m) n
nowhere_in_text m n h = sym (nowhere_from n (variables m) 0 0 (sym (position_from-zero (bytes_eq n) (map (λ x. x.0) (variables m))) ∙ h))

pub length-starts : (start : ℕ) (xs : List (List ℕ × Kind)) → length (starts_from start xs) ≡ length xs
length-starts start [] = refl
length-starts start (x ∷ xs) = ap suc (length-starts (start + cells x.1) xs)

-- names and kinds of variables, by a place
at_pairs : {V : Type 0} (pair : V → List ℕ × Kind) (vs : List V) (i : ℕ) (v : V) → i < length vs → v ≡ get_or vs i v → get_or (map pair vs) i (pair v) ≡ pair v
at_pairs pair [] i v below is = absurd (omega arith)
at_pairs pair (x ∷ vs) zero v below is = ap pair (sym is)
at_pairs pair (x ∷ vs) (suc i) v below is = at_pairs pair vs i v (omega arith) is

pub variable_at : {V : Type 0} (pair : V → List ℕ × Kind) (m : HllModel) (vs : List V) (n : List ℕ) (i : ℕ) (v : V) (starts : List ℕ) (start : ℕ) → map pair vs ≡ variables m → starts ≡ starts_from 0 (variables m) → place_in_text m n ≡ Some i →
    v ≡ get_or vs i v → start ≡ get_or starts i start → Some (record { start = start; kind = (pair v).1 }) ≡ stretch_of (variables m) n
variable_at pair m vs n i v starts start are starts_are place is at =
    let r = in_text m n i place in
    let own : r.rest ≡ i = omega (arith, r.is) in
    let below : i < length vs = omega (arith, place_below m n i place, ap length are, length-map vs pair) in
    let kind : (get_or (variables m) r.rest (pair v)).1 ≡ (pair v).1 = (λ j. (get_or (sym are j) (own j) (pair v)).1) ∙ ap (λ (x : List ℕ × Kind). x.1) (at_pairs pair vs i v below is) in
    let from : get_or (starts_from 0 (variables m)) r.rest start ≡ start = (λ j. get_or (sym starts_are j) (own j) start) ∙ sym at in
    sym (r.stretch (pair v) start ∙ (λ j. Some (record { start = from j; kind = kind j })))
