-- The marks of the nodes of a search.
use Rattle.std.proofs.Common.{◌≡◌, ◌+◌, ◌-◌, ◌<◌, ◌≤◌, ◌++◌, ◌∷◌, [], ◌⊎◌, ℕ, List, length, get_or, set, take, drop, inl, inr, refl, sym, ap, subst, ◌∙◌, length-append, arith}
use Rattle.std.specs.Prelude.{◌≢◌, AllPairs, Contains}
use Rattle.std.proofs.lemmas.Bool.{cases_lt, cases_eq}
use Rattle.std.proofs.lemmas.List.{length_push, length-take-le, length-drop, length-set, get_or-take, get_or-drop, get_or_append_left, get_or-append_right, get_or_push, get_or_default, get_or_past, get_or-set_same, get_or-set_other}
use Rattle.std.proofs.lemmas.List.Elements.{Contains-push, Contains-push_cases, Contains-append_left, Contains-append_right, Contains-append_cases, Contains-get_or}
use Rattle.graphs.specs.Searches.{place, IsPlaced, AreFinished}
use Rattle.graphs.specs.declared.search.Place.{Place}
use Rattle.graphs.specs.declared.search.Place.TheVariants.{Unseen, OnPath, Finished}
use Rattle.graphs.proofs.Lists.{no_member, member_at, place_of, member_or_not}

-- only nodes are marked
pub marked_node : (places : List Place) (v : ℕ) → place places v ≢ Unseen → v < length places
marked_node places v marked = elim (cases_lt v (length places)) [ inl low ↦ low | inr past ↦ absurd (marked (get_or_past places v Unseen past)) ]

-- different lists of different numbers, one after the other
pub distinct_append : (xs ys : List ℕ) → AllPairs (λ a b. a ≢ b) xs → AllPairs (λ a b. a ≢ b) ys → ((x : ℕ) → Contains xs x → ¬ (Contains ys x)) → AllPairs (λ a b. a ≢ b) (xs ++ ys)
distinct_append xs ys first later apart i j d before within same = cases (cases_lt i (length xs)) (cases_lt j (length xs))
  where
    size : length (xs ++ ys) ≡ length xs + length ys
    size = length-append xs ys

    cases : (i < length xs) ⊎ (length xs ≤ i) → (j < length xs) ⊎ (length xs ≤ j) → ⊥
    cases (inl one) (inl other) = first i j d before other (sym (get_or_append_left xs ys d i one) ∙ same ∙ get_or_append_left xs ys d j other)
    cases (inl one) (inr other) =
        apart (get_or xs i d) (Contains-get_or xs i d one)
        (subst (Contains ys) (sym (get_or-append_right xs ys (length xs) j d refl other) ∙ sym same ∙ get_or_append_left xs ys d i one) (Contains-get_or ys (j - length xs) d (omega (arith, within, other, size))))
    cases (inr one) (inl other) = omega (arith, before, one, other)
    cases (inr one) (inr other) =
        later (i - length xs) (j - length xs) d (omega (arith, before, one, other)) (omega (arith, within, other, size))
        (sym (get_or-append_right xs ys (length xs) i d refl one) ∙ same ∙ get_or-append_right xs ys (length xs) j d refl other)

-- no node is marked
pub placed_none : (places : List Place) → ((v : ℕ) → place places v ≡ Unseen) → IsPlaced places [] []
placed_none places unseen = record {
  path_at = λ i within. absurd (omega (arith, within));
  on_path = λ v p on. absurd (unseen_or v on);
  finished = λ v done. absurd (unseen_not v done);
  order_at = λ v there. absurd (no_member v there);
  once = λ i j d before within. absurd (omega (arith, within));
}
  where
    unseen_or : (v : ℕ) {p : ℕ} → place places v ≡ OnPath p → ⊥
    unseen_or v on = let is = unseen v in cc

    unseen_not : (v : ℕ) → place places v ≡ Finished → ⊥
    unseen_not v done = let is = unseen v in cc

-- a node that wasn't seen comes to the end of the path
pub placed_enter : (places : List Place) (path order : List ℕ) (v : ℕ) → IsPlaced places path order → v < length places → place places v ≡ Unseen → IsPlaced (set places v (OnPath (length path))) (path ++ v ∷ []) order
placed_enter places path order v s low unseen = record {
  path_at = λ i within. path_at i within (cases_lt i (length path));
  on_path = λ w p on. on_path w p on (cases_eq w v);
  finished = λ w done. finished w done (cases_eq w v);
  order_at = λ w there. (let old = s.order_at w there in other w (λ same. unseen_not (subst (λ (x : ℕ). place places x ≡ Finished) same old)) ∙ old);
  once = s.once;
}
  where
    here : place (set places v (OnPath (length path))) v ≡ OnPath (length path)
    here = get_or-set_same places v (OnPath (length path)) Unseen low

    other : (w : ℕ) → w ≢ v → place (set places v (OnPath (length path))) w ≡ place places w
    other w differ = get_or-set_other places v w (OnPath (length path)) Unseen differ

    unseen_not : place places v ≡ Finished → ⊥
    unseen_not done = cc

    not_on_path : (i : ℕ) → place places v ≡ OnPath i → ⊥
    not_on_path i on = cc

    path_at : (i : ℕ) → i < length (path ++ v ∷ []) → (i < length path) ⊎ (length path ≤ i) → place (set places v (OnPath (length path))) (get_or (path ++ v ∷ []) i 0) ≡ OnPath i
    path_at i within (inl inside) =
        let old = s.path_at i inside in
        ap (place (set places v (OnPath (length path)))) (get_or_append_left path (v ∷ []) 0 i inside)
        ∙ other (get_or path i 0) (λ same. not_on_path i (subst (λ (x : ℕ). place places x ≡ OnPath i) same old)) ∙ old
    path_at i within (inr past) =
        let is : i ≡ length path = omega (arith, within, past, length_push path v) in
        ap (place (set places v (OnPath (length path)))) (get_or_push path v 0 i (sym is)) ∙ here ∙ ap OnPath (sym is)

    on_path : (w p : ℕ) → place (set places v (OnPath (length path))) w ≡ OnPath p → (w ≡ v) ⊎ (w ≢ v) → (p < length (path ++ v ∷ [])) × (get_or (path ++ v ∷ []) p 0 ≡ w)
    on_path w p on (inl same) =
        let at : length path ≡ p = same_number (sym here ∙ ap (place (set places v (OnPath (length path)))) (sym same) ∙ on) in
        (omega (arith, at, length_push path v), get_or_push path v 0 p at ∙ sym same)
      where
        same_number : OnPath (length path) ≡ OnPath p → length path ≡ p
        same_number e = cc
    on_path w p on (inr differ) =
        let old = s.on_path w p (sym (other w differ) ∙ on) in
        (omega (arith, old.0, length_push path v), get_or_append_left path (v ∷ []) 0 p old.0 ∙ old.1)

    finished : (w : ℕ) → place (set places v (OnPath (length path))) w ≡ Finished → (w ≡ v) ⊎ (w ≢ v) → Contains order w
    finished w done (inl same) = absurd (clash (sym here ∙ ap (place (set places v (OnPath (length path)))) (sym same) ∙ done))
      where
        clash : OnPath (length path) ≡ Finished → ⊥
        clash e = cc
    finished w done (inr differ) = s.finished w (sym (other w differ) ∙ done)

-- what was seen stays so
pub seen_enter : (places : List Place) (v p w : ℕ) → v < length places → place places w ≢ Unseen → place (set places v (OnPath p)) w ≢ Unseen
seen_enter places v p w low seen is = elim (cases_eq w v) [
  | inl same ↦ clash (sym (get_or-set_same places v (OnPath p) Unseen low) ∙ ap (place (set places v (OnPath p))) (sym same) ∙ is)
  | inr differ ↦ seen (sym (get_or-set_other places v w (OnPath p) Unseen differ) ∙ is)
]
  where
    clash : OnPath p ≡ Unseen → ⊥
    clash e = cc

-- the last nodes of the path are finished
pub placed_leave : (places new : List Place) (path order : List ℕ) (from : ℕ) → IsPlaced places path order → from ≤ length path → AreFinished places new (drop from path) → IsPlaced new (take from path) (order ++ drop from path)
placed_leave places new path order from s low are = record {
  path_at = λ i within. path_at i (subst (λ (k : ℕ). i < k) (length-take-le from path low) within);
  on_path = λ w p on. on_path w p on (member_or_not (drop from path) w);
  finished = λ w done. finished w done (member_or_not (drop from path) w);
  order_at = λ w there. order_at w (Contains-append_cases order (drop from path) w there) (member_or_not (drop from path) w);
  once = distinct_append order (drop from path) s.once once_left (λ w there left. (let at = late w left in clash w at.0 (s.order_at w there) at.2));
}
  where
    clash : (w i : ℕ) → place places w ≡ Finished → place places w ≡ OnPath i → ⊥
    clash w i done on = cc

    -- a node that is left stood at a late place
    late : (w : ℕ) → Contains (drop from path) w → (i : ℕ) × (from ≤ i) × (place places w ≡ OnPath i)
    late w left =
        let at = place_of (drop from path) w left in
        let within : from + at.0 < length path = (let inside : at.0 < length (drop from path) = at.1 in omega (arith, inside, length-drop from path)) in
        (from + at.0, omega arith, ap (place places) (sym (sym (get_or-drop from path at.0 0) ∙ at.2)) ∙ s.path_at (from + at.0) within)

    same_number : {x : Place} {i j : ℕ} → x ≡ OnPath i → x ≡ OnPath j → i ≡ j
    same_number one other = cc

    path_at : (i : ℕ) → i < from → place new (get_or (take from path) i 0) ≡ OnPath i
    path_at i before =
        let old = s.path_at i (omega (arith, before, low)) in
        ap (place new) (get_or-take from path i 0 before)
        ∙ are.others (get_or path i 0) (λ left. (let at = late (get_or path i 0) left in let same : at.0 ≡ i = same_number at.2 old in let past : from ≤ at.0 = at.1 in omega (arith, same, before, past)))
        ∙ old

    on_path : (w p : ℕ) → place new w ≡ OnPath p → Contains (drop from path) w ⊎ (¬ (Contains (drop from path) w)) → (p < length (take from path)) × (get_or (take from path) p 0 ≡ w)
    on_path w p on (inl left) = absurd (clash' (are.finished w left) on)
      where
        clash' : place new w ≡ Finished → place new w ≡ OnPath p → ⊥
        clash' done on = cc
    on_path w p on (inr out) =
        let old = s.on_path w p (sym (are.others w out) ∙ on) in
        let before = early p old.0 old.1 (cases_lt p from) in
        (subst (λ (k : ℕ). p < k) (sym (length-take-le from path low)) before, get_or-take from path p 0 before ∙ old.1)
      where
        early : (p : ℕ) → p < length path → get_or path p 0 ≡ w → (p < from) ⊎ (from ≤ p) → p < from
        early p within is (inl before) = before
        early p within is (inr past) =
            let back : from + (p - from) ≡ p = omega (arith, past) in
            absurd (out (member_at (drop from path) (p - from) w (omega (arith, within, past, length-drop from path)) (get_or-drop from path (p - from) 0 ∙ ap (λ (k : ℕ). get_or path k 0) back ∙ is)))

    finished : (w : ℕ) → place new w ≡ Finished → Contains (drop from path) w ⊎ (¬ (Contains (drop from path) w)) → Contains (order ++ drop from path) w
    finished w done (inl left) = Contains-append_right order (drop from path) w left
    finished w done (inr out) = Contains-append_left order (drop from path) w (s.finished w (sym (are.others w out) ∙ done))

    order_at : (w : ℕ) → Contains order w ⊎ Contains (drop from path) w → Contains (drop from path) w ⊎ (¬ (Contains (drop from path) w)) → place new w ≡ Finished
    order_at w there (inl left) = are.finished w left
    order_at w (inl there) (inr out) = are.others w out ∙ s.order_at w there
    order_at w (inr left) (inr out) = absurd (out left)

    once_left : AllPairs (λ a b. a ≢ b) (drop from path)
    once_left i j d before within same =
        let size = length-drop from path in
        let one : from + i < length path = omega (arith, before, within, size) in
        let other : from + j < length path = omega (arith, within, size) in
        let at_i : get_or (drop from path) i d ≡ get_or path (from + i) 0 = get_or-drop from path i d ∙ get_or_default path (from + i) d 0 one in
        let at_j : get_or (drop from path) j d ≡ get_or path (from + j) 0 = get_or-drop from path j d ∙ get_or_default path (from + j) d 0 other in
        let is : from + i ≡ from + j = same_number (s.path_at (from + i) one) (ap (place places) (sym at_i ∙ same ∙ at_j) ∙ s.path_at (from + j) other) in
        omega (arith, is, before)

-- what was seen stays so
pub seen_leave : (places new : List Place) (nodes : List ℕ) (w : ℕ) → AreFinished places new nodes → place places w ≢ Unseen → place new w ≢ Unseen
seen_leave places new nodes w are seen is = elim (member_or_not nodes w) [
  | inl there ↦ clash (are.finished w there) is
  | inr out ↦ seen (sym (are.others w out) ∙ is)
]
  where
    clash : place new w ≡ Finished → place new w ≡ Unseen → ⊥
    clash done unseen = cc

-- no node is marked yet
pub finished_none : (places : List Place) → AreFinished places places []
finished_none places = record { size = refl; finished = λ v there. absurd (no_member v there); others = λ v out. refl }

-- one node more is marked as finished
pub finished_more : (old mid : List Place) (nodes : List ℕ) (v : ℕ) → AreFinished old mid nodes → v < length mid → AreFinished old (set mid v Finished) (nodes ++ v ∷ [])
finished_more old mid nodes v are low = record {
  size = length-set mid v Finished ∙ are.size;
  finished = λ w there. finished w (Contains-push_cases nodes v w there) (cases_eq w v);
  others = λ w out. get_or-set_other mid v w Finished Unseen (λ same. out (subst (Contains (nodes ++ v ∷ [])) (sym same) (Contains-push nodes v))) ∙ are.others w (λ there. out (Contains-append_left nodes (v ∷ []) w there));
}
  where
    finished : (w : ℕ) → Contains nodes w ⊎ (v ≡ w) → (w ≡ v) ⊎ (w ≢ v) → place (set mid v Finished) w ≡ Finished
    finished w there (inl same) = ap (place (set mid v Finished)) same ∙ get_or-set_same mid v Finished Unseen low
    finished w (inl there) (inr differ) = get_or-set_other mid v w Finished Unseen differ ∙ are.finished w there
    finished w (inr same) (inr differ) = absurd (differ (sym same))

-- what is read at a node is where it is
pub place_read : (places : List Place) (v : ℕ) (x : Place) → v < length places → x ≡ get_or places v x → place places v ≡ x
place_read places v x low read = get_or_default places v Unseen x low ∙ sym read
