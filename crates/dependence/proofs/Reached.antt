-- What a path reaches in a value: where it may begin, and the numbers there.
use Rattle.std.proofs.Common.{◌≡◌, ℕ, zero, suc, ◌+◌, ◌*◌, ◌<◌, ◌≤◌, ℤ, pos, negsuc, true, false, List, [], ◌∷◌, ◌++◌, map, fold, length, take, drop, Option, Some, None, refl, sym, ap, subst, ◌∙◌, arith}
use Rattle.std.specs.List.{AllByRecursion, Contains, flat_map, range_with_len}
use Rattle.std.specs.Str.{bytes_eq}
use Rattle.std.proofs.lemmas.List.{length-append}
use Rattle.hll_tree.proofs.Gives.{all_append}
use Rattle.hll_meaning.specs.Kinds.{Kind, truth, whole, element, array, struct, Fields, none as no_fields, field, Value, Typed, Step, index, name, cells, field_ranges, ranges, cells_from, place_in, step_into, steps_into, field_of}
use Rattle.hll_meaning.specs.Judging.{Context, Fault, Reached as Said, by_index, by_name, field_at, found_field, one_step}
use Rattle.hll_meaning.specs.Soundness.{IsFineKind, AreFineFields}
use Rattle.hll_meaning.proofs.Faultless.{second_empty}
use Rattle.hll_meaning.proofs.Paths.{AreSteps, steps_before, no_step}
use Rattle.hll_meaning.proofs.Scenes.{by_test}
use Rattle.dependence.specs.Mentions.{Pick, one, every, named, reached, reached_field}
use Rattle.dependence.proofs.Members.{in_front, in_map, in_flat, in_range}
use Rattle.dependence.proofs.Numbers.{number_of, in_part, within_take, after_drop, element_within}

-- ---- picks

-- a pick goes the way of a step
abbrev pub IsPickOf : Pick → Step → Type 0
IsPickOf (one i) (index x) = i ≡ x
IsPickOf (one i) (name n) = ⊥
IsPickOf every (index x) = Unit {0}
IsPickOf every (name n) = ⊥
IsPickOf (named m) (index x) = ⊥
IsPickOf (named m) (name n) = m ≡ n

abbrev pub ArePicksOf : List Pick → List Step → Type 0
ArePicksOf [] [] = Unit {0}
ArePicksOf [] (s ∷ ss) = ⊥
ArePicksOf (p ∷ ps) [] = ⊥
ArePicksOf (p ∷ ps) (s ∷ ss) = IsPickOf p s × ArePicksOf ps ss

nowhere : (f : Fault) (fs : List Fault) → fs ++ (f ∷ []) ≡ [] → ⊥
nowhere f fs h = let e : f ∷ [] ≡ [] = second_empty fs (f ∷ []) h in cc e

reached_here : (k : Kind) → reached k [] ≡ 0 ∷ []
reached_here truth = refl
reached_here (whole e) = refl
reached_here (element root e) = refl
reached_here (array n k) = refl
reached_here (struct own fields) = refl

place_below : (n : ℕ) (i : ℤ) → 1 ≤ n → place_in n i < n
place_below n (pos i) h = grind arith
place_below n (negsuc i) h = h

-- ---- fields

-- a field of a name: its first cell, and its numbers
pub record IsFieldAt (fields : Fields) (sought : List ℕ) (k : Kind) : Type 0 where
  pub start : ℕ
  pub fine : IsFineKind k
  pub within : start + cells k ≤ length (field_ranges fields)
  pub value : Value → Value
  pub found : (v : Value) → field_of fields sought v ≡ Some (record { kind = k; value = value v })
  pub numbers : (v : Value) (i : ℕ) → i < cells k → number_of (value v) i ≡ number_of v (start + i)
  pub reaches : (ps : List Pick) → reached_field fields sought ps ≡ map (λ at. start + at) (reached k ps)

same_numbers : (xs : List ℕ) → xs ≡ map (λ at. 0 + at) xs
same_numbers [] = refl
same_numbers (x ∷ xs) =
    let here : x ≡ 0 + x = omega arith in
    let rest = same_numbers xs in
    λ i. here i ∷ rest i

further_numbers : (a b : ℕ) (xs : List ℕ) → map (λ at. a + at) (map (λ at. b + at) xs) ≡ map (λ at. (a + b) + at) xs
further_numbers a b [] = refl
further_numbers a b (x ∷ xs) =
    let here : a + (b + x) ≡ (a + b) + x = omega arith in
    let rest = further_numbers a b xs in
    λ i. here i ∷ rest i

field_here : (own : List ℕ) (k : Kind) (fields : Fields) (sought : List ℕ) → bytes_eq own sought ≡ true → IsFineKind k → IsFieldAt (field own k fields) sought k
field_here own k fields sought same fine = record {
  start = 0;
  fine = fine;
  within = subst (λ (n : ℕ). 0 + cells k ≤ n) (sym (length-append (ranges k) (field_ranges fields))) (omega arith);
  value = λ v. take (cells k) v;
  found = λ v. rw same refl;
  numbers = λ v i below. within_take (cells k) v i below ∙ ap (number_of v) (nothing i);
  reaches = λ ps. by ps ∙ same_numbers (reached k ps);
}
  where
    nothing : (i : ℕ) → i ≡ 0 + i
    nothing i = omega arith

    by : (ps : List Pick) → reached_field (field own k fields) sought ps ≡ reached k ps
    by ps = rw same refl

field_further : (own : List ℕ) (l : Kind) (fields : Fields) (sought : List ℕ) (k : Kind) → bytes_eq own sought ≡ false → IsFieldAt fields sought k → IsFieldAt (field own l fields) sought k
field_further own l fields sought k other h = record {
  start = cells l + h.start;
  fine = h.fine;
  within = subst (λ (n : ℕ). (cells l + h.start) + cells k ≤ n) (sym (length-append (ranges l) (field_ranges fields))) (omega (arith, h.within));
  value = λ v. h.value (drop (cells l) v);
  found = λ v. skipped v ∙ h.found (drop (cells l) v);
  numbers = λ v i below. h.numbers (drop (cells l) v) i below ∙ after_drop (cells l) v (h.start + i) ((cells l + h.start) + i) (regrouped (cells l) h.start i);
  reaches = λ ps. passed ps ∙ ap (map (λ at. cells l + at)) (h.reaches ps) ∙ further_numbers (cells l) h.start (reached k ps);
}
  where
    regrouped : (a b i : ℕ) → (a + b) + i ≡ a + (b + i)
    regrouped a b i = omega arith

    skipped : (v : Value) → field_of (field own l fields) sought v ≡ field_of fields sought (drop (cells l) v)
    skipped v = rw other refl

    passed : (ps : List Pick) → reached_field (field own l fields) sought ps ≡ map (λ at. cells l + at) (reached_field fields sought ps)
    passed ps = rw other refl

pub a_field : (fields : Fields) (sought : List ℕ) (k : Kind) → AreFineFields fields → field_at fields sought ≡ Some k → IsFieldAt fields sought k
a_field no_fields sought k fine is = absurd (cc is)
a_field (field own l fields) sought k fine is =
    by_test (bytes_eq own sought)
    (λ same. let e : Some l ≡ Some k = sym (here same) ∙ is in let f : l ≡ k = cc e in subst (IsFieldAt (field own l fields) sought) f (field_here own l fields sought same fine.0))
    (λ other. field_further own l fields sought k other (a_field fields sought k fine.1 (sym (further other) ∙ is)))
  where
    here : bytes_eq own sought ≡ true → field_at (field own l fields) sought ≡ Some l
    here same = rw same refl

    further : bytes_eq own sought ≡ false → field_at (field own l fields) sought ≡ field_at fields sought
    further other = rw other refl

-- ---- steps into a value

-- steps into values of a kind reach one of the places that the picks reach, and there a value of a kind
pub record IsReached (k : Kind) (ps : List Pick) (ss : List Step) (to : Kind) : Type 0 where
  pub at : ℕ
  pub is_one : Contains (reached k ps) at
  pub within : at + cells to ≤ cells k
  pub value : Value → Value
  pub found : (v : Value) → steps_into (Some (record { kind = k; value = v })) ss ≡ Some (record { kind = to; value = value v })
  pub numbers : (v : Value) (i : ℕ) → i < cells to → number_of (value v) i ≡ number_of v (at + i)

-- a part of a value, with what is reached in it
through_part : (k l to : Kind) (p : Pick) (ps : List Pick) (s : Step) (ss : List Step) (part : Value → Value) (start : ℕ) → ((v : Value) → step_into k v s ≡ Some (record { kind = l; value = part v })) →
    ((v : Value) (i : ℕ) → i < cells l → number_of (part v) i ≡ number_of v (start + i)) → ((at : ℕ) → at + cells to ≤ cells l → start + at + cells to ≤ cells k) →
    ((at : ℕ) → Contains (reached l ps) at → Contains (reached k (p ∷ ps)) (start + at)) → IsReached l ps ss to → IsReached k (p ∷ ps) (s ∷ ss) to
through_part k l to p ps s ss part start step numbers ends among h = record {
  at = start + h.at;
  is_one = among h.at h.is_one;
  within = ends h.at h.within;
  value = λ v. h.value (part v);
  found = λ v. ap (λ (t : Option Typed). steps_into t ss) (step v) ∙ h.found (part v);
  numbers = λ v i below. h.numbers (part v) i below ∙ numbers v (h.at + i) (inside i below) ∙ ap (number_of v) (regrouped start h.at i);
}
  where
    inside : (i : ℕ) → i < cells to → h.at + i < cells l
    inside i below = omega (arith, h.within)

    regrouped : (a b i : ℕ) → a + (b + i) ≡ (a + b) + i
    regrouped a b i = omega arith

element_ends : (n : ℕ) (l to : Kind) (p at : ℕ) → p < n → at + cells to ≤ cells l → (p * cells l + at) + cells to ≤ cells (array n l)
element_ends n l to p at below ends = subst (λ (e : ℕ). e ≤ cells (array n l)) (regrouped (p * cells l) at (cells to)) (element_within n p l (at + cells to) below ends)
  where
    regrouped : (a b e : ℕ) → a + (b + e) ≡ (a + b) + e
    regrouped a b e = omega arith

field_ends : (start at to l all : ℕ) → at + to ≤ l → start + l ≤ all → start + at + to ≤ all
field_ends start at to l all ends within = omega arith

-- ---- all places that picks reach

-- a pick that goes the way of what is said of a step
abbrev pub IsPickFor : Pick → Said → Type 0
IsPickFor (one i) (by_index e) = Unit {0}
IsPickFor (one i) (by_name m place) = ⊥
IsPickFor every (by_index e) = Unit {0}
IsPickFor every (by_name m place) = ⊥
IsPickFor (named n) (by_index e) = ⊥
IsPickFor (named n) (by_name m place) = n ≡ m

abbrev pub ArePicksFor : List Pick → List Said → Type 0
ArePicksFor [] [] = Unit {0}
ArePicksFor [] (r ∷ rs) = ⊥
ArePicksFor (p ∷ ps) [] = ⊥
ArePicksFor (p ∷ ps) (r ∷ rs) = IsPickFor p r × ArePicksFor ps rs

-- a value of a kind that begins at a place ends within one of another
abbrev pub EndsWithin : Kind → Kind → ℕ → Type 0
EndsWithin k to at = at + cells to ≤ cells k

-- so it does in a part
moved : (k l to : Kind) (start : ℕ) (xs : List ℕ) → ((at : ℕ) → EndsWithin l to at → EndsWithin k to (start + at)) → AllByRecursion (EndsWithin l to) xs → AllByRecursion (EndsWithin k to) (map (λ at. start + at) xs)
moved k l to start [] ends all = tt
moved k l to start (x ∷ xs) ends all = (ends x all.0, moved k l to start xs ends all.1)

each_element : (n : ℕ) (l to : Kind) (xs : List ℕ) → AllByRecursion (EndsWithin l to) xs → (a count : ℕ) → a + count ≤ n →
    AllByRecursion (EndsWithin (array n l) to) (flat_map (λ place. map (λ at. place * cells l + at) xs) (range_with_len a count))
each_element n l to xs all a zero below = tt
each_element n l to xs all a (suc count) below =
    all_append (EndsWithin (array n l) to) (map (λ at. a * cells l + at) xs) (flat_map (λ place. map (λ at. place * cells l + at) xs) (range_with_len (a + 1) count))
    (moved (array n l) l to (a * cells l) xs (λ at ends. element_ends n l to a at (omega arith) ends) all)
    (each_element n l to xs all (a + 1) count (omega arith))

module _ (c : Context) (at : ℕ) where
  -- an element of an array
  element_reached : (n : ℕ) (l to : Kind) (p : Pick) (ps : List Pick) (x : ℤ) (ss : List Step) → 1 ≤ n → IsPickOf p (index x) → IsReached l ps ss to → IsReached (array n l) (p ∷ ps) (index x ∷ ss) to
  element_reached n l to p ps x ss some is h =
      through_part (array n l) l to p ps (index x) ss (cells_from (place_in n x * cells l) (cells l)) (place_in n x * cells l) (λ v. refl)
      (λ v i below. in_part (place_in n x * cells l) (cells l) v i (place_in n x * cells l + i) below refl)
      (λ a below. element_ends n l to (place_in n x) a (place_below n x some) below)
      (λ a one_of. among p is a one_of) h
    where
      nothing : (i : ℕ) → 0 + i ≡ i
      nothing i = omega arith

      among : (p : Pick) → IsPickOf p (index x) → (a : ℕ) → Contains (reached l ps) a → Contains (reached (array n l) (p ∷ ps)) (place_in n x * cells l + a)
      among (one i) is a h = subst (λ (j : ℤ). Contains (map (λ at. place_in n j * cells l + at) (reached l ps)) (place_in n x * cells l + a)) (sym is) (in_map (λ at. place_in n x * cells l + at) (reached l ps) a h)
      among every is a h = in_flat (λ place. map (λ at. place * cells l + at) (reached l ps)) (range_with_len 0 n) (place_in n x) (place_in n x * cells l + a) (subst (Contains (range_with_len 0 n)) (nothing (place_in n x)) (in_range 0 n (place_in n x) (place_below n x some))) (in_map (λ at. place_in n x * cells l + at) (reached l ps) a h)
      among (named m) is a h = absurd is

  -- a field of a struct
  field_reached : (own : List ℕ) (fields : Fields) (l to : Kind) (p : Pick) (ps : List Pick) (n : List ℕ) (ss : List Step) → IsPickOf p (name n) → (f : IsFieldAt fields n l) → IsReached l ps ss to → IsReached (struct own fields) (p ∷ ps) (name n ∷ ss) to
  field_reached own fields l to p ps n ss is f h =
      through_part (struct own fields) l to p ps (name n) ss f.value f.start f.found f.numbers (λ a below. ends a below) (λ a one_of. among p is a one_of) h
    where
      ends : (a : ℕ) → a + cells to ≤ cells l → f.start + a + cells to ≤ length (field_ranges fields)
      ends a below = omega (arith, f.within)

      among : (p : Pick) → IsPickOf p (name n) → (a : ℕ) → Contains (reached l ps) a → Contains (reached (struct own fields) (p ∷ ps)) (f.start + a)
      among (one i) is a h = absurd is
      among every is a h = absurd is
      among (named m) is a h = subst (λ (w : List ℕ). Contains (reached_field fields w ps) (f.start + a)) (sym is) (subst (λ (xs : List ℕ). Contains xs (f.start + a)) (sym (f.reaches ps)) (in_map (λ at. f.start + at) (reached l ps) a h))

  pub steps_reach : (rs : List Said) (ss : List Step) (ps : List Pick) (k : Kind) (fs : List Fault) → AreSteps rs ss → ArePicksOf ps ss → IsFineKind k →
      (fold (one_step c at) (record { kind = k; faults = fs }) rs).faults ≡ [] → IsReached k ps ss (fold (one_step c at) (record { kind = k; faults = fs }) rs).kind
  steps_reach [] [] [] k fs are is fine none = record {
    at = 0;
    is_one = subst (λ (xs : List ℕ). Contains xs 0) (sym (reached_here k)) (in_front 0 []);
    within = omega arith;
    value = λ v. v;
    found = λ v. refl;
    numbers = λ v i below. ap (number_of v) (nothing i);
  }
    where
      nothing : (i : ℕ) → i ≡ 0 + i
      nothing i = omega arith
  steps_reach [] [] (p ∷ ps) k fs are is fine none = absurd is
  steps_reach [] (s ∷ ss) ps k fs are is fine none = absurd are
  steps_reach (r ∷ rs) [] ps k fs are is fine none = absurd are
  steps_reach (r ∷ rs) (s ∷ ss) [] k fs are is fine none = absurd is
  steps_reach (r ∷ rs) (s ∷ ss) (p ∷ ps) truth fs are is fine none = absurd (no_step c at truth fs r refl (steps_before c at rs _ none))
  steps_reach (r ∷ rs) (s ∷ ss) (p ∷ ps) (whole e) fs are is fine none = absurd (no_step c at (whole e) fs r refl (steps_before c at rs _ none))
  steps_reach (r ∷ rs) (s ∷ ss) (p ∷ ps) (element root e) fs are is fine none = absurd (no_step c at (element root e) fs r refl (steps_before c at rs _ none))
  steps_reach (by_index i ∷ rs) (index x ∷ ss) (p ∷ ps) (array n l) fs are is fine none =
      element_reached n l _ p ps x ss fine.0 is.0 (steps_reach rs ss ps l _ are.1 is.1 fine.1 none)
  steps_reach (by_index i ∷ rs) (name m ∷ ss) (p ∷ ps) (array n l) fs are is fine none = absurd are.0
  steps_reach (by_name sought place ∷ rs) (s ∷ ss) (p ∷ ps) (array n l) fs are is fine none = absurd (nowhere _ fs (steps_before c at rs _ none))
  steps_reach (by_index i ∷ rs) (s ∷ ss) (p ∷ ps) (struct own fields) fs are is fine none = absurd (nowhere _ (fs ++ (i c).faults) (steps_before c at rs _ none))
  steps_reach (by_name sought place ∷ rs) (index x ∷ ss) (p ∷ ps) (struct own fields) fs are is fine none = absurd are.0
  steps_reach (by_name sought place ∷ rs) (name m ∷ ss) (p ∷ ps) (struct own fields) fs are is fine none =
      by_found (λ l fine' none'. steps_reach rs ss ps l fs are.1 is.1 fine' none') (field_at fields sought) refl none
    where
      by_found : ((l : Kind) → IsFineKind l → (fold (one_step c at) (record { kind = l; faults = fs }) rs).faults ≡ [] → IsReached l ps ss (fold (one_step c at) (record { kind = l; faults = fs }) rs).kind) →
          (o : Option Kind) → field_at fields sought ≡ o → (fold (one_step c at) (found_field fs place o) rs).faults ≡ [] → IsReached (struct own fields) (p ∷ ps) (name m ∷ ss) (fold (one_step c at) (found_field fs place o) rs).kind
      by_found rest None is_none h = absurd (nowhere _ fs (steps_before c at rs _ h))
      by_found rest (Some l) is_some h =
          let f = a_field fields m l fine (ap (λ (w : List ℕ). field_at fields w) (sym are.0) ∙ is_some) in
          field_reached own fields l _ p ps m ss is.0 f (rest l f.fine h)

  pub picks_reach : (rs : List Said) (ps : List Pick) (k : Kind) (fs : List Fault) → ArePicksFor ps rs → IsFineKind k →
      (fold (one_step c at) (record { kind = k; faults = fs }) rs).faults ≡ [] → AllByRecursion (EndsWithin k (fold (one_step c at) (record { kind = k; faults = fs }) rs).kind) (reached k ps)
  picks_reach [] [] k fs is fine none = subst (AllByRecursion (EndsWithin k k)) (sym (reached_here k)) (itself, tt)
    where
      itself : 0 + cells k ≤ cells k
      itself = omega arith
  picks_reach [] (p ∷ ps) k fs is fine none = absurd is
  picks_reach (r ∷ rs) [] k fs is fine none = absurd is
  picks_reach (r ∷ rs) (p ∷ ps) truth fs is fine none = absurd (no_step c at truth fs r refl (steps_before c at rs _ none))
  picks_reach (r ∷ rs) (p ∷ ps) (whole e) fs is fine none = absurd (no_step c at (whole e) fs r refl (steps_before c at rs _ none))
  picks_reach (r ∷ rs) (p ∷ ps) (element root e) fs is fine none = absurd (no_step c at (element root e) fs r refl (steps_before c at rs _ none))
  picks_reach (by_index e ∷ rs) (one i ∷ ps) (array n l) fs is fine none =
      moved (array n l) l ((fold (one_step c at) (record { kind = array n l; faults = fs }) (by_index e ∷ rs)).kind) (place_in n i * cells l) (reached l ps) (λ a ends. element_ends n l ((fold (one_step c at) (record { kind = array n l; faults = fs }) (by_index e ∷ rs)).kind) (place_in n i) a (place_below n i fine.0) ends) (picks_reach rs ps l _ is.1 fine.1 none)
  picks_reach (by_index e ∷ rs) (every ∷ ps) (array n l) fs is fine none = each_element n l ((fold (one_step c at) (record { kind = array n l; faults = fs }) (by_index e ∷ rs)).kind) (reached l ps) (picks_reach rs ps l _ is.1 fine.1 none) 0 n (omega arith)
  picks_reach (by_index e ∷ rs) (named m ∷ ps) (array n l) fs is fine none = absurd is.0
  picks_reach (by_name sought place ∷ rs) (p ∷ ps) (array n l) fs is fine none = absurd (nowhere _ fs (steps_before c at rs _ none))
  picks_reach (by_index e ∷ rs) (p ∷ ps) (struct own fields) fs is fine none = absurd (nowhere _ (fs ++ (e c).faults) (steps_before c at rs _ none))
  picks_reach (by_name sought place ∷ rs) (one i ∷ ps) (struct own fields) fs is fine none = absurd is.0
  picks_reach (by_name sought place ∷ rs) (every ∷ ps) (struct own fields) fs is fine none = absurd is.0
  picks_reach (by_name sought place ∷ rs) (named m ∷ ps) (struct own fields) fs is fine none =
      by_found (λ l fine' none'. picks_reach rs ps l fs is.1 fine' none') (field_at fields sought) refl none
    where
      by_found : ((l : Kind) → IsFineKind l → (fold (one_step c at) (record { kind = l; faults = fs }) rs).faults ≡ [] → AllByRecursion (EndsWithin l (fold (one_step c at) (record { kind = l; faults = fs }) rs).kind) (reached l ps)) →
          (o : Option Kind) → field_at fields sought ≡ o → (fold (one_step c at) (found_field fs place o) rs).faults ≡ [] → AllByRecursion (EndsWithin (struct own fields) (fold (one_step c at) (found_field fs place o) rs).kind) (reached_field fields m ps)
      by_found rest None is_none h = absurd (nowhere _ fs (steps_before c at rs _ h))
      by_found rest (Some l) is_some h =
          let f = a_field fields m l fine (ap (λ (w : List ℕ). field_at fields w) is.0 ∙ is_some) in
          subst (AllByRecursion (EndsWithin (struct own fields) (fold (one_step c at) (record { kind = l; faults = fs }) rs).kind)) (sym (f.reaches ps))
          (moved (struct own fields) l (fold (one_step c at) (record { kind = l; faults = fs }) rs).kind f.start (reached l ps)
          (λ a ends. field_ends f.start a (cells (fold (one_step c at) (record { kind = l; faults = fs }) rs).kind) (cells l) (length (field_ranges fields)) ends f.within) (rest l f.fine h))
