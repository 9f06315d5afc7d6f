-- The numbers of roots by their names, each of which goes last where it is new.
use Rattle.std.proofs.Common.{◌≡◌, ℕ, ◌+◌, ◌<◌, ◌≤◌, Bool, true, false, cond, not, ◌||◌, List, [], ◌∷◌, ◌++◌, map, length, get_or, position, Option, None, Some, MatchOption, nat_eq, refl, sym, ap, subst, ◌∙◌, arith, if◌then◌else◌}
use Rattle.std.specs.List.{list_any, position_from, position_or_len}
use Rattle.std.specs.Str.{bytes_eq}
use Rattle.std.proofs.lemmas.Bool.{eqb-true}
use Rattle.std.proofs.lemmas.Iterator.Adapters.{position_from-zero}
use Rattle.std.proofs.lemmas.List.{length-append}
use Rattle.std.proofs.lemmas.List.Sums.{prefix_len_stops}
use Rattle.std.proofs.lemmas.Slice.Eq.{bytes_eq-Decides}
use Rattle.indexmap.specs.IndexSet.{insert_key}
use Rattle.hll_meaning.proofs.Faultless.{neither}
use Rattle.hll_meaning.proofs.Scenes.{by_test}
use Rattle.hll_types.proofs.Apart.{can_not, true_is_not}
use Rattle.hll_types.proofs.NewSorts.{same_name}

module _ {K : Type 0} (p : K → Bool) where
  -- the place of one that passes, where the list starts at a number
  found_any : (i : ℕ) (ks : List K) → list_any p ks ≡ true → position_from p i ks ≡ Some (i + position_or_len p ks)
  found_any i [] h = absurd (cc h)
  found_any i (x ∷ xs) h =
      by_test (p x)
      (λ yes.
      let none = ap (λ b. cond (not b) (1 + position_or_len p xs) 0) yes in
      let same : i ≡ i + position_or_len p (x ∷ xs) = omega arith in
      ap (λ b. cond b (Some i) (position_from p (i + 1) xs)) yes ∙ ap Some same)
      (λ no.
      let one = ap (λ b. cond (not b) (1 + position_or_len p xs) 0) no in
      let same : i + 1 + position_or_len p xs ≡ i + position_or_len p (x ∷ xs) = omega arith in
      ap (λ b. cond b (Some i) (position_from p (i + 1) xs)) no ∙ found_any (i + 1) xs (sym (ap (λ b. b || list_any p xs) no) ∙ h) ∙ ap Some same)

  -- where none passes
  found_none : (i : ℕ) (ks : List K) → list_any p ks ≡ false → position_from p i ks ≡ None
  found_none i [] h = refl
  found_none i (x ∷ xs) h =
      let parts = neither (p x) (list_any p xs) h in
      ap (λ b. cond b (Some i) (position_from p (i + 1) xs)) parts.0 ∙ found_none (i + 1) xs parts.1

  count_none : (ks : List K) → list_any p ks ≡ false → position_or_len p ks ≡ length ks
  count_none [] h = refl
  count_none (x ∷ xs) h =
      let parts = neither (p x) (list_any p xs) h in
      let one = ap (λ b. cond (not b) (1 + position_or_len p xs) 0) parts.0 in
      let rest = count_none xs parts.1 in
      omega arith

  count_some : (ks : List K) → list_any p ks ≡ true → position_or_len p ks < length ks
  count_some [] h = absurd (cc h)
  count_some (x ∷ xs) h =
      by_test (p x)
      (λ yes. let none = ap (λ b. cond (not b) (1 + position_or_len p xs) 0) yes in omega arith)
      (λ no.
      let one = ap (λ b. cond (not b) (1 + position_or_len p xs) 0) no in
      let rest = count_some xs (sym (ap (λ b. b || list_any p xs) no) ∙ h) in
      omega arith)

  -- one that goes last
  last_passes : (i : ℕ) (ks : List K) (k : K) → list_any p ks ≡ false → p k ≡ true → position_from p i (ks ++ k ∷ []) ≡ Some (i + length ks)
  last_passes i [] k h passing = let same : i ≡ i + 0 = omega arith in ap (λ b. cond b (Some i) None) passing ∙ ap Some same
  last_passes i (x ∷ xs) k h passing =
      let parts = neither (p x) (list_any p xs) h in
      let same : i + 1 + length xs ≡ i + length (x ∷ xs) = omega arith in
      ap (λ b. cond b (Some i) (position_from p (i + 1) (xs ++ k ∷ []))) parts.0 ∙ last_passes (i + 1) xs k parts.1 passing ∙ ap Some same

  last_fails : (i : ℕ) (ks : List K) (k : K) → p k ≡ false → position_from p i (ks ++ k ∷ []) ≡ position_from p i ks
  last_fails i [] k failing = ap (λ b. cond b (Some i) None) failing
  last_fails i (x ∷ xs) k failing = ap (cond (p x) (Some i)) (last_fails (i + 1) xs k failing)

module _ {K : Type 0} (name : K → List ℕ) (ks : List K) (k : K) where
  -- whether a key has a name
  abbrev has : List ℕ → K → Bool
  has r y = bytes_eq r (name y)

  -- the keys with this one
  abbrev with_key : List K
  with_key = insert_key (λ x y. bytes_eq (name x) (name y)) ks k

  -- its number
  abbrev own_number : ℕ
  own_number = position_or_len (has (name k)) ks

  added : list_any (has (name k)) ks ≡ false → with_key ≡ ks ++ k ∷ []
  added new = ap (λ b. if b then ks else ks ++ k ∷ []) new

  stays : list_any (has (name k)) ks ≡ true → with_key ≡ ks
  stays there = ap (λ b. if b then ks else ks ++ k ∷ []) there

  pub own_place : MatchOption (position (has (name k)) ks) (length ks ≤ own_number) (λ before. before ≡ own_number)
  own_place =
      by_test (list_any (has (name k)) ks)
      (λ there. subst (λ (o : Option ℕ). MatchOption o (length ks ≤ own_number) (λ before. before ≡ own_number)) (sym (position_from-zero (has (name k)) ks ∙ found_any (has (name k)) 0 ks there)) (let same : 0 + own_number ≡ own_number = omega arith in same))
      (λ new. subst (λ (o : Option ℕ). MatchOption o (length ks ≤ own_number) (λ before. before ≡ own_number)) (sym (position_from-zero (has (name k)) ks ∙ found_none (has (name k)) 0 ks new)) (let all = count_none (has (name k)) ks new in omega arith))

  own_there : position (has (name k)) with_key ≡ Some own_number
  own_there =
      by_test (list_any (has (name k)) ks)
      (λ there.
      let same : 0 + own_number ≡ own_number = omega arith in
      ap (position (has (name k))) (stays there) ∙ position_from-zero (has (name k)) ks ∙ found_any (has (name k)) 0 ks there ∙ ap Some same)
      (λ new.
      let all = count_none (has (name k)) ks new in
      let same : 0 + length ks ≡ own_number = omega arith in
      ap (position (has (name k))) (added new) ∙ position_from-zero (has (name k)) (ks ++ k ∷ []) ∙ last_passes (has (name k)) 0 ks k new ((bytes_eq-Decides (name k) (name k)).1 refl) ∙ ap Some same)

  other_stays : (r : List ℕ) → bytes_eq r (name k) ≡ false → position (has r) with_key ≡ position (has r) ks
  other_stays r other =
      by_test (list_any (has (name k)) ks)
      (λ there. ap (position (has r)) (stays there))
      (λ new. ap (position (has r)) (added new) ∙ position_from-zero (has r) (ks ++ k ∷ []) ∙ last_fails (has r) 0 ks k other ∙ sym (position_from-zero (has r) ks))

  pub places_so : (r : List ℕ) → position (has r) with_key ≡ (if bytes_eq (name k) r then Some own_number else position (has r) ks)
  places_so r =
      by_test (bytes_eq (name k) r)
      (λ same. ap (λ n. position (has n) with_key) (sym (same_name (name k) r same)) ∙ own_there ∙ ap (λ b. if b then Some own_number else position (has r) ks) (sym same))
      (λ other. other_stays r (can_not (bytes_eq r (name k)) (λ same. true_is_not (bytes_eq (name k) r) ((bytes_eq-Decides (name k) r).1 (sym (same_name r (name k) same))) other))
      ∙ ap (λ b. if b then Some own_number else position (has r) ks) (sym other))

  pub within_keys : own_number < length with_key
  within_keys =
      by_test (list_any (has (name k)) ks)
      (λ there. let same = ap length (stays there) in let some = count_some (has (name k)) ks there in omega arith)
      (λ new. let same = ap length (added new) in let more = length-append ks (k ∷ []) in let all = count_none (has (name k)) ks new in omega arith)

  pub no_fewer_keys : length ks ≤ length with_key
  no_fewer_keys =
      by_test (list_any (has (name k)) ks)
      (λ there. let same = ap length (stays there) in omega arith)
      (λ new. let same = ap length (added new) in let more = length-append ks (k ∷ []) in omega arith)

  -- another name has another number
  pub other_place : (r : List ℕ) (i : ℕ) → bytes_eq (name k) r ≡ false → position (has r) ks ≡ Some i → nat_eq own_number i ≡ false
  other_place r i other is =
      by_test (list_any (has r) ks)
      (λ there.
      let found : Some (0 + position_or_len (has r) ks) ≡ Some i = sym (position_from-zero (has r) ks ∙ found_any (has r) 0 ks there) ∙ is in
      let at : 0 + position_or_len (has r) ks ≡ i = cc in
      can_not (nat_eq own_number i) (λ same. true_is_not (bytes_eq (name k) r) (clash i (omega arith) (count_some (has r) ks there) (eqb-true own_number i same)) other))
      (λ none. let missing : None ≡ Some i = sym (position_from-zero (has r) ks ∙ found_none (has r) 0 ks none) ∙ is in absurd (cc missing))
    where
      passes : (q : List ℕ) → position_or_len (has q) ks < length ks → q ≡ name (get_or ks (position_or_len (has q) ks) k)
      passes q h = same_name q (name (get_or ks (position_or_len (has q) ks) k)) (by_test (has q (get_or ks (position_or_len (has q) ks) k)) (λ yes. yes) (λ no. let clash : true ≡ false = sym (ap not no) ∙ prefix_len_stops (λ y. not (has q y)) ks k h in absurd (cc clash)))

      clash : (i : ℕ) → position_or_len (has r) ks ≡ i → position_or_len (has r) ks < length ks → own_number ≡ i → bytes_eq (name k) r ≡ true
      clash i at few own =
          let both : own_number ≡ position_or_len (has r) ks = own ∙ sym at in
          (bytes_eq-Decides (name k) r).1 (passes (name k) (omega arith) ∙ ap (λ j. name (get_or ks j k)) both ∙ sym (passes r few))

-- the place of a name among keys is that among their names
pub position_named : {K : Type 0} (name : K → List ℕ) (p : List ℕ → Bool) (ks : List K) → position (λ k. p (name k)) ks ≡ position p (map name ks)
position_named {K} name p ks = position_from-zero (λ k. p (name k)) ks ∙ from 0 ks ∙ sym (position_from-zero p (map name ks))
  where
    from : (i : ℕ) (ks : List K) → position_from (λ k. p (name k)) i ks ≡ position_from p i (map name ks)
    from i [] = refl
    from i (k ∷ ks) = ap (cond (p (name k)) (Some i)) (from (i + 1) ks)
