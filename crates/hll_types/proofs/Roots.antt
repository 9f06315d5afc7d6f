-- Each sort stands in the root that the definitions give it, one element behind the other.
use Rattle.std.proofs.Common.{◌≡◌, ℕ, zero, suc, ◌+◌, ◌-◌, ◌<◌, ◌≤◌, true, false, List, [], ◌∷◌, ◌++◌, map, length, take, drop, reverse, slice_get, Option, Some, None, option_map, refl, sym, ap, subst, ◌∙◌, arith, append_assoc, if◌then◌else◌}
use Rattle.std.specs.Prelude.{nat_eq, option_and_then}
use Rattle.std.specs.Option.{option_map_or}
use Rattle.std.specs.List.{flat_map}
use Rattle.std.proofs.Math.Dec.{eqb-suc-zero}
use Rattle.std.proofs.lemmas.List.{length-append, reverse-append}
use Rattle.std.proofs.lemmas.Option.{slice_get-map}
use Rattle.hll_tree.specs.declared.tree.TypeItem.{TypeItem}
use Rattle.hll_meaning.specs.Names.{under}
use Rattle.hll_meaning.specs.Declarations.{is_among, element_table, elements_under, root_of}
use Rattle.hll_meaning.specs.StaticRules.{children_of}
use Rattle.hll_types.specs.declared.settle.Rooted.{Rooted}
use Rattle.hll_types.specs.declared.sorts.Sort.{Sort}
use Rattle.hll_types.specs.Settling.{root_at, root_in, IsRootedBy, AreRooted}
use Rattle.hll_types.specs.Standing.{has_parent, IsPlaced, AreSorts}
use Rattle.hll_types.proofs.Apart.{AreApart, IsWithin, position_there, under_at, within_all, none_within, within_more, taken_within}
use Rattle.hll_types.proofs.ChildrenWalk.{joining_none, count_so}
use Rattle.hll_types.proofs.Coding.{root_alone}
use Rattle.hll_types.proofs.SortSteps.{names_same}

-- ---- lists

at_seam : {A : Type 0} (xs : List A) (y : A) (ys : List A) → slice_get (xs ++ y ∷ ys) (length xs) ≡ Some y
at_seam [] y ys = refl
at_seam (x ∷ xs) y ys = at_seam xs y ys

behind_at : {A : Type 0} (xs ys : List A) (j : ℕ) → slice_get (xs ++ ys) (length xs + j) ≡ slice_get ys j
behind_at [] ys j = let none : 0 + j ≡ j = omega arith in ap (slice_get ys) none
behind_at (x ∷ xs) ys j =
    let more : length (x ∷ xs) + j ≡ suc (length xs + j) = omega arith in
    ap (slice_get (x ∷ (xs ++ ys))) more ∙ behind_at xs ys j

named_entry : (xs : List (List ℕ × Sort)) (i : ℕ) (n : List ℕ) → slice_get (map (λ e. e.0) xs) i ≡ Some n → (s : Sort) × (slice_get xs i ≡ Some (n, s))
named_entry [] i n is = absurd (cc is)
named_entry (x ∷ xs) zero n is = let same : x.0 ≡ n = cc is in (x.1, ap (λ (m : List ℕ). let e : List ℕ × Sort = (m, x.1) in Some e) same)
named_entry (x ∷ xs) (suc i) n is = named_entry xs i n is

map_or : {A B : Type 0} (f : A → B) (o : Option A) (b d : B) → option_map f o ≡ Some b → option_map_or f o d ≡ b
map_or f None b d h = absurd (cc h)
map_or f (Some a) b d h = let same : f a ≡ b = cc h in same

-- ---- sorts and their roots

drop_at : {A : Type 0} (xs : List A) (i : ℕ) (x : A) → slice_get xs i ≡ Some x → drop i xs ≡ x ∷ drop (suc i) xs
drop_at [] i x is = absurd (cc is)
drop_at (y ∷ xs) zero x is = let same : y ≡ x = cc is in ap (λ z. z ∷ xs) same
drop_at (y ∷ xs) (suc i) x is = drop_at xs i x is

-- ---- one sort more, the last ones first

pub rooted_more : (sorts : List (List ℕ × Sort)) (number : ℕ) (backward more seen : List Rooted) (n : List ℕ) (s : Sort) (place : Rooted) → 0 < number → Some (n, s) ≡ slice_get sorts (number - 1) → seen ≡ backward →
    IsRootedBy (reverse seen) (number - 1) s.count s.parent place → more ≡ backward ++ place ∷ [] → AreRooted number (drop number sorts) (reverse backward) → AreRooted (number - 1) (drop (number - 1) sorts) (reverse more)
rooted_more sorts number backward more seen n s place some at same here pushed rest =
    let next : suc (number - 1) ≡ number = omega arith in
    let step : number - 1 + 1 ≡ number = omega arith in
    let front : drop (number - 1) sorts ≡ (n, s) ∷ drop number sorts = drop_at sorts (number - 1) (n, s) (sym at) ∙ ap (λ k. (n, s) ∷ drop k sorts) next in
    let back : reverse more ≡ place ∷ reverse backward = ap reverse pushed ∙ reverse-append backward (place ∷ []) in
    subst (λ (xs : List (List ℕ × Sort)). AreRooted (number - 1) xs (reverse more)) (sym front)
    (subst (λ (rs : List Rooted). AreRooted (number - 1) ((n, s) ∷ drop number sorts) rs) (sym back) (
      subst (λ (xs : List Rooted). IsRootedBy (reverse xs) (number - 1) s.count s.parent place) same here,
      subst (λ (k : ℕ). AreRooted k (drop number sorts) (reverse backward)) (sym step) rest,
    ))

-- a sort stands in its root
record IsRootOf (types : List TypeItem) (sorts : List (List ℕ × Sort)) (n : List ℕ) (r : Rooted) : Type 0 where
  root : option_map (λ (e : List ℕ × Sort). e.0) (slice_get sorts r.root) ≡ Some (root_of types n)
  part : IsWithin (elements_under (element_table types) n) (elements_under (element_table types) (root_of types n)) r.before
  none : elements_under (element_table types) n ≡ [] → r.before ≡ 0

module _ (types : List TypeItem) (sorts : List (List ℕ × Sort)) (h : AreSorts sorts types (flat_map children_of types)) (apart : AreApart (map (λ x. x.0) (element_table types))) where
  abbrev names : List (List ℕ)
  names = map (λ (e : List ℕ × Sort). e.0) sorts

  abbrev own : List ℕ → List (List ℕ)
  own n = elements_under (element_table types) n

  under_number : (i : ℕ) (n : List ℕ) (s : Sort) → slice_get sorts i ≡ Some (n, s) → under n sorts ≡ Some s
  under_number i n s is = under_at sorts (subst AreApart (sym (names_same sorts types (flat_map children_of types) h)) apart) i n s is

  -- one without a parent
  alone : (number : ℕ) (n : List ℕ) (s : Sort) (r : Rooted) → slice_get sorts number ≡ Some (n, s) → s.parent ≡ None → r ≡ record { root = number; before = 0 } → IsRootOf types sorts n r
  alone number n s r at is w =
      let found = under_number number n s at in
      let own_root : root_of types n ≡ n = root_alone types n (sym (h.parents n) ∙ ap (λ (o : Option Sort). option_map_or (λ (s : Sort). has_parent s.parent) o false) found ∙ ap has_parent is) in
      record {
        root = ap (λ (x : Rooted). option_map (λ (e : List ℕ × Sort). e.0) (slice_get sorts x.root)) w ∙ ap (option_map (λ (e : List ℕ × Sort). e.0)) at ∙ ap (λ (m : List ℕ). Some m) (sym own_root);
        part = subst (λ (m : List ℕ). IsWithin (own n) (own m) r.before) (sym own_root) (subst (λ (x : ℕ). IsWithin (own n) (own n) x) (sym (ap (λ (x : Rooted). x.before) w)) (within_all (own n)));
        none = λ e. ap (λ (x : Rooted). x.before) w;
      }

  -- one in its parent
  below : (n m : List ℕ) (s : Sort) (r above : Rooted) (before : ℕ) → s.count ≡ length (own n) → root_of types n ≡ root_of types m → take (length (own n)) (drop before (own m)) ≡ own n → IsRootOf types sorts m above →
      r ≡ record { root = above.root; before = if nat_eq s.count 0 then 0 else above.before + before } → IsRootOf types sorts n r
  below n m s r above before count same taken k w = record {
    root = ap (λ (x : Rooted). option_map (λ (e : List ℕ × Sort). e.0) (slice_get sorts x.root)) w ∙ k.root ∙ ap (λ (q : List ℕ). Some q) (sym same);
    part = by (own n) refl;
    none = λ e. none_before e;
  }
    where
      none_before : own n ≡ [] → r.before ≡ 0
      none_before e =
          let no : s.count ≡ 0 = count ∙ ap length e in
          ap (λ (x : Rooted). x.before) w ∙ ap (λ (c : ℕ). if nat_eq c 0 then 0 else above.before + before) no

      by : (es : List (List ℕ)) → own n ≡ es → IsWithin (own n) (own (root_of types n)) r.before
      by [] e =
          subst (λ (x : ℕ). IsWithin (own n) (own (root_of types n)) x) (sym (none_before e))
          (subst (λ (xs : List (List ℕ)). IsWithin xs (own (root_of types n)) 0) (sym e) (none_within (own (root_of types n))))
      by (x ∷ xs) e =
          let some : s.count ≡ suc (length xs) = count ∙ ap length e in
          let one : 1 ≤ length (own n) = omega (arith, ap length e) in
          let place : r.before ≡ above.before + before = ap (λ (x : Rooted). x.before) w ∙ ap (λ (c : ℕ). if nat_eq c 0 then 0 else above.before + before) some ∙ ap (λ b. if b then 0 else above.before + before) (eqb-suc-zero (length xs)) in
          subst (λ (q : List ℕ). IsWithin (own n) (own q) r.before) (sym same)
          (subst (λ (x : ℕ). IsWithin (own n) (own (root_of types m)) x) (sym place)
          (within_more (own n) (own m) (own (root_of types m)) before above.before (taken_within (own n) (own m) before one taken) k.part))

  -- those behind a sort stand in their roots
  abbrev AreBehind : ℕ → List Rooted → Type 0
  AreBehind number behind = (j : ℕ) (m : List ℕ) (t : Sort) → slice_get sorts (number + 1 + j) ≡ Some (m, t) → (above : Rooted) × (slice_get behind j ≡ Some above) × IsRootOf types sorts m above

  here : (number : ℕ) (n : List ℕ) (s : Sort) (r : Rooted) (behind : List Rooted) → slice_get sorts number ≡ Some (n, s) → IsRootedBy behind number s.count s.parent r → AreBehind number behind → IsRootOf types sorts n r
  here number n s r behind at w rest = by s.parent refl w (h.placed n s (under_number number n s at))
    where
      by : (o : Option (ℕ × ℕ)) → s.parent ≡ o → IsRootedBy behind number s.count o r → IsPlaced types names n o → IsRootOf types sorts n r
      by None is w p = alone number n s r at is w
      by (Some up) is w p =
          let later : number < up.0 = p.4 number (slice_get-map (λ (e : List ℕ × Sort). e.0) sorts number ∙ ap (option_map (λ (e : List ℕ × Sort). e.0)) at) in
          let entry = named_entry sorts up.0 p.0 p.1 in
          let distance : number + 1 + (up.0 - number - 1) ≡ up.0 = omega (arith, later) in
          let found = rest (up.0 - number - 1) p.0 entry.0 (ap (slice_get sorts) distance ∙ entry.1) in
          below n p.0 s r found.0 up.1 (count_so sorts sorts types (flat_map children_of types) [] h (joining_none sorts types) n s (under_number number n s at)) p.2 p.3 found.2 (w later found.0 found.1)

  all_from : (suffix front : List (List ℕ × Sort)) (roots : List Rooted) → sorts ≡ front ++ suffix → AreRooted (length front) suffix roots → (j : ℕ) (n : List ℕ) (s : Sort) → slice_get suffix j ≡ Some (n, s) →
      (r : Rooted) × (slice_get roots j ≡ Some r) × IsRootOf types sorts n r
  all_from [] front roots split w j n s is = absurd (cc is)
  all_from (e ∷ suffix) front [] split w j n s is = absurd w
  all_from (e ∷ suffix) front (r ∷ roots) split w zero n s is =
      let same : e ≡ (n, s) = cc is in
      let next : length (front ++ e ∷ []) ≡ length front + 1 = length-append front (e ∷ []) in
      let further : sorts ≡ (front ++ e ∷ []) ++ suffix = split ∙ sym (append_assoc front (e ∷ []) suffix) in
      let rest = all_from suffix (front ++ e ∷ []) roots further (subst (λ (i : ℕ). AreRooted i suffix roots) (sym next) w.1) in (
        r,
        refl,
        here (length front) n s r roots (ap (λ (xs : List (List ℕ × Sort)). slice_get xs (length front)) split ∙ at_seam front e suffix ∙ ap (λ (x : List ℕ × Sort). Some x) same)
            (subst (λ (x : List ℕ × Sort). IsRootedBy roots (length front) x.1.count x.1.parent r) same w.0)
            (λ j m t at. rest j m t (sym (behind_at (front ++ e ∷ []) suffix j) ∙ (λ i. slice_get (sym further i) (next i + j)) ∙ at)),
      )
  all_from (e ∷ suffix) front (r ∷ roots) split w (suc j) n s is =
      let next : length (front ++ e ∷ []) ≡ length front + 1 = length-append front (e ∷ []) in
      let further : sorts ≡ (front ++ e ∷ []) ++ suffix = split ∙ sym (append_assoc front (e ∷ []) suffix) in
      all_from suffix (front ++ e ∷ []) roots further (subst (λ (i : ℕ). AreRooted i suffix roots) (sym next) w.1) j n s is

  -- what is found under a name is so
  pub in_root : (roots : List Rooted) → AreRooted 0 sorts roots → (n : List ℕ) → is_among (map (λ x. x.0) (element_table types)) n ≡ true →
      ((root_in sorts roots n).0 ≡ root_of types n) × IsWithin (elements_under (element_table types) n) (elements_under (element_table types) (root_of types n)) (root_in sorts roots n).1
      × (elements_under (element_table types) n ≡ [] → (root_in sorts roots n).1 ≡ 0)
  in_root roots w n among =
      let place = position_there n names (ap (λ ns. is_among ns n) (names_same sorts types (flat_map children_of types) h) ∙ among) in
      let entry = named_entry sorts place.0 n place.2 in
      let found = all_from sorts [] roots refl w place.0 n entry.0 entry.1 in
      let is : root_in sorts roots n ≡ root_at sorts n (Some found.0) = ap (λ (o : Option ℕ). root_at sorts n (option_and_then (slice_get roots) o)) place.1 ∙ ap (root_at sorts n) found.1 in (
        ap (λ (x : List ℕ × ℕ). x.0) is ∙ map_or (λ (e : List ℕ × Sort). e.0) (slice_get sorts found.0.root) (root_of types n) n found.2.root,
        subst (λ (x : List ℕ × ℕ). IsWithin (own n) (own (root_of types n)) x.1) (sym is) found.2.part,
        λ e. ap (λ (x : List ℕ × ℕ). x.1) is ∙ found.2.none e,
      )
