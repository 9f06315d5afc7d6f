-- Lists in which no name stands twice, and where names and parts stand in them.
use Rattle.std.proofs.Common.{◌≡◌, ℕ, zero, suc, ◌+◌, ◌≤◌, ◌⊎◌, inl, inr, Bool, true, false, cond, ◌||◌, List, [], ◌∷◌, ◌++◌, map, length, take, drop, slice_get, position, Some, refl, sym, ap, subst, ◌∙◌, arith, append_assoc}
use Rattle.std.specs.List.{AllByRecursion, IsDistinct, position_from}
use Rattle.std.specs.Str.{bytes_eq}
use Rattle.std.proofs.lemmas.Iterator.Adapters.{position_from-zero}
use Rattle.std.proofs.lemmas.List.{append-nil, length-append, length-drop, length-take, length-take-le, take-append-drop}
use Rattle.std.proofs.lemmas.Slice.Eq.{bytes_eq-Decides}
use Rattle.hll_tree.specs.declared.tree.Name.{Name}
use Rattle.hll_meaning.specs.Names.{Names, code_in, under}
use Rattle.hll_meaning.specs.Declarations.{texts, is_among, place_of}
use Rattle.hll_meaning.proofs.Faultless.{neither}
use Rattle.hll_meaning.proofs.Scenes.{by_test, under_here, under_further}
use Rattle.hll_types.specs.Declaring.{with_codes}
use Rattle.hll_expressions.proofs.ByName.{bytes_eq-sym}
use Rattle.hll_types.proofs.Coding.{place_behind}
use Rattle.hll_types.proofs.FreshNames.{among_append}
use Rattle.hll_types.proofs.NewSorts.{same_name, among_at}

-- no name stands twice
abbrev pub AreApart : List (List ℕ) → Type 0
AreApart [] = Unit {0}
AreApart (x ∷ xs) = (is_among xs x ≡ false) × AreApart xs

-- no name of the one list stands in the other
abbrev pub AreElsewhere : List (List ℕ) → List (List ℕ) → Type 0
AreElsewhere xs ys = (n : List ℕ) → is_among xs n ≡ true → is_among ys n ≡ false

pub among_self : (n : List ℕ) (xs : List (List ℕ)) → is_among (n ∷ xs) n ≡ true
among_self n xs = ap (λ b. b || is_among xs n) ((bytes_eq-Decides n n).1 refl)

pub or_second : (a b : Bool) → b ≡ true → (a || b) ≡ true
or_second true b h = refl
or_second false b h = h

pub or_first : (a b : Bool) → a ≡ true → (a || b) ≡ true
or_first true b h = refl
or_first false b h = absurd (cc h)

pub or_none : (a b : Bool) → a ≡ false → b ≡ false → (a || b) ≡ false
or_none a b p q = λ i. p i || q i

pub or_either : (a b : Bool) → (a || b) ≡ true → (a ≡ true) ⊎ (b ≡ true)
or_either true b h = inl refl
or_either false b h = inr h

-- what can't be so isn't
pub can_not : (b : Bool) → (b ≡ true → ⊥) → b ≡ false
can_not b never = by_test b (λ yes. absurd (never yes)) (λ other. other)

pub true_is_not : (b : Bool) → b ≡ true → b ≡ false → ⊥
true_is_not b p q = let both : true ≡ false = sym p ∙ q in cc both

-- ---- one behind the other

pub apart_append : (xs ys : List (List ℕ)) → AreApart xs → AreApart ys → AreElsewhere xs ys → AreApart (xs ++ ys)
apart_append [] ys h k other = k
apart_append (x ∷ xs) ys h k other = (
  among_append xs ys x ∙ or_none (is_among xs x) (is_among ys x) h.0 (other x (among_self x xs)),
  apart_append xs ys h.1 k (λ n is. other n (or_second (bytes_eq x n) (is_among xs n) is)),
)

pub apart_last : (xs : List (List ℕ)) (n : List ℕ) → AreApart xs → is_among xs n ≡ false → AreApart (xs ++ n ∷ [])
apart_last xs n h new = apart_append xs (n ∷ []) h (refl, tt) other
  where
    other : AreElsewhere xs (n ∷ [])
    other m is = or_none (bytes_eq n m) false (can_not (bytes_eq n m) (λ same. true_is_not (is_among xs n) (ap (is_among xs) (same_name n m same) ∙ is) new)) refl

-- a name isn't among those in front of it
pub front_apart : (xs : List (List ℕ)) (n : List ℕ) (ys : List (List ℕ)) → AreApart (xs ++ n ∷ ys) → is_among xs n ≡ false
front_apart [] n ys h = refl
front_apart (x ∷ xs) n ys h =
    let split = neither (is_among xs x) (is_among (n ∷ ys) x) (sym (among_append xs (n ∷ ys) x) ∙ h.0) in
    or_none (bytes_eq x n) (is_among xs n) (bytes_eq-sym x n ∙ (neither (bytes_eq n x) (is_among ys x) split.1).0) (front_apart xs n ys h.1)

-- keys that differ are apart
none_equal : (x : List ℕ) (xs : List (List ℕ)) → AllByRecursion (λ y. bytes_eq x y ≡ false) xs → is_among xs x ≡ false
none_equal x [] all = refl
none_equal x (y ∷ xs) all = or_none (bytes_eq y x) (is_among xs x) (bytes_eq-sym y x ∙ all.0) (none_equal x xs all.1)

pub apart_distinct : (xs : List (List ℕ)) → IsDistinct bytes_eq xs → AreApart xs
unfolding IsDistinct
apart_distinct [] h = tt
apart_distinct (x ∷ xs) h = (none_equal x xs h.0, apart_distinct xs h.1)

-- ---- places

-- a name that is there has a position
found_from : (n : List ℕ) (ns : List (List ℕ)) (i : ℕ) → is_among ns n ≡ true → (k : ℕ) × (position_from (bytes_eq n) i ns ≡ Some k) × ((j : ℕ) × (k ≡ i + j) × (slice_get ns j ≡ Some n))
found_from n [] i h = absurd (cc h)
found_from n (m ∷ ns) i h =
    by_test (bytes_eq m n)
    (λ same. (
      i,
      ap (λ b. cond b (Some i) (position_from (bytes_eq n) (i + 1) ns)) (bytes_eq-sym n m ∙ same),
      (0, (let none : i ≡ i + 0 = omega arith in none), ap (λ (x : List ℕ). Some x) (same_name m n same)),
    ))
    (λ other.
    let rest = found_from n ns (i + 1) (ap (λ b. b || is_among ns n) (sym other) ∙ h) in
    let count : rest.0 ≡ i + suc rest.2.0 = omega (arith, rest.2.1) in (
      rest.0,
      ap (λ b. cond b (Some i) (position_from (bytes_eq n) (i + 1) ns)) (bytes_eq-sym n m ∙ other) ∙ rest.1,
      (suc rest.2.0, count, rest.2.2),
    ))

pub position_there : (n : List ℕ) (ns : List (List ℕ)) → is_among ns n ≡ true → (i : ℕ) × (position (bytes_eq n) ns ≡ Some i) × (slice_get ns i ≡ Some n)
position_there n ns h =
    let found = found_from n ns 0 h in
    let same : found.0 ≡ found.2.0 = omega (arith, found.2.1) in
    (found.0, position_from-zero (bytes_eq n) ns ∙ found.1, ap (slice_get ns) same ∙ found.2.2)

first_same : {A : Type 0} (x y : List ℕ × A) → x ≡ y → x.0 ≡ y.0
first_same x y p = λ i. (p i).0

second_same : {A : Type 0} (x y : List ℕ × A) → x ≡ y → x.1 ≡ y.1
second_same x y p = λ i. (p i).1

name_at : {A : Type 0} (xs : List (List ℕ × A)) (i : ℕ) (n : List ℕ) (a : A) → slice_get xs i ≡ Some (n, a) → slice_get (map (λ x. x.0) xs) i ≡ Some n
name_at [] i n a is = absurd (cc is)
name_at (x ∷ xs) zero n a is = let same : x ≡ (n, a) = cc is in ap (λ (m : List ℕ). Some m) (first_same x (n, a) same)
name_at (x ∷ xs) (suc i) n a is = name_at xs i n a is

-- what stands at a place stands under its name
pub under_at : {A : Type 0} (xs : List (List ℕ × A)) → AreApart (map (λ x. x.0) xs) → (i : ℕ) (n : List ℕ) (a : A) → slice_get xs i ≡ Some (n, a) → under n xs ≡ Some a
under_at [] h i n a is = absurd (cc is)
under_at ((own, b) ∷ xs) h zero n a is =
    let same : (own, b) ≡ (n, a) = cc is in
    under_here n own b xs ((bytes_eq-Decides own n).1 (first_same (own, b) (n, a) same)) ∙ ap Some (second_same (own, b) (n, a) same)
under_at ((own, b) ∷ xs) h (suc i) n a is =
    let among = among_at (map (λ x. x.0) xs) i n (name_at xs i n a is) in
    let other = can_not (bytes_eq own n) (λ same. true_is_not (is_among (map (λ x. x.0) xs) own) (ap (is_among (map (λ x. x.0) xs)) (same_name own n same) ∙ among) h.0) in
    under_further n own b xs other ∙ under_at xs h.1 i n a is

-- names one after the other have codes one after the other
pub places_there : (root : List ℕ) (ps : List (List ℕ)) (es : List Name) (qs : List (List ℕ)) → AreApart (ps ++ (texts es ++ qs)) →
    map (λ e. (e.text, code_in root (place_of (ps ++ (texts es ++ qs)) e.text))) es ≡ with_codes root (length ps) es
places_there root ps [] qs h = refl
places_there root ps (e ∷ es) qs h =
    let here = place_behind ps e.text (texts es ++ qs) (front_apart ps e.text (texts es ++ qs) h) in
    let next = ps ++ e.text ∷ [] in
    let same : next ++ (texts es ++ qs) ≡ ps ++ e.text ∷ (texts es ++ qs) = append_assoc ps (e.text ∷ []) (texts es ++ qs) in
    let there = places_there root next es qs (subst AreApart (sym same) h) in
    let more : length next ≡ length ps + 1 = length-append ps (e.text ∷ []) in
    (λ i. (e.text, code_in root (here i)) ∷ map (λ (f : Name). (f.text, code_in root (place_of (sym same i) f.text))) es)
    ∙ ap (λ (xs : Names). (e.text, code_in root (length ps)) ∷ xs) (there ∙ ap (λ n. with_codes root n es) more)

-- ---- parts

-- some names stand one after the other among all, behind so many
pub record IsWithin (own all : List (List ℕ)) (before : ℕ) : Type 0 where
  pub front : List (List ℕ)
  pub behind : List (List ℕ)
  pub is : all ≡ front ++ (own ++ behind)
  pub count : before ≡ length front

pub within_all : (all : List (List ℕ)) → IsWithin all all 0
within_all all = record { front = []; behind = []; is = sym (append-nil all); count = refl }

pub none_within : (all : List (List ℕ)) → IsWithin [] all 0
none_within all = record { front = []; behind = all; is = refl; count = refl }

-- a part of a part
pub within_more : (own mid all : List (List ℕ)) (before further : ℕ) → IsWithin own mid before → IsWithin mid all further → IsWithin own all (further + before)
within_more own mid all before further h k = record {
  front = k.front ++ h.front;
  behind = h.behind ++ k.behind;
  is = k.is ∙ ap (λ xs. k.front ++ (xs ++ k.behind)) h.is ∙ regroup k.front h.front own h.behind k.behind;
  count = (λ i. k.count i + h.count i) ∙ sym (length-append k.front h.front);
}
  where
    regroup : (a b c d e : List (List ℕ)) → a ++ ((b ++ (c ++ d)) ++ e) ≡ (a ++ b) ++ (c ++ (d ++ e))
    regroup a b c d e = simp append_assoc

-- names that are taken behind so many
pub taken_within : (own all : List (List ℕ)) (before : ℕ) → 1 ≤ length own → take (length own) (drop before all) ≡ own → IsWithin own all before
taken_within own all before some is = record {
  front = take before all;
  behind = drop (length own) (drop before all);
  is = sym (take-append-drop before all) ∙ ap (λ xs. take before all ++ xs) (sym (take-append-drop (length own) (drop before all)) ∙ ap (λ xs. xs ++ drop (length own) (drop before all)) is);
  count = sym (length-take-le before all few);
}
  where
    few : before ≤ length all
    few = omega (arith, sym (ap length is) ∙ length-take (length own) (drop before all), length-drop before all)
