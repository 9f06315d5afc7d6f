-- What branches make together has the values of each of them.
use Rattle.std.proofs.Common.{◌≡◌, ℕ, zero, suc, ◌+◌, ◌==◌, ℤ, Bool, true, false, List, [], ◌∷◌, ◌++◌, map, length, take, drop, refl, sym, ap, subst, ◌∙◌, arith, take-append-drop}
use Rattle.std.specs.Prelude.{if◌then◌else◌}
use Rattle.std.specs.List.{flat_map, list_any, range_with_len}
use Rattle.std.specs.Str.{bytes_eq}
use Rattle.intervals.specs.Ends.{Ends, Holds}
use Rattle.intervals.specs.Rules.{hull}
use Rattle.intervals.proofs.Soundness.{hull_sound}
use Rattle.hll_meaning.specs.Kinds.{Kind, truth, whole, element, array, struct, Fields, none, field, Value, AreIn, ranges, field_ranges}
use Rattle.hll_meaning.specs.Fitting.{is_scalar, is_wide, parts, field_list, unnamed, group_of, Joined, together, apart, too_wide, with_parts, join, join_fields}
use Rattle.hll_meaning.proofs.AreIn.{AreIn_append, AreIn_front, AreIn_back, copies, copies_more, copies_none, repeated_copies}
use Rattle.hll_meaning.proofs.Faultless.{neither}
use Rattle.hll_meaning.proofs.Numbers.{holds_in, in_holds}

-- whichever of two a test takes
pub either_way : {A : Type 0} (P : A → Type 0) (b : Bool) (x y : A) → (b ≡ true → P x) → (b ≡ false → P y) → P (if b then x else y)
either_way P true x y f g = f refl
either_way P false x y f g = g refl

-- ---- ranges of parts

-- all numbers between some ends lie between others
abbrev pub AreWithin : List Ends → List Ends → Type 0
AreWithin es fs = (v : Value) → AreIn es v → AreIn fs v

-- one list behind the other
pub within_append : (es fs es' fs' : List Ends) → AreWithin es es' → AreWithin fs fs' → AreWithin (es ++ fs) (es' ++ fs')
within_append es fs es' fs' f g v h = subst (AreIn (es' ++ fs')) (take-append-drop (length es) v) (AreIn_append es' fs' (take (length es) v) (drop (length es) v) (f _ (AreIn_front es fs v h)) (g _ (AreIn_back es fs v h)))

within_one : (e f : Ends) → ((x : ℤ) → Holds e x → Holds f x) → AreWithin (e ∷ []) (f ∷ [])
within_one e f g [] h = absurd h
within_one e f g (x ∷ []) h = (in_holds f x (g x (holds_in e x h.0)), tt)
within_one e f g (x ∷ y ∷ v) h = absurd h.1

pub unnamed_ranges : (ks : List Kind) → field_ranges (unnamed ks) ≡ flat_map ranges ks
unnamed_ranges [] = refl
unnamed_ranges (k ∷ ks) = ap (λ es. ranges k ++ es) (unnamed_ranges ks)

listed_ranges : (fields : Fields) → field_ranges fields ≡ flat_map ranges (field_list fields)
listed_ranges none = refl
listed_ranges (field name k fields) = ap (λ es. ranges k ++ es) (listed_ranges fields)

repeated_ranges : (k : Kind) (a n : ℕ) → flat_map (λ i. ranges k) (range_with_len a n) ≡ flat_map ranges (flat_map (λ i. k ∷ []) (range_with_len a n))
repeated_ranges k a zero = refl
repeated_ranges k a (suc n) = ap (λ es. ranges k ++ es) (repeated_ranges k (a + 1) n)

-- the cells of a list are those of its parts
parts_ranges : (k : Kind) → is_scalar k ≡ false → ranges k ≡ flat_map ranges (parts k)
parts_ranges truth h = absurd (cc h)
parts_ranges (whole e) h = absurd (cc h)
parts_ranges (element root e) h = absurd (cc h)
parts_ranges (array n k) h = repeated_ranges k 0 n
parts_ranges (struct name fields) h = listed_ranges fields

-- ---- joins

-- the values of both kinds are values of what they make together
pub record HasBoth (k given joined : List Ends) : Type 0 where
  pub left : AreWithin k joined
  pub right : AreWithin given joined

-- where neither the kinds nor the lengths differ, and no range is wide
abbrev pub Joins : List Ends → List Ends → Joined → Type 0
Joins es fs j = j.mismatched ≡ false → j.uneven ≡ false → j.wide ≡ false → HasBoth es fs (ranges j.kind)

-- the same of parts
abbrev AllJoin : List Ends → List Ends → List Joined → Type 0
AllJoin es fs js = list_any (λ j. j.mismatched) js ≡ false → list_any (λ j. j.uneven) js ≡ false → list_any (λ j. j.wide) js ≡ false → HasBoth es fs (flat_map ranges (map (λ j. j.kind) js))

none_join : AllJoin [] [] []
none_join m u w = record { left = λ v h. h; right = λ v h. h }

one_more : (es fs es' fs' : List Ends) (j : Joined) (js : List Joined) → Joins es fs j → AllJoin es' fs' js → AllJoin (es ++ es') (fs ++ fs') (j ∷ js)
one_more es fs es' fs' j js here there m u w =
    let ms = neither j.mismatched (list_any (λ j. j.mismatched) js) m in
    let us = neither j.uneven (list_any (λ j. j.uneven) js) u in
    let ws = neither j.wide (list_any (λ j. j.wide) js) w in
    let h = here ms.0 us.0 ws.0 in
    let t = there ms.1 us.1 ws.1 in
    record {
      left = within_append es es' (ranges j.kind) (flat_map ranges (map (λ j. j.kind) js)) h.left t.left;
      right = within_append fs fs' (ranges j.kind) (flat_map ranges (map (λ j. j.kind) js)) h.right t.right;
    }

gathered_ranges : (js : List Joined) → ranges (group_of (map (λ j. j.kind) js)) ≡ flat_map ranges (map (λ j. j.kind) js)
gathered_ranges js = unnamed_ranges (map (λ j. j.kind) js)

-- a list with another kind
listed : (own given : Kind) (count : ℕ) (each : List Kind → List Joined) →
    (length (parts given) ≡ count → AllJoin (ranges own) (flat_map ranges (parts given)) (each (parts given))) → Joins (ranges own) (ranges given) (with_parts own count each given)
listed own given count each all =
    either_way (Joins (ranges own) (ranges given)) (is_scalar given) _ _ (λ s m u w. absurd (cc m))
    (λ s. either_way (Joins (ranges own) (ranges given)) (length (parts given) == count) _ _
    (λ same m u w. subst (HasBoth (ranges own) (ranges given)) (sym (gathered_ranges (each (parts given)))) (subst (λ es. HasBoth (ranges own) es (flat_map ranges (map (λ j. j.kind) (each (parts given))))) (sym (parts_ranges given s)) (all (equal _ _ same) m u w)))
    (λ other m u w. absurd (cc u)))
  where
    equal : (a b : ℕ) → (a == b) ≡ true → a ≡ b
    equal a b h = grind arith

-- as many kinds with one kind
copies_join : (k : Kind) (gs : List Kind) → ((given : Kind) → Joins (ranges k) (ranges given) (join k given)) → AllJoin (copies (length gs) (ranges k)) (flat_map ranges gs) (map (join k) gs)
copies_join k [] each = subst (λ es. AllJoin es [] []) (sym (copies_none (ranges k))) none_join
copies_join k (g ∷ gs) each =
    subst (λ es. AllJoin es (ranges g ++ flat_map ranges gs) (join k g ∷ map (join k) gs)) (sym (copies_more (length gs) (ranges k)))
    (one_more (ranges k) (ranges g) (copies (length gs) (ranges k)) (flat_map ranges gs) (join k g) (map (join k) gs) (each g) (copies_join k gs each))

array_join : (n : ℕ) (k : Kind) (gs : List Kind) → ((given : Kind) → Joins (ranges k) (ranges given) (join k given)) → length gs ≡ n → AllJoin (ranges (array n k)) (flat_map ranges gs) (map (join k) gs)
array_join n k gs each same = subst (λ es. AllJoin es (flat_map ranges gs) (map (join k) gs)) (ap (λ i. copies i (ranges k)) same ∙ sym (repeated_copies n (ranges k))) (copies_join k gs each)

element_join : (root other : List ℕ) (e f : Ends) → Joins (e ∷ []) (f ∷ []) (if bytes_eq root other then together (element root (hull e f)) else apart (element root e))
element_join root other e f = either_way (Joins (e ∷ []) (f ∷ [])) (bytes_eq root other) _ _ (λ same m u w. record { left = within_one e (hull e f) (hull_sound e f).left; right = within_one f (hull e f) (hull_sound e f).right }) (λ differ m u w. absurd (cc m))

whole_join : (e f : Ends) → Joins (e ∷ []) (f ∷ []) (if is_wide (hull e f) then too_wide (whole e) else together (whole (hull e f)))
whole_join e f = either_way (Joins (e ∷ []) (f ∷ [])) (is_wide (hull e f)) _ _ (λ yes m u w. absurd (cc w)) (λ no m u w. record { left = within_one e (hull e f) (hull_sound e f).left; right = within_one f (hull e f) (hull_sound e f).right })

mutual
  pub join_has : (k given : Kind) → Joins (ranges k) (ranges given) (join k given)
  join_has truth truth m u w = record { left = λ v h. h; right = λ v h. h }
  join_has truth (whole e) m u w = absurd (cc m)
  join_has truth (element root e) m u w = absurd (cc m)
  join_has truth (array n k) m u w = absurd (cc m)
  join_has truth (struct name fields) m u w = absurd (cc m)
  join_has (whole e) truth m u w = absurd (cc m)
  join_has (whole e) (whole f) m u w = whole_join e f m u w
  join_has (whole e) (element root f) m u w = absurd (cc m)
  join_has (whole e) (array n k) m u w = absurd (cc m)
  join_has (whole e) (struct name fields) m u w = absurd (cc m)
  join_has (element root e) truth m u w = absurd (cc m)
  join_has (element root e) (whole f) m u w = absurd (cc m)
  join_has (element root e) (element other f) m u w = element_join root other e f m u w
  join_has (element root e) (array n k) m u w = absurd (cc m)
  join_has (element root e) (struct name fields) m u w = absurd (cc m)
  join_has (array n k) given m u w = listed (array n k) given n (map (join k)) (array_join n k (parts given) (join_has k)) m u w
  join_has (struct name fields) given m u w = listed (struct name fields) given (length (field_list fields)) (join_fields fields) (fields_join fields (parts given)) m u w

  fields_join : (fields : Fields) (gs : List Kind) → length gs ≡ length (field_list fields) → AllJoin (field_ranges fields) (flat_map ranges gs) (join_fields fields gs)
  fields_join none [] same = none_join
  fields_join none (g ∷ gs) same = absurd (cc same)
  fields_join (field name k fields) [] same = absurd (cc same)
  fields_join (field name k fields) (g ∷ gs) same = one_more (ranges k) (ranges g) (field_ranges fields) (flat_map ranges gs) (join k g) (join_fields fields gs) (join_has k g) (fields_join fields gs (cc same))
