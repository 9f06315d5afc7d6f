-- How slots lead to a place of a value, level by level.
use Rattle.std.proofs.Common.{◌≡◌, ℕ, zero, suc, ◌+◌, ◌*◌, ◌/◌, ◌%◌, ◌<◌, ◌≤◌, ◌⊎◌, inl, inr, false, ℤ, pos, List, [], ◌∷◌, ◌++◌, map, reverse, None, Some, refl, sym, ap, subst, ◌∙◌, arith, append_assoc}
use Rattle.std.specs.List.{Contains, range_with_len}
use Rattle.std.proofs.Math.Nat.{div-add-mod, mod-lt, mul-div_cancel_left, mul-le-mul_right, mul_comm}
use Rattle.std.proofs.lemmas.Bool.{cases_lt}
use Rattle.std.proofs.lemmas.List.{append-nil, map-append, reverse-append}
use Rattle.hll_tree.specs.declared.tree.Slot.{Slot}
use Rattle.hll_tree.specs.declared.tree.Slot.TheVariants as slot
use Rattle.hll_meaning.specs.Kinds.{Kind, truth, whole, element, array, struct, cells}
use Rattle.hll_meaning.specs.Runs.{Element, picked, within}
use Rattle.hll_meaning.specs.Types.{kind_of}
use Rattle.hll_types.proofs.LeftSides.{is_array}
use Rattle.dependence.proofs.Members.{in_front, in_map, in_flat, in_range}
use Rattle.dependence.proofs.Picks.{AreLevels, array_cells}
use Rattle.cell_definitions.specs.declared.spot.Level.{Level}
use Rattle.cell_definitions.specs.declared.spot.Numbered.{Numbered}
use Rattle.cell_definitions.specs.declared.spot.Spot.{Spot}
use Rattle.cell_definitions.specs.Ways.{numbers_of}
use Rattle.cell_definitions.specs.Parts.{IsLevel, IsFoundIn}

-- ---- one level

-- no level where the kind is no array
pub none_left : (s : Slot) (k : Kind) → is_array k ≡ false → IsLevel s k None
none_left (slot.Index n) truth h = refl
none_left (slot.Index n) (whole e) h = refl
none_left (slot.Index n) (element root e) h = refl
none_left (slot.Index n) (array size k) h = absurd (cc h)
none_left (slot.Index n) (struct name fields) h = refl
none_left (slot.Fixed at value) k h = refl

-- a slot of a left side without faults has its level
pub some_left : (s : Slot) (rest : List Slot) (k each : Kind) → AreLevels (s ∷ rest) k each → IsLevel s k None → ⊥
some_left (slot.Index n) rest truth each h none = h
some_left (slot.Index n) rest (whole e) each h none = h
some_left (slot.Index n) rest (element root e) each h none = h
some_left (slot.Index n) rest (array size k) each h none = none
some_left (slot.Index n) rest (struct name fields) each h none = h
some_left (slot.Fixed at value) rest k each h none = h

-- what is known of a level
pub record HasLevel (s : Slot) (k : Kind) (l : Level) : Type 0 where
  pub kind : k ≡ array l.size (kind_of l.each.now)
  pub elements : (ss : List Slot) (f : Element) (place : ℕ) → place < l.size → Contains (picked ss (kind_of l.each.now)) f →
      Contains (picked (s ∷ ss) k) (record { bound = f.bound ++ (l.name.now, pos place) ∷ []; start = place * cells (kind_of l.each.now) + f.start; kind = f.kind })
  pub levels : (ss : List Slot) (each : Kind) → AreLevels (s ∷ ss) k each → AreLevels ss (kind_of l.each.now) each

pub has_level : (s : Slot) (k : Kind) (l : Level) → IsLevel s k (Some l) → HasLevel s k l
has_level (slot.Index n) truth l h = absurd (cc h)
has_level (slot.Index n) (whole e) l h = absurd (cc h)
has_level (slot.Index n) (element root e) l h = absurd (cc h)
has_level (slot.Index n) (array size k) l h =
    let same : k ≡ kind_of l.each.now = sym h.2 in
    let sizes : size ≡ l.size = sym h.1 in
    record {
      kind = λ i. array (sizes i) (same i);
      elements = λ ss f place below there.
          subst (Contains (picked (slot.Index n ∷ ss) (array size k))) (λ i. record { bound = f.bound ++ (sym h.0 i, pos place) ∷ []; start = place * cells (same i) + f.start; kind = f.kind })
          (in_flat (λ at. map (within (slot.Index n) at (at * cells k)) (picked ss k)) (range_with_len 0 size) place (within (slot.Index n) place (place * cells k) f)
          (subst (Contains (range_with_len 0 size)) (let own : 0 + place ≡ place = omega arith in own) (in_range 0 size place (omega (arith, sizes, below))))
          (in_map (within (slot.Index n) place (place * cells k)) (picked ss k) f (subst (λ l. Contains (picked ss l) f) h.2 there)));
      levels = λ ss each levels. subst (λ l. AreLevels ss l each) same levels;
    }
has_level (slot.Index n) (struct name fields) l h = absurd (cc h)
has_level (slot.Fixed at value) k l h = absurd (cc h)

-- ---- on the way

-- an element of a part, seen from the whole
abbrev outward : ℕ → List (List ℕ × ℤ) → Element → Element
outward base numbers f = record { bound = f.bound ++ numbers; start = base + f.start; kind = f.kind }

-- some slots are passed, and the rest pick in a value of a kind what all pick in the whole
pub record IsWalked (slots rest : List Slot) (k now each : Kind) (count place left : ℕ) (numbers : List Numbered) : Type 0 where
  pub counted : count ≡ cells now
  pub within : left < count
  pub levels : AreLevels rest now each
  pub base : ℕ
  pub is : place ≡ base + left
  pub out : (f : Element) → Contains (picked rest now) f → Contains (picked slots k) (outward base (numbers_of numbers) f)

pub at_start : (slots : List Slot) (k each : Kind) (count place : ℕ) (numbers : List Numbered) → AreLevels slots k each → count ≡ cells k → place < count → numbers ≡ [] → IsWalked slots slots k k each count place place numbers
at_start slots k each count place numbers levels counted within none = record {
  counted = counted;
  within = within;
  levels = levels;
  base = 0;
  is = omega arith;
  out = λ f there. subst (Contains (picked slots k)) (same f) there;
}
  where
    same : (f : Element) → f ≡ outward 0 (numbers_of numbers) f
    same f =
        let bound : f.bound ≡ f.bound ++ numbers_of numbers = sym (append-nil f.bound) ∙ ap (λ (xs : List Numbered). f.bound ++ numbers_of xs) (sym none) in
        let start : f.start ≡ 0 + f.start = omega arith in
        λ i. record { bound = bound i; start = start i; kind = f.kind }

-- a division by a size or by a number of cells
some_factor : (left a b : ℕ) → left < a * b → (0 < a) × (0 < b)
some_factor left zero b h = absurd (omega arith)
some_factor left (suc a) zero h = absurd (omega arith)
some_factor left (suc a) (suc b) h = (omega arith, omega arith)

pub some_size : (slots rest : List Slot) (s : Slot) (k now each : Kind) (count place left : ℕ) (numbers : List Numbered) (l : Level) → IsWalked slots (s ∷ rest) k now each count place left numbers → IsLevel s now (Some l) → (0 < l.size) × (count / l.size ≡ cells (kind_of l.each.now)) × (0 < cells (kind_of l.each.now))
some_size slots rest s k now each count place left numbers l w level =
    let h = has_level s now l level in
    let c = cells (kind_of l.each.now) in
    let whole : count ≡ l.size * c = w.counted ∙ ap cells h.kind ∙ array_cells l.size (kind_of l.each.now) in
    let factors = some_factor left l.size c (omega (arith, w.within, whole)) in
    (factors.0, ap (λ n. n / l.size) whole ∙ mul-div_cancel_left c factors.0, factors.1)

numbers_more : (numbers : List Numbered) (n : Numbered) → numbers_of (numbers ++ n ∷ []) ≡ (n.name.now, n.number) ∷ numbers_of numbers
numbers_more numbers n =
    ap reverse (map-append (λ (x : Numbered). (x.name.now, x.number)) numbers (n ∷ [])) ∙ reverse-append (map (λ (x : Numbered). (x.name.now, x.number)) numbers) ((n.name.now, n.number) ∷ [])

-- one slot further
pub one_further : (slots rest : List Slot) (s : Slot) (k now each : Kind) (count place left : ℕ) (numbers : List Numbered) (l : Level) (n : Numbered) → IsWalked slots (s ∷ rest) k now each count place left numbers → IsLevel s now (Some l) →
    n.name.now ≡ l.name.now → n.number ≡ pos (left / (count / l.size)) → IsWalked slots rest k (kind_of l.each.now) each (count / l.size) place (left % (count / l.size)) (numbers ++ n ∷ [])
one_further slots rest s k now each count place left numbers l n w level name number =
    let h = has_level s now l level in
    let sizes = some_size slots rest s k now each count place left numbers l w level in
    let c = cells (kind_of l.each.now) in
    let part = count / l.size in
    let p = left / part in
    let r = left % part in
    let counted : part ≡ c = sizes.1 in
    let some : 0 < part = omega (arith, sizes.2, counted) in
    let split : part * p + r ≡ left = div-add-mod left part in
    let small : r < part = mod-lt left some in
    let whole : count ≡ l.size * c = w.counted ∙ ap cells h.kind ∙ array_cells l.size (kind_of l.each.now) in
    let turned : part * p ≡ p * c = ap (λ n. n * p) counted ∙ mul_comm c p in
    let below : p < l.size = below_size p l.size c r left (omega (arith, split, turned)) (omega (arith, w.within, whole)) in
    record {
      counted = counted;
      within = small;
      levels = h.levels rest each w.levels;
      base = w.base + p * c;
      is = omega (arith, w.is, split, turned);
      out = λ f there. subst (Contains (picked slots k)) (same f p number) (w.out (record { bound = f.bound ++ (l.name.now, pos p) ∷ []; start = p * c + f.start; kind = f.kind }) (h.elements rest f p below there));
    }
  where
    same : (f : Element) (p : ℕ) → n.number ≡ pos p → outward w.base (numbers_of numbers) (record { bound = f.bound ++ (l.name.now, pos p) ∷ []; start = p * cells (kind_of l.each.now) + f.start; kind = f.kind })
        ≡ outward (w.base + p * cells (kind_of l.each.now)) (numbers_of (numbers ++ n ∷ [])) f
    same f p is =
        let entry : (l.name.now, pos p) ∷ numbers_of numbers ≡ numbers_of (numbers ++ n ∷ []) = (λ i. (sym name i, sym is i) ∷ numbers_of numbers) ∙ sym (numbers_more numbers n) in
        let bound : (f.bound ++ (l.name.now, pos p) ∷ []) ++ numbers_of numbers ≡ f.bound ++ numbers_of (numbers ++ n ∷ []) = append_assoc f.bound ((l.name.now, pos p) ∷ []) (numbers_of numbers) ∙ ap (λ xs. f.bound ++ xs) entry in
        let start : w.base + (p * cells (kind_of l.each.now) + f.start) ≡ (w.base + p * cells (kind_of l.each.now)) + f.start = omega arith in
        λ i. record { bound = bound i; start = start i; kind = f.kind }

    below_size : (p size c r left : ℕ) → p * c + r ≡ left → left < size * c → p < size
    below_size p size c r left split small = by (cases_lt p size)
      where
        by : (p < size) ⊎ (size ≤ p) → p < size
        by (inl yes_so) = yes_so
        by (inr large) = absurd (omega (arith, mul-le-mul_right c large, split, small))

-- ---- at the end

pub at_end : (slots : List Slot) (k each : Kind) (count place : ℕ) (numbers : List Numbered) (spot : Spot) → IsWalked slots [] k (kind_of spot.ty.now) each count place spot.place numbers → IsFoundIn slots k place numbers spot
at_end slots k each count place numbers spot w =
    let alone : Element = record { bound = []; start = 0; kind = kind_of spot.ty.now } in
    record {
      element = outward w.base (numbers_of numbers) alone;
      picks = w.out alone (in_front alone []);
      within = omega (arith, w.within, w.counted);
      is_place = omega (arith, w.is);
      bound = refl;
      kind = refl;
    }
