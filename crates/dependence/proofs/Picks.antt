-- The elements that a left side picks: they cover the cells of a variable, each cell in one way.
use Rattle.std.proofs.Common.{◌≡◌, ℕ, zero, suc, ◌+◌, ◌-◌, ◌*◌, ◌<◌, ◌≤◌, ◌⊎◌, inl, inr, pos, ◌-ℤ◌, List, [], ◌∷◌, ◌++◌, map, fold, length, refl, sym, ap, subst, ◌∙◌, arith}
use Rattle.std.specs.List.{Contains, flat_map, range_with_len}
use Rattle.std.proofs.lemmas.Bool.{cases_lt}
use Rattle.std.proofs.lemmas.List.{length-append}
use Rattle.hll_tree.specs.declared.tree.Name.{Name}
use Rattle.hll_tree.specs.declared.tree.Slot.{Slot}
use Rattle.hll_tree.specs.declared.tree.Slot.TheVariants as slot
use Rattle.hll_meaning.specs.Kinds.{Kind, truth, whole, element, array, struct, cells, ranges}
use Rattle.hll_meaning.specs.Runs.{Element, picked, within}
use Rattle.hll_meaning.specs.Judging.{Fault, from_to}
use Rattle.hll_meaning.specs.StaticRules.{Left, index_level, with_slot, fresh_name, left_side}
use Rattle.hll_meaning.proofs.Faultless.{first_empty, second_empty}
use Rattle.dependence.proofs.Members.{in_front, in_none, front_or_further, in_map, in_flat, in_range, below_end, from_map, from_flat}

-- ---- left sides without faults

-- slots that are index names, one for each outer level of a kind, with what is left of it
abbrev pub AreLevels : List Slot → Kind → Kind → Type 0
AreLevels [] k each = k ≡ each
AreLevels (slot.Index n ∷ ss) truth each = ⊥
AreLevels (slot.Index n ∷ ss) (whole e) each = ⊥
AreLevels (slot.Index n ∷ ss) (element root e) each = ⊥
AreLevels (slot.Index n ∷ ss) (array size k) each = AreLevels ss k each
AreLevels (slot.Index n ∷ ss) (struct name fields) each = ⊥
AreLevels (slot.Fixed at value ∷ ss) k each = ⊥

-- the faults of a left side stay
level_before : (n : Name) (l : Left) (k : Kind) → (index_level n l k).faults ≡ [] → l.faults ≡ []
level_before n l truth h = first_empty l.faults _ h
level_before n l (whole e) h = first_empty l.faults _ h
level_before n l (element root e) h = first_empty l.faults _ h
level_before n l (array size k) h = h
level_before n l (struct name fields) h = first_empty l.faults _ h

slot_before : (s : Slot) (l : Left) → (with_slot l s).faults ≡ [] → l.faults ≡ []
slot_before (slot.Index n) l h = first_empty l.faults (fresh_name (map (λ x. x.0) l.bound) n) (level_before n (record { kind = l.kind; bound = l.bound; faults = l.faults ++ fresh_name (map (λ x. x.0) l.bound) n }) l.kind h)
slot_before (slot.Fixed at position) l h = first_empty l.faults _ h

slots_before : (ss : List Slot) (l : Left) → (fold with_slot l ss).faults ≡ [] → l.faults ≡ []
slots_before [] l h = h
slots_before (s ∷ ss) l h = slot_before s l (slots_before ss (with_slot l s) h)

-- an index name where no level is left
no_level : (ss : List Slot) (l : Left) (fs more : List Fault) (f : Fault) → l.faults ≡ fs ++ f ∷ more → (fold with_slot l ss).faults ≡ [] → ⊥
no_level ss l fs more f is none = let e : f ∷ more ≡ [] = second_empty fs (f ∷ more) (sym is ∙ slots_before ss l none) in cc e

levels_from : (ss : List Slot) (k : Kind) (bound : List (List ℕ × Kind)) (fs : List Fault) → (fold with_slot (record { kind = k; bound = bound; faults = fs }) ss).faults ≡ [] →
    AreLevels ss k (fold with_slot (record { kind = k; bound = bound; faults = fs }) ss).kind
levels_from [] k bound fs none = refl
levels_from (slot.Index n ∷ ss) truth bound fs none = no_level ss (with_slot (record { kind = truth; bound = bound; faults = fs }) (slot.Index n)) _ _ _ refl none
levels_from (slot.Index n ∷ ss) (whole e) bound fs none = no_level ss (with_slot (record { kind = whole e; bound = bound; faults = fs }) (slot.Index n)) _ _ _ refl none
levels_from (slot.Index n ∷ ss) (element root e) bound fs none = no_level ss (with_slot (record { kind = element root e; bound = bound; faults = fs }) (slot.Index n)) _ _ _ refl none
levels_from (slot.Index n ∷ ss) (array size k) bound fs none =
    levels_from ss k ((n.text, whole (from_to (pos 0) (pos size -ℤ pos 1))) ∷ bound) (fs ++ fresh_name (map (λ x. x.0) bound) n) none
levels_from (slot.Index n ∷ ss) (struct name fields) bound fs none = no_level ss (with_slot (record { kind = struct name fields; bound = bound; faults = fs }) (slot.Index n)) _ _ _ refl none
levels_from (slot.Fixed at position ∷ ss) k bound fs none = no_level ss (with_slot (record { kind = k; bound = bound; faults = fs }) (slot.Fixed at position)) _ _ _ refl none

-- the slots of a left side without faults are index names, one for each level
pub levels_of : (slots : List Slot) (k : Kind) → (left_side slots k).faults ≡ [] → AreLevels slots k (left_side slots k).kind
levels_of slots k none = levels_from slots k [] [] none

-- ---- numbers

-- a place of so many parts of one size stands at a place of one of them
pub record IsAtPart (size each place : ℕ) : Type 0 where
  pub part : ℕ
  pub rest : ℕ
  pub below : part < size
  pub within : rest < each
  pub is : place ≡ part * each + rest

pub at_part : (size each place : ℕ) → place < size * each → IsAtPart size each place
at_part zero each place h = absurd (omega arith)
at_part (suc size) each place h = by (at_part size each (place - each)) (cases_lt place each)
  where
    by : (place - each < size * each → IsAtPart size each (place - each)) → (place < each) ⊎ (each ≤ place) → IsAtPart (suc size) each place
    by further (inl small) = record { part = 0; rest = place; below = omega arith; within = small; is = omega arith }
    by further (inr large) =
        let r = further (omega arith) in
        record { part = suc r.part; rest = r.rest; below = omega (arith, r.below); within = r.within; is = omega (arith, r.is) }

pub same_part : (i j each p q : ℕ) → p < each → q < each → i * each + p ≡ j * each + q → (i ≡ j) × (p ≡ q)
same_part zero zero each p q h k same = (refl, omega arith)
same_part zero (suc j) each p q h k same = absurd (omega arith)
same_part (suc i) zero each p q h k same = absurd (omega arith)
same_part (suc i) (suc j) each p q h k same =
    let r = same_part i j each p q h k (omega arith) in
    (ap suc r.0, r.1)

-- a part ends within the whole
part_within : (size each i p : ℕ) → i < size → p ≤ each → i * each + p ≤ size * each
part_within zero each i p h k = absurd (omega arith)
part_within (suc size) each zero p h k = omega arith
part_within (suc size) each (suc i) p h k = omega (arith, part_within size each i p (omega arith) k)

repeated_from : {A : Type 0} (xs : List A) (a n : ℕ) → length (flat_map (λ k. xs) (range_with_len a n)) ≡ n * length xs
repeated_from xs a zero = omega arith
repeated_from xs a (suc n) = omega (arith, length-append xs (flat_map (λ k. xs) (range_with_len (a + 1) n)), repeated_from xs (a + 1) n)

-- the cells of an array
pub array_cells : (size : ℕ) (k : Kind) → cells (array size k) ≡ size * cells k
array_cells size k = repeated_from (ranges k) 0 size

-- ---- elements that are picked

-- an element of a part, seen from the whole
pub record IsInPart (n : Name) (size : ℕ) (ss : List Slot) (k : Kind) (e : Element) : Type 0 where
  pub place : ℕ
  pub below : place < size
  pub inner : Element
  pub picks : Contains (picked ss k) inner
  pub is : within (slot.Index n) place (place * cells k) inner ≡ e

pub in_part : (n : Name) (size : ℕ) (ss : List Slot) (k : Kind) (e : Element) → Contains (picked (slot.Index n ∷ ss) (array size k)) e → IsInPart n size ss k e
in_part n size ss k e h =
    let a = from_flat (λ place. map (within (slot.Index n) place (place * cells k)) (picked ss k)) (range_with_len 0 size) e h in
    let b = from_map (within (slot.Index n) a.of (a.of * cells k)) (picked ss k) e a.here in
    record { place = a.of; below = omega (arith, below_end 0 size a.of a.there); inner = b.of; picks = b.there; is = b.is }

-- where nothing is left but the whole
pub whole_alone : (k : Kind) (e : Element) → Contains (picked [] k) e → record { bound = []; start = 0; kind = k } ≡ e
whole_alone k e h = by (front_or_further (record { bound = []; start = 0; kind = k }) [] e h)
  where
    by : (record { bound = []; start = 0; kind = k } ≡ e) ⊎ Contains [] e → record { bound = []; start = 0; kind = k } ≡ e
    by (inl same) = same
    by (inr there) = absurd (in_none e there)

-- each element lies within the whole, and is of the kind that is left
pub record LiesIn (k each : Kind) (e : Element) : Type 0 where
  pub kind : e.kind ≡ each
  pub ends : e.start + cells e.kind ≤ cells k

pub lies_in : (ss : List Slot) (k each : Kind) → AreLevels ss k each → (e : Element) → Contains (picked ss k) e → LiesIn k each e
lies_in [] k each h e c =
    let is = whole_alone k e c in
    record { kind = ap (λ x. x.kind) (sym is) ∙ h; ends = subst (λ (x : Element). x.start + cells x.kind ≤ cells k) is (omega arith) }
lies_in (slot.Index n ∷ ss) truth each h e c = absurd h
lies_in (slot.Index n ∷ ss) (whole x) each h e c = absurd h
lies_in (slot.Index n ∷ ss) (element root x) each h e c = absurd h
lies_in (slot.Index n ∷ ss) (array size k) each h e c =
    let a = in_part n size ss k e c in
    let i = lies_in ss k each h a.inner a.picks in
    let bound : a.place * cells k + (a.inner.start + cells a.inner.kind) ≤ size * cells k = part_within size (cells k) a.place (a.inner.start + cells a.inner.kind) a.below i.ends in
    let ends : (within (slot.Index n) a.place (a.place * cells k) a.inner).start + cells a.inner.kind ≤ cells (array size k) = omega (arith, bound, array_cells size k) in
    record { kind = ap (λ x. x.kind) (sym a.is) ∙ i.kind; ends = subst (λ (x : Element). x.start + cells x.kind ≤ cells (array size k)) a.is ends }
lies_in (slot.Index n ∷ ss) (struct name fields) each h e c = absurd h
lies_in (slot.Fixed at value ∷ ss) k each h e c = absurd h

-- a place lies in an element that is picked
pub record IsCovered (es : List Element) (place : ℕ) : Type 0 where
  pub element : Element
  pub picks : Contains es element
  pub rest : ℕ
  pub within : rest < cells element.kind
  pub is : place ≡ element.start + rest

pub is_covered : (ss : List Slot) (k each : Kind) → AreLevels ss k each → (place : ℕ) → place < cells k → IsCovered (picked ss k) place
is_covered [] k each h place below =
    record { element = record { bound = []; start = 0; kind = k }; picks = in_front (record { bound = []; start = 0; kind = k }) []; rest = place; within = below; is = omega arith }
is_covered (slot.Index n ∷ ss) truth each h place below = absurd h
is_covered (slot.Index n ∷ ss) (whole e) each h place below = absurd h
is_covered (slot.Index n ∷ ss) (element root e) each h place below = absurd h
is_covered (slot.Index n ∷ ss) (array size k) each h place below =
    let p = at_part size (cells k) place (omega (arith, array_cells size k, below)) in
    let c = is_covered ss k each h p.rest p.within in
    record {
      element = within (slot.Index n) p.part (p.part * cells k) c.element;
      picks =
          in_flat (λ at. map (within (slot.Index n) at (at * cells k)) (picked ss k)) (range_with_len 0 size) p.part (within (slot.Index n) p.part (p.part * cells k) c.element)
          (subst (Contains (range_with_len 0 size)) (omega arith) (in_range 0 size p.part p.below))
          (in_map (within (slot.Index n) p.part (p.part * cells k)) (picked ss k) c.element c.picks);
      rest = c.rest;
      within = c.within;
      is = omega (arith, p.is, c.is);
    }
is_covered (slot.Index n ∷ ss) (struct name fields) each h place below = absurd h
is_covered (slot.Fixed at value ∷ ss) k each h place below = absurd h

-- and in one alone, at one place of it
pub in_one_way : (ss : List Slot) (k each : Kind) → AreLevels ss k each → (e f : Element) → Contains (picked ss k) e → Contains (picked ss k) f → (p q : ℕ) → p < cells e.kind → q < cells f.kind →
    e.start + p ≡ f.start + q → (e ≡ f) × (p ≡ q)
in_one_way [] k each h e f c d p q below under same =
    let a = whole_alone k e c in
    let b = whole_alone k f d in
    (sym a ∙ b, omega (arith, same, ap (λ (x : Element). x.start) a, ap (λ (x : Element). x.start) b))
in_one_way (slot.Index n ∷ ss) truth each h e f c d p q below under same = absurd h
in_one_way (slot.Index n ∷ ss) (whole x) each h e f c d p q below under same = absurd h
in_one_way (slot.Index n ∷ ss) (element root x) each h e f c d p q below under same = absurd h
in_one_way (slot.Index n ∷ ss) (array size k) each h e f c d p q below under same =
    let a = in_part n size ss k e c in
    let b = in_part n size ss k f d in
    let a_ends = (lies_in ss k each h a.inner a.picks).ends in
    let b_ends = (lies_in ss k each h b.inner b.picks).ends in
    let a_below : p < cells a.inner.kind = subst (λ (x : Element). p < cells x.kind) (sym a.is) below in
    let b_below : q < cells b.inner.kind = subst (λ (x : Element). q < cells x.kind) (sym b.is) under in
    let a_start : a.place * cells k + a.inner.start ≡ e.start = ap (λ (x : Element). x.start) a.is in
    let b_start : b.place * cells k + b.inner.start ≡ f.start = ap (λ (x : Element). x.start) b.is in
    let places : a.place * cells k + (a.inner.start + p) ≡ b.place * cells k + (b.inner.start + q) = omega (arith, a_start, b_start, same) in
    let parts = same_part a.place b.place (cells k) (a.inner.start + p) (b.inner.start + q) (omega (arith, a_ends, a_below)) (omega (arith, b_ends, b_below)) places in
    let rest = in_one_way ss k each h a.inner b.inner a.picks b.picks p q a_below b_below parts.1 in
    (sym a.is ∙ (λ i. within (slot.Index n) (parts.0 i) (parts.0 i * cells k) (rest.0 i)) ∙ b.is, rest.1)
in_one_way (slot.Index n ∷ ss) (struct name fields) each h e f c d p q below under same = absurd h
in_one_way (slot.Fixed at value ∷ ss) k each h e f c d p q below under same = absurd h
