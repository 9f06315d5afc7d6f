-- The numbers of index names lie in the kinds that the static rules give them.
use Rattle.std.proofs.Common.{◌≡◌, ℕ, zero, suc, ◌+◌, ◌*◌, ◌<◌, ◌≤◌, ℤ, pos, ◌-ℤ◌, List, [], ◌∷◌, ◌++◌, map, fold, refl, sym, subst, arith, append_assoc, append-nil}
use Rattle.std.proofs.lemmas.Int.{ints}
use Rattle.std.specs.List.{AllByRecursion, flat_map, range_with_len}
use Rattle.intervals.specs.Ends.{Holds}
use Rattle.hll_tree.specs.declared.tree.Name.{Name}
use Rattle.hll_tree.specs.declared.tree.Slot.{Slot}
use Rattle.hll_tree.specs.declared.tree.Slot.TheVariants as slot
use Rattle.hll_tree.proofs.Gives.{all_append}
use Rattle.hll_meaning.specs.Kinds.{Kind, truth, whole, element, array, struct, cells}
use Rattle.hll_meaning.specs.Runs.{Element, picked, within}
use Rattle.hll_meaning.specs.Judging.{Fault, from_to}
use Rattle.hll_meaning.specs.StaticRules.{Left, index_level, with_slot, fresh_name, left_side}
use Rattle.hll_meaning.specs.Soundness.{AreBound, IsPickedBy}
use Rattle.hll_meaning.proofs.Faultless.{first_empty, second_empty}
use Rattle.hll_meaning.proofs.Numbers.{in_holds}

-- the faults of a left side stay
level_before : (n : Name) (l : Left) (k : Kind) → (index_level n l k).faults ≡ [] → l.faults ≡ []
level_before n l truth h = first_empty l.faults _ h
level_before n l (whole e) h = first_empty l.faults _ h
level_before n l (element root e) h = first_empty l.faults _ h
level_before n l (array size k) h = h
level_before n l (struct name fields) h = first_empty l.faults _ h

slot_before : (s : Slot) (l : Left) → (with_slot l s).faults ≡ [] → l.faults ≡ []
slot_before (slot.Index n) l h = first_empty l.faults (fresh_name (map (λ x. x.0) l.bound) n) (level_before n (record { kind = l.kind; bound = l.bound; faults = l.faults ++ fresh_name (map (λ x. x.0) l.bound) n }) l.kind h)
slot_before (slot.Fixed at position) l h = first_empty l.faults _ h

slots_before : (ss : List Slot) (l : Left) → (fold with_slot l ss).faults ≡ [] → l.faults ≡ []
slots_before [] l h = h
slots_before (s ∷ ss) l h = slot_before s l (slots_before ss (with_slot l s) h)

-- a place of a dimension is one of its numbers
place_holds : (size place : ℕ) → place < size → Holds (from_to (pos 0) (pos size -ℤ pos 1)) (pos place)
place_holds size place h = record { above = omega (arith, ints); below = omega (arith, ints) }

-- what holds at each place holds of all
all_places : {A : Type 0} (P : A → Type 0) (f : ℕ → List A) (size a n : ℕ) → a + n ≤ size → ((place : ℕ) → place < size → AllByRecursion P (f place)) → AllByRecursion P (flat_map f (range_with_len a n))
all_places P f size a zero h each = tt
all_places P f size a (suc n) h each = all_append P (f a) (flat_map f (range_with_len (a + 1) n)) (each a (omega arith)) (all_places P f size (a + 1) n (omega arith) each)

-- an element beside numbers of names further out
abbrev IsPickedWith : Left → List (List ℕ × ℤ) → Element → Type 0
IsPickedWith l outer e = AreBound (e.bound ++ outer) l.bound × (e.kind ≡ l.kind)

all_within : (n : Name) (place start : ℕ) (l : Left) (outer : List (List ℕ × ℤ)) (es : List Element) → AllByRecursion (IsPickedWith l ((n.text, pos place) ∷ outer)) es →
    AllByRecursion (IsPickedWith l outer) (map (within (slot.Index n) place start) es)
all_within n place start l outer [] all = tt
all_within n place start l outer (e ∷ es) all =
    ((subst (λ (xs : List (List ℕ × ℤ)). AreBound xs l.bound) (sym (append_assoc e.bound ((n.text, pos place) ∷ []) outer)) all.0.0, all.0.1), all_within n place start l outer es all.1)

all_picked : (ss : List Slot) (k : Kind) (bound : List (List ℕ × Kind)) (fs : List Fault) (outer : List (List ℕ × ℤ)) → AreBound outer bound → (fold with_slot (record { kind = k; bound = bound; faults = fs }) ss).faults ≡ [] →
    AllByRecursion (IsPickedWith (fold with_slot (record { kind = k; bound = bound; faults = fs }) ss) outer) (picked ss k)
all_picked [] k bound fs outer h none = ((h, refl), tt)
all_picked (s ∷ ss) truth bound fs outer h none = tt
all_picked (s ∷ ss) (whole e) bound fs outer h none = tt
all_picked (s ∷ ss) (element root e) bound fs outer h none = tt
all_picked (s ∷ ss) (struct name fields) bound fs outer h none = tt
all_picked (slot.Fixed at position ∷ ss) (array size k) bound fs outer h none =
    let e = second_empty fs _ (slots_before ss (with_slot (record { kind = array size k; bound = bound; faults = fs }) (slot.Fixed at position)) none) in
    absurd (cc e)
all_picked (slot.Index n ∷ ss) (array size k) bound fs outer h none =
    let further = fs ++ fresh_name (map (λ x. x.0) bound) n in
    let range = from_to (pos 0) (pos size -ℤ pos 1) in
    let l = fold with_slot (record { kind = k; bound = (n.text, whole range) ∷ bound; faults = further }) ss in
    all_places (IsPickedWith l outer) (λ place. map (within (slot.Index n) place (place * cells k)) (picked ss k)) size 0 size (omega arith)
    (λ place below. all_within n place (place * cells k) l outer (picked ss k)
    (all_picked ss k ((n.text, whole range) ∷ bound) further ((n.text, pos place) ∷ outer) (refl, refl, (in_holds range (pos place) (place_holds size place below), tt), h) none))

alone : (l : Left) (es : List Element) → AllByRecursion (IsPickedWith l []) es → AllByRecursion (IsPickedBy l) es
alone l [] all = tt
alone l (e ∷ es) all = (record { bound = subst (λ (xs : List (List ℕ × ℤ)). AreBound xs l.bound) (append-nil e.bound) all.0.0; kind = all.0.1 }, alone l es all.1)

pub picked_bound : (slots : List Slot) (k : Kind) → (left_side slots k).faults ≡ [] → AllByRecursion (IsPickedBy (left_side slots k)) (picked slots k)
picked_bound slots k none = alone (left_side slots k) (picked slots k) (all_picked slots k [] [] [] tt none)
