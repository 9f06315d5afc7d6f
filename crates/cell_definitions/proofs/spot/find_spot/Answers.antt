use Rattle.std.proofs.Common.{◌≡◌, ℕ, suc, ◌+◌, ◌/◌, ◌%◌, ◌<◌, ◌^◌, ℤ, pos, List, ◌∷◌, length, drop, get_or, refl, sym, ap, subst, ◌∙◌, arith, drop-cons, of_z, to_z}
use Rattle.std.specs.Int.{w128}
use Rattle.std.proofs.Math.Facts.{Fits-lt-pow}
use Rattle.std.proofs.Math.Nat.{div-le_self}
use Rattle.std.proofs.lemmas.Int.{ints}
use Rattle.std.proofs.lemmas.List.{drop_all}
use Rattle.hll_tree.specs.declared.tree.Slot.{Slot}
use Rattle.hll_meaning.specs.Kinds.{cells}
use Rattle.hll_meaning.specs.StaticRules.{left_side}
use Rattle.hll_meaning.specs.Types.{kind_of}
use Rattle.dependence.proofs.Picks.{levels_of}
use Rattle.cell_definitions.specs.declared.spot.Numbered.{Numbered}
use Rattle.cell_definitions.proofs.Spots.{IsWalked, at_start, some_size, some_left, one_further, at_end}
use Rattle.cell_definitions.proofs.spot.find_spot.Goals as goal
use Rattle.cell_definitions.proofs.spot.find_spot.Goals.{In-Some, else-loop-slot-test, then-loop-slot-test+in_default}

-- the first of the slots that are left
first_left : (slots : List Slot) (i : ℕ) (s : Slot) → i < length slots → s ≡ get_or slots i s → drop i slots ≡ s ∷ drop (i + 1) slots
first_left slots i s below is = drop-cons slots i s below ∙ ap (λ (x : Slot). x ∷ drop (suc i) slots) (sym is) ∙ ap (λ (n : ℕ). s ∷ drop n slots) (let more : suc i ≡ i + 1 = omega arith in more)

small_number : (n : ℕ) (z : ℤ) → n < 2 ^ 64 → z ≡ pos n → to_z w128 (of_z w128 z) ≡ pos n
small_number n z h is = ap (λ (x : ℤ). to_z w128 (of_z w128 x)) is ∙ omega (arith, ints)

-- the size of a level, with the number of cells of its elements
sizes : (c : In-Some) → (0 < c.in-Some.level.size) × (c.loop-slot.count / c.in-Some.level.size ≡ cells (kind_of c.in-Some.level.each.now)) × (0 < cells (kind_of c.in-Some.level.each.now))
sizes c =
    let slots = c.args.slots.now in
    let k = kind_of c.args.ty.now in
    let rest = drop (c.loop-slot.slot-index + 1) slots in
    let now = kind_of c.loop-slot.spot.ty.now in
    let each = (left_side slots k).kind in
    let walked = subst (λ ss. IsWalked slots ss k now each c.loop-slot.count c.args.place c.loop-slot.spot.place c.loop-slot.numbers.items) (first_left slots c.loop-slot.slot-index c.slot-item.result c.loop-slot-test.true c.slot-item.is) c.loop-slot.invariant in
    some_size slots rest c.slot-item.result k now each c.loop-slot.count c.args.place c.loop-slot.spot.place c.loop-slot.numbers.items c.in-Some.level walked c.in-Some.ensures

pub loop-slot-init : goal.loop-slot-init
loop-slot-init c =
    let slots = c.args.slots.now in
    let k = kind_of c.args.ty.now in
    at_start slots k (left_side slots k).kind c.args.count c.args.place c.args.numbers.now.items (levels_of slots k c.requires.levels) c.requires.counted c.requires.within c.requires.empty

pub nonzero_div-spot : goal.nonzero_div-spot
nonzero_div-spot c = let h = sizes (goal.at.nonzero_div-spot c).In-Some in omega (arith, h.1, h.2)

pub nonzero_rem-spot : goal.nonzero_rem-spot
nonzero_rem-spot c = let h = sizes (goal.at.nonzero_rem-spot c).In-Some in omega (arith, h.1, h.2)

pub loop-slot-preserved : goal.loop-slot-preserved
loop-slot-preserved c =
    let slots = c.args.slots.now in
    let k = kind_of c.args.ty.now in
    let rest = drop (c.loop-slot.slot-index + 1) slots in
    let now = kind_of c.loop-slot.spot.ty.now in
    let each = (left_side slots k).kind in
    let left = c.loop-slot.spot.place in
    let part = c.loop-slot.count / c.in-Some.level.size in
    let walked = subst (λ ss. IsWalked slots ss k now each c.loop-slot.count c.args.place left c.loop-slot.numbers.items) (first_left slots c.loop-slot.slot-index c.slot-item.result c.loop-slot-test.true c.slot-item.is) c.loop-slot.invariant in
    let small : left / part < 2 ^ 64 = omega (arith, div-le_self left part, c.loop-slot.invariant.within, Fits-lt-pow c.loop-slot.auto.count-fits) in
    let n : Numbered = record { name = c.in-Some.level.name; number = to_z w128 (of_z w128 c.from.result) } in
    subst (λ ns. IsWalked slots rest k (kind_of c.in-Some.level.each.now) each part c.args.place (left % part) ns) (sym {A = List Numbered} c.in_ok-push.ensures.items)
    (one_further slots rest c.slot-item.result k now each c.loop-slot.count c.args.place left c.loop-slot.numbers.items c.in-Some.level n walked c.in-Some.ensures refl (small_number (left / part) c.from.result small c.from.ensures))

pub returns : goal.returns
returns c =
    let slots = c.args.slots.now in
    let k = kind_of c.args.ty.now in
    let now = kind_of c.loop-slot.spot.ty.now in
    let each = (left_side slots k).kind in
    let inv = c.loop-slot.invariant in
    let there = λ (ss : List Slot). IsWalked slots ss k now each c.loop-slot.count c.args.place c.loop-slot.spot.place c.loop-slot.numbers.items in
    elim c.loop-slot-test.branch [
      | else-loop-slot-test w ↦ at_end slots k each c.loop-slot.count c.args.place c.loop-slot.numbers.items c.loop-slot.spot (subst there (drop_all c.loop-slot.slot-index slots w.loop-slot-test.false) inv)
      | then-loop-slot-test+in_default w ↦
          absurd (some_left w.slot-item.result (drop (c.loop-slot.slot-index + 1) slots) now each (subst there (first_left slots c.loop-slot.slot-index w.slot-item.result w.loop-slot-test.true w.slot-item.is) inv).levels w.in_default.ensures)
    ]
