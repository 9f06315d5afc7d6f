-- The ends of the numbers of a cell: those of its place in each element in which it stands.
use Rattle.std.proofs.Common.{◌≡◌, ℕ, zero, suc, ◌+◌, ◌-◌, ◌*◌, ◌<◌, ◌≤◌, true, false, List, [], ◌∷◌, ◌++◌, length, Some, sym, ap, subst, ◌∙◌, arith}
use Rattle.std.specs.List.{Contains, flat_map}
use Rattle.std.specs.Str.{bytes_eq}
use Rattle.std.proofs.lemmas.List.{get_or_append_left, get_or-append-add}
use Rattle.intervals.specs.Ends.{Ends}
use Rattle.hll_tree.specs.declared.tree.Def.{Def}
use Rattle.hll_tree.specs.declared.tree.HllModel.{HllModel}
use Rattle.hll_tree.specs.declared.tree.Slot.{Slot}
use Rattle.hll_tree.specs.declared.tree.Slot.TheVariants as slot
use Rattle.hll_meaning.specs.Kinds.{Kind, truth, whole, element, array, struct, truths, cells, ranges}
use Rattle.hll_meaning.specs.Runs.{Element, picked, variables}
use Rattle.hll_meaning.specs.StaticRules.{left_side, Well}
use Rattle.hll_meaning.proofs.AreIn.{copies, copies_more, repeated_copies}
use Rattle.hll_meaning.proofs.Scenes.{by_test}
use Rattle.dependence.specs.Dependence.{IsDefinedBy}
use Rattle.dependence.specs.Mentions.{Stretch, stretch_from}
use Rattle.dependence.proofs.DefinedCells.{is_fine, is_stretch, stretch_further, defined_inside}
use Rattle.dependence.proofs.Picks.{AreLevels, in_part, levels_of, lies_in, whole_alone}
use Rattle.dependence.proofs.RowNumbers.{ends_at}
use Rattle.dependence.proofs.RunsOfCells.{first_stretch}

-- the ends of all cells
abbrev pub row_ends : HllModel → List Ends
row_ends m = flat_map (λ x. ranges x.1) (variables m)

-- ---- variables

-- the ends of a place of a variable are those of its cell
pub variable_ends : (start : ℕ) (xs : List (List ℕ × Kind)) (sought : List ℕ) (s : Stretch) (p cell : ℕ) → stretch_from start xs sought ≡ Some s → p < cells s.kind → start + cell ≡ s.start + p →
    ends_at (flat_map (λ x. ranges x.1) xs) cell ≡ ends_at (ranges s.kind) p
variable_ends start [] sought s p cell is below at = absurd (cc is)
variable_ends start ((own, k) ∷ xs) sought s p cell is below at = by_test (bytes_eq own sought) here (λ other. further other (variable_ends (start + cells k) xs sought s p (cell - cells k) (sym (stretch_further start own k xs sought other) ∙ is) below))
  where
    here : bytes_eq own sought ≡ true → ends_at (ranges k ++ flat_map (λ x. ranges x.1) xs) cell ≡ ends_at (ranges s.kind) p
    here same =
        let e = first_stretch start own k xs sought s same is in
        let starts : start ≡ s.start = ap (λ (z : Stretch). z.start) e in
        let kinds : k ≡ s.kind = ap (λ (z : Stretch). z.kind) e in
        let sizes : cells k ≡ cells s.kind = ap cells kinds in
        let place : cell ≡ p = omega (arith, starts, at) in
        get_or_append_left (ranges k) (flat_map (λ x. ranges x.1) xs) truths cell (omega (arith, place, sizes, below)) ∙ (λ i. ends_at (ranges (kinds i)) (place i))

    further : bytes_eq own sought ≡ false → ((start + cells k) + (cell - cells k) ≡ s.start + p → ends_at (flat_map (λ x. ranges x.1) xs) (cell - cells k) ≡ ends_at (ranges s.kind) p) →
        ends_at (ranges k ++ flat_map (λ x. ranges x.1) xs) cell ≡ ends_at (ranges s.kind) p
    further other rest =
        let from : start + cells k ≤ s.start = (is_stretch (start + cells k) xs sought s (sym (stretch_further start own k xs sought other) ∙ is)).from in
        let moved : cell ≡ length (ranges k) + (cell - cells k) = omega (arith, from, at) in
        ap (ends_at (ranges k ++ flat_map (λ x. ranges x.1) xs)) moved ∙ get_or-append-add (ranges k) (flat_map (λ x. ranges x.1) xs) (cell - cells k) truths ∙ rest (omega (arith, from, at))

-- ---- elements

-- the ends in one of so many copies
copy_ends : (es : List Ends) (n p i : ℕ) → p < n → i < length es → ends_at (copies n es) (p * length es + i) ≡ ends_at es i
copy_ends es zero p i h below = absurd (omega arith)
copy_ends es (suc n) zero i h below =
    ap (λ (fs : List Ends). ends_at fs (zero * length es + i)) (copies_more n es) ∙ ap (ends_at (es ++ copies n es)) first ∙ get_or_append_left es (copies n es) truths i below
  where
    first : zero * length es + i ≡ i
    first = omega arith
copy_ends es (suc n) (suc p) i h below =
    ap (λ (fs : List Ends). ends_at fs (suc p * length es + i)) (copies_more n es) ∙ ap (ends_at (es ++ copies n es)) moved ∙ get_or-append-add es (copies n es) (p * length es + i) truths ∙ copy_ends es n p i (omega arith) below
  where
    moved : suc p * length es + i ≡ length es + (p * length es + i)
    moved = omega arith

array_ends : (n p i : ℕ) (k : Kind) → p < n → i < cells k → ends_at (ranges (array n k)) (p * cells k + i) ≡ ends_at (ranges k) i
array_ends n p i k h below = ap (λ (fs : List Ends). ends_at fs (p * cells k + i)) (repeated_copies n (ranges k)) ∙ copy_ends (ranges k) n p i h below

-- the ends of a place of an element that is picked are those of its place in the whole
pub element_ends : (ss : List Slot) (k each : Kind) → AreLevels ss k each → (e : Element) → Contains (picked ss k) e → (place : ℕ) → place < cells e.kind → ends_at (ranges k) (e.start + place) ≡ ends_at (ranges e.kind) place
element_ends [] k each h e c place below = subst (λ (x : Element). ends_at (ranges k) (x.start + place) ≡ ends_at (ranges x.kind) place) (whole_alone k e c) (ap (ends_at (ranges k)) none)
  where
    none : 0 + place ≡ place
    none = omega arith
element_ends (slot.Index n ∷ ss) truth each h e c place below = absurd h
element_ends (slot.Index n ∷ ss) (whole x) each h e c place below = absurd h
element_ends (slot.Index n ∷ ss) (element root x) each h e c place below = absurd h
element_ends (slot.Index n ∷ ss) (array size k) each h e c place below =
    let a = in_part n size ss k e c in
    let ends = (lies_in ss k each h a.inner a.picks).ends in
    let inside : place < cells a.inner.kind = subst (λ (x : Element). place < cells x.kind) (sym a.is) below in
    let moved : (a.place * cells k + a.inner.start) + place ≡ a.place * cells k + (a.inner.start + place) = omega arith in
    let first = array_ends size a.place (a.inner.start + place) k a.below (omega (arith, ends, inside)) in
    let rest = element_ends ss k each h a.inner a.picks place inside in
    subst (λ (x : Element). ends_at (ranges (array size k)) (x.start + place) ≡ ends_at (ranges x.kind) place) a.is (ap (ends_at (ranges (array size k))) moved ∙ first ∙ rest)
element_ends (slot.Index n ∷ ss) (struct own fields) each h e c place below = absurd h
element_ends (slot.Fixed at value ∷ ss) k each h e c place below = absurd h

-- the ends of a cell that is defined are those of its place in the element
pub cell_ends : (m : HllModel) (cell : ℕ) (d : Def) (e : Element) (place : ℕ) → Well m → IsDefinedBy m cell d e place → ends_at (row_ends m) cell ≡ ends_at (ranges e.kind) place
cell_ends m cell d e place well by =
    let f = is_fine m cell d e place well by in
    variable_ends 0 (variables m) d.name.text by.variable (e.start + place) cell by.is_variable (defined_inside m cell d e place well by) (omega (arith, by.is_cell))
    ∙ ap (λ (k : Kind). ends_at (ranges k) (e.start + place)) f.kind
    ∙ element_ends d.indices f.fits.kind (left_side d.indices f.fits.kind).kind (levels_of d.indices f.fits.kind f.fits.faultless) e f.picks place by.within
