-- The cells that definitions define: each is one of the text's, and is defined in one way.
use Rattle.std.proofs.Common.{◌≡◌, ℕ, ◌+◌, ◌<◌, ◌≤◌, true, false, List, [], ◌∷◌, ◌++◌, length, Some, refl, sym, ap, subst, ◌∙◌, arith}
use Rattle.std.specs.Prelude.{codes, decimal}
use Rattle.std.specs.List.{Contains, flat_map, range_with_len}
use Rattle.std.specs.Str.{bytes_eq}
use Rattle.std.proofs.lemmas.List.{length-append}
use Rattle.hll_tree.specs.Printing.{Text, name_text}
use Rattle.hll_tree.specs.declared.tree.Def.{Def}
use Rattle.hll_tree.specs.declared.tree.HllModel.{HllModel}
use Rattle.hll_meaning.specs.Cells.{named_cells, field_cells, cells_of_all}
use Rattle.hll_meaning.specs.Declarations.{names}
use Rattle.hll_meaning.specs.Kinds.{Kind, truth, whole, element, array, struct, Fields, none, field, cells, ranges, field_ranges}
use Rattle.hll_meaning.specs.Names.{under}
use Rattle.hll_meaning.specs.Runs.{Element, definitions, picked, variables}
use Rattle.hll_meaning.specs.StaticRules.{left_side, Well}
use Rattle.hll_meaning.specs.WellTexts.{IsFitting}
use Rattle.hll_meaning.proofs.Scenes.{by_test, under_here, under_further}
use Rattle.hll_meaning.proofs.WellTexts.{definitions_fit}
use Rattle.dependence.specs.Dependence.{cell_count, IsDefinedBy}
use Rattle.dependence.specs.Mentions.{Stretch, stretch_from}
use Rattle.dependence.proofs.Members.{all_hold}
use Rattle.dependence.proofs.Picks.{levels_of, lies_in, in_one_way}

-- ---- how many cells

length_flat : {A B C : Type 0} (f : A → List B) (g : A → List C) → ((x : A) → length (f x) ≡ length (g x)) → (xs : List A) → length (flat_map f xs) ≡ length (flat_map g xs)
length_flat f g same [] = refl
length_flat f g same (x ∷ xs) = length-append (f x) (flat_map f xs) ∙ (λ i. same x i + length_flat f g same xs i) ∙ sym (length-append (g x) (flat_map g xs))

mutual
  -- a value has as many named cells as it has cells
  pub length-named : (name : Text) (k : Kind) → length (named_cells name k) ≡ cells k
  length-named name truth = refl
  length-named name (whole e) = refl
  length-named name (element root e) = refl
  length-named name (array size k) =
      length_flat (λ (i : ℕ). named_cells (name ++ codes "[" ++ decimal i ++ codes "]") k) (λ (i : ℕ). ranges k) (λ i. length-named (name ++ codes "[" ++ decimal i ++ codes "]") k) (range_with_len 0 size)
  length-named name (struct s fields) = length-fields name fields

  length-fields : (name : Text) (fields : Fields) → length (field_cells name fields) ≡ length (field_ranges fields)
  length-fields name none = refl
  length-fields name (field f k fields) =
      length-append (named_cells (name ++ codes "." ++ name_text f) k) (field_cells name fields)
      ∙ (λ i. length-named (name ++ codes "." ++ name_text f) k i + length-fields name fields i)
      ∙ sym (length-append (ranges k) (field_ranges fields))

-- ---- stretches

-- the cells of some variables
abbrev pub count_all : List (List ℕ × Kind) → ℕ
count_all xs = length (cells_of_all xs)

pub count_more : (x : List ℕ × Kind) (xs : List (List ℕ × Kind)) → count_all (x ∷ xs) ≡ cells x.1 + count_all xs
count_more x xs = length-append (named_cells (name_text x.0) x.1) (cells_of_all xs) ∙ ap (λ (n : ℕ). n + count_all xs) (length-named (name_text x.0) x.1)

pub stretch_here : (start : ℕ) (own : List ℕ) (k : Kind) (xs : List (List ℕ × Kind)) (sought : List ℕ) → bytes_eq own sought ≡ true → stretch_from start ((own, k) ∷ xs) sought ≡ Some (record { start = start; kind = k })
stretch_here start own k xs sought same = rw same refl

pub stretch_further : (start : ℕ) (own : List ℕ) (k : Kind) (xs : List (List ℕ × Kind)) (sought : List ℕ) → bytes_eq own sought ≡ false → stretch_from start ((own, k) ∷ xs) sought ≡ stretch_from (start + cells k) xs sought
stretch_further start own k xs sought other = rw other refl

-- a stretch is that of the variable that stands under the name, and ends within the text
pub record IsStretch (start : ℕ) (xs : List (List ℕ × Kind)) (sought : List ℕ) (s : Stretch) : Type 0 where
  pub kind : under sought xs ≡ Some s.kind
  pub from : start ≤ s.start
  pub to : s.start + cells s.kind ≤ start + count_all xs

pub is_stretch : (start : ℕ) (xs : List (List ℕ × Kind)) (sought : List ℕ) (s : Stretch) → stretch_from start xs sought ≡ Some s → IsStretch start xs sought s
is_stretch start [] sought s is = absurd (cc is)
is_stretch start ((own, k) ∷ xs) sought s is = by_test (bytes_eq own sought) here (λ other. further other (is_stretch (start + cells k) xs sought s (sym (stretch_further start own k xs sought other) ∙ is)))
  where
    here : bytes_eq own sought ≡ true → IsStretch start ((own, k) ∷ xs) sought s
    here same =
        let e : Some (record { start = start; kind = k }) ≡ Some s = sym (stretch_here start own k xs sought same) ∙ is in
        let f : record { start = start; kind = k } ≡ s = cc e in
        let more = count_more (own, k) xs in
        subst (IsStretch start ((own, k) ∷ xs) sought) f (record { kind = under_here sought own k xs same; from = omega arith; to = omega (arith, more) })

    further : bytes_eq own sought ≡ false → IsStretch (start + cells k) xs sought s → IsStretch start ((own, k) ∷ xs) sought s
    further other h = record { kind = under_further sought own k xs other ∙ h.kind; from = omega (arith, h.from); to = omega (arith, h.to, count_more (own, k) xs) }

-- ---- definitions

-- what is known of a definition of a text without faults, of a variable that has these cells, and of an element that it picks
pub record IsFine (m : HllModel) (d : Def) (variable : Stretch) (e : Element) : Type 0 where
  pub fits : IsFitting (names m) d
  pub kind : variable.kind ≡ fits.kind
  pub picks : Contains (picked d.indices fits.kind) e

pub is_fine : (m : HllModel) (cell : ℕ) (d : Def) (e : Element) (place : ℕ) → Well m → (h : IsDefinedBy m cell d e place) → IsFine m d h.variable e
is_fine m cell d e place well h =
    let fits = all_hold (IsFitting (names m)) (definitions m) d (definitions_fit m well) h.stands in
    let found : Some h.variable.kind ≡ Some fits.kind = sym (is_stretch 0 (variables m) d.name.text h.variable h.is_variable).kind ∙ fits.of_kind in
    let same : h.variable.kind ≡ fits.kind = cc found in
    record { fits = fits; kind = same; picks = subst (λ k. Contains (picked d.indices k) e) same h.picks }

-- it stands within its variable
pub defined_inside : (m : HllModel) (cell : ℕ) (d : Def) (e : Element) (place : ℕ) → Well m → (h : IsDefinedBy m cell d e place) → e.start + place < cells h.variable.kind
defined_inside m cell d e place well h =
    let f = is_fine m cell d e place well h in
    let inside = (lies_in d.indices f.fits.kind (left_side d.indices f.fits.kind).kind (levels_of d.indices f.fits.kind f.fits.faultless) e f.picks).ends in
    let whole : e.start + cells e.kind ≤ cells h.variable.kind = subst (λ (k : Kind). e.start + cells e.kind ≤ cells k) (sym f.kind) inside in
    omega (arith, whole, h.within)

-- a cell that is defined is one of the text's
pub defined_within : (m : HllModel) (cell : ℕ) (d : Def) (e : Element) (place : ℕ) → Well m → IsDefinedBy m cell d e place → cell < cell_count m
defined_within m cell d e place well h =
    let s = is_stretch 0 (variables m) d.name.text h.variable h.is_variable in
    omega (arith, s.to, defined_inside m cell d e place well h, h.is_cell)

-- a definition picks a cell in one way
pub defined_once : (m : HllModel) (cell : ℕ) (d : Def) (e f : Element) (place other : ℕ) → Well m → IsDefinedBy m cell d e place → IsDefinedBy m cell d f other → (e ≡ f) × (place ≡ other)
defined_once m cell d e f place other well h k =
    let a = is_fine m cell d e place well h in
    let b = is_fine m cell d f other well k in
    let found : Some h.variable ≡ Some k.variable = sym h.is_variable ∙ k.is_variable in
    let same : h.variable ≡ k.variable = cc found in
    let starts : h.variable.start ≡ k.variable.start = ap (λ (v : Stretch). v.start) same in
    let kinds : b.fits.kind ≡ a.fits.kind = sym b.kind ∙ ap (λ (v : Stretch). v.kind) (sym same) ∙ a.kind in
    in_one_way d.indices a.fits.kind (left_side d.indices a.fits.kind).kind (levels_of d.indices a.fits.kind a.fits.faultless) e f a.picks
    (subst (λ l. Contains (picked d.indices l) f) kinds b.picks)
    place other h.within k.within (omega (arith, h.is_cell, k.is_cell, starts))
