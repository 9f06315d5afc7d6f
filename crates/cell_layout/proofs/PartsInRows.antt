-- Parts of variables stand in the row of all cells, and what is picked in variables stands among the cells.
use Rattle.std.proofs.Common.{◌≡◌, ℕ, zero, suc, ◌+◌, ◌*◌, ◌<◌, ◌≤◌, true, false, List, [], ◌∷◌, map, length, Option, Some, refl, sym, ap, subst, ◌∙◌, arith}
use Rattle.std.specs.Prelude.{slice_index_or}
use Rattle.std.specs.List.{AllByRecursion, flat_map, range_with_len}
use Rattle.std.specs.Str.{bytes_eq}
use Rattle.std.proofs.lemmas.List.{length-append}
use Rattle.hll_tree.specs.declared.tree.HllModel.{HllModel}
use Rattle.hll_tree.proofs.Gives.{all_append}
use Rattle.hll_meaning.specs.Declarations.{names}
use Rattle.hll_meaning.specs.Kinds.{Kind, truth, whole, element, array, struct, Fields, none as no_fields, field, Typed, Step, cells, ranges, field_ranges, place_in, steps_into}
use Rattle.hll_meaning.specs.Names.{constant, type_of, code_in, variable, later, Names}
use Rattle.hll_meaning.specs.Runs.{variables, variables_among, AreOfKinds}
use Rattle.hll_meaning.specs.Soundness.{IsFineKind, AreFineFields, AreFine}
use Rattle.hll_meaning.specs.StaticRules.{Well}
use Rattle.hll_meaning.specs.Values.{History}
use Rattle.hll_meaning.proofs.Agreement.{names_fine}
use Rattle.hll_meaning.proofs.Scenes.{by_test, under_all}
use Rattle.dependence.specs.Dependence.{cell_count}
use Rattle.dependence.specs.Mentions.{Stretch, Pick, one, every, named, reached, reached_field, stretch_of}
use Rattle.dependence.proofs.DefinedCells.{is_stretch}
use Rattle.dependence.proofs.Numbers.{element_within}
use Rattle.dependence.proofs.PlacesOfValues.{in_row}
use Rattle.dependence.proofs.RunsOfCells.{all_at}
use Rattle.cell_layout.specs.Laws.{StandsInRow}
use Rattle.cell_layout.specs.Steps.{stretches_into}
use Rattle.cell_layout.proofs.StepsIntoCells.{place_below, reached_here, is_part}

-- ---- variables

-- the kinds of variables are fine where names are
variables_fine : (ns : Names) → AreFine ns → AllByRecursion (λ x. IsFineKind x.1) (variables_among ns)
variables_fine [] h = tt
variables_fine ((own, constant b x) ∷ ns) h = variables_fine ns h.1
variables_fine ((own, type_of k) ∷ ns) h = variables_fine ns h.1
variables_fine ((own, code_in root c) ∷ ns) h = variables_fine ns h.1
variables_fine ((own, variable input k) ∷ ns) h = (h.0, variables_fine ns h.1)
variables_fine ((own, later) ∷ ns) h = variables_fine ns h.1

-- a variable of a text without faults has a fine kind, and stands within all cells
pub stretch_fine : (m : HllModel) (sought : List ℕ) (x : Stretch) → Well m → stretch_of (variables m) sought ≡ Some x → IsFineKind x.kind × (x.start + cells x.kind ≤ cell_count m)
stretch_fine m sought x well is =
    let s = is_stretch 0 (variables m) sought x is in
    (under_all IsFineKind (variables m) (variables_fine (names m) (names_fine m well)) sought x.kind s.kind, omega (arith, s.to))

pub parts_stand_in_rows : (m : HllModel) (h : History) (t : ℕ) (sought : List ℕ) (steps : List Step) (x y : Stretch) → Well m → AllByRecursion (AreOfKinds (variables m)) h → t < length h →
    stretch_of (variables m) sought ≡ Some x → stretches_into (Some x) steps ≡ Some y → StandsInRow m h t sought steps x y
parts_stand_in_rows m h t sought steps x y well kinds below is leads =
    let fine = stretch_fine m sought x well is in
    let p = is_part x.start x.kind steps y fine.0 leads in
    let r = in_row (names m) (slice_index_or h t []) (all_at (AreOfKinds (variables m)) h [] t below kinds) 0 sought x is in
    record {
      value = p.value r.value;
      found = ap (λ (o : Option Typed). steps_into o steps) r.found ∙ p.found r.value;
      from = omega (arith, p.is);
      to = omega (arith, p.is, p.within);
      within = omega (arith, p.is, p.within, fine.1);
      numbers = λ place less.
          p.numbers r.value place less
          ∙ sym (r.numbers (p.at + place) (y.start + place) (inside p.at place (cells y.kind) (cells x.kind) less p.within) (moved x.start p.at place y.start p.is));
    }
  where
    inside : (at place part all : ℕ) → place < part → at + part ≤ all → at + place < all
    inside at place part all less ends = omega arith

    moved : (start at place from : ℕ) → from ≡ start + at → 0 + (from + place) ≡ start + (at + place)
    moved start at place from is = omega arith

-- ---- picks

-- places of a value of so many cells
abbrev AreWithin : ℕ → List ℕ → Type 0
AreWithin count = AllByRecursion (λ at. at ≤ count)

shifted : (a count all : ℕ) (xs : List ℕ) → a + count ≤ all → AreWithin count xs → AreWithin all (map (λ at. a + at) xs)
shifted a count all [] ends h = tt
shifted a count all (x ∷ xs) ends h = (omega (arith, h.0), shifted a count all xs ends h.1)

each_element : (n : ℕ) (k : Kind) (xs : List ℕ) → AreWithin (cells k) xs → (a count : ℕ) → a + count ≤ n → AreWithin (cells (array n k)) (flat_map (λ place. map (λ at. place * cells k + at) xs) (range_with_len a count))
each_element n k xs h a zero below = tt
each_element n k xs h a (suc count) below =
    all_append (λ at. at ≤ cells (array n k)) (map (λ at. a * cells k + at) xs) (flat_map (λ place. map (λ at. place * cells k + at) xs) (range_with_len (a + 1) count))
    (shifted (a * cells k) (cells k) (cells (array n k)) xs (element_within n a k (cells k) (omega arith) (omega arith)) h)
    (each_element n k xs h (a + 1) count (omega arith))

weaker : (count all : ℕ) (xs : List ℕ) → count ≤ all → AreWithin count xs → AreWithin all xs
weaker count all [] ends h = tt
weaker count all (x ∷ xs) ends h = (omega (arith, h.0), weaker count all xs ends h.1)

one_field : (own : List ℕ) (k : Kind) (fields : Fields) (sought : List ℕ) (ps : List Pick) → AreWithin (cells k) (reached k ps) → AreWithin (length (field_ranges fields)) (reached_field fields sought ps) →
    AreWithin (length (field_ranges (field own k fields))) (reached_field (field own k fields) sought ps)
one_field own k fields sought ps first rest =
    by_test (bytes_eq own sought)
    (λ same. subst (AreWithin (length (field_ranges (field own k fields)))) (sym (here same)) (weaker (cells k) (length (field_ranges (field own k fields))) (reached k ps) (omega (arith, both)) first))
    (λ other. subst (AreWithin (length (field_ranges (field own k fields)))) (sym (further other)) (shifted (cells k) (length (field_ranges fields)) (length (field_ranges (field own k fields))) (reached_field fields sought ps) (omega (arith, both)) rest))
  where
    both : length (field_ranges (field own k fields)) ≡ cells k + length (field_ranges fields)
    both = length-append (ranges k) (field_ranges fields)

    here : bytes_eq own sought ≡ true → reached_field (field own k fields) sought ps ≡ reached k ps
    here same = rw same refl

    further : bytes_eq own sought ≡ false → reached_field (field own k fields) sought ps ≡ map (λ at. cells k + at) (reached_field fields sought ps)
    further other = rw other refl

mutual
  reached_within : (k : Kind) (ps : List Pick) → IsFineKind k → AreWithin (cells k) (reached k ps)
  reached_within k [] fine = subst (AreWithin (cells k)) (sym (reached_here k)) (omega arith, tt)
  reached_within truth (p ∷ ps) fine = tt
  reached_within (whole e) (p ∷ ps) fine = tt
  reached_within (element root e) (p ∷ ps) fine = tt
  reached_within (array n k) (one i ∷ ps) fine =
      shifted (place_in n i * cells k) (cells k) (cells (array n k)) (reached k ps) (element_within n (place_in n i) k (cells k) (place_below n i fine.0) (omega arith)) (reached_within k ps fine.1)
  reached_within (array n k) (every ∷ ps) fine = each_element n k (reached k ps) (reached_within k ps fine.1) 0 n (omega arith)
  reached_within (array n k) (named sought ∷ ps) fine = tt
  reached_within (struct own fields) (one i ∷ ps) fine = tt
  reached_within (struct own fields) (every ∷ ps) fine = tt
  reached_within (struct own fields) (named sought ∷ ps) fine = fields_within fields sought ps fine

  fields_within : (fields : Fields) (sought : List ℕ) (ps : List Pick) → AreFineFields fields → AreWithin (length (field_ranges fields)) (reached_field fields sought ps)
  fields_within no_fields sought ps fine = tt
  fields_within (field own k fields) sought ps fine = one_field own k fields sought ps (reached_within k ps fine.0) (fields_within fields sought ps fine.1)

pub reached_cells_are_few : (m : HllModel) (sought : List ℕ) (x : Stretch) (ps : List Pick) → Well m → stretch_of (variables m) sought ≡ Some x → AllByRecursion (λ at. x.start + at ≤ cell_count m) (reached x.kind ps)
reached_cells_are_few m sought x ps well is =
    let fine = stretch_fine m sought x well is in
    all (reached x.kind ps) fine.1 (reached_within x.kind ps fine.0)
  where
    all : (ats : List ℕ) → x.start + cells x.kind ≤ cell_count m → AreWithin (cells x.kind) ats → AllByRecursion (λ at. x.start + at ≤ cell_count m) ats
    all [] ends h = tt
    all (at ∷ ats) ends h = (omega (arith, h.0), all ats ends h.1)
