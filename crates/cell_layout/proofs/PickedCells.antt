-- The cells at which what is picked may begin.
use Rattle.std.proofs.Common.{◌≡◌, ℕ, ◌+◌, ◌*◌, ◌-◌, ◌^◌, ◌≤◌, inl, inr, min, false, List, [], ◌∷◌, ◌++◌, map, length, take, drop, get_or, Option, Some, None, option_map, refl, sym, ap, subst, ◌∙◌, arith, append_assoc, zero-add}
use Rattle.std.specs.List.{AllByRecursion, flat_map, range_with_len}
use Rattle.std.specs.Str.{bytes_eq}
use Rattle.std.proofs.lemmas.List.{append-nil, map-append, take_all}
use Rattle.std.proofs.lemmas.Grind.{flat_map-append}
use Rattle.std.proofs.lemmas.List.Folds.{flat_map-map}
use Rattle.std.proofs.lemmas.List.FromFn.{map-range_with_len_more}
use Rattle.hll_tree.specs.declared.tree.HllModel.{HllModel}
use Rattle.hll_meaning.specs.declared.ty.Ty.{Ty, Array}
use Rattle.hll_meaning.specs.Kinds.{Kind, truth, whole, element, array, struct, Fields, none as no_fields, field, Step, index, name, cells, place_in}
use Rattle.hll_meaning.specs.Runs.{variables}
use Rattle.hll_meaning.specs.StaticRules.{Well}
use Rattle.hll_meaning.specs.Types.{kind_of}
use Rattle.hll_meaning.proofs.KindForms.{kind_of_bool, kind_of_int, kind_of_elem, kind_of_array, kind_of_struct}
use Rattle.hll_meaning.proofs.Scenes.{by_test}
use Rattle.hll_types.specs.Measures.{capped}
use Rattle.hll_types.proofs.Measuring.{cells-array}
use Rattle.dependence.specs.Dependence.{cell_count}
use Rattle.dependence.specs.Mentions.{Stretch, Pick, one, every, named, reached, reached_field, stretch_of}
use Rattle.cell_layout.specs.declared.reaching.Pick.{Pick as Coded}
use Rattle.cell_layout.specs.declared.reaching.Pick.TheVariants.{Every}
use Rattle.cell_layout.specs.Parts.{held, picks_of}
use Rattle.cell_layout.specs.Steps.{field_from, step_from}
use Rattle.cell_layout.proofs.HeldNumbers.{array_held, small_held}
use Rattle.cell_layout.proofs.FewCells.{cells_are_few}
use Rattle.cell_layout.proofs.PartsInRows.{reached_cells_are_few}
use Rattle.cell_layout.proofs.PartSteps.{IsNoArray, led}
use Rattle.cell_layout.proofs.StepsIntoCells.{field_is, from_here, from_further}

-- ---- numbers

-- a number so many cells further, each number at most the greatest
twice_held : (g s x y : ℕ) → min (min (s + x) g + min y g) g ≡ min (s + (y + x)) g
twice_held g s x y = omega arith

further_on : (s x y : ℕ) → capped (capped (s + x) + capped y) ≡ capped (s + (y + x))
further_on s x y = twice_held (2 ^ 64 - 1) s x y

-- ---- lists

shifted_held : (s y : ℕ) (xs : List ℕ) → map (λ at. capped (at + capped y)) (map (λ at. capped (s + at)) xs) ≡ map (λ at. capped (s + at)) (map (λ at. y + at) xs)
shifted_held s y [] = refl
shifted_held s y (x ∷ xs) =
    let here = further_on s x y in
    let rest = shifted_held s y xs in
    λ i. here i ∷ rest i

-- what is reached in each element, by what is reached in the first one
pub elements_held : (s each cells : ℕ) (xs : List ℕ) → ((place : ℕ) → capped (each * place) ≡ capped (place * cells)) → (places : List ℕ) →
    flat_map (λ place. map (λ at. capped (at + capped (each * place))) (map (λ at. capped (s + at)) xs)) places ≡ map (λ at. capped (s + at)) (flat_map (λ place. map (λ at. place * cells + at) xs) places)
elements_held s each cells xs alike [] = refl
elements_held s each cells xs alike (place ∷ places) =
    let here = ap (λ (y : ℕ). map (λ at. capped (at + y)) (map (λ at. capped (s + at)) xs)) (alike place) ∙ shifted_held s (place * cells) xs in
    let rest = elements_held s each cells xs alike places in
    (λ i. here i ++ rest i) ∙ sym (map-append (λ at. capped (s + at)) (map (λ at. place * cells + at) xs) (flat_map (λ place. map (λ at. place * cells + at) xs) places))

-- a part that begins further on
regrouped : (g s x y : ℕ) → min (min (s + y) g + x) g ≡ min (s + (y + x)) g
regrouped g s x y = omega arith

pub part_held : (s y first : ℕ) (xs : List ℕ) → first ≡ capped (s + y) → map (λ at. capped (first + at)) xs ≡ map (λ at. capped (s + at)) (map (λ at. y + at) xs)
part_held s y first [] is = refl
part_held s y first (x ∷ xs) is =
    let here = ap (λ (n : ℕ). capped (n + x)) is ∙ regrouped (2 ^ 64 - 1) s x y in
    let rest = part_held s y first xs is in
    λ i. here i ∷ rest i

-- what is appended for one element more
elements_more : (f : ℕ → List ℕ) (n : ℕ) → flat_map f (range_with_len 0 (n + 1)) ≡ flat_map f (range_with_len 0 n) ++ f n
elements_more f n =
    sym (flat_map-map f (λ (x : ℕ). x) (range_with_len 0 (n + 1)))
    ∙ ap (flat_map f) (map-range_with_len_more (λ (x : ℕ). x) 0 n n (zero-add n))
    ∙ flat_map-append f (map (λ (x : ℕ). x) (range_with_len 0 n)) (n ∷ [])
    ∙ (λ i. flat_map-map f (λ (x : ℕ). x) (range_with_len 0 n) i ++ append-nil (f n) i)

pub element_appended : (f : ℕ → List ℕ) (n : ℕ) (old mid new last : List ℕ) → mid ≡ old ++ flat_map f (range_with_len 0 n) → new ≡ mid ++ last → last ≡ f n → new ≡ old ++ flat_map f (range_with_len 0 (n + 1))
element_appended f n old mid new last before added is =
    added ∙ (λ i. before i ++ is i) ∙ append_assoc old (flat_map f (range_with_len 0 n)) (f n) ∙ ap (λ (xs : List ℕ). old ++ xs) (sym (elements_more f n))

-- ---- picks

-- the pick that goes the way of a step
abbrev pub pick_for : Step → Pick
pick_for (index i) = one i
pick_for (name n) = named n

-- the cells at which picks reach something in a value of a kind that begins at a cell
abbrev pub reached_from : ℕ → Kind → List Pick → List ℕ
reached_from start k ps = map (λ at. capped (start + at)) (reached k ps)

-- what a step leads to, and what is reached in it
record IsLed (start : ℕ) (k : Kind) (s : Step) (x : Stretch) : Type 0 where
  at : ℕ
  is : x.start ≡ start + at
  reaches : (ps : List Pick) → reached k (pick_for s ∷ ps) ≡ map (λ a. at + a) (reached x.kind ps)

is_led : (start : ℕ) (k : Kind) (s : Step) (x : Stretch) → step_from start k s ≡ Some x → IsLed start k s x
is_led start truth s x is = absurd (cc is)
is_led start (whole e) s x is = absurd (cc is)
is_led start (element root e) s x is = absurd (cc is)
is_led start (array n k) (index i) x is =
    let e : Some (record { start = start + place_in n i * cells k; kind = k }) ≡ Some x = is in
    let f : record { start = start + place_in n i * cells k; kind = k } ≡ x = cc e in
    subst (IsLed start (array n k) (index i)) f (record { at = place_in n i * cells k; is = refl; reaches = λ ps. refl })
is_led start (array n k) (name sought) x is = absurd (cc is)
is_led start (struct own fields) (index i) x is = absurd (cc is)
is_led start (struct own fields) (name sought) x is = let h = field_is start fields sought x is in record { at = h.at; is = h.is; reaches = h.reaches }

pub picked_some : (start first : ℕ) (k l : Kind) (s : Step) (ps : List Pick) → Some (record { start = first; kind = l }) ≡ led start k s → reached_from first l ps ≡ reached_from start k (pick_for s ∷ ps)
picked_some start first k l s ps is = by (step_from start k s) refl is
  where
    by : (o : Option Stretch) → step_from start k s ≡ o → Some (record { start = first; kind = l }) ≡ option_map held o → reached_from first l ps ≡ reached_from start k (pick_for s ∷ ps)
    by None none h = let e : Some (record { start = first; kind = l }) ≡ None = h in absurd (cc e)
    by (Some x) some h =
        let g = is_led start k s x some in
        let e : Some (record { start = first; kind = l }) ≡ Some (held x) = h in
        let same : record { start = first; kind = l } ≡ held x = cc e in
        let first_is : first ≡ capped (start + g.at) = ap (λ (y : Stretch). y.start) same ∙ ap capped g.is in
        let kind : l ≡ x.kind = ap (λ (y : Stretch). y.kind) same in
        ap (λ (k' : Kind). reached_from first k' ps) kind ∙ part_held start g.at first (reached x.kind ps) first_is ∙ ap (map (λ at. capped (start + at))) (sym (g.reaches ps))

no_field_reached : (start : ℕ) (fields : Fields) (sought : List ℕ) (ps : List Pick) → field_from start fields sought ≡ None → reached_field fields sought ps ≡ []
no_field_reached start no_fields sought ps none = refl
no_field_reached start (field own k fields) sought ps none =
    by_test (bytes_eq own sought)
    (λ same. let e : Some (record { start = start; kind = k }) ≡ None = sym (from_here start own k fields sought same) ∙ none in absurd (cc e))
    (λ other. passed other ∙ ap (map (λ a. cells k + a)) (no_field_reached (start + cells k) fields sought ps (sym (from_further start own k fields sought other) ∙ none)))
  where
    passed : bytes_eq own sought ≡ false → reached_field (field own k fields) sought ps ≡ map (λ a. cells k + a) (reached_field fields sought ps)
    passed other = rw other refl

nothing_led : (start : ℕ) (k : Kind) (s : Step) (ps : List Pick) → step_from start k s ≡ None → reached k (pick_for s ∷ ps) ≡ []
nothing_led start truth (index i) ps none = refl
nothing_led start truth (name sought) ps none = refl
nothing_led start (whole e) (index i) ps none = refl
nothing_led start (whole e) (name sought) ps none = refl
nothing_led start (element root e) (index i) ps none = refl
nothing_led start (element root e) (name sought) ps none = refl
nothing_led start (array n k) (index i) ps none = absurd (cc none)
nothing_led start (array n k) (name sought) ps none = refl
nothing_led start (struct own fields) (index i) ps none = refl
nothing_led start (struct own fields) (name sought) ps none = no_field_reached start fields sought ps none

pub picked_none : (start : ℕ) (k : Kind) (s : Step) (ps : List Pick) → None ≡ led start k s → reached_from start k (pick_for s ∷ ps) ≡ []
picked_none start k s ps is = by (step_from start k s) refl is
  where
    by : (o : Option Stretch) → step_from start k s ≡ o → None ≡ option_map held o → reached_from start k (pick_for s ∷ ps) ≡ []
    by None none h = ap (map (λ at. capped (start + at))) (nothing_led start k s ps none)
    by (Some x) some h = let e : None ≡ Some (held x) = h in absurd (cc e)

every_held : (place : ℕ) (k : Kind) (each : ℕ) → each ≡ capped (cells k) → capped (each * place) ≡ capped (place * cells k)
every_held place k each p = array_held place k each p ∙ ap capped (cells-array place k)

-- every element
pub picked_every : (start n each : ℕ) (t item got : Ty) (ps : List Pick) (firsts : List ℕ) → t ≡ Array n item → got ≡ item → each ≡ capped (cells (kind_of got)) → firsts ≡ reached_from start (kind_of got) ps →
    flat_map (λ place. map (λ at. capped (at + capped (each * place))) firsts) (range_with_len 0 n) ≡ reached_from start (kind_of t) (every ∷ ps)
picked_every start n each t item got ps firsts is got_is p q =
    let k = kind_of got in
    ap (λ (xs : List ℕ). flat_map (λ place. map (λ at. capped (at + capped (each * place))) xs) (range_with_len 0 n)) q
    ∙ elements_held start each (cells k) (reached k ps) (λ place. every_held place k each p) (range_with_len 0 n)
    ∙ ap (λ (l : Kind). reached_from start l (every ∷ ps)) (sym (ap kind_of is ∙ kind_of_array n item ∙ ap (λ (u : Ty). array n (kind_of u)) (sym got_is)))

nothing_every : (start : ℕ) (t : Ty) (ps : List Pick) → IsNoArray t → reached_from start (kind_of t) (every ∷ ps) ≡ []
nothing_every start t ps (inl h) = ap (λ (k : Kind). reached_from start k (every ∷ ps)) (ap kind_of h ∙ kind_of_bool)
nothing_every start t ps (inr (inl h)) = ap (λ (k : Kind). reached_from start k (every ∷ ps)) (ap kind_of h.1 ∙ kind_of_int h.0)
nothing_every start t ps (inr (inr (inl h))) = ap (λ (k : Kind). reached_from start k (every ∷ ps)) (ap kind_of h.2 ∙ kind_of_elem h.0 h.1)
nothing_every start t ps (inr (inr (inr h))) = ap (λ (k : Kind). reached_from start k (every ∷ ps)) (ap kind_of h.2 ∙ kind_of_struct h.0 h.1)

-- ---- what is appended

-- the picks behind the first one
abbrev pub left_of : List Coded → List Coded
left_of picks = take (length picks - 1) (drop 1 picks)

pub one_left : (picks : List Coded) (d p : Coded) → 1 ≤ length picks → get_or picks 0 d ≡ p → picks ≡ p ∷ left_of picks
one_left [] d p some is = absurd (omega arith)
one_left (x ∷ picks) d p some is = λ i. is i ∷ sym (take_all (length (x ∷ picks) - 1) picks (omega arith)) i

-- nothing is appended
pub nothing_appended : (old more : List ℕ) → more ≡ [] → old ≡ old ++ more
nothing_appended old more none = sym (append-nil old) ∙ ap (λ (xs : List ℕ). old ++ xs) (sym none)

-- no element of what is no array
pub every_nowhere : (old : List ℕ) (start : ℕ) (t : Ty) (picks : List Coded) (d : Coded) → 1 ≤ length picks → get_or picks 0 d ≡ Every → IsNoArray t → old ≡ old ++ reached_from start (kind_of t) (picks_of picks)
every_nowhere old start t picks d some is other =
    nothing_appended old (reached_from start (kind_of t) (picks_of picks))
    (ap (λ (ps : List Coded). reached_from start (kind_of t) (picks_of ps)) (one_left picks d Every some is) ∙ nothing_every start t (picks_of (left_of picks)) other)

-- ---- texts

-- of a variable of a text without faults these are exact
pub reached_exactly : (m : HllModel) (sought : List ℕ) (x : Stretch) (ps : List Pick) → Well m → stretch_of (variables m) sought ≡ Some x → reached_from x.start x.kind ps ≡ map (λ at. x.start + at) (reached x.kind ps)
reached_exactly m sought x ps well is = all (reached x.kind ps) (cells_are_few m well) (reached_cells_are_few m sought x ps well is)
  where
    all : (ats : List ℕ) → cell_count m ≤ 100000 → AllByRecursion (λ at. x.start + at ≤ cell_count m) ats → map (λ at. capped (x.start + at)) ats ≡ map (λ at. x.start + at) ats
    all [] few h = refl
    all (at ∷ ats) few h =
        let here = small_held (x.start + at) (omega (arith, few, h.0)) in
        let rest = all ats few h.1 in
        λ i. here i ∷ rest i
