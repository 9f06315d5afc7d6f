-- A run is one cell by cell.
use Rattle.std.proofs.Common.{◌≡◌, ℕ, zero, suc, ◌+◌, ◌-◌, ◌<◌, ◌≤◌, pos, true, false, List, [], ◌∷◌, ◌++◌, length, get_or, Some, refl, sym, ap, subst, ◌∙◌, arith, length-take, length-drop}
use Rattle.std.specs.List.{AllByRecursion, Contains, slice_index_or}
use Rattle.std.specs.Str.{bytes_eq}
use Rattle.std.proofs.lemmas.List.{ext_get_or}
use Rattle.intervals.specs.Ends.{Ends}
use Rattle.hll_tree.specs.declared.tree.Def.{Def}
use Rattle.hll_tree.specs.declared.tree.Expr.{Expr}
use Rattle.hll_tree.specs.declared.tree.HllModel.{HllModel}
use Rattle.hll_tree.specs.declared.tree.Part.{Part}
use Rattle.hll_tree.specs.declared.tree.Part.TheVariants as part
use Rattle.hll_meaning.specs.Declarations.{names}
use Rattle.hll_meaning.specs.Kinds.{Kind, Value, IsOf, cells, cells_from, ranges, fit_all}
use Rattle.hll_meaning.specs.Names.{under}
use Rattle.hll_meaning.specs.Runs.{Element, AreOfKinds, Defines, IsAlways, IsFirst, IsNext, IsRun, definitions, given_at, has_at, picked, scene, value_under, variables}
use Rattle.hll_meaning.specs.StaticRules.{left_side, part_expressions, Well}
use Rattle.hll_meaning.specs.Values.{History, Instant, worth}
use Rattle.hll_meaning.specs.WellTexts.{IsFitting}
use Rattle.hll_meaning.proofs.Scenes.{by_test, under_here, under_further}
use Rattle.hll_meaning.proofs.WellTexts.{definitions_fit}
use Rattle.dependence.specs.CellRuns.{number_given, IsFirstNumber, IsNextNumber, IsGivenBy, IsCellGiven, IsCellRun, GivenValuesHaveCells}
use Rattle.dependence.specs.Dependence.{IsDefinedBy}
use Rattle.dependence.specs.Laws.{GoesTo}
use Rattle.dependence.specs.Mentions.{Stretch, stretch_from}
use Rattle.dependence.specs.Rows.{row_of, number_at}
use Rattle.dependence.proofs.DefinedCells.{is_stretch, stretch_here, stretch_further, defined_inside}
use Rattle.dependence.proofs.Members.{all_hold, in_front, further_on}
use Rattle.dependence.proofs.Numbers.{number_of, in_front_part, in_back_part, in_part, as_many}
use Rattle.dependence.proofs.Picks.{levels_of, lies_in}
use Rattle.dependence.proofs.Setting.{all_of}

-- ---- values of variables

pub value_here : (own : List ℕ) (k : Kind) (xs : List (List ℕ × Kind)) (v : Value) (vs : Instant) (sought : List ℕ) → bytes_eq own sought ≡ true → value_under ((own, k) ∷ xs) (v ∷ vs) sought ≡ v
value_here own k xs v vs sought same = rw same refl

pub value_further : (own : List ℕ) (k : Kind) (xs : List (List ℕ × Kind)) (v : Value) (vs : Instant) (sought : List ℕ) → bytes_eq own sought ≡ false → value_under ((own, k) ∷ xs) (v ∷ vs) sought ≡ value_under xs vs sought
value_further own k xs v vs sought other = rw other refl

-- the first variable's stretch, where it is the one
pub first_stretch : (start : ℕ) (own : List ℕ) (k : Kind) (xs : List (List ℕ × Kind)) (sought : List ℕ) (s : Stretch) → bytes_eq own sought ≡ true → stretch_from start ((own, k) ∷ xs) sought ≡ Some s → record { start = start; kind = k } ≡ s
first_stretch start own k xs sought s same is =
    let e : Some (record { start = start; kind = k }) ≡ Some s = sym (stretch_here start own k xs sought same) ∙ is in
    cc e

-- the value of a variable is one of its kind
pub value_of_kind : (start : ℕ) (xs : List (List ℕ × Kind)) (vs : Instant) (sought : List ℕ) (s : Stretch) → stretch_from start xs sought ≡ Some s → AreOfKinds xs vs → IsOf s.kind (value_under xs vs sought)
value_of_kind start [] vs sought s is h = absurd (cc is)
value_of_kind start (x ∷ xs) [] sought s is h = absurd h
value_of_kind start ((own, k) ∷ xs) (v ∷ vs) sought s is h =
    by_test (bytes_eq own sought)
    (λ same. subst (λ w. IsOf s.kind w) (sym (value_here own k xs v vs sought same)) (subst (λ (z : Stretch). IsOf z.kind v) (first_stretch start own k xs sought s same is) h.0))
    (λ other. subst (λ w. IsOf s.kind w) (sym (value_further own k xs v vs sought other)) (value_of_kind (start + cells k) xs vs sought s (sym (stretch_further start own k xs sought other) ∙ is) h.1))

-- a number of a variable's value is that of its cell
pub number_of_cell : (start : ℕ) (xs : List (List ℕ × Kind)) (vs : Instant) (sought : List ℕ) (s : Stretch) (p cell : ℕ) → stretch_from start xs sought ≡ Some s → AreOfKinds xs vs → p < cells s.kind → start + cell ≡ s.start + p →
    number_of (value_under xs vs sought) p ≡ number_of (row_of vs) cell
number_of_cell start [] vs sought s p cell is h below at = absurd (cc is)
number_of_cell start (x ∷ xs) [] sought s p cell is h below at = absurd h
number_of_cell start ((own, k) ∷ xs) (v ∷ vs) sought s p cell is h below at = by_test (bytes_eq own sought) here (λ other. further other (number_of_cell (start + cells k) xs vs sought s p (cell - cells k) (sym (stretch_further start own k xs sought other) ∙ is) h.1 below))
  where
    many : length v ≡ cells k
    many = as_many (ranges k) v h.0

    here : bytes_eq own sought ≡ true → number_of (value_under ((own, k) ∷ xs) (v ∷ vs) sought) p ≡ number_of (v ++ row_of vs) cell
    here same =
        let e = first_stretch start own k xs sought s same is in
        let starts : start ≡ s.start = ap (λ (z : Stretch). z.start) e in
        let sizes : cells k ≡ cells s.kind = ap (λ (z : Stretch). cells z.kind) e in
        let place : cell ≡ p = omega (arith, starts, at) in
        let inside : p < length v = omega (arith, many, sizes, below) in
        ap (λ w. number_of w p) (value_here own k xs v vs sought same) ∙ sym (in_front_part v (row_of vs) p inside) ∙ ap (number_of (v ++ row_of vs)) (sym place)

    further : bytes_eq own sought ≡ false → ((start + cells k) + (cell - cells k) ≡ s.start + p → number_of (value_under xs vs sought) p ≡ number_of (row_of vs) (cell - cells k)) →
        number_of (value_under ((own, k) ∷ xs) (v ∷ vs) sought) p ≡ number_of (v ++ row_of vs) cell
    further other rest =
        let from : start + cells k ≤ s.start = (is_stretch (start + cells k) xs sought s (sym (stretch_further start own k xs sought other) ∙ is)).from in
        let moved : cell ≡ length v + (cell - cells k) = omega (arith, many, from, at) in
        ap (λ w. number_of w p) (value_further own k xs v vs sought other) ∙ rest (omega (arith, from, at)) ∙ sym (in_back_part v (row_of vs) (cell - cells k) cell moved)

-- a variable has a stretch
pub record HasStretch (start : ℕ) (xs : List (List ℕ × Kind)) (sought : List ℕ) (k : Kind) : Type 0 where
  pub stretch : Stretch
  pub is : stretch_from start xs sought ≡ Some stretch
  pub kind : stretch.kind ≡ k

pub has_stretch : (start : ℕ) (xs : List (List ℕ × Kind)) (sought : List ℕ) (k : Kind) → under sought xs ≡ Some k → HasStretch start xs sought k
has_stretch start [] sought k is = absurd (cc is)
has_stretch start ((own, l) ∷ xs) sought k is =
    by_test (bytes_eq own sought)
    (λ same. let e : Some l ≡ Some k = sym (under_here sought own l xs same) ∙ is in
    record { stretch = record { start = start; kind = l }; is = stretch_here start own l xs sought same; kind = cc e })
    (λ other. let r = has_stretch (start + cells l) xs sought k (sym (under_further sought own l xs other) ∙ is) in
    record { stretch = r.stretch; is = stretch_further start own l xs sought other ∙ r.is; kind = r.kind })

-- ---- instants

-- what holds of all holds at each place
pub all_at : {A : Type 0} (P : A → Type 0) (xs : List A) (d : A) (i : ℕ) → i < length xs → AllByRecursion P xs → P (get_or xs i d)
all_at P [] d i h all = absurd (omega arith)
all_at P (x ∷ xs) d zero h all = all.0
all_at P (x ∷ xs) d (suc i) h all = all_at P xs d i (omega arith) all.1

-- the number of a place of an element at a time is that of its cell
pub has_number : (m : HllModel) (h : History) (t cell : ℕ) (d : Def) (e : Element) (place : ℕ) → Well m → GoesTo m t h → IsDefinedBy m cell d e place → number_of (has_at m h t d.name.text e) place ≡ number_at h t cell
has_number m h t cell d e place well goes by =
    in_part e.start (cells e.kind) (value_under (variables m) (slice_index_or h t []) d.name.text) place (e.start + place) by.within refl
    ∙ number_of_cell 0 (variables m) (slice_index_or h t []) d.name.text by.variable (e.start + place) cell by.is_variable
    (all_at (AreOfKinds (variables m)) h [] t goes.within goes.of_kinds)
    (defined_inside m cell d e place well by)
    (omega (arith, by.is_cell))

-- ---- parts

module _ (m : HllModel) (h : History) (x : List ℕ) (e : Element) where
  -- what a part says of an element it says of each place
  module _ (t place : ℕ) (within : t < length h) where
    first_number : (expr : Expr) → IsFirst m h x e expr → IsFirstNumber m h t e place expr (number_of (has_at m h t x e) place)
    first_number expr is start =
        ap (λ u. number_of (has_at m h u x e) place) start ∙ ap (λ v. number_of v place) (is (omega (arith, start, within)))

    next_number : (expr : Expr) → IsNext m h x e expr → IsNextNumber m h t e place expr (number_of (has_at m h t x e) place)
    next_number expr is before after =
        ap (λ u. number_of (has_at m h u x e) place) after ∙ ap (λ v. number_of v place) (is before (omega (arith, after, within)))

    pub part_number : (p : Part) → Defines m h x e p → IsGivenBy m h t e place p (number_of (has_at m h t x e) place)
    part_number (part.Value expr) is = ap (λ v. number_of v place) (is t within)
    part_number (part.Both first next) is = (first_number first is.0, next_number next is.1)
    part_number (part.First first) is = first_number first is
    part_number (part.Next next) is = next_number next is

  -- what it says of each place it says of the element
  module _ (has : (t : ℕ) → t < length h → length (has_at m h t x e) ≡ cells e.kind) where
    -- two values are the same by their numbers
    same_value : (t u : ℕ) (expr : Expr) → t < length h → length (given_at m h u e expr) ≡ cells e.kind → ((place : ℕ) → place < cells e.kind → number_of (has_at m h t x e) place ≡ number_given m h u e place expr) → has_at m h t x e ≡ given_at m h u e expr
    same_value t u expr within many same =
        ext_get_or (pos 0) (has_at m h t x e) (given_at m h u e expr) (has t within ∙ sym many) (λ i below. same i (omega (arith, has t within, below)))

    always_of : (expr : Expr) → ((t : ℕ) → t < length h → length (given_at m h t e expr) ≡ cells e.kind) → ((t place : ℕ) → t < length h → place < cells e.kind → number_of (has_at m h t x e) place ≡ number_given m h t e place expr) → IsAlways m h x e expr
    always_of expr many given t within = same_value t t expr within (many t within) (λ place below. given t place within below)

    first_of_numbers : (expr : Expr) → ((t : ℕ) → t < length h → length (given_at m h t e expr) ≡ cells e.kind) → ((t place : ℕ) → t < length h → place < cells e.kind → IsFirstNumber m h t e place expr (number_of (has_at m h t x e) place)) → IsFirst m h x e expr
    first_of_numbers expr many given some = same_value 0 0 expr some (many 0 some) (λ place below. given 0 place some below refl)

    next_of_numbers : (expr : Expr) → ((t : ℕ) → t < length h → length (given_at m h t e expr) ≡ cells e.kind) → ((t place : ℕ) → t < length h → place < cells e.kind → IsNextNumber m h t e place expr (number_of (has_at m h t x e) place)) → IsNext m h x e expr
    next_of_numbers expr many given t within = same_value (t + 1) t expr within (many t (omega arith)) (λ place below. given (t + 1) place within below t refl)

    pub part_of_numbers : (p : Part) → ((expr : Expr) → Contains (part_expressions p) expr → (t : ℕ) → t < length h → length (given_at m h t e expr) ≡ cells e.kind) →
        ((t place : ℕ) → t < length h → place < cells e.kind → IsGivenBy m h t e place p (number_of (has_at m h t x e) place)) → Defines m h x e p
    part_of_numbers (part.Value expr) many given = always_of expr (many expr (in_front expr [])) given
    part_of_numbers (part.Both first next) many given = (
      first_of_numbers first (many first (in_front first (next ∷ []))) (λ t place within below. (given t place within below).0),
      next_of_numbers next (many next (further_on first next (next ∷ []) (in_front next []))) (λ t place within below. (given t place within below).1),
    )
    part_of_numbers (part.First first) many given = first_of_numbers first (many first (in_front first [])) given
    part_of_numbers (part.Next next) many given = next_of_numbers next (many next (in_front next [])) given

-- a history of values of their kinds goes to each of its times
all_go : (m : HllModel) (h : History) (t : ℕ) → AllByRecursion (AreOfKinds (variables m)) h → t < length h → GoesTo m t h
all_go m h t of_kinds within = record { of_kinds = of_kinds; within = within }

-- a run is one cell by cell
pub cells_of_run : (m : HllModel) (h : History) → Well m → IsRun m h → IsCellRun m h
cells_of_run m h well run = record { of_kinds = run.of_kinds; given = λ t cell within d e place by. each t cell within d e place by }
  where
    each : (t cell : ℕ) → t < length h → IsCellGiven m h t cell (number_at h t cell)
    each t cell within d e place by =
        let all = run.defined d by.variable.kind by.stands (is_stretch 0 (variables m) d.name.text by.variable by.is_variable).kind in
        let one : Defines m h d.name.text e d.part = all_hold (λ z. Defines m h d.name.text z d.part) (picked d.indices by.variable.kind) e all by.picks in
        subst (IsGivenBy m h t e place d.part) (has_number m h t cell d e place well (all_go m h t run.of_kinds within) by) (part_number m h d.name.text e t place within d.part one)

-- ---- the other way round

fit_length : (es : List Ends) (v : Value) → length v ≡ length es → length (fit_all es v) ≡ length es
fit_length [] v same = refl
fit_length (e ∷ es) [] same = absurd (omega (arith, same))
fit_length (e ∷ es) (x ∷ v) same = ap suc (fit_length es v (omega (arith, same)))

part_length : (start count : ℕ) (v : Value) → start + count ≤ length v → length (cells_from start count v) ≡ count
part_length start count v inside = simp (length-take, length-drop) (omega arith)

module _ (m : HllModel) (h : History) (well : Well m) (have : GivenValuesHaveCells m) (r : IsCellRun m h) (d : Def) (k : Kind) (stands : Contains (definitions m) d) (of_kind : under d.name.text (variables m) ≡ Some k) (e : Element) (picks : Contains (picked d.indices k) e) where
  stretch : HasStretch 0 (variables m) d.name.text k
  stretch = has_stretch 0 (variables m) d.name.text k of_kind

  fits : IsFitting (names m) d
  fits = all_hold (IsFitting (names m)) (definitions m) d (definitions_fit m well) stands

  inside : e.start + cells e.kind ≤ cells k
  inside =
      let found : Some k ≡ Some fits.kind = sym of_kind ∙ fits.of_kind in
      let same : k ≡ fits.kind = cc found in
      let ends = (lies_in d.indices fits.kind (left_side d.indices fits.kind).kind (levels_of d.indices fits.kind fits.faultless) e (subst (λ l. Contains (picked d.indices l) e) same picks)).ends in
      subst (λ (l : Kind). e.start + cells e.kind ≤ cells l) (sym same) ends

  defined_by : (place : ℕ) → place < cells e.kind → IsDefinedBy m (stretch.stretch.start + e.start + place) d e place
  defined_by place below =
      record { stands = stands; variable = stretch.stretch; is_variable = stretch.is; picks = subst (λ l. Contains (picked d.indices l) e) (sym stretch.kind) picks; within = below; is_cell = refl }

  has_length : (t : ℕ) → t < length h → length (has_at m h t d.name.text e) ≡ cells e.kind
  has_length t within =
      let value = value_of_kind 0 (variables m) (slice_index_or h t []) d.name.text stretch.stretch stretch.is (all_at (AreOfKinds (variables m)) h [] t within r.of_kinds) in
      let many : length (value_under (variables m) (slice_index_or h t []) d.name.text) ≡ cells k = as_many (ranges stretch.stretch.kind) (value_under (variables m) (slice_index_or h t []) d.name.text) value ∙ ap cells stretch.kind in
      part_length e.start (cells e.kind) (value_under (variables m) (slice_index_or h t []) d.name.text) (omega (arith, many, inside))

  given_length : (expr : Expr) → Contains (part_expressions d.part) expr → (t : ℕ) → t < length h → length (given_at m h t e expr) ≡ cells e.kind
  given_length expr gives t within =
      fit_length (ranges e.kind) (worth expr (scene m h t e.bound)) (have e expr t h (record { definition = d; kind = k; stands = stands; of_kind = of_kind; picks = picks; gives = gives }) (all_go m h t r.of_kinds within))

  defines : Defines m h d.name.text e d.part
  defines =
      part_of_numbers m h d.name.text e has_length d.part given_length
      (λ t place within below. subst (IsGivenBy m h t e place d.part) (sym (has_number m h t (stretch.stretch.start + e.start + place) d e place well (all_go m h t r.of_kinds within) (defined_by place below))) (r.given t (stretch.stretch.start + e.start + place) within d e place (defined_by place below)))

pub run_of_cells : (m : HllModel) (h : History) → Well m → GivenValuesHaveCells m → IsCellRun m h → IsRun m h
run_of_cells m h well have r = record {
  of_kinds = r.of_kinds;
  defined = λ d k stands of_kind. all_of (λ e. Defines m h d.name.text e d.part) (picked d.indices k) (λ e picks. defines m h well have r d k stands of_kind e picks);
}
