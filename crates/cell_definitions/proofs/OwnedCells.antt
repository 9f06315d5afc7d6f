-- What is known of each cell, variable by variable.
use Rattle.std.proofs.Common.{◌≡◌, ℕ, zero, suc, ◌+◌, ◌-◌, ◌<◌, ◌≤◌, ◌⊎◌, inl, inr, true, false, List, [], ◌∷◌, ◌++◌, map, take, length, get_or, slice_get, replicate, Some, Result, Ok, Err, refl, sym, ap, subst, ◌∙◌, arith, append_assoc}
use Rattle.std.specs.Prelude.{IfOk, OnOk}
use Rattle.std.specs.Str.{bytes_eq}
use Rattle.std.proofs.lemmas.Bool.{cases_lt}
use Rattle.std.proofs.lemmas.List.{append-nil, length-append, length-map, length-replicate, map-append}
use Rattle.std.proofs.lemmas.Simd.{map-map}
use Rattle.std.proofs.lemmas.List.Concat.{flat_map-append}
use Rattle.hll_tree.specs.Printing.{name_text}
use Rattle.hll_tree.specs.declared.tree.Def.{Def}
use Rattle.hll_tree.specs.declared.tree.HllModel.{HllModel}
use Rattle.hll_meaning.specs.Cells.{named_cells, cells_of_all, text_cells}
use Rattle.hll_meaning.specs.Kinds.{Kind, cells}
use Rattle.hll_meaning.specs.Runs.{definitions, variables}
use Rattle.hll_meaning.specs.StaticRules.{definitions_of}
use Rattle.hll_meaning.specs.Types.{kind_of}
use Rattle.hll_meaning.proofs.Scenes.{by_test}
use Rattle.hll_types.specs.declared.variables.Variable.{Variable}
use Rattle.dependence.specs.Dependence.{cell_count}
use Rattle.dependence.specs.Ways.{IsWay, way_by}
use Rattle.dependence.proofs.Apart.{AreApart, same_name, own_name, is_other}
use Rattle.dependence.proofs.CellOwners.{named, IsOwned}
use Rattle.dependence.proofs.CellWays.{owned_way}
use Rattle.dependence.proofs.DefinedCells.{count_all, count_more, length-named, stretch_here, stretch_further}
use Rattle.dependence.proofs.Members.{in_front, further_on, in_map}
use Rattle.cell_columns.specs.declared.columns.Column.{Column}
use Rattle.cell_columns.specs.Columns.{all_columns, cell_of}
use Rattle.cell_definitions.specs.declared.definitions.Kept.{Kept}
use Rattle.cell_definitions.specs.declared.owners.Owner.{Owner}
use Rattle.cell_definitions.specs.Parts.{kept, first_two, Gathers, Owned, owned_of, owned_at, owned_from, IsTable}
use Rattle.cell_definitions.proofs.GatheredDefinitions.{apart_variables, as_many}

-- ---- copies

replicate_front : {A : Type 0} (n : ℕ) (x : A) (ys : List A) (i : ℕ) → i < n → slice_get (replicate n x ++ ys) i ≡ Some x
replicate_front zero x ys i h = absurd (omega arith)
replicate_front (suc n) x ys zero h = refl
replicate_front (suc n) x ys (suc i) h = replicate_front n x ys i (omega arith)

replicate_behind : {A : Type 0} (n : ℕ) (x : A) (ys : List A) (i : ℕ) → slice_get (replicate n x ++ ys) (i + n) ≡ slice_get ys i
replicate_behind zero x ys i = ap (slice_get ys) (let none : i + 0 ≡ i = omega arith in none)
replicate_behind (suc n) x ys i = ap (slice_get (x ∷ (replicate n x ++ ys))) (let more : i + suc n ≡ suc (i + n) = omega arith in more) ∙ replicate_behind n x ys i

-- ---- a cell

-- a cell of variables of which the first begins at a cell, with what is known of it
pub record IsKnown (defs : List Def) (start : ℕ) (xs : List (List ℕ × Kind)) (cell : ℕ) : Type 0 where
  pub own : IsOwned start xs cell
  pub known : slice_get (owned_from defs start xs) (cell - start) ≡ Some (record { stretch = own.stretch; count = cells own.stretch.kind; way = way_by (first_two defs own.name) })

pub is_known : (defs : List Def) (start : ℕ) (xs : List (List ℕ × Kind)) (cell : ℕ) → AreApart (named xs) → start ≤ cell → cell < start + count_all xs → IsKnown defs start xs cell
is_known defs start [] cell apart from to = absurd (omega arith)
is_known defs start ((own, k) ∷ xs) cell apart from to = by (is_known defs (start + cells k) xs cell apart.1) (cases_lt cell (start + cells k))
  where
    one : Owned
    one = owned_at defs start (own, k)

    further : start + cells k ≤ cell → IsKnown defs (start + cells k) xs cell → IsKnown defs start ((own, k) ∷ xs) cell
    further large r =
        let h = r.own in
        let there = in_map (λ (x : List ℕ × Kind). x.0) xs (h.name, h.stretch.kind) h.listed in
        let other : bytes_eq own h.name ≡ false = by_test (bytes_eq own h.name) (λ same. let wrong : true ≡ false = sym (own_name own) ∙ ap (λ z. bytes_eq z own) (same_name own h.name same) ∙ is_other (named xs) own h.name apart.0 there in absurd (cc wrong)) (λ differs. differs) in
        let place : cell - start ≡ (cell - (start + cells k)) + cells k = omega arith in
        record {
          own = record { name = h.name; stretch = h.stretch; is_variable = stretch_further start own k xs h.name other ∙ h.is_variable; listed = further_on (own, k) (h.name, h.stretch.kind) xs h.listed; rest = h.rest; within = h.within; is_cell = h.is_cell };
          known = ap (slice_get (owned_from defs start ((own, k) ∷ xs))) place ∙ replicate_behind (cells k) (owned_at defs start (own, k)) (owned_from defs (start + cells k) xs) (cell - (start + cells k)) ∙ r.known;
        }

    by : (start + cells k ≤ cell → cell < (start + cells k) + count_all xs → IsKnown defs (start + cells k) xs cell) → (cell < start + cells k) ⊎ (start + cells k ≤ cell) → IsKnown defs start ((own, k) ∷ xs) cell
    by rest (inl small) = record {
      own = record { name = own; stretch = record { start = start; kind = k }; is_variable = stretch_here start own k xs own (own_name own); listed = in_front (own, k) xs; rest = cell - start; within = omega arith; is_cell = omega arith };
      known = replicate_front (cells k) (owned_at defs start (own, k)) (owned_from defs (start + cells k) xs) (cell - start) (omega arith);
    }
    by rest (inr large) = further large (rest large (omega (arith, count_more (own, k) xs, to)))

-- ---- what is kept of a cell

-- the first two definitions give the way that all give
two_enough : (ds : List Def) → way_by (take 2 ds) ≡ way_by ds
two_enough [] = refl
two_enough (d ∷ []) = refl
two_enough (d ∷ e ∷ ds) = refl

at_place : {A B : Type 0} (f : A → B) (xs : List A) (i : ℕ) (x : A) → i < length xs → x ≡ get_or xs i x → slice_get (map f xs) i ≡ Some (f x)
at_place f [] i x below is = absurd (omega arith)
at_place f (y ∷ ys) zero x below is = ap (λ z. Some (f z)) (sym is)
at_place f (y ∷ ys) (suc i) x below is = at_place f ys i x (omega arith) is

-- a cell of a text with what is kept of it
pub record IsKept (m : HllModel) (cell : ℕ) (o : Owner) : Type 0 where
  pub own : IsOwned 0 (variables m) cell
  pub same : owned_of o ≡ record { stretch = own.stretch; count = cells own.stretch.kind; way = way_by (definitions_of (definitions m) own.name) }

module _ (m : HllModel) (columns : List Column) (owners : List Owner) (t : IsTable m columns owners) where
  pub as_many_owners : length owners ≡ cell_count m
  as_many_owners = sym (length-map owners owned_of) ∙ ap length t.owners_are ∙ all_owned 0 (variables m)
    where
      all_owned : (start : ℕ) (xs : List (List ℕ × Kind)) → length (owned_from (definitions m) start xs) ≡ count_all xs
      all_owned start [] = refl
      all_owned start (x ∷ xs) = length-append (replicate (cells x.1) (owned_at (definitions m) start x)) (owned_from (definitions m) (start + cells x.1) xs) ∙ (λ i. length-replicate (cells x.1) (owned_at (definitions m) start x) i + all_owned (start + cells x.1) xs i) ∙ sym (count_more x xs)

  pub is_kept : (cell : ℕ) (o : Owner) → cell < cell_count m → o ≡ get_or owners cell o → IsKept m cell o
  is_kept cell o below is =
      let k = is_known (definitions m) 0 (variables m) cell (apart_variables m t.well) (omega arith) (omega (arith, below)) in
      let found = sym (at_place owned_of owners cell o (omega (arith, as_many_owners, below)) is) ∙ (λ i. slice_get (t.owners_are i) cell) ∙ ap (slice_get (owned_from (definitions m) 0 (variables m))) (let place : cell ≡ cell - 0 = omega arith in place) ∙ k.known in
      let same : owned_of o ≡ record { stretch = k.own.stretch; count = cells k.own.stretch.kind; way = way_by (first_two (definitions m) k.own.name) } = cc found in
      record { own = k.own; same = same ∙ ap (λ w. record { stretch = k.own.stretch; count = cells k.own.stretch.kind; way = w }) (two_enough (definitions_of (definitions m) k.own.name)) }

  -- the way of a cell is kept
  pub way_kept : (cell : ℕ) (o : Owner) → cell < cell_count m → o ≡ get_or owners cell o → IsWay m cell (owned_of o).way
  way_kept cell o below is =
      let k = is_kept cell o below is in
      subst (IsWay m cell) (ap (λ (x : Owned). x.way) (sym k.same)) (owned_way m t.well cell k.own)

  pub as_many_columns : length columns ≡ cell_count m
  as_many_columns = sym (length-map columns cell_of) ∙ ap length t.columns_are

  -- the cell of a column is kept
  pub column_kept : (cell : ℕ) (c : Column) → cell < cell_count m → c ≡ get_or columns cell c → slice_get (text_cells m) cell ≡ Some (cell_of c)
  column_kept cell c below is = (λ i. slice_get (sym t.columns_are i) cell) ∙ at_place cell_of columns cell c (omega (arith, as_many_columns, below)) is

-- ---- one variable more

-- a variable with its kind
abbrev pub kind_pair : Variable → List ℕ × Kind
kind_pair v = (v.name, kind_of v.ty)

-- the cells of variables one after the other
pub columns_more : (vs : List Variable) (v : Variable) → cells_of_all (map kind_pair (vs ++ v ∷ [])) ≡ cells_of_all (map kind_pair vs) ++ all_columns v
columns_more vs v =
    ap cells_of_all (map-append kind_pair vs (v ∷ []))
    ∙ flat_map-append (λ (x : List ℕ × Kind). named_cells (name_text x.0) x.1) (map kind_pair vs) (kind_pair v ∷ [])
    ∙ ap (λ cs. cells_of_all (map kind_pair vs) ++ cs) (append-nil (all_columns v))

from_more : (defs : List Def) (start : ℕ) (xs : List (List ℕ × Kind)) (x : List ℕ × Kind) → owned_from defs start (xs ++ x ∷ []) ≡ owned_from defs start xs ++ replicate (cells x.1) (owned_at defs (start + count_all xs) x)
from_more defs start [] x = append-nil (replicate (cells x.1) (owned_at defs start x)) ∙ ap (λ (n : ℕ). replicate (cells x.1) (owned_at defs n x)) (let none : start ≡ start + 0 = omega arith in none)
from_more defs start (y ∷ ys) x =
    let here = replicate (cells y.1) (owned_at defs start y) in
    let count : start + cells y.1 + count_all ys ≡ start + count_all (y ∷ ys) = omega (arith, count_more y ys) in
    ap (λ os. here ++ os) (from_more defs (start + cells y.1) ys x ∙ ap (λ (n : ℕ). owned_from defs (start + cells y.1) ys ++ replicate (cells x.1) (owned_at defs n x)) count)
    ∙ sym (append_assoc here (owned_from defs (start + cells y.1) ys) (replicate (cells x.1) (owned_at defs (start + count_all (y ∷ ys)) x)))

pub owners_more : (defs : List Def) (vs : List Variable) (v : Variable) → owned_from defs 0 (map kind_pair (vs ++ v ∷ [])) ≡ owned_from defs 0 (map kind_pair vs) ++ replicate (cells (kind_of v.ty)) (owned_at defs (count_all (map kind_pair vs)) (kind_pair v))
owners_more defs vs v =
    ap (owned_from defs 0) (map-append kind_pair vs (v ∷ [])) ∙ from_more defs 0 (map kind_pair vs) (kind_pair v)
    ∙ ap (λ (n : ℕ). owned_from defs 0 (map kind_pair vs) ++ replicate (cells (kind_of v.ty)) (owned_at defs n (kind_pair v))) (let none : 0 + count_all (map kind_pair vs) ≡ count_all (map kind_pair vs) = omega arith in none)

-- a variable has the definitions that are gathered for its place
pub kept_at : (m : HllModel) (defs : List Def) (own : List Kept) (vs : List Variable) (i : ℕ) (k : Kept) (v : Variable) → Gathers m defs own → map kind_pair vs ≡ variables m → i < length vs → k ≡ get_or own i k → v ≡ get_or vs i v → kept k ≡ first_two defs v.name
kept_at m defs own vs i k v h are below is also =
    let many = as_many m defs own h in
    let length_vs : length vs ≡ length (variables m) = sym (length-map vs kind_pair) ∙ ap length are in
    let f = λ (x : List ℕ × Kind). first_two defs x.0 in
    let left = at_place kept own i k (omega (arith, many, length_vs, below)) is in
    let right = at_place (λ (x : Variable). first_two defs x.name) vs i v below also in
    let e : Some (kept k) ≡ Some (first_two defs v.name) = sym left ∙ (λ j. slice_get (h j) i) ∙ (λ j. slice_get (map f (sym are j)) i) ∙ ap (λ xs. slice_get xs i) (map-map f kind_pair vs) ∙ right in
    cc e

-- ---- what is written

-- copies of a variable
pub copies_are : (defs : List Def) (old new : List Owner) (o : Owner) (start : ℕ) (x : List ℕ × Kind) → new ≡ old ++ replicate o.count o → owned_of o ≡ owned_at defs start x → map owned_of new ≡ map owned_of old ++ replicate (cells x.1) (owned_at defs start x)
copies_are defs old new o start x more same =
    let count : o.count ≡ cells x.1 = ap (λ (w : Owned). w.count) same in
    ap (map owned_of) more ∙ map-append owned_of old (replicate o.count o) ∙ ap (λ xs. map owned_of old ++ xs) (copied o.count ∙ (λ i. replicate (count i) (same i)))
  where
    copied : (n : ℕ) → map owned_of (replicate n o) ≡ replicate n (owned_of o)
    copied zero = refl
    copied (suc n) = ap (λ (xs : List Owned). owned_of o ∷ xs) (copied n)

-- the cells of a variable that follow others
pub more_columns : (old new : List Column) (v : Variable) → map cell_of new ≡ map cell_of old ++ all_columns v → length new ≡ length old + cells (kind_of v.ty)
more_columns old new v h =
    sym (length-map new cell_of) ∙ ap length h ∙ length-append (map cell_of old) (all_columns v)
    ∙ (λ i. length-map old cell_of i + length-named (name_text v.name) (kind_of v.ty) i)

pub on_ok : {T E : Type 0} (r : Result T E) (P Q : Type 0) → (P → Q) → OnOk r P → OnOk r Q
on_ok (Ok v) P Q f h = f h
on_ok (Err e) P Q f h = tt

pub if_ok : {T E : Type 0} (r : Result T E) (P Q : T → Type 0) → ((v : T) → P v → Q v) → IfOk r P → IfOk r Q
if_ok (Ok v) P Q f h = f v h
if_ok (Err e) P Q f h = tt
