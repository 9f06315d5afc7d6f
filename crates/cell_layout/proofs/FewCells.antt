-- A text without faults has few cells: pass 1 counts those of its variables, one by one.
use Rattle.std.proofs.Common.{◌≡◌, ℕ, ◌+◌, ◌*◌, ◌≤◌, Bool, ◌||◌, List, [], ◌∷◌, ◌++◌, map, fold, length, refl, sym, ap, subst, ◌∙◌, arith}
use Rattle.std.specs.Prelude.{nat_lt}
use Rattle.std.proofs.lemmas.Bool.{ltb-false}
use Rattle.std.proofs.lemmas.List.{length-append}
use Rattle.hll_tree.specs.declared.tree.Declarator.{Declarator}
use Rattle.hll_tree.specs.declared.tree.HllModel.{HllModel}
use Rattle.hll_tree.specs.declared.tree.Name.{Name}
use Rattle.hll_tree.specs.declared.tree.TypeItem.{TypeItem}
use Rattle.hll_tree.specs.declared.tree.TypeItem.TheVariants as item
use Rattle.hll_tree.specs.declared.tree.TypeText.{TypeText}
use Rattle.hll_meaning.specs.Agreement.{without_roots, fields_without_roots, names_without_roots, AgreeButElements}
use Rattle.hll_meaning.specs.Declarations.{declared_kind, Item, a_constant, a_type, variables_of, items, coded, declared_by_type, declared_by, names}
use Rattle.hll_meaning.specs.Kinds.{Kind, truth, whole, element, array, struct, Fields, none as no_fields, field, cells, ranges, field_ranges}
use Rattle.hll_meaning.specs.Names.{Thing, constant, type_of, code_in, variable, later, Names}
use Rattle.hll_meaning.specs.Runs.{variables_among}
use Rattle.hll_meaning.specs.StaticRules.{is_large, declaring, dims_faults, fresh_name, written_faults, Pass1, declarators_faults, item_faults, types_of_item, cells_of_item, pass1_item, pass1, pass1_faults, early, Well}
use Rattle.hll_meaning.specs.Judging.{Context}
use Rattle.hll_meaning.proofs.Agreement.{names_agree}
use Rattle.hll_meaning.proofs.Faultless.{first_empty, second_empty, not_so, neither}
use Rattle.hll_meaning.proofs.FineNames.{first_faultless}
use Rattle.dependence.specs.Dependence.{cell_count}
use Rattle.dependence.proofs.DefinedCells.{count_all, count_more}
use Rattle.dependence.proofs.Picks.{array_cells}

-- the cells of the variables among names
abbrev count_among : Names → ℕ
count_among ns = count_all (variables_among ns)

-- ---- names that agree but for elements

mutual
  cells_without : (k : Kind) → cells (without_roots k) ≡ cells k
  cells_without truth = refl
  cells_without (whole e) = refl
  cells_without (element root e) = refl
  cells_without (array n k) = array_cells n (without_roots k) ∙ ap (λ (c : ℕ). n * c) (cells_without k) ∙ sym (array_cells n k)
  cells_without (struct name fields) = fields_without fields

  fields_without : (fields : Fields) → length (field_ranges (fields_without_roots fields)) ≡ length (field_ranges fields)
  fields_without no_fields = refl
  fields_without (field name k fields) =
      length-append (ranges (without_roots k)) (field_ranges (fields_without_roots fields))
      ∙ (λ i. cells_without k i + fields_without fields i)
      ∙ sym (length-append (ranges k) (field_ranges fields))

count_without : (ns : Names) → count_among (names_without_roots ns) ≡ count_among ns
count_without [] = refl
count_without ((own, constant b x) ∷ ns) = count_without ns
count_without ((own, type_of k) ∷ ns) = count_without ns
count_without ((own, code_in root c) ∷ ns) = count_without ns
count_without ((own, variable input k) ∷ ns) =
    count_more (own, without_roots k) (variables_among (names_without_roots ns))
    ∙ (λ i. cells_without k i + count_without ns i)
    ∙ sym (count_more (own, k) (variables_among ns))
count_without ((own, later) ∷ ns) = count_without ns

count_agrees : (xs ys : Names) → AgreeButElements xs ys → count_among xs ≡ count_among ys
count_agrees xs ys agree = sym (count_without xs) ∙ ap count_among agree ∙ count_without ys

-- ---- what an item declares

count_both : (xs ys : Names) → count_among (xs ++ ys) ≡ count_among xs + count_among ys
count_both [] ys = omega arith
count_both ((own, constant b x) ∷ xs) ys = count_both xs ys
count_both ((own, type_of k) ∷ xs) ys = count_both xs ys
count_both ((own, code_in root c) ∷ xs) ys = count_both xs ys
count_both ((own, variable input k) ∷ xs) ys =
    omega (arith, count_more (own, k) (variables_among (xs ++ ys)), count_more (own, k) (variables_among xs), count_both xs ys)
count_both ((own, later) ∷ xs) ys = count_both xs ys

count_coded : (all : List TypeItem) (sort : List ℕ) (es : List Name) (more : Names) → count_among (coded all sort es ++ more) ≡ count_among more
count_coded all sort [] more = refl
count_coded all sort (e ∷ es) more = count_coded all sort es more

count_type : (all : List TypeItem) (before : Names) (t : TypeItem) → count_among (declared_by_type all before t) ≡ 0
count_type all before (item.Alias ty d) = refl
count_type all before (item.Enumeration es n) = count_coded all n.text es _
count_type all before (item.Structure fields n) = refl
count_type all before (item.Leaves es n) = count_coded all n.text es _
count_type all before (item.Children children n) = refl

module _ (input : Bool) (before : Names) (ty : TypeText) where
  -- what declarators declare
  abbrev declared : List Declarator → Names
  declared ds = map {B = List ℕ × Thing} (λ d. (d.name.text, variable input (declared_kind before ty d))) ds

  count_declared : (total : ℕ) (ds : List Declarator) → fold (λ total d. total + cells (declared_kind before ty d)) total ds ≡ total + count_among (declared ds)
  count_declared total [] = omega arith
  count_declared total (d ∷ ds) =
      omega (arith, count_declared (total + cells (declared_kind before ty d)) ds, count_more (d.name.text, declared_kind before ty d) (variables_among (declared ds)))

  few_declared : (c : Context) (taken : List (List ℕ)) (total : ℕ) (ds : List Declarator) → declarators_faults c before ty taken total ds ≡ [] → total ≤ 100000 → total + count_among (declared ds) ≤ 100000
  few_declared c taken total [] none few = omega (arith, few)
  few_declared c taken total (d ∷ ds) none few =
      let k = declared_kind before ty d in
      let p = second_empty (dims_faults c d.dims) _ (second_empty (fresh_name taken d.name) _ none) in
      let here = not_so (is_large k || nat_lt 100000 (total + cells k)) _ d.name.at (first_empty _ _ p) in
      let within : total + cells k ≤ 100000 = ltb-false 100000 (total + cells k) (neither (is_large k) (nat_lt 100000 (total + cells k)) here).1 in
      omega (arith, few_declared c (d.name.text ∷ taken) (total + cells k) ds (second_empty _ _ p) within, count_more (d.name.text, k) (variables_among (declared ds)))

item_cells : (types : List TypeItem) (before : Names) (it : Item) → cells_of_item before it ≡ count_among (declared_by types before it)
item_cells types before (a_constant k) = refl
item_cells types before (a_type t) = sym (count_type types before t)
item_cells types before (variables_of input decl) = omega (arith, count_declared input before decl.ty 0 decl.names)

item_few : (types : List TypeItem) (c : Context) (p : Pass1) (it : Item) → item_faults c p it ≡ [] → p.cells ≤ 100000 → p.cells + count_among (declared_by types p.names it) ≤ 100000
item_few types c p (a_constant k) none few = omega (arith, few)
item_few types c p (a_type t) none few = omega (arith, few, count_type types p.names t)
item_few types c p (variables_of input decl) none few = few_declared input p.names decl.ty c _ p.cells decl.names (second_empty (written_faults c decl.ty) _ none) few

-- ---- pass 1

-- the cells are counted, and are few
record AreCounted (p : Pass1) : Type 0 where
  counted : p.cells ≡ count_among p.names
  few : p.cells ≤ 100000

one_further : (further : List (List ℕ)) (p : Pass1) (it : Item) → item_faults (declaring p.names further) p it ≡ [] → AreCounted p → AreCounted (pass1_item further p it)
one_further further p it none h =
    let types = p.types ++ types_of_item it in
    let more = item_cells types p.names it in
    record {
      counted = omega (arith, h.counted, more, count_both p.names (declared_by types p.names it));
      few = omega (arith, more, item_few types (declaring p.names further) p it none h.few);
    }

all_counted : (further : List (List ℕ)) (its : List Item) (p : Pass1) → (fold (pass1_item further) p its).faults ≡ [] → AreCounted p → AreCounted (fold (pass1_item further) p its)
all_counted further [] p none h = h
all_counted further (it ∷ its) p none h = all_counted further its (pass1_item further p it) none (one_further further p it (first_faultless further it its p none) h)

-- a text without faults has few cells
pub cells_are_few : (m : HllModel) → Well m → cell_count m ≤ 100000
cells_are_few m well =
    let none = first_empty (pass1_faults m) _ well in
    let h = all_counted (early m) (items m) (record { names = []; types = []; cells = 0; faults = [] }) none (record { counted = refl; few = omega arith }) in
    subst (λ (n : ℕ). n ≤ 100000) (h.counted ∙ count_agrees (pass1 m).names (names m) (names_agree m none)) h.few
