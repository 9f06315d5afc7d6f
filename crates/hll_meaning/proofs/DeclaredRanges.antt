-- Where pass 1 finds no fault, the ranges that it meets are those of the text.
use Rattle.std.proofs.Common.{◌≡◌, ℕ, ◌+◌, List, [], ◌∷◌, ◌++◌, fold, Some, refl, sym, ap, subst, ◌∙◌}
use Rattle.std.specs.List.{AllByRecursion, flat_map}
use Rattle.std.specs.Str.{bytes_eq}
use Rattle.std.proofs.lemmas.List.{append_assoc}
use Rattle.hll_tree.specs.declared.tree.Declarator.{Declarator}
use Rattle.hll_tree.specs.declared.tree.Expr.{Expr}
use Rattle.hll_tree.specs.declared.tree.Field.{Field}
use Rattle.hll_tree.specs.declared.tree.HllModel.{HllModel}
use Rattle.hll_tree.specs.declared.tree.TypeItem.{TypeItem}
use Rattle.hll_tree.specs.declared.tree.TypeItem.TheVariants as item
use Rattle.hll_tree.specs.declared.tree.TypeText.{TypeText}
use Rattle.hll_tree.specs.declared.tree.TypeText.TheVariants as written
use Rattle.hll_tree.proofs.Gives.{all_append}
use Rattle.hll_meaning.specs.Kinds.{cells}
use Rattle.hll_meaning.specs.Names.{constant, Names, under}
use Rattle.hll_meaning.specs.Agreement.{AgreeButElements}
use Rattle.hll_meaning.specs.Declarations.{declared_kind, type_items, Item, a_constant, a_type, variables_of, items, declared_by, with_item, names}
use Rattle.hll_meaning.specs.Judging.{Judged, judged}
use Rattle.hll_meaning.specs.StaticRules.{asked_in, declaring, dim_faults, written_faults, dims_faults, fresh_name, fields_faults, type_faults, Pass1, taken_by, declarators_faults, item_faults, types_of_item, pass1_item, pass1_faults, early}
use Rattle.hll_meaning.specs.Nodes.{Node, nodes, all_nodes, ranges_of, ranges, type_nodes, declarators_nodes, fields_nodes, type_item_nodes, item_nodes, where_declared, declared_nodes, pass1_nodes, asked_nodes, text_ranges}
use Rattle.hll_meaning.proofs.Faultless.{empty_parts, first_empty, second_empty}
use Rattle.hll_meaning.proofs.Scenes.{by_test, under_here, under_further}
use Rattle.hll_meaning.proofs.FineNames.{further_on, known_before, first_faultless, further_fine}
use Rattle.hll_meaning.proofs.Elements.{agree_append}
use Rattle.hll_meaning.proofs.Same.{KeepsConstants, agreeing_keep, is_kept}
use Rattle.hll_meaning.proofs.SameRanges.{ranges_kept}
use Rattle.hll_meaning.proofs.FaultlessNodes.{Stands, nodes_stand}
use Rattle.hll_meaning.proofs.NodeForms.{ranges_append, ranges_each}
use Rattle.hll_meaning.proofs.Agreement.{AreAlike, item_agrees}

-- ---- names

under_front : {A : Type 0} (xs ys : List (List ℕ × A)) (n : List ℕ) (a : A) → under n xs ≡ Some a → under n (xs ++ ys) ≡ Some a
under_front [] ys n a is = absurd (cc is)
under_front ((own, b) ∷ xs) ys n a is =
    by_test (bytes_eq own n)
    (λ same. under_here n own b (xs ++ ys) same ∙ sym (under_here n own b xs same) ∙ is)
    (λ other. under_further n own b (xs ++ ys) other ∙ under_front xs ys n a (sym (under_further n own b xs other) ∙ is))

-- what is declared first keeps its place
all_items_keep : (all : List TypeItem) (its : List Item) (xs : Names) → KeepsConstants xs (fold (with_item all) xs its)
all_items_keep all [] xs n b x is = is
all_items_keep all (it ∷ its) xs n b x is = all_items_keep all its (with_item all xs it) n b x (under_front xs (declared_by all xs it) n (constant b x) is)

-- names of pass 1, with what stands further on, keep their constants in the names of the text
pub declaring_keeps : (before other final : Names) (further : List (List ℕ)) → AgreeButElements before other → KeepsConstants other final → KeepsConstants (before ++ further_on further) final
declaring_keeps before other final further agree keeps n b x is = keeps n b x (agreeing_keep before other agree n b x (known_before before further n (constant b x) (λ e. cc e) is))

-- ---- nodes in two places

-- nodes as pass 1 meets them, and the same as they stand in the text: their ranges are the same, and there they have no faults
pub record AreSeen (final : Names) (met seen : List Node) : Type 0 where
  pub ranges : ranges_of met ≡ ranges_of seen
  pub stand : AllByRecursion (Stands final) seen

no_nodes : (final : Names) → AreSeen final [] []
no_nodes final = record { ranges = refl; stand = tt }

-- one after the other
both_seen : (final : Names) (ms ns ks ls : List Node) → AreSeen final ms ks → AreSeen final ns ls → AreSeen final (ms ++ ns) (ks ++ ls)
both_seen final ms ns ks ls p q =
    let here = p.ranges in
    let there = q.ranges in
    record {
      ranges = ranges_append ms ns ∙ (λ i. here i ++ there i) ∙ sym (ranges_append ks ls);
      stand = all_append (Stands final) ks ls p.stand q.stand;
    }

-- ---- parts of items

module _ (before final : Names) (further : List (List ℕ)) (keeps : KeepsConstants (before ++ further_on further) final) where
  -- an expression without faults
  pub expression_placed : (e : Expr) → (judged e (declaring before further)).faults ≡ [] → ranges e (declaring before further) ≡ ranges e (where_declared final)
  expression_placed e none = ranges_kept e (before ++ further_on further) final keeps none

  expression_seen : (e : Expr) → (judged e (declaring before further)).faults ≡ [] → AreSeen final (nodes e (declaring before further)) (nodes e (where_declared final))
  expression_seen e none = record {
    ranges = expression_placed e none;
    stand = nodes_stand e (where_declared final) (subst (λ (j : Judged). j.faults ≡ []) (is_kept e (before ++ further_on further) final keeps none) none);
  }

  -- dimensions
  dims_seen : (es : List Expr) → dims_faults (declaring before further) es ≡ [] → AreSeen final (all_nodes es (declaring before further)) (all_nodes es (where_declared final))
  dims_seen [] none = no_nodes final
  dims_seen (e ∷ es) none =
      let c = declaring before further in
      let p = empty_parts (dim_faults (judged e c)) (dims_faults c es) none in
      both_seen final _ _ _ _ (expression_seen e (first_empty (judged e c).faults _ p.0)) (dims_seen es p.1)

  -- a type as it is written
  type_seen : (ty : TypeText) → written_faults (declaring before further) ty ≡ [] → AreSeen final (type_nodes ty (declaring before further)) (type_nodes ty (where_declared final))
  type_seen written.Bool none = no_nodes final
  type_seen (written.Bounds a b) none =
      let c = declaring before further in
      let p = empty_parts (judged a c).faults _ none in
      both_seen final _ _ _ _ (expression_seen a p.0) (expression_seen b (first_empty (judged b c).faults _ p.1))
  type_seen (written.Signed e) none = expression_seen e (first_empty (judged e (declaring before further)).faults _ none)
  type_seen (written.Unsigned e) none = expression_seen e (first_empty (judged e (declaring before further)).faults _ none)
  type_seen (written.Named n) none = no_nodes final

  -- the fields of a struct
  fields_seen : (taken : List (List ℕ)) (fs : List Field) → fields_faults (declaring before further) taken fs ≡ [] → AreSeen final (fields_nodes fs (declaring before further)) (fields_nodes fs (where_declared final))
  fields_seen taken [] none = no_nodes final
  fields_seen taken (f ∷ fs) none =
      let c = declaring before further in
      let p = second_empty (fresh_name taken f.of.name) _ none in
      let q = empty_parts (written_faults c f.ty) _ p in
      let r = empty_parts (dims_faults c f.of.dims) _ q.1 in
      both_seen final _ _ _ _ (both_seen final _ _ _ _ (type_seen f.ty q.0) (dims_seen f.of.dims r.0)) (fields_seen (f.of.name.text ∷ taken) fs r.1)

  -- a type item
  type_item_seen : (others : List TypeItem) (taken : Names) (t : TypeItem) → type_faults (declaring before further) others taken t ≡ [] → AreSeen final (type_item_nodes t (declaring before further)) (type_item_nodes t (where_declared final))
  type_item_seen others taken (item.Alias ty d) none =
      let c = declaring before further in
      let p = empty_parts (written_faults c ty) _ none in
      both_seen final _ _ _ _ (type_seen ty p.0) (dims_seen d.dims (first_empty (dims_faults c d.dims) _ (second_empty (fresh_name (taken_by taken) d.name) _ p.1)))
  type_item_seen others taken (item.Enumeration es n) none = no_nodes final
  type_item_seen others taken (item.Structure fields n) none = fields_seen [] fields (first_empty (fields_faults (declaring before further) [] fields) _ none)
  type_item_seen others taken (item.Leaves es n) none = no_nodes final
  type_item_seen others taken (item.Children children n) none = no_nodes final

  -- declarators
  declarators_seen : (others : Names) (ty : TypeText) (taken : List (List ℕ)) (total : ℕ) (ds : List Declarator) → declarators_faults (declaring before further) others ty taken total ds ≡ [] →
      AreSeen final (declarators_nodes ds (declaring before further)) (declarators_nodes ds (where_declared final))
  declarators_seen others ty taken total [] none = no_nodes final
  declarators_seen others ty taken total (d ∷ ds) none =
      let c = declaring before further in
      let p = second_empty (fresh_name taken d.name) _ none in
      let q = empty_parts (dims_faults c d.dims) _ p in
      both_seen final _ _ _ _ (dims_seen d.dims q.0) (declarators_seen others ty (d.name.text ∷ taken) (total + cells (declared_kind others ty d)) ds (second_empty _ _ q.1))

-- ---- items

-- an item without faults
item_seen : (final : Names) (further : List (List ℕ)) (p : Pass1) (it : Item) → KeepsConstants (p.names ++ further_on further) final → item_faults (declaring p.names further) p it ≡ [] →
    AreSeen final (item_nodes it (declaring p.names further)) (item_nodes it (where_declared final))
item_seen final further p (a_constant k) keeps none =
    expression_seen p.names final further keeps k.value (first_empty (judged k.value (declaring p.names further)).faults _ (second_empty (fresh_name (taken_by p.names) k.name) _ none))
item_seen final further p (a_type t) keeps none = type_item_seen p.names final further keeps p.types p.names t none
item_seen final further p (variables_of input decl) keeps none =
    let q = empty_parts (written_faults (declaring p.names further) decl.ty) _ none in
    both_seen final _ _ _ _ (type_seen p.names final further keeps decl.ty q.0) (declarators_seen p.names final further keeps p.names decl.ty (taken_by p.names) p.cells decl.names q.1)

-- the ranges of an item without faults are those of the text
pub item_placed : (final : Names) (further : List (List ℕ)) (p : Pass1) (it : Item) → KeepsConstants (p.names ++ further_on further) final → item_faults (declaring p.names further) p it ≡ [] →
    ranges_of (item_nodes it (declaring p.names further)) ≡ ranges_of (item_nodes it (where_declared final))
item_placed final further p it keeps none = (item_seen final further p it keeps none).ranges

-- several items, one after the other
items_seen : (all : List TypeItem) (further : List (List ℕ)) (its : List Item) (p : Pass1) (other : Names) → AreAlike p.names other → (fold (pass1_item further) p its).faults ≡ [] →
    AreSeen (fold (with_item all) other its) (pass1_nodes further p its) (declared_nodes (fold (with_item all) other its) its)
items_seen all further [] p other h none = no_nodes other
items_seen all further (it ∷ its) p other h none =
    let final = fold (with_item all) other (it ∷ its) in
    let first = first_faultless further it its p none in
    let types = p.types ++ types_of_item it in
    both_seen final _ _ _ _
    (item_seen final further p it (declaring_keeps p.names other final further h.agree (all_items_keep all (it ∷ its) other)) first)
    (items_seen all further its (pass1_item further p it) (with_item all other it)
    (record {
      agree = agree_append p.names other (declared_by types p.names it) (declared_by all other it) h.agree (item_agrees types all further p other it h first);
      fine = further_fine further p it h.fine first;
    })
    none)

-- ---- texts

-- the nodes of a text where pass 1 finds no fault
pass1_seen : (m : HllModel) → pass1_faults m ≡ [] → AreSeen (names m) (pass1_nodes (early m) (record { names = []; types = []; cells = 0; faults = [] }) (items m)) (declared_nodes (names m) (items m))
pass1_seen m none = items_seen (type_items m) (early m) (items m) (record { names = []; types = []; cells = 0; faults = [] }) [] (record { agree = refl; fine = tt }) none

-- the nodes of its declarations have no faults
pub declared_stand : (m : HllModel) → pass1_faults m ≡ [] → AllByRecursion (Stands (names m)) (declared_nodes (names m) (items m))
declared_stand m none = (pass1_seen m none).stand

-- where pass 1 finds no fault, the ranges of the items, each where pass 1 meets it, are those of the declarations of the text
pub pass1_placed : (m : HllModel) → pass1_faults m ≡ [] → ranges_of (pass1_nodes (early m) (record { names = []; types = []; cells = 0; faults = [] }) (items m)) ≡ ranges_of (declared_nodes (names m) (items m))
pass1_placed m none = (pass1_seen m none).ranges

-- items one after the other
pub pass1_nodes-append : (further : List (List ℕ)) (p : Pass1) (its more : List Item) → pass1_nodes further p (its ++ more) ≡ pass1_nodes further p its ++ pass1_nodes further (fold (pass1_item further) p its) more
pass1_nodes-append further p [] more = refl
pass1_nodes-append further p (it ∷ its) more =
    ap (λ ns. item_nodes it (declaring p.names further) ++ ns) (pass1_nodes-append further (pass1_item further p it) its more)
    ∙ sym (append_assoc (item_nodes it (declaring p.names further)) (pass1_nodes further (pass1_item further p it) its) (pass1_nodes further (fold (pass1_item further) (pass1_item further p it) its) more))

-- so the ranges of a text are those that pass 1 meets, and then those of its definitions and demands
pub text_ranges_walked : (m : HllModel) → pass1_faults m ≡ [] →
    text_ranges m ≡ ranges_of (pass1_nodes (early m) (record { names = []; types = []; cells = 0; faults = [] }) (items m)) ++ flat_map (λ q. ranges_of (asked_nodes (names m) q)) (flat_map asked_in m.sections)
text_ranges_walked m none =
    let here = sym (pass1_placed m none) in
    let there = ranges_each (asked_nodes (names m)) (flat_map asked_in m.sections) in
    ranges_append (declared_nodes (names m) (items m)) (flat_map (asked_nodes (names m)) (flat_map asked_in m.sections)) ∙ (λ i. here i ++ there i)
