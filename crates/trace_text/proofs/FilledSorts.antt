-- In a spelled text without faults each enumeration and each sort has elements.
use Rattle.std.proofs.Common.{◌≡◌, ℕ, ◌<◌, ◌⊎◌, inl, inr, true, ◌||◌, List, [], ◌∷◌, ◌++◌, map, fold, length, Option, Some, unwrap_or, refl, sym, ap, subst, ◌∙◌, arith, length-append}
use Rattle.std.specs.List.{AllByRecursion, flat_map}
use Rattle.std.specs.Str.{bytes_eq}
use Rattle.std.proofs.lemmas.List.{append-nil, map-append}
use Rattle.hll_tree.specs.declared.tree.HllModel.{HllModel}
use Rattle.hll_tree.specs.declared.tree.Name.{Name}
use Rattle.hll_tree.specs.declared.tree.TypeItem.{TypeItem}
use Rattle.hll_tree.specs.declared.tree.TypeItem.TheVariants as item
use Rattle.hll_tree.proofs.GivenExpressions.{IsNamed}
use Rattle.hll_tree.proofs.Gives.{Several, all_append}
use Rattle.hll_meaning.specs.Names.{under}
use Rattle.hll_meaning.specs.Declarations.{Item, a_constant, a_type, variables_of, items, type_items, texts, is_among, element_table, elements_under}
use Rattle.hll_meaning.specs.StaticRules.{declaring, item_faults, types_of_item, Pass1, pass1_item, pass1_faults, early, sort_of, children_of, children_faults, Well}
use Rattle.hll_meaning.proofs.Faultless.{first_empty}
use Rattle.hll_meaning.proofs.FineNames.{first_faultless}
use Rattle.hll_meaning.proofs.Scenes.{by_test, under_all, under_here, under_further}
use Rattle.hll_types.proofs.Apart.{among_self, or_either, or_first, or_second}
use Rattle.hll_types.proofs.FreshNames.{among_append}
use Rattle.hll_types.proofs.PassTypes.{types_of_pass}
use Rattle.hll_types.proofs.RootedSorts.{under_kept}
use Rattle.hll_types.proofs.SortTables.{IsOther, sorts_further, table_further}
use Rattle.hll_types.proofs.TidyTables.{children_parts}
use Rattle.hll_meaning.specs.Texts.{HasText}
use Rattle.trace_text.proofs.RootParts.{own, start}
use Rattle.trace_text.proofs.SpelledItems.{IsSpelledType, IsSpelledItem, items_spelled}

abbrev Table : Type 0
Table = List (List ℕ × List (List ℕ))

-- the names in a table
abbrev names_in : Table → List (List ℕ)
names_in table = map (λ x. x.0) table

-- something stands under a name that is there
under_some : {A : Type 0} (xs : List (List ℕ × A)) (n : List ℕ) → is_among (map (λ x. x.0) xs) n ≡ true → (a : A) × (under n xs ≡ Some a)
under_some [] n there = absurd (cc there)
under_some ((own, b) ∷ xs) n there =
    by_test (bytes_eq own n)
    (λ same. (b, under_here n own b xs same))
    (λ other.
    let rest = under_some xs n (ap (λ c. c || is_among (map (λ x. x.0) xs) n) (sym other) ∙ there) in
    (rest.0, under_further n own b xs other ∙ rest.1))

-- each entry of the table has elements, and each sort an entry
record AreFilled (types : List TypeItem) : Type 0 where
  entries : AllByRecursion (λ e. 0 < length e.1) (element_table types)
  sorts : (n : List ℕ) → is_among (flat_map sort_of types) n ≡ true → is_among (names_in (element_table types)) n ≡ true

-- what stands under a name that is there has elements
filled_under : (table : Table) → AllByRecursion (λ e. 0 < length e.1) table → (n : List ℕ) → is_among (names_in table) n ≡ true → 0 < length (elements_under table n)
filled_under table all n there =
    let found = under_some table n there in
    let same : elements_under table n ≡ found.0 = ap (λ (o : Option (List (List ℕ))). unwrap_or o []) found.1 in
    subst (λ es. 0 < length es) (sym same) (under_all (λ es. 0 < length es) table all n found.0 found.1)

some_names : (es : List Name) → Several IsNamed es → 0 < length (texts es)
some_names [] h = absurd h
some_names (e ∷ es) h = omega arith

-- ---- items

filled_other : (types : List TypeItem) (t : TypeItem) → IsOther t → AreFilled types → AreFilled (types ++ t ∷ [])
filled_other types t other h =
    let table = table_further types t ∙ other.elements (element_table types) in
    let same = sorts_further types t ∙ ap (λ ns. flat_map sort_of types ++ ns) other.sort ∙ append-nil (flat_map sort_of types) in
    record {
      entries = subst (λ (ts : Table). AllByRecursion (λ e. 0 < length e.1) ts) (sym table) h.entries;
      sorts = λ n there. ap (λ (ts : Table). is_among (names_in ts) n) table ∙ h.sorts n (ap (λ ns. is_among ns n) (sym same) ∙ there);
    }

-- an enumeration or a sort with its elements
filled_more : (types : List TypeItem) (t : TypeItem) (n : List ℕ) (es : List (List ℕ)) → element_table (types ++ t ∷ []) ≡ element_table types ++ (n, es) ∷ [] → ((q : List ℕ) → is_among (sort_of t) q ≡ true → is_among (n ∷ []) q ≡ true) → 0 < length es →
    AreFilled types → AreFilled (types ++ t ∷ [])
filled_more types t n es table sort some h = record {
  entries = subst (λ (ts : Table). AllByRecursion (λ e. 0 < length e.1) ts) (sym table) (all_append (λ (e : List ℕ × List (List ℕ)). 0 < length e.1) (element_table types) ((n, es) ∷ []) h.entries (some, tt));
  sorts = λ q there. ap (λ (ts : Table). is_among (names_in ts) q) table ∙ ap (λ ns. is_among ns q) (map-append (λ (x : List ℕ × List (List ℕ)). x.0) (element_table types) ((n, es) ∷ []))
      ∙ among_append (names_in (element_table types)) (n ∷ []) q
      ∙ by q (or_either (is_among (flat_map sort_of types) q) (is_among (sort_of t) q) (sym (among_append (flat_map sort_of types) (sort_of t) q) ∙ ap (λ ns. is_among ns q) (sym (sorts_further types t)) ∙ there));
}
  where
    by : (q : List ℕ) → (is_among (flat_map sort_of types) q ≡ true) ⊎ (is_among (sort_of t) q ≡ true) → (is_among (names_in (element_table types)) q || is_among (n ∷ []) q) ≡ true
    by q (inl old) = or_first (is_among (names_in (element_table types)) q) (is_among (n ∷ []) q) (h.sorts q old)
    by q (inr new) = or_second (is_among (names_in (element_table types)) q) (is_among (n ∷ []) q) (sort q new)

-- the elements of sorts that are joined
joined_some : (types : List TypeItem) (children : List Name) → Several IsNamed children → ((q : List ℕ) → is_among (texts children) q ≡ true → 0 < length (own types q)) → 0 < length (flat_map (elements_under (element_table types)) (texts children))
joined_some types [] h each = absurd h
joined_some types (c ∷ children) h each =
    let first = each c.text (among_self c.text (texts children)) in
    omega (arith, first, length-append (own types c.text) (flat_map (elements_under (element_table types)) (texts children)))

filled_type : (further : List (List ℕ)) (p : Pass1) (t : TypeItem) → IsSpelledType t → item_faults (declaring p.names further) p (a_type t) ≡ [] → AreFilled p.types → AreFilled (p.types ++ t ∷ [])
filled_type further p (item.Alias ty d) spelled none h = filled_other p.types (item.Alias ty d) (record { elements = λ table. refl; parent = λ n. refl; sort = refl; children = refl }) h
filled_type further p (item.Enumeration es n) spelled none h =
    filled_more p.types (item.Enumeration es n) n.text (texts es) (table_further p.types (item.Enumeration es n)) (λ q there. absurd (cc there)) (some_names es spelled) h
filled_type further p (item.Structure fields n) spelled none h = filled_other p.types (item.Structure fields n) (record { elements = λ table. refl; parent = λ n. refl; sort = refl; children = refl }) h
filled_type further p (item.Leaves es n) spelled none h =
    filled_more p.types (item.Leaves es n) n.text (texts es) (table_further p.types (item.Leaves es n)) (λ q there. there) (some_names es spelled) h
filled_type further p (item.Children children n) spelled none h =
    let tested = first_empty (children_faults (declaring p.names further) (flat_map sort_of p.types) (flat_map children_of p.types) children) _ none in
    filled_more p.types (item.Children children n) n.text (flat_map (elements_under (element_table p.types)) (texts children)) (table_further p.types (item.Children children n)) (λ q there. there)
    (joined_some p.types children spelled (λ q there. filled_under (element_table p.types) h.entries q
    (h.sorts q (children_parts (declaring p.names further) (flat_map sort_of p.types) (flat_map children_of p.types) children tested q there).1)))
    h

filled_item : (further : List (List ℕ)) (p : Pass1) (it : Item) → IsSpelledItem it → item_faults (declaring p.names further) p it ≡ [] → AreFilled p.types → AreFilled (p.types ++ types_of_item it)
filled_item further p (a_constant k) spelled none h = subst AreFilled (sym (append-nil p.types)) h
filled_item further p (a_type t) spelled none h = filled_type further p t spelled none h
filled_item further p (variables_of input decl) spelled none h = subst AreFilled (sym (append-nil p.types)) h

filled_items : (further : List (List ℕ)) (its : List Item) (p : Pass1) → AllByRecursion IsSpelledItem its → (fold (pass1_item further) p its).faults ≡ [] → AreFilled p.types → AreFilled (fold (pass1_item further) p its).types
filled_items further [] p spelled none h = h
filled_items further (it ∷ its) p spelled none h =
    filled_items further its (pass1_item further p it) spelled.1 none (filled_item further p it spelled.0 (first_faultless further it its p none) h)

filled_text : (m : HllModel) → HasText m → Well m → AreFilled (type_items m)
filled_text m has well =
    subst AreFilled (types_of_pass m)
    (filled_items (early m) (items m) start (items_spelled m has) (first_empty (pass1_faults m) _ well) (record { entries = tt; sorts = λ n there. absurd (cc there) }))

-- an enumeration or a sort among the types of a text has elements
pub sort_filled : (m : HllModel) → HasText m → Well m → (types rest : List TypeItem) (t : TypeItem) (n : List ℕ) (es : List (List ℕ)) → element_table (types ++ t ∷ []) ≡ element_table types ++ (n, es) ∷ [] → (types ++ t ∷ []) ++ rest ≡ type_items m →
    0 < length (own (type_items m) n)
sort_filled m has well types rest t n es table whole =
    let there : is_among (names_in (element_table (types ++ t ∷ []))) n ≡ true =
    ap (λ (ts : Table). is_among (names_in ts) n) table ∙ ap (λ ns. is_among ns n) (map-append (λ (x : List ℕ × List (List ℕ)). x.0) (element_table types) ((n, es) ∷ []))
    ∙ among_append (names_in (element_table types)) (n ∷ []) n ∙ or_second (is_among (names_in (element_table types)) n) (is_among (n ∷ []) n) (among_self n []) in
    let found = under_some (element_table (types ++ t ∷ [])) n there in
    let kept = ap (λ ts. under n (element_table ts)) (sym whole) ∙ under_kept (types ++ t ∷ []) rest n found.0 found.1 in
    let same : own (type_items m) n ≡ found.0 = ap (λ (o : Option (List (List ℕ))). unwrap_or o []) kept in
    subst (λ es. 0 < length es) (sym same) (under_all (λ es. 0 < length es) (element_table (type_items m)) (filled_text m has well).entries n found.0 kept)
