-- What a further type item does to enumerations and sorts.
use Rattle.std.proofs.Common.{◌≡◌, ℕ, true, List, [], ◌∷◌, ◌++◌, map, length, take, drop, Option, Some, None, sym, ap, subst, ◌∙◌}
use Rattle.std.specs.List.{flat_map}
use Rattle.std.proofs.lemmas.List.{append-nil}
use Rattle.std.proofs.lemmas.List.Sums.{fold-append}
use Rattle.std.proofs.lemmas.Grind.{flat_map-append}
use Rattle.hll_tree.specs.declared.tree.TypeItem.{TypeItem}
use Rattle.hll_meaning.specs.Declarations.{is_among, element_table, elements_under, with_elements, parent_in, root_of}
use Rattle.hll_meaning.specs.StaticRules.{sort_of, children_of}
use Rattle.hll_types.specs.declared.sorts.Sort.{Sort}
use Rattle.hll_types.specs.Standing.{IsPlaced, AreSorts}

module _ (types : List TypeItem) (t : TypeItem) where
  pub table_further : element_table (types ++ t ∷ []) ≡ with_elements (element_table types) t
  table_further = fold-append with_elements [] types (t ∷ [])

  pub root_further : (n : List ℕ) → root_of (types ++ t ∷ []) n ≡ parent_in (root_of types n) t
  root_further n = fold-append parent_in n types (t ∷ [])

  pub sorts_further : flat_map sort_of (types ++ t ∷ []) ≡ flat_map sort_of types ++ sort_of t
  sorts_further = flat_map-append sort_of types (t ∷ []) ∙ ap (λ ns. flat_map sort_of types ++ ns) (append-nil (sort_of t))

  pub children_further : flat_map children_of (types ++ t ∷ []) ≡ flat_map children_of types ++ children_of t
  children_further = flat_map-append children_of types (t ∷ []) ∙ ap (λ ns. flat_map children_of types ++ ns) (append-nil (children_of t))

-- an item that is no enumeration and no sort leaves these alone
pub record IsOther (t : TypeItem) : Type 0 where
  pub elements : (table : List (List ℕ × List (List ℕ))) → with_elements table t ≡ table
  pub parent : (n : List ℕ) → parent_in n t ≡ n
  pub sort : sort_of t ≡ []
  pub children : children_of t ≡ []

module _ (types : List TypeItem) (t : TypeItem) (other : IsOther t) where
  same_table : element_table (types ++ t ∷ []) ≡ element_table types
  same_table = table_further types t ∙ other.elements (element_table types)

  same_root : (n : List ℕ) → root_of (types ++ t ∷ []) n ≡ root_of types n
  same_root n = root_further types t n ∙ other.parent (root_of types n)

  same_sorts : flat_map sort_of (types ++ t ∷ []) ≡ flat_map sort_of types
  same_sorts = sorts_further types t ∙ ap (λ ns. flat_map sort_of types ++ ns) other.sort ∙ append-nil (flat_map sort_of types)

  pub same_children : flat_map children_of (types ++ t ∷ []) ≡ flat_map children_of types
  same_children = children_further types t ∙ ap (λ ns. flat_map children_of types ++ ns) other.children ∙ append-nil (flat_map children_of types)

  placed_same : (names : List (List ℕ)) (n : List ℕ) (o : Option (ℕ × ℕ)) → IsPlaced types names n o → IsPlaced (types ++ t ∷ []) names n o
  placed_same names n None h = tt
  placed_same names n (Some p) h = (
    h.0,
    h.1,
    same_root n ∙ h.2 ∙ sym (same_root h.0),
    subst (λ table. take (length (elements_under table n)) (drop p.1 (elements_under table h.0)) ≡ elements_under table n) (sym same_table) h.3,
    h.4,
  )

  pub sorts_same : (sorts : List (List ℕ × Sort)) (joined : List (List ℕ)) → AreSorts sorts types joined → AreSorts sorts (types ++ t ∷ []) joined
  sorts_same sorts joined h = record {
    counts = h.counts ∙ ap (map {B = List ℕ × ℕ} (λ (x : List ℕ × List (List ℕ)). (x.0, length x.1))) (sym same_table);
    kinds = λ n. h.kinds n ∙ ap (λ ns. is_among ns n) (sym same_sorts);
    parents = h.parents;
    placed = λ n s is. placed_same (map (λ e. e.0) sorts) n s.parent (h.placed n s is);
  }

  pub known_same : (taken : List (List ℕ)) → ((n : List ℕ) → is_among (map (λ x. x.0) (element_table types)) n ≡ true → is_among taken n ≡ true)
      → (n : List ℕ) → is_among (map (λ x. x.0) (element_table (types ++ t ∷ []))) n ≡ true → is_among taken n ≡ true
  known_same taken known n h = known n (ap (λ (table : List (List ℕ × List (List ℕ))). is_among (map (λ x. x.0) table) n) (sym same_table) ∙ h)
