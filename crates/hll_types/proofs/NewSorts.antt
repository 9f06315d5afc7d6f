-- An enumeration or a sort that is declared goes behind those before it.
use Rattle.std.proofs.Common.{◌≡◌, ℕ, zero, suc, Bool, true, false, ◌&&◌, ◌||◌, List, [], ◌∷◌, ◌++◌, map, length, take, drop, slice_get, Option, Some, None, unwrap_or, refl, sym, ap, subst, ◌∙◌}
use Rattle.std.specs.Option.{option_map_or}
use Rattle.std.specs.List.{flat_map}
use Rattle.std.specs.Str.{bytes_eq}
use Rattle.std.proofs.lemmas.List.{append-nil, map-append}
use Rattle.std.proofs.lemmas.Slice.Eq.{bytes_eq-Decides}
use Rattle.hll_tree.specs.declared.tree.TypeItem.{TypeItem}
use Rattle.hll_meaning.specs.Names.{under}
use Rattle.hll_meaning.specs.Declarations.{is_among, element_table, elements_under, with_elements, parent_in, root_of}
use Rattle.hll_meaning.specs.StaticRules.{sort_of, children_of}
use Rattle.hll_meaning.proofs.Scenes.{by_test, under_here, under_further}
use Rattle.hll_types.specs.declared.sorts.Sort.{Sort}
use Rattle.hll_types.specs.Standing.{is_sort_in, has_parent, is_joined_in, IsPlaced, AreSorts}
use Rattle.hll_types.proofs.FreshNames.{among_append}
use Rattle.hll_types.proofs.SortTables.{table_further, root_further, sorts_further, children_further}
use Rattle.hll_expressions.proofs.ByName.{under_front, under_back}

-- ---- names

pub same_name : (n m : List ℕ) → bytes_eq n m ≡ true → n ≡ m
same_name n m h = (bytes_eq-Decides n m).0 h

-- a name that is found is another one than one that isn't
pub other_name : {A : Type 0} (n q : List ℕ) (xs : List (List ℕ × A)) (a : A) → under n xs ≡ None → under q xs ≡ Some a → bytes_eq n q ≡ false
other_name n q xs a none is =
    by_test (bytes_eq n q)
    (λ same. let found : None ≡ Some a = sym none ∙ ap (λ (m : List ℕ). under m xs) (same_name n q same) ∙ is in absurd (cc found))
    (λ other. other)

pub among_at : (ns : List (List ℕ)) (i : ℕ) (m : List ℕ) → slice_get ns i ≡ Some m → is_among ns m ≡ true
among_at [] i m h = absurd (cc h)
among_at (n ∷ ns) zero m h =
    let same : n ≡ m = cc h in
    ap (λ b. b || is_among ns m) ((bytes_eq-Decides n m).1 same)
among_at (n ∷ ns) (suc i) m h = either (bytes_eq n m) (among_at ns i m h)
  where
    either : (b : Bool) → is_among ns m ≡ true → (b || is_among ns m) ≡ true
    either true k = refl
    either false k = k

pub at_front : (ns ms : List (List ℕ)) (i : ℕ) (m : List ℕ) → slice_get ns i ≡ Some m → slice_get (ns ++ ms) i ≡ Some m
at_front [] ms i m h = absurd (cc h)
at_front (n ∷ ns) ms zero m h = h
at_front (n ∷ ns) ms (suc i) m h = at_front ns ms i m h

-- a name stands in front of another one that is last
pub at_other : (ns : List (List ℕ)) (n q : List ℕ) → bytes_eq n q ≡ false → (i : ℕ) → slice_get (ns ++ n ∷ []) i ≡ Some q → slice_get ns i ≡ Some q
at_other [] n q other zero h =
    let same : n ≡ q = cc h in
    let both : false ≡ true = sym other ∙ (bytes_eq-Decides n q).1 same in
    absurd (cc both)
at_other [] n q other (suc i) h = h
at_other (m ∷ ns) n q other zero h = h
at_other (m ∷ ns) n q other (suc i) h = at_other ns n q other i h

-- ---- tables

-- what stands under another name than the last stands there without it
under_others : {A : Type 0} (n q : List ℕ) (xs : List (List ℕ × A)) (a : A) → bytes_eq n q ≡ false → under q (xs ++ (n, a) ∷ []) ≡ under q xs
under_others n q xs a other = either (under q xs) refl
  where
    either : (o : Option _) → under q xs ≡ o → under q (xs ++ (n, a) ∷ []) ≡ under q xs
    either (Some b) is = under_front q xs ((n, a) ∷ []) b is ∙ sym is
    either None is = under_back q xs ((n, a) ∷ []) is ∙ under_further q n a [] other ∙ sym is

pub elements_others : (n q : List ℕ) (table : List (List ℕ × List (List ℕ))) (es : List (List ℕ)) → bytes_eq n q ≡ false → elements_under (table ++ (n, es) ∷ []) q ≡ elements_under table q
elements_others n q table es other = ap (λ (o : Option (List (List ℕ))). unwrap_or o []) (under_others n q table es other)

pub elements_here : (n : List ℕ) (table : List (List ℕ × List (List ℕ))) (es : List (List ℕ)) → under n table ≡ None → elements_under (table ++ (n, es) ∷ []) n ≡ es
elements_here n table es none =
    ap (λ (o : Option (List (List ℕ))). unwrap_or o []) (under_back n table ((n, es) ∷ []) none ∙ under_here n n es [] ((bytes_eq-Decides n n).1 refl))

-- ---- one entry behind others

or_false : (b : Bool) → (b || false) ≡ b
or_false true = refl
or_false false = refl

module _ (sorts : List (List ℕ × Sort)) (n : List ℕ) (entry : Sort) (new : under n sorts ≡ None) where
  sort_behind : (q : List ℕ) (o : Option Sort) → under q sorts ≡ o → is_sort_in (sorts ++ (n, entry) ∷ []) q ≡ (is_sort_in sorts q || (bytes_eq n q && entry.is_sort))
  sort_behind q (Some s) is =
      let found = under_front q sorts ((n, entry) ∷ []) s is in
      ap (λ (o : Option Sort). option_map_or (λ (s : Sort). s.is_sort) o false) found
      ∙ sym (or_false s.is_sort)
      ∙ (λ i. option_map_or (λ (s : Sort). s.is_sort) (sym is i) false || (sym (other_name n q sorts s new is) i && entry.is_sort))
  sort_behind q None is =
      let behind = under_back q sorts ((n, entry) ∷ []) is in
      ap (λ (o : Option Sort). option_map_or (λ (s : Sort). s.is_sort) o false) behind
      ∙ by_test (bytes_eq n q)
      (λ same. ap (λ (o : Option Sort). option_map_or (λ (s : Sort). s.is_sort) o false) (under_here q n entry [] same) ∙ ap (λ b. b && entry.is_sort) (sym same))
      (λ other. ap (λ (o : Option Sort). option_map_or (λ (s : Sort). s.is_sort) o false) (under_further q n entry [] other) ∙ ap (λ b. b && entry.is_sort) (sym other))
      ∙ ap (λ (o : Option Sort). option_map_or (λ (s : Sort). s.is_sort) o false || (bytes_eq n q && entry.is_sort)) (sym is)

  -- it is a sort where the entry says so
  pub sort_last : (q : List ℕ) → is_sort_in (sorts ++ (n, entry) ∷ []) q ≡ (is_sort_in sorts q || (bytes_eq n q && entry.is_sort))
  sort_last q = sort_behind q (under q sorts) refl

  joined_behind : entry.parent ≡ None → (q : List ℕ) (o : Option Sort) → under q sorts ≡ o → is_joined_in (sorts ++ (n, entry) ∷ []) q ≡ is_joined_in sorts q
  joined_behind alone q (Some s) is = ap (λ (o : Option Sort). option_map_or (λ (s : Sort). has_parent s.parent) o false) (under_front q sorts ((n, entry) ∷ []) s is ∙ sym is)
  joined_behind alone q None is =
      ap (λ (o : Option Sort). option_map_or (λ (s : Sort). has_parent s.parent) o false) (under_back q sorts ((n, entry) ∷ []) is)
      ∙ by_test (bytes_eq n q)
      (λ same. ap (λ (o : Option Sort). option_map_or (λ (s : Sort). has_parent s.parent) o false) (under_here q n entry [] same) ∙ ap has_parent alone)
      (λ other. ap (λ (o : Option Sort). option_map_or (λ (s : Sort). has_parent s.parent) o false) (under_further q n entry [] other))
      ∙ ap (λ (o : Option Sort). option_map_or (λ (s : Sort). has_parent s.parent) o false) (sym is)

  -- one without a parent joins nothing
  pub joined_last : entry.parent ≡ None → (q : List ℕ) → is_joined_in (sorts ++ (n, entry) ∷ []) q ≡ is_joined_in sorts q
  joined_last alone q = joined_behind alone q (under q sorts) refl

-- ---- an enumeration or a sort with its elements

-- an item that declares so many elements, and joins none
pub record IsOwn (t : TypeItem) (n : List ℕ) (es : List (List ℕ)) (is_sort : Bool) : Type 0 where
  pub elements : (table : List (List ℕ × List (List ℕ))) → with_elements table t ≡ table ++ (n, es) ∷ []
  pub parent : (m : List ℕ) → parent_in m t ≡ m
  pub sort : (q : List ℕ) → is_among (sort_of t) q ≡ (bytes_eq n q && is_sort)
  pub children : children_of t ≡ []

module _ (types : List TypeItem) (t : TypeItem) (n : List ℕ) (es : List (List ℕ)) (is_sort : Bool) (own : IsOwn t n es is_sort) where
  abbrev entry : Sort
  entry = record { is_sort = is_sort; count = length es; parent = None }

  own_table : element_table (types ++ t ∷ []) ≡ element_table types ++ (n, es) ∷ []
  own_table = table_further types t ∙ own.elements (element_table types)

  own_root : (m : List ℕ) → root_of (types ++ t ∷ []) m ≡ root_of types m
  own_root m = root_further types t m ∙ own.parent (root_of types m)

  pub own_children : flat_map children_of (types ++ t ∷ []) ≡ flat_map children_of types
  own_children = children_further types t ∙ ap (λ ns. flat_map children_of types ++ ns) own.children ∙ append-nil (flat_map children_of types)

  module _ (sorts : List (List ℕ × Sort)) (joined : List (List ℕ)) (h : AreSorts sorts types joined) (new : under n sorts ≡ None) where
    abbrev more : List (List ℕ × Sort)
    more = sorts ++ (n, entry) ∷ []

    counts_more : map {B = List ℕ × ℕ} (λ (e : List ℕ × Sort). (e.0, e.1.count)) (sorts ++ (n, record { is_sort = is_sort; count = length es; parent = None }) ∷ []) ≡ map {B = List ℕ × ℕ} (λ (x : List ℕ × List (List ℕ)). (x.0, length x.1)) (element_table (types ++ t ∷ []))
    counts_more =
        map-append {B = List ℕ × ℕ} (λ (e : List ℕ × Sort). (e.0, e.1.count)) sorts ((n, entry) ∷ [])
        ∙ ap (λ (xs : List (List ℕ × ℕ)). xs ++ (n, length es) ∷ []) h.counts
        ∙ sym (map-append {B = List ℕ × ℕ} (λ (x : List ℕ × List (List ℕ)). (x.0, length x.1)) (element_table types) ((n, es) ∷ []))
        ∙ ap (map {B = List ℕ × ℕ} (λ (x : List ℕ × List (List ℕ)). (x.0, length x.1))) (sym own_table)

    -- the names of sorts
    abbrev names : List (List ℕ)
    names = map (λ (e : List ℕ × Sort). e.0) sorts

    names_more : map (λ (e : List ℕ × Sort). e.0) more ≡ names ++ n ∷ []
    names_more = map-append (λ (e : List ℕ × Sort). e.0) sorts ((n, entry) ∷ [])

    new_among : is_among names n ≡ false
    new_among = by_test (is_among names n) (λ yes. absurd (there sorts yes new)) (λ no. no)
      where
        there : (xs : List (List ℕ × Sort)) → is_among (map (λ (e : List ℕ × Sort). e.0) xs) n ≡ true → under n xs ≡ None → ⊥
        there [] among none = absurd (cc among)
        there ((own, s) ∷ xs) among none =
            by_test (bytes_eq own n)
            (λ same. let found : Some s ≡ None = sym (under_here n own s xs same) ∙ none in cc found)
            (λ other. there xs (sym (ap (λ b. b || is_among (map (λ (e : List ℕ × Sort). e.0) xs) n) other) ∙ among) (sym (under_further n own s xs other) ∙ none))

    other_at : (i : ℕ) (m : List ℕ) → slice_get names i ≡ Some m → bytes_eq n m ≡ false
    other_at i m is =
        by_test (bytes_eq n m)
        (λ same. let both : false ≡ true = sym new_among ∙ ap (is_among names) (same_name n m same) ∙ among_at names i m is in absurd (cc both))
        (λ other. other)

    placed_front : (q : List ℕ) → bytes_eq n q ≡ false → (o : Option (ℕ × ℕ)) → IsPlaced types names q o → IsPlaced (types ++ t ∷ []) (map (λ (e : List ℕ × Sort). e.0) more) q o
    placed_front q other None p = tt
    placed_front q other (Some at) p =
        let m = p.0 in
        let own = ap (λ table. elements_under table q) own_table ∙ elements_others n q (element_table types) es other in
        let above = ap (λ table. elements_under table m) own_table ∙ elements_others n m (element_table types) es (other_at at.0 m p.1) in (
          m,
          ap (λ ns. slice_get ns at.0) names_more ∙ at_front names (n ∷ []) at.0 m p.1,
          own_root q ∙ p.2 ∙ sym (own_root m),
          (λ i. take (length (own i)) (drop at.1 (above i))) ∙ p.3 ∙ sym own,
          λ i is. p.4 i (at_other names n q other i (sym (ap (λ ns. slice_get ns i) names_more) ∙ is)),
        )

    placed_more : (q : List ℕ) (o : Option Sort) → under q sorts ≡ o → (s : Sort) → under q more ≡ Some s → IsPlaced (types ++ t ∷ []) (map (λ (e : List ℕ × Sort). e.0) more) q s.parent
    placed_more q (Some s) is u at =
        let same : s ≡ u = cc (sym (under_front q sorts ((n, entry) ∷ []) s is) ∙ at) in
        subst (λ (v : Sort). IsPlaced (types ++ t ∷ []) (map (λ (e : List ℕ × Sort). e.0) more) q v.parent) same (placed_front q (other_name n q sorts s new is) s.parent (h.placed q s is))
    placed_more q None is u at =
        by_test (bytes_eq n q)
        (λ same. let e : entry ≡ u = cc (sym (under_here q n entry [] same) ∙ sym (under_back q sorts ((n, entry) ∷ []) is) ∙ at) in
        subst (λ (v : Sort). IsPlaced (types ++ t ∷ []) (map (λ (e : List ℕ × Sort). e.0) more) q v.parent) e tt)
        (λ other. let no : None ≡ Some u = sym (under_further q n entry [] other) ∙ sym (under_back q sorts ((n, entry) ∷ []) is) ∙ at in absurd (cc no))

    pub sorts_own : AreSorts (sorts ++ (n, record { is_sort = is_sort; count = length es; parent = None }) ∷ []) (types ++ t ∷ []) joined
    sorts_own = record {
      counts = counts_more;
      kinds = λ q. sort_last sorts n entry new q ∙ (λ i. h.kinds q i || sym (own.sort q) i) ∙ sym (among_append (flat_map sort_of types) (sort_of t) q) ∙ ap (λ ns. is_among ns q) (sym (sorts_further types t));
      parents = λ q. joined_last sorts n entry new refl q ∙ h.parents q;
      placed = λ q s at. placed_more q (under q sorts) refl s at;
    }
