-- Pass 1: an enumeration or a sort with its elements.
use Rattle.std.proofs.Common.{◌≡◌, ℕ, Bool, true, false, ◌||◌, List, [], ◌∷◌, ◌++◌, map, length, Option, None, refl, sym, ap, subst, ◌∙◌, add-zero}
use Rattle.std.specs.Option.{option_map_or}
use Rattle.std.specs.List.{flat_map}
use Rattle.std.specs.Str.{bytes_eq}
use Rattle.std.proofs.lemmas.List.{map-append, length-map}
use Rattle.hll_tree.specs.declared.tree.Name.{Name}
use Rattle.hll_tree.specs.declared.tree.TypeItem.{TypeItem}
use Rattle.hll_meaning.specs.declared.fault.StaticKind.TheVariants as is
use Rattle.hll_meaning.specs.Kinds.{Kind, element}
use Rattle.hll_meaning.specs.Names.{Names, type_of, under}
use Rattle.hll_meaning.specs.Declarations.{texts, is_among, elements_under, element_table, root_of, coded, sort_kind, a_type, declared_by_type}
use Rattle.hll_meaning.specs.Judging.{fault_if}
use Rattle.hll_meaning.specs.StaticRules.{declaring, fresh, fresh_name, taken_by, item_faults, Pass1, pass1_item, children_of}
use Rattle.hll_meaning.proofs.Faultless.{empty_parts, not_so}
use Rattle.hll_meaning.proofs.Scenes.{by_test}
use Rattle.hll_types.specs.declared.declare.Declared.{Declared}
use Rattle.hll_types.specs.declared.sorts.Sort.{Sort}
use Rattle.hll_types.specs.Standing.{has_parent, AreSorts}
use Rattle.hll_expressions.specs.Things.{IsAdded}
use Rattle.hll_types.specs.Sorting.{codes_of_count}
use Rattle.hll_types.specs.Declaring.{IsAfter, with_codes}
use Rattle.hll_expressions.proofs.FirstFaults.{none_both}
use Rattle.hll_types.proofs.FreshNames.{among_append, fresh_last, new_name, not_under, taken_append}
use Rattle.hll_types.proofs.SortTables.{table_further, root_further}
use Rattle.hll_types.proofs.NewSorts.{IsOwn, elements_here, own_children, sorts_own}
use Rattle.hll_types.proofs.Coding.{root_alone, coded_so, sort_kind_so}
use Rattle.hll_types.proofs.PassSteps.{stand_further, taken_more}

-- ---- fewer names are taken

fresh_fewer : (xs ys : List (List ℕ)) → ((n : List ℕ) → is_among ys n ≡ true → is_among xs n ≡ true) → (ns : List Name) → fresh xs ns ≡ [] → fresh ys ns ≡ []
fresh_fewer xs ys fewer [] none = refl
fresh_fewer xs ys fewer (n ∷ ns) none =
    let parts = empty_parts (fault_if (is_among xs n.text) is.Twice n.at) (fresh (n.text ∷ xs) ns) none in
    let new = not_so (is_among xs n.text) is.Twice n.at parts.0 in
    let own : is_among ys n.text ≡ false = by_test (is_among ys n.text) (λ yes. let both : true ≡ false = sym (fewer n.text yes) ∙ new in absurd (cc both)) (λ no. no) in
    none_both (fault_if (is_among ys n.text) is.Twice n.at) (fresh (n.text ∷ ys) ns) (ap (λ b. fault_if b is.Twice n.at) own)
    (fresh_fewer (n.text ∷ xs) (n.text ∷ ys) (λ m. more m) ns parts.1)
  where
    more : (m : List ℕ) → is_among (n.text ∷ ys) m ≡ true → is_among (n.text ∷ xs) m ≡ true
    more m h = by_test (bytes_eq n.text m)
        (λ same. ap (λ b. b || is_among xs m) same)
        (λ other. ap (λ b. b || is_among xs m) other ∙ fewer m (sym (ap (λ b. b || is_among ys m) other) ∙ h))

pub fresh_alone : (xs : List (List ℕ)) (ns : List Name) → fresh xs ns ≡ [] → fresh [] ns ≡ []
fresh_alone xs ns none = fresh_fewer xs [] (λ n h. absurd (cc h)) ns none

-- ---- names of sorts

pub first_names : {A B : Type 0} (f : A → B) (xs : List (List ℕ × A)) → map (λ (x : List ℕ × B). x.0) (map {B = List ℕ × B} (λ x. (x.0, f x.1)) xs) ≡ map (λ (x : List ℕ × A). x.0) xs
first_names f [] = refl
first_names f (x ∷ xs) = ap (λ ns. x.0 ∷ ns) (first_names f xs)

pub names_same : (sorts : List (List ℕ × Sort)) (types : List TypeItem) (joined : List (List ℕ)) → AreSorts sorts types joined → map (λ (e : List ℕ × Sort). e.0) sorts ≡ map (λ (x : List ℕ × List (List ℕ)). x.0) (element_table types)
names_same sorts types joined h =
    sym (first_names (λ (s : Sort). s.count) sorts) ∙ ap (map (λ (x : List ℕ × ℕ). x.0)) h.counts ∙ first_names (λ (es : List (List ℕ)). length es) (element_table types)

-- a name that isn't taken
module _ (old : Declared) (p : Pass1) (further : List (List ℕ)) (h : IsAfter old p further) (n : List ℕ) (new : is_among (taken_by p.names) n ≡ false) where
  pub not_in_table : is_among (map (λ x. x.0) (element_table p.types)) n ≡ false
  not_in_table = by_test (is_among (map (λ x. x.0) (element_table p.types)) n) (λ yes. let both : true ≡ false = sym (h.known n yes) ∙ new in absurd (cc both)) (λ no. no)

  pub no_sort : under n old.sorts ≡ None
  no_sort = not_under old.sorts n (ap (λ ns. is_among ns n) (names_same old.sorts p.types (flat_map children_of p.types) h.sorts) ∙ not_in_table)

  pub no_elements : under n (element_table p.types) ≡ None
  no_elements = not_under (element_table p.types) n not_in_table

  pub no_child : is_among (flat_map children_of p.types) n ≡ false
  no_child = sym (h.sorts.parents n) ∙ ap (λ (o : Option Sort). option_map_or (λ (s : Sort). has_parent s.parent) o false) no_sort

-- ---- the item

module _ (old new : Declared) (p : Pass1) (further : List (List ℕ)) (h : IsAfter old p further) (t : TypeItem) (es : List Name) (n : Name) (is_sort : Bool) (own : IsOwn t n.text (texts es) is_sort)
    (says : declared_by_type (p.types ++ t ∷ []) p.names t ≡ coded (p.types ++ t ∷ []) n.text es ++ (n.text, type_of (sort_kind (p.types ++ t ∷ []) n.text)) ∷ [])
    (tested : item_faults (declaring p.names further) p (a_type t) ≡ fresh (taken_by p.names) (es ++ n ∷ []))
    (elements : fresh (taken_by p.names) es ≡ []) (name : fresh_name (taken_by p.names ++ texts es) n ≡ []) where
  faultless : item_faults (declaring p.names further) p (a_type t) ≡ []
  faultless = tested ∙ fresh_last (taken_by p.names) es n ∙ none_both (fresh (taken_by p.names) es) (fresh_name (taken_by p.names ++ texts es) n) elements name

  new_text : is_among (taken_by p.names) n.text ≡ false
  new_text = either (is_among (taken_by p.names) n.text) refl (sym (among_append (taken_by p.names) (texts es) n.text) ∙ new_name (taken_by p.names ++ texts es) n name)
    where
      either : (b : Bool) → is_among (taken_by p.names) n.text ≡ b → (is_among (taken_by p.names) n.text || is_among (texts es) n.text) ≡ false → is_among (taken_by p.names) n.text ≡ false
      either true is k = let both : true ≡ false = sym (ap (λ b. b || is_among (texts es) n.text) is) ∙ k in absurd (cc both)
      either false is k = is

  own_root : root_of (p.types ++ t ∷ []) n.text ≡ n.text
  own_root = root_further p.types t n.text ∙ own.parent (root_of p.types n.text) ∙ root_alone p.types n.text (no_child old p further h n.text new_text)

  own_elements : elements_under (element_table (p.types ++ t ∷ [])) n.text ≡ texts es
  own_elements =
      ap (λ table. elements_under table n.text) (table_further p.types t ∙ own.elements (element_table p.types))
      ∙ elements_here n.text (element_table p.types) (texts es) (no_elements old p further h n.text new_text)

  pub declared_so : declared_by_type (p.types ++ t ∷ []) p.names t ≡ with_codes n.text 0 es ++ (n.text, type_of (element n.text (codes_of_count (length es)))) ∷ []
  declared_so =
      says
      ∙ ap (λ (xs : Names). xs ++ (n.text, type_of (sort_kind (p.types ++ t ∷ []) n.text)) ∷ []) (coded_so (p.types ++ t ∷ []) n.text es own_root own_elements (fresh_alone (taken_by p.names) es elements))
      ∙ ap (λ (k : Kind). with_codes n.text 0 es ++ (n.text, type_of k) ∷ [])
      (sort_kind_so (p.types ++ t ∷ []) n.text (texts es) own_root own_elements ∙ ap (λ count. element n.text (codes_of_count count)) (length-map es (λ e. e.text)))

  known_more : (m : List ℕ) → is_among (map (λ x. x.0) (element_table (p.types ++ t ∷ []))) m ≡ true → is_among (taken_by (p.names ++ declared_by_type (p.types ++ t ∷ []) p.names t)) m ≡ true
  known_more m is =
      let names = map (λ (x : List ℕ × List (List ℕ)). x.0) (element_table p.types) in
      let split : (is_among names m || (bytes_eq n.text m || false)) ≡ true =
      sym (ap (λ (table : List (List ℕ × List (List ℕ))). is_among (map (λ x. x.0) table) m) (table_further p.types t ∙ own.elements (element_table p.types))
      ∙ ap (λ ns. is_among ns m) (map-append (λ (x : List ℕ × List (List ℕ)). x.0) (element_table p.types) ((n.text, texts es) ∷ []))
      ∙ among_append names (n.text ∷ []) m) ∙ is in
      either (is_among names m) refl split
    where
      last : (bytes_eq n.text m || false) ≡ true → is_among (taken_by (p.names ++ declared_by_type (p.types ++ t ∷ []) p.names t)) m ≡ true
      last k =
          let xs = with_codes n.text 0 es in
          ap (λ (ys : Names). is_among (taken_by (p.names ++ ys)) m) declared_so
          ∙ ap (λ ns. is_among ns m) (taken_append p.names (xs ++ (n.text, type_of (element n.text (codes_of_count (length es)))) ∷ []))
          ∙ among_append (taken_by p.names) (taken_by (xs ++ (n.text, type_of (element n.text (codes_of_count (length es)))) ∷ [])) m
          ∙ or_true (is_among (taken_by p.names) m) _
          (ap (λ ns. is_among ns m) (taken_append xs ((n.text, type_of (element n.text (codes_of_count (length es)))) ∷ []))
          ∙ among_append (taken_by xs) (n.text ∷ []) m ∙ or_true (is_among (taken_by xs) m) (bytes_eq n.text m || false) k)
        where
          or_true : (a b : Bool) → b ≡ true → (a || b) ≡ true
          or_true true b e = refl
          or_true false b e = e

      either : (b : Bool) → is_among (map (λ (x : List ℕ × List (List ℕ)). x.0) (element_table p.types)) m ≡ b → (b || (bytes_eq n.text m || false)) ≡ true → is_among (taken_by (p.names ++ declared_by_type (p.types ++ t ∷ []) p.names t)) m ≡ true
      either true among k = taken_more p.names (declared_by_type (p.types ++ t ∷ []) p.names t) m (h.known m among)
      either false apart k = last k

  pub after_sort : IsAdded old.names new.names (p.names ++ (with_codes n.text 0 es ++ (n.text, type_of (element n.text (codes_of_count (length es)))) ∷ [])) →
      new.sorts ≡ old.sorts ++ (n.text, record { is_sort = is_sort; count = length es; parent = None }) ∷ [] → new.cells ≡ old.cells → IsAfter new (pass1_item further p (a_type t)) further
  after_sort added sorts cells =
      let count = length-map es (λ e. e.text) in
      let children = own_children p.types t n.text (texts es) is_sort own in
      let more = sorts_own p.types t n.text (texts es) is_sort own old.sorts (flat_map children_of p.types) h.sorts (no_sort old p further h n.text new_text) in
      record {
        names = stand_further old.names new.names further p (a_type t) h.names (subst (λ (xs : Names). IsAdded old.names new.names (p.names ++ xs)) (sym declared_so) added) faultless;
        sorts = subst (λ ns. AreSorts new.sorts (p.types ++ t ∷ []) ns) (sym children)
            (subst (λ (ss : List (List ℕ × Sort)). AreSorts ss (p.types ++ t ∷ []) (flat_map children_of p.types))
            (ap (λ (c : ℕ). old.sorts ++ (n.text, record { is_sort = is_sort; count = c; parent = None }) ∷ []) count ∙ sym sorts) more);
        known = known_more;
        cells = cells ∙ h.cells ∙ sym (add-zero p.cells);
        faultless = none_both p.faults (item_faults (declaring p.names further) p (a_type t)) h.faultless faultless;
      }
