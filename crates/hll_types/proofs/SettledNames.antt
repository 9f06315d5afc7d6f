-- The names of pass 1 with the roots of their elements are those of the text, where pass 1 finds no fault.
use Rattle.std.proofs.Common.{◌≡◌, ℕ, Bool, true, false, ◌||◌, List, [], ◌∷◌, ◌++◌, map, fold, Option, Some, None, unwrap_or, refl, sym, ap, subst, ◌∙◌, append_assoc, if◌then◌else◌}
use Rattle.std.specs.List.{flat_map}
use Rattle.std.specs.Str.{bytes_eq}
use Rattle.std.proofs.lemmas.Slice.Eq.{bytes_eq-Decides}
use Rattle.hll_tree.specs.declared.tree.HllModel.{HllModel}
use Rattle.hll_tree.specs.declared.tree.Name.{Name}
use Rattle.hll_tree.specs.declared.tree.TypeItem.{TypeItem}
use Rattle.hll_tree.specs.declared.tree.TypeItem.TheVariants as item
use Rattle.hll_meaning.specs.Kinds.{struct}
use Rattle.hll_meaning.specs.Names.{Names, constant, type_of, under}
use Rattle.hll_meaning.specs.Values.{number}
use Rattle.hll_meaning.specs.Declarations.{Item, a_constant, a_type, variables_of, items, type_items, texts, is_among, element_table, elements_under, root_of, parent_in, coded, sort_kind, written_kind, declared_by, declared_by_type, with_item, names}
use Rattle.hll_meaning.specs.Judging.{judged}
use Rattle.hll_meaning.specs.StaticRules.{declaring, fresh, fresh_name, taken_by, written_faults, dims_faults, fields_faults, item_faults, types_of_item, Pass1, pass1_item, pass1, pass1_faults, early, children_of, children_faults}
use Rattle.hll_meaning.specs.Soundness.{AreFine}
use Rattle.hll_meaning.proofs.Faultless.{empty_parts, first_empty, second_empty, neither}
use Rattle.hll_meaning.proofs.FineNames.{first_faultless, further_fine}
use Rattle.hll_meaning.proofs.Scenes.{by_test, under_here, under_further}
use Rattle.hll_types.specs.declared.settle.Rooted.{Rooted}
use Rattle.hll_types.specs.declared.sorts.Sort.{Sort}
use Rattle.hll_types.specs.Settling.{Roots, kind_in, names_in, root_in, AreRooted}
use Rattle.hll_types.specs.Standing.{AreSorts}
use Rattle.hll_types.proofs.Apart.{can_not, true_is_not}
use Rattle.hll_types.proofs.Coding.{root_alone, coded_so, sort_kind_so}
use Rattle.hll_types.proofs.FreshNames.{among_append, fresh_last, new_name, not_under}
use Rattle.hll_types.proofs.NewSorts.{IsOwn}
use Rattle.hll_types.proofs.PassTypes.{types_after, types_of_pass}
use Rattle.hll_types.proofs.RootedKinds.{names_in_append, value_in, dims_in, written_in, fields_written, declarators_in}
use Rattle.hll_types.proofs.RootedSorts.{IsRootIn, under_kept, coded_in, sort_kind_in}
use Rattle.hll_types.proofs.Roots.{in_root}
use Rattle.hll_types.proofs.SortAnswers.{own_enumeration, own_leaves}
use Rattle.hll_types.proofs.SortSteps.{fresh_alone}
use Rattle.hll_types.proofs.SortTables.{table_further, root_further}
use Rattle.hll_types.proofs.TidyPass.{AreTidy, tidy_item, tidy_pass}
use Rattle.hll_types.proofs.TidyTables.{tidy_none}
use Rattle.hll_expressions.proofs.ByName.{under_back}

-- these are the roots of the sorts of a text
abbrev pub AreRoots : List TypeItem → Roots → Type 0
AreRoots all r = (n : List ℕ) (es : List (List ℕ)) → under n (element_table all) ≡ Some es → IsRootIn all n (r n)

elements_there : (types : List TypeItem) (n : List ℕ) (es : List (List ℕ)) → under n (element_table types) ≡ Some es → elements_under (element_table types) n ≡ es
elements_there types n es is = ap (λ (o : Option (List (List ℕ))). unwrap_or o []) is

-- the last entry of a table
under_last : (table : List (List ℕ × List (List ℕ))) (n : List ℕ) (es : List (List ℕ)) → under n table ≡ None → under n (table ++ (n, es) ∷ []) ≡ Some es
under_last table n es new = under_back n table ((n, es) ∷ []) new ∙ under_here n n es [] ((bytes_eq-Decides n n).1 refl)

module _ (types : List TypeItem) (before : Names) (h : AreTidy types before) (n : List ℕ) (new : is_among (taken_by before) n ≡ false) where
  no_entry : under n (element_table types) ≡ None
  no_entry = not_under (element_table types) n (can_not (is_among (map (λ x. x.0) (element_table types)) n) (λ yes. true_is_not (is_among (taken_by before) n) (h.tables n yes) new))

  own_root : root_of types n ≡ n
  own_root = root_alone types n (can_not (is_among (flat_map children_of types) n) (λ yes. true_is_not (is_among (taken_by before) n) (h.joins n yes) new))

-- ---- an enumeration or a sort with its elements

module _ (types rest : List TypeItem) (r : Roots) (before : Names) (h : AreTidy types before) (t : TypeItem) (es : List Name) (n : Name) (is_sort : Bool) (own : IsOwn t n.text (texts es) is_sort)
    (roots : AreRoots ((types ++ t ∷ []) ++ rest) r) (none : fresh (taken_by before) (es ++ n ∷ []) ≡ []) where
  split : (fresh (taken_by before) es ≡ []) × (fresh_name (taken_by before ++ texts es) n ≡ [])
  split = empty_parts (fresh (taken_by before) es) (fresh_name (taken_by before ++ texts es) n) (sym (fresh_last (taken_by before) es n) ∙ none)

  new_text : is_among (taken_by before) n.text ≡ false
  new_text = (neither (is_among (taken_by before) n.text) (is_among (texts es) n.text) (sym (among_append (taken_by before) (texts es) n.text) ∙ new_name (taken_by before ++ texts es) n split.1)).0

  entry : under n.text (element_table (types ++ t ∷ [])) ≡ Some (texts es)
  entry = ap (under n.text) (table_further types t ∙ own.elements (element_table types)) ∙ under_last (element_table types) n.text (texts es) (no_entry types before h n.text new_text)

  here : elements_under (element_table (types ++ t ∷ [])) n.text ≡ texts es
  here = elements_there (types ++ t ∷ []) n.text (texts es) entry

  root_here : root_of (types ++ t ∷ []) n.text ≡ n.text
  root_here = root_further types t n.text ∙ own.parent (root_of types n.text) ∙ own_root types before h n.text new_text

  entry_there : under n.text (element_table ((types ++ t ∷ []) ++ rest)) ≡ Some (texts es)
  entry_there = under_kept (types ++ t ∷ []) rest n.text (texts es) entry

  pub own_in : coded ((types ++ t ∷ []) ++ rest) n.text es ++ (n.text, type_of (sort_kind ((types ++ t ∷ []) ++ rest) n.text)) ∷ []
      ≡ names_in r (coded (types ++ t ∷ []) n.text es ++ (n.text, type_of (sort_kind (types ++ t ∷ []) n.text)) ∷ [])
  own_in =
      let all = (types ++ t ∷ []) ++ rest in
      let there = elements_there all n.text (texts es) entry_there in
      let k = roots n.text (texts es) entry_there in
      let codes = coded_in all r n.text k es there ∙ ap (names_in r) (sym (coded_so (types ++ t ∷ []) n.text es root_here here (fresh_alone (taken_by before) es split.0))) in
      let kind = sort_kind_in all r n.text k (texts es) there ∙ ap (kind_in r) (sym (sort_kind_so (types ++ t ∷ []) n.text (texts es) root_here here)) in
      (λ i. codes i ++ (n.text, type_of (kind i)) ∷ [])
      ∙ sym (names_in_append r (coded (types ++ t ∷ []) n.text es) ((n.text, type_of (sort_kind (types ++ t ∷ []) n.text)) ∷ []))

-- ---- a sort that joins others

module _ (types rest : List TypeItem) (r : Roots) (before : Names) (h : AreTidy types before) (children : List Name) (n : Name) (roots : AreRoots ((types ++ item.Children children n ∷ []) ++ rest) r) (name : fresh_name (taken_by before) n ≡ []) where
  abbrev elements : List (List ℕ)
  elements = flat_map (elements_under (element_table types)) (texts children)

  parent_new : is_among (taken_by before) n.text ≡ false
  parent_new = new_name (taken_by before) n name

  parent_entry : under n.text (element_table (types ++ item.Children children n ∷ [])) ≡ Some elements
  parent_entry = ap (under n.text) (table_further types (item.Children children n)) ∙ under_last (element_table types) n.text elements (no_entry types before h n.text parent_new)

  parent_root : root_of (types ++ item.Children children n ∷ []) n.text ≡ n.text
  parent_root = root_further types (item.Children children n) n.text ∙ ap (λ m. parent_in m (item.Children children n)) (own_root types before h n.text parent_new) ∙ either (is_among (texts children) n.text)
    where
      either : (b : Bool) → (if b then n.text else n.text) ≡ n.text
      either true = refl
      either false = refl

  pub parent_kind_in : sort_kind ((types ++ item.Children children n ∷ []) ++ rest) n.text ≡ kind_in r (sort_kind (types ++ item.Children children n ∷ []) n.text)
  parent_kind_in =
      let all = (types ++ item.Children children n ∷ []) ++ rest in
      let there = under_kept (types ++ item.Children children n ∷ []) rest n.text elements parent_entry in
      sort_kind_in all r n.text (roots n.text elements there) elements (elements_there all n.text elements there)
      ∙ ap (kind_in r) (sym (sort_kind_so (types ++ item.Children children n ∷ []) n.text elements parent_root (elements_there (types ++ item.Children children n ∷ []) n.text elements parent_entry)))

-- ---- items

type_in : (r : Roots) (further : List (List ℕ)) (p : Pass1) (rest : List TypeItem) (t : TypeItem) → AreFine p.names → AreTidy p.types p.names → AreRoots ((p.types ++ t ∷ []) ++ rest) r → item_faults (declaring p.names further) p (a_type t) ≡ [] →
    declared_by_type ((p.types ++ t ∷ []) ++ rest) (names_in r p.names) t ≡ names_in r (declared_by_type (p.types ++ t ∷ []) p.names t)
type_in r further p rest (item.Alias ty d) fine h roots none =
    let c = declaring p.names further in
    let parts = empty_parts (written_faults c ty) _ none in
    let dims = second_empty (fresh_name _ d.name) _ parts.1 in
    let kind = dims_in r p.names further fine d.dims (written_kind p.names ty) (written_kind (names_in r p.names) ty) (first_empty (dims_faults c d.dims) _ dims) (written_in r p.names further fine ty parts.0) in
    λ i. (d.name.text, type_of (kind i)) ∷ []
type_in r further p rest (item.Enumeration es n) fine h roots none = own_in p.types rest r p.names h (item.Enumeration es n) es n false (own_enumeration es n) roots none
type_in r further p rest (item.Structure fields n) fine h roots none =
    let same = fields_written r p.names further fine [] fields (first_empty (fields_faults (declaring p.names further) [] fields) _ none) in
    λ i. (n.text, type_of (struct n.text (same i))) ∷ []
type_in r further p rest (item.Leaves es n) fine h roots none = own_in p.types rest r p.names h (item.Leaves es n) es n true (own_leaves es n) roots none
type_in r further p rest (item.Children children n) fine h roots none =
    let kind = parent_kind_in p.types rest r p.names h children n roots (second_empty (children_faults (declaring p.names further) _ _ children) (fresh_name (taken_by p.names) n) none) in
    λ i. (n.text, type_of (kind i)) ∷ []

item_in : (r : Roots) (further : List (List ℕ)) (p : Pass1) (rest : List TypeItem) (it : Item) → AreFine p.names → AreTidy p.types p.names → AreRoots ((p.types ++ types_of_item it) ++ rest) r → item_faults (declaring p.names further) p it ≡ [] →
    declared_by ((p.types ++ types_of_item it) ++ rest) (names_in r p.names) it ≡ names_in r (declared_by (p.types ++ types_of_item it) p.names it)
item_in r further p rest (a_constant k) fine h roots none =
    let same = value_in r p.names further fine k.value (first_empty (judged k.value (declaring p.names further)).faults _ (second_empty (fresh_name (taken_by p.names) k.name) _ none)) in
    λ i. (k.name.text, constant k.boolean (number (sym same i))) ∷ []
item_in r further p rest (a_type t) fine h roots none = type_in r further p rest t fine h roots none
item_in r further p rest (variables_of input decl) fine h roots none =
    let parts = empty_parts (written_faults (declaring p.names further) decl.ty) _ none in
    declarators_in r p.names further fine input decl.ty _ _ decl.names parts.0 parts.1

-- ---- texts

items_in_roots : (all : List TypeItem) (r : Roots) → AreRoots all r → (further : List (List ℕ)) (its : List Item) (p : Pass1) → p.types ++ flat_map types_of_item its ≡ all → AreFine p.names → AreTidy p.types p.names →
    (fold (pass1_item further) p its).faults ≡ [] → fold (with_item all) (names_in r p.names) its ≡ names_in r (fold (pass1_item further) p its).names
items_in_roots all r roots further [] p joined fine h none = refl
items_in_roots all r roots further (it ∷ its) p joined fine h none =
    let first = first_faultless further it its p none in
    let rest = flat_map types_of_item its in
    let next = pass1_item further p it in
    let whole : (p.types ++ types_of_item it) ++ rest ≡ all = append_assoc p.types (types_of_item it) rest ∙ joined in
    let here = subst (λ (ts : List TypeItem). declared_by ts (names_in r p.names) it ≡ names_in r (declared_by (p.types ++ types_of_item it) p.names it)) whole
    (item_in r further p rest it fine h (subst (λ (ts : List TypeItem). AreRoots ts r) (sym whole) roots) first) in
    ap (λ (xs : Names). fold (with_item all) (names_in r p.names ++ xs) its) here
    ∙ ap (λ (xs : Names). fold (with_item all) xs its) (sym (names_in_append r p.names (declared_by (p.types ++ types_of_item it) p.names it)))
    ∙ items_in_roots all r roots further its next whole (further_fine further p it fine first) (tidy_item further p it h first) none

-- a name that is found is among the names
found_among : {A : Type 0} (xs : List (List ℕ × A)) (n : List ℕ) (a : A) → under n xs ≡ Some a → is_among (map (λ x. x.0) xs) n ≡ true
found_among [] n a is = absurd (cc is)
found_among ((own, b) ∷ xs) n a is =
    by_test (bytes_eq own n)
    (λ same. ap (λ c. c || is_among (map (λ x. x.0) xs) n) same)
    (λ other. ap (λ c. c || is_among (map (λ x. x.0) xs) n) other ∙ found_among xs n a (sym (under_further n own b xs other) ∙ is))

pub names_settled : (m : HllModel) (sorts : List (List ℕ × Sort)) (roots : List Rooted) → pass1_faults m ≡ [] → AreSorts sorts (pass1 m).types (flat_map children_of (pass1 m).types) → AreRooted 0 sorts roots →
    names_in (root_in sorts roots) (pass1 m).names ≡ names m
names_settled m sorts roots none h w =
    let types = (pass1 m).types in
    let tidy = tidy_pass m none in
    let r = root_in sorts roots in
    let right : AreRoots types r = λ n es is.
    let found = in_root types sorts h tidy.apart roots w n (found_among (element_table types) n es is) in
    record { root = found.0; part = found.1; none = found.2; apart = tidy.own (root_of types n) } in
    let same : types ≡ type_items m = types_of_pass m in
    sym (items_in_roots types r right (early m) (items m) (record { names = []; types = []; cells = 0; faults = [] })
    (sym (types_after (early m) (items m) (record { names = []; types = []; cells = 0; faults = [] }))) tt tidy_none none)
    ∙ ap (λ (ts : List TypeItem). fold (with_item ts) [] (items m)) same
