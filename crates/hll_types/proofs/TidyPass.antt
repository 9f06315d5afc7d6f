-- Pass 1 without faults keeps enumerations and sorts tidy.
use Rattle.std.proofs.Common.{◌≡◌, ℕ, Bool, true, false, ◌||◌, ◌⊎◌, inl, inr, List, [], ◌∷◌, ◌++◌, fold, refl, sym, ap, subst, ◌∙◌}
use Rattle.std.specs.List.{flat_map}
use Rattle.std.specs.Str.{bytes_eq}
use Rattle.std.proofs.lemmas.List.{append-nil}
use Rattle.hll_tree.specs.declared.tree.HllModel.{HllModel}
use Rattle.hll_tree.specs.declared.tree.Name.{Name}
use Rattle.hll_tree.specs.declared.tree.TypeItem.{TypeItem}
use Rattle.hll_tree.specs.declared.tree.TypeItem.TheVariants as item
use Rattle.hll_meaning.specs.Kinds.{Kind}
use Rattle.hll_meaning.specs.Names.{Names, type_of}
use Rattle.hll_meaning.specs.Declarations.{Item, a_constant, a_type, variables_of, items, texts, is_among, element_table, elements_under, coded, declared_by, declared_by_type, sort_kind}
use Rattle.hll_meaning.specs.StaticRules.{declaring, fresh, fresh_name, taken_by, item_faults, types_of_item, Pass1, pass1_item, pass1, pass1_faults, early, sort_of, children_of, children_faults}
use Rattle.hll_meaning.proofs.Faultless.{both, empty_parts, neither}
use Rattle.hll_meaning.proofs.FineNames.{first_faultless}
use Rattle.hll_types.proofs.Apart.{among_self, or_second, or_first, or_either, can_not, true_is_not}
use Rattle.hll_types.proofs.FreshNames.{among_append, fresh_last, new_name, taken_append}
use Rattle.hll_types.proofs.NewSorts.{IsOwn, same_name}
use Rattle.hll_types.proofs.PassSteps.{taken_more}
use Rattle.hll_types.proofs.SortAnswers.{own_enumeration, own_leaves}
use Rattle.hll_types.proofs.SortTables.{IsOther, table_further, sorts_further, children_further}
use Rattle.hll_types.proofs.TidyTables.{IsTidy, AreMore, tidy_none, tidy_more, tidy_further, fresh_apart, children_parts, element_of, children_apart, children_elsewhere}

-- type items and names that are tidy
abbrev pub AreTidy : List TypeItem → Names → Type 0
AreTidy types names = IsTidy (element_table types) (flat_map children_of types) (flat_map sort_of types) (taken_by names)

-- names that are taken behind others
taken_behind : (xs ys : Names) (n : List ℕ) → is_among (taken_by ys) n ≡ true → is_among (taken_by (xs ++ ys)) n ≡ true
taken_behind xs ys n h = ap (λ ns. is_among ns n) (taken_append xs ys) ∙ among_append (taken_by xs) (taken_by ys) n ∙ or_second (is_among (taken_by xs) n) (is_among (taken_by ys) n) h

pub tidy_names : (types : List TypeItem) (xs ys : Names) → AreTidy types xs → AreTidy types (xs ++ ys)
tidy_names types xs ys h = tidy_more (element_table types) (flat_map children_of types) (flat_map sort_of types) (taken_by xs) (taken_by (xs ++ ys)) h (taken_more xs ys)

-- the same lists are tidy
tidy_same : (table table' : List (List ℕ × List (List ℕ))) (joined joined' sorts sorts' taken : List (List ℕ)) → table ≡ table' → joined ≡ joined' → sorts ≡ sorts' → IsTidy table joined sorts taken → IsTidy table' joined' sorts' taken
tidy_same table table' joined joined' sorts sorts' taken p q r h =
    subst (λ zs. IsTidy table' joined' zs taken) r (subst (λ ys. IsTidy table' ys sorts taken) q (subst (λ (xs : List (List ℕ × List (List ℕ))). IsTidy xs joined sorts taken) p h))

pub tidy_types : (types all : List TypeItem) (names : Names) → types ≡ all → AreTidy types names → AreTidy all names
tidy_types types all names same h = subst (λ ts. AreTidy ts names) same h

-- ---- items

tidy_other : (types : List TypeItem) (names : Names) (t : TypeItem) → IsOther t → AreTidy types names → AreTidy (types ++ t ∷ []) names
tidy_other types names t other h =
    tidy_same (element_table types) (element_table (types ++ t ∷ [])) (flat_map children_of types) (flat_map children_of (types ++ t ∷ [])) (flat_map sort_of types) (flat_map sort_of (types ++ t ∷ [])) (taken_by names)
    (sym (table_further types t ∙ other.elements (element_table types)))
    (sym (children_further types t ∙ ap (λ ns. flat_map children_of types ++ ns) other.children ∙ append-nil (flat_map children_of types)))
    (sym (sorts_further types t ∙ ap (λ ns. flat_map sort_of types ++ ns) other.sort ∙ append-nil (flat_map sort_of types)))
    h

taken_coded : (types : List TypeItem) (sort : List ℕ) (es : List Name) → taken_by (coded types sort es) ≡ texts es
taken_coded types sort [] = refl
taken_coded types sort (e ∷ es) = ap (λ ns. e.text ∷ ns) (taken_coded types sort es)

-- an enumeration or a sort with its elements
module _ (types all : List TypeItem) (names : Names) (h : AreTidy types names) (t : TypeItem) (es : List Name) (n : Name) (is_sort : Bool) (own : IsOwn t n.text (texts es) is_sort) (none : fresh (taken_by names) (es ++ n ∷ []) ≡ []) where
  split : (fresh (taken_by names) es ≡ []) × (fresh_name (taken_by names ++ texts es) n ≡ [])
  split = empty_parts (fresh (taken_by names) es) (fresh_name (taken_by names ++ texts es) n) (sym (fresh_last (taken_by names) es n) ∙ none)

  own_new : is_among (taken_by names) n.text ≡ false
  own_new = (neither (is_among (taken_by names) n.text) (is_among (texts es) n.text) (sym (among_append (taken_by names) (texts es) n.text) ∙ new_name (taken_by names ++ texts es) n split.1)).0

  abbrev added : Names
  added = coded all n.text es ++ (n.text, type_of (sort_kind all n.text)) ∷ []

  added_names : taken_by (coded all n.text es ++ (n.text, type_of (sort_kind all n.text)) ∷ []) ≡ texts es ++ n.text ∷ []
  added_names = taken_append (coded all n.text es) ((n.text, type_of (sort_kind all n.text)) ∷ []) ∙ ap (λ ns. ns ++ n.text ∷ []) (taken_coded all n.text es)

  there : AreMore (texts es) (taken_by (names ++ added))
  there e is = taken_behind names added e (ap (λ ns. is_among ns e) added_names ∙ among_append (texts es) (n.text ∷ []) e ∙ or_first (is_among (texts es) e) (is_among (n.text ∷ []) e) is)

  here : is_among (taken_by (names ++ added)) n.text ≡ true
  here = taken_behind names added n.text (ap (λ ns. is_among ns n.text) added_names ∙ among_append (texts es) (n.text ∷ []) n.text ∙ or_second (is_among (texts es) n.text) (is_among (n.text ∷ []) n.text) (among_self n.text []))

  sorts_there : AreMore (flat_map sort_of types ++ sort_of t) (taken_by (names ++ added))
  sorts_there q is = by (or_either (is_among (flat_map sort_of types) q) (is_among (sort_of t) q) (sym (among_append (flat_map sort_of types) (sort_of t) q) ∙ is))
    where
      by : (is_among (flat_map sort_of types) q ≡ true) ⊎ (is_among (sort_of t) q ≡ true) → is_among (taken_by (names ++ added)) q ≡ true
      by (inl k) = taken_more names added q (h.named q k)
      by (inr k) = ap (is_among (taken_by (names ++ added))) (sym (same_name n.text q (both (bytes_eq n.text q) is_sort (sym (own.sort q) ∙ k)).0)) ∙ here

  pub tidy_own : AreTidy (types ++ t ∷ []) (names ++ (coded all n.text es ++ (n.text, type_of (sort_kind all n.text)) ∷ []))
  tidy_own =
      tidy_same (element_table types ++ (n.text, texts es) ∷ []) (element_table (types ++ t ∷ [])) (flat_map children_of types) (flat_map children_of (types ++ t ∷ [])) (flat_map sort_of types ++ sort_of t) (flat_map sort_of (types ++ t ∷ [])) (taken_by (names ++ added))
      (sym (table_further types t ∙ own.elements (element_table types)))
      (sym (children_further types t ∙ ap (λ ns. flat_map children_of types ++ ns) own.children ∙ append-nil (flat_map children_of types)))
      (sym (sorts_further types t))
      (tidy_further (element_table types) (flat_map children_of types) (flat_map sort_of types) (taken_by names) h n.text (texts es) (flat_map children_of types) (flat_map sort_of types ++ sort_of t) (taken_by (names ++ added))
      (record {
        new = own_new;
        more = taken_more names added;
        here = here;
        there = there;
        joins = λ q is. taken_more names added q (h.joins q is);
        named = sorts_there;
        apart = (fresh_apart (taken_by names) es split.0).0;
        fewer = λ q free. free;
        elsewhere = λ q other free e is. can_not (is_among (elements_under (element_table types) q) e) (λ yes. true_is_not (is_among (taken_by names) e) (h.elements q e yes) ((fresh_apart (taken_by names) es split.0).1 e is));
      }))

-- a sort that joins others
module _ (types : List TypeItem) (names : Names) (h : AreTidy types names) (children : List Name) (n : Name) (k : Kind) (further : List (List ℕ))
    (tested : children_faults (declaring names further) (flat_map sort_of types) (flat_map children_of types) children ≡ []) (name : fresh_name (taken_by names) n ≡ []) where
  abbrev table : List (List ℕ × List (List ℕ))
  table = element_table types

  abbrev with_parent : Names
  with_parent = names ++ (n.text, type_of k) ∷ []

  parent_here : is_among (taken_by with_parent) n.text ≡ true
  parent_here = taken_behind names ((n.text, type_of k) ∷ []) n.text (among_self n.text [])

  -- a name that is taken, or another one that is
  either_there : (xs ys : List (List ℕ)) → AreMore xs (taken_by with_parent) → AreMore ys (taken_by with_parent) → AreMore (xs ++ ys) (taken_by with_parent)
  either_there xs ys f g q is = by (or_either (is_among xs q) (is_among ys q) (sym (among_append xs ys q) ∙ is))
    where
      by : (is_among xs q ≡ true) ⊎ (is_among ys q ≡ true) → is_among (taken_by with_parent) q ≡ true
      by (inl a) = f q a
      by (inr a) = g q a

  last_there : AreMore (n.text ∷ []) (taken_by with_parent)
  last_there q is = ap (is_among (taken_by with_parent)) (sym (same_name n.text q (single (bytes_eq n.text q) is))) ∙ parent_here
    where
      single : (b : Bool) → (b || false) ≡ true → b ≡ true
      single true e = refl
      single false e = e

  children_there : AreMore (texts children) (taken_by with_parent)
  children_there q is = taken_more names ((n.text, type_of k) ∷ []) q (h.named q (children_parts (declaring names further) (flat_map sort_of types) (flat_map children_of types) children tested q is).1)

  elements_there : AreMore (flat_map (elements_under table) (texts children)) (taken_by with_parent)
  elements_there e is = let found = element_of table (texts children) e is in taken_more names ((n.text, type_of k) ∷ []) e (h.elements found.0 e found.2)

  pub tidy_parent : AreTidy (types ++ item.Children children n ∷ []) (names ++ (n.text, type_of k) ∷ [])
  tidy_parent =
      let t = item.Children children n in
      let own = flat_map (elements_under table) (texts children) in
      let joined = flat_map children_of types in
      let sorts = flat_map sort_of types in
      tidy_same (table ++ (n.text, own) ∷ []) (element_table (types ++ t ∷ [])) (joined ++ texts children) (flat_map children_of (types ++ t ∷ [])) (sorts ++ n.text ∷ []) (flat_map sort_of (types ++ t ∷ [])) (taken_by with_parent)
      (sym (table_further types t)) (sym (children_further types t)) (sym (sorts_further types t))
      (tidy_further table joined sorts (taken_by names) h n.text own (joined ++ texts children) (sorts ++ n.text ∷ []) (taken_by with_parent)
      (record {
        new = new_name (taken_by names) n name;
        more = taken_more names ((n.text, type_of k) ∷ []);
        here = parent_here;
        there = elements_there;
        joins = either_there joined (texts children) (λ q is. taken_more names ((n.text, type_of k) ∷ []) q (h.joins q is)) children_there;
        named = either_there sorts (n.text ∷ []) (λ q is. taken_more names ((n.text, type_of k) ∷ []) q (h.named q is)) last_there;
        apart = children_apart table joined sorts (taken_by names) h (declaring names further) joined (λ q free. free) children tested;
        fewer = λ q free. (neither (is_among joined q) (is_among (texts children) q) (sym (among_append joined (texts children) q) ∙ free)).0;
        elsewhere = λ q other free. children_elsewhere table joined sorts (taken_by names) h (declaring names further) children tested q free;
      }))

-- ---- texts

tidy_type : (further : List (List ℕ)) (p : Pass1) (t : TypeItem) → AreTidy p.types p.names → item_faults (declaring p.names further) p (a_type t) ≡ [] → AreTidy (p.types ++ t ∷ []) (p.names ++ declared_by_type (p.types ++ t ∷ []) p.names t)
tidy_type further p (item.Alias ty d) h none =
    let t = item.Alias ty d in
    tidy_names (p.types ++ t ∷ []) p.names (declared_by_type (p.types ++ t ∷ []) p.names t) (tidy_other p.types p.names t (record { elements = λ table. refl; parent = λ n. refl; sort = refl; children = refl }) h)
tidy_type further p (item.Enumeration es n) h none = tidy_own p.types (p.types ++ item.Enumeration es n ∷ []) p.names h (item.Enumeration es n) es n false (own_enumeration es n) none
tidy_type further p (item.Structure fields n) h none =
    let t = item.Structure fields n in
    tidy_names (p.types ++ t ∷ []) p.names (declared_by_type (p.types ++ t ∷ []) p.names t) (tidy_other p.types p.names t (record { elements = λ table. refl; parent = λ n. refl; sort = refl; children = refl }) h)
tidy_type further p (item.Leaves es n) h none = tidy_own p.types (p.types ++ item.Leaves es n ∷ []) p.names h (item.Leaves es n) es n true (own_leaves es n) none
tidy_type further p (item.Children children n) h none =
    let parts = empty_parts (children_faults (declaring p.names further) (flat_map sort_of p.types) (flat_map children_of p.types) children) (fresh_name (taken_by p.names) n) none in
    tidy_parent p.types p.names h children n (sort_kind (p.types ++ item.Children children n ∷ []) n.text) further parts.0 parts.1

-- one item more
pub tidy_item : (further : List (List ℕ)) (p : Pass1) (it : Item) → AreTidy p.types p.names → item_faults (declaring p.names further) p it ≡ [] → AreTidy (p.types ++ types_of_item it) (p.names ++ declared_by (p.types ++ types_of_item it) p.names it)
tidy_item further p (a_constant k) h none =
    tidy_names (p.types ++ []) p.names (declared_by (p.types ++ []) p.names (a_constant k)) (tidy_types p.types (p.types ++ []) p.names (sym (append-nil p.types)) h)
tidy_item further p (a_type t) h none = tidy_type further p t h none
tidy_item further p (variables_of input decl) h none =
    tidy_names (p.types ++ []) p.names (declared_by (p.types ++ []) p.names (variables_of input decl)) (tidy_types p.types (p.types ++ []) p.names (sym (append-nil p.types)) h)

tidy_items : (further : List (List ℕ)) (its : List Item) (p : Pass1) → AreTidy p.types p.names → (fold (pass1_item further) p its).faults ≡ [] → AreTidy (fold (pass1_item further) p its).types (fold (pass1_item further) p its).names
tidy_items further [] p h none = h
tidy_items further (it ∷ its) p h none = tidy_items further its (pass1_item further p it) (tidy_item further p it h (first_faultless further it its p none)) none

-- pass 1 without faults
pub tidy_pass : (m : HllModel) → pass1_faults m ≡ [] → AreTidy (pass1 m).types (pass1 m).names
tidy_pass m none = tidy_items (early m) (items m) (record { names = []; types = []; cells = 0; faults = [] }) tidy_none none
