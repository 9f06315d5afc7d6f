-- Pass 1: what the steps of an enumeration or a sort come to.
use Rattle.std.proofs.Common.{◌≡◌, ℕ, Bool, true, false, ◌&&◌, ◌||◌, List, [], ◌∷◌, ◌++◌, length, None, Ok, Err, Result, MatchResult, refl, sym, ap, ◌∙◌, append_assoc}
use Rattle.std.specs.List.{flat_map}
use Rattle.std.specs.Str.{bytes_eq}
use Rattle.indexmap.specs.IndexMap.{insert_entry}
use Rattle.hll_tree.specs.declared.tree.Name.{Name}
use Rattle.hll_tree.specs.declared.tree.TypeItem.{TypeItem}
use Rattle.hll_tree.specs.declared.tree.TypeItem.TheVariants as item
use Rattle.hll_meaning.specs.Kinds.{element}
use Rattle.hll_meaning.specs.Names.{Names, type_of}
use Rattle.hll_meaning.specs.Declarations.{a_type, texts, is_among, coded, sort_kind, declared_by_type, element_table, elements_under}
use Rattle.hll_meaning.specs.StaticRules.{declaring, fresh, fresh_name, taken_by, item_faults, Pass1, pass1_item, sort_of, children_of, children_faults}
use Rattle.hll_meaning.proofs.Faultless.{neither}
use Rattle.hll_types.specs.declared.declare.Declared.{Declared}
use Rattle.hll_expressions.specs.declared.faults.StaticFault.{StaticFault}
use Rattle.hll_types.specs.declared.sorts.Sort.{Sort}
use Rattle.hll_expressions.specs.Answers.{IsFaultAt}
use Rattle.hll_expressions.specs.Things.{declared_names, names_further, IsAdded}
use Rattle.hll_types.specs.Sorting.{codes_of_count, IsJoining}
use Rattle.hll_types.specs.Declaring.{IsAfter, SortIsDeclared, with_codes}
use Rattle.hll_expressions.proofs.FirstFaults.{fault_front, fault_behind, fault_same}
use Rattle.hll_types.proofs.FreshNames.{among_append, fresh_last, new_name, taken_append}
use Rattle.hll_expressions.proofs.ByName.{insert_new}
use Rattle.hll_types.proofs.NewSorts.{IsOwn}
use Rattle.hll_types.proofs.Coding.{taken_codes}
use Rattle.hll_types.proofs.SortSteps.{no_sort, after_sort}
use Rattle.hll_types.proofs.ParentSteps.{mid_none, after_parent}

and_false : (b : Bool) → false ≡ (b && false)
and_false true = refl
and_false false = refl

and_true : (b : Bool) → (b || false) ≡ (b && true)
and_true true = refl
and_true false = refl

pub own_enumeration : (es : List Name) (n : Name) → IsOwn (item.Enumeration es n) n.text (texts es) false
own_enumeration es n = record { elements = λ table. refl; parent = λ m. refl; sort = λ q. and_false (bytes_eq n.text q); children = refl }

pub own_leaves : (es : List Name) (n : Name) → IsOwn (item.Leaves es n) n.text (texts es) true
own_leaves es n = record { elements = λ table. refl; parent = λ m. refl; sort = λ q. and_true (bytes_eq n.text q); children = refl }

module _ (old mid : Declared) (p : Pass1) (further : List (List ℕ)) (h : IsAfter old p further) (es : List Name) (n : Name)
    (added : IsAdded old.names mid.names (declared_names old.names ++ with_codes n.text 0 es)) where
  mid_names : declared_names mid.names ≡ p.names ++ with_codes n.text 0 es
  mid_names = added.declared ∙ ap (λ (xs : Names). xs ++ with_codes n.text 0 es) h.names.declared

  mid_taken : taken_by (declared_names mid.names) ≡ taken_by p.names ++ texts es
  mid_taken = ap taken_by mid_names ∙ taken_append p.names (with_codes n.text 0 es) ∙ ap (λ ns. taken_by p.names ++ ns) (taken_codes n.text 0 es)

  pub fresh_behind : fresh_name (taken_by (declared_names mid.names)) n ≡ [] → fresh_name (taken_by p.names ++ texts es) n ≡ []
  fresh_behind none = ap (λ ns. fresh_name ns n) (sym mid_taken) ∙ none

  pub twice_behind : (f : StaticFault) → fresh (taken_by p.names) es ≡ [] → IsFaultAt (fresh_name (taken_by (declared_names mid.names)) n) f → IsFaultAt (fresh (taken_by p.names) (es ++ n ∷ [])) f
  twice_behind f none w =
      fault_same (fresh (taken_by p.names) es ++ fresh_name (taken_by p.names ++ texts es) n) (fresh (taken_by p.names) (es ++ n ∷ [])) f (sym (fresh_last (taken_by p.names) es n))
      (fault_behind (fresh (taken_by p.names) es) (fresh_name (taken_by p.names ++ texts es) n) f none
      (fault_same (fresh_name (taken_by (declared_names mid.names)) n) (fresh_name (taken_by p.names ++ texts es) n) f (ap (λ ns. fresh_name ns n) mid_taken) w))

  new_text : fresh_name (taken_by p.names ++ texts es) n ≡ [] → is_among (taken_by p.names) n.text ≡ false
  new_text none = (neither (is_among (taken_by p.names) n.text) (is_among (texts es) n.text) (sym (among_append (taken_by p.names) (texts es) n.text) ∙ new_name (taken_by p.names ++ texts es) n none)).0

  pub sort_right : (new : Declared) (t : TypeItem) (is_sort : Bool) → IsOwn t n.text (texts es) is_sort →
      declared_by_type (p.types ++ t ∷ []) p.names t ≡ coded (p.types ++ t ∷ []) n.text es ++ (n.text, type_of (sort_kind (p.types ++ t ∷ []) n.text)) ∷ [] →
      item_faults (declaring p.names further) p (a_type t) ≡ fresh (taken_by p.names) (es ++ n ∷ []) →
      fresh (taken_by (declared_names old.names)) es ≡ [] → mid.sorts ≡ old.sorts → mid.cells ≡ old.cells →
      fresh_name (taken_by (declared_names mid.names)) n ≡ [] →
      IsAdded mid.names new.names (declared_names mid.names ++ (n.text, type_of (element n.text (codes_of_count (length es)))) ∷ []) →
      new.sorts ≡ insert_entry bytes_eq mid.sorts n.text (record { is_sort = is_sort; count = length es; parent = None }) → new.cells ≡ mid.cells → IsAfter new (pass1_item further p (a_type t)) further
  sort_right new t is_sort own says tested elements sorts cells name more put count =
      let last : Names = (n.text, type_of (element n.text (codes_of_count (length es)))) ∷ [] in
      after_sort old new p further h t es n is_sort own says tested
      (ap (λ (xs : Names). fresh (taken_by xs) es) (sym h.names.declared) ∙ elements) (fresh_behind name)
      (record {
        declared = more.declared ∙ ap (λ (xs : Names). xs ++ last) mid_names ∙ append_assoc p.names (with_codes n.text 0 es) last;
        further = more.further ∙ added.further;
      })
      (put ∙ ap (λ (ss : List (List ℕ × Sort)). insert_entry bytes_eq ss n.text (record { is_sort = is_sort; count = length es; parent = None })) sorts
      ∙ insert_new old.sorts n.text (record { is_sort = is_sort; count = length es; parent = None }) (no_sort old p further h n.text (new_text (fresh_behind name))))
      (count ∙ cells)

-- ---- a sort that joins others

module _ (old : Declared) (p : Pass1) (further : List (List ℕ)) (h : IsAfter old p further) (children : List Name) (n : Name) where
  pub parent_children : (f : StaticFault) → IsFaultAt (children_faults (declaring p.names further) (flat_map sort_of p.types) (flat_map children_of p.types) children) f →
      IsFaultAt (item_faults (declaring p.names further) p (a_type (item.Children children n))) f
  parent_children f w = fault_front (children_faults (declaring p.names further) (flat_map sort_of p.types) (flat_map children_of p.types) children) _ f w

  pub parent_twice : (mid : Declared) (f : StaticFault) → mid.names ≡ old.names → children_faults (declaring p.names further) (flat_map sort_of p.types) (flat_map children_of p.types) children ≡ [] →
      IsFaultAt (fresh_name (taken_by (declared_names mid.names)) n) f → IsFaultAt (item_faults (declaring p.names further) p (a_type (item.Children children n))) f
  parent_twice mid f same none w =
      fault_behind (children_faults (declaring p.names further) (flat_map sort_of p.types) (flat_map children_of p.types) children) (fresh_name (taken_by p.names) n) f none
      (fault_same (fresh_name (taken_by (declared_names mid.names)) n) (fresh_name (taken_by p.names) n) f (ap (λ (xs : Names). fresh_name (taken_by xs) n) (ap declared_names same ∙ h.names.declared)) w)

  pub parent_right : (mid new : Declared) (count : ℕ) → mid.names ≡ old.names → mid.cells ≡ old.cells → IsJoining old.sorts mid.sorts p.types children →
      count ≡ length (flat_map (elements_under (element_table p.types)) (texts children)) →
      children_faults (declaring p.names further) (flat_map sort_of p.types) (flat_map children_of p.types) children ≡ [] →
      fresh_name (taken_by (declared_names mid.names)) n ≡ [] →
      IsAdded mid.names new.names (declared_names mid.names ++ (n.text, type_of (element n.text (codes_of_count count))) ∷ []) →
      new.sorts ≡ insert_entry bytes_eq mid.sorts n.text (record { is_sort = true; count = count; parent = None }) → new.cells ≡ mid.cells → IsAfter new (pass1_item further p (a_type (item.Children children n))) further
  parent_right mid new count names cells joins elements tested name added put more =
      let same : declared_names mid.names ≡ p.names = ap declared_names names ∙ h.names.declared in
      after_parent old new mid.sorts p further h children n count joins elements tested (ap (λ (xs : Names). fresh_name (taken_by xs) n) (sym same) ∙ name)
      (record {
        declared = added.declared ∙ ap (λ (xs : Names). xs ++ (n.text, type_of (element n.text (codes_of_count count))) ∷ []) same;
        further = added.further ∙ ap (λ t. names_further t) names;
      })
      (put ∙ insert_new mid.sorts n.text (record { is_sort = true; count = count; parent = None })
      (mid_none old new mid.sorts p further h children n count joins elements tested (ap (λ (xs : Names). fresh_name (taken_by xs) n) (sym same) ∙ name)))
      (more ∙ cells)

-- ---- whole items

module _ (old : Declared) (p : Pass1) (further : List (List ℕ)) (h : IsAfter old p further) (es : List Name) (n : Name) where
  elements_there : (f : StaticFault) → IsFaultAt (fresh (taken_by (declared_names old.names)) es) f → IsFaultAt (fresh (taken_by p.names) (es ++ n ∷ [])) f
  elements_there f w =
      fault_same (fresh (taken_by p.names) es ++ fresh_name (taken_by p.names ++ texts es) n) (fresh (taken_by p.names) (es ++ n ∷ [])) f (sym (fresh_last (taken_by p.names) es n))
      (fault_front (fresh (taken_by p.names) es) _ f (fault_same (fresh (taken_by (declared_names old.names)) es) (fresh (taken_by p.names) es) f (ap (λ (xs : Names). fresh (taken_by xs) es) h.names.declared) w))

  pub enumeration_elements : (f : StaticFault) → IsFaultAt (fresh (taken_by (declared_names old.names)) es) f → IsFaultAt (item_faults (declaring p.names further) p (a_type (item.Enumeration es n))) f
  enumeration_elements f w = elements_there f w

  pub leaves_elements : (f : StaticFault) → IsFaultAt (fresh (taken_by (declared_names old.names)) es) f → IsFaultAt (item_faults (declaring p.names further) p (a_type (item.Leaves es n))) f
  leaves_elements f w = elements_there f w

-- an enumeration's or a sort's own name, behind its elements
module _ (old mid new : Declared) (p : Pass1) (further : List (List ℕ)) (h : IsAfter old p further) (es : List Name) (n : Name) (result : Result Unit StaticFault)
    (elements : (fresh (taken_by (declared_names old.names)) es ≡ []) × IsAdded old.names mid.names (declared_names old.names ++ with_codes n.text 0 es) × (mid.sorts ≡ old.sorts) × (mid.cells ≡ old.cells)) where
  none_there : fresh (taken_by p.names) es ≡ []
  none_there = ap (λ (xs : Names). fresh (taken_by xs) es) (sym h.names.declared) ∙ elements.0

  pub enumeration_sort : SortIsDeclared mid new n false (length es) result → MatchResult result (λ u. IsAfter new (pass1_item further p (a_type (item.Enumeration es n))) further) (IsFaultAt (item_faults (declaring p.names further) p (a_type (item.Enumeration es n))))
  enumeration_sort = by result
    where
      by : (result : Result Unit StaticFault) → SortIsDeclared mid new n false (length es) result → MatchResult result (λ u. IsAfter new (pass1_item further p (a_type (item.Enumeration es n))) further) (IsFaultAt (item_faults (declaring p.names further) p (a_type (item.Enumeration es n))))
      by (Ok u) w = sort_right old mid p further h es n elements.1 new (item.Enumeration es n) false (own_enumeration es n) refl refl elements.0 elements.2 elements.3 w.0 w.1 w.2 w.3
      by (Err f) w = twice_behind old mid p further h es n elements.1 f none_there w

  pub leaves_sort : SortIsDeclared mid new n true (length es) result → MatchResult result (λ u. IsAfter new (pass1_item further p (a_type (item.Leaves es n))) further) (IsFaultAt (item_faults (declaring p.names further) p (a_type (item.Leaves es n))))
  leaves_sort = by result
    where
      by : (result : Result Unit StaticFault) → SortIsDeclared mid new n true (length es) result → MatchResult result (λ u. IsAfter new (pass1_item further p (a_type (item.Leaves es n))) further) (IsFaultAt (item_faults (declaring p.names further) p (a_type (item.Leaves es n))))
      by (Ok u) w = sort_right old mid p further h es n elements.1 new (item.Leaves es n) true (own_leaves es n) refl refl elements.0 elements.2 elements.3 w.0 w.1 w.2 w.3
      by (Err f) w = twice_behind old mid p further h es n elements.1 f none_there w

-- a sort's own name, behind its children
pub parent_sort : (old mid new : Declared) (p : Pass1) (further : List (List ℕ)) (h : IsAfter old p further) (children : List Name) (n : Name) (count : ℕ) (result : Result Unit StaticFault) → mid.names ≡ old.names → mid.cells ≡ old.cells →
    (children_faults (declaring p.names further) (flat_map sort_of p.types) (flat_map children_of p.types) children ≡ []) × (count ≡ length (flat_map (elements_under (element_table p.types)) (texts children))) × IsJoining old.sorts mid.sorts p.types children →
    SortIsDeclared mid new n true count result → MatchResult result (λ u. IsAfter new (pass1_item further p (a_type (item.Children children n))) further) (IsFaultAt (item_faults (declaring p.names further) p (a_type (item.Children children n))))
parent_sort old mid new p further h children n count (Ok u) names cells joins w = parent_right old p further h children n mid new count names cells joins.2 joins.1 joins.0 w.0 w.1 w.2 w.3
parent_sort old mid new p further h children n count (Err f) names cells joins w = parent_twice old p further h children n mid f names joins.0 w
