-- Pass 1, item by item: what is declared is what the definitions have.
use Rattle.std.proofs.Common.{◌≡◌, ℕ, ◌+◌, Bool, true, ◌||◌, List, [], ◌∷◌, ◌++◌, map, sym, ap, subst, ◌∙◌, add-zero}
use Rattle.std.specs.List.{flat_map}
use Rattle.std.proofs.lemmas.List.{append-nil}
use Rattle.hll_tree.specs.declared.tree.ConstItem.{ConstItem}
use Rattle.hll_tree.specs.declared.tree.Decl.{Decl}
use Rattle.hll_tree.specs.declared.tree.TypeItem.{TypeItem}
use Rattle.hll_meaning.specs.Names.{Names, under}
use Rattle.hll_meaning.specs.Declarations.{Item, a_constant, a_type, variables_of, is_among, element_table, declared_by, declared_by_type}
use Rattle.hll_meaning.specs.StaticRules.{declaring, taken_by, item_faults, Pass1, pass1_item, types_of_item, children_of, declared_cells}
use Rattle.hll_meaning.proofs.FineNames.{further_fine}
use Rattle.hll_types.specs.declared.declare.Declared.{Declared}
use Rattle.hll_expressions.specs.declared.things.Things.{Things}
use Rattle.hll_types.specs.Standing.{Stand, AreSorts}
use Rattle.hll_expressions.specs.Things.{IsAdded}
use Rattle.hll_types.specs.Declaring.{IsAfter}
use Rattle.hll_expressions.proofs.FirstFaults.{none_both}
use Rattle.hll_types.proofs.FreshNames.{among_append, taken_append}
use Rattle.hll_types.proofs.SortTables.{IsOther, sorts_same, known_same, same_children}

-- names that were taken are taken
pub taken_more : (xs ys : Names) (n : List ℕ) → is_among (taken_by xs) n ≡ true → is_among (taken_by (xs ++ ys)) n ≡ true
taken_more xs ys n h = ap (λ ns. is_among ns n) (taken_append xs ys) ∙ among_append (taken_by xs) (taken_by ys) n ∙ ap (λ b. b || is_among (taken_by ys) n) h

-- names stand with those that an item declares
pub stand_further : (old new : Things) (further : List (List ℕ)) (p : Pass1) (it : Item) → Stand old p.names further →
    IsAdded old new (p.names ++ declared_by (p.types ++ types_of_item it) p.names it) → item_faults (declaring p.names further) p it ≡ [] → Stand new (pass1_item further p it).names further
stand_further old new further p it h added none = record {
  declared = added.declared;
  behind = λ n. ap (under n) added.further ∙ h.behind n;
  fine = further_fine further p it h.fine none;
}

-- an item that declares no type, and leaves sorts alone
module _ (old new : Declared) (p : Pass1) (further : List (List ℕ)) (h : IsAfter old p further) where
  pub after_constant : (k : ConstItem) → IsAdded old.names new.names (p.names ++ declared_by p.types p.names (a_constant k)) → new.sorts ≡ old.sorts → new.cells ≡ old.cells →
      item_faults (declaring p.names further) p (a_constant k) ≡ [] → IsAfter new (pass1_item further p (a_constant k)) further
  after_constant k added sorts cells none =
      let it : Item = a_constant k in
      let types = append-nil p.types in
      record {
        names = stand_further old.names new.names further p it h.names (subst (IsAdded old.names new.names) (ap (λ ts. p.names ++ declared_by ts p.names it) (sym types)) added) none;
        sorts = subst (λ ts. AreSorts new.sorts ts (flat_map children_of ts)) (sym types) (subst (λ ss. AreSorts ss p.types (flat_map children_of p.types)) (sym sorts) h.sorts);
        known = subst (λ ts. (n : List ℕ) → is_among (map (λ x. x.0) (element_table ts)) n ≡ true → is_among (taken_by (p.names ++ declared_by ts p.names it)) n ≡ true) (sym types)
            (λ n is. taken_more p.names (declared_by p.types p.names it) n (h.known n is));
        cells = cells ∙ h.cells ∙ sym (add-zero p.cells);
        faultless = none_both p.faults (item_faults (declaring p.names further) p it) h.faultless none;
      }

  -- a type item that is no enumeration and no sort
  pub after_type : (t : TypeItem) → IsOther t → IsAdded old.names new.names (p.names ++ declared_by_type (p.types ++ t ∷ []) p.names t) → new.sorts ≡ old.sorts → new.cells ≡ old.cells →
      item_faults (declaring p.names further) p (a_type t) ≡ [] → IsAfter new (pass1_item further p (a_type t)) further
  after_type t other added sorts cells none =
      let it : Item = a_type t in
      let types = p.types ++ t ∷ [] in
      let children = same_children p.types t other in
      record {
        names = stand_further old.names new.names further p it h.names added none;
        sorts = subst (λ ns. AreSorts new.sorts types ns) (sym children) (subst (λ ss. AreSorts ss types (flat_map children_of p.types)) (sym sorts) (sorts_same p.types t other old.sorts (flat_map children_of p.types) h.sorts));
        known = known_same p.types t other (taken_by (p.names ++ declared_by_type types p.names t)) (λ n is. taken_more p.names (declared_by_type types p.names t) n (h.known n is));
        cells = cells ∙ h.cells ∙ sym (add-zero p.cells);
        faultless = none_both p.faults (item_faults (declaring p.names further) p it) h.faultless none;
      }

  -- variables
  pub after_variables : (input : Bool) (decl : Decl) → IsAdded old.names new.names (p.names ++ declared_by p.types p.names (variables_of input decl)) → new.sorts ≡ old.sorts → new.cells ≡ p.cells + declared_cells p.names decl →
      item_faults (declaring p.names further) p (variables_of input decl) ≡ [] → IsAfter new (pass1_item further p (variables_of input decl)) further
  after_variables input decl added sorts cells none =
      let it : Item = variables_of input decl in
      let types = append-nil p.types in
      record {
        names = stand_further old.names new.names further p it h.names (subst (IsAdded old.names new.names) (ap (λ ts. p.names ++ declared_by ts p.names it) (sym types)) added) none;
        sorts = subst (λ ts. AreSorts new.sorts ts (flat_map children_of ts)) (sym types) (subst (λ ss. AreSorts ss p.types (flat_map children_of p.types)) (sym sorts) h.sorts);
        known = subst (λ ts. (n : List ℕ) → is_among (map (λ x. x.0) (element_table ts)) n ≡ true → is_among (taken_by (p.names ++ declared_by ts p.names it)) n ≡ true) (sym types)
            (λ n is. taken_more p.names (declared_by p.types p.names it) n (h.known n is));
        cells = cells;
        faultless = none_both p.faults (item_faults (declaring p.names further) p it) h.faultless none;
      }
