-- In a text without faults no name is declared twice.
use Rattle.std.proofs.Common.{◌≡◌, ℕ, ◌+◌, Bool, List, [], ◌∷◌, ◌++◌, map, fold, refl, sym, ap, subst, ◌∙◌}
use Rattle.std.proofs.lemmas.List.{map-append}
use Rattle.hll_tree.specs.declared.tree.Declarator.{Declarator}
use Rattle.hll_tree.specs.declared.tree.HllModel.{HllModel}
use Rattle.hll_tree.specs.declared.tree.Name.{Name}
use Rattle.hll_tree.specs.declared.tree.TypeItem.{TypeItem}
use Rattle.hll_tree.specs.declared.tree.TypeItem.TheVariants as item
use Rattle.hll_tree.specs.declared.tree.TypeText.{TypeText}
use Rattle.hll_meaning.specs.declared.fault.StaticKind.TheVariants as is
use Rattle.hll_meaning.specs.Kinds.{Kind, cells}
use Rattle.hll_meaning.specs.Names.{Thing, Names, type_of, variable}
use Rattle.hll_meaning.specs.Agreement.{names_without_roots}
use Rattle.hll_meaning.specs.Declarations.{Item, a_constant, a_type, variables_of, items, texts, is_among, coded, declared_by, declared_by_type, declared_kind, sort_kind, names}
use Rattle.hll_meaning.specs.Judging.{Context, fault_if}
use Rattle.hll_meaning.specs.StaticRules.{declaring, fresh, fresh_name, taken_by, written_faults, dims_faults, declarators_faults, fields_faults, children_faults, item_faults, types_of_item, Pass1, pass1_item, pass1, pass1_faults, early, Well}
use Rattle.hll_meaning.proofs.Faultless.{empty_parts, first_empty, second_empty}
use Rattle.hll_meaning.proofs.FineNames.{first_faultless}
use Rattle.hll_meaning.proofs.Agreement.{names_agree}
use Rattle.dependence.proofs.Apart.{AreApart, AreElsewhere, apart_append, can_not, true_is_not, taken_append, fresh_apart}

-- names that stand behind others: none twice, and none of the others
abbrev pub AreNew : List (List ℕ) → List (List ℕ) → Type 0
AreNew taken ns = AreApart ns × AreElsewhere ns taken

new_same : (taken xs ys : List (List ℕ)) → xs ≡ ys → AreNew taken xs → AreNew taken ys
new_same taken xs ys same h = subst (AreNew taken) same h

taken_coded : (types : List TypeItem) (sort : List ℕ) (es : List Name) → taken_by (coded types sort es) ≡ texts es
taken_coded types sort [] = refl
taken_coded types sort (e ∷ es) = ap (λ ns. e.text ∷ ns) (taken_coded types sort es)

-- an enumeration or a sort with its elements
own_new : (types : List TypeItem) (taken : List (List ℕ)) (es : List Name) (n : Name) (k : Kind) → fresh taken (es ++ n ∷ []) ≡ [] → AreNew taken (taken_by (coded types n.text es ++ (n.text, type_of k) ∷ []))
own_new types taken es n k none =
    new_same taken (texts (es ++ n ∷ [])) (taken_by (coded types n.text es ++ (n.text, type_of k) ∷ []))
    (map-append (λ (m : Name). m.text) es (n ∷ []) ∙ ap (λ ns. ns ++ n.text ∷ []) (sym (taken_coded types n.text es)) ∙ sym (taken_append (coded types n.text es) ((n.text, type_of k) ∷ [])))
    (fresh_apart taken (es ++ n ∷ []) none)

-- declarators
declarators_fresh : (c : Context) (before : Names) (ty : TypeText) (taken : List (List ℕ)) (total : ℕ) (ds : List Declarator) → declarators_faults c before ty taken total ds ≡ [] → fresh taken (map (λ d. d.name) ds) ≡ []
declarators_fresh c before ty taken total [] none = refl
declarators_fresh c before ty taken total (d ∷ ds) none =
    let parts = empty_parts (fresh_name taken d.name) _ none in
    let own = first_empty (fault_if (is_among taken d.name.text) is.Twice d.name.at) [] parts.0 in
    let rest = second_empty _ (declarators_faults c before ty (d.name.text ∷ taken) (total + cells (declared_kind before ty d)) ds) (second_empty (dims_faults c d.dims) _ parts.1) in
    λ i. own i ++ declarators_fresh c before ty (d.name.text ∷ taken) (total + cells (declared_kind before ty d)) ds rest i

taken_variables : (input : Bool) (before : Names) (ty : TypeText) (ds : List Declarator) → texts (map (λ d. d.name) ds) ≡ taken_by (map {B = List ℕ × Thing} (λ d. (d.name.text, variable input (declared_kind before ty d))) ds)
taken_variables input before ty [] = refl
taken_variables input before ty (d ∷ ds) = ap (λ ns. d.name.text ∷ ns) (taken_variables input before ty ds)

type_new : (further : List (List ℕ)) (p : Pass1) (types : List TypeItem) (t : TypeItem) → item_faults (declaring p.names further) p (a_type t) ≡ [] → AreNew (taken_by p.names) (taken_by (declared_by_type types p.names t))
type_new further p types (item.Alias ty d) none =
    fresh_apart (taken_by p.names) (d.name ∷ []) (first_empty (fresh_name (taken_by p.names) d.name) _ (second_empty (written_faults (declaring p.names further) ty) _ none))
type_new further p types (item.Enumeration es n) none = own_new types (taken_by p.names) es n (sort_kind types n.text) none
type_new further p types (item.Structure fields n) none =
    fresh_apart (taken_by p.names) (n ∷ []) (first_empty (fresh_name (taken_by p.names) n) _ (second_empty (fields_faults (declaring p.names further) [] fields) _ none))
type_new further p types (item.Leaves es n) none = own_new types (taken_by p.names) es n (sort_kind types n.text) none
type_new further p types (item.Children children n) none =
    fresh_apart (taken_by p.names) (n ∷ []) (second_empty (children_faults (declaring p.names further) _ _ children) (fresh_name (taken_by p.names) n) none)

item_new : (further : List (List ℕ)) (p : Pass1) (types : List TypeItem) (it : Item) → item_faults (declaring p.names further) p it ≡ [] → AreNew (taken_by p.names) (taken_by (declared_by types p.names it))
item_new further p types (a_constant k) none = fresh_apart (taken_by p.names) (k.name ∷ []) (first_empty (fresh_name (taken_by p.names) k.name) _ none)
item_new further p types (a_type t) none = type_new further p types t none
item_new further p types (variables_of input decl) none =
    let c = declaring p.names further in
    let rest = second_empty (written_faults c decl.ty) (declarators_faults c p.names decl.ty (taken_by p.names) p.cells decl.names) none in
    new_same (taken_by p.names) (texts (map (λ d. d.name) decl.names)) (taken_by (declared_by types p.names (variables_of input decl)))
    (taken_variables input p.names decl.ty decl.names)
    (fresh_apart (taken_by p.names) (map (λ d. d.name) decl.names) (declarators_fresh c p.names decl.ty (taken_by p.names) p.cells decl.names rest))

flip : (xs ys : List (List ℕ)) → AreElsewhere xs ys → AreElsewhere ys xs
flip xs ys h n is = can_not (is_among xs n) (λ yes. true_is_not (is_among ys n) is (h n yes))

items_apart : (further : List (List ℕ)) (its : List Item) (p : Pass1) → AreApart (taken_by p.names) → (fold (pass1_item further) p its).faults ≡ [] → AreApart (taken_by (fold (pass1_item further) p its).names)
items_apart further [] p h none = h
items_apart further (it ∷ its) p h none =
    let types = p.types ++ types_of_item it in
    let new = item_new further p types it (first_faultless further it its p none) in
    items_apart further its (pass1_item further p it)
    (subst AreApart (sym (taken_append p.names (declared_by types p.names it)))
    (apart_append (taken_by p.names) (taken_by (declared_by types p.names it)) h new.0 (flip (taken_by (declared_by types p.names it)) (taken_by p.names) new.1)))
    none

taken_without : (xs : Names) → taken_by (names_without_roots xs) ≡ taken_by xs
taken_without [] = refl
taken_without (x ∷ xs) = ap (λ ns. x.0 ∷ ns) (taken_without xs)

-- no name of a text is declared twice
pub names_apart : (m : HllModel) → Well m → AreApart (taken_by (names m))
names_apart m well =
    let none = first_empty (pass1_faults m) _ well in
    let apart = items_apart (early m) (items m) (record { names = []; types = []; cells = 0; faults = [] }) tt none in
    subst AreApart (sym (taken_without (pass1 m).names) ∙ ap taken_by (names_agree m none) ∙ taken_without (names m)) apart
