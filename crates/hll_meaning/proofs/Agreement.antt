-- Where pass 1 finds no fault, its names agree with those of the text but for elements. So these are fine too.
use Rattle.std.proofs.Common.{◌≡◌, ℕ, ◌+◌, ◌-◌, ◌^◌, pos, neg_ℤ, ◌-ℤ◌, unsigned_abs, Bool, List, [], ◌∷◌, ◌++◌, map, fold, Option, Some, None, option_map, refl, sym, ap, subst, ◌∙◌}
use Rattle.hll_tree.specs.declared.tree.Declarator.{Declarator}
use Rattle.hll_tree.specs.declared.tree.Expr.{Expr}
use Rattle.hll_tree.specs.declared.tree.Field.{Field}
use Rattle.hll_tree.specs.declared.tree.HllModel.{HllModel}
use Rattle.hll_tree.specs.declared.tree.Name.{Name}
use Rattle.hll_tree.specs.declared.tree.TypeItem.{TypeItem}
use Rattle.hll_tree.specs.declared.tree.TypeItem.TheVariants as item
use Rattle.hll_tree.specs.declared.tree.TypeText.{TypeText}
use Rattle.hll_tree.specs.declared.tree.TypeText.TheVariants as written
use Rattle.hll_meaning.specs.Kinds.{Kind, whole, array, struct, field, Value, cells}
use Rattle.hll_meaning.specs.Names.{Thing, constant, type_of, code_in, variable, later, Names, under}
use Rattle.hll_meaning.specs.Values.{number}
use Rattle.hll_meaning.specs.Agreement.{without_roots, fields_without_roots, thing_without_roots, AgreeButElements}
use Rattle.hll_meaning.specs.Declarations.{kind_of_thing, written_kind, with_dims, declared_kind, field_kinds, type_items, Item, a_constant, a_type, variables_of, items, coded, constant_value, declared_by_type, declared_by, with_item, names}
use Rattle.hll_meaning.specs.Judging.{Judged, judged}
use Rattle.hll_meaning.specs.StaticRules.{declaring, dim_faults, written_faults, dims_faults, fresh_name, fields_faults, type_faults, Pass1, taken_by, declarators_faults, item_faults, types_of_item, pass1_item, pass1, pass1_faults, early, Well}
use Rattle.hll_meaning.specs.Soundness.{AreFine}
use Rattle.hll_meaning.proofs.Faultless.{empty_parts, first_empty, second_empty}
use Rattle.hll_meaning.proofs.Elements.{MeansTheSame, agreeing_fine, under_agreeing, agree_append}
use Rattle.hll_meaning.proofs.Same.{is_same}
use Rattle.hll_meaning.proofs.FineNames.{further_on, constant_said, first_faultless, further_fine, pass1_fine}

-- fine names, and others that agree with them but for elements
pub record AreAlike (before other : Names) : Type 0 where
  pub agree : AgreeButElements before other
  pub fine : AreFine before

-- ---- types

value_agrees : (before other : Names) (further : List (List ℕ)) → AreAlike before other → (e : Expr) → (judged e (declaring before further)).faults ≡ [] → constant_value before e ≡ constant_value other e
value_agrees before other further h e none =
    let behind = agree_append before other (further_on further) (further_on further) h.agree refl in
    let same = is_same e (before ++ further_on further) (other ++ further_on further) behind none in
    sym (constant_said before further e h.fine none).0
    ∙ ap (λ (j : Judged). j.value) same
    ∙ (constant_said other further e (agreeing_fine before other h.agree h.fine) (subst (λ (j : Judged). j.faults ≡ []) same none)).0

dims_agree : (before other : Names) (further : List (List ℕ)) → AreAlike before other → (es : List Expr) (k l : Kind) → dims_faults (declaring before further) es ≡ [] → without_roots k ≡ without_roots l →
    without_roots (with_dims before es k) ≡ without_roots (with_dims other es l)
dims_agree before other further h [] k l none same = same
dims_agree before other further h (e ∷ es) k l none same =
    let c = declaring before further in
    let p = empty_parts (dim_faults (judged e c)) (dims_faults c es) none in
    let size = value_agrees before other further h e (first_empty (judged e c).faults _ p.0) in
    let rest = dims_agree before other further h es k l p.1 same in
    λ i. array (unsigned_abs (number (size i))) (rest i)

kind_without : (o : Option Thing) → without_roots (kind_of_thing o) ≡ kind_of_thing (option_map thing_without_roots o)
kind_without None = refl
kind_without (Some (constant b x)) = refl
kind_without (Some (type_of k)) = refl
kind_without (Some (code_in root c)) = refl
kind_without (Some (variable input k)) = refl
kind_without (Some later) = refl

named_agree : (o p : Option Thing) → MeansTheSame o p → without_roots (kind_of_thing o) ≡ without_roots (kind_of_thing p)
named_agree o p h = kind_without o ∙ ap kind_of_thing h ∙ sym (kind_without p)

written_agree : (before other : Names) (further : List (List ℕ)) → AreAlike before other → (ty : TypeText) → written_faults (declaring before further) ty ≡ [] → without_roots (written_kind before ty) ≡ without_roots (written_kind other ty)
written_agree before other further h written.Bool none = refl
written_agree before other further h (written.Bounds a b) none =
    let p = empty_parts (judged a (declaring before further)).faults _ none in
    let lo = value_agrees before other further h a p.0 in
    let hi = value_agrees before other further h b (first_empty (judged b (declaring before further)).faults _ p.1) in
    λ i. whole (record { lo = number (lo i); hi = number (hi i) })
written_agree before other further h (written.Signed e) none =
    ap (λ (v : Value). whole (record { lo = neg_ℤ (pos (2 ^ (unsigned_abs (number v) - 1))); hi = pos (2 ^ (unsigned_abs (number v) - 1)) -ℤ pos 1 }))
    (value_agrees before other further h e (first_empty (judged e (declaring before further)).faults _ none))
written_agree before other further h (written.Unsigned e) none =
    ap (λ (v : Value). whole (record { lo = pos 0; hi = pos (2 ^ unsigned_abs (number v)) -ℤ pos 1 }))
    (value_agrees before other further h e (first_empty (judged e (declaring before further)).faults _ none))
written_agree before other further h (written.Named n) none = named_agree (under n.text before) (under n.text other) (under_agreeing before other n.text h.agree)

fields_agree : (before other : Names) (further : List (List ℕ)) → AreAlike before other → (taken : List (List ℕ)) (fs : List Field) → fields_faults (declaring before further) taken fs ≡ [] →
    fields_without_roots (field_kinds before fs) ≡ fields_without_roots (field_kinds other fs)
fields_agree before other further h taken [] none = refl
fields_agree before other further h taken (f ∷ fs) none =
    let c = declaring before further in
    let p = second_empty (fresh_name taken f.of.name) _ none in
    let q = empty_parts (written_faults c f.ty) _ p in
    let r = empty_parts (dims_faults c f.of.dims) _ q.1 in
    let here = dims_agree before other further h f.of.dims (written_kind before f.ty) (written_kind other f.ty) r.0 (written_agree before other further h f.ty q.0) in
    let there = fields_agree before other further h (f.of.name.text ∷ taken) fs r.1 in
    λ i. field f.of.name.text (here i) (there i)

-- ---- items

coded_agree : (types all : List TypeItem) (sort : List ℕ) (es : List Name) → AgreeButElements (coded types sort es) (coded all sort es)
coded_agree types all sort [] = refl
coded_agree types all sort (e ∷ es) = ap (λ (ns : Names). (e.text, code_in [] 0) ∷ ns) (coded_agree types all sort es)

type_agrees : (types all : List TypeItem) (before other : Names) (further : List (List ℕ)) → AreAlike before other → (others : List TypeItem) (t : TypeItem) → type_faults (declaring before further) others before t ≡ [] →
    AgreeButElements (declared_by_type types before t) (declared_by_type all other t)
type_agrees types all before other further h others (item.Alias ty d) none =
    let c = declaring before further in
    let p = empty_parts (written_faults c ty) _ none in
    let q = second_empty (fresh_name _ d.name) _ p.1 in
    let kind = dims_agree before other further h d.dims (written_kind before ty) (written_kind other ty) (first_empty (dims_faults c d.dims) _ q) (written_agree before other further h ty p.0) in
    λ i. (d.name.text, type_of (kind i)) ∷ []
type_agrees types all before other further h others (item.Enumeration es n) none = agree_append (coded types n.text es) (coded all n.text es) _ _ (coded_agree types all n.text es) refl
type_agrees types all before other further h others (item.Structure fields n) none =
    let same = fields_agree before other further h [] fields (first_empty (fields_faults (declaring before further) [] fields) _ none) in
    λ i. (n.text, type_of (struct n.text (same i))) ∷ []
type_agrees types all before other further h others (item.Leaves es n) none = agree_append (coded types n.text es) (coded all n.text es) _ _ (coded_agree types all n.text es) refl
type_agrees types all before other further h others (item.Children children n) none = refl

declarators_agree : (before other : Names) (further : List (List ℕ)) → AreAlike before other → (input : Bool) (ty : TypeText) (taken : List (List ℕ)) (total : ℕ) (ds : List Declarator) → written_faults (declaring before further) ty ≡ [] →
    declarators_faults (declaring before further) before ty taken total ds ≡ [] →
    AgreeButElements (map (λ d. (d.name.text, variable input (declared_kind before ty d))) ds) (map (λ d. (d.name.text, variable input (declared_kind other ty d))) ds)
declarators_agree before other further h input ty taken total [] kind none = refl
declarators_agree before other further h input ty taken total (d ∷ ds) kind none =
    let c = declaring before further in
    let p = second_empty (fresh_name taken d.name) _ none in
    let q = empty_parts (dims_faults c d.dims) _ p in
    let here = dims_agree before other further h d.dims (written_kind before ty) (written_kind other ty) q.0 (written_agree before other further h ty kind) in
    let there = declarators_agree before other further h input ty (d.name.text ∷ taken) (total + cells (declared_kind before ty d)) ds kind (second_empty _ _ q.1) in
    λ i. (d.name.text, variable input (here i)) ∷ there i

pub item_agrees : (types all : List TypeItem) (further : List (List ℕ)) (p : Pass1) (other : Names) (it : Item) → AreAlike p.names other → item_faults (declaring p.names further) p it ≡ [] →
    AgreeButElements (declared_by types p.names it) (declared_by all other it)
item_agrees types all further p other (a_constant k) h none =
    let q = first_empty (judged k.value (declaring p.names further)).faults _ (second_empty (fresh_name (taken_by p.names) k.name) _ none) in
    let same = value_agrees p.names other further h k.value q in
    λ i. (k.name.text, constant k.boolean (number (same i))) ∷ []
item_agrees types all further p other (a_type t) h none = type_agrees types all p.names other further h p.types t none
item_agrees types all further p other (variables_of input decl) h none =
    let q = empty_parts (written_faults (declaring p.names further) decl.ty) _ none in
    declarators_agree p.names other further h input decl.ty _ _ decl.names q.0 q.1

-- ---- texts

items_agree : (all : List TypeItem) (further : List (List ℕ)) (its : List Item) (p : Pass1) (other : Names) → AreAlike p.names other → (fold (pass1_item further) p its).faults ≡ [] →
    AgreeButElements (fold (pass1_item further) p its).names (fold (with_item all) other its)
items_agree all further [] p other h none = h.agree
items_agree all further (it ∷ its) p other h none =
    let first = first_faultless further it its p none in
    let types = p.types ++ types_of_item it in
    items_agree all further its (pass1_item further p it) (with_item all other it)
    (record {
      agree = agree_append p.names other (declared_by types p.names it) (declared_by all other it) h.agree (item_agrees types all further p other it h first);
      fine = further_fine further p it h.fine first;
    })
    none

pub names_agree : (m : HllModel) → pass1_faults m ≡ [] → AgreeButElements (pass1 m).names (names m)
names_agree m none = items_agree (type_items m) (early m) (items m) (record { names = []; types = []; cells = 0; faults = [] }) [] (record { agree = refl; fine = tt }) none

pub names_fine : (m : HllModel) → Well m → AreFine (names m)
names_fine m well =
    let none = first_empty (pass1_faults m) _ well in
    agreeing_fine (pass1 m).names (names m) (names_agree m none) (pass1_fine m none)
