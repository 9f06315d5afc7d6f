-- The names of pass 1 are fine where it finds no fault.
use Rattle.std.proofs.Common.{◌≡◌, ℕ, ◌+◌, ◌≤◌, ◌⊎◌, inl, inr, ℤ, pos, Bool, true, false, List, [], ◌∷◌, ◌++◌, map, fold, unsigned_abs, int_lt, Option, Some, None, refl, sym, ap, subst, ◌∙◌, arith}
use Rattle.std.proofs.lemmas.Int.{ints}
use Rattle.std.specs.List.{AllByRecursion}
use Rattle.std.specs.Str.{bytes_eq}
use Rattle.hll_tree.specs.declared.tree.Declarator.{Declarator}
use Rattle.hll_tree.specs.declared.tree.Expr.{Expr}
use Rattle.hll_tree.specs.declared.tree.Field.{Field}
use Rattle.hll_tree.specs.declared.tree.HllModel.{HllModel}
use Rattle.hll_tree.specs.declared.tree.Name.{Name}
use Rattle.hll_tree.specs.declared.tree.TypeItem.{TypeItem}
use Rattle.hll_tree.specs.declared.tree.TypeItem.TheVariants as item
use Rattle.hll_tree.specs.declared.tree.TypeText.{TypeText}
use Rattle.hll_tree.specs.declared.tree.TypeText.TheVariants as written
use Rattle.hll_tree.proofs.Gives.{all_append}
use Rattle.hll_meaning.specs.Kinds.{Kind, truth, IsOf, cells}
use Rattle.hll_meaning.specs.Names.{Thing, constant, type_of, code_in, variable, later, Names, under}
use Rattle.hll_meaning.specs.Values.{Scene, number}
use Rattle.hll_meaning.specs.Declarations.{kind_of_thing, written_kind, with_dims, declared_kind, field_kinds, Item, a_constant, a_type, variables_of, items, coded, constant_value, constant_number, declared_by_type, declared_by}
use Rattle.hll_meaning.specs.Fitting.{is_truth}
use Rattle.hll_meaning.specs.Judging.{judged, wants_truth, wants_whole, constant_kind}
use Rattle.hll_meaning.specs.StaticRules.{declaring, dim_faults, type_name_faults, written_faults, dims_faults, fresh_name, fields_faults, type_faults, Pass1, wants_constant, taken_by, declarators_faults, item_faults, types_of_item, pass1_item, pass1, pass1_faults, early}
use Rattle.hll_meaning.specs.Soundness.{IsFineKind, AreFineFields, IsFine, AreFine}
use Rattle.hll_meaning.proofs.Faultless.{empty_parts, first_empty, second_empty, not_so, must_be, a_truth}
use Rattle.hll_meaning.proofs.Numbers.{itself, number_in, whole_of, one_of}
use Rattle.hll_meaning.proofs.Scenes.{by_test, under_here, under_further, under_all, Has, HasAll}
use Rattle.hll_meaning.proofs.Constants.{is_said}
use Rattle.hll_meaning.proofs.Ranges.{is_sound}

-- ---- what is known where something is declared

under_either : {A : Type 0} (xs ys : List (List ℕ × A)) (n : List ℕ) (a : A) → under n (xs ++ ys) ≡ Some a → (under n xs ≡ Some a) ⊎ (under n ys ≡ Some a)
under_either [] ys n a is = inr is
under_either ((own, b) ∷ xs) ys n a is =
    by_test (bytes_eq own n)
    (λ same. inl (under_here n own b xs same ∙ sym (under_here n own b (xs ++ ys) same) ∙ is))
    (λ other. further other (under_either xs ys n a (sym (under_further n own b (xs ++ ys) other) ∙ is)))
  where
    further : bytes_eq own n ≡ false → (under n xs ≡ Some a) ⊎ (under n ys ≡ Some a) → (under n ((own, b) ∷ xs) ≡ Some a) ⊎ (under n ys ≡ Some a)
    further other (inl h) = inl (under_further n own b xs other ∙ h)
    further other (inr h) = inr h

-- names that stand further on
abbrev pub further_on : List (List ℕ) → Names
further_on = map (λ n. (n, later))

all_later : (ns : List (List ℕ)) → AllByRecursion (λ (x : List ℕ × Thing). x.1 ≡ later) (further_on ns)
all_later [] = tt
all_later (n ∷ ns) = (refl, all_later ns)

-- what is no more than there stands before
pub known_before : (before : Names) (further : List (List ℕ)) (n : List ℕ) (t : Thing) → (t ≡ later → ⊥) → under n (before ++ further_on further) ≡ Some t → under n before ≡ Some t
known_before before further n t now is = either (under_either before (further_on further) n t is)
  where
    either : (under n before ≡ Some t) ⊎ (under n (further_on further) ≡ Some t) → under n before ≡ Some t
    either (inl h) = h
    either (inr h) = absurd (now (under_all (λ u. u ≡ later) (further_on further) (all_later _) n t h))

-- the scene of a constant after what was declared before
abbrev at_once : Names → Scene
at_once before = record { names = before; history = []; time = 0; bound = [] }

known_thing : (before : Names) (further : List (List ℕ)) → AreFine before → (n : List ℕ) (t : Thing) → under n (before ++ further_on further) ≡ Some t → Has true (at_once before) n t
known_thing before further fine n (constant b x) is = let h = known_before before further n (constant b x) (λ e. cc e) is in (h, under_all IsFine before fine n (constant b x) h)
known_thing before further fine n (type_of k) is = known_before before further n (type_of k) (λ e. cc e) is
known_thing before further fine n (code_in root c) is = λ need. absurd (cc need)
known_thing before further fine n (variable input k) is = λ need. absurd (cc need)
known_thing before further fine n later is = λ need. absurd (cc need)

declaring_has : (before : Names) (further : List (List ℕ)) → AreFine before → HasAll (declaring before further) (at_once before)
declaring_has before further fine = record { things = known_thing before further fine; bound = tt }

pub constant_said : (before : Names) (further : List (List ℕ)) (e : Expr) → AreFine before → (judged e (declaring before further)).faults ≡ [] →
    ((judged e (declaring before further)).value ≡ constant_value before e) × IsOf (judged e (declaring before further)).kind (constant_value before e)
constant_said before further e fine none =
    let h = declaring_has before further fine in
    (is_said e (declaring before further) (at_once before) h refl none, is_sound e (declaring before further) (at_once before) h none)

-- ---- types

some_size : (x : ℤ) → int_lt x (pos 1) ≡ false → 1 ≤ unsigned_abs x
some_size x h = omega (arith, ints)

dims_fine : (before : Names) (further : List (List ℕ)) → AreFine before → (es : List Expr) (k : Kind) → dims_faults (declaring before further) es ≡ [] → IsFineKind k → IsFineKind (with_dims before es k)
dims_fine before further fine [] k none h = h
dims_fine before further fine (e ∷ es) k none h =
    let c = declaring before further in
    let p = empty_parts (dim_faults (judged e c)) (dims_faults c es) none in
    let q = empty_parts (judged e c).faults _ p.0 in
    let size = not_so (int_lt (number (judged e c).value) (pos 1)) _ (judged e c).at (second_empty (wants_whole (judged e c)) _ q.1) in
    let said = (constant_said before further e fine q.0).0 in
    (some_size (constant_number before e) (ap (λ v. int_lt (number v) (pos 1)) (sym said) ∙ size), dims_fine before further fine es k p.1 h)

written_fine : (before : Names) (further : List (List ℕ)) → AreFine before → (ty : TypeText) → written_faults (declaring before further) ty ≡ [] → IsFineKind (written_kind before ty)
written_fine before further fine written.Bool none = tt
written_fine before further fine (written.Bounds a b) none = tt
written_fine before further fine (written.Signed e) none = tt
written_fine before further fine (written.Unsigned e) none = tt
written_fine before further fine (written.Named n) none = by_thing (under n.text (before ++ further_on further)) refl none
  where
    by_thing : (o : Option Thing) → under n.text (before ++ further_on further) ≡ o → type_name_faults n.at o ≡ [] → IsFineKind (kind_of_thing (under n.text before))
    by_thing None is h = absurd (cc h)
    by_thing (Some (constant b x)) is h = absurd (cc h)
    by_thing (Some (type_of k)) is h =
        let known = known_before before further n.text (type_of k) (λ e. cc e) is in
        subst (λ (o : Option Thing). IsFineKind (kind_of_thing o)) (sym known) (under_all IsFine before fine n.text (type_of k) known)
    by_thing (Some (code_in root c)) is h = absurd (cc h)
    by_thing (Some (variable input k)) is h = absurd (cc h)
    by_thing (Some later) is h = absurd (cc h)

fields_fine : (before : Names) (further : List (List ℕ)) → AreFine before → (taken : List (List ℕ)) (fs : List Field) → fields_faults (declaring before further) taken fs ≡ [] → AreFineFields (field_kinds before fs)
fields_fine before further fine taken [] none = tt
fields_fine before further fine taken (f ∷ fs) none =
    let c = declaring before further in
    let p = second_empty (fresh_name taken f.of.name) _ none in
    let q = empty_parts (written_faults c f.ty) _ p in
    let r = empty_parts (dims_faults c f.of.dims) _ q.1 in
    (dims_fine before further fine f.of.dims (written_kind before f.ty) r.0 (written_fine before further fine f.ty q.0), fields_fine before further fine (f.of.name.text ∷ taken) fs r.1)

-- ---- items

coded_fine : (all : List TypeItem) (sort : List ℕ) (es : List Name) → AreFine (coded all sort es)
coded_fine all sort [] = tt
coded_fine all sort (e ∷ es) = (tt, coded_fine all sort es)

truth_fine : (before : Names) (further : List (List ℕ)) → AreFine before → (e : Expr) → (judged e (declaring before further)).faults ≡ [] → wants_truth (judged e (declaring before further)) ≡ [] → IsOf truth (constant_number before e ∷ [])
truth_fine before further fine e none wants =
    let j = judged e (declaring before further) in
    let v = constant_value before e in
    let kind = a_truth j.kind (must_be (is_truth j.kind) _ j.at wants) in
    one_of truth (number v) refl (number_in truth v refl (subst (λ k. IsOf k v) kind (constant_said before further e fine none).1))

constant_fine : (before : Names) (further : List (List ℕ)) → AreFine before → (boolean : Bool) (e : Expr) → (judged e (declaring before further)).faults ≡ [] → wants_constant boolean (judged e (declaring before further)) ≡ [] →
    IsOf (constant_kind boolean (constant_number before e)) (constant_number before e ∷ [])
constant_fine before further fine true e none wants = truth_fine before further fine e none wants
constant_fine before further fine false e none wants = whole_of (record { lo = constant_number before e; hi = constant_number before e }) (constant_number before e) (itself (constant_number before e))

type_fine : (items : List TypeItem) (before : Names) (further : List (List ℕ)) → AreFine before → (others : List TypeItem) (t : TypeItem) → type_faults (declaring before further) others before t ≡ [] → AreFine (declared_by_type items before t)
type_fine items before further fine others (item.Alias ty d) none =
    let c = declaring before further in
    let p = empty_parts (written_faults c ty) _ none in
    let q = second_empty (fresh_name _ d.name) _ p.1 in
    (dims_fine before further fine d.dims (written_kind before ty) (first_empty (dims_faults c d.dims) _ q) (written_fine before further fine ty p.0), tt)
type_fine items before further fine others (item.Enumeration es n) none = all_append (λ x. IsFine x.1) (coded items n.text es) _ (coded_fine items n.text es) (tt, tt)
type_fine items before further fine others (item.Structure fields n) none = (fields_fine before further fine [] fields (first_empty (fields_faults (declaring before further) [] fields) _ none), tt)
type_fine items before further fine others (item.Leaves es n) none = all_append (λ x. IsFine x.1) (coded items n.text es) _ (coded_fine items n.text es) (tt, tt)
type_fine items before further fine others (item.Children children n) none = (tt, tt)

declarators_fine : (before : Names) (further : List (List ℕ)) → AreFine before → (input : Bool) (ty : TypeText) (taken : List (List ℕ)) (total : ℕ) (ds : List Declarator) → written_faults (declaring before further) ty ≡ [] →
    declarators_faults (declaring before further) before ty taken total ds ≡ [] → AreFine (map (λ d. (d.name.text, variable input (declared_kind before ty d))) ds)
declarators_fine before further fine input ty taken total [] kind none = tt
declarators_fine before further fine input ty taken total (d ∷ ds) kind none =
    let c = declaring before further in
    let p = second_empty (fresh_name taken d.name) _ none in
    let q = empty_parts (dims_faults c d.dims) _ p in
    (dims_fine before further fine d.dims (written_kind before ty) q.0 (written_fine before further fine ty kind), declarators_fine before further fine input ty (d.name.text ∷ taken) (total + cells (declared_kind before ty d)) ds kind (second_empty _ _ q.1))

item_fine : (items : List TypeItem) (further : List (List ℕ)) (p : Pass1) (it : Item) → AreFine p.names → item_faults (declaring p.names further) p it ≡ [] → AreFine (declared_by items p.names it)
item_fine items further p (a_constant k) fine none =
    let q = empty_parts (judged k.value (declaring p.names further)).faults _ (second_empty (fresh_name (taken_by p.names) k.name) _ none) in
    (constant_fine p.names further fine k.boolean k.value q.0 q.1, tt)
item_fine items further p (a_type t) fine none = type_fine items p.names further fine p.types t none
item_fine items further p (variables_of input decl) fine none =
    let q = empty_parts (written_faults (declaring p.names further) decl.ty) _ none in
    declarators_fine p.names further fine input decl.ty _ _ decl.names q.0 q.1

-- ---- texts

-- the faults before an item are none
faults_before : (further : List (List ℕ)) (its : List Item) (p : Pass1) → (fold (pass1_item further) p its).faults ≡ [] → p.faults ≡ []
faults_before further [] p none = none
faults_before further (it ∷ its) p none = first_empty p.faults _ (faults_before further its (pass1_item further p it) none)

-- nor are there faults of the first one
pub first_faultless : (further : List (List ℕ)) (it : Item) (its : List Item) (p : Pass1) → (fold (pass1_item further) p (it ∷ its)).faults ≡ [] → item_faults (declaring p.names further) p it ≡ []
first_faultless further it its p none = second_empty p.faults _ (faults_before further its (pass1_item further p it) none)

-- what is declared up to an item and by it is fine
pub further_fine : (further : List (List ℕ)) (p : Pass1) (it : Item) → AreFine p.names → item_faults (declaring p.names further) p it ≡ [] → AreFine (pass1_item further p it).names
further_fine further p it fine none =
    let types = p.types ++ types_of_item it in
    all_append (λ x. IsFine x.1) p.names (declared_by types p.names it) fine (item_fine types further p it fine none)

items_fine : (further : List (List ℕ)) (its : List Item) (p : Pass1) → AreFine p.names → (fold (pass1_item further) p its).faults ≡ [] → AreFine (fold (pass1_item further) p its).names
items_fine further [] p fine none = fine
items_fine further (it ∷ its) p fine none = items_fine further its (pass1_item further p it) (further_fine further p it fine (first_faultless further it its p none)) none

-- so are the names of pass 1 where it finds no fault
pub pass1_fine : (m : HllModel) → pass1_faults m ≡ [] → AreFine (pass1 m).names
pass1_fine m none = items_fine (early m) (items m) (record { names = []; types = []; cells = 0; faults = [] }) tt none
