-- In a text without static faults no two inputs have one name: pass 1 takes each name of a variable only once.
use Rattle.std.proofs.Common.{◌≡◌, ℕ, ◌+◌, ◌||◌, List, [], ◌∷◌, ◌++◌, map, fold, Bool, true, false, refl, sym, ap, subst, ◌∙◌}
use Rattle.std.specs.Prelude.{nat_lt}
use Rattle.std.specs.List.{AllByRecursion, IsDistinct, flat_map, list_all}
use Rattle.std.specs.Str.{bytes_eq}
use Rattle.std.proofs.lemmas.Bool.{false≢true}
use Rattle.std.proofs.lemmas.Grind.{flat_map-append}
use Rattle.std.proofs.lemmas.List.{map-append}
use Rattle.std.proofs.lemmas.List.Folds.{flat_map-map, list_any-append}
use Rattle.hll_tree.specs.declared.tree.Declarator.{Declarator}
use Rattle.hll_tree.specs.declared.tree.HllModel.{HllModel}
use Rattle.hll_tree.specs.declared.tree.Section.{Section}
use Rattle.hll_tree.specs.declared.tree.Section.TheVariants as section
use Rattle.hll_tree.specs.declared.tree.TypeText.{TypeText}
use Rattle.hll_meaning.specs.declared.fault.StaticKind.TheVariants as is
use Rattle.hll_meaning.specs.Kinds.{cells}
use Rattle.hll_meaning.specs.Names.{Thing, Names}
use Rattle.hll_meaning.specs.Declarations.{is_among, declared_kind, Item, a_constant, a_type, variables_of, items_in, items, declared_by}
use Rattle.hll_meaning.specs.Judging.{Context, fault_if}
use Rattle.hll_meaning.specs.StaticRules.{fresh_name, taken_by, early, declaring, written_faults, dims_faults, is_large, declarators_faults, types_of_item, Pass1, pass1_item, pass1_faults, pass2_faults, pass3_faults, Well}
use Rattle.hll_meaning.proofs.Faultless.{empty_parts, first_empty, second_empty, not_so, neither}
use Rattle.hll_cli.specs.Accepted.{is_built_section, is_built}
use Rattle.hll_cli.specs.BooleanTexts.{declared_names, input_names_in, input_names}
use Rattle.hll_cli.proofs.BuiltTexts.{and_both}

-- ---- names that are new

-- none of these names is taken, nor any of them a second time
abbrev IsFresh : List (List ℕ) → List (List ℕ) → Type 0
IsFresh taken [] = Unit {0}
IsFresh taken (n ∷ ns) = (is_among taken n ≡ false) × IsFresh (n ∷ taken) ns

neither_is : (a b : Bool) → a ≡ false → b ≡ false → (a || b) ≡ false
neither_is a b p q = rw (p, q) refl

absent_parts : (xs ys : List (List ℕ)) (y : List ℕ) → is_among (xs ++ ys) y ≡ false → (is_among xs y ≡ false) × (is_among ys y ≡ false)
absent_parts xs ys y h = neither (is_among xs y) (is_among ys y) (sym (list_any-append (λ n. bytes_eq n y) xs ys) ∙ h)

absent_both : (xs ys : List (List ℕ)) (y : List ℕ) → is_among xs y ≡ false → is_among ys y ≡ false → is_among (xs ++ ys) y ≡ false
absent_both xs ys y p q = list_any-append (λ n. bytes_eq n y) xs ys ∙ neither_is (is_among xs y) (is_among ys y) p q

-- names that are new behind more names are so behind fewer
fewer : (taken more : List (List ℕ)) → ((y : List ℕ) → is_among more y ≡ false → is_among taken y ≡ false) → (ns : List (List ℕ)) → IsFresh more ns → IsFresh taken ns
fewer taken more fall [] fresh = tt
fewer taken more fall (n ∷ ns) fresh = (
  fall n fresh.0,
  fewer (n ∷ taken) (n ∷ more)
      (λ y h. let p = neither (bytes_eq n y) (is_among more y) h in neither_is (bytes_eq n y) (is_among taken y) p.0 (fall y p.1)) ns fresh.1,
)

-- new names, and behind them further new ones
fresh_both : (taken ns ks : List (List ℕ)) → IsFresh taken ns → IsFresh (ns ++ taken) ks → IsFresh taken (ns ++ ks)
fresh_both taken [] ks fresh further = further
fresh_both taken (n ∷ ns) ks fresh further = (
  fresh.0,
  fresh_both (n ∷ taken) ns ks fresh.1
      (fewer (ns ++ n ∷ taken) (n ∷ ns ++ taken)
      (λ y h. let p = neither (bytes_eq n y) (is_among (ns ++ taken) y) h in
      let q = absent_parts ns taken y p.1 in
      absent_both ns (n ∷ taken) y q.0 (neither_is (bytes_eq n y) (is_among taken y) p.0 q.1)) ks further),
)

unequal : (taken ns : List (List ℕ)) (x : List ℕ) → ((y : List ℕ) → is_among taken y ≡ false → bytes_eq x y ≡ false) → IsFresh taken ns → AllByRecursion (λ y. bytes_eq x y ≡ false) ns
unequal taken [] x apart fresh = tt
unequal taken (n ∷ ns) x apart fresh =
    (apart n fresh.0, unequal (n ∷ taken) ns x (λ y h. apart y (neither (bytes_eq n y) (is_among taken y) h).1) fresh.1)

-- no two new names are equal
fresh_distinct : (taken ns : List (List ℕ)) → IsFresh taken ns → IsDistinct bytes_eq ns
unfolding IsDistinct
fresh_distinct taken [] fresh = tt
fresh_distinct taken (n ∷ ns) fresh =
    (unequal (n ∷ taken) ns n (λ y h. (neither (bytes_eq n y) (is_among taken y) h).0) fresh.1, fresh_distinct (n ∷ taken) ns fresh.1)

-- ---- pass 1

-- the names of the variables that an item declares
abbrev variable_names : Item → List (List ℕ)
variable_names (a_constant k) = []
variable_names (a_type t) = []
variable_names (variables_of input decl) = declared_names decl

declarators_fresh : (c : Context) (before : Names) (ty : TypeText) (taken : List (List ℕ)) (total : ℕ) (ds : List Declarator) →
    declarators_faults c before ty taken total ds ≡ [] → IsFresh taken (map (λ d. d.name.text) ds)
declarators_fresh c before ty taken total [] none = tt
declarators_fresh c before ty taken total (d ∷ ds) none =
    let p = empty_parts (fresh_name taken d.name) _ none in
    let q = second_empty (dims_faults c d.dims) _ p.1 in
    let r = second_empty (fault_if (is_large (declared_kind before ty d) || nat_lt 100000 (total + cells (declared_kind before ty d))) is.Cells d.name.at) _ q in
    let here = first_empty (fault_if (is_among taken d.name.text) is.Twice d.name.at) [] p.0 in
    (not_so (is_among taken d.name.text) is.Twice d.name.at here, declarators_fresh c before ty (d.name.text ∷ taken) (total + cells (declared_kind before ty d)) ds r)

item_fresh : (further : List (List ℕ)) (p : Pass1) (it : Item) → (pass1_item further p it).faults ≡ [] → IsFresh (taken_by p.names) (variable_names it)
item_fresh further p (a_constant k) none = tt
item_fresh further p (a_type t) none = tt
item_fresh further p (variables_of input decl) none =
    let c = declaring p.names further in
    declarators_fresh c p.names decl.ty (taken_by p.names) p.cells decl.names (second_empty (written_faults c decl.ty) _ (second_empty p.faults _ none))

names_of : (f : Declarator → Thing) (ds : List Declarator) → taken_by (map (λ d. (d.name.text, f d)) ds) ≡ map (λ d. d.name.text) ds
names_of f [] = refl
names_of f (d ∷ ds) = ap (λ (ns : List (List ℕ)). d.name.text ∷ ns) (names_of f ds)

-- a name that isn't taken behind an item is none of its variables, and wasn't taken before
absent_before : (further : List (List ℕ)) (p : Pass1) (it : Item) (y : List ℕ) → is_among (taken_by (pass1_item further p it).names) y ≡ false →
    is_among (variable_names it ++ taken_by p.names) y ≡ false
absent_before further p it y h = by_item it (absent_parts (taken_by p.names) (taken_by added) y (ap (λ ns. is_among ns y) (sym (map-append (λ (x : List ℕ × Thing). x.0) p.names added)) ∙ h))
  where
    added : Names
    added = declared_by (p.types ++ types_of_item it) p.names it

    by_item : (it : Item) → (is_among (taken_by p.names) y ≡ false) × (is_among (taken_by (declared_by (p.types ++ types_of_item it) p.names it)) y ≡ false) →
        is_among (variable_names it ++ taken_by p.names) y ≡ false
    by_item (a_constant k) q = q.0
    by_item (a_type t) q = q.0
    by_item (variables_of input decl) q = absent_both (declared_names decl) (taken_by p.names) y (ap (λ ns. is_among ns y) (sym (names_of _ decl.names)) ∙ q.1) q.0

faults_before : (further : List (List ℕ)) (its : List Item) (p : Pass1) → (fold (pass1_item further) p its).faults ≡ [] → p.faults ≡ []
faults_before further [] p none = none
faults_before further (it ∷ its) p none = first_empty p.faults _ (faults_before further its (pass1_item further p it) none)

items_fresh : (further : List (List ℕ)) (its : List Item) (p : Pass1) → (fold (pass1_item further) p its).faults ≡ [] → IsFresh (taken_by p.names) (flat_map variable_names its)
items_fresh further [] p none = tt
items_fresh further (it ∷ its) p none =
    let next = pass1_item further p it in
    fresh_both (taken_by p.names) (variable_names it) (flat_map variable_names its) (item_fresh further p it (faults_before further its next none))
    (fewer (variable_names it ++ taken_by p.names) (taken_by next.names) (absent_before further p it) (flat_map variable_names its) (items_fresh further its next none))

-- ---- texts

section_names : (x : Section) → is_built_section x ≡ true → flat_map variable_names (items_in x) ≡ input_names_in x
section_names (section.Constants xs) built = absurd (false≢true built)
section_names (section.Types xs) built = absurd (false≢true built)
section_names (section.Inputs ds) built = flat_map-map variable_names (variables_of true) ds
section_names (section.Declarations xs) built = absurd (false≢true built)
section_names (section.Definitions xs) built = absurd (false≢true built)
section_names (section.Constraints xs) built = absurd (false≢true built)
section_names (section.Obligations es) built = refl

sections_names : (xs : List Section) → list_all is_built_section xs ≡ true → flat_map variable_names (flat_map items_in xs) ≡ flat_map input_names_in xs
sections_names [] built = refl
sections_names (x ∷ xs) built =
    let both = and_both (is_built_section x) (list_all is_built_section xs) built in
    flat_map-append variable_names (items_in x) (flat_map items_in xs)
    ∙ ap (λ ns. ns ++ flat_map variable_names (flat_map items_in xs)) (section_names x both.0)
    ∙ ap (λ ns. input_names_in x ++ ns) (sections_names xs both.1)

-- the inputs of a built text without static faults have different names
pub inputs_distinct : (m : HllModel) → is_built m ≡ true → Well m → IsDistinct bytes_eq (input_names m)
inputs_distinct m built well =
    let none = first_empty (pass1_faults m) (pass2_faults m ++ pass3_faults m) well in
    fresh_distinct [] (input_names m)
    (subst (IsFresh []) (sections_names m.sections built) (items_fresh (early m) (items m) (record { names = []; types = []; cells = 0; faults = [] }) none))
