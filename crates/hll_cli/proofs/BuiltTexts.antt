-- What a text of the forms that are built declares, inputs that are truth values and nothing else, and what it asks.
use Rattle.std.proofs.Common.{◌≡◌, ℕ, List, [], ◌∷◌, ◌++◌, map, Bool, true, false, refl, sym, ap, ◌∙◌, append_assoc, append-nil}
use Rattle.std.specs.Prelude.{◌&&◌, fold}
use Rattle.std.specs.List.{AllByRecursion, flat_map, list_all}
use Rattle.std.proofs.lemmas.Bool.{false≢true}
use Rattle.std.proofs.lemmas.List.{map-append}
use Rattle.std.proofs.lemmas.List.Sums.{fold-append}
use Rattle.hll_tree.specs.declared.tree.Decl.{Decl}
use Rattle.hll_tree.specs.declared.tree.Declarator.{Declarator}
use Rattle.hll_tree.specs.declared.tree.Expr.{Expr}
use Rattle.hll_tree.specs.declared.tree.HllModel.{HllModel}
use Rattle.hll_tree.specs.declared.tree.Section.{Section}
use Rattle.hll_tree.specs.declared.tree.Section.TheVariants as section
use Rattle.hll_tree.specs.declared.tree.TypeItem.{TypeItem}
use Rattle.hll_tree.specs.declared.tree.TypeText.{TypeText}
use Rattle.hll_tree.specs.declared.tree.TypeText.TheVariants as written
use Rattle.hll_meaning.specs.Kinds.{Kind, truth}
use Rattle.hll_meaning.specs.Names.{Thing, variable, Names}
use Rattle.hll_meaning.specs.Declarations.{written_kind, with_dims, declared_kind, variables_of, items_in, type_items, with_item, names}
use Rattle.hll_meaning.specs.Runs.{definitions, definitions_in, constraints, constraints_in, obligations, obligations_in, variables, variables_among}
use Rattle.hll_cli.specs.Accepted.{is_bool, is_single, is_boolean_decl, is_built_section, is_built}
use Rattle.hll_cli.specs.BooleanTexts.{declared_names, input_names_in, input_names, is_boolean}
use Rattle.hll_cli.proofs.Columns.{all_append}

pub and_both : (a b : Bool) → (a && b) ≡ true → (a ≡ true) × (b ≡ true)
and_both true true h = (refl, refl)
and_both true false h = (refl, h)
and_both false b h = (h, absurd (false≢true h))

-- what the name of an input stands for
abbrev pub as_input : List ℕ → List ℕ × Thing
as_input name = (name, variable true truth)

-- ---- names

kind_of_bool : (known : Names) (ty : TypeText) (dims : List Expr) → is_bool ty ≡ true → is_single dims ≡ true → with_dims known dims (written_kind known ty) ≡ truth
kind_of_bool known written.Bool [] bool single = refl
kind_of_bool known written.Bool (e ∷ es) bool single = absurd (false≢true single)
kind_of_bool known (written.Bounds a b) dims bool single = absurd (false≢true bool)
kind_of_bool known (written.Signed e) dims bool single = absurd (false≢true bool)
kind_of_bool known (written.Unsigned e) dims bool single = absurd (false≢true bool)
kind_of_bool known (written.Named n) dims bool single = absurd (false≢true bool)

-- what a declarator declares as an input
abbrev declared_input : Names → TypeText → Declarator → List ℕ × Thing
declared_input known ty d = (d.name.text, variable true (declared_kind known ty d))

declared_inputs : (known : Names) (ty : TypeText) (ds : List Declarator) → is_bool ty ≡ true → list_all (λ d. is_single d.dims) ds ≡ true →
    map (declared_input known ty) ds ≡ map as_input (map (λ d. d.name.text) ds)
declared_inputs known ty [] bool single = refl
declared_inputs known ty (d ∷ ds) bool single =
    let both = and_both (is_single d.dims) (list_all (λ d. is_single d.dims) ds) single in
    ap (λ (k : Kind). (d.name.text, variable true k) ∷ map (declared_input known ty) ds) (kind_of_bool known ty d.dims bool both.0)
    ∙ ap (λ (xs : Names). as_input d.name.text ∷ xs) (declared_inputs known ty ds bool both.1)

declaration_adds : (all : List TypeItem) (known : Names) (d : Decl) → is_boolean_decl d ≡ true → with_item all known (variables_of true d) ≡ known ++ map as_input (declared_names d)
declaration_adds all known d built =
    let both = and_both (is_bool d.ty) (list_all (λ n. is_single n.dims) d.names) built in
    ap (λ (xs : Names). known ++ xs) (declared_inputs known d.ty d.names both.0 both.1)

-- names after names
adds_both : (known : Names) (ns ks : List (List ℕ)) → (known ++ map as_input ns) ++ map as_input ks ≡ known ++ map as_input (ns ++ ks)
adds_both known ns ks = append_assoc known (map as_input ns) (map as_input ks) ∙ ap (λ (xs : Names). known ++ xs) (sym (map-append as_input ns ks))

declarations_add : (all : List TypeItem) (known : Names) (ds : List Decl) → list_all is_boolean_decl ds ≡ true →
    fold (with_item all) known (map (variables_of true) ds) ≡ known ++ map as_input (flat_map declared_names ds)
declarations_add all known [] built = sym (append-nil known)
declarations_add all known (d ∷ ds) built =
    let both = and_both (is_boolean_decl d) (list_all is_boolean_decl ds) built in
    ap (λ (ns : Names). fold (with_item all) ns (map (variables_of true) ds)) (declaration_adds all known d both.0)
    ∙ declarations_add all (known ++ map as_input (declared_names d)) ds both.1
    ∙ adds_both known (declared_names d) (flat_map declared_names ds)

section_adds : (all : List TypeItem) (known : Names) (x : Section) → is_built_section x ≡ true → fold (with_item all) known (items_in x) ≡ known ++ map as_input (input_names_in x)
section_adds all known (section.Constants xs) built = absurd (false≢true built)
section_adds all known (section.Types xs) built = absurd (false≢true built)
section_adds all known (section.Inputs ds) built = declarations_add all known ds built
section_adds all known (section.Declarations xs) built = absurd (false≢true built)
section_adds all known (section.Definitions xs) built = absurd (false≢true built)
section_adds all known (section.Constraints xs) built = absurd (false≢true built)
section_adds all known (section.Obligations es) built = sym (append-nil known)

sections_add : (all : List TypeItem) (known : Names) (xs : List Section) → list_all is_built_section xs ≡ true →
    fold (with_item all) known (flat_map items_in xs) ≡ known ++ map as_input (flat_map input_names_in xs)
sections_add all known [] built = sym (append-nil known)
sections_add all known (x ∷ xs) built =
    let both = and_both (is_built_section x) (list_all is_built_section xs) built in
    fold-append (with_item all) known (items_in x) (flat_map items_in xs)
    ∙ ap (λ (ns : Names). fold (with_item all) ns (flat_map items_in xs)) (section_adds all known x both.0)
    ∙ sections_add all (known ++ map as_input (input_names_in x)) xs both.1
    ∙ adds_both known (input_names_in x) (flat_map input_names_in xs)

-- its names are those of its inputs
pub names_are : (m : HllModel) → is_built m ≡ true → names m ≡ map as_input (input_names m)
names_are m built = sections_add (type_items m) [] m.sections built

variables_of_inputs : (ns : List (List ℕ)) → variables_among (map as_input ns) ≡ map (λ n. (n, truth)) ns
variables_of_inputs [] = refl
variables_of_inputs (n ∷ ns) = ap (λ (xs : List (List ℕ × Kind)). (n, truth) ∷ xs) (variables_of_inputs ns)

-- and so are its variables
pub variables_are : (m : HllModel) → is_built m ≡ true → variables m ≡ map (λ n. (n, truth)) (input_names m)
variables_are m built = ap variables_among (names_are m built) ∙ variables_of_inputs (input_names m)

names_of : (ns : List (List ℕ)) → map (λ (x : List ℕ × Kind). x.0) (map (λ n. (n, truth)) ns) ≡ ns
names_of [] = refl
names_of (n ∷ ns) = ap (λ ks. n ∷ ks) (names_of ns)

-- all of them are inputs
pub all_inputs : (m : HllModel) → is_built m ≡ true → map (λ x. x.0) (variables m) ≡ input_names m
all_inputs m built = ap (λ (xs : List (List ℕ × Kind)). map (λ x. x.0) xs) (variables_are m built) ∙ names_of (input_names m)

-- ---- definitions and constraints

section_undefined : (x : Section) → is_built_section x ≡ true → definitions_in x ≡ []
section_undefined (section.Constants xs) built = refl
section_undefined (section.Types xs) built = refl
section_undefined (section.Inputs xs) built = refl
section_undefined (section.Declarations xs) built = refl
section_undefined (section.Definitions xs) built = absurd (false≢true built)
section_undefined (section.Constraints xs) built = refl
section_undefined (section.Obligations es) built = refl

section_unconstrained : (x : Section) → is_built_section x ≡ true → constraints_in x ≡ []
section_unconstrained (section.Constants xs) built = refl
section_unconstrained (section.Types xs) built = refl
section_unconstrained (section.Inputs xs) built = refl
section_unconstrained (section.Declarations xs) built = refl
section_unconstrained (section.Definitions xs) built = refl
section_unconstrained (section.Constraints xs) built = absurd (false≢true built)
section_unconstrained (section.Obligations es) built = refl

none_of_all : {A : Type 0} (part : Section → List A) → ((x : Section) → is_built_section x ≡ true → part x ≡ []) →
    (xs : List Section) → list_all is_built_section xs ≡ true → flat_map part xs ≡ []
none_of_all part none [] built = refl
none_of_all part none (x ∷ xs) built =
    let both = and_both (is_built_section x) (list_all is_built_section xs) built in
    ap (λ ys. ys ++ flat_map part xs) (none x both.0) ∙ none_of_all part none xs both.1

pub undefined : (m : HllModel) → is_built m ≡ true → definitions m ≡ []
undefined m built = none_of_all definitions_in section_undefined m.sections built

pub unconstrained : (m : HllModel) → is_built m ≡ true → constraints m ≡ []
unconstrained m built = none_of_all constraints_in section_unconstrained m.sections built

-- ---- obligations

all_true : {A : Type 0} (p : A → Bool) (xs : List A) → list_all p xs ≡ true → AllByRecursion (λ x. p x ≡ true) xs
all_true p [] h = tt
all_true p (x ∷ xs) h = let both = and_both (p x) (list_all p xs) h in (both.0, all_true p xs both.1)

-- what is built is Boolean
section_boolean : (x : Section) → is_built_section x ≡ true → AllByRecursion (λ e. is_boolean e ≡ true) (obligations_in x)
section_boolean (section.Constants xs) built = absurd (false≢true built)
section_boolean (section.Types xs) built = absurd (false≢true built)
section_boolean (section.Inputs xs) built = tt
section_boolean (section.Declarations xs) built = absurd (false≢true built)
section_boolean (section.Definitions xs) built = absurd (false≢true built)
section_boolean (section.Constraints xs) built = absurd (false≢true built)
section_boolean (section.Obligations es) built = all_true is_boolean es built

sections_boolean : (xs : List Section) → list_all is_built_section xs ≡ true → AllByRecursion (λ e. is_boolean e ≡ true) (flat_map obligations_in xs)
sections_boolean [] built = tt
sections_boolean (x ∷ xs) built =
    let both = and_both (is_built_section x) (list_all is_built_section xs) built in
    all_append (λ e. is_boolean e ≡ true) (obligations_in x) (flat_map obligations_in xs) (section_boolean x both.0) (sections_boolean xs both.1)

pub built_boolean : (m : HllModel) → is_built m ≡ true → AllByRecursion (λ e. is_boolean e ≡ true) (obligations m)
built_boolean m built = sections_boolean m.sections built
