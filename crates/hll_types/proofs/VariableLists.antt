-- The variables of a text, where they are declared and among its names.
use Rattle.std.proofs.Common.{◌≡◌, ℕ, ◌+◌, ◌<◌, false, Bool, true, List, [], ◌∷◌, ◌++◌, map, fold, length, take, drop, get_or, refl, sym, ap, subst, ◌∙◌, append_assoc}
use Rattle.std.specs.List.{AllByRecursion, IsDistinct, flat_map}
use Rattle.std.specs.Str.{bytes_eq}
use Rattle.std.proofs.lemmas.Grind.{flat_map-append}
use Rattle.std.proofs.lemmas.List.{append-nil, length-map, map-append, take_more, take-append-drop}
use Rattle.std.proofs.lemmas.Simd.{map-map}
use Rattle.hll_tree.specs.declared.tree.ConstItem.{ConstItem}
use Rattle.hll_tree.specs.declared.tree.Decl.{Decl}
use Rattle.hll_tree.specs.declared.tree.Declarator.{Declarator}
use Rattle.hll_tree.specs.declared.tree.HllModel.{HllModel}
use Rattle.hll_tree.specs.declared.tree.Name.{Name}
use Rattle.hll_tree.specs.declared.tree.Section.{Section}
use Rattle.hll_tree.specs.declared.tree.Section.TheVariants as section
use Rattle.hll_tree.specs.declared.tree.TypeItem.{TypeItem}
use Rattle.hll_tree.specs.declared.tree.TypeItem.TheVariants as item
use Rattle.hll_meaning.specs.Kinds.{Kind}
use Rattle.hll_meaning.specs.Names.{constant, type_of, code_in, variable, later, Names}
use Rattle.hll_meaning.specs.Declarations.{Item, a_constant, a_type, variables_of, items_in, items, type_items, is_among, coded, sort_kind, root_of, code_of, declared_kind, declared_by, with_item}
use Rattle.hll_meaning.specs.Runs.{variables_among, variables}
use Rattle.hll_types.specs.Checked.{names_declared, variables_in, variable_names}
use Rattle.hll_types.proofs.Apart.{AreApart, apart_distinct, front_apart}

-- ---- lists

pub mapped_each : {A B C : Type 0} (g : B → C) (f : A → List B) (xs : List A) → map g (flat_map f xs) ≡ flat_map (λ x. map g (f x)) xs
mapped_each g f [] = refl
mapped_each g f (x ∷ xs) = map-append g (f x) (flat_map f xs) ∙ ap (λ ys. map g (f x) ++ ys) (mapped_each g f xs)

-- the next one of some that come one after the other
pub next_behind : {A : Type 0} (old new x more all : List A) → new ≡ old ++ x → old ++ (x ++ more) ≡ all → new ++ more ≡ all
next_behind old new x more all is h = ap (λ xs. xs ++ more) is ∙ append_assoc old x more ∙ h

-- ---- where they are declared

-- the places of the names of declarations
pub places_declared : (decls : List Decl) → flat_map (λ decl. map (λ d. d.name.at) decl.names) decls ≡ map (λ n. n.at) (names_declared decls)
places_declared [] = refl
places_declared (decl ∷ decls) =
    (λ i. sym (map-map (λ (n : Name). n.at) (λ (d : Declarator). d.name) decl.names) i ++ places_declared decls i)
    ∙ sym (map-append (λ (n : Name). n.at) (map (λ d. d.name) decl.names) (names_declared decls))

-- ---- among names

-- the names of the variables that an item declares
abbrev pub names_of_item : Item → List (List ℕ)
names_of_item (a_constant c) = []
names_of_item (a_type t) = []
names_of_item (variables_of input decl) = map (λ d. d.name.text) decl.names

-- the names of the variables among names
abbrev pub names_among : Names → List (List ℕ)
names_among xs = map (λ x. x.0) (variables_among xs)

among_both : (xs ys : Names) → names_among (xs ++ ys) ≡ names_among xs ++ names_among ys
among_both xs ys =
    ap (map (λ (x : List ℕ × Kind). x.0)) (flat_map-append _ xs ys) ∙ map-append (λ (x : List ℕ × Kind). x.0) (variables_among xs) (variables_among ys)

none_coded : (root : List ℕ) (code : Name → ℕ) (es : List Name) → names_among (map (λ e. (e.text, code_in root (code e))) es) ≡ []
none_coded root code [] = refl
none_coded root code (e ∷ es) = none_coded root code es

with_type : (all : List TypeItem) (n : Name) (es : List Name) (k : Kind) → names_among (coded all n.text es ++ ((n.text, type_of k) ∷ [])) ≡ []
with_type all n es k =
    among_both (coded all n.text es) ((n.text, type_of k) ∷ [])
    ∙ ap (λ xs. xs ++ []) (none_coded (root_of all n.text) (λ e. code_of all (root_of all n.text) e.text) es)

declared_alone : (input : Bool) (kind : Declarator → Kind) (ds : List Declarator) → names_among (map (λ d. (d.name.text, variable input (kind d))) ds) ≡ map (λ d. d.name.text) ds
declared_alone input kind [] = refl
declared_alone input kind (d ∷ ds) = ap (λ xs. d.name.text ∷ xs) (declared_alone input kind ds)

item_names : (all : List TypeItem) (before : Names) (it : Item) → names_among (declared_by all before it) ≡ names_of_item it
item_names all before (a_constant c) = refl
item_names all before (a_type (item.Alias ty d)) = refl
item_names all before (a_type (item.Enumeration es n)) = with_type all n es (sort_kind all n.text)
item_names all before (a_type (item.Structure fields n)) = refl
item_names all before (a_type (item.Leaves es n)) = with_type all n es (sort_kind all n.text)
item_names all before (a_type (item.Children children n)) = refl
item_names all before (variables_of input decl) = declared_alone input (declared_kind before decl.ty) decl.names

fold_names : (all : List TypeItem) (before : Names) (its : List Item) → names_among (fold (with_item all) before its) ≡ names_among before ++ flat_map names_of_item its
fold_names all before [] = sym (append-nil (names_among before))
fold_names all before (it ∷ its) =
    fold_names all (before ++ declared_by all before it) its
    ∙ ap (λ xs. xs ++ flat_map names_of_item its) (among_both before (declared_by all before it) ∙ ap (λ xs. names_among before ++ xs) (item_names all before it))
    ∙ append_assoc (names_among before) (names_of_item it) (flat_map names_of_item its)

-- the names of the variables of a section
no_constants : (cs : List ConstItem) → flat_map names_of_item (map a_constant cs) ≡ []
no_constants [] = refl
no_constants (c ∷ cs) = no_constants cs

no_types : (ts : List TypeItem) → flat_map names_of_item (map a_type ts) ≡ []
no_types [] = refl
no_types (t ∷ ts) = no_types ts

declared_together : (input : Bool) (decls : List Decl) → flat_map names_of_item (map (variables_of input) decls) ≡ map (λ n. n.text) (names_declared decls)
declared_together input [] = refl
declared_together input (decl ∷ decls) =
    (λ i. sym (map-map (λ (n : Name). n.text) (λ (d : Declarator). d.name) decl.names) i ++ declared_together input decls i)
    ∙ sym (map-append (λ (n : Name). n.text) (map (λ d. d.name) decl.names) (names_declared decls))

section_names : (s : Section) → flat_map names_of_item (items_in s) ≡ map (λ n. n.text) (variables_in s)
section_names (section.Constants cs) = no_constants cs
section_names (section.Types ts) = no_types ts
section_names (section.Inputs decls) = declared_together true decls
section_names (section.Declarations decls) = declared_together false decls
section_names (section.Definitions defs) = refl
section_names (section.Constraints es) = refl
section_names (section.Obligations es) = refl

sections_names : (ss : List Section) → flat_map names_of_item (flat_map items_in ss) ≡ map (λ n. n.text) (flat_map variables_in ss)
sections_names [] = refl
sections_names (s ∷ ss) =
    flat_map-append names_of_item (items_in s) (flat_map items_in ss)
    ∙ (λ i. section_names s i ++ sections_names ss i)
    ∙ sym (map-append (λ (n : Name). n.text) (variables_in s) (flat_map variables_in ss))

-- the variables of a text are those that are declared, in their order
pub variables_named : (m : HllModel) → map (λ x. x.0) (variables m) ≡ map (λ n. n.text) (variable_names m)
variables_named m = fold_names (type_items m) [] (items m) ∙ sections_names m.sections

pub as_many_variables : (m : HllModel) → length (variable_names m) ≡ length (variables m)
as_many_variables m =
    sym (length-map (variable_names m) (λ (n : Name). n.text)) ∙ ap length (sym (variables_named m)) ∙ length-map (variables m) (λ (x : List ℕ × Kind). x.0)

-- ---- each name once

other_variables : (n : List ℕ) (xs : Names) → AllByRecursion (λ y. bytes_eq n y ≡ false) (map (λ x. x.0) xs) → AllByRecursion (λ y. bytes_eq n y ≡ false) (names_among xs)
other_variables n [] h = tt
other_variables n ((own, constant b x) ∷ xs) h = other_variables n xs h.1
other_variables n ((own, type_of k) ∷ xs) h = other_variables n xs h.1
other_variables n ((own, code_in root c) ∷ xs) h = other_variables n xs h.1
other_variables n ((own, variable input k) ∷ xs) h = (h.0, other_variables n xs h.1)
other_variables n ((own, later) ∷ xs) h = other_variables n xs h.1

pub distinct_variables : (xs : Names) → IsDistinct bytes_eq (map (λ x. x.0) xs) → IsDistinct bytes_eq (names_among xs)
unfolding IsDistinct
distinct_variables [] h = tt
distinct_variables ((own, constant b x) ∷ xs) h = distinct_variables xs h.1
distinct_variables ((own, type_of k) ∷ xs) h = distinct_variables xs h.1
distinct_variables ((own, code_in root c) ∷ xs) h = distinct_variables xs h.1
distinct_variables ((own, variable input k) ∷ xs) h = (other_variables own xs h.0, distinct_variables xs h.1)
distinct_variables ((own, later) ∷ xs) h = distinct_variables xs h.1

-- a further one of several that differ goes last
pub noted_further : {A : Type 0} (f : A → List ℕ) (xs : List A) (i : ℕ) (x : A) (keys more : List (List ℕ)) → i < length xs → x ≡ get_or xs i x → IsDistinct bytes_eq (map f xs) →
    keys ≡ map f (take i xs) → (is_among keys (f x) ≡ false → more ≡ keys ++ f x ∷ []) → more ≡ map f (take (i + 1) xs)
noted_further f xs i x keys more h is distinct so noted =
    noted (ap (λ ks. is_among ks (f x)) so ∙ front_apart (map f (take i xs)) (f x) (map f (drop (i + 1) xs)) apart)
    ∙ ap (λ ks. ks ++ f x ∷ []) so
    ∙ sym (ap (map f) taken ∙ map-append f (take i xs) (x ∷ []))
  where
    taken : take (i + 1) xs ≡ take i xs ++ x ∷ []
    taken = take_more xs i x h ∙ ap (λ y. take i xs ++ y ∷ []) (sym is)

    split : map f xs ≡ map f (take i xs) ++ (f x ∷ map f (drop (i + 1) xs))
    split =
        ap (map f) (sym (take-append-drop (i + 1) xs) ∙ ap (λ ys. ys ++ drop (i + 1) xs) taken ∙ append_assoc (take i xs) (x ∷ []) (drop (i + 1) xs))
        ∙ map-append f (take i xs) (x ∷ drop (i + 1) xs)

    apart : AreApart (map f (take i xs) ++ (f x ∷ map f (drop (i + 1) xs)))
    apart = subst AreApart split (apart_distinct (map f xs) distinct)
