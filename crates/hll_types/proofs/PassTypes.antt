-- The type items that pass 1 has met are those of the text.
use Rattle.std.proofs.Common.{◌≡◌, ℕ, List, [], ◌∷◌, ◌++◌, map, fold, refl, sym, ap, ◌∙◌, append_assoc}
use Rattle.std.specs.List.{flat_map}
use Rattle.std.proofs.lemmas.List.{append-nil}
use Rattle.std.proofs.lemmas.Grind.{flat_map-append}
use Rattle.hll_tree.specs.declared.tree.Decl.{Decl}
use Rattle.hll_tree.specs.declared.tree.ConstItem.{ConstItem}
use Rattle.hll_tree.specs.declared.tree.TypeItem.{TypeItem}
use Rattle.hll_tree.specs.declared.tree.Section.{Section}
use Rattle.hll_tree.specs.declared.tree.Section.TheVariants as section
use Rattle.hll_tree.specs.declared.tree.HllModel.{HllModel}
use Rattle.hll_meaning.specs.Declarations.{Item, a_constant, a_type, variables_of, items_in, items, type_items_in, type_items}
use Rattle.hll_meaning.specs.StaticRules.{Pass1, types_of_item, pass1_item, pass1, early}

-- items add their types behind
pub types_after : (further : List (List ℕ)) (its : List Item) (p : Pass1) → (fold (pass1_item further) p its).types ≡ p.types ++ flat_map types_of_item its
types_after further [] p = sym (append-nil p.types)
types_after further (it ∷ its) p = types_after further its (pass1_item further p it) ∙ append_assoc p.types (types_of_item it) (flat_map types_of_item its)

constants_none : (xs : List ConstItem) → flat_map types_of_item (map a_constant xs) ≡ []
constants_none [] = refl
constants_none (x ∷ xs) = constants_none xs

types_all : (xs : List TypeItem) → flat_map types_of_item (map a_type xs) ≡ xs
types_all [] = refl
types_all (x ∷ xs) = ap (λ ys. x ∷ ys) (types_all xs)

variables_none : (input : _) (xs : List Decl) → flat_map types_of_item (map (variables_of input) xs) ≡ []
variables_none input [] = refl
variables_none input (x ∷ xs) = variables_none input xs

-- the type items of a section
pub types_of_section : (s : Section) → flat_map types_of_item (items_in s) ≡ type_items_in s
types_of_section (section.Constants xs) = constants_none xs
types_of_section (section.Types xs) = types_all xs
types_of_section (section.Inputs xs) = variables_none _ xs
types_of_section (section.Declarations xs) = variables_none _ xs
types_of_section (section.Definitions xs) = refl
types_of_section (section.Constraints xs) = refl
types_of_section (section.Obligations xs) = refl

types_of_sections : (sections : List Section) → flat_map types_of_item (flat_map items_in sections) ≡ flat_map type_items_in sections
types_of_sections [] = refl
types_of_sections (s ∷ sections) =
    flat_map-append types_of_item (items_in s) (flat_map items_in sections)
    ∙ ap (λ ts. ts ++ flat_map types_of_item (flat_map items_in sections)) (types_of_section s)
    ∙ ap (λ ts. type_items_in s ++ ts) (types_of_sections sections)

-- the type items of a text
pub types_of_pass : (m : HllModel) → (pass1 m).types ≡ type_items m
types_of_pass m = types_after (early m) (items m) (record { names = []; types = []; cells = 0; faults = [] }) ∙ types_of_sections m.sections
