-- What a spelled text has in its type items: elements or children, each with a name that can be printed.
use Rattle.std.proofs.Common.{◌≡◌, ℕ, zero, suc, List, [], ◌∷◌, map, refl}
use Rattle.std.specs.List.{AllByRecursion, flat_map}
use Rattle.hll_lexer.specs.declared.token.Reserved.{Reserved}
use Rattle.hll_lexer.specs.declared.token.Reserved.TheVariants as reserved
use Rattle.hll_tree.specs.declared.tree.ConstItem.{ConstItem}
use Rattle.hll_tree.specs.declared.tree.Decl.{Decl}
use Rattle.hll_tree.specs.declared.tree.HllModel.{HllModel}
use Rattle.hll_tree.specs.declared.tree.Section.{Section}
use Rattle.hll_tree.specs.declared.tree.Section.TheVariants as section
use Rattle.hll_tree.specs.declared.tree.TypeItem.{TypeItem}
use Rattle.hll_tree.specs.declared.tree.TypeItem.TheVariants as item
use Rattle.hll_tree.specs.Printing.{Text}
use Rattle.hll_tree.specs.Spells.{Limit, Scope, scope, Spelling, AreElements, IsSort, IsTypeItem, IsSectionOf, IsSection, IsModel}
use Rattle.hll_tree.proofs.FineTokens.{tokens_fine}
use Rattle.hll_tree.proofs.GivenExpressions.{IsNamed, gives_name}
use Rattle.hll_tree.proofs.Gives.{Gives, Several, all_append, gives_before, gives_behind, gives_either, gives_listed, gives_made, gives_many, gives_then}
use Rattle.hll_meaning.specs.Declarations.{Item, a_constant, a_type, variables_of, items, items_in}
use Rattle.hll_meaning.specs.Texts.{HasText}

-- an enumeration and a sort have elements or children, with names that can be printed
abbrev pub IsSpelledType : TypeItem → Type 0
IsSpelledType (item.Alias ty d) = Unit {0}
IsSpelledType (item.Enumeration es n) = Several IsNamed es
IsSpelledType (item.Structure fields n) = Unit {0}
IsSpelledType (item.Leaves es n) = Several IsNamed es
IsSpelledType (item.Children children n) = Several IsNamed children

abbrev IsSpelledSection : Section → Type 0
IsSpelledSection (section.Constants items) = Unit {0}
IsSpelledSection (section.Types items) = AllByRecursion IsSpelledType items
IsSpelledSection (section.Inputs decls) = Unit {0}
IsSpelledSection (section.Declarations decls) = Unit {0}
IsSpelledSection (section.Definitions defs) = Unit {0}
IsSpelledSection (section.Constraints es) = Unit {0}
IsSpelledSection (section.Obligations es) = Unit {0}

abbrev pub IsSpelledItem : Item → Type 0
IsSpelledItem (a_constant k) = Unit {0}
IsSpelledItem (a_type t) = IsSpelledType t
IsSpelledItem (variables_of input decl) = Unit {0}

-- ---- what tokens give

module _ (src : Text) (s : Scope) (same : s.text ≡ src) where
  gives_nothing : {A : Type 0} (P : Spelling A) → Gives src P (λ x. Unit {0})
  gives_nothing P ts x h is = tt

  gives_elements : Gives src (AreElements s) (Several IsNamed)
  gives_elements = gives_behind src _ (gives_before src _ (gives_listed src (gives_name src s same)))

  gives_sort : Gives src (IsSort s) IsSpelledType
  gives_sort =
      gives_either src (gives_made src IsSpelledType (λ x. item.Leaves x.0 x.1) (λ x r. r.0) (gives_then src gives_elements (gives_name src s same)))
      (gives_made src IsSpelledType (λ x. item.Children x.0 x.1) (λ x r. r.0) (gives_then src (gives_listed src (gives_name src s same)) (gives_behind src _ (gives_name src s same))))

  gives_type_item : Gives src (IsTypeItem s) IsSpelledType
  gives_type_item =
      gives_either src (gives_made src IsSpelledType (λ x. item.Alias x.0 x.1) (λ x r. tt) (gives_nothing _))
      (gives_either src (gives_made src IsSpelledType (λ x. item.Enumeration x.0 x.1) (λ x r. r.0) (gives_behind src _ (gives_then src gives_elements (gives_name src s same))))
      (gives_either src (gives_made src IsSpelledType (λ x. item.Structure x.0 x.1) (λ x r. tt) (gives_nothing _))
      (gives_behind src _ gives_sort)))

  gives_section_of : {X : Type 0} {P : Spelling X} (w : Reserved) (made : List X → Section) (C : X → Type 0) → ((xs : List X) → AllByRecursion C xs → IsSpelledSection (made xs)) → Gives src P C → Gives src (IsSectionOf w made P) IsSpelledSection
  gives_section_of w made C so each = gives_behind src _ (gives_behind src _ (gives_made src IsSpelledSection made so (gives_many src (gives_before src _ each))))

  gives_section : Gives src (IsSection s) IsSpelledSection
  gives_section =
      gives_either src (gives_section_of reserved.Constants section.Constants (λ x. Unit {0}) (λ xs r. tt) (gives_nothing _))
      (gives_either src (gives_section_of reserved.Types section.Types IsSpelledType (λ xs r. r) gives_type_item)
      (gives_either src (gives_section_of reserved.Inputs section.Inputs (λ x. Unit {0}) (λ xs r. tt) (gives_nothing _))
      (gives_either src (gives_section_of reserved.Declarations section.Declarations (λ x. Unit {0}) (λ xs r. tt) (gives_nothing _))
      (gives_either src (gives_section_of reserved.Definitions section.Definitions (λ x. Unit {0}) (λ xs r. tt) (gives_nothing _))
      (gives_either src (gives_section_of reserved.Constraints section.Constraints (λ x. Unit {0}) (λ xs r. tt) (gives_nothing _))
      (gives_behind src _ (gives_section_of reserved.Obligations section.Obligations (λ x. Unit {0}) (λ xs r. tt) (gives_nothing _))))))))

  gives_model : Gives src (IsModel s) (λ m. AllByRecursion IsSpelledSection m.sections)
  gives_model = gives_made src (λ m. AllByRecursion IsSpelledSection m.sections) (λ x. record { sections = x }) (λ x r. r) (gives_many src gives_section)

-- the outermost scope is one of the text
scope_text : (text : List ℕ) (limit : Limit) (room : ℕ) → (scope text limit room 0).text ≡ text
unfolding scope
scope_text text limit zero = refl
scope_text text limit (suc room) = refl

-- ---- items

types_spelled : (ts : List TypeItem) → AllByRecursion IsSpelledType ts → AllByRecursion IsSpelledItem (map a_type ts)
types_spelled [] h = tt
types_spelled (t ∷ ts) h = (h.0, types_spelled ts h.1)

constants_spelled : (ks : List ConstItem) → AllByRecursion IsSpelledItem (map a_constant ks)
constants_spelled [] = tt
constants_spelled (k ∷ ks) = (tt, constants_spelled ks)

variables_spelled : (input : _) (decls : List Decl) → AllByRecursion IsSpelledItem (map (variables_of input) decls)
variables_spelled input [] = tt
variables_spelled input (d ∷ decls) = (tt, variables_spelled input decls)

section_spelled : (s : Section) → IsSpelledSection s → AllByRecursion IsSpelledItem (items_in s)
section_spelled (section.Constants ks) h = constants_spelled ks
section_spelled (section.Types ts) h = types_spelled ts h
section_spelled (section.Inputs decls) h = variables_spelled _ decls
section_spelled (section.Declarations decls) h = variables_spelled _ decls
section_spelled (section.Definitions defs) h = tt
section_spelled (section.Constraints es) h = tt
section_spelled (section.Obligations es) h = tt

sections_spelled : (ss : List Section) → AllByRecursion IsSpelledSection ss → AllByRecursion IsSpelledItem (flat_map items_in ss)
sections_spelled [] h = tt
sections_spelled (s ∷ ss) h = all_append IsSpelledItem (items_in s) (flat_map items_in ss) (section_spelled s h.0) (sections_spelled ss h.1)

-- the items of a model that has a text
pub items_spelled : (m : HllModel) → HasText m → AllByRecursion IsSpelledItem (items m)
items_spelled m h =
    let s = scope h.text h.limit h.spelled.0 0 in
    sections_spelled m.sections (gives_model h.text s (scope_text h.text h.limit h.spelled.0) h.tokens m (tokens_fine h.text h.tokens h.split) h.spelled.1)
