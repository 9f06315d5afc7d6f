-- The parts of types, definitions, sections and whole models.
use Rattle.std.proofs.Common.{true, false, List, [], ◌∷◌, refl}
use Rattle.hll_lexer.specs.declared.token.Mark.TheVariants as mark
use Rattle.hll_lexer.specs.declared.token.Reserved.{Reserved}
use Rattle.hll_lexer.specs.declared.token.Reserved.TheVariants as reserved
use Rattle.hll_tree.specs.declared.tree.Expr.{Expr}
use Rattle.hll_tree.specs.declared.tree.Part.{Part as DefPart}
use Rattle.hll_tree.specs.declared.tree.Part.TheVariants as def
use Rattle.hll_tree.specs.declared.tree.Section.{Section}
use Rattle.hll_tree.specs.declared.tree.Section.TheVariants as section
use Rattle.hll_tree.specs.declared.tree.Slot.TheVariants as slot
use Rattle.hll_tree.specs.declared.tree.TypeItem.TheVariants as item
use Rattle.hll_tree.specs.declared.tree.TypeText.TheVariants as ty
use Rattle.hll_tree.specs.Spells.{Then, Made, Perhaps, Marked, Worded, Behind, Before, Listed, Enclosed, dims_of, IsName, named, IsExpression, IsDigits, IsIntegers, IsType, AreDims, IsDeclarator, IsDecl, IsConstantKind, IsConstant, AreElements, IsMember, IsSort, IsTypeItem, IsSlot, IsLeftSide, part_of, IsPlainDefinition, IsMemoryDefinition, IsDefinition, IsSectionOf, IsSection, IsModel}
use Rattle.hll_grammar.specs.Lookahead.{Kinds, mark_number, word_number, nothing, a_name, words_of, marks_of, with, after_expression, after_declarator, list_goes_on, begins_expression, begins_type, begins_type_item, begins_constant, begins_definition, begins_section, after_section, anything}
use Rattle.hll_grammar.specs.Reading.{Form}
use Rattle.hll_grammar.proofs.Sets.{Apart, apart, covers, follows, ends_with, follows_end}
use Rattle.hll_grammar.proofs.Parts.{Part}
use Rattle.hll_grammar.proofs.Combined.{resized, then_part, made_part, behind_part, before_part, either_part, perhaps_part, many_part, marked_part, worded_part, listed_part, enclosed_part, items_part}
use Rattle.hll_grammar.proofs.Tokens.{name_part, number_part, fixed_slot_part}
use Rattle.hll_grammar.proofs.Forms.{parenthesised_part, expressions_part, bounds_part}
use Rattle.hll_grammar.proofs.Operations.{expression_part}

-- ---- types and declarations

abbrev pub begins_digits : Kinds
begins_digits = record { names = true; numbers = true; words = []; marks = mark.Open ∷ [] }

pub digits_part : Part IsDigits begins_digits false nothing
unfolding mark_number word_number
digits_part = resized (covers _ _ refl) (covers _ _ refl) (either_part number_part (either_part (made_part named name_part) parenthesised_part (apart _ _ refl)) (apart _ _ refl))

abbrev pub begins_integers : Kinds
begins_integers = record { names = false; numbers = false; words = reserved.Signed ∷ reserved.Unsigned ∷ []; marks = mark.OpenBracket ∷ [] }

-- `signed` or `unsigned`, and digits
pub digits_behind_part : (w : Reserved) → Part (λ s. Behind (Worded w) (IsDigits s)) (words_of (w ∷ [])) false nothing
digits_behind_part w = behind_part (worded_part w) digits_part (follows_end _ _ _)

pub integers_part : Part IsIntegers begins_integers false nothing
unfolding mark_number word_number
integers_part = resized (covers _ _ refl) (covers _ _ refl)
    (either_part (made_part (λ x. ty.Bounds x.0 x.1) bounds_part)
    (either_part (made_part ty.Signed (digits_behind_part reserved.Signed)) (made_part ty.Unsigned (digits_behind_part reserved.Unsigned)) (apart _ _ refl)) (apart _ _ refl))

pub type_part : Part IsType begins_type false nothing
unfolding mark_number word_number
type_part = resized (covers _ _ refl) (covers _ _ refl)
    (either_part (made_part (λ t. ty.Bool) (worded_part reserved.Bool))
    (either_part (made_part ty.Named name_part) (behind_part (worded_part reserved.Int) integers_part (follows_end _ _ _)) (apart _ _ refl)) (apart _ _ refl))

-- dimensions in brackets
pub brackets_part : Part (λ s. Enclosed s mark.OpenBracket mark.CloseBracket (Listed s.expression)) (marks_of (mark.OpenBracket ∷ [])) false nothing
unfolding mark_number word_number
brackets_part = enclosed_part expressions_part mark.OpenBracket mark.CloseBracket (apart _ _ refl)

pub dims_part : Part AreDims (marks_of (mark.OpenBracket ∷ [])) true after_declarator
unfolding mark_number word_number
dims_part = made_part dims_of (resized (covers _ _ refl) (covers _ _ refl) (perhaps_part brackets_part))

pub declarator_part : Part IsDeclarator a_name false after_declarator
declarator_part = made_part (λ x. record { name = x.0; dims = x.1 }) (then_part name_part dims_part (follows_end _ _ _))

pub declarators_part : Part (λ s. Listed (IsDeclarator s)) a_name false (list_goes_on after_declarator)
unfolding mark_number word_number
declarators_part = listed_part declarator_part (apart _ _ refl)

pub decl_part : Part IsDecl begins_type false (list_goes_on after_declarator)
decl_part = made_part (λ x. record { ty = x.0; names = x.1 }) (then_part type_part declarators_part (follows_end _ _ _))

pub constant_kind_part : Part (λ s. IsConstantKind) begins_constant false nothing
unfolding mark_number word_number
constant_kind_part = resized (covers _ _ refl) (covers _ _ refl)
    (either_part (made_part (λ t. true) (worded_part reserved.Bool)) (made_part (λ t. false) (worded_part reserved.Int)) (apart _ _ refl))

-- `:=` and an expression
pub assigned_part : Part (λ s. Behind (Marked mark.Assign) (IsExpression s)) (marks_of (mark.Assign ∷ [])) false after_expression
assigned_part = behind_part (marked_part mark.Assign) expression_part (follows_end _ _ _)

pub constant_part : Part IsConstant begins_constant false after_expression
constant_part = made_part (λ x. record { boolean = x.0; name = x.1.0; value = x.1.1 })
    (then_part constant_kind_part (then_part name_part assigned_part (follows_end _ _ _)) (follows_end _ _ _))

pub names_part : Part (λ s. Listed (IsName s)) a_name false (list_goes_on nothing)
unfolding mark_number word_number
names_part = listed_part name_part (apart _ _ refl)

pub elements_part : Part AreElements (marks_of (mark.OpenBrace ∷ [])) false nothing
unfolding mark_number word_number
elements_part = behind_part (marked_part mark.OpenBrace) (before_part names_part (marked_part mark.CloseBrace) (ends_with nothing (apart _ _ refl))) (follows_end _ _ _)

pub member_part : Part IsMember a_name false after_declarator
member_part = made_part (λ x. record { ty = x.1.0; of = record { name = x.0; dims = x.1.1 } })
    (then_part name_part (behind_part (marked_part mark.Colon) (then_part type_part dims_part (follows_end _ _ _)) (follows_end _ _ _)) (follows_end _ _ _))

pub member_list_part : Part (λ s. Listed (IsMember s)) a_name false (list_goes_on after_declarator)
unfolding mark_number word_number
member_list_part = listed_part member_part (apart _ _ refl)

-- the members of a struct, in braces
pub members_part : Part (λ s. Behind (Marked mark.OpenBrace) (Before (Listed (IsMember s)) (Marked mark.CloseBrace))) (marks_of (mark.OpenBrace ∷ [])) false nothing
unfolding mark_number word_number
members_part = behind_part (marked_part mark.OpenBrace)
    (before_part (listed_part member_part (apart _ _ refl)) (marked_part mark.CloseBrace) (ends_with nothing (apart _ _ refl))) (follows_end _ _ _)

abbrev pub begins_sort : Kinds
begins_sort = record { names = true; numbers = false; words = []; marks = mark.OpenBrace ∷ [] }

-- `<` and a name
pub less_name_part : Part (λ s. Behind (Marked mark.Less) (IsName s)) (marks_of (mark.Less ∷ [])) false nothing
less_name_part = behind_part (marked_part mark.Less) name_part (follows_end _ _ _)

pub sort_part : Part IsSort begins_sort false nothing
unfolding mark_number word_number
sort_part = resized (covers _ _ refl) (covers _ _ refl)
    (either_part (made_part (λ x. item.Leaves x.0 x.1) (then_part elements_part name_part (follows_end _ _ _)))
    (made_part (λ x. item.Children x.0 x.1) (then_part names_part less_name_part (ends_with nothing (apart _ _ refl)))) (apart _ _ refl))

pub alias_part : Part (λ s. Made (λ x. item.Alias x.0 x.1) (Then (IsType s) (IsDeclarator s))) begins_type false after_declarator
alias_part = made_part (λ x. item.Alias x.0 x.1) (then_part type_part declarator_part (follows_end _ _ _))

pub enumeration_part : Part (λ s. Made (λ x. item.Enumeration x.0 x.1) (Behind (Worded reserved.Enum) (Then (AreElements s) (IsName s)))) (words_of (reserved.Enum ∷ [])) false nothing
enumeration_part = made_part (λ x. item.Enumeration x.0 x.1) (behind_part (worded_part reserved.Enum) (then_part elements_part name_part (follows_end _ _ _)) (follows_end _ _ _))

pub structure_part : Part (λ s. Made (λ x. item.Structure x.0 x.1)
    (Behind (Worded reserved.Struct) (Then (Behind (Marked mark.OpenBrace) (Before (Listed (IsMember s)) (Marked mark.CloseBrace))) (IsName s)))) (words_of (reserved.Struct ∷ [])) false nothing
structure_part = made_part (λ x. item.Structure x.0 x.1) (behind_part (worded_part reserved.Struct) (then_part members_part name_part (follows_end _ _ _)) (follows_end _ _ _))

pub sort_item_part : Part (λ s. Behind (Worded reserved.Sort) (IsSort s)) (words_of (reserved.Sort ∷ [])) false nothing
sort_item_part = behind_part (worded_part reserved.Sort) sort_part (follows_end _ _ _)

pub type_item_part : Part IsTypeItem begins_type_item false after_declarator
unfolding mark_number word_number
type_item_part = resized (covers _ _ refl) (covers _ _ refl)
    (either_part alias_part (either_part enumeration_part (either_part structure_part sort_item_part (apart _ _ refl)) (apart _ _ refl)) (apart _ _ refl))

-- ---- definitions

abbrev pub begins_slot : Kinds
begins_slot = record { names = true; numbers = true; words = []; marks = [] }

pub slot_part : Part IsSlot begins_slot false nothing
unfolding mark_number word_number
slot_part = resized (covers _ _ refl) (covers _ _ refl) (either_part (made_part slot.Index name_part) fixed_slot_part (apart _ _ refl))

-- slots in brackets
pub slots_part : Part (λ s. Behind (Marked mark.OpenBracket) (Before (Listed (IsSlot s)) (Marked mark.CloseBracket))) (marks_of (mark.OpenBracket ∷ [])) false nothing
unfolding mark_number word_number
slots_part = behind_part (marked_part mark.OpenBracket)
    (before_part (listed_part slot_part (apart _ _ refl)) (marked_part mark.CloseBracket) (ends_with nothing (apart _ _ refl))) (follows_end _ _ _)

pub perhaps_slots_part : Part (λ s. Perhaps (Behind (Marked mark.OpenBracket) (Before (Listed (IsSlot s)) (Marked mark.CloseBracket)))) (marks_of (mark.OpenBracket ∷ [])) true after_declarator
unfolding mark_number word_number
perhaps_slots_part = resized (covers _ _ refl) (covers _ _ refl) (perhaps_part slots_part)

pub left_side_part : Part IsLeftSide a_name false after_declarator
left_side_part = made_part (λ x. (x.0, dims_of x.1)) (then_part name_part perhaps_slots_part (follows_end _ _ _))

-- a comma and a whole expression
pub next_part : Part (λ s. Behind (Marked mark.Comma) (IsExpression s)) (marks_of (mark.Comma ∷ [])) false after_expression
next_part = behind_part (marked_part mark.Comma) expression_part (follows_end _ _ _)

pub given_part : Part (λ s. Made part_of (Then (IsExpression s) (Perhaps (Behind (Marked mark.Comma) (IsExpression s))))) begins_expression false (list_goes_on after_expression)
unfolding mark_number word_number
given_part = made_part part_of (then_part expression_part (perhaps_part next_part) (follows _ _ _ _ _ refl))

pub plain_definition_part : Part IsPlainDefinition a_name false (list_goes_on after_expression)
unfolding mark_number word_number
plain_definition_part = made_part (λ x. record { at = x.0.0.at; name = x.0.0; indices = x.0.1; part = x.1 })
    (then_part left_side_part (behind_part (marked_part mark.Assign) given_part (follows_end _ _ _)) (ends_with _ (apart _ _ refl)))

-- a left side in parentheses
pub enclosed_side_part : Part (λ s. Behind (Marked mark.Open) (Before (IsLeftSide s) (Marked mark.Close))) (marks_of (mark.Open ∷ [])) false nothing
unfolding mark_number word_number
enclosed_side_part = behind_part (marked_part mark.Open) (before_part left_side_part (marked_part mark.Close) (ends_with nothing (apart _ _ refl))) (follows_end _ _ _)

pub memory_definition_part : (w : Reserved) (made : Expr → DefPart) → Part (λ s. IsMemoryDefinition s w made) (words_of (w ∷ [])) false after_expression
memory_definition_part w made = made_part (λ x. record { at = x.0.from; name = x.1.0.0; indices = x.1.0.1; part = made x.1.1 })
    (then_part (worded_part w) (then_part enclosed_side_part assigned_part (follows_end _ _ _)) (follows_end _ _ _))

pub definition_part : Part IsDefinition begins_definition false (list_goes_on after_expression)
unfolding mark_number word_number
definition_part = resized (covers _ _ refl) (covers _ _ refl)
    (either_part plain_definition_part (either_part (memory_definition_part reserved.First def.First) (memory_definition_part reserved.Next def.Next) (apart _ _ refl)) (apart _ _ refl))

-- ---- sections

pub section_of_part : {A : Type 0} {P : Form A} {k g : Kinds} (w : Reserved) (made : List A → Section) → Part P k false g → Apart g (marks_of (mark.Semicolon ∷ [])) →
    Part (λ s. IsSectionOf w made (P s)) (words_of (w ∷ [])) false (with k nothing)
section_of_part w made p apart =
    behind_part (worded_part w) (behind_part (marked_part mark.Colon) (made_part made (items_part p apart)) (follows_end _ _ _)) (follows_end _ _ _)

-- the obligations, behind `Proof`
pub obligations_part : Part (λ s. Behind (Worded reserved.Proof) (IsSectionOf reserved.Obligations section.Obligations (IsExpression s)))
    (words_of (reserved.Proof ∷ [])) false (with begins_expression nothing)
unfolding mark_number word_number
obligations_part = behind_part (worded_part reserved.Proof) (section_of_part reserved.Obligations section.Obligations expression_part (apart _ _ refl)) (follows_end _ _ _)

pub section_part : Part IsSection begins_section false after_section
unfolding mark_number word_number
section_part = resized (covers _ _ refl) (covers _ _ refl)
    (either_part (section_of_part reserved.Constants section.Constants constant_part (apart _ _ refl))
    (either_part (section_of_part reserved.Types section.Types type_item_part (apart _ _ refl))
    (either_part (section_of_part reserved.Inputs section.Inputs decl_part (apart _ _ refl))
    (either_part (section_of_part reserved.Declarations section.Declarations decl_part (apart _ _ refl))
    (either_part (section_of_part reserved.Definitions section.Definitions definition_part (apart _ _ refl))
    (either_part (section_of_part reserved.Constraints section.Constraints expression_part (apart _ _ refl)) obligations_part
    (apart _ _ refl)) (apart _ _ refl)) (apart _ _ refl)) (apart _ _ refl)) (apart _ _ refl)) (apart _ _ refl))

pub model_part : Part IsModel begins_section true anything
unfolding mark_number word_number
model_part = made_part (λ x. record { sections = x }) (resized (covers _ _ refl) (covers _ _ refl) (many_part section_part (apart _ _ refl)))
