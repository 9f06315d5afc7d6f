-- What stands in brackets or not at all, and what may follow a comma.
use Rattle.std.proofs.Common.{◌≡◌, ℕ, ℤ, Bool, true, false, List, [], ◌∷◌, Option, Some, None, Result, Ok, Err, refl, sym, ◌∙◌, ap, subst}
use Rattle.hll_lexer.specs.declared.token.Mark.TheVariants as mark
use Rattle.hll_lexer.specs.declared.token.Token.{Token}
use Rattle.hll_lexer.specs.declared.token.TokenKind.TheVariants as kind
use Rattle.hll_tree.specs.declared.tree.Expr.{Expr}
use Rattle.hll_tree.specs.declared.tree.Slot.{Slot}
use Rattle.hll_tree.specs.declared.tree.Slot.TheVariants as slot
use Rattle.hll_tree.specs.Prefixes.{begin_of}
use Rattle.hll_tree.specs.Spells.{AreDims, IsSlot, Listed, IsConstant, IsTypeItem, IsDecl, IsDefinition, IsExpression, Items, dims_of}
use Rattle.hll_grammar.specs.Lookahead.{a_number, marks_of, nothing, after_declarator, after_expression, list_goes_on, begins_constant, begins_type_item, begins_type, begins_definition, begins_expression, mark_number, word_number}
use Rattle.hll_grammar.specs.Pieces.{AreDimsInBrackets, AreSlots, AreSlotsInBrackets, IsAfterComma, IsNextValue, IsMemory, IsFixed}
use Rattle.hll_grammar.specs.Reading.{IsRead, Fails, Reads, Stops}
use Rattle.hll_grammar.specs.declared.fault.SyntaxFault.{SyntaxFault}
use Rattle.hll_grammar.specs.declared.fault.SyntaxFault.TheVariants.{Unexpected}
use Rattle.hll_grammar.proofs.Combined.{resized, made_part, then_part, perhaps_part, items_part, listed_part}
use Rattle.hll_grammar.proofs.Fronts.{begins_covered}
use Rattle.hll_grammar.proofs.Operations.{expression_part}
use Rattle.hll_grammar.proofs.Parts.{Begins, Part}
use Rattle.hll_grammar.proofs.Tokens.{fixed_slot_part}
use Rattle.hll_grammar.proofs.Readings.{refused, one_read, made_read, made_fails, perhaps_none, perhaps_read, perhaps_fails}
use Rattle.hll_grammar.proofs.Sections.{begins_slot, brackets_part, slots_part, perhaps_slots_part, next_part, enclosed_side_part, assigned_part, constant_part, type_item_part, decl_part, definition_part, slot_part}
use Rattle.hll_grammar.proofs.Sets.{apart, covers, covers_same, follows_end}

pub no_dims : (text : List ℕ) (old : List Token) → Stops (marks_of (mark.OpenBracket ∷ [])) old → IsRead AreDims after_declarator text 200 old old []
no_dims text old stops = made_read dims_of (perhaps_none brackets_part stops)

pub dims_answer : (text : List ℕ) (old new : List Token) (result : Result (List Expr) SyntaxFault) → Begins (marks_of (mark.OpenBracket ∷ [])) false old →
    Reads AreDimsInBrackets nothing text 200 old new result → Reads AreDims after_declarator text 200 old new result
unfolding mark_number word_number
dims_answer text old new (Ok xs) begins r = made_read dims_of (perhaps_read brackets_part (covers _ _ refl) (covers _ _ refl) r)
dims_answer text old new (Err fault) begins f = made_fails dims_of (perhaps_fails brackets_part (covers _ _ refl) begins f)

pub no_slots : (text : List ℕ) (old : List Token) → Stops (marks_of (mark.OpenBracket ∷ [])) old → IsRead AreSlots after_declarator text 200 old old []
no_slots text old stops = made_read dims_of (perhaps_none slots_part stops)

pub slots_answer : (text : List ℕ) (old new : List Token) (result : Result (List Slot) SyntaxFault) → Begins (marks_of (mark.OpenBracket ∷ [])) false old →
    Reads AreSlotsInBrackets nothing text 200 old new result → Reads AreSlots after_declarator text 200 old new result
unfolding mark_number word_number
slots_answer text old new (Ok xs) begins r = made_read dims_of (perhaps_read slots_part (covers _ _ refl) (covers _ _ refl) r)
slots_answer text old new (Err fault) begins f = made_fails dims_of (perhaps_fails slots_part (covers _ _ refl) begins f)

pub are_slots_part : Part AreSlots (marks_of (mark.OpenBracket ∷ [])) true after_declarator
are_slots_part = made_part dims_of perhaps_slots_part

pub slot_list_part : Part (λ s. Listed (IsSlot s)) begins_slot false (list_goes_on nothing)
unfolding mark_number word_number
slot_list_part = listed_part slot_part (apart _ _ refl)

pub next_value_part : Part IsNextValue (marks_of (mark.Comma ∷ [])) true (list_goes_on after_expression)
unfolding mark_number word_number
next_value_part = resized (covers _ _ refl) (covers _ _ refl) (perhaps_part next_part)

pub memory_part : Part IsMemory (marks_of (mark.Open ∷ [])) false after_expression
memory_part = then_part enclosed_side_part assigned_part (follows_end _ _ _)

-- ---- a comma and a further value

pub no_next : (text : List ℕ) (old : List Token) → Stops (marks_of (mark.Comma ∷ [])) old → IsRead IsNextValue (list_goes_on after_expression) text 200 old old None
no_next text old stops = perhaps_none next_part stops

module _ {text : List ℕ} {old : List Token} where
  pub next_read : {new : List Token} {x : Expr} → IsRead IsAfterComma after_expression text 200 old new x → IsRead IsNextValue (list_goes_on after_expression) text 200 old new (Some x)
  unfolding mark_number word_number
  next_read r = perhaps_read next_part (covers _ _ refl) (covers _ _ refl) r

  pub next_fails : {fault : SyntaxFault} → Begins (marks_of (mark.Comma ∷ [])) false old → Fails IsAfterComma after_expression text 200 old fault →
      Fails IsNextValue (list_goes_on after_expression) text 200 old fault
  unfolding mark_number word_number
  next_fails begins f = perhaps_fails next_part (covers _ _ refl) (begins_covered false (covers (list_goes_on after_expression) (marks_of (mark.Comma ∷ [])) refl) old begins) f

-- ---- the items of each section

pub constant_items_part : Part (λ s. Items (IsConstant s)) begins_constant true begins_constant
unfolding mark_number word_number
constant_items_part = resized (covers_same _) (covers _ _ refl) (items_part constant_part (apart _ _ refl))

pub type_items_part : Part (λ s. Items (IsTypeItem s)) begins_type_item true begins_type_item
unfolding mark_number word_number
type_items_part = resized (covers_same _) (covers _ _ refl) (items_part type_item_part (apart _ _ refl))

pub decl_items_part : Part (λ s. Items (IsDecl s)) begins_type true begins_type
unfolding mark_number word_number
decl_items_part = resized (covers_same _) (covers _ _ refl) (items_part decl_part (apart _ _ refl))

pub definition_items_part : Part (λ s. Items (IsDefinition s)) begins_definition true begins_definition
unfolding mark_number word_number
definition_items_part = resized (covers_same _) (covers _ _ refl) (items_part definition_part (apart _ _ refl))

pub expression_items_part : Part (λ s. Items (IsExpression s)) begins_expression true begins_expression
unfolding mark_number word_number
expression_items_part = resized (covers_same _) (covers _ _ refl) (items_part expression_part (apart _ _ refl))

-- ---- a number for one position

pub fixed_read : (text : List ℕ) (room : ℕ) (old new : List Token) (t token : Token) (n : ℤ) → old ≡ t ∷ new → t.kind ≡ kind.Number n → token ≡ t →
    IsRead IsFixed nothing text room old new (slot.Fixed token.from n)
fixed_read text room old new t token n parts is same =
    subst (λ us. IsRead IsFixed nothing text room us new (slot.Fixed token.from n)) (sym parts)
    (one_read (λ s t x. (n : ℤ) × (t.kind ≡ kind.Number n) × (x ≡ slot.Fixed t.from n)) fixed_slot_part text room t new (slot.Fixed token.from n)
    (n, is, ap (λ u. slot.Fixed u.from n) same))

pub fixed_refused : (text text' : List ℕ) (room : ℕ) (old new : List Token) (fault : SyntaxFault) → Stops a_number old → new ≡ old → text' ≡ text →
    fault ≡ Unexpected (begin_of text' new) → Fails IsFixed nothing text room old fault
fixed_refused text text' room old new fault stops rest same is =
    subst (λ f. Fails IsFixed nothing text room old f) (sym (is ∙ (λ i. Unexpected (begin_of (same i) (rest i))))) (refused fixed_slot_part text room old stops)
