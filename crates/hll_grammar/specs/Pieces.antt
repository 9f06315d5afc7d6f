-- Pieces of the grammar's forms that are read by themselves.
use Rattle.std.specs.Prelude.{◌≡◌, ℤ, Bool, List, [], ◌∷◌, map, Option}
use Rattle.std.specs.List.{flat_map}
use Rattle.hll_lexer.specs.declared.token.Mark.TheVariants as mark
use Rattle.hll_lexer.specs.declared.token.Reserved.{Reserved}
use Rattle.hll_lexer.specs.declared.token.Reserved.TheVariants as reserved
use Rattle.hll_lexer.specs.declared.token.Token.{Token}
use Rattle.hll_lexer.specs.declared.token.TokenKind.TheVariants as kind
use Rattle.hll_tree.specs.declared.tree.Branch.{Branch}
use Rattle.hll_tree.specs.declared.tree.Domain.{Domain}
use Rattle.hll_tree.specs.declared.tree.Domain.TheVariants as domain
use Rattle.hll_tree.specs.declared.tree.Expr.{Expr}
use Rattle.hll_tree.specs.declared.tree.Quant.{Quant}
use Rattle.hll_tree.specs.declared.tree.Reach.{Reach}
use Rattle.hll_tree.specs.declared.tree.Reach.TheVariants as reach
use Rattle.hll_tree.specs.declared.tree.Field.{Field}
use Rattle.hll_tree.specs.declared.tree.Name.{Name}
use Rattle.hll_tree.specs.declared.tree.Part.{Part}
use Rattle.hll_tree.specs.declared.tree.Section.{Section}
use Rattle.hll_tree.specs.declared.tree.Section.TheVariants as section
use Rattle.hll_tree.specs.declared.tree.Slot.{Slot}
use Rattle.hll_tree.specs.declared.tree.Slot.TheVariants as slot
use Rattle.hll_tree.specs.declared.tree.TypeItem.{TypeItem}
use Rattle.hll_tree.specs.declared.tree.TypeItem.TheVariants as item
use Rattle.hll_tree.specs.declared.tree.TypeText.{TypeText}
use Rattle.hll_tree.specs.declared.tree.TypeText.TheVariants as ty
use Rattle.hll_tree.specs.Spells.{One, Then, Enclosed, Items, IsName, IsDigits, IsIntegers, IsType, IsDeclarator, IsMember, IsSort, AreElements, IsSlot, IsLeftSide, IsExpression, IsSectionOf, dims_of, part_of, Spelling, Scope, Made, Many, Either, Behind, Before, Marked, Worded, Perhaps, Listed, IsBranch, AreIndices, AreBounds, IsField, quantified}
use Rattle.hll_grammar.specs.Lookahead.{Kinds, with, words_of, marks_of, after_expression}

-- a branch for each `elif`
abbrev pub AreElifs : Scope → Spelling (List Branch)
AreElifs s = Many (Behind (Worded reserved.Elif) (IsBranch s))

-- with what they go on
abbrev pub after_elifs : Kinds
after_elifs = with (words_of (reserved.Elif ∷ [])) after_expression

-- one or more indices in one pair of brackets, or a field
abbrev pub IsReach : Scope → Spelling (List Reach)
IsReach s = Either (AreIndices s) (IsField s)

-- a comma and an expression inside a level, or nothing
abbrev pub IsFirstValue : Scope → Spelling (Option Expr)
IsFirstValue s = Perhaps (Behind (Marked mark.Comma) s.expression)

-- in parentheses what a quantifier is over
abbrev pub InParentheses : Scope → Spelling Expr
InParentheses s = Behind (Marked mark.Open) (Before s.expression (Marked mark.Close))

-- a comma and a further bind
abbrev pub IsFurther : Quant → Scope → Spelling Expr
IsFurther q s = Behind (Marked mark.Comma) (Made (λ x. quantified q x.0.at x) (s.bound q))

-- what stands behind the domain of a bind
abbrev pub IsBody : Quant → Scope → Spelling Expr
IsBody q s = Either (InParentheses s) (IsFurther q s)

-- a name as a domain
abbrev pub IsNamedDomain : Scope → Spelling Domain
IsNamedDomain s = Made domain.Named (IsName s)

-- `bool` as a domain
abbrev pub IsBoolDomain : Scope → Spelling Domain
IsBoolDomain s = Made (λ t. domain.Bool) (Worded reserved.Bool)

-- a range as a domain
abbrev pub IsRange : Scope → Spelling Domain
IsRange s = Made (λ x. domain.Bounds x.0 x.1) (AreBounds s)

-- the fields of a struct, in braces
abbrev pub AreMembers : Scope → Spelling (List Field)
AreMembers s = Behind (Marked mark.OpenBrace) (Before (Listed (IsMember s)) (Marked mark.CloseBrace))

-- the dimensions of an array in brackets
abbrev pub AreDimsInBrackets : Scope → Spelling (List Expr)
AreDimsInBrackets s = Enclosed s mark.OpenBracket mark.CloseBracket (Listed s.expression)

-- `signed`, and a number of digits
abbrev pub IsSigned : Scope → Spelling TypeText
IsSigned s = Made ty.Signed (Behind (Worded reserved.Signed) (IsDigits s))

-- `unsigned`, and a number of digits
abbrev pub IsUnsigned : Scope → Spelling TypeText
IsUnsigned s = Made ty.Unsigned (Behind (Worded reserved.Unsigned) (IsDigits s))

-- `int`, and what stands behind it
abbrev pub IsInt : Scope → Spelling TypeText
IsInt s = Behind (Worded reserved.Int) (IsIntegers s)

-- the word of a constant, which says whether it is Boolean
abbrev pub IsConstantWord : Reserved → Bool → Scope → Spelling Bool
IsConstantWord w boolean s = Made (λ t. boolean) (Worded w)

-- another name for a type
abbrev pub IsAlias : Scope → Spelling TypeItem
IsAlias s = Made (λ x. item.Alias x.0 x.1) (Then (IsType s) (IsDeclarator s))

-- `enum`, its elements and its name
abbrev pub IsEnumeration : Scope → Spelling TypeItem
IsEnumeration s = Made (λ x. item.Enumeration x.0 x.1) (Behind (Worded reserved.Enum) (Then (AreElements s) (IsName s)))

-- `struct`, its fields and its name
abbrev pub IsStructure : Scope → Spelling TypeItem
IsStructure s = Made (λ x. item.Structure x.0 x.1) (Behind (Worded reserved.Struct) (Then (AreMembers s) (IsName s)))

-- `sort`, and what stands behind it
abbrev pub IsSortItem : Scope → Spelling TypeItem
IsSortItem s = Behind (Worded reserved.Sort) (IsSort s)

-- the elements of a sort, and its name
abbrev pub AreLeaves : Scope → Spelling TypeItem
AreLeaves s = Made (λ x. item.Leaves x.0 x.1) (Then (AreElements s) (IsName s))

-- the sorts that a sort joins, and its name
abbrev pub AreChildren : Scope → Spelling TypeItem
AreChildren s = Made (λ x. item.Children x.0 x.1) (Then (Listed (IsName s)) (Behind (Marked mark.Less) (IsName s)))

-- a number for one position
abbrev pub IsFixed : Scope → Spelling Slot
IsFixed s = One (λ t x. (n : ℤ) × (t.kind ≡ kind.Number n) × (x ≡ slot.Fixed t.from n))

-- slots in brackets
abbrev pub AreSlotsInBrackets : Scope → Spelling (List Slot)
AreSlotsInBrackets s = Behind (Marked mark.OpenBracket) (Before (Listed (IsSlot s)) (Marked mark.CloseBracket))

-- slots in brackets, or none
abbrev pub AreSlots : Scope → Spelling (List Slot)
AreSlots s = Made dims_of (Perhaps (AreSlotsInBrackets s))

-- a comma and an expression
abbrev pub IsAfterComma : Scope → Spelling Expr
IsAfterComma s = Behind (Marked mark.Comma) (IsExpression s)

-- a comma and an expression, or nothing
abbrev pub IsNextValue : Scope → Spelling (Option Expr)
IsNextValue s = Perhaps (IsAfterComma s)

-- what stands behind the word of a part of a memory
abbrev pub IsMemory : Scope → Spelling ((Name × List Slot) × Expr)
IsMemory s = Then (Behind (Marked mark.Open) (Before (IsLeftSide s) (Marked mark.Close))) (Behind (Marked mark.Assign) (IsExpression s))

-- what a definition of a value gives
abbrev pub IsPart : Scope → Spelling Part
IsPart s = Made part_of (Then (IsExpression s) (Perhaps (Behind (Marked mark.Comma) (IsExpression s))))

-- the items of a section
abbrev pub AreItems : {A : Type 0} → Spelling A → Spelling (List A)
AreItems P = Items P

-- `Proof Obligations`, and the expressions
abbrev pub AreObligations : Scope → Spelling Section
AreObligations s = Behind (Worded reserved.Proof) (IsSectionOf reserved.Obligations section.Obligations (IsExpression s))
