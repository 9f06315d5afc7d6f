-- The grammar as a relation: which tokens spell a tree.
use Rattle.std.specs.Prelude.{◌≡◌, ℕ, zero, suc, ℤ, ◌+◌, ◌<◌, nat_le, nat_lt, Bool, true, false, IsTrue, List, [], ◌∷◌, ◌++◌, map, Option, Some, None, ◌⊎◌, if◌then◌else◌}
use Rattle.std.specs.List.{flat_map}
use Rattle.hll_lexer.specs.declared.token.Mark.{Mark}
use Rattle.hll_lexer.specs.declared.token.Mark.TheVariants as mark
use Rattle.hll_lexer.specs.declared.token.Reserved.{Reserved}
use Rattle.hll_lexer.specs.declared.token.Reserved.TheVariants as reserved
use Rattle.hll_lexer.specs.declared.token.Token.{Token}
use Rattle.hll_lexer.specs.declared.token.TokenKind.TheVariants as kind
use Rattle.hll_lexer.specs.Names.{named_bytes}
use Rattle.hll_tree.specs.declared.tree.Branch.{Branch, roll-Branch}
use Rattle.hll_tree.specs.declared.tree.Cmp.{Cmp}
use Rattle.hll_tree.specs.declared.tree.Cmp.TheVariants as cmp
use Rattle.hll_tree.specs.declared.tree.ConstItem.{ConstItem}
use Rattle.hll_tree.specs.declared.tree.Decl.{Decl}
use Rattle.hll_tree.specs.declared.tree.Declarator.{Declarator}
use Rattle.hll_tree.specs.declared.tree.Def.{Def}
use Rattle.hll_tree.specs.declared.tree.Domain.{Domain}
use Rattle.hll_tree.specs.declared.tree.Domain.TheVariants as domain
use Rattle.hll_tree.specs.declared.tree.Expr.{Expr, roll-Expr}
use Rattle.hll_tree.specs.declared.tree.Field.{Field}
use Rattle.hll_tree.specs.declared.tree.Form.{Form}
use Rattle.hll_tree.specs.declared.tree.Form.TheVariants as form
use Rattle.hll_tree.specs.declared.tree.HllModel.{HllModel}
use Rattle.hll_tree.specs.declared.tree.Link.{Link, roll-Link, out-Link}
use Rattle.hll_tree.specs.declared.tree.Name.{Name}
use Rattle.hll_tree.specs.declared.tree.Op.{Op}
use Rattle.hll_tree.specs.declared.tree.Op.TheVariants as op
use Rattle.hll_tree.specs.declared.tree.Part.{Part}
use Rattle.hll_tree.specs.declared.tree.Part.TheVariants as part
use Rattle.hll_tree.specs.declared.tree.Precedence.{Precedence}
use Rattle.hll_tree.specs.declared.tree.Precedence.TheVariants as precedence
use Rattle.hll_tree.specs.declared.tree.Quant.{Quant}
use Rattle.hll_tree.specs.declared.tree.Quant.TheVariants as quant
use Rattle.hll_tree.specs.declared.tree.Reach.{Reach}
use Rattle.hll_tree.specs.declared.tree.Reach.TheVariants as reach
use Rattle.hll_tree.specs.declared.tree.Section.{Section}
use Rattle.hll_tree.specs.declared.tree.Section.TheVariants as section
use Rattle.hll_tree.specs.declared.tree.Slot.{Slot}
use Rattle.hll_tree.specs.declared.tree.Slot.TheVariants as slot
use Rattle.hll_tree.specs.declared.tree.TypeItem.{TypeItem}
use Rattle.hll_tree.specs.declared.tree.TypeItem.TheVariants as item
use Rattle.hll_tree.specs.declared.tree.TypeText.{TypeText}
use Rattle.hll_tree.specs.declared.tree.TypeText.TheVariants as ty

-- what a list of tokens spells
abbrev pub Spelling : Type 0 → Type 1
Spelling A = List Token → A → Type 0

-- ---- how spellings are put together

-- one token, which stands for a value
abbrev pub One : {A : Type 0} → (Token → A → Type 0) → Spelling A
One R ts x = (t : Token) × (ts ≡ t ∷ []) × R t x

-- one thing, and then another
abbrev pub Then : {A B : Type 0} → Spelling A → Spelling B → Spelling (A × B)
Then P Q ts x = (us : List Token) × (vs : List Token) × (ts ≡ us ++ vs) × P us x.0 × Q vs x.1

-- a thing, from which a value is made
abbrev pub Made : {A B : Type 0} → (A → B) → Spelling A → Spelling B
Made f P ts y = (x : _) × P ts x × (y ≡ f x)

-- one of two things
abbrev pub Either : {A : Type 0} → Spelling A → Spelling A → Spelling A
Either P Q ts x = P ts x ⊎ Q ts x

-- a thing, or nothing
abbrev pub Perhaps : {A : Type 0} → Spelling A → Spelling (Option A)
Perhaps P ts None = ts ≡ []
Perhaps P ts (Some x) = P ts x

-- one thing after another, as many as there are
abbrev pub Many : {A : Type 0} → Spelling A → Spelling (List A)
Many P ts [] = ts ≡ []
Many P ts (x ∷ xs) = (us : List Token) × (vs : List Token) × (ts ≡ us ++ vs) × P us x × Many P vs xs

-- this mark
abbrev pub Marked : Mark → Spelling Token
Marked m = One (λ t x. (t.kind ≡ kind.Mark m) × (x ≡ t))

-- this reserved word
abbrev pub Worded : Reserved → Spelling Token
Worded w = One (λ t x. (t.kind ≡ kind.Reserved w) × (x ≡ t))

-- a thing behind another that leaves no trace
abbrev pub Behind : {A B : Type 0} → Spelling A → Spelling B → Spelling B
Behind P Q = Made (λ x. x.1) (Then P Q)

-- a thing before another that leaves no trace
abbrev pub Before : {A B : Type 0} → Spelling A → Spelling B → Spelling A
Before P Q = Made (λ x. x.0) (Then P Q)

-- one or more, parted by commas
abbrev pub Listed : {A : Type 0} → Spelling A → Spelling (List A)
Listed P = Made (λ x. x.0 ∷ x.1) (Then P (Many (Behind (Marked mark.Comma) P)))

-- ---- levels

-- which tokens may open a level, by its number: the outermost is level 1
abbrev pub Limit : Type 0
Limit = Token → ℕ → Bool

-- no token opens a level above this one
abbrev pub at_most : ℕ → Limit
at_most levels t level = nat_le level levels

-- no token before a place opens a level above this one
abbrev pub at_most_before : ℕ → ℕ → Limit
at_most_before at levels t level = if nat_lt t.from at then nat_le level levels else true

-- a name with its type of values and what it binds: a quantifier without its word
abbrev pub Bound : Type 0
Bound = Name × (Domain × Expr)

-- where a thing stands: in which text, which tokens may open a level there, and what is spelled inside that level
pub record Scope : Type 1 where
  pub text : List ℕ
  pub may_open : Token → Bool
  pub operand : Spelling Expr
  pub expression : Spelling Expr
  pub domain : Spelling Domain
  pub bound : Quant → Spelling Bound

-- a mark that opens a level
abbrev pub Opening : Scope → Mark → Spelling Token
Opening s m = One (λ t x. (t.kind ≡ kind.Mark m) × IsTrue (s.may_open t) × (x ≡ t))

-- a thing between two marks, of which the first opens a level
abbrev pub Enclosed : {A : Type 0} → Scope → Mark → Mark → Spelling A → Spelling A
Enclosed s m n P = Behind (Opening s m) (Before P (Marked n))

-- ---- names and numbers

-- no list where there is none
abbrev pub dims_of : {A : Type 0} → Option (List A) → List A
dims_of None = []
dims_of (Some xs) = xs

-- the name that a token names
abbrev pub name_at : List ℕ → Token → Name
name_at text t = record { text = named_bytes text t; at = t.from }

-- a name
abbrev pub IsName : Scope → Spelling Name
IsName s = One (λ t x. (t.kind ≡ kind.Name) × (x ≡ name_at s.text t))

-- an expression at the place of a token
abbrev pub expression_at : Token → Form → Expr
expression_at t f = roll-Expr (record { at = t.from; form = f })

-- a number
abbrev pub IsNumber : Spelling Expr
IsNumber = One (λ t x. (n : ℤ) × (t.kind ≡ kind.Number n) × (x ≡ expression_at t (form.Number n)))

-- a word for a truth value
abbrev pub IsTruthWord : Token → Bool → Type 0
IsTruthWord t true = t.kind ≡ kind.Reserved reserved.True
IsTruthWord t false = t.kind ≡ kind.Reserved reserved.False

-- a truth value
abbrev pub IsTruth : Spelling Expr
IsTruth = One (λ t x. (value : Bool) × IsTruthWord t value × (x ≡ expression_at t (form.Truth value)))

-- a name alone, as an expression
abbrev pub named : Name → Expr
named n = roll-Expr (record { at = n.at; form = form.Path n [] })

-- ---- operands

-- one or more indices in one pair of brackets
abbrev pub AreIndices : Scope → Spelling (List Reach)
AreIndices s = Made (λ es. map reach.At es) (Enclosed s mark.OpenBracket mark.CloseBracket (Listed s.expression))

-- a point and the name of a field
abbrev pub IsField : Scope → Spelling (List Reach)
IsField s = Made (λ n. reach.Field n ∷ []) (Behind (Marked mark.Dot) (IsName s))

-- a name, and what is reached through it
abbrev pub IsPath : Scope → Spelling Expr
IsPath s =
    Made (λ x. roll-Expr (record { at = x.0.at; form = form.Path x.0 (flat_map (λ rs. rs) x.1) }))
    (Then (IsName s) (Many (Either (AreIndices s) (IsField s))))

-- an expression in parentheses, which leave no trace in the tree
abbrev pub IsParenthesised : Scope → Spelling Expr
IsParenthesised s = Enclosed s mark.Open mark.Close s.expression

-- the parts of an array or a struct, in braces
abbrev pub IsGroup : Scope → Spelling Expr
IsGroup s =
    Made (λ x. expression_at x.0 (form.Group x.1))
    (Then (Opening s mark.OpenBrace) (Before (Listed s.expression) (Marked mark.CloseBrace)))

-- `-` before an operand
abbrev pub IsMinus : Scope → Spelling Expr
IsMinus s = Made (λ x. expression_at x.0 (form.Minus x.1)) (Then (Opening s mark.Minus) s.operand)

-- `~` before an operand
abbrev pub IsNot : Scope → Spelling Expr
IsNot s = Made (λ x. expression_at x.0 (form.Not x.1)) (Then (Opening s mark.Not) s.operand)

-- `pre`, and in parentheses an expression and perhaps a first value
abbrev pub IsPre : Scope → Spelling Expr
IsPre s =
    Made (λ x. expression_at x.0 (form.Pre x.1.0 x.1.1))
    (Then (Worded reserved.Pre) (Enclosed s mark.Open mark.Close (Then s.expression (Perhaps (Behind (Marked mark.Comma) s.expression)))))

-- in parentheses two or more expressions
abbrev pub AreOperands : Scope → Spelling (List Expr)
AreOperands s =
    Made (λ x. x.0 ∷ x.1)
    (Enclosed s mark.Open mark.Close (Then s.expression (Behind (Marked mark.Comma) (Listed s.expression))))

-- `$min` and its operands
abbrev pub IsLeast : Scope → Spelling Expr
IsLeast s = Made (λ x. expression_at x.0 (form.Least x.1)) (Then (Marked mark.Min) (AreOperands s))

-- `$max` and its operands
abbrev pub IsGreatest : Scope → Spelling Expr
IsGreatest s = Made (λ x. expression_at x.0 (form.Greatest x.1)) (Then (Marked mark.Max) (AreOperands s))

-- `$abs` and its operand
abbrev pub IsSize : Scope → Spelling Expr
IsSize s = Made (λ x. expression_at x.0 (form.Size x.1)) (Then (Marked mark.Abs) (Enclosed s mark.Open mark.Close s.expression))

-- ---- quantifiers

-- the word of a quantifier
abbrev pub word_of : Quant → Reserved
word_of quant.All = reserved.All
word_of quant.Any = reserved.Some
word_of quant.Sum = reserved.Sum

-- two bounds in brackets
abbrev pub AreBounds : Scope → Spelling (Expr × Expr)
AreBounds s = Enclosed s mark.OpenBracket mark.CloseBracket (Then s.expression (Behind (Marked mark.Comma) s.expression))

-- the domain of a bound name
abbrev pub IsDomain : Scope → Spelling Domain
IsDomain s =
    Either (Made (λ x. domain.Bounds x.0 x.1) (AreBounds s))
    (Either (Made (λ t. domain.Bool) (Worded reserved.Bool)) (Made domain.Named (IsName s)))

-- a quantifier at a place
abbrev pub quantified : Quant → ℕ → Bound → Expr
quantified q at x = roll-Expr (record { at = at; form = form.Quant q x.0 x.1.0 x.1.1 })

-- the name of a bind, which opens a level until the end of the quantifier
abbrev pub IsBoundName : Scope → Spelling Name
IsBoundName s = One (λ t x. (t.kind ≡ kind.Name) × IsTrue (s.may_open t) × (x ≡ name_at s.text t))

-- a bind, and behind it in parentheses what the quantifier is over, or a comma and a further bind, which is a quantifier at its name
abbrev pub IsBound : Scope → Quant → Spelling Bound
IsBound s q =
    Then (IsBoundName s) (Behind (Marked mark.Colon) (Then s.domain (Either
    (Behind (Marked mark.Open) (Before s.expression (Marked mark.Close)))
    (Behind (Marked mark.Comma) (Made (λ x. quantified q x.0.at x) (s.bound q))))))

-- a quantifier of this kind
abbrev pub IsQuantifierOf : Scope → Quant → Spelling Expr
IsQuantifierOf s q = Made (λ x. quantified q x.0.from x.1) (Then (Worded (word_of q)) (IsBound s q))

-- a quantifier
abbrev pub IsQuantifier : Scope → Spelling Expr
IsQuantifier s = Either (IsQuantifierOf s quant.All) (Either (IsQuantifierOf s quant.Any) (IsQuantifierOf s quant.Sum))

-- what stands without an operator before or behind it
abbrev pub IsPrimary : Scope → Spelling Expr
IsPrimary s =
    Either IsNumber (Either IsTruth (Either (IsPath s) (Either (IsParenthesised s) (Either (IsGroup s)
    (Either (IsQuantifier s) (Either (IsPre s) (Either (IsLeast s) (Either (IsGreatest s) (IsSize s)))))))))

-- what stands on either side of the operators that bind most tightly
abbrev pub IsOperand : Scope → Spelling Expr
IsOperand s = Either (IsMinus s) (Either (IsNot s) (IsPrimary s))

-- ---- operators

-- the mark of an operator
abbrev pub mark_of : Op → Mark
mark_of op.Same = mark.Same
mark_of op.Differ = mark.Differ
mark_of op.Implies = mark.Implies
mark_of op.Or = mark.Or
mark_of op.And = mark.And
mark_of op.Plus = mark.Plus
mark_of op.Less = mark.Minus
mark_of op.Times = mark.Times
mark_of op.Over = mark.Over
mark_of op.Rest = mark.Rest

-- how tightly an operator binds
abbrev pub precedence_of : Op → Precedence
precedence_of op.Same = precedence.Equivalence
precedence_of op.Differ = precedence.Equivalence
precedence_of op.Implies = precedence.Implication
precedence_of op.Or = precedence.Disjunction
precedence_of op.And = precedence.Conjunction
precedence_of op.Plus = precedence.Sum
precedence_of op.Less = precedence.Sum
precedence_of op.Times = precedence.Product
precedence_of op.Over = precedence.Product
precedence_of op.Rest = precedence.Product

-- the mark of a comparison
abbrev pub mark_of_comparison : Cmp → Mark
mark_of_comparison cmp.Eq = mark.Equal
mark_of_comparison cmp.Ne = mark.Unequal
mark_of_comparison cmp.Lt = mark.Less
mark_of_comparison cmp.Le = mark.LessEqual
mark_of_comparison cmp.Gt = mark.Greater
mark_of_comparison cmp.Ge = mark.GreaterEqual

-- the sign of an operator that binds so
abbrev pub IsSign : Precedence → Spelling (Token × Op)
IsSign p = One (λ t x. (t.kind ≡ kind.Mark (mark_of x.1)) × (precedence_of x.1 ≡ p) × (x.0 ≡ t))

-- the sign of a comparison
abbrev pub IsComparisonSign : Spelling (Token × Cmp)
IsComparisonSign = One (λ t x. (t.kind ≡ kind.Mark (mark_of_comparison x.1)) × (x.0 ≡ t))

-- an operator and its right operand
abbrev pub IsLink : Precedence → Spelling Expr → Spelling Link
IsLink p Operand = Made (λ x. roll-Link (record { op = x.0.1; at = x.0.0.from; with = x.1 })) (Then (IsSign p) Operand)

-- an operand alone, or a chain at the place of its first operator
abbrev pub chain_of : Expr × List Link → Expr
chain_of (first, []) = first
chain_of (first, link ∷ links) = roll-Expr (record { at = (out-Link link).at; form = form.Chain first (link ∷ links) })

-- one operand, or several with operators of one level between them
abbrev pub IsChain : Precedence → Spelling Expr → Spelling Expr
IsChain p Operand = Made chain_of (Then Operand (Many (IsLink p Operand)))

-- an operand alone, or a comparison at the place of its sign
abbrev pub comparison_of : Expr × Option ((Token × Cmp) × Expr) → Expr
comparison_of (left, None) = left
comparison_of (left, Some x) = expression_at x.0.0 (form.Compare x.0.1 left x.1)

-- one operand, or two that are compared
abbrev pub IsComparison : Spelling Expr → Spelling Expr
IsComparison Operand = Made comparison_of (Then Operand (Perhaps (Then IsComparisonSign Operand)))

-- operands with operators between them: products bind most tightly, then sums, comparisons, `&`, `#`, `->`, and `<->` with `#!` least
abbrev pub IsOperation : Spelling Expr → Spelling Expr
IsOperation Operand =
    IsChain precedence.Equivalence (IsChain precedence.Implication (IsChain precedence.Disjunction (IsChain precedence.Conjunction
    (IsComparison (IsChain precedence.Sum (IsChain precedence.Product Operand))))))

-- ---- expressions

-- a condition, `then`, and what stands for it
abbrev pub IsBranch : Scope → Spelling Branch
IsBranch s = Made (λ x. roll-Branch (record { when = x.0; gives = x.1 })) (Then s.expression (Behind (Worded reserved.Then) s.expression))

-- `if` opens a level
abbrev pub IsIf : Scope → Spelling Token
IsIf s = One (λ t x. (t.kind ≡ kind.Reserved reserved.If) × IsTrue (s.may_open t) × (x ≡ t))

-- `if` with its branches and `else`
abbrev pub IsChoice : Scope → Spelling Expr
IsChoice s =
    Made (λ x. expression_at x.0 (form.Choice (x.1.0 ∷ x.1.1.0) x.1.1.1))
    (Then (IsIf s) (Then (IsBranch s) (Then (Many (Behind (Worded reserved.Elif) (IsBranch s))) (Behind (Worded reserved.Else) s.expression))))

-- an expression
abbrev pub IsExpression : Scope → Spelling Expr
IsExpression s = Either (IsChoice s) (IsOperation (IsOperand s))

-- inside so many levels, with room for so many more
unfoldable pub scope : List ℕ → Limit → ℕ → ℕ → Scope
scope text limit zero depth = record {
  text = text;
  may_open = λ t. false;
  operand = λ ts x. ⊥;
  expression = λ ts x. ⊥;
  domain = λ ts x. ⊥;
  bound = λ q ts x. ⊥;
}
scope text limit (suc room) depth = record {
  text = text;
  may_open = λ t. limit t (suc depth);
  operand = IsOperand (scope text limit room (suc depth));
  expression = IsExpression (scope text limit room (suc depth));
  domain = IsDomain (scope text limit room (suc depth));
  bound = IsBound (scope text limit room (suc depth));
}

-- ---- types and declarations

-- how many digits a number of a type has
abbrev pub IsDigits : Scope → Spelling Expr
IsDigits s = Either IsNumber (Either (Made named (IsName s)) (IsParenthesised s))

-- what stands behind `int`
abbrev pub IsIntegers : Scope → Spelling TypeText
IsIntegers s =
    Either (Made (λ x. ty.Bounds x.0 x.1) (AreBounds s))
    (Either (Made ty.Signed (Behind (Worded reserved.Signed) (IsDigits s))) (Made ty.Unsigned (Behind (Worded reserved.Unsigned) (IsDigits s))))

-- a type
abbrev pub IsType : Scope → Spelling TypeText
IsType s =
    Either (Made (λ t. ty.Bool) (Worded reserved.Bool))
    (Either (Made ty.Named (IsName s)) (Behind (Worded reserved.Int) (IsIntegers s)))

-- the dimensions of an array in brackets, or none
abbrev pub AreDims : Scope → Spelling (List Expr)
AreDims s = Made dims_of (Perhaps (Enclosed s mark.OpenBracket mark.CloseBracket (Listed s.expression)))

-- a declared name with its dimensions
abbrev pub IsDeclarator : Scope → Spelling Declarator
IsDeclarator s = Made (λ x. record { name = x.0; dims = x.1 }) (Then (IsName s) (AreDims s))

-- a declaration of variables
abbrev pub IsDecl : Scope → Spelling Decl
IsDecl s = Made (λ x. record { ty = x.0; names = x.1 }) (Then (IsType s) (Listed (IsDeclarator s)))

-- `bool`, or `int`: whether a constant is Boolean
abbrev pub IsConstantKind : Spelling Bool
IsConstantKind = Either (Made (λ t. true) (Worded reserved.Bool)) (Made (λ t. false) (Worded reserved.Int))

-- a constant
abbrev pub IsConstant : Scope → Spelling ConstItem
IsConstant s =
    Made (λ x. record { boolean = x.0; name = x.1.0; value = x.1.1 })
    (Then IsConstantKind (Then (IsName s) (Behind (Marked mark.Assign) (IsExpression s))))

-- names in braces, parted by commas
abbrev pub AreElements : Scope → Spelling (List Name)
AreElements s = Behind (Marked mark.OpenBrace) (Before (Listed (IsName s)) (Marked mark.CloseBrace))

-- a field of a struct
abbrev pub IsMember : Scope → Spelling Field
IsMember s =
    Made (λ x. record { ty = x.1.0; of = record { name = x.0; dims = x.1.1 } })
    (Then (IsName s) (Behind (Marked mark.Colon) (Then (IsType s) (AreDims s))))

-- what stands behind `sort`
abbrev pub IsSort : Scope → Spelling TypeItem
IsSort s =
    Either (Made (λ x. item.Leaves x.0 x.1) (Then (AreElements s) (IsName s)))
    (Made (λ x. item.Children x.0 x.1) (Then (Listed (IsName s)) (Behind (Marked mark.Less) (IsName s))))

-- a declared type
abbrev pub IsTypeItem : Scope → Spelling TypeItem
IsTypeItem s =
    Either (Made (λ x. item.Alias x.0 x.1) (Then (IsType s) (IsDeclarator s)))
    (Either (Made (λ x. item.Enumeration x.0 x.1) (Behind (Worded reserved.Enum) (Then (AreElements s) (IsName s))))
    (Either (Made (λ x. item.Structure x.0 x.1)
    (Behind (Worded reserved.Struct) (Then (Behind (Marked mark.OpenBrace) (Before (Listed (IsMember s)) (Marked mark.CloseBrace))) (IsName s))))
    (Behind (Worded reserved.Sort) (IsSort s))))

-- ---- definitions

-- a name for every position of an array level, or a number for one
abbrev pub IsSlot : Scope → Spelling Slot
IsSlot s = Either (Made slot.Index (IsName s)) (One (λ t x. (n : ℤ) × (t.kind ≡ kind.Number n) × (x ≡ slot.Fixed t.from n)))

-- a name with its slots
abbrev pub IsLeftSide : Scope → Spelling (Name × List Slot)
IsLeftSide s =
    Made (λ x. (x.0, dims_of x.1))
    (Then (IsName s) (Perhaps (Behind (Marked mark.OpenBracket) (Before (Listed (IsSlot s)) (Marked mark.CloseBracket)))))

-- one expression gives the value, two give the first and the next one
abbrev pub part_of : Expr × Option Expr → Part
part_of (e, None) = part.Value e
part_of (e, Some f) = part.Both e f

-- a definition of a value
abbrev pub IsPlainDefinition : Scope → Spelling Def
IsPlainDefinition s =
    Made (λ x. record { at = x.0.0.at; name = x.0.0; indices = x.0.1; part = x.1 })
    (Then (IsLeftSide s) (Behind (Marked mark.Assign) (Made part_of (Then (IsExpression s) (Perhaps (Behind (Marked mark.Comma) (IsExpression s)))))))

-- a definition of one part of a memory, by its word
abbrev pub IsMemoryDefinition : Scope → Reserved → (Expr → Part) → Spelling Def
IsMemoryDefinition s w made =
    Made (λ x. record { at = x.0.from; name = x.1.0.0; indices = x.1.0.1; part = made x.1.1 })
    (Then (Worded w) (Then (Behind (Marked mark.Open) (Before (IsLeftSide s) (Marked mark.Close))) (Behind (Marked mark.Assign) (IsExpression s))))

-- a definition
abbrev pub IsDefinition : Scope → Spelling Def
IsDefinition s =
    Either (IsPlainDefinition s)
    (Either (IsMemoryDefinition s reserved.First part.First) (IsMemoryDefinition s reserved.Next part.Next))

-- ---- sections

-- things, each ended by `;`
abbrev pub Items : {A : Type 0} → Spelling A → Spelling (List A)
Items P = Many (Before P (Marked mark.Semicolon))

-- a section: its word and `:`, and its items
abbrev pub IsSectionOf : {A : Type 0} → Reserved → (List A → Section) → Spelling A → Spelling Section
IsSectionOf w made P = Behind (Worded w) (Behind (Marked mark.Colon) (Made made (Items P)))

-- a section
abbrev pub IsSection : Scope → Spelling Section
IsSection s =
    Either (IsSectionOf reserved.Constants section.Constants (IsConstant s))
    (Either (IsSectionOf reserved.Types section.Types (IsTypeItem s))
    (Either (IsSectionOf reserved.Inputs section.Inputs (IsDecl s))
    (Either (IsSectionOf reserved.Declarations section.Declarations (IsDecl s))
    (Either (IsSectionOf reserved.Definitions section.Definitions (IsDefinition s))
    (Either (IsSectionOf reserved.Constraints section.Constraints (IsExpression s))
    (Behind (Worded reserved.Proof) (IsSectionOf reserved.Obligations section.Obligations (IsExpression s))))))))

-- a model: its sections
abbrev pub IsModel : Scope → Spelling HllModel
IsModel s = Made (λ x. record { sections = x }) (Many (IsSection s))

-- the tokens of the text spell the model, and open no level but those that the limit allows
abbrev pub SpellsUnder : Limit → List ℕ → List Token → HllModel → Type 0
SpellsUnder limit text ts m = (room : ℕ) × IsModel (scope text limit room 0) ts m

-- the tokens of the text spell the model, with at most so many levels open at once
abbrev pub SpellsWithin : ℕ → List ℕ → List Token → HllModel → Type 0
SpellsWithin levels = SpellsUnder (at_most levels)

-- the tokens of the text spell the model, whatever its levels
abbrev pub Spells : List ℕ → List Token → HllModel → Type 0
Spells = SpellsUnder (λ t level. true)
