-- One token of lookahead: with which kinds of tokens a part begins, and with which it may go on.
use Rattle.std.specs.Prelude.{ℕ, ◌==◌, Bool, true, false, not, ◌&&◌, ◌||◌, List, [], ◌∷◌, ◌++◌}
use Rattle.std.specs.List.{list_any, list_all}
use Rattle.hll_lexer.specs.declared.token.Mark.{Mark}
use Rattle.hll_lexer.specs.declared.token.Mark.TheVariants as mark
use Rattle.hll_lexer.specs.declared.token.Reserved.{Reserved}
use Rattle.hll_lexer.specs.declared.token.Reserved.TheVariants as reserved
use Rattle.hll_lexer.specs.declared.token.TokenKind.{TokenKind}
use Rattle.hll_lexer.specs.declared.token.TokenKind.TheVariants as kind
use Rattle.hll_tree.specs.declared.tree.Precedence.{Precedence}
use Rattle.hll_tree.specs.declared.tree.Precedence.TheVariants as precedence

-- kinds of tokens
pub record Kinds : Type 0 where
  pub names : Bool
  pub numbers : Bool
  pub words : List Reserved
  pub marks : List Mark

-- each mark by a number
unfoldable pub mark_number : Mark → ℕ
mark_number mark.Assign = 0
mark_number mark.Colon = 1
mark_number mark.Semicolon = 2
mark_number mark.Comma = 3
mark_number mark.Open = 4
mark_number mark.Close = 5
mark_number mark.OpenBracket = 6
mark_number mark.CloseBracket = 7
mark_number mark.OpenBrace = 8
mark_number mark.CloseBrace = 9
mark_number mark.Dot = 10
mark_number mark.Implies = 11
mark_number mark.Same = 12
mark_number mark.Differ = 13
mark_number mark.Or = 14
mark_number mark.And = 15
mark_number mark.Not = 16
mark_number mark.Equal = 17
mark_number mark.Unequal = 18
mark_number mark.Less = 19
mark_number mark.LessEqual = 20
mark_number mark.Greater = 21
mark_number mark.GreaterEqual = 22
mark_number mark.Plus = 23
mark_number mark.Minus = 24
mark_number mark.Times = 25
mark_number mark.Over = 26
mark_number mark.Rest = 27
mark_number mark.Min = 28
mark_number mark.Max = 29
mark_number mark.Abs = 30

-- each reserved word by a number
unfoldable pub word_number : Reserved → ℕ
word_number reserved.Constants = 0
word_number reserved.Types = 1
word_number reserved.Inputs = 2
word_number reserved.Declarations = 3
word_number reserved.Definitions = 4
word_number reserved.Constraints = 5
word_number reserved.Proof = 6
word_number reserved.Obligations = 7
word_number reserved.Bool = 8
word_number reserved.Int = 9
word_number reserved.Signed = 10
word_number reserved.Unsigned = 11
word_number reserved.Enum = 12
word_number reserved.Sort = 13
word_number reserved.Struct = 14
word_number reserved.True = 15
word_number reserved.False = 16
word_number reserved.If = 17
word_number reserved.Then = 18
word_number reserved.Elif = 19
word_number reserved.Else = 20
word_number reserved.All = 21
word_number reserved.Some = 22
word_number reserved.Sum = 23
word_number reserved.Pre = 24
word_number reserved.Next = 25
word_number reserved.First = 26

-- a token of this kind is among them
abbrev pub holds : Kinds → TokenKind → Bool
holds kinds kind.Name = kinds.names
holds kinds (kind.Number n) = kinds.numbers
holds kinds (kind.Reserved w) = list_any (λ v. word_number v == word_number w) kinds.words
holds kinds (kind.Mark m) = list_any (λ n. mark_number n == mark_number m) kinds.marks

-- no kind
abbrev pub nothing : Kinds
nothing = record { names = false; numbers = false; words = []; marks = [] }

-- names
abbrev pub a_name : Kinds
a_name = record { names = true; numbers = false; words = []; marks = [] }

-- numbers
abbrev pub a_number : Kinds
a_number = record { names = false; numbers = true; words = []; marks = [] }

-- these reserved words
abbrev pub words_of : List Reserved → Kinds
words_of ws = record { names = false; numbers = false; words = ws; marks = [] }

-- these marks
abbrev pub marks_of : List Mark → Kinds
marks_of ms = record { names = false; numbers = false; words = []; marks = ms }

-- the kinds of both
abbrev pub with : Kinds → Kinds → Kinds
with k l = record { names = k.names || l.names; numbers = k.numbers || l.numbers; words = k.words ++ l.words; marks = k.marks ++ l.marks }

-- no kind is among both
abbrev pub are_apart : Kinds → Kinds → Bool
are_apart k l =
    not (k.names && l.names) && not (k.numbers && l.numbers)
    && list_all (λ w. not (list_any (λ v. word_number v == word_number w) l.words)) k.words
    && list_all (λ m. not (list_any (λ n. mark_number n == mark_number m) l.marks)) k.marks

-- ---- with what a part may go on

-- the marks of the operators that bind so
abbrev pub signs : Precedence → List Mark
signs precedence.Equivalence = mark.Same ∷ mark.Differ ∷ []
signs precedence.Implication = mark.Implies ∷ []
signs precedence.Disjunction = mark.Or ∷ []
signs precedence.Conjunction = mark.And ∷ []
signs precedence.Sum = mark.Plus ∷ mark.Minus ∷ []
signs precedence.Product = mark.Times ∷ mark.Over ∷ mark.Rest ∷ []

-- the marks of comparisons
abbrev pub comparison_signs : List Mark
comparison_signs = mark.Equal ∷ mark.Unequal ∷ mark.Less ∷ mark.LessEqual ∷ mark.Greater ∷ mark.GreaterEqual ∷ []

-- an operand goes on with a reach: it may end in a path
abbrev pub after_operand : Kinds
after_operand = marks_of (mark.OpenBracket ∷ mark.Dot ∷ [])

-- a chain goes on with its operators, and with what its operands go on with
abbrev pub chain_goes_on : Precedence → Kinds → Kinds
chain_goes_on p after = with (marks_of (signs p)) after

-- what stands beside a comparison
abbrev pub after_sum : Kinds
after_sum = chain_goes_on precedence.Sum (chain_goes_on precedence.Product after_operand)

-- one operand, or two that are compared
abbrev pub after_comparison : Kinds
after_comparison = with (marks_of comparison_signs) after_sum

-- a whole expression
abbrev pub after_expression : Kinds
after_expression =
    chain_goes_on precedence.Equivalence (chain_goes_on precedence.Implication (chain_goes_on precedence.Disjunction
    (chain_goes_on precedence.Conjunction after_comparison)))

-- dimensions may still follow
abbrev pub after_declarator : Kinds
after_declarator = marks_of (mark.OpenBracket ∷ [])

-- a list goes on with a comma, and with what its last item goes on with
abbrev pub list_goes_on : Kinds → Kinds
list_goes_on after = with (marks_of (mark.Comma ∷ [])) after

-- ---- with what a part begins

-- an operand
abbrev pub begins_operand : Kinds
begins_operand = record {
  names = true;
  numbers = true;
  words = reserved.True ∷ reserved.False ∷ reserved.All ∷ reserved.Some ∷ reserved.Sum ∷ reserved.Pre ∷ [];
  marks = mark.Minus ∷ mark.Not ∷ mark.Open ∷ mark.OpenBrace ∷ mark.Min ∷ mark.Max ∷ mark.Abs ∷ [];
}

-- an expression
abbrev pub begins_expression : Kinds
begins_expression = with (words_of (reserved.If ∷ [])) begins_operand

-- a type
abbrev pub begins_type : Kinds
begins_type = record { names = true; numbers = false; words = reserved.Bool ∷ reserved.Int ∷ []; marks = [] }

-- the domain of a bound name
abbrev pub begins_domain : Kinds
begins_domain = record { names = true; numbers = false; words = reserved.Bool ∷ []; marks = mark.OpenBracket ∷ [] }

-- an item of the types
abbrev pub begins_type_item : Kinds
begins_type_item = with (words_of (reserved.Enum ∷ reserved.Struct ∷ reserved.Sort ∷ [])) begins_type

-- a constant
abbrev pub begins_constant : Kinds
begins_constant = words_of (reserved.Bool ∷ reserved.Int ∷ [])

-- a definition
abbrev pub begins_definition : Kinds
begins_definition = record { names = true; numbers = false; words = reserved.First ∷ reserved.Next ∷ []; marks = [] }

-- a section
abbrev pub begins_section : Kinds
begins_section =
    words_of (reserved.Constants ∷ reserved.Types ∷ reserved.Inputs ∷ reserved.Declarations ∷ reserved.Definitions
    ∷ reserved.Constraints ∷ reserved.Proof ∷ [])

-- a section goes on with a further item of any of the seven kinds
abbrev pub after_section : Kinds
after_section = with begins_type_item (with begins_definition begins_expression)

-- every kind
abbrev pub anything : Kinds
anything = record {
  names = true;
  numbers = true;
  words = reserved.Constants ∷ reserved.Types ∷ reserved.Inputs ∷ reserved.Declarations ∷ reserved.Definitions ∷ reserved.Constraints
      ∷ reserved.Proof ∷ reserved.Obligations ∷ reserved.Bool ∷ reserved.Int ∷ reserved.Signed ∷ reserved.Unsigned ∷ reserved.Enum
      ∷ reserved.Sort ∷ reserved.Struct ∷ reserved.True ∷ reserved.False ∷ reserved.If ∷ reserved.Then ∷ reserved.Elif ∷ reserved.Else
      ∷ reserved.All ∷ reserved.Some ∷ reserved.Sum ∷ reserved.Pre ∷ reserved.Next ∷ reserved.First ∷ [];
  marks = mark.Assign ∷ mark.Colon ∷ mark.Semicolon ∷ mark.Comma ∷ mark.Open ∷ mark.Close ∷ mark.OpenBracket ∷ mark.CloseBracket
      ∷ mark.OpenBrace ∷ mark.CloseBrace ∷ mark.Dot ∷ mark.Implies ∷ mark.Same ∷ mark.Differ ∷ mark.Or ∷ mark.And ∷ mark.Not ∷ mark.Equal
      ∷ mark.Unequal ∷ mark.Less ∷ mark.LessEqual ∷ mark.Greater ∷ mark.GreaterEqual ∷ mark.Plus ∷ mark.Minus ∷ mark.Times ∷ mark.Over
      ∷ mark.Rest ∷ mark.Min ∷ mark.Max ∷ mark.Abs ∷ [];
}
