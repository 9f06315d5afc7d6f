-- With what an operand begins, by its first token.
use Rattle.std.specs.Prelude.{Bool, true, false, Option, Some, None}
use Rattle.hll_lexer.specs.declared.token.Mark.{Mark}
use Rattle.hll_lexer.specs.declared.token.Mark.TheVariants as mark
use Rattle.hll_lexer.specs.declared.token.Reserved.{Reserved}
use Rattle.hll_lexer.specs.declared.token.Reserved.TheVariants as reserved
use Rattle.hll_lexer.specs.declared.token.TokenKind.{TokenKind}
use Rattle.hll_lexer.specs.declared.token.TokenKind.TheVariants as kind
use Rattle.hll_tree.specs.declared.tree.Quant.TheVariants as quant
use Rattle.hll_grammar.specs.declared.primary.Start.{Start}
use Rattle.hll_grammar.specs.declared.primary.Start.TheVariants as start

-- by a word
abbrev pub start_of_word : Reserved → Start
start_of_word reserved.True = start.Truth
start_of_word reserved.False = start.Truth
start_of_word reserved.All = start.Quantifier quant.All
start_of_word reserved.Some = start.Quantifier quant.Any
start_of_word reserved.Sum = start.Quantifier quant.Sum
start_of_word reserved.Pre = start.Pre
start_of_word _ = start.Other

-- by a mark
abbrev pub start_of_mark : Mark → Start
start_of_mark mark.Minus = start.Minus
start_of_mark mark.Not = start.Not
start_of_mark mark.Open = start.Parenthesis
start_of_mark mark.OpenBrace = start.Brace
start_of_mark mark.Min = start.Least
start_of_mark mark.Max = start.Greatest
start_of_mark mark.Abs = start.Size
start_of_mark _ = start.Other

-- by the kind of a token
abbrev pub start_of_kind : TokenKind → Start
start_of_kind kind.Name = start.Name
start_of_kind (kind.Number n) = start.Number
start_of_kind (kind.Reserved w) = start_of_word w
start_of_kind (kind.Mark m) = start_of_mark m

-- by the kind of the next token
abbrev pub start_of_next : Option TokenKind → Start
start_of_next None = start.Other
start_of_next (Some k) = start_of_kind k

-- whether an operand begins so
abbrev pub is_start : Start → Bool
is_start start.Other = false
is_start _ = true
