-- The marks of the language.
use Rattle.std.specs.Prelude.{ℕ, List, [], ◌∷◌, Option, codes}
use Rattle.std.specs.Map.{lookup}
use Rattle.std.specs.Str.{bytes_eq}
use Rattle.hll_lexer.specs.declared.token.Mark.{Mark}
use Rattle.hll_lexer.specs.declared.token.Mark.TheVariants as mark

-- the marks, each as it is spelled, the longer before the shorter that it begins with
unfoldable pub marks : List (List ℕ × Mark)
marks =
    (codes ":=", mark.Assign) ∷ (codes ":", mark.Colon) ∷ (codes ";", mark.Semicolon) ∷ (codes ",", mark.Comma)
    ∷ (codes "(", mark.Open) ∷ (codes ")", mark.Close) ∷ (codes "[", mark.OpenBracket) ∷ (codes "]", mark.CloseBracket)
    ∷ (codes "{", mark.OpenBrace) ∷ (codes "}", mark.CloseBrace) ∷ (codes ".", mark.Dot)
    ∷ (codes "->", mark.Implies) ∷ (codes "-", mark.Minus)
    ∷ (codes "<->", mark.Same) ∷ (codes "<>", mark.Unequal) ∷ (codes "<=", mark.LessEqual) ∷ (codes "<", mark.Less)
    ∷ (codes "#!", mark.Differ) ∷ (codes "#", mark.Or) ∷ (codes "&", mark.And) ∷ (codes "~", mark.Not)
    ∷ (codes "==", mark.Equal) ∷ (codes "=", mark.Equal) ∷ (codes "!=", mark.Unequal)
    ∷ (codes ">=", mark.GreaterEqual) ∷ (codes ">", mark.Greater)
    ∷ (codes "+", mark.Plus) ∷ (codes "*", mark.Times) ∷ (codes "/", mark.Over) ∷ (codes "%", mark.Rest)
    ∷ (codes "$min", mark.Min) ∷ (codes "$max", mark.Max) ∷ (codes "$abs", mark.Abs) ∷ []

-- the mark that is spelled so, if there is one
unfoldable pub mark_of : List ℕ → Option Mark
mark_of bytes = lookup (bytes_eq bytes) marks
