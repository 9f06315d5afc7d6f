-- The words of the language: names, and the words that are reserved.
use Rattle.std.specs.Prelude.{ℕ, Bool, false, not, is_some, ◌&&◌, ◌||◌, ◌==◌, nat_le, IsTrue, List, [], ◌∷◌, Option, codes}
use Rattle.std.specs.List.{list_all}
use Rattle.std.specs.Map.{lookup}
use Rattle.std.specs.Str.{bytes_eq}
use Rattle.hll_lexer.specs.declared.token.Reserved.{Reserved}
use Rattle.hll_lexer.specs.declared.token.Reserved.TheVariants as word

-- a letter or `_`, with which a word begins
abbrev pub begins_word : ℕ → Bool
begins_word b = (nat_le 65 b && nat_le b 90) || (nat_le 97 b && nat_le b 122) || b == 95

-- a letter, a digit or `_`
abbrev pub continues_word : ℕ → Bool
continues_word b = begins_word b || (nat_le 48 b && nat_le b 57)

-- a letter or `_`, then letters, digits and `_`
abbrev pub IsWord : List ℕ → Type 0
IsWord [] = ⊥
IsWord (b ∷ bs) = IsTrue (begins_word b) × IsTrue (list_all continues_word bs)

-- the words that can't be names, each as it is spelled
unfoldable pub reserved_words : List (List ℕ × Reserved)
reserved_words =
    (codes "Constants", word.Constants) ∷ (codes "Types", word.Types) ∷ (codes "Inputs", word.Inputs)
    ∷ (codes "Declarations", word.Declarations) ∷ (codes "Definitions", word.Definitions)
    ∷ (codes "Constraints", word.Constraints) ∷ (codes "Proof", word.Proof) ∷ (codes "Obligations", word.Obligations)
    ∷ (codes "bool", word.Bool) ∷ (codes "int", word.Int) ∷ (codes "signed", word.Signed) ∷ (codes "unsigned", word.Unsigned)
    ∷ (codes "enum", word.Enum) ∷ (codes "sort", word.Sort) ∷ (codes "struct", word.Struct)
    ∷ (codes "true", word.True) ∷ (codes "TRUE", word.True) ∷ (codes "false", word.False) ∷ (codes "FALSE", word.False)
    ∷ (codes "if", word.If) ∷ (codes "then", word.Then) ∷ (codes "elif", word.Elif) ∷ (codes "else", word.Else)
    ∷ (codes "ALL", word.All) ∷ (codes "SOME", word.Some) ∷ (codes "SUM", word.Sum) ∷ (codes "pre", word.Pre)
    ∷ (codes "X", word.Next) ∷ (codes "I", word.First) ∷ []

-- the reserved word that is spelled so, if there is one
unfoldable pub reserved_of : List ℕ → Option Reserved
reserved_of bytes = lookup (bytes_eq bytes) reserved_words

-- a word that isn't reserved
abbrev pub is_plain_name : List ℕ → Bool
is_plain_name [] = false
is_plain_name (b ∷ bs) = begins_word b && list_all continues_word bs && not (is_some (reserved_of (b ∷ bs)))
