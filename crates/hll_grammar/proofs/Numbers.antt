-- Marks and words have numbers of their own.
use Rattle.std.proofs.Common.{◌≡◌, ℕ, List, [], ◌∷◌, get_or, refl, sym, ◌∙◌, ap}
use Rattle.hll_lexer.specs.declared.token.Mark.{Mark}
use Rattle.hll_lexer.specs.declared.token.Mark.TheVariants as mark
use Rattle.hll_lexer.specs.declared.token.Reserved.{Reserved}
use Rattle.hll_lexer.specs.declared.token.Reserved.TheVariants as reserved
use Rattle.hll_grammar.specs.Lookahead.{mark_number, word_number}

-- all marks, by their numbers
all_marks : List Mark
all_marks =
    mark.Assign ∷ mark.Colon ∷ mark.Semicolon ∷ mark.Comma ∷ mark.Open ∷ mark.Close ∷ mark.OpenBracket ∷ mark.CloseBracket ∷ mark.OpenBrace ∷ mark.CloseBrace ∷ mark.Dot ∷ mark.Implies ∷ mark.Same ∷ mark.Differ ∷ mark.Or ∷ mark.And ∷ mark.Not ∷ mark.Equal ∷ mark.Unequal ∷ mark.Less ∷ mark.LessEqual ∷ mark.Greater ∷ mark.GreaterEqual ∷ mark.Plus ∷ mark.Minus ∷ mark.Times ∷ mark.Over ∷ mark.Rest ∷ mark.Min ∷ mark.Max ∷ mark.Abs ∷ []

-- all words, by their numbers
all_words : List Reserved
all_words =
    reserved.Constants ∷ reserved.Types ∷ reserved.Inputs ∷ reserved.Declarations ∷ reserved.Definitions ∷ reserved.Constraints ∷ reserved.Proof ∷ reserved.Obligations ∷ reserved.Bool ∷ reserved.Int ∷ reserved.Signed ∷ reserved.Unsigned ∷ reserved.Enum ∷ reserved.Sort ∷ reserved.Struct ∷ reserved.True ∷ reserved.False ∷ reserved.If ∷ reserved.Then ∷ reserved.Elif ∷ reserved.Else ∷ reserved.All ∷ reserved.Some ∷ reserved.Sum ∷ reserved.Pre ∷ reserved.Next ∷ reserved.First ∷ []

mark_back : (m : Mark) → get_or all_marks (mark_number m) mark.Assign ≡ m
unfolding mark_number all_marks
mark_back mark.Assign = refl
mark_back mark.Colon = refl
mark_back mark.Semicolon = refl
mark_back mark.Comma = refl
mark_back mark.Open = refl
mark_back mark.Close = refl
mark_back mark.OpenBracket = refl
mark_back mark.CloseBracket = refl
mark_back mark.OpenBrace = refl
mark_back mark.CloseBrace = refl
mark_back mark.Dot = refl
mark_back mark.Implies = refl
mark_back mark.Same = refl
mark_back mark.Differ = refl
mark_back mark.Or = refl
mark_back mark.And = refl
mark_back mark.Not = refl
mark_back mark.Equal = refl
mark_back mark.Unequal = refl
mark_back mark.Less = refl
mark_back mark.LessEqual = refl
mark_back mark.Greater = refl
mark_back mark.GreaterEqual = refl
mark_back mark.Plus = refl
mark_back mark.Minus = refl
mark_back mark.Times = refl
mark_back mark.Over = refl
mark_back mark.Rest = refl
mark_back mark.Min = refl
mark_back mark.Max = refl
mark_back mark.Abs = refl

word_back : (w : Reserved) → get_or all_words (word_number w) reserved.Constants ≡ w
unfolding word_number all_words
word_back reserved.Constants = refl
word_back reserved.Types = refl
word_back reserved.Inputs = refl
word_back reserved.Declarations = refl
word_back reserved.Definitions = refl
word_back reserved.Constraints = refl
word_back reserved.Proof = refl
word_back reserved.Obligations = refl
word_back reserved.Bool = refl
word_back reserved.Int = refl
word_back reserved.Signed = refl
word_back reserved.Unsigned = refl
word_back reserved.Enum = refl
word_back reserved.Sort = refl
word_back reserved.Struct = refl
word_back reserved.True = refl
word_back reserved.False = refl
word_back reserved.If = refl
word_back reserved.Then = refl
word_back reserved.Elif = refl
word_back reserved.Else = refl
word_back reserved.All = refl
word_back reserved.Some = refl
word_back reserved.Sum = refl
word_back reserved.Pre = refl
word_back reserved.Next = refl
word_back reserved.First = refl

pub mark_by_number : (m n : Mark) → mark_number m ≡ mark_number n → m ≡ n
mark_by_number m n e = sym (mark_back m) ∙ ap (λ (k : ℕ). get_or all_marks k mark.Assign) e ∙ mark_back n

pub word_by_number : (v w : Reserved) → word_number v ≡ word_number w → v ≡ w
word_by_number v w e = sym (word_back v) ∙ ap (λ (k : ℕ). get_or all_words k reserved.Constants) e ∙ word_back w
