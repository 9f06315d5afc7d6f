-- What is known of the next token where an operand begins so.
use Rattle.std.proofs.Common.{◌≡◌, ℕ, Bool, true, false, List, [], ◌∷◌, Option, Some, None, refl, sym, ◌∙◌, ap, subst}
use Rattle.hll_lexer.specs.declared.token.Mark.{Mark}
use Rattle.hll_lexer.specs.declared.token.Mark.TheVariants as mark
use Rattle.hll_lexer.specs.declared.token.Reserved.{Reserved}
use Rattle.hll_lexer.specs.declared.token.Reserved.TheVariants as reserved
use Rattle.hll_lexer.specs.declared.token.Token.{Token}
use Rattle.hll_lexer.specs.declared.token.TokenKind.{TokenKind}
use Rattle.hll_lexer.specs.declared.token.TokenKind.TheVariants as kind
use Rattle.hll_tree.specs.declared.tree.Quant.{Quant}
use Rattle.hll_tree.specs.declared.tree.Quant.TheVariants as quant
use Rattle.hll_tree.specs.Spells.{word_of}
use Rattle.hll_grammar.specs.Lookahead.{Kinds, holds, a_name, a_number, words_of, marks_of, begins_operand, mark_number, word_number}
use Rattle.hll_grammar.specs.Reading.{Stops}
use Rattle.hll_grammar.specs.Starts.{start_of_kind, start_of_word, start_of_mark, start_of_next, is_start}
use Rattle.hll_grammar.specs.Unread.{starts, next_kind}
use Rattle.hll_grammar.specs.declared.primary.Start.{Start}
use Rattle.hll_grammar.specs.declared.primary.Start.TheVariants as start
use Rattle.hll_grammar.proofs.Parts.{Begins}
use Rattle.hll_grammar.proofs.Tokens.{a_truth}

-- a token of this kind begins so
abbrev FitsKind : Start → TokenKind → Type 0
FitsKind start.Number k = holds a_number k ≡ true
FitsKind start.Name k = holds a_name k ≡ true
FitsKind start.Truth k = holds a_truth k ≡ true
FitsKind (start.Quantifier q) k = holds (words_of (word_of q ∷ [])) k ≡ true
FitsKind start.Other k = holds begins_operand k ≡ false
FitsKind start.Minus k = holds (marks_of (mark.Minus ∷ [])) k ≡ true
FitsKind start.Not k = holds (marks_of (mark.Not ∷ [])) k ≡ true
FitsKind start.Parenthesis k = holds (marks_of (mark.Open ∷ [])) k ≡ true
FitsKind start.Brace k = holds (marks_of (mark.OpenBrace ∷ [])) k ≡ true
FitsKind start.Pre k = holds (words_of (reserved.Pre ∷ [])) k ≡ true
FitsKind start.Least k = holds (marks_of (mark.Min ∷ [])) k ≡ true
FitsKind start.Greatest k = holds (marks_of (mark.Max ∷ [])) k ≡ true
FitsKind start.Size k = holds (marks_of (mark.Abs ∷ [])) k ≡ true

fits_word : (w : Reserved) → FitsKind (start_of_word w) (kind.Reserved w)
unfolding word_number
fits_word reserved.Constants = refl
fits_word reserved.Types = refl
fits_word reserved.Inputs = refl
fits_word reserved.Declarations = refl
fits_word reserved.Definitions = refl
fits_word reserved.Constraints = refl
fits_word reserved.Proof = refl
fits_word reserved.Obligations = refl
fits_word reserved.Bool = refl
fits_word reserved.Int = refl
fits_word reserved.Signed = refl
fits_word reserved.Unsigned = refl
fits_word reserved.Enum = refl
fits_word reserved.Sort = refl
fits_word reserved.Struct = refl
fits_word reserved.True = refl
fits_word reserved.False = refl
fits_word reserved.If = refl
fits_word reserved.Then = refl
fits_word reserved.Elif = refl
fits_word reserved.Else = refl
fits_word reserved.All = refl
fits_word reserved.Some = refl
fits_word reserved.Sum = refl
fits_word reserved.Pre = refl
fits_word reserved.Next = refl
fits_word reserved.First = refl

fits_mark : (m : Mark) → FitsKind (start_of_mark m) (kind.Mark m)
unfolding mark_number
fits_mark mark.Assign = refl
fits_mark mark.Colon = refl
fits_mark mark.Semicolon = refl
fits_mark mark.Comma = refl
fits_mark mark.Open = refl
fits_mark mark.Close = refl
fits_mark mark.OpenBracket = refl
fits_mark mark.CloseBracket = refl
fits_mark mark.OpenBrace = refl
fits_mark mark.CloseBrace = refl
fits_mark mark.Dot = refl
fits_mark mark.Implies = refl
fits_mark mark.Same = refl
fits_mark mark.Differ = refl
fits_mark mark.Or = refl
fits_mark mark.And = refl
fits_mark mark.Not = refl
fits_mark mark.Equal = refl
fits_mark mark.Unequal = refl
fits_mark mark.Less = refl
fits_mark mark.LessEqual = refl
fits_mark mark.Greater = refl
fits_mark mark.GreaterEqual = refl
fits_mark mark.Plus = refl
fits_mark mark.Minus = refl
fits_mark mark.Times = refl
fits_mark mark.Over = refl
fits_mark mark.Rest = refl
fits_mark mark.Min = refl
fits_mark mark.Max = refl
fits_mark mark.Abs = refl

fits_kind : (k : TokenKind) → FitsKind (start_of_kind k) k
fits_kind kind.Name = refl
fits_kind (kind.Number n) = refl
fits_kind (kind.Reserved w) = fits_word w
fits_kind (kind.Mark m) = fits_mark m

-- an operand begins so with the next token
abbrev Fits : Start → List Token → Type 0
Fits s [] = s ≡ start.Other
Fits s (t ∷ ts) = FitsKind s t.kind

fits : (ts : List Token) → Fits (start_of_next (next_kind ts)) ts
fits [] = refl
fits (t ∷ ts) = fits_kind t.kind

begins_minus : (ts : List Token) → Fits start.Minus ts → Begins (marks_of (mark.Minus ∷ [])) false ts
begins_minus [] f = cc
begins_minus (t ∷ ts) f = f

begins_not : (ts : List Token) → Fits start.Not ts → Begins (marks_of (mark.Not ∷ [])) false ts
begins_not [] f = cc
begins_not (t ∷ ts) f = f

begins_parenthesis : (ts : List Token) → Fits start.Parenthesis ts → Begins (marks_of (mark.Open ∷ [])) false ts
begins_parenthesis [] f = cc
begins_parenthesis (t ∷ ts) f = f

begins_brace : (ts : List Token) → Fits start.Brace ts → Begins (marks_of (mark.OpenBrace ∷ [])) false ts
begins_brace [] f = cc
begins_brace (t ∷ ts) f = f

begins_pre : (ts : List Token) → Fits start.Pre ts → Begins (words_of (reserved.Pre ∷ [])) false ts
begins_pre [] f = cc
begins_pre (t ∷ ts) f = f

begins_least : (ts : List Token) → Fits start.Least ts → Begins (marks_of (mark.Min ∷ [])) false ts
begins_least [] f = cc
begins_least (t ∷ ts) f = f

begins_greatest : (ts : List Token) → Fits start.Greatest ts → Begins (marks_of (mark.Max ∷ [])) false ts
begins_greatest [] f = cc
begins_greatest (t ∷ ts) f = f

begins_size : (ts : List Token) → Fits start.Size ts → Begins (marks_of (mark.Abs ∷ [])) false ts
begins_size [] f = cc
begins_size (t ∷ ts) f = f

begins_number : (ts : List Token) → Fits start.Number ts → Begins (a_number) false ts
begins_number [] f = cc
begins_number (t ∷ ts) f = f

begins_name : (ts : List Token) → Fits start.Name ts → Begins (a_name) false ts
begins_name [] f = cc
begins_name (t ∷ ts) f = f

begins_truth : (ts : List Token) → Fits start.Truth ts → Begins a_truth false ts
begins_truth [] f = cc
begins_truth (t ∷ ts) f = f

begins_quantifier : (q : Quant) (ts : List Token) → Fits (start.Quantifier q) ts → Begins (words_of (word_of q ∷ [])) false ts
begins_quantifier q [] f = cc
begins_quantifier q (t ∷ ts) f = f

stops_other : (ts : List Token) → Fits start.Other ts → Stops begins_operand ts
stops_other [] f = tt
stops_other (t ∷ ts) f = f

module _ (ts : List Token) where
  pub minus_begins : start_of_next (next_kind ts) ≡ start.Minus → Begins (marks_of (mark.Minus ∷ [])) false ts
  minus_begins e = begins_minus ts (subst (λ (s : Start). Fits s ts) e (fits ts))

  pub not_begins : start_of_next (next_kind ts) ≡ start.Not → Begins (marks_of (mark.Not ∷ [])) false ts
  not_begins e = begins_not ts (subst (λ (s : Start). Fits s ts) e (fits ts))

  pub parenthesis_begins : start_of_next (next_kind ts) ≡ start.Parenthesis → Begins (marks_of (mark.Open ∷ [])) false ts
  parenthesis_begins e = begins_parenthesis ts (subst (λ (s : Start). Fits s ts) e (fits ts))

  pub brace_begins : start_of_next (next_kind ts) ≡ start.Brace → Begins (marks_of (mark.OpenBrace ∷ [])) false ts
  brace_begins e = begins_brace ts (subst (λ (s : Start). Fits s ts) e (fits ts))

  pub pre_begins : start_of_next (next_kind ts) ≡ start.Pre → Begins (words_of (reserved.Pre ∷ [])) false ts
  pre_begins e = begins_pre ts (subst (λ (s : Start). Fits s ts) e (fits ts))

  pub least_begins : start_of_next (next_kind ts) ≡ start.Least → Begins (marks_of (mark.Min ∷ [])) false ts
  least_begins e = begins_least ts (subst (λ (s : Start). Fits s ts) e (fits ts))

  pub greatest_begins : start_of_next (next_kind ts) ≡ start.Greatest → Begins (marks_of (mark.Max ∷ [])) false ts
  greatest_begins e = begins_greatest ts (subst (λ (s : Start). Fits s ts) e (fits ts))

  pub size_begins : start_of_next (next_kind ts) ≡ start.Size → Begins (marks_of (mark.Abs ∷ [])) false ts
  size_begins e = begins_size ts (subst (λ (s : Start). Fits s ts) e (fits ts))

  pub number_begins : start_of_next (next_kind ts) ≡ start.Number → Begins (a_number) false ts
  number_begins e = begins_number ts (subst (λ (s : Start). Fits s ts) e (fits ts))

  pub name_begins : start_of_next (next_kind ts) ≡ start.Name → Begins (a_name) false ts
  name_begins e = begins_name ts (subst (λ (s : Start). Fits s ts) e (fits ts))

  pub truth_begins : start_of_next (next_kind ts) ≡ start.Truth → Begins a_truth false ts
  truth_begins e = begins_truth ts (subst (λ (s : Start). Fits s ts) e (fits ts))

  pub quantifier_begins : (q : Quant) → start_of_next (next_kind ts) ≡ start.Quantifier q → Begins (words_of (word_of q ∷ [])) false ts
  quantifier_begins q e = begins_quantifier q ts (subst (λ (s : Start). Fits s ts) e (fits ts))

  pub other_stops : start_of_next (next_kind ts) ≡ start.Other → Stops begins_operand ts
  other_stops e = stops_other ts (subst (λ (s : Start). Fits s ts) e (fits ts))

-- ---- whether an operand stands next

is_start_word : (w : Reserved) → is_start (start_of_word w) ≡ holds begins_operand (kind.Reserved w)
unfolding word_number
is_start_word reserved.Constants = refl
is_start_word reserved.Types = refl
is_start_word reserved.Inputs = refl
is_start_word reserved.Declarations = refl
is_start_word reserved.Definitions = refl
is_start_word reserved.Constraints = refl
is_start_word reserved.Proof = refl
is_start_word reserved.Obligations = refl
is_start_word reserved.Bool = refl
is_start_word reserved.Int = refl
is_start_word reserved.Signed = refl
is_start_word reserved.Unsigned = refl
is_start_word reserved.Enum = refl
is_start_word reserved.Sort = refl
is_start_word reserved.Struct = refl
is_start_word reserved.True = refl
is_start_word reserved.False = refl
is_start_word reserved.If = refl
is_start_word reserved.Then = refl
is_start_word reserved.Elif = refl
is_start_word reserved.Else = refl
is_start_word reserved.All = refl
is_start_word reserved.Some = refl
is_start_word reserved.Sum = refl
is_start_word reserved.Pre = refl
is_start_word reserved.Next = refl
is_start_word reserved.First = refl

is_start_mark : (m : Mark) → is_start (start_of_mark m) ≡ holds begins_operand (kind.Mark m)
unfolding mark_number
is_start_mark mark.Assign = refl
is_start_mark mark.Colon = refl
is_start_mark mark.Semicolon = refl
is_start_mark mark.Comma = refl
is_start_mark mark.Open = refl
is_start_mark mark.Close = refl
is_start_mark mark.OpenBracket = refl
is_start_mark mark.CloseBracket = refl
is_start_mark mark.OpenBrace = refl
is_start_mark mark.CloseBrace = refl
is_start_mark mark.Dot = refl
is_start_mark mark.Implies = refl
is_start_mark mark.Same = refl
is_start_mark mark.Differ = refl
is_start_mark mark.Or = refl
is_start_mark mark.And = refl
is_start_mark mark.Not = refl
is_start_mark mark.Equal = refl
is_start_mark mark.Unequal = refl
is_start_mark mark.Less = refl
is_start_mark mark.LessEqual = refl
is_start_mark mark.Greater = refl
is_start_mark mark.GreaterEqual = refl
is_start_mark mark.Plus = refl
is_start_mark mark.Minus = refl
is_start_mark mark.Times = refl
is_start_mark mark.Over = refl
is_start_mark mark.Rest = refl
is_start_mark mark.Min = refl
is_start_mark mark.Max = refl
is_start_mark mark.Abs = refl

is_start_kind : (k : TokenKind) → is_start (start_of_kind k) ≡ holds begins_operand k
is_start_kind kind.Name = refl
is_start_kind (kind.Number n) = refl
is_start_kind (kind.Reserved w) = is_start_word w
is_start_kind (kind.Mark m) = is_start_mark m

pub is_start_next : (ts : List Token) → is_start (start_of_next (next_kind ts)) ≡ starts begins_operand ts
is_start_next [] = refl
is_start_next (t ∷ ts) = is_start_kind t.kind
