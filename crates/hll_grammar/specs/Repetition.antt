-- Lists of things parted by commas, and the items of sections, read one after another.
use Rattle.std.specs.Prelude.{◌≡◌, ℕ, true, false, List, [], ◌∷◌, ◌++◌}
use Rattle.hll_lexer.specs.declared.token.Mark.TheVariants as mark
use Rattle.hll_lexer.specs.declared.token.Token.{Token}
use Rattle.hll_lexer.specs.declared.token.TokenKind.TheVariants as kind
use Rattle.hll_tree.specs.Spells.{Marked, Behind, Before, Listed, Items}
use Rattle.hll_grammar.specs.declared.fault.SyntaxFault.{SyntaxFault}
use Rattle.hll_grammar.specs.Lookahead.{Kinds, nothing, marks_of, list_goes_on}
use Rattle.hll_grammar.specs.Reading.{Form, Stops, IsRead, Fails, ManySoFar}
use Rattle.hll_grammar.specs.Unread.{starts}

-- a comma
abbrev pub a_comma : Kinds
a_comma = marks_of (mark.Comma ∷ [])

-- a thing behind a comma
abbrev pub IsFurtherItem : {A : Type 0} → Form A → Form A
IsFurtherItem P s = Behind (Marked mark.Comma) (P s)

-- a thing with the semicolon behind it
abbrev pub IsEnded : {A : Type 0} → Form A → Form A
IsEnded P s = Before (P s) (Marked mark.Semicolon)

-- one or more things were read
pub record ListSoFar {A : Type 0} (P : Form A) (goes_on : Kinds) (text : List ℕ) (room : ℕ) (old now : List Token) (items : List A) : Type 0 where
  pub first : A
  pub others : List A
  pub all : items ≡ first ∷ others
  pub behind_first : List Token
  pub read : IsRead P goes_on text room old behind_first first
  pub more : ManySoFar (IsFurtherItem P) (list_goes_on goes_on) text room behind_first now others

-- things of this form may be parted by commas
pub record Lists {A : Type 0} (P : Form A) (goes_on : Kinds) : Type 0 where
  pub start : (text : List ℕ) (room : ℕ) (old now : List Token) (x : A) → IsRead P goes_on text room old now x → ListSoFar P goes_on text room old now (x ∷ [])
  pub start_fails : (text : List ℕ) (room : ℕ) (old : List Token) (fault : SyntaxFault) → Fails P goes_on text room old fault →
      Fails (λ s. Listed (P s)) (list_goes_on goes_on) text room old fault
  pub further : (text : List ℕ) (room : ℕ) (old now rest new : List Token) (items : List A) (t : Token) (x : A) → ListSoFar P goes_on text room old now items →
      now ≡ t ∷ rest → t.kind ≡ kind.Mark mark.Comma → IsRead P goes_on text room rest new x → ListSoFar P goes_on text room old new (items ++ x ∷ [])
  pub further_fails : (text : List ℕ) (room : ℕ) (old now rest : List Token) (items : List A) (t : Token) (fault : SyntaxFault) → ListSoFar P goes_on text room old now items →
      now ≡ t ∷ rest → t.kind ≡ kind.Mark mark.Comma → Fails P goes_on text room rest fault → Fails (λ s. Listed (P s)) (list_goes_on goes_on) text room old fault
  pub end : (text : List ℕ) (room : ℕ) (old now : List Token) (items : List A) → ListSoFar P goes_on text room old now items → Stops a_comma now →
      IsRead (λ s. Listed (P s)) (list_goes_on goes_on) text room old now items

-- things of this form may stand in a section
pub record Repeats {A : Type 0} (P : Form A) (goes_on begins : Kinds) : Type 0 where
  pub further : (text : List ℕ) (room : ℕ) (old now mid new : List Token) (items : List A) (x : A) (t : Token) → ManySoFar (IsEnded P) begins text room old now items →
      IsRead P goes_on text room now mid x → IsRead (λ s. Marked mark.Semicolon) nothing text room mid new t →
      ManySoFar (IsEnded P) begins text room old new (items ++ x ∷ [])
  pub item_fails : (text : List ℕ) (room : ℕ) (old now : List Token) (items : List A) (fault : SyntaxFault) → ManySoFar (IsEnded P) begins text room old now items →
      starts begins now ≡ true → Fails P goes_on text room now fault → Fails (λ s. Items (P s)) begins text room old fault
  pub end_fails : (text : List ℕ) (room : ℕ) (old now mid : List Token) (items : List A) (x : A) (fault : SyntaxFault) → ManySoFar (IsEnded P) begins text room old now items →
      starts begins now ≡ true → IsRead P goes_on text room now mid x → Fails (λ s. Marked mark.Semicolon) nothing text room mid fault →
      Fails (λ s. Items (P s)) begins text room old fault
  pub end : (text : List ℕ) (room : ℕ) (old now : List Token) (items : List A) → ManySoFar (IsEnded P) begins text room old now items → starts begins now ≡ false →
      IsRead (λ s. Items (P s)) begins text room old now items
