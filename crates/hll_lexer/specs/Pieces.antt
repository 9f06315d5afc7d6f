-- What stands at a place of a text: a blank, a comment, a token, or a fault.
use Rattle.std.specs.Prelude.{◌≡◌, ℕ, ◌+◌, ◌<◌, ◌≤◌, ◌-◌, ◌^◌, Bool, false, not, ◌&&◌, ◌||◌, ◌⊎◌, ◌==◌, nat_le, IsTrue, List, [], ◌∷◌, ◌++◌, length, take, drop, Option, Some, None, codes, pos}
use Rattle.std.specs.List.{list_all}
use Rattle.hll_lexer.specs.Place.{is_line_feed}
use Rattle.hll_lexer.specs.declared.fault.Fault.{Fault}
use Rattle.hll_lexer.specs.declared.fault.Fault.TheVariants as fault
use Rattle.hll_lexer.specs.declared.token.TokenKind.{TokenKind}
use Rattle.hll_lexer.specs.declared.token.TokenKind.TheVariants.{Name, Number, Reserved, Mark}
use Rattle.hll_lexer.specs.Words.{begins_word, reserved_of, is_plain_name}
use Rattle.hll_lexer.specs.Numbers.{is_digit, IsNumber, number_worth}
use Rattle.hll_lexer.specs.Marks.{mark_of}

-- space, tab, line feed and carriage return
abbrev pub is_blank : ℕ → Bool
is_blank b = b == 32 || b == 9 || b == 10 || b == 13

-- each of these bytes passes
abbrev pub AllPass : (ℕ → Bool) → List ℕ → Type 0
AllPass p bytes = IsTrue (list_all p bytes)

-- the first of these bytes doesn't pass, or there is none
abbrev pub Stops : (ℕ → Bool) → List ℕ → Type 0
Stops p [] = Unit {0}
Stops p (b ∷ bs) = p b ≡ false

-- ---- comments

-- `//` and all bytes before the next line feed, or all to the end
pub record IsLineComment (bytes rest : List ℕ) : Type 0 where
  pub inner : List ℕ
  pub whole : bytes ≡ codes "//" ++ inner
  pub line : AllPass (λ b. not (is_line_feed b)) inner
  pub ends : Stops (λ b. not (is_line_feed b)) rest

-- the bytes have no `*/` in them
abbrev pub IsUnclosed : List ℕ → Type 0
IsUnclosed bytes = (before after : List ℕ) → bytes ≡ before ++ codes "*/" ++ after → ⊥

-- `/*` and all bytes up to the next `*/`, and that
pub record IsBlockComment (bytes : List ℕ) : Type 0 where
  pub inner : List ℕ
  pub whole : bytes ≡ codes "/*" ++ inner ++ codes "*/"
  pub first : IsUnclosed (inner ++ codes "*")

-- the first `*/` of these bytes ends behind so many of them
pub record ClosesAt (bytes : List ℕ) (n : ℕ) : Type 0 where
  pub inner : List ℕ
  pub after : List ℕ
  pub whole : bytes ≡ inner ++ codes "*/" ++ after
  pub first : IsUnclosed (inner ++ codes "*")
  pub place : n ≡ length inner + 2

-- the text begins with `//` or `/*`
pub data BeginsComment (text : List ℕ) : Type 0 where
  line : (after : List ℕ) → text ≡ codes "//" ++ after → BeginsComment text
  block : (after : List ℕ) → text ≡ codes "/*" ++ after → BeginsComment text

-- ---- tokens

-- a byte that may stand between quotes: a space or a printable ASCII character, but no quote
abbrev pub is_quotable : ℕ → Bool
is_quotable b = nat_le 32 b && nat_le b 126 && not (b == 39)

-- one or more bytes between quotes
pub record IsQuoted (bytes : List ℕ) : Type 0 where
  pub inner : List ℕ
  pub whole : bytes ≡ codes "'" ++ inner ++ codes "'"
  pub some : 0 < length inner
  pub quotable : AllPass is_quotable inner

-- these bytes are a token of this kind
abbrev pub IsToken : List ℕ → TokenKind → Type 0
IsToken bytes Name = IsTrue (is_plain_name bytes) ⊎ IsQuoted bytes
IsToken bytes (Number n) = IsNumber bytes × (n ≡ pos (number_worth bytes))
IsToken bytes (Reserved word) = reserved_of bytes ≡ Some word
IsToken bytes (Mark mark) = mark_of bytes ≡ Some mark

-- these bytes are a token of this kind, no longer one stands at the front of the text, and no comment begins there
pub record IsLongestToken (bytes : List ℕ) (kind : TokenKind) (rest : List ℕ) : Type 0 where
  pub token : IsToken bytes kind
  pub longest : (front after : List ℕ) (other : TokenKind) → bytes ++ rest ≡ front ++ after → IsToken front other → length front ≤ length bytes
  pub apart : BeginsComment (bytes ++ rest) → ⊥

-- the greatest number that a token may be
abbrev pub greatest : ℕ
greatest = 2 ^ 127 - 1

-- where these bytes are a number, it isn't above the greatest
abbrev pub IsWithin : TokenKind → List ℕ → Type 0
IsWithin Name bytes = Unit {0}
IsWithin (Number _) bytes = number_worth bytes ≤ greatest
IsWithin (Reserved _) bytes = Unit {0}
IsWithin (Mark _) bytes = Unit {0}

-- ---- what stands at the front of a text

-- one blank
abbrev pub IsBlank : List ℕ → Type 0
IsBlank bytes = (b : ℕ) × (bytes ≡ b ∷ []) × IsTrue (is_blank b)

-- what these bytes are, with the rest of the text behind them: the longest token, of a kind; with no kind, a blank or a comment
abbrev pub Stands : Option TokenKind → List ℕ → List ℕ → Type 0
Stands None bytes rest = IsBlank bytes ⊎ (IsLineComment bytes rest ⊎ IsBlockComment bytes)
Stands (Some kind) bytes rest = IsLongestToken bytes kind rest × IsWithin kind bytes

-- a comment that isn't closed, or a quote that isn't, as the run of bytes behind it that may stand between quotes ends at no quote
pub data IsOpen (text : List ℕ) : Type 0 where
  comment : (after : List ℕ) → text ≡ codes "/*" ++ after → IsUnclosed after → IsOpen text
  quote : (run rest : List ℕ) → text ≡ codes "'" ++ run ++ rest → AllPass is_quotable run → Stops (λ b. is_quotable b || b == 39) rest → IsOpen text

-- the longest token is a number above the greatest
pub record IsTooGreat (text : List ℕ) : Type 0 where
  pub bytes : List ℕ
  pub rest : List ℕ
  pub whole : text ≡ bytes ++ rest
  pub number : IsLongestToken bytes (Number (pos (number_worth bytes))) rest
  pub above : greatest < number_worth bytes

-- no token, blank or comment begins there, not even one that isn't closed or is too great
pub record IsStray (text : List ℕ) : Type 0 where
  pub some : 0 < length text
  pub nothing : (kind : Option TokenKind) (bytes rest : List ℕ) → text ≡ bytes ++ rest → Stands kind bytes rest → ⊥
  pub not_open : IsOpen text → ⊥
  pub not_great : IsTooGreat text → ⊥

-- a byte with which no blank, name, reserved word or number begins
pub record IsSign (b : ℕ) : Type 0 where
  pub no_blank : is_blank b ≡ false
  pub no_letter : begins_word b ≡ false
  pub no_digit : is_digit 10 b ≡ false
  pub no_quote : (b == 39) ≡ false

-- this fault stands at the front of the text
abbrev pub IsFault : List ℕ → Fault → Type 0
IsFault text fault.Stray = IsStray text
IsFault text fault.Unclosed = IsOpen text
IsFault text fault.Number = IsTooGreat text

-- so many bytes at the front of the text are this
pub record IsFront (text : List ℕ) (kind : Option TokenKind) (len : ℕ) : Type 0 where
  pub some : 0 < len
  pub fits : len ≤ length text
  pub stands : Stands kind (take len text) (drop len text)
