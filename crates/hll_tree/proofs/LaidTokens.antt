-- Words, marks, names and numbers, as they are printed.
use Rattle.std.proofs.Common.{◌≡◌, ℕ, ◌+◌, ◌-◌, ◌*◌, ◌/◌, ◌%◌, ◌<◌, ◌≤◌, Bool, true, false, eqb, ◌||◌, List, [], ◌∷◌, ◌++◌, length, take, drop, get_or, Some, None, ◌⊎◌, inl, inr, refl, sym, ap, subst, ◌∙◌, arith, codes, pos, append_assoc, append-nil, length-append, take_at, zero-add}
use Rattle.std.specs.Prelude.{decimal, slice_range, nat_eq, if◌then◌else◌, not, is_some, ◌&&◌}
use Rattle.std.specs.List.{list_all, fold}
use Rattle.std.proofs.lemmas.Bool.{both_ways, and_parts, false≢true}
use Rattle.std.proofs.lemmas.Bool.Decides.{nat_tests}
use Rattle.std.proofs.lemmas.List.{drop_at}
use Rattle.std.proofs.lemmas.Fmt.{decimal_by_steps_wide}
use Rattle.hll_lexer.specs.Marks.{marks, mark_of}
use Rattle.hll_lexer.specs.Names.{unquoted}
use Rattle.hll_lexer.specs.Numbers.{is_digit, worth, digits_worth, number_worth}
use Rattle.hll_lexer.specs.Pieces.{AllPass, Stops, IsToken, IsWithin, is_blank, is_quotable, greatest}
use Rattle.hll_lexer.specs.Tokens.{tokens_of}
use Rattle.hll_lexer.specs.Words.{begins_word, continues_word, reserved_of, reserved_words, is_plain_name}
use Rattle.hll_lexer.specs.declared.token.Mark.{Mark}
use Rattle.hll_lexer.specs.declared.token.Mark.TheVariants as mark
use Rattle.hll_lexer.specs.declared.token.Reserved.{Reserved}
use Rattle.hll_lexer.specs.declared.token.Reserved.TheVariants as reserved
use Rattle.hll_lexer.specs.declared.token.Token.{Token}
use Rattle.hll_lexer.specs.declared.token.TokenKind.{TokenKind}
use Rattle.hll_lexer.specs.declared.token.TokenKind.TheVariants as kind
use Rattle.hll_lexer.proofs.FormLemmas.{Start, letter_starts, digit_starts}
use Rattle.hll_lexer.proofs.NumberLemmas.{number_first}
use Rattle.hll_lexer.proofs.SeamLemmas.{extends, extends_by, token_stands, plain_token, quoted_token, decimal_token, blank_stands}
use Rattle.hll_lexer.proofs.SplitLemmas.{text_of-append, AllStand-append, tokens_of-append}
use Rattle.hll_tree.specs.declared.tree.Name.{Name}
use Rattle.hll_tree.specs.Printing.{Text, name_text}
use Rattle.hll_tree.specs.Spells.{One, Marked, Worded, name_at}
use Rattle.hll_tree.proofs.Laid.{InText, Reads, Laid, Any, never, laid_narrower}

-- ---- one token

-- the token that these bytes are behind a front
abbrev pub token_there : TokenKind → Text → Text → Token
token_there k front t = record { kind = k; from = length front; to = length front + length t }

pub laid_token : {A : Type 0} (p : ℕ → Bool) (t : Text) (k : TokenKind) (relation : Text → Token → A → Type 0) (R : A → Type 0) → IsToken t k → IsWithin k t → ((rest : Text) → Stops p rest → Stops (extends t) rest) →
    ((front rest : Text) → (x : A) × relation (front ++ (t ++ rest)) (token_there k front t) x × R x) → Laid p t (λ w. One (relation w)) R
laid_token p t k relation R is within ends value = λ front rest h.
    let v = value front rest in
    record {
      pieces = record { bytes = t; kind = Some k } ∷ [];
      whole = sym (append-nil t);
      stand = (token_stands t rest k is within (ends rest h), tt);
      value = v.0;
      spelled = (token_there k front t, refl, v.1);
      right = v.2;
    }

-- a byte that stops the one stops the other
pub stops_also : (p q : ℕ → Bool) → ((b : ℕ) → p b ≡ false → q b ≡ false) → (rest : Text) → Stops p rest → Stops q rest
stops_also p q also [] h = tt
stops_also p q also (b ∷ bs) h = also b h

-- ---- a blank behind

reads_and_blank : {A : Type 0} {P : InText A} {R : A → Type 0} (b : ℕ) (front t rest : Text) → is_blank b ≡ true → Reads P R front t (b ∷ [] ++ rest) → Reads P R front (t ++ b ∷ []) rest
reads_and_blank {P = P} b front t rest blank r = record {
  pieces = r.pieces ++ record { bytes = b ∷ []; kind = None } ∷ [];
  whole = ap (λ (s : Text). s ++ b ∷ []) r.whole ∙ sym (text_of-append r.pieces (record { bytes = b ∷ []; kind = None } ∷ []));
  stand = AllStand-append r.pieces (record { bytes = b ∷ []; kind = None } ∷ []) rest r.stand (blank_stands b rest blank, tt);
  value = r.value;
  spelled = subst (λ (w : Text). P (front ++ w) (tokens_of (length front) (r.pieces ++ record { bytes = b ∷ []; kind = None } ∷ [])) r.value) (sym (append_assoc t (b ∷ []) rest))
      (subst (λ (ts : List Token). P (front ++ (t ++ (b ∷ [] ++ rest))) ts r.value) (sym (tokens_of-append (length front) r.pieces (record { bytes = b ∷ []; kind = None } ∷ []) ∙ append-nil (tokens_of (length front) r.pieces))) r.spelled);
  right = r.right;
}

pub laid_and_blank : {A : Type 0} {P : InText A} {R : A → Type 0} (p : ℕ → Bool) (b : ℕ) (t : Text) → is_blank b ≡ true → p b ≡ false → Laid p t P R → Laid never (t ++ b ∷ []) P R
laid_and_blank p b t blank stops a = λ front rest h. reads_and_blank b front t rest blank (a front (b ∷ [] ++ rest) stops)

-- ---- words

-- how a word is printed
abbrev pub word_text : Reserved → Text
word_text reserved.Constants = codes "Constants"
word_text reserved.Types = codes "Types"
word_text reserved.Inputs = codes "Inputs"
word_text reserved.Declarations = codes "Declarations"
word_text reserved.Definitions = codes "Definitions"
word_text reserved.Constraints = codes "Constraints"
word_text reserved.Proof = codes "Proof"
word_text reserved.Obligations = codes "Obligations"
word_text reserved.Bool = codes "bool"
word_text reserved.Int = codes "int"
word_text reserved.Signed = codes "signed"
word_text reserved.Unsigned = codes "unsigned"
word_text reserved.Enum = codes "enum"
word_text reserved.Sort = codes "sort"
word_text reserved.Struct = codes "struct"
word_text reserved.True = codes "true"
word_text reserved.False = codes "false"
word_text reserved.If = codes "if"
word_text reserved.Then = codes "then"
word_text reserved.Elif = codes "elif"
word_text reserved.Else = codes "else"
word_text reserved.All = codes "ALL"
word_text reserved.Some = codes "SOME"
word_text reserved.Sum = codes "SUM"
word_text reserved.Pre = codes "pre"
word_text reserved.Next = codes "X"
word_text reserved.First = codes "I"

word_is : (w : Reserved) → reserved_of (word_text w) ≡ Some w
unfolding reserved_of reserved_words
word_is reserved.Constants = refl
word_is reserved.Types = refl
word_is reserved.Inputs = refl
word_is reserved.Declarations = refl
word_is reserved.Definitions = refl
word_is reserved.Constraints = refl
word_is reserved.Proof = refl
word_is reserved.Obligations = refl
word_is reserved.Bool = refl
word_is reserved.Int = refl
word_is reserved.Signed = refl
word_is reserved.Unsigned = refl
word_is reserved.Enum = refl
word_is reserved.Sort = refl
word_is reserved.Struct = refl
word_is reserved.True = refl
word_is reserved.False = refl
word_is reserved.If = refl
word_is reserved.Then = refl
word_is reserved.Elif = refl
word_is reserved.Else = refl
word_is reserved.All = refl
word_is reserved.Some = refl
word_is reserved.Sum = refl
word_is reserved.Pre = refl
word_is reserved.Next = refl
word_is reserved.First = refl

word_starts : (w : Reserved) → begins_word (get_or (word_text w) 0 0) ≡ true
word_starts reserved.Constants = refl
word_starts reserved.Types = refl
word_starts reserved.Inputs = refl
word_starts reserved.Declarations = refl
word_starts reserved.Definitions = refl
word_starts reserved.Constraints = refl
word_starts reserved.Proof = refl
word_starts reserved.Obligations = refl
word_starts reserved.Bool = refl
word_starts reserved.Int = refl
word_starts reserved.Signed = refl
word_starts reserved.Unsigned = refl
word_starts reserved.Enum = refl
word_starts reserved.Sort = refl
word_starts reserved.Struct = refl
word_starts reserved.True = refl
word_starts reserved.False = refl
word_starts reserved.If = refl
word_starts reserved.Then = refl
word_starts reserved.Elif = refl
word_starts reserved.Else = refl
word_starts reserved.All = refl
word_starts reserved.Some = refl
word_starts reserved.Sum = refl
word_starts reserved.Pre = refl
word_starts reserved.Next = refl
word_starts reserved.First = refl

-- what begins as a word does ends before a byte that isn't one of a word
letter_ends : (t : Text) → begins_word (get_or t 0 0) ≡ true → (rest : Text) → Stops continues_word rest → Stops (extends t) rest
letter_ends t begins = stops_also continues_word (extends t) (λ b h. ap (λ (s : Start). extends_by s t b) (letter_starts (get_or t 0 0) begins) ∙ h)

-- a word, in any relation to its token
pub laid_worded : {A : Type 0} (w : Reserved) (relation : Text → Token → A → Type 0) (R : A → Type 0) →
    ((front rest : Text) → (x : A) × relation (front ++ (word_text w ++ rest)) (token_there (kind.Reserved w) front (word_text w)) x × R x) →
    Laid continues_word (word_text w) (λ t. One (relation t)) R
laid_worded w relation R value = laid_token continues_word (word_text w) (kind.Reserved w) relation R (word_is w) tt (letter_ends (word_text w) (word_starts w)) value

pub laid_word : (w : Reserved) → Laid continues_word (word_text w) (λ _. Worded w) Any
laid_word w = laid_worded w (λ _ t x. (t.kind ≡ kind.Reserved w) × (x ≡ t)) Any (λ front rest. (token_there (kind.Reserved w) front (word_text w), (refl, refl), tt))

-- a word with a blank behind it
pub laid_word_and : (w : Reserved) → Laid never (word_text w ++ 32 ∷ []) (λ _. Worded w) Any
laid_word_and w = laid_and_blank continues_word 32 (word_text w) refl refl (laid_word w)

-- ---- marks

-- how a mark is printed
abbrev pub mark_text : Mark → Text
mark_text mark.Assign = codes ":="
mark_text mark.Colon = codes ":"
mark_text mark.Semicolon = codes ";"
mark_text mark.Comma = codes ","
mark_text mark.Open = codes "("
mark_text mark.Close = codes ")"
mark_text mark.OpenBracket = codes "["
mark_text mark.CloseBracket = codes "]"
mark_text mark.OpenBrace = codes "{"
mark_text mark.CloseBrace = codes "}"
mark_text mark.Dot = codes "."
mark_text mark.Implies = codes "->"
mark_text mark.Same = codes "<->"
mark_text mark.Differ = codes "#!"
mark_text mark.Or = codes "#"
mark_text mark.And = codes "&"
mark_text mark.Not = codes "~"
mark_text mark.Equal = codes "="
mark_text mark.Unequal = codes "<>"
mark_text mark.Less = codes "<"
mark_text mark.LessEqual = codes "<="
mark_text mark.Greater = codes ">"
mark_text mark.GreaterEqual = codes ">="
mark_text mark.Plus = codes "+"
mark_text mark.Minus = codes "-"
mark_text mark.Times = codes "*"
mark_text mark.Over = codes "/"
mark_text mark.Rest = codes "%"
mark_text mark.Min = codes "$min"
mark_text mark.Max = codes "$max"
mark_text mark.Abs = codes "$abs"

mark_is : (m : Mark) → mark_of (mark_text m) ≡ Some m
unfolding mark_of marks
mark_is mark.Assign = refl
mark_is mark.Colon = refl
mark_is mark.Semicolon = refl
mark_is mark.Comma = refl
mark_is mark.Open = refl
mark_is mark.Close = refl
mark_is mark.OpenBracket = refl
mark_is mark.CloseBracket = refl
mark_is mark.OpenBrace = refl
mark_is mark.CloseBrace = refl
mark_is mark.Dot = refl
mark_is mark.Implies = refl
mark_is mark.Same = refl
mark_is mark.Differ = refl
mark_is mark.Or = refl
mark_is mark.And = refl
mark_is mark.Not = refl
mark_is mark.Equal = refl
mark_is mark.Unequal = refl
mark_is mark.Less = refl
mark_is mark.LessEqual = refl
mark_is mark.Greater = refl
mark_is mark.GreaterEqual = refl
mark_is mark.Plus = refl
mark_is mark.Minus = refl
mark_is mark.Times = refl
mark_is mark.Over = refl
mark_is mark.Rest = refl
mark_is mark.Min = refl
mark_is mark.Max = refl
mark_is mark.Abs = refl

-- no mark goes on with a blank
mark_blank : (m : Mark) → extends (mark_text m) 32 ≡ false
unfolding marks
mark_blank mark.Assign = refl
mark_blank mark.Colon = refl
mark_blank mark.Semicolon = refl
mark_blank mark.Comma = refl
mark_blank mark.Open = refl
mark_blank mark.Close = refl
mark_blank mark.OpenBracket = refl
mark_blank mark.CloseBracket = refl
mark_blank mark.OpenBrace = refl
mark_blank mark.CloseBrace = refl
mark_blank mark.Dot = refl
mark_blank mark.Implies = refl
mark_blank mark.Same = refl
mark_blank mark.Differ = refl
mark_blank mark.Or = refl
mark_blank mark.And = refl
mark_blank mark.Not = refl
mark_blank mark.Equal = refl
mark_blank mark.Unequal = refl
mark_blank mark.Less = refl
mark_blank mark.LessEqual = refl
mark_blank mark.Greater = refl
mark_blank mark.GreaterEqual = refl
mark_blank mark.Plus = refl
mark_blank mark.Minus = refl
mark_blank mark.Times = refl
mark_blank mark.Over = refl
mark_blank mark.Rest = refl
mark_blank mark.Min = refl
mark_blank mark.Max = refl
mark_blank mark.Abs = refl

-- a mark, in any relation to its token
pub laid_marked : {A : Type 0} (m : Mark) (relation : Text → Token → A → Type 0) (R : A → Type 0) →
    ((front rest : Text) → (x : A) × relation (front ++ (mark_text m ++ rest)) (token_there (kind.Mark m) front (mark_text m)) x × R x) →
    Laid (extends (mark_text m)) (mark_text m) (λ w. One (relation w)) R
laid_marked m relation R value = laid_token (extends (mark_text m)) (mark_text m) (kind.Mark m) relation R (mark_is m) tt (λ rest h. h) value

-- a mark that no byte goes on with
pub IsClosed : Mark → Type 0
IsClosed m = (b : ℕ) → extends (mark_text m) b ≡ false

pub closed_also : (m : Mark) → IsClosed m → (rest : Text) → Stops never rest → Stops (extends (mark_text m)) rest
unfolding IsClosed
closed_also m closed = stops_also never (extends (mark_text m)) (λ b h. closed b)

pub comma_closed : IsClosed mark.Comma
unfolding IsClosed marks
comma_closed b = refl

pub semicolon_closed : IsClosed mark.Semicolon
unfolding IsClosed marks
semicolon_closed b = refl

pub open_closed : IsClosed mark.Open
unfolding IsClosed marks
open_closed b = refl

pub close_closed : IsClosed mark.Close
unfolding IsClosed marks
close_closed b = refl

pub open_bracket_closed : IsClosed mark.OpenBracket
unfolding IsClosed marks
open_bracket_closed b = refl

pub close_bracket_closed : IsClosed mark.CloseBracket
unfolding IsClosed marks
close_bracket_closed b = refl

pub open_brace_closed : IsClosed mark.OpenBrace
unfolding IsClosed marks
open_brace_closed b = refl

pub close_brace_closed : IsClosed mark.CloseBrace
unfolding IsClosed marks
close_brace_closed b = refl

pub dot_closed : IsClosed mark.Dot
unfolding IsClosed marks
dot_closed b = refl

pub not_closed : IsClosed mark.Not
unfolding IsClosed marks
not_closed b = refl

pub min_closed : IsClosed mark.Min
unfolding IsClosed marks
min_closed b = refl

pub max_closed : IsClosed mark.Max
unfolding IsClosed marks
max_closed b = refl

pub abs_closed : IsClosed mark.Abs
unfolding IsClosed marks
abs_closed b = refl

-- `-` goes on with `>` alone
pub minus_ends : (b : ℕ) → nat_eq b 62 ≡ false → extends (mark_text mark.Minus) b ≡ false
unfolding marks
minus_ends b h = ap (λ (x : Bool). ((x && true) || false) || false) h

pub laid_mark : (m : Mark) → IsClosed m → Laid never (mark_text m) (λ _. Marked m) Any
laid_mark m closed =
    laid_narrower (extends (mark_text m)) never (mark_text m) (closed_also m closed)
    (laid_marked m (λ _ t x. (t.kind ≡ kind.Mark m) × (x ≡ t)) Any (λ front rest. (token_there (kind.Mark m) front (mark_text m), (refl, refl), tt)))

-- a mark with a blank behind it
pub laid_mark_and : {A : Type 0} (m : Mark) (relation : Text → Token → A → Type 0) (R : A → Type 0) →
    ((front rest : Text) → (x : A) × relation (front ++ (mark_text m ++ rest)) (token_there (kind.Mark m) front (mark_text m)) x × R x) →
    Laid never (mark_text m ++ 32 ∷ []) (λ w. One (relation w)) R
laid_mark_and m relation R value = laid_and_blank (extends (mark_text m)) 32 (mark_text m) refl (mark_blank m) (laid_marked m relation R value)

pub laid_spaced : (m : Mark) → Laid never (mark_text m ++ 32 ∷ []) (λ _. Marked m) Any
laid_spaced m = laid_mark_and m (λ _ t x. (t.kind ≡ kind.Mark m) × (x ≡ t)) Any (λ front rest. (token_there (kind.Mark m) front (mark_text m), (refl, refl), tt))

-- `:` at the end of a line
pub laid_colon_line : Laid never (codes ":\n") (λ _. Marked mark.Colon) Any
unfolding marks
laid_colon_line =
    laid_and_blank (extends (mark_text mark.Colon)) 10 (mark_text mark.Colon) refl refl
    (laid_marked mark.Colon (λ _ t x. (t.kind ≡ kind.Mark mark.Colon) × (x ≡ t)) Any (λ front rest. (token_there (kind.Mark mark.Colon) front (mark_text mark.Colon), (refl, refl), tt)))

-- ---- names

-- bytes that a name may have
abbrev pub IsNameText : Text → Type 0
IsNameText bytes = (is_plain_name bytes ≡ true) ⊎ ((0 < length bytes) × AllPass is_quotable bytes)

pub range_of : (front bytes rest : Text) → slice_range (front ++ (bytes ++ rest)) (length front) (length front + length bytes) ≡ bytes
range_of front bytes rest =
    let long : length front + length bytes - length front ≡ length bytes = omega arith in
    ap (λ (n : ℕ). take n (drop (length front) (front ++ (bytes ++ rest)))) long
    ∙ ap (take (length bytes)) (drop_at front (bytes ++ rest) (length front) refl) ∙ take_at bytes rest (length bytes) refl

pub plain_begins : (bytes : Text) → is_plain_name bytes ≡ true → begins_word (get_or bytes 0 0) ≡ true
plain_begins [] h = absurd (false≢true h)
plain_begins (b ∷ bs) h = (and_parts (begins_word b) (list_all continues_word bs) (and_parts (begins_word b && list_all continues_word bs) (not (is_some (reserved_of (b ∷ bs)))) h).0).0

no_quote : (b : ℕ) → begins_word b ≡ true → (eqb b 39) ≡ false
no_quote b h = grind (arith, nat_tests)

pub unquoted_plain : (bytes : Text) → begins_word (get_or bytes 0 0) ≡ true → unquoted bytes ≡ bytes
unquoted_plain [] h = refl
unquoted_plain (b ∷ bs) h = rw (no_quote b h) refl

pub unquoted_quoted : (bytes : Text) → unquoted (39 ∷ (bytes ++ 39 ∷ [])) ≡ bytes
unquoted_quoted bytes =
    let long : length (bytes ++ 39 ∷ []) - 1 ≡ length bytes = omega (arith, length-append bytes (39 ∷ [])) in
    ap (λ (n : ℕ). take n (bytes ++ 39 ∷ [])) long ∙ take_at bytes (39 ∷ []) (length bytes) refl

-- a name token in any text
abbrev pub Named : Text → Token → Name → Type 0
Named w t x = (t.kind ≡ kind.Name) × (x ≡ name_at w t)

laid_plain : (bytes : Text) → is_plain_name bytes ≡ true → Laid continues_word bytes (λ w. One (Named w)) (λ x. x.text ≡ bytes)
laid_plain bytes plain =
    laid_token continues_word bytes kind.Name Named (λ x. x.text ≡ bytes) (plain_token bytes plain) tt (letter_ends bytes (plain_begins bytes plain))
    (λ front rest. (name_at (front ++ (bytes ++ rest)) (token_there kind.Name front bytes), (refl, refl), ap unquoted (range_of front bytes rest) ∙ unquoted_plain bytes (plain_begins bytes plain)))

laid_quoted : (bytes : Text) → 0 < length bytes → AllPass is_quotable bytes → Laid continues_word (39 ∷ (bytes ++ 39 ∷ [])) (λ w. One (Named w)) (λ x. x.text ≡ bytes)
laid_quoted bytes some quotable =
    let t : Text = 39 ∷ (bytes ++ 39 ∷ []) in
    laid_token continues_word t kind.Name Named (λ x. x.text ≡ bytes) (quoted_token bytes some quotable) tt (stops_also continues_word (extends t) (λ b h. refl))
    (λ front rest. (name_at (front ++ (t ++ rest)) (token_there kind.Name front t), (refl, refl), ap unquoted (range_of front t rest) ∙ unquoted_quoted bytes))

abbrev quoted_unless : Bool → Text → Text
quoted_unless plain bytes = if plain then bytes else codes "'" ++ bytes ++ codes "'"

laid_name_by : (plain : Bool) (bytes : Text) → is_plain_name bytes ≡ plain → IsNameText bytes → Laid continues_word (quoted_unless plain bytes) (λ w. One (Named w)) (λ x. x.text ≡ bytes)
laid_name_by true bytes is h = laid_plain bytes is
laid_name_by false bytes is (inl h) = absurd (both_ways (is_plain_name bytes) is h)
laid_name_by false bytes is (inr h) = laid_quoted bytes h.0 h.1

pub laid_name : (bytes : Text) → IsNameText bytes → Laid continues_word (name_text bytes) (λ w. One (Named w)) (λ x. x.text ≡ bytes)
laid_name bytes h = laid_name_by (is_plain_name bytes) bytes refl h

-- ---- numbers

-- digits of a number
pub record AreDigitsOf (n : ℕ) (ds : Text) : Type 0 where
  pub some : 0 < length ds
  pub digits : AllPass (is_digit 10) ds
  pub value : digits_worth 10 ds ≡ n

digit_worth : (n : ℕ) → n < 10 → worth (48 + n) ≡ n
digit_worth n h = grind (arith, nat_tests)

digit_is : (n : ℕ) → n < 10 → is_digit 10 (48 + n) ≡ true
digit_is n h = rw (digit_worth n h) (grind (arith, nat_tests))

worth_snoc : (total : ℕ) (ds : Text) (b : ℕ) → fold (λ n c. n * 10 + worth c) total (ds ++ b ∷ []) ≡ fold (λ n c. n * 10 + worth c) total ds * 10 + worth b
worth_snoc total [] b = refl
worth_snoc total (d ∷ ds) b = worth_snoc (total * 10 + worth d) ds b

all_snoc : (p : ℕ → Bool) (ds : Text) (b : ℕ) → AllPass p ds → p b ≡ true → AllPass p (ds ++ b ∷ [])
all_snoc p [] b h is = rw is refl
all_snoc p (d ∷ ds) b h is = let both = and_parts (p d) (list_all p ds) h in rw both.0 (all_snoc p ds b both.1 is)

one_digit : (n : ℕ) → n < 10 → AreDigitsOf n ((48 + n) ∷ [])
one_digit n h = record { some = omega arith; digits = rw (digit_is n h) refl; value = zero-add (worth (48 + n)) ∙ digit_worth n h }

more_digits : (n : ℕ) (ds : Text) → 10 ≤ n → AreDigitsOf (n / 10) ds → AreDigitsOf n (ds ++ ((48 + n % 10) ∷ []))
more_digits n ds h is =
    let small : n % 10 < 10 = omega arith in
    record {
      some = omega (arith, length-append ds ((48 + n % 10) ∷ []));
      digits = all_snoc (is_digit 10) ds (48 + n % 10) is.digits (digit_is (n % 10) small);
      value = worth_snoc 0 ds (48 + n % 10) ∙ ap (λ (k : ℕ). k * 10 + worth (48 + n % 10)) is.value ∙ ap (λ (k : ℕ). n / 10 * 10 + k) (digit_worth (n % 10) small) ∙ omega arith;
    }

pub decimal_digits : (n : ℕ) → n ≤ greatest → AreDigitsOf n (decimal n)
decimal_digits n h = decimal_by_steps_wide AreDigitsOf one_digit more_digits n (omega arith)

-- a number token
pub laid_number : {A : Type 0} (n : ℕ) → n ≤ greatest → (relation : Text → Token → A → Type 0) (R : A → Type 0) →
    ((front rest : Text) → (x : A) × relation (front ++ (decimal n ++ rest)) (token_there (kind.Number (pos n)) front (decimal n)) x × R x) →
    Laid continues_word (decimal n) (λ w. One (relation w)) R
laid_number n h relation R value =
    let d = decimal_digits n h in
    let token = decimal_token (decimal n) d.some d.digits in
    let is : IsToken (decimal n) (kind.Number (pos n)) = subst (λ (k : ℕ). IsToken (decimal n) (kind.Number (pos k))) d.value token.0 in
    let small : number_worth (decimal n) ≤ greatest = subst (λ (k : ℕ). k ≤ greatest) (sym (token.1 ∙ d.value)) h in
    laid_token continues_word (decimal n) (kind.Number (pos n)) relation R is small
    (stops_also continues_word (extends (decimal n)) (λ b h. ap (λ (s : Start). extends_by s (decimal n) b) (digit_starts (get_or (decimal n) 0 0) (number_first (decimal n) is.0).1) ∙ h))
    value
