-- The forms of tokens, told apart by their first bytes.
use Rattle.std.proofs.Common.{◌≡◌, ◌<◌, ℕ, Bool, true, false, not, cond, ◌&&◌, ◌||◌, eqb, ltb, List, [], ◌∷◌, ◌++◌, length, get_or, Option, Some, None, is_some, inl, inr, refl, sym, ap, subst, ◌∙◌, arith, pos}
use Rattle.std.proofs.lemmas.Bool.{and_parts, and_from, or_left, both_ways}
use Rattle.std.proofs.lemmas.Bool.Decides.{nat_tests}
use Rattle.std.proofs.lemmas.List.{get_or_append_left}
use Rattle.std.specs.List.{list_all}
use Rattle.hll_lexer.specs.Words.{begins_word, continues_word, IsWord, reserved_words, reserved_of, is_plain_name}
use Rattle.hll_lexer.specs.Numbers.{is_digit, IsNumber, number_worth}
use Rattle.hll_lexer.specs.Marks.{marks, mark_of}
use Rattle.hll_lexer.specs.Pieces.{is_blank, IsQuoted, IsToken, IsSign, BeginsComment}
use Rattle.hll_lexer.specs.declared.token.Reserved.{Reserved as ReservedWord}
use Rattle.hll_lexer.specs.declared.token.Mark.{Mark}
use Rattle.hll_lexer.specs.declared.token.TokenKind.{TokenKind}
use Rattle.hll_lexer.specs.declared.token.TokenKind.TheVariants.{Name, Number, Reserved, Mark as Marked}
use Rattle.hll_lexer.proofs.TableLemmas.{lookup_passes}
use Rattle.hll_lexer.proofs.NumberLemmas.{number_first, decimal_no_blank, decimal_no_letter}

-- ---- first bytes

-- what a byte may begin
pub data Start : Type 0 where
  Blank : Start
  Letter : Start
  Digit : Start
  Quote : Start
  Sign : Start

abbrev start_by : Bool → Bool → Bool → Bool → Start
start_by blank letter digit quote = cond blank Blank (cond letter Letter (cond digit Digit (cond quote Quote Sign)))

abbrev pub start_of : ℕ → Start
start_of b = start_by (is_blank b) (begins_word b) (is_digit 10 b) (eqb b 39)

-- no word begins with a blank
letter_no_blank : (b : ℕ) → begins_word b ≡ true → is_blank b ≡ false
letter_no_blank b h = grind (arith, nat_tests)

pub blank_starts : (b : ℕ) → is_blank b ≡ true → start_of b ≡ Blank
blank_starts b h = ap (λ (c : Bool). start_by c (begins_word b) (is_digit 10 b) (eqb b 39)) h

pub letter_starts : (b : ℕ) → begins_word b ≡ true → start_of b ≡ Letter
letter_starts b h =
    ap (λ (c : Bool). start_by c (begins_word b) (is_digit 10 b) (eqb b 39)) (letter_no_blank b h)
    ∙ ap (λ (c : Bool). start_by false c (is_digit 10 b) (eqb b 39)) h

pub digit_starts : (b : ℕ) → is_digit 10 b ≡ true → start_of b ≡ Digit
digit_starts b h =
    ap (λ (c : Bool). start_by c (begins_word b) (is_digit 10 b) (eqb b 39)) (decimal_no_blank b h)
    ∙ ap (λ (c : Bool). start_by false c (is_digit 10 b) (eqb b 39)) (decimal_no_letter b h)
    ∙ ap (λ (c : Bool). start_by false false c (eqb b 39)) h

pub sign_starts : (b : ℕ) → IsSign b → start_of b ≡ Sign
sign_starts b s =
    ap (λ (c : Bool). start_by c (begins_word b) (is_digit 10 b) (eqb b 39)) s.no_blank
    ∙ ap (λ (c : Bool). start_by false c (is_digit 10 b) (eqb b 39)) s.no_letter
    ∙ ap (λ (c : Bool). start_by false false c (eqb b 39)) s.no_digit
    ∙ ap (λ (c : Bool). start_by false false false c) s.no_quote

-- `IsSign` as a test
abbrev is_sign : ℕ → Bool
is_sign b = not (is_blank b) && (not (begins_word b) && (not (is_digit 10 b) && not (eqb b 39)))

not_false : (b : Bool) → not b ≡ true → b ≡ false
not_false true h = cc
not_false false h = refl

IsSign-from_test : (b : ℕ) → is_sign b ≡ true → IsSign b
IsSign-from_test b h =
    let one = and_parts (not (is_blank b)) (not (begins_word b) && (not (is_digit 10 b) && not (eqb b 39))) h in
    let two = and_parts (not (begins_word b)) (not (is_digit 10 b) && not (eqb b 39)) one.1 in
    let three = and_parts (not (is_digit 10 b)) (not (eqb b 39)) two.1 in
    record {
      no_blank = not_false (is_blank b) one.0;
      no_letter = not_false (begins_word b) two.0;
      no_digit = not_false (is_digit 10 b) three.0;
      no_quote = not_false (eqb b 39) three.1;
    }

-- ---- marks

-- how a mark begins: with a sign, and `/` is a mark of its own alone
pub record IsMarkSpelling (bytes : List ℕ) : Type 0 where
  pub some : 0 < length bytes
  pub sign : IsSign (get_or bytes 0 0)
  pub alone : get_or bytes 0 0 ≡ 47 → length bytes ≡ 1

abbrev is_mark_spelling : List ℕ → Bool
is_mark_spelling bytes = ltb 0 (length bytes) && (is_sign (get_or bytes 0 0) && (not (eqb (get_or bytes 0 0) 47) || eqb (length bytes) 1))

slash_alone : (a n : ℕ) → (not (eqb a 47) || eqb n 1) ≡ true → a ≡ 47 → n ≡ 1
slash_alone a n h e = grind (arith, nat_tests)

pub some_byte : (n : ℕ) → ltb 0 n ≡ true → 0 < n
some_byte n h = grind (arith, nat_tests)

-- every mark is spelled so
pub mark_spelling : (bytes : List ℕ) (m : Mark) → mark_of bytes ≡ Some m → IsMarkSpelling bytes
unfolding mark_of marks
mark_spelling bytes m e =
    let passes = lookup_passes (λ b (_ : Mark). is_mark_spelling b) marks bytes m refl e in
    let one = and_parts (ltb 0 (length bytes)) (is_sign (get_or bytes 0 0) && (not (eqb (get_or bytes 0 0) 47) || eqb (length bytes) 1)) passes in
    let two = and_parts (is_sign (get_or bytes 0 0)) (not (eqb (get_or bytes 0 0) 47) || eqb (length bytes) 1) one.1 in
    record {
      some = some_byte (length bytes) one.0;
      sign = IsSign-from_test (get_or bytes 0 0) two.0;
      alone = slash_alone (get_or bytes 0 0) (length bytes) two.1;
    }

-- ---- words

-- `IsWord` as a test
abbrev is_word : List ℕ → Bool
is_word [] = false
is_word (b ∷ bs) = begins_word b && list_all continues_word bs

IsWord-from_test : (bytes : List ℕ) → is_word bytes ≡ true → IsWord bytes
IsWord-from_test [] e = absurd (both_ways _ refl e)
IsWord-from_test (b ∷ bs) e = let both = and_parts _ _ e in (both.0, both.1)

-- each reserved word is a word
pub reserved_word : (bytes : List ℕ) (word : ReservedWord) → reserved_of bytes ≡ Some word → IsWord bytes
unfolding reserved_of reserved_words
reserved_word bytes word e = IsWord-from_test bytes (lookup_passes (λ b (_ : ReservedWord). is_word b) reserved_words bytes word refl e)

-- the kind of a word
abbrev pub word_kind : Option ReservedWord → TokenKind
word_kind None = Name
word_kind (Some word) = Reserved word

none_some : (word : Option ReservedWord) → not (is_some word) ≡ true → word ≡ None
none_some None h = refl
none_some (Some word) h = cc

-- a plain name is a word that isn't reserved
pub plain_word : (bytes : List ℕ) → is_plain_name bytes ≡ true → IsWord bytes × (reserved_of bytes ≡ None)
plain_word [] h = absurd (both_ways _ refl h)
plain_word (b ∷ bs) h =
    let both = and_parts (begins_word b && list_all continues_word bs) (not (is_some (reserved_of (b ∷ bs)))) h in
    let word = and_parts (begins_word b) (list_all continues_word bs) both.0 in
    ((word.0, word.1), none_some (reserved_of (b ∷ bs)) both.1)

pub word_plain : (bytes : List ℕ) → IsWord bytes → reserved_of bytes ≡ None → is_plain_name bytes ≡ true
word_plain [] word free = absurd word
word_plain (b ∷ bs) word free = and_from _ _ (and_from _ _ word.0 word.1) (ap (λ (o : Option ReservedWord). not (is_some o)) free)

word_token_by : (bytes : List ℕ) (word : Option ReservedWord) → reserved_of bytes ≡ word → IsWord bytes → IsToken bytes (word_kind word)
word_token_by bytes None is whole = inl (word_plain bytes whole is)
word_token_by bytes (Some word) is whole = is

pub word_token : (bytes : List ℕ) → IsWord bytes → IsToken bytes (word_kind (reserved_of bytes))
word_token bytes whole = word_token_by bytes (reserved_of bytes) refl whole

-- the bytes of a word go on with a word
pub word_continues : (bytes : List ℕ) → IsWord bytes → (0 < length bytes) × (begins_word (get_or bytes 0 0) ≡ true) × (list_all continues_word bytes ≡ true)
word_continues [] h = absurd h
word_continues (b ∷ bs) h = (omega arith, h.0, (let goes : continues_word b ≡ true = or_left _ _ h.0 in and_from _ _ goes h.1))

-- ---- tokens

-- the form of a token that begins so
abbrev pub FormAt : Start → List ℕ → TokenKind → Type 0
FormAt Blank bytes kind = ⊥
FormAt Letter bytes kind = IsWord bytes × (kind ≡ word_kind (reserved_of bytes))
FormAt Digit bytes kind = IsNumber bytes × (kind ≡ Number (pos (number_worth bytes)))
FormAt Quote bytes kind = IsQuoted bytes × (kind ≡ Name)
FormAt Sign bytes kind = (m : Mark) × (mark_of bytes ≡ Some m) × (kind ≡ Marked m)

-- a token has a byte, and its form is told by its first
pub record HasForm (bytes : List ℕ) (kind : TokenKind) : Type 0 where
  pub some : 0 < length bytes
  pub form : FormAt (start_of (get_or bytes 0 0)) bytes kind

form_from : (s : Start) (bytes : List ℕ) (kind : TokenKind) → 0 < length bytes → start_of (get_or bytes 0 0) ≡ s → FormAt s bytes kind → HasForm bytes kind
form_from s bytes kind some is form = record { some = some; form = subst (λ (s : Start). FormAt s bytes kind) (sym is) form }

word_form : (bytes : List ℕ) (kind : TokenKind) → IsWord bytes → kind ≡ word_kind (reserved_of bytes) → HasForm bytes kind
word_form bytes kind word is =
    let begins = word_continues bytes word in
    form_from Letter bytes kind begins.0 (letter_starts (get_or bytes 0 0) begins.1) (word, is)

pub quoted_first : (bytes : List ℕ) (q : IsQuoted bytes) → (0 < length bytes) × (get_or bytes 0 0 ≡ 39)
quoted_first bytes q = (omega (arith, ap length q.whole), ap (λ (s : List ℕ). get_or s 0 0) q.whole)

pub token_form : (bytes : List ℕ) (kind : TokenKind) → IsToken bytes kind → HasForm bytes kind
token_form bytes Name t =
    elim t [
      | inl w ↦ (let plain = plain_word bytes w in word_form bytes Name plain.0 (sym (ap word_kind plain.1)))
      | inr q ↦ (let first = quoted_first bytes q in form_from Quote bytes Name first.0 (ap start_of first.1) (q, refl))
    ]
token_form bytes (Number n) t =
    let first = number_first bytes t.0 in
    form_from Digit bytes (Number n) first.0 (digit_starts (get_or bytes 0 0) first.1) (t.0, ap Number t.1)
token_form bytes (Reserved word) t = word_form bytes (Reserved word) (reserved_word bytes word t) (sym (ap word_kind t))
token_form bytes (Marked m) t =
    let spelled = mark_spelling bytes m t in
    form_from Sign bytes (Marked m) spelled.some (sign_starts (get_or bytes 0 0) spelled.sign) (m, t, refl)

one_form : (s : Start) (bytes : List ℕ) (kind other : TokenKind) → FormAt s bytes kind → FormAt s bytes other → kind ≡ other
one_form Blank bytes kind other f g = absurd f
one_form Letter bytes kind other f g = f.1 ∙ sym g.1
one_form Digit bytes kind other f g = f.1 ∙ sym g.1
one_form Quote bytes kind other f g = f.1 ∙ sym g.1
one_form Sign bytes kind other f g =
    let same : Some f.0 ≡ Some g.0 = sym f.1 ∙ g.1 in
    let mark : f.0 ≡ g.0 = cc in
    f.2 ∙ ap Marked mark ∙ sym g.2

-- bytes are a token of one kind at most
pub one_kind : (bytes : List ℕ) (kind other : TokenKind) → IsToken bytes kind → IsToken bytes other → kind ≡ other
one_kind bytes kind other t u = one_form (start_of (get_or bytes 0 0)) bytes kind other (token_form bytes kind t).form (token_form bytes other u).form

-- the form of a token at the front of a text is told by the first byte of the text
pub form_here : (text front after : List ℕ) (kind : TokenKind) (s : Start) → text ≡ front ++ after → IsToken front kind → start_of (get_or text 0 0) ≡ s → FormAt s front kind
form_here text front after kind s cut token is =
    let f = token_form front kind token in
    let same : get_or front 0 0 ≡ get_or text 0 0 = sym (ap (λ (s : List ℕ). get_or s 0 0) cut ∙ get_or_append_left front after 0 0 f.some) in
    subst (λ (s : Start). FormAt s front kind) (ap start_of same ∙ is) f.form

-- a comment begins with a sign
pub comment_first : (text : List ℕ) → BeginsComment text → get_or text 0 0 ≡ 47
comment_first text (BeginsComment.line after e) = ap (λ (s : List ℕ). get_or s 0 0) e
comment_first text (BeginsComment.block after e) = ap (λ (s : List ℕ). get_or s 0 0) e
