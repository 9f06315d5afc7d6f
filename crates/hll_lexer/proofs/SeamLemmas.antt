-- Where a token ends: a token with what can't go on with it behind it stands there, and texts are split by their parts.
use Rattle.std.proofs.Common.{◌≡◌, ◌<◌, ℕ, Bool, true, false, cond, ◌||◌, nat_eq, List, [], ◌∷◌, ◌++◌, length, get_or, drop, Option, Some, None, inl, inr, refl, sym, ap, subst, ◌∙◌, arith, codes, pos, append_assoc, length-append}
use Rattle.std.proofs.lemmas.Bool.{both_ways, and_parts, or_left, or_right}
use Rattle.std.proofs.lemmas.List.{get_or_append_left}
use Rattle.std.proofs.lemmas.Slice.Eq.{bytes_eq-Decides}
use Rattle.std.specs.List.{list_all, list_any, starts_with}
use Rattle.std.specs.Map.{lookup}
use Rattle.std.specs.Str.{bytes_eq}
use Rattle.hll_lexer.specs.Words.{continues_word, is_plain_name}
use Rattle.hll_lexer.specs.Numbers.{is_digit, number_worth, digits_worth, prefix_of, digits_of}
use Rattle.hll_lexer.specs.Marks.{marks, mark_of}
use Rattle.hll_lexer.specs.Pieces.{is_blank, is_quotable, AllPass, Stops, BeginsComment, IsQuoted, IsToken, IsLongestToken, IsWithin, Stands}
use Rattle.hll_lexer.specs.declared.token.Mark.{Mark}
use Rattle.hll_lexer.specs.declared.token.TokenKind.{TokenKind}
use Rattle.hll_lexer.specs.declared.token.TokenKind.TheVariants.{Name, Number}
use Rattle.hll_lexer.proofs.TableLemmas.{front_is}
use Rattle.hll_lexer.proofs.RunLemmas.{cuts, one_run, AllPass-parts}
use Rattle.hll_lexer.proofs.NumberLemmas.{number_continues, decimal_base}
use Rattle.hll_lexer.proofs.FormLemmas.{Start, start_of, FormAt, mark_spelling, word_continues, token_form, form_here, comment_first}

-- ---- what may go on with a token

-- how comments begin
abbrev openers : List (List ℕ)
openers = codes "//" ∷ codes "/*" ∷ []

-- whether a mark or a comment begins with these bytes and this one behind them
abbrev pub extends_mark : List ℕ → ℕ → Bool
extends_mark bytes b =
    list_any (λ (row : List ℕ × Mark). starts_with nat_eq row.0 (bytes ++ b ∷ [])) marks
    || list_any (λ (opener : List ℕ). starts_with nat_eq opener (bytes ++ b ∷ [])) openers

abbrev pub extends_by : Start → List ℕ → ℕ → Bool
extends_by Start.Blank bytes b = false
extends_by Start.Letter bytes b = continues_word b
extends_by Start.Digit bytes b = continues_word b
extends_by Start.Quote bytes b = false
extends_by Start.Sign bytes b = extends_mark bytes b

-- whether a token of these bytes may go on with this byte, or begins a comment with it
abbrev pub extends : List ℕ → ℕ → Bool
extends bytes b = extends_by (start_of (get_or bytes 0 0)) bytes b

any_step : {V : Type 0} (hit : Bool) (q : List ℕ × V → Bool) (key bytes : List ℕ) (here v : V) (others : Option V) (rest : Bool) → (hit ≡ true → bytes ≡ key) → ((w : V) → q (bytes, w) ≡ true) → (others ≡ Some v → rest ≡ true) → cond hit (Some here) others ≡ Some v → (q (key, here) || rest) ≡ true
any_step {V} true q key bytes here v others rest same pass more found = or_left _ _ (ap (λ (k : List ℕ). q (k, here)) (sym (same refl)) ∙ pass here)
any_step false q key bytes here v others rest same pass more found = or_right _ _ (more found)

-- where a row that is looked up passes, some row does
lookup_any : {V : Type 0} (q : List ℕ × V → Bool) (rows : List (List ℕ × V)) (bytes : List ℕ) (v : V) → ((w : V) → q (bytes, w) ≡ true) → lookup (bytes_eq bytes) rows ≡ Some v → list_any q rows ≡ true
lookup_any q [] bytes v pass found = cc
lookup_any q (row ∷ rows) bytes v pass found =
    any_step (bytes_eq bytes row.0) q row.0 bytes row.1 v (lookup (bytes_eq bytes) rows) (list_any q rows) (bytes_eq-Decides bytes row.0).0 pass (lookup_any q rows bytes v pass) found

-- a longer mark extends each that it begins with
mark_extends : (bytes : List ℕ) (b : ℕ) (more : List ℕ) (m : Mark) → mark_of (bytes ++ b ∷ more) ≡ Some m → extends_mark bytes b ≡ true
unfolding mark_of
mark_extends bytes b more m found =
    let whole : bytes ++ b ∷ more ≡ (bytes ++ b ∷ []) ++ more = sym (append_assoc bytes (b ∷ []) more) in
    or_left _ _ (lookup_any (λ (row : List ℕ × Mark). starts_with nat_eq row.0 (bytes ++ b ∷ [])) marks (bytes ++ b ∷ more) m (λ _. front_is (bytes ++ b ∷ more) (bytes ++ b ∷ []) more whole) found)

quoted_ends : (bytes : List ℕ) (b : ℕ) (more : List ℕ) (q : IsQuoted bytes) (r : IsQuoted (bytes ++ b ∷ more)) → ⊥
quoted_ends bytes b more q r =
    let front = ap (λ (s : List ℕ). s ++ b ∷ more) q.whole ∙ ap (λ (s : List ℕ). 39 ∷ s) (append_assoc q.inner (codes "'") (b ∷ more)) in
    let whole : 39 ∷ (q.inner ++ 39 ∷ b ∷ more) ≡ 39 ∷ (r.inner ++ 39 ∷ []) = sym front ∙ r.whole in
    let tails : q.inner ++ 39 ∷ b ∷ more ≡ r.inner ++ 39 ∷ [] = cc in
    let same = one_run is_quotable q.inner (39 ∷ b ∷ more) r.inner (39 ∷ []) q.quotable refl r.quotable refl tails in
    omega (arith, ap length same.1)

goes_by : (s : Start) (bytes : List ℕ) (b : ℕ) (more : List ℕ) (kind other : TokenKind) → FormAt s bytes kind → FormAt s (bytes ++ b ∷ more) other → extends_by s bytes b ≡ true
goes_by Start.Blank bytes b more kind other f g = absurd f
goes_by Start.Letter bytes b more kind other f g =
    let all : AllPass continues_word (bytes ++ b ∷ more) = (word_continues (bytes ++ b ∷ more) g.0).2 in
    (and_parts (continues_word b) (list_all continues_word more) (AllPass-parts continues_word bytes (b ∷ more) all).1).0
goes_by Start.Digit bytes b more kind other f g =
    (and_parts (continues_word b) (list_all continues_word more) (AllPass-parts continues_word bytes (b ∷ more) (number_continues (bytes ++ b ∷ more) g.0)).1).0
goes_by Start.Quote bytes b more kind other f g = absurd (quoted_ends bytes b more f.0 g.0)
goes_by Start.Sign bytes b more kind other f g = mark_extends bytes b more g.0 g.1

-- a token that goes on with a byte is extended by it
goes_on : (bytes : List ℕ) (b : ℕ) (more : List ℕ) (kind other : TokenKind) → IsToken bytes kind → IsToken (bytes ++ b ∷ more) other → extends bytes b ≡ true
goes_on bytes b more kind other t u =
    let form = token_form bytes kind t in
    let first = get_or_append_left bytes (b ∷ more) 0 0 form.some in
    goes_by (start_of (get_or bytes 0 0)) bytes b more kind other form.form
    (subst (λ (x : ℕ). FormAt (start_of x) (bytes ++ b ∷ more) other) first (token_form (bytes ++ b ∷ more) other u).form)

no_longer : (bytes rest : List ℕ) (kind : TokenKind) (more after : List ℕ) (other : TokenKind) → IsToken bytes kind → Stops (extends bytes) rest → rest ≡ more ++ after → IsToken (bytes ++ more) other → more ≡ []
no_longer bytes rest kind [] after other t stops cut u = refl
no_longer bytes rest kind (b ∷ more) after other t stops cut u =
    absurd (both_ways (extends bytes b) (subst (Stops (extends bytes)) cut stops) (goes_on bytes b more kind other t u))

-- ---- comments

-- a mark with which a comment begins is `/`, and what stands behind it makes the comment
opened : (bytes rest after : List ℕ) (b : ℕ) → length bytes ≡ 1 → bytes ++ rest ≡ 47 ∷ b ∷ after → (bytes ≡ 47 ∷ []) × (rest ≡ b ∷ after)
opened [] rest after b one e = absurd (omega arith)
opened (x ∷ []) rest after b one e =
    let first : x ≡ 47 = ap (λ (s : List ℕ). get_or s 0 0) e in
    (ap (λ (y : ℕ). y ∷ []) first, cc)
opened (x ∷ y ∷ bytes) rest after b one e = absurd (omega arith)

not_opened : (bytes rest after : List ℕ) (b : ℕ) → extends (47 ∷ []) b ≡ true → length bytes ≡ 1 → Stops (extends bytes) rest → bytes ++ rest ≡ 47 ∷ b ∷ after → ⊥
not_opened bytes rest after b opens one stops e =
    let both = opened bytes rest after b one e in
    both_ways (extends (47 ∷ []) b) (subst (λ (s : List ℕ). Stops (extends s) (b ∷ after)) both.0 (subst (Stops (extends bytes)) both.1 stops)) opens

line_opens : extends (47 ∷ []) 47 ≡ true
line_opens = or_right _ _ refl

block_opens : extends (47 ∷ []) 42 ≡ true
block_opens = or_right _ _ refl

begins_none : (bytes rest : List ℕ) → length bytes ≡ 1 → Stops (extends bytes) rest → BeginsComment (bytes ++ rest) → ⊥
begins_none bytes rest one stops (BeginsComment.line after e) = not_opened bytes rest after 47 line_opens one stops e
begins_none bytes rest one stops (BeginsComment.block after e) = not_opened bytes rest after 42 block_opens one stops e

no_comment : (bytes rest : List ℕ) (kind : TokenKind) → IsToken bytes kind → Stops (extends bytes) rest → BeginsComment (bytes ++ rest) → ⊥
no_comment bytes rest kind t stops c =
    let first : get_or (bytes ++ rest) 0 0 ≡ 47 = comment_first (bytes ++ rest) c in
    let some = (token_form bytes kind t).some in
    let here : get_or bytes 0 0 ≡ 47 = sym (get_or_append_left bytes rest 0 0 some) ∙ first in
    let form = form_here (bytes ++ rest) bytes rest kind Start.Sign refl t (ap start_of first) in
    begins_none bytes rest ((mark_spelling bytes form.0 form.1).alone here) stops c

-- ---- seams

-- a token that the next byte can't extend stands there
pub longest_there : (bytes rest : List ℕ) (kind : TokenKind) → IsToken bytes kind → Stops (extends bytes) rest → IsLongestToken bytes kind rest
longest_there bytes rest kind t stops = record {
  token = t;
  longest = λ front after other e u. (elim (cuts bytes rest front after e) [
    | inl w ↦ (
        let none = no_longer bytes rest kind w.0 after other t stops w.2 (subst (λ (s : List ℕ). IsToken s other) w.1 u) in
        omega (arith, ap length w.1, length-append bytes w.0, ap length none))
    | inr w ↦ omega (arith, ap length w.1, length-append front w.0)
  ]);
  apart = no_comment bytes rest kind t stops;
}

pub token_stands : (bytes rest : List ℕ) (kind : TokenKind) → IsToken bytes kind → IsWithin kind bytes → Stops (extends bytes) rest → Stands (Some kind) bytes rest
token_stands bytes rest kind t within stops = (longest_there bytes rest kind t stops, within)

-- a blank stands anywhere
pub blank_stands : (b : ℕ) (rest : List ℕ) → is_blank b ≡ true → Stands None (b ∷ []) rest
blank_stands b rest h = inl (b, refl, h)

-- ---- spellings

-- a name that needs no quotes
pub plain_token : (bytes : List ℕ) → is_plain_name bytes ≡ true → IsToken bytes Name
plain_token bytes h = inl h

-- a name in quotes
pub quoted_token : (inner : List ℕ) → 0 < length inner → AllPass is_quotable inner → IsToken (39 ∷ (inner ++ 39 ∷ [])) Name
quoted_token inner some pass = inr (record { inner = inner; whole = refl; some = some; quotable = pass })

-- a number in decimal digits
pub decimal_token : (digits : List ℕ) → 0 < length digits → AllPass (is_digit 10) digits → IsToken digits (Number (pos (digits_worth 10 digits))) × (number_worth digits ≡ digits_worth 10 digits)
decimal_token digits some pass =
    let base = decimal_base digits pass in
    let all : digits_of digits ≡ digits = ap (λ (n : ℕ). drop (prefix_of n) digits) base in
    let worth_is : number_worth digits ≡ digits_worth 10 digits = ap (λ (n : ℕ). digits_worth n (drop (prefix_of n) digits)) base in (
      (
        (subst (λ (s : List ℕ). 0 < length s) (sym all) some, subst (λ (n : ℕ). AllPass (is_digit n) (drop (prefix_of n) digits)) (sym base) pass),
        ap (λ (n : ℕ). pos n) (sym worth_is),
      ),
      worth_is,
    )
