-- Something stands at the front of each text that isn't empty, and so each text is split or has a fault.
use Rattle.std.proofs.Common.{◌≡◌, ◌+◌, ◌-◌, ◌<◌, ◌≤◌, ℕ, zero, suc, Bool, true, false, not, eqb, leb, List, [], ◌∷◌, ◌++◌, length, get_or, take, drop, find, Option, Some, None, ◌⊎◌, inl, inr, refl, sym, ap, subst, ◌∙◌, arith, pos, add-one, length-drop, option_map, option_to_list}
use Rattle.std.proofs.lemmas.Bool.Decides.{nat_tests}
use Rattle.std.specs.List.{prefix_len}
use Rattle.hll_lexer.specs.Place.{is_line_feed}
use Rattle.hll_lexer.specs.Words.{begins_word, continues_word, reserved_of}
use Rattle.hll_lexer.specs.Numbers.{is_digit, number_worth}
use Rattle.hll_lexer.specs.Marks.{marks}
use Rattle.hll_lexer.specs.Pieces.{is_blank, is_quotable, IsUnclosed, ClosesAt, BeginsComment, IsSign, IsFault, IsFront, greatest}
use Rattle.hll_lexer.specs.Tokens.{Splits, fault_at, HasFault}
use Rattle.hll_lexer.specs.declared.fault.Fault.{Fault}
use Rattle.hll_lexer.specs.declared.fault.Fault.TheVariants as fault
use Rattle.hll_lexer.specs.declared.fault.LexFault.{LexFault}
use Rattle.hll_lexer.specs.declared.token.Mark.{Mark}
use Rattle.hll_lexer.specs.declared.token.Token.{Token}
use Rattle.hll_lexer.specs.declared.token.TokenKind.{TokenKind}
use Rattle.hll_lexer.specs.declared.token.TokenKind.TheVariants.{Name, Number, Mark as Marked}
use Rattle.hll_lexer.proofs.TableLemmas.{fronting}
use Rattle.hll_lexer.proofs.NumberLemmas.{number_length}
use Rattle.hll_lexer.proofs.FormLemmas.{word_kind, comment_first}
use Rattle.hll_lexer.proofs.FrontLemmas.{word_front, number_front, number_great, quoted_front, quoted_stray, quoted_open, mark_front, mark_stray, blank_front, line_front, block_front, block_open, unclosed_next, unclosed_first, unclosed_all, closes_here}
use Rattle.hll_lexer.proofs.SplitLemmas.{IsCutTo, cut_first, cut_more, cut_ends, cut_fault, token_made}

-- a piece or a fault stands at the front
abbrev pub Something : List ℕ → Type 0
Something text = ((kind : Option TokenKind) × (n : ℕ) × IsFront text kind n) ⊎ ((f : Fault) × IsFault text f)

pub equal : (a b : ℕ) → eqb a b ≡ true → a ≡ b
equal a b h = grind (arith, nat_tests)

pub unequal : (a b : ℕ) → eqb a b ≡ false → a ≡ b → ⊥
unequal a b h e = grind (arith, nat_tests)

positive : (n : ℕ) → leb 1 n ≡ true → 0 < n
positive n h = grind (arith, nat_tests)

nothing : (n : ℕ) → leb 1 n ≡ false → n ≡ 0
nothing n h = grind (arith, nat_tests)

inside : (n m : ℕ) → leb (n + 1) m ≡ true → n < m
inside n m h = grind (arith, nat_tests)

beyond : (n m : ℕ) → leb (n + 1) m ≡ false → n < m → ⊥
beyond n m h k = grind (arith, nat_tests)

at_most : (n m : ℕ) → leb n m ≡ true → n ≤ m
at_most n m h = grind (arith, nat_tests)

more_than : (n m : ℕ) → leb n m ≡ false → m < n
more_than n m h = grind (arith, nat_tests)

-- ---- comments

abbrev Closing : List ℕ → ℕ → Type 0
Closing text i = ((n : ℕ) × ClosesAt text n) ⊎ IsUnclosed (take i text)

closing_step : (star slash : Bool) (text : List ℕ) (i : ℕ) → eqb (get_or text (i - 1) 0) 42 ≡ star → eqb (get_or text i 0) 47 ≡ slash → 0 < i → i < length text → IsUnclosed (take i text) → Closing text (i + 1)
closing_step true true text i es el some within u = inl (i + 1, closes_here text i some within u (equal _ _ es) (equal _ _ el))
closing_step false slash text i es el some within u = inr (unclosed_next text i some within u (λ e _. unequal (get_or text (i - 1) 0) 42 es e))
closing_step true false text i es el some within u = inr (unclosed_next text i some within u (λ _ e. unequal (get_or text i 0) 47 el e))

closing : (text : List ℕ) (i : ℕ) → i < length text → Closing text (i + 1)
closing text zero within = inr (unclosed_first text)
closing text (suc i) within =
    let next : i + 1 ≡ suc i = add-one i in
    elim (subst (Closing text) next (closing text i (omega arith))) [
      | inl w ↦ inl w
      | inr u ↦ closing_step (eqb (get_or text (suc i - 1) 0) 42) (eqb (get_or text (suc i) 0) 47) text (suc i) refl refl (omega arith) within u
    ]

closes_or_not : (text : List ℕ) → ((n : ℕ) × ClosesAt text n) ⊎ IsUnclosed text
closes_or_not [] = inr (unclosed_all [] 1 (omega arith) (unclosed_first []))
closes_or_not (b ∷ text) =
    elim (closing (b ∷ text) (length text) (omega arith)) [
      | inl w ↦ inl w
      | inr u ↦ inr (unclosed_all (b ∷ text) (length text + 1) (omega arith) u)
    ]

block_total : (inner : List ℕ) → Something (47 ∷ 42 ∷ inner)
block_total inner =
    elim (closes_or_not inner) [
      | inl w ↦ inl (None, 2 + w.0, block_front inner w.0 w.1)
      | inr u ↦ inr (fault.Unclosed, block_open inner u)
    ]

line_total : (inner : List ℕ) → Something (47 ∷ 47 ∷ inner)
line_total inner = inl (None, 2 + prefix_len (λ b. not (is_line_feed b)) inner, line_front inner (prefix_len (λ b. not (is_line_feed b)) inner) refl)

-- the second byte of a comment
pub comment_second : (text : List ℕ) → BeginsComment text → (get_or text 1 0 ≡ 47) ⊎ (get_or text 1 0 ≡ 42)
comment_second text (BeginsComment.line after e) = inl (ap (λ (s : List ℕ). get_or s 1 0) e)
comment_second text (BeginsComment.block after e) = inr (ap (λ (s : List ℕ). get_or s 1 0) e)

pub no_slash : (text : List ℕ) → (get_or text 0 0 ≡ 47 → ⊥) → BeginsComment text → ⊥
no_slash text other c = other (comment_first text c)

pub no_opener : (text : List ℕ) → (get_or text 1 0 ≡ 47 → ⊥) → (get_or text 1 0 ≡ 42 → ⊥) → BeginsComment text → ⊥
no_opener text line block c = elim (comment_second text c) [ inl e ↦ line e | inr e ↦ block e ]

-- ---- marks

mark_total : (text : List ℕ) (row : Option (List ℕ × Mark)) → 0 < length text → IsSign (get_or text 0 0) → (BeginsComment text → ⊥) → find (fronting text) marks ≡ row → Something text
mark_total text None some sign apart found = inr (fault.Stray, mark_stray text some sign apart found)
mark_total text (Some row) some sign apart found = inl (Some (Marked row.1), length row.0, mark_front text row sign apart found)

second_total : (line block : Bool) (b c : ℕ) (rest : List ℕ) → b ≡ 47 → eqb c 47 ≡ line → eqb c 42 ≡ block → IsSign b → Something (b ∷ c ∷ rest)
second_total true block b c rest slash el eb sign =
    subst (λ (x : ℕ). Something (x ∷ c ∷ rest)) (sym slash) (subst (λ (x : ℕ). Something (47 ∷ x ∷ rest)) (sym (equal c 47 el)) (line_total rest))
second_total false true b c rest slash el eb sign =
    subst (λ (x : ℕ). Something (x ∷ c ∷ rest)) (sym slash) (subst (λ (x : ℕ). Something (47 ∷ x ∷ rest)) (sym (equal c 42 eb)) (block_total rest))
second_total false false b c rest slash el eb sign =
    mark_total (b ∷ c ∷ rest) (find (fronting (b ∷ c ∷ rest)) marks) (omega arith) sign (no_opener (b ∷ c ∷ rest) (unequal c 47 el) (unequal c 42 eb)) refl

slash_total : (b : ℕ) (rest : List ℕ) → b ≡ 47 → IsSign b → Something (b ∷ rest)
slash_total b [] slash sign =
    mark_total (b ∷ []) (find (fronting (b ∷ [])) marks) (omega arith) sign (no_opener (b ∷ []) (λ e. omega arith) (λ e. omega arith)) refl
slash_total b (c ∷ rest) slash sign = second_total (eqb c 47) (eqb c 42) b c rest slash refl refl sign

sign_total : (slash : Bool) (b : ℕ) (rest : List ℕ) → eqb b 47 ≡ slash → IsSign b → Something (b ∷ rest)
sign_total true b rest e sign = slash_total b rest (equal b 47 e) sign
sign_total false b rest e sign =
    mark_total (b ∷ rest) (find (fronting (b ∷ rest)) marks) (omega arith) sign (no_slash (b ∷ rest) (unequal b 47 e)) refl

-- ---- quotes

closed_total : (some : Bool) (inner : List ℕ) (n : ℕ) → leb 1 n ≡ some → n ≡ prefix_len is_quotable inner → n < length inner → get_or inner n 0 ≡ 39 → Something (39 ∷ inner)
closed_total true inner n es is within quote =
    let some : 0 < n = positive n es in inl (Some Name, n + 2, quoted_front inner n is some within quote)
closed_total false inner n es is within quote =
    let none : n ≡ 0 = nothing n es in
    inr (fault.Stray, quoted_stray inner (sym is ∙ none) (omega arith) (subst (λ (k : ℕ). get_or inner k 0 ≡ 39) none quote))

quote_by : (within quote : Bool) (inner : List ℕ) (n : ℕ) → leb (n + 1) (length inner) ≡ within → eqb (get_or inner n 0) 39 ≡ quote → n ≡ prefix_len is_quotable inner → Something (39 ∷ inner)
quote_by false quote inner n ew eq is = inr (fault.Unclosed, quoted_open inner n is (λ h _. beyond n (length inner) ew h))
quote_by true false inner n ew eq is = inr (fault.Unclosed, quoted_open inner n is (λ _ e. unequal (get_or inner n 0) 39 eq e))
quote_by true true inner n ew eq is = closed_total (leb 1 n) inner n refl is (inside n (length inner) ew) (equal (get_or inner n 0) 39 eq)

quote_total : (inner : List ℕ) → Something (39 ∷ inner)
quote_total inner =
    let n = prefix_len is_quotable inner in quote_by (leb (n + 1) (length inner)) (eqb (get_or inner n 0) 39) inner n refl refl refl

-- ---- numbers

number_by : (within : Bool) (text : List ℕ) → is_digit 10 (get_or text 0 0) ≡ true → leb (number_worth (take (number_length text) text)) greatest ≡ within → Something text
number_by true text first e = inl (Some (Number (pos (number_worth (take (number_length text) text)))), number_length text, number_front text first (at_most _ _ e))
number_by false text first e = inr (fault.Number, number_great text first (more_than _ _ e))

-- ---- any byte

total_by : (blank letter digit quote : Bool) (b : ℕ) (rest : List ℕ) → is_blank b ≡ blank → begins_word b ≡ letter → is_digit 10 b ≡ digit → eqb b 39 ≡ quote → Something (b ∷ rest)
total_by true letter digit quote b rest eb el ed eq = inl (None, 1, blank_front b rest eb)
total_by false true digit quote b rest eb el ed eq =
    let text = b ∷ rest in
    let n = prefix_len continues_word text in
    inl (Some (word_kind (reserved_of (take n text))), n, word_front text n el refl)
total_by false false true quote b rest eb el ed eq = number_by (leb (number_worth (take (number_length (b ∷ rest)) (b ∷ rest))) greatest) (b ∷ rest) ed refl
total_by false false false true b rest eb el ed eq = subst (λ (x : ℕ). Something (x ∷ rest)) (sym (equal b 39 eq)) (quote_total rest)
total_by false false false false b rest eb el ed eq =
    sign_total (eqb b 47) b rest refl (record { no_blank = eb; no_letter = el; no_digit = ed; no_quote = eq })

-- something stands at the front of each text that isn't empty
pub total : (text : List ℕ) → 0 < length text → Something text
total [] some = absurd (omega arith)
total (b ∷ rest) some = total_by (is_blank b) (begins_word b) (is_digit 10 b) (eqb b 39) b rest refl refl refl refl

-- ---- whole texts

abbrev pub Either : List ℕ → Type 0
Either text = ((ts : List Token) × Splits text ts) ⊎ ((why : LexFault) × HasFault text why)

at_end : (done : Bool) (text : List ℕ) (from : ℕ) → leb (length text) from ≡ done → (length text ≤ from) ⊎ (from < length text)
at_end true text from e = inl (at_most (length text) from e)
at_end false text from e = inr (more_than (length text) from e)

from_here : (fuel : ℕ) (text : List ℕ) (from : ℕ) (tokens : List Token) → length text ≤ from + fuel → IsCutTo text from tokens → Either text
from_here zero text from tokens enough so_far = inl (tokens, cut_ends text from tokens so_far (omega arith))
from_here (suc fuel) text from tokens enough so_far =
    elim (at_end (leb (length text) from) text from refl) [
      | inl end ↦ inl (tokens, cut_ends text from tokens so_far end)
      | inr within ↦ elim (total (drop from text) (omega (arith, length-drop from text))) [
        | inl w ↦ (
            let front : IsFront (drop from text) w.0 w.1 = w.2 in
            let some = front.some in
            from_here fuel text (from + w.1) (tokens ++ option_to_list (option_map (λ (k : TokenKind). token_made k from (from + w.1)) w.0)) (omega arith) (cut_more text from tokens w.0 w.1 so_far front))
        | inr w ↦ inr (fault_at from w.0, cut_fault text from tokens w.0 so_far w.1)
      ]
    ]

-- a text is split or has a first fault
pub split_or_first_fault : (text : List ℕ) → Either text
split_or_first_fault text = from_here (length text) text 0 [] (omega arith) (cut_first text)
