-- What stands at the front of a text, found from its first bytes.
use Rattle.std.proofs.Common.{◌≡◌, ◌+◌, ◌-◌, ◌<◌, ◌≤◌, ℕ, suc, Bool, true, false, not, cond, ◌||◌, eqb, List, [], ◌∷◌, ◌++◌, length, get_or, take, drop, find, Option, Some, None, inl, inr, refl, sym, ap, subst, ◌∙◌, arith, codes, pos, one-add, add-one, append_assoc, append-nil, length-append, take-append-drop, length-take-le, length-drop, drop-cons, eq-eqb, ne_eqb, get_or-drop, add-zero, take_at, ltb, nat_eq, option_map, MatchOption}
use Rattle.std.proofs.lemmas.Bool.{both_ways, or_left}
use Rattle.std.proofs.lemmas.List.{get_or_append_left, take_more, take_all, get_or_push, get_or-take}
use Rattle.std.proofs.lemmas.List.Sums.{prefix_len-le-length}
use Rattle.std.specs.List.{prefix_len, filter, starts_with}
use Rattle.hll_lexer.specs.Place.{is_line_feed}
use Rattle.hll_lexer.specs.Words.{begins_word, continues_word, IsWord, reserved_of}
use Rattle.hll_lexer.specs.Numbers.{is_digit, number_worth}
use Rattle.hll_lexer.specs.Marks.{marks, mark_of}
use Rattle.hll_lexer.specs.Pieces.{is_blank, is_quotable, AllPass, Stops, IsLineComment, IsBlockComment, IsUnclosed, ClosesAt, BeginsComment, IsQuoted, IsToken, IsLongestToken, IsWithin, greatest, Stands, IsOpen, IsTooGreat, IsStray, IsSign, IsFront}
use Rattle.hll_lexer.specs.declared.token.Reserved.{Reserved as ReservedWord}
use Rattle.hll_lexer.specs.declared.token.Mark.{Mark}
use Rattle.hll_lexer.specs.declared.token.TokenKind.{TokenKind}
use Rattle.hll_lexer.specs.declared.token.TokenKind.TheVariants.{Name, Number, Mark as Marked}
use Rattle.hll_lexer.proofs.TableLemmas.{find_misses, find_passes, find-filter, fronting, front_is, is_front, first_is_longest, found_there}
use Rattle.hll_lexer.proofs.RunLemmas.{cuts, one_cut, one_run, run_passes, run_stops, run_bounds}
use Rattle.hll_lexer.proofs.NumberLemmas.{number_length, number_bounds, front_number}
use Rattle.hll_lexer.proofs.FormLemmas.{Start, start_of, letter_starts, digit_starts, sign_starts, mark_spelling, some_byte, word_kind, word_token, word_continues, form_here, comment_first}
use Rattle.hll_lexer.proofs.PieceLemmas.{closes_at, line_text, block_text, stops_run}

two_more : (n : ℕ) → n + 2 ≡ suc (suc n)
two_more n = omega arith

more_two : (n : ℕ) → 2 + n ≡ suc (suc n)
more_two n = omega arith

-- ---- the longest token

longest : (text : List ℕ) (n : ℕ) (kind : TokenKind) → n ≤ length text → IsToken (take n text) kind → ((front after : List ℕ) (other : TokenKind) → text ≡ front ++ after → IsToken front other → length front ≤ n) → (BeginsComment text → ⊥) → IsLongestToken (take n text) kind (drop n text)
longest text n kind fits token bounds apart =
    let whole = take-append-drop n text in
    let long = length-take-le n text fits in
    record {
      token = token;
      longest = λ front after other e t. (let short = bounds front after other (sym whole ∙ e) t in omega arith);
      apart = λ c. apart (subst BeginsComment whole c);
    }

-- no comment begins with another byte than a sign
no_comment : (text : List ℕ) (s : Start) → start_of (get_or text 0 0) ≡ s → (Start.Sign ≡ s → ⊥) → BeginsComment text → ⊥
no_comment text s is other c = other (sym (ap start_of (comment_first text c)) ∙ is)

-- ---- words

front_is_word : (text : List ℕ) → begins_word (get_or text 0 0) ≡ true → (0 < prefix_len continues_word text) × IsWord (take (prefix_len continues_word text) text)
front_is_word [] begins = absurd (both_ways _ refl begins)
front_is_word (b ∷ bs) begins =
    let goes : continues_word b ≡ true = or_left _ _ begins in
    let n = prefix_len continues_word bs in
    let is : prefix_len continues_word (b ∷ bs) ≡ suc n = ap (λ (c : Bool). cond c (1 + n) 0) goes ∙ one-add n in
    rw is (omega arith, (begins, run_passes continues_word bs))

word_within : (word : Option ReservedWord) (bytes : List ℕ) → IsWithin (word_kind word) bytes
word_within None bytes = tt
word_within (Some word) bytes = tt

-- where a letter stands at the front, a word does
pub word_front : (text : List ℕ) (n : ℕ) → begins_word (get_or text 0 0) ≡ true → n ≡ prefix_len continues_word text → IsFront text (Some (word_kind (reserved_of (take n text)))) n
word_front text n begins is =
    let word = front_is_word text begins in
    let whole = subst (λ (k : ℕ). IsWord (take k text)) (sym is) word.1 in
    let short = prefix_len-le-length continues_word text in
    let starts = letter_starts (get_or text 0 0) begins in
    record {
      some = omega arith;
      fits = omega arith;
      stands = (
        longest text n (word_kind (reserved_of (take n text))) (omega arith) (word_token (take n text) whole)
            (λ front after other cut token. (
            let form = form_here text front after other Start.Letter cut token starts in
            let bound = run_bounds continues_word front after (word_continues front form.0).2 in
            omega (arith, ap (prefix_len continues_word) cut)))
            (no_comment text Start.Letter starts (λ e. cc)),
        word_within (reserved_of (take n text)) (take n text),
      );
    }

-- ---- numbers

number_longest : (text : List ℕ) → is_digit 10 (get_or text 0 0) ≡ true → IsLongestToken (take (number_length text) text) (Number (pos (number_worth (take (number_length text) text)))) (drop (number_length text) text)
number_longest text first =
    let front = front_number text first in
    let starts = digit_starts (get_or text 0 0) first in
    longest text (number_length text) (Number (pos (number_worth (take (number_length text) text)))) front.fits (front.number, refl)
    (λ bytes after other cut token. (
    let form = form_here text bytes after other Start.Digit cut token starts in
    let bound = number_bounds bytes after form.0 in
    omega (arith, ap number_length cut)))
    (no_comment text Start.Digit starts (λ e. cc))

-- where a digit stands at the front, a number does
pub number_front : (text : List ℕ) → is_digit 10 (get_or text 0 0) ≡ true → number_worth (take (number_length text) text) ≤ greatest → IsFront text (Some (Number (pos (number_worth (take (number_length text) text))))) (number_length text)
number_front text first within =
    let front = front_number text first in
    record { some = front.some; fits = front.fits; stands = (number_longest text first, within) }

-- or one that is too great
pub number_great : (text : List ℕ) → is_digit 10 (get_or text 0 0) ≡ true → greatest < number_worth (take (number_length text) text) → IsTooGreat text
number_great text first above = record {
  bytes = take (number_length text) text;
  rest = drop (number_length text) text;
  whole = sym (take-append-drop (number_length text) text);
  number = number_longest text first;
  above = above;
}

-- ---- nothing

nothing : (text : List ℕ) (kind : Option TokenKind) (bytes rest : List ℕ) → is_blank (get_or text 0 0) ≡ false → (BeginsComment text → ⊥) → ((front after : List ℕ) (kind : TokenKind) → text ≡ front ++ after → IsToken front kind → ⊥) → text ≡ bytes ++ rest → Stands kind bytes rest → ⊥
nothing text None bytes rest first apart none cut s =
    elim s [
      | inl b ↦ both_ways _ first (ap (λ (t : List ℕ). is_blank (get_or t 0 0)) (cut ∙ ap (λ (t : List ℕ). t ++ rest) b.1) ∙ b.2)
      | inr c ↦ elim c [
        | inl l ↦ apart (BeginsComment.line (l.inner ++ rest) (cut ∙ line_text bytes rest l))
        | inr b ↦ apart (BeginsComment.block (b.inner ++ 42 ∷ 47 ∷ rest) (cut ∙ block_text bytes rest b))
      ]
    ]
nothing text (Some kind) bytes rest first apart none cut s = none bytes rest kind cut s.0.token

-- where no token begins, nor anything else, that is a fault
stray : (text : List ℕ) → 0 < length text → is_blank (get_or text 0 0) ≡ false → (BeginsComment text → ⊥) → ((front after : List ℕ) (kind : TokenKind) → text ≡ front ++ after → IsToken front kind → ⊥) → (IsOpen text → ⊥) → IsStray text
stray text some first apart none closed = record {
  some = some;
  nothing = λ kind bytes rest cut s. nothing text kind bytes rest first apart none cut s;
  not_open = closed;
  not_great = λ g. none g.bytes g.rest (Number (pos (number_worth g.bytes))) g.whole g.number.token;
}

-- ---- quotes

quoted_cut : (inner front after : List ℕ) (kind : TokenKind) → 39 ∷ inner ≡ front ++ after → IsToken front kind → (q : IsQuoted front) × (inner ≡ q.inner ++ 39 ∷ after)
quoted_cut inner front after kind cut token =
    let form = form_here (39 ∷ inner) front after kind Start.Quote cut token refl in
    let q : IsQuoted front = form.0 in
    let whole = cut ∙ ap (λ (s : List ℕ). s ++ after) q.whole ∙ ap (λ (s : List ℕ). 39 ∷ s) (append_assoc q.inner (codes "'") after) in
    let tails : inner ≡ q.inner ++ 39 ∷ after = cc in
    (q, tails)

-- a run of bytes between quotes is a name
pub quoted_front : (inner : List ℕ) (n : ℕ) → n ≡ prefix_len is_quotable inner → 0 < n → n < length inner → get_or inner n 0 ≡ 39 → IsFront (39 ∷ inner) (Some Name) (n + 2)
quoted_front inner n is some within quote =
    let run = take n inner in
    let long = length-take-le n inner (omega arith) in
    let pass : AllPass is_quotable run = subst (λ (k : ℕ). AllPass is_quotable (take k inner)) (sym is) (run_passes is_quotable inner) in
    let back : drop n inner ≡ 39 ∷ drop (suc n) inner = drop-cons inner n 0 within ∙ ap (λ (b : ℕ). b ∷ drop (suc n) inner) quote in
    let whole : inner ≡ run ++ 39 ∷ drop (suc n) inner = sym (take-append-drop n inner) ∙ ap (λ (s : List ℕ). run ++ s) back in
    let bytes : take (n + 2) (39 ∷ inner) ≡ 39 ∷ (run ++ 39 ∷ []) = ap (λ (k : ℕ). take k (39 ∷ inner)) (two_more n) ∙ ap (λ (s : List ℕ). 39 ∷ s) (ap (λ (k : ℕ). take k inner) (sym (add-one n)) ∙ take_more inner n 0 within ∙ ap (λ (b : ℕ). run ++ b ∷ []) quote) in
    record {
      some = omega arith;
      fits = omega arith;
      stands = (
        longest (39 ∷ inner) (n + 2) Name (omega arith) (inr (record { inner = run; whole = bytes; some = omega arith; quotable = pass }))
            (λ front after other cut token. (
            let q = quoted_cut inner front after other cut token in
            let same = one_run is_quotable q.0.inner (39 ∷ after) run (39 ∷ drop (suc n) inner) q.0.quotable refl pass refl (sym q.1 ∙ whole) in
            omega (arith, ap length q.0.whole, length-append q.0.inner (codes "'"), ap length same.0)))
            (no_comment (39 ∷ inner) Start.Quote refl (λ e. cc)),
        tt,
      );
    }

no_run : (inner : List ℕ) → prefix_len is_quotable inner ≡ 0 → Stops is_quotable inner
no_run inner none = subst (λ (k : ℕ). Stops is_quotable (drop k inner)) none (run_stops is_quotable inner)

stops_there : (rest : List ℕ) → 0 < length rest → get_or rest 0 0 ≡ 39 → Stops (λ b. is_quotable b || eqb b 39) rest → ⊥
stops_there [] some quote st = omega arith
stops_there (b ∷ rest) some quote st = both_ways true (ap (λ (x : ℕ). is_quotable x || eqb x 39) (sym quote) ∙ st) refl

closed_quote : (text inner : List ℕ) → text ≡ 39 ∷ inner → Stops is_quotable inner → 0 < length inner → get_or inner 0 0 ≡ 39 → IsOpen text → ⊥
closed_quote text inner is stops some quote (IsOpen.comment after e u) =
    let first : ◌≡◌ {A = ℕ} 39 47 = ap (λ (t : List ℕ). get_or t 0 0) (sym is ∙ e) in omega arith
closed_quote text inner is stops some quote (IsOpen.quote run rest e pass st) =
    let whole = sym is ∙ e in
    let tails : inner ≡ run ++ rest = cc in
    let same = one_run is_quotable [] inner run rest refl stops pass (stops_run rest st) tails in
    stops_there rest (subst (λ (r : List ℕ). 0 < length r) same.1 some) (sym (ap (λ (r : List ℕ). get_or r 0 0) same.1) ∙ quote) st

-- nothing between quotes is a fault at the first
pub quoted_stray : (inner : List ℕ) → prefix_len is_quotable inner ≡ 0 → 0 < length inner → get_or inner 0 0 ≡ 39 → IsStray (39 ∷ inner)
quoted_stray inner none some quote =
    stray (39 ∷ inner) (omega arith) refl (no_comment (39 ∷ inner) Start.Quote refl (λ e. cc))
    (λ front after kind cut token. (
    let q = quoted_cut inner front after kind cut token in
    let same = one_run is_quotable q.0.inner (39 ∷ after) [] inner q.0.quotable refl refl (no_run inner none) (sym q.1) in
    let some = q.0.some in
    omega (arith, ap length same.0)))
    (closed_quote (39 ∷ inner) inner refl (no_run inner none) some quote)

stops_both : (rest : List ℕ) → Stops is_quotable rest → (0 < length rest → get_or rest 0 0 ≡ 39 → ⊥) → Stops (λ b. is_quotable b || eqb b 39) rest
stops_both [] st other = tt
stops_both (b ∷ rest) st other = ap (λ (c : Bool). c || eqb b 39) st ∙ ne_eqb b 39 (other (omega arith))

-- a run that ends at no quote isn't closed
pub quoted_open : (inner : List ℕ) (n : ℕ) → n ≡ prefix_len is_quotable inner → (n < length inner → get_or inner n 0 ≡ 39 → ⊥) → IsOpen (39 ∷ inner)
quoted_open inner n is other =
    let lengths = length-drop n inner in
    let at : get_or (drop n inner) 0 0 ≡ get_or inner n 0 = rw (get_or-drop, add-zero) refl in
    IsOpen.quote (take n inner) (drop n inner) (ap (λ (s : List ℕ). 39 ∷ s) (sym (take-append-drop n inner)))
    (subst (λ (k : ℕ). AllPass is_quotable (take k inner)) (sym is) (run_passes is_quotable inner))
    (stops_both (drop n inner) (subst (λ (k : ℕ). Stops is_quotable (drop k inner)) (sym is) (run_stops is_quotable inner)) (λ some quote. other (omega arith) (sym at ∙ quote)))

-- ---- marks

-- the first mark in the table that is a front of the text stands there
pub mark_front : (text : List ℕ) (row : List ℕ × Mark) → IsSign (get_or text 0 0) → (BeginsComment text → ⊥) → find (fronting text) marks ≡ Some row → IsFront text (Some (Marked row.1)) (length row.0)
unfolding marks mark_of
mark_front text row sign apart found =
    let there : mark_of row.0 ≡ Some row.1 = found_there (fronting text) marks row refl found in
    let passes = (find_passes (fronting text) (λ (r : List ℕ × Mark). true) marks row refl found).0 in
    let whole = is_front text row.0 passes in
    let front : row.0 ≡ take (length row.0) text = sym (ap (λ (s : List ℕ). take (length row.0) s) whole ∙ take_at row.0 (drop (length row.0) text) (length row.0) refl) in
    let spelled = mark_spelling row.0 row.1 there in
    let fits : length row.0 ≤ length text = omega (arith, ap length whole, length-append row.0 (drop (length row.0) text)) in
    record {
      some = spelled.some;
      fits = fits;
      stands = (
        longest text (length row.0) (Marked row.1) fits (subst (λ (s : List ℕ). mark_of s ≡ Some row.1) front there)
            (λ bytes after other cut token. (
            let form = form_here text bytes after other Start.Sign cut token (sign_starts (get_or text 0 0) sign) in
            first_is_longest text marks row bytes form.0 refl found form.1 (front_is text bytes after cut)))
            apart,
        tt,
      );
    }

sign_closed : (text : List ℕ) → IsSign (get_or text 0 0) → (BeginsComment text → ⊥) → IsOpen text → ⊥
sign_closed text sign apart (IsOpen.comment after e u) = apart (BeginsComment.block after e)
sign_closed text sign apart (IsOpen.quote run rest e pass st) =
    both_ways _ sign.no_quote (eq-eqb _ _ (ap (λ (t : List ℕ). get_or t 0 0) e))

-- where none is, nothing stands there
pub mark_stray : (text : List ℕ) → 0 < length text → IsSign (get_or text 0 0) → (BeginsComment text → ⊥) → find (fronting text) marks ≡ None → IsStray text
unfolding mark_of
mark_stray text some sign apart none =
    stray text some sign.no_blank apart
    (λ front after kind cut token. (
    let form = form_here text front after kind Start.Sign cut token (sign_starts (get_or text 0 0) sign) in
    both_ways _ (find_misses (fronting text) marks front form.0 none form.1) (front_is text front after cut)))
    (sign_closed text sign apart)

-- ---- marks, as the code finds them

-- a mark of the table, and its length
abbrev pub with_length : List ℕ × Mark → Mark × ℕ
with_length row = (row.1, length row.0)

-- the marks that begin with this byte
abbrev pub beginning_with : ℕ → List (List ℕ × Mark)
beginning_with b = filter (λ (row : List ℕ × Mark). eqb (get_or row.0 0 0) b) marks

same_first : (text bytes : List ℕ) → ltb 0 (length bytes) ≡ true → starts_with nat_eq text bytes ≡ true → eqb (get_or bytes 0 0) (get_or text 0 0) ≡ true
same_first text bytes some front =
    let whole = is_front text bytes front in
    let first = ap (λ (s : List ℕ). get_or s 0 0) whole ∙ get_or_append_left bytes (drop (length bytes) text) 0 0 (some_byte (length bytes) some) in
    eq-eqb _ _ (sym first)

-- they are enough
found_here : (text : List ℕ) → find (fronting text) (beginning_with (get_or text 0 0)) ≡ find (fronting text) marks
unfolding marks
found_here text =
    find-filter (λ (row : List ℕ × Mark). ltb 0 (length row.0)) (fronting text) (λ (row : List ℕ × Mark). eqb (get_or row.0 0 0) (get_or text 0 0)) marks refl
    (λ row some front. same_first text row.0 some front)

mark_from : (text : List ℕ) (row : Option (List ℕ × Mark)) → 0 < length text → IsSign (get_or text 0 0) → (BeginsComment text → ⊥) → find (fronting text) marks ≡ row → MatchOption (option_map with_length row) (IsStray text) (λ t. IsFront text (Some (Marked t.0)) t.1)
mark_from text None some sign apart found = mark_stray text some sign apart found
mark_from text (Some row) some sign apart found = mark_front text row sign apart found

-- what the first mark that is a front of the text tells
pub mark_result : (text : List ℕ) (result : Option (Mark × ℕ)) → 0 < length text → IsSign (get_or text 0 0) → (BeginsComment text → ⊥) → result ≡ option_map with_length (find (fronting text) (beginning_with (get_or text 0 0))) → MatchOption result (IsStray text) (λ t. IsFront text (Some (Marked t.0)) t.1)
mark_result text result some sign apart is =
    subst (λ (r : Option (Mark × ℕ)). MatchOption r (IsStray text) (λ t. IsFront text (Some (Marked t.0)) t.1))
    (sym (is ∙ ap (option_map with_length) (found_here text))) (mark_from text (find (fronting text) marks) some sign apart refl)

-- ---- blanks and comments

pub blank_front : (b : ℕ) (rest : List ℕ) → is_blank b ≡ true → IsFront (b ∷ rest) None 1
blank_front b rest h = record { some = omega arith; fits = omega arith; stands = inl (b, refl, h) }

pub line_front : (inner : List ℕ) (n : ℕ) → n ≡ prefix_len (λ b. not (is_line_feed b)) inner → IsFront (47 ∷ 47 ∷ inner) None (2 + n)
line_front inner n is =
    let passes = λ (b : ℕ). not (is_line_feed b) in
    let short = prefix_len-le-length passes inner in
    let line : IsLineComment (47 ∷ 47 ∷ take n inner) (drop n inner) = record {
      inner = take n inner;
      whole = refl;
      line = subst (λ (k : ℕ). AllPass passes (take k inner)) (sym is) (run_passes passes inner);
      ends = subst (λ (k : ℕ). Stops passes (drop k inner)) (sym is) (run_stops passes inner);
    } in
    record {
      some = omega arith;
      fits = omega arith;
      stands = subst (λ (k : ℕ). Stands None (take k (47 ∷ 47 ∷ inner)) (drop k (47 ∷ 47 ∷ inner))) (sym (more_two n)) (inr (inl line));
    }

pub block_front : (inner : List ℕ) (n : ℕ) → ClosesAt inner n → IsFront (47 ∷ 42 ∷ inner) None (2 + n)
block_front inner n c =
    let bytes = c.inner ++ codes "*/" in
    let long : length bytes ≡ n = length-append c.inner (codes "*/") ∙ sym c.place in
    let front : take n inner ≡ bytes = ap (take n) c.whole ∙ take_at bytes c.after n long in
    let block : IsBlockComment (47 ∷ 42 ∷ take n inner) = record {
      inner = c.inner;
      whole = ap (λ (s : List ℕ). 47 ∷ 42 ∷ s) front;
      first = c.first;
    } in
    record {
      some = omega arith;
      fits = omega (arith, ap length c.whole, length-append bytes c.after);
      stands = subst (λ (k : ℕ). Stands None (take k (47 ∷ 42 ∷ inner)) (drop k (47 ∷ 42 ∷ inner))) (sym (more_two n)) (inr (inr block));
    }

pub block_open : (inner : List ℕ) → IsUnclosed inner → IsOpen (47 ∷ 42 ∷ inner)
block_open inner u = IsOpen.comment inner refl u

-- ---- where comments close

unclosed_end : (bytes : List ℕ) (b : ℕ) (before more after : List ℕ) → IsUnclosed bytes → ((before : List ℕ) → bytes ≡ before ++ codes "*" → b ≡ 47 → ⊥) → before ++ codes "*/" ≡ bytes ++ more → b ∷ [] ≡ more ++ after → ⊥
unclosed_end bytes b before [] after u last front back = u before [] (sym (append-nil bytes) ∙ sym front ∙ sym (append-nil (before ++ codes "*/")))
unclosed_end bytes b before (c ∷ []) after u last front back =
    let same : b ≡ c = ap (λ (s : List ℕ). get_or s 0 0) back in
    let whole : (before ++ codes "*") ++ 47 ∷ [] ≡ bytes ++ c ∷ [] = append_assoc before (codes "*") (codes "/") ∙ front in
    let cut = one_cut (before ++ codes "*") (47 ∷ []) bytes (c ∷ []) whole (omega (arith, ap length whole, length-append (before ++ codes "*") (47 ∷ []), length-append bytes (c ∷ []))) in
    last before (sym cut.0) (same ∙ sym (ap (λ (s : List ℕ). get_or s 0 0) cut.1))
unclosed_end bytes b before (c ∷ d ∷ more) after u last front back = omega (arith, ap length back)

-- bytes without a `*/` have none with one more, unless that makes one
unclosed_more : (bytes : List ℕ) (b : ℕ) → IsUnclosed bytes → ((before : List ℕ) → bytes ≡ before ++ codes "*" → b ≡ 47 → ⊥) → IsUnclosed (bytes ++ b ∷ [])
unclosed_more bytes b u last before after e =
    elim (cuts bytes (b ∷ []) (before ++ codes "*/") after e) [
      | inl w ↦ unclosed_end bytes b before w.0 after u last w.1 w.2
      | inr w ↦ u before w.0 w.1
    ]

-- as the loop finds it: no `*/` ends at a place further on, or one does
pub unclosed_next : (text : List ℕ) (i : ℕ) → 0 < i → i < length text → IsUnclosed (take i text) → (get_or text (i - 1) 0 ≡ 42 → get_or text i 0 ≡ 47 → ⊥) → IsUnclosed (take (i + 1) text)
unclosed_next text i some within u other =
    let whole = take_more text i 0 within in
    subst IsUnclosed (sym whole) (unclosed_more (take i text) (get_or text i 0) u (λ before e slash. (
    let long = length-take-le i text (omega arith) in
    let place : length before ≡ i - 1 = omega (arith, ap length e, length-append before (codes "*")) in
    let last : get_or (take i text) (i - 1) 0 ≡ 42 = ap (λ (s : List ℕ). get_or s (i - 1) 0) e ∙ get_or_push before 42 0 (i - 1) place in
    let before_last : i - 1 < i = omega arith in
    other (sym (get_or-take i text (i - 1) 0 before_last) ∙ last) slash)))

pub closes_here : (text : List ℕ) (i : ℕ) → 0 < i → i < length text → IsUnclosed (take i text) → get_or text (i - 1) 0 ≡ 42 → get_or text i 0 ≡ 47 → ClosesAt text (i + 1)
closes_here text i some within u star slash =
    let front = take (i - 1) text in
    let before : i - 1 < length text = omega arith in
    let next : i - 1 + 1 ≡ i = omega arith in
    let long = length-take-le (i - 1) text (omega arith) in
    let part : front ++ codes "*" ≡ take i text = ap (λ (b : ℕ). front ++ b ∷ []) (sym star) ∙ sym (take_more text (i - 1) 0 before) ∙ ap (λ (k : ℕ). take k text) next in
    let second : drop i text ≡ 47 ∷ drop (suc i) text = drop-cons text i 0 within ∙ ap (λ (b : ℕ). b ∷ drop (suc i) text) slash in
    record {
      inner = front;
      after = drop (suc i) text;
      whole = sym (take-append-drop i text) ∙ ap (λ (s : List ℕ). take i text ++ s) second ∙ ap (λ (s : List ℕ). s ++ 47 ∷ drop (suc i) text) (sym part)
          ∙ append_assoc front (codes "*") (47 ∷ drop (suc i) text) ∙ sym (closes_at front (drop (suc i) text));
      first = subst IsUnclosed (sym part) u;
      place = omega arith;
    }

short_unclosed : (bytes : List ℕ) → length bytes ≤ 1 → IsUnclosed bytes
short_unclosed bytes short before after e =
    omega (arith, ap length e, length-append (before ++ codes "*/") after, length-append before (codes "*/"))

pub unclosed_first : (text : List ℕ) → IsUnclosed (take 1 text)
unclosed_first [] = short_unclosed [] (omega arith)
unclosed_first (b ∷ text) = short_unclosed (b ∷ []) (omega arith)

pub unclosed_all : (text : List ℕ) (i : ℕ) → length text ≤ i → IsUnclosed (take i text) → IsUnclosed text
unclosed_all text i end u = subst IsUnclosed (take_all i text end) u
