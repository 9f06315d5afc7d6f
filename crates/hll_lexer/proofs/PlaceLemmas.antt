-- The line and column of the next byte.
use Rattle.std.proofs.Common.{◌≡◌, ◌+◌, ◌-◌, ◌<◌, ℕ, Bool, true, false, not, List, length, get_or, take, sym, ap, subst, ◌∙◌, arith, drop, add_assoc, length-drop, length-take, get_or-take, get_or-drop, eq-eqb, ne_eqb}
use Rattle.std.proofs.lemmas.Bool.{not_from_true, not_from_false}
use Rattle.std.proofs.lemmas.List.Sums.{count_by_more_yes, count_by_more_no, suffix_len-take_yes, suffix_len-take_no, suffix_len-le-length}
use Rattle.std.specs.List.{after_last, suffix_len}
use Rattle.hll_lexer.specs.Place.{is_line_feed, place_of}
use Rattle.hll_lexer.specs.declared.places.LineColumn.{LineColumn}

-- a text has this many bytes after the last that passes
length-after_last : (p : ℕ → Bool) (xs : List ℕ) → length (after_last p xs) ≡ suffix_len (λ x. not (p x)) xs
length-after_last p xs = omega (arith, length-drop (length xs - suffix_len (λ x. not (p x)) xs) xs, suffix_len-le-length (λ x. not (p x)) xs)

-- just after a line feed
pub place_after_feed : (text : List ℕ) (i : ℕ) → i < length text → is_line_feed (get_or text i 0) ≡ true → place_of text (i + 1) ≡ record { line = (place_of text i).line + 1; column = 1 }
place_after_feed text i h feed =
    let before : i + 1 - 1 ≡ i = omega arith in
    let ends = subst (λ (k : ℕ). not (is_line_feed (get_or text k 0)) ≡ false) (sym before) (not_from_true _ feed) in
    let none = suffix_len-take_no (λ x. not (is_line_feed x)) text (i + 1) 0 (omega arith) (omega arith) ends in
    let lines = count_by_more_yes is_line_feed text i 0 h feed in
    let columns = length-after_last is_line_feed (take (i + 1) text) in
    let made : ℕ → ℕ → LineColumn = λ l c. record { line = l; column = c } in
    ap (λ l. made l (place_of text (i + 1)).column) (omega (arith, lines)) ∙ ap (λ c. made ((place_of text i).line + 1) c) (omega (arith, columns, none))

-- after another byte
pub place_after : (text : List ℕ) (i : ℕ) → i < length text → is_line_feed (get_or text i 0) ≡ false → place_of text (i + 1) ≡ record { line = (place_of text i).line; column = (place_of text i).column + 1 }
place_after text i h other =
    let before : i + 1 - 1 ≡ i = omega arith in
    let goes = subst (λ (k : ℕ). not (is_line_feed (get_or text k 0)) ≡ true) (sym before) (not_from_false _ other) in
    let more = suffix_len-take_yes (λ x. not (is_line_feed x)) text (i + 1) 0 (omega arith) (omega arith) goes in
    let lines = count_by_more_no is_line_feed text i 0 h other in
    let columns = length-after_last is_line_feed (take (i + 1) text) in
    let columns_before = length-after_last is_line_feed (take i text) in
    let same = ap (λ (k : ℕ). suffix_len (λ x. not (is_line_feed x)) (take k text)) before in
    let made : ℕ → ℕ → LineColumn = λ l c. record { line = l; column = c } in
    ap (λ l. made l (place_of text (i + 1)).column) (omega (arith, lines)) ∙ ap (λ c. made (place_of text i).line c) (omega (arith, columns, columns_before, more, same))

-- a byte of a part of a text
byte_of_part : (text : List ℕ) (from at i : ℕ) → i < length (take (at - from) (drop from text)) → (from + i < length text) × (get_or (take (at - from) (drop from text)) i 0 ≡ get_or text (from + i) 0)
byte_of_part text from at i h =
    let short = length-take (at - from) (drop from text) in
    let lengths = length-drop from text in
    (omega arith, get_or-take (at - from) (drop from text) i 0 (omega arith) ∙ get_or-drop from text i 0)

-- one byte further in a part of a text, past a line feed
pub further_feed : (text : List ℕ) (from at i : ℕ) (here next : LineColumn) → i < length (take (at - from) (drop from text)) → get_or (take (at - from) (drop from text)) i 0 ≡ 10 → here ≡ place_of text (from + i) → next ≡ record { line = here.line + 1; column = 1 } → next ≡ place_of text (from + (i + 1))
further_feed text from at i here next h feed is moves =
    let byte = byte_of_part text from at i h in
    let b : is_line_feed (get_or text (from + i) 0) ≡ true = eq-eqb _ _ (sym byte.1 ∙ feed) in
    let after = place_after_feed text (from + i) byte.0 b in
    let made : ℕ → LineColumn = λ l. record { line = l + 1; column = 1 } in
    moves ∙ ap (λ (p : LineColumn). made p.line) is ∙ sym after ∙ ap (place_of text) (add_assoc from i 1)

-- one byte further in a part of a text, past another byte
pub further : (text : List ℕ) (from at i : ℕ) (here next : LineColumn) → i < length (take (at - from) (drop from text)) → (get_or (take (at - from) (drop from text)) i 0 ≡ 10 → ⊥) → here ≡ place_of text (from + i) → next ≡ record { line = here.line; column = here.column + 1 } → next ≡ place_of text (from + (i + 1))
further text from at i here next h other is moves =
    let byte = byte_of_part text from at i h in
    let b : is_line_feed (get_or text (from + i) 0) ≡ false = ne_eqb _ _ (λ e. other (byte.1 ∙ e)) in
    let after = place_after text (from + i) byte.0 b in
    let made : LineColumn → LineColumn = λ p. record { line = p.line; column = p.column + 1 } in
    moves ∙ ap made is ∙ sym after ∙ ap (place_of text) (add_assoc from i 1)
