-- Each form of expression is spelled as it is printed.
use Rattle.std.proofs.Common.{◌≡◌, ℕ, zero, suc, ℤ, ◌<◌, ◌≤◌, Bool, true, false, eqb, List, [], ◌∷◌, ◌++◌, length, get_or, map, inl, inr, refl, sym, ap, subst, ◌∙◌, arith, codes, pos, append_assoc}
use Rattle.std.specs.Prelude.{IsTrue, decimal, if◌then◌else◌}
use Rattle.std.specs.List.{flat_map, AllByRecursion}
use Rattle.std.proofs.lemmas.Bool.Decides.{nat_tests}
use Rattle.hll_lexer.specs.Pieces.{Stops, greatest}
use Rattle.hll_lexer.specs.Numbers.{is_digit}
use Rattle.hll_lexer.specs.Words.{begins_word, continues_word, is_plain_name}
use Rattle.hll_lexer.specs.declared.token.Mark.TheVariants as mark
use Rattle.hll_lexer.specs.declared.token.Reserved.TheVariants as reserved
use Rattle.hll_lexer.specs.declared.token.TokenKind.TheVariants as kind
use Rattle.hll_lexer.proofs.NumberLemmas.{decimal_range}
use Rattle.hll_lexer.proofs.RunLemmas.{first_passes}
use Rattle.hll_lexer.proofs.SeamLemmas.{extends}
use Rattle.hll_tree.specs.declared.tree.Expr.{Expr}
use Rattle.hll_tree.specs.declared.tree.Form.{Form-F, Number, Truth, Minus, Not, Group, Least, Greatest, Size}
use Rattle.hll_tree.specs.declared.tree.Form.TheVariants.{outs-Truth, outs-Minus, outs-Not, outs-Group, outs-Least, outs-Greatest, outs-Size}
use Rattle.hll_tree.specs.Printing.{Text, printed, at_level, plainly, list_text, form_text, name_text}
use Rattle.hll_tree.specs.Spells.{scope, Opening, Then, Many, Behind, Marked, Listed, expression_at, IsTruthWord, IsOperand, IsExpression}
use Rattle.hll_tree.specs.WithoutPlaces.{expression_without}
use Rattle.hll_tree.proofs.PrintedLists.{list_text_parts}
use Rattle.hll_tree.proofs.Laid.{Laid, Any, never, never_stops, laid_then, laid_made, laid_behind, laid_before, laid_weaker, laid_narrower, laid_left, laid_right, laid_as}
use Rattle.hll_tree.proofs.LaidTokens.{token_there, word_text, mark_text, laid_worded, laid_marked, laid_mark, laid_spaced, laid_number, decimal_digits, plain_begins, minus_ends, open_closed, close_closed, open_brace_closed, close_brace_closed, not_closed, min_closed, max_closed, abs_closed}
use Rattle.hll_tree.proofs.LaidLevels.{Begins, inside, laid_opening, laid_enclosed, Same, IsBare, not_bare, IsPlain, Fit, fit_begins, fit_laid, laid_many}
use Rattle.hll_tree.proofs.Without.{at_zero, without-number, without-truth, without-minus, without-not, without-group, without-least, without-greatest, without-size}

-- where room is wanted, there is some
pub with_room : (n : ℕ) (F : ℕ → Type 0) → ((room : ℕ) → n ≤ room → F (suc room)) → (room : ℕ) → suc n ≤ room → F room
with_room n F so zero h = absurd (omega arith)
with_room n F so (suc room) h = so room (omega arith)

-- ---- first bytes

begins_first : (t : Text) → 0 < length t → eqb (get_or t 0 0) 62 ≡ false → Begins t
begins_first [] some h = absurd (omega arith)
begins_first (b ∷ bs) some h = record { byte = b; after = bs; whole = refl; apart = h }

digit_apart : (b : ℕ) → 48 ≤ b → b ≤ 57 → eqb b 62 ≡ false
digit_apart b low high = grind (arith, nat_tests)

begins_number : (k : ℕ) → k ≤ greatest → Begins (decimal k)
begins_number k h =
    let d = decimal_digits k h in
    let range = decimal_range (get_or (decimal k) 0 0) (first_passes (is_digit 10) (decimal k) d.digits d.some) in
    begins_first (decimal k) d.some (digit_apart (get_or (decimal k) 0 0) range.0 range.1)

letter_apart : (b : ℕ) → begins_word b ≡ true → eqb b 62 ≡ false
letter_apart b h = grind (arith, nat_tests)

begins_plain : (bytes : Text) → begins_word (get_or bytes 0 0) ≡ true → Begins bytes
begins_plain [] h = absurd cc
begins_plain (b ∷ bs) h = record { byte = b; after = bs; whole = refl; apart = letter_apart b h }

abbrev quoted_unless : Bool → Text → Text
quoted_unless plain bytes = if plain then bytes else codes "'" ++ bytes ++ codes "'"

begins_name_by : (plain : Bool) (bytes : Text) → is_plain_name bytes ≡ plain → Begins (quoted_unless plain bytes)
begins_name_by true bytes is = begins_plain bytes (plain_begins bytes is)
begins_name_by false bytes is = record { byte = 39; after = bytes ++ codes "'"; whole = refl; apart = refl }

pub begins_name : (bytes : Text) → Begins (name_text bytes)
begins_name bytes = begins_name_by (is_plain_name bytes) bytes refl

-- ---- numbers and truth values

pub plain_number : (n k : ℕ) (e : Expr) → k ≤ greatest → e.form ≡ Number (pos k) → IsPlain n (form_text (Form-F.Number (pos k))) e
plain_number n k e h is = record {
  tight = omega arith;
  bare = λ _. IsBare.bare_number k h is;
  begins = begins_number k h;
  laid = λ room depth _.
      (laid_weaker continues_word (decimal k) (λ w ts x s. inr (inr (inl s))) (λ x r. r)
      (laid_number k h (λ w t x. (m : ℤ) × (t.kind ≡ kind.Number m) × (x ≡ expression_at t (Number m))) (Same e)
      (λ front rest.
      let t = token_there (kind.Number (pos k)) front (decimal k) in
      (expression_at t (Number (pos k)), (pos k, refl, refl), without-number (expression_at t (Number (pos k))) (pos k) refl ∙ sym (without-number e (pos k) is)))));
}

pub plain_truth : (n : ℕ) (b : Bool) (e : Expr) → e.form ≡ Truth b → IsPlain n (form_text (Form-F.Truth b)) e
plain_truth n true e is = record {
  tight = omega arith;
  bare = not_bare e (Truth true) is (rw (outs-Truth true) refl);
  begins = record { byte = 116; after = codes "rue"; whole = refl; apart = refl };
  laid = λ room depth _.
      (laid_weaker continues_word (codes "true") (λ w ts x s. inr (inr (inr (inl s)))) (λ x r. r)
      (laid_worded reserved.True (λ w t x. (value : Bool) × IsTruthWord t value × (x ≡ expression_at t (Truth value))) (Same e)
      (λ front rest.
      let t = token_there (kind.Reserved reserved.True) front (word_text reserved.True) in
      (expression_at t (Truth true), (true, refl, refl), without-truth (expression_at t (Truth true)) true refl ∙ sym (without-truth e true is)))));
}
plain_truth n false e is = record {
  tight = omega arith;
  bare = not_bare e (Truth false) is (rw (outs-Truth false) refl);
  begins = record { byte = 102; after = codes "alse"; whole = refl; apart = refl };
  laid = λ room depth _.
      (laid_weaker continues_word (codes "false") (λ w ts x s. inr (inr (inr (inl s)))) (λ x r. r)
      (laid_worded reserved.False (λ w t x. (value : Bool) × IsTruthWord t value × (x ≡ expression_at t (Truth value))) (Same e)
      (λ front rest.
      let t = token_there (kind.Reserved reserved.False) front (word_text reserved.False) in
      (expression_at t (Truth false), (false, refl, refl), without-truth (expression_at t (Truth false)) false refl ∙ sym (without-truth e false is)))));
}

-- ---- signs before an operand

laid_minus_sign : (room depth : ℕ) → Laid (extends (mark_text mark.Minus)) (mark_text mark.Minus) (λ w. Opening (inside (suc room) depth w) mark.Minus) Any
unfolding scope
laid_minus_sign room depth =
    laid_marked mark.Minus (λ w t x. (t.kind ≡ kind.Mark mark.Minus) × IsTrue ((inside (suc room) depth w).may_open t) × (x ≡ t)) Any
    (λ front rest. (token_there (kind.Mark mark.Minus) front (mark_text mark.Minus), (refl, refl, refl), tt))

begins_stop : (t rest : Text) → Begins t → Stops (extends (mark_text mark.Minus)) (t ++ rest)
begins_stop t rest b = subst (λ (s : Text). Stops (extends (mark_text mark.Minus)) (s ++ rest)) (sym b.whole) (minus_ends b.byte b.apart)

pub plain_minus : (n : ℕ) (e x : Expr) → e.form ≡ Minus x → Fit 8 n x → IsPlain (suc n) (form_text (Form-F.Minus (printed x))) e
unfolding scope
plain_minus n e x is f =
    let t : Text = codes "-" ++ at_level 8 (printed x) in
    record {
      tight = omega arith;
      bare = not_bare e (Minus x) is (rw (outs-Minus x) refl);
      begins = record { byte = 45; after = at_level 8 (printed x); whole = refl; apart = refl };
      laid = λ room depth h. (with_room n (λ r. Laid continues_word t (λ w. IsOperand (inside r depth w)) (Same e))
          (λ r less. laid_left continues_word t (laid_made continues_word t (λ y. expression_at y.0 (Minus y.1))
          (λ y r. without-minus (expression_at y.0 (Minus y.1)) y.1 refl ∙ ap (λ z. at_zero (Minus z)) r.1 ∙ sym (without-minus e x is))
          (laid_then (extends (mark_text mark.Minus)) continues_word (codes "-") (at_level 8 (printed x)) (laid_minus_sign r depth) (fit_laid 8 n r (suc depth) x (omega arith) less f)
          (λ rest _. begins_stop (at_level 8 (printed x)) rest (fit_begins 8 n x f)))))
          room h);
    }

pub plain_not : (n : ℕ) (e x : Expr) → e.form ≡ Not x → Fit 8 n x → IsPlain (suc n) (form_text (Form-F.Not (printed x))) e
unfolding scope
plain_not n e x is f =
    let t : Text = codes "~" ++ at_level 8 (printed x) in
    record {
      tight = omega arith;
      bare = not_bare e (Not x) is (rw (outs-Not x) refl);
      begins = record { byte = 126; after = at_level 8 (printed x); whole = refl; apart = refl };
      laid = λ room depth h. (with_room n (λ r. Laid continues_word t (λ w. IsOperand (inside r depth w)) (Same e))
          (λ r less. laid_right continues_word t (laid_left continues_word t (laid_made continues_word t (λ y. expression_at y.0 (Not y.1))
          (λ y r. without-not (expression_at y.0 (Not y.1)) y.1 refl ∙ ap (λ z. at_zero (Not z)) r.1 ∙ sym (without-not e x is))
          (laid_then never continues_word (codes "~") (at_level 8 (printed x)) (laid_opening mark.Not not_closed r depth) (fit_laid 8 n r (suc depth) x (omega arith) less f)
          (λ rest _. never_stops (at_level 8 (printed x) ++ rest))))))
          room h);
    }

-- ---- lists of expressions

-- one or more, of which the first is named
abbrev pub AllFit : ℕ → List Expr → Type 0
AllFit n es = AllByRecursion (Fit 0 n) es

-- the same expressions but for places
abbrev pub SameAll : List Expr → List Expr → Type 0
SameAll es ys = map expression_without ys ≡ map expression_without es

-- a comma and an expression
pub laid_further : (n room depth : ℕ) (e : Expr) → n ≤ room → Fit 0 n e → Laid continues_word (codes ", " ++ plainly (printed e)) (λ w. Behind (Marked mark.Comma) (IsExpression (inside room depth w))) (Same e)
laid_further n room depth e less f =
    laid_behind never continues_word (codes ", ") (plainly (printed e)) (laid_spaced mark.Comma) (fit_laid 0 n room depth e (omega arith) less f) (λ rest h. never_stops (plainly (printed e) ++ rest))

all_further : (n room depth : ℕ) (es : List Expr) → n ≤ room → AllFit n es →
    AllByRecursion (λ e. Laid continues_word (codes ", " ++ plainly (printed e)) (λ w. Behind (Marked mark.Comma) (IsExpression (inside room depth w))) (Same e)) es
all_further n room depth [] less all = tt
all_further n room depth (e ∷ es) less all = (laid_further n room depth e less all.0, all_further n room depth es less all.1)

further_laid : (n room depth : ℕ) (es : List Expr) → n ≤ room → AllFit n es →
    Laid continues_word (flat_map (λ e. codes ", " ++ plainly (printed e)) es) (λ w. Many (Behind (Marked mark.Comma) (IsExpression (inside room depth w)))) (SameAll es)
further_laid n room depth es less all =
    laid_many (λ e. codes ", " ++ plainly (printed e)) expression_without expression_without (λ e m rest. refl) es (all_further n room depth es less all)

further_ends : (es : List Expr) (rest : Text) → Stops continues_word rest → Stops continues_word (flat_map (λ e. codes ", " ++ plainly (printed e)) es ++ rest)
further_ends [] rest h = h
further_ends (e ∷ es) rest h = refl

listed_parts : (n room depth : ℕ) (e : Expr) (es : List Expr) → n ≤ room → Fit 0 n e → AllFit n es →
    Laid continues_word (plainly (printed e) ++ flat_map (λ e. codes ", " ++ plainly (printed e)) es) (λ w. Listed (IsExpression (inside room depth w))) (SameAll (e ∷ es))
listed_parts n room depth e es less f all =
    laid_made continues_word (plainly (printed e) ++ flat_map (λ e. codes ", " ++ plainly (printed e)) es) (λ y. y.0 ∷ y.1) (λ y r. ap (λ z. z ∷ map expression_without y.1) r.0 ∙ ap (λ zs. expression_without e ∷ zs) r.1)
    (laid_then continues_word continues_word (plainly (printed e)) (flat_map (λ e. codes ", " ++ plainly (printed e)) es) (fit_laid 0 n room depth e (omega arith) less f) (further_laid n room depth es less all) (further_ends es))

pub laid_listed : (n room depth : ℕ) (e : Expr) (es : List Expr) → n ≤ room → Fit 0 n e → AllFit n es →
    Laid continues_word (list_text (map printed (e ∷ es))) (λ w. Listed (IsExpression (inside room depth w))) (SameAll (e ∷ es))
laid_listed n room depth e es less f all =
    laid_as continues_word (plainly (printed e) ++ flat_map (λ e. codes ", " ++ plainly (printed e)) es) (list_text (map printed (e ∷ es))) (sym (list_text_parts e es)) (listed_parts n room depth e es less f all)

-- two or more
pub laid_operands : (n room depth : ℕ) (e f : Expr) (es : List Expr) → n ≤ room → Fit 0 n e → Fit 0 n f → AllFit n es →
    Laid continues_word (list_text (map printed (e ∷ f ∷ es))) (λ w. Then (IsExpression (inside room depth w)) (Behind (Marked mark.Comma) (Listed (IsExpression (inside room depth w)))))
    (λ y. SameAll (e ∷ f ∷ es) (y.0 ∷ y.1))
laid_operands n room depth e f es less fit fit' all =
    let further : Text = flat_map (λ e. codes ", " ++ plainly (printed e)) es in
    let whole : plainly (printed e) ++ (codes ", " ++ (plainly (printed f) ++ further)) ≡ list_text (map printed (e ∷ f ∷ es)) =
    ap (λ (t : Text). plainly (printed e) ++ t) (sym (append_assoc (codes ", ") (plainly (printed f)) further)) ∙ sym (list_text_parts e (f ∷ es)) in
    laid_as continues_word (plainly (printed e) ++ (codes ", " ++ (plainly (printed f) ++ further))) (list_text (map printed (e ∷ f ∷ es))) whole
    (laid_weaker continues_word (plainly (printed e) ++ (codes ", " ++ (plainly (printed f) ++ further))) (λ w ts x s. s)
    (λ y r. ap (λ z. z ∷ map expression_without y.1) r.0 ∙ ap (λ zs. expression_without e ∷ zs) r.1)
    (laid_then continues_word continues_word (plainly (printed e)) (codes ", " ++ (plainly (printed f) ++ further)) (fit_laid 0 n room depth e (omega arith) less fit)
    (laid_behind never continues_word (codes ", ") (plainly (printed f) ++ further) (laid_spaced mark.Comma) (listed_parts n room depth f es less fit' all) (λ rest h. never_stops (plainly (printed f) ++ further ++ rest)))
    (λ rest h. refl)))

pub plain_group : (n : ℕ) (e x : Expr) (xs : List Expr) → e.form ≡ Group (x ∷ xs) → Fit 0 n x → AllFit n xs → IsPlain (suc n) (form_text (Form-F.Group (map printed (x ∷ xs)))) e
unfolding scope
plain_group n e x xs is f all =
    let inner : Text = list_text (map printed (x ∷ xs)) in
    let t : Text = codes "{" ++ (inner ++ codes "}") in
    record {
      tight = omega arith;
      bare = not_bare e (Group (x ∷ xs)) is (rw (outs-Group (x ∷ xs)) refl);
      begins = record { byte = 123; after = inner ++ codes "}"; whole = refl; apart = refl };
      laid = λ room depth h. (with_room n (λ r. Laid continues_word t (λ w. IsOperand (inside r depth w)) (Same e))
          (λ r less. laid_narrower never continues_word t (λ rest _. never_stops rest)
          (laid_weaker never t (λ w ts y s. inr (inr (inr (inr (inr (inr (inl s))))))) (λ y r. r)
          (laid_made never t (λ y. expression_at y.0 (Group y.1))
          (λ y r. without-group (expression_at y.0 (Group y.1)) y.1 refl ∙ ap (λ z. at_zero (Group z)) r.1 ∙ sym (without-group e (x ∷ xs) is))
          (laid_then never never (codes "{") (inner ++ codes "}") (laid_opening mark.OpenBrace open_brace_closed r depth)
          (laid_before continues_word never inner (codes "}") (laid_listed n r (suc depth) x xs less f all) (laid_mark mark.CloseBrace close_brace_closed) (λ rest _. refl))
          (λ rest _. never_stops (inner ++ codes "}" ++ rest))))))
          room h);
    }

-- ---- functions

pub plain_least : (n : ℕ) (e x y : Expr) (xs : List Expr) → e.form ≡ Least (x ∷ y ∷ xs) → Fit 0 n x → Fit 0 n y → AllFit n xs → IsPlain (suc n) (form_text (Form-F.Least (map printed (x ∷ y ∷ xs)))) e
unfolding scope
plain_least n e x y xs is f g all =
    let inner : Text = list_text (map printed (x ∷ y ∷ xs)) in
    let t : Text = codes "$min" ++ (codes "(" ++ (inner ++ codes ")")) in
    record {
      tight = omega arith;
      bare = not_bare e (Least (x ∷ y ∷ xs)) is (rw (outs-Least (x ∷ y ∷ xs)) refl);
      begins = record { byte = 36; after = codes "min(" ++ inner ++ codes ")"; whole = refl; apart = refl };
      laid = λ room depth h. (with_room n (λ r. Laid continues_word t (λ w. IsOperand (inside r depth w)) (Same e))
          (λ r less. laid_narrower never continues_word t (λ rest _. never_stops rest)
          (laid_weaker never t (λ w ts y s. inr (inr (inr (inr (inr (inr (inr (inr (inr (inl s)))))))))) (λ y r. r)
          (laid_made never t (λ z. expression_at z.0 (Least z.1))
          (λ z r. without-least (expression_at z.0 (Least z.1)) z.1 refl ∙ ap (λ k. at_zero (Least k)) r.1 ∙ sym (without-least e (x ∷ y ∷ xs) is))
          (laid_then {S = SameAll (x ∷ y ∷ xs)} never never (codes "$min") (codes "(" ++ (inner ++ codes ")")) (laid_mark mark.Min min_closed)
          (laid_made never (codes "(" ++ (inner ++ codes ")")) (λ z. z.0 ∷ z.1) (λ z r. r)
          (laid_enclosed mark.Open mark.Close open_closed close_closed r depth continues_word inner (λ rest. refl) (laid_operands n r (suc depth) x y xs less f g all)))
          (λ rest _. never_stops (codes "(" ++ (inner ++ codes ")") ++ rest))))))
          room h);
    }

pub plain_greatest : (n : ℕ) (e x y : Expr) (xs : List Expr) → e.form ≡ Greatest (x ∷ y ∷ xs) → Fit 0 n x → Fit 0 n y → AllFit n xs → IsPlain (suc n) (form_text (Form-F.Greatest (map printed (x ∷ y ∷ xs)))) e
unfolding scope
plain_greatest n e x y xs is f g all =
    let inner : Text = list_text (map printed (x ∷ y ∷ xs)) in
    let t : Text = codes "$max" ++ (codes "(" ++ (inner ++ codes ")")) in
    record {
      tight = omega arith;
      bare = not_bare e (Greatest (x ∷ y ∷ xs)) is (rw (outs-Greatest (x ∷ y ∷ xs)) refl);
      begins = record { byte = 36; after = codes "max(" ++ inner ++ codes ")"; whole = refl; apart = refl };
      laid = λ room depth h. (with_room n (λ r. Laid continues_word t (λ w. IsOperand (inside r depth w)) (Same e))
          (λ r less. laid_narrower never continues_word t (λ rest _. never_stops rest)
          (laid_weaker never t (λ w ts y s. inr (inr (inr (inr (inr (inr (inr (inr (inr (inr (inl s))))))))))) (λ y r. r)
          (laid_made never t (λ z. expression_at z.0 (Greatest z.1))
          (λ z r. without-greatest (expression_at z.0 (Greatest z.1)) z.1 refl ∙ ap (λ k. at_zero (Greatest k)) r.1 ∙ sym (without-greatest e (x ∷ y ∷ xs) is))
          (laid_then {S = SameAll (x ∷ y ∷ xs)} never never (codes "$max") (codes "(" ++ (inner ++ codes ")")) (laid_mark mark.Max max_closed)
          (laid_made never (codes "(" ++ (inner ++ codes ")")) (λ z. z.0 ∷ z.1) (λ z r. r)
          (laid_enclosed mark.Open mark.Close open_closed close_closed r depth continues_word inner (λ rest. refl) (laid_operands n r (suc depth) x y xs less f g all)))
          (λ rest _. never_stops (codes "(" ++ (inner ++ codes ")") ++ rest))))))
          room h);
    }

pub plain_size : (n : ℕ) (e x : Expr) → e.form ≡ Size x → Fit 0 n x → IsPlain (suc n) (form_text (Form-F.Size (printed x))) e
unfolding scope
plain_size n e x is f =
    let inner : Text = plainly (printed x) in
    let t : Text = codes "$abs" ++ (codes "(" ++ (inner ++ codes ")")) in
    record {
      tight = omega arith;
      bare = not_bare e (Size x) is (rw (outs-Size x) refl);
      begins = record { byte = 36; after = codes "abs(" ++ inner ++ codes ")"; whole = refl; apart = refl };
      laid = λ room depth h. (with_room n (λ r. Laid continues_word t (λ w. IsOperand (inside r depth w)) (Same e))
          (λ r less. laid_narrower never continues_word t (λ rest _. never_stops rest)
          (laid_weaker never t (λ w ts y s. inr (inr (inr (inr (inr (inr (inr (inr (inr (inr (inr s))))))))))) (λ y r. r)
          (laid_made never t (λ z. expression_at z.0 (Size z.1))
          (λ z r. without-size (expression_at z.0 (Size z.1)) z.1 refl ∙ ap (λ k. at_zero (Size k)) r.1 ∙ sym (without-size e x is))
          (laid_then never never (codes "$abs") (codes "(" ++ (inner ++ codes ")")) (laid_mark mark.Abs abs_closed)
          (laid_enclosed mark.Open mark.Close open_closed close_closed r depth continues_word inner (λ rest. refl) (fit_laid 0 n r (suc depth) x (omega arith) less f))
          (λ rest _. never_stops (codes "(" ++ (inner ++ codes ")") ++ rest))))))
          room h);
    }
