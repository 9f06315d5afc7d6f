-- Numbers at the front of some bytes.
use Rattle.std.proofs.Common.{◌≡◌, ℕ, zero, suc, ◌+◌, ◌-◌, ◌*◌, ◌^◌, ◌<◌, min, ℤ, pos, negsuc, ◌-ℤ◌, Bool, true, false, [], ◌∷◌, ◌++◌, fold, length, take, drop, get_or, refl, sym, ap, subst, ◌∙◌, arith}
use Rattle.std.specs.Prelude.{not, MatchBool, nat_eq, decimal}
use Rattle.std.specs.Fmt.{signed_decimal}
use Rattle.std.specs.List.{list_all, prefix_len}
use Rattle.std.specs.Int.{IsInRange, w128, cast_signed, cast_unsigned}
use Rattle.std.specs.Int.RustNames.{FitsSigned}
use Rattle.std.proofs.lemmas.Bool.{and_parts, and_from, ne_eqb, eq-eqb}
use Rattle.std.proofs.lemmas.Bool.Decides.{nat_tests}
use Rattle.std.proofs.lemmas.Fmt.{digits_decimal, digits_value-decimal, decimal-digits_value, decimal_nonempty, first_decimal, decimal_digit}
use Rattle.std.proofs.lemmas.Str.Parse.{IsNumeralModel, IsDigitsTest, FoldsDigits, numerals_by_fold}
use Rattle.hll_lexer.specs.Numbers.{is_digit}
use Rattle.hll_lexer.specs.Pieces.{AllPass, IsQuoted, Stops}
use Rattle.hll_lexer.specs.Words.{begins_word, continues_word}
use Rattle.hll_lexer.proofs.NumberLemmas.{decimal_no_letter, decimal_range}
use Rattle.hll_tree.specs.Printing.{Text}
use Rattle.trace_text.specs.Faults.{Ends, Never}
use Rattle.trace_text.specs.Parts.{digits_value, is_numeral, IsShort, StandsNumber, StandsWhole}
use Rattle.trace_text.proofs.SignedNumbers.{negated}
use Rattle.trace_text.proofs.TextFronts.{run_split, run_only}
use Rattle.hll_lexer.proofs.RunLemmas.{one_run}

-- ---- digits

ten_bytes : (b : ℕ) → IsInRange 48 57 b → is_digit 10 b ≡ true
ten_bytes b h = let low = h.0 in let high = h.1 in grind (arith, nat_tests)

own_test : IsDigitsTest (λ ds. list_all (is_digit 10) ds ≡ true)
own_test = record {
  empty = refl;
  parts = λ c cs h. let p = and_parts (is_digit 10 c) (list_all (is_digit 10) cs) h in (decimal_range c p.0, p.1);
  more = λ c cs r h. and_from (is_digit 10 c) (list_all (is_digit 10) cs) (ten_bytes c r) h;
}

-- digits behind those of a number
abbrev value_on : ℕ → Text → ℕ
value_on n ds = fold (λ n b. n * 10 + (b - 48)) n ds

own_fold : FoldsDigits value_on
own_fold = record { empty = λ n. refl; more = λ n c cs r. refl }

own : IsNumeralModel (λ ds. list_all (is_digit 10) ds ≡ true) (value_on 0)
own = numerals_by_fold (λ ds. list_all (is_digit 10) ds ≡ true) own_test value_on own_fold

-- one digit more, held
pub worth_more : (g v b : ℕ) → min (min (min v g * 10) g + (b - 48)) g ≡ min (v * 10 + (b - 48)) g
worth_more g v b = omega arith

-- ---- numbers without a sign

lead : (ds : Text) → is_numeral ds ≡ true → (0 < length ds) × (get_or ds 0 0 ≡ 48 → length ds ≡ 1)
lead [] e = absurd (cc e)
lead (d ∷ []) e = (omega arith, λ h. refl)
lead (d ∷ f ∷ ds) e = (omega arith, λ h. absurd (cc (sym e ∙ ap not (eq-eqb d 48 h))))

lead_again : (ds : Text) → 0 < length ds → 48 < get_or ds 0 0 → is_numeral ds ≡ true
lead_again [] h l = absurd (omega arith)
lead_again (d ∷ []) h l = refl
lead_again (d ∷ f ∷ ds) h l = ap not (ne_eqb d 48 (λ e. omega arith))

is_numeral_decimal : (n : ℕ) → n < 2 ^ 64 → is_numeral (decimal n) ≡ true
is_numeral_decimal zero lt = ap is_numeral (decimal_digit 0 (omega arith))
is_numeral_decimal (suc n) lt = lead_again (decimal (suc n)) (decimal_nonempty (suc n) lt) (first_decimal (suc n) (omega arith) lt)

-- digits without a leading zero are the number that they are worth
pub number_found : (text digits rest : Text) (k n : ℕ) → k ≡ prefix_len (is_digit 10) text → digits ≡ take k text → rest ≡ drop k text → is_numeral digits ≡ true → min (digits_value digits) (2 ^ 128 - 1) ≡ n → n < 2 ^ 64 → StandsNumber text n rest
number_found text digits rest k n is front back numeral worth lt =
    let h = run_split (is_digit 10) text k is in
    let pass : list_all (is_digit 10) digits ≡ true = subst (AllPass (is_digit 10)) (sym front) h.0 in
    let l = lead digits numeral in
    let exact : digits_value digits ≡ n = omega (arith, worth, lt) in
    let spelled : decimal n ≡ digits = ap decimal (sym exact) ∙ decimal-digits_value own digits pass l.0 l.1 (omega (arith, exact, lt)) in
    record {
      written = h.2 ∙ (λ i. sym front i ++ sym back i) ∙ ap (λ (t : Text). t ++ rest) (sym spelled);
      ends = subst (Stops (is_digit 10)) (sym back) h.1;
    }

-- a number that stands there is the run of digits
pub number_only : (text after : Text) (k n : ℕ) → k ≡ prefix_len (is_digit 10) text → n < 2 ^ 64 → StandsNumber text n after → (decimal n ≡ take k text) × (is_numeral (take k text) ≡ true) × (digits_value (take k text) ≡ n)
number_only text after k n is lt h =
    let pass : list_all (is_digit 10) (decimal n) ≡ true = digits_decimal own n lt in
    let only = run_only (is_digit 10) text k (decimal n) after is pass h.ends h.written in
    (only.0, ap is_numeral (sym only.0) ∙ is_numeral_decimal n lt, ap digits_value (sym only.0) ∙ digits_value-decimal own n lt)

-- one number stands at the front
pub one_number : (text after other : Text) (n k : ℕ) → n < 2 ^ 64 → k < 2 ^ 64 → StandsNumber text n after → StandsNumber text k other → (n ≡ k) × (after ≡ other)
one_number text after other n k small short h g =
    let a = number_only text after (prefix_len (is_digit 10) text) n refl small h in
    let b = number_only text other (prefix_len (is_digit 10) text) k refl short g in
    let pass : list_all (is_digit 10) (decimal n) ≡ true = digits_decimal own n small in
    let pass' : list_all (is_digit 10) (decimal k) ≡ true = digits_decimal own k short in
    (sym a.2 ∙ b.2, (one_run (is_digit 10) (decimal n) after (decimal k) other pass h.ends pass' g.ends (sym h.written ∙ g.written)).1)

-- ---- whole numbers

-- the first byte of a number is a digit
first_digit : (n : ℕ) (b : ℕ) (bs after : Text) → n < 2 ^ 64 → b ∷ bs ≡ decimal n ++ after → is_digit 10 b ≡ true
first_digit n b bs after lt e = by (decimal n) (digits_decimal own n lt) (decimal_nonempty n lt) e
  where
    by : (ds : Text) → list_all (is_digit 10) ds ≡ true → 0 < length ds → b ∷ bs ≡ ds ++ after → is_digit 10 b ≡ true
    by [] pass some e = absurd (omega (arith, some))
    by (d ∷ ds) pass some e =
        let same : b ≡ d = cc e in
        ap (is_digit 10) same ∙ (and_parts (is_digit 10 d) (list_all (is_digit 10) ds) pass).0

-- behind a sign a number stands that isn't 0
pub behind_sign : (digits text after : Text) (x : ℤ) → text ≡ 45 ∷ digits → IsShort x → StandsWhole text x after → (k : ℕ) × (x ≡ negsuc k) × (suc k < 2 ^ 64) × StandsNumber digits (suc k) after
behind_sign digits text after (pos n) e short h =
    let digit : is_digit 10 45 ≡ true = first_digit n 45 digits after short (sym e ∙ h.written) in
    absurd (cc digit)
behind_sign digits text after (negsuc k) e short h =
    let tails : digits ≡ decimal (suc k) ++ after = cc (sym e ∙ h.written) in
    (k, refl, short, record { written = tails; ends = h.ends })

-- without one a number stands
pub without_sign : (text after : Text) (x : ℤ) → Never (λ more. text ≡ 45 ∷ more) → IsShort x → StandsWhole text x after → (n : ℕ) × (x ≡ pos n) × (n < 2 ^ 64) × StandsNumber text n after
without_sign text after (pos n) never short h = (n, refl, short, record { written = h.written; ends = h.ends })
without_sign text after (negsuc k) never short h = absurd (never (decimal (suc k) ++ after) h.written)

-- no whole number is 0 behind a sign
pub not_zero : (digits text after rest : Text) (x : ℤ) → text ≡ 45 ∷ digits → IsShort x → StandsNumber digits 0 rest → StandsWhole text x after → ⊥
not_zero digits text after rest x e short zero_there h =
    let b = behind_sign digits text after x e short h in
    let same : 0 ≡ suc b.0 = (one_number digits rest after 0 (suc b.0) (omega arith) b.2 zero_there b.3).0 in
    absurd (cc same)

-- a number that isn't 0 stands behind a sign
pub negative_found : (digits text rest : Text) (n : ℕ) (z : ℤ) → text ≡ 45 ∷ digits → n < 2 ^ 64 → StandsNumber digits n rest → (n ≡ 0 → ⊥) → z ≡ pos n → FitsSigned w128 z →
    let x = cast_signed w128 (cast_unsigned w128 (pos 0 -ℤ cast_signed w128 (cast_unsigned w128 z))) in IsShort x × StandsWhole text x rest
negative_found digits text rest zero z e lt there some same fits = absurd (some refl)
negative_found digits text rest (suc k) z e lt there some same fits =
    subst (λ (x : ℤ). IsShort x × StandsWhole text x rest) (sym (negated z k same fits)) (lt, record { written = e ∙ ap (λ (t : Text). 45 ∷ t) there.written; ends = there.ends })

pub positive_found : (text rest : Text) (n : ℕ) (z : ℤ) → n < 2 ^ 64 → StandsNumber text n rest → z ≡ pos n → IsShort z × StandsWhole text z rest
positive_found text rest n z lt there same = subst (λ (x : ℤ). IsShort x × StandsWhole text x rest) (sym same) (lt, record { written = there.written; ends = there.ends })

-- one whole number stands at the front
pub one_whole : (text after other : Text) (x y : ℤ) → IsShort x → IsShort y → StandsWhole text x after → StandsWhole text y other → (x ≡ y) × (after ≡ other)
one_whole text after other (pos n) (pos k) p q h g =
    let one = one_number text after other n k p q (record { written = h.written; ends = h.ends }) (record { written = g.written; ends = g.ends }) in
    (ap pos one.0, one.1)
one_whole text after other (pos n) (negsuc k) p q h g = absurd (cc (first_digit n 45 (decimal (suc k) ++ other) after p (sym g.written ∙ h.written)))
one_whole text after other (negsuc n) (pos k) p q h g = absurd (cc (first_digit k 45 (decimal (suc n) ++ after) other q (sym h.written ∙ g.written)))
one_whole text after other (negsuc n) (negsuc k) p q h g =
    let tails : decimal (suc n) ++ after ≡ decimal (suc k) ++ other = cc (sym h.written ∙ g.written) in
    let one = one_number (decimal (suc n) ++ after) after other (suc n) (suc k) p q (record { written = refl; ends = h.ends }) (record { written = tails; ends = g.ends }) in
    let same : n ≡ k = cc one.0 in
    (ap negsuc same, one.1)

-- a number ends where no digit goes on
digit_ends : (b : ℕ) (bs after : Text) → is_digit 10 b ≡ true → (Ends (b ∷ bs) after → Stops (is_digit 10) after) × (Stops (is_digit 10) after → Ends (b ∷ bs) after)
digit_ends b bs after is = by (begins_word b) (decimal_no_letter b is) (nat_eq b 39) (no_quote b is)
  where
    no_quote : (b : ℕ) → is_digit 10 b ≡ true → nat_eq b 39 ≡ false
    no_quote b is = let r = decimal_range b is in ne_eqb b 39 (λ e. omega (arith, r.0, e))

    by : (c : Bool) → c ≡ false → (d : Bool) → d ≡ false →
        (MatchBool c (Stops continues_word after) (MatchBool d (IsQuoted (b ∷ bs)) (Stops (is_digit 10) after)) → Stops (is_digit 10) after)
        × (Stops (is_digit 10) after → MatchBool c (Stops continues_word after) (MatchBool d (IsQuoted (b ∷ bs)) (Stops (is_digit 10) after)))
    by true p d q = absurd (cc p)
    by false p true q = absurd (cc q)
    by false p false q = (λ h. h, λ h. h)

pub number_ends : (x : ℤ) (after : Text) → IsShort x → (Ends (signed_decimal x) after → Stops (is_digit 10) after) × (Stops (is_digit 10) after → Ends (signed_decimal x) after)
number_ends (pos n) after short = by (decimal n) (digits_decimal own n short) (decimal_nonempty n short)
  where
    by : (ds : Text) → list_all (is_digit 10) ds ≡ true → 0 < length ds → (Ends ds after → Stops (is_digit 10) after) × (Stops (is_digit 10) after → Ends ds after)
    by [] pass some = absurd (omega (arith, some))
    by (d ∷ ds) pass some = digit_ends d ds after (and_parts (is_digit 10 d) (list_all (is_digit 10) ds) pass).0
number_ends (negsuc k) after short = (λ h. h, λ h. h)
