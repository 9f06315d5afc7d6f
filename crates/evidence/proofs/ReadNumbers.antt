-- Numbers at the front of a text: how far the digits go, and which number they spell.
use Rattle.std.proofs.Common.{◌≡◌, ℕ, zero, suc, ◌+◌, ◌*◌, ◌-◌, ◌^◌, ◌<◌, ◌≤◌, Bool, true, false, cond, List, [], ◌∷◌, ◌++◌, length, take, drop, get_or, Option, Some, None, refl, sym, ap, subst, ◌∙◌, arith, inl, inr}
use Rattle.std.specs.Prelude.{not, ◌&&◌, min, decimal}
use Rattle.std.specs.List.{list_all}
use Rattle.std.specs.Option.{MatchOption, option_map}
use Rattle.std.specs.Str.{bytes_eq}
use Rattle.std.proofs.lemmas.Bool.{cases_lt, eq-eqb, ne_eqb}
use Rattle.std.proofs.lemmas.Fmt.{digits_decimal, digits_value-decimal, decimal-digits_value, decimal_nonempty, first_decimal, decimal_digit}
use Rattle.std.proofs.lemmas.List.{take-append-drop, drop_at}
use Rattle.std.proofs.Math.Seq.{take-append_seam}
use Rattle.std.proofs.lemmas.Slice.Eq.{bytes_eq-Decides}
use Rattle.std.proofs.lemmas.Str.Parse.{IsNumeralModel, IsDigitsTest, FoldsDigits, numerals_by_fold}
use Rattle.std.proofs.Common.{rules}
use Rattle.lll_text.specs.Fields.{is_digit, is_numeral, digits, value_on, begins_number}
use Rattle.lll_text.proofs.FieldLemmas.{value_on-above, digits-more, digits-front}
use Rattle.lll_text.proofs.Numbers.{digits_all}
use Rattle.evidence.specs.Readers.{Reads, ReadsFront}

-- ---- words

pub after_reads : {R : Type 0} (now : R → List ℕ) (bytes text : List ℕ) (r : Option R) → MatchOption r (bytes_eq (take (length bytes) text) bytes ≡ false) (λ x. (bytes_eq (take (length bytes) text) bytes ≡ true) × (now x ≡ drop (length bytes) text) × (length (now x) + length bytes ≡ length text))
    → Reads (λ rest. Unit {0}) (λ rest. bytes ++ rest) text (option_map now r)
after_reads now bytes text None h = λ rest fits e.
    let front : take (length bytes) text ≡ bytes = ap (take (length bytes)) e ∙ take-append_seam bytes rest in
    let t = (bytes_eq-Decides (take (length bytes) text) bytes).1 front in
    absurd cc
after_reads now bytes text (Some x) h =
    let front = (bytes_eq-Decides (take (length bytes) text) bytes).0 h.0 in
    (tt, sym (take-append-drop (length bytes) text) ∙ ap (λ (t : List ℕ). t ++ drop (length bytes) text) front ∙ ap (λ (t : List ℕ). bytes ++ t) (sym h.1))

-- ---- digits, counted

-- a number that is held at the greatest of 64 bits
abbrev pub held : ℕ → ℕ
held n = min n (2 ^ 64 - 1)

held_on : (ds : List ℕ) (m n : ℕ) → m ≡ held n → held (value_on m ds) ≡ held (value_on n ds)
held_on ds m n e =
    elim (cases_lt n (2 ^ 64)) [
      | inl lt ↦ ap (λ k. held (value_on k ds)) (omega arith)
      | inr le ↦ omega (arith, value_on-above ds m, value_on-above ds n)
    ]

-- how far the digits are read
pub record Counted (text : List ℕ) (value count : ℕ) : Type 0 where
  pub value_is : held (value_on value (digits (drop count text))) ≡ held (value_on 0 (digits text))
  pub count_is : count + length (digits (drop count text)) ≡ length (digits text)
  pub small : value < 2 ^ 64

pub Counted-more : (text : List ℕ) (value next count : ℕ) → count < length text → is_digit (get_or text count 0) ≡ true → next ≡ held (10 * value + (get_or text count 0 - 48)) → Counted text value count → Counted text next (count + 1)
unfolding value_on
Counted-more text value next count lt digit e so_far =
    let more = digits-more text count lt digit in
    record {
      value_is = held_on (digits (drop (count + 1) text)) next (10 * value + (get_or text count 0 - 48)) e ∙ ap (λ ds. held (value_on value ds)) (sym more) ∙ so_far.value_is;
      count_is = omega (arith, so_far.count_is, ap length more);
      small = omega arith;
    }

-- all of them are read
pub record Stopped (text : List ℕ) (value count : ℕ) : Type 0 where
  pub value_is : value ≡ held (value_on 0 (digits text))
  pub front : digits text ≡ take count text
  pub count_is : count ≡ length (digits text)

pub Counted-stops : (text : List ℕ) (value count : ℕ) → digits (drop count text) ≡ [] → Counted text value count → Stopped text value count
unfolding value_on
Counted-stops text value count nothing so_far =
    let whole : held value ≡ held (value_on 0 (digits text)) = ap (λ ds. held (value_on value ds)) (sym nothing) ∙ so_far.value_is in
    let count_is : count ≡ length (digits text) = omega (arith, so_far.count_is, ap length nothing) in
    record {
      value_is = omega (arith, whole, so_far.small);
      front = digits-front text ∙ ap (λ n. take n text) (sym count_is);
      count_is = count_is;
    }

-- ---- which number they spell

own_test : IsDigitsTest (λ ds. list_all is_digit ds ≡ true)
own_test = search rules

own_fold : FoldsDigits value_on
unfolding value_on
own_fold = record { empty = λ n. refl; more = λ n c cs h. ap (λ m. value_on m cs) (omega arith) }

own : IsNumeralModel (λ ds. list_all is_digit ds ≡ true) (value_on 0)
own = numerals_by_fold (λ ds. list_all is_digit ds ≡ true) own_test value_on own_fold

-- no digit follows the digits
digits_stop-step : (v : Bool) (b : ℕ) (ds bs : List ℕ) → is_digit b ≡ v → begins_number (drop (length ds) bs) ≡ false → begins_number (drop (length (cond v (b ∷ ds) [])) (b ∷ bs)) ≡ false
digits_stop-step true b ds bs e h = h
digits_stop-step false b ds bs e h = e

digits_stop : (text : List ℕ) → begins_number (drop (length (digits text)) text) ≡ false
unfolding digits
digits_stop [] = refl
digits_stop (b ∷ bs) = digits_stop-step (is_digit b) b (digits bs) bs refl (digits_stop bs)

digits_end-step : (v : Bool) (b : ℕ) (ds : List ℕ) → v ≡ false → cond v (b ∷ ds) [] ≡ []
digits_end-step true b ds e = absurd cc
digits_end-step false b ds e = refl

digits_end : (rest : List ℕ) → begins_number rest ≡ false → digits rest ≡ []
unfolding digits
digits_end [] e = refl
digits_end (b ∷ bs) e = digits_end-step (is_digit b) b (digits bs) e

digits_again-step : (v : Bool) (b : ℕ) (ds rest : List ℕ) → (v && list_all is_digit ds) ≡ true → (list_all is_digit ds ≡ true → digits (ds ++ rest) ≡ ds) → cond v (b ∷ digits (ds ++ rest)) [] ≡ b ∷ ds
digits_again-step true b ds rest h go = ap (λ (t : List ℕ). b ∷ t) (go h)
digits_again-step false b ds rest h go = absurd cc

digits_again : (ds rest : List ℕ) → list_all is_digit ds ≡ true → begins_number rest ≡ false → digits (ds ++ rest) ≡ ds
unfolding digits
digits_again [] rest h e = digits_end rest e
digits_again (b ∷ ds) rest h e = digits_again-step (is_digit b) b ds rest h (λ g. digits_again ds rest g e)

lead : (ds : List ℕ) → is_numeral ds ≡ true → (0 < length ds) × (get_or ds 0 0 ≡ 48 → length ds ≡ 1)
lead [] e = absurd cc
lead (d ∷ []) e = (omega arith, λ h. refl)
lead (d ∷ f ∷ ds) e = (omega arith, λ h. absurd (let same = eq-eqb d 48 h in cc))

lead_again : (ds : List ℕ) → 0 < length ds → 48 < get_or ds 0 0 → is_numeral ds ≡ true
lead_again [] h l = absurd (omega arith)
lead_again (d ∷ []) h l = refl
lead_again (d ∷ f ∷ ds) h l = ap not (ne_eqb d 48 (λ e. omega arith))

is_numeral_decimal : (n : ℕ) → n < 2 ^ 64 → is_numeral (decimal n) ≡ true
is_numeral_decimal zero lt = ap is_numeral (decimal_digit 0 (omega arith))
is_numeral_decimal (suc n) lt = lead_again (decimal (suc n)) (decimal_nonempty (suc n) (omega arith)) (first_decimal (suc n) (omega arith) (omega arith))

-- the text after the digits
abbrev pub past_digits : List ℕ → List ℕ
past_digits text = drop (length (digits text)) text

-- the digits spell a number
pub number_taken : (text : List ℕ) (n : ℕ) → is_numeral (digits text) ≡ true → n ≡ value_on 0 (digits text) → n < 2 ^ 64 → (text ≡ decimal n ++ past_digits text) × (begins_number (past_digits text) ≡ false)
number_taken text n numeral e small =
    let l = lead (digits text) numeral in
    let spelled : decimal n ≡ digits text = ap decimal e ∙ decimal-digits_value own (digits text) (digits_all text) l.0 l.1 (omega arith) in (
      sym (take-append-drop (length (digits text)) text) ∙ ap (λ (t : List ℕ). t ++ past_digits text) (sym (digits-front text)) ∙ ap (λ (t : List ℕ). t ++ past_digits text) (sym spelled),
      digits_stop text,
    )

-- a number that is spelled is that of the digits
pub record IsNumberOf (text : List ℕ) (n : ℕ) (rest : List ℕ) : Type 0 where
  pub numeral : is_numeral (digits text) ≡ true
  pub value : value_on 0 (digits text) ≡ n
  pub past : past_digits text ≡ rest

number_again : (n : ℕ) (rest : List ℕ) → n < 2 ^ 64 → begins_number rest ≡ false → IsNumberOf (decimal n ++ rest) n rest
number_again n rest lt other =
    let ds : digits (decimal n ++ rest) ≡ decimal n = digits_again (decimal n) rest (digits_decimal own n lt) other in
    record {
      numeral = ap is_numeral ds ∙ is_numeral_decimal n lt;
      value = ap (value_on 0) ds ∙ digits_value-decimal own n lt;
      past = ap (λ (t : List ℕ). drop (length t) (decimal n ++ rest)) ds ∙ drop_at (decimal n) rest (length (decimal n)) refl;
    }

pub number_is : (text : List ℕ) (n : ℕ) (rest : List ℕ) → n < 2 ^ 64 → begins_number rest ≡ false → text ≡ decimal n ++ rest → IsNumberOf text n rest
number_is text n rest lt other e = subst (λ (t : List ℕ). IsNumberOf t n rest) (sym e) (number_again n rest lt other)

-- one number, and one rest
pub numbers_told : (m n : ℕ) (r s : List ℕ) → m < 2 ^ 64 → n < 2 ^ 64 → begins_number r ≡ false → begins_number s ≡ false → decimal m ++ r ≡ decimal n ++ s → (m ≡ n) × (r ≡ s)
numbers_told m n r s p q a b e =
    let x = number_again m r p a in
    let y = number_is (decimal m ++ r) n s q b e in
    (sym x.value ∙ y.value, sym x.past ∙ y.past)

-- what a reader of numbers answers
pub number_reads : (text : List ℕ) (limit value : ℕ) → limit < 2 ^ 64 - 1 → value ≡ held (value_on 0 (digits text)) → is_numeral (digits text) ≡ true → value ≤ limit → ReadsFront (λ n. n ≤ limit) decimal text (Some (value, past_digits text))
number_reads text limit value small e numeral le =
    let taken = number_taken text value numeral (omega arith) (omega arith) in
    (le, taken.0, taken.1)

pub not_numeral : (text : List ℕ) (limit : ℕ) → limit < 2 ^ 64 - 1 → is_numeral (digits text) ≡ false → ReadsFront (λ n. n ≤ limit) decimal text None
not_numeral text limit small other n rest le e no_digit =
    let number = number_is text n rest (omega arith) no_digit e in
    let same : true ≡ false = sym number.numeral ∙ other in
    absurd cc

pub too_large : (text : List ℕ) (limit value : ℕ) → limit < 2 ^ 64 - 1 → value ≡ held (value_on 0 (digits text)) → limit < value → ReadsFront (λ n. n ≤ limit) decimal text None
too_large text limit value small e lt n rest le same no_digit =
    let number = number_is text n rest (omega arith) no_digit same in
    absurd (omega (arith, number.value))
