-- The loops of the readers of fields.
use Rattle.std.proofs.Common.{◌≡◌, ℕ, ◌+◌, ◌*◌, ◌-◌, ◌^◌, ◌<◌, ◌≤◌, Bool, true, false, cond, List, [], ◌∷◌, length, take, drop, get_or, Some, None, refl, sym, ap, ◌∙◌, add-one, drop-cons, arith, inl, inr}
use Rattle.std.specs.Prelude.{nat_eq, ◌&&◌}
use Rattle.std.specs.Str.{bytes_eq}
use Rattle.std.proofs.lemmas.Bool.{cases_lt}
use Rattle.std.proofs.Math.ListN.{drop_of_length-le}
use Rattle.lll_text.specs.Fields.{after, is_digit, digits, value_on, held, to_line_end}

-- ---- words

is_step : (v : Bool) (bs cs : List ℕ) → (v && bytes_eq (take (length bs) cs) bs) ≡ true → (bytes_eq (take (length bs) cs) bs ≡ true → after bs cs ≡ Some (drop (length bs) cs)) → cond v (after bs cs) None ≡ Some (drop (length bs) cs)
is_step true bs cs h rest = rest h
is_step false bs cs h rest = absurd cc

-- whether the text begins so, as a comparison of its front answers
pub after_is : (bytes text : List ℕ) → bytes_eq (take (length bytes) text) bytes ≡ true → after bytes text ≡ Some (drop (length bytes) text)
unfolding after
after_is [] text h = refl
after_is (b ∷ bs) [] h = absurd cc
after_is (b ∷ bs) (c ∷ cs) h = is_step (nat_eq c b) bs cs h (after_is bs cs)

none_step : (v : Bool) (bs cs : List ℕ) → (v && bytes_eq (take (length bs) cs) bs) ≡ false → (bytes_eq (take (length bs) cs) bs ≡ false → after bs cs ≡ None) → cond v (after bs cs) None ≡ None
none_step true bs cs h rest = rest h
none_step false bs cs h rest = refl

pub after_none : (bytes text : List ℕ) → bytes_eq (take (length bytes) text) bytes ≡ false → after bytes text ≡ None
unfolding after
after_none [] text h = absurd cc
after_none (b ∷ bs) [] h = refl
after_none (b ∷ bs) (c ∷ cs) h = none_step (nat_eq c b) bs cs h (after_none bs cs)

-- ---- fronts

front_step : (v : Bool) (b : ℕ) (front bs : List ℕ) → front ≡ take (length front) bs → cond v (b ∷ front) [] ≡ take (length (cond v (b ∷ front) [])) (b ∷ bs)
front_step true b front bs e = ap (λ (t : List ℕ). b ∷ t) e
front_step false b front bs e = refl

front_step_not : (v : Bool) (b : ℕ) (front bs : List ℕ) → front ≡ take (length front) bs → cond v [] (b ∷ front) ≡ take (length (cond v [] (b ∷ front))) (b ∷ bs)
front_step_not true b front bs e = refl
front_step_not false b front bs e = ap (λ (t : List ℕ). b ∷ t) e

-- ---- numbers

pub value_on-grows : (ds : List ℕ) (m n : ℕ) → m ≤ n → value_on m ds ≤ value_on n ds
unfolding value_on
value_on-grows [] m n le = le
value_on-grows (d ∷ ds) m n le = value_on-grows ds (10 * m + (d - 48)) (10 * n + (d - 48)) (omega arith)

pub value_on-above : (ds : List ℕ) (n : ℕ) → n ≤ value_on n ds
unfolding value_on
value_on-above [] n = omega arith
value_on-above (d ∷ ds) n = omega (arith, value_on-above ds (10 * n + (d - 48)))

-- to hold a number on the way changes nothing
pub held_on : (ds : List ℕ) (m n : ℕ) → m ≡ held n → held (value_on m ds) ≡ held (value_on n ds)
held_on ds m n e =
    elim (cases_lt n (2 ^ 32)) [
      | inl lt ↦ ap (λ k. held (value_on k ds)) (omega arith)
      | inr le ↦ omega (arith, value_on-above ds m, value_on-above ds n)
    ]

-- where the digits go on, and where they end
pub digits-more : (text : List ℕ) (i : ℕ) → i < length text → is_digit (get_or text i 0) ≡ true → digits (drop i text) ≡ get_or text i 0 ∷ digits (drop (i + 1) text)
unfolding digits
digits-more text i lt digit = rw (drop-cons text i 0 lt, digit, add-one) refl

pub digits-end : (text : List ℕ) (i : ℕ) → i < length text → is_digit (get_or text i 0) ≡ false → digits (drop i text) ≡ []
unfolding digits
digits-end text i lt digit = rw (drop-cons text i 0 lt, digit) refl

pub digits-past : (text : List ℕ) (i : ℕ) → length text ≤ i → digits (drop i text) ≡ []
unfolding digits
digits-past text i le = ap digits (drop_of_length-le text le)

pub digits-front : (text : List ℕ) → digits text ≡ take (length (digits text)) text
unfolding digits
digits-front [] = refl
digits-front (b ∷ bs) = front_step (is_digit b) b (digits bs) bs (digits-front bs)

-- how far the digits are read
pub record Counted (text : List ℕ) (value count : ℕ) : Type 0 where
  pub value_is : held (value_on value (digits (drop count text))) ≡ held (value_on 0 (digits text))
  pub count_is : count + length (digits (drop count text)) ≡ length (digits text)
  pub small : value < 2 ^ 32

pub Counted-more : (text : List ℕ) (value next count : ℕ) → count < length text → is_digit (get_or text count 0) ≡ true → next ≡ held (10 * value + (get_or text count 0 - 48)) → Counted text value count → Counted text next (count + 1)
unfolding value_on
Counted-more text value next count lt digit e so_far =
    let more = digits-more text count lt digit in
    record {
      value_is = held_on (digits (drop (count + 1) text)) next (10 * value + (get_or text count 0 - 48)) e ∙ ap (λ ds. held (value_on value ds)) (sym more) ∙ so_far.value_is;
      count_is = omega (arith, so_far.count_is, ap length more);
      small = omega arith;
    }

-- all of them are read
pub record Stopped (text : List ℕ) (value count : ℕ) : Type 0 where
  pub value_is : value ≡ held (value_on 0 (digits text))
  pub front : digits text ≡ take count text
  pub count_is : count ≡ length (digits text)

pub Counted-stops : (text : List ℕ) (value count : ℕ) → digits (drop count text) ≡ [] → Counted text value count → Stopped text value count
unfolding value_on
Counted-stops text value count nothing so_far =
    let whole : held value ≡ held (value_on 0 (digits text)) = ap (λ ds. held (value_on value ds)) (sym nothing) ∙ so_far.value_is in
    let count_is : count ≡ length (digits text) = omega (arith, so_far.count_is, ap length nothing) in
    record {
      value_is = omega (arith, whole, so_far.small);
      front = digits-front text ∙ ap (λ n. take n text) (sym count_is);
      count_is = count_is;
    }

-- ---- names

pub to_line_end-more : (text : List ℕ) (i : ℕ) → i < length text → nat_eq (get_or text i 0) 10 ≡ false → to_line_end (drop i text) ≡ get_or text i 0 ∷ to_line_end (drop (i + 1) text)
unfolding to_line_end
to_line_end-more text i lt other = rw (drop-cons text i 0 lt, other, add-one) refl

pub to_line_end-here : (text : List ℕ) (i : ℕ) → i < length text → nat_eq (get_or text i 0) 10 ≡ true → to_line_end (drop i text) ≡ []
unfolding to_line_end
to_line_end-here text i lt this = rw (drop-cons text i 0 lt, this) refl

pub to_line_end-past : (text : List ℕ) (i : ℕ) → length text ≤ i → to_line_end (drop i text) ≡ []
unfolding to_line_end
to_line_end-past text i le = ap to_line_end (drop_of_length-le text le)

pub to_line_end-front : (text : List ℕ) → to_line_end text ≡ take (length (to_line_end text)) text
unfolding to_line_end
to_line_end-front [] = refl
to_line_end-front (b ∷ bs) = front_step_not (nat_eq b 10) b (to_line_end bs) bs (to_line_end-front bs)

-- how far the line is passed
pub record Passed (text : List ℕ) (count : ℕ) : Type 0 where
  pub count_is : count + length (to_line_end (drop count text)) ≡ length (to_line_end text)

pub Passed-more : (text : List ℕ) (count : ℕ) → count < length text → nat_eq (get_or text count 0) 10 ≡ false → Passed text count → Passed text (count + 1)
Passed-more text count lt other so_far = record { count_is = omega (arith, so_far.count_is, ap length (to_line_end-more text count lt other)) }

pub record Ends (text : List ℕ) (count : ℕ) : Type 0 where
  pub count_is : count ≡ length (to_line_end text)
  pub front : to_line_end text ≡ take count text

pub Passed-ends : (text : List ℕ) (count : ℕ) → to_line_end (drop count text) ≡ [] → Passed text count → Ends text count
Passed-ends text count nothing so_far =
    let count_is : count ≡ length (to_line_end text) = omega (arith, so_far.count_is, ap length nothing) in
    record { count_is = count_is; front = to_line_end-front text ∙ ap (λ n. take n text) (sym count_is) }
