-- How numbers are spelled.
use Rattle.std.proofs.Common.{◌≡◌, ◌+◌, ◌-◌, ◌<◌, ◌≤◌, ℕ, zero, suc, Bool, true, false, cond, ◌&&◌, ◌||◌, eqb, List, [], ◌∷◌, ◌++◌, length, get_or, take, drop, ◌⊎◌, inl, inr, refl, sym, ap, subst, ◌∙◌, arith, length-drop, length-take-le, zero-add, ◌*◌, take-append-drop}
use Rattle.std.proofs.Math.Nat.{mul-le-mul_left}
use Rattle.std.proofs.lemmas.Bool.{and_parts, and_from, both_ways}
use Rattle.std.proofs.lemmas.Bool.Decides.{nat_tests}
use Rattle.std.proofs.lemmas.List.{drop-take, take_rest}
use Rattle.std.proofs.lemmas.List.Sums.{prefix_len-le-length, fold_more, fold-append}
use Rattle.std.specs.List.{prefix_len, fold}
use Rattle.hll_lexer.specs.Words.{begins_word, continues_word}
use Rattle.hll_lexer.specs.Numbers.{worth, is_digit, begins_based, base_of, prefix_of, digits_of, digits_worth, number_worth, IsNumber}
use Rattle.hll_lexer.specs.Pieces.{is_blank, AllPass}
use Rattle.hll_lexer.proofs.RunLemmas.{each_passes, first_passes, run_bounds, run_passes}

-- ---- digits

-- a decimal digit is one of ten bytes
pub decimal_range : (b : ℕ) → is_digit 10 b ≡ true → (48 ≤ b) × (b ≤ 57)
decimal_range b h = grind (arith, nat_tests)

-- a digit of base 16 goes on with a word
pub digit_continues : (b : ℕ) → is_digit 16 b ≡ true → continues_word b ≡ true
digit_continues b h = grind (arith, nat_tests)

pub decimal_no_blank : (b : ℕ) → is_digit 10 b ≡ true → is_blank b ≡ false
decimal_no_blank b h = let r = decimal_range b h in grind (arith, nat_tests)

pub decimal_no_letter : (b : ℕ) → is_digit 10 b ≡ true → begins_word b ≡ false
decimal_no_letter b h = let r = decimal_range b h in grind (arith, nat_tests)

-- what passes one test passes one that asks less
pub all_more : (p q : ℕ → Bool) (bytes : List ℕ) → ((b : ℕ) → p b ≡ true → q b ≡ true) → AllPass p bytes → AllPass q bytes
all_more p q [] more h = refl
all_more p q (b ∷ bs) more h =
    let both = and_parts _ _ h in and_from _ _ (more b both.0) (all_more p q bs more both.1)

-- ---- bases

-- a number with a prefix begins so
pub record IsBased (bytes : List ℕ) : Type 0 where
  pub zero : ℕ
  pub letter : ℕ
  pub digit : ℕ
  pub others : List ℕ
  pub whole : bytes ≡ zero ∷ letter ∷ digit ∷ others
  pub is_zero : zero ≡ 48
  pub continues : continues_word letter ≡ true
  pub no_digit : is_digit 10 letter ≡ false
  pub prefix : prefix_of (base_of bytes) ≡ 2
  pub small : base_of bytes ≤ 16
  pub is_digit : is_digit (base_of bytes) digit ≡ true

-- a letter behind the `0`
abbrev IsLetter : ℕ → Type 0
IsLetter b = (continues_word b ≡ true) × (is_digit 10 b ≡ false)

based_parts : (capital small base a b d : ℕ) → ((eqb a 48 && (eqb b capital || eqb b small)) && is_digit base d) ≡ true → (a ≡ 48) × ((b ≡ capital) ⊎ (b ≡ small)) × (is_digit base d ≡ true)
based_parts capital small base a b d h =
    let both = and_parts (eqb a 48 && (eqb b capital || eqb b small)) (is_digit base d) h in
    let front = and_parts (eqb a 48) (eqb b capital || eqb b small) both.0 in
    (grind (arith, nat_tests), grind (arith, nat_tests), both.1)

is_letter : (capital small b : ℕ) → IsLetter capital → IsLetter small → (b ≡ capital) ⊎ (b ≡ small) → IsLetter b
is_letter capital small b c s e = elim e [ inl h ↦ subst IsLetter (sym h) c | inr h ↦ subst IsLetter (sym h) s ]

no_third : (base : ℕ) → base ≤ 16 → is_digit base 0 ≡ true → ⊥
no_third base small h = grind (arith, nat_tests)

based : (capital small base : ℕ) (bytes : List ℕ) → base_of bytes ≡ base → prefix_of base ≡ 2 → base ≤ 16 → IsLetter capital → IsLetter small → begins_based capital small base bytes ≡ true → IsBased bytes
based capital small base [] is prefix few c s h = absurd (no_third base few (based_parts capital small base 0 0 0 h).2)
based capital small base (a ∷ []) is prefix few c s h = absurd (no_third base few (based_parts capital small base a 0 0 h).2)
based capital small base (a ∷ b ∷ []) is prefix few c s h = absurd (no_third base few (based_parts capital small base a b 0 h).2)
based capital small base (a ∷ b ∷ d ∷ others) is prefix few c s h =
    let parts = based_parts capital small base a b d h in
    let letter = is_letter capital small b c s parts.1 in
    record {
      zero = a;
      letter = b;
      digit = d;
      others = others;
      whole = refl;
      is_zero = parts.0;
      continues = letter.0;
      no_digit = letter.1;
      prefix = ap prefix_of is ∙ prefix;
      small = subst (λ (n : ℕ). n ≤ 16) (sym is) few;
      is_digit = subst (λ (n : ℕ). is_digit n d ≡ true) (sym is) parts.2;
    }

base_by : (h t : Bool) (bytes : List ℕ) → begins_based 88 120 16 bytes ≡ h → begins_based 66 98 2 bytes ≡ t → IsBased bytes ⊎ (base_of bytes ≡ 10)
base_by true t bytes eh et = inl (based 88 120 16 bytes (ap (λ (c : Bool). cond c 16 (cond (begins_based 66 98 2 bytes) 2 10)) eh) refl (omega arith) (refl, refl) (refl, refl) eh)
base_by false true bytes eh et = inl (based 66 98 2 bytes (ap (λ (c : Bool). cond c 16 (cond (begins_based 66 98 2 bytes) 2 10)) eh ∙ ap (λ (c : Bool). cond c 2 10) et) refl (omega arith) (refl, refl) (refl, refl) et)
base_by false false bytes eh et = inr (ap (λ (c : Bool). cond c 16 (cond (begins_based 66 98 2 bytes) 2 10)) eh ∙ ap (λ (c : Bool). cond c 2 10) et)

-- a number has a prefix or is decimal
pub base_view : (bytes : List ℕ) → IsBased bytes ⊎ (base_of bytes ≡ 10)
base_view bytes = base_by (begins_based 88 120 16 bytes) (begins_based 66 98 2 bytes) bytes refl refl

-- decimal digits have no prefix
pub decimal_base : (bytes : List ℕ) → AllPass (is_digit 10) bytes → base_of bytes ≡ 10
decimal_base bytes h =
    elim (base_view bytes) [
      | inl b ↦ (
          let all = subst (AllPass (is_digit 10)) b.whole h in
          absurd (both_ways _ b.no_digit (each_passes (is_digit 10) (b.zero ∷ b.letter ∷ b.digit ∷ b.others) 1 all (omega arith))))
      | inr e ↦ e
    ]

-- ---- numbers

-- digits of a base, behind a prefix
abbrev pub NumberIn : ℕ → List ℕ → Type 0
NumberIn base bytes = (0 < length (drop (prefix_of base) bytes)) × AllPass (is_digit base) (drop (prefix_of base) bytes)

-- of a number with a prefix
based_digits : (bytes : List ℕ) (b : IsBased bytes) → IsNumber bytes → AllPass (is_digit (base_of bytes)) (b.digit ∷ b.others)
based_digits bytes b number =
    subst (λ (ds : List ℕ). AllPass (is_digit (base_of bytes)) ds) (ap (λ (n : ℕ). drop n bytes) b.prefix ∙ ap (λ (s : List ℕ). drop 2 s) b.whole) number.1

-- a number begins with a decimal digit
pub number_first : (bytes : List ℕ) → IsNumber bytes → (0 < length bytes) × (is_digit 10 (get_or bytes 0 0) ≡ true)
number_first bytes number =
    elim (base_view bytes) [
      | inl b ↦ (omega (arith, ap length b.whole), ap (λ (s : List ℕ). is_digit 10 (get_or s 0 0)) b.whole ∙ ap (is_digit 10) b.is_zero)
      | inr e ↦ (let decimal = subst (λ (n : ℕ). NumberIn n bytes) e number in (decimal.0, first_passes (is_digit 10) bytes decimal.1 decimal.0))
    ]

digit_below : (base b : ℕ) → base ≤ 16 → is_digit base b ≡ true → is_digit 16 b ≡ true
digit_below base b small h = grind (arith, nat_tests)

-- the bytes of a number go on with a word
pub number_continues : (bytes : List ℕ) → IsNumber bytes → AllPass continues_word bytes
number_continues bytes number =
    elim (base_view bytes) [
      | inl b ↦ (
          let digits = all_more (is_digit (base_of bytes)) continues_word (b.digit ∷ b.others) (λ c h. digit_continues c (digit_below (base_of bytes) c b.small h)) (based_digits bytes b number) in
          let zero : continues_word b.zero ≡ true = ap continues_word b.is_zero in
          subst (AllPass continues_word) (sym b.whole) (and_from _ _ zero (and_from _ _ b.continues digits)))
      | inr e ↦ (let decimal = subst (λ (n : ℕ). NumberIn n bytes) e number in
          all_more (is_digit 10) continues_word bytes (λ c h. digit_continues c (digit_below 10 c (omega arith) h)) decimal.1)
    ]

-- ---- the number at the front of a text

-- the length of the number at the front
abbrev pub number_length_in : ℕ → List ℕ → ℕ
number_length_in base text = prefix_of base + prefix_len (is_digit base) (drop (prefix_of base) text)

abbrev pub number_length : List ℕ → ℕ
number_length text = number_length_in (base_of text) text

-- the base is told by three bytes
based_goes_on : (a b d : ℕ) (others after : List ℕ) → base_of (a ∷ b ∷ d ∷ others) ≡ base_of (a ∷ b ∷ d ∷ after)
based_goes_on a b d others after = refl

based_bounds : (front after : List ℕ) (b : IsBased front) → IsNumber front → length front ≤ number_length (front ++ after)
based_bounds front after b number =
    let base = base_of front in
    let text = b.zero ∷ b.letter ∷ b.digit ∷ (b.others ++ after) in
    let whole : front ++ after ≡ text = ap (λ (s : List ℕ). s ++ after) b.whole in
    let same : base_of text ≡ base = sym (ap base_of b.whole) in
    let digits = run_bounds (is_digit base) (b.digit ∷ b.others) after (based_digits front b number) in
    let is : number_length text ≡ 2 + prefix_len (is_digit base) (b.digit ∷ (b.others ++ after)) =
    ap (λ (n : ℕ). number_length_in n text) same
    ∙ ap (λ (n : ℕ). n + prefix_len (is_digit base) (drop n text)) b.prefix in
    omega (arith, ap length b.whole, ap number_length whole)

decimal_one : (front after : List ℕ) (b : IsBased (front ++ after)) → AllPass (is_digit 10) front → length front ≤ 1
decimal_one [] after b h = omega arith
decimal_one (x ∷ []) after b h = omega arith
decimal_one (x ∷ y ∷ front) after b h =
    let second : y ≡ b.letter = ap (λ (s : List ℕ). get_or s 1 0) b.whole in
    absurd (both_ways _ b.no_digit (sym (ap (is_digit 10) second) ∙ (and_parts _ _ (and_parts _ _ h).1).0))

decimal_bounds : (front after : List ℕ) → AllPass (is_digit 10) front → length front ≤ number_length (front ++ after)
decimal_bounds front after h =
    elim (base_view (front ++ after)) [
      | inl b ↦ (let short = decimal_one front after b h in
          let prefix = b.prefix in omega arith)
      | inr e ↦ (
          let is : number_length (front ++ after) ≡ prefix_len (is_digit 10) (front ++ after) = ap (λ (n : ℕ). number_length_in n (front ++ after)) e ∙ zero-add _ in
          let bounds = run_bounds (is_digit 10) front after h in
          omega arith)
    ]

-- no number at the front is longer
pub number_bounds : (front after : List ℕ) → IsNumber front → length front ≤ number_length (front ++ after)
number_bounds front after number =
    elim (base_view front) [
      | inl b ↦ based_bounds front after b number
      | inr e ↦ (let decimal = subst (λ (n : ℕ). NumberIn n front) e number in decimal_bounds front after decimal.1)
    ]

-- the digits of the number at the front of a text
abbrev pub front_digits : List ℕ → List ℕ
front_digits text =
    let rest = drop (prefix_of (base_of text)) text in take (prefix_len (is_digit (base_of text)) rest) rest

-- so many bytes at the front are a number
pub record IsFrontNumber (text : List ℕ) (n : ℕ) : Type 0 where
  pub some : 0 < n
  pub fits : n ≤ length text
  pub number : IsNumber (take n text)
  pub worth : number_worth (take n text) ≡ digits_worth (base_of text) (front_digits text)

three_take : (a b d : ℕ) (others : List ℕ) (n : ℕ) → 3 ≤ n → base_of (take n (a ∷ b ∷ d ∷ others)) ≡ base_of (a ∷ b ∷ d ∷ others)
three_take a b d others zero h = absurd (omega arith)
three_take a b d others (suc zero) h = absurd (omega arith)
three_take a b d others (suc (suc zero)) h = absurd (omega arith)
three_take a b d others (suc (suc (suc n))) h = refl

front_from : (text : List ℕ) (count : ℕ) → count ≡ prefix_len (is_digit (base_of text)) (drop (prefix_of (base_of text)) text) → 0 < count → base_of (take (prefix_of (base_of text) + count) text) ≡ base_of text → IsFrontNumber text (prefix_of (base_of text) + count)
front_from text count is some same =
    let base = base_of text in
    let prefix = prefix_of base in
    let rest = drop prefix text in
    let front = take (prefix + count) text in
    let short = prefix_len-le-length (is_digit base) rest in
    let lengths = length-drop prefix text in
    let digits : digits_of front ≡ take count rest = ap (λ (n : ℕ). drop (prefix_of n) front) same ∙ drop-take prefix count text in
    let passes : AllPass (is_digit base) (take count rest) = subst (λ (n : ℕ). AllPass (is_digit base) (take n rest)) (sym is) (run_passes (is_digit base) rest) in
    let long : length (digits_of front) ≡ count = ap length digits ∙ length-take-le count rest (omega arith) in
    let every : AllPass (is_digit base) (digits_of front) = subst (AllPass (is_digit base)) (sym digits) passes in
    record {
      some = omega arith;
      fits = omega arith;
      number = (omega arith, subst (λ (n : ℕ). AllPass (is_digit n) (digits_of front)) (sym same) every);
      worth = ap (λ (n : ℕ). digits_worth n (digits_of front)) same ∙ ap (digits_worth base) digits ∙ ap (λ (n : ℕ). digits_worth base (take n rest)) is;
    }

starts_run : (p : ℕ → Bool) (b : ℕ) (bs : List ℕ) → p b ≡ true → 0 < prefix_len p (b ∷ bs)
starts_run p b bs h = run_bounds p (b ∷ []) bs (and_from _ _ h refl)

based_front : (text : List ℕ) (b : IsBased text) → IsFrontNumber text (number_length text)
based_front text b =
    let base = base_of text in
    let count = prefix_len (is_digit base) (drop (prefix_of base) text) in
    let rest : drop (prefix_of base) text ≡ b.digit ∷ b.others = ap (λ (n : ℕ). drop n text) b.prefix ∙ ap (λ (s : List ℕ). drop 2 s) b.whole in
    let some : 0 < count = subst (λ (s : List ℕ). 0 < prefix_len (is_digit base) s) (sym rest) (starts_run (is_digit base) b.digit b.others b.is_digit) in
    let long : 3 ≤ prefix_of base + count = (let prefix = b.prefix in omega arith) in
    let same : base_of (take (prefix_of base + count) text) ≡ base =
    ap (λ (s : List ℕ). base_of (take (prefix_of base + count) s)) b.whole
    ∙ three_take b.zero b.letter b.digit b.others (prefix_of base + count) long ∙ sym (ap base_of b.whole) in
    front_from text count refl some same

decimal_front : (text : List ℕ) → base_of text ≡ 10 → is_digit 10 (get_or text 0 0) ≡ true → IsFrontNumber text (number_length text)
decimal_front [] is first = absurd (no_third 10 (omega arith) first)
decimal_front (b ∷ bs) is first =
    let text = b ∷ bs in
    let count = prefix_len (is_digit (base_of text)) (drop (prefix_of (base_of text)) text) in
    let decimal : count ≡ prefix_len (is_digit 10) text = ap (λ (n : ℕ). prefix_len (is_digit n) (drop (prefix_of n) text)) is in
    let some = starts_run (is_digit 10) b bs first in
    let whole : prefix_of (base_of text) + count ≡ prefix_len (is_digit 10) text = ap (λ (n : ℕ). prefix_of n + count) is ∙ zero-add count ∙ decimal in
    let passes : AllPass (is_digit 10) (take (prefix_of (base_of text) + count) text) = subst (λ (n : ℕ). AllPass (is_digit 10) (take n text)) (sym whole) (run_passes (is_digit 10) text) in
    front_from text count refl (omega arith) (decimal_base (take (prefix_of (base_of text) + count) text) passes ∙ sym is)

-- where a digit stands at the front, a number does
pub front_number : (text : List ℕ) → is_digit 10 (get_or text 0 0) ≡ true → IsFrontNumber text (number_length text)
front_number text first = elim (base_view text) [ inl b ↦ based_front text b | inr is ↦ decimal_front text is first ]

-- ---- what digits are worth

abbrev worth_from : ℕ → ℕ → List ℕ → ℕ
worth_from base n digits = fold (λ m b. m * base + worth b) n digits

one_digit_grows : (base n w : ℕ) → 0 < base → n ≤ n * base + w
one_digit_grows base n w some = (let h = mul-le-mul_left n some in omega (arith, h))

-- further digits make it no less
worth_grows : (base n : ℕ) (digits : List ℕ) → 0 < base → n ≤ worth_from base n digits
worth_grows base n [] some = omega arith
worth_grows base n (b ∷ digits) some =
    let more = worth_grows base (n * base + worth b) digits some in
    let one = one_digit_grows base n (worth b) some in
    omega arith

-- digits with one more
pub worth_more : (base : ℕ) (digits : List ℕ) (i : ℕ) → i < length digits → digits_worth base (take (i + 1) digits) ≡ digits_worth base (take i digits) * base + worth (get_or digits i 0)
worth_more base digits i within = fold_more (λ m b. m * base + worth b) 0 digits i 0 within

-- the digits at the front are worth no more than all
pub worth_of_front : (base : ℕ) (digits : List ℕ) (i : ℕ) → 0 < base → digits_worth base (take i digits) ≤ digits_worth base digits
worth_of_front base digits i some =
    let whole = ap (digits_worth base) (sym (take-append-drop i digits)) ∙ fold-append (λ m b. m * base + worth b) 0 (take i digits) (drop i digits) in
    let grows = worth_grows base (digits_worth base (take i digits)) (drop i digits) some in
    omega arith

-- ---- as the code finds it

-- the number at the front, by its base, its prefix and its digits
pub record IsFoundNumber (text : List ℕ) (base prefix count : ℕ) : Type 0 where
  pub whole : prefix + count ≡ number_length text
  pub digits : digits_worth base (take (prefix + count - prefix) (drop prefix text)) ≡ digits_worth (base_of text) (front_digits text)

pub found_number : (text : List ℕ) (base prefix count : ℕ) → base ≡ base_of text → prefix ≡ prefix_of base → count ≡ prefix_len (is_digit base) (take (length text - prefix) (drop prefix text)) → IsFoundNumber text base prefix count
found_number text base prefix count b p n =
    let counted : count ≡ prefix_len (is_digit base) (drop prefix text) = n ∙ ap (prefix_len (is_digit base)) (take_rest text prefix) in
    let back : prefix + count - prefix ≡ count = omega arith in
    record {
      whole = ap (λ (k : ℕ). prefix + k) counted ∙ ap (λ (k : ℕ). k + prefix_len (is_digit base) (drop k text)) p ∙ ap (λ (k : ℕ). number_length_in k text) b;
      digits = ap (λ (k : ℕ). digits_worth base (take k (drop prefix text))) (back ∙ counted)
          ∙ ap (λ (k : ℕ). digits_worth base (take (prefix_len (is_digit base) (drop k text)) (drop k text))) p
          ∙ ap (λ (k : ℕ). digits_worth k (take (prefix_len (is_digit k) (drop (prefix_of k) text)) (drop (prefix_of k) text))) b;
    }
