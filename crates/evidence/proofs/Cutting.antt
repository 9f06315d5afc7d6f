-- Texts that are cut at the first of some byte, and lists that are told by their texts.
use Rattle.std.proofs.Common.{◌≡◌, ℕ, zero, suc, ◌+◌, ◌/◌, ◌%◌, ◌^◌, ◌<◌, ◌≤◌, Bool, true, false, cond, List, [], ◌∷◌, ◌++◌, length, refl, sym, ap, ◌∙◌, append_assoc, length-append, arith}
use Rattle.std.specs.Prelude.{nat_eq, nat_le, not, ◌&&◌, ℤ, pos, negsuc, nat_abs, decimal, codes, All}
use Rattle.std.proofs.Math.Nat.{mod-lt}
use Rattle.std.specs.Fmt.{signed_decimal, digits, digit_glyph, digits_onto}
use Rattle.std.specs.List.{list_all, flat_map}
use Rattle.std.proofs.lemmas.Bool.{eq-eqb, ne_eqb, lt-ltb, le-leb}
use Rattle.std.proofs.lemmas.Fmt.{digits_decimal, decimal_injective}
use Rattle.std.proofs.lemmas.List.{append_cancel_left, append_cancel_right}
use Rattle.std.proofs.lemmas.List.Concat.{flat_map-cons}
use Rattle.std.proofs.lemmas.List.Elements.{All-head, All-tail}
use Rattle.std.proofs.lemmas.List.Folds.{list_all-append}
use Rattle.std.proofs.lemmas.Str.Parse.{IsNumeralModel, IsDigitsTest, FoldsDigits, numerals_by_fold}
use Rattle.std.proofs.Common.{rules}
use Rattle.lll_text.specs.Fields.{is_digit, value_on}
use Rattle.lll_text.specs.Spelling.{line, number_field}

-- ---- bytes that don't stand in a text

-- whether the byte stands nowhere in the text
abbrev pub avoids : ℕ → List ℕ → Bool
avoids c text = list_all (λ b. not (nat_eq b c)) text

both : (v w : Bool) → (v && w) ≡ true → (v ≡ true) × (w ≡ true)
both true w e = (refl, e)
both false w e = absurd cc

pub both_back : (v w : Bool) → v ≡ true → w ≡ true → (v && w) ≡ true
both_back true w e f = f
both_back false w e f = absurd cc

pub avoids-append : (c : ℕ) (xs ys : List ℕ) → avoids c xs ≡ true → avoids c ys ≡ true → avoids c (xs ++ ys) ≡ true
avoids-append c xs ys e f = list_all-append (λ b. not (nat_eq b c)) xs ys ∙ both_back (avoids c xs) (avoids c ys) e f

pub avoids-flat_map : {X : Type 0} (c : ℕ) (f : X → List ℕ) (xs : List X) (P : X → Type 0) → ((x : X) → P x → avoids c (f x) ≡ true) → All P xs → avoids c (flat_map f xs) ≡ true
avoids-flat_map c f [] P each all = refl
avoids-flat_map c f (x ∷ xs) P each all =
    ap (avoids c) (flat_map-cons f x xs)
    ∙ avoids-append c (f x) (flat_map f xs) (each x (All-head P x xs all)) (avoids-flat_map c f xs P each (All-tail P x xs all))

not_same : (b c : ℕ) → not (nat_eq b c) ≡ true → b ≡ c → ⊥
not_same b c e same = let t : nat_eq b c ≡ true = eq-eqb b c same in let f : not true ≡ true = ap not (sym t) ∙ e in cc

all_weaker : (p q : ℕ → Bool) (xs : List ℕ) → ((x : ℕ) → p x ≡ true → q x ≡ true) → list_all p xs ≡ true → list_all q xs ≡ true
all_weaker p q [] w e = refl
all_weaker p q (x ∷ xs) w e = let h = both (p x) (list_all p xs) e in both_back (q x) (list_all q xs) (w x h.0) (all_weaker p q xs w h.1)

-- ---- cuts

-- a text up to the first of a byte, and what follows it
pub split : (c : ℕ) (xs ys r s : List ℕ) → avoids c xs ≡ true → avoids c ys ≡ true → xs ++ c ∷ r ≡ ys ++ c ∷ s → (xs ≡ ys) × (r ≡ s)
split c [] [] r s a b e = (refl, cc)
split c [] (y ∷ ys) r s a b e = let same : c ≡ y = cc in absurd (not_same y c (both (not (nat_eq y c)) (avoids c ys) b).0 (sym same))
split c (x ∷ xs) [] r s a b e = let same : x ≡ c = cc in absurd (not_same x c (both (not (nat_eq x c)) (avoids c xs) a).0 same)
split c (x ∷ xs) (y ∷ ys) r s a b e =
    let head : x ≡ y = cc in
    let tail : xs ++ c ∷ r ≡ ys ++ c ∷ s = cc in
    let rest = split c xs ys r s (both (not (nat_eq x c)) (avoids c xs) a).1 (both (not (nat_eq y c)) (avoids c ys) b).1 tail in
    (ap (λ z. z ∷ xs) head ∙ ap (λ zs. y ∷ zs) rest.0, rest.1)

-- a line, and what follows it
pub split_line : (xs ys r s : List ℕ) → avoids 10 xs ≡ true → avoids 10 ys ≡ true → line xs ++ r ≡ line ys ++ s → (xs ≡ ys) × (r ≡ s)
split_line xs ys r s a b e = split 10 xs ys r s a b (sym (append_assoc xs (codes "\n") r) ∙ e ∙ append_assoc ys (codes "\n") s)

-- what follows the same front
pub same_rest : (w r s : List ℕ) → w ++ r ≡ w ++ s → r ≡ s
same_rest w r s e = append_cancel_left w r s e

-- fronts of one length
pub same_fronts : (x y r s : List ℕ) → r ≡ s → x ++ r ≡ y ++ s → x ≡ y
same_fronts x y r s same e = append_cancel_right x y s (ap (λ (t : List ℕ). x ++ t) (sym same) ∙ e)

-- ---- numbers

own_test : IsDigitsTest (λ ds. list_all is_digit ds ≡ true)
own_test = search rules

own_fold : FoldsDigits value_on
unfolding value_on
own_fold = record { empty = λ n. refl; more = λ n c cs h. ap (λ m. value_on m cs) (omega arith) }

own : IsNumeralModel (λ ds. list_all is_digit ds ≡ true) (value_on 0)
own = numerals_by_fold (λ ds. list_all is_digit ds ≡ true) own_test value_on own_fold

-- a byte that is below the digits, or above them
other_than_digit : (c : ℕ) → is_digit c ≡ false → (b : ℕ) → is_digit b ≡ true → not (nat_eq b c) ≡ true
other_than_digit c other b digit = ap not (ne_eqb b c (λ same. let t : is_digit c ≡ true = ap is_digit (sym same) ∙ digit in cc))

pub avoids-decimal : (c n : ℕ) → is_digit c ≡ false → n < 2 ^ 64 → avoids c (decimal n) ≡ true
avoids-decimal c n other lt = all_weaker is_digit (λ b. not (nat_eq b c)) (decimal n) (other_than_digit c other) (digits_decimal own n lt)

pub avoids-number : (c n : ℕ) → nat_eq 32 c ≡ false → is_digit c ≡ false → n < 2 ^ 64 → avoids c (number_field n) ≡ true
avoids-number c n space other lt = both_back (not (nat_eq 32 c)) (avoids c (decimal n)) (ap not space) (avoids-decimal c n other lt)

-- the same of any number: of one that is too large as many digits as are written
glyph_digit : (d : ℕ) → d < 10 → is_digit (digit_glyph false d) ≡ true
glyph_digit d lt = ap (λ (b : Bool). is_digit (cond b (48 + d) (87 + d))) (lt-ltb d 10 lt) ∙ both_back (nat_le 48 (48 + d)) (nat_le (48 + d) 57) (le-leb 48 (48 + d) (omega arith)) (le-leb (48 + d) 57 (omega (arith, lt)))

by_test : (b : Bool) (xs ys : List ℕ) → list_all is_digit xs ≡ true → list_all is_digit ys ≡ true → list_all is_digit (cond b xs ys) ≡ true
by_test true xs ys p q = p
by_test false xs ys p q = q

digits_alone : (k n : ℕ) (acc : List ℕ) → list_all is_digit acc ≡ true → list_all is_digit (digits_onto k 10 false n acc) ≡ true
digits_alone zero n acc all = all
digits_alone (suc k) n acc all =
    let ten : 0 < 10 = omega arith in
    let more : list_all is_digit (digit_glyph false (n % 10) ∷ acc) ≡ true = both_back (is_digit (digit_glyph false (n % 10))) (list_all is_digit acc) (glyph_digit (n % 10) (mod-lt n ten)) all in
    by_test (nat_eq (n / 10) 0) (digit_glyph false (n % 10) ∷ acc) (digits_onto k 10 false (n / 10) (digit_glyph false (n % 10) ∷ acc)) more (digits_alone k (n / 10) (digit_glyph false (n % 10) ∷ acc) more)

decimal_digits : (n : ℕ) → list_all is_digit (decimal n) ≡ true
unfolding digits
decimal_digits n = digits_alone 64 n [] refl

pub avoids-any_number : (c n : ℕ) → nat_eq 32 c ≡ false → is_digit c ≡ false → avoids c (number_field n) ≡ true
avoids-any_number c n space other = both_back (not (nat_eq 32 c)) (avoids c (decimal n)) (ap not space) (all_weaker is_digit (λ b. not (nat_eq b c)) (decimal n) (other_than_digit c other) (decimal_digits n))

-- a small literal
pub avoids-signed : (c : ℕ) (l : ℤ) → nat_eq 45 c ≡ false → is_digit c ≡ false → nat_abs l ≤ 2 ^ 31 → avoids c (signed_decimal l) ≡ true
avoids-signed c (pos n) sign other le = avoids-decimal c n other (omega (arith, le))
avoids-signed c (negsuc n) sign other le = both_back (not (nat_eq 45 c)) (avoids c (decimal (suc n))) (ap not sign) (avoids-decimal c (suc n) other (omega (arith, le)))

-- ---- lists of one length

-- a text with what follows it tells the value and what follows
abbrev pub IsTold : {X : Type 0} → (X → Type 0) → (X → List ℕ) → Type 0
IsTold {X} P f = (x y : X) (r s : List ℕ) → P x → P y → f x ++ r ≡ f y ++ s → (x ≡ y) × (r ≡ s)

cons_apart : {X : Type 0} (f : X → List ℕ) (x : X) (xs : List X) (r : List ℕ) → flat_map f (x ∷ xs) ++ r ≡ f x ++ (flat_map f xs ++ r)
cons_apart f x xs r = ap (λ (t : List ℕ). t ++ r) (flat_map-cons f x xs) ∙ append_assoc (f x) (flat_map f xs) r

pub lists_told : {X : Type 0} (P : X → Type 0) (f : X → List ℕ) → IsTold P f → (xs ys : List X) (r s : List ℕ) → All P xs → All P ys → length xs ≡ length ys
    → flat_map f xs ++ r ≡ flat_map f ys ++ s → (xs ≡ ys) × (r ≡ s)
lists_told P f told [] [] r s a b long e = (refl, e)
lists_told P f told [] (y ∷ ys) r s a b long e = absurd (omega (arith, long))
lists_told P f told (x ∷ xs) [] r s a b long e = absurd (omega (arith, long))
lists_told P f told (x ∷ xs) (y ∷ ys) r s a b long e =
    let first = told x y (flat_map f xs ++ r) (flat_map f ys ++ s) (All-head P x xs a) (All-head P y ys b) (sym (cons_apart f x xs r) ∙ e ∙ cons_apart f y ys s) in
    let rest = lists_told P f told xs ys r s (All-tail P x xs a) (All-tail P y ys b) (omega (arith, long)) first.1 in
    (ap (λ z. z ∷ xs) first.0 ∙ ap (λ zs. y ∷ zs) rest.0, rest.1)

-- ---- fields, each after a space

-- a field's text tells its value
pub record IsField {X : Type 0} (P : X → Type 0) (f : X → List ℕ) : Type 0 where
  pub inside : (x : X) → P x → avoids 32 (f x) ≡ true
  pub same : (x y : X) → P x → P y → f x ≡ f y → x ≡ y

module _ {X : Type 0} (P : X → Type 0) (f : X → List ℕ) where
  abbrev before_each : List X → List ℕ
  before_each xs = flat_map (λ x. 32 ∷ f x) xs

  abbrev after_each : List X → List ℕ
  after_each [] = []
  after_each (x ∷ xs) = f x ++ 32 ∷ after_each xs

  turned : (xs : List X) → before_each xs ++ 32 ∷ [] ≡ 32 ∷ after_each xs
  turned [] = refl
  turned (x ∷ xs) = ap (λ (t : List ℕ). t ++ 32 ∷ []) (flat_map-cons (λ x. 32 ∷ f x) x xs) ∙ append_assoc (32 ∷ f x) (before_each xs) (32 ∷ []) ∙ ap (λ (t : List ℕ). 32 ∷ (f x ++ t)) (turned xs)

  not_empty : (x : X) (xs : List X) → [] ≡ after_each (x ∷ xs) → ⊥
  not_empty x xs e = let n : 0 ≡ length (f x ++ 32 ∷ after_each xs) = ap (λ (t : List ℕ). length t) e in omega (arith, n, length-append (f x) (32 ∷ after_each xs))

  after_told : IsField P f → (xs ys : List X) → All P xs → All P ys → after_each xs ≡ after_each ys → xs ≡ ys
  after_told field [] [] a b e = refl
  after_told field [] (y ∷ ys) a b e = absurd (not_empty y ys e)
  after_told field (x ∷ xs) [] a b e = absurd (not_empty x xs (sym e))
  after_told field (x ∷ xs) (y ∷ ys) a b e =
      let p = All-head P x xs a in
      let q = All-head P y ys b in
      let s = split 32 (f x) (f y) (after_each xs) (after_each ys) (field.inside x p) (field.inside y q) e in
      ap (λ z. z ∷ xs) (field.same x y p q s.0) ∙ ap (λ zs. y ∷ zs) (after_told field xs ys (All-tail P x xs a) (All-tail P y ys b) s.1)

  pub fields_told : IsField P f → (xs ys : List X) → All P xs → All P ys → before_each xs ≡ before_each ys → xs ≡ ys
  fields_told field xs ys a b e =
      let t : 32 ∷ after_each xs ≡ 32 ∷ after_each ys = sym (turned xs) ∙ ap (λ (t : List ℕ). t ++ 32 ∷ []) e ∙ turned ys in
      let u : after_each xs ≡ after_each ys = cc in
      after_told field xs ys a b u

pub numbers_told : (xs ys : List ℕ) → All (λ n. n < 2 ^ 32) xs → All (λ n. n < 2 ^ 32) ys → flat_map number_field xs ≡ flat_map number_field ys → xs ≡ ys
numbers_told xs ys a b e = fields_told (λ n. n < 2 ^ 32) decimal (record {
  inside = λ n lt. avoids-decimal 32 n refl (omega (arith, lt));
  same = λ m n p q same. decimal_injective m n (omega (arith, p)) (omega (arith, q)) same;
}) xs ys a b e
