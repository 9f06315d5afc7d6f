-- A number, a word or a name that is read is what stands there, and what is written is read again.
use Rattle.std.proofs.Common.{◌≡◌, ℕ, zero, suc, ◌-◌, ◌^◌, ◌<◌, ◌≤◌, Bool, true, false, cond, List, [], ◌∷◌, ◌++◌, length, drop, get_or, Some, None, Ok, Err, refl, sym, ap, subst, ◌∙◌, arith, rules}
use Rattle.std.specs.Prelude.{nat_eq, nat_lt, nat_le, not, ◌&&◌, codes, decimal, All, Contains}
use Rattle.std.specs.List.{list_all, list_any}
use Rattle.std.specs.Str.{bytes_eq}
use Rattle.std.proofs.lemmas.Bool.{ltb-true, lt-ltb, leb-true, le-leb, eqb-true, eq-eqb, ne_eqb}
use Rattle.std.proofs.lemmas.List.{take-append-drop, drop_at}
use Rattle.std.proofs.lemmas.Fmt.{digits_decimal, digits_value-decimal, decimal-digits_value, decimal_nonempty, first_decimal, decimal_digit}
use Rattle.std.proofs.lemmas.Str.Parse.{IsNumeralModel, IsDigitsTest, FoldsDigits, numerals_by_fold}
use Rattle.lll_text.specs.declared.fault.LllKind.{LllKind}
use Rattle.lll_text.specs.declared.fault.LllKind.TheVariants as kind
use Rattle.lll_core.specs.Signals.{signal_of, IsName}
use Rattle.std.proofs.lemmas.Bool.Decides.{nat_tests}
use Rattle.std.proofs.lemmas.List.Sums.{AllPass-from_list_all, list_all-from_AllPass}
use Rattle.std.proofs.lemmas.Map.Views.{list_any-from_Contains, Contains-from_any}
use Rattle.std.proofs.lemmas.Cmp.{nat_list_eq_equiv}
use Rattle.std.proofs.lemmas.Slice.Eq.{bytes_eq-Decides}
use Rattle.lll_text.specs.Spelling.{number_field, name_field}
use Rattle.lll_text.specs.Fields.{after, given, due, is_digit, digits, value_on, is_numeral, held, number_at, number_field_at, literal_at, is_printable, to_line_end, is_name, name_at, new_name_at, begins_number}
use Rattle.lll_text.proofs.FieldLemmas.{digits-front, to_line_end-front}
use Rattle.lll_text.proofs.Steps.{stepped, passed, not_met, given_is}

-- ---- words

after_takes-step : (v : Bool) (b c : ℕ) (bs cs rest : List ℕ) → (v ≡ true → c ≡ b) → (after bs cs ≡ Some rest → cs ≡ bs ++ rest) → cond v (after bs cs) None ≡ Some rest → c ∷ cs ≡ b ∷ (bs ++ rest)
after_takes-step true b c bs cs rest same go e = cc (same refl, go e)
after_takes-step false b c bs cs rest same go e = absurd cc

pub after_takes : (bytes text rest : List ℕ) → after bytes text ≡ Some rest → text ≡ bytes ++ rest
unfolding after
after_takes [] text rest e = cc
after_takes (b ∷ bs) [] rest e = absurd cc
after_takes (b ∷ bs) (c ∷ cs) rest e = after_takes-step (nat_eq c b) b c bs cs rest (eqb-true c b) (after_takes bs cs rest) e

pub after_again : (bytes rest : List ℕ) → after bytes (bytes ++ rest) ≡ Some rest
unfolding after
after_again [] rest = refl
after_again (b ∷ bs) rest = rw (eq-eqb b b refl) (after_again bs rest)

pub due_takes : (wrong : LllKind) (bytes text rest : List ℕ) → due wrong bytes text ≡ Ok rest → text ≡ bytes ++ rest
due_takes wrong bytes text rest e = after_takes bytes text rest (given_is wrong (after bytes text) rest e)

pub due_again : (wrong : LllKind) (bytes rest : List ℕ) → due wrong bytes (bytes ++ rest) ≡ Ok rest
due_again wrong bytes rest = ap (given wrong) (after_again bytes rest)

-- ---- digits

own_test : IsDigitsTest (λ ds. list_all is_digit ds ≡ true)
own_test = search rules

own_fold : FoldsDigits value_on
unfolding value_on
own_fold = record { empty = λ n. refl; more = λ n c cs h. ap (λ m. value_on m cs) (omega arith) }

own : IsNumeralModel (λ ds. list_all is_digit ds ≡ true) (value_on 0)
own = numerals_by_fold (λ ds. list_all is_digit ds ≡ true) own_test value_on own_fold

digits_all-step : (v : Bool) (b : ℕ) (ds : List ℕ) → is_digit b ≡ v → list_all is_digit ds ≡ true → list_all is_digit (cond v (b ∷ ds) []) ≡ true
digits_all-step true b ds e h = rw e h
digits_all-step false b ds e h = refl

pub digits_all : (text : List ℕ) → list_all is_digit (digits text) ≡ true
unfolding digits
digits_all [] = refl
digits_all (b ∷ bs) = digits_all-step (is_digit b) b (digits bs) refl (digits_all bs)

digits_end-step : (v : Bool) (b : ℕ) (ds : List ℕ) → v ≡ false → cond v (b ∷ ds) [] ≡ []
digits_end-step true b ds e = absurd cc
digits_end-step false b ds e = refl

digits_end : (rest : List ℕ) → begins_number rest ≡ false → digits rest ≡ []
unfolding digits
digits_end [] e = refl
digits_end (b ∷ bs) e = digits_end-step (is_digit b) b (digits bs) e

digits_again-step : (v : Bool) (b : ℕ) (ds rest : List ℕ) → (v && list_all is_digit ds) ≡ true → (list_all is_digit ds ≡ true → digits (ds ++ rest) ≡ ds) → cond v (b ∷ digits (ds ++ rest)) [] ≡ b ∷ ds
digits_again-step true b ds rest h go = ap (λ (t : List ℕ). b ∷ t) (go h)
digits_again-step false b ds rest h go = absurd cc

digits_again : (ds rest : List ℕ) → list_all is_digit ds ≡ true → begins_number rest ≡ false → digits (ds ++ rest) ≡ ds
unfolding digits
digits_again [] rest h e = digits_end rest e
digits_again (b ∷ ds) rest h e = digits_again-step (is_digit b) b ds rest h (λ g. digits_again ds rest g e)

-- ---- numbers

lead : (ds : List ℕ) → is_numeral ds ≡ true → (0 < length ds) × (get_or ds 0 0 ≡ 48 → length ds ≡ 1)
lead [] e = absurd cc
lead (d ∷ []) e = (omega arith, λ h. refl)
lead (d ∷ f ∷ ds) e = (omega arith, λ h. absurd (let same = eq-eqb d 48 h in cc))

pub number_takes : (text : List ℕ) (n : ℕ) (rest : List ℕ) → number_at text ≡ Ok (n, rest) → n < 2 ^ 32 - 1 → text ≡ decimal n ++ rest
unfolding number_at
number_takes text n rest e small =
    let p = passed (is_numeral (digits text)) (held (value_on 0 (digits text)), drop (length (digits text)) text) (n, rest) kind.Number e in
    let value : held (value_on 0 (digits text)) ≡ n = ap (λ (x : ℕ × List ℕ). x.0) p.1 in
    let rest_is : drop (length (digits text)) text ≡ rest = ap (λ (x : ℕ × List ℕ). x.1) p.1 in
    let exact : value_on 0 (digits text) ≡ n = omega arith in
    let l = lead (digits text) p.0 in
    let spelled : decimal n ≡ digits text = ap decimal (sym exact) ∙ decimal-digits_value own (digits text) (digits_all text) l.0 l.1 (omega arith) in
    sym (take-append-drop (length (digits text)) text) ∙ ap (λ (t : List ℕ). t ++ drop (length (digits text)) text) (sym (digits-front text)) ∙ ap (λ (t : List ℕ). digits text ++ t) rest_is ∙ ap (λ (t : List ℕ). t ++ rest) (sym spelled)

lead_again : (ds : List ℕ) → 0 < length ds → 48 < get_or ds 0 0 → is_numeral ds ≡ true
lead_again [] h l = absurd (omega arith)
lead_again (d ∷ []) h l = refl
lead_again (d ∷ f ∷ ds) h l = ap not (ne_eqb d 48 (λ e. omega arith))

is_numeral_decimal : (n : ℕ) → n < 2 ^ 32 → is_numeral (decimal n) ≡ true
is_numeral_decimal zero lt = ap is_numeral (decimal_digit 0 (omega arith))
is_numeral_decimal (suc n) lt = lead_again (decimal (suc n)) (decimal_nonempty (suc n) (omega arith)) (first_decimal (suc n) (omega arith) (omega arith))

pub number_again : (n : ℕ) (rest : List ℕ) → n < 2 ^ 32 → begins_number rest ≡ false → number_at (decimal n ++ rest) ≡ Ok (n, rest)
unfolding number_at
number_again n rest lt other =
    let all : list_all is_digit (decimal n) ≡ true = digits_decimal own n (omega arith) in
    let ds : digits (decimal n ++ rest) ≡ decimal n = digits_again (decimal n) rest all other in
    let value : held (value_on 0 (decimal n)) ≡ n = omega (arith, digits_value-decimal own n (omega arith)) in
    rw (ds, is_numeral_decimal n lt, value, drop_at (decimal n) rest (length (decimal n)) refl) refl

pub number_field_takes : (text : List ℕ) (n : ℕ) (rest : List ℕ) → number_field_at text ≡ Ok (n, rest) → n < 2 ^ 32 - 1 → text ≡ number_field n ++ rest
unfolding number_field_at
number_field_takes text n rest e small =
    let s = stepped (due kind.Number (codes " ") text) (λ t. number_at t) (n, rest) e in
    due_takes kind.Number (codes " ") text s.value s.first ∙ ap (λ (t : List ℕ). codes " " ++ t) (number_takes s.value n rest s.second small)

pub number_field_again : (n : ℕ) (rest : List ℕ) → n < 2 ^ 32 → begins_number rest ≡ false → number_field_at (number_field n ++ rest) ≡ Ok (n, rest)
unfolding number_field_at
number_field_again n rest lt other = rw (due_again kind.Number (codes " ") (decimal n ++ rest)) (number_again n rest lt other)

-- ---- literals

pub record TakesLiteral (text : List ℕ) (count n : ℕ) (rest : List ℕ) : Type 0 where
  pub spelled : text ≡ number_field n ++ rest
  pub there : signal_of n < count

pub literal_takes : (wrong : LllKind) (count : ℕ) (text : List ℕ) (n : ℕ) (rest : List ℕ) → count < 2 ^ 31 → literal_at wrong count text ≡ Ok (n, rest) → TakesLiteral text count n rest
unfolding literal_at
literal_takes wrong count text n rest few e =
    let s = stepped (number_field_at text) (λ x. cond (nat_lt (signal_of x.0) count) (Ok x) (Err wrong)) (n, rest) e in
    let p = passed (nat_lt (signal_of s.value.0) count) s.value (n, rest) wrong s.second in
    let number : s.value.0 ≡ n = ap (λ (x : ℕ × List ℕ). x.0) p.1 in
    let there : signal_of n < count = rw (← number) (ltb-true _ _ p.0) in
    record { spelled = number_field_takes text n rest (s.first ∙ ap Ok p.1) (omega arith); there = there }

pub literal_again : (wrong : LllKind) (count n : ℕ) (rest : List ℕ) → count < 2 ^ 31 → signal_of n < count → begins_number rest ≡ false → literal_at wrong count (number_field n ++ rest) ≡ Ok (n, rest)
unfolding literal_at
literal_again wrong count n rest few there other = rw (number_field_again n rest (omega arith) other, lt-ltb _ _ there) refl

-- ---- names

line_end-step : (b : ℕ) (bs rest : List ℕ) (v : Bool) → (v ≡ true → ⊥) → (to_line_end (bs ++ 10 ∷ rest) ≡ bs) → cond v [] (b ∷ to_line_end (bs ++ 10 ∷ rest)) ≡ b ∷ bs
line_end-step b bs rest true other go = absurd (other refl)
line_end-step b bs rest false other go = ap (λ (t : List ℕ). b ∷ t) go

pub printable_step : (v w : Bool) → (v && w) ≡ true → (v ≡ true) × (w ≡ true)
printable_step true w e = (refl, e)
printable_step false w e = absurd cc

not_line_feed : (b : ℕ) → is_printable b ≡ true → nat_eq b 10 ≡ true → ⊥
not_line_feed b p e = let same = eqb-true b 10 e in absurd (grind (arith, nat_tests))

to_line_end_again : (name rest : List ℕ) → list_all is_printable name ≡ true → to_line_end (name ++ 10 ∷ rest) ≡ name
unfolding to_line_end
to_line_end_again [] rest h = refl
to_line_end_again (b ∷ bs) rest h =
    let both = printable_step (is_printable b) (list_all is_printable bs) h in
    line_end-step b bs rest (nat_eq b 10) (not_line_feed b both.0) (to_line_end_again bs rest both.1)

in_range : (b : ℕ) → is_printable b ≡ true → (0x20 ≤ b) × (b ≤ 0x7E)
in_range b e = let both = printable_step (nat_le 0x20 b) (nat_le b 0x7E) e in (leb-true _ _ both.0, leb-true _ _ both.1)

in_range_back : (b : ℕ) → (0x20 ≤ b) × (b ≤ 0x7E) → is_printable b ≡ true
in_range_back b h = rw (le-leb 0x20 b h.0, le-leb b 0x7E h.1) refl

printable : (name : List ℕ) → list_all is_printable name ≡ true → All (λ b. (0x20 ≤ b) × (b ≤ 0x7E)) name
printable name h = λ k d lt. in_range (get_or name k d) (AllPass-from_list_all is_printable name h k d lt)

printable_back : (name : List ℕ) → All (λ b. (0x20 ≤ b) × (b ≤ 0x7E)) name → list_all is_printable name ≡ true
printable_back name h = list_all-from_AllPass is_printable name (λ k d lt. in_range_back (get_or name k d) (h k d lt))

pub is_name_takes : (name : List ℕ) → is_name name ≡ true → IsName name
is_name_takes [] e = absurd cc
is_name_takes (b ∷ bs) e = record { some = omega arith; printable = printable (b ∷ bs) e }

pub is_name_back : (name : List ℕ) → IsName name → is_name name ≡ true
is_name_back [] h = absurd (let some = h.some in omega arith)
is_name_back (b ∷ bs) h = printable_back (b ∷ bs) h.printable

pub record TakesName (text name rest : List ℕ) : Type 0 where
  pub spelled : text ≡ name_field name ++ rest
  pub is_name : IsName name

pub name_takes : (text name rest : List ℕ) → name_at text ≡ Ok (name, rest) → TakesName text name rest
unfolding name_at
name_takes text name rest e =
    let s = stepped (due kind.Name (codes " ") text) (λ t. cond (is_name (to_line_end t)) (Ok (to_line_end t, drop (length (to_line_end t)) t)) (Err kind.Name)) (name, rest) e in
    let p = passed (is_name (to_line_end s.value)) (to_line_end s.value, drop (length (to_line_end s.value)) s.value) (name, rest) kind.Name s.second in
    let name_is : to_line_end s.value ≡ name = ap (λ (x : List ℕ × List ℕ). x.0) p.1 in
    let rest_is : drop (length (to_line_end s.value)) s.value ≡ rest = ap (λ (x : List ℕ × List ℕ). x.1) p.1 in
    let whole : s.value ≡ name ++ rest = sym (take-append-drop (length (to_line_end s.value)) s.value) ∙ ap (λ (t : List ℕ). t ++ drop (length (to_line_end s.value)) s.value) (sym (to_line_end-front s.value) ∙ name_is) ∙ ap (λ (t : List ℕ). name ++ t) rest_is in
    record {
      spelled = due_takes kind.Name (codes " ") text s.value s.first ∙ ap (λ (t : List ℕ). codes " " ++ t) whole;
      is_name = subst IsName name_is (is_name_takes (to_line_end s.value) p.0);
    }

pub name_again : (name rest : List ℕ) → IsName name → name_at (name_field name ++ 10 ∷ rest) ≡ Ok (name, 10 ∷ rest)
unfolding name_at
name_again name rest h =
    let line : to_line_end (name ++ 10 ∷ rest) ≡ name = to_line_end_again name rest (printable_back name h.printable) in
    rw (due_again kind.Name (codes " ") (name ++ 10 ∷ rest), line, is_name_back name h, drop_at name (10 ∷ rest) (length name) refl) refl

known : (b : Bool) → b ≡ false → b ≡ true → ⊥
known b f t = absurd cc

bytes_same : (x y : List ℕ) → bytes_eq x y ≡ true → x ≡ y
bytes_same x y e = (bytes_eq-Decides x y).0 e

none_there : (names : List (List ℕ)) (name : List ℕ) → (Contains names name → ⊥) → (b : Bool) → list_any (bytes_eq name) names ≡ b → b ≡ false
none_there names name new true e = absurd (new (Contains-from_any {eq = bytes_eq} bytes_same name names e))
none_there names name new false e = refl

pub record TakesNewName (names : List (List ℕ)) (text name rest : List ℕ) : Type 0 where
  pub field : TakesName text name rest
  pub new : Contains names name → ⊥

pub new_name_takes : (names : List (List ℕ)) (text name rest : List ℕ) → new_name_at names text ≡ Ok (name, rest) → TakesNewName names text name rest
unfolding new_name_at
new_name_takes names text name rest e =
    let s = stepped (name_at text) (λ x. cond (list_any (bytes_eq x.0) names) (Err kind.Name) (Ok x)) (name, rest) e in
    let p = not_met (list_any (bytes_eq s.value.0) names) s.value (name, rest) kind.Name s.second in
    record {
      field = name_takes text name rest (s.first ∙ ap Ok p.1);
      new = λ there. known (list_any (bytes_eq s.value.0) names) p.0 (list_any-from_Contains nat_list_eq_equiv s.value.0 names (subst (Contains names) (sym (ap (λ (x : List ℕ × List ℕ). x.0) p.1)) there));
    }

pub new_name_again : (names : List (List ℕ)) (name rest : List ℕ) → IsName name → (Contains names name → ⊥) → new_name_at names (name_field name ++ 10 ∷ rest) ≡ Ok (name, 10 ∷ rest)
unfolding new_name_at
new_name_again names name rest h new = rw (name_again name rest h, none_there names name new (list_any (bytes_eq name) names) refl) refl

-- ---- where a number begins

begins : (ds rest : List ℕ) → 0 < length ds → list_all is_digit ds ≡ true → begins_number (ds ++ rest) ≡ true
begins [] rest some all = absurd (omega arith)
begins (d ∷ ds) rest some all = (printable_step (is_digit d) (list_all is_digit ds) all).0

pub begins_decimal : (n : ℕ) (rest : List ℕ) → n < 2 ^ 32 → begins_number (decimal n ++ rest) ≡ true
begins_decimal n rest lt = begins (decimal n) rest (decimal_nonempty n (omega arith)) (digits_decimal own n (omega arith))
