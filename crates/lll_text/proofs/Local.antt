-- What a line says, or what is wrong with it, does not hang on what follows it.
use Rattle.std.proofs.Common.{◌≡◌, ℕ, zero, suc, ◌+◌, ◌-◌, ◌^◌, ◌<◌, ◌≤◌, Bool, true, false, cond, List, [], ◌∷◌, ◌++◌, length, take, drop, Option, Some, None, Result, Ok, Err, refl, sym, ap, subst, ◌∙◌, append_assoc, is_some, arith}
use Rattle.std.specs.Prelude.{nat_eq, nat_lt, not, ◌==◌, ◌&&◌, codes}
use Rattle.std.specs.List.{list_any}
use Rattle.std.specs.Str.{bytes_eq}
use Rattle.std.proofs.Math.Seq.{drop-append_seam}
use Rattle.std.proofs.lemmas.Bool.{eqb-true, eq-eqb, ne_eqb}
use Rattle.std.proofs.lemmas.List.{take-append-drop, drop-append-le}
use Rattle.lll_core.specs.declared.signal.Signal.{Signal}
use Rattle.lll_core.specs.declared.signal.Signal.TheVariants.{One, Input, Latch, Imp, Eqv}
use Rattle.lll_core.specs.Signals.{signal_of, signal_names}
use Rattle.lll_text.specs.declared.draft.Draft.{Draft}
use Rattle.lll_text.specs.declared.draft.Entry.{Entry}
use Rattle.lll_text.specs.declared.draft.Entry.TheVariants as entry
use Rattle.lll_text.specs.declared.draft.Stage.{Stage}
use Rattle.lll_text.specs.declared.draft.Stage.TheVariants as stage
use Rattle.lll_text.specs.declared.fault.LllFault.{LllFault}
use Rattle.lll_text.specs.declared.fault.LllFault.TheVariants as fault
use Rattle.lll_text.specs.declared.fault.LllKind.{LllKind}
use Rattle.lll_text.specs.declared.fault.LllKind.TheVariants as kind
use Rattle.lll_text.specs.declared.signal.Form.{Form}
use Rattle.lll_text.specs.declared.signal.Form.TheVariants as word
use Rattle.lll_text.specs.Fields.{◌>>=◌, after, given, due, line_end, or_else, is_digit, digits, is_numeral, value_on, held, number_at, number_field_at, literal_at, to_line_end, is_name, name_at, new_name_at, form_at, input_at, latch_at, operands_at, gate_at, signal_of_form, first_at, later_at, signal_at, begins_number, signal_number_at, signal_line_at}
use Rattle.lll_text.specs.Lines.{header_line_at, next_signal_at, literal_line_at, assume_line_at, keep_line_at, entry_at, is_empty, may_stand, constraint_at, obligation_at, naming_at, after_word, list_line_at, first_open, in_line, closing, ends_signals, signals_line_at, some_line_at, line_at, after_lines, line_feeds}
use Rattle.lll_text.proofs.Consumed.{line_feeds-append}

-- ---- answers that are alike

-- the same error, or values that are alike
abbrev Alike : {A F : Type 0} → (A → A → Type 0) → Result A F → Result A F → Type 0
Alike P (Ok x) (Ok y) = P x y
Alike P (Ok x) (Err e) = ⊥
Alike P (Err d) (Ok y) = ⊥
Alike P (Err d) (Err e) = d ≡ e

-- one value, with texts after it that are alike
abbrev Same : {A : Type 0} → (List ℕ → List ℕ → Type 0) → A × List ℕ → A × List ℕ → Type 0
Same S x y = (x.0 ≡ y.0) × S x.1 y.1

bind : {A B F : Type 0} (P : A → A → Type 0) (Q : B → B → Type 0) (a b : Result A F) (f : A → Result B F)
    → Alike P a b → ((x y : A) → P x y → Alike Q (f x) (f y)) → Alike Q (a >>= f) (b >>= f)
bind P Q (Ok x) (Ok y) f h go = go x y h
bind P Q (Ok x) (Err e) f h go = absurd h
bind P Q (Err d) (Ok y) f h go = absurd h
bind P Q (Err d) (Err e) f h go = h

then : {A B F : Type 0} (S : List ℕ → List ℕ → Type 0) (Q : B → B → Type 0) (a b : Result (A × List ℕ) F) (f : A × List ℕ → Result B F)
    → Alike (Same S) a b → ((x : A) (t u : List ℕ) → S t u → Alike Q (f (x, t)) (f (x, u))) → Alike Q (a >>= f) (b >>= f)
then S Q a b f h go = bind (Same S) Q a b f h (λ x y p. subst (λ v. Alike Q (f x) (f (v, y.1))) p.0 (go x.0 x.1 y.1 p.1))

choose : {A F : Type 0} (P : A → A → Type 0) (v w : Bool) (a b c d : Result A F) → v ≡ w → Alike P a b → Alike P c d → Alike P (cond v a c) (cond w b d)
choose P true true a b c d e g h = g
choose P true false a b c d e g h = absurd cc
choose P false true a b c d e g h = absurd cc
choose P false false a b c d e g h = h

weaker : {A F : Type 0} (P Q : A → A → Type 0) (a b : Result A F) → ((x y : A) → P x y → Q x y) → Alike P a b → Alike Q a b
weaker P Q (Ok x) (Ok y) go h = go x y h
weaker P Q (Ok x) (Err e) go h = h
weaker P Q (Err d) (Ok y) go h = h
weaker P Q (Err d) (Err e) go h = h

same_error : {A F : Type 0} (P : A → A → Type 0) (a b : Result A F) (d : F) → Alike P a b → a ≡ Err d → b ≡ Err d
same_error P (Ok x) b d h e = absurd cc
same_error P (Err c) (Ok y) d h e = absurd h
same_error P (Err c) (Err f) d h e = ap Err (sym h) ∙ e

-- ---- texts that share a line

-- one line in both, up to its line feed
record Shared (r s t u : List ℕ) : Type 0 where
  line : List ℕ
  inside : line_feeds line ≡ 0
  first : t ≡ line ++ 10 ∷ r
  second : u ≡ line ++ 10 ∷ s

-- the line is past
abbrev Past : List ℕ → List ℕ → List ℕ → List ℕ → Type 0
Past r s t u = (t ≡ r) × (u ≡ s)

at_line : (M : List ℕ → List ℕ → Type 0) (r s t u : List ℕ) → Shared r s t u → ((line : List ℕ) → line_feeds line ≡ 0 → M (line ++ 10 ∷ r) (line ++ 10 ∷ s)) → M t u
at_line M r s t u h go = subst (λ x. M x u) (sym h.first) (subst (λ y. M (h.line ++ 10 ∷ r) y) (sym h.second) (go h.line h.inside))

feed_step : (v : Bool) (n : ℕ) → cond v (1 + n) n ≡ 0 → (v ≡ false) × (n ≡ 0)
feed_step true n h = absurd (omega arith)
feed_step false n h = (refl, h)

no_feed : (b : ℕ) (bs : List ℕ) → line_feeds (b ∷ bs) ≡ 0 → (nat_eq b 10 ≡ false) × (line_feeds bs ≡ 0)
unfolding line_feeds
no_feed b bs h = feed_step (nat_eq b 10) (line_feeds bs) h

-- ---- words

abbrev AlikeRests : (List ℕ → List ℕ → Type 0) → Option (List ℕ) → Option (List ℕ) → Type 0
AlikeRests S (Some t) (Some u) = S t u
AlikeRests S (Some t) None = ⊥
AlikeRests S None (Some u) = ⊥
AlikeRests S None None = Unit {0}

other_step : (S : List ℕ → List ℕ → Type 0) (v : Bool) (o p : Option (List ℕ)) → v ≡ false → AlikeRests S (cond v o None) (cond v p None)
other_step S true o p e = absurd cc
other_step S false o p e = tt

word_step : (S : List ℕ → List ℕ → Type 0) (v : Bool) (o p : Option (List ℕ)) → AlikeRests S o p → AlikeRests S (cond v o None) (cond v p None)
word_step S true o p h = h
word_step S false o p h = tt

flip_eq : (b c : ℕ) → nat_eq b c ≡ false → nat_eq c b ≡ false
flip_eq b c e = ne_eqb c b (λ h. absurd (let g : nat_eq b b ≡ false = subst (λ x. nat_eq b x ≡ false) h e in let t = eq-eqb b b refl in cc))

after_line : (bytes line r s : List ℕ) → line_feeds bytes ≡ 0 → line_feeds line ≡ 0 → AlikeRests (Shared r s) (after bytes (line ++ 10 ∷ r)) (after bytes (line ++ 10 ∷ s))
unfolding after
after_line [] line r s n h = record { line = line; inside = h; first = refl; second = refl }
after_line (b ∷ bs) [] r s n h = other_step (Shared r s) (nat_eq 10 b) (after bs r) (after bs s) (flip_eq b 10 (no_feed b bs n).0)
after_line (b ∷ bs) (c ∷ cs) r s n h = word_step (Shared r s) (nat_eq c b) (after bs (cs ++ 10 ∷ r)) (after bs (cs ++ 10 ∷ s)) (after_line bs cs r s (no_feed b bs n).1 (no_feed c cs h).1)

after_local : (bytes r s t u : List ℕ) → line_feeds bytes ≡ 0 → Shared r s t u → AlikeRests (Shared r s) (after bytes t) (after bytes u)
after_local bytes r s t u n h = at_line (λ x y. AlikeRests (Shared r s) (after bytes x) (after bytes y)) r s t u h (λ line i. after_line bytes line r s n i)

given_alike : (S : List ℕ → List ℕ → Type 0) (wrong : LllKind) (o p : Option (List ℕ)) → AlikeRests S o p → Alike S (given wrong o) (given wrong p)
given_alike S wrong (Some t) (Some u) h = h
given_alike S wrong (Some t) None h = h
given_alike S wrong None (Some u) h = h
given_alike S wrong None None h = refl

or_else_alike : {A : Type 0} (S : List ℕ → List ℕ → Type 0) (x : A) (o p : Option (List ℕ)) (a b : Result (A × List ℕ) LllKind) → AlikeRests S o p → Alike (Same S) a b → Alike (Same S) (or_else x o a) (or_else x p b)
or_else_alike S x (Some t) (Some u) a b h g = (refl, h)
or_else_alike S x (Some t) None a b h g = absurd h
or_else_alike S x None (Some u) a b h g = absurd h
or_else_alike S x None None a b h g = g

is_some_alike : (S : List ℕ → List ℕ → Type 0) (o p : Option (List ℕ)) → AlikeRests S o p → is_some o ≡ is_some p
is_some_alike S (Some t) (Some u) h = refl
is_some_alike S (Some t) None h = absurd h
is_some_alike S None (Some u) h = absurd h
is_some_alike S None None h = refl

due_local : (wrong : LllKind) (bytes r s t u : List ℕ) → line_feeds bytes ≡ 0 → Shared r s t u → Alike (Shared r s) (due wrong bytes t) (due wrong bytes u)
due_local wrong bytes r s t u n h = given_alike (Shared r s) wrong (after bytes t) (after bytes u) (after_local bytes r s t u n h)

end_line : (line r s : List ℕ) → line_feeds line ≡ 0 → AlikeRests (Past r s) (after (codes "\n") (line ++ 10 ∷ r)) (after (codes "\n") (line ++ 10 ∷ s))
unfolding after
end_line [] r s h = (refl, refl)
end_line (b ∷ bs) r s h = other_step (Past r s) (nat_eq b 10) (Some (bs ++ 10 ∷ r)) (Some (bs ++ 10 ∷ s)) (no_feed b bs h).0

end_local : (r s t u : List ℕ) → Shared r s t u → Alike (Past r s) (line_end t) (line_end u)
end_local r s t u h =
    given_alike (Past r s) kind.Ending (after (codes "\n") t) (after (codes "\n") u)
    (at_line (λ x y. AlikeRests (Past r s) (after (codes "\n") x) (after (codes "\n") y)) r s t u h (λ line i. end_line line r s i))

-- ---- numbers

digits_in : (line z : List ℕ) → digits (line ++ 10 ∷ z) ≡ digits line
unfolding digits
digits_in [] z = refl
digits_in (b ∷ bs) z = ap (λ (ds : List ℕ). cond (is_digit b) (b ∷ ds) []) (digits_in bs z)

short_step : (v : Bool) (b : ℕ) (ds bs : List ℕ) → length ds ≤ length bs → length (cond v (b ∷ ds) []) ≤ length (b ∷ bs)
short_step true b ds bs h = omega arith
short_step false b ds bs h = omega arith

digits_short : (line : List ℕ) → length (digits line) ≤ length line
unfolding digits
digits_short [] = omega arith
digits_short (b ∷ bs) = short_step (is_digit b) b (digits bs) bs (digits_short bs)

drop_inside : (n : ℕ) (line : List ℕ) → line_feeds line ≡ 0 → line_feeds (drop n line) ≡ 0
drop_inside n line h = omega (arith, h, line_feeds-append (take n line) (drop n line), ap line_feeds (take-append-drop n line))

past_digits : (line z : List ℕ) → drop (length (digits (line ++ 10 ∷ z))) (line ++ 10 ∷ z) ≡ drop (length (digits line)) line ++ 10 ∷ z
past_digits line z = ap (λ (ds : List ℕ). drop (length ds) (line ++ 10 ∷ z)) (digits_in line z) ∙ drop-append-le (length (digits line)) line (10 ∷ z) (digits_short line)

number_line : (line r s : List ℕ) → line_feeds line ≡ 0 → Alike (Same (Shared r s)) (number_at (line ++ 10 ∷ r)) (number_at (line ++ 10 ∷ s))
unfolding number_at
number_line line r s h =
    let t : List ℕ = line ++ 10 ∷ r in
    let u : List ℕ = line ++ 10 ∷ s in
    let same : digits t ≡ digits u = digits_in line r ∙ sym (digits_in line s) in
    choose (Same (Shared r s)) (is_numeral (digits t)) (is_numeral (digits u)) (Ok (held (value_on 0 (digits t)), drop (length (digits t)) t)) (Ok (held (value_on 0 (digits u)), drop (length (digits u)) u)) (Err kind.Number) (Err kind.Number)
    (ap is_numeral same) (ap (λ (ds : List ℕ). held (value_on 0 ds)) same, record { line = drop (length (digits line)) line; inside = drop_inside (length (digits line)) line h; first = past_digits line r; second = past_digits line s }) refl

number_local : (r s t u : List ℕ) → Shared r s t u → Alike (Same (Shared r s)) (number_at t) (number_at u)
number_local r s t u h = at_line (λ x y. Alike (Same (Shared r s)) (number_at x) (number_at y)) r s t u h (λ line i. number_line line r s i)

number_field_local : (r s t u : List ℕ) → Shared r s t u → Alike (Same (Shared r s)) (number_field_at t) (number_field_at u)
unfolding line_feeds number_field_at
number_field_local r s t u h =
    bind (Shared r s) (Same (Shared r s)) (due kind.Number (codes " ") t) (due kind.Number (codes " ") u) (λ x. number_at x) (due_local kind.Number (codes " ") r s t u refl h) (λ x y k. number_local r s x y k)

literal_local : (wrong : LllKind) (count : ℕ) (r s t u : List ℕ) → Shared r s t u → Alike (Same (Shared r s)) (literal_at wrong count t) (literal_at wrong count u)
unfolding literal_at
literal_local wrong count r s t u h =
    then (Shared r s) (Same (Shared r s)) (number_field_at t) (number_field_at u) (λ y. cond (nat_lt (signal_of y.0) count) (Ok y) (Err wrong)) (number_field_local r s t u h)
    (λ n x y k. choose (Same (Shared r s)) (nat_lt (signal_of n) count) (nat_lt (signal_of n) count) (Ok (n, x)) (Ok (n, y)) (Err wrong) (Err wrong) refl (refl, k) refl)

-- ---- names

line_in : (line z : List ℕ) → line_feeds line ≡ 0 → to_line_end (line ++ 10 ∷ z) ≡ line
unfolding to_line_end
line_in [] z h = refl
line_in (b ∷ bs) z h = rw (no_feed b bs h).0 (ap (λ (t : List ℕ). b ∷ t) (line_in bs z (no_feed b bs h).1))

past_line : (line z : List ℕ) → line_feeds line ≡ 0 → drop (length (to_line_end (line ++ 10 ∷ z))) (line ++ 10 ∷ z) ≡ 10 ∷ z
past_line line z h = ap (λ (l : List ℕ). drop (length l) (line ++ 10 ∷ z)) (line_in line z h) ∙ drop-append_seam line (10 ∷ z)

-- a name runs to the line's end
abbrev name_here : List ℕ → Result (List ℕ × List ℕ) LllKind
name_here t = cond (is_name (to_line_end t)) (Ok (to_line_end t, drop (length (to_line_end t)) t)) (Err kind.Name)

name_line : (line r s : List ℕ) → line_feeds line ≡ 0 → Alike (Same (Shared r s)) (name_here (line ++ 10 ∷ r)) (name_here (line ++ 10 ∷ s))
unfolding line_feeds
name_line line r s h =
    let t : List ℕ = line ++ 10 ∷ r in
    let u : List ℕ = line ++ 10 ∷ s in
    let same : to_line_end t ≡ to_line_end u = line_in line r h ∙ sym (line_in line s h) in
    choose (Same (Shared r s)) (is_name (to_line_end t)) (is_name (to_line_end u)) (Ok (to_line_end t, drop (length (to_line_end t)) t)) (Ok (to_line_end u, drop (length (to_line_end u)) u)) (Err kind.Name) (Err kind.Name)
    (ap is_name same) (same, record { line = []; inside = refl; first = past_line line r h; second = past_line line s h }) refl

name_local : (r s t u : List ℕ) → Shared r s t u → Alike (Same (Shared r s)) (name_at t) (name_at u)
unfolding line_feeds name_at
name_local r s t u h =
    bind (Shared r s) (Same (Shared r s)) (due kind.Name (codes " ") t) (due kind.Name (codes " ") u) (λ x. name_here x) (due_local kind.Name (codes " ") r s t u refl h)
    (λ x y k. at_line (λ v w. Alike (Same (Shared r s)) (name_here v) (name_here w)) r s x y k (λ line i. name_line line r s i))

new_name_local : (names : List (List ℕ)) (r s t u : List ℕ) → Shared r s t u → Alike (Same (Shared r s)) (new_name_at names t) (new_name_at names u)
unfolding new_name_at
new_name_local names r s t u h =
    then (Shared r s) (Same (Shared r s)) (name_at t) (name_at u) (λ y. cond (list_any (bytes_eq y.0) names) (Err kind.Name) (Ok y)) (name_local r s t u h)
    (λ n x y k. choose (Same (Shared r s)) (list_any (bytes_eq n) names) (list_any (bytes_eq n) names) (Err kind.Name) (Err kind.Name) (Ok (n, x)) (Ok (n, y)) refl refl (refl, k))

-- ---- signals

form_local : (r s t u : List ℕ) → Shared r s t u → Alike (Same (Shared r s)) (form_at t) (form_at u)
unfolding line_feeds form_at
form_local r s t u h =
    let imp = or_else_alike (Shared r s) word.Imp (after (codes " imp") t) (after (codes " imp") u) (or_else word.Eqv (after (codes " eqv") t) (Err kind.Word)) (or_else word.Eqv (after (codes " eqv") u) (Err kind.Word)) (after_local (codes " imp") r s t u refl h)
    (or_else_alike (Shared r s) word.Eqv (after (codes " eqv") t) (after (codes " eqv") u) (Err kind.Word) (Err kind.Word) (after_local (codes " eqv") r s t u refl h) refl) in
    let latch = or_else_alike (Shared r s) word.Latch (after (codes " latch") t) (after (codes " latch") u) (or_else word.Imp (after (codes " imp") t) (or_else word.Eqv (after (codes " eqv") t) (Err kind.Word))) (or_else word.Imp (after (codes " imp") u) (or_else word.Eqv (after (codes " eqv") u) (Err kind.Word)))
    (after_local (codes " latch") r s t u refl h) imp in
    or_else_alike (Shared r s) word.Input (after (codes " input") t) (after (codes " input") u)
    (or_else word.Latch (after (codes " latch") t) (or_else word.Imp (after (codes " imp") t) (or_else word.Eqv (after (codes " eqv") t) (Err kind.Word))))
    (or_else word.Latch (after (codes " latch") u) (or_else word.Imp (after (codes " imp") u) (or_else word.Eqv (after (codes " eqv") u) (Err kind.Word))))
    (after_local (codes " input") r s t u refl h) latch

input_local : (names : List (List ℕ)) (r s t u : List ℕ) → Shared r s t u → Alike (Same (Shared r s)) (input_at names t) (input_at names u)
unfolding input_at
input_local names r s t u h = then (Shared r s) (Same (Shared r s)) (new_name_at names t) (new_name_at names u) (λ y. Ok (Input y.0, y.1)) (new_name_local names r s t u h) (λ n x y k. (refl, k))

latch_local : (count : ℕ) (names : List (List ℕ)) (r s t u : List ℕ) → Shared r s t u → Alike (Same (Shared r s)) (latch_at count names t) (latch_at count names u)
unfolding latch_at
latch_local count names r s t u h =
    then (Shared r s) (Same (Shared r s)) (literal_at kind.Order count t) (literal_at kind.Order count u)
    (λ init. number_field_at init.1 >>= λ next. new_name_at names next.1 >>= λ name. Ok (Latch name.0 init.0 next.0, name.1)) (literal_local kind.Order count r s t u h)
    (λ init x y k. then (Shared r s) (Same (Shared r s)) (number_field_at x) (number_field_at y) (λ next. new_name_at names next.1 >>= λ name. Ok (Latch name.0 init next.0, name.1)) (number_field_local r s x y k)
    (λ next v w l. then (Shared r s) (Same (Shared r s)) (new_name_at names v) (new_name_at names w) (λ name. Ok (Latch name.0 init next, name.1)) (new_name_local names r s v w l)
    (λ name a b m. (refl, m))))

-- two operands, with texts after them that are alike
abbrev SameTwo : (List ℕ → List ℕ → Type 0) → ℕ × ℕ × List ℕ → ℕ × ℕ × List ℕ → Type 0
SameTwo S x y = (x.0 ≡ y.0) × (x.1 ≡ y.1) × S x.2 y.2

operands_local : (count : ℕ) (r s t u : List ℕ) → Shared r s t u → Alike (SameTwo (Shared r s)) (operands_at count t) (operands_at count u)
unfolding operands_at
operands_local count r s t u h =
    then (Shared r s) (SameTwo (Shared r s)) (literal_at kind.Order count t) (literal_at kind.Order count u) (λ a. literal_at kind.Order count a.1 >>= λ b. Ok (a.0, b.0, b.1)) (literal_local kind.Order count r s t u h)
    (λ a x y k. then (Shared r s) (SameTwo (Shared r s)) (literal_at kind.Order count x) (literal_at kind.Order count y) (λ b. Ok (a, b.0, b.1)) (literal_local kind.Order count r s x y k)
    (λ b v w l. (refl, refl, l)))

gate_local : (gate : ℕ → ℕ → Signal) (count : ℕ) (r s t u : List ℕ) → Shared r s t u → Alike (Same (Shared r s)) (gate_at gate count t) (gate_at gate count u)
gate_local gate count r s t u h =
    bind (SameTwo (Shared r s)) (Same (Shared r s)) (operands_at count t) (operands_at count u) (λ y. Ok (gate y.0 y.1, y.2)) (operands_local count r s t u h)
    (λ x y p. ((λ i. gate (p.0 i) (p.1 i)), p.2))

of_form_local : (f : Form) (count : ℕ) (names : List (List ℕ)) (r s t u : List ℕ) → Shared r s t u → Alike (Same (Shared r s)) (signal_of_form f count names t) (signal_of_form f count names u)
of_form_local word.Input count names r s t u h = input_local names r s t u h
of_form_local word.Latch count names r s t u h = latch_local count names r s t u h
of_form_local word.Imp count names r s t u h = gate_local Imp count r s t u h
of_form_local word.Eqv count names r s t u h = gate_local Eqv count r s t u h

later_local : (count : ℕ) (names : List (List ℕ)) (r s t u : List ℕ) → Shared r s t u → Alike (Same (Shared r s)) (later_at count names t) (later_at count names u)
unfolding later_at
later_local count names r s t u h =
    then (Shared r s) (Same (Shared r s)) (form_at t) (form_at u) (λ form. signal_of_form form.0 count names form.1) (form_local r s t u h) (λ f x y k. of_form_local f count names r s x y k)

first_local : (r s t u : List ℕ) → Shared r s t u → Alike (Same (Shared r s)) (first_at t) (first_at u)
unfolding line_feeds first_at
first_local r s t u h =
    bind (Shared r s) (Same (Shared r s)) (due kind.Word (codes " one") t) (due kind.Word (codes " one") u) (λ x. Ok (One, x)) (due_local kind.Word (codes " one") r s t u refl h) (λ x y k. (refl, k))

signal_local : (count : ℕ) (names : List (List ℕ)) (r s t u : List ℕ) → Shared r s t u → Alike (Same (Shared r s)) (signal_at count names t) (signal_at count names u)
signal_local count names r s t u h =
    choose (Same (Shared r s)) (count == 0) (count == 0) (first_at t) (first_at u) (later_at count names t) (later_at count names u) refl (first_local r s t u h) (later_local count names r s t u h)

count_local : (count : ℕ) (r s t u : List ℕ) → Shared r s t u → Alike (Shared r s) (signal_number_at count t) (signal_number_at count u)
unfolding signal_number_at
count_local count r s t u h =
    then (Shared r s) (Shared r s) (number_at t) (number_at u) (λ n. cond (nat_eq n.0 count && nat_lt count (2 ^ 31 - 1)) (Ok n.1) (Err kind.Number)) (number_local r s t u h)
    (λ n x y k. choose (Shared r s) (nat_eq n count && nat_lt count (2 ^ 31 - 1)) (nat_eq n count && nat_lt count (2 ^ 31 - 1)) (Ok x) (Ok y) (Err kind.Number) (Err kind.Number) refl k refl)

begins_line : (line r s : List ℕ) → begins_number (line ++ 10 ∷ r) ≡ begins_number (line ++ 10 ∷ s)
begins_line [] r s = refl
begins_line (b ∷ bs) r s = refl

begins_local : (r s t u : List ℕ) → Shared r s t u → begins_number t ≡ begins_number u
begins_local r s t u h = at_line (λ x y. begins_number x ≡ begins_number y) r s t u h (λ line i. begins_line line r s)

-- ---- lines

-- a value that the line's end follows
closed : {A : Type 0} (x : A) (r s t u : List ℕ) → Shared r s t u → Alike (Same (Past r s)) (line_end t >>= λ next. Ok (x, next)) (line_end u >>= λ next. Ok (x, next))
closed {A} x r s t u h = bind (Past r s) (Same {A = A} (Past r s)) (line_end t) (line_end u) (λ next. Ok (x, next)) (end_local r s t u h) (λ v w k. (refl, k))

signal_line_local : (count : ℕ) (names : List (List ℕ)) (r s t u : List ℕ) → Shared r s t u → Alike (Same (Past r s)) (signal_line_at count names t) (signal_line_at count names u)
unfolding signal_line_at
signal_line_local count names r s t u h =
    choose (Same (Past r s)) (begins_number t) (begins_number u)
    (signal_number_at count t >>= λ x. signal_at count names x >>= λ s. line_end s.1 >>= λ next. Ok (s.0, next)) (signal_number_at count u >>= λ x. signal_at count names x >>= λ s. line_end s.1 >>= λ next. Ok (s.0, next))
    (Err kind.Word) (Err kind.Word) (begins_local r s t u h)
    (bind (Shared r s) (Same (Past r s)) (signal_number_at count t) (signal_number_at count u) (λ x. signal_at count names x >>= λ s. line_end s.1 >>= λ next. Ok (s.0, next)) (count_local count r s t u h)
    (λ x y k. then (Shared r s) (Same (Past r s)) (signal_at count names x) (signal_at count names y) (λ s. line_end s.1 >>= λ next. Ok (s.0, next)) (signal_local count names r s x y k)
    (λ signal v w l. closed signal r s v w l))) refl

header_local : (d : Draft) (r s t u : List ℕ) → Shared r s t u → Alike (Same (Past r s)) (header_line_at d t) (header_line_at d u)
unfolding line_feeds header_line_at
header_local d r s t u h =
    bind (Shared r s) (Same (Past r s)) (due kind.Word (codes "lll 1") t) (due kind.Word (codes "lll 1") u) (λ x. line_end x >>= λ next. Ok (record d { stage = stage.Signals }, next)) (due_local kind.Word (codes "lll 1") r s t u refl h)
    (λ x y k. closed (record d { stage = stage.Signals }) r s x y k)

next_signal_local : (d : Draft) (r s t u : List ℕ) → Shared r s t u → Alike (Same (Past r s)) (next_signal_at d t) (next_signal_at d u)
unfolding next_signal_at
next_signal_local d r s t u h =
    then (Past r s) (Same (Past r s)) (signal_line_at (length d.signals) (signal_names d.signals) t) (signal_line_at (length d.signals) (signal_names d.signals) u) (λ x. Ok (record d { signals = d.signals ++ x.0 ∷ [] }, x.1))
    (signal_line_local (length d.signals) (signal_names d.signals) r s t u h) (λ signal x y k. (refl, k))

literal_line_local : (w : List ℕ) (count : ℕ) (r s t u : List ℕ) → line_feeds w ≡ 0 → Shared r s t u → Alike (Same (Past r s)) (literal_line_at w count t) (literal_line_at w count u)
unfolding literal_line_at
literal_line_local w count r s t u none h =
    bind (Shared r s) (Same (Past r s)) (due kind.Word w t) (due kind.Word w u) (λ x. literal_at kind.Number count x >>= λ literal. line_end literal.1 >>= λ next. Ok (literal.0, next)) (due_local kind.Word w r s t u none h)
    (λ x y k. then (Shared r s) (Same (Past r s)) (literal_at kind.Number count x) (literal_at kind.Number count y) (λ literal. line_end literal.1 >>= λ next. Ok (literal.0, next)) (literal_local kind.Number count r s x y k)
    (λ literal v w l. closed literal r s v w l))

assume_local : (d : Draft) (r s t u : List ℕ) → Shared r s t u → Alike (Same (Past r s)) (assume_line_at d t) (assume_line_at d u)
unfolding line_feeds assume_line_at
assume_local d r s t u h =
    then (Past r s) (Same (Past r s)) (literal_line_at (codes "assume") (length d.signals) t) (literal_line_at (codes "assume") (length d.signals) u) (λ literal. Ok (record d { stage = stage.Keep; assume = literal.0 }, literal.1))
    (literal_line_local (codes "assume") (length d.signals) r s t u refl h) (λ literal x y k. (refl, k))

keep_local : (d : Draft) (r s t u : List ℕ) → Shared r s t u → Alike (Same (Past r s)) (keep_line_at d t) (keep_line_at d u)
unfolding line_feeds keep_line_at
keep_local d r s t u h =
    then (Past r s) (Same (Past r s)) (literal_line_at (codes "keep") (length d.signals) t) (literal_line_at (codes "keep") (length d.signals) u) (λ literal. Ok (record d { stage = stage.Lists; keep = literal.0 }, literal.1))
    (literal_line_local (codes "keep") (length d.signals) r s t u refl h) (λ literal x y k. (refl, k))

entry_local : (r s t u : List ℕ) → Shared r s t u → Alike (Same (Shared r s)) (entry_at t) (entry_at u)
unfolding line_feeds entry_at
entry_local r s t u h =
    let name = or_else_alike (Shared r s) entry.Name (after (codes "name") t) (after (codes "name") u) (or_else entry.End (after (codes "end") t) (Err kind.Word)) (or_else entry.End (after (codes "end") u) (Err kind.Word)) (after_local (codes "name") r s t u refl h)
    (or_else_alike (Shared r s) entry.End (after (codes "end") t) (after (codes "end") u) (Err kind.Word) (Err kind.Word) (after_local (codes "end") r s t u refl h) refl) in
    let obligation = or_else_alike (Shared r s) entry.Obligation (after (codes "obligation") t) (after (codes "obligation") u)
    (or_else entry.Name (after (codes "name") t) (or_else entry.End (after (codes "end") t) (Err kind.Word))) (or_else entry.Name (after (codes "name") u) (or_else entry.End (after (codes "end") u) (Err kind.Word)))
    (after_local (codes "obligation") r s t u refl h) name in
    or_else_alike (Shared r s) entry.Constraint (after (codes "constraint") t) (after (codes "constraint") u)
    (or_else entry.Obligation (after (codes "obligation") t) (or_else entry.Name (after (codes "name") t) (or_else entry.End (after (codes "end") t) (Err kind.Word))))
    (or_else entry.Obligation (after (codes "obligation") u) (or_else entry.Name (after (codes "name") u) (or_else entry.End (after (codes "end") u) (Err kind.Word))))
    (after_local (codes "constraint") r s t u refl h) obligation

after_word_local : (g : Entry) (d : Draft) (r s t u : List ℕ) → Shared r s t u → Alike (Same (Shared r s)) (after_word d g t) (after_word d g u)
unfolding constraint_at obligation_at naming_at
after_word_local entry.Constraint d r s t u h =
    then (Shared r s) (Same (Shared r s)) (literal_at kind.Number (length d.signals) t) (literal_at kind.Number (length d.signals) u) (λ literal. Ok (record d { constraints = d.constraints ++ literal.0 ∷ [] }, literal.1))
    (literal_local kind.Number (length d.signals) r s t u h) (λ literal x y k. (refl, k))
after_word_local entry.Obligation d r s t u h =
    then (Shared r s) (Same (Shared r s)) (literal_at kind.Number (length d.signals) t) (literal_at kind.Number (length d.signals) u) (λ literal. Ok (record d { obligations = d.obligations ++ literal.0 ∷ [] }, literal.1))
    (literal_local kind.Number (length d.signals) r s t u h) (λ literal x y k. (refl, k))
after_word_local entry.Name d r s t u h =
    then (Shared r s) (Same (Shared r s)) (literal_at kind.Number (length d.signals) t) (literal_at kind.Number (length d.signals) u)
    (λ literal. name_at literal.1 >>= λ name. Ok (record d { names = d.names ++ record { name = name.0; literal = literal.0 } ∷ [] }, name.1)) (literal_local kind.Number (length d.signals) r s t u h)
    (λ literal x y k. then (Shared r s) (Same (Shared r s)) (name_at x) (name_at y) (λ name. Ok (record d { names = d.names ++ record { name = name.0; literal = literal } ∷ [] }, name.1)) (name_local r s x y k)
    (λ name v w l. (refl, l)))
after_word_local entry.End d r s t u h = (refl, h)

list_local : (d : Draft) (r s t u : List ℕ) → Shared r s t u → Alike (Same (Past r s)) (list_line_at d t) (list_line_at d u)
unfolding list_line_at
list_local d r s t u h =
    then (Shared r s) (Same (Past r s)) (entry_at t) (entry_at u) (λ word. cond (may_stand d word.0) (after_word d word.0 word.1) (Err kind.Word) >>= λ said. line_end said.1 >>= λ next. Ok (said.0, next)) (entry_local r s t u h)
    (λ g x y k. then (Shared r s) (Same (Past r s)) (cond (may_stand d g) (after_word d g x) (Err kind.Word)) (cond (may_stand d g) (after_word d g y) (Err kind.Word)) (λ said. line_end said.1 >>= λ next. Ok (said.0, next))
    (choose (Same (Shared r s)) (may_stand d g) (may_stand d g) (after_word d g x) (after_word d g y) (Err kind.Word) (Err kind.Word) refl (after_word_local g d r s x y k) refl)
    (λ said v w l. closed said r s v w l))

-- ---- any line

in_line_alike : {A : Type 0} (P : A → A → Type 0) (n : ℕ) (a b : Result A LllKind) → Alike P a b → Alike P (in_line n a) (in_line n b)
in_line_alike P n (Ok x) (Ok y) h = h
in_line_alike P n (Ok x) (Err e) h = h
in_line_alike P n (Err d) (Ok y) h = h
in_line_alike P n (Err d) (Err e) h = ap (fault.Fault n) h

closing_local : (o : Option ℕ) (n : ℕ) (d : Draft) (r s t u : List ℕ) → Shared r s t u → Alike (Same (Past r s)) (closing n o d t) (closing n o d u)
closing_local (Some k) n d r s t u h = refl
closing_local None n d r s t u h = in_line_alike (Same (Past r s)) n (assume_line_at d t) (assume_line_at d u) (assume_local d r s t u h)

ends_local : (d : Draft) (r s t u : List ℕ) → Shared r s t u → ends_signals d t ≡ ends_signals d u
unfolding line_feeds
ends_local d r s t u h = ap (λ b. not (is_empty d.signals) && b) (is_some_alike (Shared r s) (after (codes "assume") t) (after (codes "assume") u) (after_local (codes "assume") r s t u refl h))

some_line_local : (st : Stage) (n : ℕ) (d : Draft) (r s t u : List ℕ) → Shared r s t u → Alike (Same (Past r s)) (some_line_at st n d t) (some_line_at st n d u)
unfolding signals_line_at
some_line_local stage.Header n d r s t u h = in_line_alike (Same (Past r s)) n (header_line_at d t) (header_line_at d u) (header_local d r s t u h)
some_line_local stage.Signals n d r s t u h =
    choose (Same (Past r s)) (ends_signals d t) (ends_signals d u) (closing n (first_open d.signals) d t) (closing n (first_open d.signals) d u) (in_line n (next_signal_at d t)) (in_line n (next_signal_at d u)) (ends_local d r s t u h)
    (closing_local (first_open d.signals) n d r s t u h) (in_line_alike (Same (Past r s)) n (next_signal_at d t) (next_signal_at d u) (next_signal_local d r s t u h))
some_line_local stage.Keep n d r s t u h = in_line_alike (Same (Past r s)) n (keep_line_at d t) (keep_line_at d u) (keep_local d r s t u h)
some_line_local stage.Lists n d r s t u h = in_line_alike (Same (Past r s)) n (list_line_at d t) (list_line_at d u) (list_local d r s t u h)
some_line_local stage.End n d r s t u h = refl

line_here : (line : List ℕ) (n : ℕ) (d : Draft) (r s : List ℕ) → Alike (Same (Past r s)) (some_line_at d.stage n d (line ++ 10 ∷ r)) (some_line_at d.stage n d (line ++ 10 ∷ s))
    → Alike (Same (Past r s)) (line_at n d (line ++ 10 ∷ r)) (line_at n d (line ++ 10 ∷ s))
unfolding line_at
line_here [] n d r s h = h
line_here (b ∷ bs) n d r s h = h

line_local : (n : ℕ) (d : Draft) (r s t u : List ℕ) → Shared r s t u → Alike (Same (Past r s)) (line_at n d t) (line_at n d u)
line_local n d r s t u h =
    at_line (λ x y. Alike (Same (Past r s)) (line_at n d x) (line_at n d y)) r s t u h
    (λ line i. line_here line n d r s (some_line_local d.stage n d r s (line ++ 10 ∷ r) (line ++ 10 ∷ s) (record { line = line; inside = i; first = refl; second = refl })))

-- ---- the first lines

-- the first line of some bytes
record FirstLine (front : List ℕ) : Type 0 where
  line : List ℕ
  more : List ℕ
  parts : front ≡ line ++ 10 ∷ more
  inside : line_feeds line ≡ 0
  count : line_feeds front ≡ 1 + line_feeds more

first_line-step : (v : Bool) (b : ℕ) (bs : List ℕ) → nat_eq b 10 ≡ v → 0 < cond v (1 + line_feeds bs) (line_feeds bs) → (0 < line_feeds bs → FirstLine bs) → FirstLine (b ∷ bs)
unfolding line_feeds
first_line-step true b bs e some go = record { line = []; more = bs; parts = ap (λ x. x ∷ bs) (eqb-true b 10 e); inside = refl; count = rw e refl }
first_line-step false b bs e some go = let f = go some in record { line = b ∷ f.line; more = f.more; parts = ap (λ (t : List ℕ). b ∷ t) f.parts; inside = rw e f.inside; count = rw e f.count }

first_line : (front : List ℕ) → 0 < line_feeds front → FirstLine front
unfolding line_feeds
first_line [] some = absurd (omega arith)
first_line (b ∷ bs) some = first_line-step (nat_eq b 10) b bs refl some (first_line bs)

-- so many lines in both, before what follows them
record SharedLines (lines : ℕ) (rest other t u : List ℕ) : Type 0 where
  front : List ℕ
  enough : lines ≤ line_feeds front
  first : t ≡ front ++ rest
  second : u ≡ front ++ other

line_step : (n lines : ℕ) (d : Draft) (rest other t u : List ℕ) → SharedLines (suc lines) rest other t u → Alike (Same (SharedLines lines rest other)) (line_at n d t) (line_at n d u)
line_step n lines d rest other t u h =
    let l = first_line h.front (omega (arith, h.enough)) in
    let r : List ℕ = l.more ++ rest in
    let s : List ℕ = l.more ++ other in
    let shared : Shared r s t u = record {
      line = l.line;
      inside = l.inside;
      first = h.first ∙ ap (λ (f : List ℕ). f ++ rest) l.parts ∙ append_assoc l.line (10 ∷ l.more) rest;
      second = h.second ∙ ap (λ (f : List ℕ). f ++ other) l.parts ∙ append_assoc l.line (10 ∷ l.more) other;
    } in
    weaker (Same (Past r s)) (Same (SharedLines lines rest other)) (line_at n d t) (line_at n d u)
    (λ x y p. (p.0, record { front = l.more; enough = omega (arith, h.enough, l.count); first = p.1.0; second = p.1.1 })) (line_local n d r s t u shared)

lines_local : (k lines : ℕ) (front rest other : List ℕ) → k + lines ≤ line_feeds front → Alike (Same (SharedLines lines rest other)) (after_lines k (front ++ rest)) (after_lines k (front ++ other))
unfolding after_lines
lines_local zero lines front rest other enough = (refl, record { front = front; enough = omega (arith, enough); first = refl; second = refl })
lines_local (suc k) lines front rest other enough =
    then (SharedLines (suc lines) rest other) (Same (SharedLines lines rest other)) (after_lines k (front ++ rest)) (after_lines k (front ++ other)) (λ so_far. line_at (k + 1) so_far.0 so_far.1)
    (lines_local k (suc lines) front rest other (omega (arith, enough))) (λ d t u h. line_step (k + 1) lines d rest other t u h)

pub fault_local : (front rest other : List ℕ) (lines : ℕ) (e : LllFault) → lines ≤ line_feeds front → after_lines lines (front ++ rest) ≡ Err e → after_lines lines (front ++ other) ≡ Err e
fault_local front rest other lines e enough wrong =
    same_error (Same (SharedLines 0 rest other)) (after_lines lines (front ++ rest)) (after_lines lines (front ++ other)) e (lines_local lines 0 front rest other (omega (arith, enough))) wrong
