-- A signal's line that is read is what stands there, and one that is written is read again.
use Rattle.std.proofs.Common.{◌≡◌, ℕ, zero, suc, ◌+◌, ◌-◌, ◌^◌, ◌<◌, Bool, true, false, cond, List, [], ◌∷◌, ◌++◌, Option, Some, None, Result, Ok, Err, refl, sym, ap, subst, ◌∙◌, append_assoc, ◌⊎◌, inl, inr, arith}
use Rattle.std.specs.Prelude.{nat_eq, nat_lt, ◌==◌, ◌&&◌, codes, decimal, All, Contains}
use Rattle.std.proofs.lemmas.Bool.{ltb-true, lt-ltb, eqb-true, eq-eqb, ne_eqb}
use Rattle.std.proofs.lemmas.List.Elements.{All-from_recursion, All-head}
use Rattle.lll_core.specs.declared.signal.Signal.{Signal}
use Rattle.lll_core.specs.declared.signal.Signal.TheVariants.{One, Input, Latch, Imp, Eqv}
use Rattle.lll_core.specs.Signals.{signal_of, is_one, operands, nexts, own_names, IsName}
use Rattle.lll_text.specs.declared.fault.LllKind.{LllKind}
use Rattle.lll_text.specs.declared.fault.LllKind.TheVariants as kind
use Rattle.lll_text.specs.declared.signal.Form.{Form}
use Rattle.lll_text.specs.declared.signal.Form.TheVariants as word
use Rattle.lll_text.specs.Spelling.{number_field, name_field, form, signal_line}
use Rattle.lll_text.specs.Fields.{◌>>=◌, after, due, line_end, or_else, literal_at, number_field_at, number_at, new_name_at, form_at, input_at, latch_at, operands_at, gate_at, signal_of_form, first_at, later_at, signal_at, begins_number, signal_number_at, signal_line_at}
use Rattle.lll_text.proofs.Steps.{stepped, passed, chosen, ok_is}
use Rattle.lll_text.proofs.Numbers.{after_takes, due_takes, due_again, number_takes, number_again, number_field_takes, number_field_again, literal_takes, literal_again, new_name_takes, new_name_again, begins_decimal}

-- what is read first, and what is read after it
pub glue : (t x u y r : List ℕ) → t ≡ x ++ u → u ≡ y ++ r → t ≡ (x ++ y) ++ r
glue t x u y r e f = e ∙ ap (λ (w : List ℕ). x ++ w) f ∙ sym (append_assoc x y r)

pub regroup3 : (w a b r : List ℕ) → ((w ++ a) ++ b) ++ r ≡ w ++ (a ++ (b ++ r))
regroup3 w a b r = append_assoc (w ++ a) b r ∙ append_assoc w a (b ++ r)

pub regroup4 : (w a b c r : List ℕ) → (((w ++ a) ++ b) ++ c) ++ r ≡ w ++ (a ++ (b ++ (c ++ r)))
regroup4 w a b c r = append_assoc ((w ++ a) ++ b) c r ∙ regroup3 w a b (c ++ r)

-- a latch's next is below the number that stands for all that follow it
abbrev pub NextHeld : Signal → Type 0
NextHeld One = Unit {0}
NextHeld (Input name) = Unit {0}
NextHeld (Latch name init next) = next < 2 ^ 32 - 1
NextHeld (Imp a b) = Unit {0}
NextHeld (Eqv a b) = Unit {0}

-- what a signal has that follows so many, with these names
pub record Follows (count : ℕ) (names : List (List ℕ)) (s : Signal) : Type 0 where
  pub lower : All (λ a. signal_of a < count) (operands s)
  pub named : All IsName (own_names s)
  pub new : All (λ name. Contains names name → ⊥) (own_names s)

pub record TakesSignal (count : ℕ) (names : List (List ℕ)) (text : List ℕ) (s : Signal) (rest : List ℕ) : Type 0 where
  pub spelled : NextHeld s → text ≡ form s ++ rest
  pub follows : Follows count names s
  pub one : is_one s ≡ (count == 0)

none : {X : Type 0} (P : X → Type 0) → All P []
none P = All-from_recursion P [] tt

single : {X : Type 0} (P : X → Type 0) (x : X) → P x → All P (x ∷ [])
single P x p = All-from_recursion P (x ∷ []) (p, tt)

double : {X : Type 0} (P : X → Type 0) (x y : X) → P x → P y → All P (x ∷ y ∷ [])
double P x y p q = All-from_recursion P (x ∷ y ∷ []) (p, (q, tt))

-- ---- the word

abbrev pub word_of : Form → List ℕ
word_of word.Input = codes " input"
word_of word.Latch = codes " latch"
word_of word.Imp = codes " imp"
word_of word.Eqv = codes " eqv"

pub or_else_takes : {A : Type 0} (m : A) (w text : List ℕ) (o : Option (List ℕ)) (others : Result (A × List ℕ) LllKind) (x : A) (rest : List ℕ) → after w text ≡ o → or_else m o others ≡ Ok (x, rest)
    → ((m ≡ x) × (text ≡ w ++ rest)) ⊎ (others ≡ Ok (x, rest))
or_else_takes {A} m w text (Some r) others x rest o e =
    let p = ok_is (m, r) (x, rest) e in
    inl (ap (λ (y : A × List ℕ). y.0) p, after_takes w text r o ∙ ap (λ (y : A × List ℕ). w ++ y.1) p)
or_else_takes m w text None others x rest o e = inr e

pub form_takes : (text : List ℕ) (f : Form) (rest : List ℕ) → form_at text ≡ Ok (f, rest) → text ≡ word_of f ++ rest
unfolding form_at
form_takes text f rest e =
    let eqv = or_else word.Eqv (after (codes " eqv") text) (Err kind.Word) in
    let imp = or_else word.Imp (after (codes " imp") text) eqv in
    let latch = or_else word.Latch (after (codes " latch") text) imp in
    elim (or_else_takes word.Input (codes " input") text (after (codes " input") text) latch f rest refl e) [
      | inl p ↦ p.1 ∙ ap (λ g. word_of g ++ rest) p.0
      | inr e1 ↦ elim (or_else_takes word.Latch (codes " latch") text (after (codes " latch") text) imp f rest refl e1) [
        | inl p ↦ p.1 ∙ ap (λ g. word_of g ++ rest) p.0
        | inr e2 ↦ elim (or_else_takes word.Imp (codes " imp") text (after (codes " imp") text) eqv f rest refl e2) [
          | inl p ↦ p.1 ∙ ap (λ g. word_of g ++ rest) p.0
          | inr e3 ↦ elim (or_else_takes word.Eqv (codes " eqv") text (after (codes " eqv") text) (Err kind.Word) f rest refl e3) [
            | inl p ↦ p.1 ∙ ap (λ g. word_of g ++ rest) p.0
            | inr e4 ↦ absurd cc
          ]
        ]
      ]
    ]

form_again : (f : Form) (rest : List ℕ) → form_at (word_of f ++ rest) ≡ Ok (f, rest)
unfolding form_at after
form_again word.Input rest = refl
form_again word.Latch rest = refl
form_again word.Imp rest = refl
form_again word.Eqv rest = refl

-- ---- what follows the word

record TakesLater (count : ℕ) (names : List (List ℕ)) (w text : List ℕ) (s : Signal) (rest : List ℕ) : Type 0 where
  pub spelled : NextHeld s → w ++ text ≡ form s ++ rest
  pub follows : Follows count names s
  pub later : is_one s ≡ false

input_takes : (count : ℕ) (names : List (List ℕ)) (text : List ℕ) (s : Signal) (rest : List ℕ) → input_at names text ≡ Ok (s, rest) → TakesLater count names (codes " input") text s rest
unfolding input_at form
input_takes count names text s rest e =
    let n = stepped (new_name_at names text) (λ x. Ok (Input x.0, x.1)) (s, rest) e in
    let t = new_name_takes names text n.value.0 n.value.1 n.first in
    let made : TakesLater count names (codes " input") text (Input n.value.0) n.value.1 = record {
      spelled = λ held. glue (codes " input" ++ text) (codes " input") text (name_field n.value.0) n.value.1 refl t.field.spelled;
      follows = record { lower = none (λ a. signal_of a < count); named = single IsName n.value.0 t.field.is_name; new = single (λ name. Contains names name → ⊥) n.value.0 t.new };
      later = refl;
    } in
    subst (λ (x : Signal × List ℕ). TakesLater count names (codes " input") text x.0 x.1) (ok_is (Input n.value.0, n.value.1) (s, rest) n.second) made

latch_takes : (count : ℕ) (names : List (List ℕ)) (text : List ℕ) (s : Signal) (rest : List ℕ) → count < 2 ^ 31 → latch_at count names text ≡ Ok (s, rest) → TakesLater count names (codes " latch") text s rest
unfolding latch_at form
latch_takes count names text s rest few e =
    let a = stepped (literal_at kind.Order count text) (λ init. number_field_at init.1 >>= λ next. new_name_at names next.1 >>= λ name. Ok (Latch name.0 init.0 next.0, name.1)) (s, rest) e in
    let b = stepped (number_field_at a.value.1) (λ next. new_name_at names next.1 >>= λ name. Ok (Latch name.0 a.value.0 next.0, name.1)) (s, rest) a.second in
    let n = stepped (new_name_at names b.value.1) (λ name. Ok (Latch name.0 a.value.0 b.value.0, name.1)) (s, rest) b.second in
    let i = literal_takes kind.Order count text a.value.0 a.value.1 few a.first in
    let t = new_name_takes names b.value.1 n.value.0 n.value.1 n.first in
    let made : TakesLater count names (codes " latch") text (Latch n.value.0 a.value.0 b.value.0) n.value.1 = record {
      spelled = λ held.
          glue (codes " latch" ++ text) ((codes " latch" ++ number_field a.value.0) ++ number_field b.value.0) b.value.1 (name_field n.value.0) n.value.1
          (glue (codes " latch" ++ text) (codes " latch" ++ number_field a.value.0) a.value.1 (number_field b.value.0) b.value.1
          (glue (codes " latch" ++ text) (codes " latch") text (number_field a.value.0) a.value.1 refl i.spelled)
          (number_field_takes a.value.1 b.value.0 b.value.1 b.first held))
          t.field.spelled;
      follows = record { lower = single (λ c. signal_of c < count) a.value.0 i.there; named = single IsName n.value.0 t.field.is_name; new = single (λ name. Contains names name → ⊥) n.value.0 t.new };
      later = refl;
    } in
    subst (λ (x : Signal × List ℕ). TakesLater count names (codes " latch") text x.0 x.1) (ok_is (Latch n.value.0 a.value.0 b.value.0, n.value.1) (s, rest) n.second) made

record TakesOperands (count : ℕ) (text : List ℕ) (a b : ℕ) (rest : List ℕ) : Type 0 where
  pub spelled : (w : List ℕ) → w ++ text ≡ ((w ++ number_field a) ++ number_field b) ++ rest
  pub first : signal_of a < count
  pub second : signal_of b < count

operands_take : (count : ℕ) (text : List ℕ) (x : ℕ × ℕ × List ℕ) → count < 2 ^ 31 → operands_at count text ≡ Ok x → TakesOperands count text x.0 x.1 x.2
unfolding operands_at
operands_take count text x few e =
    let a = stepped (literal_at kind.Order count text) (λ a. literal_at kind.Order count a.1 >>= λ b. Ok (a.0, b.0, b.1)) x e in
    let b = stepped (literal_at kind.Order count a.value.1) (λ b. Ok (a.value.0, b.0, b.1)) x a.second in
    let s = literal_takes kind.Order count text a.value.0 a.value.1 few a.first in
    let t = literal_takes kind.Order count a.value.1 b.value.0 b.value.1 few b.first in
    let made : TakesOperands count text a.value.0 b.value.0 b.value.1 = record {
      spelled = λ w. glue (w ++ text) (w ++ number_field a.value.0) a.value.1 (number_field b.value.0) b.value.1 (glue (w ++ text) w text (number_field a.value.0) a.value.1 refl s.spelled) t.spelled;
      first = s.there;
      second = t.there;
    } in
    subst (λ (y : ℕ × ℕ × List ℕ). TakesOperands count text y.0 y.1 y.2) (ok_is (a.value.0, b.value.0, b.value.1) x b.second) made

imp_takes : (count : ℕ) (names : List (List ℕ)) (text : List ℕ) (s : Signal) (rest : List ℕ) → count < 2 ^ 31 → gate_at Imp count text ≡ Ok (s, rest) → TakesLater count names (codes " imp") text s rest
unfolding form
imp_takes count names text s rest few e =
    let x = stepped (operands_at count text) (λ x. Ok (Imp x.0 x.1, x.2)) (s, rest) e in
    let t = operands_take count text x.value few x.first in
    let made : TakesLater count names (codes " imp") text (Imp x.value.0 x.value.1) x.value.2 = record {
      spelled = λ held. t.spelled (codes " imp");
      follows = record { lower = double (λ c. signal_of c < count) x.value.0 x.value.1 t.first t.second; named = none IsName; new = none (λ name. Contains names name → ⊥) };
      later = refl;
    } in
    subst (λ (y : Signal × List ℕ). TakesLater count names (codes " imp") text y.0 y.1) (ok_is (Imp x.value.0 x.value.1, x.value.2) (s, rest) x.second) made

eqv_takes : (count : ℕ) (names : List (List ℕ)) (text : List ℕ) (s : Signal) (rest : List ℕ) → count < 2 ^ 31 → gate_at Eqv count text ≡ Ok (s, rest) → TakesLater count names (codes " eqv") text s rest
unfolding form
eqv_takes count names text s rest few e =
    let x = stepped (operands_at count text) (λ x. Ok (Eqv x.0 x.1, x.2)) (s, rest) e in
    let t = operands_take count text x.value few x.first in
    let made : TakesLater count names (codes " eqv") text (Eqv x.value.0 x.value.1) x.value.2 = record {
      spelled = λ held. t.spelled (codes " eqv");
      follows = record { lower = double (λ c. signal_of c < count) x.value.0 x.value.1 t.first t.second; named = none IsName; new = none (λ name. Contains names name → ⊥) };
      later = refl;
    } in
    subst (λ (y : Signal × List ℕ). TakesLater count names (codes " eqv") text y.0 y.1) (ok_is (Eqv x.value.0 x.value.1, x.value.2) (s, rest) x.second) made

of_form_takes : (f : Form) (count : ℕ) (names : List (List ℕ)) (text : List ℕ) (s : Signal) (rest : List ℕ) → count < 2 ^ 31 → signal_of_form f count names text ≡ Ok (s, rest) → TakesLater count names (word_of f) text s rest
of_form_takes word.Input count names text s rest few e = input_takes count names text s rest e
of_form_takes word.Latch count names text s rest few e = latch_takes count names text s rest few e
of_form_takes word.Imp count names text s rest few e = imp_takes count names text s rest few e
of_form_takes word.Eqv count names text s rest few e = eqv_takes count names text s rest few e

-- ---- what the signal is

later_takes : (count : ℕ) (names : List (List ℕ)) (text : List ℕ) (s : Signal) (rest : List ℕ) → count < 2 ^ 31 → later_at count names text ≡ Ok (s, rest) → TakesLater count names [] text s rest
unfolding later_at
later_takes count names text s rest few e =
    let f = stepped (form_at text) (λ form. signal_of_form form.0 count names form.1) (s, rest) e in
    let t = of_form_takes f.value.0 count names f.value.1 s rest few f.second in
    record { spelled = λ held. form_takes text f.value.0 f.value.1 f.first ∙ t.spelled held; follows = t.follows; later = t.later }

first_takes : (names : List (List ℕ)) (text : List ℕ) (s : Signal) (rest : List ℕ) → first_at text ≡ Ok (s, rest) → TakesSignal 0 names text s rest
unfolding first_at form
first_takes names text s rest e =
    let f = stepped (due kind.Word (codes " one") text) (λ r. Ok (One, r)) (s, rest) e in
    let made : TakesSignal 0 names text One f.value = record {
      spelled = λ held. due_takes kind.Word (codes " one") text f.value f.first;
      follows = record { lower = none (λ a. signal_of a < 0); named = none IsName; new = none (λ name. Contains names name → ⊥) };
      one = refl;
    } in
    subst (λ (y : Signal × List ℕ). TakesSignal 0 names text y.0 y.1) (ok_is (One, f.value) (s, rest) f.second) made

pub signal_takes : (count : ℕ) (names : List (List ℕ)) (text : List ℕ) (s : Signal) (rest : List ℕ) → count < 2 ^ 31 → signal_at count names text ≡ Ok (s, rest) → TakesSignal count names text s rest
signal_takes zero names text s rest few e = first_takes names text s rest e
signal_takes (suc n) names text s rest few e =
    let other : nat_eq (suc n) 0 ≡ false = ne_eqb (suc n) 0 (λ h. omega arith) in
    let t = later_takes (suc n) names text s rest few (rw other at e) in
    record { spelled = t.spelled; follows = t.follows; one = t.later ∙ sym other }

-- ---- its line

pub record TakesSignalLine (count : ℕ) (names : List (List ℕ)) (text : List ℕ) (s : Signal) (rest : List ℕ) : Type 0 where
  pub spelled : NextHeld s → text ≡ signal_line count s ++ rest
  pub follows : Follows count names s
  pub one : is_one s ≡ (count == 0)
  pub room : count + 1 < 2 ^ 31

both : (v w : Bool) → (v && w) ≡ true → (v ≡ true) × (w ≡ true)
both true w e = (refl, e)
both false w e = absurd cc

record TakesCount (count : ℕ) (text rest : List ℕ) : Type 0 where
  pub spelled : text ≡ decimal count ++ rest
  pub room : count + 1 < 2 ^ 31

count_takes : (count : ℕ) (text rest : List ℕ) → signal_number_at count text ≡ Ok rest → TakesCount count text rest
unfolding signal_number_at
count_takes count text rest e =
    let n = stepped (number_at text) (λ n. cond (nat_eq n.0 count && nat_lt count (2 ^ 31 - 1)) (Ok n.1) (Err kind.Number)) rest e in
    let p = passed (nat_eq n.value.0 count && nat_lt count (2 ^ 31 - 1)) n.value.1 rest kind.Number n.second in
    let t = both (nat_eq n.value.0 count) (nat_lt count (2 ^ 31 - 1)) p.0 in
    let is : n.value.0 ≡ count = eqb-true _ _ t.0 in
    let less : count < 2 ^ 31 - 1 = ltb-true _ _ t.1 in
    record { spelled = number_takes text count rest (n.first ∙ (λ i. Ok (is i, p.1 i))) (omega arith); room = omega arith }

pub signal_line_takes : (count : ℕ) (names : List (List ℕ)) (text : List ℕ) (s : Signal) (rest : List ℕ) → signal_line_at count names text ≡ Ok (s, rest) → TakesSignalLine count names text s rest
unfolding signal_line_at
signal_line_takes count names text s rest e =
    let c = chosen (begins_number text) (signal_number_at count text >>= λ r. signal_at count names r >>= λ x. line_end x.1 >>= λ next. Ok (x.0, next)) (s, rest) kind.Word e in
    let n = stepped (signal_number_at count text) (λ r. signal_at count names r >>= λ x. line_end x.1 >>= λ next. Ok (x.0, next)) (s, rest) c.1 in
    let x = stepped (signal_at count names n.value) (λ x. line_end x.1 >>= λ next. Ok (x.0, next)) (s, rest) n.second in
    let l = stepped (line_end x.value.1) (λ next. Ok (x.value.0, next)) (s, rest) x.second in
    let number = count_takes count text n.value n.first in
    let t = signal_takes count names n.value x.value.0 x.value.1 (omega (arith, number.room)) x.first in
    let made : TakesSignalLine count names text x.value.0 l.value = record {
      spelled = λ held.
          glue text (decimal count ++ form x.value.0) x.value.1 (codes "\n") l.value
          (glue text (decimal count) n.value (form x.value.0) x.value.1 number.spelled (t.spelled held))
          (due_takes kind.Ending (codes "\n") x.value.1 l.value l.first);
      follows = t.follows;
      one = t.one;
      room = number.room;
    } in
    subst (λ (y : Signal × List ℕ). TakesSignalLine count names text y.0 y.1) (ok_is (x.value.0, l.value) (s, rest) l.second) made

-- ---- what is written is read again

input_again : (names : List (List ℕ)) (name rest : List ℕ) → IsName name → (Contains names name → ⊥) → input_at names (name_field name ++ 10 ∷ rest) ≡ Ok (Input name, 10 ∷ rest)
unfolding input_at
input_again names name rest h new = rw (new_name_again names name rest h new) refl

latch_again : (count : ℕ) (names : List (List ℕ)) (name rest : List ℕ) (init next : ℕ) → count < 2 ^ 31 → IsName name → (Contains names name → ⊥) → signal_of init < count → next < 2 ^ 32
    → latch_at count names (number_field init ++ (number_field next ++ (name_field name ++ 10 ∷ rest))) ≡ Ok (Latch name init next, 10 ∷ rest)
unfolding latch_at
latch_again count names name rest init next few h new lower small =
    rw (
      literal_again kind.Order count init (number_field next ++ (name_field name ++ 10 ∷ rest)) few lower refl,
      number_field_again next (name_field name ++ 10 ∷ rest) small refl,
      new_name_again names name rest h new,
    ) refl

operands_again : (count a b : ℕ) (rest : List ℕ) → count < 2 ^ 31 → signal_of a < count → signal_of b < count → operands_at count (number_field a ++ (number_field b ++ 10 ∷ rest)) ≡ Ok (a, b, 10 ∷ rest)
unfolding operands_at
operands_again count a b rest few low lower =
    rw (literal_again kind.Order count a (number_field b ++ 10 ∷ rest) few low refl, literal_again kind.Order count b (10 ∷ rest) few lower refl) refl

-- a signal after the first, with the text after it
later_again : (count : ℕ) (names : List (List ℕ)) (s : Signal) (rest : List ℕ) → count < 2 ^ 31 → is_one s ≡ false → Follows count names s → All (λ a. a < 2 ^ 32) (nexts s)
    → later_at count names (form s ++ 10 ∷ rest) ≡ Ok (s, 10 ∷ rest)
unfolding later_at form
later_again count names One rest few one f small = absurd cc
later_again count names (Input name) rest few one f small =
    let h = All-head IsName name [] f.named in
    let new = All-head (λ n. Contains names n → ⊥) name [] f.new in
    ap (later_at count names) (append_assoc (codes " input") (name_field name) (10 ∷ rest))
    ∙ rw (form_again word.Input (name_field name ++ 10 ∷ rest)) (input_again names name rest h new)
later_again count names (Latch name init next) rest few one f small =
    let h = All-head IsName name [] f.named in
    let new = All-head (λ n. Contains names n → ⊥) name [] f.new in
    ap (later_at count names) (regroup4 (codes " latch") (number_field init) (number_field next) (name_field name) (10 ∷ rest))
    ∙ rw (form_again word.Latch (number_field init ++ (number_field next ++ (name_field name ++ 10 ∷ rest)))) (latch_again count names name rest init next few h new (All-head (λ a. signal_of a < count) init [] f.lower) (All-head (λ a. a < 2 ^ 32) next [] small))
later_again count names (Imp a b) rest few one f small =
    ap (later_at count names) (regroup3 (codes " imp") (number_field a) (number_field b) (10 ∷ rest))
    ∙ rw (form_again word.Imp (number_field a ++ (number_field b ++ 10 ∷ rest)), operands_again count a b rest few (All-head (λ c. signal_of c < count) a (b ∷ []) f.lower) (f.lower 1 0 (omega arith))) refl
later_again count names (Eqv a b) rest few one f small =
    ap (later_at count names) (regroup3 (codes " eqv") (number_field a) (number_field b) (10 ∷ rest))
    ∙ rw (form_again word.Eqv (number_field a ++ (number_field b ++ 10 ∷ rest)), operands_again count a b rest few (All-head (λ c. signal_of c < count) a (b ∷ []) f.lower) (f.lower 1 0 (omega arith))) refl

first_again : (s : Signal) (rest : List ℕ) → is_one s ≡ true → first_at (form s ++ 10 ∷ rest) ≡ Ok (s, 10 ∷ rest)
unfolding first_at form
first_again One rest e = rw (due_again kind.Word (codes " one") (10 ∷ rest)) refl
first_again (Input name) rest e = absurd cc
first_again (Latch name init next) rest e = absurd cc
first_again (Imp a b) rest e = absurd cc
first_again (Eqv a b) rest e = absurd cc

signal_again-step : (v : Bool) (count : ℕ) (names : List (List ℕ)) (s : Signal) (rest : List ℕ) → count < 2 ^ 31 → is_one s ≡ v → Follows count names s → All (λ a. a < 2 ^ 32) (nexts s)
    → cond v (first_at (form s ++ 10 ∷ rest)) (later_at count names (form s ++ 10 ∷ rest)) ≡ Ok (s, 10 ∷ rest)
signal_again-step true count names s rest few one f small = first_again s rest one
signal_again-step false count names s rest few one f small = later_again count names s rest few one f small

signal_again : (count : ℕ) (names : List (List ℕ)) (s : Signal) (rest : List ℕ) → count < 2 ^ 31 → is_one s ≡ (count == 0) → Follows count names s → All (λ a. a < 2 ^ 32) (nexts s)
    → signal_at count names (form s ++ 10 ∷ rest) ≡ Ok (s, 10 ∷ rest)
signal_again count names s rest few one f small = signal_again-step (count == 0) count names s rest few one f small

no_digit : (s : Signal) (rest : List ℕ) → begins_number (form s ++ rest) ≡ false
unfolding form
no_digit One rest = refl
no_digit (Input name) rest = refl
no_digit (Latch name init next) rest = refl
no_digit (Imp a b) rest = refl
no_digit (Eqv a b) rest = refl

count_again : (count : ℕ) (rest : List ℕ) → count + 1 < 2 ^ 31 → begins_number rest ≡ false → signal_number_at count (decimal count ++ rest) ≡ Ok rest
unfolding signal_number_at
count_again count rest room other = rw (number_again count rest (omega arith) other, eq-eqb count count refl, lt-ltb count (2 ^ 31 - 1) (omega arith)) refl

pub signal_line_again : (count : ℕ) (names : List (List ℕ)) (s : Signal) (rest : List ℕ) → count + 1 < 2 ^ 31 → is_one s ≡ (count == 0) → Follows count names s → All (λ a. a < 2 ^ 32) (nexts s)
    → signal_line_at count names (signal_line count s ++ rest) ≡ Ok (s, rest)
unfolding signal_line_at
signal_line_again count names s rest room one f small =
    ap (signal_line_at count names) (regroup3 (decimal count) (form s) (codes "\n") rest)
    ∙ rw (begins_decimal count (form s ++ 10 ∷ rest) (omega arith), count_again count (form s ++ 10 ∷ rest) room (no_digit s (10 ∷ rest)), signal_again count names s rest (omega arith) one f small, due_again kind.Ending (codes "\n") rest) refl
