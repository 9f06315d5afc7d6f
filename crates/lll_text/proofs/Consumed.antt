-- Each line that is read ends with the first line feed.
use Rattle.std.proofs.Common.{◌≡◌, ℕ, ◌+◌, ◌-◌, ◌^◌, Bool, true, false, cond, List, [], ◌∷◌, ◌++◌, length, drop, Option, Some, None, Ok, Err, refl, sym, ap, subst, ◌∙◌, arith}
use Rattle.std.specs.Prelude.{nat_eq, nat_lt, ◌==◌, ◌&&◌, codes}
use Rattle.std.specs.List.{list_all, list_any}
use Rattle.std.specs.Str.{bytes_eq}
use Rattle.std.proofs.lemmas.Bool.{eqb-true}
use Rattle.std.proofs.lemmas.List.{take-append-drop}
use Rattle.lll_core.specs.declared.signal.Signal.{Signal}
use Rattle.lll_core.specs.declared.signal.Signal.TheVariants.{One, Input, Latch, Imp, Eqv}
use Rattle.lll_core.specs.Signals.{signal_of, signal_names}
use Rattle.lll_text.specs.declared.draft.Draft.{Draft}
use Rattle.lll_text.specs.declared.draft.Entry.{Entry}
use Rattle.lll_text.specs.declared.draft.Entry.TheVariants as entry
use Rattle.lll_text.specs.declared.draft.Stage.{Stage}
use Rattle.lll_text.specs.declared.draft.Stage.TheVariants as stage
use Rattle.lll_text.specs.declared.fault.LllKind.{LllKind}
use Rattle.lll_text.specs.declared.fault.LllKind.TheVariants as kind
use Rattle.lll_text.specs.declared.signal.Form.{Form}
use Rattle.lll_text.specs.declared.signal.Form.TheVariants as word
use Rattle.lll_text.specs.Fields.{◌>>=◌, due, line_end, is_digit, digits, is_numeral, value_on, held, number_at, number_field_at, literal_at, to_line_end, is_name, name_at, new_name_at, form_at, input_at, latch_at, operands_at, gate_at, signal_of_form, first_at, later_at, signal_at, begins_number, signal_number_at, signal_line_at}
use Rattle.lll_text.specs.Lines.{header_line_at, next_signal_at, literal_line_at, assume_line_at, keep_line_at, entry_at, may_stand, constraint_at, obligation_at, naming_at, after_word, list_line_at, first_open, in_line, closing, ends_signals, signals_line_at, some_line_at, line_feeds}
use Rattle.lll_text.proofs.FieldLemmas.{digits-front, to_line_end-front}
use Rattle.lll_text.proofs.Steps.{stepped, passed, not_met, chosen, ok_is}
use Rattle.lll_text.proofs.Numbers.{due_takes, digits_all, printable_step}
use Rattle.lll_text.proofs.Signals.{form_takes, word_of, glue}
use Rattle.lll_text.proofs.Reached.{entry_takes, entry_word, in_line_ok}

-- ---- bytes without a line feed

abbrev feeds : List ℕ → ℕ
feeds bytes = line_feeds bytes

append_step : (v : Bool) (m n k : ℕ) → m ≡ n + k → cond v (1 + m) m ≡ cond v (1 + n) n + k
append_step true m n k e = omega arith
append_step false m n k e = e

pub line_feeds-append : (xs ys : List ℕ) → line_feeds (xs ++ ys) ≡ line_feeds xs + line_feeds ys
unfolding line_feeds
line_feeds-append [] ys = omega arith
line_feeds-append (x ∷ xs) ys = append_step (nat_eq x 10) (line_feeds (xs ++ ys)) (line_feeds xs) (line_feeds ys) (line_feeds-append xs ys)

pub record Consumes (text rest : List ℕ) : Type 0 where
  pub used : List ℕ
  pub parts : text ≡ used ++ rest
  pub inside : feeds used ≡ 0

then : (text mid rest : List ℕ) → Consumes text mid → Consumes mid rest → Consumes text rest
then text mid rest a b = record {
  used = a.used ++ b.used;
  parts = glue text a.used mid b.used rest a.parts b.parts;
  inside = line_feeds-append a.used b.used ∙ (λ i. a.inside i + b.inside i);
}

word_used : (wrong : LllKind) (bytes text rest : List ℕ) → feeds bytes ≡ 0 → due wrong bytes text ≡ Ok rest → Consumes text rest
word_used wrong bytes text rest none e = record { used = bytes; parts = due_takes wrong bytes text rest e; inside = none }

-- no digit is a line feed
digit_step : (v w : Bool) (b : ℕ) (ds : List ℕ) → is_digit b ≡ v → nat_eq b 10 ≡ w → v ≡ true → feeds ds ≡ 0 → cond w (1 + feeds ds) (feeds ds) ≡ 0
digit_step v true b ds d e t h = absurd (let ten = eqb-true b 10 e in let no : is_digit 10 ≡ v = subst (λ x. is_digit x ≡ v) ten d in cc)
digit_step v false b ds d e t h = h

digits_inside : (ds : List ℕ) → list_all is_digit ds ≡ true → feeds ds ≡ 0
unfolding line_feeds
digits_inside [] h = refl
digits_inside (d ∷ ds) h = let p = printable_step (is_digit d) (list_all is_digit ds) h in digit_step (is_digit d) (nat_eq d 10) d ds refl refl p.0 (digits_inside ds p.1)

number_used : (text : List ℕ) (x : ℕ × List ℕ) → number_at text ≡ Ok x → Consumes text x.1
unfolding number_at
number_used text x e =
    let p = passed (is_numeral (digits text)) (held (value_on 0 (digits text)), drop (length (digits text)) text) x kind.Number e in
    record {
      used = digits text;
      parts = sym (take-append-drop (length (digits text)) text) ∙ ap (λ (t : List ℕ). t ++ drop (length (digits text)) text) (sym (digits-front text)) ∙ ap (λ (y : ℕ × List ℕ). digits text ++ y.1) p.1;
      inside = digits_inside (digits text) (digits_all text);
    }

number_field_used : (text : List ℕ) (x : ℕ × List ℕ) → number_field_at text ≡ Ok x → Consumes text x.1
unfolding line_feeds number_field_at
number_field_used text x e =
    let s = stepped (due kind.Number (codes " ") text) (λ t. number_at t) x e in
    then text s.value x.1 (word_used kind.Number (codes " ") text s.value refl s.first) (number_used s.value x s.second)

literal_used : (wrong : LllKind) (count : ℕ) (text : List ℕ) (x : ℕ × List ℕ) → literal_at wrong count text ≡ Ok x → Consumes text x.1
unfolding literal_at
literal_used wrong count text x e =
    let s = stepped (number_field_at text) (λ y. cond (nat_lt (signal_of y.0) count) (Ok y) (Err wrong)) x e in
    let p = passed (nat_lt (signal_of s.value.0) count) s.value x wrong s.second in
    number_field_used text x (s.first ∙ ap Ok p.1)

line_step : (w : Bool) (b : ℕ) (bs : List ℕ) → nat_eq b 10 ≡ w → feeds (to_line_end bs) ≡ 0 → feeds (cond w [] (b ∷ to_line_end bs)) ≡ 0
unfolding line_feeds
line_step true b bs e h = refl
line_step false b bs e h = rw e h

line_inside : (text : List ℕ) → feeds (to_line_end text) ≡ 0
unfolding line_feeds to_line_end
line_inside [] = refl
line_inside (b ∷ bs) = line_step (nat_eq b 10) b bs refl (line_inside bs)

name_used : (text : List ℕ) (x : List ℕ × List ℕ) → name_at text ≡ Ok x → Consumes text x.1
unfolding line_feeds name_at
name_used text x e =
    let s = stepped (due kind.Name (codes " ") text) (λ t. cond (is_name (to_line_end t)) (Ok (to_line_end t, drop (length (to_line_end t)) t)) (Err kind.Name)) x e in
    let p = passed (is_name (to_line_end s.value)) (to_line_end s.value, drop (length (to_line_end s.value)) s.value) x kind.Name s.second in
    then text s.value x.1 (word_used kind.Name (codes " ") text s.value refl s.first) (record {
      used = to_line_end s.value;
      parts = sym (take-append-drop (length (to_line_end s.value)) s.value) ∙ ap (λ (t : List ℕ). t ++ drop (length (to_line_end s.value)) s.value) (sym (to_line_end-front s.value)) ∙ ap (λ (y : List ℕ × List ℕ). to_line_end s.value ++ y.1) p.1;
      inside = line_inside s.value;
    })

new_name_used : (names : List (List ℕ)) (text : List ℕ) (x : List ℕ × List ℕ) → new_name_at names text ≡ Ok x → Consumes text x.1
unfolding new_name_at
new_name_used names text x e =
    let s = stepped (name_at text) (λ y. cond (list_any (bytes_eq y.0) names) (Err kind.Name) (Ok y)) x e in
    let p = not_met (list_any (bytes_eq s.value.0) names) s.value x kind.Name s.second in
    name_used text x (s.first ∙ ap Ok p.1)

-- ---- signals

abbrev rest_of : {A : Type 0} → A × List ℕ → List ℕ
rest_of x = x.1

form_inside : (f : Form) → feeds (word_of f) ≡ 0
unfolding line_feeds
form_inside word.Input = refl
form_inside word.Latch = refl
form_inside word.Imp = refl
form_inside word.Eqv = refl

operands_used : (count : ℕ) (text : List ℕ) (x : ℕ × ℕ × List ℕ) → operands_at count text ≡ Ok x → Consumes text x.2
unfolding operands_at
operands_used count text x e =
    let a = stepped (literal_at kind.Order count text) (λ a. literal_at kind.Order count a.1 >>= λ b. Ok (a.0, b.0, b.1)) x e in
    let b = stepped (literal_at kind.Order count a.value.1) (λ b. Ok (a.value.0, b.0, b.1)) x a.second in
    let is = ok_is (a.value.0, b.value.0, b.value.1) x b.second in
    subst (λ (y : ℕ × ℕ × List ℕ). Consumes text y.2) is (then text a.value.1 b.value.1 (literal_used kind.Order count text a.value a.first) (literal_used kind.Order count a.value.1 b.value b.first))

gate_used : (gate : ℕ → ℕ → Signal) (count : ℕ) (text : List ℕ) (x : Signal × List ℕ) → gate_at gate count text ≡ Ok x → Consumes text x.1
gate_used gate count text x e =
    let o = stepped (operands_at count text) (λ y. Ok (gate y.0 y.1, y.2)) x e in
    subst (λ (y : Signal × List ℕ). Consumes text y.1) (ok_is (gate o.value.0 o.value.1, o.value.2) x o.second) (operands_used count text o.value o.first)

input_used : (names : List (List ℕ)) (text : List ℕ) (x : Signal × List ℕ) → input_at names text ≡ Ok x → Consumes text x.1
unfolding input_at
input_used names text x e =
    let n = stepped (new_name_at names text) (λ y. Ok (Input y.0, y.1)) x e in
    subst (λ (y : Signal × List ℕ). Consumes text y.1) (ok_is (Input n.value.0, n.value.1) x n.second) (new_name_used names text n.value n.first)

latch_used : (count : ℕ) (names : List (List ℕ)) (text : List ℕ) (x : Signal × List ℕ) → latch_at count names text ≡ Ok x → Consumes text x.1
unfolding latch_at
latch_used count names text x e =
    let a = stepped (literal_at kind.Order count text) (λ init. number_field_at init.1 >>= λ next. new_name_at names next.1 >>= λ name. Ok (Latch name.0 init.0 next.0, name.1)) x e in
    let b = stepped (number_field_at a.value.1) (λ next. new_name_at names next.1 >>= λ name. Ok (Latch name.0 a.value.0 next.0, name.1)) x a.second in
    let n = stepped (new_name_at names b.value.1) (λ name. Ok (Latch name.0 a.value.0 b.value.0, name.1)) x b.second in
    subst (λ (y : Signal × List ℕ). Consumes text y.1) (ok_is (Latch n.value.0 a.value.0 b.value.0, n.value.1) x n.second)
    (then text a.value.1 n.value.1 (literal_used kind.Order count text a.value a.first) (then a.value.1 b.value.1 n.value.1 (number_field_used a.value.1 b.value b.first) (new_name_used names b.value.1 n.value n.first)))

of_form_used : (f : Form) (count : ℕ) (names : List (List ℕ)) (text : List ℕ) (x : Signal × List ℕ) → signal_of_form f count names text ≡ Ok x → Consumes text x.1
of_form_used word.Input count names text x e = input_used names text x e
of_form_used word.Latch count names text x e = latch_used count names text x e
of_form_used word.Imp count names text x e = gate_used Imp count text x e
of_form_used word.Eqv count names text x e = gate_used Eqv count text x e

later_used : (count : ℕ) (names : List (List ℕ)) (text : List ℕ) (x : Signal × List ℕ) → later_at count names text ≡ Ok x → Consumes text x.1
unfolding later_at
later_used count names text x e =
    let f = stepped (form_at text) (λ form. signal_of_form form.0 count names form.1) x e in
    then text f.value.1 x.1 (record { used = word_of f.value.0; parts = form_takes text f.value.0 f.value.1 f.first; inside = form_inside f.value.0 }) (of_form_used f.value.0 count names f.value.1 x f.second)

first_used : (text : List ℕ) (x : Signal × List ℕ) → first_at text ≡ Ok x → Consumes text x.1
unfolding line_feeds first_at
first_used text x e =
    let f = stepped (due kind.Word (codes " one") text) (λ r. Ok (One, r)) x e in
    subst (λ (y : Signal × List ℕ). Consumes text y.1) (ok_is (One, f.value) x f.second) (word_used kind.Word (codes " one") text f.value refl f.first)

signal_step : (v : Bool) (count : ℕ) (names : List (List ℕ)) (text : List ℕ) (x : Signal × List ℕ) → cond v (first_at text) (later_at count names text) ≡ Ok x → Consumes text x.1
signal_step true count names text x e = first_used text x e
signal_step false count names text x e = later_used count names text x e

count_used : (count : ℕ) (text rest : List ℕ) → signal_number_at count text ≡ Ok rest → Consumes text rest
unfolding signal_number_at
count_used count text rest e =
    let n = stepped (number_at text) (λ n. cond (nat_eq n.0 count && nat_lt count (2 ^ 31 - 1)) (Ok n.1) (Err kind.Number)) rest e in
    let p = passed (nat_eq n.value.0 count && nat_lt count (2 ^ 31 - 1)) n.value.1 rest kind.Number n.second in
    subst (Consumes text) p.1 (number_used text n.value n.first)

-- ---- lines

-- a line is used: its line feed is its last byte
pub record Line (text rest : List ℕ) : Type 0 where
  pub used : List ℕ
  pub parts : text ≡ used ++ rest
  pub ends : feeds used ≡ 1
  pub before : List ℕ
  pub used_is : used ≡ before ++ codes "\n"

ended : (text mid rest : List ℕ) → Consumes text mid → line_end mid ≡ Ok rest → Line text rest
unfolding line_feeds
ended text mid rest a e = record {
  used = a.used ++ codes "\n";
  parts = glue text a.used mid (codes "\n") rest a.parts (due_takes kind.Ending (codes "\n") mid rest e);
  ends = line_feeds-append a.used (codes "\n") ∙ ap (λ n. n + 1) a.inside;
  before = a.used;
  used_is = refl;
}

abbrev LineOf : List ℕ → Draft × List ℕ → Type 0
LineOf text x = Line text x.1

signal_line_used : (count : ℕ) (names : List (List ℕ)) (text : List ℕ) (x : Signal × List ℕ) → signal_line_at count names text ≡ Ok x → Line text x.1
unfolding signal_line_at
signal_line_used count names text x e =
    let c = chosen (begins_number text) (signal_number_at count text >>= λ r. signal_at count names r >>= λ s. line_end s.1 >>= λ next. Ok (s.0, next)) x kind.Word e in
    let n = stepped (signal_number_at count text) (λ r. signal_at count names r >>= λ s. line_end s.1 >>= λ next. Ok (s.0, next)) x c.1 in
    let s = stepped (signal_at count names n.value) (λ s. line_end s.1 >>= λ next. Ok (s.0, next)) x n.second in
    let l = stepped (line_end s.value.1) (λ next. Ok (s.value.0, next)) x s.second in
    let used = then text n.value s.value.1 (count_used count text n.value n.first) (signal_step (count == 0) count names n.value s.value s.first) in
    subst (λ (y : Signal × List ℕ). Line text y.1) (ok_is (s.value.0, l.value) x l.second) (ended text s.value.1 l.value used l.first)

header_used : (d : Draft) (text : List ℕ) (x : Draft × List ℕ) → header_line_at d text ≡ Ok x → LineOf text x
unfolding line_feeds header_line_at
header_used d text x e =
    let w = stepped (due kind.Word (codes "lll 1") text) (λ r. line_end r >>= λ next. Ok (record d { stage = stage.Signals }, next)) x e in
    let l = stepped (line_end w.value) (λ next. Ok (record d { stage = stage.Signals }, next)) x w.second in
    subst (LineOf text) (ok_is (record d { stage = stage.Signals }, l.value) x l.second) (ended text w.value l.value (word_used kind.Word (codes "lll 1") text w.value refl w.first) l.first)

next_signal_used : (d : Draft) (text : List ℕ) (x : Draft × List ℕ) → next_signal_at d text ≡ Ok x → LineOf text x
unfolding next_signal_at
next_signal_used d text x e =
    let s = stepped (signal_line_at (length d.signals) (signal_names d.signals) text) (λ s. Ok (record d { signals = d.signals ++ s.0 ∷ [] }, s.1)) x e in
    subst (LineOf text) (ok_is (record d { signals = d.signals ++ s.value.0 ∷ [] }, s.value.1) x s.second) (signal_line_used (length d.signals) (signal_names d.signals) text s.value s.first)

literal_line_used : (w : List ℕ) (count : ℕ) (text : List ℕ) (x : ℕ × List ℕ) → feeds w ≡ 0 → literal_line_at w count text ≡ Ok x → Line text x.1
unfolding literal_line_at
literal_line_used w count text x none e =
    let a = stepped (due kind.Word w text) (λ r. literal_at kind.Number count r >>= λ literal. line_end literal.1 >>= λ next. Ok (literal.0, next)) x e in
    let v = stepped (literal_at kind.Number count a.value) (λ literal. line_end literal.1 >>= λ next. Ok (literal.0, next)) x a.second in
    let l = stepped (line_end v.value.1) (λ next. Ok (v.value.0, next)) x v.second in
    subst (λ (y : ℕ × List ℕ). Line text y.1) (ok_is (v.value.0, l.value) x l.second)
    (ended text v.value.1 l.value (then text a.value v.value.1 (word_used kind.Word w text a.value none a.first) (literal_used kind.Number count a.value v.value v.first)) l.first)

assume_used : (d : Draft) (text : List ℕ) (x : Draft × List ℕ) → assume_line_at d text ≡ Ok x → LineOf text x
unfolding line_feeds assume_line_at
assume_used d text x e =
    let v = stepped (literal_line_at (codes "assume") (length d.signals) text) (λ literal. Ok (record d { stage = stage.Keep; assume = literal.0 }, literal.1)) x e in
    subst (LineOf text) (ok_is (record d { stage = stage.Keep; assume = v.value.0 }, v.value.1) x v.second) (literal_line_used (codes "assume") (length d.signals) text v.value refl v.first)

keep_used : (d : Draft) (text : List ℕ) (x : Draft × List ℕ) → keep_line_at d text ≡ Ok x → LineOf text x
unfolding line_feeds keep_line_at
keep_used d text x e =
    let v = stepped (literal_line_at (codes "keep") (length d.signals) text) (λ literal. Ok (record d { stage = stage.Lists; keep = literal.0 }, literal.1)) x e in
    subst (LineOf text) (ok_is (record d { stage = stage.Lists; keep = v.value.0 }, v.value.1) x v.second) (literal_line_used (codes "keep") (length d.signals) text v.value refl v.first)

after_word_used : (g : Entry) (d : Draft) (text : List ℕ) (x : Draft × List ℕ) → after_word d g text ≡ Ok x → Consumes text x.1
unfolding line_feeds constraint_at obligation_at naming_at
after_word_used entry.Constraint d text x e =
    let v = stepped (literal_at kind.Number (length d.signals) text) (λ literal. Ok (record d { constraints = d.constraints ++ literal.0 ∷ [] }, literal.1)) x e in
    subst (λ (y : Draft × List ℕ). Consumes text y.1) (ok_is (record d { constraints = d.constraints ++ v.value.0 ∷ [] }, v.value.1) x v.second) (literal_used kind.Number (length d.signals) text v.value v.first)
after_word_used entry.Obligation d text x e =
    let v = stepped (literal_at kind.Number (length d.signals) text) (λ literal. Ok (record d { obligations = d.obligations ++ literal.0 ∷ [] }, literal.1)) x e in
    subst (λ (y : Draft × List ℕ). Consumes text y.1) (ok_is (record d { obligations = d.obligations ++ v.value.0 ∷ [] }, v.value.1) x v.second) (literal_used kind.Number (length d.signals) text v.value v.first)
after_word_used entry.Name d text x e =
    let v = stepped (literal_at kind.Number (length d.signals) text) (λ literal. name_at literal.1 >>= λ name. Ok (record d { names = d.names ++ record { name = name.0; literal = literal.0 } ∷ [] }, name.1)) x e in
    let n = stepped (name_at v.value.1) (λ name. Ok (record d { names = d.names ++ record { name = name.0; literal = v.value.0 } ∷ [] }, name.1)) x v.second in
    subst (λ (y : Draft × List ℕ). Consumes text y.1) (ok_is (record d { names = d.names ++ record { name = n.value.0; literal = v.value.0 } ∷ [] }, n.value.1) x n.second)
    (then text v.value.1 n.value.1 (literal_used kind.Number (length d.signals) text v.value v.first) (name_used v.value.1 n.value n.first))
after_word_used entry.End d text x e =
    subst (λ (y : Draft × List ℕ). Consumes text y.1) (ok_is (record d { stage = stage.End }, text) x e) (record { used = []; parts = refl; inside = refl })

entry_inside : (g : Entry) → feeds (entry_word g) ≡ 0
unfolding line_feeds
entry_inside entry.Constraint = refl
entry_inside entry.Obligation = refl
entry_inside entry.Name = refl
entry_inside entry.End = refl

list_used : (d : Draft) (text : List ℕ) (x : Draft × List ℕ) → list_line_at d text ≡ Ok x → LineOf text x
unfolding list_line_at
list_used d text x e =
    let w = stepped (entry_at text) (λ word. cond (may_stand d word.0) (after_word d word.0 word.1) (Err kind.Word) >>= λ said. line_end said.1 >>= λ next. Ok (said.0, next)) x e in
    let y = stepped (cond (may_stand d w.value.0) (after_word d w.value.0 w.value.1) (Err kind.Word)) (λ said. line_end said.1 >>= λ next. Ok (said.0, next)) x w.second in
    let c = chosen (may_stand d w.value.0) (after_word d w.value.0 w.value.1) y.value kind.Word y.first in
    let l = stepped (line_end y.value.1) (λ next. Ok (y.value.0, next)) x y.second in
    let front : Consumes text w.value.1 = record { used = entry_word w.value.0; parts = entry_takes text w.value.0 w.value.1 w.first; inside = entry_inside w.value.0 } in
    subst (LineOf text) (ok_is (y.value.0, l.value) x l.second) (ended text y.value.1 l.value (then text w.value.1 y.value.1 front (after_word_used w.value.0 d w.value.1 y.value c.1)) l.first)

closing_used : (o : Option ℕ) (n : ℕ) (d : Draft) (text : List ℕ) (x : Draft × List ℕ) → closing n o d text ≡ Ok x → LineOf text x
closing_used (Some k) n d text x e = absurd cc
closing_used None n d text x e = assume_used d text x (in_line_ok n (assume_line_at d text) x e)

signals_used : (b : Bool) (n : ℕ) (d : Draft) (text : List ℕ) (x : Draft × List ℕ) → cond b (closing n (first_open d.signals) d text) (in_line n (next_signal_at d text)) ≡ Ok x → LineOf text x
signals_used true n d text x e = closing_used (first_open d.signals) n d text x e
signals_used false n d text x e = next_signal_used d text x (in_line_ok n (next_signal_at d text) x e)

pub some_line_used : (st : Stage) (n : ℕ) (d : Draft) (text : List ℕ) (x : Draft × List ℕ) → some_line_at st n d text ≡ Ok x → LineOf text x
unfolding signals_line_at
some_line_used stage.Header n d text x e = header_used d text x (in_line_ok n (header_line_at d text) x e)
some_line_used stage.Signals n d text x e = signals_used (ends_signals d text) n d text x e
some_line_used stage.Keep n d text x e = keep_used d text x (in_line_ok n (keep_line_at d text) x e)
some_line_used stage.Lists n d text x e = list_used d text x (in_line_ok n (list_line_at d text) x e)
some_line_used stage.End n d text x e = absurd cc
