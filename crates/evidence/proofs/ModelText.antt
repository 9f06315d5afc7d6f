-- The text of a model, with what follows it, tells the model: its last line is the first that begins with `e`.
use Rattle.std.proofs.Common.{◌≡◌, ℕ, suc, ◌+◌, ◌^◌, ◌<◌, ◌≤◌, Bool, true, false, List, [], ◌∷◌, ◌++◌, length, Some, slice_get, get_or, refl, sym, ap, subst, ◌∙◌, append_assoc, if◌then◌else◌, arith}
use Rattle.std.specs.Prelude.{nat_eq, not, ◌&&◌, decimal, codes, All}
use Rattle.std.specs.List.{flat_map, AllByRecursion}
use Rattle.std.proofs.lemmas.Bool.{ne_eqb}
use Rattle.std.proofs.lemmas.List.Concat.{flat_map-cons}
use Rattle.std.proofs.lemmas.List.Elements.{All-nil, All-cons, All-head, All-tail, All-weaker}
use Rattle.std.proofs.lemmas.List.Sums.{list_all-from_AllPass}
use Rattle.std.proofs.lemmas.Option.{slice_get_within}
use Rattle.lll_core.specs.declared.lll.Lll.{Lll}
use Rattle.lll_core.specs.declared.signal.Named.{Named}
use Rattle.lll_core.specs.declared.signal.Signal.{Signal}
use Rattle.lll_core.specs.declared.signal.Signal.TheVariants.{One, Input, Latch, Imp, Eqv}
use Rattle.lll_core.specs.Signals.{signal_of, operands, nexts, own_names, signal_names, NamesSignal, IsName, AreSignals}
use Rattle.lll_text.specs.Fields.{is_digit, begins_number}
use Rattle.lll_text.specs.Spelling.{line, number_field, name_field, form, signal_line, signal_lines, literal_line, name_line, list_lines, spelling}
use Rattle.lll_text.proofs.Numbers.{begins_decimal}
use Rattle.lll_text.proofs.OneReading.{spelling-injective}
use Rattle.evidence.proofs.Cutting.{avoids, avoids-append, avoids-number, avoids-decimal, same_fronts}

-- ---- what follows the first line that begins with `e`

pub data Mode : Type 0 where
  start : Mode
  inside : Mode
  last : Mode

unfoldable pub after_last : Mode → List ℕ → List ℕ
after_last mode [] = []
after_last start (b ∷ bs) = if nat_eq b 101 then after_last last bs else (if nat_eq b 10 then after_last start bs else after_last inside bs)
after_last inside (b ∷ bs) = if nat_eq b 10 then after_last start bs else after_last inside bs
after_last last (b ∷ bs) = if nat_eq b 10 then bs else after_last last bs

-- whole lines, none of which begins so
abbrev IsBody : List ℕ → Type 0
IsBody text = (rest : List ℕ) → after_last start (text ++ rest) ≡ after_last start rest

parts : (v w : Bool) → (v && w) ≡ true → (v ≡ true) × (w ≡ true)
parts true w e = (refl, e)
parts false w e = absurd cc

is_false : (v : Bool) → not v ≡ true → v ≡ false
is_false true e = absurd cc
is_false false e = refl

inside_line : (xs rest : List ℕ) → avoids 10 xs ≡ true → after_last inside (xs ++ 10 ∷ rest) ≡ after_last start rest
unfolding after_last
inside_line [] rest e = refl
inside_line (x ∷ xs) rest e =
    let h = parts (not (nat_eq x 10)) (avoids 10 xs) e in
    rw (is_false (nat_eq x 10) h.0) (inside_line xs rest h.1)

-- whether the text begins with another byte than `e`
abbrev begins_other : List ℕ → Bool
begins_other [] = false
begins_other (b ∷ bs) = not (nat_eq b 101)

line_is_body : (xs : List ℕ) → begins_other xs ≡ true → avoids 10 xs ≡ true → IsBody (line xs)
unfolding after_last
line_is_body [] begins e rest = absurd cc
line_is_body (x ∷ xs) begins e rest =
    let h = parts (not (nat_eq x 10)) (avoids 10 xs) e in
    ap (after_last start) (append_assoc (x ∷ xs) (codes "\n") rest)
    ∙ rw (is_false (nat_eq x 101) begins, is_false (nat_eq x 10) h.0) (inside_line xs rest h.1)

body-append : (xs ys : List ℕ) → IsBody xs → IsBody ys → IsBody (xs ++ ys)
body-append xs ys f g rest = ap (after_last start) (append_assoc xs ys rest) ∙ f (ys ++ rest) ∙ g rest

body-flat_map : {X : Type 0} (P : X → Type 0) (f : X → List ℕ) (xs : List X) → ((x : X) → P x → IsBody (f x)) → All P xs → IsBody (flat_map f xs)
body-flat_map P f [] each all rest = refl
body-flat_map P f (x ∷ xs) each all rest =
    ap (λ (t : List ℕ). after_last start (t ++ rest)) (flat_map-cons f x xs)
    ∙ body-append (f x) (flat_map f xs) (each x (All-head P x xs all)) (body-flat_map P f xs each (All-tail P x xs all)) rest

-- ---- the lines of a model

printable : (b : ℕ) → (0x20 ≤ b) × (b ≤ 0x7E) → not (nat_eq b 10) ≡ true
printable b h = ap not (ne_eqb b 10 (λ same. absurd (omega (arith, h.0, same))))

avoids-name : (name : List ℕ) → IsName name → avoids 10 (name_field name) ≡ true
avoids-name name h = list_all-from_AllPass (λ b. not (nat_eq b 10)) name (λ k d lt. printable (get_or name k d) (h.printable k d lt))

avoids-literal : (x count : ℕ) → count < 2 ^ 31 → signal_of x < count → avoids 10 (number_field x) ≡ true
avoids-literal x count few there = avoids-number 10 x refl refl (omega arith)

avoids-gate : (count : ℕ) (word : List ℕ) (a b : ℕ) → count < 2 ^ 31 → avoids 10 word ≡ true → All (λ x. signal_of x < count) (a ∷ b ∷ []) → avoids 10 (word ++ number_field a ++ number_field b) ≡ true
avoids-gate count word a b few w h =
    avoids-append 10 (word ++ number_field a) (number_field b)
    (avoids-append 10 word (number_field a) w (avoids-literal a count few (All-head (λ x. signal_of x < count) a (b ∷ []) h)))
    (avoids-literal b count few (All-head (λ x. signal_of x < count) b [] (All-tail (λ x. signal_of x < count) a (b ∷ []) h)))

-- what a signal's line asks of it
record IsLine (count : ℕ) (s : Signal) : Type 0 where
  operands : All (λ x. signal_of x < count) (operands s)
  nexts : All (λ x. signal_of x < count) (nexts s)
  named : All IsName (own_names s)

avoids-form : (count : ℕ) (s : Signal) → count < 2 ^ 31 → IsLine count s → avoids 10 (form s) ≡ true
unfolding form
avoids-form count One few h = refl
avoids-form count (Input name) few h = avoids-append 10 (codes " input") (name_field name) refl (avoids-name name (All-head IsName name [] h.named))
avoids-form count (Latch name init next) few h =
    avoids-append 10 (codes " latch" ++ number_field init ++ number_field next) (name_field name)
    (avoids-append 10 (codes " latch" ++ number_field init) (number_field next)
    (avoids-append 10 (codes " latch") (number_field init) refl (avoids-literal init count few (All-head (λ x. signal_of x < count) init [] h.operands)))
    (avoids-literal next count few (All-head (λ x. signal_of x < count) next [] h.nexts)))
    (avoids-name name (All-head IsName name [] h.named))
avoids-form count (Imp a b) few h = avoids-gate count (codes " imp") a b few refl h.operands
avoids-form count (Eqv a b) few h = avoids-gate count (codes " eqv") a b few refl h.operands

digit_other : (b : ℕ) → is_digit b ≡ true → not (nat_eq b 101) ≡ true
digit_other b digit = ap not (ne_eqb b 101 (λ same. let t : is_digit 101 ≡ true = ap is_digit (sym same) ∙ digit in absurd cc))

number_other : (xs : List ℕ) → begins_number xs ≡ true → begins_other xs ≡ true
number_other [] e = absurd cc
number_other (b ∷ bs) e = digit_other b e

signals_body : (n count : ℕ) (ss : List Signal) → n + length ss < 2 ^ 32 → count < 2 ^ 31 → AllByRecursion (IsLine count) ss → IsBody (signal_lines n ss)
unfolding signal_lines
signals_body n count [] short few h = λ rest. refl
signals_body n count (s ∷ ss) short few h =
    let content = decimal n ++ form s in
    let begins = number_other content (begins_decimal n (form s) (omega (arith, short))) in
    let inside = avoids-append 10 (decimal n) (form s) (avoids-decimal 10 n refl (omega (arith, short))) (avoids-form count s few h.0) in
    body-append (signal_line n s) (signal_lines (n + 1) ss) (line_is_body content begins inside) (signals_body (n + 1) count ss (omega (arith, short)) few h.1)

-- ---- what a model keeps, signal by signal

All-left : {X : Type 0} (P : X → Type 0) (xs ys : List X) → All P (xs ++ ys) → All P xs
All-left P [] ys h = All-nil P
All-left P (x ∷ xs) ys h = All-cons P x xs (All-head P x (xs ++ ys) h) (All-left P xs ys (All-tail P x (xs ++ ys) h))

All-right : {X : Type 0} (P : X → Type 0) (xs ys : List X) → All P (xs ++ ys) → All P ys
All-right P [] ys h = h
All-right P (x ∷ xs) ys h = All-right P xs ys (All-tail P x (xs ++ ys) h)

lines : (count n : ℕ) (ss : List Signal) → ((k : ℕ) (s : Signal) → slice_get ss k ≡ Some s → All (λ x. signal_of x < count) (operands s))
    → ((k : ℕ) (s : Signal) → slice_get ss k ≡ Some s → All (λ x. signal_of x < count) (nexts s)) → All IsName (signal_names ss) → AllByRecursion (IsLine count) ss
lines count n [] low next named = tt
lines count n (s ∷ ss) low next named =
    let split : All IsName (own_names s ++ signal_names ss) = subst (All IsName) (flat_map-cons own_names s ss) named in (
      record { operands = low 0 s refl; nexts = next 0 s refl; named = All-left IsName (own_names s) (signal_names ss) split },
      lines count n ss (λ k. low (suc k)) (λ k. next (suc k)) (All-right IsName (own_names s) (signal_names ss) split),
    )

are_lines : (ss : List Signal) → AreSignals ss → AllByRecursion (IsLine (length ss)) ss
are_lines ss h = lines (length ss) 0 ss
    (λ k s at. All-weaker (λ x. signal_of x < k) (λ x. signal_of x < length ss) (λ x lt. omega (arith, lt, slice_get_within ss k s at)) (operands s) (h.lower k s at))
    (λ k s at. h.next k s at) h.named

-- ---- the whole

literal_body : (word : List ℕ) (count x : ℕ) → begins_other word ≡ true → avoids 10 word ≡ true → count < 2 ^ 31 → signal_of x < count → IsBody (literal_line word x)
literal_body [] count x begins within few there = absurd cc
literal_body (b ∷ word) count x begins within few there =
    line_is_body (b ∷ word ++ number_field x) begins (avoids-append 10 (b ∷ word) (number_field x) within (avoids-literal x count few there))

record IsNaming (count : ℕ) (n : Named) : Type 0 where
  there : signal_of n.literal < count
  named : IsName n.name

namings : (count : ℕ) (ns : List Named) → All (λ n. signal_of n.literal < count) ns → All (λ n. IsName n.name) ns → All (IsNaming count) ns
namings count ns t h = λ k d lt. record { there = t k d lt; named = h k d lt }

name_body : (count : ℕ) (n : Named) → count < 2 ^ 31 → IsNaming count n → IsBody (name_line n)
name_body count n few h =
    line_is_body (codes "name" ++ number_field n.literal ++ name_field n.name) refl
    (avoids-append 10 (codes "name" ++ number_field n.literal) (name_field n.name) (avoids-append 10 (codes "name") (number_field n.literal) refl (avoids-literal n.literal count few h.there)) (avoids-name n.name h.named))

lists_body : (l : Lll) → IsBody (list_lines l.constraints l.obligations l.names)
unfolding list_lines
lists_body l =
    let f = l.is_lll in
    let count = length l.signals in
    let few = f.are_signals.few in
    let There = NamesSignal l.signals in
    let of_constraints = flat_map (literal_line (codes "constraint")) l.constraints in
    let of_obligations = flat_map (literal_line (codes "obligation")) l.obligations in
    body-append (of_constraints ++ of_obligations) (flat_map name_line l.names)
    (body-append of_constraints of_obligations
    (body-flat_map There (literal_line (codes "constraint")) l.constraints (λ x there. literal_body (codes "constraint") count x refl refl few there) f.constraints_there)
    (body-flat_map There (literal_line (codes "obligation")) l.obligations (λ x there. literal_body (codes "obligation") count x refl refl few there) f.obligations_there))
    (body-flat_map (IsNaming count) name_line l.names (λ n h. name_body count n few h) (namings count l.names f.names_there f.named))

-- all lines but the last
abbrev pub body : Lll → List ℕ
body l = line (codes "lll 1") ++ signal_lines 0 l.signals ++ literal_line (codes "assume") l.assume ++ literal_line (codes "keep") l.keep ++ list_lines l.constraints l.obligations l.names

is_body : (l : Lll) → IsBody (body l)
is_body l =
    let f = l.is_lll in
    let ss = l.signals in
    let few = f.are_signals.few in
    let head = line (codes "lll 1") in
    let of_signals = signal_lines 0 ss in
    let of_assume = literal_line (codes "assume") l.assume in
    let of_keep = literal_line (codes "keep") l.keep in
    body-append (head ++ of_signals ++ of_assume ++ of_keep) (list_lines l.constraints l.obligations l.names)
    (body-append (head ++ of_signals ++ of_assume) of_keep
    (body-append (head ++ of_signals) of_assume
    (body-append head of_signals (line_is_body (codes "lll 1") refl refl) (signals_body 0 (length ss) ss (omega (arith, few)) few (are_lines ss f.are_signals)))
    (literal_body (codes "assume") (length ss) l.assume refl refl few f.assume_there))
    (literal_body (codes "keep") (length ss) l.keep refl refl few f.keep_there))
    (lists_body l)

pub what_follows : (l : Lll) (rest : List ℕ) → after_last start (spelling l ++ rest) ≡ rest
unfolding spelling after_last
what_follows l rest = ap (after_last start) (append_assoc (body l) (line (codes "end")) rest) ∙ is_body l (line (codes "end") ++ rest)

pub models_told : (l m : Lll) (r s : List ℕ) → spelling l ++ r ≡ spelling m ++ s → (l ≡ m) × (r ≡ s)
models_told l m r s e =
    let same : r ≡ s = sym (what_follows l r) ∙ ap (after_last start) e ∙ what_follows m s in
    (spelling-injective l m (same_fronts (spelling l) (spelling m) r s same e), same)
