-- What is spelled is read, line by line.
use Rattle.std.proofs.Common.{◌≡◌, ℕ, zero, suc, ◌+◌, ◌^◌, ◌<◌, Bool, true, false, List, [], ◌∷◌, ◌++◌, length, Some, None, Ok, refl, sym, ap, subst, ◌∙◌, append_assoc, inl, inr, arith}
use Rattle.std.specs.Prelude.{nat_eq, not, ◌&&◌, codes, decimal, All, Contains, slice_get, is_some}
use Rattle.std.specs.List.{flat_map, AllByRecursion, IsDistinct}
use Rattle.std.specs.Str.{bytes_eq}
use Rattle.std.proofs.lemmas.Bool.{lt-ltb, ne_eqb}
use Rattle.std.proofs.lemmas.Grind.{flat_map-append}
use Rattle.std.proofs.lemmas.Iterator.Adapters.{position_from-zero}
use Rattle.std.proofs.lemmas.List.{append-nil, length-append}
use Rattle.std.proofs.lemmas.List.Concat.{flat_map-cons}
use Rattle.std.proofs.lemmas.List.Elements.{All-from_recursion, All-head, All-tail, All-cons, Contains-append_cases}
use Rattle.std.proofs.lemmas.Map.Keys.{IsDistinct-head, IsDistinct-tail}
use Rattle.std.proofs.lemmas.Option.{none-some, same_Some, slice_get_within}
use Rattle.std.proofs.lemmas.Slice.Eq.{bytes_eq-Decides}
use Rattle.lll_core.specs.declared.lll.Lll.{Lll}
use Rattle.lll_core.specs.declared.signal.Named.{Named}
use Rattle.lll_core.specs.declared.signal.Signal.{Signal}
use Rattle.lll_core.specs.declared.signal.Signal.TheVariants.{One, Input, Latch, Imp, Eqv}
use Rattle.lll_core.specs.Signals.{signal_of, nexts, own_names, signal_names, NamesSignal, IsName, AreSignals}
use Rattle.lll_text.specs.declared.draft.Draft.{Draft}
use Rattle.lll_text.specs.declared.draft.Stage.TheVariants as stage
use Rattle.lll_text.specs.declared.fault.LllKind.TheVariants as kind
use Rattle.lll_text.specs.Spelling.{line, number_field, name_field, form, signal_line, signal_lines, literal_line, name_line, list_lines, spelling}
use Rattle.lll_text.specs.Fields.{after, is_digit, begins_number}
use Rattle.lll_text.specs.Lines.{no_lines, header_line_at, next_signal_at, literal_line_at, assume_line_at, keep_line_at, entry_at, is_empty, constraint_at, obligation_at, naming_at, list_line_at, is_open, first_open, ends_signals, signals_line_at, some_line_at, line_at, after_lines}
use Rattle.lll_core.proofs.ListLemmas.{place_of}
use Rattle.lll_text.proofs.Numbers.{due_again, literal_again, name_again, begins_decimal}
use Rattle.lll_text.proofs.Signals.{Follows, regroup3, regroup4, signal_line_again}
use Rattle.lll_text.proofs.Reached.{no_position}

-- ---- lists

mid : {X : Type 0} (P : X → Type 0) (xs ys : List X) (y : X) → AllByRecursion P (xs ++ y ∷ ys) → P y
mid P [] ys y h = h.0
mid P (x ∷ xs) ys y h = mid P xs ys y h.1

slice_get-mid : {X : Type 0} (xs ys : List X) (y : X) → slice_get (xs ++ y ∷ ys) (length xs) ≡ Some y
slice_get-mid [] ys y = refl
slice_get-mid (x ∷ xs) ys y = slice_get-mid xs ys y

to_recursion : {X : Type 0} (P : X → Type 0) (xs : List X) → All P xs → AllByRecursion P xs
to_recursion P [] h = tt
to_recursion P (x ∷ xs) h = (All-head P x xs h, to_recursion P xs (All-tail P x xs h))

All-left : {X : Type 0} (P : X → Type 0) (xs ys : List X) → All P (xs ++ ys) → All P xs
All-left P [] ys h = All-from_recursion P [] tt
All-left P (x ∷ xs) ys h = All-cons P x xs (All-head P x (xs ++ ys) h) (All-left P xs ys (All-tail P x (xs ++ ys) h))

All-right : {X : Type 0} (P : X → Type 0) (xs ys : List X) → All P (xs ++ ys) → All P ys
All-right P [] ys h = h
All-right P (x ∷ xs) ys h = All-right P xs ys (All-tail P x (xs ++ ys) h)

same_item : {X : Type 0} (x y : X) (n : ℕ) → slice_get (x ∷ []) n ≡ Some y → x ≡ y
same_item x y zero e = same_Some x y e
same_item x y (suc n) e = absurd (none-some y e)

differs : (x y : List ℕ) → bytes_eq x y ≡ false → x ≡ y → ⊥
differs x y f e = let t = (bytes_eq-Decides x y).1 e in cc

-- a name after others that all differ from it is none of them
is_new : (names : List (List ℕ)) (name : List ℕ) (more : List (List ℕ)) → IsDistinct bytes_eq (names ++ name ∷ more) → Contains names name → ⊥
is_new [] name more d there = absurd (let p = place_of [] name there in none-some name p.1)
is_new (x ∷ names) name more d there =
    elim (Contains-append_cases (x ∷ []) names name there) [
      | inl here ↦ let p = place_of (x ∷ []) name here in differs x name (mid (λ y. bytes_eq x y ≡ false) names more name (IsDistinct-head bytes_eq x (names ++ name ∷ more) d)) (same_item x name p.0 p.1)
      | inr later ↦ is_new names name more (IsDistinct-tail bytes_eq x (names ++ name ∷ more) d) later
    ]

are_new : (s : Signal) (names more : List (List ℕ)) → IsDistinct bytes_eq (names ++ (own_names s ++ more)) → All (λ name. Contains names name → ⊥) (own_names s)
are_new One names more d = All-from_recursion (λ name. Contains names name → ⊥) [] tt
are_new (Input name) names more d = All-from_recursion (λ n. Contains names n → ⊥) (name ∷ []) (is_new names name more d, tt)
are_new (Latch name init next) names more d = All-from_recursion (λ n. Contains names n → ⊥) (name ∷ []) (is_new names name more d, tt)
are_new (Imp a b) names more d = All-from_recursion (λ name. Contains names name → ⊥) [] tt
are_new (Eqv a b) names more d = All-from_recursion (λ name. Contains names name → ⊥) [] tt

-- ---- lines, one after another

-- a text is read up to here
pub record Reads (text : List ℕ) (d : Draft) (rest : List ℕ) : Type 0 where
  pub lines : ℕ
  pub reads : after_lines lines text ≡ Ok (d, rest)

next_line : (text : List ℕ) (d now : Draft) (rest after : List ℕ) (r : Reads text d rest) → ((n : ℕ) → line_at n d rest ≡ Ok (now, after)) → Reads text now after
unfolding after_lines
next_line text d now rest after r h = record { lines = suc r.lines; reads = rw r.reads (h (r.lines + 1)) }

line_at_some : (n : ℕ) (d : Draft) (text : List ℕ) → begins_number text ≡ true → line_at n d text ≡ some_line_at d.stage n d text
unfolding line_at
line_at_some n d [] e = absurd cc
line_at_some n d (b ∷ bs) e = refl

-- ---- the first line

header_reads : (rest : List ℕ) → Reads (line (codes "lll 1") ++ rest) (record no_lines { stage = stage.Signals }) rest
unfolding after_lines line_at header_line_at after
header_reads rest = record { lines = 1; reads = refl }

-- ---- the signals' lines

abbrev with_signals : List Signal → Draft
with_signals signals = record no_lines { stage = stage.Signals; signals = signals }

no_assume : (text : List ℕ) → begins_number text ≡ true → after (codes "assume") text ≡ None
unfolding after
no_assume [] e = refl
no_assume (b ∷ bs) e =
    let other : nat_eq b 97 ≡ false = ne_eqb b 97 (λ h. absurd (let d : is_digit 97 ≡ true = subst (λ x. is_digit x ≡ true) h e in cc)) in
    rw other refl

and_false : (b : Bool) → (b && false) ≡ false
and_false true = refl
and_false false = refl

small : (signals : List Signal) (s : Signal) → length signals < 2 ^ 31 → All (NamesSignal signals) (nexts s) → All (λ a. a < 2 ^ 32) (nexts s)
small signals s few h = λ k d lt. let there = h k d lt in omega arith

follows : (front : List Signal) (s : Signal) (more : List Signal) → AreSignals (front ++ s ∷ more) → Follows (length front) (signal_names front) s
follows front s more h =
    let split : signal_names (front ++ s ∷ more) ≡ signal_names front ++ (own_names s ++ signal_names more) =
    flat_map-append own_names front (s ∷ more) ∙ ap (λ names. signal_names front ++ names) (flat_map-cons own_names s more) in
    record {
      lower = h.lower (length front) s (slice_get-mid front more s);
      named = All-left IsName (own_names s) (signal_names more) (All-right IsName (signal_names front) (own_names s ++ signal_names more) (subst (All IsName) split h.named));
      new = are_new s (signal_names front) (signal_names more) (subst (IsDistinct bytes_eq) split h.distinct);
    }

signal_reads : (front : List Signal) (s : Signal) (more : List Signal) (n : ℕ) (rest : List ℕ) → AreSignals (front ++ s ∷ more) → line_at n (with_signals front) (signal_line (length front) s ++ rest) ≡ Ok (with_signals (front ++ s ∷ []), rest)
unfolding signals_line_at next_signal_at
signal_reads front s more n rest h =
    let at = slice_get-mid front more s in
    let within = slice_get_within (front ++ s ∷ more) (length front) s at in
    let few : length front + 1 < 2 ^ 31 = omega (arith, within, h.few) in
    let text = signal_line (length front) s ++ rest in
    let digit : begins_number text ≡ true = ap begins_number (regroup3 (decimal (length front)) (form s) (codes "\n") rest) ∙ begins_decimal (length front) (form s ++ 10 ∷ rest) (omega arith) in
    let goes_on : ends_signals (with_signals front) text ≡ false = ap (λ o. not (is_empty front) && is_some o) (no_assume text digit) ∙ and_false (not (is_empty front)) in
    let read = signal_line_again (length front) (signal_names front) s rest few (h.one (length front) s at) (follows front s more h) (small (front ++ s ∷ more) s h.few (h.next (length front) s at)) in
    line_at_some n (with_signals front) text digit ∙ rw (goes_on, read) refl

signals_read : (ss front : List Signal) (text rest : List ℕ) → AreSignals (front ++ ss) → Reads text (with_signals front) (signal_lines (length front) ss ++ rest) → Reads text (with_signals (front ++ ss)) rest
unfolding signal_lines
signals_read [] front text rest h r = subst (λ signals. Reads text (with_signals signals) rest) (sym (append-nil front)) r
signals_read (s ∷ ss) front text rest h r =
    let whole : (front ++ s ∷ []) ++ ss ≡ front ++ s ∷ ss = append_assoc front (s ∷ []) ss in
    let more = signal_lines (length (front ++ s ∷ [])) ss in
    let count : length front + 1 ≡ length (front ++ s ∷ []) = omega (arith, length-append front (s ∷ [])) in
    let here : Reads text (with_signals front) (signal_line (length front) s ++ (more ++ rest)) =
    subst (λ t. Reads text (with_signals front) t) (append_assoc (signal_line (length front) s) (signal_lines (length front + 1) ss) rest ∙ ap (λ k. signal_line (length front) s ++ (signal_lines k ss ++ rest)) count) r in
    subst (λ signals. Reads text (with_signals signals) rest) whole
    (signals_read ss (front ++ s ∷ []) text rest (subst AreSignals (sym whole) h)
    (next_line text (with_signals front) (with_signals (front ++ s ∷ [])) (signal_line (length front) s ++ (more ++ rest)) (more ++ rest) here (λ n. signal_reads front s ss n (more ++ rest) h)))

-- ---- a word and a literal

literal_line_again : (word : List ℕ) (count v : ℕ) (rest : List ℕ) → count < 2 ^ 31 → signal_of v < count → literal_line_at word count (literal_line word v ++ rest) ≡ Ok (v, rest)
unfolding literal_line_at
literal_line_again word count v rest few there =
    ap (literal_line_at word count) (regroup3 word (number_field v) (codes "\n") rest)
    ∙ rw (due_again kind.Word word (number_field v ++ 10 ∷ rest), literal_again kind.Number count v (10 ∷ rest) few there refl, due_again kind.Ending (codes "\n") rest) refl

abbrev with_assume : List Signal → ℕ → Draft
with_assume signals assume = record no_lines { stage = stage.Keep; signals = signals; assume = assume }

is_not_open : (signals : List Signal) (s : Signal) → All (NamesSignal signals) (nexts s) → is_open (length signals) s ≡ false
is_not_open signals One h = refl
is_not_open signals (Input name) h = refl
is_not_open signals (Latch name init next) h = ap not (lt-ltb _ _ (All-head (NamesSignal signals) next [] h))
is_not_open signals (Imp a b) h = refl
is_not_open signals (Eqv a b) h = refl

none_open : (signals : List Signal) → AreSignals signals → first_open signals ≡ None
none_open signals h = position_from-zero (is_open (length signals)) signals ∙ no_position (is_open (length signals)) 0 signals (λ n s at. is_not_open signals s (h.next n s at))

not_empty : (signals : List Signal) → 0 < length signals → not (is_empty signals) ≡ true
not_empty [] some = absurd (omega arith)
not_empty (s ∷ signals) some = refl

assume_reads : (signals : List Signal) (v n : ℕ) (rest : List ℕ) → AreSignals signals → NamesSignal signals v → line_at n (with_signals signals) (literal_line (codes "assume") v ++ rest) ≡ Ok (with_assume signals v, rest)
unfolding line_at signals_line_at after assume_line_at
assume_reads signals v n rest h there =
    let read = literal_line_again (codes "assume") (length signals) v rest h.few there in
    rw (not_empty signals h.some, none_open signals h, read) refl

abbrev with_keep : List Signal → ℕ → ℕ → Draft
with_keep signals assume keep = record no_lines { stage = stage.Lists; signals = signals; assume = assume; keep = keep }

keep_reads : (signals : List Signal) (assume v n : ℕ) (rest : List ℕ) → AreSignals signals → NamesSignal signals v → line_at n (with_assume signals assume) (literal_line (codes "keep") v ++ rest) ≡ Ok (with_keep signals assume v, rest)
unfolding line_at keep_line_at
keep_reads signals assume v n rest h there =
    let read = literal_line_again (codes "keep") (length signals) v rest h.few there in
    rw read refl

-- ---- the lists

-- lines of one kind, one after another
list_reads : {X : Type 0} (draft : List X → Draft) (spell : X → List ℕ) (P : X → Type 0)
    (step : (n : ℕ) (front : List X) (x : X) (rest : List ℕ) → P x → line_at n (draft front) (spell x ++ rest) ≡ Ok (draft (front ++ x ∷ []), rest))
    → (xs front : List X) (text rest : List ℕ) → AllByRecursion P xs → Reads text (draft front) (flat_map spell xs ++ rest) → Reads text (draft (front ++ xs)) rest
list_reads draft spell P step [] front text rest h r = subst (λ xs. Reads text (draft xs) rest) (sym (append-nil front)) r
list_reads {X} draft spell P step (x ∷ xs) front text rest h r =
    let whole : (front ++ x ∷ []) ++ xs ≡ front ++ x ∷ xs = append_assoc front (x ∷ []) xs in
    let here : Reads text (draft front) (spell x ++ (flat_map spell xs ++ rest)) =
    subst (λ t. Reads text (draft front) t) (ap (λ (t : List ℕ). t ++ rest) (flat_map-cons spell x xs) ∙ append_assoc (spell x) (flat_map spell xs) rest) r in
    subst (λ ys. Reads text (draft ys) rest) whole
    (list_reads draft spell P step xs (front ++ x ∷ []) text rest h.1
    (next_line text (draft front) (draft (front ++ x ∷ [])) (spell x ++ (flat_map spell xs ++ rest)) (flat_map spell xs ++ rest) here (λ n. step n front x (flat_map spell xs ++ rest) h.0)))

abbrev with_lists : List Signal → ℕ → ℕ → List ℕ → List ℕ → List Named → Draft
with_lists signals assume keep constraints obligations names =
    record { stage = stage.Lists; signals = signals; assume = assume; keep = keep; constraints = constraints; obligations = obligations; names = names }

constraint_reads : (signals : List Signal) (assume keep n : ℕ) (front : List ℕ) (v : ℕ) (rest : List ℕ) → length signals < 2 ^ 31 → NamesSignal signals v
    → line_at n (with_lists signals assume keep front [] []) (literal_line (codes "constraint") v ++ rest) ≡ Ok (with_lists signals assume keep (front ++ v ∷ []) [] [], rest)
unfolding line_at list_line_at entry_at after constraint_at
constraint_reads signals assume keep n front v rest few there =
    let d = with_lists signals assume keep front [] [] in
    ap (line_at n d) (regroup3 (codes "constraint") (number_field v) (codes "\n") rest)
    ∙ rw (literal_again kind.Number (length signals) v (10 ∷ rest) few there refl) refl

obligation_reads : (signals : List Signal) (assume keep n : ℕ) (cs front : List ℕ) (v : ℕ) (rest : List ℕ) → length signals < 2 ^ 31 → NamesSignal signals v
    → line_at n (with_lists signals assume keep cs front []) (literal_line (codes "obligation") v ++ rest) ≡ Ok (with_lists signals assume keep cs (front ++ v ∷ []) [], rest)
unfolding line_at list_line_at entry_at after obligation_at
obligation_reads signals assume keep n cs front v rest few there =
    let d = with_lists signals assume keep cs front [] in
    ap (line_at n d) (regroup3 (codes "obligation") (number_field v) (codes "\n") rest)
    ∙ rw (literal_again kind.Number (length signals) v (10 ∷ rest) few there refl) refl

record IsNaming (signals : List Signal) (m : Named) : Type 0 where
  there : NamesSignal signals m.literal
  named : IsName m.name

naming_reads : (signals : List Signal) (assume keep n : ℕ) (cs os : List ℕ) (front : List Named) (m : Named) (rest : List ℕ) → length signals < 2 ^ 31 → IsNaming signals m
    → line_at n (with_lists signals assume keep cs os front) (name_line m ++ rest) ≡ Ok (with_lists signals assume keep cs os (front ++ m ∷ []), rest)
unfolding line_at list_line_at entry_at after naming_at
naming_reads signals assume keep n cs os front m rest few h =
    let d = with_lists signals assume keep cs os front in
    ap (line_at n d) (regroup4 (codes "name") (number_field m.literal) (name_field m.name) (codes "\n") rest)
    ∙ rw (literal_again kind.Number (length signals) m.literal (name_field m.name ++ 10 ∷ rest) few h.there refl, name_again m.name rest h.named) refl

end_reads : (signals : List Signal) (assume keep n : ℕ) (cs os : List ℕ) (ns : List Named)
    → line_at n (with_lists signals assume keep cs os ns) (line (codes "end")) ≡ Ok (record (with_lists signals assume keep cs os ns) { stage = stage.End }, [])
unfolding line_at list_line_at entry_at after
end_reads signals assume keep n cs os ns = refl

-- ---- the whole text

-- what its lines say of a value
abbrev pub draft_of : Lll → Draft
draft_of l = record { stage = stage.End; signals = l.signals; assume = l.assume; keep = l.keep; constraints = l.constraints; obligations = l.obligations; names = l.names }

namings : (signals : List Signal) (ns : List Named) → All (λ n. NamesSignal signals n.literal) ns → All (λ n. IsName n.name) ns → AllByRecursion (IsNaming signals) ns
namings signals [] t h = tt
namings signals (n ∷ ns) t h = (
  record { there = All-head (λ m. NamesSignal signals m.literal) n ns t; named = All-head (λ m. IsName m.name) n ns h },
  namings signals ns (All-tail (λ m. NamesSignal signals m.literal) n ns t) (All-tail (λ m. IsName m.name) n ns h),
)

regrouped : (h s a k c o n e : List ℕ) → ((((h ++ s) ++ a) ++ k) ++ ((c ++ o) ++ n)) ++ e ≡ h ++ (s ++ (a ++ (k ++ (c ++ (o ++ (n ++ e))))))
regrouped h s a k c o n e = simp append_assoc

-- the spelling of a value is read to its end
pub is_read : (l : Lll) → Reads (spelling l) (draft_of l) []
unfolding spelling list_lines
is_read l =
    let f = l.is_lll in
    let ss = l.signals in
    let lines_c = flat_map (literal_line (codes "constraint")) l.constraints in
    let lines_o = flat_map (literal_line (codes "obligation")) l.obligations in
    let lines_n = flat_map name_line l.names in
    let last = line (codes "end") in
    let after_lists = lines_c ++ (lines_o ++ (lines_n ++ last)) in
    let text = line (codes "lll 1") ++ (signal_lines 0 ss ++ (literal_line (codes "assume") l.assume ++ (literal_line (codes "keep") l.keep ++ after_lists))) in
    let r1 = signals_read ss [] text (literal_line (codes "assume") l.assume ++ (literal_line (codes "keep") l.keep ++ after_lists)) f.are_signals (header_reads (signal_lines 0 ss ++ (literal_line (codes "assume") l.assume ++ (literal_line (codes "keep") l.keep ++ after_lists)))) in
    let r2 = next_line text (with_signals ss) (with_assume ss l.assume) (literal_line (codes "assume") l.assume ++ (literal_line (codes "keep") l.keep ++ after_lists)) (literal_line (codes "keep") l.keep ++ after_lists) r1
    (λ n. assume_reads ss l.assume n (literal_line (codes "keep") l.keep ++ after_lists) f.are_signals f.assume_there) in
    let r3 = next_line text (with_assume ss l.assume) (with_keep ss l.assume l.keep) (literal_line (codes "keep") l.keep ++ after_lists) after_lists r2 (λ n. keep_reads ss l.assume l.keep n after_lists f.are_signals f.keep_there) in
    let r4 = list_reads (λ cs. with_lists ss l.assume l.keep cs [] []) (literal_line (codes "constraint")) (NamesSignal ss) (λ n front v rest h. constraint_reads ss l.assume l.keep n front v rest f.are_signals.few h)
    l.constraints [] text (lines_o ++ (lines_n ++ last)) (to_recursion (NamesSignal ss) l.constraints f.constraints_there) r3 in
    let r5 = list_reads (λ os. with_lists ss l.assume l.keep l.constraints os []) (literal_line (codes "obligation")) (NamesSignal ss) (λ n front v rest h. obligation_reads ss l.assume l.keep n l.constraints front v rest f.are_signals.few h)
    l.obligations [] text (lines_n ++ last) (to_recursion (NamesSignal ss) l.obligations f.obligations_there) r4 in
    let r6 = list_reads (λ ns. with_lists ss l.assume l.keep l.constraints l.obligations ns) name_line (IsNaming ss) (λ n front m rest h. naming_reads ss l.assume l.keep n l.constraints l.obligations front m rest f.are_signals.few h)
    l.names [] text last (namings ss l.names f.names_there f.named) r5 in
    let r7 = next_line text (with_lists ss l.assume l.keep l.constraints l.obligations l.names) (draft_of l) last [] r6 (λ n. end_reads ss l.assume l.keep n l.constraints l.obligations l.names) in
    subst (λ t. Reads t (draft_of l) []) (sym (regrouped (line (codes "lll 1")) (signal_lines 0 ss) (literal_line (codes "assume") l.assume) (literal_line (codes "keep") l.keep) lines_c lines_o lines_n last)) r7
