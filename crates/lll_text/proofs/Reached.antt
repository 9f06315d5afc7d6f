-- What the lines of a text say is spelled by them.
use Rattle.std.proofs.Common.{◌≡◌, ℕ, zero, suc, ◌+◌, ◌^◌, ◌<◌, Bool, true, false, cond, List, [], ◌∷◌, ◌++◌, length, Option, Some, None, Result, Ok, Err, refl, sym, ap, subst, ◌∙◌, append_assoc, inl, inr, arith}
use Rattle.std.specs.Prelude.{nat_lt, not, ◌&&◌, codes, All, slice_get, position, is_some}
use Rattle.std.specs.List.{flat_map, position_from}
use Rattle.std.proofs.lemmas.Iterator.Adapters.{position_from-zero}
use Rattle.std.proofs.lemmas.List.Concat.{flat_map-cons}
use Rattle.std.proofs.lemmas.Bool.{ltb-true}
use Rattle.std.proofs.lemmas.Grind.{flat_map-append}
use Rattle.std.proofs.lemmas.List.{append-nil}
use Rattle.std.proofs.lemmas.List.Elements.{All-from_recursion, All-head, All-append}
use Rattle.std.proofs.lemmas.Option.{none-some, same_Some}
use Rattle.lll_core.specs.declared.signal.Named.{Named}
use Rattle.lll_core.specs.declared.signal.Signal.{Signal}
use Rattle.lll_core.specs.declared.signal.Signal.TheVariants.{One, Input, Latch, Imp, Eqv}
use Rattle.lll_core.specs.Signals.{signal_of, nexts, signal_names, NamesSignal, IsName, IsLll}
use Rattle.lll_text.specs.declared.draft.Draft.{Draft}
use Rattle.lll_text.specs.declared.draft.Stage.{Stage}
use Rattle.lll_text.specs.declared.draft.Stage.TheVariants as stage
use Rattle.lll_text.specs.declared.draft.Entry.{Entry}
use Rattle.lll_text.specs.declared.draft.Entry.TheVariants as entry
use Rattle.lll_text.specs.declared.fault.LllKind.{LllKind}
use Rattle.lll_text.specs.declared.fault.LllKind.TheVariants as kind
use Rattle.lll_text.specs.Spelling.{line, number_field, name_field, signal_line, signal_lines, literal_line, name_line, list_lines}
use Rattle.lll_text.specs.Fields.{◌>>=◌, after, due, line_end, or_else, literal_at, name_at, signal_line_at}
use Rattle.lll_text.specs.Lines.{no_lines, header_line_at, next_signal_at, literal_line_at, assume_line_at, keep_line_at, entry_at, is_empty, may_stand, constraint_at, obligation_at, naming_at, after_word, list_line_at, is_open, first_open, in_line, closing, ends_signals, signals_line_at, some_line_at, no_line_at, line_at, after_lines}
use Rattle.lll_core.specs.Building.{AreSoFar}
use Rattle.lll_core.proofs.ListLemmas.{slice_get-append, slice_get-last}
use Rattle.lll_core.proofs.SignalLemmas.{AreSoFar-push, AreSoFar-none, AreSignals-whole}
use Rattle.lll_text.proofs.SignalLines.{signal_lines-snoc, signal_lines-nil}
use Rattle.lll_text.proofs.Steps.{stepped, chosen, ok_is}
use Rattle.lll_text.proofs.Numbers.{due_takes, literal_takes, name_takes, printable_step}
use Rattle.lll_text.proofs.Signals.{glue, NextHeld, or_else_takes, signal_line_takes}

-- ---- what the lines so far say, and how it is spelled

abbrev pub said : Stage → Draft → List ℕ
said stage.Header d = []
said stage.Signals d = line (codes "lll 1") ++ signal_lines 0 d.signals
said stage.Keep d = line (codes "lll 1") ++ signal_lines 0 d.signals ++ literal_line (codes "assume") d.assume
said stage.Lists d = line (codes "lll 1") ++ signal_lines 0 d.signals ++ literal_line (codes "assume") d.assume ++ literal_line (codes "keep") d.keep ++ list_lines d.constraints d.obligations d.names
said stage.End d = line (codes "lll 1") ++ signal_lines 0 d.signals ++ literal_line (codes "assume") d.assume ++ literal_line (codes "keep") d.keep ++ list_lines d.constraints d.obligations d.names ++ line (codes "end")

abbrev pub NextsHeld : List Signal → Type 0
NextsHeld signals = (n : ℕ) (s : Signal) → slice_get signals n ≡ Some s → NextHeld s

pub record NoLists (d : Draft) : Type 0 where
  pub constraints : d.constraints ≡ []
  pub obligations : d.obligations ≡ []
  pub names : d.names ≡ []

pub record Closed (d : Draft) : Type 0 where
  pub some : 0 < length d.signals
  pub next : (n : ℕ) (s : Signal) → slice_get d.signals n ≡ Some s → All (NamesSignal d.signals) (nexts s)
  pub assume_there : NamesSignal d.signals d.assume

pub record Listed (d : Draft) : Type 0 where
  pub closed : Closed d
  pub keep_there : NamesSignal d.signals d.keep
  pub constraints_there : All (NamesSignal d.signals) d.constraints
  pub obligations_there : All (NamesSignal d.signals) d.obligations
  pub names_there : All (λ n. NamesSignal d.signals n.literal) d.names
  pub named : All (λ n. IsName n.name) d.names

abbrev pub Known : Stage → Draft → Type 0
Known stage.Header d = (d.signals ≡ []) × NoLists d
Known stage.Signals d = NoLists d
Known stage.Keep d = NoLists d × Closed d
Known stage.Lists d = Listed d
Known stage.End d = Listed d

pub record Fine (st : Stage) (text : List ℕ) (d : Draft) (rest : List ℕ) : Type 0 where
  pub sofar : AreSoFar d.signals
  pub known : Known st d
  pub spelled : NextsHeld d.signals → text ≡ said st d ++ rest

abbrev pub FineAfter : List ℕ → Draft × List ℕ → Type 0
FineAfter text x = Fine x.0.stage text x.0 x.1

-- ---- the lines of the lists

pub list_lines-nil : list_lines [] [] [] ≡ []
unfolding list_lines
list_lines-nil = refl

flat_map-push : {X : Type 0} (f : X → List ℕ) (xs : List X) (x : X) → flat_map f (xs ++ x ∷ []) ≡ flat_map f xs ++ f x
flat_map-push f xs x = flat_map-append f xs (x ∷ []) ∙ ap (λ (t : List ℕ). flat_map f xs ++ t) (flat_map-cons f x [] ∙ append-nil (f x))

pub constraints-push : (cs : List ℕ) (c : ℕ) (os : List ℕ) (ns : List Named) → os ≡ [] → ns ≡ [] → list_lines (cs ++ c ∷ []) os ns ≡ list_lines cs os ns ++ literal_line (codes "constraint") c
unfolding list_lines
constraints-push cs c os ns none_o none_n =
    let f = literal_line (codes "constraint") in
    let few : (xs : List ℕ) → list_lines xs os ns ≡ flat_map f xs =
    λ xs. (λ i. list_lines xs (none_o i) (none_n i)) ∙ append-nil (flat_map f xs ++ []) ∙ append-nil (flat_map f xs) in
    few (cs ++ c ∷ []) ∙ flat_map-push f cs c ∙ ap (λ (t : List ℕ). t ++ f c) (sym (few cs))

pub obligations-push : (cs : List ℕ) (os : List ℕ) (o : ℕ) (ns : List Named) → ns ≡ [] → list_lines cs (os ++ o ∷ []) ns ≡ list_lines cs os ns ++ literal_line (codes "obligation") o
unfolding list_lines
obligations-push cs os o ns none_n =
    let f = literal_line (codes "constraint") in
    let g = literal_line (codes "obligation") in
    let few : (xs : List ℕ) → list_lines cs xs ns ≡ flat_map f cs ++ flat_map g xs =
    λ xs. (λ i. list_lines cs xs (none_n i)) ∙ append-nil (flat_map f cs ++ flat_map g xs) in
    few (os ++ o ∷ []) ∙ ap (λ (t : List ℕ). flat_map f cs ++ t) (flat_map-push g os o) ∙ sym (append_assoc (flat_map f cs) (flat_map g os) (g o)) ∙ ap (λ (t : List ℕ). t ++ g o) (sym (few os))

pub names-push : (cs os : List ℕ) (ns : List Named) (n : Named) → list_lines cs os (ns ++ n ∷ []) ≡ list_lines cs os ns ++ name_line n
unfolding list_lines
names-push cs os ns n =
    let front = flat_map (literal_line (codes "constraint")) cs ++ flat_map (literal_line (codes "obligation")) os in
    ap (λ (t : List ℕ). front ++ t) (flat_map-push name_line ns n) ∙ sym (append_assoc front (flat_map name_line ns) (name_line n))

-- ---- the first line

header_step : (text : List ℕ) (d : Draft) (rest : List ℕ) (x : Draft × List ℕ) → Fine stage.Header text d rest → header_line_at d rest ≡ Ok x → FineAfter text x
unfolding header_line_at
header_step text d rest x f e =
    let w = stepped (due kind.Word (codes "lll 1") rest) (λ r. line_end r >>= λ next. Ok (record d { stage = stage.Signals }, next)) x e in
    let l = stepped (line_end w.value) (λ next. Ok (record d { stage = stage.Signals }, next)) x w.second in
    let made : FineAfter text (record d { stage = stage.Signals }, l.value) = record {
      sofar = f.sofar;
      known = record { constraints = f.known.1.constraints; obligations = f.known.1.obligations; names = f.known.1.names };
      spelled = λ held.
          let nothing : signal_lines 0 d.signals ≡ [] = ap (signal_lines 0) f.known.0 ∙ signal_lines-nil 0 in
          let front : rest ≡ line (codes "lll 1") ++ l.value = glue rest (codes "lll 1") w.value (codes "\n") l.value (due_takes kind.Word (codes "lll 1") rest w.value w.first) (due_takes kind.Ending (codes "\n") w.value l.value l.first) in
          f.spelled held ∙ front ∙ ap (λ (t : List ℕ). t ++ l.value) (sym (append-nil (line (codes "lll 1"))) ∙ ap (λ (t : List ℕ). line (codes "lll 1") ++ t) (sym nothing));
    } in
    subst (FineAfter text) (ok_is (record d { stage = stage.Signals }, l.value) x l.second) made

-- ---- a signal's line

held_front : (signals : List Signal) (s : Signal) → NextsHeld (signals ++ s ∷ []) → NextsHeld signals
held_front signals s held n x at = held n x (slice_get-append signals (s ∷ []) n x at)

signal_step : (text : List ℕ) (d : Draft) (rest : List ℕ) (x : Draft × List ℕ) → d.stage ≡ stage.Signals → Fine stage.Signals text d rest → next_signal_at d rest ≡ Ok x → FineAfter text x
unfolding next_signal_at
signal_step text d rest x at f e =
    let s = stepped (signal_line_at (length d.signals) (signal_names d.signals) rest) (λ s. Ok (record d { signals = d.signals ++ s.0 ∷ [] }, s.1)) x e in
    let t = signal_line_takes (length d.signals) (signal_names d.signals) rest s.value.0 s.value.1 s.first in
    let now : Draft = record d { signals = d.signals ++ s.value.0 ∷ [] } in
    let fine : Fine stage.Signals text now s.value.1 = record {
      sofar = AreSoFar-push d.signals s.value.0 f.sofar (record { room = t.room; one = t.one; lower = t.follows.lower; named = t.follows.named; new = t.follows.new });
      known = record { constraints = f.known.constraints; obligations = f.known.obligations; names = f.known.names };
      spelled = λ held.
          let own : NextHeld s.value.0 = held (length d.signals) s.value.0 (slice_get-last d.signals s.value.0) in
          let grown : signal_lines 0 (d.signals ++ s.value.0 ∷ []) ≡ signal_lines 0 d.signals ++ signal_line (length d.signals) s.value.0 =
          signal_lines-snoc 0 d.signals s.value.0 ∙ ap (λ n. signal_lines 0 d.signals ++ signal_line n s.value.0) (omega arith) in
          glue text (line (codes "lll 1") ++ signal_lines 0 d.signals) rest (signal_line (length d.signals) s.value.0) s.value.1 (f.spelled (held_front d.signals s.value.0 held)) (t.spelled own)
          ∙ ap (λ (t : List ℕ). t ++ s.value.1) (append_assoc (line (codes "lll 1")) (signal_lines 0 d.signals) (signal_line (length d.signals) s.value.0) ∙ ap (λ (t : List ℕ). line (codes "lll 1") ++ t) (sym grown));
    } in
    let made : FineAfter text (now, s.value.1) = subst (λ st. Fine st text now s.value.1) (sym at) fine in
    subst (FineAfter text) (ok_is (now, s.value.1) x s.second) made

-- ---- a word and a literal

pub record TakesLiteralLine (word : List ℕ) (count : ℕ) (text : List ℕ) (x : ℕ × List ℕ) : Type 0 where
  pub spelled : text ≡ literal_line word x.0 ++ x.1
  pub there : signal_of x.0 < count

literal_line_takes : (word : List ℕ) (count : ℕ) (text : List ℕ) (x : ℕ × List ℕ) → count < 2 ^ 31 → literal_line_at word count text ≡ Ok x → TakesLiteralLine word count text x
unfolding literal_line_at
literal_line_takes word count text x few e =
    let w = stepped (due kind.Word word text) (λ r. literal_at kind.Number count r >>= λ literal. line_end literal.1 >>= λ next. Ok (literal.0, next)) x e in
    let v = stepped (literal_at kind.Number count w.value) (λ literal. line_end literal.1 >>= λ next. Ok (literal.0, next)) x w.second in
    let l = stepped (line_end v.value.1) (λ next. Ok (v.value.0, next)) x v.second in
    let t = literal_takes kind.Number count w.value v.value.0 v.value.1 few v.first in
    let made : TakesLiteralLine word count text (v.value.0, l.value) = record {
      spelled = glue text (word ++ number_field v.value.0) v.value.1 (codes "\n") l.value
          (glue text word w.value (number_field v.value.0) v.value.1 (due_takes kind.Word word text w.value w.first) t.spelled) (due_takes kind.Ending (codes "\n") v.value.1 l.value l.first);
      there = t.there;
    } in
    subst (TakesLiteralLine word count text) (ok_is (v.value.0, l.value) x l.second) made

-- ---- the line after the signals

none_chosen : {A : Type 0} (b : Bool) (x : A) (o : Option A) → cond b (Some x) o ≡ None → (b ≡ false) × (o ≡ None)
none_chosen true x o e = absurd (none-some x (sym e))
none_chosen false x o e = (refl, e)

-- no signal passes the test
none_from : {X : Type 0} (p : X → Bool) (i : ℕ) (xs : List X) → position_from p i xs ≡ None → (n : ℕ) (x : X) → slice_get xs n ≡ Some x → p x ≡ false
none_from p i [] e n x at = absurd (none-some x at)
none_from p i (y ∷ xs) e zero x at = subst (λ z. p z ≡ false) (same_Some y x at) (none_chosen (p y) i (position_from p (i + 1) xs) e).0
none_from p i (y ∷ xs) e (suc n) x at = none_from p (i + 1) xs (none_chosen (p y) i (position_from p (i + 1) xs) e).1 n x at

none_passes : {X : Type 0} (p : X → Bool) (xs : List X) → position p xs ≡ None → (n : ℕ) (x : X) → slice_get xs n ≡ Some x → p x ≡ false
none_passes p xs e n x at = none_from p 0 xs (sym (position_from-zero p xs) ∙ e) n x at

-- and the other way round
pub no_position : {X : Type 0} (p : X → Bool) (i : ℕ) (xs : List X) → ((n : ℕ) (x : X) → slice_get xs n ≡ Some x → p x ≡ false) → position_from p i xs ≡ None
no_position p i [] h = refl
no_position p i (x ∷ xs) h = rw (h 0 x refl) (no_position p (i + 1) xs (λ n y at. h (suc n) y at))

unnot : (b : Bool) → not b ≡ false → b ≡ true
unnot true e = refl
unnot false e = absurd cc

is_closed : (signals : List Signal) (s : Signal) → is_open (length signals) s ≡ false → All (NamesSignal signals) (nexts s)
is_closed signals One e = All-from_recursion (NamesSignal signals) [] tt
is_closed signals (Input name) e = All-from_recursion (NamesSignal signals) [] tt
is_closed signals (Latch name init next) e = All-from_recursion (NamesSignal signals) (next ∷ []) (ltb-true _ _ (unnot (nat_lt (signal_of next) (length signals)) e), tt)
is_closed signals (Imp a b) e = All-from_recursion (NamesSignal signals) [] tt
is_closed signals (Eqv a b) e = All-from_recursion (NamesSignal signals) [] tt

some_signal : (signals : List Signal) (b : Bool) → (not (is_empty signals) && b) ≡ true → 0 < length signals
some_signal [] b e = absurd cc
some_signal (s ∷ signals) b e = omega arith

assume_step : (text : List ℕ) (d : Draft) (rest : List ℕ) (x : Draft × List ℕ) → 0 < length d.signals → first_open d.signals ≡ None → Fine stage.Signals text d rest → assume_line_at d rest ≡ Ok x → FineAfter text x
unfolding assume_line_at
assume_step text d rest x some all f e =
    let v = stepped (literal_line_at (codes "assume") (length d.signals) rest) (λ literal. Ok (record d { stage = stage.Keep; assume = literal.0 }, literal.1)) x e in
    let t = literal_line_takes (codes "assume") (length d.signals) rest v.value f.sofar.few v.first in
    let made : FineAfter text (record d { stage = stage.Keep; assume = v.value.0 }, v.value.1) = record {
      sofar = f.sofar;
      known = (
        record { constraints = f.known.constraints; obligations = f.known.obligations; names = f.known.names },
        record { some = some; next = λ n s at. is_closed d.signals s (none_passes (is_open (length d.signals)) d.signals all n s at); assume_there = t.there },
      );
      spelled = λ held. glue text (line (codes "lll 1") ++ signal_lines 0 d.signals) rest (literal_line (codes "assume") v.value.0) v.value.1 (f.spelled held) t.spelled;
    } in
    subst (FineAfter text) (ok_is (record d { stage = stage.Keep; assume = v.value.0 }, v.value.1) x v.second) made

-- ---- the line of what is kept

keep_step : (text : List ℕ) (d : Draft) (rest : List ℕ) (x : Draft × List ℕ) → Fine stage.Keep text d rest → keep_line_at d rest ≡ Ok x → FineAfter text x
unfolding keep_line_at
keep_step text d rest x f e =
    let v = stepped (literal_line_at (codes "keep") (length d.signals) rest) (λ literal. Ok (record d { stage = stage.Lists; keep = literal.0 }, literal.1)) x e in
    let t = literal_line_takes (codes "keep") (length d.signals) rest v.value f.sofar.few v.first in
    let c = f.known.1 in
    let no = f.known.0 in
    let front = line (codes "lll 1") ++ signal_lines 0 d.signals ++ literal_line (codes "assume") d.assume in
    let nothing : list_lines d.constraints d.obligations d.names ≡ [] = (λ i. list_lines (no.constraints i) (no.obligations i) (no.names i)) ∙ list_lines-nil in
    let made : FineAfter text (record d { stage = stage.Lists; keep = v.value.0 }, v.value.1) = record {
      sofar = f.sofar;
      known = record {
        closed = record { some = c.some; next = c.next; assume_there = c.assume_there };
        keep_there = t.there;
        constraints_there = subst (All (NamesSignal d.signals)) (sym no.constraints) (All-from_recursion (NamesSignal d.signals) [] tt);
        obligations_there = subst (All (NamesSignal d.signals)) (sym no.obligations) (All-from_recursion (NamesSignal d.signals) [] tt);
        names_there = subst (All (λ n. NamesSignal d.signals n.literal)) (sym no.names) (All-from_recursion (λ n. NamesSignal d.signals n.literal) [] tt);
        named = subst (All (λ n. IsName n.name)) (sym no.names) (All-from_recursion (λ n. IsName n.name) [] tt);
      };
      spelled = λ held.
          glue text front rest (literal_line (codes "keep") v.value.0) v.value.1 (f.spelled held) t.spelled
          ∙ ap (λ (t : List ℕ). t ++ v.value.1) (sym (append-nil (front ++ literal_line (codes "keep") v.value.0)) ∙ ap (λ (t : List ℕ). (front ++ literal_line (codes "keep") v.value.0) ++ t) (sym nothing));
    } in
    subst (FineAfter text) (ok_is (record d { stage = stage.Lists; keep = v.value.0 }, v.value.1) x v.second) made

-- ---- a line of the lists

abbrev pub entry_word : Entry → List ℕ
entry_word entry.Constraint = codes "constraint"
entry_word entry.Obligation = codes "obligation"
entry_word entry.Name = codes "name"
entry_word entry.End = codes "end"

pub entry_takes : (text : List ℕ) (f : Entry) (rest : List ℕ) → entry_at text ≡ Ok (f, rest) → text ≡ entry_word f ++ rest
unfolding entry_at
entry_takes text f rest e =
    let last = or_else entry.End (after (codes "end") text) (Err kind.Word) in
    let name = or_else entry.Name (after (codes "name") text) last in
    let obligation = or_else entry.Obligation (after (codes "obligation") text) name in
    elim (or_else_takes entry.Constraint (codes "constraint") text (after (codes "constraint") text) obligation f rest refl e) [
      | inl p ↦ p.1 ∙ ap (λ g. entry_word g ++ rest) p.0
      | inr e1 ↦ elim (or_else_takes entry.Obligation (codes "obligation") text (after (codes "obligation") text) name f rest refl e1) [
        | inl p ↦ p.1 ∙ ap (λ g. entry_word g ++ rest) p.0
        | inr e2 ↦ elim (or_else_takes entry.Name (codes "name") text (after (codes "name") text) last f rest refl e2) [
          | inl p ↦ p.1 ∙ ap (λ g. entry_word g ++ rest) p.0
          | inr e3 ↦ elim (or_else_takes entry.End (codes "end") text (after (codes "end") text) (Err kind.Word) f rest refl e3) [
            | inl p ↦ p.1 ∙ ap (λ g. entry_word g ++ rest) p.0
            | inr e4 ↦ absurd cc
          ]
        ]
      ]
    ]

pub entry_again : (f : Entry) (rest : List ℕ) → entry_at (entry_word f ++ rest) ≡ Ok (f, rest)
unfolding entry_at after
entry_again entry.Constraint rest = refl
entry_again entry.Obligation rest = refl
entry_again entry.Name rest = refl
entry_again entry.End rest = refl

nil_from_empty : {X : Type 0} (xs : List X) → is_empty xs ≡ true → xs ≡ []
nil_from_empty [] e = refl
nil_from_empty (x ∷ xs) e = absurd cc

abbrev single : {X : Type 0} (P : X → Type 0) (xs : List X) (x : X) → All P xs → P x → All P (xs ++ x ∷ [])
single P xs x all p = All-append P xs (x ∷ []) all (All-from_recursion P (x ∷ []) (p, tt))

-- what stands before the lists
abbrev front : Draft → List ℕ
front d = line (codes "lll 1") ++ signal_lines 0 d.signals ++ literal_line (codes "assume") d.assume ++ literal_line (codes "keep") d.keep

-- one line more in the lists
grown : (text : List ℕ) (d : Draft) (lists more new rest next : List ℕ) → text ≡ (front d ++ lists) ++ rest → rest ≡ more ++ next → new ≡ lists ++ more → text ≡ (front d ++ new) ++ next
grown text d lists more new rest next e f g =
    glue text (front d ++ lists) rest more next e f ∙ ap (λ (t : List ℕ). t ++ next) (append_assoc (front d) lists more ∙ ap (λ (t : List ℕ). front d ++ t) (sym g))

constraint_step : (text : List ℕ) (d : Draft) (rest r : List ℕ) (y : Draft × List ℕ) (next : List ℕ) → d.stage ≡ stage.Lists → Fine stage.Lists text d rest → may_stand d entry.Constraint ≡ true → rest ≡ codes "constraint" ++ r
    → constraint_at d r ≡ Ok y → line_end y.1 ≡ Ok next → FineAfter text (y.0, next)
unfolding constraint_at
constraint_step text d rest r y next at f may w e l =
    let v = stepped (literal_at kind.Number (length d.signals) r) (λ literal. Ok (record d { constraints = d.constraints ++ literal.0 ∷ [] }, literal.1)) y e in
    let t = literal_takes kind.Number (length d.signals) r v.value.0 v.value.1 f.sofar.few v.first in
    let b = printable_step (is_empty d.obligations) (is_empty d.names) may in
    let now : Draft = record d { constraints = d.constraints ++ v.value.0 ∷ [] } in
    let end : v.value.1 ≡ codes "\n" ++ next = due_takes kind.Ending (codes "\n") v.value.1 next (ap (λ (z : Draft × List ℕ). line_end z.1) (ok_is (now, v.value.1) y v.second) ∙ l) in
    let fine : Fine stage.Lists text now next = record {
      sofar = f.sofar;
      known = record {
        closed = record { some = f.known.closed.some; next = f.known.closed.next; assume_there = f.known.closed.assume_there };
        keep_there = f.known.keep_there;
        constraints_there = single (NamesSignal d.signals) d.constraints v.value.0 f.known.constraints_there t.there;
        obligations_there = f.known.obligations_there;
        names_there = f.known.names_there;
        named = f.known.named;
      };
      spelled = λ held.
          grown text d (list_lines d.constraints d.obligations d.names) (literal_line (codes "constraint") v.value.0) (list_lines (d.constraints ++ v.value.0 ∷ []) d.obligations d.names) rest next (f.spelled held)
          (glue rest (codes "constraint" ++ number_field v.value.0) v.value.1 (codes "\n") next (glue rest (codes "constraint") r (number_field v.value.0) v.value.1 w t.spelled) end)
          (constraints-push d.constraints v.value.0 d.obligations d.names (nil_from_empty d.obligations b.0) (nil_from_empty d.names b.1));
    } in
    let made : FineAfter text (now, next) = subst (λ st. Fine st text now next) (sym at) fine in
    subst (λ (z : Draft × List ℕ). FineAfter text (z.0, next)) (ok_is (now, v.value.1) y v.second) made

obligation_step : (text : List ℕ) (d : Draft) (rest r : List ℕ) (y : Draft × List ℕ) (next : List ℕ) → d.stage ≡ stage.Lists → Fine stage.Lists text d rest → may_stand d entry.Obligation ≡ true → rest ≡ codes "obligation" ++ r
    → obligation_at d r ≡ Ok y → line_end y.1 ≡ Ok next → FineAfter text (y.0, next)
unfolding obligation_at
obligation_step text d rest r y next at f may w e l =
    let v = stepped (literal_at kind.Number (length d.signals) r) (λ literal. Ok (record d { obligations = d.obligations ++ literal.0 ∷ [] }, literal.1)) y e in
    let t = literal_takes kind.Number (length d.signals) r v.value.0 v.value.1 f.sofar.few v.first in
    let now : Draft = record d { obligations = d.obligations ++ v.value.0 ∷ [] } in
    let end : v.value.1 ≡ codes "\n" ++ next = due_takes kind.Ending (codes "\n") v.value.1 next (ap (λ (z : Draft × List ℕ). line_end z.1) (ok_is (now, v.value.1) y v.second) ∙ l) in
    let fine : Fine stage.Lists text now next = record {
      sofar = f.sofar;
      known = record {
        closed = record { some = f.known.closed.some; next = f.known.closed.next; assume_there = f.known.closed.assume_there };
        keep_there = f.known.keep_there;
        constraints_there = f.known.constraints_there;
        obligations_there = single (NamesSignal d.signals) d.obligations v.value.0 f.known.obligations_there t.there;
        names_there = f.known.names_there;
        named = f.known.named;
      };
      spelled = λ held.
          grown text d (list_lines d.constraints d.obligations d.names) (literal_line (codes "obligation") v.value.0) (list_lines d.constraints (d.obligations ++ v.value.0 ∷ []) d.names) rest next (f.spelled held)
          (glue rest (codes "obligation" ++ number_field v.value.0) v.value.1 (codes "\n") next (glue rest (codes "obligation") r (number_field v.value.0) v.value.1 w t.spelled) end)
          (obligations-push d.constraints d.obligations v.value.0 d.names (nil_from_empty d.names may));
    } in
    let made : FineAfter text (now, next) = subst (λ st. Fine st text now next) (sym at) fine in
    subst (λ (z : Draft × List ℕ). FineAfter text (z.0, next)) (ok_is (now, v.value.1) y v.second) made

naming_step : (text : List ℕ) (d : Draft) (rest r : List ℕ) (y : Draft × List ℕ) (next : List ℕ) → d.stage ≡ stage.Lists → Fine stage.Lists text d rest → rest ≡ codes "name" ++ r
    → naming_at d r ≡ Ok y → line_end y.1 ≡ Ok next → FineAfter text (y.0, next)
unfolding naming_at
naming_step text d rest r y next at f w e l =
    let v = stepped (literal_at kind.Number (length d.signals) r) (λ literal. name_at literal.1 >>= λ name. Ok (record d { names = d.names ++ record { name = name.0; literal = literal.0 } ∷ [] }, name.1)) y e in
    let n = stepped (name_at v.value.1) (λ name. Ok (record d { names = d.names ++ record { name = name.0; literal = v.value.0 } ∷ [] }, name.1)) y v.second in
    let t = literal_takes kind.Number (length d.signals) r v.value.0 v.value.1 f.sofar.few v.first in
    let u = name_takes v.value.1 n.value.0 n.value.1 n.first in
    let one : Named = record { name = n.value.0; literal = v.value.0 } in
    let now : Draft = record d { names = d.names ++ one ∷ [] } in
    let end : n.value.1 ≡ codes "\n" ++ next = due_takes kind.Ending (codes "\n") n.value.1 next (ap (λ (z : Draft × List ℕ). line_end z.1) (ok_is (now, n.value.1) y n.second) ∙ l) in
    let fine : Fine stage.Lists text now next = record {
      sofar = f.sofar;
      known = record {
        closed = record { some = f.known.closed.some; next = f.known.closed.next; assume_there = f.known.closed.assume_there };
        keep_there = f.known.keep_there;
        constraints_there = f.known.constraints_there;
        obligations_there = f.known.obligations_there;
        names_there = single (λ m. NamesSignal d.signals m.literal) d.names one f.known.names_there t.there;
        named = single (λ m. IsName m.name) d.names one f.known.named u.is_name;
      };
      spelled = λ held.
          grown text d (list_lines d.constraints d.obligations d.names) (name_line one) (list_lines d.constraints d.obligations (d.names ++ one ∷ [])) rest next (f.spelled held)
          (glue rest ((codes "name" ++ number_field v.value.0) ++ name_field n.value.0) n.value.1 (codes "\n") next
          (glue rest (codes "name" ++ number_field v.value.0) v.value.1 (name_field n.value.0) n.value.1 (glue rest (codes "name") r (number_field v.value.0) v.value.1 w t.spelled) u.spelled) end)
          (names-push d.constraints d.obligations d.names one);
    } in
    let made : FineAfter text (now, next) = subst (λ st. Fine st text now next) (sym at) fine in
    subst (λ (z : Draft × List ℕ). FineAfter text (z.0, next)) (ok_is (now, n.value.1) y n.second) made

end_step : (text : List ℕ) (d : Draft) (rest r : List ℕ) (y : Draft × List ℕ) (next : List ℕ) → Fine stage.Lists text d rest → rest ≡ codes "end" ++ r
    → after_word d entry.End r ≡ Ok y → line_end y.1 ≡ Ok next → FineAfter text (y.0, next)
end_step text d rest r y next f w e l =
    let now : Draft = record d { stage = stage.End } in
    let is = ok_is (now, r) y e in
    let end : r ≡ codes "\n" ++ next = due_takes kind.Ending (codes "\n") r next (ap (λ (z : Draft × List ℕ). line_end z.1) is ∙ l) in
    let made : FineAfter text (now, next) = record {
      sofar = f.sofar;
      known = record {
        closed = record { some = f.known.closed.some; next = f.known.closed.next; assume_there = f.known.closed.assume_there };
        keep_there = f.known.keep_there;
        constraints_there = f.known.constraints_there;
        obligations_there = f.known.obligations_there;
        names_there = f.known.names_there;
        named = f.known.named;
      };
      spelled = λ held. glue text (front d ++ list_lines d.constraints d.obligations d.names) rest (line (codes "end")) next (f.spelled held) (glue rest (codes "end") r (codes "\n") next w end);
    } in
    subst (λ (z : Draft × List ℕ). FineAfter text (z.0, next)) is made

of_entry : (g : Entry) (text : List ℕ) (d : Draft) (rest r : List ℕ) (y : Draft × List ℕ) (next : List ℕ) → d.stage ≡ stage.Lists → Fine stage.Lists text d rest → may_stand d g ≡ true → rest ≡ entry_word g ++ r
    → after_word d g r ≡ Ok y → line_end y.1 ≡ Ok next → FineAfter text (y.0, next)
of_entry entry.Constraint text d rest r y next at f may w e l = constraint_step text d rest r y next at f may w e l
of_entry entry.Obligation text d rest r y next at f may w e l = obligation_step text d rest r y next at f may w e l
of_entry entry.Name text d rest r y next at f may w e l = naming_step text d rest r y next at f w e l
of_entry entry.End text d rest r y next at f may w e l = end_step text d rest r y next f w e l

list_step : (text : List ℕ) (d : Draft) (rest : List ℕ) (x : Draft × List ℕ) → d.stage ≡ stage.Lists → Fine stage.Lists text d rest → list_line_at d rest ≡ Ok x → FineAfter text x
unfolding list_line_at
list_step text d rest x at f e =
    let w = stepped (entry_at rest) (λ word. cond (may_stand d word.0) (after_word d word.0 word.1) (Err kind.Word) >>= λ said. line_end said.1 >>= λ next. Ok (said.0, next)) x e in
    let y = stepped (cond (may_stand d w.value.0) (after_word d w.value.0 w.value.1) (Err kind.Word)) (λ said. line_end said.1 >>= λ next. Ok (said.0, next)) x w.second in
    let c = chosen (may_stand d w.value.0) (after_word d w.value.0 w.value.1) y.value kind.Word y.first in
    let l = stepped (line_end y.value.1) (λ next. Ok (y.value.0, next)) x y.second in
    subst (FineAfter text) (ok_is (y.value.0, l.value) x l.second)
    (of_entry w.value.0 text d rest w.value.1 y.value l.value at f c.0 (entry_takes rest w.value.0 w.value.1 w.first) c.1 l.first)

-- ---- any line

pub in_line_ok : {A : Type 0} (n : ℕ) (r : Result A LllKind) (x : A) → in_line n r ≡ Ok x → r ≡ Ok x
in_line_ok n (Ok y) x e = ap Ok (ok_is y x e)
in_line_ok n (Err k) x e = absurd cc

closing_step : (o : Option ℕ) (n : ℕ) (text : List ℕ) (d : Draft) (rest : List ℕ) (x : Draft × List ℕ) → 0 < length d.signals → first_open d.signals ≡ o → Fine stage.Signals text d rest → closing n o d rest ≡ Ok x → FineAfter text x
closing_step (Some k) n text d rest x some all f e = absurd cc
closing_step None n text d rest x some all f e = assume_step text d rest x some all f (in_line_ok n (assume_line_at d rest) x e)

signals_step : (b : Bool) (n : ℕ) (text : List ℕ) (d : Draft) (rest : List ℕ) (x : Draft × List ℕ) → d.stage ≡ stage.Signals → ends_signals d rest ≡ b → Fine stage.Signals text d rest
    → cond b (closing n (first_open d.signals) d rest) (in_line n (next_signal_at d rest)) ≡ Ok x → FineAfter text x
signals_step true n text d rest x at here f e = closing_step (first_open d.signals) n text d rest x (some_signal d.signals (is_some (after (codes "assume") rest)) here) refl f e
signals_step false n text d rest x at here f e = signal_step text d rest x at f (in_line_ok n (next_signal_at d rest) x e)

some_step : (st : Stage) (n : ℕ) (text : List ℕ) (d : Draft) (rest : List ℕ) (x : Draft × List ℕ) → d.stage ≡ st → Fine st text d rest → some_line_at st n d rest ≡ Ok x → FineAfter text x
unfolding signals_line_at
some_step stage.Header n text d rest x at f e = header_step text d rest x f (in_line_ok n (header_line_at d rest) x e)
some_step stage.Signals n text d rest x at f e = signals_step (ends_signals d rest) n text d rest x at refl f e
some_step stage.Keep n text d rest x at f e = keep_step text d rest x f (in_line_ok n (keep_line_at d rest) x e)
some_step stage.Lists n text d rest x at f e = list_step text d rest x at f (in_line_ok n (list_line_at d rest) x e)
some_step stage.End n text d rest x at f e = absurd cc

none_step : (st : Stage) (n : ℕ) (text : List ℕ) (d : Draft) (x : Draft × List ℕ) → d.stage ≡ st → FineAfter text (d, []) → no_line_at st n d ≡ Ok x → FineAfter text x
none_step stage.Header n text d x at f e = absurd cc
none_step stage.Signals n text d x at f e = absurd cc
none_step stage.Keep n text d x at f e = absurd cc
none_step stage.Lists n text d x at f e = absurd cc
none_step stage.End n text d x at f e = subst (FineAfter text) (ok_is (d, []) x e) f

line_step : (n : ℕ) (text : List ℕ) (d : Draft) (rest : List ℕ) (x : Draft × List ℕ) → FineAfter text (d, rest) → line_at n d rest ≡ Ok x → FineAfter text x
unfolding line_at
line_step n text d [] x f e = none_step d.stage n text d x refl f e
line_step n text d (b ∷ bs) x f e = some_step d.stage n text d (b ∷ bs) x refl f e

-- what the lines say is spelled by them
pub is_fine : (k : ℕ) (text : List ℕ) (x : Draft × List ℕ) → after_lines k text ≡ Ok x → FineAfter text x
unfolding after_lines
is_fine zero text x e =
    subst (FineAfter text) (ok_is (no_lines, text) x e)
    (record { sofar = AreSoFar-none; known = (refl, record { constraints = refl; obligations = refl; names = refl }); spelled = λ held. refl })
is_fine (suc k) text x e =
    let s = stepped (after_lines k text) (λ so_far. line_at (k + 1) so_far.0 so_far.1) x e in
    line_step (k + 1) text s.value.0 s.value.1 x (is_fine k text s.value s.first) s.second

-- ---- a text that is read to its end

held_next : (signals : List Signal) (s : Signal) → length signals < 2 ^ 31 → All (NamesSignal signals) (nexts s) → NextHeld s
held_next signals One few h = tt
held_next signals (Input name) few h = tt
held_next signals (Latch name init next) few h = let there = All-head (NamesSignal signals) next [] h in omega arith
held_next signals (Imp a b) few h = tt
held_next signals (Eqv a b) few h = tt

pub record Whole (text : List ℕ) (d : Draft) : Type 0 where
  pub is_lll : IsLll d.signals d.assume d.keep d.constraints d.obligations d.names
  pub spelled : text ≡ said stage.End d

at_end : (text : List ℕ) (d : Draft) → Fine stage.End text d [] → Whole text d
at_end text d f = record {
  is_lll = record {
    are_signals = AreSignals-whole d.signals f.sofar f.known.closed.some f.known.closed.next;
    assume_there = f.known.closed.assume_there;
    keep_there = f.known.keep_there;
    constraints_there = f.known.constraints_there;
    obligations_there = f.known.obligations_there;
    names_there = f.known.names_there;
    named = f.known.named;
  };
  spelled = f.spelled (λ n s at. held_next d.signals s f.sofar.few (f.known.closed.next n s at)) ∙ append-nil (said stage.End d);
}

pub is_whole : (k : ℕ) (text : List ℕ) (d : Draft) → after_lines k text ≡ Ok (d, []) → d.stage ≡ stage.End → Whole text d
is_whole k text d e at = at_end text d (subst (λ st. Fine st text d []) at (is_fine k text (d, []) e))
