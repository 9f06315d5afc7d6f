-- The fault of a model's text: it stays when more follows the last line, and its line is not far behind the text.
use Rattle.std.proofs.Common.{◌≡◌, ℕ, zero, suc, ◌+◌, ◌^◌, ◌≤◌, Bool, true, false, cond, List, [], ◌∷◌, ◌++◌, length, Option, Some, None, Result, Ok, Err, refl, sym, ap, subst, ◌∙◌, append_assoc, length-append, arith}
use Rattle.std.specs.Prelude.{not, ◌&&◌, codes}
use Rattle.std.proofs.lemmas.List.{append-nil}
use Rattle.std.proofs.lemmas.List.Quantifiers.{position-Some}
use Rattle.lll_core.specs.declared.signal.Signal.TheVariants.{One}
use Rattle.lll_text.specs.declared.draft.Draft.{Draft}
use Rattle.lll_text.specs.declared.draft.Stage.{Stage}
use Rattle.lll_text.specs.declared.draft.Stage.TheVariants as stage
use Rattle.lll_text.specs.declared.fault.LllFault.{LllFault}
use Rattle.lll_text.specs.declared.fault.LllFault.TheVariants as fault
use Rattle.lll_text.specs.declared.fault.LllKind.{LllKind}
use Rattle.lll_text.specs.declared.fault.LllKind.TheVariants as kind
use Rattle.lll_text.specs.Fields.{◌>>=◌, after, signal_line_at}
use Rattle.lll_text.specs.Lines.{header_line_at, next_signal_at, literal_line_at, assume_line_at, keep_line_at, entry_at, list_line_at, is_empty, is_open, first_open, in_line, closing, ends_signals, signals_line_at, some_line_at, no_line_at, line_at, after_lines, line_feeds, IsFaultOf}
use Rattle.lll_text.specs.Spelling.{line}
use Rattle.lll_text.proofs.Consumed.{line_feeds-append}
use Rattle.lll_text.proofs.Local.{fault_local}
use Rattle.lll_text.proofs.OneReading.{one_fault, never_both}
use Rattle.lll_text.proofs.Reached.{is_fine}
use Rattle.lll_text.proofs.Steps.{stepped, ok_is}
use Rattle.lll_text.proofs.Total.{lines_counted}
use Rattle.evidence.proofs.Cutting.{same_rest}
use Rattle.evidence.proofs.LineFeeds.{EndsLine, feeds_of_line, few_feeds, same_lines}

abbrev last_line : List ℕ
last_line = line (codes "end")

-- ---- a line `end` is the last of a model, or wrong

and_false : (b : Bool) → (b && false) ≡ false
and_false true = refl
and_false false = refl

not_read : {A : Type 0} (n : ℕ) (r : Result A LllKind) (k : LllKind) (x : A) → r ≡ Err k → in_line n r ≡ Ok x → ⊥
not_read n (Ok y) k x e f = absurd cc
not_read n (Err j) k x e f = cc

signals_end : (v : Bool) (n : ℕ) (d : Draft) (x : Draft × List ℕ) → v ≡ false → next_signal_at d last_line ≡ Err kind.Word → cond v (closing n (first_open d.signals) d last_line) (in_line n (next_signal_at d last_line)) ≡ Ok x → ⊥
signals_end true n d x e other f = absurd cc
signals_end false n d x e other f = not_read n (next_signal_at d last_line) kind.Word x other f

read_as : (n : ℕ) (d : Draft) (x : Draft × List ℕ) (r : Result (Draft × List ℕ) LllKind) → r ≡ Ok (record d { stage = stage.End }, []) → in_line n r ≡ Ok x → (x.0.stage ≡ stage.End) × (x.1 ≡ [])
read_as n d x (Err k) e f = absurd cc
read_as n d x (Ok y) e f =
    let same : (record d { stage = stage.End }, []) ≡ x = sym (ok_is {F = LllKind} y (record d { stage = stage.End }, []) e) ∙ ok_is {F = LllFault} y x f in
    (ap (λ (z : Draft × List ℕ). z.0.stage) (sym same), ap (λ (z : Draft × List ℕ). z.1) (sym same))

end_line_at : (st : Stage) (n : ℕ) (d : Draft) (x : Draft × List ℕ) → some_line_at st n d last_line ≡ Ok x → (x.0.stage ≡ stage.End) × (x.1 ≡ [])
unfolding after header_line_at next_signal_at signal_line_at signals_line_at literal_line_at keep_line_at entry_at list_line_at
end_line_at stage.Header n d x e = absurd (not_read n (header_line_at d last_line) kind.Word x refl e)
end_line_at stage.Signals n d x e = absurd (signals_end (ends_signals d last_line) n d x (and_false (not (is_empty d.signals))) refl e)
end_line_at stage.Keep n d x e = absurd (not_read n (keep_line_at d last_line) kind.Word x refl e)
end_line_at stage.Lists n d x e = read_as n d x (list_line_at d last_line) refl e
end_line_at stage.End n d x e = absurd cc

end_line : (n : ℕ) (d : Draft) (x : Draft × List ℕ) → line_at n d last_line ≡ Ok x → (x.0.stage ≡ stage.End) × (x.1 ≡ [])
unfolding line_at
end_line n d x e = end_line_at d.stage n d x e

-- ---- the fault is found in the lines up to `end`

at_end : (n : ℕ) (d : Draft) → d.stage ≡ stage.End → line_at n d [] ≡ Ok (d, [])
unfolding line_at
at_end n d at = ap (λ st. no_line_at st n d) at

behind_end : (n : ℕ) (d : Draft) (b : ℕ) (bs : List ℕ) (x : Draft × List ℕ) → d.stage ≡ stage.End → line_at n d (b ∷ bs) ≡ Ok x → ⊥
unfolding line_at
behind_end n d b bs x at e = let wrong : line_at n d (b ∷ bs) ≡ Err (fault.Fault n kind.Ending) = ap (λ st. some_line_at st n d (b ∷ bs)) at in cc

stage_cases : {G : Type 0} (st : Stage) → (st ≡ stage.End → G) → ((st ≡ stage.End → ⊥) → G) → G
stage_cases stage.Header on other = other (λ e. cc)
stage_cases stage.Signals on other = other (λ e. cc)
stage_cases stage.Keep on other = other (λ e. cc)
stage_cases stage.Lists on other = other (λ e. cc)
stage_cases stage.End on other = on refl

ended_before : (text : List ℕ) (at : ℕ) (why : LllKind) (lines n : ℕ) (d : Draft) (rest : List ℕ) (x : Draft × List ℕ) → IsFaultOf text at why → after_lines lines text ≡ Ok (d, rest) → d.stage ≡ stage.End → line_at n d rest ≡ Ok x → ⊥
ended_before text at why lines n d [] x wrong h ended e = never_both text d at why (record { lines = lines; reads = h; ended = ended }) wrong
ended_before text at why lines n d (b ∷ bs) x wrong h ended e = behind_end n d b bs x ended e

-- lines up to `end` that are read spell a model
not_all_read : (front : List ℕ) (at : ℕ) (why : LllKind) (x : Draft × List ℕ) → EndsLine front → IsFaultOf (front ++ last_line) at why → after_lines (suc (line_feeds front)) (front ++ last_line) ≡ Ok x → ⊥
unfolding after_lines
not_all_read front at why x ends wrong e =
    let n = line_feeds front in
    let text = front ++ last_line in
    let s = stepped (after_lines n text) (λ so_far. line_at (n + 1) so_far.0 so_far.1) x e in
    stage_cases s.value.0.stage
    (λ ended. ended_before text at why n (n + 1) s.value.0 s.value.1 x wrong s.first ended s.second)
    (λ open_case.
    let f = lines_counted n text s.value s.first open_case in
    let same : f.front ≡ front = same_lines f.front s.value.1 front last_line f.whole ends f.count (sym f.parts) in
    let rest : s.value.1 ≡ last_line = same_rest front s.value.1 last_line (ap (λ (t : List ℕ). t ++ s.value.1) (sym same) ∙ sym f.parts) in
    let last = end_line (n + 1) s.value.0 x (ap (λ (t : List ℕ). line_at (n + 1) s.value.0 t) (sym rest) ∙ s.second) in
    let all : after_lines (suc n) text ≡ Ok (x.0, []) = e ∙ ap (λ (t : List ℕ). Ok (x.0, t)) last.1 in
    never_both text x.0 at why (record { lines = suc n; reads = all; ended = last.0 }) wrong)

found_there : (front : List ℕ) (at : ℕ) (why : LllKind) (r : Result (Draft × List ℕ) LllFault) → EndsLine front → IsFaultOf (front ++ last_line) at why → after_lines (suc (line_feeds front)) (front ++ last_line) ≡ r → after_lines (suc (line_feeds front)) (front ++ last_line) ≡ Err (fault.Fault at why)
found_there front at why (Ok x) ends wrong e = absurd (not_all_read front at why x ends wrong e)
found_there front at why (Err f) ends wrong e = e ∙ ap (λ z. Err z) (one_fault (suc (line_feeds front)) wrong.0 (front ++ last_line) f (fault.Fault at why) e wrong.1)

-- the fault stays when more follows
pub fault_goes_on : (front more : List ℕ) (at : ℕ) (why : LllKind) → EndsLine front → IsFaultOf (front ++ last_line) at why → IsFaultOf (front ++ (last_line ++ more)) at why
fault_goes_on front more at why ends wrong =
    let n = suc (line_feeds front) in
    let text = front ++ last_line in
    let found = found_there front at why (after_lines n text) ends wrong refl in
    let within : n ≤ line_feeds text = omega (arith, line_feeds-append front last_line, feeds_of_line (codes "end") refl) in
    let same : after_lines n (text ++ []) ≡ Err (fault.Fault at why) = ap (after_lines n) (append-nil text) ∙ found in
    (n, ap (after_lines n) (sym (append_assoc front last_line more)) ∙ fault_local text [] more n (fault.Fault at why) within same)

-- ---- where it is found

-- the lines before it are read
record FailsAt (text : List ℕ) (e : LllFault) : Type 0 where
  lines : ℕ
  so_far : Draft × List ℕ
  reads : after_lines lines text ≡ Ok so_far
  fails : line_at (lines + 1) so_far.0 so_far.1 ≡ Err e

fails_step : (k : ℕ) (text : List ℕ) (e : LllFault) (r : Result (Draft × List ℕ) LllFault) → after_lines k text ≡ r → (r >>= λ so_far. line_at (k + 1) so_far.0 so_far.1) ≡ Err e → (after_lines k text ≡ Err e → FailsAt text e) → FailsAt text e
fails_step k text e (Ok x) h f go = record { lines = k; so_far = x; reads = h; fails = f }
fails_step k text e (Err d) h f go = go (h ∙ f)

fails_at : (k : ℕ) (text : List ℕ) (e : LllFault) → after_lines k text ≡ Err e → FailsAt text e
unfolding after_lines
fails_at zero text e h = absurd cc
fails_at (suc k) text e h = fails_step k text e (after_lines k text) refl h (fails_at k text e)

went_on : (n m : ℕ) (d : Draft) (rest : List ℕ) (x : Draft × List ℕ) (e : LllFault) → line_at n d rest ≡ Ok x → line_at m x.0 x.1 ≡ Err e → d.stage ≡ stage.End → ⊥
went_on n m d [] x e h f ended =
    let same : (d, []) ≡ x = ok_is {F = LllFault} (d, []) x (sym (at_end n d ended) ∙ h) in
    let again : line_at m x.0 x.1 ≡ Ok (d, []) = subst (λ (y : Draft × List ℕ). line_at m y.0 y.1 ≡ Ok (d, [])) same (at_end m d ended) in
    cc
went_on n m d (b ∷ bs) x e h f ended = behind_end n d b bs x ended h

few_lines : (k : ℕ) (text : List ℕ) (x : Draft × List ℕ) (e : LllFault) → after_lines k text ≡ Ok x → line_at (k + 1) x.0 x.1 ≡ Err e → k ≤ length text + 1
unfolding after_lines
few_lines zero text x e h f = omega arith
few_lines (suc k) text x e h f =
    let s = stepped (after_lines k text) (λ so_far. line_at (k + 1) so_far.0 so_far.1) x h in
    let first = lines_counted k text s.value s.first (went_on (k + 1) (suc k + 1) s.value.0 s.value.1 x e s.second f) in
    omega (arith, first.count, few_feeds first.front, ap (λ (t : List ℕ). length t) first.parts, length-append first.front s.value.1)

-- ---- its line

abbrev wrong_line : {A : Type 0} → LllFault → Result A LllFault
wrong_line e = Err e

same_line : {A : Type 0} (n m : ℕ) (j k : LllKind) → wrong_line {A = A} (fault.Fault n j) ≡ wrong_line (fault.Fault m k) → m ≡ n
same_line n m j k e = cc

in_line_is : {A : Type 0} (n : ℕ) (r : Result A LllKind) (line : ℕ) (why : LllKind) → in_line n r ≡ Err (fault.Fault line why) → line ≡ n
in_line_is n (Ok x) line why e = absurd cc
in_line_is {A} n (Err k) line why e = same_line {A = A} n line k why e

closing_is : (o : Option ℕ) (n : ℕ) (d : Draft) (rest : List ℕ) (line : ℕ) (why : LllKind) → first_open d.signals ≡ o → closing n o d rest ≡ Err (fault.Fault line why) → line ≤ n + length d.signals + 1
closing_is (Some k) n d rest line why at e =
    let found = position-Some (is_open (length d.signals)) d.signals k One at in
    omega (arith, found.0, same_line {A = Draft × List ℕ} (k + 2) line kind.Number why e)
closing_is None n d rest line why at e = omega (arith, in_line_is n (assume_line_at d rest) line why e)

signals_are : (v : Bool) (n : ℕ) (d : Draft) (rest : List ℕ) (line : ℕ) (why : LllKind) → cond v (closing n (first_open d.signals) d rest) (in_line n (next_signal_at d rest)) ≡ Err (fault.Fault line why) → line ≤ n + length d.signals + 1
signals_are true n d rest line why e = closing_is (first_open d.signals) n d rest line why refl e
signals_are false n d rest line why e = omega (arith, in_line_is n (next_signal_at d rest) line why e)

some_line_is : (st : Stage) (n : ℕ) (d : Draft) (rest : List ℕ) (line : ℕ) (why : LllKind) → some_line_at st n d rest ≡ Err (fault.Fault line why) → line ≤ n + length d.signals + 1
unfolding signals_line_at
some_line_is stage.Header n d rest line why e = omega (arith, in_line_is n (header_line_at d rest) line why e)
some_line_is stage.Signals n d rest line why e = signals_are (ends_signals d rest) n d rest line why e
some_line_is stage.Keep n d rest line why e = omega (arith, in_line_is n (keep_line_at d rest) line why e)
some_line_is stage.Lists n d rest line why e = omega (arith, in_line_is n (list_line_at d rest) line why e)
some_line_is stage.End n d rest line why e = omega (arith, same_line {A = Draft × List ℕ} n line kind.Ending why e)

no_line_is : (st : Stage) (n : ℕ) (d : Draft) (line : ℕ) (why : LllKind) → no_line_at st n d ≡ Err (fault.Fault line why) → line ≤ n
no_line_is stage.Header n d line why e = omega (arith, same_line {A = Draft × List ℕ} n line kind.Ending why e)
no_line_is stage.Signals n d line why e = omega (arith, same_line {A = Draft × List ℕ} n line kind.Ending why e)
no_line_is stage.Keep n d line why e = omega (arith, same_line {A = Draft × List ℕ} n line kind.Ending why e)
no_line_is stage.Lists n d line why e = omega (arith, same_line {A = Draft × List ℕ} n line kind.Ending why e)
no_line_is stage.End n d line why e = absurd cc

line_is : (n : ℕ) (d : Draft) (rest : List ℕ) (line : ℕ) (why : LllKind) → line_at n d rest ≡ Err (fault.Fault line why) → line ≤ n + length d.signals + 1
unfolding line_at
line_is n d [] line why e = omega (arith, no_line_is d.stage n d line why e)
line_is n d (b ∷ bs) line why e = some_line_is d.stage n d (b ∷ bs) line why e

-- no fault is far behind the text
pub fault_is_near : (text : List ℕ) (at : ℕ) (why : LllKind) → IsFaultOf text at why → at ≤ length text + 2 ^ 31 + 3
fault_is_near text at why wrong =
    let f = fails_at wrong.0 text (fault.Fault at why) wrong.1 in
    let few = (is_fine f.lines text f.so_far f.reads).sofar.few in
    omega (arith, line_is (f.lines + 1) f.so_far.0 f.so_far.1 at why f.fails, few_lines f.lines text f.so_far (fault.Fault at why) f.reads f.fails, few)
