-- Each text has a value or a fault, and its lines are counted by their line feeds.
use Rattle.std.proofs.Common.{◌≡◌, ℕ, zero, suc, ◌+◌, ◌<◌, ◌≤◌, List, [], ◌∷◌, ◌++◌, length, Option, Some, None, Bool, true, false, cond, Result, Ok, Err, refl, sym, ap, subst, ◌∙◌, append_assoc, ◌⊎◌, inl, inr, arith}
use Rattle.std.specs.Prelude.{codes}
use Rattle.std.proofs.lemmas.List.{length-append}
use Rattle.lll_core.specs.declared.lll.Lll.{Lll}
use Rattle.lll_text.specs.declared.draft.Draft.{Draft}
use Rattle.lll_text.specs.declared.draft.Stage.{Stage}
use Rattle.lll_text.specs.declared.draft.Stage.TheVariants as stage
use Rattle.lll_text.specs.declared.fault.LllFault.{LllFault}
use Rattle.lll_text.specs.declared.fault.LllFault.TheVariants as fault
use Rattle.lll_text.specs.declared.fault.LllKind.{LllKind}
use Rattle.lll_text.specs.declared.fault.LllKind.TheVariants as kind
use Rattle.lll_text.specs.Spelling.{spelling}
use Rattle.lll_text.specs.Lines.{no_lines, header_line_at, next_signal_at, assume_line_at, keep_line_at, list_line_at, first_open, in_line, closing, ends_signals, signals_line_at, some_line_at, no_line_at, line_at, after_lines, line_feeds, IsFaultOf, IsReadAs, FirstLines}
use Rattle.lll_text.proofs.Steps.{stepped, ok_is}
use Rattle.lll_text.proofs.Signals.{glue}
use Rattle.lll_text.proofs.Consumed.{Line, line_feeds-append, some_line_used}
use Rattle.lll_text.proofs.OneReading.{line_at-none, whole, spelled_so, value_of}

-- ---- a line that is wrong has a fault

pub record IsWrong (e : LllFault) : Type 0 where
  pub line : ℕ
  pub kind : LllKind
  pub is : e ≡ fault.Fault line kind

abbrev wrong : {A : Type 0} → LllFault → Result A LllFault
wrong e = Err e

same_wrong : {A : Type 0} (d e : LllFault) → wrong {A = A} d ≡ wrong e → e ≡ d
same_wrong d e h = cc

in_line_wrong : {A : Type 0} (n : ℕ) (r : Result A LllKind) (e : LllFault) → in_line n r ≡ Err e → IsWrong e
in_line_wrong n (Ok x) e h = absurd cc
in_line_wrong {A} n (Err k) e h = record { line = n; kind = k; is = same_wrong {A = A} (fault.Fault n k) e h }

closing_wrong : (o : Option ℕ) (n : ℕ) (d : Draft) (text : List ℕ) (e : LllFault) → closing n o d text ≡ Err e → IsWrong e
closing_wrong (Some k) n d text e h = record { line = k + 2; kind = kind.Number; is = same_wrong {A = Draft × List ℕ} (fault.Fault (k + 2) kind.Number) e h }
closing_wrong None n d text e h = in_line_wrong n (assume_line_at d text) e h

signals_wrong : (b : Bool) (n : ℕ) (d : Draft) (text : List ℕ) (e : LllFault) → cond b (closing n (first_open d.signals) d text) (in_line n (next_signal_at d text)) ≡ Err e → IsWrong e
signals_wrong true n d text e h = closing_wrong (first_open d.signals) n d text e h
signals_wrong false n d text e h = in_line_wrong n (next_signal_at d text) e h

some_line_wrong : (st : Stage) (n : ℕ) (d : Draft) (text : List ℕ) (e : LllFault) → some_line_at st n d text ≡ Err e → IsWrong e
unfolding signals_line_at
some_line_wrong stage.Header n d text e h = in_line_wrong n (header_line_at d text) e h
some_line_wrong stage.Signals n d text e h = signals_wrong (ends_signals d text) n d text e h
some_line_wrong stage.Keep n d text e h = in_line_wrong n (keep_line_at d text) e h
some_line_wrong stage.Lists n d text e h = in_line_wrong n (list_line_at d text) e h
some_line_wrong stage.End n d text e h = record { line = n; kind = kind.Ending; is = same_wrong {A = Draft × List ℕ} (fault.Fault n kind.Ending) e h }

-- ---- every text

abbrev Settled : List ℕ → Type 0
Settled text = ((d : Draft) × IsReadAs text d) ⊎ ((line : ℕ) × ((k : LllKind) × IsFaultOf text line k))

next_lines : (k : ℕ) (text : List ℕ) (d : Draft) (rest : List ℕ) (r : Result (Draft × List ℕ) LllFault) → after_lines k text ≡ Ok (d, rest) → line_at (k + 1) d rest ≡ r → after_lines (suc k) text ≡ r
unfolding after_lines
next_lines k text d rest r h e = rw h e

settled_nothing : (st : Stage) (k : ℕ) (text : List ℕ) (d : Draft) → d.stage ≡ st → after_lines k text ≡ Ok (d, []) → ((st ≡ stage.End → ⊥) → Settled text) → Settled text
settled_nothing stage.End k text d at h open_case = inl (d, record { lines = k; reads = h; ended = at })
settled_nothing stage.Header k text d at h open_case = open_case (λ e. cc)
settled_nothing stage.Signals k text d at h open_case = open_case (λ e. cc)
settled_nothing stage.Keep k text d at h open_case = open_case (λ e. cc)
settled_nothing stage.Lists k text d at h open_case = open_case (λ e. cc)

settled_wrong : (k : ℕ) (text : List ℕ) (e : LllFault) → after_lines k text ≡ Err e → IsWrong e → Settled text
settled_wrong k text e h w = inr (w.line, (w.kind, (k, h ∙ ap (λ f. Err f) w.is)))

shorter : (text rest : List ℕ) → Line text rest → length rest < length text
unfolding line_feeds
shorter text rest l = go l.used l.parts l.ends
  where
    go : (used : List ℕ) → text ≡ used ++ rest → line_feeds used ≡ 1 → length rest < length text
    go [] e f = absurd (omega arith)
    go (b ∷ bs) e f = omega (arith, ap length e, length-append (b ∷ bs) rest)

line_at-cons : (n : ℕ) (d : Draft) (b : ℕ) (bs : List ℕ) → line_at n d (b ∷ bs) ≡ some_line_at d.stage n d (b ∷ bs)
unfolding line_at
line_at-cons n d b bs = refl

settle-some : (fuel k : ℕ) (text : List ℕ) (d : Draft) (rest : List ℕ) (r : Result (Draft × List ℕ) LllFault) → ((j : ℕ) (now : Draft) (after : List ℕ) → length after < length rest → after_lines j text ≡ Ok (now, after) → Settled text)
    → some_line_at d.stage (k + 1) d rest ≡ r → after_lines (suc k) text ≡ r → Settled text
settle-some fuel k text d rest (Ok x) go here h = go (suc k) x.0 x.1 (shorter rest x.1 (some_line_used d.stage (k + 1) d rest x here)) h
settle-some fuel k text d rest (Err e) go here h = settled_wrong (suc k) text e h (some_line_wrong d.stage (k + 1) d rest e here)

settle : (fuel k : ℕ) (text : List ℕ) (d : Draft) (rest : List ℕ) → length rest ≤ fuel → after_lines k text ≡ Ok (d, rest) → Settled text
settle fuel k text d [] le h =
    settled_nothing d.stage k text d refl h (λ other. inr (k + 1, (kind.Ending, (suc k, next_lines k text d [] (Err (fault.Fault (k + 1) kind.Ending)) h (line_at-none (k + 1) d other)))))
settle zero k text d (b ∷ bs) le h = absurd (omega arith)
settle (suc fuel) k text d (b ∷ bs) le h =
    settle-some fuel k text d (b ∷ bs) (some_line_at d.stage (k + 1) d (b ∷ bs)) (λ j now after lt there. settle fuel j text now after (omega arith) there) refl
    (next_lines k text d (b ∷ bs) (some_line_at d.stage (k + 1) d (b ∷ bs)) h (line_at-cons (k + 1) d b bs))

begun : (text : List ℕ) → after_lines 0 text ≡ Ok (no_lines, text)
unfolding after_lines
begun text = refl

pub value-or_fault : (text : List ℕ) → ((l : Lll) × (text ≡ spelling l)) ⊎ ((line : ℕ) × ((k : LllKind) × IsFaultOf text line k))
value-or_fault text =
    elim (settle (length text) 0 text no_lines text (omega arith) (begun text)) [
      | inl r ↦ let h = (whole text r.0 r.1).is_lll in inl (value_of r.0 h, spelled_so text r.0 h r.1)
      | inr f ↦ inr f
    ]

-- ---- lines are counted

lines_more : (k : ℕ) (text mid rest : List ℕ) → FirstLines k text mid → Line mid rest → FirstLines (suc k) text rest
lines_more k text mid rest a l = record {
  front = a.front ++ l.used;
  parts = glue text a.front mid l.used rest a.parts l.parts;
  count = omega (arith, line_feeds-append a.front l.used, a.count, l.ends);
  whole = inr (a.front ++ l.before, ap (λ (t : List ℕ). a.front ++ t) l.used_is ∙ sym (append_assoc a.front l.before (codes "\n")));
}

none_more : (st : Stage) (n : ℕ) (d : Draft) (x : Draft × List ℕ) → d.stage ≡ st → no_line_at st n d ≡ Ok x → x.0.stage ≡ stage.End
none_more stage.Header n d x at e = absurd cc
none_more stage.Signals n d x at e = absurd cc
none_more stage.Keep n d x at e = absurd cc
none_more stage.Lists n d x at e = absurd cc
none_more stage.End n d x at e = ap (λ (y : Draft × List ℕ). y.0.stage) (sym (ok_is {F = LllFault} (d, []) x e)) ∙ at

some_went_on : (st : Stage) (n : ℕ) (d : Draft) (rest : List ℕ) (x : Draft × List ℕ) → some_line_at st n d rest ≡ Ok x → st ≡ stage.End → ⊥
some_went_on stage.Header n d rest x e h = cc
some_went_on stage.Signals n d rest x e h = cc
some_went_on stage.Keep n d rest x e h = cc
some_went_on stage.Lists n d rest x e h = cc
some_went_on stage.End n d rest x e h = absurd cc

line_counted : (n k : ℕ) (text : List ℕ) (d : Draft) (rest : List ℕ) (x : Draft × List ℕ) → ((d.stage ≡ stage.End → ⊥) → FirstLines k text rest) → line_at n d rest ≡ Ok x → (x.0.stage ≡ stage.End → ⊥) → FirstLines (suc k) text x.1
unfolding line_at
line_counted n k text d [] x before e other = absurd (other (none_more d.stage n d x refl e))
line_counted n k text d (b ∷ bs) x before e other = lines_more k text (b ∷ bs) x.1 (before (some_went_on d.stage n d (b ∷ bs) x e)) (some_line_used d.stage n d (b ∷ bs) x e)

pub lines_counted : (k : ℕ) (text : List ℕ) (x : Draft × List ℕ) → after_lines k text ≡ Ok x → (x.0.stage ≡ stage.End → ⊥) → FirstLines k text x.1
unfolding after_lines line_feeds
lines_counted zero text x e other = subst (λ (y : Draft × List ℕ). FirstLines 0 text y.1) (ok_is {F = LllFault} (no_lines, text) x e) (record { front = []; parts = refl; count = refl; whole = inl refl })
lines_counted (suc k) text x e other =
    let s = stepped (after_lines k text) (λ so_far. line_at (k + 1) so_far.0 so_far.1) x e in
    line_counted (k + 1) k text s.value.0 s.value.1 x (λ open_case. lines_counted k text s.value s.first open_case) s.second other
