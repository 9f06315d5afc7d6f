-- What a reader in pieces stands for, piece by piece, and what it answers at the end.
use Rattle.std.proofs.Common.{◌≡◌, ℕ, ◌+◌, ◌-◌, ◌^◌, ◌<◌, ◌≤◌, min, true, false, List, [], ◌++◌, length, Some, None, refl, sym, ap, subst, ◌∙◌, append_assoc, length-append, is_some, arith}
use Rattle.std.specs.Prelude.{Option, Result, Ok, Err, codes}
use Rattle.std.proofs.lemmas.List.{append-nil}
use Rattle.lll_text.specs.Spelling.{line}
use Rattle.evidence.specs.declared.evidence.Evidence.{Evidence}
use Rattle.evidence.specs.declared.reader_feed.Feed.{Feed}
use Rattle.evidence.specs.declared.reader_progress.Stage.TheVariants as stage
use Rattle.evidence.specs.declared.unread.Unread.{Unread}
use Rattle.evidence.specs.declared.unread.Unread.TheVariants as unread
use Rattle.evidence.specs.Begun.{EndsEarly}
use Rattle.evidence.specs.Counts.{IsTextOf}
use Rattle.evidence.specs.Reading.{IsFormAt}
use Rattle.evidence.specs.Standing.{MayFollow, IsWithinLine, IsFine, IsWrong}
use Rattle.evidence.specs.declared.fault.EvidenceFault.{EvidenceFault}
use Rattle.evidence.specs.declared.fault.EvidenceFault.TheVariants as fault
use Rattle.evidence.specs.declared.summary.Line.{Line}
use Rattle.evidence.specs.declared.summary.Summary.{Summary}
use Rattle.evidence.specs.Checking.{Answers}
use Rattle.evidence.specs.Stands.{IsReading, IsReadingShort, FailsIn, Keeps, IsFed}
use Rattle.evidence.specs.Telling.{KeepsStep, HasAllRead, AnswersValue, AnswersAll}
use Rattle.evidence.proofs.FeedTurns.{IsReadTo, both_within}
use Rattle.evidence.proofs.LineFeeds.{few_feeds}
use Rattle.evidence.proofs.WrongTurns.{wrong_line, wrong_end}

-- ---- a line of a piece is wrong

regroup : (x p f n k m : List ℕ) → ((x ++ p) ++ ((f ++ n) ++ k)) ++ m ≡ x ++ (((p ++ f) ++ n) ++ (k ++ m))
regroup x p f n k m = simp append_assoc

pub piece_wrong : (piece : List ℕ) (f g : Feed) (rest front back : List ℕ) (why : Unread) → IsReadTo piece f g rest → rest ≡ line front ++ back → IsWithinLine front → IsWrong g.progress g.line (g.pending.items ++ front) why → FailsIn f piece why
piece_wrong piece f g rest front back unread.Memory so_far cut within h = tt
piece_wrong piece f g rest front back (unread.Form wrong) so_far cut within h = λ bytes more r short.
    let now = so_far.reading bytes r in
    let content = g.pending.items ++ front in
    let all : bytes ++ piece ≡ (now.front ++ g.pending.items) ++ (line front ++ back) =
    ap (λ (t : List ℕ). bytes ++ t) (so_far.parts ∙ ap (λ (t : List ℕ). so_far.done ++ t) cut) ∙ sym (append_assoc bytes so_far.done (line front ++ back)) ∙ ap (λ (t : List ℕ). t ++ (line front ++ back)) now.parts in
    let size : length (now.front ++ line content) ≤ 2 ^ 30 =
    omega (
      arith,
      short,
      ap (λ (t : List ℕ). length t) all,
      length-append (now.front ++ g.pending.items) (line front ++ back),
      length-append now.front g.pending.items,
      length-append (line front) back,
      length-append front (codes "\n"),
      length-append now.front (line content),
      length-append content (codes "\n"),
      length-append g.pending.items front,
    ) in
    subst (λ (t : List ℕ). IsFormAt t wrong) (sym (ap (λ (t : List ℕ). t ++ more) all ∙ regroup now.front g.pending.items front (codes "\n") back more))
    (wrong_line g.progress g.line wrong now.front content (back ++ more) now.read now.fine (both_within g.pending.items front so_far.within within) now.number size h)

-- ---- what a piece needs

pub no_form : (o : Option ℕ) → is_some o ≡ false → o ≡ None
no_form (Some n) e = absurd cc
no_form None e = refl

pub some_form : (o : Option ℕ) → is_some o ≡ true → ¬ (o ≡ None)
some_form (Some n) e none = cc
some_form None e none = cc

-- the count after a piece
pub counted : (f : Feed) (bytes piece : List ℕ) (now : ℕ) → IsFed f bytes → now ≡ min (f.bytes + length piece) (2 ^ 64 - 1) → now ≡ min (length (bytes ++ piece)) (2 ^ 64 - 1)
counted f bytes piece now fed e = omega (arith, e, fed.count, length-append bytes piece)

-- no more bytes than a file may have
pub short : (f : Feed) (bytes piece : List ℕ) (now : ℕ) → IsFed f bytes → now ≡ min (f.bytes + length piece) (2 ^ 64 - 1) → now ≤ 2 ^ 30 → length (bytes ++ piece) ≤ 2 ^ 30
short f bytes piece now fed e few = omega (arith, e, few, fed.count, length-append bytes piece)

-- what the lines need
pub record IsReady (f : Feed) (count : ℕ) : Type 0 where
  pub fine : IsFine f.progress.stage f.progress
  pub pending : IsWithinLine f.pending.items
  pub number : f.line + count < 2 ^ 64 - 1

pub ready : (f : Feed) (bytes piece : List ℕ) (now : ℕ) → IsFed f bytes → now ≡ min (f.bytes + length piece) (2 ^ 64 - 1) → now ≤ 2 ^ 30 → f.form ≡ None → IsReady f (length piece)
ready f bytes piece now fed e few none =
    let size = short f bytes piece now fed e few in
    let r = fed.reading none (omega (arith, size, length-append bytes piece)) in
    record {
      fine = r.fine;
      pending = r.within;
      number = omega (arith, size, length-append bytes piece, r.number, few_feeds r.front, ap (λ (t : List ℕ). length t) r.parts, length-append r.front f.pending.items);
    }

-- ---- after a piece

-- none is read any more
pub counts_on : (f : Feed) (bytes piece : List ℕ) (now : ℕ) → now ≡ min (f.bytes + length piece) (2 ^ 64 - 1) → (f.form ≡ None → 2 ^ 30 < now) → IsFed f bytes → IsFed (record f { bytes = now }) (bytes ++ piece)
counts_on f bytes piece now e past fed = record {
  count = counted f bytes piece now fed e;
  reading = λ none few. absurd (omega (arith, past none, counted f bytes piece now fed e, few));
  wrong = λ line is more. subst (λ (t : List ℕ). IsFormAt t line) (sym (append_assoc bytes piece more)) (fed.wrong line is (piece ++ more));
}

-- the same lines, with another count
recount : (f : Feed) (bytes : List ℕ) (now : ℕ) → IsReading f bytes → IsReading (record f { bytes = now }) bytes
recount f bytes now r = record { front = r.front; parts = r.parts; within = r.within; number = r.number; read = r.read; fine = r.fine; judged = r.judged }

pub reading_short : (f : Feed) (bytes piece : List ℕ) (now : ℕ) → IsFed f bytes → now ≡ min (f.bytes + length piece) (2 ^ 64 - 1) → now ≤ 2 ^ 30 → f.form ≡ None → IsReadingShort (record f { bytes = now }) piece
reading_short f bytes piece now fed e few none =
    let size = short f bytes piece now fed e few in
    record { bytes = bytes; reading = recount f bytes now (fed.reading none (omega (arith, size, length-append bytes piece))); short = size }

-- its lines are read
pub reads_on : (f h : Feed) (bytes piece : List ℕ) (now : ℕ) → now ≡ min (f.bytes + length piece) (2 ^ 64 - 1) → now ≤ 2 ^ 30 → f.form ≡ None → Keeps (record f { bytes = now }) h
    → ((b : List ℕ) → IsReading (record f { bytes = now }) b → IsReading h (b ++ piece)) → IsFed f bytes → IsFed h (bytes ++ piece)
reads_on f h bytes piece now e few none keeps reading fed = record {
  count = keeps.bytes ∙ counted f bytes piece now fed e;
  reading = λ _ size. reading bytes (recount f bytes now (fed.reading none (omega (arith, size, length-append bytes piece))));
  wrong = λ line is more. absurd (let h : None ≡ Some line = sym none ∙ sym keeps.form ∙ is in cc);
}

-- one of them is wrong
pub stops_at : (f h : Feed) (bytes piece : List ℕ) (now wrong : ℕ) → now ≡ min (f.bytes + length piece) (2 ^ 64 - 1) → now ≤ 2 ^ 30 → f.form ≡ None → Keeps (record f { bytes = now }) h
    → FailsIn (record f { bytes = now }) piece (unread.Form wrong) → IsFed f bytes → IsFed (record h { form = Some wrong }) (bytes ++ piece)
stops_at f h bytes piece now wrong e few none keeps fails fed = record {
  count = keeps.bytes ∙ counted f bytes piece now fed e;
  reading = λ other size. absurd cc;
  wrong = λ line is more.
      let same : wrong ≡ line = cc in
      let size = short f bytes piece now fed e few in
      subst (IsFormAt ((bytes ++ piece) ++ more)) same (fails bytes more (recount f bytes now (fed.reading none (omega (arith, size, length-append bytes piece)))) size);
}

-- ---- the end

pub long : (f : Feed) (bytes : List ℕ) → IsFed f bytes → 2 ^ 30 < f.bytes → 2 ^ 30 < length bytes
long f bytes fed lt = omega (arith, fed.count, lt)

pub not_long : (f : Feed) (bytes : List ℕ) → IsFed f bytes → f.bytes ≤ 2 ^ 30 → length bytes ≤ 2 ^ 30
not_long f bytes fed le = omega (arith, fed.count, le)

pub wrong_before : (f : Feed) (bytes : List ℕ) (line : ℕ) → IsFed f bytes → f.form ≡ Some line → IsFormAt bytes line
wrong_before f bytes line fed is = subst (λ (t : List ℕ). IsFormAt t line) (append-nil bytes) (fed.wrong line is [])

-- all lines are read, and their claims are judged
record IsReadToEnd (f : Feed) (bytes : List ℕ) : Type 0 where
  short : length bytes ≤ 2 ^ 30
  value : Evidence
  text : IsTextOf bytes value
  step : KeepsStep stage.End bytes f.progress f.judged

read_to_end : (f : Feed) (bytes : List ℕ) → IsFed f bytes → f.bytes ≤ 2 ^ 30 → f.form ≡ None → f.progress.stage ≡ stage.End → f.pending.items ≡ [] → IsReadToEnd f bytes
read_to_end f bytes fed le none at nothing =
    let size = not_long f bytes fed le in
    let r = fed.reading none size in
    let there = r.read.there [] (subst (λ s. MayFollow s f.progress []) (sym at) refl) in
    let same : r.front ++ [] ≡ bytes = ap (λ (t : List ℕ). r.front ++ t) (sym nothing) ∙ sym r.parts in
    record {
      short = size;
      value = there.0;
      text = subst (λ (t : List ℕ). IsTextOf t there.0) same there.1;
      step = subst (λ (t : List ℕ). KeepsStep stage.End t f.progress f.judged) (sym (append-nil r.front) ∙ same) (subst (λ s. KeepsStep s r.front f.progress f.judged) at r.judged);
    }

pub all_judged : (f : Feed) (bytes : List ℕ) → IsFed f bytes → f.bytes ≤ 2 ^ 30 → f.form ≡ None → f.progress.stage ≡ stage.End → f.pending.items ≡ [] → HasAllRead f.judged
all_judged f bytes fed le none at nothing = record { front = bytes; p = f.progress; step = (read_to_end f bytes fed le none at nothing).step }

value_answers : (bytes : List ℕ) (e : Evidence) (result : Result Summary EvidenceFault) → length bytes ≤ 2 ^ 30 → IsTextOf bytes e → AnswersValue e result → Answers bytes result
value_answers bytes e (Ok summary) short text answers = (short, (e, text, answers.0, answers.1))
value_answers bytes e (Err fault.Failed) short text answers = answers
value_answers bytes e (Err fault.Long) short text answers = absurd answers
value_answers bytes e (Err (fault.Form line)) short text answers = absurd answers
value_answers bytes e (Err (fault.Refused line why)) short text answers = (short, (e, text, answers))
value_answers bytes e (Err fault.Memory) short text answers = tt

pub all_read : (f : Feed) (bytes : List ℕ) (lines : List Line) (result : Result Summary EvidenceFault) → IsFed f bytes → f.bytes ≤ 2 ^ 30 → f.form ≡ None → f.progress.stage ≡ stage.End → f.pending.items ≡ [] → lines ≡ f.progress.lines
    → AnswersAll f.judged lines result → Answers bytes result
all_read f bytes lines result fed le none at nothing same answers =
    let x = read_to_end f bytes fed le none at nothing in
    value_answers bytes x.value result x.short x.text (answers bytes f.progress x.step same x.value x.text)

pub ends_early : (f : Feed) (bytes : List ℕ) (wrong : ℕ) → IsFed f bytes → f.bytes ≤ 2 ^ 30 → f.form ≡ None → EndsEarly f.progress.stage f.progress f.line f.pending.items (unread.Form wrong) → IsFormAt bytes wrong
ends_early f bytes wrong fed le none early =
    let size = not_long f bytes fed le in
    let r = fed.reading none size in
    subst (λ (t : List ℕ). IsFormAt t wrong) (sym r.parts)
    (wrong_end f.progress f.line wrong r.front f.pending.items r.read r.fine r.within r.number (subst (λ (t : List ℕ). length t ≤ 2 ^ 30) r.parts size) early)
