-- One line more of a text that comes in pieces.
use Rattle.std.proofs.Common.{◌≡◌, ℕ, suc, ◌+◌, ◌^◌, ◌<◌, ◌≤◌, Bool, true, false, cond, List, [], ◌∷◌, ◌++◌, length, take, drop, get_or, Some, None, refl, sym, ap, subst, ◌∙◌, append_assoc, length-append, drop-cons, arith}
use Rattle.std.specs.Prelude.{Option, nat_eq, nat_lt, not, codes}
use Rattle.std.specs.List.{position, position_or_len}
use Rattle.std.proofs.lemmas.Bool.{eqb-true, ltb-false}
use Rattle.std.proofs.lemmas.List.{append-nil, take-append-drop, get_or-take, length-take}
use Rattle.std.proofs.lemmas.List.Quantifiers.{position-Some}
use Rattle.std.proofs.lemmas.List.Sums.{fails_before_first, list_all-from_AllPass}
use Rattle.lll_text.specs.Spelling.{line}
use Rattle.lll_text.proofs.Consumed.{line_feeds-append}
use Rattle.evidence.specs.declared.reader_feed.Feed.{Feed}
use Rattle.evidence.specs.Begun.{AddsLine}
use Rattle.evidence.specs.Standing.{IsWithinLine, IsFine, TakesLine}
use Rattle.evidence.specs.declared.reader_progress.Progress.{Progress}
use Rattle.evidence.specs.declared.claims_judged.Judged.{Judged}
use Rattle.evidence.specs.declared.reader_said.Said.{Said}
use Rattle.evidence.specs.Stands.{AreRead, IsReading, IsReadingShort, Keeps}
use Rattle.evidence.specs.Telling.{Tells, KeepsStep, IsLineRead, IsToBeJudged, KeepsOn}
use Rattle.evidence.proofs.Cutting.{avoids-append}
use Rattle.evidence.proofs.LineFeeds.{feeds_of_line, few_feeds}
use Rattle.evidence.proofs.BegunTurns.{begun_more}
use Rattle.evidence.proofs.LinesRead.{one_line_more}

pub both_within : (xs ys : List ℕ) → IsWithinLine xs → IsWithinLine ys → IsWithinLine (xs ++ ys)
both_within xs ys p q = avoids-append 10 xs ys p q

-- the line that is whole then
whole : (f : Feed) (rest content bytes : List ℕ) (r : IsReading f bytes) → content ≡ f.pending.items ++ rest → bytes ++ line rest ≡ r.front ++ line content
whole f rest content bytes r is =
    ap (λ (t : List ℕ). t ++ line rest) r.parts ∙ append_assoc r.front f.pending.items (line rest)
    ∙ ap (λ (t : List ℕ). r.front ++ t) (sym (append_assoc f.pending.items rest (codes "\n")) ∙ ap (λ (t : List ℕ). line t) (sym is))

-- lines that are short are few
pub few_lines : (f : Feed) (more : List ℕ) → IsReadingShort f more → f.line < 2 ^ 62
few_lines f more s =
    let r = s.reading in
    omega (arith, s.short, length-append s.bytes more, ap (λ (t : List ℕ). length t) r.parts, length-append r.front f.pending.items, few_feeds r.front, r.number)

line_is_read : (f : Feed) (q : Progress) (content bytes : List ℕ) (says : Said) (r : IsReading f bytes) → f.line < 2 ^ 62 → IsFine q.stage q → Tells f.progress content q says → IsLineRead r.front content f.progress f.line says q
line_is_read f q content bytes says r few fine tells = record { begun = r.read.begun; fine = fine; at = r.number; few = few; tells = tells }

pub to_be_judged : (f : Feed) (q : Progress) (rest content : List ℕ) (says : Said) → content ≡ f.pending.items ++ rest → IsReadingShort f (line rest) → IsFine q.stage q → Tells f.progress content q says → IsToBeJudged f.judged f.line says q
to_be_judged f q rest content says is s fine tells =
    let r = s.reading in
    record {
      front = r.front;
      content = content;
      p = f.progress;
      read = line_is_read f q content s.bytes says r (few_lines f (line rest) s) fine tells;
      step = r.judged;
      short = subst (λ (t : List ℕ). length t ≤ 2 ^ 30) (whole f rest content s.bytes r is) s.short;
    }

-- the rest of a line
pub line_read : (f g : Feed) (rest content : List ℕ) (says : Said) → content ≡ f.pending.items ++ rest → IsWithinLine content → g.pending.items ≡ [] → g.line ≡ f.line + 1 → f.line < 2 ^ 62 → TakesLine f.progress content g.progress → IsFine g.progress.stage g.progress
    → AddsLine f.progress.stage f.progress f.line content g.progress → Tells f.progress content g.progress says → KeepsOn f.judged f.line says g.progress g.judged
    → (bytes : List ℕ) → IsReading f bytes → IsReading g (bytes ++ line rest)
line_read f g rest content says is within empty number few takes fine adds tells keeps bytes r = record {
  front = r.front ++ line content;
  parts = whole f rest content bytes r is ∙ sym (append-nil (r.front ++ line content)) ∙ ap (λ (t : List ℕ). (r.front ++ line content) ++ t) (sym empty);
  within = subst IsWithinLine (sym empty) refl;
  number = omega (arith, number, r.number, line_feeds-append r.front (line content), feeds_of_line content within);
  read = one_line_more r.front content f.progress g.progress r.read takes (begun_more r.front content f.progress g.progress f.line r.number within r.fine r.read.begun adds);
  fine = fine;
  judged = keeps r.front content f.progress (line_is_read f g.progress content bytes says r few fine tells) r.judged;
}

-- ---- where the first line feed stands

abbrev is_feed : ℕ → Bool
is_feed b = nat_eq b 10

pub record IsCutAt (text : List ℕ) (n : ℕ) : Type 0 where
  pub inside : n < length text
  pub parts : text ≡ line (take n text) ++ drop (n + 1) text
  pub within : IsWithinLine (take n text)

front_within : (text : List ℕ) (n : ℕ) → ((k d : ℕ) → k < n → is_feed (get_or text k d) ≡ false) → IsWithinLine (take n text)
front_within text n below =
    list_all-from_AllPass (λ b. not (nat_eq b 10)) (take n text)
    (λ k d lt. let inside : k < n = omega (arith, lt, length-take n text) in ap (λ b. not (nat_eq b 10)) (get_or-take n text k d inside) ∙ ap not (below k d inside))

pub cut_at : (text : List ℕ) (n : ℕ) → position is_feed text ≡ Some n → IsCutAt text n
cut_at text n e =
    let found = position-Some is_feed text n 0 e in
    let next : suc n ≡ n + 1 = omega arith in
    record {
      inside = found.0;
      parts = sym (take-append-drop n text) ∙ ap (λ (t : List ℕ). take n text ++ t)
          (drop-cons text n 0 found.0 ∙ ap (λ (m : ℕ). get_or text n 0 ∷ drop m text) next ∙ ap (λ b. b ∷ drop (n + 1) text) (eqb-true (get_or text n 0) 10 found.1))
          ∙ sym (append_assoc (take n text) (codes "\n") (drop (n + 1) text));
      within = front_within text n (λ k d lt. (position-Some is_feed text n d e).2 k lt);
    }

beyond : (v : Bool) (n : ℕ) → cond v (Some n) None ≡ None → v ≡ false
beyond true n e = absurd cc
beyond false n e = refl

pub uncut : (text : List ℕ) → position is_feed text ≡ None → IsWithinLine text
uncut text e =
    let past : length text ≤ position_or_len is_feed text = ltb-false _ _ (beyond (nat_lt (position_or_len is_feed text) (length text)) (position_or_len is_feed text) e) in
    list_all-from_AllPass (λ b. not (nat_eq b 10)) text (λ k d lt. ap not (fails_before_first is_feed text k d (omega (arith, past, lt))))

-- ---- a piece

-- so far of a piece is read
pub record IsReadTo (piece : List ℕ) (before now : Feed) (rest : List ℕ) : Type 0 where
  pub done : List ℕ
  pub parts : piece ≡ done ++ rest
  pub reading : (bytes : List ℕ) → IsReading before bytes → IsReading now (bytes ++ done)
  pub fine : IsFine now.progress.stage now.progress
  pub within : IsWithinLine now.pending.items
  pub number : now.line + length rest ≤ before.line + length piece
  pub keeps : Keeps before now

pub begun : (piece : List ℕ) (f : Feed) → IsFine f.progress.stage f.progress → IsWithinLine f.pending.items → IsReadTo piece f f piece
begun piece f fine within = record {
  done = [];
  parts = refl;
  reading = λ bytes r. subst (IsReading f) (sym (append-nil bytes)) r;
  fine = fine;
  within = within;
  number = omega arith;
  keeps = record { bytes = refl; form = refl; failed = refl };
}

pub keeps_on : (f g h : Feed) → Keeps f g → Keeps g h → Keeps f h
keeps_on f g h x y = record { bytes = y.bytes ∙ x.bytes; form = y.form ∙ x.form; failed = y.failed ∙ x.failed }

pub one_line : (piece : List ℕ) (f g h : Feed) (rest front back : List ℕ) → IsReadTo piece f g rest → rest ≡ line front ++ back → IsFine h.progress.stage h.progress → h.pending.items ≡ [] → h.line ≡ g.line + 1
    → Keeps g h → ((bytes : List ℕ) → IsReading g bytes → IsReading h (bytes ++ line front)) → IsReadTo piece f h back
one_line piece f g h rest front back so_far cut fine empty number keeps more = record {
  done = so_far.done ++ line front;
  parts = so_far.parts ∙ ap (λ (t : List ℕ). so_far.done ++ t) cut ∙ sym (append_assoc so_far.done (line front) back);
  reading = λ bytes r. subst (IsReading h) (append_assoc bytes so_far.done (line front)) (more (bytes ++ so_far.done) (so_far.reading bytes r));
  fine = fine;
  within = subst IsWithinLine (sym empty) refl;
  number = omega (arith, so_far.number, number, ap (λ (t : List ℕ). length t) cut, length-append (line front) back, length-append front (codes "\n"));
  keeps = keeps_on f g h so_far.keeps keeps;
}

-- the next line is short too
pub still_short : (piece : List ℕ) (f g : Feed) (rest front back : List ℕ) → IsReadTo piece f g rest → rest ≡ line front ++ back → IsReadingShort f piece → IsReadingShort g (line front)
still_short piece f g rest front back so_far cut s = record {
  bytes = s.bytes ++ so_far.done;
  reading = so_far.reading s.bytes s.reading;
  short = omega (
    arith,
    s.short,
    length-append s.bytes piece,
    length-append s.bytes so_far.done,
    length-append (s.bytes ++ so_far.done) (line front),
    ap (λ (t : List ℕ). length t) so_far.parts,
    length-append so_far.done rest,
    ap (λ (t : List ℕ). length t) cut,
    length-append (line front) back,
  );
}

pub all_of_it : (piece : List ℕ) (f g h : Feed) (rest : List ℕ) → IsReadTo piece f g rest → IsWithinLine rest → h.pending.items ≡ g.pending.items ++ rest → h.line ≡ g.line → h.progress ≡ g.progress → h.judged ≡ g.judged → (bytes : List ℕ) → IsReading f bytes → IsReading h (bytes ++ piece)
all_of_it piece f g h rest so_far within pending number same judged bytes r =
    let now = so_far.reading bytes r in
    record {
      front = now.front;
      parts = ap (λ (t : List ℕ). bytes ++ t) so_far.parts ∙ sym (append_assoc bytes so_far.done rest) ∙ ap (λ (t : List ℕ). t ++ rest) now.parts ∙ append_assoc now.front g.pending.items rest
          ∙ ap (λ (t : List ℕ). now.front ++ t) (sym pending);
      within = subst IsWithinLine (sym pending) (both_within g.pending.items rest now.within within);
      number = number ∙ now.number;
      read = subst (λ (p : Progress). AreRead now.front p) (sym same) now.read;
      fine = subst (λ (p : Progress). IsFine p.stage p) (sym same) now.fine;
      judged = subst (λ (o : Option Judged). KeepsStep h.progress.stage now.front h.progress o) (sym judged) (subst (λ (p : Progress). KeepsStep p.stage now.front p g.judged) (sym same) now.judged);
    }
