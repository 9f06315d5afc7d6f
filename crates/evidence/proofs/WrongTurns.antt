-- A line that isn't read, and bytes that end too early: the line is the first wrong one.
use Rattle.std.proofs.Common.{◌≡◌, ℕ, ◌+◌, ◌-◌, ◌^◌, ◌<◌, ◌≤◌, min, List, [], ◌++◌, length, refl, sym, ap, subst, ◌∙◌, append_assoc, length-append, inl, inr, arith}
use Rattle.std.specs.Prelude.{codes}
use Rattle.std.specs.List.{flat_map}
use Rattle.std.proofs.lemmas.List.{append-nil}
use Rattle.lll_core.specs.declared.lll.Lll.{Lll}
use Rattle.lll_text.specs.Lines.{line_feeds, IsFaultOf}
use Rattle.lll_text.specs.Spelling.{line, spelling}
use Rattle.lll_text.proofs.Consumed.{line_feeds-append}
use Rattle.evidence.specs.declared.evidence.Evidence.{Evidence}
use Rattle.evidence.specs.declared.reader_progress.Progress.{Progress}
use Rattle.evidence.specs.declared.reader_progress.Stage.{Stage}
use Rattle.evidence.specs.declared.reader_progress.Stage.TheVariants as stage
use Rattle.evidence.specs.declared.unread.Unread.TheVariants as unread
use Rattle.evidence.specs.Begun.{numbers_read, before_first, before_second, IsInModel, IsBegun, EndsEarly, EndsInModel}
use Rattle.evidence.specs.Counts.{HasText, IsTextOf}
use Rattle.evidence.specs.Reading.{IsModelFront, IsFormAt}
use Rattle.evidence.specs.declared.reader_due.Bounds.{Bounds}
use Rattle.evidence.specs.declared.reader_due.Due.{Due}
use Rattle.evidence.specs.Rests.{IsRest, rows_text}
use Rattle.evidence.specs.Rests.{models_text as models_of}
use Rattle.evidence.specs.Spelling.{number_line, numbers_text, first_model_text, models_text, step_line, logs_text, equal_text, entries_text, part_count, text}
use Rattle.evidence.specs.Standing.{MayFollow, IsWrongLine, IsWrongModel, IsWrong, IsWrongBy, IsWithinLine, IsFine, HasNumbers}
use Rattle.evidence.specs.Stands.{AreRead}
use Rattle.evidence.proofs.Cutting.{same_rest}
use Rattle.evidence.proofs.EqualTurn.{text_after_models}
use Rattle.evidence.proofs.FirstWrong.{behind}
use Rattle.evidence.proofs.FormLines.{PastModels, NoLineMore, no_line_more, no_line_in, past_few, past_first, past_models, numbers_feeds, form_outside, form_inside}
use Rattle.evidence.proofs.Headings.{text_from_first, text_from_start, text_from_conflicts}
use Rattle.evidence.proofs.LineFeeds.{EndsLine, none_in_nothing, few_feeds, feeds_of_line, no_feeds, no_lines, ends_tail, nothing_left}
use Rattle.evidence.proofs.ModelEnds.{faulty_is_none, cut_is_none}
use Rattle.evidence.proofs.ModelFaults.{fault_goes_on, fault_is_near}
use Rattle.evidence.proofs.Models.{text_from_second}
use Rattle.evidence.proofs.RestGiven.{some_rest}
use Rattle.evidence.proofs.SampleValue.{one_signal, sample, sample_fits}

-- the next line is none of a model
abbrev IsOutside : Stage → Type 0
IsOutside stage.Header = Unit {0}
IsOutside stage.Depth = Unit {0}
IsOutside stage.Conflicts = Unit {0}
IsOutside stage.FirstHeading = Unit {0}
IsOutside stage.FirstModel = ⊥
IsOutside stage.SecondHeading = Unit {0}
IsOutside stage.SecondModel = ⊥
IsOutside stage.Equal = Unit {0}
IsOutside stage.Body = Unit {0}
IsOutside stage.End = Unit {0}

sample_of : (p : Progress) (a b : Lll) → HasNumbers p → HasText (sample p.depth p.conflicts a b)
sample_of p a b n = sample_fits p.depth p.conflicts a b n.some_depth n.depth_bound n.some_conflicts n.conflicts_bound

-- ---- the lines are past the models that begin in them

few_numbers : (p : Progress) → HasNumbers p → line_feeds (numbers_read p) ≡ 3
few_numbers p n = numbers_feeds p.depth p.conflicts (omega (arith, n.depth_bound)) (omega (arith, n.conflicts_bound))

past_at : (s : Stage) (p : Progress) (front : List ℕ) → IsOutside s → IsFine s p → IsBegun s p front → PastModels front
past_at stage.Header p front out fine b = past_few front (omega (arith, ap line_feeds b, none_in_nothing))
past_at stage.Depth p front out fine b = past_few front (omega (arith, ap line_feeds b, feeds_of_line (codes "hll-evidence 1") refl))
past_at stage.Conflicts p front out fine b =
    past_few front (omega (arith, ap line_feeds b, few_depth p.depth (omega (arith, fine.2))))
  where
    few_depth : (d : ℕ) → d < 2 ^ 64 → line_feeds (line (codes "hll-evidence 1") ++ number_line (codes "depth") d) ≤ 3
    few_depth d lt = omega (arith, numbers_feeds d 1 lt (omega arith), line_feeds-append (line (codes "hll-evidence 1") ++ number_line (codes "depth") d) (number_line (codes "conflicts") 1))
past_at stage.FirstHeading p front out fine b = past_few front (omega (arith, ap line_feeds b, few_numbers p fine.1))
past_at stage.FirstModel p front out fine b = absurd out
past_at stage.SecondHeading p front out fine b = subst PastModels (sym b.2) (past_first (sample p.depth p.conflicts b.0 b.0) (sample_of p b.0 b.0 fine.1))
past_at stage.SecondModel p front out fine b = absurd out
past_at stage.Equal p front out fine b = subst PastModels (sym b.2.1) (past_models b.0 b.2.0 b.1)
past_at stage.Body p front out fine b = subst PastModels (sym b.2.1) (past_models b.0 b.2.0 b.1)
past_at stage.End p front out fine b = subst PastModels (sym b.2.1) (past_models b.0 b.2.0 b.1)

-- ---- some bytes may follow

abbrev Follows : Stage → Progress → Type 0
Follows s p = (more : List ℕ) × MayFollow s p more

follows_at : (s : Stage) (p : Progress) → IsOutside s → IsFine s p → Follows s p
follows_at stage.Header p out fine =
    let e = sample 1 1 one_signal one_signal in
    (text e, record { value = e; fits = sample_fits 1 1 one_signal one_signal (omega arith) (omega arith) (omega arith) (omega arith); agrees = tt; spelled = refl })
follows_at stage.Depth p out fine =
    let e = sample 1 1 one_signal one_signal in
    (_, record { value = e; fits = sample_fits 1 1 one_signal one_signal (omega arith) (omega arith) (omega arith) (omega arith); agrees = tt; spelled = text_from_start e })
follows_at stage.Conflicts p out fine =
    let e = sample p.depth 1 one_signal one_signal in
    (_, record { value = e; fits = sample_fits p.depth 1 one_signal one_signal fine.1 fine.2 (omega arith) (omega arith); agrees = refl; spelled = text_from_conflicts e })
follows_at stage.FirstHeading p out fine =
    let e = sample p.depth p.conflicts one_signal one_signal in
    (_, record { value = e; fits = sample_of p one_signal one_signal fine.1; agrees = (refl, refl); spelled = text_from_first e })
follows_at stage.FirstModel p out fine = absurd out
follows_at stage.SecondHeading p out fine =
    let a = fine.2.0 in
    let e = sample p.depth p.conflicts a a in
    (_, record { value = e; fits = sample_of p a a fine.1; agrees = (refl, refl, fine.2.1.is); spelled = text_from_second e })
follows_at stage.SecondModel p out fine = absurd out
follows_at stage.Equal p out fine =
    let a = fine.2.0 in
    let b = fine.3.0 in
    let e = sample p.depth p.conflicts a b in
    (_, record { value = e; fits = sample_of p a b fine.1; agrees = (refl, refl, fine.2.1.is, fine.3.1.is); spelled = text_after_models e })
follows_at stage.Body p out fine =
    let a = fine.1.0 in
    let rest = some_rest p.bounds a p.due (omega (arith, fine.1.1.depth, fine.0.some_depth)) in
    (rest.0, (a, fine.1.1.is, rest.1))
follows_at stage.End p out fine = ([], refl)

-- ---- outside the models

wrong_by : (s : Stage) (p : Progress) (front rest : List ℕ) → p.stage ≡ s → IsOutside s → AreRead front p → IsFine p.stage p → NoLineMore front rest → ((e : Evidence) → ¬ (IsTextOf (front ++ rest) e)) → IsFormAt (front ++ rest) (line_feeds front + 1)
wrong_by s p front rest at out read fine none no_text =
    let fine_s = subst (λ t. IsFine t p) at fine in
    let begun_s = subst (λ t. IsBegun t p front) at read.begun in
    let more = follows_at s p out fine_s in
    let there = read.there more.0 (subst (λ t. MayFollow t p more.0) (sym at) more.1) in
    form_outside front rest (past_at s p front out fine_s begun_s) none more.0 there.0 read.whole there.1 no_text

line_outside : (s : Stage) (p : Progress) (number wrong : ℕ) (front content more : List ℕ) → p.stage ≡ s → IsOutside s → AreRead front p → IsFine p.stage p → IsWithinLine content → number ≡ line_feeds front + 1
    → IsWrongLine p number content (unread.Form wrong) → IsFormAt (front ++ (line content ++ more)) wrong
line_outside s p number wrong front content more at out read fine within count h =
    subst (IsFormAt (front ++ (line content ++ more))) (sym (h.0 ∙ count))
    (wrong_by s p front (line content ++ more) at out read fine (no_line_more front content more within (λ bytes e t. h.1 bytes (read.known (line content ++ bytes) e t)))
    (λ e t. h.1 more (read.known (line content ++ more) e t)))

-- ---- in a model

near : (heading at wrong : ℕ) → wrong ≡ min (heading + at) (2 ^ 64 - 1) → heading + at < 2 ^ 64 → wrong ≡ heading + at
near heading at wrong e lt = omega (arith, e)

module _ (p : Progress) (before front : List ℕ) (m : IsInModel p before front) (begun : IsModelFront before) where
  model_line : (wrong : ℕ) (content more : List ℕ) → length (front ++ line content) ≤ 2 ^ 30 → IsWrongModel p.heading p.text.items content (unread.Form wrong) → IsFormAt (front ++ (line content ++ more)) wrong
  model_line wrong content more short h =
      let last : List ℕ = line (codes "end") in
      let w = h.1 in
      let fault : IsFaultOf (p.text.items ++ last) w.0 w.1 = subst (λ (t : List ℕ). IsFaultOf (p.text.items ++ line t) w.0 w.1) h.0 w.3 in
      let form = form_inside before (p.text.items ++ (last ++ more)) w.0 w.1 begun (faulty_is_none p.text.items more w.0 w.1 m.whole m.unended fault) (fault_goes_on p.text.items more w.0 w.1 m.whole fault) in
      let whole : before ++ (p.text.items ++ (last ++ more)) ≡ front ++ (line content ++ more) =
      sym (append_assoc before p.text.items (last ++ more)) ∙ ap (λ (t : List ℕ). t ++ (last ++ more)) (sym m.parts) ∙ ap (λ (t : List ℕ). front ++ (line t ++ more)) (sym h.0) in
      let long : length (before ++ p.text.items) + length (line content) ≤ 2 ^ 30 = omega (arith, short, length-append front (line content), ap (λ (t : List ℕ). length t) m.parts) in
      let size : length (p.text.items ++ last) ≤ 2 ^ 30 =
      omega (arith, long, length-append before p.text.items, length-append p.text.items last, ap (λ (t : List ℕ). length (line t)) h.0) in
      let heading : p.heading ≤ 2 ^ 30 = omega (arith, m.heading, few_feeds before, long, length-append before p.text.items) in
      let is : wrong ≡ line_feeds before + w.0 = near p.heading w.0 wrong w.2 (omega (arith, heading, size, fault_is_near (p.text.items ++ last) w.0 w.1 fault)) ∙ ap (λ n. n + w.0) m.heading in
      subst (λ (t : List ℕ). IsFormAt t wrong) whole (subst (IsFormAt (before ++ (p.text.items ++ (last ++ more)))) (sym is) form)

  model_end : (wrong : ℕ) (rest : List ℕ) → IsWithinLine rest → length (front ++ rest) ≤ 2 ^ 30 → EndsInModel p.heading (p.text.items ++ rest) (unread.Form wrong) → IsFormAt (front ++ rest) wrong
  model_end wrong rest within short h =
      let none = cut_is_none p.text.items rest within m.unended in
      elim h [
        | inl w ↦
            let form = form_inside before (p.text.items ++ rest) w.0 w.1 begun none w.3 in
            let whole : before ++ (p.text.items ++ rest) ≡ front ++ rest = sym (append_assoc before p.text.items rest) ∙ ap (λ (t : List ℕ). t ++ rest) (sym m.parts) in
            let long : length (before ++ p.text.items) + length rest ≤ 2 ^ 30 = omega (arith, short, length-append front rest, ap (λ (t : List ℕ). length t) m.parts) in
            let size : length (p.text.items ++ rest) ≤ 2 ^ 30 = omega (arith, long, length-append before p.text.items, length-append p.text.items rest) in
            let heading : p.heading ≤ 2 ^ 30 = omega (arith, m.heading, few_feeds before, long, length-append before p.text.items) in
            let is : wrong ≡ line_feeds before + w.0 = near p.heading w.0 wrong w.2 (omega (arith, heading, size, fault_is_near (p.text.items ++ rest) w.0 w.1 w.3)) ∙ ap (λ n. n + w.0) m.heading in
            subst (λ (t : List ℕ). IsFormAt t wrong) whole (subst (IsFormAt (before ++ (p.text.items ++ rest))) (sym is) form)
        | inr l ↦ absurd (none l.0 [] (l.1 ∙ sym (append-nil (spelling l.0))))
      ]

first_begun : (p : Progress) → HasNumbers p → IsModelFront (before_first p)
first_begun p n = (sample p.depth p.conflicts one_signal one_signal, sample_of p one_signal one_signal n, inl refl)

second_begun : (p : Progress) (a : Lll) → HasNumbers p → IsModelFront (before_second p a)
second_begun p a n = (sample p.depth p.conflicts a a, sample_of p a a n, inr refl)

-- ---- any line

line_by : (s : Stage) (p : Progress) (number wrong : ℕ) (front content more : List ℕ) → p.stage ≡ s → AreRead front p → IsFine p.stage p → IsWithinLine content → number ≡ line_feeds front + 1 → length (front ++ line content) ≤ 2 ^ 30
    → IsWrongBy s p number content (unread.Form wrong) → IsFormAt (front ++ (line content ++ more)) wrong
line_by stage.Header p number wrong front content more at read fine within count short h = line_outside stage.Header p number wrong front content more at tt read fine within count h
line_by stage.Depth p number wrong front content more at read fine within count short h = line_outside stage.Depth p number wrong front content more at tt read fine within count h
line_by stage.Conflicts p number wrong front content more at read fine within count short h = line_outside stage.Conflicts p number wrong front content more at tt read fine within count h
line_by stage.FirstHeading p number wrong front content more at read fine within count short h = line_outside stage.FirstHeading p number wrong front content more at tt read fine within count h
line_by stage.FirstModel p number wrong front content more at read fine within count short h =
    let f = subst (λ t. IsFine t p) at fine in
    model_line p (before_first p) front (subst (λ t. IsBegun t p front) at read.begun) (first_begun p f.1) wrong content more short h
line_by stage.SecondHeading p number wrong front content more at read fine within count short h = line_outside stage.SecondHeading p number wrong front content more at tt read fine within count h
line_by stage.SecondModel p number wrong front content more at read fine within count short h =
    let f = subst (λ t. IsFine t p) at fine in
    let b = subst (λ t. IsBegun t p front) at read.begun in
    model_line p (before_second p b.0) front b.2 (second_begun p b.0 f.1) wrong content more short h
line_by stage.Equal p number wrong front content more at read fine within count short h = line_outside stage.Equal p number wrong front content more at tt read fine within count h
line_by stage.Body p number wrong front content more at read fine within count short h = line_outside stage.Body p number wrong front content more at tt read fine within count h
line_by stage.End p number wrong front content more at read fine within count short h = line_outside stage.End p number wrong front content more at tt read fine within count h

pub wrong_line : (p : Progress) (number wrong : ℕ) (front content more : List ℕ) → AreRead front p → IsFine p.stage p → IsWithinLine content → number ≡ line_feeds front + 1 → length (front ++ line content) ≤ 2 ^ 30
    → IsWrong p number content (unread.Form wrong) → IsFormAt (front ++ (line content ++ more)) wrong
wrong_line p number wrong front content more read fine within count short h = line_by p.stage p number wrong front content more refl read fine within count short h

-- ---- the end of the bytes

text_ends : (e : Evidence) → EndsLine (text e)
text_ends e =
    let most = (models_text e ++ equal_text (part_count e.b) e.equal) ++ entries_text 1 e.entries in
    inr (most ++ codes "end", sym (append_assoc most (codes "end") (codes "\n")))

-- more follows the front
no_more : (whole front more : List ℕ) → whole ≡ front ++ more → whole ≡ front ++ [] → more ≡ []
no_more whole front more e none = same_rest front more [] (sym e ∙ none)

rest_ends : (bounds : Bounds) (a : Lll) (due : Due) → IsRest bounds a due [] → ⊥
rest_ends bounds a due r =
    let tail = r.tail in
    let steps = flat_map step_line tail.steps in
    let entries = entries_text due.number tail.entries in
    let models = models_of tail.models in
    let last = nothing_left entries (line (codes "end")) (nothing_left models (entries ++ line (codes "end")) (nothing_left (rows_text tail.rows) (models ++ (entries ++ line (codes "end")))
    (nothing_left (logs_text tail.logs) (rows_text tail.rows ++ (models ++ (entries ++ line (codes "end")))) (nothing_left steps (logs_text tail.logs ++ (rows_text tail.rows ++ (models ++ (entries ++ line (codes "end"))))) (sym r.spelled))))) in
    cc

-- a text does not end before its last line
nothing_follows : (s : Stage) (p : Progress) → IsOutside s → ¬ (s ≡ stage.End) → MayFollow s p [] → ⊥
nothing_follows stage.Header p out live g = let e = no_more (text g.value) [] _ (text_from_start g.value) g.spelled in cc
nothing_follows stage.Depth p out live g = let e = no_more (text g.value) (line (codes "hll-evidence 1")) _ (text_from_start g.value) g.spelled in cc
nothing_follows stage.Conflicts p out live g =
    let e = no_more (text g.value) (line (codes "hll-evidence 1") ++ number_line (codes "depth") g.value.depth) _ (text_from_conflicts g.value) g.spelled in
    cc
nothing_follows stage.FirstHeading p out live g = let e = no_more (text g.value) (numbers_text g.value) _ (text_from_first g.value) g.spelled in cc
nothing_follows stage.FirstModel p out live g = absurd out
nothing_follows stage.SecondHeading p out live g = let e = no_more (text g.value) (first_model_text g.value) _ (text_from_second g.value) g.spelled in cc
nothing_follows stage.SecondModel p out live g = absurd out
nothing_follows stage.Equal p out live g =
    let none = no_more (text g.value) (models_text g.value) (behind g.value) (text_after_models g.value) g.spelled in
    let last = nothing_left (entries_text 1 g.value.entries) (line (codes "end")) (nothing_left (equal_text (part_count g.value.b) g.value.equal) (entries_text 1 g.value.entries ++ line (codes "end")) none) in
    cc
nothing_follows stage.Body p out live r = rest_ends p.bounds r.0 p.due r.2
nothing_follows stage.End p out live none = live refl

end_outside : (s : Stage) (p : Progress) (number wrong : ℕ) (front rest : List ℕ) → p.stage ≡ s → IsOutside s → AreRead front p → IsFine p.stage p → IsWithinLine rest → number ≡ line_feeds front + 1
    → wrong ≡ number → (s ≡ stage.End → ¬ (rest ≡ [])) → IsFormAt (front ++ rest) wrong
end_outside s p number wrong front rest at out read fine within count is live =
    subst (IsFormAt (front ++ rest)) (sym (is ∙ count)) (wrong_by s p front rest at out read fine (no_line_in front rest within) (λ e t.
    let none : rest ≡ [] = no_lines rest (ends_tail front rest (subst EndsLine (sym t.spelled) (text_ends e))) (no_feeds rest within) in
    let follows : MayFollow s p [] = subst (MayFollow s p) none (subst (λ q. MayFollow q p rest) at (read.known rest e t)) in
    nothing_follows s p out (λ h. live h none) follows))

end_by : (s : Stage) (p : Progress) (number wrong : ℕ) (front rest : List ℕ) → p.stage ≡ s → AreRead front p → IsFine p.stage p → IsWithinLine rest → number ≡ line_feeds front + 1 → length (front ++ rest) ≤ 2 ^ 30
    → EndsEarly s p number rest (unread.Form wrong) → IsFormAt (front ++ rest) wrong
end_by stage.Header p number wrong front rest at read fine within count short h = end_outside stage.Header p number wrong front rest at tt read fine within count h (λ e. absurd cc)
end_by stage.Depth p number wrong front rest at read fine within count short h = end_outside stage.Depth p number wrong front rest at tt read fine within count h (λ e. absurd cc)
end_by stage.Conflicts p number wrong front rest at read fine within count short h = end_outside stage.Conflicts p number wrong front rest at tt read fine within count h (λ e. absurd cc)
end_by stage.FirstHeading p number wrong front rest at read fine within count short h = end_outside stage.FirstHeading p number wrong front rest at tt read fine within count h (λ e. absurd cc)
end_by stage.FirstModel p number wrong front rest at read fine within count short h =
    let f = subst (λ t. IsFine t p) at fine in
    model_end p (before_first p) front (subst (λ t. IsBegun t p front) at read.begun) (first_begun p f.1) wrong rest within short h
end_by stage.SecondHeading p number wrong front rest at read fine within count short h = end_outside stage.SecondHeading p number wrong front rest at tt read fine within count h (λ e. absurd cc)
end_by stage.SecondModel p number wrong front rest at read fine within count short h =
    let f = subst (λ t. IsFine t p) at fine in
    let b = subst (λ t. IsBegun t p front) at read.begun in
    model_end p (before_second p b.0) front b.2 (second_begun p b.0 f.1) wrong rest within short h
end_by stage.Equal p number wrong front rest at read fine within count short h = end_outside stage.Equal p number wrong front rest at tt read fine within count h (λ e. absurd cc)
end_by stage.Body p number wrong front rest at read fine within count short h = end_outside stage.Body p number wrong front rest at tt read fine within count h (λ e. absurd cc)
end_by stage.End p number wrong front rest at read fine within count short h = end_outside stage.End p number wrong front rest at tt read fine within count h.0 (λ e. h.1)

pub wrong_end : (p : Progress) (number wrong : ℕ) (front rest : List ℕ) → AreRead front p → IsFine p.stage p → IsWithinLine rest → number ≡ line_feeds front + 1 → length (front ++ rest) ≤ 2 ^ 30
    → EndsEarly p.stage p number rest (unread.Form wrong) → IsFormAt (front ++ rest) wrong
wrong_end p number wrong front rest read fine within count short h = end_by p.stage p number wrong front rest refl read fine within count short h
