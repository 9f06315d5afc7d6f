-- Any bytes: they are a text, or have a first wrong line.
use Rattle.std.proofs.Common.{◌≡◌, ℕ, suc, ◌+◌, ◌*◌, ◌≤◌, true, List, [], ◌++◌, length, Some, None, refl, sym, ap, subst, ◌∙◌, append_assoc, inl, inr, arith}
use Rattle.std.specs.Prelude.{codes}
use Rattle.std.proofs.lemmas.List.{append-nil}
use Rattle.lll_core.specs.declared.lll.Lll.{Lll}
use Rattle.lll_core.specs.Tables.{input_count}
use Rattle.lll_text.specs.Lines.{line_feeds}
use Rattle.lll_text.specs.Spelling.{line, number_field, spelling}
use Rattle.lll_text.proofs.Consumed.{line_feeds-append}
use Rattle.lll_text.proofs.Total.{value-or_fault}
use Rattle.evidence.specs.declared.evidence.Evidence.{Evidence}
use Rattle.evidence.specs.declared.reader_due.Bounds.{Bounds}
use Rattle.evidence.specs.declared.reader_lines.EqualLine.{EqualLine}
use Rattle.evidence.specs.Counts.{HasText, IsTextOf}
use Rattle.evidence.specs.Reading.{IsModelFront, IsFormAt}
use Rattle.evidence.specs.Readers.{Reads, EqualLineFits, equal_content}
use Rattle.evidence.specs.Spelling.{number_line, part_count, logs_text, entries_text, numbers_text, first_model_text, models_text, text}
use Rattle.evidence.proofs.Cutting.{avoids, avoids-append, avoids-any_number, split_line, same_rest}
use Rattle.evidence.proofs.LogText.{number_lines_told}
use Rattle.evidence.proofs.ModelText.{models_told}
use Rattle.evidence.proofs.FirstWrong.{first_front, second_front, behind, numbers_told, first_told, second_apart}
use Rattle.evidence.proofs.Headings.{head_line, from_first, text_from_first, text_from_start, text_from_conflicts}
use Rattle.evidence.proofs.Models.{from_second, text_from_a, text_from_second}
use Rattle.evidence.proofs.LineFeeds.{EndsLine, line_ends, both_end, feeds_of_line, none_in_nothing}
use Rattle.evidence.proofs.ModelEnds.{spelling_ends}
use Rattle.evidence.proofs.FormLines.{numbers_feeds, PastModels, past_few, past_first, past_models, form_inside}
use Rattle.evidence.proofs.SampleValue.{one_signal, sample, sample_fits}
use Rattle.evidence.proofs.EqualLine.{due_of, said_of, logs_shown, behind_is}
use Rattle.evidence.proofs.EqualTurn.{text_after_models, GoesOnBehind, refused_behind, taken_behind, given_behind}
use Rattle.evidence.proofs.Finite.{Begins, begins, find}
use Rattle.evidence.proofs.AnyLine.{Answer, from_one, equal_answer, first_line, model_front}
use Rattle.evidence.proofs.AnyRest.{no_line_within, Outcome, AreOutside, no_line_left, wrong_line, AreLines, text_apart, text_joined, outcome}

-- ---- a line that is missing

-- a line that is due in each text that goes on so, and doesn't stand there
record Lacks (more rest : List ℕ) : Type 0 where
  due : List ℕ
  tail : List ℕ
  inside : avoids 10 due ≡ true
  is : more ≡ line due ++ tail
  lacking : Begins (line due) rest → ⊥

heading : (bytes front rest : List ℕ) → bytes ≡ front ++ rest → AreOutside front → ((more : List ℕ) (e : Evidence) → IsTextOf (front ++ more) e → Lacks more rest) → Outcome bytes
heading bytes front rest parts outside lacks = elim (first_line rest) [
  | inl none ↦ no_line_left bytes front rest parts outside none (λ e t. let d = lacks rest e t in no_line_within rest d.due d.tail none d.is)
  | inr l ↦ wrong_line bytes front rest parts outside l.content l.more l.inside l.parts (λ m e t.
      let d = lacks (line l.content ++ m) e t in
      let told = split_line l.content d.due m d.tail l.inside d.inside d.is in
      d.lacking (l.more, l.parts ∙ ap (λ (c : List ℕ). line c ++ l.more) told.0))
]

number_inside : (word : List ℕ) (n : ℕ) → avoids 10 word ≡ true → avoids 10 (word ++ number_field n) ≡ true
number_inside word n inside = avoids-append 10 word (number_field n) inside (avoids-any_number 10 n refl refl)

number_feeds : (word : List ℕ) (n : ℕ) → avoids 10 word ≡ true → line_feeds (number_line word n) ≡ 1
number_feeds word n inside = feeds_of_line (word ++ number_field n) (number_inside word n inside)

line_behind : (front content : List ℕ) → EndsLine (front ++ line content)
line_behind front content = inr (front ++ content, sym (append_assoc front content (codes "\n")))

-- no model begins behind a heading
wrong_model : (bytes head rest : List ℕ) → bytes ≡ head ++ rest → IsModelFront head → ((l : Lll) × (more : List ℕ) × (rest ≡ spelling l ++ more) → ⊥) → Outcome bytes
wrong_model bytes head rest parts begun none = elim (value-or_fault rest) [
  | inl h ↦ absurd (none (h.0, [], h.1 ∙ sym (append-nil (spelling h.0))))
  | inr f ↦ inr (line_feeds head + f.0, subst (λ (b : List ℕ). IsFormAt b (line_feeds head + f.0)) (sym parts) (form_inside head rest f.0 f.1.0 begun (λ l more e. none (l, more, e)) f.1.1))
]

-- ---- behind both models

same_models : (x y : Evidence) → x.depth ≡ y.depth → x.conflicts ≡ y.conflicts → x.a ≡ y.a → x.b ≡ y.b → models_text x ≡ models_text y
same_models x y d c a b =
    ap (λ n. models_text (sample n x.conflicts x.a x.b)) d ∙ ap (λ n. models_text (sample y.depth n x.a x.b)) c
    ∙ ap (λ (m : Lll). models_text (sample y.depth y.conflicts m x.b)) a ∙ ap (λ (m : Lll). models_text (sample y.depth y.conflicts y.a m)) b

module _ (bytes : List ℕ) (d c : ℕ) (some_depth : 1 ≤ d) (small_depth : d ≤ 64) (some_conflicts : 1 ≤ c) (few_conflicts : c ≤ 1000000) where
  fits : (a b : Lll) → HasText (sample d c a b)
  fits a b = sample_fits d c a b some_depth small_depth some_conflicts few_conflicts

  module _ (a b : Lll) where
    abbrev both : List ℕ
    both = models_text (sample d c a b)

    abbrev bounds : Bounds
    bounds = record { depth = d; inputs = input_count a.signals; variables = (d + 1) * length a.signals }

    both_apart : (more : List ℕ) → both ++ more ≡ numbers_text (sample d c a b) ++ (line (codes "text a") ++ (spelling a ++ (line (codes "text b") ++ (spelling b ++ more))))
    both_apart more =
        append_assoc (second_front (sample d c a b)) (spelling b) more ∙ second_apart (sample d c a b) (spelling b ++ more)
        ∙ append_assoc (numbers_text (sample d c a b)) (line (codes "text a")) (spelling a ++ (line (codes "text b") ++ (spelling b ++ more)))

    -- a text that begins so has these numbers and models
    goes_on : (more : List ℕ) (e : Evidence) → IsTextOf (both ++ more) e → GoesOnBehind d c a b more
    goes_on more e t =
        let numbers = numbers_told (sample d c a b) e (line (codes "text a") ++ (spelling a ++ (line (codes "text b") ++ (spelling b ++ more)))) (from_first e) (fits a b) t.fits
        (sym (both_apart more) ∙ t.spelled ∙ text_from_first e) in
        let first = models_told a e.a (line (codes "text b") ++ (spelling b ++ more)) (from_second e)
        (same_rest (line (codes "text a")) (spelling a ++ (line (codes "text b") ++ (spelling b ++ more))) (spelling e.a ++ from_second e) numbers.2) in
        let second = models_told b e.b more (behind e) (same_rest (line (codes "text b")) (spelling b ++ more) (spelling e.b ++ behind e) first.1) in
        record {
          value = e;
          fits = t.fits;
          depth_is = sym numbers.0;
          conflicts_is = sym numbers.1;
          a_is = sym first.0;
          b_is = sym second.0;
          spelled = text_after_models e ∙ ap (λ (r : List ℕ). models_text e ++ r) (sym second.1);
        }

    both_ends : EndsLine both
    both_ends = both_end (second_front (sample d c a b)) (spelling b) (line_behind (first_model_text (sample d c a b)) (codes "text b")) (spelling_ends b)

    outside_both : AreOutside both
    outside_both = record {
      past = subst PastModels (append-nil both) (past_models (sample d c a b) [] (fits a b));
      ends = both_ends;
      more = behind (sample d c a b);
      value = sample d c a b;
      begun = record { fits = fits a b; spelled = sym (text_after_models (sample d c a b)) };
    }

    -- behind the line of the parts
    module _ (content : List ℕ) (inside : avoids 10 content ≡ true) (said : EqualLine) (read : Reads (EqualLineFits (part_count b)) (equal_content (part_count b)) content (Some said)) where
      given_text : (more : List ℕ) → GoesOnBehind d c a b (line content ++ more) → (e : Evidence) × IsTextOf ((both ++ line content) ++ more) e
      given_text more g =
          let same = same_models (sample d c a b) g.value (sym g.depth_is) (sym g.conflicts_is) (sym g.a_is) (sym g.b_is) in
          (g.value, text_joined both (line content) more g.value (record { fits = g.fits; spelled = ap (λ (t : List ℕ). t ++ (line content ++ more)) same ∙ sym g.spelled }))

      are_lines : AreLines bounds a (both ++ line content) (due_of a (part_count b) said)
      are_lines = record {
        past = past_models (sample d c a b) (line content) (fits a b);
        ends = line_behind both content;
        known = λ e more t. taken_behind bounds a b c content more inside said read (goes_on (line content ++ more) e (text_apart both (line content) more e t));
        there = λ more r. given_text more (given_behind bounds a b c content more inside said some_depth small_depth some_conflicts few_conflicts read r);
      }

      behind_parts : (rest : List ℕ) → bytes ≡ (both ++ line content) ++ rest → Outcome bytes
      behind_parts rest parts =
          outcome bytes bounds a (record { inputs = refl; variables = refl }) (omega (arith, small_depth)) some_depth (sample d c a b) (fits a b) (suc (length rest)) (both ++ line content) rest
          (due_of a (part_count b) said) (omega arith) parts (line content, refl) are_lines

    module _ (rest : List ℕ) (parts : bytes ≡ both ++ rest) where
      by_answer : (content more : List ℕ) → avoids 10 content ≡ true → rest ≡ line content ++ more → Answer (EqualLineFits (part_count b)) (equal_content (part_count b)) content → Outcome bytes
      by_answer content more inside is (None, none) =
          wrong_line bytes both rest parts outside_both content more inside is (λ m e t. refused_behind bounds a b c content m inside none (goes_on (line content ++ m) e t))
      by_answer content more inside is (Some said, read) = behind_parts content inside said read more (parts ∙ ap (λ (t : List ℕ). both ++ t) is ∙ sym (append_assoc both (line content) more))

      parts_line : (more : List ℕ) → GoesOnBehind d c a b more → avoids 10 more ≡ true → ⊥
      parts_line more g none =
          let e = g.value in
          let whole : more ≡ behind e = same_rest (models_text e) more (behind e) (sym g.spelled ∙ text_after_models e) in
          no_line_within more (equal_content (part_count e.b) (said_of e.equal)) (logs_text (logs_shown e.equal) ++ (entries_text 1 e.entries ++ line (codes "end"))) none (whole ∙ behind_is e (line (codes "end")))

      behind_both : Outcome bytes
      behind_both = elim (first_line rest) [
        | inl none ↦ no_line_left bytes both rest parts outside_both none (λ e t. parts_line rest (goes_on rest e t) none)
        | inr l ↦ by_answer l.content l.more l.inside l.parts (equal_answer (part_count b) l.content)
      ]

  -- ---- behind the first model

  module _ (a : Lll) where
    abbrev one : List ℕ
    one = first_model_text (sample d c a one_signal)

    outside_one : AreOutside one
    outside_one = record {
      past = past_first (sample d c a one_signal) (fits a one_signal);
      ends = both_end (first_front (sample d c a one_signal)) (spelling a) (line_behind (numbers_text (sample d c a one_signal)) (codes "text a")) (spelling_ends a);
      more = from_second (sample d c a one_signal);
      value = sample d c a one_signal;
      begun = record { fits = fits a one_signal; spelled = sym (text_from_second (sample d c a one_signal)) };
    }

    second_due : (more : List ℕ) (e : Evidence) → IsTextOf (one ++ more) e → more ≡ from_second e
    second_due more e t =
        let told = first_told (sample d c a one_signal) e (spelling a ++ more) (spelling e.a ++ from_second e) (fits a one_signal) t.fits
        (sym (append_assoc (first_front (sample d c a one_signal)) (spelling a) more) ∙ t.spelled ∙ text_from_a e) in
        (models_told a e.a more (from_second e) told.1).1

    second_front_is : (rest : List ℕ) → bytes ≡ one ++ (line (codes "text b") ++ rest) → bytes ≡ second_front (sample d c a one_signal) ++ rest
    second_front_is rest parts = parts ∙ sym (append_assoc one (line (codes "text b")) rest)

    in_second : (rest : List ℕ) → bytes ≡ second_front (sample d c a one_signal) ++ rest → Outcome bytes
    in_second rest parts = elim (model_front rest) [
      | inl m ↦ behind_both a m.0 m.1 (parts ∙ ap (λ (t : List ℕ). second_front (sample d c a one_signal) ++ t) m.2 ∙ sym (append_assoc (second_front (sample d c a m.0)) (spelling m.0) m.1))
      | inr none ↦ wrong_model bytes (second_front (sample d c a one_signal)) rest parts (sample d c a one_signal, fits a one_signal, inr refl) none
    ]

    behind_one : (rest : List ℕ) → bytes ≡ one ++ rest → Outcome bytes
    behind_one rest parts = elim (begins (line (codes "text b")) rest) [
      | inl h ↦ in_second h.0 (second_front_is h.0 (parts ∙ ap (λ (t : List ℕ). one ++ t) h.1))
      | inr fail ↦ heading bytes one rest parts outside_one (λ more e t. record { due = codes "text b"; tail = spelling e.b ++ behind e; inside = refl; is = second_due more e t; lacking = fail })
    ]

  -- ---- behind the numbers

  abbrev numbered : Evidence
  numbered = sample d c one_signal one_signal

  in_first : (rest : List ℕ) → bytes ≡ first_front numbered ++ rest → Outcome bytes
  in_first rest parts = elim (model_front rest) [
    | inl m ↦ behind_one m.0 m.1 (parts ∙ ap (λ (t : List ℕ). first_front numbered ++ t) m.2 ∙ sym (append_assoc (first_front numbered) (spelling m.0) m.1))
    | inr none ↦ wrong_model bytes (first_front numbered) rest parts (numbered, fits one_signal one_signal, inl refl) none
  ]

  outside_numbers : AreOutside (numbers_text numbered)
  outside_numbers = record {
    past = past_few (numbers_text numbered) (omega (arith, numbers_feeds d c (omega (arith, small_depth)) (omega (arith, few_conflicts))));
    ends = line_behind (head_line ++ number_line (codes "depth") d) (codes "conflicts" ++ number_field c);
    more = from_first numbered;
    value = numbered;
    begun = record { fits = fits one_signal one_signal; spelled = sym (text_from_first numbered) };
  }

  first_due : (more : List ℕ) (e : Evidence) → IsTextOf (numbers_text numbered ++ more) e → more ≡ from_first e
  first_due more e t = (numbers_told numbered e more (from_first e) (fits one_signal one_signal) t.fits (t.spelled ∙ text_from_first e)).2

  behind_numbers : (rest : List ℕ) → bytes ≡ numbers_text numbered ++ rest → Outcome bytes
  behind_numbers rest parts = elim (begins (line (codes "text a")) rest) [
    | inl h ↦ in_first h.0 (parts ∙ ap (λ (t : List ℕ). numbers_text numbered ++ t) h.1 ∙ sym (append_assoc (numbers_text numbered) (line (codes "text a")) h.0))
    | inr fail ↦ heading bytes (numbers_text numbered) rest parts outside_numbers (λ more e t. record {
      due = codes "text a";
      tail = spelling e.a ++ from_second e;
      inside = refl;
      is = first_due more e t;
      lacking = fail;
    })
  ]

-- ---- the numbers

module _ (bytes : List ℕ) (d : ℕ) (some : 1 ≤ d) (small : d ≤ 64) where
  abbrev front : List ℕ
  front = head_line ++ number_line (codes "depth") d

  value : Evidence
  value = sample d 1 one_signal one_signal

  outside_depth : AreOutside front
  unfolding value
  outside_depth = record {
    past = past_few front (omega (arith, line_feeds-append head_line (number_line (codes "depth") d), feeds_of_line (codes "hll-evidence 1") refl, number_feeds (codes "depth") d refl));
    ends = line_behind head_line (codes "depth" ++ number_field d);
    more = number_line (codes "conflicts") 1 ++ from_first value;
    value = value;
    begun = record { fits = sample_fits d 1 one_signal one_signal some small (omega arith) (omega arith); spelled = sym (text_from_conflicts value) };
  }

  conflicts_due : (more : List ℕ) (e : Evidence) → IsTextOf (front ++ more) e → more ≡ number_line (codes "conflicts") e.conflicts ++ from_first e
  conflicts_due more e t =
      (number_lines_told (codes "depth") refl d e.depth more (number_line (codes "conflicts") e.conflicts ++ from_first e) (omega (arith, small)) (omega (arith, t.fits.depth_bound))
      (same_rest head_line (number_line (codes "depth") d ++ more) (number_line (codes "depth") e.depth ++ (number_line (codes "conflicts") e.conflicts ++ from_first e))
      (sym (append_assoc head_line (number_line (codes "depth") d) more) ∙ t.spelled ∙ text_from_start e))).1

  behind_depth : (rest : List ℕ) → bytes ≡ front ++ rest → Outcome bytes
  behind_depth rest parts =
      elim (find (λ n. (1 ≤ n) × (n ≤ 1000000)) (λ n. Begins (number_line (codes "conflicts") n) rest) (from_one 1000000) (λ n. begins (number_line (codes "conflicts") n) rest)) [
        | inl h ↦ behind_numbers bytes d h.0 some small h.1.0 h.1.1 h.2.0 (parts ∙ ap (λ (t : List ℕ). front ++ t) h.2.1 ∙ sym (append_assoc front (number_line (codes "conflicts") h.0) h.2.0))
        | inr none ↦ heading bytes front rest parts outside_depth (λ more e t. record {
          due = codes "conflicts" ++ number_field e.conflicts;
          tail = from_first e;
          inside = number_inside (codes "conflicts") e.conflicts refl;
          is = conflicts_due more e t;
          lacking = none e.conflicts (t.fits.some_conflicts, t.fits.conflicts_bound);
        })
      ]

a_value : Evidence
a_value = sample 1 1 one_signal one_signal

a_value_fits : HasText a_value
unfolding a_value
a_value_fits = sample_fits 1 1 one_signal one_signal (omega arith) (omega arith) (omega arith) (omega arith)

from_depth : Evidence → List ℕ
from_depth e = number_line (codes "depth") e.depth ++ (number_line (codes "conflicts") e.conflicts ++ from_first e)

outside_head : AreOutside head_line
unfolding from_depth
outside_head = record {
  past = past_few head_line (omega (arith, feeds_of_line (codes "hll-evidence 1") refl));
  ends = line_ends (codes "hll-evidence 1");
  more = from_depth a_value;
  value = a_value;
  begun = record { fits = a_value_fits; spelled = sym (text_from_start a_value) };
}

depth_due : (more : List ℕ) (e : Evidence) → IsTextOf (head_line ++ more) e → more ≡ number_line (codes "depth") e.depth ++ (number_line (codes "conflicts") e.conflicts ++ from_first e)
depth_due more e t = same_rest head_line more (number_line (codes "depth") e.depth ++ (number_line (codes "conflicts") e.conflicts ++ from_first e)) (t.spelled ∙ text_from_start e)

behind_head : (bytes rest : List ℕ) → bytes ≡ head_line ++ rest → Outcome bytes
behind_head bytes rest parts =
    elim (find (λ n. (1 ≤ n) × (n ≤ 64)) (λ n. Begins (number_line (codes "depth") n) rest) (from_one 64) (λ n. begins (number_line (codes "depth") n) rest)) [
      | inl h ↦ behind_depth bytes h.0 h.1.0 h.1.1 h.2.0 (parts ∙ ap (λ (t : List ℕ). head_line ++ t) h.2.1 ∙ sym (append_assoc head_line (number_line (codes "depth") h.0) h.2.0))
      | inr none ↦ heading bytes head_line rest parts outside_head (λ more e t. record {
        due = codes "depth" ++ number_field e.depth;
        tail = number_line (codes "conflicts") e.conflicts ++ from_first e;
        inside = number_inside (codes "depth") e.depth refl;
        is = depth_due more e t;
        lacking = none e.depth (t.fits.some_depth, t.fits.depth_bound);
      })
    ]

outside_nothing : AreOutside []
outside_nothing = record {
  past = past_few [] (omega (arith, none_in_nothing));
  ends = inl refl;
  more = text a_value;
  value = a_value;
  begun = record { fits = a_value_fits; spelled = refl };
}

-- each text is that of a value, or has a first wrong line
pub value_or_form : (bytes : List ℕ) → Outcome bytes
value_or_form bytes = elim (begins head_line bytes) [
  | inl h ↦ behind_head bytes h.0 h.1
  | inr fail ↦ heading bytes [] bytes refl outside_nothing (λ more e t. record {
    due = codes "hll-evidence 1";
    tail = number_line (codes "depth") e.depth ++ (number_line (codes "conflicts") e.conflicts ++ from_first e);
    inside = refl;
    is = t.spelled ∙ text_from_start e;
    lacking = fail;
  })
]
