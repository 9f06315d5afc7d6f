-- Where a model's spelling ends: with its one line `end`.
use Rattle.std.proofs.Common.{◌≡◌, ℕ, ◌+◌, Bool, true, false, cond, List, [], ◌∷◌, ◌++◌, refl, sym, ap, subst, ◌∙◌, append_assoc, inl, inr, arith}
use Rattle.std.specs.Prelude.{nat_eq, codes, decimal}
use Rattle.std.specs.List.{flat_map}
use Rattle.std.proofs.lemmas.Bool.{eqb-true}
use Rattle.std.proofs.lemmas.List.{append-nil}
use Rattle.lll_core.specs.declared.lll.Lll.{Lll}
use Rattle.lll_core.specs.declared.signal.Named.{Named}
use Rattle.lll_core.specs.declared.signal.Signal.{Signal}
use Rattle.lll_text.specs.Lines.{line_feeds, IsFaultOf}
use Rattle.lll_text.specs.declared.fault.LllKind.{LllKind}
use Rattle.lll_text.specs.Spelling.{line, number_field, name_field, form, signal_line, signal_lines, literal_line, name_line, list_lines, spelling}
use Rattle.lll_text.proofs.Consumed.{line_feeds-append}
use Rattle.lll_text.proofs.OneReading.{fault-spells_nothing}
use Rattle.evidence.proofs.Cutting.{avoids, split_line}
use Rattle.evidence.proofs.LineFeeds.{EndsLine, line_ends, both_end, each_ends, no_feeds, no_lines, some_lines, none_in_nothing, feeds_of_line, fronts, nothing_left, nothing_before, ends_tail, first_line}
use Rattle.evidence.proofs.ModelText.{Mode, start, inside, last, after_last, body, what_follows}

abbrev last_line : List ℕ
last_line = line (codes "end")

-- ---- a spelling is whole lines

literal_ends : (word : List ℕ) (x : ℕ) → EndsLine (literal_line word x)
literal_ends word x = line_ends (word ++ number_field x)

signals_end : (n : ℕ) (ss : List Signal) → EndsLine (signal_lines n ss)
unfolding signal_lines
signals_end n [] = inl refl
signals_end n (s ∷ ss) = both_end (signal_line n s) (signal_lines (n + 1) ss) (line_ends (decimal n ++ form s)) (signals_end (n + 1) ss)

lists_end : (cs os : List ℕ) (ns : List Named) → EndsLine (list_lines cs os ns)
unfolding list_lines
lists_end cs os ns =
    let of_constraints = flat_map (literal_line (codes "constraint")) cs in
    let of_obligations = flat_map (literal_line (codes "obligation")) os in
    both_end (of_constraints ++ of_obligations) (flat_map name_line ns)
    (both_end of_constraints of_obligations (each_ends (literal_line (codes "constraint")) cs (literal_ends (codes "constraint"))) (each_ends (literal_line (codes "obligation")) os (literal_ends (codes "obligation"))))
    (each_ends name_line ns (λ n. line_ends (codes "name" ++ number_field n.literal ++ name_field n.name)))

body_ends : (l : Lll) → EndsLine (body l)
body_ends l =
    let head = line (codes "lll 1") in
    let of_signals = signal_lines 0 l.signals in
    let of_assume = literal_line (codes "assume") l.assume in
    let of_keep = literal_line (codes "keep") l.keep in
    both_end (((head ++ of_signals) ++ of_assume) ++ of_keep) (list_lines l.constraints l.obligations l.names)
    (both_end ((head ++ of_signals) ++ of_assume) of_keep
    (both_end (head ++ of_signals) of_assume (both_end head of_signals (line_ends (codes "lll 1")) (signals_end 0 l.signals)) (literal_ends (codes "assume") l.assume))
    (literal_ends (codes "keep") l.keep))
    (lists_end l.constraints l.obligations l.names)

pub spelling_parts : (l : Lll) → spelling l ≡ body l ++ last_line
unfolding spelling
spelling_parts l = refl

pub spelling_ends : (l : Lll) → EndsLine (spelling l)
spelling_ends l = subst EndsLine (sym (spelling_parts l)) (both_end (body l) last_line (body_ends l) (line_ends (codes "end")))

-- ---- its last line is `end`

pub last_is_end : (l : Lll) (front content : List ℕ) → EndsLine front → avoids 10 content ≡ true → spelling l ≡ front ++ line content → content ≡ codes "end"
last_is_end l front content ends within e =
    elim (fronts front (line content) (body l) last_line (sym e ∙ spelling_parts l)) [
      | inl m ↦
          let none = no_lines m.between (ends_tail front m.between (subst EndsLine m.longer (body_ends l)))
          (omega (arith, ap line_feeds m.rest, line_feeds-append m.between last_line, feeds_of_line content within, feeds_of_line (codes "end") refl)) in
          same content (codes "end") within refl (m.rest ∙ ap (λ (t : List ℕ). t ++ last_line) none)
      | inr m ↦
          let none = no_lines m.between (ends_tail (body l) m.between (subst EndsLine m.longer ends))
          (omega (arith, ap line_feeds m.rest, line_feeds-append m.between (line content), feeds_of_line content within, feeds_of_line (codes "end") refl)) in
          sym (same (codes "end") content refl within (m.rest ∙ ap (λ (t : List ℕ). t ++ line content) none))
    ]
  where
    same : (x y : List ℕ) → avoids 10 x ≡ true → avoids 10 y ≡ true → line x ≡ line y → x ≡ y
    same x y p q e = (split_line x y [] [] p q (append-nil (line x) ∙ e ∙ sym (append-nil (line y)))).0

-- ---- and no other line is

abbrev Closes : Mode → List ℕ → Type 0
Closes start bytes = EndsLine bytes
Closes inside bytes = (before : List ℕ) × (bytes ≡ before ++ codes "\n")
Closes last bytes = (before : List ℕ) × (bytes ≡ before ++ codes "\n")

-- what follows the first line `end`, and more
abbrev Reaches : Mode → List ℕ → List ℕ → Type 0
Reaches mode bytes rest = (more : List ℕ) × (after_last mode (bytes ++ (last_line ++ rest)) ≡ more ++ rest)

goes_on : (b : ℕ) (bytes : List ℕ) → EndsLine (b ∷ bytes) → nat_eq b 10 ≡ false → (before : List ℕ) × (bytes ≡ before ++ codes "\n")
goes_on b bytes (inl e) other = absurd cc
goes_on b bytes (inr ([], e)) other = absurd (let same : b ≡ 10 = cc in let no : nat_eq 10 10 ≡ false = subst (λ x. nat_eq x 10 ≡ false) same other in cc)
goes_on b bytes (inr (x ∷ before, e)) other = (before, cc)

starts : (b : ℕ) (bytes : List ℕ) → EndsLine (b ∷ bytes) → EndsLine bytes
starts b bytes ends = ends_tail (b ∷ []) bytes ends

line_of : (bytes : List ℕ) → ((before : List ℕ) × (bytes ≡ before ++ codes "\n")) → EndsLine bytes
line_of bytes h = inr h

no_line : {A : Type 0} → ((before : List ℕ) × ([] ≡ before ++ codes "\n")) → A
no_line ([], e) = absurd cc
no_line (x ∷ before, e) = absurd cc

start_step : (v w : Bool) (b : ℕ) (bytes rest : List ℕ) → nat_eq b 101 ≡ v → nat_eq b 10 ≡ w → EndsLine (b ∷ bytes) → (Closes last bytes → Reaches last bytes rest) → (EndsLine bytes → Reaches start bytes rest) → (Closes inside bytes → Reaches inside bytes rest)
    → (more : List ℕ) × (cond v (after_last last (bytes ++ (last_line ++ rest))) (cond w (after_last start (bytes ++ (last_line ++ rest))) (after_last inside (bytes ++ (last_line ++ rest)))) ≡ more ++ rest)
start_step true true b bytes rest e f ends on_last on_start on_inside = absurd (let x = eqb-true b 101 e in let y = eqb-true b 10 f in omega (arith, x, y))
start_step true false b bytes rest e f ends on_last on_start on_inside = on_last (goes_on b bytes ends f)
start_step false true b bytes rest e f ends on_last on_start on_inside = on_start (starts b bytes ends)
start_step false false b bytes rest e f ends on_last on_start on_inside = on_inside (goes_on b bytes ends f)

inside_step : (w : Bool) (b : ℕ) (bytes rest : List ℕ) → nat_eq b 10 ≡ w → EndsLine (b ∷ bytes) → (EndsLine bytes → Reaches start bytes rest) → (Closes inside bytes → Reaches inside bytes rest)
    → (more : List ℕ) × (cond w (after_last start (bytes ++ (last_line ++ rest))) (after_last inside (bytes ++ (last_line ++ rest))) ≡ more ++ rest)
inside_step true b bytes rest f ends on_start on_inside = on_start (starts b bytes ends)
inside_step false b bytes rest f ends on_start on_inside = on_inside (goes_on b bytes ends f)

last_step : (w : Bool) (b : ℕ) (bytes rest : List ℕ) → nat_eq b 10 ≡ w → EndsLine (b ∷ bytes) → (Closes last bytes → Reaches last bytes rest)
    → (more : List ℕ) × (cond w (bytes ++ (last_line ++ rest)) (after_last last (bytes ++ (last_line ++ rest))) ≡ more ++ rest)
last_step true b bytes rest f ends on_last = (bytes ++ last_line, sym (append_assoc bytes last_line rest))
last_step false b bytes rest f ends on_last = on_last (goes_on b bytes ends f)

reaches : (mode : Mode) (bytes rest : List ℕ) → Closes mode bytes → Reaches mode bytes rest
unfolding after_last
reaches start [] rest h = ([], refl)
reaches inside [] rest h = no_line h
reaches last [] rest h = no_line h
reaches start (b ∷ bytes) rest h = start_step (nat_eq b 101) (nat_eq b 10) b bytes rest refl refl h (reaches last bytes rest) (reaches start bytes rest) (reaches inside bytes rest)
reaches inside (b ∷ bytes) rest h = inside_step (nat_eq b 10) b bytes rest refl (line_of (b ∷ bytes) h) (reaches start bytes rest) (reaches inside bytes rest)
reaches last (b ∷ bytes) rest h = last_step (nat_eq b 10) b bytes rest refl (line_of (b ∷ bytes) h) (reaches last bytes rest)

pub only_end : (l : Lll) (front more : List ℕ) → EndsLine front → spelling l ≡ front ++ (last_line ++ more) → more ≡ []
unfolding after_last
only_end l front more ends e =
    let r = reaches start front more ends in
    let all : after_last start (spelling l) ≡ [] = ap (after_last start) (sym (append-nil (spelling l))) ∙ what_follows l [] in
    nothing_left r.0 more (sym r.1 ∙ ap (after_last start) (sym e) ∙ all)

-- ---- a model that has not ended

-- no spelling stands at the front
abbrev pub NoModelIn : List ℕ → Type 0
NoModelIn bytes = (l : Lll) (more : List ℕ) → ¬ (bytes ≡ spelling l ++ more)

pub none_yet : NoModelIn []
none_yet l more e =
    let none : spelling l ≡ [] = nothing_before (spelling l) more (sym e) in
    let long = ap line_feeds (sym (spelling_parts l) ∙ none) in
    absurd (omega (arith, long, line_feeds-append (body l) last_line, feeds_of_line (codes "end") refl, none_in_nothing))

-- where a spelling does not stand in the lines so far, it is longer
record Ahead (bytes rest : List ℕ) (l : Lll) (more : List ℕ) : Type 0 where
  between : List ℕ
  whole : spelling l ≡ bytes ++ between
  rest_is : rest ≡ between ++ more
  ends : EndsLine between
  some : between ≡ [] → ⊥

ahead : (bytes rest : List ℕ) (l : Lll) (more : List ℕ) → NoModelIn bytes → bytes ++ rest ≡ spelling l ++ more → Ahead bytes rest l more
ahead bytes rest l more none e =
    elim (fronts bytes rest (spelling l) more e) [
      | inl m ↦ record {
        between = m.between;
        whole = m.longer;
        rest_is = m.rest;
        ends = ends_tail bytes m.between (subst EndsLine m.longer (spelling_ends l));
        some = λ (h : m.between ≡ []). none l [] (sym (append-nil bytes) ∙ ap (λ (t : List ℕ). bytes ++ t) (sym h) ∙ sym m.longer ∙ sym (append-nil (spelling l)));
      }
      | inr m ↦ absurd (none l m.between m.longer)
    ]

-- nor after a line other than `end`
pub still_none : (bytes content : List ℕ) → EndsLine bytes → avoids 10 content ≡ true → (content ≡ codes "end" → ⊥) → NoModelIn bytes → NoModelIn (bytes ++ line content)
still_none bytes content ends within other none l more e =
    let a = ahead bytes (line content) l more none e in
    let m = first_line content [] a.between more within a.ends a.some (append-nil (line content) ∙ a.rest_is) in
    let before = nothing_before m.between more (sym m.rest) in
    other (last_is_end l bytes content ends within (a.whole ∙ ap (λ (t : List ℕ). bytes ++ t) (m.longer ∙ ap (λ (t : List ℕ). line content ++ t) before ∙ append-nil (line content))))

-- nor where the lines up to `end` have a fault
pub faulty_is_none : (bytes more : List ℕ) (at : ℕ) (kind : LllKind) → EndsLine bytes → NoModelIn bytes → IsFaultOf (bytes ++ last_line) at kind → NoModelIn (bytes ++ (last_line ++ more))
faulty_is_none bytes more at kind ends none wrong l rest e =
    let a = ahead bytes (last_line ++ more) l rest none e in
    let m = first_line (codes "end") more a.between rest refl a.ends a.some a.rest_is in
    let whole : spelling l ≡ bytes ++ (last_line ++ m.between) = a.whole ∙ ap (λ (t : List ℕ). bytes ++ t) m.longer in
    let nothing = only_end l bytes m.between ends whole in
    let spelled : bytes ++ last_line ≡ spelling l = ap (λ (t : List ℕ). bytes ++ t) (sym (append-nil last_line) ∙ ap (λ (t : List ℕ). last_line ++ t) (sym nothing)) ∙ sym whole in
    fault-spells_nothing (bytes ++ last_line) at kind l wrong spelled

-- nor where the text ends within a line
pub cut_is_none : (bytes rest : List ℕ) → avoids 10 rest ≡ true → NoModelIn bytes → NoModelIn (bytes ++ rest)
cut_is_none bytes rest within none l more e =
    let a = ahead bytes rest l more none e in
    absurd (omega (arith, ap line_feeds a.rest_is, line_feeds-append a.between more, no_feeds rest within, some_lines a.between a.ends a.some))
