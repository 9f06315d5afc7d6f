-- How large a value is, by the length of its text.
use Rattle.std.proofs.Common.{◌≡◌, ℕ, ◌+◌, ◌^◌, ◌<◌, ◌≤◌, Bool, true, false, List, [], ◌∷◌, ◌++◌, length, ap, ◌∙◌, if◌then◌else◌, arith}
use Rattle.std.specs.Prelude.{nat_eq, codes, decimal}
use Rattle.std.specs.List.{flat_map}
use Rattle.std.proofs.lemmas.List.{length-append}
use Rattle.std.proofs.lemmas.List.Concat.{flat_map-cons}
use Rattle.lll_core.specs.declared.lll.Lll.{Lll}
use Rattle.lll_core.specs.declared.signal.Signal.{Signal}
use Rattle.lll_core.specs.declared.signal.Signal.TheVariants.{One, Input, Latch, Imp, Eqv}
use Rattle.lll_core.specs.Tables.{latch_count}
use Rattle.lll_text.specs.Lines.{line_feeds}
use Rattle.lll_text.specs.Spelling.{line, number_field, form, signal_lines, literal_line, name_line, list_lines, spelling}
use Rattle.miter.specs.Pairs.{size_of}
use Rattle.kinduction.specs.declared.equal.Equal.{Equal}
use Rattle.kinduction.specs.declared.equal.Equal.TheVariants as equal
use Rattle.kinduction.specs.declared.found.Found.{Found}
use Rattle.evidence.specs.declared.evidence.Evidence.{Evidence}
use Rattle.evidence.specs.Counts.{EntriesFit, HasText}
use Rattle.evidence.specs.Spelling.{part_count, equal_text, entries_text, numbers_text, first_model_text, models_text, text}

-- ---- line feeds

feeds_more : (v : Bool) (n k : ℕ) → n ≤ k → (if v then 1 + n else n) ≤ 1 + k
feeds_more true n k le = omega (arith, le)
feeds_more false n k le = omega (arith, le)

pub line_feeds-le : (t : List ℕ) → line_feeds t ≤ length t
unfolding line_feeds
line_feeds-le [] = omega arith
line_feeds-le (b ∷ bs) = let k : length (b ∷ bs) ≡ 1 + length bs = omega arith in omega (arith, k, feeds_more (nat_eq b 10) (line_feeds bs) (length bs) (line_feeds-le bs))

-- ---- models

some_form : (s : Signal) → 1 ≤ length (form s)
unfolding form
some_form One = omega arith
some_form (Input name) = omega arith
some_form (Latch name init next) = omega arith
some_form (Imp a b) = omega arith
some_form (Eqv a b) = omega arith

latches_most : (s : Signal) (ss : List Signal) → latch_count (s ∷ ss) ≤ latch_count ss + 1
latches_most One ss = omega arith
latches_most (Input name) ss = omega arith
latches_most (Latch name init next) ss = omega arith
latches_most (Imp a b) ss = omega arith
latches_most (Eqv a b) ss = omega arith

-- a line of two bytes at least for each signal
signals_long : (n : ℕ) (ss : List Signal) → length ss + latch_count ss ≤ length (signal_lines n ss)
unfolding signal_lines
signals_long n [] = omega arith
signals_long n (s ∷ ss) =
    let here = line (decimal n ++ form s) in
    omega (arith, signals_long (n + 1) ss, latches_most s ss, length-append here (signal_lines (n + 1) ss), length-append (decimal n ++ form s) (codes "\n"), length-append (decimal n) (form s), some_form s)

-- and a line for each literal
literals_long : (word xs : List ℕ) → length xs ≤ length (flat_map (literal_line word) xs)
literals_long word [] = omega arith
literals_long word (x ∷ xs) =
    let here = literal_line word x in
    let e : length (flat_map (literal_line word) (x ∷ xs)) ≡ length (here ++ flat_map (literal_line word) xs) = ap (λ (t : List ℕ). length t) (flat_map-cons (literal_line word) x xs) in
    omega (arith, e, length-append here (flat_map (literal_line word) xs), length-append (word ++ number_field x) (codes "\n"), literals_long word xs)

-- the spelling of a model is no shorter than the model
pub size_le : (l : Lll) → size_of l ≤ length (spelling l)
unfolding spelling list_lines
size_le l =
    let constraints = flat_map (literal_line (codes "constraint")) l.constraints in
    let obligations = flat_map (literal_line (codes "obligation")) l.obligations in
    let names = flat_map name_line l.names in
    let a = line (codes "lll 1") in
    let b = a ++ signal_lines 0 l.signals in
    let c = b ++ literal_line (codes "assume") l.assume in
    let d = c ++ literal_line (codes "keep") l.keep in
    let e = d ++ list_lines l.constraints l.obligations l.names in
    let lists : length (list_lines l.constraints l.obligations l.names) ≡ length constraints + length obligations + length names =
    length-append (constraints ++ obligations) names ∙ omega (arith, length-append constraints obligations) in
    omega (
      arith,
      signals_long 0 l.signals,
      literals_long (codes "constraint") l.constraints,
      literals_long (codes "obligation") l.obligations,
      lists,
      length-append a (signal_lines 0 l.signals),
      length-append b (literal_line (codes "assume") l.assume),
      length-append c (literal_line (codes "keep") l.keep),
      length-append d (list_lines l.constraints l.obligations l.names),
      length-append e (line (codes "end")),
    )

-- ---- the whole

-- what a value with a text of so many bytes has
pub record IsShort (e : Evidence) : Type 0 where
  pub models : size_of e.a + size_of e.b < 2 ^ 31
  pub parts : part_count e.b < 2 ^ 32
  pub entries : length e.entries < 2 ^ 32
  pub models_feeds : line_feeds (models_text e) < 2 ^ 31
  pub equal_feeds : line_feeds (models_text e ++ equal_text (part_count e.b) e.equal) < 2 ^ 31
  pub entries_feeds : line_feeds (models_text e ++ equal_text (part_count e.b) e.equal ++ entries_text 1 e.entries) < 2 ^ 31

few_entries : (a : Lll) (shown : Equal) (entries : List Found) → EntriesFit a shown entries → length entries ≤ size_of a
few_entries a (equal.Shown logs) entries fit = omega (arith, fit)
few_entries a (equal.Conflicts part stepping log) entries fit = let n : length entries ≡ 0 = ap (λ (xs : List Found). length xs) fit in omega (arith, n)

pub is_short : (e : Evidence) → HasText e → length (text e) ≤ 2 ^ 30 → IsShort e
is_short e has short =
    let first = numbers_text e ++ line (codes "text a") in
    let second = first_model_text e ++ line (codes "text b") in
    let equal = models_text e ++ equal_text (part_count e.b) e.equal in
    let entries = equal ++ entries_text 1 e.entries in
    let whole = length-append entries (line (codes "end")) in
    let to_entries = length-append equal (entries_text 1 e.entries) in
    let to_equal = length-append (models_text e) (equal_text (part_count e.b) e.equal) in
    let to_second = length-append second (spelling e.b) in
    let to_heading = length-append (first_model_text e) (line (codes "text b")) in
    let to_first = length-append first (spelling e.a) in
    let a : size_of e.a + size_of e.b ≤ 2 ^ 30 = omega (arith, short, whole, to_entries, to_equal, to_second, to_heading, to_first, size_le e.a, size_le e.b) in
    record {
      models = omega (arith, a);
      parts = omega (arith, a);
      entries = omega (arith, a, few_entries e.a e.equal e.entries has.entries_fit);
      models_feeds = omega (arith, short, whole, to_entries, to_equal, line_feeds-le (models_text e));
      equal_feeds = omega (arith, short, whole, to_entries, line_feeds-le equal);
      entries_feeds = omega (arith, short, whole, line_feeds-le entries);
    }
