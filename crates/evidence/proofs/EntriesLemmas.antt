-- In which lines the entries may fail, and which of their causes comes first.
use Rattle.std.proofs.Common.{◌≡◌, ℕ, zero, suc, ◌+◌, ◌^◌, ◌<◌, ◌≤◌, List, [], ◌∷◌, ◌++◌, length, take, get_or, Some, slice_get, sym, ap, ◌∙◌, arith}
use Rattle.std.specs.Prelude.{All, IsSomeAnd}
use Rattle.std.proofs.lemmas.List.{length-take-le, take_more}
use Rattle.std.proofs.lemmas.List.Elements.{All-head, All-tail, All-take}
use Rattle.std.proofs.lemmas.List.Sums.{sum_by-cons, sum_by-append}
use Rattle.std.proofs.lemmas.Option.{none-some, same_Some, slice_get_within}
use Rattle.lll_core.specs.declared.lll.Lll.{Lll}
use Rattle.lll_text.specs.Lines.{line_feeds}
use Rattle.kinduction.specs.declared.found.Found.{Found}
use Rattle.kinduction.specs.declared.equal.Equal.{Equal}
use Rattle.kinduction.specs.declared.equal.Equal.TheVariants as equal
use Rattle.evidence.specs.declared.evidence.Evidence.{Evidence}
use Rattle.evidence.specs.declared.fault.Cause.{Cause}
use Rattle.evidence.specs.Accepted.{IsAcceptedEntry}
use Rattle.evidence.specs.Counts.{EntryFits, EntriesFit}
use Rattle.evidence.specs.Spelling.{part_count, equal_text, entry_text, entries_text, models_text}
use Rattle.evidence.specs.Lines.{entry_lines, entries_lines}
use Rattle.evidence.specs.Refusals.{line_after, EntryFails, EntriesFail}
use Rattle.evidence.specs.Claims.{IsFirstOf}
use Rattle.evidence.proofs.AtOnce.{all_at}
use Rattle.evidence.proofs.EntryLemmas.{text_lines, entry_within}
use Rattle.evidence.proofs.Holding.{entry_never_fails}
use Rattle.evidence.proofs.LineLemmas.{none_there, line_feeds-append}
use Rattle.evidence.proofs.OrderLemmas.{InOrder, value_there, first_of_list}

-- ---- entries one after the other

-- an entry's text stands before those of later ones
later : (number : ℕ) (xs : List Found) (i n : ℕ) (x : Found) → slice_get xs i ≡ Some x → i < n → line_feeds (entries_text number (take i xs)) + line_feeds (entry_text (number + i) x) ≤ line_feeds (entries_text number (take n xs))
later number xs i zero x at lt = absurd (omega (arith, lt))
later number [] i (suc n) x at lt = absurd (none-some x at)
later number (y ∷ xs) zero (suc n) x at lt =
    let k : number + 0 ≡ number = omega arith in
    let here : line_feeds (entry_text (number + 0) x) ≡ line_feeds (entry_text number y) = ap (λ (j : ℕ). line_feeds (entry_text j x)) k ∙ ap (λ (z : Found). line_feeds (entry_text number z)) (sym (same_Some y x at)) in
    omega (arith, here, none_there, line_feeds-append (entry_text number y) (entries_text (number + 1) (take n xs)))
later number (y ∷ xs) (suc i) (suc n) x at lt =
    let k : number + suc i ≡ (number + 1) + i = omega arith in
    let same : line_feeds (entry_text (number + suc i) x) ≡ line_feeds (entry_text ((number + 1) + i) x) = ap (λ (j : ℕ). line_feeds (entry_text j x)) k in
    omega (arith, same, later (number + 1) xs i n x at (omega (arith, lt)), line_feeds-append (entry_text number y) (entries_text (number + 1) (take i xs)), line_feeds-append (entry_text number y) (entries_text (number + 1) (take n xs)))

-- entries have so many lines
pub entries_feeds : (depth : ℕ) (a : Lll) (number : ℕ) (xs : List Found) → depth ≤ 64 → number + length xs < 2 ^ 64 → All (EntryFits depth a) xs → line_feeds (entries_text number xs) ≡ entries_lines xs
entries_feeds depth a number [] le few fits = none_there
entries_feeds depth a number (x ∷ xs) le few fits =
    line_feeds-append (entry_text number x) (entries_text (number + 1) xs)
    ∙ omega (
      arith,
      text_lines depth a number x le (omega (arith, few)) (All-head (EntryFits depth a) x xs fits),
      entries_feeds depth a (number + 1) xs le (omega (arith, few)) (All-tail (EntryFits depth a) x xs fits),
      sum_by-cons entry_lines x xs,
    )

module _ (e : Evidence) (le : e.depth ≤ 64) (few : length e.entries < 2 ^ 63) (fits : All (EntryFits e.depth e.a) e.entries) where
  abbrev pub front_of : ℕ → List ℕ
  front_of p = models_text e ++ equal_text (part_count e.b) e.equal ++ entries_text 1 (take p e.entries)

  abbrev Entry : ℕ → Found → ℕ → Cause → Type 0
  Entry p entry line why = EntryFails e.a p e.depth e.conflicts (front_of p) entry line why

  abbrev Good : ℕ → Found → Type 0
  Good p entry = IsAcceptedEntry e.a p e.depth e.conflicts entry

  feeds_of : (p : ℕ) → line_feeds (front_of p) ≡ line_feeds (models_text e ++ equal_text (part_count e.b) e.equal) + line_feeds (entries_text 1 (take p e.entries))
  feeds_of p = line_feeds-append (models_text e ++ equal_text (part_count e.b) e.equal) (entries_text 1 (take p e.entries))

  small : (p : ℕ) (entry : Found) → slice_get e.entries p ≡ Some entry → p + 1 < 2 ^ 64
  small p entry at = omega (arith, few, slice_get_within e.entries p entry at)

  fit : (p : ℕ) (entry : Found) → slice_get e.entries p ≡ Some entry → EntryFits e.depth e.a entry
  fit p entry at = all_at (EntryFits e.depth e.a) e.entries p entry fits at

  lines_of : (p : ℕ) (entry : Found) → slice_get e.entries p ≡ Some entry → line_feeds (entry_text (1 + p) entry) ≡ entry_lines entry
  lines_of p entry at = text_lines e.depth e.a (1 + p) entry le (omega (arith, few, slice_get_within e.entries p entry at)) (fit p entry at)

  in_order : InOrder e.entries Entry (λ p. line_feeds (front_of p))
  in_order = record {
    after = λ p entry line why at fails. (entry_within e.a p e.depth e.conflicts le (small p entry at) (front_of p) entry (fit p entry at) line why fails).after;
    before = λ p q entry line why at lt fails.
        let w = entry_within e.a p e.depth e.conflicts le (small p entry at) (front_of p) entry (fit p entry at) line why fails in
        omega (arith, w.upto, feeds_of p, feeds_of q, later 1 e.entries p q entry at lt, lines_of p entry at);
  }

  never : (p : ℕ) (entry : Found) (line : ℕ) (why : Cause) → Good p entry → Entry p entry line why → ⊥
  never p entry line why good fails = entry_never_fails e.a p e.depth e.conflicts (front_of p) entry line why good fails

  -- the first entry that isn't accepted
  pub entries_fail : (p : ℕ) (entry : Found) (line : ℕ) (why : Cause) → slice_get e.entries p ≡ Some entry → ((q : ℕ) → q < p → IsSomeAnd (slice_get e.entries q) (IsAcceptedEntry e.a q e.depth e.conflicts))
      → IsFirstOf (EntryFails e.a p e.depth e.conflicts (front_of p) entry) line why → IsFirstOf (EntriesFail e) line why
  entries_fail p entry line why at earlier here = first_of_list e.entries Entry Good (λ p. line_feeds (front_of p)) in_order never p entry line why at earlier here

  -- they fail after what is said of the parts
  pub entries_after : (line : ℕ) (why : Cause) → EntriesFail e line why → line_feeds (models_text e ++ equal_text (part_count e.b) e.equal) < line
  entries_after line why fails =
      let entry = value_there (slice_get e.entries fails.0) (λ x. Entry fails.0 x line why) fails.2 in
      omega (arith, in_order.after fails.0 entry.0 line why entry.1 entry.2, feeds_of fails.0)

  -- where the next entry begins
  pub begins_at : (first at p : ℕ) → first ≡ line_after (models_text e ++ equal_text (part_count e.b) e.equal) → p ≤ length e.entries → at ≡ first + entries_lines (take p e.entries) → at ≡ line_after (front_of p)
  begins_at first at p begins within there =
      let count : length (take p e.entries) ≡ p = length-take-le p e.entries within in
      omega (arith, begins, there, feeds_of p, entries_feeds e.depth e.a 1 (take p e.entries) le (omega (arith, few, count, within)) (All-take (EntryFits e.depth e.a) p e.entries fits))

-- ---- answers

-- each entry is for an obligation
pub within_obligations : (a : Lll) (shown : Equal) (entries : List Found) (p : ℕ) → EntriesFit a shown entries → p < length entries → p < length a.obligations
within_obligations a (equal.Shown logs) entries p fit lt = omega (arith, fit, lt)
within_obligations a (equal.Conflicts part stepping log) entries p fit lt = absurd (let n : length entries ≡ 0 = ap (λ (xs : List Found). length xs) fit in omega (arith, n, lt))

-- one entry more
pub entries_lines-more : (entries : List Found) (i : ℕ) (entry : Found) → i < length entries → entry ≡ get_or entries i entry → entries_lines (take (i + 1) entries) ≡ entries_lines (take i entries) + entry_lines entry
entries_lines-more entries i entry within same =
    ap entries_lines (take_more entries i entry within ∙ ap (λ (x : Found). take i entries ++ x ∷ []) (sym same)) ∙ sum_by-append entry_lines (take i entries) (entry ∷ []) ∙ omega (arith, sum_by-cons entry_lines entry [])
