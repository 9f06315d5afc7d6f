-- The claims of an accepted value, entry by entry.
use Rattle.std.proofs.Common.{◌≡◌, ℕ, ◌<◌, Bool, List, [], length, Some, slice_get, get_or, map, inl, inr, sym, ap, subst, ◌∙◌, arith}
use Rattle.std.specs.Prelude.{IsSomeAnd}
use Rattle.std.proofs.lemmas.Option.{slice_get_within, slice_get-get_or, none-some}
use Rattle.lll_core.specs.declared.lll.Lll.{Lll}
use Rattle.lll_core.specs.Tables.{IsRun}
use Rattle.miter.specs.declared.parts.MiterLll.{MiterLll}
use Rattle.miter.specs.Pairs.{Paired}
use Rattle.miter.specs.Miters.{IsMiter}
use Rattle.miter.specs.Agreement.{Splits}
use Rattle.miter.proofs.MiterSignals.{All-at}
use Rattle.miter.proofs.Agreeing.{part_a, part_b, tables_are_both, run_of_a, run_of_b}
use Rattle.rup_checker.specs.declared.log.Log.{Log}
use Rattle.kinduction.specs.declared.equal.Equal.{Equal}
use Rattle.kinduction.specs.declared.equal.Equal.TheVariants as equal
use Rattle.kinduction.specs.declared.found.Found.{Found}
use Rattle.kinduction.specs.declared.found.Found.TheVariants as found
use Rattle.kinduction.specs.Parts.{ShowParts}
use Rattle.kinduction.specs.declared.found.Spot.TheVariants as spot
use Rattle.kinduction.specs.Rounds.{RefuteBases}
use Rattle.kinduction.specs.Runs.{AreShortest}
use Rattle.kinduction.proofs.Induction.{below_or_not, holds}
use Rattle.kinduction.proofs.Refuted.{no_short_break}
use Rattle.kinduction.proofs.Shortest.{shortest}
use Rattle.evidence.specs.declared.evidence.Evidence.{Evidence}
use Rattle.evidence.specs.Counts.{HasText, EntriesFit, EntryFits}
use Rattle.evidence.specs.Accepted.{Accepted, EqualHolds, IsAcceptedEntry}
use Rattle.evidence.specs.Meaning.{AreBeside, HoldsInBoth, HoldsInMiter, BreaksAfter}
use Rattle.evidence.proofs.Agreed.{holds_in}

-- where there is an entry, the parts are shown
shown_step : (a : Lll) (m : MiterLll) (budget : ℕ) (of_parts : Equal) (entries : List Found) (p : ℕ) (entry : Found) → EntriesFit a of_parts entries
    → EqualHolds m budget of_parts → slice_get entries p ≡ Some entry → (logs : List Log) × ShowParts m logs × (length entries ≡ length a.obligations)
shown_step a m budget (equal.Shown logs) entries p entry fit claims at = (logs, claims, fit)
shown_step a m budget (equal.Conflicts part stepping log) entries p entry fit claims at =
    absurd (none-some entry (ap (λ (es : List Found). slice_get es p) (sym fit) ∙ at))

there : (P : Found → Type 0) (entries : List Found) (p : ℕ) (entry : Found) → slice_get entries p ≡ Some entry → IsSomeAnd (slice_get entries p) P → P entry
there P entries p entry at h = subst (λ o. IsSomeAnd o P) at h

module _ (e : Evidence) (p : ℕ) (entry : Found) (fits : HasText e) (accepted : Accepted e) (at : slice_get e.entries p ≡ Some entry) where
  of_parts : (logs : List Log) × ShowParts accepted.m logs × (length e.entries ≡ length e.a.obligations)
  of_parts = shown_step e.a accepted.m e.conflicts e.equal e.entries p entry fits.entries_fit accepted.equal_holds at

  within : p < length e.a.obligations
  within = omega (arith, slice_get_within e.entries p entry at, of_parts.2)

  claim : IsAcceptedEntry e.a p e.depth e.conflicts entry
  claim = there (IsAcceptedEntry e.a p e.depth e.conflicts) e.entries p entry at (accepted.entries p (slice_get_within e.entries p entry at))

pub holds_in_both : (e : Evidence) (p k : ℕ) (bases : List Log) (step : Log) → HasText e → Accepted e → slice_get e.entries p ≡ Some (found.Proved k bases step) → HoldsInBoth e.a e.b p
holds_in_both e p k bases step fits accepted at of_a of_b beside =
    let entry = found.Proved k bases step in
    let parts = of_parts e p entry fits accepted at in
    let inside = within e p entry fits accepted at in
    let proof = (claim e p entry fits accepted at).holds in
    holds_in e.a e.b accepted.m parts.0 accepted.paired accepted.miter parts.1 of_a of_b beside p inside (holds e.a p k bases step inside proof)

-- a run of the miter is one of each at once
pub runs_split : (a b : Lll) (m : MiterLll) → Paired a b → IsMiter a b m → Splits IsRun a b m
runs_split a b m paired is g run =
    let whole = subst (λ signals. IsRun signals g) is.4.signals run in (
      map (part_a a b m is.0 is.1 is.2 is.3 is.4 paired) g,
      map (part_b a b m is.0 is.1 is.2 is.3 is.4 paired) g,
      run_of_a a b m is.0 is.1 is.2 is.3 is.4 paired g whole,
      run_of_b a b m is.0 is.1 is.2 is.3 is.4 paired g whole,
      tables_are_both a b m is.0 is.1 is.2 is.3 is.4 paired g whole.window,
    )

pub holds_in_miter : (a b : Lll) (m : MiterLll) (p : ℕ) → Splits IsRun a b m → HoldsInBoth a b p → HoldsInMiter a b m p
holds_in_miter a b m p splits in_both g run =
    let s = splits g run in
    let both = s.4 in
    let beside : AreBeside a b s.0 s.1 = record {
      run_a = s.2;
      run_b = s.3;
      long = both.long_a ∙ sym both.long_b;
      inputs = λ t x y at_a at_b.
          let lt : t < length g = omega (arith, slice_get_within s.0 t x at_a, both.long_a) in
          (both.instants t (get_or g t []) x y (slice_get-get_or g t [] lt) at_a at_b).inputs;
    } in
    (s.0, s.1, beside, both, in_both s.0 s.1 beside)

pub is_shortest : (e : Evidence) (p : ℕ) (bits : List (List Bool)) (bases : List Log) → HasText e → Accepted e → slice_get e.entries p ≡ Some (found.Falsified bits bases) → AreShortest e.a p bits
is_shortest e p bits bases fits accepted at =
    let entry = found.Falsified bits bases in
    shortest e.a p bits bases (within e p entry fits accepted at) (claim e p entry fits accepted at).holds

-- a run that breaks the obligation has more instants than base formulas were refuted
breaks_after : (l : Lll) (p : ℕ) (bases : List Log) (instants : ℕ) → p < length l.obligations → RefuteBases l p bases → length bases ≡ instants → BreaksAfter l p instants
breaks_after l p bases instants inside refuted count g breaks = elim (below_or_not breaks.0 (length bases)) [
  | inl short ↦ absurd (no_short_break l p inside bases refuted breaks.0 short g breaks.1)
  | inr far ↦ omega (arith, far, count, breaks.1.long)
]

-- an undecided obligation
pub depth_breaks_late : (e : Evidence) (p : ℕ) (step_model : List Bool) (bases : List Log) → HasText e → Accepted e → slice_get e.entries p ≡ Some (found.Depth step_model bases) → BreaksAfter e.a p e.depth
depth_breaks_late e p step_model bases fits accepted at =
    let entry = found.Depth step_model bases in
    let undecided = (claim e p entry fits accepted at).holds in
    breaks_after e.a p bases e.depth (within e p entry fits accepted at) undecided.bases_refuted undecided.count

fit : (e : Evidence) (p : ℕ) (entry : Found) → HasText e → slice_get e.entries p ≡ Some entry → EntryFits e.depth e.a entry
fit e p entry fits at = All-at (EntryFits e.depth e.a) e.entries p entry fits.each_fits at

pub base_breaks_late : (e : Evidence) (p j : ℕ) (log : Log) (bases : List Log) → HasText e → Accepted e → slice_get e.entries p ≡ Some (found.Conflicts (spot.Base j) log bases) → BreaksAfter e.a p j
base_breaks_late e p j log bases fits accepted at =
    let entry = found.Conflicts (spot.Base j) log bases in
    breaks_after e.a p bases j (within e p entry fits accepted at) (claim e p entry fits accepted at).holds.bases_refuted (fit e p entry fits at).0.1.long

pub step_breaks_late : (e : Evidence) (p k : ℕ) (log : Log) (bases : List Log) → HasText e → Accepted e → slice_get e.entries p ≡ Some (found.Conflicts (spot.Step k) log bases) → BreaksAfter e.a p k
step_breaks_late e p k log bases fits accepted at =
    let entry = found.Conflicts (spot.Step k) log bases in
    breaks_after e.a p bases k (within e p entry fits accepted at) (claim e p entry fits accepted at).holds.bases_refuted (fit e p entry fits at).0.2.long
