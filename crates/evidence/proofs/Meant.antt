-- What the lines of accepted evidence mean.
use Rattle.std.proofs.Common.{◌≡◌, ℕ, zero, suc, List, [], ◌∷◌, length, Some, slice_get, map, replicate, refl, ap, subst, ◌∙◌, unwrap_or}
use Rattle.std.proofs.lemmas.List.{length-map, length-replicate}
use Rattle.std.proofs.lemmas.Option.{none-some}
use Rattle.lll_core.specs.declared.lll.Lll.{Lll}
use Rattle.kinduction.specs.declared.equal.Equal.{Equal}
use Rattle.kinduction.specs.declared.equal.Equal.TheVariants as equal
use Rattle.kinduction.specs.declared.found.Found.{Found}
use Rattle.kinduction.specs.declared.found.Found.TheVariants as found
use Rattle.evidence.specs.declared.evidence.Evidence.{Evidence}
use Rattle.evidence.specs.declared.summary.Line.{Line}
use Rattle.evidence.specs.declared.summary.Line.TheVariants as line
use Rattle.evidence.specs.Counts.{HasText, EntriesFit}
use Rattle.evidence.specs.Accepted.{Accepted}
use Rattle.evidence.specs.Meaning.{IsMeantBy, IsMeant}
use Rattle.evidence.specs.Summaries.{line_of, lines_of}
use Rattle.evidence.proofs.Proved.{holds_in_both, holds_in_miter, runs_split, is_shortest, depth_breaks_late}

-- the line of an entry
of_entry : (entries : List Found) (p : ℕ) (shown : Line) → slice_get (map line_of entries) p ≡ Some shown
    → (entry : Found) × (slice_get entries p ≡ Some entry) × (line_of entry ≡ shown)
of_entry [] p shown at = absurd (none-some shown at)
of_entry (entry ∷ entries) zero shown at = (entry, refl, ap (λ o. unwrap_or o shown) at)
of_entry (entry ∷ entries) (suc p) shown at = of_entry entries p shown at

-- one line as often as there are obligations
all_one : (n p : ℕ) (x shown : Line) → slice_get (replicate n x) p ≡ Some shown → x ≡ shown
all_one zero p x shown at = absurd (none-some shown at)
all_one (suc n) zero x shown at = ap (λ o. unwrap_or o shown) at
all_one (suc n) (suc p) x shown at = all_one n p x shown at

entry_meant : (e : Evidence) (p : ℕ) (entry : Found) → HasText e → Accepted e → slice_get e.entries p ≡ Some entry → IsMeantBy e p (line_of entry)
entry_meant e p (found.Proved k bases step) fits accepted at =
    let both = holds_in_both e p k bases step fits accepted at in
    (both, λ m is. holds_in_miter e.a e.b m p (runs_split e.a e.b m accepted.paired is) both)
entry_meant e p (found.Falsified bits bases) fits accepted at = (bits, refl, is_shortest e p bits bases fits accepted at)
entry_meant e p (found.Depth step_model bases) fits accepted at = depth_breaks_late e p step_model bases fits accepted at
entry_meant e p (found.Conflicts place log bases) fits accepted at = tt

line_meant : (e : Evidence) (of_parts : Equal) → HasText e → Accepted e → (p : ℕ) (shown : Line) → slice_get (lines_of e.a of_parts e.entries) p ≡ Some shown → IsMeantBy e p shown
line_meant e (equal.Shown logs) fits accepted p shown at =
    let o = of_entry e.entries p shown at in
    subst (IsMeantBy e p) o.2 (entry_meant e p o.0 fits accepted o.1)
line_meant e (equal.Conflicts part stepping log) fits accepted p shown at =
    subst (IsMeantBy e p) (all_one (length e.a.obligations) p line.Equivalence shown at) tt

as_many : (a : Lll) (of_parts : Equal) (entries : List Found) → EntriesFit a of_parts entries → length (lines_of a of_parts entries) ≡ length a.obligations
as_many a (equal.Shown logs) entries fit = length-map entries line_of ∙ fit
as_many a (equal.Conflicts part stepping log) entries fit = length-replicate (length a.obligations) line.Equivalence

pub is_meant : (e : Evidence) → HasText e → Accepted e → IsMeant e
is_meant e fits accepted = record { each = as_many e.a e.equal e.entries fits.entries_fit; meant = line_meant e e.equal fits accepted }
