-- Words for the contracts of private parts: what a reader answers of the bytes that it is given.
use Rattle.std.specs.Prelude.{◌≡◌, ℕ, ◌+◌, ◌^◌, ◌<◌, ◌≤◌, false, List, ◌++◌, Option, Some, None, codes}
use Rattle.std.specs.List.{flat_map}
use Rattle.lll_text.specs.Fields.{begins_number}
use Rattle.lll_text.specs.Spelling.{number_field}
use Rattle.rup_checker.specs.declared.log.Step.{Step}
use Rattle.kinduction.specs.declared.found.Spot.{Spot}
use Rattle.kinduction.specs.declared.found.Spot.TheVariants as spot
use Rattle.evidence.specs.declared.reader_lines.EqualLine.{EqualLine}
use Rattle.evidence.specs.declared.reader_lines.EqualLine.TheVariants as equal
use Rattle.evidence.specs.declared.reader_lines.Verdict.{Verdict}
use Rattle.evidence.specs.declared.reader_lines.Verdict.TheVariants as verdict
use Rattle.evidence.specs.Spelling.{literals, formula_field, place_field}

-- the bytes spell this value, which fits, or no value that fits
abbrev pub Reads : {X : Type 0} → (X → Type 0) → (X → List ℕ) → List ℕ → Option X → Type 0
Reads fits spelled bytes (Some x) = fits x × (bytes ≡ spelled x)
Reads {X} fits spelled bytes None = (x : X) → fits x → bytes ≡ spelled x → ⊥

-- the bytes begin with the spelling of this value, which fits, and no digit follows it; or with that of no value that fits
abbrev pub ReadsFront : {X : Type 0} → (X → Type 0) → (X → List ℕ) → List ℕ → Option (X × List ℕ) → Type 0
ReadsFront fits spelled bytes (Some read) = fits read.0 × (bytes ≡ spelled read.0 ++ read.1) × (begins_number read.1 ≡ false)
ReadsFront {X} fits spelled bytes None =
    (x : X) (rest : List ℕ) → fits x → bytes ≡ spelled x ++ rest → begins_number rest ≡ false → ⊥

-- ---- what stands in a line before its line feed

-- a step
abbrev pub step_content : Step → List ℕ
step_content s = literals s.clause ++ codes ":" ++ flat_map number_field s.hints

-- what the line of so many parts says of them
abbrev pub equal_content : ℕ → EqualLine → List ℕ
equal_content parts equal.Shown = codes "equal shown" ++ number_field parts
equal_content parts (equal.Conflicts part stepping) = codes "equal conflicts" ++ number_field (part + 1) ++ formula_field stepping

-- a part that is named is one of them
abbrev pub EqualLineFits : ℕ → EqualLine → Type 0
EqualLineFits parts equal.Shown = Unit {0}
EqualLineFits parts (equal.Conflicts part stepping) = (part < parts) × (part < 2 ^ 32)

-- what the line of an entry says
abbrev pub verdict_content : Verdict → List ℕ
verdict_content (verdict.Proved k) = codes " proved" ++ number_field k
verdict_content (verdict.Falsified n) = codes " falsified" ++ number_field n
verdict_content verdict.Depth = codes " depth"
verdict_content (verdict.Conflicts place) = codes " conflicts" ++ place_field place

-- a place is one of those that are tried up to a depth
abbrev pub PlaceWithin : ℕ → Spot → Type 0
PlaceWithin depth (spot.Base j) = j < depth
PlaceWithin depth (spot.Step k) = (1 ≤ k) × (k ≤ depth)

-- its numbers are those of such a depth
abbrev pub VerdictFits : ℕ → Verdict → Type 0
VerdictFits depth (verdict.Proved k) = (1 ≤ k) × (k ≤ depth)
VerdictFits depth (verdict.Falsified n) = (1 ≤ n) × (n ≤ depth)
VerdictFits depth verdict.Depth = Unit {0}
VerdictFits depth (verdict.Conflicts place) = PlaceWithin depth place
