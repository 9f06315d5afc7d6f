-- Parts in braces.
use Rattle.std.proofs.Common.{◌≡◌, ℕ, suc, ◌==◌, Bool, true, false, List, [], ◌∷◌, ◌++◌, map, length, refl, sym, ap, ◌∙◌}
use Rattle.std.specs.Prelude.{if◌then◌else◌}
use Rattle.hll_meaning.specs.declared.fault.StaticKind.TheVariants as why
use Rattle.hll_meaning.specs.Kinds.{Kind}
use Rattle.hll_meaning.specs.Fitting.{is_scalar, parts, group_of}
use Rattle.hll_meaning.specs.Judging.{fault_if, Context, Judged, all_faults, each_fits, group_fits, group_at}
use Rattle.hll_expressions.specs.declared.faults.StaticFault.{StaticFault}
use Rattle.hll_expressions.specs.declared.given.Given.{Given, Group}
use Rattle.hll_expressions.specs.Answers.{IsFaultAt}
use Rattle.hll_expressions.specs.Described.{known, Describes, DescribeAll}
use Rattle.hll_expressions.proofs.Firsts.{behind, none_both}
use Rattle.hll_expressions.proofs.KnownForms.{known_group}
use Rattle.hll_expressions.proofs.Describing.{all_faultless}
use Rattle.hll_expressions.proofs.FormLemmas.{free, starts_fails}

kinds_same : (needs : Bool) (gs : List Given) (js : List Judged) → DescribeAll needs gs js → map (λ j. j.kind) (map known gs) ≡ map (λ j. j.kind) js
kinds_same needs [] [] all = refl
kinds_same needs [] (j ∷ js) all = absurd all
kinds_same needs (g ∷ gs) [] all = absurd all
kinds_same needs (g ∷ gs) (j ∷ js) all = (λ i. all.0.kind i ∷ kinds_same needs gs js all.1 i)

lengths_same : (needs : Bool) (gs : List Given) (js : List Judged) → DescribeAll needs gs js → length (map known gs) ≡ length js
lengths_same needs [] [] all = refl
lengths_same needs [] (j ∷ js) all = absurd all
lengths_same needs (g ∷ gs) [] all = absurd all
lengths_same needs (g ∷ gs) (j ∷ js) all = ap suc (lengths_same needs gs js all.1)

fits_same : (needs : Bool) (gs : List Given) (js : List Judged) → DescribeAll needs gs js → (ks : List Kind) → each_fits (map known gs) ks ≡ each_fits js ks
fits_same needs [] [] all ks = refl
fits_same needs [] (j ∷ js) all ks = absurd all
fits_same needs (g ∷ gs) [] all ks = absurd all
fits_same needs (g ∷ gs) (j ∷ js) all [] = refl
fits_same needs (g ∷ gs) (j ∷ js) all (k ∷ ks) = (λ i. all.0.fits k i ++ fits_same needs gs js all.1 ks i)

group_same : (needs : Bool) (at : ℕ) (gs : List Given) (js : List Judged) → DescribeAll needs gs js → (wanted : Kind) → group_fits at (map known gs) wanted ≡ group_fits at js wanted
group_same needs at gs js all wanted =
    (λ i. if is_scalar wanted then fault_if true why.Mismatch at
    else (if length (parts wanted) == lengths_same needs gs js all i then fits_same needs gs js all (parts wanted) i else fault_if true why.Shape at))

pub group_answer : (at : ℕ) (needs : Bool) (gs : List Given) → needs ≡ false → (c : Context) (js : List Judged) → c.needs_constant ≡ needs → DescribeAll needs gs js → Describes needs (Group at gs) (group_at c at js)
group_answer at needs gs not_needed c js same all = record {
  faultless = none_both (all_faults js) _ (all_faultless needs gs js all) (free c at needs same not_needed);
  place = ap (λ j. j.at) (known_group at gs);
  kind = ap (λ j. j.kind) (known_group at gs) ∙ ap group_of (kinds_same needs gs js all);
  fits = λ wanted. ap (λ j. j.fits wanted) (known_group at gs) ∙ group_same needs at gs js all wanted;
  worth = λ n. absurd (let e : true ≡ false = sym n ∙ not_needed in cc e);
}

pub group_fails : (at : ℕ) (needs : Bool) (gs : List Given) (f : StaticFault) → IsFaultAt (fault_if needs why.Constant at) f →
    (c : Context) (js : List Judged) → c.needs_constant ≡ needs → DescribeAll needs gs js → IsFaultAt (group_at c at js).faults f
group_fails at needs gs f h c js same all = behind (all_faults js) _ f (all_faultless needs gs js all) (starts_fails at needs f h c same)
