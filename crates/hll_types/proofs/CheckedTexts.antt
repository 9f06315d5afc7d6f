-- The faults of a text, pass by pass.
use Rattle.std.proofs.Common.{◌≡◌, List, [], ◌++◌, Result, sym, ap, ◌∙◌}
use Rattle.hll_tree.specs.declared.tree.HllModel.{HllModel}
use Rattle.hll_meaning.specs.Names.{Names}
use Rattle.hll_meaning.specs.Declarations.{names}
use Rattle.hll_meaning.specs.Judging.{Fault}
use Rattle.hll_meaning.specs.StaticRules.{pass1_faults, pass2_faults, pass3_faults, faults}
use Rattle.hll_expressions.specs.declared.faults.StaticFault.{StaticFault}
use Rattle.hll_expressions.specs.Answers.{IsFaultAt, IsJudged}
use Rattle.hll_types.specs.Defining.{pass2}
use Rattle.hll_expressions.proofs.Firsts.{before}
use Rattle.hll_expressions.proofs.FaultFolds.{same_judged}

-- the first fault of the first pass
pub first_pass : (m : HllModel) (f : StaticFault) → IsFaultAt (pass1_faults m) f → IsFaultAt (faults m) f
first_pass m f h = before (pass1_faults m) (pass2_faults m ++ pass3_faults m) f h

-- those of the later passes, where the first one has none
pub all_passes : (m : HllModel) (all : Names) (r : Result Unit StaticFault) → pass1_faults m ≡ [] → all ≡ names m → IsJudged ((pass2 all m).faults ++ pass3_faults m) r → IsJudged (faults m) r
all_passes m all r none is h =
    same_judged _ _ r (ap (λ (xs : Names). (pass2 xs m).faults ++ pass3_faults m) is ∙ ap (λ (fs : List Fault). fs ++ (pass2_faults m ++ pass3_faults m)) (sym none)) h
