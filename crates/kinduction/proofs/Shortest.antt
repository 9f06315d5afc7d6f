-- Runs that break an obligation, none of which is shorter.
use Rattle.std.proofs.Common.{ℕ, ◌<◌, ◌≤◌, Bool, List, length, sym, ◌∙◌, arith, inl, inr}
use Rattle.lll_core.specs.declared.lll.Lll.{Lll}
use Rattle.lll_core.specs.Tables.{Table}
use Rattle.rup_checker.specs.declared.log.Log.{Log}
use Rattle.unroll_cnf.proofs.RowLemmas.{same_run}
use Rattle.kinduction.specs.Rounds.{IsBreak}
use Rattle.kinduction.specs.Runs.{Breaks, AreShortest}
use Rattle.kinduction.proofs.Induction.{below_or_not}
use Rattle.kinduction.proofs.Refuted.{no_short_break}

module _ (l : Lll) (p : ℕ) (bits : List (List Bool)) (bases : List Log) (within : p < length l.obligations) (break : IsBreak l p bits bases) where
  long_enough : (h : Table) → Breaks l p h → length break.broken.0 ≤ length h
  long_enough h is = elim (below_or_not is.0 (length bases)) [
    | inl short ↦ absurd (no_short_break l p within bases break.bases_refuted is.0 short h is.1)
    | inr far ↦ omega (arith, far, is.1.long, break.broken.2.long)
  ]

  pub shortest : AreShortest l p bits
  shortest = record {
    run = break.broken.0;
    only = record {
      holds = (break.broken.2.run, break.broken.1);
      only = λ h other. same_run l break.broken.0 h break.broken.2.run other.0 (other.1 ∙ sym break.broken.1);
    };
    shortest = record {
      breaks = (length bases, break.broken.2);
      least = long_enough;
    };
  }
