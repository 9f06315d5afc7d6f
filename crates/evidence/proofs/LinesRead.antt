-- Whole lines that are read, one after the other.
use Rattle.std.proofs.Common.{◌≡◌, ℕ, List, [], ◌++◌, refl, sym, subst, append_assoc, inl, inr}
use Rattle.std.specs.Prelude.{codes}
use Rattle.lll_text.specs.Spelling.{line}
use Rattle.evidence.specs.declared.reader_progress.Progress.{Progress}
use Rattle.evidence.specs.declared.reader_progress.Stage.TheVariants as stage
use Rattle.evidence.specs.Begun.{IsBegun}
use Rattle.evidence.specs.Counts.{IsTextOf}
use Rattle.evidence.specs.Standing.{GoesOn, MayFollow, TakesLine}
use Rattle.evidence.specs.Stands.{AreRead}

-- no line is read yet
pub nothing_read : (p : Progress) → p.stage ≡ stage.Header → AreRead [] p
nothing_read p is = record {
  whole = inl refl;
  known = λ more e t. subst (λ s. MayFollow s p more) (sym is) (record { value = e; fits = t.fits; agrees = tt; spelled = sym t.spelled });
  there = λ more m. let g : GoesOn stage.Header p more = subst (λ s. MayFollow s p more) is m in (g.value, record { fits = g.fits; spelled = sym g.spelled });
  begun = subst (λ s. IsBegun s p []) (sym is) refl;
}

-- one line more
pub one_line_more : (front content : List ℕ) (p q : Progress) → AreRead front p → TakesLine p content q → IsBegun q.stage q (front ++ line content) → AreRead (front ++ line content) q
one_line_more front content p q so_far takes begun = record {
  whole = inr (front ++ content, sym (append_assoc front content (codes "\n")));
  known = λ more e t. (takes more).0 (so_far.known (line content ++ more) e (subst (λ (b : List ℕ). IsTextOf b e) (append_assoc front (line content) more) t));
  there = λ more m.
      let before = so_far.there (line content ++ more) ((takes more).1 m) in
      (before.0, subst (λ (b : List ℕ). IsTextOf b before.0) (sym (append_assoc front (line content) more)) before.1);
  begun = begun;
}
