-- What is given to a left side.
use Rattle.std.proofs.Common.{◌≡◌, Bool, ◌⊎◌, inl, inr, [], ◌++◌, Result, sym, ap, ◌∙◌}
use Rattle.std.proofs.lemmas.List.{append-nil}
use Rattle.hll_tree.specs.declared.tree.Expr.{Expr}
use Rattle.hll_tree.specs.declared.tree.Part.{Part}
use Rattle.hll_tree.specs.declared.tree.Part.TheVariants as part
use Rattle.hll_meaning.specs.Kinds.{Kind}
use Rattle.hll_meaning.specs.Judging.{Context, Judged, judged}
use Rattle.hll_expressions.specs.declared.faults.StaticFault.{StaticFault}
use Rattle.hll_expressions.specs.declared.given.Given.{Given}
use Rattle.hll_expressions.specs.Answers.{IsFaultAt, IsJudged}
use Rattle.hll_expressions.specs.Described.{known, Describes}
use Rattle.hll_types.specs.Defining.{part_faults}
use Rattle.hll_expressions.proofs.Firsts.{before, behind, none_both}
use Rattle.hll_expressions.proofs.FaultFolds.{same_faults, same_judged}

-- ---- one expression

pub alone_fits : (needs : Bool) (g : Given) (j : Judged) (k : Kind) (r : Result Unit StaticFault) → Describes needs g j → IsJudged ((known g).fits k) r → IsJudged (j.faults ++ j.fits k) r
alone_fits needs g j k r d h = same_judged _ _ r (d.fits k ∙ ap (λ fs. fs ++ j.fits k) (sym d.faultless)) h

-- ---- two expressions

pub second_judged : (needs : Bool) (g : Given) (j l : Judged) (k : Kind) (f : StaticFault) → Describes needs g j → IsFaultAt l.faults f → IsFaultAt ((j.faults ++ l.faults) ++ (j.fits k ++ l.fits k)) f
second_judged needs g j l k f d h = before (j.faults ++ l.faults) _ f (behind j.faults l.faults f d.faultless h)

both_described : (needs : Bool) (g i : Given) (j l : Judged) (k : Kind) → Describes needs g j → Describes needs i l → ((known g).fits k ++ (known i).fits k) ≡ ((j.faults ++ l.faults) ++ (j.fits k ++ l.fits k))
both_described needs g i j l k d e =
    (λ x. d.fits k x ++ e.fits k x) ∙ ap (λ fs. fs ++ (j.fits k ++ l.fits k)) (sym (none_both j.faults l.faults d.faultless e.faultless))

pub first_fits : (needs : Bool) (g i : Given) (j l : Judged) (k : Kind) (f : StaticFault) → Describes needs g j → Describes needs i l → IsFaultAt ((known g).fits k) f → IsFaultAt ((j.faults ++ l.faults) ++ (j.fits k ++ l.fits k)) f
first_fits needs g i j l k f d e h = same_faults _ _ f (both_described needs g i j l k d e) (before ((known g).fits k) _ f h)

pub second_fits : (needs : Bool) (g i : Given) (j l : Judged) (k : Kind) (r : Result Unit StaticFault) → Describes needs g j → Describes needs i l → (known g).fits k ≡ [] → IsJudged ((known i).fits k) r → IsJudged ((j.faults ++ l.faults) ++ (j.fits k ++ l.fits k)) r
second_fits needs g i j l k r d e none h = same_judged _ _ r (ap (λ fs. fs ++ (known i).fits k) (sym none) ∙ both_described needs g i j l k d e) h

-- ---- parts

-- the same of a part
one_part : (j : Judged) (k : Kind) → (j.faults ++ j.fits k) ≡ ((j.faults ++ []) ++ (j.fits k ++ []))
one_part j k = sym (λ i. append-nil j.faults i ++ append-nil (j.fits k) i)

two_parts : (j l : Judged) (k : Kind) → ((j.faults ++ l.faults) ++ (j.fits k ++ l.fits k)) ≡ ((j.faults ++ (l.faults ++ [])) ++ (j.fits k ++ (l.fits k ++ [])))
two_parts j l k = sym (λ i. (j.faults ++ append-nil l.faults i) ++ (j.fits k ++ append-nil (l.fits k) i))

-- a value, a first one or one for the next instant
pub of_alone : (c : Context) (k : Kind) (e : Expr) (p : Part) (r : Result Unit StaticFault) → (p ≡ part.Value e) ⊎ ((p ≡ part.First e) ⊎ (p ≡ part.Next e)) → IsJudged ((judged e c).faults ++ (judged e c).fits k) r → IsJudged (part_faults c k p) r
of_alone c k e p r (inl is) h = same_judged _ _ r (one_part (judged e c) k ∙ ap (part_faults c k) (sym is)) h
of_alone c k e p r (inr (inl is)) h = same_judged _ _ r (one_part (judged e c) k ∙ ap (part_faults c k) (sym is)) h
of_alone c k e p r (inr (inr is)) h = same_judged _ _ r (one_part (judged e c) k ∙ ap (part_faults c k) (sym is)) h

-- a first value and one for the next instant
pub of_both : (c : Context) (k : Kind) (e f : Expr) (p : Part) (r : Result Unit StaticFault) → p ≡ part.Both e f →
    IsJudged (((judged e c).faults ++ (judged f c).faults) ++ ((judged e c).fits k ++ (judged f c).fits k)) r → IsJudged (part_faults c k p) r
of_both c k e f p r is h = same_judged _ _ r (two_parts (judged e c) (judged f c) k ∙ ap (part_faults c k) (sym is)) h
