use Rattle.std.proofs.Common.{◌≡◌, ◌-◌, true, refl, sym, subst, arith}
use Rattle.evidence.specs.declared.reader_lines.Verdict.{Verdict}
use Rattle.evidence.specs.declared.reader_lines.Verdict.TheVariants as verdict
use Rattle.evidence.specs.Judging.{RowsHold, RowsFit}
use Rattle.evidence.proofs.claims.judge_rows.Goals as goal

pub returns-then-branch : goal.returns-then-branch
returns-then-branch c =
    let rows = c.args.rows.now in
    let n = c.in-Falsified.n in
    let fit : RowsFit (verdict.Falsified n) rows = subst (λ (v : Verdict). RowsFit v rows) c.in-Falsified.is c.requires.fits in
    subst (λ (v : Verdict). RowsHold c.args.l.now c.args.p v rows) (sym c.in-Falsified.is) (λ long. (c.in_ok-breaks-in-Falsified.ensures (n - 1) (omega (arith, long, fit.0))).0 c.if-branch.true)

pub returns-else-branch : goal.returns-else-branch
returns-else-branch c =
    let rows = c.args.rows.now in
    let n = c.in-Falsified.n in
    let fit : RowsFit (verdict.Falsified n) rows = subst (λ (v : Verdict). RowsFit v rows) c.in-Falsified.is c.requires.fits in (
      refl,
      refl,
      λ hold.
          let here : RowsHold c.args.l.now c.args.p (verdict.Falsified n) rows = subst (λ (v : Verdict). RowsHold c.args.l.now c.args.p v rows) c.in-Falsified.is hold in
          let yes : c.in_ok-breaks-in-Falsified.field-0 ≡ true = (c.in_ok-breaks-in-Falsified.ensures (n - 1) (omega (arith, fit.0, fit.1))).1 (here (omega (arith, fit.0, fit.1))) in
          cc,
    )
