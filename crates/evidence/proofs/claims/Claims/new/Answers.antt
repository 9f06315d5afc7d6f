use Rattle.std.proofs.Common.{rules, ◌≡◌, ℕ, true, length, refl, sym, subst}
use Rattle.evidence.specs.Accepted.{IsSmallFormula}
use Rattle.evidence.specs.LogClaims.{line_instants}
use Rattle.evidence.proofs.EntryMethods.{begun, refused_parts}
use Rattle.evidence.proofs.claims.Claims.new.Goals as goal

pub returns-then-not-fits : goal.returns-then-not-fits
returns-then-not-fits c = λ h depth conflicts few obligations paired is begins.
    refused_parts h c.args.said c.args.miter c.args.at (few, obligations, paired, is) begins
    (λ small. let yes : c.fits.result ≡ true = c.fits.ensures.1 (subst (λ (n : ℕ). IsSmallFormula n (length c.args.miter.lll.signals)) (sym c.instants_of_line.ensures) small) in cc)

pub returns : goal.returns
returns c = λ h depth conflicts few obligations paired is begins.
    let yes : c.fits.result ≡ true = search rules in
    let small : IsSmallFormula (line_instants c.args.said) (length c.args.miter.lll.signals) = subst (λ (n : ℕ). IsSmallFormula n (length c.args.miter.lll.signals)) c.instants_of_line.ensures (c.fits.ensures.0 yes) in
    begun h c.args.said _ depth conflicts refl refl (few, obligations, paired, is) small
