use Rattle.std.proofs.Common.{rules, ◌≡◌, ℕ, true, length, sym, subst}
use Rattle.evidence.specs.Accepted.{IsSmallFormula}
use Rattle.evidence.specs.LogClaims.{verdict_instants}
use Rattle.evidence.proofs.EntryMethods.{entry_depth, entry_fits, entry_next, entry_refused, entry_turn}
use Rattle.evidence.proofs.claims.Claims.entry.Goals as goal

pub instants_of_verdict-requires-clause-depth : goal.instants_of_verdict-requires-clause-depth
instants_of_verdict-requires-clause-depth c = entry_depth c.args.a.now c.args.self.now c.args.number c.args.verdict c.requires

pub instants_of_verdict-requires-clause-fits : goal.instants_of_verdict-requires-clause-fits
instants_of_verdict-requires-clause-fits c = entry_fits c.args.a.now c.args.self.now c.args.number c.args.verdict c.requires

pub next_entry-self-requires : goal.next_entry-self-requires
next_entry-self-requires c = entry_next c.args.a.now c.args.self.now c.args.number c.args.verdict c.requires

pub returns-then-not-fits : goal.returns-then-not-fits
returns-then-not-fits c = λ x.
    entry_refused c.args.a.now c.args.self.now c.args.number c.args.verdict x
    (λ small. let yes : c.fits.result ≡ true = c.fits.ensures.1 (subst (λ (n : ℕ). IsSmallFormula n (length c.args.a.now.signals)) (sym c.instants_of_verdict.ensures) small) in cc)

pub returns : goal.returns
returns c = λ x.
    let yes : c.fits.result ≡ true = search rules in
    let small : IsSmallFormula (verdict_instants c.args.self.now.depth c.args.verdict) (length c.args.a.now.signals) = subst (λ (n : ℕ). IsSmallFormula n (length c.args.a.now.signals)) c.instants_of_verdict.ensures (c.fits.ensures.0 yes) in
    entry_turn c.args.a.now c.args.self.now c.args.number c.args.verdict x c.next_entry-self.result c.new.result small c.next_entry-self.ensures c.new.ensures
