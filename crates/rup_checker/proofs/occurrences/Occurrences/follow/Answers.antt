use Rattle.std.proofs.Common.{rules, ◌≡◌, ◌<◌, ◌-◌, ◌∷◌, [], suc, sym, ap, subst, ◌∙◌, length, arith}
use Rattle.std.proofs.lemmas.List.{get_or_default}
use Rattle.rup_checker.specs.declared.occurrences.Cell.{Cell}
use Rattle.rup_checker.specs.Occurrences.{Listing, cell_at, chain, linked}
use Rattle.rup_checker.proofs.Chains.{chain_end, chain_past, chain_step}
use Rattle.rup_checker.proofs.occurrences.Occurrences.follow.Goals.{then-link-eq0-via-then-link-eq0, then-link-eq0-via-else-link-eq0+then-link-count}
use Rattle.rup_checker.proofs.occurrences.Occurrences.follow.Goals as goal

pub returns-then-link-eq0-clause-numbers : goal.returns-then-link-eq0-clause-numbers
returns-then-link-eq0-clause-numbers c =
    let cells = c.self.inside.cells.items in
    elim c.then-link-eq0.branch [
      | then-link-eq0-via-then-link-eq0 w ↦ (
          let none : c.args.link ≡ 0 = search rules in
          ap (linked c.args.self.now) none ∙ chain_end c.args.self.now.cells (length c.args.self.now.cells))
      | then-link-eq0-via-else-link-eq0+then-link-count w ↦ (
          let count : c.len-count.result ≡ length cells = search rules in
          let past : length cells < c.args.link = omega (arith, w.if-link-count.true, count) in
          subst (λ (t : Listing). linked t c.args.link ≡ []) c.self.view_is (chain_past cells (length cells) c.args.link past))
    ]

pub returns-clause-numbers : goal.returns-clause-numbers
returns-clause-numbers c =
    let cells = c.self.inside.cells.items in
    let m = c.args.link - 1 in
    let some : c.args.link ≡ suc m = search rules in
    let count : c.len-count.result ≡ length cells = search rules in
    let within : m < length cells = omega (arith, some, count) in
    let read : cell_at cells m ≡ c.index.result.now = sym (get_or_default cells m c.index.result.now (record { number = 0; rest = 0 }) within) ∙ sym c.index.ensures in
    subst (λ (t : Listing). linked t c.args.link ≡ c.index.result.now.number ∷ linked t c.index.result.now.rest) c.self.view_is
    (ap (chain cells (length cells)) some ∙ chain_step cells m within (c.self.invariant.falling m within)
    ∙ ap (λ (d : Cell). d.number ∷ chain cells (length cells) d.rest) read)
