use Rattle.std.proofs.Common.{◌≡◌, length, map, sym, ◌∙◌, ap, arith, below_more}
use Rattle.std.specs.Str.{bytes_eq}
use Rattle.std.proofs.lemmas.List.{length-map}
use Rattle.std.proofs.Math.ListN.{get_or-map}
use Rattle.hll_cli.proofs.Rows.{value_at-first, not_contained}
use Rattle.hll_cli.proofs.table.position.Goals as goal

pub returns-then-eq-clause-value : goal.returns-then-eq-clause-value
returns-then-eq-clause-value c = λ values long.
    value_at-first _ values c.args.name.now c.loop-i.i (rw length-map c.loop-i-test.true) c.loop-i.invariant
    (ap (λ n. bytes_eq n c.args.name.now) (get_or-map (λ n. n.now) c.args.names.now c.loop-i.i _) ∙ sym c.if-eq.ensures)
    (rw length-map long)

pub loop-i-preserved : goal.loop-i-preserved
loop-i-preserved c =
    below_more _ _ c.loop-i.invariant
    (ap (λ n. bytes_eq n c.args.name.now) (get_or-map (λ n. n.now) c.args.names.now c.loop-i.i _) ∙ sym c.if-eq.ensures)

pub unreachable-requires : goal.unreachable-requires
unreachable-requires c =
    not_contained _ c.args.name.now (λ k h. c.loop-i.invariant k (let e : length (map (λ n. n.now) c.args.names.now) ≡ length c.args.names.now = length-map _ _ in omega arith)) c.requires
