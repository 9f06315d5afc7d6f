use Rattle.std.proofs.Common.{◌++◌, codes, map}
use Rattle.hll_tree.specs.Printing.{joined}
use Rattle.hll_tree.proofs.PrintedLists.{ends_further, joined_parts}
use Rattle.hll_tree.proofs.printer.push_joined.Goals as goal

pub returns-after-loop-item : goal.returns-after-loop-item
returns-after-loop-item g c =
    ends_further g.T.Layout.text (λ x. codes ", " ++ g.T.Layout.text x) (λ xs. joined (codes ", ") (map g.T.Layout.text xs)) (joined_parts (codes ", ") g.T.Layout.text)
    c.args.items.now c.first-item.result c.loop-item.item-index c.args.out.now.items c.push.new.out.items c.loop-item.out.items
    c.in-len1-up.len_at_least c.first-item.is c.loop-item-test.false c.in_ok-push-in-len1-up.ensures c.loop-item.invariant
