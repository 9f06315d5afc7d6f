use Rattle.std.proofs.Common.{ℕ, List, ◌++◌, codes, map, ap, ◌∙◌}
use Rattle.std.proofs.lemmas.List.Folds.{flat_map-map}
use Rattle.hll_tree.specs.Printing.{items_text}
use Rattle.hll_tree.proofs.PrintedLists.{ends_all}
use Rattle.hll_tree.proofs.printer.push_items.Goals as goal

pub returns : goal.returns
returns g c =
    ends_all (λ x. codes "  " ++ g.T.Layout.text x ++ codes ";\n") (items_text (map g.T.Layout.text c.args.items.now)) c.args.items.now c.loop-item.item-index
    c.args.out.now.items c.extend_from_slice.new.self.items c.loop-item.out.items c.args.heading.now
    c.loop-item-test.false (flat_map-map (λ t. codes "  " ++ t ++ codes ";\n") g.T.Layout.text c.args.items.now)
    (c.in_ok-extend_from_slice.ensures.items ∙ ap (λ (s : List ℕ). c.args.out.now.items ++ s) c.as_bytes.ensures.value)
    c.loop-item.invariant
