use Rattle.std.proofs.Common.{◌≡◌, ◌++◌, map}
use Rattle.std.specs.Iterator.Adapters.{zip_first, zip_second}
use Rattle.std.specs.Slice.Iter.{iter_rest}
use Rattle.hll_cli.specs.Report.{values_text}
use Rattle.hll_cli.proofs.report.push_values.Given as goal

abbrev pub invariant-loop-name : goal.invariant-loop-name
invariant-loop-name l =
    l.out.items ++ values_text (map (λ n. n.now) (iter_rest (zip_first l.name-iterator))) (iter_rest (zip_second l.name-iterator))
    ≡ l.initial.out.items ++ values_text (map (λ n. n.now) l.names) l.values
