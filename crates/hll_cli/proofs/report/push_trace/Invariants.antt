use Rattle.std.proofs.Common.{◌≡◌, ◌++◌, map, drop}
use Rattle.hll_cli.specs.Report.{trace_text}
use Rattle.hll_cli.proofs.report.push_trace.Given as goal

abbrev pub invariant-loop-time : goal.invariant-loop-time
invariant-loop-time l =
    l.out.items ++ trace_text (map (λ n. n.now) l.names) l.time (drop l.time l.trace)
    ≡ l.initial.out.items ++ trace_text (map (λ n. n.now) l.names) 0 l.trace
