use Rattle.std.proofs.Common.{◌≡◌, ◌+◌, ◌≤◌, ◌++◌, length, map}
use Rattle.std.specs.Iterator.Adapters.{zip_first, zip_second}
use Rattle.std.specs.List.{AllByRecursion}
use Rattle.std.specs.Slice.Iter.{iter_rest}
use Rattle.hll_lexer.specs.Place.{place_of}
use Rattle.hll_cli.specs.Report.{obligations_text}
use Rattle.hll_cli.proofs.report.push_obligations.Given as goal

abbrev pub invariant-loop-obligation : goal.invariant-loop-obligation
invariant-loop-obligation l =
    let obligations = map (λ e. e.now) (iter_rest (zip_first l.obligation-iterator)) in
    record {
      printed : l.out.items ++ obligations_text l.text (map (λ n. n.now) l.names) (l.number + 1) obligations (iter_rest (zip_second l.obligation-iterator))
          ≡ l.initial.out.items ++ obligations_text l.text (map (λ n. n.now) l.names) 1 (map (λ e. e.now) l.obligations) l.verdicts;
      within : AllByRecursion (λ e. e.at ≤ length l.text) obligations;
      counted : l.number + length (iter_rest (zip_first l.obligation-iterator)) ≡ length l.obligations;
      placed : l.here ≡ place_of l.text l.from;
    }
