use Rattle.std.proofs.Common.{◌≡◌, drop}
use Rattle.std.specs.List.{list_all}
use Rattle.hll_cli.specs.Accepted.{is_boolean_link}
use Rattle.hll_cli.proofs.built.+boolean.Given as goal

abbrev pub invariant-are_boolean-loop-link : goal.invariant-are_boolean-loop-link
invariant-are_boolean-loop-link l = list_all is_boolean_link l.links ≡ list_all is_boolean_link (drop l.link-index l.links)
