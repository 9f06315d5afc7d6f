use Rattle.std.proofs.Common.{◌≡◌, true, false, ap, ◌∙◌}
use Rattle.std.specs.Prelude.{option_map}
use Rattle.std.specs.Option.{option_copied}
use Rattle.std.specs.Str.{bytes_eq}
use Rattle.std.proofs.lemmas.List.{take_all}
use Rattle.hll_meaning.specs.Names.{under}
use Rattle.hll_meaning.specs.Types.{kind_of}
use Rattle.hll_expressions.specs.Scopes.{index_names}
use Rattle.hll_expressions.proofs.ScopeLemmas.{name_here, name_further}
use Rattle.hll_expressions.proofs.scope.index_kind.Goals as goal
use Rattle.hll_expressions.proofs.scope.index_kind.Goals.{then-eq, else-eq}

pub loop-index-preserved : goal.loop-index-preserved
loop-index-preserved c = elim c.if-eq.branch [
  | then-eq w ↦
      let here : bytes_eq c.index-item.result.name c.args.name.now ≡ true = cc in
      name_here c.args.name.now c.args.indices.now c.loop-index.index-index c.index-item.result _ c.loop-index-test.true c.index-item.is here (ap (λ o. option_map kind_of (option_copied o)) w.found-is)
  | else-eq w ↦
      let other : bytes_eq c.index-item.result.name c.args.name.now ≡ false = cc in
      name_further c.args.name.now c.args.indices.now c.loop-index.index-index c.index-item.result _ _ c.loop-index-test.true c.index-item.is other (ap (λ o. option_map kind_of (option_copied o)) w.found-is) c.loop-index.invariant
]

pub returns : goal.returns
returns c = c.loop-index.invariant ∙ ap (λ xs. under c.args.name.now (index_names xs)) (take_all c.loop-index.index-index c.args.indices.now c.loop-index-test.false)
