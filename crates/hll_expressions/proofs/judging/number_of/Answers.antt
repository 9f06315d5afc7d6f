use Rattle.std.proofs.Common.{◌≡◌, to_z, of_z, to_z-of_z}
use Rattle.std.specs.Int.{w128}
use Rattle.hll_expressions.proofs.FormLemmas.{number_answer}
use Rattle.hll_expressions.proofs.judging.number_of.Goals as goal

pub returns : goal.returns
returns c =
    let back : to_z w128 (of_z w128 c.args.number) ≡ c.args.number = to_z-of_z c.ranges.number in
    number_answer c.args.at c.args.number c.new.result c.whole_number.result (rw back at c.new.ensures) (rw back at c.whole_number.ensures)
