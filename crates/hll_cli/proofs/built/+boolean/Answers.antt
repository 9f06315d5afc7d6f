use Rattle.hll_cli.proofs.Booleans.{path_boolean, chain_true, chain_false}
use Rattle.hll_cli.proofs.built.+boolean.Goals as goal

pub is_boolean-returns-in-Path : goal.is_boolean-returns-in-Path
is_boolean-returns-in-Path t c = path_boolean c.args.expr.now _ c.in-Path.reaches c.is_empty.result c.in-Path.is (rw c.as_slice.ensures at c.is_empty.ensures)

pub is_boolean-returns-then-is_boolean : goal.is_boolean-returns-then-is_boolean
is_boolean-returns-then-is_boolean t c =
    chain_true c.args.expr.now c.in-Chain.first c.in-Chain.links c.is_boolean-in-Chain.result c.are_boolean.result c.in-Chain.is
    (rw c.get-in-Chain.ensures at c.is_boolean-in-Chain.ensures) c.if-is_boolean.true (rw c.as_slice-then-is_boolean.ensures at c.are_boolean.ensures)

pub is_boolean-returns-else-is_boolean : goal.is_boolean-returns-else-is_boolean
is_boolean-returns-else-is_boolean t c =
    chain_false c.args.expr.now c.in-Chain.first c.in-Chain.links c.is_boolean-in-Chain.result c.in-Chain.is
    (rw c.get-in-Chain.ensures at c.is_boolean-in-Chain.ensures) c.if-is_boolean.false
