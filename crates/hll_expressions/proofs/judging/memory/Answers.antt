use Rattle.std.proofs.Common.{rules, ◌≡◌, Err}
use Rattle.hll_expressions.proofs.MemoryLemmas.{memory_other, memory_inconstant, memory_wide, memory_answer}
use Rattle.hll_expressions.proofs.judging.memory.Goals as goal

pub returns-in_err-own : goal.returns-in_err-own
returns-in_err-own c =
    let f = c.in_err-own.field-0.0 in
    let is : c.from_residual-in_err-own.result ≡ Err f = search rules in
    rw is (memory_other c.args.at c.args.body.now c.args.first.now c.args.needs_constant c.in_ok-kind.kind.now f c.in_ok-kind.ensures.0 c.in_ok-kind.ensures.1 c.in_err-own.ensures)

pub returns-in_err-refuse_if : goal.returns-in_err-refuse_if
returns-in_err-refuse_if c =
    let f = c.in_err-refuse_if.field-0.0 in
    let is : c.from_residual-in_err-refuse_if.result ≡ Err f = search rules in
    rw is (memory_inconstant c.args.at c.args.body.now c.args.first.now c.args.needs_constant c.in_ok-kind.kind.now c.in_ok-own.own f c.in_ok-kind.ensures.0 c.in_ok-kind.ensures.1 c.in_ok-own.ensures c.in_err-refuse_if.ensures.1)

pub returns-in_err-refuse_if-2 : goal.returns-in_err-refuse_if-2
returns-in_err-refuse_if-2 c =
    let f = c.in_err-refuse_if-2.field-0.0 in
    let is : c.from_residual-in_err-refuse_if-2.result ≡ Err f = search rules in
    rw is
    (memory_wide c.args.at c.args.body.now c.args.first.now c.args.needs_constant c.in_ok-kind.kind.now c.in_ok-own.own c.in_ok-joined.joined f c.in_ok-kind.ensures.0 c.in_ok-kind.ensures.1 c.in_ok-own.ensures
    c.in_ok-refuse_if.ensures c.in_ok-joined.ensures c.in_err-refuse_if-2.ensures.1)

pub returns : goal.returns
returns c =
    memory_answer c.args.at c.args.body.now c.args.first.now c.args.needs_constant c.in_ok-kind.kind.now c.in_ok-own.own c.in_ok-joined.joined c.in_ok-kind.ensures.0 c.in_ok-kind.ensures.1 c.in_ok-own.ensures
    c.in_ok-refuse_if.ensures c.in_ok-joined.ensures c.in_ok-refuse_if-2.ensures
