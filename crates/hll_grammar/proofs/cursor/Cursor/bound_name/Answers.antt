use Rattle.std.proofs.Common.{ap}
use Rattle.std.proofs.lemmas.Result.{err_from_is_err_and}
use Rattle.hll_grammar.proofs.Taking.{bound_name_answer, bound_name_refused}
use Rattle.hll_grammar.proofs.cursor.Cursor.bound_name.Goals as goal

pub returns-in_err-token-clause-reads : goal.returns-in_err-token-clause-reads
returns-in_err-token-clause-reads c =
    let p = err_from_is_err_and c.from_residual.result c.from_residual.ensures.1 in
    rw (p.1, p.2) (bound_name_refused c.args.room c.args.self.now c.open.new.self.rest _ c.in_err-token.ensures.opened)

pub returns-clause-reads : goal.returns-clause-reads
returns-clause-reads c =
    bound_name_answer c.args.room c.args.self.now c.open.new.self.text c.open.new.self.rest c.in_ok-token.token c.name_of.result c.in_ok-token.ensures.opened c.open.ensures.text
    c.name_of.ensures.name c.name_of.ensures.memory
