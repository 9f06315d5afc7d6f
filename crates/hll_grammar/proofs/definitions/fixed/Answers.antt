use Rattle.std.specs.Int.{w128}
use Rattle.std.proofs.lemmas.Int.{to_z-of_z}
use Rattle.hll_grammar.proofs.Optional.{fixed_read, fixed_refused}
use Rattle.hll_grammar.proofs.definitions.fixed.Goals as goal

pub returns-in_default-clause-reads : goal.returns-in_default-clause-reads
returns-in_default-clause-reads c = λ room.
    let h = c.in_default.ensures.taken in
    fixed_refused c.args.cursor.now.text c.accept_number.new.self.text room c.args.cursor.now.rest c.accept_number.new.self.rest c.unexpected.result h.1 h.0 c.accept_number.ensures.text c.unexpected.ensures

pub returns-clause-reads : goal.returns-clause-reads
returns-clause-reads c = λ room.
    let h = c.in-Some.ensures.taken in
    rw (to_z-of_z w128 c.in-Some.value c.in-Some.ensures.fits) (fixed_read c.args.cursor.now.text room c.args.cursor.now.rest c.accept_number.new.self.rest h.0 c.in-Some.token c.in-Some.value h.1 h.2.0 h.2.1)
