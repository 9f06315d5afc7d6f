use Rattle.std.proofs.Common.{length, sym, refl}
use Rattle.std.proofs.lemmas.Option.{slice_get_read, slice_get_within}
use Rattle.miter.proofs.Partners.{no_latch, not_latch, named_at}
use Rattle.miter.proofs.joining.latch_number.Goals as goal

pub returns-in-Some-2-clause-none : goal.returns-in-Some-2-clause-none
returns-in-Some-2-clause-none c = λ init next.
    let found = named_at c.args.a.now c.requires.distinct c.args.numbers.now c.requires.numbers c.args.name.now c.in-Some.number (sym c.in-Some.ensures) in
    let lt = slice_get_within c.args.a.now c.in-Some.number found.0 found.1 in
    not_latch c.args.a.now c.requires.distinct c.args.numbers.now c.requires.numbers c.args.name.now c.in-Some.number c.index-a-number.result (sym c.in-Some.ensures)
    (slice_get_read c.args.a.now (length c.args.a.now) c.in-Some.number c.index-a-number.result refl lt c.index-a-number.is) (sym c.if-is_latch.ensures)

pub returns-in-Some-2-2-clause-none : goal.returns-in-Some-2-2-clause-none
returns-in-Some-2-2-clause-none c = λ init next. no_latch c.args.a.now c.requires.distinct c.args.numbers.now c.requires.numbers c.args.name.now (sym c.in-Some-2.ensures)
