use Rattle.std.proofs.Common.{ap}
use Rattle.ports.proofs.CountLemmas.{Raises_given}
use Rattle.ports.proofs.desk_counts.DeskCounts.raise_given.Goals as goal

pub returns : goal.returns
returns c =
    let old = c.index_mut.result.now in
    let new = c.raise_given.new.self in
    let here = rw c.as_slice.ensures.value at c.in-Some.ensures.place in
    rw (← c.self.view_is) (Raises_given c.self.inside.entries.items c.args.name.now c.in-Some.place old new here c.index_mut.ensures.value (ap (λ e. e.name) c.raise_given.ensures.risen) c.args.more (ap (λ e. e.given) c.raise_given.ensures.risen) c.raise_given.ensures.later (ap (λ e. e.reads) c.raise_given.ensures.risen) (ap (λ e. e.writes) c.raise_given.ensures.risen))
