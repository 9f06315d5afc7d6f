use Rattle.std.proofs.Common.{ap}
use Rattle.ports.proofs.CountLemmas.{Raises_writes}
use Rattle.ports.proofs.desk_counts.DeskCounts.raise_writes.Goals as goal

pub returns : goal.returns
returns c =
    let old = c.index_mut.result.now in
    let new = c.raise_writes.new.self in
    let here = rw c.as_slice.ensures.value at c.in-Some.ensures.place in
    rw (← c.self.view_is) (Raises_writes c.self.inside.entries.items c.args.name.now c.in-Some.place old new here c.index_mut.ensures.value (ap (λ e. e.name) c.raise_writes.ensures.risen) (ap (λ e. e.writes) c.raise_writes.ensures.risen) c.raise_writes.ensures.later (ap (λ e. e.reads) c.raise_writes.ensures.risen) (ap (λ e. e.given) c.raise_writes.ensures.risen))
