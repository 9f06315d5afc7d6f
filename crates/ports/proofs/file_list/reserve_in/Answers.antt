use Rattle.std.proofs.Common.{ap, ◌∙◌, arith}
use Rattle.ports.specs.DeskState.{named}
use Rattle.ports.proofs.FileLemmas.{found, with_bytes, files_in-none, room_in-found, room_in-set, named-set, named-with_bytes}
use Rattle.ports.proofs.file_list.reserve_in.Goals as goal

pub unreachable-requires : goal.unreachable-requires
unreachable-requires c =
    let none = files_in-none c.args.files.now.items c.args.name.now (rw c.as_slice.ensures.value at c.in-None.ensures.place) in
    let there = rw none at c.requires in
    cc

pub returns-clause-room : goal.returns-clause-room
returns-clause-room c =
    let at = found c.args.files.now.items c.as_slice.result.now c.args.name.now c.in-Some.place c.index_mut.result.now c.as_slice.ensures.value c.in-Some.ensures.place c.index_mut.ensures.value in
    let room = room_in-set c.args.files.now.items c.args.name.now c.in-Some.place (with_bytes c.index_mut.result.now c.reserve.new.self) at.here at.same in
    grind (arith, room, c.reserve.ensures.ok)

pub returns-clause-kept : goal.returns-clause-kept
returns-clause-kept c =
    let at = found c.args.files.now.items c.as_slice.result.now c.args.name.now c.in-Some.place c.index_mut.result.now c.as_slice.ensures.value c.in-Some.ensures.place c.index_mut.ensures.value in
    omega (arith, room_in-found c.args.files.now.items c.args.name.now c.in-Some.place c.index_mut.result.now at, room_in-set c.args.files.now.items c.args.name.now c.in-Some.place (with_bytes c.index_mut.result.now c.reserve.new.self) at.here at.same, c.reserve.ensures.len, c.reserve.ensures.capacity)

pub returns-clause-same : goal.returns-clause-same
returns-clause-same c =
    let f = c.index_mut.result.now in
    named-set c.args.files.now.items c.in-Some.place (with_bytes f c.reserve.new.self) f (named-with_bytes f c.reserve.new.self c.reserve.ensures.items ∙ ap named c.index_mut.ensures.value)
