use Rattle.std.proofs.Common.{ap, ◌∙◌}
use Rattle.std.proofs.lemmas.Result.{err_from_is_err_and}
use Rattle.ports.proofs.FileLemmas.{found, Extends-found_ok, Extends-found_err, Extends-none_ok, Extends-none_err}
use Rattle.ports.proofs.file_list.extend_file.Goals as goal

pub returns-in_err-extend_from_slice-in-Some : goal.returns-in_err-extend_from_slice-in-Some
returns-in_err-extend_from_slice-in-Some c =
    let at = found c.args.files.now.items c.as_slice.result.now c.args.name.now c.in-Some.place c.index_mut.result.now c.as_slice.ensures.value c.in-Some.ensures.place c.index_mut.ensures.value in
    let e = c.in_err-extend_from_slice-in-Some.ensures in
    let p = err_from_is_err_and c.from_residual.result c.from_residual.ensures.1 in
    rw p.1 (Extends-found_err c.args.files.now.items c.args.name.now c.in-Some.place c.index_mut.result.now at c.extend_from_slice.new.self c.args.piece.now p.0 e.items e.len e.capacity e.full)

pub returns-in_err-bytes-in-None : goal.returns-in_err-bytes-in-None
returns-in_err-bytes-in-None c =
    let new = rw c.as_slice.ensures.value at c.in-None.ensures.place in
    let p = err_from_is_err_and c.from_residual-in_err-bytes-in-None.result c.from_residual-in_err-bytes-in-None.ensures.1 in
    rw p.1 (Extends-none_err c.args.files.now.items c.args.name.now c.args.piece.now new p.0)

pub returns-in_err-add_file-in-None : goal.returns-in_err-add_file-in-None
returns-in_err-add_file-in-None c =
    let new = rw c.as_slice.ensures.value at c.in-None.ensures.place in
    let p = err_from_is_err_and c.from_residual-in_err-add_file-in-None.result c.from_residual-in_err-add_file-in-None.ensures.1 in
    rw (p.1, c.in_err-add_file-in-None.ensures.err) (Extends-none_err c.args.files.now.items c.args.name.now c.args.piece.now new p.0)

pub returns-in_ok-extend_from_slice-in-Some : goal.returns-in_ok-extend_from_slice-in-Some
returns-in_ok-extend_from_slice-in-Some c =
    let at = found c.args.files.now.items c.as_slice.result.now c.args.name.now c.in-Some.place c.index_mut.result.now c.as_slice.ensures.value c.in-Some.ensures.place c.index_mut.ensures.value in
    let e = c.in_ok-extend_from_slice-in-Some.ensures in
    Extends-found_ok c.args.files.now.items c.args.name.now c.in-Some.place c.index_mut.result.now at c.extend_from_slice.new.self c.args.piece.now e.items e.len e.capacity

pub returns-in_ok-add_file-in-None : goal.returns-in_ok-add_file-in-None
returns-in_ok-add_file-in-None c =
    let added = c.in_ok-add_file-in-None.ensures.ok in
    let new = rw c.as_slice.ensures.value at c.in-None.ensures.place in
    rw added.1 (Extends-none_ok c.args.files.now.items c.args.name.now c.args.piece.now new added.0 added.2 (ap (λ bytes. bytes.items) added.3 ∙ c.in_ok-bytes-in-None.ensures.items))
