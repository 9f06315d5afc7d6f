use Rattle.std.proofs.Common.{ap, ◌∙◌, Some}
use Rattle.ports.proofs.FileLemmas.{found, with_bytes, files_in-set, files_in-set_others, files_in-push, files_in-push_others}
use Rattle.ports.proofs.file_list.empty_file.Goals as goal

pub returns-in-Some-clause-others : goal.returns-in-Some-clause-others
returns-in-Some-clause-others c =
    let at = found c.args.files.now.items c.as_slice.result.now c.args.name.now c.in-Some.place c.index_mut.result.now c.as_slice.ensures.value c.in-Some.ensures.place c.index_mut.ensures.value in
    files_in-set_others c.args.files.now.items c.args.name.now c.in-Some.place (with_bytes c.index_mut.result.now c.clear.new.self) at.here at.same

pub returns-in-Some-clause-emptied : goal.returns-in-Some-clause-emptied
returns-in-Some-clause-emptied c =
    let at = found c.args.files.now.items c.as_slice.result.now c.args.name.now c.in-Some.place c.index_mut.result.now c.as_slice.ensures.value c.in-Some.ensures.place c.index_mut.ensures.value in
    files_in-set c.args.files.now.items c.args.name.now c.in-Some.place (with_bytes c.index_mut.result.now c.clear.new.self) at.here at.same ∙ ap (λ bytes. Some bytes) c.clear.ensures.items

pub returns-in_ok-add_file-in-None-clause-others : goal.returns-in_ok-add_file-in-None-clause-others
returns-in_ok-add_file-in-None-clause-others c =
    let added = c.in_ok-add_file-in-None.ensures.ok in
    let new = rw c.as_slice.ensures.value at c.in-None.ensures.place in
    rw added.1 (files_in-push_others c.args.files.now.items c.args.name.now added.0 new added.2)

pub returns-in_ok-add_file-in-None-clause-emptied : goal.returns-in_ok-add_file-in-None-clause-emptied
returns-in_ok-add_file-in-None-clause-emptied c =
    let added = c.in_ok-add_file-in-None.ensures.ok in
    let new = rw c.as_slice.ensures.value at c.in-None.ensures.place in
    rw added.1 (files_in-push c.args.files.now.items c.args.name.now added.0 new added.2 ∙ ap (λ bytes. Some bytes.items) added.3 ∙ ap (λ bytes. Some bytes) c.new.ensures.items)
