use Rattle.std.proofs.Common.{ap, sym, ◌∙◌, Some}
use Rattle.ports.proofs.FileLemmas.{files_in-IsFirst, files_in-none}
use Rattle.ports.proofs.file_list.bytes_of.Goals as goal

pub returns-in_err-place : goal.returns-in_err-place
returns-in_err-place c = rw c.from_residual.ensures (sym (files_in-none c.args.files.now c.args.name.now c.in_err-place.ensures.place))

pub returns : goal.returns
returns c =
    ap (λ bytes. Some bytes) c.as_slice.ensures.value ∙ sym (files_in-IsFirst c.args.files.now c.args.name.now c.in_ok-place.place c.index-files-place.result c.in_ok-place.ensures.place)
