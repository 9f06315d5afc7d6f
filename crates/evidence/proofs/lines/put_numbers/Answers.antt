use Rattle.std.proofs.Common.{codes}
use Rattle.lll_text.specs.Spelling.{line}
use Rattle.evidence.specs.Spelling.{number_line}
use Rattle.evidence.proofs.SendingLemmas.{put_three}
use Rattle.evidence.proofs.lines.put_numbers.Goals as goal

pub returns : goal.returns
returns c =
    put_three _ c.args.out.now.items _ _ _ (line (codes "hll-evidence 1")) (number_line (codes "depth") c.args.e.now.depth) (number_line (codes "conflicts") c.args.e.now.conflicts)
    c.in_ok-extend_from_slice.ensures.items c.in_ok-put_number_line.ensures c.put_number_line-2.ensures
