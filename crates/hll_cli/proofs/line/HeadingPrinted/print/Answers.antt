use Rattle.std.proofs.Common.{append_assoc}
use Rattle.hll_cli.specs.Lines.{heading_text}
use Rattle.hll_cli.proofs.line.HeadingPrinted.print.Goals as goal

pub returns : goal.returns
unfolding heading_text
returns c = rw (c.in_ok-extend_from_slice-3.ensures.items, c.in_ok-print-2.ensures, c.in_ok-extend_from_slice-2.ensures.items, c.in_ok-print.ensures, c.in_ok-extend_from_slice.ensures.items) (simp append_assoc)
