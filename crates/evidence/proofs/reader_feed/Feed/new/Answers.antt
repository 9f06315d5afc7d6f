use Rattle.std.proofs.Common.{[], None, refl, sym, subst}
use Rattle.lll_text.specs.Lines.{line_feeds}
use Rattle.evidence.specs.Standing.{IsWithinLine}
use Rattle.evidence.specs.Telling.{KeepsStep}
use Rattle.evidence.proofs.LinesRead.{nothing_read}
use Rattle.evidence.proofs.reader_feed.Feed.new.Goals as goal

pub returns-clause-stands : goal.returns-clause-stands
unfolding line_feeds
returns-clause-stands c = λ alive. record {
  count = refl;
  reading = λ none few. record {
    front = [];
    parts = sym c.new.ensures.items;
    within = subst IsWithinLine (sym c.new.ensures.items) refl;
    number = refl;
    read = nothing_read c.new-2.result c.new-2.ensures.stage;
    fine = c.new-2.ensures.fine;
    judged = subst (λ s. KeepsStep s [] c.new-2.result None) (sym c.new-2.ensures.stage) tt;
  };
  wrong = λ line some more. absurd cc;
}
