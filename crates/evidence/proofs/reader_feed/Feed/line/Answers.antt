use Rattle.std.proofs.Common.{◌≡◌, ◌+◌, ◌++◌, [], List, ℕ, refl, sym, ap, subst, ◌∙◌, arith}
use Rattle.std.proofs.lemmas.Grind.{common_steps}
use Rattle.lll_text.specs.Spelling.{line}
use Rattle.evidence.specs.declared.reader_feed.Feed.{Feed}
use Rattle.evidence.specs.Standing.{IsWithinLine}
use Rattle.evidence.proofs.FeedTurns.{line_read, both_within, few_lines, to_be_judged}
use Rattle.evidence.proofs.reader_feed.Feed.line.Goals as goal

pub judge_on-requires : goal.judge_on-requires
judge_on-requires c =
    let f = c.args.self.now in
    let rest = c.args.rest.now in
    let none : f.pending.items ≡ [] = grind (arith, common_steps) in
    to_be_judged f c.read.new.self rest rest c.in_ok-said.said (ap (λ (t : List ℕ). t ++ rest) (sym none)) c.requires.short c.in_ok-said.ensures.fine c.in_ok-said.ensures.tells

pub judge_on-requires-2 : goal.judge_on-requires-2
judge_on-requires-2 c =
    let f = c.args.self.now in
    let rest = c.args.rest.now in
    let is : c.deref.result.now ≡ f.pending.items ++ rest = c.deref.ensures.value ∙ c.in_ok-extend_from_slice.ensures.items in
    to_be_judged f c.read-2.new.self rest c.deref.result.now c.in_ok-said-2.said is c.requires.short c.in_ok-said-2.ensures.fine c.in_ok-said-2.ensures.tells

pub returns-then-is_empty-clause-reading : goal.returns-then-is_empty-clause-reading
returns-then-is_empty-clause-reading c =
    let f = c.args.self.now in
    let rest = c.args.rest.now in
    let none : f.pending.items ≡ [] = grind (arith, common_steps) in
    let g : Feed = record f { line = f.line + 1; progress = c.read.new.self; room = c.judge_on.new.room; judged = c.judge_on.new.judged } in
    let read = c.in_ok-said.ensures in
    line_read f g rest rest c.in_ok-said.said (ap (λ (t : List ℕ). t ++ rest) (sym none)) c.requires.rest none refl (few_lines f (line rest) c.requires.short) read.taken read.fine read.adds read.tells c.in_ok-judge_on.ensures

pub returns-clause-reading : goal.returns-clause-reading
returns-clause-reading c =
    let f = c.args.self.now in
    let rest = c.args.rest.now in
    let is : c.deref.result.now ≡ f.pending.items ++ rest = c.deref.ensures.value ∙ c.in_ok-extend_from_slice.ensures.items in
    let g : Feed = record f { line = f.line + 1; pending = c.clear.new.self; progress = c.read-2.new.self; room = c.judge_on-2.new.room; judged = c.judge_on-2.new.judged } in
    let read = c.in_ok-said-2.ensures in
    line_read f g rest c.deref.result.now c.in_ok-said-2.said is (subst IsWithinLine (sym is) (both_within f.pending.items rest c.requires.pending c.requires.rest)) c.clear.ensures.items refl (few_lines f (line rest) c.requires.short)
    read.taken read.fine read.adds read.tells c.in_ok-judge_on-2.ensures
