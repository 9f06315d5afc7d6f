use Rattle.std.proofs.Common.{map, ap, ◌∙◌}
use Rattle.std.proofs.lemmas.Result.{IfOk-weaker}
use Rattle.hll_meaning.specs.Fitting.{group_of}
use Rattle.hll_meaning.specs.Types.{kind_of}
use Rattle.hll_expressions.specs.Described.{known}
use Rattle.hll_expressions.proofs.GivenLemmas.{kind_whole, kind_group, kind_choice, kinds_more, kinds_done}
use Rattle.hll_expressions.proofs.given.+kinds.Goals as goal

pub Given::kind-returns-in-Group : goal.Given::kind-returns-in-Group
Given::kind-returns-in-Group t c = IfOk-weaker c.kinds.result _ _ (λ k h. kind_group c.args.self.now c.in-Group.at c.in-Group.parts (kind_of k) c.in-Group.is (h ∙ ap (λ gs. group_of (map (λ j. j.kind) (map known gs))) c.as_slice.ensures)) c.kinds.ensures

pub Given::kind-returns-in-Whole : goal.Given::kind-returns-in-Whole
Given::kind-returns-in-Whole t c = IfOk-weaker c.copy.result _ _ (λ k h. kind_whole c.args.self.now _ c.in-Whole.kind k _ c.in-Whole.is h) c.copy.ensures

pub Given::kind-returns-in-Choice : goal.Given::kind-returns-in-Choice
Given::kind-returns-in-Choice t c = IfOk-weaker c.copy-in-Choice.result _ _ (λ k h. kind_choice c.args.self.now _ c.in-Choice.kind k _ c.in-Choice.is h) c.copy-in-Choice.ensures

pub kinds-loop-given-preserved : goal.kinds-loop-given-preserved
kinds-loop-given-preserved t c =
    kinds_more c.loop-given.fields c.push.new.self c.args.parts.now c.loop-given.given-index c.given-item.result _ c.loop-given-test.true c.given-item.is c.loop-given.invariant c.in_ok-push.ensures.ok c.in_ok-name.ensures c.in_ok-ty.ensures

pub kinds-returns : goal.kinds-returns
kinds-returns t c = kinds_done c.in_ok-new.field-0 c.loop-given.fields c.args.parts.now c.loop-given.given-index c.in_ok-new.ensures c.loop-given-test.false c.loop-given.invariant
