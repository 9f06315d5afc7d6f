use Rattle.std.proofs.Common.{◌∙◌, refl}
use Rattle.hll_expressions.specs.Joining.{said}
use Rattle.hll_expressions.proofs.JoinLemmas.{gathered_more, any_more}
use Rattle.hll_expressions.proofs.join.gather.Goals as goal

pub returns : goal.returns
returns c = λ js h. record {
  fields = gathered_more c.args.all.now.fields c.push.new.self js _ (said c.args.next) h.fields c.in_ok-push.ensures.ok c.in_ok-name.ensures refl;
  mismatched = c.or-mismatched.ensures ∙ any_more (λ j. j.mismatched) js (said c.args.next) c.args.all.now.mismatched h.mismatched;
  wide = c.or-wide.ensures ∙ any_more (λ j. j.wide) js (said c.args.next) c.args.all.now.wide h.wide;
  uneven = c.or-uneven.ensures ∙ any_more (λ j. j.uneven) js (said c.args.next) c.args.all.now.uneven h.uneven;
}
