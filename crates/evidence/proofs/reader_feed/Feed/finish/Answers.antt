use Rattle.std.proofs.Common.{List, ℕ, refl, sym, subst, ◌∙◌}
use Rattle.evidence.specs.declared.unread.Unread.TheVariants as unread
use Rattle.evidence.specs.Begun.{EndsEarly}
use Rattle.evidence.proofs.Fed.{not_long, wrong_before, ends_early}
use Rattle.evidence.proofs.reader_feed.Feed.finish.Goals as goal

pub returns-in-Some-clause-wrong : goal.returns-in-Some-clause-wrong
returns-in-Some-clause-wrong c = λ bytes s.
    let f = c.args.self.now in
    let fed = s c.if-self.false in
    (not_long f bytes fed c.if-self-gt-LIMIT.false, wrong_before f bytes c.in-Some.line fed c.in-Some.is)

pub returns-in-Err-Form-clause-wrong : goal.returns-in-Err-Form-clause-wrong
returns-in-Err-Form-clause-wrong c = λ bytes s.
    let f = c.args.self.now in
    let fed = s c.if-self.false in
    let early = rw c.in-Err-Form.field-0-is at c.in-Err-Form.ensures.early in (
      not_long f bytes fed c.if-self-gt-LIMIT.false,
      ends_early f bytes c.in-Err-Form.line fed c.if-self-gt-LIMIT.false c.in_default.is
          (subst (λ (t : List ℕ). EndsEarly f.progress.stage f.progress f.line t (unread.Form c.in-Err-Form.line)) c.deref.ensures.value early),
    )

pub returns-in-Ok-clause-ended : goal.returns-in-Ok-clause-ended
returns-in-Ok-clause-ended c = record {
  alive = c.if-self.false;
  few = c.if-self-gt-LIMIT.false;
  form = c.in_default.is;
  ended = c.in-Ok.ensures.ended;
  nothing = sym c.deref.ensures.value ∙ c.in-Ok.ensures.nothing;
  judged = refl;
  lines = c.in-Ok.ensures.lines;
}
