use Rattle.std.proofs.Common.{◌≡◌, ◌≤◌, ℕ, List, length, sym, subst, ◌∙◌, rules}
use Rattle.std.specs.List.{AllByRecursion}
use Rattle.hll_tree.specs.declared.tree.HllModel.{HllModel}
use Rattle.hll_meaning.specs.Runs.{obligations}
use Rattle.hll_meaning.specs.StaticRules.{Well}
use Rattle.hll_cli.specs.Accepted.{IsSpelled}
use Rattle.hll_cli.specs.Texts.{IsMisspelled}
use Rattle.hll_cli.proofs.Unanswered.{misspelled_undecided}
use Rattle.hll_cli.proofs.decision.decide.Goals as goal

pub returns-in_err-spelled-clause-refused : goal.returns-in_err-spelled-clause-refused
returns-in_err-spelled-clause-refused c = λ r failed.
    let misspelled : IsMisspelled c.args.text.now r = search rules in
    misspelled_undecided c.args.text.now r misspelled

pub check_rules-requires : goal.check_rules-requires
check_rules-requires c = c.in_ok-spelled.ensures.spelled.0

pub decide_model-requires-clause-spelled : goal.decide_model-requires-clause-spelled
decide_model-requires-clause-spelled c =
    let same = sym (c.model.ensures.is ∙ c.in_ok-checked.ensures.checked.0) in
    subst (λ (m : HllModel). (is : IsSpelled c.args.text.now m) × (length is.tokens ≡ c.in_ok-spelled.spelled.tokens)) same c.in_ok-spelled.ensures.spelled

pub decide_model-requires-clause-only : goal.decide_model-requires-clause-only
decide_model-requires-clause-only c =
    let same = sym (c.model.ensures.is ∙ c.in_ok-checked.ensures.checked.0) in
    subst (λ (m : HllModel). (other : HllModel) (is : IsSpelled c.args.text.now other) → (other ≡ m) × (length is.tokens ≡ c.in_ok-spelled.spelled.tokens)) same c.in_ok-spelled.ensures.only

pub decide_model-requires-clause-places : goal.decide_model-requires-clause-places
decide_model-requires-clause-places c =
    let same = sym (c.model.ensures.is ∙ c.in_ok-checked.ensures.checked.0) in
    subst (λ (m : HllModel). AllByRecursion (λ e. e.at ≤ length c.args.text.now) (obligations m)) same c.in_ok-spelled.ensures.places

pub decide_model-requires-clause-well : goal.decide_model-requires-clause-well
decide_model-requires-clause-well c =
    let same = sym (c.model.ensures.is ∙ c.in_ok-checked.ensures.checked.0) in
    subst Well same c.in_ok-checked.ensures.checked.1
