use Rattle.std.proofs.Common.{◌^◌, ◌<◌, ℕ, List, Some, None, sym, subst}
use Rattle.std.specs.Prelude.{All}
use Rattle.std.specs.List.{flat_map}
use Rattle.lll_text.specs.Spelling.{number_field}
use Rattle.rup_checker.specs.declared.log.Step.{Step}
use Rattle.evidence.specs.Counts.{IsLiteralNumber, IsStep}
use Rattle.evidence.specs.Spelling.{literals}
use Rattle.evidence.specs.Readers.{Reads, step_content}
use Rattle.evidence.proofs.ReadSteps.{parted, step_read, no_clause, no_hints}
use Rattle.evidence.proofs.reader_fields.step_at.Goals as goal

pub around-requires : goal.around-requires
around-requires c = (parted c.args.text.now c.args.colon c.requires).within

pub returns-in-None : goal.returns-in-None
returns-in-None c =
    no_clause c.args.text.now c.args.colon (parted c.args.text.now c.args.colon c.requires)
    (subst (λ (t : List ℕ). Reads (All IsLiteralNumber) literals t None) c.around.ensures.front (rw c.in-None.is at c.in_ok-clause.ensures))

pub returns-in-Some-2 : goal.returns-in-Some-2
returns-in-Some-2 c =
    subst (λ (s : Step). Reads IsStep step_content c.args.text.now (Some s)) (sym c.new.ensures)
    (step_read c.args.text.now c.args.colon c.in-Some.clause.items c.in-Some-2.hints.items (parted c.args.text.now c.args.colon c.requires)
    (subst (λ (t : List ℕ). Reads (All IsLiteralNumber) literals t (Some c.in-Some.clause.items)) c.around.ensures.front (rw c.in-Some.is at c.in_ok-clause.ensures))
    (subst (λ (t : List ℕ). Reads (All (λ h. h < 2 ^ 32)) (flat_map number_field) t (Some c.in-Some-2.hints.items)) c.around.ensures.back (rw c.in-Some-2.is at c.in_ok-hints.ensures)))

pub returns-in-None-2 : goal.returns-in-None-2
returns-in-None-2 c =
    no_hints c.args.text.now c.args.colon (parted c.args.text.now c.args.colon c.requires)
    (subst (λ (t : List ℕ). Reads (All (λ h. h < 2 ^ 32)) (flat_map number_field) t None) c.around.ensures.back (rw c.in-None-2.is at c.in_ok-hints.ensures))
