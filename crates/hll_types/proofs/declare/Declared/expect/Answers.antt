use Rattle.std.proofs.Common.{true, false, sym, subst}
use Rattle.std.proofs.lemmas.List.{append-nil}
use Rattle.hll_types.specs.Declaring.{IsAfter, start}
use Rattle.hll_types.proofs.ExpectWalk.{early_constants, early_types, early_variables}
use Rattle.hll_types.proofs.declare.Declared.expect.Goals as goal

pub returns-in-Types : goal.returns-in-Types
returns-in-Types c = rw (c.in-Types.is, early_types c.in-Types.items) (rw c.as_slice.ensures at c.expect_types.ensures)

pub returns-in-Inputs : goal.returns-in-Inputs
returns-in-Inputs c = rw (c.in-Inputs.is, early_variables true c.in-Inputs.decls) (rw c.as_slice-in-Inputs.ensures at c.expect_all.ensures)

pub returns-in-Declarations : goal.returns-in-Declarations
returns-in-Declarations c = rw (c.in-Declarations.is, early_variables false c.in-Declarations.decls) (rw c.as_slice-in-Declarations.ensures at c.expect_all-in-Declarations.ensures)

pub returns-in-Constants : goal.returns-in-Constants
returns-in-Constants c = rw c.in-Constants.is (λ further h. rw early_constants (subst (IsAfter c.args.self.now start) (sym (append-nil further)) h))

pub returns-in-Definitions : goal.returns-in-Definitions
returns-in-Definitions c = rw c.in-Definitions.is (λ further h. subst (IsAfter c.args.self.now start) (sym (append-nil further)) h)

pub returns-in-Constraints : goal.returns-in-Constraints
returns-in-Constraints c = rw c.in-Constraints.is (λ further h. subst (IsAfter c.args.self.now start) (sym (append-nil further)) h)

pub returns-in-Obligations : goal.returns-in-Obligations
returns-in-Obligations c = rw c.in-Obligations.is (λ further h. subst (IsAfter c.args.self.now start) (sym (append-nil further)) h)
