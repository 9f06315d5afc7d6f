use Rattle.hll_types.proofs.declare.Declared.section.Goals as goal

pub returns-in-Constants : goal.returns-in-Constants
returns-in-Constants c = rw c.in-Constants.is (rw c.as_slice.ensures at c.all_constants.ensures)

pub returns-in-Types : goal.returns-in-Types
returns-in-Types c = rw c.in-Types.is (rw c.as_slice-in-Types.ensures at c.all_types.ensures)

pub returns-in-Inputs : goal.returns-in-Inputs
returns-in-Inputs c = rw c.in-Inputs.is (rw c.as_slice-in-Inputs.ensures at c.all_variables.ensures)

pub returns-in-Declarations : goal.returns-in-Declarations
returns-in-Declarations c = rw c.in-Declarations.is (rw c.as_slice-in-Declarations.ensures at c.all_variables-in-Declarations.ensures)
