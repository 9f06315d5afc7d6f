-- What definitions give to elements: it has a number for each cell, and each number goes by the cells that are mentioned for it.
use Rattle.std.proofs.Common.{◌≡◌, ℕ, zero, suc, inl, List, [], ◌∷◌, length, refl, ap, arith}
use Rattle.intervals.specs.Ends.{Ends}
use Rattle.hll_tree.specs.declared.tree.HllModel.{HllModel}
use Rattle.hll_meaning.specs.Declarations.{names}
use Rattle.hll_meaning.specs.Kinds.{Value, ranges, fit_one, fit_all}
use Rattle.hll_meaning.specs.Runs.{scene}
use Rattle.hll_meaning.specs.StaticRules.{Well}
use Rattle.hll_meaning.specs.Texts.{HasText}
use Rattle.hll_meaning.specs.Values.{worth}
use Rattle.dependence.specs.CellRuns.{GivenNumbersGo, GivenValuesHaveCells, RunsGoByCells, SettingMakesRuns}
use Rattle.dependence.specs.Laws.{ValuesGoByMentionedCells}
use Rattle.dependence.proofs.DeclaredKinds.{names_of_text}
use Rattle.dependence.proofs.DependedCells.{given_in_definition}
use Rattle.dependence.proofs.Numbers.{number_of}
use Rattle.dependence.proofs.RunsOfCells.{cells_of_run, run_of_cells}
use Rattle.dependence.proofs.Setting.{setting_makes_runs}
use Rattle.dependence.proofs.ValuesGo.{value_goes}
use Rattle.dependence.proofs.ValuesHaveCells.{given_value_has_cells}

-- values of expressions without faults
pub values_go : ValuesGoByMentionedCells
values_go m bound e k place t g h well given below goes also agree =
    value_goes (names m) (names_of_text m well) g h goes.of_kinds also.of_kinds e given.kinds bound k place t
    (record { bound = given.are_bound; first = goes.within; second = also.within; before = agree.before })
    given.linked given.faultless (inl (given.of_text, given.fits)) below agree.now

-- what definitions give has a number for each cell
pub given_values_have_cells : (m : HllModel) → HasText m → Well m → GivenValuesHaveCells m
given_values_have_cells m text well e expr t h of goes = given_value_has_cells m e.bound expr e.kind t h well (given_in_definition m text well e expr of) goes

-- where two values have the same number at a place, so have what they become
same_fit : (es : List Ends) (v w : Value) (place : ℕ) → length v ≡ length es → length w ≡ length es → number_of v place ≡ number_of w place → number_of (fit_all es v) place ≡ number_of (fit_all es w) place
same_fit [] v w place long also same = refl
same_fit (e ∷ es) [] w place long also same = absurd (omega (arith, long))
same_fit (e ∷ es) (x ∷ v) [] place long also same = absurd (omega (arith, also))
same_fit (e ∷ es) (x ∷ v) (y ∷ w) zero long also same = ap (fit_one e) same
same_fit (e ∷ es) (x ∷ v) (y ∷ w) (suc place) long also same = same_fit es v w place (omega (arith, long)) (omega (arith, also)) same

-- what definitions give to a place goes by the cells that are mentioned for it
pub given_numbers_go : (m : HllModel) → HasText m → Well m → GivenNumbersGo m
given_numbers_go m text well e expr place t g h of below goes also agree =
    let given = given_in_definition m text well e expr of in
    same_fit (ranges e.kind) (worth expr (scene m g t e.bound)) (worth expr (scene m h t e.bound)) place
    (given_value_has_cells m e.bound expr e.kind t g well given goes)
    (given_value_has_cells m e.bound expr e.kind t h well given also)
    (values_go m e.bound expr e.kind place t g h well given below goes also agree)

-- ---- runs

-- cells that are set in an order make a run
pub cells_make_runs : SettingMakesRuns
cells_make_runs m order h text well is_order are = setting_makes_runs m order h well (given_numbers_go m text well) is_order are

-- runs are what they are cell by cell
pub runs_by_cells : RunsGoByCells
runs_by_cells m h text well = (cells_of_run m h well, run_of_cells m h well (given_values_have_cells m text well))
