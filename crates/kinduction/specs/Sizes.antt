-- Which formulas are small enough to be searched.
use Rattle.std.specs.Prelude.{ℕ, ◌+◌, ◌*◌, ◌<◌, ◌≤◌, ◌^◌, length}
use Rattle.lll_core.specs.declared.lll.Lll.{Lll}
use Rattle.miter.specs.declared.parts.MiterLll.{MiterLll}
use Rattle.rup_checker.specs.Formulas.{Cnf}
use Rattle.unroll_cnf.specs.Unrollings.{base_formula, step_formula, part_base_formula, part_step_formula}

-- a formula that can be made and searched
pub record IsSearchable (f : Cnf) : Type 0 where
  pub variables : f.variables ≤ 16000000
  pub clauses : length f.clauses < 2 ^ 31

-- the formulas of an obligation in each of so many rounds
abbrev pub RoundsFit : Lll → ℕ → ℕ → Type 0
RoundsFit l p depth = (j : ℕ) → j < depth → IsSearchable (base_formula l p j) × IsSearchable (step_formula l p (j + 1))

-- the formulas of each part
abbrev pub PartsFit : MiterLll → Type 0
PartsFit m = (i : ℕ) → i < length m.parts → IsSearchable (part_base_formula m i) × IsSearchable (part_step_formula m i)

-- ---- numbers that suffice: an instant has at most four clauses for each signal, one for each constraint, and three

-- a model is small enough for so many rounds
pub record IsSmall (l : Lll) (depth : ℕ) : Type 0 where
  pub variables : (depth + 1) * length l.signals ≤ 16000000
  pub clauses : (depth + 1) * (4 * length l.signals + length l.constraints + 3) < 2 ^ 31

-- a model with parts is small enough
pub record HasFewParts (m : MiterLll) : Type 0 where
  pub variables : 2 * length m.lll.signals ≤ 16000000
  pub clauses : 8 * length m.lll.signals + length m.parts + 3 < 2 ^ 31
