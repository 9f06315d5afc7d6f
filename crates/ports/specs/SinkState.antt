-- What contracts see of a sink in memory.
use Rattle.std.specs.Prelude.{ℕ, List}

-- a sink that never fails: its bytes, and how many more it takes with no new memory
pub record SureOutput : Type 0 where
  pub bytes : List ℕ
  pub spare : ℕ

-- a sink that fails where it is told to: also its calls, the numbers of those that fail, and its faults
pub record PlannedOutput : Type 0 where
  pub bytes : List ℕ
  pub calls : ℕ
  pub fails : List ℕ
  pub faults : ℕ
  pub spare : ℕ
