-- Words for the contracts of private parts: the shares into which the obligations are parted, and steps over the parts.
use Rattle.std.specs.Prelude.{◌≡◌, ℕ, ◌+◌, ◌-◌, ◌*◌, ◌/◌, ◌<◌, ◌++◌, ◌∷◌, [], Bool, List, length, IsSomeAnd, MatchOption, Option, Result, Ok, Err, slice_get}
use Rattle.std.specs.declared.alloc.AllocError.{AllocError}
use Rattle.lll_core.specs.declared.lll.Lll.{Lll}
use Rattle.miter.specs.declared.parts.MiterLll.{MiterLll}
use Rattle.rup_checker.specs.declared.log.Log.{Log}
use Rattle.cdcl_solver.specs.Answers.{IsRefutation, IsSpent}
use Rattle.kinduction.specs.declared.found.Found.{Found}
use Rattle.kinduction.specs.Parts.{part_formula}
use Rattle.kinduction.specs.Rounds.{Decides}

-- where the share of a worker begins
abbrev pub share_start : ℕ → ℕ → ℕ → ℕ
share_start count workers worker = worker * count / workers

-- one answer for each of so many obligations from the first one on, in their order
pub record DecidesFrom (l : Lll) (depth budget first count : ℕ) (answers : List Found) : Type 0 where
  pub count_is : length answers ≡ count
  pub each : (k : ℕ) → k < length answers → IsSomeAnd (slice_get answers k) (Decides l (first + k) depth budget)

-- the answers for the share of a worker
abbrev pub IsShare : Lll → ℕ → ℕ → ℕ → ℕ → List Found → Type 0
IsShare l depth budget workers worker answers =
    let count = length l.obligations in
    DecidesFrom l depth budget (share_start count workers worker) (share_start count workers (worker + 1) - share_start count workers worker) answers

-- the answers of a share, where there are any
abbrev pub ok_items : Result (List Found) AllocError → List Found
ok_items (Ok answers) = answers
ok_items (Err e) = []

-- one log more, which refutes a formula of a part; or the log of a spent budget
abbrev pub TriesPart : MiterLll → ℕ → Bool → ℕ → List Log → List Log → Option Log → Type 0
TriesPart m i stepping budget old new spent = MatchOption spent
    ((log : Log) × (new ≡ old ++ log ∷ []) × IsRefutation (part_formula m i stepping) budget log.steps)
    (λ log. IsSpent (part_formula m i stepping) budget log.steps)
