-- Calls that are counted, and the faults that are planned for some of them.
use Rattle.std.specs.Prelude.{ℕ, ◌+◌, ◌≤◌, min, Result, Ok, Err}
use Rattle.ports.specs.Causes.{last_count}
use Rattle.ports.specs.declared.fault.PortFault.{PortFault}
use Rattle.ports.specs.declared.fault.PortFault.TheVariants.{Failed, Memory}

-- so many more
abbrev pub count_plus : ℕ → ℕ → ℕ
count_plus more n = min (n + more) last_count

-- one more
abbrev pub next_count : ℕ → ℕ
next_count n = count_plus 1 n

-- a count of faults after a call: one more where the call failed
abbrev pub count_after : {T : Type 0} → Result T PortFault → ℕ → ℕ
count_after (Ok value) n = n
count_after (Err Failed) n = next_count n
count_after (Err Memory) n = n

-- the room after a write: it is less by no more than the bytes that were taken
abbrev pub KeepsRoom : Result ℕ PortFault → ℕ → ℕ → Type 0
KeepsRoom (Ok n) before now = before ≤ now + n
KeepsRoom (Err fault) before now = before ≤ now

-- a call fails exactly where it was planned to, unless memory ran out
abbrev pub FailsAsPlanned : {T : Type 0} → Type 0 → Result T PortFault → Type 0
FailsAsPlanned planned (Ok value) = ¬ planned
FailsAsPlanned planned (Err Failed) = planned
FailsAsPlanned planned (Err Memory) = Unit {0}
