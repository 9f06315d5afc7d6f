-- What the calls of the static rules answer.
use Rattle.std.specs.Prelude.{◌≡◌, ℕ, Bool, true, false, List, [], Some, MatchResult, Result}
use Rattle.hll_meaning.specs.Judging.{Fault, fault_if}
use Rattle.hll_meaning.specs.StaticRules.{first_of}
use Rattle.hll_meaning.specs.declared.fault.StaticKind.{StaticKind}
use Rattle.hll_expressions.specs.declared.faults.StaticFault.{StaticFault}
use Rattle.hll_expressions.specs.declared.faults.StaticFault.TheVariants as answer

-- the fault that is answered is the first of these; want of memory is free
abbrev pub IsFaultAt : List Fault → StaticFault → Type 0
IsFaultAt faults (answer.Fault kind at) = first_of faults ≡ Some (record { kind = kind; at = at })
IsFaultAt faults answer.Memory = Unit {0}

-- what is wrong is refused, and nothing else
abbrev pub RefusesIf : Bool → StaticKind → ℕ → Result Unit StaticFault → Type 0
RefusesIf wrong kind at result = MatchResult result (λ u. wrong ≡ false) (λ f. (wrong ≡ true) × IsFaultAt (fault_if wrong kind at) f)

-- Ok where there are no faults, else the first of them
abbrev pub IsJudged : List Fault → Result Unit StaticFault → Type 0
IsJudged faults result = MatchResult result (λ u. faults ≡ []) (IsFaultAt faults)
