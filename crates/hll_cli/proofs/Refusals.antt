-- A refusal that is handed on.
use Rattle.std.proofs.Common.{◌≡◌, ℕ, List, subst, Result, Err}
use Rattle.hll_cli.specs.declared.fault.Fault.{Fault}
use Rattle.hll_cli.specs.declared.fault.Fault.TheVariants.{Refused}
use Rattle.hll_cli.specs.declared.fault.Refusal.{Refusal}
use Rattle.hll_cli.specs.Prove.{IsTextRefusal}

-- the refusal that was answered is the one that was found
pub refused_alone : {T : Type 0} (text : List ℕ) (found r : Refusal) → ◌≡◌ {A = Result T Fault} (Err (Refused found)) (Err (Refused r)) → IsTextRefusal text found → IsTextRefusal text r
refused_alone text found r same h = let e : found ≡ r = cc same in subst (IsTextRefusal text) e h
