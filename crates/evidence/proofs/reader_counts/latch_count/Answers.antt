use Rattle.std.proofs.Common.{◌≡◌, ℕ, List, Bool, true, false, cond, refl, suc, ◌+◌, arith, rules}
use Rattle.std.specs.Prelude.{count_by}
use Rattle.lll_core.specs.declared.signal.Signal.{Signal}
use Rattle.lll_core.specs.Signals.{is_latch}
use Rattle.lll_core.specs.Tables.{count_where}
use Rattle.std.proofs.lemmas.List.Recursion.{is_count_by}
use Rattle.evidence.proofs.reader_counts.latch_count.Goals as goal

step : (v : Bool) (n : ℕ) → cond v (suc n) n ≡ cond v (1 + n) n
step true n = omega arith
step false n = refl

same : (signals : List Signal) → count_where is_latch signals ≡ count_by is_latch signals
same signals = is_count_by (count_where is_latch) is_latch refl (λ s ss. step (is_latch s) (count_where is_latch ss)) signals

pub returns : goal.returns
returns c = rw same (search rules)
