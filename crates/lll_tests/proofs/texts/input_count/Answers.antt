use Rattle.std.proofs.Common.{◌≡◌, ℕ, List, Bool, true, false, cond, refl, suc, ◌+◌, arith, rules}
use Rattle.std.specs.Prelude.{count_by}
use Rattle.lll_core.specs.declared.signal.Signal.{Signal}
use Rattle.lll_core.specs.Signals.{is_input}
use Rattle.lll_core.specs.Tables.{count_where}
use Rattle.std.proofs.lemmas.List.Recursion.{is_count_by}
use Rattle.lll_tests.proofs.texts.input_count.Goals as goal

step : (v : Bool) (n : ℕ) → cond v (suc n) n ≡ cond v (1 + n) n
step true n = omega arith
step false n = refl

same : (signals : List Signal) → count_where is_input signals ≡ count_by is_input signals
same signals = is_count_by (count_where is_input) is_input refl (λ s ss. step (is_input s) (count_where is_input ss)) signals

pub returns : goal.returns
returns c = rw same (search rules)
