-- Words for the contracts of private parts: which signals' values are read off.
use Rattle.std.specs.Prelude.{Bool}
use Rattle.lll_core.specs.declared.signal.Signal.{Signal}
use Rattle.lll_core.specs.Signals.{is_input, is_latch}
use Rattle.unroll_cnf.specs.declared.rows.Chosen.{Chosen}
use Rattle.unroll_cnf.specs.declared.rows.Chosen.TheVariants.{Inputs, Latches}

-- whether a signal is one of those that are chosen
abbrev pub is_chosen : Chosen → Signal → Bool
is_chosen Inputs = is_input
is_chosen Latches = is_latch
