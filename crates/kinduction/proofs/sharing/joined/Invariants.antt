use Rattle.std.proofs.Common.{◌≡◌}
use Rattle.std.specs.Prelude.{All, IsOk}
use Rattle.std.specs.List.{flat_map}
use Rattle.kinduction.specs.Shares.{ok_items}
use Rattle.kinduction.proofs.sharing.joined.Given as goal

abbrev pub invariant-loop-share : goal.invariant-loop-share
invariant-loop-share l = record {
  answers : l.answers ≡ flat_map ok_items l.yielded;
  complete : All IsOk l.yielded;
}
