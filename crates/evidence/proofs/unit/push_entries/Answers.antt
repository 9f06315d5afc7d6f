use Rattle.std.specs.List.{flat_map}
use Rattle.evidence.specs.Units.{unit_text}
use Rattle.evidence.proofs.UnitLemmas.{entries-pushed}
use Rattle.evidence.proofs.unit.push_entries.Goals as goal

pub loop-index-preserved : goal.loop-index-preserved
loop-index-preserved c =
    entries-pushed (flat_map unit_text c.args.units.now.items) (flat_map unit_text c.loop-index.units.items) (flat_map unit_text c.push_entry.new.units.items) c.args.entries.now c.loop-index.index c.index-entries-index.result c.loop-index-test.true c.index-entries-index.is
    c.loop-index.invariant c.in_ok-push_entry.ensures
