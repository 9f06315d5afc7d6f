-- The ranges of scalar expressions, found by their places.
use Rattle.std.specs.Prelude.{ℕ, List, nat_eq}
use Rattle.indexmap.specs.IndexMap.{get}
use Rattle.hll_meaning.specs.Nodes.{Placed}
use Rattle.hll_types.specs.declared.range_table.RangeTable.{RangeTable}
use Rattle.hll_types.specs.Checked.{IsFoundAt}

-- a table has at each place what is found there
abbrev pub Tabulates : RangeTable → List Placed → Type 0
Tabulates t rs = (at : ℕ) → IsFoundAt rs at (get nat_eq t.by_place at)
