use Rattle.std.proofs.Common.{◌≡◌, ℕ, nat_lt, false, ◌||◌, List, [], take}
use Rattle.hll_meaning.specs.Names.{Names}
use Rattle.hll_meaning.specs.Declarations.{field_kinds}
use Rattle.hll_meaning.specs.StaticRules.{declaring, fields_faults}
use Rattle.hll_types.specs.Measures.{field_kinds_of, fields_measure}
use Rattle.hll_types.specs.Standing.{Stand}
use Rattle.hll_types.proofs.FieldsWalk.{field_names}
use Rattle.hll_types.proofs.declare.Declared.fields.Given as goal

abbrev pub invariant-loop-item : goal.invariant-loop-item
invariant-loop-item l =
    (names : Names) (further : List (List ℕ)) → Stand l.self.names names further →
    (fields_faults (declaring names further) [] (take l.item-index l.items) ≡ [])
    × (l.before ≡ field_names (take l.item-index l.items))
    × (l.all ≡ fields_measure (field_kinds names (take l.item-index l.items)))
    × ((nat_lt 100000 l.all.cells || nat_lt 200 l.all.levels) ≡ false → field_kinds_of l.fields ≡ field_kinds names (take l.item-index l.items))
