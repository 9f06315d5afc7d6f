use Rattle.std.proofs.Common.{take, fold}
use Rattle.std.specs.List.{flat_map}
use Rattle.hll_meaning.specs.Declarations.{items_in}
use Rattle.hll_meaning.specs.StaticRules.{pass1_item, early}
use Rattle.hll_types.specs.Declaring.{IsAfter, early_in_section, start}
use Rattle.hll_types.proofs.declare.declare.Given as goal

abbrev pub invariant-loop-section : goal.invariant-loop-section
invariant-loop-section l = IsAfter l.declared start (flat_map early_in_section (take l.section-index l.section-items))

abbrev pub invariant-loop-section-2 : goal.invariant-loop-section-2
invariant-loop-section-2 l = IsAfter l.declared (fold (pass1_item (early l.model)) start (flat_map items_in (take l.section-index l.section-items))) (early l.model)
