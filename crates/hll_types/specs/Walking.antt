-- Words for the contracts of private parts: walks over texts that note the ranges of what stands in them.
use Rattle.std.specs.Prelude.{◌≡◌, List, Result, MatchResult}
use Rattle.std.specs.List.{AllByRecursion}
use Rattle.hll_tree.specs.declared.tree.HllModel.{HllModel}
use Rattle.hll_meaning.specs.Names.{Names}
use Rattle.hll_meaning.specs.StaticRules.{Asked}
use Rattle.hll_meaning.specs.Nodes.{Node, Placed, ranges_of, asked_nodes, text_ranges}
use Rattle.hll_meaning.specs.NodeLaws.{IsFaultless}
use Rattle.hll_meaning.proofs.WellTexts.{IsAskedFaultless}
use Rattle.hll_expressions.specs.declared.faults.StaticFault.{StaticFault}
use Rattle.hll_expressions.specs.declared.faults.StaticFault.TheVariants as answer
use Rattle.hll_expressions.specs.declared.ranges.Ranges.{Ranges}
use Rattle.hll_expressions.specs.Ranges.{noted_in, HasNoted}

-- these are noted; where what is walked is fine, memory alone may be wanting
abbrev pub AreNoted : Ranges → Ranges → List Placed → Type 0 → Result Unit StaticFault → Type 0
AreNoted old new rs fine result = MatchResult result (λ u. HasNoted old new rs) (λ f. fine → f ≡ answer.Memory)

-- the ranges of nodes are noted, which are fine without faults
abbrev pub AreWalked : Ranges → Ranges → List Node → Result Unit StaticFault → Type 0
AreWalked old new ns result = AreNoted old new (ranges_of ns) (AllByRecursion IsFaultless ns) result

-- a definition or demand is fine where it has no faults, and no expression in it has any
abbrev pub IsFineAsked : Names → Asked → Type 0
IsFineAsked all q = IsAskedFaultless all q × AllByRecursion IsFaultless (asked_nodes all q)

-- the ranges of a definition or demand are noted
abbrev pub IsAskedWalked : Names → Ranges → Ranges → Asked → Result Unit StaticFault → Type 0
IsAskedWalked all old new q result = AreNoted old new (ranges_of (asked_nodes all q)) (IsFineAsked all q) result

-- all ranges of a text, in the order of the walk; memory alone may be wanting
abbrev pub AreRangesOf : HllModel → Result Ranges StaticFault → Type 0
AreRangesOf m result = MatchResult result (λ r. noted_in r ≡ text_ranges m) (λ f. f ≡ answer.Memory)
