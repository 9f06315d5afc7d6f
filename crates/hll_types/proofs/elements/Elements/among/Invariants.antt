use Rattle.std.proofs.Common.{◌≡◌, ℕ, List, fold, map}
use Rattle.hll_expressions.specs.Things.{declared_names, said_of}
use Rattle.hll_types.specs.Tables.{coded_among, element_in, with_coded, AreNumbered}
use Rattle.hll_types.proofs.elements.Elements.among.Given as goal

abbrev pub invariant-loop-name : goal.invariant-loop-name
invariant-loop-name l =
    AreNumbered l.all
    × ((root : List ℕ) (code : ℕ) → fold (with_coded root code) (element_in l.all root code) (map (λ e. (e.0.items, said_of e.1)) l.name-iterator) ≡ coded_among root code (declared_names l.names))
