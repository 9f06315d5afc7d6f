use Rattle.std.proofs.Common.{refl}
use Rattle.hll_types.proofs.CodedElements.{has_number}
use Rattle.hll_types.proofs.elements.Elements.number.Goals as goal
use Rattle.hll_types.proofs.elements.Elements.number.Goals.{in-Ok, in-Err}

pub returns : goal.returns
returns c =
    elim c.match-insert_full.branch [
      | in-Ok w ↦ rw w.result-is
          (has_number c.args.self.now (record { roots = c.insert_full.new.self; by_code = c.args.self.now.by_code }) c.in_ok-root.root c.args.root.now _ c.in_ok-root.ensures.items w.in-Ok.ensures.keys w.in-Ok.ensures.index refl)
      | in-Err w ↦ rw w.result-is tt
    ]
