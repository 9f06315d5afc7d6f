use Rattle.std.proofs.Common.{ℕ, List, Some, ◌&&◌, nat_eq, refl, ap, ◌∙◌, if◌then◌else◌}
use Rattle.std.specs.Str.{bytes_eq}
use Rattle.hll_types.specs.Tables.{element_in}
use Rattle.hll_types.proofs.CodedElements.{one_found, still_numbered}
use Rattle.hll_types.proofs.elements.Elements.put.Goals as goal

pub returns-in-Ok-clause-found : goal.returns-in-Ok-clause-found
returns-in-Ok-clause-found c = λ r code.
    one_found c.args.self.now c.number.new.self (record { roots = c.number.new.self.roots; by_code = c.insert.new.self }) c.args.root.now c.in_ok-number.number c.args.code c.in_ok-name.name c.in_ok-number.ensures c.requires refl
    (λ i x. c.in-Ok.ensures.updates.0 (i, x)) r code
    ∙ ap (λ (n : List ℕ). if bytes_eq c.args.root.now r && nat_eq c.args.code code then Some n else element_in c.args.self.now r code) c.in_ok-name.ensures

pub returns-in-Ok-clause-numbered : goal.returns-in-Ok-clause-numbered
returns-in-Ok-clause-numbered c =
    still_numbered c.args.self.now c.number.new.self (record { roots = c.number.new.self.roots; by_code = c.insert.new.self }) c.args.root.now c.in_ok-number.number c.args.code c.in_ok-name.name c.in_ok-number.ensures c.requires refl
    (λ i x. c.in-Ok.ensures.updates.0 (i, x))
