use Rattle.std.proofs.Common.{◌≡◌, ◌+◌, ◌∷◌, ◌++◌, [], ◌∙◌, length, unwrap_or, ap, sym, subst, arith, length-append}
use Rattle.miter.specs.Joining.{IsJoined, gate_number}
use Rattle.miter.proofs.JoiningLemmas.{joined_gate_earlier, joined_gate_new}
use Rattle.miter.proofs.joining.Joining.gate.Goals as goal
use Rattle.miter.proofs.joining.Joining.gate.Goals.{then-place-next+in_ok-push, else-place-next}

pub returns : goal.returns
returns c = λ done s old becomes.
    let a = c.args.a.now in
    let self = c.args.self.now in
    let next = length a + c.len.result in
    let is_next : next ≡ length (a ++ self.added.items) = omega (arith, length-append a self.added.items, c.len.ensures) in
    let number : unwrap_or (gate_number self.gates c.args.gate) next ≡ c.in_ok-place.place = sym c.in_ok-place.ensures.number in
    elim c.if-place-next.branch [
      | then-place-next+in_ok-push w ↦
          subst (λ k. IsJoined a (done ++ s ∷ []) c.push-2.new.self.items k.added.items k.latches.items k.given k.gates) (sym w.self-is)
          (joined_gate_new a done self.places.items self.added.items self.latches.items self.given self.gates old s c.args.gate c.in_ok-place.place next
          c.push-2.new.self.items w.push.new.self.items c.number.new.self becomes is_next number w.if-place-next.true c.in_ok-place.ensures.put
          (c.in_ok-push-2.ensures.items ∙ ap (λ k. k.places.items ++ c.in_ok-place.place ∷ []) w.self-is)
          (w.in_ok-push.ensures.items ∙ ap (λ x. self.added.items ++ x ∷ []) w.signal_of.ensures))
      | else-place-next w ↦
          subst (λ k. IsJoined a (done ++ s ∷ []) c.push-2.new.self.items k.added.items k.latches.items k.given k.gates) (sym w.self-is)
          (joined_gate_earlier a done self.places.items self.added.items self.latches.items self.given self.gates old s c.args.gate c.in_ok-place.place next
          c.push-2.new.self.items c.number.new.self becomes is_next number w.if-place-next.false c.in_ok-place.ensures.put
          (c.in_ok-push-2.ensures.items ∙ ap (λ k. k.places.items ++ c.in_ok-place.place ∷ []) w.self-is))
    ]
