use Rattle.std.proofs.Common.{rules, ◌≡◌, ◌∙◌, ◌+◌, ◌<◌, ◌∷◌, [], ◌⊎◌, inl, inr, ℕ, List, sym, ap, subst, length, get_or, arith, pos, to_z, of_z, w32, false, Bool}
use Rattle.std.specs.Prelude.{ℤ, neg_ℤ, Contains, ◌↔◌, IsTrue}
use Rattle.std.proofs.lemmas.List.{length_push, get_or_append_left, get_or_push}
use Rattle.cdcl_solver.specs.Searches.{taken}
use Rattle.cdcl_solver.proofs.search.Search.assignment.Goals as goal

pub loop-variable-preserved : goal.loop-variable-preserved
loop-variable-preserved c =
    let i = c.loop-variable.invariant in
    let same : to_z w32 (of_z w32 c.positive.result) ≡ c.positive.result = search rules in
    let says = subst (λ (l : ℤ). IsTrue c.is_true.result ↔ Contains (taken c.args.self.now) (neg_ℤ l)) (same ∙ c.positive.ensures) c.is_true.ensures in
    let more = c.in_ok-push.ensures.items in
    record {
      count = omega (arith, i.count, ap length more, length_push c.loop-variable.list.items c.is_true.result);
      values = λ k less. subst (λ (xs : List Bool). IsTrue (get_or xs k false) ↔ Contains (taken c.args.self.now) (neg_ℤ (pos (k + 1)))) (sym more) (elim (order (k + 1) c.loop-variable.variable less) [
        | inl before ↦ subst (λ (b : Bool). IsTrue b ↔ Contains (taken c.args.self.now) (neg_ℤ (pos (k + 1)))) (sym (get_or_append_left c.loop-variable.list.items (c.is_true.result ∷ []) false k (omega (arith, before, i.count)))) (i.values k before)
        | inr is ↦ subst (λ (b : Bool). IsTrue b ↔ Contains (taken c.args.self.now) (neg_ℤ (pos (k + 1)))) (sym (get_or_push c.loop-variable.list.items c.is_true.result false k (omega (arith, is, i.count))))
            (subst (λ (n : ℕ). IsTrue c.is_true.result ↔ Contains (taken c.args.self.now) (neg_ℤ (pos n))) (sym is) says)
      ]);
    }
  where
    order : (a b : ℕ) → a < b + 1 → (a < b) ⊎ (a ≡ b)
    order a b h = grind arith
