use Rattle.std.proofs.Common.{rules, ◌≡◌, ◌∙◌, ◌<◌, ◌++◌, ◌∷◌, [], ℕ, List, sym, subst, refl, length, get_or, pos, to_z, of_z, w32}
use Rattle.std.specs.Prelude.{ℤ, slice_get, Some}
use Rattle.std.specs.List.{swap_remove}
use Rattle.rup_checker.specs.Formulas.{IsLiteral}
use Rattle.rup_checker.specs.Stores.{clause_at}
use Rattle.cdcl_solver.specs.declared.watches.Watch.{Watch}
use Rattle.cdcl_solver.specs.declared.search.Rewatch.{Rewatch}
use Rattle.cdcl_solver.specs.Watches.{Lists, listed, AreEdited}
use Rattle.cdcl_solver.specs.Searches.{Searched, IsSearch, IsRewatch, IsRewatched, number_at}
use Rattle.cdcl_solver.proofs.Rewatching.{fresh_is, fresh_in_range, same_list, rewatched, front_stays}
use Rattle.cdcl_solver.proofs.search.Search.rewatch.Goals as goal

-- what is asked, of the state before
record Asked (s : Searched) (l : ℤ) (at : ℕ) (k : Rewatch) : Type 0 where
  lit : IsLiteral s.variables l
  within : at < length (listed s.lists l)
  number : number_at s l at ≡ k.number
  re : IsRewatch s l k

-- the state in which the exchange is asked for
asked_of : (s t : Searched) (l : ℤ) (at : ℕ) (k : Rewatch) → s ≡ t → IsLiteral t.variables l → at < length (listed t.lists l) → number_at t l at ≡ k.number → IsRewatch t l k
    → Asked s l at k
asked_of s t l at k e lit within number re = subst (λ (u : Searched). Asked u l at k) (sym e) (record { lit = lit; within = within; number = number; re = re })

fresh_read : (s : Searched) (l : ℤ) (at : ℕ) (k : Rewatch) (search : IsSearch s) (asked : Asked s l at k) (literals : List ℤ) → slice_get s.clauses k.number ≡ Some literals
    → get_or literals k.place (pos 0) ≡ get_or (clause_at s.clauses k.number) k.place l
fresh_read s l at k search asked literals is = fresh_is s l at k search asked.lit asked.within asked.number asked.re literals is

-- the watch that is put into the list of the literal that takes over
put_at : (old new : Lists) (read fresh : ℤ) (watch : Watch) → read ≡ fresh → AreEdited old new read (listed old read ++ watch ∷ []) → AreEdited old new fresh (listed old fresh ++ watch ∷ [])
put_at old new read fresh watch e h = subst (λ (m : ℤ). AreEdited old new m (listed old m ++ watch ∷ [])) e h

-- the watch that is removed
removed_at : (old new : Lists) (read l : ℤ) (at : ℕ) → read ≡ l → ((d : Watch) → AreEdited old new read (swap_remove (listed old read) at d)) → (d : Watch) → AreEdited old new l (swap_remove (listed old l) at d)
removed_at old new read l at e h d = subst (λ (m : ℤ). AreEdited old new m (swap_remove (listed old m) at d)) e (h d)

pub push-requires : goal.push-requires
push-requires c =
    let asked = asked_of _ c.args.self.now c.args.literal c.args.at c.args.clause c.self.view_is c.requires.in_range c.requires.within c.requires.number c.requires.rewatch in
    let state = c.self.invariant.search in
    let same : to_z w32 (of_z w32 (get_or c.clause-literals.result.now c.args.clause.place (pos 0))) ≡ get_or c.clause-literals.result.now c.args.clause.place (pos 0) = search rules in
    subst (IsLiteral c.self.inside.watches.variables) (sym (same ∙ fresh_read _ c.args.literal c.args.at c.args.clause state asked c.clause-literals.result.now c.clause-literals.ensures))
    (subst (λ (n : ℕ). IsLiteral n (get_or (clause_at c.self.inside.clauses.clauses c.args.clause.number) c.args.clause.place c.args.literal)) (sym state.lists)
    (fresh_in_range _ c.args.literal c.args.at c.args.clause state asked.lit asked.within asked.number asked.re))

pub remove-requires-clause-within : goal.remove-requires-clause-within
remove-requires-clause-within c =
    let asked = asked_of _ c.args.self.now c.args.literal c.args.at c.args.clause c.self.view_is c.requires.in_range c.requires.within c.requires.number c.requires.rewatch in
    let state = c.self.invariant.search in
    let same : to_z w32 (of_z w32 (get_or c.clause-literals.result.now c.args.clause.place (pos 0))) ≡ get_or c.clause-literals.result.now c.args.clause.place (pos 0) = search rules in
    let own : to_z w32 (of_z w32 c.args.literal) ≡ c.args.literal = search rules in
    let read = same ∙ fresh_read _ c.args.literal c.args.at c.args.clause state asked c.clause-literals.result.now c.clause-literals.ensures in
    let other : to_z w32 (of_z w32 c.args.clause.other) ≡ c.args.clause.other = search rules in
    let put = put_at _ _ _ _ _ read c.in_ok-push.ensures.ok in
    subst (λ (m : ℤ). c.args.at < length (listed c.push.new.self m)) (sym own)
    (subst (λ (ws : List Watch). c.args.at < length ws)
    (sym (same_list _ c.args.literal c.args.at c.args.clause state asked.lit asked.within asked.number asked.re c.push.new.self c.push.new.self _ refl other refl put)) asked.within)

pub invariant_of-self-2 : goal.invariant_of-self-2
invariant_of-self-2 c =
    let asked = asked_of _ c.args.self.now c.args.literal c.args.at c.args.clause c.self.view_is c.requires.in_range c.requires.within c.requires.number c.requires.rewatch in
    let state = c.self.invariant.search in
    let same : to_z w32 (of_z w32 (get_or c.clause-literals.result.now c.args.clause.place (pos 0))) ≡ get_or c.clause-literals.result.now c.args.clause.place (pos 0) = search rules in
    let own : to_z w32 (of_z w32 c.args.literal) ≡ c.args.literal = search rules in
    let read = same ∙ fresh_read _ c.args.literal c.args.at c.args.clause state asked c.clause-literals.result.now c.clause-literals.ensures in
    let other : to_z w32 (of_z w32 c.args.clause.other) ≡ c.args.clause.other = search rules in
    let put = put_at _ _ _ _ _ read c.in_ok-push.ensures.ok in
    record {
      search = rewatched _ c.args.literal c.args.at c.args.clause state asked.lit asked.within asked.number asked.re c.push.new.self c.remove.new.self _ refl other refl put
          (removed_at _ _ _ _ _ own c.remove.ensures) c.swap.new.self.clauses c.swap.ensures.swapped;
      marks = c.self.invariant.marks;
    }

pub returns-clause-ok : goal.returns-clause-ok
returns-clause-ok c =
    let asked = asked_of _ c.args.self.now c.args.literal c.args.at c.args.clause c.self.view_is c.requires.in_range c.requires.within c.requires.number c.requires.rewatch in
    let state = c.self.invariant.search in
    let same : to_z w32 (of_z w32 (get_or c.clause-literals.result.now c.args.clause.place (pos 0))) ≡ get_or c.clause-literals.result.now c.args.clause.place (pos 0) = search rules in
    let own : to_z w32 (of_z w32 c.args.literal) ≡ c.args.literal = search rules in
    let read = same ∙ fresh_read _ c.args.literal c.args.at c.args.clause state asked c.clause-literals.result.now c.clause-literals.ensures in
    let other : to_z w32 (of_z w32 c.args.clause.other) ≡ c.args.clause.other = search rules in
    let put = put_at _ _ _ _ _ read c.in_ok-push.ensures.ok in
    subst (λ (s : Searched). IsRewatched s (record {
      variables = c.self.inside.falsified.variables;
      clauses = c.swap.new.self.clauses;
      lists = c.remove.new.self;
      trail = c.self.inside.trail;
      followed = c.self.inside.followed;
      started = c.self.inside.started;
    }) c.args.literal c.args.at c.args.clause) c.self.view_is (record {
      clauses = c.swap.ensures.swapped;
      variables = refl;
      trail = refl;
      followed = refl;
      started = refl;
      front = front_stays _ c.args.literal c.args.at c.args.clause state asked.lit asked.within asked.number asked.re c.push.new.self c.remove.new.self _ refl other refl put
          (removed_at _ _ _ _ _ own c.remove.ensures);
    })

pub returns-clause-search : goal.returns-clause-search
returns-clause-search c = (invariant_of-self-2 c).search
