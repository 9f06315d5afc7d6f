use Rattle.std.proofs.Common.{rules, ◌≡◌, ◌∷◌, ◌∙◌, [], ℕ, List, refl, sym, ap, subst, to_z, of_z, w32}
use Rattle.std.specs.Prelude.{Contains}
use Rattle.std.proofs.lemmas.Int.{to_z-of_z}
use Rattle.std.proofs.lemmas.Bool.{MatchBool-at_true, MatchBool-at_false}
use Rattle.rup_checker.specs.Formulas.{Cnf, IsLiteral}
use Rattle.rup_checker.specs.Occurrences.{linked, listed}
use Rattle.rup_checker.specs.Stores.{clause_at}
use Rattle.rup_checker.specs.Closing.{IsRefuted, IsQuietBut, Propagating}
use Rattle.rup_checker.proofs.Sets.{member_first, member_later, no_member}
use Rattle.rup_checker.proofs.PropagationLemmas.{refuted, quiet_but_visited, quiet_but_fewer, quiet_but_listed, one_less_listed}
use Rattle.rup_checker.proofs.closing.Propagation.visit_listed.Goals as goal

pub loop-cell-init : goal.loop-cell-init
loop-cell-init c =
    let inside = c.self.inside in
    let l = c.args.literal in
    let same : to_z w32 (of_z w32 l) ≡ l = to_z-of_z w32 l (search rules) in
    let head : linked inside.occurrences c.head-link.result ≡ listed inside.occurrences l = ap (linked inside.occurrences) c.head-link.ensures ∙ ap (listed inside.occurrences) same in
    let known : inside.known ≡ c.args.self.now.known = ap (λ (p : Propagating). p.known) c.self.view_is in
    let unseen : IsQuietBut inside.known.clauses (λ n. Contains (clause_at inside.known.clauses n) l) inside.trail =
    subst (λ (p : Propagating). IsQuietBut p.known.clauses (λ n. Contains (clause_at p.known.clauses n) l) p.trail) (sym c.self.view_is) c.requires.unseen in
    let range : IsLiteral inside.occurrences.variables l = subst (λ (n : ℕ). IsLiteral n l) (ap (λ (k : Cnf). k.variables) (sym known) ∙ sym c.self.invariant.listed) c.requires.literal in
    record {
      known = refl;
      occurrences = refl;
      variables = c.self.invariant.variables;
      followed = refl;
      within = λ n there. c.self.invariant.all.within l n range (subst (λ (xs : List ℕ). Contains xs n) head there);
      quiet = subst (λ (xs : List ℕ). IsQuietBut inside.known.clauses (Contains xs) inside.trail) (sym head) (quiet_but_listed inside.known.clauses inside.occurrences inside.trail l c.self.invariant.all unseen);
    }

pub clause-requires : goal.clause-requires
clause-requires c =
    let listing = c.loop-cell.self-inside.occurrences in
    c.loop-cell.invariant.within c.in-Some.cell.number
    (subst (λ (xs : List ℕ). Contains xs c.in-Some.cell.number) (sym c.in-Some.ensures.numbers) (member_first c.in-Some.cell.number (linked listing c.in-Some.cell.rest)))

pub returns-then-branch-clause-visited : goal.returns-then-branch-clause-visited
returns-then-branch-clause-visited c =
    let known = c.loop-cell.self-inside.known in
    let same : known ≡ c.args.self.now.known = c.loop-cell.invariant.known ∙ ap (λ (p : Propagating). p.known) c.self.view_is in
    subst (λ (k : Cnf). IsRefuted k.clauses) same
    (refuted known.clauses c.loop-cell.self-inside.trail.taken c.in-Some.cell.number c.clause.result.now c.loop-cell.invariant.quiet.reached c.clause.ensures.value
    (MatchBool-at_true _ _ c.if-branch.true c.in_ok-visit.ensures.visited))

pub loop-cell-preserved : goal.loop-cell-preserved
loop-cell-preserved c =
    let inside = c.loop-cell.self-inside in
    let n = c.in-Some.cell.number in
    let rest = linked inside.occurrences c.in-Some.cell.rest in
    let numbers : linked inside.occurrences c.loop-cell.link ≡ n ∷ rest = c.in-Some.ensures.numbers in
    record {
      known = c.loop-cell.invariant.known;
      occurrences = c.loop-cell.invariant.occurrences;
      variables = c.in_ok-visit.ensures.variables ∙ c.loop-cell.invariant.variables;
      followed = c.in_ok-visit.ensures.followed ∙ c.loop-cell.invariant.followed;
      within = λ k there. c.loop-cell.invariant.within k (subst (λ (xs : List ℕ). Contains xs k) (sym numbers) (member_later n rest k there));
      quiet = quiet_but_visited inside.known.clauses (Contains (n ∷ rest)) (Contains rest) inside.trail c.visit.new.self n c.clause.result.now c.clause.ensures.value
          (one_less_listed n rest) (subst (λ (xs : List ℕ). IsQuietBut inside.known.clauses (Contains xs) inside.trail) numbers c.loop-cell.invariant.quiet) (MatchBool-at_false _ _ c.if-branch.false c.in_ok-visit.ensures.visited);
    }

pub returns-clause-visited : goal.returns-clause-visited
returns-clause-visited c =
    let inside = c.loop-cell.self-inside in
    let none : linked inside.occurrences c.loop-cell.link ≡ [] = c.in_default.ensures.numbers in
    let same : inside.known ≡ c.args.self.now.known = c.loop-cell.invariant.known ∙ ap (λ (p : Propagating). p.known) c.self.view_is in
    subst (λ (k : Cnf). IsQuietBut k.clauses (λ _. ⊥) inside.trail) same
    (quiet_but_fewer inside.known.clauses (Contains (linked inside.occurrences c.loop-cell.link)) (λ _. ⊥) inside.trail
    (λ k within there. no_member k (subst (λ (xs : List ℕ). Contains xs k) none there)) c.loop-cell.invariant.quiet)
