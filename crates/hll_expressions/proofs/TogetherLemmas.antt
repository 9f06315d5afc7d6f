-- A branch that joins those before it.
use Rattle.std.proofs.Common.{◌≡◌, ℕ, Bool, false, ◌||◌, [], Option, Some, None, Result, sym, ap, subst, ◌∙◌}
use Rattle.hll_meaning.specs.declared.fault.StaticKind.TheVariants as is
use Rattle.hll_meaning.specs.declared.ty.Ty.{Ty}
use Rattle.hll_meaning.specs.Types.{kind_of}
use Rattle.hll_meaning.specs.Fitting.{Joined as Said, join}
use Rattle.hll_meaning.specs.Judging.{fault_if, Judged, with_branch}
use Rattle.hll_expressions.specs.declared.choice.Together.{Together}
use Rattle.hll_expressions.specs.declared.faults.StaticFault.{StaticFault}
use Rattle.hll_expressions.specs.declared.given.Given.{Given}
use Rattle.hll_expressions.specs.declared.join.Joined.{Joined}
use Rattle.hll_expressions.specs.Answers.{IsFaultAt}
use Rattle.hll_expressions.specs.Choices.{so_far, IsBranchAdded}
use Rattle.hll_expressions.specs.Described.{known, Describes}
use Rattle.hll_expressions.specs.Joining.{said}
use Rattle.hll_expressions.proofs.Firsts.{not_so}

-- what is joined is what the definitions join
join_is : (own : Ty) (g : Given) (needs : Bool) (j : Judged) (o : Joined) (given : Ty) → said o ≡ join (kind_of own) (kind_of given) → kind_of given ≡ (known g).kind → Describes needs g j → join (kind_of own) j.kind ≡ said o
join_is own g needs j o given same kind d = sym (same ∙ ap (join (kind_of own)) (kind ∙ d.kind))

pub branch_apart : (before : Together) (g : Given) (needs : Bool) (j : Judged) (o : Joined) (given : Ty) (at : ℕ) (f : StaticFault) → said o ≡ join (kind_of before.kind) (kind_of given) → kind_of given ≡ (known g).kind → at ≡ (known g).at → Describes needs g j →
    IsFaultAt (fault_if o.mismatched is.Mismatch at) f → IsFaultAt (with_branch (so_far (Some before)) j (so_far (Some before)).kind).faults f
branch_apart before g needs j o given at f same kind place d h =
    subst (λ fs. IsFaultAt fs f) (λ i. fault_if ((sym (join_is before.kind g needs j o given same kind d) i).mismatched) is.Mismatch ((place ∙ d.place) i)) h

pub branch_joins : (before after : Together) (g : Given) (needs : Bool) (j : Judged) (o : Joined) (given : Ty) → said o ≡ join (kind_of before.kind) (kind_of given) → kind_of given ≡ (known g).kind → Describes needs g j → o.mismatched ≡ false →
    after.kind ≡ o.kind → after.wide ≡ (before.wide || o.wide) → after.uneven ≡ (before.uneven || o.uneven) → with_branch (so_far (Some before)) j (so_far (Some before)).kind ≡ so_far (Some after)
branch_joins before after g needs j o given same kind d fine k w u =
    let p = join_is before.kind g needs j o given same kind d in
    (λ i. record {
      kind = Some ((ap (λ (x : Said). x.kind) p ∙ ap kind_of (sym k)) i);
      faults = (ap (λ (x : Said). fault_if x.mismatched is.Mismatch j.at) p ∙ not_so o.mismatched is.Mismatch j.at fine) i;
      wide = (ap (λ (x : Said). before.wide || x.wide) p ∙ sym w) i;
      uneven = (ap (λ (x : Said). before.uneven || x.uneven) p ∙ sym u) i;
    })

pub branch_begins : (t : Together) (g : Given) (needs : Bool) (j : Judged) → kind_of t.kind ≡ (known g).kind → t.wide ≡ false → t.uneven ≡ false → Describes needs g j → with_branch (so_far None) j (so_far None).kind ≡ so_far (Some t)
branch_begins t g needs j kind w u d = (λ i. record { kind = Some (sym (kind ∙ d.kind) i); faults = []; wide = sym w i; uneven = sym u i })

-- the same behind what is known to stand before
pub begins_as : (o : Option Together) (t : Together) (g : Given) (needs : Bool) (j : Judged) → o ≡ None → kind_of t.kind ≡ (known g).kind → t.wide ≡ false → t.uneven ≡ false → Describes needs g j → with_branch (so_far o) j (so_far o).kind ≡ so_far (Some t)
begins_as o t g needs j none kind w u d = subst (λ (x : Option Together). with_branch (so_far x) j (so_far x).kind ≡ so_far (Some t)) (sym none) (branch_begins t g needs j kind w u d)

pub added_as : (o : Option Together) (t : Together) (g : Given) (r : Result Together StaticFault) → o ≡ Some t → IsBranchAdded (Some t) g r → IsBranchAdded o g r
added_as o t g r same h = subst (λ (x : Option Together). IsBranchAdded x g r) (sym same) h
