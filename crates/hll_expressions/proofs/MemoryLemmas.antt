-- Memories.
use Rattle.std.proofs.Common.{◌≡◌, ℕ, Bool, true, false, [], ◌++◌, None, Result, Ok, Err, refl, sym, ap, subst, ◌∙◌}
use Rattle.std.specs.Borrow.{Bor}
use Rattle.hll_meaning.specs.declared.fault.StaticKind.TheVariants as why
use Rattle.hll_meaning.specs.declared.ty.Ty.{Ty}
use Rattle.hll_meaning.specs.Types.{kind_of}
use Rattle.hll_meaning.specs.Fitting.{is_scalar, join}
use Rattle.hll_meaning.specs.Judging.{fault_if, Context, Judged, no_constant, wants_scalar, wants_kind_of, pre_alone, pre_with}
use Rattle.hll_expressions.specs.declared.faults.StaticFault.{StaticFault}
use Rattle.hll_expressions.specs.declared.faults.StaticFault.TheVariants as answer
use Rattle.hll_expressions.specs.declared.given.Given.{Given, Whole}
use Rattle.hll_expressions.specs.declared.join.Joined.{Joined}
use Rattle.hll_expressions.specs.Answers.{IsFaultAt}
use Rattle.hll_expressions.specs.Described.{known, Describes, IsAnswer}
use Rattle.hll_expressions.specs.Forms.{IsKindWanted}
use Rattle.hll_expressions.specs.Joining.{said}
use Rattle.hll_expressions.proofs.Firsts.{before, behind, none_both, so, not_so}
use Rattle.hll_expressions.proofs.Describing.{no_scalar, scalar_wanted}
use Rattle.hll_expressions.proofs.FormLemmas.{cell_of, free, starts_fails, describes_inconstant, whole_given}

-- a memory of a kind with a first value of another
abbrev pub IsMemory : ℕ → Given → Given → Bool → Result Given StaticFault → Type 0
IsMemory at g h needs result = (c : Context) (j k : Judged) → c.needs_constant ≡ needs → Describes needs g j → Describes needs h k → IsAnswer needs (pre_with c at j k) result

pub memory_unscalar : (at : ℕ) (g h : Given) (needs : Bool) (f : StaticFault) → IsFaultAt (wants_scalar (known g)) f → IsMemory at g h needs (Err f)
memory_unscalar at g h needs f w c j k same d e = behind j.faults _ f d.faultless (behind k.faults _ f e.faultless (before (wants_scalar j) _ f (no_scalar needs g j f d w)))

pub memory_other : (at : ℕ) (g h : Given) (needs : Bool) (t : Ty) (f : StaticFault) → is_scalar (known g).kind ≡ true → kind_of t ≡ (known g).kind → IsKindWanted t h (Err f) → IsMemory at g h needs (Err f)
memory_other at g h needs t f cell kind w c j k same d e =
    let s = cell_of needs g j d cell in
    behind j.faults _ f d.faultless (behind k.faults _ f e.faultless (behind (wants_scalar j) _ f (scalar_wanted j s) (before (wants_kind_of j k) _ f (w needs j k s (kind ∙ d.kind) e))))

pub memory_inconstant : (at : ℕ) (g h : Given) (needs : Bool) (t : Ty) (own : Bor Ty) (f : StaticFault) → is_scalar (known g).kind ≡ true → kind_of t ≡ (known g).kind → IsKindWanted t h (Ok own) →
    IsFaultAt (fault_if needs why.Constant at) f → IsMemory at g h needs (Err f)
memory_inconstant at g h needs t own f cell kind w r c j k same d e =
    let s = cell_of needs g j d cell in
    behind j.faults _ f d.faultless (behind k.faults _ f e.faultless (behind (wants_scalar j) _ f (scalar_wanted j s) (behind (wants_kind_of j k) _ f (w needs j k s (kind ∙ d.kind) e).0
    (before (no_constant c at) _ f (starts_fails at needs f r c same)))))

-- what is joined is what the definitions join
same_joined : (needs : Bool) (g h : Given) (t : Ty) (own : Bor Ty) (all : Joined) (j k : Judged) → is_scalar (known g).kind ≡ true → kind_of t ≡ (known g).kind → IsKindWanted t h (Ok own) →
    said all ≡ join (kind_of t) (kind_of own.now) → Describes needs g j → Describes needs h k → said all ≡ join j.kind k.kind
same_joined needs g h t own all j k cell kind w joined d e =
    let p = w needs j k (cell_of needs g j d cell) (kind ∙ d.kind) e in
    let q : kind_of t ≡ j.kind = kind ∙ d.kind in
    joined ∙ (λ i. join (q i) (p.1 i))

pub memory_wide : (at : ℕ) (g h : Given) (needs : Bool) (t : Ty) (own : Bor Ty) (all : Joined) (f : StaticFault) → is_scalar (known g).kind ≡ true → kind_of t ≡ (known g).kind → IsKindWanted t h (Ok own) →
    needs ≡ false → said all ≡ join (kind_of t) (kind_of own.now) → IsFaultAt (fault_if all.wide why.Wide at) f → IsMemory at g h needs (Err f)
memory_wide at g h needs t own all f cell kind w is joined r c j k same d e =
    let s = cell_of needs g j d cell in
    let p = same_joined needs g h t own all j k cell kind w joined d e in
    behind j.faults _ f d.faultless (behind k.faults _ f e.faultless (behind (wants_scalar j) _ f (scalar_wanted j s) (behind (wants_kind_of j k) _ f (w needs j k s (kind ∙ d.kind) e).0
    (behind (no_constant c at) _ f (free c at needs same is) (subst (λ b. IsFaultAt (fault_if b why.Wide at) f) (ap (λ x. x.wide) p) r)))))

pub memory_answer : (at : ℕ) (g h : Given) (needs : Bool) (t : Ty) (own : Bor Ty) (all : Joined) → is_scalar (known g).kind ≡ true → kind_of t ≡ (known g).kind → IsKindWanted t h (Ok own) →
    needs ≡ false → said all ≡ join (kind_of t) (kind_of own.now) → all.wide ≡ false → IsMemory at g h needs (Ok (Whole at all.kind None))
memory_answer at g h needs t own all cell kind w is joined narrow c j k same d e =
    let s = cell_of needs g j d cell in
    let p = same_joined needs g h t own all j k cell kind w joined d e in
    describes_inconstant needs (Whole at all.kind None) at _ (join j.kind k.kind).kind [] (whole_given at all.kind (join j.kind k.kind).kind None (ap (λ x. x.kind) p))
    (none_both j.faults _ d.faultless (none_both k.faults _ e.faultless (none_both (wants_scalar j) _ (scalar_wanted j s) (none_both (wants_kind_of j k) _ (w needs j k s (kind ∙ d.kind) e).0
    (none_both (no_constant c at) _ (free c at needs same is) (not_so _ why.Wide at (sym (ap (λ x. x.wide) p) ∙ narrow))))))) is

-- ---- without a first value

pub alone_unscalar : (at : ℕ) (g : Given) (needs : Bool) (f : StaticFault) → IsFaultAt (wants_scalar (known g)) f → (c : Context) (j : Judged) → c.needs_constant ≡ needs → Describes needs g j → IsFaultAt (pre_alone c at j).faults f
alone_unscalar at g needs f w c j same d = behind j.faults _ f d.faultless (before (wants_scalar j) _ f (no_scalar needs g j f d w))

pub alone_inconstant : (at : ℕ) (g : Given) (needs : Bool) → is_scalar (known g).kind ≡ true → needs ≡ true → (c : Context) (j : Judged) → c.needs_constant ≡ needs → Describes needs g j →
    IsFaultAt (pre_alone c at j).faults (answer.Fault why.Constant at)
alone_inconstant at g needs cell is c j same d =
    let f = answer.Fault why.Constant at in
    let missing = fault_if true why.FirstMissing at in
    behind j.faults (wants_scalar j ++ (no_constant c at ++ missing)) f d.faultless
    (behind (wants_scalar j) (no_constant c at ++ missing) f (scalar_wanted j (cell_of needs g j d cell)) (before (no_constant c at) missing f (so c.needs_constant why.Constant at (same ∙ is))))

pub alone_answer : (at : ℕ) (g : Given) (needs : Bool) → is_scalar (known g).kind ≡ true → needs ≡ false → (c : Context) (j : Judged) → c.needs_constant ≡ needs → Describes needs g j →
    IsFaultAt (pre_alone c at j).faults (answer.Fault why.FirstMissing at)
alone_answer at g needs cell is c j same d =
    let f = answer.Fault why.FirstMissing at in
    let missing = fault_if true why.FirstMissing at in
    let first : IsFaultAt missing f = refl in
    behind j.faults (wants_scalar j ++ (no_constant c at ++ missing)) f d.faultless
    (behind (wants_scalar j) (no_constant c at ++ missing) f (scalar_wanted j (cell_of needs g j d cell)) (behind (no_constant c at) missing f (free c at needs same is) first))
