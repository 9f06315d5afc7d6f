-- A text is read in one way: it has one value or one fault.
use Rattle.std.proofs.Common.{◌≡◌, ℕ, zero, suc, ◌+◌, ◌<◌, ◌≤◌, List, [], ◌∷◌, length, Result, Ok, Err, refl, sym, ap, subst, ◌∙◌, ◌⊎◌, inl, inr, arith}
use Rattle.std.specs.Prelude.{◌==◌, Bool, true, false}
use Rattle.std.proofs.Props.{props}
use Rattle.std.proofs.lemmas.Bool.{cases_lt, eqb-true}
use Rattle.std.proofs.lemmas.List.{nil_from_length}
use Rattle.lll_core.specs.declared.lll.Lll.{Lll}
use Rattle.lll_core.specs.Signals.{IsLll}
use Rattle.lll_text.specs.declared.draft.Draft.{Draft}
use Rattle.lll_text.specs.declared.draft.Stage.{Stage}
use Rattle.lll_text.specs.declared.draft.Stage.TheVariants as stage
use Rattle.lll_text.specs.declared.fault.LllFault.{LllFault}
use Rattle.lll_text.specs.declared.fault.LllFault.TheVariants as fault
use Rattle.lll_text.specs.declared.fault.LllKind.{LllKind}
use Rattle.lll_text.specs.declared.fault.LllKind.TheVariants as kind
use Rattle.lll_text.specs.Spelling.{spelling}
use Rattle.lll_text.specs.Lines.{no_lines, no_line_at, some_line_at, line_at, after_lines, IsFaultOf, IsFaultIn, IsReadAs, FailsInLine}
use Rattle.lll_text.proofs.Steps.{ok_is}
use Rattle.lll_text.proofs.Reached.{Whole, is_whole}
use Rattle.lll_text.proofs.Again.{draft_of, is_read}

-- the next line, where the text was read to its end
at_end : (n : ℕ) (d : Draft) → d.stage ≡ stage.End → line_at n d [] ≡ Ok (d, [])
unfolding line_at
at_end n d at = ap (λ st. no_line_at st n d) at

-- a fault stays
stays_wrong : (m k : ℕ) (text : List ℕ) (e : LllFault) → k ≤ m → after_lines k text ≡ Err e → after_lines m text ≡ Err e
unfolding after_lines
stays_wrong zero k text e le h = let same : k ≡ zero = omega arith in subst (λ n. after_lines n text ≡ Err e) same h
stays_wrong (suc m) k text e le h =
    elim (cases_lt m k) [
      | inl lt ↦ let same : k ≡ suc m = omega arith in subst (λ n. after_lines n text ≡ Err e) same h
      | inr before ↦ let so_far = stays_wrong m k text e before h in rw so_far refl
    ]

-- so does a text that is read to its end
stays_read : (m k : ℕ) (text : List ℕ) (d : Draft) → k ≤ m → d.stage ≡ stage.End → after_lines k text ≡ Ok (d, []) → after_lines m text ≡ Ok (d, [])
unfolding after_lines
stays_read zero k text d le at h = let same : k ≡ zero = omega arith in subst (λ n. after_lines n text ≡ Ok (d, [])) same h
stays_read (suc m) k text d le at h =
    elim (cases_lt m k) [
      | inl lt ↦ let same : k ≡ suc m = omega arith in subst (λ n. after_lines n text ≡ Ok (d, [])) same h
      | inr before ↦ let so_far = stays_read m k text d before at h in rw so_far (at_end (m + 1) d at)
    ]

abbrev wrong : LllFault → Result (Draft × List ℕ) LllFault
wrong e = Err e

same_fault : (x y : LllFault) → wrong x ≡ wrong y → x ≡ y
same_fault x y e = cc

no_both : (x : Draft × List ℕ) (y : LllFault) → Ok x ≡ wrong y → ⊥
no_both x y e = cc

pub one_fault : (j k : ℕ) (text : List ℕ) (d e : LllFault) → after_lines j text ≡ Err d → after_lines k text ≡ Err e → d ≡ e
one_fault j k text d e p q = same_fault d e (sym (stays_wrong (j + k) j text d (omega arith) p) ∙ stays_wrong (j + k) k text e (omega arith) q)

pub one_draft : (j k : ℕ) (text : List ℕ) (d e : Draft) → d.stage ≡ stage.End → e.stage ≡ stage.End → after_lines j text ≡ Ok (d, []) → after_lines k text ≡ Ok (e, []) → d ≡ e
one_draft j k text d e at there p q =
    ap (λ (x : Draft × List ℕ). x.0) (ok_is {F = LllFault} (d, []) (e, []) (sym (stays_read (j + k) j text d (omega arith) at p) ∙ stays_read (j + k) k text e (omega arith) there q))

pub no_fault : (j k : ℕ) (text : List ℕ) (d : Draft) (e : LllFault) → d.stage ≡ stage.End → after_lines j text ≡ Ok (d, []) → after_lines k text ≡ Err e → ⊥
no_fault j k text d e at p q = no_both (d, []) e (sym (stays_read (j + k) j text d (omega arith) at p) ∙ stays_wrong (j + k) k text e (omega arith) q)

-- ---- values

abbrev pub value_of : (d : Draft) → IsLll d.signals d.assume d.keep d.constraints d.obligations d.names → Lll
value_of d h = record { signals = d.signals; assume = d.assume; keep = d.keep; constraints = d.constraints; obligations = d.obligations; names = d.names; is_lll = h }

is_lll_prop : (d : Draft) (p q : IsLll d.signals d.assume d.keep d.constraints d.obligations d.names) → p ≡ q
is_lll_prop d p q = let prop : IsProp (IsLll d.signals d.assume d.keep d.constraints d.obligations d.names) = hlevel props in prop p q

-- the value that a draft has is the one whose lines say what it says
pub same_value : (l : Lll) (d : Draft) (h : IsLll d.signals d.assume d.keep d.constraints d.obligations d.names) → draft_of l ≡ d → value_of d h ≡ l
same_value l d h e =
    (subst (λ (x : Draft). (g : IsLll x.signals x.assume x.keep x.constraints x.obligations x.names) → value_of x g ≡ l) e (λ g. ap (value_of (draft_of l)) (is_lll_prop (draft_of l) g l.is_lll))) h

-- ---- the loop over the lines

-- the lines so far are read
pub record Going (text : List ℕ) (d : Draft) (rest : List ℕ) (line : ℕ) : Type 0 where
  pub lines : ℕ
  pub line_is : line ≡ lines + 1
  pub reads : after_lines lines text ≡ Ok (d, rest)
  pub short : line + length rest ≤ length text + 1

pub is_going : (text : List ℕ) → Going text no_lines text 1
unfolding after_lines
is_going text = record { lines = 0; line_is = refl; reads = refl; short = omega arith }

pub goes_on : (text : List ℕ) (d now : Draft) (rest after : List ℕ) (line : ℕ) → Going text d rest line → line_at line d rest ≡ Ok (now, after) → length after < length rest → Going text now after (line + 1)
unfolding after_lines
goes_on text d now rest after line g h shorter =
    let here : line_at (g.lines + 1) d rest ≡ Ok (now, after) = ap (λ n. line_at n d rest) (sym g.line_is) ∙ h in
    record { lines = suc g.lines; line_is = omega (arith, g.line_is); reads = rw g.reads here; short = omega (arith, g.short) }

-- a line that is wrong
pub goes_wrong : (text : List ℕ) (d : Draft) (rest : List ℕ) (line : ℕ) (e : LllFault) → Going text d rest line → line_at line d rest ≡ Err e → (k : ℕ) × (after_lines k text ≡ Err e)
unfolding after_lines
goes_wrong text d rest line e g h = (suc g.lines, rw g.reads (ap (λ n. line_at n d rest) (sym g.line_is) ∙ h))

-- the line that is there
pub line_at-some : (n : ℕ) (d : Draft) (rest : List ℕ) → (rest ≡ [] → ⊥) → line_at n d rest ≡ some_line_at d.stage n d rest
unfolding line_at
line_at-some n d [] some = absurd (some refl)
line_at-some n d (b ∷ bs) some = refl

no_line-step : (st : Stage) (n : ℕ) (d : Draft) → (st ≡ stage.End → ⊥) → no_line_at st n d ≡ Err (fault.Fault n kind.Ending)
no_line-step stage.Header n d other = refl
no_line-step stage.Signals n d other = refl
no_line-step stage.Keep n d other = refl
no_line-step stage.Lists n d other = refl
no_line-step stage.End n d other = absurd (other refl)

-- no line is there, though one is due
pub line_at-none : (n : ℕ) (d : Draft) → (d.stage ≡ stage.End → ⊥) → line_at n d [] ≡ Err (fault.Fault n kind.Ending)
unfolding line_at
line_at-none n d other = no_line-step d.stage n d other

-- a text that is tested to be empty
pub is_nothing : (rest : List ℕ) (b : Bool) → b ≡ (length rest == 0) → b ≡ true → rest ≡ []
is_nothing rest b e t = nil_from_length rest (eqb-true _ _ (sym e ∙ t))

pub is_something : (rest : List ℕ) (b : Bool) → b ≡ (length rest == 0) → b ≡ false → rest ≡ [] → ⊥
is_something rest b e f h = let t : (length rest == 0) ≡ true = ap (λ (r : List ℕ). length r == 0) h in cc

-- a line that isn't read
pub fault_stands : (e : LllFault) (text : List ℕ) (d : Draft) (rest : List ℕ) (line : ℕ) → Going text d rest line → (rest ≡ [] → ⊥) → FailsInLine e (some_line_at d.stage line d rest) → IsFaultIn text e
fault_stands (fault.Fault n k) text d rest line g some h = goes_wrong text d rest line (fault.Fault n k) g (line_at-some line d rest some ∙ h)
fault_stands fault.Memory text d rest line g some h = tt

-- a line that isn't there
pub fault_at_end : (text : List ℕ) (d : Draft) (rest : List ℕ) (line : ℕ) → Going text d rest line → rest ≡ [] → (d.stage ≡ stage.End → ⊥) → IsFaultIn text (fault.Fault line kind.Ending)
fault_at_end text d rest line g nothing other = goes_wrong text d rest line (fault.Fault line kind.Ending) g (ap (line_at line d) nothing ∙ line_at-none line d other)

-- the text is read to its end
pub read_stands : (text : List ℕ) (d : Draft) (rest : List ℕ) (line : ℕ) → Going text d rest line → rest ≡ [] → d.stage ≡ stage.End → IsReadAs text d
read_stands text d rest line g nothing at = record { lines = g.lines; reads = g.reads ∙ ap (λ (r : List ℕ). Ok (d, r)) nothing; ended = at }

-- ---- the value that is read

pub whole : (text : List ℕ) (d : Draft) → IsReadAs text d → Whole text d
whole text d r = is_whole r.lines text d r.reads r.ended

pub read_is : (text : List ℕ) (l : Lll) → text ≡ spelling l → IsReadAs text (draft_of l)
read_is text l e = let r = is_read l in record { lines = r.lines; reads = ap (after_lines r.lines) e ∙ r.reads; ended = refl }

pub one_value : (text : List ℕ) (d : Draft) (h : IsLll d.signals d.assume d.keep d.constraints d.obligations d.names) (l : Lll) → IsReadAs text d → text ≡ spelling l → value_of d h ≡ l
one_value text d h l r e = let s = read_is text l e in same_value l d h (one_draft s.lines r.lines text (draft_of l) d refl r.ended s.reads r.reads)

pub never_both : (text : List ℕ) (d : Draft) (line : ℕ) (k : LllKind) → IsReadAs text d → IsFaultOf text line k → ⊥
never_both text d line k r f = no_fault r.lines f.0 text d (fault.Fault line k) r.ended r.reads f.1

pub only_memory : (text : List ℕ) (l : Lll) (e : LllFault) → text ≡ spelling l → IsFaultIn text e → e ≡ fault.Memory
only_memory text l fault.Memory s f = refl
only_memory text l (fault.Fault line k) s f = let r = read_is text l s in absurd (no_fault r.lines f.0 text (draft_of l) (fault.Fault line k) refl r.reads f.1)

pub that_fault : (text : List ℕ) (line : ℕ) (k : LllKind) (e : LllFault) → IsFaultOf text line k → IsFaultIn text e → (e ≡ fault.Fault line k) ⊎ (e ≡ fault.Memory)
that_fault text line k fault.Memory g f = inr refl
that_fault text line k (fault.Fault n j) g f = inl (one_fault f.0 g.0 text (fault.Fault n j) (fault.Fault line k) f.1 g.1)

pub spelled_so : (text : List ℕ) (d : Draft) (h : IsLll d.signals d.assume d.keep d.constraints d.obligations d.names) → IsReadAs text d → text ≡ spelling (value_of d h)
unfolding spelling
spelled_so text d h r = (whole text d r).spelled

-- ---- laws

pub spelling-injective : (l m : Lll) → spelling l ≡ spelling m → l ≡ m
spelling-injective l m e = sym (one_value (spelling l) (draft_of m) m.is_lll l (read_is (spelling l) m e) refl)

parts : (n m : ℕ) (j k : LllKind) → fault.Fault n j ≡ fault.Fault m k → (n ≡ m) × (j ≡ k)
parts n m j k e = (cc, cc)

pub faults-same : (text : List ℕ) (n m : ℕ) (j k : LllKind) → IsFaultOf text n j → IsFaultOf text m k → (n ≡ m) × (j ≡ k)
faults-same text n m j k f g = parts n m j k (one_fault f.0 g.0 text (fault.Fault n j) (fault.Fault m k) f.1 g.1)

pub fault-spells_nothing : (text : List ℕ) (n : ℕ) (k : LllKind) (l : Lll) → IsFaultOf text n k → text ≡ spelling l → ⊥
fault-spells_nothing text n k l f e = never_both text (draft_of l) n k (read_is text l e) f
