-- An accepted value fails nowhere, and of all causes one comes first.
use Rattle.std.proofs.Common.{◌≡◌, ℕ, List, ◌++◌, take, slice_get, sym, ap, subst, ◌∙◌, inl, inr, arith}
use Rattle.std.proofs.Props.{props}
use Rattle.lll_core.specs.declared.lll.Lll.{Lll}
use Rattle.lll_text.proofs.Again.{draft_of}
use Rattle.lll_text.proofs.OneReading.{same_value}
use Rattle.miter.specs.declared.parts.MiterLll.{MiterLll}
use Rattle.miter.specs.Parts.{AreParts}
use Rattle.miter.specs.Pairs.{Paired, IsUnpaired}
use Rattle.miter.specs.Miters.{IsMiter, AreSame}
use Rattle.miter.proofs.OneMiter.{same_miters}
use Rattle.miter.proofs.MiterSignals.{All-at}
use Rattle.miter.specs.Pairs.{HasPartner}
use Rattle.kinduction.specs.declared.found.Found.{Found}
use Rattle.evidence.specs.declared.evidence.Evidence.{Evidence}
use Rattle.evidence.proofs.AtOnce.{at_once}
use Rattle.evidence.proofs.Holding.{parts_never_fail, entry_never_fails}
use Rattle.evidence.specs.declared.fault.Cause.{Cause}
use Rattle.evidence.specs.declared.fault.Cause.TheVariants as cause
use Rattle.evidence.specs.Accepted.{IsAcceptedEntry, Accepted}
use Rattle.evidence.specs.Spelling.{part_count, equal_line, equal_text, entries_text, models_text}
use Rattle.evidence.specs.Refusals.{EntryFails, EqualFails, EntriesFail, Fails, FailsFirst}

-- ---- the whole

miter_of : (x : Lll × List ℕ) → AreParts x.0.signals x.1 → MiterLll
miter_of x h = record { lll = x.0; parts = x.1; are_parts = h }

parts_prop : (x : Lll × List ℕ) (p q : AreParts x.0.signals x.1) → p ≡ q
parts_prop x p q = let prop : IsProp (AreParts x.0.signals x.1) = hlevel props in prop p q

same_lll : (l k : Lll) → l.signals ≡ k.signals → l.assume ≡ k.assume → l.keep ≡ k.keep → l.constraints ≡ k.constraints → l.obligations ≡ k.obligations → l.names ≡ k.names → k ≡ l
same_lll l k s a p c o n = same_value l (draft_of k) k.is_lll drafts
  where
    drafts : draft_of l ≡ draft_of k
    drafts = cc (s, a, p, c, o, n)

same_whole : (m n : MiterLll) → AreSame m n → n ≡ m
unfolding miter_of
same_whole m n same =
    let lll : n.lll ≡ m.lll = same_lll m.lll n.lll same.signals same.assume same.keep same.constraints same.obligations same.names in
    let both : (m.lll, m.parts) ≡ (n.lll, n.parts) = cc (lll, same.parts) in
    (subst (λ x. (g : AreParts x.0.signals x.1) → miter_of x g ≡ m) both (λ g. ap (miter_of (m.lll, m.parts)) (parts_prop (m.lll, m.parts) g m.are_parts))) n.are_parts

pub one_miter : (a b : Lll) (m n : MiterLll) → IsMiter a b m → IsMiter a b n → n ≡ m
one_miter a b m n x y = same_whole m n (same_miters a b m n x.0 y.0 x.1 x.2 x.3 y.1 y.2 y.3 x.4 y.4)

pub paired_never_fails : (a b : Lll) (name : List ℕ) → Paired a b → IsUnpaired a b name → ⊥
paired_never_fails a b name paired unpaired = elim unpaired [
  | inl u ↦ u.alone (All-at (HasPartner a.signals) b.signals u.n u.s paired.signals u.at)
  | inr v ↦ elim v [ inl u ↦ u.0.differ paired.constraints | inr u ↦ u.0.differ paired.obligations ]
]

equal_never_fails : (e : Evidence) (accepted : Accepted e) (m : MiterLll) (line : ℕ) (why : Cause) → m ≡ accepted.m → EqualFails e m line why → ⊥
equal_never_fails e accepted m line why same fails = elim (subst (λ n. EqualFails e n line why) same fails) [
  | inl large ↦ large.large accepted.small
  | inr parts ↦ parts_never_fail accepted.m e.conflicts (models_text e ++ equal_line (part_count e.b) e.equal) e.equal line why accepted.equal_holds parts
]

entries_never_fail : (e : Evidence) → Accepted e → (line : ℕ) (why : Cause) → EntriesFail e line why → ⊥
entries_never_fail e accepted line why fails =
    let p = fails.0 in
    let front = models_text e ++ equal_text (part_count e.b) e.equal ++ entries_text 1 (take p e.entries) in
    let Good = IsAcceptedEntry e.a p e.depth e.conflicts in
    let Bad = λ (entry : Found). EntryFails e.a p e.depth e.conflicts front entry line why in
    let entry = at_once (slice_get e.entries p) Good Bad (accepted.entries p fails.1) fails.2 in
    entry_never_fails e.a p e.depth e.conflicts front entry.0 line why entry.1 entry.2

pub never_fails : (e : Evidence) (line : ℕ) (why : Cause) → Accepted e → Fails e line why → ⊥
never_fails e line why accepted fails = elim fails [
  | inl none ↦ paired_never_fails e.a e.b none.name accepted.paired none.unpaired
  | inr with ↦ elim with.2 [
    | inl parts ↦ equal_never_fails e accepted with.0 line why (one_miter e.a e.b accepted.m with.0 accepted.miter with.1) parts
    | inr entry ↦ entries_never_fail e accepted line why entry
  ]
]

-- ---- the first cause

pub one_first : (e : Evidence) (line other : ℕ) (why reason : Cause) → FailsFirst e line why → FailsFirst e other reason → (line ≡ other) × (why ≡ reason)
one_first e line other why reason x y = elim (x.first other reason y.fails) [
  | inl lt ↦ elim (y.first line why x.fails) [
    | inl more ↦ absurd (omega (arith, lt, more))
    | inr same ↦ absurd (omega (arith, lt, same.0))
  ]
  | inr here ↦ elim here.1 [
    | inl same ↦ (here.0, sym same)
    | inr before ↦ elim (y.first line why x.fails) [
      | inl more ↦ absurd (omega (arith, here.0, more))
      | inr there ↦ elim there.1 [
        | inl same ↦ (here.0, same)
        | inr after ↦ absurd (apart (sym after.0 ∙ before.1))
      ]
    ]
  ]
]
  where
    apart : cause.Count ≡ cause.Idle → ⊥
    apart h = cc
