-- Of the causes of a whole value one comes first.
use Rattle.std.proofs.Common.{◌≡◌, ℕ, ◌+◌, ◌^◌, ◌<◌, ◌≤◌, List, [], ◌∷◌, ◌++◌, length, slice_get, refl, sym, ap, subst, ◌∙◌, inl, inr, ◌⊎◌, arith}
use Rattle.std.specs.Prelude.{codes, All}
use Rattle.std.proofs.lemmas.Bool.{cases_lt}
use Rattle.std.proofs.lemmas.Option.{same_Some}
use Rattle.lll_core.specs.declared.lll.Lll.{Lll}
use Rattle.lll_core.specs.declared.signal.Signal.{Signal}
use Rattle.lll_core.specs.Signals.{own_names}
use Rattle.lll_text.specs.Lines.{line_feeds}
use Rattle.lll_text.specs.Spelling.{line, spelling}
use Rattle.miter.specs.declared.parts.MiterLll.{MiterLll}
use Rattle.miter.specs.Pairs.{Paired, HasPartner, IsUnpaired, IsWithoutPartner, size_of}
use Rattle.miter.specs.Miters.{IsMiter}
use Rattle.miter.proofs.MiterSignals.{All-at}
use Rattle.evidence.specs.declared.evidence.Evidence.{Evidence}
use Rattle.evidence.specs.declared.fault.Cause.{Cause}
use Rattle.evidence.specs.declared.fault.Cause.TheVariants as cause
use Rattle.evidence.specs.Accepted.{Accepted}
use Rattle.evidence.specs.Counts.{HasText}
use Rattle.evidence.specs.Lines.{parts_lines, entries_lines}
use Rattle.evidence.specs.Spelling.{part_count, equal_line, equal_text, entries_text, first_model_text, models_text, text}
use Rattle.evidence.specs.Refusals.{line_after, EqualFails, EntriesFail, Fails}
use Rattle.evidence.specs.Claims.{IsFirstOf, IsAcceptedEqual, AreAcceptedEntries}
use Rattle.evidence.proofs.Failing.{one_miter, paired_never_fails}
use Rattle.evidence.proofs.Holding.{parts_never_fail}
use Rattle.evidence.proofs.LineLemmas.{line_feeds-append, line_feeds-line}
use Rattle.evidence.proofs.EqualLemmas.{equal_within, entries_begin}
use Rattle.evidence.proofs.EntriesLemmas.{entries_feeds, entries_after}
use Rattle.evidence.proofs.SizeLemmas.{is_short}

-- ---- what has no partner

names_same : (s t : Signal) (x y : List ℕ) → s ≡ t → own_names s ≡ x ∷ [] → own_names t ≡ y ∷ [] → x ≡ y
names_same s t x y same p q = let e : x ∷ [] ≡ y ∷ [] = sym p ∙ ap own_names same ∙ q in cc

same_name : (a b : List Signal) (x y : List ℕ) → IsWithoutPartner a b x → IsWithoutPartner a b y → x ≡ y
same_name a b x y u v = elim (cases_lt u.n v.n) [
  | inl lt ↦ absurd (u.alone (v.earlier u.n u.s lt u.at))
  | inr le ↦ elim (cases_lt v.n u.n) [
    | inl gt ↦ absurd (v.alone (u.earlier v.n v.s gt v.at))
    | inr ge ↦ (
        let n : u.n ≡ v.n = omega (arith, le, ge) in
        let s : u.s ≡ v.s = same_Some u.s v.s (sym u.at ∙ ap (slice_get b) n ∙ v.at) in
        names_same u.s v.s x y s u.named v.named)
  ]
]

all_paired : (a b : List Signal) (x : List ℕ) (P : Type 0) → IsWithoutPartner a b x → All (HasPartner a) b → P
all_paired a b x P u all = absurd (u.alone (All-at (HasPartner a) b u.n u.s all u.at))

pub one_unpaired : (a b : Lll) (x y : List ℕ) → IsUnpaired a b x → IsUnpaired a b y → x ≡ y
one_unpaired a b x y p q = elim p [
  | inl u ↦ elim q [
    | inl v ↦ same_name a.signals b.signals x y u v
    | inr w ↦ elim w [ inl c ↦ all_paired a.signals b.signals x (x ≡ y) u c.0.signals | inr o ↦ all_paired a.signals b.signals x (x ≡ y) u o.0.signals ]
  ]
  | inr r ↦ elim q [
    | inl v ↦ elim r [ inl c ↦ all_paired a.signals b.signals y (x ≡ y) v c.0.signals | inr o ↦ all_paired a.signals b.signals y (x ≡ y) v o.0.signals ]
    | inr w ↦ elim r [
      | inl c ↦ elim w [ inl d ↦ c.1 ∙ sym d.1 | inr o ↦ absurd (c.0.differ o.0.constraints) ]
      | inr o ↦ elim w [ inl d ↦ absurd (d.0.differ o.0.constraints) | inr k ↦ o.1 ∙ sym k.1 ]
    ]
  ]
]

-- ---- the whole

-- the second model has a line before it
models_after : (e : Evidence) → line_feeds (first_model_text e) + 1 ≤ line_feeds (models_text e)
models_after e =
    let head = first_model_text e ++ line (codes "text b") in
    omega (arith, line_feeds-append head (spelling e.b), line_feeds-append (first_model_text e) (line (codes "text b")), line_feeds-line (codes "text b") refl)

module _ (e : Evidence) (has : HasText e) (short : length (text e) ≤ 2 ^ 30) where
  pub first_few : line_feeds (first_model_text e) < 2 ^ 31
  first_few = let is = is_short e has short in omega (arith, is.models_feeds, models_after e)

  pub models_few : line_feeds (models_text e) < 2 ^ 31
  models_few = let is = is_short e has short in is.models_feeds

  pub sizes_few : size_of e.a + size_of e.b < 2 ^ 31
  sizes_few = let is = is_short e has short in is.models

  pub parts_few : part_count e.b < 2 ^ 64
  parts_few = let is = is_short e has short in omega (arith, is.parts)

  pub entries_few : length e.entries < 2 ^ 63
  entries_few = let is = is_short e has short in omega (arith, is.entries)

  -- where the entries begin
  pub entries_line : (m : MiterLll) → line_after (models_text e) + 1 + parts_lines e.equal ≡ line_after (models_text e ++ equal_text (part_count e.b) e.equal)
  entries_line m = omega (arith, entries_begin e m parts_few has.equal_fits)

  -- how many lines stand in a text
  pub lines_few : (m : MiterLll) → line_after (models_text e) + 1 + parts_lines e.equal + entries_lines e.entries < 2 ^ 32
  lines_few m =
      let is = is_short e has short in
      omega (
        arith,
        is.entries_feeds,
        line_feeds-append (models_text e ++ equal_text (part_count e.b) e.equal) (entries_text 1 e.entries),
        entries_begin e m parts_few has.equal_fits,
        entries_feeds e.depth e.a 1 e.entries has.depth_bound (omega (arith, is.entries)) has.each_fits,
      )

module _ (e : Evidence) (has : HasText e) (few : part_count e.b < 2 ^ 64) (short : length e.entries < 2 ^ 63) where
  after_models : (m : MiterLll) (line : ℕ) (why : Cause) → EqualFails e m line why ⊎ EntriesFail e line why → line_feeds (models_text e) < line
  after_models m line why fails = elim fails [
    | inl equal ↦ (equal_within e m few has.equal_fits line why equal).after
    | inr entries ↦ omega (arith, entries_after e has.depth_bound short has.each_fits line why entries, entries_begin e m few has.equal_fits)
  ]

  -- the two have no miter
  pub unpaired_first : (at : ℕ) (name : List ℕ) → at ≡ line_after (first_model_text e) → IsUnpaired e.a e.b name → IsFirstOf (Fails e) at (cause.Unpaired name)
  unpaired_first at name begins unpaired = record {
    fails = inl (record { at = begins; name = name; named = refl; unpaired = unpaired });
    first = λ other reason fails. elim fails [
      | inl none ↦ inr (begins ∙ sym none.at, inl (none.named ∙ ap cause.Unpaired (one_unpaired e.a e.b none.name name none.unpaired unpaired)))
      | inr with ↦ inl (omega (arith, begins, models_after e, after_models with.0 other reason with.2))
    ];
  }

  module _ (m : MiterLll) (paired : Paired e.a e.b) (is : IsMiter e.a e.b m) where
    -- what is said of the parts doesn't hold
    pub equal_first : (line : ℕ) (why : Cause) → IsFirstOf (EqualFails e m) line why → IsFirstOf (Fails e) line why
    equal_first line why first = record {
      fails = inr (m, is, inl first.fails);
      first = λ other reason fails. elim fails [
        | inl none ↦ absurd (paired_never_fails e.a e.b none.name paired none.unpaired)
        | inr with ↦ elim with.2 [
          | inl equal ↦ first.first other reason (subst (λ n. EqualFails e n other reason) (one_miter e.a e.b m with.0 is with.1) equal)
          | inr entries ↦ inl (omega (arith, (equal_within e m few has.equal_fits line why first.fails).upto, entries_begin e m few has.equal_fits, entries_after e has.depth_bound short has.each_fits other reason entries))
        ]
      ];
    }

    equal_never : IsAcceptedEqual m e.conflicts e.equal → (line : ℕ) (why : Cause) → EqualFails e m line why → ⊥
    equal_never accepted line why fails = elim fails [
      | inl large ↦ large.large accepted.small
      | inr parts ↦ parts_never_fail m e.conflicts (models_text e ++ equal_line (part_count e.b) e.equal) e.equal line why accepted.holds parts
    ]

    -- an entry isn't accepted
    pub entries_first : (line : ℕ) (why : Cause) → IsAcceptedEqual m e.conflicts e.equal → IsFirstOf (EntriesFail e) line why → IsFirstOf (Fails e) line why
    entries_first line why accepted first = record {
      fails = inr (m, is, inr first.fails);
      first = λ other reason fails. elim fails [
        | inl none ↦ absurd (paired_never_fails e.a e.b none.name paired none.unpaired)
        | inr with ↦ elim with.2 [
          | inl equal ↦ absurd (equal_never accepted other reason (subst (λ n. EqualFails e n other reason) (one_miter e.a e.b m with.0 is with.1) equal))
          | inr entries ↦ first.first other reason entries
        ]
      ];
    }

    pub all_accepted : IsAcceptedEqual m e.conflicts e.equal → AreAcceptedEntries e → Accepted e
    all_accepted accepted entries = record { paired = paired; m = m; miter = is; small = accepted.small; equal_holds = accepted.holds; entries = entries }
