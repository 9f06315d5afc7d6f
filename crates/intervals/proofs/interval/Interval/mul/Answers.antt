use Rattle.std.proofs.Common.{◌≡◌, ◌*ℤ◌, ◌≤ℤ◌, rules, sym, subst, ◌∙◌, [], ◌∷◌}
use Rattle.intervals.specs.Ends.{Ends}
use Rattle.intervals.specs.Answers.{IsInterval, ends}
use Rattle.intervals.specs.Products.{IsFar}
use Rattle.intervals.specs.Rules.{hull_of, product}
use Rattle.intervals.specs.Hulls.{reached}
use Rattle.intervals.proofs.AnswerLemmas.{back, back_lo, back_hi, none_wide}
use Rattle.intervals.proofs.ProductLemmas.{wide_far, corners, corners_order, four}
use Rattle.intervals.proofs.interval.Interval.mul.Goals as goal

pub returns-in_err-corner : goal.returns-in_err-corner
returns-in_err-corner c =
    let a = c.args.self.now in
    let b = c.args.other.now in
    let far = subst IsFar (λ i. back_lo a i *ℤ back_lo b i) c.in_err-corner.ensures in
    none_wide _ _ c.from_residual.ensures
    (wide_far (product (ends a) (ends b)) _ (corners (a.lo *ℤ b.lo) (a.lo *ℤ b.hi) (a.hi *ℤ b.lo) (a.hi *ℤ b.hi)).first far)

pub returns-in_err-second : goal.returns-in_err-second
returns-in_err-second c =
    let a = c.args.self.now in
    let b = c.args.other.now in
    let far = subst IsFar (λ i. back_lo a i *ℤ back_hi b i) c.in_err-second.ensures in
    none_wide _ _ c.from_residual-in_err-second.ensures
    (wide_far (product (ends a) (ends b)) _ (corners (a.lo *ℤ b.lo) (a.lo *ℤ b.hi) (a.hi *ℤ b.lo) (a.hi *ℤ b.hi)).second far)

pub returns-in_err-third : goal.returns-in_err-third
returns-in_err-third c =
    let a = c.args.self.now in
    let b = c.args.other.now in
    let far = subst IsFar (λ i. back_hi a i *ℤ back_lo b i) c.in_err-third.ensures in
    none_wide _ _ c.from_residual-in_err-third.ensures
    (wide_far (product (ends a) (ends b)) _ (corners (a.lo *ℤ b.lo) (a.lo *ℤ b.hi) (a.hi *ℤ b.lo) (a.hi *ℤ b.hi)).third far)

pub returns-in_err-last : goal.returns-in_err-last
returns-in_err-last c =
    let a = c.args.self.now in
    let b = c.args.other.now in
    let far = subst IsFar (λ i. back_hi a i *ℤ back_hi b i) c.in_err-last.ensures in
    none_wide _ _ c.from_residual-in_err-last.ensures
    (wide_far (product (ends a) (ends b)) _ (corners (a.lo *ℤ b.lo) (a.lo *ℤ b.hi) (a.hi *ℤ b.lo) (a.hi *ℤ b.hi)).last far)

pub interval-requires : goal.interval-requires
interval-requires c =
    let a = c.args.self.now in
    let b = c.args.other.now in
    let p = back c.in_ok-corner.corner (search rules) ∙ c.in_ok-corner.ensures ∙ (λ i. back_lo a i *ℤ back_lo b i) in
    let q = back c.in_ok-second.second (search rules) ∙ c.in_ok-second.ensures ∙ (λ i. back_lo a i *ℤ back_hi b i) in
    let r = back c.in_ok-third.third (search rules) ∙ c.in_ok-third.ensures ∙ (λ i. back_hi a i *ℤ back_lo b i) in
    let s = back c.in_ok-last.last (search rules) ∙ c.in_ok-last.ensures ∙ (λ i. back_hi a i *ℤ back_hi b i) in
    let same : reached c.with-3.result ≡ product (ends a) (ends b) =
    four _ _ _ _ _ _ _ _ c.of.ensures c.with.ensures c.with-2.ensures c.with-3.ensures
    ∙ (λ i. hull_of (p i ∷ q i ∷ r i ∷ s i ∷ []))
    in
    subst (λ (e : Ends). e.lo ≤ℤ e.hi) (sym same) (corners_order (a.lo *ℤ b.lo) (a.lo *ℤ b.hi) (a.hi *ℤ b.lo) (a.hi *ℤ b.hi))

pub returns : goal.returns
returns c =
    let a = c.args.self.now in
    let b = c.args.other.now in
    let p = back c.in_ok-corner.corner (search rules) ∙ c.in_ok-corner.ensures ∙ (λ i. back_lo a i *ℤ back_lo b i) in
    let q = back c.in_ok-second.second (search rules) ∙ c.in_ok-second.ensures ∙ (λ i. back_lo a i *ℤ back_hi b i) in
    let r = back c.in_ok-third.third (search rules) ∙ c.in_ok-third.ensures ∙ (λ i. back_hi a i *ℤ back_lo b i) in
    let s = back c.in_ok-last.last (search rules) ∙ c.in_ok-last.ensures ∙ (λ i. back_hi a i *ℤ back_hi b i) in
    let same : reached c.with-3.result ≡ product (ends a) (ends b) =
    four _ _ _ _ _ _ _ _ c.of.ensures c.with.ensures c.with-2.ensures c.with-3.ensures
    ∙ (λ i. hull_of (p i ∷ q i ∷ r i ∷ s i ∷ []))
    in
    subst (IsInterval c.interval.result) same c.interval.ensures
