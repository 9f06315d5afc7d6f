use Rattle.std.proofs.Common.{inl, inr}
use Rattle.miter.specs.Pairs.{HasPartner}
use Rattle.miter.proofs.MiterSignals.{All-at}
use Rattle.miter.proofs.laws.paired_or_unpaired.Goals as goal

pub returns : goal.returns
returns c = λ a b name paired unpaired. elim unpaired [
  | inl u ↦ u.alone (All-at (HasPartner a.signals) b.signals u.n u.s paired.signals u.at)
  | inr v ↦ elim v [ inl u ↦ u.0.differ paired.constraints | inr u ↦ u.0.differ paired.obligations ]
]
