use Rattle.evidence.proofs.FileReading.{of_file, never_failed}
use Rattle.evidence.proofs.checking.read_and_check.Goals as goal

pub end-requires : goal.end-requires
end-requires g c = let x = c.in_ok-feed_file.ensures.answer in record { stands = (x.0, x.2) }

pub returns-clause-answer : goal.returns-clause-answer
returns-clause-answer g c = let x = c.in_ok-feed_file.ensures.answer in of_file _ _ _ x.0 c.end.result x.3 x.1 (c.end.ensures.answers x.0 x.2)

pub returns-clause-cause : goal.returns-clause-cause
returns-clause-cause g c =
    let x = c.in_ok-feed_file.ensures.answer in
    record { later = c.in_ok-feed_file.ensures.cause.later; failed = λ failed. absurd (never_failed x.0 c.end.result (c.end.ensures.answers x.0 x.2) failed) }
