use Rattle.evidence.proofs.OutcomeTurns.{refused_pair}
use Rattle.evidence.proofs.claims_judged.Judged.new.Goals as goal

pub returns-in-Err-Unpaired : goal.returns-in-Err-Unpaired
returns-in-Err-Unpaired c = λ h same_a same_b few begins.
    refused_pair c.args.a.now c.args.b.now c.args.heading c.in-Err-Unpaired.name h same_a same_b few begins (c.in-Err-Unpaired.ensures.unpaired c.in-Err-Unpaired.name c.in-Err-Unpaired.field-0-is)
