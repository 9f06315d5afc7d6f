use Rattle.kinduction.proofs.Shortest.{shortest}
use Rattle.kinduction.proofs.laws.breaks_are_shortest.Goals as goal

pub returns : goal.returns
returns c = record {
  logs = λ l p bits bases within breaks. shortest l p bits bases within breaks;
  answers = λ l p depth budget bits bases within falsified. shortest l p bits bases within falsified.breaks;
}
