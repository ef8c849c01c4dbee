use Rattle.gptp_certificate.specs.Rounds.{CameOver, HasCome}
use Rattle.gptp_certificate.proofs.rounds.settle_numbers.Given as goal

abbrev pub invariant-loop-round : goal.invariant-loop-round
invariant-loop-round l = record {
  came : CameOver 1 l.links l.initial.values.items l.values.items;
  all : HasCome 1 l.links l.initial.values.items l.round l.values.items;
}
