use Rattle.std.proofs.Common.{ℕ, List, take}
use Rattle.gptp_certificate.specs.Rounds.{CameOver, PassRound}
use Rattle.gptp_certificate.proofs.rounds.pass_identities.Given as goal

abbrev pub invariant-loop-link : goal.invariant-loop-link
invariant-loop-link l = record {
  round : PassRound 0 (take l.link-index l.links) l.initial.values.items l.values.items;
  came : (starts : List ℕ) → CameOver 0 l.links starts l.initial.values.items
      → CameOver 0 l.links starts l.values.items;
}
