use Rattle.std.proofs.Common.{◌≡◌, length}
use Rattle.gptp_commands.proofs.CompareLemmas.{Answered}
use Rattle.gptp_commands.proofs.compare.answer_lines.Given as goal

-- the lines before what is left are answered, and no write has failed
abbrev pub invariant-loop-rest : goal.invariant-loop-rest
invariant-loop-rest g l = record {
  answered : Answered l.input l.rest (g.K.Sink.written l.initial.sink) (g.K.Sink.written l.sink) l.refused;
  works : g.K.Sink.failures l.sink ≡ g.K.Sink.failures l.initial.sink;
}

abbrev pub decreases-loop-rest : goal.decreases-loop-rest
decreases-loop-rest g l = length l.rest
