use Rattle.std.proofs.Common.{◌≡◌, ◌-◌, ◌≤◌, length, take}
use Rattle.std.specs.Io.KnownBytes.{Appends}
use Rattle.gptp_sink.proofs.writing.write_whole.Given as goal

-- what was written so far is the front of the text, and no write has failed
abbrev pub invariant-loop-start : goal.invariant-loop-start
invariant-loop-start g l = record {
  bound : l.start ≤ length l.text;
  written : Appends (g.S.Sink.written l.fn.sink) (g.S.Sink.written l.sink) (take l.start l.text);
  works : g.S.Sink.failures l.sink ≡ g.S.Sink.failures l.fn.sink;
}

abbrev pub decreases-loop-start : goal.decreases-loop-start
decreases-loop-start g l = length l.text - l.start
