use Rattle.std.proofs.Common.{◌≡◌, ℕ, List, length}
use Rattle.std.specs.Io.KnownBytes.{Appends}
use Rattle.gptp_words.specs.Lines.{text_of}
use Rattle.gptp_timeline.specs.Passing.{EarlierAreSeen, MayPass, standing}
use Rattle.gptp_timeline.specs.Timeline.{later_than}
use Rattle.gptp_timeline.proofs.timeline.earlier_stretches.Given as goal

-- so many stretches passed, the events that are left can be made, and no write has failed
abbrev pub invariant-loop-to : goal.invariant-loop-to
invariant-loop-to g l = record {
  passed : (count : ℕ) × (lines : List (List ℕ)) × EarlierAreSeen g.F.Fate.answers l.exact l.document l.limits count
      (standing l.fn.begins.from l.fn.begins.left.now l.initial.world.fate l.initial.world.world_core l.initial.watch
      l.fn.begins.kept)
      (standing l.from l.left l.world.fate l.world.world_core l.watch l.kept) lines
      × Appends (g.K.Sink.written l.initial.sink) (g.K.Sink.written l.sink) (text_of lines);
  may : MayPass l.until l.from l.left l.world.world_core;
  works : g.K.Sink.failures l.sink ≡ g.K.Sink.failures l.initial.sink;
}

-- at each stretch fewer are left that come later
abbrev pub decreases-loop-to : goal.decreases-loop-to
decreases-loop-to g l = length (later_than l.from l.left)
