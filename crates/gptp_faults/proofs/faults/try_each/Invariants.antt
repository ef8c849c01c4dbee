-- The cases so far were tried, as far as they belong to the part, each was told of, and the document is as it was.
use Rattle.std.proofs.Common.{◌≡◌, ◌≤◌, length}
use Rattle.std.specs.Io.KnownBytes.{Appends}
use Rattle.gptp_words.specs.Lines.{text_of}
use Rattle.gptp_timeline.specs.Each.{Each}
use Rattle.gptp_faults.specs.Progress.{all_begun}
use Rattle.gptp_faults.specs.Outcomes.{IsOutcomeAt, case_numbers}
use Rattle.gptp_faults.proofs.faults.try_each.Given as goal

abbrev pub invariant-loop-number : goal.invariant-loop-number
invariant-loop-number g l = record {
  tried : Each (IsOutcomeAt l.options l.fn.document l.times l.cases)
      (case_numbers l.options.parts l.options.part l.number) l.outcomes.items;
  told : Appends (g.P.Sink.written l.initial.progress) (g.P.Sink.written l.progress)
      (text_of (all_begun l.options.progress l.count (length l.outcomes.items)));
  most : l.number ≤ length l.cases;
  same : l.document ≡ l.fn.document;
  works : g.P.Sink.failures l.progress ≡ g.P.Sink.failures l.initial.progress;
}
