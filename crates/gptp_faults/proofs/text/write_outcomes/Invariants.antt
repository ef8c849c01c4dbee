-- The lines of the cases before this one are written.
use Rattle.std.proofs.Common.{drop}
use Rattle.std.specs.List.{flat_map}
use Rattle.std.specs.Prelude.{string_bytes}
use Rattle.gptp_timeline.proofs.LineLemmas.{WrittenSoFar}
use Rattle.gptp_faults.specs.FaultsText.{outcome_lines}
use Rattle.gptp_faults.proofs.text.write_outcomes.Given as goal

abbrev pub invariant-loop-outcome : goal.invariant-loop-outcome
invariant-loop-outcome l =
    WrittenSoFar (flat_map (outcome_lines l.asked) l.outcomes)
    (flat_map (outcome_lines l.asked) (drop l.outcome-index l.outcomes))
    (string_bytes l.initial.text) (string_bytes l.text)
