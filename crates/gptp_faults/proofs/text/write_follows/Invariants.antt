-- The lines of the roots before this one are written.
use Rattle.std.proofs.Common.{drop, map}
use Rattle.std.specs.Prelude.{string_bytes}
use Rattle.gptp_timeline.proofs.LineLemmas.{WrittenSoFar}
use Rattle.gptp_faults.specs.FaultsText.{follow_line}
use Rattle.gptp_faults.proofs.text.write_follows.Given as goal

abbrev pub invariant-loop-follow : goal.invariant-loop-follow
invariant-loop-follow l =
    WrittenSoFar (map follow_line l.follows) (map follow_line (drop l.follow-index l.follows))
    (string_bytes l.initial.text) (string_bytes l.text)
