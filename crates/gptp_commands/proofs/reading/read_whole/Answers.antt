use Rattle.std.proofs.Common.{◌+◌, take, arith}
use Rattle.std.proofs.lemmas.Grind.{common_steps}
use Rattle.gptp_commands.proofs.SourceLemmas.{takes_both}
use Rattle.gptp_commands.proofs.reading.read_whole.Goals as goal

pub returns-in_err-extend_from_slice-clause-no_further : goal.returns-in_err-extend_from_slice-clause-no_further
returns-in_err-extend_from_slice-clause-no_further g c =
    takes_both (c.args.limit + 1) _ _ _ c.loop-chunk.octets.items (take c.in_ok-count.count c.read.new.buffer)
    c.loop-chunk.invariant.taken
    c.in_ok-count.ensures.octets.0 (grind (arith, common_steps))
