use Rattle.std.proofs.Common.{sym, ap, ◌∙◌, Some, arith}
use Rattle.std.proofs.lemmas.Option.{slice_get_past}
use Rattle.gptp_vector.specs.Trace.{clocks}
use Rattle.gptp_messages.proofs.PathLemmas.{length-clocks, slice_get-clocks}
use Rattle.gptp_messages.proofs.path.clock_of.Goals as goal

pub returns-then-place-octets : goal.returns-then-place-octets
returns-then-place-octets c =
    ap Some c.clock_at.ensures ∙ sym (slice_get-clocks c.args.octets.now c.args.place c.if-place-octets.true)

pub returns-else-place-octets : goal.returns-else-place-octets
returns-else-place-octets c =
    sym (slice_get_past (clocks c.args.octets.now) c.args.place
    (omega (arith, length-clocks c.args.octets.now, c.if-place-octets.false)))
