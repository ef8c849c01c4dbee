use Rattle.std.proofs.Common.{◌*◌, ◌/◌, ◌∙◌, ◌≤◌, length, drop, arith}
use Rattle.std.proofs.lemmas.List.FromFn.{fill_by_all}
use Rattle.byteorder.specs.Endian.{big_number}
use Rattle.gptp_vector.specs.Trace.{clocks}
use Rattle.gptp_vector.proofs.trace.read_clocks.Goals as goal

pub returns : goal.returns
unfolding clocks
returns c =
    let octets = c.args.octets.now in
    let all : length octets / 8 ≤ c.loop-place.place = omega (arith, c.requires, c.loop-place-test.false) in
    fill_by_all (λ k. big_number 8 (drop (8 * k) octets)) c.loop-place.trace (length octets / 8) 0
    (c.loop-place.invariant.long ∙ c.requires) (λ k within. c.loop-place.invariant.front k (omega (arith, within, all)))
