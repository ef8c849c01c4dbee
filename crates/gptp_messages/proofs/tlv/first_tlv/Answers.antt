use Rattle.std.proofs.Common.{◌<◌, length, arith}
use Rattle.std.specs.Option.{option_copied}
use Rattle.std.proofs.lemmas.Bool.Decides.{nat_tests}
use Rattle.std.proofs.lemmas.Result.{err_from_is_err_and}
use Rattle.gptp_messages.proofs.TlvLemmas.{walk_goes_on, walk_is_stuck}
use Rattle.gptp_messages.proofs.tlv.first_tlv.Goals as goal

pub returns-in_err-tlv_type-clause-refused : goal.returns-in_err-tlv_type-clause-refused
returns-in_err-tlv_type-clause-refused c =
    let p = err_from_is_err_and c.from_residual.result c.from_residual.ensures.1 in
    let refused = c.in_err-tlv_type.ensures.refused in
    let some : 0 < length c.loop-rest.rest.now = grind (arith, nat_tests, c.is_empty.ensures, c.loop-rest-test.true) in
    rw (p.1, p.2) (
      refused.0,
      walk_is_stuck c.args.kind c.args.octets.now c.loop-rest.rest.now (option_copied c.loop-rest.found)
          c.loop-rest.invariant some refused.1,
    )

pub loop-rest-preserved : goal.loop-rest-preserved
loop-rest-preserved c =
    rw (c.first_of-found.ensures, c.is_of.ensures)
    (walk_goes_on c.args.kind c.args.octets.now c.loop-rest.rest.now (option_copied c.loop-rest.found)
    c.in_ok-tlv_type.tlv_type c.in_ok-tlv_type.value.now
    c.in_ok-tlv_type.behind.now c.loop-rest.invariant c.in_ok-tlv_type.ensures.front)
