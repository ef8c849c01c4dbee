use Rattle.std.proofs.Common.{◌<◌, length, sym, ◌∙◌, arith}
use Rattle.gptp_lists.proofs.PlaceLemmas.{member_there}
use Rattle.gptp_world.proofs.UsedLemmas.{counted_more, counted_same}
use Rattle.gptp_world.proofs.world_parts.WorldParts.count_used.Goals as goal
use Rattle.gptp_world.proofs.world_parts.WorldParts.count_used.Goals.{then-is_in_use, else-is_in_use}

pub loop-link-preserved : goal.loop-link-preserved
loop-link-preserved c =
    let parts = c.args.self.now in let link = c.loop-link.link in let test = c.loop-link-test.true in
    let all = c.links-link-end.ensures in
    let within : link < length parts.net.traffic.net.channels = omega arith in
    let (channel, here) = member_there parts.net.traffic.net.channels link within in
    let so_far = c.loop-link.invariant.is in let few = c.loop-link.invariant.few in
    elim c.if-is_in_use.branch [
      | then-is_in_use w ↦
          let more = counted_more parts link channel here
          (sym (c.is_in_use.ensures channel here) ∙ w.if-is_in_use.true) in
          let is = w.count-is in
          record { is = omega arith; few = omega arith }
      | else-is_in_use w ↦
          let same = counted_same parts link channel here
          (sym (c.is_in_use.ensures channel here) ∙ w.if-is_in_use.false) in
          let is = w.count-is in
          record { is = omega arith; few = omega arith }
    ]
