use Rattle.std.proofs.Common.{◌≡◌, ◌<◌, List, length, slice_get, sym, ap, ◌∙◌, arith}
use Rattle.std.proofs.lemmas.Bool.Decides.{nat_tests}
use Rattle.std.proofs.lemmas.Option.{slice_get_past}
use Rattle.gptp_graph.specs.Snapshot.{Link}
use Rattle.gptp_lists.proofs.PlaceLemmas.{member_there}
use Rattle.gptp_world.specs.Used.{used_in}
use Rattle.gptp_world.proofs.UsedLemmas.{counted_more, counted_same, stands_here, used_all, used_before}
use Rattle.gptp_world.proofs.world_parts.WorldParts.used_at.Goals as goal
use Rattle.gptp_world.proofs.world_parts.WorldParts.used_at.Goals.{then-is_in_use+else-before-place, else-is_in_use}

pub returns-then-before-place : goal.returns-then-before-place
returns-then-before-place c =
    let parts = c.args.self.now in let link = c.loop-link.link in let test = c.loop-link-test.true in
    let all = c.links-link-end.ensures in
    let within : link < length parts.net.traffic.net.channels = omega arith in
    let (channel, here) = member_there parts.net.traffic.net.channels link within in
    let so_far = c.loop-link.invariant.is in let at = c.if-before-place.true in
    let same : length (used_before parts link) ≡ c.args.place = omega arith in
    c.used_link.ensures channel here
    ∙ sym (stands_here parts link channel here (sym (c.is_in_use.ensures channel here) ∙ c.if-is_in_use.true))
    ∙ ap (slice_get (used_in parts)) same

pub loop-link-preserved : goal.loop-link-preserved
loop-link-preserved c =
    let parts = c.args.self.now in let link = c.loop-link.link in let test = c.loop-link-test.true in
    let all = c.links-link-end.ensures in
    let within : link < length parts.net.traffic.net.channels = omega arith in
    let (channel, here) = member_there parts.net.traffic.net.channels link within in
    let so_far = c.loop-link.invariant.is in let few = c.loop-link.invariant.few in
    let sooner = c.loop-link.invariant.sooner in
    elim c.if-is_in_use.branch [
      | then-is_in_use+else-before-place w ↦
          let more = counted_more parts link channel here
          (sym (c.is_in_use.ensures channel here) ∙ w.if-is_in_use.true) in
          let is = w.before-is in let other = w.if-before-place.false in
          record { is = omega arith; few = omega arith; sooner = grind (arith, nat_tests) }
      | else-is_in_use w ↦
          let same = counted_same parts link channel here
          (sym (c.is_in_use.ensures channel here) ∙ w.if-is_in_use.false) in
          let is = w.before-is in
          record { is = omega arith; few = omega arith; sooner = omega arith }
    ]

pub returns : goal.returns
returns c =
    let parts = c.args.self.now in let link = c.loop-link.link in let test = c.loop-link-test.false in
    let all = c.links-link-end.ensures in
    let so_far = c.loop-link.invariant.is in let sooner = c.loop-link.invariant.sooner in
    let long = ap (λ (ls : List Link). length ls) (used_all parts link (omega arith)) in
    sym (slice_get_past (used_in parts) c.args.place (omega arith))
