use Rattle.std.proofs.Common.{◌≡◌, length, arith}
use Rattle.gptp_traffic.specs.PendingIndex.{no_item}
use Rattle.gptp_traffic.proofs.PendingIndexLemmas.{makes-item, makes-free}
use Rattle.gptp_traffic.proofs.pending.make_place.Goals as goal

pub returns-in_err-reserve-clause-made : goal.returns-in_err-reserve-clause-made
returns-in_err-reserve-clause-made c =
    let items = c.in_ok-push.ensures.items in let one = c.in_ok-push.ensures.len in let len = c.len.ensures in
    rw (c.reserve.ensures.items, items)
    (makes-item c.args.queue.now c.make_places.new.self c.args.items.now.items no_item c.args.free.now.items
    c.places_differ.ensures.known c.requires c.len.result (omega (arith, len, one)) c.in_ok-make_places.ensures.ok)

pub returns-in_err-push-2-clause-made : goal.returns-in_err-push-2-clause-made
returns-in_err-push-2-clause-made c =
    let items = c.in_ok-push.ensures.items in let one = c.in_ok-push.ensures.len in let len = c.len.ensures in
    let left = c.in_err-push-2.ensures.items in
    rw (left, c.reserve.ensures.items, items)
    (makes-item c.args.queue.now c.make_places.new.self c.args.items.now.items no_item c.args.free.now.items
    c.places_differ.ensures.known c.requires c.len.result (omega (arith, len, one)) c.in_ok-make_places.ensures.ok)

pub returns-clause-made : goal.returns-clause-made
returns-clause-made c =
    let items = c.in_ok-push.ensures.items in let one = c.in_ok-push.ensures.len in let len = c.len.ensures in
    let more = c.in_ok-push-2.ensures.items in
    let at = c.len-place.ensures in let place : c.len-place.result ≡ length c.args.items.now.items = omega (arith, at) in
    rw (more, c.reserve.ensures.items, items, place)
    (makes-free c.args.queue.now c.make_places.new.self c.args.items.now.items no_item c.args.free.now.items
    c.places_differ.ensures.known c.requires c.len.result (omega (arith, len, one)) c.in_ok-make_places.ensures.ok)
