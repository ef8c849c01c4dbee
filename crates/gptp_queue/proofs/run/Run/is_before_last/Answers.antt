use Rattle.std.proofs.Common.{◌∙◌, ◌<◌, true, length, sym, refl, arith}
use Rattle.gptp_queue.proofs.OrderLemmas.{rise_after}
use Rattle.gptp_queue.proofs.run.Run.is_before_last.Goals as goal

pub returns-in-Some : goal.returns-in-Some
returns-in-Some c = λ h.
    let r = c.self.inside in let back = c.in-Some.ensures in
    let len = r.rest.ok.0 in
    let some : 0 < length r.rest.items = omega (arith, len, back.variant.0 (refl {a = true})) in
    rw (← c.self.view_is)
    (rise_after r.first r.rest.items c.in-Some.last.now c.args.entry.now c.self.invariant some (rw len at back.lookup)
    (sym c.is_before.ensures ∙ h))
