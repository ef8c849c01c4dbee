use Rattle.std.proofs.Common.{◌∙◌, ℕ, List, Option, Some, IfSome, ap, set, sym, subst}
use Rattle.gptp_queue.specs.Order.{part_at, rest_of, IsOrdered, TakesLeast}
use Rattle.gptp_queue.specs.Slots.{slot_of, IsRing}
use Rattle.gptp_queue.specs.Entry.{Entry}
use Rattle.gptp_queue.proofs.RingLemmas.{near_taken, ring_taken, took_least}
use Rattle.gptp_queue.proofs.ring.Ring.take.Goals as goal

pub least_of-self-inside-requires : goal.least_of-self-inside-requires
least_of-self-inside-requires c =
    let r = c.self.inside in
    let time = ap (λ (e : Entry). e.time) c.first.view_is in
    rw (c.pop.ensures.queues, c.slot_of.ensures, time)
    (near_taken r.base r.slots.queues r.first c.unwrap-first.result c.self.invariant (sym c.get.ensures ∙ c.unwrap-first.ensures))

pub invariant_of-self : goal.invariant_of-self
invariant_of-self c =
    let r = c.self.inside in
    let same = c.pop.ensures.queues ∙ ap (λ (k : ℕ). set r.slots.queues k (rest_of (part_at r.slots.queues k))) c.slot_of.ensures in
    let P : List (List Entry) → Type 0 = λ qs. IsOrdered qs c.least_of-self-inside.result (slot_of c.least_of-self-inside.result) in
    let Q : List (List Entry) → Type 0 = λ qs. IsRing r.base qs c.least_of-self-inside.result in
    subst Q (sym same)
    (ring_taken r.base r.slots.queues r.first c.unwrap-first.result c.self.invariant (sym c.get.ensures ∙ c.unwrap-first.ensures)
    c.least_of-self-inside.result (subst P same c.least_of-self-inside.ensures))

pub returns : goal.returns
returns c =
    let r = c.self.inside in
    let F : Option Entry → Type 0 = λ o. IfSome o (λ d. TakesLeast r.slots.queues c.pop.new.self.queues d) in
    let took : F (Some c.unwrap-first.result) =
    rw (c.pop.ensures.queues, c.slot_of.ensures)
    (took_least r.base r.slots.queues r.first c.unwrap-first.result c.self.invariant (sym c.get.ensures ∙ c.unwrap-first.ensures)) in
    record { taken = rw (← c.self.view_is) (subst F (sym (sym c.get.ensures ∙ c.unwrap-first.ensures)) took) }
