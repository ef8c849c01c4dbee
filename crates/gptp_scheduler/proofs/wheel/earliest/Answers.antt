use Rattle.std.proofs.Common.{refl, sym, ◌∙◌}
use Rattle.slab.specs.Slab.{get}
use Rattle.gptp_scheduler.specs.Chain.{ends_at}
use Rattle.gptp_scheduler.proofs.EarliestLemmas.{earliest-below, earliest-level, earliest-none, least-first, not-some, within-some}
use Rattle.gptp_scheduler.proofs.wheel.earliest.Goals as goal

pub returns-then-is_some-clause-earliest : goal.returns-then-is_some-clause-earliest
returns-then-is_some-clause-earliest g c =
    let wheel = c.requires.wheel in
    earliest-below (get c.args.nodes.now) wheel.0 c.args.slots.now wheel.1
    (rw c.get.ensures at (sym c.is_some.ensures ∙ c.if-is_some.true)) c.least_in.result c.least_in.ensures.least

pub returns-in_err-slot-clause-earliest : goal.returns-in_err-slot-clause-earliest
returns-in_err-slot-clause-earliest g c =
    let wheel = c.requires.wheel in
    rw c.from_residual.ensures
    (earliest-none (get c.args.nodes.now) wheel.0 c.args.slots.now wheel.1
    (not-some _ (rw c.get.ensures at (sym c.is_some.ensures ∙ c.if-is_some.false))) c.in_err-slot.ensures.empty)

pub returns-then-slot-lt-LEVEL_SLOTS-clause-earliest : goal.returns-then-slot-lt-LEVEL_SLOTS-clause-earliest
returns-then-slot-lt-LEVEL_SLOTS-clause-earliest g c =
    let wheel = c.requires.wheel in
    let none = not-some _ (rw c.get.ensures at (sym c.is_some.ensures ∙ c.if-is_some.false)) in
    let slot = c.in_ok-slot.slot in
    let filled = c.in_ok-slot.ensures in
    let first = (ends_at c.args.slots.now slot).first in
    rw c.get-then-slot-lt-LEVEL_SLOTS.ensures
    (earliest-level (get c.args.nodes.now) wheel.0 c.args.slots.now wheel.1 none slot filled.slot filled.filled
    filled.first first
    (least-first (get c.args.nodes.now) wheel.0 c.args.slots.now wheel.1 none slot c.if-slot-lt-LEVEL_SLOTS.true
    (within-some (get c.args.nodes.now) wheel.0 c.args.slots.now wheel.1 slot filled.filled) first refl))

pub returns-clause-earliest : goal.returns-clause-earliest
returns-clause-earliest g c =
    let wheel = c.requires.wheel in
    let none = not-some _ (rw c.get.ensures at (sym c.is_some.ensures ∙ c.if-is_some.false)) in
    let filled = c.in_ok-slot.ensures in
    earliest-level (get c.args.nodes.now) wheel.0 c.args.slots.now wheel.1 none c.in_ok-slot.slot filled.slot
    filled.filled filled.first c.least_in-2.result c.least_in-2.ensures.least
