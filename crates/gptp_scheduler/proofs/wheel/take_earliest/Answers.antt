use Rattle.std.proofs.Common.{◌≡◌, Some, sym, ap, ◌∙◌, option_copied}
use Rattle.slab.specs.Slab.{get}
use Rattle.gptp_scheduler.proofs.WheelLemmas.{earliest-left, earliest-stands}
use Rattle.gptp_scheduler.proofs.wheel.take_earliest.Goals as goal

pub take-taken-requires-clause-stands : goal.take-taken-requires-clause-stands
take-taken-requires-clause-stands g c =
    earliest-stands (get c.args.nodes.now) c.args.base.now c.args.slots.now c.requires.wheel c.args.key.place
    c.requires.earliest

pub move_base-requires : goal.move_base-requires
move_base-requires g c =
    let nodes = get c.args.nodes.now in
    let e = c.unwrap-node.result.now in
    let found : nodes c.args.key.place ≡ Some e = sym c.get.ensures ∙ ap option_copied c.unwrap-node.ensures in
    let taken = c.take-taken.ensures in record {
      left = earliest-left nodes c.args.base.now c.args.slots.now c.requires.wheel c.args.key.place c.requires.earliest
          (get c.take-taken.new.nodes) c.take-taken.new.slots e _ found taken.takes
          (taken.wheel c.args.base.now c.requires.wheel) taken.chains;
    }
