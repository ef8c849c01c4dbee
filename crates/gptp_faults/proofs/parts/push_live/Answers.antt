use Rattle.std.proofs.Common.{◌+◌, subst, sym}
use Rattle.gptp_faults.specs.Parts.{ArePlacedBy}
use Rattle.gptp_faults.proofs.PlacedLemmas.{placed_more, placed_none}
use Rattle.gptp_faults.proofs.parts.push_live.Goals as goal

pub returns-in_ok-push_placed-clause-placed : goal.returns-in_ok-push_placed-clause-placed
returns-in_ok-push_placed-clause-placed c =
    let g = c.args.before.now in let h = c.args.after.now in let place = c.args.place in
    subst (ArePlacedBy g h (place + 1)) (sym c.in_ok-push_placed.ensures)
    (placed_more g h place c.in-Some.clock c.in_ok-one.one c.args.all.now.items c.requires (sym c.in-Some.ensures)
    c.in_ok-one.ensures.placed)

pub returns-in_default-clause-placed : goal.returns-in_default-clause-placed
returns-in_default-clause-placed c =
    placed_none c.args.before.now c.args.after.now c.args.place c.args.all.now.items c.requires
    (sym c.in_default.ensures)
