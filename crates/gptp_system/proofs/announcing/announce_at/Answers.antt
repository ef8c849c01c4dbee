use Rattle.std.proofs.Common.{refl}
use Rattle.gptp_system.specs.Selection.{announced_again}
use Rattle.gptp_system.proofs.PlaceLemmas.{number_is, change_is}
use Rattle.gptp_system.proofs.announcing.announce_at.Goals as goal

pub returns-clause-ports : goal.returns-clause-ports
returns-clause-ports c =
    rw (c.announce.ensures.port, c.from.ensures)
    (change_is (announced_again c.args.now) c.args.ports.now c.args.own.port c.index-ports-from.result c.requires.least
    c.requires.most)

pub returns-clause-sends : goal.returns-clause-sends
returns-clause-sends c =
    let number = number_is c.args.ports.now c.args.own.port c.index-ports-from.result c.requires.least
    c.requires.most in
    rw (number, c.announce.ensures.sends, c.requires.empty, c.from.ensures) refl
