use Rattle.gptp_receipt.specs.Held.{comparison, held_after, reception}
use Rattle.gptp_system.proofs.PlaceLemmas.{number_is, change_is}
use Rattle.gptp_system.proofs.announcing.hear_at.Goals as goal

pub returns-clause-heard : goal.returns-clause-heard
returns-clause-heard c =
    let number = number_is c.args.held.now c.args.own.port c.index-held-from.result c.requires.least c.requires.most in
    rw number (rw c.from.ensures at c.hear.ensures.heard)

pub returns-clause-held : goal.returns-clause-held
returns-clause-held c =
    rw (c.hear.ensures.held, c.hear.ensures.heard, c.from.ensures)
    (change_is (λ h. held_after (comparison h c.args.own c.args.announce.now) h
    (reception c.args.announce.now c.args.own c.args.now)) c.args.held.now
    c.args.own.port c.index-held-from.result c.requires.least c.requires.most)
