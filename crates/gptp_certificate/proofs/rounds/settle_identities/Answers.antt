use Rattle.gptp_certificate.proofs.RoundLemmas.{came_at_first, come_at_first, come_more}
use Rattle.gptp_certificate.proofs.rounds.settle_identities.Goals as goal

pub loop-round-init : goal.loop-round-init
loop-round-init c =
    let links = c.args.links.now in let starts = c.args.values.now.items in
    record { came = came_at_first 0 links starts; all = come_at_first 0 links starts }

pub loop-round-preserved : goal.loop-round-preserved
loop-round-preserved c =
    let links = c.args.links.now in let starts = c.args.values.now.items in
    record {
      came = c.pass_identities.ensures.came starts c.loop-round.invariant.came;
      all = come_more 0 links starts c.loop-round.round c.loop-round.values.items c.pass_identities.new.values.items
          c.loop-round.invariant.all c.pass_identities.ensures.round;
    }
