use Rattle.gptp_certificate.proofs.RoundLemmas.{came_at_first, come_at_first, come_more}
use Rattle.gptp_certificate.proofs.rounds.settle_numbers.Goals as goal

pub loop-round-init : goal.loop-round-init
loop-round-init c =
    let links = c.args.links.now in let starts = c.args.values.now.items in
    record { came = came_at_first 1 links starts; all = come_at_first 1 links starts }

pub loop-round-preserved : goal.loop-round-preserved
loop-round-preserved c =
    let links = c.args.links.now in let starts = c.args.values.now.items in
    record {
      came = c.pass_numbers.ensures.came starts c.loop-round.invariant.came;
      all = come_more 1 links starts c.loop-round.round c.loop-round.values.items c.pass_numbers.new.values.items
          c.loop-round.invariant.all c.pass_numbers.ensures.round;
    }
