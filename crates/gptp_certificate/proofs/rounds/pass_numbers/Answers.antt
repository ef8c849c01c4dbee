use Rattle.std.proofs.Common.{length, sym, subst}
use Rattle.gptp_certificate.specs.Rounds.{LinksAreWithin}
use Rattle.gptp_certificate.proofs.RoundLemmas.{came_next, ends_within, round_next}
use Rattle.gptp_certificate.proofs.rounds.pass_numbers.Goals as goal

pub pass_number-requires-clause-a : goal.pass_number-requires-clause-a
pass_number-requires-clause-a c =
    let long = c.loop-link.invariant.round.long in
    (ends_within (length c.loop-link.values.items) c.args.links.now c.loop-link.link-index
    (subst (λ n. LinksAreWithin n c.args.links.now) (sym long) c.requires) c.loop-link-test.true).0

pub pass_number-requires-clause-b : goal.pass_number-requires-clause-b
pass_number-requires-clause-b c =
    let long = c.loop-link.invariant.round.long in
    (ends_within (length c.loop-link.values.items) c.args.links.now c.loop-link.link-index
    (subst (λ n. LinksAreWithin n c.args.links.now) (sym long) c.requires) c.loop-link-test.true).1

pub loop-link-preserved : goal.loop-link-preserved
loop-link-preserved c =
    let links = c.args.links.now in let first = c.args.values.now.items in
    let before = c.loop-link.values.items in let after = c.pass_number.new.values.items in
    record {
      round = round_next 1 links c.loop-link.link-index first before after c.loop-link-test.true
          c.loop-link.invariant.round c.pass_number.ensures;
      came = λ starts from. came_next 1 links c.loop-link.link-index starts first before after c.requires
          c.loop-link-test.true from c.pass_number.ensures (c.loop-link.invariant.came starts from);
    }
