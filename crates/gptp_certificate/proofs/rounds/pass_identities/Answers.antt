use Rattle.std.proofs.Common.{length, sym, subst}
use Rattle.gptp_certificate.specs.Rounds.{LinksAreWithin}
use Rattle.gptp_certificate.proofs.RoundLemmas.{came_next, ends_within, round_next}
use Rattle.gptp_certificate.proofs.rounds.pass_identities.Goals as goal

pub pass_identity-requires-clause-a : goal.pass_identity-requires-clause-a
pass_identity-requires-clause-a c =
    let long = c.loop-link.invariant.round.long in
    (ends_within (length c.loop-link.values.items) c.args.links.now c.loop-link.link-index
    (subst (λ n. LinksAreWithin n c.args.links.now) (sym long) c.requires) c.loop-link-test.true).0

pub pass_identity-requires-clause-b : goal.pass_identity-requires-clause-b
pass_identity-requires-clause-b c =
    let long = c.loop-link.invariant.round.long in
    (ends_within (length c.loop-link.values.items) c.args.links.now c.loop-link.link-index
    (subst (λ n. LinksAreWithin n c.args.links.now) (sym long) c.requires) c.loop-link-test.true).1

pub loop-link-preserved : goal.loop-link-preserved
loop-link-preserved c =
    let links = c.args.links.now in let first = c.args.values.now.items in
    let before = c.loop-link.values.items in let after = c.pass_identity.new.values.items in
    record {
      round = round_next 0 links c.loop-link.link-index first before after c.loop-link-test.true
          c.loop-link.invariant.round c.pass_identity.ensures;
      came = λ starts from. came_next 0 links c.loop-link.link-index starts first before after c.requires
          c.loop-link-test.true from c.pass_identity.ensures (c.loop-link.invariant.came starts from);
    }
