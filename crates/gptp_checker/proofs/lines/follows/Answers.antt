use Rattle.std.proofs.Common.{refl, arith, eq-eqb, ◌+◌}
use Rattle.std.proofs.lemmas.Bool.{eqb-true}
use Rattle.gptp_certificate_text.specs.Certificate.{parent_of}
use Rattle.gptp_checker.proofs.StatedLemmas.{follows_by, follows_nothing}
use Rattle.gptp_checker.proofs.lines.follows.Goals as goal

pub returns-in-Some : goal.returns-in-Some
returns-in-Some c =
    follows_by c.args.snapshot.now c.args.certificate.now.lines c.args.own.clock c.args.steps c.in-Some.there
    (parent_of (c.args.own.port, c.args.parent)) _ (c.if-not-joins.ensures.0 refl) c.in-Some.ensures.some
    c.in-Some.ensures.only (
      (λ t. let e = eqb-true (c.from.result + 1) c.from-in-Some.result t in omega arith),
      (λ e. eq-eqb (c.from.result + 1) c.from-in-Some.result (omega arith)),
    )

pub returns-in-None : goal.returns-in-None
returns-in-None c = (
  (λ t. absurd cc),
  follows_nothing c.args.snapshot.now c.args.certificate.now.lines c.args.own.clock c.args.steps
      (parent_of (c.args.own.port, c.args.parent)) c.in-None.ensures.only,
)
