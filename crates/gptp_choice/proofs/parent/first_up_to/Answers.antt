use Rattle.std.proofs.Common.{◌∙◌, option_map, sym}
use Rattle.gptp_certificate_text.specs.Certificate.{parent_of}
use Rattle.gptp_choice.proofs.ParentLemmas.{way_added, way_passed}
use Rattle.gptp_choice.proofs.parent.first_up_to.Goals as goal

pub returns-in-Some : goal.returns-in-Some
returns-in-Some c = λ k port before.
    way_added c.args.snapshot.now c.well_formed-2.ensures.network c.args.own.clock k (option_map parent_of c.args.best)
    (parent_of (c.args.own.port, c.in-Some.there)) (parent_of c.first_of.result) port c.in-Some.ensures.some
    c.first_of.ensures before

pub returns-in-None : goal.returns-in-None
returns-in-None c = λ k port before.
    way_passed c.args.snapshot.now c.well_formed-2.ensures.network c.args.own.clock k (option_map parent_of c.args.best)
    (λ l own leads. c.in-None.ensures.none l (own ∙ sym port) leads) before
