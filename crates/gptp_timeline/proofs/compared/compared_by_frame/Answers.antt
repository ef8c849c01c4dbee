use Rattle.std.proofs.Common.{refl, ap, sym, ◌∙◌}
use Rattle.gptp_model.proofs.CarriedLemmas.{type_none, type_there}
use Rattle.gptp_timeline.specs.Compared.{compared_by_type}
use Rattle.gptp_timeline.proofs.compared.compared_by_frame.Goals as goal

pub returns-in-Some : goal.returns-in-Some
returns-in-Some c =
    let first = type_there c.args.frame.now.items c.in-Some.number (sym c.message_type.ensures ∙ c.in-Some.is) in
    rw first.2 (c.compared_by_type.ensures ∙ ap (compared_by_type c.args.port) (sym first.3))

pub returns-in-None : goal.returns-in-None
returns-in-None c = rw (type_none c.args.frame.now.items (sym c.message_type.ensures ∙ c.in-None.is)) refl
