use Rattle.std.proofs.Common.{refl, sym, ◌∙◌}
use Rattle.gptp_model.proofs.CarriedLemmas.{type_none, type_there}
use Rattle.gptp_timeline.proofs.receipts.is_follow_up.Goals as goal

pub returns-in-Some : goal.returns-in-Some
returns-in-Some c =
    let first = type_there c.args.frame.now.items c.in-Some.number (sym c.message_type.ensures ∙ c.in-Some.is) in
    rw (first.2, first.3) refl

pub returns-in-None : goal.returns-in-None
returns-in-None c = rw (type_none c.args.frame.now.items (sym c.message_type.ensures ∙ c.in-None.is)) refl
