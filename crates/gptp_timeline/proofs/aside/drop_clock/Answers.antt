use Rattle.std.proofs.Common.{◌==◌, ◌∙◌, not, rules, sym, ap}
use Rattle.std.proofs.lemmas.Fn.{filter_same}
use Rattle.gptp_timeline.specs.Aside.{without_clock}
use Rattle.gptp_timeline.proofs.aside.drop_clock.Goals as goal

pub returns-in-Some : goal.returns-in-Some
returns-in-Some c =
    let clocks = c.args.clocks.now.items in let name = c.in-Some.name in
    filter_same _ (λ clock. not (clock == name)) _ (λ x b f called. search rules) clocks c.retain.new.self.items
    c.retain.ensures.filtered
    ∙ ap (λ o. without_clock o clocks) (sym c.in-Some.is)
