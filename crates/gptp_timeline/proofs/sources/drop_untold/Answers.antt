use Rattle.std.proofs.Common.{◌∙◌, filter, if◌then◌else◌, not, rules, sym, ap}
use Rattle.std.proofs.lemmas.Fn.{filter_same}
use Rattle.gptp_timeline.specs.Readings.{same_source}
use Rattle.gptp_timeline.proofs.sources.drop_untold.Goals as goal

pub returns : goal.returns
returns c =
    let ss = c.args.sources.now.items in let source = c.args.source in
    filter_same _ (λ other. not (same_source other source)) _ (λ x b f called. search rules) ss c.retain.new.self.items
    c.retain.ensures.filtered
    ∙ sym (ap (λ told. if told then ss else filter (λ other. not (same_source other source)) ss)
    (sym c.is_told.ensures ∙ c.if-is_told.false))
