use Rattle.std.proofs.Common.{◌++◌, append-nil, ap, sym, ◌∙◌}
use Rattle.std.specs.Prelude.{string_bytes}
use Rattle.gptp_words.specs.Lines.{text_of}
use Rattle.gptp_timeline.specs.TimeWatch.{reading_lines, times_with}
use Rattle.gptp_timeline.proofs.NewReadingLemmas.{none_given}
use Rattle.gptp_timeline.proofs.time_watch.TimeWatch.see_act.Goals as goal

pub returns-in-false-clause-sees : goal.returns-in-false-clause-sees
returns-in-false-clause-sees g c =
    let at = c.args.timed.now.at in let act = c.args.timed.now.act in let done = c.args.done.now in
    let w = c.args.world.now.world_core in let o = c.args.self.now in
    c.take_none.ensures
    ∙ sym (ap (λ u. times_with at w act u o)
    (none_given act done w o.systems (sym c.can_give_reading.ensures ∙ c.in-false.is)))

pub returns-in-false-clause-tells : goal.returns-in-false-clause-tells
returns-in-false-clause-tells g c =
    let at = c.args.timed.now.at in let act = c.args.timed.now.act in let done = c.args.done.now in
    let w = c.args.world.now.world_core in let o = c.args.self.now in
    sym (append-nil (string_bytes c.args.text.now))
    ∙ sym (ap (λ u. string_bytes c.args.text.now ++ text_of (reading_lines o.told at w u))
    (none_given act done w o.systems (sym c.can_give_reading.ensures ∙ c.in-false.is)))
