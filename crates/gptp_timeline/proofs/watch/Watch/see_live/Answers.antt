use Rattle.std.proofs.Common.{◌++◌, sym, ap, ◌∙◌, append-nil}
use Rattle.std.specs.Prelude.{string_bytes}
use Rattle.gptp_words.specs.Lines.{text_of}
use Rattle.gptp_timeline.specs.Changes.{change_lines}
use Rattle.gptp_timeline.specs.Watch.{taken, unless}
use Rattle.gptp_timeline.proofs.SameLemmas.{no_change_lines}
use Rattle.gptp_timeline.proofs.StillLemmas.{none_left}
use Rattle.gptp_timeline.proofs.watch.Watch.see_live.Goals as goal

pub returns-then-shows_at-clause-sees : goal.returns-then-shows_at-clause-sees
returns-then-shows_at-clause-sees c = λ x there.
    c.take_same.ensures x there
    ∙ ap (λ s. taken c.args.look c.args.place x s c.args.self.now)
    (sym (c.shows_at.ensures.same c.if-shows_at.true x there))

pub returns-then-shows_at-clause-tells : goal.returns-then-shows_at-clause-tells
returns-then-shows_at-clause-tells c = λ x there.
    let o = c.args.self.now in let at = c.args.look.at in let text = string_bytes c.args.text.now in
    sym (append-nil text)
    ∙ ap (λ lines. text ++ text_of lines) (sym (none_left o.summary))
    ∙ ap (λ lines. text ++ text_of (unless o.summary lines)) (sym (no_change_lines at x.clock x.shown))
    ∙ ap (λ s. text ++ text_of (unless o.summary (change_lines at x.clock x.shown s)))
    (sym (c.shows_at.ensures.same c.if-shows_at.true x there))
