use Rattle.std.proofs.Common.{◌++◌, [], inl, inr, ap, ◌∙◌, refl, subst}
use Rattle.std.specs.Io.KnownBytes.{Appends}
use Rattle.std.specs.Prelude.{string_bytes}
use Rattle.gptp_sink.specs.Sink.{AppendsSome}
use Rattle.gptp_sink.proofs.SinkLemmas.{all_of, front_of, none_of}
use Rattle.gptp_words.specs.Lines.{text_of}
use Rattle.gptp_timeline.specs.Watch.{see_act, see_times, seen_lines, times_lines_if, WatchState}
use Rattle.gptp_timeline.proofs.AccountLemmas.{act_times}
use Rattle.gptp_timeline.proofs.LineLemmas.{lines_on}
use Rattle.gptp_timeline.proofs.PassLemmas.{appended_text}
use Rattle.gptp_timeline.proofs.watch.WatchObserver.observe.Goals as goal

pub returns-then-passes_over-clause-some : goal.returns-then-passes_over-clause-some
returns-then-passes_over-clause-some g c =
    let old = g.K.Sink.written c.args.sink.now in
    (c.args.self.now, ([], inr (c.passes_over.ensures c.if-passes_over.true, refl, refl), none_of old []))

pub returns-in_err-see-clause-some : goal.returns-in_err-see-clause-some
returns-in_err-see-clause-some g c =
    let o = c.args.self.now in let at = c.args.timed.now.at in let act = c.args.timed.now.act in
    let done = c.args.done.now in let w = c.args.world.now.world_core in
    let lines = seen_lines at act done w o ++ times_lines_if at act done w o.times in
    let old = g.K.Sink.written c.args.sink.now in
    (see_times at act done w (see_act at act done w o), (lines, inl (refl, refl), none_of old (text_of lines)))

pub returns-in_err-see_times-clause-some : goal.returns-in_err-see_times-clause-some
returns-in_err-see_times-clause-some g c =
    let o = c.args.self.now in let at = c.args.timed.now.at in let act = c.args.timed.now.act in
    let done = c.args.done.now in let w = c.args.world.now.world_core in
    let lines = seen_lines at act done w o ++ times_lines_if at act done w o.times in
    let old = g.K.Sink.written c.args.sink.now in
    (see_times at act done w (see_act at act done w o), (lines, inl (refl, refl), none_of old (text_of lines)))

pub returns-in_err-write_whole-clause-some : goal.returns-in_err-write_whole-clause-some
returns-in_err-write_whole-clause-some g c =
    let o = c.args.self.now in let at = c.args.timed.now.at in let act = c.args.timed.now.act in
    let done = c.args.done.now in let w = c.args.world.now.world_core in
    let told = seen_lines at act done w o in let read = times_lines_if at act done w o.times in
    let same = ap (λ (v : WatchState). times_lines_if at act done w v.times) c.in_ok-see.ensures.sees
    ∙ ap (times_lines_if at act done w) (act_times at act done w o) in
    let text = appended_text _ _ c.as_bytes.result.now (text_of (told ++ read)) c.new-text.ensures.bytes
    (lines_on _ _ _ told read c.in_ok-see.ensures.tells
    (c.in_ok-see_times.ensures.tells ∙ ap (λ ls. string_bytes c.see.new.text ++ text_of ls) same))
    c.as_bytes.ensures.value in
    let old = g.K.Sink.written c.args.sink.now in let new = g.K.Sink.written c.write_whole.new.sink in (
      see_times at act done w (see_act at act done w o),
      (
        told ++ read,
        inl (refl, refl),
        subst (AppendsSome old new) text (front_of old new c.as_bytes.result.now c.in_err-write_whole.ensures.front),
      ),
    )

pub returns-clause-some : goal.returns-clause-some
returns-clause-some g c =
    let o = c.args.self.now in let at = c.args.timed.now.at in let act = c.args.timed.now.act in
    let done = c.args.done.now in let w = c.args.world.now.world_core in
    let told = seen_lines at act done w o in let read = times_lines_if at act done w o.times in
    let same = ap (λ (v : WatchState). times_lines_if at act done w v.times) c.in_ok-see.ensures.sees
    ∙ ap (times_lines_if at act done w) (act_times at act done w o) in
    let text = appended_text _ _ c.as_bytes.result.now (text_of (told ++ read)) c.new-text.ensures.bytes
    (lines_on _ _ _ told read c.in_ok-see.ensures.tells
    (c.in_ok-see_times.ensures.tells ∙ ap (λ ls. string_bytes c.see.new.text ++ text_of ls) same))
    c.as_bytes.ensures.value in
    let old = g.K.Sink.written c.args.sink.now in let new = g.K.Sink.written c.write_whole.new.sink in (
      see_times at act done w (see_act at act done w o),
      (
        told ++ read,
        inl (refl, refl),
        subst (AppendsSome old new) text (all_of old new c.as_bytes.result.now c.in_ok-write_whole.ensures.whole),
      ),
    )

pub returns-clause-whole : goal.returns-clause-whole
returns-clause-whole g c =
    let o = c.args.self.now in let at = c.args.timed.now.at in let act = c.args.timed.now.act in
    let done = c.args.done.now in let w = c.args.world.now.world_core in
    let told = seen_lines at act done w o in let read = times_lines_if at act done w o.times in
    let same = ap (λ (v : WatchState). times_lines_if at act done w v.times) c.in_ok-see.ensures.sees
    ∙ ap (times_lines_if at act done w) (act_times at act done w o) in
    let text = appended_text _ _ c.as_bytes.result.now (text_of (told ++ read)) c.new-text.ensures.bytes
    (lines_on _ _ _ told read c.in_ok-see.ensures.tells
    (c.in_ok-see_times.ensures.tells ∙ ap (λ ls. string_bytes c.see.new.text ++ text_of ls) same))
    c.as_bytes.ensures.value in
    let old = g.K.Sink.written c.args.sink.now in let new = g.K.Sink.written c.write_whole.new.sink in (
      told ++ read,
      inl (c.in_ok-see_times.ensures.sees ∙ ap (see_times at act done w) c.in_ok-see.ensures.sees, refl),
      subst (Appends old new) text c.in_ok-write_whole.ensures.whole,
    )
