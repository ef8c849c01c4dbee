use Rattle.std.proofs.Common.{Some, None, sym, ap, ◌∙◌, ◌++◌}
use Rattle.std.specs.Prelude.{string_bytes}
use Rattle.std.proofs.lemmas.Result.{on_ok_weaker}
use Rattle.gptp_words.specs.Lines.{text_of}
use Rattle.gptp_timeline.specs.Changes.{change_lines}
use Rattle.gptp_timeline.specs.Shown.{live_system}
use Rattle.gptp_timeline.specs.Watch.{taken, unless}
use Rattle.gptp_timeline.proofs.ComparedLemmas.{left_none}
use Rattle.gptp_timeline.proofs.LookLemmas.{sees_it, tells_it}
use Rattle.gptp_timeline.proofs.PlaceLemmas.{at_place}
use Rattle.gptp_timeline.proofs.ShownLemmas.{live_shown, none_shown}
use Rattle.gptp_timeline.proofs.watch.Watch.see_at.Goals as goal

pub returns-in-Some-clause-sees : goal.returns-in-Some-clause-sees
returns-in-Some-clause-sees g c =
    let o = c.args.self.now in let w = c.args.world.now.world_core in let s = c.in-Some.system.now in
    let (x, there) = at_place o.systems c.args.place c.requires in
    let live = ap (λ n. live_system n w) (sym (c.clock_at.ensures x there))
    ∙ live_shown c.clock_at.result w s c.well_formed-2.ensures.sound.wired.clocks c.in-Some.ensures.some in
    on_ok_weaker c.see_live.result
    (λ seen. seen x there ∙ sym (sees_it c.args.look w c.args.place x o there (Some s) live)) c.see_live.ensures.sees

pub returns-in-Some-clause-tells : goal.returns-in-Some-clause-tells
returns-in-Some-clause-tells g c =
    let o = c.args.self.now in let w = c.args.world.now.world_core in let s = c.in-Some.system.now in
    let (x, there) = at_place o.systems c.args.place c.requires in
    let live = ap (λ n. live_system n w) (sym (c.clock_at.ensures x there))
    ∙ live_shown c.clock_at.result w s c.well_formed-2.ensures.sound.wired.clocks c.in-Some.ensures.some in
    on_ok_weaker c.see_live.result
    (λ told. told x there ∙ ap (λ lines. string_bytes c.args.text.now ++ text_of lines)
    (sym (tells_it c.args.look w c.args.place x o there (Some s) live))) c.see_live.ensures.tells

pub returns-in-None-clause-sees : goal.returns-in-None-clause-sees
returns-in-None-clause-sees g c =
    let o = c.args.self.now in let w = c.args.world.now.world_core in
    let (x, there) = at_place o.systems c.args.place c.requires in
    let none = ap (λ n. live_system n w) (sym (c.clock_at.ensures x there))
    ∙ none_shown c.clock_at.result w c.in-None.ensures.none in
    on_ok_weaker c.see_left.result
    (λ seen. seen x there ∙ ap (λ s. taken c.args.look c.args.place x s o)
    (sym (left_none c.args.look.compared x.shown))
    ∙ sym (sees_it c.args.look w c.args.place x o there None none)) c.see_left.ensures.sees

pub returns-in-None-clause-tells : goal.returns-in-None-clause-tells
returns-in-None-clause-tells g c =
    let o = c.args.self.now in let w = c.args.world.now.world_core in
    let (x, there) = at_place o.systems c.args.place c.requires in
    let none = ap (λ n. live_system n w) (sym (c.clock_at.ensures x there))
    ∙ none_shown c.clock_at.result w c.in-None.ensures.none in
    on_ok_weaker c.see_left.result
    (λ told. told x there ∙ ap (λ lines. string_bytes c.args.text.now ++ text_of lines)
    (ap (λ s. unless o.summary (change_lines c.args.look.at x.clock x.shown s))
    (sym (left_none c.args.look.compared x.shown))
    ∙ sym (tells_it c.args.look w c.args.place x o there None none))) c.see_left.ensures.tells
