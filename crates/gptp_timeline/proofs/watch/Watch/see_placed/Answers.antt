use Rattle.std.proofs.Common.{◌++◌, ◌<◌, Some, length, sym, subst, ap, ◌∙◌}
use Rattle.std.specs.Prelude.{string_bytes}
use Rattle.std.proofs.lemmas.Result.{on_ok_weaker}
use Rattle.gptp_words.specs.Lines.{text_of}
use Rattle.gptp_timeline.specs.Changes.{change_lines}
use Rattle.gptp_timeline.specs.Compared.{left_by}
use Rattle.gptp_timeline.specs.Watch.{own_look, taken, unless, WatchState}
use Rattle.gptp_timeline.proofs.ComparedLemmas.{left_none}
use Rattle.gptp_timeline.proofs.LookLemmas.{sees_none_placed, sees_placed, taken_count, tells_none_placed, tells_placed}
use Rattle.gptp_timeline.proofs.PlaceLemmas.{at_place}
use Rattle.gptp_timeline.proofs.ShownLemmas.{live_shown, none_shown}
use Rattle.gptp_timeline.proofs.watch.Watch.see_placed.Goals as goal

pub see_receipt_if-requires-clause-place : goal.see_receipt_if-requires-clause-place
see_receipt_if-requires-clause-place g c =
    let o = c.args.self.now in let place = c.args.place in
    let (x, there) = at_place o.systems place c.requires.place in
    let seen = c.in_ok-see_live-in-Some.ensures.sees x there in
    subst (λ n. place < n) (sym (ap (λ (v : WatchState). length v.systems) seen
    ∙ taken_count (own_look c.args.at c.args.received c.args.compared) place x
    (left_by c.args.compared (Some c.in-Some.system.now) x.shown) o))
    c.requires.place

pub returns-in_ok-see_live-in-Some-clause-sees : goal.returns-in_ok-see_live-in-Some-clause-sees
returns-in_ok-see_live-in-Some-clause-sees g c =
    let o = c.args.self.now in let w = c.args.world.now.world_core in let s = c.in-Some.system.now in
    let (x, there) = at_place o.systems c.args.place c.requires.place in
    let live = live_shown c.args.clock w s c.well_formed-2.ensures.sound.wired.clocks c.in-Some.ensures.some in
    on_ok_weaker c.see_receipt_if.result
    (sees_placed c.args.at w c.args.clock c.args.received c.args.compared c.args.place x o there
    (c.requires.named x there) s live c.see_live.new.self (c.in_ok-see_live-in-Some.ensures.sees x there)
    c.see_receipt_if.new.self) c.see_receipt_if.ensures.sees

pub returns-in_ok-see_live-in-Some-clause-tells : goal.returns-in_ok-see_live-in-Some-clause-tells
returns-in_ok-see_live-in-Some-clause-tells g c =
    let o = c.args.self.now in let w = c.args.world.now.world_core in let s = c.in-Some.system.now in
    let (x, there) = at_place o.systems c.args.place c.requires.place in
    let live = live_shown c.args.clock w s c.well_formed-2.ensures.sound.wired.clocks c.in-Some.ensures.some in
    on_ok_weaker c.see_receipt_if.result
    (tells_placed c.args.at w c.args.clock c.args.received c.args.compared c.args.place x o there
    (c.requires.named x there) s live c.see_live.new.self (c.in_ok-see_live-in-Some.ensures.sees x there)
    (string_bytes c.args.text.now) (string_bytes c.see_live.new.text) (string_bytes c.see_receipt_if.new.text)
    (c.in_ok-see_live-in-Some.ensures.tells x there))
    c.see_receipt_if.ensures.tells

pub returns-in-None-clause-sees : goal.returns-in-None-clause-sees
returns-in-None-clause-sees g c =
    let o = c.args.self.now in let w = c.args.world.now.world_core in
    let (x, there) = at_place o.systems c.args.place c.requires.place in
    on_ok_weaker c.see_left.result
    (λ seen. sees_none_placed c.args.at w c.args.clock c.args.received c.args.compared c.args.place x o there
    (c.requires.named x there) (none_shown c.args.clock w c.in-None.ensures.none) c.see_left.new.self (seen x there
    ∙ ap (λ s. taken (own_look c.args.at c.args.received c.args.compared) c.args.place x s o)
    (sym (left_none c.args.compared x.shown)))) c.see_left.ensures.sees

pub returns-in-None-clause-tells : goal.returns-in-None-clause-tells
returns-in-None-clause-tells g c =
    let o = c.args.self.now in let w = c.args.world.now.world_core in
    let (x, there) = at_place o.systems c.args.place c.requires.place in
    on_ok_weaker c.see_left.result
    (λ told. tells_none_placed c.args.at w c.args.clock c.args.received c.args.compared c.args.place x o there
    (c.requires.named x there) (none_shown c.args.clock w c.in-None.ensures.none) (string_bytes c.args.text.now)
    (string_bytes c.see_left.new.text) (told x there
    ∙ ap (λ s. string_bytes c.args.text.now ++ text_of (unless o.summary (change_lines c.args.at x.clock x.shown s)))
    (sym (left_none c.args.compared x.shown)))) c.see_left.ensures.tells
