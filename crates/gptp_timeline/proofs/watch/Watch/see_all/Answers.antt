use Rattle.std.proofs.Common.{◌≡◌, ◌-◌, ◌<◌, length, refl, sym, ap, subst, ◌∙◌, arith}
use Rattle.std.specs.List.{range_with_len}
use Rattle.std.specs.Prelude.{string_bytes}
use Rattle.std.proofs.lemmas.Grind.{common_steps}
use Rattle.gptp_timeline.specs.Watch.{lines_all, lines_each, see_all, see_each, WatchState}
use Rattle.gptp_timeline.proofs.EachLemmas.{same_count, sees_more, tells_more}
use Rattle.gptp_timeline.proofs.LineLemmas.{written_none, WrittenSoFar}
use Rattle.gptp_timeline.proofs.watch.Watch.see_all.Goals as goal

pub loop-place-init : goal.loop-place-init
loop-place-init g c =
    let o = c.args.self.now in let look = c.args.look in let w = c.args.world.now.world_core in
    let text = string_bytes c.args.text.now in
    let whole : length o.systems - 0 ≡ length o.systems = omega arith in
    record {
      count = refl;
      sees = ap (λ k. see_each look w (range_with_len 0 k) o) whole;
      tells = subst (λ k. WrittenSoFar (lines_all look w o) (lines_each look w (range_with_len 0 k) o) text text)
          (sym whole) (written_none (lines_all look w o) text);
    }

pub loop-place-preserved : goal.loop-place-preserved
loop-place-preserved g c =
    let o = c.args.self.now in let look = c.args.look in let w = c.args.world.now.world_core in
    let place = c.loop-place.place in let so_far = c.loop-place.invariant in
    let is = c.in_ok-see_at.ensures.sees in
    let below : place < length o.systems = grind (arith, common_steps) in
    record {
      count = ap (λ (v : WatchState). length v.systems) is ∙ same_count look w place c.loop-place.self ∙ so_far.count;
      sees = sees_more look w (lines_all look w o) place (length o.systems) below c.loop-place.self c.see_at.new.self is
          (see_all look w o) so_far.sees;
      tells = tells_more look w (lines_all look w o) place (length o.systems) below c.loop-place.self
          c.see_at.new.self is (string_bytes c.args.text.now) (string_bytes c.loop-place.text)
          (string_bytes c.see_at.new.text) so_far.tells c.in_ok-see_at.ensures.tells;
    }
