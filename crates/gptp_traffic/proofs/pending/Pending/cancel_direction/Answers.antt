use Rattle.std.proofs.Common.{[], drop, slice_set, refl, sym, ap, ◌∙◌, arith}
use Rattle.gptp_model.specs.declared.item.Item.TheVariants.{Arrival}
use Rattle.gptp_model.specs.Pending.{arrival_place, without}
use Rattle.gptp_model.proofs.PendingLemmas.{without-first, without-none, without_first-none}
use Rattle.gptp_traffic.specs.Pending.{PendingView}
use Rattle.gptp_traffic.proofs.PendingLemmas.{same_state, set-again}
use Rattle.gptp_traffic.proofs.QueueLemmas.{if_none}
use Rattle.gptp_traffic.proofs.pending.Pending.cancel_direction.Goals as goal

pub loop-preserved : goal.loop-preserved
loop-preserved c =
    let item = Arrival c.args.link c.args.direction in let lane = arrival_place c.args.link c.args.direction in
    let so_far = c.loop.invariant in
    let took = c.take_arrival.ensures in
    record {
      systems = ap (λ (p : PendingView). p.systems) took.kept ∙ so_far.systems;
      links = ap (λ (p : PendingView). p.links) took.kept ∙ so_far.links;
      entries = ap (λ (p : PendingView). without item p.entries) took.kept
          ∙ without-first item c.loop.self.entries
          ∙ so_far.entries;
      frames = ap (λ (p : PendingView). slice_set p.frames lane []) took.kept
          ∙ set-again c.loop.self.frames lane _ [] ∙ so_far.frames;
      room = omega (arith, took.room, so_far.room);
    }

pub returns-clause-kept : goal.returns-clause-kept
returns-clause-kept c =
    let item = Arrival c.args.link c.args.direction in let lane = arrival_place c.args.link c.args.direction in
    let so_far = c.loop.invariant in
    let took = c.take_arrival.ensures in
    let over = sym c.is_some.ensures ∙ c.if-is_some.false in
    let none = if_none c.take_arrival.result _ over took.none in
    let no_frame = if_none c.take_arrival.result _ over took.no_frame in
    same_state _ _ (ap (λ (p : PendingView). p.systems) took.kept ∙ so_far.systems)
    (ap (λ (p : PendingView). p.links) took.kept ∙ so_far.links)
    (ap (λ (p : PendingView). p.entries) took.kept ∙ without_first-none item c.loop.self.entries none
    ∙ sym (without-none item c.loop.self.entries none) ∙ so_far.entries)
    (ap (λ (p : PendingView). p.frames) took.kept
    ∙ ap (λ fs. slice_set c.loop.self.frames lane (drop 1 fs)) no_frame ∙ so_far.frames)
    refl
