use Rattle.std.proofs.Common.{ap, sym, ◌∙◌, arith}
use Rattle.std.specs.Option.{option_map}
use Rattle.gptp_links.specs.Queue.{first_frame, Frame}
use Rattle.gptp_traffic.proofs.TrafficLemmas.{many-channels, queue-is}
use Rattle.gptp_traffic.proofs.traffic.Traffic.next_due.Goals as goal

pub next_due-requires : goal.next_due-requires
next_due-requires c =
    let t = c.self.inside in let many = many-channels t.pending.frames 0 t.links.items in
    let links = c.self.invariant.links in
    let within = rw (← c.self.view_is) at c.requires in omega (arith, many, links, within)

pub returns : goal.returns
returns c = λ channel here.
    let t = c.self.inside in
    c.next_due.ensures
    ∙ ap (λ fs. option_map (λ (f : Frame). f.due) (first_frame fs))
    (sym (queue-is t.pending.frames t.links.items c.args.lane.link c.args.lane.direction channel
    (rw (← c.self.view_is) at here)))
