use Rattle.std.proofs.Common.{ap, sym, arith}
use Rattle.gptp_model.specs.World.{Channel}
use Rattle.gptp_traffic.proofs.TrafficLemmas.{channel_is, lent_link, many-channels}
use Rattle.gptp_traffic.proofs.traffic.Traffic.is_up.Goals as goal

pub index-requires : goal.index-requires
index-requires c =
    let t = c.self.inside in let many = many-channels t.pending.frames 0 t.links.items in let long = t.links.ok.0 in
    let within = rw (← c.self.view_is) at c.requires in omega (arith, many, long, within)

pub returns : goal.returns
returns c = λ channel here.
    let t = c.self.inside in let one = c.index.result.now in
    let there = lent_link t.pending.frames t.links.items c.args.link one (rw (← c.self.view_is) at c.requires)
    c.index.ensures in
    ap (λ (x : Channel). x.up)
    (sym (channel_is t.pending.frames t.links.items c.args.link one channel there (rw (← c.self.view_is) at here)))
