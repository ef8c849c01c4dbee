use Rattle.std.proofs.Common.{ℕ, refl, ap, sym, ◌∙◌, arith}
use Rattle.gptp_lists.proofs.PlaceLemmas.{map-set_same}
use Rattle.gptp_model.specs.World.{Net}
use Rattle.gptp_model.specs.Changing.{with_bounds}
use Rattle.gptp_traffic.specs.declared.joined_link.JoinedLink.{JoinedLink}
use Rattle.gptp_traffic.specs.Traffic.{net_of, TrafficState}
use Rattle.gptp_traffic.proofs.TrafficLemmas.{channel_is, joins-stay, lent_link, many-channels, net-replaced, traffic-replaced}
use Rattle.gptp_traffic.proofs.traffic.Traffic.set_bounds.Goals as goal

abbrev made : ℕ → ℕ → Net → TrafficState
made systems room net = record { systems = systems; net = net; room = room }

pub index_mut-requires : goal.index_mut-requires
index_mut-requires c =
    let t = c.self.inside in let many = many-channels t.pending.frames 0 t.links.items in let long = t.links.ok.0 in
    let within = rw (← c.self.view_is) at c.requires.link in omega (arith, many, long, within)

pub invariant_of-self : goal.invariant_of-self
invariant_of-self c =
    let t = c.self.inside in let one = c.index_mut.result.now in
    let there = lent_link t.pending.frames t.links.items c.args.link one (rw (← c.self.view_is) at c.requires.link)
    c.index_mut.ensures.value in
    traffic-replaced t.links.items t.pending c.args.link one _ there c.requires.fit
    c.self.invariant

pub returns-clause-bounds : goal.returns-clause-bounds
returns-clause-bounds c = λ channel here.
    let t = c.self.inside in let one = c.index_mut.result.now in
    let there = lent_link t.pending.frames t.links.items c.args.link one (rw (← c.self.view_is) at c.requires.link)
    c.index_mut.ensures.value in
    let is = channel_is t.pending.frames t.links.items c.args.link one channel there (rw (← c.self.view_is) at here) in
    rw (← c.self.view_is)
    (ap (made t.pending.systems t.pending.room)
    (net-replaced t.links.items t.pending c.args.link one (record one { bounds = c.args.bounds }) there
    ∙ ap (λ x. with_bounds c.args.bounds c.args.link x (net_of t.links.items t.pending)) (sym is)))

pub returns-clause-joins : goal.returns-clause-joins
returns-clause-joins c =
    let t = c.self.inside in let one = c.index_mut.result.now in
    let there = lent_link t.pending.frames t.links.items c.args.link one (rw (← c.self.view_is) at c.requires.link)
    c.index_mut.ensures.value in
    rw (← c.self.view_is)
    (joins-stay t.pending.frames t.pending.frames t.links.items _
    (map-set_same (λ (l : JoinedLink). l.join) t.links.items c.args.link one (record one { bounds = c.args.bounds }) there refl))
