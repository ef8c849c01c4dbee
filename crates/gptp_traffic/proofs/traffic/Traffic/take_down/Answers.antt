use Rattle.std.proofs.Common.{false, refl, ap, sym, ◌∙◌, arith}
use Rattle.gptp_lists.proofs.PlaceLemmas.{map-set_same}
use Rattle.gptp_model.specs.Changing.{taken_down}
use Rattle.gptp_traffic.specs.declared.joined_link.JoinedLink.{JoinedLink}
use Rattle.gptp_traffic.specs.Pending.{PendingView}
use Rattle.gptp_traffic.specs.Traffic.{net_of}
use Rattle.gptp_traffic.proofs.TrafficLemmas.{channel_is, joins-stay, lent_link, many-channels, net-lost, traffic-replaced}
use Rattle.gptp_traffic.proofs.traffic.Traffic.take_down.Goals as goal

pub index_mut-requires : goal.index_mut-requires
index_mut-requires c =
    let t = c.self.inside in let many = many-channels t.pending.frames 0 t.links.items in let long = t.links.ok.0 in
    let within = rw (← c.self.view_is) at c.requires in omega (arith, many, long, within)

pub cancel_arrivals-requires : goal.cancel_arrivals-requires
cancel_arrivals-requires c =
    let t = c.self.inside in let many = many-channels t.pending.frames 0 t.links.items in
    let links = c.self.invariant.links in
    let within = rw (← c.self.view_is) at c.requires in omega (arith, many, links, within)

pub invariant_of-self : goal.invariant_of-self
invariant_of-self c =
    let t = c.self.inside in let one = c.index_mut.result.now in
    let there = lent_link t.pending.frames t.links.items c.args.link one (rw (← c.self.view_is) at c.requires)
    c.index_mut.ensures.value in
    rw c.cancel_arrivals.ensures.kept
    (traffic-replaced t.links.items _ c.args.link one _ there (c.self.invariant.fit c.args.link one there)
    (record { links = c.self.invariant.links; fit = c.self.invariant.fit }))

pub returns-clause-down : goal.returns-clause-down
returns-clause-down c = λ channel here.
    let t = c.self.inside in let one = c.index_mut.result.now in
    let many = many-channels t.pending.frames 0 t.links.items in let links = c.self.invariant.links in
    let within = rw (← c.self.view_is) at c.requires in
    let there = lent_link t.pending.frames t.links.items c.args.link one within c.index_mut.ensures.value in
    let is = channel_is t.pending.frames t.links.items c.args.link one channel there (rw (← c.self.view_is) at here) in
    let kept = c.cancel_arrivals.ensures.kept in
    rw (← c.self.view_is)
    (net-lost t.links.items t.pending c.args.link one (record one { up = false }) there c.cancel_arrivals.new.self _
    c.lanes_are_listed.ensures (omega (arith, many, links, within))
    (ap (λ (p : PendingView). p.entries) kept) (ap (λ (p : PendingView). p.frames) kept)
    ∙ ap (λ x. taken_down c.args.link x (net_of t.links.items t.pending)) (sym is))

pub returns-clause-joins : goal.returns-clause-joins
returns-clause-joins c =
    let t = c.self.inside in let one = c.index_mut.result.now in
    let there = lent_link t.pending.frames t.links.items c.args.link one (rw (← c.self.view_is) at c.requires)
    c.index_mut.ensures.value in
    rw (← c.self.view_is)
    (joins-stay t.pending.frames _ t.links.items _
    (map-set_same (λ (l : JoinedLink). l.join) t.links.items c.args.link one (record one { up = false }) there refl))
