use Rattle.std.proofs.Common.{◌+◌, max, Some, None, refl, ap, sym, ◌∙◌, arith}
use Rattle.gptp_model.specs.World.{Channel}
use Rattle.gptp_traffic.specs.Pending.{PendingView}
use Rattle.gptp_traffic.proofs.TrafficLemmas.{channel_is, joins-stay, lane_within, lent_link, many-channels, net-sent}
use Rattle.gptp_traffic.proofs.traffic.Traffic.send.Goals as goal

pub index-requires : goal.index-requires
index-requires g c =
    let t = c.self.inside in let many = many-channels t.pending.frames 0 t.links.items in let long = t.links.ok.0 in
    let within = rw (← c.self.view_is) at c.requires.link in omega (arith, many, long, within)

pub fate-requires : goal.fate-requires
fate-requires g c =
    let t = c.self.inside in let one = c.index.result.now in
    let there = lent_link t.pending.frames t.links.items c.args.lane.link one
    (rw (← c.self.view_is) at c.requires.link) c.index.ensures in
    record { fit = c.self.invariant.fit c.args.lane.link one there }

pub newest_due-requires : goal.newest_due-requires
newest_due-requires g c =
    let t = c.self.inside in let many = many-channels t.pending.frames 0 t.links.items in
    let links = c.self.invariant.links in
    let within = rw (← c.self.view_is) at c.requires.link in omega (arith, many, links, within)

pub put_arrival-requires-clause-link : goal.put_arrival-requires-clause-link
put_arrival-requires-clause-link g c =
    let t = c.self.inside in let many = many-channels t.pending.frames 0 t.links.items in
    let links = c.self.invariant.links in
    let within = rw (← c.self.view_is) at c.requires.link in omega (arith, many, links, within)

pub invariant_of-self : goal.invariant_of-self
invariant_of-self g c =
    rw c.put_arrival.ensures.kept (record { links = c.self.invariant.links; fit = c.self.invariant.fit })

pub overflow_add-now : goal.overflow_add-now
overflow_add-now g c =
    let t = c.self.inside in let one = c.index.result.now in
    let there = lent_link t.pending.frames t.links.items c.args.lane.link one
    (rw (← c.self.view_is) at c.requires.link) c.index.ensures in
    let fit = c.self.invariant.fit c.args.lane.link one there in
    let lawful = rw c.in-Some.is at c.fate.ensures.lawful in
    let early = c.requires.early in let short = fit.short in let most = lawful.1 in omega (arith, early, short, most)

pub returns-in-Some-clause-sent : goal.returns-in-Some-clause-sent
returns-in-Some-clause-sent g c = λ channel here.
    let t = c.self.inside in let one = c.index.result.now in let lane = c.args.lane in
    let within = rw (← c.self.view_is) at c.requires.link in
    let many = many-channels t.pending.frames 0 t.links.items in let links = c.self.invariant.links in
    let there = lent_link t.pending.frames t.links.items lane.link one within c.index.ensures in
    let stands = rw (← c.self.view_is) at here in
    let is = channel_is t.pending.frames t.links.items lane.link one channel there stands in
    let place = lane_within lane.link t.pending.links lane.direction _ (omega (arith, many, links, within))
    c.lanes_are_listed.ensures in
    let kept = c.put_arrival.ensures.kept in
    let due = c.max-due.ensures ∙ ap (max (c.args.now + c.in-Some.delay)) c.newest_due.ensures in
    let after = net-sent t.links.items t.pending c.put_arrival.new.self lane.link lane.direction one channel there
    stands place c.args.now c.in-Some.delay c.max-due.result c.args.carried.items due
    (ap (λ (p : PendingView). p.entries) kept) (ap (λ (p : PendingView). p.frames) kept) in
    record {
      draw = record { bounds = one.bounds; sent = c.args.now; answer = Some c.in-Some.delay };
      drawn = rw c.in-Some.is at c.fate.ensures.answers;
      sends = record {
        place = lane.link;
        direction = lane.direction;
        channel = channel;
        here = here;
        begins = refl;
        up = c.requires.up channel here;
        bounds = ap (λ (x : Channel). x.bounds) (sym is);
        sent = refl;
        lawful = rw c.in-Some.is at c.fate.ensures.lawful;
        after = rw (← c.self.view_is) after;
      };
    }

pub returns-in_default-clause-sent : goal.returns-in_default-clause-sent
returns-in_default-clause-sent g c = λ channel here.
    let t = c.self.inside in let one = c.index.result.now in let lane = c.args.lane in
    let there = lent_link t.pending.frames t.links.items lane.link one
    (rw (← c.self.view_is) at c.requires.link) c.index.ensures in
    let is = channel_is t.pending.frames t.links.items lane.link one channel there (rw (← c.self.view_is) at here) in
    record {
      draw = record { bounds = one.bounds; sent = c.args.now; answer = None };
      drawn = rw c.in_default.is at c.fate.ensures.answers;
      sends = record {
        place = lane.link;
        direction = lane.direction;
        channel = channel;
        here = here;
        begins = refl;
        up = c.requires.up channel here;
        bounds = ap (λ (x : Channel). x.bounds) (sym is);
        sent = refl;
        lawful = rw c.in_default.is at c.fate.ensures.lawful;
        after = refl;
      };
    }

pub returns-in-Some-clause-joins : goal.returns-in-Some-clause-joins
returns-in-Some-clause-joins g c =
    let t = c.self.inside in rw (← c.self.view_is) (joins-stay t.pending.frames _ t.links.items t.links.items refl)
