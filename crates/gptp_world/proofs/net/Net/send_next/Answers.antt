use Rattle.std.proofs.Common.{[], ◌∷◌, refl, ap, sym, ◌∙◌, inl, arith}
use Rattle.std.proofs.lemmas.Option.{same_Some, slice_get_within}
use Rattle.gptp_system.specs.State.{clock}
use Rattle.gptp_model.specs.World.{port_id, Channel}
use Rattle.gptp_world.specs.Room.{for_sends}
use Rattle.gptp_world.proofs.NeedLemmas.{unsent}
use Rattle.gptp_world.proofs.NetLemmas.{known_channel}
use Rattle.gptp_world.proofs.net.Net.send_next.Goals as goal

pub send-requires-clause-link : goal.send-requires-clause-link
send-requires-clause-link g c =
    let up = c.in-Some.ensures.some (clock c.args.system.now) c.requires.place in
    slice_get_within c.args.self.now.traffic.net.channels c.in-Some.lane.link up.channel up.here

pub send-requires-clause-up : goal.send-requires-clause-up
send-requires-clause-up g c = λ one here.
    let up = c.in-Some.ensures.some (clock c.args.system.now) c.requires.place in
    ap (λ (x : Channel). x.up) (same_Some one up.channel (sym here ∙ up.here)) ∙ up.up

pub returns-in-Some-clause-net : goal.returns-in-Some-clause-net
returns-in-Some-clause-net g c = record { joins = c.send.ensures.joins ∙ c.requires.net.joins }

pub returns-in-Some-clause-sent : goal.returns-in-Some-clause-sent
returns-in-Some-clause-sent g c =
    let up = c.in-Some.ensures.some (clock c.args.system.now) c.requires.place in
    let known = known_channel c.args.self.now (port_id (clock c.args.system.now) c.args.send.now.port) c.in-Some.lane
    c.requires.net up.begins in
    let sent = c.send.ensures.sent known.0 known.1 in
    let octets = c.carried-frame.ensures.is in let from = known.2 in
    rw (← octets) (inl (rw (← from) sent))

pub returns-in-Some-clause-uses : goal.returns-in-Some-clause-uses
returns-in-Some-clause-uses g c =
    let e = c.send.ensures in let ready = c.carried-frame.ensures.ready in
    record {
      directory = refl;
      systems = e.systems;
      entries = omega (arith, e.room);
      buffers = omega (arith, ready);
    }

pub returns-in_default-clause-uses : goal.returns-in_default-clause-uses
returns-in_default-clause-uses g c = unsent (for_sends (c.args.send.now ∷ [])) c.args.self.now
