use Rattle.std.proofs.Common.{◌≡◌, ◌+◌, ◌*◌, length, Some, slice_get, refl, ap, ◌∙◌}
use Rattle.gptp_model.specs.Act.{all_timers, in_state}
use Rattle.gptp_model.specs.declared.station.Station.{Station}
use Rattle.gptp_world.specs.Net.{between, SentAll}
use Rattle.gptp_world.specs.Room.{for_sends, for_timers, WorldHasRoom, Uses}
use Rattle.gptp_world.specs.WorldParts.{for_left}
use Rattle.gptp_world.proofs.NeedLemmas.{left_of, uses_both, uses_timers}
use Rattle.gptp_lists.proofs.PlaceLemmas.{read, get-set_same}
use Rattle.gptp_world.proofs.WorldPartsLemmas.{call_uses, called, stays, timers_set}
use Rattle.gptp_world.proofs.world_parts.WorldParts.carry_out.Goals as goal

pub send_all-requires-clause-room : goal.send_all-requires-clause-room
send_all-requires-clause-room g c =
    let one = c.index-station.result.now in let net = c.args.self.now.net in
    let is : one ≡ c.requires.carries.station =
    c.index-station.ensures
    ∙ read c.args.self.now.stations.items c.args.place c.requires.carries.station one c.requires.carries.here in
    let used = 4 * length one.system.ports + 3 in
    let room : WorldHasRoom (for_left one.system c.args.self.now.outbox.items) net = rw is c.requires.carries.room in
    rw c.as_slice.ensures.value
    (left_of (for_timers used) (for_sends c.args.self.now.outbox.items) net
    c.set_touched.new.self (uses_timers used net c.set_touched.new.self c.set_touched.ensures.only) room)

pub returns-clause-uses : goal.returns-clause-uses
returns-clause-uses g c = λ before input answer step given.
    let one = c.index-station.result.now in let net = c.args.self.now.net in
    let used = 4 * length one.system.ports + 3 in let sends = c.args.self.now.outbox.items in
    let sent : Uses (for_sends sends) c.set_touched.new.self c.send_all.new.self =
    rw (← c.as_slice.ensures.value) c.send_all.ensures.uses in
    let all : Uses (for_left one.system sends) net c.send_all.new.self =
    uses_both (for_timers used) (for_sends sends) net c.set_touched.new.self c.send_all.new.self
    (uses_timers used net c.set_touched.new.self c.set_touched.ensures.only) sent in
    call_uses before c.args.self.now c.send_all.new.self c.args.place input answer step given
    (λ station here.
    let is : one ≡ station = c.index-station.ensures
    ∙ read c.args.self.now.stations.items c.args.place station one here in
    rw (← is) all)

pub returns-clause-parts : goal.returns-clause-parts
returns-clause-parts g c = λ before input answer is step.
    let t = c.set_touched.ensures.only in let e = c.send_all.ensures in
    stays before c.args.self.now _ c.args.place input answer is step refl e.net (e.uses.directory ∙ t.directory)
    (e.uses.systems ∙ t.systems) refl c.clear.ensures

pub returns-clause-called : goal.returns-clause-called
returns-clause-called g c = λ before input answer step.
    let one = c.index-station.result.now in
    let new = in_state step.after step.station in
    let here : slice_get c.args.self.now.stations.items c.args.place ≡ Some new =
    ap (λ xs. slice_get xs c.args.place) step.stations
    ∙ get-set_same before.stations.items c.args.place step.station new step.here in
    let is : one ≡ new = c.index-station.ensures ∙ read c.args.self.now.stations.items c.args.place new one here in
    let t = c.set_touched.ensures in
    let net = timers_set (4 * length one.system.ports + 3) c.args.place one c.args.self.now.net c.set_touched.new.self
    t.only t.entries in
    let sent : (station : Station) → one ≡ station
    → SentAll g.F.Fate.answers c.args.self.now.now station.system c.args.self.now.outbox.items c.args.fate.now
    c.send_all.new.fate
    (all_timers c.args.place station (between c.args.self.now.net)) (between c.send_all.new.self) =
    λ station same. rw (← same, ← net, ← c.as_slice.ensures.value) c.send_all.ensures.sent in
    called g.F.Fate.answers c.args.fate.now c.send_all.new.fate before c.args.self.now _ c.args.place input answer step
    (sent new is) refl refl refl
