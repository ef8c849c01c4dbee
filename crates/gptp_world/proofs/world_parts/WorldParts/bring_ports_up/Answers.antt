use Rattle.std.proofs.Common.{◌≡◌, ◌+◌, [], ◌∷◌, ◌++◌, length, ap, subst, sym, ◌∙◌, arith}
use Rattle.std.specs.List.{range_with_len}
use Rattle.gptp_model.specs.declared.station.Station.{Station}
use Rattle.gptp_world.specs.Starting.{CameUp}
use Rattle.gptp_world.proofs.ComingUpLemmas.{came_more, came_remains, more_use, none_came, none_use, range-more, room_for_next}
use Rattle.gptp_lists.proofs.PlaceLemmas.{read}
use Rattle.gptp_world.proofs.world_parts.WorldParts.bring_ports_up.Goals as goal

pub loop-port-init : goal.loop-port-init
loop-port-init g c = record {
  within = omega arith;
  parts = c.requires.parts;
  uses = none_use c.args.place c.args.self.now;
  came = none_came g.F.Fate.answers c.args.place c.args.fate.now c.args.self.now c.requires.live.station
      c.requires.live.here;
}

pub port_up_if_linked-requires-clause-live : goal.port_up_if_linked-requires-clause-live
port_up_if_linked-requires-clause-live g c =
    let live = c.requires.live in
    let still = came_remains g.F.Fate.answers c.args.place (range_with_len 1 c.loop-port.port) c.args.fate.now
    c.loop-port.fate
    c.args.self.now c.loop-port.self live.station live.here c.loop-port.invariant.came in
    record { station = still.station; here = still.here; live = still.live ∙ live.live }

pub port_up_if_linked-requires-clause-port : goal.port_up_if_linked-requires-clause-port
port_up_if_linked-requires-clause-port g c =
    let one = c.index.result.now in let live = c.requires.live in
    let is : one ≡ live.station =
    c.index.ensures ∙ read c.args.self.now.stations.items c.args.place live.station one live.here in
    let still = came_remains g.F.Fate.answers c.args.place (range_with_len 1 c.loop-port.port) c.args.fate.now
    c.loop-port.fate
    c.args.self.now c.loop-port.self live.station live.here c.loop-port.invariant.came in
    let count = c.ports-ports.ensures ∙ ap (λ (s : Station). length s.system.ports) is in
    let ports = still.ports in let test = c.loop-port-test.true in
    record {
      station = still.station;
      here = still.here;
      port_of = record { least = omega arith; most = omega (arith, count, ports, test) };
    }

pub port_up_if_linked-requires-clause-room : goal.port_up_if_linked-requires-clause-room
port_up_if_linked-requires-clause-room g c =
    let one = c.index.result.now in let has = c.requires.room in
    let is : one ≡ has.station = c.index.ensures ∙ read c.args.self.now.stations.items c.args.place has.station one
    has.here in
    let still = came_remains g.F.Fate.answers c.args.place (range_with_len 1 c.loop-port.port) c.args.fate.now
    c.loop-port.fate
    c.args.self.now c.loop-port.self has.station has.here c.loop-port.invariant.came in
    let count = c.ports-ports.ensures ∙ ap (λ (s : Station). length s.system.ports) is in
    let test = c.loop-port-test.true in
    room_for_next c.loop-port.port c.args.place c.args.self.now c.loop-port.self has still c.loop-port.invariant.uses
    (omega (arith, count, test))

pub loop-port-preserved : goal.loop-port-preserved
loop-port-preserved g c =
    let i = c.loop-port.port in let so_far = c.loop-port.invariant in let e = c.port_up_if_linked.ensures in
    let test = c.loop-port-test.true in
    let next : range_with_len 1 i ++ (i + 1) ∷ [] ≡ range_with_len 1 (i + 1) =
    let same : i + 1 ≡ 1 + i = omega arith in ap (λ p. range_with_len 1 i ++ p ∷ []) same ∙ sym (range-more 1 i) in
    record {
      within = omega (arith, test);
      parts = e.parts;
      uses = more_use i c.args.place c.args.self.now c.loop-port.self c.port_up_if_linked.new.self.net
          (λ station here. came_remains g.F.Fate.answers c.args.place (range_with_len 1 i) c.args.fate.now
          c.loop-port.fate
          c.args.self.now c.loop-port.self station here so_far.came) so_far.uses e.uses;
      came = subst (λ ports. CameUp g.F.Fate.answers c.args.place ports c.args.fate.now c.port_up_if_linked.new.fate
          c.args.self.now
          c.port_up_if_linked.new.self) next
          (came_more g.F.Fate.answers c.args.place (range_with_len 1 i) ((i + 1) ∷ []) c.args.fate.now c.loop-port.fate
          c.port_up_if_linked.new.fate c.args.self.now c.loop-port.self c.port_up_if_linked.new.self so_far.came
          e.came);
    }

pub returns-clause-came : goal.returns-clause-came
returns-clause-came g c = λ station here.
    let one = c.index.result.now in
    let is : one ≡ station = c.index.ensures ∙ read c.args.self.now.stations.items c.args.place station one here in
    let count = c.ports-ports.ensures ∙ ap (λ (s : Station). length s.system.ports) is in
    let test = c.loop-port-test.false in let within = c.loop-port.invariant.within in
    let all : c.loop-port.port ≡ length station.system.ports = omega (arith, count, test, within) in
    subst (λ n. CameUp g.F.Fate.answers c.args.place (range_with_len 1 n) c.args.fate.now c.loop-port.fate
    c.args.self.now c.loop-port.self)
    all c.loop-port.invariant.came
