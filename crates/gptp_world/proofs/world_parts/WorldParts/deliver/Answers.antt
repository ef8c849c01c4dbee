use Rattle.std.proofs.Common.{◌≡◌, slice_get, ap, sym, ◌∙◌}
use Rattle.gptp_system.specs.Steps.{IsUp}
use Rattle.gptp_vector.specs.declared.port.PortId.{PortId}
use Rattle.gptp_traffic.specs.Traffic.{join_of}
use Rattle.gptp_world.specs.Directory.{direction_end, DirectoryState}
use Rattle.gptp_world.specs.Net.{between}
use Rattle.gptp_world.proofs.EndLemmas.{end_placed, end_same, known_join, place_within, station_at}
use Rattle.gptp_world.proofs.WorldPartsLemmas.{net_replaced, room_kept}
use Rattle.gptp_world.proofs.TimingLemmas.{set_for_frame}
use Rattle.gptp_world.proofs.world_parts.WorldParts.deliver.Goals as goal

pub narrowed-requires : goal.narrowed-requires
narrowed-requires g c =
    let net = c.args.self.now.net in let due = c.requires.due in let lane = c.args.lane in
    let join = join_of due.channel in
    let there = known_join net lane.link due.channel c.requires.parts.net due.here in
    let same = c.take_frame-frame.ensures.uses.directory in
    let at = c.port_at-at.ensures join (ap (λ (d : DirectoryState). slice_get d.joins lane.link) same ∙ there) in
    rw at (end_placed net.directory lane.direction lane.link join c.well_formed-2.ensures there).last

pub take_frame-frame-requires-clause-due : goal.take_frame-frame-requires-clause-due
take_frame-frame-requires-clause-due g c = (c.args.self.now.now, c.requires.due)

pub hear_if_live-answer-requires-clause-parts : goal.hear_if_live-answer-requires-clause-parts
hear_if_live-answer-requires-clause-parts g c =
    let e = c.take_frame-frame.ensures in
    net_replaced c.args.self.now c.take_frame-frame.new.self c.requires.parts e.net e.uses.directory e.uses.systems

pub hear_if_live-answer-requires-clause-place : goal.hear_if_live-answer-requires-clause-place
hear_if_live-answer-requires-clause-place g c =
    let net = c.args.self.now.net in let due = c.requires.due in let lane = c.args.lane in
    let join = join_of due.channel in
    let there = known_join net lane.link due.channel c.requires.parts.net due.here in
    let same = c.take_frame-frame.ensures.uses.directory in
    let place = c.receiver-place.ensures join (ap (λ (d : DirectoryState). slice_get d.joins lane.link) same ∙ there) in
    place_within c.args.self.now c.receiver-place.result (direction_end lane.direction join).clock c.requires.parts
    (ap (λ (d : DirectoryState). slice_get d.clocks c.receiver-place.result) (sym same) ∙ place)

pub hear_if_live-answer-requires-clause-heard : goal.hear_if_live-answer-requires-clause-heard
hear_if_live-answer-requires-clause-heard g c = λ station here live.
    let net = c.args.self.now.net in let due = c.requires.due in let lane = c.args.lane in
    let join = join_of due.channel in
    let there = known_join net lane.link due.channel c.requires.parts.net due.here in
    let same = c.take_frame-frame.ensures.uses.directory in
    let after = ap (λ (d : DirectoryState). slice_get d.joins lane.link) same ∙ there in
    let place = c.receiver-place.ensures join after in
    let at = c.port_at-at.ensures join after in
    let port : c.narrowed.result ≡ (direction_end lane.direction join).port = c.narrowed.ensures
    ∙ ap (λ (p : PortId). p.port) at in
    let up : IsUp station.system (direction_end lane.direction join).port =
    c.requires.hears join c.receiver-place.result there
    (ap (λ (d : DirectoryState). slice_get d.clocks c.receiver-place.result) (sym same) ∙ place) station here live in
    rw port up

pub hear_if_live-answer-requires-clause-set : goal.hear_if_live-answer-requires-clause-set
hear_if_live-answer-requires-clause-set g c =
    let due = c.requires.due in
    set_for_frame c.args.self.now c.take_frame-frame.new.self c.args.lane c.take_frame-frame.result.items
    due.channel c.receiver-place.result c.requires.agrees
    (c.take_frame-frame.ensures.takes c.args.self.now.now due.channel due.here due.so)

pub hear_if_live-answer-requires-clause-room : goal.hear_if_live-answer-requires-clause-room
hear_if_live-answer-requires-clause-room g c =
    let net = c.args.self.now.net in let due = c.requires.due in let lane = c.args.lane in
    let join = join_of due.channel in
    let there = known_join net lane.link due.channel c.requires.parts.net due.here in
    let same = c.take_frame-frame.ensures.uses.directory in
    let place = c.receiver-place.ensures join (ap (λ (d : DirectoryState). slice_get d.joins lane.link) same ∙ there) in
    room_kept c.receiver-place.result c.args.self.now c.take_frame-frame.new.self c.take_frame-frame.ensures.uses
    (c.requires.room join c.receiver-place.result there
    (ap (λ (d : DirectoryState). slice_get d.clocks c.receiver-place.result) (sym same) ∙ place))

pub returns-clause-delivered : goal.returns-clause-delivered
returns-clause-delivered g c =
    let net = c.args.self.now.net in let due = c.requires.due in let lane = c.args.lane in
    let join = join_of due.channel in
    let there = known_join net lane.link due.channel c.requires.parts.net due.here in
    let same = c.take_frame-frame.ensures.uses.directory in
    let after = ap (λ (d : DirectoryState). slice_get d.joins lane.link) same ∙ there in
    let place = c.receiver-place.ensures join after in
    let at = c.port_at-at.ensures join after in
    let stands = station_at c.args.self.now c.receiver-place.result
    (direction_end lane.direction join).clock c.requires.parts
    (ap (λ (d : DirectoryState). slice_get d.clocks c.receiver-place.result) (sym same) ∙ place) in
    let ends = end_same lane.direction due.channel in
    let port = c.narrowed.ensures ∙ ap (λ (p : PortId). p.port) (at ∙ ends) in
    let heard = c.hear_if_live-answer.ensures.heard in
    record {
      join = join;
      there = there;
      is_end = at;
      draws = heard.draws;
      drawn = heard.drawn;
      delivers = record {
        channel = due.channel;
        net = between c.take_frame-frame.new.self;
        place = c.receiver-place.result;
        station = stands.station;
        takes = c.take_frame-frame.ensures.takes c.args.self.now.now due.channel due.here due.so;
        there = stands.here;
        is_end = stands.named ∙ ap (λ (p : PortId). p.clock) ends;
        hears = rw (← port) heard.hears;
      };
    }
