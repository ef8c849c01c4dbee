use Rattle.std.proofs.Common.{true}
use Rattle.gptp_model.specs.Changing.{brought_up}
use Rattle.gptp_world.specs.Net.{between}
use Rattle.gptp_world.specs.Telling.{link_input}
use Rattle.gptp_world.proofs.TellingLemmas.{both_told, can_tell, can_tell_second, net_changes, room_first}
use Rattle.gptp_world.proofs.world_parts.WorldParts.link_up.Goals as goal

pub tell-requires-clause-parts : goal.tell-requires-clause-parts
tell-requires-clause-parts g c =
    net_changes c.args.self.now c.bring_up.new.self c.requires.parts c.bring_up.ensures.net c.bring_up.ensures.uses

pub tell-requires-clause-port : goal.tell-requires-clause-port
tell-requires-clause-port g c =
    let can = can_tell c.args.self.now c.bring_up.new.self c.args.link _ _ c.requires.parts c.well_formed-2.ensures
    c.ends_of.ensures c.requires.room c.bring_up.ensures.uses in can.port_a

pub tell-requires-clause-room : goal.tell-requires-clause-room
tell-requires-clause-room g c =
    let can = can_tell c.args.self.now c.bring_up.new.self c.args.link _ _ c.requires.parts c.well_formed-2.ensures
    c.ends_of.ensures c.requires.room c.bring_up.ensures.uses in room_first _ _ _ can.room

pub tell-requires-2-clause-port : goal.tell-requires-2-clause-port
tell-requires-2-clause-port g c =
    let can = can_tell c.args.self.now c.bring_up.new.self c.args.link _ _ c.requires.parts c.well_formed-2.ensures
    c.ends_of.ensures c.requires.room c.bring_up.ensures.uses in
    let second = can_tell_second _ _ _ _ _ _ _ c.tell.new.self can
    c.tell.ensures.told c.tell.ensures.uses in second.port

pub tell-requires-2-clause-room : goal.tell-requires-2-clause-room
tell-requires-2-clause-room g c =
    let can = can_tell c.args.self.now c.bring_up.new.self c.args.link _ _ c.requires.parts c.well_formed-2.ensures
    c.ends_of.ensures c.requires.room c.bring_up.ensures.uses in
    let second = can_tell_second _ _ _ _ _ _ _ c.tell.new.self can
    c.tell.ensures.told c.tell.ensures.uses in second.room

pub returns-clause-up : goal.returns-clause-up
returns-clause-up g c =
    let can = can_tell c.args.self.now c.bring_up.new.self c.args.link _ _ c.requires.parts c.well_formed-2.ensures
    c.ends_of.ensures c.requires.room c.bring_up.ensures.uses in
    let told = both_told g.F.Fate.answers (link_input true)
    (λ channel. brought_up c.args.link channel (between c.args.self.now.net)) c.args.link _ _ _ _ _ c.args.self.now
    c.bring_up.new.self _ _ c.requires.parts c.ends_of.ensures can c.bring_up.ensures.up c.tell.ensures.told
    c.tell-2.ensures.told in
    record { channel = told.channel; here = told.here; draws = told.draws; drawn = told.drawn; up = told.tells }
