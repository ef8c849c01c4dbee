use Rattle.std.proofs.Common.{sym, ap, ◌∙◌}
use Rattle.gptp_model.specs.declared.station.Station.{Station}
use Rattle.gptp_lists.proofs.PlaceLemmas.{read}
use Rattle.gptp_world.proofs.world_parts.WorldParts.recover.Goals as goal

pub start-requires-clause-room : goal.start-requires-clause-room
start-requires-clause-room g c = c.requires.room (λ station here.
    let one = c.index.ensures ∙ read c.args.self.now.stations.items c.args.place station c.index.result.now here in
    ap (λ (x : Station). x.live) (sym one) ∙ c.if-not-index.true)
