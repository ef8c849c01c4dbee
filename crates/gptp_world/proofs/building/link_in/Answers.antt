use Rattle.gptp_model.specs.Initial.{channel_from}
use Rattle.gptp_world.proofs.InitialLemmas.{wire_told}
use Rattle.gptp_lists.proofs.MappedLemmas.{mapped_there}
use Rattle.gptp_world.proofs.building.link_in.Goals as goal

pub returns : goal.returns
returns c =
    let n = c.args.network.now in
    let here = wire_told n c.args.place _ _ c.link_at.ensures c.unwrap-a.ensures in
    mapped_there channel_from n.links c.args.place _ here
