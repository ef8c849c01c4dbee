-- The tables are those of the network's links.
use Rattle.std.proofs.Common.{◌≡◌, map, [], ap, ◌∙◌}
use Rattle.gptp_topology.specs.After.{node_after}
use Rattle.gptp_topology.specs.Course.{first, cable_wire}
use Rattle.gptp_topology.specs.Tables.{cables_of, mark_of}
use Rattle.gptp_topology.proofs.StandingLemmas.{standings_are, starts}
use Rattle.gptp_topology.proofs.tables.Tables.first.Goals as goal

pub returns : goal.returns
returns c =
    let n = c.args.network.now in
    let cables : c.as_slice-cables.result.now ≡ cables_of n = c.as_slice-cables.ensures.value ∙ c.in_ok-cables.ensures in
    record {
      params = c.params-params.ensures;
      nodes = c.in_ok-nodes.ensures ∙ ap (λ cs. map (node_after cs []) n.systems) cables;
      standings =
          c.in_ok-standings.ensures ∙ ap (map (λ c. first (cable_wire c))) cables ∙ starts n.links
          ∙ standings_are n c.well_formed-2.ensures [];
      marks = c.in_ok-marks.ensures ∙ ap (map (mark_of c.params-params.result)) c.deref.ensures.value;
    }
