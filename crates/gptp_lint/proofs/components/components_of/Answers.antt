-- What is told is told of the moments and of the network after all events.
use Rattle.std.proofs.Common.{[], ap, subst, ◌∙◌}
use Rattle.gptp_scenario.specs.Network.{IsNetwork, NetworkState}
use Rattle.gptp_lint.specs.Components.{apart_from, nobody_from}
use Rattle.gptp_lint.specs.Graph.{GraphState, IsGraph}
use Rattle.gptp_lint.specs.Moments.{AreChancesOf}
use Rattle.gptp_lint.proofs.GraphLemmas.{graph_is}
use Rattle.gptp_lint.proofs.MomentLemmas.{is_chance}
use Rattle.gptp_lint.proofs.components.components_of.Goals as goal

pub follow-requires : goal.follow-requires
follow-requires c =
    subst (λ (n : NetworkState). IsGraph n [] c.in_ok-graph.graph) c.network-2.ensures c.in_ok-graph.ensures

pub returns : goal.returns
returns c =
    let d = c.args.document.now in
    record {
      moments = c.in_ok-moments.moments.items;
      are = c.in_ok-moments.ensures.moments;
      apart = c.in_ok-apart.ensures ∙ ap (apart_from 0) c.deref.ensures.value;
      nobody = c.in_ok-nobody.ensures ∙ ap (nobody_from []) c.deref-2.ensures.value;
      chance =
          is_chance d (subst IsNetwork c.network.ensures c.well_formed-2.ensures) c.in_ok-chance.chance.items
          (subst (λ (g : GraphState). AreChancesOf g c.in_ok-chance.chance.items)
          (graph_is d.network d.events c.follow.new.graph c.in_ok-moments.ensures.graph) c.in_ok-chance.ensures);
    }
