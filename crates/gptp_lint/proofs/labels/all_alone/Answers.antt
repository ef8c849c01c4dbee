-- One system more.
use Rattle.std.proofs.Common.{◌≡◌, ◌<◌, ◌+◌, ◌^◌, ◌++◌, ◌∷◌, [], List, Some, map, slice_get, take, ap, ap₂, subst, sym, ◌∙◌}
use Rattle.std.proofs.lemmas.List.{map-append, take_all}
use Rattle.std.proofs.lemmas.Option.{slice_get-get_or}
use Rattle.gptp_topology.specs.Tables.{systems_in}
use Rattle.gptp_topology.specs.declared.nodes.Node.{Node}
use Rattle.gptp_topology.specs.declared.nodes.System.{System}
use Rattle.gptp_topology.proofs.SystemSpecLemmas.{mapped_more}
use Rattle.gptp_lint.specs.Graph.{HaveOctets}
use Rattle.gptp_lint.specs.Labels.{lone_label}
use Rattle.gptp_lint.specs.declared.labels.Label.{Label}
use Rattle.gptp_lint.proofs.GraphLemmas.{octets_more}
use Rattle.gptp_lint.proofs.labels.all_alone.Goals as goal

pub loop-node-init : goal.loop-node-init
loop-node-init c = record { are = c.new-labels.ensures.items; octets = λ o none. absurd none }

pub loop-node-preserved : goal.loop-node-preserved
loop-node-preserved c =
    let nodes = c.args.nodes.now in
    let i = c.loop-node.node-index in
    let node = c.node-item.result in
    let there : slice_get nodes i ≡ Some node =
    slice_get-get_or nodes i node c.loop-node-test.true ∙ ap Some (sym c.node-item.is) in
    let before : List System = systems_in (take i nodes) in
    let more : before ++ node.system ∷ [] ≡ systems_in (take (i + 1) nodes) =
    mapped_more (λ (o : Node). o.system) nodes i node there in
    record {
      are = c.in_ok-push.ensures.items
          ∙ ap₂ (λ ls (l : Label). ls ++ l ∷ []) c.loop-node.invariant.are c.alone.ensures.is
          ∙ sym (map-append lone_label before (node.system ∷ []))
          ∙ ap (map lone_label) more;
      octets = subst HaveOctets more (octets_more before node.system c.loop-node.invariant.octets
          (subst (λ (l : Label). l.identity < 2 ^ 112) c.alone.ensures.is c.alone.ensures.octets));
    }

pub returns : goal.returns
returns c =
    let all = take_all c.loop-node.node-index c.args.nodes.now c.loop-node-test.false in
    record {
      are = c.loop-node.invariant.are ∙ ap (λ ns. map lone_label (systems_in ns)) all;
      octets = subst (λ ns. HaveOctets (systems_in ns)) all c.loop-node.invariant.octets;
    }
