-- The link at the place is joined, if there is one.
use Rattle.std.proofs.Common.{◌+◌, drop, List, ap, sym, ◌∙◌}
use Rattle.gptp_lint.specs.Graph.{edges_in}
use Rattle.gptp_lint.specs.Labels.{joined_all}
use Rattle.gptp_lint.specs.declared.graph.Edge.{Edge}
use Rattle.gptp_lint.proofs.GraphLemmas.{dropped_at, edge_there, none_dropped}
use Rattle.gptp_lint.proofs.labels.join_at.Goals as goal

pub returns-in-Some : goal.returns-in-Some
returns-in-Some c =
    let place = c.args.place in
    let ends = c.args.ends.now in
    let standings = c.args.standings.now in
    let es : List Edge = edges_in ends standings in
    ap (joined_all (drop (place + 1) es)) c.join.ensures
    ∙ ap (λ ds. joined_all ds c.args.labels.now)
    (sym (dropped_at es place c.in-Some.edge (edge_there ends standings place ∙ sym c.in-Some.ensures)))

pub returns-in-None : goal.returns-in-None
returns-in-None c =
    let place = c.args.place in
    let ends = c.args.ends.now in
    let standings = c.args.standings.now in
    let es : List Edge = edges_in ends standings in
    ap (λ ds. joined_all ds c.args.labels.now)
    (sym (none_dropped es place (edge_there ends standings place ∙ sym c.in-None.ensures)))
