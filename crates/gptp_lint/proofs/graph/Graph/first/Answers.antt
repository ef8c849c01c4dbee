-- They are those of the network.
use Rattle.std.proofs.Common.{[], map, ap, ap₂, ◌∙◌}
use Rattle.gptp_lint.specs.Graph.{clocks_in, ends_of}
use Rattle.gptp_lint.proofs.GraphLemmas.{clocks_are}
use Rattle.gptp_lint.proofs.graph.Graph.first.Goals as goal

pub returns : goal.returns
returns c =
    let n = c.args.network.now in
    let tables = c.in_ok-tables.tables in
    record {
      tables = c.in_ok-tables.ensures;
      ends = c.in_ok-ends.ensures
          ∙ ap₂ (λ cs cables. map (ends_of cs) cables)
          (ap clocks_in c.deref.ensures.value ∙ clocks_are n [] tables c.in_ok-tables.ensures) c.requires;
    }
