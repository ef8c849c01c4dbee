use Rattle.gptp_components.proofs.RankedLemmas.{sorted_by_rank}
use Rattle.gptp_components.proofs.search.by_rank.Goals as goal

pub returns : goal.returns
returns c =
    sorted_by_rank c.args.snapshot.now c.in_ok-ids.ids.items c.sort_unstable.new.self.items c.in_ok-ids.ensures
    c.sort_unstable.ensures.permutation c.sort_unstable.ensures.sorted
