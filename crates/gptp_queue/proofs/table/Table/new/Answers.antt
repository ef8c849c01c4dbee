use Rattle.std.proofs.Common.{ap, ◌∙◌}
use Rattle.gptp_queue.specs.Table.{entries_from}
use Rattle.gptp_queue.proofs.TableLemmas.{all-free}
use Rattle.gptp_queue.proofs.table.Table.new.Goals as goal

pub returns-clause-entries : goal.returns-clause-entries
returns-clause-entries c =
    ap (entries_from 0) (c.in_ok-vec.ensures.items_if_clones_equal (λ y is. cc)) ∙ all-free 0 c.args.places
