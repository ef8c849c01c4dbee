use Rattle.std.proofs.Common.{◌≡◌, filter, rules}
use Rattle.std.proofs.lemmas.Fn.{filter_same}
use Rattle.gptp_queue.specs.Waiting.{is_current}
use Rattle.gptp_queue.proofs.OrderLemmas.{run_filter, swept_behind, swept_filter}
use Rattle.gptp_queue.proofs.run.Run.sweep.Goals as goal

-- what the table has is kept
kept : (c : goal.After-retain) → c.retain.new.self.items ≡ filter (is_current c.args.table.now.entries) c.self.inside.rest.items
kept c =
    filter_same _ (is_current c.args.table.now.entries) _ (λ d b after called. search rules) c.self.inside.rest.items
    c.retain.new.self.items c.retain.ensures.filtered

pub invariant_of-self : goal.invariant_of-self
invariant_of-self c =
    rw (kept c) (run_filter (is_current c.args.table.now.entries) c.self.inside.first c.self.inside.rest.items c.self.invariant)

pub returns : goal.returns
returns c =
    rw (kept c, ← c.self.view_is)
    (swept_behind c.args.table.now.entries c.self.inside.first c.self.inside.rest.items _
    (swept_filter c.args.table.now.entries c.self.inside.rest.items))
