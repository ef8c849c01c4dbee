use Rattle.std.proofs.Common.{◌≡◌, filter, rules}
use Rattle.std.proofs.lemmas.Fn.{filter_same}
use Rattle.slab.specs.Slab.{get}
use Rattle.gptp_scheduler.specs.Chain.{held}
use Rattle.gptp_scheduler.specs.Filed.{entry_lives}
use Rattle.gptp_scheduler.proofs.FiledLemmas.{filed-swept, listed-swept}
use Rattle.gptp_scheduler.proofs.filed.sweep.Given as given
use Rattle.gptp_scheduler.proofs.filed.sweep.Goals as goal

-- what is kept is what is there still
kept : (g : given.Over) (c : goal.After-retain g)
    → c.retain.new.self.items
    ≡ filter (λ f. entry_lives f.number (held (get c.args.nodes.now) f.key.place)) c.args.filed.now.items
kept g c =
    filter_same _ (λ f. entry_lives f.number (held (get c.args.nodes.now) f.key.place)) _
    (λ f b after called. search rules) c.args.filed.now.items c.retain.new.self.items c.retain.ensures.filtered

pub returns-clause-listed : goal.returns-clause-listed
returns-clause-listed g c = rw (kept g c) (listed-swept (get c.args.nodes.now) c.args.filed.now.items)

pub returns-clause-filed : goal.returns-clause-filed
returns-clause-filed g c next filed =
    rw (kept g c) (filed-swept (get c.args.nodes.now) c.args.filed.now.items next filed)
