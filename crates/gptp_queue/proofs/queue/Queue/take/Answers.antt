use Rattle.std.proofs.Common.{refl, true, IsSome, Option, Some, subst, sym, arith}
use Rattle.gptp_queue.specs.Order.{TakesLeast, Within}
use Rattle.gptp_queue.specs.Queue.{IsCurrentFirst, IsFirstAt}
use Rattle.gptp_queue.specs.Entry.{Entry}
use Rattle.gptp_queue.proofs.OptionLemmas.{on_some}
use Rattle.gptp_queue.proofs.QueueLemmas.{first_at, taken_holds}
use Rattle.gptp_queue.proofs.queue.Queue.take.Goals as goal

pub move_base-requires : goal.move_base-requires
move_base-requires c = λ e there.
    let q = c.self.inside in
    let at = on_some c.first_at.result c.in-Some.time (IsFirstAt q.order.first c.args.place) c.in-Some.is
    c.first_at.ensures in
    let d = first_at q.order.first c.args.place c.in-Some.time at in
    let F : Option Entry → Type 0 = IsCurrentFirst q.table.entries (Within q.order.parts) in
    let first : F (Some d.0) = subst F d.1 c.self.invariant.there in
    let time = d.3 in let least = (first.0.least e there).by_time in omega (arith, time, least)

pub take-requires : goal.take-requires
take-requires c =
    let q = c.self.inside in
    let at = on_some c.first_at.result c.in-Some.time (IsFirstAt q.order.first c.args.place) c.in-Some.is
    c.first_at.ensures in
    let d = first_at q.order.first c.args.place c.in-Some.time at in
    let P : Option Entry → Type 0 = IsSome in rw c.move_base.ensures (subst P (sym d.1) (refl {a = true}))

pub drop_stale-requires : goal.drop_stale-requires
drop_stale-requires c =
    let q = c.self.inside in
    let at = on_some c.first_at.result c.in-Some.time (IsFirstAt q.order.first c.args.place) c.in-Some.is
    c.first_at.ensures in
    let d = first_at q.order.first c.args.place c.in-Some.time at in
    let F : Option Entry → Type 0 = IsCurrentFirst q.table.entries (Within q.order.parts) in
    let first : F (Some d.0) = subst F d.1 c.self.invariant.there in
    let takes : TakesLeast q.order.parts c.take.new.self.parts d.0 =
    on_some q.order.first d.0 (λ (e : Entry). TakesLeast q.order.parts c.take.new.self.parts e) d.1
    (rw c.move_base.ensures at c.take.ensures.taken) in
    rw (c.clear.ensures, sym d.2)
    (taken_holds q.table.entries q.table.next (Within q.order.parts) (Within c.take.new.self.parts) d.0
    c.self.invariant.holds first.0.member takes.taken)
