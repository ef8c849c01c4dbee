use Rattle.std.proofs.Common.{sym, ◌∙◌, arith}
use Rattle.gptp_queue.proofs.PartLemmas.{pushed_adds, pushed_before, pushed_behind, refused_same}
use Rattle.gptp_queue.proofs.far.Far.push.Goals as goal

pub invariant_of-self : goal.invariant_of-self
invariant_of-self c =
    let f = c.self.inside in
    let len = f.runs.ok.0 in let few = c.if-len-kind.false in let all = c.len.ensures in
    let same = refused_same f.heap.entries f.runs.items c.args.kind c.index_mut.result.now c.push.new.self
    (omega (arith, len, few, all)) c.index_mut.ensures.value (c.push.ensures.refused c.if-not-push.true) in
    rw same c.self.invariant

pub invariant_of-self-then-follows : goal.invariant_of-self-then-follows
invariant_of-self-then-follows c =
    let f = c.self.inside in
    let len = f.runs.ok.0 in let few = c.if-len-kind.false in let all = c.len.ensures in
    rw c.of-self-inside.ensures
    (pushed_before f.heap.entries f.runs.items c.args.kind c.index_mut.result.now c.push.new.self
    (omega (arith, len, few, all)) c.index_mut.ensures.value f.first f.at c.args.entry c.self.invariant
    (c.push.ensures.pushed c.if-not-push.false) c.push.ensures.rise (sym c.follows.ensures ∙ c.if-follows.true))

pub invariant_of-self-else-follows : goal.invariant_of-self-else-follows
invariant_of-self-else-follows c =
    let f = c.self.inside in
    let len = f.runs.ok.0 in let few = c.if-len-kind.false in let all = c.len.ensures in
    pushed_behind f.heap.entries f.runs.items c.args.kind c.index_mut.result.now c.push.new.self
    (omega (arith, len, few, all)) c.index_mut.ensures.value f.first f.at c.args.entry c.self.invariant
    (c.push.ensures.pushed c.if-not-push.false) c.push.ensures.rise (sym c.follows.ensures ∙ c.if-follows.false)

pub returns-then-follows-clause-pushed : goal.returns-then-follows-clause-pushed
returns-then-follows-clause-pushed c = λ yes.
    let f = c.self.inside in
    let len = f.runs.ok.0 in let few = c.if-len-kind.false in let all = c.len.ensures in
    rw (← c.self.view_is)
    (pushed_adds f.heap.entries f.runs.items c.args.kind c.index_mut.result.now c.push.new.self
    (omega (arith, len, few, all)) c.index_mut.ensures.value f.first f.at c.args.entry c.self.invariant
    (c.push.ensures.pushed c.if-not-push.false) c.push.ensures.rise)

pub returns-else-follows-clause-pushed : goal.returns-else-follows-clause-pushed
returns-else-follows-clause-pushed c = λ yes.
    let f = c.self.inside in
    let len = f.runs.ok.0 in let few = c.if-len-kind.false in let all = c.len.ensures in
    rw (← c.self.view_is)
    (pushed_adds f.heap.entries f.runs.items c.args.kind c.index_mut.result.now c.push.new.self
    (omega (arith, len, few, all)) c.index_mut.ensures.value f.first f.at c.args.entry c.self.invariant
    (c.push.ensures.pushed c.if-not-push.false) c.push.ensures.rise)
