use Rattle.std.proofs.Common.{◌≡◌, ◌≤◌, ◌∙◌, ℕ, true, Option, Some, ap, subst, sym}
use Rattle.std.proofs.lemmas.Result.{IfOk-weaker}
use Rattle.rand_pcg.specs.Lcg.{Lcg}
use Rattle.gptp_network.specs.Adding.{with_first}
use Rattle.gptp_network.specs.Document.{DocumentState, seeded_document}
use Rattle.gptp_network.specs.Events.{AreInOrder}
use Rattle.gptp_timeline.specs.Aside.{AsideState}
use Rattle.gptp_timeline.specs.LastStretches.{EndsOf}
use Rattle.gptp_timeline.specs.RunSoFar.{GoesOnFrom}
use Rattle.gptp_timeline.specs.declared.run_so_far.RunSoFar.{RunSoFar}
use Rattle.gptp_faults.specs.Options.{tracks}
use Rattle.gptp_faults.specs.Runs.{draws, first_run, generator, go_on, IsKept}
use Rattle.gptp_faults.specs.declared.options.FaultsOptions.{FaultsOptions}
use Rattle.gptp_faults.specs.declared.times.Times.{Times}
use Rattle.gptp_faults.proofs.BehindLemmas.{goes_on}
use Rattle.gptp_faults.proofs.runs.run_ends.Goals as goal

-- the run of a document with later events goes on from the one that is kept
from_kept : (d e : DocumentState) (options : FaultsOptions) (t : Times) (kept : Option (RunSoFar Lcg))
    (run : RunSoFar Lcg) (count seed end : ℕ) (aside : AsideState) → kept ≡ Some run → seed ≡ 1
    → IsKept d options t kept → with_first count e ≡ seeded_document seed d → t.from ≤ aside.from
    → AreInOrder e.events → go_on t.from end count e.events ≡ true
    → GoesOnFrom draws (first_run d options t) run e end aside
from_kept d e options t kept run count seed end aside is one so first later order can = record {
  run = subst (IsKept d options t) is so;
  goes = goes_on (seeded_document 1 d) e t.from end count order
      (first ∙ ap (λ (n : ℕ). seeded_document n d) one) can;
  later = later;
}

pub last_stretches-requires-clause-same : goal.last_stretches-requires-clause-same
last_stretches-requires-clause-same c = λ fate copy same. same

pub last_stretches-requires-clause-from : goal.last_stretches-requires-clause-from
last_stretches-requires-clause-from c =
    let options = c.args.options.now in let t = c.args.times.now in
    let (d, so, first, later) = c.requires.kept in (
      first_run d options t,
      from_kept d c.args.document.now options t c.args.kept.now c.in-Some.run' c.args.count c.args.seed c.args.end
          c.args.aside c.in-Some.is c.if-seed-eq1.true so first later c.well_formed-2.ensures.events.in_order
          (sym c.go_on.ensures ∙ c.if-go_on.true),
    )

pub returns-in-Some-clause-ends : goal.returns-in-Some-clause-ends
returns-in-Some-clause-ends c =
    let options = c.args.options.now in let t = c.args.times.now in
    let (d, so, first, later) = c.requires.kept in
    let from = from_kept d c.args.document.now options t c.args.kept.now c.in-Some.run' c.args.count c.args.seed
    c.args.end c.args.aside c.in-Some.is c.if-seed-eq1.true so first later c.well_formed-2.ensures.events.in_order
    (sym c.go_on.ensures ∙ c.if-go_on.true) in
    IfOk-weaker c.last_stretches.result _ _ (λ last ends.
    subst (λ (n : ℕ). EndsOf draws (tracks options) c.args.aside c.args.document.now c.args.end (generator n) last)
    (sym c.if-seed-eq1.true) (ends (first_run d options t) from)) c.last_stretches.ensures.ends
