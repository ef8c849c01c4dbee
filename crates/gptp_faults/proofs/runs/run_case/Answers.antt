use Rattle.std.proofs.Common.{◌≡◌, ◌≤◌, ◌+◌, ◌/◌, ◌==◌, ℕ, Bool, false, not, List, [], ◌∷◌, length, Result, Ok, Err, refl, ap, sym, subst, ◌∙◌, arith}
use Rattle.std.specs.Prelude.{IfOk, OnOk}
use Rattle.std.proofs.lemmas.Bool.Decides.{nat_tests}
use Rattle.gptp_setup.specs.Intervals.{IsMoment}
use Rattle.gptp_network.specs.Adding.{with_first}
use Rattle.gptp_network.specs.Document.{DocumentState, seeded_document}
use Rattle.gptp_scenario.specs.Network.{NetworkState}
use Rattle.gptp_sink.specs.declared.cut.Cut.{Cut}
use Rattle.gptp_scenario.specs.declared.change.Timed.{Timed}
use Rattle.gptp_timeline.specs.Aside.{AsideState}
use Rattle.gptp_timeline.specs.LastStretches.{EndsOf}
use Rattle.gptp_timeline.specs.declared.ends.LastStretches.{LastStretches}
use Rattle.gptp_faults.specs.CaseEvents.{EventsState, with_changes}
use Rattle.gptp_faults.specs.Options.{tracks}
use Rattle.gptp_faults.specs.Runs.{AreRunEnds, CaseRunEnds, draws, generator, has_changes, is_seen, seed_of, set_aside}
use Rattle.gptp_faults.specs.Stays.{back_at, behind_of, document_of, end_at, failed_document, hold_of, with_case}
use Rattle.gptp_faults.specs.Times.{moment}
use Rattle.gptp_faults.specs.declared.case_events.CaseChange.{CaseChange}
use Rattle.gptp_faults.specs.declared.runs.RunEnds.{RunEnds}
use Rattle.gptp_faults.proofs.RefusalLemmas.{ends_early, not_late_at}
use Rattle.gptp_faults.proofs.RunLemmas.{case_back, moment_below}
use Rattle.gptp_faults.proofs.runs.run_case.Goals as goal

pub run_ends-requires-clause-moment : goal.run_ends-requires-clause-moment
run_ends-requires-clause-moment c =
    let d = c.args.document.now in let asked = c.args.options.now.hold in let t = c.args.times.now in
    let e = c.args.events.now in let run = c.args.run in let at = c.moment_of-down.result in
    let hold : c.in_ok-hold.hold ≡ hold_of d asked e at = c.in_ok-hold.ensures.hold in
    let behind : c.in_ok-behind.behind ≡ behind_of d asked e at (hold_of d asked e at) =
    c.in_ok-behind.ensures.behind
    ∙ ap (λ (x : DocumentState). behind_of x asked e at c.in_ok-hold.hold) c.in_ok-hold.ensures.same
    ∙ ap (behind_of d asked e at) hold in
    let delay = c.delay.ensures.is in
    let number = moment_below run t.moments t.seeds c.requires.bounded.some_seed c.requires.run in
    let late = not_late_at d asked t e (run / t.seeds) c.requires.in_time number in
    let end : IsMoment (end_at d asked e at) =
    subst (λ time. IsMoment (end_at d asked e time)) (sym c.moment_of-down.ensures.is)
    (ends_early d asked e (moment t (run / t.seeds)) late) in
    omega (arith, end, hold, behind, delay)

-- the document with the events of a case, where it stays down so long
with_them : (d : DocumentState) (e : EventsState) (at hold : ℕ) (before failed whole : DocumentState) → before ≡ d
    → failed ≡ failed_document at e before → whole ≡ with_changes (back_at at e hold) e.back failed
    → whole ≡ with_case at hold e d
with_them d e at hold before failed whole same down back =
    back ∙ ap (with_changes (back_at at e hold) e.back) (down ∙ ap (failed_document at e) same)

pub run_ends-requires-clause-kept : goal.run_ends-requires-clause-kept
run_ends-requires-clause-kept c =
    let d = c.args.document.now in let t = c.args.times.now in let e = c.args.events.now in
    let at = c.moment_of-down.result in let hold = c.in_ok-hold.hold in
    let same = c.in_ok-behind.ensures.same ∙ c.in_ok-hold.ensures.same in
    let document = with_them d e at hold _ _ c.return_after.new.document same c.in_ok-fail_at.ensures.added
    c.in_ok-return_after.ensures.added in
    let count = ap length (c.events-count.ensures ∙ ap (λ (x : DocumentState). x.events) same) in
    let from = c.new-aside.ensures in let down = c.moment_of-down.ensures.is in (
      d,
      c.requires.kept,
      ap (with_first (length c.events-count.result.now)) c.set_seed.ensures
          ∙ ap (λ n. with_first n (seeded_document c.seed_of-drawn.result c.return_after.new.document)) count
          ∙ ap (λ x. seeded_document c.seed_of-drawn.result (with_first (length d.events) x)) document
          ∙ ap (seeded_document c.seed_of-drawn.result) (case_back d at hold e),
      subst (λ (a : AsideState). t.from ≤ a.from) (sym from)
          (subst (λ time. t.from ≤ time) (sym down) (omega arith)),
    )

-- where a run's last stretches are those of a case, they are so of it
ends_are : (result : Result RunEnds Cut) (seen other : Bool) (last : LastStretches) (P : RunEnds → Type 0)
    → seen ≡ other → ((r : RunEnds) → AreRunEnds other last r → P r) → IfOk result (AreRunEnds seen last) → IfOk result P
ends_are (Ok r) seen other last P same each are = each r (subst (λ (b : Bool). AreRunEnds b last r) same are)
ends_are (Err e) seen other last P same each are = tt

on_ok : {P : Type 0} (result : Result RunEnds Cut) → P → OnOk result P
on_ok (Ok r) p = p
on_ok (Err e) p = tt

seen_is : (cs : List CaseChange) → not (length cs == 0) ≡ has_changes cs
seen_is [] = refl
seen_is (c ∷ cs) = let some : (length (c ∷ cs) == 0) ≡ false = grind (arith, nat_tests) in rw some refl

pub returns-clause-run : goal.returns-clause-run
returns-clause-run c =
    let d = c.args.document.now in let asked = c.args.options.now.hold in let t = c.args.times.now in
    let e = c.args.events.now in let run = c.args.run in let at = c.moment_of-down.result in
    let names = c.args.aside.now in
    let last = c.in_ok-ends.ends in
    let delay : c.delay.result ≡ e.delay = c.delay.ensures.is in
    let hold : c.in_ok-hold.hold ≡ hold_of d asked e at = c.in_ok-hold.ensures.hold in
    let behind : c.in_ok-behind.behind ≡ behind_of d asked e at (hold_of d asked e at) =
    c.in_ok-behind.ensures.behind
    ∙ ap (λ (x : DocumentState). behind_of x asked e at c.in_ok-hold.hold) c.in_ok-hold.ensures.same
    ∙ ap (behind_of d asked e at) hold in
    let document : c.return_after.new.document ≡ document_of d asked e at =
    with_them d e at c.in_ok-hold.hold _ _ c.return_after.new.document
    (c.in_ok-behind.ensures.same ∙ c.in_ok-hold.ensures.same) c.in_ok-fail_at.ensures.added
    c.in_ok-return_after.ensures.added
    ∙ ap (λ (h : ℕ). with_case at h e d) hold in
    let until : at + c.delay.result + c.in_ok-hold.hold + c.in_ok-behind.behind ≡ end_at d asked e at =
    λ i. at + delay i + hold i + behind i in
    let aside : c.new-aside.result ≡ set_aside d asked e names at =
    c.new-aside.ensures ∙ (λ i. record {
      clocks = c.in_ok-from_slice.ensures.items i;
      from = at;
      back = at + delay i + hold i;
      begun = 0;
    }) in
    let drawn = c.seed_of-drawn.ensures in
    let whole : DocumentState = seeded_document (seed_of t run) (document_of d asked e at) in
    let seeded : c.set_seed.new.self ≡ whole = c.set_seed.ensures ∙ (λ i. seeded_document (drawn i) (document i)) in
    let ends : EndsOf draws (tracks c.args.options.now) (set_aside d asked e names at) whole (end_at d asked e at)
    (generator (seed_of t run)) last =
    subst (λ (s : ℕ). EndsOf draws (tracks c.args.options.now) (set_aside d asked e names at) whole
    (end_at d asked e at) (generator s) last) drawn
    (subst (λ (u : ℕ). EndsOf draws (tracks c.args.options.now) (set_aside d asked e names at) whole u
    (generator c.seed_of-drawn.result) last) until
    (subst (λ (x : DocumentState). EndsOf draws (tracks c.args.options.now) (set_aside d asked e names at) x
    (at + c.delay.result + c.in_ok-hold.hold + c.in_ok-behind.behind) (generator c.seed_of-drawn.result) last) seeded
    (subst (λ (a : AsideState). EndsOf draws (tracks c.args.options.now) a c.set_seed.new.self
    (at + c.delay.result + c.in_ok-hold.hold + c.in_ok-behind.behind) (generator c.seed_of-drawn.result) last) aside
    c.in_ok-ends.ensures.ends))) in
    let seen : not c.is_empty.result ≡ is_seen e =
    ap not (c.is_empty.ensures ∙ ap (λ (cs : List CaseChange). length cs == 0) c.seen.ensures.is) ∙ seen_is e.seen in
    ends_are c.ends_of.result (not c.is_empty.result) (is_seen e) last
    (CaseRunEnds c.args.options.now d t e names run) seen
    (λ r are. record {
      last = last;
      ends = subst (λ (time : ℕ). EndsOf draws (tracks c.args.options.now) (set_aside d asked e names time)
          (seeded_document (seed_of t run) (document_of d asked e time)) (end_at d asked e time)
          (generator (seed_of t run)) last)
          c.moment_of-down.ensures.is ends;
      are = are;
    }) c.ends_of.ensures.ends

pub returns-clause-same : goal.returns-clause-same
returns-clause-same c =
    let d = c.args.document.now in let asked = c.args.options.now.hold in let e = c.args.events.now in
    let at = c.moment_of-down.result in let hold = c.in_ok-hold.hold in
    let before = c.in_ok-behind.ensures.same ∙ c.in_ok-hold.ensures.same in
    let document = with_them d e at hold _ _ c.return_after.new.document before c.in_ok-fail_at.ensures.added
    c.in_ok-return_after.ensures.added in
    let own = c.seed-before.ensures ∙ ap (λ (n : NetworkState). n.seed) c.network.ensures in
    let back : c.set_seed-2.new.self ≡ c.return_after.new.document =
    c.set_seed-2.ensures ∙ ap (seeded_document c.seed-before.result) c.set_seed.ensures
    ∙ ap (λ seed. seeded_document seed c.return_after.new.document) own in
    let same : c.truncate.new.self ≡ d =
    c.truncate.ensures
    ∙ ap (with_first (length c.events-count.result.now)) back
    ∙ ap (λ (es : List Timed). with_first (length es) c.return_after.new.document)
    (c.events-count.ensures ∙ ap (λ (x : DocumentState). x.events) before)
    ∙ ap (with_first (length d.events)) document
    ∙ case_back d at hold e in
    on_ok c.ends_of.result same
