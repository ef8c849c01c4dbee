-- Once a document has settled, no act leaves a system another.
use Rattle.std.proofs.Common.{ℕ, Option, arith}
use Rattle.gptp_links.specs.declared.bounds.Bounds.{Bounds}
use Rattle.gptp_scenario.specs.Network.{pace_of}
use Rattle.gptp_network.specs.Snapshot.{events_by}
use Rattle.gptp_settling_time.specs.InTurn.{ChoosesAfter, SettlesAfter}
use Rattle.gptp_settling_time.specs.Unchanged.{ActsLeaveChoice, ActsLeaveShown}
use Rattle.gptp_settling_time.proofs.DocumentLemmas.{run_to}
use Rattle.gptp_settling_time.proofs.AfterLemmas.{IsAfter, after_chooses, after_keeps, after_later, after_settles}
use Rattle.gptp_settling_time.proofs.InTurnLemmas.{passed_in_turn}
use Rattle.gptp_settling_time.proofs.StepLemmas.{step_leaves, step_leaves_choice}

pub acts_leave_shown : {F : Type 0} (answers : Bounds → ℕ → F → Option ℕ → F → Type 0) → ActsLeaveShown answers
acts_leave_shown answers d until fate first w ts t playable k member is later near =
    let run = run_to answers d until fate first w ts t playable k member in
    let now = t.told.timed.at in
    let all = events_by now d.events in
    let passed = passed_in_turn answers SettlesAfter d now now fate first run.w run.ts playable run.unfolds is in
    step_leaves (pace_of d.network) answers (IsAfter d all is.last) (after_later d all is.last)
    (λ v so. (after_keeps d all is.last v so).claim.world) now t (passed.each t run.member later) (omega arith) near
    (λ v so on. (after_settles d playable all is.calm now v on is.last so is.settles).0)

-- nor its choice, once that stands
pub acts_leave_choice : {F : Type 0} (answers : Bounds → ℕ → F → Option ℕ → F → Type 0) → ActsLeaveChoice answers
acts_leave_choice answers d until fate first w ts t playable k member is later near =
    let run = run_to answers d until fate first w ts t playable k member in
    let now = t.told.timed.at in
    let all = events_by now d.events in
    let passed = passed_in_turn answers ChoosesAfter d now now fate first run.w run.ts playable run.unfolds is in
    step_leaves_choice (pace_of d.network) answers (IsAfter d all is.last) (after_later d all is.last)
    (λ v so. (after_keeps d all is.last v so).claim.world) now t (passed.each t run.member later) (omega arith) near
    (λ v so on. after_chooses d playable all is.calm now v on is.last so is.settles)
