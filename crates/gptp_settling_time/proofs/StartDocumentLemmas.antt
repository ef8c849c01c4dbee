-- A document before its first event is settled as soon as a network that starts is.
use Rattle.std.proofs.Common.{◌≤◌, ℕ, [], Option, ap, subst, arith, List}
use Rattle.gptp_lists.specs.Members.{In}
use Rattle.gptp_links.specs.declared.bounds.Bounds.{Bounds}
use Rattle.gptp_scenario.specs.Network.{pace_of}
use Rattle.gptp_scenario.specs.SyncWait.{sync_paths}
use Rattle.gptp_scenario.specs.declared.sync_wait.SyncPaths.{SyncPaths}
use Rattle.gptp_model.specs.Course.{Begun}
use Rattle.gptp_model.specs.World.{WorldState}
use Rattle.gptp_world.specs.Transitions.{ActTrace}
use Rattle.gptp_network.specs.Document.{DocumentState}
use Rattle.gptp_report.specs.Transitions.{Courses, Unfolds}
use Rattle.gptp_theorem.specs.PlayedLaws.{IsPlayable}
use Rattle.gptp_theorem.proofs.SyncPathLemmas.{paths_stand}
use Rattle.gptp_settling_time.specs.Gains.{exchanged_from}
use Rattle.gptp_settling_time.specs.EventKinds.{UsedVaryLittle}
use Rattle.gptp_settling_time.specs.Starts.{DocumentsStartAtOnce, StartsBy}
use Rattle.gptp_settling_time.proofs.BegunLemmas.{begun_keeps}
use Rattle.gptp_settling_time.proofs.PassLemmas.{IsStep, passes_to}
use Rattle.gptp_settling_time.proofs.ClaimedToLemmas.{IsClaimedTo, claimed_act, claimed_later, claimed_settled_as, used_vary, varies_little}
use Rattle.gptp_settling_time.proofs.StartLemmas.{begun_since}

-- a document begins as such a world
pub begun_claimed : {F : Type 0} (answers : Bounds → ℕ → F → Option ℕ → F → Type 0) (d : DocumentState)
    (playable : IsPlayable d) (fate fate_after : F) (w : WorldState) (k : Begun answers d.network fate fate_after w)
    (start : ℕ) → exchanged_from (pace_of d.network) (sync_paths d.network []) 0 ≤ start
    → UsedVaryLittle d.network [] → IsClaimedTo d [] start w
begun_claimed answers d playable fate fate_after w k start late vary =
    let keeps = begun_keeps answers d playable fate fate_after w k in
    let delay = ap (λ (x : SyncPaths). x.delay)
    (paths_stand d.network [] w playable.network keeps.stands keeps.claim.world.sound) in
    record {
      keeps = keeps;
      since = begun_since answers d.network fate fate_after w playable.network k start (omega (arith, delay, late))
          (varies_little d [] w keeps vary);
    }

-- each act of its run is done in such worlds
pub starts_passed : {F : Type 0} (answers : Bounds → ℕ → F → Option ℕ → F → Type 0) (d : DocumentState) (until : ℕ)
    (fate : F) (first w : WorldState) (ts : List ActTrace) → IsPlayable d → Unfolds answers d until fate first ts w
    → {settled : ℕ} → StartsBy d until settled → (t : ActTrace) → In t ts
    → IsStep answers (IsClaimedTo d [] (exchanged_from (pace_of d.network) (sync_paths d.network []) 0)) t
starts_passed answers d until fate first w ts playable k is t member =
    let p = pace_of d.network in
    let start = exchanged_from p (sync_paths d.network []) 0 in
    let course = subst (λ es. Courses answers until es ts k.started k.drawn first w) is.none k.courses in
    let passed = passes_to answers (IsClaimedTo d [] start) (claimed_later d [] start)
    (λ t one drawn v next was so. claimed_act d [] start answers t one drawn v next was so) until ts k.started
    k.drawn first w
    course (begun_claimed answers d playable fate k.started first k.begun start (omega arith)
    (used_vary d.network [] is.little)) in
    passed.each t member

pub documents_start_at_once : {F : Type 0} (answers : Bounds → ℕ → F → Option ℕ → F → Type 0)
    → DocumentsStartAtOnce answers
documents_start_at_once answers d until settled fate first w ts t playable k is member late =
    let start = exchanged_from (pace_of d.network) (sync_paths d.network []) 0 in
    let step = starts_passed answers d until fate first w ts playable k is t member in
    let time = step.time in
    let settles = is.settles in
    claimed_settled_as d [] start t.after step.after playable is.calm is.nothing
    (omega (arith, late, time, settles)) until is.none
