-- The claim begins with the world of a network, and is kept.
use Rattle.std.proofs.Common.{◌≢◌, ◌≤◌, ℕ, Option, length, refl}
use Rattle.std.specs.List.{range_with_len}
use Rattle.gptp_setup.specs.SettlingParams.{SettlingParams}
use Rattle.gptp_links.specs.declared.bounds.Bounds.{Bounds}
use Rattle.gptp_scenario.specs.declared.change.Act.{Act}
use Rattle.gptp_scenario.specs.declared.change.Act.TheVariants.{Deliver, Expire, Change as Changing}
use Rattle.gptp_scenario.specs.declared.change.Change.{Change}
use Rattle.gptp_scenario.specs.declared.change.Timed.{Timed}
use Rattle.gptp_model.specs.declared.done.Done.{Done}
use Rattle.gptp_model.specs.Acts.{Acts, at as at_time}
use Rattle.gptp_scenario.specs.Allowed.{IsFitAct}
use Rattle.gptp_model.specs.Course.{Begun, WasDone}
use Rattle.gptp_model.specs.Initial.{initial}
use Rattle.gptp_scenario.specs.Network.{IsNetwork, NetworkState, pace_of}
use Rattle.gptp_scenario.proofs.LogLemmas.{keeps_pace}
use Rattle.gptp_model.specs.Pending.{NothingBefore}
use Rattle.gptp_model.specs.Sound.{IsSound}
use Rattle.gptp_model.specs.World.{WorldState}
use Rattle.gptp_model.proofs.SoundLemmas.{later_sound, starts_sound}
use Rattle.gptp_model.specs.Prompt.{DelaysFitIntervals}
use Rattle.gptp_invariants.proofs.WorldKnownLemmas.{begins_known}
use Rattle.gptp_invariants.specs.DelayMeasured.{LinkIsMeasured}
use Rattle.gptp_invariants.proofs.DelayChangeKeptLemmas.{later_measured}
use Rattle.gptp_invariants.specs.WorldEncodableLaws.{SetsAnOctet}
use Rattle.gptp_invariants.proofs.WorldActEncodableLemmas.{initial_encodable, starts_encodable}
use Rattle.gptp_invariants.proofs.WorldBetweenLemmas.{networks_between, starts_between}
use Rattle.gptp_invariants.specs.ChoiceSettlesAsMachine.{BecomeCapable, IsWorld}
use Rattle.gptp_invariants.proofs.ChoiceSettlesAsMachineLemmas.{done_holds, first_begins as holds_first, later_holds}
use Rattle.gptp_invariants.proofs.WorldOutlineLemmas.{change_is_last, starts_are_last}
use Rattle.gptp_invariants.proofs.WorldSettledLemmas.{done_stays, time_stays}
use Rattle.gptp_invariants.proofs.DelayBeginLemmas.{first_begins as watches_first, first_measured}
use Rattle.gptp_invariants.proofs.DelayCapableKeptLemmas.{done_measured, done_watches, later_watches}
use Rattle.gptp_invariants.specs.FailedUnanswered.{FailedNeighboursAreSilent}
use Rattle.gptp_invariants.proofs.FailedUnansweredWorldLemmas.{acts_leave_silent, silent_at_first, silent_later}
use Rattle.gptp_invariants.specs.WorldSettlingInvariant.{KeepsAll}
use Rattle.gptp_invariants.proofs.DelayClaimedCapableLemmas.{are_capable}

-- ---- one world

pub claim_capable : (p : SettlingParams) (w : WorldState) → KeepsAll p w → BecomeCapable p w
claim_capable p w is = are_capable p w is.pace is.world is.watched is.silent

-- ---- it begins

-- the world of a network is one as it begins
first_world : {F : Type 0} (answers : Bounds → ℕ → F → Option ℕ → F → Type 0) (n : NetworkState)
    (fate fate_after : F) (w : WorldState) → IsNetwork n → IsSound (initial n)
    → Begun answers n fate fate_after w → IsWorld (pace_of n) w
first_world answers n fate fate_after w network sound k =
    let places = range_with_len 0 (length n.systems) in
    record {
      sound = starts_sound places (initial n) k.draws w sound k.starts;
      encodable = starts_encodable places (initial n) k.draws w sound (initial_encodable n network) k.starts;
      known = begins_known answers n fate fate_after w network k;
      between = starts_between places (initial n) k.draws w sound (networks_between n network) k.starts;
    }

pub claim_begins : {F : Type 0} (answers : Bounds → ℕ → F → Option ℕ → F → Type 0) (n : NetworkState)
    (fate fate_after : F) (w : WorldState) → IsNetwork n → IsSound (initial n)
    → Begun answers n fate fate_after w → KeepsAll (pace_of n) w
claim_begins answers n fate fate_after w network sound k =
    let world = first_world answers n fate fate_after w network sound k in
    let measured = first_measured answers n fate fate_after w sound k in
    let now = starts_are_last (range_with_len 0 (length n.systems)) (initial n) k.draws w refl k.starts in
    record {
      pace = keeps_pace n network;
      world = world;
      measured = measured;
      watched = watches_first answers n fate fate_after w network k world measured;
      silent = silent_at_first (pace_of n) w world.sound measured world.known now;
      settling = holds_first answers n fate fate_after w network k world;
    }

-- ---- time passes

pub claim_later : (p : SettlingParams) (w : WorldState) (time : ℕ) → w.time ≤ time → NothingBefore time w.net.pending
    → KeepsAll p w → KeepsAll p (at_time time w)
claim_later p w time later first is =
    let sound = later_sound w time w.last_change is.world.sound first in
    let world = time_stays p w time later sound is.world in
    let watched = later_watches p w time later first is.world is.watched in
    let silent = silent_later p time w is.silent in
    record {
      pace = is.pace;
      world = world;
      measured = later_measured time w later is.measured;
      watched = watched;
      silent = silent;
      settling = later_holds p w time later is.world world (claim_capable p w is)
          (are_capable p (at_time time w) is.pace world watched silent) is.settling;
    }

-- ---- from act to act

module _ {F : Type 0} (answers : Bounds → ℕ → F → Option ℕ → F → Type 0) (p : SettlingParams) (timed : Timed)
    (fate fate_after : F) (w w' : WorldState) (done : Done) (fit : IsFitAct timed.act)
    (prompt : DelaysFitIntervals w timed.act) (octet : SetsAnOctet timed.act)
    (k : WasDone answers timed fate fate_after w w' done) (is : KeepsAll p w) where
  abbrev then : WorldState
  then = at_time timed.at w

  -- just before the act
  claim_then : KeepsAll p then
  claim_then =
      let timely = k.ready.timely in
      claim_later p w timed.at timely.now timely.first is

  world_after : IsWorld p w'
  world_after = done_stays answers p timed fate fate_after w w' done fit prompt octet k is.world

  measured_after : LinkIsMeasured w'
  measured_after = done_measured answers timed fate fate_after w w' done octet k is.world.sound is.measured

  -- a change begins the silence anew
  silent_after : FailedNeighboursAreSilent p w'
  silent_after = by timed.act k.acts
    where
      still : (act : Act) → ((change : Change) → act ≢ Changing change) → Acts act then k.draws done w'
          → FailedNeighboursAreSilent p w'
      still act none acts =
          acts_leave_silent p act then w' k.draws done claim_then.world.sound claim_then.measured
          claim_then.world.known none acts claim_then.silent

      by : (act : Act) → Acts act then k.draws done w' → FailedNeighboursAreSilent p w'
      by (Deliver link direction) acts = still (Deliver link direction) (λ change same. absurd cc) acts
      by (Expire number timer) acts = still (Expire number timer) (λ change same. absurd cc) acts
      by (Changing change) acts =
          silent_at_first p w' world_after.sound measured_after world_after.known
          (change_is_last change then k.draws done w' acts)

  pub claim_kept : KeepsAll p w'
  claim_kept =
      let watched =
      done_watches answers p timed fate fate_after w w' done is.pace fit prompt octet k is.world is.measured
      is.watched in
      record {
        pace = is.pace;
        world = world_after;
        measured = measured_after;
        watched = watched;
        silent = silent_after;
        settling = done_holds answers p timed fate fate_after w w' done is.pace.largest fit prompt octet k
            is.world (claim_capable p w is) (claim_capable p then claim_then)
            (are_capable p w' is.pace world_after watched silent_after) is.settling;
      }
