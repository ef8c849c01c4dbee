-- How exact what a system reads is where a run ends, where it used a Follow_Up lately.
use Rattle.std.proofs.Common.{◌≡◌, ◌≤◌, ℕ, ℤ, Option, Some, None, refl, arith}
use Rattle.std.specs.Prelude.{IsSome}
use Rattle.gptp_graph.specs.PathBound.{BoundsPaths, path_bound}
use Rattle.gptp_links.specs.declared.bounds.Bounds.{Bounds}
use Rattle.gptp_scenario.specs.SyncWait.{sync_wait}
use Rattle.gptp_setup.proofs.IntervalLemmas.{interval_positive}
use Rattle.gptp_invariants.specs.ChoiceCalm.{sync_paths_of}
use Rattle.gptp_invariants.specs.WorldStanding.{snapshot_of}
use Rattle.gptp_invariants.proofs.SyncExactLemmas.{claimed_of}
use Rattle.gptp_invariants.proofs.ChoiceSettlesAsMachineLemmas.{paths_bound}
use Rattle.gptp_reading.specs.Age.{RunsReadLately}
use Rattle.gptp_reading.specs.Reading.{reading}
use Rattle.gptp_reading.specs.Readings.{LeavesReading}
use Rattle.gptp_reading.proofs.AgeLemmas.{claimed_alike}
use Rattle.gptp_reading.proofs.ExactLemmas.{used_shows}
use Rattle.gptp_reading.proofs.HeardLemmas.{runs_hear_in_time}
use Rattle.gptp_reading.proofs.LastingLemmas.{ends_claimed, like_end, runs_have_readings, runs_read_in_time}

-- what is read
read_of : (o : Option ℤ) → IsSome o → (read : ℤ) × (o ≡ Some read)
read_of None some = absurd cc
read_of (Some read) some = (read, refl)

pub runs_read_lately : {F : Type 0} (answers : Bounds → ℕ → F → Option ℕ → F → Type 0) → RunsReadLately answers
runs_read_lately answers d until fate start w acts p earlier steps number port error s shown playable moment unfolds
    calm above come waited near shows slave can way best =
    let m = path_bound (snapshot_of w) in
    let wait = sync_wait p.params (sync_paths_of w) in
    let all = ends_claimed answers d until fate start w acts playable moment unfolds in
    let claimed = claimed_alike w (claimed_of w all) p calm shows.place shows.station shows.is.here in
    let bounded : BoundsPaths (snapshot_of w) m = paths_bound p w claimed.world in
    let heard = runs_hear_in_time answers d until fate start w acts p number port s playable moment unfolds calm above
    (omega (arith, come, waited)) near shows slave can in
    let lately = heard.lately in
    let since : earlier ≤ heard.act.told.timed.at = omega (arith, lately, waited) in
    let some = interval_positive p.largest claimed.pace.largest in
    let like = like_end answers d until fate start w acts heard.act playable moment unfolds heard.member
    (omega (arith, come, since, some)) in
    let (after, shows_after) = used_shows answers heard.act.told.timed like.kept.fate like.kept.fate_after
    heard.act.before heard.act.after heard.act.told.done number like.kept.was heard.uses in
    let (read, is_read) = read_of (reading after w.time)
    (runs_have_readings answers p m steps earlier number w.time w heard.act after way.way way.phase like calm bounded
    come since heard.uses shows_after near way.leads) in
    let leaves : LeavesReading number heard.act.after heard.act.told.done w.time read =
    record { uses = heard.uses; system = after; shows = shows_after; is = is_read } in
    record {
      act = heard.act;
      member = heard.member;
      lately = lately;
      read = read;
      leaves = leaves;
      exact = runs_read_in_time answers d until fate start w acts heard.act p m steps number earlier wait error read
          shown playable moment unfolds heard.member calm bounded come since lately leaves near way best;
    }
