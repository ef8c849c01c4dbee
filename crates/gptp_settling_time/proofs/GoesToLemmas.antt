-- What is in flight in a world of a document is gone as its links say.
use Rattle.std.proofs.Common.{◌≡◌, ◌⊎◌, ◌*◌, ◌+◌, ◌∙◌, ℕ, zero, suc, List, ap, inl, inr, pred, ◌<◌, ◌≤◌, sym, arith}
use Rattle.gptp_scenario.specs.Network.{pace_of}
use Rattle.gptp_scenario.specs.SyncWait.{sync_paths}
use Rattle.gptp_scenario.specs.declared.change.Timed.{Timed}
use Rattle.gptp_scenario.specs.declared.sync_wait.SyncPaths.{SyncPaths}
use Rattle.gptp_setup.specs.SettlingParams.{largest_interval}
use Rattle.gptp_model.specs.World.{WorldState}
use Rattle.gptp_network.specs.Document.{DocumentState}
use Rattle.gptp_invariants.specs.ChoiceCalm.{sync_paths_of, delay_in}
use Rattle.gptp_theorem.specs.PlayedLaws.{IsPlayable}
use Rattle.gptp_theorem.proofs.SyncPathLemmas.{paths_stand}
use Rattle.gptp_settling_time.specs.EventKinds.{FlightIsGone, nearer_echo_span}
use Rattle.gptp_settling_time.proofs.BecomesSoundLemmas.{GoesBy, nearer_echo}
use Rattle.gptp_settling_time.proofs.KeptToLemmas.{KeepsTo}
use Rattle.gptp_settling_time.proofs.LeftToLemmas.{up_in_use}
use Rattle.gptp_lists.proofs.MappedLemmas.{alike}
use Rattle.gptp_scenario.specs.Change.{link_after}
use Rattle.gptp_scenario.specs.declared.network.LinkSpec.{LinkSpec}
use Rattle.gptp_theorem.specs.Reached.{channel_wire}
use Rattle.gptp_settling_time.specs.Arrivals.{HasArrivedSinceSet, arrived_by}
use Rattle.gptp_settling_time.specs.Losses.{UpIsWithin}
use Rattle.gptp_invariants.specs.WorldStanding.{live_stations}
use Rattle.gptp_invariants.proofs.WorldGreatestDelayLemmas.{delay_short}
use Rattle.gptp_invariants.proofs.WorldStandsLemmas.{used_up}
use Rattle.gptp_settling_time.proofs.LosingLemmas.{delay_most}
use Rattle.gptp_settling_time.proofs.DueLemmas.{AreDueBy, IsGoneBy, UpIsWithinIn, due_within}

module _ (d : DocumentState) (playable : IsPlayable d) (events : List Timed) (w : WorldState)
    (keeps : KeepsTo d events w) where
  -- its paths are those of the document
  pub paths_to : sync_paths d.network events ≡ sync_paths_of w
  paths_to = paths_stand d.network events w playable.network keeps.stands keeps.claim.world.sound

  -- so is how long right traces take
  pub echo_to : nearer_echo_span d.network events ≡ nearer_echo (pace_of d.network) w
  echo_to = ap (λ (u : SyncPaths). pred (pred u.systems) * (largest_interval (pace_of d.network) + u.delay)) paths_to

  -- and by when what is in flight is gone
  pub goes_to : (gone : ℕ) → FlightIsGone d.network events gone → GoesBy (pace_of d.network) gone w
  goes_to gone (inl (used, is)) = inl (up_in_use d events w keeps used, is ∙ ap (λ (u : SyncPaths). u.delay) paths_to)
  goes_to gone (inr is) = inr is

  -- no link that is up takes longer than the document says
  pub within_to : (most : ℕ) → UpIsWithin d.network events most → UpIsWithinIn most w
  within_to most within link channel here up =
      let (v, there, same) = alike (link_after events) channel_wire d.network.links w.net.channels
      (sym keeps.stands.links) link channel here in
      let short = within link v there (ap (λ (x : LinkSpec). x.up) same ∙ up) in
      let longest : (link_after events v).bounds.max ≡ channel.bounds.max = ap (λ (x : LinkSpec). x.bounds.max) same in
      omega (arith, short, longest)

  -- so what is in flight is gone as soon
  pub due_to : (most old : ℕ) → UpIsWithin d.network events most → HasArrivedSinceSet d.network events old
      → w.time + most ≤ old → AreDueBy old w
  due_to longest old within (most, bounded, arrived) later =
      due_within longest (arrived_by most events) old w keeps.claim.world.sound (within_to longest within)
      (keeps.limited most bounded) arrived later

  -- ---- what was in flight at a time

  -- It is gone so much later, where what was in flight as a link was last set has arrived by such a time.
  abbrev pub FlightGoes : (ℕ → Type 0) → ℕ → ℕ → Type 0
  FlightGoes Limits start flight = FlightIsGone d.network events flight
      ⊎ (UpIsWithin d.network events flight × (limit : ℕ) × Limits limit × (limit ≤ start + flight))

  -- no link in use takes longer
  pub delay_to : (Limits : ℕ → Type 0) (start flight : ℕ) → FlightGoes Limits start flight → delay_in w ≤ flight
  delay_to Limits start flight (inl (inl (used, is))) =
      let delay = ap (λ (u : SyncPaths). u.delay) paths_to in omega (arith, is, delay)
  delay_to Limits start flight (inl (inr is)) =
      let short = delay_short (pace_of d.network) w keeps.claim.world.known in omega (arith, is, short)
  delay_to Limits start flight (inr (within, limit, is_limit, soon)) =
      delay_most (live_stations w.stations) w.net.channels flight
      (λ link channel here used.
      within_to flight within link channel here (used_up (live_stations w.stations) channel used))

  -- it is gone by now
  pub gone_to : (Limits : ℕ → Type 0) (start flight : ℕ) → FlightGoes Limits start flight → start + flight < w.time
      → IsGoneBy (pace_of d.network) Limits start (pred w.time) w
  gone_to Limits start flight goes gone = by goes
    where
      before : (now : ℕ) {span : ℕ} → span ≤ start + flight → start + flight < now → span ≤ pred now
      before zero most less = absurd (omega (arith, less))
      before (suc now) most less = omega (arith, most, less)

      by : FlightGoes Limits start flight → IsGoneBy (pace_of d.network) Limits start (pred w.time) w
      by (inl (inl (used, is))) =
          let delay = ap (λ (u : SyncPaths). u.delay) paths_to in
          inr (inl (up_in_use d events w keeps used, before w.time (omega (arith, is, delay)) gone))
      by (inl (inr is)) = inl (before w.time (omega (arith, is)) gone)
      by (inr (within, limit, is_limit, soon)) =
          inr (inr (
            flight,
            within_to flight within,
            limit,
            is_limit,
            before w.time soon gone,
            before w.time (omega arith) gone,
          ))
