-- In a network that is left a link goes down that is up, and of which an end has failed: what is claimed of it stays.
use Rattle.std.proofs.Common.{◌≡◌, ◌≤◌, ◌*◌, ℕ, suc, pred, true, false, List, refl, sym, subst, ◌∙◌, inl, inr, arith}
use Rattle.gptp_lists.specs.Members.{In}
use Rattle.gptp_graph.specs.PathBound.{path_bound}
use Rattle.gptp_graph.specs.Snapshot.{IsLinked, IsWellFormed, Joins, Snapshot, clocks, port_of}
use Rattle.gptp_links.specs.Fate.{Draw}
use Rattle.gptp_scenario.specs.Calm.{NothingLapses}
use Rattle.gptp_scenario.specs.declared.change.Act.TheVariants.{Change as Changing}
use Rattle.gptp_scenario.specs.declared.change.Change.TheVariants.{LinkDown}
use Rattle.gptp_setup.specs.SettlingParams.{SettlingParams}
use Rattle.gptp_system.specs.Input.{PortDown}
use Rattle.gptp_model.specs.Acts.{Acts, AtLink}
use Rattle.gptp_model.specs.Changing.{GoesDownIf, IsChannel, TellsEnds, lost, taken_down}
use Rattle.gptp_model.specs.declared.done.Done.{Done}
use Rattle.gptp_model.specs.World.{Channel, WorldState, port_id}
use Rattle.gptp_bmca_machine.specs.LossLaws.{EverythingFits}
use Rattle.gptp_bmca_machine.specs.Network.{Network}
use Rattle.gptp_bmca_machine.specs.SoundLaws.{AllAreNear}
use Rattle.gptp_bmca_machine.specs.Station.{Disabled, Received}
use Rattle.gptp_invariants.specs.ChoiceCalm.{HaveQuietLinks, delay_in}
use Rattle.gptp_invariants.specs.ChoiceSettlesAsMachine.{IsWorld}
use Rattle.gptp_invariants.specs.ChoiceView.{says_announce, view}
use Rattle.gptp_invariants.specs.DelayMeasured.{LinkIsMeasured}
use Rattle.gptp_invariants.specs.WorldStanding.{channel_is_used, live_stations, snapshot_of}
use Rattle.gptp_invariants.proofs.ChoiceCalmKeptLemmas.{KeepsNetwork, delay_kept, same_snapshot}
use Rattle.gptp_invariants.proofs.WorldNewsLemmas.{ready_goes_through}
use Rattle.gptp_invariants.proofs.WorldStandsLemmas.{stands_well}
use Rattle.gptp_settling_time.specs.Losses.{IsUnmoved}
use Rattle.gptp_settling_time.proofs.BegunLeftLemmas.{begins_left}
use Rattle.gptp_settling_time.proofs.AlwaysClaimedLemmas.{IsStanding}
use Rattle.gptp_settling_time.proofs.FailedUpLemmas.{delay_set, used_set}
use Rattle.gptp_settling_time.proofs.FitsLemmas.{IsLeftUnmoved, UnlinkedHoldNothing}
use Rattle.gptp_settling_time.proofs.LeftClaimedLemmas.{HaveAskedBy, HaveAskedLong, IsLeftAlways, left_network, left_seen}
use Rattle.gptp_settling_time.proofs.LoweredLemmas.{StayOrAreAlone, less, other, told, wires}
use Rattle.gptp_settling_time.proofs.PortDownLemmas.{StandsReduced}
use Rattle.gptp_settling_time.proofs.ReducedLemmas.{IsReduced}
use Rattle.gptp_settling_time.proofs.SettledSeenLemmas.{IsSettledSeen}
use Rattle.gptp_settling_time.proofs.TakenDownLemmas.{silent_down, stood_down, told_keeps}
use Rattle.gptp_settling_time.proofs.UnlinkedLemmas.{IsLeftSeen, LostAreFarther}
use Rattle.gptp_settling_time.proofs.WidenedLemmas.{ready_first}

module _ (p : SettlingParams) (before : Snapshot) (silent owner port : ℕ) (w : WorldState) (draws : List Draw)
    (done : Done) (w' : WorldState) (is' : IsWorld p w') (measured' : LinkIsMeasured w')
    (acts : Acts (Changing (LinkDown owner port)) w draws done w') (left : IsLeftAlways p before silent w)
    (quiet : HaveQuietLinks p.params w) (off : NothingLapses p.params) where
  abbrev is : IsWorld p w
  is = left.standing.world

  abbrev k : AtLink (port_id owner port) w.net (λ place channel.
      GoesDownIf channel.up place channel (record w { last_change = w.time }) draws w')
  k = acts.1

  abbrev g : Snapshot
  g = snapshot_of w

  abbrev g' : Snapshot
  g' = snapshot_of w'

  abbrev n : Network
  n = left_network p silent w

  well : IsWellFormed g
  well = stands_well w is.sound is.between is.encodable

  well' : IsWellFormed g'
  well' = stands_well w' is'.sound is'.between is'.encodable

  seen : IsSettledSeen p w
  seen = left_seen p before silent w left quiet off

  claims : IsLeftSeen says_announce before n (view w)
  claims = left.seen quiet off

  module _ (up : k.channel.up ≡ true)
      (dead : (place : ℕ) (channel : Channel) → IsChannel (port_id owner port) place w.net channel
      → channel_is_used (live_stations w.stations) (record channel { up = true }) ≡ false) where
    abbrev taken : WorldState
    taken = record w { net = taken_down k.place k.channel w.net; last_change = w.time }

    tells : TellsEnds PortDown k.channel taken draws w'
    tells = subst (λ b. GoesDownIf b k.place k.channel (record w { last_change = w.time }) draws w') up k.so

    keeps : KeepsNetwork taken w'
    keeps = told_keeps k.channel taken draws w' tells

    unused : channel_is_used (live_stations w.stations) k.channel ≡ false
    unused =
        subst (λ b. channel_is_used (live_stations w.stations) (record k.channel { up = b }) ≡ false) (sym up)
        (dead k.place k.channel (record { here = k.is.here; joined = k.is.joined }))

    -- what is in use stays
    pub snapshot_now : g' ≡ g
    snapshot_now =
        same_snapshot taken w' keeps
        ∙ (λ i. record {
          systems = live_stations w.stations;
          links = used_set (live_stations w.stations) w.net.channels k.place k.channel (lost k.channel) k.is.here unused
              refl i;
        })

    delay_now : delay_in w' ≡ delay_in w
    delay_now =
        delay_kept taken w' keeps
        ∙ delay_set (live_stations w.stations) w.net.channels k.place k.channel (lost k.channel) k.is.here unused refl

    unmoved : (v : ℕ) → IsUnmoved g g' v
    unmoved v = subst (λ h. IsUnmoved g h v) (sym snapshot_now) (record { best = λ b best. best; far = λ d far. far })

    stay : StayOrAreAlone w w'
    stay v known = inl (unmoved v)

    unchanged : IsLeftUnmoved g g'
    unchanged = record {
      systems = λ s. subst (λ (h : Snapshot). In s h.systems) snapshot_now;
      links = λ a b. subst (λ h. Joins h a b) snapshot_now;
      unmoved = λ v known. inl (unmoved v);
    }

    stands : StandsReduced taken w'
    stands = told p w is k.place k.channel k.is.here draws w' is' tells seen left.near stay

    pub reduced : IsReduced (view w) (view w')
    reduced = less p w is k.place k.channel k.is.here draws w' is' tells seen left.near stay

    -- ---- what is claimed of ports

    standing' : IsStanding p silent w'
    standing' = record {
      pace = left.standing.pace;
      world = is';
      measured = measured';
      silent = silent_down p w is k.place k.channel k.is.here draws w' is' tells silent left.standing.silent;
    }

    -- ports at links have asked as they had
    pub asked_on : (since : ℕ) → HaveAskedBy since w → HaveAskedBy since w'
    asked_on since asked at s =
        let (one, by, soon, x) = asked at
        (stood_down p w is k.place k.channel k.is.here draws w' is' tells at s) in
        let ready = ready_goes_through p by at (Changing (LinkDown owner port)) w w' draws done is.sound
        left.standing.measured
        (other p silent owner port w draws done w' left.standing.pace is is' left.standing.measured measured' acts up at
        s) acts (inl (one, x.is)) in
        let late = x.late in
        let time = stands.time in
        let (first, then) = ready_first p by w' is' (omega (arith, late, time)) at ready in (
          first,
          by,
          soon,
          record { is = then; late = omega (arith, late, time) },
        )

    asked' : HaveAskedLong w'
    asked' at s =
        let (first, by, soon, x) = asked_on w.last_change left.asked at s in
        let late = x.late in
        let time = stands.time in
        let change = keeps.change in
        (first, by, omega (arith, late, time, change), x)

    -- ---- what is held and in flight

    unlinked' : UnlinkedHoldNothing g' (view w')
    unlinked' i s place r here live none (q, there, holds) =
        let (old, stood, same) = reduced.stations i s here live in
        elim (same.ports place q there) [
          | inl was ↦
              claims.unlinked i old place r stood (sym same.live ∙ live)
              (subst (λ c. IsLinked g (port_of c (suc place)) → ⊥) same.clock
              (subst (λ h. IsLinked h (port_of s.clock (suc place)) → ⊥) snapshot_now none)) (q, was, holds)
          | inr is_off ↦ absurd (let both : Received r ≡ Disabled = sym holds ∙ is_off in cc)
        ]

    still : IsLeftUnmoved before g'
    still = subst (IsLeftUnmoved before) (sym snapshot_now) left.left

    now_late : pred (path_bound g') * delay_in w' ≤ w'.time
    now_late =
        let late = left.late in
        let time = stands.time in
        subst (λ delay. pred (path_bound g') * delay ≤ w'.time) (sym delay_now)
        (subst (λ h. pred (path_bound h) * delay_in w ≤ w'.time) (sym snapshot_now) (omega (arith, late, time)))

    fits : EverythingFits says_announce before seen.n (view w)
    fits = record {
      lanes = λ j l f a at flies said known.
          claims.fits.lanes j l f a at flies said (subst (λ h. In l.to.clock (clocks h)) seen.graph known);
      stations = claims.fits.stations;
    }

    pub dead_left : IsLeftAlways p before silent w'
    dead_left =
        begins_left p before silent w w' is' left.well seen reduced unchanged still
        (wires p w is k.place k.channel k.is.here draws w' is' tells seen left.near (left_network p silent w') refl)
        fits standing' asked' (λ quiet'. unlinked') (subst AllAreNear (sym snapshot_now) left.near)
        (subst (LostAreFarther before) (sym snapshot_now) left.farther) now_late
