-- A link goes down at whose one end a tree that it moves has its top: that end answers, and all else stands as it did
-- but for the port at the other end.
use Rattle.std.proofs.Common.{◌≡◌, ◌≢◌, ◌⊎◌, ℕ, zero, suc, true, List, Some, slice_get, refl, sym, ap, subst, ◌∙◌, inl, inr, arith}
use Rattle.gptp_lists.specs.Members.{In}
use native.Mathlib.Decide.{ℕ_discrete}
use Rattle.gptp_graph.specs.Snapshot.{clocks}
use Rattle.gptp_links.specs.declared.link.Direction.{Direction}
use Rattle.gptp_links.specs.declared.link.Direction.TheVariants.{FromA, FromB}
use Rattle.gptp_links.specs.Fate.{Draw}
use Rattle.gptp_setup.specs.SettlingParams.{SettlingParams}
use Rattle.gptp_system.specs.Input.{PortDown}
use Rattle.gptp_system.specs.State.{clock}
use Rattle.gptp_system.specs.Steps.{HasPortNumber}
use Rattle.gptp_model.specs.Changing.{TellsEnds, taken_down}
use Rattle.gptp_model.specs.World.{Channel, WorldState, sender}
use Rattle.gptp_model.specs.declared.station.Station.{Station}
use Rattle.gptp_bmca_machine.specs.Network.{Network}
use Rattle.gptp_bmca_machine.specs.SoundLaws.{AllAreNear}
use Rattle.gptp_bmca_machine.specs.Station.{Station as SeenStation}
use Rattle.gptp_bmca_machine.specs.Touch.{Disable, StationTouch}
use Rattle.gptp_bmca_machine.proofs.PlaceLemmas.{same_there as machine_there}
use Rattle.gptp_invariants.specs.ChoiceSettlesAsMachine.{IsWorld}
use Rattle.gptp_invariants.specs.ChoiceView.{says_announce, station_view, view}
use Rattle.gptp_invariants.specs.WorldStanding.{snapshot_of}
use Rattle.gptp_invariants.proofs.ChoicePlaceLemmas.{station_there}
use Rattle.gptp_settling_time.specs.Losses.{IsUnmoved}
use Rattle.gptp_settling_time.proofs.EndAnswersLemmas.{EndAnswers}
use Rattle.gptp_settling_time.proofs.LeftClaimedLemmas.{left_network}
use Rattle.gptp_settling_time.proofs.LoweredLemmas.{known}
use Rattle.gptp_settling_time.proofs.OneEndLemmas.{turns_a, turns_b}
use Rattle.gptp_settling_time.proofs.ReducedLemmas.{NearerStay}
use Rattle.gptp_settling_time.proofs.SettledSeenLemmas.{IsSettledSeen}

module _ (p : SettlingParams) (silent : ℕ) (w : WorldState) (is : IsWorld p w) (place : ℕ) (channel : Channel)
    (here : slice_get w.net.channels place ≡ Some channel) (draws : List Draw) (w' : WorldState) (is' : IsWorld p w')
    (told : TellsEnds PortDown channel (record w { net = taken_down place channel w.net; last_change = w.time })
    draws w')
    (seen : IsSettledSeen p w) (near : AllAreNear (snapshot_of w))
    (live : (direction : Direction) (at : ℕ) (station : Station) → slice_get w.stations at ≡ Some station
    → clock station.system ≡ (sender direction channel).clock → station.live ≡ true) (top other : ℕ)
    (ends_are : ((channel.a.clock ≡ top) × (channel.b.clock ≡ other))
    ⊎ ((channel.b.clock ≡ top) × (channel.a.clock ≡ other)))
    (other_stays : In other (clocks (snapshot_of w')) → IsUnmoved (snapshot_of w) (snapshot_of w') other
    × NearerStay (snapshot_of w) (snapshot_of w') other) where
  abbrev n : Network
  n = left_network p silent w'

  live_a : told.station_a.live ≡ true
  live_a = live FromA told.place_a told.station_a told.is_a.here told.is_a.named

  live_b : told.station_b.live ≡ true
  live_b = live FromB told.place_b told.station_b told.is_b.here told.is_b.named

  end_known : (way : Direction) → In (sender way channel).clock (clocks (snapshot_of w'))
  end_known FromA =
      subst (λ c. In c (clocks (snapshot_of w'))) told.is_a.named
      (known p w is place channel here draws w' is' told seen near FromA told.place_a told.station_a told.is_a.here
      told.is_a.named live_a)
  end_known FromB =
      subst (λ c. In c (clocks (snapshot_of w'))) told.is_b.named
      (known p w is place channel here draws w' is' told seen near FromB told.place_b told.station_b told.is_b.here
      told.is_b.named live_b)

  stays_by : (way : Direction) → (sender way channel).clock ≡ other
      → IsUnmoved (snapshot_of w) (snapshot_of w') (sender way channel).clock
      × NearerStay (snapshot_of w) (snapshot_of w') (sender way channel).clock
  stays_by way is_other =
      subst (λ v. IsUnmoved (snapshot_of w) (snapshot_of w') v × NearerStay (snapshot_of w) (snapshot_of w') v)
      (sym is_other)
      (other_stays (subst (λ c. In c (clocks (snapshot_of w'))) is_other (end_known way)))

  stays : (way : Direction) → (sender way channel).clock ≢ top
      → IsUnmoved (snapshot_of w) (snapshot_of w') (sender way channel).clock
      × NearerStay (snapshot_of w) (snapshot_of w') (sender way channel).clock
  stays FromA apart = elim ends_are [
    | inl (is_a, is_b) ↦ absurd (apart is_a)
    | inr (is_b, is_a) ↦ stays_by FromA is_a
  ]
  stays FromB apart = elim ends_are [
    | inl (is_a, is_b) ↦ stays_by FromB is_b
    | inr (is_b, is_a) ↦ absurd (apart is_b)
  ]

  -- the top answers, and what stands at this place is the other end
  pub record TopAnswers : Type 0 where
    pub touch : StationTouch
    pub at : ℕ
    pub answers : EndAnswers says_announce n top touch at (view w) (view w')
    pub end : (m : SeenStation) → slice_get (view w').stations at ≡ Some m → m.live ≡ true
        → (top ≡ other) ⊎ (m.clock ≡ other)

  at_end : (touch : StationTouch) (at : ℕ) (station : Station) → slice_get w.stations at ≡ Some station
      → clock station.system ≡ other
      → EndAnswers says_announce n top touch at (view w) (view w') → (m : SeenStation)
      → slice_get (view w').stations at ≡ Some m → m.live ≡ true → (top ≡ other) ⊎ (m.clock ≡ other)
  at_end touch at station stands is_other a m there lives = elim (ℕ_discrete at (n.place top)) [
    | yes same ↦
        let one = machine_there (view w).stations at (station_view station) a.s (station_there w.stations at station
        stands) (subst (λ i. slice_get (view w).stations i ≡ Some a.s) (sym same) a.here) in
        inl (sym a.named ∙ ap (λ (z : SeenStation). z.clock) (sym one) ∙ is_other)
    | no apart ↦
        let (old, stood, less) = a.others at m there lives apart in
        let one = machine_there (view w).stations at old (station_view station) stood
        (station_there w.stations at station stands) in
        inr (less.clock ∙ ap (λ (z : SeenStation). z.clock) one ∙ is_other)
  ]

  by_a : channel.a.clock ≡ top → channel.b.clock ≡ other → (i : ℕ) → channel.a.port ≡ i
      → HasPortNumber told.station_a.system i → TopAnswers
  by_a is_a is_b zero number of = absurd (let least = of.least in omega (arith, least))
  by_a is_a is_b (suc i) number of =
      let a = turns_a p w is place channel here draws w' is' told seen near silent top stays live_a live_b is_a i number
      in
      record {
        touch = Disable (suc i);
        at = told.place_b;
        answers = a;
        end = at_end (Disable (suc i)) told.place_b told.station_b told.is_b.here (told.is_b.named ∙ is_b) a;
      }

  by_b : channel.b.clock ≡ top → channel.a.clock ≡ other → (i : ℕ) → channel.b.port ≡ i
      → HasPortNumber told.station_b.system i → TopAnswers
  by_b is_b is_a zero number of = absurd (let least = of.least in omega (arith, least))
  by_b is_b is_a (suc i) number of =
      let a = turns_b p w is place channel here draws w' is' told seen near silent top stays live_a live_b is_b i number
      in
      record {
        touch = Disable (suc i);
        at = told.place_a;
        answers = a;
        end = at_end (Disable (suc i)) told.place_a told.station_a told.is_a.here (told.is_a.named ∙ is_a) a;
      }

  pub top_answers : TopAnswers
  top_answers = elim ends_are [
    | inl (is_a, is_b) ↦ by_a is_a is_b channel.a.port refl
        (is.sound.wired.ports place told.place_a FromA channel told.station_a here told.is_a.here told.is_a.named)
    | inr (is_b, is_a) ↦ by_b is_b is_a channel.b.port refl
        (is.sound.wired.ports place told.place_b FromB channel told.station_b here told.is_b.here told.is_b.named)
  ]
