-- A link goes down that one end of it heard the best over: that system answers, and all else stands as it did, but for
-- the port at the other end.
use Rattle.std.proofs.Common.{◌≡◌, ◌≢◌, ℕ, suc, true, false, List, Some, slice_get, refl, sym, ap, subst, ◌∙◌, inl, inr}
use Rattle.gptp_lists.proofs.MappedLemmas.{same_there}
use Rattle.gptp_links.specs.declared.link.Direction.{Direction}
use Rattle.gptp_links.specs.declared.link.Direction.TheVariants.{FromA, FromB}
use Rattle.gptp_links.specs.Fate.{Draw}
use Rattle.gptp_setup.specs.SettlingParams.{SettlingParams}
use Rattle.gptp_system.specs.declared.answer.Answer.{Answer}
use Rattle.gptp_system.specs.Input.{PortDown}
use Rattle.gptp_system.specs.State.{clock}
use Rattle.gptp_system.specs.Steps.{HasPortNumber}
use Rattle.gptp_model.specs.Act.{Calls}
use Rattle.gptp_model.specs.Changing.{CallsIfLive, TellsEnds, taken_down}
use Rattle.gptp_model.specs.World.{Channel, WorldState, sender}
use Rattle.gptp_model.specs.declared.station.Station.{Station}
use Rattle.gptp_model.proofs.StayLemmas.{stays_apart, taken_down_stays}
use Rattle.gptp_bmca_machine.specs.Network.{Network}
use Rattle.gptp_bmca_machine.specs.RestLaws.{SameWiring}
use Rattle.gptp_bmca_machine.specs.SoundLaws.{AllAreNear}
use Rattle.gptp_bmca_machine.specs.Station.{Station as SeenStation}
use Rattle.gptp_bmca_machine.specs.Touch.{Disable}
use Rattle.gptp_invariants.specs.ChoiceSettlesAsMachine.{IsWorld}
use Rattle.gptp_invariants.specs.ChoiceView.{lanes_view, says_announce, view}
use Rattle.gptp_invariants.specs.WorldStanding.{snapshot_of}
use Rattle.gptp_invariants.proofs.ChoiceSendLemmas.{lanes_apart}
use Rattle.gptp_invariants.proofs.ChoiceTakeUpLemmas.{BeginApart}
use Rattle.gptp_invariants.proofs.WorldActEncodableLemmas.{answering_kept}
use Rattle.gptp_invariants.proofs.WorldAnsweringLemmas.{IsAnswering, calls_answering, sound_answers}
use Rattle.gptp_settling_time.proofs.LeftClaimedLemmas.{left_network}
use Rattle.gptp_settling_time.proofs.LinkStoodLemmas.{ends_apart, second_still}
use Rattle.gptp_settling_time.proofs.LoweredLemmas.{can_lose, wires}
use Rattle.gptp_settling_time.proofs.PortDownLemmas.{CanLose}
use Rattle.gptp_settling_time.proofs.ReducedLemmas.{NearerStay}
use Rattle.gptp_settling_time.specs.Losses.{IsUnmoved}
use Rattle.gptp_settling_time.proofs.SettledSeenLemmas.{IsSettledSeen}
use Rattle.gptp_settling_time.proofs.EndAnswersLemmas.{EndAnswers}
use Rattle.gptp_settling_time.proofs.TurnsDownLemmas.{StandsButOne, goes_down_but_one, stands_itself, turns_down}

module _ (p : SettlingParams) (w : WorldState) (is : IsWorld p w) (place : ℕ) (channel : Channel)
    (here : slice_get w.net.channels place ≡ Some channel) (draws : List Draw) (w' : WorldState) (is' : IsWorld p w')
    (k : TellsEnds PortDown channel (record w { net = taken_down place channel w.net; last_change = w.time }) draws w')
    (seen : IsSettledSeen p w) (near : AllAreNear (snapshot_of w))
    (next x : ℕ)
    (stays : (way : Direction) → (sender way channel).clock ≢ x
    → IsUnmoved (snapshot_of w) (snapshot_of w') (sender way channel).clock
    × NearerStay (snapshot_of w) (snapshot_of w') (sender way channel).clock) where
  abbrev taken : WorldState
  taken = record w { net = taken_down place channel w.net; last_change = w.time }

  abbrev n : Network
  n = left_network p next w'

  pub wired : SameWiring seen.n n
  wired = wires p w is place channel here draws w' is' k seen near n refl

  placed : (i : ℕ) (m : SeenStation) → slice_get (view w).stations i ≡ Some m → i ≡ n.place m.clock
  placed i m at = seen.calm.placed i m at ∙ sym (wired.place m.clock)

  -- ---- the end that isn't moved

  loses : (way : Direction) (at : ℕ) (station : Station) → slice_get w.stations at ≡ Some station
      → clock station.system ≡ (sender way channel).clock → station.live ≡ true → clock station.system ≢ x
      → CanLose station (sender way channel).port
  loses way at station stands named live other =
      can_lose p w is place channel here draws w' is' k seen near way at station stands named live
      (inl (subst (λ v. IsUnmoved (snapshot_of w) (snapshot_of w') v × NearerStay (snapshot_of w) (snapshot_of w') v)
      (sym named) (stays way (λ same. other (named ∙ same)))))

  -- ---- both ends

  answering : IsAnswering taken
  answering =
      answering_kept.link_down place channel (record w { last_change = w.time }) here
      (answering_kept.change_counted w (sound_answers w is.sound is.encodable))

  begin_apart : BeginApart (lanes_view taken.net.channels)
  begin_apart =
      lanes_apart taken
      (stays_apart w (record w { net = taken_down place channel w.net })
      (taken_down_stays place channel w here is.sound.wired.setups) is.sound.wired.apart)
      (λ link other there. (answering.encodable.links link other there).ends)

  apart : k.place_a ≢ k.place_b
  apart = ends_apart PortDown channel taken draws w' k (is.between place channel here).apart

  still_b : slice_get k.between.stations k.place_b ≡ Some k.station_b
  still_b = second_still PortDown channel taken draws w' k (is.between place channel here).apart

  -- a live system is called
  is_called : (at : ℕ) (input : ℕ) (u u' : WorldState) (ds : List Draw) (station : Station)
      → slice_get u.stations at ≡ Some station → station.live ≡ true → CallsIfLive at (PortDown input) u ds u'
      → (answer : Answer) × Calls at (PortDown input) u ds answer u'
  is_called at input u u' ds station stands live (inl called) = called
  is_called at input u u' ds station stands live (inr (failed, none, same)) =
      let one : failed.station ≡ station = same_there u.stations at failed.station station failed.here stands in
      let off = failed.failed in
      absurd (let both : true ≡ false = sym live ∙ ap (λ (s : Station). s.live) (sym one) ∙ off in cc)

  -- what is seen of the call of the end that is moved
  away : (u u' : WorldState) (place_x place_z port : ℕ) (ds : List Draw) (answer : Answer)
      → StandsButOne place_z taken u → Calls place_x (PortDown (suc port)) u ds answer u' → StandsButOne place_z u' w'
      → place_x ≢ place_z → IsAnswering u → BeginApart (lanes_view u.net.channels)
      → ((station : Station) → slice_get u.stations place_x ≡ Some station
      → HasPortNumber station.system (suc port) × (clock station.system ≡ x))
      → EndAnswers says_announce n x (Disable (suc port)) place_z (view w) (view w')
  away u u' place_x place_z port ds answer first c second other able begins of =
      turns_down p w place channel here w' is' u u' place_x place_z port ds answer first c second other able begins
      (of c.station c.here).0 n x (of c.station c.here).1 placed

  module _ (live_a : k.station_a.live ≡ true) (live_b : k.station_b.live ≡ true) where
    -- its end a is moved
    module _ (is_a : channel.a.clock ≡ x) (port : ℕ) (number : channel.a.port ≡ suc port) where
      other_b : channel.b.clock ≢ x
      other_b same = (is.between place channel here).apart (is_a ∙ sym same)

      at_b : StandsButOne k.place_b k.between w'
      at_b =
          goes_down_but_one k.place_b channel.b.port k.between k.second w'
          (λ station stands live.
          let one = same_there k.between.stations k.place_b station k.station_b stands still_b in
          let named = ap (λ (s : Station). clock s.system) one ∙ k.is_b.named in
          loses FromB k.place_b station (k.is_b.here ∙ ap (λ s. Some s) (sym one)) named live
          (λ same. other_b (sym named ∙ same))) k.at_b

      pub turns_a : EndAnswers says_announce n x (Disable (suc port)) k.place_b (view w) (view w')
      turns_a =
          let (answer, c) = is_called k.place_a channel.a.port taken k.between k.first k.station_a k.is_a.here live_a
          k.at_a in
          away taken k.between k.place_a k.place_b port k.first answer (stands_itself k.place_b taken)
          (subst (λ i. Calls k.place_a (PortDown i) taken k.first answer k.between) number c) at_b apart answering
          begin_apart
          (λ station stands.
          let one = same_there w.stations k.place_a station k.station_a stands k.is_a.here in
          let named = ap (λ (s : Station). clock s.system) one ∙ k.is_a.named in (
            subst (HasPortNumber station.system) number
                (is.sound.wired.ports place k.place_a FromA channel station here stands named),
            named ∙ is_a,
          ))

    -- or its end b
    module _ (is_b : channel.b.clock ≡ x) (port : ℕ) (number : channel.b.port ≡ suc port) where
      other_a : channel.a.clock ≢ x
      other_a same = (is.between place channel here).apart (same ∙ sym is_b)

      at_a : StandsButOne k.place_a taken k.between
      at_a =
          goes_down_but_one k.place_a channel.a.port taken k.first k.between
          (λ station stands live.
          let one = same_there w.stations k.place_a station k.station_a stands k.is_a.here in
          let named = ap (λ (s : Station). clock s.system) one ∙ k.is_a.named in
          loses FromA k.place_a station stands named live (λ same. other_a (sym named ∙ same))) k.at_a

      answers_between : IsAnswering k.between
      answers_between =
          let (answer, c) = is_called k.place_a channel.a.port taken k.between k.first k.station_a k.is_a.here live_a
          k.at_a in
          let one = same_there w.stations k.place_a c.station k.station_a c.here k.is_a.here in
          calls_answering k.place_a (PortDown channel.a.port) taken k.first answer k.between answering c
          (is.sound.wired.ports place k.place_a FromA channel c.station here c.here
          (ap (λ (s : Station). clock s.system) one ∙ k.is_a.named)) tt

      pub turns_b : EndAnswers says_announce n x (Disable (suc port)) k.place_a (view w) (view w')
      turns_b =
          let (answer, c) = is_called k.place_b channel.b.port k.between w' k.second k.station_b still_b live_b k.at_b
          in
          away k.between w' k.place_b k.place_a port k.second answer at_a
          (subst (λ i. Calls k.place_b (PortDown i) k.between k.second answer w') number c)
          (stands_itself k.place_a w') (λ same. apart (sym same)) answers_between
          (subst (λ cs. BeginApart (lanes_view cs)) (sym at_a.reduced.channels) begin_apart)
          (λ station stands.
          let one = same_there k.between.stations k.place_b station k.station_b stands still_b in
          let named = ap (λ (s : Station). clock s.system) one ∙ k.is_b.named in (
            subst (HasPortNumber station.system) number
                (is.sound.wired.ports place k.place_b FromB channel station here
                (k.is_b.here ∙ ap (λ s. Some s) (sym one)) named),
            named ∙ is_b,
          ))
