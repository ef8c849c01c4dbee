-- A link of which one end is moved goes down: that system answers, and the one at the other end keeps what others told
-- it.
use Rattle.std.proofs.Common.{◌≡◌, ◌≢◌, ◌⊎◌, ℕ, zero, suc, true, false, List, [], ◌∷◌, map, Some, slice_get, slice_set, refl, sym, ap, subst, ◌∙◌, inl, inr}
use Rattle.std.proofs.lemmas.Option.{same_Some}
use Rattle.gptp_lists.proofs.PlaceLemmas.{get-set_other, get-set_same, same_place}
use Rattle.gptp_links.specs.Fate.{Draw}
use Rattle.gptp_setup.specs.SettlingParams.{SettlingParams}
use Rattle.gptp_system.specs.declared.answer.Answer.{Answer}
use Rattle.gptp_system.specs.Input.{PortDown}
use Rattle.gptp_system.specs.State.{clock}
use Rattle.gptp_system.specs.Steps.{HasPortNumber}
use Rattle.gptp_model.specs.Act.{Calls, in_state}
use Rattle.gptp_model.specs.Changing.{CallsIfLive, lost, taken_down}
use Rattle.gptp_model.specs.World.{Channel, WorldState}
use Rattle.gptp_model.specs.declared.station.Station.{Station}
use Rattle.gptp_bmca_machine.specs.Acts.{LaneStep}
use Rattle.gptp_bmca_machine.specs.Frame.{Lane}
use Rattle.gptp_bmca_machine.specs.Network.{Network}
use Rattle.gptp_bmca_machine.specs.Reacts.{StationReacts}
use Rattle.gptp_bmca_machine.specs.Station.{Station as SeenStation}
use Rattle.gptp_bmca_machine.specs.Touch.{Disable}
use Rattle.gptp_invariants.specs.ChoiceSettlesAsMachine.{IsWorld}
use Rattle.gptp_invariants.specs.ChoiceView.{frame_view, lane_view, lanes_view, says_announce, station_view, touch_view, view}
use Rattle.gptp_invariants.proofs.ChoicePlaceLemmas.{station_there}
use Rattle.gptp_invariants.proofs.ChoiceSeenCallLemmas.{IsCallSeen, calls_seen}
use Rattle.gptp_invariants.proofs.ChoiceSeenLaneLemmas.{lane_from, lane_there}
use Rattle.gptp_invariants.proofs.ChoiceTakeUpLemmas.{BeginApart}
use Rattle.gptp_invariants.proofs.WorldAnsweringLemmas.{IsAnswering}
use Rattle.gptp_settling_time.proofs.PortDownLemmas.{CanLose, StandsReduced, goes_down_reduced, reduced_on}
use Rattle.gptp_settling_time.proofs.ReducedLemmas.{IsReducedStation, reduced_itself}
use Rattle.gptp_settling_time.proofs.EndAnswersLemmas.{EndAnswers}
use Rattle.gptp_bmca_machine.proofs.FallLeaveLemmas.{disable_only}

-- ---- the end that isn't moved

-- one system is reduced at most, and the others stand
pub record StandsButOne (place : ℕ) (w w' : WorldState) : Type 0 where
  pub reduced : StandsReduced w w'
  pub others : (i : ℕ) → i ≢ place → slice_get (view w').stations i ≡ slice_get (view w).stations i

pub stands_itself : (place : ℕ) (w : WorldState) → StandsButOne place w w
stands_itself place w = record {
  reduced = record { time = refl; stations = λ i s there. (s, there, reduced_itself s); channels = refl };
  others = λ i apart. refl;
}

get_mapped : (stations : List Station) (place i : ℕ) (new : Station) → i ≢ place
    → slice_get (map station_view (slice_set stations place new)) i ≡ slice_get (map station_view stations) i
get_mapped [] place i new apart = refl
get_mapped (s ∷ ss) zero zero new apart = absurd (apart refl)
get_mapped (s ∷ ss) zero (suc i) new apart = refl
get_mapped (s ∷ ss) (suc place) zero new apart = refl
get_mapped (s ∷ ss) (suc place) (suc i) new apart = get_mapped ss place i new (λ same. apart (ap suc same))

pub goes_down_but_one : (place port : ℕ) (w : WorldState) (draws : List Draw) (w' : WorldState)
    → ((station : Station) → slice_get w.stations place ≡ Some station → station.live ≡ true → CanLose station port)
    → CallsIfLive place (PortDown port) w draws w' → StandsButOne place w w'
goes_down_but_one place port w draws w' can k =
    record { reduced = goes_down_reduced place port w draws w' can k; others = by k }
  where
    by : CallsIfLive place (PortDown port) w draws w' → (i : ℕ) → i ≢ place
        → slice_get (view w').stations i ≡ slice_get (view w).stations i
    by (inr (failed, none, same)) i apart = ap (λ (v : WorldState). slice_get (map station_view v.stations) i) same
    by (inl (answer, c)) i apart =
        ap (λ (v : WorldState). slice_get (map station_view v.stations) i) c.is
        ∙ get_mapped w.stations place i (in_state c.after c.station) apart

-- ---- the end that is moved

module _ (p : SettlingParams) (w : WorldState) (place : ℕ) (channel : Channel)
    (here : slice_get w.net.channels place ≡ Some channel) (w' : WorldState) (is' : IsWorld p w')
    (u u' : WorldState) (place_x place_z port : ℕ) (draws : List Draw) (answer : Answer)
    (first : StandsButOne place_z (record w { net = taken_down place channel w.net; last_change = w.time }) u)
    (c : Calls place_x (PortDown (suc port)) u draws answer u') (second : StandsButOne place_z u' w')
    (apart : place_x ≢ place_z) (answering : IsAnswering u) (begin_apart : BeginApart (lanes_view u.net.channels))
    (number : HasPortNumber c.station.system (suc port)) (n : Network) (x : ℕ) (named : clock c.station.system ≡ x)
    (placed : (i : ℕ) (m : SeenStation) → slice_get (view w).stations i ≡ Some m → i ≡ n.place m.clock) where
  abbrev taken : WorldState
  taken = record w { net = taken_down place channel w.net; last_change = w.time }

  seen : IsCallSeen (PortDown (suc port)) c.station c.after u u'
  seen =
      let old = answering.stations place_x c.station c.here in
      calls_seen place_x (PortDown (suc port)) u draws answer u' c old.steady old.its number
      (answering.encodable.stations place_x c.station c.here).system tt begin_apart

  named_seen : seen.call.s.clock ≡ x
  named_seen = ap (λ (z : SeenStation). z.clock) seen.station_is ∙ named

  -- where it stands
  is_place : (i : ℕ) (m : SeenStation) → slice_get (view u).stations i ≡ Some m → m.clock ≡ x → i ≡ n.place x
  is_place i m there clock_is =
      let (old, at_old, less) = first.reduced.stations i m there in
      placed i old at_old ∙ ap n.place (sym less.clock ∙ clock_is)

  call_place : seen.call.place ≡ n.place x
  call_place = is_place seen.call.place seen.call.s seen.call.here named_seen

  x_place : place_x ≡ n.place x
  x_place = is_place place_x (station_view c.station) (station_there u.stations place_x c.station c.here) named

  other_place : n.place x ≢ place_z
  other_place same = apart (x_place ∙ same)

  touch_is : touch_view seen.touch ≡ Disable (suc port)
  touch_is = ap touch_view seen.seen

  -- a lane of the world from which the link was taken stood so, or is down
  taken_lane : (j : ℕ) (l : Lane) → slice_get (view taken).lanes j ≡ Some l
      → (slice_get (view w).lanes j ≡ Some l) ⊎ (l.is_up ≡ false)
  taken_lane j l there =
      let at = lane_from taken.net.channels j l there in
      elim (same_place at.link place) [
        | inl same ↦
            let one : at.channel ≡ lost channel =
            same_Some at.channel (lost channel)
            (sym at.here ∙ ap (slice_get (slice_set w.net.channels place (lost channel))) same
            ∙ get-set_same w.net.channels place channel (lost channel) here) in
            inr (ap (λ (m : Lane). m.is_up) (at.is ∙ ap (lane_view at.direction) one))
        | inr other ↦
            let stood : slice_get w.net.channels at.link ≡ Some at.channel =
            sym (get-set_other w.net.channels place at.link (lost channel) other) ∙ at.here in
            inl (ap (slice_get (view w).lanes) at.at
            ∙ lane_there w.net.channels at.link at.direction at.channel stood ∙ ap (λ m. Some m) (sym at.is))
      ]

  -- a lane that is down is empty
  down_empty : (j : ℕ) (l' : Lane) → slice_get (view w').lanes j ≡ Some l' → l'.is_up ≡ false → l'.frames ≡ []
  down_empty j l' there off =
      let at = lane_from w'.net.channels j l' there in
      let flows = is'.sound.wired.flow at.link at.direction at.channel at.here in
      ap (λ (m : Lane). m.frames) at.is
      ∙ ap (map frame_view) (flows.still (sym (ap (λ (m : Lane). m.is_up) at.is) ∙ off))

  pub turns_down : EndAnswers says_announce n x (Disable (suc port)) place_z (view w) (view w')
  turns_down = record {
    only = disable_only (suc port);
    s = seen.call.s;
    s' = seen.call.s';
    sends = seen.call.sends;
    time = second.reduced.time ∙ seen.call.time ∙ first.reduced.time;
    live = seen.call.live;
    named = named_seen;
    here = sym (first.others (n.place x) other_place)
        ∙ ap (slice_get (view u).stations) (sym call_place) ∙ seen.call.here;
    there = second.others (n.place x) other_place
        ∙ ap (slice_get (view u').stations) (sym call_place) ∙ seen.call.there;
    reacts = subst (λ time. StationReacts says_announce seen.call.s (Disable (suc port)) time seen.call.s'
        seen.call.sends) first.reduced.time
        (subst (λ touch. StationReacts says_announce seen.call.s touch u.time seen.call.s' seen.call.sends) touch_is
        seen.call.reacts);
    others = others;
    stood = stood;
    lanes = lanes;
  }
    where
      others : (i : ℕ) (m : SeenStation) → slice_get (view w').stations i ≡ Some m → m.live ≡ true → i ≢ n.place x
          → (old : SeenStation) × (slice_get (view w).stations i ≡ Some old) × IsReducedStation old m
      others i m at live other =
          let (mid, at_mid, less) = second.reduced.stations i m at in
          elim (seen.call.stations i mid at_mid) [
            | inl (same, is) ↦ absurd (other (same ∙ call_place))
            | inr (away, stood) ↦
                let (old, at_old, lesser) = first.reduced.stations i mid stood in
                (old, at_old, reduced_on old mid m lesser less)
          ]

      stood : (i : ℕ) (m : SeenStation) → slice_get (view w').stations i ≡ Some m → i ≢ n.place x → i ≢ place_z
          → slice_get (view w).stations i ≡ Some m
      stood i m at other away = elim (seen.call.stations i m (sym (second.others i away) ∙ at)) [
        | inl (same, is) ↦ absurd (other (same ∙ call_place))
        | inr (apart_i, before) ↦ sym (first.others i away) ∙ before
      ]

      lanes : (j : ℕ) (l' : Lane) → slice_get (view w').lanes j ≡ Some l'
          → ((l : Lane) × (slice_get (view w).lanes j ≡ Some l) × LaneStep x seen.call.sends l l')
          ⊎ ((l'.frames ≡ []) × (l'.is_up ≡ false))
      lanes j l' at =
          let (l, at_u, step) = seen.call.lanes j l'
          (ap (λ cs. slice_get (lanes_view cs) j) (sym second.reduced.channels) ∙ at) in
          elim (taken_lane j l (ap (λ cs. slice_get (lanes_view cs) j) (sym first.reduced.channels) ∙ at_u)) [
            | inl stood ↦ inl (l, stood, subst (λ v. LaneStep v seen.call.sends l l') named_seen step)
            | inr off ↦ inr (down_empty j l' at (step.is_up ∙ off), step.is_up ∙ off)
          ]
