-- Ports beside failed systems that aren't capable stay so: no reply that is in flight makes one capable again.
use Rattle.std.proofs.Common.{◌≡◌, ◌≢◌, ◌⊎◌, ◌<◌, ◌≤◌, ℕ, ℤ, suc, Bool, true, false, List, Option, Some, None, slice_get, refl, sym, ap, subst, ◌∙◌, inl, inr, arith}
use Rattle.gptp_lists.proofs.MappedLemmas.{same_there, some_same}
use Rattle.gptp_lists.proofs.PlaceLemmas.{same_place}
use Rattle.gptp_graph.specs.Snapshot.{IsLinked, Joins, port_of}
use Rattle.gptp_vector.specs.declared.port.PortId.{PortId}
use Rattle.gptp_links.specs.declared.link.Direction.{Direction}
use Rattle.gptp_links.specs.declared.link.Direction.TheVariants.{FromA, FromB}
use Rattle.gptp_links.specs.Fate.{Draw}
use Rattle.gptp_pdelay.specs.Peer.{is_capable}
use Rattle.gptp_receipt.specs.declared.held.Held.{Held}
use Rattle.gptp_receipt.specs.declared.held.Held.TheVariants as helds
use Rattle.gptp_scenario.specs.declared.change.Act.{Act}
use Rattle.gptp_scenario.specs.declared.change.Act.TheVariants.{Change as Changing}
use Rattle.gptp_scenario.specs.declared.change.Change.TheVariants.{Fail}
use Rattle.gptp_setup.specs.Intervals.{interval_of}
use Rattle.gptp_setup.specs.SettlingParams.{SettlingParams}
use Rattle.gptp_system.specs.declared.port.Port.{Port}
use Rattle.gptp_system.specs.Facts.{IsShown}
use Rattle.gptp_system.specs.Input.{PortDown}
use Rattle.gptp_system.specs.State.{clock, number, own}
use Rattle.gptp_system.specs.Steps.{IsUp}
use Rattle.gptp_model.specs.Acts.{Acts, at as at_time}
use Rattle.gptp_model.specs.Changing.{TellsEnds, taken_down}
use Rattle.gptp_model.specs.declared.done.Done.{Done}
use Rattle.gptp_model.specs.declared.station.Station.{Station}
use Rattle.gptp_model.specs.World.{Channel, WorldState, receiver, sender}
use Rattle.gptp_model.proofs.EndLemmas.{each_end_told}
use Rattle.gptp_model.proofs.StayLemmas.{join_on, stays_clocks}
use Rattle.gptp_bmca_machine.specs.Station.{Disabled, Port as SeenPort, Station as SeenStation}
use Rattle.gptp_pdelay_machine.specs.Asker.{Asker}
use Rattle.gptp_pdelay_machine.specs.Silence.{Unanswered}
use Rattle.gptp_invariants.specs.ChoiceCalm.{HaveQuietLinks}
use Rattle.gptp_invariants.specs.ChoiceSeenLaws.{IsNoChange}
use Rattle.gptp_invariants.specs.ChoiceSettlesAsMachine.{IsWorld}
use Rattle.gptp_invariants.specs.ChoiceView.{held_view, port_identity_number, span_at, view}
use Rattle.gptp_invariants.specs.DelayLinked.{BeginsLink}
use Rattle.gptp_invariants.specs.DelayLinkView.{LinkPlace, pair}
use Rattle.gptp_invariants.specs.DelayMeasured.{LinkIsMeasured}
use Rattle.gptp_invariants.specs.FailedUnanswered.{IsLastAnswered, IsOff, IsUnansweredAt, StandsUnanswered, silent_view}
use Rattle.gptp_invariants.specs.WorldNews.{AreReadyBy, AreSilentBy}
use Rattle.gptp_invariants.specs.WorldStanding.{JoinsTwoOf, StationsHavePort, snapshot_of}
use Rattle.gptp_invariants.proofs.ChoicePlaceLemmas.{IsStationAt, port_from, station_from}
use Rattle.gptp_invariants.proofs.DelayCapableKeptLemmas.{no_change}
use Rattle.gptp_invariants.proofs.DelayClaimedCapableLemmas.{clock_has, used_if}
use Rattle.gptp_invariants.proofs.DelayFirstAtLemmas.{first_full}
use Rattle.gptp_invariants.proofs.FailedLastAnsweredLemmas.{last_acts, last_beside, last_later, last_off, one_view}
use Rattle.gptp_invariants.proofs.FailedOffLemmas.{off_acts, off_called, off_later}
use Rattle.gptp_invariants.proofs.PortInputLemmas.{of_down}
use Rattle.gptp_invariants.proofs.WorldBeforeLemmas.{none_anew, stood_earlier}
use Rattle.gptp_invariants.proofs.WorldWayLemmas.{used_joins}
use Rattle.gptp_settling_time.proofs.FailedAloneLemmas as alone
use Rattle.gptp_settling_time.proofs.LinkBetweenLemmas.{SameSenders}
use Rattle.gptp_settling_time.proofs.OnceOffLemmas.{GoesOnOff, IsOnceOff, once_acts, once_beside, once_found}
use Rattle.gptp_settling_time.proofs.TakenDownLemmas.{before, joins, link_taken, no_end, ports}
use Rattle.gptp_settling_time.proofs.WidenedLemmas.{ready_first}

-- the port there is off, and stays so; or it does once it is
abbrev pub IsOffForGood : LinkPlace → WorldState → Type 0
IsOffForGood at w = IsOff at w ⊎ ((sent : ℕ) × (last : IsLastAnswered sent at w) × IsOnceOff sent at w last.link)

abbrev pub AreOffForGood : WorldState → Type 0
AreOffForGood w = (at : LinkPlace) → StandsUnanswered at w → IsOffForGood at w

-- it isn't capable
abbrev pub IsOffAt : LinkPlace → WorldState → Type 0
IsOffAt at w = (l : IsUnansweredAt at w) → (silent_view at w l).asker.capable ≡ false

-- from one world to another ports that aren't capable stay so, and so they do then
abbrev pub GoOnOff : WorldState → WorldState → Type 0
GoOnOff w w' = (at : LinkPlace) → StandsUnanswered at w' → IsOffForGood at w' × (IsOffAt at w → IsOffAt at w')

off_at : (at : LinkPlace) (w : WorldState) → IsOff at w → IsOffAt at w
off_at at w off l = ap (λ (u : Unanswered). u.asker.capable) (one_view at w l off.link) ∙ off.off

found_at : (at : LinkPlace) (w : WorldState) (l : IsUnansweredAt at w) → (silent_view at w l).asker.capable ≡ false
    → IsOffAt at w
found_at at w l off l' = ap (λ (u : Unanswered). u.asker.capable) (one_view at w l' l) ∙ off

-- one that goes on so
goes_off : (sent : ℕ) (at : LinkPlace) (w w' : WorldState) (last : IsLastAnswered sent at w)
    → IsLastAnswered sent at w' → GoesOnOff sent at w w' last.link → IsOffForGood at w' × (IsOffAt at w → IsOffAt at w')
goes_off sent at w w' last last' goes = (
  inr (sent, last', once_found sent at w' goes.after last'.link goes.once),
  (λ off. found_at at w' goes.after (goes.off (off last.link))),
)

-- time passes
pub good_later : (time : ℕ) (w : WorldState) → AreOffForGood w → GoOnOff w (at_time time w)
good_later time w good at s = elim (good at (stood_earlier at time w s)) [
  | inl off ↦ (inl (off_later at time w off), (λ is. off_at at (at_time time w) (off_later at time w off)))
  | inr (sent, last, once) ↦
      goes_off sent at w (at_time time w) last (last_later sent at time w last)
      (record {
        after = record {
          channel = last.link.channel;
          here = last.link.here;
          up = last.link.up;
          asking = last.link.asking;
          answering = last.link.answering;
        };
        once = record { since = once.since; done = once.done };
        off = λ off. off;
      })
]

-- an act that is no change
pub good_acts : (p : SettlingParams) (act : Act) (w : WorldState) (draws : List Draw) (done : Done) (w' : WorldState)
    → 0 < interval_of p.params.pdelay → IsNoChange act → Acts act w draws done w' → IsWorld p w → LinkIsMeasured w
    → AreOffForGood w → GoOnOff w w'
good_acts p act w draws done w' some none k is measured good at s =
    elim (good at (none_anew at act w w' draws done (no_change act none) k s)) [
      | inl off ↦
          let off' = off_acts at act w draws done w' none k is.sound measured off in
          (inl off', (λ before. off_at at w' off'))
      | inr (sent, last, once) ↦
          goes_off sent at w w' last (last_acts p sent at act w draws done w' none k is measured last)
          (once_acts p sent at act w draws done w' some none k is measured last once)
    ]

-- a link goes down
module _ (p : SettlingParams) (w : WorldState) (is : IsWorld p w) (place : ℕ) (channel : Channel)
    (here : slice_get w.net.channels place ≡ Some channel) (draws : List Draw) (w' : WorldState) (is' : IsWorld p w')
    (k : TellsEnds PortDown channel (record w { net = taken_down place channel w.net; last_change = w.time }) draws w')
  where
    abbrev taken : WorldState
    taken = record w { net = taken_down place channel w.net; last_change = w.time }

    module _ (at : LinkPlace) (s : StandsUnanswered at w') where
      abbrev So : WorldState → Type 0
      So v = IsOffForGood at v × (IsOffAt at w → IsOffAt at v)

      abbrev taken_link : IsUnansweredAt at w → IsUnansweredAt at taken
      taken_link = link_taken p w is place channel here draws w' is' k at s

      at_taken : IsOffForGood at w → So taken
      at_taken (inl off) =
          let off' : IsOff at taken =
          record { link = taken_link off.link; mute = off.mute; off = off.off } in
          (inl off', (λ was. off_at at taken off'))
      at_taken (inr (sent, last, once)) = (
        inr (
          sent,
          record { link = taken_link last.link; replies = last.replies; inv = last.inv },
          record { since = once.since; done = once.done },
        ),
        (λ off. found_at at taken (taken_link last.link) (off last.link)),
      )

      pub good_down : IsOffForGood at w → So w'
      good_down good =
          each_end_told PortDown channel taken So
          (λ direction q v ds answer v' c stays named number so. elim so.0 [
            | inl off ↦
                let off' = off_called at q (PortDown (sender direction channel).port) v ds answer v' c
                (stays_clocks taken v stays is.sound.wired.clocks) off (λ same. tt) (λ same. tt) in
                (inl off', (λ was. off_at at v' off'))
            | inr (sent, last, once) ↦
                let clocks = stays_clocks taken v stays is.sound.wired.clocks in
                let apart = no_end p w is place channel here draws w' is' k at s v
                (join_on w.net.channels taken.net.channels v.net.channels
                (joins p w is place channel here draws w' is' k at s) stays.links) last.link direction in
                let (good', off') = goes_off sent at v v' last
                (last_beside of_down sent at q (sender direction channel) v ds answer v' c named clocks last apart)
                (once_beside of_down sent at q (sender direction channel) v ds answer v' c named clocks last once apart)
                in
                (good', (λ was. off' (so.1 was)))
          ]) is.sound.wired.setups (ports p w is place channel here draws w' is' k at s) draws w' k (at_taken good)

    pub all_down : AreOffForGood w → GoOnOff w w'
    all_down good at s = good_down at s (good at (before p w is place channel here draws w' is' k at s))

-- ---- a system fails

module _ (p : SettlingParams) (lost : ℕ) (w : WorldState) (draws : List Draw) (done : Done) (w' : WorldState)
    (is : IsWorld p w) (is' : IsWorld p w') (acts : Acts (Changing (Fail lost)) w draws done w')
    (lives : acts.1.station.live ≡ true) (next : ℕ) (past : next ≤ w.time) (ready : AreReadyBy p next w)
    (quiet : HaveQuietLinks p.params w) (silent : AreSilentBy p next w) where
  beside_it : (at : LinkPlace) (s : StandsUnanswered at w') → at.answering ≡ acts.1.place → IsOffForGood at w'
  beside_it at s at_lost =
      let good = alone.stood_good p lost w draws done w' is is' acts lives at s at_lost quiet in
      let (first, by) = ready_first p next w is past at (ready at good) in
      let last = alone.last_still p lost w draws done w' is is' acts lives at s at_lost quiet first by.0 in
      let seen = alone.last_still_seen p lost w draws done w' is is' acts lives at s at_lost quiet first by.0 in
      let late = by.1 in
      let on = first_full at first w by.0 (omega (arith, late, past)) in
      inr (
        (pair at w by.0.link).asker.asked,
        last,
        record {
          since =
              subst (λ (a : Asker). (pair at w by.0.link).asker.asked ≤ a.asked) (sym seen) (omega arith);
          done = λ off.
              let off_before = sym (ap (λ (a : Asker). a.capable) seen) ∙ off in
              absurd (let both : true ≡ false = sym on ∙ off_before in cc);
        },
      )

  beside_other : (at : LinkPlace) (s : StandsUnanswered at w') → at.answering ≢ acts.1.place → IsOffForGood at w'
  beside_other at s other = elim (silent at (alone.stood_beside p lost w draws done w' is is' acts lives at s other)) [
    | inl off ↦ still off
    | inr (sent, last, soon) ↦ still (last_off sent at p w is last (omega (arith, soon, past)))
  ]
    where
      still : IsOff at w → IsOffForGood at w'
      still off = inl (record {
        link = alone.beside p lost w draws done w' is is' acts lives at s other off.link;
        mute = off.mute;
        off = off.off;
      })

  pub good_fails : AreOffForGood w'
  good_fails at s = elim (same_place at.answering acts.1.place) [
    | inl own ↦ beside_it at s own
    | inr other ↦ beside_other at s other
  ]

-- ---- as the machine sees it

leads_to : (stations : List Station) (direction : Direction) (channel : Channel) → JoinsTwoOf stations channel
    → StationsHavePort stations (receiver direction channel)
leads_to stations FromA channel between = between.b
leads_to stations FromB channel between = between.a

-- all stands beside a failed system at this port of the system that stands there
record IsPortBeside (w : WorldState) (place i : ℕ) : Type 0 where
  at : LinkPlace
  stands : StandsUnanswered at w
  asks : at.asking ≡ place
  port : (sender at.direction stands.channel).port ≡ suc i

module _ (p : SettlingParams) (w : WorldState) (is : IsWorld p w) (place : ℕ) (station : Station)
    (here : slice_get w.stations place ≡ Some station) (live : station.live ≡ true) (i : ℕ) (q : Port)
    (there : slice_get station.system.ports i ≡ Some q) where
  abbrev itself : PortId
  itself = own station.system (suc i)

  abbrev PortCases : Type 0
  PortCases =
      IsLinked (snapshot_of w) (port_identity_number itself) ⊎ ((is_capable q.peer ≡ false) ⊎ IsPortBeside w place i)

  module _ (begins : BeginsLink w.net.channels itself) where
    other : StationsHavePort w.stations (receiver begins.direction begins.channel)
    other = leads_to w.stations begins.direction begins.channel (is.between begins.link begins.channel begins.here)

    named : clock station.system ≡ (sender begins.direction begins.channel).clock
    named = ap (λ (x : PortId). x.clock) (sym begins.begins)

    by_link : (lives : Bool) → other.station.live ≡ lives → PortCases
    by_link true lives =
        let from = clock_has w.stations place station _ here live named in
        let to = clock_has w.stations other.place other.station _ other.here lives other.named in
        let used = used_if w.stations begins.direction begins.channel begins.up from to in
        inl (
          port_identity_number (receiver begins.direction begins.channel),
          subst (λ x. Joins (snapshot_of w) (port_identity_number x)
              (port_identity_number (receiver begins.direction begins.channel)))
              begins.begins (used_joins w begins.link begins.direction begins.channel begins.here used),
        )
    by_link false failed = inr (inr (record {
      at = record { link = begins.link; direction = begins.direction; asking = place; answering = other.place };
      stands = record {
        channel = begins.channel;
        here = begins.here;
        up = begins.up;
        asking = record { station = station; here = here; live = live; named = named };
        answering = record {
          station = other.station;
          here = other.here;
          failed = failed;
          named = other.named;
        };
      };
      asks = refl;
      port = ap (λ (x : PortId). x.port) begins.begins;
    }))

  -- a port that no link is at isn't capable, or all stands beside a failed system there
  port_cases : PortCases
  port_cases = by q.pdelay refl
    where
      by : (due : Option ℕ) → q.pdelay ≡ due → PortCases
      by None none =
          let idle = (is.known.measuring place station here live i q there).idle none in
          inr (inl (rw idle.last refl))
      by (Some t) runs =
          let up : IsUp station.system (suc i) = rw (there, runs) refl in
          let begins = is.known.links place station here live (suc i) up in
          by_link begins (other begins).station.live refl

  -- the port that is found there is that one
  port_found : (at : LinkPlace) → at.asking ≡ place → (l : IsUnansweredAt at w)
      → (sender at.direction l.channel).port ≡ suc i → l.asking.state ≡ q
  port_found at asks l port =
      let one : l.asking.station ≡ station =
      same_there w.stations place l.asking.station station (ap (slice_get w.stations) (sym asks) ∙ l.asking.here) here
      in
      some_same l.asking.state q
      (sym l.asking.there ∙ (λ j. number (one j).system.ports (port j)) ∙ there)

-- so a port that shows as Disabled does so then, where no link is at it
module _ (p : SettlingParams) (w w' : WorldState) (is : IsWorld p w) (is' : IsWorld p w') (goes : GoOnOff w w')
    (same : SameSenders w w') (place i : ℕ) (x x' : Station) (h h' : Held) (q q' : Port)
    (here : slice_get w.stations place ≡ Some x) (holds : slice_get x.system.held i ≡ Some h)
    (there : slice_get x.system.ports i ≡ Some q) (here' : slice_get w'.stations place ≡ Some x')
    (holds' : slice_get x'.system.held i ≡ Some h') (there' : slice_get x'.system.ports i ≡ Some q')
    (live : x.live ≡ true) (live' : x'.live ≡ true)
    (none : IsLinked (snapshot_of w') (port_identity_number (own x'.system (suc i))) → ⊥) where
  shown : IsShown h q
  shown = (is.sound.on_time.stations place x here).steady.shown.each i h q holds there

  shown' : IsShown h' q'
  shown' = (is'.sound.on_time.stations place x' here').steady.shown.each i h' q' holds' there'

  off_before : h ≡ helds.Disabled → is_capable q.peer ≡ false
  off_before disabled = by (is_capable q.peer) refl
    where
      by : (on : Bool) → is_capable q.peer ≡ on → is_capable q.peer ≡ false
      by true on = absurd (shown.on on disabled)
      by false off = off

  off_then : is_capable q.peer ≡ false → is_capable q'.peer ≡ false
  off_then off = elim (port_cases p w' is' place x' here' live' i q' there') [
    | inl linked ↦ absurd (none linked)
    | inr (inl is_off) ↦ is_off
    | inr (inr b) ↦ beside b (goes b.at b.stands)
  ]
    where
      beside : (b : IsPortBeside w' place i) → IsOffForGood b.at w' × (IsOffAt b.at w → IsOffAt b.at w')
          → is_capable q'.peer ≡ false
      beside b (good, goes_off_at) = at_link (link_of good)
        where
          link_of : IsOffForGood b.at w' → IsUnansweredAt b.at w'
          link_of (inl off) = off.link
          link_of (inr (sent, last, once)) = last.link

          off_at_before : IsOffAt b.at w
          off_at_before l =
              let sends = same b.at.link b.at.direction l.channel b.stands.channel l.here b.stands.here in
              let port = ap (λ (y : PortId). y.port) sends ∙ b.port in
              ap (λ (y : Port). is_capable y.peer)
              (port_found p w is place x here live i q there b.at b.asks l port) ∙ off

          at_link : IsUnansweredAt b.at w' → is_capable q'.peer ≡ false
          at_link l =
              let channel : l.channel ≡ b.stands.channel =
              same_there w'.net.channels b.at.link l.channel b.stands.channel l.here b.stands.here in
              let port : (sender b.at.direction l.channel).port ≡ suc i =
              ap (λ (c : Channel). (sender b.at.direction c).port) channel ∙ b.port in
              ap (λ (y : Port). is_capable y.peer)
              (sym (port_found p w' is' place x' here' live' i q' there' b.at b.asks l port))
              ∙ goes_off_at off_at_before l

  held_then : h ≡ helds.Disabled → h' ≡ helds.Disabled
  held_then disabled = shown'.off (off_then (off_before disabled))

-- what is seen as Disabled is
disabled_back : (keep : ℤ → ℕ) (h : Held) → held_view keep h ≡ Disabled → h ≡ helds.Disabled
disabled_back keep helds.Disabled same = refl
disabled_back keep helds.Aged same = absurd cc
disabled_back keep (helds.Mine root steps) same = absurd cc
disabled_back keep (helds.Received r) same = absurd cc

pub stays_disabled : (p : SettlingParams) (w w' : WorldState) → IsWorld p w → IsWorld p w' → GoOnOff w w'
    → SameSenders w w' → (place i : ℕ) (s s' : SeenStation) (u u' : SeenPort)
    → slice_get (view w).stations place ≡ Some s → slice_get s.ports i ≡ Some u
    → slice_get (view w').stations place ≡ Some s' → slice_get s'.ports i ≡ Some u' → s.live ≡ true → s'.live ≡ true
    → (IsLinked (snapshot_of w') (port_of s'.clock (suc i)) → ⊥) → u.held ≡ Disabled
    → u'.held ≡ Disabled
stays_disabled p w w' is is' goes same place i s s' u u' at there at' there' live live' none off =
    by (station_from w.stations place s at) (station_from w'.stations place s' at')
  where
    by : IsStationAt w.stations place s → IsStationAt w'.stations place s' → u'.held ≡ Disabled
    by x x' =
        let y = port_from (span_at x.station.system) x.station.system.held x.station.system.ports i u
        (subst (λ (z : SeenStation). slice_get z.ports i ≡ Some u) x.is there) in
        let y' = port_from (span_at x'.station.system) x'.station.system.held x'.station.system.ports i u'
        (subst (λ (z : SeenStation). slice_get z.ports i ≡ Some u') x'.is there') in
        let disabled = held_then p w w' is is' goes same place i x.station x'.station y.held y'.held y.port y'.port
        x.here y.held_there y.port_there x'.here y'.held_there y'.port_there
        (ap (λ (z : SeenStation). z.live) (sym x.is) ∙ live) (ap (λ (z : SeenStation). z.live) (sym x'.is) ∙ live')
        (subst (λ (z : SeenStation). IsLinked (snapshot_of w') (port_of z.clock (suc i)) → ⊥) x'.is none)
        (disabled_back (span_at x.station.system) y.held (ap (λ (z : SeenPort). z.held) (sym y.is) ∙ off)) in
        ap (λ (z : SeenPort). z.held) y'.is ∙ ap (held_view (span_at x'.station.system)) disabled
