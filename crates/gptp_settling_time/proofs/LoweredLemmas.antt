-- A link between live systems goes down, and no system is moved but such as are cut off: none sends anything, and what
-- other ports hold stays. So what is left stands as it did, and all that is held and in flight fits the snapshot of
-- before.
use Rattle.std.proofs.Common.{◌≡◌, ◌≢◌, ◌⊎◌, ◌≤◌, ◌*◌, ℕ, zero, suc, pred, true, false, List, [], map, Some, slice_get, slice_set, refl, sym, ap, subst, ◌∙◌, inl, inr, arith}
use Rattle.std.proofs.lemmas.Option.{same_Some}
use Rattle.gptp_lists.specs.Members.{In}
use Rattle.gptp_lists.proofs.MappedLemmas.{same_there}
use Rattle.gptp_lists.proofs.PlaceLemmas.{get-set_other, get-set_same, same_place, member_there}
use Rattle.gptp_graph.specs.PathBound.{path_bound}
use Rattle.gptp_graph.specs.Snapshot.{IsLinked, IsWellFormed, Joins, PortIdentity, Snapshot, System, clocks, port_of}
use Rattle.gptp_graph.proofs.ExistenceLemmas.{distance_exists}
use Rattle.gptp_graph.proofs.LinkLemmas.{Joins-clock, Joins-sym}
use Rattle.gptp_graph.proofs.SystemLemmas.{In-clocks}
use Rattle.gptp_vector.specs.Vector.{path_of, system_vector}
use Rattle.gptp_vector.specs.declared.port.PortId.{PortId}
use Rattle.gptp_links.specs.declared.link.Direction.{Direction}
use Rattle.gptp_links.specs.declared.link.Direction.TheVariants.{FromA, FromB}
use Rattle.gptp_links.specs.Fate.{Draw}
use Rattle.gptp_scenario.specs.Params.{KeepPace}
use Rattle.gptp_scenario.specs.declared.change.Act.TheVariants.{Change as Changing}
use Rattle.gptp_scenario.specs.declared.change.Change.TheVariants.{LinkDown}
use Rattle.gptp_setup.specs.SettlingParams.{SettlingParams}
use Rattle.gptp_system.specs.Facts.{AreShown}
use Rattle.gptp_system.specs.Input.{PortDown}
use Rattle.gptp_system.specs.State.{clock}
use Rattle.gptp_system.specs.Steps.{HasPortNumber}
use Rattle.gptp_model.specs.Acts.{Acts, AtLink}
use Rattle.gptp_model.specs.Changing.{GoesDownIf, IsChannel, TellsEnds, lost, taken_down}
use Rattle.gptp_model.specs.World.{Channel, WorldState, port_id, receiver, sender}
use Rattle.gptp_model.specs.declared.done.Done.{Done}
use Rattle.gptp_model.specs.declared.station.Station.{Station}
use Rattle.gptp_bmca_machine.specs.Calm.{Calm}
use Rattle.gptp_bmca_machine.specs.Frame.{Lane}
use Rattle.gptp_bmca_machine.specs.Network.{Network}
use Rattle.gptp_bmca_machine.specs.RestLaws.{SameWiring}
use Rattle.gptp_bmca_machine.specs.SoundLaws.{AllAreNear, UnlinkedAreOff}
use Rattle.gptp_bmca_machine.specs.Station.{Disabled, Port as SeenPort, Received, Reception as SeenReception}
use Rattle.gptp_invariants.specs.ChoiceCalm.{HaveQuietLinks, delay_in}
use Rattle.gptp_invariants.specs.ChoiceSettlesAsMachine.{IsWorld}
use Rattle.gptp_invariants.specs.ChoiceView.{lane_view, port_identity_number, port_view, says_announce, span_at, station_view, view}
use Rattle.gptp_invariants.specs.DelayElsewhere.{IsOtherLink}
use Rattle.gptp_invariants.specs.DelayLinkView.{LinkPlace}
use Rattle.gptp_invariants.specs.DelayMeasured.{LinkIsMeasured, LinkStandsAt}
use Rattle.gptp_invariants.specs.WorldNews.{AreReadyBy, AreSilentBy}
use Rattle.gptp_invariants.specs.WorldSound.{IsSoundWorld}
use Rattle.gptp_invariants.specs.WorldStanding.{channel_is_used, live_stations, snapshot_of, standing_system}
use Rattle.gptp_invariants.proofs.ChoiceCalmKeptLemmas.{KeepsNetwork, same_snapshot}
use Rattle.gptp_invariants.proofs.ChoicePlaceLemmas.{port_from, port_there, station_there}
use Rattle.gptp_invariants.proofs.ChoiceSeenLaneLemmas.{lane_from, lane_there}
use Rattle.gptp_invariants.proofs.WorldNewsLemmas.{ready_goes_through}
use Rattle.gptp_invariants.proofs.WorldSoundCallLemmas.{IsThereToo, links_more, same_systems}
use Rattle.gptp_invariants.proofs.WorldStandsLemmas.{stands_well}
use Rattle.gptp_invariants.proofs.WorldSystemLemmas.{live_there}
use Rattle.gptp_invariants.proofs.WorldWayLemmas.{one_way, used_joins, way_of}
use Rattle.gptp_settling_time.specs.Losses.{IsCutOff, IsUnmoved, IsUnmovedOrCutOff}
use Rattle.gptp_settling_time.proofs.BegunLeftLemmas.{begins_left}
use Rattle.gptp_settling_time.proofs.AlwaysClaimedLemmas.{AreHeard, IsStanding, same_start, start_calm, start_network}
use Rattle.gptp_settling_time.proofs.FitsLemmas.{IsLeftUnmoved, UnlinkedHoldNothing, at_zero, joined_stays, lived}
use Rattle.gptp_settling_time.proofs.GoesDownLemmas.{AreDisabled, held_among, others_disabled, without}
use Rattle.gptp_settling_time.proofs.LeftClaimedLemmas.{HaveAskedLong, IsLeftAlways, asked_heard, left_network}
use Rattle.gptp_settling_time.proofs.LinkStoodLemmas.{second_still}
use Rattle.gptp_settling_time.proofs.LinkUpLemmas.{lane_set}
use Rattle.gptp_settling_time.proofs.ReducedLemmas.{HoldsAsMuch, IsLess, IsReduced, NearerStay, holds_as_much}
use Rattle.gptp_settling_time.proofs.SettledSeenLemmas.{IsSettledSeen, sound_fits, wired_as}
use Rattle.gptp_settling_time.proofs.TakenDownLemmas.{silent_down, stood_down, told_keeps, up_apart}
use Rattle.gptp_settling_time.proofs.UnlinkedLemmas.{LostAreFarther}
use Rattle.gptp_settling_time.proofs.WidenedLemmas.{ready_first}
use Rattle.gptp_settling_time.proofs.PortDownLemmas.{CanLose, HasAnother, StandsReduced, disabled_from, goes_down_reduced, place_within, received_from, same_end, stands_on}

-- ---- the link goes down

-- each system is unmoved, or it is cut off and its ports that no link was at were off
abbrev pub StayOrAreAlone : WorldState → WorldState → Type 0
StayOrAreAlone w w' = (v : ℕ) → In v (clocks (snapshot_of w'))
    → IsUnmoved (snapshot_of w) (snapshot_of w') v
    ⊎ (IsCutOff (snapshot_of w') v × UnlinkedAreOff (snapshot_of w) (view w))

-- what is left was there
module _ (w : WorldState) (place : ℕ) (channel : Channel) (here : slice_get w.net.channels place ≡ Some channel)
    (draws : List Draw) (w' : WorldState)
    (k : TellsEnds PortDown channel (record w { net = taken_down place channel w.net; last_change = w.time }) draws w')
  where
    abbrev gone_down : WorldState
    gone_down = record w { net = taken_down place channel w.net; last_change = w.time }

    kept : KeepsNetwork gone_down w'
    kept = told_keeps channel gone_down draws w' k

    -- no link is there that wasn't
    were_there : (link : ℕ) (other : Channel) → slice_get gone_down.net.channels link ≡ Some other
        → IsThereToo w.net.channels link other
    were_there link other there = elim (same_place link place) [
      | inl same ↦
          let one : other ≡ lost channel =
          same_Some other (lost channel)
          (sym there ∙ ap (slice_get (slice_set w.net.channels place (lost channel))) same
          ∙ get-set_same w.net.channels place channel (lost channel) here) in
          record {
            new = channel;
            here = ap (slice_get w.net.channels) same ∙ here;
            a = ap (λ (c : Channel). c.a) (sym one);
            b = ap (λ (c : Channel). c.b) (sym one);
            up = λ on. absurd (let both : true ≡ false = sym on ∙ ap (λ (c : Channel). c.up) one in cc);
          }
      | inr apart ↦ record {
        new = other;
        here = sym (get-set_other w.net.channels place link (lost channel) apart) ∙ there;
        a = refl;
        b = refl;
        up = λ on. on;
      }
    ]

    pub down_less : IsLess (snapshot_of w) (snapshot_of w')
    down_less = record {
      systems = λ s member. subst (In s) kept.systems member;
      links = λ a b joins.
          links_more gone_down w (same_systems (live_stations w.stations)) were_there a b
          (subst (λ h. Joins h a b) (same_snapshot gone_down w' kept) joins);
    }

module _ (p : SettlingParams) (w : WorldState) (is : IsWorld p w) (place : ℕ) (channel : Channel)
    (here : slice_get w.net.channels place ≡ Some channel) (draws : List Draw) (w' : WorldState) (is' : IsWorld p w')
    (k : TellsEnds PortDown channel (record w { net = taken_down place channel w.net; last_change = w.time }) draws w')
    (seen : IsSettledSeen p w) (near : AllAreNear (snapshot_of w)) where
  abbrev pub taken : WorldState
  taken = record w { net = taken_down place channel w.net; last_change = w.time }

  abbrev g : Snapshot
  g = snapshot_of w

  abbrev g' : Snapshot
  g' = snapshot_of w'

  well : IsWellFormed g
  well = stands_well w is.sound is.between is.encodable

  well' : IsWellFormed g'
  well' = stands_well w' is'.sound is'.between is'.encodable

  keeps : KeepsNetwork taken w'
  keeps = told_keeps channel taken draws w' k

  -- what is left was there
  pub less_then : IsLess g g'
  less_then = down_less w place channel here draws w' k

  -- no link is at its ends any more
  unlinked : (way : Direction) → IsLinked g' (port_identity_number (sender way channel)) → ⊥
  unlinked way (q, joins) =
      let from = port_identity_number (sender way channel) in
      let x = way_of taken from q (subst (λ h. Joins h from q) (same_snapshot taken w' keeps) joins) in
      let apart : x.link ≢ place =
      λ same. (let one : x.channel ≡ lost channel =
      same_Some x.channel (lost channel)
      (sym x.here ∙ ap (slice_get (slice_set w.net.channels place (lost channel))) same
      ∙ get-set_same w.net.channels place channel (lost channel) here) in
      let both : true ≡ false = sym x.used ∙ ap (channel_is_used (live_stations w.stations)) one in
      cc) in
      let was : slice_get w.net.channels x.link ≡ Some x.channel =
      sym (get-set_other w.net.channels place x.link (lost channel) apart) ∙ x.here in
      apart (one_way w is.sound is.encodable x.link place x.direction way x.channel channel was here x.from).same_link

  -- any other link is there still
  pub still_joins : (p q : PortIdentity) → Joins g p q
      → Joins g' p q ⊎ ((direction : Direction) × (p ≡ port_identity_number (sender direction channel))
      × (q ≡ port_identity_number (receiver direction channel)))
  still_joins p q joins =
      let x = way_of w p q joins in
      elim (same_place x.link place) [
        | inl same ↦
            let one : x.channel ≡ channel =
            same_Some x.channel channel (sym x.here ∙ ap (slice_get w.net.channels) same ∙ here) in
            inr (
              x.direction,
              sym x.from ∙ ap (λ c. port_identity_number (sender x.direction c)) one,
              sym x.to ∙ ap (λ c. port_identity_number (receiver x.direction c)) one,
            )
        | inr apart ↦
            let there = used_joins taken x.link x.direction x.channel
            (get-set_other w.net.channels place x.link (lost channel) apart ∙ x.here) x.used in
            inl (subst (λ h. Joins h p q) (sym (same_snapshot taken w' keeps))
            (subst (λ a. Joins (snapshot_of taken) a q) x.from
            (subst (λ b. Joins (snapshot_of taken) (port_identity_number (sender x.direction x.channel)) b) x.to
            there)))
      ]

  -- an end of it
  module _ (way : Direction) (at : ℕ) (station : Station) (stands : slice_get w.stations at ≡ Some station)
      (named : clock station.system ≡ (sender way channel).clock) (live : station.live ≡ true) where
    among : In (standing_system station) (live_stations w.stations)
    among = live_there w.stations at station stands live

    pub known : In (clock station.system) (clocks g')
    known = In-clocks g' (standing_system station) (subst (In (standing_system station)) (sym keeps.systems) among)

    as_much : IsUnmoved g g' (clock station.system) → NearerStay g g' (clock station.system)
        → HoldsAsMuch g' (station_view station)
    as_much stays beside =
        let x = clock station.system in
        let (d, far, close) = near x (In-clocks g (standing_system station) among) in
        holds_as_much says_announce seen.n seen.net (view w) seen.calm seen.invariant seen.late g' well'
        (subst (λ h. IsLess h g') (sym seen.graph) less_then) at (station_view station)
        (station_there w.stations at station stands) live (subst (λ h. IsUnmoved h g' x) (sym seen.graph) stays)
        (subst (λ h. NearerStay h g' x) (sym seen.graph) beside) d close (stays.far d far)

    pub can_lose : (IsUnmoved g g' (clock station.system) × NearerStay g g' (clock station.system))
        ⊎ (IsCutOff g' (clock station.system) × UnlinkedAreOff g (view w))
        → CanLose station (sender way channel).port
    can_lose one =
        by (sender way channel).port refl (is.sound.wired.ports place at way channel station here stands named)
      where
        another : (i : ℕ) → (sender way channel).port ≡ suc i → HoldsAsMuch g' (station_view station)
            → HasAnother station.system i
        another i is_n (inl (root, steps)) = record {
          left = system_vector station.system.identity;
          among = inl refl;
          root = sym root;
          steps = sym steps;
        }
        another i is_n (inr (q, r, linked, (port, at_port, holds), root, steps)) =
            let x = port_from (span_at station.system) station.system.held station.system.ports q port at_port in
            let (y, is_y, seen_y) =
            received_from (span_at station.system) x.held r
            (sym (ap (λ (z : SeenPort). z.held) x.is) ∙ holds) in
            let same_steps = ap (λ (z : SeenReception). z.said.steps) seen_y in
            record {
              left = path_of y.vector;
              among = inr (held_among i q station.system.held y (x.held_there ∙ ap (λ h. Some h) is_y) (λ same.
                  unlinked way
                  (subst (IsLinked g') (λ j. port_of (named j) ((ap suc same ∙ sym is_n) j)) linked)));
              root = ap (λ (z : SeenReception). z.said.root) seen_y ∙ root;
              steps = omega (arith, same_steps, steps);
            }

        -- no link was at another port of a system that is cut off then
        alone : (i : ℕ) → (sender way channel).port ≡ suc i → IsCutOff g' (clock station.system) → (j : ℕ) → j ≢ i
            → IsLinked g (port_of (clock station.system) (suc j)) → ⊥
        alone i is_n cut j apart (q, joins) = elim (still_joins (port_of (clock station.system) (suc j)) q joins) [
          | inl there ↦ cut q.clock (suc j, q.port, there)
          | inr (direction, is_end, other_end) ↦
              let clocks_are : (sender direction channel).clock ≡ (sender way channel).clock =
              ap (λ (x : PortIdentity). x.clock) (sym is_end) ∙ named in
              let one = same_end channel way direction (is.between place channel here).apart clocks_are in
              let number : suc j ≡ suc i =
              ap (λ (x : PortIdentity). x.port) is_end ∙ ap (λ (x : PortId). x.port) one ∙ is_n in
              apart (omega (arith, number))
        ]

        off : (i : ℕ) → (sender way channel).port ≡ suc i → IsCutOff g' (clock station.system)
            → UnlinkedAreOff g (view w) → AreShown station.system → AreDisabled (without i station.system.held)
        off i is_n cut dark shown =
            others_disabled i station.system.held (λ j h there apart.
            let keep = span_at station.system in
            let places = shown.places in
            let within = place_within j station.system.held h there in
            let (q, at_q) = member_there station.system.ports j (omega (arith, places, within)) in
            disabled_from keep h
            (dark at (station_view station) j (port_view keep h q) (station_there w.stations at station stands) live
            (port_there keep station.system.held station.system.ports j h q there at_q) (alone i is_n cut j apart)))

        by : (n : ℕ) → (sender way channel).port ≡ n → HasPortNumber station.system n → CanLose station n
        by zero is_n of = let least = of.least in absurd (omega (arith, least))
        by (suc i) is_n of =
            let steady = (is.sound.on_time.stations at station stands).steady in
            record {
              held = steady.held;
              rest = steady.rest;
              place = i;
              number = refl;
              others = elim one [
                | inl (stays, beside) ↦ inl (another i is_n (as_much stays beside))
                | inr (cut, dark) ↦ inr (off i is_n cut dark steady.shown)
              ];
            }

  pub still_b : slice_get k.between.stations k.place_b ≡ Some k.station_b
  still_b = second_still PortDown channel taken draws w' k (is.between place channel here).apart

  -- a network of the world then has the wiring of one that it had
  pub wires : (n : Network) → n ≡ wired_as n (start_network p 0 0 w') → SameWiring seen.n n
  wires n wired =
      let started = same_start p 0 0 taken w' keeps in
      record {
        place = λ v. ap (λ (x : Network). x.place v) wired ∙ keeps.places v ∙ seen.same.place v;
        lane = λ q.
            ap (λ (x : Network). x.lane q) wired ∙ ap (λ (x : Network). x.lane q) started
            ∙ lane_set w.net.channels place channel (lost channel) q here refl refl ∙ seen.same.lane q;
        log = λ q.
            ap (λ (x : Network). x.log_of q) wired ∙ ap (λ (x : Network). x.log_of q) started ∙ seen.same.log q;
        interval = λ q.
            ap (λ (x : Network). x.interval_of q) wired ∙ ap (λ (x : Network). x.interval_of q) started
            ∙ seen.same.interval q;
      }

  module _ (stay : StayOrAreAlone w w') where
    left : IsLeftUnmoved g g'
    left = record {
      systems = less_then.systems;
      links = less_then.links;
      unmoved = λ v known. elim (stay v known) [ inl unmoved ↦ inl unmoved | inr (cut, dark) ↦ inr cut ];
    }

    -- so are those beside it
    joined_too : (v : ℕ) → In v (clocks g')
        → (IsUnmoved g g' v × NearerStay g g' v) ⊎ (IsCutOff g' v × UnlinkedAreOff g (view w))
    joined_too v known_v = elim (stay v known_v) [
      | inr alone ↦ inr alone
      | inl unmoved ↦ inl (
        unmoved,
        (λ y e joined nearer here_far.
            let (m, j, joins) = joined in
            joined_stays g g' well well' left (port_of y j) (port_of v m)
            (Joins-sym g' (port_of v m) (port_of y j) joins)),
      )
    ]

    pub told : StandsReduced taken w'
    told =
        stands_on taken k.between w'
        (goes_down_reduced k.place_a channel.a.port taken k.first k.between (λ station stands live.
        let one = same_there w.stations k.place_a station k.station_a stands k.is_a.here in
        let named = ap (λ (x : Station). clock x.system) one ∙ k.is_a.named in
        can_lose FromA k.place_a station stands named live
        (joined_too (clock station.system) (known FromA k.place_a station stands named live))) k.at_a)
        (goes_down_reduced k.place_b channel.b.port k.between k.second w' (λ station stands live.
        let one = same_there k.between.stations k.place_b station k.station_b stands still_b in
        let stands = k.is_b.here ∙ ap (λ x. Some x) (sym one) in
        let named = ap (λ (x : Station). clock x.system) one ∙ k.is_b.named in
        can_lose FromB k.place_b station stands named live
        (joined_too (clock station.system) (known FromB k.place_b station stands named live))) k.at_b)

    none_lost : (direction : Direction) → (lane_view direction (lost channel)).frames ≡ []
    none_lost FromA = refl
    none_lost FromB = refl

    lanes : (j : ℕ) (l : Lane) → slice_get (view w').lanes j ≡ Some l
        → (slice_get (view w).lanes j ≡ Some l) ⊎ ((l.frames ≡ []) × (l.is_up ≡ false))
    lanes j l there =
        let x = lane_from w'.net.channels j l there in
        elim (same_place x.link place) [
          | inl same ↦
              let one : x.channel ≡ lost channel =
              same_Some x.channel (lost channel)
              (sym x.here ∙ ap (λ cs. slice_get cs x.link) told.channels
              ∙ ap (slice_get (slice_set w.net.channels place (lost channel))) same
              ∙ get-set_same w.net.channels place channel (lost channel) here) in
              let lane = x.is ∙ ap (lane_view x.direction) one in
              inr (ap (λ (m : Lane). m.frames) lane ∙ none_lost x.direction, ap (λ (m : Lane). m.is_up) lane)
          | inr apart ↦
              let stood : slice_get w.net.channels x.link ≡ Some x.channel =
              sym (get-set_other w.net.channels place x.link (lost channel) apart)
              ∙ ap (λ cs. slice_get cs x.link) (sym told.channels) ∙ x.here in
              inl (ap (slice_get (view w).lanes) x.at
              ∙ lane_there w.net.channels x.link x.direction x.channel stood ∙ ap (λ m. Some m) (sym x.is))
        ]

    pub less : IsReduced (view w) (view w')
    less = record { time = told.time; stations = λ i s there live. told.stations i s there; lanes = lanes }

    -- ---- the claims

    near_then : AllAreNear g'
    near_then v known = elim (stay v known) [
      | inl unmoved ↦
          let (d, far, close) = near v (lived g g' well well' left v known) in (d, unmoved.far d far, close)
      | inr (cut, dark) ↦
          let (e, here_far) = distance_exists g' v well' known in
          let zero_is = at_zero g' v e well' cut here_far in (e, here_far, omega (arith, zero_is))
    ]

    -- all systems live that did
    farther_then : LostAreFarther g g'
    farther_then p q joins lives gone =
        absurd (gone (subst (λ (systems : List System). In p.clock (map (λ (s : System). s.clock) systems))
        (sym keeps.systems) (Joins-clock g p q well joins)))

    module _ (next : ℕ) (pace : KeepPace p) (measured' : LinkIsMeasured w') (past : next ≤ w.time)
        (way : pred (path_bound g') * delay_in w' ≤ w'.time) (sound : IsSoundWorld w) (ready' : AreReadyBy p next w')
        (silent : AreSilentBy p next w) where
      by_now : next ≤ w'.time
      by_now = let time = told.time in omega (arith, past, time)

      standing_then : IsStanding p next w'
      standing_then = record {
        pace = pace;
        world = is';
        measured = measured';
        silent = silent_down p w is place channel here draws w' is' k next silent;
      }

      asked_then : HaveAskedLong w'
      asked_then at stands =
          let (first, by) = ready_first p next w' is' by_now at (ready' at stands) in
          let change = keeps.change in
          (first, next, omega (arith, past, change), record { is = by; late = by_now })

      -- ports that no link is at are off
      unlinked_then : HaveQuietLinks p.params w' → UnlinkedHoldNothing g' (view w')
      unlinked_then quiet' i s place r there live none (q, at, holds) =
          let calm : Calm (start_network p 0 next w') (view w') =
          start_calm p next w' standing_then (asked_heard p next w' asked_then) quiet' 0 in
          let off : q.held ≡ Disabled = ((calm.stations i s there live).ports place q at).unlinked by_now none in
          absurd (let both : Received r ≡ Disabled = sym holds ∙ off in cc)

      pub lowered_left : IsLeftAlways p g next w'
      lowered_left =
          begins_left p g next w w' is' well seen less left left (wires (left_network p next w') refl)
          (sound_fits p w seen sound) standing_then asked_then unlinked_then near_then farther_then way

-- ---- the act

module _ (p : SettlingParams) (next owner port : ℕ) (w : WorldState) (draws : List Draw) (done : Done)
    (w' : WorldState) (pace : KeepPace p) (is : IsWorld p w) (is' : IsWorld p w') (measured : LinkIsMeasured w)
    (measured' : LinkIsMeasured w') (acts : Acts (Changing (LinkDown owner port)) w draws done w') where
  abbrev at_link : AtLink (port_id owner port) w.net (λ place channel.
      GoesDownIf channel.up place channel (record w { last_change = w.time }) draws w')
  at_link = acts.1

  -- the link begins at the port in a direction
  begins_at : (place : ℕ) (channel : Channel) → IsChannel (port_id owner port) place w.net channel
      → (direction : Direction) × (sender direction channel ≡ port_id owner port)
  begins_at place channel at = elim at.joined [ inl a ↦ (FromA, a) | inr b ↦ (FromB, b) ]

  module _ (up : at_link.channel.up ≡ true) where
    pub ends : TellsEnds PortDown at_link.channel
        (record w { net = taken_down at_link.place at_link.channel w.net; last_change = w.time }) draws w'
    ends =
        subst (λ b. GoesDownIf b at_link.place at_link.channel (record w { last_change = w.time }) draws w') up
        at_link.so

    -- a link that stands then is another
    pub other : (at : LinkPlace) → LinkStandsAt at w' → IsOtherLink at (port_id owner port) w
    other at s place channel at_port same =
        let (way, begins) = begins_at place channel at_port in
        let (direction, starts) = begins_at at_link.place at_link.channel at_link.is in
        let one : place ≡ at_link.place =
        is.sound.wired.apart place at_link.place way direction channel at_link.channel at_port.here at_link.is.here
        (begins ∙ sym starts) in
        up_apart p w is at_link.place at_link.channel at_link.is.here draws w' is' ends at.link s.channel s.here s.up
        (sym same ∙ one)

    -- ports at links that are left are ready as they were
    pub ready_on : AreReadyBy p next w → AreReadyBy p next w'
    ready_on ready at s =
        ready_goes_through p next at (Changing (LinkDown owner port)) w w' draws done is.sound measured (other at s)
        acts (ready at (stood_down p w is at_link.place at_link.channel at_link.is.here draws w' is' ends at s))

    module _ (seen : IsSettledSeen p w) (near : AllAreNear (snapshot_of w)) (quiet : HaveQuietLinks p.params w)
        (past : next ≤ w.time) (ready : AreReadyBy p next w) (silent : AreSilentBy p next w)
        (unmoved : (v : ℕ) → In v (clocks (snapshot_of w')) → IsUnmovedOrCutOff (snapshot_of w) (snapshot_of w') v)
      where
        -- ports that no link was at were off
        dark : UnlinkedAreOff (snapshot_of w) (view w)
        dark i s place q there live at unlinked =
            let heard : AreHeard p next w =
            (λ at stands.
            let (first, by) = ready_first p next w is past at (ready at stands) in
            inr (inr (inr (first, next, record { is = by; late = past })))) in
            let calm : Calm (start_network p 0 next w) (view w) =
            start_calm p next w (record {
              pace = pace;
              world = is;
              measured = measured;
              silent = silent;
            }) heard quiet 0 in
            ((calm.stations i s there live).ports place q at).unlinked past unlinked

        pub stay : StayOrAreAlone w w'
        stay v known = elim (unmoved v known) [ inl is ↦ inl is | inr cut ↦ inr (cut, dark) ]

        pub act_left : pred (path_bound (snapshot_of w')) * delay_in w' ≤ w'.time → IsSoundWorld w
            → IsLeftAlways p (snapshot_of w) next w'
        act_left way sound =
            lowered_left p w is at_link.place at_link.channel at_link.is.here draws w' is' ends seen near stay next
            pace measured' past way sound (ready_on ready) silent
