-- A delivery in a settled world keeps what is claimed of the time that is carried in it.
use Rattle.std.proofs.Common.{◌≡◌, ◌≢◌, ◌⊎◌, ◌≤◌, ◌+◌, ℕ, Bool, true, false, List, [], ◌∷◌, ◌++◌, map, Option, Some, None, slice_get, slice_set, refl, sym, ap, subst, ◌∙◌, inl, inr, arith, eqb-true}
use Rattle.std.specs.Option.{option_map_or}
use Rattle.std.specs.Prelude.{◌==◌}
use Rattle.std.proofs.lemmas.List.{append-nil}
use Rattle.gptp_graph.specs.Best.{IsBest}
use Rattle.gptp_graph.specs.Distance.{IsDistance}
use Rattle.gptp_graph.specs.Snapshot.{System}
use Rattle.gptp_graph.proofs.ParentLemmas.{no_parent_at_zero}
use Rattle.gptp_vector.specs.declared.port.PortId.{PortId}
use Rattle.gptp_links.specs.declared.bounds.Bounds.{Bounds}
use Rattle.gptp_links.specs.declared.link.Direction.{Direction}
use Rattle.gptp_links.specs.declared.link.Direction.TheVariants.{FromA, FromB}
use Rattle.gptp_links.specs.Fate.{Draw}
use Rattle.gptp_links.specs.Queue.{Frame, frame}
use Rattle.gptp_lists.proofs.MappedLemmas.{same_there}
use Rattle.gptp_lists.proofs.PlaceLemmas.{get-set_other, get-set_same, same_place}
use Rattle.gptp_setup.specs.declared.timer.Timer.TheVariants as timers
use Rattle.gptp_setup.specs.declared.setup.Params.{Params}
use Rattle.gptp_setup.specs.SettlingParams.{SettlingParams}
use Rattle.gptp_bmca_machine.specs.Settled.{IsSlaveOf}
use Rattle.gptp_system.specs.declared.answer.Answer.{Answer}
use Rattle.gptp_system.specs.Input.{Frame as FrameHeard, Steps}
use Rattle.gptp_system.specs.Messages.{AreSent}
use Rattle.gptp_system.specs.State.{SystemState, clock}
use Rattle.gptp_system.specs.Syncing.{is_slave_at}
use Rattle.gptp_system.proofs.SentLemmas.{steps_send}
use Rattle.gptp_model.proofs.BareLemmas.{takes_bare}
use Rattle.gptp_model.proofs.SteadyLemmas.{same_clock}
use Rattle.gptp_model.proofs.StayLemmas.{carry_join, sender_same, takes_carry}
use Rattle.gptp_model.specs.Act.{Calls, Delivers, HasFailed, Hears}
use Rattle.gptp_model.specs.declared.station.Station.{Station}
use Rattle.gptp_model.specs.World.{Channel, Net, WorldState, world_queue, receiver, sender, with_queue}
use Rattle.gptp_sync_machine.specs.Acts.{FollowerActs, hears}
use Rattle.gptp_sync_machine.specs.Follower.{FollowerSetting}
use Rattle.gptp_sync_machine.specs.Invariant.{FollowerInvariant}
use Rattle.gptp_invariants.specs.SyncFollowView.{follower_view, tells}
use Rattle.gptp_invariants.specs.SyncFollowers.{HasWay, IsFollower, base_at, follower, follower_setting, state_above, follower_state}
use Rattle.gptp_invariants.specs.DelayLinkView.{LinkPlace, link_frame_view, link_lane_view, other_direction}
use Rattle.gptp_invariants.specs.ChoiceSaid.{said_at}
use Rattle.gptp_invariants.specs.WorldStanding.{snapshot_of}
use Rattle.gptp_invariants.specs.SyncTimed.{CarriesTime, IsSettledFrom, RootsAreFresh}
use Rattle.gptp_invariants.specs.ChoiceView.{port_identity_number}
use Rattle.gptp_invariants.proofs.ChoiceCalmKeptLemmas.{KeepsNetwork, calls_keep, keeps_on, net_keeps, same_snapshot}
use Rattle.gptp_invariants.proofs.SyncFollowCallLemmas.{CallSeen, call_seen}
use Rattle.gptp_invariants.proofs.SyncFollowExpiryLemmas.{known_ran, roots_kept}
use Rattle.gptp_invariants.proofs.SyncFollowHearLemmas.{HearsTime, StaysPut, elsewhere_put, hears_time, stays_put}
use Rattle.gptp_invariants.proofs.SyncFollowHeardLemmas.{hears_seen}
use Rattle.gptp_invariants.proofs.SyncFollowLaneLemmas.{lane_seen}
use Rattle.gptp_invariants.proofs.SyncFollowSayLemmas.{heard_tells_none}
use Rattle.gptp_invariants.proofs.SyncFollowSettingLemmas.{own_stamped, residence_is}
use Rattle.gptp_invariants.proofs.SyncFollowStepLemmas.{RelayStops, apart, inv_on, k as next_setting, others, root_stays, slave_stays, step_seen, way_was}
use Rattle.gptp_invariants.proofs.SyncFollowBaseLemmas.{GoesOn, calls_go_on}
use Rattle.gptp_invariants.proofs.SyncFollowTreeLemmas.{FollowedBefore, followed_before, slave_is, takes_time, well_formed}
use Rattle.gptp_invariants.proofs.DelayLinkLemmas.{IsOrderly, net_orderly, sender_opposite, sound_orderly}
use Rattle.gptp_invariants.proofs.DelayPoppedLemmas.{queue_left, queue_set, which_way}
use Rattle.gptp_invariants.proofs.WorldWayLemmas.{one_way}
use Rattle.gptp_model.proofs.ActsByLemmas.{reached_up}

-- ---- directions

same_way : (one other : Direction) → (one ≡ other) ⊎ (one ≢ other)
same_way FromA FromA = inl refl
same_way FromA FromB = inr (λ e. cc)
same_way FromB FromA = inr (λ e. cc)
same_way FromB FromB = inl refl

pub opposite_same : (one other : Direction) → other_direction one ≡ other_direction other → one ≡ other
opposite_same FromA FromA e = refl
opposite_same FromA FromB e = absurd cc
opposite_same FromB FromA e = absurd cc
opposite_same FromB FromB e = refl

queue_other : (one other : Direction) (frames : List Frame) (channel : Channel) → one ≢ other
    → world_queue one (with_queue other frames channel) ≡ world_queue one channel
queue_other one other frames channel differs = elim (which_way one other) [
  | inl same ↦ absurd (differs same)
  | inr back ↦
      ap (λ way. world_queue way (with_queue other frames channel)) back ∙ queue_left other frames channel
      ∙ ap (λ way. world_queue way channel) (sym back)
]

-- ---- a delivery

module _ (p : SettlingParams) (settled longest : ℕ) (w : WorldState) (is : IsSettledFrom p settled longest w)
    (carries : CarriesTime p.params settled longest w) (link : ℕ) (direction : Direction) (octets : List ℕ)
    (draws : List Draw) (answer : Option Answer) (w' : WorldState)
    (d : Delivers link direction octets w draws answer w') where
  abbrev emptied : WorldState
  emptied = record w { net = d.net }

  abbrev port : ℕ
  port = (receiver direction d.channel).port

  takes_keeps : KeepsNetwork w emptied
  takes_keeps = net_keeps w d.net (takes_bare link direction w.time octets d.channel w.net d.net d.takes)

  orderly : IsOrderly emptied
  orderly =
      net_orderly w d.net
      (carry_join w.net.channels d.net.channels
      (takes_carry link direction w.time octets d.channel w.net d.net d.takes))
      (sound_orderly w is.world.sound)

  channels_are : d.net.channels ≡ slice_set w.net.channels link (with_queue direction d.takes.rest d.channel)
  channels_are = ap (λ (n : Net). n.channels) d.takes.is

  -- roots without a Slave port learn nothing
  roots_emptied : RootsAreFresh p.params settled emptied
  roots_emptied place station due here live root runs =
      carries.roots place station due here live
      (subst (λ g. IsDistance g (clock station.system) 0) (same_snapshot w emptied takes_keeps) root) runs

  -- ---- a system that follows once the frame has left

  module _ (at : LinkPlace) (left : IsFollower at emptied) where
    was : FollowedBefore at w emptied left
        (record {
          station = left.above.station;
          here = left.above.here;
          live = left.above.live;
          named = left.above.named;
        })
        (record {
          station = left.own.station;
          here = left.own.here;
          live = left.own.live;
          named = left.own.named;
        })
    was = followed_before at w emptied left takes_keeps _ _

    abbrev f : IsFollower at w
    f = was.before

    state_is : follower_state at w f ≡ follower_state at emptied left
    state_is = ap (λ (y : Station). y.system) was.own_is

    state_above_is : state_above at w f ≡ state_above at emptied left
    state_above_is = ap (λ (y : Station). y.system) was.above_is

    -- the frame came over this lane
    record CameHere : Type 0 where
      here : link ≡ at.link
      way : at.direction ≡ direction

    -- the lane is as it was, and the frame came to another port
    record CameElsewhere : Type 0 where
      lane : world_queue at.direction left.channel ≡ world_queue at.direction f.channel
      other : receiver direction d.channel ≢ receiver at.direction f.channel

    other_port : (link ≡ at.link → at.direction ≢ direction)
        → receiver direction d.channel ≢ receiver at.direction f.channel
    other_port off same =
        let begins = sender_opposite direction d.channel ∙ same ∙ sym (sender_opposite at.direction f.channel) in
        let one = one_way w is.world.sound is.world.encodable link at.link (other_direction direction)
        (other_direction at.direction)
        d.channel f.channel d.takes.here f.here (ap port_identity_number begins) in
        off one.same_link (sym (opposite_same direction at.direction one.same_way))

    which : CameHere ⊎ CameElsewhere
    which = by (same_place link at.link) (same_way at.direction direction)
      where
        by : (link ≡ at.link) ⊎ (link ≢ at.link) → (at.direction ≡ direction) ⊎ (at.direction ≢ direction)
            → CameHere ⊎ CameElsewhere
        by (inr off) way =
            let stands : left.channel ≡ f.channel =
            same_there w.net.channels at.link left.channel f.channel
            (sym (get-set_other w.net.channels link at.link _ (λ e. off (sym e)))
            ∙ ap (λ cs. slice_get cs at.link) (sym channels_are) ∙ left.here) f.here in
            inr (record { lane = ap (world_queue at.direction) stands; other = other_port (λ here. absurd (off here)) })
        by (inl here) (inl way) = inl (record { here = here; way = way })
        by (inl here) (inr other) =
            let same : d.channel ≡ f.channel =
            same_there w.net.channels at.link d.channel f.channel
            (ap (slice_get w.net.channels) (sym here) ∙ d.takes.here) f.here in
            inr (record {
              lane = ap (world_queue at.direction) (popped here)
                  ∙ queue_other at.direction direction d.takes.rest d.channel other
                  ∙ ap (world_queue at.direction) same;
              other = other_port (λ there. other);
            })
          where
            popped : link ≡ at.link → left.channel ≡ with_queue direction d.takes.rest d.channel
            popped here =
                same_there d.net.channels at.link left.channel (with_queue direction d.takes.rest d.channel) left.here
                (ap (λ cs. slice_get cs at.link) channels_are
                ∙ ap (slice_get (slice_set w.net.channels link (with_queue direction d.takes.rest d.channel)))
                (sym here)
                ∙ get-set_same w.net.channels link d.channel (with_queue direction d.takes.rest d.channel) d.takes.here)

    -- then it is the system that hears it
    module _ (came : CameHere) where
      channel_is : d.channel ≡ f.channel
      channel_is =
          same_there w.net.channels at.link d.channel f.channel
          (ap (slice_get w.net.channels) (sym came.here) ∙ d.takes.here) f.here

      port_is : receiver direction d.channel ≡ receiver at.direction f.channel
      port_is =
          ap (λ way. receiver way d.channel) (sym came.way) ∙ ap (receiver at.direction) channel_is

      place_is : at.answering ≡ d.place
      place_is =
          is.world.sound.wired.clocks at.answering d.place f.own.station d.station f.own.here d.there
          (f.own.named ∙ ap (λ (q : PortId). q.clock) (sym port_is) ∙ sym d.is_end)

      -- the oldest frame is this one, and the others are left
      front_is : world_queue at.direction f.channel ≡ frame w.time octets ∷ d.takes.rest
      front_is =
          ap (world_queue at.direction) (sym channel_is) ∙ ap (λ way. world_queue way d.channel) came.way
          ∙ d.takes.front

      left_is : world_queue at.direction left.channel ≡ d.takes.rest
      left_is =
          ap (world_queue at.direction)
          (same_there d.net.channels at.link left.channel (with_queue direction d.takes.rest d.channel) left.here
          (ap (λ cs. slice_get cs at.link) channels_are
          ∙ ap (slice_get (slice_set w.net.channels link (with_queue direction d.takes.rest d.channel)))
          (sym came.here)
          ∙ get-set_same w.net.channels link d.channel (with_queue direction d.takes.rest d.channel) d.takes.here))
          ∙ ap (λ way. world_queue way (with_queue direction d.takes.rest d.channel)) came.way
          ∙ queue_set direction d.takes.rest d.channel

  -- ---- nobody hears it

  module _ (is_left : IsSettledFrom p settled longest emptied) (failed : HasFailed d.place emptied) where
    module _ (at : LinkPlace) (left : IsFollower at emptied) (steps : ℕ) (h' : HasWay p.params at emptied left steps)
      where
        kept_by : CameHere at left ⊎ CameElsewhere at left
            → FollowerInvariant (follower_setting p.params settled longest at emptied left steps h') tells
            (follower at emptied left)
        kept_by (inr elsewhere) =
            let g = f at left in
            let same_base : (number : ℕ) (best : System) → IsBest (snapshot_of w) number best
            → GoesOn (base_at w.stations best.clock) (base_at emptied.stations best.clock) =
            λ number best is_best. inl refl in
            inv_on p settled longest w emptied is is_left takes_keeps refl same_base at g left
            (was at left).a (was at left).b (was at left).bounds steps h' carries
            (others p settled longest w emptied is is_left takes_keeps refl same_base at g left
            (was at left).a (was at left).b (was at left).bounds steps h' []
            (elsewhere.lane ∙ sym (append-nil (world_queue at.direction g.channel))) (λ x none. absurd none)
            (record {
              sync_in = ap (λ (y : SystemState). y.sync_in) (sym (state_is at left));
              known = ap (λ (y : SystemState). y.known) (sym (state_is at left));
              relay = ap (λ (y : SystemState). y.relay) (sym (state_is at left));
            })
            (λ x none. absurd none))
        kept_by (inl came) =
            let g = f at left in
            let one : g.own.station ≡ failed.station =
            same_there w.stations at.answering g.own.station failed.station g.own.here
            (ap (slice_get w.stations) (place_is at left came) ∙ failed.here) in
            absurd (let live = sym g.own.live ∙ ap (λ (y : Station). y.live) one ∙ failed.failed in cc)

    pub unheard_carries : CarriesTime p.params settled longest emptied
    unheard_carries =
        record { follow = λ at left steps h'. kept_by at left steps h' (which at left); roots = roots_emptied }

  -- ---- a live system hears it

  module _ (is' : IsSettledFrom p settled longest w') (told : Answer)
      (c : Calls d.place (FrameHeard port octets) emptied draws told w') where
    abbrev s : SystemState
    s = c.station.system

    abbrev s' : SystemState
    s' = c.after

    keeps_left : KeepsNetwork emptied w'
    keeps_left = calls_keep d.place (FrameHeard port octets) emptied draws told w' (λ value q. cc) c

    keeps : KeepsNetwork w w'
    keeps = keeps_on w emptied w' takes_keeps keeps_left

    goes : (number : ℕ) (best : System) → IsBest (snapshot_of w) number best
        → GoesOn (base_at w.stations best.clock) (base_at w'.stations best.clock)
    goes number best is_best =
        calls_go_on p settled longest d.place (FrameHeard port octets) w emptied draws told w' is refl c keeps_left
        number
        best is_best

    time : w'.time ≡ w.time
    time = ap (λ (v : WorldState). v.time) c.is

    same : clock s' ≡ clock s
    same = same_clock (FrameHeard port octets) w.time s s' c.sends told c.steps

    sent : AreSent s w.time (FrameHeard port octets) c.sends
    sent =
        steps_send (FrameHeard port octets) w.time s s' c.sends told
        (reached_up link direction octets w draws answer w' d is.world.sound.wired c.station c.here c.live) c.steps

    heard : HearsTime port octets w.time s s'
    heard = hears_time port octets w.time s s' c.sends told c.steps

    -- at another port than the Slave port nothing moves
    not_slave : (n : ℕ) → s.slave ≡ Some n → n ≢ port → is_slave_at s port ≡ false
    not_slave n slave other =
        ap (λ o. option_map_or (λ m. m == port) o false) slave ∙ by (n == port) refl
      where
        by : (b : Bool) → (n == port) ≡ b → b ≡ false
        by true e = absurd (other (eqb-true n port e))
        by false e = refl

    module _ (at : LinkPlace) (f' : IsFollower at w') (steps : ℕ) (h' : HasWay p.params at w' f' steps) where
      seen : CallSeen at emptied w' f' d.place s s' c.sends
      seen =
          call_seen d.place (FrameHeard port octets) emptied draws told w' c keeps_left is.world.sound.wired.clocks
          orderly.apart at f' (is'.world.encodable.links at.link f'.channel f'.here).ends

      abbrev left : IsFollower at emptied
      left = seen.before

      abbrev g : IsFollower at w
      g = f at left

      abbrev x : SystemState
      x = follower_state at w g

      abbrev x' : SystemState
      x' = follower_state at w' f'

      a : f'.channel.a ≡ g.channel.a
      a = seen.a ∙ (was at left).a

      b : f'.channel.b ≡ g.channel.b
      b = seen.b ∙ (was at left).b

      bounds : f'.channel.bounds ≡ g.channel.bounds
      bounds = seen.bounds ∙ (was at left).bounds

      from_is : sender at.direction left.channel ≡ sender at.direction g.channel
      from_is = sender_same at.direction g.channel left.channel (was at left).a (was at left).b

      abbrev h : HasWay p.params at w g steps
      h = way_was p settled longest w w' is is' keeps time goes at g f' a b bounds steps h'

      abbrev k : FollowerSetting
      k = next_setting p settled longest w w' is is' keeps time goes at g f' a b bounds steps h'

      own_is : ((at.answering ≡ d.place) × (x ≡ s) × (x' ≡ s')) ⊎ ((at.answering ≢ d.place) × (x' ≡ x))
      own_is = elim seen.own [
        | inl (here, before, now) ↦ inl (here, state_is at left ∙ before, now)
        | inr (other, still) ↦ inr (other, still ∙ sym (state_is at left))
      ]

      -- over another lane
      moves : CameElsewhere at left → at.answering ≡ d.place → s'.root ≡ s.root → s'.slave ≡ s.slave
          → StaysPut s s' ⊎ RelayStops w.time s s'
      moves elsewhere here root slave =
          inl (stays_put s s' root slave (elsewhere_put port octets w.time s s' off heard))
        where
          one : c.station ≡ g.own.station
          one =
              same_there w.stations d.place c.station g.own.station c.here
              (ap (slice_get w.stations) (sym here) ∙ g.own.here)

          itself : d.station ≡ g.own.station
          itself =
              same_there w.stations d.place d.station g.own.station d.there
              (ap (slice_get w.stations) (sym here) ∙ g.own.here)

          slave_there : s.slave ≡ Some (receiver at.direction g.channel).port
          slave_there = ap (λ (y : Station). y.system.slave) one ∙ slave_is p settled longest w is at g

          other : (receiver at.direction g.channel).port ≢ port
          other number =
              let clocks : (receiver direction d.channel).clock ≡ (receiver at.direction g.channel).clock =
              sym d.is_end ∙ ap (λ (y : Station). clock y.system) itself ∙ g.own.named in
              elsewhere.other (λ i. record { clock = clocks i; port = sym number i })

          off : is_slave_at s port ≡ false
          off = not_slave (receiver at.direction g.channel).port slave_there other

      elsewhere_acts : CameElsewhere at left
          → FollowerActs k tells (follower at w g) (follower_view w.time at.direction f'.channel x')
      elsewhere_acts elsewhere =
          step_seen p settled longest w w' is is' keeps time goes at g f' a b bounds steps h' d.place s s' c.sends
          seen.news
          (seen.queue_is ∙ ap (λ q. q ++ seen.news) elsewhere.lane)
          (λ y member. subst (λ (z : Bounds). w.time + z.min ≤ y.due) (was at left).bounds (seen.late y member))
          (seen.said ∙ ap (λ q. said_at s' q c.sends) from_is) seen.quiet same own_is
          (λ here. state_above_is at left ∙ seen.above here) (moves elsewhere)
          (λ here. inl (heard_tells_none port octets w.time s s' c.sends (sender at.direction g.channel) sent))

      -- over its own
      arrives : CameHere at left → FollowerActs k tells (follower at w g)
          (follower_view w.time at.direction f'.channel x')
      arrives came = by own_is
        where
          nothing : seen.news ≡ []
          nothing =
              seen.quiet
              (λ there. apart p settled longest w w' is is' keeps time goes at g f' a b bounds
              (there ∙ sym (place_is at left came)))

          on_time : (due : ℕ) → x.relay ≡ Some due → (w.time ≤ due) × (due ≤ w.time + x.params.residence)
          on_time due runs = (
            (is.world.sound.on_time.stations at.answering g.own.station g.own.here).timers g.own.live timers.Relay due
                runs,
            (is.world.known.in_time at.answering g.own.station g.own.here g.own.live).relay due runs,
          )

          number : (receiver direction d.channel).port ≡ (receiver at.direction g.channel).port
          number = ap (λ (q : PortId). q.port) (port_is at left came)

          by : ((at.answering ≡ d.place) × (x ≡ s) × (x' ≡ s')) ⊎ ((at.answering ≢ d.place) × (x' ≡ x))
              → FollowerActs k tells (follower at w g) (follower_view w.time at.direction f'.channel x')
          by (inr (other, still)) = absurd (other (place_is at left came))
          by (inl (here, before, now)) =
              hears (record {
                front = link_frame_view (frame w.time octets);
                rest = map link_frame_view d.takes.rest;
                was = ap (map link_frame_view) (front_is at left came);
                now = refl;
                lane = lane_seen at.direction left.channel f'.channel seen.news seen.queue_is
                    ∙ ap (λ fs. link_lane_view at.direction left.channel ++ map link_frame_view fs) nothing
                    ∙ append-nil (link_lane_view at.direction left.channel)
                    ∙ ap (map link_frame_view) (left_is at left came);
                hears = hears_seen k w.time at.direction g.channel f'.channel (receiver at.direction g.channel).port
                    octets x x' c.sends told (takes_time p settled longest w is at g)
                    (subst (λ n. Steps (FrameHeard n octets) w.time x x' c.sends told) number
                    (subst (λ y. Steps (FrameHeard port octets) w.time y x' c.sends told) (sym before)
                    (subst (λ y. Steps (FrameHeard port octets) w.time s y c.sends told) (sym now) c.steps)))
                    (root_stays p settled longest w w' is is' keeps time goes at g f' a b bounds)
                    (slave_stays p settled longest w w' is is' keeps time goes at g f' a b bounds)
                    (own_stamped p settled longest w is at g steps h w.time)
                    (ap (λ (y : Params). y.residence) (is.world.known.set at.answering g.own.station g.own.here).params
                    ∙ sym (residence_is p settled longest w is at g steps h))
                    on_time;
              })

      follows_on : FollowerInvariant (follower_setting p.params settled longest at w' f' steps h') tells
          (follower at w' f')
      follows_on =
          inv_on p settled longest w w' is is' keeps time goes at g f' a b bounds steps h' carries (by (which at left))
        where
          by : CameHere at left ⊎ CameElsewhere at left
              → FollowerActs k tells (follower at w g) (follower_view w.time at.direction f'.channel x')
          by (inl came) = arrives came
          by (inr elsewhere) = elsewhere_acts elsewhere

    -- a root sets no Relay timer
    root_ran : IsDistance (snapshot_of emptied) (clock s) 0 → (t : ℕ) → s'.relay ≡ Some t → s.relay ≡ Some t
    root_ran root t runs =
        known_ran s s' t (elsewhere_put port octets w.time s s' off heard) runs
      where
        there : IsDistance (snapshot_of w) (clock s) 0
        there = subst (λ g. IsDistance g (clock s) 0) (same_snapshot w emptied takes_keeps) root

        none : (slave : Option ℕ) → IsSlaveOf (snapshot_of w) (clock s) slave → slave ≡ None
        none None follows = refl
        none (Some n) (l, follows, own) =
            absurd (no_parent_at_zero (snapshot_of w) (clock s) l (well_formed p settled longest w is) there follows)

        off : is_slave_at s port ≡ false
        off =
            ap (λ o. option_map_or (λ m. m == port) o false)
            (none s.slave (is.choice d.place c.station c.here c.live (0, there, omega arith)).slave)

    pub heard_carries : CarriesTime p.params settled longest w'
    heard_carries = record {
      follow = follows_on;
      roots = roots_kept p.params settled d.place (FrameHeard port octets) emptied draws told w' c keeps_left root_ran
          roots_emptied;
    }

pub delivery_carries : (p : SettlingParams) (settled longest : ℕ) (w w' : WorldState)
    → IsSettledFrom p settled longest w
    → IsSettledFrom p settled longest w' → CarriesTime p.params settled longest w → (link : ℕ) (direction : Direction)
    (octets : List ℕ) (draws : List Draw) (answer : Option Answer) → Delivers link direction octets w draws answer w'
    → CarriesTime p.params settled longest w'
delivery_carries p settled longest w w' is is' carries link direction octets draws answer d = by answer d.hears
  where
    by : (o : Option Answer)
        → Hears d.place (receiver direction d.channel).port octets (record w { net = d.net }) draws o w'
        → CarriesTime p.params settled longest w'
    by (Some told) c = heard_carries p settled longest w is carries link direction octets draws answer w' d is' told c
    by None (failed, none, same) =
        subst (CarriesTime p.params settled longest) (sym same)
        (unheard_carries p settled longest w is carries link direction octets draws answer w' d
        (subst (IsSettledFrom p settled longest) same is') failed)
