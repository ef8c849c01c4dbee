-- A call of a settled world, at a system that follows: an act of the machine of gptp_sync_machine, which keeps its
-- invariant.
use Rattle.std.proofs.Common.{◌≡◌, ◌≢◌, ◌⊎◌, ◌≤◌, ◌+◌, ℕ, suc, List, [], ◌++◌, map, Some, None, slice_get, sym, ap, subst, ◌∙◌, inl, inr, arith}
use Rattle.std.specs.Option.{option_map}
use Rattle.std.proofs.lemmas.List.{append-nil}
use Rattle.gptp_lists.specs.Members.{In}
use Rattle.gptp_lists.proofs.MappedLemmas.{same_there}
use Rattle.gptp_lists.proofs.SystemSpecLemmas.{In-right}
use Rattle.gptp_lists.proofs.PlaceLemmas.{same_place}
use Rattle.gptp_graph.specs.SettledChoice.{IsBestIdentity}
use Rattle.gptp_graph.specs.Best.{IsBest}
use Rattle.gptp_graph.specs.Snapshot.{System}
use Rattle.gptp_vector.specs.declared.port.PortId.{PortId}
use Rattle.gptp_messages.specs.Frame.{PortFits}
use Rattle.gptp_links.specs.declared.bounds.Bounds.{Bounds}
use Rattle.gptp_links.specs.Queue.{AreDueInOrder, Frame}
use Rattle.gptp_setup.specs.SettlingParams.{SettlingParams}
use Rattle.gptp_system.specs.declared.sending.Sending.{Sending}
use Rattle.gptp_system.specs.State.{SystemState, clock, own}
use Rattle.gptp_model.specs.declared.station.Station.{Station}
use Rattle.gptp_model.specs.World.{WorldState, world_queue, receiver, sender}
use Rattle.gptp_model.proofs.StayLemmas.{sender_same}
use Rattle.gptp_pdelay_machine.specs.Lanes.{AreMute, LaneFrame as SeenFrame}
use Rattle.gptp_sync_machine.specs.Acts.{FollowerActs, AreSentInTime, IsUnmoved, others_send, parent_tells, relays}
use Rattle.gptp_sync_machine.specs.Follower.{Follower, FollowerSetting}
use Rattle.gptp_sync_machine.specs.Follower as followers
use Rattle.gptp_sync_machine.specs.Invariant.{FollowerInvariant}
use Rattle.gptp_sync_machine.specs.Right.{FollowUpIsRight}
use Rattle.gptp_sync_machine.specs.Tree.{IsWayTo, follower_of}
use Rattle.gptp_sync_machine.proofs.FollowerLemmas.{inv_kept}
use Rattle.gptp_invariants.specs.SyncFollowView.{follower_view, kept_sync, tells}
use Rattle.gptp_invariants.specs.SyncFollowers.{HasWay, IsFollower, base_at, root_base, follower, follower_clock, follower_setting, follower_parts, state_above, follower_state, stamps_of}
use Rattle.gptp_invariants.specs.DelayLinkView.{LinkPlace, link_frame_view}
use Rattle.gptp_invariants.specs.ChoiceSaid.{said_at}
use Rattle.gptp_invariants.specs.WorldStanding.{snapshot_of}
use Rattle.gptp_invariants.specs.SyncTimed.{CarriesTime, IsSettledFrom}
use Rattle.gptp_invariants.specs.ChoiceView.{port_identity_number}
use Rattle.gptp_invariants.proofs.ChoiceCalmKeptLemmas.{KeepsNetwork, same_snapshot}
use Rattle.gptp_invariants.proofs.SyncFollowBaseLemmas.{GoesOn, best, invariant_goes_on, is_best, root_clock_is}
use Rattle.gptp_invariants.proofs.SyncFollowHeardLemmas.{put_unmoved}
use Rattle.gptp_invariants.proofs.SyncFollowHearLemmas.{StaysPut}
use Rattle.gptp_invariants.proofs.SyncFollowLaneLemmas.{in_order, lane_seen, order_behind}
use Rattle.gptp_invariants.proofs.SyncFollowPartLemmas.{same_parts, same_stamps}
use Rattle.gptp_invariants.proofs.SyncFollowRightLemmas.{TellsRight}
use Rattle.gptp_invariants.proofs.SyncFollowSayLemmas.{NoneTells, PairOrNone, TellsPair, none_mute, pair_sends, told_pair}
use Rattle.gptp_invariants.proofs.SyncFollowSettingLemmas.{least_is, most_is}
use Rattle.gptp_invariants.proofs.SyncFollowTreeLemmas.{own_choice, same_root, slave_is, well_formed}
use Rattle.gptp_invariants.proofs.DelayLinkCallLemmas.{seen_from}
use Rattle.gptp_invariants.proofs.DelayLinkLemmas.{receiver_same}
use Rattle.gptp_invariants.proofs.DelaySentLemmas.{octets_of}
use Rattle.gptp_invariants.proofs.WorldStandsLemmas.{ends_differ}
use Rattle.gptp_invariants.proofs.SyncLaneLemmas.{own_fits}
use Rattle.gptp_roles.specs.Selection.{clock_of}

-- the Relay timer of a system expires
pub record RelayStops (now : ℕ) (s s' : SystemState) : Type 0 where
  pub runs : s.relay ≡ Some now
  pub sync_in : s'.sync_in ≡ s.sync_in
  pub relay : s'.relay ≡ None

module _ (p : SettlingParams) (settled longest : ℕ) (w w' : WorldState) (is : IsSettledFrom p settled longest w)
    (is' : IsSettledFrom p settled longest w') (keeps : KeepsNetwork w w') (time : w'.time ≡ w.time)
    (goes : (number : ℕ) (best : System) → IsBest (snapshot_of w) number best
    → GoesOn (base_at w.stations best.clock) (base_at w'.stations best.clock)) (at : LinkPlace)
    (f : IsFollower at w) (f' : IsFollower at w') (a : f'.channel.a ≡ f.channel.a) (b : f'.channel.b ≡ f.channel.b)
    (bounds : f'.channel.bounds ≡ f.channel.bounds) where
  abbrev x : SystemState
  x = follower_state at w f

  abbrev x' : SystemState
  x' = follower_state at w' f'

  pub same_from : sender at.direction f'.channel ≡ sender at.direction f.channel
  same_from = sender_same at.direction f.channel f'.channel a b

  pub same_to : receiver at.direction f'.channel ≡ receiver at.direction f.channel
  same_to = receiver_same at.direction f.channel f'.channel a b

  -- it follows the same root over the same port
  pub root_stays : x'.root ≡ x.root
  root_stays =
      same_root (snapshot_of w) (clock x) x'.root x.root (well_formed p settled longest w is)
      (subst (λ g. IsBestIdentity g (clock x) x'.root) (same_snapshot w w' keeps)
      (subst (λ n. IsBestIdentity (snapshot_of w') n x'.root)
      (f'.own.named ∙ ap (λ (q : PortId). q.clock) same_to ∙ sym f.own.named)
      (own_choice p settled longest w' is' at f').root))
      (own_choice p settled longest w is at f).root

  pub slave_stays : x'.slave ≡ x.slave
  slave_stays =
      slave_is p settled longest w' is' at f' ∙ ap (λ (q : PortId). Some q.port) same_to
      ∙ sym (slave_is p settled longest w is at f)

  -- its root goes on to tell the same, if it told time
  pub base_goes_on : GoesOn (root_base w x) (root_base w' x')
  base_goes_on =
      let is_clock = root_clock_is p settled longest w is at f in
      subst (λ n. GoesOn (base_at w.stations n) (base_at w'.stations (clock_of x'.root))) (sym is_clock)
      (subst (λ n. GoesOn (base_at w.stations (best p settled longest w is at f).clock) (base_at w'.stations n))
      (sym (ap clock_of root_stays ∙ is_clock))
      (goes (clock x) (best p settled longest w is at f) (is_best p settled longest w is at f)))

  -- the two ends are of two systems
  pub apart : at.asking ≢ at.answering
  apart same =
      let one = same_there w.stations at.asking f.above.station f.own.station f.above.here
      (ap (slice_get w.stations) same ∙ f.own.here) in
      ends_differ w is.world.between at.link at.direction f.channel f.here
      (sym f.above.named ∙ ap (λ (y : Station). clock y.system) one ∙ f.own.named)

  -- its way was the same
  module _ (steps : ℕ) (h' : HasWay p.params at w' f' steps) where
    abbrev pub way_was : HasWay p.params at w f steps
    way_was = record {
      way = h'.way;
      phase = h'.phase;
      stamps = h'.stamps;
      stamped = h'.stamped ∙ ap (λ (q : PortId). stamps_of w'.stations q.clock) same_to
          ∙ same_stamps w w' keeps (follower_clock at w f);
      is = subst (λ y. IsWayTo y (snapshot_of w) (suc steps) (follower_clock at w f) h'.way h'.phase)
          (same_parts p.params w w' keeps)
          (subst (λ g. IsWayTo (follower_parts p.params w') g (suc steps) (follower_clock at w f) h'.way h'.phase)
          (same_snapshot w w' keeps)
          (subst (λ (q : PortId). IsWayTo (follower_parts p.params w') (snapshot_of w')
          (suc steps) q.clock h'.way h'.phase)
          same_to h'.is));
    }

    -- its setting then, by the base that its root has afterwards
    abbrev pub k : FollowerSetting
    k = record (follower_setting p.params settled longest at w f steps way_was) { base = root_base w' x' }

    abbrev pub after : Follower
    after = follower_view w.time at.direction f'.channel x'

    -- so an act of the machine keeps the invariant
    pub inv_on : CarriesTime p.params settled longest w → FollowerActs k tells (follower at w f) after
        → FollowerInvariant (follower_setting p.params settled longest at w' f' steps h') tells (follower at w' f')
    inv_on carries acts =
        let kept = inv_kept k tells (follower at w f) after acts
        (invariant_goes_on (follower_setting p.params settled longest at w f steps way_was) (root_base w' x')
        (follower at w f) base_goes_on (carries.follow at f steps way_was)) in
        subst (λ t. FollowerInvariant (follower_setting p.params settled longest at w' f' steps h') tells
        (follower_view t at.direction f'.channel x')) (sym time)
        (subst (λ (q : PortId). FollowerInvariant
        (follower_of h'.way h'.phase (root_base w' x') steps h'.stamps (port_identity_number q) settled longest) tells
        after)
        (sym same_from) kept)

    -- ---- what is sent

    module _ (news : List Frame) (queue_is : world_queue at.direction f'.channel ≡ world_queue at.direction
        f.channel ++ news)
        (late : (g : Frame) → In g news → w.time + f.channel.bounds.min ≤ g.due) where
      lane_is : after.lane ≡ (follower at w f).lane ++ map link_frame_view news
      lane_is = lane_seen at.direction f.channel f'.channel news queue_is

      among : (g : Frame) → In g news → In g (world_queue at.direction f'.channel)
      among g member = subst (In g) (sym queue_is) (In-right g (world_queue at.direction f.channel) news member)

      soon : (g : Frame) → In g news → g.due ≤ w.time + f.channel.bounds.max
      soon g member =
          let fresh = is'.arrive at.link at.direction f'.channel g f'.here (among g member) in
          let here = is'.late in
          let most = ap (λ (y : Bounds). y.max) bounds in
          omega (arith, fresh, here, most, time)

      in_time : AreSentInTime k w.time (map link_frame_view news)
      in_time = record {
        long = λ g member. long_by g (seen_from news g member);
        short = λ g member. short_by g (seen_from news g member);
        order = in_order news
            (order_behind (world_queue at.direction f.channel) news
            (subst AreDueInOrder queue_is
            (is'.world.sound.wired.flow at.link at.direction f'.channel f'.here).order));
      }
        where
          long_by : (g : SeenFrame) → ((one : Frame) × In one news × (g ≡ link_frame_view one))
              → w.time + (followers.parent_link k).least ≤ g.due
          long_by g (one, member, same) =
              let least = least_is p settled longest w is at f steps way_was in
              let due = late one member in
              subst (λ (y : SeenFrame). w.time + (followers.parent_link k).least ≤ y.due) (sym same)
              (omega (arith, least, due))

          short_by : (g : SeenFrame) → ((one : Frame) × In one news × (g ≡ link_frame_view one))
              → g.due ≤ w.time + (followers.parent_link k).most
          short_by g (one, member, same) =
              let most = most_is p settled longest w is at f steps way_was in
              let due = soon one member in
              subst (λ (y : SeenFrame). y.due ≤ w.time + (followers.parent_link k).most) (sym same)
              (omega (arith, most, due))

      unmoved : StaysPut x x' → IsUnmoved (follower at w f) after
      unmoved put = put_unmoved w.time at.direction f.channel f'.channel x x' put

      -- others send
      pub others : StaysPut x x' → AreMute tells (map link_frame_view news)
          → FollowerActs k tells (follower at w f) after
      others put mute =
          others_send (record { unmoved = unmoved put; news = map link_frame_view news; lane = lane_is; mute = mute })

      -- the parent tells
      pub tells_time : StaysPut x x' → (s s' : SystemState) (sends : List Sending) → clock s' ≡ clock s
          → clock s ≡ (sender at.direction f.channel).clock
          → octets_of news ≡ said_at s' (sender at.direction f.channel) sends → TellsRight k w.time s sends
          → FollowerActs k tells (follower at w f) after
      tells_time put s s' sends same named said t =
          by (told_pair s s' t.told sends (sender at.direction f.channel).port same fits t.small t.are)
        where
          mine : own s' (sender at.direction f.channel).port ≡ sender at.direction f.channel
          mine =
              let clocks = same ∙ named in
              λ i. record { clock = clocks i; port = (sender at.direction f.channel).port }

          fits : PortFits (own s' (sender at.direction f.channel).port)
          fits =
              let of = is.world.sound.wired.ports at.link at.asking at.direction f.channel f.above.station f.here
              f.above.here f.above.named in
              let its = is.world.sound.wired.setups at.asking f.above.station f.above.here in
              let count = its.ports in
              let few = its.few in
              let most = of.most in
              own_fits s' (sender at.direction f.channel).port (omega (arith, most, count, few))

          by : PairOrNone (port_identity_number (own s' (sender at.direction f.channel).port)) t.told
              (said_at s' (own s' (sender at.direction f.channel).port) sends)
              → FollowerActs k tells (follower at w f) after
          by (inr none) =
              let nothing : octets_of news ≡ [] =
              said ∙ ap (λ q. said_at s' q sends) (sym mine) ∙ none in
              others put (none_mute news [] nothing (λ o member. absurd member))
          by (inl pair) =
              let here : TellsPair k.parent t.told (octets_of news) =
              subst (λ q. TellsPair (port_identity_number q) t.told (octets_of news)) mine
              (subst (TellsPair (port_identity_number (own s' (sender at.direction f.channel).port)) t.told)
              (sym (said ∙ ap (λ q. said_at s' q sends) (sym mine))) pair) in
              parent_tells (record {
                unmoved = unmoved put;
                sequence = here.sequence;
                told = here.read;
                news = map link_frame_view news;
                lane = lane_is;
                sent = pair_sends k.parent t.told news here;
                in_time = in_time;
                right = λ from_then.
                    subst (λ told. FollowUpIsRight k.way k.phase k.base k.place told w.time)
                    (sym (here.exact (t.fits from_then)))
                    (t.right from_then);
              })

  -- ---- a call

  module _ (steps : ℕ) (h' : HasWay p.params at w' f' steps) (place : ℕ) (s s' : SystemState) (sends : List Sending)
      (news : List Frame) (queue_is : world_queue at.direction f'.channel ≡ world_queue at.direction f.channel ++ news)
      (late : (g : Frame) → In g news → w.time + f.channel.bounds.min ≤ g.due)
      (said : octets_of news ≡ said_at s' (sender at.direction f.channel) sends)
      (quiet : at.asking ≢ place → news ≡ []) (same : clock s' ≡ clock s) where
    abbrev kset : FollowerSetting
    kset = k steps h'

    none_seen : news ≡ [] → AreMute tells (map link_frame_view news)
    none_seen none = none_mute news [] (ap octets_of none) (λ o member. absurd member)

    pub step_seen : ((at.answering ≡ place) × (x ≡ s) × (x' ≡ s')) ⊎ ((at.answering ≢ place) × (x' ≡ x))
        → (at.asking ≡ place → state_above at w f ≡ s)
        → (at.answering ≡ place → s'.root ≡ s.root → s'.slave ≡ s.slave → StaysPut s s' ⊎ RelayStops w.time s s')
        → (at.asking ≡ place → NoneTells (said_at s' (sender at.direction f.channel) sends)
        ⊎ TellsRight kset w.time s sends)
        → FollowerActs kset tells (follower at w f) (after steps h')
    step_seen (inl (here, was, now)) above moves speaks =
        by
        (moves here
        (ap (λ (y : SystemState). y.root) (sym now) ∙ root_stays ∙ ap (λ (y : SystemState). y.root) was)
        (ap (λ (y : SystemState). y.slave) (sym now) ∙ slave_stays ∙ ap (λ (y : SystemState). y.slave) was))
      where
        nothing : news ≡ []
        nothing = quiet (λ there. apart (there ∙ sym here))

        by : StaysPut s s' ⊎ RelayStops w.time s s' → FollowerActs kset tells (follower at w f) (after steps h')
        by (inl put) =
            others steps h' news queue_is late
            (subst (λ y. StaysPut y x') (sym was) (subst (StaysPut s) (sym now) put)) (none_seen nothing)
        by (inr stops) =
            let stops' = subst (λ y. RelayStops w.time y x') (sym was) (subst (RelayStops w.time s) (sym now) stops) in
            relays (record {
              now = stops'.runs;
              kept = ap (option_map kept_sync) stops'.sync_in;
              lane = lane_is steps h' news queue_is late
                  ∙ ap (λ fs. (follower at w f).lane ++ map link_frame_view fs) nothing
                  ∙ append-nil (follower at w f).lane;
              relay = stops'.relay;
            })
    step_seen (inr (other, still)) above moves speaks = by (same_place at.asking place)
      where
        put : StaysPut x x'
        put = record {
          sync_in = ap (λ (y : SystemState). y.sync_in) still;
          known = ap (λ (y : SystemState). y.known) still;
          relay = ap (λ (y : SystemState). y.relay) still;
        }

        by : (at.asking ≡ place) ⊎ (at.asking ≢ place) → FollowerActs kset tells (follower at w f) (after steps h')
        by (inr apart_too) = others steps h' news queue_is late put (none_seen (quiet apart_too))
        by (inl here) = elim (speaks here) [
          | inl none ↦ others steps h' news queue_is late put (none_mute news _ said none)
          | inr told ↦ tells_time steps h' news queue_is late put s s' sends same
              (ap clock (sym (above here)) ∙ f.above.named) said told
        ]
