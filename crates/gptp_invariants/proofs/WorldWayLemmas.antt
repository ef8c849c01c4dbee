-- The links of a snapshot are the lanes of the world that are up between two live systems.
use Rattle.std.proofs.Common.{◌≡◌, ℕ, zero, suc, Bool, true, false, List, [], ◌∷◌, Some, slice_get, refl, sym, ap, ◌∙◌, inl, inr}
use Rattle.std.specs.Prelude.{if◌then◌else◌}
use Rattle.std.proofs.lemmas.Option.{none-some, same_Some}
use Rattle.gptp_lists.specs.Members.{In}
use Rattle.gptp_graph.specs.Snapshot.{Joins, Link, PortIdentity, System}
use Rattle.gptp_links.specs.declared.link.Direction.{Direction}
use Rattle.gptp_links.specs.declared.link.Direction.TheVariants.{FromA, FromB}
use Rattle.gptp_model.specs.Sound.{IsSound}
use Rattle.gptp_model.specs.World.{Channel, WorldState, receiver, sender}
use Rattle.gptp_lists.proofs.MappedLemmas.{same_there}
use Rattle.gptp_invariants.specs.WorldEncodable.{IsEncodable}
use Rattle.gptp_invariants.specs.ChoiceView.{port_identity_number, lane_view}
use Rattle.gptp_invariants.proofs.ChoiceSeenLaneLemmas.{lane_there, one_lane}
use Rattle.gptp_invariants.proofs.ChoiceSendLemmas.{world_apart}
use Rattle.gptp_invariants.specs.WorldStanding.{channel_is_used, standing_link, live_stations, snapshot_of, used_channels}

-- ---- members

-- a link of the snapshot is one of the world that is used
pub record IsUsedAt (systems : List System) (channels : List Channel) (l : Link) : Type 0 where
  pub link : ℕ
  pub channel : Channel
  pub here : slice_get channels link ≡ Some channel
  pub used : channel_is_used systems channel ≡ true
  pub is : l ≡ standing_link channel

behind : (systems : List System) (first : Channel) (channels : List Channel) (l : Link)
    → IsUsedAt systems channels l → IsUsedAt systems (first ∷ channels) l
behind systems first channels l at =
    record { link = suc at.link; channel = at.channel; here = at.here; used = at.used; is = at.is }

used_from : (systems : List System) (channels : List Channel) (l : Link) → In l (used_channels systems channels)
    → IsUsedAt systems channels l
used_from systems [] l member = absurd member
used_from systems (first ∷ channels) l member =
    by (channel_is_used systems first) refl (used_from systems channels l) member
  where
    by : (used : Bool) → channel_is_used systems first ≡ used
        → (In l (used_channels systems channels) → IsUsedAt systems channels l)
        → In l (if used then standing_link first ∷ used_channels systems channels else used_channels systems channels)
        → IsUsedAt systems (first ∷ channels) l
    by true is later (inl same) = record { link = zero; channel = first; here = refl; used = is; is = same }
    by true is later (inr among) = behind systems first channels l (later among)
    by false is later among = behind systems first channels l (later among)

used_there : (systems : List System) (channels : List Channel) (link : ℕ) (channel : Channel)
    → slice_get channels link ≡ Some channel → channel_is_used systems channel ≡ true
    → In (standing_link channel) (used_channels systems channels)
used_there systems [] link channel here used = absurd (none-some channel here)
used_there systems (first ∷ channels) zero channel here used =
    let same = same_Some first channel here in
    let is : channel_is_used systems first ≡ true = ap (channel_is_used systems) same ∙ used in
    rw is (inl (ap standing_link (sym same)))
used_there systems (first ∷ channels) (suc link) channel here used =
    by (channel_is_used systems first) (used_there systems channels link channel here used)
  where
    by : (is : Bool) → In (standing_link channel) (used_channels systems channels)
        → In (standing_link channel) (if is then standing_link first ∷ used_channels systems channels else used_channels
        systems channels)
    by true among = inr among
    by false among = among

-- ---- ways

-- a used link leads from one port to the other, in one of its directions
pub record IsWay (w : WorldState) (p q : PortIdentity) : Type 0 where
  pub link : ℕ
  pub direction : Direction
  pub channel : Channel
  pub here : slice_get w.net.channels link ≡ Some channel
  pub used : channel_is_used (live_stations w.stations) channel ≡ true
  pub from : port_identity_number (sender direction channel) ≡ p
  pub to : port_identity_number (receiver direction channel) ≡ q

pub way_of : (w : WorldState) (p q : PortIdentity) → Joins (snapshot_of w) p q → IsWay w p q
way_of w p q (inl member) =
    let at = used_from (live_stations w.stations) w.net.channels _ member in
    record {
      link = at.link;
      direction = FromA;
      channel = at.channel;
      here = at.here;
      used = at.used;
      from = ap (λ (l : Link). l.a) (sym at.is);
      to = ap (λ (l : Link). l.b) (sym at.is);
    }
way_of w p q (inr member) =
    let at = used_from (live_stations w.stations) w.net.channels _ member in
    record {
      link = at.link;
      direction = FromB;
      channel = at.channel;
      here = at.here;
      used = at.used;
      from = ap (λ (l : Link). l.b) (sym at.is);
      to = ap (λ (l : Link). l.a) (sym at.is);
    }

-- a used link joins its ends
pub used_joins : (w : WorldState) (link : ℕ) (direction : Direction) (channel : Channel)
    → slice_get w.net.channels link ≡ Some channel → channel_is_used (live_stations w.stations) channel ≡ true
    → Joins (snapshot_of w) (port_identity_number (sender direction channel))
    (port_identity_number (receiver direction channel))
used_joins w link FromA channel here used =
    inl (used_there (live_stations w.stations) w.net.channels link channel here used)
used_joins w link FromB channel here used =
    inr (used_there (live_stations w.stations) w.net.channels link channel here used)

-- ---- one way

-- from a port only one link leads
pub record IsOneWay (link other : ℕ) (direction way : Direction) (channel at : Channel) : Type 0 where
  pub same_link : link ≡ other
  pub same_way : direction ≡ way
  pub same_channel : channel ≡ at

pub one_way : (w : WorldState) → IsSound w → IsEncodable w → (link other : ℕ) (direction way : Direction)
    (channel at : Channel) → slice_get w.net.channels link ≡ Some channel → slice_get w.net.channels other ≡ Some at
    → port_identity_number (sender direction channel) ≡ port_identity_number (sender way at)
    → IsOneWay link other direction way channel at
one_way w sound encodable link other direction way channel at here there same =
    let lanes = world_apart w sound encodable _ _ (lane_view direction channel) (lane_view way at)
    (lane_there w.net.channels link direction channel here) (lane_there w.net.channels other way at there) same in
    let (links, ways) = one_lane link other direction way lanes in
    record {
      same_link = links;
      same_way = ways;
      same_channel = same_there w.net.channels link channel at here
          (ap (slice_get w.net.channels) links ∙ there);
    }

-- so two ways from a port are one
pub ways_meet : (w : WorldState) (p q r : PortIdentity) → IsSound w → IsEncodable w → IsWay w p q → IsWay w p r → q ≡ r
ways_meet w p q r sound encodable x y =
    let one = one_way w sound encodable x.link y.link x.direction y.direction x.channel y.channel x.here y.here
    (x.from ∙ sym y.from) in
    sym x.to
    ∙ ap (λ d. port_identity_number (receiver d x.channel)) one.same_way
    ∙ ap (λ c. port_identity_number (receiver y.direction c)) one.same_channel
    ∙ y.to
