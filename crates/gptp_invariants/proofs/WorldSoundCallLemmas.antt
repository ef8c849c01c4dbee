-- Calls and direct edits of a world keep all that is held and in flight sound.
use Rattle.std.proofs.Common.{◌≡◌, ◌≢◌, ℕ, true, List, map, Some, slice_get, slice_set, refl, sym, ap, subst, ◌∙◌, inl, inr}
use Rattle.std.specs.Prelude.{⊤}
use Rattle.std.proofs.lemmas.Bool.{and_from, and_parts}
use Rattle.gptp_lists.specs.Members.{In}
use Rattle.gptp_lists.proofs.MappedLemmas.{same_there}
use Rattle.gptp_lists.proofs.PlaceLemmas.{get-set_other, get-set_same, same_place, set_each}
use Rattle.gptp_graph.specs.Snapshot.{IsWellFormed, Joins, PortIdentity, Snapshot, System}
use Rattle.gptp_vector.specs.declared.port.PortId.{PortId}
use Rattle.gptp_links.specs.declared.link.Direction.{Direction}
use Rattle.gptp_links.specs.declared.link.Direction.TheVariants.{FromA, FromB}
use Rattle.gptp_links.specs.Fate.{Draw}
use Rattle.gptp_system.specs.declared.answer.Answer.{Answer}
use Rattle.gptp_system.specs.Input.{Input, IsTimely, PortUp, Frame as FrameHeard}
use Rattle.gptp_system.specs.State.{clock}
use Rattle.gptp_system.proofs.FollowLemmas.{follows}
use Rattle.gptp_model.specs.declared.station.Station.{Station}
use Rattle.gptp_model.specs.Act.{Calls, in_state}
use Rattle.gptp_model.specs.Ahead.{IsSteady}
use Rattle.gptp_model.specs.Changing.{TellsEnds}
use Rattle.gptp_model.specs.Sound.{AreApart, HaveTheirSetups}
use Rattle.gptp_model.specs.World.{Channel, Net, WorldState, world_queue, sender}
use Rattle.gptp_model.proofs.StayLemmas.{calls_stay, stays_apart, sender_same}
use Rattle.gptp_model.proofs.SteadyLemmas.{steps_steady}
use Rattle.gptp_bmca_machine.specs.SoundEverywhere.{IsSoundEverywhere, IsSoundSent, LaneIsSound, MaySay}
use Rattle.gptp_bmca_machine.specs.Frame.{Lane}
use Rattle.gptp_bmca_machine.specs.Station.{Reception as SeenReception}
use Rattle.gptp_bmca_machine.proofs.SoundEverywhereLemmas.{calls_sound}
use Rattle.gptp_invariants.proofs.DelayLinkLemmas.{receiver_same}
use Rattle.gptp_invariants.specs.WorldStanding.{stations_have_clock, channel_is_used, live_stations, snapshot_of, standing_system}
use Rattle.gptp_invariants.specs.ChoiceView.{frame_view, port_identity_number, lane_place, lane_view, lanes_view, says_announce, station_view, touch_view, view}
use Rattle.gptp_model.proofs.ActsByLemmas.{PortCallsKeep, ends_told}
use Rattle.gptp_invariants.proofs.WorldAnsweringLemmas.{IsAnswering, calls_answering}
use Rattle.gptp_invariants.proofs.ChoiceCalmFactLemmas.{follows_seen}
use Rattle.gptp_invariants.proofs.ChoiceCalmKeptLemmas.{KeepsNetwork, calls_keep, keeps_on, net_keeps, same_snapshot}
use Rattle.gptp_invariants.proofs.WorldOrderLemmas.{in_contains}
use Rattle.gptp_invariants.proofs.ChoicePortLemmas.{held_from, same_standing}
use Rattle.gptp_invariants.proofs.ChoiceSeenCallLemmas.{calls_seen}
use Rattle.gptp_invariants.proofs.ChoiceSeenLaneLemmas.{lane_from, lane_there}
use Rattle.gptp_invariants.proofs.ChoiceSendLemmas.{lanes_apart}
use Rattle.gptp_invariants.proofs.WorldSystemLemmas.{clock_from, clock_there, live_there}
use Rattle.gptp_invariants.proofs.ChoiceTouchLemmas.{InputFits, hear_back, heard_in}
use Rattle.gptp_invariants.proofs.WorldWayLemmas.{used_joins, way_of}
use Rattle.gptp_lists.proofs.SystemSpecLemmas.{from_map, In-map}

-- ---- one system

-- what a steady system says goes on what it holds
may_say : (g : Snapshot) (station : Station) → IsSteady station.system → In (standing_system station) g.systems
    → MaySay g (station_view station)
may_say g station steady known =
    let s = station.system in
    record {
      known = subst (λ x. In x g.systems) (same_standing station steady.shown) known;
      follows = follows_seen station steady (follows s steady.held steady.rest);
      no_loop = λ i seen holds member.
          let at = held_from station.live s i seen holds in
          (steady.held i at.held at.stands at.reception at.got).no_loop
          (in_contains (clock s) _ (subst (λ (r : SeenReception). In (clock s) r.said.path) at.is member));
    }

-- ---- one call

-- an input that isn't a frame
pub record IsDeaf (input : Input) : Type 0 where
  pub deaf : (p : ℕ) (octets : List ℕ) → input ≢ FrameHeard p octets
  pub fits : InputFits input

module _ (g : Snapshot) (well : IsWellFormed g) (place : ℕ) (input : Input) (w : WorldState) (draws : List Draw)
    (answer : Answer) (w' : WorldState) (k : Calls place input w draws answer w') (is : IsAnswering w)
    (apart : AreApart w) (timely : IsTimely k.station.system w.time input) (deaf : IsDeaf input) where
  pub call_sound : In (standing_system (in_state k.after k.station)) g.systems
      → IsSoundEverywhere says_announce g (view w)
      → IsSoundEverywhere says_announce g (view w')
  call_sound known all =
      let old = is.stations place k.station k.here in
      let c = calls_seen place input w draws answer w' k old.steady old.its timely
      (is.encodable.stations place k.station k.here).system deaf.fits
      (lanes_apart w apart (λ link channel here. (is.encodable.links link channel here).ends)) in
      let after = steps_steady input w.time k.station.system k.after k.sends answer old.steady k.steps in
      calls_sound says_announce g (touch_view c.touch) (view w) (view w') c.call well
      (subst (MaySay g) (sym c.after_is) (may_say g (in_state k.after k.station) after known))
      (λ n a touched.
      let (b, heard, same) = hear_back c.touch n a touched in
      let (octets, it, reads) = heard_in k.station.system input c.touch c.seen n b heard in
      deaf.deaf n octets it)
      all

-- ---- calls one after another

-- what goes through the calls of a change
pub record Goes (g : Snapshot) (w : WorldState) : Type 0 where
  pub answering : IsAnswering w
  pub apart : AreApart w
  pub same : snapshot_of w ≡ g
  pub sound : IsSoundEverywhere says_announce g (view w)

pub setups_of : (w : WorldState) → IsAnswering w → HaveTheirSetups w
setups_of w is place station here = (is.stations place station here).its

up_deaf : (p : ℕ) → IsDeaf (PortUp p)
up_deaf p = record { deaf = λ n octets same. absurd cc; fits = tt }

pub up_goes : (g : Snapshot) → IsWellFormed g → PortCallsKeep ⊤ PortUp (Goes g)
up_goes g well place p w draws answer w' k of goes =
    let keeps = calls_keep place (PortUp p) w draws answer w' (λ value same. absurd cc) k in
    let same' : snapshot_of w' ≡ g = same_snapshot w w' keeps ∙ goes.same in
    let called = in_state k.after k.station in
    let there : slice_get w'.stations place ≡ Some called =
    ap (λ (v : WorldState). slice_get v.stations place) k.is ∙ get-set_same w.stations place k.station called k.here in
    let known : In (standing_system called) g.systems =
    subst (λ (h : Snapshot). In (standing_system called) h.systems) same'
    (live_there w'.stations place called there k.live) in
    record {
      answering = calls_answering place (PortUp p) w draws answer w' goes.answering k (of tt) tt;
      apart = stays_apart w w' (calls_stay place (PortUp p) w draws answer w' (setups_of w goes.answering) k)
          goes.apart;
      same = same';
      sound = call_sound g well place (PortUp p) w draws answer w' k goes.answering goes.apart (of tt) (up_deaf p) known
          goes.sound;
    }

-- ---- what stands of the one is there in the other

-- each live system is one of the others, by its clock
abbrev pub HasClocks : List System → List System → Type 0
HasClocks systems others = (s : System) → In s systems → (t : System) × In t others × (t.clock ≡ s.clock)

clock_more : (systems others : List System) (number : ℕ) → HasClocks systems others
    → stations_have_clock systems number ≡ true
    → stations_have_clock others number ≡ true
clock_more systems others number more has =
    let (s, among, named) = from_map (λ (x : System). x.clock) number systems (clock_from systems number has) in
    let (t, there, same) = more s among in
    clock_there others number
    (subst (λ c. In c (map (λ (x : System). x.clock) others)) (same ∙ named)
    (In-map (λ (x : System). x.clock) t others there))

used_more : (systems others : List System) (channel new : Channel) → HasClocks systems others
    → new.a ≡ channel.a → new.b ≡ channel.b → (channel.up ≡ true → new.up ≡ true)
    → channel_is_used systems channel ≡ true → channel_is_used others new ≡ true
used_more systems others channel new more a b up used =
    let (on, ends) = and_parts channel.up _ used in
    let (here, there) = and_parts (stations_have_clock systems channel.a.clock)
    (stations_have_clock systems channel.b.clock) ends in
    and_from new.up _ (up on)
    (and_from _ _
    (subst (λ (p : PortId). stations_have_clock others p.clock ≡ true) (sym a)
    (clock_more systems others channel.a.clock more here))
    (subst (λ (p : PortId). stations_have_clock others p.clock ≡ true) (sym b)
    (clock_more systems others channel.b.clock more there)))

-- each link is there, and up where it was
pub record IsThereToo (channels : List Channel) (link : ℕ) (old : Channel) : Type 0 where
  pub new : Channel
  pub here : slice_get channels link ≡ Some new
  pub a : new.a ≡ old.a
  pub b : new.b ≡ old.b
  pub up : old.up ≡ true → new.up ≡ true

pub links_more : (w w' : WorldState) → HasClocks (live_stations w.stations) (live_stations w'.stations)
    → ((link : ℕ) (channel : Channel) → slice_get w.net.channels link ≡ Some channel
    → IsThereToo w'.net.channels link channel)
    → (p q : PortIdentity) → Joins (snapshot_of w) p q → Joins (snapshot_of w') p q
links_more w w' systems links p q joins =
    let way = way_of w p q joins in
    let too = links way.link way.channel way.here in
    let used = used_more (live_stations w.stations) (live_stations w'.stations) way.channel too.new systems too.a too.b
    too.up way.used in
    let joined' = used_joins w' way.link way.direction too.new too.here used in
    subst (λ x. Joins (snapshot_of w') x q)
    (ap port_identity_number (sender_same way.direction way.channel too.new too.a too.b) ∙ way.from)
    (subst (λ x. Joins (snapshot_of w') (port_identity_number (sender way.direction too.new)) x)
    (ap port_identity_number (receiver_same way.direction way.channel too.new too.a too.b) ∙ way.to) joined')

-- ---- direct edits

-- a link with the same in flight
pub record IsSameFlight (channels : List Channel) (link : ℕ) (new : Channel) : Type 0 where
  pub old : Channel
  here : slice_get channels link ≡ Some old
  a : new.a ≡ old.a
  b : new.b ≡ old.b
  from_a : new.from_a ≡ old.from_a
  from_b : new.from_b ≡ old.from_b

queue_like : (direction : Direction) (old new : Channel) → new.from_a ≡ old.from_a → new.from_b ≡ old.from_b
    → world_queue direction new ≡ world_queue direction old
queue_like FromA old new a b = a
queue_like FromB old new a b = b

pub lanes_like : (g : Snapshot) (w w' : WorldState)
    → ((link : ℕ) (new : Channel) → slice_get w'.net.channels link ≡ Some new
    → IsSameFlight w.net.channels link new)
    → IsSoundEverywhere says_announce g (view w)
    → (j : ℕ) (l : Lane) → slice_get (lanes_view w'.net.channels) j ≡ Some l → LaneIsSound says_announce g l
lanes_like g w w' like all j l there f a member said =
    let at = lane_from w'.net.channels j l there in
    let was = like at.link at.channel at.here in
    let frames : (lane_view at.direction at.channel).frames ≡ (lane_view at.direction was.old).frames =
    ap (map frame_view) (queue_like at.direction was.old at.channel was.from_a was.from_b) in
    let from : (lane_view at.direction was.old).from ≡ l.from =
    ap port_identity_number (sym (sender_same at.direction was.old at.channel was.a was.b))
    ∙ ap (λ (x : Lane). x.from) (sym at.is) in
    subst (λ p. IsSoundSent g p a) from
    (all.lanes (lane_place at.link at.direction) (lane_view at.direction was.old)
    (lane_there w.net.channels at.link at.direction was.old was.here) f a
    (subst (In f) (ap (λ (x : Lane). x.frames) at.is ∙ frames) member) said)

pub same_flight : (channels : List Channel) (link : ℕ) (new : Channel) → slice_get channels link ≡ Some new
    → IsSameFlight channels link new
same_flight channels link new here =
    record { old = new; here = here; a = refl; b = refl; from_a = refl; from_b = refl }

pub set_flight : (channels : List Channel) (place : ℕ) (old new : Channel) → slice_get channels place ≡ Some old
    → new.a ≡ old.a → new.b ≡ old.b → new.from_a ≡ old.from_a → new.from_b ≡ old.from_b
    → (link : ℕ) (x : Channel) → slice_get (slice_set channels place new) link ≡ Some x
    → IsSameFlight channels link x
set_flight channels place old new here a b from_a from_b =
    set_each (IsSameFlight channels) channels place old new here
    (record { old = old; here = here; a = a; b = b; from_a = from_a; from_b = from_b })
    (λ other x apart there. same_flight channels other x there)

pub set_there : (channels : List Channel) (place : ℕ) (old new : Channel) → slice_get channels place ≡ Some old
    → new.a ≡ old.a → new.b ≡ old.b → (old.up ≡ true → new.up ≡ true)
    → (link : ℕ) (x : Channel) → slice_get channels link ≡ Some x → IsThereToo (slice_set channels place new) link x
set_there channels place old new here a b up link x there = elim (same_place link place) [
  | inl same ↦ (let one : x ≡ old = same_there channels place x old
      (ap (slice_get channels) (sym same) ∙ there) here in
      record {
        new = new;
        here = ap (slice_get (slice_set channels place new)) same ∙ get-set_same channels place old new here;
        a = a ∙ ap (λ (c : Channel). c.a) (sym one);
        b = b ∙ ap (λ (c : Channel). c.b) (sym one);
        up = λ on. up (ap (λ (c : Channel). c.up) (sym one) ∙ on);
      })
  | inr apart ↦ record {
    new = x;
    here = get-set_other channels place link new apart ∙ there;
    a = refl;
    b = refl;
    up = λ on. on;
  }
]

-- the net alone is another
pub net_sound : (g : Snapshot) (w : WorldState) (net : Net)
    → ((link : ℕ) (new : Channel) → slice_get net.channels link ≡ Some new → IsSameFlight w.net.channels link new)
    → IsSoundEverywhere says_announce g (view w) → IsSoundEverywhere says_announce g (view (record w { net = net }))
net_sound g w net like all = record {
  lanes = lanes_like g w (record w { net = net }) like all;
  stations = all.stations;
}

pub same_systems : (systems : List System) → HasClocks systems systems
same_systems systems s member = (s, member, refl)

-- a call that sets no priority1 keeps the network
pub up_keeps : (first : WorldState) → PortCallsKeep ⊥ PortUp (KeepsNetwork first)
up_keeps first place port w draws answer w' k of keeps =
    keeps_on first w w' keeps (calls_keep place (PortUp port) w draws answer w' (λ value same. absurd cc) k)

pub tells_keep : (channel : Channel) (w : WorldState) (draws : List Draw) (w' : WorldState)
    → TellsEnds PortUp channel w draws w' → KeepsNetwork w w'
tells_keep channel w draws w' k =
    ends_told ⊥ (KeepsNetwork w) PortUp (up_keeps w) channel w draws w' (λ none. absurd none) k
    (net_keeps w w.net refl)
