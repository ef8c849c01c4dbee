-- A link is taken down, and its ends are told: what stands elsewhere stood before, and ports beside failed systems stay
-- silent.
use Rattle.std.proofs.Common.{Bool, List, Some, ap, false, inl, inr, map, refl, slice_get, slice_set, subst, sym, true, ℕ, ◌∙◌, ◌≡◌, ◌≢◌}
use Rattle.std.proofs.lemmas.Option.{same_Some}
use Rattle.gptp_lists.proofs.MappedLemmas.{alike}
use Rattle.gptp_lists.proofs.PlaceLemmas.{get-set_other, get-set_same, map-set_same}
use Rattle.gptp_vector.specs.declared.port.PortId.{PortId}
use Rattle.gptp_links.specs.declared.link.Direction.{Direction}
use Rattle.gptp_links.specs.declared.link.Direction.TheVariants.{FromA, FromB}
use Rattle.gptp_links.specs.Fate.{Draw}
use Rattle.gptp_setup.specs.SettlingParams.{SettlingParams}
use Rattle.gptp_system.specs.Input.{PortDown}
use Rattle.gptp_model.specs.Act.{in_state}
use Rattle.gptp_model.specs.Changing.{CallsIfLive, TellsEnds, lost, taken_down}
use Rattle.gptp_model.specs.World.{Channel, WorldState, receiver, sender}
use Rattle.gptp_model.proofs.BareLemmas.{bare}
use Rattle.gptp_model.proofs.SteadyLemmas.{same_clock}
use Rattle.gptp_invariants.specs.ChoiceSettlesAsMachine.{IsWorld}
use Rattle.gptp_invariants.specs.DelayLinkView.{LinkPlace}
use Rattle.gptp_invariants.specs.DelayMeasured.{LinkStandsAt, StationIsLiveAt}
use Rattle.gptp_invariants.specs.FailedUnanswered.{IsFailedAmong, IsLastAnswered, IsOff, IsUnansweredAt, StandsUnanswered}
use Rattle.gptp_invariants.specs.WorldNews.{AreSilentBy}
use Rattle.gptp_invariants.proofs.ChoiceCalmKeptLemmas.{KeepsNetwork, calls_keep, keeps_on, net_keeps}
use Rattle.gptp_invariants.proofs.PortInputLemmas.{of_down}
use Rattle.gptp_settling_time.proofs.LinkStoodLemmas.{stood_in, stood_untold}
use Rattle.gptp_settling_time.proofs.ReactsLemmas.{lives_as}
use Rattle.gptp_model.specs.Ahead.{IsPortAmong}
use Rattle.gptp_model.proofs.ActsByLemmas.{join_among}
use Rattle.gptp_model.proofs.EndLemmas.{each_end_told}
use Rattle.gptp_model.proofs.StayLemmas.{JoinTheSame, begins_same, join_on, set_join, stays_clocks}
use Rattle.gptp_invariants.proofs.FailedLastAnsweredLemmas.{last_beside}
use Rattle.gptp_invariants.proofs.FailedOffLemmas.{off_called}
use Rattle.gptp_settling_time.proofs.StaySilentLemmas.{AllStaySilent, stay_silent}

-- ---- the network

-- its ends don't depend on what is in flight
sender_bare : (direction : Direction) (a b : Channel) → bare a ≡ bare b → sender direction a ≡ sender direction b
sender_bare FromA a b same = ap (λ (c : Channel). c.a) same
sender_bare FromB a b same = ap (λ (c : Channel). c.b) same

receiver_bare : (direction : Direction) (a b : Channel) → bare a ≡ bare b → receiver direction a ≡ receiver direction b
receiver_bare FromA a b same = ap (λ (c : Channel). c.b) same
receiver_bare FromB a b same = ap (λ (c : Channel). c.a) same

if_live_keeps : (place port : ℕ) (w : WorldState) (draws : List Draw) (w' : WorldState)
    → CallsIfLive place (PortDown port) w draws w' → KeepsNetwork w w'
if_live_keeps place port w draws w' (inl (answer, k)) =
    calls_keep place (PortDown port) w draws answer w' (λ value same. absurd cc) k
if_live_keeps place port w draws w' (inr (failed, none, same)) =
    subst (KeepsNetwork w) (sym same) (net_keeps w w.net refl)

pub told_keeps : (channel : Channel) (w : WorldState) (draws : List Draw) (w' : WorldState)
    → TellsEnds PortDown channel w draws w' → KeepsNetwork w w'
told_keeps channel w draws w' k =
    keeps_on w k.between w' (if_live_keeps k.place_a channel.a.port w k.first k.between k.at_a)
    (if_live_keeps k.place_b channel.b.port k.between k.second w' k.at_b)

-- all systems live and are named as they were
pub if_live_stand : (place port : ℕ) (w : WorldState) (draws : List Draw) (w' : WorldState)
    → CallsIfLive place (PortDown port) w draws w' → map lives_as w'.stations ≡ map lives_as w.stations
if_live_stand place port w draws w' (inl (answer, c)) =
    let named = same_clock (PortDown port) w.time c.station.system c.after c.sends answer c.steps in
    ap (λ (v : WorldState). map lives_as v.stations) c.is
    ∙ map-set_same lives_as w.stations place c.station (in_state c.after c.station) c.here
    (λ i. (c.station.live, named i))
if_live_stand place port w draws w' (inr (failed, none, same)) = ap (λ (v : WorldState). map lives_as v.stations) same

told_stand : (channel : Channel) (w : WorldState) (draws : List Draw) (w' : WorldState)
    → TellsEnds PortDown channel w draws w' → map lives_as w'.stations ≡ map lives_as w.stations
told_stand channel w draws w' k =
    if_live_stand k.place_b channel.b.port k.between k.second w' k.at_b
    ∙ if_live_stand k.place_a channel.a.port w k.first k.between k.at_a

-- ---- the link goes down

module _ (p : SettlingParams) (w : WorldState) (is : IsWorld p w) (place : ℕ) (channel : Channel)
    (here : slice_get w.net.channels place ≡ Some channel) (draws : List Draw) (w' : WorldState) (is' : IsWorld p w')
    (k : TellsEnds PortDown channel (record w { net = taken_down place channel w.net; last_change = w.time }) draws w')
  where
    abbrev taken : WorldState
    taken = record w { net = taken_down place channel w.net; last_change = w.time }

    keeps : KeepsNetwork taken w'
    keeps = told_keeps channel taken draws w' k

    -- the link that is taken is down
    taken_apart : (link : ℕ) (other : Channel) → slice_get taken.net.channels link ≡ Some other → other.up ≡ true
        → link ≢ place
    taken_apart link other there is_up same =
        let one : other ≡ lost channel =
        same_Some other (lost channel)
        (sym there ∙ ap (slice_get (slice_set w.net.channels place (lost channel))) same
        ∙ get-set_same w.net.channels place channel (lost channel) here) in
        let both : true ≡ false = sym is_up ∙ ap (λ (c : Channel). c.up) one in
        cc

    -- what stands is as it was but for what is in flight
    stood_so : (link : ℕ) (other : Channel) → slice_get w'.net.channels link ≡ Some other
        → (old : Channel) × (slice_get taken.net.channels link ≡ Some old) × (bare old ≡ bare other)
    stood_so link other there = alike bare bare taken.net.channels w'.net.channels (sym keeps.links) link other there

    -- what is up is another link
    pub up_apart : (link : ℕ) (other : Channel) → slice_get w'.net.channels link ≡ Some other → other.up ≡ true
        → link ≢ place
    up_apart link other there is_up =
        let (old, old_there, same) = stood_so link other there in
        taken_apart link old old_there (ap (λ (c : Channel). c.up) same ∙ is_up)

    pub stood_down : (at : LinkPlace) → LinkStandsAt at w' → LinkStandsAt at w
    stood_down at s =
        let old = stood_untold p w (taken_down place channel w.net) w' is is' keeps at s in
        let apart = taken_apart at.link old.channel old.here old.up in
        stood_in at taken w old refl (sym (get-set_other w.net.channels place at.link (lost channel) apart) ∙ old.here)

    -- ---- ports beside failed systems

    stand : map lives_as w'.stations ≡ map lives_as w.stations
    stand = told_stand channel taken draws w' k

    lived : (at number : ℕ) → StationIsLiveAt at number w' → StationIsLiveAt at number w
    lived at number x =
        let (old, old_here, same) = alike lives_as lives_as w.stations w'.stations (sym stand) at x.station x.here in
        record {
          station = old;
          here = old_here;
          live = ap (λ (y : Bool × ℕ). y.0) same ∙ x.live;
          named = ap (λ (y : Bool × ℕ). y.1) same ∙ x.named;
        }

    had_failed : (at number : ℕ) → IsFailedAmong at number w'.stations → IsFailedAmong at number w.stations
    had_failed at number x =
        let (old, old_here, same) = alike lives_as lives_as w.stations w'.stations (sym stand) at x.station x.here in
        record {
          station = old;
          here = old_here;
          failed = ap (λ (y : Bool × ℕ). y.0) same ∙ x.failed;
          named = ap (λ (y : Bool × ℕ). y.1) same ∙ x.named;
        }

    module _ (at : LinkPlace) (s : StandsUnanswered at w') where
      pub apart : at.link ≢ place
      apart = up_apart at.link s.channel s.here s.up

      pub before : StandsUnanswered at w
      before =
          let (old, old_there, same) = stood_so at.link s.channel s.here in
          record {
            channel = old;
            here = sym (get-set_other w.net.channels place at.link (lost channel) apart) ∙ old_there;
            up = ap (λ (c : Channel). c.up) same ∙ s.up;
            asking = lived at.asking (sender at.direction old).clock
                (subst (λ (e : PortId). StationIsLiveAt at.asking e.clock w')
                (sym (sender_bare at.direction old s.channel same)) s.asking);
            answering = had_failed at.answering (receiver at.direction old).clock
                (subst (λ (e : PortId). IsFailedAmong at.answering e.clock w'.stations)
                (sym (receiver_bare at.direction old s.channel same)) s.answering);
          }

      pub joins : JoinTheSame w.net.channels taken.net.channels
      joins = set_join w.net.channels place channel (lost channel) here refl refl

      -- its port is none of the link that goes down
      pub no_end : (v : WorldState) → JoinTheSame w.net.channels v.net.channels → (l : IsUnansweredAt at v)
          (way : Direction) → sender at.direction l.channel ≢ sender way channel
      no_end v on l way same =
          let was = on at.link l.channel l.here in
          apart (is.sound.wired.apart at.link place at.direction way was.old channel was.here here
          (sym (begins_same w.net.channels at.link at.direction l.channel was) ∙ same))

      pub ports : (direction : Direction) → IsPortAmong (sender direction channel) taken.stations
      ports = join_among w place channel is.sound.wired.ports here

      abbrev pub link_taken : (l : IsUnansweredAt at w) → IsUnansweredAt at taken
      link_taken l = record {
        channel = l.channel;
        here = get-set_other w.net.channels place at.link (lost channel) apart ∙ l.here;
        up = l.up;
        asking = l.asking;
        answering = l.answering;
      }

      last_at : (sent : ℕ) → IsLastAnswered sent at w → IsLastAnswered sent at w'
      last_at sent one =
          each_end_told PortDown channel taken (IsLastAnswered sent at)
          (λ direction q v ds answer v' c stays named number last.
          last_beside of_down sent at q (sender direction channel) v ds answer v' c named
          (stays_clocks taken v stays is.sound.wired.clocks) last
          (no_end v (join_on w.net.channels taken.net.channels v.net.channels joins stays.links) last.link direction))
          is.sound.wired.setups ports draws w' k
          (record { link = link_taken one.link; replies = one.replies; inv = one.inv })

      off_at : IsOff at w → IsOff at w'
      off_at one =
          each_end_told PortDown channel taken (IsOff at)
          (λ direction q v ds answer v' c stays named number so.
          off_called at q (PortDown (sender direction channel).port) v ds answer v' c
          (stays_clocks taken v stays is.sound.wired.clocks) so (λ same. tt) (λ same. tt)) is.sound.wired.setups ports
          draws w' k
          (record { link = link_taken one.link; mute = one.mute; off = one.off })

    pub stay_down : AllStaySilent p w w'
    stay_down at s = record {
      stood = before at s;
      silent = λ start is. elim is [
        | inl off ↦ inl (off_at at s off)
        | inr (sent, last, soon) ↦ inr (sent, last_at at s sent last, soon)
      ];
    }

    pub silent_down : (start : ℕ) → AreSilentBy p start w → AreSilentBy p start w'
    silent_down start = stay_silent p start w w' stay_down
