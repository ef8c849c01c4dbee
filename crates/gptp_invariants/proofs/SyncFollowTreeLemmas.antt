-- Systems that follow, in a settled world: they take their time over the link to their parent, and go on doing so.
use Rattle.std.proofs.Common.{◌≡◌, ◌≢◌, ◌⊎◌, ◌≤◌, ℕ, zero, suc, List, Option, Some, None, slice_get, slice_set, refl, sym, ap, subst, ◌∙◌, inl, inr, arith}
use Rattle.std.specs.Option.{option_and_then, option_map}
use Rattle.std.proofs.lemmas.Option.{same_Some}
use Rattle.gptp_graph.specs.Distance.{IsNear}
use Rattle.gptp_graph.specs.Parent.{IsParent, ParentLink}
use Rattle.gptp_graph.specs.SettledChoice.{IsBestIdentity, IsParentIfAny}
use Rattle.gptp_graph.specs.Snapshot.{IsWellFormed, Snapshot, System, port_of}
use Rattle.gptp_graph.proofs.BestLemmas.{IsBest-unique}
use Rattle.gptp_graph.proofs.ParentLemmas.{IsParent-unique}
use Rattle.gptp_vector.specs.declared.port.PortId.{PortId}
use Rattle.gptp_links.specs.declared.bounds.Bounds.{Bounds}
use Rattle.gptp_links.specs.Fate.{Draw}
use Rattle.gptp_receipt.specs.declared.held.Reception.{Reception}
use Rattle.gptp_receipt.specs.Held.{received}
use Rattle.gptp_lists.proofs.MappedLemmas.{alike}
use Rattle.gptp_lists.proofs.PlaceLemmas.{get-set_other, get-set_same, same_place}
use Rattle.gptp_setup.specs.SettlingParams.{SettlingParams}
use Rattle.gptp_system.specs.declared.answer.Answer.{Answer}
use Rattle.gptp_system.specs.Input.{Input}
use Rattle.gptp_system.specs.State.{SystemState, clock, held_at, parent, held_source}
use Rattle.gptp_system.specs.Steps.{HasPortNumber}
use Rattle.gptp_model.proofs.BareLemmas.{bare}
use Rattle.gptp_model.proofs.StayLemmas.{sender_same}
use Rattle.gptp_model.proofs.SteadyLemmas.{same_clock}
use Rattle.gptp_model.specs.Act.{Calls, in_state}
use Rattle.gptp_model.specs.Ahead.{IsSteady}
use Rattle.gptp_model.specs.declared.station.Station.{Station}
use Rattle.gptp_model.specs.World.{Channel, WorldState, receiver, sender}
use Rattle.gptp_bmca_machine.specs.Settled.{IsSlaveOf}
use Rattle.gptp_invariants.specs.SyncFollowers.{IsFollower, parent_link, follower_state}
use Rattle.gptp_invariants.specs.DelayLinkView.{LinkPlace, other_direction}
use Rattle.gptp_invariants.specs.DelayMeasured.{StationIsLiveAt}
use Rattle.gptp_invariants.specs.ChoiceSettled.{HasSettledChoice, followed_link}
use Rattle.gptp_invariants.specs.WorldStanding.{channel_is_used, live_stations, snapshot_of}
use Rattle.gptp_invariants.specs.SyncView.{TakesTime}
use Rattle.gptp_invariants.specs.SyncTimed.{IsSettledFrom}
use Rattle.gptp_invariants.specs.ChoiceView.{port_identity_number}
use Rattle.gptp_invariants.proofs.ChoiceCalmKeptLemmas.{KeepsNetwork, same_snapshot}
use Rattle.gptp_invariants.proofs.DelayLinkLemmas.{receiver_same, sender_opposite}
use Rattle.gptp_invariants.proofs.WorldStandsLemmas.{stands_well}
use Rattle.gptp_invariants.proofs.SyncCallLemmas.{slave_takes}

-- ---- one settled world

pub well_formed : (p : SettlingParams) (settled longest : ℕ) (w : WorldState) → IsSettledFrom p settled longest w
    → IsWellFormed (snapshot_of w)
well_formed p settled longest w is = stands_well w is.world.sound is.world.between is.world.encodable

-- the parent is where what the Slave port holds came from
parent_from : (x : SystemState) (n : ℕ) (r : Reception) → x.slave ≡ Some n → received (held_at x n) ≡ Some r
    → parent x ≡ Some (n, r.vector.source)
parent_from x n r slave holds =
    ap (option_and_then (λ q. option_map (λ source. (q, source)) (held_source (held_at x q)))) slave
    ∙ ap (λ o. option_map (λ source. (n, source)) (option_map (λ (y : Reception). y.vector.source) o)) holds

module _ (p : SettlingParams) (settled longest : ℕ) (w : WorldState) (is : IsSettledFrom p settled longest w)
    (at : LinkPlace)
    (f : IsFollower at w) where
  abbrev s : SystemState
  s = follower_state at w f

  abbrev g : Snapshot
  g = snapshot_of w

  abbrev from : PortId
  from = sender at.direction f.channel

  abbrev to : PortId
  to = receiver at.direction f.channel

  wf : IsWellFormed g
  wf = well_formed p settled longest w is

  pub steady : IsSteady s
  steady = (is.world.sound.on_time.stations at.answering f.own.station f.own.here).steady

  pub own_choice : HasSettledChoice g s
  own_choice =
      is.choice at.answering f.own.station f.own.here f.own.live (subst (IsNear g) (sym f.own.named) f.near)

  own_parent : IsParent g (clock s) (parent_link at.direction f.channel)
  own_parent = subst (λ v. IsParent g v (parent_link at.direction f.channel)) (sym f.own.named) f.parent

  -- its Slave port is that of the link
  pub slave_is : s.slave ≡ Some to.port
  slave_is = by s.slave refl own_choice.slave
    where
      by : (slave : Option ℕ) → s.slave ≡ slave → IsSlaveOf g (clock s) slave → s.slave ≡ Some to.port
      by None same none = absurd (none (parent_link at.direction f.channel) own_parent)
      by (Some n) same (l, follows, own) =
          let one = IsParent-unique g (clock s) l (parent_link at.direction f.channel) follows own_parent in
          same ∙ ap Some (sym own ∙ ap (λ (x : ParentLink). x.own_port) one)

  pub own_port : HasPortNumber s to.port
  own_port =
      let back = sender_opposite at.direction f.channel in
      subst (λ (q : PortId). HasPortNumber s q.port) back
      (is.world.sound.wired.ports at.link at.answering
      (other_direction at.direction) f.channel f.own.station f.here f.own.here
      (f.own.named ∙ ap (λ (q : PortId). q.clock) (sym back)))

  -- there it takes its time from the parent
  pub takes_time : TakesTime s to.port (port_identity_number from)
  takes_time = by to.port slave_is own_port.least
    where
      by : (n : ℕ) → s.slave ≡ Some n → 1 ≤ n → TakesTime s n (port_identity_number from)
      by zero slave first = absurd (omega arith)
      by (suc i) slave first =
          let t = (slave_takes s steady i slave).takes in
          let holds = t.holds in
          let follows : parent s ≡ Some (suc i, t.reception.vector.source) =
          parent_from s (suc i) t.reception slave holds in
          let is_parent : IsParent g (clock s) (followed_link (suc i, t.reception.vector.source)) =
          subst (λ o. IsParentIfAny g (clock s) (option_map followed_link o)) follows own_choice.parent in
          let one = IsParent-unique g (clock s) (followed_link (suc i, t.reception.vector.source))
          (parent_link at.direction f.channel) is_parent own_parent in
          record {
            capable = t.capable;
            slave = slave;
            reception = t.reception;
            holds = t.holds;
            came = λ j. port_of (one j).clock (one j).port;
          }

-- ---- two settled worlds of one network

-- the root is the same in both
pub same_root : (g : Snapshot) (v a b : ℕ) → IsWellFormed g → IsBestIdentity g v a → IsBestIdentity g v b → a ≡ b
same_root g v a b wf (x, is_x, a_is) (y, is_y, b_is) =
    a_is ∙ ap (λ (s : System). s.identity) (IsBest-unique g v x y wf is_x is_y) ∙ sym b_is

-- what has a live station of a clock had it before, by a call: it is the one that was called, or unchanged
pub record WasBefore (place : ℕ) (input : Input) (w : WorldState) (draws : List Draw) (answer : Answer)
    (w' : WorldState) (k : Calls place input w draws answer w') (other number : ℕ)
    (new : StationIsLiveAt other number w')
    : Type 0 where
  pub before : StationIsLiveAt other number w
  pub which : ((other ≡ place) × (before.station ≡ k.station) × (new.station ≡ in_state k.after k.station))
      ⊎ ((other ≢ place) × (new.station ≡ before.station))

pub was_before : (place : ℕ) (input : Input) (w : WorldState) (draws : List Draw) (answer : Answer) (w' : WorldState)
    (k : Calls place input w draws answer w') (other number : ℕ) (new : StationIsLiveAt other number w')
    → WasBefore place input w draws answer w' k other number new
was_before place input w draws answer w' k other number new = by (same_place other place)
  where
    called : Station
    called = in_state k.after k.station

    stations : slice_get (slice_set w.stations place called) other ≡ Some new.station
    stations = ap (λ (v : WorldState). slice_get v.stations other) (sym k.is) ∙ new.here

    by : (other ≡ place) ⊎ (other ≢ place) → WasBefore place input w draws answer w' k other number new
    by (inl same) =
        let one : called ≡ new.station =
        same_Some called new.station
        (sym (get-set_same w.stations place k.station called k.here)
        ∙ ap (slice_get (slice_set w.stations place called)) (sym same) ∙ stations) in
        let named : clock k.after ≡ clock k.station.system =
        same_clock input w.time k.station.system k.after k.sends answer k.steps in
        record {
          before = record {
            station = k.station;
            here = ap (slice_get w.stations) same ∙ k.here;
            live = k.live;
            named = sym named ∙ ap (λ (x : Station). clock x.system) one ∙ new.named;
          };
          which = inl (same, refl, sym one);
        }
    by (inr apart) = record {
      before = record {
        station = new.station;
        here = sym (get-set_other w.stations place other called apart) ∙ stations;
        live = new.live;
        named = new.named;
      };
      which = inr (apart, refl);
    }

-- What follows in the later world followed in the one before, over the same link, where the network stayed.
pub record FollowedBefore (at : LinkPlace) (w w' : WorldState) (f' : IsFollower at w')
    (above : StationIsLiveAt at.asking
    (sender at.direction f'.channel).clock w)
    (own : StationIsLiveAt at.answering (receiver at.direction f'.channel).clock w)
    : Type 0 where
  pub before : IsFollower at w
  pub a : f'.channel.a ≡ before.channel.a
  pub b : f'.channel.b ≡ before.channel.b
  pub bounds : f'.channel.bounds ≡ before.channel.bounds
  pub above_is : before.above.station ≡ above.station
  pub own_is : before.own.station ≡ own.station

abbrev renamed : (w : WorldState) (place a b : ℕ) → a ≡ b → (e : StationIsLiveAt place a w) → StationIsLiveAt place b w
renamed w place a b same e =
    record { station = e.station; here = e.here; live = e.live; named = e.named ∙ same }

pub followed_before : (at : LinkPlace) (w w' : WorldState) (f' : IsFollower at w') → KeepsNetwork w w'
    → (above : StationIsLiveAt at.asking (sender at.direction f'.channel).clock w)
    → (own : StationIsLiveAt at.answering (receiver at.direction f'.channel).clock w)
    → FollowedBefore at w w' f' above own
followed_before at w w' f' k above own =
    let (old, stands, same) = alike bare bare w.net.channels w'.net.channels (sym k.links) at.link f'.channel f'.here
    in
    let a : f'.channel.a ≡ old.a = ap (λ (c : Channel). c.a) (sym same) in
    let b : f'.channel.b ≡ old.b = ap (λ (c : Channel). c.b) (sym same) in
    let bounds : f'.channel.bounds ≡ old.bounds = ap (λ (c : Channel). c.bounds) (sym same) in
    let from : sender at.direction f'.channel ≡ sender at.direction old = sender_same at.direction old f'.channel a b
    in
    let to : receiver at.direction f'.channel ≡ receiver at.direction old =
    receiver_same at.direction old f'.channel a b in
    let graph = same_snapshot w w' k in
    let links : parent_link at.direction f'.channel ≡ parent_link at.direction old = λ i. record {
      own_port = (to i).port;
      clock = (from i).clock;
      port = (from i).port;
    } in
    record {
      before = record {
        channel = old;
        here = stands;
        used = ap (channel_is_used (live_stations w.stations)) same
            ∙ ap (λ s. channel_is_used s f'.channel) (sym k.systems) ∙ f'.used;
        lossless = ap (λ (x : Bounds). x.loss) (sym bounds) ∙ f'.lossless;
        above = renamed w at.asking _ _ (ap (λ (q : PortId). q.clock) from) above;
        own = renamed w at.answering _ _ (ap (λ (q : PortId). q.clock) to) own;
        near = subst (λ x. IsNear x (receiver at.direction old).clock) graph
            (subst (λ (q : PortId). IsNear (snapshot_of w') q.clock) to f'.near);
        parent = subst (λ x. IsParent x (receiver at.direction old).clock (parent_link at.direction old)) graph
            (subst (IsParent (snapshot_of w') (receiver at.direction old).clock) links
            (subst (λ (q : PortId). IsParent (snapshot_of w') q.clock (parent_link at.direction f'.channel)) to
            f'.parent));
      };
      a = a;
      b = b;
      bounds = bounds;
      above_is = refl;
      own_is = refl;
    }
