-- On a lane from a system that doesn't live no more is in flight after a call of another.
use Rattle.std.proofs.Common.{◌≡◌, ◌≢◌, ℕ, List, [], Some, slice_get, sym, ap, subst, ◌∙◌, inl, inr}
use Rattle.gptp_lists.specs.Members.{In}
use Rattle.gptp_graph.specs.Snapshot.{System, clocks}
use Rattle.gptp_graph.proofs.SystemLemmas.{In-clocks}
use Rattle.gptp_vector.specs.declared.port.PortId.{PortId}
use Rattle.gptp_links.specs.Fate.{Draw}
use Rattle.gptp_links.specs.Queue.{Frame}
use Rattle.gptp_links.specs.declared.link.Direction.{Direction}
use Rattle.gptp_system.specs.Input.{Input, Priority}
use Rattle.gptp_model.specs.Changing.{CallsIfLive, TellsEnds}
use Rattle.gptp_model.specs.World.{Channel, WorldState, sender, world_queue}
use Rattle.gptp_model.proofs.StayLemmas.{sender_same}
use Rattle.gptp_invariants.specs.WorldStanding.{live_stations, snapshot_of, standing_system}
use Rattle.gptp_invariants.proofs.ChoiceCalmKeptLemmas.{calls_keep}
use Rattle.gptp_invariants.proofs.FailedUnansweredLaneLemmas.{calls_shrink}
use Rattle.gptp_invariants.proofs.WorldSystemLemmas.{live_there}

-- the channel at a place has these ends, and no more is in flight on it in this direction
pub record HasLess (link : ℕ) (direction : Direction) (old : Channel) (w : WorldState) : Type 0 where
  pub now : Channel
  pub here : slice_get w.net.channels link ≡ Some now
  pub a : now.a ≡ old.a
  pub b : now.b ≡ old.b
  pub fewer : (f : Frame) → In f (world_queue direction now) → In f (world_queue direction old)

-- who lives in a world where these systems live
abbrev LivesAmong : List System → ℕ → Type 0
LivesAmong systems v = In v (clocks (record { systems = systems; links = [] }))

-- a call of any other kind than one that sets a priority1 leaves who lives
systems_stay : (place : ℕ) (input : Input) (w : WorldState) (draws : List Draw) (w' : WorldState)
    → ((value : ℕ) → input ≢ Priority value) → CallsIfLive place input w draws w'
    → live_stations w'.stations ≡ live_stations w.stations
systems_stay place input w draws w' other (inl (answer, k)) =
    (calls_keep place input w draws answer w' other k).systems
systems_stay place input w draws w' other (inr (failed, none, same)) =
    ap (λ (v : WorldState). live_stations v.stations) same

module _ (link : ℕ) (direction : Direction) (old : Channel) where
  abbrev pub IsDead : WorldState → Type 0
  IsDead w = In (sender direction old).clock (clocks (snapshot_of w)) → ⊥

  pub called_less : (place : ℕ) (input : Input) (w : WorldState) (draws : List Draw) (w' : WorldState) → IsDead w
      → CallsIfLive place input w draws w' → HasLess link direction old w → HasLess link direction old w'
  called_less place input w draws w' dead (inl (answer, k)) less =
      let x = calls_shrink link direction place input w draws answer w' k less.now less.here (λ same.
      dead (subst (λ v. In v (clocks (snapshot_of w)))
      (sym same ∙ ap (λ (q : PortId). q.clock) (sender_same direction old less.now less.a less.b))
      (In-clocks (snapshot_of w) (standing_system k.station)
      (live_there w.stations place k.station k.here k.live)))) in
      record {
        now = x.new;
        here = x.here;
        a = x.shrinks.a ∙ less.a;
        b = x.shrinks.b ∙ less.b;
        fewer = λ f member. less.fewer f (x.shrinks.fewer f member);
      }
  called_less place input w draws w' dead (inr (failed, none, same)) less =
      subst (HasLess link direction old) (sym same) less

  -- both ends of a link are told
  pub told_less : (input : ℕ → Input) → ((port value : ℕ) → input port ≢ Priority value) → (channel : Channel)
      (w : WorldState) (draws : List Draw) (w' : WorldState) → IsDead w → TellsEnds input channel w draws w'
      → HasLess link direction old w → HasLess link direction old w'
  told_less input other channel w draws w' dead k less =
      called_less k.place_b (input channel.b.port) k.between k.second w' (λ lives.
      dead (subst (λ systems. LivesAmong systems (sender direction old).clock)
      (systems_stay k.place_a (input channel.a.port) w k.first k.between (other channel.a.port) k.at_a) lives)) k.at_b
      (called_less k.place_a (input channel.a.port) w k.first k.between dead k.at_a less)
