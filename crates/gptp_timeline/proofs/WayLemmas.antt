-- The way that a system has by a document is the one that it has in each world that the document leads to.
use Rattle.std.proofs.Common.{◌≡◌, ℕ, zero, suc, ℤ, pos, List, Some, slice_get, inl, inr, refl, sym, ap, ap₂, subst, ◌∙◌}
use Rattle.std.proofs.lemmas.Option.{same_Some}
use Rattle.gptp_error_laws.specs.TimeError.{WayLink, Way}
use Rattle.gptp_error_laws.specs.WayLaws.{longer}
use Rattle.gptp_model.specs.Sound.{IsSound}
use Rattle.gptp_model.specs.World.{Channel, WorldState, receiver}
use Rattle.gptp_graph.specs.Distance.{IsDistance}
use Rattle.gptp_graph.specs.Parent.{IsParent, ParentLink}
use Rattle.gptp_graph.specs.Snapshot.{IsWellFormed, Joins, PortIdentity, port_of, Snapshot}
use Rattle.gptp_graph.proofs.LinkLemmas.{Joins-sym}
use Rattle.gptp_graph.proofs.ParentLemmas.{IsParent-unique}
use Rattle.gptp_invariants.specs.SyncFollowers.{bound_at, follower_parts}
use Rattle.gptp_invariants.specs.WorldEncodable.{IsEncodable}
use Rattle.gptp_invariants.specs.WorldStanding.{live_stations, snapshot_of}
use Rattle.gptp_invariants.proofs.SyncFollowPartLemmas.{bound_is, set_up_is}
use Rattle.gptp_invariants.proofs.WorldWayLemmas.{way_of}
use Rattle.gptp_links.specs.declared.bounds.Bounds.{Bounds}
use Rattle.gptp_links.specs.declared.link.Direction.{Direction}
use Rattle.gptp_links.specs.declared.link.Direction.TheVariants.{FromA, FromB}
use Rattle.gptp_lists.proofs.MappedLemmas.{alike}
use Rattle.gptp_lists.proofs.SystemSpecLemmas.{slice_get-In}
use Rattle.gptp_network.proofs.SnapshotLemmas.{clock_after}
use Rattle.gptp_scenario.specs.Change.{link_after}
use Rattle.gptp_scenario.specs.Network.{IsEnd, IsNetwork, NetworkState}
use Rattle.gptp_scenario.specs.declared.change.Timed.{Timed}
use Rattle.gptp_scenario.specs.declared.network.LinkSpec.{LinkSpec}
use Rattle.gptp_scenario.proofs.AfterLemmas.{after_keeps}
use Rattle.gptp_theorem.specs.AlikeLaws.{AreAlike}
use Rattle.gptp_theorem.specs.Reached.{Shape, shape, shape_after, StandsAsPlanned, channel_wire}
use Rattle.gptp_theorem.proofs.AlikeLemmas.{distance, parent, turned}
use Rattle.gptp_roles.specs.Selection.{clock_of}
use Rattle.gptp_accuracy.specs.Ways.{HasDrift, IsLinkTo, IsWay, root_way}
use Rattle.gptp_sync_machine.specs.Tree.{IsWayTo, last_link, Parts, tree_root_way}
use Rattle.gptp_sync_machine.proofs.TreeLemmas.{way_exists}
use Rattle.gptp_vector.specs.declared.port.PortId.{PortId}

module _ (n : NetworkState) (network : IsNetwork n) (events : List Timed) (w : WorldState)
    (so : StandsAsPlanned n events w)
    (sound : IsSound w) (encodable : IsEncodable w) where
  abbrev x : Parts
  x = follower_parts n.params w

  -- ---- the numbers of a way

  -- the drift of a system
  drift_there : (clock : ℕ) (drift : ℤ) → HasDrift n clock drift → x.drift clock ≡ drift
  drift_there clock drift has =
      let m = has.system in
      let (place, at) = slice_get-In m n.systems has.there in
      let (station, here, same) = alike shape (shape_after n events) w.stations n.systems so.systems place m
      at in
      let named : clock_of station.setup.identity ≡ clock =
      ap (λ (s : Shape). clock_of s.setup.identity) same ∙ clock_after events m ∙ has.is in
      let own = (sound.wired.setups place station here).named in
      ap x.drift (sym named ∙ own)
      ∙ set_up_is (λ setup. setup.drift) (pos 0) w sound.wired.clocks place station here
      ∙ ap (λ (s : Shape). s.setup.drift) same ∙ sym has.drift_is

  -- the end of a link that receives
  is_end : (direction : Direction) (channel : Channel) (v : LinkSpec) (p : PortId)
      → link_after events v ≡ channel_wire channel
      → receiver direction channel ≡ p → IsEnd p v
  is_end FromA channel v p same to =
      inr (sym (after_keeps events v).b ∙ ap (λ (u : LinkSpec). u.b) same ∙ to)
  is_end FromB channel v p same to =
      inl (sym (after_keeps events v).a ∙ ap (λ (u : LinkSpec). u.a) same ∙ to)

  -- a bound of the link at a port that is in use
  bound_there : (f : Bounds → ℕ) (clock port : ℕ) (other : PortIdentity) (v : LinkSpec) (place : ℕ)
      → slice_get n.links place ≡ Some v → IsEnd (record { clock = clock; port = port }) v
      → Joins (snapshot_of w) (port_of clock port) other
      → bound_at f (live_stations w.stations) w.net.channels (port_of clock port) ≡ f (link_after events v).bounds
  bound_there f clock port other v place at end joins =
      let p : PortId = record { clock = clock; port = port } in
      let way = way_of w other (port_of clock port) (Joins-sym (snapshot_of w) (port_of clock port) other joins) in
      let (u, there, same) = alike (link_after events) channel_wire n.links w.net.channels (sym so.links) way.link
      way.channel way.here in
      let to = way.to in
      let ends : receiver way.direction way.channel ≡ p =
      λ i. record { clock = (to i).clock; port = (to i).port } in
      let one : way.link ≡ place =
      network.one_link way.link place u v p there at (is_end way.direction way.channel u p same ends) end in
      let link : u ≡ v = same_Some u v (sym there ∙ ap (slice_get n.links) one ∙ at) in
      ap (bound_at f (live_stations w.stations) w.net.channels) (sym to)
      ∙ bound_is f w sound encodable way.link way.direction way.channel way.here way.used
      ∙ ap (λ (l : LinkSpec). f l.bounds) (sym same) ∙ ap (λ l. f (link_after events l).bounds) link

  link_there : (clock : ℕ) (follows : ParentLink) (l : WayLink) → IsLinkTo n events clock follows l
      → IsParent (snapshot_of w) clock follows → last_link x clock follows ≡ l
  link_there clock follows l to is =
      let delays = to.delays in
      let (place, at) = slice_get-In delays.wire n.links delays.there in
      let other = port_of follows.clock follows.port in
      let least = bound_there (λ b. b.min) clock follows.own_port other delays.wire place at delays.end is.nearer.joins
      ∙ sym delays.least_is in
      let most = bound_there (λ b. b.max) clock follows.own_port other delays.wire place at delays.end is.nearer.joins
      ∙ sym delays.most_is in
      let drift = drift_there clock l.drift to.drift in
      λ i. record { least = least i; most = most i; drift = drift i }

  -- ---- ways

  exact_way : (clock : ℕ) → tree_root_way x clock ≡ root_way n.params (x.drift clock)
  exact_way clock = refl

  module _ (g : Snapshot) (same : AreAlike (snapshot_of w) g) where
    one_way : (steps clock : ℕ) (way v : Way) (phase : ℕ → ℕ) → IsWay n events g steps clock way
        → IsWayTo x (snapshot_of w) steps clock v phase → v ≡ way
    one_way zero clock way v phase (far, (drift, has, is)) (here, also, first) =
        also ∙ exact_way clock ∙ ap (root_way n.params) (drift_there clock drift has) ∙ sym is
    one_way (suc steps) clock way v phase (follows, above, l, parents, up, to, is)
        (other, before, parents', up', also, last) =
        let parents_there = parent g (snapshot_of w) (turned (snapshot_of w) g same) clock follows parents in
        let one : other ≡ follows = IsParent-unique (snapshot_of w) clock other follows parents' parents_there in
        let ways = one_way steps follows.clock above before phase up
        (subst (λ (p : ParentLink). IsWayTo x (snapshot_of w) steps p.clock before phase) one up') in
        let links = ap (last_link x clock) one ∙ link_there clock follows l to parents_there in
        also ∙ ap₂ longer ways links ∙ sym is

    -- a system that has a way has it in the world
    pub way_there : (steps clock : ℕ) (way : Way) → IsWellFormed (snapshot_of w) → IsDistance g clock steps
        → IsWay n events g steps clock way
        → (phase : ℕ → ℕ) × IsWayTo (follower_parts n.params w) (snapshot_of w) steps clock way phase
    way_there steps clock way well far is =
        let (v, phase, leads) = way_exists x (snapshot_of w) steps clock well
        (distance g (snapshot_of w) (turned (snapshot_of w) g same) clock steps far) in
        let one = one_way steps clock way v phase is leads in
        (phase, subst (λ u. IsWayTo x (snapshot_of w) steps clock u phase) one leads)
