-- What stands after events is of the network: each system, and each link with its delays, which are within the limits.
use Rattle.std.proofs.Common.{◌≡◌, ℕ, ◌≤◌, ℤ, List, map, inl, inr, sym, ap, subst, ◌∙◌, arith}
use Rattle.std.specs.List.{filter_map}
use Rattle.std.proofs.lemmas.List.Sorted.{IsPermutation-sym}
use Rattle.std.proofs.lemmas.Option.{cond_some}
use Rattle.gptp_lists.specs.Members.{In}
use Rattle.gptp_lists.proofs.SystemSpecLemmas.{from_map, slice_get-In}
use Rattle.gptp_graph.specs.Snapshot.{System, PortIdentity, Link, Snapshot, Joins, clocks}
use Rattle.gptp_roles.specs.Selection.{clock_of}
use Rattle.gptp_pdelay.specs.Clock.{IsDrift}
use Rattle.gptp_scenario.specs.Allowed.{AreAllowed}
use Rattle.gptp_scenario.specs.Change.{joined_after, link_after, live_after, system_after}
use Rattle.gptp_scenario.specs.Network.{NetworkState, IsEnd, IsNetwork}
use Rattle.gptp_scenario.specs.declared.change.Timed.{Timed}
use Rattle.gptp_scenario.specs.declared.network.SystemSpec.{SystemSpec}
use Rattle.gptp_scenario.specs.declared.network.LinkSpec.{LinkSpec}
use Rattle.gptp_scenario.proofs.AfterLemmas.{after_fits}
use Rattle.gptp_network.specs.Snapshot.{StandsAfter, joins_two, link_of, live_systems, system_of}
use Rattle.gptp_network.proofs.SnapshotLemmas.{In-permutation, clock_after, from_filter, from_filter_map, port_id_of}
use Rattle.gptp_accuracy.specs.Ways.{HasDelays, HasDrift}

module _ (n : NetworkState) (events : List Timed) (g : Snapshot) (stands : StandsAfter n events g) where
  -- the system with a clock that stands is one of the network
  pub member_stands : (v : ℕ) → In v (clocks g) → (m : SystemSpec) × In m n.systems × (clock_of m.identity ≡ v)
  member_stands v member =
      let (s, live, same) = from_map (λ (s : System). s.clock) v g.systems member in
      let moved = IsPermutation-sym (live_systems n.systems events) g.systems stands.systems in
      let kept = In-permutation s g.systems (live_systems n.systems events) moved live in
      let (pair, given, seen) = from_map system_of s (filter_map (live_after events) n.systems) kept in
      let (m, at, lives) = from_filter_map (live_after events) pair n.systems given in
      let is = (cond_some (system_after events m).live ((system_after events m).identity, m.ports) pair lives).1 in (
        m,
        at,
        sym (clock_after events m) ∙ ap (λ (p : ℕ × ℕ). clock_of p.0) is ∙ ap (λ (t : System). t.clock) seen
            ∙ same,
      )

  wire_of : (l : Link) → In l g.links → (w : LinkSpec) × In w n.links × (link_of (w.a, w.b) ≡ l)
  wire_of l member =
      let (kept, both) =
      from_filter (joins_two g.systems) l (map link_of (filter_map (joined_after events) n.links))
      (subst (In l) stands.links member) in
      let (pair, given, seen) = from_map link_of l (filter_map (joined_after events) n.links) kept in
      let (w, at, up) = from_filter_map (joined_after events) pair n.links given in
      (w, at, ap link_of (cond_some (link_after events w).up (w.a, w.b) pair up).1 ∙ seen)

  -- and so is the link at a port that is joined to another
  pub wire_stands : (p q : PortIdentity) → Joins g p q → (w : LinkSpec) × In w n.links × IsEnd (port_id_of p) w
  wire_stands p q (inl member) =
      let (w, at, is) = wire_of (record { a = p; b = q }) member in
      (w, at, inl (ap (λ (k : Link). port_id_of k.a) is))
  wire_stands p q (inr member) =
      let (w, at, is) = wire_of (record { a = q; b = p }) member in
      (w, at, inr (ap (λ (k : Link). port_id_of k.b) is))

-- ---- the limits

module _ (n : NetworkState) (network : IsNetwork n) where
  -- a link has no more than sixteen seconds
  pub delays_within : (events : List Timed) (clock port least most : ℕ) → AreAllowed events
      → HasDelays n events clock port least most → (least ≤ most) × (most ≤ 16000000000)
  delays_within events clock port least most allowed d =
      let (place, there) = slice_get-In d.wire n.links d.there in
      let fit = after_fits events d.wire allowed (network.links place d.wire there).fit in
      (omega (arith, d.least_is, d.most_is, fit.ordered), omega (arith, d.most_is, fit.short))

  -- a clock keeps within 100 parts in a million
  pub drift_within : (clock : ℕ) (drift : ℤ) → HasDrift n clock drift → IsDrift drift
  drift_within clock drift d =
      let (place, there) = slice_get-In d.system n.systems d.there in
      subst IsDrift (sym d.drift_is) (network.systems place d.system there).drift
