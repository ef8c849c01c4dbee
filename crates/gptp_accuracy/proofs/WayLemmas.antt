-- A system has one way, whose numbers are those of a document.
use Rattle.std.proofs.Common.{◌≡◌, ℕ, zero, suc, ◌≤◌, ℤ, List, length, Some, slice_get, sym, ap, ap₂, subst, ◌∙◌, arith}
use Rattle.std.proofs.lemmas.Option.{same_Some}
use Rattle.gptp_lists.proofs.SystemSpecLemmas.{slice_get-In}
use Rattle.gptp_graph.specs.Distance.{IsDistance}
use Rattle.gptp_graph.specs.Parent.{ParentLink}
use Rattle.gptp_graph.specs.Snapshot.{IsWellFormed, Snapshot}
use Rattle.gptp_graph.proofs.DistanceLemmas.{IsDistance-unique}
use Rattle.gptp_graph.proofs.ParentLemmas.{IsParent-unique}
use Rattle.gptp_pdelay.specs.Clock.{IsDrift}
use Rattle.gptp_scenario.specs.Change.{link_after}
use Rattle.gptp_scenario.specs.Network.{IsEnd, IsNetwork, NetworkState}
use Rattle.gptp_scenario.specs.declared.change.Timed.{Timed}
use Rattle.gptp_scenario.specs.declared.network.SystemSpec.{SystemSpec}
use Rattle.gptp_scenario.specs.declared.network.LinkSpec.{LinkSpec}
use Rattle.gptp_roles.specs.Selection.{clock_of}
use Rattle.gptp_vector.specs.declared.port.PortId.{PortId}
use Rattle.gptp_error_laws.specs.TimeError.{WayLink, Way, drift_at}
use Rattle.gptp_error_laws.specs.WayLaws.{IsDocumented, longer}
use Rattle.gptp_error_laws.proofs.LongerLemmas.{documented_longer, longer_length}
use Rattle.gptp_accuracy.specs.Laws.{OneWay, WaysAreDocumented}
use Rattle.gptp_accuracy.specs.Ways.{HasDelays, HasDrift, IsLinkTo, IsWay, root_way}
use Rattle.gptp_accuracy.proofs.StandingLemmas.{drift_within}
use Rattle.gptp_accuracy.proofs.SumLemmas.{blur_little, window_long}

-- the way to a system has as many links as its distance is
pub way_distance : (n : NetworkState) (events : List Timed) (g : Snapshot) (h clock : ℕ) (w : Way) → IsWellFormed g
    → IsWay n events g h clock w → IsDistance g clock h × (length w.links ≡ h)
way_distance n events g zero clock w network (distance, (drift, has, is)) =
    (distance, ap (λ (v : Way). length v.links) is)
way_distance n events g (suc h) clock w network (parent, above, l, follows, way, link, is) =
    let before = way_distance n events g h parent.clock above network way in
    let steps = IsDistance-unique g parent.clock follows.nearer.distance h network follows.nearer.there before.0 in (
      subst (λ d. IsDistance g clock (suc d)) steps follows.nearer.here,
      ap (λ (v : Way). length v.links) is ∙ longer_length above l ∙ ap suc before.1,
    )

-- what ways are determined by: a clock names one system, and at a port is one link
pub record HasOneEach (n : NetworkState) : Type 0 where
  pub clocks : (i j : ℕ) (l m : SystemSpec) → slice_get n.systems i ≡ Some l → slice_get n.systems j ≡ Some m
      → clock_of l.identity ≡ clock_of m.identity → i ≡ j
  pub one_link : (i j : ℕ) (v w : LinkSpec) (p : PortId) → slice_get n.links i ≡ Some v → slice_get n.links j ≡ Some w
      → IsEnd p v → IsEnd p w → i ≡ j

pub one_each : (n : NetworkState) → IsNetwork n → HasOneEach n
one_each n network = record { clocks = network.clocks; one_link = network.one_link }

module _ (n : NetworkState) (network : HasOneEach n) where
  -- a clock has one drift
  one_drift : (clock : ℕ) (d e : ℤ) → HasDrift n clock d → HasDrift n clock e → d ≡ e
  one_drift clock d e one other =
      let (i, at) = slice_get-In one.system n.systems one.there in
      let (j, there) = slice_get-In other.system n.systems other.there in
      let place = network.clocks i j one.system other.system at there (one.is ∙ sym other.is) in
      let same : one.system ≡ other.system =
      same_Some one.system other.system (sym at ∙ ap (slice_get n.systems) place ∙ there) in
      one.drift_is ∙ ap (λ (m : SystemSpec). m.drift) same ∙ sym other.drift_is

  module _ (events : List Timed) where
    -- the link at a port
    one_wire : (clock port a b c d : ℕ) (one : HasDelays n events clock port a b)
        (other : HasDelays n events clock port c d) → one.wire ≡ other.wire
    one_wire clock port a b c d one other =
        let (i, at) = slice_get-In one.wire n.links one.there in
        let (j, there) = slice_get-In other.wire n.links other.there in
        let place = network.one_link i j one.wire other.wire (record { clock = clock; port = port }) at there one.end
        other.end in
        same_Some one.wire other.wire (sym at ∙ ap (slice_get n.links) place ∙ there)

    one_link : (clock : ℕ) (parent : ParentLink) (k l : WayLink) → IsLinkTo n events clock parent k
        → IsLinkTo n events clock parent l → k ≡ l
    one_link clock parent k l one other =
        let same = one_wire clock parent.own_port k.least k.most l.least l.most one.delays other.delays in
        let least : k.least ≡ l.least =
        one.delays.least_is ∙ ap (λ (w : LinkSpec). (link_after events w).bounds.min) same
        ∙ sym other.delays.least_is in
        let most : k.most ≡ l.most =
        one.delays.most_is ∙ ap (λ (w : LinkSpec). (link_after events w).bounds.max) same ∙ sym other.delays.most_is in
        let drift : k.drift ≡ l.drift = one_drift clock k.drift l.drift one.drift other.drift in
        λ i. record { least = least i; most = most i; drift = drift i }

    pub one_way_of : (g : Snapshot) (h clock : ℕ) (v w : Way) → IsWay n events g h clock v → IsWay n events g h clock w
        → v ≡ w
    one_way_of g zero clock v w (distance, (d, has, is)) (other_distance, (e, has_too, is_too)) =
        is ∙ ap (root_way n.params) (one_drift clock d e has has_too) ∙ sym is_too
    one_way_of g (suc h) clock v w (parent, above, l, follows, way, link, is)
        (other, before, k, follows_too, way_too, link_too, is_too) =
        let same : other ≡ parent = IsParent-unique g clock other parent follows_too follows in
        let up : above ≡ before =
        one_way_of g h parent.clock above before way
        (subst (λ (p : ParentLink). IsWay n events g h p.clock before) same way_too) in
        let last : l ≡ k =
        one_link clock parent l k link (subst (λ (p : ParentLink). IsLinkTo n events clock p k) same link_too) in
        is ∙ ap₂ longer up last ∙ sym is_too

pub one_way : OneWay
one_way n events g clock h k v w network well_formed one other =
    let first = way_distance n events g h clock v well_formed one in
    let second = way_distance n events g k clock w well_formed other in
    let steps = IsDistance-unique g clock k h well_formed second.0 first.0 in (
      one_way_of n (one_each n network) events g h clock v w one (subst (λ d. IsWay n events g d clock w) steps other),
      first.1,
      sym steps,
    )

-- ---- the numbers of a way

pub ways_are_documented : WaysAreDocumented
ways_are_documented n events g clock zero w network (distance, (drift, has, is)) =
    let within = drift_within n network clock drift has in
    subst IsDocumented (sym is) (record {
      little = blur_little n.params network.params.ranges.params;
      long = window_long n.params network.params.ranges.params;
      waits = network.params.ranges.params.turnaround-least;
      drifts = λ i none. drift_at_root i none within;
    })
  where
    drift_at_root : (i : ℕ) → i ≤ 0 → IsDrift drift → IsDrift (drift_at (root_way n.params drift) i)
    drift_at_root zero none within = within
    drift_at_root (suc i) none within = absurd (omega (arith, none))
ways_are_documented n events g clock (suc h) w network (parent, above, l, follows, way, link, is) =
    subst IsDocumented (sym is) (documented_longer above l
    (ways_are_documented n events g parent.clock h above network way)
    (drift_within n network clock l.drift link.drift))
