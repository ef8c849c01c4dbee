-- The world of two systems has settled soon after they began.
use Rattle.std.proofs.Common.{◌≡◌, ◌<◌, ◌≤◌, ◌+◌, ◌*◌, ℕ, List, [], Option, Some, None, refl, sym, ap, subst, ◌∙◌, inl, inr, arith}
use Rattle.std.specs.Prelude.{IfNone, IfSome}
use Rattle.gptp_model.specs.Acts.{AtSystem}
use Rattle.gptp_model.specs.Advancing.{Advanced, Told}
use Rattle.gptp_model.specs.Views.{FollowsRoot, IsLiveSystem}
use Rattle.gptp_model.specs.World.{WorldState}
use Rattle.gptp_graph.specs.Distance.{IsDistance, IsNear}
use Rattle.gptp_graph.specs.PathBound.{BoundsPaths}
use Rattle.gptp_graph.specs.SettledChoice.{IsBestIdentity}
use Rattle.gptp_invariants.specs.ChoiceCalm.{delay_in}
use Rattle.gptp_invariants.specs.WorldSettlingInvariant.{SettlingInvariant}
use Rattle.gptp_invariants.specs.WorldNewsCourse.{capable_from}
use Rattle.gptp_invariants.specs.WorldStanding.{snapshot_of}
use Rattle.gptp_links.specs.declared.bounds.Bounds.{Bounds}
use Rattle.gptp_lists.proofs.MappedLemmas.{alike}
use Rattle.gptp_lists.proofs.SystemSpecLemmas.{In-slice_get, slice_get-In}
use Rattle.gptp_scenario.specs.Change.{link_after}
use Rattle.gptp_scenario.specs.declared.network.LinkSpec.{LinkSpec}
use Rattle.gptp_scenario.specs.Network.{pace_of}
use Rattle.gptp_scenario.specs.declared.sync_wait.SyncPaths.{SyncPaths}
use Rattle.gptp_theorem.specs.Headline.{WorldIsCalm}
use Rattle.gptp_theorem.specs.Reached.{channel_wire}
use Rattle.gptp_theorem.proofs.CalmLemmas.{pace_stands, quiet_stands}
use Rattle.gptp_theorem.proofs.SyncPathLemmas.{paths_stand}
use Rattle.gptp_bmca_machine.specs.Settled.{IsSlaveOf}
use Rattle.gptp_settling_time.specs.Starts.{DelaysVaryLittle, LinksVaryLittle, StartsSettleAtOnce}
use Rattle.gptp_system.specs.State.{clock}
use Rattle.gptp_network_tests.specs.Pair.{HasBegun, IsPairAt, first_member, pair_network, pair_pace, pair_snapshot, params}
use Rattle.gptp_network_tests.specs.Soon.{IsPairSoon}
use Rattle.gptp_network_tests.proofs.PairLemmas.{bounded, calm as is_calm, comes_to, lives, near, pace_is, paths_are, root_is, slave_is, steps_are}

-- the frames of their link take 500 ns
few : LinksVaryLittle pair_network []
few v (inl same) = subst (λ (x : LinkSpec). x.bounds.max < 2 * x.bounds.min) (sym same) (omega arith)
few v (inr none) = absurd none

module _ {F : Type 0} (answers : Bounds → ℕ → F → Option ℕ → F → Type 0) (theorem : StartsSettleAtOnce answers)
    (fate fate_after : F) (told : List Told) (start w : WorldState) (k : HasBegun answers fate start)
    (advanced : Advanced answers 1000002501 told fate fate_after start w) (claimed : SettlingInvariant w) where
  there : IsPairAt 1000002501 w
  there = comes_to answers fate fate_after told 1000002501 start w k advanced claimed

  calm : WorldIsCalm (pace_of pair_network) w
  calm =
      let quiet = quiet_stands pair_network [] w k.network there.since.stands claimed.is.world.sound is_calm in
      record {
        of = pace_stands pair_network [] w there.since.stands;
        links = λ link member used.
            let (place, here) = slice_get-In link w.net.channels member in
            let is = quiet.links place link here used in (is.lossless, is.good);
        lapses = quiet.lapses;
      }

  delay : delay_in w ≡ 500
  delay =
      ap (λ (x : SyncPaths). x.delay)
      (sym (paths_stand pair_network [] w k.network there.since.stands claimed.is.world.sound) ∙ paths_are params)

  time : w.time ≡ 1000002501
  time = ap (λ (v : WorldState). v.time) advanced.is

  late : capable_from pair_pace w 0 + 1 * delay_in w ≤ w.time
  late = let one = delay in let now = time in omega (arith, one, now)

  -- every frame takes as long
  little : DelaysVaryLittle w
  little link channel here used =
      let (v, there, same) = alike (link_after []) channel_wire pair_network.links w.net.channels
      (sym there.since.stands.links) link channel here in
      subst (λ (b : Bounds). b.max < 2 * b.min) (ap (λ (x : LinkSpec). x.bounds) same) (few v (In-slice_get v
      pair_network.links link there))

  pub soon : IsPairSoon w
  soon = record {
    at = there;
    settled = (theorem pair_network k.before fate fate_after 1000002501 2 told start w k.network k.begun advanced calm
        refl little (subst (λ g. BoundsPaths g 2) (sym there.snapshot) bounded)
        (subst (λ p. capable_from p w 0 + 1 * delay_in w ≤ w.time) (sym (pace_is params)) late)).tree.settled;
  }

-- the second is found, and follows the first
pub followed_soon : (w : WorldState) (number : ℕ) (found : Option (ℕ × ℕ × Option ℕ)) → number ≡ 2 → IsPairSoon w
    → IfSome found (λ f. AtSystem number w (FollowsRoot f.0 f.1 f.2))
    → IfNone found (AtSystem number w IsLiveSystem → ⊥) → found ≡ Some (first_member, 1, Some 1)
followed_soon w number None named k some none = absurd (none (lives 1000002501 w number named k.at))
followed_soon w number (Some (root, steps, port)) named k some none =
    let own : clock some.station.system ≡ 2 = some.is.named ∙ named in
    let close : IsNear (snapshot_of w) (clock some.station.system) =
    subst (λ g. IsNear g (clock some.station.system)) (sym k.at.snapshot)
    (subst (IsNear pair_snapshot) (sym own) near) in
    let is = k.settled some.place some.station some.is.here some.so.live close in
    let root_same : root ≡ first_member =
    some.so.root_is
    ∙ root_is some.station.system.root
    (subst (λ n. IsBestIdentity pair_snapshot n some.station.system.root) own
    (subst (λ g. IsBestIdentity g (clock some.station.system) some.station.system.root) k.at.snapshot is.root)) in
    let steps_same : steps ≡ 1 =
    some.so.steps_are
    ∙ steps_are some.station.system.steps
    (subst (λ n. IsDistance pair_snapshot n some.station.system.steps) own
    (subst (λ g. IsDistance g (clock some.station.system) some.station.system.steps) k.at.snapshot is.steps)) in
    let port_same : port ≡ Some 1 =
    some.so.slave_is
    ∙ slave_is some.station.system.slave
    (subst (λ n. IsSlaveOf pair_snapshot n some.station.system.slave) own
    (subst (λ g. IsSlaveOf g (clock some.station.system) some.station.system.slave) k.at.snapshot is.slave)) in
    rw (root_same, steps_same, port_same) refl
