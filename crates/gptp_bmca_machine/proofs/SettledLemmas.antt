-- Networks settle: each near system follows the best over its parent, and its ports have their settled roles.
use Rattle.std.proofs.Common.{◌≡◌, ◌≤◌, ◌<◌, ◌*◌, ℕ, zero, suc, pred, true, Some, slice_get, subst, arith}
use native.Mathlib.Nat.{mul-le-mul_right}
use Rattle.gptp_graph.specs.Snapshot.{System, PortIdentity, port_of, IsLinked}
use Rattle.gptp_graph.specs.Best.{IsBest}
use Rattle.gptp_graph.specs.Distance.{IsDistance, IsNear}
use Rattle.gptp_graph.proofs.PathBoundLemmas.{IsDistance-within}
use Rattle.gptp_bmca_machine.specs.Frame.{Spelling}
use Rattle.gptp_bmca_machine.specs.Station.{Reception, Port, Station, MachineState, HoldsAt}
use Rattle.gptp_bmca_machine.specs.Clean.{CameWhole, CameSound}
use Rattle.gptp_bmca_machine.specs.Network.{Network, IsSettlingNetwork, since, settled_from}
use Rattle.gptp_bmca_machine.specs.Calm.{IsCalmPort, Calm}
use Rattle.gptp_bmca_machine.specs.Levels.{LeadsFarther, IsHeardFrom, Invariant}
use Rattle.gptp_bmca_machine.specs.Settled.{FollowsBest, HasBest, HasLinkedRoles, HasSettledRoles}
use Rattle.gptp_bmca_machine.proofs.NearestLemmas.{equal_within}
use Rattle.gptp_bmca_machine.proofs.RestLemmas.{Chooses, IsClear, root_above, steps_above}
use Rattle.gptp_bmca_machine.proofs.EndsLemmas.{clear_at}
use Rattle.gptp_bmca_machine.proofs.LevelLemmas.{told, chooses}
use Rattle.gptp_bmca_machine.proofs.PortsSettledLemmas as by

-- a greater distance is settled later
pub since_grows : (n : Network) (d e : ℕ) → d ≤ e → since n d ≤ since n e
since_grows n d e h = let more : d * n.step ≤ e * n.step = mul-le-mul_right n.step h in omega arith

module _ (says : Spelling) (n : Network) (net : IsSettlingNetwork n) (w : MachineState) (calm : Calm n w)
    (invariant : Invariant says n w)
    (i : ℕ) (s : Station) (at : slice_get w.stations i ≡ Some s) (live : s.live ≡ true) (d : ℕ)
    (here : IsDistance n.graph s.clock d) (near : d < 255) where
  stands : slice_get w.stations (n.place s.clock) ≡ Some s
  stands = subst (λ j. slice_get w.stations j ≡ Some s) (calm.placed i s at) at

  module _ (late : since n d ≤ w.time) where
    clear : IsClear n.graph s
    clear = clear_at n net w calm invariant.sound i s at live (omega arith)

    chosen : Chooses s here.best d
    chosen =
        chooses says n net w calm invariant.sound d (λ e less. invariant.levels e) near late s.clock here.best s stands
        here.is_best here

    -- what a port holds of a system that is no farther, or as far with the lower clock
    holds_final : (e p q : ℕ) (u : ℕ) → e < 255 → LeadsFarther n.graph e here.best u q s.clock p
        → since n (suc e) ≤ w.time
        → (r : Reception) × HoldsAt s p r × (r.said.root ≡ here.best.identity) × (r.said.steps ≡ e)
        × (r.said.source ≡ port_of u (suc q))
    holds_final e p q u near_u leads by =
        let (r, holds, final) =
        told says n net w calm invariant.sound e here.best u q s.clock p near_u leads
        (chooses says n net w calm invariant.sound e (λ f less. invariant.levels f) near_u)
        (invariant.levels e here.best u q s.clock p near_u leads) by s stands in
        (r, holds, final.root, final.steps, final.source)

  -- what is known of a port
  calm_port : (p : ℕ) (q : Port) → slice_get s.ports p ≡ Some q
      → IsCalmPort n w.time (port_of s.clock (suc p)) q
  calm_port p q at_p = (calm.stations i s at live).ports p q at_p

  -- those at a distance have told it by then
  abbrev Told : ℕ → Type 0
  Told e = since n (suc e) ≤ w.time

  module _ (late : since n d ≤ w.time) where
    told_nearer : (e : ℕ) → e < d → since n (suc e) ≤ w.time
    told_nearer e less = let grows = since_grows n (suc e) d less in omega (arith, grows, late)

    -- it has the best as its root, over its distance
    pub has_best : HasBest n.graph s
    has_best =
        by.has_best n net.graph w.time s d here near (clear late) (chosen late) calm_port Told (holds_final late)
        told_nearer

    -- it follows the best over its parent
    pub follows_best : n.bare ≤ w.time → FollowsBest n.graph s
    follows_best =
        by.follows_best n net.graph w.time s d here near (clear late) (chosen late) calm_port Told (holds_final late)
        told_nearer

    module _ (heard : IsHeardFrom n w s d) where
      ready : (p : PortIdentity) → IsLinked n.graph p → n.ready p ≤ w.time
      ready p linked = let first : n.ready p ≤ since n 0 = net.ready p linked in omega arith

      -- all that it holds is wholly clean
      pub settled_whole : n.off ≤ w.time → (p : ℕ) (r : Reception) → CameSound n.graph s.clock (suc p) r
          → HoldsAt s p r → CameWhole n.graph s.clock (suc p) r
      settled_whole =
          by.settled_whole n net.graph w.time s d here near (clear late) (chosen late) calm_port Told
          (holds_final late) told_nearer heard ready

      -- every port on a link has its settled role
      pub linked_roles : n.bare ≤ w.time → HasLinkedRoles n.graph s
      linked_roles =
          by.linked_roles n net.graph w.time s d here near (clear late) (chosen late) calm_port Told (holds_final late)
          told_nearer heard ready

      -- and so has every port
      pub settled_roles : n.off ≤ w.time → HasSettledRoles n.graph s
      settled_roles =
          by.settled_roles n net.graph w.time s d here near (clear late) (chosen late) calm_port Told
          (holds_final late) told_nearer heard ready net.bare

-- by the end each distance has settled, and so have the Passive ends
module _ (n : Network) (net : IsSettlingNetwork n) (w : MachineState) (d : ℕ) (s : Station)
    (here : IsDistance n.graph s.clock d)
    (late : settled_from n ≤ w.time) where
  by_then : (e : ℕ) → suc e ≤ n.reach → since n e ≤ w.time
  by_then e h =
      let grows : since n e ≤ since n (pred n.reach) = since_grows n e (pred n.reach) (le_pred e n.reach h) in
      omega arith
    where
      le_pred : (a b : ℕ) → suc a ≤ b → a ≤ pred b
      le_pred a zero k = absurd (omega arith)
      le_pred a (suc b) k = omega arith

  in_time : since n d ≤ w.time
  in_time = by_then d (IsDistance-within n.graph n.reach s.clock d net.paths here)

  heard : IsHeardFrom n w s d
  heard u joined there lower =
      by_then (suc d)
      (equal_within n.graph n.reach s.clock u d net.graph net.paths joined (λ e. absurd (omega arith)) here there)

-- in the end every near system has settled, and all its ports
pub network_settles : (says : Spelling) (n : Network) (w : MachineState) (i : ℕ) (s : Station) → IsSettlingNetwork n
    → Calm n w
    → Invariant says n w → slice_get w.stations i ≡ Some s → s.live ≡ true → IsNear n.graph s.clock
    → settled_from n ≤ w.time
    → HasBest n.graph s × (n.bare ≤ w.time → FollowsBest n.graph s × HasLinkedRoles n.graph s)
    × (n.off ≤ w.time → HasSettledRoles n.graph s)
network_settles says n w i s net calm invariant at live (d, here, near) late = (
  has_best says n net w calm invariant i s at live d here near (in_time n net w d s here late),
  (λ bare. (
    follows_best says n net w calm invariant i s at live d here near (in_time n net w d s here late) bare,
    linked_roles says n net w calm invariant i s at live d here near (in_time n net w d s here late)
        (heard n net w d s here late) bare,
  )),
  settled_roles says n net w calm invariant i s at live d here near (in_time n net w d s here late)
      (heard n net w d s here late),
)

-- In the end what a near live system holds is wholly clean.
pub network_whole : (says : Spelling) (n : Network) (w : MachineState) (i : ℕ) (s : Station) → IsSettlingNetwork n
    → Calm n w
    → Invariant says n w → slice_get w.stations i ≡ Some s → s.live ≡ true → IsNear n.graph s.clock
    → settled_from n ≤ w.time → n.off ≤ w.time → (place : ℕ) (r : Reception)
    → CameSound n.graph s.clock (suc place) r → HoldsAt s place r
    → CameWhole n.graph s.clock (suc place) r
network_whole says n w i s net calm invariant at live (d, here, near) late =
    settled_whole says n net w calm invariant i s at live d here near (in_time n net w d s here late)
    (heard n net w d s here late)

-- once all that is held is sound, a system's root is no better than its best, and for that its steps are no fewer than
-- its distance
pub systems_bounded : (says : Spelling) (n : Network) (w : MachineState) (i : ℕ) (s : Station) (best : System)
    → IsSettlingNetwork n
    → Calm n w → Invariant says n w → slice_get w.stations i ≡ Some s → s.live ≡ true → IsBest n.graph s.clock best
    → n.sound ≤ w.time
    → (best.identity ≤ s.root) × ((d : ℕ) → IsDistance n.graph s.clock d → s.root ≡ best.identity → d ≤ s.steps)
systems_bounded says n w i s best net calm invariant at live is_best late =
    let clear = clear_at n net w calm invariant.sound i s at live late in
    (root_above n.graph net.graph s clear best is_best, steps_above n.graph net.graph s clear best is_best)
