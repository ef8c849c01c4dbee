-- Unmoved systems beside moved ones have settled, and what they hold respects what is left, where no moved system that
-- is nearer is beside them, and they hold nothing of one.
use Rattle.std.proofs.Common.{◌≡◌, ◌⊎◌, ◌<◌, ◌≤◌, ℕ, suc, true, Some, slice_get, sym, subst, ◌∙◌, inl, inr, arith}
use Rattle.std.specs.Bool.{⊤}
use Rattle.gptp_lists.specs.Members.{In}
use Rattle.gptp_graph.specs.Best.{IsBest}
use Rattle.gptp_graph.specs.Distance.{IsDistance}
use Rattle.gptp_graph.specs.Snapshot.{IsLinked, IsWellFormed, Joins, PortIdentity, Snapshot, System, clocks, port_of}
use Rattle.gptp_graph.proofs.DistanceLemmas.{IsDistance-unique}
use Rattle.gptp_graph.proofs.LinkLemmas.{Joins-clock, Joins-sym}
use Rattle.gptp_bmca_machine.specs.Calm.{IsCalmPort}
use Rattle.gptp_bmca_machine.specs.Clean.{CameFits, CameOverLink}
use Rattle.gptp_bmca_machine.specs.Facts.{station_system}
use Rattle.gptp_bmca_machine.specs.Frame.{Spelling}
use Rattle.gptp_bmca_machine.specs.Levels.{LeadsFarther}
use Rattle.gptp_bmca_machine.specs.LossLaws.{EverythingFits, IsAfterLoss, IsWhatIsLeft, Unmoved}
use Rattle.gptp_bmca_machine.specs.Network.{Network}
use Rattle.gptp_bmca_machine.specs.Settled.{FollowsBest, HasBest, HasLinkedRoles, HasSettledRoles}
use Rattle.gptp_bmca_machine.specs.Station.{HoldsAt, MachineState, Port, Reception, Station}
use Rattle.gptp_bmca_machine.proofs.PortsSettledLemmas as by
use Rattle.gptp_bmca_machine.proofs.RestLemmas.{CameBounded, Chooses, IsClear, was_itself}
use Rattle.gptp_bmca_machine.proofs.StillLemmas.{LeadsOn, StillSettles, best_was, chooses_still, far_was, told}

-- what a port of a system at this distance holds of one that tells it
abbrev pub Hears : (g : Snapshot) (s : Station) (d : ℕ) → IsDistance g s.clock d → Type 0
Hears g s d here = (e p q : ℕ) (u : ℕ) → e < 255 → LeadsFarther g e here.best u q s.clock p → ⊤
    → (r : Reception) × HoldsAt s p r × (r.said.root ≡ here.best.identity) × (r.said.steps ≡ e)
    × (r.said.source ≡ port_of u (suc q))

-- it is clear, chooses its best by its distance, and holds what those tell that tell it
pub record Follows (g : Snapshot) (s : Station) (d : ℕ) (here : IsDistance g s.clock d) : Type 0 where
  pub clear : IsClear g s
  pub chosen : Chooses s here.best d
  pub hears : Hears g s d here

module _ (n : Network) (well : IsWellFormed n.graph) (w : MachineState) (kept : IsAfterLoss n w) where
  module _ (i : ℕ) (s : Station) (at : slice_get w.stations i ≡ Some s) (live : s.live ≡ true) (d : ℕ)
      (here : IsDistance n.graph s.clock d) (near : d < 255) where
    pub there : slice_get w.stations (n.place s.clock) ≡ Some s
    there = subst (λ j. slice_get w.stations j ≡ Some s) (kept.calm.placed i s at) at

    calm_port : (p : ℕ) (q : Port) → slice_get s.ports p ≡ Some q
        → IsCalmPort n w.time (port_of s.clock (suc p)) q
    calm_port p q at_p = (kept.calm.stations i s at live).ports p q at_p

    abbrev pub Settles : Type 0
    Settles = HasBest n.graph s × (n.bare ≤ w.time → FollowsBest n.graph s × HasLinkedRoles n.graph s)
        × (n.off ≤ w.time → HasSettledRoles n.graph s)

    -- so it has settled
    pub has_settled : n.bare ≤ n.off → Follows n.graph s d here → Settles
    has_settled bare follows = (
      by.has_best n well w.time s d here near follows.clear follows.chosen calm_port (λ e. ⊤) follows.hears
          (λ e less. tt),
      (λ now. (
        by.follows_best n well w.time s d here near follows.clear follows.chosen calm_port (λ e. ⊤) follows.hears
            (λ e less. tt) now,
        by.linked_roles n well w.time s d here near follows.clear follows.chosen calm_port (λ e. ⊤) follows.hears
            (λ e less. tt) (λ u joined same lower. tt) (λ p linked. kept.capable p linked) now,
      )),
      by.settled_roles n well w.time s d here near follows.clear follows.chosen calm_port (λ e. ⊤) follows.hears
          (λ e less. tt) (λ u joined same lower. tt) (λ p linked. kept.capable p linked) bare,
    )

module _ (says : Spelling) (g : Snapshot) (n : Network) (well : IsWellFormed n.graph) (left : IsWhatIsLeft g n)
    (w : MachineState) (kept : IsAfterLoss n w) (fits : EverythingFits says g n w)
    (still : (f : ℕ) → StillSettles says g n f w) (Moved : ℕ → Type 0)
    (each : (v : ℕ) → In v (clocks n.graph) → Unmoved g n v ⊎ Moved v)
    (beyond : (v c i k : ℕ) → Moved v → Unmoved g n c → Joins n.graph (port_of v i) (port_of c k) → (e d : ℕ)
    → IsDistance n.graph v e → IsDistance n.graph c d → d < e)
    (holds_none : (v i c place : ℕ) → Moved v → Unmoved g n c → Joins n.graph (port_of v i) (port_of c (suc place))
    → (s : Station) (r : Reception) → slice_get w.stations (n.place c) ≡ Some s → HoldsAt s place r → ⊥) where
  module _ (i : ℕ) (s : Station) (at : slice_get w.stations i ≡ Some s) (live : s.live ≡ true) (d : ℕ)
      (here : IsDistance n.graph s.clock d) (near : d < 255) (u_s : Unmoved g n s.clock) where
    was_best : IsBest g s.clock here.best
    was_best = best_was g n well left s.clock here.best u_s here.is_best

    was : IsDistance g s.clock d
    was = far_was g n well left s.clock d u_s here

    still_chooses : Chooses s here.best d
    still_chooses =
        chooses_still says g n well left w kept fits.stations d (λ e less. still e) near s.clock here.best s
        (there n well w kept i s at live d here near) u_s was_best was

    still_hears : Hears n.graph s d here
    still_hears e p q u close leads told_e = elim (each u
        (Joins-clock n.graph (port_of u (suc q)) (port_of s.clock (suc p)) well leads.joins)) [
          | inr moved ↦
              let far = beyond u s.clock (suc q) (suc p) moved u_s leads.joins e d leads.here here in
              let end = IsDistance-unique n.graph s.clock leads.far d well leads.there here in
              absurd (elim leads.farther [
                | inl less ↦ omega (arith, less, far, end)
                | inr (equal, lower) ↦ omega (arith, equal, far, end)
              ])
          | inl u_u ↦
              let on : LeadsOn g n e here.best u q s.clock p =
              record {
                unmoved = u_u;
                is_best = best_was g n well left u here.best u_u leads.is_best;
                here = far_was g n well left u e u_u leads.here;
                joins = leads.joins;
                far = leads.far;
                there = far_was g n well left s.clock leads.far u_s leads.there;
                farther = leads.farther;
              } in
              let (r, holds, final) = told says g n well left w kept fits.stations e here.best u q s.clock p close on
              (chooses_still says g n well left w kept fits.stations e (λ f less. still f) close)
              (still e here.best u q s.clock p close on) s (there n well w kept i s at live d here near) in
              (r, holds, final.root, final.steps, final.source)
        ]

    still_clear : IsClear n.graph s
    still_clear = record {
      rest = (kept.calm.stations i s at live).at_rest;
      known = was_itself n.graph (station_system s) (kept.calm.facts.stations i s at live).known;
      held = bounded_now;
    }
      where
        bounded_now : (place : ℕ) (r : Reception) → HoldsAt s place r → CameBounded n.graph s.clock (suc place) r
        bounded_now place r holds = record {
          over = over_link;
          root = λ b best_b. came_fits.fits.root b (best_was g n well left s.clock b u_s best_b);
          here = λ b far best_b root far_is. came_fits.fits.here b far (best_was g n well left s.clock b u_s best_b)
              root
              (far_was g n well left s.clock far u_s far_is);
        }
          where
            came_fits : CameFits g s.clock (suc place) r
            came_fits = fits.stations i s place r at live holds

            over_link : IsLinked n.graph (port_of s.clock (suc place)) → CameOverLink n.graph s.clock (suc place)
                r.said
            over_link (u, joined) = record {
              from = u;
              joins = Joins-sym n.graph (port_of s.clock (suc place)) u joined;
              source = came.source ∙ same;
              sender = sender;
            }
              where
                came : CameOverLink g s.clock (suc place) r.said
                came = came_fits.over (u, left.links (port_of s.clock (suc place)) u joined)

                same : came.from ≡ u
                same =
                    left.graph.one_link (port_of s.clock (suc place)) came.from u
                    (Joins-sym g came.from (port_of s.clock (suc place)) came.joins)
                    (left.links (port_of s.clock (suc place)) u joined)

                sender : (b : System) (far : ℕ) → IsBest n.graph s.clock b → r.said.root ≡ b.identity
                    → IsDistance n.graph u.clock far → far ≤ r.said.steps
                sender b far best_b root far_is = elim (each u.clock (Joins-clock n.graph u
                    (port_of s.clock (suc place)) well (Joins-sym n.graph (port_of s.clock (suc place)) u joined))) [
                      | inr moved ↦ absurd (holds_none u.clock u.port s.clock place moved u_s
                          (Joins-sym n.graph (port_of s.clock (suc place)) u joined) s r
                          (there n well w kept i s at live d here near) holds)
                      | inl u_u ↦
                          came.sender b far (best_was g n well left s.clock b u_s best_b) root
                          (subst (λ (k : PortIdentity). IsDistance g k.clock far) (sym same)
                          (far_was g n well left u.clock far u_u far_is))
                    ]

    pub still_follows : Follows n.graph s d here
    still_follows = record { clear = still_clear; chosen = still_chooses; hears = still_hears }
