-- Once a tree has turned by its one way out, each near system has settled.
use Rattle.std.proofs.Common.{◌≡◌, ◌⊎◌, ◌<◌, ◌≤◌, ◌+◌, ℕ, suc, true, List, Some, slice_get, sym, subst, ◌∙◌, inl, inr, arith}
use Rattle.gptp_lists.specs.Members.{In}
use Rattle.gptp_graph.specs.Best.{IsBest}
use Rattle.gptp_graph.specs.Distance.{IsDistance}
use Rattle.gptp_graph.specs.Snapshot.{Joins, Snapshot, System, clocks, port_of}
use Rattle.gptp_graph.proofs.DecisionLemmas.{in_dec}
use Rattle.gptp_graph.proofs.DistanceLemmas.{IsDistance-unique}
use Rattle.gptp_graph.proofs.ExistenceLemmas.{distance_exists}
use Rattle.gptp_graph.proofs.LinkLemmas.{Joins-sym}
use Rattle.gptp_graph.proofs.PathBoundLemmas.{IsDistance-within}
use Rattle.gptp_graph.proofs.SystemLemmas.{In-clocks}
use Rattle.gptp_bmca_machine.specs.Facts.{station_system}
use Rattle.gptp_bmca_machine.specs.Frame.{Spelling}
use Rattle.gptp_bmca_machine.specs.LossLaws.{Unmoved}
use Rattle.gptp_bmca_machine.specs.Network.{Network}
use Rattle.gptp_bmca_machine.specs.Run.{NearHaveSettled}
use Rattle.gptp_bmca_machine.specs.Station.{HoldsAt, MachineState, Mine, Port, Received, Reception, Station}
use Rattle.gptp_bmca_machine.specs.TurnTree.{TurnsTree}
use Rattle.gptp_bmca_machine.proofs.FallLemmas.{HasLeft}
use Rattle.gptp_bmca_machine.proofs.LevelLemmas.{places_of}
use Rattle.gptp_bmca_machine.proofs.LinkEndsLemmas.{hearer_on}
use Rattle.gptp_bmca_machine.proofs.MovedEndLemmas.{choose, tree_follows}
use Rattle.gptp_bmca_machine.proofs.MovedLevelLemmas.{has_left}
use Rattle.gptp_bmca_machine.proofs.MovedTreeLemmas.{MovesTree}
use Rattle.gptp_bmca_machine.proofs.RestLemmas.{Chooses, IsClear, is_master}
use Rattle.gptp_bmca_machine.proofs.StillEndLemmas.{Follows, has_settled, still_follows}
use Rattle.gptp_bmca_machine.proofs.StillLemmas.{clear_at}
use Rattle.gptp_bmca_machine.proofs.TurnLemmas.{OutIsAt, TurnsBack, out_chooses, out_is, out_is_at}
use Rattle.gptp_bmca_machine.proofs.TurnLevelLemmas.{Times, TurnSettles, tree_times, way_in, way_leads}
use Rattle.gptp_bmca_machine.proofs.TurnOutLemmas.{mine, turned}
use Rattle.gptp_bmca_machine.proofs.TurnTreeLemmas.{IsOf, LeadsOut, beyond_out, out_was_best, turns_moves}

module _ (says : Spelling) (g : Snapshot) (n : Network) (tree : List ℕ) (top other last out : ℕ) (best : System)
    (base : ℕ) (depth : ℕ → ℕ) (t : TurnsTree g n tree top other last out best base depth) (start over : ℕ)
    (before : ℕ → ℕ) (times : Times says g n tree top other last out best base depth t start over before)
    (w : MachineState) (is : TurnsBack says g n tree top other last out best base depth t start w)
    (settles : TurnSettles says g n tree top other last out best base depth t start over before times w)
    (late : (e : ℕ) → suc (suc e) ≤ n.reach → before e ≤ w.time) where
  abbrev m : MovesTree g n (IsOf tree) (LeadsOut last out) top best best base depth
  m = turns_moves g n tree top other last out best base depth t

  abbrev o : OutIsAt says g n tree top other last out best base depth t
  o = out_is_at says g n tree top other last out best base depth t

  -- ---- the end of the way out

  -- its port at the tree is master
  out_mine : (p k : ℕ) → Joins n.graph (port_of last (suc p)) (port_of out (suc k)) → before o.d ≤ w.time
      → (s : Station) (pv : Port) → slice_get w.stations (n.place out) ≡ Some s → slice_get s.ports k ≡ Some pv
      → pv.held ≡ Mine best.identity o.d
  out_mine p k joins by_now s pv at there = elim (way_leads says g n tree top other last out best base depth t start) [
    | inl leads ↦
        mine says g n tree top other last out best base depth t start p k joins leads (before o.d)
        (let more = times.room o.d in omega (arith, more)) w is
        (turned says g n tree top other last out best base depth t start p k joins leads w is
        (let by = times.heard in let more = times.room o.d in omega (arith, by, more, by_now))) s at pv there
    | inr (same, lower) ↦
        let (live, clock) = out_is says g n tree top other last out best base depth t w is.back.after is.back.still s at
        in
        is_master g t.left.graph s
        (clear_at g n t.well t.left w is.back.after.kept is.back.after.fits.stations (n.place out) s at live) best
        (subst (λ c. IsBest g c best) (sym clock) (out_was_best g n tree top other last out best base depth t)) o.d
        (base + depth last) k pv (port_of last (suc p))
        (out_chooses says g n tree top other last out best base depth t w is.back.after is.back.still s at) there
        (hearer_on g n t.well t.left n.most 0 best last p out k joins (omega arith) w is.back.after.kept
        is.back.after.fits.stations s pv at there)
        (subst (λ c. Joins g (port_of c (suc k)) (port_of last (suc p))) (sym clock)
        (Joins-sym g (port_of last (suc p)) (port_of out (suc k))
        (t.left.links (port_of last (suc p)) (port_of out (suc k)) joins))) (t.was last t.in_last)
        (inr (same, subst (λ c. c < last) (sym clock) lower))
  ]

  -- ---- one of its systems

  pub past : over < w.time
  past =
      let (far, here) = distance_exists n.graph last t.well (t.lives last t.in_last) in
      let more = beyond_out g n tree top other last out best base depth t far last o.d t.in_last here o.now in
      let within = IsDistance-within n.graph n.reach last far t.paths here in
      let room = times.room o.d in
      let now = late o.d (omega (arith, more, within)) in
      omega (arith, room, now)

  -- they have left their old choices, and choose by their distances
  pub turned_left : (v : ℕ) → In v tree → HasLeft n w v best (base + depth v)
  turned_left v in_v =
      has_left says g n (IsOf tree) (LeadsOut last out) top best best base depth m t.paths t.few start over before
      (tree_times says g n tree top other last out best base depth t start over before times) w is.back.after
      is.back.falling v in_v past

  pub turned_chooses : (d v : ℕ) (s : Station) → slice_get w.stations (n.place v) ≡ Some s → In v tree
      → IsDistance n.graph v d → Chooses s best d
  turned_chooses d v s at in_v here =
      choose says g n (IsOf tree) (LeadsOut last out) top best best base depth m t.paths t.few start over before
      (tree_times says g n tree top other last out best base depth t start over before times) w is.back.after
      is.back.falling (way_in says g n tree top other last out best base depth t start over before times w is
      settles.way) settles.levels late past d (IsDistance-within n.graph n.reach v d t.paths here) v s at in_v here

  module _ (i : ℕ) (s : Station) (at : slice_get w.stations i ≡ Some s) (live : s.live ≡ true) (d : ℕ)
      (here : IsDistance n.graph s.clock d) (near : d < 255) where
    pub turned_follows : In s.clock tree → Follows n.graph s d here
    turned_follows =
        tree_follows says g n (IsOf tree) (LeadsOut last out) top best best base depth m t.paths t.few start over before
        (tree_times says g n tree top other last out best base depth t start over before times) w is.back.after
        is.back.falling
        (way_in says g n tree top other last out best base depth t start over before times w is settles.way)
        settles.levels late past i s at live d here near

  -- ---- beside it

  -- a link leads out at the end of the way out alone, which is nearer
  leads_out : (v c i k : ℕ) → In v tree → (In c tree → ⊥) → Joins n.graph (port_of v i) (port_of c k)
      → (v ≡ last) × (c ≡ out)
  leads_out v c i k in_v out_c joins = elim (t.leaves v c in_v (i, k, joins)) [
    | inl in_c ↦ absurd (out_c in_c)
    | inr at_out ↦ at_out
  ]

  pub beyond_tree : (v c i k : ℕ) → In v tree → (In c tree → ⊥) → Joins n.graph (port_of v i) (port_of c k)
      → (e d : ℕ) → IsDistance n.graph v e → IsDistance n.graph c d → d < e
  beyond_tree v c i k in_v out_c joins e d here there =
      let (is_last, is_out) = leads_out v c i k in_v out_c joins in
      let far = beyond_out g n tree top other last out best base depth t e v o.d in_v here o.now in
      let same = IsDistance-unique n.graph out d o.d t.well (subst (λ x. IsDistance n.graph x d) is_out there) o.now in
      omega (arith, far, same)

  -- and holds nothing of the tree
  pub holds_none_of : (v i c place : ℕ) → In v tree → (In c tree → ⊥)
      → Joins n.graph (port_of v i) (port_of c (suc place)) → (s : Station) (r : Reception)
      → slice_get w.stations (n.place c) ≡ Some s → HoldsAt s place r → ⊥
  holds_none_of v i c place in_v out_c joins s r at holds =
      by (leads_out v c i (suc place) in_v out_c joins)
      (places_of n.graph c (suc place) v i t.well (Joins-sym n.graph (port_of v i) (port_of c (suc place)) joins))
    where
      by : (v ≡ last) × (c ≡ out) → ((a : ℕ) × (p : ℕ) × (suc place ≡ suc a) × (i ≡ suc p)) → ⊥
      by (is_last, is_out) (a, p, first, second) =
          let over : Joins n.graph (port_of last (suc p)) (port_of out (suc place)) =
          subst (λ x. Joins n.graph (port_of last (suc p)) (port_of x (suc place))) is_out
          (subst (λ x. Joins n.graph (port_of x (suc p)) (port_of c (suc place))) is_last
          (subst (λ k. Joins n.graph (port_of v k) (port_of c (suc place))) second joins)) in
          let (far, last_at) = distance_exists n.graph last t.well (t.lives last t.in_last) in
          let more = beyond_out g n tree top other last out best base depth t far last o.d t.in_last last_at o.now in
          let within = IsDistance-within n.graph n.reach last far t.paths last_at in
          let is_mine = out_mine p place over (late o.d (omega (arith, more, within))) s holds.0
          (subst (λ x. slice_get w.stations (n.place x) ≡ Some s) is_out at) holds.1 in
          absurd (let both : Received r ≡ Mine best.identity o.d = sym holds.2 ∙ is_mine in cc)

  -- ---- where all others are unmoved

  module _ (others : (v : ℕ) → In v (clocks n.graph) → (In v tree → ⊥) → Unmoved g n v) where
    unmoved_out : (c : ℕ) → Unmoved g n c → In c tree → ⊥
    unmoved_out c u in_c =
        let more = t.farther c (base + depth c) in_c (u.far (base + depth c) (t.was c in_c)) in
        omega (arith, more)

    each : (v : ℕ) → In v (clocks n.graph) → Unmoved g n v ⊎ In v tree
    each v known = elim (in_dec v tree) [ yes in_v ↦ inr in_v | no out_v ↦ inl (others v known out_v) ]

    module _ (i : ℕ) (s : Station) (at : slice_get w.stations i ≡ Some s) (live : s.live ≡ true) (d : ℕ)
        (here : IsDistance n.graph s.clock d) (near : d < 255) where
      known : In s.clock (clocks n.graph)
      known = In-clocks n.graph (station_system s) (is.back.after.kept.calm.facts.stations i s at live).known

      pub system_follows : Follows n.graph s d here
      system_follows = elim (each s.clock known) [
        | inr in_s ↦ turned_follows i s at live d here near in_s
        | inl u_s ↦ still_follows says g n t.well t.left w is.back.after.kept is.back.after.fits is.back.still
            (IsOf tree) each (λ v c a k in_v u. beyond_tree v c a k in_v (unmoved_out c u))
            (λ v a c place in_v u. holds_none_of v a c place in_v (unmoved_out c u)) i s at live d here near u_s
      ]

      -- it is clear
      pub system_is_clear : IsClear n.graph s
      system_is_clear = system_follows.clear

    -- each near system has
    pub near_have_settled : n.bare ≤ n.off → NearHaveSettled n w
    near_have_settled bare i s at live (d, here, near) =
        has_settled n t.well w is.back.after.kept i s at live d here near bare
        (system_follows i s at live d here near)

    -- and what any holds respects what is left; all are near
    pub system_clear : (i : ℕ) (s : Station) → slice_get w.stations i ≡ Some s → s.live ≡ true → IsClear n.graph s
    system_clear i s at live =
        let (d, here) = distance_exists n.graph s.clock t.well (In-clocks n.graph (station_system s)
        (is.back.after.kept.calm.facts.stations i s at live).known) in
        let within = IsDistance-within n.graph n.reach s.clock d t.paths here in
        let few = t.few in
        system_is_clear i s at live d here (omega (arith, within, few))
