-- In a network at rest only who is farther than a system names it in what it tells: who may be nearer once that system
-- is moved tells nobody.
use Rattle.std.proofs.Common.{◌≡◌, ◌≢◌, ◌⊎◌, ◌<◌, ◌≤◌, ℕ, zero, suc, true, List, [], ◌∷◌, Some, length, slice_get, refl, sym, ap, subst, ◌∙◌, inl, inr, arith}
use native.Mathlib.Decide.{dec_le, dec_lt, ℕ_discrete}
use Rattle.gptp_lists.specs.Members.{In}
use Rattle.gptp_graph.specs.Best.{IsBest}
use Rattle.gptp_graph.specs.Distance.{IsDistance}
use Rattle.gptp_graph.specs.Path.{Route}
use Rattle.gptp_graph.specs.Snapshot.{Adjacent, IsWellFormed, Joins, PortIdentity, Snapshot, System, clocks, port_of}
use Rattle.gptp_graph.proofs.DistanceLemmas.{IsDistance-unique, distance_from, least_route, nearer_neighbour}
use Rattle.gptp_graph.proofs.ExistenceLemmas.{distance_exists}
use Rattle.gptp_graph.proofs.LinkLemmas.{Adjacent-sym, Joins-clock, Joins-sym}
use Rattle.gptp_graph.proofs.PathLemmas.{Route-reverse}
use Rattle.gptp_graph.proofs.SystemLemmas.{same_identity}
use Rattle.gptp_bmca_machine.specs.Calm.{Calm}
use Rattle.gptp_bmca_machine.specs.Clean.{CameSound, IsWorse, Whole}
use Rattle.gptp_bmca_machine.specs.Frame.{Announce, AnnounceFrame, Lane, Spelling}
use Rattle.gptp_bmca_machine.specs.Levels.{Invariant, LeadsFarther}
use Rattle.gptp_bmca_machine.specs.LinkStage.{FinalAnnounceStays}
use Rattle.gptp_bmca_machine.specs.Network.{IsSettlingNetwork, Network, settled_from, wiring}
use Rattle.gptp_bmca_machine.specs.SoundEverywhere.{IsSoundSent}
use Rattle.gptp_bmca_machine.specs.SoundLaws.{AllAreNear}
use Rattle.gptp_bmca_machine.specs.Station.{HoldsAt, MachineState, Port, Reception, Station}
use Rattle.gptp_bmca_machine.proofs.EndsLemmas.{station_of}
use Rattle.gptp_bmca_machine.proofs.LevelLemmas.{places_of, port_there}
use Rattle.gptp_bmca_machine.proofs.NearestLemmas.{on_way}
use Rattle.gptp_bmca_machine.proofs.PlaceLemmas.{received_injective, same_there}
use Rattle.gptp_bmca_machine.proofs.RestingLemmas.{links_stay}
use Rattle.gptp_settling_time.specs.Losses.{IsFarEnd}
use Rattle.gptp_settling_time.proofs.TurnLemmas.{ComesLate, NamesLate, TurnsOne, beside}
use Rattle.gptp_settling_time.proofs.UnlinkedLemmas.{far_holds_none}

-- ---- a whole path

-- the part of a route behind one of its systems
route_behind : (g : Snapshot) (end x z : ℕ) (zs : List ℕ) → Route g z end zs → In x zs
    → (ys : List ℕ) × Route g x end ys × (length ys < length zs)
route_behind g end x z [] r among = absurd among
route_behind g end x z (y ∷ ys) r (inl same) =
    (ys, subst (λ v. Route g v end ys) (sym same) r.1, omega arith)
route_behind g end x z (y ∷ ys) r (inr among) =
    let (ts, route, less) = route_behind g end x y ys r.1 among in (ts, route, omega (arith, less))

module _ (g : Snapshot) (well : IsWellFormed g) (x d : ℕ) (best : System) (here : IsDistance g x d)
    (is_best : IsBest g x best) where
  -- no route to the best is shorter than the distance
  no_shorter : (ys : List ℕ) → Route g x best.clock ys → d ≤ length ys
  no_shorter ys route =
      let (back, on, as_long) = Route-reverse g x best.clock ys route in
      let least = least_route g best.clock x d back (distance_from g x d best well is_best here) on in
      omega (arith, least, as_long)

  -- a whole Announce of another that names the system has more steps, and only a neighbour has one more
  pub whole_names : (u : ℕ) (a : Announce) → Whole g u a → a.root ≡ best.identity → IsBest g u best → In x a.path
      → u ≢ x → (suc d ≤ a.steps) × (a.steps ≡ suc d → Adjacent g x u)
  whole_names u a whole root of names apart =
      by whole.others (subst (λ (s : System). Route g u s.clock whole.others) first whole.way.route) whole.steps
      (elim (on_way g well u a whole best of x names) [
        | inl same ↦ absurd (apart (sym same))
        | inr among ↦ among
      ])
    where
      first : whole.first ≡ best
      first = same_identity g whole.first best well whole.known is_best.live (sym whole.root ∙ root)

      by : (others : List ℕ) → Route g u best.clock others → length others ≡ a.steps → In x others
          → (suc d ≤ a.steps) × (a.steps ≡ suc d → Adjacent g x u)
      by [] route steps among = absurd among
      by (y ∷ ys) route steps (inl same) =
          let few = no_shorter ys (subst (λ v. Route g v best.clock ys) (sym same) route.1) in (
            omega (arith, few, steps),
            (λ one. Adjacent-sym g u x (subst (Adjacent g u) (sym same) route.0)),
          )
      by (y ∷ ys) route steps (inr among) =
          let (ts, behind, less) = route_behind g best.clock x y ys route.1 among in
          let few = no_shorter ts behind in (
            omega (arith, few, less, steps),
            (λ one. absurd (omega (arith, few, less, steps, one))),
          )

-- ---- at rest

-- What is received came from who is nearer than this, or as near with the lower clock, and is what that told at last.
pub record HeldDown (g : Snapshot) (c place : ℕ) (r : Reception) (near : ℕ) : Type 0 where
  pub from : PortIdentity
  pub joins : Joins g from (port_of c (suc place))
  pub source : r.said.source ≡ from
  pub sound : IsWorse g from.clock r.said ⊎ Whole g from.clock r.said
  pub far : ℕ
  pub from_far : IsDistance g from.clock far
  pub down : (far < near) ⊎ ((far ≡ near) × (from.clock < c))
  pub root : r.said.root ≡ from_far.best.identity
  pub steps : r.said.steps ≡ far

module _ (says : Spelling) (n0 n : Network) (x d e : ℕ) (best : System) (t : TurnsOne n0.graph n x d e best)
    (net0 : IsSettlingNetwork n0) (w : MachineState) (calm0 : Calm n0 w) (invariant0 : Invariant says n0 w)
    (late0 : settled_from n0 ≤ w.time) (near0 : AllAreNear n0.graph) where
  abbrev g : Snapshot
  g = n0.graph

  -- a link that leads farther, as it stands
  pub record LinkAtRest (f : ℕ) (c : System) (v p u q : ℕ) : Type 0 where
    s : Station
    at : slice_get w.stations (n0.place u) ≡ Some s
    port : Port
    there : slice_get s.ports q ≡ Some port
    announce : ℕ
    lane : Lane
    lane_at : slice_get w.lanes (n0.lane (port_of v (suc p))) ≡ Some lane
    stays : FinalAnnounceStays says (wiring n0 f c v p u q) announce port.held lane.frames

  pub at_rest : (f : ℕ) (c : System) (v p u q : ℕ) → f < 255 → LeadsFarther g f c v p u q → LinkAtRest f c v p u q
  at_rest f c v p u q close leads =
      let known_v = Joins-clock g (port_of v (suc p)) (port_of u (suc q)) net0.graph leads.joins in
      let back = Joins-sym g (port_of v (suc p)) (port_of u (suc q)) leads.joins in
      let known_u = Joins-clock g (port_of u (suc q)) (port_of v (suc p)) net0.graph back in
      let (sv, at_v, live_v, clock_v) = station_of n0 net0 w calm0 invariant0.sound v known_v in
      let (su, at_u, live_u, clock_u) = station_of n0 net0 w calm0 invariant0.sound u known_u in
      let (pv, there_v) = port_there says n0 net0 w calm0 invariant0.sound v p (port_of u (suc q)) sv at_v leads.joins
      in
      let (pu, there_u) = port_there says n0 net0 w calm0 invariant0.sound u q (port_of v (suc p)) su at_u back in
      let has = calm0.lanes (port_of v (suc p)) (port_of u (suc q)) leads.joins in
      record {
        s = su;
        at = at_u;
        port = pu;
        there = there_u;
        announce = pv.announce;
        lane = has.lane;
        lane_at = has.there;
        stays = links_stay says n0 net0 w calm0 invariant0 late0 f c v p u q close leads pv pu has.lane (record {
          v = sv;
          u = su;
          teller = at_v;
          teller_port = there_v;
          hearer = at_u;
          hearer_port = there_u;
          lane = has.there;
        });
      }

  abbrev Upward : PortIdentity → PortIdentity → ℕ → ℕ → Type 0
  Upward from to near far = (near < far) ⊎ ((near ≡ far) × (to.clock < from.clock))

  abbrev Downward : PortIdentity → PortIdentity → ℕ → ℕ → Type 0
  Downward from to near far = (far < near) ⊎ ((far ≡ near) × (from.clock < to.clock))

  either : (from to : PortIdentity) (near far : ℕ) → from.clock ≢ to.clock
      → Upward from to near far ⊎ Downward from to near far
  either from to near far apart = elim (dec_lt near far) [
    | yes less ↦ inl (inl less)
    | no not ↦ elim (dec_lt far near) [
      | yes more ↦ inr (inl more)
      | no none ↦ elim (dec_lt to.clock from.clock) [
        | yes lower ↦ inl (inr (omega (arith, not, none), lower))
        | no over ↦ inr (inr (omega (arith, not, none), omega (arith, over, apart)))
      ]
    ]
  ]

  -- it isn't farther by more than two
  most : e ≤ suc (suc d)
  most = by e refl
    where
      by : (far : ℕ) → e ≡ far → e ≤ suc (suc d)
      by zero is = omega (arith, is)
      by (suc f) is =
          let (y, joined, there) = nearer_neighbour n.graph x f t.well (subst (IsDistance n.graph x) is t.is) in
          let b = beside says g n x d e best t y joined in
          let least = b.least in
          let close = b.most in
          omega (arith, least, close)

  -- what comes over a link, where it comes from who is nearer with as many steps as that is far
  comes : (from to : PortIdentity) (a : Announce) → Joins g from to → a.source ≡ from
      → IsWorse g from.clock a ⊎ Whole g from.clock a
      → ((near far : ℕ) → IsDistance g to.clock near → IsDistance g from.clock far → Downward from to near far
      → a.steps ≡ far) → ComesLate g x e best from to a
  comes from to a joins source sound downward =
      by (distance_exists g to.clock net0.graph known_to) (distance_exists g from.clock net0.graph known_from)
    where
      known_from : In from.clock (clocks g)
      known_from = Joins-clock g from to net0.graph joins

      known_to : In to.clock (clocks g)
      known_to = Joins-clock g to from net0.graph (Joins-sym g from to joins)

      by : ((near : ℕ) × IsDistance g to.clock near) → ((far : ℕ) × IsDistance g from.clock far)
          → ComesLate g x e best from to a
      by (near, to_near) (far, from_far) = elim (either from to near far (net0.graph.apart from to joins)) [
        | inl up ↦ inr (λ near' far' is_near is_far.
            subst (λ k. Upward from to k far') (IsDistance-unique g to.clock near near' net0.graph to_near is_near)
            (subst (Upward from to near) (IsDistance-unique g from.clock far far' net0.graph from_far is_far) up))
        | inr down ↦ inl (late down)
      ]
        where
          late : Downward from to near far → NamesLate g x e best a
          late down root is names =
              names_by (ℕ_discrete from.clock x) sound
            where
              best_u : IsBest g from.clock best
              best_u = subst (λ (k : PortIdentity). IsBest g k.clock best) source is

              clock_is : a.source.clock ≡ from.clock
              clock_is = ap (λ (k : PortIdentity). k.clock) source

              far_end : IsFarEnd g from.clock → ⊥
              far_end far_is =
                  elim (far_is to.clock far near (from.port, to.port, joins) from_far to_near) [
                    | inl less ↦ elim down [
                      | inl more ↦ omega (arith, less, more)
                      | inr (equal, lower) ↦ omega (arith, less, equal)
                    ]
                    | inr (equal, below) ↦ elim down [
                      | inl more ↦ omega (arith, equal, more)
                      | inr (also, lower) ↦ omega (arith, below, lower)
                    ]
                  ]

              names_by : Dec (from.clock ≡ x) → IsWorse g from.clock a ⊎ Whole g from.clock a
                  → (a.source.clock ≡ x) ⊎ (e ≤ a.steps)
              names_by (yes same) sound = inl (clock_is ∙ same)
              names_by (no apart) (inl worse) =
                  absurd (let above = worse best best_u in omega (arith, above, root))
              names_by (no apart) (inr whole) =
                  let (many, only) = whole_names g net0.graph x d best t.was t.was_best from.clock a whole root best_u
                  names apart in
                  elim (dec_le e a.steps) [
                    | yes enough ↦ inr enough
                    | no few ↦
                        let most_is = most in
                        let one : a.steps ≡ suc d = omega (arith, few, many, most_is) in
                        let joined = only one in
                        let steps = downward near far to_near from_far down in
                        elim (t.lost from.clock far joined from_far) [
                          | inr nearer ↦ absurd (omega (arith, nearer, one, steps))
                          | inl still ↦ elim t.tells [
                            | inl next ↦ absurd (omega (arith, next, few, many))
                            | inr fars ↦ absurd (far_end (fars from.clock still))
                          ]
                        ]
                  ]

  -- how far each system is
  pub close_to : (v far : ℕ) → IsDistance g v far → far < 255
  close_to v far is =
      let (f, there, less) = near0 v (is.is_best.reached.1.begins) in
      let same = IsDistance-unique g v far f net0.graph is there in
      omega (arith, same, less)

  -- over such a link its sender is nearer, or as near with the lower clock
  leads_down : (u p v q near far : ℕ) → IsDistance g v near → (from_far : IsDistance g u far)
      → Joins g (port_of u (suc p)) (port_of v (suc q))
      → Downward (port_of u (suc p)) (port_of v (suc q)) near far
      → LeadsFarther g far from_far.best u p v q
  leads_down u p v q near far to_near from_far joins down = record {
    is_best = from_far.is_best;
    here = from_far;
    joins = joins;
    far = near;
    there = to_near;
    farther = down;
  }

  -- what is in flight over a link
  pub flight_late : (l : Lane) (f : AnnounceFrame) (a : Announce) (j : ℕ) → slice_get w.lanes j ≡ Some l → In f l.frames
      → says f.octets a → Joins g l.from l.to → IsSoundSent g l.from a → ComesLate g x e best l.from l.to a
  flight_late l f a j at among said joins sent =
      comes l.from l.to a joins sent.source sent.sound (λ near far to_near from_far down.
      by near far to_near from_far down
      (places_of g l.from.clock l.from.port l.to.clock l.to.port net0.graph joins))
    where
      by : (near far : ℕ) → IsDistance g l.to.clock near → IsDistance g l.from.clock far
          → Downward l.from l.to near far
          → ((p : ℕ) × (q : ℕ) × (l.from.port ≡ suc p) × (l.to.port ≡ suc q)) → a.steps ≡ far
      by near far to_near from_far down (p, q, is_p, is_q) =
          let from_is : l.from ≡ port_of l.from.clock (suc p) = λ i. port_of l.from.clock (is_p i) in
          let to_is : l.to ≡ port_of l.to.clock (suc q) = λ i. port_of l.to.clock (is_q i) in
          let over : Joins g (port_of l.from.clock (suc p)) (port_of l.to.clock (suc q)) =
          subst (λ k. Joins g k (port_of l.to.clock (suc q))) from_is (subst (Joins g l.from) to_is joins) in
          let best_u = from_far.best in
          let leads = leads_down l.from.clock p l.to.clock q near far to_near from_far over down in
          let link = at_rest far best_u l.from.clock p l.to.clock q (close_to l.from.clock far from_far) leads in
          let has = calm0.lanes (port_of l.from.clock (suc p)) (port_of l.to.clock (suc q)) over in
          let one_place = calm0.apart j (n0.lane (port_of l.from.clock (suc p))) l has.lane at has.there
          (to_is ∙ sym has.to) in
          let one : l ≡ link.lane =
          same_there w.lanes (n0.lane (port_of l.from.clock (suc p))) l link.lane
          (subst (λ i. slice_get w.lanes i ≡ Some l) one_place at) link.lane_at in
          (link.stays.flight f a (subst (λ (k : Lane). In f k.frames) one among) said).steps

  -- ---- what is held

  pub held_down : (i : ℕ) (s : Station) (place : ℕ) (r : Reception) (near : ℕ) → slice_get w.stations i ≡ Some s
      → s.live ≡ true → HoldsAt s place r → CameSound g s.clock (suc place) r → IsDistance g s.clock near
      → HeldDown g s.clock place r near
  held_down i s place r near at live (q, there, holds) came to_near =
      by (distance_exists g came.from.clock net0.graph (Joins-clock g came.from to net0.graph came.joins))
      (places_of g came.from.clock came.from.port s.clock (suc place) net0.graph came.joins)
    where
      to : PortIdentity
      to = port_of s.clock (suc place)

      at_place : slice_get w.stations (n0.place s.clock) ≡ Some s
      at_place = subst (λ k. slice_get w.stations k ≡ Some s) (calm0.placed i s at) at

      by : ((far : ℕ) × IsDistance g came.from.clock far)
          → ((p : ℕ) × (k : ℕ) × (came.from.port ≡ suc p) × (suc place ≡ suc k)) → HeldDown g s.clock place r near
      by (far, from_far) (p, k, is_p, is_k) =
          elim (either came.from to near far (net0.graph.apart came.from to came.joins)) [
            | inl up ↦ absurd (far_holds_none says n0 net0 w calm0 invariant0 late0 i s place r came.from near far at
                live
                (q, there, holds) (Joins-sym g came.from to came.joins) to_near (close_to s.clock near to_near) from_far
                up)
            | inr down ↦ final down
          ]
        where
          final : Downward came.from to near far → HeldDown g s.clock place r near
          final down =
              let from_is : came.from ≡ port_of came.from.clock (suc p) = λ i. port_of came.from.clock (is_p i) in
              let over : Joins g (port_of came.from.clock (suc p)) to =
              subst (λ z. Joins g z to) from_is came.joins in
              let leads = leads_down came.from.clock p s.clock place near far to_near from_far over down in
              let link = at_rest far from_far.best came.from.clock p s.clock place
              (close_to came.from.clock far from_far) leads in
              let one : link.s ≡ s = same_there w.stations (n0.place s.clock) link.s s link.at at_place in
              let port : link.port ≡ q =
              same_there s.ports place link.port q
              (subst (λ (z : Station). slice_get z.ports place ≡ Some link.port) one link.there) there in
              let same : link.stays.what ≡ r =
              received_injective link.stays.what r
              (sym link.stays.holds ∙ ap (λ (z : Port). z.held) port ∙ holds) in
              record {
                from = came.from;
                joins = came.joins;
                source = came.source;
                sound = came.sound;
                far = far;
                from_far = from_far;
                down = down;
                root = sym (ap (λ (z : Reception). z.said.root) same) ∙ link.stays.final.root;
                steps = sym (ap (λ (z : Reception). z.said.steps) same) ∙ link.stays.final.steps;
              }

  pub held_late : (i : ℕ) (s : Station) (place : ℕ) (r : Reception) → slice_get w.stations i ≡ Some s
      → s.live ≡ true → HoldsAt s place r → CameSound g s.clock (suc place) r → NamesLate g x e best r.said
  held_late i s place r at live holds came =
      by (distance_exists g s.clock net0.graph
      (Joins-clock g to came.from net0.graph (Joins-sym g came.from to came.joins)))
    where
      to : PortIdentity
      to = port_of s.clock (suc place)

      by : ((near : ℕ) × IsDistance g s.clock near) → NamesLate g x e best r.said
      by (near, to_near) =
          let is = held_down i s place r near at live holds came to_near in
          elim (comes is.from to r.said is.joins is.source is.sound (λ near' far' is_near is_far down.
          is.steps ∙ IsDistance-unique g is.from.clock is.far far' net0.graph is.from_far is_far)) [
            | inl late ↦ late
            | inr up ↦ (λ root names_best names. absurd (none is (up near is.far to_near is.from_far)))
          ]
        where
          none : (is : HeldDown g s.clock place r near) → Upward is.from to near is.far → ⊥
          none is (inl less) = elim is.down [
            | inl more ↦ omega (arith, less, more)
            | inr (equal, lower) ↦ omega (arith, less, equal)
          ]
          none is (inr (equal, below)) = elim is.down [
            | inl more ↦ omega (arith, equal, more)
            | inr (also, lower) ↦ omega (arith, below, lower)
          ]
