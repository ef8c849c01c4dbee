-- Where each link that leads farther from the best is at rest, who is nearer to it tells its settled root and steps: so
-- does what a system received, and what is in flight to who is farther, or as far with the higher clock.
use Rattle.std.proofs.Common.{◌≡◌, ◌≢◌, ◌⊎◌, ◌<◌, ◌≤◌, ◌+◌, ℕ, suc, true, Some, slice_get, refl, sym, ap, subst, ◌∙◌, inl, inr, arith}
use native.Mathlib.Decide.{dec_lt}
use Rattle.gptp_lists.specs.Members.{In}
use Rattle.gptp_graph.specs.Distance.{IsDistance}
use Rattle.gptp_graph.specs.PathBound.{BoundsPaths}
use Rattle.gptp_graph.specs.Snapshot.{IsWellFormed, Joins, PortIdentity, Snapshot, System, port_of}
use Rattle.gptp_graph.proofs.DistanceLemmas.{IsDistance-unique}
use Rattle.gptp_graph.proofs.ExistenceLemmas.{distance_exists}
use Rattle.gptp_graph.proofs.LinkLemmas.{Joins-clock, Joins-sym}
use Rattle.gptp_graph.proofs.PathBoundLemmas.{IsDistance-within}
use Rattle.gptp_bmca_machine.specs.Calm.{Calm}
use Rattle.gptp_bmca_machine.specs.Frame.{Announce, AnnounceFrame, Lane, Spelling}
use Rattle.gptp_bmca_machine.specs.Levels.{LeadsFarther}
use Rattle.gptp_bmca_machine.specs.Link.{HearsSettled, IsLaneOf, Stand, StandsAt}
use Rattle.gptp_bmca_machine.specs.LinkStage.{FinalAnnounceStays, Wiring, to_port}
use Rattle.gptp_bmca_machine.specs.Network.{IsSettlingNetwork, Network, wiring}
use Rattle.gptp_bmca_machine.specs.SoundLaws.{AllAreNear}
use Rattle.gptp_bmca_machine.specs.Station.{HoldsAt, MachineState, Mine, Port, Reception, Station}
use Rattle.gptp_bmca_machine.proofs.EndsLemmas.{AllChoose}
use Rattle.gptp_bmca_machine.proofs.LevelLemmas.{places_of}
use Rattle.gptp_bmca_machine.proofs.NearestLemmas.{equal_within}
use Rattle.gptp_bmca_machine.proofs.PlaceLemmas.{received_injective, same_there}
use Rattle.gptp_settling_time.proofs.UnlinkedLemmas.{IsFarther}

-- it has the root and the steps of a system that is so far
pub record TellsSettled (g : Snapshot) (v far : ℕ) (a : Announce) : Type 0 where
  pub here : IsDistance g v far
  pub root : a.root ≡ here.best.identity
  pub steps : a.steps ≡ far

-- the first port is one of a system that is nearer, or as near with the lower clock
abbrev pub IsNearer : Snapshot → PortIdentity → PortIdentity → Type 0
IsNearer g from to = (near far : ℕ) → IsDistance g from.clock near → IsDistance g to.clock far
    → (near < far) ⊎ ((near ≡ far) × (from.clock < to.clock))

module _ (g : Snapshot) (well : IsWellFormed g) where
  -- of the two ends of a link one is nearer and the other is farther
  pub either : (from to : PortIdentity) → Joins g from to → IsFarther g from to ⊎ IsNearer g from to
  either from to joins =
      by (distance_exists g from.clock well (Joins-clock g from to well joins))
      (distance_exists g to.clock well (Joins-clock g to from well (Joins-sym g from to joins)))
    where
      apart : from.clock ≢ to.clock
      apart = well.apart from to joins

      by : ((a : ℕ) × IsDistance g from.clock a) → ((b : ℕ) × IsDistance g to.clock b)
          → IsFarther g from to ⊎ IsNearer g from to
      by (a, is_a) (b, is_b) = elim (dec_lt b a) [
        | yes less ↦ inl (λ far near is_far is_near. inl (less_so near far is_near is_far less))
        | no not ↦ elim (dec_lt a b) [
          | yes more ↦ inr (λ near far is_near is_far. inl (more_so near far is_near is_far more))
          | no none ↦ elim (dec_lt to.clock from.clock) [
            | yes lower ↦ inl (λ far near is_far is_near. inr (sym (same_so near far is_near is_far not none), lower))
            | no over ↦
                inr (λ near far is_near is_far. inr (
                  same_so far near is_far is_near not none,
                  omega (arith, over, apart),
                ))
          ]
        ]
      ]
        where
          less_so : (near far : ℕ) → IsDistance g to.clock near → IsDistance g from.clock far → b < a → near < far
          less_so near far is_near is_far less =
              let one = IsDistance-unique g to.clock near b well is_near is_b in
              let two = IsDistance-unique g from.clock far a well is_far is_a in
              omega (arith, one, two, less)

          more_so : (near far : ℕ) → IsDistance g from.clock near → IsDistance g to.clock far → a < b → near < far
          more_so near far is_near is_far more =
              let one = IsDistance-unique g from.clock near a well is_near is_a in
              let two = IsDistance-unique g to.clock far b well is_far is_b in
              omega (arith, one, two, more)

          same_so : (near far : ℕ) → IsDistance g to.clock near → IsDistance g from.clock far → (b < a → ⊥)
              → (a < b → ⊥) → far ≡ near
          same_so near far is_near is_far not none =
              let one = IsDistance-unique g to.clock near b well is_near is_b in
              let two = IsDistance-unique g from.clock far a well is_far is_a in
              omega (arith, one, two, not, none)

module _ (n : Network) (net : IsSettlingNetwork n) (near : AllAreNear n.graph) where
  abbrev g : Snapshot
  g = n.graph

  pub close_to : (v far : ℕ) → IsDistance g v far → far < 255
  close_to v far is =
      let (f, there, less) = near v (is.is_best.reached.1.begins) in
      let same = IsDistance-unique g v far f net.graph is there in
      omega (arith, same, less)

  -- the link by its places
  pub leads_by : (from to : PortIdentity) (p q far near_far : ℕ) → Joins g from to → (is_p : from.port ≡ suc p)
      → (is_q : to.port ≡ suc q) → (from_far : IsDistance g from.clock far) → IsDistance g to.clock near_far
      → IsNearer g from to → LeadsFarther g far from_far.best from.clock p to.clock q
  leads_by from to p q far near_far joins is_p is_q from_far to_far nearer = record {
    is_best = from_far.is_best;
    here = from_far;
    joins = subst (λ k. Joins g k (port_of to.clock (suc q))) (λ i. port_of from.clock (is_p i))
        (subst (Joins g from) (λ i. port_of to.clock (is_q i)) joins);
    far = near_far;
    there = to_far;
    farther = nearer far near_far from_far to_far;
  }

-- a system that a link leads farther from is not the last but one of a path
pub few : (n : Network) → IsWellFormed n.graph → BoundsPaths n.graph n.reach → (d : ℕ) (best : System) (v p u q : ℕ)
    → LeadsFarther n.graph d best v p u q → suc (suc d) ≤ n.reach
few n well paths d best v p u q leads = elim leads.farther [
  | inl less ↦
      let within : leads.far < n.reach = IsDistance-within n.graph n.reach u leads.far paths leads.there in
      omega (arith, less, within)
  | inr (same, lower) ↦
      equal_within n.graph n.reach v u d well paths (suc p, suc q, leads.joins)
      (well.apart (port_of v (suc p)) (port_of u (suc q)) leads.joins) leads.here
      (subst (IsDistance n.graph u) (sym same) leads.there)
]

-- ---- links at rest

-- What is known of a link that leads farther: where it stands, that its one end is master and tells in time, and that
-- its other end holds what that tells.
pub record LinkFacts (says : Spelling) (k : Wiring) (w : MachineState) (pv pu : Port) (l : Lane) : Type 0 where
  pub teller_stands : StandsAt w k.teller k.teller_place
  pub hearer_stands : StandsAt w k.hearer k.hearer_place
  pub hearer_lives : (s : Station) → slice_get w.stations k.hearer_place ≡ Some s → s.live ≡ true
  pub lane : (m : Lane) → slice_get w.lanes k.lane ≡ Some m → IsLaneOf k m
  pub only_lane : (j : ℕ) (m : Lane) → slice_get w.lanes j ≡ Some m → m.to ≡ to_port k → j ≡ k.lane
  pub frames : (f : AnnounceFrame) → In f l.frames → (w.time ≤ f.due) × (f.due ≤ w.time + k.most)
  pub mine : pv.held ≡ Mine k.root k.steps
  pub timer : (w.time ≤ pv.announce) × (pv.announce ≤ w.time + k.interval)
  pub hears : HearsSettled k pu
  pub stays : FinalAnnounceStays says k pv.announce pu.held l.frames

-- it as it stands
pub record LinkAtRest (says : Spelling) (k : Wiring) (w : MachineState) : Type 0 where
  pub pv : Port
  pub pu : Port
  pub lane : Lane
  pub stand : Stand k w pv pu lane
  pub facts : LinkFacts says k w pv pu lane

-- Each link that leads farther is at rest. Each system has its settled choice, and holds nothing over its links to
-- those that are farther, or as far with the higher clock.
pub record LinksAreAtRest (says : Spelling) (n : Network) (w : MachineState) : Type 0 where
  pub chooses : (d : ℕ) → d < 255 → AllChoose n w d
  pub links : (d : ℕ) (best : System) (v p u q : ℕ) → d < 255 → LeadsFarther n.graph d best v p u q
      → LinkAtRest says (wiring n d best v p u q) w
  pub farther : (i : ℕ) (s : Station) (place : ℕ) (r : Reception) (from : PortIdentity) (d far : ℕ)
      → slice_get w.stations i ≡ Some s → s.live ≡ true → HoldsAt s place r
      → Joins n.graph (port_of s.clock (suc place)) from → IsDistance n.graph s.clock d → d < 255
      → IsDistance n.graph from.clock far → (d < far) ⊎ ((d ≡ far) × (s.clock < from.clock)) → ⊥

-- what is known of a link, of it as it stands
pub facts_of : (says : Spelling) (k : Wiring) (w : MachineState) → LinkAtRest says k w → (pv pu : Port) (l : Lane)
    → Stand k w pv pu l → LinkFacts says k w pv pu l
facts_of says k w link pv pu l stand =
    let teller = same_there w.stations k.teller_place link.stand.v stand.v link.stand.teller stand.teller in
    let hearer = same_there w.stations k.hearer_place link.stand.u stand.u link.stand.hearer stand.hearer in
    let one : link.pv ≡ pv =
    same_there stand.v.ports k.teller_port link.pv pv
    (subst (λ (z : Station). slice_get z.ports k.teller_port ≡ Some link.pv) teller link.stand.teller_port)
    stand.teller_port in
    let two : link.pu ≡ pu =
    same_there stand.u.ports k.hearer_port link.pu pu
    (subst (λ (z : Station). slice_get z.ports k.hearer_port ≡ Some link.pu) hearer link.stand.hearer_port)
    stand.hearer_port in
    let lane = same_there w.lanes k.lane link.lane l link.stand.lane stand.lane in
    subst (λ z. LinkFacts says k w z pu l) one
    (subst (λ z. LinkFacts says k w link.pv z l) two (subst (LinkFacts says k w link.pv link.pu) lane link.facts))

module _ (says : Spelling) (n : Network) (net : IsSettlingNetwork n) (near : AllAreNear n.graph) (w : MachineState)
    (calm : Calm n w) (rest : LinksAreAtRest says n w) where
  -- ---- what is in flight

  pub flight_settled : (j : ℕ) (l : Lane) (f : AnnounceFrame) (a : Announce) → slice_get w.lanes j ≡ Some l
      → In f l.frames → says f.octets a → Joins n.graph l.from l.to → IsNearer n.graph l.from l.to
      → (far : ℕ) × TellsSettled n.graph l.from.clock far a
  flight_settled j l f a at among said joins nearer =
      by (distance_exists n.graph l.from.clock net.graph (Joins-clock n.graph l.from l.to net.graph joins))
      (distance_exists n.graph l.to.clock net.graph
      (Joins-clock n.graph l.to l.from net.graph (Joins-sym n.graph l.from l.to joins)))
      (places_of n.graph l.from.clock l.from.port l.to.clock l.to.port net.graph joins)
    where
      by : ((far : ℕ) × IsDistance n.graph l.from.clock far) → ((b : ℕ) × IsDistance n.graph l.to.clock b)
          → ((p : ℕ) × (q : ℕ) × (l.from.port ≡ suc p) × (l.to.port ≡ suc q))
          → (far : ℕ) × TellsSettled n.graph l.from.clock far a
      by (far, from_far) (b, to_far) (p, q, is_p, is_q) =
          let to_is : l.to ≡ port_of l.to.clock (suc q) = λ i. port_of l.to.clock (is_q i) in
          let leads = leads_by n net near l.from l.to p q far b joins is_p is_q from_far to_far nearer in
          let link = rest.links far from_far.best l.from.clock p l.to.clock q
          (close_to n net near l.from.clock far from_far) leads in
          let has = calm.lanes (port_of l.from.clock (suc p)) (port_of l.to.clock (suc q)) leads.joins in
          let one_place = calm.apart j (n.lane (port_of l.from.clock (suc p))) l has.lane at has.there
          (to_is ∙ sym has.to) in
          let one : l ≡ link.lane =
          same_there w.lanes (n.lane (port_of l.from.clock (suc p))) l link.lane
          (subst (λ i. slice_get w.lanes i ≡ Some l) one_place at) link.stand.lane in
          let final = link.facts.stays.flight f a (subst (λ (k : Lane). In f k.frames) one among) said in
          (far, record { here = from_far; root = final.root; steps = final.steps })

  -- ---- what is held

  pub held_settled : (i : ℕ) (s : Station) (place : ℕ) (r : Reception) (from : PortIdentity)
      → slice_get w.stations i ≡ Some s → s.live ≡ true → HoldsAt s place r
      → Joins n.graph from (port_of s.clock (suc place))
      → (far : ℕ) × TellsSettled n.graph from.clock far r.said
  held_settled i s place r from at live (q, there, holds) joins =
      by (distance_exists n.graph from.clock net.graph (Joins-clock n.graph from to net.graph joins))
      (distance_exists n.graph s.clock net.graph (Joins-clock n.graph to from net.graph back))
      (places_of n.graph from.clock from.port s.clock (suc place) net.graph joins)
      (either n.graph net.graph from to joins)
    where
      to : PortIdentity
      to = port_of s.clock (suc place)

      back : Joins n.graph to from
      back = Joins-sym n.graph from to joins

      at_place : slice_get w.stations (n.place s.clock) ≡ Some s
      at_place = subst (λ k. slice_get w.stations k ≡ Some s) (calm.placed i s at) at

      by : ((far : ℕ) × IsDistance n.graph from.clock far) → ((b : ℕ) × IsDistance n.graph s.clock b)
          → ((p : ℕ) × (k : ℕ) × (from.port ≡ suc p) × (suc place ≡ suc k))
          → IsFarther n.graph from to ⊎ IsNearer n.graph from to
          → (far : ℕ) × TellsSettled n.graph from.clock far r.said
      by (far, from_far) (b, to_far) (p, k, is_p, is_k) (inl farther) =
          absurd (rest.farther i s place r from b far at live (q, there, holds) back to_far
          (close_to n net near s.clock b to_far) from_far (farther far b from_far to_far))
      by (far, from_far) (b, to_far) (p, k, is_p, is_k) (inr nearer) =
          let leads = leads_by n net near from to p place far b joins is_p refl from_far to_far nearer in
          let link = rest.links far from_far.best from.clock p s.clock place
          (close_to n net near from.clock far from_far) leads in
          let one : link.stand.u ≡ s =
          same_there w.stations (n.place s.clock) link.stand.u s link.stand.hearer at_place in
          let port : link.pu ≡ q =
          same_there s.ports place link.pu q
          (subst (λ (z : Station). slice_get z.ports place ≡ Some link.pu) one link.stand.hearer_port) there in
          let same : link.facts.stays.what ≡ r =
          received_injective link.facts.stays.what r
          (sym link.facts.stays.holds ∙ ap (λ (z : Port). z.held) port ∙ holds) in (
            far,
            record {
              here = from_far;
              root = sym (ap (λ (z : Reception). z.said.root) same) ∙ link.facts.stays.final.root;
              steps = sym (ap (λ (z : Reception). z.said.steps) same) ∙ link.facts.stays.final.steps;
            },
          )
