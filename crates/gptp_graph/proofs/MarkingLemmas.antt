-- In a settled network the writer's rule tells the far systems, their distances and their best.
use Rattle.std.proofs.Common.{◌≡◌, ◌≤◌, ◌<◌, ◌+◌, ℕ, zero, suc, List, [], ◌∷◌, length, refl, sym, ap, subst, inl, inr, arith}
use native.Mathlib.Decide.{ℕ_discrete, dec_lt}
use Rattle.gptp_lists.specs.Members.{In}
use Rattle.gptp_graph.specs.Snapshot.{System, Snapshot, IsWellFormed}
use Rattle.gptp_graph.specs.Path.{Route, Reaches}
use Rattle.gptp_graph.specs.Best.{IsBest}
use Rattle.gptp_graph.specs.Distance.{IsDistance}
use Rattle.gptp_graph.specs.Marking.{Statement, IsStatedBeside, IsFar, IsLowestRoot, LeadsToNear, AreFarSteps}
use Rattle.gptp_graph.specs.MarkingLaws.{StatementsAreBounded}
use Rattle.gptp_graph.proofs.LinkLemmas.{Adjacent-clock, Adjacent-sym}
use Rattle.gptp_graph.proofs.SystemLemmas.{In-clocks}
use Rattle.gptp_graph.proofs.PathLemmas.{Route-end}
use Rattle.gptp_graph.proofs.BestLemmas.{IsBest-reached}
use Rattle.gptp_graph.proofs.DistanceLemmas.{IsDistance-unique, IsDistance-neighbour, IsDistance-best, nearer_neighbour}
use Rattle.gptp_graph.proofs.ExistenceLemmas.{best_exists, distance_exists}

module _ (g : Snapshot) (wf : IsWellFormed g) where
  -- on the way to its best, over m links, each system comes to one m steps nearer
  nearer_by : (m n d v : ℕ) → d ≡ m + n → IsDistance g v d
      → (w : ℕ) × IsDistance g w n × ((us : List ℕ) × Route g v w us × (length us ≡ m))
  nearer_by zero n d v e here =
      let same : d ≡ n = omega arith in (v, subst (IsDistance g v) same here, ([], refl, refl))
  nearer_by (suc m) n d v e here =
      let more : d ≡ suc (m + n) = omega arith in
      let (u, at, there) = nearer_neighbour g v (m + n) wf (subst (IsDistance g v) more here) in
      let (w, is, (us, route, long)) = nearer_by m n (m + n) u refl there in
      (w, is, (u ∷ us, (at, route), ap suc long))

  -- over a route of m links a system is at most m steps farther
  no_farther_by : (us : List ℕ) (v w d e : ℕ) → Route g v w us → IsDistance g v d → IsDistance g w e
      → d ≤ e + length us
  no_farther_by [] v w d e route here there =
      let same = IsDistance-unique g w d e wf (subst (λ u. IsDistance g u d) route here) there in omega arith
  no_farther_by (u ∷ us) v w d e route here there =
      let (f, at) = distance_exists g u wf (Adjacent-clock g v u wf route.0) in
      let first : d ≤ suc f = IsDistance-neighbour g u v f d wf (Adjacent-sym g v u route.0) at here in
      let rest : f ≤ e + length us = no_farther_by us u w f e route.1 at there in
      omega arith

  module _ (all : List Statement) (h : StatementsAreBounded g all) where
    -- each statement is of a system with a best
    has_best : (one : Statement) → In one all → (best : System) × IsBest g one.clock best
    has_best one stated = best_exists g one.clock wf (h.no_other one stated)

    -- what is stated in a component isn't below the identity of its best
    none_below : (one other : Statement) (best : System) → IsBest g one.clock best
        → IsStatedBeside g all one other → best.identity ≤ other.root
    none_below one other best is beside =
        (h.bounded other beside.stated).above best (IsBest-reached g one.clock other.clock best wf beside.reached is)

    -- the best states its own identity
    stated_best : (one : Statement) (best : System) → IsBest g one.clock best
        → (other : Statement) × IsStatedBeside g all one other × (other.root ≡ best.identity)
    stated_best one best is =
        let (other, stated, clock) = h.stated best.clock (In-clocks g best is.live) in
        let own : IsBest g best.clock best = IsBest-reached g one.clock best.clock best wf is.reached is in
        let there : IsBest g other.clock best = subst (λ v. IsBest g v best) (sym clock) own in
        let zero : IsDistance g other.clock 0 =
        subst (λ v. IsDistance g v 0) (sym clock) (IsDistance-best g best own) in (
          other,
          record { stated = stated; reached = subst (Reaches g one.clock) (sym clock) is.reached },
          ((h.bounded other stated).near best 0 there zero (omega arith)).0,
        )

    -- a far system is 255 or more steps away
    pub far_is : (one : Statement) (d : ℕ) → In one all → IsDistance g one.clock d → IsFar g all one → 255 ≤ d
    far_is one d stated here far =
        elim (dec_lt d 255) [ yes below ↦ absurd (refuted below far) | no above ↦ omega arith ]
      where
        refuted : d < 255 → IsFar g all one → ⊥
        refuted below (inl many) =
            let (best, is) = has_best one stated in
            let own = ((h.bounded one stated).near best d is here below).1 in
            omega arith
        refuted below (inr (other, beside, lower)) =
            let (best, is) = has_best one stated in
            let own = ((h.bounded one stated).near best d is here below).0 in
            let above = none_below one other best is beside in
            omega arith

    -- a system 255 or more steps away is far
    pub is_far : (one : Statement) (d : ℕ) → In one all → IsDistance g one.clock d → 255 ≤ d → IsFar g all one
    is_far one d stated here above = elim (ℕ_discrete one.root best.identity) [
      | yes same ↦ inl (let more = (h.bounded one stated).more best d is here same in omega arith)
      | no other ↦ inr (lower other)
    ]
      where
        best : System
        best = (has_best one stated).0

        is : IsBest g one.clock best
        is = (has_best one stated).1

        lower : (one.root ≡ best.identity → ⊥)
            → (other : Statement) × IsStatedBeside g all one other × (other.root < one.root)
        lower differs =
            let (other, beside, root) = stated_best one best is in
            let above = (h.bounded one stated).above best is in
            (other, beside, at_most other.root above differs root)
          where
            at_most : (root : ℕ) → best.identity ≤ one.root → (one.root ≡ best.identity → ⊥)
                → root ≡ best.identity → root < one.root
            at_most root above differs e = elim (dec_lt best.identity one.root) [
              | yes below ↦ omega arith
              | no not_below ↦ absurd (differs (omega arith))
            ]

    -- over d - 254 links stands a system that isn't far
    to_near : (one : Statement) (m : ℕ) → In one all → IsDistance g one.clock (m + 254)
        → (us : List ℕ) × LeadsToNear g all one us × (length us ≡ m)
    to_near one m stated here =
        let (w, there, (us, route, long)) = nearer_by m 254 (m + 254) one.clock refl here in
        let (near, at, clock) = h.stated w (Route-end g one.clock w us wf (h.no_other one stated) route) in
        let is : IsDistance g near.clock 254 = subst (λ v. IsDistance g v 254) (sym clock) there in (
          us,
          record {
            near = near;
            stated = at;
            is_near = λ far. (let above = far_is near 254 at is far in omega arith);
            route = subst (λ v. Route g one.clock v us) (sym clock) route;
          },
          long,
        )

    -- and none sooner
    no_sooner : (one : Statement) (d : ℕ) (us : List ℕ) → In one all → IsDistance g one.clock d
        → LeadsToNear g all one us → d ≤ 254 + length us
    no_sooner one d us stated here leads =
        let near = leads.near in
        let (e, there) = distance_exists g near.clock wf (h.no_other near leads.stated) in
        let farther = no_farther_by us one.clock near.clock d e leads.route here there in
        elim (dec_lt e 255) [
          | yes below ↦ omega arith
          | no above ↦ absurd (leads.is_near (is_far near e leads.stated there (omega arith)))
        ]

    -- the steps of a far system are its distance
    pub far_steps : (one : Statement) (m n : ℕ) → In one all → IsDistance g one.clock (m + 254)
        → AreFarSteps g all one n → n ≡ m + 254
    far_steps one m n stated here (inl (us, leads, is, least)) =
        let (ts, first, long) = to_near one m stated here in
        let above = no_sooner one (m + 254) us stated here leads in
        let below = least ts first in
        omega arith
    far_steps one m n stated here (inr (none, is)) =
        let (ts, first, long) = to_near one m stated here in absurd (none ts first)

    -- and its distance is such steps
    pub are_far_steps : (one : Statement) (m : ℕ) → In one all → IsDistance g one.clock (m + 254)
        → AreFarSteps g all one (m + 254)
    are_far_steps one m stated here =
        let (us, first, long) = to_near one m stated here in
        inl (
          us,
          first,
          omega arith,
          λ ts leads.
              (let above = no_sooner one (m + 254) ts stated here leads in omega arith),
        )

    -- the lowest root is the best's identity
    pub lowest_root : (one : Statement) (best : System) (root : ℕ) → IsBest g one.clock best
        → IsLowestRoot g all one root → root ≡ best.identity
    lowest_root one best root is low =
        let (other, beside, at) = stated_best one best is in
        let below = low.least other beside in
        let (own, own_beside, same) = low.stated in
        let above = none_below one own best is own_beside in
        omega arith

    -- and the best's identity is the lowest root
    pub is_lowest_root : (one : Statement) (best : System) → IsBest g one.clock best
        → IsLowestRoot g all one best.identity
    is_lowest_root one best is = record {
      stated = stated_best one best is;
      least = λ other beside. none_below one other best is beside;
    }
