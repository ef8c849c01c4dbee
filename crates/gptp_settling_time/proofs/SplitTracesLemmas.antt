-- Something is lost, and all beyond it is cut off. What an unmoved system says by a shortest way didn't pass it, so
-- that is sound of what is left.
use Rattle.std.proofs.Common.{◌≡◌, ◌⊎◌, ◌<◌, ◌≤◌, ℕ, suc, List, [], ◌∷◌, length, refl, sym, ap, subst, inl, inr, arith}
use native.Mathlib.Decide.{dec_le, dec_lt}
use Rattle.gptp_lists.specs.Members.{In}
use Rattle.gptp_graph.specs.Best.{IsBest}
use Rattle.gptp_graph.specs.Distance.{IsDistance}
use Rattle.gptp_graph.specs.Path.{Route}
use Rattle.gptp_graph.specs.Snapshot.{Adjacent, IsLinked, IsWellFormed, Joins, Snapshot, System, clocks, port_of}
use Rattle.gptp_graph.proofs.BestLemmas.{IsBest-neighbour, IsBest-unique}
use Rattle.gptp_graph.proofs.DistanceLemmas.{IsDistance-neighbour, IsDistance-unique, distance_from, least_route}
use Rattle.gptp_graph.proofs.ExistenceLemmas.{best_exists, distance_exists}
use Rattle.gptp_graph.proofs.LinkDecisions.{IsLinked-dec}
use Rattle.gptp_graph.proofs.LinkLemmas.{Adjacent-clock, Adjacent-sym, Joins-clock, Joins-sym}
use Rattle.gptp_graph.proofs.PathLemmas.{Route-reverse}
use Rattle.gptp_graph.proofs.SystemLemmas.{same_identity}
use Rattle.gptp_bmca_machine.specs.Clean.{IsWorse, Whole}
use Rattle.gptp_bmca_machine.specs.Frame.{Announce}
use Rattle.gptp_bmca_machine.specs.LossLaws.{IsWhatIsLeft, Unmoved}
use Rattle.gptp_bmca_machine.specs.Network.{Network}
use Rattle.gptp_bmca_machine.proofs.MovedTreeLemmas.{whole_left}
use Rattle.gptp_bmca_machine.proofs.StillLemmas.{adjacent_before, best_was, live_before}
use Rattle.gptp_settling_time.specs.Losses.{IsUnmoved}
use Rattle.gptp_settling_time.specs.TreeLosses.{CutsAllBeyond}

-- it has more steps than the system has, so that nobody that it tells is so near by it
abbrev pub IsTooLong : Snapshot → ℕ → Announce → Type 0
IsTooLong g u a = (far : ℕ) → IsDistance g u far → far < a.steps

-- what the system says is sound, or it has too many steps
abbrev pub SaysSoundOrLong : Snapshot → ℕ → Announce → Type 0
SaysSoundOrLong g u a = (IsWorse g u a ⊎ Whole g u a) ⊎ IsTooLong g u a

-- From the first snapshot to the second the system gets a worse best.
pub record GetsWorse (g g' : Snapshot) (v : ℕ) : Type 0 where
  pub best : System
  pub next : System
  pub was : IsBest g v best
  pub is : IsBest g' v next
  pub worse : best.identity < next.identity

-- each live system is unmoved, or gets a worse best
pub stays_or_worse : (g g' : Snapshot) → CutsAllBeyond g g' → (v : ℕ) → In v (clocks g')
    → IsUnmoved g g' v ⊎ GetsWorse g g' v
stays_or_worse g g' cuts v known = elim (cuts.each v known) [
  | inl stays ↦ inl stays
  | inr (inl (best, t, is, in_v)) ↦ inr (record {
    best = best;
    next = t.next;
    was = is.was_best v in_v;
    is = in_v;
    worse = is.worse;
  })
  | inr (inr (best, t, is, in_v)) ↦ inr (record {
    best = best;
    next = t.next;
    was = is.was_best v in_v;
    is = in_v;
    worse = is.worse;
  })
]

module _ (g : Snapshot) (n : Network) (well' : IsWellFormed n.graph) (left : IsWhatIsLeft g n) where
  -- who gets a worse best isn't unmoved
  pub none_worse : (v : ℕ) → GetsWorse g n.graph v → Unmoved g n v → ⊥
  none_worse v is stays =
      let one = ap (λ (b : System). b.identity)
      (IsBest-unique n.graph v is.best is.next well' (stays.best is.best is.was) is.is) in
      let worse = is.worse in
      omega (arith, one, worse)

  -- so do its neighbours
  pub worse_beside : (v u : ℕ) → Adjacent n.graph v u → GetsWorse g n.graph v → GetsWorse g n.graph u
  worse_beside v u joined is = record {
    best = is.best;
    next = is.next;
    was = IsBest-neighbour g v u is.best left.graph (adjacent_before g n well' left v u joined) is.was;
    is = IsBest-neighbour n.graph v u is.next well' joined is.is;
    worse = is.worse;
  }

  module _ (stood : (s : System) → In s n.graph.systems → In s g.systems) (cuts : CutsAllBeyond g n.graph) where
    -- the next system of a shortest way is one nearer
    nearer_on : (v x d : ℕ) (first : System) (us : List ℕ) → Adjacent g v x → IsBest g x first
        → Route g x first.clock us → suc (length us) ≡ d → IsDistance g v d → IsDistance g x (length us)
    nearer_on v x d first us joined is_best route long here =
        by (distance_exists g x left.graph (Adjacent-clock g v x left.graph joined))
        (Route-reverse g x first.clock us route)
      where
        by : ((e : ℕ) × IsDistance g x e) → ((ts : List ℕ) × Route g first.clock x ts × (length ts ≡ length us))
            → IsDistance g x (length us)
        by (e, there) (ts, back, same) =
            let least = least_route g first.clock x e ts (distance_from g x e first left.graph is_best there) back in
            let most = IsDistance-neighbour g x v e d left.graph (Adjacent-sym g v x joined) there here in
            subst (IsDistance g x) (let is : e ≡ length us = omega (arith, least, most, same, long) in is) there

    -- A shortest way from a live system is left, or the system gets a worse best.
    route_left : (v d : ℕ) (first : System) (us : List ℕ) → In v (clocks n.graph) → IsBest g v first
        → Route g v first.clock us → length us ≡ d → IsDistance g v d
        → Route n.graph v first.clock us ⊎ GetsWorse g n.graph v
    route_left v d first [] known is_best route long here = inl route
    route_left v d first (x ∷ us) known is_best ((i, k, joins), route) long here =
        by (λ lives. route_left x (length us) first us lives best_x route refl there)
        (IsLinked-dec n.graph (port_of v i))
      where
        best_x : IsBest g x first
        best_x = IsBest-neighbour g v x first left.graph (i, k, joins) is_best

        there : IsDistance g x (length us)
        there = nearer_on v x d first us (i, k, joins) best_x route long here

        by : (In x (clocks n.graph) → Route n.graph x first.clock us ⊎ GetsWorse g n.graph x)
            → Dec (IsLinked n.graph (port_of v i)) → Route n.graph v first.clock (x ∷ us) ⊎ GetsWorse g n.graph v
        by rest (yes (to, link)) =
            let same : to ≡ port_of x k =
            left.graph.one_link (port_of v i) to (port_of x k) (left.links (port_of v i) to link) joins in
            let joins_now = subst (Joins n.graph (port_of v i)) same link in
            let joined : Adjacent n.graph v x = (i, k, joins_now) in
            elim (rest (Joins-clock n.graph (port_of x k) (port_of v i) well'
            (Joins-sym n.graph (port_of v i) (port_of x k) joins_now))) [
              | inl route_x ↦ inl (joined, route_x)
              | inr worse ↦ inr (worse_beside x v (Adjacent-sym n.graph v x joined) worse)
            ]
        by rest (no bare) = elim (stays_or_worse g n.graph cuts v known) [
          | inr worse ↦ inr worse
          | inl stays ↦
              absurd (cuts.beyond (port_of x k) (port_of v i) (Joins-sym g (port_of v i) (port_of x k) joins) known bare
              (λ near far x_at v_at.
              let one = IsDistance-unique g x near (length us) left.graph x_at there in
              let two = IsDistance-unique g v far d left.graph v_at here in
              inl (omega (arith, one, two, long))) stays)
        ]

    -- So what an unmoved system says that was sound is so still, or has too many steps.
    pub still_sound : (u : ℕ) (a : Announce) → Unmoved g n u → IsWorse g u a ⊎ Whole g u a → SaysSoundOrLong n.graph u a
    still_sound u a stays (inl worse) =
        inl (inl (λ best is. worse best (best_was g n well' left u best stays is)))
    still_sound u a stays (inr whole) =
        by (best_exists g u left.graph known) (distance_exists g u left.graph known)
      where
        known : In u (clocks g)
        known = live_before g n well' left u stays.live

        by : ((b : System) × IsBest g u b) → ((d : ℕ) × IsDistance g u d) → SaysSoundOrLong n.graph u a
        by (b, is_b) (d, here) = elim (dec_lt b.identity a.root) [
          | yes less ↦ inl (inl (λ best is.
              let one = ap (λ (s : System). s.identity)
              (IsBest-unique g u best b left.graph (best_was g n well' left u best stays is) is_b) in
              omega (arith, less, one)))
          | no not_less ↦ elim (dec_le a.steps d) [
            | no long ↦ inr (λ far there.
                let one = IsDistance-unique n.graph u far d well' there (stays.far d here) in
                omega (arith, long, one))
            | yes short ↦ on (same_identity g whole.first b left.graph whole.known is_b.live (same not_less)) short
          ]
        ]
          where
            same : (b.identity < a.root → ⊥) → whole.first.identity ≡ b.identity
            same not_less =
                let least = is_b.least whole.first whole.known (whole.others, whole.way) in
                let root = whole.root in
                omega (arith, not_less, least, root)

            on : whole.first ≡ b → a.steps ≤ d → SaysSoundOrLong n.graph u a
            on one short = elim (route_left u d whole.first whole.others stays.live best_first whole.way.route exact
                here) [
                  | inr worse ↦ absurd (none_worse u worse stays)
                  | inl route ↦ inl (inr (whole_left g n.graph left.graph well' u a whole
                      (λ s member clock. stood s member) stays.live route))
                ]
              where
                best_first : IsBest g u whole.first
                best_first = subst (IsBest g u) (sym one) is_b

                exact : length whole.others ≡ d
                exact =
                    let (ts, back, long) = Route-reverse g u whole.first.clock whole.others whole.way.route in
                    let least = least_route g whole.first.clock u d ts
                    (distance_from g u d whole.first left.graph best_first here) back in
                    let steps = whole.steps in
                    omega (arith, least, long, steps, short)
