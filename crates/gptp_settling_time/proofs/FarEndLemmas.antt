-- No shortest path leads through a system that is the far end of each of its links. So what is told over such paths is
-- sound without it.
use Rattle.std.proofs.Common.{◌≡◌, ◌≢◌, ◌⊎◌, ◌≤◌, ℕ, zero, suc, List, [], ◌∷◌, length, refl, sym, subst, ◌∙◌, inl, inr, arith}
use native.Mathlib.Decide.{dec_le, ℕ_discrete}
use Rattle.gptp_lists.specs.Members.{In}
use Rattle.gptp_graph.specs.Best.{IsBest}
use Rattle.gptp_graph.specs.Distance.{IsDistance}
use Rattle.gptp_graph.specs.Path.{Route}
use Rattle.gptp_graph.specs.Snapshot.{Adjacent, IsWellFormed, Joins, PortIdentity, Snapshot, System, clocks, port_of}
use Rattle.gptp_graph.proofs.BestLemmas.{IsBest-neighbour}
use Rattle.gptp_graph.proofs.DistanceLemmas.{IsDistance-neighbour, best_at_zero, distance_from, least_route, nearer_neighbour}
use Rattle.gptp_graph.proofs.ExistenceLemmas.{best_exists, distance_exists}
use Rattle.gptp_graph.proofs.LinkLemmas.{Adjacent-clock, Adjacent-sym}
use Rattle.gptp_graph.proofs.PathLemmas.{Route-reverse}
use Rattle.gptp_graph.proofs.SystemLemmas.{In-clocks, same_clock, same_identity, system_of}
use Rattle.gptp_bmca_machine.specs.Clean.{IsWorse, Whole}
use Rattle.gptp_bmca_machine.specs.Frame.{Announce}
use Rattle.gptp_bmca_machine.proofs.NearestLemmas.{root_not_better}
use Rattle.gptp_settling_time.specs.Losses.{IsCutOff, IsFarEnd, IsUnmoved}
use Rattle.gptp_settling_time.proofs.FitsLemmas.{IsLeftUnmoved, at_zero, best_before}

-- no route to the best is shorter than the distance
route_long : (g : Snapshot) (v e : ℕ) (best : System) (ys : List ℕ) → IsWellFormed g → IsBest g v best
    → IsDistance g v e → Route g v best.clock ys → e ≤ length ys
route_long g v e best ys well is_best here route =
    let (back, on, as_long) = Route-reverse g v best.clock ys route in
    let least = least_route g best.clock v e back (distance_from g v e best well is_best here) on in
    omega (arith, least, as_long)

-- a route ends at one of its systems
route_ends : (g : Snapshot) (v w : ℕ) (ys : List ℕ) → Route g v w ys → In w (v ∷ ys)
route_ends g v w [] route = inl (sym route)
route_ends g v w (y ∷ ys) route = inr (route_ends g y w ys route.1)

module _ (g : Snapshot) (well : IsWellFormed g) (x : ℕ) (far : IsFarEnd g x) (best : System) where
  -- no shortest route to the best leads through the system
  pub far_off : (u d : ℕ) (ys : List ℕ) → IsBest g u best → IsDistance g u d → Route g u best.clock ys → length ys ≤ d
      → In x ys → ⊥
  far_off u d [] is_best here route few among = among
  far_off u d (y ∷ ys) is_best here route few (inl same) =
      by (distance_exists g x well (Adjacent-clock g u x well joined))
    where
      joined : Adjacent g u x
      joined = subst (Adjacent g u) (sym same) route.0

      best_x : IsBest g x best
      best_x = IsBest-neighbour g u x best well joined is_best

      by : ((e : ℕ) × IsDistance g x e) → ⊥
      by (e, there) =
          let long = route_long g x e best ys well best_x there
          (subst (λ v. Route g v best.clock ys) (sym same) route.1) in
          elim (far u e d (Adjacent-sym g u x joined) there here) [
            | inl nearer ↦ omega (arith, long, few, nearer)
            | inr (equal, lower) ↦ omega (arith, long, few, equal)
          ]
  far_off u d (y ∷ ys) is_best here route few (inr among) =
      let (e, there) = distance_exists g y well (Adjacent-clock g u y well route.0) in
      let near = IsDistance-neighbour g y u e d well (Adjacent-sym g u y route.0) there here in
      far_off y e ys (IsBest-neighbour g u y best well route.0 is_best) there route.1 (omega (arith, near, few)) among

-- ---- without it

-- of two snapshots the second has all of the first but a system and its links
pub record HasAllBut (g g' : Snapshot) (x : ℕ) : Type 0 where
  pub systems : (s : System) → In s g.systems → s.clock ≢ x → In s g'.systems
  pub links : (p q : PortIdentity) → Joins g p q → p.clock ≢ x → q.clock ≢ x → Joins g' p q

module _ (g g' : Snapshot) (x : ℕ) (has : HasAllBut g g' x) where
  route_without : (u end : ℕ) (ys : List ℕ) → Route g u end ys → (In x (u ∷ ys) → ⊥) → Route g' u end ys
  route_without u end [] route none = route
  route_without u end (y ∷ ys) ((m, k, joins), rest) none = (
    (
      m,
      k,
      has.links (record { clock = u; port = m }) (record { clock = y; port = k }) joins (λ same. none (inl (sym same)))
          (λ same. none (inr (inl (sym same)))),
    ),
    route_without y end ys rest (λ among. none (inr among)),
  )

  pub clock_without : (v : ℕ) → In v (clocks g) → v ≢ x → In v (clocks g')
  clock_without v known apart =
      let (s, member, named) = system_of g v known in
      subst (λ c. In c (clocks g')) named
      (In-clocks g' s (has.systems s member (λ same. apart (sym named ∙ same))))

  -- what is wholly clean is so without the system, where its trace doesn't name that
  whole_without : (u : ℕ) (a : Announce) (whole : Whole g u a) → (In x (u ∷ whole.others) → ⊥) → Whole g' u a
  whole_without u a whole none = record {
    others = whole.others;
    first = whole.first;
    is = whole.is;
    way = record {
      begins = clock_without u whole.way.begins (λ same. none (inl (sym same)));
      route = route_without u whole.first.clock whole.others whole.way.route none;
      different = whole.way.different;
    };
    known = has.systems whole.first whole.known (λ same.
        none (subst (λ c. In c (u ∷ whole.others)) same
        (route_ends g u whole.first.clock whole.others whole.way.route)));
    root = whole.root;
    steps = whole.steps;
  }

module _ (g g' : Snapshot) (well : IsWellFormed g) (well' : IsWellFormed g') (left : IsLeftUnmoved g g') (x : ℕ)
    (far : IsFarEnd g x) (has : HasAllBut g g' x) where
  -- What a system says that stays is sound still, where it is sound, and tells the best over no more steps than the
  -- system is far.
  pub sound_without : (u d : ℕ) (a : Announce) → u ≢ x → IsUnmoved g g' u → IsDistance g u d
      → ((best : System) → IsBest g u best → a.root ≡ best.identity → a.steps ≤ d)
      → IsWorse g u a ⊎ Whole g u a → IsWorse g' u a ⊎ Whole g' u a
  sound_without u d a apart unmoved here few (inl worse) =
      inl (λ best of. worse best (best_before g g' well well' left u best unmoved of))
  sound_without u d a apart unmoved here few (inr whole) =
      by (best_exists g u well whole.way.begins)
    where
      by : ((best : System) × IsBest g u best) → IsWorse g' u a ⊎ Whole g' u a
      by (best, is_best) =
          let least = root_not_better g well u a whole best is_best in
          elim (dec_le a.root best.identity) [
            | yes most ↦ inr (named (omega (arith, least, most)))
            | no more ↦
                inl (λ other of.
                let was = best_before g g' well well' left u other unmoved of in
                let same = root_not_better g well u a whole other was in
                let first_is : best.identity ≤ other.identity = is_best.least other was.live was.reached in
                let other_is : other.identity ≤ best.identity = was.least best is_best.live is_best.reached in
                omega (arith, more, first_is, other_is))
          ]
        where
          named : a.root ≡ best.identity → Whole g' u a
          named root =
              whole_without g g' x has u a whole none
            where
              first : whole.first ≡ best
              first = same_identity g whole.first best well whole.known is_best.live (sym whole.root ∙ root)

              none : In x (u ∷ whole.others) → ⊥
              none (inl same) = apart (sym same)
              none (inr among) =
                  let steps = whole.steps in
                  let less = few best is_best root in
                  far_off g well x far best u d whole.others is_best here
                  (subst (λ (s : System). Route g u s.clock whole.others) first whole.way.route)
                  (omega (arith, steps, less)) among

-- ---- who is cut off without it

-- It had no system nearer, so it was its own best, and is unmoved.
module _ (g g' : Snapshot) (well : IsWellFormed g) (well' : IsWellFormed g') (x : ℕ) (far : IsFarEnd g x)
    (has : HasAllBut g g' x) (systems : (s : System) → In s g'.systems → In s g.systems) (v : ℕ) (apart : v ≢ x)
    (known : In v (clocks g')) (cut : IsCutOff g' v) where
  lived_before : In v (clocks g)
  lived_before =
      let (s, member, named) = system_of g' v known in
      subst (λ c. In c (clocks g)) named (In-clocks g s (systems s member))

  none_nearer : (e : ℕ) → IsDistance g v (suc e) → ⊥
  none_nearer e here =
      let (y, joined, there) = nearer_neighbour g v e well here in
      elim (ℕ_discrete y x) [
        | yes same ↦
            elim (far v e (suc e)
            (subst (λ c. Adjacent g c v) same (Adjacent-sym g v y joined))
            (subst (λ c. IsDistance g c e) same there) here) [
              | inl less ↦ omega (arith, less)
              | inr (equal, lower) ↦ omega (arith, equal)
            ]
        | no other ↦
            let (m, k, joins) = joined in
            cut y (m, k, has.links (port_of v m) (port_of y k) joins apart other)
      ]

  its_best : (d : ℕ) → IsDistance g v d → d ≡ 0
  its_best zero here = refl
  its_best (suc e) here = absurd (none_nearer e here)

  pub cut_unmoved : IsUnmoved g g' v
  cut_unmoved =
      let (e, here') = distance_exists g' v well' known in
      let none' = at_zero g' v e well' cut here' in
      let zero' : IsDistance g' v 0 = subst (IsDistance g' v) none' here' in
      record {
        best = λ b is_best.
            let (d, here) = distance_exists g v well lived_before in
            let zero_before : IsDistance g v 0 = subst (IsDistance g v) (its_best d here) here in
            let clock = best_at_zero g v b well is_best zero_before in
            let clock' = best_at_zero g' v zero'.best well' zero'.is_best zero' in
            let one = same_clock g zero'.best b well (systems zero'.best zero'.is_best.live) is_best.live
            (clock' ∙ sym clock) in
            subst (IsBest g' v) one zero'.is_best;
        far = λ d here. subst (IsDistance g' v) (sym (its_best d here)) zero';
      }
