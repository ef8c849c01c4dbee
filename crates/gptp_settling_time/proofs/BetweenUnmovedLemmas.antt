-- Between a snapshot and what is left of it lies another. Who is unmoved on the whole way is so on the way there.
use Rattle.std.proofs.Common.{◌≡◌, ℕ, List, [], ◌∷◌, subst}
use Rattle.gptp_lists.specs.Members.{In}
use Rattle.gptp_graph.specs.Best.{IsBest}
use Rattle.gptp_graph.specs.Distance.{IsDistance}
use Rattle.gptp_graph.specs.Path.{IsPath, Reaches, Route}
use Rattle.gptp_graph.specs.Snapshot.{Adjacent, IsWellFormed, Joins, PortIdentity, Snapshot, System, clocks, port_of}
use Rattle.gptp_graph.proofs.BestLemmas.{IsBest-unique}
use Rattle.gptp_graph.proofs.SystemLemmas.{In-clocks, system_of}
use Rattle.gptp_bmca_machine.specs.LossLaws.{Unmoved}
use Rattle.gptp_bmca_machine.specs.Network.{Network}

-- what is left of a snapshot has no other paths
module _ (g h : Snapshot) (systems : (s : System) → In s g.systems → In s h.systems)
    (links : (p q : PortIdentity) → Joins g p q → Joins h p q) where
  pub known_on : (v : ℕ) → In v (clocks g) → In v (clocks h)
  known_on v known =
      let (s, here, clock) = system_of g v known in
      subst (λ c. In c (clocks h)) clock (In-clocks h s (systems s here))

  adjacent_on : (v u : ℕ) → Adjacent g v u → Adjacent h v u
  adjacent_on v u (m, k, joins) = (m, k, links (port_of v m) (port_of u k) joins)

  route_on : (us : List ℕ) (v w : ℕ) → Route g v w us → Route h v w us
  route_on [] v w same = same
  route_on (u ∷ us) v w (joined, rest) = (adjacent_on v u joined, route_on us u w rest)

  pub path_on : (v w : ℕ) (us : List ℕ) → IsPath g v w us → IsPath h v w us
  path_on v w us path = record {
    begins = known_on v path.begins;
    route = route_on us v w path.route;
    different = path.different;
  }

  pub reaches_on : (v w : ℕ) → Reaches g v w → Reaches h v w
  reaches_on v w (us, path) = (us, path_on v w us path)

module _ (before : Snapshot) (n n' : Network) (well' : IsWellFormed n'.graph)
    (first_systems : (s : System) → In s n.graph.systems → In s before.systems)
    (first_links : (p q : PortIdentity) → Joins n.graph p q → Joins before p q)
    (systems : (s : System) → In s n'.graph.systems → In s n.graph.systems)
    (links : (p q : PortIdentity) → Joins n'.graph p q → Joins n.graph p q) where
  abbrev g : Snapshot
  g = n.graph

  abbrev g' : Snapshot
  g' = n'.graph

  module _ (v : ℕ) (is : Unmoved before n' v) where
    best_between : (b : System) → IsBest before v b → IsBest g v b
    best_between b was =
        let x = is.best b was in
        record {
          live = systems b x.live;
          reached = reaches_on g' g systems links v b.clock x.reached;
          least = λ s member reached.
              was.least s (first_systems s member) (reaches_on g before first_systems first_links v s.clock reached);
        }

    far_between : (d : ℕ) → IsDistance before v d → IsDistance g v d
    far_between d was =
        let x = is.far d was in
        let one : x.best ≡ was.best =
        IsBest-unique g' v x.best was.best well' x.is_best (is.best was.best was.is_best) in
        let (us, path, long) = x.from_best.path in
        record {
          best = was.best;
          is_best = best_between was.best was.is_best;
          from_best = record {
            path = (
              us,
              subst (λ (b : System). IsPath g b.clock v us) one (path_on g' g systems links x.best.clock v us path),
              long,
            );
            least = λ vs longer.
                was.from_best.least vs (path_on g before first_systems first_links was.best.clock v vs longer);
          };
        }

    pub unmoved_between : Unmoved before n v
    unmoved_between =
        record { live = known_on g' g systems links v is.live; best = best_between; far = far_between }
