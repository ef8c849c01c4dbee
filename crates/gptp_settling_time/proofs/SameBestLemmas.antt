-- Two snapshots of the same clocks and links, in which each system has the same best: what is sound in the one is so in
-- the other, and distances are the same.
use Rattle.std.proofs.Common.{◌≡◌, ◌⊎◌, ◌<◌, ℕ, suc, List, [], ◌∷◌, subst, inl, inr, arith}
use native.Mathlib.Decide.{dec_le}
use Rattle.gptp_lists.specs.Members.{In}
use Rattle.gptp_graph.specs.Best.{IsBest}
use Rattle.gptp_graph.specs.Distance.{IsDistance}
use Rattle.gptp_graph.specs.Path.{IsPath, Route}
use Rattle.gptp_graph.specs.Snapshot.{IsWellFormed, Joins, PortIdentity, Snapshot, System, clocks, port_of}
use Rattle.gptp_graph.proofs.BestLemmas.{IsBest-unique}
use Rattle.gptp_graph.proofs.DistanceLemmas.{IsDistance-unique}
use Rattle.gptp_graph.proofs.ExistenceLemmas.{best_exists, distance_exists}
use Rattle.gptp_graph.proofs.LinkLemmas.{Joins-clock, Joins-sym}
use Rattle.gptp_graph.proofs.SystemLemmas.{In-clocks, same_identity}
use Rattle.gptp_bmca_machine.specs.Clean.{IsWorse, Whole}
use Rattle.gptp_bmca_machine.specs.Frame.{Announce, Spelling}
use Rattle.gptp_bmca_machine.specs.Levels.{LeadsFarther}
use Rattle.gptp_bmca_machine.specs.SoundEverywhere.{IsSoundEverywhere}
use Rattle.gptp_bmca_machine.specs.Station.{MachineState}

pub record HaveSameBests (g g' : Snapshot) : Type 0 where
  pub clocks : (v : ℕ) → In v (clocks g) → In v (clocks g')
  pub links : (p q : PortIdentity) → Joins g p q → Joins g' p q
  pub links_back : (p q : PortIdentity) → Joins g' p q → Joins g p q
  pub best : (v : ℕ) (b : System) → IsBest g v b → IsBest g' v b

-- ---- paths

-- a route over links that another snapshot has is one there
pub route_over : (g g' : Snapshot) → ((p q : PortIdentity) → Joins g p q → Joins g' p q) → (v u : ℕ) (us : List ℕ)
    → Route g v u us → Route g' v u us
route_over g g' links v u [] here = here
route_over g g' links v u (x ∷ xs) ((m, k, joins), rest) =
    ((m, k, links (port_of v m) (port_of x k) joins), route_over g g' links x u xs rest)

module _ (g g' : Snapshot) (well : IsWellFormed g) (well' : IsWellFormed g') (same : HaveSameBests g g') where
  path_over : (v u : ℕ) (us : List ℕ) → IsPath g v u us → IsPath g' v u us
  path_over v u us path = record {
    begins = same.clocks v path.begins;
    route = route_over g g' same.links v u us path.route;
    different = path.different;
  }

  path_back : (v u : ℕ) (us : List ℕ) → In v (clocks g) → IsPath g' v u us → IsPath g v u us
  path_back v u us known path = record {
    begins = known;
    route = route_over g' g same.links_back v u us path.route;
    different = path.different;
  }

  -- ---- distances

  pub distance_over : (v d : ℕ) → IsDistance g v d → IsDistance g' v d
  distance_over v d x =
      let b = x.best in
      let (us, way, long) = x.from_best.path in
      record {
        best = b;
        is_best = same.best v b x.is_best;
        from_best = record {
          path = (us, path_over b.clock v us way, long);
          least = λ vs other. x.from_best.least vs (path_back b.clock v vs (In-clocks g b x.is_best.live) other);
        };
      }

  distance_back : (v d : ℕ) → In v (clocks g) → IsDistance g' v d → IsDistance g v d
  distance_back v d known there =
      let (e, here) = distance_exists g v well known in
      subst (IsDistance g v) (IsDistance-unique g' v e d well' (distance_over v e here) there) here

  best_back : (v : ℕ) (b : System) → In v (clocks g) → IsBest g' v b → IsBest g v b
  best_back v b known is =
      let (c, was) = best_exists g v well known in
      subst (IsBest g v) (IsBest-unique g' v c b well' (same.best v c was) is) was

  -- so a link that leads farther did before
  pub leads_back : (d : ℕ) (best : System) (v p u q : ℕ) → LeadsFarther g' d best v p u q
      → LeadsFarther g d best v p u q
  leads_back d best v p u q leads =
      let joins = same.links_back (port_of v (suc p)) (port_of u (suc q)) leads.joins in
      let known = Joins-clock g (port_of v (suc p)) (port_of u (suc q)) well joins in
      record {
        is_best = best_back v best known leads.is_best;
        here = distance_back v d known leads.here;
        joins = joins;
        far = leads.far;
        there = distance_back u leads.far (far_known joins) leads.there;
        farther = leads.farther;
      }
    where
      far_known : Joins g (port_of v (suc p)) (port_of u (suc q)) → In u (clocks g)
      far_known joins =
          Joins-clock g (port_of u (suc q)) (port_of v (suc p)) well
          (Joins-sym g (port_of v (suc p)) (port_of u (suc q)) joins)

  -- ---- what is sound

  worse_over : (u : ℕ) (a : Announce) → In u (clocks g) → IsWorse g u a → IsWorse g' u a
  worse_over u a known worse best of =
      let (b, was) = best_exists g u well known in
      subst (λ (x : System). x.identity < a.root) (IsBest-unique g' u b best well' (same.best u b was) of) (worse b was)

  whole_over : (u : ℕ) (a : Announce) → Whole g u a → IsWorse g' u a ⊎ Whole g' u a
  whole_over u a whole =
      let (b, was) = best_exists g u well whole.way.begins in
      let least = was.least whole.first whole.known (whole.others, whole.way) in
      let root = whole.root in
      elim (dec_le whole.first.identity b.identity) [
        | yes same_or_less ↦
            let one : b ≡ whole.first =
            same_identity g b whole.first well was.live whole.known (omega (arith, least, same_or_less)) in
            inr (record {
              others = whole.others;
              first = whole.first;
              is = whole.is;
              way = path_over u whole.first.clock whole.others whole.way;
              known = subst (λ (s : System). In s g'.systems) one (same.best u b was).live;
              root = whole.root;
              steps = whole.steps;
            })
        | no above ↦ inl (λ best of.
            subst (λ (x : System). x.identity < a.root) (IsBest-unique g' u b best well' (same.best u b was) of)
            (omega (arith, least, above, root)))
      ]

  sound_one : (u : ℕ) (a : Announce) → In u (clocks g) → IsWorse g u a ⊎ Whole g u a → IsWorse g' u a ⊎ Whole g' u a
  sound_one u a known (inl worse) = inl (worse_over u a known worse)
  sound_one u a known (inr whole) = whole_over u a whole

  pub sound_over : (says : Spelling) (w : MachineState) → IsSoundEverywhere says g w → IsSoundEverywhere says g' w
  sound_over says w all = record {
    lanes = λ j l at f a member said.
        let is = all.lanes j l at f a member said in
        record {
          sender = same.clocks l.from.clock is.sender;
          source = is.source;
          sound = sound_one l.from.clock a is.sender is.sound;
        };
    stations = λ i s at live place r holds.
        let came = all.stations i s at live place r holds in
        record {
          from = came.from;
          joins = same.links came.from (port_of s.clock (suc place)) came.joins;
          source = came.source;
          sound = sound_one came.from.clock r.said
              (Joins-clock g came.from (port_of s.clock (suc place)) well came.joins) came.sound;
        };
  }
