-- One system fails. Who was joined to it and no farther from the best keeps its best and its distance, since no
-- shortest path to it leads through that system. It tells over the link, and so holds nothing that came over it.
use Rattle.std.proofs.Common.{◌≡◌, ◌≢◌, ◌<◌, ◌≤◌, ℕ, zero, suc, true, List, [], ◌∷◌, Some, slice_get, sym, subst, ◌∙◌, inl, inr, arith}
use Rattle.gptp_lists.specs.Members.{In}
use Rattle.gptp_graph.specs.Best.{IsBest}
use Rattle.gptp_graph.specs.Distance.{IsDistance}
use Rattle.gptp_graph.specs.Path.{IsPath, Reaches, Route}
use Rattle.gptp_graph.specs.Snapshot.{Adjacent, IsLinked, IsWellFormed, Joins, PortIdentity, Snapshot, System, clocks, port_of}
use Rattle.gptp_graph.proofs.BestLemmas.{IsBest-neighbour, IsBest-unique}
use Rattle.gptp_graph.proofs.DistanceLemmas.{IsDistance-best, IsDistance-clock, IsDistance-neighbour, IsDistance-unique, best_at_zero, nearer_neighbour}
use Rattle.gptp_graph.proofs.ExistenceLemmas.{distance_exists}
use Rattle.gptp_graph.proofs.LinkLemmas.{Adjacent-sym, Joins-clock, Joins-sym}
use Rattle.gptp_graph.proofs.PathLemmas.{Reaches-self}
use Rattle.gptp_graph.proofs.SystemLemmas.{In-clocks, same_clock, system_of}
use Rattle.gptp_bmca_machine.specs.CutTree.{LosesSystem}
use Rattle.gptp_bmca_machine.specs.Facts.{station_system}
use Rattle.gptp_bmca_machine.specs.Frame.{Spelling}
use Rattle.gptp_bmca_machine.specs.LossLaws.{IsAfterLoss, IsWhatIsLeft, Unmoved}
use Rattle.gptp_bmca_machine.specs.Network.{Network}
use Rattle.gptp_bmca_machine.specs.Sound.{ReceivedFits}
use Rattle.gptp_bmca_machine.specs.SoundLaws.{AllAreNear}
use Rattle.gptp_bmca_machine.specs.Station.{Disabled, HoldsAt, MachineState, Mine, Received, Reception, Station}
use Rattle.gptp_bmca_machine.proofs.RestLemmas.{is_master}
use Rattle.gptp_bmca_machine.proofs.StillLemmas.{StillSettles, chooses_still, clear_at, live_before}
use Rattle.gptp_settling_time.specs.Losses.{IsUnmoved}
use Rattle.gptp_settling_time.proofs.AgingLemmas.{HeardNearer, HearersHoldNothing}
use Rattle.gptp_settling_time.proofs.AtRestLemmas.{IsNearer, either}
use Rattle.gptp_settling_time.proofs.FitsLemmas.{UnlinkedHoldNothing}
use Rattle.gptp_settling_time.proofs.UnlinkedLemmas.{IsFarther}

-- A live system that lost its link to one that was farther from the best, or as far with the higher clock, is unmoved.
abbrev pub NearEndsStay : Snapshot → Snapshot → Type 0
NearEndsStay g g' = (from to : PortIdentity) → Joins g from to → In to.clock (clocks g') → (IsLinked g' to → ⊥)
    → IsFarther g from to → IsUnmoved g g' to.clock

-- what led to a port that heard a nearer system is nearer, or as near and has the lower clock
pub heard_nearer : (g : Snapshot) → IsWellFormed g → (from to : PortIdentity) → Joins g from to → HeardNearer g to
    → IsNearer g from to
heard_nearer g well from to joins heard = elim (either g well from to joins) [
  | inl farther ↦ absurd (heard from joins farther)
  | inr nearer ↦ nearer
]

-- ---- where one system is lost

module _ (g : Snapshot) (n : Network) (lost : ℕ) (well' : IsWellFormed n.graph) (left : IsWhatIsLeft g n)
    (loses : LosesSystem g n lost) where
  lives_on : (v : ℕ) → In v (clocks g) → v ≢ lost → In v (clocks n.graph)
  lives_on v known apart = elim (loses.others v known) [ inl lives ↦ lives | inr same ↦ absurd (apart same) ]

  -- a route of what is left was one before
  route_before : (v w : ℕ) (us : List ℕ) → Route n.graph v w us → Route g v w us
  route_before v w [] route = route
  route_before v w (u ∷ us) ((m, k, joins), rest) =
      ((m, k, left.links (port_of v m) (port_of u k) joins), route_before u w us rest)

  path_before : (v w : ℕ) (us : List ℕ) → IsPath n.graph v w us → IsPath g v w us
  path_before v w us path = record {
    begins = live_before g n well' left v path.begins;
    route = route_before v w us path.route;
    different = path.different;
  }

  -- so nothing is nearer to the same best than it was
  no_nearer : (v d e : ℕ) → IsDistance g v d → (now : IsDistance n.graph v e) → IsBest g v now.best → d ≤ e
  no_nearer v d e was now is_best =
      let (us, path, long) = now.from_best.path in
      let same : now.best ≡ was.best = IsBest-unique g v now.best was.best left.graph is_best was.is_best in
      let least = was.from_best.least us
      (subst (λ (b : System). IsPath g b.clock v us) same (path_before now.best.clock v us path)) in
      omega (arith, least, long)

  -- a live system that was the best of its component is so still
  best_stays : (v : ℕ) (best : System) → v ≢ lost → IsBest g v best → IsDistance g v 0 → IsBest n.graph v best
  best_stays v best apart is_best here =
      let lives = lives_on v is_best.reached.1.begins apart in
      let own = best_at_zero g v best left.graph is_best here in
      let (s, member, named) = system_of n.graph v lives in
      let one = same_clock g s best left.graph (loses.systems s member) is_best.live (named ∙ sym own) in
      record {
        live = subst (λ b. In b n.graph.systems) one member;
        reached = subst (Reaches n.graph v) (sym own) (Reaches-self n.graph v lives);
        least = λ t among (us, path). is_best.least t (loses.systems t among) (us, path_before v t.clock us path);
      }

  -- who is no farther than the lost system is unmoved
  pub no_farther_stays : (d v far : ℕ) → d ≤ far → v ≢ lost → IsDistance g v d → IsDistance g lost far
      → Unmoved g n v
  no_farther_stays zero v far less apart here lost_far = record {
    live = lives_on v (IsDistance-clock g v 0 left.graph here) apart;
    best = λ b is_best. best_stays v b apart is_best here;
    far = λ f there.
        let best = here.best in
        let own = best_at_zero g v best left.graph here.is_best here in
        let none = IsDistance-unique g v 0 f left.graph here there in
        subst (IsDistance n.graph v) none
        (subst (λ c. IsDistance n.graph c 0) own
        (IsDistance-best n.graph best
        (subst (λ c. IsBest n.graph c best) (sym own) (best_stays v best apart here.is_best here))));
  }
  no_farther_stays (suc e) v far less apart here lost_far =
      go (λ x. no_farther_stays e x far (omega (arith, less))) (nearer_neighbour g v e left.graph here)
    where
      go : ((x : ℕ) → x ≢ lost → IsDistance g x e → IsDistance g lost far → Unmoved g n x)
          → ((x : ℕ) × Adjacent g v x × IsDistance g x e) → Unmoved g n v
      go nearer (x, (m, k, joins), there) = record { live = lives; best = best; far = far_stays }
        where
          other : x ≢ lost
          other same =
              let one = IsDistance-unique g lost e far left.graph (subst (λ c. IsDistance g c e) same there) lost_far in
              omega (arith, one, less)

          stays : Unmoved g n x
          stays = nearer x other there lost_far

          lives : In v (clocks n.graph)
          lives = lives_on v (IsDistance-clock g v (suc e) left.graph here) apart

          joined : Adjacent n.graph v x
          joined = (m, k, loses.links (port_of v m) (port_of x k) joins lives stays.live)

          best : (b : System) → IsBest g v b → IsBest n.graph v b
          best b is_best =
              IsBest-neighbour n.graph x v b well' (Adjacent-sym n.graph v x joined)
              (stays.best b (IsBest-neighbour g v x b left.graph (m, k, joins) is_best))

          by : ((f : ℕ) × IsDistance n.graph v f) → IsDistance n.graph v (suc e)
          by (f, now) =
              let more : f ≤ suc e =
              IsDistance-neighbour n.graph x v e f well' (Adjacent-sym n.graph v x joined) (stays.far e there) now in
              let same : here.best ≡ now.best =
              IsBest-unique n.graph v here.best now.best well' (best here.best here.is_best) now.is_best in
              let least = no_nearer v (suc e) f here now (subst (IsBest g v) same here.is_best) in
              subst (IsDistance n.graph v) (omega (arith, more, least)) now

          far_stays : (f : ℕ) → IsDistance g v f → IsDistance n.graph v f
          far_stays f was =
              let one = IsDistance-unique g v (suc e) f left.graph here was in
              subst (IsDistance n.graph v) one (by (distance_exists n.graph v well' lives))

  -- so is who lost its link to it and was nearer, or as far with the lower clock
  pub near_ends_stay : NearEndsStay g n.graph
  near_ends_stay from to joins known bare farther = elim (loses.others from.clock from_known) [
    | inl lives ↦ absurd (bare (from, Joins-sym n.graph from to (loses.links from to joins lives known)))
    | inr is_lost ↦
        let (far, from_far) = distance_exists g from.clock left.graph from_known in
        let (near, to_far) = distance_exists g to.clock left.graph (Joins-clock g to from left.graph back) in
        let stays = no_farther_stays near to.clock far
        (elim (farther far near from_far to_far) [
          | inl less ↦ omega (arith, less)
          | inr (same, lower) ↦ omega (arith, same)
        ])
        (λ same. left.graph.apart from to joins (is_lost ∙ sym same)) to_far
        (subst (λ c. IsDistance g c far) is_lost from_far) in
        record { best = stays.best; far = stays.far }
  ]
    where
      from_known : In from.clock (clocks g)
      from_known = Joins-clock g from to left.graph joins

      back : Joins g to from
      back = Joins-sym g from to joins

-- ---- what it holds

module _ (says : Spelling) (g : Snapshot) (n : Network) (well' : IsWellFormed n.graph) (left : IsWhatIsLeft g n)
    (w : MachineState) (kept : IsAfterLoss n w) (fits : ReceivedFits g w)
    (tell : (d : ℕ) → StillSettles says g n d w) where
  -- An unmoved system holds nothing at its port to one that was farther, or as far with the higher clock.
  pub near_holds_none : (i : ℕ) (s : Station) (place : ℕ) (r : Reception) (from : PortIdentity) (d : ℕ)
      → slice_get w.stations i ≡ Some s → s.live ≡ true → Unmoved g n s.clock → IsDistance g s.clock d → d < 255
      → Joins g from (port_of s.clock (suc place)) → IsFarther g from (port_of s.clock (suc place))
      → HoldsAt s place r → ⊥
  near_holds_none i s place r from d at live unmoved here close joins farther (q, there, holds) =
      let (far, from_far) = distance_exists g from.clock left.graph
      (Joins-clock g from (port_of s.clock (suc place)) left.graph joins) in
      let at_place = subst (λ k. slice_get w.stations k ≡ Some s) (kept.calm.placed i s at) at in
      let chosen = chooses_still says g n well' left w kept fits d (λ e less. tell e) close s.clock here.best s at_place
      unmoved here.is_best here in
      let mine = is_master g left.graph s (clear_at g n well' left w kept fits i s at live) here.best here.is_best d far
      place q from chosen there (λ off. absurd (let both : Received r ≡ Disabled = sym holds ∙ off in cc))
      (Joins-sym g from (port_of s.clock (suc place)) joins) from_far (farther far d from_far here) in
      absurd (let both : Received r ≡ Mine here.best.identity d = sym holds ∙ mine in cc)

  -- So at ports without a link nothing is received, where nothing is at those that heard a nearer system.
  pub near_ends_hold_none : NearEndsStay g n.graph
      → ((v d : ℕ) → Unmoved g n v → IsDistance g v d → d < 255)
      → HearersHoldNothing g n.graph w → UnlinkedHoldNothing n.graph w
  near_ends_hold_none stay close none i s place r at live bare holds = none i s place r at live bare nearer holds
    where
      to : PortIdentity
      to = port_of s.clock (suc place)

      nearer : HeardNearer g to
      nearer from joins farther =
          let known = In-clocks n.graph (station_system s) (kept.calm.facts.stations i s at live).known in
          let is = stay from to joins known bare farther in
          let unmoved : Unmoved g n s.clock = record { live = known; best = is.best; far = is.far } in
          let (d, here) = distance_exists g s.clock left.graph
          (Joins-clock g to from left.graph (Joins-sym g from to joins)) in
          near_holds_none i s place r from d at live unmoved here (close s.clock d unmoved here) joins farther holds

-- an unmoved system is as near as it was
pub near_now : (g : Snapshot) (n : Network) → IsWellFormed n.graph → AllAreNear n.graph → (v d : ℕ) → Unmoved g n v
    → IsDistance g v d → d < 255
near_now g n well' near v d unmoved here =
    let (f, there, close) = near v unmoved.live in
    let one = IsDistance-unique n.graph v d f well' (unmoved.far d here) there in
    omega (arith, one, close)
