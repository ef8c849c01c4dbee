-- One system is moved by the loss of a link, and is the far end of each link that it has then: what is known of its
-- neighbours, and which Announces may name it.
use Rattle.std.proofs.Common.{◌≡◌, ◌≢◌, ◌⊎◌, ◌<◌, ◌≤◌, ℕ, zero, suc, true, [], ◌∷◌, Some, slice_get, sym, ap, subst, ◌∙◌, inl, inr, arith}
use native.Mathlib.Decide.{dec_le, ℕ_discrete}
use Rattle.gptp_lists.specs.Members.{In}
use Rattle.gptp_lists.proofs.SystemSpecLemmas.{In-parts}
use Rattle.gptp_graph.specs.Best.{IsBest}
use Rattle.gptp_graph.specs.Distance.{IsDistance}
use Rattle.gptp_graph.specs.Snapshot.{Adjacent, IsLinked, IsWellFormed, Joins, PortIdentity, Snapshot, System, clocks, port_of}
use Rattle.gptp_graph.proofs.BestLemmas.{IsBest-neighbour}
use Rattle.gptp_graph.proofs.DistanceLemmas.{IsDistance-best, IsDistance-neighbour, IsDistance-unique, best_at_zero}
use Rattle.gptp_graph.proofs.ExistenceLemmas.{distance_exists}
use Rattle.gptp_graph.proofs.LinkDecisions.{IsLinked-dec}
use Rattle.gptp_graph.proofs.LinkLemmas.{Adjacent-clock, Adjacent-sym, Joins-clock, Joins-sym}
use Rattle.gptp_bmca_machine.specs.Facts.{FollowsItself, FollowsPort, station_system}
use Rattle.gptp_bmca_machine.specs.Frame.{Announce, AnnounceFrame, Lane, Spelling}
use Rattle.gptp_bmca_machine.specs.LossLaws.{EverythingFits, FlightFits, IsAfterLoss, IsWhatIsLeft, Unmoved}
use Rattle.gptp_bmca_machine.specs.Network.{Network}
use Rattle.gptp_bmca_machine.specs.Reacts.{IsMasterAt, IsOwn}
use Rattle.gptp_bmca_machine.specs.SoundLaws.{AllAreNear}
use Rattle.gptp_bmca_machine.specs.Touch.{IsUsable, Replaces}
use Rattle.gptp_bmca_machine.specs.Vectors.{master, message}
use Rattle.gptp_bmca_machine.proofs.RestLemmas.{Chooses, is_master}
use Rattle.gptp_graph.proofs.SystemLemmas.{In-clocks}
use Rattle.gptp_graph.specs.Order.{IsLower}
use Rattle.gptp_bmca_machine.specs.Station.{Disabled, HoldsAt, MachineState, Mine, Port, Received, Reception, Station}
use Rattle.gptp_bmca_machine.proofs.LevelLemmas.{places_of}
use Rattle.gptp_bmca_machine.proofs.PlaceLemmas.{same_there}
use Rattle.gptp_settling_time.specs.Losses.{IsFarEnd, IsUnmoved}
use Rattle.gptp_settling_time.proofs.ClaimLemmas.{HoldsOnly}
use Rattle.gptp_bmca_machine.proofs.StillLemmas.{LeadsOn, StillSettles, chooses_still, clear_at, live_before, told}

-- Of what is left of a snapshot one system is moved, from one distance of its best to another. What it isn't joined to
-- any more was nearer than it. It has one link at most with each other system, and is the far end of each. Where it is
-- farther by more than one, so was each neighbour that it has of its own links.
pub record TurnsOne (g : Snapshot) (n : Network) (x d e : ℕ) (best : System) : Type 0 where
  pub well : IsWellFormed n.graph
  pub left : IsWhatIsLeft g n
  pub near : AllAreNear n.graph
  pub others : (v : ℕ) → In v (clocks n.graph) → v ≢ x → IsUnmoved g n.graph v
  pub was_best : IsBest g x best
  pub is_best : IsBest n.graph x best
  pub was : IsDistance g x d
  pub is : IsDistance n.graph x e
  pub more : d < e
  pub lost : (u far : ℕ) → Adjacent g x u → IsDistance g u far → Adjacent n.graph x u ⊎ (far < d)
  pub far : IsFarEnd n.graph x
  pub single : (p q p' q' y : ℕ) → Joins n.graph (port_of x p) (port_of y q)
      → Joins n.graph (port_of x p') (port_of y q') → q ≡ q'
  pub tells : (e ≡ suc d) ⊎ ((y : ℕ) → Adjacent n.graph x y → IsFarEnd g y)

-- the system isn't the best
pub starts_far : (g : Snapshot) (n : Network) (x d e : ℕ) (best : System) → TurnsOne g n x d e best → 0 < d
starts_far g n x zero e best t =
    let clock : best.clock ≡ x = best_at_zero g x best t.left.graph t.was_best t.was in
    let there : IsDistance n.graph x 0 =
    subst (λ c. IsDistance n.graph c 0) clock
    (IsDistance-best n.graph best (subst (λ c. IsBest n.graph c best) (sym clock) t.is_best)) in
    let same = IsDistance-unique n.graph x e 0 t.well t.is there in
    let more = t.more in
    absurd (omega (arith, same, more))
starts_far g n x (suc d) e best t = omega arith

-- a neighbour that it has
pub record IsBeside (g : Snapshot) (n : Network) (x d e : ℕ) (best : System) (y : ℕ) : Type 0 where
  pub apart : y ≢ x
  pub known : In y (clocks n.graph)
  pub unmoved : Unmoved g n y
  pub is_best : IsBest g y best
  pub far : ℕ
  pub there : IsDistance g y far
  pub there_then : IsDistance n.graph y far
  pub least : e ≤ suc far
  pub most : far ≤ suc d
  pub nearer : (far < e) ⊎ ((far ≡ e) × (y < x))
  pub close : far < 255

-- an Announce of the component that names the best names the system only if that sent it, or it has as many steps
abbrev pub NamesLate : Snapshot → ℕ → ℕ → System → Announce → Type 0
NamesLate g x e best a = a.root ≡ best.identity → IsBest g a.source.clock best → In x a.path
    → (a.source.clock ≡ x) ⊎ (e ≤ a.steps)

-- in flight it does, or it comes to a system that is nearer to the best than its sender, or as near with the lower
-- clock
abbrev pub ComesLate : Snapshot → ℕ → ℕ → System → PortIdentity → PortIdentity → Announce → Type 0
ComesLate g x e best from to a = NamesLate g x e best a
    ⊎ ((near far : ℕ) → IsDistance g to.clock near → IsDistance g from.clock far
    → (near < far) ⊎ ((near ≡ far) × (to.clock < from.clock)))

module _ (says : Spelling) (g : Snapshot) (n : Network) (x d e : ℕ) (best : System) (t : TurnsOne g n x d e best) where
  pub unmoved_by : (v : ℕ) → In v (clocks n.graph) → v ≢ x → Unmoved g n v
  unmoved_by v known apart =
      let u = t.others v known apart in record { live = known; best = u.best; far = u.far }

  pub beside : (y : ℕ) → Adjacent n.graph x y → IsBeside g n x d e best y
  beside y joined = by (distance_exists g y t.left.graph (live_before g n t.well t.left y known))
    where
      known : In y (clocks n.graph)
      known = Adjacent-clock n.graph x y t.well joined

      apart : y ≢ x
      apart same = let (p, q, joins) = joined in t.well.apart (port_of x p) (port_of y q) joins (sym same)

      joined_before : Adjacent g x y
      joined_before = let (p, q, joins) = joined in (p, q, t.left.links (port_of x p) (port_of y q) joins)

      by : ((far : ℕ) × IsDistance g y far) → IsBeside g n x d e best y
      by (far, there) =
          let u = unmoved_by y known apart in
          let there_then = u.far far there in
          let (f, there_too, close) = t.near y known in
          let same = IsDistance-unique n.graph y far f t.well there_then there_too in
          record {
            apart = apart;
            known = known;
            unmoved = u;
            is_best = IsBest-neighbour g x y best t.left.graph joined_before t.was_best;
            far = far;
            there = there;
            there_then = there_then;
            least = IsDistance-neighbour n.graph y x far e t.well (Adjacent-sym n.graph x y joined) there_then t.is;
            most = IsDistance-neighbour g x y d far t.left.graph joined_before t.was there;
            nearer = t.far y e far joined t.is there_then;
            close = omega (arith, same, close);
          }

  -- a state in which all fits the snapshot of before, and links from unmoved systems stay
  module _ (w : MachineState) (kept : IsAfterLoss n w) (all : EverythingFits says g n w)
      (levels : (f : ℕ) → StillSettles says g n f w)
      (dark : (i : ℕ) (s : Station) (place : ℕ) (q : Port) → slice_get w.stations i ≡ Some s → s.live ≡ true
      → slice_get s.ports place ≡ Some q → (IsLinked n.graph (port_of s.clock (suc place)) → ⊥)
      → q.held ≡ Disabled) where
    -- what a neighbour holds and follows came from the system: then it tells nobody, or its steps are as many
    module _ (i : ℕ) (s : Station) (at : slice_get w.stations i ≡ Some s) (live : s.live ≡ true) (place : ℕ)
        (r : Reception) (holds : HoldsAt s place r) (from_x : r.said.source.clock ≡ x)
        (root : r.said.root ≡ best.identity) (own_root : s.root ≡ r.said.root) (own_steps : s.steps ≡ suc r.said.steps)
      where
        at_place : slice_get w.stations (n.place s.clock) ≡ Some s
        at_place = subst (λ k. slice_get w.stations k ≡ Some s) (kept.calm.placed i s at) at

        linked : IsLinked n.graph (port_of s.clock (suc place))
        linked = elim (IsLinked-dec n.graph (port_of s.clock (suc place))) [
          | yes is ↦ is
          | no none ↦
              let off : holds.0.held ≡ Disabled = dark i s place holds.0 at live holds.1 none in
              absurd (let both : Received r ≡ Disabled = sym holds.2 ∙ off in cc)
        ]

        before : Joins g (port_of s.clock (suc place)) linked.0
        before = t.left.links (port_of s.clock (suc place)) linked.0 linked.1

        -- the link is that of the system
        other_end : linked.0.clock ≡ x
        other_end =
            let over = (all.stations i s place r at live holds).over (linked.0, before) in
            let one : over.from ≡ linked.0 =
            t.left.graph.one_link (port_of s.clock (suc place)) over.from linked.0
            (Joins-sym g over.from (port_of s.clock (suc place)) over.joins) before in
            ap (λ (p : PortIdentity). p.clock) (sym one ∙ sym over.source) ∙ from_x

        joins_x : Joins n.graph (port_of x linked.0.port) (port_of s.clock (suc place))
        joins_x =
            subst (λ c. Joins n.graph (port_of c linked.0.port) (port_of s.clock (suc place))) other_end
            (Joins-sym n.graph (port_of s.clock (suc place)) linked.0 linked.1)

        b : IsBeside g n x d e best s.clock
        b = beside s.clock (linked.0.port, suc place, joins_x)

        chooses : s.steps ≡ b.far
        chooses =
            (chooses_still says g n t.well t.left w kept all.stations b.far (λ f less. levels f) b.close s.clock best s
            at_place b.unmoved b.is_best b.there).steps

        sent : d ≤ r.said.steps
        sent =
            let over = (all.stations i s place r at live holds).over (linked.0, before) in
            let one : over.from.clock ≡ x =
            ap (λ (p : PortIdentity). p.clock) (sym over.source) ∙ from_x in
            let known : IsBest g s.clock best = b.is_best in
            over.sender best d known root (subst (λ c. IsDistance g c d) (sym one) t.was)

        -- it is the far end of its other links too
        module _ (few : s.steps < e) where
          is_far : IsFarEnd g s.clock
          is_far = elim t.tells [
            | inl next ↦ absurd (omega (arith, next, few, own_steps, sent))
            | inr far ↦ far s.clock (linked.0.port, suc place, joins_x)
          ]

          holds_there : (j : ℕ) (u : PortIdentity) (q : Port) → Joins n.graph (port_of s.clock (suc j)) u → u.clock ≢ x
              → slice_get s.ports j ≡ Some q → (z : Reception) × (q.held ≡ Received z)
          holds_there j u q joins other at_q =
              by (places_of n.graph s.clock (suc j) u.clock u.port t.well joins)
              (distance_exists g u.clock t.left.graph (live_before g n t.well t.left u.clock known_u))
            where
              back : Joins n.graph u (port_of s.clock (suc j))
              back = Joins-sym n.graph (port_of s.clock (suc j)) u joins

              known_u : In u.clock (clocks n.graph)
              known_u = Joins-clock n.graph u (port_of s.clock (suc j)) t.well back

              by : ((p : ℕ) × (k : ℕ) × (suc j ≡ suc p) × (u.port ≡ suc k)) → ((near : ℕ) × IsDistance g u.clock near)
                  → (z : Reception) × (q.held ≡ Received z)
              by (p, k, is_p, is_k) (near, u_near) =
                  let over : Joins n.graph (port_of u.clock (suc k)) (port_of s.clock (suc j)) =
                  subst (λ m. Joins n.graph (port_of u.clock m) (port_of s.clock (suc j))) is_k back in
                  let joined : Adjacent g s.clock u.clock =
                  (suc j, u.port, t.left.links (port_of s.clock (suc j)) u joins) in
                  let nearer = is_far u.clock b.far near joined b.there u_near in
                  let least = b.close in
                  let close : near < 255 =
                  elim nearer [ inl less ↦ omega (arith, less, least) | inr (same, lower) ↦ omega (arith, same, least) ]
                  in
                  let leads : LeadsOn g n near best u.clock k s.clock j =
                  record {
                    unmoved = unmoved_by u.clock known_u other;
                    is_best = IsBest-neighbour g s.clock u.clock best t.left.graph joined b.is_best;
                    here = u_near;
                    joins = over;
                    far = b.far;
                    there = b.there;
                    farther = nearer;
                  } in
                  let (z, (q', at_q', is_z), final) =
                  told says g n t.well t.left w kept all.stations near best u.clock k s.clock j close leads
                  (chooses_still says g n t.well t.left w kept all.stations near (λ f less. levels f) close)
                  (levels near best u.clock k s.clock j close leads) s at_place in
                  (z, subst (λ (p : Port). p.held ≡ Received z) (same_there s.ports j q' q at_q' at_q) is_z)

          pub tells_nobody : (p : ℕ) → IsMasterAt s p → ⊥
          tells_nobody p (j, q, number, at_q, mine) = elim (IsLinked-dec n.graph (port_of s.clock (suc j))) [
            | no none ↦
                let off : q.held ≡ Disabled = dark i s j q at live at_q none in
                absurd (let both : Disabled ≡ Mine s.root s.steps = sym off ∙ mine in cc)
            | yes (u, joins) ↦ by u joins
          ]
            where
              received : (z : Reception) → q.held ≡ Received z → ⊥
              received z is = absurd (let both : Received z ≡ Mine s.root s.steps = sym is ∙ mine in cc)

              by : (u : PortIdentity) → Joins n.graph (port_of s.clock (suc j)) u → ⊥
              by u joins = elim (ℕ_discrete u.clock x) [
                | no other ↦ let (z, is) = holds_there j u q joins other at_q in received z is
                | yes same ↦
                    let back = subst (λ c. Joins n.graph (port_of c u.port) (port_of s.clock (suc j))) same
                    (Joins-sym n.graph (port_of s.clock (suc j)) u joins) in
                    let number_is = t.single linked.0.port (suc place) u.port (suc j) s.clock joins_x back in
                    let one : place ≡ j = omega (arith, number_is) in
                    let port : holds.0 ≡ q =
                    same_there s.ports j holds.0 q (subst (λ k. slice_get s.ports k ≡ Some holds.0) one holds.1) at_q in
                    received r (subst (λ (z : Port). z.held ≡ Received r) port holds.2)
              ]

    -- what a system of the component received came from another
    pub source_best : (i : ℕ) (s : Station) (place : ℕ) (r : Reception) → slice_get w.stations i ≡ Some s
        → s.live ≡ true → HoldsAt s place r → IsBest g s.clock best → IsBest g r.said.source.clock best
    source_best i s place r at live holds is = elim (IsLinked-dec n.graph (port_of s.clock (suc place))) [
      | no none ↦
          let off : holds.0.held ≡ Disabled = dark i s place holds.0 at live holds.1 none in
          absurd (let both : Received r ≡ Disabled = sym holds.2 ∙ off in cc)
      | yes (u, joined) ↦
          let came = (all.stations i s place r at live holds).over
          (u, t.left.links (port_of s.clock (suc place)) u joined) in
          subst (λ c. IsBest g c best) (sym (ap (λ (k : PortIdentity). k.clock) came.source))
          (IsBest-neighbour g s.clock came.from.clock best t.left.graph
          (suc place, came.from.port, Joins-sym g came.from (port_of s.clock (suc place)) came.joins) is)
    ]

    -- so what a system says that holds only such names it late
    pub own_names : (i : ℕ) (s : Station) (p : ℕ) (a : Announce) → slice_get w.stations i ≡ Some s → s.live ≡ true
        → HoldsOnly (NamesLate g x e best) s → IsOwn s p a → IsMasterAt s p → NamesLate g x e best a
    own_names i s p a at live held own master root is names = by (kept.calm.facts.stations i s at live).follows
      where
        own_best : IsBest g s.clock best
        own_best = subst (λ c. IsBest g c best) (ap (λ (k : PortIdentity). k.clock) own.source) is

        own_source : x ≡ s.clock → (a.source.clock ≡ x) ⊎ (e ≤ a.steps)
        own_source same = inl (ap (λ (p : PortIdentity). p.clock) own.source ∙ sym same)

        follows : (port : FollowsPort s) → (port.r.said.source.clock ≡ x) ⊎ (e ≤ port.r.said.steps)
            → port.r.said.root ≡ best.identity → (a.source.clock ≡ x) ⊎ (e ≤ a.steps)
        follows port (inr many) root_r =
            let steps = own.steps in let more = port.steps in inr (omega (arith, steps, more, many))
        follows port (inl from_x) root_r = elim (dec_le e s.steps) [
          | yes many ↦ let steps = own.steps in inr (omega (arith, steps, many))
          | no few ↦ absurd (tells_nobody i s at live port.place port.r port.holds from_x root_r port.root port.steps
              (omega (arith, few)) p master)
        ]

        by : FollowsItself s ⊎ FollowsPort s → (a.source.clock ≡ x) ⊎ (e ≤ a.steps)
        by (inl itself) = elim (subst (In x) (own.path ∙ itself.trace) names)
            [ inl same ↦ own_source same | inr none ↦ absurd none ]
        by (inr port) =
            elim (In-parts x port.r.said.path (s.clock ∷ []) (subst (In x) (own.path ∙ port.trace) names)) [
              | inl among ↦
                  let root_r : port.r.said.root ≡ best.identity = sym port.root ∙ sym own.root ∙ root in
                  follows port
                  (held port.place port.r port.holds root_r
                  (source_best i s port.place port.r at live port.holds own_best) among) root_r
              | inr (inl same) ↦ own_source same
              | inr (inr none) ↦ absurd none
            ]

    -- ---- what is taken

    -- what a system can use and takes names the moved one late
    pub taken_late : (j : ℕ) (l : Lane) (f : AnnounceFrame) (a : Announce) (i : ℕ) (s : Station) (place : ℕ) (q : Port)
        → slice_get w.lanes j ≡ Some l → In f l.frames → says f.octets a → slice_get w.stations i ≡ Some s
        → s.live ≡ true → l.to ≡ port_of s.clock (suc place) → slice_get s.ports place ≡ Some q → IsUsable s.clock a
        → Replaces s.clock (suc place) a q.held → ComesLate g x e best l.from l.to a → NamesLate g x e best a
    taken_late j l f a i s place q at among said here live to there usable replaces (inl late) root is names =
        late root is names
    taken_late j l f a i s place q at among said here live to there usable replaces (inr nearer) root is names =
        absurd (by (ℕ_discrete s.clock x) (distance_exists g s.clock t.left.graph was_s)
        (distance_exists g l.from.clock t.left.graph was_from))
      where
        known_s : In s.clock (clocks n.graph)
        known_s = In-clocks n.graph (station_system s) (kept.calm.facts.stations i s here live).known

        was_s : In s.clock (clocks g)
        was_s = live_before g n t.well t.left s.clock known_s

        fit : FlightFits g l a
        fit =
            all.lanes j l f a at among said
            (subst (λ (k : PortIdentity). In k.clock (clocks n.graph)) (sym to) known_s)

        joins : Joins g l.from (port_of s.clock (suc place))
        joins = subst (Joins g l.from) to fit.joins

        was_from : In l.from.clock (clocks g)
        was_from = Joins-clock g l.from (port_of s.clock (suc place)) t.left.graph joins

        best_s : IsBest g s.clock best
        best_s =
            IsBest-neighbour g a.source.clock s.clock best t.left.graph
            (subst (λ (k : PortIdentity). Adjacent g k.clock s.clock) (sym fit.source)
            (l.from.port, suc place, joins)) is

        at_place : slice_get w.stations (n.place s.clock) ≡ Some s
        at_place = subst (λ k. slice_get w.stations k ≡ Some s) (kept.calm.placed i s here) here

        by : Dec (s.clock ≡ x) → ((near : ℕ) × IsDistance g s.clock near)
            → ((far : ℕ) × IsDistance g l.from.clock far) → ⊥
        by (yes same) near far = usable.no_loop (subst (λ c. In c a.path) (sym same) names)
        by (no apart) (near, s_near) (far, from_far) =
            not_lower (subst (Replaces s.clock (suc place) a) mine replaces)
          where
            beyond : (near < far) ⊎ ((near ≡ far) × (s.clock < l.from.clock))
            beyond =
                subst (λ (k : PortIdentity). (near < far) ⊎ ((near ≡ far) × (k.clock < l.from.clock))) to
                (nearer near far (subst (λ (k : PortIdentity). IsDistance g k.clock near) (sym to) s_near) from_far)

            close : near < 255
            close =
                let u = t.others s.clock known_s apart in
                let (f, there, less) = t.near s.clock known_s in
                let same = IsDistance-unique n.graph s.clock near f t.well (u.far near s_near) there in
                omega (arith, same, less)

            chosen : Chooses s best near
            chosen =
                chooses_still says g n t.well t.left w kept all.stations near (λ k less. levels k) close s.clock best s
                at_place (unmoved_by s.clock known_s apart) best_s s_near

            on : q.held ≢ Disabled
            on off = subst (Replaces s.clock (suc place) a) off replaces

            mine : q.held ≡ Mine best.identity near
            mine =
                is_master g t.left.graph s (clear_at g n t.well t.left w kept all.stations i s here live) best best_s
                near
                far place q l.from chosen there on (Joins-sym g l.from (port_of s.clock (suc place)) joins) from_far
                beyond

            many : far ≤ a.steps
            many =
                fit.sender best far (subst (λ (k : PortIdentity). IsBest g k.clock best) (sym to) best_s) root from_far

            not_lower : IsLower (message a (suc place)) (master best.identity near s.clock (suc place)) → ⊥
            not_lower (inl less) = omega (arith, less, root)
            not_lower (inr (same, inl fewer)) = elim beyond [
              | inl below ↦ omega (arith, many, fewer, below)
              | inr (equal, lower) ↦ omega (arith, many, fewer, equal)
            ]
            not_lower (inr (same, inr (steps, rest))) = elim beyond [
              | inl below ↦ omega (arith, many, steps, below)
              | inr (equal, lower) ↦
                  let clock_is : a.source.clock ≡ l.from.clock = ap (λ (k : PortIdentity). k.clock) fit.source in
                  elim rest [
                    | inl less ↦ omega (arith, less, lower, clock_is)
                    | inr (also, ports) ↦ omega (arith, also, lower, clock_is)
                  ]
            ]
