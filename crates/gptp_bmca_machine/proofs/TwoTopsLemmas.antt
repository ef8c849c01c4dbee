-- A tree seen from its tops: who is above a system, and what doesn't pass a system doesn't come to those below it.
use Rattle.std.proofs.Common.{◌≡◌, ◌≢◌, ℕ, zero, suc, List, [], ◌∷◌, sym, ap, subst, ◌∙◌, inl, inr, arith}
use Rattle.gptp_lists.specs.Members.{In}
use Rattle.gptp_graph.specs.Best.{IsBest}
use Rattle.gptp_graph.specs.Path.{Route}
use Rattle.gptp_graph.specs.Snapshot.{System, PortIdentity, port_of, Joins, Adjacent}
use Rattle.gptp_graph.proofs.BestLemmas.{IsBest-neighbour}
use Rattle.gptp_graph.proofs.LinkLemmas.{Adjacent-sym, Joins-sym}
use Rattle.gptp_bmca_machine.specs.Clean.{Whole}
use Rattle.gptp_bmca_machine.specs.Frame.{Announce}
use Rattle.gptp_bmca_machine.specs.Network.{Network}
use Rattle.gptp_bmca_machine.specs.TwoTops.{Side, IsTreeOfTops}
use Rattle.gptp_bmca_machine.proofs.MovedTreeLemmas.{IsBelow, IsBelowBy, below_depth, named}
use Rattle.gptp_bmca_machine.proofs.NearestLemmas.{on_way}

-- one below the other, seen from this top
abbrev pub IsDeeper : (Side → ℕ → ℕ) → Side → ℕ → ℕ → Type 0
IsDeeper depth side v u = depth side u ≡ suc (depth side v)

module _ (n : Network) (next : System) (top : Side → ℕ) (depth : Side → ℕ → ℕ) (t : IsTreeOfTops n next top depth)
  where
    -- its systems are those whose best that is
    abbrev pub Tree : ℕ → Type 0
    Tree v = IsBest n.graph v next

    pub beside : (v u : ℕ) → Tree v → Adjacent n.graph v u → Tree u
    beside v u in_v joined = IsBest-neighbour n.graph v u next t.well joined in_v

    -- one neighbour is above a system, seen from a top
    pub one_above : (side : Side) (v a b : ℕ) → Tree v → Adjacent n.graph v a → Adjacent n.graph v b
        → IsDeeper depth side a v → IsDeeper depth side b v → a ≡ b
    one_above side v a b in_v (p, k, joins) (q, m, joins') deeper deeper' =
        let port : p ≡ q = t.single side v p q (port_of a k) (port_of b m) in_v joins joins' deeper deeper' in
        ap (λ (x : PortIdentity). x.clock)
        (t.well.one_link (port_of v q) (port_of a k) (port_of b m)
        (subst (λ i. Joins n.graph (port_of v i) (port_of a k)) port joins) joins')

    -- one link leads to a system below
    pub one_down : (side : Side) (v u i p k q : ℕ) → Tree u → IsDeeper depth side v u
        → Joins n.graph (port_of v i) (port_of u k) → Joins n.graph (port_of v p) (port_of u q) → i ≡ p
    one_down side v u i p k q in_u deeper first second =
        let back = Joins-sym n.graph (port_of v i) (port_of u k) first in
        let back' = Joins-sym n.graph (port_of v p) (port_of u q) second in
        let port = t.single side u k q (port_of v i) (port_of v p) in_u back back' deeper deeper in
        ap (λ (e : PortIdentity). e.port)
        (t.well.one_link (port_of u q) (port_of v i) (port_of v p)
        (subst (λ j. Joins n.graph (port_of u j) (port_of v i)) port back) back')

    -- ---- what is below a system

    module _ (side : Side) (u w : ℕ) (joined : Adjacent n.graph u w) (in_u : Tree u) (deeper : IsDeeper depth side u w)
      where
        in_w : Tree w
        in_w = beside u w in_u joined

        abbrev Below : ℕ → Type 0
        Below v = IsBelow Tree n.graph (depth side) w v

        -- it goes on below, but by the system above
        goes_on : (k v x : ℕ) → IsBelowBy Tree n.graph (depth side) k w v → Tree v → Adjacent n.graph v x → x ≢ u
            → Below x
        goes_on k v x below in_v next_to apart = elim (t.steps side v x in_v next_to) [
          | inl down ↦ (suc k, (v, below, in_v, next_to, down))
          | inr up ↦ by k below up
        ]
          where
            by : (k : ℕ) → IsBelowBy Tree n.graph (depth side) k w v → depth side v ≡ suc (depth side x) → Below x
            by zero same up =
                absurd (apart (one_above side v x u in_v next_to
                (Adjacent-sym n.graph u v (subst (Adjacent n.graph u) same joined)) up
                (ap (depth side) (sym same) ∙ deeper)))
            by (suc k) (m, below_m, in_m, m_v, down) up =
                let one : m ≡ x = one_above side v m x in_v (Adjacent-sym n.graph m v m_v) next_to down up in
                subst Below one (k, below_m)

        apart_on : (v x : ℕ) → Adjacent n.graph v x → u ≢ v → Tree v → (Below v → ⊥) → Below x → ⊥
        apart_on v x next_to not_v in_v out (k, below) =
            out (goes_on k x v below (beside v x in_v next_to) (Adjacent-sym n.graph v x next_to)
            (λ same. not_v (sym same)))

        -- a route that begins elsewhere and doesn't pass that doesn't come there
        avoids : (v end : ℕ) (us : List ℕ) → Tree v → (Below v → ⊥) → Route n.graph v end us → (In u (v ∷ us) → ⊥)
            → In w (v ∷ us) → ⊥
        avoids v end [] in_v out route past (inl same) = out (0, same)
        avoids v end [] in_v out route past (inr none) = none
        avoids v end (x ∷ us) in_v out (next_to, route) past (inl same) = out (0, same)
        avoids v end (x ∷ us) in_v out (next_to, route) past (inr among) =
            avoids x end us (beside v x in_v next_to) (apart_on v x next_to (λ same. past (inl same)) in_v out) route
            (λ h. past (inr h)) among

        -- what another neighbour of it says that doesn't name it doesn't name who is below it
        pub names_none : (x : ℕ) (a : Announce) → Adjacent n.graph u x → x ≢ w → Whole n.graph x a → (In u a.path → ⊥)
            → In w a.path → ⊥
        names_none x a next_to apart whole out among =
            avoids x whole.first.clock whole.others in_x not_below whole.way.route
            (λ h. out (named n.graph x a whole u h)) (on_way n.graph t.well x a whole next in_x w among)
          where
            in_x : Tree x
            in_x = beside u x in_u next_to

            not_below : Below x → ⊥
            not_below (zero, same) = apart (sym same)
            not_below (suc k, (m, below, in_m, m_x, down)) =
                let deep = below_depth Tree n.graph (depth side) k w m below in
                elim (t.steps side u x in_u next_to) [
                  | inr up ↦ absurd (omega (arith, deep, down, up, deeper))
                  | inl child ↦
                      let one : m ≡ u = one_above side x m u in_x (Adjacent-sym n.graph m x m_x)
                      (Adjacent-sym n.graph u x next_to) down child in
                      let same = ap (depth side) one in
                      absurd (omega (arith, deep, same, deeper))
                ]
