-- Every port of a system has one settled role; the port at the other end of a slave port is a master port.
use Rattle.std.proofs.Common.{◌≡◌, ◌⊎◌, ◌<◌, ℕ, zero, suc, refl, ap, subst, ◌∙◌, inl, arith}
use native.Mathlib.Decide.{ℕ_discrete, dec_lt}
use Rattle.gptp_lists.specs.Members.{In}
use Rattle.gptp_graph.specs.Snapshot.{PortIdentity, Snapshot, IsWellFormed, clocks, port_of, Joins, IsLinked}
use Rattle.gptp_graph.specs.Distance.{IsDistance}
use Rattle.gptp_graph.specs.Parent.{ParentLink, IsParent}
use Rattle.gptp_graph.specs.SettledRole.{Role, Disabled, Master, Slave, Passive, RoleBy, IsSlavePort, IsMasterPort, IsSettledRole}
use Rattle.gptp_graph.proofs.LinkLemmas.{Joins-clock, Joins-sym}
use Rattle.gptp_graph.proofs.DecisionLemmas.{dec_iff, dec_both, dec_either}
use Rattle.gptp_graph.proofs.DistanceLemmas.{IsDistance-unique}
use Rattle.gptp_graph.proofs.ExistenceLemmas.{distance_exists}
use Rattle.gptp_graph.proofs.LinkDecisions.{IsLinked-dec}
use Rattle.gptp_graph.proofs.ParentLemmas.{LeadsNearer-distance, parent_exists, IsParent-unique, no_parent_at_zero}

-- facts that can be decided give a role
pub RoleBy-exists : {L S M : Type 0} → Dec L → Dec S → Dec M → (role : Role) × RoleBy L S M role
RoleBy-exists (no out) s m = (Disabled, out)
RoleBy-exists (yes l) (yes s) m = (Slave, (l, s))
RoleBy-exists (yes l) (no not_slave) (yes m) = (Master, (l, not_slave, m))
RoleBy-exists (yes l) (no not_slave) (no not_master) = (Passive, (l, not_slave, not_master))

-- and no two
pub RoleBy-unique : (L S M : Type 0) (one two : Role) → RoleBy L S M one → RoleBy L S M two → one ≡ two
RoleBy-unique L S M Disabled Disabled h k = refl
RoleBy-unique L S M Disabled Slave h k = absurd (h k.0)
RoleBy-unique L S M Disabled Master h k = absurd (h k.0)
RoleBy-unique L S M Disabled Passive h k = absurd (h k.0)
RoleBy-unique L S M Slave Disabled h k = absurd (k h.0)
RoleBy-unique L S M Slave Slave h k = refl
RoleBy-unique L S M Slave Master h k = absurd (k.1 h.1)
RoleBy-unique L S M Slave Passive h k = absurd (k.1 h.1)
RoleBy-unique L S M Master Disabled h k = absurd (k h.0)
RoleBy-unique L S M Master Slave h k = absurd (h.1 k.1)
RoleBy-unique L S M Master Master h k = refl
RoleBy-unique L S M Master Passive h k = absurd (k.2 h.2)
RoleBy-unique L S M Passive Disabled h k = absurd (k h.0)
RoleBy-unique L S M Passive Slave h k = absurd (h.1 k.1)
RoleBy-unique L S M Passive Master h k = absurd (h.2 k.2)
RoleBy-unique L S M Passive Passive h k = refl

-- the same role by equivalent facts
pub RoleBy-map : (L S M S' M' : Type 0) (role : Role) → (S → S') → (S' → S) → (M → M') → (M' → M)
    → RoleBy L S M role → RoleBy L S' M' role
RoleBy-map L S M S' M' Disabled s s' m m' h = h
RoleBy-map L S M S' M' Slave s s' m m' h = (h.0, s h.1)
RoleBy-map L S M S' M' Master s s' m m' h = (h.0, (λ x. h.1 (s' x)), m h.2)
RoleBy-map L S M S' M' Passive s s' m m' h = (h.0, (λ x. h.1 (s' x)), (λ x. h.2 (m' x)))

-- whether a port is a slave port
IsSlavePort-dec : (g : Snapshot) (p : PortIdentity) (d : ℕ) → IsWellFormed g → IsDistance g p.clock d
    → Dec (IsSlavePort g p)
IsSlavePort-dec g p zero wf here = no (λ (l, is, e). no_parent_at_zero g p.clock l wf here is)
IsSlavePort-dec g p (suc d) wf here = by_parent (parent_exists g p.clock d wf here)
  where
    by_parent : ((l : ParentLink) × IsParent g p.clock l) → Dec (IsSlavePort g p)
    by_parent (l, is) =
        dec_iff (λ e. (l, is, e)) (λ (k, h, e). ap (λ (x : ParentLink). x.own_port)
        (IsParent-unique g p.clock l k is h) ∙ e) (ℕ_discrete l.own_port p.port)

-- whether a port is a master port
IsMasterPort-dec : (g : Snapshot) (p : PortIdentity) → IsWellFormed g → Dec (IsLinked g p)
    → Dec (IsMasterPort g p)
IsMasterPort-dec g p wf (no out) = no (λ h. out (h.other, h.joins))
IsMasterPort-dec g p wf (yes (q, j)) =
    by_distances (distance_exists g p.clock wf (Joins-clock g p q wf j))
    (distance_exists g q.clock wf (Joins-clock g q p wf (Joins-sym g p q j)))
  where
    by_distances : ((d : ℕ) × IsDistance g p.clock d) → ((e : ℕ) × IsDistance g q.clock e)
        → Dec (IsMasterPort g p)
    by_distances (d, here) (e, there) =
        dec_iff over back (dec_either (dec_lt d e) (dec_both (ℕ_discrete d e) (dec_lt p.clock q.clock)))
      where
        over : (d < e) ⊎ ((d ≡ e) × (p.clock < q.clock)) → IsMasterPort g p
        over h = record { other = q; joins = j; here = d; there = e; is_here = here; is_there = there; nearer = h }

        back : IsMasterPort g p → (d < e) ⊎ ((d ≡ e) × (p.clock < q.clock))
        back h =
            let same_end : h.other ≡ q = wf.one_link p h.other q h.joins j in
            let dd : h.here ≡ d = IsDistance-unique g p.clock h.here d wf h.is_here here in
            let ee : h.there ≡ e =
            IsDistance-unique g q.clock h.there e wf
            (subst (λ (r : PortIdentity). IsDistance g r.clock h.there) same_end h.is_there) there in
            subst (λ x. (x < e) ⊎ ((x ≡ e) × (p.clock < q.clock))) dd
            (subst (λ x. (h.here < x) ⊎ ((h.here ≡ x) × (p.clock < q.clock))) ee
            (subst (λ (r : PortIdentity). (h.here < h.there)
            ⊎ ((h.here ≡ h.there) × (p.clock < r.clock))) same_end h.nearer))

-- every port of a system has a settled role
pub settled_role_exists : (g : Snapshot) (p : PortIdentity) → IsWellFormed g → In p.clock (clocks g)
    → (role : Role) × IsSettledRole g p role
settled_role_exists g p wf here =
    let d = distance_exists g p.clock wf here in
    RoleBy-exists (IsLinked-dec g p) (IsSlavePort-dec g p d.0 wf d.1) (IsMasterPort-dec g p wf (IsLinked-dec g p))

-- the port at the other end of a slave port is a master port
pub parent_is_master : (g : Snapshot) (v : ℕ) (l : ParentLink) → IsWellFormed g → IsParent g v l
    → IsSettledRole g (port_of l.clock l.port) Master
parent_is_master g v l wf h = ((own, back), not_slave, master)
  where
    own : PortIdentity
    own = port_of v l.own_port

    there : PortIdentity
    there = port_of l.clock l.port

    back : Joins g there own
    back = Joins-sym g own there h.nearer.joins

    master : IsMasterPort g there
    master = record {
      other = own;
      joins = back;
      here = h.nearer.distance;
      there = suc h.nearer.distance;
      is_here = h.nearer.there;
      is_there = h.nearer.here;
      nearer = inl (omega arith);
    }

    -- its own parent is nearer still, and so isn't at the other end of this link
    not_slave : IsSlavePort g there → ⊥
    not_slave (k, is, e) =
        let up : port_of k.clock k.port ≡ own = one_up k is e in
        let nearer : IsDistance g v is.nearer.distance =
        subst (λ (r : PortIdentity). IsDistance g r.clock is.nearer.distance) up is.nearer.there in
        let a : is.nearer.distance ≡ suc h.nearer.distance =
        LeadsNearer-distance g v is.nearer.distance l wf nearer h.nearer in
        let b : h.nearer.distance ≡ suc is.nearer.distance =
        LeadsNearer-distance g l.clock h.nearer.distance k wf h.nearer.there is.nearer in
        absurd (omega arith)
      where
        one_up : (k : ParentLink) → IsParent g l.clock k → k.own_port ≡ l.port → port_of k.clock k.port ≡ own
        one_up k is e =
            let over : Joins g there (port_of k.clock k.port) =
            subst (λ n. Joins g (port_of l.clock n) (port_of k.clock k.port)) e is.nearer.joins in
            wf.one_link there (port_of k.clock k.port) own over back
