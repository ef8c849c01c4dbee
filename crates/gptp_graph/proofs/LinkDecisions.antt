-- Decisions on the links of a snapshot.
use Rattle.std.proofs.Common.{◌≡◌, ◌⊎◌, ℕ, List, [], ◌∷◌, refl, ap, subst, inl, inr}
use native.Mathlib.Decide.{ℕ_discrete}
use Rattle.gptp_lists.specs.Members.{In}
use Rattle.gptp_graph.specs.Snapshot.{PortIdentity, Link, Snapshot, port_of, Joins, Adjacent, IsLinked}
use Rattle.gptp_graph.proofs.DecisionLemmas.{dec_iff, dec_both, dec_either, any_dec}

-- whether two ports are one
unfoldable pub PortIdentity-dec : (p q : PortIdentity) → Dec (p ≡ q)
unfolding dec_iff dec_both ℕ_discrete
PortIdentity-dec p q =
    dec_iff (λ e i. record { clock = e.0 i; port = e.1 i })
    (λ e. (ap (λ (r : PortIdentity). r.clock) e, ap (λ (r : PortIdentity). r.port) e))
    (dec_both (ℕ_discrete p.clock q.clock) (ℕ_discrete p.port q.port))

-- whether two links name the same ports in the same order
Link-dec : (l k : Link) → Dec (l ≡ k)
Link-dec l k =
    dec_iff (λ e i. record { a = e.0 i; b = e.1 i }) (λ e. (ap (λ (r : Link). r.a) e, ap (λ (r : Link). r.b) e))
    (dec_both (PortIdentity-dec l.a k.a) (PortIdentity-dec l.b k.b))

-- whether a link is in a list
In-links-dec : (l : Link) (ls : List Link) → Dec (In l ls)
In-links-dec l [] = no (λ h. h)
In-links-dec l (k ∷ ls) = dec_either (Link-dec l k) (In-links-dec l ls)

-- whether a link joins two ports
pub Joins-dec : (g : Snapshot) (p q : PortIdentity) → Dec (Joins g p q)
Joins-dec g p q =
    dec_either (In-links-dec (record { a = p; b = q }) g.links) (In-links-dec (record { a = q; b = p }) g.links)

-- whether a link is at the port
pub IsLinked-dec : (g : Snapshot) (p : PortIdentity) → Dec (IsLinked g p)
IsLinked-dec g p =
    dec_iff over back (any_dec (λ (l : Link). (l.a ≡ p) ⊎ (l.b ≡ p)) g.links
    (λ l h. dec_either (PortIdentity-dec l.a p) (PortIdentity-dec l.b p)))
  where
    over : ((l : Link) × In l g.links × ((l.a ≡ p) ⊎ (l.b ≡ p))) → IsLinked g p
    over (l, h, inl e) = (l.b, inl (subst (λ k. In k g.links) (λ i. record { a = e i; b = l.b }) h))
    over (l, h, inr e) = (l.a, inr (subst (λ k. In k g.links) (λ i. record { a = l.a; b = e i }) h))

    back : IsLinked g p → (l : Link) × In l g.links × ((l.a ≡ p) ⊎ (l.b ≡ p))
    back (q, inl h) = (record { a = p; b = q }, h, inl refl)
    back (q, inr h) = (record { a = q; b = p }, h, inr refl)

-- a link joins a port of v to a port of w, whichever it names first
abbrev Crosses : ℕ → ℕ → Link → Type 0
Crosses v w l = ((l.a.clock ≡ v) × (l.b.clock ≡ w)) ⊎ ((l.b.clock ≡ v) × (l.a.clock ≡ w))

-- whether it does
Crosses-dec : (v w : ℕ) (l : Link) → Dec (Crosses v w l)
Crosses-dec v w l =
    dec_either (dec_both (ℕ_discrete l.a.clock v) (ℕ_discrete l.b.clock w))
    (dec_both (ℕ_discrete l.b.clock v) (ℕ_discrete l.a.clock w))

-- whether a link joins two systems
pub Adjacent-dec : (g : Snapshot) (v w : ℕ) → Dec (Adjacent g v w)
Adjacent-dec g v w = dec_iff over back (any_dec (Crosses v w) g.links (λ l h. Crosses-dec v w l))
  where
    over : ((l : Link) × In l g.links × Crosses v w l) → Adjacent g v w
    over (l, h, inl (a, b)) =
        let e : l ≡ record { a = port_of v l.a.port; b = port_of w l.b.port } =
        λ i. record { a = port_of (a i) l.a.port; b = port_of (b i) l.b.port } in
        (l.a.port, l.b.port, inl (subst (λ k. In k g.links) e h))
    over (l, h, inr (b, a)) =
        let e : l ≡ record { a = port_of w l.a.port; b = port_of v l.b.port } =
        λ i. record { a = port_of (a i) l.a.port; b = port_of (b i) l.b.port } in
        (l.b.port, l.a.port, inr (subst (λ k. In k g.links) e h))

    back : Adjacent g v w → (l : Link) × In l g.links × Crosses v w l
    back (m, n, inl h) = (record { a = port_of v m; b = port_of w n }, h, inl (refl, refl))
    back (m, n, inr h) = (record { a = port_of w n; b = port_of v m }, h, inr (refl, refl))
