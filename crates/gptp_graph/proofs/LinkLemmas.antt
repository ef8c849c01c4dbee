-- Links: they turn round, end at systems, and leave each port one other end where no port is named twice.
use Rattle.std.proofs.Common.{◌≡◌, ◌⊎◌, ℕ, List, [], ◌∷◌, sym, ap, subst, ◌∙◌, inl, inr}
use Rattle.gptp_lists.specs.Members.{In, Different}
use Rattle.gptp_graph.specs.Snapshot.{System, PortIdentity, Link, Snapshot, IsWellFormed, clocks, port_of, Joins, Adjacent}
use Rattle.gptp_graph.specs.Parent.{ParentLink, JoinsAt}
use Rattle.gptp_lists.proofs.SystemSpecLemmas.{In-map}

-- a link joins either end to the other
pub Joins-sym : (g : Snapshot) (p q : PortIdentity) → Joins g p q → Joins g q p
Joins-sym g p q (inl h) = inr h
Joins-sym g p q (inr h) = inl h

-- neighbours are each other's
pub Adjacent-sym : (g : Snapshot) (v w : ℕ) → Adjacent g v w → Adjacent g w v
Adjacent-sym g v w (m, n, joins) =
    (n, m, Joins-sym g (port_of v m) (port_of w n) joins)

-- the end of a link is a system's
pub Joins-clock : (g : Snapshot) (p q : PortIdentity) → IsWellFormed g → Joins g p q → In p.clock (clocks g)
Joins-clock g p q wf joins =
    let at = wf.ends p q joins in
    subst (λ v. In v (clocks g)) at.2.clock (In-map (λ (s : System). s.clock) at.0 g.systems at.1)

-- a neighbour is a system
pub Adjacent-clock : (g : Snapshot) (v w : ℕ) → IsWellFormed g → Adjacent g v w → In w (clocks g)
Adjacent-clock g v w wf (m, n, joins) =
    Joins-clock g (port_of w n) (port_of v m) wf (Joins-sym g (port_of v m) (port_of w n) joins)

-- the other end of a link is a system's
pub JoinsAt-clock : (g : Snapshot) (v : ℕ) (l : ParentLink) → IsWellFormed g → JoinsAt g v l
    → In l.clock (clocks g)
JoinsAt-clock g v l wf j =
    Joins-clock g (port_of l.clock l.port) (port_of v l.own_port) wf
    (Joins-sym g (port_of v l.own_port) (port_of l.clock l.port) j)

-- the ends of links, in order
abbrev pub link_ends : List Link → List PortIdentity
link_ends [] = []
link_ends (l ∷ ls) = l.a ∷ l.b ∷ link_ends ls

-- a link of the list joins the ports
abbrev JoinedIn : List Link → PortIdentity → PortIdentity → Type 0
JoinedIn ls p q = In (record { a = p; b = q }) ls ⊎ In (record { a = q; b = p }) ls

-- a joined port is one of the ends
In-link_ends : (ls : List Link) (p q : PortIdentity) → JoinedIn ls p q → In p (link_ends ls)
In-link_ends [] p q (inl h) = absurd h
In-link_ends [] p q (inr h) = absurd h
In-link_ends (l ∷ ls) p q (inl (inl e)) = inl (ap (λ (k : Link). k.a) e)
In-link_ends (l ∷ ls) p q (inl (inr h)) = inr (inr (In-link_ends ls p q (inl h)))
In-link_ends (l ∷ ls) p q (inr (inl e)) = inr (inl (ap (λ (k : Link). k.b) e))
In-link_ends (l ∷ ls) p q (inr (inr h)) = inr (inr (In-link_ends ls p q (inr h)))

-- where a port joins by the first link, as its first or its second end, or by a later one
Place : Link → List Link → PortIdentity → PortIdentity → Type 0
Place l ls p q = ((p ≡ l.a) × (q ≡ l.b)) ⊎ (((p ≡ l.b) × (q ≡ l.a)) ⊎ JoinedIn ls p q)

-- a port that joins has its place
place : (l : Link) (ls : List Link) (p q : PortIdentity) → JoinedIn (l ∷ ls) p q → Place l ls p q
unfolding Place
place l ls p q (inl (inl e)) = inl (ap (λ (k : Link). k.a) e, ap (λ (k : Link). k.b) e)
place l ls p q (inl (inr h)) = inr (inr (inl h))
place l ls p q (inr (inl e)) = inr (inl (ap (λ (k : Link). k.b) e, ap (λ (k : Link). k.a) e))
place l ls p q (inr (inr h)) = inr (inr (inr h))

-- where all ends of the list differ, a port has one other end
one_link_of : (ls : List Link) → Different (link_ends ls) → (p q r : PortIdentity) → JoinedIn ls p q
    → JoinedIn ls p r → q ≡ r
unfolding Place
one_link_of [] d p q r (inl h) k = absurd h
one_link_of [] d p q r (inr h) k = absurd h
one_link_of (l ∷ ls) d p q r h k = both (one_link_of ls d.1.1 p q r) (place l ls p q h) (place l ls p r k)
  where
    apart : l.a ≡ l.b → ⊥
    apart e = d.0 (inl e)

    a_later : (o : PortIdentity) → p ≡ l.a → JoinedIn ls p o → ⊥
    a_later o e j = d.0 (inr (subst (λ x. In x (link_ends ls)) e (In-link_ends ls p o j)))

    b_later : (o : PortIdentity) → p ≡ l.b → JoinedIn ls p o → ⊥
    b_later o e j = d.1.0 (subst (λ x. In x (link_ends ls)) e (In-link_ends ls p o j))

    both : (JoinedIn ls p q → JoinedIn ls p r → q ≡ r) → Place l ls p q → Place l ls p r → q ≡ r
    both later (inl (a, b)) (inl (c, e)) = b ∙ sym e
    both later (inl (a, b)) (inr (inl (c, e))) = absurd (apart (sym a ∙ c))
    both later (inl (a, b)) (inr (inr j)) = absurd (a_later r a j)
    both later (inr (inl (a, b))) (inl (c, e)) = absurd (apart (sym c ∙ a))
    both later (inr (inl (a, b))) (inr (inl (c, e))) = b ∙ sym e
    both later (inr (inl (a, b))) (inr (inr j)) = absurd (b_later r a j)
    both later (inr (inr i)) (inl (c, e)) = absurd (a_later q c i)
    both later (inr (inr i)) (inr (inl (c, e))) = absurd (b_later q c i)
    both later (inr (inr i)) (inr (inr j)) = later i j

-- where no port is named twice among the ends, a port has one link at most
pub one_link-different_ends : (g : Snapshot) → Different (link_ends g.links) → (p q r : PortIdentity)
    → Joins g p q → Joins g p r → q ≡ r
one_link-different_ends g d = one_link_of g.links d
