-- Tests that compute: where the test of a fact is true, the fact holds. A fact about literals follows by `refl`.
use Rattle.std.proofs.Common.{◌≡◌, ◌⊎◌, Bool, true, false, ◌&&◌, ◌||◌, List, [], ◌∷◌, refl, sym, subst, inl, inr}
use Rattle.gptp_lists.specs.Members.{In}
use Rattle.gptp_graph.specs.Snapshot.{PortIdentity, Link, Snapshot, Joins}
use Rattle.gptp_graph.proofs.LinkDecisions.{PortIdentity-dec}

-- a test of the fact
abbrev pub Sure : Type 0 → Type 0
Sure A = (test : Bool) × (test ≡ true → A)

-- a test that failed isn't true
pub failed : {A : Type 0} → false ≡ true → A
failed e = absurd cc

-- both of two tests that are true together
pub and_true : (a b : Bool) → (a && b) ≡ true → (a ≡ true) × (b ≡ true)
and_true true b e = (refl, e)
and_true false b e = failed e

-- one of two tests
pub or_true : (a b : Bool) → (a || b) ≡ true → (a ≡ true) ⊎ (b ≡ true)
or_true true b e = inl refl
or_true false b e = inr e

-- a fact that follows
abbrev pub so : {A B : Type 0} → (A → B) → Sure A → Sure B
so f a = (a.0, λ e. f (a.1 e))

-- two facts
abbrev pub both : {A B : Type 0} → Sure A → Sure B → Sure (A × B)
both a b = (a.0 && b.0, λ e. let h = and_true a.0 b.0 e in (a.1 h.0, b.1 h.1))

-- one of two facts
abbrev pub either : {A B : Type 0} → Sure A → Sure B → Sure (A ⊎ B)
either a b = (a.0 || b.0, λ e. elim (or_true a.0 b.0 e) [ inl h ↦ inl (a.1 h) | inr h ↦ inr (b.1 h) ])

-- a fact that is decided
abbrev pub decided : {A : Type 0} → Dec A → Sure A
decided (yes a) = (true, λ e. a)
decided (no f) = (false, failed)

-- the contrary of one
abbrev pub denied : {A : Type 0} → Dec A → Sure (A → ⊥)
denied (yes a) = (false, failed)
denied (no f) = (true, λ e. f)

-- a fact where another holds
abbrev pub where_holds : {A B : Type 0} → Dec A → Sure B → Sure (A → B)
where_holds (yes a) b = (b.0, λ e h. b.1 e)
where_holds (no f) b = (true, λ e h. absurd (f h))

-- a fact about all members
abbrev pub for_all : {X : Type 0} (P : X → Type 0) (xs : List X) → ((x : X) → Sure (P x))
    → Sure ((x : X) → In x xs → P x)
for_all P [] t = (true, λ e x h. absurd h)
for_all P (x ∷ xs) t =
    so (λ a y h. elim h [ inl e ↦ subst P (sym e) a.0 | inr k ↦ a.1 y k ]) (both (t x) (for_all P xs t))

-- a fact about some member
abbrev pub for_some : {X : Type 0} (P : X → Type 0) (xs : List X) → ((x : X) → Sure (P x))
    → Sure ((x : X) × In x xs × P x)
for_some P [] t = (false, failed)
for_some P (x ∷ xs) t =
    so (λ a. elim a [ inl p ↦ (x, inl refl, p) | inr (y, h, p) ↦ (y, inr h, p) ]) (either (t x) (for_some P xs t))

-- a fact about the two ends of each link
abbrev pub for_links : (g : Snapshot) (P : PortIdentity → PortIdentity → Type 0)
    → ((p q : PortIdentity) → Sure (P p q)) → Sure ((p q : PortIdentity) → Joins g p q → P p q)
for_links g P t =
    so ends (for_all (λ (l : Link). P l.a l.b × P l.b l.a) g.links (λ l. both (t l.a l.b) (t l.b l.a)))
  where
    ends : ((l : Link) → In l g.links → P l.a l.b × P l.b l.a) → (p q : PortIdentity) → Joins g p q → P p q
    ends h p q (inl at) = (h (record { a = p; b = q }) at).0
    ends h p q (inr at) = (h (record { a = q; b = p }) at).1

-- a fact about the other end of a port's link
abbrev pub for_end : (g : Snapshot) (p : PortIdentity) (P : PortIdentity → Type 0)
    → ((q : PortIdentity) → Sure (P q)) → Sure ((q : PortIdentity) × Joins g p q × P q)
for_end g p P t = so other (for_some (λ (l : Link). ((l.a ≡ p) × P l.b) ⊎ ((l.b ≡ p) × P l.a)) g.links
    (λ l. either (both (decided (PortIdentity-dec l.a p)) (t l.b))
    (both (decided (PortIdentity-dec l.b p)) (t l.a))))
  where
    other : ((l : Link) × In l g.links × (((l.a ≡ p) × P l.b) ⊎ ((l.b ≡ p) × P l.a)))
        → (q : PortIdentity) × Joins g p q × P q
    other (l, at, inl (e, h)) = (l.b, inl (subst (λ k. In k g.links) (λ i. record { a = e i; b = l.b }) at), h)
    other (l, at, inr (e, h)) = (l.a, inr (subst (λ k. In k g.links) (λ i. record { a = l.a; b = e i }) at), h)

-- a link joins the ports
abbrev pub sure_joins : (g : Snapshot) (p q : PortIdentity) → Sure (Joins g p q)
sure_joins g p q =
    so (λ (r, joins, e). subst (Joins g p) e joins)
    (for_end g p (λ r. r ≡ q) (λ r. decided (PortIdentity-dec r q)))
