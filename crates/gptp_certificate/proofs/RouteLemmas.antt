-- Routes over the links of a snapshot, and the links that lead from place to place among clocks that rise.
use Rattle.std.proofs.Common.{◌≡◌, ℕ, zero, suc, List, [], ◌∷◌, length, Option, Some, slice_get, refl, sym, ap, subst, ◌∙◌, inl, inr}
use Rattle.std.proofs.lemmas.Option.{none-some, same_Some, slice_get_within}
use Rattle.gptp_lists.specs.Members.{Different, In}
use Rattle.gptp_lists.proofs.SystemSpecLemmas.{In-map, In-slice_get, from_map}
use Rattle.gptp_graph.specs.Path.{Route}
use Rattle.gptp_graph.specs.Snapshot.{Adjacent, Joins, Link, Snapshot, port_of}
use Rattle.gptp_certificate.specs.Marking.{ArePairs, clocks_at, clocks_in}
use Rattle.gptp_certificate.specs.Rounds.{LinksAreWithin, Leads, LinkTouches}

-- a number stands at one place among different ones
pub one_place : (xs : List ℕ) (i j x : ℕ) → Different xs → slice_get xs i ≡ Some x → slice_get xs j ≡ Some x → i ≡ j
one_place [] i j x differ here there = absurd (none-some x here)
one_place (y ∷ ys) zero zero x differ here there = refl
one_place (y ∷ ys) zero (suc j) x differ here there =
    absurd (differ.0 (subst (λ z. In z ys) (sym (same_Some y x here)) (In-slice_get x ys j there)))
one_place (y ∷ ys) (suc i) zero x differ here there =
    absurd (differ.0 (subst (λ z. In z ys) (sym (same_Some y x there)) (In-slice_get x ys i here)))
one_place (y ∷ ys) (suc i) (suc j) x differ here there = ap suc (one_place ys i j x differ.1 here there)

module _ (g : Snapshot) (clocks : List ℕ) (pairs : List (ℕ × ℕ)) (are : ArePairs clocks g.links pairs)
    (differ : Different clocks) where
  -- the clocks at the places of a pair are those at the ends of a link
  record IsLinkOf (i j : ℕ) : Type 0 where
    link : Link
    member : In link g.links
    a : slice_get clocks i ≡ Some link.a.clock
    b : slice_get clocks j ≡ Some link.b.clock

  link_of_pair : (i j : ℕ) → In (i, j) pairs → IsLinkOf i j
  link_of_pair i j member =
      let (l, among, e) = from_map clocks_at (clocks_in clocks (i, j)) g.links
      (subst (In (clocks_in clocks (i, j))) are (In-map (clocks_in clocks) (i, j) pairs member)) in
      record {
        link = l;
        member = among;
        a = sym (ap (λ (p : Option ℕ × Option ℕ). p.0) e);
        b = sym (ap (λ (p : Option ℕ × Option ℕ). p.1) e);
      }

  -- so places of pairs are among the clocks
  pub within : LinksAreWithin (length clocks) pairs
  within i j member =
      let is = link_of_pair i j member in (
        slice_get_within clocks i is.link.a.clock is.a,
        slice_get_within clocks j is.link.b.clock is.b,
      )

  -- what a pair touches is a neighbour
  neighbour : (i j v : ℕ) → LinkTouches pairs i j → slice_get clocks i ≡ Some v
      → (u : ℕ) × (slice_get clocks j ≡ Some u) × Adjacent g v u
  neighbour i j v (inl member) here =
      let is = link_of_pair i j member in
      let clock : is.link.a.clock ≡ v = same_Some is.link.a.clock v (sym is.a ∙ here) in (
        is.link.b.clock,
        is.b,
        (
          is.link.a.port,
          is.link.b.port,
          subst (λ c. Joins g (port_of c is.link.a.port) (port_of is.link.b.clock is.link.b.port)) clock
              (inl is.member),
        ),
      )
  neighbour i j v (inr member) here =
      let is = link_of_pair j i member in
      let clock : is.link.b.clock ≡ v = same_Some is.link.b.clock v (sym is.b ∙ here) in (
        is.link.a.clock,
        is.a,
        (
          is.link.b.port,
          is.link.a.port,
          subst (λ c. Joins g (port_of c is.link.b.port) (port_of is.link.a.clock is.link.a.port)) clock
              (inr is.member),
        ),
      )

  -- so links that lead from place to place are a route
  pub route_of : (k i j v : ℕ) → Leads pairs i j k → slice_get clocks i ≡ Some v
      → (w : ℕ) × (slice_get clocks j ≡ Some w) × ((us : List ℕ) × Route g v w us × (length us ≡ k))
  route_of zero i j v same here =
      (v, subst (λ p. slice_get clocks p ≡ Some v) same here, ([], refl, refl))
  route_of (suc k) i j v (m, touches, leads) here =
      let (u, there, adjacent) = neighbour i m v touches here in
      let (w, at, (us, route, long)) = route_of k m j u leads there in
      (w, at, (u ∷ us, (adjacent, route), ap suc long))

  -- ---- and a route is such links

  -- a pair stands at the places of the clocks at the ends of a link
  pair_of_link : (link : Link) → In link g.links → (p : ℕ × ℕ) × In p pairs
      × (slice_get clocks p.0 ≡ Some link.a.clock) × (slice_get clocks p.1 ≡ Some link.b.clock)
  pair_of_link link member =
      let (p, among, e) = from_map (clocks_in clocks) (clocks_at link) pairs
      (subst (In (clocks_at link)) (sym are) (In-map clocks_at link g.links member)) in
      (p, among, ap (λ (q : Option ℕ × Option ℕ). q.0) e, ap (λ (q : Option ℕ × Option ℕ). q.1) e)

  touched : (i v u : ℕ) → Adjacent g v u → slice_get clocks i ≡ Some v
      → (j : ℕ) × (slice_get clocks j ≡ Some u) × LinkTouches pairs i j
  touched i v u (m, n, inl member) here =
      let (p, among, a, b) = pair_of_link (record { a = port_of v m; b = port_of u n }) member in
      let same : p.0 ≡ i = one_place clocks p.0 i v differ a here in
      (p.1, b, inl (subst (λ x. In (x, p.1) pairs) same among))
  touched i v u (m, n, inr member) here =
      let (p, among, a, b) = pair_of_link (record { a = port_of u n; b = port_of v m }) member in
      let same : p.1 ≡ i = one_place clocks p.1 i v differ b here in
      (p.0, a, inr (subst (λ x. In (p.0, x) pairs) same among))

  pub leads_of : (us : List ℕ) (i v w : ℕ) → Route g v w us → slice_get clocks i ≡ Some v
      → (j : ℕ) × (slice_get clocks j ≡ Some w) × Leads pairs i j (length us)
  leads_of [] i v w same here = (i, here ∙ ap Some same, refl)
  leads_of (u ∷ us) i v w (adjacent, route) here =
      let (m, there, touches) = touched i v u adjacent here in
      let (j, at, leads) = leads_of us m u w route there in
      (j, at, (m, touches, leads))
