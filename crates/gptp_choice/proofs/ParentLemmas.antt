-- Whom a system follows: the first of the ways that lead nearer.
use Rattle.std.proofs.Common.{◌≡◌, ◌⊎◌, ◌+◌, ◌≤◌, ℕ, suc, Option, Some, None, refl, sym, ap, subst, ◌∙◌, inl, inr, arith}
use Rattle.std.proofs.lemmas.Option.{same_Some}
use native.Mathlib.Decide.{ℕ_discrete}
use Rattle.gptp_lists.specs.Members.{In}
use Rattle.gptp_graph.specs.Distance.{IsDistance}
use Rattle.gptp_graph.specs.Order.{IsLower}
use Rattle.gptp_graph.specs.Parent.{JoinsAt, LeadsNearer, ParentLink, key}
use Rattle.gptp_graph.specs.SettledChoice.{IsParentIfAny}
use Rattle.gptp_graph.specs.Snapshot.{System, PortIdentity, Snapshot, IsLinked, IsWellFormed, Joins, clocks, port_of}
use Rattle.gptp_graph.proofs.DistanceLemmas.{IsDistance-unique}
use Rattle.gptp_graph.proofs.LinkLemmas.{JoinsAt-clock}
use Rattle.gptp_graph.proofs.OrderLemmas.{IsLower-irrefl, IsLower-total, IsLower-trans}
use Rattle.gptp_choice.specs.Lines.{IsFirstOf, IsFirstWay}

-- ---- over one port

module _ (g : Snapshot) (wf : IsWellFormed g) (v own steps : ℕ) (here : IsDistance g v steps) where
  pub leads_nearer : (l : ParentLink) (beyond : ℕ) → JoinsAt g v l → IsDistance g l.clock beyond → beyond + 1 ≡ steps
      → LeadsNearer g v l
  leads_nearer l beyond joins there nearer = record {
    joins = joins;
    distance = beyond;
    there = there;
    here = subst (IsDistance g v) (let e = nearer in omega arith) here;
  }

  -- nothing is linked
  pub no_link : (IsLinked g (port_of v own) → ⊥) → (l : ParentLink) → l.own_port ≡ own → LeadsNearer g v l → ⊥
  no_link unlinked l port leads =
      unlinked (subst (λ n. IsLinked g (port_of v n)) port (port_of l.clock l.port, leads.joins))

  -- the system at the other end is none
  pub no_system : (there : PortIdentity) → Joins g (port_of v own) there
      → (In there.clock (clocks g) → ⊥) → (l : ParentLink) → l.own_port ≡ own → LeadsNearer g v l → ⊥
  no_system there joins nobody l port leads =
      let joined = subst (λ n. Joins g (port_of v n) (port_of l.clock l.port)) port leads.joins in
      let one : port_of l.clock l.port ≡ there =
      wf.one_link (port_of v own) (port_of l.clock l.port) there joined joins in
      nobody (subst (λ w. In w (clocks g)) (ap (λ (p : PortIdentity). p.clock) one)
      (JoinsAt-clock g v l wf leads.joins))

  -- it isn't nearer
  pub no_nearer : (there : PortIdentity) (beyond : ℕ) → Joins g (port_of v own) there
      → IsDistance g there.clock beyond → (beyond + 1 ≡ steps → ⊥) → (l : ParentLink) → l.own_port ≡ own
      → LeadsNearer g v l → ⊥
  no_nearer there beyond joins is other l port leads =
      let joined = subst (λ n. Joins g (port_of v n) (port_of l.clock l.port)) port leads.joins in
      let one : port_of l.clock l.port ≡ there =
      wf.one_link (port_of v own) (port_of l.clock l.port) there joined joins in
      let at = subst (λ w. IsDistance g w leads.distance) (ap (λ (p : PortIdentity). p.clock) one) leads.there in
      let a : leads.distance ≡ beyond = IsDistance-unique g there.clock leads.distance beyond wf at is in
      let b : suc leads.distance ≡ steps = IsDistance-unique g v (suc leads.distance) steps wf leads.here here in
      other (omega arith)

-- ---- the first

-- the way goes before the best
pub first_is_way : (before way : ParentLink) → IsLower (key way) (key before) → IsFirstOf (Some before) way way
first_is_way before way lower = record {
  one = inl refl;
  before_way = IsLower-irrefl (key way);
  before_best = λ l is below.
      let same = same_Some before l is in
      IsLower-irrefl (key way)
      (IsLower-trans (key way) (key before) (key way) lower
      (subst (λ (k : ParentLink). IsLower (key k) (key way)) (sym same) below));
}

-- it doesn't
pub first_is_best : (before way : ParentLink) → (IsLower (key way) (key before) → ⊥)
    → IsFirstOf (Some before) way before
first_is_best before way higher = record {
  one = inr refl;
  before_way = higher;
  before_best = λ l is below.
      let same = same_Some before l is in
      IsLower-irrefl (key before) (subst (λ (k : ParentLink). IsLower (key k) (key before)) (sym same) below);
}

-- there is none before
pub first_alone : (way : ParentLink) → IsFirstOf None way way
first_alone way = record {
  one = inl refl;
  before_way = IsLower-irrefl (key way);
  before_best = λ l is below. absurd cc;
}

-- ---- over all ports

module _ (g : Snapshot) (wf : IsWellFormed g) (v : ℕ) where
  -- no port has the number 0
  pub no_way : IsFirstWay g v 0 None
  no_way l less leads =
      let first = (wf.ends (port_of v l.own_port) (port_of l.clock l.port) leads.joins).2.first in
      absurd (omega arith)

  -- the next port leads nowhere nearer
  pub way_passed : (k : ℕ) (best : Option ParentLink)
      → ((l : ParentLink) → l.own_port ≡ suc k → LeadsNearer g v l → ⊥)
      → IsFirstWay g v k best → IsFirstWay g v (suc k) best
  way_passed k None none before = λ l less leads. elim (ℕ_discrete l.own_port (suc k)) [
    | yes last ↦ none l last leads
    | no other ↦ before l (omega arith) leads
  ]
  way_passed k (Some first) none (leads_there, least) = (
    leads_there,
    λ l less leads below. elim (ℕ_discrete l.own_port (suc k)) [
      | yes last ↦ none l last leads
      | no other ↦ least l (omega arith) leads below
    ],
  )

  -- it does
  pub way_added : (k : ℕ) (best : Option ParentLink) (way first : ParentLink) → way.own_port ≡ suc k
      → LeadsNearer g v way → IsFirstOf best way first → IsFirstWay g v k best → IsFirstWay g v (suc k) (Some first)
  way_added k best way first port leads of before = (leads_first, least)
    where
      leads_best : (best : Option ParentLink) → IsFirstWay g v k best → best ≡ Some first → LeadsNearer g v first
      leads_best None before is = absurd cc
      leads_best (Some one) before is = subst (LeadsNearer g v) (same_Some one first is) before.0

      leads_first : LeadsNearer g v first
      leads_first = elim of.one [
        | inl same ↦ subst (LeadsNearer g v) (sym same) leads
        | inr same ↦ leads_best best before same
      ]

      -- over one port one link leads
      one_way : (l : ParentLink) → l.own_port ≡ suc k → LeadsNearer g v l → l ≡ way
      one_way l last there =
          let own : l.own_port ≡ way.own_port = last ∙ sym port in
          let joined = subst (λ n. Joins g (port_of v n) (port_of l.clock l.port)) own there.joins in
          let end : port_of l.clock l.port ≡ port_of way.clock way.port =
          wf.one_link (port_of v way.own_port) (port_of l.clock l.port) (port_of way.clock way.port) joined
          leads.joins in
          λ i. record { own_port = own i; clock = (end i).clock; port = (end i).port }

      earlier : (best : Option ParentLink) → IsFirstWay g v k best
          → ((b : ParentLink) → best ≡ Some b → IsLower (key b) (key first) → ⊥)
          → (l : ParentLink) → l.own_port ≤ k → LeadsNearer g v l → IsLower (key l) (key first) → ⊥
      earlier None before above l less there below = before l less there
      earlier (Some one) before above l less there below =
          by_order (IsLower-total (key first) (key one) refl)
        where
          by_order : (key first ≡ key one) ⊎ (IsLower (key first) (key one) ⊎ IsLower (key one) (key first)) → ⊥
          by_order (inl same) = before.1 l less there (subst (IsLower (key l)) same below)
          by_order (inr (inl lower)) = before.1 l less there (IsLower-trans (key l) (key first) (key one) below lower)
          by_order (inr (inr higher)) = above one refl higher

      least : (l : ParentLink) → l.own_port ≤ suc k → LeadsNearer g v l → IsLower (key l) (key first) → ⊥
      least l less there below = elim (ℕ_discrete l.own_port (suc k)) [
        | yes last ↦ of.before_way
            (subst (λ (m : ParentLink). IsLower (key m) (key first)) (one_way l last there) below)
        | no other ↦ earlier best before of.before_best l (omega arith) there below
      ]

  -- all ports are looked at
  pub parent_found : (ports : ℕ) (best : Option ParentLink)
      → ((s : System) → In s g.systems → s.clock ≡ v → s.ports ≡ ports)
      → IsFirstWay g v ports best → IsParentIfAny g v best
  parent_found ports best all first = by_best best first
    where
      within : (l : ParentLink) → LeadsNearer g v l → l.own_port ≤ ports
      within l leads =
          let (s, live, is) = wf.ends (port_of v l.own_port) (port_of l.clock l.port) leads.joins in
          let many = all s live is.clock in
          let last = is.last in
          omega arith

      by_best : (best : Option ParentLink) → IsFirstWay g v ports best → IsParentIfAny g v best
      by_best None none = λ l is. none l (within l is.nearer) is.nearer
      by_best (Some one) (leads, least) = record {
        nearer = leads;
        least = λ other there below. least other (within other there) there below;
      }
