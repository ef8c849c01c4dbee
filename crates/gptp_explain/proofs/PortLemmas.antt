-- Why ports have their settled roles.
use Rattle.std.proofs.Common.{◌≡◌, ◌⊎◌, ◌<◌, ◌+◌, ℕ, zero, suc, true, false, Option, Some, None, List, slice_get, refl, sym, ap, subst, ◌∙◌, inl, inr, arith}
use Rattle.gptp_lists.specs.Members.{In}
use Rattle.gptp_lists.proofs.SystemSpecLemmas.{In-slice_get, slice_get-In}
use Rattle.gptp_graph.specs.Snapshot.{Snapshot, IsLinked, IsWellFormed, Joins, clocks}
use Rattle.gptp_graph.specs.Distance.{IsDistance}
use Rattle.gptp_graph.specs.Labelling.{SystemLine}
use Rattle.gptp_graph.specs.Parent.{ParentLink}
use Rattle.gptp_graph.specs.SettledChoice.{IsParentIfAny}
use Rattle.gptp_graph.specs.SettledRole.{Master, Passive, Slave}
use Rattle.gptp_graph.proofs.BestLemmas.{IsBest-agree}
use Rattle.gptp_graph.proofs.DistanceLemmas.{best_at_zero}
use Rattle.gptp_graph.proofs.ParentLemmas.{parent_exists}
use Rattle.gptp_scenario.specs.Change.{link_after}
use Rattle.gptp_scenario.specs.declared.change.Timed.{Timed}
use Rattle.gptp_scenario.specs.declared.network.LinkSpec.{LinkSpec}
use Rattle.gptp_network.specs.Document.{DocumentState}
use Rattle.gptp_network.specs.Snapshot.{IsSnapshot, events_by, link_of, port_identity}
use Rattle.gptp_vector.specs.declared.port.PortId.{PortId}
use Rattle.gptp_explain.specs.Compared.{loss, win}
use Rattle.gptp_explain.specs.Ports.{OtherEndHasFailed, IsKnownLink, IsDocumentLink, IsPortOfLine, IsPortWay, JoinsPorts, LosesWay, OffersWay, WinsWay, parent_port}
use Rattle.gptp_explain.specs.declared.why.Why.{Why}
use Rattle.gptp_explain.specs.declared.why.Why.TheVariants.{Down, Failed, Loses, Offers, Unlinked, Wins}
use Rattle.gptp_explain.proofs.UsedLemmas.{clock_there, in_used, joined_up}

-- what isn't none is some
pub not_none : {A : Type 0} (o : Option A) → (o ≡ None → ⊥) → (a : A) × (o ≡ Some a)
not_none None none = absurd (none refl)
not_none (Some a) none = (a, refl)

module _ (g : Snapshot) (line : SystemLine) (p : PortId) where
  -- what the line states of the port's system
  own_distance : {role : _} → IsPortOfLine g line p role → IsDistance g p.clock line.steps
  own_distance own = subst (λ v. IsDistance g v line.steps) (sym own.clock) own.settled.steps

  own_parent : {role : _} → IsPortOfLine g line p role → IsParentIfAny g p.clock line.parent
  own_parent own = subst (λ v. IsParentIfAny g v line.parent) (sym own.clock) (own.settled.parent own.near)

  -- a Slave port offers the way over the parent
  pub slave_offers : IsPortOfLine g line p Slave → (l : ParentLink) → line.parent ≡ Some l
      → OffersWay g p (Offers (parent_port l) line.steps)
  slave_offers own l is =
      (l, line.steps, subst (IsParentIfAny g p.clock) is (own_parent own), own_distance own, refl)

  pub slave_has_parent : IsPortOfLine g line p Slave → line.parent ≡ None → ⊥
  slave_has_parent own none =
      subst (IsParentIfAny g p.clock) none (own_parent own) own.role.1.0 own.role.1.1

  -- the way over the port's link
  way_over : {role : _} → IsPortOfLine g line p role → (there : PortId) (beyond : ℕ)
      → Joins g (port_identity p) (port_identity there) → IsDistance g there.clock beyond → IsPortWay g p
  way_over own there beyond joins distance = record {
    there = there;
    joins = joins;
    steps = line.steps;
    here = own_distance own;
    beyond = beyond;
    beyond_is = distance;
  }

  -- a Master port wins over it
  pub master_wins : IsPortOfLine g line p Master → (there : PortId) (beyond : ℕ)
      → Joins g (port_identity p) (port_identity there) → IsDistance g there.clock beyond
      → WinsWay g p (Wins there (win line.steps line.clock beyond there.clock))
  unfolding way_over
  master_wins own there beyond joins distance = (
    way_over own there beyond joins distance,
    ap (λ v. Wins there (win line.steps v beyond there.clock)) (sym own.clock),
  )

  -- a Passive port loses by it against the parent
  pub passive_loses : IsPortOfLine g line p Passive → (there : PortId) (beyond : ℕ)
      → Joins g (port_identity p) (port_identity there) → IsDistance g there.clock beyond
      → (l : ParentLink) → line.parent ≡ Some l
      → LosesWay g p (Loses there (beyond + 1) (loss line.steps (parent_port l) (beyond + 1) there))
  unfolding way_over
  passive_loses own there beyond joins distance l is =
      (l, way_over own there beyond joins distance, subst (IsParentIfAny g p.clock) is (own_parent own), refl)

  -- and has one: its system isn't the root, whose ports are nearer than the other ends
  module _ (wf : IsWellFormed g) (own : IsPortOfLine g line p Passive) (there : PortId) (beyond : ℕ)
      (joins : Joins g (port_identity p) (port_identity there)) (distance : IsDistance g there.clock beyond)
      (none : line.parent ≡ None) where
    nearer : (d : ℕ) → IsDistance g p.clock d → d < beyond → ⊥
    nearer d here less = own.role.2 (record {
      other = port_identity there;
      joins = joins;
      here = d;
      there = beyond;
      is_here = here;
      is_there = distance;
      nearer = inl less;
    })

    by_distance : (d e : ℕ) → line.steps ≡ d → beyond ≡ e → ⊥
    by_distance (suc d) e is far =
        let parent =
        parent_exists g p.clock d wf (subst (IsDistance g p.clock) is (own_distance own)) in
        subst (IsParentIfAny g p.clock) none (own_parent own) parent.0 parent.1
    by_distance zero (suc e) is far = nearer line.steps (own_distance own) (omega arith)
    by_distance zero zero is far =
        let here = subst (IsDistance g p.clock) is (own_distance own) in
        let over = subst (IsDistance g there.clock) far distance in
        let same =
        IsBest-agree g p.clock there.clock here.best over.best wf (p.port, there.port, joins) here.is_best
        over.is_best in
        wf.apart (port_identity p) (port_identity there) joins
        (sym (best_at_zero g p.clock here.best wf here.is_best here)
        ∙ ap (λ (s : _). s.clock) same ∙ best_at_zero g there.clock over.best wf over.is_best over)

    pub passive_has_parent : ⊥
    passive_has_parent = by_distance line.steps beyond refl refl

-- ---- ports at which nothing is linked

module _ (d : DocumentState) (at : ℕ) (p : PortId) where
  -- what is known of the link at a place
  pub known_there : (w : LinkSpec) (there : PortId) (why : Why) (place : ℕ) → slice_get d.network.links place ≡ Some w
      → JoinsPorts w p there → (events : List Timed) → events ≡ events_by at d.events
      → ((why ≡ Down there) × ((link_after events w).up ≡ false))
      ⊎ ((why ≡ Failed there) × ((link_after events w).up ≡ true))
      → IsKnownLink d at p why
  known_there w there why place here leads events are (inl (is, down)) =
      let known : IsKnownLink d at p (Down there) = record {
        wire = w;
        one = In-slice_get w d.network.links place here;
        leads = leads;
        stands = subst (λ (es : List Timed). (link_after es w).up ≡ false) are down;
      } in
      subst (IsKnownLink d at p) (sym is) known
  known_there w there why place here leads events are (inr (is, up)) =
      let known : IsKnownLink d at p (Failed there) = record {
        wire = w;
        one = In-slice_get w d.network.links place here;
        leads = leads;
        stands = subst (λ (es : List Timed). (link_after es w).up ≡ true) are up;
      } in
      subst (IsKnownLink d at p) (sym is) known

  -- where no link leads from the port
  pub none_known : ((place : ℕ) (w : LinkSpec) (there : PortId) → slice_get d.network.links place ≡ Some w
      → JoinsPorts w p there → ⊥)
      → IsKnownLink d at p Unlinked
  none_known none w there one leads =
      let (place, here) = slice_get-In w d.network.links one in none place w there here leads

  -- a link that is up leads to no live system, where nothing is linked with the port of one
  pub has_failed : (g : Snapshot) (why : Why) → IsSnapshot d at g → In p.clock (clocks g)
      → (IsLinked g (port_identity p) → ⊥) → IsKnownLink d at p why → OtherEndHasFailed g why
  has_failed g why stands live unlinked known there is lives =
      up (subst (IsKnownLink d at p) is known)
    where
      used : (a b : PortId) (w : LinkSpec) → In w d.network.links → w.a ≡ a → w.b ≡ b
          → (link_after (events_by at d.events) w).up ≡ true → In a.clock (clocks g) → In b.clock (clocks g)
          → In (link_of (a, b)) g.links
      used a b w one is_a is_b up here over =
          subst (In (link_of (a, b))) (sym stands.links)
          (in_used d.network.links (events_by at d.events) g.systems w a b one
          (joined_up (events_by at d.events) w a b is_a is_b up) (clock_there g a.clock here)
          (clock_there g b.clock over))

      up : IsDocumentLink d at p there true → ⊥
      up link = elim link.leads [
        | inl ends ↦ unlinked
            (port_identity there, inl (used p there link.wire link.one ends.0 ends.1 link.stands live lives))
        | inr ends ↦ unlinked
            (port_identity there, inr (used there p link.wire link.one ends.1 ends.0 link.stands lives live))
      ]
