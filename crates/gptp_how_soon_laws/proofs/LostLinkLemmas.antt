-- Links of the network that a snapshot's links are: the places of their ends, whether they are lost, and which join two
-- systems.
use Rattle.std.proofs.Common.{◌≡◌, ◌⊎◌, inl, inr, ℕ, Bool, true, false, List, [], filter, refl, sym, ap, subst, ◌∙◌}
use Rattle.std.specs.Prelude.{not}
use Rattle.std.proofs.lemmas.Bool.{and_from}
use Rattle.gptp_lists.specs.Members.{In}
use Rattle.gptp_lists.proofs.SystemSpecLemmas.{In-map}
use Rattle.gptp_graph.specs.Snapshot.{IsWellFormed, Joins, Link, PortIdentity, Snapshot, port_of}
use Rattle.gptp_scenario.specs.Network.{IsNetwork, NetworkState}
use Rattle.gptp_scenario.specs.declared.change.Timed.{Timed}
use Rattle.gptp_scenario.specs.declared.network.LinkSpec.{LinkSpec}
use Rattle.gptp_network.specs.Snapshot.{StandsAfter, link_of}
use Rattle.gptp_network.proofs.InUseLemmas.{runs}
use Rattle.gptp_network.proofs.PassLemmas.{kept}
use Rattle.gptp_topology.specs.After.{systems_after}
use Rattle.gptp_how_soon.specs.Chosen.{ends_of, is_used_then, lost_ends, place_of}
use Rattle.gptp_how_soon.specs.Links.{is_lost}
use Rattle.gptp_how_soon.specs.declared.chosen.Ends.{Ends}
use Rattle.gptp_how_soon.proofs.ChosenLemmas.{IsAt, link_stands, place_is, used_then}

-- the links that are in use after these events
abbrev pub used_links : NetworkState → List Timed → List LinkSpec
used_links n events = filter (is_used_then n events) n.links

-- A link leads from one of two ports of a system to another system, and is also the link from the other port to one: it
-- is one port.
pub same_port : (v p q : ℕ) (a b : PortIdentity) {k l : Link} → (a.clock ≡ v → ⊥) → (b.clock ≡ v → ⊥)
    → (k ≡ record { a = port_of v p; b = a }) ⊎ (k ≡ record { a = a; b = port_of v p })
    → (l ≡ record { a = port_of v q; b = b }) ⊎ (l ≡ record { a = b; b = port_of v q })
    → k ≡ l → p ≡ q
same_port v p q a b apart apart' (inl e) (inl f) same = ap (λ (m : Link). m.a.port) (sym e ∙ same ∙ f)
same_port v p q a b apart apart' (inl e) (inr f) same =
    absurd (apart' (sym (ap (λ (m : Link). m.a.clock) (sym e ∙ same ∙ f))))
same_port v p q a b apart apart' (inr e) (inl f) same =
    absurd (apart (ap (λ (m : Link). m.a.clock) (sym e ∙ same ∙ f)))
same_port v p q a b apart apart' (inr e) (inr f) same = ap (λ (m : Link). m.b.port) (sym e ∙ same ∙ f)

module _ (n : NetworkState) (network : IsNetwork n) (made : List Timed) (g : Snapshot) (stands : StandsAfter n made g)
    (well : IsWellFormed g) where
  -- a link between two systems has its ends at their places
  pub ends_are : (w : LinkSpec) (v u i j : ℕ) (l : Link) → link_of (w.a, w.b) ≡ l → l.a.clock ≡ v → l.b.clock ≡ u
      → IsAt n i v → IsAt n j u → ends_of n w ≡ record { a = i; b = j }
  ends_are w v u i j l same a b at at' =
      let first : (ends_of n w).a ≡ i =
      ap (place_of (systems_after n [])) (ap (λ (k : Link). k.a.clock) same ∙ a)
      ∙ place_is n network made g stands well [] i v at in
      let second : (ends_of n w).b ≡ j =
      ap (place_of (systems_after n [])) (ap (λ (k : Link). k.b.clock) same ∙ b)
      ∙ place_is n network made g stands well [] j u at' in
      λ k. record { a = first k; b = second k }

  -- a link of before stands after more events, or it is among those that are lost
  module _ (events : List Timed) (h : Snapshot) (stands' : StandsAfter n events h) (well' : IsWellFormed h) where
    abbrev pub IsLostLink : Link → Type 0
    IsLostLink l = (w : LinkSpec) × (link_of (w.a, w.b) ≡ l) × In (ends_of n w) (lost_ends n made events)

    pub stands_or_lost : (l : Link) → In l g.links → In l h.links ⊎ IsLostLink l
    stands_or_lost l member =
        let r = runs n network made g stands l member in
        by r.wire r.member r.is (used_then n network made g stands well r.wire r.used) (is_used_then n events r.wire)
        refl
      where
        by : (w : LinkSpec) → In w n.links → link_of (w.a, w.b) ≡ l → is_used_then n made w ≡ true → (still : Bool)
            → is_used_then n events w ≡ still → In l h.links ⊎ IsLostLink l
        by w known same used true still =
            inl (subst (λ k. In k h.links) same (link_stands n network events h stands' well' w known still))
        by w known same used false gone =
            inr (
              w,
              same,
              In-map (ends_of n) w (filter (is_lost n made events) n.links)
                  (kept (is_lost n made events) w n.links known
                  (and_from (is_used_then n made w) (not (is_used_then n events w)) used (ap not gone))),
            )

    -- a link that is lost has its ends at two places
    pub record IsLostBetween (i j : ℕ) : Type 0 where
      pub ends : Ends
      pub listed : In ends (lost_ends n made events)
      pub between : (ends ≡ record { a = i; b = j }) ⊎ (ends ≡ record { a = j; b = i })

    -- at the one of them it has one
    pub lost_at : (i j : ℕ) (x : IsLostBetween i j) → (x.ends.a ≡ i) ⊎ (x.ends.b ≡ i)
    lost_at i j x = elim x.between [
      | inl same ↦ inl (ap (λ (e : Ends). e.a) same)
      | inr same ↦ inr (ap (λ (e : Ends). e.b) same)
    ]

    -- two ports that were joined still are, or the link between them is lost
    pub joins_or_lost : (i j : ℕ) (p q : PortIdentity) → IsAt n i p.clock → IsAt n j q.clock → Joins g p q
        → Joins h p q ⊎ IsLostBetween i j
    joins_or_lost i j p q at at' (inl member) =
        let l : Link = record { a = p; b = q } in
        elim (stands_or_lost l member) [
          | inl still ↦ inl (inl still)
          | inr (w, same, listed) ↦ inr (record {
            ends = ends_of n w;
            listed = listed;
            between = inl (ends_are w p.clock q.clock i j l same refl refl at at');
          })
        ]
    joins_or_lost i j p q at at' (inr member) =
        let l : Link = record { a = q; b = p } in
        elim (stands_or_lost l member) [
          | inl still ↦ inl (inr still)
          | inr (w, same, listed) ↦ inr (record {
            ends = ends_of n w;
            listed = listed;
            between = inr (ends_are w q.clock p.clock j i l same refl refl at' at);
          })
        ]

    -- a link in use joins the systems at two places
    pub record IsJoinedBy (i j : ℕ) (p q : PortIdentity) : Type 0 where
      pub wire : LinkSpec
      pub among : In wire (used_links n events)
      pub by : ((ends_of n wire ≡ record { a = i; b = j }) × (link_of (wire.a, wire.b) ≡ record { a = p; b = q }))
          ⊎ ((ends_of n wire ≡ record { a = j; b = i }) × (link_of (wire.a, wire.b) ≡ record { a = q; b = p }))

    pub joined_by : (i j : ℕ) (p q : PortIdentity) → IsAt n i p.clock → IsAt n j q.clock → Joins h p q
        → IsJoinedBy i j p q
    joined_by i j p q at at' (inl member) =
        let l : Link = record { a = p; b = q } in
        let r = runs n network events h stands' l member in
        record {
          wire = r.wire;
          among = kept (is_used_then n events) r.wire n.links r.member
              (used_then n network events h stands' well' r.wire r.used);
          by = inl (ends_are r.wire p.clock q.clock i j l r.is refl refl at at', r.is);
        }
    joined_by i j p q at at' (inr member) =
        let l : Link = record { a = q; b = p } in
        let r = runs n network events h stands' l member in
        record {
          wire = r.wire;
          among = kept (is_used_then n events) r.wire n.links r.member
              (used_then n network events h stands' well' r.wire r.used);
          by = inr (ends_are r.wire q.clock p.clock j i l r.is refl refl at' at, r.is);
        }
