-- The one link that events take away, from the system at one of its ends to the other.
use Rattle.std.proofs.Common.{◌≡◌, ◌⊎◌, inl, inr, ℕ, Bool, true, List, [], ◌∷◌, filter, refl, sym, ap, subst, ◌∙◌}
use Rattle.std.specs.Prelude.{◌||◌, not}
use Rattle.std.proofs.lemmas.Bool.{and_parts, or_cases}
use Rattle.gptp_lists.specs.Members.{In}
use Rattle.gptp_lists.proofs.SystemSpecLemmas.{from_map, slice_get-In}
use Rattle.gptp_graph.specs.Snapshot.{IsWellFormed, Snapshot, clocks}
use Rattle.gptp_graph.proofs.LinkLemmas.{Joins-clock}
use Rattle.gptp_network.specs.Snapshot.{StandsAfter, link_of}
use Rattle.gptp_network.proofs.SnapshotLemmas.{from_filter}
use Rattle.gptp_scenario.specs.Network.{IsNetwork, NetworkState}
use Rattle.gptp_scenario.specs.declared.change.Timed.{Timed}
use Rattle.gptp_scenario.specs.declared.network.LinkSpec.{LinkSpec}
use Rattle.gptp_how_soon.specs.Chosen.{ends_of, is_used_then, lost_ends}
use Rattle.gptp_how_soon.specs.Links.{is_lost}
use Rattle.gptp_how_soon.specs.declared.chosen.Ends.{Ends}
use Rattle.gptp_how_soon.proofs.ChosenLemmas.{IsAt, at_port, link_stands}

module _ (n : NetworkState) (network : IsNetwork n) (made events : List Timed) where
  -- a link has these ends, by their places and their clocks
  abbrev pub AreEnds : LinkSpec → ℕ → ℕ → ℕ → ℕ → Type 0
  AreEnds w top other top_clock other_clock =
      ((w.a.clock ≡ top_clock) × (w.b.clock ≡ other_clock) × ((ends_of n w).a ≡ top) × ((ends_of n w).b ≡ other))
      ⊎ ((w.b.clock ≡ top_clock) × (w.a.clock ≡ other_clock) × ((ends_of n w).b ≡ top)
      × ((ends_of n w).a ≡ other))

  -- the link that is lost, from a top to the other
  pub record OneLost : Type 0 where
    pub top : ℕ
    pub other : ℕ
    pub top_clock : ℕ
    pub other_clock : ℕ
    pub wire : LinkSpec
    pub known : In wire n.links
    pub used : is_used_then n made wire ≡ true
    pub lost : lost_ends n made events ≡ ends_of n wire ∷ []
    pub ends : AreEnds wire top other top_clock other_clock

  -- where a test holds from one end to the other, or back
  pub record OneLostBy (test : ℕ → ℕ → Bool) : Type 0 where
    pub one : OneLost
    pub so : test one.top one.other ≡ true

  pub one_lost : (test : ℕ → ℕ → Bool) (e : Ends) → lost_ends n made events ≡ e ∷ []
      → (test e.a e.b || test e.b e.a) ≡ true → OneLostBy test
  one_lost test e same is =
      let (w, member, of) = from_map (ends_of n) e (filter (is_lost n made events) n.links)
      (subst (In e) (sym same) (inl refl)) in
      of_wire w member (same ∙ ap (λ d. d ∷ []) (sym of))
      (subst (λ (d : Ends). (test d.a d.b || test d.b d.a) ≡ true) (sym of) is)
    where
      of_wire : (w : LinkSpec) → In w (filter (is_lost n made events) n.links)
          → lost_ends n made events ≡ ends_of n w ∷ []
          → (test (ends_of n w).a (ends_of n w).b || test (ends_of n w).b (ends_of n w).a) ≡ true → OneLostBy test
      of_wire w member lost is =
          let (known, gone) = from_filter (is_lost n made events) w n.links member in
          let used = (and_parts (is_used_then n made w) (not (is_used_then n events w)) gone).0 in
          let e : Ends = ends_of n w in
          elim (or_cases (test e.a e.b) (test e.b e.a) is) [
            | inl first ↦ record {
              one = record {
                top = e.a;
                other = e.b;
                top_clock = w.a.clock;
                other_clock = w.b.clock;
                wire = w;
                known = known;
                used = used;
                lost = lost;
                ends = inl (refl, refl, refl, refl);
              };
              so = first;
            }
            | inr second ↦ record {
              one = record {
                top = e.b;
                other = e.a;
                top_clock = w.b.clock;
                other_clock = w.a.clock;
                wire = w;
                known = known;
                used = used;
                lost = lost;
                ends = inr (refl, refl, refl, refl);
              };
              so = second;
            }
          ]

  -- ---- its ends

  module _ (g : Snapshot) (stands : StandsAfter n made g) (well : IsWellFormed g) where
    place_a : (w : LinkSpec) → In w n.links → IsAt n (ends_of n w).a w.a.clock
    place_a w member =
        let (place, there) = slice_get-In w n.links member in
        at_port n network made g stands well w.a (network.links place w there).a

    place_b : (w : LinkSpec) → In w n.links → IsAt n (ends_of n w).b w.b.clock
    place_b w member =
        let (place, there) = slice_get-In w n.links member in
        at_port n network made g stands well w.b (network.links place w there).b

    -- a link with these ends joins the systems at these places
    pub ends_at_places : (w : LinkSpec) (i j v u : ℕ) → In w n.links → AreEnds w i j v u → IsAt n i v × IsAt n j u
    ends_at_places w i j v u known (inl (a, b, first, second)) = (
      subst (λ c. IsAt n i c) a (subst (λ k. IsAt n k w.a.clock) first (place_a w known)),
      subst (λ c. IsAt n j c) b (subst (λ k. IsAt n k w.b.clock) second (place_b w known)),
    )
    ends_at_places w i j v u known (inr (b, a, second, first)) = (
      subst (λ c. IsAt n i c) b (subst (λ k. IsAt n k w.b.clock) second (place_b w known)),
      subst (λ c. IsAt n j c) a (subst (λ k. IsAt n k w.a.clock) first (place_a w known)),
    )

  module _ (t : OneLost) (g : Snapshot) (stands : StandsAfter n made g) (well : IsWellFormed g) where
    ends_there : IsAt n t.top t.top_clock × IsAt n t.other t.other_clock
    ends_there = ends_at_places g stands well t.wire t.top t.other t.top_clock t.other_clock t.known t.ends

    pub at_top : IsAt n t.top t.top_clock
    at_top = ends_there.0

    pub at_other : IsAt n t.other t.other_clock
    at_other = ends_there.1

    -- both stood in the snapshot
    pub known_ends : In t.top_clock (clocks g) × In t.other_clock (clocks g)
    known_ends =
        let l = link_of (t.wire.a, t.wire.b) in
        let member = link_stands n network made g stands well t.wire t.known t.used in
        let first = Joins-clock g l.a l.b well (inl member) in
        let second = Joins-clock g l.b l.a well (inr member) in
        elim t.ends [
          | inl (a, b, at, to) ↦ (subst (λ v. In v (clocks g)) a first, subst (λ v. In v (clocks g)) b second)
          | inr (b, a, at, to) ↦ (subst (λ v. In v (clocks g)) b second, subst (λ v. In v (clocks g)) a first)
        ]

  -- a link that is lost has these ends, the one way or the other
  pub lost_between : (t : OneLost) (e : Ends) → In e (lost_ends n made events)
      → ((e.a ≡ t.top) × (e.b ≡ t.other)) ⊎ ((e.b ≡ t.top) × (e.a ≡ t.other))
  lost_between t e listed = elim (subst (In e) t.lost listed) [
    | inl one ↦ elim t.ends [
      | inl (x, y, top, other) ↦ inl (ap (λ (d : Ends). d.a) one ∙ top, ap (λ (d : Ends). d.b) one ∙ other)
      | inr (x, y, top, other) ↦ inr (ap (λ (d : Ends). d.b) one ∙ top, ap (λ (d : Ends). d.a) one ∙ other)
    ]
    | inr none ↦ absurd none
  ]
