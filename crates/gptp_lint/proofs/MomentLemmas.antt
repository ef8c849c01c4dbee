-- Each time of a document has its moment, as its events are passed.
use Rattle.std.proofs.Common.{◌≡◌, ◌⊎◌, ◌<◌, ◌^◌, ℕ, List, [], ◌∷◌, ◌++◌, map, sym, ap, subst, ◌∙◌, inl, inr, arith}
use Rattle.gptp_lists.specs.Members.{In}
use Rattle.gptp_lists.proofs.SystemSpecLemmas.{In-map}
use Rattle.gptp_graph.specs.Snapshot.{IsWellFormed, Snapshot, System}
use Rattle.gptp_graph.specs.Path.{Reaches}
use Rattle.gptp_graph.proofs.PathLemmas.{Reaches-self}
use Rattle.gptp_graph.proofs.SystemLemmas.{In-clocks}
use Rattle.gptp_scenario.specs.Network.{IsNetwork, NetworkState}
use Rattle.gptp_scenario.specs.declared.change.Timed.{Timed}
use Rattle.gptp_network.specs.Document.{DocumentState}
use Rattle.gptp_network.specs.Snapshot.{StandsAfter, events_by}
use Rattle.gptp_network.proofs.ExistenceLemmas.{stands_after}
use Rattle.gptp_network.proofs.SnapshotLemmas.{member_there, stands_well}
use Rattle.gptp_topology.specs.After.{system_then, systems_after}
use Rattle.gptp_topology.proofs.PassedLemmas.{Passed, passed_last, passed_next, passed_same}
use Rattle.gptp_lint.specs.Components.{AreBests, AreChances, AreMoments, IsChance, IsBestsMoment}
use Rattle.gptp_lint.specs.Graph.{HaveOctets, edge_after, graph_after}
use Rattle.gptp_lint.specs.Labels.{lone_label, joined_all, labels_in}
use Rattle.gptp_lint.specs.Moments.{AreChancesOf, AreSorted, IsMomentOf, MomentIsTold}
use Rattle.gptp_lint.specs.declared.components.Moment.{Moment}
use Rattle.gptp_lint.specs.declared.graph.Edge.{Edge}
use Rattle.gptp_lint.specs.declared.labels.Label.{Label}
use Rattle.gptp_lint.proofs.BestLemmas.{are_bests, are_chances}
use Rattle.gptp_lint.proofs.FitsLemmas.{alone_reached, fits}
use Rattle.gptp_lint.proofs.LabelLemmas.{Found, all_found, weaker}

-- ---- what is found at a moment

module _ (n : NetworkState) (network : IsNetwork n) (events : List Timed)
    (octets : HaveOctets (systems_after n events)) where
  -- the snapshot then
  g : Snapshot
  g = (stands_after n events network).0

  is : StandsAfter n events g
  unfolding g
  is = (stands_after n events network).1

  well : IsWellFormed g
  well = stands_well n network events g is (λ s live.
      let (m, among, same) = member_there n network events g is s live in
      let node = octets (system_then events m) (In-map (system_then events) m n.systems among) in
      subst (λ (t : System). t.identity < 2 ^ 112) same node)

  abbrev first_labels : List Label
  first_labels = map lone_label (systems_after n events)

  abbrev edges : List Edge
  edges = map (edge_after n events) n.links

  -- no link has joined systems yet
  none_joined : Found g edges (λ e. ⊥) first_labels
  none_joined = record {
    fits = fits n network events g is;
    reached = λ place l lives.
        let (s, live, best, clock, own) = alone_reached n network events g is place l lives in record {
          best = s;
          live = live;
          is = best;
          reached = subst (λ v. Reaches g v s.clock) clock (Reaches-self g s.clock (In-clocks g s live));
          low = (let same : l.best ≡ l.identity = own in omega arith);
        };
    done = λ e x y none links. absurd none;
  }

  joined : Found g edges (λ e. In e edges) (labels_in (graph_after n events))
  joined =
      let all = all_found g well edges edges (λ e. ⊥) first_labels (λ e member. member) none_joined in
      weaker g well edges (λ e. ⊥ ⊎ In e edges) (λ e. In e edges) (joined_all edges first_labels)
      (λ e member. inr member) all

  bests_are : (bests : List ℕ) → AreSorted (graph_after n events) bests → AreBests g bests
  bests_are bests sorted =
      are_bests g well edges (labels_in (graph_after n events)) joined bests sorted.all sorted.sorted

  pub bests_then : (bests : List ℕ) → AreSorted (graph_after n events) bests
      → (h : Snapshot) × StandsAfter n events h × AreBests h bests
  bests_then bests sorted = (g, is, bests_are bests sorted)

  pub chances_then : (pairs : List (ℕ × ℕ)) → AreChancesOf (graph_after n events) pairs
      → (h : Snapshot) × StandsAfter n events h × AreChances h pairs
  chances_then pairs are = (
    g,
    is,
    subst (AreChances g) (sym are.pairs_are)
        (are_chances g well edges (labels_in (graph_after n events)) joined are.bests (bests_are are.bests are.are)),
  )

-- the moment of a time
pub is_moment : (d : DocumentState) (network : IsNetwork d.network) (done : List Timed) (at : ℕ) (m : Moment)
    → IsMomentOf (graph_after d.network done) at m → events_by at d.events ≡ done → IsBestsMoment d m
is_moment d network done at m of now =
    let (g, is, bests) = bests_then d.network network done of.bests.octets m.bests.items of.bests in
    record {
      snapshot = g;
      stands = subst (λ es. StandsAfter d.network es g)
          (sym (ap (λ until. events_by until d.events) of.at_is ∙ now)) is;
      bests = bests;
    }

pub is_chance : (d : DocumentState) (network : IsNetwork d.network) (pairs : List (ℕ × ℕ))
    → AreChancesOf (graph_after d.network d.events) pairs → IsChance d pairs
is_chance d network pairs are =
    let (g, is, chances) = chances_then d.network network d.events are.are.octets pairs are in
    record { snapshot = g; stands = is; chances = chances }

-- ---- one event after another

abbrev at_of : Moment → ℕ
at_of m = m.at

-- the times before this one have moments
abbrev pub MomentsPassed : DocumentState → List Timed → List Timed → ℕ → List Moment → Type 0
MomentsPassed d = Passed at_of (IsBestsMoment d) d

module _ (d : DocumentState) (network : IsNetwork d.network) (done : List Timed) (at : ℕ)
    (moments : List Moment) where
  -- at the next event
  pub passed_more : (t : Timed) (left : List Timed) (after : List Moment) → MomentsPassed d done (t ∷ left) at moments
      → MomentIsTold (graph_after d.network done) at t.at moments after
      → MomentsPassed d (done ++ t ∷ []) left t.at after
  passed_more t left after so_far (inl (same, kept)) =
      subst (MomentsPassed d (done ++ t ∷ []) left t.at) (sym kept)
      (passed_same at_of (IsBestsMoment d) d done at moments t left so_far same)
  passed_more t left after so_far (inr (apart, (m, of, kept))) =
      subst (MomentsPassed d (done ++ t ∷ []) left t.at) (sym kept)
      (passed_next at_of (IsBestsMoment d) d done at moments t left m so_far apart of.at_is
      (is_moment d network done at m of))

  -- after the last event
  pub passed_all : (m : Moment) (after : List Moment) → MomentsPassed d done [] at moments
      → IsMomentOf (graph_after d.network done) at m
      → after ≡ moments ++ m ∷ [] → AreMoments d after
  passed_all m after so_far of is =
      let (times_are, each) =
      passed_last at_of (IsBestsMoment d) d done at moments m so_far of.at_is
      (is_moment d network done at m of) in
      subst (AreMoments d) (sym is) (record { times_are = times_are; each = each })
