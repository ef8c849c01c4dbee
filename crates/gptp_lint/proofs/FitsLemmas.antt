-- The labels and links of a network that stands after events are those of its snapshot.
use Rattle.std.proofs.Common.{◌≡◌, ◌==◌, ℕ, zero, suc, Bool, true, false, cond, List, [], ◌∷◌, map, Some, None, slice_get, refl, sym, ap, subst, ◌∙◌, inl, inr, arith}
use Rattle.std.specs.List.{filter_map}
use Rattle.std.proofs.lemmas.Bool.{and_from, eq-eqb, eqb-true, ne_eqb}
use Rattle.std.proofs.lemmas.List.Sorted.{IsPermutation-sym}
use Rattle.std.proofs.lemmas.Option.{cond_some}
use Rattle.gptp_lists.specs.Members.{In}
use Rattle.gptp_lists.proofs.MappedLemmas.{mapped, mapped_there, some_same}
use Rattle.gptp_lists.proofs.SystemSpecLemmas.{In-map, In-slice_get, from_map, slice_get-In}
use Rattle.gptp_roles.specs.Selection.{clock_of}
use Rattle.gptp_graph.specs.Snapshot.{Adjacent, Link, Snapshot, System, port_of}
use Rattle.gptp_scenario.specs.Change.{joined_after, link_after, live_after, system_after}
use Rattle.gptp_scenario.specs.Network.{IsNetwork, NetworkState}
use Rattle.gptp_scenario.specs.declared.change.Timed.{Timed}
use Rattle.gptp_scenario.specs.declared.network.SystemSpec.{SystemSpec}
use Rattle.gptp_network.specs.Snapshot.{StandsAfter, has_clock, joins_two, link_of, live_systems, system_of}
use Rattle.gptp_network.proofs.InUseLemmas.{runs}
use Rattle.gptp_network.proofs.PassLemmas.{given, kept, passes_at}
use Rattle.gptp_network.proofs.SnapshotLemmas.{In-permutation, clock_after, from_filter_map, with_clock}
use Rattle.gptp_topology.specs.After.{system_then, systems_after}
use Rattle.gptp_topology.specs.Tables.{clocks_of}
use Rattle.gptp_lint.specs.Graph.{edge_after, place_in}
use Rattle.gptp_lint.specs.Labels.{lone_label}
use Rattle.gptp_lint.specs.declared.graph.Edge.{Edge}
use Rattle.gptp_lint.specs.declared.labels.Label.{Label}
use Rattle.gptp_lint.proofs.LabelLemmas.{Fits, Joining, Links, Lives, own_clock}

-- ---- the place of a clock

-- what stands there is the clock
place_is : (clock : ℕ) (cs : List ℕ) (c : ℕ) → slice_get cs (place_in clock cs) ≡ Some c → c ≡ clock
place_is clock [] c there = absurd cc
place_is clock (d ∷ cs) c there = by (place_is clock cs c) (d == clock) refl there
  where
    by : (slice_get cs (place_in clock cs) ≡ Some c → c ≡ clock) → (test : Bool) → (d == clock) ≡ test
        → slice_get (d ∷ cs) (cond test 0 (suc (place_in clock cs))) ≡ Some c
        → c ≡ clock
    by rest true is there = sym (some_same d c there) ∙ eqb-true d clock is
    by rest false is there = rest there

-- where clocks differ, the clock stands nowhere else
abbrev Once : List ℕ → Type 0
Once cs = (i j c : ℕ) → slice_get cs i ≡ Some c → slice_get cs j ≡ Some c → i ≡ j

is_place : (clock : ℕ) (cs : List ℕ) → Once cs → (i : ℕ) → slice_get cs i ≡ Some clock → place_in clock cs ≡ i
is_place clock [] once i there = absurd cc
is_place clock (d ∷ cs) once zero there =
    ap (λ test. cond test 0 (suc (place_in clock cs))) (eq-eqb d clock (some_same d clock there))
is_place clock (d ∷ cs) once (suc i) there =
    let apart : d ≡ clock → ⊥ =
    λ same. (let none : zero ≡ suc i = once zero (suc i) clock (ap Some same) there in omega arith) in
    let behind : Once cs =
    λ k j c at here. (let e : suc k ≡ suc j = once (suc k) (suc j) c at here in omega arith) in
    ap (λ test. cond test 0 (suc (place_in clock cs))) (ne_eqb d clock apart)
    ∙ ap suc (is_place clock cs behind i there)

-- ---- systems and links

module _ (n : NetworkState) (network : IsNetwork n) (events : List Timed) (g : Snapshot)
    (stands : StandsAfter n events g) where
  abbrev label_after : SystemSpec → Label
  label_after m = lone_label (system_then events m)

  abbrev labels : List Label
  labels = map lone_label (systems_after n events)

  abbrev edges : List Edge
  edges = map (edge_after n events) n.links

  -- the member of a label
  record Member_at (place : ℕ) (l : Label) : Type 0 where
    member : SystemSpec
    there : slice_get n.systems place ≡ Some member
    is : label_after member ≡ l

  member_at : (place : ℕ) (l : Label) → slice_get labels place ≡ Some l → Member_at place l
  member_at place l there =
      let (o, at, is) = mapped lone_label (systems_after n events) place l there in
      let (m, here, same) = mapped (system_then events) n.systems place o at in
      record { member = m; there = here; is = ap lone_label same ∙ is }

  label_at : (place : ℕ) (m : SystemSpec) → slice_get n.systems place ≡ Some m
      → slice_get labels place ≡ Some (label_after m)
  label_at place m there =
      mapped_there lone_label (systems_after n events) place (system_then events m)
      (mapped_there (system_then events) n.systems place m there)

  -- a label has the clock of its member
  label_clock : (m : SystemSpec) → own_clock (label_after m) ≡ clock_of m.identity
  label_clock m = clock_after events m

  abbrev clock_in : SystemSpec → ℕ
  clock_in m = clock_of m.identity

  clock_once : Once (clocks_of n)
  clock_once i j c at there =
      let (m, m-there, m-is) = mapped clock_in n.systems i c at in
      let (k, k-there, k-is) = mapped clock_in n.systems j c there in
      network.clocks i j m k m-there k-there (m-is ∙ sym k-is)

  -- a system that lives is one of the snapshot
  system_for : (m : SystemSpec) → In m n.systems → (system_after events m).live ≡ true
      → In (system_of ((system_after events m).identity, m.ports)) g.systems
  system_for m among lives =
      let pair : ℕ × ℕ = ((system_after events m).identity, m.ports) in
      let there : live_after events m ≡ Some pair =
      ap (λ test. cond test (Some ((system_after events m).identity, m.ports)) None) lives in
      In-permutation (system_of pair) (live_systems n.systems events) g.systems stands.systems
      (In-map system_of pair (filter_map (live_after events) n.systems)
      (given (live_after events) m pair n.systems among there))

  -- and each of the snapshot is one that lives
  record Living (s : System) : Type 0 where
    member : SystemSpec
    among : In member n.systems
    lives : (system_after events member).live ≡ true
    is : system_of ((system_after events member).identity, member.ports) ≡ s

  living : (s : System) → In s g.systems → Living s
  living s live =
      let listed = In-permutation s g.systems (live_systems n.systems events)
      (IsPermutation-sym (live_systems n.systems events) g.systems stands.systems) live in
      let (pair, at, seen) = from_map system_of s (filter_map (live_after events) n.systems) listed in
      let (m, among, is) = from_filter_map (live_after events) pair n.systems at in
      let both = cond_some (system_after events m).live ((system_after events m).identity, m.ports) pair is in
      record { member = m; among = among; lives = both.0; is = ap system_of both.1 ∙ seen }

  has_live : (place : ℕ) (l : Label) → Lives labels place l → has_clock g.systems (own_clock l) ≡ true
  has_live place l lives =
      let at = member_at place l lives.there in
      let s : System = system_of ((system_after events at.member).identity, at.member.ports) in
      let member = system_for at.member (In-slice_get at.member n.systems place at.there)
      (ap (λ (k : Label). k.lives) at.is ∙ lives.lives) in
      passes_at (λ (t : System). t.clock == own_clock l) g.systems s member
      (eq-eqb s.clock (own_clock l) (ap own_clock at.is))

  -- the label at the place of a link's end has the clock of that end
  end_clock : (clock : ℕ) (l : Label) → slice_get labels (place_in clock (clocks_of n)) ≡ Some l → own_clock l ≡ clock
  end_clock clock l there =
      let at = member_at (place_in clock (clocks_of n)) l there in
      ap own_clock (sym at.is) ∙ label_clock at.member
      ∙ place_is clock (clocks_of n) (clock_in at.member)
      (mapped_there clock_in n.systems (place_in clock (clocks_of n)) at.member at.there)

  -- and the system there lives, if one of the snapshot has that clock
  live_end : (clock : ℕ) → has_clock g.systems clock ≡ true
      → (l : Label) × Lives labels (place_in clock (clocks_of n)) l × (own_clock l ≡ clock)
  live_end clock has =
      let (s, live, named) = with_clock g.systems clock has in
      let m = living s live in
      let (place, there) = slice_get-In m.member n.systems m.among in
      let clock_is : clock_of m.member.identity ≡ clock =
      sym (clock_after events m.member) ∙ ap (λ (t : System). t.clock) m.is ∙ named in
      let here = is_place clock (clocks_of n) clock_once place
      (mapped_there clock_in n.systems place m.member there ∙ ap Some clock_is) in (
        label_after m.member,
        record {
          there = subst (λ i. slice_get labels i ≡ Some (label_after m.member)) (sym here)
              (label_at place m.member there);
          lives = m.lives;
        },
        label_clock m.member ∙ clock_is,
      )

  -- ---- links

  link_stands : (e : Edge) (x y : Label) → In e edges → Links labels e x y → Adjacent g (own_clock x) (own_clock y)
  link_stands e x y among links =
      let (w, member, is) = from_map (edge_after n events) e n.links among in
      let up : (link_after events w).up ≡ true = ap (λ (f : Edge). f.up) is ∙ links.up in
      let a : own_clock x ≡ w.a.clock =
      end_clock w.a.clock x
      (ap (λ (f : Edge). slice_get labels f.from) is ∙ links.from.there) in
      let b : own_clock y ≡ w.b.clock =
      end_clock w.b.clock y
      (ap (λ (f : Edge). slice_get labels f.to) is ∙ links.to.there) in
      let joined : joined_after events w ≡ Some (w.a, w.b) = ap (λ test. cond test (Some (w.a, w.b)) None) up in
      let there : In (link_of (w.a, w.b)) g.links =
      subst (In (link_of (w.a, w.b))) (sym stands.links)
      (kept (joins_two g.systems) (link_of (w.a, w.b)) (map link_of (filter_map (joined_after events) n.links))
      (In-map link_of (w.a, w.b) (filter_map (joined_after events) n.links)
      (given (joined_after events) w (w.a, w.b) n.links member joined))
      (and_from (has_clock g.systems w.a.clock) (has_clock g.systems w.b.clock)
      (ap (has_clock g.systems) (sym a) ∙ has_live e.from x links.from)
      (ap (has_clock g.systems) (sym b) ∙ has_live e.to y links.to))) in
      subst (λ v. Adjacent g v (own_clock y)) (sym a)
      (subst (Adjacent g w.a.clock) (sym b) (w.a.port, w.b.port, inl there))

  joined_by_link : (l : Link) → In l g.links → Joining labels edges l.a.clock l.b.clock
  joined_by_link l member =
      let r = runs n network events g stands l member in
      let (x, x-lives, x-clock) = live_end r.wire.a.clock
      (ap (λ (k : Link). has_clock g.systems k.a.clock) r.is ∙ r.from) in
      let (y, y-lives, y-clock) = live_end r.wire.b.clock
      (ap (λ (k : Link). has_clock g.systems k.b.clock) r.is ∙ r.to) in
      record {
        edge = edge_after n events r.wire;
        among = In-map (edge_after n events) r.wire n.links r.member;
        x = x;
        y = y;
        links = record { up = r.up; from = x-lives; to = y-lives };
        ends = inl (x-clock ∙ ap (λ (k : Link). k.a.clock) r.is, y-clock ∙ ap (λ (k : Link). k.b.clock) r.is);
      }

  turned : (v w : ℕ) → Joining labels edges v w → Joining labels edges w v
  turned v w j = record {
    edge = j.edge;
    among = j.among;
    x = j.x;
    y = j.y;
    links = j.links;
    ends = elim j.ends [ inl h ↦ inr h | inr h ↦ inl h ];
  }

  joined_by : (v w : ℕ) → Adjacent g v w → Joining labels edges v w
  joined_by v w (m, k, inl member) = joined_by_link (record { a = port_of v m; b = port_of w k }) member
  joined_by v w (m, k, inr member) =
      turned w v (joined_by_link (record { a = port_of w k; b = port_of v m }) member)

  pub fits : Fits g edges labels
  fits = record {
    system = λ place l lives.
        let at = member_at place l lives.there in (
          system_of ((system_after events at.member).identity, at.member.ports),
          system_for at.member (In-slice_get at.member n.systems place at.there)
              (ap (λ (k : Label). k.lives) at.is ∙ lives.lives),
          ap (λ (k : Label). k.identity) at.is,
        );
    place = λ s live.
        let m = living s live in
        let (place, there) = slice_get-In m.member n.systems m.among in (
          place,
          label_after m.member,
          record { there = label_at place m.member there; lives = m.lives },
          ap (λ (t : System). t.identity) m.is,
        );
    once = λ i j l k at there same.
        let first = member_at i l at in
        let second = member_at j k there in
        network.clocks i j first.member second.member first.there second.there
        (sym (label_clock first.member) ∙ ap own_clock first.is ∙ same
        ∙ sym (sym (label_clock second.member) ∙ ap own_clock second.is));
    joins = link_stands;
    joined_by = joined_by;
  }

  -- each live system reaches itself, with its own identity
  pub alone_reached : (place : ℕ) (l : Label)
      → Lives labels place l
      → (s : System) × In s g.systems × (s.identity ≡ l.best) × (s.clock ≡ own_clock l) × (l.best ≡ l.identity)
  alone_reached place l lives =
      let at = member_at place l lives.there in (
        system_of ((system_after events at.member).identity, at.member.ports),
        system_for at.member (In-slice_get at.member n.systems place at.there)
            (ap (λ (k : Label). k.lives) at.is ∙ lives.lives),
        ap (λ (k : Label). k.best) at.is,
        ap own_clock at.is,
        sym (ap (λ (k : Label). k.best) at.is) ∙ ap (λ (k : Label). k.identity) at.is,
      )
