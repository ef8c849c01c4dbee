-- What systems choose after events is the settled choice: the best of each component, and how far that is.
use Rattle.std.proofs.Common.{◌≡◌, ◌≤◌, ◌&&◌, ◌++◌, ℕ, zero, suc, true, cond, List, [], ◌∷◌, length, map, filter, Some, None, slice_get, refl, sym, ap, subst, ◌∙◌, inl, inr, arith, length-append}
use Rattle.std.specs.List.{filter_map}
use Rattle.std.proofs.lemmas.Bool.{and_from, and_parts, eq-eqb, ne_eqb}
use Rattle.std.proofs.lemmas.List.{length-map}
use Rattle.gptp_lists.specs.Members.{In}
use Rattle.gptp_lists.proofs.MappedLemmas.{mapped, mapped_there, same_there, some_same}
use Rattle.gptp_lists.proofs.SystemSpecLemmas.{In-map, In-slice_get, from_map, pigeonhole, slice_get-In}
use Rattle.gptp_graph.specs.Best.{IsBest}
use Rattle.gptp_graph.specs.Distance.{IsDistance, IsDistanceFrom}
use Rattle.gptp_graph.specs.Path.{IsPath, Reaches, Route}
use Rattle.gptp_graph.specs.Snapshot.{Adjacent, IsWellFormed, Link, Snapshot, System, clocks, port_of}
use Rattle.gptp_graph.proofs.LinkLemmas.{Adjacent-clock, Adjacent-sym}
use Rattle.gptp_graph.proofs.PathLemmas.{Reaches-route, Route-append, Route-end, Route-reverse, path_bounded, path_of}
use Rattle.gptp_roles.specs.Selection.{clock_of}
use Rattle.gptp_vector.specs.declared.port.PortId.{PortId}
use Rattle.gptp_scenario.specs.Change.{joined_after, link_after, system_after}
use Rattle.gptp_scenario.specs.InUse.{is_used, lives}
use Rattle.gptp_scenario.specs.Network.{IsNetwork, IsPort, NetworkState}
use Rattle.gptp_scenario.specs.declared.change.Timed.{Timed}
use Rattle.gptp_scenario.specs.declared.network.LinkSpec.{LinkSpec}
use Rattle.gptp_scenario.specs.declared.network.SystemSpec.{SystemSpec}
use Rattle.gptp_scenario.proofs.AfterLemmas.{after_keeps}
use Rattle.gptp_network.specs.Snapshot.{StandsAfter, has_clock, joins_two, link_of}
use Rattle.gptp_network.proofs.InUseLemmas.{live_there, runs}
use Rattle.gptp_network.proofs.PassLemmas.{given, kept}
use Rattle.gptp_network.proofs.SnapshotLemmas.{clock_after, from_filter, member_there}
use Rattle.gptp_topology.specs.After.{system_then, systems_after}
use Rattle.gptp_topology.specs.declared.nodes.System as ours
use Rattle.gptp_topology.proofs.RestLemmas.{three_parts}
use Rattle.gptp_how_soon.specs.Chosen.{chosen_after, ends_of, is_used_then, itself, place_of, used_ends}
use Rattle.gptp_how_soon.specs.declared.chosen.Chosen.{Chosen}
use Rattle.gptp_how_soon.specs.declared.chosen.Ends.{Ends}
use Rattle.gptp_how_soon.proofs.RoundsLemmas.{AreInside, Has, IsWithin, Leads, Settles, Touches, settles}

-- ---- the place of a clock

-- where clocks differ, what has the clock stands there
abbrev Once : List ours.System → Type 0
Once os = (i j : ℕ) (o p : ours.System) → slice_get os i ≡ Some o → slice_get os j ≡ Some p → o.clock ≡ p.clock → i ≡ j

is_place : (clock : ℕ) (os : List ours.System) → Once os → (i : ℕ) (o : ours.System) → slice_get os i ≡ Some o
    → o.clock ≡ clock → place_of os clock ≡ i
is_place clock [] once i o there is = absurd cc
is_place clock (p ∷ os) once zero o there is =
    let first : p.clock ≡ clock = ap (λ (q : ours.System). q.clock) (some_same p o there) ∙ is in
    rw (eq-eqb p.clock clock first) refl
is_place clock (p ∷ os) once (suc i) o there is =
    let apart : p.clock ≡ clock → ⊥ =
    λ same. (let none : zero ≡ suc i = once zero (suc i) p o refl there (same ∙ sym is) in omega arith) in
    let behind : Once os =
    λ k j q r at here same. (let e : suc k ≡ suc j = once (suc k) (suc j) q r at here same in omega arith) in
    let rest = is_place clock os behind i o there is in
    rw (ne_eqb p.clock clock apart) (omega (arith, rest))

-- ---- lists of links

-- one link before others
leads_first : (links : List Ends) (i m j far : ℕ) → Touches links i m → Leads links m j far
    → Leads links i j (suc far)
leads_first links i m j zero touches same = (i, refl, subst (Touches links i) same touches)
leads_first links i m j (suc far) touches (k, leads, last) = (k, leads_first links i m k far touches leads, last)

-- the system of a network at a place has this clock
pub record IsAt (n : NetworkState) (i v : ℕ) : Type 0 where
  pub system : SystemSpec
  pub there : slice_get n.systems i ≡ Some system
  pub clock : clock_of system.identity ≡ v

module _ (n : NetworkState) (network : IsNetwork n) (events : List Timed) (g : Snapshot)
    (stands : StandsAfter n events g) (well : IsWellFormed g) where
  abbrev links : List Ends
  links = used_ends n events

  abbrev firsts : List ours.System
  firsts = systems_after n []

  abbrev starts : List Chosen
  starts = map itself (systems_after n events)

  pub one_clock : (i v w : ℕ) → IsAt n i v → IsAt n i w → v ≡ w
  one_clock i v w a b =
      sym a.clock ∙ ap (λ (m : SystemSpec). clock_of m.identity)
      (same_there n.systems i a.system b.system a.there b.there) ∙ b.clock

  one_place : (i j v : ℕ) → IsAt n i v → IsAt n j v → i ≡ j
  one_place i j v a b = network.clocks i j a.system b.system a.there b.there (a.clock ∙ sym b.clock)

  once : (made : List Timed) → Once (systems_after n made)
  once made i j o p at there same =
      let (m, m_there, m_is) = mapped (system_then made) n.systems i o at in
      let (k, k_there, k_is) = mapped (system_then made) n.systems j p there in
      network.clocks i j m k m_there k_there
      (ap (λ (q : ours.System). q.clock) m_is ∙ same ∙ sym (ap (λ (q : ours.System). q.clock) k_is))

  pub place_is : (made : List Timed) (i v : ℕ) → IsAt n i v → place_of (systems_after n made) v ≡ i
  place_is made i v a =
      is_place v (systems_after n made) (once made) i (system_then made a.system)
      (mapped_there (system_then made) n.systems i a.system a.there) a.clock

  pub at_port : (p : PortId) → IsPort n.systems p → IsAt n (place_of firsts p.clock) p.clock
  at_port p port =
      let at : IsAt n port.place p.clock = record { system = port.system; there = port.there; clock = port.clock } in
      subst (λ i. IsAt n i p.clock) (sym (place_is [] port.place p.clock at)) at

  -- a system of the snapshot stands at a place
  pub at_clock : (v : ℕ) → In v (clocks g) → (i : ℕ) × IsAt n i v
  at_clock v member =
      let (s, live, same) = from_map (λ (s : System). s.clock) v g.systems member in
      let (m, among, is) = member_there n network events g stands s live in
      let (i, there) = slice_get-In m n.systems among in (
        i,
        record {
          system = m;
          there = there;
          clock = sym (clock_after events m) ∙ ap (λ (t : System). t.clock) is ∙ same;
        },
      )

  -- ---- links

  -- a link in use joins two systems of the snapshot
  pub link_stands : (w : LinkSpec) → In w n.links → is_used_then n events w ≡ true → In (link_of (w.a, w.b)) g.links
  link_stands w member used =
      let (up, a, b) =
      three_parts (link_after events w).up (lives n.systems events w.a.clock) (lives n.systems events w.b.clock) used in
      let there : joined_after events w ≡ Some (w.a, w.b) = ap (λ test. cond test (Some (w.a, w.b)) None) up in
      subst (In (link_of (w.a, w.b))) (sym stands.links)
      (kept (joins_two g.systems) (link_of (w.a, w.b)) (map link_of (filter_map (joined_after events) n.links))
      (In-map link_of (w.a, w.b) (filter_map (joined_after events) n.links)
      (given (joined_after events) w (w.a, w.b) n.links member there))
      (and_from (has_clock g.systems w.a.clock) (has_clock g.systems w.b.clock)
      (live_there n network events g stands w.a.clock a) (live_there n network events g stands w.b.clock b)))

  joined : (w : LinkSpec) → In w n.links → is_used_then n events w ≡ true → Adjacent g w.a.clock w.b.clock
  joined w member used = (w.a.port, w.b.port, inl (link_stands w member used))

  -- so do the places that a link touches
  record IsJoined (i j : ℕ) : Type 0 where
    from : ℕ
    to : ℕ
    at_from : IsAt n i from
    at_to : IsAt n j to
    adjacent : Adjacent g from to

  joined_in : (i j : ℕ) → In (record { a = i; b = j }) links → IsJoined i j
  joined_in i j member =
      let (w, among, is) =
      from_map (ends_of n) (record { a = i; b = j }) (filter (is_used_then n events) n.links) member in
      let (known, used) = from_filter (is_used_then n events) w n.links among in
      let (place, there) = slice_get-In w n.links known in
      let wire = network.links place w there in
      record {
        from = w.a.clock;
        to = w.b.clock;
        at_from = subst (λ k. IsAt n k w.a.clock) (ap (λ (e : Ends). e.a) is) (at_port w.a wire.a);
        at_to = subst (λ k. IsAt n k w.b.clock) (ap (λ (e : Ends). e.b) is) (at_port w.b wire.b);
        adjacent = joined w known used;
      }

  joined_by : (i j : ℕ) → Touches links i j → IsJoined i j
  joined_by i j (inl member) = joined_in i j member
  joined_by i j (inr member) =
      let x = joined_in j i member in
      record {
        from = x.to;
        to = x.from;
        at_from = x.at_to;
        at_to = x.at_from;
        adjacent = Adjacent-sym g x.from x.to x.adjacent;
      }

  -- and neighbours are touched by one
  pub used_then : (w : LinkSpec) → is_used n.systems events (link_after events w) ≡ true
      → is_used_then n events w ≡ true
  used_then w used =
      let v = link_after events w in
      let ends = after_keeps events w in
      let (front, b) = and_parts (v.up && lives n.systems events v.a.clock) (lives n.systems events v.b.clock) used in
      let (up, a) = and_parts v.up (lives n.systems events v.a.clock) front in
      and_from v.up (lives n.systems events w.a.clock && lives n.systems events w.b.clock) up
      (and_from (lives n.systems events w.a.clock) (lives n.systems events w.b.clock)
      (subst (λ (p : PortId). lives n.systems events p.clock ≡ true) ends.a a)
      (subst (λ (p : PortId). lives n.systems events p.clock ≡ true) ends.b b))

  link_touches : (l : Link) → In l g.links → (i j : ℕ) → IsAt n i l.a.clock → IsAt n j l.b.clock
      → In (record { a = i; b = j }) links
  link_touches l member i j at_a at_b =
      let r = runs n network events g stands l member in
      let a : r.wire.a.clock ≡ l.a.clock = ap (λ (k : Link). k.a.clock) r.is in
      let b : r.wire.b.clock ≡ l.b.clock = ap (λ (k : Link). k.b.clock) r.is in
      let first : (ends_of n r.wire).a ≡ i = ap (place_of firsts) a ∙ place_is [] i l.a.clock at_a in
      let second : (ends_of n r.wire).b ≡ j = ap (place_of firsts) b ∙ place_is [] j l.b.clock at_b in
      subst (λ e. In e links) (λ k. record { a = first k; b = second k })
      (In-map (ends_of n) r.wire (filter (is_used_then n events) n.links)
      (kept (is_used_then n events) r.wire n.links r.member (used_then r.wire r.used)))

  pub touched : (v w i j : ℕ) → Adjacent g v w → IsAt n i v → IsAt n j w → Touches links i j
  touched v w i j (p, q, inl member) at_v at_w =
      inl (link_touches (record { a = port_of v p; b = port_of w q }) member i j at_v at_w)
  touched v w i j (p, q, inr member) at_v at_w =
      inr (link_touches (record { a = port_of w q; b = port_of v p }) member j i at_w at_v)

  -- ---- chains of links are routes

  record HasRoute (v j far : ℕ) : Type 0 where
    end : ℕ
    at : IsAt n j end
    over : List ℕ
    route : Route g v end over
    long : length over ≡ far

  route_of : (i j far v : ℕ) → Leads links i j far → IsAt n i v → HasRoute v j far
  route_of i j zero v same at =
      record { end = v; at = subst (λ k. IsAt n k v) same at; over = []; route = refl; long = refl }
  route_of i j (suc far) v (m, leads, touches) at =
      let r = route_of i m far v leads at in
      let x = joined_by m j touches in
      let step : Adjacent g r.end x.to = subst (λ u. Adjacent g u x.to) (one_clock m x.from r.end x.at_from r.at)
      x.adjacent in
      let long = r.long in
      record {
        end = x.to;
        at = x.at_to;
        over = r.over ++ x.to ∷ [];
        route = Route-append g v r.end x.to r.over (x.to ∷ []) r.route (step, refl);
        long = omega (arith, long, length-append r.over (x.to ∷ []));
      }

  leads_over : (v w i j : ℕ) (us : List ℕ) → Route g v w us → IsAt n i v → IsAt n j w → Leads links i j (length us)
  leads_over v w i j [] here at_v at_w = one_place i j w (subst (IsAt n i) here at_v) at_w
  leads_over v w i j (u ∷ us) (step, rest) at_v at_w =
      let (m, at_u) = at_clock u (Adjacent-clock g v u well step) in
      leads_first links i m j (length us) (touched v u i m step at_v at_u) (leads_over u w m j us rest at_u at_w)

  -- ---- what is chosen

  start_at : (i v : ℕ) (at : IsAt n i v) → slice_get starts i ≡ Some (itself (system_then events at.system))
  start_at i v at =
      mapped_there itself (systems_after n events) i (system_then events at.system)
      (mapped_there (system_then events) n.systems i at.system at.there)

  inside : AreInside links starts
  inside i j touches =
      let x = joined_by i j touches in (itself (system_then events x.at_from.system), start_at i x.from x.at_from)

  abbrev count : ℕ
  count = length (systems_after n events)

  ends : Settles links count starts (chosen_after n events)
  ends = settles links count starts inside

  pub chosen_there : (i v : ℕ) → IsAt n i v → Has (chosen_after n events) i
  chosen_there i v at = ends.there i (itself (system_then events at.system), start_at i v at)

  -- a path has no more steps than there are rounds
  few : (v w : ℕ) (us : List ℕ) → IsPath g v w us → length us ≤ count
  few v w us path =
      let less = path_bounded g v w us well path in
      let fits =
      pigeonhole (clocks g) (map (λ (m : SystemSpec). clock_of m.identity) n.systems) well.different known_to in
      let some = length-map g.systems (λ (s : System). s.clock) in
      let all = length-map n.systems (λ (m : SystemSpec). clock_of m.identity) in
      let rounds = length-map n.systems (system_then events) in
      omega (arith, less, fits, some, all, rounds)
    where
      known_to : (u : ℕ) → In u (clocks g) → In u (map (λ (m : SystemSpec). clock_of m.identity) n.systems)
      known_to u member =
          let (i, at) = at_clock u member in
          subst (λ c. In c (map (λ (m : SystemSpec). clock_of m.identity) n.systems)) at.clock
          (In-map (λ (m : SystemSpec). clock_of m.identity) at.system n.systems
          (In-slice_get at.system n.systems i at.there))

  -- the identity of a system of the snapshot is that of the system at its place
  pub named : (s : System) → In s g.systems → (i : ℕ) (at : IsAt n i s.clock)
      → s.identity ≡ (system_after events at.system).identity
  named s live i at =
      let (m, among, is) = member_there n network events g stands s live in
      let (k, there) = slice_get-In m n.systems among in
      let here : IsAt n k s.clock = record {
        system = m;
        there = there;
        clock = sym (clock_after events m) ∙ ap (λ (t : System). t.clock) is;
      } in
      let same : m ≡ at.system =
      same_there n.systems i m at.system (ap (slice_get n.systems) (sym (one_place k i s.clock here at)) ∙ there)
      at.there in
      sym (ap (λ (t : System). t.identity) is) ∙ ap (λ (x : SystemSpec). (system_after events x).identity) same

  pub record IsSettledChoice (v : ℕ) (c : Chosen) : Type 0 where
    pub best : System
    pub is_best : IsBest g v best
    pub root : c.root ≡ best.identity
    pub far : IsDistance g v c.steps

  module _ (i v : ℕ) (at : IsAt n i v) (member : In v (clocks g)) (c : Chosen)
      (there : slice_get (chosen_after n events) i ≡ Some c) where
    -- it is no worse than any system that is reached
    no_worse : (w j : ℕ) (at_w : IsAt n j w) (us : List ℕ) → Route g v w us → length us ≤ count
        → IsWithin (length us) c (itself (system_then events at_w.system))
    no_worse w j at_w us route short =
        ends.least (length us) i j (itself (system_then events at_w.system)) c short
        (leads_over v w i j us route at at_w) (start_at j w at_w) there

    -- it is what one system is that it came from
    record CameFrom : Type 0 where
      far : ℕ
      place : ℕ
      from : HasRoute v place far
      root : c.root ≡ (system_after events from.at.system).identity
      steps : c.steps ≡ far

    came_from : CameFrom
    came_from =
        let (j, far, (s, leads, at_s, root, steps)) = ends.came i c there in
        let r = route_of i j far v leads at in
        let is : s ≡ itself (system_then events r.at.system) =
        same_there starts j s (itself (system_then events r.at.system)) at_s (start_at j r.end r.at) in
        let none : s.steps ≡ 0 = ap (λ (x : Chosen). x.steps) is in
        record {
          far = far;
          place = j;
          from = r;
          root = root ∙ ap (λ (x : Chosen). x.root) is;
          steps = omega (arith, steps, none);
        }

    pub settled_choice : IsSettledChoice v c
    settled_choice =
        let x = came_from in
        let r = x.from in
        let w = r.end in
        let known = Route-end g v w r.over well member r.route in
        let (best, live, same) = from_map (λ (s : System). s.clock) w g.systems known in
        let identity : best.identity ≡ (system_after events r.at.system).identity =
        named best live x.place (record { system = r.at.system; there = r.at.there; clock = r.at.clock ∙ sym same }) in
        let root : c.root ≡ best.identity = x.root ∙ sym identity in
        let is_best : IsBest g v best = record {
          live = live;
          reached = Reaches-route g v best.clock r.over member (subst (λ u. Route g v u r.over) (sym same) r.route);
          least = λ s live_s reached. lower best s live_s reached root;
        } in
        record {
          best = best;
          is_best = is_best;
          root = root;
          far = record {
            best = best;
            is_best = is_best;
            from_best = subst (λ u. IsDistanceFrom g u v c.steps) (sym same) (distance known);
          };
        }
      where
        -- no system that is reached is lower
        lower : (b s : System) → In s g.systems → Reaches g v s.clock → c.root ≡ b.identity → b.identity ≤ s.identity
        lower b s live_s (us, path) root =
            let (j, at_s) = at_clock s.clock (In-map (λ (t : System). t.clock) s g.systems live_s) in
            let is = named s live_s j at_s in
            elim (no_worse s.clock j at_s us path.route (few v s.clock us path)) [
              | inl less ↦ omega (arith, root, is, less)
              | inr (same, steps) ↦ omega (arith, root, is, same)
            ]

        -- no path is shorter
        shorter : (us : List ℕ) → IsPath g came_from.from.end v us → c.steps ≤ length us
        shorter us path =
            let x = came_from in
            let root = x.root in
            let (ts, route, long) = Route-reverse g x.from.end v us path.route in
            let short = few x.from.end v us path in
            elim (no_worse x.from.end x.place x.from.at ts route (omega (arith, long, short))) [
              | inl less ↦ absurd (omega (arith, root, less))
              | inr (same, steps) ↦ omega (arith, steps, long)
            ]

        distance : In came_from.from.end (clocks g) → IsDistanceFrom g came_from.from.end v c.steps
        distance known =
            let x = came_from in
            let (ts, route, long) = Route-reverse g v x.from.end x.from.over x.from.route in
            let (us, path, short) = path_of g x.from.end v ts known route in
            let least = shorter us path in
            let steps = x.steps in
            let as_long = x.from.long in
            record {
              path = (us, path, omega (arith, long, short, least, steps, as_long));
              least = shorter;
            }
