-- What the tables of a network tell of a time is so of its events up to then.
use Rattle.std.proofs.Common.{◌≡◌, ◌≤◌, ◌+◌, ◌++◌, ℕ, Bool, true, false, ◌==◌, ◌&&◌, ◌||◌, not, max, min, cond, List, [], ◌∷◌, map, Option, Some, None, slice_get, refl, sym, ap, ap₂, subst, ◌∙◌, inl, inr, arith}
use Rattle.std.specs.List.{cons_option, count_by, filter_map, list_any}
use Rattle.std.specs.Option.{is_some}
use Rattle.std.proofs.lemmas.Bool.{eq-eqb}
use Rattle.std.proofs.lemmas.List.Elements.{filter_map-append}
use Rattle.gptp_lists.specs.Members.{In}
use Rattle.gptp_lists.proofs.MappedLemmas.{mapped_there}
use Rattle.gptp_lists.proofs.SystemSpecLemmas.{slice_get-In}
use Rattle.gptp_roles.specs.Selection.{clock_of}
use Rattle.gptp_vector.specs.declared.port.PortId.{PortId}
use Rattle.gptp_scenario.specs.Allowed.{AreAllowed}
use Rattle.gptp_scenario.specs.Change.{link_after, system_after}
use Rattle.gptp_scenario.specs.InUse.{any_differ, greatest_delay, lives, neighbours, path_systems}
use Rattle.gptp_scenario.specs.InUse as plans
use Rattle.gptp_scenario.specs.Network.{IsNetwork, NetworkState, pace_of}
use Rattle.gptp_scenario.specs.SettlingTime.{settling_span_with}
use Rattle.gptp_scenario.specs.SyncWait.{sync_paths}
use Rattle.gptp_scenario.specs.declared.change.Timed.{Timed}
use Rattle.gptp_scenario.specs.declared.network.SystemSpec.{SystemSpec}
use Rattle.gptp_scenario.specs.declared.network.LinkSpec.{LinkSpec}
use Rattle.gptp_scenario.specs.declared.sync_wait.SyncPaths.{SyncPaths}
use Rattle.gptp_scenario.proofs.AfterLemmas.{after_keeps}
use Rattle.gptp_scenario.proofs.InUseLemmas.{short_delay}
use Rattle.gptp_network.specs.Document.{DocumentState}
use Rattle.gptp_network.specs.Snapshot.{events_by}
use Rattle.gptp_network.specs.Span.{IsBound}
use Rattle.gptp_network.proofs.ExistenceLemmas.{snapshot_exists}
use Rattle.gptp_network.proofs.InUseLemmas.{paths_are}
use Rattle.gptp_network.proofs.PassLemmas.{count-map, count_alike}
use Rattle.gptp_topology.specs.After.{Stand, is_calm, node_after, standing_then}
use Rattle.gptp_topology.specs.Course.{cable_of, cable_is_used}
use Rattle.gptp_topology.specs.Times.{IsCalmTime}
use Rattle.gptp_topology.specs.Tables.{NodeState, are_calm, bound_of, cables_of, elsewhere, first_used, greatest_used, is_marked, late_of, marked_elsewhere, leads_to_two, led, marked_between, mark_of, marked_paths, neighbours_of, marked_path_bound, tables_seen, time_of, used_at}
use Rattle.gptp_topology.specs.Trouble.{is_troubled}
use Rattle.gptp_topology.specs.declared.nodes.Neighbour.{Neighbour}
use Rattle.gptp_topology.specs.declared.nodes.Node.{Node}
use Rattle.gptp_topology.specs.declared.tables.Mark.{Mark}
use Rattle.gptp_topology.specs.declared.tables.Tables.{Tables}
use Rattle.gptp_topology.proofs.RestLemmas.{calm_from, calm_to}
use Rattle.gptp_topology.proofs.StandingLemmas.{maps_twice}

pub delay_moves : (rest delay so_far : ℕ) → max rest (max delay so_far) ≡ max (max delay rest) so_far
delay_moves rest delay so_far = omega arith

-- ---- two different systems

module _ (marks : List Mark) where
  -- the systems that these links, where they are in use, lead to
  abbrev used_clock : Neighbour → Option ℕ
  used_clock o = cond (used_at marks o.link) (Some o.clock) None

  abbrev used_clocks : List Neighbour → List ℕ
  used_clocks = filter_map used_clock

  first_is : (os : List Neighbour) → first_used marks os ≡ slice_get (used_clocks os) 0
  first_is [] = refl
  first_is (o ∷ os) = by (used_at marks o.link) (first_is os)
    where
      by : (used : Bool) → first_used marks os ≡ slice_get (used_clocks os) 0
          → cond used (Some o.clock) (first_used marks os)
          ≡ slice_get (cons_option (cond used (Some o.clock) None) (used_clocks os)) 0
      by true rest = refl
      by false rest = rest

  elsewhere_is : (clock : ℕ) (os : List Neighbour)
      → marked_elsewhere marks clock os ≡ list_any (λ y. not (y == clock)) (used_clocks os)
  elsewhere_is clock [] = refl
  elsewhere_is clock (o ∷ os) = by (used_at marks o.link) (not (o.clock == clock)) refl (elsewhere_is clock os)
    where
      by : (used other : Bool) → not (o.clock == clock) ≡ other
          → marked_elsewhere marks clock os ≡ list_any (λ y. not (y == clock)) (used_clocks os)
          → (other && used || marked_elsewhere marks clock os)
          ≡ list_any (λ y. not (y == clock)) (cons_option (cond used (Some o.clock) None) (used_clocks os))
      by true true is rest = rw is refl
      by true false is rest = rw is rest
      by false true is rest = rest
      by false false is rest = rest

  -- two differ exactly where one is another than the first
  pub two_are : (os : List Neighbour) → leads_to_two marks os ≡ any_differ (used_clocks os)
  two_are os = ap (elsewhere marks os) (first_is os) ∙ by (used_clocks os) refl
    where
      by : (xs : List ℕ) → used_clocks os ≡ xs → elsewhere marks os (slice_get xs 0) ≡ any_differ xs
      by [] is = refl
      by (x ∷ xs) is =
          let same : (x == x) ≡ true = eq-eqb x x refl in
          elsewhere_is x os ∙ ap (list_any (λ y. not (y == x))) is
          ∙ ap (λ test. not test || list_any (λ y. not (y == x)) xs) same

and_moves : (a b c : Bool) → (a && (b && c)) ≡ (a && b && c)
and_moves true b c = refl
and_moves false b c = refl

module _ (n : NetworkState) (network : IsNetwork n) (events : List Timed) (t : Tables) (stand : Stand n events t) where
  -- ---- links in use

  -- what is asked of a link then
  abbrev mark_then : LinkSpec → Mark
  mark_then w = mark_of n.params (standing_then n events w)

  marks_are : t.marks.items ≡ map mark_then n.links
  marks_are =
      stand.marks ∙ ap₂ (λ p ss. map (mark_of p) ss) stand.params stand.standings
      ∙ maps_twice (mark_of n.params) (standing_then n events) mark_then n.links (λ w. refl)

  -- a link is in use where it stands so
  used_is : (w : LinkSpec)
      → cable_is_used (standing_then n events w) ≡ plans.is_used n.systems events (link_after events w)
  used_is w =
      let v = link_after events w in
      let ends = after_keeps events w in
      and_moves v.up (lives n.systems events w.a.clock) (lives n.systems events w.b.clock)
      ∙ ap₂ (λ (p : PortId) (q : PortId). v.up && lives n.systems events p.clock && lives n.systems events q.clock)
      (sym ends.a) (sym ends.b)

  mark_there : (w : LinkSpec) → In w n.links
      → used_at t.marks.items w.bounds.link ≡ plans.is_used n.systems events (link_after events w)
  mark_there w member =
      let (place, there) = slice_get-In w n.links member in
      ap (used_at t.marks.items) (network.links place w there).number
      ∙ ap is_marked (ap (λ ms. slice_get ms place) marks_are ∙ mapped_there mark_then n.links place w there)
      ∙ used_is w

  -- the greatest delay of those in use
  greatest_from : (ws : List LinkSpec)
      → greatest_used (map mark_then ws) ≡ greatest_delay n.systems events ws
  greatest_from [] = refl
  greatest_from (w ∷ ws) =
      ap (λ used. max (cond used (link_after events w).bounds.max 0) (greatest_used (map mark_then ws))) (used_is w)
      ∙ by (plans.is_used n.systems events (link_after events w)) (greatest_from ws)
    where
      by : (used : Bool) → greatest_used (map mark_then ws) ≡ greatest_delay n.systems events ws
          → max (cond used (link_after events w).bounds.max 0) (greatest_used (map mark_then ws))
          ≡ cond used (max (link_after events w).bounds.max (greatest_delay n.systems events ws))
          (greatest_delay n.systems events ws)
      by true rest = ap (max (link_after events w).bounds.max) rest
      by false rest =
          let none : (k : ℕ) → max 0 k ≡ k = λ k. omega arith in none (greatest_used (map mark_then ws)) ∙ rest

  pub greatest_is : greatest_used t.marks.items ≡ greatest_delay n.systems events n.links
  greatest_is = ap greatest_used marks_are ∙ greatest_from n.links

  -- ---- the systems that links in use lead to

  clocks_from : (clock : ℕ) (ws : List LinkSpec) → ((w : LinkSpec) → In w ws → In w n.links)
      → filter_map (used_clock t.marks.items) (neighbours_of clock (map cable_of ws))
      ≡ neighbours n.systems ws events clock
  clocks_from clock [] among = refl
  clocks_from clock (w ∷ ws) among =
      filter_map-append (used_clock t.marks.items) (led clock (cable_of w)) (neighbours_of clock (map cable_of ws))
      ∙ ap (λ xs. filter_map (used_clock t.marks.items) (led clock (cable_of w)) ++ xs)
      (clocks_from clock ws (λ x member. among x (inr member)))
      ∙ by (w.a.clock == clock) (w.b.clock == clock) (plans.is_used n.systems events (link_after events w))
      (mark_there w (among w (inl refl)))
    where
      rest : List ℕ
      rest = neighbours n.systems ws events clock

      by : (one two used : Bool) → used_at t.marks.items w.bounds.link ≡ used
          → filter_map (used_clock t.marks.items)
          (cond one (record { link = w.bounds.link; clock = w.b.clock } ∷ [])
          (cond two (record { link = w.bounds.link; clock = w.a.clock } ∷ []) []))
          ++ rest
          ≡ cons_option (cond used (cond one (Some w.b.clock) (cond two (Some w.a.clock) None)) None) rest
      by true two true is = rw is refl
      by true two false is = rw is refl
      by false true true is = rw is refl
      by false true false is = rw is refl
      by false false true is = refl
      by false false false is = refl

  two_is : (clock : ℕ)
      → leads_to_two t.marks.items (neighbours_of clock (cables_of n))
      ≡ any_differ (neighbours n.systems n.links events clock)
  two_is clock =
      two_are t.marks.items (neighbours_of clock (cables_of n))
      ∙ ap any_differ (clocks_from clock n.links (λ w member. member))

  -- ---- how many systems

  -- counted over the systems of the network
  over_members : (p : NodeState → Bool)
      → count_by (λ (o : Node). p (tables_seen o)) t.nodes.items
      ≡ count_by (λ (m : SystemSpec). p (node_after (cables_of n) events m)) n.systems
  over_members p =
      sym (count-map p tables_seen t.nodes.items)
      ∙ ap (count_by p) stand.nodes
      ∙ count-map p (node_after (cables_of n) events) n.systems

  between_are : count_by (marked_between t.marks.items) t.nodes.items
      ≡ count_by (plans.lives_between n.systems n.links events) n.systems
  between_are =
      over_members (λ (s : NodeState). s.system.lives && leads_to_two t.marks.items s.neighbours)
      ∙ count_alike
      (λ (m : SystemSpec). (system_after events m).live
      && leads_to_two t.marks.items (neighbours_of (clock_of m.identity) (cables_of n)))
      (plans.lives_between n.systems n.links events) n.systems
      (λ m. ap (λ two. (system_after events m).live && two) (two_is (clock_of m.identity)))

  pub paths_is : marked_path_bound t.marks.items t.nodes.items ≡ path_systems n.systems n.links events
  unfolding path_systems
  paths_is = ap₂ (λ a b. min (a + 2) b) between_are (over_members (λ (s : NodeState). s.system.lives))

  -- ---- what Sync has to cross, and whether the network is calm

  pub crossed_is : marked_paths t.marks.items t.nodes.items ≡ sync_paths n events
  crossed_is = ap₂ paths_with paths_is greatest_is
    where
      paths_with : ℕ → ℕ → SyncPaths
      paths_with m most = record { systems = m; delay = most }

  -- no delay is above sixteen seconds
  pub short_marks : AreAllowed events → greatest_used t.marks.items ≤ 16000000000
  short_marks allowed = subst (λ k. k ≤ 16000000000) (sym greatest_is) (short_delay n events network allowed)

  any_troubled : (ws : List LinkSpec)
      → list_any (λ (m : Mark). m.troubled) (map mark_then ws)
      ≡ list_any (is_troubled n.params) (map (standing_then n events) ws)
  any_troubled [] = refl
  any_troubled (w ∷ ws) = ap (λ b. is_troubled n.params (standing_then n events w) || b) (any_troubled ws)

  pub calm_is : are_calm n.params (marked_paths t.marks.items t.nodes.items) t.marks.items ≡ is_calm n events
  calm_is =
      ap₂ (are_calm n.params) crossed_is marks_are
      ∙ ap (λ b. not (is_some (late_of n.params (sync_paths n events)) || b)) (any_troubled n.links)

-- ---- a time

bound_is : (d : DocumentState) (at : ℕ) → IsNetwork d.network → (t : Tables)
    → Stand d.network (events_by at d.events) t
    → IsBound d at (bound_of d.network (marked_paths t.marks.items t.nodes.items) t.marks.items)
bound_is d at network t so =
    by (are_calm d.network.params (marked_paths t.marks.items t.nodes.items) t.marks.items)
    (calm_is d.network network events t so)
  where
    events : List Timed
    events = events_by at d.events

    by : (test : Bool) → test ≡ is_calm d.network events
        → IsBound d at
        (cond test
        (Some (settling_span_with (pace_of d.network) (marked_paths t.marks.items t.nodes.items)
        (marked_paths t.marks.items t.nodes.items).systems))
        None)
    by true is =
        let (g, stands) = snapshot_exists d at network in (
          calm_from d.network events (sym is),
          record {
            snapshot = g;
            stands = stands;
            is = ap (λ (ps : SyncPaths). settling_span_with (pace_of d.network) ps ps.systems)
                (crossed_is d.network network events t so)
                ∙ ap (settling_span_with (pace_of d.network) (sync_paths d.network events))
                (paths_are d.network network events g stands);
          },
        )
    by false is = λ calm. let no : false ≡ true = is ∙ calm_to d.network events calm in cc

pub time_is : (d : DocumentState) (at : ℕ) → IsNetwork d.network → (done : List Timed) (t : Tables)
    → Stand d.network done t → events_by at d.events ≡ done
    → IsCalmTime d (time_of d.network t.marks.items t.nodes.items at)
time_is d at network done t stand now = record {
  bound = bound_is d at network t so;
  needs = ap (late_of d.network.params) (crossed_is d.network network (events_by at d.events) t so);
}
  where
    so : Stand d.network (events_by at d.events) t
    so = subst (λ events. Stand d.network events t) (sym now) stand
