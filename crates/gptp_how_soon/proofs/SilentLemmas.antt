-- The interval of a port is looked for system by system; which links have a far end that lives, and the longest over
-- links, are found link by link.
use Rattle.std.proofs.Common.{◌≡◌, ◌<◌, ◌≤◌, ◌+◌, ◌-◌, ◌==◌, ◌&&◌, ◌∷◌, ◌++◌, [], max, ℕ, zero, suc, ℤ, Bool, true, false, if◌then◌else◌, IfSome, List, append_assoc, drop, get_or, length, map, Option, Some, None, slice_get, refl, sym, ap, ap₂, subst, ◌∙◌, arith}
use Rattle.arrayvec.specs.ArrayVec.{ArrayVec}
use Rattle.std.specs.Option.{option_and_then, option_map, option_or}
use Rattle.std.proofs.lemmas.Option.{slice_get-get_or, slice_get_within}
use Rattle.gptp_lists.proofs.PlaceLemmas.{read}
use Rattle.gptp_roles.specs.Selection.{clock_of}
use Rattle.gptp_setup.specs.Intervals.{IsLog}
use Rattle.gptp_scenario.specs.Network.{IsMember, NetworkState, pace_of}
use Rattle.gptp_scenario.specs.SettlingTime.{silence_span}
use Rattle.gptp_scenario.specs.declared.network.SystemSpec.{SystemSpec}
use Rattle.gptp_scenario.specs.declared.change.Timed.{Timed}
use Rattle.gptp_scenario.specs.declared.network.LinkSpec.{LinkSpec}
use Rattle.gptp_topology.specs.After.{standing_then, standings_after, systems_after}
use Rattle.gptp_topology.specs.Course.{cable_is_used}
use Rattle.gptp_topology.specs.declared.course.Standing.{Standing}
use Rattle.gptp_topology.specs.declared.nodes.System.{System}
use Rattle.gptp_topology.proofs.StandingLemmas.{maps_twice}
use Rattle.gptp_vector.specs.declared.port.PortId.{PortId}
use Rattle.gptp_how_soon.specs.Chosen.{chosen_after, ends_of}
use Rattle.gptp_how_soon.specs.Silent.{heard_links, hears_over, held_among, held_at, held_end, held_from, held_one, held_over, is_heard_link, log_by, log_from, log_if}
use Rattle.gptp_how_soon.specs.declared.chosen.Chosen.{Chosen}
use Rattle.gptp_how_soon.specs.declared.chosen.Ends.{Ends}
use Rattle.gptp_how_soon.proofs.LinksLemmas.{drop_at, gone_at}

-- ---- the interval of a port

-- what is told of the system at a place is the system's
abbrev member_told : SystemSpec → ℕ × ℕ × ℕ × ℤ × ArrayVec ℤ
member_told m = (m.identity, m.ports, m.phase, m.drift, m.intervals)

pub log_told : (p : PortId) (o : Option SystemSpec) (s : ℕ × ℕ × ℕ × ℤ × ArrayVec ℤ) → Some s ≡ option_map member_told o
    → log_by p s.0 s.4.items ≡ option_and_then (log_if p) o
log_told p None s is = absurd cc
log_told p (Some m) s is =
    let same : s ≡ member_told m = cc in
    ap (λ (x : ℕ × ℕ × ℕ × ℤ × ArrayVec ℤ). log_by p x.0 x.4.items) same

pub no_log : (p : PortId) (o : Option SystemSpec) → None ≡ option_map member_told o
    → None ≡ option_and_then (log_if p) o
no_log p None is = refl
no_log p (Some m) is = absurd cc

module _ (systems : List SystemSpec) (place : ℕ) (p : PortId) where
  -- the system at the place has no such port
  pub log_passed : None ≡ option_and_then (log_if p) (slice_get systems place)
      → log_from p (drop (place + 1) systems) ≡ log_from p (drop place systems)
  log_passed none = by (slice_get systems place) refl none
    where
      by : (o : Option SystemSpec) → slice_get systems place ≡ o → None ≡ option_and_then (log_if p) o
          → log_from p (drop (place + 1) systems) ≡ log_from p (drop place systems)
      by None is e = let (here, behind) = gone_at systems place is in ap (log_from p) (behind ∙ sym here)
      by (Some m) is e =
          ap (λ o. option_or o (log_from p (drop (place + 1) systems))) e
          ∙ sym (ap (log_from p) (drop_at systems place m is))

  -- it has
  pub log_here : (log : ℤ) → Some log ≡ option_and_then (log_if p) (slice_get systems place)
      → log_from p (drop place systems) ≡ Some log
  log_here log some = by (slice_get systems place) refl some
    where
      by : (o : Option SystemSpec) → slice_get systems place ≡ o → Some log ≡ option_and_then (log_if p) o
          → log_from p (drop place systems) ≡ Some log
      by None is e = absurd cc
      by (Some m) is e =
          ap (log_from p) (drop_at systems place m is)
          ∙ ap (λ o. option_or o (log_from p (drop (place + 1) systems))) (sym e)

-- each is between -4 and 4
log_within : (p : PortId) (m : SystemSpec) → IsMember m → IfSome (log_if p m) IsLog
log_within p m member = by (clock_of m.identity == p.clock) (slice_get m.intervals.items (p.port - 1)) refl
  where
    by : (test : Bool) (o : Option ℤ) → slice_get m.intervals.items (p.port - 1) ≡ o
        → IfSome (if test then o else None) IsLog
    by false o is = tt
    by true None is = tt
    by true (Some log) is =
        subst IsLog (read m.intervals.items (p.port - 1) log log is)
        (member.logs (p.port - 1) log (slice_get_within m.intervals.items (p.port - 1) log is))

pub logs_within : (p : PortId) (ms : List SystemSpec)
    → ((place : ℕ) (m : SystemSpec) → slice_get ms place ≡ Some m → IsMember m)
    → IfSome (log_from p ms) IsLog
logs_within p [] members = tt
logs_within p (m ∷ ms) members =
    by (log_if p m) (log_from p ms) (log_within p m (members zero m refl))
    (logs_within p ms (λ place x there. members (suc place) x there))
  where
    by : (o rest : Option ℤ) → IfSome o IsLog → IfSome rest IsLog → IfSome (option_or o rest) IsLog
    by None rest is others = others
    by (Some log) rest is others = is

-- ---- far ends that live

module _ (systems : List System) (before : List Chosen) where
  -- one link more is looked at
  heard_more : (us : List Bool) (es : List Ends) (place : ℕ) (u : Bool) → slice_get us place ≡ Some u
      → (u && hears_over systems before (slice_get es place))
      ∷ heard_links systems before (drop (place + 1) us) (drop (place + 1) es)
      ≡ heard_links systems before (drop place us) (drop place es)
  heard_more us es place u there = by (slice_get es place) refl
    where
      by : (o : Option Ends) → slice_get es place ≡ o
          → (u && hears_over systems before o)
          ∷ heard_links systems before (drop (place + 1) us) (drop (place + 1) es)
          ≡ heard_links systems before (drop place us) (drop place es)
      by (Some e) is = sym (ap₂ (heard_links systems before) (drop_at us place u there) (drop_at es place e is))
      by None is =
          let (here, behind) = gone_at es place is in
          ap (λ rest. (u && false) ∷ heard_links systems before (drop (place + 1) us) rest) behind
          ∙ sym (ap₂ (heard_links systems before) (drop_at us place u there) here)

  -- so they are with those before
  pub heard_so_far : (us : List Bool) (es : List Ends) (place : ℕ) (d heard one : Bool) (marks more all : List Bool)
      → place < length us → heard ≡ hears_over systems before (slice_get es place)
      → one ≡ (get_or us place d && heard) → more ≡ marks ++ one ∷ []
      → marks ++ heard_links systems before (drop place us) (drop place es) ≡ all
      → more ++ heard_links systems before (drop (place + 1) us) (drop (place + 1) es) ≡ all
  heard_so_far us es place d heard one marks more all less heard_is one_is pushed so =
      let u = get_or us place d in
      let rest = heard_links systems before (drop (place + 1) us) (drop (place + 1) es) in
      ap (λ ms. ms ++ rest) pushed
      ∙ ap (λ b. (marks ++ b ∷ []) ++ rest) (one_is ∙ ap (λ v. u && v) heard_is)
      ∙ append_assoc marks ((u && hears_over systems before (slice_get es place)) ∷ []) rest
      ∙ ap (λ ms. marks ++ ms) (heard_more us es place u (slice_get-get_or us place d less))
      ∙ so

  heard_by : (used : LinkSpec → Bool) (ends : LinkSpec → Ends) (ws : List LinkSpec)
      → heard_links systems before (map used ws) (map ends ws)
      ≡ map (λ w. used w && hears_over systems before (Some (ends w))) ws
  heard_by used ends [] = refl
  heard_by used ends (w ∷ ws) =
      ap (λ ms. (used w && hears_over systems before (Some (ends w))) ∷ ms) (heard_by used ends ws)

-- after these events and more of them
pub heard_are : (n : NetworkState) (made events : List Timed)
    → heard_links (systems_after n events) (chosen_after n made)
    (map cable_is_used (standings_after n made)) (map (ends_of n) n.links)
    ≡ map (is_heard_link n made events) n.links
heard_are n made events =
    let used : LinkSpec → Bool = λ w. cable_is_used (standing_then n made w) in
    ap (λ us. heard_links (systems_after n events) (chosen_after n made) us (map (ends_of n) n.links))
    (maps_twice cable_is_used (standing_then n made) used n.links (λ w. refl))
    ∙ heard_by (systems_after n events) (chosen_after n made) used (ends_of n) n.links

-- ---- the longest over links

none_held : (n : NetworkState) (own : Bool) (us : List Bool) → held_among n own us [] ≡ 0
none_held n own [] = refl
none_held n own (u ∷ us) = refl

-- one link more is looked at
held_more : (n : NetworkState) (own : Bool) (us : List Bool) (ss : List Standing) (place : ℕ) (u : Bool)
    → slice_get us place ≡ Some u
    → max (held_at n own u (slice_get ss place)) (held_among n own (drop (place + 1) us) (drop (place + 1) ss))
    ≡ held_among n own (drop place us) (drop place ss)
held_more n own us ss place u there = by (slice_get ss place) refl
  where
    by : (o : Option Standing) → slice_get ss place ≡ o
        → max (held_at n own u o) (held_among n own (drop (place + 1) us) (drop (place + 1) ss))
        ≡ held_among n own (drop place us) (drop place ss)
    by (Some s) is = sym (ap₂ (held_among n own) (drop_at us place u there) (drop_at ss place s is))
    by None is =
        let (here, behind) = gone_at ss place is in
        let after = ap (held_among n own (drop (place + 1) us)) behind ∙ none_held n own (drop (place + 1) us) in
        let now = ap (held_among n own (drop place us)) here ∙ none_held n own (drop place us) in
        omega (arith, after, now)

-- so it is with the longest of those before
pub held_so_far : (n : NetworkState) (own : Bool) (us : List Bool) (ss : List Standing) (place : ℕ) (d : Bool)
    (held one next all : ℕ)
    → place < length us → next ≡ max one held → one ≡ held_at n own (get_or us place d) (slice_get ss place)
    → max (held_among n own (drop place us) (drop place ss)) held ≡ all
    → max (held_among n own (drop (place + 1) us) (drop (place + 1) ss)) next ≡ all
held_so_far n own us ss place d held one next all less more_is is so =
    let u = get_or us place d in
    let more = held_more n own us ss place u (slice_get-get_or us place d less) in
    let rest : ℕ = held_among n own (drop (place + 1) us) (drop (place + 1) ss) in
    let here : ℕ = held_among n own (drop place us) (drop place ss) in
    omega (arith, is, more_is, more, so)

-- nothing counts for longer than ports stay capable
held_no_longer : (test : Bool) (x y most : ℕ) → x ≤ most → y ≤ most → (if test then x else y) ≤ most
held_no_longer true x y most a b = a
held_no_longer false x y most a b = b

pub held_within : (n : NetworkState) (own : Bool) (us : List Bool) (ss : List Standing)
    → held_among n own us ss ≤ silence_span (pace_of n)
held_within n own [] ss = omega arith
held_within n own (u ∷ us) [] = omega arith
held_within n own (u ∷ us) (s ∷ ss) =
    let rest = held_within n own us ss in
    let most : ℕ = silence_span (pace_of n) in
    let a : held_end n own s.cable.bounds.max s.cable.a s.a_lives ≤ most =
    held_no_longer s.a_lives 0 (held_from n own s.cable.bounds.max s.cable.a) most (omega arith) (omega arith) in
    let b : held_end n own s.cable.bounds.max s.cable.b s.b_lives ≤ most =
    held_no_longer s.b_lives 0 (held_from n own s.cable.bounds.max s.cable.b) most (omega arith) (omega arith) in
    let one : held_one n own u s ≤ most =
    held_no_longer (u && s.cable.up) (held_over n own s) 0 most (omega (arith, a, b)) (omega arith) in
    omega (arith, rest, one)
