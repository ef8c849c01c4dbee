-- A walk stands as the events so far leave a document.
use Rattle.std.proofs.Common.{◌≡◌, max, ℕ, List, [], ◌∷◌, ◌++◌, Bool, true, false, cond, filter, map, not, ◌&&◌, Some, append_assoc, refl, sym, ap, ap₂, subst, ◌∙◌, arith}
use Rattle.std.specs.List.{find}
use Rattle.std.specs.Option.{is_some}
use Rattle.std.proofs.lemmas.List.{append-nil}
use Rattle.std.proofs.lemmas.List.Elements.{filter-append}
use Rattle.gptp_scenario.specs.Calm.{last_change}
use Rattle.gptp_scenario.specs.Network.{IsNetwork, NetworkState}
use Rattle.gptp_scenario.specs.SyncWait.{sync_paths}
use Rattle.gptp_scenario.specs.declared.change.Timed.{Timed}
use Rattle.gptp_scenario.specs.declared.network.LinkSpec.{LinkSpec}
use Rattle.gptp_topology.specs.After.{Stand, standing_then, standings_after, systems_after}
use Rattle.gptp_topology.specs.Course.{cable_is_used, cable_of, named}
use Rattle.gptp_topology.specs.Tables.{cables_of, has_clock}
use Rattle.gptp_topology.specs.declared.course.Standing.{Standing}
use Rattle.gptp_topology.proofs.BoundLemmas.{calm_is, crossed_is}
use Rattle.gptp_topology.proofs.StandingLemmas.{maps_twice, stand_more, systems_are}
use Rattle.gptp_how_soon.specs.Bounds.{arrived_by}
use Rattle.gptp_how_soon.specs.Chosen.{ends_among, ends_in_use, ends_of, lost_ends, used_ends}
use Rattle.gptp_how_soon.specs.Far.{up_is_used}
use Rattle.gptp_how_soon.specs.Flight.{longest_up}
use Rattle.gptp_how_soon.specs.Kinds.{sets_bounds, told_by}
use Rattle.gptp_how_soon.specs.Links.{delay_set, longest_delay, longest_set, lost_among, new_among}
use Rattle.gptp_how_soon.specs.Times.{last_of, last_set, moves_at, told_at, told_of, view_at}
use Rattle.gptp_how_soon.specs.Silent.{any_silent}
use Rattle.gptp_how_soon.specs.Walk.{IsFirstWalk, WalkGoesOn, WalkPasses, moves_seen, view_seen}
use Rattle.gptp_how_soon.specs.declared.bounds.SettlingTime.{SettlingTime}
use Rattle.gptp_how_soon.specs.declared.chosen.Ends.{Ends}
use Rattle.gptp_how_soon.specs.declared.walk.Walk.{Walk}
use Rattle.gptp_how_soon.proofs.LinksLemmas.{link_is, new_are}
use Rattle.gptp_how_soon.proofs.SilentLemmas.{heard_are}

-- after the events made before this time, and those of it so far
pub record WalkStands (n : NetworkState) (made now : List Timed) (w : Walk) : Type 0 where
  pub set : w.last_set ≡ last_set (made ++ now)
  pub longest : w.longest ≡ longest_delay n (made ++ now)
  pub tables : Stand n (made ++ now) w.tables
  pub ends : w.ends.items ≡ map (ends_of n) n.links
  pub told : w.told.items ≡ told_of n made now
  pub set_before : w.set_before ≡ last_set made
  pub longest_before : w.longest_before ≡ longest_delay n made
  pub systems_before : w.systems_before.items ≡ systems_after n made
  pub used : w.used_before.items ≡ map cable_is_used (standings_after n made)
  pub paths : w.paths_before ≡ sync_paths n made
  pub all_used : w.all_used_before ≡ up_is_used (standings_after n made)
  pub up : w.longest_up_before ≡ longest_up (standings_after n made)

-- ---- when a link was last set

last_behind : (ts : List Timed) (t : Timed) → last_change (ts ++ t ∷ []) ≡ t.at
last_behind [] t = refl
last_behind (u ∷ []) t = refl
last_behind (u ∷ (v ∷ ts)) t = last_behind (v ∷ ts) t

abbrev sets : Timed → Bool
sets t = sets_bounds t.act

last_of_behind : (ts : List Timed) (t : Timed) → last_of (ts ++ t ∷ []) ≡ Some t.at
last_of_behind [] t = refl
last_of_behind (u ∷ ts) t = ap Some (last_behind (u ∷ ts) t)

set_more : (events : List Timed) (t : Timed)
    → last_set (events ++ t ∷ []) ≡ cond (sets_bounds t.act) (Some t.at) (last_set events)
set_more events t = ap last_of (filter-append sets events (t ∷ [])) ∙ by (sets_bounds t.act)
  where
    by : (test : Bool)
        → last_of (filter sets events ++ cond test (t ∷ []) [])
        ≡ cond test (Some t.at) (last_of (filter sets events))
    by true = last_of_behind (filter sets events) t
    by false = ap last_of (append-nil (filter sets events))

-- ---- the greatest delay that a link has had

longest_more : (events : List Timed) (t : Timed)
    → longest_set (events ++ t ∷ []) ≡ max (delay_set t.act) (longest_set events)
longest_more [] t = refl
longest_more (u ∷ events) t = let rest = longest_more events t in omega (arith, rest)

longer : (n : NetworkState) (events : List Timed) (t : Timed)
    → max (delay_set t.act) (longest_delay n events) ≡ longest_delay n (events ++ t ∷ [])
longer n events t = let more = longest_more events t in omega (arith, more)

-- ---- links in use, by the systems at their ends

used_by : (f : LinkSpec → Ends) (stood : LinkSpec → Standing) (ws : List LinkSpec)
    → ends_in_use (map f ws) (map cable_is_used (map stood ws)) ≡ map f (filter (λ w. cable_is_used (stood w)) ws)
used_by f stood [] = refl
used_by f stood (w ∷ ws) = by (cable_is_used (stood w)) (used_by f stood ws)
  where
    by : (test : Bool) → ends_in_use (map f ws) (map cable_is_used (map stood ws))
        ≡ map f (filter (λ v. cable_is_used (stood v)) ws)
        → (cond test (f w ∷ []) []) ++ ends_in_use (map f ws) (map cable_is_used (map stood ws))
        ≡ map f (cond test (w ∷ filter (λ v. cable_is_used (stood v)) ws) (filter (λ v. cable_is_used (stood v)) ws))
    by true rest = ap (λ es. f w ∷ es) rest
    by false rest = rest

pub used_are : (n : NetworkState) (events : List Timed)
    → ends_in_use (map (ends_of n) n.links) (map cable_is_used (standings_after n events)) ≡ used_ends n events
used_are n events = used_by (ends_of n) (standing_then n events) n.links

-- so are those that are lost
lost_by : (f : LinkSpec → Ends) (before now : LinkSpec → Standing) (ws : List LinkSpec)
    → ends_in_use (map f ws) (lost_among (map cable_is_used (map before ws)) (map cable_is_used (map now ws)))
    ≡ map f (filter (λ w. cable_is_used (before w) && not (cable_is_used (now w))) ws)
lost_by f before now [] = refl
lost_by f before now (w ∷ ws) =
    by (cable_is_used (before w) && not (cable_is_used (now w)))
    (ends_in_use (map f ws) (lost_among (map cable_is_used (map before ws)) (map cable_is_used (map now ws))))
    (filter (λ v. cable_is_used (before v) && not (cable_is_used (now v))) ws) (lost_by f before now ws)
  where
    by : (test : Bool) (es : List Ends) (vs : List LinkSpec) → es ≡ map f vs
        → (cond test (f w ∷ []) []) ++ es ≡ map f (cond test (w ∷ vs) vs)
    by true es vs rest = ap (λ ds. f w ∷ ds) rest
    by false es vs rest = rest

pub lost_are : (n : NetworkState) (made events : List Timed)
    → ends_in_use (map (ends_of n) n.links)
    (lost_among (map cable_is_used (standings_after n made)) (map cable_is_used (standings_after n events)))
    ≡ lost_ends n made events
lost_are n made events = lost_by (ends_of n) (standing_then n made) (standing_then n events) n.links

-- ---- what is seen

told_more : (n : NetworkState) (made now : List Timed) (t : Timed)
    → told_of n made (now ++ t ∷ []) ≡ told_of n made now ++ told_at n (made ++ now) t.act ∷ []
told_more n made [] t = ap (λ events. told_at n events t.act ∷ []) (sym (append-nil made))
told_more n made (u ∷ now) t =
    ap (λ es. told_at n made u.act ∷ es)
    (told_more n (made ++ u ∷ []) now t
    ∙ ap (λ events. told_of n (made ++ u ∷ []) now ++ told_at n events t.act ∷ [])
    (append_assoc made (u ∷ []) now))

module _ (n : NetworkState) (network : IsNetwork n) where
  moves_are : (made now : List Timed) (w : Walk) (at : ℕ) → WalkStands n made now w
      → moves_seen n w at ≡ moves_at n made now w.before at
  moves_are made now w at so =
      let used = so.used in
      let paths = so.paths in
      let set = so.set_before in
      let longest = so.longest_before in
      let ends = so.ends in
      let told = so.told in
      let systems_before = so.systems_before in
      let systems = systems_are n (made ++ now) w.tables so.tables in
      let standings = so.tables.standings in
      let all_used = so.all_used in
      rw (
        all_used,
        used,
        paths,
        set,
        longest,
        ends,
        told,
        systems,
        systems_before,
        standings,
        used_are n made,
        used_are n (made ++ now),
        lost_are n made (made ++ now),
        heard_are n made (made ++ now),
      ) refl

  pub view_is : (made now : List Timed) (w : Walk) (at : ℕ) → WalkStands n made now w
      → view_seen n w at ≡ view_at n made now w.before at
  view_is made now w at so =
      let first = not (is_some w.before) in
      let new = ap₂ (new_among first) so.tables.standings so.used ∙ new_are n made (made ++ now) first in
      λ i. record {
        at = at;
        last_set = so.set i;
        longest = so.longest i;
        before = w.before;
        paths_before = so.paths i;
        used_before = so.all_used i;
        longest_up_before = so.up i;
        arrived_before = arrived_by (so.longest_before i) (so.set_before i);
        new = new i;
        told = so.told i;
        moves = moves_are made now w at so i;
        used = up_is_used (so.tables.standings i);
        longest_up = longest_up (so.tables.standings i);
        silent = any_silent (so.used i) (so.tables.standings i);
        paths = crossed_is n network (made ++ now) w.tables so.tables i;
        calm = calm_is n network (made ++ now) w.tables so.tables i;
      }

  -- ---- before all events

  pub stands_first : (w : Walk) → IsFirstWalk n w → WalkStands n [] [] w
  stands_first w is =
      let systems = is.systems_before ∙ systems_are n [] w.tables is.tables in record {
        set = is.set;
        longest = is.longest ∙ omega arith;
        tables = is.tables;
        ends = is.ends ∙ ap (λ os. map (ends_among os) (cables_of n)) systems
            ∙ maps_twice (ends_among (systems_after n [])) cable_of (ends_of n) n.links (λ w. refl);
        systems_before = systems;
        told = is.told;
        set_before = is.set_before;
        longest_before = is.longest_before ∙ omega arith;
        used = is.used ∙ ap (map cable_is_used) is.tables.standings;
        paths = is.paths ∙ crossed_is n network [] w.tables is.tables;
        all_used = is.all_used ∙ ap up_is_used is.tables.standings;
        up = is.up ∙ ap longest_up is.tables.standings;
      }

  -- ---- one event more

  pub stands_more : (made now : List Timed) (t : Timed) (old new : Walk) → WalkStands n made now old
      → WalkPasses t.at t.act old new
      → WalkStands n made (now ++ t ∷ []) new
  stands_more made now t old new so passes =
      let joined : (made ++ now) ++ t ∷ [] ≡ made ++ (now ++ t ∷ []) = append_assoc made now (t ∷ []) in record {
        set = passes.set ∙ ap (cond (sets_bounds t.act) (Some t.at)) so.set ∙ sym (set_more (made ++ now) t)
            ∙ ap last_set joined;
        longest = passes.longest ∙ ap (max (delay_set t.act)) so.longest ∙ longer n (made ++ now) t
            ∙ ap (longest_delay n) joined;
        tables = subst (λ events. Stand n events new.tables) joined
            (stand_more n network (made ++ now) t old.tables new.tables so.tables passes.tables);
        told = passes.told
            ∙ ap₂ (λ es e. es ++ e ∷ []) so.told
            (ap₂ (told_by t.act) (link_is n network (made ++ now) t.act old.tables so.tables)
            (ap (find (has_clock (named t.act))) (systems_are n (made ++ now) old.tables so.tables)))
            ∙ sym (told_more n made now t);
        set_before = passes.set_before ∙ so.set_before;
        longest_before = passes.longest_before ∙ so.longest_before;
        ends = ap (λ (v : _). v.items) passes.ends ∙ so.ends;
        systems_before = ap (λ (v : _). v.items) passes.systems_before ∙ so.systems_before;
        used = ap (λ (v : _). v.items) passes.used ∙ so.used;
        paths = passes.paths ∙ so.paths;
        all_used = passes.all_used ∙ so.all_used;
        up = passes.up ∙ so.up;
      }

  -- ---- another time

  pub stands_on : (made now : List Timed) (time : SettlingTime) (old new : Walk) → WalkStands n made now old
      → WalkGoesOn time old new
      → WalkStands n (made ++ now) [] new
  stands_on made now time old new so on =
      let none : made ++ now ≡ (made ++ now) ++ [] = sym (append-nil (made ++ now)) in record {
        set = on.set ∙ so.set ∙ ap last_set none;
        longest = on.longest ∙ so.longest ∙ ap (longest_delay n) none;
        tables = subst (λ events. Stand n events new.tables) none
            (subst (Stand n (made ++ now)) (sym on.tables) so.tables);
        told = on.told;
        set_before = on.set_before ∙ so.set;
        longest_before = on.longest_before ∙ so.longest;
        ends = ap (λ (v : _). v.items) on.ends ∙ so.ends;
        systems_before = on.systems_before ∙ systems_are n (made ++ now) old.tables so.tables;
        used = on.used ∙ ap (map cable_is_used) so.tables.standings;
        paths = on.paths ∙ crossed_is n network (made ++ now) old.tables so.tables;
        all_used = on.all_used ∙ ap up_is_used so.tables.standings;
        up = on.up ∙ ap longest_up so.tables.standings;
      }
