-- A priority1 by which the best of a tree gets worse does so as its event is told.
use Rattle.std.proofs.Common.{◌≡◌, ◌≤◌, ◌⊎◌, ◌+◌, ℕ, true, false, List, [], ◌∷◌, ◌++◌, filter, slice_get, refl, sym, ap, subst, ◌∙◌, append-nil, arith}
use Rattle.std.specs.Prelude.{◌==◌, not}
use Rattle.std.proofs.lemmas.Bool.{and_parts, eqb-true}
use Rattle.gptp_lists.specs.Members.{In}
use Rattle.gptp_lists.proofs.SystemSpecLemmas.{In-slice_get, from_map, slice_get-In}
use Rattle.gptp_graph.specs.Distance.{IsDistance}
use Rattle.gptp_graph.specs.Snapshot.{IsWellFormed, Snapshot, System, clocks}
use Rattle.gptp_graph.proofs.SystemLemmas.{In-clocks}
use Rattle.gptp_network.specs.Document.{DocumentState}
use Rattle.gptp_network.specs.Snapshot.{StandsAfter}
use Rattle.gptp_network.proofs.InUseLemmas.{live_there}
use Rattle.gptp_network.proofs.SnapshotLemmas.{from_filter, with_clock}
use Rattle.gptp_scenario.specs.Calm.{IsLive}
use Rattle.gptp_scenario.specs.Change.{link_acted, link_after}
use Rattle.gptp_scenario.specs.Network.{IsNetwork, NetworkState}
use Rattle.gptp_scenario.specs.SyncWait.{sync_paths}
use Rattle.gptp_scenario.specs.declared.change.Timed.{Timed}
use Rattle.gptp_scenario.specs.declared.network.LinkSpec.{LinkSpec}
use Rattle.gptp_theorem.specs.PlayedLaws.{IsPlayable}
use Rattle.gptp_theorem.proofs.EventLemmas.{link_behind}
use Rattle.gptp_invariants.specs.WorldEncodableLaws.{SetsAnOctet}
use Rattle.gptp_topology.specs.After.{systems_after}
use Rattle.gptp_topology.specs.Course.{cable_is_used, cable_of}
use Rattle.gptp_topology.proofs.RestLemmas.{lives_from}
use Rattle.gptp_how_soon.specs.Chosen.{chosen_after, ends_of, is_used_then, lost_ends, place_of, used_ends}
use Rattle.gptp_how_soon.specs.Kinds.{is_worsening}
use Rattle.gptp_how_soon.specs.Links.{is_lost}
use Rattle.gptp_how_soon.specs.Times.{events_at, told_at}
use Rattle.gptp_how_soon.specs.Tree.{chose_itself, falls_below, worsens_best_after}
use Rattle.gptp_how_soon.specs.declared.chosen.Chosen.{Chosen}
use Rattle.gptp_how_soon.specs.declared.chosen.Ends.{Ends}
use Rattle.gptp_how_soon.proofs.ChosenLemmas.{IsAt, place_is}
use Rattle.gptp_settling_time.specs.TreeLosses.{IsWorsenedTree, WorsensTree}
use Rattle.gptp_settling_time.proofs.SamePathsLemmas.{StandAlike, lives_same, priority_alike}
use Rattle.gptp_how_soon_laws.proofs.FallsBelowLemmas.{FallsBelow, below_so, in_tree, is_top, others}
use Rattle.gptp_how_soon_laws.proofs.LivesOnLemmas.{LivesOn, on_at}
use Rattle.gptp_how_soon_laws.proofs.TreeBelowLemmas.{IsTop, base, best, cut_off, depth, next}
use Rattle.gptp_how_soon_laws.proofs.UnmovedLemmas.{AreWell}
use Rattle.gptp_how_soon_laws.proofs.WorseningLemmas.{IsWorsening, alike_back, clock_over, worsening_so}

module _ (n : NetworkState) (network : IsNetwork n) (made : List Timed) (event : Timed)
    (x : IsWorsening n network made event) where
  abbrev later : List Timed
  later = made ++ event ∷ []

  -- ---- links stay, and who lives

  alike : StandAlike n made later
  alike = priority_alike n made event x.number x.value x.act

  stays : (v : LinkSpec) → link_after later v ≡ link_after made v
  stays v = link_behind made event v ∙ ap (λ act. link_acted act (link_after made v)) x.act

  live_on : (number : ℕ) → IsLive n.systems made number → IsLive n.systems later number
  live_on number live = record {
    place = live.place;
    system = live.system;
    there = live.there;
    clock = live.clock;
    live = alike.systems live.system (In-slice_get live.system n.systems live.place live.there) ∙ live.live;
  }

  same_used : (w : LinkSpec) → is_used_then n later w ≡ is_used_then n made w
  same_used w = λ i. cable_is_used (record {
    at = 0;
    cable = cable_of (stays w i);
    a_lives = lives_same n made later alike.systems w.a.clock i;
    b_lives = lives_same n made later alike.systems w.b.clock i;
  })

  lost_none : (e : Ends) → In e (lost_ends n made later) → ⊥
  lost_none e listed =
      let (w, member, of) = from_map (ends_of n) e (filter (is_lost n made later) n.links) listed in
      let (known, gone) = from_filter (is_lost n made later) w n.links member in
      let (used, down) = and_parts (is_used_then n made w) (not (is_used_then n later w)) gone in
      let no : true ≡ false = sym down ∙ ap not (same_used w ∙ used) in
      cc

  lived : (g h : Snapshot) → StandsAfter n made g → StandsAfter n later h → (v : ℕ) → In v (clocks h)
      → In v (clocks g)
  lived g h stands stands' v known =
      clock_over n network later made (alike_back n made later alike).systems h g stands' stands v known

  -- ---- the best

  abbrev before : List Chosen
  before = chosen_after n made

  abbrev top : ℕ
  top = place_of (systems_after n later) (told_at n made event.act).clock

  top_of : (g : Snapshot) → StandsAfter n made g → IsWellFormed g → IsAt n top x.number
  top_of g stands well =
      let w = x.worsens in
      let at : IsAt n w.place x.number = record { system = w.system; there = w.there; clock = w.clock } in
      subst (λ i. IsAt n i x.number)
      (sym (ap (λ act. place_of (systems_after n later) (told_at n made act).clock) x.act
      ∙ place_is n network made g stands well later w.place x.number at)) at

  live_then : IsLive n.systems later x.number
  live_then =
      let w = x.worsens in
      live_on x.number
      (record { place = w.place; system = w.system; there = w.there; clock = w.clock; live = w.live })

  known_then : (h : Snapshot) → StandsAfter n later h → In x.number (clocks h)
  known_then h stands' =
      let (s, here, same) =
      with_clock h.systems x.number
      (live_there n network later h stands' x.number (lives_from n later x.number live_then)) in
      subst (λ c. In c (clocks h)) same (In-clocks h s here)

  -- it chose itself, and a tree falls back
  record Worsened : Type 0 where
    itself : chose_itself (slice_get before top) ≡ true
    falls : FallsBelow n network made later top

  worsened : worsens_best_after n made later (told_at n made event.act ∷ []) ≡ true → Worsened
  worsened is =
      let (itself, falls) = and_parts (chose_itself (slice_get before top))
      (falls_below (systems_after n later) (used_ends n later) before (chosen_after n later) top) is in
      record { itself = itself; falls = below_so n network made later top falls }

  module _ (t : Worsened) (g h : Snapshot) (stands : StandsAfter n made g) (stands' : StandsAfter n later h)
      (well : IsWellFormed g) (well' : IsWellFormed h) where
    abbrev lived_so : (v : ℕ) → In v (clocks h) → In v (clocks g)
    lived_so = lived g h stands stands'

    at : IsAt n top x.number
    at = top_of g stands well

    known : In x.number (clocks h)
    known = known_then h stands'

    only_top : (i v : ℕ) → IsAt n i v → in_tree n network made later top t.falls i ≡ true → (e : Ends)
        → In e (lost_ends n made later) → (e.a ≡ i) ⊎ (e.b ≡ i) → i ≡ top
    only_top i v at_v inside e listed end = absurd (lost_none e listed)

    abbrev tops : IsTop n network made later g h stands stands' well well' lived_so top x.number
    tops = is_top n network made later top t.falls g h stands stands' well well' lived_so x.number at known only_top

    -- it was no step away from itself
    base_none : base n network made later g h stands stands' well well' lived_so top x.number tops ≡ 0
    base_none =
        let is_top : LivesOn n network made later g h stands stands' well well' lived_so top x.number =
        on_at n network made later g h stands stands' well well' lived_so top x.number tops.at tops.known in
        eqb-true is_top.was.steps 0 ((λ k. chose_itself (sym is_top.was_there k)) ∙ t.itself)

    abbrev deep : ℕ → ℕ
    deep = depth n network made later g h stands stands' well well' lived_so top x.number tops

    deep_so : (v : ℕ) → base n network made later g h stands stands' well well' lived_so top x.number tops + deep v
        ≡ deep v
    deep_so v = let none = base_none in omega (arith, none)

    worsened_so : (best : System) × (next : System) × (depth : ℕ → ℕ) × IsWorsenedTree g h x.number best next depth
    worsened_so =
        let c = cut_off n network made later g h stands stands' well well' lived_so top x.number tops in (
          best n network made later g h stands stands' well well' lived_so top x.number tops,
          next n network made later g h stands stands' well well' lived_so top x.number tops,
          deep,
          record {
            in_top = c.in_top;
            others = others n network made later top t.falls g h stands stands' well well' lived_so x.number at known
                only_top;
            worse = c.worse;
            was_best = c.was_best;
            was = λ v in_v. subst (IsDistance g v) (deep_so v) (c.was v in_v);
            first = c.first;
            steps = c.steps;
            single = c.single;
          },
        )

-- so it is told
pub worsens_tree : (n : NetworkState) (network : IsNetwork n) (made : List Timed) (event : Timed)
    → AreWell n (made ++ event ∷ []) → SetsAnOctet event.act
    → (sync_paths n (made ++ event ∷ [])).delay ≤ (sync_paths n made).delay
    → (sync_paths n (made ++ event ∷ [])).systems ≤ (sync_paths n made).systems → (sync_paths n made).systems ≤ 255
    → is_worsening (told_at n made event.act) ≡ true
    → worsens_best_after n made (made ++ event ∷ []) (told_at n made event.act ∷ []) ≡ true
    → WorsensTree n made event
worsens_tree n network made event well octet delay paths few is best =
    let x = worsening_so n network made event event.act refl is in
    let w = x.worsens in
    record {
      clock = x.number;
      value = x.value;
      act = x.act;
      octet = subst SetsAnOctet x.act octet;
      live = record { place = w.place; system = w.system; there = w.there; clock = w.clock; live = w.live };
      worsens = λ g h stands stands'.
          worsened_so n network made event x (worsened n network made event x best) g h stands stands'
          (well made (event ∷ []) refl g stands)
          (well (made ++ event ∷ []) [] (append-nil (made ++ event ∷ [])) h stands');
      delay = delay;
      paths = paths;
      few = few;
    }

-- each priority1 that a document sets at a time is an octet
pub octets_at : (d : DocumentState) → IsPlayable d → (time : ℕ) (t : Timed) → In t (events_at time d.events)
    → SetsAnOctet t.act
octets_at d playable time t member =
    let (place, there) = slice_get-In t d.events (from_filter (λ (u : Timed). u.at == time) t d.events member).0 in
    playable.octets place t there
