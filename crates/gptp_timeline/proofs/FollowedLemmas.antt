-- Where a stretch has a bound and lasts as long, the roots that are followed where it ends are those of the settled
-- choice.
use Rattle.std.proofs.Common.{◌≡◌, ◌≤◌, ◌+◌, ℕ, Bool, List, [], ◌∷◌, ◌++◌, map, Option, Some, None, inl, inr, refl, sym, ap, subst, ◌∙◌, arith, true}
use Rattle.gptp_model.specs.Views.{rising_clocks}
use Rattle.gptp_model.specs.World.{WorldState}
use Rattle.gptp_graph.specs.Distance.{IsNear}
use Rattle.gptp_graph.specs.Order.{IsRising}
use Rattle.gptp_graph.specs.SettledChoice.{IsBestIdentity}
use Rattle.gptp_graph.specs.Snapshot.{clocks, Snapshot, System}
use Rattle.gptp_invariants.specs.WorldStanding.{snapshot_of}
use Rattle.gptp_links.specs.declared.bounds.Bounds.{Bounds}
use Rattle.gptp_lists.specs.Members.{In}
use Rattle.gptp_lists.proofs.SystemSpecLemmas.{from_map}
use Rattle.gptp_network.specs.Document.{DocumentState}
use Rattle.gptp_network.specs.Snapshot.{events_by, IsSnapshot, StandsAfter}
use Rattle.gptp_network.specs.Span.{IsBound}
use Rattle.gptp_scenario.specs.Calm.{IsCalm}
use Rattle.gptp_scenario.specs.declared.change.Timed.{Timed}
use Rattle.gptp_theorem.specs.AlikeLaws.{AreAlike}
use Rattle.gptp_theorem.specs.PlayedLaws.{IsPlayable}
use Rattle.gptp_theorem.proofs.AlikeLemmas.{best, clock_among, distance, turned}
use Rattle.gptp_report.specs.Transitions.{Courses}
use Rattle.gptp_system.specs.State.{SystemState}
use Rattle.gptp_world.specs.Transitions.{ActTrace}
use Rattle.gptp_timeline.specs.Each.{Each}
use Rattle.gptp_timeline.specs.Laws.{AreRoots, Follow, IsShownRoot}
use Rattle.gptp_timeline.specs.Shown.{live_system, shown}
use Rattle.gptp_timeline.specs.Stretch.{roots_of}
use Rattle.gptp_timeline.specs.Timeline.{AllPass, now_of, StretchTrace, TimelineOf}
use Rattle.gptp_timeline.specs.declared.timeline.TimelineOptions.{TimelineOptions}
use Rattle.gptp_timeline.proofs.PastLemmas.{last_past, past_both}
use Rattle.gptp_timeline.proofs.RestLemmas.{found_live, IsAtRest, lives_there, stands_there}
use Rattle.gptp_timeline.proofs.SettlingLemmas.{alike_after, begins, events_then, is_there, keeps_first, keeps_one, Keeps, left_first, rests, span_after}

-- ---- the roots of live systems, name by name

-- where names rise, those of live systems are in order those that are listed by rising clock
module _ (w : WorldState) (P : ℕ → ℕ → Type 0) where
  -- of these names, those of live systems are these
  record AreLive (names live : List ℕ) : Type 0 where
    rising : IsRising names
    rise : IsRising live
    named : (name : ℕ) → In name live → In name names
    there : (name : ℕ) → In name live → (s : SystemState) × (live_system name w ≡ Some s)
    all : (name : ℕ) (s : SystemState) → In name names → live_system name w ≡ Some s → In name live

  -- the first name is no live system's
  first_failed : (name : ℕ) (names live : List ℕ) → live_system name w ≡ None → AreLive (name ∷ names) live
      → AreLive names live
  first_failed name names live none are = record {
    rising = are.rising.1;
    rise = are.rise;
    named = λ other member. elim (are.named other member) [
      | inl same ↦ absurd (let (s, is) = are.there other member in
          let no : None ≡ Some s = sym none ∙ ap (λ n. live_system n w) (sym same) ∙ is in cc)
      | inr later ↦ later
    ];
    there = are.there;
    all = λ other s member is. are.all other s (inr member) is;
  }

  -- it is that of the first live system
  first_is : (name first : ℕ) (names live : List ℕ) → In name (first ∷ live) → AreLive (name ∷ names) (first ∷ live)
      → first ≡ name
  first_is name first names live (inl same) are = sym same
  first_is name first names live (inr later) are = elim (are.named first (inl refl)) [
    | inl same ↦ same
    | inr behind ↦ absurd (let low = are.rise.0 name later in let high = are.rising.0 first behind in
        (omega (arith, low, high)))
  ]

  first_lives : (name : ℕ) (names live : List ℕ) → AreLive (name ∷ names) (name ∷ live) → AreLive names live
  first_lives name names live are = record {
    rising = are.rising.1;
    rise = are.rise.1;
    named = λ other member. elim (are.named other (inr member)) [
      | inl same ↦ absurd (let low = are.rise.0 other member in (omega (arith, low, same)))
      | inr later ↦ later
    ];
    there = λ other member. are.there other (inr member);
    all = λ other s member is. elim (are.all other s (inr member) is) [
      | inl same ↦ absurd (let low = are.rising.0 other member in (omega (arith, low, same)))
      | inr later ↦ later
    ];
  }

  abbrev roots : List ℕ → List ℕ
  roots names = roots_of (map (λ name. shown name w) names)

  each_root : (names live : List ℕ) → AreLive names live
      → ((name : ℕ) (s : SystemState) → live_system name w ≡ Some s → P name s.root) → Each P live (roots names)
  each_root [] [] are follows = tt
  each_root [] (c ∷ cs) are follows = absurd (are.named c (inl refl))
  each_root (n ∷ ns) live are follows = by (live_system n w) refl (λ cs rest. each_root ns cs rest follows)
    where
      by : (o : Option SystemState) → live_system n w ≡ o → ((cs : List ℕ) → AreLive ns cs → Each P cs (roots ns))
          → Each P live (roots (n ∷ ns))
      by None is next = rw is (next live (first_failed n ns live is are))
      by (Some s) is next = split live (are.all n s (inl refl) is) are
        where
          split : (cs : List ℕ) → In n cs → AreLive (n ∷ ns) cs → Each P cs (roots (n ∷ ns))
          split [] member so = absurd member
          split (c ∷ cs) member so =
              let same = first_is n c ns cs member so in
              subst (λ first. Each P (first ∷ cs) (roots (n ∷ ns))) (sym same)
              (rw is (
                follows n s is,
                next cs (first_lives n ns cs
                    (subst (λ first. AreLive (n ∷ ns) (first ∷ cs)) same so)),
              ))

-- ---- the end of a stretch

-- its world has that time
courses_end : {F : Type 0} (answers : Bounds → ℕ → F → Option ℕ → F → Type 0) (until : ℕ) (events : List Timed)
    (ts : List ActTrace) (fate fate_after : F) (w w' : WorldState)
    → Courses answers until events ts fate fate_after w w' → w'.time ≡ until
courses_end answers until [] ts fate fate_after w w' k = ap (λ (v : WorldState). v.time) k.is
courses_end answers until (e ∷ es) ts fate fate_after w w' (first, rest, drawn, between, makes, k, are) =
    courses_end answers until es rest drawn fate_after between w' k

near_alike : (g h : Snapshot) → AreAlike g h → (name : ℕ) → IsNear g name → IsNear h name
near_alike g h alike name (d, is, near) = (d, distance g h alike name d is, near)

best_alike : (g h : Snapshot) → AreAlike g h → (name root : ℕ) → IsBestIdentity g name root
    → IsBestIdentity h name root
best_alike g h alike name root (s, is, same) = (s, best g h alike name s is, same)

module _ {F : Type 0} (answers : Bounds → ℕ → F → Option ℕ → F → Type 0) (d : DocumentState)
    (playable : IsPlayable d) (names : List ℕ) where
  -- a near system of a world that has settled follows the best of its component
  root_settles : (events : List Timed) (g : Snapshot) (w : WorldState) (name root : ℕ)
      → StandsAfter d.network events g → Keeps answers d playable names events w
      → (IsNear (snapshot_of w) name → IsBestIdentity (snapshot_of w) name root) → IsShownRoot g name root
  root_settles events g w name root stands keeps best near =
      let alike = alike_after answers d playable names events g w stands keeps in
      best_alike (snapshot_of w) g alike name root
      (best (near_alike g (snapshot_of w) (turned (snapshot_of w) g alike) name near))

  -- and these are the systems of its snapshot
  live_names : (events : List Timed) (g : Snapshot) (w : WorldState) → StandsAfter d.network events g
      → Keeps answers d playable names events w → AreLive w (IsShownRoot g) names (clocks g)
  live_names events g w stands keeps =
      let alike = alike_after answers d playable names events g w stands keeps in
      let back = turned (snapshot_of w) g alike in
      let there : (name : ℕ) → In name (clocks g) → (s : SystemState) × (live_system name w ≡ Some s) =
      λ name member.
      (let (x, one, same) = from_map (λ (y : System). y.clock) name (snapshot_of w).systems
      (clock_among g (snapshot_of w) back name member) in
      lives_there w name x keeps.claimed.world.sound.wired.clocks one same) in
      record {
        rising = keeps.named.rising;
        rise = stands.rising;
        named = λ name member. (let (s, is) = there name member in live_named name s is);
        there = there;
        all = λ name s member is. clock_among (snapshot_of w) g alike name (is_there w name s is);
      }
    where
      live_named : (name : ℕ) (s : SystemState) → live_system name w ≡ Some s → In name names
      live_named name s is =
          let live = found_live name w.stations s is in
          subst (λ c. In c names) live.is_named (keeps.named.each live.place live.station live.here)

  -- so where a stretch ends with near systems that follow the bests, the roots are those of the settled choice
  pub follow_best : (exact : Bool) (until : ℕ) (passages : List StretchTrace) (fate fate_after : F)
      (start after : WorldState) (p : StretchTrace) (g : Snapshot) → Keeps answers d playable names [] start
      → AllPass answers exact d until 0 (events_by until d.events) fate fate_after start after passages → In p passages
      → ((name : ℕ) (s : SystemState) → live_system name p.after ≡ Some s → IsNear (snapshot_of p.after) name
      → IsBestIdentity (snapshot_of p.after) name s.root) → IsSnapshot d p.from g
      → AreRoots g (roots_of (map (λ name. shown name p.after) names))
  follow_best exact until passages fate fate_after start after p g keeps pass member best at_begin =
      let b = begins answers d playable names exact until passages 0 [] (events_by until d.events) fate fate_after start
      after p (left_first answers d playable names until) keeps pass member in
      let events = b.before ++ now_of b.from b.left in
      let are : events_by b.from d.events ≡ events =
      events_then answers d playable names until b.from b.before b.left b.is_left in
      let is = b.passage.from_is in
      let at_end = keeps_one answers d playable names exact until b.from b.before b.left b.fate b.fate_after b.w p
      b.is_left b.keeps b.passage in
      let stands : StandsAfter d.network events g =
      subst (λ es. StandsAfter d.network es g) are (subst (λ t. IsSnapshot d t g) is at_begin) in
      each_root p.after (IsShownRoot g) names (clocks g) (live_names events g p.after stands at_end)
      (λ name s lives. root_settles events g p.after name s.root stands at_end (best name s lives))

  rest_follows : (w : WorldState) (name : ℕ) (s : SystemState) → live_system name w ≡ Some s
      → IsAtRest (snapshot_of w) s → IsBestIdentity (snapshot_of w) name s.root
  rest_follows w name s is rest =
      let (x, member, clock_is, ports, named) = stands_there w name s is in
      subst (λ v. IsBestIdentity (snapshot_of w) v s.root) named rest.settled.root

  pub follow_there : (exact : Bool) (until : ℕ) (passages : List StretchTrace) (fate fate_after : F)
      (start after : WorldState) (p : StretchTrace) (bound : ℕ) (g : Snapshot) → Keeps answers d playable names [] start
      → AllPass answers exact d until 0 (events_by until d.events) fate fate_after start after passages → In p passages
      → IsBound d p.from (Some bound) → p.from + bound ≤ p.to → IsSnapshot d p.from g
      → AreRoots g (roots_of (map (λ name. shown name p.after) names))
  follow_there exact until passages fate fate_after start after p bound g keeps pass member bounded late at_begin =
      let b = begins answers d playable names exact until passages 0 [] (events_by until d.events) fate fate_after start
      after p (left_first answers d playable names until) keeps pass member in
      let events = b.before ++ now_of b.from b.left in
      let are : events_by b.from d.events ≡ events =
      events_then answers d playable names until b.from b.before b.left b.is_left in
      let is = b.passage.from_is in
      let at_end = keeps_one answers d playable names exact until b.from b.before b.left b.fate b.fate_after b.w p
      b.is_left b.keeps b.passage in
      let bounds : IsBound d b.from (Some bound) = subst (λ time. IsBound d time (Some bound)) is bounded in
      let span = bounds.1 in
      let calm = subst (IsCalm d.network) are bounds.0 in
      let stood = subst (λ es. StandsAfter d.network es span.snapshot) are span.stands in
      let time = courses_end answers p.to p.events p.acts b.fate b.fate_after b.w p.after b.passage.courses in
      let settled : b.from + bound ≤ p.after.time = omega (arith, is, time, late) in
      let last = last_past b.from events (past_both b.from b.before b.left b.is_left.past) in
      let spans = subst (λ es. bound ≡ span_after answers d playable names es span.snapshot) are span.is in
      follow_best exact until passages fate fate_after start after p g keeps pass member
      (λ name s lives near. rest_follows p.after name s lives
      (rests answers d playable names events b.from bound span.snapshot calm stood last spans p.after at_end settled
      name near s lives)) at_begin

pub stretches_follow : {F : Type 0} (answers : Bounds → ℕ → F → Option ℕ → F → Type 0) (d : DocumentState) (until : ℕ)
    (options : TimelineOptions) (fate : F) (lines : List (List ℕ)) (exceeded : Bool)
    (t : TimelineOf answers d until options fate lines exceeded) → IsPlayable d → Follow d t.start t.passages
stretches_follow answers d until options fate lines exceeded t playable p bound g member bounded late =
    let names = rising_clocks t.start in
    follow_there answers d playable names true until t.passages t.started t.fate_after t.start t.after p bound g
    (keeps_first answers d playable names fate t.started t.start refl t.begun) t.pass member bounded late
