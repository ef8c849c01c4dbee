-- What the lines of a case tell of the choice, and its runs of roles, is within the bounds that are told.
use Rattle.std.proofs.Common.{◌≡◌, ◌≤◌, ◌<◌, ◌+◌, ◌-◌, ◌*◌, ◌/◌, ◌++◌, ℕ, zero, suc, Bool, true, false, if◌then◌else◌, nat_lt, max, List, [], ◌∷◌, map, Option, Some, None, IfSome, refl, sym, ap, subst, ◌∙◌, inl, inr, arith}
use Rattle.std.specs.List.{AllByRecursion, range_with_len}
use Rattle.std.specs.Option.{option_or}
use Rattle.std.proofs.Math.Nat.{le-max_left, le-max_right}
use Rattle.std.proofs.lemmas.Option.{same_Some}
use Rattle.gptp_how_soon.specs.declared.bounds.Settling.{Settling}
use Rattle.gptp_invariants.specs.WorldStanding.{snapshot_of}
use Rattle.gptp_lists.specs.Members.{In}
use Rattle.gptp_lists.proofs.SystemSpecLemmas.{In-slice_get}
use Rattle.gptp_model.specs.Views.{rising_clocks}
use Rattle.gptp_model.specs.World.{WorldState}
use Rattle.gptp_network.specs.Document.{DocumentState}
use Rattle.gptp_network.specs.Snapshot.{events_by, IsSnapshot, StandsAfter}
use Rattle.gptp_network.proofs.ExistenceLemmas.{snapshot_exists}
use Rattle.rand_pcg.specs.Lcg.{Lcg}
use Rattle.gptp_scenario.specs.declared.change.Timed.{Timed}
use Rattle.gptp_theorem.specs.PlayedLaws.{IsPlayable}
use Rattle.gptp_theorem.proofs.OctetLemmas.{seeded_playable}
use Rattle.gptp_theorem.proofs.AlikeLemmas.{clock_among, distance, turned}
use Rattle.gptp_timeline.specs.Aside.{AsideState}
use Rattle.gptp_timeline.specs.Each.{Each}
use Rattle.gptp_timeline.specs.Ends.{EndState}
use Rattle.gptp_timeline.specs.LastStretches.{aside_if, carry_over, CarriedAside, end_in, first_aside, last_behind, none_last, with_end}
use Rattle.gptp_timeline.specs.Laws.{AllNear}
use Rattle.gptp_timeline.specs.Timeline.{AllPass, later_than, now_of, StretchTrace}
use Rattle.gptp_timeline.specs.declared.ends.LastStretches.{LastStretches}
use Rattle.gptp_timeline.specs.declared.stretch.Stretch.{Stretch}
use Rattle.gptp_timeline.proofs.SettlingLemmas.{alike_after, begins, events_then, keeps_first, keeps_one, left_first}
use Rattle.gptp_timeline_laws.proofs.SoonLemmas.{stretch_settles}
use Rattle.gptp_faults.specs.CaseEvents.{EventsState}
use Rattle.gptp_faults.specs.Extremes.{behind, bounds_of, counted_before, greater_if, greatest_behind, greatest_of_two, later_bounds}
use Rattle.gptp_faults.specs.Faults.{FaultsOf}
use Rattle.gptp_faults.specs.Laws.{IsWithinBounds, roles_back, roles_down, StaysNear}
use Rattle.gptp_faults.specs.Options.{tracks}
use Rattle.gptp_faults.specs.Outcomes.{aside_of, back_in, down_in, IsOutcome, IsOutcomeAt, OutcomeState}
use Rattle.gptp_faults.specs.Refusals.{case_events}
use Rattle.gptp_faults.specs.Runs.{AreRunEnds, CaseRunEnds, document_run, draws, generator, is_seen, run_moment, runs_of, seed_of, set_aside}
use Rattle.gptp_faults.specs.Stays.{document_of, end_at, hold_of}
use Rattle.gptp_faults.specs.Times.{moment}
use Rattle.gptp_faults.specs.declared.cases.Case.{Case}
use Rattle.gptp_faults.specs.declared.extremes.Extremes.{Extremes}
use Rattle.gptp_faults.specs.declared.extremes.HowSoon.{HowSoon}
use Rattle.gptp_faults.specs.declared.options.FaultsOptions.{FaultsOptions}
use Rattle.gptp_faults.specs.declared.runs.RunEnds.{RunEnds}
use Rattle.gptp_faults.specs.declared.times.Times.{Times}
use Rattle.gptp_faults.proofs.FollowLemmas.{each_for}
use Rattle.gptp_faults.proofs.PlayableLemmas.{can_happen, CanHappen, case_playable}
use Rattle.gptp_faults.proofs.RefusalLemmas.{in_time_of, IsInTime, not_refused}
use Rattle.gptp_faults.proofs.RunLemmas.{moment_below}

-- ---- numbers

some_le : (o : Option ℕ) (low high : ℕ) → IfSome o (λ v. v ≤ low) → low ≤ high → IfSome o (λ v. v ≤ high)
some_le None low high is le = tt
some_le (Some v) low high is le = omega (arith, is, le)

-- the greater of two is within what both are within
greater_within : (a b : Option ℕ) (high : ℕ) → IfSome a (λ v. v ≤ high) → IfSome b (λ v. v ≤ high)
    → IfSome (greater_if a b) (λ v. v ≤ high)
greater_within None None high one other = tt
greater_within (Some x) None high one other = one
greater_within None (Some y) high one other = other
greater_within (Some x) (Some y) high one other = by (nat_lt x y)
  where
    by : (t : Bool) → IfSome (if t then Some y else Some x) (λ v. v ≤ high)
    by true = other
    by false = one

-- ---- a stretch

-- No act leaves a system another later than it ends, nor, where bounds are told, later than these.
record IsGood (s : Stretch) : Type 0 where
  on : s.from ≤ s.to
  chosen : IfSome s.measures.choice (λ time. time ≤ s.to)
  played : IfSome s.measures.roles (λ time. time ≤ s.to)
  settles : (b : Settling) → s.settling ≡ Some b
      → IfSome (behind s.from s.measures.choice) (λ last. last ≤ b.choice)
      × IfSome (behind s.from s.measures.roles) (λ last. last ≤ b.roles)

-- ---- one stretch

-- what is told of it, with the last change of roles
record IsWithin (bounds : Option HowSoon) (choice roles : Option ℕ) : Type 0 where
  both : (b : HowSoon) → bounds ≡ Some b
      → IfSome choice (λ last. last ≤ b.choice) × IfSome roles (λ last. last ≤ b.roles)

abbrev how_soon : Settling → HowSoon
how_soon b = record { choice = b.choice; roles = b.roles }

one_within : (s : Stretch) → IsGood s
    → IsWithin (bounds_of s.settling) (behind s.from s.measures.choice) (behind s.from s.measures.roles)
one_within s good = by s.settling refl
  where
    by : (o : Option Settling) → s.settling ≡ o
        → IsWithin (bounds_of o) (behind s.from s.measures.choice) (behind s.from s.measures.roles)
    by None is = record { both = λ b no. absurd cc }
    by (Some told) is = record {
      both = λ b same. subst (λ (x : HowSoon). IfSome (behind s.from s.measures.choice) (λ last. last ≤ x.choice)
          × IfSome (behind s.from s.measures.roles) (λ last. last ≤ x.roles))
          (same_Some (how_soon told) b same) (good.settles told is);
    }

-- ---- two that follow each other, taken as one

-- the last change of both, from the begin of the first on
last_within : (from middle bound : ℕ) (first second : Option ℕ) → from ≤ middle
    → IfSome first (λ time. time ≤ middle) → IfSome (behind middle second) (λ last. last ≤ bound)
    → IfSome (behind from (option_or second first)) (λ last. last ≤ (middle - from) + bound)
last_within from middle bound None None on early within = tt
last_within from middle bound (Some time) None on early within = omega (arith, on, early)
last_within from middle bound first (Some time) on early within = omega (arith, on, within)

module _ (a s : Stretch) (before : IsGood a) (good : IsGood s) (joined : a.to ≡ s.from) where
  in_turn : a.from ≤ s.from
  in_turn = let own = before.on in omega (arith, own, joined)

  abbrev choice_of_both : Option ℕ
  choice_of_both = behind a.from (option_or s.measures.choice a.measures.choice)

  abbrev roles_of_both : Option ℕ
  roles_of_both = behind a.from (option_or s.measures.roles a.measures.roles)

  two_within : IsWithin (counted_before (s.from - a.from) (bounds_of s.settling)) choice_of_both roles_of_both
  two_within = by s.settling refl
    where
      by : (o : Option Settling) → s.settling ≡ o
          → IsWithin (counted_before (s.from - a.from) (bounds_of o)) choice_of_both roles_of_both
      by None is = record { both = λ b no. absurd cc }
      by (Some told) is =
          let settled = good.settles told is in
          let waited : HowSoon = record {
            choice = (s.from - a.from) + told.choice;
            roles = (s.from - a.from) + told.roles;
          } in record {
            both = λ b same. subst (λ (x : HowSoon). IfSome choice_of_both (λ last. last ≤ x.choice)
                × IfSome roles_of_both (λ last. last ≤ x.roles))
                (same_Some waited b same) (
                  last_within a.from s.from told.choice a.measures.choice s.measures.choice in_turn
                      (subst (λ to. IfSome a.measures.choice (λ time. time ≤ to)) joined before.chosen) settled.0,
                  last_within a.from s.from told.roles a.measures.roles s.measures.roles in_turn
                      (subst (λ to. IfSome a.measures.roles (λ time. time ≤ to)) joined before.played) settled.1,
                );
          }

-- ---- the last stretches of a run

-- Each of them is good, and ends where the next begins, the last at this time.
record AreGood (to : ℕ) (ends : LastStretches) : Type 0 where
  last : (b : EndState) → ends.last ≡ Some b → IsGood b.stretch × (b.stretch.to ≡ to)
  before : (a b : EndState) → ends.before ≡ Some a → ends.last ≡ Some b
      → IsGood a.stretch × (a.stretch.to ≡ b.stretch.from)
  earlier : (a b : EndState) → ends.earlier ≡ Some a → ends.before ≡ Some b
      → IsGood a.stretch × (a.stretch.to ≡ b.stretch.from)

none_good : AreGood 0 none_last
none_good = record {
  last = λ b no. absurd cc;
  before = λ a b no none. absurd cc;
  earlier = λ a b no none. absurd cc;
}

-- one more
more_good : (from : ℕ) (ends : LastStretches) (e : EndState) → AreGood from ends → IsGood e.stretch
    → e.stretch.from ≡ from → AreGood e.stretch.to (with_end ends e)
more_good from ends e are good begins_there = record {
  last = λ b is.
      subst (λ (x : EndState). IsGood x.stretch × (x.stretch.to ≡ e.stretch.to)) (same_Some e b is) (good, refl);
  before = λ a b one other.
      let k = are.last a one in (
        k.0,
        k.1 ∙ sym begins_there ∙ ap (λ (x : EndState). x.stretch.from) (same_Some e b other),
      );
  earlier = are.before;
}

module _ (d : DocumentState) (until : ℕ) (names : List ℕ) where
  -- all of a run
  all_good : (passages : List StretchTrace) (from : ℕ) (left : List Timed) (c : CarriedAside) (ends : LastStretches)
      (fate fate_after : Lcg) (w w' : WorldState)
      → AllPass draws false d until from left fate fate_after w w' passages
      → ((p : StretchTrace) → In p passages → (carried : CarriedAside) → IsGood (end_in names carried p).stretch)
      → AreGood from ends → (to : ℕ) × AreGood to (last_behind names c passages ends)
  all_good [] from left c ends fate fate_after w w' pass good are = absurd pass
  all_good (p ∷ []) from left c ends fate fate_after w w' (passage, none, over) good are =
      (p.to, more_good from ends (end_in names c p) are (good p (inl refl) c) passage.from_is)
  all_good (p ∷ (q ∷ qs)) from left c ends fate fate_after w w' (drawn, passage, some, rest) good are =
      all_good (q ∷ qs) p.to (later_than from left) (carry_over p c) (with_end ends (end_in names c p)) drawn fate_after
      p.after w' rest (λ r member. good r (inr member))
      (more_good from ends (end_in names c p) are (good p (inl refl) c) passage.from_is)

-- ---- a run of a case

module _ (options : FaultsOptions) (d : DocumentState) (t : Times) (e : EventsState) (playable : IsPlayable d)
    (can : CanHappen d.network e) (near : StaysNear d options e) (names : List ℕ) (run : ℕ) (r : RunEnds)
    (k : IsInTime d options.hold e (run_moment t run)) (is : CaseRunEnds options d t e names run r) where
  abbrev at : ℕ
  at = run_moment t run

  abbrev whole : DocumentState
  whole = document_run d options.hold e t run

  abbrev until : ℕ
  until = end_at d options.hold e at

  abbrev fate : Lcg
  fate = generator (seed_of t run)

  abbrev own_names : List ℕ
  own_names = rising_clocks is.ends.start

  plays : IsPlayable whole
  plays =
      seeded_playable (document_of d options.hold e at) (seed_of t run)
      (case_playable d e playable can at (hold_of d options.hold e at) k.behind_last k.returns)

  -- every live system is near where a stretch ends
  all_near : (p : StretchTrace) → In p is.ends.passages → AllNear (snapshot_of p.after)
  all_near p member =
      let b = begins draws whole plays own_names false until is.ends.passages 0 [] (events_by until whole.events)
      is.ends.started is.ends.fate_after is.ends.start is.ends.after p (left_first draws whole plays own_names until)
      (keeps_first draws whole plays own_names fate is.ends.started is.ends.start refl is.ends.begun) is.ends.pass
      member in
      let events = b.before ++ now_of b.from b.left in
      let at_end = keeps_one draws whole plays own_names false until b.from b.before b.left b.fate b.fate_after b.w p
      b.is_left b.keeps b.passage in
      let (g, stands) = snapshot_exists whole b.from plays.network in
      let stood : StandsAfter whole.network events g =
      subst (λ es. StandsAfter whole.network es g)
      (events_then draws whole plays own_names until b.from b.before b.left b.is_left) stands in
      let alike = alike_after draws whole plays own_names events g p.after stood at_end in
      let back = turned (snapshot_of p.after) g alike in
      let unseeded : IsSnapshot (document_of d options.hold e at) b.from g =
      record { systems = stands.systems; rising = stands.rising; links = stands.links } in
      λ name live.
      (let (far, distance_is, low) =
      near at b.from g k.behind_last unseeded name (clock_among (snapshot_of p.after) g alike name live) in
      (far, distance g (snapshot_of p.after) back name far distance_is, low))

  good : (p : StretchTrace) → In p is.ends.passages → (carried : CarriedAside)
      → IsGood (end_in own_names carried p).stretch
  good p member carried =
      let settled = stretch_settles draws whole false until is.ends.passages fate is.ends.started is.ends.fate_after
      is.ends.start is.ends.after p own_names plays is.ends.begun is.ends.pass member in record {
        on = settled.on;
        chosen = settled.chosen;
        played = settled.played;
        settles = λ b told. settled.settles b told (all_near p member);
      }

  lasts : (to : ℕ) × AreGood to is.last
  lasts =
      let asked = tracks options in
      let aside : AsideState = set_aside d options.hold e names at in
      let (to, are) = all_good whole until own_names is.ends.passages 0 (events_by until whole.events)
      (first_aside asked (aside_if asked aside) own_names) none_last is.ends.started is.ends.fate_after is.ends.start
      is.ends.after is.ends.pass good none_good in
      (to, subst (AreGood to) (sym is.ends.are) are)

  back_good : IsGood r.back.stretch
  back_good = (lasts.1.last r.back (by (is_seen e) is.are)).0
    where
      by : (seen : Bool) → AreRunEnds seen is.last r → is.last.last ≡ Some r.back
      by false are = are.2
      by true are = are.3

  -- so the bounds of a run hold of it
  back_within : (parts : List (List ℕ))
      → IsWithin (back_in parts r).bounds (back_in parts r).choice (roles_back r)
  back_within parts = one_within r.back.stretch back_good

  module _ (cut : List ℕ) (main : List (List ℕ)) where
    abbrev DownHolds : Option EndState → Type 0
    DownHolds first = IsWithin (down_in cut main (record r { first = first })).bounds
        (down_in cut main (record r { first = first })).choice (roles_down (record r { first = first }))

    down_good : is.last.before ≡ Some r.down → is.last.last ≡ Some r.back → IsGood r.down.stretch
    down_good before last = (lasts.1.before r.down r.back before last).0

    with_first : (o : Option EndState) → is.last.earlier ≡ o → is.last.before ≡ Some r.down
        → is.last.last ≡ Some r.back → DownHolds o
    with_first None none before last = one_within r.down.stretch (down_good before last)
    with_first (Some first) some before last =
        let k = lasts.1.earlier first r.down some before in
        two_within first.stretch r.down.stretch k.0 (down_good before last) k.1

    down_within : DownHolds r.first
    down_within = by (is_seen e) is.are
      where
        by : (seen : Bool) → AreRunEnds seen is.last r → DownHolds r.first
        by false (none, before, last) =
            subst DownHolds (sym none) (one_within r.down.stretch (down_good before last))
        by true (some, first, before, last) = with_first r.first first before last

-- ---- several runs

-- bounds are within those of a line
record IsBelow (b : HowSoon) (bounds : Option HowSoon) : Type 0 where
  own : HowSoon
  is : bounds ≡ Some own
  choice : own.choice ≤ b.choice
  roles : own.roles ≤ b.roles

-- where the later of two are, both are
below_two : (b : HowSoon) (x y : Option HowSoon) → IsBelow b (later_bounds x y) → IsBelow b x × IsBelow b y
below_two b None y below = let no = below.is in absurd cc
below_two b (Some x) None below = let no = below.is in absurd cc
below_two b (Some x) (Some y) below =
    let first = le-max_left x.choice y.choice in let second = le-max_right x.choice y.choice in
    let played = le-max_left x.roles y.roles in let next = le-max_right x.roles y.roles in
    let both : HowSoon = record { choice = max x.choice y.choice; roles = max x.roles y.roles } in
    let same : both ≡ below.own = same_Some both below.own below.is in
    let choice : max x.choice y.choice ≤ b.choice =
    subst (λ n. n ≤ b.choice) (sym (ap (λ (s : HowSoon). s.choice) same)) below.choice in
    let roles : max x.roles y.roles ≤ b.roles =
    subst (λ n. n ≤ b.roles) (sym (ap (λ (s : HowSoon). s.roles) same)) below.roles in (
      record { own = x; is = refl; choice = omega (arith, choice, first); roles = omega (arith, roles, played) },
      record { own = y; is = refl; choice = omega (arith, choice, second); roles = omega (arith, roles, next) },
    )

-- what is within bounds is within greater ones
within_below : (b : HowSoon) (bounds : Option HowSoon) (choice roles : Option ℕ) → IsWithin bounds choice roles
    → IsBelow b bounds → IfSome choice (λ last. last ≤ b.choice) × IfSome roles (λ last. last ≤ b.roles)
within_below b bounds choice roles within below =
    let is = within.both below.own below.is in (
      some_le choice below.own.choice b.choice is.0 below.choice,
      some_le roles below.own.roles b.roles is.1 below.roles,
    )

module _ (greatest : RunEnds → Extremes) (roles : RunEnds → Option ℕ) (b : HowSoon) where
  -- each run of these is within its own bounds
  abbrev AllWithin : List RunEnds → Type 0
  AllWithin = AllByRecursion (λ r. IsWithin (greatest r).bounds (greatest r).choice (roles r))

  abbrev KeepTo : List (Option ℕ) → Type 0
  KeepTo = AllByRecursion (λ changed. IfSome changed (λ last. last ≤ b.roles))

  -- and what is told of all is within the bounds of all
  all_within : (e : Extremes) (others : List RunEnds) → AllWithin others
      → IsBelow b (greatest_behind e (map greatest others)).bounds
      → (IsBelow b e.bounds → IfSome e.choice (λ last. last ≤ b.choice))
      → IsBelow b e.bounds × IfSome (greatest_behind e (map greatest others)).choice (λ last. last ≤ b.choice)
      × KeepTo (map roles others)
  all_within e [] each below first = (below, first below, tt)
  all_within e (r ∷ rs) each below first =
      let f = greatest r in
      let run : IsBelow b f.bounds
      → IfSome f.choice (λ last. last ≤ b.choice) × IfSome (roles r) (λ last. last ≤ b.roles) =
      within_below b f.bounds f.choice (roles r) each.0 in
      let rest = all_within (greatest_of_two e f) rs each.1 below (λ two.
      let parts = below_two b e.bounds f.bounds two in
      greater_within e.choice f.choice b.choice (first parts.0) (run parts.1).0) in
      let parts = below_two b e.bounds f.bounds rest.0 in
      (parts.0, rest.1, ((run parts.1).1, rest.2))

-- a line with the greatest of several runs
module _ (greatest : RunEnds → Extremes) (roles : RunEnds → Option ℕ) (first : RunEnds) (others : List RunEnds)
    (each : AllByRecursion (λ r. IsWithin (greatest r).bounds (greatest r).choice (roles r)) (first ∷ others)) where
  abbrev of_all : Extremes
  of_all = greatest_behind (greatest first) (map greatest others)

  first_within : (b : HowSoon) → IsBelow b (greatest first).bounds
      → IfSome (greatest first).choice (λ last. last ≤ b.choice) × IfSome (roles first) (λ last. last ≤ b.roles)
  first_within b below =
      within_below b (greatest first).bounds (greatest first).choice (roles first) each.0 below

  told_within : (b : HowSoon) → of_all.bounds ≡ Some b
      → IsBelow b (greatest first).bounds × IfSome of_all.choice (λ last. last ≤ b.choice)
      × AllByRecursion (λ changed. IfSome changed (λ last. last ≤ b.roles)) (map roles others)
  told_within b told =
      all_within greatest roles b (greatest first) others each.1
      (record { own = b; is = told; choice = omega arith; roles = omega arith })
      (λ below. (first_within b below).0)

  line_within : (line : Extremes) → line ≡ of_all → IsWithinBounds line (map roles (first ∷ others))
  line_within line is =
      subst (λ x. IsWithinBounds x (map roles (first ∷ others))) (sym is) (record {
        choice = λ b told. (told_within b told).1;
        roles = λ b told. let k = told_within b told in ((first_within b k.0).1, k.2);
      })

-- ---- the law

-- what is so of each run by its number is so of all
runs_all : (P : ℕ → RunEnds → Type 0) (Q : RunEnds → Type 0) (count start : ℕ) (rs : List RunEnds)
    → Each P (range_with_len start count) rs
    → ((number : ℕ) (r : RunEnds) → number < start + count → P number r → Q r) → AllByRecursion Q rs
runs_all P Q zero start [] each so = tt
runs_all P Q zero start (r ∷ rs) each so = absurd each
runs_all P Q (suc count) start [] each so = absurd each
runs_all P Q (suc count) start (r ∷ rs) each so = (
  so start r (omega arith) each.0,
  runs_all P Q count (start + 1) rs each.1 (λ number x below. so number x (omega (arith, below))),
)

some_seed : (moments seeds run : ℕ) → run < moments * seeds → 1 ≤ seeds
some_seed moments zero run below = let none : moments * 0 ≡ 0 = omega arith in absurd (omega (arith, below, none))
some_seed moments (suc seeds) run below = omega arith

-- a case that is tried
module _ (d : DocumentState) (options : FaultsOptions) (lines : List (List ℕ)) (exceeded : Bool)
    (f : FaultsOf d options lines exceeded) (playable : IsPlayable d) (o : OutcomeState) (number : ℕ) (c : Case)
    (is : IsOutcome options d f.times number c o) (member : In o f.outcomes)
    (near : StaysNear d options (case_events d options c)) where
  abbrev times : Times
  times = f.times

  abbrev case_of : EventsState
  case_of = case_events d options c

  abbrev set_names : List ℕ
  set_names = aside_of c is.cut

  tried : CanHappen d.network case_of × ((n : ℕ) → n < times.moments → IsInTime d options.hold case_of (moment times n))
  tried =
      let (place, of_part, (found, there, outcome)) =
      each_for (IsOutcomeAt options d times f.cases) _ f.outcomes o f.are_outcomes member in
      let same : found ≡ c = sym outcome.failing ∙ is.failing in
      subst (λ x. CanHappen d.network (case_events d options x)
      × ((n : ℕ) → n < times.moments → IsInTime d options.hold (case_events d options x) (moment times n))) same (
        can_happen d playable options.detect options.only options.power f.cases f.are_cases found
            (In-slice_get found f.cases place there),
        λ n below. in_time_of d options.hold times (case_events d options found) n
            (not_refused d options times f.cases f.before place found there) below,
      )

  each_run : (Q : RunEnds → Type 0)
      → ((run : ℕ) (r : RunEnds) → IsInTime d options.hold case_of (run_moment times run)
      → CaseRunEnds options d times case_of set_names run r → Q r)
      → AllByRecursion Q (is.first ∷ is.others)
  each_run Q so =
      runs_all (CaseRunEnds options d times case_of set_names) Q (runs_of times) 0 (is.first ∷ is.others) is.runs
      (λ run r below run_is.
      so run r (tried.1 (run / times.seeds)
      (moment_below run times.moments times.seeds (some_seed times.moments times.seeds run (omega (arith, below)))
      (omega (arith, below)))) run_is)

  pub lines_within : IsWithinBounds o.down (map roles_down (is.first ∷ is.others))
      × IsWithinBounds o.back (map roles_back (is.first ∷ is.others))
  lines_within = (
    line_within (down_in is.cut is.main) roles_down is.first is.others
        (each_run (λ r. IsWithin (down_in is.cut is.main r).bounds (down_in is.cut is.main r).choice (roles_down r))
        (λ run r k run_is.
        down_within options d times case_of playable tried.0 near set_names run r k run_is is.cut is.main))
        o.down is.down,
    line_within (back_in is.whole.parts) roles_back is.first is.others
        (each_run (λ r. IsWithin (back_in is.whole.parts r).bounds (back_in is.whole.parts r).choice (roles_back r))
        (λ run r k run_is.
        back_within options d times case_of playable tried.0 near set_names run r k run_is is.whole.parts))
        o.back is.back,
  )
