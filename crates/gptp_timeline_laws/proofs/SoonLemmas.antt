-- The stretches of a timeline settle by the choice that is told of the times at which they begin.
use Rattle.std.proofs.Common.{◌≡◌, ◌⊎◌, inl, inr, ◌<◌, ◌≤◌, ◌+◌, ◌-◌, ℕ, Bool, true, false, cond, nat_le, zero, suc, List, [], ◌∷◌, length, map, slice_get, Option, Some, None, IfSome, option_map, refl, sym, ap, subst, ◌∙◌, arith}
use Rattle.std.specs.Prelude.{◌==◌}
use Rattle.std.specs.List.{AllByRecursion, find, range_with_len}
use Rattle.std.specs.Option.{is_some, option_and_then}
use Rattle.std.proofs.lemmas.Bool.{eqb-true}
use Rattle.std.proofs.lemmas.Bool.Decides.{nat_tests}
use Rattle.std.proofs.lemmas.Option.{same_Some}
use Rattle.gptp_graph.specs.Snapshot.{IsWellFormed, Snapshot, System}
use Rattle.gptp_graph.proofs.SystemLemmas.{same_clock}
use Rattle.gptp_accuracy.specs.Settlings.{settling_among}
use Rattle.gptp_how_soon.specs.Times.{is_time_at, settling_times}
use Rattle.gptp_how_soon.specs.declared.bounds.Settling.{Settling}
use Rattle.gptp_how_soon.specs.declared.bounds.SettlingTime.{SettlingTime}
use Rattle.gptp_how_soon_laws.proofs.ChoiceLemmas.{settlings_are_choice_bounds}
use Rattle.gptp_how_soon_laws.proofs.StepLemmas.{IsKept, kept}
use Rattle.gptp_invariants.specs.WorldStanding.{snapshot_of}
use Rattle.gptp_invariants.proofs.WorldStandsLemmas.{stands_well}
use Rattle.gptp_links.specs.declared.bounds.Bounds.{Bounds}
use Rattle.gptp_lists.specs.Members.{In}
use Rattle.gptp_model.specs.Course.{Begun}
use Rattle.gptp_model.specs.Sound.{HaveOwnClocks}
use Rattle.gptp_model.specs.Views.{ShowsLive, rising_clocks}
use Rattle.gptp_model.specs.World.{WorldState}
use Rattle.gptp_network.specs.Document.{DocumentState}
use Rattle.gptp_network.specs.Snapshot.{events_by}
use Rattle.gptp_network.proofs.SnapshotLemmas.{from_filter}
use Rattle.gptp_report.specs.Transitions.{Courses, Unfolds}
use Rattle.gptp_scenario.specs.declared.change.Timed.{Timed}
use Rattle.gptp_settling_time.specs.HowSoon.{IsChoiceAloneBound, IsChoiceBound, NoneBetween}
use Rattle.gptp_settling_time.specs.Unchanged.{LeavesChoiceShown, LeavesShown, LivesIn, ShowsSameChoice, ShowsSameRoles}
use Rattle.gptp_settling_time.proofs.ChoiceBoundLemmas.{choice_alone_bounds_hold, choice_bounds_hold}
use Rattle.gptp_settling_time.proofs.CutLemmas.{acts_by}
use Rattle.gptp_system.specs.State.{SystemState}
use Rattle.gptp_system.specs.Steps.{HasPortNumber}
use Rattle.gptp_theorem.specs.PlayedLaws.{IsPlayable}
use Rattle.gptp_timeline.specs.Laws.{AllNear}
use Rattle.gptp_timeline.specs.Ports.{shown_port, shown_ports}
use Rattle.gptp_timeline.specs.Shown.{live_system, same_choice, same_roles, shown, shown_of}
use Rattle.gptp_timeline.specs.Stretch.{at_of, last_at, leaves_another}
use Rattle.gptp_timeline.specs.Timeline.{AllPass, StretchTrace, later_than}
use Rattle.gptp_timeline.proofs.BehindLemmas.{ChosenBehind, ShowsTheSame, ShowsTheSameChoice, StillBehind, last_alone, last_choice, last_roles}
use Rattle.gptp_timeline.proofs.EventLemmas.{filter_in_order, now_by}
use Rattle.gptp_timeline.proofs.PastLemmas.{by_sooner}
use Rattle.gptp_timeline.proofs.RestLemmas.{shows_live, stands_there}
use Rattle.gptp_timeline.proofs.SameLemmas.{choice_itself, roles_itself}
use Rattle.gptp_timeline.proofs.SettlingLemmas.{begins, keeps_first, left_first}
use Rattle.gptp_timeline.proofs.ShownLemmas.{live_shown}
use Rattle.gptp_timeline.proofs.StandLemmas.{map_same}
use Rattle.gptp_timeline_laws.specs.Soon.{StretchesSettleSoon}
use Rattle.gptp_timeline_laws.proofs.ShortenedLemmas.{playable_by, short_alone, short_bound, shortened}
use Rattle.gptp_timeline_laws.proofs.StretchRunLemmas.{RunsTo, courses_after, ends_on, runs_to}
use Rattle.gptp_world.specs.Transitions.{ActTrace}

-- ---- what shows the same is shown the same

in_range : (k from i n : ℕ) → slice_get (range_with_len from k) i ≡ Some n → (from ≤ n) × (n < from + k)
in_range zero from i n there = absurd cc
in_range (suc k) from zero n there = let is : from ≡ n = same_Some from n there in (omega arith, omega arith)
in_range (suc k) from (suc i) n there =
    let (low, high) = in_range k (from + 1) i n there in (omega (arith, low), omega (arith, high))

-- two states that show the same choice
module _ (s s' : SystemState) (choice : ShowsSameChoice s s') where
  -- but for its ports, and whether its offset is known
  way_is : shown_of s' ≡ record {
    root = s.root;
    steps = s.steps;
    slave = s.slave;
    known = is_some s'.offset;
    ports = shown_ports s';
  }
  way_is = λ i. record {
    root = choice.root i;
    steps = choice.steps i;
    slave = choice.slave i;
    known = is_some s'.offset;
    ports = shown_ports s';
  }

  way_alike : same_choice (Some (shown_of s)) (Some (shown_of s')) ≡ true
  way_alike = ap (λ x. same_choice (Some (shown_of s)) (Some x)) way_is ∙ choice_itself (Some (shown_of s))

-- and the same roles
module _ (s s' : SystemState) (count : length s'.ports ≡ length s.ports) (choice : ShowsSameChoice s s')
    (roles : ShowsSameRoles s s') where
  port_is : (n : ℕ) → HasPortNumber s n → shown_port s' n ≡ shown_port s n
  port_is n has = λ i. record { role = roles.role n has i; capable = roles.capable n has i }

  ports_are : shown_ports s' ≡ shown_ports s
  ports_are =
      ap (λ k. map (shown_port s') (range_with_len 1 k)) count
      ∙ sym (map_same (shown_port s) (shown_port s') (range_with_len 1 (length s.ports)) (λ i n there.
      let (low, high) = in_range (length s.ports) 1 i n there in
      port_is n (record { least = low; most = omega (arith, high) })))

  -- but for whether its offset is known
  shown_is : shown_of s' ≡ record {
    root = s.root;
    steps = s.steps;
    slave = s.slave;
    known = is_some s'.offset;
    ports = shown_ports s;
  }
  shown_is = λ i. record {
    root = choice.root i;
    steps = choice.steps i;
    slave = choice.slave i;
    known = is_some s'.offset;
    ports = ports_are i;
  }

  roles_alike : same_roles (Some (shown_of s)) (Some (shown_of s')) ≡ true
  roles_alike = ap (λ x. same_roles (Some (shown_of s)) (Some x)) shown_is ∙ roles_itself (Some (shown_of s))

-- Who lives in the one of two worlds lives in the other, and shows something that is the same. Then what this makes
-- alike is so of what the two worlds show of a system.
module _ (w w' : WorldState) (own : HaveOwnClocks w) (own' : HaveOwnClocks w') (name : ℕ)
    (Same : SystemState → SystemState → Type 0)
    (stays : (s : SystemState) → ShowsLive name w s → (s' : SystemState) × ShowsLive name w' s' × Same s s')
    (comes : LivesIn name w' → LivesIn name w) (Alike : Option SystemState → Option SystemState → Type 0)
    (gone : Alike None None)
    (both : (s s' : SystemState) → live_system name w ≡ Some s → live_system name w' ≡ Some s' → Same s s'
    → Alike (Some s) (Some s')) where
  by_states : (a b : Option SystemState) → live_system name w ≡ a → live_system name w' ≡ b → Alike a b
  by_states None None a b = gone
  by_states (Some s) None a b =
      let (there, shows, same) = stays s (shows_live name w s a) in
      let no : Some there ≡ None = sym (live_shown name w' there own' shows) ∙ b in absurd cc
  by_states None (Some s') a b =
      let (s, live) = comes (s', shows_live name w' s' b) in
      let no : Some s ≡ None = sym (live_shown name w s own live) ∙ a in absurd cc
  by_states (Some s) (Some s') a b =
      let (there, shows, same) = stays s (shows_live name w s a) in
      let it : there ≡ s' = same_Some there s' (sym (live_shown name w' there own' shows) ∙ b) in
      both s s' a b (subst (Same s) it same)

  alike : Alike (live_system name w) (live_system name w')
  alike = by_states (live_system name w) (live_system name w') refl refl

choice_left : (w w' : WorldState) → HaveOwnClocks w → HaveOwnClocks w' → LeavesChoiceShown w w' → (name : ℕ)
    → same_choice (shown name w) (shown name w') ≡ true
choice_left w w' own own' leaves name =
    alike w w' own own' name ShowsSameChoice
    (λ s on. let it = leaves.stays name s on in (it.state, it.shows, it.choice))
    (leaves.comes name) (λ a b. same_choice (option_map shown_of a) (option_map shown_of b) ≡ true) refl
    (λ s s' a b same. way_alike s s' same)

-- the choice is among what is shown
leaves_choice : (w w' : WorldState) → LeavesShown w w' → LeavesChoiceShown w w'
leaves_choice w w' leaves = record {
  stays = λ number s on.
      let it = leaves.stays number s on in record { state = it.state; shows = it.shows; choice = it.choice };
  comes = leaves.comes;
}

-- two worlds of one snapshot, of which the second shows what the first does
module _ (g : Snapshot) (well : IsWellFormed g) (w w' : WorldState) (is : snapshot_of w ≡ g) (is' : snapshot_of w' ≡ g)
    (own : HaveOwnClocks w) (own' : HaveOwnClocks w') (leaves : LeavesShown w w') (name : ℕ) where
  same_ports : (s s' : SystemState) → live_system name w ≡ Some s → live_system name w' ≡ Some s'
      → length s'.ports ≡ length s.ports
  same_ports s s' a b =
      let (x, member, clock_is, ports, named) = stands_there w name s a in
      let (x', member', clock_is', ports', named') = stands_there w' name s' b in
      let same : x' ≡ x =
      same_clock g x' x well (subst (λ (h : Snapshot). In x' h.systems) is' member')
      (subst (λ (h : Snapshot). In x h.systems) is member)
      (clock_is' ∙ named' ∙ sym named ∙ sym clock_is) in
      sym ports' ∙ ap (λ (y : System). y.ports) same ∙ ports

  roles_left : same_roles (shown name w) (shown name w') ≡ true
  roles_left =
      alike w w' own own' name (λ s s'. ShowsSameChoice s s' × ShowsSameRoles s s')
      (λ s on. let it = leaves.stays name s on in (it.state, it.shows, (it.choice, it.roles)))
      (leaves.comes name) (λ a b. same_roles (option_map shown_of a) (option_map shown_of b) ≡ true) refl
      (λ s s' a b same. roles_alike s s' (same_ports s s' a b) same.0 same.1)

-- ---- a stretch

-- what is so of each act that is later than a time is so of all acts behind it
all_behind : (time : ℕ) (Same : ActTrace → Type 0) (ts : List ActTrace)
    → ((a : ActTrace) → In a ts → time < at_of a → Same a)
    → AllByRecursion (λ a. (at_of a ≤ time) ⊎ Same a) ts
all_behind time Same [] each = tt
all_behind time Same (t ∷ ts) each =
    (by (nat_le (at_of t) time) refl, all_behind time Same ts (λ a member late. each a (inr member) late))
  where
    by : (early : Bool) → nat_le (at_of t) time ≡ early → (at_of t ≤ time) ⊎ Same t
    by true test = inl (grind (arith, nat_tests))
    by false test = inr (each t (inl refl) (grind (arith, nat_tests)))

module _ {F : Type 0} (answers : Bounds → ℕ → F → Option ℕ → F → Type 0) (d : DocumentState) (playable : IsPlayable d)
    (until : ℕ) (p : StretchTrace) (fate started : F) (start : WorldState)
    (begun : Begun answers d.network fate started start)
    (run : RunsTo answers p 0 (events_by until d.events) started start) (due : p.from ≤ until) (on : p.from ≤ p.to)
  where
    abbrev short : DocumentState
    short = shortened p.from d

    pub unfolds : Unfolds answers short p.to fate start run.ts p.after
    unfolds = record {
      started = started;
      begun = begun;
      drawn = run.drawn;
      courses = subst (λ es. Courses answers p.to es run.ts started run.drawn start p.after)
          (by_sooner p.from until d.events due ∙ sym (now_by p.from p.to d.events on)) run.courses;
    }

    pub none : NoneBetween short.events p.from (suc p.to)
    none event member late =
        let early : nat_le event.at p.from ≡ true =
        (from_filter (λ (t : Timed). nat_le t.at p.from) event d.events member).1 in
        let soon : event.at ≤ p.from = grind (arith, nat_tests) in
        absurd (omega (arith, soon, late))

    -- none of its acts is later than its end
    ended : StillBehind p.to p.acts
    ended =
        all_behind p.to ShowsTheSame p.acts (λ a member late.
        let soon = acts_by answers short p.to fate start p.after run.ts unfolds a (run.among a member) in
        absurd (omega (arith, soon, late)))

    -- by a bound of the choice and the roles
    module _ (roles : ℕ) (bound : IsChoiceBound d p.from roles) (near : AllNear (snapshot_of p.after)) where
      bounded : IsChoiceBound short p.from roles
      bounded = short_bound d p.from p.from roles (omega arith) bound

      -- no later than it ends
      in_time : (a : ActTrace) → In a p.acts → at_of a < suc p.to
      in_time a member =
          let soon = acts_by answers short p.to fate start p.after run.ts unfolds a (run.among a member) in
          omega (arith, soon)

      keeps : (a : ActTrace) → In a p.acts → p.from < at_of a → IsKept short (events_by p.from short.events) a
      keeps a member late =
          kept answers short p.from roles (suc p.to) p.to fate start p.after run.ts a (playable_by p.from d playable)
          unfolds (run.among a member) bounded none late (in_time a member)

      near_then : (a : ActTrace) → In a p.acts → p.from < at_of a → AllNear (snapshot_of a.after)
      near_then a member late =
          let same = courses_after answers p.from p.to p.events p.acts run.fate_then run.drawn run.begins p.after
          run.early run.own a member late in
          subst AllNear same near

      own_then : (a : ActTrace) → In a p.acts → p.from < at_of a → HaveOwnClocks a.before × HaveOwnClocks a.after
      own_then a member late =
          let it = keeps a member late in
          (it.before.claim.world.sound.wired.clocks, it.after.claim.world.sound.wired.clocks)

      still_act : (a : ActTrace) → In a p.acts → p.from + roles < at_of a → ShowsTheSame a
      still_act a member late =
          let behind : p.from < at_of a = omega (arith, late) in
          let (settled, leaves) =
          choice_bounds_hold answers short p.from roles (suc p.to) p.to fate start p.after run.ts a
          (playable_by p.from d playable) unfolds (run.among a member) bounded none late (in_time a member) in
          let shows = leaves (near_then a member behind) in
          let it = keeps a member behind in
          let world = it.before.claim.world in
          let well = stands_well a.before world.sound world.between world.encodable in
          let own = own_then a member behind in record {
            choice = choice_left a.before a.after own.0 own.1 (leaves_choice a.before a.after shows);
            roles = roles_left (snapshot_of a.before) well a.before a.after refl it.same own.0 own.1 shows;
          }

      still : StillBehind (p.from + roles) p.acts
      still = all_behind (p.from + roles) ShowsTheSame p.acts (λ a member late. still_act a member late)

      -- and by one of the choice alone
      module _ (choice : ℕ) (alone : IsChoiceAloneBound d p.from choice) where
        chosen_act : (a : ActTrace) → In a p.acts → p.from + choice < at_of a → ShowsTheSameChoice a
        chosen_act a member late name =
            let behind : p.from < at_of a = omega (arith, late) in
            let (stands, leaves) =
            choice_alone_bounds_hold answers short p.from choice (suc p.to) p.to fate start p.after run.ts a
            (playable_by p.from d playable) unfolds (run.among a member)
            (short_alone d p.from p.from choice (omega arith) alone) none late (in_time a member) in
            let own = own_then a member behind in
            choice_left a.before a.after own.0 own.1 (leaves (near_then a member behind)) name

        chosen_behind : ChosenBehind (p.from + choice) p.acts
        chosen_behind =
            all_behind (p.from + choice) ShowsTheSameChoice p.acts (λ a member late. chosen_act a member late)

-- ---- what is told of a time

pub told_time : (times : List SettlingTime) (at : ℕ) (s : Settling) → settling_among times at ≡ Some s
    → (time : SettlingTime) × In time times × (time.at ≡ at) × (time.settling ≡ Some s)
told_time [] at s is = absurd cc
told_time (t ∷ ts) at s is = by (t.at == at) refl is (told_time ts at s)
  where
    by : (test : Bool) → (t.at == at) ≡ test
        → option_and_then (λ (u : SettlingTime). u.settling) (cond test (Some t) (find (is_time_at at) ts)) ≡ Some s
        → (settling_among ts at ≡ Some s
        → (time : SettlingTime) × In time ts × (time.at ≡ at) × (time.settling ≡ Some s))
        → (time : SettlingTime) × In time (t ∷ ts) × (time.at ≡ at) × (time.settling ≡ Some s)
    by true here is rest = (t, inl refl, eqb-true t.at at here, is)
    by false there is rest = let (time, member, at_is, told) = rest is in (time, inr member, at_is, told)

-- ---- the law

within : (from bound : ℕ) (last : Option ℕ) → IfSome last (λ time. time ≤ from + bound)
    → IfSome (option_map (λ time. time - from) last) (λ time. time ≤ bound)
within from bound None is = tt
within from bound (Some last) is = omega (arith, is)

-- How late the acts of a stretch leave some system another: no later than it ends; and where bounds are told of it, and
-- every live system is near where it ends, no later than these.
pub record SettlesByBounds (p : StretchTrace) (names : List ℕ) : Type 0 where
  pub on : p.from ≤ p.to
  pub chosen : IfSome (last_at (leaves_another same_choice names) p.acts) (λ time. time ≤ p.to)
  pub played : IfSome (last_at (leaves_another same_roles names) p.acts) (λ time. time ≤ p.to)
  pub settles : (s : Settling) → p.settling ≡ Some s → AllNear (snapshot_of p.after)
      → IfSome (option_map (λ time. time - p.from) (last_at (leaves_another same_choice names) p.acts))
      (λ last. last ≤ s.choice)
      × IfSome (option_map (λ time. time - p.from) (last_at (leaves_another same_roles names) p.acts))
      (λ last. last ≤ s.roles)

-- each stretch of a run
pub stretch_settles : {F : Type 0} (answers : Bounds → ℕ → F → Option ℕ → F → Type 0) (d : DocumentState)
    (exact : Bool) (until : ℕ) (passages : List StretchTrace) (fate started fate_after : F) (start after : WorldState)
    (p : StretchTrace) (names : List ℕ) → IsPlayable d → Begun answers d.network fate started start
    → AllPass answers exact d until 0 (events_by until d.events) started fate_after start after passages
    → In p passages → SettlesByBounds p names
stretch_settles answers d exact until passages fate started fate_after start after p names playable begun pass
    member =
    let order = filter_in_order (λ (e : Timed). nat_le e.at until) d.events playable.events.in_order in
    let run = runs_to answers exact d until passages 0 (events_by until d.events) started fate_after start after p order
    pass member in
    let clocks = rising_clocks start in
    let b = begins answers d playable clocks exact until passages 0 [] (events_by until d.events) started fate_after
    start after p (left_first answers d playable clocks until)
    (keeps_first answers d playable clocks fate started start refl begun) pass member in
    let from_is = b.passage.from_is in
    let to_is = b.passage.to_is in
    let due = b.is_left.within in
    let ends = ends_on until b.from b.left (later_than b.from b.left) refl due in
    let early : p.from ≤ until = omega (arith, from_is, due) in
    let on : p.from ≤ p.to = omega (arith, from_is, to_is, ends) in
    let chosen : Option ℕ = last_at (leaves_another same_choice names) p.acts in
    let played : Option ℕ = last_at (leaves_another same_roles names) p.acts in
    let by_end = ended answers d playable until p fate started start begun run early on in record {
      on = on;
      chosen = last_choice names p.to p.acts by_end;
      played = last_roles names p.to p.acts by_end;
      settles = λ s told near.
          let (time, among, at_is, is) = told_time (settling_times d) b.from s (sym b.passage.settling_is ∙ told) in
          let (bound, alone, sooner) = settlings_are_choice_bounds d time s playable among is in
          let same : time.at ≡ p.from = at_is ∙ sym from_is in
          let here : IsChoiceBound d p.from s.roles = subst (λ at. IsChoiceBound d at s.roles) same bound in
          let first : IsChoiceAloneBound d p.from s.choice =
          subst (λ at. IsChoiceAloneBound d at s.choice) same alone in (
            within p.from s.choice chosen (last_alone names (p.from + s.choice) p.acts
                (chosen_behind answers d playable until p fate started start begun run early on s.roles here near
                s.choice first)),
            within p.from s.roles played (last_roles names (p.from + s.roles) p.acts
                (still answers d playable until p fate started start begun run early on s.roles here near)),
          );
    }

pub stretches_settle_soon : {F : Type 0} (answers : Bounds → ℕ → F → Option ℕ → F → Type 0)
    → StretchesSettleSoon answers
stretches_settle_soon answers d until options fate lines exceeded t playable p s names carried member told near =
    (stretch_settles answers d true until t.passages fate t.started t.fate_after t.start t.after p names playable
    t.begun t.pass member).settles s told near
