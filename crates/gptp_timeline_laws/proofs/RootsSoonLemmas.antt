-- The roots that live systems follow where a stretch ends that lasts longer than its choice are those of the settled
-- choice.
use Rattle.std.proofs.Common.{◌≡◌, ◌<◌, ◌≤◌, ◌+◌, ℕ, suc, Bool, true, nat_le, List, [], map, Option, Some, refl, sym, subst, ◌∙◌, arith}
use Rattle.gptp_accuracy.specs.Settlings.{settling_of}
use Rattle.gptp_graph.specs.Distance.{IsNear}
use Rattle.gptp_graph.specs.SettledChoice.{IsBestIdentity}
use Rattle.gptp_graph.specs.Snapshot.{Snapshot}
use Rattle.gptp_how_soon.specs.Times.{settling_times}
use Rattle.gptp_how_soon.specs.declared.bounds.Settling.{Settling}
use Rattle.gptp_how_soon_laws.proofs.ChoiceLemmas.{settlings_are_choice_bounds}
use Rattle.gptp_how_soon_laws.proofs.EndLemmas.{bound_ends_chosen}
use Rattle.gptp_invariants.specs.WorldStanding.{snapshot_of}
use Rattle.gptp_links.specs.declared.bounds.Bounds.{Bounds}
use Rattle.gptp_lists.specs.Members.{In}
use Rattle.gptp_model.specs.Course.{Begun}
use Rattle.gptp_model.specs.Views.{rising_clocks}
use Rattle.gptp_model.specs.World.{WorldState}
use Rattle.gptp_network.specs.Document.{DocumentState}
use Rattle.gptp_network.specs.Snapshot.{IsSnapshot, events_by}
use Rattle.gptp_scenario.specs.declared.change.Timed.{Timed}
use Rattle.gptp_settling_time.specs.ChoiceAlone.{ChoiceStandsAs}
use Rattle.gptp_settling_time.specs.HowSoon.{IsChoiceAloneBound}
use Rattle.gptp_system.specs.State.{SystemState}
use Rattle.gptp_theorem.specs.PlayedLaws.{IsPlayable}
use Rattle.gptp_timeline.specs.Laws.{AreRoots}
use Rattle.gptp_timeline.specs.Shown.{live_system, shown}
use Rattle.gptp_timeline.specs.Stretch.{roots_of}
use Rattle.gptp_timeline.specs.Timeline.{AllPass, StretchTrace, later_than}
use Rattle.gptp_timeline.proofs.EventLemmas.{filter_in_order}
use Rattle.gptp_timeline.proofs.FollowedLemmas.{follow_best}
use Rattle.gptp_timeline.proofs.RestLemmas.{found_live}
use Rattle.gptp_timeline.proofs.SettlingLemmas.{begins, keeps_first, left_first}
use Rattle.gptp_timeline_laws.specs.Soon.{StretchesFollowSoon}
use Rattle.gptp_timeline_laws.proofs.ShortenedLemmas.{playable_by, short_alone, shortened}
use Rattle.gptp_timeline_laws.proofs.SoonLemmas.{none, told_time, unfolds}
use Rattle.gptp_timeline_laws.proofs.StretchRunLemmas.{ends_on, runs_to}

-- ---- a world whose choice stands

-- its near systems follow the bests of their components
follows_best : (d : DocumentState) (until : ℕ) (w : WorldState) → ChoiceStandsAs d until w → (name : ℕ)
    (s : SystemState) → live_system name w ≡ Some s → IsNear (snapshot_of w) name
    → IsBestIdentity (snapshot_of w) name s.root
follows_best d until w stands name s is near =
    let k = found_live name w.stations s is in
    let own = stands.choice k.place k.station k.here k.live
    (subst (IsNear (snapshot_of w)) (sym k.is_named) near) in
    subst (λ (x : SystemState). IsBestIdentity (snapshot_of w) name x.root) k.state
    (subst (λ c. IsBestIdentity (snapshot_of w) c k.station.system.root) k.is_named own.root)

-- ---- a stretch

-- one that begins with a bound of the choice
pub bound_follows : {F : Type 0} (answers : Bounds → ℕ → F → Option ℕ → F → Type 0) (d : DocumentState) (exact : Bool)
    (until : ℕ) (passages : List StretchTrace) (fate started fate_after : F) (start after : WorldState)
    (p : StretchTrace) (choice : ℕ) (g : Snapshot) → IsPlayable d → Begun answers d.network fate started start
    → AllPass answers exact d until 0 (events_by until d.events) started fate_after start after passages → In p passages
    → IsChoiceAloneBound (shortened p.from d) p.from choice → p.from + choice < p.to → IsSnapshot d p.from g
    → AreRoots g (roots_of (map (λ name. shown name p.after) (rising_clocks start)))
bound_follows answers d exact until passages fate started fate_after start after p choice g playable begun pass
    member bound late stands =
    let order = filter_in_order (λ (e : Timed). nat_le e.at until) d.events playable.events.in_order in
    let run = runs_to answers exact d until passages 0 (events_by until d.events) started fate_after start after p order
    pass member in
    let names = rising_clocks start in
    let keeps = keeps_first answers d playable names fate started start refl begun in
    let b = begins answers d playable names exact until passages 0 [] (events_by until d.events) started fate_after
    start after p (left_first answers d playable names until) keeps pass member in
    let from_is = b.passage.from_is in
    let to_is = b.passage.to_is in
    let within = b.is_left.within in
    let ends = ends_on until b.from b.left (later_than b.from b.left) refl within in
    let due : p.from ≤ until = omega (arith, from_is, within) in
    let on : p.from ≤ p.to = omega (arith, from_is, to_is, ends) in
    let stands_so = bound_ends_chosen answers (shortened p.from d) p.from choice (suc p.to) p.to fate start p.after
    run.ts (playable_by p.from d playable) (unfolds answers d playable until p fate started start begun run due on)
    bound (none answers d playable until p fate started start begun run due on) late (omega arith) in
    follow_best answers d playable names exact until passages started fate_after start after p g keeps pass member
    (λ name s lives near. follows_best (shortened p.from d) p.to p.after stands_so name s lives near) stands

-- what is told of a time is a bound of the choice then
pub told_bound : (d : DocumentState) (at : ℕ) (s : Settling) → IsPlayable d → settling_of d at ≡ Some s
    → IsChoiceAloneBound d at s.choice
told_bound d at s playable told =
    let (time, member, at_is, is) = told_time (settling_times d) at s told in
    let (bound, alone, sooner) = settlings_are_choice_bounds d time s playable member is in
    subst (λ a. IsChoiceAloneBound d a s.choice) at_is alone

pub stretches_follow_soon : {F : Type 0} (answers : Bounds → ℕ → F → Option ℕ → F → Type 0)
    → StretchesFollowSoon answers
stretches_follow_soon answers d until options fate lines exceeded t playable p s g member told late stands =
    let names = rising_clocks t.start in
    let b = begins answers d playable names true until t.passages 0 [] (events_by until d.events) t.started
    t.fate_after t.start t.after p (left_first answers d playable names until)
    (keeps_first answers d playable names fate t.started t.start refl t.begun) t.pass member in
    let bound = subst (λ at. IsChoiceAloneBound d at s.choice) (sym b.passage.from_is)
    (told_bound d b.from s playable (sym b.passage.settling_is ∙ told)) in
    bound_follows answers d true until t.passages fate t.started t.fate_after t.start t.after p s.choice g playable
    t.begun t.pass member
    (short_alone d p.from p.from s.choice (omega arith) bound) late stands
