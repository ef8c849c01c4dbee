-- How soon the choice and the roles stand in the stretches of a timeline, as it is computed for its document.
use Rattle.std.specs.Prelude.{◌≡◌, ◌<◌, ◌≤◌, ◌+◌, ℕ, Bool, List, map, Option, Some, IfSome}
use Rattle.gptp_graph.specs.Snapshot.{Snapshot}
use Rattle.gptp_how_soon.specs.declared.bounds.Settling.{Settling}
use Rattle.gptp_invariants.specs.WorldStanding.{snapshot_of}
use Rattle.gptp_links.specs.declared.bounds.Bounds.{Bounds}
use Rattle.gptp_lists.specs.Members.{In}
use Rattle.gptp_model.specs.Views.{rising_clocks}
use Rattle.gptp_model.specs.World.{WorldState}
use Rattle.gptp_network.specs.Document.{DocumentState}
use Rattle.gptp_network.specs.Snapshot.{IsSnapshot}
use Rattle.gptp_theorem.specs.PlayedLaws.{IsPlayable}
use Rattle.gptp_timeline.specs.Laws.{AllNear, AreRoots}
use Rattle.gptp_timeline.specs.Limits.{choice_after}
use Rattle.gptp_timeline.specs.Shown.{shown}
use Rattle.gptp_timeline.specs.Stretch.{roots_of}
use Rattle.gptp_timeline.specs.StretchText.{behind}
use Rattle.gptp_timeline.specs.Timeline.{Carried, StretchTrace, TimelineOf, stretch_of}
use Rattle.gptp_timeline.specs.declared.timeline.TimelineOptions.{TimelineOptions}

-- Where bounds are told of a stretch, and every live system is near where it ends, its acts leave no system another.
-- None that is later than the choice after its begin does as to whether it lives, root, steps or Slave port, and none
-- that is later than the roles as to role or capable of a port.
abbrev pub SettleSoon : List StretchTrace → Type 0
SettleSoon passages = (p : StretchTrace) (s : Settling) (names : List ℕ) (carried : Carried)
    → In p passages → p.settling ≡ Some s → AllNear (snapshot_of p.after)
    → IfSome (choice_after (stretch_of names carried p)) (λ last. last ≤ s.choice)
    × IfSome (behind p.from (stretch_of names carried p).measures.roles) (λ last. last ≤ s.roles)

abbrev pub StretchesSettleSoon : {F : Type 0} → (Bounds → ℕ → F → Option ℕ → F → Type 0) → Type 0
StretchesSettleSoon {F} answers = (d : DocumentState) (until : ℕ) (options : TimelineOptions) (fate : F)
    (lines : List (List ℕ)) (exceeded : Bool) (t : TimelineOf answers d until options fate lines exceeded)
    → IsPlayable d → SettleSoon t.passages

-- Where bounds are told of a stretch that lasts longer than its choice, the roots that live systems follow where it
-- ends are those of the settled choice of the network as it stands where it begins.
abbrev pub FollowSoon : DocumentState → WorldState → List StretchTrace → Type 0
FollowSoon d start passages = (p : StretchTrace) (s : Settling) (g : Snapshot)
    → In p passages → p.settling ≡ Some s → p.from + s.choice < p.to → IsSnapshot d p.from g
    → AreRoots g (roots_of (map (λ name. shown name p.after) (rising_clocks start)))

abbrev pub StretchesFollowSoon : {F : Type 0} → (Bounds → ℕ → F → Option ℕ → F → Type 0) → Type 0
StretchesFollowSoon {F} answers = (d : DocumentState) (until : ℕ) (options : TimelineOptions) (fate : F)
    (lines : List (List ℕ)) (exceeded : Bool) (t : TimelineOf answers d until options fate lines exceeded)
    → IsPlayable d → FollowSoon d t.start t.passages
