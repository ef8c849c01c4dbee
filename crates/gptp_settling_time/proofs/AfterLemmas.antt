-- Worlds of a document after some events, by what its network came from: acts keep them so, and they settle.
use Rattle.std.proofs.Common.{◌≡◌, inl, inr, ◌≤◌, ◌+◌, ◌*◌, ℕ, pred, List, [], Option, sym, ap, subst, arith}
use Rattle.gptp_graph.specs.PathBound.{BoundsPaths, path_bound}
use Rattle.gptp_graph.proofs.PathBoundLemmas.{paths_within}
use Rattle.gptp_links.specs.declared.bounds.Bounds.{Bounds}
use Rattle.gptp_setup.specs.SettlingParams.{SettlingParams}
use Rattle.gptp_scenario.specs.Calm.{IsCalm, last_change}
use Rattle.gptp_scenario.specs.Network.{pace_of}
use Rattle.gptp_scenario.specs.SettlingAtOnce.{settling_span_at_once}
use Rattle.gptp_scenario.specs.SettlingTime.{settling_span_with}
use Rattle.gptp_scenario.specs.SyncWait.{sync_paths}
use Rattle.gptp_scenario.specs.declared.change.Timed.{Timed}
use Rattle.gptp_scenario.specs.declared.sync_wait.SyncPaths.{SyncPaths}
use Rattle.gptp_model.specs.Acts.{at}
use Rattle.gptp_model.specs.Course.{WasDone}
use Rattle.gptp_model.specs.Pending.{NothingBefore}
use Rattle.gptp_model.specs.Views.{IsNextAct}
use Rattle.gptp_model.specs.World.{WorldState}
use Rattle.gptp_world.specs.Transitions.{ActTrace}
use Rattle.gptp_network.specs.Document.{DocumentState}
use Rattle.gptp_report.specs.Transitions.{Unfolds}
use Rattle.gptp_invariants.specs.ChoiceCalm.{sync_paths_of}
use Rattle.gptp_invariants.specs.ChoiceSettled.{ChoiceStands, Settled}
use Rattle.gptp_invariants.specs.WorldBounded.{IsBoundedWorld}
use Rattle.gptp_invariants.specs.WorldCalmFor.{IsCalmFor, at_once_span, span_over}
use Rattle.gptp_invariants.specs.WorldStanding.{snapshot_of}
use Rattle.gptp_invariants.proofs.WorldBoundedLemmas.{bounded_at_once, bounded_by_paths}
use Rattle.gptp_invariants.proofs.WorldSettlingInvariantLemmas.{settled_at_once, settled_by_paths}
use Rattle.gptp_invariants.proofs.WorldStandsLemmas.{stands_well}
use Rattle.gptp_theorem.specs.PlayedLaws.{IsPlayable}
use Rattle.gptp_theorem.proofs.CalmLemmas.{pace_stands, quiet_stands}
use Rattle.gptp_theorem.proofs.SyncPathLemmas.{paths_stand}
use Rattle.gptp_settling_time.specs.Exactly.{SettlesBy}
use Rattle.gptp_settling_time.specs.Pasts.{Aging, AnyPast, Cleared, Fallen, Gained, Heard, Left, Fewer, Lost, Past, Split, Starting, Turned, TurnedTree}
use Rattle.gptp_settling_time.specs.Rests.{IsTakenAs, RestsFrom}
use Rattle.gptp_settling_time.specs.InTurn.{BeginsBy, ChoosesAfter, SettlesAfter}
use Rattle.gptp_settling_time.proofs.AgingToLemmas.{IsAgingTo, aging_to_act, aging_to_chooses, aging_to_claimed, aging_to_later, aging_to_settled}
use Rattle.gptp_settling_time.proofs.BegunLemmas.{begun_keeps}
use Rattle.gptp_settling_time.proofs.ClaimedToLemmas.{IsClaimedTo, claimed_act, claimed_later, claimed_settled}
use Rattle.gptp_settling_time.proofs.ClearedToLemmas.{IsClearedTo, cleared_left, cleared_to_act, cleared_to_claimed, cleared_to_later}
use Rattle.gptp_settling_time.proofs.KeptToLemmas.{IsNewsTo, KeepsTo, keeps_act, keeps_later, news_act_to, news_later_to}
use Rattle.gptp_settling_time.proofs.LeftToLemmas.{IsLeftTo, left_to_act, left_to_chooses, left_to_later, left_to_settled}
use Rattle.gptp_settling_time.proofs.FallenToLemmas.{IsFallenTo, fallen_to_act, fallen_to_claimed, fallen_to_later, fallen_to_settled}
use Rattle.gptp_settling_time.proofs.LostToLemmas.{IsLostTo, lost_to_act, lost_to_chooses, lost_to_claimed, lost_to_later, lost_to_settled}
use Rattle.gptp_settling_time.proofs.TakenToLemmas.{IsTakenTo, taken_to_act, taken_to_chooses, taken_to_later, taken_to_settled}
use Rattle.gptp_settling_time.proofs.TurnedTreeToLemmas.{IsTurnedTreeTo, turned_tree_to_act, turned_tree_to_claimed, turned_tree_to_later, turned_tree_to_settled}
use Rattle.gptp_settling_time.proofs.SplitToLemmas.{IsSplitTo, split_to_act, split_to_chooses, split_to_claimed, split_to_later, split_to_settled}
use Rattle.gptp_settling_time.proofs.TurnedToLemmas.{IsTurnedTo, turned_to_act, turned_to_claimed, turned_to_later, turned_to_settled}
use Rattle.gptp_settling_time.proofs.StartEventLemmas.{IsStartingTo, begun_soon_claimed, begun_soon_news, starting_act, starting_begins, starting_later}
use Rattle.gptp_settling_time.proofs.TimedNewsLemmas.{CanSettle, has_settled}
use Rattle.gptp_invariants.proofs.ChoiceSettledLemmas.{choice_stands}

-- what is so of a world after these events, by what its network came from
abbrev pub IsAfter : DocumentState → List Timed → Past → WorldState → Type 0
IsAfter d events AnyPast w = KeepsTo d events w
IsAfter d events Starting w = IsStartingTo d events w
IsAfter d events (Gained start) w = IsNewsTo d start events w
IsAfter d events (Heard start) w = IsClaimedTo d events start w
IsAfter d events (Left ago start) w = IsLeftTo d ago events start w
IsAfter d events (Turned silent now) w = IsTurnedTo d events silent now w
IsAfter d events (Fallen silent now) w = IsFallenTo d events silent now w
IsAfter d events (TurnedTree silent now) w = IsTurnedTreeTo d events silent now w
IsAfter d events (Cleared ago since silent right old) w = IsClearedTo d ago events since silent right old w
IsAfter d events (Aging ago aged silent) w = IsAgingTo d ago events aged silent w
IsAfter d events (Split ago gone silent) w = IsSplitTo d ago events gone silent w
IsAfter d events (Lost ago since most silent) w = IsLostTo d ago events since most silent w
IsAfter d events (Fewer ago since most silent) w = IsTakenTo d ago events since most silent w

module _ (d : DocumentState) (events : List Timed) where
  pub after_keeps : (past : Past) (w : WorldState) → IsAfter d events past w → KeepsTo d events w
  after_keeps AnyPast w so = so
  after_keeps Starting w so = so.keeps
  after_keeps (Gained start) w so = so.keeps
  after_keeps (Heard start) w so = so.keeps
  after_keeps (Left ago start) w so = so.keeps
  after_keeps (Turned silent now) w so = so.keeps
  after_keeps (Fallen silent now) w so = so.keeps
  after_keeps (TurnedTree silent now) w so = so.keeps
  after_keeps (Cleared ago since silent right old) w so = so.keeps
  after_keeps (Aging ago aged silent) w so = so.keeps
  after_keeps (Split ago gone silent) w so = so.keeps
  after_keeps (Lost ago since most silent) w so = so.keeps
  after_keeps (Fewer ago since most silent) w so = so.lost.keeps

  pub after_later : (past : Past) (w : WorldState) (time : ℕ) → w.time ≤ time → NothingBefore time w.net.pending
      → IsAfter d events past w → IsAfter d events past (at time w)
  after_later AnyPast w time later first so = keeps_later d events w time later first so
  after_later Starting w time later first so = starting_later d events w time later first so
  after_later (Gained start) w time later first so = news_later_to d events start w time later first so
  after_later (Heard start) w time later first so = claimed_later d events start w time later first so
  after_later (Left ago start) w time later first so = left_to_later d ago events start w time later first so
  after_later (Turned silent now) w time later first so = turned_to_later d events silent now w time later first so
  after_later (Fallen silent now) w time later first so = fallen_to_later d events silent now w time later first so
  after_later (TurnedTree silent now) w time later first so =
      turned_tree_to_later d events silent now w time later first so
  after_later (Cleared ago since silent right old) w time later first so =
      cleared_to_later d ago events since silent right old w time later first so
  after_later (Aging ago aged silent) w time later first so =
      aging_to_later d ago events aged silent w time later first so
  after_later (Split ago gone silent) w time later first so =
      split_to_later d ago events gone silent w time later first so
  after_later (Lost ago since most silent) w time later first so =
      lost_to_later d ago events since most silent w time later first so
  after_later (Fewer ago since most silent) w time later first so =
      taken_to_later d ago events since most silent w time later first so

  pub after_act : {F : Type 0} (answers : Bounds → ℕ → F → Option ℕ → F → Type 0) (past : Past) (t : ActTrace)
      (fate drawn : F) (w : WorldState) → IsNextAct w t.told.timed
      → WasDone answers t.told.timed fate drawn w t.after t.told.done → IsAfter d events past w
      → IsAfter d events past t.after
  after_act answers AnyPast t fate drawn w next was so = keeps_act d events answers t fate drawn w next was so
  after_act answers Starting t fate drawn w next was so = starting_act d events answers t fate drawn w next was so
  after_act answers (Gained start) t fate drawn w next was so =
      news_act_to d events answers t fate drawn w next was start so
  after_act answers (Heard start) t fate drawn w next was so = claimed_act d events start answers t fate drawn w next
      was so
  after_act answers (Left ago start) t fate drawn w next was so =
      left_to_act d ago events start answers t fate drawn w next was so
  after_act answers (Turned silent now) t fate drawn w next was so =
      turned_to_act d events silent now answers t fate drawn w next was so
  after_act answers (Fallen silent now) t fate drawn w next was so =
      fallen_to_act d events silent now answers t fate drawn w next was so
  after_act answers (TurnedTree silent now) t fate drawn w next was so =
      turned_tree_to_act d events silent now answers t fate drawn w next was so
  after_act answers (Cleared ago since silent right old) t fate drawn w next was so =
      cleared_to_act d ago events since silent right old answers t fate drawn w next was so
  after_act answers (Aging ago aged silent) t fate drawn w next was so =
      aging_to_act d ago events aged silent answers t fate drawn w next was so
  after_act answers (Split ago gone silent) t fate drawn w next was so =
      split_to_act d ago events gone silent answers t fate drawn w next was so
  after_act answers (Lost ago since most silent) t fate drawn w next was so =
      lost_to_act d ago events since most silent answers t fate drawn w next was so
  after_act answers (Fewer ago since most silent) t fate drawn w next was so =
      taken_to_act d ago events since most silent answers t fate drawn w next was so

-- ---- rest

-- what is so of a world is so of it as it may be taken
module _ (d : DocumentState) (playable : IsPlayable d) (events : List Timed) (w : WorldState) where
  rests_from : (past : Past) (start : ℕ) → RestsFrom d.network events past w.time start → IsAfter d events past w
      → IsClaimedTo d events start w
  rests_from AnyPast start none so = absurd none
  rests_from Starting start none so = absurd none
  rests_from (Gained since) start none so = absurd none
  rests_from (Heard since) start none so = absurd none
  rests_from (Left ago silent) start none so = absurd none
  rests_from (Turned silent now) start rest so = turned_to_claimed d events silent now w start so playable rest
  rests_from (Fallen silent now) start rest so = fallen_to_claimed d events silent now w start so playable rest
  rests_from (TurnedTree silent now) start (rest, later) so =
      turned_tree_to_claimed d events silent now w start so playable rest
  rests_from (Cleared ago since silent right old) start rest so =
      cleared_to_claimed d ago events since silent right old w start so playable rest
  rests_from (Aging ago aged silent) start rest so =
      aging_to_claimed d ago events aged silent w start so playable rest
  rests_from (Split ago gone silent) start rest so =
      split_to_claimed d ago events gone silent w start so playable rest
  rests_from (Lost ago since most silent) start rest so =
      lost_to_claimed d ago events since most silent w start so playable rest
  rests_from (Fewer ago since most silent) start none so = absurd none

  pub taken_as : (past seen : Past) → IsTakenAs d.network events past w.time seen → IsAfter d events past w
      → IsAfter d events seen w
  taken_as past seen (inl same) so = subst (λ x. IsAfter d events x w) (sym same) so
  taken_as past seen (inr (start, same, rest)) so =
      subst (λ x. IsAfter d events x w) (sym same) (rests_from past start rest so)

-- ---- it begins

pub begins_after : {F : Type 0} (answers : Bounds → ℕ → F → Option ℕ → F → Type 0) (d : DocumentState)
    (playable : IsPlayable d) (fate : F) (until : ℕ) (first w : WorldState) (ts : List ActTrace)
    → (k : Unfolds answers d until fate first ts w) → (past : Past) → BeginsBy d.network past → IsAfter d [] past first
begins_after answers d playable fate until first w ts k AnyPast begins =
    begun_keeps answers d playable fate k.started first k.begun
begins_after answers d playable fate until first w ts k Starting begins =
    starting_begins answers d playable fate k.started first k.begun
begins_after answers d playable fate until first w ts k (Gained start) begins = record {
  keeps = begun_keeps answers d playable fate k.started first k.begun;
  news = inl (begun_soon_news answers d playable fate k.started first k.begun start begins);
}
begins_after answers d playable fate until first w ts k (Heard start) (little, begins) = record {
  keeps = begun_keeps answers d playable fate k.started first k.begun;
  since = begun_soon_claimed answers d playable fate k.started first k.begun start begins little;
}
begins_after answers d playable fate until first w ts k (Left ago start) none = absurd none
begins_after answers d playable fate until first w ts k (Turned silent now) none = absurd none
begins_after answers d playable fate until first w ts k (Fallen silent now) none = absurd none
begins_after answers d playable fate until first w ts k (TurnedTree silent now) none = absurd none
begins_after answers d playable fate until first w ts k (Cleared ago since silent right old) none = absurd none
begins_after answers d playable fate until first w ts k (Aging ago aged silent) none = absurd none
begins_after answers d playable fate until first w ts k (Split ago gone silent) none = absurd none
begins_after answers d playable fate until first w ts k (Lost ago since most silent) none = absurd none
begins_after answers d playable fate until first w ts k (Fewer ago since most silent) none = absurd none

-- ---- it settles

module _ (d : DocumentState) (playable : IsPlayable d) (all : List Timed) (calm : IsCalm d.network all) (settled : ℕ)
    (w : WorldState) (on : settled ≤ w.time) where
  abbrev pace : SettlingParams
  pace = pace_of d.network

  module _ (keeps : KeepsTo d all w) where
    paths : sync_paths d.network all ≡ sync_paths_of w
    paths = paths_stand d.network all w playable.network keeps.stands keeps.claim.world.sound

    bounds : BoundsPaths (snapshot_of w) (path_bound (snapshot_of w))
    bounds =
        let world = keeps.claim.world in
        paths_within (snapshot_of w) (stands_well w world.sound world.between world.encodable)

    sharp : last_change all + settling_span_at_once pace (sync_paths d.network all) ≤ settled
        → IsCalmFor (at_once_span (path_bound (snapshot_of w))) w
    sharp passed =
        let last = keeps.stands.last in
        let late : last_change all + settling_span_at_once pace (sync_paths d.network all) ≤ w.time =
        omega (arith, passed, on) in
        record {
          pace = pace;
          set = pace_stands d.network all w keeps.stands;
          quiet = quiet_stands d.network all w playable.network keeps.stands keeps.claim.world.sound calm;
          late = subst (λ (x : SyncPaths). w.last_change + settling_span_at_once pace x ≤ w.time) paths (rw last late);
        }

    spanned : last_change all
        + settling_span_with pace (sync_paths d.network all) (sync_paths d.network all).systems ≤ settled
        → IsCalmFor (span_over (path_bound (snapshot_of w))) w
    spanned passed =
        let last = keeps.stands.last in
        let late : last_change all
        + settling_span_with pace (sync_paths d.network all) (sync_paths d.network all).systems ≤ w.time =
        omega (arith, passed, on) in
        record {
          pace = pace;
          set = pace_stands d.network all w keeps.stands;
          quiet = quiet_stands d.network all w playable.network keeps.stands keeps.claim.world.sound calm;
          late = subst (λ (x : SyncPaths). w.last_change + settling_span_with pace x x.systems ≤ w.time) paths
              (rw last late);
        }

    can_settle : (start : ℕ) → SettlesBy pace (sync_paths d.network all) start settled
        → CanSettle pace (sync_paths d.network all).systems start settled w
    can_settle start settles =
        let world = keeps.claim.world in
        record {
          quiet = (quiet_stands d.network all w playable.network keeps.stands world.sound calm).links;
          bounded = subst (BoundsPaths (snapshot_of w)) (sym (ap (λ (x : SyncPaths). x.systems) paths)) bounds;
          settles = subst (λ delay. SettlesBy pace
              (record { systems = (sync_paths d.network all).systems; delay = delay }) start settled)
              (ap (λ (x : SyncPaths). x.delay) paths) settles;
        }

  pub after_settles : (past : Past) → IsAfter d all past w → SettlesAfter d.network all past settled
      → Settled w × IsBoundedWorld w
  unfolding sharp
  after_settles AnyPast keeps (inl (off, passed)) = (
    settled_at_once (path_bound (snapshot_of w)) w (record { pace = pace; is = keeps.claim }) (bounds keeps)
        (sharp keeps passed) off,
    bounded_at_once (path_bound (snapshot_of w)) w (record { pace = pace; is = keeps.claim }) (bounds keeps)
        (sharp keeps passed) off,
  )
  after_settles AnyPast keeps (inr passed) = (
    settled_by_paths (path_bound (snapshot_of w)) w (record { pace = pace; is = keeps.claim }) (bounds keeps)
        (spanned keeps passed),
    bounded_by_paths (path_bound (snapshot_of w)) w (record { pace = pace; is = keeps.claim }) (bounds keeps)
        (spanned keeps passed),
  )
  after_settles Starting so none = absurd none
  after_settles (Gained start) so settles =
      has_settled pace (sync_paths d.network all).systems start settled w so.news (can_settle so.keeps start settles) on
  after_settles (Heard start) so (off, passed) =
      claimed_settled d all start w so playable calm off (omega (arith, passed, on))
  after_settles (Left ago silent) so (off, inl passed) =
      left_to_settled d ago all silent w so playable calm off (inl (omega (arith, passed, on)))
  after_settles (Left ago silent) so (off, inr none) =
      left_to_settled d ago all silent w so playable calm off (inr none)
  after_settles (Turned silent now) so (off, passed) =
      turned_to_settled d all silent now w so playable calm off
      (subst (λ (x : SyncPaths). now + 1 + pred x.systems * x.delay ≤ w.time) (paths so.keeps)
      (omega (arith, passed, on)))
  after_settles (Fallen silent now) so (off, passed) =
      fallen_to_settled d all silent now w so playable calm off
      (subst (λ (x : SyncPaths). now + 1 + 2 * (pred x.systems * x.delay) ≤ w.time) (paths so.keeps)
      (omega (arith, passed, on)))
  after_settles (TurnedTree silent now) so (off, passed) =
      turned_tree_to_settled d all silent now w so playable calm off
      (subst (λ (x : SyncPaths). now + 1 + 2 * (pred x.systems * x.delay) ≤ w.time) (paths so.keeps)
      (omega (arith, passed, on)))
  after_settles (Cleared ago since silent right old) so (off, inl passed) =
      left_to_settled d ago all silent w (cleared_left d ago all since silent right old w so) playable calm off
      (inl (omega (arith, passed, on)))
  after_settles (Cleared ago since silent right old) so (off, inr used) =
      left_to_settled d ago all silent w (cleared_left d ago all since silent right old w so) playable calm off
      (inr used)
  after_settles (Aging ago aged silent) so (off, inl passed) =
      aging_to_settled d ago all aged silent w so playable calm off (inl (omega (arith, passed, on)))
  after_settles (Aging ago aged silent) so (off, inr used) =
      aging_to_settled d ago all aged silent w so playable calm off (inr used)
  after_settles (Split ago gone silent) so (off, passed, late) =
      split_to_settled d ago all gone silent w so playable calm off
      (subst (λ (x : SyncPaths). gone + 2 * (pred x.systems * x.delay) ≤ w.time) (paths so.keeps)
      (omega (arith, passed, on)))
      (elim late [ inl now ↦ inl (omega (arith, now, on)) | inr used ↦ inr used ])
  after_settles (Lost ago since most silent) so (off, passed, inl late) =
      lost_to_settled d ago all since most silent w so playable (omega (arith, passed, on))
      (inl (omega (arith, late, on)))
  after_settles (Lost ago since most silent) so (off, passed, inr used) =
      lost_to_settled d ago all since most silent w so playable (omega (arith, passed, on)) (inr used)
  after_settles (Fewer ago since most silent) so (off, leaves, none) =
      taken_to_settled d ago all since most silent w so playable leaves none

  pub after_chooses : (past : Past) → IsAfter d all past w → ChoosesAfter d.network all past settled → ChoiceStands w
  after_chooses AnyPast so settles = choice_stands w (after_settles AnyPast so settles).0
  after_chooses Starting so none = absurd none
  after_chooses (Gained start) so settles = choice_stands w (after_settles (Gained start) so settles).0
  after_chooses (Heard start) so settles = choice_stands w (after_settles (Heard start) so settles).0
  after_chooses (Left ago silent) so off = left_to_chooses d ago all silent w so playable calm off
  after_chooses (Turned silent now) so settles = choice_stands w (after_settles (Turned silent now) so settles).0
  after_chooses (Fallen silent now) so settles = choice_stands w (after_settles (Fallen silent now) so settles).0
  after_chooses (TurnedTree silent now) so settles =
      choice_stands w (after_settles (TurnedTree silent now) so settles).0
  after_chooses (Cleared ago since silent right old) so off =
      left_to_chooses d ago all silent w (cleared_left d ago all since silent right old w so) playable calm off
  after_chooses (Aging ago aged silent) so (off, inl gone) =
      aging_to_chooses d ago all aged silent w so playable calm off (inl (omega (arith, gone, on)))
  after_chooses (Aging ago aged silent) so (off, inr (inl late)) =
      aging_to_chooses d ago all aged silent w so playable calm off (inr (inl (omega (arith, late, on))))
  after_chooses (Aging ago aged silent) so (off, inr (inr used)) =
      aging_to_chooses d ago all aged silent w so playable calm off (inr (inr used))
  after_chooses (Split ago gone silent) so (off, passed) =
      split_to_chooses d ago all gone silent w so playable calm off
      (subst (λ (x : SyncPaths). gone + 2 * (pred x.systems * x.delay) ≤ w.time) (paths so.keeps)
      (omega (arith, passed, on)))
  after_chooses (Lost ago since most silent) so (off, passed) =
      lost_to_chooses d ago all since most silent w so playable (omega (arith, passed, on))
  after_chooses (Fewer ago since most silent) so (off, leaves, none) =
      taken_to_chooses d ago all since most silent w so playable leaves none
