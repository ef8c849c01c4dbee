-- A world since a failure that moved trees: once it has settled, two ways after what was held is gone, traces are
-- told anew. So claims are made of it as of one since news.
use Rattle.std.proofs.Common.{◌≡◌, ◌<◌, ◌≤◌, ◌+◌, ◌*◌, ℕ, suc, pred, zero, true, List, Some, slice_get, refl, sym, ap, subst, ◌∙◌, inl, inr, arith}
use Rattle.gptp_graph.specs.Snapshot.{Joins, PortIdentity, Snapshot, port_of}
use Rattle.gptp_graph.proofs.ExistenceLemmas.{distance_exists}
use Rattle.gptp_graph.proofs.PathBoundLemmas.{IsDistance-within}
use Rattle.gptp_links.specs.Fate.{Draw}
use Rattle.gptp_scenario.specs.Calm.{NothingLapses}
use Rattle.gptp_scenario.specs.declared.change.Act.{Act}
use Rattle.gptp_setup.specs.SettlingParams.{SettlingParams, largest_interval}
use Rattle.gptp_model.specs.Acts.{Acts, at as at_time}
use Rattle.gptp_model.specs.Pending.{NothingBefore}
use Rattle.gptp_model.specs.World.{WorldState}
use Rattle.gptp_model.specs.declared.done.Done.{Done}
use Rattle.gptp_bmca_machine.specs.Acts.{MachineSteps}
use Rattle.gptp_bmca_machine.specs.Calm.{Calm}
use Rattle.gptp_bmca_machine.specs.Network.{Network}
use Rattle.gptp_bmca_machine.specs.SoundEverywhere.{IsSoundEverywhere}
use Rattle.gptp_bmca_machine.specs.SoundLaws.{AllAreNear}
use Rattle.gptp_bmca_machine.specs.Station.{HoldsAt, Reception, Station as SeenStation}
use Rattle.gptp_invariants.specs.ChoiceCalm.{HaveQuietLinks}
use Rattle.gptp_invariants.specs.ChoiceSeenLaws.{IsNoChange}
use Rattle.gptp_invariants.specs.ChoiceView.{says_announce, view}
use Rattle.gptp_invariants.specs.WorldEncodableLaws.{SetsAnOctet}
use Rattle.gptp_invariants.specs.WorldNews.{AreSilentBy}
use Rattle.gptp_invariants.specs.WorldSound.{IsSoundWorld}
use Rattle.gptp_invariants.specs.WorldStanding.{snapshot_of}
use Rattle.gptp_invariants.proofs.ChoiceCalmKeptLemmas.{KeepsNetwork, acts_keep, links_quiet}
use Rattle.gptp_invariants.proofs.ChoiceSeenActLemmas.{acts_seen}
use Rattle.gptp_invariants.proofs.ChoiceSettlesAsMachineLemmas.{kept_back}
use Rattle.gptp_invariants.proofs.WorldNewsCourseLemmas.{later_keeps}
use Rattle.gptp_settling_time.specs.TreeLosses.{CutsAllBeyond, LeavesAlone}
use Rattle.gptp_settling_time.proofs.AgingClaimedLemmas.{same_aging}
use Rattle.gptp_settling_time.proofs.AlwaysClaimedLemmas.{IsClaimedAlways}
use Rattle.gptp_settling_time.proofs.AtRestLemmas.{TellsSettled, held_settled}
use Rattle.gptp_settling_time.proofs.FallAlwaysLemmas.{fallen_by}
use Rattle.gptp_settling_time.proofs.FitsLemmas.{UnlinkedHoldNothing}
use Rattle.gptp_settling_time.proofs.LeftAloneLemmas.{alone_hold}
use Rattle.gptp_settling_time.proofs.LeftClaimedLemmas.{left_net, left_network}
use Rattle.gptp_settling_time.proofs.NamesItselfLemmas.{AllNameAlone, alone_kept}
use Rattle.gptp_settling_time.proofs.RightBeginLemmas.{alone_right}
use Rattle.gptp_settling_time.proofs.DueLemmas.{IsGoneBy}
use Rattle.gptp_settling_time.proofs.SplitAlwaysLemmas.{IsSplitAlways, left_by, linked_now, one_before, split_acts, split_after, split_later, split_network}
use Rattle.gptp_settling_time.proofs.SplitLemmas.{IsCut, IsSplit, IsTurned, IsTwice, SplitsBack, SplitSettles}
use Rattle.gptp_settling_time.proofs.SplitSettlesLemmas.{split_state}
use Rattle.gptp_settling_time.proofs.SplitSoundLemmas.{all_hold}
use Rattle.gptp_settling_time.proofs.TellsRightLemmas.{IsSettledState, LevelTellsRight}
use Rattle.gptp_settling_time.proofs.ToldAnewLemmas.{SettlesOnce, TellsOnce, once_claimed, rest_claimed, same_way, tells_begins, tells_on, told_by, way_in}

-- all that has no steps names its sender alone
abbrev pub SplitNamesAlone : SettlingParams → ℕ → WorldState → Type 0
SplitNamesAlone p silent w = HaveQuietLinks p.params w → NothingLapses p.params
    → AllNameAlone says_announce (split_network p silent w) (view w)

-- it has settled when two ways are over since what was held is gone
abbrev pub settles_at : ℕ → WorldState → ℕ
settles_at gone w = pred gone + 2 * way_in w

-- What is claimed of it: it settles, what has no steps names its sender alone, and then traces are told anew, if
-- nothing has changed since.
pub record IsSplitAnew (p : SettlingParams) (g : Snapshot) (By : PortIdentity → ℕ → Type 0) (Limits Were : ℕ → Type 0)
    (failed gone silent : ℕ)
    (w : WorldState) : Type 0 where
  pub split : IsSplitAlways p g By Limits Were failed gone silent w
  pub alone : SplitNamesAlone p silent w
  pub tells : w.last_change ≡ failed → TellsOnce p silent (settles_at gone w) w

-- all systems that are left are near: paths are short
pub split_near : (p : SettlingParams) (g : Snapshot) (s : IsSplit p g) → AllAreNear s.n.graph
split_near p g s v known =
    let (d, here) = distance_exists s.n.graph v s.moves.well known in
    let within = IsDistance-within s.n.graph s.n.reach v d s.moves.paths here in
    let few = s.moves.few in
    (d, here, omega (arith, within, few))

module _ (p : SettlingParams) (g : Snapshot) (By : PortIdentity → ℕ → Type 0)
    (Limits Were : ℕ → Type 0) (failed gone silent : ℕ)
    (w : WorldState) (split : IsSplitAlways p g By Limits Were failed gone silent w)
    (alone : SplitNamesAlone p silent w) where
  near : AllAreNear (snapshot_of w)
  near = subst (λ (z : Network). AllAreNear z.graph) (sym split.same) (split_near p g split.split)

  state : HaveQuietLinks p.params w → NothingLapses p.params → settles_at gone w < w.time
      → IsSettledState says_announce (left_network p silent w) (view w)
  state quiet off late =
      let one = one_before gone failed split.some in
      split_state p g By Limits Were failed gone silent w split quiet off (pred gone)
      (omega (arith, one)) (omega (arith, late))

  -- so what a best tells is right
  root : HaveQuietLinks p.params w → NothingLapses p.params → settles_at gone w < w.time → (base : ℕ)
      → LevelTellsRight says_announce (left_network p silent w) base (view w) 0
  root quiet off late =
      let names = alone quiet off in
      alone_right says_announce (left_network p silent w) (left_net p silent w split.standing.world) near (view w)
      (state quiet off late) (record { lanes = names.lanes; stations = names.stations })

  split_once : SettlesOnce p silent (settles_at gone w) w
  split_once = record {
    standing = split.standing;
    asked = split.asked;
    near = near;
    long = omega arith;
    root = root;
    state = state;
  }

  -- it begins as something changes, before what was held is gone
  pub split_anew_begins : w.last_change ≡ w.time → IsSplitAnew p g By Limits Were failed gone silent w
  split_anew_begins last = record {
    split = split;
    alone = alone;
    tells = λ since.
        let some = split.some in
        let one = one_before gone failed some in
        tells_begins p silent (settles_at gone w) w (omega (arith, last, since, some, one));
  }

-- ---- it goes on

module _ (p : SettlingParams) (g : Snapshot) (By : PortIdentity → ℕ → Type 0)
    (Limits Were : ℕ → Type 0) (failed gone silent : ℕ)
    (w w' : WorldState) (is : IsSplitAnew p g By Limits Were failed gone silent w)
    (split' : IsSplitAlways p g By Limits Were failed gone silent w') (keeps : KeepsNetwork w w')
    (step : MachineSteps says_announce (view w) (view w')) where
  alone' : SplitNamesAlone p silent w'
  alone' quiet' off =
      let quiet = links_quiet w' w (kept_back w w' keeps) p.params quiet' in
      let after = split_after p silent w is.split.standing is.split.asked quiet off is.split.late in
      let after' = split_after p silent w' split'.standing split'.asked quiet' off split'.late in
      let same : split_network p silent w' ≡ split_network p silent w =
      ap (λ (z : Network). record z { gone = 0 }) (same_aging p silent w w' keeps) in
      alone_kept says_announce (split_network p silent w') (view w) (view w')
      (subst (λ z. Calm z (view w)) (sym same) after.calm) after'.calm step
      (subst (λ z. AllNameAlone says_announce z (view w)) (sym same) (is.alone quiet off))

  anew_step : IsSplitAnew p g By Limits Were failed gone silent w'
  anew_step = record {
    split = split';
    alone = alone';
    tells = λ since.
        let same = same_way w w' keeps in
        tells_on p silent (settles_at gone w') w w'
        (subst (λ way. SettlesOnce p silent (pred gone + 2 * way) w) (sym same)
        (split_once p g By Limits Were failed gone silent w is.split is.alone))
        (split_once p g By Limits Were failed gone silent w' split' alone')
        (subst (λ way. TellsOnce p silent (pred gone + 2 * way) w) (sym same) (is.tells (sym keeps.change ∙ since)))
        keeps step;
  }

pub anew_later : (p : SettlingParams) (g : Snapshot) (By : PortIdentity → ℕ → Type 0) (Limits Were : ℕ → Type 0)
    (failed gone silent time : ℕ)
    (w : WorldState) → w.time ≤ time → NothingBefore time w.net.pending → IsSplitAnew p g By
    Limits Were failed gone silent w
    → IsSplitAnew p g By Limits Were failed gone silent (at_time time w)
anew_later p g By Limits Were failed gone silent time w later first is =
    anew_step p g By Limits Were failed gone silent w (at_time time w) is
    (split_later p g By Limits Were failed gone silent time w later first is.split) (later_keeps time w)
    (inl (record { time = time; later = later; is = refl }))

pub anew_acts : (p : SettlingParams) (g : Snapshot) (By : PortIdentity → ℕ → Type 0)
    (Limits Were : ℕ → Type 0) (failed gone silent : ℕ)
    (act : Act) (w : WorldState) (draws : List Draw) (done : Done) (w' : WorldState) → IsNoChange act → SetsAnOctet act
    → Acts act w draws done w' → IsSplitAnew p g By Limits Were failed gone silent w → IsSplitAnew p
    g By Limits Were failed gone silent w'
anew_acts p g By Limits Were failed gone silent act w draws done w' none octet acts is =
    let world = is.split.standing.world in
    anew_step p g By Limits Were failed gone silent w w' is
    (split_acts p g By Limits Were failed gone silent act w draws done w' none octet acts is.split)
    (acts_keep act w draws done w' none acts)
    (inr (acts_seen act w draws done w' none world.sound world.encodable acts))

-- ---- rest

-- An announce interval and a delay for each system of a path but two, and then an interval later, claims are made of
-- all links always.
pub split_anew_claimed : (p : SettlingParams) (g : Snapshot) (By : PortIdentity → ℕ → Type 0) (Limits Were : ℕ → Type 0)
    (failed gone silent : ℕ)
    (w : WorldState) → IsSplitAnew p g By Limits Were failed gone silent w → HaveQuietLinks p.params
    w → NothingLapses p.params
    → w.last_change ≡ failed → told_by p (settles_at gone w) w + largest_interval p < w.time
    → (begin : ℕ) → w.last_change ≤ begin → AreSilentBy p begin w → IsClaimedAlways p begin w
split_anew_claimed p g By Limits Were failed gone silent w is quiet off since =
    once_claimed p silent w.last_change (settles_at gone w) w
    (split_once p g By Limits Were failed gone silent w is.split is.alone) is.split.asked (is.tells since) quiet off

-- Where all beyond the failed system is cut off traces needn't be told anew. Once trees have settled, and what was in
-- flight as they left their old choices is gone, claims are made of all links always.
module _ (p : SettlingParams) (g : Snapshot) (By : PortIdentity → ℕ → Type 0)
    (Limits Were : ℕ → Type 0) (failed gone silent : ℕ)
    (w : WorldState) (is : IsSplitAnew p g By Limits Were failed gone silent w) (quiet : HaveQuietLinks p.params w)
    (off : NothingLapses p.params) (since : w.last_change ≡ failed) (cuts : CutsAllBeyond g is.split.split.n.graph)
    (late : settles_at gone w < w.time)
    (dropped : IsGoneBy p Limits (pred gone + way_in w) (pred w.time) w) where
  abbrev n : Network
  n = is.split.split.n

  once : SettlesOnce p silent (settles_at gone w) w
  once = split_once p g By Limits Were failed gone silent w is.split is.alone

  x : IsSettledState says_announce (left_network p silent w) (view w)
  x = once.state quiet off late

  seen : SplitsBack p g is.split.split (pred gone) (view w) × SplitSettles p g is.split.split (pred gone) (view w)
  seen =
      let some = is.split.some in
      let one = one_before gone failed some in
      is.split.seen quiet off (pred gone) (inl (omega (arith, one)))

  left_now : left_by p g is.split.split gone < w.time
  left_now =
      subst (λ (z : Network). fallen_by z (pred gone) < w.time) is.split.same (omega (arith, late))

  is_old : IsGoneBy p Limits (left_by p g is.split.split gone) (pred w.time) w
  is_old =
      subst (λ (z : Network). IsGoneBy p Limits (fallen_by z (pred gone)) (pred w.time) w) is.split.same dropped

  -- some time has passed
  some_time : pred w.time < w.time
  some_time = by w.time late
    where
      by : (now : ℕ) → settles_at gone w < now → pred now < now
      by zero less = absurd (omega (arith, less))
      by (suc now) less = omega arith

  sound : IsSoundWorld w
  sound = subst (λ (z : Network). IsSoundEverywhere says_announce z.graph (view w)) (sym is.split.same) (record {
    lanes = λ j l at f a among said.
        elim (is.split.flights cuts since (pred w.time) is_old quiet off left_now j l f a at among said) [
          | inl sent ↦ sent
          | inr due ↦
              let left = x.calm.left j l f at among in
              let past = some_time in
              absurd (omega (arith, due, left, past))
        ];
    stations = all_hold says_announce g n is.split.split.lost is.split.split.best
        (IsCut p g is.split.split (pred gone)) (IsTurned p g is.split.split (pred gone))
        (IsTwice p g is.split.split (pred gone)) is.split.split.moves (pred gone) is.split.split.near cuts
        (λ t cut. cut) (λ t cut. cut) (view w) seen.0.back (λ t cut. (seen.1.twice t cut).stale)
        (linked_now p g By Limits Were failed gone silent w is.split quiet)
        (is.split.says cuts quiet off) left_now
        (subst (λ (z : Network). (i : ℕ) (s : SeenStation) (place : ℕ) (r : Reception) (from : PortIdentity)
        → slice_get (view w).stations i ≡ Some s → s.live ≡ true → HoldsAt s place r
        → Joins z.graph from (port_of s.clock (suc place))
        → (far : ℕ) × TellsSettled z.graph from.clock far r.said) is.split.same
        (held_settled says_announce (left_network p silent w) (left_net p silent w is.split.standing.world) once.near
        (view w) x.calm x.rest));
  })

  pub split_apart_claimed : (begin : ℕ) → w.last_change ≤ begin → AreSilentBy p begin w → IsClaimedAlways p begin w
  split_apart_claimed =
      rest_claimed p silent w.last_change (settles_at gone w) w once is.split.asked quiet off late sound

-- Where each live system is left alone nothing is held, once trees have settled, and what is in flight is sound, once
-- what was so as the system failed is gone.
module _ (p : SettlingParams) (g : Snapshot) (By : PortIdentity → ℕ → Type 0) (Limits Were : ℕ → Type 0)
    (failed gone silent : ℕ) (w : WorldState) (is : IsSplitAnew p g By Limits Were failed gone silent w)
    (quiet : HaveQuietLinks p.params w) (off : NothingLapses p.params)
    (leaves : LeavesAlone g is.split.split.n.graph) (late : settles_at gone w < w.time) (old : ℕ) (were : Were old)
    (past : old < w.time) where
  once_alone : SettlesOnce p silent (settles_at gone w) w
  once_alone = split_once p g By Limits Were failed gone silent w is.split is.alone

  at_rest : IsSettledState says_announce (left_network p silent w) (view w)
  at_rest = once_alone.state quiet off late

  alone_sound : IsSoundWorld w
  alone_sound = subst (λ (z : Network). IsSoundEverywhere says_announce z.graph (view w)) (sym is.split.same) (record {
    lanes = λ j l at f a among said. elim (is.split.alone leaves old were quiet off j l f a at among said) [
      | inl sent ↦ sent
      | inr due ↦
          let left = at_rest.calm.left j l f at among in
          absurd (omega (arith, due, left, past))
    ];
    stations = alone_hold g is.split.split.n leaves (view w)
        (subst (λ z. Calm z (view w)) is.split.same
        (split_after p silent w is.split.standing is.split.asked quiet off is.split.late).calm)
        (subst (λ (z : Network). UnlinkedHoldNothing z.graph (view w)) is.split.same at_rest.none);
  })

  pub split_alone_claimed : (begin : ℕ) → w.last_change ≤ begin → AreSilentBy p begin w → IsClaimedAlways p begin w
  split_alone_claimed =
      rest_claimed p silent w.last_change (settles_at gone w) w once_alone is.split.asked quiet off late alone_sound
