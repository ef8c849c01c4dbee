-- A world since a tree turned to its one way out: once links are at rest, within two ways, traces are told anew. So
-- claims are made of it as of one since news.
use Rattle.std.proofs.Common.{◌≡◌, ◌<◌, ◌≤◌, ◌+◌, ◌*◌, ℕ, pred, List, refl, sym, ap, subst, inl, inr, arith}
use Rattle.gptp_graph.specs.Best.{IsBest}
use Rattle.gptp_graph.specs.PathBound.{path_bound}
use Rattle.gptp_graph.specs.Snapshot.{Snapshot, System}
use Rattle.gptp_graph.proofs.BestLemmas.{IsBest-unique}
use Rattle.gptp_graph.proofs.DecisionLemmas.{in_dec}
use Rattle.gptp_graph.proofs.ExistenceLemmas.{distance_exists}
use Rattle.gptp_graph.proofs.PathBoundLemmas.{IsDistance-within}
use Rattle.gptp_links.specs.Fate.{Draw}
use Rattle.gptp_scenario.specs.Calm.{NothingLapses}
use Rattle.gptp_scenario.specs.declared.change.Act.{Act}
use Rattle.gptp_setup.specs.SettlingParams.{SettlingParams, largest_interval}
use Rattle.gptp_model.specs.Acts.{Acts, at as at_time}
use Rattle.gptp_model.specs.Pending.{NothingBefore}
use Rattle.gptp_model.specs.World.{WorldState}
use Rattle.gptp_model.specs.declared.done.Done.{Done}
use Rattle.gptp_bmca_machine.specs.Acts.{MachineSteps}
use Rattle.gptp_bmca_machine.specs.Network.{Network}
use Rattle.gptp_bmca_machine.specs.SoundLaws.{AllAreNear, UnlinkedAreOff}
use Rattle.gptp_bmca_machine.proofs.StillLemmas.{best_was}
use Rattle.gptp_invariants.specs.ChoiceCalm.{HaveQuietLinks, delay_in}
use Rattle.gptp_invariants.specs.ChoiceSeenLaws.{IsNoChange}
use Rattle.gptp_invariants.specs.ChoiceView.{says_announce, view}
use Rattle.gptp_invariants.specs.WorldEncodableLaws.{SetsAnOctet}
use Rattle.gptp_invariants.specs.WorldStanding.{snapshot_of}
use Rattle.gptp_invariants.proofs.ChoiceCalmKeptLemmas.{KeepsNetwork, acts_keep}
use Rattle.gptp_invariants.proofs.ChoiceSeenActLemmas.{acts_seen}
use Rattle.gptp_invariants.proofs.WorldNewsCourseLemmas.{later_keeps}
use Rattle.gptp_invariants.proofs.WorldNewsLemmas.{silent_from_now}
use Rattle.gptp_settling_time.proofs.AlwaysClaimedLemmas.{IsClaimedAlways}
use Rattle.gptp_settling_time.proofs.FallAlwaysLemmas.{fallen_by, settles_by}
use Rattle.gptp_settling_time.proofs.LeftClaimedLemmas.{HaveAskedBy, asked_acts, asked_later, left_net, left_network}
use Rattle.gptp_settling_time.proofs.NamesItselfLemmas.{AllNameItself, sound_itself}
use Rattle.gptp_settling_time.proofs.GoesOnLemmas.{dark_now}
use Rattle.gptp_settling_time.proofs.RightBeginLemmas.{root_right}
use Rattle.gptp_settling_time.proofs.TellsRightLemmas.{IsSettledState, LevelTellsRight}
use Rattle.gptp_settling_time.proofs.ToldAnewLemmas.{SettlesOnce, TellsOnce, once_claimed, same_way, tells_begins, tells_on, told_over, way_in}
use Rattle.gptp_settling_time.proofs.TurnedRestLemmas.{turned_state}
use Rattle.gptp_settling_time.proofs.TurnedTreeLemmas.{IsTurnedTreeAlways, by_now, turn_times, turned_tree_acts, turned_tree_later}

-- What is claimed of it: the tree has turned two ways later, and then traces are told anew.
pub record IsTurnedTreeAnew (p : SettlingParams) (g : Snapshot) (silent start : ℕ) (w : WorldState) : Type 0 where
  pub tree : IsTurnedTreeAlways p g silent start w
  pub asked : HaveAskedBy start w
  pub tells : TellsOnce p silent (start + 2 * way_in w) w

module _ (p : SettlingParams) (g : Snapshot) (silent start : ℕ) (w : WorldState)
    (is : IsTurnedTreeAlways p g silent start w) where
  near : AllAreNear is.n.graph
  near v known =
      let (d, here) = distance_exists is.n.graph v is.turns.well known in
      let within = IsDistance-within is.n.graph is.n.reach v d is.turns.paths here in
      let few = is.turns.few in
      (d, here, omega (arith, within, few))

  -- the best of each was so before
  was : (v : ℕ) (best : System) → IsBest is.n.graph v best → IsBest g v best
  was v best is_best = elim (in_dec v is.tree) [
    | yes in_v ↦
        let one : is.best ≡ best =
        IsBest-unique is.n.graph v is.best best is.turns.well (is.turns.is_best v in_v) is_best in
        subst (IsBest g v) one (is.turns.was_best v in_v)
    | no out ↦
        best_was g is.n is.turns.well is.turns.left v best (is.others v is_best.reached.1.begins out) is_best
  ]

  itself : HaveQuietLinks p.params w → NothingLapses p.params → AllNameItself says_announce is.n g (view w)
  itself quiet off =
      let (back, settles) = is.seen quiet off in
      record {
        lanes = λ j l f a at among said known.
            let joins = (back.back.after.fits.lanes j l f a at among said known).joins in
            let sent = back.sound.lanes j l f a at among said joins in sound_itself g l.from a sent.source sent.sound;
        stations = λ i s at live place r holds.
            let came = back.sound.stations i s place r at live holds in
            sound_itself g came.from r.said came.source came.sound;
      }

  state : HaveQuietLinks p.params w → NothingLapses p.params → start + 2 * way_in w < w.time
      → IsSettledState says_announce is.n (view w)
  state quiet off late =
      turned_state says_announce g is.n is.tree is.top is.other is.last is.out is.best is.base is.depth is.turns start
      (fallen_by is.n start) (settles_by is.n start)
      (turn_times g is.n is.tree is.top is.other is.last is.out is.best is.base is.depth is.turns start) (view w)
      (is.seen quiet off).0 (is.seen quiet off).1 (by_now p g silent start w is quiet off (omega (arith, late)))
      is.others (subst (λ (z : Network). UnlinkedAreOff z.graph (view w)) is.same
      (dark_now p silent w is.standing is.asked quiet is.past))

  -- what names the best in no steps names it alone
  root : HaveQuietLinks p.params w → NothingLapses p.params → start + 2 * way_in w < w.time → (base : ℕ)
      → LevelTellsRight says_announce (left_network p silent w) base (view w) 0
  root quiet off late =
      root_right says_announce g (left_network p silent w) (left_net p silent w is.standing.world)
      (subst (λ (z : Network). AllAreNear z.graph) (sym is.same) near) (view w)
      (subst (λ z. IsSettledState says_announce z (view w)) (sym is.same) (state quiet off late))
      (λ v u best joined is_best here. was v best (subst (λ (z : Network). IsBest z.graph v best) is.same is_best))
      (subst (λ z. AllNameItself says_announce z g (view w)) (sym is.same) (itself quiet off))

  -- links are at rest two ways later
  tree_once : SettlesOnce p silent (start + 2 * way_in w) w
  tree_once = record {
    standing = is.standing;
    asked = is.asked;
    near = subst (λ (z : Network). AllAreNear z.graph) (sym is.same) near;
    long = omega arith;
    root = root;
    state = λ quiet off late. subst (λ z. IsSettledState says_announce z (view w)) (sym is.same) (state quiet off late);
  }

  -- the tree isn't the best alone
  several : 1 < path_bound (snapshot_of w)
  several =
      let (far, here) = distance_exists is.n.graph is.last is.turns.well (is.turns.lives is.last is.turns.in_last) in
      let more = is.turns.farther is.last far is.turns.in_last here in
      let within = IsDistance-within is.n.graph is.n.reach is.last far is.turns.paths here in
      let same = ap (λ (z : Network). z.reach) is.same in
      omega (arith, more, within, same)

-- ---- it goes on

module _ (p : SettlingParams) (g : Snapshot) (silent start : ℕ) (w w' : WorldState)
    (is : IsTurnedTreeAnew p g silent start w) (tree' : IsTurnedTreeAlways p g silent start w')
    (asked' : HaveAskedBy start w') (keeps : KeepsNetwork w w')
    (step : MachineSteps says_announce (view w) (view w')) where
  anew_step : IsTurnedTreeAnew p g silent start w'
  anew_step =
      let same = same_way w w' keeps in
      record {
        tree = tree';
        asked = asked';
        tells = tells_on p silent (start + 2 * way_in w') w w'
            (subst (λ way. SettlesOnce p silent (start + 2 * way) w) (sym same)
            (tree_once p g silent start w is.tree))
            (tree_once p g silent start w' tree')
            (subst (λ way. TellsOnce p silent (start + 2 * way) w) (sym same) is.tells) keeps step;
      }

pub tree_anew_later : (p : SettlingParams) (g : Snapshot) (silent start time : ℕ) (w : WorldState) → w.time ≤ time
    → NothingBefore time w.net.pending → IsTurnedTreeAnew p g silent start w
    → IsTurnedTreeAnew p g silent start (at_time time w)
tree_anew_later p g silent start time w later first is =
    anew_step p g silent start w (at_time time w) is (turned_tree_later p g silent start time w later first is.tree)
    (asked_later p start time w is.tree.standing.world later first is.asked) (later_keeps time w)
    (inl (record { time = time; later = later; is = refl }))

pub tree_anew_acts : (p : SettlingParams) (g : Snapshot) (silent start : ℕ) (act : Act) (w : WorldState)
    (draws : List Draw) (done : Done) (w' : WorldState) → IsNoChange act → SetsAnOctet act → Acts act w draws done w'
    → IsTurnedTreeAnew p g silent start w → IsTurnedTreeAnew p g silent start w'
tree_anew_acts p g silent start act w draws done w' none octet acts is =
    let world = is.tree.standing.world in
    let tree' = turned_tree_acts p g silent start act w draws done w' none octet acts is.tree in
    anew_step p g silent start w w' is tree'
    (asked_acts p start silent act w draws done w' none acts is.tree.standing tree'.standing.world is.asked)
    (acts_keep act w draws done w' none acts)
    (inr (acts_seen act w draws done w' none world.sound world.encodable acts))

-- ---- it begins

-- as the link goes down
pub tree_anew_begins : (p : SettlingParams) (g : Snapshot) (silent start : ℕ) (w : WorldState)
    → IsTurnedTreeAlways p g silent start w → w.time ≡ start → w.last_change ≡ start
    → IsTurnedTreeAnew p g silent start w
tree_anew_begins p g silent start w tree now last = record {
  tree = tree;
  asked = subst (λ t. HaveAskedBy t w) last tree.asked;
  tells = tells_begins p silent (start + 2 * way_in w) w (omega (arith, now));
}

-- ---- rest

-- Two ways later, and then an announce interval and a delay for each system of a path but one, traces are told anew.
pub tree_anew_claimed : (p : SettlingParams) (g : Snapshot) (silent start : ℕ) (w : WorldState)
    → IsTurnedTreeAnew p g silent start w → HaveQuietLinks p.params w → NothingLapses p.params
    → start + 2 * way_in w + pred (path_bound (snapshot_of w)) * (largest_interval p + delay_in w) < w.time
    → (begin : ℕ) → start ≤ begin → IsClaimedAlways p begin w
tree_anew_claimed p g silent start w is quiet off over begin later =
    once_claimed p silent start (start + 2 * way_in w) w (tree_once p g silent start w is.tree) is.asked is.tells quiet
    off (told_over p (start + 2 * way_in w) w (several p g silent start w is.tree) over) begin later
    (silent_from_now p begin silent w is.tree.standing.world is.tree.standing.silent is.tree.past)
