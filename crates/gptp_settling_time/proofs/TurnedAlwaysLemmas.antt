-- A world since one system was moved: it settles, and then traces are told anew. So claims are made of it as of one
-- since news.
use Rattle.std.proofs.Common.{◌≡◌, ◌<◌, ◌≤◌, ◌+◌, ◌*◌, ℕ, zero, suc, pred, List, refl, sym, ap, subst, inl, inr, arith}
use Rattle.gptp_graph.specs.Best.{IsBest}
use Rattle.gptp_graph.specs.Distance.{IsDistance}
use Rattle.gptp_graph.specs.PathBound.{path_bound}
use Rattle.gptp_graph.specs.Snapshot.{Snapshot}
use Rattle.gptp_graph.proofs.PathBoundLemmas.{IsDistance-within}
use Rattle.gptp_links.specs.Fate.{Draw}
use Rattle.gptp_scenario.specs.Calm.{NothingLapses}
use Rattle.gptp_scenario.specs.declared.change.Act.{Act}
use Rattle.gptp_setup.specs.SettlingParams.{SettlingParams, largest_interval}
use Rattle.gptp_model.specs.Acts.{Acts, at as at_time}
use Rattle.gptp_model.specs.Pending.{NothingBefore}
use Rattle.gptp_model.specs.World.{WorldState}
use Rattle.gptp_model.specs.declared.done.Done.{Done}
use Rattle.gptp_bmca_machine.specs.Acts.{MachineSteps}
use Rattle.gptp_bmca_machine.specs.Network.{Network}
use Rattle.gptp_bmca_machine.specs.Sound.{ReceivedFits}
use Rattle.gptp_bmca_machine.specs.SoundLaws.{AllAreNear}
use Rattle.gptp_invariants.specs.ChoiceCalm.{HaveQuietLinks, delay_in}
use Rattle.gptp_invariants.specs.ChoiceSeenLaws.{IsNoChange}
use Rattle.gptp_invariants.specs.ChoiceSettlesAsMachine.{IsWorld}
use Rattle.gptp_invariants.specs.ChoiceView.{says_announce, view}
use Rattle.gptp_invariants.specs.WorldEncodableLaws.{SetsAnOctet}
use Rattle.gptp_invariants.specs.WorldStanding.{snapshot_of}
use Rattle.gptp_invariants.proofs.ChoiceCalmKeptLemmas.{KeepsNetwork, acts_keep}
use Rattle.gptp_invariants.proofs.ChoiceSeenActLemmas.{acts_seen}
use Rattle.gptp_invariants.proofs.ChoiceSettlesAsMachineLemmas.{paths_bound}
use Rattle.gptp_invariants.proofs.WorldNewsCourseLemmas.{later_keeps}
use Rattle.gptp_invariants.proofs.WorldNewsLemmas.{silent_from_now}
use Rattle.gptp_settling_time.proofs.AlwaysClaimedLemmas.{IsClaimedAlways}
use Rattle.gptp_settling_time.proofs.LeftClaimedLemmas.{HaveAskedBy, asked_acts, asked_later, left_net, left_network}
use Rattle.gptp_settling_time.proofs.GoesOnLemmas.{calm_now, nothing_held}
use Rattle.gptp_settling_time.proofs.MovedAlwaysLemmas.{IsMovedAlways, moved_acts, moved_later, moved_seen, turned_by}
use Rattle.gptp_settling_time.proofs.MovedLemmas.{best_before, received_then}
use Rattle.gptp_settling_time.proofs.NamesItselfLemmas.{AllNameItself}
use Rattle.gptp_settling_time.proofs.RightBeginLemmas.{root_right}
use Rattle.gptp_settling_time.proofs.SettledSeenLemmas.{stage_settled}
use Rattle.gptp_settling_time.proofs.TellsRightLemmas.{IsSettledState, LevelTellsRight, settled_state}
use Rattle.gptp_settling_time.proofs.ToldAnewLemmas.{SettlesOnce, TellsOnce, once_claimed, same_way, tells_begins, tells_on, told_over, way_in}
use Rattle.gptp_settling_time.proofs.TurnLemmas.{starts_far}

-- What is claimed of a world since a link went down at a time by which one system is moved: it has settled a way later,
-- and then traces are told anew.
pub record IsTurnedAlways (p : SettlingParams) (g : Snapshot) (silent start : ℕ) (w : WorldState) : Type 0 where
  pub moved : IsMovedAlways p g silent start w
  pub asked : HaveAskedBy start w
  pub tells : TellsOnce p silent (start + way_in w) w

-- ---- it settles

two_at_least : (r m e : ℕ) → 1 < e → e < r → 2 * m ≤ pred r * m
two_at_least zero m e more less = absurd (omega (arith, less))
two_at_least (suc zero) m e more less = absurd (omega (arith, more, less))
two_at_least (suc (suc zero)) m e more less = absurd (omega (arith, more, less))
two_at_least (suc (suc (suc r))) m e more less = omega arith

module _ (p : SettlingParams) (g : Snapshot) (silent start : ℕ) (w : WorldState)
    (is : IsMovedAlways p g silent start w) where
  world : IsWorld p w
  world = is.standing.world

  reaches : is.e < path_bound (snapshot_of w)
  reaches =
      IsDistance-within (snapshot_of w) (path_bound (snapshot_of w)) is.x is.e (paths_bound p w world)
      (subst (λ (z : Network). IsDistance z.graph is.x is.e) (sym is.same) is.turns.is)

  -- the system that is moved is no neighbour of the best
  far : 1 < is.e
  far =
      let first = starts_far g is.n is.x is.d is.e is.best is.turns in
      let more = is.turns.more in
      omega (arith, first, more)

  several : 1 < path_bound (snapshot_of w)
  several = let less = reaches in let more = far in omega (arith, less, more)

  -- so that the way takes two delays at least
  two_delays : 2 * delay_in w ≤ way_in w
  two_delays = two_at_least (path_bound (snapshot_of w)) (delay_in w) is.e far reaches

  -- what was told before is gone within one
  most : is.n.most ≡ delay_in w
  most = ap (λ (z : Network). z.most) (sym is.same)

  -- links are at rest a way later
  state : HaveQuietLinks p.params w → NothingLapses p.params → start + way_in w < w.time
      → IsSettledState says_announce (left_network p silent w) (view w)
  state quiet off late =
      let n = left_network p silent w in
      let seen = moved_seen p g silent start w is quiet off (omega (arith, late)) in
      let (m, each) = is.seen quiet off in
      let same = most in
      let two = two_delays in
      let received : ReceivedFits (snapshot_of w) (view w) =
      subst (λ (z : Network). ReceivedFits z.graph (view w)) (sym is.same)
      (received_then says_announce g is.n is.x is.d is.e is.best is.turns (start + is.n.most) (turned_by is.n start)
      (view w) m (omega (arith, same, two, late)) each) in
      settled_state says_announce n (left_net p silent w world)
      (subst (λ (z : Network). AllAreNear z.graph) (sym is.same) is.turns.near) (view w)
      (calm_now p silent w is.standing is.asked quiet is.past)
      (record {
        sound = λ now. received;
        levels = λ d best v pp u q near leads.
            stage_settled p w seen n seen.graph (record {
              place = seen.same.place;
              lane = seen.same.lane;
              log = seen.same.log;
              interval = seen.same.interval;
            }) d best v pp u q near leads;
      }) (omega (arith, late)) (nothing_held p silent w is.standing is.asked quiet is.past)

  near : AllAreNear (snapshot_of w)
  near = subst (λ (z : Network). AllAreNear z.graph) (sym is.same) is.turns.near

  -- the best was so before, and what names it in no steps names it alone
  root : HaveQuietLinks p.params w → NothingLapses p.params → start + way_in w < w.time → (base : ℕ)
      → LevelTellsRight says_announce (left_network p silent w) base (view w) 0
  root quiet off late =
      root_right says_announce g (left_network p silent w) (left_net p silent w world) near (view w)
      (state quiet off late)
      (λ v u best joined is_best here.
      best_before says_announce g is.n is.x is.d is.e is.best is.turns v best
      (subst (λ (z : Network). IsBest z.graph v best) is.same is_best))
      (subst (λ z. AllNameItself says_announce z g (view w)) (sym is.same) (is.seen quiet off).0.itself)

  moved_once : SettlesOnce p silent (start + way_in w) w
  moved_once = record {
    standing = is.standing;
    asked = is.asked;
    near = near;
    long = omega arith;
    root = root;
    state = state;
  }

-- ---- it goes on

module _ (p : SettlingParams) (g : Snapshot) (silent start : ℕ) (w w' : WorldState)
    (is : IsTurnedAlways p g silent start w) (moved' : IsMovedAlways p g silent start w')
    (asked' : HaveAskedBy start w') (keeps : KeepsNetwork w w')
    (step : MachineSteps says_announce (view w) (view w')) where
  turned_step : IsTurnedAlways p g silent start w'
  turned_step =
      let same = same_way w w' keeps in
      record {
        moved = moved';
        asked = asked';
        tells = tells_on p silent (start + way_in w') w w'
            (subst (λ way. SettlesOnce p silent (start + way) w) (sym same) (moved_once p g silent start w is.moved))
            (moved_once p g silent start w' moved')
            (subst (λ way. TellsOnce p silent (start + way) w) (sym same) is.tells) keeps step;
      }

pub turned_later : (p : SettlingParams) (g : Snapshot) (silent start time : ℕ) (w : WorldState) → w.time ≤ time
    → NothingBefore time w.net.pending → IsTurnedAlways p g silent start w
    → IsTurnedAlways p g silent start (at_time time w)
turned_later p g silent start time w later first is =
    turned_step p g silent start w (at_time time w) is (moved_later p g silent start time w later first is.moved)
    (asked_later p start time w is.moved.standing.world later first is.asked) (later_keeps time w)
    (inl (record { time = time; later = later; is = refl }))

pub turned_acts : (p : SettlingParams) (g : Snapshot) (silent start : ℕ) (act : Act) (w : WorldState)
    (draws : List Draw) (done : Done) (w' : WorldState) → IsNoChange act → SetsAnOctet act → Acts act w draws done w'
    → IsTurnedAlways p g silent start w → IsTurnedAlways p g silent start w'
turned_acts p g silent start act w draws done w' none octet acts is =
    let world = is.moved.standing.world in
    let moved' = moved_acts p g silent start act w draws done w' none octet acts is.moved in
    turned_step p g silent start w w' is moved'
    (asked_acts p start silent act w draws done w' none acts is.moved.standing moved'.standing.world is.asked)
    (acts_keep act w draws done w' none acts)
    (inr (acts_seen act w draws done w' none world.sound world.encodable acts))

-- ---- it begins

-- as the link goes down
pub anew_begins : (p : SettlingParams) (g : Snapshot) (silent start : ℕ) (w : WorldState)
    → IsMovedAlways p g silent start w → w.time ≡ start → w.last_change ≡ start → IsTurnedAlways p g silent start w
anew_begins p g silent start w moved now last = record {
  moved = moved;
  asked = subst (λ t. HaveAskedBy t w) last moved.asked;
  tells = tells_begins p silent (start + way_in w) w (omega (arith, now));
}

-- ---- rest

-- a way later, and then an announce interval and a delay for each system of a path but one, traces are told anew
pub turned_claimed : (p : SettlingParams) (g : Snapshot) (silent start : ℕ) (w : WorldState)
    → IsTurnedAlways p g silent start w → HaveQuietLinks p.params w → NothingLapses p.params
    → start + way_in w + pred (path_bound (snapshot_of w)) * (largest_interval p + delay_in w) < w.time
    → (begin : ℕ) → start ≤ begin → IsClaimedAlways p begin w
turned_claimed p g silent start w is quiet off over begin later =
    once_claimed p silent start (start + way_in w) w (moved_once p g silent start w is.moved) is.asked is.tells quiet
    off (told_over p (start + way_in w) w (several p g silent start w is.moved) over) begin later
    (silent_from_now p begin silent w is.moved.standing.world is.moved.standing.silent is.moved.past)
