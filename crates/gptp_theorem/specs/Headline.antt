-- The theorem on one page: what it asks of a world; whom every system then follows, how soon, and how exactly.
--
-- A world of gptp_world is any that its public calls reach, whatever its network, the acts done in it, the draws of
-- delays and losses and the order of what happens at one moment. Its *snapshot* is its live systems and the links that
-- are up between two of them; the *best* of a component has the lowest identity (IEEE 802.1AS-2020, 10.3.2), the
-- *distance* of a system is the least number of links from it to the best, and a system is *near* where that is below
-- 255.
use Rattle.std.specs.Prelude.{◌≡◌, ◌≤◌, ◌+◌, ◌-◌, ◌*◌, ℕ, ℤ, max, pred, suc, true, List, Some, length}
use Rattle.gptp_lists.specs.Members.{In}
use Rattle.gptp_graph.specs.Distance.{IsNear}
use Rattle.gptp_graph.specs.Labelling.{SystemLine, line_clocks}
use Rattle.gptp_graph.specs.Order.{IsRising}
use Rattle.gptp_graph.specs.PathBound.{BoundsPaths, path_bound}
use Rattle.gptp_graph.specs.SettledChoice.{IsSettledChoice}
use Rattle.gptp_messages.specs.declared.follow_up.FollowUp.{FollowUp}
use Rattle.gptp_messages.specs.declared.message.Message.TheVariants as messages
use Rattle.gptp_messages.specs.Grammar.{Reads}
use Rattle.gptp_pdelay.specs.GoodLink.{ceil_div}
use Rattle.gptp_scaled.specs.Counts.{AreWithin}
use Rattle.gptp_setup.specs.Intervals.{interval_of}
use Rattle.gptp_setup.specs.SettlingParams.{SettlingParams, largest_interval}
use Rattle.gptp_scenario.specs.Calm.{SyncsComeInTime}
use Rattle.gptp_scenario.specs.SyncWait.{step_more}
use Rattle.gptp_system.specs.declared.answer.Answer.TheVariants as answers
use Rattle.gptp_system.specs.State.{SystemState}
use Rattle.gptp_model.specs.declared.done.Done.{Done}
use Rattle.gptp_model.specs.declared.done.Done.TheVariants.{Quiet, Heard}
use Rattle.gptp_model.specs.Prompt.{HavePace}
use Rattle.gptp_model.specs.Views.{ShowsLive}
use Rattle.gptp_model.specs.World.{Channel, WorldState}
use Rattle.gptp_invariants.specs.ChoiceCalm.{delay_in, sync_paths_of}
use Rattle.gptp_invariants.specs.SyncExact.{IsAhead, IsWayError}
use Rattle.gptp_invariants.specs.WorldStanding.{channel_is_used, live_stations, snapshot_of}
use Rattle.gptp_invariants.specs.WorldTree.{IsTree}
use Rattle.gptp_certificate.specs.Stated.{States}

-- ---- what is asked

-- Each link of the snapshot loses nothing and is good: its largest delay, and what two time stamps are off together,
-- leave room below the threshold of neighborPropDelay for the drift of two clocks (law of good links). All systems
-- start with the parameters of one network and with the largest announce interval of any of its ports, as those of
-- every world do. And what a Slave port holds doesn't lapse for want of Sync: syncReceiptTimeout is 0, or the paths of
-- the snapshot are so short, and its links so prompt, that a settled system always hears the next Sync sooner.
pub record WorldIsCalm (p : SettlingParams) (w : WorldState) : Type 0 where
  pub of : HavePace p w
  pub links : (link : Channel) → In link w.net.channels → channel_is_used (live_stations w.stations) link ≡ true
      → (link.bounds.loss ≡ 0)
      × (let most = link.bounds.max + (p.params.granularity + 2 * p.params.noise) in
      most + ceil_div most 1000 + ceil_div p.params.turnaround 2000 + 2 ≤ p.params.threshold)
  pub lapses : SyncsComeInTime p.params (sync_paths_of w)

-- ((k + 3)m + L + 5) intervals have passed since the last change: k is the announce receipt timeout, L how many peer
-- delay requests in a row may be lost, and the interval the largest announce interval of any port. Where
-- syncReceiptTimeout isn't 0, m times has passed too what the wait for the next Sync and the greatest delay of a link
-- are together above one interval.
abbrev pub HasPassed : SettlingParams → ℕ → WorldState → Type 0
HasPassed p m w =
    w.last_change
    + (((p.params.timeout + 3) * m + p.params.lost + 5) * largest_interval p + m * step_more p (sync_paths_of w))
    ≤ w.time

-- Where syncReceiptTimeout is 0, so long is enough since the last change: the longer of two spans, then an interval,
-- and the greatest delay of a link of the snapshot for each of m systems but one. The one span is L + 5 intervals, in
-- which ports become capable. The other is 2 intervals, and k intervals and that delay for each of m systems, in which
-- all that is held becomes wholly clean. k, L and the interval are those of `HasPassed`. The whole is never longer than
-- what that asks for, where anybody lives.
abbrev pub HasPassedAtOnce : SettlingParams → ℕ → WorldState → Type 0
HasPassedAtOnce p m w =
    w.last_change
    + (max ((p.params.lost + 5) * largest_interval p)
    (2 * largest_interval p + m * (p.params.timeout * largest_interval p + delay_in w))
    + largest_interval p
    + pred m * delay_in w)
    ≤ w.time

-- ---- what is said

-- the lines are the settled choice of the snapshot, and so no others in rising order of their clocks are
pub record IsCertified (w : WorldState) (lines : List SystemLine) : Type 0 where
  pub right : IsSettledChoice (snapshot_of w) lines
  pub only : (other : List SystemLine) → IsRising (line_clocks other) → IsSettledChoice (snapshot_of w) other
      → other ≡ lines

-- Every near system follows its component's best by fewest steps over its parent, its ports have their settled roles,
-- and so they form a tree; and what is stated of all systems, far ones too, is what the checker accepts, and no other.
pub record IsSettled (w : WorldState) : Type 0 where
  pub tree : IsTree w
  pub certified : (lines : List SystemLine) → States w lines → IsCertified w lines

-- The theorem: a calm world is settled once so long has passed since its last change, where no path of its snapshot has
-- more than m systems.
abbrev pub Headline : WorldState → Type 0
Headline w = (p : SettlingParams) (m : ℕ)
    → WorldIsCalm p w → BoundsPaths (snapshot_of w) m → HasPassed p m w
    → IsSettled w

-- where nothing lapses for want of Sync, so it is sooner
abbrev pub HeadlineAtOnce : WorldState → Type 0
HeadlineAtOnce w = (p : SettlingParams) (m : ℕ)
    → WorldIsCalm p w → p.params.sync_timeout ≡ 0 → BoundsPaths (snapshot_of w) m → HasPassedAtOnce p m w
    → IsSettled w

-- such an m is the number of live systems, and such is 2 more than there are systems with two neighbours or more
abbrev pub HeadlineBySystems : WorldState → Type 0
HeadlineBySystems w = (p : SettlingParams)
    → WorldIsCalm p w → HasPassed p (length (snapshot_of w).systems) w
    → IsSettled w

abbrev pub HeadlineByNeighbours : WorldState → Type 0
HeadlineByNeighbours w = (p : SettlingParams)
    → WorldIsCalm p w → HasPassed p (path_bound (snapshot_of w)) w
    → IsSettled w

-- ---- how exactly

-- By this time a Sync has come down a way of so many links that left the root when all was settled and rates were
-- measured over whole windows, even where each link takes as long as a good link may, and where the Sync stays a
-- residence at each system.
abbrev pub HasComeDown : SettlingParams → ℕ → ℕ → ℕ → WorldState → Type 0
HasComeDown p m steps time w =
    w.last_change
    + (((p.params.timeout + 3) * m + p.params.lost + 5) * largest_interval p + m * step_more p (sync_paths_of w))
    + (p.params.window - 1) * interval_of p.params.pdelay + steps * (p.params.threshold + p.params.residence)
    ≤ time

-- by an act of which this is told, the system with this clock used a Follow_Up (IEEE 802.1AS-2020, 11.2.14)
abbrev pub UsesFollowUp : ℕ → Done → Type 0
UsesFollowUp number Quiet = ⊥
UsesFollowUp number (Heard clock port answer frame) =
    (clock ≡ number) × (answer ≡ Some answers.Used) × ((m : FollowUp) × Reads frame.items (messages.FollowUp m))

-- by an act of which this is told, the system with this clock used a Follow_Up that left it this offset
pub record LeavesOffset (number : ℕ) (offset : ℤ) (w' : WorldState) (done : Done) : Type 0 where
  pub uses : UsesFollowUp number done
  pub system : SystemState
  pub shows : ShowsLive number w' system
  pub is : system.offset ≡ Some offset

-- The theorem on time: where an act is done in a calm world once so long has passed, and a near system other than its
-- component's best uses a Follow_Up by it, the offset that is left is within the time error of the system's way of its
-- clock less what the best tells, which is its clock and its base. Systems read their clocks by their time stamps. A
-- way leads over the system's parent and the parents of that. Its time error (gptp_error_laws) is what each link costs,
-- its jitter and twice what two time stamps are off together, and what each bridge costs: its residence times the error
-- of the rate so far, to which each link above adds the same over a window of peer delay requests.
abbrev pub HeadlineOnTime : WorldState → ℕ → WorldState → Done → Type 0
HeadlineOnTime w time w' done = (p : SettlingParams) (m steps number error : ℕ) (offset ahead : ℤ)
    → WorldIsCalm p w → BoundsPaths (snapshot_of w) m → HasComeDown p m (suc steps) time w
    → LeavesOffset number offset w' done
    → IsNear (snapshot_of w) number → IsWayError p.params w number (suc steps) error → IsAhead w number time ahead
    → AreWithin error offset ahead
