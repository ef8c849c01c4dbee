-- Laws on calm worlds: they are calm states of the machine of gptp_bmca_machine.
use Rattle.std.specs.Prelude.{◌≡◌, ◌≤◌, ◌+◌, ◌*◌, ℕ, List}
use Rattle.gptp_graph.specs.PathBound.{BoundsPaths}
use Rattle.gptp_links.specs.Fate.{Draw}
use Rattle.gptp_setup.specs.declared.setup.Params.{Params}
use Rattle.gptp_setup.specs.SettlingParams.{SettlingParams, largest_interval}
use Rattle.gptp_scenario.specs.declared.change.Act.{Act}
use Rattle.gptp_model.specs.declared.done.Done.{Done}
use Rattle.gptp_model.specs.Acts.{Acts, at}
use Rattle.gptp_model.specs.Sound.{IsSound}
use Rattle.gptp_model.specs.World.{WorldState}
use Rattle.gptp_bmca_machine.specs.Calm.{Calm}
use Rattle.gptp_bmca_machine.specs.Facts.{StationFacts}
use Rattle.gptp_bmca_machine.specs.Network.{IsSettlingNetwork, network_setting}
use Rattle.gptp_invariants.specs.WorldKnown.{IsKnown}
use Rattle.gptp_invariants.specs.WorldEncodable.{IsEncodable}
use Rattle.gptp_invariants.specs.ChoiceSeenLaws.{IsNoChange}
use Rattle.gptp_invariants.specs.ChoiceView.{view}
use Rattle.gptp_invariants.specs.WorldStanding.{AreBetween, snapshot_of}
use Rattle.gptp_invariants.specs.ChoiceCalm.{AreCapableFrom, HaveQuietLinks, IsQuietWorld, network_of, SettlingTimes, network_with}

-- ---- a calm state

-- what the machine knows of each state is so of every sound and known world, calm or not
abbrev pub HasFacts : Type 0
HasFacts = (p : SettlingParams) (m start : ℕ) (w : WorldState)
    → IsSound w → IsEncodable w → IsKnown p w
    → StationFacts (network_setting (network_of p m start w)) (view w)

-- a sound, encodable and known world has a network of the machine, for each number that bounds the systems of its paths
abbrev pub HasNetwork : Type 0
HasNetwork = (p : SettlingParams) (m start : ℕ) (w : WorldState)
    → IsSound w → AreBetween w → IsEncodable w → IsKnown p w → BoundsPaths (snapshot_of w) m
    → w.last_change + 2 * largest_interval p ≤ start
    → IsSettlingNetwork (network_of p m start w)

-- Such a world is a calm state where its links are quiet, the largest announce interval passes from the last change to
-- the start, and from the start its ports are disabled exactly where no link of the snapshot is at them.
abbrev pub IsCalmState : Type 0
IsCalmState = (p : SettlingParams) (m start : ℕ) (times : SettlingTimes) (w : WorldState)
    → IsSound w → IsEncodable w → IsKnown p w → HaveQuietLinks p.params w
    → w.last_change + 2 * largest_interval p ≤ start → AreCapableFrom start w
    → Calm (network_with p m start times w) (view w)

-- ---- it stays so

-- an act that changes nothing of the network leaves it, and so does time that passes
abbrev pub ActsKeepNetwork : Type 0
ActsKeepNetwork = (p : SettlingParams) (m start : ℕ) (act : Act) (w : WorldState) (draws : List Draw) (done : Done)
    (w' : WorldState)
    → IsNoChange act → Acts act w draws done w'
    → network_of p m start w' ≡ network_of p m start w

abbrev pub TimeKeepsNetwork : Type 0
TimeKeepsNetwork = (p : SettlingParams) (m start : ℕ) (w : WorldState) (time : ℕ)
    → network_of p m start (at time w) ≡ network_of p m start w

-- they leave it quiet
abbrev pub ActsStayQuiet : Type 0
ActsStayQuiet = (p : Params) (act : Act) (w : WorldState) (draws : List Draw) (done : Done) (w' : WorldState)
    → IsNoChange act → Acts act w draws done w' → IsQuietWorld p w
    → IsQuietWorld p w'

abbrev pub TimeStaysQuiet : Type 0
TimeStaysQuiet = (p : Params) (w : WorldState) (time : ℕ) → IsQuietWorld p w → IsQuietWorld p (at time w)
