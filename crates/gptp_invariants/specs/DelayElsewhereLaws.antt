-- Laws: what a change leaves alone stays as it was known.
use Rattle.std.specs.Prelude.{◌≡◌, ⊤, ◌*◌, ◌+◌, ◌≤◌, ℕ, true, List}
use Rattle.gptp_links.specs.Fate.{Draw}
use Rattle.gptp_pdelay.specs.Peer.{is_capable}
use Rattle.gptp_scenario.specs.declared.change.Act.{Act}
use Rattle.gptp_scenario.specs.declared.change.Act.TheVariants.{Deliver, Expire, Change as Changing}
use Rattle.gptp_scenario.specs.declared.change.Change.{Change}
use Rattle.gptp_model.specs.declared.done.Done.{Done}
use Rattle.gptp_model.specs.Acts.{Acts}
use Rattle.gptp_model.specs.Sound.{IsSound}
use Rattle.gptp_model.specs.World.{WorldState}
use Rattle.gptp_pdelay_machine.specs.Measured.{HasMeasured}
use Rattle.gptp_invariants.specs.DelayElsewhere.{IsElsewhere}
use Rattle.gptp_invariants.specs.DelayMeasured.{LinkIsMeasured}
use Rattle.gptp_invariants.specs.DelayLinkView.{LinkPlace, least_delay, link_setting}
use Rattle.gptp_invariants.specs.DelayWatched.{IsWatched}

-- a change that leaves a link alone leaves it watched, with the times that it had
abbrev pub WatchSurvives : Type 0
WatchSurvives = (at : LinkPlace) (gone calm : ℕ) (change : Change) (w w' : WorldState) (draws : List Draw) (done : Done)
    → IsSound w → LinkIsMeasured w → IsElsewhere at change w → Acts (Changing change) w draws done w'
    → IsWatched gone calm at w
    → IsWatched gone calm at w'

-- An act leaves a link alone where it is no change, or a change that leaves the link alone. Every such act leaves the
-- link watched, with the times that it had.
abbrev pub LeavesAlone : LinkPlace → Act → WorldState → Type 0
LeavesAlone at (Deliver link direction) w = ⊤
LeavesAlone at (Expire number timer) w = ⊤
LeavesAlone at (Changing change) w = IsElsewhere at change w

abbrev pub WatchGoesThrough : Type 0
WatchGoesThrough = (at : LinkPlace) (gone calm : ℕ) (act : Act) (w w' : WorldState) (draws : List Draw) (done : Done)
    → IsSound w → LinkIsMeasured w → LeavesAlone at act w → Acts act w draws done w' → IsWatched gone calm at w
    → IsWatched gone calm at w'

-- From three intervals between requests after its own calm on, the port that asks on a watched link is capable,
-- whatever was changed elsewhere since.
abbrev pub WatchedPortsStayCapable : Type 0
WatchedPortsStayCapable = (at : LinkPlace) (gone calm : ℕ) (w : WorldState) (l : IsWatched gone calm at w)
    → calm + 3 * (link_setting at w l.link).period ≤ w.time
    → is_capable l.link.asking.state.peer ≡ true

-- From a window and two intervals between requests after that calm on, its neighbour rate and mean link delay are those
-- of two exchanges over the link, a window apart.
abbrev pub WatchedPortsStayMeasured : Type 0
WatchedPortsStayMeasured = (at : LinkPlace) (gone calm : ℕ) (w : WorldState) (l : IsWatched gone calm at w)
    → calm + ((link_setting at w l.link).window + 2) * (link_setting at w l.link).period ≤ w.time
    → HasMeasured (link_setting at w l.link) (least_delay at w l.link) l.link.asking.state.peer.last
