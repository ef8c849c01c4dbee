-- Laws: from the last change on a link is watched; its port becomes capable, and measures the link.
use Rattle.std.specs.Prelude.{◌≡◌, ◌≢◌, ◌+◌, ◌-◌, ◌*◌, ◌<◌, ◌≤◌, ℕ, true, List}
use Rattle.gptp_links.specs.Fate.{Draw}
use Rattle.gptp_pdelay.specs.Peer.{is_capable}
use Rattle.gptp_scenario.specs.declared.change.Act.{Act}
use Rattle.gptp_scenario.specs.declared.change.Act.TheVariants.{Change as Changing}
use Rattle.gptp_scenario.specs.declared.change.Change.{Change}
use Rattle.gptp_model.specs.declared.done.Done.{Done}
use Rattle.gptp_model.specs.Acts.{Acts, at as at_time}
use Rattle.gptp_model.specs.Pending.{NothingBefore}
use Rattle.gptp_model.specs.Sound.{IsSound}
use Rattle.gptp_model.specs.World.{WorldState}
use Rattle.gptp_pdelay_machine.specs.Facts.{IsGood}
use Rattle.gptp_pdelay_machine.specs.Measured.{HasMeasured}
use Rattle.gptp_invariants.specs.DelayLinkLaws.{IsGoneBy}
use Rattle.gptp_invariants.specs.DelayMeasured.{LinkIsMeasured}
use Rattle.gptp_invariants.specs.DelayLinkView.{IsLinkOf, LinkPlace, least_delay, link_setting}
use Rattle.gptp_invariants.specs.DelayWatched.{IsWatched}

-- it is watched as soon as what is in flight is known to be due by a time to come
abbrev pub WatchBegins : Type 0
WatchBegins = (at : LinkPlace) (gone calm : ℕ) (w : WorldState) (l : IsLinkOf at w)
    → IsSound w → LinkIsMeasured w → IsGoneBy gone at w l → w.time ≤ gone → w.time < calm
    → IsGood (link_setting at w l) gone calm
    → IsWatched gone calm at w

-- every act but a change leaves it watched
abbrev pub WatchIsKept : Type 0
WatchIsKept = (at : LinkPlace) (gone calm : ℕ) (act : Act) (w w' : WorldState) (draws : List Draw) (done : Done)
    → IsSound w → ((change : Change) → act ≢ Changing change) → Acts act w draws done w' → IsWatched gone calm at w
    → IsWatched gone calm at w'

-- time that passes, up to when something is due, leaves a link watched
abbrev pub WatchGoesOn : Type 0
WatchGoesOn = (at : LinkPlace) (gone calm time : ℕ) (w : WorldState)
    → IsSound w → w.time ≤ time → NothingBefore time w.net.pending → IsWatched gone calm at w
    → IsWatched gone calm at (at_time time w)

-- the port that asks is capable from L + 5 announce intervals after the last change on, where L is the number of
-- requests that may be lost
abbrev pub WatchedPortsBecomeCapable : Type 0
WatchedPortsBecomeCapable = (at : LinkPlace) (change interval : ℕ) (w : WorldState)
    → (l : IsWatched (change + interval) (change + 2 * interval) at w)
    → (link_setting at w l.link).period ≤ interval
    → change + ((link_setting at w l.link).allowed + 5) * interval ≤ w.time
    → is_capable l.link.asking.state.peer ≡ true

-- From five announce intervals after the last change on, and an interval between requests more for each exchange of the
-- window but one, neighbour rate and mean link delay of the port that asks are those of two exchanges over the link, a
-- window apart.
abbrev pub WatchedPortsMeasure : Type 0
WatchedPortsMeasure = (at : LinkPlace) (change interval : ℕ) (w : WorldState)
    → (l : IsWatched (change + interval) (change + 2 * interval) at w)
    → (link_setting at w l.link).period ≤ interval
    → change + 5 * interval + ((link_setting at w l.link).window - 1) * (link_setting at w l.link).period ≤ w.time
    → HasMeasured (link_setting at w l.link) (least_delay at w l.link) l.link.asking.state.peer.last
