-- Links in use stay those that were, where events make nothing of what stands.
use Rattle.std.proofs.Common.{◌≡◌, true, List, [], ◌∷◌, ◌++◌, sym, ◌∙◌, inl, inr}
use Rattle.std.specs.Prelude.{◌&&◌}
use Rattle.gptp_graph.proofs.Sure.{and_true}
use Rattle.gptp_lists.proofs.SystemSpecLemmas.{In-slice_get}
use Rattle.gptp_scenario.specs.Calm.{IsUsed}
use Rattle.gptp_scenario.specs.Change.{link_after}
use Rattle.gptp_scenario.specs.InUse.{is_used, lives}
use Rattle.gptp_scenario.specs.Network.{IsNetwork, NetworkState}
use Rattle.gptp_scenario.specs.declared.change.Timed.{Timed}
use Rattle.gptp_scenario.specs.declared.network.LinkSpec.{LinkSpec}
use Rattle.gptp_settling_time.specs.HowSoon.{IsIdleEvent}
use Rattle.gptp_settling_time.specs.Leads.{AreUsedSince}
use Rattle.gptp_settling_time.proofs.SamePathsLemmas.{StandAlike, idle_alike, lives_back, turned_alike}
use Rattle.gptp_settling_time.proofs.SilentSpanLemmas.{used_from}

used_back : (n : NetworkState) (events : List Timed) (v : LinkSpec) → is_used n.systems events v ≡ true
    → IsUsed n.systems events v
used_back n events v used =
    let (both, b) = and_true (v.up && lives n.systems events v.a.clock) (lives n.systems events v.b.clock) used in
    let (up, a) = and_true v.up (lives n.systems events v.a.clock) both in
    record { up = up; a = lives_back n events v.a.clock a; b = lives_back n events v.b.clock b }

alike_since : (n : NetworkState) (events more : List Timed) → StandAlike n events more → AreUsedSince n events more
alike_since n events more same place v there used =
    used_back n events (link_after events v)
    (sym (same.used v (In-slice_get v n.links place there)) ∙ used_from n.systems more (link_after more v) used)

pub idle_since : (n : NetworkState) (network : IsNetwork n) (made : List Timed) (event : Timed)
    → IsIdleEvent n made event → AreUsedSince n made (made ++ event ∷ [])
idle_since n network made event (inl nothing) =
    alike_since n made (made ++ event ∷ []) (idle_alike n network made event nothing)
idle_since n network made event (inr turns) =
    alike_since n made (made ++ event ∷ []) (turned_alike n made event turns)
