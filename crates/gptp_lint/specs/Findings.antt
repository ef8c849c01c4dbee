-- What is found in a document (profile).
use Rattle.std.specs.Prelude.{◌≡◌, ◌↔◌, ℕ, List, [], None}
use Rattle.std.specs.List.{AllByRecursion}
use Rattle.gptp_lists.specs.Members.{In}
use Rattle.gptp_setup.specs.SettlingParams.{lapse_span}
use Rattle.gptp_network.specs.Document.{DocumentState}
use Rattle.gptp_network.specs.Span.{IsCalmAt}
use Rattle.gptp_topology.specs.Times.{AreCalmTimes, times_of}
use Rattle.gptp_topology.specs.declared.times.CalmTime.{CalmTime}
use Rattle.gptp_lint.specs.Components.{AreComponents}
use Rattle.gptp_lint.specs.Trouble.{longs_of, lossies_of}
use Rattle.gptp_lint.specs.Unlinked.{AreUnlinked}
use Rattle.gptp_lint.specs.declared.findings.Findings.{Findings}

-- at none of these times Sync is late
abbrev pub NoneIsLate : List CalmTime → Type 0
NoneIsLate = AllByRecursion (λ (t : CalmTime). t.needs ≡ None)

-- each time of a document is calm
abbrev pub IsAlwaysCalm : DocumentState → Type 0
IsAlwaysCalm d = (at : ℕ) → In at (times_of d.events) → IsCalmAt d at

-- Links in use that are too long or lose frames, systems that no link names, the times, and how long what the Slave
-- port holds stays without Sync, as they are defined. There is no such link, and Sync is never late, exactly where each
-- time is calm.
pub record AreFound (d : DocumentState) (f : Findings) : Type 0 where
  pub long : f.long.items ≡ longs_of d d.network.links
  pub lossy : f.lossy.items ≡ lossies_of d d.network.links
  pub unlinked : AreUnlinked d.network f.unlinked.items
  pub components : AreComponents d f.components
  pub calm : AreCalmTimes d f.calm.items
  pub limit : f.limit ≡ lapse_span d.network.params
  pub quiet : ((f.long.items ≡ []) × (f.lossy.items ≡ []) × NoneIsLate f.calm.items) ↔ IsAlwaysCalm d
