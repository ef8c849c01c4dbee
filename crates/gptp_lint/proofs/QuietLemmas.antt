-- No link is told of, and Sync is never late, exactly where each time is calm.
use Rattle.std.proofs.Common.{◌≡◌, ◌↔◌, ℕ, false, [], Option, Some, None, refl, sym, ap, subst, ◌∙◌}
use Rattle.std.specs.Option.{option_to_list}
use Rattle.gptp_lists.specs.Members.{In}
use Rattle.gptp_lists.proofs.SystemSpecLemmas.{In-map, from_map}
use Rattle.gptp_setup.specs.declared.setup.Params.{Params}
use Rattle.gptp_scenario.specs.Calm.{AllRest, Rests}
use Rattle.gptp_scenario.specs.Network.{IsNetwork}
use Rattle.gptp_scenario.specs.SyncWait.{sync_paths}
use Rattle.gptp_scenario.specs.declared.network.LinkSpec.{LinkSpec}
use Rattle.gptp_network.specs.Document.{DocumentState}
use Rattle.gptp_network.specs.Events.{AreInOrder}
use Rattle.gptp_network.specs.Snapshot.{events_by}
use Rattle.gptp_topology.specs.Course.{course_of, first}
use Rattle.gptp_topology.specs.Times.{late_at, times_of}
use Rattle.gptp_topology.specs.Trouble.{is_long, loss_in_use}
use Rattle.gptp_topology.specs.declared.course.Standing.{Standing}
use Rattle.gptp_topology.proofs.CourseLemmas.{course_is, stood}
use Rattle.gptp_topology.proofs.RestLemmas.{all_in, in_all, in_time, not_late, rests_from, rests_to}
use Rattle.gptp_topology.proofs.StandingLemmas.{standing_is}
use Rattle.gptp_lint.specs.Findings.{IsAlwaysCalm}
use Rattle.gptp_lint.specs.Trouble.{longs_of, lossies_of}
use Rattle.gptp_lint.proofs.TroubleLemmas.{no_long, no_lossy, none_at_all, none_of, not_long, not_lossy}

-- ---- all links at all times

none_told : {X : Type 0} (o : Option X) → option_to_list o ≡ [] → o ≡ None
none_told None none = refl
none_told (Some x) none = absurd cc

module _ (d : DocumentState) (network : IsNetwork d.network) (order : AreInOrder d.events) where
  abbrev params : Params
  params = d.network.params

  all_rest_where_quiet : longs_of d d.network.links ≡ [] → lossies_of d d.network.links ≡ [] → (at : ℕ)
      → In at (times_of d.events) → AllRest params d.network.systems d.network.links (events_by at d.events)
  all_rest_where_quiet long lossy at time = in_all _ d.network.links (λ w member.
      let f = stood d.events (first w) in
      let there : In (f at) (course_of d.events w) =
      subst (In (f at)) (sym (course_is d.events w order)) (In-map f at (times_of d.events) time) in
      let stands = standing_is d.network network (events_by at d.events) w member in
      rests_from d.network (events_by at d.events) w
      (sym (ap (is_long params) stands)
      ∙ not_long params (course_of d.events w) (none_told _ (none_of _ d.network.links long w member)) (f at) there)
      (sym (ap loss_in_use stands)
      ∙ not_lossy w.bounds.link (course_of d.events w) (none_of _ d.network.links lossy w member) (f at) there))

  -- how a link of the network stands at a time that is calm
  stands_quiet : IsAlwaysCalm d → (w : LinkSpec) → In w d.network.links → (s : Standing) → In s (course_of d.events w)
      → (is_long params s ≡ false) × (loss_in_use s ≡ 0)
  stands_quiet calm w member s stands =
      let f = stood d.events (first w) in
      let (at, time, is) = from_map f s (times_of d.events) (subst (In s) (course_is d.events w order) stands) in
      let stands = standing_is d.network network (events_by at d.events) w member in
      let (long, lossy) = rests_to d.network (events_by at d.events) w
      (all_in (Rests params d.network.systems (events_by at d.events)) w d.network.links (calm at time).links member) in
      subst (λ r. (is_long params r ≡ false) × (loss_in_use r ≡ 0)) is
      (ap (is_long params) stands ∙ long, ap loss_in_use stands ∙ lossy)

  no_long_where_calm : IsAlwaysCalm d → longs_of d d.network.links ≡ []
  no_long_where_calm calm = none_at_all _ d.network.links (λ w member.
      ap option_to_list (no_long params (course_of d.events w) (λ s stands. (stands_quiet calm w member s stands).0)))

  no_lossy_where_calm : IsAlwaysCalm d → lossies_of d d.network.links ≡ []
  no_lossy_where_calm calm = none_at_all _ d.network.links (λ w member.
      no_lossy w.bounds.link (course_of d.events w) (λ s stands. (stands_quiet calm w member s stands).1))

  pub quiet :
      ((longs_of d d.network.links ≡ []) × (lossies_of d d.network.links ≡ [])
      × ((at : ℕ) → In at (times_of d.events) → late_at d at ≡ None))
      ↔ IsAlwaysCalm d
  quiet = (
    λ none at time. record {
      links = all_rest_where_quiet none.0 none.1 at time;
      lapses = in_time params (sync_paths d.network (events_by at d.events)) (none.2 at time);
    },
    λ calm. (
      no_long_where_calm calm,
      no_lossy_where_calm calm,
      λ at time. not_late params (sync_paths d.network (events_by at d.events)) (calm at time).lapses,
    ),
  )
