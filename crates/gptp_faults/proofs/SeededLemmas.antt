-- How soon a document stands doesn't depend on the seed of its noise.
use Rattle.std.proofs.Common.{◌≡◌, ℕ, List, [], ◌∷◌, ◌++◌, Option, Some, None, refl, ap, ◌∙◌}
use Rattle.gptp_accuracy.specs.Settlings.{settling_among, settling_of}
use Rattle.gptp_how_soon.specs.Times.{events_at, events_before, settling_time, settling_times_from, time_at, told_at, told_of, view_at}
use Rattle.gptp_how_soon.specs.declared.bounds.SettlingTime.{SettlingTime}
use Rattle.gptp_network.specs.Document.{DocumentState, seeded_document}
use Rattle.gptp_scenario.specs.Network.{NetworkState, largest_of, seeded}
use Rattle.gptp_scenario.specs.declared.change.Timed.{Timed}
use Rattle.gptp_topology.specs.Times.{times_of}

told_same : (n : NetworkState) (seed : ℕ) (made now : List Timed)
    → told_of (seeded seed n) made now ≡ told_of n made now
told_same n seed made [] = refl
told_same n seed made (t ∷ now) = ap (λ told. told_at n made t.act ∷ told) (told_same n seed (made ++ t ∷ []) now)

module _ (d : DocumentState) (seed : ℕ) where
  time_same : (before : Option SettlingTime) (at : ℕ) → time_at (seeded_document seed d) before at ≡ time_at d before at
  unfolding largest_of
  time_same before at =
      let n = d.network in
      let made = events_before before d.events in
      let now = events_at at d.events in
      ap (λ told. settling_time n (record (view_at n made now before at) { told = told })) (told_same n seed made now)

  times_same : (before : Option SettlingTime) (ats : List ℕ)
      → settling_times_from (seeded_document seed d) before ats ≡ settling_times_from d before ats
  times_same before [] = refl
  times_same before (at ∷ ats) =
      ap (λ t. t ∷ settling_times_from (seeded_document seed d) (Some t) ats) (time_same before at)
      ∙ ap (λ ts. time_at d before at ∷ ts) (times_same (Some (time_at d before at)) ats)

  pub settling_same : (at : ℕ) → settling_of (seeded_document seed d) at ≡ settling_of d at
  settling_same at = ap (λ times. settling_among times at) (times_same None (times_of d.events))
