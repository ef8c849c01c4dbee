-- What leaves the same systems alive and the same links in use leaves a calm network calm, where nothing lapses for
-- want of Sync.
use Rattle.std.proofs.Common.{◌≡◌, ℕ, true, List, [], ◌∷◌, ◌++◌, sym, subst, ◌∙◌, inl, inr}
use Rattle.std.specs.Prelude.{◌&&◌, ◌==◌, get_or}
use Rattle.std.proofs.lemmas.Bool.{and_from, eq-eqb, eqb-true}
use Rattle.gptp_graph.proofs.Sure.{and_true}
use Rattle.std.proofs.lemmas.List.Folds.{list_any_at}
use Rattle.std.proofs.lemmas.Option.{get_or_from_slice_get, slice_get-get_or, slice_get_within}
use Rattle.gptp_lists.proofs.SystemSpecLemmas.{In-slice_get, slice_get-In}
use Rattle.gptp_roles.specs.Selection.{clock_of}
use Rattle.gptp_scenario.specs.Calm.{IsCalm, IsLive, IsUsed, NothingLapses}
use Rattle.gptp_scenario.specs.Change.{link_after, system_after}
use Rattle.gptp_scenario.specs.InUse.{is_used, lives}
use Rattle.gptp_scenario.specs.Network.{IsNetwork, NetworkState}
use Rattle.gptp_scenario.specs.declared.change.Timed.{Timed}
use Rattle.gptp_scenario.specs.declared.network.LinkSpec.{LinkSpec}
use Rattle.gptp_scenario.specs.declared.network.SystemSpec.{SystemSpec}
use Rattle.gptp_settling_time.specs.HowSoon.{IsIdleEvent}
use Rattle.gptp_settling_time.proofs.SamePathsLemmas.{StandAlike, any_in, idle_alike, turned_alike}

-- ---- what is in use, and its test

module _ (systems : List SystemSpec) (events : List Timed) where
  lives_so : (clock : ℕ) → IsLive systems events clock → lives systems events clock ≡ true
  lives_so clock x =
      list_any_at (λ m. (clock_of m.identity == clock) && (system_after events m).live) systems x.place x.system
      (slice_get_within systems x.place x.system x.there)
      (subst (λ m. ((clock_of m.identity == clock) && (system_after events m).live) ≡ true)
      (sym (get_or_from_slice_get systems x.place x.system x.system x.there))
      (and_from _ _ (eq-eqb (clock_of x.system.identity) clock x.clock) x.live))

  so_lives : (clock : ℕ) → lives systems events clock ≡ true → IsLive systems events clock
  so_lives clock is =
      let (m, member, both) =
      any_in (λ m. (clock_of m.identity == clock) && (system_after events m).live) systems is in
      let (place, there) = slice_get-In m systems member in
      let (same, live) = and_true (clock_of m.identity == clock) (system_after events m).live both in
      record {
        place = place;
        system = m;
        there = there;
        clock = eqb-true (clock_of m.identity) clock same;
        live = live;
      }

  used_so : (w : LinkSpec) → IsUsed systems events w → is_used systems events w ≡ true
  used_so w used =
      and_from (w.up && lives systems events w.a.clock) (lives systems events w.b.clock)
      (and_from w.up (lives systems events w.a.clock) used.up (lives_so w.a.clock used.a)) (lives_so w.b.clock used.b)

  so_used : (w : LinkSpec) → is_used systems events w ≡ true → IsUsed systems events w
  so_used w is =
      let (first, b) = and_true (w.up && lives systems events w.a.clock) (lives systems events w.b.clock) is in
      let (up, a) = and_true w.up (lives systems events w.a.clock) first in
      record { up = up; a = so_lives w.a.clock a; b = so_lives w.b.clock b }

-- ---- it stays calm

pub alike_calm : (n : NetworkState) (made later : List Timed) → NothingLapses n.params → StandAlike n made later
    → IsCalm n made → IsCalm n later
alike_calm n made later off same calm = record {
  links = λ i other early used.
      let v : LinkSpec = get_or n.links i other in
      let member = In-slice_get v n.links i (slice_get-get_or n.links i other early) in
      let bounds = same.bounds v member in
      let is = calm.links i other early
      (so_used n.systems made (link_after made v)
      (sym (same.used v member) ∙ used_so n.systems later (link_after later v) used)) in
      record { lossless = rw bounds is.lossless; good = rw bounds is.good };
  lapses = inl off;
}

-- so it is after what makes nothing of what stands
pub idle_calm : (n : NetworkState) → IsNetwork n → NothingLapses n.params → (made : List Timed) (event : Timed)
    → IsIdleEvent n made event → IsCalm n made → IsCalm n (made ++ event ∷ [])
idle_calm n network off made event (inl nothing) =
    alike_calm n made (made ++ event ∷ []) off (idle_alike n network made event nothing)
idle_calm n network off made event (inr turns) =
    alike_calm n made (made ++ event ∷ []) off (turned_alike n made event turns)
