-- What the second of two systems hears and holds comes from the first.
use Rattle.std.proofs.Common.{◌≡◌, ◌≤◌, ◌+◌, ℕ, List, [], ◌∷◌, Option, None, Some, length, refl, sym, ap, subst, ◌∙◌, inl, inr, arith}
use Rattle.std.specs.Prelude.{IfSome, reverse}
use Rattle.std.proofs.lemmas.List.{reverse-reverse}
use Rattle.gptp_lists.specs.Members.{In}
use Rattle.gptp_lists.proofs.ReverseLemmas.{In-reverse}
use Rattle.gptp_graph.specs.PathBound.{BoundsPaths}
use Rattle.gptp_graph.specs.Path.{IsPath}
use Rattle.gptp_graph.specs.Snapshot.{Adjacent, Joins, Link, PortIdentity, port_of}
use Rattle.gptp_messages.specs.declared.announce.AnnounceView.{AnnounceView}
use Rattle.gptp_receipt.specs.declared.held.Reception.{Reception}
use Rattle.gptp_system.specs.State.{SystemState, clock}
use Rattle.gptp_scenario.specs.Network.{pace_of}
use Rattle.gptp_model.specs.declared.done.Done.{Done}
use Rattle.gptp_model.specs.declared.done.Done.TheVariants.{Heard, Quiet}
use Rattle.gptp_model.specs.Prompt.{HavePace}
use Rattle.gptp_model.specs.Sound.{IsSound}
use Rattle.gptp_model.specs.Views.{ShowsLive}
use Rattle.gptp_model.specs.World.{WorldState, port_id}
use Rattle.gptp_invariants.specs.WorldSettlingInvariant.{SettlingInvariant}
use Rattle.gptp_invariants.specs.WorldStanding.{snapshot_of}
use Rattle.gptp_invariants.specs.ChoiceTraces.{AreHeldCleanInTime, AreHeldWholeInTime, IsCalmWorld, IsFrameClean, IsHeardClean, IsHeldClean, IsHeldWhole, WasSentAfter, turns_span}
use Rattle.gptp_invariants.specs.ChoiceView.{said}
use Rattle.gptp_theorem.proofs.CalmLemmas.{quiet_stands, set_stands}
use Rattle.gptp_theorem.proofs.SyncPathLemmas.{paths_stand}
use Rattle.gptp_network_tests.specs.Pair.{HearsAnnounce, HoldsFirstAlone, HoldsFromFirst, IsPairAt, IsPairSince, pair_network, pair_pace, pair_snapshot, params}
use Rattle.gptp_network_tests.proofs.PairLemmas.{bounded, calm as is_calm, pace_is, paths_are, snapshot_is}

pub for_some : {X : Type 0} (P Q : X → Type 0) (found : Option X) → ((x : X) → P x → Q x) → IfSome found P
    → IfSome found Q
for_some P Q None so is = tt
for_some P Q (Some x) so is = so x is

pub for_some_both : {X : Type 0} (P Q R : X → Type 0) (found : Option X) → ((x : X) → P x → Q x → R x)
    → IfSome found P → IfSome found Q → IfSome found R
for_some_both P Q R None so is also = tt
for_some_both P Q R (Some x) so is also = so x is also

-- ---- where things come from

-- the port of the first alone is joined to a port of the second
joined_to_second : (p : PortIdentity) (n : ℕ) → Joins pair_snapshot p (port_of 2 n) → p ≡ port_of 1 1
joined_to_second p n (inl (inl same)) = ap (λ (l : Link). l.a) same
joined_to_second p n (inl (inr none)) = absurd none
joined_to_second p n (inr (inl same)) =
    absurd (let number : 2 ≡ 1 = ap (λ (l : Link). l.a.clock) same in omega (arith, number))
joined_to_second p n (inr (inr none)) = absurd none

-- the second alone is joined to the first
only_second : (other : ℕ) → Adjacent pair_snapshot 1 other → other ≡ 2
only_second other (m, n, inl (inl same)) = ap (λ (l : Link). l.b.clock) same
only_second other (m, n, inl (inr none)) = absurd none
only_second other (m, n, inr (inl same)) =
    absurd (let number : 1 ≡ 2 = ap (λ (l : Link). l.b.clock) same in omega (arith, number))
only_second other (m, n, inr (inr none)) = absurd none

-- ---- what the second holds

held_alone : (r : Reception) → IsHeldWhole pair_snapshot 2 1 r → r.path ≡ 1 ∷ []
held_alone r is = by is.whole.others refl
  where
    from : is.from.clock ≡ 1
    from = ap (λ (p : PortIdentity). p.clock) (joined_to_second is.from 1 is.joins)

    way : IsPath pair_snapshot 1 is.whole.first.clock is.whole.others
    way = subst (λ v. IsPath pair_snapshot v is.whole.first.clock is.whole.others) from is.whole.way

    backwards : (others : List ℕ) → is.whole.others ≡ others → reverse r.path ≡ 1 ∷ others
    backwards others are = is.whole.is ∙ ap (λ v. v ∷ is.whole.others) from ∙ ap (λ vs. 1 ∷ vs) are

    by : (others : List ℕ) → is.whole.others ≡ others → r.path ≡ 1 ∷ []
    by [] are = sym (reverse-reverse r.path) ∙ ap reverse (backwards [] are)
    by (other ∷ rest) are =
        let on = subst (λ vs. IsPath pair_snapshot 1 is.whole.first.clock vs) are way in
        let second : other ≡ 2 = only_second other on.route.0 in
        let among : In 2 (reverse r.path) =
        subst (In 2) (sym (backwards (other ∷ rest) are)) (inr (inl (sym second))) in
        absurd (is.no_loop (subst (In 2) (reverse-reverse r.path) (In-reverse 2 (reverse r.path) among)))

pub second_holds : (w : WorldState) (s : SystemState) → IsPairAt 22000000000 w → ShowsLive 2 w s
    → AreHeldWholeInTime w s → HoldsFirstAlone s
second_holds w s at shows whole r is =
    let named : clock s ≡ 2 = ap clock shows.state ∙ shows.is.named in
    held_alone r
    (subst (λ v. IsHeldWhole pair_snapshot v 1 r) named
    (subst (λ g. IsHeldWhole g (clock s) 1 r) at.snapshot
    (whole 2 1 r (subst (λ g. BoundsPaths g 2) (sym at.snapshot) bounded) (at.calm (turns_span 2) (omega arith)) is)))

-- ---- what the second hears

module _ (w : WorldState) (k : IsPairSince 15000000000 w) (sound : IsSound w) (claimed : SettlingInvariant w) where
  snapshot : snapshot_of w ≡ pair_snapshot
  snapshot = snapshot_is params w k.stands sound

  have_pace : HavePace (pace_of pair_network) w
  have_pace place station here = (set_stands pair_network [] w k.stands claimed place station here).starts

  abbrev calm : IsCalmWorld w
  calm = record {
    pace = pair_pace;
    set = subst (λ p. HavePace p w) (pace_is params) have_pace;
    quiet = quiet_stands pair_network [] w k.network k.stands sound is_calm;
    late = rw k.stands.last (omega arith);
  }

  sent : (time : ℕ) → 15000000000 ≤ time → WasSentAfter 0 time w calm
  sent time late =
      subst (λ paths. w.last_change + turns_span 0 pair_pace paths (length (snapshot_of w).systems) + 1000000000 ≤ time)
      (sym (paths_are params) ∙ paths_stand pair_network [] w k.network k.stands sound)
      (rw k.stands.last (omega (arith, late)))

  hears : (m : AnnounceView) (time : ℕ) (done : Done) → w.time ≤ time → HearsAnnounce 2 m done
      → IsHeardClean w time done → m.head.source ≡ port_id 1 1
  hears m time Quiet passed heard clean = absurd heard
  hears m time (Heard number port answer frame) passed (named, reads) clean =
      let late : 15000000000 ≤ w.time = k.late in
      let is = clean calm 0 m reads (sent time (omega (arith, late, passed))) in
      let there : IsFrameClean pair_snapshot 1 (port_of 2 port) (said m) =
      subst (λ v. IsFrameClean pair_snapshot 1 (port_of v port) (said m)) named
      (subst (λ g. IsFrameClean g 1 (port_of number port) (said m)) snapshot is) in
      let from = joined_to_second there.from port (there.joins (inr (inl refl))) in
      ap (λ (p : PortIdentity). port_id p.clock p.port) (there.good.source ∙ from)

  pub second_holds_from : (s : SystemState) → ShowsLive 2 w s → AreHeldCleanInTime w s → HoldsFromFirst s
  second_holds_from s shows clean r is late =
      let named : clock s ≡ 2 = ap clock shows.state ∙ shows.is.named in
      let held : IsHeldClean pair_snapshot 1 2 1 r =
      subst (λ v. IsHeldClean pair_snapshot 1 v 1 r) named
      (subst (λ g. IsHeldClean g 1 (clock s) 1 r) snapshot (clean calm 0 1 r is (sent r.at late))) in
      ap (λ (p : PortIdentity). port_id p.clock p.port)
      (held.good.source ∙ joined_to_second held.from 1 held.joins)

pub second_hears : (w : WorldState) (time : ℕ) (done : Done) (m : AnnounceView) → IsPairSince 15000000000 w → IsSound w
    → SettlingInvariant w → w.time ≤ time → IsHeardClean w time done → HearsAnnounce 2 m done
    → m.head.source ≡ port_id 1 1
second_hears w time done m k sound claimed passed clean heard = hears w k sound claimed m time done passed heard clean

-- a world of the pair at a time has been one since an earlier time
pub pair_since : (time earlier : ℕ) (w : WorldState) → IsPairAt time w → earlier ≤ time → IsPairSince earlier w
pair_since time earlier w at before =
    let late = at.since.late in
    record { network = at.since.network; stands = at.since.stands; late = omega (arith, late, before) }
