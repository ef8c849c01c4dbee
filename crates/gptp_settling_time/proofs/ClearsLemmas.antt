-- A world in which a far end of its links is lost: what is held is sound in what is left, and what is in flight is so
-- but for what is due soon.
use Rattle.std.proofs.Common.{List, Some, ap, arith, inl, inr, slice_get, subst, suc, sym, ℕ, ◌+◌, ◌∙◌, ◌≡◌, ◌≢◌, ◌≤◌, ◌⊎◌}
use Rattle.gptp_lists.specs.Members.{In}
use Rattle.gptp_graph.specs.Best.{IsBest}
use Rattle.gptp_graph.specs.Distance.{IsDistance}
use Rattle.gptp_graph.specs.Snapshot.{Adjacent, IsWellFormed, Joins, PortIdentity, Snapshot, System, port_of}
use Rattle.gptp_links.specs.declared.link.Direction.{Direction}
use Rattle.gptp_links.specs.declared.link.Direction.TheVariants.{FromA, FromB}
use Rattle.gptp_links.specs.Fate.{Draw}
use Rattle.gptp_setup.specs.SettlingParams.{SettlingParams}
use Rattle.gptp_scenario.specs.Calm.{NothingLapses}
use Rattle.gptp_system.specs.Input.{PortDown}
use Rattle.gptp_model.specs.Changing.{TellsEnds, taken_down}
use Rattle.gptp_model.specs.World.{Channel, WorldState, receiver, sender}
use Rattle.gptp_bmca_machine.specs.SoundEverywhere.{IsSoundEverywhere}
use Rattle.gptp_bmca_machine.specs.SoundLaws.{AllAreNear}
use Rattle.gptp_invariants.specs.ChoiceCalm.{HaveQuietLinks}
use Rattle.gptp_invariants.specs.ChoiceSettlesAsMachine.{IsWorld}
use Rattle.gptp_invariants.specs.ChoiceView.{says_announce, view}
use Rattle.gptp_invariants.specs.WorldNews.{AreReadyBy}
use Rattle.gptp_invariants.specs.WorldSound.{IsSoundWorld}
use Rattle.gptp_invariants.specs.WorldStanding.{snapshot_of}
use Rattle.gptp_invariants.proofs.WorldStandsLemmas.{stands_well}
use Rattle.gptp_settling_time.specs.Losses.{IsCutOff, IsFarEnd}
use Rattle.gptp_settling_time.proofs.BecomesSoundLemmas.{GoesBy, becoming, nearer_echo}
use Rattle.gptp_settling_time.proofs.ClearedLemmas.{IsCleared, left_is_now}
use Rattle.gptp_settling_time.proofs.FarEndLemmas.{HasAllBut}
use Rattle.gptp_settling_time.proofs.FitsLemmas.{IsLeftUnmoved, best_before, joined_stays}
use Rattle.gptp_settling_time.proofs.LeftClaimedLemmas.{HaveAskedBy, IsLeftAlways, left_network}
use Rattle.gptp_settling_time.proofs.LostEndLemmas.{but_old_reduced, lost_end_sound}
use Rattle.gptp_settling_time.proofs.LoweredLemmas.{still_joins}
use Rattle.gptp_settling_time.proofs.ReducedLemmas.{IsReduced}
use Rattle.gptp_settling_time.proofs.NamesItselfLemmas.{AllNameItself}
use Rattle.gptp_settling_time.proofs.SettledSeenLemmas.{IsSettledSeen}
use Rattle.gptp_settling_time.proofs.SoundButOldLemmas.{IsSoundButOld}
use Rattle.gptp_settling_time.proofs.TakenDownLemmas.{told_keeps}
use Rattle.gptp_settling_time.proofs.WidenedLemmas.{ready_first}
use Rattle.gptp_settling_time.proofs.DueLemmas.{AreDueBy}

-- ports that are ready by a time have asked by then
pub ready_asked : (p : SettlingParams) (start : ℕ) (w : WorldState) → IsWorld p w → start ≤ w.time
    → AreReadyBy p start w → HaveAskedBy start w
ready_asked p start w is past ready at stands =
    let (first, by) = ready_first p start w is past at (ready at stands) in
    (first, start, omega arith, record { is = by; late = past })

-- ---- a far end is lost

module _ (p : SettlingParams) (since silent old : ℕ) (w w' : WorldState) (is' : IsWorld p w')
    (seen : IsSettledSeen p w)
    (near : AllAreNear (snapshot_of w)) (sound : IsSoundWorld w) (less : IsReduced (view w) (view w'))
    (left : IsLeftAlways p (snapshot_of w) silent w') (asked : HaveAskedBy since w')
    (x : ℕ) (far : IsFarEnd (snapshot_of w) x)
    (has : HasAllBut (snapshot_of w) (snapshot_of w') x)
    (gone : (a b : PortIdentity) → Joins (snapshot_of w') a b → a.clock ≢ x)
    (due : HaveQuietLinks p.params w' → NothingLapses p.params → AreDueBy old w') where
  pub clears : IsCleared p (snapshot_of w) since silent 0 old w'
  clears = record {
    left = left;
    asked = asked;
    sound = λ quiet off.
        inl (lost_end_sound says_announce seen.n seen.net (view w) seen.calm seen.invariant seen.late
        (subst AllAreNear same near) (subst (λ h. IsSoundEverywhere says_announce h (view w)) same sound)
        (snapshot_of w') (stands_well w' is'.sound is'.between is'.encodable)
        (subst (λ h. IsLeftUnmoved h (snapshot_of w')) same left.left) x (subst (λ h. IsFarEnd h x) same far)
        (subst (λ h. HasAllBut h (snapshot_of w') x) same has) gone (view w') less (left.seen quiet off).unlinked old
        (due quiet off));
  }
    where
      same : snapshot_of w ≡ seen.n.graph
      same = sym seen.graph

-- what is cleared stays so where ports are disabled and links go down, and what is in use stays
pub cleared_reduced : (p : SettlingParams) (g : Snapshot) (since silent right old : ℕ) (w w' : WorldState)
    → snapshot_of w' ≡ snapshot_of w → IsReduced (view w) (view w') → HaveQuietLinks p.params w → right ≤ w.time
    → IsLeftAlways p g silent w' → HaveAskedBy since w' → IsCleared p g since silent right old w
    → IsCleared p g since silent right old w'
cleared_reduced p g since silent right old w w' same less quiet late left asked is = record {
  left = left;
  asked = asked;
  sound = λ quiet' off. elim (is.sound quiet off) [
    | inl sound ↦
        inl (but_old_reduced says_announce (snapshot_of w') old (view w) (view w') less
        (subst (λ h. IsSoundButOld says_announce h old (view w)) (sym same) sound))
    | inr (gone, becomes) ↦ let early = becomes.early in absurd (omega (arith, late, early))
  ];
}

-- ---- another link goes down

-- links begin to tell right traces, where what names the best in no steps names it alone
pub rights : (p : SettlingParams) (g : Snapshot) (since silent gone : ℕ) (w : WorldState) → IsLeftAlways p g silent w
    → HaveAskedBy since w → GoesBy p gone w → (before : Snapshot)
    → ((v u : ℕ) (best : System) → Adjacent (snapshot_of w) v u → IsBest (snapshot_of w) v best
    → IsDistance (snapshot_of w) v 0 → IsBest before v best)
    → (HaveQuietLinks p.params w → NothingLapses p.params
    → AllNameItself says_announce (left_network p silent w) before (view w))
    → IsCleared p g since silent (suc (w.time + nearer_echo p w)) (w.time + nearer_echo p w + gone) w
rights p g since silent gone w left asked goes before was itself = record {
  left = left;
  asked = asked;
  sound = λ quiet off.
      becoming p g silent gone w (left_is_now p g silent w left) goes before was quiet off (itself quiet off);
}

-- who is the best after a loss by which no system is moved was so before
pub was_best : (g g' : Snapshot) → IsWellFormed g → IsWellFormed g' → IsLeftUnmoved g g' → (v u : ℕ) (best : System)
    → Adjacent g' v u → IsBest g' v best → IsDistance g' v 0 → IsBest g v best
was_best g g' well well' left v u best joined is here =
    best_before g g' well well' left v best
    (joined_stays g g' well well' left (port_of v joined.0) (port_of u joined.1) joined.2) is

-- ---- a link goes down, and cuts a far end off

module _ (p : SettlingParams) (w : WorldState) (is : IsWorld p w) (place : ℕ) (channel : Channel)
    (here : slice_get w.net.channels place ≡ Some channel) (draws : List Draw) (w' : WorldState) (is' : IsWorld p w')
    (k : TellsEnds PortDown channel (record w { net = taken_down place channel w.net; last_change = w.time }) draws w')
    (seen : IsSettledSeen p w) (near : AllAreNear (snapshot_of w)) (x : ℕ)
    (at_end : (channel.a.clock ≡ x) ⊎ (channel.b.clock ≡ x)) where
  -- one of the ends of the link is the system
  end_is : (direction : Direction) → ((sender direction channel).clock ≡ x) ⊎ ((receiver direction channel).clock ≡ x)
  end_is FromA = at_end
  end_is FromB = elim at_end [ inl a ↦ inr a | inr b ↦ inl b ]

  pub all_but_cut : HasAllBut (snapshot_of w) (snapshot_of w') x
  all_but_cut = record {
    systems = λ s member apart. subst (In s) (sym (told_keeps channel taken_world draws w' k).systems) member;
    links = λ a b joins from to. elim (still_joins p w is place channel here draws w' is' k seen near a b joins) [
      | inl there ↦ there
      | inr (direction, a_is, b_is) ↦ elim (end_is direction) [
        | inl one ↦ absurd (from (ap (λ (q : PortIdentity). q.clock) a_is ∙ one))
        | inr one ↦ absurd (to (ap (λ (q : PortIdentity). q.clock) b_is ∙ one))
      ]
    ];
  }
    where
      taken_world : WorldState
      taken_world = record w { net = taken_down place channel w.net; last_change = w.time }

-- no link is at a system that is cut off
pub cut_joins_none : (g : Snapshot) (x : ℕ) → IsCutOff g x → (a b : PortIdentity) → Joins g a b → a.clock ≢ x
cut_joins_none g x cut a b joins same =
    cut b.clock (a.port, b.port, subst (λ c. Joins g (record { clock = c; port = a.port }) b) same joins)
