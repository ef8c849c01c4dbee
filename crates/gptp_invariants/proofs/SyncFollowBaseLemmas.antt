-- By what base a root tells time, and that it goes on to do so.
use Rattle.std.proofs.Common.{◌≡◌, ◌≢◌, ◌⊎◌, ◌==◌, ℕ, suc, ℤ, Bool, true, false, if◌then◌else◌, List, [], ◌∷◌, Option, Some, None, slice_get, refl, sym, ap, subst, ◌∙◌, inl, inr, eqb-true, arith}
use Rattle.std.specs.Prelude.{slice_set, not, ◌&&◌, ◌||◌, ◌+◌}
use Rattle.std.specs.List.{list_any}
use Rattle.std.specs.Option.{option_and_then}
use Rattle.std.proofs.lemmas.Option.{none-some, same_Some}
use Rattle.gptp_graph.specs.Best.{IsBest}
use Rattle.gptp_graph.specs.Distance.{IsDistance}
use Rattle.gptp_graph.specs.SettledChoice.{IsBestIdentity}
use Rattle.gptp_graph.specs.Snapshot.{Snapshot, System}
use Rattle.gptp_graph.proofs.BestLemmas.{IsBest-neighbour, IsBest-reached, IsBest-unique}
use Rattle.gptp_graph.proofs.DistanceLemmas.{IsDistance-best, best_at_zero}
use Rattle.gptp_graph.proofs.ParentLemmas.{no_parent_at_zero}
use Rattle.gptp_lists.proofs.PlaceLemmas.{get-set_other, get-set_same, same_place}
use Rattle.gptp_links.specs.Fate.{Draw}
use Rattle.gptp_setup.specs.SettlingParams.{SettlingParams}
use Rattle.gptp_roles.specs.Selection.{clock_of}
use Rattle.gptp_correction.specs.declared.correction.Relayed.{Relayed}
use Rattle.gptp_receipt.specs.declared.held.Held.{Held}
use Rattle.gptp_system.specs.declared.answer.Answer.{Answer}
use Rattle.gptp_system.specs.declared.port.Port.{Port}
use Rattle.gptp_system.specs.declared.reading.TimeRead.TheVariants as reads
use Rattle.gptp_system.specs.declared.sending.Sending.{Sending}
use Rattle.gptp_system.specs.Input.{Input, Steps}
use Rattle.gptp_system.specs.State.{SystemState, clock, is_mine}
use Rattle.gptp_system.specs.Syncing.{syncs}
use Rattle.gptp_system.specs.Takeover.{reads_after, reads_own}
use Rattle.gptp_system.proofs.TimeKeptLemmas.{goes_on}
use Rattle.gptp_model.specs.declared.station.Station.{Station}
use Rattle.gptp_model.specs.Sound.{HaveOwnClocks}
use Rattle.gptp_model.specs.Act.{Calls, in_state}
use Rattle.gptp_model.specs.World.{WorldState, sender}
use Rattle.gptp_bmca_machine.specs.Settled.{IsSlaveOf}
use Rattle.gptp_error_laws.specs.TimeError.{Way}
use Rattle.gptp_sync_machine.specs.Follower.{Follower, FollowerSetting}
use Rattle.gptp_sync_machine.specs.Invariant.{FollowerInvariant}
use Rattle.gptp_sync_machine.specs.Right.{FollowUpIsRight}
use Rattle.gptp_sync_machine.proofs.FollowerLemmas.{base_comes}
use Rattle.gptp_invariants.specs.SyncFollowView.{tells}
use Rattle.gptp_invariants.specs.SyncFollowers.{IsFollower, base_at, follower_clock, follower_state, root_base, state_above, told_base}
use Rattle.gptp_invariants.specs.ChoiceCalm.{clock_place}
use Rattle.gptp_invariants.specs.DelayLinkView.{LinkPlace}
use Rattle.gptp_invariants.specs.SyncTimed.{IsSettledFrom}
use Rattle.gptp_invariants.specs.SyncTimedLaws.{IsRootOf}
use Rattle.gptp_invariants.specs.WorldStanding.{snapshot_of}
use Rattle.gptp_invariants.proofs.ChoiceCalmKeptLemmas.{KeepsNetwork}
use Rattle.gptp_invariants.proofs.ChoiceFoundLemmas.{place_is}
use Rattle.gptp_invariants.proofs.SyncFollowTreeLemmas.{own_choice, well_formed}
use Rattle.gptp_invariants.proofs.WorldSystemLemmas.{live_from}

-- ---- look-ups

-- the base of the system at a place, by its clock
pub base_there : (w : WorldState) → HaveOwnClocks w → (place : ℕ) (station : Station)
    → slice_get w.stations place ≡ Some station → base_at w.stations (clock station.system) ≡ told_base station.system
base_there w own place station here =
    ap (option_and_then (λ (x : Station). told_base x.system))
    (ap (slice_get w.stations) (sym (place_is w own place station here)) ∙ here)

-- who is found by a clock has it
found_first : (first : Station) (stations : List Station) (number : ℕ) (station : Station)
    → (slice_get stations (clock_place stations number) ≡ Some station → clock station.system ≡ number)
    → (b : Bool) → (clock first.system == number) ≡ b
    → slice_get (first ∷ stations) (if b then 0 else suc (clock_place stations number)) ≡ Some station
    → clock station.system ≡ number
found_first first stations number station later true is there =
    ap (λ (x : Station). clock x.system) (sym (same_Some first station there)) ∙ eqb-true (clock first.system) number is
found_first first stations number station later false is there = later there

found_named : (stations : List Station) (number : ℕ) (station : Station)
    → slice_get stations (clock_place stations number) ≡ Some station → clock station.system ≡ number
found_named [] number station there = absurd (none-some station there)
found_named (first ∷ stations) number station there =
    found_first first stations number station (found_named stations number station)
    (clock first.system == number) refl there

-- ---- from one world to the next

-- it tells by the same base as before, or told no time before
abbrev pub GoesOn : Option ℤ → Option ℤ → Type 0
GoesOn before after = (after ≡ before) ⊎ (before ≡ None)

-- a system without a Slave port, by each step
told_on : (input : Input) (now : ℕ) (s s' : SystemState) (sends : List Sending) (answer : Answer) → s.slave ≡ None
    → Steps input now s s' sends answer → GoesOn (told_base s) (told_base s')
told_on input now s s' sends answer alone steps = by (reads_own s.reads) refl
  where
    by : (own : Bool) → reads_own s.reads ≡ own → GoesOn (told_base s) (told_base s')
    by true own =
        let k = goes_on input now s s' sends answer alone own steps in
        inl (ap (λ b. if b then Some s'.base else None) k.reads ∙ ap Some k.base
        ∙ sym (ap (λ b. if b then Some s.base else None) own))
    by false never = inr (ap (λ b. if b then Some s.base else None) never)

-- one that is called has no Slave port, where it is the best of its component
best_alone : (p : SettlingParams) (settled longest : ℕ) (w : WorldState) → IsSettledFrom p settled longest w
    → (number place : ℕ) (best : System) (station : Station) → IsBest (snapshot_of w) number best
    → slice_get w.stations place ≡ Some station → station.live ≡ true → clock station.system ≡ best.clock
    → station.system.slave ≡ None
best_alone p settled longest w is number place best station is_best here live named =
    none station.system.slave (is.choice place station here live (0, there, omega arith)).slave
  where
    own : IsBest (snapshot_of w) best.clock best
    own =
        IsBest-reached (snapshot_of w) number best.clock best (well_formed p settled longest w is) is_best.reached
        is_best

    there : IsDistance (snapshot_of w) (clock station.system) 0
    there = subst (λ v. IsDistance (snapshot_of w) v 0) (sym named) (IsDistance-best (snapshot_of w) best own)

    none : (slave : Option ℕ) → IsSlaveOf (snapshot_of w) (clock station.system) slave → slave ≡ None
    none None follows = refl
    none (Some n) (l, follows, at) =
        absurd (no_parent_at_zero (snapshot_of w) (clock station.system) l (well_formed p settled longest w is) there
        follows)

-- one system changes
base_set : (stations : List Station) (place number : ℕ) (old new : Station) → slice_get stations place ≡ Some old
    → clock_place (slice_set stations place new) number ≡ clock_place stations number
    → (clock old.system ≡ number → GoesOn (told_base old.system) (told_base new.system))
    → GoesOn (base_at stations number) (base_at (slice_set stations place new) number)
base_set stations place number old new here same on = by (same_place (clock_place stations number) place)
  where
    now_is : base_at (slice_set stations place new) number
        ≡ option_and_then (λ (x : Station). told_base x.system)
        (slice_get (slice_set stations place new) (clock_place stations number))
    now_is =
        ap (λ i. option_and_then (λ (x : Station). told_base x.system) (slice_get (slice_set stations place new) i))
        same

    by : (clock_place stations number ≡ place) ⊎ (clock_place stations number ≢ place)
        → GoesOn (base_at stations number) (base_at (slice_set stations place new) number)
    by (inl at) =
        let there : slice_get stations (clock_place stations number) ≡ Some old = ap (slice_get stations) at ∙ here in
        let was : base_at stations number ≡ told_base old.system =
        ap (option_and_then (λ (x : Station). told_base x.system)) there in
        let is : base_at (slice_set stations place new) number ≡ told_base new.system =
        now_is ∙ ap (option_and_then (λ (x : Station). told_base x.system))
        (ap (slice_get (slice_set stations place new)) at ∙ get-set_same stations place old new here) in
        elim (on (found_named stations number old there)) [
          | inl stays ↦ inl (is ∙ stays ∙ sym was)
          | inr none ↦ inr (was ∙ none)
        ]
    by (inr apart) =
        inl (now_is ∙ ap (option_and_then (λ (x : Station). told_base x.system))
        (get-set_other stations place (clock_place stations number) new apart))

-- a call
pub calls_go_on : (p : SettlingParams) (settled longest place : ℕ) (input : Input) (v w : WorldState)
    (draws : List Draw) (answer : Answer) (w' : WorldState) → IsSettledFrom p settled longest v
    → v.stations ≡ w.stations → (k : Calls place input w draws answer w') → KeepsNetwork w w' → (number : ℕ)
    (best : System) → IsBest (snapshot_of v) number best
    → GoesOn (base_at v.stations best.clock) (base_at w'.stations best.clock)
calls_go_on p settled longest place input v w draws answer w' is same k keeps number best is_best =
    let called = in_state k.after k.station in
    let stations : w'.stations ≡ slice_set w.stations place called = ap (λ (x : WorldState). x.stations) k.is in
    subst (λ xs. GoesOn (base_at xs best.clock) (base_at w'.stations best.clock)) (sym same)
    (subst (λ xs. GoesOn (base_at w.stations best.clock) (base_at xs best.clock)) (sym stations)
    (base_set w.stations place best.clock k.station called k.here
    (ap (λ xs. clock_place xs best.clock) (sym stations) ∙ keeps.places best.clock)
    (λ named. told_on input w.time k.station.system k.after k.sends answer
    (best_alone p settled longest v is number place best k.station is_best (ap (λ xs. slice_get xs place) same ∙ k.here)
    k.live named) k.steps)))

-- ---- what goes on by another base

pub right_goes_on : (w : Way) (phase : ℕ → ℕ) (before after : Option ℤ) (i : ℕ) (told : Relayed) (sent : ℕ)
    → GoesOn before after → FollowUpIsRight w phase before i told sent → FollowUpIsRight w phase after i told sent
right_goes_on w phase before after i told sent (inl same) right =
    subst (λ base. FollowUpIsRight w phase base i told sent) (sym same) right
right_goes_on w phase before after i told sent (inr none) right = absurd (never (sym none ∙ right.base_is))
  where
    never : None ≡ Some right.ahead → ⊥
    never e = cc

pub invariant_goes_on : (k : FollowerSetting) (after : Option ℤ) (s : Follower) → GoesOn k.base after
    → FollowerInvariant k tells s → FollowerInvariant (record k { base = after }) tells s
invariant_goes_on k after s (inl same) inv =
    subst (λ base. FollowerInvariant (record k { base = base }) tells s) (sym same) inv
invariant_goes_on k None s (inr none) inv =
    subst (λ base. FollowerInvariant (record k { base = base }) tells s) none inv
invariant_goes_on k (Some ahead) s (inr none) inv = base_comes k ahead none tells s inv

-- ---- what a system sends that leads

-- it has taken over as it sends
pub taken_over : (s : SystemState) → list_any is_mine s.held ≡ true → reads_own (reads_after s) ≡ true
taken_over s master = by (reads_own s.reads) refl
  where
    by : (own : Bool) → reads_own s.reads ≡ own → reads_own (reads_after s) ≡ true
    by true own =
        ap (λ b. reads_own (if not b && list_any is_mine s.held then Some reads.Own else s.reads)) own ∙ own
    by false other =
        ap (λ b. reads_own (if not b && list_any is_mine s.held then Some reads.Own else s.reads)) other
        ∙ ap (λ b. reads_own (if b then Some reads.Own else s.reads)) master

-- and without a Master port it sends nothing
none_at : (b c : Bool) → (b || c) ≡ false → (b ≡ false) × (c ≡ false)
none_at true c is = absurd cc
none_at false c is = (refl, is)

pub none_told : (number : ℕ) (log : ℤ) (told : Relayed) (first : ℕ) (hs : List Held) (qs : List Port)
    → list_any is_mine hs ≡ false → syncs number log told first hs qs ≡ []
none_told number log told first [] qs none = refl
none_told number log told first (h ∷ hs) [] none = refl
none_told number log told first (h ∷ hs) (q ∷ qs) none =
    let parts = none_at (is_mine h) (list_any is_mine hs) none in
    let rest = none_told number log told (first + 1) hs qs parts.1 in
    rw parts.0 rest

-- ---- whose base it is

module _ (p : SettlingParams) (settled longest : ℕ) (w : WorldState) (is : IsSettledFrom p settled longest w)
    (at : LinkPlace) (f : IsFollower at w) where
  abbrev s : SystemState
  s = follower_state at w f

  abbrev g : Snapshot
  g = snapshot_of w

  abbrev pub best : System
  best = (own_choice p settled longest w is at f).root.0

  pub is_best : IsBest g (clock s) best
  is_best = (own_choice p settled longest w is at f).root.1

  -- the clock of its root is that of the best
  pub root_clock_is : clock_of s.root ≡ best.clock
  root_clock_is =
      let station = live_from w.stations best is_best.live in
      ap clock_of (own_choice p settled longest w is at f).root.2
      ∙ ap (λ (x : System). clock_of x.identity) station.is ∙ sym (ap (λ (x : System). x.clock) station.is)

  -- the best of the system above it
  best_above : IsBest g (sender at.direction f.channel).clock best
  best_above =
      IsBest-neighbour g (follower_clock at w f) (sender at.direction f.channel).clock best
      (well_formed p settled longest w is) (_, _, f.parent.nearer.joins)
      (subst (λ v. IsBest g v best) f.own.named is_best)

  -- it has the same root
  pub root_above : IsBestIdentity g (sender at.direction f.channel).clock s.root
  root_above = (best, best_above, (own_choice p settled longest w is at f).root.2)

  -- where that is the root, it is its base
  pub base_above : IsDistance g (sender at.direction f.channel).clock 0
      → root_base w s ≡ told_base (state_above at w f)
  base_above there =
      let same : best.clock ≡ (sender at.direction f.channel).clock =
      best_at_zero g (sender at.direction f.channel).clock best (well_formed p settled longest w is) best_above there in
      ap (base_at w.stations) (root_clock_is ∙ same ∙ sym f.above.named)
      ∙ base_there w is.world.sound.wired.clocks at.asking f.above.station f.above.here

  -- and so that of a system that is its root
  named : (root : Station) (r : IsRootOf w (follower_clock at w f) root) → clock_of s.root ≡ clock root.system
  named root r =
      root_clock_is
      ∙ ap (λ (x : System). x.clock)
      (IsBest-unique g (clock s) best r.best (well_formed p settled longest w is) is_best
      (subst (λ v. IsBest g v r.best) (sym f.own.named) r.is_best))
      ∙ sym r.named

  pub base_of : (root : Station) → IsRootOf w (follower_clock at w f) root → (ahead : ℤ) → root_base w s ≡ Some ahead
      → root.system.base ≡ ahead
  base_of root r ahead base =
      by (reads_own root.system.reads)
      (sym (ap (base_at w.stations) (named root r) ∙ base_there w is.world.sound.wired.clocks r.place root r.here)
      ∙ base)
    where
      by : (own : Bool) → (if own then Some root.system.base else None) ≡ Some ahead → root.system.base ≡ ahead
      by true same = same_Some root.system.base ahead same
      by false none = absurd (none-some ahead none)
