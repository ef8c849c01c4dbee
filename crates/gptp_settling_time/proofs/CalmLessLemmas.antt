-- What takes systems or links away leaves a calm network calm, where nothing lapses for want of Sync.
use Rattle.std.proofs.Common.{◌≡◌, Bool, true, false, cond, List, [], ◌∷◌, ◌++◌, refl, sym, ap, subst, ◌∙◌, inl}
use Rattle.std.specs.Prelude.{ℕ, ◌==◌}
use Rattle.gptp_roles.specs.Selection.{clock_of}
use Rattle.gptp_scenario.specs.Calm.{IsCalm, IsLive, IsQuiet, IsUsed, NothingLapses, Rests}
use Rattle.gptp_scenario.specs.Change.{is_at, link_acted, link_after, standing, system_acted, system_after, with_live, with_up}
use Rattle.gptp_scenario.specs.Network.{NetworkState}
use Rattle.gptp_scenario.specs.declared.change.Act.TheVariants.{Change as Changing}
use Rattle.gptp_scenario.specs.declared.change.Change.TheVariants.{Fail, LinkDown}
use Rattle.gptp_scenario.specs.declared.change.Timed.{Timed}
use Rattle.gptp_scenario.specs.declared.network.LinkSpec.{LinkSpec}
use Rattle.gptp_scenario.specs.declared.network.SystemSpec.{SystemSpec}
use Rattle.gptp_theorem.proofs.EventLemmas.{link_behind, system_behind}
use Rattle.gptp_settling_time.specs.Losses.{FailsFarEnd, LowersUnused}

-- systems live where a link goes down
pub still_lives : (n : NetworkState) (made : List Timed) (event : Timed) (clock port : ℕ)
    → event.act ≡ Changing (LinkDown clock port) → (number : ℕ) → IsLive n.systems made number
    → IsLive n.systems (made ++ event ∷ []) number
still_lives n made event clock port act number x = record {
  place = x.place;
  system = x.system;
  there = x.there;
  clock = x.clock;
  live = ap (λ s. s.live)
      (system_behind made event (clock_of x.system.identity) (standing x.system)
      ∙ ap (λ act. system_acted act (clock_of x.system.identity) (system_after made x.system)) act) ∙ x.live;
}

module _ (n : NetworkState) (made : List Timed) (event : Timed) (off : NothingLapses n.params) (calm : IsCalm n made)
  where
    abbrev later : List Timed
    later = made ++ event ∷ []

    -- who lives then lived, and what is up then was as it is
    module _ (lived : (m : SystemSpec) → (system_after later m).live ≡ true → (system_after made m).live ≡ true)
        (stood : (v : LinkSpec) → (link_after later v).up ≡ true → link_after later v ≡ link_after made v) where
      live_before : (number : ℕ) → IsLive n.systems later number → IsLive n.systems made number
      live_before number x = record {
        place = x.place;
        system = x.system;
        there = x.there;
        clock = x.clock;
        live = lived x.system x.live;
      }

      rests : (v : LinkSpec) → Rests n.params n.systems made v → Rests n.params n.systems later v
      rests v rest used =
          let same = stood v used.up in
          subst (IsQuiet n.params) (sym same)
          (rest (subst (IsUsed n.systems made) same
          (record {
            up = used.up;
            a = live_before (link_after later v).a.clock used.a;
            b = live_before (link_after later v).b.clock used.b;
          })))

      less_calm : IsCalm n later
      less_calm = record { links = λ i d early. rests _ (calm.links i d early); lapses = inl off }

    pub failure_calm : (clock : ℕ) → event.act ≡ Changing (Fail clock) → IsCalm n later
    failure_calm clock act =
        less_calm (λ m live.
        gone m (clock == clock_of m.identity)
        (sym (ap (λ s. s.live)
        (system_behind made event (clock_of m.identity) (standing m)
        ∙ ap (λ act. system_acted act (clock_of m.identity) (system_after made m)) act)) ∙ live))
        (λ v up. link_behind made event v ∙ ap (λ act. link_acted act (link_after made v)) act)
      where
        gone : (m : SystemSpec) (test : Bool)
            → (cond test (with_live false (system_after made m)) (system_after made m)).live ≡ true
            → (system_after made m).live ≡ true
        gone m true none = absurd cc
        gone m false live = live

    pub fails_calm : FailsFarEnd n made event → IsCalm n later
    fails_calm fails = failure_calm fails.clock fails.act

    pub down_calm : (clock port : ℕ) → event.act ≡ Changing (LinkDown clock port) → IsCalm n later
    down_calm clock port act =
        less_calm (λ m live.
        sym (ap (λ s. s.live)
        (system_behind made event (clock_of m.identity) (standing m)
        ∙ ap (λ act. system_acted act (clock_of m.identity) (system_after made m)) act)) ∙ live)
        (λ v up.
        let same = link_behind made event v ∙ ap (λ act. link_acted act (link_after made v)) act in
        same
        ∙ down (is_at clock port (link_after made v)) (link_after made v)
        (sym (ap (λ (w : LinkSpec). w.up) same) ∙ up))
      where
        down : (test : Bool) (w : LinkSpec) → (cond test (with_up false w) w).up ≡ true
            → cond test (with_up false w) w ≡ w
        down true w none = absurd cc
        down false w up = refl

    pub lowers_calm : LowersUnused n made event → IsCalm n later
    lowers_calm lowers = down_calm lowers.clock lowers.port lowers.act
