-- What came over silent links has aged within the longest receipt timeout and the greatest delay of the links that were
-- in use. Where no link is silent it has at once.
use Rattle.std.proofs.Common.{◌≡◌, ◌≤◌, ◌==◌, ◌&&◌, ◌∷◌, ◌++◌, max, cond, ℕ, zero, suc, Bool, true, false, List, [], Some, slice_get, append-nil, append_assoc, refl, sym, ap, subst, ◌∙◌, inl, inr, arith}
use Rattle.std.specs.Prelude.{if◌then◌else◌}
use Rattle.std.proofs.lemmas.Bool.{eq-eqb}
use Rattle.std.proofs.lemmas.Option.{same_Some}
use Rattle.gptp_vector.specs.declared.port.PortId.{PortId}
use Rattle.gptp_roles.specs.Selection.{clock_of}
use Rattle.gptp_setup.specs.SettlingParams.{longest_span}
use Rattle.gptp_scenario.specs.Calm.{IsLive, IsUsed, last_change}
use Rattle.gptp_scenario.specs.Change.{is_at, link_acted, link_after, system_after, with_up}
use Rattle.gptp_scenario.specs.InUse.{greatest_delay, is_used, lives}
use Rattle.gptp_scenario.specs.Network.{IsEnd, NetworkState, pace_of}
use Rattle.gptp_scenario.specs.SettlingTime.{aging_span}
use Rattle.gptp_scenario.specs.SyncWait.{sync_paths}
use Rattle.gptp_scenario.specs.declared.change.Act.{Act}
use Rattle.gptp_scenario.specs.declared.change.Act.TheVariants.{Deliver, Expire, Change as Changing}
use Rattle.gptp_scenario.specs.declared.change.Change.TheVariants.{LinkDown, LinkUp, LinkSet, Fail, Recover, Priority1, Inject}
use Rattle.gptp_scenario.specs.declared.change.Timed.{Timed}
use Rattle.gptp_scenario.specs.declared.network.LinkSpec.{LinkSpec}
use Rattle.gptp_scenario.specs.declared.network.SystemSpec.{SystemSpec}
use Rattle.gptp_lists.proofs.SystemSpecLemmas.{In-slice_get}
use Rattle.gptp_network.proofs.PassLemmas.{passes_at}
use Rattle.gptp_theorem.proofs.EventLemmas.{link_behind}
use Rattle.gptp_settling_time.specs.Gains.{ChangesNothing}
use Rattle.gptp_settling_time.specs.HowSoon.{EachEvent, FailsHeardFirst, IsDownToo}
use Rattle.gptp_settling_time.specs.Losses.{AgesWithin, FailsHeard, NoneSilent, UpIsUsed}

module _ (systems : List SystemSpec) (events : List Timed) where
  lives_from : (clock : ℕ) → IsLive systems events clock → lives systems events clock ≡ true
  lives_from clock live =
      passes_at (λ m. clock_of m.identity == clock && (system_after events m).live) systems live.system
      (In-slice_get live.system systems live.place live.there)
      (let named = eq-eqb (clock_of live.system.identity) clock live.clock in let lived = live.live in rw (named, lived)
      refl)

  pub used_from : (v : LinkSpec) → IsUsed systems events v → is_used systems events v ≡ true
  used_from v used =
      let up = used.up in
      let a = lives_from v.a.clock used.a in
      let b = lives_from v.b.clock used.b in
      rw (up, a, b) refl

  -- a link in use is no slower than the greatest delay
  pub greatest_most : (links : List LinkSpec) (place : ℕ) (v : LinkSpec) → slice_get links place ≡ Some v
      → IsUsed systems events (link_after events v)
      → (link_after events v).bounds.max ≤ greatest_delay systems events links
  greatest_most [] place v there used = absurd cc
  greatest_most (w ∷ ws) zero v there used =
      let same : w ≡ v = same_Some w v there in
      let on : is_used systems events (link_after events w) ≡ true =
      ap (λ u. is_used systems events (link_after events u)) same ∙ used_from (link_after events v) used in
      let most : (link_after events w).bounds.max ≡ (link_after events v).bounds.max =
      ap (λ u. (link_after events u).bounds.max) same in
      by (is_used systems events (link_after events w)) (link_after events w).bounds.max
      (greatest_delay systems events ws) (link_after events v).bounds.max on most
    where
      by : (test : Bool) (here rest most : ℕ) → test ≡ true → here ≡ most → most ≤ cond test (max here rest) rest
      by true here rest most is same = omega (arith, same)
      by false here rest most none same = absurd cc
  greatest_most (w ∷ ws) (suc place) v there used =
      by (is_used systems events (link_after events w)) (link_after events w).bounds.max
      (greatest_delay systems events ws) (greatest_most ws place v there used)
    where
      by : (test : Bool) (here rest : ℕ) → (link_after events v).bounds.max ≤ rest
          → (link_after events v).bounds.max ≤ cond test (max here rest) rest
      by true here rest less = omega (arith, less)
      by false here rest less = less

-- where links keep their bounds
pub within_delay : (n : NetworkState) (made events : List Timed) (time : ℕ)
    → ((v : LinkSpec) → (link_after events v).bounds.max ≡ (link_after made v).bounds.max)
    → AgesWithin n made events time (aging_span (pace_of n) (sync_paths n made))
within_delay n made events time stay place v failed there (used, up, end, gone) lives =
    let most = greatest_most n.systems made n.links place v there used in
    let same = stay v in
    (longest_span (pace_of n), inl refl, omega (arith, most, same))

-- as they do where a system fails
pub fail_within : (n : NetworkState) (made : List Timed) (event : Timed) (clock : ℕ)
    → event.act ≡ Changing (Fail clock)
    → AgesWithin n made (made ++ event ∷ []) event.at (aging_span (pace_of n) (sync_paths n made))
fail_within n made event clock act =
    within_delay n made (made ++ event ∷ []) event.at (λ v.
    ap (λ (u : LinkSpec). u.bounds.max)
    (link_behind made event v ∙ ap (λ a. link_acted a (link_after made v)) act))

pub failure_within : (n : NetworkState) (made : List Timed) (event : Timed) → FailsHeard n made event
    → AgesWithin n made (made ++ event ∷ []) event.at (aging_span (pace_of n) (sync_paths n made))
failure_within n made event fails = fail_within n made event fails.clock fails.act

-- as they do where a link goes down or comes up
up_stays : (up test : Bool) (u : LinkSpec) → (if test then with_up up u else u).bounds.max ≡ u.bounds.max
up_stays up true u = refl
up_stays up false u = refl

-- or where all stays as it stands
repeats_stay : (n : NetworkState) (made : List Timed) (act : Act) → ChangesNothing n made act → (u : LinkSpec)
    → (link_acted act u).bounds.max ≡ u.bounds.max
repeats_stay n made (Deliver link direction) none u = absurd none
repeats_stay n made (Expire number timer) none u = absurd none
repeats_stay n made (Changing (LinkDown number port)) idle u = up_stays false (is_at number port u) u
repeats_stay n made (Changing (LinkUp number port)) idle u = up_stays true (is_at number port u) u
repeats_stay n made (Changing (LinkSet number port least most loss)) none u = absurd none
repeats_stay n made (Changing (Fail number)) idle u = refl
repeats_stay n made (Changing (Recover number)) idle u = refl
repeats_stay n made (Changing (Priority1 number value)) idle u = refl
repeats_stay n made (Changing (Inject number port octets)) idle u = refl

down_stays : (n : NetworkState) (made now : List Timed) → EachEvent (IsDownToo n) made now → (v : LinkSpec)
    → (link_after (made ++ now) v).bounds.max ≡ (link_after made v).bounds.max
down_stays n made [] each v = ap (λ es. (link_after es v).bounds.max) (append-nil made)
down_stays n made (event ∷ now) (down, others) v =
    ap (λ es. (link_after es v).bounds.max) (sym (append_assoc made (event ∷ []) now))
    ∙ down_stays n (made ++ event ∷ []) now others v
    ∙ ap (λ (u : LinkSpec). u.bounds.max) (link_behind made event v)
    ∙ elim down [
      | inl lowers ↦
          ap (λ act. (link_acted act (link_after made v)).bounds.max) lowers.act
          ∙ up_stays false (is_at lowers.clock lowers.port (link_after made v)) (link_after made v)
      | inr repeats ↦ repeats_stay n made event.act repeats.0 (link_after made v)
    ]

pub failures_within : (n : NetworkState) (made now : List Timed) → FailsHeardFirst n made now
    → AgesWithin n made (made ++ now) (last_change (made ++ now)) (aging_span (pace_of n) (sync_paths n made))
failures_within n made [] none = absurd none
failures_within n made (event ∷ now) (fails, down) =
    within_delay n made (made ++ event ∷ now) (last_change (made ++ event ∷ now)) (λ v.
    ap (λ es. (link_after es v).bounds.max) (sym (append_assoc made (event ∷ []) now))
    ∙ down_stays n (made ++ event ∷ []) now down v
    ∙ ap (λ (u : LinkSpec). u.bounds.max)
    (link_behind made event v ∙ ap (λ act. link_acted act (link_after made v)) fails.act))

-- where each link that is up is in use none is silent
pub up_none_silent : (n : NetworkState) (made events : List Timed) → UpIsUsed n events → NoneSilent n made events
up_none_silent n made events used place v failed end there (was, up, is_end, gone) other on =
    gone (lives is_end (used place v there up))
  where
    lives : IsEnd failed (link_after events v) → IsUsed n.systems events (link_after events v)
        → IsLive n.systems events failed.clock
    lives (inl a) on = subst (λ (q : PortId). IsLive n.systems events q.clock) a on.a
    lives (inr b) on = subst (λ (q : PortId). IsLive n.systems events q.clock) b on.b

-- and where none is nothing has to age
pub none_silent : (n : NetworkState) (made events : List Timed) (time span : ℕ) → NoneSilent n made events
    → AgesWithin n made events time span
none_silent n made events time span none place v failed there silent far =
    absurd (none place v failed far.end there silent far.is_end far.lives)
