-- What every act and the time that passes keep was so at each moment of a run.
use Rattle.std.proofs.Common.{◌≡◌, ◌⊎◌, ◌<◌, ◌≤◌, ◌^◌, ℕ, List, [], ◌∷◌, ◌++◌, Option, refl, sym, ap, subst, ◌∙◌, inl, inr, append-nil, arith}
use Rattle.std.proofs.lemmas.Bool.{cases_lt}
use Rattle.gptp_links.specs.declared.bounds.Bounds.{Bounds}
use Rattle.gptp_invariants.proofs.WorldOutlineLemmas.{acts_time}
use Rattle.gptp_model.specs.Acts.{at}
use Rattle.gptp_model.specs.Pending.{NothingBefore}
use Rattle.gptp_model.specs.World.{WorldState}
use Rattle.gptp_model.specs.declared.done.Done.{Done}
use Rattle.gptp_model.proofs.AdvanceLemmas.{nothing_sooner}
use Rattle.gptp_network.specs.Document.{DocumentState}
use Rattle.gptp_report.specs.Transitions.{Unfolds}
use Rattle.gptp_scenario.specs.declared.change.Timed.{Timed}
use Rattle.gptp_theorem.specs.PlayedLaws.{IsPlayable}
use Rattle.gptp_reading.proofs.RunLemmas.{IsKeptAct, runs_keep}
use Rattle.gptp_timeline_laws.specs.Moments.{last_time, next_time, world_after}
use Rattle.gptp_timeline_laws.proofs.CourseLemmas.{last_on, world_on}
use Rattle.gptp_world.specs.Transitions.{ActTrace, transition}

-- ---- some of several acts and one more

-- they are all of these and one more, or some of these
record EndsSo (acts : List ActTrace) (t : ActTrace) (us vs : List ActTrace) : Type 0 where
  more : List ActTrace
  behind : vs ≡ more ++ t ∷ []
  are : acts ≡ us ++ more

parted_last : (acts : List ActTrace) (t : ActTrace) (us vs : List ActTrace) → acts ++ t ∷ [] ≡ us ++ vs
    → ((us ≡ acts ++ t ∷ []) × (vs ≡ [])) ⊎ EndsSo acts t us vs
parted_last acts t [] vs are = inr (record { more = acts; behind = sym are; are = refl })
parted_last [] t (u ∷ []) vs are =
    inl (let first : u ≡ t = cc in let rest : vs ≡ [] = cc in ((λ i. first i ∷ []), rest))
parted_last [] t (u ∷ (v ∷ us)) vs are = absurd (let none : [] ≡ v ∷ (us ++ vs) = cc in cc)
parted_last (a ∷ acts) t (u ∷ us) vs are =
    let first : a ≡ u = cc in
    let rest : acts ++ t ∷ [] ≡ us ++ vs = cc in
    elim (parted_last acts t us vs rest) [
      | inl (all, none) ↦ inl ((λ i. sym first i ∷ all i), none)
      | inr e ↦ inr (record { more = e.more; behind = e.behind; are = λ i. first i ∷ e.are i })
    ]

none_behind : (us vs : List ActTrace) → [] ≡ us ++ vs → (us ≡ []) × (vs ≡ [])
none_behind [] vs are = (refl, sym are)
none_behind (u ∷ us) vs are = absurd cc

module _ {F : Type 0} (answers : Bounds → ℕ → F → Option ℕ → F → Type 0) (start : WorldState)
    (Q : List ActTrace → WorldState → Type 0)
    (act_keeps : (ts : List ActTrace) (timed : Timed) (done : Done) (w w' : WorldState)
    → IsKeptAct answers timed done w w' → Q ts w → Q (ts ++ transition timed done w w' ∷ []) w')
    (later_keeps : (ts : List ActTrace) (w : WorldState) (time : ℕ) → w.time ≤ time
    → NothingBefore time w.net.pending → Q ts w → Q ts (at time w)) where
  -- where acts led to a time: after some of them, at each moment before the next
  abbrev pub WasSo : List ActTrace → ℕ → Type 0
  WasSo acts last = (us vs : List ActTrace) (time : ℕ) → acts ≡ us ++ vs → last_time start.time us ≤ time
      → time ≤ next_time last vs → Q us (at time (world_after us start))

  -- an act was done at its time
  act_is_then : (timed : Timed) (done : Done) (w w' : WorldState) → IsKeptAct answers timed done w w'
      → w'.time ≡ timed.at
  act_is_then timed done w w' k = acts_time timed.act (at timed.at w) k.was.draws done w' k.was.acts

  record IsSoFar (acts : List ActTrace) (w : WorldState) : Type 0 where
    now : Q acts w
    stands : at w.time (world_after acts start) ≡ w
    was : WasSo acts w.time

  so_first : Q [] start → IsSoFar [] start
  so_first so = record { now = so; stands = refl; was = was }
    where
      was : WasSo [] start.time
      was us vs time are late early =
          let (none, all) = none_behind us vs are in
          let late' : start.time ≤ time = subst (λ xs. last_time start.time xs ≤ time) none late in
          let early' : time ≤ start.time = subst (λ xs. time ≤ next_time start.time xs) all early in
          let same : start.time ≡ time = omega (arith, late', early') in
          subst (λ xs. Q xs (at time (world_after xs start))) (sym none)
          (subst (λ n. Q [] (at n start)) same so)

  module _ (acts : List ActTrace) (w : WorldState) (so : IsSoFar acts w) where
    -- after all acts, up to a time before which nothing is pending
    so_now : (time : ℕ) → last_time start.time acts ≤ time → NothingBefore time w.net.pending
        → Q acts (at time (world_after acts start))
    so_now time late first = by (cases_lt time w.time)
      where
        by : (time < w.time) ⊎ (w.time ≤ time) → Q acts (at time (world_after acts start))
        by (inl early) = so.was acts [] time (sym (append-nil acts)) late (omega (arith, early))
        by (inr on) =
            subst (Q acts) (ap (at time) (sym so.stands)) (later_keeps acts w time on first so.now)

    so_later : (last : ℕ) → w.time ≤ last → NothingBefore last w.net.pending → IsSoFar acts (at last w)
    so_later last later first = record {
      now = later_keeps acts w last later first so.now;
      stands = ap (at last) so.stands;
      was = λ us vs time are late early. was us vs time are late early;
    }
      where
        was : WasSo acts last
        was us [] time are late early =
            let all : us ≡ acts = sym (are ∙ append-nil us) in
            subst (λ xs. Q xs (at time (world_after xs start))) (sym all)
            (so_now time (subst (λ xs. last_time start.time xs ≤ time) all late)
            (nothing_sooner time last w.net.pending early first))
        was us (v ∷ vs) time are late early = so.was us (v ∷ vs) time are late early

    so_act : (timed : Timed) (done : Done) (w' : WorldState) → IsKeptAct answers timed done w w'
        → IsSoFar (acts ++ transition timed done w w' ∷ []) w'
    so_act timed done w' k = record {
      now = act_keeps acts timed done w w' k so.now;
      stands = ap (at w'.time) (world_on acts (t ∷ []) start);
      was = was;
    }
      where
        t : ActTrace
        t = transition timed done w w'

        after : world_after (acts ++ t ∷ []) start ≡ w'
        after = world_on acts (t ∷ []) start

        whole : (us vs : List ActTrace) (time : ℕ) → us ≡ acts ++ t ∷ [] → vs ≡ []
            → last_time start.time us ≤ time → time ≤ next_time w'.time vs → Q us (at time (world_after us start))
        whole us vs time all none late early =
            let moment = act_is_then timed done w w' k in
            let last : timed.at ≤ time =
            subst (λ n. n ≤ time) (ap (last_time start.time) all ∙ last_on start.time acts (t ∷ [])) late in
            let late' : w'.time ≤ time = omega (arith, last, moment) in
            let early' : time ≤ w'.time = subst (λ xs. time ≤ next_time w'.time xs) none early in
            let same : w'.time ≡ time = omega (arith, late', early') in
            subst (λ xs. Q xs (at time (world_after xs start))) (sym all)
            (subst (λ v. Q (acts ++ t ∷ []) (at time v)) (sym after)
            (subst (λ n. Q (acts ++ t ∷ []) (at n w')) same (act_keeps acts timed done w w' k so.now)))

        some : (us more vs : List ActTrace) (time : ℕ) → acts ≡ us ++ more → vs ≡ more ++ t ∷ []
            → last_time start.time us ≤ time → time ≤ next_time w'.time vs → Q us (at time (world_after us start))
        some us [] vs time are behind late early =
            let all : us ≡ acts = sym (are ∙ append-nil us) in
            let early' : time ≤ timed.at = subst (λ xs. time ≤ next_time w'.time xs) behind early in
            subst (λ xs. Q xs (at time (world_after xs start))) (sym all)
            (so_now time (subst (λ xs. last_time start.time xs ≤ time) all late)
            (nothing_sooner time timed.at w.net.pending early' k.was.ready.timely.first))
        some us (x ∷ more) vs time are behind late early =
            so.was us (x ∷ more) time are late (subst (λ xs. time ≤ next_time w'.time xs) behind early)

        was : WasSo (acts ++ t ∷ []) w'.time
        was us vs time are late early =
            elim (parted_last acts t us vs are) [
              | inl (all, none) ↦ whole us vs time all none late early
              | inr e ↦ some us e.more vs time e.are e.behind late early
            ]

  pub runs_were_so : (d : DocumentState) (until : ℕ) (fate : F) (w : WorldState) (ts : List ActTrace)
      → IsPlayable d → until ≤ 10 ^ 18 → Unfolds answers d until fate start ts w → Q [] start → WasSo ts w.time
  runs_were_so d until fate w ts playable moment k so =
      let (all, last) = runs_keep answers IsSoFar (λ us timed done x y act far. so_act us x far timed done y act)
      (λ us x time later first far. so_later us x far time later first) d until fate start w ts playable moment k
      (so_first so) in
      last.was
