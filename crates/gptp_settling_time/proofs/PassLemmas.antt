-- What each act keeps holds before and after each act of a run.
use Rattle.std.proofs.Common.{◌≡◌, ◌≤◌, ◌+◌, ℕ, List, [], ◌∷◌, Option, sym, subst, inl, inr, arith}
use Rattle.gptp_lists.specs.Members.{In}
use Rattle.gptp_links.specs.declared.bounds.Bounds.{Bounds}
use Rattle.gptp_model.specs.Acts.{at}
use Rattle.gptp_model.specs.Course.{WasDone}
use Rattle.gptp_model.specs.Pending.{NothingBefore}
use Rattle.gptp_model.specs.Views.{IsNextAct}
use Rattle.gptp_model.specs.World.{WorldState}
use Rattle.gptp_model.proofs.AdvanceLemmas.{nothing_sooner}
use Rattle.gptp_world.specs.Transitions.{Passes, PassesTo, ActTrace}
use Rattle.gptp_invariants.specs.ChoiceSeenLaws.{IsNoChange}
use Rattle.gptp_invariants.proofs.WorldOutlineLemmas.{acts_time}
use Rattle.gptp_theorem.proofs.CalmKeptLemmas.{no_change}

-- this is so of the worlds before and after an act, which was done at its time
pub record IsStep {F : Type 0} (answers : Bounds → ℕ → F → Option ℕ → F → Type 0) (So : WorldState → Type 0)
    (t : ActTrace) : Type 0 where
  pub before : So t.before
  pub after : So t.after
  pub fate : F
  pub drawn : F
  pub was : WasDone answers t.told.timed fate drawn t.before t.after t.told.done
  pub none : IsNoChange t.told.timed.act
  pub time : t.after.time ≡ t.told.timed.at

-- so it is of each of these acts, none of which is later than a time, and of the world that they lead to
pub record HavePassed {F : Type 0} (answers : Bounds → ℕ → F → Option ℕ → F → Type 0) (So : WorldState → Type 0)
    (until : ℕ) (ts : List ActTrace) (w' : WorldState) : Type 0 where
  pub each : (t : ActTrace) → In t ts → IsStep answers So t
  pub soon : (t : ActTrace) → In t ts → t.told.timed.at ≤ until
  pub end : So w'
  pub early : w'.time ≤ until

module _ {F : Type 0} (answers : Bounds → ℕ → F → Option ℕ → F → Type 0) (So : WorldState → Type 0)
    (later : (w : WorldState) (time : ℕ) → w.time ≤ time → NothingBefore time w.net.pending → So w → So (at time w))
    (acts : (t : ActTrace) (fate drawn : F) (w : WorldState) → IsNextAct w t.told.timed
    → WasDone answers t.told.timed fate drawn w t.after t.told.done → So w → So t.after) (until : ℕ) where
  passes : (ts : List ActTrace) (fate fate_after : F) (w w' : WorldState)
      → Passes answers until ts fate fate_after w w' → w.time ≤ until → So w → HavePassed answers So until ts w'
  passes [] fate fate_after w w' (same, is) early so = record {
    each = λ t member. absurd member;
    soon = λ t member. absurd member;
    end = subst So (sym is) so;
    early = subst (λ (v : WorldState). v.time ≤ until) (sym is) early;
  }
  passes (t ∷ ts) fate fate_after w w' (drawn, before, happens, rest) early so =
      let timed = t.told.timed in let next = happens.next in let was = happens.was_done in
      let in_time = happens.early in
      let after = acts t fate drawn w next was so in
      let then = acts_time timed.act (at timed.at w) was.draws t.told.done t.after was.acts in
      let more = passes ts drawn fate_after t.after w' rest (omega (arith, then, in_time)) after in
      let one : IsStep answers So t = record {
        before = subst So (sym before) so;
        after = after;
        fate = fate;
        drawn = drawn;
        was = subst (λ v. WasDone answers timed fate drawn v t.after t.told.done) (sym before) was;
        none = no_change next.item timed.act w next.act;
        time = then;
      } in
      record {
        each = λ u member. elim member [
          | inl same ↦ subst (IsStep answers So) (sym same) one
          | inr behind ↦ more.each u behind
        ];
        soon = λ u member. elim member [
          | inl same ↦ subst (λ (v : ActTrace). v.told.timed.at ≤ until) (sym same) in_time
          | inr behind ↦ more.soon u behind
        ];
        end = more.end;
        early = more.early;
      }

  pub passes_to : (ts : List ActTrace) (fate fate_after : F) (w w' : WorldState)
      → PassesTo answers until ts fate fate_after w w' → So w → HavePassed answers So until ts w'
  passes_to ts fate fate_after w w' k so =
      let on = passes ts fate fate_after w k.between k.passes k.ahead so in
      let first = nothing_sooner until (until + 1) k.between.net.pending (omega arith) k.nothing_left in
      let at_end : until ≤ until = omega arith in
      record {
        each = on.each;
        soon = on.soon;
        end = subst So (sym k.is) (later k.between until on.early first on.end);
        early = subst (λ (v : WorldState). v.time ≤ until) (sym k.is) at_end;
      }
