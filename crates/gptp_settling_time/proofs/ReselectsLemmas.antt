-- A system that follows another at rest goes on doing so where its own identity becomes another that is worse than that
-- root, too.
use Rattle.std.proofs.Common.{◌≡◌, ◌≢◌, ◌⊎◌, ◌<◌, ℕ, suc, Bool, true, false, List, [], ◌∷◌, refl, sym, ap, subst, ◌∙◌, inl, inr, arith}
use Rattle.gptp_receipt.specs.Held.{HoldsFor}
use Rattle.gptp_roles.specs.Choice.{IsIn, path_vectors}
use Rattle.gptp_roles.specs.Role.{each_port, held_after_selection}
use Rattle.gptp_system.specs.Announcing.{ChangesPriority, with_priority}
use Rattle.gptp_system.specs.Facts.{AreHeld, IsAtRest}
use Rattle.gptp_system.specs.Selection.{Selects}
use Rattle.gptp_system.specs.State.{SystemState}
use Rattle.gptp_system.specs.declared.sending.Sending.{Sending}
use Rattle.gptp_system.proofs.RestLemmas.{selects_again}
use Rattle.gptp_system.proofs.TimersChangedLemmas.{priority_clock}
use Rattle.gptp_vector.specs.Vector.{lower, system_vector}
use Rattle.gptp_vector.specs.declared.vector.Vector.{Vector}
use Rattle.gptp_invariants.proofs.WorldOrderLemmas.{lower_parts}

module _ (value now : ℕ) (s s' : SystemState) (sends : List Sending) (held : AreHeld s) (rest : IsAtRest s)
    (k : ChangesPriority value now s s' sends) where
  abbrev t : SystemState
  t = with_priority value s

  not_lower : (v : Vector) → v.root < t.identity → lower (system_vector t.identity) v ≡ false
  not_lower v above = by (lower (system_vector t.identity) v) refl
    where
      by : (b : Bool) → lower (system_vector t.identity) v ≡ b → lower (system_vector t.identity) v ≡ false
      by false is = is
      by true is = absurd (elim (lower_parts (system_vector t.identity) v is) [
        | inl less ↦ omega (arith, less, above)
        | inr (same, more) ↦ omega (arith, same, above)
      ])

  member_still : s.root ≢ s.identity → IsIn rest.vector (system_vector s.identity ∷ path_vectors s.held)
      → IsIn rest.vector (system_vector t.identity ∷ path_vectors s.held)
  member_still foreign (inl own) = absurd (foreign (rest.root ∙ ap (λ (v : Vector). v.root) own))
  member_still foreign (inr among) = inr among

  rest_still : s.root ≢ s.identity → s.root < t.identity → IsAtRest t
  rest_still foreign above =
      let root = rest.root in
      record {
        vector = rest.vector;
        is_chosen = record {
          member = member_still foreign rest.is_chosen.member;
          least = (not_lower rest.vector (omega (arith, above, root)), rest.is_chosen.least.1);
        };
        stays = subst (λ c. s.held ≡ each_port (held_after_selection rest.vector c) s.held)
            (sym (priority_clock value s)) rest.stays;
        root = rest.root;
        steps = rest.steps;
        slave = rest.slave;
      }

  held_still : AreHeld t
  held_still i h there =
      subst (λ c. HoldsFor (record { clock = c; port = suc i }) h) (sym (priority_clock value s)) (held i h there)

  -- nothing but its identity is another, and it sends nothing
  pub chooses_again : ((s.root ≢ s.identity) × (s.root < t.identity)) ⊎ (t.identity ≡ s.identity)
      → (s' ≡ t) × (sends ≡ [])
  chooses_again (inl (foreign, above)) = selects_again now t s' sends held_still (rest_still foreign above) k
  chooses_again (inr equal) =
      let same : t ≡ s = λ i. record s { identity = equal i } in
      let (is, silent) =
      selects_again now s s' sends held rest (subst (λ x. Selects now x s' sends) same k) in
      (is ∙ sym same, silent)
