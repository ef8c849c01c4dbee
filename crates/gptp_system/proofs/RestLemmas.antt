-- A system at rest selects nothing new, and a new system is at rest.
use Rattle.std.proofs.Common.{◌≡◌, ℕ, suc, ◌+◌, Bool, true, false, List, [], ◌∷◌, Option, Some, None, slice_get, refl, sym, ap, subst, ◌∙◌, eq-eqb}
use Rattle.std.specs.Prelude.{◌==◌, if◌then◌else◌}
use Rattle.std.specs.List.{AllByRecursion}
use Rattle.std.proofs.lemmas.Option.{none-some}
use Rattle.gptp_vector.specs.declared.vector.Vector.{Vector}
use Rattle.gptp_vector.specs.Vector.{system_vector}
use Rattle.gptp_receipt.specs.declared.held.Held.{Held}
use Rattle.gptp_receipt.specs.declared.held.Held.TheVariants as helds
use Rattle.gptp_receipt.specs.Held.{HoldsFor}
use Rattle.gptp_roles.specs.Choice.{path_vectors, slave_port}
use Rattle.gptp_roles.specs.Role.{each_from, each_port, held_after_selection, is_fresh}
use Rattle.gptp_roles.proofs.ChoiceLemmas.{least_alone, one_least}
use Rattle.gptp_roles.proofs.RestLemmas.{at_rest}
use Rattle.gptp_pdelay.specs.Peer.{is_capable}
use Rattle.gptp_system.specs.declared.port.Port.{Port}
use Rattle.gptp_system.specs.declared.sending.Sending.{Sending}
use Rattle.gptp_system.specs.State.{SystemState, clock, lapse_of, own}
use Rattle.gptp_system.specs.Selection.{Selects, all_announced, announcements, choosing, follows_on, fresh_ports, kept_if, lapse_after, same_number}
use Rattle.gptp_system.specs.Facts.{AreHeld, AreShown, IsAtRest, IsNew}
use Rattle.gptp_system.proofs.FactLemmas.{are_placed}

-- ---- selecting again

none_announced : (now : ℕ) (fs : List Bool) (qs : List Port) → AllByRecursion (λ b. b ≡ false) fs
    → all_announced now fs qs ≡ qs
none_announced now [] qs none = refl
none_announced now (f ∷ fs) [] none = refl
none_announced now (f ∷ fs) (q ∷ qs) none = rw none.0 (ap (λ rest. q ∷ rest) (none_announced now fs qs none.1))

no_announcements : (c root steps p : ℕ) (fs : List Bool) (qs : List Port) → AllByRecursion (λ b. b ≡ false) fs
    → announcements c root steps p fs qs ≡ []
no_announcements c root steps p [] qs none = refl
no_announcements c root steps p (f ∷ fs) [] none = refl
no_announcements c root steps p (f ∷ fs) (q ∷ qs) none = rw none.0 (no_announcements c root steps (p + 1) fs qs none.1)

none_fresh : (s : SystemState) (a : AreHeld s) (r : IsAtRest s)
    → AllByRecursion (λ b. b ≡ false) (fresh_ports r.vector s)
none_fresh s a r =
    let again = at_rest s.identity s.held r.vector (are_placed s a) r.is_chosen in
    subst (λ hs. AllByRecursion (λ b. b ≡ false) (each_port (is_fresh r.vector (clock s)) hs)) (sym r.stays) again.fresh

same_itself : (o : Option ℕ) → same_number o o ≡ true
same_itself None = refl
same_itself (Some p) = eq-eqb p p refl

follows_itself : (s : SystemState) (r : IsAtRest s) → follows_on r.vector s ≡ true
follows_itself s r =
    let root : (r.vector.root == s.root) ≡ true = eq-eqb r.vector.root s.root (sym r.root) in
    let slave : same_number (slave_port r.vector) s.slave ≡ true = ap (same_number (slave_port r.vector)) r.slave
    ∙ same_itself (slave_port r.vector) in
    rw (root, slave) refl

kept : {X : Type 0} (s : SystemState) (r : IsAtRest s) (known : Option X)
    → kept_if (follows_on r.vector s) known ≡ known
kept s r known = ap (λ b. kept_if b known) (follows_itself s r)

kept_lapse : (now : ℕ) (s : SystemState) (r : IsAtRest s) → lapse_after r.vector now s ≡ s.lapse
kept_lapse now s r =
    ap (λ b. if b then s.lapse else lapse_of s.params r.vector.root (slave_port r.vector) now) (follows_itself s r)

choosing_same : (now : ℕ) (s : SystemState) → AreHeld s → (r : IsAtRest s) → choosing r.vector now s ≡ s
choosing_same now s a r =
    let held = sym r.stays in
    let ports = none_announced now (fresh_ports r.vector s) s.ports (none_fresh s a r) in
    let root = sym r.root in
    let steps = sym r.steps in
    let slave = sym r.slave in
    let sync_in = kept s r s.sync_in in
    let known = kept s r s.known in
    let offset = kept s r s.offset in
    let relay = kept s r s.relay in
    let lapse = kept_lapse now s r in
    λ i. record s {
      held = held i;
      ports = ports i;
      root = root i;
      steps = steps i;
      slave = slave i;
      sync_in = sync_in i;
      known = known i;
      offset = offset i;
      relay = relay i;
      lapse = lapse i;
    }

-- selecting again changes nothing
pub selects_again : (now : ℕ) (s s' : SystemState) (sends : List Sending) → AreHeld s → IsAtRest s
    → Selects now s s' sends
    → (s' ≡ s) × (sends ≡ [])
selects_again now s s' sends a r k = (state, silent)
  where
    one : k.vector ≡ r.vector
    one = one_least (system_vector s.identity ∷ path_vectors s.held) k.vector r.vector k.is_chosen r.is_chosen

    state : s' ≡ s
    state = k.state ∙ ap (λ v. choosing v now s) one ∙ choosing_same now s a r

    silent : sends ≡ []
    silent =
        k.sends_are ∙ ap (λ (v : Vector). announcements (clock s) v.root v.steps 1 (fresh_ports v s) s.ports) one
        ∙ no_announcements (clock s) r.vector.root r.vector.steps 1 (fresh_ports r.vector s) s.ports (none_fresh s a r)

-- so it has selected where it stays as it is
pub selects_itself : (now : ℕ) (s : SystemState) → AreHeld s → IsAtRest s → Selects now s s []
selects_itself now s a r = record {
  vector = r.vector;
  is_chosen = r.is_chosen;
  state = sym (choosing_same now s a r);
  sends_are = sym (no_announcements (clock s) r.vector.root r.vector.steps 1 (fresh_ports r.vector s) s.ports
      (none_fresh s a r));
}

-- ---- the start

no_paths : (hs : List Held) → ((i : ℕ) (h : Held) → slice_get hs i ≡ Some h → h ≡ helds.Disabled) → path_vectors hs ≡ []
no_paths [] silent = refl
no_paths (h ∷ hs) silent = rw (silent 0 h refl) (no_paths hs (λ i g there. silent (suc i) g there))

silent_stays : (v : Vector) (c n : ℕ) (hs : List Held)
    → ((i : ℕ) (h : Held) → slice_get hs i ≡ Some h → h ≡ helds.Disabled)
    → hs ≡ each_from (held_after_selection v c) n hs
silent_stays v c n [] silent = refl
silent_stays v c n (h ∷ hs) silent =
    rw (silent 0 h refl)
    (ap (λ rest. helds.Disabled ∷ rest) (silent_stays v c (n + 1) hs (λ i g there. silent (suc i) g there)))

-- a new system is its own root
pub new_rest : (s : SystemState) → IsNew s → IsAtRest s
new_rest s k = record {
  vector = system_vector s.identity;
  is_chosen = rw (no_paths s.held k.silent) (least_alone (system_vector s.identity));
  stays = silent_stays (system_vector s.identity) (clock s) 1 s.held k.silent;
  root = k.root;
  steps = k.steps;
  slave = k.slave;
}

pub new_shown : (s : SystemState) → IsNew s → AreShown s
new_shown s k = record {
  places = k.places;
  each = λ i h q stands there.
      record {
        off =
            λ e. k.silent i h stands;
        on = λ e. absurd (let none = k.unmeasured i q there in unmeasured q none e);
      };
}
  where
    unmeasured : (q : Port) → q.peer.last ≡ None → is_capable q.peer ≡ true → ⊥
    unmeasured q none e = let off : is_capable q.peer ≡ false = rw none refl in cc

pub new_held : (s : SystemState) → IsNew s → AreHeld s
new_held s k i h stands = subst (HoldsFor (own s (suc i))) (sym (k.silent i h stands)) (λ r is. absurd (none-some r is))
