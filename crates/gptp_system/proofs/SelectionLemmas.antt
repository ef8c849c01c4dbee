-- A system that writes down what was selected has selected.
use Rattle.std.proofs.Common.{◌≡◌, ℕ, ℤ, Bool, ◌&&◌, List, Option, ap, ◌∙◌}
use Rattle.std.specs.Prelude.{◌==◌, if◌then◌else◌}
use Rattle.gptp_correction.specs.SyncIn.{KeptSync}
use Rattle.gptp_correction.specs.declared.sync_in.SyncInfo.{SyncInfo}
use Rattle.gptp_receipt.specs.declared.held.Held.{Held}
use Rattle.gptp_roles.specs.declared.selection.Selected.{Selected}
use Rattle.gptp_roles.specs.Selection.{IsSelection}
use Rattle.gptp_system.specs.declared.port.Port.{Port}
use Rattle.gptp_system.specs.declared.sending.Sending.{Sending}
use Rattle.gptp_system.specs.State.{SystemState, clock, lapse_of}
use Rattle.gptp_system.specs.Selection.{all_announced, announcements, follows_on, same_number, kept_if, Selects}

-- what a system has kept of the time that came, where it followed on or not, and when it lapses
pub record Keeps (now root : ℕ) (slave : Option ℕ) (same : Bool) (s : SystemState) (sync_in : Option KeptSync)
    (known : Option SyncInfo) (offset : Option ℤ) (relay lapse : Option ℕ) : Type 0 where
  pub sync_in_is : sync_in ≡ kept_if same s.sync_in
  pub known_is : known ≡ kept_if same s.known
  pub offset_is : offset ≡ kept_if same s.offset
  pub relay_is : relay ≡ kept_if same s.relay
  pub lapse_is : lapse ≡ (if same then s.lapse else lapse_of s.params root slave now)

pub took_over : (now : ℕ) (s : SystemState) (t : Selected) (held : List Held) (ports : List Port)
    (sync_in : Option KeptSync) (known : Option SyncInfo)
    (offset : Option ℤ) (relay lapse : Option ℕ) (sends : List Sending) (same : Bool)
    → IsSelection s.identity s.held t held
    → ports ≡ all_announced now t.fresh.items s.ports
    → sends ≡ announcements (clock s) t.root t.steps 1 t.fresh.items s.ports
    → same ≡ (t.root == s.root && same_number t.slave s.slave)
    → Keeps now t.root t.slave same s sync_in known offset relay lapse
    → Selects now s
    (record s {
      held = held;
      ports = ports;
      root = t.root;
      steps = t.steps;
      slave = t.slave;
      sync_in = sync_in;
      known = known;
      offset = offset;
      relay = relay;
      lapse = lapse;
    })
    sends
took_over now s t held ports sync_in known offset relay lapse sends same selection ports-are sends-are same-is keeps =
    let v = selection.chosen in
    let ports-after = ports-are ∙ ap (λ fresh. all_announced now fresh s.ports) selection.fresh in
    let follows : same ≡ follows_on v s =
    same-is ∙ ap (λ root. root == s.root && same_number t.slave s.slave) selection.root
    ∙ ap (λ slave. v.root == s.root && same_number slave s.slave) selection.slave in
    let sync_in-after = keeps.sync_in_is ∙ ap (λ b. kept_if b s.sync_in) follows in
    let known-after = keeps.known_is ∙ ap (λ b. kept_if b s.known) follows in
    let offset-after = keeps.offset_is ∙ ap (λ b. kept_if b s.offset) follows in
    let relay-after = keeps.relay_is ∙ ap (λ b. kept_if b s.relay) follows in
    let lapse-after = keeps.lapse_is
    ∙ ap (λ b. if b then s.lapse else lapse_of s.params t.root t.slave now) follows
    ∙ ap (λ root. if follows_on v s then s.lapse else lapse_of s.params root t.slave now) selection.root
    ∙ ap (λ slave. if follows_on v s then s.lapse else lapse_of s.params v.root slave now) selection.slave in
    record {
      vector = v;
      is_chosen = selection.is_chosen;
      state = λ i. record s {
        held = selection.held i;
        ports = ports-after i;
        root = selection.root i;
        steps = selection.steps i;
        slave = selection.slave i;
        sync_in = sync_in-after i;
        known = known-after i;
        offset = offset-after i;
        relay = relay-after i;
        lapse = lapse-after i;
      };
      sends_are = sends-are
          ∙ ap (λ root. announcements (clock s) root t.steps 1 t.fresh.items s.ports) selection.root
          ∙ ap (λ steps. announcements (clock s) v.root steps 1 t.fresh.items s.ports) selection.steps
          ∙ ap (λ fresh. announcements (clock s) v.root v.steps 1 fresh s.ports) selection.fresh;
    }
