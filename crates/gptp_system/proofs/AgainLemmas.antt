-- An Announce that says again what a port received last leaves a system at rest: selecting changes nothing then.
use Rattle.std.proofs.Common.{◌≡◌, ℕ, zero, suc, ◌+◌, Bool, true, false, ◌&&◌, List, [], ◌∷◌, Option, Some, None, slice_get, refl, sym, ap, subst, ◌∙◌, eq-eqb}
use Rattle.std.specs.Prelude.{not}
use Rattle.std.specs.Option.{option_map, option_map_or}
use Rattle.std.proofs.lemmas.Option.{none-some, same_Some}
use Rattle.gptp_vector.specs.declared.port.PortId.{PortId}
use Rattle.gptp_vector.specs.declared.vector.Vector.{Vector}
use Rattle.gptp_vector.specs.Vector.{path_of}
use Rattle.gptp_messages.specs.declared.announce.AnnounceView.{AnnounceView}
use Rattle.gptp_receipt.specs.declared.held.Held.{Held}
use Rattle.gptp_receipt.specs.declared.held.Held.TheVariants as helds
use Rattle.gptp_receipt.specs.declared.held.Heard.TheVariants as heards
use Rattle.gptp_receipt.specs.declared.held.Reception.{Reception}
use Rattle.gptp_receipt.specs.Held.{comparison, held_after as held_when_heard, message_vector, received, reception}
use Rattle.gptp_receipt.specs.Qualification.{Qualified}
use Rattle.gptp_roles.specs.Choice.{path_vectors}
use Rattle.gptp_roles.specs.Role.{each_from, held_after_selection, is_master, chosen_role}
use Rattle.gptp_roles.proofs.RoleLemmas.{held_after-kept, held_after-master}
use Rattle.gptp_setup.specs.declared.timer.Timer.TheVariants as timers
use Rattle.gptp_system.specs.declared.port.Port.{Port}
use Rattle.gptp_system.specs.declared.sending.Sending.{Sending}
use Rattle.gptp_system.specs.Announcing.{HearsAgain, SaysAgain, compared, replaces_held}
use Rattle.gptp_system.specs.Facts.{AreHeld, IsAtRest}
use Rattle.gptp_system.specs.Reach.{Leaves, same_timer}
use Rattle.gptp_system.specs.Selection.{Becomes, Selects, SelectsIf}
use Rattle.gptp_system.specs.State.{SystemState, announce_due, change_at, clock, held_at, number, on_held, own}
use Rattle.gptp_system.proofs.DueLemmas.{on_held_leaves}
use Rattle.gptp_system.proofs.RestLemmas.{selects_itself}
use Rattle.gptp_system.proofs.TimersChangedLemmas.{compared_touches}

-- ---- a port that received the same vector again

-- before and after the port holds a reception, both of one vector
record SaysStill (h h' : Held) : Type 0 where
  before : Reception
  after : Reception
  was : received h ≡ Some before
  is : received h' ≡ Some after
  same : after.vector ≡ before.vector

-- the path vectors stay
paths_still : (g : Held → Held) (i : ℕ) (hs : List Held) → ((h : Held) → slice_get hs i ≡ Some h → SaysStill h (g h))
    → path_vectors (change_at g i hs) ≡ path_vectors hs
paths_still g i [] says = refl
paths_still g zero (h ∷ hs) says = let k = says h refl in rw (k.was, k.is, k.same) refl
paths_still g (suc i) (h ∷ hs) says =
    ap (λ (vs : List Vector). option_map_or (λ (r : Reception). path_of r.vector ∷ vs) (received h) vs)
    (paths_still g i hs says)

-- a port that kept what it held keeps it again
keeps_still : (v : Vector) (c p : ℕ) (h h' : Held) → SaysStill h h' → held_after_selection v c p h ≡ h
    → held_after_selection v c p h' ≡ h'
keeps_still v c p h h' k stays = go (is_master (chosen_role v c p h)) refl
  where
    go : (b : Bool) → is_master (chosen_role v c p h) ≡ b → held_after_selection v c p h' ≡ h'
    go true master =
        let mine : helds.Mine v.root v.steps ≡ h = sym (held_after-master v c p h master) ∙ stays in
        absurd (none-some k.before (ap received mine ∙ k.was))
    go false other =
        let same : chosen_role v c p h' ≡ chosen_role v c p h = rw (k.was, k.is, k.same) refl in
        held_after-kept v c p h' (ap is_master same ∙ other)

-- so do all
stay_still : (v : Vector) (c p : ℕ) (g : Held → Held) (i : ℕ) (hs : List Held)
    → ((h : Held) → slice_get hs i ≡ Some h → SaysStill h (g h)) → hs ≡ each_from (held_after_selection v c) p hs
    → change_at g i hs ≡ each_from (held_after_selection v c) p (change_at g i hs)
stay_still v c p g i [] says stays = refl
stay_still v c p g zero (h ∷ hs) says stays =
    let first : held_after_selection v c p h ≡ h = cc in
    let rest : hs ≡ each_from (held_after_selection v c) (p + 1) hs = cc in
    ap (λ (x : Held). x ∷ hs) (sym (keeps_still v c p h (g h) (says h refl) first))
    ∙ ap (λ (xs : List Held). held_after_selection v c p (g h) ∷ xs) rest
stay_still v c p g (suc i) (h ∷ hs) says stays =
    let first : h ≡ held_after_selection v c p h = cc in
    let rest : hs ≡ each_from (held_after_selection v c) (p + 1) hs = cc in
    ap (λ (x : Held). x ∷ change_at g i hs) first
    ∙ ap (λ (xs : List Held). held_after_selection v c p h ∷ xs) (stay_still v c (p + 1) g i hs says rest)

still_rest : (p : ℕ) (g : Held → Held) (s : SystemState)
    → ((h : Held) → number s.held p ≡ Some h → SaysStill h (g h)) → IsAtRest s → IsAtRest (on_held p g s)
still_rest zero g s says r = r
still_rest (suc i) g s says r = record {
  vector = r.vector;
  is_chosen = rw (paths_still g i s.held says) r.is_chosen;
  stays = stay_still r.vector (clock s) 1 g i s.held says r.stays;
  root = r.root;
  steps = r.steps;
  slave = r.slave;
}

-- ---- an Announce that says it

-- what a port received that is said again
record SaidAgain (h : Held) (own : PortId) (a : AnnounceView) : Type 0 where
  last : Reception
  was : received h ≡ Some last
  same : last.vector ≡ message_vector a own.port

said : (h : Held) (own : PortId) (a : AnnounceView) → SaysAgain h own a → SaidAgain h own a
said h own a says = go (received h) refl
  where
    go : (o : Option Reception) → received h ≡ o → SaidAgain h own a
    go None none =
        absurd (none-some (message_vector a own.port)
        (sym (ap (option_map (λ (r : Reception). r.vector)) none) ∙ says))
    go (Some r) was = record {
      last = r;
      was = was;
      same = same_Some r.vector (message_vector a own.port)
          (sym (ap (option_map (λ (r : Reception). r.vector)) was) ∙ says);
    }

-- it is Repeated
repeated : (h : Held) (own : PortId) (a : AnnounceView) → SaidAgain h own a → comparison h own a ≡ heards.Repeated
repeated h own a k =
    let v = message_vector a own.port in
    rw (k.was, k.same, eq-eqb v.source.clock v.source.clock refl, eq-eqb v.source.port v.source.port refl) refl

says_still : (h : Held) (own : PortId) (a : AnnounceView) (now : ℕ) → SaysAgain h own a
    → SaysStill h (held_when_heard (comparison h own a) h (reception a own now))
says_still h own a now says =
    let k = said h own a says in
    record {
      before = k.last;
      after = reception a own now;
      was = k.was;
      is = ap (λ heard. received (held_when_heard heard h (reception a own now))) (repeated h own a k);
      same = sym k.same;
    }

-- the state in which the port has compared it with what it holds is at rest
compared_rest : (p : ℕ) (a : AnnounceView) (now : ℕ) (s : SystemState) → SaysAgain (held_at s p) (own s p) a
    → IsAtRest s → IsAtRest (compared p a now s)
compared_rest p a now s says r =
    still_rest p (λ h. held_when_heard (comparison h (own s p) a) h (reception a (own s p) now)) s
    (λ h there.
    let here : held_at s p ≡ h = ap (λ o. option_map_or (λ x. x) o helds.Disabled) there in
    says_still h (own s p) a now (subst (λ x. SaysAgain x (own s p) a) here says))
    r

-- what a port received doesn't let it announce
received_silent : (q : Port) (h : Held) (r : Reception) → received h ≡ Some r → announce_due q h ≡ None
received_silent q helds.Disabled r is = absurd (none-some r is)
received_silent q helds.Aged r is = absurd (none-some r is)
received_silent q (helds.Mine root steps) r is = absurd (none-some r is)
received_silent q (helds.Received x) r is = refl

-- so it leaves all timers but the Age timer of the port
pub again_leaves : (p : ℕ) (a : AnnounceView) (now : ℕ) (s s' : SystemState) → HearsAgain p a now s s'
    → Leaves (same_timer (timers.Age p)) s s'
again_leaves p a now s s' k =
    let hear : Held → Held = λ h. held_when_heard (comparison h (own s p) a) h (reception a (own s p) now) in
    subst (Leaves (same_timer (timers.Age p)) s) (sym k.state)
    (on_held_leaves p hear s
    (λ h q there.
    let here : held_at s p ≡ h = ap (λ o. option_map_or (λ x. x) o helds.Disabled) there in
    let still = says_still h (own s p) a now (subst (λ x. SaysAgain x (own s p) a) here k.says) in
    received_silent q (hear h) still.after still.is ∙ sym (received_silent q h still.before still.was)))

-- nothing is selected where it says it again
pub again_becomes : (p : ℕ) (a : AnnounceView) (now : ℕ) (s s' : SystemState) (sends : List Sending) (again : Bool)
    → again ≡ true
    → SelectsIf (replaces_held (comparison (held_at s p) (own s p) a) && not again) now (compared p a now s) s' sends
    → Becomes (compared p a now s) s' sends
again_becomes p a now s s' sends again is selects =
    subst (λ b. SelectsIf b now (compared p a now s) s' sends)
    (ap (λ b. replaces_held (comparison (held_at s p) (own s p) a) && not b) is
    ∙ out (replaces_held (comparison (held_at s p) (own s p) a))) selects
  where
    out : (b : Bool) → (b && not true) ≡ false
    out true = refl
    out false = refl

-- A system at rest counts as having selected where selection is left out after an Announce that says again what the
-- port received last.
pub selects_again_or_not : (p : ℕ) (a : AnnounceView) (now : ℕ) (s s' : SystemState) (sends : List Sending)
    (again : Bool) → (again ≡ true → SaysAgain (held_at s p) (own s p) a) → Qualified a (clock s) → AreHeld s
    → IsAtRest s
    → SelectsIf (replaces_held (comparison (held_at s p) (own s p) a) && not again) now (compared p a now s) s' sends
    → SelectsIf (replaces_held (comparison (held_at s p) (own s p) a)) now (compared p a now s) s' sends
selects_again_or_not p a now s s' sends again says qualified held rest selects = go again refl
  where
    heard : Bool
    heard = replaces_held (comparison (held_at s p) (own s p) a)

    left : (b : Bool) → (b && not false) ≡ b
    left true = refl
    left false = refl

    go : (b : Bool) → again ≡ b → SelectsIf heard now (compared p a now s) s' sends
    go false isn't =
        subst (λ b. SelectsIf b now (compared p a now s) s' sends) (ap (λ b. heard && not b) isn't ∙ left heard) selects
    go true is =
        let taken : heard ≡ true =
        ap replaces_held (repeated (held_at s p) (own s p) a (said (held_at s p) (own s p) a (says is))) in
        let k = again_becomes p a now s s' sends again is selects in
        let itself : Selects now (compared p a now s) (compared p a now s) [] =
        selects_itself now (compared p a now s) ((compared_touches p a now s qualified).held held)
        (compared_rest p a now s (says is) rest) in
        rw (taken, k.state, k.silent) itself
