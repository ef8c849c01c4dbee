-- What touches come of which inputs.
use Rattle.std.proofs.Common.{◌≡◌, ◌≢◌, ◌⊎◌, ◌<◌, ◌+◌, ◌*◌, ◌^◌, ◌%◌, ℕ, true, List, Some, refl, sym, ap, subst, ◌∙◌, inl, inr, arith}
use Rattle.std.specs.Prelude.{⊤}
use Rattle.gptp_messages.specs.declared.announce.AnnounceView.{AnnounceView}
use Rattle.gptp_messages.specs.declared.message.Message.TheVariants as messages
use Rattle.gptp_messages.specs.Grammar.{Reads}
use Rattle.gptp_system.specs.declared.answer.Answer.{Answer}
use Rattle.gptp_system.specs.declared.sending.Sending.{Sending}
use Rattle.gptp_setup.specs.declared.timer.Timer.TheVariants as timers
use Rattle.gptp_system.specs.Input.{Input, Steps, PortUp, PortDown, Frame, Expires, Priority}
use Rattle.gptp_system.specs.State.{SystemState, is_capable_at}
use Rattle.gptp_system.specs.Touch.{Touch, Hear, Tick, Grow, Enable, Disable, Other, IsFrameSeenAs, IsSeenAs, IsTurn}
use Rattle.gptp_system.proofs.StepLemmas.{steps_steady}
use Rattle.gptp_bmca_machine.specs.Frame.{Announce}
use Rattle.gptp_bmca_machine.specs.Touch as touches
use Rattle.gptp_invariants.specs.WorldEncodable.{SayWhatFits, SystemFits}
use Rattle.gptp_invariants.specs.ChoiceView.{said, touch_view}
use Rattle.gptp_invariants.proofs.WorldFitLemmas.{HeardFits}

-- ---- what is heard

turn_deaf : (p : ℕ) (touch : Touch) → IsTurn p touch → (n : ℕ) (a : AnnounceView) → touch ≡ Hear n a → ⊥
turn_deaf p touch (inl is) n a heard = let both = sym is ∙ heard in cc
turn_deaf p touch (inr (inl is)) n a heard = let both = sym is ∙ heard in cc
turn_deaf p touch (inr (inr is)) n a heard = let both = sym is ∙ heard in cc

turn_young : (p : ℕ) (touch : Touch) → IsTurn p touch → (n : ℕ) → touch ≡ Grow n → ⊥
turn_young p touch (inl is) n grown = let both = sym is ∙ grown in cc
turn_young p touch (inr (inl is)) n grown = let both = sym is ∙ grown in cc
turn_young p touch (inr (inr is)) n grown = let both = sym is ∙ grown in cc

-- an Announce is heard where the input is a frame that reads as it
abbrev pub IsHeardIn : Input → ℕ → AnnounceView → Type 0
IsHeardIn input n a = (octets : List ℕ) × (input ≡ Frame n octets) × Reads octets (messages.Announce a)

same_hear : (n m : ℕ) (a b : AnnounceView) → Hear n a ≡ Hear m b → (n ≡ m) × (a ≡ b)
same_hear n m a b e = (cc, cc)

same_grow : (n m : ℕ) → Grow n ≡ Grow m → n ≡ m
same_grow n m e = cc

frame_heard : (s : SystemState) (p : ℕ) (octets : List ℕ) (touch : Touch) → IsFrameSeenAs s p octets touch → (n : ℕ)
    (a : AnnounceView) → touch ≡ Hear n a → IsHeardIn (Frame p octets) n a
frame_heard s p octets touch (inl (b, reads, on, is)) n a heard =
    let same = same_hear p n b a (sym is ∙ heard) in (
      octets,
      ap (λ k. Frame k octets) same.0,
      subst (λ x. Reads octets (messages.Announce x)) same.1 reads,
    )
frame_heard s p octets touch (inr (off, turn)) n a heard = absurd (turn_deaf p touch turn n a heard)

pub heard_in : (s : SystemState) (input : Input) (touch : Touch) → IsSeenAs s input touch → (n : ℕ) (a : AnnounceView)
    → touch ≡ Hear n a → IsHeardIn input n a
heard_in s (PortUp p) touch seen n a heard = absurd (turn_deaf p touch seen n a heard)
heard_in s (PortDown p) touch seen n a heard = absurd (let both = sym seen ∙ heard in cc)
heard_in s (Frame p octets) touch seen n a heard = frame_heard s p octets touch seen n a heard
heard_in s (Expires (timers.Announce p)) touch seen n a heard = absurd (let both = sym seen ∙ heard in cc)
heard_in s (Expires (timers.Age p)) touch seen n a heard = absurd (let both = sym seen ∙ heard in cc)
heard_in s (Expires (timers.Pdelay p)) touch seen n a heard = absurd (turn_deaf p touch seen n a heard)
heard_in s (Expires (timers.Respond p)) touch seen n a heard = absurd (let both = sym seen ∙ heard in cc)
heard_in s (Expires timers.Sync) touch seen n a heard = absurd (let both = sym seen ∙ heard in cc)
heard_in s (Expires timers.Relay) touch seen n a heard = absurd (let both = sym seen ∙ heard in cc)
heard_in s (Expires timers.Lapse) touch (inl (p, r, slave, got, is)) n a heard =
    absurd (let both = sym is ∙ heard in cc)
heard_in s (Expires timers.Lapse) touch (inr (none, is)) n a heard = absurd (let both = sym is ∙ heard in cc)
heard_in s (Priority value) touch seen n a heard = absurd (let both = sym seen ∙ heard in cc)

-- no frame makes what is held too old
pub frame_young : (s : SystemState) (p : ℕ) (octets : List ℕ) (touch : Touch) → IsFrameSeenAs s p octets touch
    → (n : ℕ) → touch ≡ Grow n → ⊥
frame_young s p octets touch (inl (a, reads, on, is)) n grown = let both = sym is ∙ grown in cc
frame_young s p octets touch (inr (off, turn)) n grown = turn_young p touch turn n grown

-- what is held ages by its own timer, or at the Slave port by the Lapse timer
abbrev pub Ages : SystemState → Input → ℕ → Type 0
Ages s input n =
    (input ≡ Expires (timers.Age n)) ⊎ ((input ≡ Expires timers.Lapse) × (s.slave ≡ Some n))

pub grown_by : (s : SystemState) (input : Input) (touch : Touch) → IsSeenAs s input touch → (n : ℕ)
    → touch ≡ Grow n → Ages s input n
grown_by s (PortUp p) touch seen n grown = absurd (turn_young p touch seen n grown)
grown_by s (PortDown p) touch seen n grown = absurd (let both = sym seen ∙ grown in cc)
grown_by s (Frame p octets) touch seen n grown = absurd (frame_young s p octets touch seen n grown)
grown_by s (Expires (timers.Announce p)) touch seen n grown = absurd (let both = sym seen ∙ grown in cc)
grown_by s (Expires (timers.Age p)) touch seen n grown =
    inl (ap (λ k. Expires (timers.Age k)) (same_grow p n (sym seen ∙ grown)))
grown_by s (Expires (timers.Pdelay p)) touch seen n grown = absurd (turn_young p touch seen n grown)
grown_by s (Expires (timers.Respond p)) touch seen n grown = absurd (let both = sym seen ∙ grown in cc)
grown_by s (Expires timers.Sync) touch seen n grown = absurd (let both = sym seen ∙ grown in cc)
grown_by s (Expires timers.Relay) touch seen n grown = absurd (let both = sym seen ∙ grown in cc)
grown_by s (Expires timers.Lapse) touch (inl (p, r, slave, got, is)) n grown =
    inr (refl, slave ∙ ap Some (same_grow p n (sym is ∙ grown)))
grown_by s (Expires timers.Lapse) touch (inr (none, is)) n grown = absurd (let both = sym is ∙ grown in cc)
grown_by s (Priority value) touch seen n grown = absurd (let both = sym seen ∙ grown in cc)

-- a capable port hears what reads as an Announce
pub capable_hears : (s : SystemState) (p : ℕ) (octets : List ℕ) (touch : Touch) → IsFrameSeenAs s p octets touch
    → is_capable_at s p ≡ true → (a : AnnounceView) → Reads octets (messages.Announce a)
    → (b : AnnounceView) × (touch ≡ Hear p b)
capable_hears s p octets touch (inl (b, reads, on, is)) capable a also = (b, is)
capable_hears s p octets touch (inr (off, turn)) capable a also = absurd (let both = sym capable ∙ off a also in cc)

-- ---- as the machine sees it

pub hear_back : (touch : Touch) (n : ℕ) (a : Announce) → touch_view touch ≡ touches.Hear n a
    → (b : AnnounceView) × (touch ≡ Hear n b) × (a ≡ said b)
hear_back (Hear p b) n a e = (b, ap (λ k. Hear k b) (ports p n (said b) a e).0, sym (ports p n (said b) a e).1)
  where
    ports : (p n : ℕ) (x y : Announce) → touches.Hear p x ≡ touches.Hear n y → (p ≡ n) × (x ≡ y)
    ports p n x y e = (cc, cc)
hear_back (Tick p) n a e = absurd cc
hear_back (Grow p) n a e = absurd cc
hear_back (Enable p) n a e = absurd cc
hear_back (Disable p) n a e = absurd cc
hear_back Other n a e = absurd cc

pub grow_back : (touch : Touch) (n : ℕ) → touch_view touch ≡ touches.Grow n → touch ≡ Grow n
grow_back (Hear p b) n e = absurd cc
grow_back (Tick p) n e = absurd cc
grow_back (Grow p) n e = ap Grow (ports p n e)
  where
    ports : (p n : ℕ) → touches.Grow p ≡ touches.Grow n → p ≡ n
    ports p n e = cc
grow_back (Enable p) n e = absurd cc
grow_back (Disable p) n e = absurd cc
grow_back Other n e = absurd cc

-- ---- inputs that fit

-- a frame says what fits, and priority1 is an octet
abbrev pub InputFits : Input → Type 0
InputFits (Frame p octets) = SayWhatFits octets
InputFits (Priority value) = value < 256
InputFits input = ⊤

frame_fits : (input : Input) (n : ℕ) (octets : List ℕ) → input ≡ Frame n octets → InputFits input → SayWhatFits octets
frame_fits input n octets is fits = subst InputFits is fits

pub heard_fits : (s : SystemState) (input : Input) (touch : Touch) → InputFits input → IsSeenAs s input touch
    → HeardFits touch
heard_fits s input touch fits seen p a heard =
    let (octets, is, reads) = heard_in s input touch seen p a heard in
    frame_fits input p octets is fits a reads

kept : (input : Input) (now : ℕ) (s s' : SystemState) (sends : List Sending) (answer : Answer)
    → ((value : ℕ) → input ≢ Priority value) → SystemFits s → Steps input now s s' sends answer
    → s'.identity < 2 ^ 112
kept input now s s' sends answer other all k =
    subst (λ n. n < 2 ^ 112) (sym (steps_steady input now s s' sends answer other k).identity) all.identity

-- the identity stays, but for its first octet
pub identity_fits : (input : Input) (now : ℕ) (s s' : SystemState) (sends : List Sending) (answer : Answer)
    → InputFits input → SystemFits s → Steps input now s s' sends answer → s'.identity < 2 ^ 112
identity_fits (Priority value) now s s' sends answer fits all k =
    let is : s'.identity ≡ value * 2 ^ 104 + s.identity % 2 ^ 104 = ap (λ (x : SystemState). x.identity) k.state in
    omega arith
identity_fits (PortUp p) now s s' sends answer fits all k =
    kept (PortUp p) now s s' sends answer (λ value e. absurd cc) all k
identity_fits (PortDown p) now s s' sends answer fits all k =
    kept (PortDown p) now s s' sends answer (λ value e. absurd cc) all k
identity_fits (Frame p octets) now s s' sends answer fits all k =
    kept (Frame p octets) now s s' sends answer (λ value e. absurd cc) all k
identity_fits (Expires timer) now s s' sends answer fits all k =
    kept (Expires timer) now s s' sends answer (λ value e. absurd cc) all k
