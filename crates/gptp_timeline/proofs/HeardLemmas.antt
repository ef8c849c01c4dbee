-- What an act says by which a system receives time: a Follow_Up, which the system used.
use Rattle.std.proofs.Common.{◌≡◌, ◌⊎◌, ◌%◌, ◌==◌, ℕ, ℤ, Bool, true, false, List, [], ◌∷◌, Option, Some, None, inl, inr, refl, sym, ap, subst, ◌∙◌, arith}
use Rattle.std.specs.Option.{option_map_or}
use Rattle.std.proofs.lemmas.Bool.Decides.{nat_tests}
use Rattle.std.proofs.lemmas.Option.{none-some, same_Some}
use Rattle.gptp_model.specs.Act.{Hears}
use Rattle.gptp_model.specs.Acts.{Acts, at}
use Rattle.gptp_model.specs.declared.done.Done.{Done}
use Rattle.gptp_model.specs.declared.done.Done.TheVariants.{Heard, Quiet}
use Rattle.gptp_model.specs.Views.{ShowsLive}
use Rattle.gptp_model.specs.World.{WorldState}
use Rattle.gptp_model.specs.World.{receiver as to}
use Rattle.gptp_invariants.specs.SyncExact.{IsExactInTime, IsHeardExact}
use Rattle.gptp_invariants.specs.SyncTimedLaws.{AreFollowUp}
use Rattle.gptp_links.specs.Fate.{Draw}
use Rattle.gptp_messages.specs.declared.message.Message.{Message}
use Rattle.gptp_messages.specs.declared.message.Message.TheVariants as messages
use Rattle.gptp_messages.specs.Grammar.{message_of, Reads}
use Rattle.gptp_messages.specs.Head.{head_of}
use Rattle.gptp_messages.specs.MessageType.{type_of}
use Rattle.gptp_messages.specs.Timestamp.{stamp_of}
use Rattle.gptp_scenario.specs.declared.change.Act.{Act}
use Rattle.gptp_scenario.specs.declared.change.Act.TheVariants.{Change as Changing, Deliver, Expire}
use Rattle.gptp_system.specs.declared.answer.Answer.{Answer}
use Rattle.gptp_system.specs.declared.answer.Answer.TheVariants as answers
use Rattle.gptp_system.specs.Input.{Frame as FrameHeard, Steps}
use Rattle.gptp_system.specs.State.{SystemState}
use Rattle.gptp_timeline.specs.Receipts.{is_follow_up, received_by, receiver_clock}
use Rattle.gptp_timeline.proofs.ActLemmas.{delivery_alone, OthersLive}

-- ---- what is told of a frame

-- the system with this clock receives time by a frame that was answered so
pub record IsReceipt (clock : ℕ) (answer : Option Answer) (octets : List ℕ) : Type 0 where
  pub is : receiver_clock clock answer octets ≡ Some clock
  pub used : answer ≡ Some answers.Used
  pub follow_up : is_follow_up octets ≡ true

-- it does, or nobody does
receipt_or_none : (clock : ℕ) (answer : Option Answer) (octets : List ℕ)
    → IsReceipt clock answer octets ⊎ (receiver_clock clock answer octets ≡ None)
receipt_or_none clock None octets = inr refl
receipt_or_none clock (Some answers.Used) octets = by (is_follow_up octets) refl
  where
    by : (t : Bool) → is_follow_up octets ≡ t
        → IsReceipt clock (Some answers.Used) octets ⊎ (receiver_clock clock (Some answers.Used) octets ≡ None)
    by true test = inl (record { is = rw test refl; used = refl; follow_up = test })
    by false test = inr (rw test refl)
receipt_or_none clock (Some answers.Disabled) octets = inr refl
receipt_or_none clock (Some (answers.Refused refused)) octets = inr refl
receipt_or_none clock (Some answers.Ignored) octets = inr refl
receipt_or_none clock (Some answers.Superior) octets = inr refl
receipt_or_none clock (Some answers.Repeated) octets = inr refl
receipt_or_none clock (Some answers.Inferior) octets = inr refl
receipt_or_none clock (Some answers.Own) octets = inr refl
receipt_or_none clock (Some answers.Steps) octets = inr refl
receipt_or_none clock (Some answers.Loop) octets = inr refl
receipt_or_none clock (Some answers.Long) octets = inr refl

-- who receives time by a delivery is who heard the frame
pub receiver_is : (clock : ℕ) (answer : Option Answer) (octets : List ℕ)
    → (receiver_clock clock answer octets ≡ Some clock) ⊎ (receiver_clock clock answer octets ≡ None)
receiver_is clock answer octets = elim (receipt_or_none clock answer octets) [
  | inl receipt ↦ inl receipt.is
  | inr none ↦ inr none
]

-- a system that receives time by a frame is the one that it reached
pub receipt_of : (name clock : ℕ) (answer : Option Answer) (octets : List ℕ)
    → option_map_or (λ c. c == name) (receiver_clock clock answer octets) false ≡ true
    → IsReceipt clock answer octets × (clock ≡ name)
receipt_of name clock answer octets own = by (receipt_or_none clock answer octets)
  where
    test : (received : Option ℕ) → receiver_clock clock answer octets ≡ received
        → option_map_or (λ c. c == name) received false ≡ true
    test received is = sym (ap (λ r. option_map_or (λ c. c == name) r false) is) ∙ own

    by : IsReceipt clock answer octets ⊎ (receiver_clock clock answer octets ≡ None)
        → IsReceipt clock answer octets × (clock ≡ name)
    by (inl receipt) = let same : clock == name ≡ true = test (Some clock) receipt.is in
        (receipt, grind (arith, nat_tests))
    by (inr none) = absurd (let no : false ≡ true = test None none in cc)

-- ---- what the octets are

-- a frame of this type that reads as a message is a Follow_Up
follow_up_read : (octets : List ℕ) (m : Message) → is_follow_up octets ≡ true → Reads octets m → AreFollowUp octets
follow_up_read [] m is reads = absurd cc
follow_up_read (octet ∷ octets) m is reads =
    let f : List ℕ = octet ∷ octets in
    let number : octet % 16 ≡ 8 = grind (arith, nat_tests) in
    let kind = same_Some reads.kind _ (sym reads.header.kind_is ∙ ap type_of number) in (
      record { head = head_of f; origin = stamp_of f; rate = reads.rate },
      subst (Reads f) (reads.is ∙ ap (λ k. message_of k f reads.path reads.rate) kind) reads,
    )

-- what a system uses reads as a message
pub heard_follow_up : (place port : ℕ) (octets : List ℕ) (w : WorldState) (draws : List Draw) (answer : Option Answer)
    (w' : WorldState) → Hears place port octets w draws answer w' → answer ≡ Some answers.Used
    → is_follow_up octets ≡ true → AreFollowUp octets
heard_follow_up place port octets w draws None w' hears used is = absurd (none-some answers.Used used)
heard_follow_up place port octets w draws (Some told) w' hears used is = by hears.steps
  where
    by : Steps (FrameHeard port octets) w.time hears.station.system hears.after hears.sends told → AreFollowUp octets
    by (inl k) = follow_up_read octets k.message is k.reads
    by (inr k) =
        absurd (let same : told ≡ answers.Used = same_Some told answers.Used used in let refused = k.answer_is in cc)

-- ---- an act

-- a system receives time by what is told
abbrev pub receives_by : ℕ → Done → Bool
receives_by name done = option_map_or (λ clock. clock == name) (received_by done) false

nobody : {X : Type 0} (name : ℕ) (done : Done) → done ≡ Quiet → receives_by name done ≡ true → X
nobody name done quiet own = absurd (let no : false ≡ true = sym (ap (receives_by name) quiet) ∙ own in cc)

-- where each Follow_Up that is used leaves an exact offset, so does each act by which a system receives time
pub received_exactly : (name time : ℕ) (act : Act) (w : WorldState) (draws : List Draw) (done : Done) (w' : WorldState)
    (s : SystemState) (offset : ℤ) → Acts act (at time w) draws done w' → receives_by name done ≡ true
    → IsHeardExact w time w' done → ShowsLive name w' s → s.offset ≡ Some offset → IsExactInTime name w time offset
received_exactly name time (Deliver link direction) w draws Quiet w' s offset k own exact shows left = absurd k.told
received_exactly name time (Deliver link direction) w draws (Heard clock port answer frame) w' s offset k own exact
    shows left =
    let (clock_is, port_is, told, octets) = k.told in
    let (receipt, same) = receipt_of name clock answer frame.items own in
    let d = k.delivers in
    let (m, reads) = heard_follow_up d.place (to direction d.channel).port k.octets (record (at time w) { net = d.net })
    draws k.answer w' d.hears (sym told ∙ receipt.used) (subst (λ o. is_follow_up o ≡ true) octets receipt.follow_up) in
    subst (λ n. IsExactInTime n w time offset) same
    (exact m s offset (subst (λ o. Reads o (messages.FollowUp m)) (sym octets) reads) receipt.used
    (subst (λ n. ShowsLive n w' s) (sym same) shows) left)
received_exactly name time (Expire number timer) w draws done w' s offset (quiet, rest) own exact shows left =
    nobody name done quiet own
received_exactly name time (Changing change) w draws done w' s offset (quiet, rest) own exact shows left =
    nobody name done quiet own

-- such an act leaves every other system as it was
pub receiver_alone : (name time : ℕ) (act : Act) (w : WorldState) (draws : List Draw) (done : Done) (w' : WorldState)
    → Acts act (at time w) draws done w' → receives_by name done ≡ true → OthersLive name w w'
receiver_alone name time (Deliver link direction) w draws Quiet w' k own = absurd k.told
receiver_alone name time (Deliver link direction) w draws (Heard clock port answer frame) w' k own =
    let (receipt, same) = receipt_of name clock answer frame.items own in
    subst (λ n. OthersLive n w w') same
    (delivery_alone link direction (Heard clock port answer frame) (at time w) draws w' k)
receiver_alone name time (Expire number timer) w draws done w' (quiet, rest) own = nobody name done quiet own
receiver_alone name time (Changing change) w draws done w' (quiet, rest) own = nobody name done quiet own
