-- Queues of values.
use Rattle.std.specs.Prelude.{ℕ, List, [], slice_index_or, slice_set, refl}
use Rattle.std.specs.Coded.{Coded, code_by, coded×, coded_ℕ, coded_list}

-- the values of each queue, in order of putting, and how many more can be put
pub record QueuesState (T : Type 0) : Type 0 where
  pub queues : List (List T)
  pub room : ℕ

-- it is stored as the pair of its fields
abbrev pub queues_code : {T : Type 0} → Coded T → Coded (QueuesState T)
queues_code {T} code =
    code_by
    (List (List T) × ℕ)
    (coded× (coded_list (coded_list code)) coded_ℕ)
    (λ q. (q.queues, q.room))
    (λ p. record { queues = p.0; room = p.1 })
    (λ _. refl)

module _ {T : Type 0} where
  -- the values at a place
  abbrev pub queue_at : ℕ → QueuesState T → List T
  queue_at place state = slice_index_or state.queues place []

  -- the values at a place are these, and there is so much room
  abbrev pub with_queue_at : ℕ → List T → ℕ → QueuesState T → QueuesState T
  with_queue_at place queue room state = record { queues = slice_set state.queues place queue; room = room }
