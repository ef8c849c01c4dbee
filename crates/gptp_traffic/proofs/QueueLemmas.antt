-- What is listed for each direction of a link.
use Rattle.std.proofs.Common.{◌≡◌, ℕ, ◌<◌, List, [], ◌∷◌, length, Option, Some, None, is_some, false, slice_get, refl, sym, ap}
use Rattle.std.specs.Prelude.{IfNone}
use Rattle.std.proofs.lemmas.Option.{none-some, same_Some}
use Rattle.std.proofs.lemmas.List.{get_or-set_same, get_or-set_other}
use Rattle.gptp_chain.specs.Queues.{QueuesState, queue_at, with_queue_at}

pub queue-same : (pending_index : QueuesState ℕ) (place : ℕ) (queue : List ℕ) (room : ℕ)
    → place < length pending_index.queues
    → queue_at place (with_queue_at place queue room pending_index) ≡ queue
queue-same pending_index place queue room within = get_or-set_same pending_index.queues place queue [] within

pub queue-other : (pending_index : QueuesState ℕ) (place other : ℕ) (queue : List ℕ) (room : ℕ)
    → (other ≡ place → ⊥)
    → queue_at other (with_queue_at place queue room pending_index) ≡ queue_at other pending_index
queue-other pending_index place other queue room differ = get_or-set_other pending_index.queues place other
    queue [] differ

-- the first of a queue, and that there is none
pub front_is : {X : Type 0} (xs : List X) (x : X) → Some x ≡ slice_get xs 0 → (rest : List X) × (xs ≡ x ∷ rest)
front_is [] x is = absurd (none-some x (sym is))
front_is (y ∷ xs) x is = (xs, ap (λ z. z ∷ xs) (same_Some y x (sym is)))

pub no_front : {X : Type 0} (xs : List X) → None ≡ slice_get xs 0 → xs ≡ []
no_front [] is = refl
no_front (y ∷ xs) is = absurd (none-some y is)

pub if_none : {X : Type 0} (o : Option X) (P : Type 0) → is_some o ≡ false → IfNone o P → P
if_none None P none p = p
if_none (Some x) P none p = absurd cc
