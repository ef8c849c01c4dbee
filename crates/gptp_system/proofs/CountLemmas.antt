-- How many sends of a step are such, and at which ports they go.
use Rattle.std.proofs.Common.{◌≡◌, ◌≤◌, ◌<◌, ℕ, suc, ◌+◌, ◌*◌, ℤ, Bool, true, false, List, [], ◌∷◌, ◌++◌, length, take, drop, refl, sym, ap, ◌∙◌, inl, inr, arith, take-append-drop}
use Rattle.std.specs.Prelude.{if◌then◌else◌}
use Rattle.std.proofs.lemmas.Bool.{cases_Bool}
use Rattle.std.proofs.lemmas.List.{length-append}
use Rattle.std.proofs.lemmas.Option.{slice_get_within}
use Rattle.gptp_lists.specs.Members.{In}
use Rattle.gptp_correction.specs.declared.correction.Relayed.{Relayed}
use Rattle.gptp_receipt.specs.declared.held.Held.{Held}
use Rattle.gptp_vector.specs.declared.port.PortId.{PortId}
use Rattle.gptp_system.specs.declared.port.Port.{Port}
use Rattle.gptp_system.specs.declared.sending.Sending.{Sending}
use Rattle.gptp_system.specs.State.{is_mine}
use Rattle.gptp_system.specs.Sends.{announcement, count_such, sends_up_to, with_send}
use Rattle.gptp_system.specs.Selection.{announcements}
use Rattle.gptp_system.specs.Syncing.{follow_up_of, sync_of, syncs}
use Rattle.gptp_system.proofs.EndLemmas.{from_announcements}

-- ---- any sends

pub count-append : (such : Sending → Bool) (xs ys : List Sending)
    → count_such such (xs ++ ys) ≡ count_such such xs + count_such such ys
count-append such [] ys = omega arith
count-append such (x ∷ xs) ys = go (such x) (count-append such xs ys)
  where
    go : (b : Bool) → count_such such (xs ++ ys) ≡ count_such such xs + count_such such ys
        → (if b then 1 + count_such such (xs ++ ys) else count_such such (xs ++ ys))
        ≡ (if b then 1 + count_such such xs else count_such such xs) + count_such such ys
    go true ih = omega arith
    go false ih = ih

pub count-length : (such : Sending → Bool) (xs : List Sending) → count_such such xs ≤ length xs
count-length such [] = omega arith
count-length such (x ∷ xs) = go (such x) (count-length such xs)
  where
    go : (b : Bool) → count_such such xs ≤ length xs
        → (if b then 1 + count_such such xs else count_such such xs) ≤ suc (length xs)
    go true ih = omega arith
    go false ih = omega arith

-- one is such
pub count-first : (such : Sending → Bool) (x : Sending) (xs : List Sending) → such x ≡ true
    → count_such such (x ∷ xs) ≡ 1 + count_such such xs
count-first such x xs is = rw is refl

pub count-other : (such : Sending → Bool) (x : Sending) (xs : List Sending) → such x ≡ false
    → count_such such (x ∷ xs) ≡ count_such such xs
count-other such x xs is = rw is refl

-- none is such
pub count-none : (such : Sending → Bool) (xs : List Sending) → ((x : Sending) → In x xs → such x ≡ false)
    → count_such such xs ≡ 0
count-none such [] none = refl
count-none such (x ∷ xs) none =
    count-other such x xs (none x (inl refl)) ∙ count-none such xs (λ y member. none y (inr member))

pub count-some : (such : Sending → Bool) (xs : List Sending) (x : Sending) → In x xs → such x ≡ true
    → 1 ≤ count_such such xs
count-some such [] x member is = absurd member
count-some such (y ∷ xs) x (inl here) is =
    let first = count-first such y xs (sym (ap such here) ∙ is) in omega arith
count-some such (y ∷ xs) x (inr later) is = go (such y) (count-some such xs x later is)
  where
    go : (b : Bool) → 1 ≤ count_such such xs → 1 ≤ (if b then 1 + count_such such xs else count_such such xs)
    go true ih = omega arith
    go false ih = ih

-- one send more counts wherever it goes
pub count-with_send : (such : Sending → Bool) (x : Sending) (xs : List Sending)
    → count_such such (with_send x xs) ≡ count_such such (x ∷ xs)
count-with_send such x xs =
    let front = take (sends_up_to x.port xs) xs in
    let back = drop (sends_up_to x.port xs) xs in
    let one = count-append such front (x ∷ back) in
    let all = ap (count_such such) (sym (take-append-drop (sends_up_to x.port xs) xs)) ∙ count-append such front back in
    go (such x) one all
  where
    go : (b : Bool)
        → count_such such (with_send x xs)
        ≡ count_such such (take (sends_up_to x.port xs) xs)
        + (if b then 1 + count_such such (drop (sends_up_to x.port xs) xs) else count_such such
        (drop (sends_up_to x.port xs) xs))
        → count_such such xs
        ≡ count_such such (take (sends_up_to x.port xs) xs) + count_such such (drop (sends_up_to x.port xs) xs)
        → count_such such (with_send x xs) ≡ (if b then 1 + count_such such xs else count_such such xs)
    go true one all = omega arith
    go false one all = omega arith

pub length-with_send : (x : Sending) (xs : List Sending) → length (with_send x xs) ≡ length xs + 1
length-with_send x xs =
    let front = take (sends_up_to x.port xs) xs in
    let back = drop (sends_up_to x.port xs) xs in
    let one = length-append front (x ∷ back) in
    let all = ap length (sym (take-append-drop (sends_up_to x.port xs) xs)) ∙ length-append front back in
    omega arith

-- such sends go at one port alone
abbrev pub IsOnlyAt : (Sending → Bool) → ℕ → Type 0
IsOnlyAt such p = (x : Sending) → such x ≡ true → x.port ≡ p

-- where all go at higher ports, none is such
none_above : (such : Sending → Bool) (p : ℕ) → IsOnlyAt such p → (xs : List Sending)
    → ((x : Sending) → In x xs → p + 1 ≤ x.port) → count_such such xs ≡ 0
none_above such p only xs above =
    count-none such xs
    (λ x member.
    elim (cases_Bool (such x)) [
      | inl is ↦ absurd (let here = only x is in let higher = above x member in omega arith)
      | inr other ↦ other
    ])

-- ---- Announces of marked ports

pub announcements_ports : (c root steps n : ℕ) (fs : List Bool) (qs : List Port) (x : Sending)
    → In x (announcements c root steps n fs qs) → (n ≤ x.port) × (x.port < n + length qs)
announcements_ports c root steps n fs qs x member =
    let (i, q, marked, there, is) = from_announcements c root steps n fs qs x member in
    let port : x.port ≡ n + i = ap (λ (y : Sending). y.port) is in
    let within = slice_get_within qs i q there in
    (omega arith, omega arith)

pub announcements_length : (c root steps n : ℕ) (fs : List Bool) (qs : List Port)
    → length (announcements c root steps n fs qs) ≤ length qs
announcements_length c root steps n [] qs = omega arith
announcements_length c root steps n (f ∷ fs) [] = omega arith
announcements_length c root steps n (f ∷ fs) (q ∷ qs) = go f (announcements_length c root steps (n + 1) fs qs)
  where
    rest : List Sending
    rest = announcements c root steps (n + 1) fs qs

    first : Sending
    first = announcement (record { clock = c; port = n }) root steps q

    go : (b : Bool) → length rest ≤ length qs → length (if b then first ∷ rest else rest) ≤ suc (length qs)
    go true ih = omega arith
    go false ih = omega arith

-- each port announces once at most
pub announcements_once : (such : Sending → Bool) (p : ℕ) → IsOnlyAt such p → (c root steps n : ℕ) (fs : List Bool)
    (qs : List Port) → count_such such (announcements c root steps n fs qs) ≤ 1
announcements_once such p only c root steps n [] qs = omega arith
announcements_once such p only c root steps n (f ∷ fs) [] = omega arith
announcements_once such p only c root steps n (f ∷ fs) (q ∷ qs) =
    go f (such first) refl (announcements_once such p only c root steps (n + 1) fs qs)
  where
    rest : List Sending
    rest = announcements c root steps (n + 1) fs qs

    first : Sending
    first = announcement (record { clock = c; port = n }) root steps q

    go : (b one : Bool) → such first ≡ one → count_such such rest ≤ 1
        → count_such such (if b then first ∷ rest else rest) ≤ 1
    go false one is ih = ih
    go true false is ih = let other = count-other such first rest is in omega arith
    go true true is ih =
        let here : n ≡ p = only first is in
        let none =
        none_above such p only rest
        (λ x member. let higher = (announcements_ports c root steps (n + 1) fs qs x member).0 in omega arith) in
        let one = count-first such first rest is in
        omega arith

-- ---- Sync and Follow_Up of Master ports

pub syncs_ports : (c : ℕ) (log : ℤ) (told : Relayed) (n : ℕ) (hs : List Held) (qs : List Port) (x : Sending)
    → In x (syncs c log told n hs qs) → (n ≤ x.port) × (x.port < n + length qs)
syncs_ports c log told n [] qs x member = absurd member
syncs_ports c log told n (h ∷ hs) [] x member = absurd member
syncs_ports c log told n (h ∷ hs) (q ∷ qs) x member =
    go (is_mine h) (λ later. syncs_ports c log told (n + 1) hs qs x later) member
  where
    own : PortId
    own = record { clock = c; port = n }

    rest : List Sending
    rest = syncs c log told (n + 1) hs qs

    behind : (n + 1 ≤ x.port) × (x.port < n + 1 + length qs) → (n ≤ x.port) × (x.port < n + suc (length qs))
    behind (least, most) = (omega arith, omega arith)

    here : x.port ≡ n → (n ≤ x.port) × (x.port < n + suc (length qs))
    here is = (omega arith, omega arith)

    go : (b : Bool) → (In x rest → (n + 1 ≤ x.port) × (x.port < n + 1 + length qs))
        → In x (if b then sync_of own log q ∷ follow_up_of own log told q ∷ rest else rest)
        → (n ≤ x.port) × (x.port < n + suc (length qs))
    go true ih (inl is) = here (ap (λ (y : Sending). y.port) is)
    go true ih (inr (inl is)) = here (ap (λ (y : Sending). y.port) is)
    go true ih (inr (inr later)) = behind (ih later)
    go false ih later = behind (ih later)

pub syncs_length : (c : ℕ) (log : ℤ) (told : Relayed) (n : ℕ) (hs : List Held) (qs : List Port)
    → length (syncs c log told n hs qs) ≤ 2 * length qs
syncs_length c log told n [] qs = omega arith
syncs_length c log told n (h ∷ hs) [] = omega arith
syncs_length c log told n (h ∷ hs) (q ∷ qs) = go (is_mine h) (syncs_length c log told (n + 1) hs qs)
  where
    own : PortId
    own = record { clock = c; port = n }

    rest : List Sending
    rest = syncs c log told (n + 1) hs qs

    go : (b : Bool) → length rest ≤ 2 * length qs
        → length (if b then sync_of own log q ∷ follow_up_of own log told q ∷ rest else rest) ≤ 2 * suc (length qs)
    go true ih = omega arith
    go false ih = omega arith

-- each port tells time once at most, by two messages of which this many are such
pub syncs_once : (such : Sending → Bool) (p : ℕ) → IsOnlyAt such p → (log : ℤ) (told : Relayed) (k : ℕ)
    → ((own : PortId) (q : Port) → count_such such (sync_of own log q ∷ follow_up_of own log told q ∷ []) ≤ k)
    → (c n : ℕ) (hs : List Held) (qs : List Port) → count_such such (syncs c log told n hs qs) ≤ k
syncs_once such p only log told k few c n [] qs = omega arith
syncs_once such p only log told k few c n (h ∷ hs) [] = omega arith
syncs_once such p only log told k few c n (h ∷ hs) (q ∷ qs) =
    go (is_mine h) (such sync) (such follow_up) refl refl (syncs_once such p only log told k few c (n + 1) hs qs)
  where
    own : PortId
    own = record { clock = c; port = n }

    rest : List Sending
    rest = syncs c log told (n + 1) hs qs

    sync : Sending
    sync = sync_of own log q

    follow_up : Sending
    follow_up = follow_up_of own log told q

    pair : count_such such (sync ∷ follow_up ∷ rest) ≡ count_such such (sync ∷ follow_up ∷ []) + count_such such rest
    pair = count-append such (sync ∷ follow_up ∷ []) rest

    here : n ≡ p → count_such such (sync ∷ follow_up ∷ rest) ≤ k
    here is =
        let none =
        none_above such p only rest
        (λ x member. let higher = (syncs_ports c log told (n + 1) hs qs x member).0 in omega arith) in
        let both = few own q in
        omega (arith, pair)

    go : (b one two : Bool) → such sync ≡ one → such follow_up ≡ two → count_such such rest ≤ k
        → count_such such (if b then sync ∷ follow_up ∷ rest else rest) ≤ k
    go false one two first second ih = ih
    go true true two first second ih = here (only sync first)
    go true false true first second ih = here (only follow_up second)
    go true false false first second ih =
        let a = count-other such sync (follow_up ∷ rest) first in
        let b = count-other such follow_up rest second in
        omega arith
