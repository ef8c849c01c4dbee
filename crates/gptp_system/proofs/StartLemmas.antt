-- The ports of a new system, and what they hold.
use Rattle.std.proofs.Common.{◌≡◌, ℕ, zero, suc, ◌+◌, ◌<◌, ◌≤◌, ℤ, pos, List, [], ◌∷◌, ◌++◌, length, map, take, Some, slice_get, sym, ap, ◌∙◌, refl, arith}
use Rattle.std.specs.Prelude.{get_or, slice_index_or, slice_set}
use Rattle.std.specs.List.{range_with_len}
use Rattle.std.proofs.lemmas.List.FromFn.{length-map-range_with_len}
use Rattle.std.proofs.lemmas.Option.{none-some, same_Some}
use Rattle.gptp_receipt.specs.declared.held.Held.{Held}
use Rattle.gptp_receipt.specs.declared.held.Held.TheVariants as helds
use Rattle.gptp_setup.specs.declared.setup.Params.{Params}
use Rattle.gptp_system.specs.declared.port.Port.{Port}
use Rattle.gptp_system.specs.Start.{all_disabled, new_port, new_ports}

-- ---- ports

-- there are as many as intervals
pub length-new_ports : (clock : ℕ) (params : Params) (n : ℕ) (logs : List ℤ)
    → length (new_ports clock params n logs) ≡ length logs
length-new_ports clock params n [] = refl
length-new_ports clock params n (log ∷ logs) = let behind = length-new_ports clock params (n + 1) logs in omega arith

-- a port that announces at this interval
abbrev new_at : ℕ → Params → ℤ → ℕ → Port
new_at clock params log p = new_port (record { clock = clock; port = p }) params log

port_from : (clock : ℕ) (params : Params) (n : ℕ) (logs : List ℤ) (i : ℕ) (q : Port)
    → slice_get (new_ports clock params n logs) i ≡ Some q
    → (log : ℤ) × (slice_get logs i ≡ Some log) × (q ≡ new_at clock params log (n + i))
port_from clock params n [] i q there = absurd (none-some q there)
port_from clock params n (log ∷ logs) zero q there =
    let number : n ≡ n + 0 = omega arith in
    (log, refl, sym (same_Some (new_at clock params log n) q there) ∙ ap (new_at clock params log) number)
port_from clock params n (log ∷ logs) (suc i) q there =
    let (found, here, is) = port_from clock params (n + 1) logs i q there in
    let number : n + 1 + i ≡ n + suc i = omega arith in
    (found, here, is ∙ ap (new_at clock params found) number)

-- what stands at a place is the new port with its number that announces at the interval there
pub new_port_at : (clock : ℕ) (params : Params) (logs : List ℤ) (i : ℕ) (q : Port)
    → slice_get (new_ports clock params 1 logs) i ≡ Some q
    → (log : ℤ) × (slice_get logs i ≡ Some log)
    × (q ≡ new_port (record { clock = clock; port = suc i }) params log)
new_port_at clock params logs i q there =
    let (log, here, is) = port_from clock params 1 logs i q there in
    let number : 1 + i ≡ suc i = omega arith in
    (log, here, is ∙ ap (new_at clock params log) number)

-- one port more
pub new_ports-more : (clock : ℕ) (params : Params) (n i : ℕ) (logs : List ℤ) → i < length logs
    → new_ports clock params n (take (suc i) logs)
    ≡ new_ports clock params n (take i logs)
    ++ new_port (record { clock = clock; port = n + i }) params (get_or logs i (pos 0)) ∷ []
new_ports-more clock params n i [] within = absurd (omega arith)
new_ports-more clock params n zero (log ∷ logs) within =
    let number : n ≡ n + 0 = omega arith in
    ap (λ p. new_at clock params log p ∷ []) number
new_ports-more clock params n (suc i) (log ∷ logs) within =
    let behind = new_ports-more clock params (n + 1) i logs (omega arith) in
    let number : n + 1 + i ≡ n + suc i = omega arith in
    ap (λ qs. new_at clock params log n ∷ qs) behind
    ∙ ap (λ p. new_at clock params log n ∷ new_ports clock params (n + 1) (take i logs)
    ++ new_at clock params (get_or logs i (pos 0)) p ∷ []) number

-- ports, of which those at the first places are new, with these announce intervals
abbrev pub renewed : ℕ → Params → ℕ → List ℤ → List Port → List Port
renewed clock params n [] qs = qs
renewed clock params n (log ∷ logs) [] = []
renewed clock params n (log ∷ logs) (q ∷ qs) =
    new_port (record { clock = clock; port = n }) params log ∷ renewed clock params (n + 1) logs qs

-- one that isn't reached stays
pub renewed-behind : (clock : ℕ) (params : Params) (n i : ℕ) (logs : List ℤ) (qs : List Port) (d : Port)
    → length logs ≤ i → slice_index_or (renewed clock params n logs qs) i d ≡ slice_index_or qs i d
renewed-behind clock params n i [] qs d past = refl
renewed-behind clock params n i (log ∷ logs) [] d past = refl
renewed-behind clock params n zero (log ∷ logs) (q ∷ qs) d past = absurd (omega arith)
renewed-behind clock params n (suc i) (log ∷ logs) (q ∷ qs) d past =
    renewed-behind clock params (n + 1) i logs qs d (omega arith)

-- one port more
pub renewed-more : (clock : ℕ) (params : Params) (n i : ℕ) (logs : List ℤ) (qs : List Port) → i < length logs
    → length qs ≡ length logs
    → slice_set (renewed clock params n (take i logs) qs) i
    (new_port (record { clock = clock; port = n + i }) params (get_or logs i (pos 0)))
    ≡ renewed clock params n (take (suc i) logs) qs
renewed-more clock params n i [] qs within same = absurd (omega arith)
renewed-more clock params n i (log ∷ logs) [] within same = absurd (omega arith)
renewed-more clock params n zero (log ∷ logs) (q ∷ qs) within same =
    let number : n + 0 ≡ n = omega arith in
    ap (λ p. new_at clock params log p ∷ qs) number
renewed-more clock params n (suc i) (log ∷ logs) (q ∷ qs) within same =
    let behind = renewed-more clock params (n + 1) i logs qs (omega arith) (omega arith) in
    let number : n + suc i ≡ n + 1 + i = omega arith in
    ap (λ p. new_at clock params log n ∷ slice_set (renewed clock params (n + 1) (take i logs) qs) i
    (new_at clock params (get_or logs i (pos 0)) p)) number
    ∙ ap (λ rest. new_at clock params log n ∷ rest) behind

-- in the end all are new
pub renewed-all : (clock : ℕ) (params : Params) (n : ℕ) (logs : List ℤ) (qs : List Port) → length qs ≡ length logs
    → renewed clock params n logs qs ≡ new_ports clock params n logs
renewed-all clock params n [] [] same = refl
renewed-all clock params n [] (q ∷ qs) same = absurd (omega arith)
renewed-all clock params n (log ∷ logs) [] same = absurd (omega arith)
renewed-all clock params n (log ∷ logs) (q ∷ qs) same =
    ap (λ rest. new_at clock params log n ∷ rest) (renewed-all clock params (n + 1) logs qs (omega arith))

-- ---- what they hold

pub length-all_disabled : (n : ℕ) → length (all_disabled n) ≡ n
length-all_disabled n = length-map-range_with_len (λ p. helds.Disabled) 1 n

disabled_from : (a n i : ℕ) (h : Held) → slice_get (map (λ p. helds.Disabled) (range_with_len a n)) i ≡ Some h
    → h ≡ helds.Disabled
disabled_from a zero i h stands = absurd (none-some h stands)
disabled_from a (suc n) zero h stands = sym (same_Some helds.Disabled h stands)
disabled_from a (suc n) (suc i) h stands = disabled_from (a + 1) n i h stands

pub disabled_at : (n i : ℕ) (h : Held) → slice_get (all_disabled n) i ≡ Some h → h ≡ helds.Disabled
disabled_at n i h stands = disabled_from 1 n i h stands
