use Rattle.std.proofs.Common.{◌≡◌, ℕ, suc, ◌+◌, ◌-◌, ◌<◌, ◌≤◌, List, [], ◌∷◌, length, get_or, take, ℤ, ◌+ℤ◌}
use Rattle.std.proofs.Common.{Result, Ok, Err, OkIff, ap, sym, ◌∙◌, refl, arith, add-one}
use Rattle.std.specs.Result.{IsErr}
use Rattle.std.proofs.lemmas.Bool.{false≢true}
use Rattle.std.proofs.lemmas.Int.{ints}
use Rattle.std.proofs.lemmas.List.{get_or_read, get_or-take, length-take-le}
use borrow.Author.Count.{below_more}
use Rattle.gptp_scaled.specs.Rate.{scaled_by}
use Rattle.gptp_correction.specs.declared.correction.Hop.{Hop}
use Rattle.gptp_correction.specs.declared.correction.Carried.{Carried}
use Rattle.gptp_correction.specs.Sum.{sum_below}
use Rattle.gptp_correction.specs.Correction.{carried_on, passage, receipt, BridgeFits, SlaveFits}
use Rattle.gptp_correction.specs.Carry.{added_at, carried_to, carry_of, hop_at, link_time_at, neighbour_at, rate_at}
use Rattle.gptp_correction.specs.Carry.{residence_at, BridgeFitsAt, CarryFits, SlaveFitsAt}

-- a refusal is right where the fact doesn't hold
pub OkIff-from_err : {T E : Type 0} → (r : Result T E) (P : Type 0) (v : T) → IsErr r → (P → ⊥) → OkIff r P v
OkIff-from_err (Err e) P v h f = f
OkIff-from_err (Ok x) P v h f = absurd (false≢true h)

-- an answer stays right where the fact is said in another way
OkIff-along : {T E : Type 0} → (r : Result T E) (P Q : Type 0) (v w : T) → (P → Q) → (Q → P) → v ≡ w → OkIff r P v →
    OkIff r Q w
OkIff-along (Ok x) P Q v w to from e h = (to h.0, h.1 ∙ e)
OkIff-along (Err e) P Q v w to from _ h = λ q. h (from q)

-- a bridge adds the delay of its link and its residence
pub relays : (hops : List Hop) (n : ℕ) → carried_on (carried_to hops n) (hop_at hops n) ≡ carried_to hops (suc n)
relays hops n =
    let e : passage (hop_at hops n) ≡ link_time_at hops n +ℤ residence_at hops n = omega (arith, ints) in
    ap (λ t. carried_by (rate_at hops n) (sum_below n (added_at hops)) t) e
  where
    carried_by : ℤ → ℤ → ℤ → Carried
    carried_by rate before time = record { correction = before +ℤ scaled_by rate time; rate = rate }

-- the hop h is that at place n, and not the last
pub record IsBridge (hops : List Hop) (n : ℕ) (h : Hop) : Type 0 where
  pub is : h ≡ hop_at hops n
  pub more : suc n < length hops

-- the hop h is that at place n, and the last
pub record IsSlave (hops : List Hop) (n : ℕ) (h : Hop) : Type 0 where
  pub is : h ≡ hop_at hops n
  pub last : length hops ≡ suc n

-- an item of the slice of bridges is a bridge
pub bridge_read : (hops : List Hop) (n : ℕ) (h : Hop) → let bridges = take (length hops - 1) hops in
    n < length bridges → h ≡ get_or bridges n h → IsBridge hops n h
bridge_read hops n h k e =
    let l = length-take-le (length hops - 1) hops (omega arith) in
    let f = get_or-take (length hops - 1) hops n h (omega arith) in
    record { is = get_or_read hops n h (omega arith) (e ∙ f) _; more = omega arith }

-- the item after them is the slave
pub slave_read : (hops : List Hop) (n : ℕ) (h : Hop) → let bridges = take (length hops - 1) hops in
    1 ≤ length hops → n ≤ length bridges → length bridges ≤ n → h ≡ get_or hops (length hops - 1) h → IsSlave hops n h
slave_read hops n h some low high e =
    let l = length-take-le (length hops - 1) hops (omega arith) in
    let p : length hops - 1 ≡ n = omega arith in
    record { is = get_or_read hops n h (omega arith) (rw p at e) _; last = omega arith }

-- the first n hops relayed: this is what they carried on, and every number fit
pub record Went (hops : List Hop) (n : ℕ) (c : Carried) : Type 0 where
  pub carried : c ≡ carried_to hops n
  pub fits : (i : ℕ) → i < n → BridgeFitsAt hops i

-- what one more bridge carries on
on_is : (hops : List Hop) (n : ℕ) (c : Carried) (h : Hop) → Went hops n c → h ≡ hop_at hops n →
    carried_on c h ≡ carried_to hops (suc n)
on_is hops n c h w e = rw (w.carried, e) (relays hops n)

-- one more bridge relayed
pub went_on : (hops : List Hop) (n : ℕ) (c d : Carried) (h : Hop) → Went hops n c → IsBridge hops n h →
    BridgeFits h (carried_on c h) × (d ≡ carried_on c h) → Went hops (n + 1) d
went_on hops n c d h w b (fits, is) =
    let sent = on_is hops n c h w b.is in
    let here : BridgeFitsAt hops n = rw (sent, b.is) at fits in
    record { carried = rw add-one (is ∙ sent); fits = below_more (BridgeFitsAt hops) n w.fits here }

-- a bridge that doesn't relay stops the way
pub stopped : (hops : List Hop) (n : ℕ) (c : Carried) (h : Hop) (origin : ℤ) → Went hops n c → IsBridge hops n h →
    (BridgeFits h (carried_on c h) → ⊥) → CarryFits origin hops → ⊥
stopped hops n c h origin w b refused all = refused (rw (on_is hops n c h w b.is, b.is) (all.bridges n b.more))

-- the receipt time of a slave at a place
abbrev receipt_at : ℤ → List Hop → ℕ → ℤ
receipt_at origin hops n = receipt origin (carried_to hops n) (hop_at hops n).delay (neighbour_at hops n)

-- the whole way is what was carried to the last place, received there
pub carry_of-last : (origin : ℤ) (hops : List Hop) (n : ℕ) → length hops ≡ suc n →
    carry_of origin hops ≡ receipt_at origin hops n
carry_of-last origin [] n e = absurd (omega arith)
carry_of-last origin (h ∷ hs) n e = let p : n ≡ length hs = omega arith in rw p refl

-- where its bridges relayed and its slave's numbers fit, every number fits
all_fit : (origin : ℤ) (hops : List Hop) (n : ℕ) (c : Carried) → Went hops n c → length hops ≡ suc n →
    SlaveFitsAt origin hops n → CarryFits origin hops
all_fit origin hops n c w e f = record { bridges = λ i m. w.fits i (omega arith); slave = slave }
  where
    slave : (last : ℕ) → length hops ≡ suc last → SlaveFitsAt origin hops last
    slave last g = let p : last ≡ n = omega arith in rw p f

-- the slave's answer is that of the whole way
pub arrived : {E : Type 0} (r : Result ℤ E) (origin : ℤ) (hops : List Hop) (n : ℕ) (c : Carried) (h : Hop) →
    Went hops n c → IsSlave hops n h →
    OkIff r (SlaveFits origin c h.delay h.neighbour) (receipt origin c h.delay h.neighbour) →
    OkIff r (CarryFits origin hops) (carry_of origin hops)
arrived r origin hops n c h w s k =
    let answer : OkIff r (SlaveFitsAt origin hops n) (receipt_at origin hops n) = rw (w.carried, s.is) at k in
    let same = sym (carry_of-last origin hops n s.last) in
    OkIff-along r _ _ _ _ (all_fit origin hops n c w s.last) (λ all. all.slave n s.last) same answer
