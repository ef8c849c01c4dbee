-- When a network that came from a past has settled, and when it has come to rest; and what always leads on.
use Rattle.std.proofs.Common.{inl, inr, ◌≤◌, ℕ, List, [], ◌∷◌, ◌++◌, refl, sym, subst, ◌∙◌, append_assoc, append-nil, arith}
use Rattle.gptp_scenario.specs.Calm.{NothingLapses}
use Rattle.gptp_scenario.specs.Network.{NetworkState}
use Rattle.gptp_scenario.specs.declared.change.Timed.{Timed}
use Rattle.gptp_settling_time.specs.Pasts.{Aging, AnyPast, Cleared, Fallen, Gained, Heard, Left, Fewer, Lost, Past, Split, Starting, Turned, TurnedTree}
use Rattle.gptp_settling_time.specs.EventKinds.{HasSettledAnyhow, HasSettledHeard, HasSettledSince}
use Rattle.gptp_settling_time.specs.Rests.{HasToldAnew, IsTakenAs, RestsFrom}
use Rattle.gptp_settling_time.specs.InTurn.{LeadOn, SettlesAfter}

-- from any past events lead to any past
pub any_leads : (n : NetworkState) (made events : List Timed) → LeadOn n made AnyPast events AnyPast
any_leads n made [] = refl
any_leads n made (event ∷ events) = (AnyPast, inl refl, AnyPast, tt, any_leads n (made ++ event ∷ []) events)

-- the one after the other
pub leads_on : (n : NetworkState) (made : List Timed) (first mid last : Past) (events more : List Timed)
    → LeadOn n made first events mid → LeadOn n (made ++ events) mid more last
    → LeadOn n made first (events ++ more) last
leads_on n made first mid last [] more is then =
    subst (λ es. LeadOn n es first more last) (append-nil made)
    (subst (λ past. LeadOn n (made ++ []) past more last) is then)
leads_on n made first mid last (event ∷ events) more (seen, taken, next, leads, is) then = (
  seen,
  taken,
  next,
  leads,
  leads_on n (made ++ event ∷ []) next mid last events more is
      (subst (λ es. LeadOn n es mid more last) (sym (append_assoc made (event ∷ []) events)) then),
)

-- by a time it has come to rest, whatever it came from
abbrev pub HasSettled : NetworkState → List Timed → Past → ℕ → Type 0
HasSettled n events AnyPast time = HasSettledAnyhow n events time
HasSettled n events Starting time = ⊥
HasSettled n events (Gained start) time = HasSettledSince n events start time
HasSettled n events (Heard start) time = HasSettledHeard n events start time
HasSettled n events (Left ago start) time = ⊥
HasSettled n events (Turned silent now) time = ⊥
HasSettled n events (Fallen silent now) time = ⊥
HasSettled n events (TurnedTree silent now) time = ⊥
HasSettled n events (Cleared ago begun silent right old) time = ⊥
HasSettled n events (Aging ago aged silent) time = ⊥
HasSettled n events (Split ago gone silent) time = ⊥
HasSettled n events (Lost ago since most silent) time = ⊥
HasSettled n events (Fewer ago since most silent) time = ⊥

pub settled_later : (n : NetworkState) (events : List Timed) (past : Past) (time later : ℕ) → time ≤ later
    → HasSettled n events past time → HasSettled n events past later
settled_later n events AnyPast time later less is =
    let passed = is.passed in record { calm = is.calm; passed = omega (arith, passed, less) }
settled_later n events Starting time later less is = absurd is
settled_later n events (Gained start) time later less is = omega (arith, is, less)
settled_later n events (Heard start) time later less is = omega (arith, is, less)
settled_later n events (Left ago start) time later less is = absurd is
settled_later n events (Turned silent now) time later less is = absurd is
settled_later n events (Fallen silent now) time later less is = absurd is
settled_later n events (TurnedTree silent now) time later less is = absurd is
settled_later n events (Cleared ago begun silent right old) time later less is = absurd is
settled_later n events (Aging ago aged silent) time later less is = absurd is
settled_later n events (Split ago gone silent) time later less is = absurd is
settled_later n events (Lost ago since most silent) time later less is = absurd is
settled_later n events (Fewer ago since most silent) time later less is = absurd is

-- or it has so as it may be taken
abbrev pub HasRested : NetworkState → List Timed → Past → ℕ → Type 0
HasRested n events past time = (seen : Past) × IsTakenAs n events past time seen × HasSettled n events seen time

pub taken_later : (n : NetworkState) (events : List Timed) (past seen : Past) (time later : ℕ) → time ≤ later
    → IsTakenAs n events past time seen → IsTakenAs n events past later seen
taken_later n events past seen time later less (inl same) = inl same
taken_later n events past seen time later less (inr (start, same, rests)) = inr (start, same, by past rests)
  where
    anew : (turned : ℕ) → HasToldAnew n events turned start time → HasToldAnew n events turned start later
    anew turned is =
        let over = is.over in
        record {
          calm = is.calm;
          off = is.off;
          told = let told = is.told in omega (arith, told, less);
          later = is.later;
          over = omega (arith, over, less);
        }

    by : (past : Past) → RestsFrom n events past time start → RestsFrom n events past later start
    by AnyPast none = absurd none
    by Starting none = absurd none
    by (Gained since) none = absurd none
    by (Heard since) none = absurd none
    by (Left ago silent) none = absurd none
    by (Turned silent now) is = anew now is
    by (Fallen silent now) is =
        let gone = is.gone in
        let over = is.over in
        record {
          calm = is.calm;
          off = is.off;
          later = is.later;
          flight = is.flight;
          is_gone = is.is_gone;
          gone = omega (arith, gone, less);
          over = omega (arith, over, less);
        }
    by (TurnedTree silent now) (is, later) = (anew now is, later)
    by (Cleared ago begun silent right old) is =
        let gone = is.gone in
        let over = is.over in
        record {
          calm = is.calm;
          off = is.off;
          gone = omega (arith, gone, less);
          later = is.later;
          unlinked = elim is.unlinked [ inl past ↦ inl (omega (arith, past, less)) | inr used ↦ inr used ];
          over = omega (arith, over, less);
        }
    by (Aging ago aged silent) is =
        let told = is.told in
        let unlinked = is.unlinked in
        let over = is.over in
        record {
          calm = is.calm;
          off = is.off;
          by = is.by;
          since = is.since;
          gone = is.gone;
          flight = is.flight;
          is_gone = is.is_gone;
          told = omega (arith, told, less);
          later = is.later;
          unlinked = omega (arith, unlinked, less);
          over = omega (arith, over, less);
        }
    by (Split ago gone silent) is =
        let over = is.over in
        record {
          calm = is.calm;
          off = is.off;
          since = is.since;
          told = elim is.told [
            | inl told ↦ inl (omega (arith, told, less))
            | inr (inl (cuts, flight, is_gone, stand, arrived)) ↦
                inr (inl (cuts, flight, is_gone, omega (arith, stand, less), omega (arith, arrived, less)))
            | inr (inr (leaves, used, stand, arrived)) ↦
                inr (inr (leaves, used, omega (arith, stand, less), omega (arith, arrived, less)))
          ];
          later = is.later;
          unlinked = elim is.unlinked [ inl past ↦ inl (omega (arith, past, less)) | inr none ↦ inr none ];
          over = omega (arith, over, less);
        }
    by (Lost ago begun most silent) is =
        let over = is.over in
        record {
          off = is.off;
          later = is.later;
          unlinked = elim is.unlinked [ inl past ↦ inl (omega (arith, past, less)) | inr used ↦ inr used ];
          over = omega (arith, over, less);
        }
    by (Fewer ago begun most silent) none = absurd none

-- what is taken so is taken as nothing else
pub taken_on : (n : NetworkState) (events : List Timed) (past seen other : Past) (time : ℕ)
    → IsTakenAs n events past time seen → IsTakenAs n events seen time other → IsTakenAs n events past time other
taken_on n events past seen other time (inl same) on = subst (λ x. IsTakenAs n events x time other) same on
taken_on n events past seen other time (inr (start, same, rests)) (inl on) = inr (start, on ∙ same, rests)
taken_on n events past seen other time (inr (start, same, rests)) (inr (from, is, again)) =
    absurd (subst (λ x. RestsFrom n events x time from) same again)

settled_so : (n : NetworkState) (events : List Timed) (past : Past) (time : ℕ) → NothingLapses n.params
    → HasSettled n events past time → SettlesAfter n events past time
settled_so n events AnyPast time off is = inl (off, is.passed)
settled_so n events Starting time off is = absurd is
settled_so n events (Gained start) time off is = inl (off, is)
settled_so n events (Heard start) time off is = (off, is)
settled_so n events (Left ago start) time off is = absurd is
settled_so n events (Turned silent now) time off is = absurd is
settled_so n events (Fallen silent now) time off is = absurd is
settled_so n events (TurnedTree silent now) time off is = absurd is
settled_so n events (Cleared ago begun silent right old) time off is = absurd is
settled_so n events (Aging ago aged silent) time off is = absurd is
settled_so n events (Split ago gone silent) time off is = absurd is
settled_so n events (Lost ago since most silent) time off is = absurd is
settled_so n events (Fewer ago since most silent) time off is = absurd is

-- what has come to rest has settled
pub rested_so : (n : NetworkState) (events : List Timed) (past : Past) (time : ℕ) → NothingLapses n.params
    → HasRested n events past time → SettlesAfter n events past time
rested_so n events past time off (seen, inl same, is) =
    settled_so n events past time off (subst (λ x. HasSettled n events x time) same is)
rested_so n events past time off (seen, inr (start, same, rests), is) = by past rests
  where
    by : (past : Past) → RestsFrom n events past time start → SettlesAfter n events past time
    by AnyPast none = absurd none
    by Starting none = absurd none
    by (Gained since) none = absurd none
    by (Heard since) none = absurd none
    by (Left ago silent) none = absurd none
    by (Turned silent now) rest = let told = rest.told in (off, omega (arith, told))
    by (Fallen silent now) rest =
        let later = rest.later in
        let over = rest.over in
        (off, omega (arith, later, over))
    by (TurnedTree silent now) (rest, later) = let told = rest.told in (off, omega (arith, told))
    by (Cleared ago begun silent right old) rest = (off, rest.unlinked)
    by (Aging ago aged silent) rest = (off, inl rest.unlinked)
    by (Split ago gone silent) rest = let told = rest.told in (off, omega (arith, told), rest.unlinked)
    by (Lost ago begun most silent) rest =
        let later = rest.later in
        let over = rest.over in
        (off, omega (arith, later, over), rest.unlinked)
    by (Fewer ago begun most silent) none = absurd none
