-- Links over which what is told is heard: since they first asked, or since their ports are capable.
use Rattle.std.proofs.Common.{◌≡◌, ◌≤◌, ◌<◌, ◌+◌, ◌*◌, ◌⊎◌, ℕ, true, List, ◌∷◌, sym, ap, subst, ◌∙◌, inl, inr, arith}
use Rattle.gptp_lists.specs.Members.{In}
use Rattle.gptp_links.specs.declared.bounds.Bounds.{Bounds}
use Rattle.gptp_links.specs.Fate.{Draw}
use Rattle.gptp_pdelay.specs.Peer.{is_capable}
use Rattle.gptp_setup.specs.declared.setup.Params.{Params}
use Rattle.gptp_setup.specs.Intervals.{interval_of}
use Rattle.gptp_setup.specs.SettlingParams.{SettlingParams}
use Rattle.gptp_scenario.specs.declared.change.Act.{Act}
use Rattle.gptp_scenario.specs.declared.change.Act.TheVariants.{Deliver, Expire, Change as Changing}
use Rattle.gptp_scenario.specs.declared.change.Change.{Change}
use Rattle.gptp_model.specs.Acts.{Acts, at as at_time}
use Rattle.gptp_model.specs.declared.done.Done.{Done}
use Rattle.gptp_model.specs.Pending.{NothingBefore}
use Rattle.gptp_model.specs.World.{WorldState}
use Rattle.gptp_pdelay_machine.specs.FirstLaws.{exchange_span}
use Rattle.gptp_pdelay_machine.specs.Lanes.{LaneFrame}
use Rattle.gptp_pdelay_machine.specs.Meter.{Meter}
use Rattle.gptp_pdelay_machine.specs.Order.{IsOrdered}
use Rattle.gptp_pdelay_machine.specs.Setting.{Setting}
use Rattle.gptp_pdelay_machine.specs.Facts.{Facts}
use Rattle.gptp_pdelay_machine.specs.First.{InvFirst}
use Rattle.gptp_pdelay_machine.specs.Order.{IsNotBefore}
use Rattle.gptp_pdelay_machine.proofs.FirstLemmas.{exchange_full}
use Rattle.gptp_bmca_machine.specs.Acts.{StationActs}
use Rattle.gptp_invariants.specs.ChoiceSeenLaws.{IsNoChange}
use Rattle.gptp_invariants.specs.ChoiceSettlesAsMachine.{IsWorld}
use Rattle.gptp_invariants.specs.ChoiceView.{says_announce, view}
use Rattle.gptp_invariants.specs.DelayElsewhereLaws.{LeavesAlone}
use Rattle.gptp_invariants.specs.DelayFirstAt.{IsFirstBy}
use Rattle.gptp_invariants.specs.DelayLinkActs.{IsOneAct}
use Rattle.gptp_invariants.specs.DelayLinkView.{IsLinkOf, LinkPlace, least_delay, link_setting, meter, pair, reads_as_reply, reads_as_request}
use Rattle.gptp_invariants.specs.DelayMeasured.{LinkIsMeasured}
use Rattle.gptp_invariants.specs.DelayWatched.{IsWatched}
use Rattle.gptp_invariants.proofs.ChoiceSeenActLemmas as choices
use Rattle.gptp_invariants.proofs.DelayElsewhereLemmas.{goes_through, watch_goes_through, watched_stay_capable}
use Rattle.gptp_invariants.proofs.DelayFirstAtLemmas.{by_goes_on, by_goes_through, first_full}
use Rattle.gptp_invariants.proofs.DelayWatchLemmas.{watch_goes_on}
use Rattle.gptp_invariants.proofs.WorldOutlineLemmas.{acts_time}
use Rattle.gptp_settling_time.proofs.OrderedLemmas.{IsOrderedAt, IsTimelyAt, VariesLittle, link_seen, opposite, order_acted, sent_late, stays_capable, tells, tells_no_reply, timely_acted, timely_later}
use Rattle.gptp_settling_time.proofs.ToldLemmas.{told_capable}

-- ---- what is known of a link

-- What is told to the port that asks comes in order since both ports first asked, as delays vary little, and two
-- exchanges are over by the start.
pub record IsToldAt (first start : ℕ) (at : LinkPlace) (w : WorldState) : Type 0 where
  pub one : IsOrderedAt first at w
  pub few : VariesLittle one.timely.link.channel
  pub other : IsTimelyAt first (opposite at) w
  pub by : first + (link_setting at w one.timely.link).period + exchange_span (link_setting at w one.timely.link) <
      start

-- the port that asks is capable since it first asked
pub record IsCapableSince (first : ℕ) (at : LinkPlace) (w : WorldState) : Type 0 where
  pub timely : IsTimelyAt first at w
  pub capable : is_capable timely.link.asking.state.peer ≡ true

-- or since it has been watched for long enough
pub record IsWatchedLong (p : SettlingParams) (gone calm : ℕ) (at : LinkPlace) (w : WorldState) : Type 0 where
  pub watched : IsWatched gone calm at w
  pub late : calm + 3 * interval_of p.params.pdelay ≤ w.time

-- or its first request was sent for long enough
pub record IsFirstLong (first by : ℕ) (at : LinkPlace) (w : WorldState) : Type 0 where
  pub is : IsFirstBy first by at w
  pub late : by ≤ w.time

abbrev pub StaysCapableAt : SettlingParams → LinkPlace → WorldState → Type 0
StaysCapableAt p at w =
    ((first : ℕ) × IsCapableSince first at w)
    ⊎ (((gone : ℕ) × (calm : ℕ) × IsWatchedLong p gone calm at w)
    ⊎ ((first : ℕ) × (by : ℕ) × IsFirstLong first by at w))

abbrev pub IsHeardAt : SettlingParams → ℕ → LinkPlace → WorldState → Type 0
IsHeardAt p start at w = ((first : ℕ) × IsToldAt first start at w) ⊎ StaysCapableAt p at w

abbrev pub stays_link : (p : SettlingParams) (at : LinkPlace) (w : WorldState) → StaysCapableAt p at w → IsLinkOf at w
stays_link p at w (inl (first, x)) = x.timely.link
stays_link p at w (inr (inl (gone, calm, x))) = x.watched.link
stays_link p at w (inr (inr (first, by, x))) = x.is.0.link

abbrev pub heard_link : (p : SettlingParams) (start : ℕ) (at : LinkPlace) (w : WorldState) → IsHeardAt p start at w
    → IsLinkOf at w
heard_link p start at w (inl (first, x)) = x.one.timely.link
heard_link p start at w (inr stays) = stays_link p at w stays

-- the port that asks is capable
abbrev pub IsOn : (at : LinkPlace) (w : WorldState) → IsLinkOf at w → Type 0
IsOn at w l = is_capable l.asking.state.peer ≡ true

pub period_is : (p : SettlingParams) (at : LinkPlace) (w : WorldState) → IsWorld p w → (l : IsLinkOf at w)
    → (link_setting at w l).period ≡ interval_of p.params.pdelay
period_is p at w is l =
    ap (λ (x : Params). interval_of x.pdelay) (is.known.set at.asking l.asking.station l.asking.here).starts.params

watched_on : (p : SettlingParams) (gone calm : ℕ) (at : LinkPlace) (w : WorldState) → IsWorld p w
    → (x : IsWatchedLong p gone calm at w)
    → IsOn at w x.watched.link
watched_on p gone calm at w is x =
    let period = period_is p at w is x.watched.link in
    let late = x.late in
    watched_stay_capable at gone calm w x.watched (omega (arith, late, period))

first_on : (first by : ℕ) (at : LinkPlace) (w : WorldState) → (x : IsFirstLong first by at w) → IsOn at w x.is.0.link
first_on first by at w x =
    let soon = x.is.1 in let late = x.late in first_full at first w x.is.0 (omega (arith, soon, late))

pub stays_on : (p : SettlingParams) (at : LinkPlace) (w : WorldState) → IsWorld p w → (x : StaysCapableAt p at w)
    → IsOn at w (stays_link p at w x)
stays_on p at w is (inl (first, x)) = x.capable
stays_on p at w is (inr (inl (gone, calm, x))) = watched_on p gone calm at w is x
stays_on p at w is (inr (inr (first, by, x))) = first_on first by at w x

-- from the start on it is capable
pub heard_on : (p : SettlingParams) (start : ℕ) (at : LinkPlace) (w : WorldState) → IsWorld p w
    → (x : IsHeardAt p start at w)
    → start ≤ w.time → IsOn at w (heard_link p start at w x)
heard_on p start at w is (inl (first, x)) late =
    let t = x.one.timely in
    let by = x.by in
    exchange_full (link_setting at w t.link) (least_delay at w t.link) reads_as_request reads_as_reply first first
    (meter at w t.link) t.facts t.inv (omega (arith, by, late))
heard_on p start at w is (inr x) late = stays_on p at w is x

-- so it is from a later start on
pub heard_from : (p : SettlingParams) (start next : ℕ) (at : LinkPlace) (w : WorldState) → start ≤ next
    → IsHeardAt p start at w → IsHeardAt p next at w
heard_from p start next at w more (inl (first, x)) =
    let by = x.by in
    inl (first, record { one = x.one; few = x.few; other = x.other; by = omega (arith, by, more) })
heard_from p start next at w more (inr stays) = inr stays

timely_due : (first : ℕ) (at : LinkPlace) (w : WorldState) (x : IsTimelyAt first at w) (f : LaneFrame)
    → In f (pair at w x.link).out → f.due ≤ w.time + x.link.channel.bounds.max
timely_due first at w x f member =
    let latest = (x.facts.out f member).latest in
    let asked = x.facts.asked in
    let since : first ≤ (pair at w x.link).asker.asked = let (n, is) = x.inv.since in omega (arith, is) in
    omega (arith, latest, asked, since)

-- what is in flight to the other port is due within the greatest delay of the link
pub heard_due : (p : SettlingParams) (start : ℕ) (at : LinkPlace) (w : WorldState) (x : IsHeardAt p start at w)
    (f : LaneFrame)
    → In f (pair at w (heard_link p start at w x)).out
    → f.due ≤ w.time + (heard_link p start at w x).channel.bounds.max
heard_due p start at w (inl (first, x)) f member = timely_due first at w x.one.timely f member
heard_due p start at w (inr (inl (first, x))) f member = timely_due first at w x.timely f member
heard_due p start at w (inr (inr (inr (first, by, x)))) f member =
    let latest = (x.is.0.facts.out f member).latest in
    let asked = x.is.0.facts.asked in
    let since : first ≤ (pair at w x.is.0.link).asker.asked = let (n, is) = x.is.0.inv.since in omega (arith, is) in
    omega (arith, latest, asked, since)
heard_due p start at w (inr (inr (inl (gone, calm, x)))) f member =
    let latest = (x.watched.facts.out f member).latest in
    let good = x.watched.good.late in
    let late = x.late in
    omega (arith, latest, good, late)

-- where the oldest frame that comes to it tells, it is capable
pub heard_now : (p : SettlingParams) (start : ℕ) (at : LinkPlace) (w : WorldState) → IsWorld p w
    → (x : IsHeardAt p start at w)
    → (f : LaneFrame) (fs : List LaneFrame)
    → (pair at w (heard_link p start at w x)).back ≡ f ∷ fs → tells f.octets
    → IsOn at w (heard_link p start at w x)
heard_now p start at w is (inl (first, x)) f fs comes told =
    let l = x.one.timely.link in
    told_capable (link_setting at w l) tells reads_as_reply first (pair at w l).asker f fs tells_no_reply
    (subst (λ b. IsOrdered (link_setting at w l) tells reads_as_reply first (pair at w l).asker b) comes
    (x.one.order x.few)) told
heard_now p start at w is (inr x) f fs comes told = stays_on p at w is x

-- ---- an act

-- the link is still such a one, and its port stays capable
pub record HeardThen (p : SettlingParams) (start : ℕ) (at : LinkPlace) (w w' : WorldState)
    (x : IsHeardAt p start at w) : Type 0 where
  pub after : IsHeardAt p start at w'
  pub stays : IsOn at w (heard_link p start at w x) → IsOn at w' (heard_link p start at w' after)

-- where systems act, and the link sees one act
module _ (p : SettlingParams) (start : ℕ) (w w' : WorldState) (is : IsWorld p w) (is' : IsWorld p w')
    (time : w'.time ≡ w.time) (steps : StationActs says_announce (view w) (view w'))
    (seen : (at : LinkPlace) (l : IsLinkOf at w) → IsOneAct at w w' l) (at : LinkPlace) where
  pub told_acted : (first : ℕ) (x : IsToldAt first start at w) → HeardThen p start at w w' (inl (first, x))
  unfolding order_acted timely_acted
  told_acted first x =
      let t = x.one.timely in
      let s = seen at t.link in
      let other = seen (opposite at) x.other.link in
      record {
        after = inl (
          first,
          record {
            one = order_acted at first w w' t s (sent_late p first w w' is is' time steps seen at t x.other)
                x.one.order;
            few = subst (λ (b : Bounds). b.max < 2 * b.min) (sym s.bounds) x.few;
            other = timely_acted (opposite at) first w w' x.other other;
            by = subst (λ (k : Setting). first + k.period + exchange_span k < start) (sym s.settled) x.by;
          },
        );
        stays = stays_capable at first w w' t s;
      }

module _ (p : SettlingParams) (start : ℕ) (act : Act) (w : WorldState) (draws : List Draw) (done : Done)
    (w' : WorldState) (none : IsNoChange act) (acts : Acts act w draws done w') (is : IsWorld p w)
    (is' : IsWorld p w') (measured : LinkIsMeasured w) (at : LinkPlace) where
  alone : (a : Act) → IsNoChange a → LeavesAlone at a w
  alone (Deliver link direction) none = tt
  alone (Expire number timer) none = tt
  alone (Changing change) none = absurd none

  told_then : (first : ℕ) (x : IsToldAt first start at w) → HeardThen p start at w w' (inl (first, x))
  told_then =
      told_acted p start w w' is is' (acts_time act w draws done w' acts)
      (choices.acts_seen act w draws done w' none is.sound is.encodable acts)
      (link_seen act w draws done w' none acts is.sound) at

  since_then : (first : ℕ) (x : IsCapableSince first at w) → HeardThen p start at w w' (inr (inl (first, x)))
  unfolding timely_acted
  since_then first x =
      let s = link_seen act w draws done w' none acts is.sound at x.timely.link in
      let on = stays_capable at first w w' x.timely s x.capable in
      record {
        after = inr (inl (first, record { timely = timely_acted at first w w' x.timely s; capable = on }));
        stays = λ was. on;
      }

  watched_then : (gone calm : ℕ) (x : IsWatchedLong p gone calm at w)
      → HeardThen p start at w w' (inr (inr (inl (gone, calm, x))))
  watched_then gone calm x =
      let same = acts_time act w draws done w' acts in
      let late = x.late in
      let then : IsWatchedLong p gone calm at w' = record {
        watched = watch_goes_through at gone calm act w w' draws done is.sound measured (alone act none) acts x.watched;
        late = omega (arith, late, same);
      } in
      record { after = inr (inr (inl (gone, calm, then))); stays = λ was. watched_on p gone calm at w' is' then }

  pub first_acted : (first by : ℕ) → IsFirstLong first by at w → IsFirstLong first by at w'
  first_acted first by x =
      let same = acts_time act w draws done w' acts in
      let late = x.late in
      record {
        is = by_goes_through at first by act w w' draws done is.sound measured (alone act none) acts x.is;
        late = omega (arith, late, same);
      }

  first_then : (first by : ℕ) (x : IsFirstLong first by at w)
      → HeardThen p start at w w' (inr (inr (inr (first, by, x))))
  first_then first by x =
      let then = first_acted first by x in
      record { after = inr (inr (inr (first, by, then))); stays = λ was. first_on first by at w' then }

  pub heard_acts : (x : IsHeardAt p start at w) → HeardThen p start at w w' x
  heard_acts (inl (first, x)) = told_then first x
  heard_acts (inr (inl (first, x))) = since_then first x
  heard_acts (inr (inr (inl (gone, calm, x)))) = watched_then gone calm x
  heard_acts (inr (inr (inr (first, by, x)))) = first_then first by x

-- ---- time

pub first_later : (p : SettlingParams) (first by : ℕ) (at : LinkPlace) (time : ℕ) (w : WorldState) → IsWorld p w
    → w.time ≤ time → NothingBefore time w.net.pending → IsFirstLong first by at w
    → IsFirstLong first by at (at_time time w)
first_later p first by at time w is later nothing x =
    let late = x.late in
    record { is = by_goes_on at first by time w is.sound later nothing x.is; late = omega (arith, late, later) }

pub heard_later : (p : SettlingParams) (start : ℕ) (at : LinkPlace) (time : ℕ) (w : WorldState) → IsWorld p w
    → w.time ≤ time
    → NothingBefore time w.net.pending → IsHeardAt p start at w → IsHeardAt p start at (at_time time w)
unfolding timely_later
heard_later p start at time w is later nothing (inl (first, x)) = inl (
  first,
  record {
    one = record {
      timely = timely_later first at time w is.sound later nothing x.one.timely;
      order = x.one.order;
    };
    few = x.few;
    other = timely_later first (opposite at) time w is.sound later nothing x.other;
    by = x.by;
  },
)
heard_later p start at time w is later nothing (inr (inl (first, x))) =
    inr (inl (
      first,
      record { timely = timely_later first at time w is.sound later nothing x.timely; capable = x.capable },
    ))
heard_later p start at time w is later nothing (inr (inr (inl (gone, calm, x)))) =
    let late = x.late in
    inr (inr (inl (
      gone,
      calm,
      record {
        watched = watch_goes_on at gone calm time w is.sound later nothing x.watched;
        late = omega (arith, late, later);
      },
    )))
heard_later p start at time w is later nothing (inr (inr (inr (first, by, x)))) =
    inr (inr (inr (first, by, first_later p first by at time w is later nothing x)))

-- ---- a change elsewhere

module _ (at : LinkPlace) (first : ℕ) where
  since_acted : (w w' : WorldState) (x : IsCapableSince first at w) → IsOneAct at w w' x.timely.link
      → IsCapableSince first at w'
  unfolding timely_acted
  since_acted w w' x s = record {
    timely = timely_acted at first w w' x.timely s;
    capable = stays_capable at first w w' x.timely s x.capable;
  }

  since_like : (w w' : WorldState) (x : IsCapableSince first at w) (l : IsLinkOf at w')
      → link_setting at w' l ≡ link_setting at w x.timely.link → meter at w' l ≡ meter at w x.timely.link
      → least_delay at w' l ≡ least_delay at w x.timely.link → IsCapableSince first at w'
  since_like w w' x l set seen least =
      let t = x.timely in
      let k = link_setting at w t.link in
      record {
        timely = record {
          link = l;
          short = subst (λ (y : Setting). exchange_span y < y.period) (sym set) t.short;
          facts = subst (λ (y : Setting). Facts y first (pair at w' l)) (sym set)
              (subst (λ (m : Meter). Facts k first m.pair) (sym seen) t.facts);
          inv = subst (λ (y : Setting). InvFirst y (least_delay at w' l) reads_as_request reads_as_reply first
              (meter at w' l)) (sym set)
              (subst (λ (n : ℕ). InvFirst k n reads_as_request reads_as_reply first (meter at w' l)) (sym least)
              (subst (λ (m : Meter). InvFirst k (least_delay at w t.link) reads_as_request reads_as_reply first m)
              (sym seen) t.inv));
          before = subst (λ (y : Setting). IsNotBefore y (least_delay at w' l) first (pair at w' l)) (sym set)
              (subst (λ (n : ℕ). IsNotBefore k n first (pair at w' l)) (sym least)
              (subst (λ (m : Meter). IsNotBefore k (least_delay at w t.link) first m.pair) (sym seen) t.before));
        };
        capable = ap (λ (m : Meter). m.pair.asker.capable) seen ∙ x.capable;
      }

-- a link whose port is capable keeps it so through a change that leaves it alone
pub stays_elsewhere : (p : SettlingParams) (start : ℕ) (at : LinkPlace) (change : Change) (w : WorldState)
    (draws : List Draw) (done : Done) (w' : WorldState) → IsWorld p w → LinkIsMeasured w
    → LeavesAlone at (Changing change) w → Acts (Changing change) w draws done w' → w'.time ≡ w.time
    → (x : IsHeardAt p start at w) → IsOn at w (heard_link p start at w x) → StaysCapableAt p at w'
stays_elsewhere p start at change w draws done w' is measured alone acts same (inl (first, x)) on =
    inl (
      first,
      goes_through at (IsCapableSince first at) (λ v h. h.timely.link) (since_acted at first) (since_like at first)
          change w w' draws done is.sound measured alone acts (record { timely = x.one.timely; capable = on }),
    )
stays_elsewhere p start at change w draws done w' is measured alone acts same (inr (inl (first, x))) on =
    inl (
      first,
      goes_through at (IsCapableSince first at) (λ v h. h.timely.link) (since_acted at first) (since_like at first)
          change w w' draws done is.sound measured alone acts x,
    )
stays_elsewhere p start at change w draws done w' is measured alone acts same (inr (inr (inl (gone, calm, x)))) on =
    let late = x.late in
    inr (inl (
      gone,
      calm,
      record {
        watched = watch_goes_through at gone calm (Changing change) w w' draws done is.sound measured alone acts
            x.watched;
        late = omega (arith, late, same);
      },
    ))
stays_elsewhere p start at change w draws done w' is measured alone acts same (inr (inr (inr (first, by, x)))) on =
    let late = x.late in
    inr (inr (
      first,
      by,
      record {
        is = by_goes_through at first by (Changing change) w w' draws done is.sound measured alone acts x.is;
        late = omega (arith, late, same);
      },
    ))

-- so it is still such a one
pub heard_elsewhere : (p : SettlingParams) (start next : ℕ) (at : LinkPlace) (change : Change) (w : WorldState)
    (draws : List Draw) (done : Done) (w' : WorldState) → IsWorld p w → LinkIsMeasured w
    → LeavesAlone at (Changing change) w → Acts (Changing change) w draws done w' → w'.time ≡ w.time
    → (x : IsHeardAt p start at w) → IsOn at w (heard_link p start at w x) → IsHeardAt p next at w'
heard_elsewhere p start next at change w draws done w' is measured alone acts same x on =
    inr (stays_elsewhere p start at change w draws done w' is measured alone acts same x on)
