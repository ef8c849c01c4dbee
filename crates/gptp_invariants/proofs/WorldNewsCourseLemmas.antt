-- Courses of a world since news.
use Rattle.std.proofs.Common.{◌≡◌, ◌≤◌, ◌+◌, ◌*◌, ℕ, Option, List, [], ◌∷◌, refl, sym, ap, subst, inl, inr, arith}
use Rattle.gptp_graph.specs.PathBound.{BoundsPaths}
use Rattle.gptp_links.specs.declared.bounds.Bounds.{Bounds}
use Rattle.gptp_scenario.specs.Network.{pace_of}
use Rattle.gptp_scenario.specs.declared.change.Act.{Act}
use Rattle.gptp_scenario.specs.declared.change.Act.TheVariants.{Change as Changing}
use Rattle.gptp_model.specs.declared.item.Item.{Item}
use Rattle.gptp_model.specs.declared.item.Item.TheVariants.{Arrival, Expiry}
use Rattle.gptp_setup.specs.Intervals.{interval_of}
use Rattle.gptp_setup.specs.SettlingParams.{SettlingParams, largest_interval}
use Rattle.gptp_model.specs.Acts.{at as at_time}
use Rattle.gptp_model.specs.Advancing.{Advanced, Advances, Told}
use Rattle.gptp_model.specs.Views.{IsActOf}
use Rattle.gptp_model.specs.World.{WorldState}
use Rattle.gptp_model.proofs.AdvanceLemmas.{nothing_sooner}
use Rattle.gptp_invariants.specs.WorldBounded.{IsBoundedWorld}
use Rattle.gptp_invariants.specs.ChoiceCalm.{HaveQuietLinks}
use Rattle.gptp_invariants.specs.WorldEncodableLaws.{SetsAnOctet}
use Rattle.gptp_invariants.specs.WorldNewsCourse.{GainSettles, HasSettledBy, LinkUpSettles, NewsAdvance, SettlesFrom, BegunSettles, capable_from}
use Rattle.gptp_invariants.specs.WorldNews.{AreSilentBy, IsNews}
use Rattle.gptp_invariants.specs.ChoiceSeenLaws.{IsNoChange}
use Rattle.gptp_invariants.specs.ChoiceSettled.{Settled}
use Rattle.gptp_invariants.specs.WorldStanding.{snapshot_of}
use Rattle.gptp_invariants.proofs.WorldBoundedLemmas.{bounded_by}
use Rattle.gptp_invariants.proofs.ChoiceCalmKeptLemmas.{KeepsNetwork, acts_keep, delay_kept, keeps_on}
use Rattle.gptp_invariants.proofs.WorldClaimLemmas.{claim_begins, claim_later}
use Rattle.gptp_invariants.proofs.WorldLinkUpNewsLemmas.{link_up_news}
use Rattle.gptp_invariants.proofs.WorldNewsActLemmas.{gain_news, news_done, unanswered_silent, watched_ready}
use Rattle.gptp_invariants.proofs.WorldNewsLemmas.{news_above, news_above_in_turn, news_go_on, none_silent, news_worlds_settle, news_worlds_settle_in_turn}
use Rattle.gptp_invariants.proofs.WorldOutlineLemmas.{acts_time, change_is_last}
use Rattle.gptp_invariants.proofs.WorldSoundLemmas.{sound_later}
use Rattle.gptp_invariants.proofs.WorldStartNewsLemmas.{start_news}

-- what is pending changes nothing
next_still : (item : Item) (act : Act) (w : WorldState) → IsActOf item w act → IsNoChange act × SetsAnOctet act
next_still (Arrival link direction) act w is = subst (λ a. IsNoChange a × SetsAnOctet a) (sym is) (tt, tt)
next_still (Expiry place timer) act w (station, here, is) =
    subst (λ a. IsNoChange a × SetsAnOctet a) (sym is) (tt, tt)

pub later_keeps : (time : ℕ) (w : WorldState) → KeepsNetwork w (at_time time w)
later_keeps time w = record { systems = refl; places = λ number. refl; setups = refl; links = refl; change = refl }

-- what is so after a course
record IsAfter (p : SettlingParams) (start until : ℕ) (w w' : WorldState) : Type 0 where
  news : IsNews p start w'
  keeps : KeepsNetwork w w'
  early : w'.time ≤ until

module _ {F : Type 0} (answers : Bounds → ℕ → F → Option ℕ → F → Type 0) (p : SettlingParams) (start until : ℕ) where
  advances_news : (told : List Told) (fate fate_after : F) (w w' : WorldState) → w.time ≤ until
      → Advances answers until told fate fate_after w w' → IsNews p start w → IsAfter p start until w w'
  advances_news [] fate fate_after w w' early (none, same) news =
      subst (IsAfter p start until w) (sym same) (record { news = news; keeps = later_keeps w.time w; early = early })
  advances_news (one ∷ told) fate fate_after w w' early (drawn, between, happens, more) news =
      let timed = one.timed in
      let (still, octet) = next_still happens.next.item timed.act w happens.next.act in
      let was = happens.was_done in
      let acts = was.acts in
      let time = acts_time timed.act (at_time timed.at w) was.draws one.done between acts in
      let in_time = happens.early in
      let next = news_done answers p start timed fate drawn w between one.done still octet was news in
      let after = advances_news told drawn fate_after between w' (omega (arith, time, in_time)) more next in
      record {
        news = after.news;
        keeps = keeps_on w between w'
            (keeps_on w (at_time timed.at w) between (later_keeps timed.at w)
            (acts_keep timed.act (at_time timed.at w) was.draws one.done between still acts))
            after.keeps;
        early = after.early;
      }

  advanced_news : (told : List Told) (fate fate_after : F) (w w' : WorldState)
      → Advanced answers until told fate fate_after w w' → IsNews p start w
      → IsNews p start w' × KeepsNetwork w w'
  advanced_news told fate fate_after w w' k news =
      let after = advances_news told fate fate_after w k.between k.ahead k.advances news in
      let first = nothing_sooner until (until + 1) k.between.net.pending (omega arith) k.nothing_left in
      subst (λ v. IsNews p start v × KeepsNetwork w v) (sym k.is) (
        news_go_on p start until k.between after.early first after.news,
        keeps_on w k.between (at_time until k.between) after.keeps (later_keeps until k.between),
      )

pub news_advance : {F : Type 0} (answers : Bounds → ℕ → F → Option ℕ → F → Type 0) → NewsAdvance answers
news_advance answers p start until told fate fate_after w w' k news =
    (advanced_news answers p start until told fate fate_after w w' k news).0

-- ---- it has settled

settles_by : (p : SettlingParams) (m start : ℕ) (w : WorldState) → IsNews p start w → HaveQuietLinks p.params w
    → BoundsPaths (snapshot_of w) m → HasSettledBy p m start w → Settled w × IsBoundedWorld w
settles_by p m start w news quiet bounded (inl (off, late)) =
    let settled = news_worlds_settle p start m w news off quiet bounded late in
    (settled, bounded_by p w news.world settled (news_above p start m w news off quiet bounded (omega (arith, late))))
settles_by p m start w news quiet bounded (inr (short, late)) =
    let settled = news_worlds_settle_in_turn p start m w news short quiet bounded late in (
      settled,
      bounded_by p w news.world settled
          (news_above_in_turn p start m w news short quiet bounded (omega (arith, late))),
    )

-- the start is that of the world at the end, whose network is the same
pub same_from : (p : SettlingParams) (time : ℕ) (w w' : WorldState) → KeepsNetwork w w'
    → capable_from p w' time ≡ capable_from p w time
same_from p time w w' keeps =
    ap (λ delay. time + interval_of p.params.pdelay + (delay + p.params.turnaround + delay) + 1) (delay_kept w w' keeps)

pub begun_settles : {F : Type 0} (answers : Bounds → ℕ → F → Option ℕ → F → Type 0) → BegunSettles answers
begun_settles answers n fate begun fate_after until m told w w' network sound k course quiet bounded late =
    let p = pace_of n in
    let claim = claim_begins answers n fate begun w network sound k in
    let start = capable_from p w 0 in
    let news = start_news answers n fate begun w start network sound k claim.world (omega arith) in
    let (after, keeps) = advanced_news answers p start until told begun fate_after w w' course news in
    settles_by p m start w' after quiet bounded
    (subst (λ from. HasSettledBy p m from w') (same_from p 0 w w' keeps) late)

pub link_up_settles : {F : Type 0} (answers : Bounds → ℕ → F → Option ℕ → F → Type 0) → LinkUpSettles answers
link_up_settles answers p number port time fate drawn fate_after until m told done w between w' claim sound rest k
    claimed other course quiet bounded late =
    let timely = k.ready.timely in
    let then = at_time time w in
    let claim_then = claim_later p w time timely.now timely.first claim in
    let start = capable_from p between time in
    let requests = claim.pace.requests in
    let news = link_up_news p start number port then k.draws done between claim.pace claim_then.world claimed.world
    claim_then.measured
    (unanswered_silent p start then claim.pace claim_then.silent (omega (arith, rest)))
    (sound_later w time sound)
    (watched_ready p start then claim_then.watched (omega (arith, rest)) (omega (arith, rest, requests)))
    other (omega arith) k.acts in
    let (after, keeps) = advanced_news answers p start until told drawn fate_after between w' course news in
    settles_by p m start w' after quiet bounded
    (subst (λ from. HasSettledBy p m from w') (same_from p time between w' keeps) late)

pub gain_settles : {F : Type 0} (answers : Bounds → ℕ → F → Option ℕ → F → Type 0) → GainSettles answers
gain_settles answers p change time start fate drawn fate_after until m told done w between w' claim sound gain octet k
    claimed course quiet bounded from late =
    let timely = k.ready.timely in
    let then = at_time time w in
    let claim_then = claim_later p w time timely.now timely.first claim in
    let (silent, capable) = begins from in
    let news = gain_news p start change then k.draws done between claim_then.world claimed gain octet k.acts
    (sound_later w time sound) silent capable in
    let (after, keeps) = advanced_news answers p start until told drawn fate_after between w' course news in
    settles_by p m start w' after quiet bounded late
  where
    same : between.time ≡ time
    same = acts_time (Changing change) (at_time time w) k.draws done between k.acts

    begins : SettlesFrom p time start between
        → AreSilentBy p start between
        × (between.time + 2 * largest_interval p + 3 * interval_of p.params.pdelay ≤ start)
    begins (inl is) =
        let last = change_is_last change (at_time time w) k.draws done between k.acts in
        let requests = claim.pace.requests in (
          unanswered_silent p start between claim.pace claimed.silent (omega (arith, is, last, same)),
          omega (arith, is, same, requests),
        )
    begins (inr (live, is)) = (none_silent p start between live, omega (arith, is, same))
