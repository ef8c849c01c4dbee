-- An event leads a world that had rested, and whose choice had stood, to one in which trees of systems are moved.
use Rattle.std.proofs.Common.{List, [], arith, inl, inr, subst, sym, ℕ, ◌++◌, ◌+◌, ◌<◌, ◌∷◌, ◌≡◌, ◌≤◌}
use Rattle.gptp_links.specs.Fate.{Draw}
use Rattle.gptp_setup.specs.SettlingParams.{SettlingParams}
use Rattle.gptp_scenario.specs.Calm.{IsCalm, NothingLapses, last_change}
use Rattle.gptp_scenario.specs.Network.{NetworkState, pace_of}
use Rattle.gptp_scenario.specs.SettlingTime.{capability_span}
use Rattle.gptp_scenario.specs.SyncWait.{sync_paths}
use Rattle.gptp_scenario.specs.declared.change.Timed.{Timed}
use Rattle.gptp_model.specs.Acts.{Acts}
use Rattle.gptp_model.specs.declared.done.Done.{Done}
use Rattle.gptp_model.specs.World.{WorldState}
use Rattle.gptp_network.specs.Document.{DocumentState}
use Rattle.gptp_theorem.specs.PlayedLaws.{IsPlayable}
use Rattle.gptp_settling_time.specs.Arrivals.{HasArrivedBy}
use Rattle.gptp_settling_time.specs.Pasts.{Aging, AnyPast, Cleared, Fallen, Gained, Heard, Left, Fewer, Lost, Past, Split, Starting, Turned, TurnedTree}
use Rattle.gptp_settling_time.specs.EventKinds.{FallsCalm, IsDownNow, TurnsTreeCalm}
use Rattle.gptp_settling_time.specs.Leads.{EventLeads, LeadsByTree, SplitsNow, TreeNow}
use Rattle.gptp_settling_time.proofs.FallMadeLemmas.{fallen_to, falls_few}
use Rattle.gptp_settling_time.proofs.FallenToLemmas.{IsFallenTo}
use Rattle.gptp_settling_time.proofs.TurnedTreeMadeLemmas.{turned_tree_to}
use Rattle.gptp_settling_time.proofs.TurnedTreeToLemmas.{IsTurnedTreeTo}
use Rattle.gptp_settling_time.proofs.NamedAfterLemmas.{NamesAfter}
use Rattle.gptp_settling_time.proofs.NamedLemmas.{IsNamedFrom, arrives_later}
use Rattle.gptp_settling_time.proofs.OnwardLemmas.{IsOnwardFrom}
use Rattle.gptp_settling_time.proofs.KeptToLemmas.{KeepsTo}
use Rattle.gptp_settling_time.proofs.SplitMadeLemmas.{split_on, split_sooner, split_to}
use Rattle.gptp_settling_time.proofs.SplitToLemmas.{IsSplitTo}
use Rattle.gptp_settling_time.proofs.AfterLemmas.{IsAfter}
use Rattle.gptp_settling_time.proofs.LossMadeLemmas.{HasRestedSo}
use Rattle.gptp_settling_time.proofs.RepeatedLemmas.{fallen_repeated, split_repeated, turned_tree_repeated}
use Rattle.gptp_settling_time.proofs.RestedSoLemmas.{rested_any, rested_gained, rested_heard}

module _ (d : DocumentState) (playable : IsPlayable d) (made : List Timed) (event : Timed) (then : WorldState)
    (draws : List Draw) (done : Done) (w' : WorldState) (acts : Acts event.act then draws done w')
    (at_time : then.time ≡ event.at) (time : w'.time ≡ event.at) (last : w'.last_change ≡ w'.time)
    (keeps : KeepsTo d made then) (after : KeepsTo d (made ++ event ∷ []) w') where
  abbrev p : SettlingParams
  p = pace_of d.network

  abbrev n : NetworkState
  n = d.network

  abbrev more : List Timed
  more = made ++ event ∷ []

  -- a tree is so moved
  module _ (Moves : Type 0) (calm : Moves → IsCalm n made) (off : Moves → NothingLapses n.params)
      (few : Moves → (sync_paths n made).systems ≤ 255) (Is : ℕ → ℕ → Type 0)
      (is_moved : (start stood arrived : ℕ) → HasRestedSo p start event.at then → IsNamedFrom arrived then
      → HasArrivedBy n made stood arrived → arrived ≤ event.at → Moves → Is start event.at) where
    tree_now : (start stood silent now : ℕ) → ((arrived : ℕ) → stood ≤ arrived → arrived ≤ event.at
        → HasRestedSo p start event.at then)
        → (last_change made < stood → Moves → (arrived : ℕ) → HasArrivedBy n made stood arrived
        → IsNamedFrom arrived then)
        → TreeNow n made event Moves start stood silent now → Is silent now
    tree_now start stood silent now rest named (later, (arrived, arrives, quiet), moves, by, here) =
        subst (Is silent) (sym here)
        (subst (λ t. Is t event.at) (sym by)
        (is_moved start stood arrived (rest arrived (arrives_later n made stood arrived arrives) quiet)
        (named later moves arrived arrives) arrives quiet moves))

    leads_by_tree : (past : Past) (silent now : ℕ) → LeadsByTree n made past event Moves silent now
        → NamesAfter d made past then → IsAfter d made past then → Is silent now
    leads_by_tree AnyPast silent now (stood, settled, tree) named so =
        let passed = settled.passed in
        tree_now (last_change made + capability_span p) stood silent now
        (λ arrived later quiet. rested_any d playable made event then at_time keeps
        (record { calm = settled.calm; passed = omega (arith, passed, later, quiet) }))
        (λ later moves arrived arrives.
        (named stood arrived (calm moves) (few moves) (inl (off moves, passed)) later arrives).0) tree
    leads_by_tree Starting silent now none named so = absurd none
    leads_by_tree (Gained start) silent now (stood, settled, tree) named so =
        tree_now start stood silent now
        (λ arrived later quiet. rested_gained d playable made event then at_time keeps start
        (omega (arith, settled, later, quiet)) so.news)
        (λ later moves arrived arrives.
        (named stood arrived (calm moves) (few moves) (inl (off moves, settled)) later arrives).0) tree
    leads_by_tree (Heard start) silent now (stood, settled, tree) named so =
        tree_now start stood silent now
        (λ arrived later quiet. rested_heard d playable made event then at_time keeps start
        (omega (arith, settled, later, quiet)) so.since)
        (λ later moves arrived arrives.
        (named stood arrived (calm moves) (few moves) (off moves, settled) later arrives).0) tree
    leads_by_tree (Left ago start) silent now none named so = absurd none
    leads_by_tree (Turned start was) silent now none named so = absurd none
    leads_by_tree (Fallen start was) silent now none named so = absurd none
    leads_by_tree (TurnedTree start was) silent now none named so = absurd none
    leads_by_tree (Cleared ago since start right old) silent now none named so = absurd none
    leads_by_tree (Aging ago aged start) silent now none named so = absurd none
    leads_by_tree (Split ago gone start) silent now none named so = absurd none
    leads_by_tree (Lost ago since most start) silent now none named so = absurd none
    leads_by_tree (Fewer ago since most start) silent now none named so = absurd none

  pub leads_to_fallen : (past : Past) (silent now : ℕ) → EventLeads n made past event (Fallen silent now)
      → NamesAfter d made past then → IsAfter d made past then → IsFallenTo d more silent now w'
  leads_to_fallen past silent now (inl leads) named so =
      leads_by_tree (FallsCalm n made event) (λ x. x.calm) (λ x. x.off)
      (λ x. falls_few d.network made event x.falls) (λ silent now. IsFallenTo d more silent now w')
      (λ start stood arrived rest named arrives quiet falls.
      fallen_to d playable made event then draws done w' acts at_time time keeps after start rest stood arrived named
      arrives quiet falls) past silent now leads named so
  leads_to_fallen past silent now (inr (repeats, same)) named so =
      fallen_repeated d playable made event then draws done w' acts at_time keeps after repeats silent now
      (subst (λ x. IsAfter d made x then) same so)

  pub leads_to_turned_tree : (past : Past) (silent now : ℕ) → EventLeads n made past event (TurnedTree silent now)
      → NamesAfter d made past then → IsAfter d made past then → IsTurnedTreeTo d more silent now w'
  leads_to_turned_tree past silent now (inl leads) named so =
      leads_by_tree (TurnsTreeCalm n made event) (λ x. x.calm) (λ x. x.off) (λ x. x.turns.few)
      (λ silent now. IsTurnedTreeTo d more silent now w') (λ start stood arrived rest named arrives quiet turns.
      turned_tree_to d playable made event then draws done w' acts at_time time keeps after start rest stood arrived
      named arrives quiet turns last) past silent now leads named so
  leads_to_turned_tree past silent now (inr (repeats, same)) named so =
      turned_tree_repeated d playable made event then draws done w' acts at_time keeps after repeats silent now
      (subst (λ x. IsAfter d made x then) same so)

  -- trees are, as a system fails
  splits : (start stood : ℕ) (ago : List Timed) (gone silent : ℕ) → ago ≡ made
      → (now : SplitsNow n made event stood gone silent) → (stood ≤ event.at → HasRestedSo p start event.at then)
      → ((late : ℕ) → HasArrivedBy n made stood late → IsNamedFrom late then × IsOnwardFrom late then)
      → IsSplitTo d ago more gone silent w'
  splits start stood ago gone silent same now rest named =
      let later = arrives_later n made stood now.arrived now.arrives in
      let quiet = now.quiet in
      subst (λ es. IsSplitTo d es more gone silent w') (sym same)
      (split_to d playable made event then draws done w' acts at_time time last keeps after start
      (rest (omega (arith, later, quiet))) stood gone silent now (named now.arrived now.arrives).0
      (named now.arrived now.arrives).1)

  -- they fall back where a link goes down of which an end has failed, or all stays as it stands
  splits_still : (ago : List Timed) (gone silent : ℕ) → IsDownNow n made event → IsSplitTo d ago made gone silent then
      → IsSplitTo d ago more gone silent w'
  splits_still ago gone silent (inl falls) so =
      split_on d playable made event then draws done w' acts at_time time last keeps after ago gone silent falls so
  splits_still ago gone silent (inr repeats) so =
      split_repeated d playable made event then draws done w' acts at_time keeps after repeats ago gone silent so

  pub leads_to_split : (past : Past) (ago : List Timed) (gone silent : ℕ)
      → EventLeads n made past event (Split ago gone silent) → NamesAfter d made past then → IsAfter d made past then
      → IsSplitTo d ago more gone silent w'
  leads_to_split AnyPast ago gone silent (stood, settled, same, now) named so =
      let passed = settled.passed in
      splits (last_change made + capability_span p) stood ago gone silent same now
      (λ later. rested_any d playable made event then at_time keeps
      (record { calm = settled.calm; passed = omega (arith, passed, later) }))
      (λ late. named stood late now.calm now.fails.few (inl (now.off, passed)) now.later)
  leads_to_split Starting ago gone silent none named so = absurd none
  leads_to_split (Gained start) ago gone silent (stood, settled, same, now) named so =
      splits start stood ago gone silent same now
      (λ later. rested_gained d playable made event then at_time keeps start (omega (arith, settled, later)) so.news)
      (λ late. named stood late now.calm now.fails.few (inl (now.off, settled)) now.later)
  leads_to_split (Heard start) ago gone silent (stood, settled, same, now) named so =
      splits start stood ago gone silent same now
      (λ later. rested_heard d playable made event then at_time keeps start (omega (arith, settled, later)) so.since)
      (λ late. named stood late now.calm now.fails.few (now.off, settled) now.later)
  leads_to_split (Left old start) ago gone silent none named so = absurd none
  leads_to_split (Turned start was) ago gone silent none named so = absurd none
  leads_to_split (Fallen start was) ago gone silent none named so = absurd none
  leads_to_split (TurnedTree start was) ago gone silent none named so = absurd none
  leads_to_split (Cleared was since start right old) ago gone silent none named so = absurd none
  leads_to_split (Aging old aged start) ago gone silent none named so = absurd none
  leads_to_split (Split old was start) ago gone silent (falls, same_ago, same_silent, sooner) named so =
      subst (λ es. IsSplitTo d es more gone silent w') (sym same_ago)
      (subst (λ time. IsSplitTo d old more gone time w') (sym same_silent)
      (elim sooner [
        | inl same ↦
            subst (λ time. IsSplitTo d old more time start w') (sym same) (splits_still old was start falls so)
        | inr (now, is_gone) ↦
            split_sooner d playable made event then draws done w' acts at_time time last keeps after old was start
            (splits_still old was start falls so) gone now is_gone
      ]))
  leads_to_split (Lost old since most start) ago gone silent none named so = absurd none
  leads_to_split (Fewer old since most start) ago gone silent none named so = absurd none
