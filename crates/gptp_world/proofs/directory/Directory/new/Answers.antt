use Rattle.std.proofs.Common.{◌≡◌, ℕ, List, sym, subst, ◌∙◌}
use Rattle.gptp_world.specs.Directory.{Join, directory_clocks, joins_of, IsPlan, AreRising}
use Rattle.gptp_scenario.specs.Network.{NetworkState, IsNetwork}
use Rattle.gptp_world.proofs.DirectoryLemmas.{plan_of, all_named, all_rising, tables_of}
use Rattle.gptp_world.proofs.directory.Directory.new.Goals as goal

plan_at : (n : NetworkState) (clocks : List ℕ) (joins : List Join) → IsNetwork n → clocks ≡ directory_clocks n.systems
    → joins ≡ joins_of n.links → IsPlan clocks joins
plan_at n clocks joins h e f =
    subst (λ v. IsPlan v joins) (sym e) (subst (λ v. IsPlan (directory_clocks n.systems) v) (sym f) (plan_of n h))

rising_at : (clocks others rising numbers : List ℕ) → others ≡ clocks → numbers ≡ rising → AreRising clocks rising
    → AreRising others numbers
rising_at clocks others rising numbers e f h =
    subst (λ v. AreRising v numbers) (sym e) (subst (λ v. AreRising clocks v) (sym f) h)

pub places_of-requires : goal.places_of-requires
places_of-requires c =
    all_rising c.deref-2.result.now c.deref-3.result.now
    (rising_at _ _ _ _
    (c.deref-2.ensures.value ∙ sym c.deref.ensures.value) c.deref-3.ensures.value c.in_ok-rising.ensures)

pub list_ends-requires : goal.list_ends-requires
list_ends-requires c =
    all_named c.deref-4.result.now c.deref-5.result.now
    (plan_at c.args.network.now _ _ c.well_formed-2.ensures (c.deref-4.ensures.value ∙ c.in_ok-clocks.ensures)
    (c.deref-5.ensures.value ∙ c.in_ok-joins.ensures))

pub list_outs-requires-clause-plan : goal.list_outs-requires-clause-plan
list_outs-requires-clause-plan c =
    plan_at c.args.network.now _ _ c.well_formed-2.ensures (c.deref-6.ensures.value ∙ c.in_ok-clocks.ensures)
    (c.deref-7.ensures.value ∙ c.in_ok-joins.ensures)

pub invariant_of-result : goal.invariant_of-result
invariant_of-result c =
    tables_of c.in_ok-clocks.clocks.items c.in_ok-joins.joins.items c.in_ok-ranked.ranked.items
    c.in_ok-rising.rising.items
    c.in_ok-outs.outs.items c.in_ok-ends.ends.items
    (plan_at c.args.network.now _ _ c.well_formed-2.ensures c.in_ok-clocks.ensures c.in_ok-joins.ensures)
    (rw c.deref.ensures.value at c.in_ok-rising.ensures)
    (rw (c.deref-2.ensures.value, c.deref-3.ensures.value) at c.in_ok-ranked.ensures)
    (rw (c.deref-4.ensures.value, c.deref-5.ensures.value) at c.in_ok-ends.ensures)
    (rw (c.deref-6.ensures.value, c.deref-7.ensures.value) at c.in_ok-outs.ensures)
