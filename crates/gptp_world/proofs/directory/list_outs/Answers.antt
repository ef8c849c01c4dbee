use Rattle.std.proofs.Common.{◌≡◌, ℕ, ◌*◌, ◌+◌, ◌<◌, ◌≤◌, List, length, Option, Some, slice_get, slice_index_or, refl, sym, subst, arith}
use Rattle.std.proofs.lemmas.Option.{slice_get_read, slice_get-get_or, slice_get_within}
use Rattle.gptp_setup.specs.declared.limits.TheConstants.{MOST_PORTS}
use Rattle.gptp_world.specs.declared.directory.TheConstants.{PORT_SPAN}
use Rattle.gptp_traffic.specs.declared.joined_link.Lane.{Lane}
use Rattle.gptp_world.specs.declared.directory.Ends.{Ends}
use Rattle.gptp_world.specs.Directory.{Join, AreEndPlaces, AreOuts}
use Rattle.gptp_world.proofs.DirectoryLemmas.{ends_length, end_a_at, end_b_at}
use Rattle.gptp_world.proofs.LaneLemmas.{both_entered}
use Rattle.gptp_world.proofs.directory.list_outs.Goals as goal

there : (joins : List Join) (i : ℕ) (join : Join) → i < length joins → join ≡ slice_index_or joins i join
    → slice_get joins i ≡ Some join
there joins i join l e = slice_get_read joins (length joins) i join refl l e

at : (clocks : List ℕ) (joins : List Join) (ends : List Ends) (i : ℕ) → AreEndPlaces clocks joins ends
    → i < length joins
    → slice_get ends i ≡ Some (slice_index_or ends i (record { a = 0; b = 0 }))
at clocks joins ends i h l = slice_get-get_or ends i _ (let e = ends_length clocks joins ends h in omega arith)

in_table : (clocks : List ℕ) (outs : List (Option Lane)) (place port clock : ℕ) → slice_get clocks place ≡ Some clock
    → port ≤ MOST_PORTS → length outs ≡ PORT_SPAN * length clocks → PORT_SPAN * place + port < length outs
in_table clocks outs place port clock h few e = let l = slice_get_within clocks place clock h in omega arith

pub enter-requires-clause-a : goal.enter-requires-clause-a
enter-requires-clause-a c =
    let clocks = c.args.clocks.now in let joins = c.args.joins.now in let ends = c.args.ends.now in
    let i = c.loop-link.link in
    let join = c.index-joins-link.result in
    let here : slice_get joins i ≡ Some join = there joins i join c.loop-link-test.true c.index-joins-link.is in
    in_table clocks c.loop-link.outs.items _ join.a.port join.a.clock
    (end_a_at clocks joins ends i join _ c.requires.ends here
    (at clocks joins ends i c.requires.ends c.loop-link-test.true))
    (c.requires.plan.placed_a i join here).last c.loop-link.invariant.count

pub enter-requires-clause-b : goal.enter-requires-clause-b
enter-requires-clause-b c =
    let clocks = c.args.clocks.now in let joins = c.args.joins.now in let ends = c.args.ends.now in
    let i = c.loop-link.link in
    let join = c.index-joins-link.result in
    let here : slice_get joins i ≡ Some join = there joins i join c.loop-link-test.true c.index-joins-link.is in
    in_table clocks c.loop-link.outs.items _ join.b.port join.b.clock
    (end_b_at clocks joins ends i join _ c.requires.ends here
    (at clocks joins ends i c.requires.ends c.loop-link-test.true))
    (c.requires.plan.placed_b i join here).last c.loop-link.invariant.count

pub loop-link-preserved : goal.loop-link-preserved
loop-link-preserved c =
    let clocks = c.args.clocks.now in let joins = c.args.joins.now in let ends = c.args.ends.now in
    let i = c.loop-link.link in
    let join = c.index-joins-link.result in
    let here : slice_get joins i ≡ Some join = there joins i join c.loop-link-test.true c.index-joins-link.is in
    let e = at clocks joins ends i c.requires.ends c.loop-link-test.true in
    subst (AreOuts (2 * (i + 1)) clocks joins) (sym c.enter.ensures)
    (both_entered i clocks joins c.loop-link.outs.items join _ c.requires.plan c.loop-link.invariant here
    (end_a_at clocks joins ends i join _ c.requires.ends here e)
    (end_b_at clocks joins ends i join _ c.requires.ends here e))
