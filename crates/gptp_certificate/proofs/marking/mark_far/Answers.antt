use Rattle.std.proofs.Common.{◌≡◌, ◌≤◌, ℕ, List, length, refl, sym, ap, subst, ◌∙◌, arith}
use Rattle.std.proofs.lemmas.List.{length-map}
use Rattle.gptp_graph.specs.Labelling.{SystemLine, line_clocks}
use Rattle.gptp_graph.specs.Order.{IsRising}
use Rattle.gptp_lists.specs.Members.{In}
use Rattle.gptp_certificate_text.specs.Certificate.{line_of, lines_of}
use Rattle.gptp_certificate_text.specs.declared.certificate.SystemLine.{SystemLine as Line}
use Rattle.gptp_invariants.specs.WorldStanding.{snapshot_of}
use Rattle.gptp_invariants.proofs.WorldStandsLemmas.{stands_well}
use Rattle.gptp_certificate.specs.Marking.{LinesAreMarked, ArePairs, AreStarts, line_roots}
use Rattle.gptp_certificate.specs.Rounds.{AreLeast, value}
use Rattle.gptp_certificate.proofs.MarkedLemmas.{marked_states, pairs_within, said_all, starts_few}
use Rattle.gptp_certificate.proofs.marking.mark_far.Goals as goal

-- what is borrowed as a slice is what stands in the list
abbrev long : List Line → ℕ
long lines = length lines

-- the roots of lines are as many as they
roots_long : (lines : List Line) → length (line_roots (lines_of lines)) ≡ length lines
roots_long lines = length-map (lines_of lines) (λ (l : SystemLine). l.root) ∙ length-map lines line_of

pub list_pairs-requires-clause-rising : goal.list_pairs-requires-clause-rising
list_pairs-requires-clause-rising g c =
    let own = lines_of c.args.lines.now.items in
    let known : c.deref-2.result.now ≡ line_clocks own =
    c.deref-2.ensures.value
    ∙ (c.in_ok-clocks.ensures ∙ ap (λ (ls : List Line). line_clocks (lines_of ls)) c.deref.ensures.value) in
    subst IsRising (sym known) c.requires.rising

pub list_pairs-requires-clause-all : goal.list_pairs-requires-clause-all
list_pairs-requires-clause-all g c = λ v member.
    let own = lines_of c.args.lines.now.items in
    let known : c.deref-2.result.now ≡ line_clocks own =
    c.deref-2.ensures.value
    ∙ (c.in_ok-clocks.ensures ∙ ap (λ (ls : List Line). line_clocks (lines_of ls)) c.deref.ensures.value) in
    subst (In v) (sym known) (said_all c.args.world.now.world_core own c.requires v member)

pub lowest_roots-requires : goal.lowest_roots-requires
lowest_roots-requires g c =
    let w = c.args.world.now.world_core in let lines = c.args.lines.now.items in let own = lines_of lines in
    let pairs = c.in_ok-pairs.pairs.items in
    let known : c.deref-2.result.now ≡ line_clocks own =
    c.deref-2.ensures.value
    ∙ (c.in_ok-clocks.ensures ∙ ap (λ (ls : List Line). line_clocks (lines_of ls)) c.deref.ensures.value) in
    let are = subst (λ cs. ArePairs cs (snapshot_of w).links pairs) known c.in_ok-pairs.ensures in
    pairs_within (snapshot_of w) own pairs c.deref-4.result.now (length c.deref-3.result.now) c.requires.rising are
    (length-map lines line_of ∙ sym (ap long c.deref-3.ensures.value)) (sym c.deref-4.ensures.value)

pub list_starts-requires : goal.list_starts-requires
list_starts-requires g c =
    ap (λ (xs : List ℕ). length xs) c.deref-6.ensures.value
    ∙ (c.in_ok-lowest.ensures.came.long
    ∙ (roots_long c.deref-3.result.now
    ∙ (ap long c.deref-3.ensures.value ∙ sym (ap long c.deref-5.ensures.value))))

pub settle_numbers-requires : goal.settle_numbers-requires
settle_numbers-requires g c =
    let w = c.args.world.now.world_core in let lines = c.args.lines.now.items in let own = lines_of lines in
    let pairs = c.in_ok-pairs.pairs.items in
    let known : c.deref-2.result.now ≡ line_clocks own =
    c.deref-2.ensures.value
    ∙ (c.in_ok-clocks.ensures ∙ ap (λ (ls : List Line). line_clocks (lines_of ls)) c.deref.ensures.value) in
    let are = subst (λ cs. ArePairs cs (snapshot_of w).links pairs) known c.in_ok-pairs.ensures in
    pairs_within (snapshot_of w) own pairs c.deref-7.result.now (length c.in_ok-links.links.items) c.requires.rising are
    (length-map lines line_of ∙ sym (c.in_ok-links.ensures.long
    ∙ (length-map c.deref-5.result.now line_of ∙ ap long c.deref-5.ensures.value))) (sym c.deref-7.ensures.value)

pub mark_each-requires-clause-lowest : goal.mark_each-requires-clause-lowest
mark_each-requires-clause-lowest g c =
    ap (λ (xs : List ℕ). length xs) c.deref-8.ensures.value
    ∙ (c.in_ok-lowest.ensures.came.long
    ∙ (roots_long c.deref-3.result.now ∙ ap long c.deref-3.ensures.value))

pub mark_each-requires-clause-links : goal.mark_each-requires-clause-links
mark_each-requires-clause-links g c =
    ap (λ (xs : List ℕ). length xs) c.deref-9.ensures.value
    ∙ (c.settle_numbers.ensures.came.long
    ∙ (c.in_ok-links.ensures.long
    ∙ (length-map c.deref-5.result.now line_of ∙ ap long c.deref-5.ensures.value)))

pub mark_each-requires-clause-few : goal.mark_each-requires-clause-few
mark_each-requires-clause-few g c = λ i.
    let most = c.settle_numbers.ensures.all i i 0 (omega arith) refl in
    let first = starts_few c.deref-6.result.now (lines_of c.deref-5.result.now) c.in_ok-links.links.items
    c.in_ok-links.ensures i in
    subst (λ xs. value xs i ≤ 65281) (sym c.deref-9.ensures.value) (omega arith)

pub returns : goal.returns
returns g c =
    let w = c.args.world.now.world_core in let lines = c.args.lines.now.items in let own = lines_of lines in
    let pairs = c.in_ok-pairs.pairs.items in
    let known : c.deref-2.result.now ≡ line_clocks own =
    c.deref-2.ensures.value
    ∙ (c.in_ok-clocks.ensures ∙ ap (λ (ls : List Line). line_clocks (lines_of ls)) c.deref.ensures.value) in
    let are = subst (λ cs. ArePairs cs (snapshot_of w).links pairs) known c.in_ok-pairs.ensures in
    let lowest = c.in_ok-lowest.lowest.items in let systems = c.count-systems.result in
    let starts = c.in_ok-links.links.items in let numbers = c.settle_numbers.new.values.items in
    let after = lines_of c.mark_each.new.lines.items in
    let world = c.well_formed-2.ensures.claimed.is.world in
    let wf = stands_well w world.sound world.between world.encodable in
    let low : AreLeast 0 pairs systems (line_roots own) lowest =
    subst (λ ps. AreLeast 0 ps systems (line_roots own) lowest) c.deref-4.ensures.value
    (subst (λ ls. AreLeast 0 c.deref-4.result.now systems (line_roots (lines_of ls)) lowest) c.deref-3.ensures.value
    c.in_ok-lowest.ensures) in
    let begun : AreStarts lowest own starts =
    subst (λ xs. AreStarts xs own starts) c.deref-6.ensures.value
    (subst (λ ls. AreStarts c.deref-6.result.now (lines_of ls) starts) c.deref-5.ensures.value
    c.in_ok-links.ensures) in
    let least : AreLeast 1 pairs systems starts numbers =
    subst (λ ps. AreLeast 1 ps systems starts numbers) c.deref-7.ensures.value c.settle_numbers.ensures in
    let marked : LinesAreMarked (length own) lowest numbers own after =
    subst (λ n. LinesAreMarked n lowest numbers own after) (sym (length-map lines line_of))
    (subst (λ xs. LinesAreMarked (length lines) lowest xs own after) c.deref-9.ensures.value
    (subst (λ xs. LinesAreMarked (length lines) xs c.deref-9.result.now own after) c.deref-8.ensures.value
    c.mark_each.ensures)) in
    marked_states w own c.requires wf pairs are systems c.count-systems.ensures.count c.count-systems.ensures.few lowest
    low starts numbers begun least after marked
