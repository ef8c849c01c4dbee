use Rattle.std.proofs.Common.{◌≡◌, ◌+◌, ◌-◌, ◌*◌, ◌∙◌, ◌++◌, List, ℕ, ap, arith, drop, get_or, take}
use Rattle.std.proofs.lemmas.List.{take_all, drop_all, append-nil, get_or_read}
use Rattle.byteorder.specs.Endian.{big_bytes}
use Rattle.gptp_messages.specs.Path.{path_octets}
use Rattle.gptp_messages.proofs.PathLemmas.{written_more}
use Rattle.gptp_messages.proofs.announce.write_clocks.Goals as goal

pub loop-place-preserved : goal.loop-place-preserved
loop-place-preserved c =
    let place = c.loop-place.place in
    let octets = c.loop-place.octets in
    let path = c.args.clocks.now in
    let before = take (8 * place) octets in
    let behind = drop (8 * place) octets in
    let eight : 8 * place + 8 - 8 * place ≡ 8 = omega arith in
    let here : c.index-clocks-place.result ≡ get_or path place 0 =
    get_or_read path place c.index-clocks-place.result c.loop-place-test.true c.index-clocks-place.is 0 in
    let clock : c.copy_from_slice.new.self ≡ big_bytes 8 (get_or path place 0) =
    c.copy_from_slice.ensures.after ∙ c.octets.ensures ∙ ap (big_bytes 8) here in
    ap (λ (n : ℕ). before ++ (c.copy_from_slice.new.self ++ drop n behind)) eight
    ∙ ap (λ (x : List ℕ). before ++ (x ++ drop 8 behind)) clock
    ∙ written_more path c.args.octets.now octets place c.loop-place-test.true c.loop-place.invariant

pub returns : goal.returns
returns c =
    let all = take_all c.loop-place.place c.args.clocks.now c.loop-place-test.false in
    let none =
    drop_all (8 * c.loop-place.place) c.args.octets.now (omega (arith, c.requires, c.loop-place-test.false)) in
    c.loop-place.invariant ∙ ap (λ (x : List ℕ). path_octets x ++ drop (8 * c.loop-place.place) c.args.octets.now) all
    ∙ ap (λ (x : List ℕ). path_octets c.args.clocks.now ++ x) none ∙ append-nil (path_octets c.args.clocks.now)
