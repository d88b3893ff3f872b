-- What is left to spend, and to walk, is told of one more event.
use Rattle.std.proofs.Common.{Option, List, unwrap_or, ◌≡◌, ◌<◌, ◌≤◌, ◌+◌, ℕ, length, drop, sym, ap, ◌∙◌, arith, rules}
use Rattle.word_put.proofs.Stores.{part_is}
use Rattle.record.specs.Record.{record_of, next_of}
use Rattle.run_room.specs.Room.{room_of}
use Rattle.run_room.proofs.Rooms.{place_on, spent_start, spent_ends, spent_on, left_on, end_at, walked}
use Rattle.run_room.proofs.walk.Goals as goal

pub loop-size-init : goal.loop-size-init
loop-size-init c = record { in_range = omega arith; spent = spent_start c.args.events.now c.args.most c.checked_sub-left.result c.checked_sub-left.ensures; same_end = search rules }

pub overflow_add-at : goal.overflow_add-at
overflow_add-at c =
    let es : c.in-Some.size ≡ next_of (drop c.loop-size.at c.args.events.now) = c.in-Some.ensures.value ∙ ap next_of (part_is c.args.events.now c.loop-size.at) in
    let there : c.loop-size.at + c.in-Some.size ≤ length c.args.events.now = place_on c.args.events.now c.loop-size.at c.in-Some.size es c.loop-size.invariant.in_range in
    search rules

pub loop-size-preserved : goal.loop-size-preserved
loop-size-preserved c =
    let bs = c.args.events.now in
    let l = c.loop-size in
    let size = c.in-Some.size in
    let part = part_is bs l.at in
    let es : size ≡ next_of (drop l.at bs) = c.in-Some.ensures.value ∙ ap next_of part in
    let ek : c.room_at-needed.result ≡ room_of (record_of (drop l.at bs)) = c.room_at-needed.ensures.value ∙ ap (λ (xs : List ℕ). room_of (record_of xs)) part in
    let more : 0 < size = c.in-Some.ensures.some in
    record {
      in_range = place_on bs l.at size es l.invariant.in_range;
      spent = spent_on bs c.args.most l.at c.room_at-needed.result size es more ek l.left c.spend-left.result l.invariant.spent c.spend-left.ensures;
      same_end = left_on bs l.at size l.invariant.same_end es (λ z. omega (arith, z, more));
    }

pub returns : goal.returns
returns c =
    let bs = c.args.events.now in
    let l = c.loop-size in
    let es : 0 ≡ next_of (drop l.at bs) = sym (ap (λ (o : Option ℕ). unwrap_or o 0) c.in_default.is) ∙ c.next.ensures.value ∙ ap next_of (part_is bs l.at) in
    walked bs c.args.most l.at _ (c.is_some.ensures ∙ spent_ends bs c.args.most l.left l.at l.invariant.spent (sym es)) (end_at bs l.at l.invariant.in_range l.invariant.same_end (sym es))
