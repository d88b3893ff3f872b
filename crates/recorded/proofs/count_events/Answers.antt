-- One event more, and where there is no more.
use Rattle.std.proofs.Common.{◌≡◌, ◌<◌, ◌≤◌, ◌+◌, ℕ, Option, unwrap_or, length, drop, sym, ap, ◌∙◌, refl, arith, rules}
use Rattle.record.specs.Record.{next_of}
use Rattle.recorded.proofs.Laws.{part_is, place_on, count_on, count_ends}
use Rattle.recorded.proofs.count_events.Goals as goal

pub overflow_add-at : goal.overflow_add-at
overflow_add-at c =
    let ev = c.args.events.now in
    let es : c.in-Some.size ≡ next_of (drop c.loop-size.at ev) = c.in-Some.ensures.value ∙ ap next_of (part_is ev c.loop-size.at) in
    let there : c.loop-size.at + c.in-Some.size ≤ length ev = place_on ev c.loop-size.n c.loop-size.at c.in-Some.size c.loop-size.invariant.at_within es in
    search rules

pub loop-size-preserved : goal.loop-size-preserved
loop-size-preserved c =
    let ev = c.args.events.now in
    let l = c.loop-size in
    let size = c.in-Some.size in
    let es : size ≡ next_of (drop l.at ev) = c.in-Some.ensures.value ∙ ap next_of (part_is ev l.at) in
    let more : 0 < size = c.in-Some.ensures.some in
    record {
      at_within = place_on ev l.n l.at size l.invariant.at_within es;
      n_within = omega (arith, l.invariant.n_within, more);
      counted = count_on ev l.n l.at size l.invariant.at_within es (λ z. omega (arith, z, more)) l.invariant.counted;
    }

pub returns : goal.returns
returns c =
    let ev = c.args.events.now in
    let l = c.loop-size in
    let es : 0 ≡ next_of (drop l.at ev) = sym (ap (λ (o : Option ℕ). unwrap_or o 0) c.in_default.is) ∙ c.next.ensures.value ∙ ap next_of (part_is ev l.at) in
    count_ends ev l.n l.at 0 l.invariant.at_within es refl l.invariant.counted
