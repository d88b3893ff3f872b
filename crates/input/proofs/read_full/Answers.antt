-- What `input::read_full` leaves open: the bytes read so far, after one read more.
use Rattle.std.proofs.Common.{◌≡◌, ℕ, ◌+◌, ◌-◌, ◌≤◌, List, ◌++◌, length, take, sym, ap, ◌∙◌, subst, le_refl, rules}
use Rattle.std.proofs.Math.Seq.{take-append-add}
use Rattle.std.proofs.lemmas.List.{length-take-le, take-append-le}
use Rattle.std.proofs.lemmas.Slice.{take-put_mid_below}
use Rattle.std.proofs.KnownBytes.{Consumes-trans, Consumes-kept}
use Rattle.std.specs.Io.KnownBytes.{Consumes}
use borrow.Rule.Slice.PartMut.{put_mid, post_of}
use Rattle.input.proofs.read_full.Goals as goal
use Rattle.input.proofs.read_full.Goals.{in-Ok+else-n-eq0, in-Err+else-ne}

-- where k places from a on hold ys: those before, and the first n of ys
both_parts : (a k n : ℕ) (xs ys : List ℕ) → a ≤ length xs → n ≤ length ys → take (a + n) (put_mid a k xs ys) ≡ take a xs ++ take n ys
both_parts a k n xs ys within fits =
    ap (λ (m : ℕ). take (m + n) (put_mid a k xs ys)) (sym (length-take-le a xs within))
    ∙ take-append-add (take a xs) (ys ++ post_of a k xs) n
    ∙ ap (λ (l : List ℕ). take a xs ++ l) (take-append-le n ys (post_of a k xs) fits)

pub loop-preserved : goal.loop-preserved
loop-preserved g c =
    let a = c.loop.done in
    let k = length c.loop.into - c.loop.done in
    let xs = c.loop.into in
    let within = c.loop.invariant.room in
    elim c.match-read.branch [
      | in-Ok+else-n-eq0 w ↦
          record {
            room = search rules;
            bytes =
                rw w.done-is
                (subst (Consumes _ _) (sym (both_parts a k w.in-Ok.n xs c.read.new.buf within w.in-Ok.ensures.bound.0))
                (Consumes-trans _ _ _ _ _ c.loop.invariant.bytes w.in-Ok.ensures.bytes.0));
          }
      | in-Err+else-ne w ↦
          record {
            room = search rules;
            bytes =
                rw w.done-is
                (subst (Consumes _ _) (sym (take-put_mid_below a k xs c.read.new.buf a (le_refl a) within))
                (Consumes-kept _ _ _ _ c.loop.invariant.bytes w.in-Err.ensures.bytes));
          }
    ]
