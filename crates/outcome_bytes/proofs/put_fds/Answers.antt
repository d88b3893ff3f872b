-- One description more is stored.
use Rattle.std.proofs.Common.{◌≡◌, ◌<◌, ◌+◌, ◌*◌, ℕ, suc, List, length, get_or, drop, ap, sym, ◌∙◌, arith}
use Rattle.std.proofs.lemmas.List.{at_drop_more}
use Rattle.std.proofs.lemmas.List.Edits.{sets}
use Rattle.le.specs.Le.{bytes8, bytes_of}
use Rattle.fd_list.specs.Lists.{desc, num, named, numbers}
use lib.ListN.{get_or-map}
use Rattle.outcome_bytes.proofs.put_fds.Goals as goal

stored : (out new ns : List ℕ) (at i n : ℕ) → i < length ns → n ≡ get_or ns i 0 → new ≡ sets out (at + 8 * i) (bytes8 n)
    → sets new (at + 8 * (i + 1)) (bytes_of (drop (i + 1) ns)) ≡ sets out (at + 8 * i) (bytes_of (drop i ns))
stored out new ns at i n h en e =
    ap (λ (l : List ℕ). sets l (at + 8 * (i + 1)) (bytes_of (drop (i + 1) ns))) (e ∙ ap (λ (x : ℕ). sets out (at + 8 * i) (bytes8 x)) en)
    ∙ ap (λ (k : ℕ). sets (sets out (at + 8 * i) (bytes8 (get_or ns i 0))) k (bytes_of (drop (i + 1) ns))) next
    ∙ sym (at_drop_more (λ (l : List ℕ). sets out (at + 8 * i) (bytes_of l)) ns i 0 h)
  where
    next : at + 8 * (i + 1) ≡ suc (suc (suc (suc (suc (suc (suc (suc (at + 8 * i))))))))
    next = omega arith

pub loop-i-preserved : goal.loop-i-preserved
loop-i-preserved c =
    let l = c.args.l in
    let i = c.loop-i.i in
    let n = c.from.ensures ∙ ap num c.pick.ensures ∙ sym (get_or-map num (named l) i (desc 0)) in
    stored c.loop-i.out c.put8.new.out (numbers l) c.args.at i _ (omega arith) n c.put8.ensures ∙ c.loop-i.invariant
