-- The parts, one behind the other.
use Rattle.std.proofs.Common.{◌≡◌, ℕ, List, length, sym, ap, ◌∙◌, rules}
use Rattle.std.proofs.lemmas.List.Edits.{sets}
use Rattle.le.specs.Le.{bytes_of}
use Rattle.layout.specs.Layout.{plain_of}
use Rattle.state_bytes.proofs.Laws.{told, whole, whole_size}
use Rattle.state_bytes.proofs.put_state.Goals as goal

pub returns-clause-out_after : goal.returns-clause-out_after
returns-clause-out_after c =
    let a : length c.all.result ≡ 64 = search rules in
    let b : length c.outside.result ≡ 64 = search rules in
    let h : length c.handles.result ≡ 64 = search rules in
    whole c.args.out.now _ _ _ _ _ c.unread.result c.all.result c.outside.result c.handles.result c.statuses.result a b h c.put8.ensures c.put_words.ensures c.put_words-2.ensures c.put_words-3.ensures c.put_words-4.ensures
    ∙ ap (sets c.args.out.now 0) (told (plain_of c.args.s.now) _ _ _ _ _ c.unread.ensures c.all.ensures c.outside.ensures c.handles.ensures c.statuses.ensures)

pub returns-clause-s_len : goal.returns-clause-s_len
returns-clause-s_len c =
    let o = c.args.out.now in
    let a : length c.all.result ≡ 64 = search rules in
    let b : length c.outside.result ≡ 64 = search rules in
    let h : length c.handles.result ≡ 64 = search rules in
    sym (ap length (told (plain_of c.args.s.now) _ _ _ _ _ c.unread.ensures c.all.ensures c.outside.ensures c.handles.ensures c.statuses.ensures))
    ∙ whole_size o o o o o o c.unread.result c.all.result c.outside.result c.handles.result c.statuses.result a b h (ap (λ (x : List ℕ). length (bytes_of x)) c.statuses.ensures)
