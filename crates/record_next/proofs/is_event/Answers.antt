-- Each test is one of the definition's.
use Rattle.std.proofs.Common.{◌≡◌, ℕ, ◌≤◌, Bool, true, false, ◌&&◌, ◌||◌, cond, List, get_or, leb, eqb, refl, sym, ap, ◌∙◌, rules, arith}
use Rattle.std.proofs.lemmas.Bool.Decides.{nat_tests}
use Rattle.record.specs.Record.{first_table, second_table, flag_table, number_table, user_table, size_of}
use Rattle.record_next.proofs.is_event.Goals as goal

-- a field is within its most, which is 0 where the event lacks it
within : (x most : ℕ) (has : Bool) → x ≤ most → (has || eqb x 0) ≡ leb x (cond has most 0)
within x most true h = grind (arith, nat_tests)
within x most false h = grind (arith, nat_tests)

allowed : (n k x y most : ℕ) (has b : Bool) (table : List ℕ) → n ≡ k → get_or table k 0 ≡ cond has most 0 → b ≡ (has || eqb y 0) → y ≡ x → x ≤ most → b ≡ leb x (get_or table n 0)
allowed n k x y most has b table en et eb ey h =
    eb ∙ ap (λ (z : ℕ). has || eqb z 0) ey ∙ within x most has h ∙ ap (leb x) (sym et ∙ ap (λ (j : ℕ). get_or table j 0) (sym en))

-- all tests, however they are joined
grouped : (a b c : Bool) → (a && b) && c ≡ a && (b && c)
grouped true b c = refl
grouped false b c = refl

pub returns : goal.returns
returns c =
    let r = c.args.r in
    let h = c.in-Some.ensures in
    let n = h.number in
    let a1 = allowed r.kind _ r.first _ 255 _ _ first_table n c.has_first_list.ensures c.is_allowed.ensures c.from.ensures (search rules) in
    let a2 = allowed r.kind _ r.second _ 255 _ _ second_table n c.has_second_list.ensures c.is_allowed-2.ensures c.from-2.ensures (search rules) in
    let a3 = allowed r.kind _ r.flags _ 255 _ _ flag_table n c.has_flags.ensures c.is_allowed-3.ensures c.from-3.ensures (search rules) in
    let a4 = allowed r.kind _ r.number _ 0xffff_ffff _ _ number_table n c.has_number.ensures c.is_allowed-4.ensures refl (search rules) in
    let a5 = allowed r.kind _ r.uid _ 0xffff_ffff _ _ user_table n c.has_users.ensures c.is_allowed-5.ensures refl (search rules) in
    let a6 = allowed r.kind _ r.gid _ 0xffff_ffff _ _ user_table n c.has_users-2.ensures c.is_allowed-6.ensures refl (search rules) in
    let is_kind : (leb 1 r.kind ≡ true) × (leb r.kind 21 ≡ true) = grind (arith, nat_tests) in
    let size : leb c.size.result c.args.left ≡ leb (size_of r) c.args.left = cc in
    simp grouped (λ i. sym is_kind.0 i && (sym is_kind.1 i && (a1 i && (a2 i && (a3 i && (a4 i && (a5 i && (a6 i && size i))))))))
