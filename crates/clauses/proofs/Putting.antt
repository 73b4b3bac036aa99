-- A clause put into the store of literals.
use Rattle.std.proofs.Common.{◌≡◌, ℕ, zero, suc, ◌+◌, ◌<◌, ◌≤◌, Bool, true, false, cond, eqb, ltb, leb, List, [], ◌∷◌, ◌++◌, length, get_or, take, Some, None, Ok, Err, Result, sym, refl, ap, ◌∙◌, subst, le_of_suc-le-suc, not-suc-le-zero, arith, MatchResult}
use Rattle.std.proofs.lemmas.List.{length-append, length_push, length-take-le, nil_from_length}
use Rattle.std.proofs.lemmas.Bool.{and_from, and_parts, leb-false, ltb-false, not_from_false, or_parts}
use Rattle.model.specs.Refusals.{some_large, some_twice}
use Rattle.model.specs.declared.refusal.AddRefusal.{AddRefusal}
use Rattle.model.specs.declared.refusal.AddRefusal.TheVariants.{Flag, Twice, Full, NoLiteral}
use Rattle.ragged.specs.Lists.{lists_of, open_of, list_room, item_room, item_count, Roomier}
use Rattle.ragged.specs.Parts.{total_length}
use Rattle.ragged.specs.declared.store.Lists.{Lists}
use Rattle.clauses.specs.Literals.{flags_of}
use Rattle.clauses.specs.Refusals.{is_full, refusal, is_sound, all_sound}
use Rattle.clauses.specs.Stores.{Pushes, PushesAll, Puts}
use Rattle.clauses.specs.declared.literal.Literal.{Literal}
use Rattle.clauses.proofs.Looking.{blank}

pub roomier_more : (s t u : Lists (Literal ℕ)) → Roomier s t → Roomier t u → Roomier s u
roomier_more s t u p q = record {
  list_memory = let a = p.list_memory in let b = q.list_memory in omega arith;
  item_memory = let a = p.item_memory in let b = q.item_memory in omega arith;
}

small_at : (ls : List (Literal ℕ)) (i : ℕ) → i < length ls → some_large (flags_of ls) ≡ false → ltb 255 (get_or ls i blank).flag ≡ false
small_at [] i h s = absurd (not-suc-le-zero h)
small_at (l ∷ ls) zero h s = (or_parts (ltb 255 l.flag) (some_large (flags_of ls)) s).0
small_at (l ∷ ls) (suc i) h s = small_at ls i (le_of_suc-le-suc h) (or_parts (ltb 255 l.flag) (some_large (flags_of ls)) s).1

-- pushing the literals, one after another
abbrev pub Pushed : List (Literal ℕ) → ℕ → Lists (Literal ℕ) → Lists (Literal ℕ) → Type 0
Pushed ls i before mid = (lists_of mid ≡ lists_of before) × Roomier before mid × (open_of mid ≡ open_of before ++ take i ls)

-- where one more cannot be pushed, not all can
pub push_refused : (ls : List (Literal ℕ)) (i : ℕ) (before mid after : Lists (Literal ℕ)) → Pushed ls i before mid → i < length ls → (e : AddRefusal) → Pushes (get_or ls i blank) mid after (Err e) → PushesAll ls before after (Err e)
push_refused ls i before mid after inv h e p = record {
  lists = p.lists ∙ inv.0;
  room = roomier_more before mid after inv.1 p.room;
  last = λ small fits. p.last (small_at ls i h small)
      (let a : length (open_of mid) ≡ length (open_of before) + i = ap length inv.2 ∙ length-append (open_of before) (take i ls) ∙ ap (λ n. length (open_of before) + n) (length-take-le i ls (omega arith)) in
      let b : total_length (lists_of mid) ≡ total_length (lists_of before) = ap total_length inv.0 in
      let r : item_room before ≤ item_room mid = inv.1.item_memory in
      omega arith);
}

-- a clause that nothing speaks against
none_parts : (n m : ℕ) (ls : List (Literal ℕ)) → refusal n m ls ≡ None → (eqb (length ls) 0 ≡ false) × (some_large (flags_of ls) ≡ false) × (some_twice (flags_of ls) ≡ false) × (is_full n m (length ls) ≡ false)
none_parts n m ls = four (eqb (length ls) 0) (some_large (flags_of ls)) (some_twice (flags_of ls)) (is_full n m (length ls))
  where
    four : (a b c d : Bool) → cond a (Some NoLiteral) (cond b (Some Flag) (cond c (Some Twice) (cond d (Some Full) None))) ≡ None → (a ≡ false) × (b ≡ false) × (c ≡ false) × (d ≡ false)
    four true b c d q = cc
    four false true c d q = cc
    four false false true d q = cc
    four false false false true q = cc
    four false false false false q = (refl, refl, refl, refl)

total_push : (lss : List (List (Literal ℕ))) (ls : List (Literal ℕ)) → total_length (lss ++ ls ∷ []) ≡ total_length lss + length ls
total_push [] ls = omega arith
total_push (ms ∷ lss) ls = let e = total_push lss ls in omega arith

sound_push : (lss : List (List (Literal ℕ))) (ls : List (Literal ℕ)) → all_sound lss ≡ true → is_sound ls ≡ true → all_sound (lss ++ ls ∷ []) ≡ true
sound_push [] ls s h = and_from (is_sound ls) true h refl
sound_push (ms ∷ lss) ls s h =
    let p = and_parts (is_sound ms) (all_sound lss) s in
    and_from (is_sound ms) (all_sound (lss ++ ls ∷ [])) p.0 (sound_push lss ls p.1 h)

module _ (before after : Lists (Literal ℕ)) (ls : List (Literal ℕ)) (answer : Result (Unit {0}) AddRefusal) (puts : Puts ls before after answer) where
  module _ (n m : ℕ) (lists : n ≡ length (lists_of before)) (literals : m ≡ item_count before) (why : refusal n m ls ≡ None) (closed : length (open_of before) ≡ 0) where
    parts : (eqb (length ls) 0 ≡ false) × (some_large (flags_of ls) ≡ false) × (some_twice (flags_of ls) ≡ false) × (is_full n m (length ls) ≡ false)
    parts = none_parts n m ls why

    one_more : length (lists_of before) < 512
    one_more = let h : n < 512 = leb-false 512 n (or_parts (leb 512 n) (ltb 2048 (m + length ls)) parts.3).0 in omega arith

    more : item_count before + length ls ≤ 2048
    more = let h : m + length ls ≤ 2048 = ltb-false 2048 (m + length ls) (or_parts (leb 512 n) (ltb 2048 (m + length ls)) parts.3).1 in omega arith

    -- there is room for it, so it stands last
    pub stored : 512 ≤ list_room before → 2048 ≤ item_room before → (answer ≡ Ok tt) × (lists_of after ≡ lists_of before ++ ls ∷ []) × (open_of after ≡ [])
    stored a b = go answer puts.last
      where
        go : (r : Result (Unit {0}) AddRefusal) → MatchResult r (λ _. (lists_of after ≡ lists_of before ++ (open_of before ++ ls) ∷ []) × (open_of after ≡ [])) (λ _. some_large (flags_of ls) ≡ false → item_count before + length ls ≤ item_room before → length (lists_of before) < list_room before → ⊥) → (r ≡ Ok tt) × (lists_of after ≡ lists_of before ++ ls ∷ []) × (open_of after ≡ [])
        go (Ok u) h = (refl, h.0 ∙ ap (λ xs. lists_of before ++ (xs ++ ls) ∷ []) (nil_from_length (open_of before) closed), h.1)
        go (Err e) h = absurd (h parts.1 (let x = more in omega arith) (let x = one_more in omega arith))

    -- and the book holds no more than it may, in a store as large as before
    pub held : total_length (lists_of before) ≤ 2048 → 512 ≤ list_room before → 2048 ≤ item_room before → all_sound (lists_of before) ≡ true → (length (lists_of after) ≤ 512) × (total_length (lists_of after) ≤ 2048) × (length (open_of after) ≡ 0) × (512 ≤ list_room after) × (2048 ≤ item_room after) × (all_sound (lists_of after) ≡ true)
    held short a b sound =
        let s = stored a b in
        let e = s.1 in (
          let x = one_more in let y = ap length e ∙ length_push (lists_of before) ls in omega arith,
          let x = more in let y = ap total_length e ∙ total_push (lists_of before) ls in omega arith,
          ap length s.2,
          let x = puts.room.list_memory in omega arith,
          let x = puts.room.item_memory in omega arith,
          subst (λ lss. all_sound lss ≡ true) (sym e) (sound_push (lists_of before) ls sound (and_from _ _ (not_from_false _ parts.0) (and_from _ _ (not_from_false _ parts.1) (not_from_false _ parts.2)))),
        )
