-- What the calls of a store of lists do to what it means.
use Rattle.std.proofs.Common.{◌≡◌, ℕ, zero, suc, ◌-◌, ◌<◌, ◌≤◌, true, cond, eqb, List, [], ◌∷◌, ◌++◌, length, get_or, drop, is_ok, Some, None, Ok, Err, vec_items, vec_len, vec_capacity, Option, Result, sym, refl, ap, ◌∙◌, subst, ap₂, arith, Bor, MatchOption}
use Rattle.std.proofs.lemmas.List.{drop_all, drop-append-le}
use Rattle.std.proofs.lemmas.Slice.{between_to_end}
use Rattle.std.proofs.lemmas.Bool.{cond-false, ne_eqb}
use Rattle.std.specs.List.{between}
use Rattle.ragged.specs.Lists.{lists_of, open_of, list_room, item_room, item_count, Roomy, Pushed, Closed}
use Rattle.ragged.specs.Parts.{parts, last_end, begins, ascends}
use Rattle.ragged.specs.declared.store.Lists.{Lists}
use Rattle.ragged.proofs.Cuts.{last_low, ascends_push, parts_more, parts_push, length-parts, parts_total, part_at, part_within, last_push}

module _ {T : Type 0} where
  -- the ends rise up to the number of items
  rises : (s : Lists T) → ascends 0 (vec_items s.ends) (length (vec_items s.items)) ≡ true
  rises s = subst (λ n. ascends 0 (vec_items s.ends) n ≡ true) s.items.ok.0 s.ordered

  pub made_empty : (s : Lists T) (lists items : ℕ) → vec_items s.ends ≡ [] → vec_items s.items ≡ [] → lists ≤ vec_capacity s.ends → items ≤ vec_capacity s.items → Roomy lists items s
  unfolding lists_of open_of list_room item_room
  made_empty s lists items e i l m = record {
    none = ap (λ ends. parts 0 ends (vec_items s.items)) e;
    nothing_open = ap (λ ends. drop (last_end 0 ends) (vec_items s.items)) e ∙ i;
    list_memory = l;
    item_memory = m;
  }

  pub count_all : (s : Lists T) → vec_len s.items ≡ item_count s
  unfolding lists_of open_of
  count_all s = s.items.ok.0 ∙ sym (let e = parts_total 0 (vec_items s.ends) (vec_items s.items) (rises s) in omega arith)

  pub count_lists : (s : Lists T) → vec_len s.ends ≡ length (lists_of s)
  unfolding lists_of
  count_lists s = s.ends.ok.0 ∙ sym (length-parts 0 (vec_items s.ends) (vec_items s.items))

  pub pushed : {E : Type 0} (item : T) (before after : Lists T) (answer : Result (Unit {0}) E)
      → after.ends ≡ before.ends → vec_items after.items ≡ cond (is_ok answer) (vec_items before.items ++ item ∷ []) (vec_items before.items)
      → vec_capacity before.items ≤ vec_capacity after.items → (vec_len before.items < vec_capacity before.items → is_ok answer ≡ true) → Pushed item before after answer
  unfolding lists_of open_of list_room item_room
  pushed item before after (Ok x) e i m h = record {
    lists = ap (λ v. parts 0 (vec_items v) (vec_items after.items)) e ∙ ap (parts 0 (vec_items before.ends)) i ∙ parts_more 0 (vec_items before.ends) (vec_items before.items) (item ∷ []) (rises before);
    last =
        ap (λ v. drop (last_end 0 (vec_items v)) (vec_items after.items)) e ∙ ap (drop (last_end 0 (vec_items before.ends))) i
        ∙ drop-append-le (last_end 0 (vec_items before.ends)) (vec_items before.items) (item ∷ []) (last_low 0 (length (vec_items before.items)) (vec_items before.ends) (rises before));
    room = record { list_memory = let c : vec_capacity after.ends ≡ vec_capacity before.ends = ap vec_capacity e in omega arith; item_memory = m };
    fits = λ l. refl;
  }
  pushed item before after (Err x) e i m h = record {
    lists = ap (λ v. parts 0 (vec_items v) (vec_items after.items)) e ∙ ap (parts 0 (vec_items before.ends)) i;
    last = ap (λ v. drop (last_end 0 (vec_items v)) (vec_items after.items)) e ∙ ap (drop (last_end 0 (vec_items before.ends))) i;
    room = record { list_memory = let c : vec_capacity after.ends ≡ vec_capacity before.ends = ap vec_capacity e in omega arith; item_memory = m };
    fits = λ l. h (let c = count_all before in omega arith);
  }

  -- where a list was closed its end is the number of items
  pub ends_closed : {E : Type 0} (before : Lists T) (ends : List ℕ) (size : ℕ) (answer : Result (Unit {0}) E) → size ≡ vec_len before.items
      → ends ≡ cond (is_ok answer) (vec_items before.ends ++ size ∷ []) (vec_items before.ends) → ascends 0 ends (vec_len before.items) ≡ true
  ends_closed before ends size (Ok x) n e =
      subst (λ es. ascends 0 es (vec_len before.items) ≡ true) (sym (e ∙ ap (λ m. vec_items before.ends ++ m ∷ []) n)) (ascends_push 0 (vec_len before.items) (vec_items before.ends) before.ordered)
  ends_closed before ends size (Err x) n e = subst (λ es. ascends 0 es (vec_len before.items) ≡ true) (sym e) before.ordered

  pub closed : {E : Type 0} (before after : Lists T) (size : ℕ) (answer : Result (Unit {0}) E)
      → after.items ≡ before.items → vec_items after.ends ≡ cond (is_ok answer) (vec_items before.ends ++ size ∷ []) (vec_items before.ends) → size ≡ vec_len before.items
      → vec_capacity before.ends ≤ vec_capacity after.ends → (vec_len before.ends < vec_capacity before.ends → is_ok answer ≡ true) → Closed before after answer
  unfolding lists_of open_of list_room item_room
  closed before after size (Ok x) i e n m h =
      let few : length (vec_items before.items) ≤ size = let o = before.items.ok.0 in omega arith in
      record {
        lists =
            ap (λ v. parts 0 (vec_items after.ends) (vec_items v)) i ∙ ap (λ ends. parts 0 ends (vec_items before.items)) e
            ∙ parts_push 0 (vec_items before.ends) size (vec_items before.items)
            ∙ ap (λ xs. parts 0 (vec_items before.ends) (vec_items before.items) ++ xs ∷ []) (between_to_end (vec_items before.items) (last_end 0 (vec_items before.ends)) size few);
        opened =
            ap (λ v. drop (last_end 0 (vec_items after.ends)) (vec_items v)) i ∙ ap (λ ends. drop (last_end 0 ends) (vec_items before.items)) e
            ∙ ap (λ n. drop n (vec_items before.items)) (last_push 0 size (vec_items before.ends)) ∙ drop_all size (vec_items before.items) few;
        room = record { list_memory = m; item_memory = let c : vec_capacity after.items ≡ vec_capacity before.items = ap vec_capacity i in omega arith };
        fits = λ l. refl;
      }
  closed before after size (Err x) i e n m h = record {
    lists = ap (λ v. parts 0 (vec_items after.ends) (vec_items v)) i ∙ ap (λ ends. parts 0 ends (vec_items before.items)) e;
    opened = ap (λ v. drop (last_end 0 (vec_items after.ends)) (vec_items v)) i ∙ ap (λ ends. drop (last_end 0 ends) (vec_items before.items)) e;
    room = record { list_memory = m; item_memory = let c : vec_capacity after.items ≡ vec_capacity before.items = ap vec_capacity i in omega arith };
    fits = λ l. h (let c = count_lists before in omega arith);
  }

-- where a part begins, read off the ends with the start before them
begins_at : (ends : List ℕ) (k : ℕ) → begins ends k ≡ get_or (0 ∷ ends) k 0
begins_at ends zero = refl
begins_at ends (suc k) = cond-false (eqb (suc k) 0) 0 (get_or ends (suc k - 1) 0) (ne_eqb (suc k) 0 (λ e. omega arith)) ∙ (let e : suc k - 1 ≡ k = omega arith in ap (λ j. get_or ends j 0) e)

module _ {T : Type 0} (s : Lists T) (k : ℕ) where
  -- a list that is there lies within the store; the ends and the items may be at hand under other names
  pub list_got : (start end : ℕ) (r : Option (Bor (List T))) (ends others : List ℕ) (items : List T) → ends ≡ vec_items s.ends → others ≡ vec_items s.ends → items ≡ vec_items s.items
      → k < length ends → start ≡ begins others k → end ≡ get_or ends k 0
      → MatchOption r (start ≤ end → end ≤ length items → ⊥) (λ p. p.now ≡ between start end items)
      → MatchOption r (length (lists_of s) ≤ k) (λ p. (k < length (lists_of s)) × (p.now ≡ get_or (lists_of s) k []))
  unfolding lists_of
  list_got start end None ends others items u v w l b e h =
      let there : k < length (vec_items s.ends) = subst (λ xs. k < length xs) u l in
      let f : start ≡ begins (vec_items s.ends) k = subst (λ xs. start ≡ begins xs k) v b in
      let q = begins_at (vec_items s.ends) k in
      let n : end ≡ get_or (vec_items s.ends) k 0 = subst (λ xs. end ≡ get_or xs k 0) u e in
      let z = part_within 0 (length (vec_items s.items)) (vec_items s.ends) k (rises s) there in
      absurd (h (omega (arith, z.0)) (subst (λ xs. end ≤ length xs) (sym w) (omega (arith, z.1))))
  list_got start end (Some p) ends others items u v w l b e h =
      let there : k < length (vec_items s.ends) = subst (λ xs. k < length xs) u l in
      let f : start ≡ begins (vec_items s.ends) k = subst (λ xs. start ≡ begins xs k) v b in
      let n : end ≡ get_or (vec_items s.ends) k 0 = subst (λ xs. end ≡ get_or xs k 0) u e in (
        (let c = length-parts 0 (vec_items s.ends) (vec_items s.items) in omega arith),
        h ∙ ap (between start end) w ∙ ap₂ (λ i j. between i j (vec_items s.items)) (f ∙ begins_at (vec_items s.ends) k) n ∙ sym (part_at 0 (vec_items s.ends) (vec_items s.items) k there),
      )

  pub list_past : length (vec_items s.ends) ≤ k → length (lists_of s) ≤ k
  unfolding lists_of
  list_past l = let c = length-parts 0 (vec_items s.ends) (vec_items s.items) in omega arith
