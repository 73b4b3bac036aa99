-- How the flags that the choosers' definitions find are found, one flag after another.
use Rattle.std.specs.Prelude.{◌≡◌, ℕ, ◌+◌, ◌-◌, ◌<◌, ◌≤◌, min, true, false, List, length, Some, None, Option, MatchOption, slice_index_or, refl}
use Rattle.std.proofs.Math.Path.{sym, ap, ap₂}
use Rattle.std.proofs.Common.{◌∙◌, subst, inl, inr, add-one, arith}
use Rattle.std.proofs.lemmas.Bool.{cases_eq, cases_lt, cond-true, cond-false}
use Rattle.std.proofs.lemmas.Iterator.{YieldsList, YieldsList-from_range, YieldsList-from_map, maps}
use Rattle.std.proofs.iter.Yields.{nat_range_steps}
use Rattle.std.proofs.lemmas.Iterator.Consumers.{YieldsList-at, YieldsList-turn, YieldsList-end}
use Rattle.std.proofs.lemmas.List.{map-id}
use Rattle.std.proofs.lemmas.List.FromFn.{length-range_with_len, get_or-range_with_len}
use Rattle.std.specs.Fn.{Called}
use Rattle.std.specs.Iterator.{Yields}
use Rattle.std.specs.Iterator.Adapters.{map_source, map_callee}
use Rattle.std.specs.List.{range_with_len, AllWithin, HoldsAt}
use Rattle.std.specs.declared.ops.Range.{Range}
use Rattle.std.specs.declared.iter.Map.{Map}
use denote.Param.Members.{Mut}
use Rattle.model.specs.Boxes.{Box}
use Rattle.model.specs.declared.domain.Domain.TheVariants.{Open}
use Rattle.choosers.specs.Choices.{is_open, lowest, better, highest}
use Rattle.choosers.specs.Flags.{FlagsBelow}
use Rattle.choosers.specs.Found.{open_is, is_not, NoneBelow, Low, low}

-- the first n of the flags
module _ (n m : ℕ) where
  abbrev pub front : List ℕ
  front = range_with_len 0 (min n m)

  length-front : length front ≡ min n m
  length-front = length-range_with_len 0 (min n m)

  at-front : (k d : ℕ) → k < min n m → slice_index_or front k d ≡ k
  at-front k d h = get_or-range_with_len 0 (min n m) k d (omega arith) ∙ omega arith

  -- the flags below n, each as a byte, are the first n of 256 numbers
  pub yields_flags : {F : Type 0} {g : Mut F (ℕ × Unit {0}) ℕ} {flags : Map (Range ℕ) F} {range : Range ℕ} {f : F} → m ≡ 256 → FlagsBelow n range → map_source flags ≡ range → map_callee flags ≡ f → ((x r : ℕ) (q : F) → Called g f (x, tt) r q → (q ≡ f) × (r ≡ x)) → YieldsList (maps nat_range_steps g) (λ r. r) flags front
  yields_flags {g = g} {flags = flags} {range = range} is_256 h source callee same =
      let long : range.end - range.start ≡ min n m = let x = h.first in let y = h.end in omega arith in
      subst (YieldsList (maps nat_range_steps g) (λ r. r) flags) (map-id (range_with_len range.start (range.end - range.start)) ∙ ap₂ range_with_len h.first long)
      (YieldsList-from_map g (λ x. x) (YieldsList-from_range range.start range.end _ source refl) callee same)

  -- in a `for` over them which flag comes next, and how many came in all
  module _ {F : Type 0} {g : Mut F (ℕ × Unit {0}) ℕ} {flags made : Map (Range ℕ) F} {range : Range ℕ} {f : F} (xs : List ℕ) (t : Map (Range ℕ) F) (y : Yields (maps nat_range_steps g) flags xs t) (is : flags ≡ made) (is_256 : m ≡ 256) (h : FlagsBelow n range) (source : map_source made ≡ range) (callee : map_callee made ≡ f) (same : (x r : ℕ) (q : F) → Called g f (x, tt) r q → (q ≡ f) × (r ≡ x)) where
    pub next_flag : (r : Option ℕ) (u : Map (Range ℕ) F) (x : ℕ) → r ≡ Some x → maps nat_range_steps g t r u → x ≡ length xs
    next_flag r u x e step =
        let turn = YieldsList-turn (YieldsList-at is (yields_flags is_256 h source callee same)) xs t y r u x e step in
        let l = length-front in
        turn.1 ∙ at-front (length xs) x (omega (arith, turn.0))

    pub all_flags : (r : Option ℕ) (u : Map (Range ℕ) F) → r ≡ None → maps nat_range_steps g t r u → length xs ≡ min n m
    all_flags r u e step = (YieldsList-end (YieldsList-at is (yields_flags is_256 h source callee same)) xs t y r u e step).1 ∙ length-front

module _ (b : Box) where
  -- a flag below n that is open, and below which none is, is the lowest
  low_is : (n f : ℕ) (r : Option ℕ) → Low b n r → f < n → b f ≡ Open → NoneBelow b f → Some f ≡ r
  low_is n f None h l o p = absurd (h f l o)
  low_is n f (Some g) (k, q, s) l o p =
      let x : (f < g → ⊥) = λ z. s f z o in
      let y : (g < f → ⊥) = λ z. p g z q in
      elim (cases_eq f g) [ inl e ↦ ap Some e | inr d ↦ absurd (elim (cases_lt f g) [ inl z ↦ x z | inr z ↦ y (omega arith) ]) ]

  none_open : (n : ℕ) → ((g : ℕ) → g < n → is_open (b g) ≡ false) → NoneBelow b n
  none_open n h g l = is_not (b g) (h g l)

  pub lowest_is : (n f : ℕ) → f < n → is_open (b f) ≡ true → ((g : ℕ) → g < f → is_open (b g) ≡ false) → Some f ≡ lowest b n
  lowest_is n f l o h = low_is n f (lowest b n) (low b n) l (open_is (b f) o) (none_open f h)

  low_none : (n : ℕ) (r : Option ℕ) → Low b n r → NoneBelow b n → None ≡ r
  low_none n None h p = refl
  low_none n (Some g) (k, q, s) p = absurd (p g k q)

  pub lowest_none : (n : ℕ) → ((g : ℕ) → g < n → is_open (b g) ≡ false) → None ≡ lowest b n
  lowest_none n h = low_none n (lowest b n) (low b n) (none_open n h)

  abbrev pub Open_at : ℕ → Type 0
  Open_at f = is_open (b f) ≡ true

  abbrev pub Shut_at : ℕ → Type 0
  Shut_at f = is_open (b f) ≡ false

  shut_below : (n m i : ℕ) → i ≤ min n m → AllWithin Shut_at (front n m) 0 i → (g : ℕ) → g < i → is_open (b g) ≡ false
  shut_below n m i l h g k = subst Shut_at (at-front n m g 0 (omega arith)) (h g 0 (omega arith) k)

  -- the first of the flags that is open is the lowest
  pub lowest_found : (n m : ℕ) (r : Option ℕ) → MatchOption r (AllWithin Shut_at (front n m) 0 (length (front n m))) (λ x. Open_at x × (i : ℕ) × (i < length (front n m)) × HoldsAt (λ y. y ≡ x) (front n m) i × AllWithin Shut_at (front n m) 0 i) → r ≡ lowest b (min n m)
  lowest_found n m None h =
      let l = length-front n m in
      lowest_none (min n m) (shut_below n m (min n m) (omega arith) (λ k d x y. h k d x (omega arith)))
  lowest_found n m (Some f) (o, i, l, here, none) =
      let e = length-front n m in
      let at : i ≡ f = sym (at-front n m i 0 (omega arith)) ∙ here 0 in
      lowest_is (min n m) f (omega arith) o (λ g k. shut_below n m i (omega arith) none g (omega arith))

  module _ (ranks : List ℕ) where
    -- the best flag after one more turn
    pub highest_with : (n : ℕ) (r : Option ℕ) (f : ℕ) → r ≡ highest ranks b n → is_open (b n) ≡ true → f ≡ better ranks r n → Some f ≡ highest ranks b (n + 1)
    unfolding highest
    highest_with n r f e o i =
        ap Some (i ∙ ap (λ (x : Option ℕ). better ranks x n) e)
        ∙ sym (cond-true (is_open (b n)) _ _ o)
        ∙ ap (highest ranks b) (sym (add-one n))

    pub highest_past : (n : ℕ) (r : Option ℕ) → r ≡ highest ranks b n → is_open (b n) ≡ false → r ≡ highest ranks b (n + 1)
    unfolding highest
    highest_past n r e d = e ∙ sym (cond-false (is_open (b n)) _ _ d) ∙ ap (highest ranks b) (sym (add-one n))
